use Rattle.std.proofs.Common.{◌≡◌, ◌++◌, drop}
use Rattle.std.specs.Prelude.{slice_get}
use Rattle.html_tokens.specs.Runs.{plain_tokens}
use Rattle.html_token_list.specs.Pieces.{all_tokens}
use Rattle.html_token_list.proofs.finding.token_at.Given as goal

-- what is left of the tokens has the token at what is left of the number
abbrev pub invariant-searching : goal.invariant-searching
invariant-searching l =
    slice_get (all_tokens (drop l.piece-index l.pieces) ++ plain_tokens l.last.start l.last.text) l.left ≡ slice_get (all_tokens l.pieces ++ plain_tokens l.last.start l.last.text) l.index

use Rattle.std.proofs.Common.{◌≡◌, ◌++◌, [], length, ap, arith}
use Rattle.std.specs.Str.{chars}
use Rattle.std.proofs.lemmas.Str.{chars-nil}
use Rattle.html_tokens.specs.Runs.{plain_tokens}
use Rattle.html_token_list.specs.Pieces.{all_tokens}
use Rattle.html_token_list.proofs.iter.Iter.over.Goals as goal

pub invariant_of-result : goal.invariant_of-result
invariant_of-result c = let none : length (chars []) ≡ 0 = ap length chars-nil in (omega arith, c.requires.whole, c.requires.counted)

pub returns : goal.returns
returns c = record { value = ap (λ cs. plain_tokens 0 cs ++ (all_tokens c.args.pieces.now ++ plain_tokens c.args.last.now.start c.args.last.now.text)) chars-nil }

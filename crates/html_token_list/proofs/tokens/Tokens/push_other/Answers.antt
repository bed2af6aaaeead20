use Rattle.std.proofs.Common.{◌++◌, ◌∷◌, [], List, ap, ◌∙◌}
use Rattle.html_tokens.specs.Runs.{plain_tokens}
use Rattle.html_tokens.specs.declared.token.Token.{Token}
use Rattle.html_token_list.specs.Pieces.{all_tokens}
use Rattle.html_token_list.proofs.Pieced.{other-added, count-added, AreWhole-other}
use Rattle.html_token_list.proofs.tokens.Tokens.push_other.Goals as goal

pub invariant_of-self-2 : goal.invariant_of-self-2
invariant_of-self-2 c =
    let old : List Token = all_tokens c.self.inside.pieces.items ++ plain_tokens c.self.inside.last.start c.self.inside.last.text in
    let new : List Token = all_tokens c.push.new.self.items ++ plain_tokens c.close.new.last.start c.close.new.last.text in (
      c.close.ensures.counted,
      c.in-Some.ensures.1 ∙ count-added old new c.args.token c.self.inside.len
          (other-added c.close.new.pieces.items c.push.new.self.items c.args.token c.close.new.last.start c.close.new.last.text old c.in_ok-close.ensures.same c.in_ok-push.ensures.items c.in_ok-close.ensures.empty)
          c.self.invariant.1,
      AreWhole-other c.close.new.pieces.items c.push.new.self.items c.args.token c.in_ok-close.ensures.whole c.in_ok-push.ensures.items,
    )

pub returns-clause-added : goal.returns-clause-added
returns-clause-added c =
    let old : List Token = all_tokens c.self.inside.pieces.items ++ plain_tokens c.self.inside.last.start c.self.inside.last.text in
    other-added c.close.new.pieces.items c.push.new.self.items c.args.token c.close.new.last.start c.close.new.last.text old c.in_ok-close.ensures.same c.in_ok-push.ensures.items c.in_ok-close.ensures.empty
    ∙ ap (λ (ts : List Token). ts ++ c.args.token ∷ []) c.self.view_is

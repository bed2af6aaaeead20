use Rattle.std.proofs.Common.{◌≡◌, ◌<◌, ◌^◌, ◌+◌, ◌++◌, List, length, length-append, ap, subst, ◌∙◌, arith}
use Rattle.html_tokens.specs.Runs.{plain_tokens}
use Rattle.html_tokens.specs.declared.token.Token.{Token}
use Rattle.html_token_list.specs.Pieces.{all_tokens}
use Rattle.html_token_list.proofs.Pieced.{all-grown, count-grown}
use Rattle.html_token_list.proofs.tokens.Tokens.push_plain.Goals as goal

pub invariant_of-self-2 : goal.invariant_of-self-2
invariant_of-self-2 c =
    let old : List Token = all_tokens c.self.inside.pieces.items ++ plain_tokens c.self.inside.last.start c.self.inside.last.text in
    let new : List Token = all_tokens c.turn_to.new.pieces.items ++ plain_tokens c.add_plain.new.self.start c.add_plain.new.self.text in
    let count : c.turn_to.new.last.count ≡ length c.turn_to.new.last.text = c.in_ok-turn_to.ensures.counted.0 in
    let more : length c.add_plain.new.self.text ≡ length c.turn_to.new.last.text + length c.args.text.now = ap length c.in_ok-add_plain.ensures.added ∙ length-append c.turn_to.new.last.text c.args.text.now in
    let added : c.add_plain.new.self.count ≡ c.turn_to.new.last.count + length c.args.text.now = c.in_ok-add_plain.ensures.count in
    let first : c.add_plain.new.self.count ≡ length c.add_plain.new.self.text = omega arith in
    let place : c.turn_to.new.last.start + c.turn_to.new.last.count ≡ c.args.start = c.in_ok-turn_to.ensures.place in
    let start : c.add_plain.new.self.start ≡ c.turn_to.new.last.start = c.in_ok-add_plain.ensures.start in
    let end : c.args.start + length c.args.text.now < 2 ^ 64 = subst (λ n. c.args.start + n < 2 ^ 64) c.len-more.ensures.count c.in-Some-checked_add.ensures.0 in
    let room : c.add_plain.new.self.start + c.add_plain.new.self.count < 2 ^ 64 = omega arith in (
      (first, room),
      c.in-Some.ensures.1 ∙ ap (λ n. c.self.inside.len + n) c.len-more.ensures.count ∙ count-grown old new c.args.start c.self.inside.len c.args.text.now
          (all-grown (all_tokens c.turn_to.new.pieces.items) c.turn_to.new.last.start c.add_plain.new.self.start c.turn_to.new.last.count c.args.start c.turn_to.new.last.text c.args.text.now c.add_plain.new.self.text c.in_ok-add_plain.ensures.start c.in_ok-turn_to.ensures.counted.0 c.in_ok-turn_to.ensures.place c.in_ok-add_plain.ensures.added
          ∙ ap (λ (ts : List Token). ts ++ plain_tokens c.args.start c.args.text.now) c.in_ok-turn_to.ensures.same)
          c.self.invariant.1,
      c.in_ok-turn_to.ensures.whole,
    )

pub returns-clause-added : goal.returns-clause-added
returns-clause-added c =
    all-grown (all_tokens c.turn_to.new.pieces.items) c.turn_to.new.last.start c.add_plain.new.self.start c.turn_to.new.last.count c.args.start c.turn_to.new.last.text c.args.text.now c.add_plain.new.self.text c.in_ok-add_plain.ensures.start c.in_ok-turn_to.ensures.counted.0 c.in_ok-turn_to.ensures.place c.in_ok-add_plain.ensures.added
    ∙ ap (λ (ts : List Token). ts ++ plain_tokens c.args.start c.args.text.now) (c.in_ok-turn_to.ensures.same ∙ c.self.view_is)

use Rattle.std.proofs.Common.{refl, ◌≡◌, ◌+◌, ◌*◌}
use Rattle.html_charref.specs.Number.{capped, radix}
use Rattle.std.specs.Char.{digit_value}
use Rattle.html_tokens.proofs.ValueLemmas.{number_digit, number_closes}
use Rattle.html_tokens.proofs.PartLemmas.{moves_digit, moves_semicolon}
use Rattle.html_tokens.proofs.tag.TagDraft.read_number.Goals as goal

pub returns-in-Some-clause-ok : goal.returns-in-Some-clause-ok
returns-in-Some-clause-ok c =
    let e : c.add_digit.result ≡ capped (c.args.value * radix c.args.base + digit_value c.args.c) = rw c.in-Some.ensures.1 at c.add_digit.ensures.value in
    (λ after. ((λ rows rest h. number_digit c.args.self.now c.args.end c.args.base c.args.value c.add_digit.result c.args.start c.args.c c.requires.part c.in-Some.ensures.0 e rows rest), refl, refl))

pub returns-in_ok-number_ends-in-None-clause-ok : goal.returns-in_ok-number_ends-in-None-clause-ok
returns-in_ok-number_ends-in-None-clause-ok c =
    rw c.in_ok-number_ends-in-None.ensures.ok
    (λ after. ((λ rows rest h. number_closes c.args.self.now c.args.end c.args.base c.args.value c.args.start c.args.c c.requires.part (c.requires.belongs c.in-None.ensures) rows rest), refl, refl))

pub returns-in-Some-clause-moves : goal.returns-in-Some-clause-moves
returns-in-Some-clause-moves c =
    let e : c.add_digit.result ≡ capped (c.args.value * radix c.args.base + digit_value c.args.c) = rw c.in-Some.ensures.1 at c.add_digit.ensures.value in
    λ after. rw c.requires.part (moves_digit c.args.end c.args.base c.args.value c.add_digit.result c.args.start c.args.c after c.in-Some.ensures.0 e)

pub returns-in_ok-number_ends-in-None-clause-moves : goal.returns-in_ok-number_ends-in-None-clause-moves
returns-in_ok-number_ends-in-None-clause-moves c =
    λ after. rw (c.in_ok-number_ends-in-None.ensures.ok, c.requires.part) (moves_semicolon c.args.end c.args.base c.args.value c.args.start c.args.c after (c.requires.belongs c.in-None.ensures))

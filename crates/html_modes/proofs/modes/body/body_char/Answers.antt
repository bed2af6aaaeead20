use Rattle.std.proofs.Common.{◌∙◌, sym}
use Rattle.std.proofs.Common.{false}
use Rattle.html_ledger.specs.declared.symbol.Symbol.TheVariants.{Char}
use Rattle.html_modes.proofs.InBody.{reconstructed, turn-char, turn-flag}
use Rattle.html_construction.specs.Plans.{Do, Over}
use Rattle.html_construction.specs.Words.{FramesetOff, InsertCharacter}
use Rattle.html_modes.specs.RuleForms.{over}
use Rattle.html_modes.specs.Rules.{plan}
use Rattle.html_modes.proofs.Ruled.{stop_here}
use Rattle.html_modes.proofs.RulesInBody.{in_body_char-other, in_body_char-space, not-null}
use Rattle.html_modes.proofs.modes.body.body_char.Goals as goal

pub returns-then-not-is_space-clause-plain : goal.returns-then-not-is_space-clause-plain
returns-then-not-is_space-clause-plain c = λ n.
    turn-flag false (Char c.args.c) c.args.token.now c.args.page.now c.insert_char.new.self c.frameset_off.new.self c.frameset_off.ensures.rest
    (turn-char c.args.c c.args.token.now c.args.page.now c.reconstruct.new.self c.insert_char.new.self n
    (reconstructed c.args.page.now c.reconstruct.new.self n.plain c.in_ok-reconstruct.ensures.rest c.in_ok-reconstruct.ensures.tags c.in_ok-reconstruct.ensures.exact)
    c.in_ok-insert_char.ensures.rest c.in_ok-insert_char.ensures.exact c.in_ok-insert_char.ensures.fate)

pub returns-else-not-is_space-clause-plain : goal.returns-else-not-is_space-clause-plain
returns-else-not-is_space-clause-plain c = λ n.
    turn-char c.args.c c.args.token.now c.args.page.now c.reconstruct.new.self c.insert_char.new.self n
    (reconstructed c.args.page.now c.reconstruct.new.self n.plain c.in_ok-reconstruct.ensures.rest c.in_ok-reconstruct.ensures.tags c.in_ok-reconstruct.ensures.exact)
    c.in_ok-insert_char.ensures.rest c.in_ok-insert_char.ensures.exact c.in_ok-insert_char.ensures.fate

pub returns-then-not-is_space-clause-takes : goal.returns-then-not-is_space-clause-takes
returns-then-not-is_space-clause-takes c = λ h b.
    c.frameset_off.ensures.keeps _ (c.in_ok-insert_char.ensures.takes h (c.in_ok-reconstruct.ensures.keeps h b))

pub returns-then-not-is_space-clause-follows : goal.returns-then-not-is_space-clause-follows
returns-then-not-is_space-clause-follows c =
    let z = c.frameset_off.new.self in
    in_body_char-other c.args.c c.args.token.now c.args.page.now Over z (not-null c.args.c c.if-c-eq0.false) (sym c.is_space.ensures.value ∙ c.if-not-is_space.true)
    (c.in_ok-reconstruct.ensures.follows plan c.args.token.now (Do InsertCharacter (Do FramesetOff over)) Over z
    (c.in_ok-insert_char.ensures.follows plan (Do FramesetOff over) Over z
    (c.frameset_off.ensures.follows plan c.args.token.now over Over z (stop_here Over c.args.token.now z))))

pub returns-else-not-is_space-clause-follows : goal.returns-else-not-is_space-clause-follows
returns-else-not-is_space-clause-follows c =
    let z = c.insert_char.new.self in
    in_body_char-space c.args.c c.args.token.now c.args.page.now Over z (not-null c.args.c c.if-c-eq0.false) (sym c.is_space.ensures.value ∙ c.if-not-is_space.false)
    (c.in_ok-reconstruct.ensures.follows plan c.args.token.now (Do InsertCharacter over) Over z
    (c.in_ok-insert_char.ensures.follows plan over Over z (stop_here Over c.args.token.now z)))

use Rattle.std.proofs.Common.{refl, ap, subst, sym, ◌∙◌, ℕ}
use Rattle.html_tokens.specs.Fed.{Steps}
use Rattle.html_tokens.specs.Tokens.{token}
use Rattle.html_tokens.specs.declared.machine.Progress.TheVariants.{Given}
use Rattle.html_tokens.specs.declared.token.Token.{Token}
use Rattle.html_tokens.specs.declared.token.TokenKind.TheVariants.{Char}
use Rattle.html_tokens.proofs.SectionLemmas.{section_closes, section_gives}
use Rattle.html_tokens.proofs.StepLemmas.{passes_to}
use Rattle.html_tokens.proofs.machine.Machine.section_char.Goals as goal

pub returns-in-Some-true-clause-steps : goal.returns-in-Some-true-clause-steps
returns-in-Some-true-clause-steps c =
    let found = rw c.in-Some-true.field-0-test at c.in-Some-true.ensures in
    rw c.enter.ensures (section_closes c.args.self.now _ c.requires.state found.0 (found.1 refl) (passes_to c.args.self.now c.pass.new.self 3 _ _ c.pass.ensures))

pub returns-in-Some-false-clause-steps : goal.returns-in-Some-false-clause-steps
returns-in-Some-false-clause-steps c =
    let found = rw c.in-Some-false.field-0-test at c.in-Some-false.ensures in
    let old = c.args.self.now in
    let p = c.pass-in-Some-false.ensures in
    subst (λ (t : Token). Steps old (Given t) c.pass-in-Some-false.new.self) (sym (c.token.ensures ∙ ap (λ (n : ℕ). token (Char c.args.c) old.place n) p.place))
    (section_gives old c.pass-in-Some-false.new.self c.args.c c.requires.state c.requires.first found.0 c.requires.some p)

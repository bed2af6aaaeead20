use Rattle.std.proofs.Common.{◌≡◌, ◌-◌, List, Some, ap, length, subst, sym, ◌∙◌}
use Rattle.std.specs.Option.{option_copied}
use Rattle.std.specs.Prelude.{slice_get}
use Rattle.html_construction.specs.declared.mode.Mode.{Mode}
use Rattle.html_construction.specs.States.{State}
use Rattle.html_construction.proofs.Resetting.{template-get}
use Rattle.html_construction.proofs.construction.Construction.template_mode.Goals as goal

pub returns-in-Some-clause-mode : goal.returns-in-Some-clause-mode
returns-in-Some-clause-mode c =
    let e : slice_get c.deref.result.now (length c.deref.result.now - 1) ≡ Some c.in-Some.mode.now = sym c.last.ensures.value ∙ ap option_copied c.in-Some.is in
    sym (template-get c.args.self.now.templates c.in-Some.mode.now
    (subst (λ (ms : List Mode). slice_get ms (length ms - 1) ≡ Some c.in-Some.mode.now) (c.deref.ensures.value ∙ ap (λ (x : State). x.templates) c.self.view_is) e))

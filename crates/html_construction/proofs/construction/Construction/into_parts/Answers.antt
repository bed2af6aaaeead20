use Rattle.std.proofs.Common.{subst, ap}
use Rattle.html_names.specs.declared.tag.Tag.TheVariants as tag
use Rattle.html_tree.specs.States.{IsNamed, State as Tree}
use Rattle.html_construction.specs.States.{State}
use Rattle.html_construction.proofs.construction.Construction.into_parts.Goals as goal

pub returns-clause-body : goal.returns-clause-body
returns-clause-body c =
    subst (λ (t : Tree). IsNamed t.tree tag.Body t.detached) (ap (λ (a : State). a.tree) c.self.view_is) c.laws.ensures.sound.detached

use Rattle.std.proofs.Common.{◌≡◌, ◌∷◌, false, subst, sym, ℕ}
use Rattle.html_arena.specs.Siblings.{has}
use Rattle.html_arena.specs.Tree.{ancestors}
use Rattle.html_dom.proofs.Apart.{apart_inside}
use Rattle.html_dom.proofs.links.append_apart.Goals as goal

pub append_at-requires-clause-apart : goal.append_at-requires-clause-apart
append_at-requires-clause-apart c =
    subst (λ (x : ℕ). has c.args.child (x ∷ ancestors c.args.arena.now x) ≡ false) (sym c.inner-place.ensures.value)
    (apart_inside c.args.arena.now c.forest.ensures.well_formed c.args.child c.requires.linkable c.args.parent c.requires.parent_in c.requires.apart)

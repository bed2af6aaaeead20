use Rattle.std.proofs.Common.{subst, ap, ◌∙◌, arith}
use Rattle.html_tree.specs.States.{IsSound, State, IsNamed}
use Rattle.html_tree.proofs.OpenTags.{length-tags, deepest-tag}
use Rattle.html_tree.proofs.Roots.{sound}
use Rattle.html_arena.specs.Siblings.{first_of}
use Rattle.html_names.specs.declared.tag.Tag.TheVariants as tag
use Rattle.html_tree.specs.Seats.{HasSeats}
use Rattle.html_tree.proofs.Standing.{bare-seats}
use Rattle.html_tree.proofs.tree.OpenTree.laws.Goals as goal

pub returns : goal.returns
returns c = record {
  sound = subst (λ (a : State). IsSound a) c.self.view_is (sound c.self.inside.stack c.self.inside.list c.self.inside.arena c.self.inside.tokens c.self.inside.head c.self.inside.form c.self.inside.detached c.self.invariant.0);
  seats = subst (λ (a : State). HasSeats a.tree a.stack) c.self.view_is (bare-seats c.self.inside.arena c.self.inside.stack c.self.invariant.2);
  deepest = deepest-tag c.args.self.now.tree c.args.self.now.stack (subst (λ (a : State). IsNamed a.tree tag.Html (first_of a.stack)) c.self.view_is c.self.invariant.0.first);
  counted = (let e = c.meter.ensures ∙ ap (λ (a : State). a.steps) c.self.view_is in let b = c.fits.ensures in omega (arith, e, b));
  depth = length-tags c.args.self.now.tree c.args.self.now.stack;
}

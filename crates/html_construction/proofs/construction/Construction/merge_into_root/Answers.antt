use Rattle.std.proofs.Common.{◌≡◌, ◌<◌, ap, arith, length, subst, true}
use Rattle.std.specs.Prelude.{slice_index}
use Rattle.html_names.specs.declared.tag.Tag.TheVariants as tag
use Rattle.html_arena.specs.Tree.{named}
use Rattle.html_tree.specs.OpenTags.{open_tags}
use Rattle.html_construction.specs.States.{State}
use Rattle.html_construction.proofs.Originating.{first-named}
use Rattle.html_construction.proofs.construction.Construction.merge_into_root.Goals as goal

pub merge_into-requires-clause-own : goal.merge_into-requires-clause-own
merge_into-requires-clause-own c =
    let e : length (open_tags c.self.inside.tree) ≡ length c.args.self.now.stack = ap (λ (x : State). length x.stack) c.self.view_is in
    let d : length (open_tags c.self.inside.tree) ≡ length c.self.inside.tree.stack = c.laws.ensures.depth in
    let o : 0 < length c.args.self.now.stack = c.requires.opened in
    subst (λ (x : State). named x.tree.tree tag.Html (slice_index x.tree.stack 0) ≡ true) c.self.view_is
    (first-named c.self.inside.tree.tree c.self.inside.tree.stack c.laws.ensures.sound.first (omega (arith, e, d, o)))

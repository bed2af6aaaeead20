use Rattle.std.proofs.Common.{◌≡◌, ◌∷◌, List, false, subst, sym, ◌∙◌, ap}
use Rattle.html_arena.specs.Data.{is_linkable, label_in}
use Rattle.html_arena.specs.Laws.{IsLinked}
use Rattle.html_arena.specs.Siblings.{has, put_before}
use Rattle.html_arena.specs.Tree.{children_of, parent_of}
use Rattle.html_dom.proofs.Lifting.{child-apart, kept-parent, raised, some-in}
use Rattle.html_dom.proofs.unwraps.raise.Goals as goal

pub insert_before-requires-clause-linkable : goal.insert_before-requires-clause-linkable
insert_before-requires-clause-linkable c =
    ap (λ ds. is_linkable (label_in ds c.args.child)) c.detach.ensures.unlinked.same_labels ∙ c.requires.linkable

pub insert_before-requires-clause-not_above : goal.insert_before-requires-clause-not_above
insert_before-requires-clause-not_above c =
    let apart = child-apart c.args.arena.now c.forest.ensures.well_formed c.args.child c.args.node c.requires.node_in c.requires.child_is in
    subst (λ (l : List _). has c.args.child (c.args.node ∷ l) ≡ false) (sym (c.detach.ensures.unlinked.above_others c.args.node c.requires.node_in apart)) apart

pub insert_before-requires-clause-has_parent : goal.insert_before-requires-clause-has_parent
insert_before-requires-clause-has_parent c = λ e.
    let k = kept-parent c.args.arena.now c.detach.new.self c.args.child c.args.node c.args.parent c.forest.ensures.well_formed c.requires.node_in c.requires.child_is c.requires.parent_is c.detach.ensures.unlinked in
    cc

pub returns : goal.returns
returns c =
    let k = kept-parent c.args.arena.now c.detach.new.self c.args.child c.args.node c.args.parent c.forest.ensures.well_formed c.requires.node_in c.requires.child_is c.requires.parent_is c.detach.ensures.unlinked in
    raised c.args.arena.now c.detach.new.self c.insert_before.new.self c.args.child c.args.node c.args.parent c.forest.ensures.well_formed c.requires.node_in c.requires.child_is c.requires.parent_is
    c.detach.ensures.unlinked
    (some-in (parent_of c.detach.new.self c.args.node) c.args.parent (λ p. IsLinked c.detach.new.self c.insert_before.new.self c.args.child p (put_before c.args.child c.args.node (children_of c.detach.new.self p))) k c.insert_before.ensures.linked)

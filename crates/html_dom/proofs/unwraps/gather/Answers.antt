use Rattle.std.proofs.Common.{◌≡◌, ◌∙◌, ap, sym, true}
use Rattle.html_arena.specs.Tree.{children_of}
use Rattle.html_dom.specs.Edits.{are_linkable, held_by}
use Rattle.html_dom.proofs.Lifting.{linkable-all}
use Rattle.html_dom.proofs.unwraps.gather.Goals as goal

pub returns-in-Some-clause-linkable : goal.returns-in-Some-clause-linkable
returns-in-Some-clause-linkable c = λ a b.
    let held : are_linkable c.args.arena.now (children_of c.args.arena.now c.in-Some.contents) ≡ true =
    ap (λ o. are_linkable c.args.arena.now (held_by c.args.arena.now o)) (sym c.in-Some.is ∙ c.contents.ensures.value) ∙ b in
    ap (are_linkable c.gather_from.new.arena) c.gather_from.ensures.children
    ∙ linkable-all c.args.arena.now c.gather_from.new.arena (children_of c.args.arena.now c.args.node) (children_of c.args.arena.now c.in-Some.contents) c.gather_from.ensures.labels a held

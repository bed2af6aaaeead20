use Rattle.std.proofs.Common.{◌∙◌, ap, subst, sym}
use Rattle.html_names.specs.Sets.{is_formatting}
use Rattle.html_arena.specs.Data.{IsLone, cloned, label_in}
use Rattle.html_arena.specs.Tree.{Tree, tag_at}
use Rattle.html_arena.proofs.Labels.{cloned-lone}
use Rattle.html_arena.proofs.arena.Arena.make_clone.Goals as goal

pub place-requires-clause-lone : goal.place-requires-clause-lone
place-requires-clause-lone c =
    let h = ap (λ (t : Tree). is_formatting (tag_at t c.args.node)) c.self.view_is ∙ c.requires.formatting in
    let lone = cloned-lone (label_in c.self.inside.nodes.items c.args.node) h (c.self.invariant.labelled.tagged c.args.node) in
    subst IsLone (sym (c.in_ok-copy.ensures ∙ ap cloned c.label_at-original.ensures)) lone

use Rattle.std.proofs.Common.{◌+◌, Some, refl, sym, subst}
use Rattle.html_arena.specs.declared.data.NewNode.TheVariants.{Element}
use Rattle.html_arena.specs.declared.data.Origin.TheVariants.{Token}
use Rattle.html_arena.specs.Make.{nodes_made}
use Rattle.test_open.specs.Pages.{IsPage}
use Rattle.test_open.proofs.UnderWay.{page-made}
use Rattle.test_open.proofs.page.Page.make.Goals as goal

pub invariant_of-self-2 : goal.invariant_of-self-2
invariant_of-self-2 c =
    let n = Element c.args.name c.args.attrs (Token c.self.inside.tokens) in
    subst (λ v. IsPage c.self.inside.stack c.self.inside.list c.make.new.self (c.self.inside.tokens + 1) (Some v)) (sym c.in_ok-node.ensures.id)
    (page-made c.self.inside.arena c.make.new.self c.args.name c.args.attrs c.self.inside.tokens c.self.inside.stack c.self.inside.list (nodes_made n) (c.self.inside.tokens + 1) c.self.inside.newest
    c.in_ok-node.ensures.made c.in_ok-node.ensures.grown refl c.self.invariant)

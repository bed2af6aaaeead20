use Rattle.std.proofs.Common.{rules, ◌≡◌, ℕ, [], ◌∷◌, ◌++◌, List, true, sym, ◌∙◌, subst, refl}
use Rattle.html_arena.specs.Siblings.{has}
use Rattle.html_open.proofs.Keeps.{has-insert, eqb-self}
use Rattle.html_open.proofs.stack.OpenStack.take_last.Goals as goal

pub set_mark-requires : goal.set_mark-requires
set_mark-requires c =
    let e : c.args.self.now ≡ c.pop-node.new.self.items ++ c.in-Some.node ∷ [] = search rules in
    c.requires c.in-Some.node (subst (λ (v : List ℕ). has c.in-Some.node v ≡ true) (sym e) (has-insert c.in-Some.node c.in-Some.node c.pop-node.new.self.items [] ∙ rw (eqb-self c.in-Some.node) refl))

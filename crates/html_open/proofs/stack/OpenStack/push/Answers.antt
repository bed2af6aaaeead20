use Rattle.std.proofs.Common.{rules, ◌≡◌, [], ◌∷◌, ◌++◌, ◌∙◌, ap}
use Rattle.html_arena.specs.Siblings.{first_of}
use Rattle.html_arena.specs.Tree.{Tree}
use Rattle.html_open.specs.Marking.{bare, charged}
use Rattle.html_open.proofs.Keeps.{push-keeps}
use Rattle.html_open.proofs.Lasting.{first-free, first-pushed, nodes-pushed, place-pushed}
use Rattle.html_open.proofs.stack.OpenStack.push.Goals as goal

pub returns-clause-keeps : goal.returns-clause-keeps
returns-clause-keeps c = λ l k p.
    push-keeps c.args.self.now c.push.new.self.items l c.args.arena.now c.charge.new.self c.args.node 1
    (c.forest.ensures.well_formed.as_many_marks)
    (search rules)
    (c.charge.ensures ∙ ap (λ (u : Tree). charged u 1) c.set_mark.ensures)
    k p

pub returns-clause-nodes_in : goal.returns-clause-nodes_in
returns-clause-nodes_in c = λ h.
    nodes-pushed c.args.arena.now c.charge.new.self c.args.node c.args.self.now c.push.new.self.items (ap (λ (u : Tree). u.labels) (c.charge.ensures ∙ ap (λ (u : Tree). charged u 1) c.set_mark.ensures)) (search rules) c.requires h

pub returns-clause-first : goal.returns-clause-first
returns-clause-first c = λ b.
    let e : c.push.new.self.items ≡ c.args.self.now ++ c.args.node ∷ [] = search rules in
    ap first_of e ∙ first-pushed c.args.self.now c.args.node b

pub returns-clause-can_place : goal.returns-clause-can_place
returns-clause-can_place c = λ h.
    let e : c.push.new.self.items ≡ c.args.self.now ++ c.args.node ∷ [] = search rules in
    place-pushed c.args.self.now c.push.new.self.items c.args.node c.args.arena.now c.charge.new.self (ap bare (c.charge.ensures ∙ ap (λ (u : Tree). charged u 1) c.set_mark.ensures)) e h

pub returns-clause-first_free : goal.returns-clause-first_free
returns-clause-first_free c = λ l b h.
    let e : c.push.new.self.items ≡ c.args.self.now ++ c.args.node ∷ [] = search rules in
    first-free c.args.self.now c.push.new.self.items l (λ k. ap first_of e ∙ first-pushed c.args.self.now c.args.node b) h

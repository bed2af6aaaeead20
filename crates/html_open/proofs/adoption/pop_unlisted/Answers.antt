use Rattle.std.proofs.Common.{sym, ◌∙◌, ap, subst, length, arith, refl}
use Rattle.html_names.specs.Tags.{is_same}
use Rattle.html_arena.specs.Data.{label_in, tag_in}
use Rattle.html_arena.specs.Tree.{Tree}
use Rattle.html_arena.proofs.Siblings.{has-last}
use Rattle.html_open.specs.Marking.{bare}
use Rattle.html_open.specs.Opened.{IsOpen, open_at}
use Rattle.html_open.proofs.Closing.{bare-popped, popped-last}
use Rattle.html_open.proofs.Keeps.{open-charged}
use Rattle.html_open.proofs.adoption.pop_unlisted.Goals as goal

pub returns-in_default-clause-kept : goal.returns-in_default-clause-kept
returns-in_default-clause-kept c = subst (λ (t : Tree). IsOpen (open_at c.args.stack.now c.args.list.now t)) (sym c.current.ensures.steps) (open-charged c.args.stack.now c.args.list.now c.args.arena.now 1 c.requires.«open»)

pub is_named-requires : goal.is_named-requires
is_named-requires c =
    let k = c.requires.«open».stack_in c.in-Some.current (has-last c.in-Some.current c.args.stack.now (sym c.current.ensures.node ∙ c.in-Some.is)) in
    let e = ap (λ (t : Tree). length t.labels) c.current.ensures.steps in
    omega (arith, k, e)

pub contains-requires-clause-node_in : goal.contains-requires-clause-node_in
contains-requires-clause-node_in c =
    let k = c.requires.«open».stack_in c.in-Some.current (has-last c.in-Some.current c.args.stack.now (sym c.current.ensures.node ∙ c.in-Some.is)) in
    let e = ap (λ (t : Tree). length t.labels) c.current.ensures.steps in
    omega (arith, k, e)

pub returns-then-not-is_named-clause-kept : goal.returns-then-not-is_named-clause-kept
returns-then-not-is_named-clause-kept c = subst (λ (t : Tree). IsOpen (open_at c.args.stack.now c.args.list.now t)) (sym c.current.ensures.steps) (open-charged c.args.stack.now c.args.list.now c.args.arena.now 1 c.requires.«open»)

pub returns-then-contains-clause-kept : goal.returns-then-contains-clause-kept
returns-then-contains-clause-kept c =
    subst (λ (t : Tree). IsOpen (open_at c.args.stack.now c.args.list.now t)) (sym c.contains.ensures.steps) (open-charged c.args.stack.now c.args.list.now c.current.new.arena 1
    (subst (λ (t : Tree). IsOpen (open_at c.args.stack.now c.args.list.now t)) (sym c.current.ensures.steps) (open-charged c.args.stack.now c.args.list.now c.args.arena.now 1 c.requires.«open»)))

pub returns-clause-yes : goal.returns-clause-yes
returns-clause-yes c = λ e. record {
  current = c.in-Some.current;
  stack_was = popped-last c.args.stack.now c.pop.new.self c.pop.result c.in-Some.current c.pop.ensures.stack c.pop.ensures.none (sym c.current.ensures.node ∙ c.in-Some.is);
  is_named = ap (λ (t : Tree). is_same (tag_in (label_in t.labels c.in-Some.current)) c.args.name) (sym c.current.ensures.steps) ∙ sym c.is_named.ensures ∙ c.if-not-is_named.false;
  not_listed = sym c.contains.ensures.answer ∙ c.if-contains.false;
  list_is = refl;
  tree_is = ap bare c.pop.ensures.tree ∙ bare-popped c.contains.new.arena c.pop.result 1 ∙ ap bare c.contains.ensures.steps ∙ ap bare c.current.ensures.steps;
}

pub returns-clause-kept : goal.returns-clause-kept
returns-clause-kept c =
    c.pop.ensures.keeps c.args.list.now
    (subst (λ (t : Tree). IsOpen (open_at c.args.stack.now c.args.list.now t)) (sym c.contains.ensures.steps) (open-charged c.args.stack.now c.args.list.now c.current.new.arena 1
    (subst (λ (t : Tree). IsOpen (open_at c.args.stack.now c.args.list.now t)) (sym c.current.ensures.steps) (open-charged c.args.stack.now c.args.list.now c.args.arena.now 1 c.requires.«open»))))

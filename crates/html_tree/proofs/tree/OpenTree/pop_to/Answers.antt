use Rattle.std.proofs.Common.{◌≡◌, ◌≤◌, ◌+◌, ◌-◌, length, take, drop, ◌∙◌, ap, subst, refl, arith, sym}
use Rattle.html_arena.specs.declared.marks.Mark.TheVariants.{OnStack}
use Rattle.html_arena.specs.Siblings.{first_of}
use Rattle.html_arena.specs.Tree.{Tree, more}
use Rattle.html_open.specs.Marking.{bare}
use Rattle.html_open.proofs.Closing.{all_unmarked-labels, bare-all}
use Rattle.html_open.proofs.Keeps.{charged_keeps}
use Rattle.html_tree.specs.Closing.{first_few, kept_to}
use Rattle.html_tree.specs.States.{State, state_of}
use Rattle.html_tree.proofs.Kept.{all_unmarked-steps, few-length, first-few, more-most, popped-grown, popped-keeps, same-state, same-under_way}
use Rattle.html_tree.proofs.OpenTags.{few-tags, few-weigh-less}
use Rattle.html_tree.specs.Paragraphs.{p_ends_of}
use Rattle.html_tree.proofs.SearchEnds.{ends-labels}
use Rattle.html_tree.proofs.Standing.{all_unmarked-parents, seats-taken}
use Rattle.html_tree.specs.Seats.{HasSeats}
use Rattle.html_tree.proofs.tree.OpenTree.pop_to.Goals as goal

pub invariant_of-self : goal.invariant_of-self
invariant_of-self c = (
  let stack : c.pop_to.new.self ≡ first_few c.args.len c.self.inside.stack =
      c.pop_to.ensures.stack ∙ ap (λ k. take k c.self.inside.stack) (c.kept_to-kept.ensures.value ∙ ap (λ n. kept_to n c.args.len) c.len-count.ensures) in
      same-under_way c.self.inside.stack c.pop_to.new.self c.self.inside.list c.self.inside.list c.self.inside.arena c.pop_to.new.arena c.self.inside.tokens c.self.inside.head c.self.inside.form c.self.inside.detached
      (ap (λ (v : Tree). v.labels) c.pop_to.ensures.tree ∙ all_unmarked-labels c.charge.new.self OnStack (drop c.kept_to-kept.result c.self.inside.stack) ∙ ap (λ (v : Tree). v.labels) c.charge.ensures)
      (ap first_of stack ∙ first-few c.args.len c.self.inside.stack)
      (c.pop_to.ensures.keeps c.self.inside.list (charged_keeps c.self.inside.stack c.self.inside.list c.self.inside.arena c.charge.new.self (c.len-count.result - c.kept_to-kept.result) c.charge.ensures c.self.invariant.0.is_open))
      c.self.invariant.0,
  ends-labels c.pop_to.new.self c.cut_ends.new.ends.items c.charge.new.self c.pop_to.new.arena
      (c.cut_ends.ensures.items (ends-labels c.self.inside.stack c.self.inside.p_ends.items c.self.inside.arena c.charge.new.self c.self.invariant.1 (ap (λ (v : Tree). v.labels) c.charge.ensures) ∙ ap (p_ends_of c.charge.new.self) (sym c.as_slice.ensures))
      ∙ ap (p_ends_of c.charge.new.self) (ap (take c.kept_to-kept.result) c.as_slice.ensures ∙ sym c.pop_to.ensures.stack))
      (ap (λ (v : Tree). v.labels) c.pop_to.ensures.tree ∙ all_unmarked-labels c.charge.new.self OnStack (drop c.kept_to-kept.result c.self.inside.stack)),
  let stack : c.pop_to.new.self ≡ first_few c.args.len c.self.inside.stack =
      c.pop_to.ensures.stack ∙ ap (λ k. take k c.self.inside.stack) (c.kept_to-kept.ensures.value ∙ ap (λ n. kept_to n c.args.len) c.len-count.ensures) in
      subst (HasSeats c.pop_to.new.arena) (sym stack)
      (seats-taken c.self.inside.arena c.pop_to.new.arena c.self.inside.stack (kept_to (length c.self.inside.stack) c.args.len)
      (ap (λ (v : Tree). v.labels) c.pop_to.ensures.tree ∙ all_unmarked-labels c.charge.new.self OnStack (drop c.kept_to-kept.result c.self.inside.stack) ∙ ap (λ (v : Tree). v.labels) c.charge.ensures)
      (ap (λ (v : Tree). v.parents) c.pop_to.ensures.tree ∙ all_unmarked-parents c.charge.new.self OnStack (drop c.kept_to-kept.result c.self.inside.stack) ∙ ap (λ (v : Tree). v.parents) c.charge.ensures)
      c.self.invariant.2),
)

pub returns-clause-exact : goal.returns-clause-exact
returns-clause-exact c =
    let stack : c.pop_to.new.self ≡ first_few c.args.len c.self.inside.stack =
    c.pop_to.ensures.stack ∙ ap (λ k. take k c.self.inside.stack) (c.kept_to-kept.ensures.value ∙ ap (λ n. kept_to n c.args.len) c.len-count.ensures) in
    subst (λ (a : State). state_of c.pop_to.new.self c.self.inside.list c.pop_to.new.arena c.self.inside.tokens c.self.inside.head c.self.inside.form c.self.inside.detached ≡ record a { stack = first_few c.args.len a.stack; steps = c.pop_to.new.arena.steps }) c.self.view_is
    (same-state (first_few c.args.len c.self.inside.stack) c.pop_to.new.self c.self.inside.list c.self.inside.list (bare c.self.inside.arena) (bare c.pop_to.new.arena) c.pop_to.new.arena.steps c.self.inside.tokens c.self.inside.head c.self.inside.form c.self.inside.detached
    stack refl (ap bare c.pop_to.ensures.tree ∙ bare-all c.charge.new.self OnStack (drop c.kept_to-kept.result c.self.inside.stack) ∙ ap bare c.charge.ensures))

pub returns-clause-steps : goal.returns-clause-steps
returns-clause-steps c =
    subst (λ (a : State). c.pop_to.new.arena.steps ≤ a.steps + length a.stack) c.self.view_is
    (let k : c.pop_to.new.arena.steps ≡ more c.self.inside.arena.steps (c.len-count.result - c.kept_to-kept.result) =
    ap (λ (v : Tree). v.steps) c.pop_to.ensures.tree ∙ all_unmarked-steps c.charge.new.self OnStack (drop c.kept_to-kept.result c.self.inside.stack) ∙ ap (λ (v : Tree). v.steps) c.charge.ensures in
    let m = more-most c.self.inside.arena.steps (c.len-count.result - c.kept_to-kept.result) in
    let l : c.len-count.result ≡ length c.self.inside.stack = c.len-count.ensures in
    omega (arith, k, m, l))

pub returns-clause-keeps : goal.returns-clause-keeps
returns-clause-keeps c = popped-keeps c.args.self.now _ c.args.len (returns-clause-exact c)
    (let k : c.pop_to.new.arena.steps ≡ more c.self.inside.arena.steps (c.len-count.result - c.kept_to-kept.result) =
    ap (λ (v : Tree). v.steps) c.pop_to.ensures.tree ∙ all_unmarked-steps c.charge.new.self OnStack (drop c.kept_to-kept.result c.self.inside.stack) ∙ ap (λ (v : Tree). v.steps) c.charge.ensures in
    let l : c.self.inside.arena.steps ≡ c.args.self.now.steps = ap (λ (a : State). a.steps) c.self.view_is in omega (arith, k, l))

pub returns-clause-grown : goal.returns-clause-grown
returns-clause-grown c = popped-grown c.args.self.now _ c.args.len (returns-clause-exact c)

pub returns-clause-few : goal.returns-clause-few
returns-clause-few c = few-tags c.args.self.now _ c.args.len (returns-clause-exact c)

pub returns-clause-lighter : goal.returns-clause-lighter
returns-clause-lighter c = few-weigh-less c.args.self.now _ c.args.len (returns-clause-exact c)

pub returns-clause-counted : goal.returns-clause-counted
returns-clause-counted c =
    subst (λ (a : State). c.pop_to.new.arena.steps ≡ more a.steps (length a.stack - length c.pop_to.new.self)) c.self.view_is
    (let k : c.pop_to.new.arena.steps ≡ more c.self.inside.arena.steps (c.len-count.result - c.kept_to-kept.result) =
    ap (λ (v : Tree). v.steps) c.pop_to.ensures.tree ∙ all_unmarked-steps c.charge.new.self OnStack (drop c.kept_to-kept.result c.self.inside.stack) ∙ ap (λ (v : Tree). v.steps) c.charge.ensures in
    let l : c.len-count.result ≡ length c.self.inside.stack = c.len-count.ensures in
    let v : c.kept_to-kept.result ≡ kept_to (length c.self.inside.stack) c.args.len = c.kept_to-kept.ensures.value ∙ ap (λ n. kept_to n c.args.len) l in
    let w : length c.pop_to.new.self ≡ kept_to (length c.self.inside.stack) c.args.len =
    ap length (c.pop_to.ensures.stack ∙ ap (λ k. take k c.self.inside.stack) v) ∙ few-length c.args.len c.self.inside.stack in
    k ∙ ap (more c.self.inside.arena.steps) (ap (λ n. n - c.kept_to-kept.result) l ∙ ap (λ n. length c.self.inside.stack - n) (v ∙ sym w)))

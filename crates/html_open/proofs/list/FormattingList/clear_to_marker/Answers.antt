use Rattle.std.proofs.Common.{ℕ, ◌-◌, ◌*◌, ◌∙◌, ap, drop, take, length, List, refl}
use Rattle.html_arena.specs.declared.marks.Mark.TheVariants.{InList}
use Rattle.html_arena.specs.Tree.{Tree}
use Rattle.html_open.specs.Entries.{cleared, has_node, is_marker, nodes_of}
use Rattle.html_open.specs.Lists.{last_index, looked}
use Rattle.html_open.specs.Marking.{all_unmarked, charged}
use Rattle.html_open.proofs.Clearing.{cleared-is, kept-is, twice-looked}
use Rattle.html_open.proofs.Keeps.{moved_list, open-charged}
use Rattle.html_open.proofs.Popping.{all_unmarked-charged}
use Rattle.html_open.proofs.Lasting.{all-steps, entries-below, fewer-free, same-all}
use Rattle.html_open.proofs.list.FormattingList.clear_to_marker.Goals as goal

pub returns-clause-list : goal.returns-clause-list
returns-clause-list c =
    let f = c.last_entry-found.ensures.index ∙ ap (last_index is_marker) (c.as_slice-entries.ensures.value ∙ c.self.view_is) in
    c.take_to.ensures.list ∙ ap (λ n. take n c.args.self.now) c.index_or_first-kept.ensures.value ∙ kept-is is_marker c.args.self.now c.last_entry-found.result f

pub returns-clause-tree : goal.returns-clause-tree
returns-clause-tree c =
    let q = c.as_slice-entries.ensures.value ∙ c.self.view_is in
    let f = c.last_entry-found.ensures.index ∙ ap (last_index is_marker) q in
    let d = ap (λ n. nodes_of (drop n c.args.self.now)) c.index_or_first-kept.ensures.value ∙ cleared-is c.args.self.now c.last_entry-found.result f in
    let n = ap (λ k. 2 * (length c.as_slice-entries.result.now - k)) c.index_or_first-kept.ensures.value ∙ twice-looked is_marker c.args.self.now c.last_entry-found.result (length c.as_slice-entries.result.now) (ap length q) f in
    c.take_to.ensures.tree
    ∙ ap (λ (u : Tree). all_unmarked u InList (nodes_of (drop c.index_or_first-kept.result c.args.self.now))) c.charge.ensures
    ∙ all_unmarked-charged c.args.arena.now InList (2 * (length c.as_slice-entries.result.now - c.index_or_first-kept.result)) (nodes_of (drop c.index_or_first-kept.result c.args.self.now))
    ∙ ap (λ (xs : List ℕ). charged (all_unmarked c.args.arena.now InList xs) (2 * (length c.as_slice-entries.result.now - c.index_or_first-kept.result))) d
    ∙ ap (charged (all_unmarked c.args.arena.now InList (cleared c.args.self.now))) n

pub returns-clause-keeps : goal.returns-clause-keeps
returns-clause-keeps c = λ s k.
    c.take_to.ensures.keeps s
    (moved_list s c.args.self.now c.args.self.now (charged c.args.arena.now (2 * (length c.as_slice-entries.result.now - c.index_or_first-kept.result))) c.charge.new.self refl c.charge.ensures
    (open-charged s c.args.self.now c.args.arena.now (2 * (length c.as_slice-entries.result.now - c.index_or_first-kept.result)) k))

pub returns-clause-tree_kept : goal.returns-clause-tree_kept
returns-clause-tree_kept c = same-all c.args.arena.now c.take_to.new.arena InList (cleared c.args.self.now) (2 * looked is_marker c.args.self.now) (returns-clause-tree c)

pub returns-clause-steps : goal.returns-clause-steps
returns-clause-steps c = all-steps c.args.arena.now c.take_to.new.arena InList (cleared c.args.self.now) (2 * looked is_marker c.args.self.now) (returns-clause-tree c)

pub returns-clause-fewer : goal.returns-clause-fewer
returns-clause-fewer c = λ x h. ap (has_node x) (returns-clause-list c) ∙ entries-below c.args.self.now x h

pub returns-clause-first_free : goal.returns-clause-first_free
returns-clause-first_free c = λ s h. fewer-free s c.args.self.now c.take_to.new.self (returns-clause-fewer c) h

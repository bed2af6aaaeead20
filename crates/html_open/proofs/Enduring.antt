-- What stays on the stack and in the list through a reopening.
use Rattle.std.proofs.Common.{◌≡◌, ℕ, true, false, List, [], ◌∷◌, ◌++◌, length, map, inl, inr, refl, sym, ◌∙◌, ap}
use Rattle.std.proofs.lemmas.Bool.{false≢true}
use Rattle.std.specs.Prelude.{filter}
use Rattle.std.proofs.lemmas.List.Elements.{filter-append}
use Rattle.html_names.specs.Sets.{is_special}
use Rattle.html_arena.specs.declared.data.NodeData.{NodeData}
use Rattle.html_arena.specs.Data.{tag_in}
use Rattle.html_arena.specs.Siblings.{has}
use Rattle.html_arena.specs.Tree.{tag_at}
use Rattle.html_open.specs.declared.entry.Entry.{Entry}
use Rattle.html_open.specs.declared.entry.Entry.TheVariants.{Node}
use Rattle.html_open.specs.AdoptFinding.{special}
use Rattle.html_open.specs.Adopting.{MadeClones, Survives}
use Rattle.html_open.specs.Entries.{has_node, is_marker, nodes_of}
use Rattle.html_open.specs.Lists.{above, up_to}
use Rattle.html_open.specs.Opened.{IsOpen, Open}
use Rattle.html_open.specs.Placing.{CanPlace}
use Rattle.html_open.specs.Reopening.{ReopenedFirst, closed, fresh, stands}
use Rattle.html_open.proofs.Descending.{label-kept, labels-longer}
use Rattle.html_open.proofs.Ordering.{has-either, has-left, has-right}
use Rattle.html_open.proofs.Reopened.{all-nodes, apart, list-nodes, none-above, rest-listed, split-above, up-listed}
use Rattle.html_open.proofs.Staying.{filter-none, filter-same, formatting-plain, markers-map}

nil : {X : Type 0} (v : List X) → v ++ [] ≡ v
nil [] = refl
nil (a ∷ v) = ap (λ w. a ∷ w) (nil v)

module _ (o p : Open) (h : IsOpen o) (c : CanPlace o.tree o.stack) (k : ReopenedFirst o p) (q : IsOpen p) (m : MadeClones o p.tree) where
  abbrev new : List ℕ
  new = fresh o.tree (length k.done)

  abbrev kept : List Entry
  kept = up_to (stands o.stack) o.list

  -- the clones are in the list, so they are formatting elements
  new-listed : (x : ℕ) → has x new ≡ true → has_node x p.list ≡ true
  new-listed x e = ap (has x) (list-nodes o p h c k) ∙ has-left x (nodes_of kept ++ new) k.rest (has-right x (nodes_of kept) new e)

  new-plain : (x : ℕ) → has x new ≡ true → special p.tree x ≡ false
  new-plain x e = formatting-plain (tag_at p.tree x) (q.formatting x (new-listed x e))

  special-kept : filter (special p.tree) p.stack ≡ filter (special o.tree) o.stack
  special-kept =
      ap (filter (special p.tree)) k.stack_is ∙ filter-append (special p.tree) o.stack new
      ∙ ap (λ v. filter (special p.tree) o.stack ++ v) (filter-none (special p.tree) new new-plain) ∙ nil (filter (special p.tree) o.stack)
      ∙ filter-same (special p.tree) (special o.tree) o.stack (λ x e. ap (λ (d : NodeData). is_special (tag_in d)) (label-kept o p.tree m x (h.stack_in x e)))

  markers-kept : filter is_marker p.list ≡ filter is_marker o.list
  markers-kept =
      ap (filter is_marker) k.list_is ∙ filter-append is_marker (kept ++ map Node new) (map Node k.rest)
      ∙ ap (λ v. filter is_marker (kept ++ map Node new) ++ v) (markers-map k.rest) ∙ nil (filter is_marker (kept ++ map Node new))
      ∙ filter-append is_marker kept (map Node new) ∙ ap (λ v. filter is_marker kept ++ v) (markers-map new)
      ∙ sym (ap (filter is_marker) (split-above (stands o.stack) o.list ∙ ap (λ v. kept ++ v) (all-nodes o.stack (above (stands o.stack) o.list) (none-above (stands o.stack) o.list)))
      ∙ filter-append is_marker kept (map Node (closed o)) ∙ ap (λ v. filter is_marker kept ++ v) (markers-map (closed o)))

  pub reopened-survives : Survives o p
  reopened-survives = record {
    no_fewer = labels-longer o p.tree m;
    special_are = special-kept;
    markers_are = markers-kept;
    on_stack = λ x b e. elim (has-either x o.stack new (sym (ap (has x) k.stack_is) ∙ e)) [ inl r ↦ r | inr r ↦ absurd (false≢true (sym (apart o p h c k x (length o.tree.labels) (length k.done) b) ∙ r)) ];
    in_list = λ x b e. elim (has-either x (nodes_of kept ++ new) k.rest (sym (ap (has x) (list-nodes o p h c k)) ∙ e)) [
      | inl r ↦ elim (has-either x (nodes_of kept) new r) [
        | inl s ↦ up-listed o p h c k x s
        | inr s ↦ absurd (false≢true (sym (apart o p h c k x (length o.tree.labels) (length k.done) b) ∙ s))
      ]
      | inr r ↦ rest-listed o p h c k x r
    ];
  }

-- An adoption makes neither the stack nor the list longer.
use Rattle.std.proofs.Common.{◌≡◌, ◌≢◌, ℕ, ◌+◌, ◌≤◌, Bool, true, false, eqb, not, List, [], ◌∷◌, ◌++◌, length, length-append, inl, inr, refl, sym, ◌∙◌, ap, subst, arith}
use Rattle.std.proofs.lemmas.Bool.{false≢true}
use Rattle.std.specs.List.{flat_map, list_any}
use Rattle.html_names.specs.declared.tag.Tag.{Tag}
use Rattle.html_arena.specs.Siblings.{Distinct, has}
use Rattle.html_open.specs.declared.adoption.AdoptEnd.{AdoptEnd}
use Rattle.html_open.specs.declared.entry.Entry.{Entry}
use Rattle.html_open.specs.declared.entry.Entry.TheVariants.{Marker, Node}
use Rattle.html_arena.specs.declared.arena.ArenaError.{ArenaError}
use Rattle.html_open.specs.Adopting.{Adopted, Ends, IsRefusal, Round, Rounds, closes, eight, fewer, forgets, heirs, no_entry, no_round, one_more, originals, out_of_scope, popped, relisted}
use Rattle.html_open.specs.Entries.{has_node, is_node, nodes_of}
use Rattle.html_open.specs.Lists.{above, below, without_last}
use Rattle.html_open.specs.Opened.{IsOpen, Open}
use Rattle.html_open.proofs.Finding.{last_named-in}
use Rattle.html_open.proofs.Keeps.{Distinct-remove, cases_bool, cases_eqb, eqb-self, split-last}
use Rattle.html_open.proofs.Lasting.{not-left, not-right}
use Rattle.html_open.proofs.Numbering.{originals-in}
use Rattle.html_open.proofs.Shrinking.{entry-length, heirs-few, heirs-two, relisted-length, relisted-same-length, round-shorter}

-- the formatting element goes and its clone comes, so the list is no longer
module _ (f : ℕ) (stays : ℕ → Bool) (x0 : ℕ) (cs : List ℕ) (n k : ℕ) where
  none-heirs : (x : ℕ) → eqb x f ≡ true → length (heirs f stays (x0 ∷ cs) n k x) ≡ 0
  none-heirs x e = rw e refl

  other-node : (x y : ℕ) (es : List Entry) → has y (nodes_of (Node x ∷ es)) ≡ true → eqb y x ≡ false → has y (nodes_of es) ≡ true
  other-node x y es h e = rw e at h

  -- where the first of those that are cloned is not there
  shorter-by-one : (es : List Entry) → has f (nodes_of es) ≡ true → has x0 (nodes_of es) ≡ false → length (flat_map (relisted f stays (x0 ∷ cs) n k) es) + 1 ≤ length es
  shorter-by-one [] h g = absurd (let q = h in cc)
  shorter-by-one (Marker ∷ es) h g = (let r = shorter-by-one es h g in omega (arith, r))
  shorter-by-one (Node x ∷ es) h g =
      let a = entry-length f stays (x0 ∷ cs) n k x es in
      let tail : has x0 (nodes_of es) ≡ false = not-first x0 x es g in
      elim (cases_eqb f x) [
        | inl q ↦
            let b = none-heirs x (rw (sym q.1) (eqb-self f)) in
            let r = relisted-same-length f stays (x0 ∷ cs) n k es (λ y m. apart y es m tail) in
            omega (arith, a, b, r)
        | inr q ↦
            let b = heirs-few f stays (x0 ∷ cs) n k x (apart x (Node x ∷ es) (rw (eqb-self x) refl) g) in
            let r = shorter-by-one es (other-node x f es h q.0) tail in
            omega (arith, a, b, r)
      ]
    where
      not-first : (z y : ℕ) (ys : List Entry) → has z (nodes_of (Node y ∷ ys)) ≡ false → has z (nodes_of ys) ≡ false
      not-first z y ys e = elim (cases_eqb z y) [ inl q ↦ absurd (let w = rw q.0 at e in cc) | inr q ↦ rw q.0 at e ]

      apart : (y : ℕ) (ys : List Entry) → has y (nodes_of ys) ≡ true → has x0 (nodes_of ys) ≡ false → eqb y x0 ≡ false
      apart y ys m e = elim (cases_eqb y x0) [ inl q ↦ absurd (let w : has x0 (nodes_of ys) ≡ true = subst (λ z. has z (nodes_of ys) ≡ true) q.1 m in cc) | inr q ↦ q.0 ]

  no-longer : (es : List Entry) → Distinct (nodes_of es) → has f (nodes_of es) ≡ true → f ≢ x0 → length (flat_map (relisted f stays (x0 ∷ cs) n k) es) ≤ length es
  no-longer [] d h g = absurd (let q = h in cc)
  no-longer (Marker ∷ es) d h g = (let r = no-longer es d h g in omega (arith, r))
  no-longer (Node x ∷ es) d h g =
      let a = entry-length f stays (x0 ∷ cs) n k x es in
      elim (cases_eqb f x) [
        | inl q ↦
            let b = none-heirs x (rw (sym q.1) (eqb-self f)) in
            let r = relisted-length f stays (x0 ∷ cs) n k es d.1 in
            omega (arith, a, b, r)
        | inr q ↦ elim (cases_eqb x x0) [
          | inl p ↦
              let b = heirs-two f stays (x0 ∷ cs) n k x in
              let r = shorter-by-one es (other-node x f es h q.0) (subst (λ z. has z (nodes_of es) ≡ false) p.1 d.0) in
              omega (arith, a, b, r)
          | inr p ↦
              let b = heirs-few f stays (x0 ∷ cs) n k x p.0 in
              let r = no-longer es d.1 (other-node x f es h q.0) g in
              omega (arith, a, b, r)
        ]
      ]

below-most : {X : Type 0} (p : X → Bool) (xs : List X) → length (below p xs) ≤ length xs
below-most p [] = omega arith
below-most p (x ∷ xs) = let r = below-most p xs in elim (cases_bool (list_any p xs)) [ inl e ↦ rw e (omega (arith, r)) | inr e ↦ rw e (omega arith) ]

without-most : {X : Type 0} (p : X → Bool) (xs : List X) → length (without_last p xs) ≤ length xs
without-most p xs = elim (cases_bool (list_any p xs)) [
  | inl e ↦ rw e (let r = split-last p xs e in let a = ap length r.1 in let b = length-append (below p xs) (r.0 ∷ above p xs) in let c = length-append (below p xs) (above p xs) in omega (arith, a, b, c))
  | inr e ↦ rw e (omega arith)
]

module _ (s : Tag) (foster : Bool) where
  round-no-longer : (o p : Open) → IsOpen o → Round s foster o p → length p.list ≤ length o.list
  round-no-longer o p h r = (let e = ap length r.list_is in let b = by r.cloned_elements r.cloned_are in omega (arith, e, b))
    where
      f-once : has r.formatting_element r.inner ≡ false
      f-once =
          let a : Distinct (r.lower ++ (r.common_ancestor ∷ r.formatting_element ∷ (r.inner ++ (r.furthest_block ∷ r.upper)))) = subst Distinct r.stack_was h.stack_once in
          let b = (Distinct-remove r.common_ancestor r.lower (r.formatting_element ∷ (r.inner ++ (r.furthest_block ∷ r.upper))) a).0 in
          let c = (Distinct-remove r.formatting_element r.lower (r.inner ++ (r.furthest_block ∷ r.upper)) b).1 in
          not-left r.formatting_element r.inner (r.furthest_block ∷ r.upper) (not-right r.formatting_element r.lower (r.inner ++ (r.furthest_block ∷ r.upper)) c)

      by : (cs : List ℕ) → cs ≡ originals (λ x. has_node x o.list) r.inner → length (flat_map (relisted r.formatting_element (λ x. not (has x r.inner)) cs (length o.tree.labels) r.new_element) o.list) ≤ length o.list
      by [] e = relisted-same-length r.formatting_element (λ x. not (has x r.inner)) [] (length o.tree.labels) r.new_element o.list (λ x m. refl)
      by (x ∷ cs) e =
          no-longer r.formatting_element (λ y. not (has y r.inner)) x cs (length o.tree.labels) r.new_element o.list h.list_once (last_named-in o.tree s o.list r.formatting_element r.formatting)
          (λ q. (let i = (originals-in (λ y. has_node y o.list) r.inner x (subst (λ (v : List ℕ). has x v ≡ true) e (rw (eqb-self x) refl))).0 in
          let j : has r.formatting_element r.inner ≡ true = subst (λ z. has z r.inner ≡ true) (sym q) i in false≢true (sym f-once ∙ j)))

  rounds-narrow : (n : ℕ) (o p : Open) → IsOpen o → Rounds s foster n o p → (length p.stack ≤ length o.stack) × (length p.list ≤ length o.list) × IsOpen p
  rounds-narrow _ _ _ h (no_round o) = (omega arith, omega arith, h)
  rounds-narrow _ _ _ h (one_more n o p q rs r) =
      let i = rounds-narrow n o p h rs in
      let a = round-shorter s foster p q r in
      let b = round-no-longer p q i.2 r in
      let c = i.0 in
      let d = i.1 in
      (omega (arith, a, c), omega (arith, b, d), r.is_open)

  ends-narrow : (end : AdoptEnd) (o p : Open) → Ends s end o p → (length p.stack ≤ length o.stack) × (length p.list ≤ length o.list)
  ends-narrow _ _ _ (closes o p k) =
      ((let a = ap length k.stack_is in let b = below-most (eqb k.formatting_element) o.stack in omega (arith, a, b)), (let a = ap length k.list_is in let b = without-most (is_node k.formatting_element) o.list in omega (arith, a, b)))
  ends-narrow _ _ _ (forgets o p k) = ((let a = ap length k.stack_is in omega (arith, a)), (let a = ap length k.list_is in let b = without-most (is_node k.formatting_element) o.list in omega (arith, a, b)))
  ends-narrow _ _ _ (out_of_scope o p k) = ((let a = ap length k.unchanged.stack_is in omega (arith, a)), (let a = ap length k.unchanged.list_is in omega (arith, a)))
  ends-narrow _ _ _ (no_entry o p k) = ((let a = ap length k.unchanged.stack_is in omega (arith, a)), (let a = ap length k.unchanged.list_is in omega (arith, a)))

  pub adopted-narrow : (end : AdoptEnd) (o p : Open) → IsOpen o → Adopted s foster end o p → (length p.stack ≤ length o.stack) × (length p.list ≤ length o.list)
  adopted-narrow _ _ _ h (popped o p k) =
      ((let a = ap length k.stack_was in let b = length-append p.stack (k.current ∷ []) in omega (arith, a, b)), (let a = ap length k.list_is in omega (arith, a)))
  adopted-narrow _ _ _ h (eight o p n rs) = (let i = rounds-narrow 8 o p h rs in (i.0, i.1))
  adopted-narrow _ _ _ h (fewer end n o p q m l rs k) =
      let i = rounds-narrow n o p h rs in
      let j = ends-narrow end p q k in
      let a = i.0 in
      let b = i.1 in
      let c = j.0 in
      let d = j.1 in
      (omega (arith, a, c), omega (arith, b, d))

  pub refused-narrow : (o p : Open) (e : ArenaError) → IsOpen o → IsRefusal s foster o p e → (length p.stack ≤ length o.stack) × (length p.list ≤ length o.list)
  refused-narrow o p e h k =
      let i = rounds-narrow k.n o k.p h k.rounds in
      let a = i.0 in
      let b = i.1 in
      let c = ap length k.stopped.stack_is in
      let d = ap length k.stopped.list_is in
      (omega (arith, a, c), omega (arith, b, d))

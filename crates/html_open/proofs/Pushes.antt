-- The first entry that passes, and what a push displaces.
use Rattle.std.proofs.Common.{◌≡◌, ℕ, zero, suc, ◌+◌, ◌-◌, ◌<◌, ◌≤◌, Bool, true, false, eqb, nat_le, List, [], ◌∷◌, ◌++◌, length, take, drop, get_or, Option, Some, None, inl, inr, refl, sym, ◌∙◌, ap, subst, append_assoc, arith}
use Rattle.std.proofs.lemmas.List.{take_rest, take_more, length-drop}
use Rattle.std.proofs.lemmas.Bool.Decides.{nat_tests}
use Rattle.std.specs.List.{list_any}
use Rattle.std.specs.Prelude.{remove, count_by}
use Rattle.html_open.specs.declared.entry.Entry.{Entry}
use Rattle.html_open.specs.declared.entry.Entry.TheVariants.{Marker, Node}
use Rattle.html_open.specs.Entries.{IsDisplaced, IsFirst, alike, has_three, is_marker, node_in, nodes_of}
use Rattle.html_open.specs.Opened.{AreNodes}
use Rattle.html_arena.specs.Siblings.{has}
use Rattle.html_arena.specs.Tree.{Tree}
use Rattle.html_open.specs.Lists.{above, after_first, after_index, first_where, last_index, up_to, without_first}
use Rattle.html_open.proofs.Keeps.{cases_bool}
use Rattle.html_open.proofs.Lists.{after-above, after-up_to, get_or-default}

-- no entry before the index passes
pub record Passed (p : Entry → Bool) (xs : List Entry) (i : ℕ) : Type 0 where
  pub any_is : list_any p xs ≡ list_any p (drop i xs)
  pub first_is : first_where p xs ≡ first_where p (drop i xs)
  pub without_is : without_first p xs ≡ take i xs ++ without_first p (drop i xs)
  pub after_is : after_first p xs ≡ after_first p (drop i xs)

split-at : {X : Type 0} (xs : List X) (i : ℕ) (d : X) → i < length xs → drop i xs ≡ get_or xs i d ∷ drop (i + 1) xs
split-at [] i d l = absurd (omega arith)
split-at (x ∷ xs) zero d l = refl
split-at (x ∷ xs) (suc i) d l = split-at xs i d (omega arith) ∙ ap (λ n. get_or xs i d ∷ drop n (x ∷ xs)) (let k : suc (i + 1) ≡ suc i + 1 = omega arith in k)

pub passed-begin : (p : Entry → Bool) (xs : List Entry) → Passed p xs 0
passed-begin p xs = record { any_is = refl; first_is = refl; without_is = refl; after_is = refl }

pub passed-step : (p : Entry → Bool) (xs : List Entry) (i : ℕ) (d : Entry) → Passed p xs i → i < length xs → p (get_or xs i d) ≡ false → Passed p xs (i + 1)
passed-step p xs i d k l n =
    let e = split-at xs i d l in
    record {
      any_is = k.any_is ∙ ap (list_any p) e ∙ rw n refl;
      first_is = k.first_is ∙ ap (first_where p) e ∙ rw n refl;
      without_is = k.without_is ∙ ap (λ v. take i xs ++ without_first p v) e ∙ rw n (sym (append_assoc (take i xs) (get_or xs i d ∷ []) (without_first p (drop (i + 1) xs))) ∙ ap (λ v. v ++ without_first p (drop (i + 1) xs)) (sym (take_more xs i d l)));
      after_is = k.after_is ∙ ap (after_first p) e ∙ rw n refl;
    }

pub passed-end : (p : Entry → Bool) (xs : List Entry) (i : ℕ) → Passed p xs i → length xs ≤ i → list_any p xs ≡ false
passed-end p xs i k l = k.any_is ∙ ap (list_any p) (drop-all xs i l)
  where
    drop-all : (xs : List Entry) (i : ℕ) → length xs ≤ i → drop i xs ≡ []
    drop-all [] zero l = refl
    drop-all [] (suc i) l = refl
    drop-all (x ∷ xs) zero l = absurd (omega arith)
    drop-all (x ∷ xs) (suc i) l = drop-all xs i (omega arith)

pub passed-hit : (p : Entry → Bool) (xs : List Entry) (i : ℕ) (d : Entry) → Passed p xs i → i < length xs → p (get_or xs i d) ≡ true → IsFirst p xs i
passed-hit p xs i d k l h =
    let e = split-at xs i Marker l in
    let t : p (get_or xs i Marker) ≡ true = ap p (get_or-default xs i Marker d l) ∙ h in
    let n : i + 1 ≡ suc i = omega arith in
    record {
      within = l;
      first_is = k.first_is ∙ ap (first_where p) e ∙ rw t refl;
      without_is = k.without_is ∙ ap (λ v. take i xs ++ without_first p v) e ∙ rw t (ap (λ m. take i xs ++ drop m xs) n);
      after_is = (let a : after_first p xs ≡ drop (i + 1) xs = k.after_is ∙ ap (after_first p) e ∙ rw t refl in let b = ap length a in let c = length-drop (i + 1) xs in omega arith);
    }

pub recent-is : (p : Entry → Bool) (xs : List Entry) (o : Option ℕ) (k : ℕ) → k ≡ after_index o → o ≡ last_index p xs → take (length xs - k) (drop k xs) ≡ above p xs
recent-is p xs o k e h = take_rest xs k ∙ ap (λ n. drop n xs) e ∙ after-above p xs o h

-- the elements after the last that passes are among all
above-nodes : (p : Entry → Bool) (xs : List Entry) (x : ℕ) → has x (nodes_of (above p xs)) ≡ true → has x (nodes_of xs) ≡ true
above-nodes p [] x h = h
above-nodes p (e ∷ es) x h = elim (cases_bool (list_any p es)) [
  | inl a ↦ tail e (above-nodes p es x (rw a at h))
  | inr a ↦ elim (cases_bool (p e)) [
    | inl b ↦ tail e (rw (a, b) at h)
    | inr b ↦ rw (a, b) at h
  ]
]
  where
    tail : (e : Entry) → has x (nodes_of es) ≡ true → has x (nodes_of (e ∷ es)) ≡ true
    tail Marker k = k
    tail (Node y) k = elim (cases_bool (eqb x y)) [ inl q ↦ rw q refl | inr q ↦ rw q k ]

pub recent-nodes : (t : Tree) (p : Entry → Bool) (xs ys : List Entry) → ys ≡ above p xs → AreNodes t (nodes_of xs) → AreNodes t (nodes_of ys)
recent-nodes t p xs ys e h x k = h x (above-nodes p xs x (subst (λ (v : List Entry). has x (nodes_of v) ≡ true) e k))

none-count : (p : Entry → Bool) (xs : List Entry) → list_any p xs ≡ false → count_by p xs ≡ 0
none-count p [] h = refl
none-count p (x ∷ xs) h = elim (cases_bool (p x)) [
  | inl f ↦ absurd (let g : list_any p (x ∷ xs) ≡ true = rw f refl in cc)
  | inr f ↦ (let g : list_any p xs ≡ false = rw f at h in rw f (none-count p xs g))
]

later-remove : (xs : List Entry) (k i j : ℕ) → j ≡ k + i → k ≤ length xs → remove xs j ≡ take k xs ++ remove (drop k xs) i
later-remove xs zero i j e l = ap (remove xs) (let q : j ≡ i = omega arith in q)
later-remove [] (suc k) i j e l = absurd (omega arith)
later-remove (x ∷ xs) (suc k) i zero e l = absurd (omega arith)
later-remove (x ∷ xs) (suc k) i (suc j) e l = ap (λ v. x ∷ v) (later-remove xs k i j (omega arith) (omega arith))

later-get : (xs : List Entry) (k i j : ℕ) (d : Entry) → j ≡ k + i → k ≤ length xs → get_or xs j d ≡ get_or (drop k xs) i d
later-get xs zero i j d e l = ap (λ n. get_or xs n d) (let q : j ≡ i = omega arith in q)
later-get [] (suc k) i j d e l = absurd (omega arith)
later-get (x ∷ xs) (suc k) i zero d e l = absurd (omega arith)
later-get (x ∷ xs) (suc k) i (suc j) d e l = later-get xs k i j d (omega arith) (omega arith)

module _ (t : Tree) (x : ℕ) (xs : List Entry) where
  pub displaced-few : (ys : List Entry) (n : ℕ) → ys ≡ above is_marker xs → n ≡ count_by (alike t x) ys → n < 3 → IsDisplaced t x xs None
  displaced-few ys n e f l =
      let c : count_by (alike t x) (above is_marker xs) ≡ n = ap (count_by (alike t x)) (sym e) ∙ sym f in
      let m : nat_le 3 n ≡ false = grind (arith, nat_tests) in
      let h : has_three t x xs ≡ false = ap (nat_le 3) c ∙ m in
      record { within = tt; node_is = rw h refl; list_is = rw h refl; steps_are = rw h refl }

  pub displaced-none : (ys : List Entry) (n : ℕ) → n ≡ count_by (alike t x) ys → 3 ≤ n → list_any (alike t x) ys ≡ false → IsDisplaced t x xs None
  displaced-none ys n f l a = absurd (let z = none-count (alike t x) ys a in omega arith)

  pub displaced-some : (ys : List Entry) (n i k j : ℕ) (o : Option ℕ) → ys ≡ above is_marker xs → ys ≡ take (length xs - k) (drop k xs) → o ≡ last_index is_marker xs → k ≡ after_index o → k ≤ length xs
      → n ≡ count_by (alike t x) ys → 3 ≤ n → IsFirst (alike t x) ys i → j ≡ k + i → IsDisplaced t x xs (Some j)
  displaced-some ys n i k j o e g ho hk le f l p hj =
      let c : count_by (alike t x) (above is_marker xs) ≡ n = ap (count_by (alike t x)) (sym e) ∙ sym f in
      let m : nat_le 3 n ≡ true = grind (arith, nat_tests) in
      let h : has_three t x xs ≡ true = ap (nat_le 3) c ∙ m in
      let d : drop k xs ≡ ys = sym (g ∙ take_rest xs k) in
      let u : take k xs ≡ up_to is_marker xs = ap (λ q. take q xs) hk ∙ after-up_to is_marker xs o ho in
      let size = ap length d in
      let dropped = length-drop k xs in
      let w = p.within in
      record {
        within = omega arith;
        node_is = rw h (ap (λ v. node_in (Some v)) (later-get xs k i j Marker hj le ∙ ap (λ v. get_or v i Marker) d) ∙ ap node_in (sym p.first_is ∙ ap (first_where (alike t x)) e));
        list_is = rw h (later-remove xs k i j hj le ∙ ap (λ v. v ++ remove (drop k xs) i) u ∙ ap (λ v. up_to is_marker xs ++ v) (ap (λ v. remove v i) d ∙ sym p.without_is ∙ ap (without_first (alike t x)) e));
        steps_are = rw h (let q = p.after_is in let r = ap (λ v. length (after_first (alike t x) v)) e in omega arith);
      }

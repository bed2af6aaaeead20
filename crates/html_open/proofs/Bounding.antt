-- What a reopening counts at most, whether it ends or is refused.
use Rattle.std.proofs.Common.{◌≡◌, ℕ, zero, suc, ◌+◌, ◌*◌, ◌<◌, ◌≤◌, Bool, false, List, [], ◌∷◌, ◌++◌, length, length-append, get_or, Option, Some, None, Result, Ok, Err, OnErr, inl, inr, refl, ◌∙◌, ap, subst, arith}
use Rattle.std.proofs.Math.Nat.{suc-mul}
use Rattle.std.proofs.lemmas.Nat.{mul-le}
use Rattle.std.specs.List.{list_any}
use Rattle.html_arena.specs.declared.data.NewNode.TheVariants.{CloneOf}
use Rattle.html_arena.specs.Make.{made}
use Rattle.html_arena.specs.Tree.{Tree, more}
use Rattle.html_open.specs.declared.entry.Entry.{Entry}
use Rattle.html_open.specs.declared.entry.Entry.TheVariants.{Marker, Node}
use Rattle.html_open.specs.Lists.{above, last_where}
use Rattle.html_open.specs.Marking.{charged}
use Rattle.html_open.specs.Opened.{Open}
use Rattle.html_open.specs.Placing.{place_of, place_steps, target_of}
use Rattle.html_open.specs.Reopening.{clone_steps, closed, end_steps, reopen_steps, search_steps, stands, with_clone}
use Rattle.html_open.proofs.Costing.{closed-length}
use Rattle.html_open.proofs.Counting.{looked-few, place-few}
use Rattle.html_open.proofs.Keeps.{cases_bool}
use Rattle.html_open.proofs.Reopened.{UnderWay, has-parent-made, next-element, place-parent, steps-put}

end-few : (o : Option Entry) → end_steps o ≤ 2
end-few None = omega arith
end-few (Some Marker) = omega arith
end-few (Some (Node x)) = omega arith

last-none : (p : Entry → Bool) (xs : List Entry) → list_any p xs ≡ false → last_where p xs ≡ None
last-none p [] h = refl
last-none p (x ∷ xs) h = elim (cases_bool (p x)) [
  | inl a ↦ absurd (let k = rw a at h in cc)
  | inr a ↦ (let k : list_any p xs ≡ false = rw a at h in rw (k, a) refl)
]

search-few : (p : Entry → Bool) (l : List Entry) → search_steps p l ≤ 2 * length l
search-few p l = (let h = looked-few p l in elim (cases_bool (list_any p l)) [
  | inl a ↦ (let k : length (above p l) + 1 ≤ length l = rw a at h in let e = end-few (last_where p l) in omega (arith, k, e))
  | inr a ↦ (let k : length (above p l) + 0 ≤ length l = rw a at h in let e : end_steps (last_where p l) ≡ 0 = ap end_steps (last-none p l a) in omega (arith, k, e))
])

clones-few : (xs : List ℕ) (t : Tree) (s : List ℕ) (f : Bool) (m : ℕ) → length s + length xs ≤ m → clone_steps t s f xs ≤ length xs * (m + 5)
clones-few [] t s f m h = omega arith
clones-few (x ∷ xs) t s f m h =
    let p = place-few t s (target_of s None) f in
    let l = length-append s (length t.labels ∷ []) in
    let r = clones-few xs (with_clone t s f x) (s ++ length t.labels ∷ []) f m (omega (arith, h, l)) in
    let e = suc-mul (length xs) (m + 5) in
    omega (arith, h, p, r, e)

pub reopen-few : (o : Open) (f : Bool) → reopen_steps o f ≤ length o.list * (length o.stack + length o.list + 7)
reopen-few o f =
    let l = length o.list in
    let h = length o.stack in
    let a = search-few (stands o.stack) o.list in
    let k = closed-length o in
    let c = clones-few (closed o) o.tree o.stack f (h + l) (omega (arith, k)) in
    let d = mul-le (length (closed o)) (h + l + 5) l (h + l + 5) (omega (arith, k)) (omega arith) in
    let e : l * (h + l + 7) ≡ l * (h + l + 5) + 2 * l = ap (λ n. l * n) (let i : h + l + 7 ≡ (h + l + 5) + 2 = omega arith in i) ∙ split l (h + l + 5) in
    omega (arith, a, c, d, e)
  where
    split : (l b : ℕ) → l * (b + 2) ≡ l * b + 2 * l
    split zero b = omega arith
    split (suc l) b = (let r = split l b in let u = suc-mul l (b + 2) in let v = suc-mul l b in omega (arith, r, u, v))

pub on-err : {A E P : Type 0} (r : Result A E) → P → OnErr r P
on-err (Ok a) p = tt
on-err (Err e) p = p

-- the clone that was put there, and was not pushed
pub tried-steps : (t u v : Tree) (s : List ℕ) (f : Bool) (x : ℕ) → u ≡ with_clone (charged t (place_steps t s None f)) s f x → v ≡ u → v.steps ≤ more t.steps (place_steps t s None f + 2)
tried-steps t u v s f x e g =
    let k = place_steps t s None f in
    let a = steps-put (made (charged t k) (CloneOf x)) (place_of t s None f) (length t.labels) (has-parent-made t k x (place_of t s None f) (place-parent t s f)) in
    let b : v.steps ≡ more (more (more t.steps k) 1) 1 = ap (λ (w : Tree). w.steps) (g ∙ e) ∙ a in
    omega (arith, b)

pub placed-steps : (t u : Tree) (s : List ℕ) (f : Bool) → u ≡ charged t (place_steps t s None f) → u.steps ≤ more t.steps (place_steps t s None f + 2)
placed-steps t u s f e = (let b = ap (λ (w : Tree). w.steps) e in omega (arith, b))

-- at every turn, and where the next entry is refused
module _ (f : Bool) (o : Open) (i : ℕ) (s : List ℕ) (l : List Entry) (t : Tree) (u : UnderWay f o i s l t) where
  pub under-way-few : t.steps ≤ o.tree.steps + length o.list * (length o.stack + length o.list + 7)
  under-way-few = (let a = u.steps_end in let b = u.small in let c = reopen-few o f in omega (arith, a, b, c))

  pub refused-few : (d : Entry) (x : ℕ) (v : Tree) → i < length l → get_or l i d ≡ Node x → v.steps ≤ more t.steps (place_steps t s None f + 2) → v.steps ≤ o.tree.steps + length o.list * (length o.stack + length o.list + 7)
  refused-few d x v b g h =
      let r = next-element f o i s l t u d x b g in
      let a : more t.steps (clone_steps t s f (x ∷ r.0)) ≡ more o.tree.steps (reopen_steps o f) = subst (λ xs. more t.steps (clone_steps t s f xs) ≡ more o.tree.steps (reopen_steps o f)) r.1 u.steps_end in
      let c = reopen-few o f in
      omega (arith, a, c, h)

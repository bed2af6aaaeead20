-- What a call answers that only reads: members of the stack and of the list.
use Rattle.std.proofs.Common.{◌≡◌, ℕ, ◌-◌, ◌<◌, true, eqb, List, [], ◌∷◌, length, get_or, IfSome, Option, Some, None, sym, ◌∙◌, ap, subst, arith}
use Rattle.html_names.specs.declared.tag.Tag.{Tag}
use Rattle.html_arena.specs.Siblings.{has, last_of}
use Rattle.html_arena.specs.Tree.{Tree, named}
use Rattle.html_open.specs.declared.entry.Entry.{Entry}
use Rattle.html_open.specs.Entries.{has_node, last_named}
use Rattle.html_open.specs.Lists.{last_index, with_last}
use Rattle.html_open.proofs.Finding.{last_named-in, last_where-passes}
use Rattle.html_open.proofs.Fostering.{last_of-at}
use Rattle.html_open.proofs.Keeps.{eqb-true}
use Rattle.html_open.proofs.Lists.{has-at, last_where-at}
use Rattle.html_open.proofs.Ordering.{has-right}
use Rattle.html_open.proofs.Upwards.{has-first}

-- the last element
pub last-member : (xs : List ℕ) (o : Option ℕ) → o ≡ last_of xs → IfSome o (λ x. has x xs ≡ true)
last-member xs None e = tt
last-member [] (Some x) e = absurd (let k = e in cc)
last-member (y ∷ ys) (Some x) e =
    let l = last_of-at (y ∷ ys) 0 (omega arith) in
    let q : x ≡ get_or (y ∷ ys) (length (y ∷ ys) - 1) 0 = (let k : Some x ≡ Some (get_or (y ∷ ys) (length (y ∷ ys) - 1) 0) = e ∙ l in cc) in
    subst (λ (v : ℕ). has v (y ∷ ys) ≡ true) (sym q) (has-at (y ∷ ys) (length (y ∷ ys) - 1) 0 (omega arith))

pub popped-member : (s s' : List ℕ) (o : Option ℕ) → s ≡ with_last s' o → IfSome o (λ x. has x s ≡ true)
popped-member s s' None e = tt
popped-member s s' (Some x) e = subst (λ (v : List ℕ). has x v ≡ true) (sym e) (has-right x s' (x ∷ []) (has-first x []))

-- the element at an index
pub at-member : (xs ys : List ℕ) (i x : ℕ) → xs ≡ ys → i < length ys → x ≡ get_or xs i x → has x ys ≡ true
at-member xs ys i x q l e = subst (λ (v : ℕ). has v ys ≡ true) (sym (e ∙ ap (λ (v : List ℕ). get_or v i x) q)) (has-at ys i x l)

pub index-there : (xs : List ℕ) (x : ℕ) (o : Option ℕ) → o ≡ last_index (eqb x) xs → IfSome o (λ i. get_or xs i 0 ≡ x)
index-there xs x None e = tt
index-there xs x (Some i) e = sym (eqb-true x (get_or xs i 0) (last_where-passes (eqb x) xs (get_or xs i 0) (last_where-at (eqb x) xs i 0 (sym e))))

-- the last entry of a name
pub named-member : (t : Tree) (s : Tag) (es : List Entry) (o : Option ℕ) → o ≡ last_named t s es → IfSome o (λ x. has_node x es ≡ true)
named-member t s es None e = tt
named-member t s es (Some x) e = last_named-in t s es x (sym e)

pub named-there : (t : Tree) (name : Tag) (xs ys : List ℕ) (o : Option ℕ) → xs ≡ ys → o ≡ last_index (named t name) xs → IfSome o (λ i. named t name (get_or ys i 0) ≡ true)
named-there t name xs ys None q e = tt
named-there t name xs ys (Some i) q e =
    ap (λ (v : List ℕ). named t name (get_or v i 0)) (sym q) ∙ last_where-passes (named t name) xs (get_or xs i 0) (last_where-at (named t name) xs i 0 (sym e))

-- A tag holds no more code points than it has, and the names of its attributes are some and apart.
use Rattle.std.proofs.Common.{◌≡◌, ℕ, zero, suc, ◌+◌, ◌<◌, ◌≤◌, List, [], ◌∷◌, ◌++◌, length, map, Bool, true, false, ◌&&◌, ◌||◌, ◌==◌, cond, refl, sym, arith}
use Rattle.std.proofs.lemmas.List.{length-map}
use Rattle.std.specs.List.{slice_get, AllByRecursion}
use Rattle.std.specs.Str.{bytes_eq}
use Rattle.std.proofs.lemmas.Bool.{false≢true}
use Rattle.html_charref.specs.Table.{IsTable}
use Rattle.html_charref.specs.declared.table.Row.{Row}
use Rattle.html_tokens.specs.Cost.{attrs_len, AreApart, AreNamed}
use Rattle.html_tokens.specs.Cut.{cut, is, is_space, stop_mark}
use Rattle.html_tokens.specs.Tag.{Named, Tail, Tag, tail, tag_of, attribute, longer_tail, with_attr, name_char, ends_attr, ends_name, has_name, add_first, firsts_after}
use Rattle.html_tokens.specs.declared.attributes.Attr.{Attr}
use Rattle.html_tokens.proofs.CostCuts.{cond_both, right, is_there, stop_fits, cut_fits, after_some_fits}

-- an attribute holds no more code points than belong to it
pub record NamedFits (a : Named) (n : ℕ) : Type 0 where
  pub holds : length a.attr.name + length a.attr.value ≤ suc a.len
  pub within : a.len ≤ n
  pub some : 0 < length a.attr.name

attribute_fits : (rows : List Row) (c : ℕ) (text : List ℕ) → IsTable rows → NamedFits (attribute rows (c ∷ []) [] text) (length text)
attribute_fits rows c text t =
    let more = cut (stop_mark ends_attr) text in
    let f = cut_fits (stop_mark ends_attr) (stop_fits ends_attr) text in
    let a = f.0 in
    let g = after_some_fits rows more.len text t f.1 in
    let b = g.before in
    let l : length (map name_char more.before) ≡ length more.before = length-map more.before name_char in
    record { holds = omega arith; within = g.within; some = omega arith }

-- the attributes of a tail hold no more code points than it has, and each has a name
pub record TailFits (k : ℕ) (t : Tail) (n : ℕ) : Type 0 where
  pub holds : k + attrs_len t.attrs ≤ t.len
  pub within : t.len ≤ n
  pub named : AllByRecursion (λ a. 0 < length a.name) t.attrs

longer_fits : (k n : ℕ) (t : Tail) → TailFits k t n → TailFits (suc k) (longer_tail t) (suc n)
longer_fits k n t f = let h = f.holds in let w = f.within in record { holds = omega arith; within = omega arith; named = f.named }

less_fits : (k n : ℕ) (t : Tail) → TailFits (suc k) t n → TailFits k t n
less_fits k n t f = let h = f.holds in record { holds = omega arith; within = f.within; named = f.named }

with_fits : (a : Named) (t : Tail) (n : ℕ) → NamedFits a n → TailFits a.len t n → TailFits 0 (with_attr a.attr (longer_tail t)) (suc n)
with_fits a t n f g =
    let h = f.holds in let i = g.holds in let w = g.within in
    record { holds = omega arith; within = omega arith; named = (f.some, g.named) }

pub tail_fits : (rows : List Row) (k : ℕ) (text : List ℕ) → IsTable rows → k ≤ length text → TailFits k (tail rows k text) (length text)
unfolding tail
tail_fits rows zero [] t h = record { holds = omega arith; within = omega arith; named = tt }
tail_fits rows (suc k) [] t h = absurd (omega arith)
tail_fits rows zero (c ∷ rest) t h =
    let n = suc (length rest) in
    let P : Tail → Type 0 = λ x. TailFits 0 x n in
    let named = attribute rows (name_char c ∷ []) [] rest in
    let closed : Tail = record { attrs = []; self_closing = false; closed = true; len = 1 } in
    let slash : Tail = record { attrs = []; self_closing = true; closed = true; len = 2 } in
    let skip = longer_tail (tail rows 0 rest) in
    let more = with_attr named.attr (longer_tail (tail rows named.len rest)) in
    let f = attribute_fits rows (name_char c) rest t in
    let w = f.within in
    cond_both P (c == 62) closed (cond (c == 47 && is 62 (slice_get rest 0)) slash (cond (c == 47 || is_space c) skip more))
    (λ e. record { holds = omega arith; within = omega arith; named = tt })
    (λ e. cond_both P (c == 47 && is 62 (slice_get rest 0)) slash (cond (c == 47 || is_space c) skip more)
    (λ g. let i = is_there 62 rest 0 (right (c == 47) (is 62 (slice_get rest 0)) g) in record { holds = omega arith; within = omega arith; named = tt })
    (λ g. cond_both P (c == 47 || is_space c) skip more
    (λ i. less_fits 0 n skip (longer_fits 0 (length rest) (tail rows 0 rest) (tail_fits rows 0 rest t (omega arith))))
    (λ i. with_fits named (tail rows named.len rest) (length rest) f (tail_fits rows named.len rest t w))))
tail_fits rows (suc k) (c ∷ rest) t h = longer_fits k (length rest) (tail rows k rest) (tail_fits rows k rest t (omega arith))

all_push : (P : Attr → Type 0) (xs : List Attr) (a : Attr) → AllByRecursion P xs → P a → AllByRecursion P (xs ++ a ∷ [])
all_push P [] a h p = (p, tt)
all_push P (x ∷ xs) a h p = (h.0, all_push P xs a h.1 p)

neither : (a b : Bool) → (a || b) ≡ false → (a ≡ false) × (b ≡ false)
neither true b h = absurd (false≢true (sym h))
neither false b h = (refl, h)

all_apart : (name : List ℕ) (x : Attr) (xs : List Attr) → has_name name (x ∷ xs) ≡ false → (bytes_eq x.name name ≡ false) × (has_name name xs ≡ false)
all_apart name x xs h = neither (bytes_eq x.name name) (has_name name xs) h

apart_push : (xs : List Attr) (a : Attr) → AreApart xs → has_name a.name xs ≡ false → AreApart (xs ++ a ∷ [])
apart_push [] a d h = (tt, tt)
apart_push (x ∷ xs) a d h =
    let k = all_apart a.name x xs h in
    (all_push (λ y. bytes_eq x.name y.name ≡ false) xs a d.0 k.0, apart_push xs a d.1 k.1)

attrs_len_push : (xs : List Attr) (a : Attr) → attrs_len (xs ++ a ∷ []) ≡ attrs_len xs + (length a.name + length a.value)
attrs_len_push [] a = omega arith
attrs_len_push (x ∷ xs) a = let e = attrs_len_push xs a in omega arith

-- what is kept of attributes, the first of each name
pub record KeptFits (kept : List Attr) (n : ℕ) : Type 0 where
  pub holds : attrs_len kept ≤ n
  pub named : AreNamed kept

kept_add : (kept : List Attr) (a : Attr) (n : ℕ) → 0 < length a.name → KeptFits kept n → KeptFits (add_first kept a) (n + (length a.name + length a.value))
kept_add kept a n s f =
    let m = n + (length a.name + length a.value) in
    let h = f.holds in
    let e = attrs_len_push kept a in
    cond_both (λ (x : List Attr). KeptFits x m) (has_name a.name kept) kept (kept ++ a ∷ [])
    (λ y. record { holds = omega arith; named = f.named })
    (λ y. record { holds = omega arith; named = (all_push (λ b. 0 < length b.name) kept a f.named.0 s, apart_push kept a f.named.1 y) })

pub firsts_fit : (kept more : List Attr) (n : ℕ) → AllByRecursion (λ a. 0 < length a.name) more → KeptFits kept n → KeptFits (firsts_after kept more) (n + attrs_len more)
firsts_fit kept [] n s f = let h = f.holds in record { holds = omega arith; named = f.named }
firsts_fit kept (a ∷ more) n s f =
    let g = firsts_fit (add_first kept a) more (n + (length a.name + length a.value)) s.1 (kept_add kept a n s.0 f) in
    let h = g.holds in
    record { holds = omega arith; named = g.named }

-- a tag holds no more code points than it has
pub record TagFits (t : Tag) (n : ℕ) : Type 0 where
  pub holds : length t.name + attrs_len t.tail.attrs ≤ t.tail.len
  pub within : t.tail.len ≤ n
  pub named : AreNamed t.tail.attrs

pub tag_fits : (rows : List Row) (text : List ℕ) → IsTable rows → TagFits (tag_of rows text) (length text)
tag_fits rows text t =
    let name = cut (stop_mark ends_name) text in
    let f = cut_fits (stop_mark ends_name) (stop_fits ends_name) text in
    let a = f.0 in
    let g = tail_fits rows name.len text t f.1 in
    let k = firsts_fit [] (tail rows name.len text).attrs 0 g.named (record { holds = omega arith; named = (tt, tt) }) in
    let h = g.holds in let i = k.holds in
    let l : length (map name_char name.before) ≡ length name.before = length-map name.before name_char in
    record { holds = omega arith; within = g.within; named = k.named }

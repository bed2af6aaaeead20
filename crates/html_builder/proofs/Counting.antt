-- How many steps the tokens of a page count.
use Rattle.std.proofs.Common.{ℕ, zero, suc, ◌+◌, ◌*◌, ◌-◌, ◌≡◌, ◌<◌, ◌≤◌, Bool, true, false, cond, List, [], ◌∷◌, ◌++◌, length, length-append, Option, Some, inl, inr, refl, ap, subst, ◌∙◌, arith}
use Rattle.std.specs.Prelude.{filter, not, slice_get}
use Rattle.std.specs.List.{sum_by}
use Rattle.std.proofs.Math.Nat.{max-le}
use Rattle.std.proofs.lemmas.Nat.{mul-le}
use Rattle.std.proofs.lemmas.List.Sums.{sum_by-append, sum_by-cons}
use Rattle.html_names.specs.Names.{name_of, tag_of}
use Rattle.html_names.specs.Sets.{is_formatting}
use Rattle.html_names.specs.declared.tag.Tag.{Tag}
use Rattle.html_arena.specs.declared.data.NodeData.{NodeData}
use Rattle.html_arena.specs.declared.data.NodeData.TheVariants as node
use Rattle.html_arena.specs.declared.data.Origin.{Origin}
use Rattle.html_arena.specs.declared.data.Origin.TheVariants.{Implied, Nothing, Token}
use Rattle.html_arena.specs.Data.{attrs_in, is_clone_in, label_in, name_in, tag_in}
use Rattle.html_arena.specs.Merge.{has_name, lacking, merged}
use Rattle.html_arena.specs.Siblings.{is_in}
use Rattle.html_tokens.specs.declared.attributes.Attr.{Attr}
use Rattle.html_tokens.specs.declared.token.TokenKind.{TokenKind}
use Rattle.html_tokens.specs.declared.token.TokenKind.TheVariants as kind
use Rattle.html_open.proofs.Keeps.{cases_bool}
use Rattle.html_ledger.specs.declared.fate.Fate.{Fate}
use Rattle.html_construction.specs.Built.{Handed as Given, IsBuilt}
use Rattle.html_construction.specs.Copies.{greatest, implied_count, implied_in}
use Rattle.html_construction.specs.Origins.{AreOrigins, HasElementOrigin, HasOrigin, IsOfTag, is_foreign_at, with_later}
use Rattle.html_construction.specs.States.{State}
use Rattle.html_construction.specs.Tokens.{attrs_of, foreign_attrs}
use Rattle.html_construction.proofs.Lengths.{foreign_attrs-count}
use Rattle.html_construction.specs.Weights.{weight}
use Rattle.html_construction.specs.Works.{broadest, deepest, reach, reach_of, span, span_of, tokenless, tokenless_in, toll}
use Rattle.html_modes.specs.Ranks.{top_rank}
use Rattle.html_modes.specs.Steps.{Toils, allowance, fee_of, turn_of}
use Rattle.html_builder.specs.Handed.{attribute_count, attribute_total, most_compared}
use Rattle.html_builder.specs.Outcome.{most_tree_steps}
use Rattle.html_builder.proofs.Holding.{alone-plain}

-- HOW MANY ATTRIBUTES A NODE HAS

filter-few : (p : Attr → Bool) (xs : List Attr) → length (filter p xs) ≤ length xs
filter-few p [] = omega arith
filter-few p (a ∷ xs) = let r = filter-few p xs in elim (cases_bool (p a)) [ inl e ↦ rw e (omega (arith, r)) | inr e ↦ rw e (omega (arith, r)) ]

merged-few : (own more : List Attr) → length (merged own more) ≤ length own + length more
merged-few own more =
    let a = length-append own (lacking own more) in
    let b = filter-few (λ a. not (has_name a.name own)) more in
    omega (arith, a, b)

home-few : (x : ℕ) (own : List Attr) (t : TokenKind) (h : Option ℕ) → length (cond (is_in x h) (merged own (attrs_of t)) own) ≤ length own + attribute_count t
home-few x own t h = elim (cases_bool (is_in x h)) [ inl e ↦ rw e (merged-few own (attrs_of t)) | inr e ↦ rw e (omega arith) ]

later-few : (x : ℕ) (own : List Attr) (ts : List TokenKind) (hs : List (Option ℕ)) → length (with_later x own ts hs) ≤ length own + attribute_total ts
later-few x own [] hs = omega arith
later-few x own (t ∷ ts) [] = omega arith
later-few x own (t ∷ ts) (h ∷ hs) =
    let a = home-few x own t h in
    let b = later-few x (cond (is_in x h) (merged own (attrs_of t)) own) ts hs in
    let c = sum_by-cons attribute_count t ts in
    omega (arith, a, b, c)

-- a token has no more attributes than all
one-of : (i : ℕ) (u : TokenKind) (ts : List TokenKind) → slice_get ts i ≡ Some u → attribute_count u ≤ attribute_total ts
one-of i u [] e = absurd (let k = e in cc)
one-of zero u (t ∷ ts) e =
    let q : t ≡ u = (let k : Some t ≡ Some u = e in cc) in
    let a : attribute_count t ≡ attribute_count u = ap attribute_count q in
    let c = sum_by-cons attribute_count t ts in
    omega (arith, a, c)
one-of (suc i) u (t ∷ ts) e = let a = one-of i u ts e in let c = sum_by-cons attribute_count t ts in omega (arith, a, c)

attrs-few : (x : ℕ) (ts : List TokenKind) (fs : List Fate) (hs : List (Option ℕ)) (d : NodeData) → HasOrigin x ts fs hs d → length (attrs_in d) ≤ 2 * attribute_total ts
attrs-few x ts fs hs node.Document o = omega arith
attrs-few x ts fs hs (node.Contents h) o = omega arith
attrs-few x ts fs hs (node.Text s) o = omega arith
attrs-few x ts fs hs (node.Comment s i) o = omega arith
attrs-few x ts fs hs (node.Doctype n p s i) o = omega arith
attrs-few x ts fs hs (node.Element r) o = by-origin r.origin r.tag r.name r.attrs o
  where
    by-tag : (b : Bool) (i : ℕ) (h : Tag) (name : List ℕ) (own : List Attr) → IsOfTag b x i h name own ts hs → length own ≤ 2 * attribute_total ts
    by-tag true i h name own w =
        let a = one-of i (kind.Start w.own_name w.own_attrs w.self_closing) ts w.token_is in
        let b = foreign_attrs-count w.space w.own_attrs in
        let z : length own ≡ length (foreign_attrs w.space w.own_attrs) = ap (λ (xs : List Attr). length xs) w.attrs_are in
        omega (arith, a, b, z)
    by-tag false i h name own w =
        let a = one-of i (kind.Start w.own_name w.own_attrs w.self_closing) ts w.token_is in
        let b = later-few x w.own_attrs ts hs in
        let z : length own ≡ length (with_later x w.own_attrs ts hs) = ap (λ (xs : List Attr). length xs) w.attrs_are in
        omega (arith, a, b, z)

    by-origin : (g : Origin) (h : Tag) (name : List ℕ) (own : List Attr) → HasElementOrigin x ts fs hs g h name own → length own ≤ 2 * attribute_total ts
    by-origin (Token i) h name own w = by-tag (is_foreign_at fs i) i h name own w
    by-origin Implied h name own w =
        let b = later-few x [] ts hs in
        let z : length own ≡ length (with_later x [] ts hs) = ap (λ (xs : List Attr). length xs) w.attrs_are in
        omega (arith, b, z)
    by-origin Nothing h name own w = absurd w

greatest-each : (f : NodeData → ℕ) (k : ℕ) (ls : List NodeData) → ((x : ℕ) → f (label_in ls x) ≤ k) → greatest f ls ≤ k
greatest-each f k [] h = omega arith
greatest-each f k (d ∷ ds) h = max-le (h 0) (greatest-each f k ds (λ x. h (suc x)))

broadest-few : (ts : List TokenKind) (fs : List Fate) (ls : List NodeData) → AreOrigins ts fs ls → broadest ls ≤ 2 * attribute_total ts
unfolding broadest
broadest-few ts fs ls w = greatest-each (λ d. length (attrs_in d)) (2 * attribute_total ts) ls (λ x. attrs-few x ts fs w.homes (label_in ls x) (w.each x))

-- ELEMENTS THAT COME FROM NO TOKEN

sum-each : (f g : NodeData → ℕ) (ls : List NodeData) → ((x : ℕ) → f (label_in ls x) ≤ g (label_in ls x)) → sum_by f ls ≤ sum_by g ls
sum-each f g [] h = omega arith
sum-each f g (d ∷ ds) h =
    let a : f d ≤ g d = h 0 in
    let b = sum-each f g ds (λ x. h (suc x)) in
    let p = sum_by-cons f d ds in
    let q = sum_by-cons g d ds in
    omega (arith, a, b, p, q)

-- no token asked for them, and they are no clones
module _ (ts : List TokenKind) (fs : List Fate) (ls : List NodeData) (w : AreOrigins ts fs ls) (g : (x : ℕ) → tag_in (label_in ls x) ≡ tag_of (name_in (label_in ls x))) where
  element-asked : (x : ℕ) (name : List ℕ) (t : Tag) (own : List Attr) (o : Origin) (b : Bool) (h : Option ℕ)
      → label_in ls x ≡ node.Element (record { name = name; tag = t; attrs = own; origin = o; is_clone = b; contents = h }) → tokenless_in (label_in ls x) ≤ implied_in (label_in ls x)
  element-asked x name t own (Token i) b h e = rw e (omega arith)
  element-asked x name t own Implied false h e = rw e (omega arith)
  element-asked x name t own Implied true h e =
      let p = subst (λ d. HasOrigin x ts fs w.homes d) e (w.each x) in
      let f = w.clones x (ap is_clone_in e) in
      let q : tag_in (label_in ls x) ≡ tag_of (name_of p.name_tag) = g x ∙ ap (λ d. tag_of (name_in d)) e ∙ ap tag_of p.name_is in
      absurd (alone-plain p.name_tag p.alone (subst (λ y. is_formatting y ≡ true) q f))
  element-asked x name t own Nothing b h e = absurd (subst (λ d. HasOrigin x ts fs w.homes d) e (w.each x))

  label-asked : (x : ℕ) (d : NodeData) → label_in ls x ≡ d → tokenless_in (label_in ls x) ≤ implied_in (label_in ls x)
  label-asked x node.Document e = rw e (omega arith)
  label-asked x (node.Contents h) e = rw e (omega arith)
  label-asked x (node.Text s) e = rw e (omega arith)
  label-asked x (node.Comment s i) e = rw e (omega arith)
  label-asked x (node.Doctype n p s i) e = rw e (omega arith)
  label-asked x (node.Element r) e = element-asked x r.name r.tag r.attrs r.origin r.is_clone r.contents e

pub tokenless-few : (ts : List TokenKind) (fs : List Fate) (ls : List NodeData) → AreOrigins ts fs ls → ((x : ℕ) → tag_in (label_in ls x) ≡ tag_of (name_in (label_in ls x))) → tokenless ls ≤ implied_count ls
unfolding tokenless implied_count
tokenless-few ts fs ls w g = sum-each tokenless_in implied_in ls (λ x. label-asked ts fs ls w g x (label_in ls x) refl)

-- MORE TOKENS

-- a part of a product
part-of : (a b c : ℕ) → (a + b) * c ≡ a * c + b * c
part-of a b c = grind arith

-- the attributes that a token compares
compared-then : (a m t u f b : ℕ) → f ≤ u → b ≤ 2 * (a + m) → t ≤ u → 2 * (a * a * (t + 1)) + m * ((f + 1) * b) ≤ 2 * ((a + m) * (a + m) * (u + 1))
compared-then a m t u f b p q r =
    let s : (f + 1) * b ≤ (u + 1) * (2 * (a + m)) = mul-le (f + 1) b (u + 1) (2 * (a + m)) (omega (arith, p)) q in
    let v : m * ((f + 1) * b) ≤ m * ((u + 1) * (2 * (a + m))) = mul-le m ((f + 1) * b) m ((u + 1) * (2 * (a + m))) (omega arith) s in
    let x : a * a ≤ a * (a + m) = mul-le a a a (a + m) (omega arith) (omega arith) in
    let y : a * a * (t + 1) ≤ a * (a + m) * (u + 1) = mul-le (a * a) (t + 1) (a * (a + m)) (u + 1) x (omega (arith, r)) in
    let z : 2 * ((a + m) * (a + m) * (u + 1)) ≡ 2 * (a * (a + m) * (u + 1)) + m * ((u + 1) * (2 * (a + m))) = ring a m u in
    omega (arith, v, y, z)
  where
    ring : (a m u : ℕ) → 2 * ((a + m) * (a + m) * (u + 1)) ≡ 2 * (a * (a + m) * (u + 1)) + m * ((u + 1) * (2 * (a + m)))
    ring a m u = grind arith

pub compared-one : (t : TokenKind) (k : ℕ) → attribute_count t * k ≤ attribute_total (t ∷ []) * k
compared-one t k = let p = sum_by-cons attribute_count t [] in mul-le (attribute_count t) k (attribute_total (t ∷ [])) k (omega (arith, p)) (omega arith)

-- Steps, what is still room, fates, and what entries and fates cost, before and after: k entries are granted before, and sixteen more after.
counted-then : (sa sb wa wb fa fb ta tb ea eb k l ca cb more : ℕ) → sa + wa * ta ≤ fa * ea + k * ta + ca → ta ≤ tb → ea ≤ eb → wa ≤ k → k + 16 ≤ l → ca + more ≤ cb
    → sb + fa * eb + wb * tb ≤ sa + fb * eb + (wa + 16) * tb + more → sb + wb * tb ≤ fb * eb + l * tb + cb
counted-then sa sb wa wb fa fb ta tb ea eb k l ca cb more h t e w g c n =
    let d : ℕ = tb - ta in
    let u : tb ≡ ta + d = omega (arith, t) in
    let p : wa * tb ≡ wa * ta + wa * d = ap (λ x. wa * x) u ∙ spread wa ta d in
    let q : k * tb ≡ k * ta + k * d = ap (λ x. k * x) u ∙ spread k ta d in
    let r : wa * d ≤ k * d = mul-le wa d k d w (omega arith) in
    let s : fa * ea ≤ fa * eb = mul-le fa ea fa eb (omega arith) e in
    let x : (wa + 16) * tb ≡ wa * tb + 16 * tb = part-of wa 16 tb in
    let y : (k + 16) * tb ≤ l * tb = mul-le (k + 16) tb l tb g (omega arith) in
    let z : (k + 16) * tb ≡ k * tb + 16 * tb = part-of k 16 tb in
    omega (arith, h, p, q, r, s, x, y, z, c, n)
  where
    spread : (a b c : ℕ) → a * (b + c) ≡ a * b + a * c
    spread a b c = grind arith

-- the same of the states before and after some tokens
pub counted-in : (ts us : List TokenKind) (more : ℕ) (h : Given) (a b : State) → h.tokens ≡ ts ++ us → IsBuilt h b → length b.ledger.fates ≤ length h.tokens → 0 < length us
    → a.tree.steps + (weight a.stack + top_rank a.mode) * turn_of a ≤ length a.ledger.fates * fee_of a + (16 + 16 * length ts) * turn_of a + most_compared ts
    → weight a.stack + top_rank a.mode ≤ 15 + 16 * length ts → Toils more a b → more ≤ attribute_total us * span_of b
    → b.tree.steps + (weight b.stack + top_rank b.mode) * turn_of b ≤ length b.ledger.fates * fee_of b + (16 + 16 * length (ts ++ us)) * turn_of b + most_compared (ts ++ us)
unfolding span
counted-in ts us more h a b e i f k n w o m =
    let count : length (ts ++ us) ≡ length ts + length us = length-append ts us in
    let whole : length h.tokens ≡ length (ts ++ us) = ap (λ (xs : List TokenKind). length xs) e in
    let total : attribute_total (ts ++ us) ≡ attribute_total ts + attribute_total us = sum_by-append attribute_count ts us in
    let attrs : attribute_total h.tokens ≡ attribute_total (ts ++ us) = ap attribute_total e in
    let broad : broadest b.tree.tree.labels ≤ 2 * attribute_total h.tokens = broadest-few h.tokens b.ledger.fates b.tree.tree.labels i.origins in
    let all = compared-then (attribute_total ts) (attribute_total us) (length ts) (length (ts ++ us)) (length b.ledger.fates) (broadest b.tree.tree.labels)
    (omega (arith, f, whole)) (omega (arith, broad, attrs, total)) (omega (arith, count)) in
    let same : most_compared (ts ++ us) ≡ 2 * ((attribute_total ts + attribute_total us) * (attribute_total ts + attribute_total us) * (length (ts ++ us) + 1)) =
    ap (λ x. 2 * (x * x * (length (ts ++ us) + 1))) total in
    let turn : turn_of a ≤ turn_of b = let r = o.0 in omega (arith, r) in
    let fee : fee_of a ≤ fee_of b = let r = o.0 in let g = o.1.0 in omega (arith, r, g) in
    counted-then a.tree.steps b.tree.steps (weight a.stack + top_rank a.mode) (weight b.stack + top_rank b.mode) (length a.ledger.fates) (length b.ledger.fates)
    (turn_of a) (turn_of b) (fee_of a) (fee_of b) (16 + 16 * length ts) (16 + 16 * length (ts ++ us)) (most_compared ts) (most_compared (ts ++ us)) more
    n turn fee (omega (arith, w)) (omega (arith, count, k)) (omega (arith, all, same, m)) o.1.1

-- BEFORE THE FIRST TOKEN

pub counted-none : (ts : List TokenKind) (a : State) → a.tree.steps ≤ 2 + reach_of a → weight a.stack + top_rank a.mode ≤ 14
    → a.tree.steps + (weight a.stack + top_rank a.mode) * turn_of a ≤ length a.ledger.fates * fee_of a + (16 + 16 * length ts) * turn_of a + most_compared ts
counted-none ts a s w =
    let p : (weight a.stack + top_rank a.mode) * turn_of a ≤ 14 * turn_of a = mul-le (weight a.stack + top_rank a.mode) (turn_of a) 14 (turn_of a) w (omega arith) in
    let q : 16 * turn_of a ≤ (16 + 16 * length ts) * turn_of a = mul-le 16 (turn_of a) (16 + 16 * length ts) (turn_of a) (omega arith) (omega arith) in
    omega (arith, s, p, q)

-- BY THE TOKENS ALONE

-- what entries and fees come to
entries-most : (t d m : ℕ) → t ≤ m → d ≤ 17 * t + 1 → (16 + 16 * t) * (26 * (2 * d + 4) + 25) ≤ (16 + 16 * m) * (884 * m + 181)
entries-most t d m p q = mul-le (16 + 16 * t) (26 * (2 * d + 4) + 25) (16 + 16 * m) (884 * m + 181) (omega (arith, p)) (omega (arith, p, q))

tolls-most : (f d l m : ℕ) → f ≤ m → d ≤ 17 * m + 1 → l ≤ 40 + 32 * m + (f * f + 35 * f) → f * (d + f + 7) + l + 4 * d + 3 * f + 37 ≤ 19 * (m * m) + 146 * m + 81
tolls-most f d l m p q r =
    let a : f * (d + f + 7) ≤ m * (18 * m + 8) = mul-le f (d + f + 7) m (18 * m + 8) p (omega (arith, p, q)) in
    let b : f * f ≤ m * m = mul-le f f m m p p in
    let c : m * (18 * m + 8) ≡ 18 * (m * m) + 8 * m = ring m in
    omega (arith, p, q, r, a, b, c)
  where
    ring : (m : ℕ) → m * (18 * m + 8) ≡ 18 * (m * m) + 8 * m
    ring m = grind arith

fees-most : (f d l m : ℕ) → f ≤ m → d ≤ 17 * m + 1 → l ≤ 40 + 32 * m + (f * f + 35 * f)
    → f * (10 * (f * (d + f + 7) + l + 4 * d + 3 * f + 37) + 26 * (2 * d + 4) + 50) ≤ m * (190 * (m * m) + 2344 * m + 1016)
fees-most f d l m p q r =
    let a = tolls-most f d l m p q r in
    mul-le f (10 * (f * (d + f + 7) + l + 4 * d + 3 * f + 37) + 26 * (2 * d + 4) + 50) m (190 * (m * m) + 2344 * m + 1016) p (omega (arith, a, q))

attributes-most : (a t m : ℕ) → a ≤ m → t ≤ m → a * a * (t + 1) ≤ m * m * (m + 1)
attributes-most a t m p q = mul-le (a * a) (t + 1) (m * m) (m + 1) (mul-le a a m m p p) (omega (arith, q))

all-most : (n : ℕ) → (n + 1) * (190 * ((n + 1) * (n + 1)) + 2344 * (n + 1) + 1016) + (16 + 16 * (n + 1)) * (884 * (n + 1) + 181) + 2 * ((n + 1) * (n + 1) * ((n + 1) + 1)) ≤ most_tree_steps n
all-most n = let a = ring n in omega (arith, a)
  where
    ring : (n : ℕ) → 512 * ((n + 32) * (n + 32) * (n + 32))
        ≡ (n + 1) * (190 * ((n + 1) * (n + 1)) + 2344 * (n + 1) + 1016) + (16 + 16 * (n + 1)) * (884 * (n + 1) + 181) + 2 * ((n + 1) * (n + 1) * ((n + 1) + 1))
        + (320 * ((n + 1) * (n + 1) * (n + 1)) + 31126 * ((n + 1) * (n + 1)) + 1458040 * (n + 1) + 15250096)
    ring n = grind arith

-- so many steps at most, where no more elements come from no token than no token asked for
pub counted-most : (ts : List TokenKind) (a : State) (n : ℕ) → length a.ledger.fates ≤ length ts → length ts ≤ n + 1 → attribute_total ts ≤ n
    → length a.tree.tree.labels ≤ 40 + 32 * length ts + allowance (length a.ledger.fates)
    → tokenless a.tree.tree.labels ≤ 1 + 16 * length ts
    → a.tree.steps ≤ length a.ledger.fates * fee_of a + (16 + 16 * length ts) * turn_of a + most_compared ts → a.tree.steps ≤ most_tree_steps n
unfolding reach toll
counted-most ts a n f t x l e h =
    let d : deepest a.tree.tree.labels a.ledger.fates ≤ 17 * length ts + 1 = omega (arith, f, e) in
    let p = fees-most (length a.ledger.fates) (deepest a.tree.tree.labels a.ledger.fates) (length a.tree.tree.labels) (n + 1) (omega (arith, f, t)) (omega (arith, d, t)) (omega (arith, l, t)) in
    let q = entries-most (length ts) (deepest a.tree.tree.labels a.ledger.fates) (n + 1) t d in
    let r = attributes-most (attribute_total ts) (length ts) (n + 1) (omega (arith, x)) t in
    let s = all-most n in
    omega (arith, h, p, q, r, s)

-- How many code points the nodes hold, by the tokens.
use Rattle.std.proofs.Common.{ℕ, zero, suc, ◌+◌, ◌*◌, ◌≡◌, ◌<◌, ◌≤◌, Bool, true, false, cond, eqb, List, [], ◌∷◌, length, length-append, Option, Some, None, inl, inr, refl, sym, ap, subst, ◌∙◌, arith}
use Rattle.std.specs.Prelude.{filter, not, slice_get, ◌&&◌}
use Rattle.std.specs.List.{sum_by}
use Rattle.std.proofs.Math.Nat.{mul-le-mul_left}
use Rattle.std.proofs.lemmas.Bool.{false≢true}
use Rattle.std.proofs.lemmas.List.Sums.{sum_by-append, sum_by-cons}
use Rattle.html_names.specs.declared.foreign.Space.{Space}
use Rattle.html_names.specs.Names.{is_known, name_of, tag_of}
use Rattle.html_names.specs.Sets.{is_formatting}
use Rattle.html_names.proofs.Known.{tag_of-known}
use Rattle.html_names.specs.Tags.{is_same}
use Rattle.html_names.specs.declared.tag.Tag.{Tag}
use Rattle.html_names.specs.declared.tag.Tag.TheVariants as tag
use Rattle.html_arena.specs.declared.data.NodeData.{NodeData}
use Rattle.html_arena.specs.declared.data.NodeData.TheVariants as node
use Rattle.html_arena.specs.declared.data.Origin.{Origin}
use Rattle.html_arena.specs.declared.data.Origin.TheVariants.{Implied, Nothing, Token}
use Rattle.html_arena.specs.Data.{is_clone_in, label_in, name_in, origin_in, tag_in}
use Rattle.html_arena.specs.Merge.{has_name, lacking, merged}
use Rattle.html_arena.specs.Siblings.{is_in}
use Rattle.html_arena.specs.Weight.{attr_weight, attrs_weight, optional_weight, weight}
use Rattle.html_tokens.specs.declared.attributes.Attr.{Attr}
use Rattle.html_tokens.specs.declared.token.TokenKind.{TokenKind}
use Rattle.html_tokens.specs.declared.token.TokenKind.TheVariants as kind
use Rattle.html_tokens.specs.Cost.{attrs_len, optional_len, own_len}
use Rattle.html_open.proofs.Keeps.{cases_bool, cases_eqb, eqb-self}
use Rattle.html_ledger.specs.declared.fate.Fate.{Fate}
use Rattle.html_ledger.specs.declared.fate.Fate.TheVariants as fate
use Rattle.html_ledger.specs.Fates.{is_foreign, node_of}
use Rattle.html_ledger.specs.Symbols.{symbol_of}
use Rattle.html_ledger.specs.Texts.{code_point, is_text_in, text_of}
use Rattle.html_construction.specs.Accounts.{AreMade, AreTexts, made_at}
use Rattle.html_construction.specs.Built.{symbols}
use Rattle.html_construction.specs.Copies.{clone_count, clones_of, implied_count, implied_in, is_token, most_clones}
use Rattle.html_construction.specs.Origins.{AreHomes, AreOrigins, HasOrigin, IsHome, IsOfTag, is_foreign_at, is_made_alone, with_later}
use Rattle.html_construction.specs.Tokens.{attrs_of, foreign_attr, foreign_attrs, foreign_name, node_name}
use Rattle.html_construction.proofs.Lengths.{attr-long, foreign_name-long, formatting-html}
use Rattle.html_builder.specs.Handed.{start_count, start_one}
use Rattle.html_construction.proofs.Copying.{clones-most}
use Rattle.html_construction.proofs.Weighing.{same-tag}

-- adjusted attributes weigh as much
foreign_attrs-weigh : (s : Space) (xs : List Attr) → attrs_weight (foreign_attrs s xs) ≡ attrs_weight xs
foreign_attrs-weigh s [] = refl
foreign_attrs-weigh s (a ∷ xs) =
    let p = sum_by-cons attr_weight a xs in
    let q = sum_by-cons attr_weight (foreign_attr s a) (foreign_attrs s xs) in
    let r = foreign_attrs-weigh s xs in
    let n = attr-long s a.name in
    omega (arith, p, q, r, n)

-- WHICH NODE GAINS BY A TOKEN

-- the node that a token adds to
abbrev gainer : Fate → Option ℕ → Option ℕ
gainer (fate.Made d) h = Some d
gainer (fate.Foreign d) h = Some d
gainer (fate.Text d) h = Some d
gainer fate.Merged h = h
gainer (fate.Dropped c) h = None
gainer fate.Ended h = None

-- and how many code points: an element of foreign content has five more in its name at most
abbrev gain : Fate → TokenKind → ℕ
gain (fate.Made d) t = own_len t
gain (fate.Foreign d) t = own_len t + 5 * start_one t
gain (fate.Text d) t = length (code_point (symbol_of t))
gain fate.Merged t = attrs_weight (attrs_of t)
gain (fate.Dropped c) t = 0
gain fate.Ended t = 0

abbrev part : ℕ → TokenKind → Fate → Option ℕ → ℕ
part x t f h = cond (is_in x (gainer f h)) (gain f t) 0

-- what all tokens add to a node
abbrev share : ℕ → List TokenKind → List Fate → List (Option ℕ) → ℕ
share x [] fs hs = 0
share x (t ∷ ts) [] hs = 0
share x (t ∷ ts) (f ∷ fs) [] = 0
share x (t ∷ ts) (f ∷ fs) (h ∷ hs) = part x t f h + share x ts fs hs

attrs-same : (xs : List Attr) → attrs_weight xs ≡ attrs_len xs
attrs-same [] = refl
attrs-same (a ∷ xs) = let p = sum_by-cons attr_weight a xs in let q = attrs-same xs in omega (arith, p, q)

attrs-own : (t : TokenKind) → attrs_weight (attrs_of t) ≤ own_len t
attrs-own (kind.Start n a s) = let p = attrs-same a in omega (arith, p)
attrs-own (kind.End n) = omega arith
attrs-own (kind.Char c) = omega arith
attrs-own (kind.Comment c) = omega arith
attrs-own (kind.Doctype n p s q) = omega arith
attrs-own kind.Eof = omega arith

char-own : (t : TokenKind) → length (code_point (symbol_of t)) ≤ own_len t
char-own (kind.Start n a s) = omega arith
char-own (kind.End n) = omega arith
char-own (kind.Char c) = omega arith
char-own (kind.Comment c) = omega arith
char-own (kind.Doctype n p s q) = omega arith
char-own kind.Eof = omega arith

gain-own : (f : Fate) (t : TokenKind) → gain f t ≤ own_len t + 5 * start_one t
gain-own (fate.Made d) t = omega arith
gain-own (fate.Foreign d) t = omega arith
gain-own (fate.Text d) t = let h = char-own t in omega (arith, h)
gain-own fate.Merged t = let h = attrs-own t in omega (arith, h)
gain-own (fate.Dropped c) t = omega arith
gain-own fate.Ended t = omega arith

-- ALL NODES TOGETHER

-- the sum over the n numbers from k on
abbrev over : (ℕ → ℕ) → ℕ → ℕ → ℕ
over g k zero = 0
over g k (suc n) = g k + over g (suc k) n

over-none : (g : ℕ → ℕ) (k n : ℕ) → ((x : ℕ) → k ≤ x → g x ≡ 0) → over g k n ≡ 0
over-none g k zero h = refl
over-none g k (suc n) h = let a = h k (omega arith) in let b = over-none g (suc k) n (λ x l. h x (omega (arith, l))) in omega (arith, a, b)

over-both : (g f : ℕ → ℕ) (k n : ℕ) → over (λ x. g x + f x) k n ≡ over g k n + over f k n
over-both g f k zero = refl
over-both g f k (suc n) = let a = over-both g f (suc k) n in omega (arith, a)

-- one of the numbers gains
over-one : (d m k n : ℕ) → over (λ x. cond (eqb x d) m 0) k n ≤ m
over-one d m k zero = omega arith
over-one d m k (suc n) = elim (cases_eqb k d) [
  | inl q ↦ (let a = over-none (λ x. cond (eqb x d) m 0) (suc k) n (λ x l. elim (cases_eqb x d) [ inl p ↦ absurd (let e = p.1 in let f = q.1 in omega (arith, e, f, l)) | inr p ↦ rw p.0 refl ]) in rw q.0 (omega (arith, a)))
  | inr q ↦ (let a = over-one d m (suc k) n in rw q.0 (omega (arith, a)))
]

over-gainer : (o : Option ℕ) (m k n : ℕ) → over (λ x. cond (is_in x o) m 0) k n ≤ m
over-gainer None m k n = let a = over-none (λ x. 0) k n (λ x l. refl) in omega (arith, a)
over-gainer (Some d) m k n = over-one d m k n

pub shares-within : (k n : ℕ) (ts : List TokenKind) (fs : List Fate) (hs : List (Option ℕ)) → over (λ x. share x ts fs hs) k n ≤ sum_by own_len ts + 5 * start_count ts
shares-within k n [] fs hs = let a = over-none (λ x. 0) k n (λ x l. refl) in omega (arith, a)
shares-within k n (t ∷ ts) [] hs = let a = over-none (λ x. 0) k n (λ x l. refl) in omega (arith, a)
shares-within k n (t ∷ ts) (f ∷ fs) [] = let a = over-none (λ x. 0) k n (λ x l. refl) in omega (arith, a)
shares-within k n (t ∷ ts) (f ∷ fs) (h ∷ hs) =
    let a = over-both (λ x. part x t f h) (λ x. share x ts fs hs) k n in
    let b = over-gainer (gainer f h) (gain f t) k n in
    let c = gain-own f t in
    let d = shares-within k n ts fs hs in
    let e = sum_by-cons own_len t ts in
    let g = sum_by-cons start_one t ts in
    omega (arith, a, b, c, d, e, g)

-- WHAT A NODE HOLDS

node-is : (d x : ℕ) → Some d ≡ Some x → d ≡ x
node-is d x e = let k : Some d ≡ Some x = e in cc

in-some : (x : ℕ) (m : ℕ) → cond (is_in x (Some x)) m 0 ≡ m
in-some x m = rw (eqb-self x) refl

-- all that was merged
lacking-within : (p : Attr → Bool) (xs : List Attr) → attrs_weight (filter p xs) ≤ attrs_weight xs
lacking-within p [] = omega arith
lacking-within p (a ∷ xs) =
    let r = lacking-within p xs in
    let q = sum_by-cons attr_weight a xs in
    elim (cases_bool (p a)) [
      | inl e ↦ (let s = sum_by-cons attr_weight a (filter p xs) in rw e (omega (arith, r, q, s)))
      | inr e ↦ rw e (omega (arith, r, q))
    ]

merged-within : (own more : List Attr) → attrs_weight (merged own more) ≤ attrs_weight own + attrs_weight more
merged-within own more =
    let a = sum_by-append attr_weight own (lacking own more) in
    let b = lacking-within (λ a. not (has_name a.name own)) more in
    omega (arith, a, b)

-- one tag: what it merges into a node is gained
home-gains : (x : ℕ) (own : List Attr) (ls : List NodeData) (t : TokenKind) (f : Fate) (h : Option ℕ) → IsHome ls t f h → attrs_weight (cond (is_in x h) (merged own (attrs_of t)) own) ≤ attrs_weight own + part x t f h
home-gains x own ls t f None i = omega arith
home-gains x own ls t f (Some y) i =
    subst (λ (g : Fate). attrs_weight (cond (is_in x (Some y)) (merged own (attrs_of t)) own) ≤ attrs_weight own + part x t g (Some y)) (sym i.fate_is)
    (elim (cases_bool (is_in x (Some y))) [
      | inl e ↦ rw e (merged-within own (attrs_of t))
      | inr e ↦ rw e (omega arith)
    ])

later-within : (x : ℕ) (own : List Attr) (ls : List NodeData) (ts : List TokenKind) (fs : List Fate) (hs : List (Option ℕ)) → AreHomes ls ts fs hs → attrs_weight (with_later x own ts hs) ≤ attrs_weight own + share x ts fs hs
later-within x own ls [] fs hs i = omega arith
later-within x own ls (t ∷ ts) [] [] i = omega arith
later-within x own ls (t ∷ ts) [] (h ∷ hs) i = absurd i
later-within x own ls (t ∷ ts) (f ∷ fs) [] i = absurd i
later-within x own ls (t ∷ ts) (f ∷ fs) (h ∷ hs) i =
    let a = home-gains x own ls t f h i.0 in
    let b = later-within x (cond (is_in x h) (merged own (attrs_of t)) own) ls ts fs hs i.1 in
    omega (arith, a, b)

-- what the node of a token gains by it
part-made : (x : ℕ) (t : TokenKind) (f : Fate) (h : Option ℕ) → node_of f ≡ Some x → own_len t ≤ part x t f h
part-made x t (fate.Made d) h e = let q : part x t (fate.Made d) h ≡ own_len t = ap (λ y. part x t (fate.Made y) h) (node-is d x e) ∙ in-some x (own_len t) in omega (arith, q)
part-made x t (fate.Foreign d) h e = let q : part x t (fate.Foreign d) h ≡ own_len t + 5 * start_one t = ap (λ y. part x t (fate.Foreign y) h) (node-is d x e) ∙ in-some x (own_len t + 5 * start_one t) in omega (arith, q)
part-made x t (fate.Text d) h e = absurd (let k = e in cc)
part-made x t fate.Merged h e = absurd (let k = e in cc)
part-made x t (fate.Dropped c) h e = absurd (let k = e in cc)
part-made x t fate.Ended h e = absurd (let k = e in cc)

part-foreign : (x : ℕ) (t : TokenKind) (f : Fate) (h : Option ℕ) → node_of f ≡ Some x → is_foreign f ≡ true → own_len t + 5 * start_one t ≤ part x t f h
part-foreign x t (fate.Foreign d) h e b = let q : part x t (fate.Foreign d) h ≡ own_len t + 5 * start_one t = ap (λ y. part x t (fate.Foreign y) h) (node-is d x e) ∙ in-some x (own_len t + 5 * start_one t) in omega (arith, q)
part-foreign x t (fate.Made d) h e b = absurd (false≢true b)
part-foreign x t (fate.Text d) h e b = absurd (false≢true b)
part-foreign x t fate.Merged h e b = absurd (false≢true b)
part-foreign x t (fate.Dropped c) h e b = absurd (false≢true b)
part-foreign x t fate.Ended h e b = absurd (false≢true b)

-- the node of a token gains what the token has of its own
pub made-gains : (x i : ℕ) (own : List Attr) (u : TokenKind) (ls : List NodeData) (ts : List TokenKind) (fs : List Fate) (hs : List (Option ℕ)) → AreHomes ls ts fs hs → slice_get ts i ≡ Some u → made_at fs i ≡ Some x
    → attrs_weight (with_later x own ts hs) + own_len u ≤ attrs_weight own + share x ts fs hs
made-gains x i own u ls [] fs hs w e m = absurd (let k = e in cc)
made-gains x i own u ls (t ∷ ts) [] hs w e m = absurd (let k = m in cc)
made-gains x i own u ls (t ∷ ts) (f ∷ fs) [] w e m = absurd w
made-gains x zero own u ls (t ∷ ts) (f ∷ fs) (None ∷ hs) w e m =
    let q : t ≡ u = (let k : Some t ≡ Some u = e in cc) in
    let a = later-within x own ls ts fs hs w.1 in
    let b = part-made x t f None m in
    let c : own_len t ≡ own_len u = ap own_len q in
    omega (arith, a, b, c)
made-gains x zero own u ls (t ∷ ts) (f ∷ fs) (Some y ∷ hs) w e m =
    absurd (let p : f ≡ fate.Merged = w.0.fate_is in let z : None ≡ Some x = sym (ap node_of p) ∙ m in cc)
made-gains x (suc i) own u ls (t ∷ ts) (f ∷ fs) (h ∷ hs) w e m =
    let a = home-gains x own ls t f h w.0 in
    let b = made-gains x i (cond (is_in x h) (merged own (attrs_of t)) own) u ls ts fs hs w.1 e m in
    omega (arith, a, b)

at-gains : (x i : ℕ) (u : TokenKind) (ls : List NodeData) (ts : List TokenKind) (fs : List Fate) (hs : List (Option ℕ)) → AreHomes ls ts fs hs → slice_get ts i ≡ Some u → made_at fs i ≡ Some x → own_len u ≤ share x ts fs hs
at-gains x i u ls [] fs hs w e m = absurd (let k = e in cc)
at-gains x i u ls (t ∷ ts) [] hs w e m = absurd (let k = m in cc)
at-gains x i u ls (t ∷ ts) (f ∷ fs) [] w e m = absurd w
at-gains x zero u ls (t ∷ ts) (f ∷ fs) (h ∷ hs) w e m =
    let q : t ≡ u = (let k : Some t ≡ Some u = e in cc) in
    let b = part-made x t f h m in
    let c : own_len t ≡ own_len u = ap own_len q in
    omega (arith, b, c)
at-gains x (suc i) u ls (t ∷ ts) (f ∷ fs) (h ∷ hs) w e m = let a = at-gains x i u ls ts fs hs w.1 e m in omega (arith, a)

-- and an element of foreign content five more
foreign-gains : (x i : ℕ) (u : TokenKind) (ls : List NodeData) (ts : List TokenKind) (fs : List Fate) (hs : List (Option ℕ)) → AreHomes ls ts fs hs → slice_get ts i ≡ Some u → made_at fs i ≡ Some x → is_foreign_at fs i ≡ true
    → own_len u + 5 * start_one u ≤ share x ts fs hs
foreign-gains x i u ls [] fs hs w e m b = absurd (let k = e in cc)
foreign-gains x i u ls (t ∷ ts) [] hs w e m b = absurd (let k = m in cc)
foreign-gains x i u ls (t ∷ ts) (f ∷ fs) [] w e m b = absurd w
foreign-gains x zero u ls (t ∷ ts) (f ∷ fs) (h ∷ hs) w e m b =
    let q : t ≡ u = (let k : Some t ≡ Some u = e in cc) in
    let a = part-foreign x t f h m b in
    let c : own_len t + 5 * start_one t ≡ own_len u + 5 * start_one u = ap (λ v. own_len v + 5 * start_one v) q in
    omega (arith, a, c)
foreign-gains x (suc i) u ls (t ∷ ts) (f ∷ fs) (h ∷ hs) w e m b = let a = foreign-gains x i u ls ts fs hs w.1 e m b in omega (arith, a)

-- a text gains its code points
text-part : (x : ℕ) (t : TokenKind) (f : Fate) (h : Option ℕ) → length (cond (is_text_in x f) (code_point (symbol_of t)) []) ≤ part x t f h
text-part x t (fate.Text d) h = elim (cases_eqb x d) [
  | inl q ↦ subst (λ y. length (cond (is_text_in x (fate.Text y)) (code_point (symbol_of t)) []) ≤ part x t (fate.Text y) h) q.1 (rw (eqb-self x) (omega arith))
  | inr q ↦ (let e : is_text_in x (fate.Text d) ≡ false = other d x (λ z. q.1 (sym z)) in rw e (omega arith))
]
  where
    other : (d x : ℕ) → (d ≡ x → ⊥) → eqb d x ≡ false
    other d x n = elim (cases_eqb d x) [ inl q ↦ absurd (n q.1) | inr q ↦ q.0 ]
text-part x t (fate.Made d) h = omega arith
text-part x t (fate.Foreign d) h = omega arith
text-part x t fate.Merged h = omega arith
text-part x t (fate.Dropped c) h = omega arith
text-part x t fate.Ended h = omega arith

text-gains : (x : ℕ) (ls : List NodeData) (ts : List TokenKind) (fs : List Fate) (hs : List (Option ℕ)) → AreHomes ls ts fs hs → length (text_of x (symbols ts) fs) ≤ share x ts fs hs
text-gains x ls [] fs hs w = omega arith
text-gains x ls (t ∷ ts) [] hs w = omega arith
text-gains x ls (t ∷ ts) (f ∷ fs) [] w = absurd w
text-gains x ls (t ∷ ts) (f ∷ fs) (h ∷ hs) w =
    let a = text-part x t f h in
    let b = text-gains x ls ts fs hs w.1 in
    let c = length-append (cond (is_text_in x f) (code_point (symbol_of t)) []) (text_of x (symbols ts) fs) in
    omega (arith, a, b, c)

-- CLONES

-- what the token of a number has of its own, where k is the number of the first
abbrev own_from : ℕ → List TokenKind → Origin → ℕ
own_from k [] o = 0
own_from k (t ∷ ts) o = cond (is_token k o) (own_len t) (own_from (suc k) ts o)

abbrev clone_own : ℕ → List TokenKind → NodeData → ℕ
clone_own k ts d = cond (is_clone_in d) (own_from k ts (origin_in d)) 0

own-at : (i k : ℕ) (u : TokenKind) (ts : List TokenKind) → slice_get ts i ≡ Some u → own_from k ts (Token (k + i)) ≡ own_len u
own-at i k u [] e = absurd (let z = e in cc)
own-at zero k u (t ∷ ts) e =
    let q : t ≡ u = (let z : Some t ≡ Some u = e in cc) in
    let p : eqb k (k + 0) ≡ true = subst (λ j. eqb k j ≡ true) (let z : k ≡ k + 0 = omega arith in z) (eqb-self k) in
    rw p (ap own_len q)
own-at (suc i) k u (t ∷ ts) e =
    let p : eqb k (k + suc i) ≡ false = elim (cases_eqb k (k + suc i)) [ inl z ↦ absurd (let y = z.1 in omega (arith, y)) | inr z ↦ z.0 ] in
    let q : k + suc i ≡ suc k + i = omega arith in
    rw p (subst (λ j. own_from (suc k) ts (Token j) ≡ own_len u) (sym q) (own-at i (suc k) u ts e))

own-first : (i : ℕ) (u : TokenKind) (ts : List TokenKind) → slice_get ts i ≡ Some u → own_from 0 ts (Token i) ≡ own_len u
own-first i u ts e = subst (λ j. own_from 0 ts (Token j) ≡ own_len u) (let z : 0 + i ≡ i = omega arith in z) (own-at i 0 u ts e)

-- a clone of one token's element
one-own : (k m r : ℕ) (b : Bool) (o : Origin) → cond b (cond (is_token k o) m r) 0 ≤ m * cond (b && is_token k o) 1 0 + cond b r 0
one-own k m r false o = omega arith
one-own k m r true o = elim (cases_bool (is_token k o)) [ inl e ↦ rw e (omega arith) | inr e ↦ rw e (omega arith) ]

own-more : (k : ℕ) (t : TokenKind) (ts : List TokenKind) (ls : List NodeData) → sum_by (clone_own k (t ∷ ts)) ls ≤ own_len t * clones_of (Token k) ls + sum_by (clone_own (suc k) ts) ls
own-more k t ts [] = omega arith
own-more k t ts (d ∷ ds) =
    let a = one-own k (own_len t) (own_from (suc k) ts (origin_in d)) (is_clone_in d) (origin_in d) in
    let b = own-more k t ts ds in
    let p = sum_by-cons (clone_own k (t ∷ ts)) d ds in
    let q = sum_by-cons (clone_own (suc k) ts) d ds in
    let r = sum_by-cons (clone_count (Token k)) d ds in
    let s : own_len t * clones_of (Token k) (d ∷ ds) ≡ own_len t * clone_count (Token k) d + own_len t * clones_of (Token k) ds = ap (λ n. own_len t * n) r ∙ spread (own_len t) (clone_count (Token k) d) (clones_of (Token k) ds) in
    omega (arith, a, b, p, q, s)
  where
    spread : (a b c : ℕ) → a * (b + c) ≡ a * b + a * c
    spread a b c = grind arith

none-own : (k : ℕ) (ls : List NodeData) → sum_by (clone_own k []) ls ≡ 0
none-own k [] = refl
none-own k (d ∷ ds) = let p = sum_by-cons (clone_own k []) d ds in let q = none-own k ds in let r : clone_own k [] d ≡ 0 = elim (cases_bool (is_clone_in d)) [ inl e ↦ rw e refl | inr e ↦ rw e refl ] in omega (arith, p, q, r)

pub clones-within : (m k : ℕ) (ts : List TokenKind) (ls : List NodeData) → ((i : ℕ) → clones_of (Token i) ls ≤ m) → sum_by (clone_own k ts) ls ≤ m * sum_by own_len ts
clones-within m k [] ls h = let a = none-own k ls in omega (arith, a)
clones-within m k (t ∷ ts) ls h =
    let a = own-more k t ts ls in
    let b = clones-within m (suc k) ts ls h in
    let c = mul-le-mul_left (own_len t) (h k) in
    let d : m * sum_by own_len (t ∷ ts) ≡ own_len t * m + m * sum_by own_len ts = ap (λ n. m * n) (sum_by-cons own_len t ts) ∙ spread m (own_len t) (sum_by own_len ts) in
    omega (arith, a, b, c, d)
  where
    spread : (a b c : ℕ) → a * (b + c) ≡ b * a + a * c
    spread a b c = grind arith

-- EACH NODE

name-short : (name : List ℕ) → length (node_name name) ≤ length name
name-short name = by (is_same (tag_of name) tag.Image) refl
  where
    by : (b : Bool) → is_same (tag_of name) tag.Image ≡ b → length (node_name name) ≤ length name
    by true e =
        let t : tag_of name ≡ tag.Image = same-tag (tag_of name) tag.Image e in
        let n : name ≡ name_of tag.Image = tag_of-known name (ap is_known t) ∙ ap name_of t in
        let l : length name ≡ 5 = ap (λ cs. length cs) n in
        rw e (omega (arith, l))
    by false e = rw e (omega arith)

pub alone-plain : (g : Tag) → is_made_alone g ≡ true → is_formatting (tag_of (name_of g)) ≡ true → ⊥
unfolding tag_of
alone-plain tag.Html e f = absurd (false≢true f)
alone-plain tag.Head e f = absurd (false≢true f)
alone-plain tag.Body e f = absurd (false≢true f)
alone-plain tag.P e f = absurd (false≢true f)
alone-plain tag.Br e f = absurd (false≢true f)
alone-plain tag.Colgroup e f = absurd (false≢true f)
alone-plain tag.Tbody e f = absurd (false≢true f)
alone-plain tag.Tr e f = absurd (false≢true f)
alone-plain _ e f = absurd (false≢true e)

-- the longest is colgroup
alone-short : (g : Tag) → is_made_alone g ≡ true → length (name_of g) ≤ 8
alone-short tag.Html e = omega arith
alone-short tag.Head e = omega arith
alone-short tag.Body e = omega arith
alone-short tag.P e = omega arith
alone-short tag.Br e = omega arith
alone-short tag.Colgroup e = omega arith
alone-short tag.Tbody e = omega arith
alone-short tag.Tr e = omega arith
alone-short _ e = absurd (false≢true e)

ids-same : (o : Option (List ℕ)) → optional_weight o ≡ optional_len o
ids-same None = refl
ids-same (Some s) = refl

module _ (ts : List TokenKind) (fs : List Fate) (ls : List NodeData) (w : AreOrigins ts fs ls) (m : AreMade fs ls) (k : AreTexts (symbols ts) fs ls) (g : (x : ℕ) → tag_in (label_in ls x) ≡ tag_of (name_in (label_in ls x))) where
  abbrev holds-most : ℕ → NodeData → ℕ
  holds-most x d = share x ts fs w.homes + (clone_own 0 ts d + 8 * implied_in d)

  -- the node of a token that is no clone
  made-of : (x i : ℕ) → origin_in (label_in ls x) ≡ Token i → is_clone_in (label_in ls x) ≡ false → made_at fs i ≡ Some x
  made-of x i o c = let d = m.of_made i x o in subst (λ y. made_at fs i ≡ Some y) (sym (m.made_once i d.0 x d.1 o c)) d.1

  -- an element that a token asked for, and that is no clone
  own-holds : (x i : ℕ) (name : List ℕ) (t : Tag) (own : List Attr) (b : Bool) → is_foreign_at fs i ≡ b → made_at fs i ≡ Some x → IsOfTag b x i t name own ts w.homes → length name + attrs_weight own ≤ share x ts fs w.homes
  own-holds x i name t own false q f p =
      let a = made-gains x i p.own_attrs (kind.Start p.own_name p.own_attrs p.self_closing) ls ts fs w.homes w.merged_into p.token_is f in
      let s = name-short p.own_name in
      let n : length name ≡ length (node_name p.own_name) = ap (λ cs. length cs) p.name_is in
      let z : attrs_weight own ≡ attrs_weight (with_later x p.own_attrs ts w.homes) = ap attrs_weight p.attrs_are in
      let c = attrs-same p.own_attrs in
      omega (arith, a, s, n, z, c)
  own-holds x i name t own true q f p =
      let a = foreign-gains x i (kind.Start p.own_name p.own_attrs p.self_closing) ls ts fs w.homes w.merged_into p.token_is f q in
      let s = foreign_name-long p.space p.own_name in
      let n : length name ≡ length (foreign_name p.space p.own_name) = ap (λ cs. length cs) p.name_is in
      let z : attrs_weight own ≡ attrs_weight (foreign_attrs p.space p.own_attrs) = ap attrs_weight p.attrs_are in
      let y = foreign_attrs-weigh p.space p.own_attrs in
      let c = attrs-same p.own_attrs in
      omega (arith, a, s, n, z, y, c)

  -- a clone, which is of a formatting element, and so of HTML
  clone-holds : (x i : ℕ) (name : List ℕ) (t : Tag) (own : List Attr) (b : Bool) → is_formatting t ≡ true → IsOfTag b x i t name own ts w.homes → length name + attrs_weight own ≤ share x ts fs w.homes + own_from 0 ts (Token i)
  clone-holds x i name t own false f p =
      let a = later-within x p.own_attrs ls ts fs w.homes w.merged_into in
      let s = name-short p.own_name in
      let n : length name ≡ length (node_name p.own_name) = ap (λ cs. length cs) p.name_is in
      let z : attrs_weight own ≡ attrs_weight (with_later x p.own_attrs ts w.homes) = ap attrs_weight p.attrs_are in
      let q = attrs-same p.own_attrs in
      let c : own_from 0 ts (Token i) ≡ own_len (kind.Start p.own_name p.own_attrs p.self_closing) = own-first i (kind.Start p.own_name p.own_attrs p.self_closing) ts p.token_is in
      omega (arith, a, s, n, z, q, c)
  clone-holds x i name t own true f p = absurd (formatting-html t p.space f p.tag_is p.outside)

  element-holds : (x : ℕ) (name : List ℕ) (t : Tag) (own : List Attr) (o : Origin) (b : Bool) (h : Option ℕ) → label_in ls x ≡ node.Element (record { name = name; tag = t; attrs = own; origin = o; is_clone = b; contents = h })
      → weight (label_in ls x) ≤ holds-most x (label_in ls x)
  element-holds x name t own (Token i) false h e =
      let p = subst (λ d. HasOrigin x ts fs w.homes d) e (w.each x) in
      let a = own-holds x i name t own (is_foreign_at fs i) refl (made-of x i (ap origin_in e) (ap is_clone_in e)) p in
      rw e (omega (arith, a))
  element-holds x name t own (Token i) true h e =
      let p = subst (λ d. HasOrigin x ts fs w.homes d) e (w.each x) in
      let f : is_formatting t ≡ true = sym (ap (λ d. is_formatting (tag_in d)) e) ∙ w.clones x (ap is_clone_in e) in
      let a = clone-holds x i name t own (is_foreign_at fs i) f p in
      rw e (omega (arith, a))
  element-holds x name t own Implied false h e =
      let p = subst (λ d. HasOrigin x ts fs w.homes d) e (w.each x) in
      let a = later-within x [] ls ts fs w.homes w.merged_into in
      let z : attrs_weight own ≡ attrs_weight (with_later x [] ts w.homes) = ap attrs_weight p.attrs_are in
      let n : length name ≡ length (name_of p.name_tag) = ap (λ cs. length cs) p.name_is in
      let s = alone-short p.name_tag p.alone in
      rw e (omega (arith, a, z, n, s))
  element-holds x name t own Implied true h e =
      let p = subst (λ d. HasOrigin x ts fs w.homes d) e (w.each x) in
      let f = w.clones x (ap is_clone_in e) in
      let q : tag_in (label_in ls x) ≡ tag_of (name_of p.name_tag) = g x ∙ ap (λ d. tag_of (name_in d)) e ∙ ap tag_of p.name_is in
      absurd (alone-plain p.name_tag p.alone (subst (λ y. is_formatting y ≡ true) q f))
  element-holds x name t own Nothing b h e = absurd (subst (λ d. HasOrigin x ts fs w.homes d) e (w.each x))

  label-holds : (x : ℕ) (d : NodeData) → label_in ls x ≡ d → weight (label_in ls x) ≤ holds-most x (label_in ls x)
  label-holds x node.Document e = rw e (omega arith)
  label-holds x (node.Contents h) e = rw e (omega arith)
  label-holds x (node.Element r) e = element-holds x r.name r.tag r.attrs r.origin r.is_clone r.contents e
  label-holds x (node.Text s) e =
      let p = (k.texts x s e).1 in
      let a = text-gains x ls ts fs w.homes w.merged_into in
      let n : length s ≡ length (text_of x (symbols ts) fs) = ap (λ cs. length cs) p in
      rw e (omega (arith, a, n))
  label-holds x (node.Comment s i) e =
      let p = subst (λ d. HasOrigin x ts fs w.homes d) e (w.each x) in
      let a = at-gains x i (kind.Comment s) ls ts fs w.homes w.merged_into p (made-of x i (ap origin_in e) (ap is_clone_in e)) in
      rw e (omega (arith, a))
  label-holds x (node.Doctype n p s i) e =
      let q = subst (λ d. HasOrigin x ts fs w.homes d) e (w.each x) in
      let a = at-gains x i (kind.Doctype n p s q.0) ls ts fs w.homes w.merged_into q.1 (made-of x i (ap origin_in e) (ap is_clone_in e)) in
      let b = ids-same n in
      let c = ids-same p in
      let d = ids-same s in
      rw e (omega (arith, a, b, c, d))

-- what each of some nodes holds, all hold together
sum-holds : (f g : NodeData → ℕ) (s : ℕ → ℕ) (j : ℕ) (ds : List NodeData) → ((y : ℕ) → y < length ds → f (label_in ds y) ≤ s (j + y) + g (label_in ds y)) → sum_by f ds ≤ over s j (length ds) + sum_by g ds
sum-holds f g s j [] h = omega arith
sum-holds f g s j (d ∷ ds) h =
    let p = sum_by-cons f d ds in
    let q = sum_by-cons g d ds in
    let a : f d ≤ s (j + 0) + g d = h 0 (omega arith) in
    let b : s (j + 0) ≡ s j = ap s (omega arith) in
    let c = sum-holds f g s (suc j) ds (λ y l. subst (λ i. f (label_in ds y) ≤ s i + g (label_in ds y)) (let e : j + suc y ≡ suc j + y = omega arith in e) (h (suc y) (omega (arith, l)))) in
    omega (arith, p, q, a, b, c)

sum-both : (f g : NodeData → ℕ) (ds : List NodeData) → sum_by (λ d. f d + g d) ds ≡ sum_by f ds + sum_by g ds
sum-both f g [] = refl
sum-both f g (d ∷ ds) = let p = sum_by-cons f d ds in let q = sum_by-cons g d ds in let r = sum_by-cons (λ x. f x + g x) d ds in let a = sum-both f g ds in omega (arith, p, q, r, a)

sum-times : (k : ℕ) (f : NodeData → ℕ) (ds : List NodeData) → sum_by (λ d. k * f d) ds ≡ k * sum_by f ds
sum-times k f [] = omega arith
sum-times k f (d ∷ ds) = sum_by-cons (λ x. k * f x) d ds ∙ ap (λ n. k * f d + n) (sum-times k f ds) ∙ sym (ap (λ n. k * n) (sum_by-cons f d ds) ∙ spread k (f d) (sum_by f ds))
  where
    spread : (a b c : ℕ) → a * (b + c) ≡ a * b + a * c
    spread a b c = grind arith

-- All nodes hold no more than the tokens have of their own, five for each start tag, the former once more for each clone of an element, and eight for each
-- element that no token asked for.
pub holding : (ts : List TokenKind) (fs : List Fate) (ls : List NodeData) → AreOrigins ts fs ls → AreMade fs ls → AreTexts (symbols ts) fs ls → ((x : ℕ) → tag_in (label_in ls x) ≡ tag_of (name_in (label_in ls x)))
    → sum_by weight ls ≤ most_clones ls * sum_by own_len ts + sum_by own_len ts + 5 * start_count ts + 8 * implied_count ls
unfolding implied_count
holding ts fs ls w m k g =
    let a = sum-holds weight (λ d. clone_own 0 ts d + 8 * implied_in d) (λ x. share x ts fs w.homes) 0 ls
    (λ y l. subst (λ j. weight (label_in ls y) ≤ share j ts fs w.homes + (clone_own 0 ts (label_in ls y) + 8 * implied_in (label_in ls y))) (let z : y ≡ 0 + y = omega arith in z) (label-holds ts fs ls w m k g y (label_in ls y) refl)) in
    let b = sum-both (clone_own 0 ts) (λ d. 8 * implied_in d) ls in
    let e = sum-times 8 implied_in ls in
    let c = shares-within 0 (length ls) ts fs w.homes in
    let d = clones-within (most_clones ls) 0 ts ls (λ i. clones-most i ls) in
    omega (arith, a, b, c, d, e)

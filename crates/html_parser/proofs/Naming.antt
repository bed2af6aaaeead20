-- No attribute of a tree has an empty name, as no attribute of its tokens has.
use Rattle.std.proofs.Common.{ℕ, zero, suc, ◌≡◌, Bool, true, false, cond, List, [], ◌∷◌, ◌++◌, Option, Some, None, inl, inr, sym, ap, subst, arith}
use Rattle.std.proofs.lemmas.Bool.{cases_Bool}
use Rattle.std.specs.Prelude.{filter, not, slice_get}
use Rattle.std.specs.List.{AllByRecursion}
use Rattle.html_names.specs.declared.foreign.Space.{Space}
use Rattle.html_names.specs.declared.tag.Tag.{Tag}
use Rattle.html_arena.specs.declared.data.NodeData.{NodeData}
use Rattle.html_arena.specs.declared.data.NodeData.TheVariants as node
use Rattle.html_arena.specs.declared.data.Origin.{Origin}
use Rattle.html_arena.specs.declared.data.Origin.TheVariants.{Implied, Nothing, Token as FromToken}
use Rattle.html_arena.specs.Data.{attrs_in, label_in}
use Rattle.html_arena.specs.Merge.{has_name, lacking, merged}
use Rattle.html_arena.specs.Siblings.{is_in}
use Rattle.html_arena.specs.Tree.{Tree}
use Rattle.html_tokens.specs.declared.attributes.Attr.{Attr}
use Rattle.html_tokens.specs.declared.token.Token.{Token}
use Rattle.html_tokens.specs.declared.token.TokenKind.{TokenKind}
use Rattle.html_tokens.specs.declared.token.TokenKind.TheVariants as kind
use Rattle.html_tokens.specs.Cost.{AreBetween, HasNames as KindHasNames}
use Rattle.html_ledger.specs.declared.fate.Fate.{Fate}
use Rattle.html_construction.specs.Origins.{AreOrigins, HasElementOrigin, HasOrigin, IsOfTag, is_foreign_at, with_later}
use Rattle.html_construction.specs.Tokens.{attrs_of, foreign_attrs}
use Rattle.html_construction.proofs.Lengths.{attr-long}
use Rattle.html_page.specs.Serialised.{HasNames, IsNamed}
use Rattle.html_parser.specs.Kinds.{kinds}

abbrev AreNamed : List Attr → Type 0
AreNamed attrs = AllByRecursion IsNamed attrs

append-named : (own more : List Attr) → AreNamed own → AreNamed more → AreNamed (own ++ more)
append-named [] more h k = k
append-named (a ∷ own) more h k = (h.0, append-named own more h.1 k)

filter-named : (p : Attr → Bool) (attrs : List Attr) → AreNamed attrs → AreNamed (filter p attrs)
filter-named p [] h = tt
filter-named p (a ∷ attrs) h = elim (cases_Bool (p a)) [ inl e ↦ rw e (h.0, filter-named p attrs h.1) | inr e ↦ rw e (filter-named p attrs h.1) ]

merged-named : (own more : List Attr) → AreNamed own → AreNamed more → AreNamed (merged own more)
merged-named own more h k = append-named own (lacking own more) h (filter-named (λ a. not (has_name a.name own)) more k)

-- the attributes of each token
abbrev pub KindsNamed : List TokenKind → Type 0
KindsNamed [] = Unit {0}
KindsNamed (t ∷ ts) = AreNamed (attrs_of t) × KindsNamed ts

kind-named : (t : TokenKind) → KindHasNames t → AreNamed (attrs_of t)
kind-named (kind.Start name attrs self_closing) h = h.0
kind-named (kind.End name) h = tt
kind-named (kind.Char c) h = tt
kind-named (kind.Comment text) h = tt
kind-named (kind.Doctype name public_id system_id force_quirks) h = tt
kind-named kind.Eof h = tt

pub kinds-named : (place end : ℕ) (tokens : List Token) → AreBetween place end tokens → KindsNamed (kinds tokens)
kinds-named place end [] b = tt
kinds-named place end (t ∷ ts) b = (kind-named t.kind b.0.names, kinds-named t.span.end end ts b.2)

kind-at : (ts : List TokenKind) (i : ℕ) (t : TokenKind) → KindsNamed ts → slice_get ts i ≡ Some t → AreNamed (attrs_of t)
kind-at [] i t h e = absurd (let k = e in cc)
kind-at (u ∷ ts) zero t h e = subst (λ v. AreNamed (attrs_of v)) (some-is u t e) h.0
  where
    kind_or : TokenKind → Option TokenKind → TokenKind
    kind_or d None = d
    kind_or d (Some v) = v

    some-is : (v w : TokenKind) → Some v ≡ Some w → v ≡ w
    some-is v w q = ap (kind_or v) q
kind-at (u ∷ ts) (suc i) t h e = kind-at ts i t h.1 e

later-named : (x : ℕ) (own : List Attr) (ts : List TokenKind) (hs : List (Option ℕ)) → KindsNamed ts → AreNamed own → AreNamed (with_later x own ts hs)
later-named x own [] hs h k = k
later-named x own (t ∷ ts) [] h k = k
later-named x own (t ∷ ts) (o ∷ hs) h k = later-named x (cond (is_in x o) (merged own (attrs_of t)) own) ts hs h.1 (elim (cases_Bool (is_in x o)) [ inl e ↦ rw e (merged-named own (attrs_of t) k h.0) | inr e ↦ rw e k ])

-- adjusted attributes have names too
foreign-named : (s : Space) (attrs : List Attr) → AreNamed attrs → AreNamed (foreign_attrs s attrs)
foreign-named s [] h = tt
foreign-named s (a ∷ attrs) h = (let e = attr-long s a.name in let k = h.0 in omega (arith, e, k), foreign-named s attrs h.1)

tag-named : (b : Bool) (x i : ℕ) (g : Tag) (ts : List TokenKind) (hs : List (Option ℕ)) (name : List ℕ) (attrs : List Attr) → KindsNamed ts → IsOfTag b x i g name attrs ts hs → AreNamed attrs
tag-named false x i g ts hs name attrs h o = subst AreNamed (sym o.attrs_are) (later-named x o.own_attrs ts hs h (kind-at ts i (kind.Start o.own_name o.own_attrs o.self_closing) h o.token_is))
tag-named true x i g ts hs name attrs h o = subst AreNamed (sym o.attrs_are) (foreign-named o.space o.own_attrs (kind-at ts i (kind.Start o.own_name o.own_attrs o.self_closing) h o.token_is))

element-named : (x : ℕ) (ts : List TokenKind) (fs : List Fate) (hs : List (Option ℕ)) (o : Origin) (g : Tag) (name : List ℕ) (attrs : List Attr) → KindsNamed ts → HasElementOrigin x ts fs hs o g name attrs → AreNamed attrs
element-named x ts fs hs (FromToken i) g name attrs h o = tag-named (is_foreign_at fs i) x i g ts hs name attrs h o
element-named x ts fs hs Implied g name attrs h o = subst AreNamed (sym o.attrs_are) (later-named x [] ts hs h tt)
element-named x ts fs hs Nothing g name attrs h o = absurd o

node-named : (x : ℕ) (ts : List TokenKind) (fs : List Fate) (hs : List (Option ℕ)) (d : NodeData) → KindsNamed ts → HasOrigin x ts fs hs d → AreNamed (attrs_in d)
node-named x ts fs hs node.Document h o = tt
node-named x ts fs hs (node.Contents k) h o = tt
node-named x ts fs hs (node.Text s) h o = tt
node-named x ts fs hs (node.Comment s i) h o = tt
node-named x ts fs hs (node.Doctype n p s i) h o = tt
node-named x ts fs hs (node.Element e) h o = element-named x ts fs hs e.origin e.tag e.name e.attrs h o

pub named-tree : (ts : List TokenKind) (fates : List Fate) (t : Tree) → KindsNamed ts → AreOrigins ts fates t.labels → HasNames t
named-tree ts fates t h o = λ x. node-named x ts fates o.homes (label_in t.labels x) h (o.each x)

-- What nodes come from, after more tokens and with more nodes.
use Rattle.std.proofs.Common.{ℕ, zero, suc, ◌-◌, ◌≡◌, ◌≢◌, ◌<◌, ◌≤◌, ◌⊎◌, Bool, true, false, cond, List, [], ◌∷◌, ◌++◌, length, length-append, Option, Some, None, inl, inr, refl, sym, ap, subst, ◌∙◌, arith, eqb, if◌then◌else◌}
use Rattle.std.proofs.lemmas.Bool.{false≢true, cases_Bool, eqb-true}
use Rattle.std.specs.Prelude.{slice_get, slice_index, slice_set}
use Rattle.std.proofs.lemmas.Option.{slice_get_within}
use Rattle.html_names.specs.declared.foreign.Space.{Space}
use Rattle.html_names.specs.Foreign.{is_html_space, space_of}
use Rattle.html_names.specs.Groups.{is_outermost}
use Rattle.html_names.specs.Names.{is_known, name_of, tag_of}
use Rattle.html_names.proofs.Known.{tag_of-known}
use Rattle.html_names.specs.Sets.{is_formatting}
use Rattle.html_names.specs.Tags.{is_same}
use Rattle.html_names.specs.declared.tag.Tag.{Tag}
use Rattle.html_names.specs.declared.tag.Tag.TheVariants as tag
use Rattle.html_arena.specs.declared.data.NodeData.{NodeData}
use Rattle.html_arena.specs.declared.data.NodeData.TheVariants as node
use Rattle.html_arena.specs.declared.data.Origin.{Origin}
use Rattle.html_arena.specs.declared.data.Origin.TheVariants.{Implied, Nothing, Token}
use Rattle.html_arena.specs.Data.{attrs_in, cloned, is_clone_in, is_text, label_in, origin_in, tag_in, with_attrs}
use Rattle.html_arena.specs.Merge.{merged}
use Rattle.html_arena.specs.Siblings.{first_of, is_in}
use Rattle.html_arena.specs.Tree.{Tree as Nodes, named}
use Rattle.html_tree.specs.States.{IsNamed}
use Rattle.html_arena.proofs.Siblings.{eqb-self}
use Rattle.html_tokens.specs.declared.attributes.Attr.{Attr}
use Rattle.html_tokens.specs.declared.token.TokenKind.{TokenKind}
use Rattle.html_tokens.specs.declared.token.TokenKind.TheVariants as kind
use Rattle.html_ledger.specs.declared.symbol.Symbol.TheVariants.{Comment, Doctype, Start}
use Rattle.html_ledger.specs.declared.fate.Fate.{Fate}
use Rattle.html_ledger.specs.declared.fate.Fate.TheVariants.{Merged}
use Rattle.html_ledger.specs.Fates.{is_foreign}
use Rattle.html_ledger.specs.Symbols.{symbol_of}
use Rattle.html_construction.specs.Tokens.{attrs_of, data_of, element_name, foreign_attrs, foreign_name, name_id, public_id, system_id, tag_name}
use Rattle.html_construction.specs.Accounts.{AreMade}
use Rattle.html_construction.specs.Origins.{AreHomes, AreOrigins, HasElementOrigin, HasOrigin, IsHome, IsOfTag, is_foreign_at, with_later}
use Rattle.html_construction.proofs.Making.{made-within}
use Rattle.html_construction.proofs.Labels.{get-at-end, get-front, get-longer, label-new, label-past, label-old, label-set, label-set-other, length-slice_set, order, same-or-not}

-- HOMES

pub homes-count : (ls : List NodeData) (ts : List TokenKind) (fs : List Fate) (hs : List (Option ℕ)) → AreHomes ls ts fs hs → length hs ≡ length fs
homes-count ls ts [] [] a = refl
homes-count ls ts [] (h ∷ hs) a = absurd a
homes-count ls ts (f ∷ fs) [] a = absurd a
homes-count ls [] (f ∷ fs) (h ∷ hs) a = absurd a
homes-count ls (t ∷ ts) (f ∷ fs) (h ∷ hs) a = ap suc (homes-count ls ts fs hs a.1)

home-later : (ls ks : List NodeData) (t : TokenKind) (f : Fate) (h : Option ℕ) → length ls ≤ length ks → ((x : ℕ) → x < length ls → tag_in (label_in ks x) ≡ tag_in (label_in ls x)) → IsHome ls t f h → IsHome ks t f h
home-later ls ks t f None n g a = a
home-later ls ks t f (Some x) n g a = let b = a.node_in in record {
  fate_is = a.fate_is;
  node_in = omega arith;
  start = a.start ∙ ap Start (sym (g x b));
  outermost = ap is_outermost (g x b) ∙ a.outermost;
}

homes-later : (ls ks : List NodeData) (ts : List TokenKind) (fs : List Fate) (hs : List (Option ℕ)) → length ls ≤ length ks → ((x : ℕ) → x < length ls → tag_in (label_in ks x) ≡ tag_in (label_in ls x))
    → AreHomes ls ts fs hs → AreHomes ks ts fs hs
homes-later ls ks ts [] [] n g a = a
homes-later ls ks ts [] (h ∷ hs) n g a = a
homes-later ls ks ts (f ∷ fs) [] n g a = a
homes-later ls ks [] (f ∷ fs) (h ∷ hs) n g a = a
homes-later ls ks (t ∷ ts) (f ∷ fs) (h ∷ hs) n g a = (home-later ls ks t f h n g a.0, homes-later ls ks ts fs hs n g a.1)

homes-push : (ls : List NodeData) (ts : List TokenKind) (t : TokenKind) (fs : List Fate) (f : Fate) (hs : List (Option ℕ)) (h : Option ℕ) → length fs ≡ length ts → IsHome ls t f h
    → AreHomes ls ts fs hs → AreHomes ls (ts ++ t ∷ []) (fs ++ f ∷ []) (hs ++ h ∷ [])
homes-push ls [] t [] f [] h l i a = (i, tt)
homes-push ls (u ∷ ts) t [] f [] h l i a = absurd (omega arith)
homes-push ls ts t [] f (h' ∷ hs) h l i a = absurd a
homes-push ls ts t (g ∷ fs) f [] h l i a = absurd a
homes-push ls [] t (g ∷ fs) f (h' ∷ hs) h l i a = absurd a
homes-push ls (u ∷ ts) t (g ∷ fs) f (h' ∷ hs) h l i a = (a.0, homes-push ls ts t fs f hs h (omega arith) i a.1)

homes-kept : (ls : List NodeData) (ts us : List TokenKind) (fs : List Fate) (hs : List (Option ℕ)) → AreHomes ls ts fs hs → AreHomes ls (ts ++ us) fs hs
homes-kept ls ts us [] [] a = a
homes-kept ls ts us [] (h ∷ hs) a = a
homes-kept ls ts us (f ∷ fs) [] a = a
homes-kept ls [] us (f ∷ fs) (h ∷ hs) a = absurd a
homes-kept ls (t ∷ ts) us (f ∷ fs) (h ∷ hs) a = (a.0, homes-kept ls ts us fs hs a.1)

homes-released : (ls : List NodeData) (ts us : List TokenKind) (fs : List Fate) (hs : List (Option ℕ)) → length fs ≤ length ts → AreHomes ls (ts ++ us) fs hs → AreHomes ls ts fs hs
homes-released ls ts us [] [] l a = a
homes-released ls ts us [] (h ∷ hs) l a = a
homes-released ls ts us (f ∷ fs) [] l a = a
homes-released ls [] us (f ∷ fs) (h ∷ hs) l a = absurd (omega arith)
homes-released ls (t ∷ ts) us (f ∷ fs) (h ∷ hs) l a = (a.0, homes-released ls ts us fs hs (omega arith) a.1)

-- ATTRIBUTES OF LATER TAGS

later-front : (x : ℕ) (own : List Attr) (ts us : List TokenKind) (hs : List (Option ℕ)) → length hs ≤ length ts → with_later x own (ts ++ us) hs ≡ with_later x own ts hs
later-front x own [] [] [] l = refl
later-front x own [] (u ∷ us) [] l = refl
later-front x own [] us (h ∷ hs) l = absurd (omega arith)
later-front x own (t ∷ ts) us [] l = refl
later-front x own (t ∷ ts) us (h ∷ hs) l = later-front x (cond (is_in x h) (merged own (attrs_of t)) own) ts us hs (omega arith)

later-push : (x : ℕ) (own : List Attr) (ts : List TokenKind) (t : TokenKind) (hs : List (Option ℕ)) (h : Option ℕ) → length hs ≡ length ts
    → with_later x own (ts ++ t ∷ []) (hs ++ h ∷ []) ≡ cond (is_in x h) (merged (with_later x own ts hs) (attrs_of t)) (with_later x own ts hs)
later-push x own [] t [] h l = refl
later-push x own [] t (k ∷ hs) h l = absurd (omega arith)
later-push x own (u ∷ ts) t [] h l = absurd (omega arith)
later-push x own (u ∷ ts) t (k ∷ hs) h l = later-push x (cond (is_in x k) (merged own (attrs_of u)) own) ts t hs h (omega arith)

-- into this node no tag was merged
abbrev NoHome : ℕ → List (Option ℕ) → Type 0
NoHome x [] = Unit {0}
NoHome x (h ∷ hs) = (is_in x h ≡ false) × NoHome x hs

later-none : (x : ℕ) (own : List Attr) (ts : List TokenKind) (hs : List (Option ℕ)) → NoHome x hs → with_later x own ts hs ≡ own
later-none x own [] hs n = refl
later-none x own (t ∷ ts) [] n = refl
later-none x own (t ∷ ts) (h ∷ hs) n = ap (λ b. with_later x (cond b (merged own (attrs_of t)) own) ts hs) n.0 ∙ later-none x own ts hs n.1

no-home : (x : ℕ) (ls : List NodeData) (ts : List TokenKind) (fs : List Fate) (hs : List (Option ℕ)) → ((y : ℕ) → y < length ls → is_outermost (tag_in (label_in ls y)) ≡ true → x ≢ y) → AreHomes ls ts fs hs → NoHome x hs
no-home x ls ts [] [] k a = tt
no-home x ls ts [] (h ∷ hs) k a = absurd a
no-home x ls ts (f ∷ fs) [] k a = absurd a
no-home x ls [] (f ∷ fs) (h ∷ hs) k a = absurd a
no-home x ls (t ∷ ts) (f ∷ fs) (h ∷ hs) k a = (one h a.0, no-home x ls ts fs hs k a.1)
  where
    one : (h : Option ℕ) → IsHome ls t f h → is_in x h ≡ false
    one None b = refl
    one (Some y) b = elim (cases_Bool (eqb x y)) [
      | inl e ↦ absurd (k y b.node_in b.outermost (eqb-true x y e))
      | inr e ↦ e
    ]

-- the next node, and a formatting element
pub far : (x : ℕ) (ls : List NodeData) (ts : List TokenKind) (fs : List Fate) (hs : List (Option ℕ)) → length ls ≤ x → AreHomes ls ts fs hs → NoHome x hs
far x ls ts fs hs l a = no-home x ls ts fs hs (λ y b o e. absurd (omega arith)) a

outermost-plain : (g : Tag) → is_outermost g ≡ true → is_formatting g ≡ true → ⊥
outermost-plain tag.Body o f = absurd (false≢true f)
outermost-plain tag.Html o f = absurd (false≢true f)
outermost-plain _ o f = absurd (false≢true o)

plain : (x : ℕ) (ls : List NodeData) (ts : List TokenKind) (fs : List Fate) (hs : List (Option ℕ)) → is_formatting (tag_in (label_in ls x)) ≡ true → AreHomes ls ts fs hs → NoHome x hs
plain x ls ts fs hs f a = no-home x ls ts fs hs (λ y b o e. outermost-plain (tag_in (label_in ls y)) o (subst (λ z. is_formatting (tag_in (label_in ls z)) ≡ true) e f)) a

-- WHAT A NODE HAS

-- the token of an element
token-of : (b : Bool) (x i : ℕ) (g : Tag) (name : List ℕ) (own : List Attr) (ts : List TokenKind) (hs : List (Option ℕ)) → IsOfTag b x i g name own ts hs → (v : TokenKind) × (slice_get ts i ≡ Some v)
token-of false x i g name own ts hs h = (kind.Start h.own_name h.own_attrs h.self_closing, h.token_is)
token-of true x i g name own ts hs h = (kind.Start h.own_name h.own_attrs h.self_closing, h.token_is)

-- among other tokens, and under another number
of-tag : (b : Bool) (x y i : ℕ) (g : Tag) (name : List ℕ) (own : List Attr) (ts us : List TokenKind) (hs ks : List (Option ℕ)) → ((v : TokenKind) → slice_get ts i ≡ Some v → slice_get us i ≡ Some v)
    → ((bs : List Attr) → with_later y bs us ks ≡ with_later x bs ts hs) → IsOfTag b x i g name own ts hs → IsOfTag b y i g name own us ks
of-tag false x y i g name own ts us hs ks get same h = record {
  own_name = h.own_name;
  own_attrs = h.own_attrs;
  self_closing = h.self_closing;
  token_is = get (kind.Start h.own_name h.own_attrs h.self_closing) h.token_is;
  name_is = h.name_is;
  attrs_are = h.attrs_are ∙ sym (same h.own_attrs);
}
of-tag true x y i g name own ts us hs ks get same h = record {
  space = h.space;
  tag_is = h.tag_is;
  own_name = h.own_name;
  own_attrs = h.own_attrs;
  self_closing = h.self_closing;
  outside = h.outside;
  token_is = get (kind.Start h.own_name h.own_attrs h.self_closing) h.token_is;
  name_is = h.name_is;
  attrs_are = h.attrs_are;
}

element-later : (x : ℕ) (ts us : List TokenKind) (fs gs : List Fate) (hs ks : List (Option ℕ)) (o : Origin) (g : Tag) (name : List ℕ) (own : List Attr)
    → ((i : ℕ) (v : TokenKind) → o ≡ Token i → slice_get ts i ≡ Some v → (slice_get us i ≡ Some v) × (is_foreign_at gs i ≡ is_foreign_at fs i)) → ((bs : List Attr) → with_later x bs us ks ≡ with_later x bs ts hs)
    → HasElementOrigin x ts fs hs o g name own → HasElementOrigin x us gs ks o g name own
element-later x ts us fs gs hs ks (Token i) g name own get same h =
    let p = token-of (is_foreign_at fs i) x i g name own ts hs h in
    subst (λ b. IsOfTag b x i g name own us ks) (sym (get i p.0 refl p.1).1) (of-tag (is_foreign_at fs i) x x i g name own ts us hs ks (λ v e. (get i v refl e).0) same h)
element-later x ts us fs gs hs ks Implied g name own get same h = record { name_tag = h.name_tag; alone = h.alone; name_is = h.name_is; attrs_are = h.attrs_are ∙ sym (same []) }
element-later x ts us fs gs hs ks Nothing g name own get same h = absurd h

origin-later : (x : ℕ) (ts us : List TokenKind) (fs gs : List Fate) (hs ks : List (Option ℕ)) (d : NodeData)
    → ((i : ℕ) (v : TokenKind) → origin_in d ≡ Token i → slice_get ts i ≡ Some v → (slice_get us i ≡ Some v) × (is_foreign_at gs i ≡ is_foreign_at fs i))
    → ((bs : List Attr) → with_later x bs us ks ≡ with_later x bs ts hs) → HasOrigin x ts fs hs d → HasOrigin x us gs ks d
origin-later x ts us fs gs hs ks node.Document get same h = tt
origin-later x ts us fs gs hs ks (node.Contents c) get same h = tt
origin-later x ts us fs gs hs ks (node.Text s) get same h = tt
origin-later x ts us fs gs hs ks (node.Comment s i) get same h = (get i (kind.Comment s) refl h).0
origin-later x ts us fs gs hs ks (node.Doctype n p s i) get same h = (h.0, (get i (kind.Doctype n p s h.0) refl h.1).0)
origin-later x ts us fs gs hs ks (node.Element e) get same h = element-later x ts us fs gs hs ks e.origin e.tag e.name e.attrs get same h

-- an element under another number
element-at : (x y : ℕ) (ts : List TokenKind) (fs : List Fate) (hs : List (Option ℕ)) (o : Origin) (g : Tag) (name : List ℕ) (own : List Attr) → ((bs : List Attr) → with_later x bs ts hs ≡ with_later y bs ts hs)
    → HasElementOrigin y ts fs hs o g name own → HasElementOrigin x ts fs hs o g name own
element-at x y ts fs hs (Token i) g name own same h = of-tag (is_foreign_at fs i) y x i g name own ts ts hs hs (λ v e. e) same h
element-at x y ts fs hs Implied g name own same h = record { name_tag = h.name_tag; alone = h.alone; name_is = h.name_is; attrs_are = h.attrs_are ∙ sym (same []) }
element-at x y ts fs hs Nothing g name own same h = absurd h

pub origin-clone : (x y : ℕ) (ts : List TokenKind) (fs : List Fate) (hs : List (Option ℕ)) (d : NodeData) → ((bs : List Attr) → with_later x bs ts hs ≡ with_later y bs ts hs) → HasOrigin y ts fs hs d → HasOrigin x ts fs hs (cloned d)
origin-clone x y ts fs hs node.Document same h = tt
origin-clone x y ts fs hs (node.Contents c) same h = tt
origin-clone x y ts fs hs (node.Text s) same h = tt
origin-clone x y ts fs hs (node.Comment s i) same h = h
origin-clone x y ts fs hs (node.Doctype n p s i) same h = h
origin-clone x y ts fs hs (node.Element e) same h = element-at x y ts fs hs e.origin e.tag e.name e.attrs same h

-- an html or body element is none of foreign content
outermost-html : (g : Tag) (s : Space) → is_outermost g ≡ true → space_of g ≡ s → is_html_space s ≡ false → ⊥
outermost-html g s o e n = inside g o (ap is_html_space e ∙ n)
  where
    inside : (g : Tag) → is_outermost g ≡ true → is_html_space (space_of g) ≡ false → ⊥
    inside tag.Html a b = absurd (false≢true (sym b))
    inside tag.Body a b = absurd (false≢true (sym b))
    inside _ a b = absurd (false≢true a)

-- more attributes, of an html or body element
more-of-tag : (b : Bool) (x i : ℕ) (g : Tag) (name : List ℕ) (own cs : List Attr) (ts us : List TokenKind) (hs ks : List (Option ℕ)) → is_outermost g ≡ true → ((v : TokenKind) → slice_get ts i ≡ Some v → slice_get us i ≡ Some v)
    → ((bs : List Attr) → with_later x bs us ks ≡ merged (with_later x bs ts hs) cs) → IsOfTag b x i g name own ts hs → IsOfTag b x i g name (merged own cs) us ks
more-of-tag false x i g name own cs ts us hs ks o get same h = record {
  own_name = h.own_name;
  own_attrs = h.own_attrs;
  self_closing = h.self_closing;
  token_is = get (kind.Start h.own_name h.own_attrs h.self_closing) h.token_is;
  name_is = h.name_is;
  attrs_are = ap (λ bs. merged bs cs) h.attrs_are ∙ sym (same h.own_attrs);
}
more-of-tag true x i g name own cs ts us hs ks o get same h = absurd (outermost-html g h.space o h.tag_is h.outside)

element-more : (x : ℕ) (ts us : List TokenKind) (fs gs : List Fate) (hs ks : List (Option ℕ)) (o : Origin) (g : Tag) (name : List ℕ) (own cs : List Attr) → is_outermost g ≡ true
    → ((i : ℕ) (v : TokenKind) → slice_get ts i ≡ Some v → (slice_get us i ≡ Some v) × (is_foreign_at gs i ≡ is_foreign_at fs i)) → ((bs : List Attr) → with_later x bs us ks ≡ merged (with_later x bs ts hs) cs)
    → HasElementOrigin x ts fs hs o g name own → HasElementOrigin x us gs ks o g name (merged own cs)
element-more x ts us fs gs hs ks (Token i) g name own cs u get same h =
    let p = token-of (is_foreign_at fs i) x i g name own ts hs h in
    subst (λ b. IsOfTag b x i g name (merged own cs) us ks) (sym (get i p.0 p.1).1) (more-of-tag (is_foreign_at fs i) x i g name own cs ts us hs ks u (λ v e. (get i v e).0) same h)
element-more x ts us fs gs hs ks Implied g name own cs u get same h = record { name_tag = h.name_tag; alone = h.alone; name_is = h.name_is; attrs_are = ap (λ bs. merged bs cs) h.attrs_are ∙ sym (same []) }
element-more x ts us fs gs hs ks Nothing g name own cs u get same h = absurd h

origin-merged : (x : ℕ) (ts us : List TokenKind) (fs gs : List Fate) (hs ks : List (Option ℕ)) (d : NodeData) (cs : List Attr) → is_outermost (tag_in d) ≡ true
    → ((i : ℕ) (v : TokenKind) → slice_get ts i ≡ Some v → (slice_get us i ≡ Some v) × (is_foreign_at gs i ≡ is_foreign_at fs i))
    → ((bs : List Attr) → with_later x bs us ks ≡ merged (with_later x bs ts hs) cs) → HasOrigin x ts fs hs d → HasOrigin x us gs ks (with_attrs d (merged (attrs_in d) cs))
origin-merged x ts us fs gs hs ks node.Document cs u get same h = tt
origin-merged x ts us fs gs hs ks (node.Contents c) cs u get same h = tt
origin-merged x ts us fs gs hs ks (node.Text s) cs u get same h = tt
origin-merged x ts us fs gs hs ks (node.Comment s i) cs u get same h = (get i (kind.Comment s) h).0
origin-merged x ts us fs gs hs ks (node.Doctype n p s i) cs u get same h = (h.0, (get i (kind.Doctype n p s h.0) h.1).0)
origin-merged x ts us fs gs hs ks (node.Element e) cs u get same h = element-more x ts us fs gs hs ks e.origin e.tag e.name e.attrs cs u get same h

-- more fates
pub foreign-longer : (fs gs : List Fate) (i : ℕ) → i < length fs → is_foreign_at (fs ++ gs) i ≡ is_foreign_at fs i
foreign-longer [] gs i h = absurd (omega arith)
foreign-longer (f ∷ fs) gs zero h = refl
foreign-longer (f ∷ fs) gs (suc i) h = foreign-longer fs gs i (omega arith)

pub foreign-end : (fs : List Fate) (f : Fate) → is_foreign_at (fs ++ f ∷ []) (length fs) ≡ is_foreign f
foreign-end [] f = refl
foreign-end (g ∷ fs) f = foreign-end fs f

-- one more token with its fate
longer-both : (ts : List TokenKind) (t : TokenKind) (fs : List Fate) (f : Fate) → length fs ≡ length ts → (i : ℕ) (v : TokenKind) → slice_get ts i ≡ Some v
    → (slice_get (ts ++ t ∷ []) i ≡ Some v) × (is_foreign_at (fs ++ f ∷ []) i ≡ is_foreign_at fs i)
longer-both ts t fs f l i v e = (get-longer ts (t ∷ []) i v e, foreign-longer fs (f ∷ []) i (let b = slice_get_within ts i v e in omega (arith, b, l)))

-- ALL NODES

-- a token that is not merged
pub origins-besides : (ts : List TokenKind) (t : TokenKind) (fs : List Fate) (f : Fate) (ls : List NodeData) → length fs ≡ length ts → f ≢ Merged → AreOrigins ts fs ls → AreOrigins (ts ++ t ∷ []) (fs ++ f ∷ []) ls
origins-besides ts t fs f ls l n m =
    let c : length m.homes ≡ length fs = homes-count ls ts fs m.homes m.merged_into in
    record {
      homes = m.homes ++ None ∷ [];
      merged_into = homes-push ls ts t fs f m.homes None l n m.merged_into;
      each = λ x. origin-later x ts (ts ++ t ∷ []) fs (fs ++ f ∷ []) m.homes (m.homes ++ None ∷ []) (label_in ls x) (λ i v o e. longer-both ts t fs f l i v e) (λ bs. later-push x bs ts t m.homes None (c ∙ l)) (m.each x);
      clones = m.clones;
    }

-- tokens without a fate, and such that were taken out again
pub origins-kept : (ts us : List TokenKind) (fs : List Fate) (ls : List NodeData) → length fs ≤ length ts → AreOrigins ts fs ls → AreOrigins (ts ++ us) fs ls
origins-kept ts us fs ls l m =
    let c : length m.homes ≡ length fs = homes-count ls ts fs m.homes m.merged_into in
    record {
      homes = m.homes;
      merged_into = homes-kept ls ts us fs m.homes m.merged_into;
      each = λ x. origin-later x ts (ts ++ us) fs fs m.homes m.homes (label_in ls x) (λ i v o e. (get-longer ts us i v e, refl)) (λ bs. later-front x bs ts us m.homes (omega (arith, c, l))) (m.each x);
      clones = m.clones;
    }

pub origins-released : (ts us : List TokenKind) (fs : List Fate) (ls : List NodeData) → length fs ≤ length ts → AreMade fs ls → AreOrigins (ts ++ us) fs ls → AreOrigins ts fs ls
origins-released ts us fs ls l a m =
    let c : length m.homes ≡ length fs = homes-count ls (ts ++ us) fs m.homes m.merged_into in
    record {
      homes = m.homes;
      merged_into = homes-released ls ts us fs m.homes l m.merged_into;
      each = λ x. origin-later x (ts ++ us) ts fs fs m.homes m.homes (label_in ls x)
          (λ i v o e. (get-front ts us i v (let p = a.of_made i x o in let b = made-within fs i p.0 p.1 in omega (arith, b, l)) e, refl))
          (λ bs. sym (later-front x bs ts us m.homes (omega (arith, c, l)))) (m.each x);
      clones = m.clones;
    }

-- nodes that are as before, or texts as before
pub origins-alike : (ts : List TokenKind) (fs : List Fate) (ls ks : List NodeData) → length ls ≤ length ks → ((x : ℕ) → (label_in ks x ≡ label_in ls x) ⊎ ((is_text (label_in ls x) ≡ true) × (is_text (label_in ks x) ≡ true)))
    → AreOrigins ts fs ls → AreOrigins ts fs ks
origins-alike ts fs ls ks n alike m = record {
  homes = m.homes;
  merged_into = homes-later ls ks ts fs m.homes n (λ x b. elim (alike x) [
    | inl q ↦ ap tag_in q
    | inr q ↦ text-tag (label_in ks x) q.1 ∙ sym (text-tag (label_in ls x) q.0)
  ]) m.merged_into;
  each = λ x. elim (alike x) [
    | inl q ↦ subst (λ d. HasOrigin x ts fs m.homes d) (sym q) (m.each x)
    | inr q ↦ text-origin x (label_in ks x) q.1
  ];
  clones = λ x k. elim (alike x) [
    | inl q ↦ ap (λ d. is_formatting (tag_in d)) q ∙ m.clones x (sym (ap is_clone_in q) ∙ k)
    | inr q ↦ absurd (false≢true (sym (text-clone (label_in ks x) q.1) ∙ k))
  ];
}
  where
    text-tag : (d : NodeData) → is_text d ≡ true → tag_in d ≡ tag.Other
    text-tag (node.Text s) e = refl
    text-tag node.Document e = refl
    text-tag (node.Contents c) e = refl
    text-tag (node.Comment s i) e = refl
    text-tag (node.Doctype a b c i) e = refl
    text-tag (node.Element r) e = absurd (false≢true e)

    text-clone : (d : NodeData) → is_text d ≡ true → is_clone_in d ≡ false
    text-clone (node.Text s) e = refl
    text-clone node.Document e = refl
    text-clone (node.Contents c) e = refl
    text-clone (node.Comment s i) e = refl
    text-clone (node.Doctype a b c i) e = refl
    text-clone (node.Element r) e = absurd (false≢true e)

    text-origin : (x : ℕ) (d : NodeData) → is_text d ≡ true → HasOrigin x ts fs m.homes d
    text-origin x (node.Text s) e = tt
    text-origin x node.Document e = tt
    text-origin x (node.Contents c) e = tt
    text-origin x (node.Comment s i) e = absurd (false≢true e)
    text-origin x (node.Doctype a b c i) e = absurd (false≢true e)
    text-origin x (node.Element r) e = absurd (false≢true e)

-- more nodes
pub origins-more : (ts : List TokenKind) (fs : List Fate) (ls ds : List NodeData)
    → ((hs : List (Option ℕ)) → ((x : ℕ) → length ls ≤ x → (own : List Attr) → with_later x own ts hs ≡ own) → ((x : ℕ) → is_formatting (tag_in (label_in ls x)) ≡ true → (own : List Attr) → with_later x own ts hs ≡ own)
    → ((x : ℕ) → HasOrigin x ts fs hs (label_in ls x)) → (x y : ℕ) → length ls ≤ x → HasOrigin x ts fs hs (label_in ds y))
    → ((y : ℕ) → is_clone_in (label_in ds y) ≡ true → is_formatting (tag_in (label_in ds y)) ≡ true)
    → AreOrigins ts fs ls → AreOrigins ts fs (ls ++ ds)
origins-more ts fs ls ds new formatting m = record {
  homes = m.homes;
  merged_into = homes-later ls (ls ++ ds) ts fs m.homes (let l = length-append ls ds in omega (arith, l)) (λ x b. ap tag_in (label-old ls ds x b)) m.merged_into;
  each = λ x. elim (order x (length ls)) [
    | inl q ↦ subst (λ d. HasOrigin x ts fs m.homes d) (sym (label-old ls ds x q)) (m.each x)
    | inr q ↦ subst (λ d. HasOrigin x ts fs m.homes d) (sym (label-new ls ds x q))
        (new m.homes (λ z b own. later-none z own ts m.homes (far z ls ts fs m.homes b m.merged_into)) (λ z f own. later-none z own ts m.homes (plain z ls ts fs m.homes f m.merged_into)) m.each x (x - length ls) q)
  ];
  clones = λ x k. elim (order x (length ls)) [
    | inl q ↦ ap (λ d. is_formatting (tag_in d)) (label-old ls ds x q) ∙ m.clones x (sym (ap is_clone_in (label-old ls ds x q)) ∙ k)
    | inr q ↦ ap (λ d. is_formatting (tag_in d)) (label-new ls ds x q) ∙ formatting (x - length ls) (sym (ap is_clone_in (label-new ls ds x q)) ∙ k)
  ];
}

-- a tag was merged into a node
pub origins-merged : (ts : List TokenKind) (t : TokenKind) (fs : List Fate) (ls : List NodeData) (y : ℕ) → length fs ≡ length ts → y < length ls → symbol_of t ≡ Start (tag_in (label_in ls y)) → is_outermost (tag_in (label_in ls y)) ≡ true
    → AreOrigins ts fs ls → AreOrigins (ts ++ t ∷ []) (fs ++ Merged ∷ []) (slice_set ls y (with_attrs (label_in ls y) (merged (attrs_in (label_in ls y)) (attrs_of t))))
origins-merged ts t fs ls y l h s o m =
    let c : length m.homes ≡ length fs = homes-count ls ts fs m.homes m.merged_into in
    record {
      homes = m.homes ++ Some y ∷ [];
      merged_into = homes-later ls ks (ts ++ t ∷ []) (fs ++ Merged ∷ []) (m.homes ++ Some y ∷ []) (let k = length-slice_set ls y new in omega (arith, k)) (λ x b. tags x)
          (homes-push ls ts t fs Merged m.homes (Some y) l (record { fate_is = refl; node_in = h; start = s; outermost = o }) m.merged_into);
      each = λ x. elim (same-or-not x y) [
        | inl q ↦ subst (λ z. HasOrigin z (ts ++ t ∷ []) (fs ++ Merged ∷ []) (m.homes ++ Some y ∷ []) (label_in ks z)) (sym q)
            (subst (λ d. HasOrigin y (ts ++ t ∷ []) (fs ++ Merged ∷ []) (m.homes ++ Some y ∷ []) d) (sym (label-set ls y new h))
            (origin-merged y ts (ts ++ t ∷ []) fs (fs ++ Merged ∷ []) m.homes (m.homes ++ Some y ∷ []) (label_in ls y) (attrs_of t) o (λ i v e. longer-both ts t fs Merged l i v e)
            (λ bs. later-push y bs ts t m.homes (Some y) (c ∙ l) ∙ ap (λ b. cond b (merged (with_later y bs ts m.homes) (attrs_of t)) (with_later y bs ts m.homes)) (eqb-self y)) (m.each y)))
        | inr q ↦ subst (λ d. HasOrigin x (ts ++ t ∷ []) (fs ++ Merged ∷ []) (m.homes ++ Some y ∷ []) d) (sym (label-set-other ls y x new q))
            (origin-later x ts (ts ++ t ∷ []) fs (fs ++ Merged ∷ []) m.homes (m.homes ++ Some y ∷ []) (label_in ls x) (λ i v k e. longer-both ts t fs Merged l i v e)
            (λ bs. later-push x bs ts t m.homes (Some y) (c ∙ l) ∙ ap (λ b. cond b (merged (with_later x bs ts m.homes) (attrs_of t)) (with_later x bs ts m.homes)) (apart x q)) (m.each x))
      ];
      clones = λ x k. ap is_formatting (tags x) ∙ m.clones x (sym (marks x) ∙ k);
    }
  where
    new : NodeData
    new = with_attrs (label_in ls y) (merged (attrs_in (label_in ls y)) (attrs_of t))

    ks : List NodeData
    ks = slice_set ls y new

    apart : (x : ℕ) → x ≢ y → eqb x y ≡ false
    apart x n = elim (cases_Bool (eqb x y)) [
      | inl e ↦ absurd (n (eqb-true x y e))
      | inr e ↦ e
    ]

    tag-with : (d : NodeData) (own : List Attr) → tag_in (with_attrs d own) ≡ tag_in d
    tag-with node.Document own = refl
    tag-with (node.Contents c) own = refl
    tag-with (node.Text r) own = refl
    tag-with (node.Comment r i) own = refl
    tag-with (node.Doctype a b c i) own = refl
    tag-with (node.Element e) own = refl

    mark-with : (d : NodeData) (own : List Attr) → is_clone_in (with_attrs d own) ≡ is_clone_in d
    mark-with node.Document own = refl
    mark-with (node.Contents c) own = refl
    mark-with (node.Text r) own = refl
    mark-with (node.Comment r i) own = refl
    mark-with (node.Doctype a b c i) own = refl
    mark-with (node.Element e) own = refl

    tags : (x : ℕ) → tag_in (label_in ks x) ≡ tag_in (label_in ls x)
    tags x = elim (same-or-not x y) [
      | inl q ↦ ap (λ z. tag_in (label_in ks z)) q ∙ ap tag_in (label-set ls y new h) ∙ tag-with (label_in ls y) (merged (attrs_in (label_in ls y)) (attrs_of t)) ∙ ap (λ z. tag_in (label_in ls z)) (sym q)
      | inr q ↦ ap tag_in (label-set-other ls y x new q)
    ]

    marks : (x : ℕ) → is_clone_in (label_in ks x) ≡ is_clone_in (label_in ls x)
    marks x = elim (same-or-not x y) [
      | inl q ↦ ap (λ z. is_clone_in (label_in ks z)) q ∙ ap is_clone_in (label-set ls y new h) ∙ mark-with (label_in ls y) (merged (attrs_in (label_in ls y)) (attrs_of t)) ∙ ap (λ z. is_clone_in (label_in ls z)) (sym q)
      | inr q ↦ ap is_clone_in (label-set-other ls y x new q)
    ]

-- TOKENS AND THEIR NODES

-- what a token is, by its symbol
pub comment-is : (t : TokenKind) → symbol_of t ≡ Comment → t ≡ kind.Comment (data_of t)
comment-is (kind.Comment s) e = refl
comment-is (kind.Start a b c) e = absurd (let k = e in cc)
comment-is (kind.End a) e = absurd (let k = e in cc)
comment-is (kind.Char a) e = absurd (let k = e in cc)
comment-is (kind.Doctype a b c d) e = absurd (let k = e in cc)
comment-is kind.Eof e = absurd (let k = e in cc)

pub doctype-is : (t : TokenKind) → symbol_of t ≡ Doctype → (forced : Bool) × (t ≡ kind.Doctype (name_id t) (public_id t) (system_id t) forced)
doctype-is (kind.Doctype a b c d) e = (d, refl)
doctype-is (kind.Start a b c) e = absurd (let k = e in cc)
doctype-is (kind.End a) e = absurd (let k = e in cc)
doctype-is (kind.Char a) e = absurd (let k = e in cc)
doctype-is (kind.Comment a) e = absurd (let k = e in cc)
doctype-is kind.Eof e = absurd (let k = e in cc)

pub start-is : (t : TokenKind) (g : Tag) → symbol_of t ≡ Start g → (self_closing : Bool) × ((t ≡ kind.Start (tag_name t) (attrs_of t) self_closing) × (tag_of (tag_name t) ≡ g))
start-is (kind.Start a b c) g e = (c, (refl, let k : Start (tag_of a) ≡ Start g = e in cc))
start-is (kind.Comment a) g e = absurd (let k = e in cc)
start-is (kind.End a) g e = absurd (let k = e in cc)
start-is (kind.Char a) g e = absurd (let k = e in cc)
start-is (kind.Doctype a b c d) g e = absurd (let k = e in cc)
start-is kind.Eof g e = absurd (let k = e in cc)

-- an element of the next token
pub element-of : (x n : ℕ) (ts : List TokenKind) (t : TokenKind) (fs : List Fate) (hs : List (Option ℕ)) (g h : Tag) → n ≡ length ts → symbol_of t ≡ Start g → is_foreign_at fs n ≡ false → ((own : List Attr) → with_later x own (ts ++ t ∷ []) hs ≡ own)
    → HasElementOrigin x (ts ++ t ∷ []) fs hs (Token n) h (element_name g t) (attrs_of t)
element-of x n ts t fs hs g h l s b none = subst (λ c. IsOfTag c x n h (element_name g t) (attrs_of t) (ts ++ t ∷ []) hs) (sym b) (let p = start-is t g s in record {
  own_name = tag_name t;
  own_attrs = attrs_of t;
  self_closing = p.0;
  token_is = ap (λ i. slice_get (ts ++ t ∷ []) i) l ∙ get-at-end ts t ∙ ap Some p.1.0;
  name_is = ap (λ h. if is_same h tag.Image then name_of tag.Img else tag_name t) (sym p.1.1);
  attrs_are = sym (none (attrs_of t));
})

-- and one of foreign content
pub foreign-of : (x n : ℕ) (ts : List TokenKind) (t : TokenKind) (fs : List Fate) (hs : List (Option ℕ)) (g h : Tag) (s : Space) → n ≡ length ts → symbol_of t ≡ Start g → is_foreign_at fs n ≡ true → is_html_space s ≡ false → space_of h ≡ s
    → HasElementOrigin x (ts ++ t ∷ []) fs hs (Token n) h (foreign_name s (tag_name t)) (foreign_attrs s (attrs_of t))
foreign-of x n ts t fs hs g h s l e b o q = subst (λ c. IsOfTag c x n h (foreign_name s (tag_name t)) (foreign_attrs s (attrs_of t)) (ts ++ t ∷ []) hs) (sym b) (let p = start-is t g e in record {
  space = s;
  tag_is = q;
  own_name = tag_name t;
  own_attrs = attrs_of t;
  self_closing = p.0;
  outside = o;
  token_is = ap (λ i. slice_get (ts ++ t ∷ []) i) l ∙ get-at-end ts t ∙ ap Some p.1.0;
  name_is = refl;
  attrs_are = refl;
})

-- an element is named as its tag, but for an image
pub named-plain : (g : Tag) (t : TokenKind) (name : List ℕ) → is_same g tag.Image ≡ false → name ≡ tag_name t → name ≡ element_name g t
named-plain g t name n e = e ∙ sym (ap (λ b. if b then name_of tag.Img else tag_name t) n)

formatting-image : (g : Tag) → is_formatting g ≡ true → is_same g tag.Image ≡ false
formatting-image tag.Image e = absurd (false≢true e)
formatting-image _ e = refl

pub named-formatting : (g : Tag) (t : TokenKind) (name : List ℕ) → is_formatting g ≡ true → name ≡ tag_name t → name ≡ element_name g t
named-formatting g t name n e = named-plain g t name (formatting-image g n) e

pub named-html : (t : TokenKind) → symbol_of t ≡ Start tag.Html → name_of tag.Html ≡ element_name tag.Html t
named-html t e = let p = start-is t tag.Html e in sym (tag_of-known (tag_name t) (ap is_known p.1.1) ∙ ap name_of p.1.1)

-- an element of these names is a node
pub outermost-in : (t : Nodes) (g : Tag) (x : ℕ) → is_outermost g ≡ true → named t g x ≡ true → x < length t.labels
outermost-in t g x o n = elim (order x (length t.labels)) [
  | inl q ↦ q
  | inr q ↦ absurd (none g o (sym (ap (λ d. is_same (tag_in d) g) (label-past t.labels x q)) ∙ n))
]
  where
    none : (g : Tag) → is_outermost g ≡ true → is_same tag.Other g ≡ true → ⊥
    none tag.Html a e = absurd (false≢true e)
    none tag.Body a e = absurd (false≢true e)
    none _ a e = absurd (false≢true a)

-- the first open element is an html
pub first-named : (t : Nodes) (s : List ℕ) → IsNamed t tag.Html (first_of s) → 0 < length s → named t tag.Html (slice_index s 0) ≡ true
first-named t [] n h = absurd (omega arith)
first-named t (x ∷ s) n h = (n x refl).1

-- The nodes against the tokens and their fates, after each kind of call.
use Rattle.std.proofs.Common.{ℕ, zero, suc, ◌+◌, ◌≡◌, ◌≢◌, ◌<◌, ◌≤◌, Bool, true, false, cond, List, [], ◌∷◌, ◌++◌, length, length-append, map, replicate, Option, Some, None, inl, inr, refl, sym, ap, subst, ◌∙◌, arith, append_assoc}
use Rattle.std.proofs.lemmas.Bool.{false≢true, cases_Bool}
use Rattle.std.proofs.lemmas.List.{append-nil}
use Rattle.std.specs.Prelude.{slice_get, slice_set, unwrap_or}
use Rattle.html_names.specs.declared.foreign.Space.{Space}
use Rattle.html_names.specs.Foreign.{adjusted_name, is_html_space}
use Rattle.html_names.proofs.Spaces.{space-of_prefixed}
use Rattle.html_names.specs.Groups.{is_outermost}
use Rattle.html_names.specs.Names.{name_of, tag_of}
use Rattle.html_names.specs.Sets.{is_formatting, is_template}
use Rattle.html_names.specs.declared.tag.Tag.{Tag}
use Rattle.html_arena.specs.declared.data.NewNode.{NewNode}
use Rattle.html_arena.specs.declared.data.NewNode.TheVariants as new
use Rattle.html_arena.specs.declared.data.NodeData.{NodeData}
use Rattle.html_arena.specs.declared.data.NodeData.TheVariants as node
use Rattle.html_arena.specs.declared.data.Origin.{Origin}
use Rattle.html_arena.specs.declared.data.Origin.TheVariants.{Implied, Nothing, Token}
use Rattle.html_arena.specs.Data.{IsText, attrs_in, cloned, is_clone_in, is_text, label_in, origin_in, tag_in, with_attrs, with_run}
use Rattle.html_arena.specs.Make.{has_contents, label_for, made}
use Rattle.html_arena.specs.Merge.{merged}
use Rattle.html_arena.specs.Siblings.{has}
use Rattle.html_arena.specs.Tree.{Tree as Nodes, label_of, texted_run, with_merged}
use Rattle.html_arena.proofs.Siblings.{eqb-self}
use Rattle.html_tokens.specs.declared.attributes.Attr.{Attr}
use Rattle.html_tokens.specs.declared.token.TokenKind.{TokenKind}
use Rattle.html_tokens.specs.declared.token.TokenKind.TheVariants as kind
use Rattle.html_ledger.specs.declared.fate.Fate.{Fate}
use Rattle.html_ledger.specs.declared.fate.Fate.TheVariants.{Foreign, Made, Merged, Text}
use Rattle.html_tokens.specs.Cut.{null_replaced}
use Rattle.html_ledger.specs.declared.setting.Setting.{Setting}
use Rattle.html_ledger.specs.declared.symbol.Symbol.TheVariants.{Comment, Doctype, Start}
use Rattle.html_ledger.specs.Entries.{Entries, Fed}
use Rattle.html_ledger.specs.Fates.{is_foreign, node_of}
use Rattle.html_ledger.specs.Symbols.{symbol_of, chars_of as symbol_chars}
use Rattle.html_open.specs.declared.places.Place.{Place}
use Rattle.html_open.specs.Marking.{bare}
use Rattle.html_open.proofs.Keeps.{cases_eqb}
use Rattle.html_tree.specs.Inserting.{rest_of, with_new}
use Rattle.html_tree.specs.Listing.{HasCloned}
use Rattle.html_tree.specs.States.{State as Tree}
use Rattle.html_tree.specs.Texts.{if_text, node_or_next, place_here, text_before, text_node, tree_or_new, with_text}
use Rattle.html_tree.proofs.Inserted.{element-origin, made-labels, put-labels}
use Rattle.html_construction.specs.Accounts.{AreMade, AreTexts, made_at}
use Rattle.html_construction.specs.Built.{chars_of, symbols}
use Rattle.html_construction.specs.Origins.{AreOrigins, HasElementOrigin, HasOrigin, is_foreign_at, is_made_alone, with_later}
use Rattle.html_construction.specs.Tokens.{attrs_of, data_of, element_name, foreign_attrs, foreign_name, name_id, public_id, system_id, tag_name}
use Rattle.html_construction.proofs.Building.{symbols-append, symbols-chars, symbols-push}
use Rattle.html_construction.proofs.Labels.{get-at-end, label-past, label-set, label-set-other, length-slice_set, order, same-or-not}
use Rattle.html_construction.proofs.Making.{made-alike, made-besides, made-more, made-next, none-made}
use Rattle.html_construction.proofs.Originating.{comment-is, doctype-is, element-of, foreign-end, foreign-of, origin-clone, origins-alike, origins-besides, origins-kept, origins-merged, origins-more, origins-released}
use Rattle.html_construction.proofs.Wording.{is_no_text, none-texts, texts-alike, texts-besides, texts-kept, texts-more, texts-new, texts-released, texts-run}

-- the tokens, their fates and the nodes fit together
pub record Told (ts : List TokenKind) (fs : List Fate) (ls : List NodeData) : Type 0 where
  pub origins : AreOrigins ts fs ls
  pub made : AreMade fs ls
  pub texts : AreTexts (symbols ts) fs ls

length-symbols : (ts : List TokenKind) → length (symbols ts) ≡ length ts
length-symbols [] = refl
length-symbols (t ∷ ts) = ap suc (length-symbols ts)

length-chars : (cs : List ℕ) → length (symbol_chars cs) ≡ length cs
length-chars [] = refl
length-chars (c ∷ cs) = ap suc (length-chars cs)

-- as many tokens as fates and code points that are kept
fed-count : (s : Setting) (l : Entries) (ts : List TokenKind) → Fed s l (symbols ts) → length ts ≡ length l.fates + length l.kept
fed-count s l ts f =
    let whole : length (symbols ts) ≡ length (f.front ++ symbol_chars l.kept) = ap (λ us. length us) f.split in
    let parts : length (f.front ++ symbol_chars l.kept) ≡ length f.front + length (symbol_chars l.kept) = length-append f.front (symbol_chars l.kept) in
    let kept : length (symbol_chars l.kept) ≡ length l.kept = length-chars l.kept in
    let fates : length l.fates ≡ length f.front = f.settled.fated.counted in
    let tokens : length (symbols ts) ≡ length ts = length-symbols ts in
    omega (arith, whole, parts, kept, fates, tokens)

pub fed-most : (s : Setting) (l : Entries) (ts : List TokenKind) → Fed s l (symbols ts) → length l.fates ≤ length ts
fed-most s l ts f = (let e = fed-count s l ts f in omega (arith, e))

pub fed-same : (s : Setting) (l : Entries) (ts : List TokenKind) → l.kept ≡ [] → Fed s l (symbols ts) → length l.fates ≡ length ts
fed-same s l ts k f = (let e = fed-count s l ts f in let z : length l.kept ≡ 0 = ap (λ cs. length cs) k in omega (arith, e, z))

-- before the first token there are no fates
pub fed-none : (s : Setting) (l : Entries) → Fed s l [] → l.fates ≡ []
fed-none s l f = none l.fates (let e = fed-count s l [] f in omega (arith, e))
  where
    none : (fs : List Fate) → length fs ≡ 0 → fs ≡ []
    none [] e = refl
    none (f ∷ fs) e = absurd (omega arith)

-- a token that makes no node, adds to no text and is not merged
pub told-besides : (ts : List TokenKind) (t : TokenKind) (fs : List Fate) (f : Fate) (ls : List NodeData) → length fs ≡ length ts → node_of f ≡ None → is_no_text f ≡ true → f ≢ Merged
    → Told ts fs ls → Told (ts ++ t ∷ []) (fs ++ f ∷ []) ls
told-besides ts t fs f ls l m x n w = record {
  origins = origins-besides ts t fs f ls l n w.origins;
  made = made-besides fs f ls m w.made;
  texts = subst (λ us. AreTexts us (fs ++ f ∷ []) ls) (sym (symbols-push ts t)) (texts-besides (symbols ts) (symbol_of t) fs f ls (l ∙ sym (length-symbols ts)) x w.texts);
}

-- tokens without a fate, and such that were taken out again
pub told-kept : (ts us : List TokenKind) (fs : List Fate) (ls : List NodeData) → length fs ≤ length ts → Told ts fs ls → Told (ts ++ us) fs ls
told-kept ts us fs ls l w = record {
  origins = origins-kept ts us fs ls l w.origins;
  made = w.made;
  texts = subst (λ vs. AreTexts vs fs ls) (sym (symbols-append ts us)) (texts-kept (symbols ts) (symbols us) fs ls (let e = length-symbols ts in omega (arith, l, e)) w.texts);
}

pub told-released : (ts us : List TokenKind) (fs : List Fate) (ls : List NodeData) → length fs ≤ length ts → Told (ts ++ us) fs ls → Told ts fs ls
told-released ts us fs ls l w = record {
  origins = origins-released ts us fs ls l w.made w.origins;
  made = w.made;
  texts = texts-released (symbols ts) (symbols us) fs ls (let e = length-symbols ts in omega (arith, l, e)) (subst (λ vs. AreTexts vs fs ls) (symbols-append ts us) w.texts);
}

-- CLONES

-- what holds of each of the nodes that were made
of-map : (P : NodeData → Type 0) (f : ℕ → NodeData) (xs : List ℕ) → P node.Document → ((x : ℕ) → has x xs ≡ true → P (f x)) → (y : ℕ) → P (label_in (map f xs) y)
of-map P f [] h k y = h
of-map P f (x ∷ xs) h k zero = k x (ap (λ b. cond b true (has x xs)) (eqb-self x))
of-map P f (x ∷ xs) h k (suc y) = of-map P f xs h (λ z b. k z (later z b)) y
  where
    later : (z : ℕ) → has z xs ≡ true → has z (x ∷ xs) ≡ true
    later z b = elim (cases_eqb z x) [ inl q ↦ rw q.0 refl | inr q ↦ rw q.0 b ]

clone-mark : (d : NodeData) → is_formatting (tag_in d) ≡ true → is_clone_in (cloned d) ≡ true
clone-mark (node.Element e) f = refl
clone-mark node.Document f = absurd (false≢true f)
clone-mark (node.Contents c) f = absurd (false≢true f)
clone-mark (node.Text s) f = absurd (false≢true f)
clone-mark (node.Comment s i) f = absurd (false≢true f)
clone-mark (node.Doctype a b c i) f = absurd (false≢true f)

clone-text : (d : NodeData) → is_formatting (tag_in d) ≡ true → is_text (cloned d) ≡ false
clone-text (node.Element e) f = refl
clone-text node.Document f = refl
clone-text (node.Contents c) f = refl
clone-text (node.Text s) f = absurd (false≢true f)
clone-text (node.Comment s i) f = refl
clone-text (node.Doctype a b c i) f = refl

clone-origin : (d : NodeData) → origin_in (cloned d) ≡ origin_in d
clone-origin (node.Element e) = refl
clone-origin node.Document = refl
clone-origin (node.Contents c) = refl
clone-origin (node.Text s) = refl
clone-origin (node.Comment s i) = refl
clone-origin (node.Doctype a b c i) = refl

clone-tag : (d : NodeData) → tag_in (cloned d) ≡ tag_in d
clone-tag (node.Element e) = refl
clone-tag node.Document = refl
clone-tag (node.Contents c) = refl
clone-tag (node.Text s) = refl
clone-tag (node.Comment s i) = refl
clone-tag (node.Doctype a b c i) = refl

no-token : {i : ℕ} → Nothing ≡ Token i → ⊥
no-token e = absurd (let q : Nothing ≡ Token _ = e in cc)

pub told-clones : (ts : List TokenKind) (fs : List Fate) (a b : Tree) → HasCloned a b → Told ts fs a.tree.labels → Told ts fs b.tree.labels
told-clones ts fs a b c w = subst (λ ls. Told ts fs ls) (sym c.labels_are) (record {
  origins = origins-more ts fs a.tree.labels new
      (λ hs far plain each x y h. of-map (λ d. HasOrigin x ts fs hs d) (λ z. cloned (label_of a.tree z)) c.elements tt
      (λ z k. origin-clone x z ts fs hs (label_of a.tree z) (λ bs. far x h bs ∙ sym (plain z (c.formatting z k) bs)) (each z)) y)
      (λ y. of-map (λ d. is_clone_in d ≡ true → is_formatting (tag_in d) ≡ true) (λ z. cloned (label_of a.tree z)) c.elements (λ e. absurd (false≢true e))
      (λ z k e. ap is_formatting (clone-tag (label_of a.tree z)) ∙ c.formatting z k) y)
      w.origins;
  made = made-more fs a.tree.labels new
      (λ y i. of-map (λ d. origin_in d ≡ Token i → (is_clone_in d ≡ true) × ((e : ℕ) × (made_at fs i ≡ Some e))) (λ z. cloned (label_of a.tree z)) c.elements (λ e. absurd (no-token e))
      (λ z k e. (clone-mark (label_of a.tree z) (c.formatting z k), w.made.of_made i z (sym (clone-origin (label_of a.tree z)) ∙ e))) y)
      w.made;
  texts = texts-more (symbols ts) fs a.tree.labels new (λ y. of-map (λ d. is_text d ≡ false) (λ z. cloned (label_of a.tree z)) c.elements refl (λ z k. clone-text (label_of a.tree z) (c.formatting z k)) y) w.texts;
})
  where
    new : List NodeData
    new = map (λ x. cloned (label_of a.tree x)) c.elements

-- NEW NODES

pub new-labels : (t : Nodes) (at : Place) (d : NewNode) → (with_new t at d).labels ≡ t.labels ++ label_for t d ∷ rest_of (length t.labels) (has_contents d)
new-labels t at d = put-labels (made t d) at (length t.labels) ∙ made-labels t d

-- the contents of a template, if there are any
module _ (n : ℕ) (b : Bool) where
  of-rest : (P : NodeData → Type 0) → P node.Document → P (node.Contents n) → (y : ℕ) → P (label_in (rest_of n b) y)
  of-rest P h k y = by b y
    where
      by : (b : Bool) (y : ℕ) → P (label_in (rest_of n b) y)
      by false y = h
      by true zero = k
      by true (suc y) = h

-- the node, and the contents
of-new : (P : NodeData → Type 0) (n : ℕ) (b : Bool) (d : NodeData) → P node.Document → P (node.Contents n) → P d → (y : ℕ) → P (label_in (d ∷ rest_of n b) y)
of-new P n b d h k i zero = i
of-new P n b d h k i (suc y) = of-rest n b P h k y

-- an element
element-clone : (t : Nodes) (name : List ℕ) (attrs : List Attr) (o : Origin) → is_clone_in (label_for t (new.Element name attrs o)) ≡ false
element-clone t name attrs o = by (is_template (tag_of name)) refl
  where
    by : (b : Bool) → is_template (tag_of name) ≡ b → is_clone_in (label_for t (new.Element name attrs o)) ≡ false
    by true h = rw h refl
    by false h = rw h refl

element-text : (t : Nodes) (name : List ℕ) (attrs : List Attr) (o : Origin) → is_text (label_for t (new.Element name attrs o)) ≡ false
element-text t name attrs o = by (is_template (tag_of name)) refl
  where
    by : (b : Bool) → is_template (tag_of name) ≡ b → is_text (label_for t (new.Element name attrs o)) ≡ false
    by true h = rw h refl
    by false h = rw h refl

element-has : (x : ℕ) (ts : List TokenKind) (fs : List Fate) (hs : List (Option ℕ)) (t : Nodes) (name : List ℕ) (attrs : List Attr) (o : Origin) → HasElementOrigin x ts fs hs o (tag_of name) name attrs → HasOrigin x ts fs hs (label_for t (new.Element name attrs o))
element-has x ts fs hs t name attrs o k = by (is_template (tag_of name)) refl
  where
    by : (b : Bool) → is_template (tag_of name) ≡ b → HasOrigin x ts fs hs (label_for t (new.Element name attrs o))
    by true h = rw h k
    by false h = rw h k

-- an element that no token asked for
pub told-implied : (ts : List TokenKind) (fs : List Fate) (t u : Nodes) (at : Place) (g : Tag) → is_made_alone g ≡ true → u ≡ with_new t at (new.Element (name_of g) [] Implied) → Told ts fs t.labels → Told ts fs u.labels
told-implied ts fs t u at g a e w = subst (λ ls. Told ts fs ls) (sym (ap (λ (v : Nodes). v.labels) e ∙ new-labels t at (new.Element (name_of g) [] Implied))) (record {
  origins = origins-more ts fs t.labels (d ∷ rest_of n b)
      (λ hs far plain each x y h. of-new (λ k. HasOrigin x ts fs hs k) n b d tt tt
      (element-has x ts fs hs t (name_of g) [] Implied (record { name_tag = g; alone = a; name_is = refl; attrs_are = sym (far x h []) })) y)
      (λ y. of-new (λ k. is_clone_in k ≡ true → is_formatting (tag_in k) ≡ true) n b d (λ q. absurd (false≢true q)) (λ q. absurd (false≢true q))
      (λ q. absurd (false≢true (sym (element-clone t (name_of g) [] Implied) ∙ q))) y)
      w.origins;
  made = made-more fs t.labels (d ∷ rest_of n b)
      (λ y i. of-new (λ k. origin_in k ≡ Token i → (is_clone_in k ≡ true) × ((e : ℕ) × (made_at fs i ≡ Some e))) n b d (λ q. absurd (no-token q)) (λ q. absurd (no-token q))
      (λ q. absurd (not-token (sym (element-origin t (name_of g) [] Implied) ∙ q))) y)
      w.made;
  texts = texts-more (symbols ts) fs t.labels (d ∷ rest_of n b) (λ y. of-new (λ k. is_text k ≡ false) n b d refl refl (element-text t (name_of g) [] Implied) y) w.texts;
})
  where
    n : ℕ
    n = length t.labels

    b : Bool
    b = has_contents (new.Element (name_of g) [] Implied)

    d : NodeData
    d = label_for t (new.Element (name_of g) [] Implied)

    not-token : {i : ℕ} → Implied ≡ Token i → ⊥
    not-token e = absurd (let q : Implied ≡ Token _ = e in cc)

-- the fate of a token of which the node was made: an element of foreign content, or any other node
abbrev pub fate_for : Bool → ℕ → Fate
fate_for false d = Made d
fate_for true d = Foreign d

for-foreign : (b : Bool) (d : ℕ) → is_foreign (fate_for b d) ≡ b
for-foreign false d = refl
for-foreign true d = refl

for-node : (b : Bool) (d : ℕ) → node_of (fate_for b d) ≡ Some d
for-node false d = refl
for-node true d = refl

for-text : (b : Bool) (d : ℕ) → is_no_text (fate_for b d) ≡ true
for-text false d = refl
for-text true d = refl

for-merged : (b : Bool) (d : ℕ) → fate_for b d ≢ Merged
for-merged false d e = absurd (let z : Made d ≡ Merged = e in cc)
for-merged true d e = absurd (let z : Foreign d ≡ Merged = e in cc)

-- what a node has of the token of a number, where no tag was merged into it
pub record IsNext (b : Bool) (d : NodeData) (ts : List TokenKind) (k : ℕ) : Type 0 where
  pub origin : origin_in d ≡ Token k
  pub first : is_clone_in d ≡ false
  pub no_text : is_text d ≡ false
  pub has_origin : (x : ℕ) (fs : List Fate) (hs : List (Option ℕ)) → is_foreign_at fs k ≡ b → ((own : List Attr) → with_later x own ts hs ≡ own) → HasOrigin x ts fs hs d

-- the next node was made of the next token
pub told-next : (b : Bool) (ts : List TokenKind) (t : TokenKind) (fs : List Fate) (v u : Nodes) (at : Place) (new : NewNode) → length fs ≡ length ts → IsNext b (label_for v new) (ts ++ t ∷ []) (length fs) → u ≡ with_new v at new
    → Told ts fs v.labels → Told (ts ++ t ∷ []) (fs ++ fate_for b (length v.labels) ∷ []) u.labels
told-next b ts t fs v u at new l i e w = subst (λ ls. Told (ts ++ t ∷ []) (fs ++ f ∷ []) ls) (sym (ap (λ (z : Nodes). z.labels) e ∙ new-labels v at new)) (record {
  origins = origins-more (ts ++ t ∷ []) (fs ++ f ∷ []) v.labels (d ∷ rest_of n c)
      (λ hs far plain each x y h. of-new (λ k. HasOrigin x (ts ++ t ∷ []) (fs ++ f ∷ []) hs k) n c d tt tt (i.has_origin x (fs ++ f ∷ []) hs (foreign-end fs f ∙ for-foreign b n) (λ own. far x h own)) y)
      (λ y. of-new (λ k. is_clone_in k ≡ true → is_formatting (tag_in k) ≡ true) n c d (λ q. absurd (false≢true q)) (λ q. absurd (false≢true q)) (λ q. absurd (false≢true (sym i.first ∙ q))) y)
      (origins-besides ts t fs f v.labels l (for-merged b n) w.origins);
  made = made-next fs f v.labels (rest_of n c) d (for-node b n) i.origin i.first (λ y j. of-rest n c (λ k. origin_in k ≡ Token j → ⊥) no-token no-token y) w.made;
  texts = texts-more (symbols (ts ++ t ∷ [])) (fs ++ f ∷ []) v.labels (d ∷ rest_of n c) (λ y. of-new (λ k. is_text k ≡ false) n c d refl refl i.no_text y)
      (subst (λ us. AreTexts us (fs ++ f ∷ []) v.labels) (sym (symbols-push ts t)) (texts-besides (symbols ts) (symbol_of t) fs f v.labels (l ∙ sym (length-symbols ts)) (for-text b n) w.texts));
})
  where
    n : ℕ
    n = length v.labels

    f : Fate
    f = fate_for b n

    c : Bool
    c = has_contents new

    d : NodeData
    d = label_for v new

pub next-element : (v : Nodes) (ts : List TokenKind) (t : TokenKind) (g : Tag) (k : ℕ) → k ≡ length ts → symbol_of t ≡ Start g → IsNext false (label_for v (new.Element (element_name g t) (attrs_of t) (Token k))) (ts ++ t ∷ []) k
next-element v ts t g k l s = record {
  origin = element-origin v (element_name g t) (attrs_of t) (Token k);
  first = element-clone v (element_name g t) (attrs_of t) (Token k);
  no_text = element-text v (element_name g t) (attrs_of t) (Token k);
  has_origin = λ x fs hs b none. element-has x (ts ++ t ∷ []) fs hs v (element_name g t) (attrs_of t) (Token k) (element-of x k ts t fs hs g (tag_of (element_name g t)) l s b none);
}

pub next-foreign : (v : Nodes) (ts : List TokenKind) (t : TokenKind) (g : Tag) (s : Space) (k : ℕ) → k ≡ length ts → symbol_of t ≡ Start g → is_html_space s ≡ false
    → IsNext true (label_for v (new.Element (foreign_name s (tag_name t)) (foreign_attrs s (attrs_of t)) (Token k))) (ts ++ t ∷ []) k
next-foreign v ts t g s k l e o = record {
  origin = element-origin v (foreign_name s (tag_name t)) (foreign_attrs s (attrs_of t)) (Token k);
  first = element-clone v (foreign_name s (tag_name t)) (foreign_attrs s (attrs_of t)) (Token k);
  no_text = element-text v (foreign_name s (tag_name t)) (foreign_attrs s (attrs_of t)) (Token k);
  has_origin = λ x fs hs b none. element-has x (ts ++ t ∷ []) fs hs v (foreign_name s (tag_name t)) (foreign_attrs s (attrs_of t)) (Token k)
      (foreign-of x k ts t fs hs g (tag_of (foreign_name s (tag_name t))) s l e b o (space-of_prefixed s (unwrap_or (adjusted_name s (tag_name t)) (tag_name t)) o));
}

pub next-comment : (v : Nodes) (ts : List TokenKind) (t : TokenKind) (k : ℕ) → k ≡ length ts → symbol_of t ≡ Comment → IsNext false (label_for v (new.Comment (data_of t) k)) (ts ++ t ∷ []) k
next-comment v ts t k l s = record {
  origin = refl;
  first = refl;
  no_text = refl;
  has_origin = λ x fs hs b none. ap (λ i. slice_get (ts ++ t ∷ []) i) l ∙ get-at-end ts t ∙ ap Some (comment-is t s);
}

pub next-doctype : (v : Nodes) (ts : List TokenKind) (t : TokenKind) (k : ℕ) → k ≡ length ts → symbol_of t ≡ Doctype → IsNext false (label_for v (new.Doctype (name_id t) (public_id t) (system_id t) k)) (ts ++ t ∷ []) k
next-doctype v ts t k l s = record {
  origin = refl;
  first = refl;
  no_text = refl;
  has_origin = λ x fs hs b none. let p = doctype-is t s in (p.0, ap (λ i. slice_get (ts ++ t ∷ []) i) l ∙ get-at-end ts t ∙ ap Some p.1);
}

-- MERGED TAGS

with-text : (d : NodeData) (own : List Attr) → is_text (with_attrs d own) ≡ is_text d
with-text node.Document own = refl
with-text (node.Contents c) own = refl
with-text (node.Text r) own = refl
with-text (node.Comment r i) own = refl
with-text (node.Doctype a b c i) own = refl
with-text (node.Element e) own = refl

with-origin : (d : NodeData) (own : List Attr) → origin_in (with_attrs d own) ≡ origin_in d
with-origin node.Document own = refl
with-origin (node.Contents c) own = refl
with-origin (node.Text r) own = refl
with-origin (node.Comment r i) own = refl
with-origin (node.Doctype a b c i) own = refl
with-origin (node.Element e) own = refl

with-clone : (d : NodeData) (own : List Attr) → is_clone_in (with_attrs d own) ≡ is_clone_in d
with-clone node.Document own = refl
with-clone (node.Contents c) own = refl
with-clone (node.Text r) own = refl
with-clone (node.Comment r i) own = refl
with-clone (node.Doctype a b c i) own = refl
with-clone (node.Element e) own = refl

text-with : (d : NodeData) (own : List Attr) (s : List ℕ) → with_attrs d own ≡ node.Text s → d ≡ node.Text s
text-with (node.Text r) own s e = e
text-with node.Document own s e = absurd (let k = e in cc)
text-with (node.Contents c) own s e = absurd (let k = e in cc)
text-with (node.Comment r i) own s e = absurd (let k = e in cc)
text-with (node.Doctype a b c i) own s e = absurd (let k = e in cc)
text-with (node.Element r) own s e = absurd (let k = e in cc)

is-with : (d : NodeData) (own : List Attr) → IsText d → IsText (with_attrs d own)
is-with (node.Text r) own i = tt
is-with node.Document own i = absurd i
is-with (node.Contents c) own i = absurd i
is-with (node.Comment r j) own i = absurd i
is-with (node.Doctype a b c j) own i = absurd i
is-with (node.Element r) own i = absurd i

-- of a node that is replaced
module _ (ls : List NodeData) (y : ℕ) (d : NodeData) (h : y < length ls) where
  pub set-same : {A : Type 0} (f : NodeData → A) → f d ≡ f (label_in ls y) → (x : ℕ) → f (label_in (slice_set ls y d) x) ≡ f (label_in ls x)
  set-same f e x = elim (same-or-not x y) [
    | inl q ↦ ap (λ z. f (label_in (slice_set ls y d) z)) q ∙ ap f (label-set ls y d h) ∙ e ∙ ap (λ z. f (label_in ls z)) (sym q)
    | inr q ↦ ap f (label-set-other ls y x d q)
  ]

pub told-merged : (ts : List TokenKind) (t : TokenKind) (fs : List Fate) (v u : Nodes) (y : ℕ) → length fs ≡ length ts → y < length v.labels → symbol_of t ≡ Start (tag_in (label_of v y)) → is_outermost (tag_in (label_of v y)) ≡ true
    → u ≡ bare (with_merged v y (attrs_of t)) → Told ts fs v.labels → Told (ts ++ t ∷ []) (fs ++ Merged ∷ []) u.labels
told-merged ts t fs v u y l h s o e w = subst (λ ls. Told (ts ++ t ∷ []) (fs ++ Merged ∷ []) ls) (sym (ap (λ (z : Nodes). z.labels) e)) (record {
  origins = origins-merged ts t fs v.labels y l h s o w.origins;
  made = made-besides fs Merged (slice_set v.labels y d) refl
      (made-alike fs v.labels (slice_set v.labels y d) same-length (set-same v.labels y d h origin_in (with-origin (label_of v y) own)) (set-same v.labels y d h is_clone_in (with-clone (label_of v y) own)) w.made);
  texts = subst (λ us. AreTexts us (fs ++ Merged ∷ []) (slice_set v.labels y d)) (sym (symbols-push ts t)) (texts-besides (symbols ts) (symbol_of t) fs Merged (slice_set v.labels y d) (l ∙ sym (length-symbols ts)) refl
      (texts-alike (symbols ts) fs v.labels (slice_set v.labels y d) same-length
      (λ x text q. elim (same-or-not x y) [
        | inl z ↦ subst (λ k. label_in v.labels k ≡ node.Text text) (sym z) (text-with (label_of v y) own text (sym (label-set v.labels y d h) ∙ subst (λ k. label_in (slice_set v.labels y d) k ≡ node.Text text) z q))
        | inr z ↦ sym (label-set-other v.labels y x d z) ∙ q
      ])
      (λ x b i. elim (same-or-not x y) [
        | inl z ↦ subst (λ k. IsText (label_in (slice_set v.labels y d) k)) (sym z) (subst IsText (sym (label-set v.labels y d h)) (is-with (label_of v y) own (subst (λ k. IsText (label_in v.labels k)) z i)))
        | inr z ↦ subst IsText (sym (label-set-other v.labels y x d z)) i
      ])
      w.texts));
})
  where
    own : List Attr
    own = merged (attrs_in (label_of v y)) (attrs_of t)

    d : NodeData
    d = with_attrs (label_of v y) own

    same-length : length v.labels ≤ length (slice_set v.labels y d)
    same-length = (let k = length-slice_set v.labels y d in omega (arith, k))

-- TEXT

run-text : (d : NodeData) (cs : List ℕ) → is_text (with_run d cs) ≡ is_text d
run-text node.Document cs = refl
run-text (node.Contents c) cs = refl
run-text (node.Text r) cs = refl
run-text (node.Comment r i) cs = refl
run-text (node.Doctype a b c i) cs = refl
run-text (node.Element e) cs = refl

run-origin : (d : NodeData) (cs : List ℕ) → origin_in (with_run d cs) ≡ origin_in d
run-origin node.Document cs = refl
run-origin (node.Contents c) cs = refl
run-origin (node.Text r) cs = refl
run-origin (node.Comment r i) cs = refl
run-origin (node.Doctype a b c i) cs = refl
run-origin (node.Element e) cs = refl

run-clone : (d : NodeData) (cs : List ℕ) → is_clone_in (with_run d cs) ≡ is_clone_in d
run-clone node.Document cs = refl
run-clone (node.Contents c) cs = refl
run-clone (node.Text r) cs = refl
run-clone (node.Comment r i) cs = refl
run-clone (node.Doctype a b c i) cs = refl
run-clone (node.Element e) cs = refl

is-text-true : (d : NodeData) → is_text d ≡ true → IsText d
is-text-true (node.Text r) e = tt
is-text-true node.Document e = absurd (false≢true e)
is-text-true (node.Contents c) e = absurd (false≢true e)
is-text-true (node.Comment r j) e = absurd (false≢true e)
is-text-true (node.Doctype a b c j) e = absurd (false≢true e)
is-text-true (node.Element r) e = absurd (false≢true e)

-- fates of which each adds to a text
texts-made : (fs : List Fate) (n d : ℕ) (ls : List NodeData) → AreMade fs ls → AreMade (fs ++ replicate n (Text d)) ls
texts-made fs zero d ls m = subst (λ gs. AreMade gs ls) (sym (append-nil fs)) m
texts-made fs (suc n) d ls m = subst (λ gs. AreMade gs ls) (append_assoc fs (Text d ∷ []) (replicate n (Text d))) (texts-made (fs ++ Text d ∷ []) n d ls (made-besides fs (Text d) ls refl m))

texts-origins : (ts : List TokenKind) (fs : List Fate) (d : ℕ) (cs : List ℕ) (ls : List NodeData) → length fs ≡ length ts → AreOrigins ts fs ls → AreOrigins (ts ++ chars_of cs) (fs ++ replicate (length cs) (Text d)) ls
texts-origins ts fs d [] ls l m = subst (λ us. AreOrigins us (fs ++ []) ls) (sym (append-nil ts)) (subst (λ gs. AreOrigins ts gs ls) (sym (append-nil fs)) m)
texts-origins ts fs d (c ∷ cs) ls l m =
    subst (λ us. AreOrigins us (fs ++ replicate (length (c ∷ cs)) (Text d)) ls) (append_assoc ts (kind.Char c ∷ []) (chars_of cs))
    (subst (λ gs. AreOrigins ((ts ++ kind.Char c ∷ []) ++ chars_of cs) gs ls) (append_assoc fs (Text d ∷ []) (replicate (length cs) (Text d)))
    (texts-origins (ts ++ kind.Char c ∷ []) (fs ++ Text d ∷ []) d cs ls (let a = length-append fs (Text d ∷ []) in let b = length-append ts (kind.Char c ∷ []) in omega (arith, a, b, l))
    (origins-besides ts (kind.Char c) fs (Text d) ls l (λ q. absurd (let z : Text d ≡ Merged = q in cc)) m)))

-- code points were added to a text that is there
pub told-run : (ts : List TokenKind) (fs : List Fate) (ls : List NodeData) (y : ℕ) (cs : List ℕ) → length fs ≡ length ts → map null_replaced cs ≢ [] → y < length ls → is_text (label_in ls y) ≡ true
    → Told ts fs ls → Told (ts ++ chars_of cs) (fs ++ replicate (length cs) (Text y)) (slice_set ls y (with_run (label_in ls y) (map null_replaced cs)))
told-run ts fs ls y cs l some h i w = record {
  origins = texts-origins ts fs y cs (slice_set ls y d) l (origins-alike ts fs ls (slice_set ls y d) same-length (λ x. elim (same-or-not x y) [
    | inl q ↦ inr (ap (λ z. is_text (label_in ls z)) q ∙ i, ap (λ z. is_text (label_in (slice_set ls y d) z)) q ∙ ap is_text (label-set ls y d h) ∙ run-text (label_in ls y) (map null_replaced cs) ∙ i)
    | inr q ↦ inl (label-set-other ls y x d q)
  ]) w.origins);
  made = texts-made fs (length cs) y (slice_set ls y d)
      (made-alike fs ls (slice_set ls y d) same-length (set-same ls y d h origin_in (run-origin (label_in ls y) (map null_replaced cs))) (set-same ls y d h is_clone_in (run-clone (label_in ls y) (map null_replaced cs))) w.made);
  texts = subst (λ us. AreTexts us (fs ++ replicate (length cs) (Text y)) (slice_set ls y d)) (sym (symbols-append ts (chars_of cs) ∙ ap (λ us. symbols ts ++ us) (symbols-chars cs)))
      (texts-run (symbols ts) fs ls y cs (l ∙ sym (length-symbols ts)) some h (is-text-true (label_in ls y) i) w.texts);
}
  where
    d : NodeData
    d = with_run (label_in ls y) (map null_replaced cs)

    same-length : length ls ≤ length (slice_set ls y d)
    same-length = (let k = length-slice_set ls y d in omega (arith, k))

-- to the next node, a text
pub told-new-text : (ts : List TokenKind) (fs : List Fate) (ls : List NodeData) (cs : List ℕ) → length fs ≡ length ts → map null_replaced cs ≢ []
    → Told ts fs ls → Told (ts ++ chars_of cs) (fs ++ replicate (length cs) (Text (length ls))) (slice_set (ls ++ node.Text [] ∷ []) (length ls) (with_run (label_in (ls ++ node.Text [] ∷ []) (length ls)) (map null_replaced cs)))
told-new-text ts fs ls cs l some w = record {
  origins = texts-origins ts fs n cs (slice_set ks n d) l (origins-alike ts fs ks (slice_set ks n d) same-length (λ x. elim (same-or-not x n) [
    | inl q ↦ inr (ap (λ z. is_text (label_in ks z)) q ∙ is, ap (λ z. is_text (label_in (slice_set ks n d) z)) q ∙ ap is_text (label-set ks n d here) ∙ run-text (label_in ks n) (map null_replaced cs) ∙ is)
    | inr q ↦ inl (label-set-other ks n x d q)
  ]) (origins-more ts fs ls (node.Text [] ∷ []) (λ hs far plain each x y h. of-text (λ k. HasOrigin x ts fs hs k) tt tt y) (λ y. of-text (λ k. is_clone_in k ≡ true → is_formatting (tag_in k) ≡ true) (λ q. absurd (false≢true q)) (λ q. absurd (false≢true q)) y) w.origins));
  made = texts-made fs (length cs) n (slice_set ks n d)
      (made-alike fs ks (slice_set ks n d) same-length (set-same ks n d here origin_in (run-origin (label_in ks n) (map null_replaced cs))) (set-same ks n d here is_clone_in (run-clone (label_in ks n) (map null_replaced cs)))
      (made-more fs ls (node.Text [] ∷ []) (λ y i. of-text (λ k. origin_in k ≡ Token i → (is_clone_in k ≡ true) × ((e : ℕ) × (made_at fs i ≡ Some e))) (λ q. absurd (no-token q)) (λ q. absurd (no-token q)) y) w.made));
  texts = subst (λ us. AreTexts us (fs ++ replicate (length cs) (Text n)) (slice_set ks n d)) (sym (symbols-append ts (chars_of cs) ∙ ap (λ us. symbols ts ++ us) (symbols-chars cs)))
      (texts-new (symbols ts) fs ls cs (l ∙ sym (length-symbols ts)) some w.texts);
}
  where
    n : ℕ
    n = length ls

    ks : List NodeData
    ks = ls ++ node.Text [] ∷ []

    d : NodeData
    d = with_run (label_in ks n) (map null_replaced cs)

    here : n < length ks
    here = (let k = length-append ls (node.Text [] ∷ []) in omega (arith, k))

    same-length : length ks ≤ length (slice_set ks n d)
    same-length = (let k = length-slice_set ks n d in omega (arith, k))

    is : is_text (label_in ks n) ≡ true
    is = text-at ls
      where
        text-at : (xs : List NodeData) → is_text (label_in (xs ++ node.Text [] ∷ []) (length xs)) ≡ true
        text-at [] = refl
        text-at (x ∷ xs) = text-at xs

    of-text : (P : NodeData → Type 0) → P node.Document → P (node.Text []) → (y : ℕ) → P (label_in (node.Text [] ∷ []) y)
    of-text P h k zero = k
    of-text P h k (suc y) = h

-- at the place for the current node
pub told-text : (ts : List TokenKind) (fs gs : List Fate) (a : Tree) (u : Nodes) (foster : Bool) (cs : List ℕ) → length fs ≡ length ts → map null_replaced cs ≢ [] → u ≡ with_text a foster (map null_replaced cs) → gs ≡ fs ++ replicate (length cs) (Text (text_node a foster))
    → Told ts fs a.tree.labels → Told (ts ++ chars_of cs) gs u.labels
told-text ts fs gs a u foster cs l some e g w =
    subst (λ hs. Told (ts ++ chars_of cs) hs u.labels) (sym g) (subst (λ ls. Told (ts ++ chars_of cs) (fs ++ replicate (length cs) (Text (text_node a foster))) ls) (sym (ap (λ (z : Nodes). z.labels) e))
    (by (text_before a.tree (place_here a foster)) refl))
  where
    at : Place
    at = place_here a foster

    found : (o : Option ℕ) (x : ℕ) → if_text a.tree o ≡ Some x → is_text (label_of a.tree x) ≡ true
    found None x q = absurd (let k = q in cc)
    found (Some y) x q = elim (cases_Bool (is_text (label_of a.tree y))) [
      | inl t ↦ (let k : Some y ≡ Some x = sym (ap (λ b. cond b (Some y) None) t) ∙ q in let z : y ≡ x = cc in subst (λ v. is_text (label_of a.tree v) ≡ true) z t)
      | inr t ↦ absurd (let k : None ≡ Some x = sym (ap (λ b. cond b (Some y) None) t) ∙ q in cc)
    ]

    within : (x : ℕ) → is_text (label_of a.tree x) ≡ true → x < length a.tree.labels
    within x t = elim (order x (length a.tree.labels)) [
      | inl q ↦ q
      | inr q ↦ absurd (false≢true (sym (ap is_text (label-past a.tree.labels x q)) ∙ t))
    ]

    by : (o : Option ℕ) → text_before a.tree at ≡ o
        → Told (ts ++ chars_of cs) (fs ++ replicate (length cs) (Text (node_or_next a.tree (text_before a.tree at)))) (texted_run (tree_or_new a.tree at (text_before a.tree at)) (node_or_next a.tree (text_before a.tree at)) (map null_replaced cs)).labels
    by None q = subst (λ o. Told (ts ++ chars_of cs) (fs ++ replicate (length cs) (Text (node_or_next a.tree o))) (texted_run (tree_or_new a.tree at o) (node_or_next a.tree o) (map null_replaced cs)).labels) (sym q)
        (subst (λ ls. Told (ts ++ chars_of cs) (fs ++ replicate (length cs) (Text (length a.tree.labels))) (slice_set ls (length a.tree.labels) (with_run (label_in ls (length a.tree.labels)) (map null_replaced cs)))) (sym (new-labels a.tree at new.Text))
        (told-new-text ts fs a.tree.labels cs l some w))
    by (Some x) q = subst (λ o. Told (ts ++ chars_of cs) (fs ++ replicate (length cs) (Text (node_or_next a.tree o))) (texted_run (tree_or_new a.tree at o) (node_or_next a.tree o) (map null_replaced cs)).labels) (sym q)
        (let t = text-there x q in told-run ts fs a.tree.labels x cs l some (within x t) t w)
      where
        text-there : (x : ℕ) → text_before a.tree at ≡ Some x → is_text (label_of a.tree x) ≡ true
        text-there x q = found _ x q

-- before the first token
pub told-none : (ls : List NodeData) → ((x : ℕ) (i : ℕ) → origin_in (label_in ls x) ≡ Token i → ⊥) → ((x : ℕ) → is_text (label_in ls x) ≡ false) → ((x : ℕ) → is_clone_in (label_in ls x) ≡ false)
    → ((x : ℕ) → HasOrigin x [] [] [] (label_in ls x)) → Told [] [] ls
told-none ls o t c h = record {
  origins = record { homes = []; merged_into = tt; each = h; clones = λ x k. absurd (false≢true (sym (c x) ∙ k)) };
  made = none-made ls o;
  texts = none-texts ls t;
}

-- an element that no token asked for, by itself
pub told-alone : (t : Nodes) (g : Tag) → is_made_alone g ≡ true → (n : ℕ) (b : Bool) → Told [] [] (label_for t (new.Element (name_of g) [] Implied) ∷ rest_of n b)
told-alone t g a n b =
    told-none (d ∷ rest_of n b)
    (λ x i. of-new (λ k. origin_in k ≡ Token i → ⊥) n b d no-token no-token (λ q. absurd (let z : Implied ≡ Token i = sym (element-origin t (name_of g) [] Implied) ∙ q in cc)) x)
    (λ x. of-new (λ k. is_text k ≡ false) n b d refl refl (element-text t (name_of g) [] Implied) x)
    (λ x. of-new (λ k. is_clone_in k ≡ false) n b d refl refl (element-clone t (name_of g) [] Implied) x)
    (λ x. of-new (λ k. HasOrigin x [] [] [] k) n b d tt tt (element-has x [] [] [] t (name_of g) [] Implied (record { name_tag = g; alone = a; name_is = refl; attrs_are = refl })) x)
  where
    d : NodeData
    d = label_for t (new.Element (name_of g) [] Implied)

-- What a token makes of the tree of a plain page.
use Rattle.std.proofs.Common.{◌≡◌, ℕ, suc, ◌+◌, ◌-◌, ◌<◌, Bool, true, false, cond, List, [], ◌∷◌, ◌++◌, ◌⊎◌, inl, inr, drop, take, length, reverse, Option, refl, sym, ap, ◌∙◌, subst, arith, length-append}
use Rattle.std.proofs.Math.Seq.{take-append_seam}
use Rattle.std.proofs.lemmas.List.{length-reverse, reverse-append}
use Rattle.html_arena.specs.Forest.{Forest}
use Rattle.html_arena.specs.Forest.Forest.{empty}
use Rattle.html_arena.specs.Make.{has_contents, plain_element, template_element}
use Rattle.html_arena.specs.Make.{label_for as node_for}
use Rattle.html_arena.specs.Tree.{Tree}
use Rattle.html_arena.specs.declared.data.NewNode.{NewNode}
use Rattle.html_arena.specs.declared.data.NewNode.TheVariants as new
use Rattle.html_arena.specs.declared.data.Origin.{Origin}
use Rattle.html_names.specs.Names.{tag_of}
use Rattle.html_names.specs.Sets.{is_template}
use Rattle.html_tokens.specs.declared.attributes.Attr.{Attr}
use Rattle.html_tokens.specs.declared.token.TokenKind.{TokenKind}
use Rattle.html_tokens.specs.declared.token.TokenKind.TheVariants as kind
use Rattle.html_open.specs.declared.places.Place.{Place}
use Rattle.html_open.specs.declared.places.Place.TheVariants.{Last}
use Rattle.html_tree.specs.Closing.{kept_to, popped}
use Rattle.html_tree.specs.Inserting.{with_new, with_open}
use Rattle.html_tree.specs.Texts.{with_text}
use Rattle.html_construction.specs.Built.{chars_of}
use Rattle.html_construction.specs.States.{State}
use Rattle.html_page.specs.Begun.{ends_after, front_then}
use Rattle.html_page.specs.Forest.{join, single}
use Rattle.html_page.specs.Label.{Label, label_for}
use Rattle.html_page.specs.Label.Label.{doctype, element, text}
use Rattle.html_page.specs.Open.{Before, IsAdded}
use Rattle.html_page.specs.PageTokens.{chars_then}
use Rattle.html_page.proofs.Fronts.{front-join, front-more, kinds-join, kinds-more}
use Rattle.html_builder.specs.Plain.{AreOpen, AreOpenWith, HasMade, IsEven}
use Rattle.html_builder.proofs.Adding.{new-added, new-even}
use Rattle.html_builder.proofs.Opened.{and_text, open-end, open-leaf, open-start, open-text, open-top, text-closed, top}

-- THE TOKENS

-- code points, and then tokens
pub chars-more : (s : List ℕ) (x y : List TokenKind) → chars_then s (x ++ y) ≡ chars_then s x ++ y
chars-more s x y = kinds-more (single (text s) empty) x y

chars-run : (run : List ℕ) → chars_then run [] ≡ chars_of run
chars-run [] = refl
chars-run (c ∷ run) = ap (λ (k : List TokenKind). kind.Char c ∷ k) (chars-run run)

chars-append : (s run : List ℕ) → chars_then (s ++ run) [] ≡ chars_then s (chars_then run [])
chars-append [] run = refl
chars-append (c ∷ s) run = ap (λ (k : List TokenKind). kind.Char c ∷ k) (chars-append s run)

-- a text that is a tree has the same tokens
pub front-text : (d : Forest Label) (s : List ℕ) (outer : List Before) (k : List TokenKind) → front_then (and_text d s) outer k ≡ front_then d outer (chars_then s k)
front-text d [] outer k = refl
front-text d (c ∷ s) outer k = front-join d (single (text (c ∷ s)) empty) outer k

-- one token more
more-tokens : (tokens past more : List TokenKind) (d : Forest Label) (s : List ℕ) (outer : List Before) → tokens ≡ front_then d outer (chars_then s past) → tokens ++ more ≡ front_then d outer (chars_then s (past ++ more))
more-tokens tokens past more d s outer e =
    ap (λ (l : List TokenKind). l ++ more) e ∙ sym (front-more d outer (chars_then s past) more) ∙ ap (front_then d outer) (sym (chars-more s past more))

-- THE STACK

split-last : (s : List ℕ) → (s ≡ []) ⊎ ((ys : List ℕ) × (z : ℕ) × (s ≡ ys ++ z ∷ []))
split-last [] = inl refl
split-last (x ∷ s) = after (split-last s)
  where
    after : (s ≡ []) ⊎ ((ys : List ℕ) × (z : ℕ) × (s ≡ ys ++ z ∷ [])) → (x ∷ s ≡ []) ⊎ ((ys : List ℕ) × (z : ℕ) × (x ∷ s ≡ ys ++ z ∷ []))
    after (inl e) = inr ([], x, ap (λ (l : List ℕ). x ∷ l) e)
    after (inr e) = inr (x ∷ e.0, e.1, ap (λ (l : List ℕ). x ∷ l) e.2)

kept-all : (n : ℕ) → 0 < n → kept_to (n + 1) ((n + 1) - 1) ≡ n
kept-all n h = omega (arith, h)

popped-push : (s : List ℕ) (x : ℕ) → 0 < length s → popped (s ++ x ∷ []) ≡ s
popped-push s x h =
    let e : kept_to (length (s ++ x ∷ [])) (length (s ++ x ∷ []) - 1) ≡ length s = rw (length-append s (x ∷ [])) (kept-all (length s) h) in
    ap (λ n. take n (s ++ x ∷ [])) e ∙ take-append_seam s (x ∷ [])

-- all but the current node
popped-ids : (stack : List ℕ) (x : ℕ) (ids : List ℕ) → reverse stack ≡ x ∷ ids → 0 < length ids → reverse (popped stack) ≡ ids
popped-ids stack x ids e l = by (split-last stack)
  where
    by : (stack ≡ []) ⊎ ((ys : List ℕ) × (z : ℕ) × (stack ≡ ys ++ z ∷ [])) → reverse (popped stack) ≡ ids
    by (inl n) = absurd (let k : [] ≡ x ∷ ids = sym (ap (λ (q : List ℕ). reverse q) n) ∙ e in cc)
    by (inr p) =
        let r : p.1 ∷ reverse p.0 ≡ x ∷ ids = sym (reverse-append p.0 (p.1 ∷ [])) ∙ sym (ap (λ (q : List ℕ). reverse q) p.2) ∙ e in
        let rest : reverse p.0 ≡ ids = ap (λ (q : List ℕ). drop 1 q) r in
        let some : 0 < length p.0 = let n : length (reverse p.0) ≡ length ids = ap length rest in omega (arith, length-reverse p.0, n, l) in
        ap (λ (q : List ℕ). reverse (popped q)) p.2 ∙ ap (λ (q : List ℕ). reverse q) (popped-push p.0 p.1 some) ∙ rest

-- as many elements are open as there are levels
open-ids : (t : Tree) (high : ℕ) (tail ids : List ℕ) (d : Forest Label) (outer : List Before) → AreOpen t high tail ids d outer → length ids ≡ length outer
open-ids t high tail [] d [] h = refl
open-ids t high tail [] d ((n, attrs, before) ∷ outer) h = absurd h
open-ids t high tail (x ∷ ids) d [] h = absurd h
open-ids t high tail (x ∷ ids) d ((n, attrs, before) ∷ outer) h = ap suc (open-ids t x (x ∷ []) ids before outer h.1)

-- where no element is open, the document is the innermost
pub lone-top : (t : Tree) (high : ℕ) (tail ids : List ℕ) (d : Forest Label) → AreOpen t high tail ids d [] → top ids ≡ 0
lone-top t high tail [] d h = refl
lone-top t high tail (x ∷ ids) d h = absurd h

-- WHAT A TOKEN MAKES

-- the tree and the stack are those
pub made-same : (tokens past : List TokenKind) (k : TokenKind) (a b : State) (d : Forest Label) (s : List ℕ) (outer : List Before) → HasMade tokens a d s outer past
    → b.stack ≡ a.stack → b.tree.stack ≡ a.tree.stack → b.tree.tree ≡ a.tree.tree → HasMade (tokens ++ k ∷ []) b d s outer (past ++ k ∷ [])
made-same tokens past k a b d s outer h e f g = record {
  tokens_are = more-tokens tokens past (k ∷ []) d s outer h.tokens_are;
  tags_are = e ∙ h.tags_are;
  nodes_are = subst (λ t. AreOpenWith s t (reverse b.tree.stack) d outer) (sym g) (subst (λ xs. AreOpenWith s a.tree.tree (reverse xs) d outer) (sym f) h.nodes_are);
  even = subst IsEven (sym g) h.even;
}

-- more text
pub made-text : (tokens : List TokenKind) (a b : State) (d : Forest Label) (s : List ℕ) (c : ℕ) (run : List ℕ) (outer : List Before) → HasMade tokens a d s outer [] → ends_after false d ≡ false
    → b.stack ≡ a.stack → b.tree.stack ≡ a.tree.stack → b.tree.tree ≡ with_text a.tree false (c ∷ run) → HasMade (tokens ++ chars_of (c ∷ run)) b d (s ++ c ∷ run) outer []
made-text tokens a b d s c run outer h apart e f g =
    let n = open-text a.tree d outer h.even s c run h.nodes_are apart in record {
      tokens_are = more-tokens tokens [] (chars_of (c ∷ run)) d s outer h.tokens_are
          ∙ ap (front_then d outer) (ap (chars_then s) (sym (chars-run (c ∷ run))) ∙ sym (chars-append s (c ∷ run)));
      tags_are = e ∙ h.tags_are;
      nodes_are = subst (λ t. AreOpenWith (s ++ c ∷ run) t (reverse b.tree.stack) d outer) (sym g)
          (subst (λ xs. AreOpenWith (s ++ c ∷ run) (with_text a.tree false (c ∷ run)) (reverse xs) d outer) (sym f) n.0);
      even = subst IsEven (sym g) n.1;
    }

-- a node put last in the innermost, which is still open
added-last : (tokens past : List TokenKind) (a : State) (u : Tree) (at : Place) (n : NewNode) (d : Forest Label) (s : List ℕ) (outer : List Before) → HasMade tokens a d s outer past
    → u ≡ with_new a.tree.tree at n → at ≡ Last (top (reverse a.tree.stack)) → has_contents n ≡ false → IsAdded a.tree.tree u (top (reverse a.tree.stack)) (label_for (node_for a.tree.tree n)) × IsEven u
added-last tokens past a u at n d s outer h e p c =
    let t : Tree = a.tree.tree in
    let x : ℕ = top (reverse a.tree.stack) in
    let within : x < length t.labels = (open-top t (length t.labels) [] (reverse a.tree.stack) (and_text d s) outer (text-closed s t (reverse a.tree.stack) d outer h.nodes_are)).within in
    let is : u ≡ with_new t (Last x) n = e ∙ ap (λ q. with_new t q n) p in (
      subst (λ v. IsAdded t v x (label_for (node_for t n))) (sym is) (new-added t x n within h.even c),
      subst IsEven (sym is) (new-even t x n within h.even c),
    )

-- the doctype
pub made-doctype : (tokens : List TokenKind) (a b : State) (d : Forest Label) (n p i : Option (List ℕ)) (j : ℕ) → HasMade tokens a d [] [] []
    → b.stack ≡ a.stack → b.tree.stack ≡ a.tree.stack → b.tree.tree ≡ with_new a.tree.tree (Last 0) (new.Doctype n p i j)
    → HasMade (tokens ++ kind.Doctype n p i false ∷ []) b (join d (single (doctype n p i) empty)) [] [] []
made-doctype tokens a b d n p i j h e f g =
    let ids : List ℕ = reverse a.tree.stack in
    let r = added-last tokens [] a b.tree.tree (Last 0) (new.Doctype n p i j) d [] [] h g (ap Last (sym (lone-top a.tree.tree (length a.tree.tree.labels) [] ids d h.nodes_are))) refl in record {
      tokens_are = ap (λ (l : List TokenKind). l ++ kind.Doctype n p i false ∷ []) h.tokens_are ∙ sym (kinds-more d [] (kind.Doctype n p i false ∷ []))
          ∙ sym (kinds-join d (single (doctype n p i) empty) []);
      tags_are = e ∙ h.tags_are;
      nodes_are = subst (λ xs. AreOpen b.tree.tree (length b.tree.tree.labels) [] (reverse xs) (join d (single (doctype n p i) empty)) []) (sym f)
          (open-leaf a.tree.tree b.tree.tree (doctype n p i) ids d [] r.0 h.nodes_are);
      even = r.1;
    }

element-label : (t : Tree) (n : List ℕ) (attrs : List Attr) (o : Origin) → label_for (node_for t (new.Element n attrs o)) ≡ element n attrs
element-label t n attrs o = by (is_template (tag_of n))
  where
    by : (b : Bool) → label_for (cond b (template_element (length t.labels) n (tag_of n) attrs o) (plain_element n (tag_of n) attrs o)) ≡ element n attrs
    by true = refl
    by false = refl

-- a start tag
pub made-start : (tokens : List TokenKind) (a b : State) (d : Forest Label) (s : List ℕ) (outer : List Before) (n : List ℕ) (attrs : List Attr) (o : Origin) (at : Place) → HasMade tokens a d s outer []
    → is_template (tag_of n) ≡ false → at ≡ Last (top (reverse a.tree.stack))
    → b.stack ≡ tag_of n ∷ a.stack → b.tree.stack ≡ with_open a.tree → b.tree.tree ≡ with_new a.tree.tree at (new.Element n attrs o)
    → HasMade (tokens ++ kind.Start n attrs false ∷ []) b empty [] ((n, attrs, and_text d s) ∷ outer) []
made-start tokens a b d s outer n attrs o at h c p e f g =
    let t : Tree = a.tree.tree in
    let ids : List ℕ = reverse a.tree.stack in
    let r = added-last tokens [] a b.tree.tree at (new.Element n attrs o) d s outer h g p c in
    let added : IsAdded t b.tree.tree (top ids) (element n attrs) = subst (λ l. IsAdded t b.tree.tree (top ids) l) (element-label t n attrs o) r.0 in
    let same : reverse b.tree.stack ≡ length t.labels ∷ ids = ap (λ (q : List ℕ). reverse q) f ∙ reverse-append a.tree.stack (length t.labels ∷ []) in record {
      tokens_are = more-tokens tokens [] (kind.Start n attrs false ∷ []) d s outer h.tokens_are ∙ sym (front-text d s outer (kind.Start n attrs false ∷ []));
      tags_are = e ∙ ap (λ l. tag_of n ∷ l) h.tags_are;
      nodes_are = subst (λ xs. AreOpen b.tree.tree (length b.tree.tree.labels) [] xs empty ((n, attrs, and_text d s) ∷ outer)) (sym same)
          (open-start t b.tree.tree n attrs ids (and_text d s) outer added (text-closed s t ids d outer h.nodes_are));
      even = r.1;
    }

-- an end tag
pub made-end : (tokens : List TokenKind) (a b : State) (d : Forest Label) (s : List ℕ) (n : List ℕ) (attrs : List Attr) (before : Forest Label) (outer : List Before) → HasMade tokens a d s ((n, attrs, before) ∷ outer) []
    → 0 < length outer → b.stack ≡ drop 1 a.stack → b.tree.stack ≡ popped a.tree.stack → b.tree.tree ≡ a.tree.tree
    → HasMade (tokens ++ kind.End n ∷ []) b (join before (single (element n attrs) (and_text d s))) [] outer []
made-end tokens a b d s n attrs before outer h l e f g = by (reverse a.tree.stack) refl (text-closed s a.tree.tree (reverse a.tree.stack) d ((n, attrs, before) ∷ outer) h.nodes_are)
  where
    by : (ids : List ℕ) → reverse a.tree.stack ≡ ids → AreOpen a.tree.tree (length a.tree.tree.labels) [] ids (and_text d s) ((n, attrs, before) ∷ outer)
        → HasMade (tokens ++ kind.End n ∷ []) b (join before (single (element n attrs) (and_text d s))) [] outer []
    by [] q i = absurd i
    by (x ∷ ids) q i =
        let count : length ids ≡ length outer = open-ids a.tree.tree x (x ∷ []) ids before outer i.1 in
        let same : reverse b.tree.stack ≡ ids = ap (λ (r : List ℕ). reverse r) f ∙ popped-ids a.tree.stack x ids q (omega (arith, count, l)) in record {
          tokens_are = more-tokens tokens [] (kind.End n ∷ []) d s ((n, attrs, before) ∷ outer) h.tokens_are
              ∙ sym (front-text d s ((n, attrs, before) ∷ outer) (kind.End n ∷ []))
              ∙ sym (front-join before (single (element n attrs) (and_text d s)) outer []);
          tags_are = e ∙ ap (λ l. drop 1 l) h.tags_are;
          nodes_are = subst (λ v. AreOpen v (length v.labels) [] (reverse b.tree.stack) (join before (single (element n attrs) (and_text d s))) outer) (sym g)
              (subst (λ xs. AreOpen a.tree.tree (length a.tree.tree.labels) [] xs (join before (single (element n attrs) (and_text d s))) outer) (sym same)
              (open-end a.tree.tree n attrs before x ids (and_text d s) outer i));
          even = subst IsEven (sym g) h.even;
        }

-- Elements that hold text alone, as tokens come.
use Rattle.std.proofs.Common.{◌≡◌, ℕ, ◌<◌, ◌≤◌, ◌⊎◌, inl, inr, Bool, true, false, ◌||◌, cond, if◌then◌else◌, List, [], ◌∷◌, ◌++◌, length, length-append, Some, None, refl, sym, ◌∙◌, ap, subst, arith}
use Rattle.std.proofs.lemmas.Bool.{false≢true}
use Rattle.std.proofs.lemmas.List.{append_assoc, append-nil, append_cancel_left}
use Rattle.html_names.specs.declared.tag.Tag.{Tag}
use Rattle.html_names.specs.declared.tag.Tag.TheVariants as tag
use Rattle.html_names.specs.Sets.{is_rawtext, is_rcdata}
use Rattle.html_names.specs.Tags.{is_same}
use Rattle.html_arena.specs.declared.data.NodeData.{NodeData}
use Rattle.html_arena.specs.declared.data.NodeData.TheVariants as node
use Rattle.html_arena.specs.Data.{IsElement, tag_in}
use Rattle.html_arena.specs.Siblings.{has}
use Rattle.html_arena.specs.Tree.{Tree, label_of, named, tag_at}
use Rattle.html_open.specs.Reopening.{HoldsNoElement}
use Rattle.html_open.proofs.Keeps.{cases_eqb, eqb-self}
use Rattle.html_tokens.specs.declared.token.TextMode.TheVariants.{Rcdata, Rawtext, Script, Plaintext}
use Rattle.html_tokens.specs.declared.token.TokenKind.{TokenKind}
use Rattle.html_ledger.specs.declared.fate.Fate.{Fate}
use Rattle.html_ledger.specs.declared.fate.Fate.TheVariants.{Dropped, Ended, Foreign, Made, Merged, Text}
use Rattle.html_ledger.specs.declared.symbol.Symbol.{Symbol}
use Rattle.html_ledger.specs.declared.symbol.Symbol.TheVariants.{Start, End, Char, Comment, Doctype, Eof}
use Rattle.html_ledger.specs.Symbols.{chars_of, symbol_of}
use Rattle.html_tree.specs.Since.{IsClosed, Since}
use Rattle.html_tree.specs.States.{State as Open}
use Rattle.html_tree.proofs.Kept.{same-element, same-tag_in}
use Rattle.html_construction.specs.Built.{Accepts, BeginsWith, Handed as Given, IsBuilt, in_call, since_tree, symbols, with_tokens}
use Rattle.html_construction.specs.States.{State}
use Rattle.html_construction.proofs.Building.{symbols-append}
use Rattle.html_construction.proofs.Kept.{built-since}
use Rattle.html_modes.specs.Guards.{is_text}
use Rattle.html_modes.specs.RawText.{AddsBy, AddsText, EndsBy, HasOpened, HoldsText, IsLeft, IsOpenText, OpensBy, holds_text_alone, is_aside, run_of}
use Rattle.html_modes.specs.Steps.{is_code_point}
use Rattle.html_modes.proofs.RawText.{alone-in}
use Rattle.html_builder.specs.RawTexts.{IsComplete, IsIncomplete, StandSoFar, StandsSoFar, are_chars, is_over, is_text_alone}
use Rattle.html_builder.specs.Switches.{switch_of}
use Rattle.html_builder.proofs.Endings.{handed-count, is_char, last-append, last-of, last_or, length-kept, length-symbols}

-- NAMES

-- the same names, by how the text is read after them
alone-switch : (t : Tag) → is_text_alone (switch_of t) ≡ true → holds_text_alone t ≡ true
unfolding switch_of
alone-switch t e = by (is_rcdata t) (is_rawtext t) (is_same t tag.Script) (is_same t tag.Plaintext) e
  where
    by : (a b c d : Bool) → is_text_alone (if a then Some Rcdata else (if b then Some Rawtext else (if c then Some Script else (if d then Some Plaintext else None)))) ≡ true → (a || (b || c)) ≡ true
    by true b c d e = refl
    by false true c d e = refl
    by false false true d e = refl
    by false false false true e = absurd (false≢true e)
    by false false false false e = absurd (false≢true e)

-- LISTS

chars-append : (ys us : List Symbol) → are_chars ys ≡ true → are_chars us ≡ true → are_chars (ys ++ us) ≡ true
chars-append [] us e f = f
chars-append (Char c ∷ ys) us e f = chars-append ys us e f
chars-append (Start t ∷ ys) us e f = absurd (false≢true e)
chars-append (End t ∷ ys) us e f = absurd (false≢true e)
chars-append (Comment ∷ ys) us e f = absurd (false≢true e)
chars-append (Doctype ∷ ys) us e f = absurd (false≢true e)
chars-append (Eof ∷ ys) us e f = absurd (false≢true e)

pub chars-are : (cs : List ℕ) → are_chars (chars_of cs) ≡ true
chars-are [] = refl
chars-are (c ∷ cs) = chars-are cs

-- a run that is over stays so
run-over : (ys us : List Symbol) (fs gs : List Fate) → is_over ys fs ≡ true → (is_over (ys ++ us) (fs ++ gs) ≡ true) × (run_of (ys ++ us) (fs ++ gs) ≡ run_of ys fs)
run-over [] us fs gs e = absurd (false≢true e)
run-over (Char c ∷ ys) us [] gs e = absurd (false≢true e)
run-over (Char c ∷ ys) us (f ∷ fs) gs e = let k = run-over ys us fs gs e in (k.0, ap (λ z. cond (is_aside f) [] (c ∷ []) ++ z) k.1)
run-over (Start t ∷ ys) us fs gs e = (refl, refl)
run-over (End t ∷ ys) us fs gs e = (refl, refl)
run-over (Comment ∷ ys) us fs gs e = (refl, refl)
run-over (Doctype ∷ ys) us fs gs e = (refl, refl)
run-over (Eof ∷ ys) us fs gs e = (refl, refl)

-- one that goes on
run-on : (ys us : List Symbol) (fs gs : List Fate) → are_chars ys ≡ true → length fs ≡ length ys → (is_over (ys ++ us) (fs ++ gs) ≡ is_over us gs) × (run_of (ys ++ us) (fs ++ gs) ≡ run_of ys fs ++ run_of us gs)
run-on [] us [] gs e n = (refl, refl)
run-on [] us (f ∷ fs) gs e n = absurd (omega (arith, n))
run-on (Char c ∷ ys) us [] gs e n = absurd (omega (arith, n))
run-on (Char c ∷ ys) us (f ∷ fs) gs e n =
    let k = run-on ys us fs gs e (omega (arith, n)) in
    (k.0, ap (λ z. cond (is_aside f) [] (c ∷ []) ++ z) k.1 ∙ sym (append_assoc (cond (is_aside f) [] (c ∷ [])) (run_of ys fs) (run_of us gs)))
run-on (Start t ∷ ys) us fs gs e n = absurd (false≢true e)
run-on (End t ∷ ys) us fs gs e n = absurd (false≢true e)
run-on (Comment ∷ ys) us fs gs e n = absurd (false≢true e)
run-on (Doctype ∷ ys) us fs gs e n = absurd (false≢true e)
run-on (Eof ∷ ys) us fs gs e n = absurd (false≢true e)

-- ONE STEP

-- what comes of an element that is open
abbrev Goes : List Symbol → List Fate → ℕ → List ℕ → State → Type 0
Goes us gs x s b =
    ((are_chars us ≡ true) × ((length gs ≡ length us) × IsOpenText x (s ++ run_of us gs) b))
    ⊎ ((is_over us gs ≡ true) × ((run_of us gs ≡ []) × (IsClosed b.tree x × HoldsText b.tree.tree x s)))

-- from one state to a later one, after some tokens with their fates
record Moves (us : List Symbol) (gs : List Fate) (a b : State) : Type 0 where
  still : (x : ℕ) (s : List ℕ) → IsClosed a.tree x → HoldsText a.tree.tree x s → IsClosed b.tree x × HoldsText b.tree.tree x s
  goes : (x : ℕ) (s : List ℕ) → IsOpenText x s a → Goes us gs x s b

module _ (us : List Symbol) (gs : List Fate) (a b : State) (m : Moves us gs a b) where
  complete : (x : ℕ) (ys : List Symbol) (fs : List Fate) → IsComplete x ys fs a → IsComplete x (ys ++ us) (fs ++ gs) b
  complete x ys fs h =
      let k = m.still x (run_of ys fs) h.closed h.holds in
      let o = run-over ys us fs gs h.over in
      record { closed = k.0; holds = subst (λ s. HoldsText b.tree.tree x s) (sym o.1) k.1; over = o.0 }

  incomplete : (x : ℕ) (ys : List Symbol) (fs : List Fate) → IsIncomplete x ys fs a → IsComplete x (ys ++ us) (fs ++ gs) b ⊎ IsIncomplete x (ys ++ us) (fs ++ gs) b
  incomplete x ys fs h =
      let o = run-on ys us fs gs h.chars h.count in
      elim (m.goes x (run_of ys fs) h.open_text) [
        | inl k ↦ inr (record {
          open_text = subst (λ s. IsOpenText x s b) (sym o.1) k.1.1;
          chars = chars-append ys us h.chars k.0;
          count = (let p = length-append fs gs in let q = length-append ys us in let c = h.count in let d = k.1.0 in omega (arith, p, q, c, d));
        })
        | inr k ↦ inl (record {
          closed = k.1.1.0;
          holds = subst (λ s. HoldsText b.tree.tree x s) (sym (o.1 ∙ ap (λ z. run_of ys fs ++ z) k.1.0 ∙ append-nil (run_of ys fs))) k.1.1.1;
          over = o.0 ∙ k.0;
        })
      ]

  stands-on : (y : Symbol) (f : Fate) (ys : List Symbol) (fs : List Fate) → StandsSoFar y f ys fs a → StandsSoFar y f (ys ++ us) (fs ++ gs) b
  stands-on (Start t) (Made x) ys fs h = λ r. elim (h r) [ inl k ↦ inl (complete x ys fs k) | inr k ↦ incomplete x ys fs k ]
  stands-on (Start t) (Foreign d) ys fs h = tt
  stands-on (Start t) Merged ys fs h = tt
  stands-on (Start t) (Text d) ys fs h = tt
  stands-on (Start t) (Dropped d) ys fs h = tt
  stands-on (Start t) Ended ys fs h = tt
  stands-on (End t) f ys fs h = tt
  stands-on (Char c) f ys fs h = tt
  stands-on Comment f ys fs h = tt
  stands-on Doctype f ys fs h = tt
  stands-on Eof f ys fs h = tt

  -- the tokens that had no fate, and those that came
  abbrev Last : Type 0
  Last = (zs : List Symbol) → are_chars zs ≡ true → (length (zs ++ us) ≡ length gs) ⊎ (are_chars us ≡ true) → StandSoFar (zs ++ us) gs b

  stand-on : Last → (ys : List Symbol) (fs : List Fate) → StandSoFar ys fs a → length fs ≤ length ys → (length (ys ++ us) ≡ length (fs ++ gs)) ⊎ (are_chars us ≡ true) → StandSoFar (ys ++ us) (fs ++ gs) b
  stand-on l [] [] h n c = l [] refl c
  stand-on l [] (f ∷ fs) h n c = absurd (omega (arith, n))
  stand-on l (y ∷ ys) [] h n c = l (y ∷ ys) h c
  stand-on l (y ∷ ys) (f ∷ fs) h n c = (stands-on y f ys fs h.0, stand-on l ys fs h.1 (omega (arith, n)) (less c))
    where
      less : (length (y ∷ ys ++ us) ≡ length (f ∷ fs ++ gs)) ⊎ (are_chars us ≡ true) → (length (ys ++ us) ≡ length (fs ++ gs)) ⊎ (are_chars us ≡ true)
      less (inl e) = inl (omega (arith, e))
      less (inr e) = inr e

-- code points alone
stand-chars : (ys : List Symbol) (fs : List Fate) (b : State) → are_chars ys ≡ true → StandSoFar ys fs b
stand-chars [] fs b e = tt
stand-chars (Char c ∷ ys) [] b e = e
stand-chars (Char c ∷ ys) (f ∷ fs) b e = (tt, stand-chars ys fs b e)
stand-chars (Start t ∷ ys) fs b e = absurd (false≢true e)
stand-chars (End t ∷ ys) fs b e = absurd (false≢true e)
stand-chars (Comment ∷ ys) fs b e = absurd (false≢true e)
stand-chars (Doctype ∷ ys) fs b e = absurd (false≢true e)
stand-chars (Eof ∷ ys) fs b e = absurd (false≢true e)

-- another token, after the code points that had no fate
module _ (b : State) where
  one-stands : (y : Symbol) (f : Fate) → ((t : Tag) (x : ℕ) → y ≡ Start t → f ≡ Made x → holds_text_alone t ≡ true → IsOpenText x [] b) → StandsSoFar y f [] [] b
  one-stands (Start t) (Made x) k = λ r. inr (record { open_text = k t x refl refl (alone-switch t r); chars = refl; count = refl })
  one-stands (Start t) (Foreign d) k = tt
  one-stands (Start t) Merged k = tt
  one-stands (Start t) (Text d) k = tt
  one-stands (Start t) (Dropped d) k = tt
  one-stands (Start t) Ended k = tt
  one-stands (End t) f k = tt
  one-stands (Char c) f k = tt
  one-stands Comment f k = tt
  one-stands Doctype f k = tt
  one-stands Eof f k = tt

  last-stands : (y : Symbol) (zs : List Symbol) (gs : List Fate) → are_chars zs ≡ true → length (zs ++ y ∷ []) ≡ length gs
      → ((t : Tag) (ms : List Fate) (x : ℕ) → y ≡ Start t → gs ≡ ms ++ Made x ∷ [] → holds_text_alone t ≡ true → IsOpenText x [] b) → StandSoFar (zs ++ y ∷ []) gs b
  last-stands y [] [] e n k = absurd (omega (arith, n))
  last-stands y [] (f ∷ []) e n k = (one-stands y f (λ t x p q r. k t [] x p (ap (λ z. z ∷ []) q) r), tt)
  last-stands y [] (f ∷ g ∷ gs) e n k = absurd (omega (arith, n))
  last-stands y (Char c ∷ zs) [] e n k = absurd (omega (arith, n))
  last-stands y (Char c ∷ zs) (f ∷ gs) e n k = (tt, last-stands y zs gs e (omega (arith, n)) (λ t ms x p q r. k t (f ∷ ms) x p (ap (λ z. f ∷ z) q) r))
  last-stands y (Start t ∷ zs) gs e n k = absurd (false≢true e)
  last-stands y (End t ∷ zs) gs e n k = absurd (false≢true e)
  last-stands y (Comment ∷ zs) gs e n k = absurd (false≢true e)
  last-stands y (Doctype ∷ zs) gs e n k = absurd (false≢true e)
  last-stands y (Eof ∷ zs) gs e n k = absurd (false≢true e)

-- WHAT WAS CLOSED STAYS

-- one text is no element
holds-none : (t : Tree) (x : ℕ) (s : List ℕ) → HoldsText t x s → HoldsNoElement t x
holds-none t x s (inl h) c i e = absurd (let k : has c [] ≡ true = subst (λ cs. has c cs ≡ true) h.0 i in false≢true k)
holds-none t x s (inr h) c i e = elim (cases_eqb c h.0) [
  | inl k ↦ subst IsElement h.2 (subst (λ z. IsElement (label_of t z)) k.1 e)
  | inr k ↦ absurd (let j : has c (h.0 ∷ []) ≡ true = subst (λ cs. has c cs ≡ true) h.1 i in let z = rw k.0 at j in false≢true z)
]

closed-since : (e b : Open) (x : ℕ) → Since e b → IsClosed e x → IsClosed b x
closed-since e b x w i = record {
  node_in = (let k = i.node_in in let n = w.no_fewer in omega (arith, k, n));
  element = same-element (label_of e.tree x) (label_of b.tree x) (w.labels x i.node_in) i.element;
  not_head = ap (λ g. is_same g tag.Head) (same-tag_in (label_of e.tree x) (label_of b.tree x) (w.labels x i.node_in)) ∙ i.not_head;
  off = w.off x i;
}

holds-since : (e b : Open) (x : ℕ) (s : List ℕ) → Since e b → IsClosed e x → HoldsText e.tree x s → HoldsText b.tree x s
holds-since e b x s w i (inl h) = inl (w.children x i (holds-none e.tree x s (inl h)) ∙ h.0, h.1)
holds-since e b x s w i (inr h) = inr (
  h.0,
  w.children x i (holds-none e.tree x s (inr h)) ∙ h.1,
  w.texts x h.0 i (holds-none e.tree x s (inr h)) (subst (λ cs. has h.0 cs ≡ true) (sym h.1) (rw (eqb-self h.0) refl)) ∙ h.2,
)

-- from a tree with the same nodes, where no more is open
module _ (a : State) (e : Open) (b : State) (same : e.tree ≡ a.tree.tree) (off : (x : ℕ) → has x a.tree.stack ≡ false → has x e.stack ≡ false) (w : Since e b.tree) where
  closed-then : (x : ℕ) → IsClosed a.tree x → IsClosed e x
  closed-then x i = record {
    node_in = subst (λ (t : Tree). x < length t.labels) (sym same) i.node_in;
    element = subst (λ (t : Tree). IsElement (label_of t x)) (sym same) i.element;
    not_head = ap (λ (t : Tree). named t tag.Head x) same ∙ i.not_head;
    off = off x i.off;
  }

  since-still : (x : ℕ) (s : List ℕ) → IsClosed a.tree x → HoldsText a.tree.tree x s → IsClosed b.tree x × HoldsText b.tree.tree x s
  since-still x s i h = (closed-since e b.tree x w (closed-then x i), holds-since e b.tree x s w (closed-then x i) (subst (λ t. HoldsText t x s) (sym same) h))

-- an element that holds text alone is no head, and is there
alone-head : (t : Tag) → holds_text_alone t ≡ true → is_same t tag.Head ≡ false
alone-head tag.Head e = absurd (false≢true e)
alone-head _ e = refl

alone-element : (d : NodeData) → holds_text_alone (tag_in d) ≡ true → IsElement d
alone-element (node.Element r) e = tt
alone-element node.Document e = absurd (false≢true e)
alone-element (node.Contents h) e = absurd (false≢true e)
alone-element (node.Text s) e = absurd (false≢true e)
alone-element (node.Comment s i) e = absurd (false≢true e)
alone-element (node.Doctype n p s i) e = absurd (false≢true e)

left-closed : (x : ℕ) (s : List ℕ) (a : State) (m : Open) → IsOpenText x s a → IsLeft a.tree m → IsClosed m x
left-closed x s a m o i = record {
  node_in = subst (λ (t : Tree). x < length t.labels) (sym i.nodes_are) (alone-in a.tree.tree.labels x o.alone);
  element = subst (λ (t : Tree). IsElement (label_of t x)) (sym i.nodes_are) (alone-element (label_of a.tree.tree x) o.alone);
  not_head = ap (λ (t : Tree). named t tag.Head x) i.nodes_are ∙ alone-head (tag_at a.tree.tree x) o.alone;
  off = i.closed x o.current;
}

since-of : (h : Given) (e : Open) (us : List TokenKind) (b : State) → IsBuilt (with_tokens (since_tree h e) us) b → Since e b.tree
unfolding with_tokens since_tree
since-of h e us b w = w.since

since-in : (h : Given) (e : Open) (a : State) (us : List TokenKind) (b : State) → IsBuilt (with_tokens (in_call (since_tree h e) a) us) b → Since e b.tree
unfolding with_tokens since_tree
since-in h e a us b w = w.since

tokens-with : (h : Given) (us : List TokenKind) → (with_tokens h us).tokens ≡ h.tokens ++ us
unfolding with_tokens
tokens-with h us = refl

-- ONE TOKEN, OR CODE POINTS IN A ROW

-- code points
module _ (a b : State) (h : Given) (w : IsBuilt h a) (us : List TokenKind) (cs : List ℕ) (is : symbols us ≡ chars_of cs) (k : (h : Given) → IsBuilt h a → IsBuilt (with_tokens (in_call h a) us) b) (t : AddsText cs a b) (gs : List Fate) (f : b.ledger.fates ≡ a.ledger.fates ++ gs) where
  moves-run : Moves (symbols us) gs a b
  moves-run = record {
    still = since-still a a.tree b refl (λ x i. i) (since-in h a.tree a us b (k (since_tree h a.tree) (built-since h a w)));
    goes = λ x s o.
        let p = t.added x s o in
        let e : p.0 ≡ gs = append_cancel_left a.ledger.fates p.0 gs (sym p.1 ∙ f) in
        inl (
          ap are_chars is ∙ chars-are cs,
          (
            sym (ap (λ (z : List Fate). length z) e) ∙ p.2 ∙ sym (ap (λ (z : List Symbol). length z) is ∙ length-kept cs),
            subst (λ z. IsOpenText x (s ++ run_of z gs) b) (sym is) (subst (λ z. IsOpenText x (s ++ run_of (chars_of cs) z) b) e p.3),
          ),
        );
  }

over-one : (y : Symbol) (gs : List Fate) → is_code_point y ≡ false → (is_over (y ∷ []) gs ≡ true) × (run_of (y ∷ []) gs ≡ [])
over-one (Char c) gs e = absurd (false≢true (sym e))
over-one (Start t) gs e = (refl, refl)
over-one (End t) gs e = (refl, refl)
over-one Comment gs e = (refl, refl)
over-one Doctype gs e = (refl, refl)
over-one Eof gs e = (refl, refl)

bool-cases : (b : Bool) → (b ≡ true) ⊎ (b ≡ false)
bool-cases true = inl refl
bool-cases false = inr refl

-- any other token
module _ (a b : State) (h : Given) (w : IsBuilt h a) (t : TokenKind) (other : is_code_point (symbol_of t) ≡ false) (k : Accepts t a b) (ends : EndsBy (symbol_of t) t a b) (gs : List Fate) where
  moves-left : is_text a.mode ≡ true → Moves (symbol_of t ∷ []) gs a b
  moves-left e =
      let p = ends.ends e other h w in
      let v = since-of (in_call h a) p.0 (t ∷ []) b p.2 in
      let o = over-one (symbol_of t) gs other in
      record {
        still = since-still a p.0 b p.1.nodes_are p.1.off v;
        goes = λ x s i.
            let c = left-closed x s a p.0 i p.1 in
            inr (o.0, (o.1, (closed-since p.0 b.tree x v c, holds-since p.0 b.tree x s v c (subst (λ n. HoldsText n x s) (sym p.1.nodes_are) i.holds))));
      }

  moves-other : is_text a.mode ≡ false → Moves (symbol_of t ∷ []) gs a b
  moves-other e = record {
    still = since-still a a.tree b refl (λ x i. i) (since-in h a.tree a (t ∷ []) b (k (since_tree h a.tree) (built-since h a w)));
    goes = λ x s i. absurd (false≢true (sym e ∙ ap is_text i.mode_is));
  }

  moves-one : Moves (symbol_of t ∷ []) gs a b
  moves-one = elim (bool-cases (is_text a.mode)) [ inl e ↦ moves-left e | inr e ↦ moves-other e ]

-- AFTER EACH CALL

fates-most : (h : Given) (a : State) → IsBuilt h a → length a.ledger.fates ≤ length (symbols h.tokens)
fates-most h a w = let c = handed-count h a w in let l = length-symbols h.tokens in omega (arith, c, l)

-- code points in a row
pub raw-run : (h : Given) (ts us : List TokenKind) (cs : List ℕ) (a b : State) → h.tokens ≡ ts → IsBuilt h a → symbols us ≡ chars_of cs → ((h : Given) → IsBuilt h a → IsBuilt (with_tokens (in_call h a) us) b) → AddsText cs a b
    → BeginsWith a.ledger.fates b.ledger.fates → StandSoFar (symbols ts) a.ledger.fates a → StandSoFar (symbols (ts ++ us)) b.ledger.fates b
raw-run h ts us cs a b q w is k t f s =
    let m = moves-run a b h w us cs is k t f.0 f.1 in
    let chars : are_chars (symbols us) ≡ true = ap are_chars is ∙ chars-are cs in
    subst (λ ys. StandSoFar ys b.ledger.fates b) (sym (symbols-append ts us))
    (subst (λ fs. StandSoFar (symbols ts ++ symbols us) fs b) (sym f.1)
    (stand-on (symbols us) f.0 a b m (λ zs e c. stand-chars (zs ++ symbols us) f.0 b (chars-append zs (symbols us) e chars))
    (symbols ts) a.ledger.fates s (subst (λ v. length a.ledger.fates ≤ length (symbols v)) q (fates-most h a w)) (inr chars)))

quiet-after : (h : Given) (ts : List TokenKind) (t : TokenKind) (b : State) → h.tokens ≡ ts ++ t ∷ [] → IsBuilt h b → is_code_point (symbol_of t) ≡ false → b.ledger.kept ≡ []
quiet-after h ts t b q w e = by b.ledger.kept w.fed.split
  where
    by : (cs : List ℕ) → symbols h.tokens ≡ w.fed.front ++ chars_of cs → cs ≡ []
    by [] f = refl
    by (c ∷ cs) f =
        let p : symbols h.tokens ≡ symbols ts ++ symbol_of t ∷ [] = ap symbols q ∙ symbols-append ts (t ∷ []) in
        let l : last_or Eof (w.fed.front ++ chars_of (c ∷ cs)) ≡ symbol_of t = ap (last_or Eof) (sym f ∙ p) ∙ last-of Eof (symbol_of t) (symbols ts) in
        absurd (false≢true (sym e ∙ point (symbol_of t) (subst is_char l (last-append Eof w.fed.front c cs))))
      where
        point : (y : Symbol) → is_char y → is_code_point y ≡ true
        point (Char d) i = refl
        point (Start g) i = absurd i
        point (End g) i = absurd i
        point Comment i = absurd i
        point Doctype i = absurd i
        point Eof i = absurd i

opens-start : (y : Symbol) (t : Tag) (b : State) → OpensBy y b → y ≡ Start t → HasOpened t b
opens-start y t b o e = subst (λ z. OpensBy z b) e o

-- one token
module _ (h : Given) (ts : List TokenKind) (t : TokenKind) (a b : State) (q : h.tokens ≡ ts) (w : IsBuilt h a) (k : Accepts t a b) (o : OpensBy (symbol_of t) b) (d : AddsBy (symbol_of t) a b) (n : EndsBy (symbol_of t) t a b) (f : BeginsWith a.ledger.fates b.ledger.fates) (s : StandSoFar (symbols ts) a.ledger.fates a) where
  raw-other : is_code_point (symbol_of t) ≡ false → StandSoFar (symbols (ts ++ t ∷ [])) b.ledger.fates b
  raw-other e =
      let m = moves-one a b h w t e k n f.0 in
      let v : IsBuilt (with_tokens (in_call h a) (t ∷ [])) b = k h w in
      let tokens : (with_tokens (in_call h a) (t ∷ [])).tokens ≡ ts ++ t ∷ [] = tokens-with (in_call h a) (t ∷ []) ∙ ap (λ us. us ++ t ∷ []) q in
      let quiet : b.ledger.kept ≡ [] = quiet-after (with_tokens (in_call h a) (t ∷ [])) ts t b tokens v e in
      let all : length (symbols ts ++ symbol_of t ∷ []) ≡ length (a.ledger.fates ++ f.0) = counted v tokens quiet in
      subst (λ ys. StandSoFar ys b.ledger.fates b) (sym (symbols-append ts (t ∷ [])))
      (subst (λ fs. StandSoFar (symbols ts ++ symbol_of t ∷ []) fs b) (sym f.1)
      (stand-on (symbol_of t ∷ []) f.0 a b m (λ zs c l. elim l [ inl j ↦ last-stands b (symbol_of t) zs f.0 c j last | inr j ↦ absurd (no-chars (symbol_of t) e j) ])
      (symbols ts) a.ledger.fates s (subst (λ v. length a.ledger.fates ≤ length (symbols v)) q (fates-most h a w)) (inl all)))
    where
      last : (g : Tag) (ms : List Fate) (x : ℕ) → symbol_of t ≡ Start g → f.0 ≡ ms ++ Made x ∷ [] → holds_text_alone g ≡ true → IsOpenText x [] b
      last g ms x p z r = (opens-start (symbol_of t) g b o p).opened r (a.ledger.fates ++ ms) x (f.1 ∙ ap (λ v. a.ledger.fates ++ v) z ∙ sym (append_assoc a.ledger.fates ms (Made x ∷ [])))

      no-chars : (y : Symbol) → is_code_point y ≡ false → are_chars (y ∷ []) ≡ true → ⊥
      no-chars (Char c) e j = false≢true (sym e)
      no-chars (Start g) e j = false≢true j
      no-chars (End g) e j = false≢true j
      no-chars Comment e j = false≢true j
      no-chars Doctype e j = false≢true j
      no-chars Eof e j = false≢true j

      counted : IsBuilt (with_tokens (in_call h a) (t ∷ [])) b → (with_tokens (in_call h a) (t ∷ [])).tokens ≡ ts ++ t ∷ [] → b.ledger.kept ≡ [] → length (symbols ts ++ symbol_of t ∷ []) ≡ length (a.ledger.fates ++ f.0)
      counted v tokens quiet =
          let c = handed-count (with_tokens (in_call h a) (t ∷ [])) b v in
          let z : length b.ledger.kept ≡ 0 = ap length quiet in
          let x : length (with_tokens (in_call h a) (t ∷ [])).tokens ≡ length (ts ++ t ∷ []) = ap length tokens in
          let y : length (symbols (ts ++ t ∷ [])) ≡ length (symbols ts ++ symbol_of t ∷ []) = ap length (symbols-append ts (t ∷ [])) in
          let l = length-symbols (ts ++ t ∷ []) in
          let g : length b.ledger.fates ≡ length (a.ledger.fates ++ f.0) = ap length f.1 in
          omega (arith, c, z, x, y, l, g)

  raw-char : (c : ℕ) → symbol_of t ≡ Char c → StandSoFar (symbols (ts ++ t ∷ [])) b.ledger.fates b
  raw-char c e = raw-run h ts (t ∷ []) (c ∷ []) a b q w (ap (λ y. y ∷ []) e) k (subst (λ y. AddsBy y a b) e d) f s

  raw-one : (y : Symbol) → symbol_of t ≡ y → StandSoFar (symbols (ts ++ t ∷ [])) b.ledger.fates b
  raw-one (Char c) e = raw-char c e
  raw-one (Start g) e = raw-other (ap is_code_point e)
  raw-one (End g) e = raw-other (ap is_code_point e)
  raw-one Comment e = raw-other (ap is_code_point e)
  raw-one Doctype e = raw-other (ap is_code_point e)
  raw-one Eof e = raw-other (ap is_code_point e)

  pub raw-token : StandSoFar (symbols (ts ++ t ∷ [])) b.ledger.fates b
  raw-token = raw-one (symbol_of t) refl

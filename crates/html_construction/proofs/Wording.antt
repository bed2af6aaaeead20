-- The texts of nodes, after more tokens and with more nodes.
use Rattle.std.proofs.Common.{ℕ, zero, suc, ◌-◌, ◌≡◌, ◌≢◌, ◌<◌, ◌≤◌, ◌⊎◌, ◌==◌, Bool, true, false, cond, List, [], ◌∷◌, ◌++◌, length, length-append, map, replicate, Some, inl, inr, refl, sym, ap, subst, ◌∙◌, arith}
use Rattle.std.proofs.lemmas.Bool.{false≢true, cases_Bool, eqb-true}
use Rattle.std.specs.Prelude.{slice_get, slice_set}
use Rattle.std.proofs.lemmas.List.{append-nil}
use Rattle.html_arena.specs.declared.data.NodeData.{NodeData}
use Rattle.html_arena.specs.declared.data.NodeData.TheVariants as node
use Rattle.html_arena.specs.Data.{IsText, is_text, label_in, with_run}
use Rattle.html_ledger.specs.declared.symbol.Symbol.{Symbol}
use Rattle.html_ledger.specs.declared.fate.Fate.{Fate}
use Rattle.html_ledger.specs.declared.fate.Fate.TheVariants.{Foreign, Made, Merged, Text, Dropped, Ended}
use Rattle.html_tokens.specs.Cut.{null_replaced}
use Rattle.html_ledger.specs.Symbols.{chars_of}
use Rattle.html_ledger.specs.Texts.{code_point, is_text_in, text_of}
use Rattle.html_ledger.proofs.Texted.{text_of-append, text_of-run}
use Rattle.html_construction.specs.Accounts.{AreTexts}
use Rattle.html_construction.proofs.Labels.{get-last, label-new, label-old, label-past, label-set, label-set-other, length-slice_set, order, same-or-not}

-- a fate that adds to no text
abbrev pub is_no_text : Fate → Bool
is_no_text (Text d) = false
is_no_text _ = true

text-is : {d e : ℕ} → Text d ≡ Text e → d ≡ e
text-is e = let q : Text _ ≡ Text _ = e in cc

node-text : {s r : List ℕ} → node.Text s ≡ node.Text r → s ≡ r
node-text e = let q : node.Text _ ≡ node.Text _ = e in cc

is-text : (d : NodeData) (s : List ℕ) → d ≡ node.Text s → IsText d
is-text d s e = subst IsText (sym e) tt

-- tokens without a fate add to no text
text-front : (x : ℕ) (ts us : List Symbol) (fs : List Fate) → length fs ≤ length ts → text_of x (ts ++ us) fs ≡ text_of x ts fs
text-front x [] [] [] h = refl
text-front x [] (u ∷ us) [] h = refl
text-front x [] us (f ∷ fs) h = absurd (omega arith)
text-front x (t ∷ ts) us [] h = refl
text-front x (t ∷ ts) us (f ∷ fs) h = ap (λ cs. cond (is_text_in x f) (code_point t) [] ++ cs) (text-front x ts us fs (omega arith))

-- a node to which no token was added
text-none : (x : ℕ) (ts : List Symbol) (fs : List Fate) → ((i : ℕ) → slice_get fs i ≡ Some (Text x) → ⊥) → text_of x ts fs ≡ []
text-none x [] fs h = refl
text-none x (t ∷ ts) [] h = refl
text-none x (t ∷ ts) (f ∷ fs) h = ap (λ b. cond b (code_point t) [] ++ text_of x ts fs) (first f (λ e. h 0 (ap Some e))) ∙ text-none x ts fs (λ i e. h (suc i) e)
  where
    first : (f : Fate) → (f ≡ Text x → ⊥) → is_text_in x f ≡ false
    first (Text d) k = elim (cases_Bool (d == x)) [
      | inl e ↦ absurd (k (ap Text (eqb-true d x e)))
      | inr e ↦ e
    ]
    first (Made d) k = refl
    first (Foreign d) k = refl
    first Merged k = refl
    first (Dropped c) k = refl
    first Ended k = refl

no-text-in : (x : ℕ) (f : Fate) → is_no_text f ≡ true → is_text_in x f ≡ false
no-text-in x (Text d) e = absurd (false≢true e)
no-text-in x (Made d) e = refl
no-text-in x (Foreign d) e = refl
no-text-in x Merged e = refl
no-text-in x (Dropped c) e = refl
no-text-in x Ended e = refl

-- no text was made
pub none-texts : (ls : List NodeData) → ((x : ℕ) → is_text (label_in ls x) ≡ false) → AreTexts [] [] ls
none-texts ls h = record {
  texts = λ x text e. absurd (false≢true (sym (h x) ∙ ap is_text e));
  text_nodes = λ i d e. absurd (let k = e in cc);
}

-- a token whose fate adds to no text
pub texts-besides : (ts : List Symbol) (t : Symbol) (fs : List Fate) (f : Fate) (ls : List NodeData) → length fs ≡ length ts → is_no_text f ≡ true → AreTexts ts fs ls
    → AreTexts (ts ++ t ∷ []) (fs ++ f ∷ []) ls
texts-besides ts t fs f ls l n m = record {
  texts = λ x text e. let p = m.texts x text e in (p.0, p.1 ∙ sym (same x));
  text_nodes = λ i d e. elim (get-last fs f i (Text d) e) [
    | inl q ↦ m.text_nodes i d q
    | inr q ↦ absurd (false≢true (ap is_no_text (sym q.1) ∙ n))
  ];
}
  where
    same : (x : ℕ) → text_of x (ts ++ t ∷ []) (fs ++ f ∷ []) ≡ text_of x ts fs
    same x = text_of-append x ts (t ∷ []) fs (f ∷ []) l ∙ ap (λ b. text_of x ts fs ++ (cond b (code_point t) [] ++ [])) (no-text-in x f n) ∙ append-nil (text_of x ts fs)

-- a token without a fate, and one that was taken out again
pub texts-kept : (ts us : List Symbol) (fs : List Fate) (ls : List NodeData) → length fs ≤ length ts → AreTexts ts fs ls → AreTexts (ts ++ us) fs ls
texts-kept ts us fs ls l m = record {
  texts = λ x text e. let p = m.texts x text e in (p.0, p.1 ∙ sym (text-front x ts us fs l));
  text_nodes = m.text_nodes;
}

pub texts-released : (ts us : List Symbol) (fs : List Fate) (ls : List NodeData) → length fs ≤ length ts → AreTexts (ts ++ us) fs ls → AreTexts ts fs ls
texts-released ts us fs ls l m = record {
  texts = λ x text e. let p = m.texts x text e in (p.0, p.1 ∙ text-front x ts us fs l);
  text_nodes = m.text_nodes;
}

-- nodes of which no text changed and none was made
pub texts-alike : (ts : List Symbol) (fs : List Fate) (ls ks : List NodeData) → length ls ≤ length ks
    → ((x : ℕ) (text : List ℕ) → label_in ks x ≡ node.Text text → label_in ls x ≡ node.Text text) → ((x : ℕ) → x < length ls → IsText (label_in ls x) → IsText (label_in ks x)) → AreTexts ts fs ls → AreTexts ts fs ks
texts-alike ts fs ls ks n o c m = record {
  texts = λ x text e. m.texts x text (o x text e);
  text_nodes = λ i d e. let p = m.text_nodes i d e in (let k = p.0 in omega arith, c d p.0 p.1);
}

-- more nodes, of which none is a text
pub texts-more : (ts : List Symbol) (fs : List Fate) (ls ds : List NodeData) → ((y : ℕ) → is_text (label_in ds y) ≡ false) → AreTexts ts fs ls → AreTexts ts fs (ls ++ ds)
texts-more ts fs ls ds none m = texts-alike ts fs ls (ls ++ ds) (let l = length-append ls ds in omega (arith, l))
    (λ x text e. elim (order x (length ls)) [
      | inl q ↦ sym (label-old ls ds x q) ∙ e
      | inr q ↦ absurd (false≢true (sym (none (x - length ls)) ∙ ap is_text (sym (label-new ls ds x q) ∙ e)))
    ])
    (λ x h i. subst IsText (sym (label-old ls ds x h)) i) m

-- code points were added to a text
module _ (ts : List Symbol) (fs : List Fate) (ls : List NodeData) (y : ℕ) (cs : List ℕ) (l : length fs ≡ length ts) (h : y < length ls) (some : map null_replaced cs ≢ []) where
  abbrev rs : List ℕ
  rs = map null_replaced cs

  run-is : (x : ℕ) → text_of x (ts ++ chars_of cs) (fs ++ replicate (length cs) (Text y)) ≡ text_of x ts fs ++ cond (y == x) rs []
  run-is x = text_of-append x ts (chars_of cs) fs (replicate (length cs) (Text y)) l ∙ ap (λ ds. text_of x ts fs ++ ds) (text_of-run x y cs)

  other : (x : ℕ) → x ≢ y → (y == x) ≡ false
  other x n = elim (cases_Bool (y == x)) [
    | inl e ↦ absurd (n (sym (eqb-true y x e)))
    | inr e ↦ e
  ]

  self : (y == y) ≡ true
  self = grind arith

  not-empty : (r : List ℕ) → r ++ rs ≢ []
  not-empty [] e = some e
  not-empty (c ∷ r) e = let k = e in cc

  get-run : (gs : List Fate) (n i d : ℕ) → slice_get (gs ++ replicate n (Text y)) i ≡ Some (Text d) → (slice_get gs i ≡ Some (Text d)) ⊎ (d ≡ y)
  get-run [] zero i d e = absurd (let k = e in cc)
  get-run [] (suc n) zero d e = inr (sym (text-is (let k : Some (Text y) ≡ Some (Text d) = e in cc)))
  get-run [] (suc n) (suc i) d e = elim (get-run [] n i d e) [
    | inl q ↦ absurd (let k = q in cc)
    | inr q ↦ inr q
  ]
  get-run (g ∷ gs) n zero d e = inl e
  get-run (g ∷ gs) n (suc i) d e = get-run gs n i d e

  -- to a text that held those that were added to it before
  pub texts-added : (s : List ℕ) → label_in ls y ≡ node.Text s → s ≡ text_of y ts fs
      → ((x : ℕ) (text : List ℕ) → x ≢ y → label_in ls x ≡ node.Text text → (text ≢ []) × (text ≡ text_of x ts fs))
      → ((i d : ℕ) → slice_get fs i ≡ Some (Text d) → (d < length ls) × IsText (label_in ls d))
      → AreTexts (ts ++ chars_of cs) (fs ++ replicate (length cs) (Text y)) (slice_set ls y (with_run (label_in ls y) rs))
  texts-added s is held m nodes = record {
    texts = λ x text e. elim (same-or-not x y) [
      | inl q ↦ let k : text ≡ s ++ rs = node-text (sym e ∙ ap (λ z. label_in (slice_set ls y (with_run (label_in ls y) rs)) z) q ∙ here) in
          (λ z. not-empty s (sym k ∙ z), k ∙ ap (λ r. r ++ rs) held ∙ sym (run-is y ∙ ap (λ b. text_of y ts fs ++ cond b rs []) self) ∙ ap (λ z. text_of z (ts ++ chars_of cs) (fs ++ replicate (length cs) (Text y))) (sym q))
      | inr q ↦ let p = m x text q (sym (label-set-other ls y x (with_run (label_in ls y) rs) q) ∙ e) in
          (p.0, p.1 ∙ sym (run-is x ∙ ap (λ b. text_of x ts fs ++ cond b rs []) (other x q) ∙ append-nil (text_of x ts fs)))
    ];
    text_nodes = λ i d e. elim (same-or-not d y) [
      | inl q ↦ (let k = length-slice_set ls y (with_run (label_in ls y) rs) in omega (arith, k, q), subst (λ z. IsText (label_in (slice_set ls y (with_run (label_in ls y) rs)) z)) (sym q) (is-text (label_in (slice_set ls y (with_run (label_in ls y) rs)) y) (s ++ rs) here))
      | inr q ↦ elim (get-run fs (length cs) i d e) [
        | inl r ↦ let p = nodes i d r in let b = p.0 in (let k = length-slice_set ls y (with_run (label_in ls y) rs) in omega (arith, k, b), subst IsText (sym (label-set-other ls y d (with_run (label_in ls y) rs) q)) p.1)
        | inr r ↦ absurd (q r)
      ]
    ];
  }
    where
      here : label_in (slice_set ls y (with_run (label_in ls y) rs)) y ≡ node.Text (s ++ rs)
      here = label-set ls y (with_run (label_in ls y) rs) h ∙ ap (λ d. with_run d rs) is

-- to a text that is there
pub texts-run : (ts : List Symbol) (fs : List Fate) (ls : List NodeData) (y : ℕ) (cs : List ℕ) → length fs ≡ length ts → map null_replaced cs ≢ [] → y < length ls → IsText (label_in ls y)
    → AreTexts ts fs ls → AreTexts (ts ++ chars_of cs) (fs ++ replicate (length cs) (Text y)) (slice_set ls y (with_run (label_in ls y) (map null_replaced cs)))
texts-run ts fs ls y cs l some h i m = by (label_in ls y) refl i
  where
    by : (d : NodeData) → label_in ls y ≡ d → IsText d → AreTexts (ts ++ chars_of cs) (fs ++ replicate (length cs) (Text y)) (slice_set ls y (with_run (label_in ls y) (map null_replaced cs)))
    by (node.Text s) e k = texts-added ts fs ls y cs l h some s e (m.texts y s e).1 (λ x text n q. m.texts x text q) m.text_nodes
    by node.Document e k = absurd k
    by (node.Contents a) e k = absurd k
    by (node.Element a) e k = absurd k
    by (node.Comment a b) e k = absurd k
    by (node.Doctype a b p q) e k = absurd k

-- to the next node, a text
pub texts-new : (ts : List Symbol) (fs : List Fate) (ls : List NodeData) (cs : List ℕ) → length fs ≡ length ts → map null_replaced cs ≢ [] → AreTexts ts fs ls
    → AreTexts (ts ++ chars_of cs) (fs ++ replicate (length cs) (Text (length ls))) (slice_set (ls ++ node.Text [] ∷ []) (length ls) (with_run (label_in (ls ++ node.Text [] ∷ []) (length ls)) (map null_replaced cs)))
texts-new ts fs ls cs l some m =
    texts-added ts fs (ls ++ node.Text [] ∷ []) (length ls) cs l (let k = length-append ls (node.Text [] ∷ []) in omega (arith, k)) some [] here
    (sym (text-none (length ls) ts fs (λ i e. let p = m.text_nodes i (length ls) e in let b = p.0 in omega arith)))
    (λ x text n e. elim (order x (length ls)) [
      | inl q ↦ m.texts x text (sym (label-old ls (node.Text [] ∷ []) x q) ∙ e)
      | inr q ↦ absurd (let k = sym (label-past (ls ++ node.Text [] ∷ []) x (let w = length-append ls (node.Text [] ∷ []) in omega (arith, w, q, n))) ∙ e in let z : node.Document ≡ node.Text text = k in cc)
    ])
    (λ i d e. let p = m.text_nodes i d e in let b = p.0 in (let k = length-append ls (node.Text [] ∷ []) in omega (arith, k, b), subst IsText (sym (label-old ls (node.Text [] ∷ []) d p.0)) p.1))
  where
    here : label_in (ls ++ node.Text [] ∷ []) (length ls) ≡ node.Text []
    here = label-new ls (node.Text [] ∷ []) (length ls) (omega arith) ∙ ap (λ j. label_in (node.Text [] ∷ []) j) (let e : length ls - length ls ≡ 0 = omega arith in e)

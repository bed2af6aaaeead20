-- The nodes that tokens made, after more tokens and with more nodes.
use Rattle.std.proofs.Common.{ℕ, zero, suc, ◌-◌, ◌≡◌, ◌<◌, ◌≤◌, ◌⊎◌, true, false, List, [], ◌∷◌, ◌++◌, length, length-append, None, Some, inl, inr, refl, sym, ap, subst, ◌∙◌, arith}
use Rattle.std.proofs.lemmas.Bool.{false≢true}
use Rattle.html_arena.specs.declared.data.NodeData.{NodeData}
use Rattle.html_arena.specs.declared.data.Origin.TheVariants.{Token, Nothing}
use Rattle.html_arena.specs.Data.{is_clone_in, label_in, origin_in}
use Rattle.html_ledger.specs.declared.fate.Fate.{Fate}
use Rattle.html_ledger.specs.Fates.{node_of}
use Rattle.html_construction.specs.Accounts.{AreMade, made_at}
use Rattle.html_construction.proofs.Labels.{label-new, label-old, order}

no-token : {i : ℕ} → Nothing ≡ Token i → ⊥
no-token e = absurd (let q : Nothing ≡ Token _ = e in cc)

token-is : {i j : ℕ} → Token i ≡ Token j → i ≡ j
token-is e = let q : Token _ ≡ Token _ = e in cc

made-is : {d e : ℕ} → Some d ≡ Some e → d ≡ e
made-is e = let q : Some _ ≡ Some _ = e in cc

-- of more fates
pub made-within : (fs : List Fate) (i d : ℕ) → made_at fs i ≡ Some d → i < length fs
made-within [] i d e = absurd (let k = e in cc)
made-within (f ∷ fs) zero d e = omega arith
made-within (f ∷ fs) (suc i) d e = let h = made-within fs i d e in omega (arith, h)

pub made-longer : (fs gs : List Fate) (i d : ℕ) → made_at fs i ≡ Some d → made_at (fs ++ gs) i ≡ Some d
made-longer [] gs i d e = absurd (let k = e in cc)
made-longer (f ∷ fs) gs zero d e = e
made-longer (f ∷ fs) gs (suc i) d e = made-longer fs gs i d e

pub made-last : (fs : List Fate) (f : Fate) (i d : ℕ) → made_at (fs ++ f ∷ []) i ≡ Some d → (made_at fs i ≡ Some d) ⊎ ((i ≡ length fs) × (node_of f ≡ Some d))
made-last [] f zero d e = inr (refl, e)
made-last [] f (suc i) d e = absurd (let k = e in cc)
made-last (g ∷ fs) f zero d e = inl e
made-last (g ∷ fs) f (suc i) d e = elim (made-last fs f i d e) [
  | inl q ↦ inl q
  | inr q ↦ inr (ap suc q.0, q.1)
]

pub made-end : (fs : List Fate) (f : Fate) → made_at (fs ++ f ∷ []) (length fs) ≡ node_of f
made-end [] f = refl
made-end (g ∷ fs) f = made-end fs f

none-some : {d : ℕ} → None ≡ Some d → ⊥
none-some e = absurd (let q : None ≡ Some _ = e in cc)

-- no node comes from a token
pub none-made : (ls : List NodeData) → ((x : ℕ) (i : ℕ) → origin_in (label_in ls x) ≡ Token i → ⊥) → AreMade [] ls
none-made ls h = record {
  made_in = λ i d e. absurd (let k = e in cc);
  made = λ i d e. absurd (let k = e in cc);
  made_first = λ i d e. absurd (let k = e in cc);
  made_once = λ i d x e o c. absurd (let k = e in cc);
  of_made = λ i x o. absurd (h x i o);
}

-- a token with a fate that makes no node
pub made-besides : (fs : List Fate) (f : Fate) (ls : List NodeData) → node_of f ≡ None → AreMade fs ls → AreMade (fs ++ f ∷ []) ls
made-besides fs f ls n m = record {
  made_in = λ i d e. m.made_in i d (back i d e);
  made = λ i d e. m.made i d (back i d e);
  made_first = λ i d e. m.made_first i d (back i d e);
  made_once = λ i d x e o c. m.made_once i d x (back i d e) o c;
  of_made = λ i x o. let p = m.of_made i x o in (p.0, made-longer fs (f ∷ []) i p.0 p.1);
}
  where
    back : (i d : ℕ) → made_at (fs ++ f ∷ []) i ≡ Some d → made_at fs i ≡ Some d
    back i d e = elim (made-last fs f i d e) [
      | inl q ↦ q
      | inr q ↦ absurd (none-some (sym n ∙ q.1))
    ]

-- nodes of which each is as before but for what no token tells
pub made-alike : (fs : List Fate) (ls ks : List NodeData) → length ls ≤ length ks
    → ((x : ℕ) → origin_in (label_in ks x) ≡ origin_in (label_in ls x)) → ((x : ℕ) → is_clone_in (label_in ks x) ≡ is_clone_in (label_in ls x)) → AreMade fs ls → AreMade fs ks
made-alike fs ls ks n o c m = record {
  made_in = λ i d e. let k = m.made_in i d e in omega arith;
  made = λ i d e. o d ∙ m.made i d e;
  made_first = λ i d e. c d ∙ m.made_first i d e;
  made_once = λ i d x e p q. m.made_once i d x e (sym (o x) ∙ p) (sym (c x) ∙ q);
  of_made = λ i x p. m.of_made i x (sym (o x) ∙ p);
}

-- more nodes, of which those that come from a token are clones of what one made
pub made-more : (fs : List Fate) (ls ds : List NodeData)
    → ((y i : ℕ) → origin_in (label_in ds y) ≡ Token i → (is_clone_in (label_in ds y) ≡ true) × ((d : ℕ) × (made_at fs i ≡ Some d)))
    → AreMade fs ls → AreMade fs (ls ++ ds)
made-more fs ls ds new m = record {
  made_in = λ i d e. let k = m.made_in i d e in let l = length-append ls ds in omega (arith, k, l);
  made = λ i d e. ap origin_in (label-old ls ds d (m.made_in i d e)) ∙ m.made i d e;
  made_first = λ i d e. ap is_clone_in (label-old ls ds d (m.made_in i d e)) ∙ m.made_first i d e;
  made_once = λ i d x e o c. elim (order x (length ls)) [
    | inl q ↦ m.made_once i d x e (sym (ap origin_in (label-old ls ds x q)) ∙ o) (sym (ap is_clone_in (label-old ls ds x q)) ∙ c)
    | inr q ↦ absurd (false≢true (sym c ∙ ap is_clone_in (label-new ls ds x q) ∙ (new (x - length ls) i (sym (ap origin_in (label-new ls ds x q)) ∙ o)).0))
  ];
  of_made = λ i x o. elim (order x (length ls)) [
    | inl q ↦ m.of_made i x (sym (ap origin_in (label-old ls ds x q)) ∙ o)
    | inr q ↦ (new (x - length ls) i (sym (ap origin_in (label-new ls ds x q)) ∙ o)).1
  ];
}

-- the next node is made of the next token
pub made-next : (fs : List Fate) (f : Fate) (ls ds : List NodeData) (d : NodeData) → node_of f ≡ Some (length ls) → origin_in d ≡ Token (length fs) → is_clone_in d ≡ false
    → ((y i : ℕ) → origin_in (label_in ds y) ≡ Token i → ⊥) → AreMade fs ls → AreMade (fs ++ f ∷ []) (ls ++ d ∷ ds)
made-next fs f ls ds d w o c none m = record {
  made_in = λ i e q. let l = length-append ls (d ∷ ds) in elim (made-last fs f i e q) [
    | inl p ↦ let k = m.made_in i e p in omega (arith, k, l)
    | inr p ↦ let k : length ls ≡ e = made-is (sym w ∙ p.1) in omega (arith, k, l)
  ];
  made = λ i e q. elim (made-last fs f i e q) [
    | inl p ↦ ap origin_in (label-old ls (d ∷ ds) e (m.made_in i e p)) ∙ m.made i e p
    | inr p ↦ subst (λ x. origin_in (label_in (ls ++ d ∷ ds) x) ≡ Token i) (made-is (sym w ∙ p.1)) (ap origin_in here ∙ o ∙ ap Token (sym p.0))
  ];
  made_first = λ i e q. elim (made-last fs f i e q) [
    | inl p ↦ ap is_clone_in (label-old ls (d ∷ ds) e (m.made_in i e p)) ∙ m.made_first i e p
    | inr p ↦ subst (λ x. is_clone_in (label_in (ls ++ d ∷ ds) x) ≡ false) (made-is (sym w ∙ p.1)) (ap is_clone_in here ∙ c)
  ];
  made_once = λ i e x q g k. elim (made-last fs f i e q) [
    | inl p ↦ elim (where-is x i g) [
      | inl a ↦ m.made_once i e x p (sym (ap origin_in (label-old ls (d ∷ ds) x a)) ∙ g) (sym (ap is_clone_in (label-old ls (d ∷ ds) x a)) ∙ k)
      | inr a ↦ absurd (let b = made-within fs i e p in let f = a.1 in omega (arith, b, f))
    ]
    | inr p ↦ elim (where-is x i g) [
      | inl a ↦ absurd (let r = m.of_made i x (sym (ap origin_in (label-old ls (d ∷ ds) x a)) ∙ g) in let b = made-within fs i r.0 r.1 in let f = p.0 in omega (arith, b, f))
      | inr a ↦ a.0 ∙ made-is (sym w ∙ p.1)
    ]
  ];
  of_made = λ i x g. elim (where-is x i g) [
    | inl a ↦ let r = m.of_made i x (sym (ap origin_in (label-old ls (d ∷ ds) x a)) ∙ g) in (r.0, made-longer fs (f ∷ []) i r.0 r.1)
    | inr a ↦ (length ls, subst (λ j. made_at (fs ++ f ∷ []) j ≡ Some (length ls)) (sym a.1) (made-end fs f ∙ w))
  ];
}
  where
    here : label_in (ls ++ d ∷ ds) (length ls) ≡ d
    here = label-new ls (d ∷ ds) (length ls) (omega arith) ∙ ap (λ j. label_in (d ∷ ds) j) (let e : length ls - length ls ≡ 0 = omega arith in e)

    -- a node of a token is an old one, or the new one, whose token is the next
    where-is : (x i : ℕ) → origin_in (label_in (ls ++ d ∷ ds) x) ≡ Token i → (x < length ls) ⊎ ((x ≡ length ls) × (i ≡ length fs))
    where-is x i g = elim (order x (length ls)) [
      | inl a ↦ inl a
      | inr a ↦ elim (order (length ls) x) [
        | inl b ↦ absurd (none (x - length ls - 1) i (sym (ap origin_in (label-new ls (d ∷ ds) x a ∙ later x b)) ∙ g))
        | inr b ↦ let e : x ≡ length ls = omega arith in inr (e, token-is (sym g ∙ subst (λ y. origin_in (label_in (ls ++ d ∷ ds) y) ≡ Token (length fs)) (sym e) (ap origin_in here ∙ o)))
      ]
    ]
      where
        later : (x : ℕ) → length ls < x → label_in (d ∷ ds) (x - length ls) ≡ label_in ds (x - length ls - 1)
        later x b = by (x - length ls) (omega arith)
          where
            by : (k : ℕ) → 0 < k → label_in (d ∷ ds) k ≡ label_in ds (k - 1)
            by zero h = absurd (omega arith)
            by (suc k) h = ap (λ j. label_in ds j) (let e : k ≡ suc k - 1 = omega arith in e)

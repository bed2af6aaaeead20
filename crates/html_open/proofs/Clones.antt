-- What is made for a round.
use Rattle.std.proofs.Common.{◌≡◌, ℕ, ◌+◌, ◌-◌, ◌<◌, ◌≤◌, List, [], ◌∷◌, ◌++◌, length, get_or, map, take, refl, sym, ◌∙◌, ap, subst, append_assoc, length-append, arith, suc}
use Rattle.std.proofs.lemmas.List.{get_or_append_left, length-map, take_more, append-nil}
use Rattle.html_names.specs.Sets.{is_formatting}
use Rattle.html_arena.specs.declared.data.NodeData.{NodeData}
use Rattle.html_arena.specs.declared.data.NodeData.TheVariants.{Document}
use Rattle.html_arena.specs.Data.{cloned, label_in, tag_in}
use Rattle.html_arena.specs.Tree.{Tree, label_of}
use Rattle.html_open.specs.Adopting.{clones_down}
use Rattle.html_open.specs.Cloning.{AreCloned, AreFormatting}

pub map-append : {X Y : Type 0} (f : X → Y) (xs ys : List X) → map f (xs ++ ys) ≡ map f xs ++ map f ys
map-append f [] ys = refl
map-append f (x ∷ xs) ys = ap (λ zs. f x ∷ zs) (map-append f xs ys)

-- the labels of the other nodes stay
pub cloned-label : (t u : Tree) (xs : List ℕ) → AreCloned t u xs → (x : ℕ) → x < length t.labels → label_of u x ≡ label_of t x
cloned-label t u xs h x b = ap (λ (ls : List NodeData). label_in ls x) h.labels_are ∙ get_or_append_left t.labels (map (λ y. cloned (label_of t y)) xs) Document x b

pub cloned-length : (t u : Tree) (xs : List ℕ) → AreCloned t u xs → length u.labels ≡ length t.labels + length xs
cloned-length t u xs h =
    (let a = ap length h.labels_are in let b = length-append t.labels (map (λ x. cloned (label_of t x)) xs) in let c = length-map xs (λ x. cloned (label_of t x)) in omega (arith, a, b, c))

pub cloned-longer : (t u : Tree) (xs : List ℕ) → AreCloned t u xs → length t.labels ≤ length u.labels
cloned-longer t u xs h = (let a = cloned-length t u xs h in omega (arith, a))

pub cloned-formatting : (t u : Tree) (xs ys : List ℕ) → AreCloned t u xs → AreFormatting t ys → AreFormatting u ys
cloned-formatting t u xs ys h f = λ x e. (
  (let k = (f x e).0 in let l = ap length h.labels_are in let m = length-append t.labels (map (λ y. cloned (label_of t y)) xs) in omega arith),
  ap (λ (d : NodeData). is_formatting (tag_in d)) (cloned-label t u xs h x (f x e).0) ∙ (f x e).1,
)

-- one clone more
pub cloned-more : (t u v : Tree) (xs : List ℕ) (c : ℕ) → c < length t.labels → AreCloned t u xs → AreCloned u v (c ∷ []) → AreCloned t v (xs ++ c ∷ [])
cloned-more t u v xs c b h k = record {
  labels_are =
      k.labels_are ∙ ap (λ (d : NodeData). u.labels ++ cloned d ∷ []) (cloned-label t u xs h c b) ∙ ap (λ (ls : List NodeData). ls ++ cloned (label_of t c) ∷ []) h.labels_are
      ∙ append_assoc t.labels (map (λ y. cloned (label_of t y)) xs) (cloned (label_of t c) ∷ []) ∙ ap (λ (ls : List NodeData). t.labels ++ ls) (sym (map-append (λ y. cloned (label_of t y)) xs (c ∷ [])));
  same_marks = λ m x. k.same_marks m x ∙ h.same_marks m x;
  same_parents = λ x. k.same_parents x ∙ h.same_parents x;
  same_children = λ x. k.same_children x ∙ h.same_children x;
  limits_are = k.limits_are ∙ h.limits_are;
}

pub cloned-step : (t u v : Tree) (xs : List ℕ) (i c : ℕ) → i < length xs → c ≡ get_or xs i c → c < length t.labels → AreCloned t u (take i xs) → AreCloned u v (c ∷ []) → AreCloned t v (take (i + 1) xs)
cloned-step t u v xs i c l e b h k = subst (AreCloned t v) (ap (λ y. take i xs ++ y ∷ []) e ∙ sym (take_more xs i c l)) (cloned-more t u v (take i xs) c b h k)

-- one clone more is pushed
pub down-step : (n m : ℕ) → n < m → clones_down n (m - n) ≡ (m - 1) ∷ clones_down n ((m - 1) - n)
down-step n m h =
    let e : m - n ≡ suc ((m - 1) - n) = omega arith in
    let f : n + ((m - 1) - n) ≡ m - 1 = omega arith in
    ap (clones_down n) e ∙ ap (λ x. x ∷ clones_down n ((m - 1) - n)) f

pub clone-pushed : (old new all : List ℕ) (n m c : ℕ) → n < m → new ≡ old ++ c ∷ [] → c ≡ m - 1 → old ++ clones_down n (m - n) ≡ all → new ++ clones_down n ((m - 1) - n) ≡ all
clone-pushed old new all n m c l e f h =
    ap (λ v. v ++ clones_down n ((m - 1) - n)) (e ∙ ap (λ v. old ++ v ∷ []) f) ∙ append_assoc old ((m - 1) ∷ []) (clones_down n ((m - 1) - n)) ∙ ap (λ v. old ++ v) (sym (down-step n m l)) ∙ h

pub clones-done : (stack : List ℕ) (n m : ℕ) → m ≤ n → stack ++ clones_down n (m - n) ≡ stack
clones-done stack n m h = (let e : m - n ≡ 0 = omega arith in ap (λ v. stack ++ clones_down n v) e ∙ append-nil stack)

-- the new stack, as it was put together
pub restacked-is : (s1 s2 s3 s4 front down : List ℕ) (g k : ℕ) (rest : List ℕ) → s1 ≡ front ++ down → s2 ≡ s1 ++ g ∷ [] → s3 ≡ s2 ++ k ∷ [] → s4 ≡ s3 ++ rest → s4 ≡ front ++ (down ++ (g ∷ k ∷ rest))
restacked-is s1 s2 s3 s4 front down g k rest a b c d =
    d ∙ ap (λ v. v ++ rest) (c ∙ ap (λ v. v ++ k ∷ []) (b ∙ ap (λ v. v ++ g ∷ []) a))
    ∙ append_assoc ((front ++ down) ++ g ∷ []) (k ∷ []) rest ∙ append_assoc (front ++ down) (g ∷ []) (k ∷ rest) ∙ append_assoc front down (g ∷ k ∷ rest)

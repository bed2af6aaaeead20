-- A new node has no children.
use Rattle.std.proofs.Common.{◌≡◌, ◌≢◌, ℕ, ◌<◌, Bool, true, false, List, [], ◌∷◌, ◌++◌, length, get_or, set, Option, Some, None, refl, sym, ◌∙◌, ap, subst, arith, length-append}
use Rattle.std.proofs.lemmas.List.{get_or-set_other, get_or_append_left, length-set}
use Rattle.std.proofs.Math.Seq.{get_or-append_seam}
use Rattle.html_arena.specs.declared.data.NewNode.{NewNode}
use Rattle.html_arena.specs.Data.{label_in}
use Rattle.html_arena.specs.declared.marks.Mark.TheVariants.{OnStack}
use Rattle.html_arena.specs.Make.{has_contents, label_for, made}
use Rattle.html_arena.specs.Siblings.{put_before}
use Rattle.html_arena.specs.Tree.{Tree, WellFormed, inserted, parent_of, with_marked}
use Rattle.html_open.specs.declared.places.Place.{Place}
use Rattle.html_open.specs.declared.places.Place.TheVariants.{Before, Last}
use Rattle.html_open.specs.Marking.{bare, charged}
use Rattle.html_open.specs.Placing.{IsPlace, put}
use Rattle.html_tree.specs.Inserting.{IsBlank, IsNew}
use Rattle.html_tree.proofs.Inserted.{bare-new}

-- the lists of children, and the parents, of a tree with a new node
more-lists : (t : Tree) (d : NewNode) → (rest : List (List ℕ)) × ((made t d).children ≡ t.children ++ [] ∷ rest)
more-lists t d = by (has_contents d) refl
  where
    by : (b : Bool) → has_contents d ≡ b → (rest : List (List ℕ)) × ((made t d).children ≡ t.children ++ [] ∷ rest)
    by true h = ([] ∷ [], rw h refl)
    by false h = ([], rw h refl)

more-parents : (t : Tree) (d : NewNode) → (rest : List (Option ℕ)) × ((made t d).parents ≡ t.parents ++ rest)
more-parents t d = by (has_contents d) refl
  where
    by : (b : Bool) → has_contents d ≡ b → (rest : List (Option ℕ)) × ((made t d).parents ≡ t.parents ++ rest)
    by true h = (None ∷ None ∷ [], rw h refl)
    by false h = (None ∷ [], rw h refl)

-- where another list of children changed
other-list : (cs ds : List (List ℕ)) (n p : ℕ) (xs : List ℕ) → length cs ≡ n → n ≢ p → get_or (set (cs ++ [] ∷ ds) p xs) n [] ≡ []
other-list cs ds n p xs e o =
    get_or-set_other (cs ++ [] ∷ ds) p n xs [] o ∙ subst (λ k. get_or (cs ++ [] ∷ ds) k [] ≡ []) e (get_or-append_seam cs [] ds [])

put-blank : (t : Tree) (at : Place) (d : NewNode) → WellFormed t → IsPlace t at → get_or (put (made t d) at (length t.labels)).children (length t.labels) [] ≡ []
put-blank t (Last q) d w i =
    let m = more-lists t d in
    subst (λ cs. get_or (set cs q (get_or cs q [] ++ length t.labels ∷ [])) (length t.labels) [] ≡ []) (sym m.1)
    (other-list t.children m.0 (length t.labels) q (get_or (t.children ++ [] ∷ m.0) q [] ++ length t.labels ∷ []) w.as_many_lists (λ e. let k = i in absurd (omega (arith, e, k))))
put-blank t (Before b) d w i = by (parent_of (made t d) b) refl
  where
    above : parent_of (made t d) b ≡ parent_of t b
    above = let p = more-parents t d in let k = i.0 in let l = w.as_many_parents in
        ap (λ ps. get_or ps b None) p.1 ∙ get_or_append_left t.parents p.0 None b (omega (arith, k, l))

    by : (o : Option ℕ) → parent_of (made t d) b ≡ o → get_or (inserted (made t d) (length t.labels) b o).children (length t.labels) [] ≡ []
    by None e = absurd (i.1 (sym above ∙ e))
    by (Some p) e =
        let m = more-lists t d in
        let k : p < length t.labels = w.parent_in p b (sym above ∙ e) in
        subst (λ cs. get_or (set cs p (put_before (length t.labels) b (get_or cs p []))) (length t.labels) [] ≡ []) (sym m.1)
        (other-list t.children m.0 (length t.labels) p (put_before (length t.labels) b (get_or (t.children ++ [] ∷ m.0) p [])) w.as_many_lists (λ f. absurd (omega (arith, f, k))))

put-listed : (t : Tree) (at : Place) (d : NewNode) → WellFormed t → length t.labels < length (put (made t d) at (length t.labels)).children
put-listed t at d w = by at
  where
    more : length t.labels < length (made t d).children
    more = let m = more-lists t d in let k = w.as_many_lists in let e : length (made t d).children ≡ length (t.children ++ [] ∷ m.0) = ap length m.1 in let l = length-append t.children ([] ∷ m.0) in omega (arith, e, l, k)

    of : (b : ℕ) (o : Option ℕ) → length t.labels < length (inserted (made t d) (length t.labels) b o).children
    of b None = more
    of b (Some p) = let e = length-set (made t d).children p (put_before (length t.labels) b (get_or (made t d).children p [])) in let k = more in omega (arith, e, k)

    by : (at : Place) → length t.labels < length (put (made t d) at (length t.labels)).children
    by (Last q) = let e = length-set (made t d).children q (get_or (made t d).children q [] ++ length t.labels ∷ []) in let k = more in omega (arith, e, k)
    by (Before b) = of b (parent_of (made t d) b)

pub blank-new : (t u : Tree) (at : Place) (d : NewNode) (k : ℕ) → IsNew t u at d k → IsBlank (label_for t d) (length t.labels) u
blank-new t u at d k e =
    let c : u.children ≡ (put (made t d) at (length t.labels)).children = ap (λ (v : Tree). v.children) (e.tree_is ∙ sym (bare-new t at d)) in
    record {
      label_is = e.laws.label_is;
      childless = ap (λ cs. get_or cs (length t.labels) []) c ∙ put-blank t at d e.well_formed e.place_in;
      listed = subst (λ (cs : List (List ℕ)). length t.labels < length cs) (sym c) (put-listed t at d e.well_formed);
    }

-- and none when it is opened
pub blank-opened : (t u v : Tree) (at : Place) (d : NewNode) (k x : ℕ) → IsNew t u at d k → v ≡ charged (with_marked u OnStack x true) 1 → IsBlank (label_for t d) (length t.labels) (bare v)
blank-opened t u v at d k x e q =
    let b = blank-new t u at d k e in
    record {
      label_is = ap (λ (w : Tree). label_in w.labels (length t.labels)) q ∙ b.label_is;
      childless = ap (λ (w : Tree). get_or w.children (length t.labels) []) q ∙ b.childless;
      listed = subst (λ (cs : List (List ℕ)). length t.labels < length cs) (sym (ap (λ (w : Tree). w.children) q)) b.listed;
    }

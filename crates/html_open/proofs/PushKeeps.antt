-- A push onto the list keeps what is true between calls.
use Rattle.std.proofs.Common.{◌≡◌, ℕ, zero, suc, ◌<◌, true, false, eqb, List, [], ◌∷◌, ◌++◌, length, take, drop, get_or, Option, Some, None, inl, inr, refl, sym, ◌∙◌, ap, subst, arith}
use Rattle.std.proofs.lemmas.List.{length-set}
use Rattle.std.specs.Prelude.{remove}
use Rattle.html_names.specs.Sets.{is_formatting}
use Rattle.html_arena.specs.declared.marks.Mark.TheVariants.{InList}
use Rattle.html_arena.specs.Marks.{with_mark}
use Rattle.html_arena.specs.Siblings.{has}
use Rattle.html_arena.specs.Tree.{Tree, marks_of, tag_at, with_marked}
use Rattle.html_open.specs.declared.entry.Entry.{Entry}
use Rattle.html_open.specs.declared.entry.Entry.TheVariants.{Marker, Node}
use Rattle.html_open.specs.Entries.{IsDisplaced, node_at, node_in, nodes_of, pushed, without_index}
use Rattle.html_open.specs.Lists.{IsBelow}
use Rattle.html_open.specs.Marking.{charged, unmarked}
use Rattle.html_open.specs.Opened.{AreNodes, CanList, IsOpen, open_at}
use Rattle.html_open.proofs.Keeps.{CanAdd, cases_bool, core, core_by, core-drop_list, has-less, moved_list, nodes-append, open-charged, push_list-keeps, whole_by}

remove-append : (xs ys : List Entry) (i : ℕ) → i < length xs → remove (xs ++ ys) i ≡ remove xs i ++ ys
remove-append [] ys i l = absurd (omega arith)
remove-append (x ∷ xs) ys zero l = refl
remove-append (x ∷ xs) ys (suc i) l = ap (λ v. x ∷ v) (remove-append xs ys i (omega arith))

get-append : (xs ys : List Entry) (i : ℕ) (d : Entry) → i < length xs → get_or (xs ++ ys) i d ≡ get_or xs i d
get-append [] ys i d l = absurd (omega arith)
get-append (x ∷ xs) ys zero d l = refl
get-append (x ∷ xs) ys (suc i) d l = get-append xs ys i d (omega arith)

without-append : (xs ys : List Entry) (o : Option ℕ) → IsBelow (length xs) o → without_index (xs ++ ys) o ≡ without_index xs o ++ ys
without-append xs ys None l = refl
without-append xs ys (Some i) l = remove-append xs ys i l

node-append : (xs ys : List Entry) (o : Option ℕ) → IsBelow (length xs) o → node_at (xs ++ ys) o ≡ node_at xs o
node-append xs ys None l = refl
node-append xs ys (Some i) l = ap (λ e. node_in (Some e)) (get-append xs ys i Marker l)

pub pushed-is : (t : Tree) (x : ℕ) (xs items new : List Entry) (o : Option ℕ) → IsDisplaced t x xs o → items ≡ xs ++ Node x ∷ [] → new ≡ without_index items o → new ≡ pushed t x xs
pushed-is t x xs items new o d e f = f ∙ ap (λ v. without_index v o) e ∙ without-append xs (Node x ∷ []) o d.within ∙ ap (λ v. v ++ Node x ∷ []) d.list_is

pub pushed-nodes : (t : Tree) (x : ℕ) (xs items : List Entry) → AreNodes t (nodes_of xs) → x < length t.labels → items ≡ xs ++ Node x ∷ [] → AreNodes t (nodes_of items)
pushed-nodes t x xs items n l e = λ y h. elim (has-less y x (nodes_of xs) [] (subst (λ v. has y v ≡ true) (ap nodes_of e ∙ nodes-append xs (Node x ∷ [])) h)) [
  | inl q ↦ (let k : y ≡ x = q in omega arith)
  | inr q ↦ n y (subst (λ v. has y v ≡ true) (nil (nodes_of xs)) q)
]
  where
    nil : (v : List ℕ) → v ++ [] ≡ v
    nil [] = refl
    nil (a ∷ v) = ap (λ w. a ∷ w) (nil v)

split-entry : (xs : List Entry) (i : ℕ) (d : Entry) → i < length xs → xs ≡ take i xs ++ get_or xs i d ∷ drop (suc i) xs
split-entry [] i d l = absurd (omega arith)
split-entry (x ∷ xs) zero d l = refl
split-entry (x ∷ xs) (suc i) d l = ap (λ v. x ∷ v) (split-entry xs i d (omega arith))

out-keeps : (s : List ℕ) (xs : List Entry) (t : Tree) (o : Option ℕ) → length t.marks ≡ length t.labels → IsBelow (length xs) o → IsOpen (open_at s xs t)
    → IsOpen (open_at s (without_index xs o) (unmarked t InList (node_at xs o)))
out-keeps s xs t None many l k = k
out-keeps s xs t (Some i) many l k = by (get_or xs i Marker) (split-entry xs i Marker l)
  where
    by : (e : Entry) → xs ≡ take i xs ++ e ∷ drop (suc i) xs → IsOpen (open_at s (remove xs i) (unmarked t InList (node_in (Some e))))
    by Marker e = whole_by s (nodes_of xs) (remove xs i) t (nodes-append (take i xs) (drop (suc i) xs) ∙ sym (nodes-append (take i xs) (Marker ∷ drop (suc i) xs)) ∙ ap nodes_of (sym e)) (core (open_at s xs t) k)
    by (Node y) e =
        whole_by s (nodes_of (take i xs) ++ nodes_of (drop (suc i) xs)) (remove xs i) (with_marked t InList y false) (nodes-append (take i xs) (drop (suc i) xs))
        (core-drop_list s (nodes_of (take i xs)) (nodes_of (drop (suc i) xs)) y t many
        (core_by s (nodes_of (take i xs) ++ y ∷ nodes_of (drop (suc i) xs)) xs t (ap nodes_of e ∙ nodes-append (take i xs) (Node y ∷ drop (suc i) xs)) k))

fewer : (y : ℕ) (xs : List Entry) (i : ℕ) → has y (nodes_of (remove xs i)) ≡ true → has y (nodes_of xs) ≡ true
fewer y [] zero h = h
fewer y [] (suc i) h = h
fewer y (Marker ∷ xs) zero h = h
fewer y (Node x ∷ xs) zero h = elim (cases_bool (eqb y x)) [ inl q ↦ rw q refl | inr q ↦ rw q h ]
fewer y (Marker ∷ xs) (suc i) h = fewer y xs i h
fewer y (Node x ∷ xs) (suc i) h = elim (cases_bool (eqb y x)) [ inl q ↦ rw q refl | inr q ↦ rw q (fewer y xs i (rw q at h)) ]

fewer-without : (y : ℕ) (xs : List Entry) (o : Option ℕ) → has y (nodes_of (without_index xs o)) ≡ true → has y (nodes_of xs) ≡ true
fewer-without y xs None h = h
fewer-without y xs (Some i) h = fewer y xs i h

unmarked-add : (l s : List ℕ) (t : Tree) (x : ℕ) (o : Option ℕ) → CanAdd l s t x → CanAdd l s (unmarked t InList o) x
unmarked-add l s t x None p = p
unmarked-add l s t x (Some y) p = record { node_in = p.node_in; absent = p.absent; origin_new = p.origin_new; shared = p.shared }

unmarked-formatting : (t : Tree) (x : ℕ) (o : Option ℕ) → is_formatting (tag_at t x) ≡ true → is_formatting (tag_at (unmarked t InList o) x) ≡ true
unmarked-formatting t x None p = p
unmarked-formatting t x (Some y) p = p

unmarked-many : (t : Tree) (o : Option ℕ) → length t.marks ≡ length t.labels → length (unmarked t InList o).marks ≡ length (unmarked t InList o).labels
unmarked-many t None e = e
unmarked-many t (Some x) e = length-set t.marks x (with_mark InList false (marks_of t x)) ∙ e

absent-without : (x : ℕ) (xs : List Entry) (o : Option ℕ) → has x (nodes_of xs) ≡ false → has x (nodes_of (without_index xs o)) ≡ false
absent-without x xs o h = elim (cases_bool (has x (nodes_of (without_index xs o)))) [
  | inl e ↦ absurd (let k = fewer-without x xs o e in cc)
  | inr e ↦ e
]

pub pushed-keeps : (s : List ℕ) (x : ℕ) (xs items new : List Entry) (t t1 t2 t3 t4 : Tree) (o : Option ℕ) (a b : ℕ) → length t.marks ≡ length t.labels
    → IsDisplaced t x xs o → items ≡ xs ++ Node x ∷ [] → new ≡ without_index items o → t1 ≡ unmarked t InList (node_at items o)
    → t2 ≡ with_marked t1 InList x true → t3 ≡ charged t2 a → t4 ≡ charged t3 b → IsOpen (open_at s xs t) → CanList (open_at s xs t) x → IsOpen (open_at s new t4)
pushed-keeps s x xs items new t t1 t2 t3 t4 o a b many d e f g h i j k p =
    let u = unmarked t InList (node_at xs o) in
    let q : t1 ≡ u = g ∙ ap (λ v. unmarked t InList (node_at v o)) e ∙ ap (unmarked t InList) (node-append xs (Node x ∷ []) o d.within) in
    let r : t3 ≡ charged (with_marked u InList x true) a = i ∙ ap (λ (v : Tree). charged v a) (h ∙ ap (λ (v : Tree). with_marked v InList x true) q) in
    let n : new ≡ without_index xs o ++ Node x ∷ [] = f ∙ ap (λ v. without_index v o) e ∙ without-append xs (Node x ∷ []) o d.within in
    moved_list s new new (charged t3 b) t4 refl j
    (open-charged s new t3 b
    (push_list-keeps s (without_index xs o) new u t3 x a (unmarked-many t (node_at xs o) many) n r (out-keeps s xs t o many d.within k)
    (unmarked-add (nodes_of (without_index xs o)) s t x (node_at xs o) (record {
      node_in = p.node_in;
      absent = absent-without x xs o p.absent;
      origin_new = λ w y c. p.origin_new w y (fewer-without y xs o c);
      shared = λ w y c m v. sym (p.shared w y c m v);
    }))
    (unmarked-formatting t x (node_at xs o) p.formatting)))

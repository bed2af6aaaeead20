-- What the calls on a tree add, and what they leave as it was.
use Rattle.std.proofs.Common.{◌≡◌, ◌≢◌, ◌<◌, ◌⊎◌, ℕ, zero, suc, ◌+◌, Bool, true, false, cond, eqb, List, [], ◌∷◌, ◌++◌, get_or, length, length-append, append-nil, Option, Some, None, inl, inr, is_some, refl, sym, ◌∙◌, ap, subst, arith}
use Rattle.std.proofs.lemmas.Bool.{false≢true}
use Rattle.std.proofs.lemmas.List.{length-set}
use Rattle.html_names.specs.Names.{tag_of}
use Rattle.html_names.specs.Sets.{is_special, is_template}
use Rattle.html_arena.specs.declared.data.NewNode.{NewNode}
use Rattle.html_arena.specs.declared.data.NewNode.TheVariants as new
use Rattle.html_arena.specs.declared.data.NodeData.{NodeData}
use Rattle.html_arena.specs.declared.data.NodeData.TheVariants as node
use Rattle.html_arena.specs.declared.data.Origin.{Origin}
use Rattle.html_tokens.specs.declared.attributes.Attr.{Attr}
use Rattle.html_arena.specs.Data.{cloned, contents_in, host_in, tag_in}
use Rattle.html_arena.specs.Make.{has_contents, label_for, made, made_weight, plain_element, template_element}
use Rattle.html_arena.specs.Siblings.{Distinct, has, put_before, without}
use Rattle.html_arena.specs.Tree.{Tree as Nodes, added, added_template, appended, children_of, contents_at, detached, host_at, inserted, label_of, parent_of, tag_at}
use Rattle.html_arena.proofs.Laws.{get_or-set}
use Rattle.html_arena.proofs.Made.{get_or-default_push}
use Rattle.html_arena.proofs.Siblings.{Distinct-remove, cases_eqb, eqb-self, put_before-split, split_at, without-split}
use Rattle.html_open.specs.declared.places.Place.{Place}
use Rattle.html_open.specs.declared.places.Place.TheVariants.{Before, Last}
use Rattle.html_open.specs.Placing.{get, parent_at, put}
use Rattle.html_laws.specs.Contents.{IsOver, above as upon, itself}
use Rattle.html_laws.proofs.Hosts.{AreBased, IsLaid, IsTied}
use Rattle.html_laws.proofs.Laying.{IsAdded, insert-other, parent-in}

-- THE SAME LINKS

-- the links are the same, and so is what the nodes are, as far as templates go
pub record IsAlikeIn (t u : Nodes) : Type 0 where
  pub as_many : length u.labels ≡ length t.labels
  pub parents_are : u.parents ≡ t.parents
  pub children_are : u.children ≡ t.children
  pub contents_are : (x : ℕ) → contents_at u x ≡ contents_at t x
  pub hosts_are : (x : ℕ) → host_at u x ≡ host_at t x
  pub tags_are : (x : ℕ) → tag_at u x ≡ tag_at t x

module _ (t u : Nodes) (a : IsAlikeIn t u) where
  alike-parent : (x : ℕ) → parent_of u x ≡ parent_of t x
  alike-parent x = ap (λ v. get_or v x None) a.parents_are

  alike-children : (x : ℕ) → children_of u x ≡ children_of t x
  alike-children x = ap (λ v. get_or v x []) a.children_are

  pub alike-over : (r x : ℕ) → IsOver t r x → IsOver u r x
  alike-over r _ itself = itself
  alike-over r _ (upon x p e o) = upon x p (alike-parent x ∙ e) (alike-over r p o)

  over-alike : (r x : ℕ) → IsOver u r x → IsOver t r x
  over-alike r _ itself = itself
  over-alike r _ (upon x p e o) = upon x p (sym (alike-parent x) ∙ e) (over-alike r p o)

  below : (x : ℕ) → x < length t.labels → x < length u.labels
  below x h = (let e = a.as_many in omega (arith, e, h))

  pub alike-laid : IsLaid t → IsLaid u
  alike-laid l = record {
    some = below 0 l.some;
    as_many_parents = ap length a.parents_are ∙ l.as_many_parents ∙ sym a.as_many;
    as_many_lists = ap length a.children_are ∙ l.as_many_lists ∙ sym a.as_many;
    parent_in = λ x p e. below p (l.parent_in x p (sym (alike-parent x) ∙ e));
    child_has_parent = λ p x h. alike-parent x ∙ l.child_has_parent p x (sym (ap (has x) (alike-children p)) ∙ h);
    parent_has_child = λ p x e. ap (has x) (alike-children p) ∙ l.parent_has_child p x (sym (alike-parent x) ∙ e);
    once = λ p. subst Distinct (sym (alike-children p)) (l.once p);
    hosts = λ x. ap is_some (a.contents_are x) ∙ l.hosts x ∙ sym (ap is_template (a.tags_are x));
    contents_is = λ x c e. (let k = l.contents_is x c (sym (a.contents_are x) ∙ e) in (below c k.0, a.hosts_are c ∙ k.1));
    younger = λ c h e. l.younger c h (sym (a.hosts_are c) ∙ e);
    alone = λ c h e. alike-parent c ∙ l.alone c h (sym (a.hosts_are c) ∙ e);
    root_alone = alike-parent 0 ∙ l.root_alone;
    root_host = a.hosts_are 0 ∙ l.root_host;
    root_tag = λ h. a.tags_are 0 ∙ l.root_tag (sym (ap is_special (a.tags_are 0)) ∙ h);
    no_older = λ c h x e o. l.no_older c h x (sym (a.hosts_are c) ∙ e) (over-alike c x o);
  }

  alike-based : (r : ℕ) (s : List ℕ) → AreBased t r s → AreBased u r s
  alike-based r [] k = tt
  alike-based r (x ∷ s) k = (λ e. alike-over r x (k.0 (sym (a.contents_are x) ∙ e)), subst (λ o. AreBased u (get o r) s) (sym (a.contents_are x)) (alike-based (get (contents_at t x) r) s k.1))

  pub alike-tied : (s : List ℕ) → IsTied t s → IsTied u s
  alike-tied s k = record {
    laid = alike-laid k.laid;
    inside = λ x h. below x (k.inside x h);
    once = k.once;
    first = λ x h. a.tags_are x ∙ k.first x h;
    rooted = λ x h. elim (k.rooted x h) [ inl e ↦ inl e | inr e ↦ inr (alike-parent x ∙ e) ];
    based = alike-based 0 s k.based;
  }

-- A NEW NODE

both-pushed : {X : Type 0} (xs : List X) (d : X) (i : ℕ) → get_or (xs ++ d ∷ d ∷ []) i d ≡ get_or xs i d
both-pushed [] d zero = refl
both-pushed [] d (suc zero) = refl
both-pushed [] d (suc (suc i)) = refl
both-pushed (x ∷ xs) d zero = refl
both-pushed (x ∷ xs) d (suc i) = both-pushed xs d i

module _ (t : Nodes) (d : NodeData) (h : ℕ) where
  abbrev made-by : Bool → Nodes
  made-by b = cond b (added_template t d h) (added t d h)

  by-labels : (b : Bool) → (made-by b).labels ≡ t.labels ++ d ∷ cond b (node.Contents (length t.labels) ∷ []) []
  by-labels true = refl
  by-labels false = refl

  by-parent : (b : Bool) (x : ℕ) → parent_of (made-by b) x ≡ parent_of t x
  by-parent true x = both-pushed t.parents None x
  by-parent false x = get_or-default_push t.parents None x

  by-children : (b : Bool) (x : ℕ) → children_of (made-by b) x ≡ children_of t x
  by-children true x = both-pushed t.children [] x
  by-children false x = get_or-default_push t.children [] x

  by-parents : (b : Bool) → length t.parents ≡ length t.labels → length (made-by b).parents ≡ length (made-by b).labels
  by-parents true e = (let f = length-append t.parents (None ∷ None ∷ []) in let g = length-append t.labels (d ∷ node.Contents (length t.labels) ∷ []) in omega (arith, e, f, g))
  by-parents false e = (let f = length-append t.parents (None ∷ []) in let g = length-append t.labels (d ∷ []) in omega (arith, e, f, g))

  by-lists : (b : Bool) → length t.children ≡ length t.labels → length (made-by b).children ≡ length (made-by b).labels
  by-lists true e = (let f = length-append t.children ([] ∷ [] ∷ []) in let g = length-append t.labels (d ∷ node.Contents (length t.labels) ∷ []) in omega (arith, e, f, g))
  by-lists false e = (let f = length-append t.children ([] ∷ []) in let g = length-append t.labels (d ∷ []) in omega (arith, e, f, g))

  by-longer : (b : Bool) → length t.labels < length (made-by b).labels
  by-longer true = (let g = length-append t.labels (d ∷ node.Contents (length t.labels) ∷ []) in omega (arith, g))
  by-longer false = (let g = length-append t.labels (d ∷ []) in omega (arith, g))

-- it is no contents, and a template where it is one
pub record IsFresh (t : Nodes) (d : NewNode) : Type 0 where
  pub host_none : host_in (label_for t d) ≡ None
  pub contents_are : contents_in (label_for t d) ≡ cond (has_contents d) (Some (length t.labels + 1)) None
  pub template_is : is_template (tag_in (label_for t d)) ≡ has_contents d

pub element-fresh : (t : Nodes) (n : List ℕ) (a : List Attr) (o : Origin) → IsFresh t (new.Element n a o)
element-fresh t n a o = by (is_template (tag_of n)) refl
  where
    label : Bool → NodeData
    label b = cond b (template_element (length t.labels) n (tag_of n) a o) (plain_element n (tag_of n) a o)

    by : (b : Bool) → is_template (tag_of n) ≡ b → IsFresh t (new.Element n a o)
    by true e = record { host_none = ap (λ b. host_in (label b)) e; contents_are = ap (λ b. contents_in (label b)) e ∙ sym (ap (λ b. cond b (Some (length t.labels + 1)) None) e); template_is = ap (λ b. is_template (tag_in (label b))) e }
    by false e = record { host_none = ap (λ b. host_in (label b)) e; contents_are = ap (λ b. contents_in (label b)) e ∙ sym (ap (λ b. cond b (Some (length t.labels + 1)) None) e); template_is = ap (λ b. is_template (tag_in (label b))) e }

clone-host : (d : NodeData) → host_in d ≡ None → host_in (cloned d) ≡ None
clone-host (node.Element e) h = refl
clone-host node.Document h = refl
clone-host (node.Contents k) h = h
clone-host (node.Text s) h = refl
clone-host (node.Comment s i) h = refl
clone-host (node.Doctype n p s i) h = refl

clone-contents : (d : NodeData) → contents_in (cloned d) ≡ None
clone-contents (node.Element e) = refl
clone-contents node.Document = refl
clone-contents (node.Contents k) = refl
clone-contents (node.Text s) = refl
clone-contents (node.Comment s i) = refl
clone-contents (node.Doctype n p s i) = refl

clone-tag : (d : NodeData) → tag_in (cloned d) ≡ tag_in d
clone-tag (node.Element e) = refl
clone-tag node.Document = refl
clone-tag (node.Contents k) = refl
clone-tag (node.Text s) = refl
clone-tag (node.Comment s i) = refl
clone-tag (node.Doctype n p s i) = refl

-- of a node that is no template and no contents
pub clone-fresh : (t : Nodes) (x : ℕ) → host_at t x ≡ None → is_template (tag_at t x) ≡ false → IsFresh t (new.CloneOf x)
clone-fresh t x h k = record { host_none = clone-host (label_of t x) h; contents_are = clone-contents (label_of t x); template_is = ap is_template (clone-tag (label_of t x)) ∙ k }

pub text-fresh : (t : Nodes) → IsFresh t new.Text
text-fresh t = record { host_none = refl; contents_are = refl; template_is = refl }

pub comment-fresh : (t : Nodes) (s : List ℕ) (i : ℕ) → IsFresh t (new.Comment s i)
comment-fresh t s i = record { host_none = refl; contents_are = refl; template_is = refl }

pub doctype-fresh : (t : Nodes) (n p s : Option (List ℕ)) (i : ℕ) → IsFresh t (new.Doctype n p s i)
doctype-fresh t n p s i = record { host_none = refl; contents_are = refl; template_is = refl }

module _ (t : Nodes) (d : NewNode) (l : IsLaid t) (f : IsFresh t d) where
  abbrev m : Nodes
  m = made t d

  abbrev b : Bool
  b = has_contents d

  abbrev n : ℕ
  n = length t.labels

  put-last : (q : ℕ) → q < n → IsAdded t (appended m q n) q (label_for t d) b
  put-last q k = record {
    labels_are = by-labels t (label_for t d) (made_weight t d) b;
    host_none = f.host_none;
    contents_are = f.contents_are;
    template_is = f.template_is;
    as_many_parents = length-set m.parents n (Some q) ∙ by-parents t (label_for t d) (made_weight t d) b l.as_many_parents;
    as_many_lists = length-set m.children q (children_of m q ++ n ∷ []) ∙ by-lists t (label_for t d) (made_weight t d) b l.as_many_lists;
    parents_are = λ x. get_or-set m.parents n x (Some q) None in_parents ∙ ap (cond (eqb x n) (Some q)) (by-parent t (label_for t d) (made_weight t d) b x);
    front = children_of t q;
    back = [];
    children_were = sym (append-nil (children_of t q));
    children_are = λ p. get_or-set m.children q p (children_of m q ++ n ∷ []) [] in_lists
        ∙ ap (λ v. cond (eqb p q) (v ++ n ∷ []) (children_of m p)) (by-children t (label_for t d) (made_weight t d) b q)
        ∙ ap (cond (eqb p q) (children_of t q ++ n ∷ [])) (by-children t (label_for t d) (made_weight t d) b p);
  }
    where
      in_parents : n < length m.parents
      in_parents = (let e = by-parents t (label_for t d) (made_weight t d) b l.as_many_parents in let g = by-longer t (label_for t d) (made_weight t d) b in omega (arith, e, g))

      in_lists : q < length m.children
      in_lists = (let e = by-lists t (label_for t d) (made_weight t d) b l.as_many_lists in let g = by-longer t (label_for t d) (made_weight t d) b in omega (arith, e, g, k))

  put-between : (q c : ℕ) → q < n → parent_of t c ≡ Some q → IsAdded t (inserted m n c (Some q)) q (label_for t d) b
  put-between q c k e =
      let s = split_at c (children_of t q) (l.parent_has_child q c e) in
      let g : put_before n c (children_of m q) ≡ s.0 ++ n ∷ c ∷ s.1 = ap (put_before n c) (by-children t (label_for t d) (made_weight t d) b q ∙ s.2) ∙ put_before-split n c s.0 s.1 s.3 in
      record {
        labels_are = by-labels t (label_for t d) (made_weight t d) b;
        host_none = f.host_none;
        contents_are = f.contents_are;
        template_is = f.template_is;
        as_many_parents = length-set m.parents n (Some q) ∙ by-parents t (label_for t d) (made_weight t d) b l.as_many_parents;
        as_many_lists = length-set m.children q (put_before n c (children_of m q)) ∙ by-lists t (label_for t d) (made_weight t d) b l.as_many_lists;
        parents_are = λ x. get_or-set m.parents n x (Some q) None in_parents ∙ ap (cond (eqb x n) (Some q)) (by-parent t (label_for t d) (made_weight t d) b x);
        front = s.0;
        back = c ∷ s.1;
        children_were = s.2;
        children_are = λ p. get_or-set m.children q p (put_before n c (children_of m q)) [] in_lists
            ∙ ap (λ v. cond (eqb p q) v (children_of m p)) g
            ∙ ap (cond (eqb p q) (s.0 ++ n ∷ c ∷ s.1)) (by-children t (label_for t d) (made_weight t d) b p);
      }
    where
      in_parents : n < length m.parents
      in_parents = (let e = by-parents t (label_for t d) (made_weight t d) b l.as_many_parents in let g = by-longer t (label_for t d) (made_weight t d) b in omega (arith, e, g))

      in_lists : q < length m.children
      in_lists = (let e = by-lists t (label_for t d) (made_weight t d) b l.as_many_lists in let g = by-longer t (label_for t d) (made_weight t d) b in omega (arith, e, g, k))

  pub put-added : (at : Place) (q : ℕ) → parent_at t at ≡ Some q → q < n → IsAdded t (put m at n) q (label_for t d) b
  put-added (Last p) q e k = (let g : q ≡ p = (let w = e in cc) in subst (λ (v : ℕ). IsAdded t (appended m p n) v (label_for t d) b) (sym g) (put-last p (subst (λ (v : ℕ). v < n) g k)))
  put-added (Before c) q e k = subst (λ (o : Option ℕ). IsAdded t (inserted m n c o) q (label_for t d) b) (sym (by-parent t (label_for t d) (made_weight t d) b c ∙ e)) (put-between q c k e)

-- the same without marks and steps
pub bare-added : (t u v : Nodes) (q : ℕ) (d : NodeData) (b : Bool) → v.labels ≡ u.labels → v.parents ≡ u.parents → v.children ≡ u.children → IsAdded t u q d b → IsAdded t v q d b
bare-added t u v q d b e f g a = record {
  labels_are = e ∙ a.labels_are;
  host_none = a.host_none;
  contents_are = a.contents_are;
  template_is = a.template_is;
  as_many_parents = ap length f ∙ a.as_many_parents ∙ sym (ap length e);
  as_many_lists = ap length g ∙ a.as_many_lists ∙ sym (ap length e);
  parents_are = λ x. ap (λ ps. get_or ps x None) f ∙ a.parents_are x;
  front = a.front;
  back = a.back;
  children_were = a.children_were;
  children_are = λ p. ap (λ cs. get_or cs p []) g ∙ a.children_are p;
}

-- A NODE THAT IS TAKEN OUT

module _ (t : Nodes) (c p : ℕ) (l : IsLaid t) (e : parent_of t c ≡ Some p) where
  abbrev u : Nodes
  u = detached t c (Some p)

  cut-in : c < length t.labels
  cut-in = parent-in t l c p e

  cut-parent : (x : ℕ) → parent_of u x ≡ cond (eqb x c) None (parent_of t x)
  cut-parent x = (let k = l.as_many_parents in let i = cut-in in get_or-set t.parents c x None None (omega (arith, k, i)))

  abbrev split : (fs : List ℕ) × (bs : List ℕ) × (children_of t p ≡ fs ++ c ∷ bs) × (has c fs ≡ false)
  split = split_at c (children_of t p) (l.parent_has_child p c e)

  left-is : without c (children_of t p) ≡ split.0 ++ split.1
  left-is = ap (without c) split.2 ∙ without-split c split.0 split.1 split.3

  removed : Distinct (split.0 ++ split.1) × (has c (split.0 ++ split.1) ≡ false)
  removed = Distinct-remove c split.0 split.1 (subst Distinct split.2 (l.once p))

  cut-children : (q : ℕ) → children_of u q ≡ cond (eqb q p) (split.0 ++ split.1) (children_of t q)
  cut-children q =
      (let k = l.as_many_lists in let i = l.parent_in c p e in get_or-set t.children p q (without c (children_of t p)) [] (omega (arith, k, i)))
      ∙ ap (λ v. cond (eqb q p) v (children_of t q)) left-is

  kept-parent : (x : ℕ) → x ≢ c → parent_of u x ≡ parent_of t x
  kept-parent x h = cut-parent x ∙ by (cases_eqb x c)
    where
      by : ((eqb x c ≡ true) × (x ≡ c)) ⊎ ((eqb x c ≡ false) × (x ≢ c)) → cond (eqb x c) None (parent_of t x) ≡ parent_of t x
      by (inl k) = absurd (h k.1)
      by (inr k) = rw k.0 refl

  gone : parent_of u c ≡ None
  gone = cut-parent c ∙ rw (eqb-self c) refl

  -- a parent that is left is that of before, and not of what is taken out
  left-parent : (x q : ℕ) → parent_of u x ≡ Some q → (x ≢ c) × (parent_of t x ≡ Some q)
  left-parent x q f = elim (cases_eqb x c) [
    | inl k ↦ absurd (let m = sym (subst (λ (v : ℕ). parent_of u v ≡ Some q) k.1 f) ∙ gone in cc)
    | inr k ↦ (k.1, sym (kept-parent x k.1) ∙ f)
  ]

  pub over-cut : (r x : ℕ) → IsOver u r x → IsOver t r x
  over-cut r _ itself = itself
  over-cut r _ (upon x q f o) = upon x q (left-parent x q f).1 (over-cut r q o)

  child-parent : (q x : ℕ) → has x (children_of u q) ≡ true → parent_of u x ≡ Some q
  child-parent q x h = elim (cases_eqb q p) [
    | inl k ↦
        let m : has x (split.0 ++ split.1) ≡ true = sym (ap (has x) (cut-children q ∙ rw k.0 refl)) ∙ h in
        elim (cases_eqb x c) [
          | inl f ↦ absurd (false≢true (sym removed.1 ∙ subst (λ (v : ℕ). has v (split.0 ++ split.1) ≡ true) f.1 m))
          | inr f ↦ kept-parent x f.1 ∙ l.child_has_parent p x (ap (has x) split.2 ∙ insert-other x c split.0 split.1 f.0 ∙ m) ∙ ap Some (sym k.1)
        ]
    | inr k ↦
        let m = l.child_has_parent q x (sym (ap (has x) (cut-children q ∙ rw k.0 refl)) ∙ h) in
        kept-parent x (λ f. k.1 (let w = sym m ∙ ap (parent_of t) f ∙ e in cc)) ∙ m
  ]

  parent-child : (q x : ℕ) → parent_of u x ≡ Some q → has x (children_of u q) ≡ true
  parent-child q x f =
      let k = left-parent x q f in
      let m = l.parent_has_child q x k.1 in
      elim (cases_eqb q p) [
        | inl g ↦ elim (cases_eqb x c) [
          | inl w ↦ absurd (k.0 w.1)
          | inr w ↦ ap (has x) (cut-children q ∙ rw g.0 refl) ∙ sym (insert-other x c split.0 split.1 w.0) ∙ sym (ap (has x) split.2) ∙ subst (λ (v : ℕ). has x (children_of t v) ≡ true) g.1 m
        ]
        | inr g ↦ ap (has x) (cut-children q ∙ rw g.0 refl) ∙ m
      ]

  pub cut-laid : IsLaid u
  cut-laid = record {
    some = l.some;
    as_many_parents = length-set t.parents c None ∙ l.as_many_parents;
    as_many_lists = length-set t.children p (without c (children_of t p)) ∙ l.as_many_lists;
    parent_in = λ x q f. l.parent_in x q (left-parent x q f).1;
    child_has_parent = child-parent;
    parent_has_child = parent-child;
    once = λ q. elim (cases_eqb q p) [
      | inl k ↦ subst Distinct (sym (cut-children q ∙ rw k.0 refl)) removed.0
      | inr k ↦ subst Distinct (sym (cut-children q ∙ rw k.0 refl)) (l.once q)
    ];
    hosts = l.hosts;
    contents_is = l.contents_is;
    younger = l.younger;
    alone = λ x h f. elim (cases_eqb x c) [
      | inl k ↦ ap (parent_of u) k.1 ∙ gone
      | inr k ↦ kept-parent x k.1 ∙ l.alone x h f
    ];
    root_alone = elim (cases_eqb 0 c) [
      | inl k ↦ ap (parent_of u) k.1 ∙ gone
      | inr k ↦ kept-parent 0 k.1 ∙ l.root_alone
    ];
    root_host = l.root_host;
    root_tag = l.root_tag;
    no_older = λ x h y f o. l.no_older x h y f (over-cut x y o);
  }

  -- the first of the open elements alone stays open, where another one is taken out
  pub cut-tied : (x : ℕ) (s : List ℕ) → IsTied t (x ∷ s) → x ≢ c → IsTied u (x ∷ [])
  cut-tied x s k h = record {
    laid = cut-laid;
    inside = λ y f. k.inside y (alone-in y f);
    once = (refl, tt);
    first = λ y f. k.first y f;
    rooted = λ y f. elim (k.rooted y f) [ inl g ↦ inl g | inr g ↦ inr (kept-parent y (λ w. h (let z : x ≡ y = (let v = f in cc) in z ∙ w)) ∙ g) ];
    based = ((λ g. over (k.rooted x refl)), tt);
  }
    where
      alone-in : (y : ℕ) → has y (x ∷ []) ≡ true → has y (x ∷ s) ≡ true
      alone-in y f = elim (cases_eqb y x) as (λ _. has y (x ∷ s) ≡ true) [ inl w ↦ rw w.0 refl | inr w ↦ absurd (let g : has y (x ∷ []) ≡ false = rw w.0 refl in cc) ]

      over : (x ≡ 0) ⊎ (parent_of t x ≡ Some 0) → IsOver u 0 x
      over (inl g) = subst (IsOver u 0) (sym g) itself
      over (inr g) = upon x 0 (kept-parent x h ∙ g) itself

-- What the words of the rules, reopening and adoption make of what the open elements stand below.
use Rattle.std.proofs.Common.{◌≡◌, ◌==◌, ◌<◌, ◌≤◌, ◌⊎◌, is_some, length-append, ℕ, zero, suc, ◌+◌, ◌-◌, Bool, true, false, cond, eqb, not, ◌≢◌, List, [], ◌∷◌, ◌++◌, append-nil, get_or, length, set, take, drop, Option, Some, None, slice_index, inl, inr, refl, sym, ◌∙◌, ap, subst, arith}
use Rattle.std.specs.List.{list_any}
use Rattle.std.proofs.lemmas.Bool.{cases_lt, false≢true}
use Rattle.std.proofs.lemmas.List.{get_or_past, length-set, take-append-drop}
use Rattle.std.proofs.Math.Seq.{take-append_seam}
use Rattle.html_names.specs.declared.foreign.Space.{Space}
use Rattle.html_names.specs.declared.tag.Tag.{Tag}
use Rattle.html_names.specs.declared.tag.Tag.TheVariants as tag
use Rattle.html_names.specs.Names.{name_of, tag_of}
use Rattle.html_names.specs.Sets.{is_formatting, is_special, is_template}
use Rattle.html_names.specs.Tags.{is_same}
use Rattle.html_arena.specs.declared.data.NewNode.{NewNode}
use Rattle.html_arena.specs.declared.data.NewNode.TheVariants as new
use Rattle.html_arena.specs.declared.data.Origin.{Origin}
use Rattle.html_arena.specs.declared.data.Origin.TheVariants.{Implied as Unasked, Token}
use Rattle.html_arena.specs.declared.arena.Limits.{Limits}
use Rattle.html_arena.specs.declared.data.NodeData.{NodeData}
use Rattle.html_arena.specs.declared.data.NodeData.TheVariants as node
use Rattle.html_arena.specs.Data.{attrs_in, contents_in, host_in, tag_in, with_attrs, with_run}
use Rattle.html_arena.specs.Merge.{merged}
use Rattle.html_arena.specs.Make.{has_contents, label_for, made, made_weight, plain_element, template_element}
use Rattle.html_arena.specs.Siblings.{Distinct, first_of, has, is_in, last_of}
use Rattle.html_arena.specs.Tree.{Tree as Nodes, added, added_template, children_of, contents_at, detached, empty_tree, host_at, label_of, parent_of, tag_at, texted_run, with_merged}
use Rattle.html_arena.proofs.Siblings.{cases_bool, cases_eqb, eqb-self, has-append, has-last}
use Rattle.html_tokens.specs.declared.attributes.Attr.{Attr}
use Rattle.html_tokens.specs.declared.token.TokenKind.{TokenKind}
use Rattle.html_open.specs.declared.adoption.AdoptEnd.{AdoptEnd}
use Rattle.html_open.specs.declared.adoption.AdoptEnd.TheVariants.{Done, OtherEndTag}
use Rattle.html_open.specs.declared.entry.Entry.{Entry}
use Rattle.html_open.specs.declared.entry.Entry.TheVariants.{Marker}
use Rattle.html_open.specs.declared.places.Place.{Place}
use Rattle.html_open.specs.declared.places.Place.TheVariants.{Last}
use Rattle.html_open.specs.AdoptFinding.{element_in_scope}
use Rattle.html_open.specs.Entries.{is_marker, last_named, nodes_of, pushed, without_node}
use Rattle.html_open.specs.Lists.{above, after_index, below, last_index, last_where, up_to, without_last}
use Rattle.html_open.specs.Marking.{bare}
use Rattle.html_open.specs.Opened.{open_at}
use Rattle.html_open.specs.Placing.{by_table, fostered, fosters, get, inside, outside_table, parent_at, place_of, put, table, template}
use Rattle.html_open.specs.Scopes.{stays, tag_stays}
use Rattle.html_open.proofs.Keeps.{eqb-true, nodes-append, split-last}
use Rattle.html_open.proofs.Lasting.{entries-below, entries-pushed}
use Rattle.html_open.proofs.Reopened.{split-above}
use Rattle.html_open.proofs.SafePlaces.{same-tag}
use Rattle.html_tree.specs.declared.groups.Target.{Target}
use Rattle.html_tree.specs.declared.groups.Target.TheVariants as target
use Rattle.html_tree.specs.Closing.{before_index, bodiless, first_few, kept_to, popped, remaining}
use Rattle.html_tree.specs.Foreign.{found_foreign, home_end, left_foreign}
use Rattle.html_tree.specs.Inserting.{with_new, with_open}
use Rattle.html_tree.specs.Listing.{IsAdopted, IsReopened}
use Rattle.html_tree.specs.Searching.{found_name}
use Rattle.html_tree.specs.States.{State as Tree}
use Rattle.html_tree.specs.Targets.{place_at, place_for}
use Rattle.html_tree.specs.Texts.{node_or_next, place_here, text_before, tree_or_new, with_text}
use Rattle.html_tree.proofs.Closings.{first-few-up, without-first}
use Rattle.html_tree.proofs.Kept.{first-few}
use Rattle.html_ledger.specs.Entries.{number_of}
use Rattle.html_ledger.specs.declared.setting.Setting.TheVariants.{Document, Fragment}
use Rattle.html_ledger.specs.declared.symbol.Symbol.{Symbol}
use Rattle.html_construction.specs.Beginning.{first_state}
use Rattle.html_construction.specs.Calls.{HasEnded, IsLinkClosed, comment_of, doctype_of, element_of, foreign_of, form_closed, formless, implied_of, void_of}
use Rattle.html_construction.specs.Plans.{IsMoved}
use Rattle.html_construction.specs.States.{State}
use Rattle.html_construction.specs.Tokens.{attrs_of, char_of, data_of, element_name, foreign_attrs, foreign_name, name_id, public_id, system_id, tag_name}
use Rattle.html_construction.specs.Words.{AddMarker, Becomes, ClearTo, ClearToMarker, CloseForm, CloseNamed, CloseThrough, Drop, End, Implied, Imply, ImplyHead, ImplyPart, ImplyRoot, ImplyVoid, Insert, InsertAt, InsertCharacter, InsertClosedForm, InsertComment, InsertCommentAt, InsertDoctype, InsertForeign, InsertForeignVoid, InsertForm, InsertHead, InsertListed, InsertPart, InsertReplacement, InsertRoot, InsertVoid, InsertVoidAt, MergeIntoBody, MergeIntoRoot, Pop, Quirks, ReplaceBody, Switch, Word, after, with_stack}
use Rattle.html_modes.specs.Foreign.{ends_any, leaves_foreign, stack_after}
use Rattle.html_laws.specs.Contents.{NoTemplateHoldsItself, IsOver, StandsIn, deeper, inside as within, itself}
use Rattle.html_laws.specs.Likeness.{core}
use Rattle.html_laws.proofs.Hosts.{IsLaid, IsTied, base}
use Rattle.html_laws.proofs.Basing.{has-mid, html-plain, last-split, last_where-none, no-contents, template-same}
use Rattle.html_laws.proofs.Laying.{AreSimple, first-has, has-pushed, IsAdded, added-contents, added-laid, added-simple, added-tied, longer, new-contents, new-simple, pushed-tied}
use Rattle.html_laws.proofs.Planting.{IsAlikeIn, IsFresh, alike-laid, alike-tied, bare-added, comment-fresh, cut-tied, doctype-fresh, element-fresh, put-added, text-fresh}
use Rattle.html_laws.proofs.Replanting.{alike-simple, between-tied, current-placed, front-tied, is_any, part-simple, reopened-tied}
use Rattle.html_laws.proofs.Grafts.{adopted-any, adopted-kept, adopted-simple, adopted-tied, entry-left, named-last}

-- the element pointers: nodes, and the form is no template
pub record ArePointed (t : Nodes) (h f : Option ℕ) : Type 0 where
  pub head : (x : ℕ) → h ≡ Some x → x < length t.labels
  pub form : (x : ℕ) → f ≡ Some x → (x < length t.labels) × (contents_at t x ≡ None)

-- something is open, and all of it stands below what it should; what is listed is simple
pub record IsHostedAt (t : Nodes) (s : List ℕ) (l : List Entry) (h f : Option ℕ) : Type 0 where
  pub tied : IsTied t s
  pub some_open : is_any s ≡ true
  pub pointed : ArePointed t h f
  pub listed : AreSimple t (nodes_of l)

-- the same, but for the current node
pub record IsOverhungAt (t : Nodes) (s : List ℕ) (l : List Entry) (h f : Option ℕ) : Type 0 where
  pub low : List ℕ
  pub current : ℕ
  pub stack_is : s ≡ low ++ current ∷ []
  pub tied : IsTied t low
  pub some_open : is_any low ≡ true
  pub inside : current < length t.labels
  pub pointed : ArePointed t h f
  pub listed : AreSimple t (nodes_of l)

-- nothing is open
pub record IsBareAt (t : Nodes) (s : List ℕ) (l : List Entry) (h f : Option ℕ) : Type 0 where
  pub stack_is : s ≡ []
  pub laid : IsLaid t
  pub pointed : ArePointed t h f
  pub listed : AreSimple t (nodes_of l)

abbrev pub IsHosted : State → Type 0
IsHosted a = IsHostedAt a.tree.tree a.tree.stack a.tree.list a.tree.head a.tree.form

abbrev pub IsOverhung : State → Type 0
IsOverhung a = IsOverhungAt a.tree.tree a.tree.stack a.tree.list a.tree.head a.tree.form

abbrev pub IsBare : State → Type 0
IsBare a = IsBareAt a.tree.tree a.tree.stack a.tree.list a.tree.head a.tree.form

-- THE SAME

abbrev Family : Type 1
Family = Nodes → List ℕ → List Entry → Option ℕ → Option ℕ → Type 0

same-of : (P : Family) (v w : Tree) → w.tree ≡ v.tree → w.stack ≡ v.stack → w.list ≡ v.list → w.head ≡ v.head → w.form ≡ v.form → P v.tree v.stack v.list v.head v.form → P w.tree w.stack w.list w.head w.form
same-of P v w t s l h f k =
    subst (λ z. P w.tree w.stack w.list w.head z) (sym f)
    (subst (λ z. P w.tree w.stack w.list z v.form) (sym h)
    (subst (λ z. P w.tree w.stack z v.head v.form) (sym l)
    (subst (λ z. P w.tree z v.list v.head v.form) (sym s)
    (subst (λ z. P z v.stack v.list v.head v.form) (sym t) k))))

-- the trees under construction are the same
abbrev pub AreSameHosts : State → State → Type 0
AreSameHosts a b = (b.tree.tree ≡ a.tree.tree) × (b.tree.stack ≡ a.tree.stack) × (b.tree.list ≡ a.tree.list) × (b.tree.head ≡ a.tree.head) × (b.tree.form ≡ a.tree.form)

pub same-hosted : (a b : State) → AreSameHosts a b → IsHosted a → IsHosted b
same-hosted a b e k = same-of IsHostedAt a.tree b.tree e.0 e.1 e.2 e.3 e.4 k

pub same-overhung : (a b : State) → AreSameHosts a b → IsOverhung a → IsOverhung b
same-overhung a b e k = same-of IsOverhungAt a.tree b.tree e.0 e.1 e.2 e.3 e.4 k

pub same-bare : (a b : State) → AreSameHosts a b → IsBare a → IsBare b
same-bare a b e k = same-of IsBareAt a.tree b.tree e.0 e.1 e.2 e.3 e.4 k

becomes-by : (P : Family) (m b : State) → Becomes m b → P m.tree.tree m.tree.stack m.tree.list m.tree.head m.tree.form → P b.tree.tree b.tree.stack b.tree.list b.tree.head b.tree.form
becomes-by P m b i k =
    same-of P m.tree b.tree (ap (λ (v : State). v.tree.tree) i.state_is) (ap (λ (v : State). v.tree.stack) i.state_is) (ap (λ (v : State). v.tree.list) i.state_is) (ap (λ (v : State). v.tree.head) i.state_is)
    (ap (λ (v : State). v.tree.form) i.state_is) k

pub becomes-hosted : (m b : State) → Becomes m b → IsHosted m → IsHosted b
becomes-hosted = becomes-by IsHostedAt

pub becomes-overhung : (m b : State) → Becomes m b → IsOverhung m → IsOverhung b
becomes-overhung = becomes-by IsOverhungAt

pub becomes-bare : (m b : State) → Becomes m b → IsBare m → IsBare b
becomes-bare = becomes-by IsBareAt

-- TREES THAT ARE ALIKE

alike-pointed : (t u : Nodes) (h f : Option ℕ) → IsAlikeIn t u → ArePointed t h f → ArePointed u h f
alike-pointed t u h f a k = record {
  head = λ x e. (let m = k.head x e in let n = a.as_many in omega (arith, m, n));
  form = λ x e. (let m = k.form x e in ((let n = a.as_many in let i = m.0 in omega (arith, i, n)), a.contents_are x ∙ m.1));
}

alike-hosted : (t u : Nodes) (s : List ℕ) (l : List Entry) (h f : Option ℕ) → IsAlikeIn t u → IsHostedAt t s l h f → IsHostedAt u s l h f
alike-hosted t u s l h f a k = record { tied = alike-tied t u a s k.tied; some_open = k.some_open; pointed = alike-pointed t u h f a k.pointed; listed = alike-simple t u (nodes_of l) a k.listed }

alike-overhung : (t u : Nodes) (s : List ℕ) (l : List Entry) (h f : Option ℕ) → IsAlikeIn t u → IsOverhungAt t s l h f → IsOverhungAt u s l h f
alike-overhung t u s l h f a k = record {
  low = k.low;
  current = k.current;
  stack_is = k.stack_is;
  tied = alike-tied t u a k.low k.tied;
  some_open = k.some_open;
  inside = (let m = k.inside in let n = a.as_many in omega (arith, m, n));
  pointed = alike-pointed t u h f a k.pointed;
  listed = alike-simple t u (nodes_of l) a k.listed;
}

-- FRONTS OF THE STACK

any-as : (s s' : List ℕ) → first_of s' ≡ first_of s → is_any s ≡ true → is_any s' ≡ true
any-as [] s' e h = absurd (false≢true h)
any-as (x ∷ s) [] e h = absurd (let k = e in cc)
any-as (x ∷ s) (y ∷ s') e h = refl

front-hosted : (t : Nodes) (s s' ys : List ℕ) (l : List Entry) (h f : Option ℕ) → s ≡ s' ++ ys → first_of s' ≡ first_of s → IsHostedAt t s l h f → IsHostedAt t s' l h f
front-hosted t s s' ys l h f e i k = record { tied = front-tied t s' ys (subst (IsTied t) e k.tied); some_open = any-as s s' i k.some_open; pointed = k.pointed; listed = k.listed }

few-hosted : (t : Nodes) (n : ℕ) (s : List ℕ) (l : List Entry) (h f : Option ℕ) → IsHostedAt t s l h f → IsHostedAt t (first_few n s) l h f
few-hosted t n s l h f k = front-hosted t s (first_few n s) (drop (kept_to (length s) n) s) l h f (sym (take-append-drop (kept_to (length s) n) s)) (first-few n s) k

before-hosted : (t : Nodes) (o : Option ℕ) (s : List ℕ) (l : List Entry) (h f : Option ℕ) → IsHostedAt t s l h f → IsHostedAt t (before_index o s) l h f
before-hosted t None s l h f k = k
before-hosted t (Some i) s l h f k = few-hosted t i s l h f k

stays-hosted : (t : Nodes) (except : Option Tag) (s : List ℕ) (l : List Entry) (h f : Option ℕ) → IsHostedAt t s l h f → IsHostedAt t (up_to (stays t except) s) l h f
stays-hosted t except s l h f k =
    let few = first-few-up (stays t except) s (λ x e. ap (tag_stays except) (k.tied.first x e)) in
    front-hosted t s (up_to (stays t except) s) (above (stays t except) s) l h f (split-above (stays t except) s) (sym (ap first_of few) ∙ first-few (after_index (last_index (stays t except) s)) s) k

remaining-hosted : (t : Nodes) (x : ℕ) (s : List ℕ) (l : List Entry) (h f : Option ℕ) → contents_at t x ≡ None → IsHostedAt t s l h f → IsHostedAt t (remaining x s) l h f
remaining-hosted t x s l h f n k = by (cases_bool (is_in x (first_of s)))
  where
    without : is_in x (first_of s) ≡ false → IsHostedAt t (without_last (eqb x) s) l h f
    without i = elim (cases_bool (list_any (eqb x) s)) [
      | inl e ↦
          let c = split-last (eqb x) s e in
          let m : without_last (eqb x) s ≡ below (eqb x) s ++ above (eqb x) s = rw e refl in
          let g : contents_at t c.0 ≡ None = subst (λ (v : ℕ). contents_at t v ≡ None) (eqb-true x c.0 c.2) n in
          let w : first_of (below (eqb x) s ++ above (eqb x) s) ≡ first_of s = sym (ap first_of m) ∙ without-first x s i in
          subst (λ (v : List ℕ). IsHostedAt t v l h f) (sym m) (record {
            tied = between-tied t (below (eqb x) s) (above (eqb x) s) c.0 (subst (IsTied t) c.1 k.tied) g (w ∙ ap first_of c.1);
            some_open = any-as s (below (eqb x) s ++ above (eqb x) s) w k.some_open;
            pointed = k.pointed;
            listed = k.listed;
          })
      | inr e ↦ (let m : without_last (eqb x) s ≡ s = rw e refl in subst (λ (v : List ℕ). IsHostedAt t v l h f) (sym m) k)
    ]

    by : (is_in x (first_of s) ≡ true) ⊎ (is_in x (first_of s) ≡ false) → IsHostedAt t (remaining x s) l h f
    by (inl e) = subst (λ (b : Bool). IsHostedAt t (cond b s (without_last (eqb x) s)) l h f) (sym e) k
    by (inr e) = subst (λ (b : Bool). IsHostedAt t (cond b s (without_last (eqb x) s)) l h f) (sym e) (without e)

-- NEW NODES

module _ (t : Nodes) (l : IsLaid t) (d : NewNode) (at : Place) (q : ℕ) (e : parent_at t at ≡ Some q) (i : q < length t.labels) (f : IsFresh t d) where
  abbrev u : Nodes
  u = with_new t at d

  abbrev b : Bool
  b = has_contents d

  new-added : IsAdded t u q (label_for t d) b
  new-added = bare-added t (put (made t d) at (length t.labels)) u q (label_for t d) b refl refl refl (put-added t d l f at q e i)

  new-pointed : (h g : Option ℕ) → ArePointed t h g → ArePointed u h g
  new-pointed h g k = record {
    head = λ x w. (let m = k.head x w in let z = longer t u q (label_for t d) b l i new-added in omega (arith, m, z));
    form = λ x w. (let m = k.form x w in ((let z = longer t u q (label_for t d) b l i new-added in let n = m.0 in omega (arith, n, z)), added-contents t u q (label_for t d) b l i new-added x m.0 ∙ m.1));
  }

  leaf-hosted : (s : List ℕ) (es : List Entry) (h g : Option ℕ) → IsHostedAt t s es h g → IsHostedAt u s es h g
  leaf-hosted s es h g k = record {
    tied = added-tied t u q (label_for t d) b l i new-added s k.tied;
    some_open = k.some_open;
    pointed = new-pointed h g k.pointed;
    listed = added-simple t u q (label_for t d) b l i new-added (nodes_of es) k.listed;
  }

  leaf-bare : (s : List ℕ) (es : List Entry) (h g : Option ℕ) → IsBareAt t s es h g → IsBareAt u s es h g
  leaf-bare s es h g k = record {
    stack_is = k.stack_is;
    laid = added-laid t u q (label_for t d) b l i new-added;
    pointed = new-pointed h g k.pointed;
    listed = added-simple t u q (label_for t d) b l i new-added (nodes_of es) k.listed;
  }

  leaf-overhung : (s : List ℕ) (es : List Entry) (h g : Option ℕ) → IsOverhungAt t s es h g → IsOverhungAt u s es h g
  leaf-overhung s es h g k = record {
    low = k.low;
    current = k.current;
    stack_is = k.stack_is;
    tied = added-tied t u q (label_for t d) b l i new-added k.low k.tied;
    some_open = k.some_open;
    inside = (let m = k.inside in let z = longer t u q (label_for t d) b l i new-added in omega (arith, m, z));
    pointed = new-pointed h g k.pointed;
    listed = added-simple t u q (label_for t d) b l i new-added (nodes_of es) k.listed;
  }

  -- it is opened, and stands where it should, or is a template
  open-hosted : (s : List ℕ) (es : List Entry) (h g : Option ℕ) → (b ≡ false → IsOver t (base t 0 s) q) → IsHostedAt t s es h g → IsHostedAt u (s ++ length t.labels ∷ []) es h g
  open-hosted s es h g o k = record {
    tied = pushed-tied t u q (label_for t d) b l i new-added s k.tied (λ w. absurd (false≢true (sym (ap is_any w) ∙ k.some_open))) o;
    some_open = more s k.some_open;
    pointed = new-pointed h g k.pointed;
    listed = added-simple t u q (label_for t d) b l i new-added (nodes_of es) k.listed;
  }
    where
      more : (s : List ℕ) → is_any s ≡ true → is_any (s ++ length t.labels ∷ []) ≡ true
      more [] w = absurd (false≢true w)
      more (x ∷ s) w = refl

  -- it is opened, wherever it stands
  open-overhung : (s : List ℕ) (es : List Entry) (h g : Option ℕ) → IsHostedAt t s es h g → IsOverhungAt u (s ++ length t.labels ∷ []) es h g
  open-overhung s es h g k = record {
    low = s;
    current = length t.labels;
    stack_is = refl;
    tied = added-tied t u q (label_for t d) b l i new-added s k.tied;
    some_open = k.some_open;
    inside = longer t u q (label_for t d) b l i new-added;
    pointed = new-pointed h g k.pointed;
    listed = added-simple t u q (label_for t d) b l i new-added (nodes_of es) k.listed;
  }

  -- the first to be opened, an html
  root-opened : (es : List Entry) (h g : Option ℕ) → q ≡ 0 → tag_in (label_for t d) ≡ tag.Html → IsBareAt t [] es h g → IsHostedAt u (length t.labels ∷ []) es h g
  root-opened es h g z n k = record {
    tied = pushed-tied t u q (label_for t d) b l i new-added [] none (λ w. (n, z)) (λ w. subst (IsOver t 0) (sym z) itself);
    some_open = refl;
    pointed = new-pointed h g k.pointed;
    listed = added-simple t u q (label_for t d) b l i new-added (nodes_of es) k.listed;
  }
    where
      none : IsTied t []
      none = record { laid = l; inside = λ x w. absurd (false≢true w); once = tt; first = λ x w. absurd (let m = w in cc); rooted = λ x w. absurd (let m = w in cc); based = tt }

-- RELABELLED NODES

set-alike : {X : Type 0} (f : NodeData → X) (ls : List NodeData) (x y : ℕ) (d : NodeData) → f d ≡ f (get_or ls x node.Document) → f (get_or (set ls x d) y node.Document) ≡ f (get_or ls y node.Document)
set-alike f [] x y d e = refl
set-alike f (c ∷ ls) zero zero d e = e
set-alike f (c ∷ ls) zero (suc y) d e = refl
set-alike f (c ∷ ls) (suc x) zero d e = refl
set-alike f (c ∷ ls) (suc x) (suc y) d e = set-alike f ls x y d e

-- a node is another, the same as far as templates go
relabelled-alike : (t u : Nodes) (x : ℕ) (d : NodeData) → u.labels ≡ set t.labels x d → u.parents ≡ t.parents → u.children ≡ t.children → contents_in d ≡ contents_at t x → host_in d ≡ host_at t x → tag_in d ≡ tag_at t x → IsAlikeIn t u
relabelled-alike t u x d e p c f g h = record {
  as_many = ap length e ∙ length-set t.labels x d;
  parents_are = p;
  children_are = c;
  contents_are = λ y. ap (λ ls. contents_in (get_or ls y node.Document)) e ∙ set-alike contents_in t.labels x y d f;
  hosts_are = λ y. ap (λ ls. host_in (get_or ls y node.Document)) e ∙ set-alike host_in t.labels x y d g;
  tags_are = λ y. ap (λ ls. tag_in (get_or ls y node.Document)) e ∙ set-alike tag_in t.labels x y d h;
}

attrs-contents : (d : NodeData) (attrs : List Attr) → contents_in (with_attrs d attrs) ≡ contents_in d
attrs-contents (node.Element e) attrs = refl
attrs-contents d attrs = refl

attrs-host : (d : NodeData) (attrs : List Attr) → host_in (with_attrs d attrs) ≡ host_in d
attrs-host (node.Element e) attrs = refl
attrs-host d attrs = refl

attrs-tag : (d : NodeData) (attrs : List Attr) → tag_in (with_attrs d attrs) ≡ tag_in d
attrs-tag (node.Element e) attrs = refl
attrs-tag d attrs = refl

run-contents : (d : NodeData) (run : List ℕ) → contents_in (with_run d run) ≡ contents_in d
run-contents (node.Text s) run = refl
run-contents d run = refl

run-host : (d : NodeData) (run : List ℕ) → host_in (with_run d run) ≡ host_in d
run-host (node.Text s) run = refl
run-host d run = refl

run-tag : (d : NodeData) (run : List ℕ) → tag_in (with_run d run) ≡ tag_in d
run-tag (node.Text s) run = refl
run-tag d run = refl

merged-alike : (t : Nodes) (x : ℕ) (attrs : List Attr) → IsAlikeIn t (bare (with_merged t x attrs))
merged-alike t x attrs =
    let d = with_attrs (label_of t x) (merged (attrs_in (label_of t x)) attrs) in
    relabelled-alike t (bare (with_merged t x attrs)) x d refl refl refl (attrs-contents (label_of t x) _) (attrs-host (label_of t x) _) (attrs-tag (label_of t x) _)

run-alike : (t : Nodes) (x : ℕ) (run : List ℕ) → IsAlikeIn t (bare (texted_run t x run))
run-alike t x run = relabelled-alike t (bare (texted_run t x run)) x (with_run (label_of t x) run) refl refl refl (run-contents (label_of t x) run) (run-host (label_of t x) run) (run-tag (label_of t x) run)

-- PLACES

abbrev IsAt : Nodes → Place → Type 0
IsAt t p = (q : ℕ) × (parent_at t p ≡ Some q) × (q < length t.labels)

-- each target is a node
target-at : (t : Nodes) (s : List ℕ) (l : List Entry) (h f : Option ℕ) (g : Target) → IsHostedAt t s l h f → IsAt t (place_at t s h g)
target-at t s l h f (target.Current foster) k = (let p = current-placed t s foster k.tied k.some_open in (p.0, p.1, p.2))
target-at t s l h f target.Head k = by h (λ x e. k.pointed.head x e)
  where
    by : (o : Option ℕ) → ((x : ℕ) → o ≡ Some x → x < length t.labels) → IsAt t (Last (get o (get (first_of s) 0)))
    by None i = first s (λ x e. k.tied.inside x (first-has x s e))
      where
        first : (s : List ℕ) → ((x : ℕ) → first_of s ≡ Some x → x < length t.labels) → IsAt t (Last (get (first_of s) 0))
        first [] i = (0, refl, k.tied.laid.some)
        first (x ∷ xs) i = (x, refl, i x refl)
    by (Some x) i = (x, refl, i x refl)
target-at t s l h f target.First k = first s (λ x e. k.tied.inside x (first-has x s e))
  where
    first : (s : List ℕ) → ((x : ℕ) → first_of s ≡ Some x → x < length t.labels) → IsAt t (Last (get (first_of s) 0))
    first [] i = (0, refl, k.tied.laid.some)
    first (x ∷ xs) i = (x, refl, i x refl)
target-at t s l h f target.Document k = (0, refl, k.tied.laid.some)

-- WORDS

leaf : (v : Tree) (d : NewNode) (g : Target) → IsFresh v.tree d → IsHostedAt v.tree v.stack v.list v.head v.form → IsHostedAt (with_new v.tree (place_for v g) d) v.stack v.list v.head v.form
leaf v d g f k = (let p = target-at v.tree v.stack v.list v.head v.form g k in leaf-hosted v.tree k.tied.laid d (place_for v g) p.0 p.1 p.2 f v.stack v.list v.head v.form k)

-- at the place for the current node
opened : (v : Tree) (d : NewNode) (foster : Bool) → IsFresh v.tree d → IsHostedAt v.tree v.stack v.list v.head v.form
    → IsHostedAt (with_new v.tree (place_for v (target.Current foster)) d) (with_open v) v.list v.head v.form
opened v d foster f k = (let p = current-placed v.tree v.stack foster k.tied k.some_open in open-hosted v.tree k.tied.laid d (place_for v (target.Current foster)) p.0 p.1 p.2 f v.stack v.list v.head v.form (λ e. p.3) k)

-- the new node, where it is no template
new-none : (v : Tree) (d : NewNode) (g : Target) → (f : IsFresh v.tree d) → has_contents d ≡ false → (k : IsHostedAt v.tree v.stack v.list v.head v.form) → contents_at (with_new v.tree (place_for v g) d) (length v.tree.labels) ≡ None
new-none v d g f n k =
    let p = target-at v.tree v.stack v.list v.head v.form g k in
    new-contents v.tree (with_new v.tree (place_for v g) d) p.0 (label_for v.tree d) (has_contents d) k.tied.laid p.2 (new-added v.tree k.tied.laid d (place_for v g) p.0 p.1 p.2 f)
    ∙ ap (λ b. cond b (Some (length v.tree.labels + 1)) None) n

new-in : (v : Tree) (d : NewNode) (g : Target) → (f : IsFresh v.tree d) → (k : IsHostedAt v.tree v.stack v.list v.head v.form) → length v.tree.labels < length (with_new v.tree (place_for v g) d).labels
new-in v d g f k =
    let p = target-at v.tree v.stack v.list v.head v.form g k in
    longer v.tree (with_new v.tree (place_for v g) d) p.0 (label_for v.tree d) (has_contents d) k.tied.laid p.2 (new-added v.tree k.tied.laid d (place_for v g) p.0 p.1 p.2 f)

head-at : (t : Nodes) (s : List ℕ) (l : List Entry) (h f : Option ℕ) (n : ℕ) → n < length t.labels → IsHostedAt t s l h f → IsHostedAt t s l (Some n) f
head-at t s l h f n i k = record { tied = k.tied; some_open = k.some_open; pointed = record { head = λ x e. (let m : x ≡ n = (let w = e in cc) in subst (λ (v : ℕ). v < length t.labels) (sym m) i); form = k.pointed.form }; listed = k.listed }

form-at : (t : Nodes) (s : List ℕ) (l : List Entry) (h f : Option ℕ) (n : ℕ) → n < length t.labels → contents_at t n ≡ None → IsHostedAt t s l h f → IsHostedAt t s l h (Some n)
form-at t s l h f n i c k = record {
  tied = k.tied;
  some_open = k.some_open;
  pointed = record { head = k.pointed.head; form = λ x e. (let m : x ≡ n = (let w = e in cc) in subst (λ (v : ℕ). (v < length t.labels) × (contents_at t v ≡ None)) (sym m) (i, c)) };
  listed = k.listed;
}

formless-at : (t : Nodes) (s : List ℕ) (l : List Entry) (h f : Option ℕ) → IsHostedAt t s l h f → IsHostedAt t s l h None
formless-at t s l h f k = record { tied = k.tied; some_open = k.some_open; pointed = record { head = k.pointed.head; form = λ x e. absurd (let w = e in cc) }; listed = k.listed }

list-at : (t : Nodes) (s : List ℕ) (l m : List Entry) (h f : Option ℕ) → AreSimple t (nodes_of m) → IsHostedAt t s l h f → IsHostedAt t s m h f
list-at t s l m h f e k = record { tied = k.tied; some_open = k.some_open; pointed = k.pointed; listed = e }

-- the token has the name template
abbrev pub names_template : TokenKind → Bool
names_template t = is_same (tag_of (tag_name t)) tag.Template

-- the word keeps what is so, where the token is a template or is none
abbrev pub calm : Bool → Word → Bool
calm b (InsertAt g) = false
calm b InsertListed = not b
calm b InsertForm = not b
calm b InsertClosedForm = not b
calm b InsertRoot = false
calm b ImplyRoot = false
calm b w = true

no-template : (b : Bool) (t : TokenKind) → names_template t ≡ b → not b ≡ true → is_template (tag_of (tag_name t)) ≡ false
no-template true t n h = absurd (false≢true h)
no-template false t n h = template-same (tag_of (tag_name t)) ∙ n

abbrev form_by : Tree → ℕ → Bool → Tree
form_by v x b = cond b (record (formless v) { stack = remaining x (up_to (stays v.tree None) v.stack) }) (formless v)

closed-form : (v : Tree) (o : Option ℕ) → ((x : ℕ) → o ≡ Some x → contents_at v.tree x ≡ None) → (k : IsHostedAt v.tree v.stack v.list v.head v.form) → IsHostedAt (form_closed v o).tree (form_closed v o).stack (form_closed v o).list (form_closed v o).head (form_closed v o).form
closed-form v None i k = formless-at v.tree v.stack v.list v.head v.form k
closed-form v (Some x) i k = by (element_in_scope v.tree x v.stack)
  where
    by : (b : Bool) → IsHostedAt (form_by v x b).tree (form_by v x b).stack (form_by v x b).list (form_by v x b).head (form_by v x b).form
    by true =
        formless-at v.tree (remaining x (up_to (stays v.tree None) v.stack)) v.list v.head v.form
        (remaining-hosted v.tree x (up_to (stays v.tree None) v.stack) v.list v.head v.form (i x refl) (stays-hosted v.tree None v.stack v.list v.head v.form k))
    by false = formless-at v.tree v.stack v.list v.head v.form k

texted : (v : Tree) (foster : Bool) (run : List ℕ) → IsHostedAt v.tree v.stack v.list v.head v.form → IsHostedAt (with_text v foster run) v.stack v.list v.head v.form
texted v foster run k = by (text_before v.tree (place_here v foster))
  where
    by : (o : Option ℕ) → IsHostedAt (bare (texted_run (tree_or_new v.tree (place_here v foster) o) (node_or_next v.tree o) run)) v.stack v.list v.head v.form
    by None =
        alike-hosted (with_new v.tree (place_here v foster) new.Text) (bare (texted_run (with_new v.tree (place_here v foster) new.Text) (length v.tree.labels) run)) v.stack v.list v.head v.form
        (run-alike (with_new v.tree (place_here v foster) new.Text) (length v.tree.labels) run) (leaf v new.Text (target.Current foster) (text-fresh v.tree) k)
    by (Some x) = alike-hosted v.tree (bare (texted_run v.tree x run)) v.stack v.list v.head v.form (run-alike v.tree x run) k

first-one : (x : ℕ) (s : List ℕ) → first_few 1 (x ∷ s) ≡ x ∷ []
first-one x s = ap (λ n. take n (x ∷ s)) (let k : kept_to (length (x ∷ s)) 1 ≡ 1 = omega arith in k)

marks-alike : (t u : Nodes) → u.labels ≡ t.labels → u.parents ≡ t.parents → u.children ≡ t.children → IsAlikeIn t u
marks-alike t u e f g = record {
  as_many = ap length e;
  parents_are = f;
  children_are = g;
  contents_are = λ y. ap (λ ls. contents_in (get_or ls y node.Document)) e;
  hosts_are = λ y. ap (λ ls. host_in (get_or ls y node.Document)) e;
  tags_are = λ y. ap (λ ls. tag_in (get_or ls y node.Document)) e;
}

-- the first of the open elements is left, and the second is out of the tree
cut-first : (t : Nodes) (x c : ℕ) (s : List ℕ) (l : List Entry) (h f : Option ℕ) → ((p : ℕ) → parent_of t c ≡ Some p → x ≢ c) → IsHostedAt t (x ∷ s) l h f → IsHostedAt (bare (detached t c (parent_of t c))) (x ∷ []) l h f
cut-first t x c s l h f apart k = by (parent_of t c) refl
  where
    one : IsHostedAt t (x ∷ []) l h f
    one = front-hosted t (x ∷ s) (x ∷ []) s l h f refl refl k

    by : (o : Option ℕ) → parent_of t c ≡ o → IsHostedAt (bare (detached t c o)) (x ∷ []) l h f
    by None e = alike-hosted t (bare (detached t c None)) (x ∷ []) l h f (marks-alike t (bare (detached t c None)) refl refl refl) one
    by (Some p) e = alike-hosted (detached t c (Some p)) (bare (detached t c (Some p))) (x ∷ []) l h f (marks-alike (detached t c (Some p)) (bare (detached t c (Some p))) refl refl refl) (record {
      tied = cut-tied t c p k.tied.laid e x s k.tied (apart p e);
      some_open = refl;
      pointed = record { head = k.pointed.head; form = k.pointed.form };
      listed = record { inside = k.listed.inside; no_host = k.listed.no_host; no_template = k.listed.no_template };
    })

cut-body : (t : Nodes) (s : List ℕ) (l : List Entry) (h f : Option ℕ) → IsHostedAt t s l h f → (x : ℕ) × (first_few 1 s ≡ x ∷ []) × IsHostedAt (bare (detached t (slice_index s 1) (parent_of t (slice_index s 1)))) (x ∷ []) l h f
cut-body t [] l h f k = absurd (false≢true k.some_open)
cut-body t (x ∷ s) l h f k = (x, first-one x s, cut-first t x (slice_index (x ∷ s) 1) s l h f (λ p e. apart s k.tied p e) k)
  where
    apart : (s : List ℕ) → IsTied t (x ∷ s) → (p : ℕ) → parent_of t (slice_index (x ∷ s) 1) ≡ Some p → x ≢ slice_index (x ∷ s) 1
    apart [] d p e q = (let w = d.laid.root_alone in cc)
    apart (y ∷ ys) d p e q = (let w = d.once.0 in let z : has x (y ∷ ys) ≡ true = subst (λ (v : ℕ). has v (y ∷ ys) ≡ true) (sym q) (rw (eqb-self y) refl) in cc)

-- an element in the first, which alone is open
first-opened : (t : Nodes) (x : ℕ) (d : NewNode) (l : List Entry) (h f : Option ℕ) → IsFresh t d → IsHostedAt t (x ∷ []) l h f → IsHostedAt (with_new t (Last x) d) (x ∷ length t.labels ∷ []) l h f
first-opened t x d l h f e k =
    let none = html-plain t k.tied.laid x (k.tied.first x refl) in
    let i = k.tied.inside x (rw (eqb-self x) refl) in
    open-hosted t k.tied.laid d (Last x) x refl i e (x ∷ []) l h f (λ w. subst (λ o. IsOver t (get o 0) x) (sym none) (k.tied.based.0 none)) k

replaced : (v : Tree) (d : NewNode) → ((t : Nodes) → IsFresh t d) → IsHostedAt v.tree v.stack v.list v.head v.form
    → IsHostedAt (with_new (bodiless v).tree (place_for (bodiless v) target.First) d) (with_open (bodiless v)) v.list v.head v.form
replaced v d f k =
    let c = cut-body v.tree v.stack v.list v.head v.form k in
    subst (λ (s : List ℕ). IsHostedAt (with_new (bodiless v).tree (Last (get (first_of s) 0)) d) (s ++ length (bodiless v).tree.labels ∷ []) v.list v.head v.form) (sym c.1)
    (first-opened (bodiless v).tree c.0 d v.list v.head v.form (f (bodiless v).tree) c.2)

foreign-fresh : (v : Nodes) (s : Space) (t : TokenKind) (a : State) → IsFresh v (foreign_of a s t)
foreign-fresh v s t a = element-fresh v (foreign_name s (tag_name t)) (foreign_attrs s (attrs_of t)) (Token (number_of a.ledger))

module _ (b : Bool) (t : TokenKind) (a : State) (n : names_template t ≡ b) (k : IsHosted a) where
  abbrev own : NewNode
  own = element_of a t

  own-fresh : (v : Nodes) → IsFresh v (element_of a t)
  own-fresh v = element-fresh v (tag_name t) (attrs_of t) (Token (number_of a.ledger))

  own-plain : not b ≡ true → has_contents (element_of a t) ≡ false
  own-plain h = no-template b t n h

  void-fresh : (v : Nodes) (g : Tag) → IsFresh v (void_of a g t)
  void-fresh v g = element-fresh v (element_name g t) (attrs_of t) (Token (number_of a.ledger))

  implied-fresh : (v : Nodes) (g : Tag) → IsFresh v (implied_of g)
  implied-fresh v g = element-fresh v (name_of g) [] Unasked

  abbrev v : Tree
  v = a.tree

  listed-hosted : not b ≡ true → IsHosted (after InsertListed t a)
  listed-hosted h =
      let g = target.Current a.fostering in
      let u = with_new v.tree (place_for v g) own in
      let p = target-at v.tree v.stack v.list v.head v.form g k in
      let w = new-added v.tree k.tied.laid own (place_for v g) p.0 p.1 p.2 (own-fresh v.tree) in
      let simple = new-simple v.tree u p.0 (label_for v.tree own) (has_contents own) k.tied.laid p.2 w (nodes_of v.list) (own-plain h) k.listed in
      list-at u (with_open v) v.list (pushed u (length v.tree.labels) v.list) v.head v.form (part-simple u (length v.tree.labels ∷ nodes_of v.list) (nodes_of (pushed u (length v.tree.labels) v.list)) (λ x e. there u x e) simple) (opened v own a.fostering (own-fresh v.tree) k)
    where
      there : (u : Nodes) (x : ℕ) → has x (nodes_of (pushed u (length v.tree.labels) v.list)) ≡ true → has x (length v.tree.labels ∷ nodes_of v.list) ≡ true
      there u x e = elim (cases_eqb x (length v.tree.labels)) as (λ _. has x (length v.tree.labels ∷ nodes_of v.list) ≡ true) [
        | inl w ↦ rw w.0 refl
        | inr w ↦ rw w.0 (old (cases_bool (has x (nodes_of v.list))) w.1)
      ]
        where
          old : (has x (nodes_of v.list) ≡ true) ⊎ (has x (nodes_of v.list) ≡ false) → x ≢ length v.tree.labels → has x (nodes_of v.list) ≡ true
          old (inl f) w = f
          old (inr f) w = absurd (let m = entries-pushed u (length v.tree.labels) v.list x w f in cc)

  kept-word : (w : Word) → calm b w ≡ true → IsHosted (after w t a)
  kept-word (ClearTo c) h = few-hosted v.tree _ v.stack v.list v.head v.form k
  kept-word Pop h = few-hosted v.tree _ v.stack v.list v.head v.form k
  kept-word (CloseThrough g e) h = before-hosted v.tree _ v.stack v.list v.head v.form k
  kept-word CloseNamed h = before-hosted v.tree _ v.stack v.list v.head v.form k
  kept-word (Implied except) h = stays-hosted v.tree except v.stack v.list v.head v.form k
  kept-word AddMarker h = list-at v.tree v.stack v.list (v.list ++ Marker ∷ []) v.head v.form (subst (AreSimple v.tree) (sym (nodes-append v.list (Marker ∷ []) ∙ append-nil (nodes_of v.list))) k.listed) k
  kept-word ClearToMarker h = list-at v.tree v.stack v.list (below is_marker v.list) v.head v.form (part-simple v.tree (nodes_of v.list) (nodes_of (below is_marker v.list)) fewer k.listed) k
    where
      fewer : (x : ℕ) → has x (nodes_of (below is_marker v.list)) ≡ true → has x (nodes_of v.list) ≡ true
      fewer x e = elim (cases_bool (has x (nodes_of v.list))) [ inl f ↦ f | inr f ↦ absurd (let m = entries-below v.list x f in cc) ]
  kept-word Insert h = opened v own a.fostering (own-fresh v.tree) k
  kept-word (InsertAt g) h = absurd (false≢true h)
  kept-word InsertPart h = opened v own false (own-fresh v.tree) k
  kept-word (InsertVoid g) h = leaf v (void_of a g t) (target.Current a.fostering) (void-fresh v.tree g) k
  kept-word (InsertVoidAt g at) h = leaf v (void_of a g t) at (void-fresh v.tree g) k
  kept-word InsertListed h = listed-hosted h
  kept-word InsertHead h = head-at (with_new v.tree (place_for v (target.Current a.fostering)) own) (with_open v) v.list v.head v.form (length v.tree.labels) (new-in v own (target.Current a.fostering) (own-fresh v.tree) k) (opened v own a.fostering (own-fresh v.tree) k)
  kept-word InsertForm h =
      form-at (with_new v.tree (place_for v (target.Current a.fostering)) own) (with_open v) v.list v.head v.form (length v.tree.labels) (new-in v own (target.Current a.fostering) (own-fresh v.tree) k)
      (new-none v own (target.Current a.fostering) (own-fresh v.tree) (own-plain h) k) (opened v own a.fostering (own-fresh v.tree) k)
  kept-word InsertClosedForm h =
      let d = void_of a tag.Form t in
      form-at (with_new v.tree (place_for v (target.Current a.fostering)) d) v.stack v.list v.head v.form (length v.tree.labels) (new-in v d (target.Current a.fostering) (void-fresh v.tree tag.Form) k)
      (new-none v d (target.Current a.fostering) (void-fresh v.tree tag.Form) (own-plain h) k) (leaf v d (target.Current a.fostering) (void-fresh v.tree tag.Form) k)
  kept-word CloseForm h = closed-form v v.form (λ x e. (k.pointed.form x e).1) k
  kept-word ReplaceBody h = replaced v own own-fresh k
  kept-word InsertRoot h = absurd (false≢true h)
  kept-word (Imply g) h = opened v (implied_of g) a.fostering (implied-fresh v.tree g) k
  kept-word (ImplyPart g) h = opened v (implied_of g) false (implied-fresh v.tree g) k
  kept-word (ImplyVoid g) h = leaf v (implied_of g) (target.Current a.fostering) (implied-fresh v.tree g) k
  kept-word ImplyHead h =
      head-at (with_new v.tree (place_for v (target.Current a.fostering)) (implied_of tag.Head)) (with_open v) v.list v.head v.form (length v.tree.labels) (new-in v (implied_of tag.Head) (target.Current a.fostering) (implied-fresh v.tree tag.Head) k)
      (opened v (implied_of tag.Head) a.fostering (implied-fresh v.tree tag.Head) k)
  kept-word ImplyRoot h = absurd (false≢true h)
  kept-word InsertComment h = leaf v (comment_of a t) (target.Current a.fostering) (comment-fresh v.tree (data_of t) (number_of a.ledger)) k
  kept-word (InsertCommentAt g) h = leaf v (comment_of a t) g (comment-fresh v.tree (data_of t) (number_of a.ledger)) k
  kept-word InsertDoctype h = leaf v (doctype_of a t) target.Document (doctype-fresh v.tree (name_id t) (public_id t) (system_id t) (number_of a.ledger)) k
  kept-word InsertCharacter h = texted v a.fostering (char_of t) k
  kept-word InsertReplacement h = texted v a.fostering (65533 ∷ []) k
  kept-word MergeIntoRoot h = alike-hosted v.tree (bare (with_merged v.tree (slice_index v.stack 0) (attrs_of t))) v.stack v.list v.head v.form (merged-alike v.tree (slice_index v.stack 0) (attrs_of t)) k
  kept-word MergeIntoBody h = alike-hosted v.tree (bare (with_merged v.tree (slice_index v.stack 1) (attrs_of t))) v.stack v.list v.head v.form (merged-alike v.tree (slice_index v.stack 1) (attrs_of t)) k
  kept-word (InsertForeign s) h = opened v (foreign_of a s t) a.fostering (foreign-fresh v.tree s t a) k
  kept-word (InsertForeignVoid s) h = leaf v (foreign_of a s t) (target.Current a.fostering) (foreign-fresh v.tree s t a) k
  kept-word w h = k

pub word-hosted : (b : Bool) (w : Word) (t : TokenKind) (a : State) → names_template t ≡ b → calm b w ≡ true → IsHosted a → IsHosted (after w t a)
word-hosted b w t a n h k = kept-word b t a n k w h

-- REOPENING AND ADOPTION

-- a tree with marks and steps
marked-alike : (t u : Nodes) → bare u ≡ t → IsAlikeIn t u
marked-alike t u e = marks-alike t u (ap (λ (v : Nodes). v.labels) e) (ap (λ (v : Nodes). v.parents) e) (ap (λ (v : Nodes). v.children) e)

bare-alike : (t u : Nodes) → bare u ≡ t → IsAlikeIn u t
bare-alike t u e = marks-alike u t (sym (ap (λ (v : Nodes). v.labels) e)) (sym (ap (λ (v : Nodes). v.parents) e)) (sym (ap (λ (v : Nodes). v.children) e))

-- the pointers, where nodes were added
kept-pointed : (t u : Nodes) (h f : Option ℕ) → length t.labels ≤ length u.labels → ((x : ℕ) → x < length t.labels → contents_at u x ≡ contents_at t x) → ArePointed t h f → ArePointed u h f
kept-pointed t u h f l c k = record {
  head = λ x e. (let m = k.head x e in omega (arith, l, m));
  form = λ x e. (let m = k.form x e in ((let n = m.0 in omega (arith, l, n)), c x m.0 ∙ m.1));
}

-- what a call on the tree leaves: what was there has the contents that it had
record HasKept (a z : Tree) (h f : Option ℕ) : Type 0 where
  hosted : IsHostedAt z.tree z.stack z.list h f
  longer_by : length a.tree.labels ≤ length z.tree.labels
  contents_are : (x : ℕ) → x < length a.tree.labels → contents_at z.tree x ≡ contents_at a.tree x

reopened-at : (foster : Bool) (u v : Tree) → IsReopened foster u v → IsHostedAt u.tree u.stack u.list u.head u.form → IsHostedAt v.tree v.stack v.list u.head u.form
reopened-at foster u v r k =
    let a = marked-alike u.tree r.old r.old_is in
    let b = bare-alike v.tree r.new r.new_is in
    let c = reopened-tied foster (open_at u.stack u.list r.old) (open_at v.stack v.list r.new) (alike-tied u.tree r.old a u.stack k.tied) k.some_open (alike-simple u.tree r.old (nodes_of u.list) a k.listed) r.reopened in
    record {
      tied = alike-tied r.new v.tree b v.stack c.0;
      some_open = c.2;
      pointed = kept-pointed u.tree v.tree u.head u.form (let n = a.as_many in let m = b.as_many in let w = c.3 in omega (arith, n, m, w)) (λ x i. b.contents_are x ∙ c.4 x (let n = a.as_many in omega (arith, n, i)) ∙ a.contents_are x) k.pointed;
      listed = alike-simple r.new v.tree (nodes_of v.list) b c.1;
    }

-- a call moves nothing else of the state
moved-hosted : (a b : State) → IsMoved a b → IsHostedAt b.tree.tree b.tree.stack b.tree.list a.tree.head a.tree.form → IsHosted b
moved-hosted a b i k =
    subst (λ f. IsHostedAt b.tree.tree b.tree.stack b.tree.list b.tree.head f) (sym (ap (λ (v : Tree). v.form) i.pointers))
    (subst (λ h. IsHostedAt b.tree.tree b.tree.stack b.tree.list h a.tree.form) (sym (ap (λ (v : Tree). v.head) i.pointers)) k)

pub reopened-hosted : (a b : State) → IsMoved a b → IsReopened a.fostering a.tree b.tree → IsHosted a → IsHosted b
reopened-hosted a b i m k = moved-hosted a b i (reopened-at a.fostering a.tree b.tree m k)

adopted-at : (g : Tag) (foster : Bool) (end : AdoptEnd) (u v : Tree) (h f : Option ℕ) → is_formatting g ≡ true → IsAdopted g foster end u v → IsHostedAt u.tree u.stack u.list h f → HasKept u v h f
adopted-at g foster end u v h f w r k =
    let a = marked-alike u.tree r.old r.old_is in
    let b = bare-alike v.tree r.new r.new_is in
    let o = open_at u.stack u.list r.old in
    let p = open_at v.stack v.list r.new in
    let t = alike-tied u.tree r.old a u.stack k.tied in
    let c = adopted-kept g foster end o p r.adopted in
    let l : length u.tree.labels ≤ length v.tree.labels = (let n = a.as_many in let m = b.as_many in let z = c.0 in omega (arith, n, m, z)) in
    let e = λ (x : ℕ) (i : x < length u.tree.labels). b.contents_are x ∙ c.1 x (let n = a.as_many in omega (arith, n, i)) ∙ a.contents_are x in
    record {
      hosted = record {
        tied = alike-tied r.new v.tree b v.stack (adopted-tied g foster end o p w t r.adopted);
        some_open = adopted-any g foster end o p w t k.some_open r.adopted;
        pointed = kept-pointed u.tree v.tree h f l e k.pointed;
        listed = alike-simple r.new v.tree (nodes_of v.list) b (adopted-simple g foster end o p (alike-simple u.tree r.old (nodes_of u.list) a k.listed) r.adopted);
      };
      longer_by = l;
      contents_are = e;
    }

ended-at : (g : Tag) (foster : Bool) (u z : Tree) (h f : Option ℕ) → is_formatting g ≡ true → HasEnded g foster u z → IsHostedAt u.tree u.stack u.list h f → HasKept u z h f
ended-at g foster u z h f w r k = by r.end refl
  where
    m : HasKept u r.middle h f
    m = adopted-at g foster r.end u r.middle h f w r.adopted k

    by : (e : AdoptEnd) → r.end ≡ e → HasKept u z h f
    by Done e =
        let i = r.done e in
        record {
          hosted = subst (λ (l : List Entry). IsHostedAt z.tree z.stack l h f) (sym (ap (λ (v : Tree). v.list) i)) (subst (λ (s : List ℕ). IsHostedAt z.tree s r.middle.list h f) (sym (ap (λ (v : Tree). v.stack) i)) (subst (λ (t : Nodes). IsHostedAt t r.middle.stack r.middle.list h f) (sym (ap (λ (v : Tree). v.tree) i)) m.hosted));
          longer_by = subst (λ (t : Nodes). length u.tree.labels ≤ length t.labels) (sym (ap (λ (v : Tree). v.tree) i)) m.longer_by;
          contents_are = λ x l. ap (λ (v : Tree). contents_at v.tree x) i ∙ m.contents_are x l;
        }
    by OtherEndTag e =
        let i = r.other e in
        let s = before_index (found_name r.middle (name_of g)) r.middle.stack in
        record {
          hosted = subst (λ (l : List Entry). IsHostedAt z.tree z.stack l h f) (sym (ap (λ (v : Tree). v.list) i)) (subst (λ (s : List ℕ). IsHostedAt z.tree s r.middle.list h f) (sym (ap (λ (v : Tree). v.stack) i))
              (subst (λ (t : Nodes). IsHostedAt t s r.middle.list h f) (sym (ap (λ (v : Tree). v.tree) i)) (before-hosted r.middle.tree (found_name r.middle (name_of g)) r.middle.stack r.middle.list h f m.hosted)));
          longer_by = subst (λ (t : Nodes). length u.tree.labels ≤ length t.labels) (sym (ap (λ (v : Tree). v.tree) i)) m.longer_by;
          contents_are = λ x l. ap (λ (v : Tree). contents_at v.tree x) i ∙ m.contents_are x l;
        }

pub ended-hosted : (g : Tag) (a b : State) → is_formatting g ≡ true → IsMoved a b → HasEnded g a.fostering a.tree b.tree → IsHosted a → IsHosted b
ended-hosted g a b w i m k = moved-hosted a b i (ended-at g a.fostering a.tree b.tree a.tree.head a.tree.form w m k).hosted

link-at : (foster : Bool) (u z : Tree) → IsLinkClosed foster u z → IsHostedAt u.tree u.stack u.list u.head u.form → IsHostedAt z.tree z.stack z.list u.head u.form
link-at foster u z r k = by (last_named u.tree tag.A u.list) refl
  where
    by : (o : Option ℕ) → last_named u.tree tag.A u.list ≡ o → IsHostedAt z.tree z.stack z.list u.head u.form
    by None e =
        let i = r.none e in
        subst (λ (l : List Entry). IsHostedAt z.tree z.stack l u.head u.form) (sym (ap (λ (v : Tree). v.list) i)) (subst (λ (s : List ℕ). IsHostedAt z.tree s u.list u.head u.form) (sym (ap (λ (v : Tree). v.stack) i)) (subst (λ (t : Nodes). IsHostedAt t u.stack u.list u.head u.form) (sym (ap (λ (v : Tree). v.tree) i)) k))
    by (Some x) e =
        let c = r.some x e in
        let i = c.2 in
        let n = named-last u.tree tag.A u.list x e in
        let g : tag_at u.tree x ≡ tag.A = same-tag (tag_at u.tree x) tag.A n in
        let none : contents_at u.tree x ≡ None = no-contents u.tree k.tied.laid x (ap (λ (v : Tag). is_same v tag.Template) g) in
        let m = ended-at tag.A foster u c.0 u.head u.form refl c.1 k in
        let here : contents_at c.0.tree x ≡ None = m.contents_are x (there x g) ∙ none in
        subst (λ (l : List Entry). IsHostedAt z.tree z.stack l u.head u.form) (sym (ap (λ (v : Tree). v.list) i)) (subst (λ (s : List ℕ). IsHostedAt z.tree s (without_node x c.0.list) u.head u.form) (sym (ap (λ (v : Tree). v.stack) i))
        (subst (λ (t : Nodes). IsHostedAt t (remaining x c.0.stack) (without_node x c.0.list) u.head u.form) (sym (ap (λ (v : Tree). v.tree) i))
        (list-at c.0.tree (remaining x c.0.stack) c.0.list (without_node x c.0.list) u.head u.form (part-simple c.0.tree (nodes_of c.0.list) (nodes_of (without_node x c.0.list)) (λ y h. entry-left x c.0.list y h) m.hosted.listed)
        (remaining-hosted c.0.tree x c.0.stack c.0.list u.head u.form here m.hosted))))
      where
        there : (x : ℕ) → tag_at u.tree x ≡ tag.A → x < length u.tree.labels
        there x g = elim (cases_lt x (length u.tree.labels)) [
          | inl i ↦ i
          | inr i ↦ absurd (let w : tag_at u.tree x ≡ tag.Other = ap tag_in (get_or_past u.tree.labels x node.Document i) in tag-apart (sym w ∙ g))
        ]
          where
            tag-apart : tag.Other ≡ tag.A → ⊥
            tag-apart e = false≢true (ap (λ v. is_same v tag.A) e)

pub link-hosted : (a b : State) → IsMoved a b → IsLinkClosed a.fostering a.tree b.tree → IsHosted a → IsHosted b
link-hosted a b i m k = moved-hosted a b i (link-at a.fostering a.tree b.tree m k)

-- FOREIGN CONTENT

-- what the rules for it close
pub closed-hosted : (y : Symbol) (t : TokenKind) (a : State) → IsHosted a → IsHosted (with_stack (stack_after a.tree y t) a)
closed-hosted y t a k = by (leaves_foreign y t) (ends_any y) (length a.tree.stack == 1)
  where
    v : Tree
    v = a.tree

    by : (x e r : Bool) → IsHostedAt v.tree (cond x (left_foreign v) (cond e (cond r v.stack (before_index (found_foreign v (tag_name t)) v.stack)) v.stack)) v.list v.head v.form
    by true e r = few-hosted v.tree (home_end v) v.stack v.list v.head v.form k
    by false true true = k
    by false true false = before-hosted v.tree (found_foreign v (tag_name t)) v.stack v.list v.head v.form k
    by false false r = k

-- AN ELEMENT OF THE HEAD, MADE AFTER IT

-- where something is open, whatever stands where, the place for the current node is a node
module _ (t : Nodes) (l : IsLaid t) (s : List ℕ) (i : (x : ℕ) → has x s ≡ true → x < length t.labels) where
  inside-at : (x : ℕ) → x < length t.labels → IsAt t (Last (inside t x))
  inside-at x h = by (contents_at t x) refl
    where
      by : (o : Option ℕ) → contents_at t x ≡ o → IsAt t (Last (get o x))
      by None e = (x, refl, h)
      by (Some c) e = (c, refl, (l.contents_is x c e).0)

  -- the last of these, or the node itself
  last-in : (xs : List ℕ) (b : ℕ) → b < length t.labels → ((x : ℕ) → has x xs ≡ true → x < length t.labels) → get (last_of xs) b < length t.labels
  last-in xs b h f = by (last_of xs) refl
    where
      by : (o : Option ℕ) → last_of xs ≡ o → get o b < length t.labels
      by None e = h
      by (Some x) e = f x (has-last x xs e)

  passing-in : (p : ℕ → Bool) (xs : List ℕ) → ((x : ℕ) → has x xs ≡ true → x < length t.labels) → (x : ℕ) → last_where p xs ≡ Some x → x < length t.labels
  passing-in p xs f x e = elim (cases_bool (list_any p xs)) [
    | inl h ↦ (let c = last-split p xs h in let m : x ≡ c.0 = (let w = sym e ∙ c.1 in cc) in subst (λ (v : ℕ). v < length t.labels) (sym m) (f c.0 (subst (λ (v : List ℕ). has c.0 v ≡ true) (sym c.3) (has-mid c.0 (below p xs) (above p xs)))))
    | inr h ↦ absurd (let w = sym e ∙ last_where-none p xs h in cc)
  ]

  above-in : (x : ℕ) → has x (above (table t) s) ≡ true → x < length t.labels
  above-in x h = i x (subst (λ (v : List ℕ). has x v ≡ true) (sym (split-above (table t) s)) (has-append x (up_to (table t) s) (above (table t) s) ∙ by (has x (up_to (table t) s)) h))
    where
      by : (b : Bool) → has x (above (table t) s) ≡ true → cond b true (has x (above (table t) s)) ≡ true
      by true k = refl
      by false k = k

  table-at : (b : ℕ) → b < length t.labels → s ≡ below (table t) s ++ b ∷ above (table t) s → IsAt t (by_table t (below (table t) s) b (parent_of t b))
  table-at b h e = by (parent_of t b) refl
    where
      front : (x : ℕ) → has x (below (table t) s) ≡ true → x < length t.labels
      front x g = i x (subst (λ (v : List ℕ). has x v ≡ true) (sym e) (has-append x (below (table t) s) (b ∷ above (table t) s) ∙ ap (λ c. cond c true (has x (b ∷ above (table t) s))) g))

      by : (o : Option ℕ) → parent_of t b ≡ o → IsAt t (by_table t (below (table t) s) b o)
      by None g = inside-at (get (last_of (below (table t) s)) b) (last-in (below (table t) s) b h front)
      by (Some p) g = (p, g, l.parent_in b p g)

  fostered-at : IsAt t (fostered t s)
  fostered-at = elim (cases_bool (list_any (template t) (above (table t) s))) [
    | inl h ↦ (let c = last-split (template t) (above (table t) s) h in rw (h, c.1) (inside-at c.0 (passing-in (template t) (above (table t) s) above-in c.0 c.1)))
    | inr h ↦ rw h outside
  ]
    where
      outside : IsAt t (outside_table t s (last_where (table t) s))
      outside = elim (cases_bool (list_any (table t) s)) [
        | inl a ↦ (let c = last-split (table t) s a in rw c.1 (table-at c.0 (passing-in (table t) s i c.0 c.1) c.3))
        | inr a ↦ rw (last_where-none (table t) s a) (first s i)
      ]
        where
          first : (s : List ℕ) → ((x : ℕ) → has x s ≡ true → x < length t.labels) → IsAt t (Last (get (first_of s) 0))
          first [] f = (0, refl, l.some)
          first (x ∷ xs) f = (x, refl, f x (rw (eqb-self x) refl))

  current-at : (foster : Bool) → IsAt t (place_of t s None foster)
  current-at foster = by (fosters t (get (last_of s) 0) foster)
    where
      by : (b : Bool) → IsAt t (cond b (fostered t s) (Last (inside t (get (last_of s) 0))))
      by true = fostered-at
      by false = inside-at (get (last_of s) 0) (last-in s 0 l.some i)

pub head-overhung : (t : TokenKind) (a : State) → IsHosted a → IsOverhung (after (InsertAt target.Head) t a)
head-overhung t a k =
    let v = a.tree in
    let p = target-at v.tree v.stack v.list v.head v.form target.Head k in
    let d = element_of a t in
    open-overhung v.tree k.tied.laid d (place_for v target.Head) p.0 p.1 p.2 (element-fresh v.tree (tag_name t) (attrs_of t) (Token (number_of a.ledger))) v.stack v.list v.head v.form k

pub head-hosted : (t : TokenKind) (a : State) → names_template t ≡ true → IsHosted a → IsHosted (after (InsertAt target.Head) t a)
head-hosted t a n k =
    let v = a.tree in
    let p = target-at v.tree v.stack v.list v.head v.form target.Head k in
    let d = element_of a t in
    open-hosted v.tree k.tied.laid d (place_for v target.Head) p.0 p.1 p.2 (element-fresh v.tree (tag_name t) (attrs_of t) (Token (number_of a.ledger))) v.stack v.list v.head v.form
    (λ e. absurd (false≢true (sym e ∙ template-same (tag_of (tag_name t)) ∙ n))) k

text-over : (v : Tree) (foster : Bool) (run : List ℕ) → IsOverhungAt v.tree v.stack v.list v.head v.form → IsOverhungAt (with_text v foster run) v.stack v.list v.head v.form
text-over v foster run k = by (text_before v.tree (place_here v foster))
  where
    inside-stack : (x : ℕ) → has x v.stack ≡ true → x < length v.tree.labels
    inside-stack x h = elim (has-pushed x k.current k.low (sym (ap (has x) k.stack_is) ∙ h)) [ inl e ↦ k.tied.inside x e | inr e ↦ subst (λ (w : ℕ). w < length v.tree.labels) (sym e) k.inside ]

    at : IsAt v.tree (place_here v foster)
    at = current-at v.tree k.tied.laid v.stack inside-stack foster

    by : (o : Option ℕ) → IsOverhungAt (bare (texted_run (tree_or_new v.tree (place_here v foster) o) (node_or_next v.tree o) run)) v.stack v.list v.head v.form
    by None =
        alike-overhung (with_new v.tree (place_here v foster) new.Text) (bare (texted_run (with_new v.tree (place_here v foster) new.Text) (length v.tree.labels) run)) v.stack v.list v.head v.form
        (run-alike (with_new v.tree (place_here v foster) new.Text) (length v.tree.labels) run)
        (leaf-overhung v.tree k.tied.laid new.Text (place_here v foster) at.0 at.1 at.2 (text-fresh v.tree) v.stack v.list v.head v.form k)
    by (Some x) = alike-overhung v.tree (bare (texted_run v.tree x run)) v.stack v.list v.head v.form (run-alike v.tree x run) k

pub text-overhung : (t : TokenKind) (a : State) → IsOverhung a → IsOverhung (after InsertCharacter t a)
text-overhung t a k = text-over a.tree a.fostering (char_of t) k

-- all but the last
popped-is : (s : List ℕ) (x : ℕ) → is_any s ≡ true → popped (s ++ x ∷ []) ≡ s
popped-is [] x h = absurd (false≢true h)
popped-is (y ∷ s) x h =
    ap (λ n. take n ((y ∷ s) ++ x ∷ [])) (let e = length-append (y ∷ s) (x ∷ []) in let k : kept_to (length ((y ∷ s) ++ x ∷ [])) (length ((y ∷ s) ++ x ∷ []) - 1) ≡ length (y ∷ s) = omega (arith, e) in k)
    ∙ take-append_seam (y ∷ s) (x ∷ [])

pub pop-overhung : (t : TokenKind) (a : State) → IsOverhung a → IsHosted (after Pop t a)
pop-overhung t a k =
    let v = a.tree in
    subst (λ (s : List ℕ). IsHostedAt v.tree s v.list v.head v.form) (sym (ap popped k.stack_is ∙ popped-is k.low k.current k.some_open))
    (record { tied = k.tied; some_open = k.some_open; pointed = k.pointed; listed = k.listed })

-- WHERE NOTHING IS OPEN

-- the word opens nothing, and changes no mode
abbrev pub is_still : Word → Bool
is_still (InsertCommentAt target.Document) = true
is_still InsertDoctype = true
is_still (Drop c) = true
is_still End = true
is_still (Quirks q) = true
is_still (Switch m) = true
is_still _ = false

pub still-bare : (w : Word) (t : TokenKind) (a : State) → is_still w ≡ true → IsBare a → IsBare (after w t a)
still-bare (InsertCommentAt target.Document) t a c k = leaf-bare a.tree.tree k.laid (comment_of a t) (Last 0) 0 refl k.laid.some (comment-fresh a.tree.tree (data_of t) (number_of a.ledger)) a.tree.stack a.tree.list a.tree.head a.tree.form k
still-bare (InsertCommentAt target.Head) t a c k = absurd (false≢true c)
still-bare (InsertCommentAt target.First) t a c k = absurd (false≢true c)
still-bare (InsertCommentAt (target.Current f)) t a c k = absurd (false≢true c)
still-bare InsertDoctype t a c k = leaf-bare a.tree.tree k.laid (doctype_of a t) (Last 0) 0 refl k.laid.some (doctype-fresh a.tree.tree (name_id t) (public_id t) (system_id t) (number_of a.ledger)) a.tree.stack a.tree.list a.tree.head a.tree.form k
still-bare (Drop cause) t a c k = k
still-bare End t a c k = k
still-bare (Quirks q) t a c k = k
still-bare (Switch m) t a c k = k
still-bare w t a c k = absurd (false≢true c)

html-name : tag_of (name_of tag.Html) ≡ tag.Html
unfolding tag_of
html-name = refl

-- the html element is the first to be opened
html-tag : (t : Nodes) (attrs : List Attr) (o : Origin) → tag_in (label_for t (new.Element (name_of tag.Html) attrs o)) ≡ tag.Html
html-tag t attrs o = subst (λ g. tag_in (cond (is_template g) (template_element (length t.labels) (name_of tag.Html) g attrs o) (plain_element (name_of tag.Html) g attrs o)) ≡ tag.Html) (sym html-name) refl

html-hosted : (v : Tree) (attrs : List Attr) (o : Origin) → IsBareAt v.tree v.stack v.list v.head v.form
    → IsHostedAt (with_new v.tree (Last 0) (new.Element (name_of tag.Html) attrs o)) (with_open v) v.list v.head v.form
html-hosted v attrs o k =
    let d = new.Element (name_of tag.Html) attrs o in
    subst (λ (s : List ℕ). IsHostedAt (with_new v.tree (Last 0) d) (s ++ length v.tree.labels ∷ []) v.list v.head v.form) (sym k.stack_is)
    (root-opened v.tree k.laid d (Last 0) 0 refl k.laid.some (element-fresh v.tree (name_of tag.Html) attrs o) v.list v.head v.form refl (html-tag v.tree attrs o)
    (subst (λ (s : List ℕ). IsBareAt v.tree s v.list v.head v.form) k.stack_is k))

pub root-hosted : (t : TokenKind) (a : State) → IsBare a → IsHosted (after InsertRoot t a)
root-hosted t a k = html-hosted a.tree (attrs_of t) (Token (number_of a.ledger)) k

pub implied-hosted : (t : TokenKind) (a : State) → IsBare a → IsHosted (after ImplyRoot t a)
implied-hosted t a k = html-hosted a.tree [] Unasked k

-- WHERE IT BEGINS

-- a node alone
single-laid : (t : Nodes) (d : NodeData) → t.labels ≡ d ∷ [] → t.parents ≡ None ∷ [] → t.children ≡ [] ∷ [] → host_in d ≡ None → contents_in d ≡ None → is_template (tag_in d) ≡ false → (is_special (tag_in d) ≡ true → tag_in d ≡ tag.Html) → IsLaid t
single-laid t d e f g h c n s = record {
  some = ap-less (sym (ap length e));
  as_many_parents = ap length f ∙ sym (ap length e);
  as_many_lists = ap length g ∙ sym (ap length e);
  parent_in = λ x p w. absurd (let m = sym (alone-at x) ∙ w in cc);
  child_has_parent = λ p x w. absurd (false≢true (sym (ap (has x) (childless p)) ∙ w));
  parent_has_child = λ p x w. absurd (let m = sym (alone-at x) ∙ w in cc);
  once = λ p. subst Distinct (sym (childless p)) tt;
  hosts = λ x. ap is_some (ap contents_in (ap (λ ls. get_or ls x node.Document) e)) ∙ hosts-at x ∙ sym (ap is_template (ap tag_in (ap (λ ls. get_or ls x node.Document) e)));
  contents_is = λ x k w. absurd (let m = sym (contents-none x) ∙ w in cc);
  younger = λ k y w. absurd (let m = sym (host-none k) ∙ w in cc);
  alone = λ k y w. alone-at k;
  root_alone = alone-at 0;
  root_host = host-none 0;
  root_tag = λ w. ap (λ ls. tag_in (get_or ls 0 node.Document)) e ∙ s (sym (ap (λ ls. is_special (tag_in (get_or ls 0 node.Document))) e) ∙ w);
  no_older = λ k y x w o. absurd (let m = sym (host-none k) ∙ w in cc);
}
  where
    ap-less : {n : ℕ} → 1 ≡ n → 0 < n
    ap-less w = omega (arith, w)

    one : (x : ℕ) → get_or {A = Option ℕ} (None ∷ []) x None ≡ None
    one zero = refl
    one (suc x) = refl

    none : (x : ℕ) → get_or {A = List ℕ} ([] ∷ []) x [] ≡ []
    none zero = refl
    none (suc x) = refl

    alone-at : (x : ℕ) → parent_of t x ≡ None
    alone-at x = ap (λ ps. get_or ps x None) f ∙ one x

    childless : (x : ℕ) → children_of t x ≡ []
    childless x = ap (λ cs. get_or cs x []) g ∙ none x

    hosts-at : (x : ℕ) → is_some (contents_in (get_or (d ∷ []) x node.Document)) ≡ is_template (tag_in (get_or (d ∷ []) x node.Document))
    hosts-at zero = ap is_some c ∙ sym n
    hosts-at (suc x) = refl

    contents-none : (x : ℕ) → contents_at t x ≡ None
    contents-none x = ap (λ ls. contents_in (get_or ls x node.Document)) e ∙ by x
      where
        by : (x : ℕ) → contents_in (get_or (d ∷ []) x node.Document) ≡ None
        by zero = c
        by (suc x) = refl

    host-none : (x : ℕ) → host_at t x ≡ None
    host-none x = ap (λ ls. host_in (get_or ls x node.Document)) e ∙ by x
      where
        by : (x : ℕ) → host_in (get_or (d ∷ []) x node.Document) ≡ None
        by zero = h
        by (suc x) = refl

nothing-listed : (t : Nodes) → AreSimple t []
nothing-listed t = record { inside = λ x h. absurd (false≢true h); no_host = λ x h. absurd (false≢true h); no_template = λ x h. absurd (false≢true h) }

nowhere-pointed : (t : Nodes) → ArePointed t None None
nowhere-pointed t = record { head = λ x e. absurd (let w = e in cc); form = λ x e. absurd (let w = e in cc) }

pub document-bare : (l : Option Limits) (q f : Bool) (k : ℕ) → IsBare (first_state Document l q f k)
document-bare l q f k = record {
  stack_is = refl;
  laid = single-laid (first_state Document l q f k).tree.tree node.Document refl refl refl refl refl refl (λ h. absurd (let w = h in cc));
  pointed = nowhere-pointed (first_state Document l q f k).tree.tree;
  listed = nothing-listed (first_state Document l q f k).tree.tree;
}

-- the root of a fragment
abbrev html_node : NewNode
html_node = new.Element (name_of tag.Html) [] Unasked

pub fragment-hosted : (context : Tag) (in_form : Bool) (l : Option Limits) (q f : Bool) (k : ℕ) → IsHosted (first_state (Fragment context in_form) l q f k)
fragment-hosted context in_form l q f k = record {
  tied = record {
    laid = alone;
    inside = λ x h. (let m = only x h in let n = alone.some in omega (arith, m, n));
    once = (refl, tt);
    first = λ x h. (let m : x ≡ 0 = (let w = h in cc) in ap (tag_at u) m ∙ named);
    rooted = λ x h. inl (let w = h in cc);
    based = ((λ h. itself), tt);
  };
  some_open = refl;
  pointed = nowhere-pointed u;
  listed = nothing-listed u;
}
  where
    u : Nodes
    u = (first_state (Fragment context in_form) l q f k).tree.tree

    no_template : is_template (tag_of (name_of tag.Html)) ≡ false
    no_template = ap is_template html-name

    named-label : tag_in (label_for (empty_tree l) html_node) ≡ tag.Html
    named-label = html-tag (empty_tree l) [] Unasked

    labels-are : u.labels ≡ label_for (empty_tree l) html_node ∷ []
    labels-are = ap (λ b. (cond b (added_template (empty_tree l) (label_for (empty_tree l) html_node) (made_weight (empty_tree l) html_node)) (added (empty_tree l) (label_for (empty_tree l) html_node) (made_weight (empty_tree l) html_node))).labels) no_template

    parents-are : u.parents ≡ None ∷ []
    parents-are = ap (λ b. (cond b (added_template (empty_tree l) (label_for (empty_tree l) html_node) (made_weight (empty_tree l) html_node)) (added (empty_tree l) (label_for (empty_tree l) html_node) (made_weight (empty_tree l) html_node))).parents) no_template

    children-are : u.children ≡ [] ∷ []
    children-are = ap (λ b. (cond b (added_template (empty_tree l) (label_for (empty_tree l) html_node) (made_weight (empty_tree l) html_node)) (added (empty_tree l) (label_for (empty_tree l) html_node) (made_weight (empty_tree l) html_node))).children) no_template

    alone : IsLaid u
    alone = (let w = element-fresh (empty_tree l) (name_of tag.Html) [] Unasked in
        single-laid u (label_for (empty_tree l) html_node) labels-are parents-are children-are w.host_none (w.contents_are ∙ ap (λ b. cond b (Some 1) None) no_template) (w.template_is ∙ no_template) (λ h. named-label))

    named : tag_at u 0 ≡ tag.Html
    named = ap (λ ls. tag_in (get_or ls 0 node.Document)) labels-are ∙ named-label

    only : (x : ℕ) → has x (0 ∷ []) ≡ true → x ≡ 0
    only x h = elim (cases_eqb x 0) [ inl e ↦ e.1 | inr e ↦ absurd (let m : has x (0 ∷ []) ≡ false = rw e.0 refl in cc) ]

-- what is left out of the counts
core-alike : (a b : State) → core a ≡ core b → IsAlikeIn b.tree.tree a.tree.tree
core-alike a b e = marks-alike b.tree.tree a.tree.tree (ap (λ (v : State). v.tree.tree.labels) e) (ap (λ (v : State). v.tree.tree.parents) e) (ap (λ (v : State). v.tree.tree.children) e)

abbrev with_nodes : State → Nodes → State
with_nodes a t = record a { tree = record a.tree { tree = t } }

core-same : (a b : State) → core a ≡ core b → AreSameHosts (with_nodes b a.tree.tree) a
core-same a b e = (refl, ap (λ (v : State). v.tree.stack) e, ap (λ (v : State). v.tree.list) e, ap (λ (v : State). v.tree.head) e, ap (λ (v : State). v.tree.form) e)

pub core-hosted : (a b : State) → core a ≡ core b → IsHosted b → IsHosted a
core-hosted a b e k = same-hosted (with_nodes b a.tree.tree) a (core-same a b e) (alike-hosted b.tree.tree a.tree.tree b.tree.stack b.tree.list b.tree.head b.tree.form (core-alike a b e) k)

pub core-bare : (a b : State) → core a ≡ core b → IsBare b → IsBare a
core-bare a b e k = same-bare (with_nodes b a.tree.tree) a (core-same a b e) (record {
  stack_is = k.stack_is;
  laid = alike-laid b.tree.tree a.tree.tree (core-alike a b e) k.laid;
  pointed = alike-pointed b.tree.tree a.tree.tree b.tree.head b.tree.form (core-alike a b e) k.pointed;
  listed = alike-simple b.tree.tree a.tree.tree (nodes_of b.tree.list) (core-alike a b e) k.listed;
})

-- AND WHAT FOLLOWS

-- hosts get smaller and smaller
stands-less : (t : Nodes) → IsLaid t → (h x : ℕ) → StandsIn t h x → h < x
stands-less t l h _ (within x c o e) = (let m = l.no_older c h x e o in let n = l.younger c h e in omega (arith, m, n))
stands-less t l h _ (deeper x c k o e s) = (let m = l.no_older c k x e o in let n = l.younger c k e in let w = stands-less t l h k s in omega (arith, m, n, w))

pub hosts-apart : (a : State) → IsLaid a.tree.tree → NoTemplateHoldsItself a.tree.tree
hosts-apart a l h s = (let w = stands-less a.tree.tree l h h s in omega (arith, w))

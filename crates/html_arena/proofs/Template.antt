-- A new template and its Contents node.
use Rattle.std.proofs.Common.{◌≡◌, ◌≢◌, ℕ, ◌+◌, ◌-◌, ◌^◌, min, ◌<◌, ◌≤◌, true, false, cond, eqb, List, [], ◌∷◌, ◌++◌, length, Option, Some, None, is_some, inl, inr, refl, sym, ◌∙◌, ap, subst, arith}
use Rattle.std.proofs.lemmas.List.{append_assoc, get_or_append_left, get_or_past, get_or_push, length_push}
use Rattle.std.proofs.lemmas.Bool.{cases_lt}
use Rattle.html_names.specs.declared.tag.Tag.{Tag}
use Rattle.html_names.specs.Names.{tag_of}
use Rattle.html_names.specs.Sets.{is_template}
use Rattle.html_tokens.specs.declared.attributes.Attr.{Attr}
use Rattle.html_arena.specs.declared.links.Links.{Links}
use Rattle.html_arena.specs.declared.marks.Marks.{Marks}
use Rattle.html_arena.specs.declared.arena.Limits.{Limits}
use Rattle.html_arena.specs.declared.data.Origin.{Origin}
use Rattle.html_arena.specs.declared.data.NodeData.{NodeData}
use Rattle.html_arena.specs.declared.data.NodeData.TheVariants.{Document, Contents, Element}
use Rattle.html_arena.specs.Budget.{AreWithin}
use Rattle.html_arena.specs.Data.{contents_in, host_in, label_in, name_in, tag_in}
use Rattle.html_arena.specs.Links.{blank, parent_at}
use Rattle.html_arena.specs.Make.{template_element}
use Rattle.html_arena.specs.Marks.{no_marks}
use Rattle.html_arena.specs.Tree.{Tree, added_template, more}
use Rattle.html_arena.specs.Weight.{capped, weight}
use Rattle.html_arena.specs.Whole.{IsArena, IsLabelled, IsWhole, children_in, parents_in, tree_of}
use Rattle.html_arena.proofs.Labels.{tag_of-nil}
use Rattle.html_arena.proofs.Made.{grown_parent, made_children, made_parents, made_whole}
use Rattle.html_arena.proofs.Siblings.{cases_eqb}

-- a label in a list with one more
push-at : (ds : List NodeData) (d : NodeData) (z : ℕ) → label_in (ds ++ d ∷ []) z ≡ cond (eqb z (length ds)) d (label_in ds z)
push-at ds d z = elim (cases_eqb z (length ds)) [
  | inl e ↦ rw e.0 (get_or_push ds d Document z (sym e.1))
  | inr e ↦ elim (cases_lt z (length ds)) [
    | inl b ↦ rw e.0 (get_or_append_left ds (d ∷ []) Document z b)
    | inr b ↦
        let n = e.1 in
        let l = length_push ds d in
        let far : length ds + 1 ≤ z = (let o : (z ≡ length ds → ⊥) = n in grind arith) in
        rw e.0 (get_or_past (ds ++ d ∷ []) z Document (omega arith) ∙ sym (get_or_past ds z Document b))
  ]
]

-- what is said of a label holds of each of the three kinds of places
three_places : (P : NodeData → Type 0) (ds : List NodeData) (d k : NodeData) (z : ℕ)
    → (z ≡ length ds → P d) → (z ≡ length ds + 1 → P k) → (z ≢ length ds → z ≢ length ds + 1 → P (label_in ds z)) → P (label_in ((ds ++ d ∷ []) ++ k ∷ []) z)
three_places P ds d k z here next other =
    let l = length_push ds d in
    subst P (sym (push-at (ds ++ d ∷ []) k z ∙ ap (λ n. cond (eqb z n) k (label_in (ds ++ d ∷ []) z)) l)) (elim (cases_eqb z (length ds + 1)) [
      | inl e ↦ rw e.0 (next e.1)
      | inr e ↦ rw e.0 (subst P (sym (push-at ds d z)) (elim (cases_eqb z (length ds)) [
        | inl f ↦ rw f.0 (here f.1)
        | inr f ↦ rw f.0 (other f.1 e.1)
      ]))
    ])

-- an element that is a template with the next node as its contents
pub record IsHost (x : ℕ) (d : NodeData) : Type 0 where
  pub contents : contents_in d ≡ Some (x + 1)
  pub no_host : host_in d ≡ None
  pub template : is_template (tag_in d) ≡ true
  pub tagged : tag_in d ≡ tag_of (name_in d)

pub element_is : (n : List ℕ) (g : Tag) (a b : List Attr) (o : Origin) (c x : ℕ) → a ≡ b → c ≡ x + 1
    → Element (record { name = n; tag = g; attrs = a; origin = o; is_clone = false; contents = Some c }) ≡ template_element x n g b o
element_is n g a b o c x ea ec = rw (ea, ec) refl

pub template_host : (x : ℕ) (n : List ℕ) (g : Tag) (a : List Attr) (o : Origin) → g ≡ tag_of n → is_template g ≡ true → IsHost x (template_element x n g a o)
template_host x n g a o e t = record { contents = refl; no_host = refl; template = t; tagged = e }

module _ (ls : List Links) (ds : List NodeData) (ms : List Marks) (same : length ls ≡ length ds) (k : IsLabelled ls ds ms) (d : NodeData) (o : IsHost (length ds) d) where
  abbrev nodes : List NodeData
  nodes = (ds ++ d ∷ []) ++ Contents (length ds) ∷ []

  abbrev links : List Links
  links = (ls ++ blank ∷ []) ++ blank ∷ []

  nodes-length : length nodes ≡ length ds + 2
  nodes-length = (let a = length_push (ds ++ d ∷ []) (Contents (length ds)) in let b = length_push ds d in omega arith)

  nodes-old : (z : ℕ) → z < length ds → label_in nodes z ≡ label_in ds z
  nodes-old z b = three_places (λ v. v ≡ label_in ds z) ds d (Contents (length ds)) z (λ e. absurd (omega arith)) (λ e. absurd (omega arith)) (λ e f. refl)

  nodes-host : label_in nodes (length ds) ≡ d
  nodes-host = three_places (λ v. v ≡ d) ds d (Contents (length ds)) (length ds) (λ e. refl) (λ e. absurd (omega arith)) (λ e f. absurd (e refl))

  nodes-contents : label_in nodes (length ds + 1) ≡ Contents (length ds)
  nodes-contents = three_places (λ v. v ≡ Contents (length ds)) ds d (Contents (length ds)) (length ds + 1) (λ e. absurd (omega arith)) (λ e. refl) (λ e f. absurd (f refl))

  links-parent : (z : ℕ) → parent_at links z ≡ parent_at ls z
  links-parent z = grown_parent (ls ++ blank ∷ []) z ∙ grown_parent ls z

  links-past : (z : ℕ) → length ds ≤ z → parent_at links z ≡ None
  links-past z b = links-parent z ∙ ap (λ (l : Links). l.parent) (get_or_past ls z blank (omega arith))

  pair_labelled : IsLabelled links nodes ((ms ++ no_marks ∷ []) ++ no_marks ∷ [])
  pair_labelled =
      let l = nodes-length in
      let a = length_push (ms ++ no_marks ∷ []) no_marks in
      let b = length_push ms no_marks in
      let m = k.as_many_marks in
      record {
        as_many_marks = omega arith;
        templates = record {
          hosts = λ z. three_places (λ v. is_some (contents_in v) ≡ is_template (tag_in v)) ds d (Contents (length ds)) z
              (λ e. rw (o.contents, o.template) refl) (λ e. refl) (λ e f. k.templates.hosts z);
          contents_is = λ z c. three_places (λ v. contents_in v ≡ Some c → (c < length nodes) × (host_in (label_in nodes c) ≡ Some z)) ds d (Contents (length ds)) z
              (λ e q. let w : c ≡ length ds + 1 = (let p = o.contents in cc) in (omega arith, ap (λ v. host_in (label_in nodes v)) w ∙ ap host_in nodes-contents ∙ ap Some (sym e)))
              (λ e q. absurd cc)
              (λ e f q. let w = k.templates.contents_is z c q in (omega (arith, w.0), ap host_in (nodes-old c w.0) ∙ w.1));
          host_is = λ c z. three_places (λ v. host_in v ≡ Some z → (z < length nodes) × (contents_in (label_in nodes z) ≡ Some c)) ds d (Contents (length ds)) c
              (λ e q. absurd (let p = o.no_host in cc))
              (λ e q. let w : z ≡ length ds = cc in (omega arith, ap (λ v. contents_in (label_in nodes v)) w ∙ ap contents_in nodes-host ∙ o.contents ∙ ap Some (sym e)))
              (λ e f q. let w = k.templates.host_is c z q in (omega (arith, w.0), ap contents_in (nodes-old z w.0) ∙ w.1));
        };
        contents_alone = λ z h. three_places (λ v. host_in v ≡ Some h → parent_at links z ≡ None) ds d (Contents (length ds)) z
            (λ e q. links-past z (omega arith)) (λ e q. links-past z (omega arith)) (λ e f q. links-parent z ∙ k.contents_alone z h q);
        tagged = λ z. three_places (λ v. tag_in v ≡ tag_of (name_in v)) ds d (Contents (length ds)) z (λ e. o.tagged) (λ e. tag_of-nil) (λ e f. k.tagged z);
      }

stays : (h k : ℕ) → h ≡ min k (2 ^ 128 - 1) → h ≡ min (h + 0) (2 ^ 128 - 1)
stays h k e = omega arith

-- both in one edit
module _ (ls : List Links) (ds : List NodeData) (ms : List Marks) (h s : ℕ) (l : Option Limits) (a : IsArena ls ds ms h l) (d : NodeData) (o : IsHost (length ds) d) (room : AreWithin l (length ds + 2) (more h (capped (weight d)))) (few : length ls + 2 < 2 ^ 32) where
  one : IsWhole (ls ++ blank ∷ []) (ds ++ d ∷ []) (more h (capped (weight d)))
  one = made_whole ls ds h d (more h (capped (weight d))) refl a.whole

  both : IsWhole ((ls ++ blank ∷ []) ++ blank ∷ []) ((ds ++ d ∷ []) ++ Contents (length ds) ∷ []) (more h (capped (weight d)))
  both = made_whole (ls ++ blank ∷ []) (ds ++ d ∷ []) (more h (capped (weight d))) (Contents (length ds)) (more h (capped (weight d))) (stays _ _ refl) one

  two_parents : parents_in ((ls ++ blank ∷ []) ++ blank ∷ []) ≡ parents_in ls ++ None ∷ None ∷ []
  two_parents = made_parents (ls ++ blank ∷ []) ∙ ap (λ v. v ++ None ∷ []) (made_parents ls) ∙ append_assoc (parents_in ls) (None ∷ []) (None ∷ [])

  two_children : children_in ((ls ++ blank ∷ []) ++ blank ∷ []) ≡ children_in ls ++ [] ∷ [] ∷ []
  two_children =
      made_children (ls ++ blank ∷ []) (ds ++ d ∷ []) (more h (capped (weight d))) one
      ∙ ap (λ v. v ++ [] ∷ []) (made_children ls ds h a.whole) ∙ append_assoc (children_in ls) ([] ∷ []) ([] ∷ [])

  two_more : length ((ds ++ d ∷ []) ++ Contents (length ds) ∷ []) ≡ length ds + 2
  two_more = let a = length_push (ds ++ d ∷ []) (Contents (length ds)) in let b = length_push ds d in omega arith

  template_base : IsArena ((ls ++ blank ∷ []) ++ blank ∷ []) ((ds ++ d ∷ []) ++ Contents (length ds) ∷ []) ((ms ++ no_marks ∷ []) ++ no_marks ∷ []) (more h (capped (weight d))) l
      × (tree_of ((ls ++ blank ∷ []) ++ blank ∷ []) ((ds ++ d ∷ []) ++ Contents (length ds) ∷ []) ((ms ++ no_marks ∷ []) ++ no_marks ∷ []) (more h (capped (weight d))) (more s 1) l
      ≡ added_template (tree_of ls ds ms h s l) d (capped (weight d)))
  template_base = (
    record {
      whole = both;
      labelled = pair_labelled ls ds ms a.whole.same_length a.labelled d o;
      within = subst (λ n. AreWithin l n (more h (capped (weight d)))) (sym two_more) room;
      few = (let a = length_push (ls ++ blank ∷ []) blank in let b = length_push ls blank in omega (arith, few));
    },
    rw (two_parents, two_children, append_assoc ds (d ∷ []) (Contents (length ds) ∷ []), append_assoc ms (no_marks ∷ []) (no_marks ∷ [])) refl,
  )

  pub template_is : (t : Tree) → tree_of ls ds ms h s l ≡ t → (new : List Links) (nodes : List NodeData) (marks : List Marks) (h' s' : ℕ)
      → new ≡ (ls ++ blank ∷ []) ++ blank ∷ [] → nodes ≡ (ds ++ d ∷ []) ++ Contents (length ds) ∷ [] → marks ≡ (ms ++ no_marks ∷ []) ++ no_marks ∷ []
      → h' ≡ more h (capped (weight d)) → s' ≡ more s 1
      → IsArena new nodes marks h' l × (tree_of new nodes marks h' s' l ≡ added_template t d (capped (weight d)))
  template_is t e new nodes marks h' s' el en em eh es = (
    subst (λ (v : List Links). IsArena v nodes marks h' l) (sym el)
        (subst (λ (v : List NodeData). IsArena ((ls ++ blank ∷ []) ++ blank ∷ []) v marks h' l) (sym en)
        (subst (λ (v : List Marks). IsArena ((ls ++ blank ∷ []) ++ blank ∷ []) ((ds ++ d ∷ []) ++ Contents (length ds) ∷ []) v h' l) (sym em)
        (subst (λ (v : ℕ). IsArena ((ls ++ blank ∷ []) ++ blank ∷ []) ((ds ++ d ∷ []) ++ Contents (length ds) ∷ []) ((ms ++ no_marks ∷ []) ++ no_marks ∷ []) v l) (sym eh) template_base.0))),
    rw (el, en, em, eh, es) (template_base.1 ∙ ap (λ (t : Tree). added_template t d (capped (weight d))) e),
  )

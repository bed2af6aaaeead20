-- What is said of the nodes' labels, kept by every edit.
use Rattle.std.proofs.Common.{◌≡◌, ℕ, zero, suc, ◌<◌, true, false, cond, eqb, List, [], ◌∷◌, ◌++◌, length, get_or, set, Option, Some, None, is_some, ◌⊎◌, inl, inr, refl, sym, ◌∙◌, ap, subst, arith}
use Rattle.std.proofs.lemmas.List.{length-set, length_push, get_or-set_same, get_or-set_other}
use Rattle.html_names.specs.declared.tag.Tag.{Tag}
use Rattle.html_names.specs.declared.tag.Tag.TheVariants as tag
use Rattle.html_names.specs.Names.{tag_of}
use Rattle.html_names.specs.Sets.{is_formatting, is_template}
use Rattle.html_tokens.specs.declared.attributes.Attr.{Attr}
use Rattle.html_arena.specs.declared.links.Links.{Links}
use Rattle.html_arena.specs.declared.marks.Marks.{Marks}
use Rattle.html_arena.specs.declared.arena.Limits.{Limits}
use Rattle.html_arena.specs.declared.data.NodeData.{NodeData}
use Rattle.html_arena.specs.declared.data.NodeData.TheVariants.{Document, Contents, Element, Text, Comment, Doctype}
use Rattle.html_arena.specs.Data.{label_in, tag_in, name_in, contents_in, host_in, is_linkable, IsElement, IsText, IsLone, cloned, with_char, with_run, with_attrs}
use Rattle.html_arena.specs.Links.{blank, parent_at}
use Rattle.html_arena.specs.Whole.{IsLabelled, IsArena}
use Rattle.html_arena.proofs.Limited.{within_none}
use Rattle.html_arena.proofs.Siblings.{cases_eqb}
use Rattle.html_arena.proofs.Made.{grown_parent}

-- a node that may be linked has no host
pub linkable-host : (d : NodeData) → is_linkable d ≡ true → host_in d ≡ None
linkable-host (Contents h) e = absurd cc
linkable-host (Element d) e = refl
linkable-host Document e = refl
linkable-host (Text s) e = refl
linkable-host (Comment s i) e = refl
linkable-host (Doctype n p s i) e = refl

none_or : (o : Option ℕ) → (o ≡ None) ⊎ ((y : ℕ) × (o ≡ Some y))
none_or None = inl refl
none_or (Some y) = inr (y, refl)

module _ (ls : List Links) (ds : List NodeData) (ms : List Marks) (k : IsLabelled ls ds ms) where
  -- a node with a parent has no host
  pub child-host : (c p : ℕ) → parent_at ls c ≡ Some p → host_in (label_in ds c) ≡ None
  child-host c p e = elim (none_or (host_in (label_in ds c))) [
    | inl h ↦ h
    | inr h ↦ absurd (let n = k.contents_alone c h.0 h.1 in cc)
  ]

  -- c, which has no host, has another parent
  pub relinked : (new : List Links) (c : ℕ) (o : Option ℕ) → host_in (label_in ds c) ≡ None → ((x : ℕ) → parent_at new x ≡ cond (eqb x c) o (parent_at ls x)) → IsLabelled new ds ms
  relinked new c o n up = record {
    as_many_marks = k.as_many_marks;
    templates = k.templates;
    contents_alone = λ x h e. elim (cases_eqb x c) [
      | inl q ↦ absurd (let m : host_in (label_in ds x) ≡ None = subst (λ (v : ℕ). host_in (label_in ds v) ≡ None) (sym q.1) n in cc)
      | inr q ↦ up x ∙ rw q.0 (k.contents_alone x h e)
    ];
    tagged = k.tagged;
  }

  -- c has no parent any more
  pub unlinked : (new : List Links) (c : ℕ) → ((x : ℕ) → parent_at new x ≡ cond (eqb x c) None (parent_at ls x)) → IsLabelled new ds ms
  unlinked new c up = record {
    as_many_marks = k.as_many_marks;
    templates = k.templates;
    contents_alone = λ x h e. up x ∙ elim (cases_eqb x c) as (λ _. cond (eqb x c) None (parent_at ls x) ≡ None) [
      | inl q ↦ rw q.0 refl
      | inr q ↦ rw q.0 (k.contents_alone x h e)
    ];
    tagged = k.tagged;
  }

  pub remarked : (marks : List Marks) → length marks ≡ length ms → IsLabelled ls ds marks
  remarked marks e = record { as_many_marks = e ∙ k.as_many_marks; templates = k.templates; contents_alone = k.contents_alone; tagged = k.tagged }

-- another label at x of which the same is seen
seen_same : {A : Type 0} (f : NodeData → A) (ds : List NodeData) (x : ℕ) (y : NodeData) → x < length ds → f y ≡ f (label_in ds x) → (z : ℕ) → f (label_in (set ds x y) z) ≡ f (label_in ds z)
seen_same f ds x y b e z = elim (cases_eqb z x) [
  | inl q ↦ ap (λ v. f (get_or (set ds x y) v Document)) q.1 ∙ ap f (get_or-set_same ds x y Document b) ∙ e ∙ ap (λ v. f (label_in ds v)) (sym q.1)
  | inr q ↦ ap f (get_or-set_other ds x z y Document q.1)
]

pub relabelled : (ls : List Links) (ds : List NodeData) (ms : List Marks) → IsLabelled ls ds ms → (x : ℕ) (y : NodeData) → x < length ds
    → tag_in y ≡ tag_in (label_in ds x) → name_in y ≡ name_in (label_in ds x) → contents_in y ≡ contents_in (label_in ds x) → host_in y ≡ host_in (label_in ds x)
    → IsLabelled ls (set ds x y) ms
relabelled ls ds ms k x y b eg en ec eh =
    let n = length-set ds x y in
    let g = seen_same tag_in ds x y b eg in
    let m = seen_same name_in ds x y b en in
    let c = seen_same contents_in ds x y b ec in
    let h = seen_same host_in ds x y b eh in
    record {
      as_many_marks = k.as_many_marks ∙ sym n;
      templates = record {
        hosts = λ z. ap is_some (c z) ∙ k.templates.hosts z ∙ ap is_template (sym (g z));
        contents_is = λ z w e. let o = k.templates.contents_is z w (sym (c z) ∙ e) in (omega (arith, o.0), h w ∙ o.1);
        host_is = λ w z e. let o = k.templates.host_is w z (sym (h w) ∙ e) in (omega (arith, o.0), c z ∙ o.1);
      };
      contents_alone = λ z w e. k.contents_alone z w (sym (h z) ∙ e);
      tagged = λ z. g z ∙ k.tagged z ∙ ap tag_of (sym (m z));
    }

-- one more label of which the same is seen as of no node
pushed_same : {A : Type 0} (f : NodeData → A) (ds : List NodeData) (d : NodeData) → f d ≡ f Document → (z : ℕ) → f (label_in (ds ++ d ∷ []) z) ≡ f (label_in ds z)
pushed_same f [] d e zero = e
pushed_same f [] d e (suc z) = refl
pushed_same f (y ∷ ds) d e zero = refl
pushed_same f (y ∷ ds) d e (suc z) = pushed_same f ds d e z

pushed_tag : (ds : List NodeData) (d : NodeData) → tag_in d ≡ tag_of (name_in d) → ((z : ℕ) → tag_in (label_in ds z) ≡ tag_of (name_in (label_in ds z)))
    → (z : ℕ) → tag_in (label_in (ds ++ d ∷ []) z) ≡ tag_of (name_in (label_in (ds ++ d ∷ []) z))
pushed_tag [] d e h zero = e
pushed_tag [] d e h (suc z) = h (suc z)
pushed_tag (y ∷ ds) d e h zero = h zero
pushed_tag (y ∷ ds) d e h (suc z) = pushed_tag ds d e (λ w. h (suc w)) z

-- one more node that needs no other
pub grown_labels : (ls : List Links) (ds : List NodeData) (ms : List Marks) → IsLabelled ls ds ms → (d : NodeData) (m : Marks) → IsLone d → IsLabelled (ls ++ blank ∷ []) (ds ++ d ∷ []) (ms ++ m ∷ [])
grown_labels ls ds ms k d m o =
    let n = length_push ds d in
    let l = length_push ms m in
    let a = k.as_many_marks in
    let g = pushed_same (λ (v : NodeData). is_template (tag_in v)) ds d o.no_template in
    let c = pushed_same contents_in ds d o.no_contents in
    let h = pushed_same host_in ds d o.no_host in
    record {
      as_many_marks = omega arith;
      templates = record {
        hosts = λ z. ap is_some (c z) ∙ k.templates.hosts z ∙ sym (g z);
        contents_is = λ z w e. let q = k.templates.contents_is z w (sym (c z) ∙ e) in (omega (arith, q.0), h w ∙ q.1);
        host_is = λ w z e. let q = k.templates.host_is w z (sym (h w) ∙ e) in (omega (arith, q.0), c z ∙ q.1);
      };
      contents_alone = λ z w e. grown_parent ls z ∙ k.contents_alone z w (sym (h z) ∙ e);
      tagged = pushed_tag ds d o.tagged k.tagged;
    }

pub grown : (ls : List Links) (ds : List NodeData) (ms : List Marks) → IsLabelled ls ds ms → (new : List Links) (nodes : List NodeData) (marks : List Marks) (d : NodeData) (m : Marks) → IsLone d
    → new ≡ ls ++ blank ∷ [] → nodes ≡ ds ++ d ∷ [] → marks ≡ ms ++ m ∷ [] → IsLabelled new nodes marks
grown ls ds ms k new nodes marks d m o a b c =
    subst (λ (v : List Links). IsLabelled v nodes marks) (sym a)
    (subst (λ (v : List NodeData). IsLabelled (ls ++ blank ∷ []) v marks) (sym b)
    (subst (λ (v : List Marks). IsLabelled (ls ++ blank ∷ []) (ds ++ d ∷ []) v) (sym c) (grown_labels ls ds ms k d m o)))

formatting-template : (g : Tag) → is_formatting g ≡ true → is_template g ≡ false
formatting-template tag.Template e = absurd cc
formatting-template _ e = refl

-- a formatting element is an element, and its clone needs no other node
pub formatting-element : (d : NodeData) → is_formatting (tag_in d) ≡ true → IsElement d
formatting-element (Element e) h = tt
formatting-element Document h = absurd cc
formatting-element (Contents x) h = absurd cc
formatting-element (Text s) h = absurd cc
formatting-element (Comment s i) h = absurd cc
formatting-element (Doctype n p s i) h = absurd cc

pub cloned-lone : (d : NodeData) → is_formatting (tag_in d) ≡ true → tag_in d ≡ tag_of (name_in d) → IsLone (cloned d)
cloned-lone (Element e) h t = record { no_contents = refl; no_host = refl; no_template = formatting-template e.tag h; tagged = t }
cloned-lone Document h t = absurd cc
cloned-lone (Contents x) h t = absurd cc
cloned-lone (Text s) h t = absurd cc
cloned-lone (Comment s i) h t = absurd cc
cloned-lone (Doctype n p s i) h t = absurd cc

pub with_run-same : (d : NodeData) (run : List ℕ) → IsText d → (tag_in (with_run d run) ≡ tag_in d) × (name_in (with_run d run) ≡ name_in d) × (contents_in (with_run d run) ≡ contents_in d) × (host_in (with_run d run) ≡ host_in d)
with_run-same (Text s) run i = (refl, refl, refl, refl)
with_run-same Document run i = absurd i
with_run-same (Contents h) run i = absurd i
with_run-same (Element e) run i = absurd i
with_run-same (Comment s j) run i = absurd i
with_run-same (Doctype n p s j) run i = absurd i

pub with_char-same : (d : NodeData) (c : ℕ) → IsText d → (tag_in (with_char d c) ≡ tag_in d) × (name_in (with_char d c) ≡ name_in d) × (contents_in (with_char d c) ≡ contents_in d) × (host_in (with_char d c) ≡ host_in d)
with_char-same (Text s) c i = (refl, refl, refl, refl)
with_char-same Document c i = absurd i
with_char-same (Contents h) c i = absurd i
with_char-same (Element e) c i = absurd i
with_char-same (Comment s j) c i = absurd i
with_char-same (Doctype n p s j) c i = absurd i

pub with_attrs-same : (d : NodeData) (attrs : List Attr) → (tag_in (with_attrs d attrs) ≡ tag_in d) × (name_in (with_attrs d attrs) ≡ name_in d) × (contents_in (with_attrs d attrs) ≡ contents_in d) × (host_in (with_attrs d attrs) ≡ host_in d)
with_attrs-same (Element e) attrs = (refl, refl, refl, refl)
with_attrs-same Document attrs = (refl, refl, refl, refl)
with_attrs-same (Contents h) attrs = (refl, refl, refl, refl)
with_attrs-same (Text s) attrs = (refl, refl, refl, refl)
with_attrs-same (Comment s j) attrs = (refl, refl, refl, refl)
with_attrs-same (Doctype n p s j) attrs = (refl, refl, refl, refl)

-- the tag of the empty name
pub tag_of-nil : tag.Other ≡ tag_of []
unfolding tag_of
tag_of-nil = refl

pub lone_document : IsLone Document
lone_document = record { no_contents = refl; no_host = refl; no_template = refl; tagged = tag_of-nil }

pub lone_text : (s : List ℕ) → IsLone (Text s)
lone_text s = record { no_contents = refl; no_host = refl; no_template = refl; tagged = tag_of-nil }

pub lone_comment : (s : List ℕ) (i : ℕ) → IsLone (Comment s i)
lone_comment s i = record { no_contents = refl; no_host = refl; no_template = refl; tagged = tag_of-nil }

pub lone_doctype : (n p s : Option (List ℕ)) (i : ℕ) → IsLone (Doctype n p s i)
lone_doctype n p s i = record { no_contents = refl; no_host = refl; no_template = refl; tagged = tag_of-nil }

-- an arena without nodes
pub empty_arena : (ls : List Links) (ds : List NodeData) (ms : List Marks) (o : Option Limits) → ls ≡ [] → ds ≡ [] → ms ≡ [] → IsArena ls ds ms 0 o
empty_arena ls ds ms o a b c =
    subst (λ (v : List Links). IsArena v ds ms 0 o) (sym a) (subst (λ (v : List NodeData). IsArena [] v ms 0 o) (sym b) (subst (λ (v : List Marks). IsArena [] [] v 0 o) (sym c) (none o)))
  where
    none : (o : Option Limits) → IsArena [] [] [] 0 o
    none o = record {
      whole = record {
        same_length = refl;
        held_is = refl;
        shape = record {
          up = λ x p h. absurd cc;
          kid = λ p x h. absurd cc;
          distinct = λ p. tt;
          first = λ p. refl;
          last = λ p. refl;
          next = λ x p h. absurd cc;
          previous = λ x p h. absurd cc;
          alone_next = λ x h. refl;
          alone_previous = λ x h. refl;
        };
        acyclic = λ x. ([], refl);
      };
      labelled = record {
        as_many_marks = refl;
        templates = record { hosts = λ x. refl; contents_is = λ x c h. absurd cc; host_is = λ c x h. absurd cc };
        contents_alone = λ x h e. refl;
        tagged = λ x. tag_of-nil;
      };
      within = within_none o;
      few = omega arith;
    }

-- The root of a document and of a fragment, before the first token.
use Rattle.std.proofs.Common.{ℕ, zero, suc, ◌≡◌, ◌<◌, ◌⊎◌, Bool, true, false, List, [], ◌∷◌, length, Option, Some, None, inl, inr, refl, sym, ap, subst, ◌∙◌, arith}
use Rattle.html_names.specs.Names.{name_of, tag_of}
use Rattle.html_names.specs.Sets.{is_template}
use Rattle.html_names.specs.declared.tag.Tag.{Tag}
use Rattle.html_names.specs.declared.tag.Tag.TheVariants as tag
use Rattle.html_tokens.specs.declared.attributes.Attr.{Attr}
use Rattle.html_arena.specs.declared.arena.Limits.{Limits}
use Rattle.html_arena.specs.declared.data.NewNode.{NewNode}
use Rattle.html_arena.specs.declared.data.NewNode.TheVariants as new
use Rattle.html_arena.specs.declared.data.NodeData.{NodeData}
use Rattle.html_arena.specs.declared.data.Origin.{Origin}
use Rattle.html_arena.specs.declared.data.NodeData.TheVariants as node
use Rattle.html_arena.specs.declared.data.Origin.TheVariants.{Implied, Nothing, Token}
use Rattle.html_arena.specs.Data.{host_in, is_clone_in, is_text, label_in, name_in, origin_in, tag_in}
use Rattle.html_arena.specs.Make.{has_contents, label_for, made}
use Rattle.html_arena.specs.Tree.{Tree as Nodes, empty_tree, parent_of}
use Rattle.html_ledger.specs.declared.setting.Setting.TheVariants as setting
use Rattle.html_tree.specs.Inserting.{rest_of}
use Rattle.html_tree.specs.States.{document_state, fragment_state}
use Rattle.html_tree.specs.Proper.{opens}
use Rattle.html_tree.proofs.Inserted.{element-origin, element-tag, made-labels}
use Rattle.html_tree.proofs.Kept.{host-opens, proper-opened}
use Rattle.html_construction.specs.Built.{IsRooted}
use Rattle.html_construction.specs.Origins.{HasOrigin, HasRoot}
use Rattle.html_construction.specs.Standing.{IsStanding}
use Rattle.html_construction.proofs.Accounting.{Told, told-alone, told-none}
use Rattle.html_tree.proofs.Texted.{made-limits}

abbrev root : NewNode
root = new.Element (name_of tag.Html) [] Implied

labels : (l : Option Limits) (k : ℕ) → (fragment_state l k).tree.labels ≡ label_for (empty_tree l) root ∷ rest_of 0 (has_contents root)
labels l k = made-labels (empty_tree l) root

-- the first of these, or the contents of a template
first-or-contents : (b : Bool) (d : NodeData) (x : ℕ) → x < length (d ∷ rest_of 0 b) → (x ≡ 0) ⊎ ((h : ℕ) × (host_in (label_in (d ∷ rest_of 0 b) x) ≡ Some h))
first-or-contents b d zero h = inl refl
first-or-contents true d (suc zero) h = inr (0, refl)
first-or-contents true d (suc (suc x)) h = absurd (omega arith)
first-or-contents false d (suc x) h = absurd (omega arith)

pub fragment-rooted : (l : Option Limits) (k : ℕ) → IsRooted (fragment_state l k)
fragment-rooted l k = λ x h e. elim (first-or-contents (has_contents root) (label_for (empty_tree l) root) x (subst (λ ds. x < length ds) (labels l k) h)) [
  | inl q ↦ inl q
  | inr q ↦ inr (inl (q.0, ap (λ ds. host_in (label_in ds x)) (labels l k) ∙ q.1))
]

pub fragment-standing : (l : Option Limits) (k : ℕ) → IsStanding (fragment_state l k)
unfolding tag_of
fragment-standing l k = record {
  proper = λ x h. proper-opened (fragment_state l k) x (elim (first-or-contents (has_contents root) (label_for (empty_tree l) root) x (subst (λ ds. x < length ds) (labels l k) h)) [
    | inl q ↦ ap (λ ds. opens (tag_in (label_in ds x))) (labels l k) ∙ ap (λ y. opens (tag_in (label_in (label_for (empty_tree l) root ∷ rest_of 0 (has_contents root)) y))) q
        ∙ ap opens (element-tag (empty_tree l) (name_of tag.Html) [] Implied)
    | inr q ↦ ap (λ ds. opens (tag_in (label_in ds x))) (labels l k) ∙ host-opens (label_in (label_for (empty_tree l) root ∷ rest_of 0 (has_contents root)) x) q.0 q.1
  ]);
  framed = λ x e. absurd (let c : None ≡ Some x = e in cc);
}

element-name : (t : Nodes) (name : List ℕ) (attrs : List Attr) (o : Origin) → name_in (label_for t (new.Element name attrs o)) ≡ name
element-name t name attrs o = by (is_template (tag_of name)) refl
  where
    by : (b : Bool) → is_template (tag_of name) ≡ b → name_in (label_for t (new.Element name attrs o)) ≡ name
    by true h = rw h refl
    by false h = rw h refl

alone : (t : Nodes) (d : NewNode) → t.parents ≡ [] → parent_of (made t d) 0 ≡ None
alone t d e = by (has_contents d) refl
  where
    by : (b : Bool) → has_contents d ≡ b → parent_of (made t d) 0 ≡ None
    by true h = rw (h, e) refl
    by false h = rw (h, e) refl

pub fragment-root : (g : Tag) (f : Bool) (l : Option Limits) (k : ℕ) → HasRoot (setting.Fragment g f) (fragment_state l k).tree
fragment-root g f l k = record {
  some_node = (let e = ap length (labels l k) in omega (arith, e));
  label = (
    ap (λ ds. name_in (label_in ds 0)) (labels l k) ∙ element-name (empty_tree l) (name_of tag.Html) [] Implied,
    ap (λ ds. origin_in (label_in ds 0)) (labels l k) ∙ element-origin (empty_tree l) (name_of tag.Html) [] Implied,
  );
  alone = alone (empty_tree l) root refl;
}

pub fragment-limits : (l : Option Limits) (k : ℕ) → (fragment_state l k).tree.limits ≡ l
fragment-limits l k = made-limits (empty_tree l) root

pub fragment-told : (l : Option Limits) (k : ℕ) → Told [] [] (fragment_state l k).tree.labels
fragment-told l k = subst (λ ls. Told [] [] ls) (sym (labels l k)) (told-alone (empty_tree l) tag.Html refl 0 (has_contents root))

-- the document
pub document-rooted : (l : Option Limits) (k : ℕ) → IsRooted (document_state l k)
document-rooted l k = λ x h e. inl (let b : x < 1 = h in omega (arith, b))

pub document-standing : (l : Option Limits) (k : ℕ) → IsStanding (document_state l k)
document-standing l k = record {
  proper = λ x h. proper-opened (document_state l k) x (by x);
  framed = λ x e. absurd (let c : None ≡ Some x = e in cc);
}
  where
    by : (x : ℕ) → opens (tag_in (label_in (node.Document ∷ []) x)) ≡ true
    by zero = refl
    by (suc x) = refl

pub document-root : (l : Option Limits) (k : ℕ) → HasRoot setting.Document (document_state l k).tree
document-root l k = record { some_node = (let b : 0 < 1 = omega arith in b); label = refl; alone = refl }

pub document-told : (l : Option Limits) (k : ℕ) → Told [] [] (document_state l k).tree.labels
document-told l k = told-none (node.Document ∷ [])
    (λ x i e. absurd (no-token x i e))
    (λ x. no-text x)
    (λ x. no-clone x)
    (λ x. any-origin x)
  where
    no-token : (x i : ℕ) → origin_in (label_in (node.Document ∷ []) x) ≡ Token i → ⊥
    no-token zero i e = absurd (let q : Nothing ≡ Token i = e in cc)
    no-token (suc x) i e = absurd (let q : Nothing ≡ Token i = e in cc)

    no-text : (x : ℕ) → is_text (label_in (node.Document ∷ []) x) ≡ false
    no-text zero = refl
    no-text (suc x) = refl

    no-clone : (x : ℕ) → is_clone_in (label_in (node.Document ∷ []) x) ≡ false
    no-clone zero = refl
    no-clone (suc x) = refl

    any-origin : (x : ℕ) → HasOrigin x [] [] [] (label_in (node.Document ∷ []) x)
    any-origin zero = tt
    any-origin (suc x) = tt

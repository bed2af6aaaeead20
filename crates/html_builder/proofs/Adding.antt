-- A new node put last in another, and more text, as a page's tree sees them.
use Rattle.std.proofs.Common.{◌≡◌, ℕ, ◌+◌, ◌<◌, false, cond, List, [], ◌∷◌, ◌++◌, length, get_or, Some, None, refl, sym, ap, ◌∙◌, subst, arith, inl, inr}
use Rattle.std.proofs.lemmas.List.{get_or-set_same, get_or-set_other, get_or_append_left, length-set, length_push}
use Rattle.std.proofs.Math.Seq.{get_or-append_seam}
use Rattle.html_arena.specs.Data.{contents_in, host_in, with_run}
use Rattle.html_arena.specs.Make.{has_contents, made_weight}
use Rattle.html_arena.specs.Make.{label_for as node_for}
use Rattle.html_arena.specs.Tree.{Tree, added, added_template, appended, children_of, label_of, texted_run}
use Rattle.html_arena.specs.declared.data.NewNode.{NewNode}
use Rattle.html_arena.specs.declared.data.NodeData.{NodeData}
use Rattle.html_arena.specs.declared.data.NodeData.TheVariants as node
use Rattle.html_open.specs.Marking.{bare}
use Rattle.html_open.specs.declared.places.Place.TheVariants.{Last}
use Rattle.html_tree.specs.Inserting.{with_new}
use Rattle.html_page.specs.Label.{label_for}
use Rattle.html_page.specs.Open.{IsAdded, IsFilled}
use Rattle.html_page.proofs.Added.{no-contents}
use Rattle.html_page.proofs.Kin.{cases_eqb}
use Rattle.html_builder.specs.Plain.{IsEven}

module _ (t : Tree) (p : ℕ) (d : NodeData) (h : ℕ) (inside : p < length t.labels) (even : IsEven t) where
  abbrev x : ℕ
  x = length t.labels

  abbrev u : Tree
  u = bare (appended (added t d h) p x)

  abbrev more : List ℕ
  more = children_of (added t d h) p ++ x ∷ []

  lists : (k : ℕ) → k < x → get_or (t.children ++ [] ∷ []) k [] ≡ children_of t k
  lists k l = get_or_append_left t.children ([] ∷ []) [] k (omega (arith, l, even.lists))

  label-new : label_of u x ≡ d
  label-new = get_or-append_seam t.labels d [] node.Document

  label-old : (k : ℕ) → k < x → label_of u k ≡ label_of t k
  label-old k l = get_or_append_left t.labels (d ∷ []) node.Document k l

  lists-longer : length (t.children ++ [] ∷ []) ≡ x + 1
  lists-longer = length_push t.children [] ∙ ap (λ (n : ℕ). n + 1) even.lists

  parents-longer : length (t.parents ++ None ∷ []) ≡ x + 1
  parents-longer = length_push t.parents None ∙ ap (λ (n : ℕ). n + 1) even.parents

  planted-even : IsEven u
  planted-even = record {
    parents = length-set (t.parents ++ None ∷ []) x (Some p) ∙ parents-longer ∙ sym (length_push t.labels d);
    lists = length-set (t.children ++ [] ∷ []) p more ∙ lists-longer ∙ sym (length_push t.labels d);
  }

  planted : contents_in d ≡ None → IsAdded t u p (label_for d)
  planted n = record {
    longer = length_push t.labels d;
    parent_children = get_or-set_same (t.children ++ [] ∷ []) p more [] (omega (arith, inside, lists-longer)) ∙ ap (λ (l : List ℕ). l ++ x ∷ []) (lists p inside);
    new_label = record { label_is = ap label_for label-new; no_contents = ap contents_in label-new ∙ n };
    new_children = get_or-set_other (t.children ++ [] ∷ []) p x more [] (λ e. absurd (omega (arith, inside, e)))
        ∙ subst (λ (k : ℕ). get_or (t.children ++ [] ∷ []) k [] ≡ []) even.lists (get_or-append_seam t.children [] [] []);
    same_labels = label-old;
    same_children = λ k l ne. get_or-set_other (t.children ++ [] ∷ []) p k more [] ne ∙ lists k l;
    roots = λ k r. record {
      inside = omega (arith, r.inside, length_push t.labels d);
      alone = get_or-set_other (t.parents ++ None ∷ []) x k (Some p) None (λ e. absurd (omega (arith, r.inside, e)))
          ∙ get_or_append_left t.parents (None ∷ []) None k (omega (arith, r.inside, even.parents)) ∙ r.alone;
      no_host = ap host_in (label-old k r.inside) ∙ r.no_host;
    };
  }

module _ (t : Tree) (p : ℕ) (n : NewNode) (inside : p < length t.labels) (even : IsEven t) (plain : has_contents n ≡ false) where
  new-is : with_new t (Last p) n ≡ bare (appended (added t (node_for t n) (made_weight t n)) p (length t.labels))
  new-is = ap (λ b. bare (appended (cond b (added_template t (node_for t n) (made_weight t n)) (added t (node_for t n) (made_weight t n))) p (length t.labels))) plain

  pub new-even : IsEven (with_new t (Last p) n)
  new-even = subst IsEven (sym new-is) (planted-even t p (node_for t n) (made_weight t n) inside even)

  pub new-added : IsAdded t (with_new t (Last p) n) p (label_for (node_for t n))
  new-added = subst (λ v. IsAdded t v p (label_for (node_for t n))) (sym new-is) (planted t p (node_for t n) (made_weight t n) inside even (no-contents t n plain))

  pub new-label : label_of (with_new t (Last p) n) (length t.labels) ≡ node_for t n
  new-label = ap (λ (v : Tree). label_of v (length t.labels)) new-is ∙ label-new t p (node_for t n) (made_weight t n) inside even

-- a text has more
module _ (t : Tree) (x : ℕ) (s run : List ℕ) (inside : x < length t.labels) (is_text : label_of t x ≡ node.Text s) where
  pub run-filled : IsFilled t (bare (texted_run t x run)) x run
  run-filled = record {
    same_length = length-set t.labels x (with_run (label_of t x) run);
    same_children = refl;
    label_is = λ r e. get_or-set_same t.labels x (with_run (label_of t x) run) node.Document inside ∙ ap (λ d. with_run d run) e;
    others = λ k ne. get_or-set_other t.labels x k (with_run (label_of t x) run) node.Document ne;
    roots = λ k r. record {
      inside = omega (arith, r.inside, length-set t.labels x (with_run (label_of t x) run));
      alone = r.alone;
      no_host = elim (cases_eqb k x) [
        | inl e ↦ ap (λ z. host_in (label_of (bare (texted_run t x run)) z)) e.1
            ∙ ap host_in (get_or-set_same t.labels x (with_run (label_of t x) run) node.Document inside ∙ ap (λ d. with_run d run) is_text)
        | inr e ↦ ap host_in (get_or-set_other t.labels x k (with_run (label_of t x) run) node.Document e.1) ∙ r.no_host
      ];
    };
  }

  pub run-even : IsEven t → IsEven (bare (texted_run t x run))
  run-even e = record {
    parents = e.parents ∙ sym (length-set t.labels x (with_run (label_of t x) run));
    lists = e.lists ∙ sym (length-set t.labels x (with_run (label_of t x) run));
  }

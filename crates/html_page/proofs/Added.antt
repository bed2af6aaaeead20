-- What a new node leaves, from what the arena says of it.
use Rattle.std.proofs.Common.{◌≡◌, ◌≢◌, ℕ, ◌<◌, true, false, eqb, List, [], ◌∷◌, ◌++◌, length, get_or, None, codes, refl, ap, ◌∙◌, arith}
use Rattle.std.proofs.lemmas.Bool.Decides.{nat_tests}
use Rattle.html_arena.specs.declared.data.NodeData.{NodeData}
use Rattle.html_arena.specs.declared.data.NodeData.TheVariants as node
use Rattle.html_arena.specs.declared.data.NewNode.{NewNode}
use Rattle.html_arena.specs.declared.data.NewNode.TheVariants.{Document, Element, CloneOf, Text, Comment, Doctype}
use Rattle.html_arena.specs.Laws.{IsGrown, IsLinked}
use Rattle.html_arena.specs.Make.{has_contents}
use Rattle.html_arena.specs.Make.{label_for as node_for}
use Rattle.html_arena.specs.Tree.{Tree, label_of, children_of}
use Rattle.html_arena.specs.Data.{contents_in, host_in, cloned}
use Rattle.html_names.specs.Names.{tag_of}
use Rattle.html_names.specs.Sets.{is_template}
use Rattle.html_page.specs.Label.{label_for}
use Rattle.html_page.specs.Open.{IsAdded, IsFilled}

apart : (a b : ℕ) → b < a → eqb a b ≡ false
apart a b h = grind (arith, nat_tests)

same : (a : ℕ) → eqb a a ≡ true
same a = grind (arith, nat_tests)

unlike : (a b : ℕ) → a ≢ b → eqb a b ≡ false
unlike a b h = grind (arith, nat_tests)

-- what is made and is no template has no contents
pub no-contents : (t : Tree) (n : NewNode) → has_contents n ≡ false → contents_in (node_for t n) ≡ None
no-contents t Document h = refl
no-contents t (Element n a o) h = rw h refl
no-contents t (CloneOf x) h = cloned-contents (label_of t x)
  where
    cloned-contents : (d : NodeData) → contents_in (cloned d) ≡ None
    cloned-contents node.Document = refl
    cloned-contents (node.Contents x) = refl
    cloned-contents (node.Element e) = refl
    cloned-contents (node.Text s) = refl
    cloned-contents (node.Comment s i) = refl
    cloned-contents (node.Doctype n p s i) = refl
no-contents t Text h = refl
no-contents t (Comment s i) h = refl
no-contents t (Doctype n p s i) h = refl

-- a node was made, and is now its parent's last child
module _ (old mid new : Tree) (d : NodeData) (p : ℕ) (g : IsGrown old mid 1) (l : IsLinked mid new (length old.labels) p (children_of mid p ++ length old.labels ∷ []))
    (labels_are : new.labels ≡ mid.labels) (label_is : label_of mid (length old.labels) ≡ d) where
  relabel : (k : ℕ) → label_of new k ≡ label_of mid k
  relabel k = ap (λ ls. get_or ls k node.Document) labels_are

  pub is-added : p < length old.labels → contents_in d ≡ None → IsAdded old new p (label_for d)
  is-added b n = record {
    longer = ap length labels_are ∙ g.longer;
    parent_children = l.children_are p ∙ rw (same p) (ap (λ xs. xs ++ length old.labels ∷ []) (g.same_children p));
    new_label = record { label_is = ap label_for (relabel (length old.labels) ∙ label_is); no_contents = ap contents_in (relabel (length old.labels) ∙ label_is) ∙ n };
    new_children = l.children_are (length old.labels) ∙ rw (apart (length old.labels) p b) (g.no_children (length old.labels) (omega arith));
    same_labels = λ k h. relabel k ∙ g.same_label k h;
    same_children = λ k h ne. l.children_are k ∙ rw (unlike k p ne) (g.same_children k);
    roots = λ k r. record {
      inside = omega (arith, r.inside, ap length labels_are, g.longer);
      alone = l.parent_is k ∙ rw (unlike k (length old.labels) (λ e. absurd (omega (arith, r.inside, e)))) (g.same_parent k ∙ r.alone);
      no_host = ap host_in (relabel k ∙ g.same_label k r.inside) ∙ r.no_host;
    };
  }

-- an added text, filled
pub added-filled : (old mid new : Tree) (parent : ℕ) (s : List ℕ) → IsAdded old mid parent (label_for (node.Text [])) → label_of mid (length old.labels) ≡ node.Text [] →
    IsFilled mid new (length old.labels) s → IsAdded old new parent (label_for (node.Text s))
added-filled old mid new parent s a e f = record {
  longer = f.same_length ∙ a.longer;
  parent_children = ap (λ l. get_or l parent []) f.same_children ∙ a.parent_children;
  new_label = record { label_is = ap label_for (f.label_is [] e); no_contents = ap contents_in (f.label_is [] e) };
  new_children = ap (λ l. get_or l (length old.labels) []) f.same_children ∙ a.new_children;
  same_labels = λ k l. f.others k (λ q. absurd (omega (arith, l, q))) ∙ a.same_labels k l;
  same_children = λ k l ne. ap (λ x. get_or x k []) f.same_children ∙ a.same_children k l ne;
  roots = λ k r. f.roots k (a.roots k r);
}

-- no element of a small page is a template
pub html-not_template : is_template (tag_of (codes "html")) ≡ false
unfolding tag_of
html-not_template = refl

pub head-not_template : is_template (tag_of (codes "head")) ≡ false
unfolding tag_of
head-not_template = refl

pub body-not_template : is_template (tag_of (codes "body")) ≡ false
unfolding tag_of
body-not_template = refl

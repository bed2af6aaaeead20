-- The tokens handed in, after each call.
use Rattle.std.proofs.Common.{ℕ, ◌≡◌, ◌<◌, ◌⊎◌, List, [], ◌∷◌, ◌++◌, length, inl, inr, refl, sym, ap, ◌∙◌, arith}
use Rattle.std.proofs.lemmas.List.{append-nil}
use Rattle.html_open.specs.Marking.{bare}
use Rattle.std.specs.Prelude.{Option, Some, None, slice_index}
use Rattle.html_arena.specs.declared.data.NodeData.{NodeData}
use Rattle.html_arena.specs.declared.data.NodeData.TheVariants as node
use Rattle.html_arena.specs.Data.{host_in, name_in, origin_in}
use Rattle.html_arena.specs.Tree.{Tree as Nodes, detached, host_at, label_of, parent_of}
use Rattle.html_tokens.specs.declared.token.TokenKind.{TokenKind}
use Rattle.html_tree.specs.Closing.{bodiless}
use Rattle.html_tree.specs.States.{State as Tree}
use Rattle.html_tree.specs.Listing.{HasCloned}
use Rattle.html_tree.specs.Since.{HasFrameset, IsContents, Keeps as TreeKeeps, Since, essence}
use Rattle.html_tree.proofs.Kept.{frameset-later}
use Rattle.html_ledger.specs.declared.symbol.Symbol.TheVariants.{Char}
use Rattle.html_ledger.specs.Symbols.{symbol_of, chars_of as symbol_chars}
use Rattle.html_ledger.specs.declared.setting.Setting.{Setting}
use Rattle.html_ledger.specs.declared.setting.Setting.TheVariants as setting
use Rattle.html_construction.specs.Origins.{HasRoot, IsRootLabel}
use Rattle.html_construction.specs.Built.{IsRooted, IsSince, chars_of, symbols}
use Rattle.html_construction.specs.Standing.{IsStanding}

pub symbols-push : (ts : List TokenKind) (t : TokenKind) → symbols (ts ++ t ∷ []) ≡ symbols ts ++ symbol_of t ∷ []
symbols-push [] t = refl
symbols-push (u ∷ ts) t = ap (λ us. symbol_of u ∷ us) (symbols-push ts t)

pub symbols-append : (ts us : List TokenKind) → symbols (ts ++ us) ≡ symbols ts ++ symbols us
symbols-append [] us = refl
symbols-append (t ∷ ts) us = ap (λ xs. symbol_of t ∷ xs) (symbols-append ts us)

pub symbols-chars : (cs : List ℕ) → symbols (chars_of cs) ≡ symbol_chars cs
symbols-chars [] = refl
symbols-chars (c ∷ cs) = ap (λ xs. Char c ∷ xs) (symbols-chars cs)

-- nothing changed since
pub Since-same : (a : Tree) → Since a a
Since-same a = record {
  first = λ x e. e;
  no_fewer = omega arith;
  tokens = omega arith;
  labels = λ x h. refl;
  off = λ x c. c.off;
  children = λ x c h. refl;
  texts = λ x y c h e. refl;
  linked = λ x h e. inr (inr (h, e));
  root = λ e. e;
  detached = λ x e. e;
  replaced = λ x e. inl e;
  proper = λ x p l. p l;
  steps = omega arith;
}

host-essence : (d : NodeData) → host_in (essence d) ≡ host_in d
host-essence node.Document = refl
host-essence (node.Contents h) = refl
host-essence (node.Element e) = refl
host-essence (node.Text s) = refl
host-essence (node.Comment s i) = refl
host-essence (node.Doctype n p s i) = refl

-- what holds the contents of a template holds them still
host-same : (a b : Tree) (x h : ℕ) → Since a b → x < length a.tree.labels → host_at a.tree x ≡ Some h → host_at b.tree x ≡ Some h
host-same a b x h w l e = sym (host-essence (label_of b.tree x)) ∙ ap host_in (w.labels x l) ∙ host-essence (label_of a.tree x) ∙ e

-- where a node may stand without a parent
abbrev Free : Tree → ℕ → Type 0
Free t x = (x ≡ 0) ⊎ (((h : ℕ) × (host_at t.tree x ≡ Some h)) ⊎ (t.detached ≡ Some x))

free-later : (a b : Tree) (x : ℕ) → Since a b → x < length a.tree.labels → Free a x → Free b x
free-later a b x w l (inl z) = inl z
free-later a b x w l (inr (inl c)) = inr (inl (c.0, host-same a b x c.0 w l c.1))
free-later a b x w l (inr (inr d)) = inr (inr (w.detached x d))

free-linked : (a b : Tree) (x : ℕ) → Since a b → IsRooted a → IsContents b x ⊎ ((b.detached ≡ Some x) ⊎ ((x < length a.tree.labels) × (parent_of a.tree x ≡ None))) → Free b x
free-linked a b x w r (inl c) = inr (inl c)
free-linked a b x w r (inr (inl d)) = inr (inr d)
free-linked a b x w r (inr (inr p)) = free-later a b x w p.0 (r x p.0 p.1)

-- what was rooted is rooted still
pub rooted-since : (a b : Tree) → Since a b → IsRooted a → IsRooted b
rooted-since a b w r = λ x l e. free-linked a b x w r (w.linked x l e)

-- and what stood stands
pub standing-keeps : (a b : Tree) → TreeKeeps a b → IsStanding a → IsStanding b
standing-keeps a b k i = (let w = k a (Since-same a) in record {
  proper = λ x l. w.proper x (λ h. i.proper x h) l;
  framed = λ x e. elim (w.replaced x e) [ inl d ↦ frameset-later (HasFrameset b.tree) a b w (i.framed x d) | inr f ↦ f ];
})

-- what was so since an earlier tree is so still
pub since-keeps : (o : Option Tree) (a b : Tree) → TreeKeeps a b → IsSince o a → IsSince o b
since-keeps None a b k w = tt
since-keeps (Some e) a b k w = k e w

pub rooted-keeps : (a b : Tree) → TreeKeeps a b → IsRooted a → IsRooted b
rooted-keeps a b k r = rooted-since a b (k a (Since-same a)) r

-- what stays of a node tells whether it is the root
document-essence : (d : NodeData) → essence d ≡ node.Document → d ≡ node.Document
document-essence node.Document e = refl
document-essence (node.Contents h) e = absurd (let k = e in cc)
document-essence (node.Element r) e = absurd (let k = e in cc)
document-essence (node.Text s) e = absurd (let k = e in cc)
document-essence (node.Comment s i) e = absurd (let k = e in cc)
document-essence (node.Doctype n p s i) e = absurd (let k = e in cc)

name-essence : (d : NodeData) → name_in (essence d) ≡ name_in d
name-essence node.Document = refl
name-essence (node.Contents h) = refl
name-essence (node.Element e) = refl
name-essence (node.Text s) = refl
name-essence (node.Comment s i) = refl
name-essence (node.Doctype n p s i) = refl

origin-essence : (d : NodeData) → origin_in (essence d) ≡ origin_in d
origin-essence node.Document = refl
origin-essence (node.Contents h) = refl
origin-essence (node.Element e) = refl
origin-essence (node.Text s) = refl
origin-essence (node.Comment s i) = refl
origin-essence (node.Doctype n p s i) = refl

root-essence : (s : Setting) (d e : NodeData) → essence e ≡ essence d → IsRootLabel s d → IsRootLabel s e
root-essence setting.Document d e q r = document-essence e (q ∙ ap essence r)
root-essence (setting.Fragment g f) d e q r =
    (sym (name-essence e) ∙ ap name_in q ∙ name-essence d ∙ r.0, sym (origin-essence e) ∙ ap origin_in q ∙ origin-essence d ∙ r.1)

-- the root stays
pub root-keeps : (s : Setting) (a b : Tree) → TreeKeeps a b → HasRoot s a.tree → HasRoot s b.tree
root-keeps s a b k r =
    let w : Since a b = k a (Since-same a) in
    let some = r.some_node in
    let more = w.no_fewer in
    record {
      some_node = omega (arith, some, more);
      label = root-essence s (label_of a.tree 0) (label_of b.tree 0) (w.labels 0 some) r.label;
      alone = w.root r.alone;
    }

-- the same nodes
pub as-was : (a b : Tree) → b.tree ≡ a.tree → HasCloned a b
as-was a b e = record {
  elements = [];
  listed = λ x h. absurd (let k = h in cc);
  node_in = λ x h. absurd (let k = h in cc);
  formatting = λ x h. absurd (let k = h in cc);
  labels_are = ap (λ (t : Nodes). t.labels) e ∙ sym (append-nil a.tree.labels);
  limits_are = ap (λ (t : Nodes). t.limits) e;
}

-- a node that left its parent
detached-labels : (t : Nodes) (x : ℕ) (o : Option ℕ) → (detached t x o).labels ≡ t.labels
detached-labels t x None = refl
detached-labels t x (Some p) = refl

detached-limits : (t : Nodes) (x : ℕ) (o : Option ℕ) → (detached t x o).limits ≡ t.limits
detached-limits t x None = refl
detached-limits t x (Some p) = refl

pub as-detached : (a b : Tree) (x : ℕ) (o : Option ℕ) → b.tree ≡ bare (detached a.tree x o) → HasCloned a b
as-detached a b x o e = record {
  elements = [];
  listed = λ y h. absurd (let k = h in cc);
  node_in = λ y h. absurd (let k = h in cc);
  formatting = λ y h. absurd (let k = h in cc);
  labels_are = ap (λ (t : Nodes). t.labels) e ∙ detached-labels a.tree x o ∙ sym (append-nil a.tree.labels);
  limits_are = ap (λ (t : Nodes). t.limits) e ∙ detached-limits a.tree x o;
}

-- what the body leaves stays
pub bodiless-labels : (a : Tree) → (bodiless a).tree.labels ≡ a.tree.labels
bodiless-labels a = detached-labels a.tree (slice_index a.stack 1) (parent_of a.tree (slice_index a.stack 1))

pub bodiless-limits : (a : Tree) → (bodiless a).tree.limits ≡ a.tree.limits
bodiless-limits a = detached-limits a.tree (slice_index a.stack 1) (parent_of a.tree (slice_index a.stack 1))

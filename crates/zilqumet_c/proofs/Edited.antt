-- What an edit came to.
use Rattle.std.proofs.Common.{◌≡◌, ◌≢◌, ◌∙◌, ℕ, List, Option, Some, None, Result, Ok, Err, refl, sym, ap, subst, arith}
use Rattle.std.specs.Prelude.{MatchOption}
use Rattle.html_arena.specs.Tree.{Tree as Nodes}
use Rattle.html_arena.specs.Walking.{IsRoot}
use Rattle.html_dom.specs.Edits.{IsCause}
use Rattle.html_dom.specs.declared.error.EditError.{EditError}
use Rattle.html_dom.specs.declared.error.EditError.TheVariants.{NoNode, NotElement, BadName, NotLinkable, NoParent, Cycle, OutOfMemory, NodeBudget, HeldBudget}
use Rattle.html_parser.specs.declared.page.Tree.{Tree}
use Rattle.zilqumet_c.specs.Edits.{IsEdit, edit_status, with_nodes}
use Rattle.zilqumet_c.specs.Reads.{tree_in}
use Rattle.zilqumet_c.specs.declared.held.Held.{Held}
use Rattle.zilqumet_c.specs.declared.held.Held.TheVariants.{Page, Entities, Parser, Buffer, Texts, Ledger}
use Rattle.zilqumet_c.specs.declared.held.Rooted.{Rooted}

pub no_refusal : (e : EditError) → edit_status e ≡ 0 → ⊥
no_refusal NoNode is = omega (arith, is)
no_refusal NotElement is = omega (arith, is)
no_refusal BadName is = omega (arith, is)
no_refusal NotLinkable is = omega (arith, is)
no_refusal NoParent is = omega (arith, is)
no_refusal Cycle is = omega (arith, is)
no_refusal OutOfMemory is = omega (arith, is)
no_refusal NodeBudget is = omega (arith, is)
no_refusal HeldBudget is = omega (arith, is)

some_tree : (t : Tree) → ◌≡◌ {A = Option Tree} (Some t) None → ⊥
some_tree t is = cc

pub is_page : (h : Held) → ((r : Rooted) → h ≡ Page r → ⊥) → tree_in (Some h) ≡ None
is_page (Page r) none = absurd (none r refl)
is_page (Entities t) none = refl
is_page (Parser p) none = refl
is_page (Buffer v) none = refl
is_page (Texts g) none = refl
is_page (Ledger l) none = refl

-- there is no page
pub unedited : (h : Option Held) (fault : Nodes → ℕ → Option EditError) (Done : Nodes → Nodes → Type 0) → tree_in h ≡ None → IsEdit h h fault Done 12
unedited h fault Done none = record {
  good = λ is. absurd (omega (arith, is));
  done = λ is. absurd (omega (arith, is));
  cause = λ _. subst (λ o. MatchOption o (◌≡◌ {A = ℕ} 12 12) (λ t. (e : EditError) × IsCause (fault t.arena t.root) e × (◌≡◌ {A = ℕ} 12 (edit_status e)))) (sym none) refl;
  kept = λ _. refl;
  other = λ _. (refl, refl);
}

-- there is one
pub edited : (p q : Rooted) (fault : Nodes → ℕ → Option EditError) (Done : Nodes → Nodes → Type 0) (status : ℕ)
    → (status ≡ 0 → fault p.tree.arena p.tree.root ≡ None)
    → (status ≡ 0 → Done p.tree.arena q.tree.arena)
    → q.tree ≡ with_nodes p.tree q.tree.arena
    → (status ≢ 0 → (e : EditError) × IsCause (fault p.tree.arena p.tree.root) e × (status ≡ edit_status e))
    → (status ≢ 0 → q.tree ≡ p.tree)
    → IsEdit (Some (Page p)) (Some (Page q)) fault Done status
edited p q fault Done status good done rest cause kept = record {
  good = good;
  done = λ ok. (rest, done ok);
  cause = cause;
  kept = λ bad. ap (λ t. Some t) (kept bad);
  other = λ none. absurd (some_tree p.tree none);
}

-- A TREE, BY WHAT WAS ANSWERED OF ITS NODES

pub tree-kept : (t : Tree) (a : Nodes) → a ≡ t.arena → with_nodes t a ≡ t
tree-kept t a e = ap (λ x. with_nodes t x) e

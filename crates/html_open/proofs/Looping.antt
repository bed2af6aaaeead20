-- Rounds, one after another, and how they end.
use Rattle.std.proofs.Common.{◌≡◌, ℕ, zero, suc, ◌+◌, ◌<◌, ◌≤◌, Bool, true, false, List, [], ◌∷◌, ◌++◌, length, length-append, map, refl, sym, ◌∙◌, ap, subst, arith}
use Rattle.std.proofs.lemmas.List.{length-map}
use Rattle.html_names.specs.declared.tag.Tag.{Tag}
use Rattle.html_arena.specs.Data.{cloned}
use Rattle.html_arena.specs.Siblings.{last_of}
use Rattle.html_arena.specs.Tree.{Tree, label_of}
use Rattle.html_open.specs.declared.adoption.AdoptEnd.{AdoptEnd}
use Rattle.html_open.specs.declared.adoption.AdoptEnd.TheVariants.{Done}
use Rattle.html_open.specs.declared.entry.Entry.{Entry}
use Rattle.html_open.specs.AdoptFinding.{IsBlock, IsPlain}
use Rattle.html_open.specs.Adopting.{Adopted, Closed, Ends, Forgotten, IsFirstFree, NoEntry, OutOfScope, Round, Rounds, closes, eight, fewer, forgets, no_entry, no_round, one_more, out_of_scope, pops_at_once}
use Rattle.html_open.specs.Entries.{has_node}
use Rattle.html_open.specs.Opened.{Open, open_at}
use Rattle.html_open.specs.Placing.{CanPlace}
use Rattle.html_open.proofs.Finding.{last_named-in}
use Rattle.html_open.proofs.Numbering.{originals-few}
use Rattle.html_open.proofs.Rounds.{put-stepped, stepped}
use Rattle.html_open.specs.Hanging.{chain_top, chained}
use Rattle.html_open.specs.Placing.{place_at}

-- a round makes at most four nodes
pub round-grown : (s : Tag) (foster : Bool) (o p : Open) → Round s foster o p → length p.tree.labels ≤ length o.tree.labels + 4
round-grown s foster o p r =
    let a = ap length r.labels_are in
    let b = length-append o.tree.labels (map (λ x. cloned (label_of o.tree x)) (r.cloned_elements ++ r.formatting_element ∷ [])) in
    let c = length-map (r.cloned_elements ++ r.formatting_element ∷ []) (λ x. cloned (label_of o.tree x)) in
    let d = length-append r.cloned_elements (r.formatting_element ∷ []) in
    let e = ap length r.cloned_are in
    let f = originals-few (λ x. has_node x o.list) r.inner in
    omega (arith, a, b, c, d, e, f)

-- steps that were counted before do not matter
module _ (s : Tag) (foster : Bool) (stack : List ℕ) (list : List Entry) (t : Tree) (n : ℕ) where
  pub round-rebase : (q : Open) → Round s foster (open_at stack list (stepped t n)) q → Round s foster (open_at stack list t) q
  round-rebase q r = record {
    lower = r.lower;
    common_ancestor = r.common_ancestor;
    formatting_element = r.formatting_element;
    inner = r.inner;
    furthest_block = r.furthest_block;
    upper = r.upper;
    stack_was = r.stack_was;
    formatting = r.formatting;
    in_scope = r.in_scope;
    none_between = r.none_between;
    block_special = r.block_special;
    cloned_elements = r.cloned_elements;
    cloned_are = r.cloned_are;
    new_element = r.new_element;
    new_element_is = r.new_element_is;
    stack_is = r.stack_is;
    list_is = r.list_is;
    labels_are = r.labels_are;
    children_are = λ x. r.children_are x ∙ put-stepped t n (place_at t stack r.common_ancestor foster) (chain_top r.furthest_block (length t.labels) r.new_element) x (chained t r.furthest_block (length t.labels) r.new_element x);
    limits_are = r.limits_are;
    well_formed = r.well_formed;
    is_open = r.is_open;
  }

  pub closed-rebase : (q : Open) → Closed s (open_at stack list (stepped t n)) q → Closed s (open_at stack list t) q
  closed-rebase q r = record {
    formatting_element = r.formatting_element;
    formatting = r.formatting;
    on_stack = r.on_stack;
    in_scope = r.in_scope;
    no_special = r.no_special;
    stack_is = r.stack_is;
    list_is = r.list_is;
    tree_is = r.tree_is;
  }

  pub ends-rebase : (end : AdoptEnd) (o q : Open) → o ≡ open_at stack list (stepped t n) → Ends s end o q → Ends s end (open_at stack list t) q
  ends-rebase _ _ _ e (closes o q k) = closes (open_at stack list t) q (closed-rebase q (subst (λ v. Closed s v q) e k))
  ends-rebase _ _ _ e (forgets o q k) =
      let r = subst (λ v. Forgotten s v q) e k in
      forgets (open_at stack list t) q (record { formatting_element = r.formatting_element; formatting = r.formatting; off_stack = r.off_stack; stack_is = r.stack_is; list_is = r.list_is; tree_is = r.tree_is })
  ends-rebase _ _ _ e (out_of_scope o q k) =
      let r = subst (λ v. OutOfScope s v q) e k in
      out_of_scope (open_at stack list t) q (record {
        formatting_element = r.formatting_element;
        formatting = r.formatting;
        on_stack = r.on_stack;
        not_in_scope = r.not_in_scope;
        unchanged = record { stack_is = r.unchanged.stack_is; list_is = r.unchanged.list_is; tree_is = r.unchanged.tree_is };
      })
  ends-rebase _ _ _ e (no_entry o q k) =
      let r = subst (λ v. NoEntry s v q) e k in
      no_entry (open_at stack list t) q (record { none = r.none; unchanged = record { stack_is = r.unchanged.stack_is; list_is = r.unchanged.list_is; tree_is = r.unchanged.tree_is } })

  pub rounds-rebase : (i : ℕ) (o q : Open) → o ≡ open_at stack list (stepped t n) → Rounds s foster (suc i) o q → Rounds s foster (suc i) (open_at stack list t) q
  rounds-rebase zero _ _ e (one_more _ o _ q (no_round _) r) =
      one_more zero (open_at stack list t) (open_at stack list t) q (no_round (open_at stack list t)) (round-rebase q (subst (λ v. Round s foster v q) e r))
  rounds-rebase (suc i) _ _ e (one_more _ o p q rs r) = one_more (suc i) (open_at stack list t) p q (rounds-rebase i o p e rs) r

pub plain-stepped : (s : Tag) (stack : List ℕ) (entries : List Entry) (t : Tree) (a f at : ℕ) → IsPlain s (open_at stack entries t) f at → IsPlain s (open_at stack entries (stepped t a)) f at
plain-stepped s stack entries t a f at k = record {
  formatting = record {
    entry = k.formatting.entry;
    on_stack = k.formatting.on_stack;
    index_is = k.formatting.index_is;
    within = k.formatting.within;
    element_is = k.formatting.element_is;
    in_scope = k.formatting.in_scope;
  };
  no_special = k.no_special;
}

pub can-place-stepped : (t : Tree) (n : ℕ) (stack : List ℕ) → CanPlace t stack → CanPlace (stepped t n) stack
can-place-stepped t n [] c = c
can-place-stepped t n (x ∷ xs) c = c

-- the first element is not the formatting one
pub not-first : (s : Tag) (stack : List ℕ) (entries : List Entry) (t : Tree) (at b : ℕ) → IsBlock s (open_at stack entries t) at b → IsFirstFree stack entries → 0 < at
not-first s [] entries t at b k free = absurd (let l = k.formatting.within in omega arith)
not-first s (x ∷ xs) entries t (suc at) b k free = omega arith
not-first s (x ∷ xs) entries t zero b k free =
    absurd (let a = last_named-in t s entries x k.formatting.entry in let e = free x refl in let z : true ≡ false = sym a ∙ e in cc)

-- the end of an adoption
pub finish-fewer : (s : Tag) (foster : Bool) (stack : List ℕ) (list : List Entry) (t : Tree) (n : ℕ) (end : AdoptEnd) (i : ℕ) (o p q : Open) → o ≡ open_at stack list (stepped t n)
    → pops_at_once s (open_at stack list t) (last_of stack) ≡ false → i < 8 → Rounds s foster i o p → Ends s end p q → Adopted s foster end (open_at stack list t) q
finish-fewer s foster stack list t n end zero _ _ q e h l (no_round o) k =
    fewer end zero (open_at stack list t) (open_at stack list t) q h l (no_round (open_at stack list t)) (ends-rebase s foster stack list t n end o q e k)
finish-fewer s foster stack list t n end (suc i) o p q e h l r k =
    fewer end (suc i) (open_at stack list t) p q h l (rounds-rebase s foster stack list t n i o p e r) k

pub finish-eight : (s : Tag) (foster : Bool) (stack : List ℕ) (list : List Entry) (t : Tree) (n : ℕ) (o p : Open) → o ≡ open_at stack list (stepped t n)
    → pops_at_once s (open_at stack list t) (last_of stack) ≡ false → Rounds s foster 8 o p → Adopted s foster Done (open_at stack list t) p
finish-eight s foster stack list t n o p e h r = eight (open_at stack list t) p h (rounds-rebase s foster stack list t n 7 o p e r)

pub rounds-more : (s : Tag) (foster : Bool) (i j : ℕ) (o p q : Open) → j ≡ suc i → Rounds s foster i o p → Round s foster p q → Rounds s foster j o q
rounds-more s foster i j o p q e r k = subst (λ (m : ℕ). Rounds s foster m o q) (sym e) (one_more i o p q r k)

pub ends-grown : (s : Tag) (end : AdoptEnd) (o p : Open) → Ends s end o p → length p.tree.labels ≡ length o.tree.labels
ends-grown s _ _ _ (closes o p k) = ap (λ (t : Tree). length t.labels) k.tree_is
ends-grown s _ _ _ (forgets o p k) = ap (λ (t : Tree). length t.labels) k.tree_is
ends-grown s _ _ _ (out_of_scope o p k) = ap (λ (t : Tree). length t.labels) k.unchanged.tree_is
ends-grown s _ _ _ (no_entry o p k) = ap (λ (t : Tree). length t.labels) k.unchanged.tree_is

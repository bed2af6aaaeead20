-- The names of known tags as code points, and refusals of elements of such names.
use Rattle.std.proofs.Common.{◌≡◌, ℕ, false, List, inl, inr, Result, Ok, Err, IfErr, refl, sym, ◌∙◌, ap, subst}
use Rattle.std.specs.Str.{IsUtf8, chars}
use Rattle.html_names.specs.declared.tag.Tag.{Tag}
use Rattle.html_names.specs.declared.tag.Tag.TheVariants as tag
use Rattle.html_names.specs.Names.{is_known, name_of, tag_of}
use Rattle.html_names.proofs.Known.{tag_of-chars, tag_of-known}
use Rattle.html_arena.specs.declared.arena.ArenaError.{ArenaError}
use Rattle.html_arena.specs.declared.arena.ArenaError.TheVariants as arena
use Rattle.html_open.proofs.Keeps.{cases_bool}
use Rattle.html_tree.specs.Inserting.{IsBudget, IsLack}

-- what stands for the names of unknown elements is its own code points
unknown : (t : Tag) → is_known t ≡ false → chars (name_of t) ≡ name_of t
unfolding chars
unknown tag.Other e = refl
unknown tag.SvgOther e = refl
unknown tag.MathOther e = refl
unknown _ e = absurd cc

pub chars-name : (g : Tag) (bs n : List ℕ) → IsUtf8 bs → bs ≡ name_of g → tag_of bs ≡ g → n ≡ chars bs → n ≡ name_of g
chars-name g bs n u e b i = elim (cases_bool (is_known g)) [
  | inl k ↦ (let q : tag_of n ≡ g = ap tag_of i ∙ (sym (tag_of-chars bs u) ∙ b) in tag_of-known n (ap is_known q ∙ k) ∙ ap name_of q)
  | inr k ↦ i ∙ ap chars e ∙ unknown g k
]

-- what is told of the budget is told of it where memory may have been wanted before
pub lack-budget : (r : Result (Unit {0}) ArenaError) (e : ArenaError) → IsLack r e → IsBudget r e
lack-budget (Ok u) e h = subst (λ v. IsBudget (Ok u) v) (sym h) tt
lack-budget (Err arena.OutOfMemory) e h = subst (λ v. IsBudget (Err arena.OutOfMemory) v) (sym h) tt
lack-budget (Err arena.NodeBudget) e h = subst (λ v. IsBudget (Err arena.NodeBudget) v) (sym h) refl
lack-budget (Err arena.HeldBudget) e h = subst (λ v. IsBudget (Err arena.HeldBudget) v) (sym h) refl

pub if-err : {A E : Type 0} {P Q : E → Type 0} (r : Result A E) → IfErr r P → ((e : E) → P e → Q e) → IfErr r Q
if-err (Ok x) p f = tt
if-err (Err e) p f = f e p

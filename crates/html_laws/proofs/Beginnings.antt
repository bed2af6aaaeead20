-- Where tree construction begins is one state, counted steps apart.
use Rattle.std.proofs.Common.{◌≡◌, ℕ, Bool, false, [], Option, refl, sym, ◌∙◌, ap, subst, inl, inr, arith}
use Rattle.std.proofs.lemmas.Bool.{false≢true}
use Rattle.html_names.specs.declared.tag.Tag.TheVariants as tag
use Rattle.html_names.specs.Names.{name_of}
use Rattle.html_arena.specs.declared.arena.Limits.{Limits}
use Rattle.html_arena.specs.declared.data.NewNode.TheVariants.{Element}
use Rattle.html_arena.specs.declared.data.Origin.TheVariants.{Implied}
use Rattle.html_arena.specs.Tree.{empty_tree}
use Rattle.html_ledger.specs.declared.setting.Setting.{Setting}
use Rattle.html_ledger.specs.declared.setting.Setting.TheVariants.{Document, Fragment}
use Rattle.html_ledger.specs.Settings.{is_foreign_context}
use Rattle.html_open.proofs.Ordering.{has-head}
use Rattle.html_construction.specs.Beginning.{IsFirst, first_state, first_tree}
use Rattle.html_construction.specs.States.{State}
use Rattle.html_modes.specs.Dispatching.{begun}
use Rattle.html_laws.specs.Likeness.{core, uncounted}
use Rattle.html_laws.specs.Outcomes.{BeginAlike, IsOnce, PagesHaveOneTree}
use Rattle.html_laws.proofs.Counting.{total}
use Rattle.html_laws.proofs.Entering.{constructs-one}
use Rattle.html_laws.proofs.Fating.{IsWaiting}
use Rattle.html_laws.proofs.Natives.{IsNative}
use Rattle.html_laws.proofs.Nodes.{made-longer}

steps-core : (s : Setting) (l : Option Limits) (q f : Bool) (k : ℕ) → core (begun (first_state s l q f k)) ≡ core (begun (first_state s l q f 0))
steps-core Document l q f k = refl
steps-core (Fragment context in_form) l q f k = refl

pub first-core : (s : Setting) (l : Option Limits) (a : State) → IsFirst s l a → core (begun a) ≡ core (begun (first_state s l a.quirks a.parses_foreign 0))
first-core s l a k = ap (λ v. core (begun v)) k.state_is ∙ steps-core s l a.quirks a.parses_foreign a.tree.steps

pub first-one : (s : Setting) (l : Option Limits) (a b : State) → IsFirst s l a → IsFirst s l b → a.quirks ≡ b.quirks → a.parses_foreign ≡ b.parses_foreign → core (begun a) ≡ core (begun b)
first-one s l a b k m q f =
    first-core s l a k
    ∙ ap (λ v. core (begun (first_state s l v a.parses_foreign 0))) q
    ∙ ap (λ v. core (begun (first_state s l b.quirks v 0))) f
    ∙ sym (first-core s l b m)

tree-once : (s : Setting) (l : Option Limits) → IsOnce (first_tree s l 0)
tree-once Document l = record { once = tt; in_tree = λ x h. absurd (false≢true h) }
tree-once (Fragment context in_form) l = record {
  once = (refl, tt);
  in_tree = λ x h. (let m = made-longer (empty_tree l) (Element (name_of tag.Html) [] Implied) in elim (has-head x 0 [] h) [ inl e ↦ omega (arith, e, m) | inr e ↦ absurd (false≢true e) ]);
}

pub first-once : (s : Setting) (l : Option Limits) (a : State) → IsFirst s l a → IsOnce a.tree
first-once s l a k = by (first-core s l a k) (tree-once s l)
  where
    by : core (begun a) ≡ core (begun (first_state s l a.quirks a.parses_foreign 0)) → IsOnce (first_tree s l 0) → IsOnce a.tree
    by e o = subst (λ (v : State). IsOnce v.tree) (sym e) o

pub first-native : (s : Setting) (l : Option Limits) (a : State) → is_foreign_context s ≡ false → IsFirst s l a → a.parses_foreign ≡ false → IsNative a
first-native s l a c k f = record { refused = f; none = ap (λ (v : State). v.ledger.history.foreign) (first-core s l a k) ∙ c }

pub first-total : (s : Setting) (l : Option Limits) (a : State) → IsFirst s l a → total a ≡ 0
first-total s l a k = ap (λ (v : State). total v) (first-core s l a k)

pub first-waiting : (s : Setting) (l : Option Limits) (a : State) → IsFirst s l a → IsWaiting a
first-waiting s l a k = record { none = λ h. ap (λ (v : State). v.ledger.kept) (first-core s l a k) }

pub quirks-one : (s : Setting) (l : Option Limits) (a b : State) → IsFirst s l a → IsFirst s l b → BeginAlike s a b → a.quirks ≡ b.quirks
quirks-one s l a b k m (inl e) = k.quirks_are e ∙ sym (m.quirks_are e)
quirks-one s l a b k m (inr e) = e

pub pages-one : PagesHaveOneTree
pages-one s l foreign tokens fates fates' t t' b b' q =
    let o = first-once s l b.first b.begins in
    let e = constructs-one tokens b.first b.last b'.first b'.last o (first-one s l b.first b'.first b.begins b'.begins (quirks-one s l b.first b'.first b.begins b'.begins q) (b.foreign_is ∙ sym b'.foreign_is)) b.constructs b'.constructs in
    record {
      same_fates = b.fates_are ∙ ap (λ (v : State). v.ledger.fates) e ∙ sym b'.fates_are;
      same_nodes = ap uncounted b.tree_is ∙ ap (λ (v : State). v.tree.tree) e ∙ sym (ap uncounted b'.tree_is);
    }

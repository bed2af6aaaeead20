-- The state before the first token of a fragment.
use Rattle.std.proofs.Common.{ℕ, ◌≡◌, Bool, true, false, Option, Some, refl, sym, ap, ◌∙◌}
use Rattle.html_names.specs.declared.tag.Tag.{Tag}
use Rattle.html_arena.specs.declared.arena.Limits.{Limits}
use Rattle.html_ledger.specs.declared.setting.Setting.TheVariants.{Document, Fragment}
use Rattle.html_ledger.specs.Entries.{begun}
use Rattle.html_ledger.specs.Settings.{has_form}
use Rattle.html_tree.specs.OpenTags.{open_tags}
use Rattle.html_tree.specs.States.{State as Tree, fragment_state}
use Rattle.html_construction.specs.declared.mode.Mode.TheVariants.{Initial}
use Rattle.html_construction.specs.Beginning.{IsFirst, first_mode, first_state, first_templates}
use Rattle.html_construction.specs.States.{State}

-- all but the mode and the template insertion modes are as they begin
pub record Opens (g : Tag) (f : Bool) (l : Option Limits) (k : ℕ) (a : State) : Type 0 where
  pub tree : a.tree ≡ fragment_state l k
  pub stack : a.stack ≡ open_tags a.tree
  pub ledger : a.ledger ≡ begun (Fragment g f)
  pub original : a.original ≡ Initial
  pub context : a.context ≡ Some g
  pub frameset_ok : a.frameset_ok ≡ true
  pub fostering : a.fostering ≡ false
  pub outer_form : a.outer_form ≡ has_form (Fragment g f)
  pub began : a.began ≡ Initial
  pub depth : a.depth ≡ 0
  pub nodes : a.nodes ≡ 0

pub fragment-first : (g : Tag) (f : Bool) (l : Option Limits) (k : ℕ) (a b : State) → Opens g f l k a → b ≡ record a { mode = b.mode; templates = b.templates } → b.mode ≡ first_mode (Fragment g f) → b.templates ≡ first_templates (Fragment g f) → IsFirst (Fragment g f) l b
fragment-first g f l k a b o r m t = record {
  state_is =
      r ∙ same
      ∙ ap (λ (q : Bool). first_state (Fragment g f) l q a.parses_foreign k) (sym (ap (λ (x : State). x.quirks) r))
      ∙ ap (λ (p : Bool). first_state (Fragment g f) l b.quirks p k) (sym (ap (λ (x : State). x.parses_foreign) r))
      ∙ ap (λ (n : ℕ). first_state (Fragment g f) l b.quirks b.parses_foreign n) (sym (ap (λ (x : State). x.tree.steps) r ∙ ap (λ (x : Tree). x.steps) o.tree));
  quirks_are = λ e. absurd (let q : Fragment g f ≡ Document = e in cc);
}
  where
    tags : a.stack ≡ open_tags (fragment_state l k)
    tags = o.stack ∙ ap open_tags o.tree

    same : record a { mode = b.mode; templates = b.templates } ≡ first_state (Fragment g f) l a.quirks a.parses_foreign k
    same = rw (m, t, o.tree, tags, o.ledger, o.original, o.context, o.frameset_ok, o.fostering, o.outer_form, o.began, o.depth, o.nodes) refl

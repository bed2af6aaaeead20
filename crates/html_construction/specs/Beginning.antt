-- Claimed.
-- Where tree construction begins: of a document with nothing in it, in the mode initial (13.2.4.1); of a fragment with its root, in the mode that its context
-- calls for (13.4).
use Rattle.std.specs.Prelude.{◌≡◌, ℕ, Bool, true, false, List, [], ◌∷◌, Option, Some, None, if◌then◌else◌}
use Rattle.html_names.specs.declared.tag.Tag.{Tag}
use Rattle.html_names.specs.declared.tag.Tag.TheVariants as tag
use Rattle.html_names.specs.Tags.{is_same}
use Rattle.html_arena.specs.declared.arena.Limits.{Limits}
use Rattle.html_ledger.specs.declared.setting.Setting.{Setting}
use Rattle.html_ledger.specs.declared.setting.Setting.TheVariants.{Document, Fragment}
use Rattle.html_ledger.specs.Entries.{begun}
use Rattle.html_ledger.specs.Settings.{has_form}
use Rattle.html_tree.specs.OpenTags.{open_tags}
use Rattle.html_tree.specs.States.{State as Tree, document_state, fragment_state}
use Rattle.html_construction.specs.declared.mode.Mode.{Mode}
use Rattle.html_construction.specs.declared.mode.Mode.TheVariants.{Initial, InTemplate}
use Rattle.html_construction.specs.Resetting.{reset_mode}
use Rattle.html_construction.specs.States.{State}

-- a document, or the root of a fragment
abbrev pub first_tree : Setting → Option Limits → ℕ → Tree
first_tree Document l k = document_state l k
first_tree (Fragment context in_form) l k = fragment_state l k

-- the tag of the context of a fragment
abbrev pub context_in : Setting → Option Tag
context_in Document = None
context_in (Fragment context in_form) = Some context

-- the stack of template insertion modes: where the context is a template, in template
abbrev pub first_templates : Setting → List Mode
first_templates Document = []
first_templates (Fragment context in_form) = if is_same context tag.Template then InTemplate ∷ [] else []

-- initial; or the mode that the context calls for
abbrev pub first_mode : Setting → Mode
first_mode Document = Initial
first_mode (Fragment context in_form) = reset_mode (Some context) None (first_templates (Fragment context in_form)) (tag.Html ∷ [])

-- before the first token: of a document in quirks mode or not, where foreign content is parsed or refused, after so many steps
abbrev pub first_state : Setting → Option Limits → Bool → Bool → ℕ → State
first_state s l quirks foreign k = record {
  tree = first_tree s l k;
  stack = open_tags (first_tree s l k);
  ledger = begun s;
  mode = first_mode s;
  original = Initial;
  templates = first_templates s;
  context = context_in s;
  quirks = quirks;
  frameset_ok = true;
  fostering = false;
  outer_form = has_form s;
  parses_foreign = foreign;
  began = Initial;
  depth = 0;
  nodes = 0;
}

-- It is where tree construction begins, in this setting and within these limits. (A document is in no quirks mode before its first token; a fragment where the document of its
-- context is.)
pub record IsFirst (s : Setting) (l : Option Limits) (a : State) : Type 0 where
  pub state_is : a ≡ first_state s l a.quirks a.parses_foreign a.tree.steps
  pub quirks_are : s ≡ Document → a.quirks ≡ false

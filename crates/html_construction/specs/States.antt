-- Claimed.
-- What callers see of tree construction under way (13.2.4).
use Rattle.std.specs.Prelude.{ℕ, Bool, List, Option}
use Rattle.html_names.specs.declared.tag.Tag.{Tag}
use Rattle.html_tree.specs.States.{State as Tree}
use Rattle.html_ledger.specs.Entries.{Entries}
use Rattle.html_construction.specs.declared.mode.Mode.{Mode}

-- the tree under construction, the tags of its open elements with the current node first, and what became of the tokens so far; the insertion
-- mode and the one to come back to, the stack of template insertion modes with the current one last, the name of the context of a fragment,
-- the flags, whether the form element pointer is at a form around the fragment, whether foreign content is parsed or refused; of the token in
-- hand the mode in which its rules began, and how many elements were open and how many nodes there were when they came to the token itself
pub record State : Type 0 where
  pub tree : Tree
  pub stack : List Tag
  pub ledger : Entries
  pub mode : Mode
  pub original : Mode
  pub templates : List Mode
  pub context : Option Tag
  pub quirks : Bool
  pub frameset_ok : Bool
  pub fostering : Bool
  pub outer_form : Bool
  pub parses_foreign : Bool
  pub began : Mode
  pub depth : ℕ
  pub nodes : ℕ

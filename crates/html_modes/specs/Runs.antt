-- For this crate's own functions.
-- Text that is taken in a run: what it makes of the state, and how many steps it counts (13.2.6.1).
use Rattle.std.specs.Prelude.{◌≡◌, ℕ, ◌+◌, ◌-◌, ◌*◌, false, cond, List, None, length}
use Rattle.std.specs.List.{list_all}
use Rattle.html_arena.specs.Tree.{more}
use Rattle.html_ledger.specs.declared.fate.Fate.TheVariants.{Text}
use Rattle.html_ledger.specs.Entries.{given_run}
use Rattle.html_ledger.specs.Spaces.{is_space}
use Rattle.html_open.specs.Reopening.{look_steps}
use Rattle.html_tree.specs.Listing.{IsReopened}
use Rattle.html_tree.specs.Steps.{CountsReopening, text_steps}
use Rattle.html_tree.specs.Texts.{TextGoesOn, text_node, with_text}
use Rattle.html_construction.specs.Foreign.{foreign_tag}
use Rattle.html_construction.specs.Plans.{IsMoved}
use Rattle.html_construction.specs.States.{State}
use Rattle.html_modes.specs.Dispatching.{begun}

-- a state with more text, after so many steps
abbrev pub texted : List ℕ → ℕ → State → State
texted cs k a = record a { tree = record a.tree { tree = with_text a.tree a.fostering cs; steps = k }; ledger = given_run a.ledger cs (Text (text_node a.tree a.fostering)) }

-- with the frameset-ok flag off, where some of the text is no white space
abbrev pub flagged : List ℕ → State → State
flagged cs a = record a { frameset_ok = cond (list_all is_space cs) a.frameset_ok false }

-- Text in the body: the formatting elements were reconstructed, and the code points are text. For each code point but the first the list is looked at, and each is
-- put at its place.
pub record IsTextRun (cs : List ℕ) (a b : State) : Type 0 where
  pub middle : State
  pub moved : IsMoved a middle
  pub reopened : IsReopened a.fostering a.tree middle.tree
  pub first : CountsReopening a.fostering a.tree middle.tree
  pub others : b.tree.steps ≡ more middle.tree.steps (text_steps middle.tree a.fostering (length cs) + (length cs - 1) * look_steps middle.tree.list)
  pub home : foreign_tag a ≡ None → foreign_tag middle ≡ None
  pub goes_on : TextGoesOn middle.tree a.fostering
  pub result_is : begun b ≡ begun (flagged cs (texted cs b.tree.steps middle))

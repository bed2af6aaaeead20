-- Claimed.
-- How many steps calls count: those of searches, of places and of texts, as many as entries and elements are looked at (13.2.4).
use Rattle.std.specs.Prelude.{◌≡◌, ℕ, ◌+◌, ◌*◌, ◌-◌, Bool, true, false, cond, not, ◌&&◌, is_some, List, [], ◌∷◌, length, Option, Some, None}
use Rattle.html_names.specs.declared.sets.Scope.TheVariants as scope
use Rattle.html_names.specs.declared.tag.Tag.{Tag}
use Rattle.html_names.specs.declared.tag.Tag.TheVariants as tag
use Rattle.html_arena.specs.Tree.{Tree, more}
use Rattle.html_open.specs.Lists.{looked}
use Rattle.html_open.specs.Marking.{bare}
use Rattle.html_open.specs.Opened.{open_at}
use Rattle.html_open.specs.Placing.{place_steps}
use Rattle.html_open.specs.Reopening.{reopen_steps}
use Rattle.html_tree.specs.declared.groups.Group.{Group}
use Rattle.html_tree.specs.declared.groups.Group.TheVariants as group
use Rattle.html_tree.specs.declared.groups.Stop.{Stop}
use Rattle.html_tree.specs.declared.groups.Stop.TheVariants as stop
use Rattle.html_tree.specs.declared.groups.Target.{Target}
use Rattle.html_tree.specs.declared.groups.Target.TheVariants as target
use Rattle.html_tree.specs.Paragraphs.{seeks_p}
use Rattle.html_tree.specs.Searching.{found, member_or_stop}
use Rattle.html_tree.specs.Seats.{is_part}
use Rattle.html_tree.specs.States.{State}
use Rattle.html_tree.specs.Texts.{place_here, text_before}

abbrev pub some_open : List ℕ → Bool
some_open [] = false
some_open (x ∷ s) = true

-- an element is open, and no p is in button scope
abbrev pub lacks_p : State → Bool
lacks_p a = some_open a.stack && not (is_some (found a (group.Named tag.P) (stop.EndOf scope.Button)))

-- One for each element from the current node down to the one where the search stops; one in all, where it is for a p in button scope and there is none.
abbrev pub found_steps : State → Group → Stop → ℕ
found_steps a g e = cond (seeks_p g e && lacks_p a) 1 (looked (member_or_stop a.tree g e) a.stack)

-- how many elements were closed
abbrev pub closed_count : State → State → ℕ
closed_count a b = length a.stack - length b.stack

-- where a part of a table is asked for at the place for the current node, without foster parenting, the current node is looked at
abbrev pub looks_at_seat : Tag → Target → Bool
looks_at_seat g (target.Current foster) = cond (is_part g) (not foster) false
looks_at_seat g target.Head = false
looks_at_seat g target.First = false
looks_at_seat g target.Document = false

-- the steps of the place for the current node
abbrev pub here_steps : State → Bool → ℕ
here_steps a foster = place_steps a.tree a.stack None foster

-- a new text costs its place, and two: it is made and linked
abbrev pub new_text_steps : Option ℕ → ℕ → ℕ
new_text_steps None k = k + 2
new_text_steps (Some x) k = 0

-- Each of so many code points costs its place, and one; a new text is made once.
abbrev pub text_steps : State → Bool → ℕ → ℕ
text_steps a foster n = n * (here_steps a foster + 1) + new_text_steps (text_before a.tree (place_here a foster)) (here_steps a foster)

-- the steps of a reopening, whatever the marks
pub record CountsReopening (foster : Bool) (a b : State) : Type 0 where
  pub old : Tree
  pub old_is : bare old ≡ a.tree
  pub steps_are : b.steps ≡ more a.steps (reopen_steps (open_at a.stack a.list old) foster)

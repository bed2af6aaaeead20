-- Claimed.
-- How the tables of the rules are written (13.2.6.4), and what it says of an entry that it followed one.
use Rattle.html_names.specs.declared.foreign.Space.{Space}
use Rattle.html_names.specs.declared.sets.Scope.TheVariants as scope
use Rattle.html_names.specs.declared.tag.Tag.TheVariants as tag
use Rattle.html_ledger.specs.declared.fate.Cause.{Cause}
use Rattle.html_ledger.specs.declared.fate.Cause.TheVariants.{Misplaced}
use Rattle.html_tree.specs.declared.groups.Group.{Group}
use Rattle.html_tree.specs.declared.groups.Group.TheVariants as group
use Rattle.html_tree.specs.declared.groups.Stop.{Stop as Ends}
use Rattle.html_tree.specs.declared.groups.Stop.TheVariants as stop
use Rattle.html_construction.specs.declared.mode.Mode.TheVariants as mode
use Rattle.html_construction.specs.Plans.{Again, Ask, By, Do, Ending, Foster, Over, Plan, Refused, Stop, closing, popping}
use Rattle.html_construction.specs.Words.{AwaitsDoctype, CloseThrough, ClosesItself, Drop, End, InsertDoctype, InsertForeign, InsertForeignVoid}
use Rattle.html_modes.specs.Steps.{root_space}
use Rattle.html_modes.specs.declared.outcome.Outcome.{Outcome}
use Rattle.html_modes.specs.declared.outcome.Outcome.TheVariants.{Done, Reprocess, Foreign}

-- how an entry ends, as plans say it
abbrev pub ending : Outcome → Ending
ending Done = Over
ending Reprocess = Again
ending (Foreign name) = Refused (root_space name)

-- the token is done with
abbrev pub over : Plan
over = Stop Over

-- reprocess the token
abbrev pub again : Plan
again = Stop Again

-- the end tag, or the end of the file, is done with; it is ignored where the rule closed and made nothing
abbrev pub done_with : Plan
done_with = Do End over

-- ignore the token
abbrev pub ignored : Cause → Plan
ignored cause = Do (Drop cause) over

-- Append a DocumentType node to the Document node, where a doctype is still awaited, as it is in the mode initial; else ignore the token.
abbrev pub inserting_doctype : Plan → Plan
inserting_doctype p = Ask AwaitsDoctype (Do InsertDoctype p) (Do (Drop Misplaced) p)

-- Ignore the doctype. (It is inserted where one is still awaited, as none is in these modes: own.)
abbrev pub ignored_doctype : Plan
ignored_doctype = inserting_doctype over

-- Insert a foreign element for the token, in this namespace. If the token has its self-closing flag set, pop the current node off the stack of open elements.
abbrev pub embedding : Space → Plan
embedding space = Ask ClosesItself (Do (InsertForeignVoid space) over) (Do (InsertForeign space) over)

-- pop the current node where it is of the group, and not the first element (own)
abbrev pub popping_any : Group → Plan → Plan
popping_any g p = popping g p p

-- close through the last element of the group that is found, where one is
abbrev pub closing_any : Group → Ends → Plan → Plan
closing_any g e p = closing g e p p

-- If the stack of open elements has a p element in button scope, then close a p element.
abbrev pub closing_p : Plan → Plan
closing_p p = Do (CloseThrough (group.Named tag.P) (stop.EndOf scope.Button)) p

-- Enable foster parenting, process the token using the rules for the "in body" insertion mode, and then disable foster parenting.
abbrev pub fostering : Plan
fostering = Foster (By mode.InBody)

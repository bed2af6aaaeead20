-- What a plan may do where the body is open, or a template before it: judged by what the plan says.
use Rattle.std.proofs.Common.{ℕ, zero, suc, Bool, true, false, not, cond, eqb, ◌&&◌, ◌||◌}
use Rattle.html_names.specs.declared.sets.Scope.{Scope}
use Rattle.html_names.specs.declared.sets.Scope.TheVariants as scope
use Rattle.html_names.specs.declared.tag.Tag.{Tag}
use Rattle.html_names.specs.declared.tag.Tag.TheVariants as tag
use Rattle.html_names.specs.Groups.{is_table_part}
use Rattle.html_names.specs.Sets.{is_cell, is_formatting, is_template}
use Rattle.html_names.specs.Tags.{is_same}
use Rattle.html_ledger.specs.declared.symbol.Symbol.{Symbol}
use Rattle.html_ledger.specs.declared.symbol.Symbol.TheVariants as symbol
use Rattle.html_ledger.specs.Symbols.{ends, starts}
use Rattle.html_tree.specs.declared.groups.Group.{Group}
use Rattle.html_tree.specs.declared.groups.Group.TheVariants as group
use Rattle.html_tree.specs.declared.groups.Stop.{Stop as Ends}
use Rattle.html_tree.specs.declared.groups.Stop.TheVariants as stop
use Rattle.html_tree.specs.declared.groups.TableContext.{TableContext}
use Rattle.html_tree.specs.declared.groups.TableContext.TheVariants as context
use Rattle.html_construction.specs.declared.mode.Mode.{Mode}
use Rattle.html_construction.specs.declared.mode.Mode.TheVariants as mode
use Rattle.html_construction.specs.Plans.{Adopt, Ask, By, CloseLink, Do, Each, Foster, Over, Plan, Reconstruct, Rules, Settle, Stop}
use Rattle.html_construction.specs.Words.{AddMarker, CanPop, CanReplaceBody, ClearTo, ClearToMarker, CloseNamed, CloseThrough, Drop, End, Enter, Finds, FramesetOff, HasBody, HasSeat, HasTemplate, Imply, ImplyHead, ImplyPart, ImplyRoot, Insert, InsertAt, InsertCharacter, InsertForm, InsertHead, InsertPart, InsertRoot, InsertVoidAt, IsOptionInGroup, Leave, MayMisplace, ParsesForeign, Pop, PopTemplate, PushTemplate, Query, Quirks, ReplaceBody, Reset, Switch, Word}
use Rattle.html_laws.proofs.Chains.{is_frame, is_part, is_plain}
use Rattle.html_laws.proofs.Grounds.{grows, is_inner, spares}
use Rattle.html_laws.proofs.Insides.{Anything, Need, Rows, Sections, Tables, Templates, asks_nothing, is_foot, is_need}

-- the modes that are left for the original one
abbrev pub waits : Mode → Bool
waits mode.Text = true
waits mode.InTableText = true
waits _ = false

abbrev pub need_of : Mode → Need
need_of mode.InTable = Tables
need_of mode.InTableBody = Sections
need_of mode.InRow = Rows
need_of mode.InTemplate = Templates
need_of _ = Anything

-- where the first is there, so is the second
abbrev pub suffices : Need → Need → Bool
suffices f Anything = true
suffices Templates k = true
suffices Tables Tables = true
suffices Sections Sections = true
suffices Rows Rows = true
suffices _ _ = false

-- WHAT IS KNOWN OF THE OPEN ELEMENTS AT A PLACE IN A PLAN

pub data Know : Type 0 where
  Nothing : Know
  -- the current node has this tag; is plain; is of this group; is one back to which the stack was cleared, and no html
  Top : Tag → Know
  Plain : Know
  Of : Group → Know
  On : TableContext → Know
  -- it may hold a part of this tag
  Seat : Tag → Know
  -- this search finds an element
  Found : Group → Ends → Know
  -- a template was made; and none is open
  Made : Know
  Bare : Know

-- the mode, the one to come back to, what is asked for, and what is known
pub record View : Type 0 where
  pub mode : Mode
  pub original : Mode
  pub need : Need
  pub know : Know

abbrev pub plainly : View → View
plainly s = record s { know = Nothing }

abbrev pub scope_number : Scope → ℕ
scope_number scope.Default = 2
scope_number scope.ListItem = 3
scope_number scope.Button = 4
scope_number scope.Table = 5
scope_number scope.Select = 6

abbrev pub stop_number : Ends → ℕ
stop_number stop.Never = 0
stop_number stop.PastItem = 1
stop_number (stop.EndOf s) = scope_number s

abbrev pub same_group : Group → Group → Bool
same_group (group.Named g) (group.Named h) = is_same g h
same_group group.Heading group.Heading = true
same_group group.Section group.Section = true
same_group group.Cell group.Cell = true
same_group group.Definition group.Definition = true
same_group _ _ = false

-- the search ends at tables and templates
abbrev pub is_bounded : Ends → Bool
is_bounded stop.Never = false
is_bounded (stop.EndOf s) = true
is_bounded stop.PastItem = true

-- its elements are plain, and no formatting elements
abbrev pub is_plain_group : Group → Bool
is_plain_group (group.Named g) = is_plain g && not (is_formatting g)
is_plain_group group.Heading = true
is_plain_group group.Definition = true
is_plain_group _ = false

abbrev pub is_caption : Group → Bool
is_caption (group.Named g) = is_same g tag.Caption
is_caption _ = false

abbrev pub is_cells : Group → Bool
is_cells (group.Named g) = is_cell g
is_cells group.Cell = true
is_cells _ = false

abbrev pub is_tables : Group → Bool
is_tables (group.Named g) = is_same g tag.Table
is_tables _ = false

abbrev pub is_templates : Group → Bool
is_templates (group.Named g) = is_template g
is_templates _ = false

abbrev pub finds : Know → Group → Ends → Bool
finds (Found h d) g e = same_group h g && eqb (stop_number d) (stop_number e)
finds _ g e = false

-- it is found before a table and a template
abbrev pub finds_near : Know → Group → Bool
finds_near (Found h d) g = same_group h g && is_bounded d
finds_near _ g = false

-- the elements of the group may be closed through
abbrev pub is_closable : Know → Group → Ends → Bool
is_closable k g e = (is_plain_group g && (is_bounded e || finds_near k g)) || (((is_caption g || is_cells g) && finds k g e) || is_tables g)

abbrev pub closed_need : Need → Group → Need
closed_need f g = cond (is_plain_group g) f (cond (is_caption g) Tables (cond (is_cells g) Rows Anything))

-- the current node may be popped
abbrev pub is_poppable : Know → Bool
is_poppable (Top g) = is_plain g
is_poppable Plain = true
is_poppable (Of (group.Named g)) = is_plain g || (is_same g tag.Colgroup || is_same g tag.Tr)
is_poppable (Of group.Heading) = true
is_poppable (Of group.Section) = true
is_poppable _ = false

abbrev pub popped_need : Know → Need → Need
popped_need (Of (group.Named g)) f = cond (is_plain g) f (cond (is_same g tag.Colgroup) Tables Sections)
popped_need (Of group.Section) f = Tables
popped_need _ f = f

abbrev pub cleared_need : TableContext → Need
cleared_need context.Table = Tables
cleared_need context.Body = Sections
cleared_need context.Row = Rows

-- an element of this tag stands on such a node
abbrev pub sits_in : TableContext → Tag → Bool
sits_in context.Table g = is_table_part g
sits_in context.Body g = is_same g tag.Tr
sits_in context.Row g = is_cell g

abbrev pub is_on : Know → Tag → Bool
is_on (On c) g = sits_in c g
is_on _ g = false

abbrev pub is_seated : Know → Tag → Bool
is_seated (Seat h) g = is_same h g && is_part g
is_seated _ g = false

abbrev pub is_insertable : Tag → Bool
is_insertable g = not (is_frame g) && not (is_part g)

abbrev pub top_of : Symbol → Know
top_of (symbol.Start g) = Top g
top_of _ = Nothing

-- the current node serves
abbrev pub serves : Know → Need → Bool
serves (Top g) f = is_need f g
serves _ f = false

abbrev pub entered : Know → Know
entered (Top g) = cond (is_plain g) Plain Nothing
entered _ = Nothing

-- what an end tag that no rule names may close
abbrev pub is_other_end : Need → Tag → Bool
is_other_end f g = is_plain g || ((is_same g tag.Head || is_same g tag.Frameset) || (asks_nothing f && not (is_foot g)))

-- what is still known after a node that is not opened
abbrev pub lasting : Know → Know
lasting Plain = Plain
lasting _ = Nothing

abbrev pub may : Symbol → View → Word → Bool
may y s (ClearTo c) = suffices s.need (cleared_need c)
may y s Pop = is_poppable s.know
may y s (CloseThrough g e) = is_closable s.know g e
may y s CloseNamed = ends (is_other_end s.need) y
may y s Insert = starts is_insertable y
may y s (InsertAt p) = false
may y s InsertPart = starts (is_seated s.know) y
may y s (InsertVoidAt n p) = false
may y s InsertHead = false
may y s InsertForm = starts is_insertable y
may y s ReplaceBody = false
may y s InsertRoot = false
may y s (Imply n) = is_same n tag.P
may y s (ImplyPart n) = is_seated s.know n && not (is_same n tag.Html)
may y s ImplyHead = false
may y s ImplyRoot = false
may y s (Switch m) = not (waits m) && (suffices s.need (need_of m) || serves s.know (need_of m))
may y s (Enter m) = waits m && not (waits s.mode)
may y s Leave = waits s.mode
may y s Reset = false
may y s w = true

abbrev pub moved : Symbol → View → Word → View
moved y s (ClearTo c) = record s { know = On c }
moved y s Pop = record s { need = popped_need s.know s.need; know = Nothing }
moved y s (CloseThrough g e) = record s { need = closed_need s.need g; know = Nothing }
moved y s Insert = record s { know = top_of y }
moved y s InsertPart = record s { know = top_of y }
moved y s (Imply n) = record s { know = Found (group.Named tag.P) (stop.EndOf scope.Button) }
moved y s (ImplyPart n) = record s { know = Top n }
moved y s (Switch m) = record s { mode = m; need = need_of m; know = Nothing }
moved y s (Enter m) = record s { mode = m; original = s.mode; know = entered s.know }
moved y s Leave = record s { mode = s.original; know = Nothing }
moved y s InsertCharacter = record s { know = lasting s.know }
moved y s (Drop c) = record s { know = lasting s.know }
moved y s AddMarker = s
moved y s ClearToMarker = s
moved y s FramesetOff = s
moved y s (Quirks q) = s
moved y s (PushTemplate m) = s
moved y s PopTemplate = s
moved y s w = plainly s

-- QUESTIONS

abbrev pub told : Know → Query → Know
told k (CanPop g) = Of g
told k (HasSeat g) = Seat g
told k (Finds g e) = cond (finds_near k g && not (is_bounded e)) k (Found g e)
told k HasTemplate = Made
told k IsOptionInGroup = Top tag.Option
told k q = Nothing

abbrev pub denied : Query → Know
denied HasTemplate = Bare
denied q = Nothing

-- the answer is yes
abbrev pub is_sure : Know → Query → Bool
is_sure k (HasSeat g) = is_on k g
is_sure Bare HasBody = true
is_sure Made (MayMisplace g) = is_same g tag.Body
is_sure k q = false

-- the answer is no, or the plan ends where nothing more is asked
abbrev pub is_refused : Query → Bool
is_refused ParsesForeign = true
is_refused q = false

-- PLANS

-- after the mode was reset the plan does nothing more
abbrev pub is_calm : Plan → Bool
is_calm (Do End p) = is_calm p
is_calm (Do (Drop cause) p) = is_calm p
is_calm (Stop e) = true
is_calm _ = false

abbrev pub is_calm_word : Word → Bool
is_calm_word End = true
is_calm_word (Drop cause) = true
is_calm_word ClearToMarker = true
is_calm_word PopTemplate = true
is_calm_word _ = false

-- a template was closed, and the mode is reset
abbrev pub closes_template : Word → Bool
closes_template (CloseThrough g e) = is_templates g && eqb (stop_number e) 0
closes_template _ = false

abbrev pub ends_template : Plan → Bool
ends_template (Do ClearToMarker (Do PopTemplate (Do Reset p))) = is_calm p
ends_template _ = false

abbrev pub resets : Word → Bool
resets Reset = true
resets _ = false

abbrev pub is_frameset_mode : Mode → Bool
is_frameset_mode mode.InFrameset = true
is_frameset_mode _ = false

-- a frameset is made, and the mode is that of one
abbrev pub frames : Plan → Bool
frames (Do (Switch m) (Stop Over)) = is_frameset_mode m
frames _ = false

abbrev pub replaces_body : Symbol → Query → Plan → Bool
replaces_body y CanReplaceBody (Do ReplaceBody p) = starts (λ g. is_same g tag.Frameset) y && frames p
replaces_body y _ _ = false

-- code points only are put in
abbrev pub is_steady_word : Word → Bool
is_steady_word InsertCharacter = true
is_steady_word FramesetOff = true
is_steady_word (Drop cause) = true
is_steady_word _ = false

abbrev pub is_in_body : Mode → Bool
is_in_body mode.InBody = true
is_in_body _ = false

abbrev pub steady : Plan → Bool
steady (Do w p) = is_steady_word w && steady p
steady (Ask q p n) = steady p && steady n
steady (Reconstruct p) = steady p
steady (Foster p) = steady p
steady (Stop e) = true
steady (By m) = is_in_body m
steady _ = false

abbrev pub is_text_mode : Mode → Bool
is_text_mode mode.Text = true
is_text_mode _ = false

abbrev pub is_plainly : Know → Bool
is_plainly Plain = true
is_plainly _ = false

-- so an entry may end
abbrev pub may_rest : View → Bool
may_rest s = cond (waits s.mode) (is_inner s.original && (suffices s.need (need_of s.original) && (not (is_text_mode s.mode) || is_plainly s.know))) (is_inner s.mode && suffices s.need (need_of s.mode))

module _ (r : Rules) where
  abbrev pub sound : ℕ → Symbol → View → Plan → Bool
  sound n y s (Do w p) = grows y w && (spares y w && ((closes_template w && ends_template p) || ((resets w && is_calm p) || (may y s w && sound n y (moved y s w) p))))
  sound n y s (Ask q p m) = (is_refused q || (replaces_body y q p || sound n y (record s { know = told s.know q }) p)) && (is_sure s.know q || sound n y (record s { know = denied q }) m)
  sound n y s (Reconstruct p) = sound n y (plainly s) p
  sound n y s (Adopt g p) = is_formatting g && sound n y (plainly s) p
  sound n y s (CloseLink p) = sound n y (plainly s) p
  sound n y s (Foster p) = sound n y (plainly s) p
  sound n y s (Settle q p) = steady q && sound n y (plainly s) p
  sound n y s (Each cs q p) = steady q && sound n y (plainly s) p
  sound n y s (Stop e) = may_rest s
  sound zero y s (By m) = false
  sound (suc n) y s (By m) = sound n y (plainly s) (r m y)

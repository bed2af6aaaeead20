-- What is judged of the rules of each mode, by its value at each token.
use Rattle.std.proofs.Common.{◌≡◌, ℕ, Bool, true, false, if◌then◌else◌, List, ◌∷◌, refl, sym}
use Rattle.std.proofs.lemmas.Bool.{false≢true}
use Rattle.html_names.specs.declared.tag.Tag.{Tag}
use Rattle.html_ledger.specs.declared.symbol.Symbol.{Symbol}
use Rattle.html_ledger.specs.declared.symbol.Symbol.TheVariants.{Start, End, Char, Comment, Doctype, Eof}
use Rattle.html_construction.specs.declared.mode.Mode.{Mode}
use Rattle.html_construction.specs.declared.mode.Mode.TheVariants as mode
use Rattle.html_construction.specs.Modes.{is_of_frames}
use Rattle.html_construction.specs.Plans.{Plan}
use Rattle.html_modes.specs.Rules.{plan}
use Rattle.html_laws.specs.Reads.{is_start}
use Rattle.html_laws.proofs.Framing.{framed}
use Rattle.html_laws.proofs.Grounds.{is_inner}
use Rattle.html_laws.proofs.Inners.{rest_view}
use Rattle.html_laws.proofs.Judging.{Nothing, Plain, View, need_of, sound, steady}
use Rattle.html_laws.proofs.Outers.{exact}
use Rattle.html_laws.proofs.Phases.{holds_text, is_outer, shape}
use Rattle.html_laws.proofs.Tags.{of-all}

abbrev pub text_view : Mode → View
text_view o = record { mode = mode.Text; original = o; need = need_of o; know = Plain }

abbrev pub kept_view : Mode → View
kept_view o = record { mode = mode.InTableText; original = o; need = need_of o; know = Nothing }

-- PLANS BY CASES OF A CODE POINT

sound-if : (b : Bool) (y : Symbol) (s : View) (p n : Plan) → sound plan 4 y s (if b then p else n) ≡ (if b then sound plan 4 y s p else sound plan 4 y s n)
sound-if true y s p n = refl
sound-if false y s p n = refl

sound-if-3 : (b : Bool) (y : Symbol) (s : View) (p n : Plan) → sound plan 3 y s (if b then p else n) ≡ (if b then sound plan 3 y s p else sound plan 3 y s n)
sound-if-3 true y s p n = refl
sound-if-3 false y s p n = refl

sound-if-2 : (b : Bool) (y : Symbol) (s : View) (p n : Plan) → sound plan 2 y s (if b then p else n) ≡ (if b then sound plan 2 y s p else sound plan 2 y s n)
sound-if-2 true y s p n = refl
sound-if-2 false y s p n = refl

sound-if-1 : (b : Bool) (y : Symbol) (s : View) (p n : Plan) → sound plan 1 y s (if b then p else n) ≡ (if b then sound plan 1 y s p else sound plan 1 y s n)
sound-if-1 true y s p n = refl
sound-if-1 false y s p n = refl

exact-if : (b : Bool) (y : Symbol) (m o : Mode) (gs : List Tag) (p n : Plan) → exact plan 4 y m o gs (if b then p else n) ≡ (if b then exact plan 4 y m o gs p else exact plan 4 y m o gs n)
exact-if true y m o gs p n = refl
exact-if false y m o gs p n = refl

exact-if-3 : (b : Bool) (y : Symbol) (m o : Mode) (gs : List Tag) (p n : Plan) → exact plan 3 y m o gs (if b then p else n) ≡ (if b then exact plan 3 y m o gs p else exact plan 3 y m o gs n)
exact-if-3 true y m o gs p n = refl
exact-if-3 false y m o gs p n = refl

framed-if : (b : Bool) (y : Symbol) (m o : Mode) (p n : Plan) → framed plan 4 y m o (if b then p else n) ≡ (if b then framed plan 4 y m o p else framed plan 4 y m o n)
framed-if true y m o p n = refl
framed-if false y m o p n = refl

framed-if-3 : (b : Bool) (y : Symbol) (m o : Mode) (p n : Plan) → framed plan 3 y m o (if b then p else n) ≡ (if b then framed plan 3 y m o p else framed plan 3 y m o n)
framed-if-3 true y m o p n = refl
framed-if-3 false y m o p n = refl

steady-if : (b : Bool) (p n : Plan) → steady (if b then p else n) ≡ (if b then steady p else steady n)
steady-if true p n = refl
steady-if false p n = refl

if-true : (b : Bool) → (if b then true else true) ≡ true
if-true true = refl
if-true false = refl

if-again : (b x y z : Bool) → (if b then (if b then x else y) else z) ≡ (if b then x else z)
if-again true x y z = refl
if-again false x y z = refl

ruleset by_points = (if-again, sound-if, sound-if-3, sound-if-2, sound-if-1, exact-if, exact-if-3, framed-if, framed-if-3, steady-if, if-true)

pub char-steady : (c : ℕ) → steady (plan mode.InBody (Char c)) ≡ true
unfolding plan
char-steady c = simp by_points refl

-- WHERE THE BODY IS OPEN

inner_inBody-start : (g : Tag) → (sound plan 4 (Start g) (rest_view mode.InBody) (plan mode.InBody (Start g))) ≡ true
unfolding plan
inner_inBody-start = of-all (λ g. sound plan 4 (Start g) (rest_view mode.InBody) (plan mode.InBody (Start g))) refl

inner_inBody-end : (g : Tag) → (sound plan 4 (End g) (rest_view mode.InBody) (plan mode.InBody (End g))) ≡ true
unfolding plan
inner_inBody-end = of-all (λ g. sound plan 4 (End g) (rest_view mode.InBody) (plan mode.InBody (End g))) refl

inner_inBody : (y : Symbol) → (sound plan 4 y (rest_view mode.InBody) (plan mode.InBody y)) ≡ true
unfolding plan
inner_inBody (Start g) = inner_inBody-start g
inner_inBody (End g) = inner_inBody-end g
inner_inBody (Char c) = simp by_points refl
inner_inBody Comment = refl
inner_inBody Doctype = refl
inner_inBody Eof = refl

inner_inTable-start : (g : Tag) → (sound plan 4 (Start g) (rest_view mode.InTable) (plan mode.InTable (Start g))) ≡ true
unfolding plan
inner_inTable-start = of-all (λ g. sound plan 4 (Start g) (rest_view mode.InTable) (plan mode.InTable (Start g))) refl

inner_inTable-end : (g : Tag) → (sound plan 4 (End g) (rest_view mode.InTable) (plan mode.InTable (End g))) ≡ true
unfolding plan
inner_inTable-end = of-all (λ g. sound plan 4 (End g) (rest_view mode.InTable) (plan mode.InTable (End g))) refl

inner_inTable : (y : Symbol) → (sound plan 4 y (rest_view mode.InTable) (plan mode.InTable y)) ≡ true
unfolding plan
inner_inTable (Start g) = inner_inTable-start g
inner_inTable (End g) = inner_inTable-end g
inner_inTable (Char c) = simp by_points refl
inner_inTable Comment = refl
inner_inTable Doctype = refl
inner_inTable Eof = refl

inner_inCaption-start : (g : Tag) → (sound plan 4 (Start g) (rest_view mode.InCaption) (plan mode.InCaption (Start g))) ≡ true
unfolding plan
inner_inCaption-start = of-all (λ g. sound plan 4 (Start g) (rest_view mode.InCaption) (plan mode.InCaption (Start g))) refl

inner_inCaption-end : (g : Tag) → (sound plan 4 (End g) (rest_view mode.InCaption) (plan mode.InCaption (End g))) ≡ true
unfolding plan
inner_inCaption-end = of-all (λ g. sound plan 4 (End g) (rest_view mode.InCaption) (plan mode.InCaption (End g))) refl

inner_inCaption : (y : Symbol) → (sound plan 4 y (rest_view mode.InCaption) (plan mode.InCaption y)) ≡ true
unfolding plan
inner_inCaption (Start g) = inner_inCaption-start g
inner_inCaption (End g) = inner_inCaption-end g
inner_inCaption (Char c) = simp by_points refl
inner_inCaption Comment = refl
inner_inCaption Doctype = refl
inner_inCaption Eof = refl

inner_inColumnGroup-start : (g : Tag) → (sound plan 4 (Start g) (rest_view mode.InColumnGroup) (plan mode.InColumnGroup (Start g))) ≡ true
unfolding plan
inner_inColumnGroup-start = of-all (λ g. sound plan 4 (Start g) (rest_view mode.InColumnGroup) (plan mode.InColumnGroup (Start g))) refl

inner_inColumnGroup-end : (g : Tag) → (sound plan 4 (End g) (rest_view mode.InColumnGroup) (plan mode.InColumnGroup (End g))) ≡ true
unfolding plan
inner_inColumnGroup-end = of-all (λ g. sound plan 4 (End g) (rest_view mode.InColumnGroup) (plan mode.InColumnGroup (End g))) refl

inner_inColumnGroup : (y : Symbol) → (sound plan 4 y (rest_view mode.InColumnGroup) (plan mode.InColumnGroup y)) ≡ true
unfolding plan
inner_inColumnGroup (Start g) = inner_inColumnGroup-start g
inner_inColumnGroup (End g) = inner_inColumnGroup-end g
inner_inColumnGroup (Char c) = simp by_points refl
inner_inColumnGroup Comment = refl
inner_inColumnGroup Doctype = refl
inner_inColumnGroup Eof = refl

inner_inTableBody-start : (g : Tag) → (sound plan 4 (Start g) (rest_view mode.InTableBody) (plan mode.InTableBody (Start g))) ≡ true
unfolding plan
inner_inTableBody-start = of-all (λ g. sound plan 4 (Start g) (rest_view mode.InTableBody) (plan mode.InTableBody (Start g))) refl

inner_inTableBody-end : (g : Tag) → (sound plan 4 (End g) (rest_view mode.InTableBody) (plan mode.InTableBody (End g))) ≡ true
unfolding plan
inner_inTableBody-end = of-all (λ g. sound plan 4 (End g) (rest_view mode.InTableBody) (plan mode.InTableBody (End g))) refl

inner_inTableBody : (y : Symbol) → (sound plan 4 y (rest_view mode.InTableBody) (plan mode.InTableBody y)) ≡ true
unfolding plan
inner_inTableBody (Start g) = inner_inTableBody-start g
inner_inTableBody (End g) = inner_inTableBody-end g
inner_inTableBody (Char c) = simp by_points refl
inner_inTableBody Comment = refl
inner_inTableBody Doctype = refl
inner_inTableBody Eof = refl

inner_inRow-start : (g : Tag) → (sound plan 4 (Start g) (rest_view mode.InRow) (plan mode.InRow (Start g))) ≡ true
unfolding plan
inner_inRow-start = of-all (λ g. sound plan 4 (Start g) (rest_view mode.InRow) (plan mode.InRow (Start g))) refl

inner_inRow-end : (g : Tag) → (sound plan 4 (End g) (rest_view mode.InRow) (plan mode.InRow (End g))) ≡ true
unfolding plan
inner_inRow-end = of-all (λ g. sound plan 4 (End g) (rest_view mode.InRow) (plan mode.InRow (End g))) refl

inner_inRow : (y : Symbol) → (sound plan 4 y (rest_view mode.InRow) (plan mode.InRow y)) ≡ true
unfolding plan
inner_inRow (Start g) = inner_inRow-start g
inner_inRow (End g) = inner_inRow-end g
inner_inRow (Char c) = simp by_points refl
inner_inRow Comment = refl
inner_inRow Doctype = refl
inner_inRow Eof = refl

inner_inCell-start : (g : Tag) → (sound plan 4 (Start g) (rest_view mode.InCell) (plan mode.InCell (Start g))) ≡ true
unfolding plan
inner_inCell-start = of-all (λ g. sound plan 4 (Start g) (rest_view mode.InCell) (plan mode.InCell (Start g))) refl

inner_inCell-end : (g : Tag) → (sound plan 4 (End g) (rest_view mode.InCell) (plan mode.InCell (End g))) ≡ true
unfolding plan
inner_inCell-end = of-all (λ g. sound plan 4 (End g) (rest_view mode.InCell) (plan mode.InCell (End g))) refl

inner_inCell : (y : Symbol) → (sound plan 4 y (rest_view mode.InCell) (plan mode.InCell y)) ≡ true
unfolding plan
inner_inCell (Start g) = inner_inCell-start g
inner_inCell (End g) = inner_inCell-end g
inner_inCell (Char c) = simp by_points refl
inner_inCell Comment = refl
inner_inCell Doctype = refl
inner_inCell Eof = refl

inner_inSelect-start : (g : Tag) → (sound plan 4 (Start g) (rest_view mode.InSelect) (plan mode.InSelect (Start g))) ≡ true
unfolding plan
inner_inSelect-start = of-all (λ g. sound plan 4 (Start g) (rest_view mode.InSelect) (plan mode.InSelect (Start g))) refl

inner_inSelect-end : (g : Tag) → (sound plan 4 (End g) (rest_view mode.InSelect) (plan mode.InSelect (End g))) ≡ true
unfolding plan
inner_inSelect-end = of-all (λ g. sound plan 4 (End g) (rest_view mode.InSelect) (plan mode.InSelect (End g))) refl

inner_inSelect : (y : Symbol) → (sound plan 4 y (rest_view mode.InSelect) (plan mode.InSelect y)) ≡ true
unfolding plan
inner_inSelect (Start g) = inner_inSelect-start g
inner_inSelect (End g) = inner_inSelect-end g
inner_inSelect (Char c) = simp by_points refl
inner_inSelect Comment = refl
inner_inSelect Doctype = refl
inner_inSelect Eof = refl

inner_inSelectInTable-start : (g : Tag) → (sound plan 4 (Start g) (rest_view mode.InSelectInTable) (plan mode.InSelectInTable (Start g))) ≡ true
unfolding plan
inner_inSelectInTable-start = of-all (λ g. sound plan 4 (Start g) (rest_view mode.InSelectInTable) (plan mode.InSelectInTable (Start g))) refl

inner_inSelectInTable-end : (g : Tag) → (sound plan 4 (End g) (rest_view mode.InSelectInTable) (plan mode.InSelectInTable (End g))) ≡ true
unfolding plan
inner_inSelectInTable-end = of-all (λ g. sound plan 4 (End g) (rest_view mode.InSelectInTable) (plan mode.InSelectInTable (End g))) refl

inner_inSelectInTable : (y : Symbol) → (sound plan 4 y (rest_view mode.InSelectInTable) (plan mode.InSelectInTable y)) ≡ true
unfolding plan
inner_inSelectInTable (Start g) = inner_inSelectInTable-start g
inner_inSelectInTable (End g) = inner_inSelectInTable-end g
inner_inSelectInTable (Char c) = simp by_points refl
inner_inSelectInTable Comment = refl
inner_inSelectInTable Doctype = refl
inner_inSelectInTable Eof = refl

inner_inTemplate-start : (g : Tag) → (sound plan 4 (Start g) (rest_view mode.InTemplate) (plan mode.InTemplate (Start g))) ≡ true
unfolding plan
inner_inTemplate-start = of-all (λ g. sound plan 4 (Start g) (rest_view mode.InTemplate) (plan mode.InTemplate (Start g))) refl

inner_inTemplate-end : (g : Tag) → (sound plan 4 (End g) (rest_view mode.InTemplate) (plan mode.InTemplate (End g))) ≡ true
unfolding plan
inner_inTemplate-end = of-all (λ g. sound plan 4 (End g) (rest_view mode.InTemplate) (plan mode.InTemplate (End g))) refl

inner_inTemplate : (y : Symbol) → (sound plan 4 y (rest_view mode.InTemplate) (plan mode.InTemplate y)) ≡ true
unfolding plan
inner_inTemplate (Start g) = inner_inTemplate-start g
inner_inTemplate (End g) = inner_inTemplate-end g
inner_inTemplate (Char c) = simp by_points refl
inner_inTemplate Comment = refl
inner_inTemplate Doctype = refl
inner_inTemplate Eof = refl

inner_afterBody-start : (g : Tag) → (sound plan 4 (Start g) (rest_view mode.AfterBody) (plan mode.AfterBody (Start g))) ≡ true
unfolding plan
inner_afterBody-start = of-all (λ g. sound plan 4 (Start g) (rest_view mode.AfterBody) (plan mode.AfterBody (Start g))) refl

inner_afterBody-end : (g : Tag) → (sound plan 4 (End g) (rest_view mode.AfterBody) (plan mode.AfterBody (End g))) ≡ true
unfolding plan
inner_afterBody-end = of-all (λ g. sound plan 4 (End g) (rest_view mode.AfterBody) (plan mode.AfterBody (End g))) refl

inner_afterBody : (y : Symbol) → (sound plan 4 y (rest_view mode.AfterBody) (plan mode.AfterBody y)) ≡ true
unfolding plan
inner_afterBody (Start g) = inner_afterBody-start g
inner_afterBody (End g) = inner_afterBody-end g
inner_afterBody (Char c) = simp by_points refl
inner_afterBody Comment = refl
inner_afterBody Doctype = refl
inner_afterBody Eof = refl

inner_afterAfterBody-start : (g : Tag) → (sound plan 4 (Start g) (rest_view mode.AfterAfterBody) (plan mode.AfterAfterBody (Start g))) ≡ true
unfolding plan
inner_afterAfterBody-start = of-all (λ g. sound plan 4 (Start g) (rest_view mode.AfterAfterBody) (plan mode.AfterAfterBody (Start g))) refl

inner_afterAfterBody-end : (g : Tag) → (sound plan 4 (End g) (rest_view mode.AfterAfterBody) (plan mode.AfterAfterBody (End g))) ≡ true
unfolding plan
inner_afterAfterBody-end = of-all (λ g. sound plan 4 (End g) (rest_view mode.AfterAfterBody) (plan mode.AfterAfterBody (End g))) refl

inner_afterAfterBody : (y : Symbol) → (sound plan 4 y (rest_view mode.AfterAfterBody) (plan mode.AfterAfterBody y)) ≡ true
unfolding plan
inner_afterAfterBody (Start g) = inner_afterAfterBody-start g
inner_afterAfterBody (End g) = inner_afterAfterBody-end g
inner_afterAfterBody (Char c) = simp by_points refl
inner_afterAfterBody Comment = refl
inner_afterAfterBody Doctype = refl
inner_afterAfterBody Eof = refl

pub inner-sound : (m : Mode) (y : Symbol) → is_inner m ≡ true → sound plan 4 y (rest_view m) (plan m y) ≡ true
inner-sound mode.InBody y h = inner_inBody y
inner-sound mode.InTable y h = inner_inTable y
inner-sound mode.InCaption y h = inner_inCaption y
inner-sound mode.InColumnGroup y h = inner_inColumnGroup y
inner-sound mode.InTableBody y h = inner_inTableBody y
inner-sound mode.InRow y h = inner_inRow y
inner-sound mode.InCell y h = inner_inCell y
inner-sound mode.InSelect y h = inner_inSelect y
inner-sound mode.InSelectInTable y h = inner_inSelectInTable y
inner-sound mode.InTemplate y h = inner_inTemplate y
inner-sound mode.AfterBody y h = inner_afterBody y
inner-sound mode.AfterAfterBody y h = inner_afterAfterBody y
inner-sound m y h = absurd (false≢true h)

text_inBody-start : (g : Tag) → (sound plan 4 (Start g) (text_view mode.InBody) (plan mode.Text (Start g))) ≡ true
unfolding plan
text_inBody-start = of-all (λ g. sound plan 4 (Start g) (text_view mode.InBody) (plan mode.Text (Start g))) refl

text_inBody-end : (g : Tag) → (sound plan 4 (End g) (text_view mode.InBody) (plan mode.Text (End g))) ≡ true
unfolding plan
text_inBody-end = of-all (λ g. sound plan 4 (End g) (text_view mode.InBody) (plan mode.Text (End g))) refl

text_inBody : (y : Symbol) → (sound plan 4 y (text_view mode.InBody) (plan mode.Text y)) ≡ true
unfolding plan
text_inBody (Start g) = text_inBody-start g
text_inBody (End g) = text_inBody-end g
text_inBody (Char c) = simp by_points refl
text_inBody Comment = refl
text_inBody Doctype = refl
text_inBody Eof = refl

text_inTable-start : (g : Tag) → (sound plan 4 (Start g) (text_view mode.InTable) (plan mode.Text (Start g))) ≡ true
unfolding plan
text_inTable-start = of-all (λ g. sound plan 4 (Start g) (text_view mode.InTable) (plan mode.Text (Start g))) refl

text_inTable-end : (g : Tag) → (sound plan 4 (End g) (text_view mode.InTable) (plan mode.Text (End g))) ≡ true
unfolding plan
text_inTable-end = of-all (λ g. sound plan 4 (End g) (text_view mode.InTable) (plan mode.Text (End g))) refl

text_inTable : (y : Symbol) → (sound plan 4 y (text_view mode.InTable) (plan mode.Text y)) ≡ true
unfolding plan
text_inTable (Start g) = text_inTable-start g
text_inTable (End g) = text_inTable-end g
text_inTable (Char c) = simp by_points refl
text_inTable Comment = refl
text_inTable Doctype = refl
text_inTable Eof = refl

text_inCaption-start : (g : Tag) → (sound plan 4 (Start g) (text_view mode.InCaption) (plan mode.Text (Start g))) ≡ true
unfolding plan
text_inCaption-start = of-all (λ g. sound plan 4 (Start g) (text_view mode.InCaption) (plan mode.Text (Start g))) refl

text_inCaption-end : (g : Tag) → (sound plan 4 (End g) (text_view mode.InCaption) (plan mode.Text (End g))) ≡ true
unfolding plan
text_inCaption-end = of-all (λ g. sound plan 4 (End g) (text_view mode.InCaption) (plan mode.Text (End g))) refl

text_inCaption : (y : Symbol) → (sound plan 4 y (text_view mode.InCaption) (plan mode.Text y)) ≡ true
unfolding plan
text_inCaption (Start g) = text_inCaption-start g
text_inCaption (End g) = text_inCaption-end g
text_inCaption (Char c) = simp by_points refl
text_inCaption Comment = refl
text_inCaption Doctype = refl
text_inCaption Eof = refl

text_inColumnGroup-start : (g : Tag) → (sound plan 4 (Start g) (text_view mode.InColumnGroup) (plan mode.Text (Start g))) ≡ true
unfolding plan
text_inColumnGroup-start = of-all (λ g. sound plan 4 (Start g) (text_view mode.InColumnGroup) (plan mode.Text (Start g))) refl

text_inColumnGroup-end : (g : Tag) → (sound plan 4 (End g) (text_view mode.InColumnGroup) (plan mode.Text (End g))) ≡ true
unfolding plan
text_inColumnGroup-end = of-all (λ g. sound plan 4 (End g) (text_view mode.InColumnGroup) (plan mode.Text (End g))) refl

text_inColumnGroup : (y : Symbol) → (sound plan 4 y (text_view mode.InColumnGroup) (plan mode.Text y)) ≡ true
unfolding plan
text_inColumnGroup (Start g) = text_inColumnGroup-start g
text_inColumnGroup (End g) = text_inColumnGroup-end g
text_inColumnGroup (Char c) = simp by_points refl
text_inColumnGroup Comment = refl
text_inColumnGroup Doctype = refl
text_inColumnGroup Eof = refl

text_inTableBody-start : (g : Tag) → (sound plan 4 (Start g) (text_view mode.InTableBody) (plan mode.Text (Start g))) ≡ true
unfolding plan
text_inTableBody-start = of-all (λ g. sound plan 4 (Start g) (text_view mode.InTableBody) (plan mode.Text (Start g))) refl

text_inTableBody-end : (g : Tag) → (sound plan 4 (End g) (text_view mode.InTableBody) (plan mode.Text (End g))) ≡ true
unfolding plan
text_inTableBody-end = of-all (λ g. sound plan 4 (End g) (text_view mode.InTableBody) (plan mode.Text (End g))) refl

text_inTableBody : (y : Symbol) → (sound plan 4 y (text_view mode.InTableBody) (plan mode.Text y)) ≡ true
unfolding plan
text_inTableBody (Start g) = text_inTableBody-start g
text_inTableBody (End g) = text_inTableBody-end g
text_inTableBody (Char c) = simp by_points refl
text_inTableBody Comment = refl
text_inTableBody Doctype = refl
text_inTableBody Eof = refl

text_inRow-start : (g : Tag) → (sound plan 4 (Start g) (text_view mode.InRow) (plan mode.Text (Start g))) ≡ true
unfolding plan
text_inRow-start = of-all (λ g. sound plan 4 (Start g) (text_view mode.InRow) (plan mode.Text (Start g))) refl

text_inRow-end : (g : Tag) → (sound plan 4 (End g) (text_view mode.InRow) (plan mode.Text (End g))) ≡ true
unfolding plan
text_inRow-end = of-all (λ g. sound plan 4 (End g) (text_view mode.InRow) (plan mode.Text (End g))) refl

text_inRow : (y : Symbol) → (sound plan 4 y (text_view mode.InRow) (plan mode.Text y)) ≡ true
unfolding plan
text_inRow (Start g) = text_inRow-start g
text_inRow (End g) = text_inRow-end g
text_inRow (Char c) = simp by_points refl
text_inRow Comment = refl
text_inRow Doctype = refl
text_inRow Eof = refl

text_inCell-start : (g : Tag) → (sound plan 4 (Start g) (text_view mode.InCell) (plan mode.Text (Start g))) ≡ true
unfolding plan
text_inCell-start = of-all (λ g. sound plan 4 (Start g) (text_view mode.InCell) (plan mode.Text (Start g))) refl

text_inCell-end : (g : Tag) → (sound plan 4 (End g) (text_view mode.InCell) (plan mode.Text (End g))) ≡ true
unfolding plan
text_inCell-end = of-all (λ g. sound plan 4 (End g) (text_view mode.InCell) (plan mode.Text (End g))) refl

text_inCell : (y : Symbol) → (sound plan 4 y (text_view mode.InCell) (plan mode.Text y)) ≡ true
unfolding plan
text_inCell (Start g) = text_inCell-start g
text_inCell (End g) = text_inCell-end g
text_inCell (Char c) = simp by_points refl
text_inCell Comment = refl
text_inCell Doctype = refl
text_inCell Eof = refl

text_inSelect-start : (g : Tag) → (sound plan 4 (Start g) (text_view mode.InSelect) (plan mode.Text (Start g))) ≡ true
unfolding plan
text_inSelect-start = of-all (λ g. sound plan 4 (Start g) (text_view mode.InSelect) (plan mode.Text (Start g))) refl

text_inSelect-end : (g : Tag) → (sound plan 4 (End g) (text_view mode.InSelect) (plan mode.Text (End g))) ≡ true
unfolding plan
text_inSelect-end = of-all (λ g. sound plan 4 (End g) (text_view mode.InSelect) (plan mode.Text (End g))) refl

text_inSelect : (y : Symbol) → (sound plan 4 y (text_view mode.InSelect) (plan mode.Text y)) ≡ true
unfolding plan
text_inSelect (Start g) = text_inSelect-start g
text_inSelect (End g) = text_inSelect-end g
text_inSelect (Char c) = simp by_points refl
text_inSelect Comment = refl
text_inSelect Doctype = refl
text_inSelect Eof = refl

text_inSelectInTable-start : (g : Tag) → (sound plan 4 (Start g) (text_view mode.InSelectInTable) (plan mode.Text (Start g))) ≡ true
unfolding plan
text_inSelectInTable-start = of-all (λ g. sound plan 4 (Start g) (text_view mode.InSelectInTable) (plan mode.Text (Start g))) refl

text_inSelectInTable-end : (g : Tag) → (sound plan 4 (End g) (text_view mode.InSelectInTable) (plan mode.Text (End g))) ≡ true
unfolding plan
text_inSelectInTable-end = of-all (λ g. sound plan 4 (End g) (text_view mode.InSelectInTable) (plan mode.Text (End g))) refl

text_inSelectInTable : (y : Symbol) → (sound plan 4 y (text_view mode.InSelectInTable) (plan mode.Text y)) ≡ true
unfolding plan
text_inSelectInTable (Start g) = text_inSelectInTable-start g
text_inSelectInTable (End g) = text_inSelectInTable-end g
text_inSelectInTable (Char c) = simp by_points refl
text_inSelectInTable Comment = refl
text_inSelectInTable Doctype = refl
text_inSelectInTable Eof = refl

text_inTemplate-start : (g : Tag) → (sound plan 4 (Start g) (text_view mode.InTemplate) (plan mode.Text (Start g))) ≡ true
unfolding plan
text_inTemplate-start = of-all (λ g. sound plan 4 (Start g) (text_view mode.InTemplate) (plan mode.Text (Start g))) refl

text_inTemplate-end : (g : Tag) → (sound plan 4 (End g) (text_view mode.InTemplate) (plan mode.Text (End g))) ≡ true
unfolding plan
text_inTemplate-end = of-all (λ g. sound plan 4 (End g) (text_view mode.InTemplate) (plan mode.Text (End g))) refl

text_inTemplate : (y : Symbol) → (sound plan 4 y (text_view mode.InTemplate) (plan mode.Text y)) ≡ true
unfolding plan
text_inTemplate (Start g) = text_inTemplate-start g
text_inTemplate (End g) = text_inTemplate-end g
text_inTemplate (Char c) = simp by_points refl
text_inTemplate Comment = refl
text_inTemplate Doctype = refl
text_inTemplate Eof = refl

text_afterBody-start : (g : Tag) → (sound plan 4 (Start g) (text_view mode.AfterBody) (plan mode.Text (Start g))) ≡ true
unfolding plan
text_afterBody-start = of-all (λ g. sound plan 4 (Start g) (text_view mode.AfterBody) (plan mode.Text (Start g))) refl

text_afterBody-end : (g : Tag) → (sound plan 4 (End g) (text_view mode.AfterBody) (plan mode.Text (End g))) ≡ true
unfolding plan
text_afterBody-end = of-all (λ g. sound plan 4 (End g) (text_view mode.AfterBody) (plan mode.Text (End g))) refl

text_afterBody : (y : Symbol) → (sound plan 4 y (text_view mode.AfterBody) (plan mode.Text y)) ≡ true
unfolding plan
text_afterBody (Start g) = text_afterBody-start g
text_afterBody (End g) = text_afterBody-end g
text_afterBody (Char c) = simp by_points refl
text_afterBody Comment = refl
text_afterBody Doctype = refl
text_afterBody Eof = refl

text_afterAfterBody-start : (g : Tag) → (sound plan 4 (Start g) (text_view mode.AfterAfterBody) (plan mode.Text (Start g))) ≡ true
unfolding plan
text_afterAfterBody-start = of-all (λ g. sound plan 4 (Start g) (text_view mode.AfterAfterBody) (plan mode.Text (Start g))) refl

text_afterAfterBody-end : (g : Tag) → (sound plan 4 (End g) (text_view mode.AfterAfterBody) (plan mode.Text (End g))) ≡ true
unfolding plan
text_afterAfterBody-end = of-all (λ g. sound plan 4 (End g) (text_view mode.AfterAfterBody) (plan mode.Text (End g))) refl

text_afterAfterBody : (y : Symbol) → (sound plan 4 y (text_view mode.AfterAfterBody) (plan mode.Text y)) ≡ true
unfolding plan
text_afterAfterBody (Start g) = text_afterAfterBody-start g
text_afterAfterBody (End g) = text_afterAfterBody-end g
text_afterAfterBody (Char c) = simp by_points refl
text_afterAfterBody Comment = refl
text_afterAfterBody Doctype = refl
text_afterAfterBody Eof = refl

pub text-sound : (o : Mode) (y : Symbol) → is_inner o ≡ true → sound plan 4 y (text_view o) (plan mode.Text y) ≡ true
text-sound mode.InBody y h = text_inBody y
text-sound mode.InTable y h = text_inTable y
text-sound mode.InCaption y h = text_inCaption y
text-sound mode.InColumnGroup y h = text_inColumnGroup y
text-sound mode.InTableBody y h = text_inTableBody y
text-sound mode.InRow y h = text_inRow y
text-sound mode.InCell y h = text_inCell y
text-sound mode.InSelect y h = text_inSelect y
text-sound mode.InSelectInTable y h = text_inSelectInTable y
text-sound mode.InTemplate y h = text_inTemplate y
text-sound mode.AfterBody y h = text_afterBody y
text-sound mode.AfterAfterBody y h = text_afterAfterBody y
text-sound m y h = absurd (false≢true h)

kept_inBody-start : (g : Tag) → (sound plan 4 (Start g) (kept_view mode.InBody) (plan mode.InTableText (Start g))) ≡ true
unfolding plan
kept_inBody-start = of-all (λ g. sound plan 4 (Start g) (kept_view mode.InBody) (plan mode.InTableText (Start g))) refl

kept_inBody-end : (g : Tag) → (sound plan 4 (End g) (kept_view mode.InBody) (plan mode.InTableText (End g))) ≡ true
unfolding plan
kept_inBody-end = of-all (λ g. sound plan 4 (End g) (kept_view mode.InBody) (plan mode.InTableText (End g))) refl

kept_inBody : (y : Symbol) → (sound plan 4 y (kept_view mode.InBody) (plan mode.InTableText y)) ≡ true
unfolding plan
kept_inBody (Start g) = kept_inBody-start g
kept_inBody (End g) = kept_inBody-end g
kept_inBody (Char c) = refl
kept_inBody Comment = refl
kept_inBody Doctype = refl
kept_inBody Eof = refl

kept_inTable-start : (g : Tag) → (sound plan 4 (Start g) (kept_view mode.InTable) (plan mode.InTableText (Start g))) ≡ true
unfolding plan
kept_inTable-start = of-all (λ g. sound plan 4 (Start g) (kept_view mode.InTable) (plan mode.InTableText (Start g))) refl

kept_inTable-end : (g : Tag) → (sound plan 4 (End g) (kept_view mode.InTable) (plan mode.InTableText (End g))) ≡ true
unfolding plan
kept_inTable-end = of-all (λ g. sound plan 4 (End g) (kept_view mode.InTable) (plan mode.InTableText (End g))) refl

kept_inTable : (y : Symbol) → (sound plan 4 y (kept_view mode.InTable) (plan mode.InTableText y)) ≡ true
unfolding plan
kept_inTable (Start g) = kept_inTable-start g
kept_inTable (End g) = kept_inTable-end g
kept_inTable (Char c) = refl
kept_inTable Comment = refl
kept_inTable Doctype = refl
kept_inTable Eof = refl

kept_inCaption-start : (g : Tag) → (sound plan 4 (Start g) (kept_view mode.InCaption) (plan mode.InTableText (Start g))) ≡ true
unfolding plan
kept_inCaption-start = of-all (λ g. sound plan 4 (Start g) (kept_view mode.InCaption) (plan mode.InTableText (Start g))) refl

kept_inCaption-end : (g : Tag) → (sound plan 4 (End g) (kept_view mode.InCaption) (plan mode.InTableText (End g))) ≡ true
unfolding plan
kept_inCaption-end = of-all (λ g. sound plan 4 (End g) (kept_view mode.InCaption) (plan mode.InTableText (End g))) refl

kept_inCaption : (y : Symbol) → (sound plan 4 y (kept_view mode.InCaption) (plan mode.InTableText y)) ≡ true
unfolding plan
kept_inCaption (Start g) = kept_inCaption-start g
kept_inCaption (End g) = kept_inCaption-end g
kept_inCaption (Char c) = refl
kept_inCaption Comment = refl
kept_inCaption Doctype = refl
kept_inCaption Eof = refl

kept_inColumnGroup-start : (g : Tag) → (sound plan 4 (Start g) (kept_view mode.InColumnGroup) (plan mode.InTableText (Start g))) ≡ true
unfolding plan
kept_inColumnGroup-start = of-all (λ g. sound plan 4 (Start g) (kept_view mode.InColumnGroup) (plan mode.InTableText (Start g))) refl

kept_inColumnGroup-end : (g : Tag) → (sound plan 4 (End g) (kept_view mode.InColumnGroup) (plan mode.InTableText (End g))) ≡ true
unfolding plan
kept_inColumnGroup-end = of-all (λ g. sound plan 4 (End g) (kept_view mode.InColumnGroup) (plan mode.InTableText (End g))) refl

kept_inColumnGroup : (y : Symbol) → (sound plan 4 y (kept_view mode.InColumnGroup) (plan mode.InTableText y)) ≡ true
unfolding plan
kept_inColumnGroup (Start g) = kept_inColumnGroup-start g
kept_inColumnGroup (End g) = kept_inColumnGroup-end g
kept_inColumnGroup (Char c) = refl
kept_inColumnGroup Comment = refl
kept_inColumnGroup Doctype = refl
kept_inColumnGroup Eof = refl

kept_inTableBody-start : (g : Tag) → (sound plan 4 (Start g) (kept_view mode.InTableBody) (plan mode.InTableText (Start g))) ≡ true
unfolding plan
kept_inTableBody-start = of-all (λ g. sound plan 4 (Start g) (kept_view mode.InTableBody) (plan mode.InTableText (Start g))) refl

kept_inTableBody-end : (g : Tag) → (sound plan 4 (End g) (kept_view mode.InTableBody) (plan mode.InTableText (End g))) ≡ true
unfolding plan
kept_inTableBody-end = of-all (λ g. sound plan 4 (End g) (kept_view mode.InTableBody) (plan mode.InTableText (End g))) refl

kept_inTableBody : (y : Symbol) → (sound plan 4 y (kept_view mode.InTableBody) (plan mode.InTableText y)) ≡ true
unfolding plan
kept_inTableBody (Start g) = kept_inTableBody-start g
kept_inTableBody (End g) = kept_inTableBody-end g
kept_inTableBody (Char c) = refl
kept_inTableBody Comment = refl
kept_inTableBody Doctype = refl
kept_inTableBody Eof = refl

kept_inRow-start : (g : Tag) → (sound plan 4 (Start g) (kept_view mode.InRow) (plan mode.InTableText (Start g))) ≡ true
unfolding plan
kept_inRow-start = of-all (λ g. sound plan 4 (Start g) (kept_view mode.InRow) (plan mode.InTableText (Start g))) refl

kept_inRow-end : (g : Tag) → (sound plan 4 (End g) (kept_view mode.InRow) (plan mode.InTableText (End g))) ≡ true
unfolding plan
kept_inRow-end = of-all (λ g. sound plan 4 (End g) (kept_view mode.InRow) (plan mode.InTableText (End g))) refl

kept_inRow : (y : Symbol) → (sound plan 4 y (kept_view mode.InRow) (plan mode.InTableText y)) ≡ true
unfolding plan
kept_inRow (Start g) = kept_inRow-start g
kept_inRow (End g) = kept_inRow-end g
kept_inRow (Char c) = refl
kept_inRow Comment = refl
kept_inRow Doctype = refl
kept_inRow Eof = refl

kept_inCell-start : (g : Tag) → (sound plan 4 (Start g) (kept_view mode.InCell) (plan mode.InTableText (Start g))) ≡ true
unfolding plan
kept_inCell-start = of-all (λ g. sound plan 4 (Start g) (kept_view mode.InCell) (plan mode.InTableText (Start g))) refl

kept_inCell-end : (g : Tag) → (sound plan 4 (End g) (kept_view mode.InCell) (plan mode.InTableText (End g))) ≡ true
unfolding plan
kept_inCell-end = of-all (λ g. sound plan 4 (End g) (kept_view mode.InCell) (plan mode.InTableText (End g))) refl

kept_inCell : (y : Symbol) → (sound plan 4 y (kept_view mode.InCell) (plan mode.InTableText y)) ≡ true
unfolding plan
kept_inCell (Start g) = kept_inCell-start g
kept_inCell (End g) = kept_inCell-end g
kept_inCell (Char c) = refl
kept_inCell Comment = refl
kept_inCell Doctype = refl
kept_inCell Eof = refl

kept_inSelect-start : (g : Tag) → (sound plan 4 (Start g) (kept_view mode.InSelect) (plan mode.InTableText (Start g))) ≡ true
unfolding plan
kept_inSelect-start = of-all (λ g. sound plan 4 (Start g) (kept_view mode.InSelect) (plan mode.InTableText (Start g))) refl

kept_inSelect-end : (g : Tag) → (sound plan 4 (End g) (kept_view mode.InSelect) (plan mode.InTableText (End g))) ≡ true
unfolding plan
kept_inSelect-end = of-all (λ g. sound plan 4 (End g) (kept_view mode.InSelect) (plan mode.InTableText (End g))) refl

kept_inSelect : (y : Symbol) → (sound plan 4 y (kept_view mode.InSelect) (plan mode.InTableText y)) ≡ true
unfolding plan
kept_inSelect (Start g) = kept_inSelect-start g
kept_inSelect (End g) = kept_inSelect-end g
kept_inSelect (Char c) = refl
kept_inSelect Comment = refl
kept_inSelect Doctype = refl
kept_inSelect Eof = refl

kept_inSelectInTable-start : (g : Tag) → (sound plan 4 (Start g) (kept_view mode.InSelectInTable) (plan mode.InTableText (Start g))) ≡ true
unfolding plan
kept_inSelectInTable-start = of-all (λ g. sound plan 4 (Start g) (kept_view mode.InSelectInTable) (plan mode.InTableText (Start g))) refl

kept_inSelectInTable-end : (g : Tag) → (sound plan 4 (End g) (kept_view mode.InSelectInTable) (plan mode.InTableText (End g))) ≡ true
unfolding plan
kept_inSelectInTable-end = of-all (λ g. sound plan 4 (End g) (kept_view mode.InSelectInTable) (plan mode.InTableText (End g))) refl

kept_inSelectInTable : (y : Symbol) → (sound plan 4 y (kept_view mode.InSelectInTable) (plan mode.InTableText y)) ≡ true
unfolding plan
kept_inSelectInTable (Start g) = kept_inSelectInTable-start g
kept_inSelectInTable (End g) = kept_inSelectInTable-end g
kept_inSelectInTable (Char c) = refl
kept_inSelectInTable Comment = refl
kept_inSelectInTable Doctype = refl
kept_inSelectInTable Eof = refl

kept_inTemplate-start : (g : Tag) → (sound plan 4 (Start g) (kept_view mode.InTemplate) (plan mode.InTableText (Start g))) ≡ true
unfolding plan
kept_inTemplate-start = of-all (λ g. sound plan 4 (Start g) (kept_view mode.InTemplate) (plan mode.InTableText (Start g))) refl

kept_inTemplate-end : (g : Tag) → (sound plan 4 (End g) (kept_view mode.InTemplate) (plan mode.InTableText (End g))) ≡ true
unfolding plan
kept_inTemplate-end = of-all (λ g. sound plan 4 (End g) (kept_view mode.InTemplate) (plan mode.InTableText (End g))) refl

kept_inTemplate : (y : Symbol) → (sound plan 4 y (kept_view mode.InTemplate) (plan mode.InTableText y)) ≡ true
unfolding plan
kept_inTemplate (Start g) = kept_inTemplate-start g
kept_inTemplate (End g) = kept_inTemplate-end g
kept_inTemplate (Char c) = refl
kept_inTemplate Comment = refl
kept_inTemplate Doctype = refl
kept_inTemplate Eof = refl

kept_afterBody-start : (g : Tag) → (sound plan 4 (Start g) (kept_view mode.AfterBody) (plan mode.InTableText (Start g))) ≡ true
unfolding plan
kept_afterBody-start = of-all (λ g. sound plan 4 (Start g) (kept_view mode.AfterBody) (plan mode.InTableText (Start g))) refl

kept_afterBody-end : (g : Tag) → (sound plan 4 (End g) (kept_view mode.AfterBody) (plan mode.InTableText (End g))) ≡ true
unfolding plan
kept_afterBody-end = of-all (λ g. sound plan 4 (End g) (kept_view mode.AfterBody) (plan mode.InTableText (End g))) refl

kept_afterBody : (y : Symbol) → (sound plan 4 y (kept_view mode.AfterBody) (plan mode.InTableText y)) ≡ true
unfolding plan
kept_afterBody (Start g) = kept_afterBody-start g
kept_afterBody (End g) = kept_afterBody-end g
kept_afterBody (Char c) = refl
kept_afterBody Comment = refl
kept_afterBody Doctype = refl
kept_afterBody Eof = refl

kept_afterAfterBody-start : (g : Tag) → (sound plan 4 (Start g) (kept_view mode.AfterAfterBody) (plan mode.InTableText (Start g))) ≡ true
unfolding plan
kept_afterAfterBody-start = of-all (λ g. sound plan 4 (Start g) (kept_view mode.AfterAfterBody) (plan mode.InTableText (Start g))) refl

kept_afterAfterBody-end : (g : Tag) → (sound plan 4 (End g) (kept_view mode.AfterAfterBody) (plan mode.InTableText (End g))) ≡ true
unfolding plan
kept_afterAfterBody-end = of-all (λ g. sound plan 4 (End g) (kept_view mode.AfterAfterBody) (plan mode.InTableText (End g))) refl

kept_afterAfterBody : (y : Symbol) → (sound plan 4 y (kept_view mode.AfterAfterBody) (plan mode.InTableText y)) ≡ true
unfolding plan
kept_afterAfterBody (Start g) = kept_afterAfterBody-start g
kept_afterAfterBody (End g) = kept_afterAfterBody-end g
kept_afterAfterBody (Char c) = refl
kept_afterAfterBody Comment = refl
kept_afterAfterBody Doctype = refl
kept_afterAfterBody Eof = refl

pub kept-sound : (o : Mode) (y : Symbol) → is_inner o ≡ true → sound plan 4 y (kept_view o) (plan mode.InTableText y) ≡ true
kept-sound mode.InBody y h = kept_inBody y
kept-sound mode.InTable y h = kept_inTable y
kept-sound mode.InCaption y h = kept_inCaption y
kept-sound mode.InColumnGroup y h = kept_inColumnGroup y
kept-sound mode.InTableBody y h = kept_inTableBody y
kept-sound mode.InRow y h = kept_inRow y
kept-sound mode.InCell y h = kept_inCell y
kept-sound mode.InSelect y h = kept_inSelect y
kept-sound mode.InSelectInTable y h = kept_inSelectInTable y
kept-sound mode.InTemplate y h = kept_inTemplate y
kept-sound mode.AfterBody y h = kept_afterBody y
kept-sound mode.AfterAfterBody y h = kept_afterAfterBody y
kept-sound m y h = absurd (false≢true h)

-- BEFORE IT

outer_initial-start : (g : Tag) → (exact plan 4 (Start g) mode.Initial mode.InBody (shape mode.Initial) (plan mode.Initial (Start g))) ≡ true
unfolding plan
outer_initial-start = of-all (λ g. exact plan 4 (Start g) mode.Initial mode.InBody (shape mode.Initial) (plan mode.Initial (Start g))) refl

outer_initial-end : (g : Tag) → (exact plan 4 (End g) mode.Initial mode.InBody (shape mode.Initial) (plan mode.Initial (End g))) ≡ true
unfolding plan
outer_initial-end = of-all (λ g. exact plan 4 (End g) mode.Initial mode.InBody (shape mode.Initial) (plan mode.Initial (End g))) refl

outer_initial : (y : Symbol) → (exact plan 4 y mode.Initial mode.InBody (shape mode.Initial) (plan mode.Initial y)) ≡ true
unfolding plan
outer_initial (Start g) = outer_initial-start g
outer_initial (End g) = outer_initial-end g
outer_initial (Char c) = refl
outer_initial Comment = refl
outer_initial Doctype = refl
outer_initial Eof = refl

outer_beforeHtml-start : (g : Tag) → (exact plan 4 (Start g) mode.BeforeHtml mode.InBody (shape mode.BeforeHtml) (plan mode.BeforeHtml (Start g))) ≡ true
unfolding plan
outer_beforeHtml-start = of-all (λ g. exact plan 4 (Start g) mode.BeforeHtml mode.InBody (shape mode.BeforeHtml) (plan mode.BeforeHtml (Start g))) refl

outer_beforeHtml-end : (g : Tag) → (exact plan 4 (End g) mode.BeforeHtml mode.InBody (shape mode.BeforeHtml) (plan mode.BeforeHtml (End g))) ≡ true
unfolding plan
outer_beforeHtml-end = of-all (λ g. exact plan 4 (End g) mode.BeforeHtml mode.InBody (shape mode.BeforeHtml) (plan mode.BeforeHtml (End g))) refl

outer_beforeHtml : (y : Symbol) → (exact plan 4 y mode.BeforeHtml mode.InBody (shape mode.BeforeHtml) (plan mode.BeforeHtml y)) ≡ true
unfolding plan
outer_beforeHtml (Start g) = outer_beforeHtml-start g
outer_beforeHtml (End g) = outer_beforeHtml-end g
outer_beforeHtml (Char c) = refl
outer_beforeHtml Comment = refl
outer_beforeHtml Doctype = refl
outer_beforeHtml Eof = refl

outer_beforeHead-start : (g : Tag) → (exact plan 4 (Start g) mode.BeforeHead mode.InBody (shape mode.BeforeHead) (plan mode.BeforeHead (Start g))) ≡ true
unfolding plan
outer_beforeHead-start = of-all (λ g. exact plan 4 (Start g) mode.BeforeHead mode.InBody (shape mode.BeforeHead) (plan mode.BeforeHead (Start g))) refl

outer_beforeHead-end : (g : Tag) → (exact plan 4 (End g) mode.BeforeHead mode.InBody (shape mode.BeforeHead) (plan mode.BeforeHead (End g))) ≡ true
unfolding plan
outer_beforeHead-end = of-all (λ g. exact plan 4 (End g) mode.BeforeHead mode.InBody (shape mode.BeforeHead) (plan mode.BeforeHead (End g))) refl

outer_beforeHead : (y : Symbol) → (exact plan 4 y mode.BeforeHead mode.InBody (shape mode.BeforeHead) (plan mode.BeforeHead y)) ≡ true
unfolding plan
outer_beforeHead (Start g) = outer_beforeHead-start g
outer_beforeHead (End g) = outer_beforeHead-end g
outer_beforeHead (Char c) = refl
outer_beforeHead Comment = refl
outer_beforeHead Doctype = refl
outer_beforeHead Eof = refl

outer_inHead-start : (g : Tag) → (exact plan 4 (Start g) mode.InHead mode.InBody (shape mode.InHead) (plan mode.InHead (Start g))) ≡ true
unfolding plan
outer_inHead-start = of-all (λ g. exact plan 4 (Start g) mode.InHead mode.InBody (shape mode.InHead) (plan mode.InHead (Start g))) refl

outer_inHead-end : (g : Tag) → (exact plan 4 (End g) mode.InHead mode.InBody (shape mode.InHead) (plan mode.InHead (End g))) ≡ true
unfolding plan
outer_inHead-end = of-all (λ g. exact plan 4 (End g) mode.InHead mode.InBody (shape mode.InHead) (plan mode.InHead (End g))) refl

outer_inHead : (y : Symbol) → (exact plan 4 y mode.InHead mode.InBody (shape mode.InHead) (plan mode.InHead y)) ≡ true
unfolding plan
outer_inHead (Start g) = outer_inHead-start g
outer_inHead (End g) = outer_inHead-end g
outer_inHead (Char c) = simp by_points refl
outer_inHead Comment = refl
outer_inHead Doctype = refl
outer_inHead Eof = refl

outer_inHeadNoscript-start : (g : Tag) → (exact plan 4 (Start g) mode.InHeadNoscript mode.InBody (shape mode.InHeadNoscript) (plan mode.InHeadNoscript (Start g))) ≡ true
unfolding plan
outer_inHeadNoscript-start = of-all (λ g. exact plan 4 (Start g) mode.InHeadNoscript mode.InBody (shape mode.InHeadNoscript) (plan mode.InHeadNoscript (Start g))) refl

outer_inHeadNoscript-end : (g : Tag) → (exact plan 4 (End g) mode.InHeadNoscript mode.InBody (shape mode.InHeadNoscript) (plan mode.InHeadNoscript (End g))) ≡ true
unfolding plan
outer_inHeadNoscript-end = of-all (λ g. exact plan 4 (End g) mode.InHeadNoscript mode.InBody (shape mode.InHeadNoscript) (plan mode.InHeadNoscript (End g))) refl

outer_inHeadNoscript : (y : Symbol) → (exact plan 4 y mode.InHeadNoscript mode.InBody (shape mode.InHeadNoscript) (plan mode.InHeadNoscript y)) ≡ true
unfolding plan
outer_inHeadNoscript (Start g) = outer_inHeadNoscript-start g
outer_inHeadNoscript (End g) = outer_inHeadNoscript-end g
outer_inHeadNoscript (Char c) = simp by_points refl
outer_inHeadNoscript Comment = refl
outer_inHeadNoscript Doctype = refl
outer_inHeadNoscript Eof = refl

outer_afterHead-start : (g : Tag) → (exact plan 4 (Start g) mode.AfterHead mode.InBody (shape mode.AfterHead) (plan mode.AfterHead (Start g))) ≡ true
unfolding plan
outer_afterHead-start = of-all (λ g. exact plan 4 (Start g) mode.AfterHead mode.InBody (shape mode.AfterHead) (plan mode.AfterHead (Start g))) refl

outer_afterHead-end : (g : Tag) → (exact plan 4 (End g) mode.AfterHead mode.InBody (shape mode.AfterHead) (plan mode.AfterHead (End g))) ≡ true
unfolding plan
outer_afterHead-end = of-all (λ g. exact plan 4 (End g) mode.AfterHead mode.InBody (shape mode.AfterHead) (plan mode.AfterHead (End g))) refl

outer_afterHead : (y : Symbol) → (exact plan 4 y mode.AfterHead mode.InBody (shape mode.AfterHead) (plan mode.AfterHead y)) ≡ true
unfolding plan
outer_afterHead (Start g) = outer_afterHead-start g
outer_afterHead (End g) = outer_afterHead-end g
outer_afterHead (Char c) = simp by_points refl
outer_afterHead Comment = refl
outer_afterHead Doctype = refl
outer_afterHead Eof = refl

pub outer-exact : (m : Mode) (y : Symbol) → is_outer m ≡ true → exact plan 4 y m mode.InBody (shape m) (plan m y) ≡ true
outer-exact mode.Initial y h = outer_initial y
outer-exact mode.BeforeHtml y h = outer_beforeHtml y
outer-exact mode.BeforeHead y h = outer_beforeHead y
outer-exact mode.InHead y h = outer_inHead y
outer-exact mode.InHeadNoscript y h = outer_inHeadNoscript y
outer-exact mode.AfterHead y h = outer_afterHead y
outer-exact m y h = absurd (false≢true h)

outer_text_inHead : (x : Tag) (y : Symbol) → exact plan 4 y mode.Text mode.InHead (x ∷ shape mode.InHead) (plan mode.Text y) ≡ true
unfolding plan
outer_text_inHead x (Char c) = simp by_points refl
outer_text_inHead x (Start g) = refl
outer_text_inHead x (End g) = refl
outer_text_inHead x Comment = refl
outer_text_inHead x Doctype = refl
outer_text_inHead x Eof = refl

outer_text_inHeadNoscript : (x : Tag) (y : Symbol) → exact plan 4 y mode.Text mode.InHeadNoscript (x ∷ shape mode.InHeadNoscript) (plan mode.Text y) ≡ true
unfolding plan
outer_text_inHeadNoscript x (Char c) = simp by_points refl
outer_text_inHeadNoscript x (Start g) = refl
outer_text_inHeadNoscript x (End g) = refl
outer_text_inHeadNoscript x Comment = refl
outer_text_inHeadNoscript x Doctype = refl
outer_text_inHeadNoscript x Eof = refl

outer_text_afterHead : (x : Tag) (y : Symbol) → exact plan 4 y mode.Text mode.AfterHead (x ∷ shape mode.AfterHead) (plan mode.Text y) ≡ true
unfolding plan
outer_text_afterHead x (Char c) = simp by_points refl
outer_text_afterHead x (Start g) = refl
outer_text_afterHead x (End g) = refl
outer_text_afterHead x Comment = refl
outer_text_afterHead x Doctype = refl
outer_text_afterHead x Eof = refl

pub outer-text-exact : (o : Mode) (x : Tag) (y : Symbol) → holds_text o ≡ true → exact plan 4 y mode.Text o (x ∷ shape o) (plan mode.Text y) ≡ true
outer-text-exact mode.InHead x y h = outer_text_inHead x y
outer-text-exact mode.InHeadNoscript x y h = outer_text_inHeadNoscript x y
outer-text-exact mode.AfterHead x y h = outer_text_afterHead x y
outer-text-exact m x y h = absurd (false≢true h)

-- WHERE A FRAMESET WAS MADE

frame_inFrameset-start : (g : Tag) → (framed plan 4 (Start g) mode.InFrameset mode.InBody (plan mode.InFrameset (Start g))) ≡ true
unfolding plan
frame_inFrameset-start = of-all (λ g. framed plan 4 (Start g) mode.InFrameset mode.InBody (plan mode.InFrameset (Start g))) refl

frame_inFrameset-end : (g : Tag) → (framed plan 4 (End g) mode.InFrameset mode.InBody (plan mode.InFrameset (End g))) ≡ true
unfolding plan
frame_inFrameset-end = of-all (λ g. framed plan 4 (End g) mode.InFrameset mode.InBody (plan mode.InFrameset (End g))) refl

frame_inFrameset : (y : Symbol) → (framed plan 4 y mode.InFrameset mode.InBody (plan mode.InFrameset y)) ≡ true
unfolding plan
frame_inFrameset (Start g) = frame_inFrameset-start g
frame_inFrameset (End g) = frame_inFrameset-end g
frame_inFrameset (Char c) = simp by_points refl
frame_inFrameset Comment = refl
frame_inFrameset Doctype = refl
frame_inFrameset Eof = refl

frame_afterFrameset-start : (g : Tag) → (framed plan 4 (Start g) mode.AfterFrameset mode.InBody (plan mode.AfterFrameset (Start g))) ≡ true
unfolding plan
frame_afterFrameset-start = of-all (λ g. framed plan 4 (Start g) mode.AfterFrameset mode.InBody (plan mode.AfterFrameset (Start g))) refl

frame_afterFrameset-end : (g : Tag) → (framed plan 4 (End g) mode.AfterFrameset mode.InBody (plan mode.AfterFrameset (End g))) ≡ true
unfolding plan
frame_afterFrameset-end = of-all (λ g. framed plan 4 (End g) mode.AfterFrameset mode.InBody (plan mode.AfterFrameset (End g))) refl

frame_afterFrameset : (y : Symbol) → (framed plan 4 y mode.AfterFrameset mode.InBody (plan mode.AfterFrameset y)) ≡ true
unfolding plan
frame_afterFrameset (Start g) = frame_afterFrameset-start g
frame_afterFrameset (End g) = frame_afterFrameset-end g
frame_afterFrameset (Char c) = simp by_points refl
frame_afterFrameset Comment = refl
frame_afterFrameset Doctype = refl
frame_afterFrameset Eof = refl

frame_afterAfterFrameset-start : (g : Tag) → (framed plan 4 (Start g) mode.AfterAfterFrameset mode.InBody (plan mode.AfterAfterFrameset (Start g))) ≡ true
unfolding plan
frame_afterAfterFrameset-start = of-all (λ g. framed plan 4 (Start g) mode.AfterAfterFrameset mode.InBody (plan mode.AfterAfterFrameset (Start g))) refl

frame_afterAfterFrameset-end : (g : Tag) → (framed plan 4 (End g) mode.AfterAfterFrameset mode.InBody (plan mode.AfterAfterFrameset (End g))) ≡ true
unfolding plan
frame_afterAfterFrameset-end = of-all (λ g. framed plan 4 (End g) mode.AfterAfterFrameset mode.InBody (plan mode.AfterAfterFrameset (End g))) refl

frame_afterAfterFrameset : (y : Symbol) → (framed plan 4 y mode.AfterAfterFrameset mode.InBody (plan mode.AfterAfterFrameset y)) ≡ true
unfolding plan
frame_afterAfterFrameset (Start g) = frame_afterAfterFrameset-start g
frame_afterAfterFrameset (End g) = frame_afterAfterFrameset-end g
frame_afterAfterFrameset (Char c) = simp by_points refl
frame_afterAfterFrameset Comment = refl
frame_afterAfterFrameset Doctype = refl
frame_afterAfterFrameset Eof = refl

pub frame-framed : (m : Mode) (y : Symbol) → is_of_frames m ≡ true → framed plan 4 y m mode.InBody (plan m y) ≡ true
frame-framed mode.InFrameset y h = frame_inFrameset y
frame-framed mode.AfterFrameset y h = frame_afterFrameset y
frame-framed mode.AfterAfterFrameset y h = frame_afterAfterFrameset y
frame-framed m y h = absurd (false≢true h)

frame_text_inFrameset : (y : Symbol) → is_start y ≡ false → framed plan 4 y mode.Text mode.InFrameset (plan mode.Text y) ≡ true
unfolding plan
frame_text_inFrameset (Char c) h = simp by_points refl
frame_text_inFrameset (Start g) h = absurd (false≢true (sym h))
frame_text_inFrameset (End g) h = refl
frame_text_inFrameset Comment h = refl
frame_text_inFrameset Doctype h = refl
frame_text_inFrameset Eof h = refl

frame_text_afterFrameset : (y : Symbol) → is_start y ≡ false → framed plan 4 y mode.Text mode.AfterFrameset (plan mode.Text y) ≡ true
unfolding plan
frame_text_afterFrameset (Char c) h = simp by_points refl
frame_text_afterFrameset (Start g) h = absurd (false≢true (sym h))
frame_text_afterFrameset (End g) h = refl
frame_text_afterFrameset Comment h = refl
frame_text_afterFrameset Doctype h = refl
frame_text_afterFrameset Eof h = refl

frame_text_afterAfterFrameset : (y : Symbol) → is_start y ≡ false → framed plan 4 y mode.Text mode.AfterAfterFrameset (plan mode.Text y) ≡ true
unfolding plan
frame_text_afterAfterFrameset (Char c) h = simp by_points refl
frame_text_afterAfterFrameset (Start g) h = absurd (false≢true (sym h))
frame_text_afterAfterFrameset (End g) h = refl
frame_text_afterAfterFrameset Comment h = refl
frame_text_afterAfterFrameset Doctype h = refl
frame_text_afterAfterFrameset Eof h = refl

pub frame-text-framed : (o : Mode) (y : Symbol) → is_of_frames o ≡ true → is_start y ≡ false → framed plan 4 y mode.Text o (plan mode.Text y) ≡ true
frame-text-framed mode.InFrameset y h k = frame_text_inFrameset y k
frame-text-framed mode.AfterFrameset y h k = frame_text_afterFrameset y k
frame-text-framed mode.AfterAfterFrameset y h k = frame_text_afterAfterFrameset y k
frame-text-framed m y h k = absurd (false≢true h)

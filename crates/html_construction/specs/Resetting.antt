-- Claimed.
-- The insertion mode that the open elements call for: "reset the insertion mode appropriately" (13.2.4.1).
use Rattle.std.specs.Prelude.{ℕ, Bool, true, false, cond, List, [], ◌∷◌, Option, Some, None, unwrap_or}
use Rattle.html_names.specs.declared.tag.Tag.{Tag}
use Rattle.html_names.specs.declared.tag.Tag.TheVariants as tag
use Rattle.html_names.specs.Tags.{is_same}
use Rattle.html_construction.specs.declared.mode.Mode.{Mode}
use Rattle.html_construction.specs.declared.mode.Mode.TheVariants.{BeforeHead, InHead, AfterHead, InBody, InTable, InCaption, InColumnGroup, InTableBody, InRow, InCell, InSelect, InSelectInTable, InTemplate, InFrameset}

-- by the name of an element alone: tr; tbody, thead and tfoot; caption; colgroup; table; body; frameset
abbrev pub mode_of : Tag → Option Mode
mode_of tag.Tr = Some InRow
mode_of tag.Tbody = Some InTableBody
mode_of tag.Thead = Some InTableBody
mode_of tag.Tfoot = Some InTableBody
mode_of tag.Caption = Some InCaption
mode_of tag.Colgroup = Some InColumnGroup
mode_of tag.Table = Some InTable
mode_of tag.Body = Some InBody
mode_of tag.Frameset = Some InFrameset
mode_of _ = None

-- html: before head where the head element pointer is null, else after head
abbrev pub root_mode : Option ℕ → Mode
root_mode None = BeforeHead
root_mode (Some head) = AfterHead

-- template: the current template insertion mode, which is the last
abbrev pub template_mode : List Mode → Mode
template_mode [] = InTemplate
template_mode (m ∷ []) = m
template_mode (m ∷ n ∷ ms) = template_mode (n ∷ ms)

-- select: in select in table where a table is among the elements below it, before a template, the nearest first; else in select
abbrev pub select_mode : List Tag → Mode
select_mode [] = InSelect
select_mode (g ∷ below) = cond (is_same g tag.Template) InSelect (cond (is_same g tag.Table) InSelectInTable (select_mode below))

-- an element that is not the first, with the tags of those below it
abbrev pub element_mode : Option ℕ → List Mode → Tag → List Tag → Option Mode
element_mode head templates tag.Select below = Some (select_mode below)
element_mode head templates tag.Td below = Some InCell
element_mode head templates tag.Th below = Some InCell
element_mode head templates tag.Head below = Some InHead
element_mode head templates tag.Template below = Some (template_mode templates)
element_mode head templates tag.Html below = Some (root_mode head)
element_mode head templates g below = mode_of g

-- the first element, which counts as the context of a fragment: in body, where no other mode is called for
abbrev pub outermost_mode : Option ℕ → List Mode → Tag → Mode
outermost_mode head templates tag.Select = InSelect
outermost_mode head templates tag.Template = template_mode templates
outermost_mode head templates tag.Html = root_mode head
outermost_mode head templates g = unwrap_or (mode_of g) InBody

abbrev pub or_mode : Option Mode → Mode → Mode
or_mode None m = m
or_mode (Some n) m = n

abbrev pub is_none_left : List Tag → Bool
is_none_left [] = true
is_none_left (g ∷ below) = false

-- the mode that these open elements call for, the current node first
abbrev pub reset_mode : Option Tag → Option ℕ → List Mode → List Tag → Mode
reset_mode context head templates [] = outermost_mode head templates (unwrap_or context tag.Html)
reset_mode context head templates (g ∷ below) =
    cond (is_none_left below) (outermost_mode head templates (unwrap_or context tag.Html)) (or_mode (element_mode head templates g below) (reset_mode context head templates below))

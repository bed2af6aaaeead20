-- Claimed.
-- What rules look for among the open elements.
use Rattle.std.specs.Prelude.{Bool, false}
use Rattle.html_names.specs.declared.tag.Tag.{Tag}
use Rattle.html_names.specs.Groups.{is_definition, is_item_stop}
use Rattle.html_names.specs.Sets.{ends_scope, is_cell, is_heading, is_row_context, is_section, is_section_context, is_table_context}
use Rattle.html_names.specs.Tags.{is_same}
use Rattle.html_tree.specs.declared.groups.Group.{Group}
use Rattle.html_tree.specs.declared.groups.Group.TheVariants as group
use Rattle.html_tree.specs.declared.groups.Stop.{Stop}
use Rattle.html_tree.specs.declared.groups.Stop.TheVariants as stop
use Rattle.html_tree.specs.declared.groups.TableContext.{TableContext}
use Rattle.html_tree.specs.declared.groups.TableContext.TheVariants as context

-- elements of this tag belong to the group
abbrev pub in_group : Group → Tag → Bool
in_group (group.Named g) h = is_same h g
in_group group.Heading h = is_heading h
in_group group.Section h = is_section h
in_group group.Cell h = is_cell h
in_group group.Definition h = is_definition h

-- an element of this tag ends the search
abbrev pub is_stop : Stop → Tag → Bool
is_stop stop.Never h = false
is_stop (stop.EndOf s) h = ends_scope s h
is_stop stop.PastItem h = is_item_stop h

-- the stack is cleared back to an element of this tag (13.2.6.4.9, 13.2.6.4.13, 13.2.6.4.14)
abbrev pub is_context : TableContext → Tag → Bool
is_context context.Table h = is_table_context h
is_context context.Body h = is_section_context h
is_context context.Row h = is_row_context h

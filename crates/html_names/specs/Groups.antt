-- Claimed.
-- The sets of elements that single rules of tree construction take together (13.2.6.4 of the HTML standard).
use Rattle.std.specs.Prelude.{Bool, true, false, not, ◌&&◌, ◌||◌}
use Rattle.html_names.specs.declared.tag.Tag.{Tag}
use Rattle.html_names.specs.declared.tag.Tag.TheVariants as tag
use Rattle.html_names.specs.Sets.{is_special}

-- Before html, before head, in head and after head (13.2.6.4.2 to 13.2.6.4.6): the end tags that are not ignored.
abbrev pub is_page_part : Tag → Bool
is_page_part tag.Body = true
is_page_part tag.Br = true
is_page_part tag.Head = true
is_page_part tag.Html = true
is_page_part _ = false

-- In body: the start tags that are merged (13.2.6.4.7).
abbrev pub is_outermost : Tag → Bool
is_outermost tag.Body = true
is_outermost tag.Html = true
is_outermost _ = false

-- In head (13.2.6.4.4, scripting disabled).
abbrev pub is_head_text : Tag → Bool
is_head_text tag.Noframes = true
is_head_text tag.Script = true
is_head_text tag.Style = true
is_head_text tag.Title = true
is_head_text _ = false

-- In head noscript (13.2.6.4.5).
abbrev pub is_noscript_part : Tag → Bool
is_noscript_part tag.Basefont = true
is_noscript_part tag.Bgsound = true
is_noscript_part tag.Link = true
is_noscript_part tag.Meta = true
is_noscript_part tag.Noframes = true
is_noscript_part tag.Style = true
is_noscript_part _ = false

-- In body: the start tags that are ignored, and frameset (13.2.6.4.7).
abbrev pub is_placed : Tag → Bool
is_placed tag.Caption = true
is_placed tag.Col = true
is_placed tag.Colgroup = true
is_placed tag.Frame = true
is_placed tag.Frameset = true
is_placed tag.Head = true
is_placed tag.Tbody = true
is_placed tag.Td = true
is_placed tag.Tfoot = true
is_placed tag.Th = true
is_placed tag.Thead = true
is_placed tag.Tr = true
is_placed _ = false

-- In body: pre, listing and textarea (13.2.6.4.7).
abbrev pub takes_newline : Tag → Bool
takes_newline tag.Listing = true
takes_newline tag.Pre = true
takes_newline tag.Textarea = true
takes_newline _ = false

-- In body: pre and listing (13.2.6.4.7).
abbrev pub is_preformatted : Tag → Bool
is_preformatted tag.Listing = true
is_preformatted tag.Pre = true
is_preformatted _ = false

-- In body: applet, marquee and object (13.2.6.4.7).
abbrev pub takes_marker : Tag → Bool
takes_marker tag.Applet = true
takes_marker tag.Marquee = true
takes_marker tag.Object = true
takes_marker _ = false

-- In body: area, br, embed, img, keygen and wbr (13.2.6.4.7).
abbrev pub is_void_phrase : Tag → Bool
is_void_phrase tag.Area = true
is_void_phrase tag.Br = true
is_void_phrase tag.Embed = true
is_void_phrase tag.Img = true
is_void_phrase tag.Keygen = true
is_void_phrase tag.Wbr = true
is_void_phrase _ = false

-- In body: param, source and track (13.2.6.4.7).
abbrev pub is_void_part : Tag → Bool
is_void_part tag.Param = true
is_void_part tag.Source = true
is_void_part tag.Track = true
is_void_part _ = false

-- In body: dd and dt (13.2.6.4.7).
abbrev pub is_definition : Tag → Bool
is_definition tag.Dd = true
is_definition tag.Dt = true
is_definition _ = false

-- In caption and in cell (13.2.6.4.11 and 13.2.6.4.15).
abbrev pub is_table_piece : Tag → Bool
is_table_piece tag.Caption = true
is_table_piece tag.Col = true
is_table_piece tag.Colgroup = true
is_table_piece tag.Tbody = true
is_table_piece tag.Td = true
is_table_piece tag.Tfoot = true
is_table_piece tag.Th = true
is_table_piece tag.Thead = true
is_table_piece tag.Tr = true
is_table_piece _ = false

-- In template: the start tags that go on in a table (13.2.6.4.18).
abbrev pub is_table_part : Tag → Bool
is_table_part tag.Caption = true
is_table_part tag.Colgroup = true
is_table_part tag.Tbody = true
is_table_part tag.Tfoot = true
is_table_part tag.Thead = true
is_table_part _ = false

-- In table (13.2.6.4.9).
abbrev pub is_table_head : Tag → Bool
is_table_head tag.Script = true
is_table_head tag.Style = true
is_table_head tag.Template = true
is_table_head _ = false

-- In table body (13.2.6.4.13).
abbrev pub ends_section : Tag → Bool
ends_section tag.Caption = true
ends_section tag.Col = true
ends_section tag.Colgroup = true
ends_section tag.Tbody = true
ends_section tag.Tfoot = true
ends_section tag.Thead = true
ends_section _ = false

-- In row (13.2.6.4.14).
abbrev pub ends_row : Tag → Bool
ends_row tag.Caption = true
ends_row tag.Col = true
ends_row tag.Colgroup = true
ends_row tag.Tbody = true
ends_row tag.Tfoot = true
ends_row tag.Thead = true
ends_row tag.Tr = true
ends_row _ = false

-- In cell: the end tags that close a cell (13.2.6.4.15).
abbrev pub ends_cell : Tag → Bool
ends_cell tag.Table = true
ends_cell tag.Tbody = true
ends_cell tag.Tfoot = true
ends_cell tag.Thead = true
ends_cell tag.Tr = true
ends_cell _ = false

-- In select (13.2.6.4.16).
abbrev pub ends_select : Tag → Bool
ends_select tag.Input = true
ends_select tag.Keygen = true
ends_select tag.Textarea = true
ends_select _ = false

-- In select in table (13.2.6.4.17).
abbrev pub ends_select_in_table : Tag → Bool
ends_select_in_table tag.Caption = true
ends_select_in_table tag.Table = true
ends_select_in_table tag.Tbody = true
ends_select_in_table tag.Td = true
ends_select_in_table tag.Tfoot = true
ends_select_in_table tag.Th = true
ends_select_in_table tag.Thead = true
ends_select_in_table tag.Tr = true
ends_select_in_table _ = false

-- In column group (13.2.6.4.12).
abbrev pub is_in_column_group : Tag → Bool
is_in_column_group tag.Col = true
is_in_column_group tag.Html = true
is_in_column_group tag.Template = true
is_in_column_group _ = false

-- address, div and p do not stop the search for a list item (13.2.6.4.7, in body).
abbrev pub is_passed_by_item : Tag → Bool
is_passed_by_item tag.Address = true
is_passed_by_item tag.Div = true
is_passed_by_item tag.P = true
is_passed_by_item _ = false

-- Where the search for an open list item stops (13.2.6.4.7, in body).
abbrev pub is_item_stop : Tag → Bool
is_item_stop t = is_special t && not (is_passed_by_item t)

-- The end tags that the table modes ignore (13.2.6.4.9 to 13.2.6.4.15).
abbrev pub is_ignored_in_table : Tag → Bool
is_ignored_in_table t = is_outermost t || is_table_piece t

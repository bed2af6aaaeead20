-- Claimed.
-- The sets of elements that tree construction and serialising tell apart (13.2.4, 13.2.6 and 13.3 of the HTML standard).
use Rattle.std.specs.Prelude.{Bool, true, false, not, ◌||◌}
use Rattle.html_names.specs.declared.tag.Tag.{Tag}
use Rattle.html_names.specs.declared.tag.Tag.TheVariants as tag
use Rattle.html_names.specs.declared.sets.Scope.{Scope}
use Rattle.html_names.specs.declared.sets.Scope.TheVariants as scope

-- Formatting elements (13.2.4.2, the stack of open elements: the categories of elements).
abbrev pub is_formatting : Tag → Bool
is_formatting tag.A = true
is_formatting tag.B = true
is_formatting tag.Big = true
is_formatting tag.Code = true
is_formatting tag.Em = true
is_formatting tag.Font = true
is_formatting tag.I = true
is_formatting tag.Nobr = true
is_formatting tag.S = true
is_formatting tag.Small = true
is_formatting tag.Strike = true
is_formatting tag.Strong = true
is_formatting tag.Tt = true
is_formatting tag.U = true
is_formatting _ = false

-- Special elements (13.2.4.2).
abbrev pub is_special : Tag → Bool
is_special tag.Address = true
is_special tag.Applet = true
is_special tag.Area = true
is_special tag.Article = true
is_special tag.Aside = true
is_special tag.Base = true
is_special tag.Basefont = true
is_special tag.Bgsound = true
is_special tag.Blockquote = true
is_special tag.Body = true
is_special tag.Br = true
is_special tag.Button = true
is_special tag.Caption = true
is_special tag.Center = true
is_special tag.Col = true
is_special tag.Colgroup = true
is_special tag.Dd = true
is_special tag.Details = true
is_special tag.Dir = true
is_special tag.Div = true
is_special tag.Dl = true
is_special tag.Dt = true
is_special tag.Embed = true
is_special tag.Fieldset = true
is_special tag.Figcaption = true
is_special tag.Figure = true
is_special tag.Footer = true
is_special tag.Form = true
is_special tag.Frame = true
is_special tag.Frameset = true
is_special tag.H1 = true
is_special tag.H2 = true
is_special tag.H3 = true
is_special tag.H4 = true
is_special tag.H5 = true
is_special tag.H6 = true
is_special tag.Head = true
is_special tag.Header = true
is_special tag.Hgroup = true
is_special tag.Hr = true
is_special tag.Html = true
is_special tag.Iframe = true
is_special tag.Img = true
is_special tag.Input = true
is_special tag.Keygen = true
is_special tag.Li = true
is_special tag.Link = true
is_special tag.Listing = true
is_special tag.Main = true
is_special tag.Marquee = true
is_special tag.Menu = true
is_special tag.Meta = true
is_special tag.Nav = true
is_special tag.Noembed = true
is_special tag.Noframes = true
is_special tag.Noscript = true
is_special tag.Object = true
is_special tag.Ol = true
is_special tag.P = true
is_special tag.Param = true
is_special tag.Plaintext = true
is_special tag.Pre = true
is_special tag.Script = true
is_special tag.Search = true
is_special tag.Section = true
is_special tag.Select = true
is_special tag.Source = true
is_special tag.Style = true
is_special tag.Summary = true
is_special tag.Table = true
is_special tag.Tbody = true
is_special tag.Td = true
is_special tag.Template = true
is_special tag.Textarea = true
is_special tag.Tfoot = true
is_special tag.Th = true
is_special tag.Thead = true
is_special tag.Title = true
is_special tag.Tr = true
is_special tag.Track = true
is_special tag.Ul = true
is_special tag.Wbr = true
is_special tag.Xmp = true
is_special tag.SvgDesc = true
is_special tag.SvgForeignObject = true
is_special tag.SvgTitle = true
is_special tag.MathAnnotationXml = true
is_special tag.MathMi = true
is_special tag.MathMn = true
is_special tag.MathMo = true
is_special tag.MathMs = true
is_special tag.MathMtext = true
is_special _ = false

-- Elements whose end tags are implied (13.2.6.3).
abbrev pub is_implied : Tag → Bool
is_implied tag.Dd = true
is_implied tag.Dt = true
is_implied tag.Li = true
is_implied tag.Optgroup = true
is_implied tag.Option = true
is_implied tag.P = true
is_implied tag.Rb = true
is_implied tag.Rp = true
is_implied tag.Rt = true
is_implied tag.Rtc = true
is_implied _ = false

-- Elements whose end tags are implied thoroughly (13.2.6.3).
abbrev pub is_implied_thoroughly : Tag → Bool
is_implied_thoroughly tag.Caption = true
is_implied_thoroughly tag.Colgroup = true
is_implied_thoroughly tag.Dd = true
is_implied_thoroughly tag.Dt = true
is_implied_thoroughly tag.Li = true
is_implied_thoroughly tag.Optgroup = true
is_implied_thoroughly tag.Option = true
is_implied_thoroughly tag.P = true
is_implied_thoroughly tag.Rb = true
is_implied_thoroughly tag.Rp = true
is_implied_thoroughly tag.Rt = true
is_implied_thoroughly tag.Rtc = true
is_implied_thoroughly tag.Tbody = true
is_implied_thoroughly tag.Td = true
is_implied_thoroughly tag.Tfoot = true
is_implied_thoroughly tag.Th = true
is_implied_thoroughly tag.Thead = true
is_implied_thoroughly tag.Tr = true
is_implied_thoroughly _ = false

-- Blocks (13.2.6.4.7, in body: the start tags from address to ul that close a p).
abbrev pub is_block : Tag → Bool
is_block tag.Address = true
is_block tag.Article = true
is_block tag.Aside = true
is_block tag.Blockquote = true
is_block tag.Center = true
is_block tag.Details = true
is_block tag.Dialog = true
is_block tag.Dir = true
is_block tag.Div = true
is_block tag.Dl = true
is_block tag.Fieldset = true
is_block tag.Figcaption = true
is_block tag.Figure = true
is_block tag.Footer = true
is_block tag.Header = true
is_block tag.Hgroup = true
is_block tag.Main = true
is_block tag.Menu = true
is_block tag.Nav = true
is_block tag.Ol = true
is_block tag.Search = true
is_block tag.Section = true
is_block tag.Summary = true
is_block tag.Ul = true
is_block _ = false

-- What is handed to the rules of the head (13.2.6.4.7, in body).
abbrev pub is_headish : Tag → Bool
is_headish tag.Base = true
is_headish tag.Basefont = true
is_headish tag.Bgsound = true
is_headish tag.Link = true
is_headish tag.Meta = true
is_headish tag.Noframes = true
is_headish tag.Script = true
is_headish tag.Style = true
is_headish tag.Template = true
is_headish tag.Title = true
is_headish _ = false

-- Headings (13.2.6.4.7, in body).
abbrev pub is_heading : Tag → Bool
is_heading tag.H1 = true
is_heading tag.H2 = true
is_heading tag.H3 = true
is_heading tag.H4 = true
is_heading tag.H5 = true
is_heading tag.H6 = true
is_heading _ = false

-- Elements that serialise as void (13.3, serialising HTML fragments).
abbrev pub is_void : Tag → Bool
is_void tag.Area = true
is_void tag.Base = true
is_void tag.Basefont = true
is_void tag.Bgsound = true
is_void tag.Br = true
is_void tag.Col = true
is_void tag.Embed = true
is_void tag.Frame = true
is_void tag.Hr = true
is_void tag.Img = true
is_void tag.Input = true
is_void tag.Keygen = true
is_void tag.Link = true
is_void tag.Meta = true
is_void tag.Param = true
is_void tag.Source = true
is_void tag.Track = true
is_void tag.Wbr = true
is_void _ = false

-- Elements whose texts are written without escapes (13.3, scripting disabled).
abbrev pub holds_literal_text : Tag → Bool
holds_literal_text tag.Iframe = true
holds_literal_text tag.Noembed = true
holds_literal_text tag.Noframes = true
holds_literal_text tag.Plaintext = true
holds_literal_text tag.Script = true
holds_literal_text tag.Style = true
holds_literal_text tag.Xmp = true
holds_literal_text _ = false

-- Elements whose start tag switches the tokenizer to RCDATA (13.2.6.2 and 13.2.6.4).
abbrev pub is_rcdata : Tag → Bool
is_rcdata tag.Textarea = true
is_rcdata tag.Title = true
is_rcdata _ = false

-- Elements whose start tag switches the tokenizer to RAWTEXT (13.2.6.2 and 13.2.6.4, scripting disabled).
abbrev pub is_rawtext : Tag → Bool
is_rawtext tag.Iframe = true
is_rawtext tag.Noembed = true
is_rawtext tag.Noframes = true
is_rawtext tag.Style = true
is_rawtext tag.Xmp = true
is_rawtext _ = false

-- Targets of foster parenting (13.2.6.1).
abbrev pub is_fostering : Tag → Bool
is_fostering tag.Table = true
is_fostering tag.Tbody = true
is_fostering tag.Tfoot = true
is_fostering tag.Thead = true
is_fostering tag.Tr = true
is_fostering _ = false

-- Cells (13.2.6.4.15, in cell).
abbrev pub is_cell : Tag → Bool
is_cell tag.Td = true
is_cell tag.Th = true
is_cell _ = false

-- Sections of a table (13.2.6.4.13, in table body).
abbrev pub is_section : Tag → Bool
is_section tag.Tbody = true
is_section tag.Tfoot = true
is_section tag.Thead = true
is_section _ = false

-- Table context (13.2.6.4.9, in table).
abbrev pub is_table_context : Tag → Bool
is_table_context tag.Html = true
is_table_context tag.Table = true
is_table_context tag.Template = true
is_table_context _ = false

-- Table body context (13.2.6.4.13, in table body).
abbrev pub is_section_context : Tag → Bool
is_section_context tag.Html = true
is_section_context tag.Tbody = true
is_section_context tag.Template = true
is_section_context tag.Tfoot = true
is_section_context tag.Thead = true
is_section_context _ = false

-- Table row context (13.2.6.4.14, in row).
abbrev pub is_row_context : Tag → Bool
is_row_context tag.Html = true
is_row_context tag.Template = true
is_row_context tag.Tr = true
is_row_context _ = false

-- The template element (4.12.3).
abbrev pub is_template : Tag → Bool
is_template tag.Template = true
is_template _ = false

-- Ends of the default scope (13.2.4.2, has an element in scope).
abbrev pub ends_default_scope : Tag → Bool
ends_default_scope tag.Applet = true
ends_default_scope tag.Caption = true
ends_default_scope tag.Html = true
ends_default_scope tag.Marquee = true
ends_default_scope tag.Object = true
ends_default_scope tag.Table = true
ends_default_scope tag.Td = true
ends_default_scope tag.Template = true
ends_default_scope tag.Th = true
ends_default_scope tag.SvgDesc = true
ends_default_scope tag.SvgForeignObject = true
ends_default_scope tag.SvgTitle = true
ends_default_scope tag.MathAnnotationXml = true
ends_default_scope tag.MathMi = true
ends_default_scope tag.MathMn = true
ends_default_scope tag.MathMo = true
ends_default_scope tag.MathMs = true
ends_default_scope tag.MathMtext = true
ends_default_scope _ = false

-- Ends of the list item scope, beside those of the default scope (13.2.4.2).
abbrev pub is_list : Tag → Bool
is_list tag.Ol = true
is_list tag.Ul = true
is_list _ = false

-- Ends of the table scope (13.2.4.2).
abbrev pub ends_table_scope : Tag → Bool
ends_table_scope tag.Html = true
ends_table_scope tag.Table = true
ends_table_scope tag.Template = true
ends_table_scope _ = false

-- What does not end the select scope (13.2.4.2).
abbrev pub is_option : Tag → Bool
is_option tag.Optgroup = true
is_option tag.Option = true
is_option _ = false

-- A button, which ends the button scope.
abbrev pub is_button : Tag → Bool
is_button tag.Button = true
is_button _ = false

-- Which elements end a search through the stack of open elements for one in this scope (13.2.4.2).
abbrev pub ends_scope : Scope → Tag → Bool
ends_scope scope.Default t = ends_default_scope t
ends_scope scope.ListItem t = ends_default_scope t || is_list t
ends_scope scope.Button t = ends_default_scope t || is_button t
ends_scope scope.Table t = ends_table_scope t
ends_scope scope.Select t = not (is_option t)

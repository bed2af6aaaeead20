-- Claimed.
-- The "in body" insertion mode (13.2.6.4.7): start tags.
use Rattle.std.specs.Prelude.{Some, None, if◌then◌else◌}
use Rattle.html_names.specs.declared.foreign.Space.{Space}
use Rattle.html_names.specs.declared.foreign.Space.TheVariants as space
use Rattle.html_names.specs.declared.sets.Scope.TheVariants as scope
use Rattle.html_names.specs.declared.tag.Tag.{Tag}
use Rattle.html_names.specs.declared.tag.Tag.TheVariants as tag
use Rattle.html_names.specs.Groups.{is_definition, is_placed, is_preformatted, is_void_part, is_void_phrase, takes_marker}
use Rattle.html_names.specs.Sets.{is_block, is_formatting, is_heading, is_headish, is_void}
use Rattle.html_names.specs.Tags.{is_same}
use Rattle.html_ledger.specs.declared.fate.Cause.TheVariants.{Misplaced}
use Rattle.html_tree.specs.declared.groups.Group.{Group}
use Rattle.html_tree.specs.declared.groups.Group.TheVariants as group
use Rattle.html_tree.specs.declared.groups.Stop.TheVariants as stop
use Rattle.html_construction.specs.declared.mode.Mode.TheVariants as mode
use Rattle.html_construction.specs.Plans.{Adopt, Ask, By, CloseLink, Do, Plan, Reconstruct, Refused, Stop}
use Rattle.html_construction.specs.Words.{AddMarker, CanReplaceBody, CloseThrough, Finds, FramesetOff, HasBody, HasForm, HasTemplate, Implied, Insert, InsertForm, InsertListed, InsertVoid, IsFramesetOk, IsHidden, IsInTable, IsQuirks, MayMisplace, MergeIntoBody, MergeIntoRoot, ParsesForeign, ReplaceBody, Switch}
use Rattle.html_modes.specs.RuleForms.{closing_any, closing_p, embedding, ignored, over, popping_any}
use Rattle.html_modes.specs.RulesInHead.{holding_text}

-- Reconstruct the active formatting elements, if any. Insert an HTML element for the token.
abbrev pub among_text : Plan
among_text = Reconstruct (Do Insert over)

-- Reconstruct the active formatting elements, if any. Insert an HTML element for the token. Immediately pop the current node off the stack of open elements.
-- Set the frameset-ok flag to "not ok".
abbrev pub void_among_text : Tag → Plan
void_among_text g = Reconstruct (Do (InsertVoid g) (Do FramesetOff over))

-- FROM html TO button

-- If the second element on the stack of open elements is not a body element, if the stack of open elements has only one node on it, or if there is a
-- template element on the stack of open elements, then ignore the token. Otherwise, set the frameset-ok flag to "not ok"; then, for each attribute on the
-- token, check to see if the attribute is already present on the body element (the second element) on the stack of open elements, and if it is not, add the
-- attribute and its corresponding value to that element. (Where it may not be out of its place, an element is inserted: own. There the second element is a
-- body.)
abbrev pub misplacing_body : Plan
misplacing_body = Ask (MayMisplace tag.Body) (ignored Misplaced) among_text

abbrev pub merging_body : Plan
merging_body = Ask HasTemplate misplacing_body (Ask HasBody (Do FramesetOff (Do MergeIntoBody over)) misplacing_body)

-- If the stack of open elements has only one node on it, or if the second element on the stack of open elements is not a body element, then ignore the token.
-- If the frameset-ok flag is set to "not ok", ignore the token. Otherwise: remove the second element on the stack of open elements from its parent node, if
-- it has one; pop all the nodes from the bottom of the stack of open elements, from the current node up to, but not including, the root html element; insert
-- an HTML element for the token; switch the insertion mode to "in frameset".
abbrev pub replacing_body : Plan
replacing_body = Ask IsFramesetOk (Ask CanReplaceBody (Do ReplaceBody (Do (Switch mode.InFrameset) over)) (ignored Misplaced)) (ignored Misplaced)

-- If the form element pointer is not null, and there is no template element on the stack of open elements, then ignore the token. Otherwise: if the stack of
-- open elements has a p element in button scope, then close a p element; insert an HTML element for the token, and, if there is no template element on the
-- stack of open elements, set the form element pointer to point to the element created.
abbrev pub opening_form : Plan
opening_form = Ask HasTemplate (closing_p (Do Insert over)) (Ask HasForm (ignored Misplaced) (closing_p (Do InsertForm over)))

-- Set the frameset-ok flag to "not ok". From the current node on: if node is an element of the group, generate implied end tags, except for its own, pop
-- elements until it has been popped from the stack, and stop; if node is in the special category, but is not an address, div, or p element, stop. If the
-- stack of open elements has a p element in button scope, then close a p element. Insert an HTML element for the token.
abbrev pub opening_item : Group → Plan
opening_item items = Do FramesetOff (Do (CloseThrough items stop.PastItem) (closing_p (Do Insert over)))

-- FROM a TO noembed

-- Reconstruct the active formatting elements, if any. Insert an HTML element for the token. Push onto the list of active formatting elements that element.
abbrev pub formatting : Plan
formatting = Reconstruct (Do InsertListed over)

-- Insert an HTML element for the token. Set the frameset-ok flag to "not ok". Switch the insertion mode to "in table".
abbrev pub opening_table : Plan
opening_table = Do Insert (Do FramesetOff (Do (Switch mode.InTable) over))

-- FROM select ON

-- Reconstruct the active formatting elements, if any. Insert an HTML element for the token. Set the frameset-ok flag to "not ok". If the insertion mode is
-- one of "in table", "in caption", "in table body", "in row", or "in cell", then switch the insertion mode to "in select in table". Otherwise, switch the
-- insertion mode to "in select".
abbrev pub opening_select : Plan
opening_select = Reconstruct (Do Insert (Do FramesetOff (Ask IsInTable (Do (Switch mode.InSelectInTable) over) (Do (Switch mode.InSelect) over))))

-- Reconstruct the active formatting elements, if any. Adjust MathML or SVG attributes, and foreign attributes, for the token. Insert a foreign element for
-- the token, in this namespace. If the token has its self-closing flag set, pop the current node off the stack of open elements. (Or the start tag is told,
-- and nothing is done, where foreign content is refused: own.)
abbrev pub opening_root : Space → Plan
opening_root s = Ask ParsesForeign (Reconstruct (embedding s)) (Stop (Refused s))

abbrev pub in_body_start_rest : Tag → Plan
in_body_start_rest g =
    -- A start tag whose tag name is "select" (above).
    if is_same g tag.Select then opening_select else (
    -- A start tag whose tag name is one of: "optgroup", "option": if the current node is an option element, then pop the current node off the stack of open
    -- elements. Reconstruct the active formatting elements, if any. Insert an HTML element for the token.
    if is_same g tag.Optgroup then popping_any (group.Named tag.Option) among_text else (
    if is_same g tag.Option then popping_any (group.Named tag.Option) among_text else (
    -- A start tag whose tag name is one of: "rb", "rtc": if the stack of open elements has a ruby element in scope, then generate implied end tags. Insert an
    -- HTML element for the token.
    if is_same g tag.Rb then Ask (Finds (group.Named tag.Ruby) (stop.EndOf scope.Default)) (Do (Implied None) (Do Insert over)) (Do Insert over) else (
    if is_same g tag.Rtc then Ask (Finds (group.Named tag.Ruby) (stop.EndOf scope.Default)) (Do (Implied None) (Do Insert over)) (Do Insert over) else (
    -- A start tag whose tag name is one of: "rp", "rt": if the stack of open elements has a ruby element in scope, then generate implied end tags, except for
    -- rtc elements. Insert an HTML element for the token.
    if is_same g tag.Rp then Ask (Finds (group.Named tag.Ruby) (stop.EndOf scope.Default)) (Do (Implied (Some tag.Rtc)) (Do Insert over)) (Do Insert over) else (
    if is_same g tag.Rt then Ask (Finds (group.Named tag.Ruby) (stop.EndOf scope.Default)) (Do (Implied (Some tag.Rtc)) (Do Insert over)) (Do Insert over) else (
    -- A start tag whose tag name is "math" (above).
    if is_same g tag.Math then opening_root space.Math else (
    -- A start tag whose tag name is "svg" (above).
    if is_same g tag.Svg then opening_root space.Svg else (
    -- A start tag whose tag name is one of: "caption", "col", "colgroup", "frame", "head", "tbody", "td", "tfoot", "th", "thead", "tr" (the other of that set
    -- comes before): ignore the token.
    if is_placed g then ignored Misplaced else (
    -- No other start tag has the name of a void element (own).
    if is_void g then void_among_text g else
    -- Any other start tag: reconstruct the active formatting elements, if any. Insert an HTML element for the token.
    among_text))))))))))

abbrev pub in_body_start_phrase : Tag → Plan
in_body_start_phrase g =
    -- A start tag whose tag name is "a": if the list of active formatting elements contains an a element between the end of the list and the last marker on
    -- the list, then run the adoption agency algorithm for the token, then remove that element from the list of active formatting elements and the stack of
    -- open elements. Then as a formatting element (above).
    if is_same g tag.A then CloseLink formatting else (
    -- A start tag whose tag name is "nobr": reconstruct the active formatting elements, if any. If the stack of open elements has a nobr element in scope,
    -- then run the adoption agency algorithm for the token, then once again reconstruct the active formatting elements, if any. Insert an HTML element for
    -- the token. Push onto the list of active formatting elements that element.
    if is_same g tag.Nobr then Reconstruct (Ask (Finds (group.Named tag.Nobr) (stop.EndOf scope.Default)) (Adopt tag.Nobr (Reconstruct (Do InsertListed over))) (Do InsertListed over)) else (
    -- A start tag whose tag name is one of: "b", "big", "code", "em", "font", "i", "s", "small", "strike", "strong", "tt", "u" (the others of that set come
    -- before): a formatting element (above).
    if is_formatting g then formatting else (
    -- A start tag whose tag name is one of: "applet", "marquee", "object": reconstruct the active formatting elements, if any. Insert an HTML element for the
    -- token. Insert a marker at the end of the list of active formatting elements. Set the frameset-ok flag to "not ok".
    if takes_marker g then Reconstruct (Do Insert (Do AddMarker (Do FramesetOff over))) else (
    -- A start tag whose tag name is "table": if the Document is not set to quirks mode, and the stack of open elements has a p element in button scope, then
    -- close a p element. Open it (above).
    if is_same g tag.Table then Ask IsQuirks opening_table (closing_p opening_table) else (
    -- A start tag whose tag name is one of: "area", "br", "embed", "img", "keygen", "wbr": reconstruct, insert and pop (above).
    if is_void_phrase g then void_among_text g else (
    -- A start tag whose tag name is "input": reconstruct the active formatting elements, if any. Insert an HTML element for the token. Immediately pop the
    -- current node off the stack of open elements. If the token does not have an attribute with the name "type", or if it does, but that attribute's value is
    -- not an ASCII case-insensitive match for the string "hidden", then: set the frameset-ok flag to "not ok".
    if is_same g tag.Input then Reconstruct (Do (InsertVoid tag.Input) (Ask IsHidden over (Do FramesetOff over))) else (
    -- A start tag whose tag name is one of: "param", "source", "track": insert an HTML element for the token. Immediately pop the current node off the stack
    -- of open elements.
    if is_void_part g then Do (InsertVoid g) over else (
    -- A start tag whose tag name is "hr": if the stack of open elements has a p element in button scope, then close a p element. Insert an HTML element for
    -- the token. Immediately pop the current node off the stack of open elements. Set the frameset-ok flag to "not ok".
    if is_same g tag.Hr then closing_p (Do (InsertVoid tag.Hr) (Do FramesetOff over)) else (
    -- A start tag whose tag name is "image": change the token's tag name to "img" and reprocess it (as "img", above).
    if is_same g tag.Image then void_among_text tag.Image else (
    -- A start tag whose tag name is "textarea": insert an HTML element for the token. Let the original insertion mode be the current insertion mode. Set the
    -- frameset-ok flag to "not ok". Switch the insertion mode to "text".
    if is_same g tag.Textarea then Do FramesetOff (holding_text Insert) else (
    -- A start tag whose tag name is "xmp": if the stack of open elements has a p element in button scope, then close a p element. Reconstruct the active
    -- formatting elements, if any. Set the frameset-ok flag to "not ok". Follow the generic raw text element parsing algorithm.
    if is_same g tag.Xmp then closing_p (Reconstruct (Do FramesetOff (holding_text Insert))) else (
    -- A start tag whose tag name is "iframe": set the frameset-ok flag to "not ok". Follow the generic raw text element parsing algorithm.
    if is_same g tag.Iframe then Do FramesetOff (holding_text Insert) else (
    -- A start tag whose tag name is "noembed": follow the generic raw text element parsing algorithm. (So is "noscript" where scripting is enabled.)
    if is_same g tag.Noembed then holding_text Insert else
    -- The others (above).
    in_body_start_rest g)))))))))))))

abbrev pub in_body_start : Tag → Plan
in_body_start g =
    -- A start tag whose tag name is "html": if there is a template element on the stack of open elements, then ignore the token. Otherwise, for each attribute
    -- on the token, check to see if the attribute is already present on the top element of the stack of open elements. If it is not, add the attribute and
    -- its corresponding value to that element.
    if is_same g tag.Html then Ask HasTemplate (ignored Misplaced) (Do MergeIntoRoot over) else (
    -- A start tag whose tag name is one of: "base", "basefont", "bgsound", "link", "meta", "noframes", "script", "style", "template", "title": process the
    -- token using the rules for the "in head" insertion mode.
    if is_headish g then By mode.InHead else (
    -- A start tag whose tag name is "body" (above).
    if is_same g tag.Body then merging_body else (
    -- A start tag whose tag name is "frameset" (above).
    if is_same g tag.Frameset then replacing_body else (
    -- A start tag whose tag name is one of: "address", "article", "aside", "blockquote", "center", "details", "dialog", "dir", "div", "dl", "fieldset",
    -- "figcaption", "figure", "footer", "header", "hgroup", "main", "menu", "nav", "ol", "p", "search", "section", "summary", "ul": if the stack of open
    -- elements has a p element in button scope, then close a p element. Insert an HTML element for the token.
    if is_block g then closing_p (Do Insert over) else (
    if is_same g tag.P then closing_p (Do Insert over) else (
    -- A start tag whose tag name is one of: "h1", "h2", "h3", "h4", "h5", "h6": if the stack of open elements has a p element in button scope, then close a p
    -- element. If the current node is an HTML element whose tag name is one of "h1", "h2", "h3", "h4", "h5", or "h6", then pop the current node off the stack
    -- of open elements. Insert an HTML element for the token.
    if is_heading g then closing_p (popping_any group.Heading (Do Insert over)) else (
    -- A start tag whose tag name is one of: "pre", "listing": if the stack of open elements has a p element in button scope, then close a p element. Insert
    -- an HTML element for the token. (If the next token is a U+000A LINE FEED character token, then ignore that token: as the dispatcher does here.) Set the
    -- frameset-ok flag to "not ok".
    if is_preformatted g then closing_p (Do Insert (Do FramesetOff over)) else (
    -- A start tag whose tag name is "form" (above).
    if is_same g tag.Form then opening_form else (
    -- A start tag whose tag name is "li" (above).
    if is_same g tag.Li then opening_item (group.Named tag.Li) else (
    -- A start tag whose tag name is one of: "dd", "dt": the same, where each closes either.
    if is_definition g then opening_item group.Definition else (
    -- A start tag whose tag name is "plaintext": if the stack of open elements has a p element in button scope, then close a p element. Insert an HTML element
    -- for the token. (That the tokenizer goes on in the PLAINTEXT state is its own.)
    if is_same g tag.Plaintext then closing_p (Do Insert over) else (
    -- A start tag whose tag name is "button": if the stack of open elements has a button element in scope, then: generate implied end tags; pop elements from
    -- the stack of open elements until a button element has been popped from the stack. Reconstruct the active formatting elements, if any. Insert an HTML
    -- element for the token. Set the frameset-ok flag to "not ok".
    if is_same g tag.Button then closing_any (group.Named tag.Button) (stop.EndOf scope.Default) (Reconstruct (Do Insert (Do FramesetOff over))) else
    -- The others (above).
    in_body_start_phrase g))))))))))))

-- Claimed.
-- The "in body" insertion mode (13.2.6.4.7): end tags.
use Rattle.std.specs.Prelude.{if◌then◌else◌}
use Rattle.html_names.specs.declared.sets.Scope.TheVariants as scope
use Rattle.html_names.specs.declared.tag.Tag.{Tag}
use Rattle.html_names.specs.declared.tag.Tag.TheVariants as tag
use Rattle.html_names.specs.Groups.{is_definition, is_preformatted, takes_marker}
use Rattle.html_names.specs.Sets.{is_block, is_formatting, is_heading}
use Rattle.html_names.specs.Tags.{is_same}
use Rattle.html_tree.specs.declared.groups.Group.TheVariants as group
use Rattle.html_tree.specs.declared.groups.Stop.TheVariants as stop
use Rattle.html_construction.specs.declared.mode.Mode.TheVariants as mode
use Rattle.html_construction.specs.Plans.{Adopt, Ask, By, Do, Fork, Plan, Reconstruct, closing}
use Rattle.html_construction.specs.Words.{ClearToMarker, CloseForm, CloseNamed, Finds, FramesetOff, HasTemplate, Imply, ImplyVoid, Switch}
use Rattle.html_modes.specs.RuleForms.{again, closing_any, done_with}

-- If the stack of open elements does not have a body element in scope, the second. Otherwise: switch the insertion mode to "after body"; the first.
abbrev pub closing_body : Fork
closing_body p n = Ask (Finds (group.Named tag.Body) (stop.EndOf scope.Default)) (Do (Switch mode.AfterBody) p) n

-- If the stack of open elements does not have an element in scope that is an HTML element with the same tag name as that of the token, ignore the token.
-- Otherwise: generate implied end tags; pop elements from the stack of open elements until one has been popped from the stack.
abbrev pub closing_block : Tag → Plan → Plan
closing_block g p = closing_any (group.Named g) (stop.EndOf scope.Default) p

-- What an end tag closes, or makes, before it is done with.
abbrev pub in_body_closing : Tag → Plan → Plan
in_body_closing g p =
    -- An end tag whose tag name is one of: "address", "article", "aside", "blockquote", "button", "center", "details", "dialog", "dir", "div", "dl",
    -- "fieldset", "figcaption", "figure", "footer", "header", "hgroup", "listing", "main", "menu", "nav", "ol", "pre", "search", "section", "summary", "ul"
    -- (above).
    if is_block g then closing_block g p else (
    if is_preformatted g then closing_block g p else (
    if is_same g tag.Button then closing_block g p else (
    -- An end tag whose tag name is "form": if there is no template element on the stack of open elements: let node be the element that the form element
    -- pointer is set to; set the form element pointer to null; if node is null or if the stack of open elements does not have node in scope, ignore the token;
    -- generate implied end tags; remove node from the stack of open elements. If there is one: as a block (above).
    if is_same g tag.Form then Ask HasTemplate (closing_block tag.Form p) (Do CloseForm p) else (
    -- An end tag whose tag name is "p": if the stack of open elements does not have a p element in button scope, then insert an HTML element for a "p" start tag
    -- token with no attributes. Close a p element.
    if is_same g tag.P then Ask (Finds (group.Named tag.P) (stop.EndOf scope.Button)) (closing_any (group.Named tag.P) stop.Never p) (Do (Imply tag.P) (closing_any (group.Named tag.P) stop.Never p)) else (
    -- An end tag whose tag name is "li": if the stack of open elements does not have an li element in list item scope, ignore the token. Otherwise: generate
    -- implied end tags, except for li elements; pop elements from the stack of open elements until an li element has been popped from the stack.
    if is_same g tag.Li then closing_any (group.Named tag.Li) (stop.EndOf scope.ListItem) p else (
    -- An end tag whose tag name is one of: "dd", "dt": if the stack of open elements does not have an element in scope that is an HTML element with the same
    -- tag name as that of the token, ignore the token. Otherwise: generate implied end tags, except for HTML elements with the same tag name as the token; pop
    -- elements from the stack of open elements until one has been popped from the stack.
    if is_definition g then closing_block g p else (
    -- An end tag whose tag name is one of: "h1", "h2", "h3", "h4", "h5", "h6": if the stack of open elements does not have an element in scope that is an HTML
    -- element and whose tag name is one of these, ignore the token. Otherwise: generate implied end tags; pop elements from the stack of open elements until
    -- such an element has been popped from the stack.
    if is_heading g then closing_any group.Heading (stop.EndOf scope.Default) p else (
    -- An end tag whose tag name is one of: "a", "b", "big", "code", "em", "font", "i", "nobr", "s", "small", "strike", "strong", "tt", "u": run the adoption
    -- agency algorithm for the token.
    if is_formatting g then Adopt g p else (
    -- An end tag token whose tag name is one of: "applet", "marquee", "object": as a block (above), and clear the list of active formatting elements up to the
    -- last marker.
    if takes_marker g then closing (group.Named g) (stop.EndOf scope.Default) (Do ClearToMarker p) p else (
    -- An end tag whose tag name is "br": drop the attributes from the token, and act as if this was a "br" start tag token: reconstruct the active formatting
    -- elements, if any; insert an HTML element for it; immediately pop the current node off the stack of open elements; set the frameset-ok flag to "not ok".
    if is_same g tag.Br then Reconstruct (Do (ImplyVoid tag.Br) (Do FramesetOff p)) else
    -- Any other end tag: from the current node on: if node is an HTML element with the same tag name as the token, generate implied end tags, except for HTML
    -- elements with the same tag name as the token, pop all the nodes from the current node up to node, including node, and stop; if node is in the special
    -- category, ignore the token.
    Do CloseNamed p))))))))))

abbrev pub in_body_end : Tag → Plan
in_body_end g =
    -- An end tag whose tag name is "template": process the token using the rules for the "in head" insertion mode.
    if is_same g tag.Template then By mode.InHead else (
    -- An end tag whose tag name is "body": go on after the body (above), or ignore the token.
    if is_same g tag.Body then closing_body done_with done_with else (
    -- An end tag whose tag name is "html": the same; reprocess the token.
    if is_same g tag.Html then closing_body again done_with else
    -- The others (above).
    in_body_closing g done_with))

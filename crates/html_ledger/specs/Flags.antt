-- Claimed.
-- What has been seen of the tokens so far, as flags, and what the flags say of the fate of the next token.
use Rattle.std.specs.Prelude.{ℕ, ◌==◌, Bool, true, false, ◌||◌, ◌&&◌, not, cond, List, [], ◌∷◌, Option, Some, None}
use Rattle.std.specs.List.{list_all}
use Rattle.html_names.specs.declared.tag.Tag.{Tag}
use Rattle.html_names.specs.declared.tag.Tag.TheVariants as tag
use Rattle.html_names.specs.Groups.{is_outermost, is_placed, takes_newline}
use Rattle.html_ledger.specs.declared.symbol.Symbol.{Symbol}
use Rattle.html_ledger.specs.declared.symbol.Symbol.TheVariants.{Start, Char, Comment, Doctype}
use Rattle.html_ledger.specs.declared.setting.Setting.{Setting}
use Rattle.html_ledger.specs.declared.fate.Fate.{Fate}
use Rattle.html_ledger.specs.declared.fate.Fate.TheVariants.{Made, Merged, Text, Dropped, Ended, Foreign}
use Rattle.html_ledger.specs.declared.fate.Cause.{Cause}
use Rattle.html_ledger.specs.declared.fate.Cause.TheVariants.{PrologSpace, Null, LeadingNewline, InSelect, InFrameset, Misplaced, InColumnGroup}
use Rattle.html_ledger.specs.declared.history.History.{History}
use Rattle.html_ledger.specs.Symbols.{named, starts, is_char, is_space_char}
use Rattle.html_ledger.specs.Settings.{is_document, is_fragment, context_is, has_form, is_foreign_context}
use Rattle.html_ledger.specs.MayDrop.{makes, ends_no_select, may_precede_doctype, may_precede_head, is_outside_select, is_outside_frameset, is_outside_column_group, is_body_or_table, embeds, is_foreign_root}
use Rattle.html_ledger.specs.Fates.{is_error}
use Rattle.html_ledger.specs.Fated.{is_text_char, is_end}
use Rattle.html_ledger.specs.Errors.{ends_initial, is_replaced}

-- before the first token
abbrev pub history_at : Setting → History
history_at s = record {
  awaits_doctype = is_document s;
  prolog = is_document s || context_is tag.Html s;
  ignore_line_feed = false;
  select_context = context_is tag.Select s;
  select = false;
  open_select = false;
  template = false;
  fragment = is_fragment s;
  frameset = context_is tag.Frameset s;
  col = context_is tag.Colgroup s;
  noscript = false;
  form = has_form s;
  foreign = is_foreign_context s;
}

-- after one more token with its fate
abbrev pub after : History → Symbol → Fate → History
after h t f = record {
  awaits_doctype = h.awaits_doctype && may_precede_doctype t;
  prolog = h.prolog && may_precede_head t;
  ignore_line_feed = makes takes_newline t f;
  select_context = h.select_context;
  select = h.select || makes (named tag.Select) t f;
  open_select = (h.open_select && ends_no_select t) || makes (named tag.Select) t f;
  template = h.template || makes (named tag.Template) t f;
  fragment = h.fragment;
  frameset = h.frameset || makes (named tag.Frameset) t f;
  col = h.col || makes (named tag.Col) t f;
  noscript = h.noscript || makes (named tag.Noscript) t f;
  form = h.form || makes (named tag.Form) t f;
  foreign = h.foreign || embeds t f;
}

-- after code points that all have one fate
abbrev pub after_run : History → List ℕ → Fate → History
after_run h [] f = h
after_run h (c ∷ cs) f = after_run (after h (Char c) f) cs f

-- start tags may be dropped as inside a select
abbrev pub may_select : History → Bool
may_select h = h.select_context || ((h.select && h.template) || h.open_select)

-- a start tag of this name may be misplaced
abbrev pub may_misplace_tag : History → Tag → Bool
may_misplace_tag h t =
    is_placed t
    || ((named tag.Html t && h.template)
    || ((is_body_or_table t && (h.template || h.fragment))
    || ((named tag.Form t && (h.form || h.template))
    || (named tag.Noscript t && h.noscript))))

abbrev pub may_misplace : History → Symbol → Bool
may_misplace h Doctype = not h.awaits_doctype
may_misplace h (Start t) = may_misplace_tag h t
may_misplace h _ = false

-- the token may be dropped with this cause
abbrev pub may_drop : History → Symbol → Cause → Bool
may_drop h t PrologSpace = is_space_char t && h.prolog
may_drop h t Null = is_char 0 t
may_drop h t LeadingNewline = is_char 10 t && h.ignore_line_feed
may_drop h t InSelect = is_outside_select t && may_select h
may_drop h t InFrameset = is_outside_frameset t && h.frameset
may_drop h t Misplaced = may_misplace h t
may_drop h t InColumnGroup = is_outside_column_group t && h.col

-- the cause by which the token is dropped in every mode
abbrev pub must_drop : History → Symbol → Option Cause
must_drop h t = cond (is_space_char t && h.prolog) (Some PrologSpace) (cond (is_char 10 t && h.ignore_line_feed) (Some LeadingNewline) None)

-- no cause holds in every mode, so that the mode decides
abbrev pub is_free : History → Symbol → Bool
is_free h t = not (is_space_char t && h.prolog) && not (is_char 10 t && h.ignore_line_feed)

-- a node may be made of the token
abbrev pub may_make : History → Symbol → Bool
may_make h (Start t) = true
may_make h Comment = true
may_make h Doctype = h.awaits_doctype
may_make h _ = false

-- an element of foreign content may be made of the token
abbrev pub may_embed : History → Symbol → Bool
may_embed h (Start t) = is_foreign_root t || h.foreign
may_embed h _ = false

-- the token is U+0000, and may become text in foreign content
abbrev pub may_null : History → Symbol → Bool
may_null h t = is_char 0 t && h.foreign

-- the token may become text
abbrev pub may_text : History → Symbol → Bool
may_text h t = is_text_char t && is_free h t

abbrev pub is_not_null : ℕ → Bool
is_not_null c = not (c == 0)

-- no code point, or first one of which the mode decides
abbrev pub is_free_run : History → List ℕ → Bool
is_free_run h [] = true
is_free_run h (c ∷ cs) = is_free h (Char c)

-- code points that may become text in one go: no doctype may come any more, none is U+0000, and of the first the mode decides
abbrev pub may_text_run : History → List ℕ → Bool
may_text_run h cs = not h.awaits_doctype && (list_all is_not_null cs && is_free_run h cs)

-- the token has an error with this fate
abbrev pub has_error : History → Symbol → Fate → Bool
has_error h t f = is_error f || (is_replaced t f || (ends_initial t && h.awaits_doctype))

-- the token may have this fate
abbrev pub may_have : History → Symbol → Fate → Bool
may_have h t (Made d) = may_make h t
may_have h t Merged = starts is_outermost t
may_have h t (Foreign d) = may_embed h t
may_have h t (Text d) = may_text h t || may_null h t
may_have h t (Dropped cause) = may_drop h t cause
may_have h t Ended = is_end t

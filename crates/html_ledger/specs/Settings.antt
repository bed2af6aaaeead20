-- Claimed.
-- What is parsed: a document, or a fragment in its context (13.2 and 13.4).
use Rattle.std.specs.Prelude.{Bool, true, false, ◌||◌}
use Rattle.html_names.specs.Foreign.{is_foreign}
use Rattle.html_names.specs.declared.tag.Tag.{Tag}
use Rattle.html_names.specs.declared.tag.Tag.TheVariants as tag
use Rattle.html_ledger.specs.declared.setting.Setting.{Setting}
use Rattle.html_ledger.specs.declared.setting.Setting.TheVariants.{Document, Fragment}
use Rattle.html_ledger.specs.Symbols.{named}

abbrev pub is_document : Setting → Bool
is_document Document = true
is_document (Fragment context in_form) = false

abbrev pub is_fragment : Setting → Bool
is_fragment Document = false
is_fragment (Fragment context in_form) = true

-- the context element has this name
abbrev pub context_is : Tag → Setting → Bool
context_is x Document = false
context_is x (Fragment context in_form) = named x context

-- a form is the context, or stands around it
abbrev pub has_form : Setting → Bool
has_form Document = false
has_form (Fragment context in_form) = in_form || named tag.Form context

-- the context element is one of foreign content
abbrev pub is_foreign_context : Setting → Bool
is_foreign_context Document = false
is_foreign_context (Fragment context in_form) = is_foreign context

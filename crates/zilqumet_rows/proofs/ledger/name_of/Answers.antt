use Rattle.std.proofs.Common.{◌∙◌, ap, sym}
use Rattle.std.proofs.lemmas.Str.{chars-nil}
use Rattle.zilqumet_rows.specs.Entries.{name_in}
use Rattle.zilqumet_rows.proofs.ledger.name_of.Goals as goal

pub returns-in-Char : goal.returns-in-Char
returns-in-Char c = chars-nil ∙ ap name_in (sym c.in-Char.is)

pub returns-in-Comment : goal.returns-in-Comment
returns-in-Comment c = chars-nil ∙ ap name_in (sym c.in-Comment.is)

pub returns-in-Doctype : goal.returns-in-Doctype
returns-in-Doctype c = chars-nil ∙ ap name_in (sym c.in-Doctype.is)

pub returns-in-Eof : goal.returns-in-Eof
returns-in-Eof c = chars-nil ∙ ap name_in (sym c.in-Eof.is)

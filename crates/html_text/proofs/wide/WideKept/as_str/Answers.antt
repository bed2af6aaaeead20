use Rattle.std.proofs.Common.{◌∙◌, ap, sym}
use Rattle.std.specs.Str.{chars}
use Rattle.std.proofs.lemmas.Str.{chars-IsAscii}
use Rattle.html_text.specs.Texts.{wide_points}
use Rattle.html_text.proofs.wide.WideKept.as_str.Goals as goal

pub returns-in-Short-clause-code_points : goal.returns-in-Short-clause-code_points
returns-in-Short-clause-code_points c =
    ap chars c.as_str.ensures.value ∙ chars-IsAscii c.in-Short.short c.as_str.ensures.ascii ∙ sym (ap wide_points c.in-Short.is)

use Rattle.std.proofs.Common.{◌∙◌, ap, sym}
use Rattle.std.specs.Str.{encode_utf8_all}
use Rattle.std.proofs.lemmas.Str.{encodes-chars}
use Rattle.html_text.proofs.text.Str.as_str.Goals as goal

pub returns-clause-bytes : goal.returns-clause-bytes
returns-clause-bytes c =
    sym (encodes-chars _ c.as_str.ensures.utf8) ∙ ap encode_utf8_all (c.as_str.ensures.code_points ∙ c.self.view_is)

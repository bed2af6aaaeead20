use Rattle.std.proofs.Common.{◌∙◌, ◌++◌, ap}
use Rattle.std.specs.Str.{chars}
use Rattle.std.proofs.lemmas.Str.{chars-IsAscii}
use Rattle.html_text.proofs.short.Short.lengthened.Goals as goal

pub returns : goal.returns
returns g c =
    let empty = c.reserve.ensures.bytes ∙ c.new-text.ensures.bytes in
    ap chars (c.in_ok-push_str.ensures.bytes ∙ ap (λ l. l ++ c.as_str.result.now) empty ∙ c.as_str.ensures.value)
    ∙ chars-IsAscii c.args.self.now c.as_str.ensures.ascii

use Rattle.std.proofs.Common.{◌≡◌, ◌∙◌, List, ℕ, ap, string_bytes, subst, sym}
use Rattle.std.specs.Fmt.{HasWritten}
use Rattle.std.specs.Str.{encode_utf8_all}
use Rattle.std.proofs.lemmas.Str.{encodes-chars, IsUtf8-string_bytes}
use Rattle.html_text.proofs.key.KeyDisplay.fmt.Goals as goal

pub returns-clause-writes : goal.returns-clause-writes
returns-clause-writes g c =
    let e : string_bytes c.self.inside.0 ≡ encode_utf8_all c.args.self.now =
    sym (encodes-chars _ (IsUtf8-string_bytes c.self.inside.0)) ∙ ap encode_utf8_all c.self.view_is in
    λ plain ok. subst (λ (bs : List ℕ). HasWritten {W = g.row.W.Denot} g.W.Write.write_str_gives c.args.f.now bs c.fmt.new.f) e (c.fmt.ensures.writes plain ok)

use Rattle.std.proofs.Common.{◌∙◌, List, ℕ, ap, sym, length, take}
use Rattle.std.proofs.lemmas.Str.{chars-IsAscii}
use Rattle.html_text.proofs.short.Short.of.Goals as goal

pub returns : goal.returns
returns g c =
    ap (λ (l : List ℕ). take (length l) c.copy_front.new.block) (sym c.as_bytes.ensures.value) ∙ c.copy_front.ensures.copied
    ∙ c.as_bytes.ensures.value ∙ sym (chars-IsAscii c.args.text.now c.if-not-is_ascii.ensures.cases)

use Rattle.std.proofs.Common.{◌+◌, ◌++◌, ◌∙◌, List, ℕ, ap, chars, length, sym, take}
use Rattle.std.proofs.lemmas.Str.{chars-IsAscii}
use Rattle.html_text.proofs.short.Short.push_text.Goals as goal

pub returns-clause-yes : goal.returns-clause-yes
returns-clause-yes g c = λ _.
    ap (λ (l : List ℕ). take (c.self.inside.len + length l) c.copy_to.new.block) (sym c.as_bytes.ensures.value) ∙ c.copy_to.ensures.copied
    ∙ ap (λ (v : List ℕ). take c.self.inside.len c.self.inside.bytes ++ v)
    (c.as_bytes.ensures.value ∙ sym (chars-IsAscii c.args.text.now c.if-not-is_ascii.ensures.cases))
    ∙ ap (λ (v : List ℕ). v ++ chars c.args.text.now) c.self.view_is

use Rattle.std.proofs.Common.{List, ℕ, subst}
use Rattle.std.specs.Fmt.{HasWritten}
use Rattle.html_text.proofs.text.StrDisplay.fmt.Goals as goal

pub returns-clause-writes : goal.returns-clause-writes
returns-clause-writes g c = λ plain ok.
    subst (λ (bs : List ℕ). HasWritten {W = g.row.W.Denot} g.W.Write.write_str_gives c.args.f.now bs c.fmt.new.f) c.as_str.ensures.bytes (c.fmt.ensures.writes plain ok)

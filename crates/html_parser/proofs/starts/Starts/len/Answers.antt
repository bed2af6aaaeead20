use Rattle.std.proofs.Common.{length, sym, ap, ◌∙◌}
use Rattle.html_parser.proofs.Stretches.{all-length}
use Rattle.html_parser.proofs.starts.Starts.len.Goals as goal

pub returns : goal.returns
returns c = record {
  value = sym (all-length c.self.inside.stretches.items c.self.inside.len c.self.invariant.0) ∙ ap length c.self.view_is;
}

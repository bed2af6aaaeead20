use Rattle.std.proofs.Common.{◌&&◌, ap, ◌∙◌}
use Rattle.html_ledger.proofs.Stretches.{flags-are}
use Rattle.html_ledger.proofs.history.History.after_plain.Goals as goal

pub returns : goal.returns
returns c = record { value = λ node. flags-are c.args.self c.args.text.now c.stays_after.result c.stays_after-2.result c.both.result node c.stays_after.ensures.value c.stays_after-2.ensures.value (c.both.ensures.value ∙ ap (λ x. c.args.self.ignore_line_feed && x) c.is_empty.ensures) }

use Rattle.std.proofs.Common.{◌&&◌, ap, ◌∙◌}
use Rattle.html_ledger.proofs.Flagged.{after-other}
use Rattle.html_ledger.proofs.history.History.flags_after_other.Goals as goal

pub returns : goal.returns
returns c = record {
  value = λ fate.
      after-other c.args.self c.args.symbol fate c.both.result c.both-2.result c.both-3.result c.requires.other
      (c.both.ensures.value ∙ ap (λ x. c.args.self.awaits_doctype && x) c.may_precede_doctype.ensures.value)
      (c.both-2.ensures.value ∙ ap (λ x. c.args.self.prolog && x) c.may_precede_head.ensures.value)
      (c.both-3.ensures.value ∙ ap (λ x. c.args.self.open_select && x) c.ends_no_select.ensures.value);
}

use Rattle.std.proofs.Common.{refl}
use Rattle.std.proofs.Math.Bool.{and-false, and-true}
use Rattle.html_ledger.proofs.history.History.flags_after_start.Goals as goal

pub returns : goal.returns
returns c = record {
  value = λ fate m g. rw (
    m,
    g,
    and-false c.args.self.awaits_doctype,
    c.both.ensures.value,
    c.is-2.ensures.value,
    c.both-2.ensures.value,
    c.takes_newline.ensures,
    c.either.ensures.value,
    c.either-2.ensures.value,
    c.both-select.ensures.value,
    c.is.ensures.value,
    c.either-3.ensures.value,
    c.both-3.ensures.value,
    c.is-3.ensures.value,
    c.either-4.ensures.value,
    c.both-4.ensures.value,
    c.is-4.ensures.value,
    c.either-5.ensures.value,
    c.both-5.ensures.value,
    c.is-5.ensures.value,
    c.either-6.ensures.value,
    c.both-6.ensures.value,
    c.is-6.ensures.value,
    c.either-7.ensures.value,
    c.both-7.ensures.value,
    c.is-7.ensures.value,
    c.either-8.ensures.value,
    and-true c.args.self.open_select,
  ) refl;
}

use Rattle.std.proofs.Common.{ap, arith, length, sym}
use Rattle.html_modes.proofs.Ids.{starts-short, starts-taken}
use Rattle.html_modes.proofs.quirks.starts_with.Goals as goal

pub returns-then-id-front : goal.returns-then-id-front
returns-then-id-front c = record {
  value = sym (starts-short c.args.id.now c.args.front.now (omega (arith, c.if-id-front.true, ap length c.as_bytes-id.ensures.value, ap length c.as_bytes-front.ensures.value)));
}

pub returns : goal.returns
returns c =
    let t = rw (c.as_bytes-id.ensures.value, c.as_bytes-front.ensures.value) at c.eq_ignore_ascii_case.ensures.test in
    record { value = starts-taken c.args.id.now c.args.front.now c.eq_ignore_ascii_case.result t.0 t.1 }

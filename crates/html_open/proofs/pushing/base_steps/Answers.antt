use Rattle.std.proofs.Common.{length, refl, arith}
use Rattle.html_open.specs.Entries.{is_marker}
use Rattle.html_open.proofs.Lists.{steps_index}
use Rattle.html_open.proofs.pushing.base_steps.Goals as goal

pub returns : goal.returns
returns c =
    let a = steps_index is_marker c.args.entries.now c.last_entry.result (length c.args.entries.now) refl c.last_entry.ensures.index in
    let b = c.steps_to-looked.ensures in
    let d = c.steps_from.ensures.value in
    omega (arith, a, b, d)

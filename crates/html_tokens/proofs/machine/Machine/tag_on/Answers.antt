use Rattle.std.proofs.Common.{◌≡◌, ◌<◌, length, true}
use Rattle.html_tokens.specs.Tag.{reads_refs}
use Rattle.html_tokens.proofs.StreamLemmas.{more_skips}
use Rattle.html_tokens.proofs.TagLemmas.{tag_more, tag_silent}
use Rattle.html_tokens.proofs.machine.Machine.tag_on.Goals as goal

pub returns-clause-skips : goal.returns-clause-skips
returns-clause-skips c =
    let old = c.args.self.now in
    let first = rw c.in-Is-Some.field-0-is at c.in-Is-Some.ensures in
    let some : 0 < length old.input.queue.items = first.1 in
    let reads = rw c.in-More.is at c.in_ok-read.ensures.reads in
    let after = c.in-Some.ensures in
    let plain : reads_refs c.in-Tag.draft.part ≡ true → c.in-Is-Some.c ≡ 38 → ⊥ = λ refs. c.if-c-eq38.false in
    more_skips old c.pass.new.self
    (tag_more old c.pass.new.self c.in-Tag.draft c.read.new.self c.in-Is-Some.c c.in-Some.after c.in-Tag.is reads (rw c.in-More.is at c.in_ok-read.ensures.moves) (rw c.in-More.is at c.in_ok-read.ensures.names) plain first.0 after.looks after.fit c.pass.ensures)
    (tag_silent old c.in-Tag.draft c.read.new.self c.in-Is-Some.c c.in-Some.after c.in-Tag.is reads plain first.0 after.looks some (c.quiet_char.ensures.none c.if-not-quiet_char.false))

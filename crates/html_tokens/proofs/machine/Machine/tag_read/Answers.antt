use Rattle.html_tokens.proofs.BoundLemmas.{closing_some, tag_closed, told_sum}
use Rattle.std.proofs.Common.{◌<◌, arith, length}
use Rattle.html_tokens.proofs.ToldLemmas.{opens_both, tells_decided}
use Rattle.html_tokens.proofs.TagLemmas.{tag_closing, tag_ends_told, tag_given, tag_more, tag_on_told}
use Rattle.html_tokens.proofs.machine.Machine.tag_read.Goals as goal

pub returns-in-More-clause-steps : goal.returns-in-More-clause-steps
returns-in-More-clause-steps c =
    tag_more c.args.self.now c.pass.new.self c.in-Tag.draft c.read.new.self c.args.c c.args.after c.in-Tag.is (rw c.in-More.is at c.in_ok-read.ensures.reads) (rw c.in-More.is at c.in_ok-read.ensures.moves) (rw c.in-More.is at c.in_ok-read.ensures.names)
    (c.requires.plain c.in-Tag.draft c.in-Tag.is) c.requires.first (c.requires.second c.in-Tag.draft c.in-Tag.is) c.requires.fit c.pass.ensures

pub returns-in-Closed-clause-steps : goal.returns-in-Closed-clause-steps
returns-in-Closed-clause-steps c =
    tag_given c.end_tag.result c.args.self.now c.end_tag.new.self c.in-Tag.draft c.read.new.self c.args.c c.args.after c.in-Closed.self_closing c.in-Closed.len c.in-Tag.is (rw c.in-Closed.is at c.in_ok-read.ensures.reads) (rw c.in-Closed.is at c.in_ok-read.ensures.moves)
    (c.requires.plain c.in-Tag.draft c.in-Tag.is) c.requires.first (c.requires.second c.in-Tag.draft c.in-Tag.is) c.requires.fit (rw c.in-Closed.is at c.in_ok-read.ensures.closes).1 c.end_tag.ensures.ends

pub returns-in-Closed-clause-bounded : goal.returns-in-Closed-clause-bounded
returns-in-Closed-clause-bounded c =
    tag_closed c.end_tag.result c.args.self.now c.end_tag.new.self c.in-Tag.draft c.read.new.self c.in-Closed.self_closing c.in-Closed.len c.args.faults.now c.tag_close.new.self c.in-Tag.is c.end_tag.ensures.ends c.end_tag.ensures.place (closing_some c.in-Closed.self_closing c.in-Closed.len (rw c.in-Closed.is at c.in_ok-read.ensures.closes).1)
    (told_sum 6 2 _ c.args.faults.now c.tag_char.new.self c.tag_close.new.self c.tag_char.ensures.told c.tag_close.ensures.told)

pub returns-in-More-clause-tells : goal.returns-in-More-clause-tells
returns-in-More-clause-tells c =
    let fit = c.requires.fit in
    let some : 0 < length c.args.self.now.input.queue.items = omega (arith, fit) in
    tells_decided c.args.self.now _ c.args.faults.now c.tag_char.new.self
    (tag_on_told c.args.self.now c.in-Tag.draft c.read.new.self c.args.c c.args.after c.in-Tag.is (rw c.in-More.is at c.in_ok-read.ensures.reads) (c.requires.plain c.in-Tag.draft c.in-Tag.is) c.requires.first (c.requires.second c.in-Tag.draft c.in-Tag.is) some) c.tag_char.ensures.opens

pub returns-in-Closed-clause-tells : goal.returns-in-Closed-clause-tells
returns-in-Closed-clause-tells c =
    let fit = c.requires.fit in
    let some : 0 < length c.args.self.now.input.queue.items = omega (arith, fit) in
    let reads = rw c.in-Closed.is at c.in_ok-read.ensures.reads in
    tag_ends_told c.end_tag.result c.args.self.now c.end_tag.new.self c.in-Tag.draft c.read.new.self _ c.in-Closed.self_closing c.in-Closed.len c.args.faults.now c.tag_close.new.self
    (tag_closing c.args.self.now c.in-Tag.draft c.read.new.self c.args.c c.args.after c.in-Closed.self_closing c.in-Closed.len c.in-Tag.is reads (rw c.in-Closed.is at c.in_ok-read.ensures.closes).1 (c.requires.plain c.in-Tag.draft c.in-Tag.is) c.requires.first (c.requires.second c.in-Tag.draft c.in-Tag.is) some)
    (opens_both _ _ c.args.faults.now c.tag_char.new.self c.tag_close.new.self c.tag_char.ensures.opens (rw reads.2 at c.tag_close.ensures.opens)) c.end_tag.ensures.ends

use Rattle.std.proofs.Common.{◌<◌, ◌≤◌, ◌+◌, arith, drop}
use Rattle.std.proofs.lemmas.List.{take_rest}
use Rattle.html_tokens.proofs.WholeLemmas.{copies_spaces, copies_then, takes_on, takes_space_after}
use Rattle.html_tokens.proofs.tag.TagDraft.take_attrs.Goals as goal

pub returns-then-taken-eq0-clause-copies : goal.returns-then-taken-eq0-clause-copies
returns-then-taken-eq0-clause-copies c =
    let here = c.taking.self in
    let rest = c.args.rest.now in
    let same = (c.in_ok-taken.ensures.none c.if-taken-eq0.true).0 in
    let space = rw (take_rest rest c.taking.len) at c.space_len-spaces.ensures in
    rw same (copies_then c.args.self.now here here rest c.taking.len c.space_len-spaces.result c.taking.invariant.copies (copies_spaces here (drop c.taking.len rest) c.space_len-spaces.result c.taking.invariant.part space.few space.space))

pub returns-then-taken-eq0-clause-bounds : goal.returns-then-taken-eq0-clause-bounds
returns-then-taken-eq0-clause-bounds c =
    let same = (c.in_ok-taken.ensures.none c.if-taken-eq0.true).0 in
    rw same (takes_space_after c.args.self.now c.taking.self c.taking.len c.space_len-spaces.result c.taking.compared c.taking.invariant.bounds)

pub taking-preserved : goal.taking-preserved
taking-preserved c =
    let taken = c.in_ok-taken.taken in
    let rest = c.args.rest.now in
    let some : 0 < taken.len = omega (arith, c.if-taken-eq0.false) in
    let sum : c.saturating_add-compared.result ≤ c.taking.compared + taken.compared = omega (arith, c.saturating_add-compared.ensures) in
    record {
      copies = copies_then c.args.self.now c.taking.self c.take_whole.new.self rest c.taking.len taken.len c.taking.invariant.copies (rw (take_rest rest c.taking.len) at c.in_ok-taken.ensures.copies);
      bounds = takes_on c.args.self.now c.taking.self c.take_whole.new.self c.taking.len taken.len c.taking.compared taken.compared c.saturating_add-compared.result c.taking.invariant.bounds some c.in_ok-taken.ensures.attrs c.in_ok-taken.ensures.compared sum;
      part = c.in_ok-taken.ensures.part;
    }

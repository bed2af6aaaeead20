use Rattle.html_tokens.proofs.ToldLemmas.{tells_decided}
use Rattle.html_tokens.proofs.TagLemmas.{ref_more, value_ref_told}
use Rattle.html_tokens.proofs.machine.Machine.value_step.Goals as goal

pub returns-clause-steps : goal.returns-clause-steps
returns-clause-steps c =
    ref_more c.args.self.now c.pass.new.self c.in-Tag.draft c.read_ref.new.self c.in-Some.found c.in-Tag.is c.in_ok-read_ref.ensures.ok c.in_ok-read_ref.ensures.moves c.in_ok-read_ref.ensures.names (c.requires.refs c.in-Tag.draft c.in-Tag.is) c.requires.first c.requires.some c.in-Some.ensures (rw c.len-2.ensures at c.pass.ensures)

pub returns-clause-tells : goal.returns-clause-tells
returns-clause-tells c =
    tells_decided c.args.self.now _ c.args.faults.now c.value_ref-2.new.self
    (value_ref_told c.args.self.now c.in-Tag.draft c.read_ref.new.self c.in-Some.found c.lacks_semicolon-lacking.result c.in-Tag.is c.in_ok-read_ref.ensures.ok (c.requires.refs c.in-Tag.draft c.in-Tag.is) c.requires.first c.requires.some c.in-Some.ensures (rw c.len.ensures at c.lacks_semicolon-lacking.ensures)) c.value_ref-2.ensures.opens

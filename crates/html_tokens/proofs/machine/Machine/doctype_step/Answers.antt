use Rattle.html_tokens.proofs.DoctypeLemmas.{doctype_more, doctype_given, doctype_waits}
use Rattle.std.proofs.Common.{refl}
use Rattle.html_tokens.proofs.InsideLemmas.{doctype_tells}
use Rattle.html_tokens.proofs.ToldLemmas.{tells_none}
use Rattle.html_tokens.specs.declared.machine.Progress.TheVariants.{More}
use Rattle.html_tokens.proofs.machine.Machine.doctype_step.Goals as goal

pub returns-in-Wait-clause-steps : goal.returns-in-Wait-clause-steps
returns-in-Wait-clause-steps c = doctype_waits c.args.self.now c.in-Doctype.draft c.read.new.self c.in-Doctype.is (rw c.in-Wait.is at c.in_ok-read.ensures.reads)

pub returns-in-Keyword-clause-steps : goal.returns-in-Keyword-clause-steps
returns-in-Keyword-clause-steps c = doctype_more c.args.self.now c.pass.new.self c.in-Doctype.draft c.read.new.self c.in-Keyword.len c.in-Doctype.is (rw c.in-Keyword.is at c.in_ok-read.ensures.reads) (rw c.in-Keyword.is at c.in_ok-read.ensures.moves).0 c.pass.ensures

pub returns-in-More-clause-steps : goal.returns-in-More-clause-steps
returns-in-More-clause-steps c = doctype_more c.args.self.now c.pass-in-More.new.self c.in-Doctype.draft c.read.new.self 1 c.in-Doctype.is (rw c.in-More.is at c.in_ok-read.ensures.reads) (rw c.in-More.is at c.in_ok-read.ensures.moves).0 c.pass-in-More.ensures

pub returns-in-Closed-clause-steps : goal.returns-in-Closed-clause-steps
returns-in-Closed-clause-steps c =
    doctype_given c.args.self.now c.end_doctype.new.self c.in-Doctype.draft c.read.new.self c.in-Closed.force_quirks c.in-Closed.len c.end_doctype.result c.in-Doctype.is (rw c.in-Closed.is at c.in_ok-read.ensures.reads) (rw c.in-Closed.is at c.in_ok-read.ensures.moves) c.end_doctype.ensures

pub returns-in-Keyword-clause-tells : goal.returns-in-Keyword-clause-tells
returns-in-Keyword-clause-tells c =
    let moves = rw c.in-Keyword.is at c.in_ok-read.ensures.moves in
    tells_none c.args.self.now More c.args.faults.now (λ more f. rw c.in-Doctype.is (moves.1 c.args.self.now.place more f))

pub returns-in-More-clause-tells : goal.returns-in-More-clause-tells
returns-in-More-clause-tells c =
    let moves = rw c.in-More.is at c.in_ok-read.ensures.moves in
    doctype_tells c.args.self.now c.in-Doctype.draft c.in-Is.first c.args.faults.now c.doctype.new.self c.in-Doctype.is moves.1 c.in-Is.ensures.0 c.doctype.ensures.opens

pub returns-in-Closed-clause-tells : goal.returns-in-Closed-clause-tells
returns-in-Closed-clause-tells c =
    let moves = rw c.in-Closed.is at c.in_ok-read.ensures.moves in
    let ended = c.end_doctype.ensures c.read.new.self refl in
    rw ended.0 (doctype_tells c.args.self.now c.in-Doctype.draft c.in-Is.first c.args.faults.now c.doctype-in-Closed.new.self c.in-Doctype.is moves.1 c.in-Is.ensures.0 c.doctype-in-Closed.ensures.opens)

use Rattle.html_tokens.specs.declared.doctype.Keyword.TheVariants as keywords
use Rattle.html_tokens.proofs.DoctypeLemmas.{read_closed, read_ended, read_one}
use Rattle.html_tokens.proofs.InsideLemmas.{moves_closed, moves_ended, moves_on}
use Rattle.html_tokens.proofs.doctype.DoctypeDraft.read.Goals as goal

pub returns-in-Is-None-clause-reads : goal.returns-in-Is-None-clause-reads
returns-in-Is-None-clause-reads c =
    let at_end = rw c.in-Is-None.field-0-is at c.in-Is-None.ensures in
    read_ended c.args.self.now c.end.new.self c.args.input.now c.in_ok-force_quirks-in-Is-None.force_quirks at_end.0 c.in_ok-force_quirks-in-Is-None.ensures

pub returns-in-Some-clause-reads : goal.returns-in-Some-clause-reads
returns-in-Some-clause-reads c =
    let first = rw c.in-Is-Some.field-0-is at c.in-Is-Some.ensures in
    read_closed c.args.self.now c.read_part.new.self c.args.input.now c.in-Some.force_quirks c.in-Is-Some.c first.0 first.1 (rw c.in-Some.is at c.in_ok-closed.ensures.reads)

pub returns-in-Is-None-clause-moves : goal.returns-in-Is-None-clause-moves
returns-in-Is-None-clause-moves c =
    let at_end = rw c.in-Is-None.field-0-is at c.in-Is-None.ensures in
    moves_ended c.args.self.now c.end.new.self c.args.input.now c.in_ok-force_quirks-in-Is-None.force_quirks at_end.0

pub returns-in-None : goal.returns-in-None
returns-in-None c =
    let first = rw c.in-Is-Some.field-0-is at c.in-Is-Some.ensures in
    let read = rw c.in-None.is at c.in_ok-closed.ensures.reads in
    let moves = rw c.in-None.is at c.in_ok-closed.ensures.moves in
    let new = record c.read_part.new.self { spaced = c.is_space-self.result } in
    record {
      reads = read_one c.args.self.now new c.args.input.now c.in-Is-Some.c first.0 first.1 read;
      moves = moves_on c.args.self.now new c.args.input.now c.in-Is-Some.c c.in_default.not-AfterName first.0 first.1 moves.0 (moves.1 keywords.Other) c.is_space-self.ensures;
    }

pub returns-in-Some-clause-moves : goal.returns-in-Some-clause-moves
returns-in-Some-clause-moves c =
    let first = rw c.in-Is-Some.field-0-is at c.in-Is-Some.ensures in
    moves_closed c.args.self.now c.read_part.new.self c.args.input.now c.in-Some.force_quirks c.in-Is-Some.c c.in_default.not-AfterName first.0 first.1 (rw c.in-Some.is at c.in_ok-closed.ensures.moves)

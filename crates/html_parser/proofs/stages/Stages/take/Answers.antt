use Rattle.std.proofs.Common.{◌++◌, ◌∙◌, [], ap₂, sym, take-append-drop}
use Rattle.std.proofs.lemmas.List.{append-nil}
use Rattle.std.proofs.lemmas.Result.{err_from_is_err_and}
use Rattle.html_parser.specs.declared.stages.TheConstants.{PIECE}
use Rattle.html_parser.proofs.Feeds.{all_taken, bit_refused, some_more, some_none}
use Rattle.html_parser.proofs.stages.Stages.take.Goals as goal

pub bits-init : goal.bits-init
bits-init c = some_none c.args.self.now c.args.piece.now

pub returns-in_err-take_bit-clause-cause : goal.returns-in_err-take_bit-clause-cause
returns-in_err-take_bit-clause-cause c =
    let p = err_from_is_err_and c.from_residual.result c.from_residual.ensures.1 in
    let whole = sym (take-append-drop PIECE c.bits.rest.now) ∙ ap₂ (λ x y. x ++ y) (sym c.split_at.ensures.front) (sym c.split_at.ensures.back) in
    rw (p.1, p.2) (bit_refused c.args.self.now c.bits.self c.args.piece.now c.bits.rest.now c.split_at.result.0.now c.split_at.result.1.now
    c.in_err-take_bit.field-0.0 c.bits.invariant whole c.in_err-take_bit.ensures.cause)

pub returns-in_err-take_bit-clause-told : goal.returns-in_err-take_bit-clause-told
returns-in_err-take_bit-clause-told c =
    let p = err_from_is_err_and c.from_residual.result c.from_residual.ensures.1 in
    rw (p.1, p.2) (λ start bytes run r.
    let h = c.bits.invariant.reads start bytes run r in
    c.in_err-take_bit.ensures.told start (bytes ++ c.bits.invariant.front) h.run h.is_run)

pub returns-in_err-take_bit-clause-keeps : goal.returns-in_err-take_bit-clause-keeps
returns-in_err-take_bit-clause-keeps c = c.take_bit.ensures.keeps ∙ c.bits.invariant.keeps

pub bits-preserved : goal.bits-preserved
bits-preserved c =
    let whole = sym (take-append-drop PIECE c.bits.rest.now) ∙ ap₂ (λ x y. x ++ y) (sym c.split_at.ensures.front) (sym c.split_at.ensures.back) in
    some_more c.args.self.now c.bits.self c.take_bit.new.self c.args.piece.now c.bits.rest.now c.split_at.result.0.now c.split_at.result.1.now
    c.bits.invariant whole c.in_ok-take_bit.ensures.taken c.take_bit.ensures.keeps

pub returns-in_err-take_bit-2-clause-cause : goal.returns-in_err-take_bit-2-clause-cause
returns-in_err-take_bit-2-clause-cause c =
    let p = err_from_is_err_and c.from_residual-in_err-take_bit-2.result c.from_residual-in_err-take_bit-2.ensures.1 in
    rw (p.1, p.2) (bit_refused c.args.self.now c.bits.self c.args.piece.now c.bits.rest.now c.bits.rest.now []
    c.in_err-take_bit-2.field-0.0 c.bits.invariant (sym (append-nil c.bits.rest.now)) c.in_err-take_bit-2.ensures.cause)

pub returns-in_err-take_bit-2-clause-told : goal.returns-in_err-take_bit-2-clause-told
returns-in_err-take_bit-2-clause-told c =
    let p = err_from_is_err_and c.from_residual-in_err-take_bit-2.result c.from_residual-in_err-take_bit-2.ensures.1 in
    rw (p.1, p.2) (λ start bytes run r.
    let h = c.bits.invariant.reads start bytes run r in
    c.in_err-take_bit-2.ensures.told start (bytes ++ c.bits.invariant.front) h.run h.is_run)

pub returns-in_err-take_bit-2-clause-keeps : goal.returns-in_err-take_bit-2-clause-keeps
returns-in_err-take_bit-2-clause-keeps c = c.take_bit-2.ensures.keeps ∙ c.bits.invariant.keeps

pub returns-clause-taken : goal.returns-clause-taken
returns-clause-taken c = all_taken c.args.self.now c.bits.self _ c.args.piece.now c.bits.rest.now c.bits.invariant c.in_ok-take_bit-2.ensures.taken

pub returns-clause-keeps : goal.returns-clause-keeps
returns-clause-keeps c = c.take_bit-2.ensures.keeps ∙ c.bits.invariant.keeps

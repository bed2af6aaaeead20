use Rattle.std.proofs.Common.{◌++◌, ◌∙◌, [], sym}
use Rattle.std.proofs.lemmas.List.{append-nil}
use Rattle.std.proofs.lemmas.Result.{err_from_is_err_and}
use Rattle.html_parser.proofs.Feeds.{all_taken, bit_refused, some_none}
use Rattle.html_parser.proofs.PlainTaken.{some_read}
use Rattle.html_parser.proofs.stages.Stages.take_bit.Goals as goal

pub fronts-init : goal.fronts-init
fronts-init c = some_none c.args.self.now c.args.piece.now

pub returns-in_err-len-clause-cause : goal.returns-in_err-len-clause-cause
returns-in_err-len-clause-cause c =
    let p = err_from_is_err_and c.from_residual.result c.from_residual.ensures.1 in
    rw (p.1, p.2) (bit_refused c.args.self.now c.fronts.self c.args.piece.now c.fronts.rest.now c.fronts.rest.now []
    c.in_err-len.field-0.0 c.fronts.invariant (sym (append-nil c.fronts.rest.now)) c.in_err-len.ensures.cause)

pub returns-in_err-len-clause-keeps : goal.returns-in_err-len-clause-keeps
returns-in_err-len-clause-keeps c = c.take_front.ensures.keeps ∙ c.fronts.invariant.keeps

pub fronts-preserved : goal.fronts-preserved
fronts-preserved c =
    some_read c.args.self.now c.fronts.self c.take_front.new.self c.args.piece.now c.fronts.rest.now c.in_ok-len.len c.split_at.result.1.now
    c.fronts.invariant c.split_at.ensures.back c.in_ok-len.ensures.reads c.take_front.ensures.keeps

pub returns-in_err-take_chars-clause-cause : goal.returns-in_err-take_chars-clause-cause
returns-in_err-take_chars-clause-cause c =
    let p = err_from_is_err_and c.from_residual-in_err-take_chars.result c.from_residual-in_err-take_chars.ensures.1 in
    rw (p.1, p.2) (bit_refused c.args.self.now c.fronts.self c.args.piece.now c.fronts.rest.now c.fronts.rest.now []
    c.in_err-take_chars.field-0.0 c.fronts.invariant (sym (append-nil c.fronts.rest.now)) c.in_err-take_chars.ensures.cause)

pub returns-in_err-take_chars-clause-keeps : goal.returns-in_err-take_chars-clause-keeps
returns-in_err-take_chars-clause-keeps c = c.take_chars.ensures.keeps ∙ c.fronts.invariant.keeps

pub returns-clause-taken : goal.returns-clause-taken
returns-clause-taken c = all_taken c.args.self.now c.fronts.self _ c.args.piece.now c.fronts.rest.now c.fronts.invariant c.in_ok-take_chars.ensures.taken

pub returns-clause-keeps : goal.returns-clause-keeps
returns-clause-keeps c = c.take_chars.ensures.keeps ∙ c.fronts.invariant.keeps

pub returns-in_err-len-clause-told : goal.returns-in_err-len-clause-told
returns-in_err-len-clause-told c =
    let p = err_from_is_err_and c.from_residual.result c.from_residual.ensures.1 in
    rw (p.1, p.2) (λ start bytes run r. let h = c.fronts.invariant.reads start bytes run r in c.in_err-len.ensures.told start (bytes ++ c.fronts.invariant.front) h.run h.is_run)

pub returns-in_err-take_chars-clause-told : goal.returns-in_err-take_chars-clause-told
returns-in_err-take_chars-clause-told c =
    let p = err_from_is_err_and c.from_residual-in_err-take_chars.result c.from_residual-in_err-take_chars.ensures.1 in
    rw (p.1, p.2) (λ start bytes run r. let h = c.fronts.invariant.reads start bytes run r in c.in_err-take_chars.ensures.told start (bytes ++ c.fronts.invariant.front) h.run h.is_run)

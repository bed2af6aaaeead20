use Rattle.std.proofs.Common.{[], ◌++◌, take}
use Rattle.std.proofs.lemmas.Result.{err_from_is_err_and}
use Rattle.html_parser.proofs.PlainTaken.{front_refused, none_read, read_after, refused_after}
use Rattle.html_parser.proofs.stages.Stages.take_front.Goals as goal

pub returns-in_err-take_chars-clause-cause : goal.returns-in_err-take_chars-clause-cause
returns-in_err-take_chars-clause-cause c =
    let p = err_from_is_err_and c.from_residual-in_err-take_chars.result c.from_residual-in_err-take_chars.ensures.1 in
    let end = c.front_end-end.result in
    rw (p.1, p.2) (λ start bytes run r. front_refused start bytes c.args.piece.now end c.in_err-take_chars.field-0.0
    (refused_after start c.take_lane.new.self bytes (take end c.args.piece.now) c.in_err-take_chars.field-0.0
    (none_read start c.take_lane.new.self bytes c.args.piece.now c.in_ok-taken.taken c.if-taken-gt0.false (c.in_ok-taken.ensures.reads start bytes run r))
    (c.in_err-take_chars.ensures.cause start)))

pub returns-clause-reads : goal.returns-clause-reads
returns-clause-reads c = λ start bytes run r.
    let end = c.front_end-end.result in
    read_after start c.take_lane.new.self _ bytes (take end c.args.piece.now)
    (none_read start c.take_lane.new.self bytes c.args.piece.now c.in_ok-taken.taken c.if-taken-gt0.false (c.in_ok-taken.ensures.reads start bytes run r))
    (c.in_ok-take_chars.ensures.taken start)

pub returns-in_err-take_chars-clause-told : goal.returns-in_err-take_chars-clause-told
returns-in_err-take_chars-clause-told c =
    let p = err_from_is_err_and c.from_residual-in_err-take_chars.result c.from_residual-in_err-take_chars.ensures.1 in
    rw (p.1, p.2) (λ start bytes run r.
    let h = none_read start c.take_lane.new.self bytes c.args.piece.now c.in_ok-taken.taken c.if-taken-gt0.false (c.in_ok-taken.ensures.reads start bytes run r) in
    c.in_err-take_chars.ensures.told start (bytes ++ []) h.run h.is_run)

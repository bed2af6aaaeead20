use Rattle.std.proofs.Common.{[], ◌-◌, ◌++◌, cond, encode_utf8_all, length, subst}
use Rattle.std.proofs.lemmas.Result.{err_from_is_err_and}
use Rattle.html_parser.specs.Staged.{HasRead}
use Rattle.html_parser.proofs.PlainTaken.{bytes_front, text_refused_in, whole_read}
use Rattle.html_parser.proofs.stages.Stages.take_plain.Goals as goal

pub of-requires : goal.of-requires
of-requires c = record { plain = bytes_front c.args.piece.now (length c.args.piece.now - c.tail_len.result) c.requires.plain }

pub returns-in_err-taken-clause-cause : goal.returns-in_err-taken-clause-cause
returns-in_err-taken-clause-cause c =
    let p = err_from_is_err_and c.from_residual.result c.from_residual.ensures.1 in
    rw (p.1, p.2) (λ start bytes run r. text_refused_in start bytes c.args.piece.now c.in-Some.text (length c.args.piece.now - c.tail_len.result) c.in_err-taken.field-0.0
    c.in-Some.ensures.bytes (c.in_err-taken.ensures.cause start bytes run r))

pub returns-then-taken-clause-reads : goal.returns-then-taken-clause-reads
returns-then-taken-clause-reads c = λ start bytes run r.
    whole_read start c.take_text.new.self bytes c.args.piece.now c.in-Some.text (length c.args.piece.now - c.tail_len.result) c.in-Some.ensures.bytes
    (subst (λ b. HasRead start c.take_text.new.self (bytes ++ cond b (encode_utf8_all c.in-Some.text) [])) c.if-taken.true (c.in_ok-taken.ensures.reads start bytes run r))

pub returns-else-taken-clause-reads : goal.returns-else-taken-clause-reads
returns-else-taken-clause-reads c = λ start bytes run r.
    subst (λ b. HasRead start c.take_text.new.self (bytes ++ cond b (encode_utf8_all c.in-Some.text) [])) c.if-taken.false (c.in_ok-taken.ensures.reads start bytes run r)

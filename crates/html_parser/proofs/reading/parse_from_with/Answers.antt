use Rattle.std.proofs.Common.{inl, inr, ◌≡◌, ◌∙◌, Err, ap}
use Rattle.std.proofs.lemmas.Result.{IfErr-weaker, IfOk-weaker, err_from_is_err_and}
use Rattle.html_parser.specs.Options.{start_of}
use Rattle.html_parser.specs.declared.error.ParseError.TheVariants.{Read}
use Rattle.html_parser.proofs.Refusals.{end-cause, reader-cause}
use Rattle.html_parser.proofs.Rewritten.{page-root}
use Rattle.html_parser.proofs.reading.parse_from_with.Goals as goal

pub feed_from-requires : goal.feed_from-requires
feed_from-requires g c = record {
  new = (start_of c.args.table.now c.args.options.now, record { fed = c.in_ok-parser.ensures.begun; keeps = c.in_ok-parser.ensures.keeps });
}

pub returns-in_err-feed_from-clause-cause : goal.returns-in_err-feed_from-clause-cause
returns-in_err-feed_from-clause-cause g c =
    let p = err_from_is_err_and c.from_residual-in_err-feed_from.result c.from_residual-in_err-feed_from.ensures.1 in
    rw (p.1, p.2) (inr (reader-cause (start_of c.args.table.now c.args.options.now) _ _ _ c.in_err-feed_from.field-0.0
    (c.in_err-feed_from.ensures.cause (start_of c.args.table.now c.args.options.now) (record { fed = c.in_ok-parser.ensures.begun; keeps = c.in_ok-parser.ensures.keeps }))))

pub returns-clause-page : goal.returns-clause-page
returns-clause-page g c =
    let f = c.in_ok-feed_from.ensures.fed in
    let k = f.2 (start_of c.args.table.now c.args.options.now) (record { fed = c.in_ok-parser.ensures.begun; keeps = c.in_ok-parser.ensures.keeps }) in
    IfOk-weaker c.finish.result _ _ (λ page is. (f.0, f.1, is (start_of c.args.table.now c.args.options.now) f.0 k.fed k.keeps)) c.finish.ensures.page

pub returns-clause-root : goal.returns-clause-root
returns-clause-root g c =
    let f = c.in_ok-feed_from.ensures.fed in
    let k = f.2 (start_of c.args.table.now c.args.options.now) (record { fed = c.in_ok-parser.ensures.begun; keeps = c.in_ok-parser.ensures.keeps }) in
    IfOk-weaker c.finish.result _ _
    (λ page is. page-root (start_of c.args.table.now c.args.options.now) f.0 page (is (start_of c.args.table.now c.args.options.now) f.0 k.fed k.keeps)) c.finish.ensures.page

pub returns-clause-cause : goal.returns-clause-cause
returns-clause-cause g c =
    let f = c.in_ok-feed_from.ensures.fed in
    let k = f.2 (start_of c.args.table.now c.args.options.now) (record { fed = c.in_ok-parser.ensures.begun; keeps = c.in_ok-parser.ensures.keeps }) in
    IfErr-weaker c.finish.result _ _
    (λ e cause. inr (end-cause (start_of c.args.table.now c.args.options.now) _ _ _ f.0 e f.1 c.in_ok-feed_from.ensures.end (cause (start_of c.args.table.now c.args.options.now) f.0 k.fed)))
    c.finish.ensures.cause

pub returns-in_err-parser-clause-cause : goal.returns-in_err-parser-clause-cause
returns-in_err-parser-clause-cause g c =
    let p = err_from_is_err_and c.from_residual.result c.from_residual.ensures.1 in
    rw (p.1, p.2) (inl c.in_err-parser.ensures.cause)

pub returns-in_err-feed_from-clause-failing : goal.returns-in_err-feed_from-clause-failing
returns-in_err-feed_from-clause-failing g c = λ was now.
    let p = err_from_is_err_and c.from_residual-in_err-feed_from.result c.from_residual-in_err-feed_from.ensures.1 in
    let is : c.in_err-feed_from.field-0.0 ≡ Read = (let told = c.feed_from.ensures.failing now in let refused = c.in_err-feed_from.was in cc) in
    p.1 ∙ ap Err (p.2 ∙ is)

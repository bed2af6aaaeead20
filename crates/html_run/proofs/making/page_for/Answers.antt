use Rattle.std.proofs.lemmas.Result.{IfErr-weaker, IfOk-weaker}
use Rattle.html_run.specs.Jobs.{start_for}
use Rattle.html_parser.specs.declared.error.ParseError.TheVariants.{Read}
use Rattle.html_run.proofs.Causes.{end-read, piece-read}
use Rattle.html_run.proofs.Ended.{ended-as, ended-err, ended-ok, ended-on}
use Rattle.html_run.proofs.making.page_for.Goals as goal

pub returns-clause-page : goal.returns-clause-page
returns-clause-page g c =
    let start = start_for c.args.job.now c.args.table.now in
    rw (c.and.ensures) (ended-ok c.feed_from-fed.result c.finish.result _ _ c.feed_from-fed.ensures.fed (λ f.
    let k = f.2 start (record { fed = c.in_ok-parser.ensures.begun; keeps = c.in_ok-parser.ensures.keeps }) in
    IfOk-weaker c.finish.result _ _ (λ page is. (f.0, f.1, is start f.0 k.fed k.keeps)) c.finish.ensures.page))

pub returns-clause-end : goal.returns-clause-end
returns-clause-end g c = rw (c.and.ensures) (ended-on c.feed_from-fed.result c.finish.result _ c.feed_from-fed.ensures.end)

pub returns-clause-cause : goal.returns-clause-cause
returns-clause-cause g c =
    let start = start_for c.args.job.now c.args.table.now in
    rw (c.and.ensures) (ended-err c.feed_from-fed.result c.finish.result _ _ _
    (IfErr-weaker c.feed_from-fed.result _ _ (λ e cause. piece-read c.args.job.now c.args.table.now _ _ _ e
    (cause start (record { fed = c.in_ok-parser.ensures.begun; keeps = c.in_ok-parser.ensures.keeps }))) c.feed_from-fed.ensures.cause)
    c.feed_from-fed.ensures.fed c.feed_from-fed.ensures.end (λ f end.
    let k = f.2 start (record { fed = c.in_ok-parser.ensures.begun; keeps = c.in_ok-parser.ensures.keeps }) in
    IfErr-weaker c.finish.result _ _ (λ e cause. end-read c.args.job.now c.args.table.now _ _ _ e f.0 f.1 end (cause start f.0 k.fed)) c.finish.ensures.cause))

pub returns-clause-failing : goal.returns-clause-failing
returns-clause-failing g c = rw (c.and.ensures) (λ was now. ended-as c.feed_from-fed.result c.finish.result Read (c.feed_from-fed.ensures.failing now))

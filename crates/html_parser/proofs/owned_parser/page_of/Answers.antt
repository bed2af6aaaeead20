use Rattle.std.proofs.lemmas.Result.{IfErr-weaker, IfOk-weaker}
use Rattle.html_parser.proofs.Pausing.{enters, keeps_of, root_stable}
use Rattle.html_parser.proofs.Rewritten.{page-root}
use Rattle.html_parser.proofs.owned_parser.page_of.Goals as goal

pub returns-clause-page : goal.returns-clause-page
returns-clause-page c =
    let begun = enters c.args.table.now c.args.stages c.resume.result c.of-feeder.result c.of-feeder.ensures.stages c.of-feeder.ensures.going c.resume.ensures.read in
    IfOk-weaker c.finish.result _ _ (λ page is start bytes h was. is start bytes (begun start bytes h) (keeps_of c.args.stages c.resume.result c.of-feeder.result c.of-feeder.ensures.stages c.resume.ensures.kept was)) c.finish.ensures.page

pub returns-clause-cause : goal.returns-clause-cause
returns-clause-cause c =
    let begun = enters c.args.table.now c.args.stages c.resume.result c.of-feeder.result c.of-feeder.ensures.stages c.of-feeder.ensures.going c.resume.ensures.read in
    IfErr-weaker c.finish.result _ _ (λ e cause start bytes h. cause start bytes (begun start bytes h)) c.finish.ensures.cause

pub returns-clause-root : goal.returns-clause-root
returns-clause-root c =
    let begun = enters c.args.table.now c.args.stages c.resume.result c.of-feeder.result c.of-feeder.ensures.stages c.of-feeder.ensures.going c.resume.ensures.read in
    IfOk-weaker c.finish.result _ _
    (λ page is was. root_stable page.arena page.root
    (λ none. c.requires.going (λ start bytes h. none (page-root start bytes page (is start bytes (begun start bytes h) (keeps_of c.args.stages c.resume.result c.of-feeder.result c.of-feeder.ensures.stages c.resume.ensures.kept was))))))
    c.finish.ensures.page

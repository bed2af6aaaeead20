use Rattle.std.proofs.Common.{sym, subst}
use Rattle.std.proofs.lemmas.Result.{IfErr-weaker, IfOk-weaker}
use Rattle.html_parser.specs.Paused.{HavePaused, MayResume}
use Rattle.html_parser.proofs.owned_parser.OwnedParser.finish.Goals as goal

pub page_of-requires : goal.page_of-requires
page_of-requires c = record { going = subst (λ rows. MayResume rows c.in_ok-table.stages) (sym c.deref.ensures) c.in_ok-table.ensures.going }

pub returns-clause-cause : goal.returns-clause-cause
returns-clause-cause c = IfErr-weaker c.page_of.result _ _
    (λ e cause start bytes h. cause start bytes
    (subst (λ rows. HavePaused start rows c.in_ok-table.stages bytes) (sym c.deref.ensures) (c.in_ok-table.ensures.fed start bytes h)))
    c.page_of.ensures.cause

pub returns-clause-page : goal.returns-clause-page
returns-clause-page c = IfOk-weaker c.page_of.result _ _
    (λ page is start bytes h. is start bytes
    (subst (λ rows. HavePaused start rows c.in_ok-table.stages bytes) (sym c.deref.ensures) (c.in_ok-table.ensures.fed start bytes h))
    (c.in_ok-table.ensures.keeps (c.args.self.keeps c.in_ok-table.ensures.running)))
    c.page_of.ensures.page

pub returns-clause-root : goal.returns-clause-root
returns-clause-root c = IfOk-weaker c.page_of.result _ _
    (λ page is. is (c.in_ok-table.ensures.keeps (c.args.self.keeps c.in_ok-table.ensures.running)))
    c.page_of.ensures.root

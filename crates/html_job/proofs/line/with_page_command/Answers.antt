use Rattle.std.proofs.Common.{refl}
use Rattle.std.proofs.lemmas.Result.{IfOk-weaker}
use Rattle.html_job.proofs.Building.{is, subcommand_added}
use Rattle.html_job.proofs.line.with_page_command.Goals as goal

pub returns-clause-app : goal.returns-clause-app
returns-clause-app c =
    IfOk-weaker c.subcommand.result _ _ (λ r h. (subcommand_added _ _ r _ _ (is _ _ refl c.requires.local)
    (is _ _ c.in_ok-page_command.ensures.app c.in_ok-page_command.ensures.local) h).app) c.subcommand.ensures

pub returns-clause-local : goal.returns-clause-local
returns-clause-local c =
    IfOk-weaker c.subcommand.result _ _ (λ r h. (subcommand_added _ _ r _ _ (is _ _ refl c.requires.local)
    (is _ _ c.in_ok-page_command.ensures.app c.in_ok-page_command.ensures.local) h).local) c.subcommand.ensures

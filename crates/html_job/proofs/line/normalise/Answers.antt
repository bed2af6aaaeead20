use Rattle.std.proofs.lemmas.Result.{IfOk-weaker}
use Rattle.html_job.proofs.Building.{is, arg_added}
use Rattle.html_job.proofs.line.normalise.Goals as goal

pub returns-clause-app : goal.returns-clause-app
returns-clause-app c =
    IfOk-weaker c.arg.result _ _ (λ r h. (arg_added _ r _ _ _ (is _ _ c.in_ok-page_command.ensures.app c.in_ok-page_command.ensures.local) h c.text_option-profile.ensures.local c.text_option-profile.ensures.rule).app) c.arg.ensures

pub returns-clause-local : goal.returns-clause-local
returns-clause-local c =
    IfOk-weaker c.arg.result _ _ (λ r h. (arg_added _ r _ _ _ (is _ _ c.in_ok-page_command.ensures.app c.in_ok-page_command.ensures.local) h c.text_option-profile.ensures.local c.text_option-profile.ensures.rule).local) c.arg.ensures

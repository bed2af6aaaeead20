use Rattle.std.proofs.Common.{◌∙◌, ap}
use Rattle.std.specs.Prelude.{codes}
use Rattle.std.proofs.lemmas.Result.{IfOk-weaker}
use Rattle.clap.specs.Words.{App, Text, with_subcommand}
use Rattle.html_job.proofs.Building.{is, subcommand_added}
use Rattle.html_job.specs.Line.{line, page_app}
use Rattle.html_job.proofs.line.line.Goals as goal

abbrev with : Text → App → App
with name a = with_subcommand a (page_app name).top

pub returns-clause-app : goal.returns-clause-app
unfolding line
returns-clause-app c =
    let tree = c.in_ok-program.ensures.app ∙ ap (with (codes "tree")) c.empty_line-program.ensures.app in
    let errors = subcommand_added _ _ _ _ _ (is _ _ tree c.in_ok-program.ensures.local) (is _ _ c.in_ok-errors.ensures.app c.in_ok-errors.ensures.local) c.in_ok-program-2.ensures in
    let audit = c.in_ok-program-3.ensures.app ∙ ap (with (codes "audit")) errors.app in
    let normalise = subcommand_added _ _ _ _ _ (is _ _ audit c.in_ok-program-3.ensures.local) (is _ _ c.in_ok-normalise.ensures.app c.in_ok-normalise.ensures.local) c.in_ok-program-4.ensures in
    let counts = c.in_ok-program-5.ensures.app ∙ ap (with (codes "counts")) normalise.app in
    IfOk-weaker c.subcommand-3.result _ _ (λ r h. (subcommand_added _ _ r _ _ (is _ _ counts c.in_ok-program-5.ensures.local) (is _ _ c.in_ok-suite.ensures.app c.in_ok-suite.ensures.local) h).app) c.subcommand-3.ensures

use Rattle.std.proofs.Common.{[], subst}
use Rattle.html_parser.specs.Options.{IsBeginCause, start_of}
use Rattle.zilqumet_c.specs.Causes.{IsToldBy}
use Rattle.zilqumet_c.specs.Pieces.{IsFedIn}
use Rattle.zilqumet_c.specs.Reads.{rows_in}
use Rattle.zilqumet_c.proofs.pushing.proved_parser_new.Goals as goal

pub returns-clause-begun : goal.returns-clause-begun
returns-clause-begun c = λ is_ok.
    subst (λ o. IsFedIn (start_of (rows_in c.args.entities.now.value) o) c.begin.new.parser.value []) c.options_of.ensures (c.begin.ensures.begun is_ok)

pub returns-clause-cause : goal.returns-clause-cause
returns-clause-cause c = λ bad. subst (λ o. IsToldBy (IsBeginCause o) c.begin.result 0) c.options_of.ensures (c.begin.ensures.cause bad)

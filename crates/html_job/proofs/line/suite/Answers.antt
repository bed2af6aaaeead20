use Rattle.std.proofs.Common.{◌∙◌, ap}
use Rattle.std.proofs.lemmas.Result.{IfOk-weaker}
use Rattle.clap.specs.Simple.{app_of_fields}
use Rattle.html_job.proofs.Building.{Is, arg_added}
use Rattle.html_job.proofs.line.suite.Goals as goal

pub returns-clause-app : goal.returns-clause-app
returns-clause-app c =
    let named : Is c.after_help.result _ = record {
      app = ap app_of_fields c.after_help.ensures ∙ ap app_of_fields c.about.ensures ∙ c.new.ensures.app;
      local = ap (λ f. f.has_globals) c.after_help.ensures ∙ ap (λ f. f.has_globals) c.about.ensures ∙ c.new.ensures.local;
    } in
    let entities = arg_added _ _ _ _ _ named c.in_ok-arg.ensures c.entities.ensures.local c.entities.ensures.rule in
    let foreign = arg_added _ _ _ _ _ entities c.in_ok-arg-2.ensures c.foreign.ensures.local c.foreign.ensures.rule in
    let verbose = arg_added _ _ _ _ _ foreign c.in_ok-arg-3.ensures c.verbose.ensures.local c.verbose.ensures.rule in
    IfOk-weaker c.arg-4.result _ _ (λ r h. (arg_added _ r _ _ _ verbose h c.files.ensures.local c.files.ensures.rule).app) c.arg-4.ensures

pub returns-clause-local : goal.returns-clause-local
returns-clause-local c =
    let named : Is c.after_help.result _ = record {
      app = ap app_of_fields c.after_help.ensures ∙ ap app_of_fields c.about.ensures ∙ c.new.ensures.app;
      local = ap (λ f. f.has_globals) c.after_help.ensures ∙ ap (λ f. f.has_globals) c.about.ensures ∙ c.new.ensures.local;
    } in
    let entities = arg_added _ _ _ _ _ named c.in_ok-arg.ensures c.entities.ensures.local c.entities.ensures.rule in
    let foreign = arg_added _ _ _ _ _ entities c.in_ok-arg-2.ensures c.foreign.ensures.local c.foreign.ensures.rule in
    let verbose = arg_added _ _ _ _ _ foreign c.in_ok-arg-3.ensures c.verbose.ensures.local c.verbose.ensures.rule in
    IfOk-weaker c.arg-4.result _ _ (λ r h. (arg_added _ r _ _ _ verbose h c.files.ensures.local c.files.ensures.rule).local) c.arg-4.ensures

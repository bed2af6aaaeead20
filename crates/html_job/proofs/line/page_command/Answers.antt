use Rattle.std.proofs.Common.{◌∙◌, ap}
use Rattle.std.proofs.lemmas.Result.{IfOk-weaker}
use Rattle.clap.specs.Simple.{app_of_fields}
use Rattle.html_job.proofs.Building.{Is, arg_added}
use Rattle.html_job.proofs.line.page_command.Goals as goal

pub returns-clause-app : goal.returns-clause-app
returns-clause-app c =
    let named : Is c.after_help.result _ = record {
      app = ap app_of_fields c.after_help.ensures ∙ ap app_of_fields c.about.ensures ∙ c.new.ensures.app;
      local = ap (λ f. f.has_globals) c.after_help.ensures ∙ ap (λ f. f.has_globals) c.about.ensures ∙ c.new.ensures.local;
    } in
    let entities = arg_added _ _ _ _ _ named c.in_ok-arg.ensures c.entities.ensures.local c.entities.ensures.rule in
    let fragment = arg_added _ _ _ _ _ entities c.in_ok-arg-2.ensures c.fragment.ensures.local c.fragment.ensures.rule in
    let encoding = arg_added _ _ _ _ _ fragment c.in_ok-arg-3.ensures c.context_encoding.ensures.local c.context_encoding.ensures.rule in
    let foreign = arg_added _ _ _ _ _ encoding c.in_ok-arg-4.ensures c.foreign.ensures.local c.foreign.ensures.rule in
    let max_nodes = arg_added _ _ _ _ _ foreign c.in_ok-arg-5.ensures c.max_nodes.ensures.local c.max_nodes.ensures.rule in
    let max_held = arg_added _ _ _ _ _ max_nodes c.in_ok-arg-6.ensures c.max_held.ensures.local c.max_held.ensures.rule in
    let max_input = arg_added _ _ _ _ _ max_held c.in_ok-arg-7.ensures c.max_input.ensures.local c.max_input.ensures.rule in
    let max_steps = arg_added _ _ _ _ _ max_input c.in_ok-arg-8.ensures c.max_steps.ensures.local c.max_steps.ensures.rule in
    IfOk-weaker c.arg-9.result _ _ (λ r h. (arg_added _ r _ _ _ max_steps h c.inputs.ensures.local c.inputs.ensures.rule).app) c.arg-9.ensures

pub returns-clause-local : goal.returns-clause-local
returns-clause-local c =
    let named : Is c.after_help.result _ = record {
      app = ap app_of_fields c.after_help.ensures ∙ ap app_of_fields c.about.ensures ∙ c.new.ensures.app;
      local = ap (λ f. f.has_globals) c.after_help.ensures ∙ ap (λ f. f.has_globals) c.about.ensures ∙ c.new.ensures.local;
    } in
    let entities = arg_added _ _ _ _ _ named c.in_ok-arg.ensures c.entities.ensures.local c.entities.ensures.rule in
    let fragment = arg_added _ _ _ _ _ entities c.in_ok-arg-2.ensures c.fragment.ensures.local c.fragment.ensures.rule in
    let encoding = arg_added _ _ _ _ _ fragment c.in_ok-arg-3.ensures c.context_encoding.ensures.local c.context_encoding.ensures.rule in
    let foreign = arg_added _ _ _ _ _ encoding c.in_ok-arg-4.ensures c.foreign.ensures.local c.foreign.ensures.rule in
    let max_nodes = arg_added _ _ _ _ _ foreign c.in_ok-arg-5.ensures c.max_nodes.ensures.local c.max_nodes.ensures.rule in
    let max_held = arg_added _ _ _ _ _ max_nodes c.in_ok-arg-6.ensures c.max_held.ensures.local c.max_held.ensures.rule in
    let max_input = arg_added _ _ _ _ _ max_held c.in_ok-arg-7.ensures c.max_input.ensures.local c.max_input.ensures.rule in
    let max_steps = arg_added _ _ _ _ _ max_input c.in_ok-arg-8.ensures c.max_steps.ensures.local c.max_steps.ensures.rule in
    IfOk-weaker c.arg-9.result _ _ (λ r h. (arg_added _ r _ _ _ max_steps h c.inputs.ensures.local c.inputs.ensures.rule).local) c.arg-9.ensures

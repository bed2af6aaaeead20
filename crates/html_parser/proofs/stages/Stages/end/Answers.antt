use Rattle.std.proofs.Common.{◌++◌, ◌∙◌, Err, ap, true, refl, subst}
use Rattle.std.proofs.lemmas.Result.{err_from_is_err_and}
use Rattle.html_input.specs.Fed.{Fed as Decodes}
use Rattle.html_tokens.specs.Stream.{ended, fed}
use Rattle.html_input.proofs.Feeding.{Fed-all}
use Rattle.html_parser.specs.Start.{most_input}
use Rattle.html_parser.proofs.Feeds.{added_none, decoder_end_refused, end_cause, end_run, is_ended, never_stopped, steps_refused, tokenizer_end_refused, was_going}
use Rattle.html_parser.proofs.stages.Stages.end.Goals as goal

pub returns-in_err-finish-clause-cause : goal.returns-in_err-finish-clause-cause
returns-in_err-finish-clause-cause c =
    let p = err_from_is_err_and c.from_residual.result c.from_residual.ensures.1 in
    rw (p.1, p.2) (λ start bytes run r. decoder_end_refused start bytes c.in_err-finish.field-0.0
    (λ is. c.in_err-finish.ensures.too_long is (most_input start) bytes run.text r.decoded)
    (λ is. c.in_err-finish.ensures.running (most_input start) bytes run.text r.decoded (ap Err is)))

pub returns-in_err-feed-clause-cause : goal.returns-in_err-feed-clause-cause
returns-in_err-feed-clause-cause c =
    let p = err_from_is_err_and c.from_residual-in_err-feed.result c.from_residual-in_err-feed.ensures.1 in
    rw (p.1, p.2) (λ start bytes run r. tokenizer_end_refused start bytes c.in_err-feed.field-0.0
    (never_stopped start bytes run c.args.self.now c.feed.result c.in_err-feed.field-0.0 r c.in_err-feed.was c.feed.ensures.stopped))

pub returns-in_err-finish-2-clause-cause : goal.returns-in_err-finish-2-clause-cause
returns-in_err-finish-2-clause-cause c =
    let p = err_from_is_err_and c.from_residual-in_err-finish-2.result c.from_residual-in_err-finish-2.ensures.1 in
    rw (p.1, p.2) (λ start bytes run r. tokenizer_end_refused start bytes c.in_err-finish-2.field-0.0
    (λ is. was_going c.finish-2.result c.in_err-finish-2.field-0.0 c.feed.new.self c.in_ok-feed.ensures.ok c.in_err-finish-2.was c.finish-2.ensures.stopped is))

pub returns-in_err-hand_on-clause-cause : goal.returns-in_err-hand_on-clause-cause
returns-in_err-hand_on-clause-cause c =
    let p = err_from_is_err_and c.from_residual-in_err-hand_on.result c.from_residual-in_err-hand_on.ensures.1 in
    rw (p.1, p.2) (λ start bytes run r.
    let is = end_run start bytes c.as_slice.result.now run c.args.self.now _ (record {
      decodes = λ limit bytes before d. subst (λ t. Decodes limit true c.finish.new.self bytes (before ++ t))
          (added_none _ c.finish.new.out.items c.as_slice.result.now c.clear.ensures.items c.as_slice.ensures.value c.finish.ensures.kept)
          (c.in_ok-finish.ensures.fed limit bytes before d);
      given = λ run f. c.in_ok-finish-2.ensures.ended (fed run c.as_slice.result.now) (c.in_ok-feed.ensures.fed run f);
      builder = refl;
      kept = refl;
      running = c.finish-2.ensures.same ∙ c.in_ok-feed.ensures.ok;
    }) r in
    end_cause start bytes (run.text ++ c.as_slice.result.now) _ (Fed-all is.decoded).0
    (c.in_err-hand_on.ensures.cause start true bytes (ended (fed run c.as_slice.result.now)) is))

pub returns-in_err-check_steps-clause-cause : goal.returns-in_err-check_steps-clause-cause
returns-in_err-check_steps-clause-cause c =
    let p = err_from_is_err_and c.from_residual-in_err-check_steps.result c.from_residual-in_err-check_steps.ensures.1 in
    rw (p.1, p.2) (λ start bytes run r. steps_refused start c.hand_on.new.self bytes (run.text ++ c.as_slice.result.now) c.in_err-check_steps.field-0.0
    (c.in_ok-hand_on.ensures.handed start true bytes (ended (fed run c.as_slice.result.now))
    (end_run start bytes c.as_slice.result.now run c.args.self.now _ (record {
      decodes = λ limit bytes before d. subst (λ t. Decodes limit true c.finish.new.self bytes (before ++ t))
          (added_none _ c.finish.new.out.items c.as_slice.result.now c.clear.ensures.items c.as_slice.ensures.value c.finish.ensures.kept)
          (c.in_ok-finish.ensures.fed limit bytes before d);
      given = λ run f. c.in_ok-finish-2.ensures.ended (fed run c.as_slice.result.now) (c.in_ok-feed.ensures.fed run f);
      builder = refl;
      kept = refl;
      running = c.finish-2.ensures.same ∙ c.in_ok-feed.ensures.ok;
    }) r))
    c.in_err-check_steps.ensures.cause)

pub returns-clause-ended : goal.returns-clause-ended
returns-clause-ended c = λ start bytes run r. is_ended start _ bytes (run.text ++ c.as_slice.result.now) c.in_ok-check_steps.ensures.few
    (c.in_ok-hand_on.ensures.handed start true bytes (ended (fed run c.as_slice.result.now))
    (end_run start bytes c.as_slice.result.now run c.args.self.now _ (record {
      decodes = λ limit bytes before d. subst (λ t. Decodes limit true c.finish.new.self bytes (before ++ t))
          (added_none _ c.finish.new.out.items c.as_slice.result.now c.clear.ensures.items c.as_slice.ensures.value c.finish.ensures.kept)
          (c.in_ok-finish.ensures.fed limit bytes before d);
      given = λ run f. c.in_ok-finish-2.ensures.ended (fed run c.as_slice.result.now) (c.in_ok-feed.ensures.fed run f);
      builder = refl;
      kept = refl;
      running = c.finish-2.ensures.same ∙ c.in_ok-feed.ensures.ok;
    }) r))

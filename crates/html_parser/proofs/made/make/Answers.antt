use Rattle.std.proofs.Common.{refl, subst, sym}
use Rattle.html_tokens.specs.Given.{steps_taken}
use Rattle.html_builder.specs.Outcome.{IsOutcome}
use Rattle.html_parser.proofs.Making.{Ended, made}
use Rattle.html_parser.proofs.made.make.Goals as goal

pub returns : goal.returns
returns c =
    let ended : Ended c.args.decoder.now c.args.tokenizer.now c.args.builder c.args.starts.now c.errors.result.now c.as_slice.result.now c.finish-arena.result.1
    c.finish-arena.result.0 c.in_ok-errors.errors.items c.count-n.result (steps_taken c.args.tokenizer.now) c.all_steps-steps.result
    = record {
      count = c.count-n.ensures.count;
      text = c.count-n.ensures.text;
      in_limit = c.count-n.ensures.within;
      fates_are = c.finish-arena.ensures.fates;
      outcome = λ s l tokens h ends.
          subst (λ ns. IsOutcome s tokens c.finish-arena.result.1 ns c.finish-arena.result.0) (sym c.as_slice.ensures.value)
          (c.finish-arena.ensures.outcome s l tokens h ends);
      plain = c.finish-arena.ensures.plain;
      native = c.finish-arena.ensures.native;
      tree_is = c.finish-arena.ensures.tree;
      plain_fates = c.finish-arena.ensures.plain_fates;
      within = c.finish-arena.ensures.within;
      own_is = refl;
      arena_steps = c.finish-arena.ensures.steps;
      bounds = c.finish-arena.ensures.bounds;
      told_is = c.errors.ensures.list;
      told_ordered = c.errors.ensures.ordered;
      told_few = c.errors.ensures.bound;
      fed = c.errors.ensures.count;
      of_text = c.errors.ensures.whole;
      errors_are = c.in_ok-errors.ensures.list;
      own_least = c.all_steps-steps.ensures.least;
      own_few = c.all_steps-steps.ensures.few;
      steps_are = c.all_steps-steps.ensures.sum;
    } in
    record {
      made = λ start bytes run w. made start bytes run _ _ _ _ _ _ _ _ _ _ _ _ ended w;
    }

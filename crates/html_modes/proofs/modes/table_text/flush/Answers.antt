use Rattle.std.proofs.Common.{arith, ◌≡◌, ◌+◌, ◌∷◌, ◌++◌, ◌∙◌, [], ap, drop, length, take, refl, sym, subst}
use Rattle.std.specs.List.{list_all}
use Rattle.std.proofs.lemmas.Grind.{common_steps}
use Rattle.std.proofs.lemmas.List.{drop_more, take_more}
use Rattle.std.proofs.Math.Seq.{drop-length, take-length}
use Rattle.std.proofs.lemmas.Result.{err_from_is_err_and}
use Rattle.html_construction.proofs.Telling.{released-refused}
use Rattle.html_construction.specs.Budgets.{RefusesAny}
use Rattle.html_construction.specs.Built.{TakesRun}
use Rattle.html_construction.specs.Plans.{Each, Runs, ends_each}
use Rattle.html_construction.specs.Words.{is_null_or_space}
use Rattle.html_modes.specs.Rules.{plan}
use Rattle.html_modes.proofs.RulesInTableText.{each-settled, flushed, kept_plan}
use Rattle.html_modes.proofs.Handing.{run-none, run-next, run-refused, run-released}
use Rattle.html_modes.proofs.Settled.{Counts-kept, Counts-taken, Spends-kept}
use Rattle.html_modes.proofs.modes.table_text.flush.Goals as goal

pub flushing-init : goal.flushing-init
flushing-init c = record {
  rest = refl;
  run = run-none c.take_kept-kept.new.self;
  lighter = omega arith;
  opened = grind (arith, common_steps);
  quiet = c.take_kept-kept.ensures.quiet;
  listed = grind (arith, common_steps);
  spends = (omega arith, (omega arith, omega arith));
  counts = (omega arith, (omega arith, (omega arith, omega arith)));
  follows = λ t p e z h. h;
}

pub flushing-preserved : goal.flushing-preserved
flushing-preserved c =
    let one : take (c.flushing.c-index + 1) c.deref-c-items.result.now ≡ take c.flushing.c-index c.deref-c-items.result.now ++ c.c-item.result ∷ [] = grind (arith, common_steps, take_more) in
    let next : drop c.flushing.c-index c.deref-c-items.result.now ≡ c.c-item.result ∷ drop (c.flushing.c-index + 1) c.deref-c-items.result.now = grind (arith, common_steps, drop_more) in
    record {
      rest = grind (arith, common_steps);
      run = subst (λ cs. TakesRun cs c.take_kept-kept.new.self c.settle_kept.new.page) (sym one)
          (run-next (take c.flushing.c-index c.deref-c-items.result.now) c.c-item.result c.take_kept-kept.new.self c.flushing.page c.settle_kept.new.page c.flushing.invariant.run c.in_ok-settle_kept.ensures.takes);
      lighter = grind (arith, common_steps);
      opened = c.in_ok-settle_kept.ensures.opened;
      quiet = c.in_ok-settle_kept.ensures.quiet;
      listed = grind (arith, common_steps);
      spends = Spends-kept c.take_kept-kept.new.self c.flushing.page c.settle_kept.new.page c.flushing.invariant.spends c.in_ok-settle_kept.ensures.grown;
      follows = λ t p e z h. c.flushing.invariant.follows t p e z (subst (λ cs. Runs plan (Each cs (kept_plan c.are_kept_spaces-stays.result) p) t c.flushing.page e z) (sym next)
          (each-settled (kept_plan c.are_kept_spaces-stays.result) p c.c-item.result (drop (c.flushing.c-index + 1) c.deref-c-items.result.now) t c.flushing.page c.settle_kept.new.page e z c.in_ok-settle_kept.ensures.follows h));
      counts = Counts-kept c.take_kept-kept.new.self c.flushing.page c.settle_kept.new.page c.flushing.invariant.counts c.in_ok-settle_kept.ensures.grown c.in_ok-settle_kept.ensures.works;
    }

pub returns-clause-keeps : goal.returns-clause-keeps
returns-clause-keeps c =
    let whole : c.flushing.c-index ≡ length c.deref-c-items.result.now = grind (arith, common_steps) in
    let kept : c.deref-c-items.result.now ≡ c.take_kept-kept.result.items = grind (arith, common_steps) in
    let all : take c.flushing.c-index c.deref-c-items.result.now ≡ c.take_kept-kept.result.items = rw (whole, take-length) kept in
    run-released c.take_kept-kept.result.items c.args.page.now c.take_kept-kept.new.self c.flushing.page c.take_kept-kept.ensures.releases
    (subst (λ cs. TakesRun cs c.take_kept-kept.new.self c.flushing.page) all c.flushing.invariant.run)

pub returns-clause-spends : goal.returns-clause-spends
returns-clause-spends c =
    let same : length c.take_kept-kept.new.self.ledger.fates ≡ length c.args.page.now.ledger.fates = grind (arith, common_steps) in
    rw (sym same) (grind (arith, common_steps))

pub returns-clause-counts : goal.returns-clause-counts
returns-clause-counts c = Counts-taken c.args.page.now c.take_kept-kept.new.self c.flushing.page c.take_kept-kept.ensures.grown c.take_kept-kept.ensures.works c.flushing.invariant.counts

pub returns-in_err-settle_kept-clause-refuses : goal.returns-in_err-settle_kept-clause-refuses
returns-in_err-settle_kept-clause-refuses c =
    let p = err_from_is_err_and c.from_residual.result c.from_residual.ensures.1 in
    rw p.1 (subst (λ e. RefusesAny e c.args.page.now c.settle_kept.new.page) (sym p.2)
    (released-refused c.take_kept-kept.result.items c.args.page.now c.take_kept-kept.new.self c.settle_kept.new.page c.in_err-settle_kept.field-0.0 c.take_kept-kept.ensures.releases
    (run-refused (take c.flushing.c-index c.deref-c-items.result.now) c.take_kept-kept.new.self c.flushing.page c.settle_kept.new.page c.in_err-settle_kept.field-0.0 c.flushing.invariant.run c.in_err-settle_kept.ensures.refuses)))

pub returns-clause-follows : goal.returns-clause-follows
returns-clause-follows c = λ t p e z h.
    let whole : c.flushing.c-index ≡ length c.deref-c-items.result.now = grind (arith, common_steps) in
    let none : drop c.flushing.c-index c.deref-c-items.result.now ≡ [] = rw (whole) (drop-length c.deref-c-items.result.now) in
    flushed c.are_kept_spaces-stays.result c.deref-c-items.result.now p t c.args.page.now c.take_kept-kept.new.self e z
    (c.are_kept_spaces-stays.ensures ∙ ap (list_all is_null_or_space) (c.deref.ensures.value ∙ c.take_kept-kept.ensures.taken)) (c.deref-c-items.ensures.value ∙ c.take_kept-kept.ensures.taken) c.take_kept-kept.ensures.exact
    (c.flushing.invariant.follows t p e z (subst (λ cs. Runs plan (Each cs (kept_plan c.are_kept_spaces-stays.result) p) t c.flushing.page e z) (sym none) (ends_each (kept_plan c.are_kept_spaces-stays.result) p t c.flushing.page e z h)))

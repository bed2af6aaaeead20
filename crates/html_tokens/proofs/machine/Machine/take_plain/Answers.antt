use Rattle.std.proofs.Common.{◌+◌, refl, ◌∙◌, arith}
use Rattle.html_tokens.specs.Fed.{Passes}
use Rattle.html_tokens.specs.declared.machine.Machine.{Machine}
use Rattle.html_tokens.specs.declared.machine.State.TheVariants.{Text}
use Rattle.html_tokens.specs.declared.token.Region.TheVariants.{Plain}
use Rattle.html_tokens.proofs.Cuts.{shorter}
use Rattle.html_tokens.proofs.StepLemmas.{passes_length}
use Rattle.html_tokens.proofs.BoundLemmas.{plain_bounded, run_bounded}
use Rattle.html_tokens.proofs.RunLemmas.{HasTaken, taken_none, taken_more, taken_run, passes_one}
use Rattle.html_tokens.proofs.machine.Machine.take_plain.Goals as goal

pub taking-init : goal.taking-init
taking-init c =
    let now = c.args.self.now in
    let new = c.take_clean.new.self in
    let n = c.in_ok-take_clean.field-0 in
    let e = c.in_ok-take_clean.ensures in
    record {
      taken = rw e.text (taken_run n now now new c.args.faults.now c.args.faults.now c.args.out.now.items c.args.out.now.items (taken_none now c.args.faults.now c.args.out.now.items c.requires.state) e.fit e.plain e.passes);
      mode = refl;
      count = passes_length now new n _ e.passes e.fit;
      finished = e.passes.finished;
      bounded = λ b. run_bounded now new n c.args.faults.now c.requires.state e.passes b;
    }

pub taking-preserved : goal.taking-preserved
taking-preserved c =
    let start = c.args.self.now in
    let now = c.taking.self in
    let first = c.in-Some.ensures.1 in
    let items = c.take_plain.new.self.queue.items in
    let state = c.taking.invariant.taken.state in
    let mid : Machine = record now { input = c.take_plain.new.self; place = now.place + 1 } in
    let passes : Passes now 1 (Text Plain) mid = passes_one now mid c.in-Some.c items first refl c.in-Some.ensures.2 refl refl refl refl refl state in
    let pushed : HasTaken start mid c.args.faults.now c.text_char.new.self c.args.out.now.items c.push.new.self.items =
    rw c.in_ok-push.ensures.items (taken_more start now mid c.args.faults.now c.taking.faults c.text_char.new.self c.args.out.now.items c.taking.out.items c.in-Some.c items c.taking.invariant.taken (rw c.taking.invariant.mode at c.in-Some.ensures.0) first passes c.text_char.ensures.opens) in
    let new = c.take_clean-in-Some.new.self in
    let n = c.in_ok-take_clean-2.field-0 in
    let e = c.in_ok-take_clean-2.ensures in
    let whole = passes_length mid new n _ e.passes e.fit in
    record {
      taken = rw e.text (taken_run n start mid new c.args.faults.now c.text_char.new.self c.args.out.now.items c.push.new.self.items pushed e.fit e.plain e.passes);
      mode = refl;
      count = omega (arith, shorter now.input.queue.items items c.in-Some.c first, c.taking.invariant.count, whole);
      finished = e.passes.finished ∙ c.in-Some.ensures.2 ∙ c.taking.invariant.finished;
      bounded = λ b. run_bounded mid new n c.text_char.new.self state e.passes (plain_bounded now mid c.taking.faults c.text_char.new.self state passes c.text_char.ensures.told (c.taking.invariant.bounded b));
    }

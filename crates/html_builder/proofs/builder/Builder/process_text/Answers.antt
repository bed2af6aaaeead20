use Rattle.std.proofs.Common.{arith, ◌≡◌, ◌+◌, ◌-◌, ◌<◌, ◌≤◌, ◌++◌, length, take, drop, sym, subst, ap, ◌∙◌, length-drop}
use Rattle.std.proofs.lemmas.Grind.{common_steps}
use Rattle.std.proofs.lemmas.List.{take_rest}
use Rattle.std.proofs.lemmas.Result.{err_from_is_err_and}
use Rattle.std.proofs.Math.Seq.{take-add, take-length}
use Rattle.html_construction.specs.Built.{chars_of}
use Rattle.html_builder.specs.Errors.{IsTextTold}
use Rattle.html_builder.specs.Handed.{CountsEach, HandsIn, IsTextCause, LeadsTo, fates_of}
use Rattle.html_builder.proofs.Handing.{added-then, counts-then, enters-then, gives-then, handed-then, leads-then, take-one, text-cause-part}
use Rattle.html_builder.proofs.builder.Builder.process_text.Goals as goal

pub taking-preserved : goal.taking-preserved
taking-preserved c =
    let piece : HandsIn (chars_of (take c.in_ok-count.count (drop c.taking.taken c.args.text.now))) c.taking.self c.process_front.new.self =
    subst (λ cs. HandsIn (chars_of (take c.in_ok-count.count cs)) c.taking.self c.process_front.new.self) (take_rest c.args.text.now c.taking.taken) c.in_ok-count.ensures.takes in
    let short : length (take (length c.args.text.now - c.taking.taken) (drop c.taking.taken c.args.text.now)) ≡ length c.args.text.now - c.taking.taken =
    ap (λ cs. length cs) (take_rest c.args.text.now c.taking.taken) ∙ length-drop c.taking.taken c.args.text.now in
    let count : c.in_ok-count.count ≤ length c.args.text.now - c.taking.taken = subst (λ n. c.in_ok-count.count ≤ n) short c.in_ok-count.ensures.count.1 in
    record {
      takes = subst (λ cs. HandsIn (chars_of cs) c.args.self.now c.process_front.new.self) (sym (take-add c.taking.taken c.in_ok-count.count c.args.text.now))
          (handed-then (take c.taking.taken c.args.text.now) (take c.in_ok-count.count (drop c.taking.taken c.args.text.now)) c.args.self.now c.taking.self c.process_front.new.self c.taking.invariant.takes piece);
      leads = subst (λ cs. LeadsTo (chars_of cs) c.args.self.now c.process_front.new.self) (sym (take-add c.taking.taken c.in_ok-count.count c.args.text.now))
          (leads-then (take c.taking.taken c.args.text.now) (take c.in_ok-count.count (drop c.taking.taken c.args.text.now)) c.args.self.now c.taking.self c.process_front.new.self c.taking.invariant.leads
          (subst (λ cs. LeadsTo (chars_of (take c.in_ok-count.count cs)) c.taking.self c.process_front.new.self) (take_rest c.args.text.now c.taking.taken) c.in_ok-count.ensures.leads));
      counts = subst (λ cs. CountsEach cs c.args.self.now c.process_front.new.self) (sym (take-add c.taking.taken c.in_ok-count.count c.args.text.now))
          (counts-then (take c.taking.taken c.args.text.now) (take c.in_ok-count.count (drop c.taking.taken c.args.text.now)) c.args.self.now c.taking.self c.process_front.new.self c.taking.invariant.counts
          (subst (λ cs. CountsEach (take c.in_ok-count.count cs) c.taking.self c.process_front.new.self) (take_rest c.args.text.now c.taking.taken) c.in_ok-count.ensures.counts));
      grows = added-then (take c.taking.taken c.args.text.now) c.args.self.now c.taking.self c.process_front.new.self c.taking.invariant.takes c.taking.invariant.grows c.in_ok-count.ensures.grows;
      gives = gives-then (take c.taking.taken c.args.text.now) c.args.self.now c.taking.self c.process_front.new.self c.taking.invariant.takes c.taking.invariant.enters c.taking.invariant.gives c.in_ok-count.ensures.gives;
      enters = enters-then c.args.self.now c.taking.self c.process_front.new.self c.taking.invariant.enters c.in_ok-count.ensures.enters;
      stopped = c.in_ok-count.ensures.ok ∙ sym c.in_ok-count.ensures.ready ∙ c.taking.invariant.stopped;
      parses = c.in_ok-count.ensures.parses ∙ c.taking.invariant.parses;
      ready = λ k. sym c.taking.invariant.stopped ∙ c.in_ok-count.ensures.ready;
      most = omega (arith, count, c.taking.invariant.most);
    }

pub returns-clause-takes : goal.returns-clause-takes
returns-clause-takes c =
    let whole : c.taking.taken ≡ length c.args.text.now = grind (arith, common_steps) in
    subst (λ cs. HandsIn (chars_of cs) c.args.self.now c.taking.self) (ap (λ n. take n c.args.text.now) whole ∙ take-length c.args.text.now) c.taking.invariant.takes

pub returns-clause-leads : goal.returns-clause-leads
returns-clause-leads c =
    let whole : c.taking.taken ≡ length c.args.text.now = grind (arith, common_steps) in
    subst (λ cs. LeadsTo (chars_of cs) c.args.self.now c.taking.self) (ap (λ n. take n c.args.text.now) whole ∙ take-length c.args.text.now) c.taking.invariant.leads

pub returns-clause-counts : goal.returns-clause-counts
returns-clause-counts c =
    let whole : c.taking.taken ≡ length c.args.text.now = grind (arith, common_steps) in
    subst (λ cs. CountsEach cs c.args.self.now c.taking.self) (ap (λ n. take n c.args.text.now) whole ∙ take-length c.args.text.now) c.taking.invariant.counts

pub returns-in_err-count-clause-cause : goal.returns-in_err-count-clause-cause
returns-in_err-count-clause-cause c =
    let p = err_from_is_err_and c.from_residual.result c.from_residual.ensures.1 in
    let low : c.args.start ≤ c.saturating_add-at.result = grind (arith, common_steps) in
    let high : c.saturating_add-at.result ≤ c.args.start + c.taking.taken = grind (arith, common_steps) in
    let one : length (take 1 (drop c.taking.taken c.args.text.now)) ≤ 1 = take-one (drop c.taking.taken c.args.text.now) in
    let more : c.taking.taken < length c.args.text.now = grind (arith, common_steps) in
    rw p.1 (λ s l ts h. subst (λ e. IsTextCause s l ts (fates_of c.args.self.now) c.args.text.now c.args.start e) (sym p.2)
    (text-cause-part s l ts (ts ++ chars_of (take c.taking.taken c.args.text.now)) (fates_of c.args.self.now) (fates_of c.taking.self) c.args.text.now (take 1 (drop c.taking.taken c.args.text.now))
    c.args.start c.saturating_add-at.result c.in_err-count.field-0.0 low (omega (arith, high, one, more))
    (subst (λ cs. IsTextCause s l (ts ++ chars_of (take c.taking.taken c.args.text.now)) (fates_of c.taking.self) (take 1 cs) c.saturating_add-at.result c.in_err-count.field-0.0) (take_rest c.args.text.now c.taking.taken)
    (c.in_err-count.ensures.cause s l (ts ++ chars_of (take c.taking.taken c.args.text.now)) (c.taking.invariant.takes s l ts h)))))

pub returns-in_err-count-clause-told : goal.returns-in_err-count-clause-told
returns-in_err-count-clause-told c =
    let p = err_from_is_err_and c.from_residual.result c.from_residual.ensures.1 in
    rw p.1 (λ s l ts h. subst (λ e. IsTextTold l c.process_front.new.self.page e) (sym p.2) (c.in_err-count.ensures.told s l (ts ++ chars_of (take c.taking.taken c.args.text.now)) (c.taking.invariant.takes s l ts h)))

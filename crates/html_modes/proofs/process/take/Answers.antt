use Rattle.std.proofs.Common.{◌≡◌, ap, arith, false, inl, inr, length, subst, sym, ◌∙◌}
use Rattle.html_open.proofs.Keeps.{cases_bool}
use Rattle.html_construction.specs.States.{State}
use Rattle.html_modes.specs.Dispatching.{Entries, IsEntry, begun, last, next}
use Rattle.html_modes.specs.Entering.{Enters}
use Rattle.html_modes.specs.Steps.{Steps, Toils, compared}
use Rattle.html_modes.proofs.Dispatching.{counted-becomes}
use Rattle.html_modes.proofs.Entering.{enters-done, enters-next}
use Rattle.html_modes.proofs.Settled.{Entered, entered-next, toils-done}
use Rattle.html_modes.proofs.Outside.{entries-outside, entry-parses, first-entry}
use Rattle.html_modes.proofs.Plain.{IsAlike, alike-begun, alike-counted, alike-then, goes-not, goes-on, next-alike}
use Rattle.html_modes.proofs.RawText.{ends-done, leaving-on}
use Rattle.html_modes.proofs.TextAlone.{entries-add, entries-open}
use Rattle.html_modes.specs.Begun.{ignores_foreign}
use Rattle.html_modes.proofs.Begun.{accepts-done, accepts-gives, began-own, begins-root, begun-refuses, done-foreign, done-not, founded-begun}
use Rattle.html_modes.proofs.process.take.Goals as goal

pub steps-preserved : goal.steps-preserved
steps-preserved c =
    let i = c.steps.invariant in
    let before : Entered c.args.symbol c.begin_call.new.self c.steps.page = (i.nodes, (i.clones, (i.implied, (i.reach, (i.toll, (i.counts, (i.fates, i.falls))))))) in
    let e = entered-next c.in_ok-step.field-0 c.args.symbol c.args.token.now c.begin_call.new.self c.steps.page c.count_steps.new.self c.step.new.page c.in-Reprocess.is c.count_steps.ensures.rest c.count_steps.ensures.grown c.count_steps.ensures.works
    c.in_ok-step.ensures.spends c.in_ok-step.ensures.counts c.in_ok-step.ensures.falls before in
    record {
      fits = c.in_ok-step.ensures.fits;
      parses = (entry-parses c.in_ok-step.field-0 c.args.symbol c.args.token.now c.count_steps.new.self c.step.new.page c.in_ok-step.ensures.entry) ∙ ap (λ (x : State). x.parses_foreign) c.count_steps.ensures.rest ∙ i.parses;
      keeps = λ h w. (subst (λ o. Steps o c.args.token.now c.count_steps.new.self c.step.new.page) c.in-Reprocess.is c.in_ok-step.ensures.takes) h (c.count_steps.ensures.keeps h (i.keeps h w));
      first = λ k w z. absurd (
          done-not c.in_ok-step.field-0
          (first-entry c.begin_call.new.self c.steps.page c.count_steps.new.self c.step.new.page c.in_ok-step.field-0 c.args.symbol c.args.token.now c.requires.symbol i.first c.count_steps.ensures.rest
          (began-own c.args.page.now c.begin_call.new.self _ _ c.begin_call.ensures.rest) c.in_ok-step.ensures.entry k w z)
          c.in-Reprocess.is
          );
      nodes = e.0;
      clones = e.1.0;
      implied = e.1.1.0;
      reach = e.1.1.1.0;
      toll = e.1.1.1.1.0;
      counts = e.1.1.1.1.1.0;
      fates = e.1.1.1.1.1.1.0;
      entered = enters-next c.in_ok-step.field-0 c.args.symbol c.begin_call.new.self c.steps.page c.count_steps.new.self c.step.new.page c.args.entries.now c.steps.entries c.saturating_add.result c.in-Reprocess.is
          c.count_steps.ensures.rest c.in_ok-step.ensures.falls (let k = c.saturating_add.ensures in omega (arith, k)) i.entered;
      run = λ z k. i.run z (
          next c.steps.page c.count_steps.new.self c.step.new.page z (counted-becomes c.steps.page c.count_steps.new.self c.count_steps.ensures.rest c.count_steps.ensures.same)
          (subst (λ o. IsEntry o c.args.symbol c.args.token.now c.count_steps.new.self c.step.new.page) c.in-Reprocess.is c.in_ok-step.ensures.entry) k
          );
      falls = e.1.1.1.1.1.1.1;
      ends = leaving-on c.in_ok-step.field-0 c.args.symbol c.args.token.now c.begin_call.new.self c.steps.page c.count_steps.new.self c.step.new.page c.in-Reprocess.is i.ends
          (alike-counted c.steps.page c.count_steps.new.self c.count_steps.ensures.rest c.count_steps.ensures.same) (λ h w. c.count_steps.ensures.keeps h (i.keeps h w)) c.count_steps.ensures.keeps c.in_ok-step.ensures.ends c.in_ok-step.ensures.takes;
      plain = λ h. absurd (
          goes-not c.in_ok-step.field-0 c.args.symbol c.args.token.now c.begin_call.new.self c.count_steps.new.self c.step.new.page c.in-Reprocess.is
          (alike-then c.begin_call.new.self c.steps.page c.count_steps.new.self (i.plain h) (alike-counted c.steps.page c.count_steps.new.self c.count_steps.ensures.rest c.count_steps.ensures.same))
          c.in_ok-step.ensures.plain h
          );
    }

pub returns-in-Done-clause-toils : goal.returns-in-Done-clause-toils
returns-in-Done-clause-toils c = λ n.
    let i = c.steps.invariant in
    let before : Entered c.args.symbol c.begin_call.new.self c.steps.page = (i.nodes, (i.clones, (i.implied, (i.reach, (i.toll, (i.counts, (i.fates, i.falls))))))) in
    subst (λ (x : State). Toils (compared c.args.token.now c.settle.new.page) x c.settle.new.page) c.begin_call.ensures.rest
    (toils-done c.in_ok-step.field-0 c.args.symbol c.args.token.now c.begin_call.new.self c.steps.page c.count_steps.new.self c.step.new.page c.settle.new.page c.in-Done.is c.count_steps.ensures.rest c.count_steps.ensures.works
    c.in_ok-step.ensures.counts c.in_ok-step.ensures.falls c.settle.ensures.rest c.settle.ensures.top before)

pub returns-in-Done-clause-enters : goal.returns-in-Done-clause-enters
returns-in-Done-clause-enters c = λ n.
    subst (λ (x : State). Enters 1 c.args.entries.now c.saturating_add.result x c.settle.new.page) c.begin_call.ensures.rest
    (enters-done c.in_ok-step.field-0 c.args.symbol c.begin_call.new.self c.steps.page c.count_steps.new.self c.step.new.page c.settle.new.page c.args.entries.now c.steps.entries c.saturating_add.result c.in-Done.is
    c.count_steps.ensures.rest c.in_ok-step.ensures.falls c.settle.ensures.rest c.settle.ensures.top (let k = c.saturating_add.ensures in omega (arith, k)) c.steps.invariant.entered)

pub returns-in-Done-clause-plain : goal.returns-in-Done-clause-plain
returns-in-Done-clause-plain c = λ n h.
    let begun : IsAlike c.args.page.now c.begin_call.new.self = alike-begun c.args.page.now c.begin_call.new.self c.args.page.now.mode (length c.args.page.now.stack) (length c.args.page.now.tree.tree.labels) c.begin_call.ensures.rest in
    let sofar : IsAlike c.args.page.now c.steps.page = alike-then c.args.page.now c.begin_call.new.self c.steps.page begun (c.steps.invariant.plain (next-alike c.args.symbol c.args.token.now c.args.page.now c.begin_call.new.self begun h)) in
    let before : IsAlike c.args.page.now c.count_steps.new.self = alike-then c.args.page.now c.steps.page c.count_steps.new.self sofar (alike-counted c.steps.page c.count_steps.new.self c.count_steps.ensures.rest c.count_steps.ensures.same) in
    goes-on c.in_ok-step.field-0 c.args.symbol c.args.token.now c.args.page.now c.count_steps.new.self c.step.new.page c.settle.new.page c.in-Done.is before c.in_ok-step.ensures.plain c.settle.ensures.same
    c.laws.ensures.sound c.laws.ensures.tags h

pub returns-in-Done-clause-entries : goal.returns-in-Done-clause-entries
returns-in-Done-clause-entries c = λ n.
    subst (λ (x : State). Entries c.args.symbol c.args.token.now x c.settle.new.page) c.begin_call.ensures.rest (
    c.steps.invariant.run c.settle.new.page (
    last c.steps.page c.count_steps.new.self c.step.new.page c.settle.new.page (counted-becomes c.steps.page c.count_steps.new.self c.count_steps.ensures.rest c.count_steps.ensures.same)
    (subst (λ o. IsEntry o c.args.symbol c.args.token.now c.count_steps.new.self c.step.new.page) c.in-Done.is c.in_ok-step.ensures.entry) c.settle.ensures.settled
    )
    )

pub returns-in-Done-clause-opens : goal.returns-in-Done-clause-opens
returns-in-Done-clause-opens c = λ n. entries-open c.args.symbol c.args.token.now (begun c.args.page.now) c.settle.new.page c.requires.symbol c.forest.ensures.forest (returns-in-Done-clause-entries c n)

pub returns-in-Done-clause-adds : goal.returns-in-Done-clause-adds
returns-in-Done-clause-adds c = λ n. entries-add c.args.symbol c.args.token.now c.args.page.now c.settle.new.page c.requires.symbol (returns-in-Done-clause-entries c n)

pub returns-in-Done-clause-out : goal.returns-in-Done-clause-out
returns-in-Done-clause-out c = λ n. record { out = λ p. entries-outside c.args.symbol c.args.token.now (begun c.args.page.now) c.settle.new.page c.requires.symbol p (returns-in-Done-clause-entries c n) }

pub returns-in-Done-clause-ends : goal.returns-in-Done-clause-ends
returns-in-Done-clause-ends c = λ n.
    ends-done c.in_ok-step.field-0 c.args.symbol c.args.token.now c.args.page.now c.begin_call.new.self c.steps.page c.count_steps.new.self c.step.new.page c.settle.new.page c.in-Done.is
    (alike-begun c.args.page.now c.begin_call.new.self c.args.page.now.mode (length c.args.page.now.stack) (length c.args.page.now.tree.tree.labels) c.begin_call.ensures.rest)
    c.begin_call.ensures.begins c.steps.invariant.ends c.steps.invariant.keeps
    (alike-counted c.steps.page c.count_steps.new.self c.count_steps.ensures.rest c.count_steps.ensures.same) c.count_steps.ensures.keeps
    c.in_ok-step.ensures.ends c.in_ok-step.ensures.takes c.settle.ensures.keeps

pub returns-in-Done-clause-takes : goal.returns-in-Done-clause-takes
returns-in-Done-clause-takes c = λ n.
    (accepts-done c.args.token.now c.in_ok-step.field-0 c.args.page.now c.begin_call.new.self c.steps.page c.count_steps.new.self c.step.new.page c.settle.new.page c.in-Done.is c.begin_call.ensures.begins c.steps.invariant.keeps
    c.count_steps.ensures.keeps c.in_ok-step.ensures.takes c.settle.ensures.keeps)

pub returns-in-Done-clause-gives : goal.returns-in-Done-clause-gives
returns-in-Done-clause-gives c = λ n. accepts-gives c.args.token.now c.args.page.now c.settle.new.page (returns-in-Done-clause-takes c n)

pub returns-in-Foreign-clause-ignores : goal.returns-in-Foreign-clause-ignores
returns-in-Foreign-clause-ignores c = λ w. elim (cases_bool (ignores_foreign c.args.page.now.mode)) [
  | inl k ↦ absurd (
      done-foreign c.in_ok-step.field-0 c.in-Foreign.name
      (first-entry c.begin_call.new.self c.steps.page c.count_steps.new.self c.step.new.page c.in_ok-step.field-0 c.args.symbol c.args.token.now c.requires.symbol c.steps.invariant.first c.count_steps.ensures.rest
      (began-own c.args.page.now c.begin_call.new.self _ _ c.begin_call.ensures.rest) c.in_ok-step.ensures.entry
      (ap (λ (x : State). ignores_foreign x.mode) c.begin_call.ensures.rest ∙ k) (founded-begun c.args.page.now c.begin_call.new.self _ _ c.begin_call.ensures.rest w)
      (begins-root c.args.token.now c.args.symbol c.in_ok-step.field-0 c.in-Foreign.name _ c.requires.symbol c.in-Foreign.is (subst (λ o. Steps o c.args.token.now c.count_steps.new.self c.step.new.page) c.in-Foreign.is c.in_ok-step.ensures.takes).0))
      c.in-Foreign.is
      )
  | inr k ↦ k
]

pub returns-in_err-step-clause-refuses : goal.returns-in_err-step-clause-refuses
returns-in_err-step-clause-refuses c =
    begun-refuses c.from_residual.result c.args.token.now c.args.page.now c.begin_call.new.self c.step.new.page c.in_err-step.field-0.0 c.from_residual.ensures.1 c.begin_call.ensures.begins
    (λ h w. c.in_err-step.ensures.refuses h (c.count_steps.ensures.keeps h (c.steps.invariant.keeps h w)))

pub returns-in-Foreign-clause-foreign : goal.returns-in-Foreign-clause-foreign
returns-in-Foreign-clause-foreign c = sym c.requires.symbol ∙ (subst (λ o. Steps o c.args.token.now c.count_steps.new.self c.step.new.page) c.in-Foreign.is c.in_ok-step.ensures.takes).0

pub returns-in-Foreign-clause-refused : goal.returns-in-Foreign-clause-refused
returns-in-Foreign-clause-refused c =
    let off : c.count_steps.new.self.parses_foreign ≡ false = (subst (λ o. Steps o c.args.token.now c.count_steps.new.self c.step.new.page) c.in-Foreign.is c.in_ok-step.ensures.takes).1 in
    sym (ap (λ (x : State). x.parses_foreign) c.count_steps.ensures.rest ∙ c.steps.invariant.parses ∙ ap (λ (x : State). x.parses_foreign) c.begin_call.ensures.rest) ∙ off

pub returns-in-Done-clause-parses : goal.returns-in-Done-clause-parses
returns-in-Done-clause-parses c =
    ap (λ (x : State). x.parses_foreign) c.settle.ensures.rest ∙ (entry-parses c.in_ok-step.field-0 c.args.symbol c.args.token.now c.count_steps.new.self c.step.new.page c.in_ok-step.ensures.entry) ∙ ap (λ (x : State). x.parses_foreign) c.count_steps.ensures.rest ∙ c.steps.invariant.parses ∙ ap (λ (x : State). x.parses_foreign) c.begin_call.ensures.rest

pub returns-in-Foreign-clause-parses : goal.returns-in-Foreign-clause-parses
returns-in-Foreign-clause-parses c =
    (entry-parses c.in_ok-step.field-0 c.args.symbol c.args.token.now c.count_steps.new.self c.step.new.page c.in_ok-step.ensures.entry) ∙ ap (λ (x : State). x.parses_foreign) c.count_steps.ensures.rest ∙ c.steps.invariant.parses ∙ ap (λ (x : State). x.parses_foreign) c.begin_call.ensures.rest

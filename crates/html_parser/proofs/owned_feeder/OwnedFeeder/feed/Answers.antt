use Rattle.std.proofs.Common.{◌∙◌, ◌++◌, ℕ, List, refl, sym, subst}
use Rattle.std.specs.Prelude.{IsSomeAnd}
use Rattle.std.specs.Arc.{arc_value}
use Rattle.html_tokens.specs.declared.token.Token.{Token}
use Rattle.html_parser.specs.Causes.{IsFeedCause, IsToldIn}
use Rattle.html_parser.specs.Feeding.{AreHandedOn}
use Rattle.html_parser.specs.Paused.{HavePaused, MayResume}
use Rattle.html_parser.specs.Start.{Start}
use Rattle.html_parser.proofs.Owning.{at_err, at_ok, going_by, may_in, paused_in}
use Rattle.html_parser.proofs.owned_feeder.OwnedFeeder.feed.Goals as goal

pub fed-stages-requires : goal.fed-stages-requires
fed-stages-requires c = record {
  going = subst (λ rows. MayResume rows c.in-Some.stages) (sym c.deref.ensures)
      (may_in (arc_value c.args.self.now.table) c.args.self.now.stages c.in-Some.stages (sym c.take.ensures.value ∙ c.in-Some.is) (c.args.self.now.going c.if-self.false));
}

pub invariant_of-self-in-Ok : goal.invariant_of-self-in-Ok
invariant_of-self-in-Ok c = record {
  going = λ _. going_by (arc_value c.args.self.now.table) c.replace-none.new.self c.fed-stages.result.0 c.replace-none.ensures.after
      (subst (λ rows. MayResume rows c.fed-stages.result.0) c.deref.ensures (at_ok c.fed-stages.result.1 c.in-Ok.field-0 c.in-Ok.is c.fed-stages.ensures.going));
}

pub returns-in-Ok-clause-fed : goal.returns-in-Ok-clause-fed
returns-in-Ok-clause-fed c = λ start bytes h.
    let lent = subst (λ rows. HavePaused start rows c.in-Some.stages bytes) (sym c.deref.ensures)
    (paused_in start c.args.self.now c.in-Some.stages bytes (sym c.take.ensures.value ∙ c.in-Some.is) h) in
    record {
      stages = c.fed-stages.result.0;
      there = c.replace-none.ensures.after;
      paused = subst (λ rows. HavePaused start rows c.fed-stages.result.0 (bytes ++ c.args.piece.now)) c.deref.ensures
          (at_ok c.fed-stages.result.1 c.in-Ok.field-0 c.in-Ok.is c.fed-stages.ensures.fed start bytes lent);
      going = refl;
    }

pub returns-in-Ok-clause-few : goal.returns-in-Ok-clause-few
returns-in-Ok-clause-few c = λ start bytes h.
    let lent = subst (λ rows. HavePaused start rows c.in-Some.stages bytes) (sym c.deref.ensures)
    (paused_in start c.args.self.now c.in-Some.stages bytes (sym c.take.ensures.value ∙ c.in-Some.is) h) in
    at_ok c.fed-stages.result.1 c.in-Ok.field-0 c.in-Ok.is c.fed-stages.ensures.few start bytes lent

pub returns-clause-told : goal.returns-clause-told
returns-clause-told c = λ start bytes h.
    let lent = subst (λ rows. HavePaused start rows c.in-Some.stages bytes) (sym c.deref.ensures)
    (paused_in start c.args.self.now c.in-Some.stages bytes (sym c.take.ensures.value ∙ c.in-Some.is) h) in
    let told = at_err (λ e. (start : Start) (bytes : List ℕ) → HavePaused start c.deref.result.now c.in-Some.stages bytes → IsToldIn start.limits c.fed-stages.result.0.builder.page e)
    c.fed-stages.result.1 c.in-Err.error c.in-Err.is c.fed-stages.ensures.told start bytes lent in
    subst (λ o. IsSomeAnd o (λ s. IsToldIn start.limits s.builder.page c.in-Err.error)) (sym c.replace-none.ensures.after) told

pub returns-in-Ok-clause-prompt : goal.returns-in-Ok-clause-prompt
returns-in-Ok-clause-prompt c = λ start bytes h.
    let lent = subst (λ rows. HavePaused start rows c.in-Some.stages bytes) (sym c.deref.ensures)
    (paused_in start c.args.self.now c.in-Some.stages bytes (sym c.take.ensures.value ∙ c.in-Some.is) h) in
    subst (λ o. IsSomeAnd o (λ s. (tokens : List Token) × AreHandedOn start s.builder (bytes ++ c.args.piece.now) tokens)) (sym c.replace-none.ensures.after)
    (at_ok c.fed-stages.result.1 c.in-Ok.field-0 c.in-Ok.is c.fed-stages.ensures.prompt start bytes lent)

pub returns-in-Ok-clause-kept : goal.returns-in-Ok-clause-kept
returns-in-Ok-clause-kept c = λ start bytes h was.
    let lent = subst (λ rows. HavePaused start rows c.in-Some.stages bytes) (sym c.deref.ensures)
    (paused_in start c.args.self.now c.in-Some.stages bytes (sym c.take.ensures.value ∙ c.in-Some.is) h) in
    subst (λ o. IsSomeAnd o (λ s. AreHandedOn start s.builder (bytes ++ c.args.piece.now) s.kept.tokens)) (sym c.replace-none.ensures.after)
    (at_ok c.fed-stages.result.1 c.in-Ok.field-0 c.in-Ok.is c.fed-stages.ensures.kept start bytes lent
    (was c.in-Some.stages (sym c.take.ensures.value ∙ c.in-Some.is)))

pub returns-clause-cause : goal.returns-clause-cause
returns-clause-cause c = λ start bytes h.
    let lent = subst (λ rows. HavePaused start rows c.in-Some.stages bytes) (sym c.deref.ensures)
    (paused_in start c.args.self.now c.in-Some.stages bytes (sym c.take.ensures.value ∙ c.in-Some.is) h) in
    at_err (λ e. (start : Start) (bytes : List ℕ) → HavePaused start c.deref.result.now c.in-Some.stages bytes → IsFeedCause start (bytes ++ c.args.piece.now) e)
    c.fed-stages.result.1 c.in-Err.error c.in-Err.is c.fed-stages.ensures.cause start bytes lent

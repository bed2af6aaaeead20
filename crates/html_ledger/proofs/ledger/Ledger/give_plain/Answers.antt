use Rattle.std.proofs.Common.{◌≡◌, ◌+◌, ◌++◌, length, replicate, subst, ap, ◌∙◌}
use Rattle.html_ledger.specs.declared.fate.Fate.TheVariants.{Text}
use Rattle.html_ledger.specs.Entries.{Entries}
use Rattle.html_ledger.specs.Flags.{after_run}
use Rattle.html_ledger.proofs.Stretches.{Takes-given_run, run-given, length-more}
use Rattle.html_ledger.proofs.ledger.Ledger.give_plain.Goals as goal

pub returns-clause-given : goal.returns-clause-given
returns-clause-given c =
    let n : Entries = record { fates = c.push_run.new.self; history = c.after_plain-self-inside.result; kept = c.self.inside.kept.items; errors = c.self.inside.errors.items } in
    run-given c.args.self.now n c.args.text.now c.args.node c.requires.may
    (subst (λ k. c.push_run.new.self ≡ c.self.inside.fates ++ replicate k (Text c.args.node)) c.len.ensures.count c.in_ok-push_run.ensures.added
    ∙ ap (λ (e : Entries). e.fates ++ replicate (length c.args.text.now) (Text c.args.node)) c.self.view_is)
    (c.after_plain-self-inside.ensures.value c.args.node ∙ ap (λ (e : Entries). after_run e.history c.args.text.now (Text c.args.node)) c.self.view_is)
    (ap (λ (e : Entries). e.kept) c.self.view_is) (ap (λ (e : Entries). e.errors) c.self.view_is)

pub returns-clause-takes : goal.returns-clause-takes
returns-clause-takes c = Takes-given_run c.args.self.now _ c.args.text.now c.args.node c.requires.may c.requires.quiet (returns-clause-given c)

pub returns-clause-quiet : goal.returns-clause-quiet
returns-clause-quiet c = ap (λ (e : Entries). e.kept) c.self.view_is ∙ c.requires.quiet

pub returns-clause-counted : goal.returns-clause-counted
returns-clause-counted c =
    length-more c.self.inside.fates c.push_run.new.self (length c.args.text.now) (Text c.args.node)
    (subst (λ k. c.push_run.new.self ≡ c.self.inside.fates ++ replicate k (Text c.args.node)) c.len.ensures.count c.in_ok-push_run.ensures.added) ∙ ap (λ (e : Entries). length e.fates + length c.args.text.now) c.self.view_is

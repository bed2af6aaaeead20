use Rattle.std.proofs.Common.{◌++◌, ◌∙◌, ap, false, refl}
use Rattle.std.proofs.lemmas.Result.{err_from_is_err_and}
use Rattle.html_parser.proofs.Feeding.{feed_goes, few_bytes, kept_of, never_stopped, prompt_of, staged_more, staged_same}
use Rattle.html_parser.proofs.Feeds.{read_of}
use Rattle.html_parser.proofs.feeder.Feeder.feed.Goals as goal

pub returns-in_err-take-clause-cause : goal.returns-in_err-take-clause-cause
returns-in_err-take-clause-cause c =
    let p = err_from_is_err_and c.from_residual.result c.from_residual.ensures.1 in
    rw (p.1, p.2) (λ start bytes f. c.in_err-take.ensures.cause start bytes f.read.run (c.expect.ensures.runs start false bytes f.read.run f.read.is_run))

pub returns-in_err-take-clause-told : goal.returns-in_err-take-clause-told
returns-in_err-take-clause-told c =
    let p = err_from_is_err_and c.from_residual.result c.from_residual.ensures.1 in
    rw (p.1, p.2) (λ start bytes f. c.in_err-take.ensures.told start bytes f.read.run (c.expect.ensures.runs start false bytes f.read.run f.read.is_run))

pub returns-in_err-take-clause-stopped : goal.returns-in_err-take-clause-stopped
returns-in_err-take-clause-stopped c =
    let p = err_from_is_err_and c.from_residual.result c.from_residual.ensures.1 in
    never_stopped c.from_residual.result p.0 c.in_err-take.field-0.0 c.args.self.now.is_stopped p.1 p.2 c.if-self.false
    (feed_goes c.expect.new.self c.args.piece.now c.in_err-take.field-0.0
    (staged_same c.args.self.now.stages c.expect.new.self (c.args.self.now.going c.if-self.false) (λ start bytes. c.expect.ensures.runs start false bytes))
    c.in_err-take.ensures.cause)

pub invariant_of-self-2 : goal.invariant_of-self-2
invariant_of-self-2 c = record {
  going = λ _. staged_more c.expect.new.self c.take.new.self c.args.piece.now
      (staged_same c.args.self.now.stages c.expect.new.self (c.args.self.now.going c.if-self.false) (λ start bytes. c.expect.ensures.runs start false bytes))
      c.in_ok-take.ensures.taken;
}

pub returns-clause-fed : goal.returns-clause-fed
returns-clause-fed c = λ start bytes f. record {
  read = read_of start c.take.new.self (bytes ++ c.args.piece.now) (c.in_ok-take.ensures.taken start bytes f.read.run (c.expect.ensures.runs start false bytes f.read.run f.read.is_run));
  going = refl;
}

pub returns-clause-few : goal.returns-clause-few
returns-clause-few c = λ start bytes f.
    few_bytes start c.take.new.self (bytes ++ c.args.piece.now)
    (read_of start c.take.new.self (bytes ++ c.args.piece.now) (c.in_ok-take.ensures.taken start bytes f.read.run (c.expect.ensures.runs start false bytes f.read.run f.read.is_run)))

pub returns-clause-prompt : goal.returns-clause-prompt
returns-clause-prompt c = λ start bytes f.
    prompt_of start c.take.new.self (bytes ++ c.args.piece.now) (c.in_ok-take.ensures.taken start bytes f.read.run (c.expect.ensures.runs start false bytes f.read.run f.read.is_run))

pub returns-clause-kept : goal.returns-clause-kept
returns-clause-kept c = λ start bytes f keeps.
    kept_of start c.take.new.self (bytes ++ c.args.piece.now) (c.in_ok-take.ensures.taken start bytes f.read.run (c.expect.ensures.runs start false bytes f.read.run f.read.is_run)) (c.take.ensures.keeps ∙ (ap (λ k. k.keeps_tokens) c.expect.ensures.kept ∙ keeps))

use Rattle.std.proofs.Common.{inr, ◌++◌, ◌∙◌, ap}
use Rattle.html_parser.proofs.Taken.{starts-plain}
use Rattle.html_parser.proofs.kept.Kept.push_run.Goals as goal

pub returns-in_err-push_text-clause-either : goal.returns-in_err-push_text-clause-either
returns-in_err-push_text-clause-either c =
    inr (c.in_ok-push_run.ensures.added ∙ ap (λ xs. c.args.self.now.starts ++ xs) (starts-plain c.args.place c.args.text.now))

pub returns-in_ok-push_text-clause-starts : goal.returns-in_ok-push_text-clause-starts
returns-in_ok-push_text-clause-starts c =
    c.in_ok-push_run.ensures.added ∙ ap (λ xs. c.args.self.now.starts ++ xs) (starts-plain c.args.place c.args.text.now)

pub returns-in_ok-push_text-clause-either : goal.returns-in_ok-push_text-clause-either
returns-in_ok-push_text-clause-either c =
    inr (c.in_ok-push_run.ensures.added ∙ ap (λ xs. c.args.self.now.starts ++ xs) (starts-plain c.args.place c.args.text.now))

pub returns-else-self-clause-starts : goal.returns-else-self-clause-starts
returns-else-self-clause-starts c =
    c.in_ok-push_run.ensures.added ∙ ap (λ xs. c.args.self.now.starts ++ xs) (starts-plain c.args.place c.args.text.now)

pub returns-else-self-clause-either : goal.returns-else-self-clause-either
returns-else-self-clause-either c =
    inr (c.in_ok-push_run.ensures.added ∙ ap (λ xs. c.args.self.now.starts ++ xs) (starts-plain c.args.place c.args.text.now))

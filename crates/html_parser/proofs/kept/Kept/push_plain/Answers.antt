use Rattle.std.proofs.Common.{inr, ◌++◌, ◌∙◌, ap}
use Rattle.std.specs.List.{range_with_len}
use Rattle.html_parser.proofs.Taken.{starts-plain}
use Rattle.html_parser.proofs.kept.Kept.push_plain.Goals as goal

pub returns-in_err-push_plain-clause-either : goal.returns-in_err-push_plain-clause-either
returns-in_err-push_plain-clause-either c =
    inr (c.in_ok-push_run.ensures.added ∙ ap (λ xs. c.args.self.now.starts ++ xs) (ap (range_with_len c.args.place) c.len.ensures.count ∙ starts-plain c.args.place c.args.text.now))

pub returns-in_ok-push_plain-clause-starts : goal.returns-in_ok-push_plain-clause-starts
returns-in_ok-push_plain-clause-starts c =
    c.in_ok-push_run.ensures.added ∙ ap (λ xs. c.args.self.now.starts ++ xs) (ap (range_with_len c.args.place) c.len.ensures.count ∙ starts-plain c.args.place c.args.text.now)

pub returns-in_ok-push_plain-clause-either : goal.returns-in_ok-push_plain-clause-either
returns-in_ok-push_plain-clause-either c =
    inr (c.in_ok-push_run.ensures.added ∙ ap (λ xs. c.args.self.now.starts ++ xs) (ap (range_with_len c.args.place) c.len.ensures.count ∙ starts-plain c.args.place c.args.text.now))

pub returns-else-self-clause-starts : goal.returns-else-self-clause-starts
returns-else-self-clause-starts c =
    c.in_ok-push_run.ensures.added ∙ ap (λ xs. c.args.self.now.starts ++ xs) (ap (range_with_len c.args.place) c.len.ensures.count ∙ starts-plain c.args.place c.args.text.now)

pub returns-else-self-clause-either : goal.returns-else-self-clause-either
returns-else-self-clause-either c =
    inr (c.in_ok-push_run.ensures.added ∙ ap (λ xs. c.args.self.now.starts ++ xs) (ap (range_with_len c.args.place) c.len.ensures.count ∙ starts-plain c.args.place c.args.text.now))

use Rattle.std.proofs.Common.{refl, arith, inl, inr}
use Rattle.html_tokens.proofs.Cuts.{closed_draft, ended_draft, empty_rest, not_empty, longer_read, rest_of}
use Rattle.html_tokens.proofs.comment.CommentDraft.read.Goals as goal

pub returns-in-Is-None-clause-reads : goal.returns-in-Is-None-clause-reads
returns-in-Is-None-clause-reads c =
    let at_end = rw c.in-Is-None.field-0-is at c.in-Is-None.ensures in
    ((λ more h. rw (empty_rest _ (at_end.0 more h)) (ended_draft c.args.self.now)), omega arith, refl, refl, refl)

pub returns-in-Some-Some-clause-reads : goal.returns-in-Some-Some-clause-reads
returns-in-Some-Some-clause-reads c =
    let first = rw c.in-Is-Some.field-0-is at c.in-Is-Some.ensures in
    let found = rw c.in-Some-Some.field-0-is at c.in-Some-Some.ensures in
    ((λ more h. closed_draft c.args.self.now _ _ (found.0 more h) (not_empty _ more first.1)), found.1, refl, refl, refl)

pub returns-in_ok-push-in-Some-None-clause-reads : goal.returns-in_ok-push-in-Some-None-clause-reads
returns-in_ok-push-in-Some-None-clause-reads c =
    let first = rw c.in-Is-Some.field-0-is at c.in-Is-Some.ensures in
    let found = rw c.in-Some-None.field-0-is at c.in-Some-None.ensures in
    ((λ more h. longer_read c.args.self.now _ _ more _ _ _ (found.0 more h) c.take.ensures.items c.null_replaced.ensures c.in_ok-push-in-Some-None.ensures.ok), rest_of _ _ _ c.take.ensures.items, first.1, refl, c.take.ensures.finished)

pub returns-in-Is-None-clause-moves : goal.returns-in-Is-None-clause-moves
returns-in-Is-None-clause-moves c =
    let at_end = rw c.in-Is-None.field-0-is at c.in-Is-None.ensures in
    (refl, (λ more h. inr (empty_rest _ (at_end.0 more h), refl)))

pub returns-in-Some-Some-clause-moves : goal.returns-in-Some-Some-clause-moves
returns-in-Some-Some-clause-moves c =
    let first = rw c.in-Is-Some.field-0-is at c.in-Is-Some.ensures in
    let found = rw c.in-Some-Some.field-0-is at c.in-Some-Some.ensures in
    (refl, (λ more h. inl (found.0 more h, not_empty _ more first.1)))

pub returns-in_ok-push-in-Some-None-clause-moves : goal.returns-in_ok-push-in-Some-None-clause-moves
returns-in_ok-push-in-Some-None-clause-moves c =
    let found = rw c.in-Some-None.field-0-is at c.in-Some-None.ensures in
    (refl, (λ more h. found.0 more h))

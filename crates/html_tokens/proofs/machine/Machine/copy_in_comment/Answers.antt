use Rattle.html_tokens.proofs.StepLemmas.{comment_skips}
use Rattle.html_tokens.proofs.machine.Machine.copy_in_comment.Goals as goal

pub returns-clause-skips : goal.returns-clause-skips
returns-clause-skips c =
    comment_skips c.args.self.now c.pass.new.self c.in-Comment.draft c.copy_front.new.self c.in_ok-copied.copied c.in-Comment.is (rw c.unread.ensures at c.in_ok-copied.ensures.copies) c.pass.ensures

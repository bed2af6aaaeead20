use Rattle.std.proofs.Common.{◌+◌, ◌++◌, ◌∙◌, ℕ, Bool, Option, ap₂, refl}
use Rattle.html_tokens.proofs.CommentLemmas.{comment_goes}
use Rattle.html_tokens.proofs.InsideLemmas.{closed_fed, comment_tells}
use Rattle.html_tokens.specs.Inside.{fault_when, is_closed, null_errors}
use Rattle.html_tokens.specs.declared.fault_name.FaultName.TheVariants as names
use Rattle.html_tokens.proofs.Cuts.{not_empty}
use Rattle.html_tokens.proofs.ToldLemmas.{tells_decided}
use Rattle.html_tokens.proofs.StepLemmas.{comment_more, comment_given, comment_waits}
use Rattle.html_tokens.proofs.machine.Machine.comment_step.Goals as goal

pub returns-in-Wait-clause-steps : goal.returns-in-Wait-clause-steps
returns-in-Wait-clause-steps c = comment_waits c.args.self.now c.read.new.input c.in-Comment.draft c.read.new.self c.in-Comment.is (rw c.in-Wait.is at c.in_ok-read.ensures.reads)

pub returns-in-More-clause-steps : goal.returns-in-More-clause-steps
returns-in-More-clause-steps c = comment_more c.args.self.now c.read.new.input c.in-Comment.draft c.read.new.self c.in-Comment.is (rw c.in-More.is at c.in_ok-read.ensures.reads) (rw c.in-More.is at c.in_ok-read.ensures.moves)

pub returns-in-Closed-clause-steps : goal.returns-in-Closed-clause-steps
returns-in-Closed-clause-steps c =
    let ended = c.end_comment.ensures c.read.new.self refl in
    rw ended.0 (comment_given c.args.self.now _ c.read.new.input c.in-Comment.draft c.read.new.self c.in-Closed.len c.in-Comment.is (rw c.in-Closed.is at c.in_ok-read.ensures.reads) (rw c.in-Closed.is at c.in_ok-read.ensures.moves) ended.1)

pub returns-in-More-clause-tells : goal.returns-in-More-clause-tells
returns-in-More-clause-tells c =
    let old = c.args.self.now in
    let items = old.input.queue.items in
    let reads = rw c.in-More.is at c.in_ok-read.ensures.reads in
    let moves = rw c.in-More.is at c.in_ok-read.ensures.moves in
    tells_decided old _ c.args.faults.now c.comment_char.new.self
    (λ more f. rw c.in-Comment.is ((comment_goes c.in-Comment.draft.kind old.place (items ++ more) (moves.1 more f) (not_empty items more reads.2)).1
    ∙ ap₂ (λ (b : Bool) (x : Option ℕ). fault_when b names.NestedComment (old.place + 4) ++ null_errors x old.place) (c.in-Some.ensures.0 more f) (c.in-Is.ensures.0 more f))) c.comment_char.ensures.opens

pub returns-in-Closed-clause-tells : goal.returns-in-Closed-clause-tells
returns-in-Closed-clause-tells c =
    let reads = rw c.in-Closed.is at c.in_ok-read.ensures.reads in
    let moves = rw c.in-Closed.is at c.in_ok-read.ensures.moves in
    let ended = c.end_comment.ensures c.read.new.self refl in
    let items = c.args.self.now.input.queue.items in
    rw ended.0
    (comment_tells c.args.self.now c.in-Comment.draft c.in-Closed.len c.args.faults.now c.comment_end.new.self c.in-Comment.is reads.1 moves.1
    (rw moves.0 at (c.comment_end.ensures.opens (is_closed c.in-Closed.len items) (λ more f. rw reads.2 (closed_fed items more c.in-Closed.len reads.1)))))

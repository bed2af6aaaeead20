use Rattle.html_tokens.proofs.TagLemmas.{tag_skips}
use Rattle.html_tokens.proofs.machine.Machine.copy_in_tag.Goals as goal

pub returns-clause-skips : goal.returns-clause-skips
returns-clause-skips c =
    tag_skips c.args.self.now c.pass.new.self c.in-Tag.draft c.copy_front.new.self c.in_ok-copied.copied c.in-Tag.is (rw c.unread.ensures at c.in_ok-copied.ensures.copies) c.pass.ensures

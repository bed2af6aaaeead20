use Rattle.html_tokens.proofs.CopyLemmas.{comment_copied}
use Rattle.html_tokens.proofs.comment.CommentDraft.copy_front.Goals as goal

pub returns : goal.returns
returns c = record { copies = comment_copied c.copy.result c.args.self.now c.args.rest.now c.copy.new.text c.copy.ensures.fit (rw c.copied.ensures at c.copy.ensures.passes) c.copy.ensures.text }

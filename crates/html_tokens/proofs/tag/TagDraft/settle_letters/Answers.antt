use Rattle.std.proofs.Common.{sym}
use Rattle.html_tokens.proofs.PartLemmas.{settles_letter, settles_letters}
use Rattle.html_tokens.proofs.tag.TagDraft.settle_letters.Goals as goal

pub returns-then-not-is_ascii_alphanumeric-clause-part : goal.returns-then-not-is_ascii_alphanumeric-clause-part
returns-then-not-is_ascii_alphanumeric-clause-part c = rw c.requires.part (settles_letters c.args.end c.args.start c.args.c (sym c.if-not-is_ascii_alphanumeric.ensures.value))

pub returns-else-not-is_ascii_alphanumeric-clause-part : goal.returns-else-not-is_ascii_alphanumeric-clause-part
returns-else-not-is_ascii_alphanumeric-clause-part c = rw c.requires.part (settles_letter c.args.end c.args.start c.args.c (sym c.if-not-is_ascii_alphanumeric.ensures.value))

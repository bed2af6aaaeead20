use Rattle.std.proofs.Common.{refl}
use Rattle.html_tokens.proofs.ValueLemmas.{number_settles}
use Rattle.html_tokens.proofs.PartLemmas.{settles_number}
use Rattle.html_tokens.proofs.tag.TagDraft.settle_number.Goals as goal

pub returns-in_ok-number_ends-in-None-2-clause-ok : goal.returns-in_ok-number_ends-in-None-2-clause-ok
returns-in_ok-number_ends-in-None-2-clause-ok c =
    rw c.in_ok-number_ends-in-None-2.ensures.ok (number_settles c.args.self.now c.args.end c.args.base c.args.value c.args.start c.args.c c.requires.part c.in-None.ensures c.if-c-eq59.false, refl, refl, tt)

pub returns-in_ok-number_ends-in-None-2-clause-part : goal.returns-in_ok-number_ends-in-None-2-clause-part
returns-in_ok-number_ends-in-None-2-clause-part c =
    rw (c.in_ok-number_ends-in-None-2.ensures.ok, c.requires.part) (settles_number c.args.end c.args.base c.args.value c.args.start c.args.c c.in-None.ensures c.if-c-eq59.false)

use Rattle.std.proofs.Common.{refl}
use Rattle.std.proofs.lemmas.List.{take_rest}
use Rattle.html_tokens.proofs.WholeLemmas.{copies_after, copies_spaces}
use Rattle.html_tokens.proofs.tag.TagDraft.take_whole.Goals as goal

pub returns-clause-copies : goal.returns-clause-copies
returns-clause-copies c =
    let space = c.space_len-spaces.ensures in
    let n = c.space_len-spaces.result in
    rw c.quote_len-quote.ensures
    (copies_after c.args.self.now _ c.args.rest.now n _ _ (copies_spaces c.args.self.now c.args.rest.now n c.requires.part space.few space.space) (rw (c.in-Some-2.is, take_rest c.args.rest.now n) at c.in_ok-compared.ensures.copies) refl)

use Rattle.std.proofs.Common.{length, refl, sym}
use Rattle.std.proofs.lemmas.List.{take_rest}
use Rattle.std.proofs.lemmas.Option.{slice_get_read}
use Rattle.html_tokens.proofs.WholeLemmas.{copies_front, copies_start, takes_name}
use Rattle.html_tokens.proofs.tag.TagDraft.take_front.Goals as goal

pub returns-in_ok-taken-in-Some-clause-copies : goal.returns-in_ok-taken-in-Some-clause-copies
returns-in_ok-taken-in-Some-clause-copies c =
    let rest = c.args.rest.now in
    let found = c.in-Some.ensures.lookup in
    let at = slice_get_read rest (length rest) c.args.name c.in-Some.c.now refl found.3.0 found.1 in
    copies_front c.args.self.now c.take_attrs.new.self rest c.push_all.new.text c.args.name c.in_ok-taken-in-Some.taken.len c.in-Some.c.now c.requires.part c.requires.fit c.requires.name c.in_ok-push_all.ensures.ok at (sym c.if-ends_name.ensures)
    (rw (take_rest rest c.args.name) at c.in_ok-taken-in-Some.ensures.copies)

pub returns-in_ok-taken-in-Some-clause-bounds : goal.returns-in_ok-taken-in-Some-clause-bounds
returns-in_ok-taken-in-Some-clause-bounds c =
    takes_name c.args.self.now _ c.take_attrs.new.self c.args.name c.in_ok-taken-in-Some.taken.len c.in_ok-taken-in-Some.taken.compared refl c.in_ok-taken-in-Some.ensures.bounds

pub returns-in_default-clause-copies : goal.returns-in_default-clause-copies
returns-in_default-clause-copies c = copies_start c.args.self.now c.args.rest.now c.push_all.new.text c.args.name c.requires.part c.requires.fit c.requires.name c.in_ok-push_all.ensures.ok

pub returns-in_default-2-clause-copies : goal.returns-in_default-2-clause-copies
returns-in_default-2-clause-copies c = copies_start c.args.self.now c.args.rest.now c.push_all.new.text c.args.name c.requires.part c.requires.fit c.requires.name c.in_ok-push_all.ensures.ok

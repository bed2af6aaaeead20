use Rattle.html_dom.proofs.Apart.{apart_from}
use Rattle.html_dom.proofs.links.put_apart.Goals as goal

pub put_at-requires-clause-apart : goal.put_at-requires-clause-apart
put_at-requires-clause-apart c = apart_from c.args.arena.now c.forest.ensures.well_formed c.args.child c.requires.linkable c.args.next c.requires.next_in c.requires.apart

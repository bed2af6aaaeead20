use Rattle.html_arena.proofs.UnderWay.{root-placed}
use Rattle.html_page.proofs.serialising.serialise_tree.Goals as goal

pub law_of-requires : goal.law_of-requires
law_of-requires g c = root-placed c.args.arena.now c.args.root c.requires.root

pub write_below-requires : goal.write_below-requires
write_below-requires g c = root-placed c.args.arena.now c.args.root c.requires.root

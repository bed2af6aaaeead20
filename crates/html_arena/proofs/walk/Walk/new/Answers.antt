use Rattle.html_arena.proofs.UnderWay.{root-placed}
use Rattle.html_arena.proofs.walk.Walk.new.Goals as goal

pub at-requires : goal.at-requires
at-requires c = root-placed c.args.arena.now c.args.root c.requires

use Rattle.html_arena.proofs.Labels.{empty_arena}
use Rattle.html_arena.proofs.arena.Arena.new.Goals as goal

pub invariant_of-result : goal.invariant_of-result
invariant_of-result c = empty_arena _ _ _ _ c.new.ensures.items c.new-2.ensures.items c.new-3.ensures.items

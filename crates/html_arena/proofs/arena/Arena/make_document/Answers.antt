use Rattle.html_arena.proofs.Labels.{lone_document}
use Rattle.html_arena.proofs.arena.Arena.make_document.Goals as goal

pub add-requires : goal.add-requires
add-requires c = record { lone = lone_document }

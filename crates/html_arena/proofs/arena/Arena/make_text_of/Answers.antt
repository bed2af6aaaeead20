use Rattle.html_arena.proofs.Labels.{lone_text}
use Rattle.html_arena.proofs.arena.Arena.make_text_of.Goals as goal

pub add-requires : goal.add-requires
add-requires c = record { lone = lone_text c.args.text }

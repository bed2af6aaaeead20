use Rattle.html_arena.proofs.Labels.{lone_comment}
use Rattle.html_arena.proofs.arena.Arena.make_comment.Goals as goal

pub add-requires : goal.add-requires
add-requires c = record { lone = lone_comment c.args.text c.args.token }

use Rattle.html_arena.proofs.Labels.{lone_doctype}
use Rattle.html_arena.proofs.arena.Arena.make_doctype.Goals as goal

pub add-requires : goal.add-requires
add-requires c = record { lone = lone_doctype c.args.name c.args.public c.args.system c.args.token }

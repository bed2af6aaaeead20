use Rattle.std.proofs.lemmas.Str.{chars-nil}
use Rattle.html_arena.proofs.data.no_text.Goals as goal

pub returns : goal.returns
returns c = chars-nil

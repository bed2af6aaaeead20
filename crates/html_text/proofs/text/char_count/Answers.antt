use Rattle.std.proofs.Common.{rules, ap, sym, length}
use Rattle.std.proofs.lemmas.Str.{chars_from_encodes, chars-IsAscii}
use Rattle.html_text.proofs.text.char_count.Goals as goal

pub returns-then-is_ascii : goal.returns-then-is_ascii
returns-then-is_ascii c = ap length (sym (chars-IsAscii c.args.text.now c.if-is_ascii.ensures.cases))

pub returns-else-is_ascii : goal.returns-else-is_ascii
returns-else-is_ascii c = search (rules, chars_from_encodes)

use Rattle.std.proofs.Common.{string_bytes}
use Rattle.std.proofs.lemmas.Str.{IsUtf8-string_bytes}
use Rattle.html_text.proofs.Encoding.{chars-added}
use Rattle.html_text.proofs.run.append.Goals as goal

pub returns-clause-ok : goal.returns-clause-ok
returns-clause-ok c =
    chars-added c.push_str.result (string_bytes c.args.text.now) (string_bytes c.push_str.new.self) c.args.more.now (IsUtf8-string_bytes c.args.text.now)
    c.push_str.ensures.bytes

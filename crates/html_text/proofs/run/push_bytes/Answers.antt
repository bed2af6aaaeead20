use Rattle.std.proofs.Common.{◌≡◌, ◌++◌, List, ℕ, string_bytes, if◌then◌else◌, is_ok, subst}
use Rattle.std.proofs.lemmas.Str.{IsUtf8-string_bytes}
use Rattle.html_text.proofs.Encoding.{chars-added}
use Rattle.html_text.proofs.run.push_bytes.Goals as goal

pub returns-clause-ok : goal.returns-clause-ok
returns-clause-ok c =
    chars-added c.push_str.result (string_bytes c.args.text.now) (string_bytes c.push_str.new.self) c.args.bytes.now (IsUtf8-string_bytes c.args.text.now)
    (subst (λ (v : List ℕ). string_bytes c.push_str.new.self ≡ (if is_ok c.push_str.result then string_bytes c.args.text.now ++ v else string_bytes c.args.text.now)) c.from_utf8_unchecked.ensures c.push_str.ensures.bytes)

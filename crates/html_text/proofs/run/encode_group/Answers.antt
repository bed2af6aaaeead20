use Rattle.std.proofs.Common.{◌++◌, ap, chars, subst, sym, take, ◌∙◌}
use Rattle.std.proofs.lemmas.Str.{IsUtf8-append, IsUtf8-from_ascii, chars-IsAscii, chars-append}
use Rattle.std.specs.Str.{IsUtf8}
use Rattle.html_text.proofs.run.encode_group.Goals as goal

pub returns-then-are_ascii-clause-utf8 : goal.returns-then-are_ascii-clause-utf8
returns-then-are_ascii-clause-utf8 c =
    let run = c.as_slice-run.result.now in
    let ascii = c.are_ascii.ensures.yes c.if-are_ascii.true in
    subst IsUtf8 (sym c.copy.ensures.copied) (IsUtf8-append (take c.args.at c.args.block.now) run c.requires.utf8 (IsUtf8-from_ascii run ascii))

pub returns-then-are_ascii-clause-read : goal.returns-then-are_ascii-clause-read
returns-then-are_ascii-clause-read c =
    let run = c.as_slice-run.result.now in
    let before = take c.args.at c.args.block.now in
    let ascii = c.are_ascii.ensures.yes c.if-are_ascii.true in
    ap chars c.copy.ensures.copied ∙ chars-append before run c.requires.utf8 ∙ ap (λ v. chars before ++ v) (chars-IsAscii run ascii ∙ c.as_slice-run.ensures)

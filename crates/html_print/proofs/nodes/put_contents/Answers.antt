use Rattle.std.proofs.Common.{List, ℕ, [], cond, refl, sym, ap, ◌∙◌}
use Rattle.std.specs.Prelude.{Bool, codes}
use Rattle.std.specs.Str.{encode_utf8_all}
use Rattle.html_device.proofs.Puts.{Moves-is, Moves-nil, put_is}
use Rattle.html_page.proofs.Tagged.{ascii_only}
use Rattle.html_print.specs.Lines.{line}
use Rattle.html_print.proofs.Bytes.{line_bytes}
use Rattle.html_print.proofs.AtNode.{with_contents, without_contents}
use Rattle.html_print.proofs.nodes.put_contents.Goals as goal

abbrev line_if : ℕ → Bool → List ℕ
line_if depth b = encode_utf8_all (cond b (line depth (codes "content")) [])

pub returns-in-Some-clause-bytes : goal.returns-in-Some-clause-bytes
returns-in-Some-clause-bytes g c =
    put_is _ _ _ _ _ _ _ c.put_line.ensures.bytes
    (ap (line_if c.args.depth) (with_contents c.args.arena.now c.forest.ensures.well_formed c.args.node c.contents.result c.in-Some.field-0 c.contents.ensures.value c.in-Some.is)
    ∙ line_bytes c.args.depth (codes "content") (codes "content") (ascii_only (codes "content") refl))

pub returns-in-None-clause-bytes : goal.returns-in-None-clause-bytes
returns-in-None-clause-bytes g c =
    Moves-is _ _ _ _ [] _ (sym (ap (line_if c.args.depth) (without_contents c.args.arena.now c.forest.ensures.well_formed c.args.node c.contents.result c.contents.ensures.value c.in-None.is)))
    (Moves-nil _ _)

use Rattle.std.proofs.Common.{List, ℕ, [], ap, ◌∙◌, refl}
use Rattle.std.specs.Prelude.{codes}
use Rattle.std.specs.Str.{encode_utf8_all}
use Rattle.html_arena.specs.declared.data.NodeData.{NodeData}
use Rattle.html_device.proofs.Puts.{put_is}
use Rattle.html_page.specs.Label.{label_for}
use Rattle.html_print.specs.Lines.{line, shown}
use Rattle.html_print.proofs.Bytes.{line_between, line_bytes}
use Rattle.html_print.proofs.nodes.put_own.Goals as goal

abbrev bytes_of : ℕ → NodeData → List ℕ
bytes_of depth d = encode_utf8_all (line depth (shown (label_for d)))

pub returns-in-Document-clause-bytes : goal.returns-in-Document-clause-bytes
returns-in-Document-clause-bytes g c = put_is _ _ _ _ _ _ _ c.put_line.ensures.bytes (ap (bytes_of c.args.depth) c.in-Document.is ∙ line_bytes c.args.depth [] [] refl)

pub returns-in-Contents-clause-bytes : goal.returns-in-Contents-clause-bytes
returns-in-Contents-clause-bytes g c = put_is _ _ _ _ _ _ _ c.put_line-in-Contents.ensures.bytes (ap (bytes_of c.args.depth) c.in-Contents.is ∙ line_bytes c.args.depth [] [] refl)

pub returns-in-Element-clause-bytes : goal.returns-in-Element-clause-bytes
returns-in-Element-clause-bytes g c =
    put_is _ _ _ _ _ _ _ c.put_line-in-Element.ensures.bytes
    (ap (bytes_of c.args.depth) c.in-Element.is
    ∙ line_between c.args.depth (codes "<") c.in-Element.element.name (codes ">") c.as_str.result.now refl refl c.as_str.ensures.bytes)

pub returns-in-Text-clause-bytes : goal.returns-in-Text-clause-bytes
returns-in-Text-clause-bytes g c =
    put_is _ _ _ _ _ _ _ c.put_line-in-Text.ensures.bytes
    (ap (bytes_of c.args.depth) c.in-Text.is ∙ line_between c.args.depth (codes "\"") c.in-Text.text (codes "\"") c.as_str-in-Text.result.now refl refl c.as_str-in-Text.ensures.bytes)

pub returns-in-Comment-clause-bytes : goal.returns-in-Comment-clause-bytes
returns-in-Comment-clause-bytes g c =
    put_is _ _ _ _ _ _ _ c.put_line-in-Comment.ensures.bytes
    (ap (bytes_of c.args.depth) c.in-Comment.is
    ∙ line_between c.args.depth (codes "<!-- ") c.in-Comment.text (codes " -->") c.as_str-in-Comment.result.now refl refl c.as_str-in-Comment.ensures.bytes)

use Rattle.html_device.proofs.Puts.{put_is}
use Rattle.html_page.specs.Html.{text_or_empty}
use Rattle.html_page.specs.Label.Label.{doctype}
use Rattle.html_print.specs.Lines.{shown}
use Rattle.html_print.proofs.Bytes.{full_doctype, line_bytes, plain_doctype}
use Rattle.html_print.proofs.nodes.put_doctype.Goals as goal

pub returns-then-are_empty-clause-bytes : goal.returns-then-are_empty-clause-bytes
returns-then-are_empty-clause-bytes g c =
    put_is _ _ _ _ _ _ _ c.put_line.ensures.bytes
    (line_bytes c.args.depth (shown (doctype c.args.name.now c.args.public.now c.args.system.now)) _
    (plain_doctype (text_or_empty c.args.name.now) (text_or_empty c.args.public.now) (text_or_empty c.args.system.now) c.or_empty-name.result.now c.or_empty-name.ensures
    (c.are_empty.ensures.none c.if-are_empty.true)))

pub returns-clause-bytes : goal.returns-clause-bytes
returns-clause-bytes g c =
    put_is _ _ _ _ _ _ _ c.put_line-2.ensures.bytes
    (line_bytes c.args.depth (shown (doctype c.args.name.now c.args.public.now c.args.system.now)) _
    (full_doctype (text_or_empty c.args.name.now) (text_or_empty c.args.public.now) (text_or_empty c.args.system.now) c.or_empty-name.result.now c.or_empty-name.ensures
    (c.are_empty.ensures.some c.if-are_empty.false) c.or_empty-public.result.now c.or_empty-system.result.now c.or_empty-public.ensures c.or_empty-system.ensures))

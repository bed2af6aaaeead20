use Rattle.std.proofs.Common.{sym, ap, ◌∙◌}
use Rattle.std.specs.Str.{encode_utf8_all}
use Rattle.std.proofs.lemmas.Str.{encodes-chars}
use Rattle.html_device.proofs.Puts.{put_is}
use Rattle.html_print.specs.Order.{printed_name}
use Rattle.html_print.specs.Lines.{shown_attribute}
use Rattle.html_print.proofs.Bytes.{attribute_bytes, line_bytes}
use Rattle.html_print.proofs.attributes.put_attribute.Goals as goal

pub returns-clause-bytes : goal.returns-clause-bytes
returns-clause-bytes g c =
    put_is _ _ _ _ _ _ _ c.put_line.ensures.bytes
    (line_bytes c.args.depth (shown_attribute c.args.foreign c.args.attr.now) _
    (attribute_bytes c.args.foreign c.args.attr.now c.printed_name.result.now c.as_str-2.result.now
    (sym (encodes-chars c.printed_name.result.now c.printed_name.utf8) ∙ ap encode_utf8_all (c.printed_name.ensures ∙ ap (printed_name c.args.foreign) c.as_str.ensures.code_points)) c.as_str-2.ensures.bytes))

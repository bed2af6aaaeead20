use Rattle.std.proofs.Common.{◌≡◌, true, false, [], ◌++◌, take}
use Rattle.std.specs.Prelude.{codes}
use Rattle.std.specs.List.{flat_map}
use Rattle.std.specs.Str.{encode_utf8_all}
use Rattle.html_page.specs.Html.{attribute}
use Rattle.html_device.specs.Putting.{Moves, held}
use Rattle.html_page.proofs.serialising.put_html_tag.Given as goal

-- the name and the attributes so far are put; and the writer is no more at fault than at the start
abbrev pub invariant-loop-attr : goal.invariant-loop-attr
invariant-loop-attr g l = record {
  put : Moves (g.W.Sink.taken l.fn.writer) (held l.fn.output) (g.W.Sink.taken l.writer) (held l.output)
      ((codes "<" ++ (encode_utf8_all l.fn.name ++ [])) ++ encode_utf8_all (flat_map (attribute l.profile false) (take l.attr-index l.attrs)));
  failing : g.W.Sink.failed l.writer ≡ true → g.W.Sink.failed l.fn.writer ≡ true;
  stalling : g.W.Sink.stalled l.writer ≡ true → g.W.Sink.stalled l.fn.writer ≡ true;
}

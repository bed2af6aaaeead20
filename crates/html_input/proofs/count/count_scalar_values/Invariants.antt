use Rattle.std.specs.Str.Chunks.{utf8_chunks_rest}
use Rattle.html_input.proofs.Counting.{Counted}
use Rattle.html_input.proofs.count.count_scalar_values.Given as goal

abbrev pub invariant-chunks : goal.invariant-chunks
invariant-chunks l = record {
  can_next : (goal.iterator-chunks).can_next l.chunks;
  finite : (goal.iterator-chunks).is_finite l.chunks;
  counted : Counted l.bytes (utf8_chunks_rest l.chunks) l.count;
}

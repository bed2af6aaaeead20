use Rattle.std.proofs.Common.{true, ◌≡◌, ℕ, List, ◌++◌}
use Rattle.html_device.specs.Putting.{Moves, held}
use Rattle.html_print.specs.Audit.{audit_lines}
use Rattle.html_print.proofs.audit.put_audit.Given as goal

-- the lines of the tokens so far are put, and with those of the others they are all; and the writer is no more at fault than at the start
abbrev pub invariant-tokens : goal.invariant-tokens
invariant-tokens g l = record {
  done : List ℕ;
  so_far : audit_lines l.fn.tokens l.fn.fates ≡ done ++ audit_lines l.token-iterator l.rest;
  put : Moves (g.W.Sink.taken l.fn.writer) (held l.fn.output) (g.W.Sink.taken l.writer) (held l.output) done;
  failing : g.W.Sink.failed l.writer ≡ true → g.W.Sink.failed l.fn.writer ≡ true;
  stalling : g.W.Sink.stalled l.writer ≡ true → g.W.Sink.stalled l.fn.writer ≡ true;
}

use Rattle.std.proofs.Common.{◌≡◌, length}
use Rattle.html_open.specs.Opened.{open_at}
use Rattle.html_open.proofs.Reopened.{UnderWay}
use Rattle.html_open.proofs.list.FormattingList.reopen.Given as goal

abbrev pub invariant-reopening : goal.invariant-reopening
invariant-reopening l = record {
  way : UnderWay l.foster (open_at l.fn.stack l.fn.self l.fn.arena) l.index l.stack l.self l.arena;
  len_is : length l.self ≡ l.len;
}

use Rattle.std.proofs.Common.{arith}
use Rattle.html_parser.proofs.Counts.{code_points_few}
use Rattle.html_parser.proofs.parsing.check_length.Goals.{else-bytes-limit-via-then-bytes-limit+else-count_code_points-limit, else-bytes-limit-via-else-bytes-limit}
use Rattle.html_parser.proofs.parsing.check_length.Goals as goal

pub returns-clause-within : goal.returns-clause-within
returns-clause-within c = elim c.else-bytes-limit.branch [
  | else-bytes-limit-via-then-bytes-limit+else-count_code_points-limit w ↦ omega (arith, w.count_code_points.ensures, w.if-count_code_points-limit.false)
  | else-bytes-limit-via-else-bytes-limit w ↦ omega (arith, code_points_few c.args.bytes.now, w.if-bytes-limit.false)
]

use Rattle.std.proofs.Common.{◌≡◌, ◌<◌, length, ℕ, List, slice_index_or, arith}
use Rattle.std.proofs.lemmas.Grind.{common_steps, get_or_default_zero}
use Rattle.std.specs.Str.{IsAscii}
use Rattle.html_text.proofs.run.narrow.Goals as goal

-- each code point of a run that is all ASCII
each : (run : List ℕ) (i x : ℕ) → i < length run → x ≡ slice_index_or run i x → IsAscii run → x < 128
each run i x inside e all = (let a = all i in let b = get_or_default_zero run i x inside in omega (arith, a, b, e))

pub loop-index-preserved : goal.loop-index-preserved
loop-index-preserved c =
    record {
      same_len = grind (arith, common_steps);
      ascii = grind (arith, common_steps);
      no = λ h. (let a = each c.args.run.now c.loop-index.index c.index-run-index.result c.loop-index-test.true c.index-run-index.is h in
          let b = c.loop-index.invariant.no h in let most = c.max-greatest.ensures in omega (arith, a, b, most));
      copied = grind (arith, common_steps);
      front = grind (arith, common_steps);
    }

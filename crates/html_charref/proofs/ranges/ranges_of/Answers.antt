use Rattle.std.proofs.Common.{◌≡◌, ◌+◌, [], ◌∷◌, length, ap, ◌∙◌, arith, length-append}
use Rattle.html_charref.proofs.RangeLemmas.{ranges_more}
use Rattle.html_charref.proofs.ranges.ranges_of.Goals as goal

pub letters-preserved : goal.letters-preserved
letters-preserved c =
    let more : length c.push.new.self.items ≡ length c.letters.ranges.items + 1 = ap length c.in_ok-push.ensures.items ∙ length-append c.letters.ranges.items (_ ∷ []) in
    let before = c.letters.invariant.count in
    record {
      ranges = ranges_more c.args.rows.now c.letters.ranges.items c.push.new.self.items _ c.letters.letter c.letters.invariant.ranges before
          (record { start = c.lower_bound-start.ensures; end = c.lower_bound-end.ensures }) c.in_ok-push.ensures.items;
      count = omega arith;
    }

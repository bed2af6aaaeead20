use Rattle.std.proofs.Common.{◌≡◌, ◌+◌, ◌-◌, arith, sym, ◌∙◌}
use Rattle.std.proofs.Math.Seq.{take-add}
use Rattle.std.proofs.lemmas.List.{take_more}
use Rattle.html_tokens.specs.Copied.{is_without}
use Rattle.html_tokens.proofs.CopyLemmas.{AllPass-append, AllPass-push}
use Rattle.html_tokens.proofs.fronts.front_without.Goals as goal

pub skipping-preserved : goal.skipping-preserved
skipping-preserved c =
    let eight : (c.skipping.len + 8) - c.skipping.len ≡ 8 = omega arith in
    record {
      fit = omega arith;
      passes =
          let block = c.are_without.ensures.passes c.if-are_without.true in
          let clean = rw eight at block in
          rw (take-add c.skipping.len 8 c.args.text.now) (AllPass-append (is_without c.args.first c.args.second) _ _ c.skipping.invariant.passes clean);
    }

pub rest-preserved : goal.rest-preserved
rest-preserved c =
    let t = take_more c.args.text.now c.rest.len c.index-text-len.result c.rest-test.true in
    let taken = rw (← c.index-text-len.is) at t in
    record {
      fit = omega arith;
      passes = rw taken (AllPass-push (is_without c.args.first c.args.second) _ c.index-text-len.result c.rest.invariant.passes (sym c.is_without-in-rest.ensures ∙ c.if-is_without-2.true));
    }

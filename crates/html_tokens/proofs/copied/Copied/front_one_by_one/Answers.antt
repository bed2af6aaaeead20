use Rattle.std.proofs.Common.{arith, sym, ◌∙◌}
use Rattle.std.proofs.lemmas.List.{take_more}
use Rattle.html_tokens.specs.Copied.{is_copied}
use Rattle.html_tokens.proofs.CopyLemmas.{AllPass-push}
use Rattle.html_tokens.proofs.copied.Copied.front_one_by_one.Goals as goal

pub loop-c-preserved : goal.loop-c-preserved
loop-c-preserved c =
    let t = take_more c.args.rest.now c.loop-c.c-index c.c-item.result c.loop-c-test.true in
    let taken = rw (← c.c-item.is) at t in
    record {
      len = omega arith;
      passes = rw taken (AllPass-push (is_copied c.args.self) _ c.c-item.result c.loop-c.invariant.passes (sym c.takes.ensures ∙ c.if-not-takes.false));
    }

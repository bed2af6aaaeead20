use Rattle.std.proofs.Common.{[]}
use Rattle.std.specs.Prelude.{Result, Ok, Err, OnOk, IfOk}
use Rattle.std.specs.Result.{result_and}
use Rattle.std.proofs.lemmas.Result.{IfOk-weaker}
use Rattle.html_parser.proofs.Rewritten.{root-of}
use Rattle.html_parser.specs.declared.error.ParseError.{ParseError}
use Rattle.html_suite.proofs.tree_case.tree_of.Goals as goal

-- where both went well
ended : {T : Type 0} (fed : Result (Unit {0}) ParseError) (end : Result T ParseError) (F : Type 0) (P : T → Type 0) → OnOk fed F → (F → IfOk end P) → IfOk (result_and fed end) P
ended (Ok u) end F P f h = h f
ended (Err e) end F P f h = tt

pub returns : goal.returns
returns c =
    let (start, begun) = c.in_ok-parser.ensures.begun in
    record {
      root = rw (c.and.ensures) (ended c.feed-fed.result c.finish.result _ _ c.feed-fed.ensures.fed (λ f.
          IfOk-weaker c.finish.result _ _ (λ tree is. root-of start _ tree (is start _ (f start [] (c.without_ledger-parser.ensures.fed start [] begun)))) c.finish.ensures.tree));
    }

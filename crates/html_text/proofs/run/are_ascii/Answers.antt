use Rattle.std.proofs.Common.{◌≡◌, ◌+◌, ◌<◌, ◌++◌, List, ℕ, [], ◌∷◌, add-one, ap, arith, length, slice_index_or, subst, suc, sym, take, zero, ◌∙◌}
use Rattle.std.proofs.Math.Seq.{take-suc}
use Rattle.std.proofs.lemmas.Grind.{get_or_default_zero}
use Rattle.std.proofs.lemmas.Str.{IsAscii-append}
use Rattle.std.proofs.lemmas.Str.Ascii.{IsAscii-nil}
use Rattle.std.specs.Str.{IsAscii}
use Rattle.html_text.proofs.run.are_ascii.Goals as goal

-- a code point more
module _ (run : List ℕ) (i x : ℕ) (inside : i < length run) (e : x ≡ slice_index_or run i x) where
  more : x < 128 → IsAscii (take i run) → IsAscii (take (i + 1) run)
  more few front = subst IsAscii (sym (ap (λ n. take n run) (add-one i) ∙ take-suc run i x inside ∙ ap (λ v. take i run ++ v ∷ []) (sym e))) (IsAscii-append (take i run) (x ∷ []) front (one x few))
    where
      one : (y : ℕ) → y < 128 → IsAscii (y ∷ [])
      one y few zero = few
      one y few (suc n) = IsAscii-nil n

  each : IsAscii run → x < 128
  each all = (let a = all i in let b = get_or_default_zero run i x inside in omega (arith, a, b, e))

pub loop-index-preserved : goal.loop-index-preserved
loop-index-preserved c =
    let run = c.args.run.now in
    let i = c.loop-index.index in
    let x = c.index-run-index.result in
    let known = c.loop-index.invariant in
    let most = c.max-most.ensures in
    record {
      yes = λ h. more run i x c.loop-index-test.true c.index-run-index.is (omega (arith, h, most)) (known.yes (omega (arith, h, most)));
      no = λ h. (let a = each run i x c.loop-index-test.true c.index-run-index.is h in let b = known.no h in omega (arith, a, b, most));
    }

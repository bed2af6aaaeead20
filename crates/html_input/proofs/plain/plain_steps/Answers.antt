use Rattle.std.proofs.Common.{◌≡◌, ℕ, ◌+◌, List, ◌++◌, take, drop, sym, arith, subst, take-add}
use Rattle.std.proofs.lemmas.List.Elements.{All-append}
use Rattle.html_input.specs.Plain.{IsPlain, IsPlainByte}
use Rattle.html_input.proofs.plain.plain_steps.Goals as goal

-- a longer front
longer : (n k m : ℕ) (bytes : List ℕ) → m ≡ k → IsPlain (take n bytes) → IsPlain (take m (drop n bytes)) → IsPlain (take (n + k) bytes)
longer n k m bytes same front next =
    let both : IsPlain (take n bytes ++ take k (drop n bytes)) = All-append IsPlainByte _ _ front (subst (λ j. IsPlain (take j (drop n bytes))) same next) in
    subst IsPlain (sym (take-add n k bytes)) both

pub loop-len-preserved : goal.loop-len-preserved
loop-len-preserved c = (omega arith, longer c.loop-len.len c.args.step _ c.args.bytes.now (omega arith) c.loop-len.invariant.1 (c.is_plain.ensures c.if-is_plain.true))

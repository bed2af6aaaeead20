use Rattle.std.proofs.Common.{◌≡◌, ◌+◌, ◌<◌, ℕ, List, length, true, false, arith, ap, sym, subst, ◌∙◌, IsUtf8}
use Rattle.std.specs.Str.{chars}
use Rattle.std.proofs.lemmas.Bool.Decides.{nat_tests}
use Rattle.std.specs.Prelude.{◌==◌}
use Rattle.std.specs.Str.Chunks.{utf8_chunk_valid, utf8_chunk_invalid, utf8_chunks_rest}
use Rattle.html_input.proofs.Counting.{Counted, Counted-part, Counted-text, none_left}
use Rattle.html_input.proofs.count.count_scalar_values.Goals as goal

pub returns-in_default-clause-count : goal.returns-in_default-clause-count
returns-in_default-clause-count c =
    omega (arith, c.chunks.invariant.counted.count_is, none_left (utf8_chunks_rest c.chunks.chunks) c.in_default.ensures.steps.0)

pub chunks-preserved-then-not-is_empty : goal.chunks-preserved-then-not-is_empty
chunks-preserved-then-not-is_empty c =
    let s = c.in-Some.ensures.steps in
    let u : IsUtf8 (utf8_chunk_valid c.in-Some.chunk) = subst IsUtf8 c.valid.ensures c.valid.utf8 in
    let test : length (utf8_chunk_invalid c.in-Some.chunk) == 0 ≡ false = sym (c.is_empty.ensures ∙ ap (λ (x : List ℕ). length x == 0) c.invalid.ensures) ∙ c.if-not-is_empty.true in
    let some : 0 < length (utf8_chunk_invalid c.in-Some.chunk) = grind (arith, nat_tests) in
    let count : c.char_count-count.result ≡ length (chars (utf8_chunk_valid c.in-Some.chunk)) = c.char_count-count.ensures.count ∙ ap (λ (x : List ℕ). length (chars x)) c.valid.ensures in
    record {
      can_next = tt;
      finite = tt;
      counted = subst (λ (n : ℕ). Counted c.args.bytes.now (utf8_chunks_rest c.next.new.self) (c.chunks.count + n + 1)) (sym count)
          (Counted-part c.args.bytes.now (utf8_chunks_rest c.chunks.chunks) (utf8_chunk_valid c.in-Some.chunk) (utf8_chunk_invalid c.in-Some.chunk) (utf8_chunks_rest c.next.new.self)
          c.chunks.count c.chunks.invariant.counted s.0 s.3.0 s.3.1 some u);
    }

pub chunks-preserved : goal.chunks-preserved
chunks-preserved c =
    let s = c.in-Some.ensures.steps in
    let u : IsUtf8 (utf8_chunk_valid c.in-Some.chunk) = subst IsUtf8 c.valid.ensures c.valid.utf8 in
    let test : length (utf8_chunk_invalid c.in-Some.chunk) == 0 ≡ true = sym (c.is_empty.ensures ∙ ap (λ (x : List ℕ). length x == 0) c.invalid.ensures) ∙ c.if-not-is_empty.false in
    let none : length (utf8_chunk_invalid c.in-Some.chunk) ≡ 0 = grind (arith, nat_tests) in
    let count : c.char_count-count.result ≡ length (chars (utf8_chunk_valid c.in-Some.chunk)) = c.char_count-count.ensures.count ∙ ap (λ (x : List ℕ). length (chars x)) c.valid.ensures in
    record {
      can_next = tt;
      finite = tt;
      counted = subst (λ (n : ℕ). Counted c.args.bytes.now (utf8_chunks_rest c.next.new.self) (c.chunks.count + n)) (sym count)
          (Counted-text c.args.bytes.now (utf8_chunks_rest c.chunks.chunks) (utf8_chunk_valid c.in-Some.chunk) (utf8_chunk_invalid c.in-Some.chunk) (utf8_chunks_rest c.next.new.self)
          c.chunks.count c.chunks.invariant.counted s.0 s.3.0 none (s.2 none) u);
    }

use Rattle.std.proofs.Common.{◌≡◌, ◌↔◌, ◌<◌, ◌≤◌, List, ℕ, length, sym, subst, ◌∙◌, IsUtf8, ⊎_elim, arith}
use Rattle.std.proofs.lemmas.Bool.{cases_lt, true≢false}
use Rattle.std.specs.Str.{chars}
use Rattle.std.specs.Str.Chunks.{utf8_chunk_valid, utf8_chunk_invalid, utf8_chunks_rest}
use Rattle.html_input.specs.Decode.{scalar_values}
use Rattle.html_input.specs.Count.{BeginsWithMark}
use Rattle.html_input.proofs.Counting.{part-marked, text-marked, past_part, past_text, none_left, unmarked}
use Rattle.html_input.proofs.count.begins_with_mark.Goals as goal

pub returns-in-Some : goal.returns-in-Some
returns-in-Some c =
    let s = c.in-Some.ensures.steps in
    let bytes = utf8_chunks_rest c.utf8_chunks.result in
    let valid = utf8_chunk_valid c.in-Some.chunk in
    let invalid = utf8_chunk_invalid c.in-Some.chunk in
    let rest = utf8_chunks_rest c.next.new.self in
    let u : IsUtf8 valid = subst IsUtf8 c.valid.ensures c.valid.utf8 in
    let same : BeginsWithMark (scalar_values bytes) ↔ BeginsWithMark (chars valid) = ⊎_elim
    (λ (some : 0 < length invalid). part-marked bytes valid rest (past_part bytes valid invalid rest s.0 s.3.0 s.3.1 some u))
    (λ (few : length invalid ≤ 0).
    let none : length invalid ≡ 0 = omega (arith, few) in
    text-marked bytes valid rest (past_text bytes valid invalid rest s.0 s.3.0 none (s.2 none) u) (s.2 none))
    (cases_lt 0 (length invalid)) in
    let here : BeginsWithMark (scalar_values c.args.bytes.now) ↔ BeginsWithMark (chars c.valid.result.now) =
    subst (λ (x : List ℕ). BeginsWithMark (scalar_values c.args.bytes.now) ↔ BeginsWithMark (chars x)) (sym c.valid.ensures)
    (subst (λ (x : List ℕ). BeginsWithMark (scalar_values x) ↔ BeginsWithMark (chars valid)) c.utf8_chunks.ensures.rest same) in
    (λ h. here.1 (c.is_marked.ensures.0 h), λ h. c.is_marked.ensures.1 (here.0 h))

pub returns-in-None : goal.returns-in-None
returns-in-None c =
    let none : length c.args.bytes.now ≡ 0 = sym c.utf8_chunks.ensures.len ∙ c.in-None.ensures.steps.0 in
    (λ h. absurd (true≢false (sym h)), λ h. absurd (unmarked (scalar_values c.args.bytes.now) (none_left c.args.bytes.now none) h))

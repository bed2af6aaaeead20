use Rattle.std.proofs.Common.{◌≡◌, ◌∙◌, ◌<◌, ◌≤◌, ◌+◌, ◌-◌, ◌++◌, [], suc, ap, sym, arith, length, drop, get_or, List, ℕ}
use Rattle.std.proofs.lemmas.List.{drop-append-le, drop_all}
use Rattle.html_tokens.specs.Reference.{closed_within}
use Rattle.html_tokens.proofs.ReferenceLemmas.{end_at, end_beyond, end_of_text, end_past}
use Rattle.html_tokens.proofs.reference.closed_within.Goals as goal

pub returns-then-bound-at : goal.returns-then-bound-at
returns-then-bound-at c =
    let items = c.args.input.now.queue.items in
    let beyond : c.args.bound < c.loop-at.at - 1 = c.if-bound-at.true in
    let none : c.args.bound + 2 - c.loop-at.at ≡ 0 = omega arith in
    λ more f. ap (λ (rest : List ℕ). closed_within c.args.bound rest) (drop-append-le 2 items more c.requires.two)
    ∙ c.loop-at.invariant.same more
    ∙ ap (λ (k : ℕ). closed_within k (drop c.loop-at.at items ++ more)) none
    ∙ end_beyond (drop c.loop-at.at items ++ more)

pub returns-then-not-is_ascii_alphanumeric : goal.returns-then-not-is_ascii_alphanumeric
returns-then-not-is_ascii_alphanumeric c =
    let items = c.args.input.now.queue.items in
    let there : c.index-rest-at.result ≡ get_or items c.loop-at.at c.index-rest-at.result = rw c.unread-rest.ensures at c.index-rest-at.is in
    let short : c.loop-at.at < length items = rw c.unread-rest.ensures at c.loop-at-test.true in
    let within : c.loop-at.at - 1 ≤ c.args.bound = c.if-bound-at.false in
    let left : c.args.bound + 2 - c.loop-at.at ≡ suc (c.args.bound + 1 - c.loop-at.at) = omega arith in
    λ more f. ap (λ (rest : List ℕ). closed_within c.args.bound rest) (drop-append-le 2 items more c.requires.two)
    ∙ c.loop-at.invariant.same more
    ∙ ap (λ (k : ℕ). closed_within k (drop c.loop-at.at items ++ more)) left
    ∙ end_at (c.args.bound + 1 - c.loop-at.at) items more c.loop-at.at c.index-rest-at.result short there (sym c.is_ascii_alphanumeric.ensures.value ∙ c.if-not-is_ascii_alphanumeric.true)

pub loop-at-preserved : goal.loop-at-preserved
loop-at-preserved c =
    let items = c.args.input.now.queue.items in
    let there : c.index-rest-at.result ≡ get_or items c.loop-at.at c.index-rest-at.result = rw c.unread-rest.ensures at c.index-rest-at.is in
    let short : c.loop-at.at < length items = rw c.unread-rest.ensures at c.loop-at-test.true in
    let within : c.loop-at.at - 1 ≤ c.args.bound = c.if-bound-at.false in
    let left : c.args.bound + 2 - c.loop-at.at ≡ suc (c.args.bound + 1 - c.loop-at.at) = omega arith in
    let less : c.args.bound + 1 - c.loop-at.at ≡ c.args.bound + 2 - (c.loop-at.at + 1) = omega arith in
    record {
      same = λ more. c.loop-at.invariant.same more
          ∙ ap (λ (k : ℕ). closed_within k (drop c.loop-at.at items ++ more)) left
          ∙ end_past (c.args.bound + 1 - c.loop-at.at) items more c.loop-at.at c.index-rest-at.result short there (sym c.is_ascii_alphanumeric.ensures.value ∙ c.if-not-is_ascii_alphanumeric.false)
          ∙ ap (λ (k : ℕ). closed_within k (drop (c.loop-at.at + 1) items ++ more)) less;
      within = omega arith;
    }

pub returns-then-bound-rest : goal.returns-then-bound-rest
returns-then-bound-rest c =
    let items = c.args.input.now.queue.items in
    let all : length items ≤ c.loop-at.at = rw c.unread-rest.ensures at c.loop-at-test.false in
    let more_there : c.args.bound < length items - 1 = rw c.unread-rest.ensures at c.if-bound-rest.true in
    let none : c.args.bound + 2 - c.loop-at.at ≡ 0 = omega arith in
    λ more f. ap (λ (rest : List ℕ). closed_within c.args.bound rest) (drop-append-le 2 items more c.requires.two)
    ∙ c.loop-at.invariant.same more
    ∙ ap (λ (k : ℕ). closed_within k (drop c.loop-at.at items ++ more)) none
    ∙ end_beyond (drop c.loop-at.at items ++ more)

pub returns-then-input : goal.returns-then-input
returns-then-input c =
    let items = c.args.input.now.queue.items in
    let all : length items ≤ c.loop-at.at = rw c.unread-rest.ensures at c.loop-at-test.false in
    let few : length items - 1 ≤ c.args.bound = rw c.unread-rest.ensures at c.if-bound-rest.false in
    let at_end : c.loop-at.at ≤ length items = rw c.unread-rest.ensures at (c.loop-at.auto.at-end (rw c.unread-rest.ensures c.requires.two)) in
    let left : c.args.bound + 2 - c.loop-at.at ≡ suc (c.args.bound + 1 - c.loop-at.at) = omega arith in
    let rest : drop c.loop-at.at items ≡ [] = drop_all c.loop-at.at items (omega arith) in
    λ more f. ap (λ (rest : List ℕ). closed_within c.args.bound rest) (drop-append-le 2 items more c.requires.two)
    ∙ c.loop-at.invariant.same more
    ∙ rw (left, rest, f c.if-input.true) (end_of_text (c.args.bound + 1 - c.loop-at.at))

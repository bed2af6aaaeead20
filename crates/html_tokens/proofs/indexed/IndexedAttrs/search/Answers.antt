use Rattle.std.proofs.Common.{◌≡◌, ◌∙◌, ◌≤◌, ◌+◌, ℕ, suc, ap, sym, subst, take, true, false, None, Some, length, arith}
use Rattle.std.specs.BTreeMap.{get_by_text}
use Rattle.std.specs.Str.{chars, encode_utf8_all}
use Rattle.html_tokens.specs.Places.{comparisons, few}
use Rattle.html_tokens.specs.Shared.{gathered_in}
use Rattle.html_tokens.specs.Tag.{has_name}
use Rattle.html_tokens.proofs.ComparisonLemmas.{comparisons_few, comparisons_front, comparisons_none}
use Rattle.html_tokens.proofs.PlaceLemmas.{not_found}
use Rattle.html_tokens.proofs.indexed.IndexedAttrs.search.Goals as goal

pub returns-in-None-clause-found : goal.returns-in-None-clause-found
returns-in-None-clause-found c =
    let name = c.args.name.now in
    let first : has_name name (take few (gathered_in c.self.inside.attrs)) ≡ false = rw (c.first_few.ensures, c.as_slice-attrs.ensures) at (sym c.search-found.ensures.found ∙ c.if-found.false) in
    let gone : get_by_text c.self.inside.places (encode_utf8_all name) ≡ None = rw c.as_str.ensures.bytes at (sym c.in-None.ensures.value) in
    rw (← c.self.view_is) (sym (not_found name (gathered_in c.self.inside.attrs) c.self.inside.places c.self.invariant.0 first gone))

pub returns-in-None-clause-count : goal.returns-in-None-clause-count
returns-in-None-clause-count c =
    let name = c.args.name.now in
    let first : has_name name (take few (gathered_in c.self.inside.attrs)) ≡ false = rw (c.first_few.ensures, c.as_slice-attrs.ensures) at (sym c.search-found.ensures.found ∙ c.if-found.false) in
    let gone : get_by_text c.self.inside.places (encode_utf8_all name) ≡ None = rw c.as_str.ensures.bytes at (sym c.in-None.ensures.value) in
    let none = not_found name (gathered_in c.self.inside.attrs) c.self.inside.places c.self.invariant.0 first gone in
    rw (← c.self.view_is) (ap length c.as_slice-attrs.ensures ∙ sym (comparisons_none name (gathered_in c.self.inside.attrs) none))

pub returns-then-found-clause-count : goal.returns-then-found-clause-count
returns-then-found-clause-count c =
    let name = c.args.name.now in
    let front = c.first_few.ensures ∙ ap (take few) c.as_slice-attrs.ensures in
    let there : has_name name (take few (gathered_in c.self.inside.attrs)) ≡ true = ap (has_name name) (sym front) ∙ sym c.search-found.ensures.found ∙ c.if-found.true in
    rw (← c.self.view_is) (c.search-found.ensures.count ∙ ap (comparisons name) front ∙ comparisons_front name (gathered_in c.self.inside.attrs) few there)

pub returns-then-found-clause-few : goal.returns-then-found-clause-few
returns-then-found-clause-few c =
    let name = c.args.name.now in
    let front = c.first_few.ensures ∙ ap (take few) c.as_slice-attrs.ensures in
    let there : has_name name (take few (gathered_in c.self.inside.attrs)) ≡ true = ap (has_name name) (sym front) ∙ sym c.search-found.ensures.found ∙ c.if-found.true in
    rw (← c.self.view_is)
    (subst (λ n. n ≤ length (gathered_in c.self.inside.attrs)) (sym (c.search-found.ensures.count ∙ ap (comparisons name) front ∙ comparisons_front name (gathered_in c.self.inside.attrs) few there)) (comparisons_few name (gathered_in c.self.inside.attrs)))

pub search_at-requires : goal.search_at-requires
search_at-requires c =
    let name = c.args.name.now in
    let first : has_name name (take few (gathered_in c.self.inside.attrs)) ≡ false = rw (c.first_few.ensures, c.as_slice-attrs.ensures) at (sym c.search-found.ensures.found ∙ c.if-found.false) in
    let place : get_by_text c.self.inside.places (encode_utf8_all name) ≡ Some c.in-Some.place.now = rw c.as_str.ensures.bytes at (sym c.in-Some.ensures.value) in
    record {
      first = λ there.
          let same = c.self.invariant.1 name c.in-Some.place.now (ap chars (sym c.as_str.ensures.bytes) ∙ c.as_str.ensures.code_points) place (ap (has_name name) (sym c.as_slice-attrs.ensures) ∙ there) first in
          ap (comparisons name) c.as_slice-attrs.ensures ∙ same ∙ more c.in-Some.place.now;
    }
  where
    more : (n : ℕ) → suc n ≡ n + 1
    more n = omega arith

pub returns-in-Some-clause-few : goal.returns-in-Some-clause-few
returns-in-Some-clause-few c =
    let name = c.args.name.now in
    rw (← c.self.view_is)
    (subst (λ n. n ≤ length (gathered_in c.self.inside.attrs)) (sym (c.search_at.ensures.count ∙ ap (comparisons name) c.as_slice-attrs.ensures)) (comparisons_few name (gathered_in c.self.inside.attrs)))

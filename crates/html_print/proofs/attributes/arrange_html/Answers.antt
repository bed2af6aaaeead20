use Rattle.std.proofs.Common.{false, Bor, map, rules, subst}
use Rattle.std.specs.Cmp.Lexicographic.{slice_cmp}
use Rattle.std.specs.List.Sorted.{IsPermutation}
use Rattle.std.specs.Ordering.{is_lt, nat_cmp}
use Rattle.std.proofs.lemmas.Cmp.{nat_list_cmp_total}
use Rattle.std.proofs.lemmas.Fn.{always_returns_same}
use Rattle.std.proofs.lemmas.List.MinMax.{ranks_by}
use Rattle.std.proofs.lemmas.List.Sorted.{IsPermutation-map}
use Rattle.html_tokens.specs.declared.attributes.Attr.{Attr}
use Rattle.html_print.specs.Order.{units_of_name}
use Rattle.html_print.proofs.Sorting.{sorted_map}
use Rattle.html_print.proofs.attributes.arrange_html.Goals as goal

pub returns-clause-order : goal.returns-clause-order
returns-clause-order c = record {
  same = subst (λ xs. IsPermutation xs (map (λ a. a.now) c.sort_unstable_by.new.self.items)) c.fill.ensures.items (IsPermutation-map (λ a. a.now) _ _ c.sort_unstable_by.ensures.permutation);
  ascending =
      sorted_map (λ (a : Bor Attr). a.now) (λ (a b : Attr). is_lt (slice_cmp nat_cmp (units_of_name false a) (units_of_name false b))) c.sort_unstable_by.new.self.items
      (c.sort_unstable_by.ensures.sorted (λ (a b : Bor Attr). is_lt (slice_cmp nat_cmp (units_of_name false a.now) (units_of_name false b.now))) (ranks_by nat_list_cmp_total (λ (a : Bor Attr). units_of_name false a.now))
      (always_returns_same _ _ _ (λ a r f k. search rules)));
}

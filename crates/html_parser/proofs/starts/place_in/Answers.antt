use Rattle.std.proofs.Common.{◌≡◌, ◌+◌, ◌-◌, leb, rules, arith, get_or, ap, subst, sym, ◌∙◌}
use Rattle.std.proofs.lemmas.List.Sorted.{IsPartitionPoint-from_clause, IsPartitionedBy-leb}
use Rattle.html_parser.proofs.Finding.{IsPlace, found, firsts-rise}
use Rattle.html_parser.specs.Stretches.{starts_in}
use Rattle.html_parser.proofs.starts.place_in.Goals as goal

pub returns-in-Some : goal.returns-in-Some
returns-in-Some c = record {
  value = λ len a less.
      let parted = IsPartitionedBy-leb (λ s. s.first) _ c.args.number (firsts-rise 0 c.args.stretches.now len a) in
      let point = IsPartitionPoint-from_clause (λ s. leb s.first c.args.number) _ _ c.partition_point-above.ensures.partitioned parted (λ x r q k. search rules) in
      let f = found c.args.stretches.now len c.args.number c.partition_point-above.result c.in-Some.stretch.now a less c.partition_point-above.ensures.bound point in
      let same : get_or c.args.stretches.now (c.partition_point-above.result - 1) c.in-Some.stretch.now ≡ c.in-Some.stretch.now
      = ap (λ i. get_or c.args.stretches.now i c.in-Some.stretch.now) (sym c.saturating_sub.ensures) ∙ sym (c.in-Some.ensures.lookup.1) in
      let p = subst (IsPlace (starts_in c.args.stretches.now len) c.args.number c.args.number) same f.is_place in
      let fits = p.fits in
      let sum : c.saturating_add.result ≡ c.in-Some.stretch.now.place + (c.args.number - c.in-Some.stretch.now.first)
      = omega (arith, c.saturating_add.ensures, c.saturating_sub-further.ensures, fits) in
      sum ∙ sym p.place;
}

use Rattle.std.proofs.Common.{◌<◌, ◌^◌, ◌∙◌, ◌++◌, arith, ap, subst, sym}
use Rattle.std.specs.List.{range_with_len}
use Rattle.html_parser.specs.Stretches.{AreFrom, starts_in}
use Rattle.html_parser.proofs.Stretches.{starts-added, from-added}
use Rattle.html_parser.proofs.starts.Starts.push_run.Goals as goal

pub invariant_of-self-2 : goal.invariant_of-self-2
invariant_of-self-2 c =
    let some : 0 < c.args.count = omega (arith, c.if-count-eq0.false) in (
      subst (AreFrom 0 c.add.new.stretches.items) (sym c.in-Some.ensures.1)
          (from-added c.self.inside.stretches.items c.add.new.stretches.items c.self.inside.len c.args.count c.args.place
          c.in_ok-add.ensures.added c.self.invariant.0 some c.in-Some-checked_add.ensures.0),
      subst (λ k. k < 2 ^ 64) (sym c.in-Some.ensures.1) c.in-Some.ensures.0,
    )

pub returns-clause-added : goal.returns-clause-added
returns-clause-added c =
    ap (starts_in c.add.new.stretches.items) c.in-Some.ensures.1
    ∙ starts-added c.self.inside.stretches.items c.add.new.stretches.items c.self.inside.len c.args.count c.args.place c.in_ok-add.ensures.added
    ∙ ap (λ xs. xs ++ range_with_len c.args.place c.args.count) c.self.view_is

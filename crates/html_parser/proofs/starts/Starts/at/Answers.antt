use Rattle.std.proofs.Common.{◌≤◌, ◌≡◌, arith, ap, length, subst, sym, ◌∙◌, slice_index_or}
use Rattle.std.proofs.Math.ListN.{get_or-eq_default}
use Rattle.html_parser.specs.Stretches.{AreFrom, starts_in}
use Rattle.html_parser.proofs.Stretches.{all-length}
use Rattle.html_parser.proofs.starts.Starts.at.Goals as goal

pub returns-then-number-self : goal.returns-then-number-self
returns-then-number-self c =
    let e = c.as_slice.ensures.value in record {
      value = c.place_in.ensures.value c.self.inside.len (subst (λ xs. AreFrom 0 xs c.self.inside.len) (sym e) c.self.invariant.0) c.if-number-self.true
          ∙ ap (λ xs. slice_index_or (starts_in xs c.self.inside.len) c.args.number 0) e
          ∙ ap (λ xs. slice_index_or xs c.args.number 0) c.self.view_is;
    }

pub returns-else-number-self : goal.returns-else-number-self
returns-else-number-self c =
    let all : length c.args.self.now ≡ c.self.inside.len
    = ap length (sym c.self.view_is) ∙ all-length c.self.inside.stretches.items c.self.inside.len c.self.invariant.0 in
    let past : length c.args.self.now ≤ c.args.number = omega (arith, all, c.if-number-self.false) in
    record {
      value = sym (get_or-eq_default c.args.self.now 0 past);
    }

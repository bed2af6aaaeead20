use Rattle.std.proofs.Common.{◌≡◌, ◌∙◌, ◌+◌, ◌<◌, ◌≤◌, length, set, sym, subst, arith}
use Rattle.std.proofs.lemmas.List.{length-set}
use Rattle.std.specs.Prelude.{slice_set}
use Rattle.zilqumet_c.specs.Places.{ArePositions}
use Rattle.zilqumet_c.proofs.Filling.{more_positions, read_place}
use Rattle.zilqumet_c.proofs.places.proved_positions.Goals as goal

pub places-preserved : goal.places-preserved
places-preserved c =
    let inv = c.places.invariant in
    let same : length (set c.places.positions c.places.count c.position.result) ≡ length c.places.positions = length-set c.places.positions c.places.count c.position.result in (
      omega (arith, c.places-test.true),
      omega (arith, same, c.if-count-positions.true),
      same ∙ inv.2,
      c.position.ensures.same ∙ inv.3,
      subst (λ b. ArePositions b c.args.places.now (c.places.count + 1) (slice_set c.places.positions c.places.count c.position.result)) inv.3
          (more_positions c.places.lines.bytes.now c.args.places.now c.places.count c.places.positions c.position.result c.if-count-positions.true
          (subst (λ b. ArePositions b c.args.places.now c.places.count c.places.positions) (sym inv.3) inv.4) c.position.ensures.position
          (read_place c.args.places.now c.places.count c.places-test.true)),
    )

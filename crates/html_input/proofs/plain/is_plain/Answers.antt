use Rattle.std.proofs.Common.{◌≡◌, Bool, true, false, refl, subst, take_all}
use Rattle.std.specs.Prelude.{◌&&◌}
use Rattle.std.proofs.lemmas.List.Elements.{All-more}
use Rattle.html_input.specs.Plain.{IsPlain, IsPlainByte}
use Rattle.html_input.proofs.plain.is_plain.Goals as goal

both : (a b : Bool) → (a && b) ≡ true → (a ≡ true) × (b ≡ true)
both true b e = (refl, e)
both false b e = absurd (cc)

pub loop-byte-preserved : goal.loop-byte-preserved
loop-byte-preserved c passes =
    let parts = both _ _ passes in
    All-more IsPlainByte c.args.bytes.now c.loop-byte.byte-index 0 c.loop-byte-test.true (c.loop-byte.invariant parts.0) (c.is_plain_byte-all.ensures.0 parts.1)

pub returns : goal.returns
returns c passes = subst IsPlain (take_all c.loop-byte.byte-index c.args.bytes.now c.loop-byte-test.false) (c.loop-byte.invariant passes)

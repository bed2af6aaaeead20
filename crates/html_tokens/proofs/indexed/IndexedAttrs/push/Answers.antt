use Rattle.std.proofs.Common.{◌≡◌, ◌≤◌, ◌∷◌, [], ◌++◌, ◌∙◌, ap, false, length, arith, rules}
use Rattle.std.proofs.lemmas.Map.Text.{btree_map_updates_text}
use Rattle.std.specs.String.{string_bytes}
use Rattle.std.specs.Str.{chars}
use Rattle.html_tokens.specs.Places.{few}
use Rattle.html_tokens.specs.Shared.{gathered_in}
use Rattle.html_tokens.specs.Tag.{has_name}
use Rattle.html_tokens.proofs.PlaceLemmas.{first_more, first_still, found_more, found_still}
use Rattle.html_tokens.proofs.indexed.IndexedAttrs.push.Goals as goal

pub invariant_of-self-in_err-insert : goal.invariant_of-self-in_err-insert
invariant_of-self-in_err-insert c = rw c.in_err-insert.ensures.err c.self.invariant

pub invariant_of-self-in_err-push : goal.invariant_of-self-in_err-push
invariant_of-self-in_err-push c =
    let bs = string_bytes c.in_ok-name.name in
    let more = btree_map_updates_text bs c.self.inside.places c.insert.new.self _ c.in_ok-insert.ensures.updates in
    let none : has_name c.args.attr.name (gathered_in c.self.inside.attrs) ≡ false = rw c.self.view_is c.requires.new in
    let pushed : gathered_in c.push-2.new.self ≡ (gathered_in c.self.inside.attrs) = search rules in
    rw pushed (
      found_still (gathered_in c.self.inside.attrs) (length c.as_slice-place.result.now) bs c.self.inside.places c.insert.new.self more c.self.invariant.0,
      first_still (gathered_in c.self.inside.attrs) c.args.attr.name (length c.as_slice-place.result.now) bs c.self.inside.places c.insert.new.self (c.in_ok-name.ensures.ok ∙ c.as_str.ensures.bytes)
          (ap chars c.in_ok-name.ensures.ok ∙ c.as_str.ensures.code_points) none more c.self.invariant.1,
    )

pub invariant_of-self-2 : goal.invariant_of-self-2
invariant_of-self-2 c =
    let bs = string_bytes c.in_ok-name.name in
    let many : few ≤ length (gathered_in c.self.inside.attrs) = omega (arith, ap length c.as_slice-place.ensures) in
    let more = btree_map_updates_text bs c.self.inside.places c.insert.new.self _ c.in_ok-insert.ensures.updates in
    let none : has_name c.args.attr.name (gathered_in c.self.inside.attrs) ≡ false = rw c.self.view_is c.requires.new in
    let pushed : gathered_in c.push-2.new.self ≡ (gathered_in c.self.inside.attrs) ++ c.args.attr ∷ [] = search rules in
    let place : length c.as_slice-place.result.now ≡ length (gathered_in c.self.inside.attrs) = ap length c.as_slice-place.ensures in
    rw pushed (
      found_more (gathered_in c.self.inside.attrs) c.args.attr (length c.as_slice-place.result.now) bs c.self.inside.places c.insert.new.self many (c.in_ok-name.ensures.ok ∙ c.as_str.ensures.bytes) more c.self.invariant.0,
      first_more (gathered_in c.self.inside.attrs) c.args.attr (length c.as_slice-place.result.now) bs c.self.inside.places c.insert.new.self many (c.in_ok-name.ensures.ok ∙ c.as_str.ensures.bytes)
          (ap chars c.in_ok-name.ensures.ok ∙ c.as_str.ensures.code_points) none place more c.self.invariant.1,
    )

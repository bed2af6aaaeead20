use Rattle.std.proofs.Common.{[], refl}
use Rattle.html_parser.proofs.Feeding.{staged_by}
use Rattle.html_parser.proofs.feeder.Feeder.new.Goals as goal

pub invariant_of-result : goal.invariant_of-result
invariant_of-result c = record {
  going = λ _. staged_by c.requires.begun.0 c.in_ok-new.field-0 [] (c.in_ok-new.ensures.begun c.requires.begun.0 c.requires.begun.1);
}

pub returns-clause-begun : goal.returns-clause-begun
returns-clause-begun c = λ start h. record { read = c.in_ok-new.ensures.begun start h; going = refl }

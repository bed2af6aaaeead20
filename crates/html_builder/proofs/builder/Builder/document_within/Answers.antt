use Rattle.std.proofs.Common.{false, refl}
use Rattle.std.specs.Prelude.{Some}
use Rattle.html_builder.proofs.Handing.{begun-document}
use Rattle.html_builder.proofs.builder.Builder.document_within.Goals as goal

pub returns-clause-begun : goal.returns-clause-begun
returns-clause-begun c =
    begun-document (Some c.args.limits) (record { page = c.in_ok-construction.construction; entries = 0; stopped = false }) refl refl c.in_ok-construction.ensures.built c.in_ok-construction.ensures.mode c.in_ok-construction.ensures.stack c.in_ok-construction.ensures.nodes c.in_ok-construction.ensures.uncloned
    c.in_ok-construction.ensures.implied c.in_ok-construction.ensures.counted
    c.in_ok-construction.ensures.tree c.in_ok-construction.ensures.ledger c.in_ok-construction.ensures.fostering c.in_ok-construction.ensures.context c.in_ok-construction.ensures.first

use Rattle.html_builder.proofs.Saying.{foreign-document}
use Rattle.html_ledger.specs.declared.setting.Setting.TheVariants.{Document}
use Rattle.html_construction.specs.Built.{nothing_of}
use Rattle.html_builder.proofs.builder.Builder.foreign_document.Goals as goal

pub returns-clause-begun : goal.returns-clause-begun
returns-clause-begun c =
    let k = c.in_ok-construction.ensures in
    foreign-document c.args.limits c.in_ok-construction.construction c.parse_foreign.new.self c.parse_foreign.ensures.rest (c.parse_foreign.ensures.keeps (nothing_of Document c.args.limits) k.built)
    k.mode k.stack k.nodes k.uncloned k.implied k.counted k.tree k.ledger k.fostering k.context k.first

use Rattle.html_builder.proofs.Saying.{foreign-fragment}
use Rattle.html_construction.specs.Built.{nothing_of}
use Rattle.html_builder.specs.Contexts.{context_tag, setting_of}
use Rattle.html_builder.proofs.builder.Builder.foreign_fragment.Goals as goal

pub returns-clause-begun : goal.returns-clause-begun
returns-clause-begun c =
    let k = c.in_ok-construction.ensures in
    foreign-fragment (context_tag c.args.context.now) c.args.context.now.in_form c.args.limits c.in_ok-construction.construction c.parse_foreign.new.self c.parse_foreign.ensures.rest
    (c.parse_foreign.ensures.keeps (nothing_of (setting_of c.args.context.now) c.args.limits) k.built)
    k.reset k.stack k.nodes k.uncloned k.implied k.counted k.founded k.first

use Rattle.std.proofs.Common.{false, refl, subst}
use Rattle.std.specs.Prelude.{Some}
use Rattle.html_ledger.specs.declared.setting.Setting.TheVariants.{Fragment}
use Rattle.html_construction.specs.Beginning.{IsFirst}
use Rattle.html_construction.specs.Built.{IsBuilt, nothing_of}
use Rattle.html_builder.specs.Contexts.{context_tag}
use Rattle.html_builder.proofs.Handing.{begun-fragment}
use Rattle.html_builder.proofs.builder.Builder.fragment_within.Goals as goal

pub returns-clause-begun : goal.returns-clause-begun
returns-clause-begun c =
    begun-fragment (context_tag c.args.context.now) c.args.context.now.in_form (Some c.args.limits) (record { page = c.in_ok-construction.construction; entries = 0; stopped = false }) refl refl
    (subst (λ t. IsBuilt (nothing_of (Fragment t c.args.context.now.in_form) (Some c.args.limits)) c.in_ok-construction.construction) c.tag.ensures.value c.in_ok-construction.ensures.built)
    c.in_ok-construction.ensures.reset c.in_ok-construction.ensures.stack c.in_ok-construction.ensures.nodes c.in_ok-construction.ensures.uncloned
    c.in_ok-construction.ensures.implied c.in_ok-construction.ensures.counted c.in_ok-construction.ensures.founded
    (subst (λ t. IsFirst (Fragment t c.args.context.now.in_form) (Some c.args.limits) c.in_ok-construction.construction) c.tag.ensures.value c.in_ok-construction.ensures.first)

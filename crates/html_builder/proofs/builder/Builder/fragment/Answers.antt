use Rattle.std.proofs.Common.{false, refl, subst}
use Rattle.std.specs.Prelude.{None}
use Rattle.html_ledger.specs.declared.setting.Setting.TheVariants.{Fragment}
use Rattle.html_construction.specs.Beginning.{IsFirst}
use Rattle.html_construction.specs.Built.{IsBuilt, nothing_of}
use Rattle.html_builder.specs.Contexts.{context_tag}
use Rattle.html_builder.proofs.Handing.{begun-fragment}
use Rattle.html_builder.proofs.builder.Builder.fragment.Goals as goal

pub returns-clause-begun : goal.returns-clause-begun
returns-clause-begun c =
    begun-fragment (context_tag c.args.context.now) c.args.context.now.in_form None (record { page = c.in_ok-begun.begun; entries = 0; stopped = false }) refl refl
    (subst (λ t. IsBuilt (nothing_of (Fragment t c.args.context.now.in_form) None) c.in_ok-begun.begun) c.tag.ensures.value c.in_ok-begun.ensures.built)
    c.in_ok-begun.ensures.reset c.in_ok-begun.ensures.stack c.in_ok-begun.ensures.nodes c.in_ok-begun.ensures.uncloned
    c.in_ok-begun.ensures.implied c.in_ok-begun.ensures.counted c.in_ok-begun.ensures.founded
    (subst (λ t. IsFirst (Fragment t c.args.context.now.in_form) None c.in_ok-begun.begun) c.tag.ensures.value c.in_ok-begun.ensures.first)

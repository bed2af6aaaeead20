use Rattle.std.proofs.Common.{Bool, ap, false, subst, sym, true, ◌≡◌, ◌∙◌}
use Rattle.std.specs.List.{list_all}
use Rattle.html_construction.specs.Built.{is_native}
use Rattle.html_ledger.specs.declared.setting.Setting.TheVariants.{Document}
use Rattle.html_builder.specs.Builders.{BuilderState}
use Rattle.html_builder.specs.Handed.{Handed, parses_foreign}
use Rattle.html_builder.specs.Plain.{HavePlainFates}
use Rattle.html_builder.specs.Built.{IsBuiltByRules}
use Rattle.html_builder.proofs.Endings.{bounded, built-by-rules, entries-most, native, outcome, within}
use Rattle.html_builder.proofs.Plainly.{page-fates, page-shown}
use Rattle.html_builder.proofs.builder.Builder.finish.Goals as goal

pub returns-clause-outcome : goal.returns-clause-outcome
returns-clause-outcome c = λ s l ts h e.
    outcome s l ts (record { page = c.self.inside.construction; entries = c.self.inside.entries; stopped = c.self.inside.stopped }) c.into_parts.result.0 c.into_parts.result.1 c.into_parts.result.2.items
    (subst (λ b. Handed s l ts b) (sym c.self.view_is) h) e
    c.into_parts.ensures.nodes c.into_parts.ensures.well_formed c.into_parts.ensures.body c.into_parts.ensures.fates c.into_parts.ensures.fated c.into_parts.ensures.told c.into_parts.ensures.seats

pub returns-clause-bounds : goal.returns-clause-bounds
returns-clause-bounds c = λ s l ts h n k.
    bounded s l ts (record { page = c.self.inside.construction; entries = c.self.inside.entries; stopped = c.self.inside.stopped }) n c.into_parts.result.0
    (subst (λ b. Handed s l ts b) (sym c.self.view_is) h) k c.into_parts.ensures.nodes c.into_parts.ensures.well_formed c.into_parts.ensures.held c.into_parts.ensures.steps

pub returns-clause-entries : goal.returns-clause-entries
returns-clause-entries c = λ s l ts h n k. entries-most s l ts c.args.self n h k

pub returns-clause-plain : goal.returns-clause-plain
returns-clause-plain c = λ l ts h page p e.
    let k : Handed Document l ts (record { page = c.self.inside.construction; entries = c.self.inside.entries; stopped = c.self.inside.stopped }) = subst (λ b. Handed Document l ts b) (sym c.self.view_is) h in
    page-shown ts c.self.inside.construction page p e k.plain c.into_parts.result.0 c.into_parts.ensures.nodes

pub returns-clause-plain_fates : goal.returns-clause-plain_fates
returns-clause-plain_fates c = λ l ts h page p e.
    let k : Handed Document l ts (record { page = c.self.inside.construction; entries = c.self.inside.entries; stopped = c.self.inside.stopped }) = subst (λ b. Handed Document l ts b) (sym c.self.view_is) h in
    subst (HavePlainFates ts) (sym c.into_parts.ensures.fates) (page-fates ts c.self.inside.construction page p e k.plain)

pub returns-clause-native : goal.returns-clause-native
returns-clause-native c = λ s l ts h p f. subst (λ fs. list_all is_native fs ≡ true) (sym c.into_parts.ensures.fates)
    (native s l ts (record { page = c.self.inside.construction; entries = c.self.inside.entries; stopped = c.self.inside.stopped }) (subst (λ b. Handed s l ts b) (sym c.self.view_is) h)
    (subst (λ (b : BuilderState). parses_foreign b ≡ false) (sym c.self.view_is) p) f)

pub returns-clause-within : goal.returns-clause-within
returns-clause-within c = λ s l ts h.
    within s l ts (record { page = c.self.inside.construction; entries = c.self.inside.entries; stopped = c.self.inside.stopped }) c.into_parts.result.0
    (subst (λ b. Handed s l ts b) (sym c.self.view_is) h) c.into_parts.ensures.nodes c.into_parts.ensures.within

pub returns-clause-tree : goal.returns-clause-tree
returns-clause-tree c = c.into_parts.ensures.nodes ∙ ap (λ (b : BuilderState). b.page.tree.tree) c.self.view_is

pub returns-clause-built : goal.returns-clause-built
returns-clause-built c = λ s l ts h.
    subst (λ (f : Bool). IsBuiltByRules s l f ts c.into_parts.result.1 c.into_parts.result.0) (ap (λ (b : BuilderState). parses_foreign b) c.self.view_is)
    (built-by-rules s l ts (record { page = c.self.inside.construction; entries = c.self.inside.entries; stopped = c.self.inside.stopped }) c.into_parts.result.0 c.into_parts.result.1
    (subst (λ b. Handed s l ts b) (sym c.self.view_is) h) c.into_parts.ensures.nodes c.into_parts.ensures.fates)

use Rattle.std.proofs.Common.{◌≡◌, ◌∙◌, false, refl, subst, sym}
use Rattle.std.specs.Prelude.{IfSome}
use Rattle.html_construction.specs.Begun.{IsFounded}
use Rattle.html_modes.specs.Begun.{ignores_foreign}
use Rattle.html_modes.specs.Steps.{root_of}
use Rattle.html_builder.specs.Handed.{fates_of}
use Rattle.html_builder.proofs.Saying.{foreign-refused, refused-other, said-by, viewed-parses}
use Rattle.html_builder.proofs.Handing.{cause-at, cause-foreign, foreign-outside, refusal-outside, told-at, viewed-gives, viewed-grown, viewed-one, viewed-token}
use Rattle.html_builder.proofs.builder.Builder.process_other.Goals as goal

pub returns-in-Ok-None-clause-takes : goal.returns-in-Ok-None-clause-takes
returns-in-Ok-None-clause-takes c =
    viewed-token c.args.token.now.kind c.of-symbol.result (record { page = c.self.inside.construction; entries = c.self.inside.entries; stopped = c.self.inside.stopped }) c.args.self.now (record { page = c.take.new.page; entries = c.take.new.entries; stopped = false }) c.self.view_is c.of-symbol.ensures.value
    (c.in-Ok-None.ensures.takes c.in-Ok-None.field-0-is) (c.in-Ok-None.ensures.pays c.in-Ok-None.field-0-is) (c.in-Ok-None.ensures.enters c.in-Ok-None.field-0-is) (c.in-Ok-None.ensures.toils c.in-Ok-None.field-0-is) (c.in-Ok-None.ensures.plain c.in-Ok-None.field-0-is)
    (c.in-Ok-None.ensures.opens c.in-Ok-None.field-0-is) (c.in-Ok-None.ensures.adds c.in-Ok-None.field-0-is) (c.in-Ok-None.ensures.ends c.in-Ok-None.field-0-is) (c.in-Ok-None.ensures.founded c.in-Ok-None.field-0-is) c.in-Ok-None.ensures.parses (c.in-Ok-None.ensures.entries c.in-Ok-None.field-0-is) refl

pub returns-in-Ok-None-clause-leads : goal.returns-in-Ok-None-clause-leads
returns-in-Ok-None-clause-leads c =
    viewed-one c.args.token.now.kind c.of-symbol.result (record { page = c.self.inside.construction; entries = c.self.inside.entries; stopped = c.self.inside.stopped }) c.args.self.now (record { page = c.take.new.page; entries = c.take.new.entries; stopped = false }) c.self.view_is c.of-symbol.ensures.value
    (c.in-Ok-None.ensures.entries c.in-Ok-None.field-0-is)

pub returns-in-Ok-None-clause-grows : goal.returns-in-Ok-None-clause-grows
returns-in-Ok-None-clause-grows c =
    viewed-grown c.args.token.now.kind (record { page = c.self.inside.construction; entries = c.self.inside.entries; stopped = c.self.inside.stopped }) c.args.self.now (record { page = c.take.new.page; entries = c.take.new.entries; stopped = false }) c.self.view_is
    (c.in-Ok-None.ensures.takes c.in-Ok-None.field-0-is)

pub returns-in-Ok-Some-clause-cause : goal.returns-in-Ok-Some-clause-cause
returns-in-Ok-Some-clause-cause c = λ s l ts h.
    cause-foreign s l ts c.args.self.now c.args.token.now.kind c.args.token.now.span.start c.in-Ok-Some.name h
    (sym c.of-symbol.ensures.value ∙ subst (λ f. IfSome f (λ name. c.of-symbol.result ≡ root_of name)) c.in-Ok-Some.field-0-is c.in-Ok-Some.ensures.foreign)

pub returns-in-Err-clause-told : goal.returns-in-Err-clause-told
returns-in-Err-clause-told c = λ s l ts h.
    told-at s l ts (record { page = c.self.inside.construction; entries = c.self.inside.entries; stopped = c.self.inside.stopped }) c.args.self.now c.args.token.now.kind c.in-Err.refusal c.args.token.now.span.start c.take.new.page _ c.self.view_is c.in-Err.ensures.refuses c.at.ensures.value h

pub returns-in-Err-clause-cause : goal.returns-in-Err-clause-cause
returns-in-Err-clause-cause c = λ s l ts h.
    cause-at s l ts (fates_of c.args.self.now) (record { page = c.self.inside.construction; entries = c.self.inside.entries; stopped = c.self.inside.stopped }) c.args.self.now c.args.token.now.kind c.in-Err.refusal c.args.token.now.span.start c.take.new.page _ c.self.view_is c.in-Err.ensures.refuses c.at.ensures.value h

pub returns-in-Ok-None-clause-gives : goal.returns-in-Ok-None-clause-gives
returns-in-Ok-None-clause-gives c =
    viewed-gives (record { page = c.self.inside.construction; entries = c.self.inside.entries; stopped = c.self.inside.stopped }) c.args.self.now (record { page = c.take.new.page; entries = c.take.new.entries; stopped = false }) c.self.view_is (c.in-Ok-None.ensures.gives c.in-Ok-None.field-0-is)

pub returns-in-Ok-Some-clause-foreign : goal.returns-in-Ok-Some-clause-foreign
returns-in-Ok-Some-clause-foreign c = λ s l ts h.
    foreign-outside (record { page = c.self.inside.construction; entries = c.self.inside.entries; stopped = c.self.inside.stopped }) c.args.self.now s l ts c.in-Ok-Some.name c.args.token.now.span.start _ c.self.view_is h
    (subst (λ f. IfSome f (λ name. IsFounded c.self.inside.construction → ignores_foreign c.self.inside.construction.mode ≡ false)) c.in-Ok-Some.field-0-is c.in-Ok-Some.ensures.ignores) refl

pub returns-in-Err-clause-foreign : goal.returns-in-Err-clause-foreign
returns-in-Err-clause-foreign c = λ s l ts h. refusal-outside c.args.self.now.page.mode c.in-Err.refusal c.args.token.now.span.start _ c.at.ensures.value

pub returns-in-Ok-None-clause-said : goal.returns-in-Ok-None-clause-said
returns-in-Ok-None-clause-said c = said-by c.args.token.now.kind c.of-symbol.result c.mode_said.result c.take.new.page (sym c.of-symbol.ensures.value) c.mode_said.ensures.value

pub returns-in-Ok-None-clause-parses : goal.returns-in-Ok-None-clause-parses
returns-in-Ok-None-clause-parses c =
    viewed-parses (record { page = c.self.inside.construction; entries = c.self.inside.entries; stopped = c.self.inside.stopped }) c.args.self.now (record { page = c.take.new.page; entries = c.take.new.entries; stopped = false }) c.self.view_is
    c.in-Ok-None.ensures.parses

pub returns-in-Ok-Some-clause-refused : goal.returns-in-Ok-Some-clause-refused
returns-in-Ok-Some-clause-refused c =
    foreign-refused (record { page = c.self.inside.construction; entries = c.self.inside.entries; stopped = c.self.inside.stopped }) c.args.self.now c.in-Ok-Some.name c.args.token.now.span.start _ c.self.view_is
    (subst (λ f. IfSome f (λ name. c.self.inside.construction.parses_foreign ≡ false)) c.in-Ok-Some.field-0-is c.in-Ok-Some.ensures.refused) refl

pub returns-in-Err-clause-refused : goal.returns-in-Err-clause-refused
returns-in-Err-clause-refused c = refused-other c.args.self.now c.in-Err.refusal c.args.token.now.span.start _ c.at.ensures.value

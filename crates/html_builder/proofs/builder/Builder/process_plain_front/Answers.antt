use Rattle.std.proofs.Common.{refl, take, false, arith}
use Rattle.html_construction.specs.Built.{chars_of}
use Rattle.html_builder.specs.Handed.{fates_of}
use Rattle.html_builder.proofs.Handing.{going-not, take-some, taken-enters, text-cause-at, text-told-at, viewed-added, viewed-counts, viewed-enters, viewed-gives, viewed-leads, viewed-run}
use Rattle.html_builder.proofs.Saying.{viewed-parses}
use Rattle.html_builder.proofs.builder.Builder.process_plain_front.Goals as goal

pub returns-then-self-clause-cause : goal.returns-then-self-clause-cause
returns-then-self-clause-cause c = λ s l ts h.
    going-not s l ts (record { page = c.self.inside.construction; entries = c.self.inside.entries; stopped = c.self.inside.stopped }) c.args.self.now c.self.view_is c.if-self.true h

pub returns-in-Ok-clause-takes : goal.returns-in-Ok-clause-takes
returns-in-Ok-clause-takes c =
    viewed-run (take c.in-Ok.count c.args.text.now) (record { page = c.self.inside.construction; entries = c.self.inside.entries; stopped = c.self.inside.stopped }) c.args.self.now _ c.self.view_is
    c.in-Ok.ensures.takes c.in-Ok.ensures.pays (taken-enters c.in-Ok.count c.args.text.now c.self.inside.entries c.take_plain_front.new.entries c.self.inside.construction c.take_plain_front.new.page c.in-Ok.ensures.count.1 c.in-Ok.ensures.enters) c.in-Ok.ensures.toils c.in-Ok.ensures.plain c.in-Ok.ensures.adds (take-some c.in-Ok.count c.args.text.now c.in-Ok.ensures.count.0 c.requires.some) c.in-Ok.ensures.founded c.in-Ok.ensures.parses c.in-Ok.ensures.constructs refl

pub returns-in-Ok-clause-leads : goal.returns-in-Ok-clause-leads
returns-in-Ok-clause-leads c =
    viewed-leads (chars_of (take c.in-Ok.count c.args.text.now)) (record { page = c.self.inside.construction; entries = c.self.inside.entries; stopped = c.self.inside.stopped }) c.args.self.now (record { page = c.take_plain_front.new.page; entries = c.take_plain_front.new.entries; stopped = false }) c.self.view_is
    c.in-Ok.ensures.constructs

pub returns-in-Ok-clause-counts : goal.returns-in-Ok-clause-counts
returns-in-Ok-clause-counts c =
    viewed-counts (take c.in-Ok.count c.args.text.now) (record { page = c.self.inside.construction; entries = c.self.inside.entries; stopped = c.self.inside.stopped }) c.args.self.now (record { page = c.take_plain_front.new.page; entries = c.take_plain_front.new.entries; stopped = false }) c.self.view_is
    c.in-Ok.ensures.each

pub returns-in-Ok-clause-grows : goal.returns-in-Ok-clause-grows
returns-in-Ok-clause-grows c =
    viewed-added (take c.in-Ok.count c.args.text.now) (record { page = c.self.inside.construction; entries = c.self.inside.entries; stopped = c.self.inside.stopped }) c.args.self.now (record { page = c.take_plain_front.new.page; entries = c.take_plain_front.new.entries; stopped = false }) c.self.view_is
    c.in-Ok.ensures.takes

pub returns-in-Err-clause-told : goal.returns-in-Err-clause-told
returns-in-Err-clause-told c = λ s l ts h.
    text-told-at s l ts (record { page = c.self.inside.construction; entries = c.self.inside.entries; stopped = c.self.inside.stopped }) c.args.self.now c.in-Err.lack c.args.at c.take_plain_front.new.page _ c.self.view_is c.in-Err.ensures.refuses c.at.ensures.value h

pub returns-in-Err-clause-cause : goal.returns-in-Err-clause-cause
returns-in-Err-clause-cause c = λ s l ts h.
    text-cause-at s l ts (fates_of c.args.self.now) (take 1 c.args.text.now) (record { page = c.self.inside.construction; entries = c.self.inside.entries; stopped = c.self.inside.stopped }) c.args.self.now c.in-Err.lack c.args.at c.take_plain_front.new.page _ (take-some 1 c.args.text.now (omega arith) c.requires.some) c.self.view_is c.in-Err.ensures.refuses c.at.ensures.value h

pub returns-in-Ok-clause-gives : goal.returns-in-Ok-clause-gives
returns-in-Ok-clause-gives c = viewed-gives (record { page = c.self.inside.construction; entries = c.self.inside.entries; stopped = c.self.inside.stopped }) c.args.self.now (record { page = c.take_plain_front.new.page; entries = c.take_plain_front.new.entries; stopped = false }) c.self.view_is c.in-Ok.ensures.gives

pub returns-in-Ok-clause-enters : goal.returns-in-Ok-clause-enters
returns-in-Ok-clause-enters c = viewed-enters (record { page = c.self.inside.construction; entries = c.self.inside.entries; stopped = c.self.inside.stopped }) c.args.self.now (record { page = c.take_plain_front.new.page; entries = c.take_plain_front.new.entries; stopped = false }) c.self.view_is c.in-Ok.ensures.out

pub returns-in-Ok-clause-parses : goal.returns-in-Ok-clause-parses
returns-in-Ok-clause-parses c =
    viewed-parses (record { page = c.self.inside.construction; entries = c.self.inside.entries; stopped = c.self.inside.stopped }) c.args.self.now (record { page = c.take_plain_front.new.page; entries = c.take_plain_front.new.entries; stopped = false }) c.self.view_is
    c.in-Ok.ensures.parses

use Rattle.std.proofs.Common.{◌∷◌, [], subst}
use Rattle.html_construction.specs.Built.{chars_of}
use Rattle.html_builder.specs.Handed.{CountsEach, HandsIn, LeadsTo}
use Rattle.html_builder.proofs.Handing.{front-one}
use Rattle.html_builder.proofs.builder.Builder.process_char.Goals as goal

pub returns-clause-takes : goal.returns-clause-takes
returns-clause-takes c = subst (λ cs. HandsIn (chars_of cs) c.args.self.now c.process_front.new.self) (front-one c.in_ok-process_front.field-0 c.args.c c.in_ok-process_front.ensures.count.0) c.in_ok-process_front.ensures.takes

pub returns-clause-leads : goal.returns-clause-leads
returns-clause-leads c = subst (λ cs. LeadsTo (chars_of cs) c.args.self.now c.process_front.new.self) (front-one c.in_ok-process_front.field-0 c.args.c c.in_ok-process_front.ensures.count.0) c.in_ok-process_front.ensures.leads

pub returns-clause-counts : goal.returns-clause-counts
returns-clause-counts c = subst (λ cs. CountsEach cs c.args.self.now c.process_front.new.self) (front-one c.in_ok-process_front.field-0 c.args.c c.in_ok-process_front.ensures.count.0) c.in_ok-process_front.ensures.counts

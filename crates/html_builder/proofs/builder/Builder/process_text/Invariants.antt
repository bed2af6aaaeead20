use Rattle.std.proofs.Common.{◌≡◌, ◌-◌, ◌<◌, ◌≤◌, false, length, take}
use Rattle.html_construction.specs.Built.{chars_of}
use Rattle.html_builder.specs.Handed.{AddsFates, CountsEach, EntersNone, GivesFates, HandsIn, LeadsTo, parses_foreign}
use Rattle.html_builder.proofs.builder.Builder.process_text.Given as goal

abbrev pub invariant-taking : goal.invariant-taking
invariant-taking l = record {
  takes : HandsIn (chars_of (take l.taken l.text)) l.initial.self l.self;
  leads : LeadsTo (chars_of (take l.taken l.text)) l.initial.self l.self;
  counts : CountsEach (take l.taken l.text) l.initial.self l.self;
  grows : AddsFates l.initial.self l.self;
  gives : GivesFates l.initial.self l.self;
  enters : EntersNone l.initial.self l.self;
  stopped : l.self.stopped ≡ l.initial.self.stopped;
  parses : parses_foreign l.self ≡ parses_foreign l.initial.self;
  ready : 0 < l.taken → l.initial.self.stopped ≡ false;
  most : l.taken ≤ length l.text;
}

abbrev pub decreases-taking : goal.decreases-taking
decreases-taking l = length l.text - l.taken

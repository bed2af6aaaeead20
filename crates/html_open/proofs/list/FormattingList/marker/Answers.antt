use Rattle.std.proofs.Common.{rules, ◌≡◌, [], ◌∷◌, ◌++◌, ◌∙◌, ap}
use Rattle.html_open.specs.declared.entry.Entry.TheVariants.{Marker}
use Rattle.html_open.specs.Entries.{has_node}
use Rattle.html_open.proofs.Keeps.{marker-keeps}
use Rattle.html_open.proofs.Lasting.{entries-marked, fewer-free}
use Rattle.html_open.proofs.list.FormattingList.marker.Goals as goal

pub returns-clause-keeps : goal.returns-clause-keeps
returns-clause-keeps c = λ s k. marker-keeps s c.args.self.now c.push.new.self.items c.args.arena.now c.charge.new.self 1 (search rules) c.charge.ensures k

pub returns-clause-fewer : goal.returns-clause-fewer
returns-clause-fewer c = λ x h.
    let e : c.push.new.self.items ≡ c.args.self.now ++ Marker ∷ [] = search rules in
    ap (has_node x) e ∙ entries-marked c.args.self.now x h

pub returns-clause-first_free : goal.returns-clause-first_free
returns-clause-first_free c = λ s h. fewer-free s c.args.self.now c.push.new.self.items (returns-clause-fewer c) h

use Rattle.std.proofs.Common.{List, ◌++◌, ℕ, take}
use Rattle.zilqumet_rows.specs.Texts.{AreTexts, all_texts}
use Rattle.zilqumet_rows.proofs.gathered.Gathered.add_all.Given as goal

abbrev pub invariant-nodes : goal.invariant-nodes
invariant-nodes l = (texts : List (List ℕ)) → AreTexts l.initial.self.bytes.items l.initial.self.ends.items texts
    → AreTexts l.self.bytes.items l.self.ends.items (texts ++ all_texts (take l.i l.arena.labels))

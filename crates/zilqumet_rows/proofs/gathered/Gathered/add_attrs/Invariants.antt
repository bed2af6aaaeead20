use Rattle.std.proofs.Common.{List, ◌++◌, ℕ, take}
use Rattle.zilqumet_rows.specs.Texts.{AreTexts, attr_texts}
use Rattle.zilqumet_rows.proofs.gathered.Gathered.add_attrs.Given as goal

abbrev pub invariant-attrs : goal.invariant-attrs
invariant-attrs l = (texts : List (List ℕ)) → AreTexts l.initial.self.bytes.items l.initial.self.ends.items texts
    → AreTexts l.self.bytes.items l.self.ends.items (texts ++ attr_texts (take l.i l.attrs))

use Rattle.std.proofs.Common.{◌≡◌, ◌+◌, ◌≤◌, length, take}
use Rattle.html_tree.specs.OpenTags.{tags_down}
use Rattle.html_construction.specs.Built.{Keeps}
use Rattle.html_construction.specs.Calls.{IsTree}
use Rattle.html_construction.specs.Grown.{Grown}
use Rattle.html_construction.specs.Resetting.{select_mode}
use Rattle.html_construction.specs.Works.{reach_of, toll_of}
use Rattle.html_construction.proofs.construction.Construction.mode_of_select.Given as goal

abbrev pub invariant-looking : goal.invariant-looking
invariant-looking l = record {
  rest : l.self ≡ record l.initial.self { tree = l.self.tree };
  keeps : Keeps l.initial.self l.self;
  grown : Grown 0 0 0 0 0 l.initial.self l.self;
  reach : reach_of l.initial.self ≤ reach_of l.self;
  toll : toll_of l.initial.self ≤ toll_of l.self;
  counted : l.self.tree.steps + l.index ≤ l.initial.self.tree.steps + l.select;
  below : l.index ≤ length l.self.stack;
  same : IsTree l.initial.self.tree l.self;
  left : select_mode (tags_down l.initial.self.tree.tree (take l.index l.initial.self.tree.stack)) ≡ select_mode (tags_down l.initial.self.tree.tree (take l.select l.initial.self.tree.stack));
}

abbrev pub decreases-looking : goal.decreases-looking
decreases-looking l = l.index

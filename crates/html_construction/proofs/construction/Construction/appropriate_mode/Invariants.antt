use Rattle.std.proofs.Common.{◌≡◌, ◌+◌, ◌≤◌, length, take}
use Rattle.html_tree.specs.OpenTags.{open_tags, tags_down}
use Rattle.html_construction.specs.Built.{Keeps}
use Rattle.html_construction.specs.Calls.{IsTree}
use Rattle.html_construction.specs.Grown.{Grown}
use Rattle.html_construction.specs.Resetting.{reset_mode}
use Rattle.html_construction.specs.Works.{reach_of, toll_of}
use Rattle.html_construction.proofs.construction.Construction.appropriate_mode.Given as goal

abbrev pub invariant-looking : goal.invariant-looking
invariant-looking l = record {
  rest : l.self ≡ record l.initial.self { tree = l.self.tree };
  keeps : Keeps l.initial.self l.self;
  grown : Grown 0 0 0 0 0 l.initial.self l.self;
  reach : reach_of l.initial.self ≤ reach_of l.self;
  toll : toll_of l.initial.self ≤ toll_of l.self;
  counted : l.self.tree.steps + l.index ≤ l.initial.self.tree.steps + length l.initial.self.stack;
  below : l.index ≤ length l.self.stack;
  same : IsTree l.initial.self.tree l.self;
  left : reset_mode l.initial.self.context l.initial.self.tree.head l.initial.self.templates (tags_down l.initial.self.tree.tree (take l.index l.initial.self.tree.stack)) ≡ reset_mode l.initial.self.context l.initial.self.tree.head l.initial.self.templates (open_tags l.initial.self.tree);
}

abbrev pub decreases-looking : goal.decreases-looking
decreases-looking l = l.index

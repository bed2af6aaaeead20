use Rattle.std.proofs.Common.{◌-◌, ◌<◌, ap, arith, length, rules, subst}
use Rattle.std.proofs.lemmas.Grind.{common_steps}
use Rattle.html_tree.specs.States.{State as Tree}
use Rattle.html_construction.specs.States.{State}
use Rattle.html_construction.proofs.Resetting.{met-other, met-table, met-template, same-again}
use Rattle.html_construction.proofs.construction.Construction.mode_of_select.Goals as goal

pub returns-in-Template-clause-mode : goal.returns-in-Template-clause-mode
returns-in-Template-clause-mode c =
    met-template c.args.self.now.tree c.looking.self.tree c.tag_at.new.self.tree c.args.select c.looking.index (c.looking.index - 1) c.tag_at.result c.looking.invariant.same.tree_is (ap (λ (x : State). x.tree) c.tag_at.ensures.same)
    (omega arith) (subst (λ (x : Tree). c.looking.index - 1 < length x.stack) c.looking.invariant.same.tree_is c.tag_at.ensures.within) c.tag_at.ensures.tag c.looking.invariant.left c.in-Template.is

pub returns-in-Table-clause-mode : goal.returns-in-Table-clause-mode
returns-in-Table-clause-mode c =
    met-table c.args.self.now.tree c.looking.self.tree c.tag_at.new.self.tree c.args.select c.looking.index (c.looking.index - 1) c.tag_at.result c.looking.invariant.same.tree_is (ap (λ (x : State). x.tree) c.tag_at.ensures.same)
    (omega arith) (subst (λ (x : Tree). c.looking.index - 1 < length x.stack) c.looking.invariant.same.tree_is c.tag_at.ensures.within) c.tag_at.ensures.tag c.looking.invariant.left c.in-Table.is

pub looking-preserved : goal.looking-preserved
looking-preserved c = record {
  rest = first_of (search rules, grind (arith, common_steps));
  keeps = first_of (search rules, grind (arith, common_steps));
  grown = first_of (search rules, grind (arith, common_steps));
  reach = first_of (search rules, grind (arith, common_steps));
  toll = first_of (search rules, grind (arith, common_steps));
  counted = first_of (search rules, grind (arith, common_steps));
  below = first_of (search rules, grind (arith, common_steps));
  same = same-again c.args.self.now.tree c.looking.self.tree c.tag_at.new.self c.looking.invariant.same.tree_is (ap (λ (x : State). x.tree) c.tag_at.ensures.same);
  left = met-other c.args.self.now.tree c.looking.self.tree c.tag_at.new.self.tree c.args.select c.looking.index (c.looking.index - 1) c.tag_at.result c.looking.invariant.same.tree_is (ap (λ (x : State). x.tree) c.tag_at.ensures.same)
      (omega arith) (subst (λ (x : Tree). c.looking.index - 1 < length x.stack) c.looking.invariant.same.tree_is c.tag_at.ensures.within) c.tag_at.ensures.tag c.looking.invariant.left c.in_default.not-Template c.in_default.not-Table;
}

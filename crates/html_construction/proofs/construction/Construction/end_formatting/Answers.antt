use Rattle.std.proofs.Common.{ℕ, List, ◌≡◌, ◌∙◌, refl, sym, subst, ap}
use Rattle.std.specs.Str.{chars}
use Rattle.html_tree.proofs.Spelled.{chars-name}
use Rattle.html_open.specs.declared.adoption.AdoptEnd.TheVariants.{Done, OtherEndTag}
use Rattle.html_tree.specs.Closing.{before_index}
use Rattle.html_tree.specs.Searching.{found_name}
use Rattle.html_arena.specs.Tree.{tag_at}
use Rattle.html_tree.specs.States.{State as Tree}
use Rattle.std.proofs.Common.{rules}
use Rattle.html_construction.proofs.Doing.{adopting}
use Rattle.html_construction.proofs.construction.Construction.end_formatting.Goals as goal

pub returns-in-OtherEndTag-clause-exact : goal.returns-in-OtherEndTag-clause-exact
returns-in-OtherEndTag-clause-exact c = record {
  end = c.in_ok-adopt.field-0;
  middle = c.adopt.new.self.tree;
  adopted = c.in_ok-adopt.ensures.exact;
  done = λ e. absurd (let k : OtherEndTag ≡ Done = sym c.in-OtherEndTag.is ∙ e in cc);
  other = λ e. subst (λ (name : List ℕ). c.close_named.new.self.tree ≡ record c.adopt.new.self.tree { stack = before_index (found_name c.adopt.new.self.tree name) c.adopt.new.self.tree.stack; steps = c.close_named.new.self.tree.steps })
      (chars-name c.args.tag c.name.result.now (chars c.name.result.now) c.name.utf8 c.name.ensures.value c.name.ensures.back refl) c.close_named.ensures.exact.tree_is;
}

pub returns-in-OtherEndTag-clause-tags_stay : goal.returns-in-OtherEndTag-clause-tags_stay
returns-in-OtherEndTag-clause-tags_stay c = λ x b. ap (λ (t : Tree). tag_at t.tree x) c.close_named.ensures.exact.tree_is ∙ c.in_ok-adopt.ensures.tags_stay x b

pub returns-in-Done-clause-follows : goal.returns-in-Done-clause-follows
returns-in-Done-clause-follows c = adopting c.args.tag c.args.self.now _ (search rules) (search rules) (search rules)

pub returns-in-OtherEndTag-clause-follows : goal.returns-in-OtherEndTag-clause-follows
returns-in-OtherEndTag-clause-follows c = adopting c.args.tag c.args.self.now _ (search rules) (search rules) (returns-in-OtherEndTag-clause-exact c)

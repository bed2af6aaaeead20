use Rattle.std.proofs.Common.{rules, ◌∙◌, ap}
use Rattle.html_names.specs.Sets.{is_formatting}
use Rattle.html_arena.specs.Tree.{tag_at}
use Rattle.html_tree.proofs.Seating.{formatting-carries}
use Rattle.html_tree.specs.States.{State as Tree}
use Rattle.html_construction.proofs.Doing.{closing_link, link-moved, link-not, link-some, moved}
use Rattle.html_construction.proofs.construction.Construction.close_link.Goals as goal

pub remove_open-requires-clause-plain : goal.remove_open-requires-clause-plain
remove_open-requires-clause-plain c =
    formatting-carries _ (ap (λ (t : Tree). is_formatting (tag_at t.tree c.in-Some.link)) c.unlist.ensures.exact.tree_is
    ∙ (ap is_formatting (c.in_ok-end_formatting.ensures.tags_stay c.in-Some.link c.in-Some.ensures.node) ∙ c.in-Some.ensures.formatting))

pub returns-in_ok-end_formatting-clause-exact : goal.returns-in_ok-end_formatting-clause-exact
returns-in_ok-end_formatting-clause-exact c =
    link-some c.last_listed.result c.in-Some.link c.args.self.now c.last_listed.new.self c.end_formatting.new.self c.unlist.new.self c.remove_open.new.self c.last_listed.ensures.listed c.in-Some.is c.last_listed.ensures.rest
    c.last_listed.ensures.same c.in_ok-end_formatting.ensures.exact c.unlist.ensures.exact c.remove_open.ensures.exact

pub returns-in_ok-end_formatting-clause-follows : goal.returns-in_ok-end_formatting-clause-follows
returns-in_ok-end_formatting-clause-follows c =
    closing_link c.args.self.now c.remove_open.new.self
    (link-moved c.args.self.now c.last_listed.new.self c.end_formatting.new.self c.unlist.new.self c.remove_open.new.self c.last_listed.ensures.rest c.in_ok-end_formatting.ensures.rest c.unlist.ensures.rest c.remove_open.ensures.rest)
    (search rules)
    (link-some c.last_listed.result c.in-Some.link c.args.self.now c.last_listed.new.self c.end_formatting.new.self c.unlist.new.self c.remove_open.new.self c.last_listed.ensures.listed c.in-Some.is c.last_listed.ensures.rest
    c.last_listed.ensures.same c.in_ok-end_formatting.ensures.exact c.unlist.ensures.exact c.remove_open.ensures.exact)

pub returns-in_default-clause-follows : goal.returns-in_default-clause-follows
returns-in_default-clause-follows c =
    closing_link c.args.self.now c.last_listed.new.self (moved c.args.self.now c.last_listed.new.self c.last_listed.ensures.rest)
    (search rules)
    (link-not c.args.self.now.fostering c.last_listed.result c.args.self.now c.last_listed.new.self c.last_listed.ensures.listed c.in_default.not-Some c.last_listed.ensures.same)

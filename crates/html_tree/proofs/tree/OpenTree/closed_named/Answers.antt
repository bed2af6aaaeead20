use Rattle.std.proofs.Common.{◌≡◌, ◌<◌, ℕ, List, length, OnOk, IfOk, IfErr, sym, ◌∙◌, ap, subst}
use Rattle.html_tree.specs.Proper.{is_foreign_root}
use Rattle.html_names.specs.Names.{name_of, tag_of}
use Rattle.html_arena.specs.declared.data.NewNode.TheVariants.{Element}
use Rattle.html_arena.specs.Budget.{budget}
use Rattle.html_arena.specs.Make.{label_for, made_weight, nodes_made}
use Rattle.html_arena.specs.Tree.{tag_at}
use Rattle.html_arena.specs.Weight.{weight}
use Rattle.html_tree.specs.Inserting.{IsNodePassed, IsTold, with_new}
use Rattle.html_tree.specs.Seats.{is_part}
use Rattle.html_tree.specs.Since.{Grown}
use Rattle.html_tree.specs.Targets.{place_for}
use Rattle.html_tree.proofs.Spelled.{chars-name, if-err, lack-budget}
use Rattle.html_tree.proofs.tree.OpenTree.closed_named.Goals as goal

pub closed_new-requires-clause-part : goal.closed_new-requires-clause-part
closed_new-requires-clause-part c =
    ap (λ g. is_part g) (ap tag_of (chars-name c.args.tag c.name.result.now c.in_ok-name.name c.name.utf8 c.name.ensures.value c.name.ensures.back c.in_ok-name.ensures ∙ sym c.name.ensures.value) ∙ c.name.ensures.back) ∙ c.requires.part

pub closed_new-requires-clause-name : goal.closed_new-requires-clause-name
closed_new-requires-clause-name c =
    ap (λ g. is_foreign_root g) (ap tag_of (chars-name c.args.tag c.name.result.now c.in_ok-name.name c.name.utf8 c.name.ensures.value c.name.ensures.back c.in_ok-name.ensures ∙ sym c.name.ensures.value) ∙ c.name.ensures.back) ∙ c.requires.name

name-is : (c : goal.After-closed_new) → c.in_ok-name.name ≡ name_of c.args.tag
name-is c = chars-name c.args.tag c.name.result.now c.in_ok-name.name c.name.utf8 c.name.ensures.value c.name.ensures.back c.in_ok-name.ensures

pub returns-clause-exact : goal.returns-clause-exact
returns-clause-exact c =
    subst (λ (n : List ℕ). OnOk c.closed_new.result (c.closed_new.new.self ≡ record c.args.self.now { tree = with_new c.args.self.now.tree (place_for c.args.self.now c.args.target) (Element n c.args.attrs c.args.origin); steps = c.closed_new.new.self.steps; tokens = c.args.next }))
    (name-is c) c.closed_new.ensures.exact

pub returns-clause-tag : goal.returns-clause-tag
returns-clause-tag c =
    subst (λ g. IfOk c.closed_new.result (λ id. (id < length c.closed_new.new.self.tree.labels) × (tag_at c.closed_new.new.self.tree id ≡ g)))
    (ap tag_of (name-is c ∙ sym c.name.ensures.value) ∙ c.name.ensures.back) c.closed_new.ensures.tag

pub returns-clause-grown : goal.returns-clause-grown
returns-clause-grown c =
    subst (λ (n : List ℕ). OnOk c.closed_new.result (Grown 2 0 0 (weight (label_for c.args.self.now.tree (Element n c.args.attrs c.args.origin))) c.args.self.now c.closed_new.new.self))
    (name-is c) c.closed_new.ensures.grown

pub returns-clause-cause : goal.returns-clause-cause
returns-clause-cause c =
    subst (λ (n : List ℕ). IfErr c.closed_new.result (λ e. IsTold c.args.self.now (Element n c.args.attrs c.args.origin) e)) (name-is c)
    (if-err c.closed_new.result c.closed_new.ensures.cause (λ e. lack-budget (budget c.args.self.now.tree (nodes_made (Element c.in_ok-name.name c.args.attrs c.args.origin)) (made_weight c.args.self.now.tree (Element c.in_ok-name.name c.args.attrs c.args.origin))) e))

pub returns-clause-told : goal.returns-clause-told
returns-clause-told c =
    subst (λ (n : List ℕ). IfErr c.closed_new.result (λ e. IsNodePassed c.args.self.now c.closed_new.new.self (Element n c.args.attrs c.args.origin) e)) (name-is c) c.closed_new.ensures.told

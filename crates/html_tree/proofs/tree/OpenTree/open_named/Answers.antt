use Rattle.std.proofs.Common.{◌≡◌, ◌<◌, ℕ, List, length, OnOk, IfOk, IfErr, sym, ◌∙◌, ap, subst, ◌∷◌}
use Rattle.html_tree.specs.Proper.{opens}
use Rattle.html_names.specs.Names.{name_of, tag_of}
use Rattle.html_arena.specs.declared.data.NewNode.TheVariants.{Element}
use Rattle.html_arena.specs.Budget.{budget}
use Rattle.html_arena.specs.Make.{label_for, made_weight, nodes_made}
use Rattle.html_arena.specs.Tree.{tag_at}
use Rattle.html_arena.specs.Weight.{weight}
use Rattle.html_tree.specs.Inserting.{CanBeFirst, IsNodePassed, IsTold, with_new, with_open}
use Rattle.html_tree.specs.Seats.{CanSeat}
use Rattle.html_tree.specs.Since.{Grown}
use Rattle.html_tree.specs.Targets.{place_for}
use Rattle.html_tree.proofs.Spelled.{chars-name, if-err, lack-budget}
use Rattle.html_tree.specs.OpenTags.{open_tags}
use Rattle.html_tree.proofs.tree.OpenTree.open_named.Goals as goal

pub open_new-requires-clause-first : goal.open_new-requires-clause-first
open_new-requires-clause-first c =
    subst (λ g. CanBeFirst c.args.self.now.stack g)
    (sym (ap tag_of (chars-name c.args.tag c.name.result.now c.in_ok-name.name c.name.utf8 c.name.ensures.value c.name.ensures.back c.in_ok-name.ensures ∙ sym c.name.ensures.value) ∙ c.name.ensures.back)) c.requires.first

pub open_new-requires-clause-seat : goal.open_new-requires-clause-seat
open_new-requires-clause-seat c =
    subst (λ g. CanSeat c.args.self.now g c.args.target)
    (sym (ap tag_of (chars-name c.args.tag c.name.result.now c.in_ok-name.name c.name.utf8 c.name.ensures.value c.name.ensures.back c.in_ok-name.ensures ∙ sym c.name.ensures.value) ∙ c.name.ensures.back)) c.requires.seat

pub open_new-requires-clause-name : goal.open_new-requires-clause-name
open_new-requires-clause-name c =
    ap (λ g. opens g) (ap tag_of (chars-name c.args.tag c.name.result.now c.in_ok-name.name c.name.utf8 c.name.ensures.value c.name.ensures.back c.in_ok-name.ensures ∙ sym c.name.ensures.value) ∙ c.name.ensures.back) ∙ c.requires.name

name-is : (c : goal.After-open_new) → c.in_ok-name.name ≡ name_of c.args.tag
name-is c = chars-name c.args.tag c.name.result.now c.in_ok-name.name c.name.utf8 c.name.ensures.value c.name.ensures.back c.in_ok-name.ensures

pub returns-clause-exact : goal.returns-clause-exact
returns-clause-exact c =
    subst (λ (n : List ℕ). OnOk c.open_new.result (c.open_new.new.self ≡ record c.args.self.now { stack = with_open c.args.self.now; tree = with_new c.args.self.now.tree (place_for c.args.self.now c.args.target) (Element n c.args.attrs c.args.origin); steps = c.open_new.new.self.steps; tokens = c.args.next }))
    (name-is c) c.open_new.ensures.exact

pub returns-clause-tag : goal.returns-clause-tag
returns-clause-tag c =
    subst (λ g. IfOk c.open_new.result (λ id. (id < length c.open_new.new.self.tree.labels) × (tag_at c.open_new.new.self.tree id ≡ g)))
    (ap tag_of (name-is c ∙ sym c.name.ensures.value) ∙ c.name.ensures.back) c.open_new.ensures.tag

pub returns-clause-grown : goal.returns-clause-grown
returns-clause-grown c =
    subst (λ (n : List ℕ). OnOk c.open_new.result (Grown 2 1 0 (weight (label_for c.args.self.now.tree (Element n c.args.attrs c.args.origin))) c.args.self.now c.open_new.new.self))
    (name-is c) c.open_new.ensures.grown

pub returns-clause-cause : goal.returns-clause-cause
returns-clause-cause c =
    subst (λ (n : List ℕ). IfErr c.open_new.result (λ e. IsTold c.args.self.now (Element n c.args.attrs c.args.origin) e)) (name-is c)
    (if-err c.open_new.result c.open_new.ensures.cause (λ e. lack-budget (budget c.args.self.now.tree (nodes_made (Element c.in_ok-name.name c.args.attrs c.args.origin)) (made_weight c.args.self.now.tree (Element c.in_ok-name.name c.args.attrs c.args.origin))) e))

pub returns-clause-tags : goal.returns-clause-tags
returns-clause-tags c =
    subst (λ g. OnOk c.open_new.result (open_tags c.open_new.new.self ≡ g ∷ open_tags c.args.self.now))
    (ap tag_of (name-is c ∙ sym c.name.ensures.value) ∙ c.name.ensures.back) c.open_new.ensures.tags

pub returns-clause-told : goal.returns-clause-told
returns-clause-told c =
    subst (λ (n : List ℕ). IfErr c.open_new.result (λ e. IsNodePassed c.args.self.now c.open_new.new.self (Element n c.args.attrs c.args.origin) e)) (name-is c) c.open_new.ensures.told

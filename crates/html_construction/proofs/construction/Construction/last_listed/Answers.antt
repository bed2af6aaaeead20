use Rattle.std.proofs.Common.{refl, ap, ◌∙◌, arith}
use Rattle.html_open.specs.Entries.{last_named}
use Rattle.html_construction.specs.States.{State}
use Rattle.html_construction.proofs.Kept.{kept, adds-none}
use Rattle.html_construction.proofs.Building.{as-was}
use Rattle.html_tree.specs.States.{State as Tree}
use Rattle.html_construction.proofs.Working.{works-list}
use Rattle.html_construction.proofs.Seats.{listed-formatting}
use Rattle.html_construction.proofs.construction.Construction.last_listed.Goals as goal

pub returns-clause-keeps : goal.returns-clause-keeps
returns-clause-keeps c = kept _ c.args.self.now _ c.self.view_is refl refl c.last_listed.ensures.keeps (as-was _ _ (ap (λ (x : Tree). x.tree) c.last_listed.ensures.rest))

pub returns-clause-listed : goal.returns-clause-listed
returns-clause-listed c = c.last_listed.ensures.node ∙ ap (λ (x : State). last_named x.tree.tree c.args.tag x.tree.list) c.self.view_is

pub returns-clause-works : goal.returns-clause-works
returns-clause-works c = works-list c.args.self.now _ _ c.self.inside.ledger c.self.view_is c.requires.listed c.last_listed.ensures.keeps (adds-none _ _ refl) (let h = c.last_listed.ensures.steps in omega (arith, h))

pub returns-clause-formatting : goal.returns-clause-formatting
returns-clause-formatting c =
    listed-formatting c.self.inside.tree.tree c.last_listed.new.self.tree c.args.tag c.self.inside.tree.list c.last_listed.result c.last_listed.ensures.node c.laws.ensures.sound.formatting (ap (λ (x : Tree). x.tree) c.last_listed.ensures.rest)

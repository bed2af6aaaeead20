use Rattle.std.proofs.Common.{Some, refl, subst, arith}
use Rattle.html_tree.specs.Since.{Keeps}
use Rattle.html_tree.specs.States.{State, state_of}
use Rattle.html_tree.proofs.Kept.{fewer-since, keeps-since}
use Rattle.html_tree.proofs.tree.OpenTree.set_head.Goals as goal

pub returns-clause-keeps : goal.returns-clause-keeps
returns-clause-keeps c =
    subst (λ (a : State). Keeps a (state_of c.self.inside.stack c.self.inside.list c.self.inside.arena c.self.inside.tokens (Some c.args.node) c.self.inside.form c.self.inside.detached)) c.self.view_is
    (keeps-since (state_of c.self.inside.stack c.self.inside.list c.self.inside.arena c.self.inside.tokens c.self.inside.head c.self.inside.form c.self.inside.detached) (state_of c.self.inside.stack c.self.inside.list c.self.inside.arena c.self.inside.tokens (Some c.args.node) c.self.inside.form c.self.inside.detached) (fewer-since (state_of c.self.inside.stack c.self.inside.list c.self.inside.arena c.self.inside.tokens c.self.inside.head c.self.inside.form c.self.inside.detached) (state_of c.self.inside.stack c.self.inside.list c.self.inside.arena c.self.inside.tokens (Some c.args.node) c.self.inside.form c.self.inside.detached) refl refl refl (λ x i. i) (λ x i. i) (omega arith)))

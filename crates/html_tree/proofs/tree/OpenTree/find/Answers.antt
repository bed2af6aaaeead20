use Rattle.html_tree.proofs.Scoped.{found-scope}
use Rattle.std.specs.Prelude.{None, is_some}
use Rattle.std.proofs.Common.{◌≡◌, ◌∙◌, ap, rules}
use Rattle.html_tree.specs.Searching.{found}
use Rattle.html_tree.proofs.tree.OpenTree.find.Goals as goal

pub returns-then-lacks_p-clause-in_scope : goal.returns-then-lacks_p-clause-in_scope
returns-then-lacks_p-clause-in_scope c = (let i : None ≡ found c.args.self.now c.args.group c.args.stop = search rules in ap is_some i ∙ found-scope c.args.self.now c.args.group c.args.stop)

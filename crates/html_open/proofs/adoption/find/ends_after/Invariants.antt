use Rattle.std.proofs.Common.{◌≡◌, drop}
use Rattle.std.specs.List.{list_any}
use Rattle.html_names.specs.declared.sets.Scope.TheVariants.{Default}
use Rattle.html_open.specs.Scopes.{ends}
use Rattle.html_open.proofs.adoption.find.ends_after.Given as goal

abbrev pub invariant-loop-node : goal.invariant-loop-node
invariant-loop-node l = list_any (ends l.arena Default) l.node-items ≡ list_any (ends l.arena Default) (drop l.node-index l.node-items)

use Rattle.std.proofs.Common.{[]}
use Rattle.std.specs.Str.{chars}
use Rattle.html_arena.specs.declared.data.NewNode.TheVariants as new_node
use Rattle.html_arena.specs.declared.data.Origin.TheVariants as origin
use Rattle.zilqumet_c.proofs.Roots.{root-made_by}
use Rattle.zilqumet_c.proofs.nodes.make_element.Goals as goal

pub returns-clause-root : goal.returns-clause-root
returns-clause-root c =
    root-made_by c.create_element.result c.args.arena.now c.create_element.new.arena (new_node.Element (chars c.args.name.now) [] origin.Nothing) c.args.root c.create_element.ensures.refused
    c.create_element.ensures.made

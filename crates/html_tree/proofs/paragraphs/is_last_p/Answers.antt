use Rattle.std.proofs.Common.{◌∙◌, sym}
use Rattle.html_open.proofs.Members.{last-member}
use Rattle.html_tree.proofs.paragraphs.is_last_p.Goals as goal

pub is_named-requires : goal.is_named-requires
is_named-requires c = c.requires c.in-Some.node (last-member c.args.ends.now _ (sym c.in-Some.is ∙ c.last_node.ensures))

use Rattle.html_tree.proofs.Replaced.{a-frameset, frameset-opens, on-both}
use Rattle.html_tree.proofs.Kept.{since-self}
use Rattle.html_names.specs.Names.{tag_of}
use Rattle.html_tree.proofs.tree.OpenTree.replace_body.Goals as goal

pub insert-requires-clause-name : goal.insert-requires-clause-name
insert-requires-clause-name c = frameset-opens (tag_of c.args.name) c.requires.name

pub returns-clause-keeps : goal.returns-clause-keeps
returns-clause-keeps c =
    on-both c.insert.result c.insert.ensures.tag c.insert.ensures.keeps (λ x named keeps s since.
    c.detach_body.ensures.apart s c.insert.new.self since (keeps c.detach_body.new.self (c.pop_to.ensures.keeps c.detach_body.new.self (since-self c.detach_body.new.self)))
    (a-frameset c.insert.new.self.tree x (tag_of c.args.name) c.requires.name named))

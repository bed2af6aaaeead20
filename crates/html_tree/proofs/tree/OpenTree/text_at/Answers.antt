use Rattle.html_tree.proofs.Inserted.{on-ok}
use Rattle.html_tree.proofs.tree.OpenTree.text_at.Goals as goal

pub returns-in-None-clause-keeps : goal.returns-in-None-clause-keeps
returns-in-None-clause-keeps c = on-ok c.insert_text.result c.insert_text.ensures.keeps (λ k s since. k s (c.text_here.ensures.keeps s since))

use Rattle.html_construction.proofs.Kept.{begun-document}
use Rattle.html_construction.proofs.Copying.{document-implied, document-uncloned}
use Rattle.html_construction.proofs.construction.Construction.of_document.Goals as goal

pub returns-clause-built : goal.returns-clause-built
returns-clause-built c = λ l k e. begun-document l k _ e c.new.ensures.fed

pub returns-clause-uncloned : goal.returns-clause-uncloned
returns-clause-uncloned c = document-uncloned c.args.tree c.requires.begun

pub returns-clause-implied : goal.returns-clause-implied
returns-clause-implied c = document-implied c.args.tree c.requires.begun

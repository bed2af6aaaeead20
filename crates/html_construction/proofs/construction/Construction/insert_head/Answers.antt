use Rattle.html_construction.proofs.construction.Construction.insert_head.Goals as goal

pub returns-clause-takes : goal.returns-clause-takes
returns-clause-takes c = λ h w. c.set_head.ensures.keeps _ (c.in_ok-head.ensures.takes h w)

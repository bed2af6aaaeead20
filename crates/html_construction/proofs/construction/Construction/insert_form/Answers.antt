use Rattle.html_construction.proofs.construction.Construction.insert_form.Goals as goal

pub returns-clause-takes : goal.returns-clause-takes
returns-clause-takes c = λ h w. c.set_form.ensures.keeps _ (c.in_ok-form.ensures.takes h w)

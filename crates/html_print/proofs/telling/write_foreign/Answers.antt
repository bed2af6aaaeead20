use Rattle.html_print.proofs.telling.write_foreign.Goals as goal

pub returns-clause-ok : goal.returns-clause-ok
returns-clause-ok g c = rw (← c.foreign_name.ensures) c.write_pieces.ensures.ok

pub returns-clause-err : goal.returns-clause-err
returns-clause-err g c = rw (← c.foreign_name.ensures) c.write_pieces.ensures.err

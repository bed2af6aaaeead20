use Rattle.html_open.proofs.Firsts.{place-grown, place-linked, place-moved, place-relabelled, place-unlinked}
use Rattle.html_open.proofs.Lasting.{fewer-free, first-free, first-place, same-place}
use Rattle.html_open.proofs.keeping.first_kept_by_edits.Goals as goal

pub returns-clause-same : goal.returns-clause-same
returns-clause-same c = same-place

pub returns-clause-first : goal.returns-clause-first
returns-clause-first c = first-place

pub returns-clause-grown : goal.returns-clause-grown
returns-clause-grown c = place-grown

pub returns-clause-linked : goal.returns-clause-linked
returns-clause-linked c = place-linked

pub returns-clause-unlinked : goal.returns-clause-unlinked
returns-clause-unlinked c = place-unlinked

pub returns-clause-moved : goal.returns-clause-moved
returns-clause-moved c = place-moved

pub returns-clause-relabelled : goal.returns-clause-relabelled
returns-clause-relabelled c = place-relabelled

pub returns-clause-free : goal.returns-clause-free
returns-clause-free c = λ s r l e h. first-free s r l (λ b. e) h

pub returns-clause-fewer : goal.returns-clause-fewer
returns-clause-fewer c = fewer-free

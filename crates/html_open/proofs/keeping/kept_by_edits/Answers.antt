use Rattle.html_open.proofs.Edits.{grown-apart, open-grown, open-linked, open-moved, open-relabelled, open-unlinked}
use Rattle.html_open.proofs.Firsts.{empty-open}
use Rattle.html_open.proofs.Keeps.{open-charged}
use Rattle.html_open.proofs.Newly.{can-place-charged}
use Rattle.html_open.proofs.keeping.kept_by_edits.Goals as goal

pub returns-clause-charged : goal.returns-clause-charged
returns-clause-charged c = open-charged

pub returns-clause-can_place : goal.returns-clause-can_place
returns-clause-can_place c = λ s t n h. can-place-charged s t n h

pub returns-clause-grown : goal.returns-clause-grown
returns-clause-grown c = open-grown

pub returns-clause-apart : goal.returns-clause-apart
returns-clause-apart c = grown-apart

pub returns-clause-linked : goal.returns-clause-linked
returns-clause-linked c = open-linked

pub returns-clause-unlinked : goal.returns-clause-unlinked
returns-clause-unlinked c = open-unlinked

pub returns-clause-moved : goal.returns-clause-moved
returns-clause-moved c = open-moved

pub returns-clause-relabelled : goal.returns-clause-relabelled
returns-clause-relabelled c = open-relabelled

pub returns-clause-empty : goal.returns-clause-empty
returns-clause-empty c = empty-open

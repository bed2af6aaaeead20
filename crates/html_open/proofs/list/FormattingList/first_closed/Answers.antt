use Rattle.std.proofs.Common.{◌+◌, ◌-◌, ◌*◌, length, ap, ◌∙◌}
use Rattle.html_open.specs.Marking.{charged}
use Rattle.html_open.specs.Reopening.{search_steps}
use Rattle.html_open.specs.ReopenedEntry.{end_steps_at}
use Rattle.html_open.specs.Searches.{open_or_marker}
use Rattle.html_open.proofs.Searching.{search-is}
use Rattle.html_open.proofs.list.FormattingList.first_closed.Goals as goal

pub returns-clause-steps : goal.returns-clause-steps
returns-clause-steps c =
    let q = c.as_slice-entries.ensures.value ∙ c.self.view_is in
    let p = open_or_marker c.args.arena.now in
    c.charge.ensures
    ∙ ap (charged c.args.arena.now)
    (ap (λ n. 2 * (length c.as_slice-entries.result.now - c.after-start.result) + n) c.end_steps.ensures.steps
    ∙ ap (λ n. 2 * (length c.as_slice-entries.result.now - n) + end_steps_at c.as_slice-entries.result.now c.last_entry-found.result) c.after-start.ensures.value
    ∙ search-is p c.as_slice-entries.result.now c.last_entry-found.result c.last_entry-found.ensures.index
    ∙ ap (search_steps p) q)

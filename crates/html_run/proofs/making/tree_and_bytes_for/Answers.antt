use Rattle.std.proofs.Common.{◌⊎◌, inl, inr}
use Rattle.html_run.proofs.Causes.{end-read}
use Rattle.html_run.proofs.making.tree_and_bytes_for.Goals as goal

pub returns-in-Err-clause-cause : goal.returns-in-Err-clause-cause
returns-in-Err-clause-cause g c =
    let why = (rw c.as_slice.ensures.value at c.in-Err.ensures.cause) in
    elim why [
      | inl cause ↦ end-read c.args.job.now c.args.table.now _ _ _ c.in-Err.error c.in_ok-bytes.bytes.items c.in_ok-bytes.ensures.bytes c.in_ok-bytes.ensures.end cause
      | inr begin ↦ inl begin
    ]

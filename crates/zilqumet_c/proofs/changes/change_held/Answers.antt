use Rattle.std.proofs.Common.{Some, subst}
use Rattle.zilqumet_c.specs.Edits.{IsEdit, IsEdited, fault_in}
use Rattle.zilqumet_c.proofs.Edited.{is_page, unedited}
use Rattle.zilqumet_c.proofs.changes.change_held.Goals as goal

pub returns-in_default : goal.returns-in_default
returns-in_default c = record {
  edited = subst (λ h. IsEdit (Some h) (Some c.replace.result) (fault_in c.args.edit.now) (IsEdited c.args.edit.now) 12) c.replace.ensures.value
      (unedited (Some c.replace.result) (fault_in c.args.edit.now) (IsEdited c.args.edit.now) (is_page c.replace.result c.in_default.not-Page));
}

use Rattle.std.proofs.Common.{Some, subst}
use Rattle.zilqumet_c.specs.Pieces.{IsPushed}
use Rattle.zilqumet_c.proofs.Pushed.{is_parser, unpushed}
use Rattle.zilqumet_c.proofs.pushing.add.Goals as goal

pub returns-in_default : goal.returns-in_default
returns-in_default c = record {
  pushed = subst (λ h. IsPushed (Some h) (Some c.replace.result) c.args.piece.now 12 c.args.at.now) c.replace.ensures.value
      (unpushed (Some c.replace.result) c.args.piece.now c.args.at.now (is_parser c.replace.result c.in_default.not-Parser));
}

use Rattle.std.proofs.Common.{[], subst}
use Rattle.std.specs.Arc.{arc_value}
use Rattle.html_parser.specs.Options.{start_of}
use Rattle.html_parser.specs.Paused.{HavePaused}
use Rattle.html_parser.proofs.Owning.{may_of}
use Rattle.html_parser.proofs.owned_tree_parser.OwnedTreeParser.new.Goals as goal

pub of-requires : goal.of-requires
of-requires c = record {
  going = may_of (start_of (arc_value c.args.table) c.args.options.now) (arc_value c.args.table) c.in_ok-stages.stages []
      (subst (λ rows. HavePaused (start_of rows c.args.options.now) rows c.in_ok-stages.stages []) c.deref.ensures c.in_ok-stages.ensures.begun);
}

pub returns-clause-begun : goal.returns-clause-begun
returns-clause-begun c = c.of.ensures.fed (start_of (arc_value c.args.table) c.args.options.now) []
    (subst (λ rows. HavePaused (start_of rows c.args.options.now) rows c.in_ok-stages.stages []) c.deref.ensures c.in_ok-stages.ensures.begun)

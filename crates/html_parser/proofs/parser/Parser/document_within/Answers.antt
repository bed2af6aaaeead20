use Rattle.std.proofs.Common.{refl, Some}
use Rattle.html_parser.specs.Start.{document_start}
use Rattle.html_parser.proofs.parser.Parser.document_within.Goals as goal

pub new-requires : goal.new-requires
new-requires c = record {
  begun = (
    document_start c.args.table.now (Some c.args.limits),
    record {
      rows_are = refl;
      mode_is = refl;
      decodes = c.with_limit-decoder.ensures;
      handed = c.in_ok-builder.ensures.begun;
      fates = c.in_ok-builder.ensures.fates;
      building = c.in_ok-builder.ensures.fresh;
      foreign = c.in_ok-builder.ensures.refuses;
      where_foreign = λ e. cc;
    },
  );
}

pub returns-clause-begun : goal.returns-clause-begun
returns-clause-begun c = c.in_ok-feeder.ensures.begun (document_start c.args.table.now (Some c.args.limits)) (record {
  rows_are = refl;
  mode_is = refl;
  decodes = c.with_limit-decoder.ensures;
  handed = c.in_ok-builder.ensures.begun;
  fates = c.in_ok-builder.ensures.fates;
  building = c.in_ok-builder.ensures.fresh;
  foreign = c.in_ok-builder.ensures.refuses;
  where_foreign = λ e. cc;
})

use Rattle.std.proofs.Common.{refl, None}
use Rattle.html_parser.specs.Start.{document_start}
use Rattle.html_parser.proofs.parser.Parser.document.Goals as goal

pub new-requires-2 : goal.new-requires-2
new-requires-2 c = record {
  begun = (
    document_start c.args.table.now None,
    record {
      rows_are = refl;
      mode_is = refl;
      decodes = c.new.ensures;
      handed = c.in_ok-builder.ensures.begun;
      fates = c.in_ok-builder.ensures.fates;
      building = c.in_ok-builder.ensures.fresh;
      foreign = c.in_ok-builder.ensures.refuses;
      where_foreign = λ e. cc;
    },
  );
}

pub returns-clause-begun : goal.returns-clause-begun
returns-clause-begun c = c.in_ok-feeder.ensures.begun (document_start c.args.table.now None) (record {
  rows_are = refl;
  mode_is = refl;
  decodes = c.new.ensures;
  handed = c.in_ok-builder.ensures.begun;
  fates = c.in_ok-builder.ensures.fates;
  building = c.in_ok-builder.ensures.fresh;
  foreign = c.in_ok-builder.ensures.refuses;
  where_foreign = λ e. cc;
})

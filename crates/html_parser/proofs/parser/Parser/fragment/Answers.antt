use Rattle.std.proofs.Common.{refl, sym, None}
use Rattle.html_builder.proofs.SayingOn.{begun-foreign}
use Rattle.html_parser.specs.Start.{fragment_start}
use Rattle.html_parser.proofs.parser.Parser.fragment.Goals as goal

pub new-requires-2 : goal.new-requires-2
new-requires-2 c = record {
  begun = (
    fragment_start c.args.table.now c.args.context.now None,
    record {
      rows_are = refl;
      mode_is = sym c.text_mode.ensures.value;
      decodes = c.new.ensures;
      handed = c.in_ok-builder.ensures.begun;
      fates = c.in_ok-builder.ensures.fates;
      building = c.in_ok-builder.ensures.fresh;
      foreign = c.in_ok-builder.ensures.refuses;
      where_foreign = begun-foreign c.args.context.now None _ c.in_ok-builder.ensures.begun;
    },
  );
}

pub returns-clause-begun : goal.returns-clause-begun
returns-clause-begun c = c.in_ok-feeder.ensures.begun (fragment_start c.args.table.now c.args.context.now None) (record {
  rows_are = refl;
  mode_is = sym c.text_mode.ensures.value;
  decodes = c.new.ensures;
  handed = c.in_ok-builder.ensures.begun;
  fates = c.in_ok-builder.ensures.fates;
  building = c.in_ok-builder.ensures.fresh;
  foreign = c.in_ok-builder.ensures.refuses;
  where_foreign = begun-foreign c.args.context.now None _ c.in_ok-builder.ensures.begun;
})

use Rattle.std.proofs.Common.{refl, sym}
use Rattle.html_parser.specs.Options.{start_of}
use Rattle.html_parser.proofs.Switching.{begun-in}
use Rattle.html_parser.proofs.parser.Parser.new.Goals as goal

pub new-requires : goal.new-requires
new-requires c = record {
  begun = (
    start_of c.args.table.now c.args.options.now,
    record {
      rows_are = refl;
      mode_is = sym c.text_mode-mode.ensures.value;
      decodes = c.decoder_within-decoder.ensures.decodes;
      handed = c.in_ok-builder.ensures.handed;
      fates = c.in_ok-builder.ensures.fates;
      building = c.in_ok-builder.ensures.fresh;
      foreign = c.in_ok-builder.ensures.parses;
      where_foreign = begun-in c.args.options.now.context c.args.options.now.limits _ c.in_ok-builder.ensures.handed;
    },
  );
}

pub returns-clause-begun : goal.returns-clause-begun
returns-clause-begun c = c.in_ok-feeder.ensures.begun (start_of c.args.table.now c.args.options.now) (record {
  rows_are = refl;
  mode_is = sym c.text_mode-mode.ensures.value;
  decodes = c.decoder_within-decoder.ensures.decodes;
  handed = c.in_ok-builder.ensures.handed;
  fates = c.in_ok-builder.ensures.fates;
  building = c.in_ok-builder.ensures.fresh;
  foreign = c.in_ok-builder.ensures.parses;
  where_foreign = begun-in c.args.options.now.context c.args.options.now.limits _ c.in_ok-builder.ensures.handed;
})

use Rattle.std.proofs.Common.{[], None}
use Rattle.html_parser.specs.Start.{document_start}
use Rattle.test_pages.proofs.calls.tree_by.Goals as goal

pub feed_from-fed-requires : goal.feed_from-fed-requires
feed_from-fed-requires c = record {
  new = (document_start c.args.table.now None, c.without_ledger-parser.ensures.fed (document_start c.args.table.now None) [] c.in_ok-parser-in-FedReader.ensures.begun);
}

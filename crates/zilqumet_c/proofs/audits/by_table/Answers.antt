use Rattle.html_parser.specs.Options.{start_of}
use Rattle.zilqumet_c.proofs.Parted.{parts_of}
use Rattle.zilqumet_c.proofs.audits.by_table.Goals as goal

pub returns-clause-page : goal.returns-clause-page
returns-clause-page c = parts_of (start_of c.args.table.now c.args.options.now) c.args.bytes.now c.in_ok-page.page c.parted.result.page.tree c.parted.result.ledger
    c.in_ok-page.ensures.page c.parted.ensures.tree c.parted.ensures.ledger

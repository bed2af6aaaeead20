use Rattle.zilqumet_c.proofs.Pushed.{refused, taken}
use Rattle.zilqumet_c.proofs.pushing.push.Goals as goal

pub returns-in-Ok : goal.returns-in-Ok
returns-in-Ok c = record {
  pushed = taken c.args.parser.now c.feed.new.self c.args.piece.now c.args.at.now c.feed.result c.in-Ok.field-0 c.in-Ok.is c.feed.ensures.fed c.feed.ensures.few c.feed.ensures.prompt
      c.feed.ensures.stopped;
}

pub returns-in-Err : goal.returns-in-Err
returns-in-Err c = record {
  pushed = refused c.args.parser.now c.feed.new.self c.args.piece.now c.status_of.result c.place_of.result c.feed.result c.in-Err.error c.in-Err.is c.status_of.ensures c.place_of.ensures
      c.feed.ensures.cause c.feed.ensures.told c.feed.ensures.refused c.feed.ensures.stopped;
}

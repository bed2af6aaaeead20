use Rattle.std.proofs.Common.{refl}
use Rattle.html_parser.proofs.Pausing.{resumed, resumed_staged, resumed_tokenizing}
use Rattle.html_parser.proofs.paused.PausedStages.resume.Goals as goal

pub invariant_of-result : goal.invariant_of-result
invariant_of-result c = record { tokenizing = resumed_tokenizing c.args.table.now c.args.self c.resume.result c.requires.going c.resume.ensures.fed }

pub returns-clause-read : goal.returns-clause-read
returns-clause-read c = λ start bytes h. resumed c.args.table.now c.args.self _ refl refl refl c.resume.ensures.fed c.resume.ensures.stopped start bytes h

pub returns-clause-staged : goal.returns-clause-staged
returns-clause-staged c = resumed_staged c.args.table.now c.args.self _ c.requires.going
    (λ start bytes h. resumed c.args.table.now c.args.self _ refl refl refl c.resume.ensures.fed c.resume.ensures.stopped start bytes h)

use Rattle.html_ledger.proofs.Words.{Decides-may_select, Decides-may_drop, Decides-may_have, must_drop-is, is-must_drop}
use Rattle.html_ledger.proofs.Telling.{Decides-has_error}
use Rattle.html_ledger.proofs.history.History.meaning.Goals as goal

pub returns-clause-select : goal.returns-clause-select
returns-clause-select c = λ s ts fs k. Decides-may_select s c.args.self ts fs k

pub returns-clause-drop : goal.returns-clause-drop
returns-clause-drop c = λ s ts fs t d k. Decides-may_drop s c.args.self ts fs t d k

pub returns-clause-forced : goal.returns-clause-forced
returns-clause-forced c = λ s ts fs t d k e. must_drop-is s c.args.self ts fs t d k e

pub returns-clause-forces : goal.returns-clause-forces
returns-clause-forces c = λ s ts fs t d k m. is-must_drop s c.args.self ts fs t d k m

pub returns-clause-fate : goal.returns-clause-fate
returns-clause-fate c = λ s ts fs t f k. Decides-may_have s c.args.self ts fs t f k

pub returns-clause-error : goal.returns-clause-error
returns-clause-error c = λ s ts fs t f k. Decides-has_error s c.args.self ts fs t f k

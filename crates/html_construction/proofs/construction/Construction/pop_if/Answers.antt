use Rattle.std.proofs.Common.{arith, false, rules, sym, true}
use Rattle.std.proofs.lemmas.Bool.{false≢true}
use Rattle.std.proofs.lemmas.Grind.{common_steps}
use Rattle.html_construction.proofs.Doing.{popping_by}
use Rattle.html_construction.proofs.construction.Construction.pop_if.Goals as goal

pub returns-then-current_is-clause-follows : goal.returns-then-current_is-clause-follows
returns-then-current_is-clause-follows c = popping_by c.args.group true c.args.self.now _ (first_of (search rules, grind (arith, common_steps))) (search rules) (λ h. first_of (search rules, grind (arith, common_steps))) (λ h. absurd (false≢true (sym h)))

pub returns-clause-follows : goal.returns-clause-follows
returns-clause-follows c = popping_by c.args.group false c.args.self.now _ (first_of (search rules, grind (arith, common_steps))) (search rules) (λ h. absurd (false≢true h)) (λ h. first_of (search rules, grind (arith, common_steps)))

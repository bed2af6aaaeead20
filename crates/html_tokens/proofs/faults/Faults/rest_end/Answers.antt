use Rattle.std.proofs.Common.{inl, inr}
use Rattle.html_tokens.proofs.ToldLemmas.{opens_none}
use Rattle.html_tokens.proofs.faults.Faults.rest_end.Goals as goal

pub returns-in-Name-clause-opens : goal.returns-in-Name-clause-opens
returns-in-Name-clause-opens c = elim (c.in-Name.is) [
  | inl e ↦ rw e (opens_none c.args.self.now)
  | inr (inl e) ↦ rw e (opens_none c.args.self.now)
  | inr (inr (inl e)) ↦ rw e (opens_none c.args.self.now)
  | inr (inr (inr (inl e))) ↦ rw e (opens_none c.args.self.now)
  | inr (inr (inr (inr (inl e)))) ↦ rw e (opens_none c.args.self.now)
  | inr (inr (inr (inr (inr (inl (end, e)))))) ↦ rw e (opens_none c.args.self.now)
  | inr (inr (inr (inr (inr (inr (end, start, e)))))) ↦ rw e (opens_none c.args.self.now)
]

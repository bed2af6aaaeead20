use Rattle.html_tokens.proofs.ValueLemmas.{value_opens, number_opens}
use Rattle.html_tokens.proofs.PartLemmas.{and_settles, settles_letters, value_settles}
use Rattle.std.proofs.Common.{refl}
use Rattle.html_tokens.proofs.tag.TagDraft.open_ref.Goals as goal

pub returns-in-Value-clause-ok : goal.returns-in-Value-clause-ok
returns-in-Value-clause-ok c = value_opens c.args.self.now c.in-Value.is

pub returns-in-Number-clause-ok : goal.returns-in-Number-clause-ok
returns-in-Number-clause-ok c = number_opens c.number_ends.result c.args.self.now c.number_ends.new.self c.in-Number.end _ c.in-Number.value _ c.in-Number.is c.number_ends.ensures.ok

pub returns-in-Value-clause-part : goal.returns-in-Value-clause-part
returns-in-Value-clause-part c = rw c.in-Value.is value_settles

pub returns-in-Number-clause-part : goal.returns-in-Number-clause-part
returns-in-Number-clause-part c = and_settles c.number_ends.result c.args.self.now c.number_ends.new.self c.in-Number.end _ c.in-Number.value _ _ c.in-Number.is c.number_ends.ensures.ok

pub returns-in-Ampersand-clause-part : goal.returns-in-Ampersand-clause-part
returns-in-Ampersand-clause-part c = rw c.in-Ampersand.is (settles_letters c.in-Ampersand.end _ 38 refl)

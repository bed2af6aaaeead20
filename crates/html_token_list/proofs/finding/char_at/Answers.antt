use Rattle.std.proofs.Common.{sym, ◌∙◌}
use Rattle.std.proofs.lemmas.Iterator.{YieldsList-from_chars}
use Rattle.std.proofs.lemmas.Iterator.Consumers.{nth_from_yields_List}
use Rattle.html_token_list.proofs.Found.{same-option}
use Rattle.html_token_list.proofs.finding.char_at.Goals as goal

pub returns : goal.returns
returns c = record { value = sym (same-option c.nth.result) ∙ nth_from_yields_List c.nth.result c.nth.new.self c.args.index c.nth.ensures.ran (YieldsList-from_chars c.args.text.now c.utf8.text c.chars.ensures.rest) }

use Rattle.std.proofs.Common.{◌∙◌, ap, sym, get_or-take}
use Rattle.html_text.specs.Plain.{is_plain_byte}
use Rattle.html_text.proofs.plain.others_in.Goals as goal

pub returns : goal.returns
returns c k small e = ap is_plain_byte (sym (get_or-take 64 c.args.block.now k 0 small)) ∙ c.others_of.ensures k small e

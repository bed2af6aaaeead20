use Rattle.std.proofs.Common.{◌∙◌, sym}
use Rattle.html_tokens.proofs.BareLemmas.{end_answer, end_tells, start_answer, start_tells}
use Rattle.html_tokens.proofs.machine.Machine.take_bare.Goals as goal

pub returns-then-is_end-clause-given : goal.returns-then-is_end-clause-given
returns-then-is_end-clause-given c =
    end_answer c.take_bare_end.result c.args.self.now c.take_bare_end.new.self c.args.tag.now.is_end c.args.tag.now.name (sym c.is_end.ensures ∙ c.if-is_end.true)
    c.requires.text c.requires.empty c.requires.mode c.take_bare_end.ensures.name c.requires.going c.take_bare_end.ensures.token c.take_bare_end.ensures.new

pub returns-else-is_end-clause-given : goal.returns-else-is_end-clause-given
returns-else-is_end-clause-given c =
    start_answer c.take_bare_start.result c.args.self.now c.take_bare_start.new.self c.args.tag.now.is_end c.args.tag.now.name (sym c.is_end.ensures ∙ c.if-is_end.false)
    c.requires.text c.requires.empty c.requires.mode c.take_bare_start.ensures.name c.requires.going c.take_bare_start.ensures.token c.take_bare_start.ensures.new

pub returns-then-is_end-clause-telling : goal.returns-then-is_end-clause-telling
returns-then-is_end-clause-telling c =
    end_tells c.take_bare_end.result c.args.self.now c.take_bare_end.new.self c.args.tag.now.is_end c.args.tag.now.name (sym c.is_end.ensures ∙ c.if-is_end.true)
    c.requires.text c.requires.empty c.requires.mode c.take_bare_end.ensures.name c.requires.going c.take_bare_end.ensures.token c.take_bare_end.ensures.new

pub returns-else-is_end-clause-telling : goal.returns-else-is_end-clause-telling
returns-else-is_end-clause-telling c =
    start_tells c.take_bare_start.result c.args.self.now c.take_bare_start.new.self c.args.tag.now.is_end c.args.tag.now.name (sym c.is_end.ensures ∙ c.if-is_end.false)
    c.requires.text c.requires.empty c.requires.mode c.take_bare_start.ensures.name c.requires.going c.take_bare_start.ensures.token c.take_bare_start.ensures.new

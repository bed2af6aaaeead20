use Rattle.html_arena.proofs.Runs.{each_at, laws_at, next_at, text_at}
use Rattle.html_arena.proofs.arena.Arena.append_plain.Goals as goal

pub returns-clause-longest : goal.returns-clause-longest
returns-clause-longest c = next_at _ _ c.args.node c.args.text.now c.push_plain_front.result c.push_plain_front.ensures.front c.push_plain_front.ensures.added c.push_plain_front.ensures.longest

pub returns-clause-one_by_one : goal.returns-clause-one_by_one
returns-clause-one_by_one c = each_at _ _ c.args.node c.args.text.now c.push_plain_front.result c.requires.node_in c.requires.is_text (c.counts.ensures.held, c.counts.ensures.steps) c.push_plain_front.ensures.added

pub returns-clause-relabelled : goal.returns-clause-relabelled
returns-clause-relabelled c = laws_at _ _ c.args.node c.args.text.now c.push_plain_front.result c.requires.node_in c.push_plain_front.ensures.added

pub returns-clause-still_text : goal.returns-clause-still_text
returns-clause-still_text c = text_at _ _ c.args.node c.args.text.now c.push_plain_front.result c.requires.node_in c.requires.is_text c.push_plain_front.ensures.added c.push_plain_front.ensures.refused

use Rattle.html_tokens.proofs.tag.TagDraft.read_settled.Goals as goal

pub returns-in-Number-clause-reads : goal.returns-in-Number-clause-reads
returns-in-Number-clause-reads c = c.in_ok-read_number.ensures.ok c.args.after

pub returns-in-Ampersand-clause-reads : goal.returns-in-Ampersand-clause-reads
returns-in-Ampersand-clause-reads c = c.in_ok-read_letter.ensures.ok c.args.after

pub returns-in-Ampersand-clause-moves : goal.returns-in-Ampersand-clause-moves
returns-in-Ampersand-clause-moves c = c.in_ok-read_letter.ensures.moves c.args.after

use Rattle.html_open.proofs.Edits.{open-apart}
use Rattle.html_open.proofs.Firsts.{place-put}
use Rattle.html_open.proofs.places.put.Goals as goal

pub returns-clause-keeps : goal.returns-clause-keeps
returns-clause-keeps c = λ s l apart h.
    open-apart s l c.args.arena.now c.link_at.new.arena c.args.node c.link_at.ensures.put.nodes.labels_are c.link_at.ensures.put.nodes.marks_are c.link_at.ensures.others apart h

pub returns-clause-can_place : goal.returns-clause-can_place
returns-clause-can_place c = place-put c.args.arena.now c.link_at.new.arena c.args.place c.args.node c.requires.place_in c.link_at.ensures.put

pub returns-clause-closed : goal.returns-clause-closed
returns-clause-closed c = λ s l h x i o n. c.link_at.ensures.children x (h x i o n)

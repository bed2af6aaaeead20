use Rattle.std.proofs.Common.{◌∙◌, ◌++◌, ap}
use Rattle.std.proofs.lemmas.Result.{IfErr-weaker, on_ok_weaker}
use Rattle.html_parser.proofs.Pausing.{enters, handed_of_paused, keeps_of, kept_of_paused, may_more, never, paused_of, told_of_paused}
use Rattle.html_parser.proofs.owned_feeder.fed.Goals as goal

pub returns-clause-going : goal.returns-clause-going
returns-clause-going c =
    let begun = enters c.args.table.now c.args.stages c.resume.result c.of-feeder.result c.of-feeder.ensures.stages c.of-feeder.ensures.going c.resume.ensures.read in
    on_ok_weaker c.feed-said.result
    (λ fed. may_more c.args.table.now c.args.stages c.pause.result c.args.piece.now c.requires.going
    (λ start bytes h. paused_of start c.args.table.now c.feed-said.new.self c.pause.result (bytes ++ c.args.piece.now) h.rows_are c.pause.ensures.paused (fed start bytes (begun start bytes h))))
    c.feed-said.ensures.fed

pub returns-clause-fed : goal.returns-clause-fed
returns-clause-fed c =
    let begun = enters c.args.table.now c.args.stages c.resume.result c.of-feeder.result c.of-feeder.ensures.stages c.of-feeder.ensures.going c.resume.ensures.read in
    on_ok_weaker c.feed-said.result
    (λ fed start bytes h. paused_of start c.args.table.now c.feed-said.new.self c.pause.result (bytes ++ c.args.piece.now) h.rows_are c.pause.ensures.paused (fed start bytes (begun start bytes h)))
    c.feed-said.ensures.fed

pub returns-clause-few : goal.returns-clause-few
returns-clause-few c =
    let begun = enters c.args.table.now c.args.stages c.resume.result c.of-feeder.result c.of-feeder.ensures.stages c.of-feeder.ensures.going c.resume.ensures.read in
    on_ok_weaker c.feed-said.result (λ few start bytes h. few start bytes (begun start bytes h)) c.feed-said.ensures.few

pub returns-clause-keeps : goal.returns-clause-keeps
returns-clause-keeps c = on_ok_weaker c.feed-said.result
    (λ keeps was. ap (λ x. x.keeps_tokens) c.pause.ensures.paused.kept_is ∙ keeps (keeps_of c.args.stages c.resume.result c.of-feeder.result c.of-feeder.ensures.stages c.resume.ensures.kept was))
    c.feed-said.ensures.keeps

pub returns-clause-prompt : goal.returns-clause-prompt
returns-clause-prompt c =
    let begun = enters c.args.table.now c.args.stages c.resume.result c.of-feeder.result c.of-feeder.ensures.stages c.of-feeder.ensures.going c.resume.ensures.read in
    on_ok_weaker c.feed-said.result
    (λ prompt start bytes h.
    let p = prompt start bytes (begun start bytes h) in
    (p.0, handed_of_paused start c.pause.result c.feed-said.new.self.stages (bytes ++ c.args.piece.now) p.0 c.pause.ensures.paused p.1))
    c.feed-said.ensures.prompt

pub returns-clause-kept : goal.returns-clause-kept
returns-clause-kept c =
    let begun = enters c.args.table.now c.args.stages c.resume.result c.of-feeder.result c.of-feeder.ensures.stages c.of-feeder.ensures.going c.resume.ensures.read in
    on_ok_weaker c.feed-said.result
    (λ kept start bytes h was. kept_of_paused start c.pause.result c.feed-said.new.self.stages (bytes ++ c.args.piece.now) c.pause.ensures.paused
    (kept start bytes (begun start bytes h) (keeps_of c.args.stages c.resume.result c.of-feeder.result c.of-feeder.ensures.stages c.resume.ensures.kept was)))
    c.feed-said.ensures.kept

pub returns-clause-cause : goal.returns-clause-cause
returns-clause-cause c =
    let begun = enters c.args.table.now c.args.stages c.resume.result c.of-feeder.result c.of-feeder.ensures.stages c.of-feeder.ensures.going c.resume.ensures.read in
    IfErr-weaker c.feed-said.result _ _ (λ e cause start bytes h. cause start bytes (begun start bytes h)) c.feed-said.ensures.cause

pub returns-clause-told : goal.returns-clause-told
returns-clause-told c =
    let begun = enters c.args.table.now c.args.stages c.resume.result c.of-feeder.result c.of-feeder.ensures.stages c.of-feeder.ensures.going c.resume.ensures.read in
    IfErr-weaker c.feed-said.result _ _
    (λ e told start bytes h. told_of_paused start c.pause.result c.feed-said.new.self.stages e c.pause.ensures.paused (told start bytes (begun start bytes h)))
    c.feed-said.ensures.told

pub returns-clause-running : goal.returns-clause-running
returns-clause-running c = never c.feed-said.result c.of-feeder.result.is_stopped c.of-feeder.ensures.going c.feed-said.ensures.stopped.0

use Rattle.std.proofs.Common.{◌∙◌, false, sym, true}
use Rattle.html_names.specs.declared.tag.Tag.TheVariants as tag
use Rattle.html_construction.specs.Plans.{Ask, Do, Over}
use Rattle.html_construction.specs.Words.{FramesetOff, InsertVoid, IsHidden}
use Rattle.html_modes.specs.RuleForms.{over}
use Rattle.html_modes.specs.Rules.{plan}
use Rattle.html_modes.proofs.Ruled.{asked, stop_here}
use Rattle.html_modes.proofs.modes.body_phrase.input_start.Goals as goal

pub returns-then-not-is_hidden-clause-follows : goal.returns-then-not-is_hidden-clause-follows
returns-then-not-is_hidden-clause-follows c =
    let t = c.args.token.now in
    let z = c.frameset_off.new.self in
    c.in_ok-reconstruct.ensures.follows plan t (Do (InsertVoid tag.Input) (Ask IsHidden over (Do FramesetOff over))) Over z
    (c.in_ok-insert_void.ensures.follows plan (Ask IsHidden over (Do FramesetOff over)) Over z
    (asked IsHidden false over (Do FramesetOff over) t c.insert_void.new.self Over z (sym c.if-not-is_hidden.true ∙ c.is_hidden.ensures.value)
    (c.frameset_off.ensures.follows plan t over Over z (stop_here Over t z))))

pub returns-else-not-is_hidden-clause-follows : goal.returns-else-not-is_hidden-clause-follows
returns-else-not-is_hidden-clause-follows c =
    let t = c.args.token.now in
    let z = c.insert_void.new.self in
    c.in_ok-reconstruct.ensures.follows plan t (Do (InsertVoid tag.Input) (Ask IsHidden over (Do FramesetOff over))) Over z
    (c.in_ok-insert_void.ensures.follows plan (Ask IsHidden over (Do FramesetOff over)) Over z
    (asked IsHidden true over (Do FramesetOff over) t z Over z (sym c.if-not-is_hidden.false ∙ c.is_hidden.ensures.value) (stop_here Over t z)))

use Rattle.std.proofs.Common.{◌++◌, sym, ◌∙◌, append_assoc}
use Rattle.std.specs.Str.{encode_utf8_all}
use Rattle.html_arena.specs.declared.walk.Event.TheVariants.{Enter, Leave}
use Rattle.html_device.proofs.Puts.{Moves-trans, front_after, front_first, put_after, put_err}
use Rattle.html_page.specs.Serialised.{event_text, html_below}
use Rattle.html_page.proofs.Cuts.{node-cut}
use Rattle.html_page.proofs.parts.put_node.Goals as goal

pub returns-in_err-put_event-clause-bytes : goal.returns-in_err-put_event-clause-bytes
returns-in_err-put_event-clause-bytes g c =
    put_err _ _ _ _ _ _ c.from_residual.ensures.0
    (front_first _ _ _ _ _ c.in_err-put_event.ensures.bytes (encode_utf8_all (html_below c.args.profile c.args.arena.now c.args.node) ++ encode_utf8_all (event_text c.args.profile c.args.arena.now (Leave c.args.node)))
    (node-cut c.args.profile c.args.arena.now c.args.node))

pub returns-in_err-put_below-clause-bytes : goal.returns-in_err-put_below-clause-bytes
returns-in_err-put_below-clause-bytes g c =
    put_err _ _ _ _ _ _ c.from_residual-in_err-put_below.ensures.0
    (front_after _ _ _ _ _ _ _ _ c.in_ok-put_event.ensures.bytes c.in_err-put_below.ensures.bytes (encode_utf8_all (event_text c.args.profile c.args.arena.now (Leave c.args.node)))
    (node-cut c.args.profile c.args.arena.now c.args.node))

pub returns-clause-bytes : goal.returns-clause-bytes
returns-clause-bytes g c =
    put_after _ _ _ _ _ _ _ _ _ _ (Moves-trans _ _ _ _ _ _ _ _ c.in_ok-put_event.ensures.bytes c.in_ok-put_below.ensures.bytes) c.put_event-2.ensures.bytes
    (node-cut c.args.profile c.args.arena.now c.args.node
    ∙ sym (append_assoc (encode_utf8_all (event_text c.args.profile c.args.arena.now (Enter c.args.node))) (encode_utf8_all (html_below c.args.profile c.args.arena.now c.args.node)) (encode_utf8_all (event_text c.args.profile c.args.arena.now (Leave c.args.node)))))

use Rattle.std.proofs.Common.{◌≡◌, ◌<◌, ◌+◌, ◌-◌, ◌*◌, ◌^◌, [], ◌∷◌, ◌++◌, length, sym, ap, subst, ◌∙◌, append_assoc, append-nil, arith}
use Rattle.std.specs.Str.{encode_utf8_all}
use Rattle.std.proofs.lemmas.Str.{encodes-append}
use Rattle.html_arena.specs.Below.{below}
use Rattle.html_arena.specs.Steps.{events}
use Rattle.html_arena.specs.declared.walk.Event.{Event}
use Rattle.html_arena.specs.declared.walk.Event.TheVariants.{Enter, Leave}
use Rattle.html_arena.specs.declared.walk.Show.TheVariants.{All as Everything}
use Rattle.html_page.specs.Shows.{label_at}
use Rattle.html_device.proofs.Puts.{Moves-nil, Moves-is, Moves-trans, front_after, put_err}
use Rattle.html_print.specs.Lines.{levels, lines_at}
use Rattle.html_print.proofs.Walks.{Low, Texts, enter_low, enter_texts, is_printed, leave_low, leave_texts, low_all, no_texts, rest_in, some_text}
use Rattle.html_print.proofs.printing.put_lines.Goals as goal

pub events-init : goal.events-init
events-init g c =
    let t = c.args.arena.now in
    let e : events (below Everything t c.args.root) ≡ c.new-walk.result = sym c.new-walk.ensures.events in
    record {
      done = [];
      so_far = λ later h. subst (λ es. Texts t 0 es later) (sym e) h;
      nodes = c.new-walk.ensures.nodes;
      low = subst (Low t (2 * length t.labels) 0) e (low_all t c.args.root);
      small = subst (λ n. n < 2 ^ 64) c.len-count.ensures c.len-count.type_inv;
      room = c.requires.room;
      put = Moves-nil _ _;
      failing = λ now. now;
      stalling = λ now. now;
    }

pub put_node-requires-clause-low : goal.put_node-requires-clause-low
put_node-requires-clause-low g c =
    let t = c.args.arena.now in
    let v = c.events.invariant in
    let walk : c.events.walk ≡ Enter c.in-Enter.node ∷ c.next.new.self = c.in-Some.ensures.steps ∙ ap (λ (e : Event). e ∷ c.next.new.self) c.in-Enter.is in
    let l = (enter_low t c.events.depth c.in-Enter.node c.events.walk c.next.new.self (2 * length t.labels) walk v.low).0 in
    let s = v.small in
    omega arith

pub events-preserved-in-Enter : goal.events-preserved-in-Enter
events-preserved-in-Enter g c =
    let t = c.args.arena.now in
    let v = c.events.invariant in
    let x = c.in-Enter.node in
    let d = c.events.depth in
    let es = c.next.new.self in
    let walk : c.events.walk ≡ Enter x ∷ es = c.in-Some.ensures.steps ∙ ap (λ (e : Event). e ∷ es) c.in-Enter.is in
    let (l, o, moves) = c.in_ok-put_node-in-Enter.ensures.bytes in
    let k = c.levels_in-depth.ensures in
    record {
      done = v.done ++ lines_at d l;
      so_far = λ later h. subst (Texts t 0 (events (below Everything t c.args.root))) (sym (append_assoc v.done (lines_at d l) later))
          (v.so_far (lines_at d l ++ later) (enter_texts t d x c.events.walk es walk l o later (subst (λ n. Texts t (d + n) es later) k h)));
      nodes = rest_in (length t.labels) c.events.walk (Enter x) es walk v.nodes;
      low = subst (λ n. Low t (2 * length t.labels) (d + n) es) (sym k) (enter_low t d x c.events.walk es (2 * length t.labels) walk v.low).1;
      small = v.small;
      room = λ y. (let a = v.room y in let b = c.in_ok-put_node-in-Enter.ensures.capacity in omega arith);
      put = Moves-is _ _ _ _ _ _ (sym (encodes-append v.done (lines_at d l))) (Moves-trans _ _ _ _ _ _ _ _ v.put moves);
      failing = λ now. v.failing (c.in_ok-put_node-in-Enter.ensures.failing now);
      stalling = λ now. v.stalling (c.in_ok-put_node-in-Enter.ensures.stalling now);
    }

pub events-preserved : goal.events-preserved
events-preserved g c =
    let t = c.args.arena.now in
    let v = c.events.invariant in
    let x = c.in-Leave.node in
    let d = c.events.depth in
    let es = c.next.new.self in
    let walk : c.events.walk ≡ Leave x ∷ es = c.in-Some.ensures.steps ∙ ap (λ (e : Event). e ∷ es) c.in-Leave.is in
    let k = c.levels_in-depth-in-Leave.ensures in
    record {
      done = v.done;
      so_far = λ later h. v.so_far later (leave_texts t d x c.events.walk es walk later (subst (λ n. Texts t (d - n) es later) k h));
      nodes = rest_in (length t.labels) c.events.walk (Leave x) es walk v.nodes;
      low = subst (λ n. Low t (2 * length t.labels) (d - n) es) (sym k) (leave_low t d x c.events.walk es (2 * length t.labels) walk v.low).1;
      small = v.small;
      room = v.room;
      put = v.put;
      failing = v.failing;
      stalling = v.stalling;
    }

pub returns-in_err-put_node-in-Enter-clause-bytes : goal.returns-in_err-put_node-in-Enter-clause-bytes
returns-in_err-put_node-in-Enter-clause-bytes g c =
    let t = c.args.arena.now in
    let v = c.events.invariant in
    let x = c.in-Enter.node in
    let d = c.events.depth in
    let es = c.next.new.self in
    let walk : c.events.walk ≡ Enter x ∷ es = c.in-Some.ensures.steps ∙ ap (λ (e : Event). e ∷ es) c.in-Enter.is in
    let (l, o, front) = c.in_err-put_node-in-Enter.ensures.bytes in
    let (later, h) = some_text t (d + levels (label_at t x)) es in
    is_printed t _ c.args.root (v.done ++ (lines_at d l ++ later)) (v.so_far (lines_at d l ++ later) (enter_texts t d x c.events.walk es walk l o later h))
    (put_err _ _ _ _ _ _ c.from_residual.ensures.0
    (front_after _ _ _ _ _ _ _ _ v.put front (encode_utf8_all later)
    (encodes-append v.done (lines_at d l ++ later) ∙ ap (λ z. encode_utf8_all v.done ++ z) (encodes-append (lines_at d l) later))))

pub returns-clause-bytes : goal.returns-clause-bytes
returns-clause-bytes g c =
    let t = c.args.arena.now in
    let v = c.events.invariant in
    is_printed t _ c.args.root (v.done ++ []) (v.so_far [] (no_texts t c.events.depth c.events.walk c.in_default.ensures.steps.0))
    (Moves-is _ _ _ _ _ _ (ap encode_utf8_all (sym (append-nil v.done))) v.put)

use Rattle.std.proofs.Common.{◌≡◌, ◌<◌, ℕ, suc, List, [], ◌∷◌, ◌++◌, length, sym, ap, subst, ◌∙◌, append_assoc, arith}
use Rattle.std.specs.List.{All}
use Rattle.std.specs.Str.{encode_utf8_all}
use Rattle.std.proofs.lemmas.Str.{encodes-append}
use Rattle.html_arena.specs.declared.walk.Event.{Event}
use Rattle.html_arena.specs.Steps.{node_in}
use Rattle.html_page.specs.Serialised.{event_text}
use Rattle.html_device.proofs.Puts.{Moves-nil, Moves-is, Moves-trans, front_after, put_err}
use Rattle.html_page.proofs.Texts.{texts, texts_all}
use Rattle.html_page.proofs.serialising.put_below.Goals as goal

tail_of : (n : ℕ) (e : Event) (es : List Event) → All (λ (e : Event). node_in e < n) (e ∷ es) → All (λ (e : Event). node_in e < n) es
tail_of n e es a = λ k d h. a (suc k) d (omega arith)

pub events-init : goal.events-init
events-init g c = record {
  done = [];
  split =
      texts_all c.args.profile c.args.arena.now c.forest.ensures.well_formed c.args.root c.requires.no_host c.at-walk.ensures.forest
      ∙ ap (texts c.args.profile c.args.arena.now) (sym c.at-walk.ensures.events);
  nodes = c.at-walk.ensures.nodes;
  put = Moves-nil _ _;
  failing = λ now. now;
  stalling = λ now. now;
}

pub events-preserved : goal.events-preserved
events-preserved g c =
    let v = c.events.invariant in
    let p = c.args.profile in
    let t = c.args.arena.now in
    let later = c.next.new.self in
    let e : texts p t c.events.walk ≡ event_text p t c.in-Some.event ++ texts p t later = ap (texts p t) c.in-Some.ensures.steps in
    record {
      done = v.done ++ event_text p t c.in-Some.event;
      split = v.split ∙ ap (λ l. v.done ++ l) e ∙ sym (append_assoc v.done (event_text p t c.in-Some.event) (texts p t later));
      nodes = tail_of (length t.labels) c.in-Some.event later (subst (All (λ (e : Event). node_in e < length t.labels)) c.in-Some.ensures.steps v.nodes);
      put = Moves-is _ _ _ _ _ _ (sym (encodes-append v.done (event_text p t c.in-Some.event))) (Moves-trans _ _ _ _ _ _ _ _ v.put c.in_ok-put_event.ensures.bytes);
      failing = λ now. v.failing (c.in_ok-put_event.ensures.failing now);
      stalling = λ now. v.stalling (c.in_ok-put_event.ensures.stalling now);
    }

pub returns-in_err-put_event-clause-bytes : goal.returns-in_err-put_event-clause-bytes
returns-in_err-put_event-clause-bytes g c =
    let v = c.events.invariant in
    let p = c.args.profile in
    let t = c.args.arena.now in
    let later = c.next.new.self in
    let e : texts p t c.events.walk ≡ event_text p t c.in-Some.event ++ texts p t later = ap (texts p t) c.in-Some.ensures.steps in
    put_err _ _ _ _ _ _ c.from_residual.ensures.0
    (front_after _ _ _ _ _ _ _ _ v.put c.in_err-put_event.ensures.bytes (encode_utf8_all (texts p t later))
    (ap encode_utf8_all (v.split ∙ ap (λ l. v.done ++ l) e)
    ∙ encodes-append v.done (event_text p t c.in-Some.event ++ texts p t later)
    ∙ ap (λ l. encode_utf8_all v.done ++ l) (encodes-append (event_text p t c.in-Some.event) (texts p t later))))

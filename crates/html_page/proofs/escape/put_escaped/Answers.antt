use Rattle.std.proofs.Common.{◌≡◌, ℕ, ◌<◌, ◌+◌, ◌-◌, List, ◌++◌, length, take, drop, sym, ap, ◌∙◌, append_assoc, arith, rules}
use Rattle.std.specs.Str.{encode_utf8_all}
use Rattle.std.specs.Str.Iter.{char_indices_offset, char_indices_rest}
use Rattle.std.specs.List.{flat_map}
use Rattle.std.proofs.lemmas.List.{length-append}
use Rattle.html_page.specs.Escaped.{escaped}
use Rattle.html_page.proofs.Runs.{begin_cut, step_cut, keep_cut, pass_cut, run_is, start_within, whole, whole_at, passed, last_run}
use Rattle.html_device.proofs.Puts.{Moves-nil, Moves-is, Moves-trans, front_after, put_err, put_after}
use Rattle.html_page.proofs.escape.put_escaped.Goals as goal

room : (o p : ℕ) (r s e : List ℕ) (m : ℕ) → o + length r < m → r ≡ e ++ s → p ≡ o + length e → p + length s < m
room o p r s e m h q t = let l = ap length q in let n = length-append e s in omega arith

pub loop-at-init : goal.loop-at-init
loop-at-init g c =
    let r : char_indices_rest c.into_iter-at-iterator.result ≡ c.args.text.now = (let k = c.into_iter-at-iterator.ensures.into_iter_gives in let j = c.char_indices-at-items.ensures.rest in cc) in
    let o : char_indices_offset c.into_iter-at-iterator.result ≡ 0 = (let k = c.into_iter-at-iterator.ensures.into_iter_gives in let j = c.char_indices-at-items.ensures.offset in cc) in
    let n = begin_cut (escaped c.args.escape) c.args.text.now _ _ c.utf8.text o r in
    record {
      can = search rules;
      finite = tt;
      within = omega arith;
      cut = n.0;
      put = Moves-is _ _ _ _ _ _ (ap (λ l. encode_utf8_all (flat_map (escaped c.args.escape) l)) (sym n.1)) (Moves-nil _ _);
      failing = λ now. now;
      stalling = λ now. now;
    }

slice_at : (text bytes run : List ℕ) (start at o : ℕ) → bytes ≡ text → at ≡ o → take (o - start) (drop start text) ≡ run → take (at - start) (drop start bytes) ≡ run
slice_at text bytes run start at o e h q = rw (h, e) q

pub returns-in_err-put-clause-bytes : goal.returns-in_err-put-clause-bytes
returns-in_err-put-clause-bytes g c =
    let f = escaped c.args.escape in
    let k = c.loop-at.invariant.cut in
    let t = c.in-Some.ensures.steps in
    let run = slice_at c.args.text.now c.as_bytes-bytes.result.now _ c.loop-at.start c.in-Some.at _ c.as_bytes-bytes.ensures.value t.0 (run_is f c.args.text.now _ _ _ k) in
    put_err _ _ _ _ _ _ c.from_residual.ensures.0
    (front_after _ _ _ _ _ _ _ _ c.loop-at.invariant.put c.in_err-put.ensures.bytes (encode_utf8_all (flat_map f k.after))
    (whole f c.args.text.now _ _ _ k c.utf8.text ∙ ap (λ l. encode_utf8_all (flat_map f k.before) ++ (l ++ encode_utf8_all (flat_map f k.after))) (sym run)))

pub returns-in_err-put-2-clause-bytes : goal.returns-in_err-put-2-clause-bytes
returns-in_err-put-2-clause-bytes g c =
    let f = escaped c.args.escape in
    let k = c.loop-at.invariant.cut in
    let t = c.in-Some.ensures.steps in
    let run = slice_at c.args.text.now c.as_bytes-bytes.result.now _ c.loop-at.start c.in-Some.at _ c.as_bytes-bytes.ensures.value t.0 (run_is f c.args.text.now _ _ _ k) in
    let s = step_cut f c.args.text.now _ _ 0 _ _ c.in-Some.c k t.1 in
    let rep : c.as_bytes.result.now ≡ encode_utf8_all (f c.in-Some.c) = c.as_bytes.ensures.value ∙ sym c.in-Some-replacement.ensures in
    put_err _ _ _ _ _ _ c.from_residual-in_err-put-2.ensures.0
    (front_after _ _ _ _ _ _ _ _ (Moves-trans _ _ _ _ _ _ _ _ c.loop-at.invariant.put c.in_ok-put.ensures.bytes) c.in_err-put-2.ensures.bytes (encode_utf8_all (flat_map f s.later))
    (whole_at f c.args.text.now _ _ _ k c.utf8.text c.in-Some.c s.later s.next
    ∙ ap (λ l. (encode_utf8_all (flat_map f k.before) ++ l) ++ (encode_utf8_all (f c.in-Some.c) ++ encode_utf8_all (flat_map f s.later))) (sym run)
    ∙ ap (λ l. (encode_utf8_all (flat_map f k.before) ++ take (c.in-Some.at - c.loop-at.start) (drop c.loop-at.start c.as_bytes-bytes.result.now)) ++ (l ++ encode_utf8_all (flat_map f s.later))) (sym rep)))

pub loop-at-preserved-in-Some-replacement : goal.loop-at-preserved-in-Some-replacement
loop-at-preserved-in-Some-replacement g c =
    let f = escaped c.args.escape in
    let k = c.loop-at.invariant.cut in
    let t = c.in-Some.ensures.steps in
    let run = slice_at c.args.text.now c.as_bytes-bytes.result.now _ c.loop-at.start c.in-Some.at _ c.as_bytes-bytes.ensures.value t.0 (run_is f c.args.text.now _ _ _ k) in
    let rep : c.as_bytes.result.now ≡ encode_utf8_all (f c.in-Some.c) = c.as_bytes.ensures.value ∙ sym c.in-Some-replacement.ensures in
    let n = pass_cut f c.args.text.now _ _ _ (c.in-Some.at + c.len_utf8.result) _ _ c.in-Some.c k t.1 t.2 (ap (λ o. o + c.len_utf8.result) t.0 ∙ ap (λ l. char_indices_offset c.loop-at.at-iterator + l) c.len_utf8.ensures.len) in
    record {
      can = room _ _ _ _ _ _ c.loop-at.invariant.can t.1 t.2;
      finite = tt;
      within = start_within f c.args.text.now _ _ _ n.0;
      cut = n.0;
      put =
          Moves-is _ _ _ _ _ _
          (ap (λ l. (encode_utf8_all (flat_map f k.before) ++ l) ++ c.as_bytes.result.now) run
          ∙ ap (λ l. (encode_utf8_all (flat_map f k.before) ++ encode_utf8_all k.run) ++ l) rep
          ∙ append_assoc (encode_utf8_all (flat_map f k.before)) (encode_utf8_all k.run) (encode_utf8_all (f c.in-Some.c))
          ∙ sym (passed f c.args.text.now k.before k.run c.in-Some.c k.as_it_is)
          ∙ ap (λ l. encode_utf8_all (flat_map f l)) (sym n.1))
          (Moves-trans _ _ _ _ _ _ _ _ (Moves-trans _ _ _ _ _ _ _ _ c.loop-at.invariant.put c.in_ok-put.ensures.bytes) c.in_ok-put-2.ensures.bytes);
      failing = λ now. c.loop-at.invariant.failing (c.in_ok-put.ensures.failing (c.in_ok-put-2.ensures.failing now));
      stalling = λ now. c.loop-at.invariant.stalling (c.in_ok-put.ensures.stalling (c.in_ok-put-2.ensures.stalling now));
    }

pub loop-at-preserved : goal.loop-at-preserved
loop-at-preserved g c =
    let f = escaped c.args.escape in
    let k = c.loop-at.invariant.cut in
    let t = c.in-Some.ensures.steps in
    let n = keep_cut f c.args.text.now _ _ _ _ _ c.in-Some.c k t.1 t.2 c.in_default.ensures in
    record {
      can = room _ _ _ _ _ _ c.loop-at.invariant.can t.1 t.2;
      finite = tt;
      within = start_within f c.args.text.now _ _ _ n.0;
      cut = n.0;
      put = Moves-is _ _ _ _ _ _ (ap (λ l. encode_utf8_all (flat_map f l)) (sym n.1)) c.loop-at.invariant.put;
      failing = c.loop-at.invariant.failing;
      stalling = c.loop-at.invariant.stalling;
    }

pub returns-clause-bytes : goal.returns-clause-bytes
returns-clause-bytes g c =
    let f = escaped c.args.escape in
    let k = c.loop-at.invariant.cut in
    let l = last_run f c.args.text.now _ _ _ k c.in-None.ensures.steps.0 c.utf8.text in
    put_after _ _ _ _ _ _ _ _ _ _ c.loop-at.invariant.put c.put-2.ensures.bytes
    (l.1 ∙ ap (λ v. encode_utf8_all (flat_map f k.before) ++ v) (sym (ap (λ v. take (length v - c.loop-at.start) (drop c.loop-at.start v)) c.as_bytes-bytes.ensures.value ∙ l.0)))

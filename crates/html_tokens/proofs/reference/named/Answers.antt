use Rattle.std.proofs.Common.{◌≡◌, ◌∙◌, ◌<◌, ◌≤◌, ◌+◌, ◌∷◌, ◌++◌, [], sym, ap, arith, length, take, get_or, append-nil}
use Rattle.std.proofs.Math.Seq.{take-length}
use Rattle.std.proofs.lemmas.List.{take_more}
use Rattle.html_charref.specs.Table.{longest, longest_len, step_of}
use Rattle.html_charref.specs.Walk.{HasWalked}
use Rattle.html_charref.specs.declared.walk.Step.TheVariants.{More, End}
use Rattle.html_tokens.proofs.RefLemmas.{found_short, walk_found, walk_short}
use Rattle.html_tokens.proofs.reference.named.Goals as goal

pub returns-in-End : goal.returns-in-End
returns-in-End c =
    let items = c.args.input.now.queue.items in
    let len : length c.unread-rest.result.now ≡ length items = ap length c.unread-rest.ensures in
    let there : c.index-rest-at.result ≡ get_or items c.loop-at.at c.index-rest-at.result = rw c.unread-rest.ensures at c.index-rest-at.is in
    let answer : End c.in-End.found ≡ step_of c.args.table.now (take c.loop-at.at items ++ c.index-rest-at.result ∷ []) =
    c.in-End.ensures.answer (take c.loop-at.at items) c.loop-at.invariant.walked ∙ ap (λ rows. step_of rows (take c.loop-at.at items ++ c.index-rest-at.result ∷ [])) c.loop-at.invariant.table in
    let short : c.loop-at.at < length items = omega arith in (
      (λ more h. walk_found c.args.table.now items more c.loop-at.at c.index-rest-at.result c.in-End.found short there answer),
      found_short c.args.table.now items c.in-End.found c.walk-walk.ensures.rule
          (ap (longest c.args.table.now) (sym (append-nil items)) ∙ walk_found c.args.table.now items [] c.loop-at.at c.index-rest-at.result c.in-End.found short there answer),
    )

pub returns-then-input : goal.returns-then-input
returns-then-input c =
    let items = c.args.input.now.queue.items in
    let len : length c.unread-rest.result.now ≡ length items = ap length c.unread-rest.ensures in
    let at : c.loop-at.at ≡ length items = omega arith in
    let whole : take c.loop-at.at items ≡ items = rw at (take-length items) in
    let best : longest c.args.table.now items ≡ c.best.result =
    sym (c.best.ensures items (rw whole at c.loop-at.invariant.walked) ∙ ap (λ rows. longest rows items) c.loop-at.invariant.table) in (
      (λ more h. let none : more ≡ [] = h c.if-input.true in rw (none, append-nil items) best),
      found_short c.args.table.now items c.best.result c.walk-walk.ensures.rule best,
    )

pub returns-else-input : goal.returns-else-input
returns-else-input c =
    let len : length c.unread-rest.result.now ≡ length c.args.input.now.queue.items = ap length c.unread-rest.ensures in
    let short : c.loop-at.at ≤ longest_len c.args.table.now = c.loop-at.invariant.short in
    (c.if-input.false, omega arith)

pub loop-at-preserved : goal.loop-at-preserved
loop-at-preserved c =
    let items = c.args.input.now.queue.items in
    let len : length c.unread-rest.result.now ≡ length items = ap length c.unread-rest.ensures in
    let there : c.index-rest-at.result ≡ get_or items c.loop-at.at c.index-rest-at.result = rw c.unread-rest.ensures at c.index-rest-at.is in
    let short : c.loop-at.at < length items = omega arith in
    let answer : More ≡ step_of c.args.table.now (take c.loop-at.at items ++ c.index-rest-at.result ∷ []) =
    c.in-More.ensures.answer (take c.loop-at.at items) c.loop-at.invariant.walked ∙ ap (λ rows. step_of rows (take c.loop-at.at items ++ c.index-rest-at.result ∷ [])) c.loop-at.invariant.table in
    let walked : HasWalked c.step.new.self (take (c.loop-at.at + 1) items) =
    (let t = take_more items c.loop-at.at c.index-rest-at.result short in rw (t, ← there) (c.step.ensures.walked (take c.loop-at.at items) c.loop-at.invariant.walked)) in
    record {
      walked = walked;
      table = c.step.ensures.table ∙ c.loop-at.invariant.table;
      short = walk_short c.args.table.now items c.loop-at.at c.index-rest-at.result short there answer;
    }

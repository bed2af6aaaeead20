use Rattle.std.proofs.Common.{ℕ, ◌<◌, List, [], false, Err, ap, sym, subst, ◌∙◌, append-nil, length}
use Rattle.std.proofs.lemmas.Result.{err_from_is_err_and}
use Rattle.html_input.specs.Decode.{code_points}
use Rattle.html_input.specs.Fed.{Fed}
use Rattle.html_input.specs.declared.decoder.TheConstants.{LIMIT}
use Rattle.html_page.specs.TokenList.{behind_mark}
use Rattle.html_page.proofs.Inputs.{list-cause, fed-all}
use Rattle.html_page.proofs.tokens.text_of.Goals as goal

pub returns-in_err-feed-clause-cause : goal.returns-in_err-feed-clause-cause
returns-in_err-feed-clause-cause c =
    let p = err_from_is_err_and c.from_residual.result c.from_residual.ensures.1 in
    rw (p.1, p.2) (list-cause c.in_err-feed.field-0.0 c.args.bytes.now
    (λ e. c.in_err-feed.ensures.too_long e LIMIT [] [] c.new-decoder.ensures c.args.bytes.now)
    (λ e. c.in_err-feed.ensures.running LIMIT [] [] c.new-decoder.ensures (ap Err e)))

pub returns-in_err-feed-2-clause-cause : goal.returns-in_err-feed-2-clause-cause
returns-in_err-feed-2-clause-cause c =
    let p = err_from_is_err_and c.from_residual-in_err-feed-2.result c.from_residual-in_err-feed-2.ensures.1 in
    let f = c.in_ok-feed.ensures.fed LIMIT [] [] c.new-decoder.ensures in
    rw (p.1, p.2) (list-cause c.in_err-feed-2.field-0.0 c.args.bytes.now
    (λ e. subst (λ (b : List ℕ). LIMIT < length (code_points b)) (append-nil (behind_mark c.args.bytes.now)) (c.in_err-feed-2.ensures.too_long e LIMIT _ _ f []))
    (λ e. c.in_err-feed-2.ensures.running LIMIT _ _ f (ap Err e)))

pub returns-in_err-finish-clause-cause : goal.returns-in_err-finish-clause-cause
returns-in_err-finish-clause-cause c =
    let p = err_from_is_err_and c.from_residual-in_err-finish.result c.from_residual-in_err-finish.ensures.1 in
    let f = c.in_ok-feed.ensures.fed LIMIT [] [] c.new-decoder.ensures in
    let g = c.in_ok-feed-2.ensures.fed LIMIT _ _ f in
    rw (p.1, p.2) (list-cause c.in_err-finish.field-0.0 c.args.bytes.now
    (λ e. c.in_err-finish.ensures.too_long e LIMIT _ _ g)
    (λ e. c.in_err-finish.ensures.running LIMIT _ _ g (ap Err e)))

pub returns-clause-text : goal.returns-clause-text
returns-clause-text c =
    let begun = subst (λ (t : List ℕ). Fed LIMIT false c.new-decoder.result [] t) (sym c.new-text.ensures.items) c.new-decoder.ensures in
    let f = fed-all _ _ _ _ (c.in_ok-feed.ensures.fed LIMIT [] _ begun) c.in_ok-feed.ensures.kept in
    let g = fed-all _ _ _ _ (c.in_ok-feed-2.ensures.fed LIMIT _ _ f) c.in_ok-feed-2.ensures.kept in
    c.in_ok-finish.ensures.kept ∙ (c.in_ok-finish.ensures.decoded LIMIT _ _ g).0

pub returns-clause-within : goal.returns-clause-within
returns-clause-within c =
    let f = c.in_ok-feed.ensures.fed LIMIT [] [] c.new-decoder.ensures in
    let g = c.in_ok-feed-2.ensures.fed LIMIT _ _ f in
    (c.in_ok-finish.ensures.decoded LIMIT _ _ g).1

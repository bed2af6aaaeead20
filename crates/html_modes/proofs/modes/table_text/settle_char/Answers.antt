use Rattle.std.proofs.Common.{◌∙◌, Bool, sym, subst, if◌then◌else◌}
use Rattle.std.proofs.lemmas.Result.{on_ok_weaker}
use Rattle.html_ledger.specs.declared.symbol.Symbol.TheVariants.{Char}
use Rattle.html_construction.specs.Plans.{Do, Over, Runs}
use Rattle.html_construction.specs.Words.{InsertCharacter}
use Rattle.html_modes.specs.RuleForms.{fostering, over}
use Rattle.html_modes.specs.Rules.{plan}
use Rattle.html_modes.proofs.Ruled.{stop_here}
use Rattle.html_modes.proofs.RulesInBody.{not-null}
use Rattle.html_modes.proofs.RulesInTableText.{no-cause, settled-dropped, settled-other}
use Rattle.html_modes.proofs.modes.table_text.settle_char.Goals as goal

pub returns-in-Some-clause-follows : goal.returns-in-Some-clause-follows
returns-in-Some-clause-follows c =
    let t = c.args.token.now in
    let z = c.drop_token.new.self in
    on_ok_weaker c.drop_token.result
    (λ d. settled-dropped (Char c.args.c) c.in-Some.cause (if c.args.stays then Do InsertCharacter over else fostering) t c.args.page.now Over z c.requires.symbol (sym c.must_drop.ensures.value ∙ c.in-Some.is) (d plan over Over z (stop_here Over t z)))
    c.drop_token.ensures.follows

pub returns-then-stays-clause-follows : goal.returns-then-stays-clause-follows
returns-then-stays-clause-follows c =
    let t = c.args.token.now in
    let z = c.insert_char.new.self in
    on_ok_weaker c.insert_char.result
    (λ d. settled-other c.args.c (if c.args.stays then Do InsertCharacter over else fostering) t c.args.page.now Over z c.requires.symbol (sym c.must_drop.ensures.value ∙ no-cause c.must_drop.result c.in_default.not-Some) (not-null c.args.c c.if-c-eq0.false)
    (subst (λ (b : Bool). Runs plan (if b then Do InsertCharacter over else fostering) t c.args.page.now Over z) (sym c.if-stays.true) (d plan over Over z (stop_here Over t z))))
    c.insert_char.ensures.follows

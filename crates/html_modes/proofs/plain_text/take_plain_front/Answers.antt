use Rattle.std.proofs.Common.{ℕ, ◌==◌, ◌≡◌, ◌∷◌, [], List, Bool, true, false, not, ◌&&◌, ◌||◌, IsTrue, take, refl, sym, ◌∙◌, subst, ap}
use Rattle.std.specs.Prelude.{slice_get, Some}
use Rattle.std.specs.List.{list_all}
use Rattle.std.proofs.lemmas.Bool.{false≢true}
use Rattle.html_text.specs.Plain.{is_plain_char}
use Rattle.html_ledger.specs.declared.history.History.{History}
use Rattle.html_ledger.specs.declared.symbol.Symbol.TheVariants.{Char}
use Rattle.html_ledger.specs.Flags.{is_free, is_not_null, may_text_run}
use Rattle.html_modes.specs.Plain.{GoesOnText}
use Rattle.html_tokens.specs.declared.token.TokenKind.TheVariants as kind
use Rattle.html_modes.proofs.Begun.{accepts-gives, run-gives}
use Rattle.html_modes.proofs.Constructing.{char-taken, each-constructs}
use Rattle.html_modes.proofs.Outside.{constructs-outside}
use Rattle.html_modes.proofs.TextAlone.{text-adds}
use Rattle.html_modes.proofs.plain_text.take_plain_front.Goals as goal

three : (a b c : Bool) → a ≡ false → b ≡ true → IsTrue c → IsTrue (not a && (b && c))
three false true c x y z = z
three true b c x y z = absurd (false≢true (sym x))
three false false c x y z = absurd (false≢true y)

-- a plain text has no U+0000
visible-one : (z a : Bool) → not (z || a) ≡ true → not z ≡ true
visible-one true a h = h
visible-one false a h = refl

both : (a b : Bool) → (a && b) ≡ true → (a ≡ true) × (b ≡ true)
both true b e = (refl, e)
both false b e = absurd (false≢true e)

join : (a b : Bool) → a ≡ true → b ≡ true → (a && b) ≡ true
join true b p q = q
join false b p q = absurd (false≢true p)

visible : (cs : List ℕ) → list_all is_plain_char cs ≡ true → list_all is_not_null cs ≡ true
visible [] h = refl
visible (c ∷ cs) h = (let p = both _ _ h in join (is_not_null c) (list_all is_not_null cs) (visible-one (c == 0) (c == 13 || (c == 38 || c == 60)) p.0) (visible cs p.1))

may-run : (h : History) (text : List ℕ) (c : ℕ) → slice_get text 0 ≡ Some c → h.awaits_doctype ≡ false → list_all is_not_null text ≡ true → IsTrue (is_free h (Char c)) → IsTrue (may_text_run h text)
may-run h [] c e d v f = absurd cc
may-run h (x ∷ xs) c e d v f =
    let same : c ≡ x = cc in
    three h.awaits_doctype (list_all is_not_null (x ∷ xs)) (is_free h (Char x)) d v (subst (λ y. IsTrue (is_free h (Char y))) same f)

pub take_plain-requires-clause-may : goal.take_plain-requires-clause-may
take_plain-requires-clause-may c =
    may-run c.args.page.now.ledger.history c.args.text.now c.first-first.result c.first-first.ensures.first
    (c.takes_run.ensures.doctype c.if-takes_run.true) (visible c.args.text.now c.first-first.ensures.plain) (c.takes_run.ensures.free c.if-takes_run.true)

-- the first of code points none of which is U+0000
first-taken : (text : List ℕ) (x : ℕ) → slice_get text 0 ≡ Some x → take 1 text ≡ x ∷ []
first-taken [] x e = absurd cc
first-taken (y ∷ ys) x e = (let same : y ≡ x = cc in ap (λ z. z ∷ []) same)

first-visible : (text : List ℕ) (x : ℕ) → slice_get text 0 ≡ Some x → list_all is_not_null text ≡ true → (x == 0) ≡ false
first-visible [] x e v = absurd cc
first-visible (y ∷ ys) x e v = (let same : y ≡ x = cc in subst (λ z. (z == 0) ≡ false) same (by (y == 0) (both _ _ v).0))
  where
    by : (b : Bool) → not b ≡ true → b ≡ false
    by true v = absurd (false≢true v)
    by false v = refl

pub returns-clause-plain : goal.returns-clause-plain
returns-clause-plain c = λ v.
    let x = c.first-first.result in
    subst (λ run. GoesOnText run c.args.page.now c.take_char.new.page) (sym (first-taken c.args.text.now x c.first-first.ensures.first))
    (c.in_ok-take_char.ensures.plain (first-visible c.args.text.now x c.first-first.ensures.first (visible c.args.text.now c.first-first.ensures.plain)))

pub returns-clause-each : goal.returns-clause-each
returns-clause-each c =
    char-taken c.args.text.now c.first-first.result c.args.page.now c.take_char.new.page (first-taken c.args.text.now c.first-first.result c.first-first.ensures.first)
    (sym c.if-takes_run.false ∙ c.takes_run.ensures.value) c.in_ok-take_char.ensures.entries

pub returns-clause-constructs : goal.returns-clause-constructs
returns-clause-constructs c = each-constructs (take 1 c.args.text.now) c.args.page.now c.take_char.new.page (returns-clause-each c)

pub returns-clause-adds : goal.returns-clause-adds
returns-clause-adds c = text-adds (take 1 c.args.text.now) c.args.page.now c.take_char.new.page (returns-clause-constructs c)

pub returns-clause-out : goal.returns-clause-out
returns-clause-out c = constructs-outside (take 1 c.args.text.now) c.args.page.now c.take_char.new.page (returns-clause-constructs c)

pub returns-clause-gives : goal.returns-clause-gives
returns-clause-gives c = accepts-gives (kind.Char c.first-first.result) c.args.page.now c.take_char.new.page c.in_ok-take_char.ensures.takes

pub returns-then-takes_run-clause-gives : goal.returns-then-takes_run-clause-gives
returns-then-takes_run-clause-gives c = run-gives (take c.in_ok-count.count c.args.text.now) c.args.page.now c.take_plain.new.page c.in_ok-count.ensures.takes

pub returns-then-takes_run-clause-out : goal.returns-then-takes_run-clause-out
returns-then-takes_run-clause-out c =
    let front = take c.in_ok-count.count c.args.text.now in
    constructs-outside front c.args.page.now c.take_plain.new.page (each-constructs front c.args.page.now c.take_plain.new.page c.in_ok-count.ensures.each)

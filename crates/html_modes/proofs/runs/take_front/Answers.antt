use Rattle.std.proofs.Common.{arith, ℕ, zero, suc, ◌==◌, ◌≡◌, ◌<◌, ◌≤◌, ◌∷◌, [], List, Bool, true, false, not, ◌&&◌, IsTrue, length, take, refl, sym, ◌∙◌, subst, ap, get_or}
use Rattle.std.specs.Prelude.{slice_get, Some}
use Rattle.std.specs.List.{list_all}
use Rattle.std.proofs.lemmas.Bool.{false≢true}
use Rattle.html_ledger.specs.declared.history.History.{History}
use Rattle.html_ledger.specs.declared.symbol.Symbol.TheVariants.{Char}
use Rattle.html_ledger.specs.Flags.{is_free, is_not_null, may_text_run}
use Rattle.html_modes.specs.Counting.{TakesEach}
use Rattle.html_modes.specs.Plain.{GoesOnText}
use Rattle.html_tokens.specs.declared.token.TokenKind.TheVariants as kind
use Rattle.html_modes.proofs.Begun.{accepts-gives, run-gives}
use Rattle.html_modes.proofs.Constructing.{char-taken, each-constructs}
use Rattle.html_modes.proofs.Outside.{constructs-outside}
use Rattle.html_modes.proofs.TextAlone.{text-adds}
use Rattle.html_modes.proofs.runs.take_front.Goals as goal

three : (a b c : Bool) → a ≡ false → b ≡ true → IsTrue c → IsTrue (not a && (b && c))
three false true c x y z = z
three true b c x y z = absurd (false≢true (sym x))
three false false c x y z = absurd (false≢true y)

may-run : (h : History) (text : List ℕ) (k c : ℕ) → slice_get text 0 ≡ Some c → 0 < k → h.awaits_doctype ≡ false → list_all is_not_null (take k text) ≡ true → IsTrue (is_free h (Char c)) → IsTrue (may_text_run h (take k text))
may-run h [] k c e p d v f = absurd cc
may-run h (x ∷ xs) zero c e p d v f = absurd (omega arith)
may-run h (x ∷ xs) (suc k) c e p d v f =
    let same : c ≡ x = cc in
    three h.awaits_doctype (list_all is_not_null (x ∷ take k xs)) (is_free h (Char x)) d v (subst (λ y. IsTrue (is_free h (Char y))) same f)

first-read : (text : List ℕ) (x : ℕ) → 0 < length text → x ≡ get_or text 0 x → slice_get text 0 ≡ Some x
first-read [] x h e = absurd (omega arith)
first-read (y ∷ ys) x h e = ap (λ z. Some z) (sym e)

pub take_run-requires-clause-may : goal.take_run-requires-clause-may
take_run-requires-clause-may c =
    let first : slice_get c.args.text.now 0 ≡ Some c.index-text-0.result = first-read c.args.text.now c.index-text-0.result c.requires.some c.index-text-0.is in
    may-run c.args.page.now.ledger.history c.args.text.now c.null_index-end.result c.index-text-0.result first
    (c.null_index-end.ensures.some c.index-text-0.result first (c.takes_run.ensures.visible c.if-takes_run.true))
    (c.takes_run.ensures.doctype c.if-takes_run.true) c.null_index-end.ensures.visible (c.takes_run.ensures.free c.if-takes_run.true)

-- the first of code points none of which is U+0000
first-taken : (text : List ℕ) (x : ℕ) → 0 < length text → x ≡ get_or text 0 x → take 1 text ≡ x ∷ []
first-taken [] x h e = absurd (omega arith)
first-taken (y ∷ ys) x h e = ap (λ z. z ∷ []) (sym e)

first-visible : (text : List ℕ) (x : ℕ) → 0 < length text → x ≡ get_or text 0 x → list_all is_not_null (take 1 text) ≡ true → (x == 0) ≡ false
first-visible [] x h e v = absurd (omega arith)
first-visible (y ∷ ys) x h e v = subst (λ z. (z == 0) ≡ false) (sym e) (by (y == 0) v)
  where
    by : (b : Bool) → (not b && true) ≡ true → b ≡ false
    by true v = absurd (false≢true v)
    by false v = refl

pub returns-clause-plain : goal.returns-clause-plain
returns-clause-plain c = λ v.
    let x = c.index-text-0.result in
    subst (λ run. GoesOnText run c.args.page.now c.take_char.new.page) (sym (first-taken c.args.text.now x c.requires.some c.index-text-0.is))
    (c.in_ok-take_char.ensures.plain (first-visible c.args.text.now x c.requires.some c.index-text-0.is v))

pub returns-clause-each : goal.returns-clause-each
returns-clause-each c =
    char-taken c.args.text.now c.index-text-0.result c.args.page.now c.take_char.new.page (first-taken c.args.text.now c.index-text-0.result c.requires.some c.index-text-0.is)
    (sym c.if-takes_run.false ∙ c.takes_run.ensures.value) c.in_ok-take_char.ensures.entries

pub returns-clause-constructs : goal.returns-clause-constructs
returns-clause-constructs c = each-constructs (take 1 c.args.text.now) c.args.page.now c.take_char.new.page (returns-clause-each c)

pub returns-clause-adds : goal.returns-clause-adds
returns-clause-adds c = text-adds (take 1 c.args.text.now) c.args.page.now c.take_char.new.page (returns-clause-constructs c)

pub returns-clause-out : goal.returns-clause-out
returns-clause-out c = constructs-outside (take 1 c.args.text.now) c.args.page.now c.take_char.new.page (returns-clause-constructs c)

pub returns-clause-gives : goal.returns-clause-gives
returns-clause-gives c = accepts-gives (kind.Char c.index-text-0.result) c.args.page.now c.take_char.new.page c.in_ok-take_char.ensures.takes

pub returns-then-takes_run-clause-gives : goal.returns-then-takes_run-clause-gives
returns-then-takes_run-clause-gives c = run-gives (take c.in_ok-count.count (take c.null_index-end.result c.args.text.now)) c.args.page.now c.take_run.new.page c.in_ok-count.ensures.takes

-- a front of a front
front-front : (n k : ℕ) (text : List ℕ) → n ≤ length (take k text) → take n (take k text) ≡ take n text
front-front zero k text h = refl
front-front (suc n) zero text h = absurd (omega (arith, h))
front-front (suc n) (suc k) [] h = refl
front-front (suc n) (suc k) (x ∷ text) h = ap (λ xs. x ∷ xs) (front-front n k text (omega (arith, h)))

pub returns-then-takes_run-clause-each : goal.returns-then-takes_run-clause-each
returns-then-takes_run-clause-each c =
    subst (λ cs. TakesEach cs c.args.page.now c.take_run.new.page) (front-front c.in_ok-count.count c.null_index-end.result c.args.text.now c.in_ok-count.ensures.count.1) c.in_ok-count.ensures.each

pub returns-then-takes_run-clause-constructs : goal.returns-then-takes_run-clause-constructs
returns-then-takes_run-clause-constructs c = each-constructs (take c.in_ok-count.count c.args.text.now) c.args.page.now c.take_run.new.page (returns-then-takes_run-clause-each c)

pub returns-then-takes_run-clause-out : goal.returns-then-takes_run-clause-out
returns-then-takes_run-clause-out c = constructs-outside (take c.in_ok-count.count c.args.text.now) c.args.page.now c.take_run.new.page (returns-then-takes_run-clause-constructs c)

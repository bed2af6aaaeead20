-- Stretches of code points that become text.
use Rattle.std.proofs.Common.{ℕ, suc, inl, inr, ◌+◌, ◌≡◌, ◌==◌, Bool, true, false, not, ◌&&◌, IsTrue, List, [], ◌∷◌, ◌++◌, length, replicate, refl, sym, ap, subst, ◌∙◌, arith, length-append, append_assoc}
use Rattle.std.specs.List.{list_all}
use Rattle.std.proofs.Math.Bool.{or-false, and-true, and-false, and_assoc, and_comm}
use Rattle.std.proofs.lemmas.Bool.{cases_Bool, and_parts, not-true, eqb-true, false_from_ne_true}
use Rattle.std.proofs.lemmas.List.{append-nil, length-replicate}
use Rattle.html_ledger.specs.declared.symbol.Symbol.TheVariants.{Char}
use Rattle.html_ledger.specs.declared.fate.Fate.{Fate}
use Rattle.html_ledger.specs.declared.fate.Fate.TheVariants.{Text}
use Rattle.html_ledger.specs.declared.history.History.{History}
use Rattle.html_ledger.specs.Spaces.{is_space}
use Rattle.html_ledger.specs.Symbols.{chars_of}
use Rattle.html_ledger.specs.Flags.{after, after_run, has_error, is_free, is_free_run, is_not_null, may_null, may_text, may_text_run}
use Rattle.html_ledger.specs.Entries.{Entries, Fed, TakesRun, noted, given, given_run}
use Rattle.html_ledger.proofs.Feeding.{Takes-given}
use Rattle.html_ledger.proofs.Words.{or_first}

abbrev is_none_left : List ℕ → Bool
is_none_left [] = true
is_none_left (c ∷ cs) = false

-- the flags after code points of text, at once
abbrev pub text_flags : History → List ℕ → History
text_flags h cs = record h {
  awaits_doctype = h.awaits_doctype && list_all is_space cs;
  prolog = h.prolog && list_all is_space cs;
  ignore_line_feed = h.ignore_line_feed && is_none_left cs;
}

after-text : (h : History) (c d : ℕ) → after h (Char c) (Text d) ≡ record h { awaits_doctype = h.awaits_doctype && is_space c; prolog = h.prolog && is_space c; ignore_line_feed = false }
after-text h c d =
    rw (and-true h.open_select, or-false h.select, or-false h.open_select, or-false h.template, or-false h.frameset, or-false h.col, or-false h.noscript, or-false h.form, or-false h.foreign) refl

pub after_run-is : (h : History) (cs : List ℕ) (d : ℕ) → after_run h cs (Text d) ≡ text_flags h cs
after_run-is h [] d = rw (and-true h.awaits_doctype, and-true h.prolog, and-true h.ignore_line_feed) refl
after_run-is h (c ∷ cs) d =
    let one : History = record h { awaits_doctype = h.awaits_doctype && is_space c; prolog = h.prolog && is_space c; ignore_line_feed = false } in
    ap (λ g. after_run g cs (Text d)) (after-text h c d)
    ∙ after_run-is one cs d
    ∙ rw (and_assoc h.awaits_doctype (is_space c) (list_all is_space cs), and_assoc h.prolog (is_space c) (list_all is_space cs), and-false h.ignore_line_feed) refl

-- after a code point that may become text any other may
free-after : (h : History) (c d : ℕ) (cs : List ℕ) → is_free h (Char c) ≡ true → is_free_run (after h (Char c) (Text d)) cs ≡ true
free-after h c d [] e = refl
free-after h c d (x ∷ cs) e =
    let n : (is_space c && h.prolog) ≡ false = not-true (is_space c && h.prolog) (and_parts (not (is_space c && h.prolog)) (not ((c == 10) && h.ignore_line_feed)) e).0 in
    let m : (h.prolog && is_space c) ≡ false = and_comm h.prolog (is_space c) ∙ n in
    rw (m, and-false (is_space x), and-false (x == 10)) refl

step : (n f l g : Bool) → (f ≡ true → g ≡ true) → (n && l && f) ≡ (n && f && (l && g))
step false f l g h = refl
step true false l g h = and-false l
step true true l g h = rw (h refl) refl

pub may_text_run-step : (h : History) (c : ℕ) (cs : List ℕ) (d : ℕ) → may_text_run h (c ∷ cs) ≡ (not h.awaits_doctype && (may_text h (Char c) && may_text_run (after h (Char c) (Text d)) cs))
may_text_run-step h c cs d =
    elim (cases_Bool h.awaits_doctype) [
      | inl e ↦ rw e refl
      | inr e ↦ rw e (step (is_not_null c) (is_free h (Char c)) (list_all is_not_null cs) (is_free_run (after h (Char c) (Text d)) cs) (free-after h c d cs))
    ]

-- after the mode initial text has no error
no-error : (h : History) (c d : ℕ) → is_not_null c ≡ true → h.awaits_doctype ≡ false → has_error h (Char c) (Text d) ≡ false
no-error h c d n e = rw (not-true (c == 0) n, e, and-false (not (is_space c))) refl

still-begun : (h : History) (c d : ℕ) → h.awaits_doctype ≡ false → (after h (Char c) (Text d)).awaits_doctype ≡ false
still-begun h c d e = rw e refl

given-char : (e : Entries) (c d : ℕ) → is_not_null c ≡ true → e.history.awaits_doctype ≡ false → given e (Char c) (Text d) ≡ record e { fates = e.fates ++ Text d ∷ []; history = after e.history (Char c) (Text d) }
given-char e c d v n = ap (λ b. noted e (Char c) (Text d) b) (no-error e.history c d v n)

-- all fates at once
pub given_run-is : (e : Entries) (cs : List ℕ) (d : ℕ) → list_all is_not_null cs ≡ true → e.history.awaits_doctype ≡ false → given_run e cs (Text d) ≡ record e { fates = e.fates ++ replicate (length cs) (Text d); history = after_run e.history cs (Text d) }
given_run-is e [] d v n = ap (λ fs. record e { fates = fs }) (sym (append-nil e.fates))
given_run-is e (c ∷ cs) d v n =
    let w = and_parts (is_not_null c) (list_all is_not_null cs) v in
    ap (λ x. given_run x cs (Text d)) (given-char e c d w.0 n)
    ∙ given_run-is (record e { fates = e.fates ++ Text d ∷ []; history = after e.history (Char c) (Text d) }) cs d w.1 (still-begun e.history c d n)
    ∙ ap (λ fs. record e { fates = fs; history = after_run (after e.history (Char c) (Text d)) cs (Text d) }) (append_assoc e.fates (Text d ∷ []) (replicate (length cs) (Text d)))

pub begun-run : (h : History) (cs : List ℕ) → IsTrue (may_text_run h cs) → h.awaits_doctype ≡ false
begun-run h cs e = not-true h.awaits_doctype (and_parts (not h.awaits_doctype) (list_all is_not_null cs && is_free_run h cs) e).0

no-nulls : (h : History) (cs : List ℕ) → IsTrue (may_text_run h cs) → list_all is_not_null cs ≡ true
no-nulls h cs e = (and_parts (list_all is_not_null cs) (is_free_run h cs) (and_parts (not h.awaits_doctype) (list_all is_not_null cs && is_free_run h cs) e).1).0

Takes-run : (e : Entries) (cs : List ℕ) (d : ℕ) → IsTrue (may_text_run e.history cs) → e.kept ≡ [] → TakesRun cs e (given_run e cs (Text d))
Takes-run e [] d h none = λ s ts a. subst (λ us. Fed s e us) (sym (append-nil ts)) a
Takes-run e (c ∷ cs) d h none =
    let n : Entries = given e (Char c) (Text d) in
    let v = and_parts (not e.history.awaits_doctype) (may_text e.history (Char c) && may_text_run n.history cs) (sym (may_text_run-step e.history c cs d) ∙ h) in
    let w = and_parts (may_text e.history (Char c)) (may_text_run n.history cs) v.1 in
    λ s ts a. subst (λ us. Fed s (given_run n cs (Text d)) us) (append_assoc ts (Char c ∷ []) (chars_of cs)) (Takes-run n cs d w.1 none s (ts ++ Char c ∷ []) (Takes-given e n (Char c) (Text d) (or_first (may_text e.history (Char c)) (may_null e.history (Char c)) w.0) none refl s ts a))

pub Takes-given_run : (e n : Entries) (cs : List ℕ) (d : ℕ) → IsTrue (may_text_run e.history cs) → e.kept ≡ [] → n ≡ given_run e cs (Text d) → TakesRun cs e n
Takes-given_run e n cs d h none is = subst (λ x. TakesRun cs e x) (sym is) (Takes-run e cs d h none)

none_left : (cs : List ℕ) → (length cs == 0) ≡ is_none_left cs
none_left [] = refl
none_left (c ∷ cs) = false_from_ne_true (length (c ∷ cs) == 0) (λ e. let z : suc (length cs) ≡ 0 = eqb-true (suc (length cs)) 0 e in omega arith)

pub flags-are : (h : History) (cs : List ℕ) (a b n : Bool) (d : ℕ) → a ≡ (h.awaits_doctype && list_all is_space cs) → b ≡ (h.prolog && list_all is_space cs) → n ≡ (h.ignore_line_feed && (length cs == 0)) → record h { awaits_doctype = a; prolog = b; ignore_line_feed = n } ≡ after_run h cs (Text d)
flags-are h cs a b n d p q r =
    ap (λ x. record h { awaits_doctype = x; prolog = b; ignore_line_feed = n }) p
    ∙ ap (λ x. record h { awaits_doctype = h.awaits_doctype && list_all is_space cs; prolog = x; ignore_line_feed = n }) q
    ∙ ap (λ x. record h { awaits_doctype = h.awaits_doctype && list_all is_space cs; prolog = h.prolog && list_all is_space cs; ignore_line_feed = x }) (r ∙ ap (λ x. h.ignore_line_feed && x) (none_left cs))
    ∙ sym (after_run-is h cs d)

pub run-given : (e n : Entries) (cs : List ℕ) (d : ℕ) → IsTrue (may_text_run e.history cs) → n.fates ≡ e.fates ++ replicate (length cs) (Text d) → n.history ≡ after_run e.history cs (Text d) → n.kept ≡ e.kept → n.errors ≡ e.errors → n ≡ given_run e cs (Text d)
run-given e n cs d h p q r t =
    ap (λ x. record n { fates = x }) p
    ∙ ap (λ x. record n { fates = e.fates ++ replicate (length cs) (Text d); history = x }) q
    ∙ ap (λ x. record n { fates = e.fates ++ replicate (length cs) (Text d); history = after_run e.history cs (Text d); kept = x }) r
    ∙ ap (λ x. record e { fates = e.fates ++ replicate (length cs) (Text d); history = after_run e.history cs (Text d); errors = x }) t
    ∙ sym (given_run-is e cs d (no-nulls e.history cs h) (begun-run e.history cs h))

pub length-more : (fs gs : List Fate) (n : ℕ) (f : Fate) → gs ≡ fs ++ replicate n f → length gs ≡ length fs + n
length-more fs gs n f e = ap length e ∙ length-append fs (replicate n f) ∙ ap (λ m. length fs + m) (length-replicate n f)

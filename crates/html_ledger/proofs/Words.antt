-- What the flags say of the next token, over all the tokens before it.
use Rattle.std.proofs.Common.{ℕ, zero, suc, ◌==◌, ap, subst, ◌∙◌, ◌≡◌, ◌⊎◌, inl, inr, Bool, true, false, not, ◌&&◌, ◌||◌, IsTrue, List, [], ◌∷◌, refl}
use Rattle.std.specs.Prelude.{Decides, Some, None, slice_get}
use Rattle.std.specs.List.{list_all}
use Rattle.std.proofs.lemmas.Bool.{false≢true, true≢false, cases_Bool, and_parts, and_from, and_cases, not-true, not-false, both_ways, cond-true, cond-false, eqb-true, false_from_ne_true, true_from_ne_false}
use Rattle.std.proofs.lemmas.Bool.Decides.{Decides-and, Decides-or, Decides-not}
use Rattle.html_names.specs.declared.tag.Tag.{Tag}
use Rattle.html_names.specs.declared.tag.Tag.TheVariants as tag
use Rattle.html_names.specs.Groups.{is_placed, takes_newline}
use Rattle.html_ledger.specs.declared.symbol.Symbol.{Symbol}
use Rattle.html_ledger.specs.declared.symbol.Symbol.TheVariants.{Start, End, Char, Comment, Doctype, Eof}
use Rattle.html_ledger.specs.declared.setting.Setting.{Setting}
use Rattle.html_ledger.specs.declared.fate.Fate.{Fate}
use Rattle.html_ledger.specs.declared.fate.Fate.TheVariants.{Made, Foreign, Merged, Text, Dropped, Ended}
use Rattle.html_ledger.specs.declared.fate.Cause.{Cause}
use Rattle.html_ledger.specs.declared.fate.Cause.TheVariants.{PrologSpace, Null, LeadingNewline, InSelect, InFrameset, Misplaced, InColumnGroup}
use Rattle.html_ledger.specs.declared.history.History.{History}
use Rattle.html_ledger.specs.Symbols.{named, is_char, is_space_char}
use Rattle.html_ledger.specs.Settings.{is_document, context_is}
use Rattle.html_ledger.specs.Spaces.{is_space}
use Rattle.html_ledger.specs.Fates.{is_made}
use Rattle.html_ledger.specs.MayDrop.{Since, makes, no_token, may_precede_head, holds_in_each_mode, MayBeInSelect, MayBeMisplaced, Misplaces, MayDrop, MustDrop, is_outside_select, is_outside_frameset, is_outside_column_group, is_body_or_table, is_foreign_root}
use Rattle.html_ledger.specs.Fated.{MayMake, MayEmbed, MayHave, IsFate, is_text_char}
use Rattle.html_ledger.specs.Flags.{may_select, may_misplace_tag, may_misplace, may_drop, must_drop, is_free, may_embed, may_make, may_have, may_null, may_text}
use Rattle.html_ledger.specs.Known.{Knows}

self : (b : Bool) → Decides b (IsTrue b)
self b = (λ h. h, λ h. h)

pub Decides-may_select : (s : Setting) (h : History) (ts : List Symbol) (fs : List Fate) → Knows s h ts fs → Decides (may_select h) (MayBeInSelect s ts fs)
Decides-may_select s h ts fs k =
    Decides-or h.select_context _ k.select_context (Decides-or (h.select && h.template) h.open_select (Decides-and h.select h.template k.select k.template) k.open_select)

Decides-may_misplace_tag : (s : Setting) (h : History) (ts : List Symbol) (fs : List Fate) (t : Tag) → Knows s h ts fs → Decides (may_misplace_tag h t) (MayBeMisplaced s ts fs t)
Decides-may_misplace_tag s h ts fs t k =
    Decides-or (is_placed t) _ (self (is_placed t))
    (Decides-or (named tag.Html t && h.template) _ (Decides-and (named tag.Html t) h.template (self (named tag.Html t)) k.template)
    (Decides-or (is_body_or_table t && (h.template || h.fragment)) _ (Decides-and (is_body_or_table t) (h.template || h.fragment) (self (is_body_or_table t)) (Decides-or h.template h.fragment k.template k.fragment))
    (Decides-or (named tag.Form t && (h.form || h.template)) _ (Decides-and (named tag.Form t) (h.form || h.template) (self (named tag.Form t)) (Decides-or h.form h.template k.form k.template))
    (Decides-and (named tag.Noscript t) h.noscript (self (named tag.Noscript t)) k.noscript))))

never : (P : Type 0) → (P → ⊥) → Decides false P
never P n = (λ h. absurd (false≢true h), λ p. absurd (n p))

Decides-may_misplace : (s : Setting) (h : History) (ts : List Symbol) (fs : List Fate) (t : Symbol) → Knows s h ts fs → Decides (may_misplace h t) (Misplaces s ts fs t)
Decides-may_misplace s h ts fs Doctype k = Decides-not h.awaits_doctype k.awaits_doctype
Decides-may_misplace s h ts fs (Start t) k = Decides-may_misplace_tag s h ts fs t k
Decides-may_misplace s h ts fs (End t) k = never ⊥ (λ p. p)
Decides-may_misplace s h ts fs (Char c) k = never ⊥ (λ p. p)
Decides-may_misplace s h ts fs Comment k = never ⊥ (λ p. p)
Decides-may_misplace s h ts fs Eof k = never ⊥ (λ p. p)

pub Decides-may_drop : (s : Setting) (h : History) (ts : List Symbol) (fs : List Fate) (t : Symbol) (c : Cause) → Knows s h ts fs → Decides (may_drop h t c) (MayDrop s ts fs t c)
Decides-may_drop s h ts fs t PrologSpace k = Decides-and (is_space_char t) h.prolog (self (is_space_char t)) k.prolog
Decides-may_drop s h ts fs t Null k = self (is_char 0 t)
Decides-may_drop s h ts fs t LeadingNewline k = Decides-and (is_char 10 t) h.ignore_line_feed (self (is_char 10 t)) k.ignore_line_feed
Decides-may_drop s h ts fs t InSelect k = Decides-and (is_outside_select t) (may_select h) (self (is_outside_select t)) (Decides-may_select s h ts fs k)
Decides-may_drop s h ts fs t InFrameset k = Decides-and (is_outside_frameset t) h.frameset (self (is_outside_frameset t)) k.frameset
Decides-may_drop s h ts fs t Misplaced k = Decides-may_misplace s h ts fs t k
Decides-may_drop s h ts fs t InColumnGroup k = Decides-and (is_outside_column_group t) h.col (self (is_outside_column_group t)) k.col

Decides-may_make : (s : Setting) (h : History) (ts : List Symbol) (fs : List Fate) (t : Symbol) → Knows s h ts fs → Decides (may_make h t) (MayMake s ts t)
Decides-may_make s h ts fs (Start t) k = (λ e. tt, λ u. refl)
Decides-may_make s h ts fs Comment k = (λ e. tt, λ u. refl)
Decides-may_make s h ts fs Doctype k = k.awaits_doctype
Decides-may_make s h ts fs (End t) k = never ⊥ (λ p. p)
Decides-may_make s h ts fs (Char c) k = never ⊥ (λ p. p)
Decides-may_make s h ts fs Eof k = never ⊥ (λ p. p)

Decides-may_embed : (s : Setting) (h : History) (ts : List Symbol) (fs : List Fate) (t : Symbol) → Knows s h ts fs → Decides (may_embed h t) (MayEmbed s ts fs t)
Decides-may_embed s h ts fs (Start t) k = Decides-or (is_foreign_root t) h.foreign (self (is_foreign_root t)) k.foreign
Decides-may_embed s h ts fs (End t) k = never ⊥ (λ p. p)
Decides-may_embed s h ts fs (Char c) k = never ⊥ (λ p. p)
Decides-may_embed s h ts fs Comment k = never ⊥ (λ p. p)
Decides-may_embed s h ts fs Doctype k = never ⊥ (λ p. p)
Decides-may_embed s h ts fs Eof k = never ⊥ (λ p. p)

not_html : (t : Tag) → takes_newline t ≡ true → named tag.Html t ≡ true → ⊥
not_html tag.Listing e n = false≢true n
not_html tag.Pre e n = false≢true n
not_html tag.Textarea e n = false≢true n
not_html _ e n = false≢true e

list_all-at : {A : Type 0} → (p : A → Bool) (xs : List A) (i : ℕ) (x : A) → list_all p xs ≡ true → slice_get xs i ≡ Some x → p x ≡ true
list_all-at p [] i x e g = absurd cc
list_all-at p (y ∷ xs) zero x e g = let same : y ≡ x = cc in rw (← same) (and_parts (p y) (list_all p xs) e).0
list_all-at p (y ∷ xs) (suc i) x e g = list_all-at p xs i x (and_parts (p y) (list_all p xs) e).1 g

newline_ends_prolog : (t : Symbol) (f : Fate) → makes takes_newline t f ≡ true → may_precede_head t ≡ true → ⊥
newline_ends_prolog (Start t) f m k = not_html t (and_parts (is_made f) (takes_newline t) m).1 k
newline_ends_prolog (End t) f m k = false≢true (and_parts (is_made f) false m).1
newline_ends_prolog (Char c) f m k = false≢true (and_parts (is_made f) false m).1
newline_ends_prolog Comment f m k = false≢true (and_parts (is_made f) false m).1
newline_ends_prolog Doctype f m k = false≢true (and_parts (is_made f) false m).1
newline_ends_prolog Eof f m k = false≢true (and_parts (is_made f) false m).1

-- a line feed that is dropped after a start tag does not stand before the head
apart : (s : Setting) (h : History) (ts : List Symbol) (fs : List Fate) → Knows s h ts fs → h.prolog ≡ true → h.ignore_line_feed ≡ true → ⊥
apart s h ts fs k p n =
    let w : Since (makes takes_newline) no_token ts fs = k.ignore_line_feed.0 n in
    let a = and_parts (is_document s || context_is tag.Html s) (list_all may_precede_head ts) (k.prolog.0 p) in
    newline_ends_prolog w.token w.fate w.is_such (list_all-at may_precede_head ts w.at w.token a.1 w.token_is)

not_null : (c : ℕ) → is_space c ≡ true → (c == 0) ≡ true → ⊥
not_null c e n = let z : c ≡ 0 = eqb-true c 0 n in false≢true (rw z at e)

not_null_line : (c : ℕ) → (c == 10) ≡ true → (c == 0) ≡ true → ⊥
not_null_line c e n = let z : c ≡ 0 = eqb-true c 0 n in false≢true (rw z at e)

not_visible : (c : ℕ) → is_space c ≡ true → (not (is_space c) || false) ≡ true → ⊥
not_visible c e n = false≢true (rw e at n)

line_is_space : (c : ℕ) → (c == 10) ≡ true → is_space c ≡ true
line_is_space c e = let z : c ≡ 10 = eqb-true c 10 e in rw z refl

-- the causes that hold in every mode hold alone
only : (h : History) (x : ℕ) (c d : Cause) → (h.prolog ≡ true → h.ignore_line_feed ≡ true → ⊥) → holds_in_each_mode c ≡ true → may_drop h (Char x) c ≡ true → may_drop h (Char x) d ≡ true → d ≡ c
only h x PrologSpace PrologSpace a m e g = refl
only h x PrologSpace Null a m e g = absurd (not_null x (and_parts (is_space x) h.prolog e).0 g)
only h x PrologSpace LeadingNewline a m e g = absurd (a (and_parts (is_space x) h.prolog e).1 (and_parts (x == 10) h.ignore_line_feed g).1)
only h x PrologSpace InSelect a m e g = absurd (false≢true g)
only h x PrologSpace InFrameset a m e g = absurd (not_visible x (and_parts (is_space x) h.prolog e).0 (and_parts (not (is_space x) || false) h.frameset g).0)
only h x PrologSpace Misplaced a m e g = absurd (false≢true g)
only h x PrologSpace InColumnGroup a m e g = absurd (not_visible x (and_parts (is_space x) h.prolog e).0 (and_parts (not (is_space x) || false) h.col g).0)
only h x LeadingNewline PrologSpace a m e g = absurd (a (and_parts (is_space x) h.prolog g).1 (and_parts (x == 10) h.ignore_line_feed e).1)
only h x LeadingNewline Null a m e g = absurd (not_null_line x (and_parts (x == 10) h.ignore_line_feed e).0 g)
only h x LeadingNewline LeadingNewline a m e g = refl
only h x LeadingNewline InSelect a m e g = absurd (false≢true g)
only h x LeadingNewline InFrameset a m e g = absurd (not_visible x (line_is_space x (and_parts (x == 10) h.ignore_line_feed e).0) (and_parts (not (is_space x) || false) h.frameset g).0)
only h x LeadingNewline Misplaced a m e g = absurd (false≢true g)
only h x LeadingNewline InColumnGroup a m e g = absurd (not_visible x (line_is_space x (and_parts (x == 10) h.ignore_line_feed e).0) (and_parts (not (is_space x) || false) h.col g).0)
only h x Null d a m e g = absurd (false≢true m)
only h x InSelect d a m e g = absurd (false≢true m)
only h x InFrameset d a m e g = absurd (false≢true m)
only h x Misplaced d a m e g = absurd (false≢true m)
only h x InColumnGroup d a m e g = absurd (false≢true m)

-- nothing forces a token that is free
not_forced : (h : History) (t : Symbol) (c : Cause) → is_free h t ≡ true → holds_in_each_mode c ≡ true → may_drop h t c ≡ true → ⊥
not_forced h t PrologSpace f m e = both_ways (is_space_char t && h.prolog) (not-true (is_space_char t && h.prolog) (and_parts (not (is_space_char t && h.prolog)) (not (is_char 10 t && h.ignore_line_feed)) f).0) e
not_forced h t LeadingNewline f m e = both_ways (is_char 10 t && h.ignore_line_feed) (not-true (is_char 10 t && h.ignore_line_feed) (and_parts (not (is_space_char t && h.prolog)) (not (is_char 10 t && h.ignore_line_feed)) f).1) e
not_forced h t Null f m e = false≢true m
not_forced h t InSelect f m e = false≢true m
not_forced h t InFrameset f m e = false≢true m
not_forced h t Misplaced f m e = false≢true m
not_forced h t InColumnGroup f m e = false≢true m

-- only a code point is forced
not_char_free : (h : History) (t : Symbol) → is_free h t ≡ false → (c : ℕ) × (t ≡ Char c)
not_char_free h (Char c) e = (c, refl)
not_char_free h (Start t) e = absurd (true≢false e)
not_char_free h (End t) e = absurd (true≢false e)
not_char_free h Comment e = absurd (true≢false e)
not_char_free h Doctype e = absurd (true≢false e)
not_char_free h Eof e = absurd (true≢false e)

forced_is_char : (h : History) (t : Symbol) (c : Cause) → holds_in_each_mode c ≡ true → may_drop h t c ≡ true → (x : ℕ) × (t ≡ Char x)
forced_is_char h t c m e =
    not_char_free h t (false_from_ne_true (is_free h t) (λ f. not_forced h t c f m e))

or_split : (a b : Bool) → (a || b) ≡ true → (a ≡ true) ⊎ (b ≡ true)
or_split true b e = inl refl
or_split false b e = inr e

pub or_first : (a b : Bool) → a ≡ true → (a || b) ≡ true
or_first a b e = rw e refl

or_second : (a b : Bool) → b ≡ true → (a || b) ≡ true
or_second true b e = refl
or_second false b e = e

-- U+0000 is dropped by no cause that holds in every mode
null_free : (h : History) (x : ℕ) (c : Cause) → (x == 0) ≡ true → holds_in_each_mode c ≡ true → may_drop h (Char x) c ≡ true → ⊥
null_free h x PrologSpace z m e = not_null x (and_parts (is_space x) h.prolog e).0 z
null_free h x LeadingNewline z m e = not_null_line x (and_parts (x == 10) h.ignore_line_feed e).0 z
null_free h x Null z m e = false≢true m
null_free h x InSelect z m e = false≢true m
null_free h x InFrameset z m e = false≢true m
null_free h x Misplaced z m e = false≢true m
null_free h x InColumnGroup z m e = false≢true m

forced_char : (h : History) (x : ℕ) (f : Fate) (c : Cause) → (h.prolog ≡ true → h.ignore_line_feed ≡ true → ⊥) → may_have h (Char x) f ≡ true → holds_in_each_mode c ≡ true → may_drop h (Char x) c ≡ true → f ≡ Dropped c
forced_char h x (Dropped d) c a e m g = ap (λ y. Dropped y) (only h x c d a m g e)
forced_char h x (Text d) c a e m g = elim (or_split (may_text h (Char x)) (may_null h (Char x)) e) [
  | inl u ↦ absurd (not_forced h (Char x) c (and_parts (is_text_char (Char x)) (is_free h (Char x)) u).1 m g)
  | inr u ↦ absurd (null_free h x c (and_parts (x == 0) h.foreign u).0 m g)
]
forced_char h x (Foreign d) c a e m g = absurd (false≢true e)
forced_char h x (Made d) c a e m g = absurd (false≢true e)
forced_char h x Merged c a e m g = absurd (false≢true e)
forced_char h x Ended c a e m g = absurd (false≢true e)

-- a token of which such a cause may be told is dropped so
forced : (h : History) (t : Symbol) (f : Fate) (c : Cause) → (h.prolog ≡ true → h.ignore_line_feed ≡ true → ⊥) → may_have h t f ≡ true → holds_in_each_mode c ≡ true → may_drop h t c ≡ true → f ≡ Dropped c
forced h t f c a e m g =
    let w = forced_is_char h t c m g in
    let e' : may_have h (Char w.0) f ≡ true = subst (λ y. may_have h y f ≡ true) w.1 e in
    let g' : may_drop h (Char w.0) c ≡ true = subst (λ y. may_drop h y c ≡ true) w.1 g in
    forced_char h w.0 f c a e' m g'

-- a token that is not free is forced
free_or_forced : (h : History) (t : Symbol) → is_free h t ≡ false → (c : Cause) × (holds_in_each_mode c ≡ true) × (may_drop h t c ≡ true)
free_or_forced h t e =
    elim (and_cases (not (is_space_char t && h.prolog)) (not (is_char 10 t && h.ignore_line_feed)) e) [
      | inl a ↦ (PrologSpace, refl, not-false (is_space_char t && h.prolog) a)
      | inr b ↦ (LeadingNewline, refl, not-false (is_char 10 t && h.ignore_line_feed) b)
    ]

-- what the flags allow is what each fate asks for
may_have_is : (s : Setting) (h : History) (ts : List Symbol) (fs : List Fate) (t : Symbol) (f : Fate) → Knows s h ts fs → may_have h t f ≡ true → MayHave s ts fs t f
may_have_is s h ts fs t (Made d) k e = (Decides-may_make s h ts fs t k).0 e
may_have_is s h ts fs t Merged k e = e
may_have_is s h ts fs t (Foreign d) k e = (Decides-may_embed s h ts fs t k).0 e
may_have_is s h ts fs t (Text d) k e = elim (or_split (may_text h t) (may_null h t) e) [
  | inl u ↦ inl (and_parts (is_text_char t) (is_free h t) u).0
  | inr u ↦ (let v = and_parts (is_char 0 t) h.foreign u in inr (v.0, k.foreign.0 v.1))
]
may_have_is s h ts fs t (Dropped c) k e = (Decides-may_drop s h ts fs t c k).0 e
may_have_is s h ts fs t Ended k e = e

is_may_have : (s : Setting) (h : History) (ts : List Symbol) (fs : List Fate) (t : Symbol) (f : Fate) → Knows s h ts fs → IsFate s ts fs t f → may_have h t f ≡ true
is_may_have s h ts fs t (Made d) k i = (Decides-may_make s h ts fs t k).1 i.may
is_may_have s h ts fs t Merged k i = i.may
is_may_have s h ts fs t (Foreign d) k i = (Decides-may_embed s h ts fs t k).1 i.may
is_may_have s h ts fs t (Text d) k i = elim i.may [
  | inl u ↦
      or_first (may_text h t) (may_null h t) (and_from (is_text_char t) (is_free h t) u (true_from_ne_false (is_free h t) (λ e.
      let w = free_or_forced h t e in
      let g : Text d ≡ Dropped w.0 = i.must w.0 (w.1, (Decides-may_drop s h ts fs t w.0 k).0 w.2) in
      absurd cc)))
  | inr v ↦ or_second (may_text h t) (may_null h t) (and_from (is_char 0 t) h.foreign v.0 (k.foreign.1 v.1))
]
is_may_have s h ts fs t (Dropped c) k i = (Decides-may_drop s h ts fs t c k).1 i.may
is_may_have s h ts fs t Ended k i = i.may

pub Decides-may_have : (s : Setting) (h : History) (ts : List Symbol) (fs : List Fate) (t : Symbol) (f : Fate) → Knows s h ts fs → Decides (may_have h t f) (IsFate s ts fs t f)
Decides-may_have s h ts fs t f k = (
  λ e. record {
    may = may_have_is s h ts fs t f k e;
    must = λ c m. forced h t f c (apart s h ts fs k) e m.0 ((Decides-may_drop s h ts fs t c k).1 m.1);
  },
  is_may_have s h ts fs t f k,
)

-- the cause that the flags name is the one that holds in every mode
pub must_drop-is : (s : Setting) (h : History) (ts : List Symbol) (fs : List Fate) (t : Symbol) (c : Cause) → Knows s h ts fs → must_drop h t ≡ Some c → MustDrop s ts fs t c
must_drop-is s h ts fs t c k e =
    elim (cases_Bool (is_space_char t && h.prolog)) [
      | inl a ↦ let g : PrologSpace ≡ c = let w : Some PrologSpace ≡ Some c = rw (cond-true _ _ _ a) at e in cc in
          subst (λ y. MustDrop s ts fs t y) g (refl, (Decides-may_drop s h ts fs t PrologSpace k).0 a)
      | inr n ↦ let e' = rw (cond-false _ _ _ n) at e in
          elim (cases_Bool (is_char 10 t && h.ignore_line_feed)) [
            | inl a ↦ let g : LeadingNewline ≡ c = let w : Some LeadingNewline ≡ Some c = rw (cond-true _ _ _ a) at e' in cc in
                subst (λ y. MustDrop s ts fs t y) g (refl, (Decides-may_drop s h ts fs t LeadingNewline k).0 a)
            | inr m ↦ absurd (let w : None ≡ Some c = rw (cond-false _ _ _ m) at e' in cc)
          ]
    ]

pub is-must_drop : (s : Setting) (h : History) (ts : List Symbol) (fs : List Fate) (t : Symbol) (c : Cause) → Knows s h ts fs → MustDrop s ts fs t c → must_drop h t ≡ Some c
is-must_drop s h ts fs t PrologSpace k m =
    cond-true (is_space_char t && h.prolog) (Some PrologSpace) _ ((Decides-may_drop s h ts fs t PrologSpace k).1 m.1)
is-must_drop s h ts fs t LeadingNewline k m =
    let e : (is_char 10 t && h.ignore_line_feed) ≡ true = (Decides-may_drop s h ts fs t LeadingNewline k).1 m.1 in
    let n : h.ignore_line_feed ≡ true = (and_parts (is_char 10 t) h.ignore_line_feed e).1 in
    let f : (is_space_char t && h.prolog) ≡ false = false_from_ne_true (is_space_char t && h.prolog) (λ p. apart s h ts fs k (and_parts (is_space_char t) h.prolog p).1 n) in
    cond-false (is_space_char t && h.prolog) (Some PrologSpace) _ f ∙ cond-true (is_char 10 t && h.ignore_line_feed) (Some LeadingNewline) None e
is-must_drop s h ts fs t Null k m = absurd (false≢true m.0)
is-must_drop s h ts fs t InSelect k m = absurd (false≢true m.0)
is-must_drop s h ts fs t InFrameset k m = absurd (false≢true m.0)
is-must_drop s h ts fs t Misplaced k m = absurd (false≢true m.0)
is-must_drop s h ts fs t InColumnGroup k m = absurd (false≢true m.0)

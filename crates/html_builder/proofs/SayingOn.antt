-- What is said of the text after tokens, as more of them are taken.
use Rattle.std.proofs.Common.{◌≡◌, ◌∙◌, ◌<◌, ◌&&◌, ℕ, inl, inr, Bool, true, false, cond, if◌then◌else◌, List, [], ◌∷◌, ◌++◌, length, replicate, Option, Some, None, refl, sym, ap, subst, arith}
use Rattle.std.specs.Prelude.{is_some, slice_get}
use Rattle.std.proofs.lemmas.Bool.{false≢true}
use Rattle.std.proofs.lemmas.Option.{slice_get_within}
use Rattle.html_names.specs.declared.tag.Tag.{Tag}
use Rattle.html_names.specs.declared.tag.Tag.TheVariants as tag
use Rattle.html_names.specs.Foreign.{is_foreign}
use Rattle.html_names.specs.Names.{tag_of}
use Rattle.html_names.specs.Sets.{is_rawtext, is_rcdata}
use Rattle.html_names.specs.Tags.{is_same}
use Rattle.html_arena.specs.declared.arena.Limits.{Limits}
use Rattle.html_tokens.specs.declared.token.TextMode.{TextMode}
use Rattle.html_tokens.specs.declared.token.TextMode.TheVariants as text
use Rattle.html_tokens.specs.declared.token.TokenKind.{TokenKind}
use Rattle.html_tokens.specs.declared.token.TokenKind.TheVariants as kind
use Rattle.html_tokens.specs.Tokens.{mode_after_kind, stays, switched}
use Rattle.html_ledger.specs.declared.fate.Fate.{Fate}
use Rattle.html_ledger.specs.declared.fate.Fate.TheVariants as fate
use Rattle.html_ledger.specs.declared.setting.Setting.{Setting}
use Rattle.html_ledger.specs.declared.symbol.Symbol.{Symbol}
use Rattle.html_ledger.specs.Entries.{Fed}
use Rattle.html_ledger.specs.MayDrop.{MayBeForeign}
use Rattle.html_ledger.specs.Runs.{last_of}
use Rattle.html_ledger.specs.Symbols.{symbol_of}
use Rattle.html_construction.specs.Built.{chars_of, symbols}
use Rattle.html_construction.specs.Foreign.{adjusted_tag, foreign_tag, if_foreign}
use Rattle.html_construction.specs.States.{State}
use Rattle.html_modes.specs.Dispatching.{Constructs, Entries, begun}
use Rattle.html_construction.proofs.Building.{symbols-append}
use Rattle.html_builder.specs.Builders.{BuilderState}
use Rattle.html_builder.specs.Handed.{Handed, LeadsTo, fates_of, parses_foreign, reads_foreign}
use Rattle.html_builder.specs.Saying.{HasSaid, Reads, Says, StaysHtml, mode_at, mode_by, or_said, said_after_in, said_in, said_of}
use Rattle.html_builder.specs.Contexts.{context_tag, holds_html, setting_of, text_mode_of}
use Rattle.html_builder.specs.Switches.{or_data, switch_after, switch_of, text_mode_in}
use Rattle.html_builder.specs.declared.context.Context.{Context}
use Rattle.html_builder.proofs.Saying.{get-front, get-within}

-- RUNS

-- where a call begins is of no account
reads-from : (mode : TextMode) (ts : List TokenKind) (ms : List (Option TextMode)) (a b z : State) → begun a ≡ begun b → Reads mode ts ms b z → Reads mode ts ms a z
reads-from mode [] [] a b z e h = e ∙ h
reads-from mode [] (m ∷ ms) a b z e h = h
reads-from mode (t ∷ ts) [] a b z e h = h
reads-from mode (t ∷ ts) (m ∷ ms) a b z e h = (h.0, subst (λ (x : State). Entries (symbol_of t) t x h.0) (sym e) h.1, h.2, h.3)

reads-then : (mode : TextMode) (ts us : List TokenKind) (ms ns : List (Option TextMode)) (a b z : State) → Reads mode ts ms a b → Reads (mode_by mode ts ms) us ns b z → Reads mode (ts ++ us) (ms ++ ns) a z
reads-then mode [] us [] ns a b z h k = reads-from mode us ns a b z h k
reads-then mode [] us (m ∷ ms) ns a b z h k = absurd h
reads-then mode (t ∷ ts) us [] ns a b z h k = absurd h
reads-then mode (t ∷ ts) us (m ∷ ms) ns a b z h k = (h.0, h.1, h.2, reads-then (mode_after_kind t m mode) ts us ms ns h.0 b z h.3 k)

modes-then : (mode : TextMode) (ts us : List TokenKind) (ms ns : List (Option TextMode)) (a z : State) → Reads mode ts ms a z → mode_by mode (ts ++ us) (ms ++ ns) ≡ mode_by (mode_by mode ts ms) us ns
modes-then mode [] us [] ns a z h = refl
modes-then mode [] us (m ∷ ms) ns a z h = absurd h
modes-then mode (t ∷ ts) us [] ns a z h = absurd h
modes-then mode (t ∷ ts) us (m ∷ ms) ns a z h = modes-then (mode_after_kind t m mode) ts us ms ns h.0 z h.3

-- the rules lead to the state through the tokens
pub reads-constructs : (mode : TextMode) (ts : List TokenKind) (ms : List (Option TextMode)) (a z : State) → Reads mode ts ms a z → Constructs ts a z
reads-constructs mode [] [] a z h = h
reads-constructs mode [] (m ∷ ms) a z h = absurd h
reads-constructs mode (t ∷ ts) [] a z h = absurd h
reads-constructs mode (t ∷ ts) (m ∷ ms) a z h = (h.0, h.1, reads-constructs (mode_after_kind t m mode) ts ms h.0 z h.3)

-- code points that say nothing, where that changes nothing
silent-data : (mode : TextMode) → (mode ≡ text.Foreign → ⊥) → stays None mode ≡ stays (Some text.Data) mode
silent-data text.Data n = refl
silent-data text.Rcdata n = refl
silent-data text.Rawtext n = refl
silent-data text.Script n = refl
silent-data text.Plaintext n = refl
silent-data text.Foreign n = absurd (n refl)

text-says : (mode : TextMode) (c : ℕ) (b : State) → (mode ≡ text.Foreign → ⊥) → foreign_tag b ≡ None → Says mode (kind.Char c) b None
text-says mode c b n e = by (last_of b.ledger.fates) b.ledger.history.foreign (foreign_tag b) e
  where
    by : (o : Option Fate) (f : Bool) (g : Option Tag) → g ≡ None → stays None mode ≡ stays (or_said (switch_after (kind.Char c) o) (if f then Some (mode_at g) else None)) mode
    by None true g i = silent-data mode n ∙ ap (λ x. stays (Some (mode_at x)) mode) (sym i)
    by None false g i = refl
    by (Some o) true g i = silent-data mode n ∙ ap (λ x. stays (Some (mode_at x)) mode) (sym i)
    by (Some o) false g i = refl

-- and from which none leads into foreign content
abbrev Stays : State → Type 0
Stays a = (cs : List ℕ) (z : State) → Constructs (chars_of cs) a z → foreign_tag z ≡ None

text-reads : (mode : TextMode) (cs : List ℕ) (a z : State) → (mode ≡ text.Foreign → ⊥) → Stays a → Constructs (chars_of cs) a z → Reads mode (chars_of cs) (replicate (length cs) None) a z
text-reads mode [] a z n s h = h
text-reads mode (c ∷ cs) a z n s h =
    (h.0, h.1, text-says mode c h.0 n (s (c ∷ []) h.0 (h.0, h.1, refl)), text-reads mode cs h.0 z n (λ ds y k. s (c ∷ ds) y (h.0, h.1, k)) h.2)

text-mode : (mode : TextMode) (cs : List ℕ) → mode_by mode (chars_of cs) (replicate (length cs) None) ≡ mode
text-mode mode [] = refl
text-mode mode (c ∷ cs) = text-mode mode cs

one-reads : (mode : TextMode) (t : TokenKind) (m : Option TextMode) (a z : State) → Constructs (t ∷ []) a z → m ≡ said_after_in t z → Reads mode (t ∷ []) (m ∷ []) a z
one-reads mode t m a z h e = (h.0, h.1, ap (λ v. mode_after_kind t v mode) (e ∙ sym (ap (λ (x : State). said_after_in t x) h.2)), h.2)

-- WHERE TEXT IS READ AS DATA OF FOREIGN CONTENT

-- of an element of HTML no text is read so
element-not : (g : Tag) → switch_of g ≡ Some text.Foreign → ⊥
unfolding switch_of
element-not g e = by (is_rcdata g) (is_rawtext g) (is_same g tag.Script) (is_same g tag.Plaintext) e
  where
    by : (p q r s : Bool) → (if p then Some text.Rcdata else (if q then Some text.Rawtext else (if r then Some text.Script else (if s then Some text.Plaintext else None)))) ≡ Some text.Foreign → ⊥
    by true q r s e = cc
    by false true r s e = cc
    by false false true s e = cc
    by false false false true e = cc
    by false false false false e = cc

start-not : (n : _) (attrs : _) (s : Bool) (o : Option Fate) → switch_after (kind.Start n attrs s) o ≡ Some text.Foreign → ⊥
start-not n attrs s None e = cc
start-not n attrs s (Some (fate.Made d)) e = element-not (tag_of n) e
start-not n attrs s (Some (fate.Foreign d)) e = cc
start-not n attrs s (Some fate.Merged) e = cc
start-not n attrs s (Some (fate.Text d)) e = cc
start-not n attrs s (Some fate.Ended) e = cc
start-not n attrs s (Some (fate.Dropped c)) e = cc

-- text is data of foreign content after what does not say so, where it was and nothing is said
switched-not : (x : Option TextMode) (mode : TextMode) → (x ≡ Some text.Foreign → ⊥) → switched x mode ≡ text.Foreign → (x ≡ None) × (mode ≡ text.Foreign)
switched-not None mode n e = (refl, e)
switched-not (Some v) text.Data n e = absurd (n (ap (λ w. Some w) e))
switched-not (Some v) text.Rcdata n e = cc
switched-not (Some v) text.Rawtext n e = cc
switched-not (Some v) text.Script n e = cc
switched-not (Some v) text.Plaintext n e = cc
switched-not (Some v) text.Foreign n e = absurd (n (ap (λ w. Some w) e))

some-data : (x : Option TextMode) → (x ≡ Some text.Foreign → ⊥) → (or_said x (Some text.Data) ≡ Some text.Foreign → ⊥) × (or_said x (Some text.Data) ≡ None → ⊥)
some-data None n = ((λ e. cc), (λ e. cc))
some-data (Some v) n = (n, (λ e. cc))

data-not : (mode : TextMode) → switched (Some text.Data) mode ≡ text.Foreign → ⊥
data-not mode e = let k = switched-not (Some text.Data) mode (λ i. cc) e in absurd (let i = k.0 in cc)

-- what says that text is data is not followed by data of foreign content
html-after : (t : TokenKind) (o : Option Fate) (mode : TextMode) → mode_after_kind t (or_said (switch_after t o) (Some text.Data)) mode ≡ text.Foreign → ⊥
html-after (kind.Start n attrs s) o mode e =
    let d = some-data (switch_after (kind.Start n attrs s) o) (start-not n attrs s o) in
    d.1 (switched-not (or_said (switch_after (kind.Start n attrs s) o) (Some text.Data)) mode d.0 e).0
html-after (kind.End n) None mode e = cc
html-after (kind.End n) (Some f) mode e = cc
html-after (kind.Char c) None mode e = data-not mode e
html-after (kind.Char c) (Some f) mode e = data-not mode e
html-after (kind.Comment x) None mode e = data-not mode e
html-after (kind.Comment x) (Some f) mode e = data-not mode e
html-after (kind.Doctype n p s f) None mode e = data-not mode e
html-after (kind.Doctype n p s f) (Some g) mode e = data-not mode e
html-after kind.Eof None mode e = data-not mode e
html-after kind.Eof (Some f) mode e = data-not mode e

or-none : (x : Option TextMode) → or_said x None ≡ x
or-none None = refl
or-none (Some v) = refl

-- and where nothing is said of it, it was so before
foreign-before : (t : TokenKind) (o : Option Fate) (mode : TextMode) → mode_after_kind t (or_said (switch_after t o) None) mode ≡ text.Foreign → mode ≡ text.Foreign
foreign-before (kind.Start n attrs s) o mode e =
    (switched-not (switch_after (kind.Start n attrs s) o) mode (start-not n attrs s o) (ap (λ x. switched x mode) (sym (or-none (switch_after (kind.Start n attrs s) o))) ∙ e)).1
foreign-before (kind.End n) None mode e = cc
foreign-before (kind.End n) (Some f) mode e = cc
foreign-before (kind.Char c) None mode e = e
foreign-before (kind.Char c) (Some f) mode e = e
foreign-before (kind.Comment x) None mode e = e
foreign-before (kind.Comment x) (Some f) mode e = e
foreign-before (kind.Doctype n p s f) None mode e = e
foreign-before (kind.Doctype n p s f) (Some g) mode e = e
foreign-before kind.Eof None mode e = e
foreign-before kind.Eof (Some f) mode e = e

-- there is such a node only where one was made or is the context
foreign-known : (a : State) → is_some (foreign_tag a) ≡ true → a.ledger.history.foreign ≡ true
foreign-known a h = by a.ledger.history.foreign h
  where
    by : (b : Bool) → is_some (if b then if_foreign (adjusted_tag a) else None) ≡ true → b ≡ true
    by true h = refl
    by false h = absurd (false≢true h)

one-foreign : (t : TokenKind) (mode : TextMode) (a b : State) → (mode ≡ text.Foreign → is_some (foreign_tag a) ≡ true) → (a.ledger.history.foreign ≡ true → b.ledger.history.foreign ≡ true)
    → mode_after_kind t (said_after_in t b) mode ≡ text.Foreign → is_some (foreign_tag b) ≡ true
one-foreign t mode a b j k e = by b.ledger.history.foreign (foreign_tag b) refl refl (λ f. k f)
  where
    o : Option Fate
    o = last_of b.ledger.fates

    by : (h : Bool) (g : Option Tag) → b.ledger.history.foreign ≡ h → foreign_tag b ≡ g → (a.ledger.history.foreign ≡ true → b.ledger.history.foreign ≡ true) → is_some (foreign_tag b) ≡ true
    by h (Some g) i p k = ap is_some p
    by true None i p k =
        let said : said_of b ≡ Some text.Data = ap (λ x. if x then Some (mode_at (foreign_tag b)) else None) i ∙ ap (λ x. Some (mode_at x)) p in
        absurd (html-after t o mode (ap (λ x. mode_after_kind t (or_said (switch_after t o) x) mode) (sym said) ∙ e))
    by false None i p k =
        let said : said_of b ≡ None = ap (λ x. if x then Some (mode_at (foreign_tag b)) else None) i in
        let before : mode ≡ text.Foreign = foreign-before t o mode (ap (λ x. mode_after_kind t (or_said (switch_after t o) x) mode) (sym said) ∙ e) in
        absurd (false≢true (sym i ∙ k (foreign-known a (j before))))

-- WHAT WAS MADE IS MADE

-- of tokens that have their fates, after more
pub still-foreign : (s : Setting) (l : Option Limits) (ts us : List TokenKind) (a b : BuilderState) → Handed s l ts a → Handed s l (ts ++ us) b → (later : List Fate) × (fates_of b ≡ fates_of a ++ later)
    → a.page.ledger.history.foreign ≡ true → b.page.ledger.history.foreign ≡ true
still-foreign s l ts us a b h k grown e =
    let f : Fed s a.page.ledger (symbols ts) = h.built.fed in
    let g : Fed s b.page.ledger (symbols (ts ++ us)) = k.built.fed in
    g.settled.known.foreign.1 (more f.front g.front _ _ (f.settled.known.foreign.0 e) f.split g.split g.settled.known.counted)
  where
    more : (front later xs ys : List Symbol) → MayBeForeign s front (fates_of a) → symbols ts ≡ front ++ xs → symbols (ts ++ us) ≡ later ++ ys → length (fates_of b) ≡ length later → MayBeForeign s later (fates_of b)
    more front later xs ys (inr c) p q n = inr c
    more front later xs ys (inl w) p q n =
        let own : slice_get (fates_of b) w.at ≡ Some w.fate = ap (λ v. slice_get v w.at) grown.1 ∙ get-front (fates_of a) grown.0 w.at w.fate w.fate_is in
        let low : w.at < length later = (let m = slice_get_within (fates_of b) w.at w.fate own in omega (arith, m, n)) in
        let all : slice_get (symbols (ts ++ us)) w.at ≡ Some w.token
        = ap (λ v. slice_get v w.at) (symbols-append ts us) ∙ get-front (symbols ts) (symbols us) w.at w.token (ap (λ v. slice_get v w.at) p ∙ get-front front xs w.at w.token w.token_is) in
        inl (record {
          at = w.at;
          token = w.token;
          fate = w.fate;
          token_is = sym (get-within later ys w.at low) ∙ ap (λ v. slice_get v w.at) (sym q) ∙ all;
          fate_is = own;
          is_such = w.is_such;
          kept = λ j t less is. refl;
        })

-- BUILDERS

-- before the first token
pub none-said : (s : Setting) (l : Option Limits) (mode : TextMode) (b : BuilderState) → Handed s l [] b → (mode ≡ text.Foreign → reads_foreign b ≡ true) → HasSaid s l mode [] [] b
none-said s l mode b h k = record { first = h.first; begins = h.begins; parses = h.parses; reads = h.constructs; where_foreign = k }

-- a text, where none leads into foreign content
pub text-said : (s : Setting) (l : Option Limits) (mode : TextMode) (ts : List TokenKind) (ms : List (Option TextMode)) (cs : List ℕ) (a b : BuilderState) → LeadsTo (chars_of cs) a b → parses_foreign b ≡ parses_foreign a → StaysHtml a
    → HasSaid s l mode ts ms a → HasSaid s l mode (ts ++ chars_of cs) (ms ++ replicate (length cs) None) b
text-said s l mode ts ms cs a b h p html r =
    let now = mode_by mode ts ms in
    let other : now ≡ text.Foreign → ⊥ = λ e. false≢true (sym (ap is_some (html [] a.page refl)) ∙ r.where_foreign e) in
    record {
      first = r.first;
      begins = r.begins;
      parses = r.parses ∙ sym p;
      reads = reads-then mode ts (chars_of cs) ms (replicate (length cs) None) r.first a.page b.page r.reads (text-reads now cs a.page b.page other html h);
      where_foreign = λ e. absurd (other (sym (text-mode now cs) ∙ sym (modes-then mode ts (chars_of cs) ms (replicate (length cs) None) r.first a.page r.reads) ∙ e));
    }

pub one-said : (s : Setting) (l : Option Limits) (mode : TextMode) (ts : List TokenKind) (ms : List (Option TextMode)) (t : TokenKind) (m : Option TextMode) (a b : BuilderState) → LeadsTo (t ∷ []) a b → parses_foreign b ≡ parses_foreign a → m ≡ said_in t b
    → Handed s l ts a → Handed s l (ts ++ t ∷ []) b → (later : List Fate) × (fates_of b ≡ fates_of a ++ later) → HasSaid s l mode ts ms a → HasSaid s l mode (ts ++ t ∷ []) (ms ++ m ∷ []) b
one-said s l mode ts ms t m a b h p e f g grown r =
    let now = mode_by mode ts ms in
    record {
      first = r.first;
      begins = r.begins;
      parses = r.parses ∙ sym p;
      reads = reads-then mode ts (t ∷ []) ms (m ∷ []) r.first a.page b.page r.reads (one-reads now t m a.page b.page h e);
      where_foreign = λ i. one-foreign t now a.page b.page r.where_foreign (still-foreign s l ts (t ∷ []) a b f g grown)
          (ap (λ x. mode_after_kind t x now) (sym e) ∙ sym (modes-then mode ts (t ∷ []) ms (m ∷ []) r.first a.page r.reads) ∙ i);
    }

-- a fragment whose text is first read so has a context of foreign content
context-foreign : (c : Context) → text_mode_of c ≡ text.Foreign → is_foreign (context_tag c) ≡ true
context-foreign c e = among (is_same (tag_of c.name) tag.MathAnnotationXml && holds_html c.encoding) (own (is_foreign (tag_of c.name)) refl e)
  where
    own : (b : Bool) → is_foreign (tag_of c.name) ≡ b → (if b then text.Foreign else text_mode_in (tag_of c.name)) ≡ text.Foreign → is_foreign (tag_of c.name) ≡ true
    own true i e = i
    own false i e = absurd (by (switch_of (tag_of c.name)) refl e)
      where
        by : (x : Option TextMode) → switch_of (tag_of c.name) ≡ x → or_data x ≡ text.Foreign → ⊥
        by None j k = cc
        by (Some m) j k = element-not (tag_of c.name) (j ∙ ap (λ w. Some w) k)

    among : (b : Bool) → is_foreign (tag_of c.name) ≡ true → is_foreign (cond b tag.SvgDesc (tag_of c.name)) ≡ true
    among true h = refl
    among false h = h

pub begun-foreign : (c : Context) (l : Option Limits) (b : BuilderState) → Handed (setting_of c) l [] b → text_mode_of c ≡ text.Foreign → reads_foreign b ≡ true
begun-foreign c l b h e =
    ap (λ (x : State). is_some (foreign_tag x)) (sym h.constructs)
    ∙ ap (λ (x : State). is_some (foreign_tag x)) h.begins.state_is
    ∙ ap (λ v. is_some (if v then (if v then Some (context_tag c) else None) else None)) (context-foreign c e)

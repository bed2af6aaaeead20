-- The tokens handed in, after each call.
use Rattle.std.proofs.lemmas.Bool.{false≢true}
use Rattle.std.proofs.Common.{ℕ, zero, suc, Bool, true, false, ◌&&◌, ◌≡◌, ◌+◌, ◌*◌, ◌<◌, ◌≤◌, List, [], ◌∷◌, ◌++◌, length, take, refl, sym, ap, subst, ◌∙◌, arith, length-append}
use Rattle.std.specs.Prelude.{Option, Some, None, Ok, Err}
use Rattle.std.proofs.lemmas.List.{append_assoc, append-nil}
use Rattle.std.proofs.lemmas.List.Folds.{list_all-append}
use Rattle.html_names.specs.declared.tag.Tag.{Tag}
use Rattle.html_names.specs.declared.tag.Tag.TheVariants as tag
use Rattle.html_names.specs.Names.{tag_of}
use Rattle.html_arena.specs.declared.arena.ArenaError.{ArenaError}
use Rattle.html_arena.specs.declared.arena.ArenaError.TheVariants as arena
use Rattle.html_arena.specs.declared.arena.Limits.{Limits}
use Rattle.html_tokens.specs.declared.token.TokenKind.{TokenKind}
use Rattle.html_tokens.specs.declared.token.TokenKind.TheVariants as kind
use Rattle.html_ledger.specs.declared.setting.Setting.{Setting}
use Rattle.html_ledger.specs.declared.symbol.Symbol.{Symbol}
use Rattle.html_ledger.specs.declared.symbol.Symbol.TheVariants.{Start, End, Char, Comment, Doctype, Eof}
use Rattle.html_ledger.specs.declared.fate.Cause.{Cause}
use Rattle.html_ledger.specs.declared.fate.Cause.TheVariants as cause
use Rattle.html_ledger.specs.declared.fate.Fate.{Fate}
use Rattle.html_ledger.specs.declared.fate.Fate.TheVariants as fate
use Rattle.html_ledger.specs.Symbols.{symbol_of}
use Rattle.html_construction.specs.Budgets.{IsPassed, IsRefused, Refuses, RefusesAny}
use Rattle.html_construction.specs.Built.{Accepts, AcceptsRun, Handed as Given, IsBuilt, chars_of, in_call, nothing_of, some_made, symbols, with_tokens}
use Rattle.html_construction.specs.Beginning.{IsFirst}
use Rattle.html_construction.specs.Begun.{IsFounded, IsInCall, drops_in, gives_in}
use Rattle.html_construction.specs.Modes.{is_of_frames, is_of_selects, is_reset}
use Rattle.html_construction.specs.States.{State}
use Rattle.html_construction.specs.declared.mode.Mode.{Mode}
use Rattle.html_construction.specs.declared.mode.Mode.TheVariants as mode
use Rattle.html_construction.specs.Copies.{implied_count, most_clones}
use Rattle.html_construction.specs.Weights.{weight}
use Rattle.html_construction.specs.Works.{reach_of, span_of}
use Rattle.html_modes.specs.Begun.{Gives, GivesIn, StaysOut, ignores_foreign}
use Rattle.html_modes.proofs.Begun.{accepts-gives, founded-other, run-gives}
use Rattle.html_modes.proofs.Constructing.{constructs-one, constructs-then, each-then}
use Rattle.html_modes.specs.Counting.{TakesEach}
use Rattle.html_modes.specs.Dispatching.{Constructs, Entries, begun as begun_call}
use Rattle.html_modes.specs.Entering.{Enters}
use Rattle.html_modes.specs.Ranks.{top_rank}
use Rattle.html_modes.specs.Steps.{Pays, Toils, compared, root_of}
use Rattle.html_modes.specs.declared.outcome.Foreign.{Foreign}
use Rattle.html_modes.specs.declared.outcome.Foreign.TheVariants as foreign
use Rattle.html_builder.specs.Builders.{BuilderState}
use Rattle.html_builder.specs.Errors.{IsTextTold, IsTold, error_at}
use Rattle.html_builder.specs.Handed.{AddsFates, AreSet, CountsEach, EntersNone, GivesFates, Handed, HandsIn, attribute_total, IsBuildCause, IsForeignOutside, IsForeignRefused, IsNotForeign, IsTextCause, LeadsTo, Starts, fates_of, foreign_tag, given}
use Rattle.html_builder.specs.Switches.{said_after, switch_after}
use Rattle.html_builder.specs.declared.error.BuildError.{BuildError}
use Rattle.html_builder.specs.declared.error.BuildError.TheVariants as error
use Rattle.html_builder.proofs.Counting.{compared-one, counted-in, counted-none}
use Rattle.html_builder.proofs.Endings.{handed-count, have-fates}
use Rattle.html_builder.proofs.Plainly.{begun-plain, plain-run, plain-token}
use Rattle.html_builder.specs.Plain.{IsPlainSoFar}
use Rattle.html_modes.specs.Plain.{GoesOn, GoesOnText}
use Rattle.html_modes.specs.RawText.{AddsBy, AddsText, EndsBy, OpensBy}
use Rattle.html_construction.proofs.Building.{symbols-chars}
use Rattle.html_builder.specs.RawTexts.{StandSoFar}
use Rattle.html_builder.proofs.RawTexts.{raw-run, raw-token}
use Rattle.html_ledger.specs.Entries.{begun as begun_ledger}
use Rattle.html_ledger.specs.Flags.{is_not_null}
use Rattle.html_ledger.specs.declared.setting.Setting.TheVariants as setting
use Rattle.html_tree.specs.States.{document_state}
use Rattle.std.specs.List.{list_all}

both : (a b : Bool) → a ≡ true → b ≡ true → (a && b) ≡ true
both a b e f = rw (e, f) refl

both-of : (a b : Bool) → (a && b) ≡ true → (a ≡ true) × (b ≡ true)
both-of true b e = (refl, e)
both-of false b e = absurd (false≢true e)

with-given : (s : Setting) (l : Option Limits) (ts us : List TokenKind) → with_tokens (given s l ts) us ≡ given s l (ts ++ us)
unfolding with_tokens
with-given s l ts us = refl

-- the call is over
over : (h : Given) (us : List TokenKind) (a b : State) → h.call ≡ None → IsBuilt (with_tokens (in_call h a) us) b → IsBuilt (with_tokens h us) b
unfolding with_tokens
over h us a b e w = record {
  fed = w.fed;
  known = w.known;
  rooted = w.rooted;
  standing = w.standing;
  limits = w.limits;
  root = w.root;
  origins = w.origins;
  made = w.made;
  texts = w.texts;
  refusing = w.refusing;
  since = w.since;
  call = subst (λ o. IsInCall o b) (sym e) tt;
}

-- tokens handed in, in one call
abbrev pub Accepting : List TokenKind → State → State → Type 0
Accepting us a b = (h : Given) → IsBuilt h a → IsBuilt (with_tokens (in_call h a) us) b

-- fates are only added, and which
gave : (v w : BuilderState) → GivesIn v.page w.page → GivesFates v w
gave v w f = λ s l ts h. f (given s l ts) h.built

added : (v w : BuilderState) → GivesIn v.page w.page → AddsFates v w
added v w f = λ s l ts h. let g = gave v w f s l ts h in (g.later, g.fates_are)

pub added-token : (t : TokenKind) (v w : BuilderState) → Accepts t v.page w.page → AddsFates v w
added-token t v w f = added v w (accepts-gives t v.page w.page f)

pub added-run : (cs : List ℕ) (v w : BuilderState) → AcceptsRun cs v.page w.page → AddsFates v w
added-run cs v w f = added v w (run-gives cs v.page w.page f)

-- what elements that hold text alone hold so far
abbrev pub RawSoFar : List TokenKind → BuilderState → BuilderState → Type 0
RawSoFar us v w = (s : Setting) (l : Option Limits) (ts : List TokenKind) → Handed s l ts v → StandSoFar (symbols (ts ++ us)) w.page.ledger.fates w.page

-- so many tokens, handed in at once
handed-in : (us : List TokenKind) (more : ℕ) (v w : BuilderState) → Accepting us v.page w.page → Pays v.page w.page
    → Enters (length us) v.entries w.entries v.page w.page → Toils more v.page w.page → more ≤ attribute_total us * span_of w.page → ((s : Setting) (ts : List TokenKind) → IsPlainSoFar s ts v.page → IsPlainSoFar s (ts ++ us) w.page) → RawSoFar us v w → 0 < length us → IsFounded w.page
    → w.page.parses_foreign ≡ v.page.parses_foreign → Constructs us v.page w.page → w.stopped ≡ false → HandsIn us v w
handed-in us more v w f p r o m q z k i x y g = λ s l ts h.
    let n : length (ts ++ us) ≡ length ts + length us = length-append ts us in
    let b : IsBuilt (given s l (ts ++ us)) w.page = subst (λ x. IsBuilt x w.page) (with-given s l ts us) (over (given s l ts) us v.page w.page refl (f (given s l ts) h.built)) in
    let c = handed-count (given s l (ts ++ us)) w.page b in record {
      going = g;
      built = b;
      paid = omega (arith, p.0, h.paid, n, k);
      cloned = omega (arith, p.1.0, h.cloned);
      implied = omega (arith, p.1.1.0, h.implied_paid, n, k);
      implied_paid = omega (arith, p.1.1.1, h.implied_paid, n, k);
      entered = omega (arith, r, h.entered, n);
      counted = counted-in ts us more (given s l (ts ++ us)) v.page w.page refl b (omega (arith, c)) k h.counted (omega (arith, h.implied_paid)) o m;
      founded = i;
      plain = q s ts h.plain;
      raw_texts = z s l ts h;
      first = h.first;
      begins = h.begins;
      parses = h.parses ∙ sym x;
      constructs = constructs-then ts us h.first v.page w.page h.constructs y;
    }

pub handed-token : (t : TokenKind) (v w : BuilderState) → Accepts t v.page w.page → Pays v.page w.page → Enters 1 v.entries w.entries v.page w.page → Toils (compared t w.page) v.page w.page → GoesOn (symbol_of t) t v.page w.page
    → OpensBy (symbol_of t) w.page → AddsBy (symbol_of t) v.page w.page → EndsBy (symbol_of t) t v.page w.page → IsFounded w.page → w.page.parses_foreign ≡ v.page.parses_foreign
    → Entries (symbol_of t) t (begun_call v.page) w.page → w.stopped ≡ false → HandsIn (t ∷ []) v w
handed-token t v w f p r o q x y z i m n g = handed-in (t ∷ []) (compared t w.page) v w f p r o (compared-one t (span_of w.page)) (plain-token t v.page w.page q)
    (λ s l ts h. raw-token (given s l ts) ts t v.page w.page refl h.built f x y z (added-token t v w f s l ts h) h.raw_texts) (omega arith) i m (constructs-one t v.page w.page n) g

length-chars : (cs : List ℕ) → length (chars_of cs) ≡ length cs
length-chars [] = refl
length-chars (c ∷ cs) = ap suc (length-chars cs)

pub handed-run : (cs : List ℕ) (v w : BuilderState) → AcceptsRun cs v.page w.page → Pays v.page w.page → Enters (length cs) v.entries w.entries v.page w.page → Toils 0 v.page w.page → (list_all is_not_null cs ≡ true → GoesOnText cs v.page w.page) → AddsText cs v.page w.page → 0 < length cs → IsFounded w.page
    → w.page.parses_foreign ≡ v.page.parses_foreign → Constructs (chars_of cs) v.page w.page → w.stopped ≡ false → HandsIn (chars_of cs) v w
handed-run cs v w f p r o q z k i m n g = handed-in (chars_of cs) 0 v w f p (subst (λ n. Enters n v.entries w.entries v.page w.page) (sym (length-chars cs)) r) o (omega arith) (plain-run cs v.page w.page k q)
    (λ s l ts h. raw-run (given s l ts) ts (chars_of cs) cs v.page w.page refl h.built (symbols-chars cs) f z (added-run cs v w f s l ts h) h.raw_texts) (let e = length-chars cs in omega (arith, e, k)) i m n g

-- ONE AFTER ANOTHER

pub handed-none : (v : BuilderState) → HandsIn (chars_of []) v v
handed-none v = λ s l ts h. subst (λ us. Handed s l us v) (sym (append-nil ts)) h

chars-append : (xs ys : List ℕ) → chars_of (xs ++ ys) ≡ chars_of xs ++ chars_of ys
chars-append [] ys = refl
chars-append (x ∷ xs) ys = ap (λ ts. kind.Char x ∷ ts) (chars-append xs ys)

pub handed-then : (xs ys : List ℕ) (u v w : BuilderState) → HandsIn (chars_of xs) u v → HandsIn (chars_of ys) v w → HandsIn (chars_of (xs ++ ys)) u w
handed-then xs ys u v w f g = λ s l ts h.
    subst (λ us. Handed s l us w) (append_assoc ts (chars_of xs) (chars_of ys) ∙ ap (λ us. ts ++ us) (sym (chars-append xs ys)))
    (g s l (ts ++ chars_of xs) (f s l ts h))

pub leads-then : (xs ys : List ℕ) (u v w : BuilderState) → LeadsTo (chars_of xs) u v → LeadsTo (chars_of ys) v w → LeadsTo (chars_of (xs ++ ys)) u w
leads-then xs ys u v w f g = subst (λ us. LeadsTo us u w) (sym (chars-append xs ys)) (constructs-then (chars_of xs) (chars_of ys) u.page v.page w.page f g)

pub counts-then : (xs ys : List ℕ) (u v w : BuilderState) → CountsEach xs u v → CountsEach ys v w → CountsEach (xs ++ ys) u w
counts-then xs ys u v w f g = each-then xs ys u.page v.page w.page f g

pub added-none : (v : BuilderState) → AddsFates v v
added-none v = λ s l ts h. ([], sym (append-nil (fates_of v)))

pub added-then : (xs : List ℕ) (u v w : BuilderState) → HandsIn (chars_of xs) u v → AddsFates u v → AddsFates v w → AddsFates u w
added-then xs u v w f g k = λ s l ts h.
    let p = g s l ts h in
    let q = k s l (ts ++ chars_of xs) (f s l ts h) in
    (p.0 ++ q.0, q.1 ∙ ap (λ fs. fs ++ q.0) p.1 ∙ append_assoc (fates_of u) p.0 q.0)

gives-out : (m n : Mode) (f : Fate) → StaysOut m n → gives_in n f ≡ true → gives_in m f ≡ true
gives-out m n (fate.Made d) o e = refl
gives-out m n (fate.Foreign d) o e = refl
gives-out m n fate.Merged o e = refl
gives-out m n (fate.Text d) o e = refl
gives-out m n fate.Ended o e = refl
gives-out m n (fate.Dropped c) o e = by c e
  where
    by : (c : Cause) → drops_in c n ≡ true → drops_in c m ≡ true
    by cause.InSelect e = o.select e
    by cause.InFrameset e = o.frameset e
    by cause.InColumnGroup e = o.column_group e
    by cause.PrologSpace e = refl
    by cause.Null e = refl
    by cause.LeadingNewline e = refl
    by cause.Misplaced e = refl

all-out : (m n : Mode) (fs : List Fate) → StaysOut m n → list_all (gives_in n) fs ≡ true → list_all (gives_in m) fs ≡ true
all-out m n [] o e = refl
all-out m n (f ∷ fs) o e =
    let p = both-of (gives_in n f) (list_all (gives_in n) fs) e in
    both (gives_in m f) (list_all (gives_in m) fs) (gives-out m n f o p.0) (all-out m n fs o p.1)

gives-on : (m n : Mode) (xs ys zs : List Fate) → StaysOut m n → Gives m xs ys → Gives n ys zs → Gives m xs zs
gives-on m n xs ys zs o g k = record {
  later = g.later ++ k.later;
  fates_are = k.fates_are ∙ ap (λ fs. fs ++ k.later) g.fates_are ∙ append_assoc xs g.later k.later;
  given = list_all-append (gives_in m) g.later k.later ∙ both (list_all (gives_in m) g.later) (list_all (gives_in m) k.later) g.given (all-out m n k.later o k.given);
}

pub gives-then : (xs : List ℕ) (u v w : BuilderState) → HandsIn (chars_of xs) u v → EntersNone u v → GivesFates u v → GivesFates v w → GivesFates u w
gives-then xs u v w f n g k = λ s l ts h. gives-on u.page.mode v.page.mode (fates_of u) (fates_of v) (fates_of w) n (g s l ts h) (k s l (ts ++ chars_of xs) (f s l ts h))

pub enters-then : (u v w : BuilderState) → EntersNone u v → EntersNone v w → EntersNone u w
enters-then u v w p q = record { select = λ e. p.select (q.select e); frameset = λ e. p.frameset (q.frameset e); column_group = λ e. p.column_group (q.column_group e) }

-- THE BEGINNING

length-none : (fs : List Fate) → length fs ≡ 0 → fs ≡ []
length-none [] e = refl
length-none (f ∷ fs) e = absurd (omega (arith, e))

pub none-fated : (s : Setting) (l : Option Limits) (a : State) → IsBuilt (nothing_of s l) a → a.ledger.fates ≡ []
none-fated s l a w = let c = handed-count (nothing_of s l) a w in length-none a.ledger.fates (omega (arith, c))

begun : (s : Setting) (l : Option Limits) (b : BuilderState) → b.stopped ≡ false → b.entries ≡ 0 → IsBuilt (nothing_of s l) b.page → length b.page.tree.tree.labels + 2 * (weight b.page.stack + top_rank b.page.mode) ≤ 40
    → most_clones b.page.tree.tree.labels ≡ 0 → implied_count b.page.tree.tree.labels ≤ 1 → b.page.tree.steps ≤ 2 + reach_of b.page → weight b.page.stack + top_rank b.page.mode ≤ 14 → IsFounded b.page → IsPlainSoFar s [] b.page → IsFirst s l b.page → Handed s l [] b
begun s l b g z w p c i t r f q o = record { going = g; built = w; paid = omega (arith, p); cloned = omega (arith, c); implied = omega (arith, i); implied_paid = omega (arith, i, r); entered = omega (arith, z, r); counted = counted-none [] b.page t r; founded = f; plain = q; raw_texts = tt; first = b.page; begins = o; parses = refl; constructs = refl }

pub begun-document : (l : Option Limits) (b : BuilderState) → b.stopped ≡ false → b.entries ≡ 0 → IsBuilt (nothing_of setting.Document l) b.page → b.page.mode ≡ mode.Initial → b.page.stack ≡ [] → length b.page.tree.tree.labels ≡ 1
    → most_clones b.page.tree.tree.labels ≡ 0 → implied_count b.page.tree.tree.labels ≤ 1 → b.page.tree.steps ≤ 2 + reach_of b.page → (z : Option Limits) × (j : ℕ) × (b.page.tree ≡ document_state z j)
    → b.page.ledger ≡ begun_ledger setting.Document → b.page.fostering ≡ false → b.page.context ≡ None → IsFirst setting.Document l b.page → Handed setting.Document l [] b
begun-document l b g z w m k n c i t d e f o h =
    let p : top_rank b.page.mode ≡ 14 = ap top_rank m in
    let q : weight b.page.stack ≡ 0 = ap weight k in
    begun setting.Document l b g z w (omega (arith, p, q, n)) c i t (omega (arith, p, q)) (founded-other b.page (ap is_of_selects m) (ap is_of_frames m)) (λ z. begun-plain b.page m k d.0 d.1 d.2 e f o) h

reset-low : (m : Mode) → is_reset m ≡ true → top_rank m ≤ 10
reset-low mode.Initial e = absurd (false≢true e)
reset-low mode.BeforeHtml e = absurd (false≢true e)
reset-low mode.Text e = absurd (false≢true e)
reset-low mode.InTableText e = absurd (false≢true e)
reset-low _ e = omega arith

pub begun-fragment : (u : Tag) (form : Bool) (l : Option Limits) (b : BuilderState) → b.stopped ≡ false → b.entries ≡ 0 → IsBuilt (nothing_of (setting.Fragment u form) l) b.page → is_reset b.page.mode ≡ true → b.page.stack ≡ tag.Html ∷ []
    → length b.page.tree.tree.labels ≡ 1 → most_clones b.page.tree.tree.labels ≡ 0 → implied_count b.page.tree.tree.labels ≤ 1 → b.page.tree.steps ≤ 2 + reach_of b.page → IsFounded b.page
    → IsFirst (setting.Fragment u form) l b.page → Handed (setting.Fragment u form) l [] b
begun-fragment u form l b g z w m k n c i t f h =
    let p : top_rank b.page.mode ≤ 10 = reset-low b.page.mode m in
    let q : weight b.page.stack ≡ 4 = ap weight k in
    begun (setting.Fragment u form) l b g z w (omega (arith, p, q, n)) c i t (omega (arith, p, q)) f tt h

-- WHAT IS SAID AND REFUSED

pub said-one : (t : TokenKind) (o : Option Fate) → said_after (symbol_of t) (some_made o) ≡ switch_after t o
said-one (kind.Start n a c) None = refl
said-one (kind.Start n a c) (Some (fate.Made d)) = refl
said-one (kind.Start n a c) (Some (fate.Foreign d)) = refl
said-one (kind.Start n a c) (Some fate.Merged) = refl
said-one (kind.Start n a c) (Some (fate.Text d)) = refl
said-one (kind.Start n a c) (Some (fate.Dropped d)) = refl
said-one (kind.Start n a c) (Some fate.Ended) = refl
said-one (kind.End n) None = refl
said-one (kind.End n) (Some f) = refl
said-one (kind.Char c) None = refl
said-one (kind.Char c) (Some f) = refl
said-one (kind.Comment c) None = refl
said-one (kind.Comment c) (Some f) = refl
said-one (kind.Doctype n p i q) None = refl
said-one (kind.Doctype n p i q) (Some f) = refl
said-one kind.Eof None = refl
said-one kind.Eof (Some f) = refl

abbrev tag_or : Symbol → Tag
tag_or (Start t) = t
tag_or _ = tag.Other

starts-foreign : (t : TokenKind) (name : Foreign) → symbol_of t ≡ root_of name → Starts (foreign_tag name) t
starts-foreign (kind.Start n a c) foreign.Svg e = ap tag_or e
starts-foreign (kind.Start n a c) foreign.Math e = ap tag_or e
starts-foreign (kind.End n) foreign.Svg e = absurd (let k : End (tag_of n) ≡ Start tag.Svg = e in cc)
starts-foreign (kind.End n) foreign.Math e = absurd (let k : End (tag_of n) ≡ Start tag.Math = e in cc)
starts-foreign (kind.Char c) foreign.Svg e = absurd (let k : Char c ≡ Start tag.Svg = e in cc)
starts-foreign (kind.Char c) foreign.Math e = absurd (let k : Char c ≡ Start tag.Math = e in cc)
starts-foreign (kind.Comment c) foreign.Svg e = absurd (let k : Comment ≡ Start tag.Svg = e in cc)
starts-foreign (kind.Comment c) foreign.Math e = absurd (let k : Comment ≡ Start tag.Math = e in cc)
starts-foreign (kind.Doctype n p i q) foreign.Svg e = absurd (let k : Doctype ≡ Start tag.Svg = e in cc)
starts-foreign (kind.Doctype n p i q) foreign.Math e = absurd (let k : Doctype ≡ Start tag.Math = e in cc)
starts-foreign kind.Eof foreign.Svg e = absurd (let k : Eof ≡ Start tag.Svg = e in cc)
starts-foreign kind.Eof foreign.Math e = absurd (let k : Eof ≡ Start tag.Math = e in cc)

pub cause-foreign : (s : Setting) (l : Option Limits) (ts : List TokenKind) (v : BuilderState) (t : TokenKind) (at : ℕ) (name : Foreign) → Handed s l ts v → symbol_of t ≡ root_of name
    → IsBuildCause s l ts (fates_of v) t at (error.ForeignContent name at)
cause-foreign s l ts v t at name h e = (refl, starts-foreign t name e, have-fates s l ts v h)

-- where something would pass them, there are limits
passed-set : (l : Option Limits) (t : TokenKind) (z : State) (limit : ArenaError) → IsPassed l t z limit → AreSet l
passed-set None t z limit k = absurd (let q : Ok tt ≡ Err limit = k.answer_is in cc)
passed-set (Some m) t z limit k = (m, refl)

-- what is told of a budget is so of the limits that were handed in
told-as : (l : Option Limits) (t : TokenKind) (z : State) (at : ℕ) (r : ArenaError) → IsRefused l t z r → IsTold l t z (error_at r at)
told-as l t z at arena.OutOfMemory k = tt
told-as l t z at arena.NodeBudget k = k.reason
told-as l t z at arena.HeldBudget k = k.reason

pub told-at : (s : Setting) (l : Option Limits) (ts : List TokenKind) (u v : BuilderState) (t : TokenKind) (r : ArenaError) (at : ℕ) (z : State) (e : BuildError) → u ≡ v → Refuses t r u.page z → e ≡ error_at r at → Handed s l ts v → IsTold l t z e
told-at s l ts u v t r at z e q k i h =
    subst (λ x. IsTold l t z x) (sym i) (told-as l t z at r (k (given s l ts) (subst (λ (x : BuilderState). IsBuilt (given s l ts) x.page) (sym q) h.built)))

pub text-told-at : (s : Setting) (l : Option Limits) (ts : List TokenKind) (u v : BuilderState) (r : ArenaError) (at : ℕ) (z : State) (e : BuildError) → u ≡ v → RefusesAny r u.page z → e ≡ error_at r at → Handed s l ts v → IsTextTold l z e
text-told-at s l ts u v r at z e q k i h = λ t.
    subst (λ x. IsTold l t z x) (sym i) (told-as l t z at r ((k (given s l ts) (subst (λ (x : BuilderState). IsBuilt (given s l ts) x.page) (sym q) h.built)).any t))

cause-as : (s : Setting) (l : Option Limits) (ts : List TokenKind) (fs : List Fate) (t : TokenKind) (at : ℕ) (r : ArenaError) (z : State) → IsRefused l t z r → IsBuildCause s l ts fs t at (error_at r at)
cause-as s l ts fs t at arena.OutOfMemory z k = tt
cause-as s l ts fs t at arena.NodeBudget z k = (refl, passed-set l t z arena.NodeBudget k.reason)
cause-as s l ts fs t at arena.HeldBudget z k = (refl, passed-set l t z arena.HeldBudget k.reason)

pub cause-at : (s : Setting) (l : Option Limits) (ts : List TokenKind) (fs : List Fate) (u v : BuilderState) (t : TokenKind) (r : ArenaError) (at : ℕ) (z : State) (e : BuildError) → u ≡ v → Refuses t r u.page z → e ≡ error_at r at → Handed s l ts v → IsBuildCause s l ts fs t at e
cause-at s l ts fs u v t r at z e q k i h =
    subst (λ x. IsBuildCause s l ts fs t at x) (sym i) (cause-as s l ts fs t at r z (k (given s l ts) (subst (λ (x : BuilderState). IsBuilt (given s l ts) x.page) (sym q) h.built)))

text-cause-as : (s : Setting) (l : Option Limits) (ts : List TokenKind) (fs : List Fate) (text : List ℕ) (at : ℕ) (t : TokenKind) (r : ArenaError) (z : State) → 0 < length text → IsRefused l t z r → IsTextCause s l ts fs text at (error_at r at)
text-cause-as s l ts fs text at t arena.OutOfMemory z n k = tt
text-cause-as s l ts fs text at t arena.NodeBudget z n k = (omega arith, omega (arith, n), passed-set l t z arena.NodeBudget k.reason)
text-cause-as s l ts fs text at t arena.HeldBudget z n k = (omega arith, omega (arith, n), passed-set l t z arena.HeldBudget k.reason)

pub text-cause-at : (s : Setting) (l : Option Limits) (ts : List TokenKind) (fs : List Fate) (text : List ℕ) (u v : BuilderState) (r : ArenaError) (at : ℕ) (z : State) (e : BuildError) → 0 < length text → u ≡ v → RefusesAny r u.page z → e ≡ error_at r at → Handed s l ts v
    → IsTextCause s l ts fs text at e
text-cause-at s l ts fs text u v r at z e n q k i h =
    subst (λ x. IsTextCause s l ts fs text at x) (sym i) (text-cause-as s l ts fs text at kind.Eof r z n ((k (given s l ts) (subst (λ (x : BuilderState). IsBuilt (given s l ts) x.page) (sym q) h.built)).any kind.Eof))

-- a part of the text
pub text-cause-part : (s : Setting) (l : Option Limits) (ts us : List TokenKind) (fs gs : List Fate) (text part : List ℕ) (start at : ℕ) (e : BuildError) → start ≤ at → at + length part ≤ start + length text
    → IsTextCause s l us gs part at e → IsTextCause s l ts fs text start e
text-cause-part s l ts us fs gs text part start at error.OutOfMemory p q c = tt
text-cause-part s l ts us fs gs text part start at (error.ForeignContent name place) p q c = c
text-cause-part s l ts us fs gs text part start at error.BadContext p q c = c
text-cause-part s l ts us fs gs text part start at error.Stopped p q c = c
text-cause-part s l ts us fs gs text part start at (error.NodeBudget place) p q c = let a = c.0 in let b = c.1 in (omega (arith, p, a), omega (arith, q, b), c.2)
text-cause-part s l ts us fs gs text part start at (error.HeldBudget place) p q c = let a = c.0 in let b = c.1 in (omega (arith, p, a), omega (arith, q, b), c.2)

-- the same, where the state is seen as a view
pub viewed-token : (t : TokenKind) (y : Symbol) (u v w : BuilderState) → u ≡ v → y ≡ symbol_of t → Accepts t u.page w.page → Pays u.page w.page → Enters 1 u.entries w.entries u.page w.page → Toils (compared t w.page) u.page w.page → GoesOn y t u.page w.page
    → OpensBy y w.page → AddsBy y u.page w.page → EndsBy y t u.page w.page → IsFounded w.page
    → w.page.parses_foreign ≡ u.page.parses_foreign → Entries y t (begun_call u.page) w.page → w.stopped ≡ false → HandsIn (t ∷ []) v w
viewed-token t y u v w e i f p r o q x m n j a b g =
    subst (λ x. HandsIn (t ∷ []) x w) e
    (handed-token t u w f p r o (subst (λ z. GoesOn z t u.page w.page) i q) (subst (λ z. OpensBy z w.page) i x) (subst (λ z. AddsBy z u.page w.page) i m) (subst (λ z. EndsBy z t u.page w.page) i n) j a (subst (λ z. Entries z t (begun_call u.page) w.page) i b) g)

pub viewed-run : (cs : List ℕ) (u v w : BuilderState) → u ≡ v → AcceptsRun cs u.page w.page → Pays u.page w.page → Enters (length cs) u.entries w.entries u.page w.page → Toils 0 u.page w.page → (list_all is_not_null cs ≡ true → GoesOnText cs u.page w.page) → AddsText cs u.page w.page → 0 < length cs → IsFounded w.page
    → w.page.parses_foreign ≡ u.page.parses_foreign → Constructs (chars_of cs) u.page w.page → w.stopped ≡ false → HandsIn (chars_of cs) v w
viewed-run cs u v w e f p r o q z k i m n g = subst (λ x. HandsIn (chars_of cs) x w) e (handed-run cs u w f p r o q z k i m n g)

pub viewed-leads : (us : List TokenKind) (u v w : BuilderState) → u ≡ v → Constructs us u.page w.page → LeadsTo us v w
viewed-leads us u v w e h = subst (λ x. LeadsTo us x w) e h

pub viewed-counts : (cs : List ℕ) (u v w : BuilderState) → u ≡ v → TakesEach cs u.page w.page → CountsEach cs v w
viewed-counts cs u v w e h = subst (λ x. CountsEach cs x w) e h

pub viewed-one : (t : TokenKind) (y : Symbol) (u v w : BuilderState) → u ≡ v → y ≡ symbol_of t → Entries y t (begun_call u.page) w.page → LeadsTo (t ∷ []) v w
viewed-one t y u v w e i h = viewed-leads (t ∷ []) u v w e (constructs-one t u.page w.page (subst (λ z. Entries z t (begun_call u.page) w.page) i h))

pub viewed-added : (cs : List ℕ) (u v w : BuilderState) → u ≡ v → AcceptsRun cs u.page w.page → AddsFates v w
viewed-added cs u v w e f = subst (λ x. AddsFates x w) e (added-run cs u w f)

pub viewed-grown : (t : TokenKind) (u v w : BuilderState) → u ≡ v → Accepts t u.page w.page → AddsFates v w
viewed-grown t u v w e f = subst (λ x. AddsFates x w) e (added-token t u w f)

pub viewed-gives : (u v w : BuilderState) → u ≡ v → GivesIn u.page w.page → GivesFates v w
viewed-gives u v w e f = subst (λ x. GivesFates x w) e (gave u w f)

pub viewed-enters : (u v w : BuilderState) → u ≡ v → StaysOut u.page.mode w.page.mode → EntersNone v w
viewed-enters u v w e f = subst (λ x. EntersNone x w) e f

-- foreign content is told where the mode does not ignore it
pub foreign-outside : (u v : BuilderState) (s : Setting) (l : Option Limits) (ts : List TokenKind) (name : Foreign) (at : ℕ) (e : BuildError) → u ≡ v → Handed s l ts v → (IsFounded u.page → ignores_foreign u.page.mode ≡ false) → e ≡ error.ForeignContent name at → IsForeignOutside v.page.mode e
foreign-outside u v s l ts name at e q h f i =
    subst (λ x. IsForeignOutside v.page.mode x) (sym i)
    (subst (λ (x : BuilderState). ignores_foreign x.page.mode ≡ false) q (f (subst (λ (x : BuilderState). IsFounded x.page) (sym q) h.founded)))

-- no other refusal tells of foreign content
pub refusal-outside : (m : Mode) (r : ArenaError) (at : ℕ) (e : BuildError) → e ≡ error_at r at → IsForeignOutside m e
refusal-outside m r at e q = subst (λ x. IsForeignOutside m x) (sym q) (by r)
  where
    by : (r : ArenaError) → IsForeignOutside m (error_at r at)
    by arena.OutOfMemory = tt
    by arena.NodeBudget = tt
    by arena.HeldBudget = tt

pub refusal-native : (r : ArenaError) (at : ℕ) (e : BuildError) → e ≡ error_at r at → IsNotForeign e
refusal-native r at e q = subst IsNotForeign (sym q) (by r)
  where
    by : (r : ArenaError) → IsNotForeign (error_at r at)
    by arena.OutOfMemory = tt
    by arena.NodeBudget = tt
    by arena.HeldBudget = tt

-- ONE CODE POINT

-- of one code point that much is taken
pub front-one : (n c : ℕ) → 0 < n → take n (c ∷ []) ≡ c ∷ []
front-one zero c h = absurd (omega (arith, h))
front-one (suc zero) c h = refl
front-one (suc (suc n)) c h = refl

pub cause-one : (s : Setting) (l : Option Limits) (ts : List TokenKind) (fs : List Fate) (c at : ℕ) (t : TokenKind) (e : BuildError) → IsTextCause s l ts fs (c ∷ []) at e → IsBuildCause s l ts fs t at e
cause-one s l ts fs c at t error.OutOfMemory h = tt
cause-one s l ts fs c at t (error.NodeBudget place) h = (let a = h.0 in let b = h.1 in omega (arith, a, b), h.2)
cause-one s l ts fs c at t (error.HeldBudget place) h = (let a = h.0 in let b = h.1 in omega (arith, a, b), h.2)
cause-one s l ts fs c at t (error.ForeignContent name place) h = absurd h
cause-one s l ts fs c at t error.BadContext h = h
cause-one s l ts fs c at t error.Stopped h = h

pub native-outside : (m : Mode) (e : BuildError) → IsNotForeign e → IsForeignOutside m e
native-outside m (error.ForeignContent name place) h = absurd h
native-outside m error.OutOfMemory h = tt
native-outside m (error.NodeBudget place) h = tt
native-outside m (error.HeldBudget place) h = tt
native-outside m error.BadContext h = tt
native-outside m error.Stopped h = tt

pub native-refused : (b : BuilderState) (e : BuildError) → IsNotForeign e → IsForeignRefused b e
native-refused b (error.ForeignContent name place) h = absurd h
native-refused b error.OutOfMemory h = tt
native-refused b (error.NodeBudget place) h = tt
native-refused b (error.HeldBudget place) h = tt
native-refused b error.BadContext h = tt
native-refused b error.Stopped h = tt

-- a builder that was stopped was not handed tokens alone
pub going-not : (s : Setting) (l : Option Limits) (ts : List TokenKind) (u v : BuilderState) → u ≡ v → u.stopped ≡ true → Handed s l ts v → ⊥
going-not s l ts u v e p h = false≢true (sym h.going ∙ ap (λ (x : BuilderState). x.stopped) (sym e) ∙ p)

pub take-some : (n : ℕ) (xs : List ℕ) → 0 < n → 0 < length xs → 0 < length (take n xs)
take-some zero xs p q = absurd (omega (arith, p))
take-some (suc n) [] p q = absurd (omega (arith, q))
take-some (suc n) (x ∷ xs) p q = omega arith

-- entries of as many tokens as are taken of a text
pub taken-enters : (n : ℕ) (xs : List ℕ) (k m : ℕ) (a b : State) → n ≤ length xs → Enters n k m a b → Enters (length (take n xs)) k m a b
taken-enters n xs k m a b h e = subst (λ i. Enters i k m a b) (sym (length-taken n xs h)) e
  where
    length-taken : (n : ℕ) (xs : List ℕ) → n ≤ length xs → length (take n xs) ≡ n
    length-taken zero xs h = refl
    length-taken (suc n) [] h = absurd (omega (arith, h))
    length-taken (suc n) (x ∷ xs) h = ap suc (length-taken n xs (omega (arith, h)))

pub take-one : (xs : List ℕ) → length (take 1 xs) ≤ 1
take-one [] = omega arith
take-one (x ∷ xs) = omega arith

-- no refusal is told as stopped
pub not-stopped : (r : ArenaError) (at : ℕ) → error_at r at ≡ error.Stopped → ⊥
not-stopped arena.OutOfMemory at e = absurd (let k = e in cc)
not-stopped arena.NodeBudget at e = absurd (let k = e in cc)
not-stopped arena.HeldBudget at e = absurd (let k = e in cc)

pub ruleset begin_rules = (none-fated)

pub ruleset process_rules = (handed-token, added-token, cause-foreign, not-stopped)

pub ruleset text_rules = (handed-run, added-run, not-stopped)

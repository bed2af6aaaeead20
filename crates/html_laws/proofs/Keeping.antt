-- Code points wait in the mode in table text alone: by what the plans say.
use Rattle.std.proofs.Common.{◌≡◌, ℕ, Bool, true, false, not, ◌&&◌, List, [], if◌then◌else◌, refl, ◌∙◌, ap}
use Rattle.std.proofs.lemmas.Bool.{false≢true}
use Rattle.html_tokens.specs.declared.token.TokenKind.{TokenKind}
use Rattle.html_tokens.specs.declared.token.TokenKind.TheVariants.{Char}
use Rattle.html_ledger.specs.declared.symbol.Symbol.{Symbol}
use Rattle.html_ledger.specs.Symbols.{symbol_of}
use Rattle.html_construction.specs.declared.mode.Mode.{Mode}
use Rattle.html_construction.specs.Plans.{Adopt, Ask, By, CloseLink, Do, Each, Ending, Foster, IsMoved, Over, Plan, Reconstruct, Rules, Runs, Settle, Stop, adopts, asks, closes_link, does, does_each, ends_each, fosters, goes_by, reconstructs, settles, stops}
use Rattle.html_construction.specs.States.{State}
use Rattle.html_construction.specs.Words.{AddMarker, Becomes, BeginOwnPart, ClearTo, ClearToMarker, CloseForm, CloseNamed, CloseThrough, Drop, End, Enter, FramesetOff, Implied, Imply, ImplyHead, ImplyPart, ImplyRoot, ImplyVoid, Insert, InsertAt, InsertCharacter, InsertClosedForm, InsertComment, InsertCommentAt, InsertDoctype, InsertForeign, InsertForeignVoid, InsertForm, InsertHead, InsertListed, InsertPart, InsertReplacement, InsertRoot, InsertVoid, InsertVoidAt, Keep, Leave, MergeIntoBody, MergeIntoRoot, Pop, PopTemplate, PushTemplate, Quirks, ReplaceBody, Reset, Switch, Word, after, answer, with_kept}
use Rattle.html_modes.specs.Guards.{is_table_text}
use Rattle.html_construction.proofs.Planned.{halves as both}
use Rattle.html_laws.proofs.Words.{becomes-core}

-- the word keeps no code point
abbrev pub keeps_none : Word → Bool
keeps_none Keep = false
keeps_none _ = true

-- the plan keeps none
abbrev pub keepless : Plan → Bool
keepless (Do w p) = keeps_none w && keepless p
keepless (Ask q p n) = keepless p && keepless n
keepless (Reconstruct p) = keepless p
keepless (Adopt g p) = keepless p
keepless (CloseLink p) = keepless p
keepless (Foster p) = keepless p
keepless (Settle q p) = keepless q && keepless p
keepless (Each cs q p) = keepless q && keepless p
keepless (Stop e) = true
keepless (By m) = not (is_table_text m)

-- it takes out those that wait, and keeps none
abbrev pub empties : Plan → Bool
empties (Settle q p) = keepless q && keepless p
empties (Ask q p n) = empties p && empties n
empties _ = false

abbrev pub AreKeepless : Rules → Type 0
AreKeepless r = (m : Mode) (y : Symbol) → is_table_text m ≡ false → keepless (r m y) ≡ true

abbrev kept : State → List ℕ
kept a = a.ledger.kept

pub not-true : (b : Bool) → not b ≡ true → b ≡ false
not-true true h = absurd (false≢true h)
not-true false h = refl

chosen : (x : Bool) (p n : Plan) → (keepless p && keepless n) ≡ true → keepless (if x then p else n) ≡ true
chosen true p n h = (both (keepless p) (keepless n) h).0
chosen false p n h = (both (keepless p) (keepless n) h).1

chosen-empties : (x : Bool) (p n : Plan) → (empties p && empties n) ≡ true → empties (if x then p else n) ≡ true
chosen-empties true p n h = (both (empties p) (empties n) h).0
chosen-empties false p n h = (both (empties p) (empties n) h).1

kept-becomes : (m b : State) → Becomes m b → kept b ≡ kept m
kept-becomes m b k = ap (λ (v : State). kept v) (becomes-core m b k)

kept-moved : (a b : State) → IsMoved a b → kept b ≡ kept a
kept-moved a b k = ap (λ (v : State). kept v) k.rest

word-kept : (w : Word) (t : TokenKind) (a : State) → keeps_none w ≡ true → kept (after w t a) ≡ kept a
word-kept (ClearTo c) t a h = refl
word-kept Pop t a h = refl
word-kept (CloseThrough g e) t a h = refl
word-kept CloseNamed t a h = refl
word-kept (Implied except) t a h = refl
word-kept AddMarker t a h = refl
word-kept ClearToMarker t a h = refl
word-kept Insert t a h = refl
word-kept (InsertAt g) t a h = refl
word-kept InsertPart t a h = refl
word-kept (InsertVoid n) t a h = refl
word-kept (InsertVoidAt n g) t a h = refl
word-kept InsertListed t a h = refl
word-kept InsertHead t a h = refl
word-kept InsertForm t a h = refl
word-kept InsertClosedForm t a h = refl
word-kept CloseForm t a h = refl
word-kept ReplaceBody t a h = refl
word-kept InsertRoot t a h = refl
word-kept (Imply n) t a h = refl
word-kept (ImplyPart n) t a h = refl
word-kept (ImplyVoid n) t a h = refl
word-kept ImplyHead t a h = refl
word-kept ImplyRoot t a h = refl
word-kept InsertComment t a h = refl
word-kept (InsertCommentAt g) t a h = refl
word-kept InsertDoctype t a h = refl
word-kept InsertCharacter t a h = refl
word-kept InsertReplacement t a h = refl
word-kept MergeIntoRoot t a h = refl
word-kept MergeIntoBody t a h = refl
word-kept (Drop cause) t a h = refl
word-kept End t a h = refl
word-kept (Switch m) t a h = refl
word-kept (Enter m) t a h = refl
word-kept Leave t a h = refl
word-kept FramesetOff t a h = refl
word-kept (Quirks q) t a h = refl
word-kept Reset t a h = refl
word-kept (PushTemplate m) t a h = refl
word-kept PopTemplate t a h = refl
word-kept (InsertForeign s) t a h = refl
word-kept (InsertForeignVoid s) t a h = refl
word-kept Keep t a h = absurd (false≢true h)
word-kept BeginOwnPart t a h = refl

module _ (r : Rules) (all : AreKeepless r) where
  pub runs-keepless : (p : Plan) (t : TokenKind) (a : State) (e : Ending) (z : State) → keepless p ≡ true → kept a ≡ [] → Runs r p t a e z → kept z ≡ []
  runs-keepless _ _ _ _ _ h n (does w p t a b e z i k) =
      let c = both (keeps_none w) (keepless p) h in
      runs-keepless p t b e z c.1 (kept-becomes (after w t a) b i ∙ word-kept w t a c.0 ∙ n) k
  runs-keepless _ _ _ _ _ h n (asks q p m t a b e z i k) = runs-keepless (if answer q t a then p else m) t b e z (chosen (answer q t a) p m h) (kept-becomes a b i ∙ n) k
  runs-keepless _ _ _ _ _ h n (reconstructs p t a b e z i j k) = runs-keepless p t b e z h (kept-moved a b i ∙ n) k
  runs-keepless _ _ _ _ _ h n (adopts g p t a b e z i j k) = runs-keepless p t b e z h (kept-moved a b i ∙ n) k
  runs-keepless _ _ _ _ _ h n (closes_link p t a b e z i j k) = runs-keepless p t b e z h (kept-moved a b i ∙ n) k
  runs-keepless _ _ _ _ _ h n (fosters p t a b c e z i k j) =
      kept-becomes (record c { fostering = false }) z j ∙ runs-keepless p t b e c h (kept-becomes (record a { fostering = true }) b i ∙ n) k
  runs-keepless _ _ _ _ _ h n (settles q p t a b e z i k) = runs-keepless (Each a.ledger.kept q p) t b e z h (kept-becomes (with_kept [] a) b i) k
  runs-keepless _ _ _ _ _ h n (ends_each q p t a e z k) = runs-keepless p t a e z (both (keepless q) (keepless p) h).1 n k
  runs-keepless _ _ _ _ _ h n (does_each x cs q p t a b e z i k) =
      runs-keepless (Each cs q p) t b e z h (runs-keepless q (Char x) a Over b (both (keepless q) (keepless p) h).0 n i) k
  runs-keepless _ _ _ _ _ h n (stops t a e z i) = kept-becomes a z i ∙ n
  runs-keepless _ _ _ _ _ h n (goes_by m t a e z k) = runs-keepless (r m (symbol_of t)) t a e z (all m (symbol_of t) (not-true (is_table_text m) h)) n k

  pub runs-empty : (p : Plan) (t : TokenKind) (a : State) (e : Ending) (z : State) → empties p ≡ true → Runs r p t a e z → kept z ≡ []
  runs-empty _ _ _ _ _ h (does w p t a b e z i k) = absurd (false≢true h)
  runs-empty _ _ _ _ _ h (asks q p m t a b e z i k) = runs-empty (if answer q t a then p else m) t b e z (chosen-empties (answer q t a) p m h) k
  runs-empty _ _ _ _ _ h (reconstructs p t a b e z i j k) = absurd (false≢true h)
  runs-empty _ _ _ _ _ h (adopts g p t a b e z i j k) = absurd (false≢true h)
  runs-empty _ _ _ _ _ h (closes_link p t a b e z i j k) = absurd (false≢true h)
  runs-empty _ _ _ _ _ h (fosters p t a b c e z i k j) = absurd (false≢true h)
  runs-empty _ _ _ _ _ h (settles q p t a b e z i k) = runs-keepless (Each a.ledger.kept q p) t b e z h (kept-becomes (with_kept [] a) b i) k
  runs-empty _ _ _ _ _ h (ends_each q p t a e z k) = absurd (false≢true h)
  runs-empty _ _ _ _ _ h (does_each x cs q p t a b e z i k) = absurd (false≢true h)
  runs-empty _ _ _ _ _ h (stops t a e z i) = absurd (false≢true h)
  runs-empty _ _ _ _ _ h (goes_by m t a e z k) = absurd (false≢true h)

-- Where foreign content is refused and is not the context, no rule makes an element of it.
use Rattle.std.proofs.Common.{◌≡◌, Bool, true, false, ◌&&◌, ◌||◌, [], if◌then◌else◌, refl, sym, ◌∙◌, ap, subst}
use Rattle.std.proofs.lemmas.Bool.{false≢true}
use Rattle.html_tokens.specs.declared.token.TokenKind.{TokenKind}
use Rattle.html_tokens.specs.declared.token.TokenKind.TheVariants.{Char}
use Rattle.html_ledger.specs.declared.fate.Fate.{Fate}
use Rattle.html_ledger.specs.declared.symbol.Symbol.{Symbol}
use Rattle.html_ledger.specs.declared.symbol.Symbol.TheVariants as symbol
use Rattle.html_ledger.specs.Fates.{is_foreign}
use Rattle.html_ledger.specs.MayDrop.{embeds}
use Rattle.html_ledger.specs.Symbols.{symbol_of}
use Rattle.html_construction.specs.declared.mode.Mode.{Mode}
use Rattle.html_construction.specs.Plans.{Adopt, Ask, By, CloseLink, Do, Each, Ending, Foster, IsMoved, Over, Plan, Reconstruct, Rules, Runs, Settle, Stop, adopts, asks, closes_link, does, does_each, ends_each, fosters, goes_by, reconstructs, settles, stops}
use Rattle.html_construction.specs.States.{State}
use Rattle.html_construction.specs.Words.{AddMarker, Becomes, BeginOwnPart, ClearTo, ClearToMarker, CloseForm, CloseNamed, CloseThrough, Drop, End, Enter, FramesetOff, Implied, Imply, ImplyHead, ImplyPart, ImplyRoot, ImplyVoid, Insert, InsertAt, InsertCharacter, InsertClosedForm, InsertComment, InsertCommentAt, InsertDoctype, InsertForeign, InsertForeignVoid, InsertForm, InsertHead, InsertListed, InsertPart, InsertReplacement, InsertRoot, InsertVoid, InsertVoidAt, Keep, Leave, MergeIntoBody, MergeIntoRoot, ParsesForeign, Pop, PopTemplate, PushTemplate, Query, Quirks, ReplaceBody, Reset, Switch, Word, after, answer, with_kept}
use Rattle.html_construction.proofs.Planned.{halves as both}
use Rattle.html_laws.specs.Likeness.{core}
use Rattle.html_laws.proofs.Words.{becomes-core}

-- foreign content is refused, and none was made: so no token goes by the rules for it
pub record IsNative (a : State) : Type 0 where
  pub refused : a.parses_foreign ≡ false
  pub none : a.ledger.history.foreign ≡ false

-- the words that make one, and the question before them
abbrev pub is_native_word : Word → Bool
is_native_word (InsertForeign s) = false
is_native_word (InsertForeignVoid s) = false
is_native_word _ = true

abbrev pub asks_foreign : Query → Bool
asks_foreign ParsesForeign = true
asks_foreign _ = false

-- followed where that is answered no, the plan makes none
abbrev pub native : Plan → Bool
native (Do w p) = is_native_word w && native p
native (Ask q p n) = (asks_foreign q || native p) && native n
native (Reconstruct p) = native p
native (Adopt g p) = native p
native (CloseLink p) = native p
native (Foster p) = native p
native (Settle q p) = native q && native p
native (Each cs q p) = native q && native p
native (Stop e) = true
native (By m) = true

abbrev pub AreNative : Rules → Type 0
AreNative r = (m : Mode) (y : Symbol) → native (r m y) ≡ true

native-core : (a b : State) → core a ≡ core b → IsNative a → IsNative b
native-core a b e k = record { refused = sym (ap (λ (v : State). v.parses_foreign) e) ∙ k.refused; none = sym (ap (λ (v : State). v.ledger.history.foreign) e) ∙ k.none }

pub native-becomes : (m b : State) → Becomes m b → IsNative m → IsNative b
native-becomes m b i k = native-core m b (sym (becomes-core m b i)) k

native-moved : (a b : State) → IsMoved a b → IsNative a → IsNative b
native-moved a b i k = record { refused = ap (λ (v : State). v.parses_foreign) i.rest ∙ k.refused; none = ap (λ (v : State). v.ledger.history.foreign) i.rest ∙ k.none }

embeds-none : (y : Symbol) (f : Fate) → is_foreign f ≡ false → embeds y f ≡ false
embeds-none (symbol.Start g) f h = h
embeds-none (symbol.End g) f h = refl
embeds-none (symbol.Char c) f h = refl
embeds-none symbol.Comment f h = refl
embeds-none symbol.Doctype f h = refl
embeds-none symbol.Eof f h = refl

-- another fate
given-native : (a b : State) (y : Symbol) (f : Fate) → is_foreign f ≡ false → b.parses_foreign ≡ a.parses_foreign → b.ledger.history.foreign ≡ (a.ledger.history.foreign || embeds y f) → IsNative a → IsNative b
given-native a b y f h p e k = record { refused = p ∙ k.refused; none = e ∙ ap (λ v. v || embeds y f) k.none ∙ embeds-none y f h }

pub same-native : (a b : State) → b.parses_foreign ≡ a.parses_foreign → b.ledger.history.foreign ≡ a.ledger.history.foreign → IsNative a → IsNative b
same-native a b p e k = record { refused = p ∙ k.refused; none = e ∙ k.none }

word-native : (w : Word) (t : TokenKind) (a : State) → is_native_word w ≡ true → IsNative a → IsNative (after w t a)
word-native (ClearTo c) t a h k = same-native a (after (ClearTo c) t a) refl refl k
word-native Pop t a h k = same-native a (after Pop t a) refl refl k
word-native (CloseThrough g e) t a h k = same-native a (after (CloseThrough g e) t a) refl refl k
word-native CloseNamed t a h k = same-native a (after CloseNamed t a) refl refl k
word-native (Implied except) t a h k = same-native a (after (Implied except) t a) refl refl k
word-native AddMarker t a h k = same-native a (after AddMarker t a) refl refl k
word-native ClearToMarker t a h k = same-native a (after ClearToMarker t a) refl refl k
word-native Insert t a h k = given-native a (after Insert t a) (symbol_of t) _ refl refl refl k
word-native (InsertAt g) t a h k = given-native a (after (InsertAt g) t a) (symbol_of t) _ refl refl refl k
word-native InsertPart t a h k = given-native a (after InsertPart t a) (symbol_of t) _ refl refl refl k
word-native (InsertVoid n) t a h k = given-native a (after (InsertVoid n) t a) (symbol_of t) _ refl refl refl k
word-native (InsertVoidAt n g) t a h k = given-native a (after (InsertVoidAt n g) t a) (symbol_of t) _ refl refl refl k
word-native InsertListed t a h k = given-native a (after InsertListed t a) (symbol_of t) _ refl refl refl k
word-native InsertHead t a h k = given-native a (after InsertHead t a) (symbol_of t) _ refl refl refl k
word-native InsertForm t a h k = given-native a (after InsertForm t a) (symbol_of t) _ refl refl refl k
word-native InsertClosedForm t a h k = given-native a (after InsertClosedForm t a) (symbol_of t) _ refl refl refl k
word-native CloseForm t a h k = same-native a (after CloseForm t a) refl refl k
word-native ReplaceBody t a h k = given-native a (after ReplaceBody t a) (symbol_of t) _ refl refl refl k
word-native InsertRoot t a h k = given-native a (after InsertRoot t a) (symbol_of t) _ refl refl refl k
word-native (Imply n) t a h k = same-native a (after (Imply n) t a) refl refl k
word-native (ImplyPart n) t a h k = same-native a (after (ImplyPart n) t a) refl refl k
word-native (ImplyVoid n) t a h k = same-native a (after (ImplyVoid n) t a) refl refl k
word-native ImplyHead t a h k = same-native a (after ImplyHead t a) refl refl k
word-native ImplyRoot t a h k = same-native a (after ImplyRoot t a) refl refl k
word-native InsertComment t a h k = given-native a (after InsertComment t a) (symbol_of t) _ refl refl refl k
word-native (InsertCommentAt g) t a h k = given-native a (after (InsertCommentAt g) t a) (symbol_of t) _ refl refl refl k
word-native InsertDoctype t a h k = given-native a (after InsertDoctype t a) (symbol_of t) _ refl refl refl k
word-native InsertCharacter t a h k = given-native a (after InsertCharacter t a) (symbol_of t) _ refl refl refl k
word-native InsertReplacement t a h k = given-native a (after InsertReplacement t a) (symbol_of t) _ refl refl refl k
word-native MergeIntoRoot t a h k = given-native a (after MergeIntoRoot t a) (symbol_of t) _ refl refl refl k
word-native MergeIntoBody t a h k = given-native a (after MergeIntoBody t a) (symbol_of t) _ refl refl refl k
word-native (Drop cause) t a h k = given-native a (after (Drop cause) t a) (symbol_of t) _ refl refl refl k
word-native End t a h k = given-native a (after End t a) (symbol_of t) _ refl refl refl k
word-native (Switch m) t a h k = same-native a (after (Switch m) t a) refl refl k
word-native (Enter m) t a h k = same-native a (after (Enter m) t a) refl refl k
word-native Leave t a h k = same-native a (after Leave t a) refl refl k
word-native FramesetOff t a h k = same-native a (after FramesetOff t a) refl refl k
word-native (Quirks q) t a h k = same-native a (after (Quirks q) t a) refl refl k
word-native Reset t a h k = same-native a (after Reset t a) refl refl k
word-native (PushTemplate m) t a h k = same-native a (after (PushTemplate m) t a) refl refl k
word-native PopTemplate t a h k = same-native a (after PopTemplate t a) refl refl k
word-native (InsertForeign s) t a h k = absurd (false≢true h)
word-native (InsertForeignVoid s) t a h k = absurd (false≢true h)
word-native Keep t a h k = same-native a (after Keep t a) refl refl k
word-native BeginOwnPart t a h k = same-native a (after BeginOwnPart t a) refl refl k

pub asked-none : (q : Query) (t : TokenKind) (a : State) → a.parses_foreign ≡ false → asks_foreign q ≡ true → answer q t a ≡ false
asked-none ParsesForeign t a n h = n
asked-none q t a n h = absurd (false≢true h)

chosen : (x f : Bool) (p n : Plan) → (f ≡ true → x ≡ false) → ((f || native p) && native n) ≡ true → native (if x then p else n) ≡ true
chosen x true p n i h = subst (λ v. native (if v then p else n) ≡ true) (sym (i refl)) h
chosen true false p n i h = (both (native p) (native n) h).0
chosen false false p n i h = (both (native p) (native n) h).1

module _ (r : Rules) (natives : AreNative r) where
  pub runs-native : (p : Plan) (t : TokenKind) (a : State) (e : Ending) (z : State) → native p ≡ true → IsNative a → Runs r p t a e z → IsNative z
  runs-native _ _ _ _ _ h k (does w p t a b e z i j) =
      let c = both (is_native_word w) (native p) h in
      runs-native p t b e z c.1 (native-becomes (after w t a) b i (word-native w t a c.0 k)) j
  runs-native _ _ _ _ _ h k (asks q p n t a b e z i j) =
      runs-native (if answer q t a then p else n) t b e z (chosen (answer q t a) (asks_foreign q) p n (asked-none q t a k.refused) h) (native-becomes a b i k) j
  runs-native _ _ _ _ _ h k (reconstructs p t a b e z i m j) = runs-native p t b e z h (native-moved a b i k) j
  runs-native _ _ _ _ _ h k (adopts g p t a b e z i m j) = runs-native p t b e z h (native-moved a b i k) j
  runs-native _ _ _ _ _ h k (closes_link p t a b e z i m j) = runs-native p t b e z h (native-moved a b i k) j
  runs-native _ _ _ _ _ h k (fosters p t a b c e z i j m) =
      let n = runs-native p t b e c h (native-becomes (record a { fostering = true }) b i (same-native a (record a { fostering = true }) refl refl k)) j in
      native-becomes (record c { fostering = false }) z m (same-native c (record c { fostering = false }) refl refl n)
  runs-native _ _ _ _ _ h k (settles q p t a b e z i j) =
      runs-native (Each a.ledger.kept q p) t b e z h (native-becomes (with_kept [] a) b i (same-native a (with_kept [] a) refl refl k)) j
  runs-native _ _ _ _ _ h k (ends_each q p t a e z j) = runs-native p t a e z (both (native q) (native p) h).1 k j
  runs-native _ _ _ _ _ h k (does_each c cs q p t a b e z i j) =
      runs-native (Each cs q p) t b e z h (runs-native q (Char c) a Over b (both (native q) (native p) h).0 k i) j
  runs-native _ _ _ _ _ h k (stops t a e z i) = native-becomes a z i k
  runs-native _ _ _ _ _ h k (goes_by m t a e z j) = runs-native (r m (symbol_of t)) t a e z (natives m (symbol_of t)) k j

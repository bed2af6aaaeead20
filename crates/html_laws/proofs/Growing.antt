-- Fates that were given stay.
use Rattle.std.proofs.Common.{◌≡◌, true, false, List, [], ◌∷◌, ◌++◌, if◌then◌else◌, append_assoc, append-nil, refl, sym, ◌∙◌, ap, subst}
use Rattle.html_tokens.specs.declared.token.TokenKind.{TokenKind}
use Rattle.html_tokens.specs.declared.token.TokenKind.TheVariants.{Char}
use Rattle.html_ledger.specs.declared.fate.Fate.{Fate}
use Rattle.html_ledger.specs.Symbols.{symbol_of}
use Rattle.html_construction.specs.Plans.{Each, Ending, IsMoved, Over, Plan, Rules, Runs, adopts, asks, closes_link, does, does_each, ends_each, fosters, goes_by, reconstructs, settles, stops}
use Rattle.html_construction.specs.States.{State}
use Rattle.html_construction.specs.Words.{AddMarker, Becomes, BeginOwnPart, ClearTo, ClearToMarker, CloseForm, CloseNamed, CloseThrough, Drop, End, Enter, FramesetOff, Implied, Imply, ImplyHead, ImplyPart, ImplyRoot, ImplyVoid, Insert, InsertAt, InsertCharacter, InsertClosedForm, InsertComment, InsertCommentAt, InsertDoctype, InsertForeign, InsertForeignVoid, InsertForm, InsertHead, InsertListed, InsertPart, InsertReplacement, InsertRoot, InsertVoid, InsertVoidAt, Keep, Leave, MergeIntoBody, MergeIntoRoot, Pop, PopTemplate, PushTemplate, Quirks, ReplaceBody, Reset, Switch, Word, after, answer, with_kept}
use Rattle.html_laws.proofs.Words.{becomes-core}

-- the first of the later fates
abbrev pub Grows : List Fate → List Fate → Type 0
Grows fs gs = (rest : List Fate) × (gs ≡ fs ++ rest)

pub grows-same : (fs gs : List Fate) → gs ≡ fs → Grows fs gs
grows-same fs gs e = ([], e ∙ sym (append-nil fs))

pub grows-then : (fs gs hs : List Fate) → Grows fs gs → Grows gs hs → Grows fs hs
grows-then fs gs hs k m = (k.0 ++ m.0, m.1 ∙ ap (λ v. v ++ m.0) k.1 ∙ append_assoc fs k.0 m.0)

abbrev pub fates : State → List Fate
fates a = a.ledger.fates

pub becomes-fates : (m b : State) → Becomes m b → fates b ≡ fates m
becomes-fates m b k = ap (λ (v : State). fates v) (becomes-core m b k)

moved-fates : (a b : State) → IsMoved a b → fates b ≡ fates a
moved-fates a b k = ap (λ (v : State). fates v) k.rest

word-fates : (w : Word) (t : TokenKind) (a : State) → Grows (fates a) (fates (after w t a))
word-fates (ClearTo c) t a = grows-same (fates a) (fates a) refl
word-fates Pop t a = grows-same (fates a) (fates a) refl
word-fates (CloseThrough g e) t a = grows-same (fates a) (fates a) refl
word-fates CloseNamed t a = grows-same (fates a) (fates a) refl
word-fates (Implied except) t a = grows-same (fates a) (fates a) refl
word-fates AddMarker t a = grows-same (fates a) (fates a) refl
word-fates ClearToMarker t a = grows-same (fates a) (fates a) refl
word-fates Insert t a = (_ ∷ [], refl)
word-fates (InsertAt g) t a = (_ ∷ [], refl)
word-fates InsertPart t a = (_ ∷ [], refl)
word-fates (InsertVoid n) t a = (_ ∷ [], refl)
word-fates (InsertVoidAt n g) t a = (_ ∷ [], refl)
word-fates InsertListed t a = (_ ∷ [], refl)
word-fates InsertHead t a = (_ ∷ [], refl)
word-fates InsertForm t a = (_ ∷ [], refl)
word-fates InsertClosedForm t a = (_ ∷ [], refl)
word-fates CloseForm t a = grows-same (fates a) (fates a) refl
word-fates ReplaceBody t a = (_ ∷ [], refl)
word-fates InsertRoot t a = (_ ∷ [], refl)
word-fates (Imply n) t a = grows-same (fates a) (fates a) refl
word-fates (ImplyPart n) t a = grows-same (fates a) (fates a) refl
word-fates (ImplyVoid n) t a = grows-same (fates a) (fates a) refl
word-fates ImplyHead t a = grows-same (fates a) (fates a) refl
word-fates ImplyRoot t a = grows-same (fates a) (fates a) refl
word-fates InsertComment t a = (_ ∷ [], refl)
word-fates (InsertCommentAt g) t a = (_ ∷ [], refl)
word-fates InsertDoctype t a = (_ ∷ [], refl)
word-fates InsertCharacter t a = (_ ∷ [], refl)
word-fates InsertReplacement t a = (_ ∷ [], refl)
word-fates MergeIntoRoot t a = (_ ∷ [], refl)
word-fates MergeIntoBody t a = (_ ∷ [], refl)
word-fates (Drop cause) t a = (_ ∷ [], refl)
word-fates End t a = (_ ∷ [], refl)
word-fates (Switch m) t a = grows-same (fates a) (fates a) refl
word-fates (Enter m) t a = grows-same (fates a) (fates a) refl
word-fates Leave t a = grows-same (fates a) (fates a) refl
word-fates FramesetOff t a = grows-same (fates a) (fates a) refl
word-fates (Quirks q) t a = grows-same (fates a) (fates a) refl
word-fates Reset t a = grows-same (fates a) (fates a) refl
word-fates (PushTemplate m) t a = grows-same (fates a) (fates a) refl
word-fates PopTemplate t a = grows-same (fates a) (fates a) refl
word-fates (InsertForeign s) t a = (_ ∷ [], refl)
word-fates (InsertForeignVoid s) t a = (_ ∷ [], refl)
word-fates Keep t a = grows-same (fates a) (fates a) refl
word-fates BeginOwnPart t a = grows-same (fates a) (fates a) refl

-- after the same fates, or more
from : (fs gs hs : List Fate) → gs ≡ fs → Grows gs hs → Grows fs hs
from fs gs hs e k = subst (λ v. Grows v hs) e k

module _ (r : Rules) where
  pub runs-fates : (p : Plan) (t : TokenKind) (a : State) (e : Ending) (z : State) → Runs r p t a e z → Grows (fates a) (fates z)
  runs-fates _ _ _ _ _ (does w p t a b e z i k) = grows-then (fates a) (fates (after w t a)) (fates z) (word-fates w t a) (from (fates (after w t a)) (fates b) (fates z) (becomes-fates (after w t a) b i) (runs-fates p t b e z k))
  runs-fates _ _ _ _ _ (asks q p n t a b e z i k) = from (fates a) (fates b) (fates z) (becomes-fates a b i) (runs-fates (if answer q t a then p else n) t b e z k)
  runs-fates _ _ _ _ _ (reconstructs p t a b e z i j k) = from (fates a) (fates b) (fates z) (moved-fates a b i) (runs-fates p t b e z k)
  runs-fates _ _ _ _ _ (adopts g p t a b e z i j k) = from (fates a) (fates b) (fates z) (moved-fates a b i) (runs-fates p t b e z k)
  runs-fates _ _ _ _ _ (closes_link p t a b e z i j k) = from (fates a) (fates b) (fates z) (moved-fates a b i) (runs-fates p t b e z k)
  runs-fates _ _ _ _ _ (fosters p t a b c e z i k j) =
      grows-then (fates a) (fates c) (fates z) (from (fates a) (fates b) (fates c) (becomes-fates (record a { fostering = true }) b i) (runs-fates p t b e c k))
      (grows-same (fates c) (fates z) (becomes-fates (record c { fostering = false }) z j))
  runs-fates _ _ _ _ _ (settles q p t a b e z i k) = from (fates a) (fates b) (fates z) (becomes-fates (with_kept [] a) b i) (runs-fates (Each a.ledger.kept q p) t b e z k)
  runs-fates _ _ _ _ _ (ends_each q p t a e z k) = runs-fates p t a e z k
  runs-fates _ _ _ _ _ (does_each x cs q p t a b e z i k) = grows-then (fates a) (fates b) (fates z) (runs-fates q (Char x) a Over b i) (runs-fates (Each cs q p) t b e z k)
  runs-fates _ _ _ _ _ (stops t a e z i) = grows-same (fates a) (fates z) (becomes-fates a z i)
  runs-fates _ _ _ _ _ (goes_by m t a e z k) = runs-fates (r m (symbol_of t)) t a e z k

-- How many tokens have a fate after each, and which wait.
use Rattle.std.proofs.Common.{◌≡◌, ◌+◌, Bool, true, false, not, cond, List, [], ◌∷◌, refl, sym, ◌∙◌, ap, subst, arith}
use Rattle.std.proofs.lemmas.Bool.{false≢true}
use Rattle.html_tokens.specs.declared.token.TokenKind.{TokenKind}
use Rattle.html_ledger.specs.declared.symbol.Symbol.{Symbol}
use Rattle.html_ledger.specs.declared.symbol.Symbol.TheVariants as symbol
use Rattle.html_ledger.specs.Flags.{may_select}
use Rattle.html_ledger.specs.Symbols.{symbol_of}
use Rattle.html_construction.specs.declared.mode.Mode.{Mode}
use Rattle.html_construction.specs.declared.mode.Mode.TheVariants as mode
use Rattle.html_construction.specs.Modes.{is_of_frames, is_of_selects}
use Rattle.html_construction.specs.Plans.{Do, Plan, Runs}
use Rattle.html_construction.specs.States.{State}
use Rattle.html_construction.specs.Words.{Becomes, Keep, after}
use Rattle.html_modes.specs.Dispatching.{Constructs, Entries, IsEntry, begun, last, next, settled}
use Rattle.html_modes.specs.Guards.{is_table_text}
use Rattle.html_modes.specs.RuleForms.{ending, over}
use Rattle.html_modes.specs.Rules.{plan}
use Rattle.html_modes.specs.RulesInTableText.{in_table_text}
use Rattle.html_laws.specs.Likeness.{core}
use Rattle.html_laws.proofs.Counting.{IsGiven, due, extra, flat-extra, is_char, is_flat, runs-due, total}
use Rattle.html_laws.proofs.Growing.{Grows, becomes-fates, fates, grows-same, grows-then, runs-fates}
use Rattle.html_laws.proofs.Keeping.{keepless, runs-empty, runs-keepless}
use Rattle.html_laws.proofs.Natives.{IsNative, native-becomes}
use Rattle.html_laws.proofs.Refusing.{entries-native, entry-follows, entry-native, native-begun, native_plan, of-entry}
use Rattle.html_construction.proofs.Planned.{followed}
use Rattle.html_laws.proofs.Tables.{in-table-text, plans-due, plans-keepless, table-text-empties}
use Rattle.html_laws.proofs.Words.{becomes-core}

-- code points wait in the mode in table text alone
pub record IsWaiting (a : State) : Type 0 where
  pub none : is_table_text a.mode ≡ false → a.ledger.kept ≡ []

waiting-core : (a b : State) → core a ≡ core b → IsWaiting a → IsWaiting b
waiting-core a b e k = record { none = λ h. ap (λ (v : State). v.ledger.kept) (sym e) ∙ k.none (ap (λ (v : State). is_table_text v.mode) e ∙ h) }

waiting-becomes : (m b : State) → Becomes m b → IsWaiting m → IsWaiting b
waiting-becomes m b i k = waiting-core m b (sym (becomes-core m b i)) k

no-kept : (a : State) → a.ledger.kept ≡ [] → IsWaiting a
no-kept a e = record { none = λ h. e }

only : (m : Mode) → is_table_text m ≡ true → m ≡ mode.InTableText
only mode.InTableText h = refl
only m h = absurd (false≢true h)

-- the mode stays where it is that one
settled-mode : (c : State) → is_table_text c.mode ≡ true → is_table_text (settled c).mode ≡ true
settled-mode c h =
    ap (λ m. is_table_text (cond (cond (is_of_selects m) (not (may_select c.ledger.history)) (cond (is_of_frames m) (not c.ledger.history.frameset) false)) mode.InBody m)) (only c.mode h)

waiting-settled : (c : State) → IsWaiting c → IsWaiting (settled c)
waiting-settled c k = record { none = λ h. by (is_table_text c.mode) refl h }
  where
    by : (b : Bool) → is_table_text c.mode ≡ b → is_table_text (settled c).mode ≡ false → c.ledger.kept ≡ []
    by true e h = absurd (false≢true (sym h ∙ settled-mode c e))
    by false e h = k.none e

-- what waits after an entry: of another token than a code point nothing
record IsLeft (y : Symbol) (z : State) : Type 0 where
  waiting : IsWaiting z
  none : is_char y ≡ false → z.ledger.kept ≡ []

-- after all entries of a token, one more has a fate or is kept, and the fates before are as they were
pub record IsTaken (y : Symbol) (a z : State) : Type 0 where
  pub waiting : IsWaiting z
  pub none : is_char y ≡ false → z.ledger.kept ≡ []
  pub count : total z ≡ total a + 1
  pub grows : Grows (fates a) (fates z)

module _ (t : TokenKind) where
  abbrev y : Symbol
  y = symbol_of t

  -- ONE ENTRY

  entry-given : (o : _) (a z : State) → IsNative a → IsEntry o y t a z → IsGiven true 0 (ending o) a z
  entry-given o a z k e =
      let f = of-entry is_flat a y (λ c. refl) refl (plans-due a.mode y).1 in
      let d = of-entry (due (is_char y) true) a y (λ c. refl) refl (plans-due a.mode y).0 in
      subst (λ n. IsGiven true n (ending o) a z) (no-extra (native_plan a y) f) (runs-due plan plans-due (is_char y) true (native_plan a y) t a (ending o) z refl d (entry-follows o y t a z k.none e))
    where
      no-extra : (p : Plan) → is_flat p ≡ true → extra p ≡ 0
      no-extra p h = flat-extra p h

  entry-left : (o : _) (a z : State) → IsNative a → IsWaiting a → IsEntry o y t a z → IsLeft y z
  entry-left o a z g k e = by (is_table_text a.mode) refl
    where
      kept-on : (s : Symbol) → Runs plan (in_table_text s) t a (ending o) z → is_table_text a.mode ≡ true → is_char s ≡ true → IsWaiting z
      kept-on (symbol.Char c) r h i =
          let f = followed plan (Do Keep over) t a (ending o) z r in
          let l = followed plan over t f.0 (ending o) z f.2 in
          let m : z.mode ≡ a.mode = ap (λ (v : State). v.mode) (becomes-core f.0 z l.1) ∙ ap (λ (v : State). v.mode) (becomes-core (after Keep t a) f.0 f.1) in
          record { none = λ n. absurd (false≢true (sym n ∙ ap is_table_text m ∙ h)) }
      kept-on s r h i = absurd (false≢true i)

      in-text : is_table_text a.mode ≡ true → (c : Bool) → is_char y ≡ c → IsLeft y z
      in-text h true i = record { waiting = kept-on y (subst (λ p. Runs plan p t a (ending o) z) (in-table-text a.mode y h) (e.kept h)) h i; none = λ j. absurd (false≢true (sym j ∙ i)) }
      in-text h false i =
          let n = runs-empty plan plans-keepless (in_table_text y) t a (ending o) z (table-text-empties y i) (subst (λ p. Runs plan p t a (ending o) z) (in-table-text a.mode y h) (e.kept h)) in
          record { waiting = no-kept z n; none = λ j. n }

      by : (b : Bool) → is_table_text a.mode ≡ b → IsLeft y z
      by true h = in-text h (is_char y) refl
      by false h =
          let p = of-entry keepless a y (λ c. refl) refl (plans-keepless a.mode y h) in
          let n = runs-keepless plan plans-keepless (native_plan a y) t a (ending o) z p (k.none h) (entry-follows o y t a z g.none e) in
          record { waiting = no-kept z n; none = λ j. n }

  entry-grows : (o : _) (a z : State) → IsNative a → IsEntry o y t a z → Grows (fates a) (fates z)
  entry-grows o a z g e = runs-fates plan (native_plan a y) t a (ending o) z (entry-follows o y t a z g.none e)

  -- ALL ENTRIES OF A CALL

  total-becomes : (m b : State) → Becomes m b → total b ≡ total m
  total-becomes m b k = ap (λ (v : State). total v) (becomes-core m b k)

  pub entries-taken : (a z : State) → Entries y t a z → IsNative a → IsWaiting a → IsTaken y a z
  entries-taken _ _ (next a b c z i j r) g k =
      let h = native-becomes a b i g in
      let w = waiting-becomes a b i k in
      let n = ((entry-given _ b c h j).again refl).1 in
      let m = total-becomes a b i in
      let f = entries-taken c z r (entry-native y t _ b c h j) (entry-left _ b c h w j).waiting in
      record {
        waiting = f.waiting;
        none = f.none;
        count = (let l = f.count in omega (arith, n, m, l));
        grows = grows-then (fates a) (fates c) (fates z) (subst (λ v. Grows v (fates c)) (becomes-fates a b i) (entry-grows _ b c h j)) f.grows;
      }
  entries-taken _ _ (last a b c z i j e) g k =
      let h = native-becomes a b i g in
      let l = entry-left _ b c h (waiting-becomes a b i k) j in
      let n = (entry-given _ b c h j).over refl in
      let m = total-becomes a b i in
      subst (λ v. IsTaken y a v) (sym e) (record {
        waiting = waiting-settled c l.waiting;
        none = l.none;
        count = omega (arith, n, m);
        grows = subst (λ v. Grows v (fates c)) (becomes-fates a b i) (entry-grows _ b c h j);
      })

-- ALL TOKENS OF A PAGE

waiting-begun : (a : State) → IsWaiting a → IsWaiting (begun a)
waiting-begun a k = record { none = k.none }

pub constructs-grows : (ts : List TokenKind) (a z : State) → IsNative a → IsWaiting a → Constructs ts a z → Grows (fates a) (fates z)
constructs-grows [] a z g k c = grows-same (fates a) (fates z) (sym (ap (λ (v : State). fates v) c))
constructs-grows (t ∷ ts) a z g k c =
    let h = native-begun a g in
    let f = entries-taken t (begun a) c.0 c.1 h (waiting-begun a k) in
    grows-then (fates a) (fates c.0) (fates z) f.grows (constructs-grows ts c.0 z (entries-native (symbol_of t) t (begun a) c.0 c.1 h) f.waiting c.2)

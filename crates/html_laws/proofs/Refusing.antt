-- Where foreign content is refused and is not the context, an entry of a token follows one plan from the state itself.
use Rattle.std.proofs.Common.{◌≡◌, Bool, true, false, cond, if◌then◌else◌, Option, Some, None, refl, sym, ◌∙◌, ap, subst}
use Rattle.html_names.specs.declared.tag.Tag.{Tag}
use Rattle.html_tokens.specs.declared.token.TokenKind.{TokenKind}
use Rattle.html_ledger.specs.declared.fate.Cause.{Cause}
use Rattle.html_ledger.specs.declared.symbol.Symbol.{Symbol}
use Rattle.html_ledger.specs.Flags.{must_drop}
use Rattle.html_construction.specs.declared.mode.Mode.TheVariants as mode
use Rattle.html_construction.specs.Foreign.{adjusted_tag, if_foreign}
use Rattle.html_construction.specs.Plans.{Do, Plan, Runs}
use Rattle.html_construction.specs.States.{State}
use Rattle.html_construction.specs.Words.{Switch}
use Rattle.html_modes.specs.Dispatching.{Entries, IsEntry, begun, is_astray, last, next, settled}
use Rattle.html_modes.specs.Fitting.{is_loose}
use Rattle.html_modes.specs.Foreign.{around_foreign, if_goes}
use Rattle.html_modes.specs.Guards.{is_table_text}
use Rattle.html_modes.specs.RuleForms.{again, ending, ignored}
use Rattle.html_modes.specs.Rules.{plan}
use Rattle.html_laws.proofs.Entering.{entry_by, unless}
use Rattle.html_laws.proofs.Natives.{IsNative, native, native-becomes, runs-native, same-native}
use Rattle.html_laws.proofs.Tables.{plans-native}

-- ONE ENTRY

-- the plan of an entry, where no element of foreign content is open
abbrev pub native_plan : State → Symbol → Plan
native_plan a y = entry_by a y (plan a.mode y)

abbrev no_tag : Option Tag
no_tag = None

cond-none : (b : Bool) → cond b no_tag no_tag ≡ no_tag
cond-none true = refl
cond-none false = refl

none-around : (a : State) (y : Symbol) (t : TokenKind) → a.ledger.history.foreign ≡ false → around_foreign a y t ≡ None
none-around a y t h = ap (λ b. cond (is_loose a.mode) (if_goes a y t (if b then if_foreign (adjusted_tag a) else no_tag)) no_tag) h ∙ cond-none (is_loose a.mode)

pub entry-follows : (o : _) (y : Symbol) (t : TokenKind) (a z : State) → a.ledger.history.foreign ≡ false → IsEntry o y t a z → Runs plan (native_plan a y) t a (ending o) z
entry-follows o y t a z h e = by (is_table_text a.mode) (must_drop a.ledger.history y) (is_astray a y) refl refl refl
  where
    by : (b : Bool) (d : Option Cause) (x : Bool) → is_table_text a.mode ≡ b → must_drop a.ledger.history y ≡ d → is_astray a y ≡ x
        → Runs plan (cond b (plan a.mode y) (unless d (cond x (Do (Switch mode.InBody) again) (plan a.mode y)))) t a (ending o) z
    by true d x i j k = e.kept i
    by false (Some cause) x i j k = e.ignored_by_all cause i j
    by false None true i j k = e.astray i j k
    by false None false i j k = (e.dispatched i j k).by_mode (none-around a y t h)

-- what holds of each plan holds of that of an entry
pub of-entry : (f : Plan → Bool) (a : State) (y : Symbol) → ((c : Cause) → f (ignored c) ≡ true) → f (Do (Switch mode.InBody) again) ≡ true → f (plan a.mode y) ≡ true → f (native_plan a y) ≡ true
of-entry f a y i s k = by (is_table_text a.mode) (must_drop a.ledger.history y) (is_astray a y)
  where
    by : (b : Bool) (d : Option Cause) (x : Bool) → f (cond b (plan a.mode y) (unless d (cond x (Do (Switch mode.InBody) again) (plan a.mode y)))) ≡ true
    by true d x = k
    by false (Some c) x = i c
    by false None true = s
    by false None false = k

pub native-begun : (a : State) → IsNative a → IsNative (begun a)
native-begun a k = same-native a (begun a) refl refl k

native-settled : (a : State) → IsNative a → IsNative (settled a)
native-settled a k = same-native a (settled a) refl refl k

module _ (y : Symbol) (t : TokenKind) where
  pub entry-native : (o : _) (a z : State) → IsNative a → IsEntry o y t a z → IsNative z
  entry-native o a z k e = runs-native plan plans-native (native_plan a y) t a (ending o) z (of-entry native a y (λ c. refl) refl (plans-native a.mode y)) k (entry-follows o y t a z k.none e)

  -- ALL ENTRIES OF A CALL

  pub entries-native : (a z : State) → Entries y t a z → IsNative a → IsNative z
  entries-native _ _ (next a b c z i j r) k = entries-native c z r (entry-native _ b c (native-becomes a b i k) j)
  entries-native _ _ (last a b c z i j e) k = subst IsNative (sym e) (native-settled c (entry-native _ b c (native-becomes a b i k) j))

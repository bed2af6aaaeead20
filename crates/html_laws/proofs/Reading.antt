-- The mode "text" is entered after a start tag of an element whose text is read without tags, and left at the next token but a code point.
use Rattle.std.proofs.Common.{◌≡◌, ◌⊎◌, ℕ, zero, suc, ◌+◌, ◌-◌, Bool, true, false, not, cond, ◌&&◌, ◌||◌, if◌then◌else◌, List, [], ◌∷◌, ◌++◌, drop, length, Option, Some, None, inl, inr, refl, sym, ◌∙◌, ap, subst, length-append, arith}
use Rattle.std.specs.List.{list_all}
use Rattle.std.proofs.lemmas.Bool.{false≢true}
use Rattle.html_names.specs.declared.tag.Tag.{Tag}
use Rattle.html_names.specs.declared.tag.Tag.TheVariants as tag
use Rattle.html_names.specs.Names.{tag_of}
use Rattle.html_tokens.specs.declared.token.TextMode.{TextMode}
use Rattle.html_tokens.specs.declared.token.Token.{Token}
use Rattle.html_tokens.specs.declared.token.TokenKind.{TokenKind}
use Rattle.html_tokens.specs.declared.token.TokenKind.TheVariants as kind
use Rattle.html_tokens.specs.Tokens.{is_data, mode_after_kind, switch_of as first_of, switched}
use Rattle.html_ledger.specs.declared.fate.Cause.{Cause}
use Rattle.html_ledger.specs.declared.fate.Fate.{Fate}
use Rattle.html_ledger.specs.declared.fate.Fate.TheVariants.{Made}
use Rattle.html_ledger.specs.declared.setting.Setting.{Setting}
use Rattle.html_ledger.specs.declared.setting.Setting.TheVariants.{Document, Fragment}
use Rattle.html_ledger.specs.Settings.{is_foreign_context}
use Rattle.html_arena.specs.declared.arena.Limits.{Limits}
use Rattle.html_arena.specs.Tree.{Tree as Nodes}
use Rattle.html_names.specs.Tags.{is_same}
use Rattle.html_tokens.specs.Stream.{Start as TextStart, tokens_of}
use Rattle.html_construction.specs.Beginning.{IsFirst, first_state, first_templates}
use Rattle.html_builder.specs.Built.{IsBuiltByRules}
use Rattle.html_ledger.specs.declared.symbol.Symbol.{Symbol}
use Rattle.html_ledger.specs.declared.symbol.Symbol.TheVariants.{Start, End, Char, Comment, Doctype, Eof}
use Rattle.html_ledger.specs.Flags.{must_drop}
use Rattle.html_ledger.specs.Symbols.{starts, symbol_of}
use Rattle.html_tree.specs.OpenTags.{open_tags}
use Rattle.html_construction.specs.declared.mode.Mode.{Mode}
use Rattle.html_construction.specs.declared.mode.Mode.TheVariants as mode
use Rattle.html_construction.specs.Plans.{Adopt, Again, Ask, By, CloseLink, Do, Each, Ending, Foster, IsMoved, Over, Plan, Reconstruct, Refused, Rules, Runs, Settle, Stop, adopts, asks, closes_link, does, does_each, ends_each, fosters, goes_by, reconstructs, settles, stops}
use Rattle.html_construction.specs.Resetting.{reset_mode}
use Rattle.html_construction.specs.States.{State}
use Rattle.html_construction.specs.Words.{Becomes, Drop, End as Ended, Enter, FramesetOff, Insert, InsertAt, InsertCharacter, Leave, PopTemplate, PushTemplate, Reset, Switch, Word, after, answer, with_kept}
use Rattle.html_construction.proofs.Planned.{followed}
use Rattle.html_modes.specs.Dispatching.{Constructs, Entries, IsEntry, begun, is_astray, is_unfounded, last, next, settled}
use Rattle.html_modes.specs.Guards.{is_table_text}
use Rattle.html_modes.specs.RuleForms.{again, ending, ignored}
use Rattle.html_modes.specs.Rules.{plan}
use Rattle.html_builder.specs.Switches.{switch_of, switches_by}
use Rattle.html_parser.specs.Kinds.{kinds}
use Rattle.html_laws.specs.Likeness.{core}
use Rattle.html_laws.specs.Reads.{ReadsNoTag, is_start}
use Rattle.html_laws.proofs.Beginnings.{first-core, first-native, first-total, first-waiting}
use Rattle.html_laws.proofs.Chains.{both, either, join, not-true, right}
use Rattle.html_laws.proofs.Counting.{is_char, total}
use Rattle.html_laws.proofs.Entering.{unless}
use Rattle.html_laws.proofs.Fating.{IsWaiting, constructs-grows, entries-taken}
use Rattle.html_laws.proofs.Framing.{is_over}
use Rattle.html_laws.proofs.Grounds.{is_inner, push-inner, take-inner}
use Rattle.html_laws.proofs.Growing.{Grows, fates}
use Rattle.html_laws.proofs.Judged.{char-steady}
use Rattle.html_laws.proofs.Judging.{is_calm, is_in_body, is_steady_word, is_text_mode, resets, steady, waits}
use Rattle.html_laws.proofs.Natives.{IsNative, native-becomes}
use Rattle.html_laws.proofs.Outers.{outer_mode, outer_original}
use Rattle.html_laws.proofs.Refusing.{entries-native, entry-follows, entry-native, native-begun, native_plan}
use Rattle.html_laws.proofs.Rooting.{is_late, reset-late}
use Rattle.html_laws.proofs.Tagless.{Said, is_start_kind, is_tagless, tokens-tagless}
use Rattle.html_laws.proofs.Tags.{of-all}
use Rattle.html_laws.proofs.Words.{becomes-core}

-- WHAT A PLAN SAYS

-- after the start tag text is read without tags
abbrev pub says_text : Option TextMode → Bool
says_text None = false
says_text (Some m) = not (is_data m)

abbrev pub reads_text : Tag → Bool
reads_text g = says_text (switch_of g)

abbrev pub is_insert : Word → Bool
is_insert Insert = true
is_insert (InsertAt p) = true
is_insert _ = false

-- the text of the element is read, and the token is done with
abbrev pub opens_text : Plan → Bool
opens_text (Do (Enter m) (Stop Over)) = is_text_mode m
opens_text _ = false

abbrev pub may_read : Mode → Word → Bool
may_read m (Switch n) = not (waits n)
may_read m (Enter n) = is_table_text n && not (waits m)
may_read m Leave = waits m
may_read m Reset = false
may_read m w = true

-- what it pushes onto the stack of template insertion modes
abbrev pub pushes : Word → Bool
pushes (PushTemplate m) = is_inner m
pushes w = true

-- so an entry may end: not in text, but where it began there with a code point; and the mode to come back to is none of text
abbrev pub may_read_end : Bool → Mode → Mode → Ending → Bool
may_read_end b m o e = (not (is_text_mode m) || (b && is_over e)) && (not (waits m) || not (is_text_mode o))

module _ (r : Rules) where
  abbrev pub reading : Bool → ℕ → Symbol → Mode → Mode → Plan → Bool
  reading b n y m o (Do w p) = pushes w && (((is_insert w && not (waits m)) && (opens_text p && starts reads_text y)) || ((resets w && is_calm p) || (may_read m w && reading b n y (outer_mode m o w) (outer_original m o w) p)))
  reading b n y m o (Ask q p d) = reading b n y m o p && reading b n y m o d
  reading b n y m o (Reconstruct p) = reading b n y m o p
  reading b n y m o (Adopt g p) = reading b n y m o p
  reading b n y m o (CloseLink p) = reading b n y m o p
  reading b n y m o (Foster p) = reading b n y m o p
  reading b n y m o (Settle q p) = steady q && reading b n y m o p
  reading b n y m o (Each cs q p) = steady q && reading b n y m o p
  reading b n y m o (Stop e) = may_read_end b m o e
  reading b (suc n) y m o (By k) = reading b n y m o (r k y)
  reading b zero y m o (By k) = false

-- WHAT IS SO

pub record IsReadAt (m o : Mode) (a : State) : Type 0 where
  pub mode_is : a.mode ≡ m
  pub original_is : waits m ≡ true → a.original ≡ o
  pub templates : list_all is_inner a.templates ≡ true

-- a node was made of the last token that has a fate
abbrev pub EndsMade : List Fate → Type 0
EndsMade fs = (us : List Fate) × (d : ℕ) × (fs ≡ us ++ Made d ∷ [])

pub record IsReadEnd (b : Bool) (y : Symbol) (e : Ending) (z : State) : Type 0 where
  pub original : waits z.mode ≡ true → is_text_mode z.original ≡ false
  pub templates : list_all is_inner z.templates ≡ true
  pub text : z.mode ≡ mode.Text → (e ≡ Over) × ((b ≡ true) ⊎ ((starts reads_text y ≡ true) × EndsMade (fates z)))

read-core : (m o : Mode) (a b : State) → core b ≡ core a → IsReadAt m o a → IsReadAt m o b
read-core m o a b e k = record {
  mode_is = ap (λ (v : State). v.mode) e ∙ k.mode_is;
  original_is = λ w. ap (λ (v : State). v.original) e ∙ k.original_is w;
  templates = ap (λ (v : State). list_all is_inner v.templates) e ∙ k.templates;
}

end-core : (b : Bool) (y : Symbol) (d : Ending) (a z : State) → core z ≡ core a → IsReadEnd b y d a → IsReadEnd b y d z
end-core b y d a z e k = record {
  original = λ w. ap (λ (v : State). is_text_mode v.original) e ∙ k.original (sym (ap (λ (v : State). waits v.mode) e) ∙ w);
  templates = ap (λ (v : State). list_all is_inner v.templates) e ∙ k.templates;
  text = λ h. subst (λ fs. (d ≡ Over) × ((b ≡ true) ⊎ ((starts reads_text y ≡ true) × EndsMade fs))) (sym (ap (λ (v : State). fates v) e)) (k.text (sym (ap (λ (v : State). v.mode) e) ∙ h));
}

pushed-inner : (w : Word) (t : TokenKind) (a : State) → pushes w ≡ true → list_all is_inner a.templates ≡ true → list_all is_inner (after w t a).templates ≡ true
pushed-inner (PushTemplate m) t a h k = push-inner a.templates m k h
pushed-inner PopTemplate t a h k = take-inner (length a.templates - 1) a.templates k
pushed-inner w t a h k = k

read-word : (m o : Mode) (w : Word) (t : TokenKind) (a : State) → pushes w ≡ true → may_read m w ≡ true → IsReadAt m o a → IsReadAt (outer_mode m o w) (outer_original m o w) (after w t a)
read-word m o w t a g h k = by w h (pushed-inner w t a g k.templates)
  where
    by : (w : Word) → may_read m w ≡ true → list_all is_inner (after w t a).templates ≡ true → IsReadAt (outer_mode m o w) (outer_original m o w) (after w t a)
    by (Switch n) h s = record { mode_is = refl; original_is = λ x. absurd (false≢true (sym (not-true (waits n) h) ∙ x)); templates = s }
    by (Enter n) h s = record { mode_is = refl; original_is = λ x. k.mode_is; templates = s }
    by Leave h s = record { mode_is = k.original_is h; original_is = λ x. k.original_is h; templates = s }
    by Reset h s = absurd (false≢true h)
    by w h s = record { mode_is = k.mode_is; original_is = k.original_is; templates = s }

read-moved : (m o : Mode) (a b : State) → IsMoved a b → IsReadAt m o a → IsReadAt m o b
read-moved m o a b i k = record {
  mode_is = ap (λ (v : State). v.mode) i.rest ∙ k.mode_is;
  original_is = λ w. ap (λ (v : State). v.original) i.rest ∙ k.original_is w;
  templates = ap (λ (v : State). list_all is_inner v.templates) i.rest ∙ k.templates;
}

text-is : (m : Mode) → is_text_mode m ≡ true → m ≡ mode.Text
text-is mode.Text h = refl
text-is m h = absurd (false≢true h)

read-end : (b : Bool) (y : Symbol) (m o : Mode) (e : Ending) (a : State) → may_read_end b m o e ≡ true → IsReadAt m o a → IsReadEnd b y e a
read-end b y m o e a h k =
    let c = both (not (is_text_mode m) || (b && is_over e)) (not (waits m) || not (is_text_mode o)) h in
    record {
      original = λ w. waited (waits m) (is_text_mode o) (sym (ap waits k.mode_is) ∙ w) c.1 (λ x. ap is_text_mode (k.original_is x));
      templates = k.templates;
      text = λ x. text (is_text_mode m) b e (sym (ap is_text_mode k.mode_is) ∙ ap is_text_mode x) c.0;
    }
  where
    waited : (p q : Bool) → p ≡ true → (not p || not q) ≡ true → (p ≡ true → is_text_mode a.original ≡ q) → is_text_mode a.original ≡ false
    waited true true h k f = absurd (false≢true k)
    waited true false h k f = f h
    waited false q h k f = absurd (false≢true h)

    text : (p b : Bool) (e : Ending) → p ≡ true → (not p || (b && is_over e)) ≡ true → (e ≡ Over) × ((b ≡ true) ⊎ ((starts reads_text y ≡ true) × EndsMade (fates a)))
    text true true Over h k = (refl, inl refl)
    text true true Again h k = absurd (false≢true k)
    text true true (Refused s) h k = absurd (false≢true k)
    text true false e h k = absurd (false≢true k)
    text false b e h k = absurd (false≢true h)

-- RUNS

-- modes and templates as they were
record IsSameModes (a z : State) : Type 0 where
  mode_is : z.mode ≡ a.mode
  original_is : z.original ≡ a.original
  templates_are : z.templates ≡ a.templates

same-modes-then : (a b z : State) → IsSameModes a b → IsSameModes b z → IsSameModes a z
same-modes-then a b z s u = record { mode_is = u.mode_is ∙ s.mode_is; original_is = u.original_is ∙ s.original_is; templates_are = u.templates_are ∙ s.templates_are }

same-modes-core : (a b : State) → core b ≡ core a → IsSameModes a b
same-modes-core a b e = record { mode_is = ap (λ (v : State). v.mode) e; original_is = ap (λ (v : State). v.original) e; templates_are = ap (λ (v : State). v.templates) e }

same-modes-moved : (a b : State) → IsMoved a b → IsSameModes a b
same-modes-moved a b i = record { mode_is = ap (λ (v : State). v.mode) i.rest; original_is = ap (λ (v : State). v.original) i.rest; templates_are = ap (λ (v : State). v.templates) i.rest }

steady-modes : (w : Word) (c : ℕ) (a : State) → is_steady_word w ≡ true → IsSameModes a (after w (kind.Char c) a)
steady-modes InsertCharacter c a h = record { mode_is = refl; original_is = refl; templates_are = refl }
steady-modes (Drop x) c a h = record { mode_is = refl; original_is = refl; templates_are = refl }
steady-modes FramesetOff c a h = record { mode_is = refl; original_is = refl; templates_are = refl }
steady-modes w c a h = absurd (false≢true h)

waits-same : (m : Mode) → is_late m ≡ true → (waits m ≡ false) × (is_text_mode m ≡ false)
waits-same mode.Text h = absurd (false≢true h)
waits-same mode.InTableText h = absurd (false≢true h)
waits-same m h = (refl, refl)

module _ (r : Rules) (quiet : (c : ℕ) → steady (r mode.InBody (Char c)) ≡ true) where
  runs-same-modes : (p : Plan) (c : ℕ) (a : State) (e : Ending) (z : State) → steady p ≡ true → Runs r p (kind.Char c) a e z → IsSameModes a z
  runs-same-modes _ c _ _ _ h (does w p _ a b e z i j) =
      let k = both (is_steady_word w) (steady p) h in
      same-modes-then a (after w (kind.Char c) a) z (steady-modes w c a k.0) (same-modes-then (after w (kind.Char c) a) b z (same-modes-core (after w (kind.Char c) a) b (becomes-core (after w (kind.Char c) a) b i)) (runs-same-modes p c b e z k.1 j))
  runs-same-modes _ c _ _ _ h (asks q p n _ a b e z i j) = same-modes-then a b z (same-modes-core a b (becomes-core a b i)) (runs-same-modes (if answer q (kind.Char c) a then p else n) c b e z (chosen (answer q (kind.Char c) a)) j)
    where
      chosen : (x : Bool) → steady (if x then p else n) ≡ true
      chosen true = (both (steady p) (steady n) h).0
      chosen false = (both (steady p) (steady n) h).1
  runs-same-modes _ c _ _ _ h (reconstructs p _ a b e z i k j) = same-modes-then a b z (same-modes-moved a b i) (runs-same-modes p c b e z h j)
  runs-same-modes _ c _ _ _ h (adopts g p _ a b e z i k j) = absurd (false≢true h)
  runs-same-modes _ c _ _ _ h (closes_link p _ a b e z i k j) = absurd (false≢true h)
  runs-same-modes _ c _ _ _ h (fosters p _ a b d e z i j k) =
      same-modes-then a (record a { fostering = true }) z (record { mode_is = refl; original_is = refl; templates_are = refl })
      (same-modes-then (record a { fostering = true }) b z (same-modes-core (record a { fostering = true }) b (becomes-core (record a { fostering = true }) b i))
      (same-modes-then b d z (runs-same-modes p c b e d h j)
      (same-modes-then d (record d { fostering = false }) z (record { mode_is = refl; original_is = refl; templates_are = refl }) (same-modes-core (record d { fostering = false }) z (becomes-core (record d { fostering = false }) z k)))))
  runs-same-modes _ c _ _ _ h (settles q p _ a b e z i j) = absurd (false≢true h)
  runs-same-modes _ c _ _ _ h (ends_each q p _ a e z j) = absurd (false≢true h)
  runs-same-modes _ c _ _ _ h (does_each d cs q p _ a b e z i j) = absurd (false≢true h)
  runs-same-modes _ c _ _ _ h (stops _ a e z i) = same-modes-core a z (becomes-core a z i)
  runs-same-modes _ c _ _ _ h (goes_by n _ a e z j) = runs-same-modes (r n (Char c)) c a e z (by-body n h) j
    where
      by-body : (n : Mode) → is_in_body n ≡ true → steady (r n (Char c)) ≡ true
      by-body mode.InBody h = quiet c
      by-body n h = absurd (false≢true h)

  -- after the mode was reset
  runs-rest : (p : Plan) (t : TokenKind) (a : State) (e : Ending) (z : State) → is_calm p ≡ true → Runs r p t a e z → IsSameModes a z
  runs-rest (Do Ended p) t a e z h j = (let f = followed r (Do Ended p) t a e z j in
      same-modes-then a (after Ended t a) z (record { mode_is = refl; original_is = refl; templates_are = refl }) (same-modes-then (after Ended t a) f.0 z (same-modes-core (after Ended t a) f.0 (becomes-core (after Ended t a) f.0 f.1)) (runs-rest p t f.0 e z h f.2)))
  runs-rest (Do (Drop c) p) t a e z h j = (let f = followed r (Do (Drop c) p) t a e z j in
      same-modes-then a (after (Drop c) t a) z (record { mode_is = refl; original_is = refl; templates_are = refl }) (same-modes-then (after (Drop c) t a) f.0 z (same-modes-core (after (Drop c) t a) f.0 (becomes-core (after (Drop c) t a) f.0 f.1)) (runs-rest p t f.0 e z h f.2)))
  runs-rest (Stop d) t a e z h j = (let f = followed r (Stop d) t a e z j in same-modes-core a z (becomes-core a z f.1))
  runs-rest p t a e z h j = absurd (false≢true h)

  inner-late : (ms : List Mode) → list_all is_inner ms ≡ true → list_all is_late ms ≡ true
  inner-late [] h = refl
  inner-late (m ∷ ms) h = (let c = both (is_inner m) (list_all is_inner ms) h in join (is_late m) (list_all is_late ms) (late m c.0) (inner-late ms c.1))
    where
      late : (m : Mode) → is_inner m ≡ true → is_late m ≡ true
      late mode.Initial h = absurd (false≢true h)
      late mode.BeforeHtml h = absurd (false≢true h)
      late mode.Text h = absurd (false≢true h)
      late mode.InTableText h = absurd (false≢true h)
      late m h = refl

  reset-read : (w : Word) (b : Bool) (p : Plan) (t : TokenKind) (a c : State) (e : Ending) (z : State) → (resets w && is_calm p) ≡ true → list_all is_inner a.templates ≡ true → Becomes (after w t a) c → Runs r p t c e z → IsReadEnd b (symbol_of t) e z
  reset-read Reset b p t a c e z h k i j =
      let s = same-modes-then (after Reset t a) c z (same-modes-core (after Reset t a) c (becomes-core (after Reset t a) c i)) (runs-rest p t c e z h j) in
      let l = waits-same (reset_mode a.context a.tree.head a.templates (open_tags a.tree)) (reset-late a.context a.tree.head a.templates (open_tags a.tree) (inner-late a.templates k)) in
      record {
        original = λ x. absurd (false≢true (sym (ap waits s.mode_is ∙ l.0) ∙ x));
        templates = ap (list_all is_inner) s.templates_are ∙ k;
        text = λ x. absurd (false≢true (sym (ap is_text_mode s.mode_is ∙ l.1) ∙ ap is_text_mode x));
      }
  reset-read w b p t a c e z h k i j = absurd (false≢true h)

  -- the text of an element begins
  opened-read : (w : Word) (b : Bool) (m o : Mode) (p : Plan) (t : TokenKind) (a c : State) (e : Ending) (z : State) → pushes w ≡ true → (is_insert w && not (waits m)) ≡ true → opens_text p ≡ true → starts reads_text (symbol_of t) ≡ true
      → IsReadAt m o a → Becomes (after w t a) c → Runs r p t c e z → IsReadEnd b (symbol_of t) e z
  opened-read w b m o (Do (Enter n) (Stop Over)) t a c e z g h q u k i j =
      let f = followed r (Do (Enter n) (Stop Over)) t c e z j in
      let d = followed r (Stop Over) t f.0 e z f.2 in
      let v : core z ≡ core (after (Enter n) t c) = becomes-core f.0 z d.1 ∙ becomes-core (after (Enter n) t c) f.0 f.1 in
      let x = becomes-core (after w t a) c i in
      let y = insert-is w h in
      let s = pushed-inner w t a g k.templates in
      record {
        original = λ l. ap (λ (v : State). is_text_mode v.original) v ∙ ap (λ (v : State). is_text_mode v.mode) x ∙ ap is_text_mode (y.0 ∙ k.mode_is) ∙ text-waits m (not-true (waits m) (both (is_insert w) (not (waits m)) h).1);
        templates = ap (λ (v : State). list_all is_inner v.templates) v ∙ ap (λ (v : State). list_all is_inner v.templates) x ∙ s;
        text = λ l. (sym d.0, inr (u, ((y.1).0, (y.1).1, ap (λ (v : State). fates v) v ∙ ap (λ (v : State). fates v) x ∙ (y.1).2)));
      }
    where
      text-waits : (m : Mode) → waits m ≡ false → is_text_mode m ≡ false
      text-waits mode.Text h = absurd (false≢true (sym h))
      text-waits m h = refl

      insert-is : (w : Word) → (is_insert w && not (waits m)) ≡ true → ((after w t a).mode ≡ a.mode) × EndsMade (fates (after w t a))
      insert-is Insert h = (refl, (fates a, length a.tree.tree.labels, refl))
      insert-is (InsertAt p) h = (refl, (fates a, length a.tree.tree.labels, refl))
      insert-is w h = absurd (false≢true (both (is_insert w) (not (waits m)) h).0)
  opened-read w b m o p t a c e z g h q u k i j = absurd (false≢true q)

  pub runs-read : (b : Bool) (n : ℕ) (m o : Mode) (p : Plan) (t : TokenKind) (a : State) (e : Ending) (z : State) → reading r b n (symbol_of t) m o p ≡ true → IsReadAt m o a → Runs r p t a e z → IsReadEnd b (symbol_of t) e z
  runs-read b n m o _ _ _ _ _ h k (does w p t a c e z i j) =
      let x = both (pushes w) _ h in
      elim (either ((is_insert w && not (waits m)) && (opens_text p && starts reads_text (symbol_of t))) _ x.1) [
        | inl u ↦ (let v = both (is_insert w && not (waits m)) (opens_text p && starts reads_text (symbol_of t)) u in let q = both (opens_text p) (starts reads_text (symbol_of t)) v.1 in opened-read w b m o p t a c e z x.0 v.0 q.0 q.1 k i j)
        | inr u ↦ elim (either (resets w && is_calm p) (may_read m w && reading r b n (symbol_of t) (outer_mode m o w) (outer_original m o w) p) u) [
          | inl v ↦ reset-read w b p t a c e z v k.templates i j
          | inr v ↦ (let q = both (may_read m w) (reading r b n (symbol_of t) (outer_mode m o w) (outer_original m o w) p) v in
              runs-read b n (outer_mode m o w) (outer_original m o w) p t c e z q.1 (read-core (outer_mode m o w) (outer_original m o w) (after w t a) c (becomes-core (after w t a) c i) (read-word m o w t a x.0 q.0 k)) j)
        ]
      ]
  runs-read b n m o _ _ _ _ _ h k (asks q p d t a c e z i j) = runs-read b n m o (if answer q t a then p else d) t c e z (chosen (answer q t a)) (read-core m o a c (becomes-core a c i) k) j
    where
      chosen : (x : Bool) → reading r b n (symbol_of t) m o (if x then p else d) ≡ true
      chosen true = (both (reading r b n (symbol_of t) m o p) (reading r b n (symbol_of t) m o d) h).0
      chosen false = (both (reading r b n (symbol_of t) m o p) (reading r b n (symbol_of t) m o d) h).1
  runs-read b n m o _ _ _ _ _ h k (reconstructs p t a c e z i l j) = runs-read b n m o p t c e z h (read-moved m o a c i k) j
  runs-read b n m o _ _ _ _ _ h k (adopts g p t a c e z i l j) = runs-read b n m o p t c e z h (read-moved m o a c i k) j
  runs-read b n m o _ _ _ _ _ h k (closes_link p t a c e z i l j) = runs-read b n m o p t c e z h (read-moved m o a c i k) j
  runs-read b n m o _ _ _ _ _ h k (fosters p t a c d e z i j l) =
      let u = runs-read b n m o p t c e d h (read-core m o (record a { fostering = true }) c (becomes-core (record a { fostering = true }) c i) (record { mode_is = k.mode_is; original_is = k.original_is; templates = k.templates })) j in
      end-core b (symbol_of t) e (record d { fostering = false }) z (becomes-core (record d { fostering = false }) z l) (record { original = u.original; templates = u.templates; text = u.text })
  runs-read b n m o _ _ _ _ _ h k (settles q p t a c e z i j) =
      runs-read b n m o (Each a.ledger.kept q p) t c e z h (read-core m o (with_kept [] a) c (becomes-core (with_kept [] a) c i) (record { mode_is = k.mode_is; original_is = k.original_is; templates = k.templates })) j
  runs-read b n m o _ _ _ _ _ h k (ends_each q p t a e z j) = runs-read b n m o p t a e z (both (steady q) (reading r b n (symbol_of t) m o p) h).1 k j
  runs-read b n m o _ _ _ _ _ h k (does_each x cs q p t a c e z i j) =
      let s = runs-same-modes q x a Over c (both (steady q) (reading r b n (symbol_of t) m o p) h).0 i in
      runs-read b n m o (Each cs q p) t c e z h (record { mode_is = s.mode_is ∙ k.mode_is; original_is = λ w. s.original_is ∙ k.original_is w; templates = ap (list_all is_inner) s.templates_are ∙ k.templates }) j
  runs-read b n m o _ _ _ _ _ h k (stops t a e z i) = read-end b (symbol_of t) m o e z h (read-core m o a z (becomes-core a z i) k)
  runs-read b (suc n) m o _ _ _ _ _ h k (goes_by u t a e z j) = runs-read b n m o (r u (symbol_of t)) t a e z h k j
  runs-read b zero m o _ _ _ _ _ h k (goes_by u t a e z j) = absurd (false≢true h)

-- THE RULES OF EACH MODE

reading-if : (b x : Bool) (y : Symbol) (m o : Mode) (p n : Plan) → reading plan b 4 y m o (if x then p else n) ≡ (if x then reading plan b 4 y m o p else reading plan b 4 y m o n)
reading-if b true y m o p n = refl
reading-if b false y m o p n = refl

reading-if-3 : (b x : Bool) (y : Symbol) (m o : Mode) (p n : Plan) → reading plan b 3 y m o (if x then p else n) ≡ (if x then reading plan b 3 y m o p else reading plan b 3 y m o n)
reading-if-3 b true y m o p n = refl
reading-if-3 b false y m o p n = refl

reading-if-2 : (b x : Bool) (y : Symbol) (m o : Mode) (p n : Plan) → reading plan b 2 y m o (if x then p else n) ≡ (if x then reading plan b 2 y m o p else reading plan b 2 y m o n)
reading-if-2 b true y m o p n = refl
reading-if-2 b false y m o p n = refl

reading-if-1 : (b x : Bool) (y : Symbol) (m o : Mode) (p n : Plan) → reading plan b 1 y m o (if x then p else n) ≡ (if x then reading plan b 1 y m o p else reading plan b 1 y m o n)
reading-if-1 b true y m o p n = refl
reading-if-1 b false y m o p n = refl

if-both : (b : Bool) → (if b then true else true) ≡ true
if-both true = refl
if-both false = refl

ruleset by_code_points = (reading-if, reading-if-3, reading-if-2, reading-if-1, if-both)

reads_initial-start : (g : Tag) → reading plan false 4 (Start g) mode.Initial mode.InBody (plan mode.Initial (Start g)) ≡ true
unfolding plan switch_of
reads_initial-start = of-all (λ g. reading plan false 4 (Start g) mode.Initial mode.InBody (plan mode.Initial (Start g))) refl

reads_initial-end : (g : Tag) → reading plan false 4 (End g) mode.Initial mode.InBody (plan mode.Initial (End g)) ≡ true
unfolding plan switch_of
reads_initial-end = of-all (λ g. reading plan false 4 (End g) mode.Initial mode.InBody (plan mode.Initial (End g))) refl

reads_initial : (y : Symbol) → reading plan false 4 y mode.Initial mode.InBody (plan mode.Initial y) ≡ true
unfolding plan switch_of
reads_initial (Start g) = reads_initial-start g
reads_initial (End g) = reads_initial-end g
reads_initial (Char c) = refl
reads_initial Comment = refl
reads_initial Doctype = refl
reads_initial Eof = refl

reads_beforeHtml-start : (g : Tag) → reading plan false 4 (Start g) mode.BeforeHtml mode.InBody (plan mode.BeforeHtml (Start g)) ≡ true
unfolding plan switch_of
reads_beforeHtml-start = of-all (λ g. reading plan false 4 (Start g) mode.BeforeHtml mode.InBody (plan mode.BeforeHtml (Start g))) refl

reads_beforeHtml-end : (g : Tag) → reading plan false 4 (End g) mode.BeforeHtml mode.InBody (plan mode.BeforeHtml (End g)) ≡ true
unfolding plan switch_of
reads_beforeHtml-end = of-all (λ g. reading plan false 4 (End g) mode.BeforeHtml mode.InBody (plan mode.BeforeHtml (End g))) refl

reads_beforeHtml : (y : Symbol) → reading plan false 4 y mode.BeforeHtml mode.InBody (plan mode.BeforeHtml y) ≡ true
unfolding plan switch_of
reads_beforeHtml (Start g) = reads_beforeHtml-start g
reads_beforeHtml (End g) = reads_beforeHtml-end g
reads_beforeHtml (Char c) = refl
reads_beforeHtml Comment = refl
reads_beforeHtml Doctype = refl
reads_beforeHtml Eof = refl

reads_beforeHead-start : (g : Tag) → reading plan false 4 (Start g) mode.BeforeHead mode.InBody (plan mode.BeforeHead (Start g)) ≡ true
unfolding plan switch_of
reads_beforeHead-start = of-all (λ g. reading plan false 4 (Start g) mode.BeforeHead mode.InBody (plan mode.BeforeHead (Start g))) refl

reads_beforeHead-end : (g : Tag) → reading plan false 4 (End g) mode.BeforeHead mode.InBody (plan mode.BeforeHead (End g)) ≡ true
unfolding plan switch_of
reads_beforeHead-end = of-all (λ g. reading plan false 4 (End g) mode.BeforeHead mode.InBody (plan mode.BeforeHead (End g))) refl

reads_beforeHead : (y : Symbol) → reading plan false 4 y mode.BeforeHead mode.InBody (plan mode.BeforeHead y) ≡ true
unfolding plan switch_of
reads_beforeHead (Start g) = reads_beforeHead-start g
reads_beforeHead (End g) = reads_beforeHead-end g
reads_beforeHead (Char c) = refl
reads_beforeHead Comment = refl
reads_beforeHead Doctype = refl
reads_beforeHead Eof = refl

reads_inHead-start : (g : Tag) → reading plan false 4 (Start g) mode.InHead mode.InBody (plan mode.InHead (Start g)) ≡ true
unfolding plan switch_of
reads_inHead-start = of-all (λ g. reading plan false 4 (Start g) mode.InHead mode.InBody (plan mode.InHead (Start g))) refl

reads_inHead-end : (g : Tag) → reading plan false 4 (End g) mode.InHead mode.InBody (plan mode.InHead (End g)) ≡ true
unfolding plan switch_of
reads_inHead-end = of-all (λ g. reading plan false 4 (End g) mode.InHead mode.InBody (plan mode.InHead (End g))) refl

reads_inHead : (y : Symbol) → reading plan false 4 y mode.InHead mode.InBody (plan mode.InHead y) ≡ true
unfolding plan switch_of
reads_inHead (Start g) = reads_inHead-start g
reads_inHead (End g) = reads_inHead-end g
reads_inHead (Char c) = simp by_code_points refl
reads_inHead Comment = refl
reads_inHead Doctype = refl
reads_inHead Eof = refl

reads_inHeadNoscript-start : (g : Tag) → reading plan false 4 (Start g) mode.InHeadNoscript mode.InBody (plan mode.InHeadNoscript (Start g)) ≡ true
unfolding plan switch_of
reads_inHeadNoscript-start = of-all (λ g. reading plan false 4 (Start g) mode.InHeadNoscript mode.InBody (plan mode.InHeadNoscript (Start g))) refl

reads_inHeadNoscript-end : (g : Tag) → reading plan false 4 (End g) mode.InHeadNoscript mode.InBody (plan mode.InHeadNoscript (End g)) ≡ true
unfolding plan switch_of
reads_inHeadNoscript-end = of-all (λ g. reading plan false 4 (End g) mode.InHeadNoscript mode.InBody (plan mode.InHeadNoscript (End g))) refl

reads_inHeadNoscript : (y : Symbol) → reading plan false 4 y mode.InHeadNoscript mode.InBody (plan mode.InHeadNoscript y) ≡ true
unfolding plan switch_of
reads_inHeadNoscript (Start g) = reads_inHeadNoscript-start g
reads_inHeadNoscript (End g) = reads_inHeadNoscript-end g
reads_inHeadNoscript (Char c) = simp by_code_points refl
reads_inHeadNoscript Comment = refl
reads_inHeadNoscript Doctype = refl
reads_inHeadNoscript Eof = refl

reads_afterHead-start : (g : Tag) → reading plan false 4 (Start g) mode.AfterHead mode.InBody (plan mode.AfterHead (Start g)) ≡ true
unfolding plan switch_of
reads_afterHead-start = of-all (λ g. reading plan false 4 (Start g) mode.AfterHead mode.InBody (plan mode.AfterHead (Start g))) refl

reads_afterHead-end : (g : Tag) → reading plan false 4 (End g) mode.AfterHead mode.InBody (plan mode.AfterHead (End g)) ≡ true
unfolding plan switch_of
reads_afterHead-end = of-all (λ g. reading plan false 4 (End g) mode.AfterHead mode.InBody (plan mode.AfterHead (End g))) refl

reads_afterHead : (y : Symbol) → reading plan false 4 y mode.AfterHead mode.InBody (plan mode.AfterHead y) ≡ true
unfolding plan switch_of
reads_afterHead (Start g) = reads_afterHead-start g
reads_afterHead (End g) = reads_afterHead-end g
reads_afterHead (Char c) = simp by_code_points refl
reads_afterHead Comment = refl
reads_afterHead Doctype = refl
reads_afterHead Eof = refl

reads_inBody-start : (g : Tag) → reading plan false 4 (Start g) mode.InBody mode.InBody (plan mode.InBody (Start g)) ≡ true
unfolding plan switch_of
reads_inBody-start = of-all (λ g. reading plan false 4 (Start g) mode.InBody mode.InBody (plan mode.InBody (Start g))) refl

reads_inBody-end : (g : Tag) → reading plan false 4 (End g) mode.InBody mode.InBody (plan mode.InBody (End g)) ≡ true
unfolding plan switch_of
reads_inBody-end = of-all (λ g. reading plan false 4 (End g) mode.InBody mode.InBody (plan mode.InBody (End g))) refl

reads_inBody : (y : Symbol) → reading plan false 4 y mode.InBody mode.InBody (plan mode.InBody y) ≡ true
unfolding plan switch_of
reads_inBody (Start g) = reads_inBody-start g
reads_inBody (End g) = reads_inBody-end g
reads_inBody (Char c) = simp by_code_points refl
reads_inBody Comment = refl
reads_inBody Doctype = refl
reads_inBody Eof = refl

reads_inTable-start : (g : Tag) → reading plan false 4 (Start g) mode.InTable mode.InBody (plan mode.InTable (Start g)) ≡ true
unfolding plan switch_of
reads_inTable-start = of-all (λ g. reading plan false 4 (Start g) mode.InTable mode.InBody (plan mode.InTable (Start g))) refl

reads_inTable-end : (g : Tag) → reading plan false 4 (End g) mode.InTable mode.InBody (plan mode.InTable (End g)) ≡ true
unfolding plan switch_of
reads_inTable-end = of-all (λ g. reading plan false 4 (End g) mode.InTable mode.InBody (plan mode.InTable (End g))) refl

reads_inTable : (y : Symbol) → reading plan false 4 y mode.InTable mode.InBody (plan mode.InTable y) ≡ true
unfolding plan switch_of
reads_inTable (Start g) = reads_inTable-start g
reads_inTable (End g) = reads_inTable-end g
reads_inTable (Char c) = simp by_code_points refl
reads_inTable Comment = refl
reads_inTable Doctype = refl
reads_inTable Eof = refl

reads_inCaption-start : (g : Tag) → reading plan false 4 (Start g) mode.InCaption mode.InBody (plan mode.InCaption (Start g)) ≡ true
unfolding plan switch_of
reads_inCaption-start = of-all (λ g. reading plan false 4 (Start g) mode.InCaption mode.InBody (plan mode.InCaption (Start g))) refl

reads_inCaption-end : (g : Tag) → reading plan false 4 (End g) mode.InCaption mode.InBody (plan mode.InCaption (End g)) ≡ true
unfolding plan switch_of
reads_inCaption-end = of-all (λ g. reading plan false 4 (End g) mode.InCaption mode.InBody (plan mode.InCaption (End g))) refl

reads_inCaption : (y : Symbol) → reading plan false 4 y mode.InCaption mode.InBody (plan mode.InCaption y) ≡ true
unfolding plan switch_of
reads_inCaption (Start g) = reads_inCaption-start g
reads_inCaption (End g) = reads_inCaption-end g
reads_inCaption (Char c) = simp by_code_points refl
reads_inCaption Comment = refl
reads_inCaption Doctype = refl
reads_inCaption Eof = refl

reads_inColumnGroup-start : (g : Tag) → reading plan false 4 (Start g) mode.InColumnGroup mode.InBody (plan mode.InColumnGroup (Start g)) ≡ true
unfolding plan switch_of
reads_inColumnGroup-start = of-all (λ g. reading plan false 4 (Start g) mode.InColumnGroup mode.InBody (plan mode.InColumnGroup (Start g))) refl

reads_inColumnGroup-end : (g : Tag) → reading plan false 4 (End g) mode.InColumnGroup mode.InBody (plan mode.InColumnGroup (End g)) ≡ true
unfolding plan switch_of
reads_inColumnGroup-end = of-all (λ g. reading plan false 4 (End g) mode.InColumnGroup mode.InBody (plan mode.InColumnGroup (End g))) refl

reads_inColumnGroup : (y : Symbol) → reading plan false 4 y mode.InColumnGroup mode.InBody (plan mode.InColumnGroup y) ≡ true
unfolding plan switch_of
reads_inColumnGroup (Start g) = reads_inColumnGroup-start g
reads_inColumnGroup (End g) = reads_inColumnGroup-end g
reads_inColumnGroup (Char c) = simp by_code_points refl
reads_inColumnGroup Comment = refl
reads_inColumnGroup Doctype = refl
reads_inColumnGroup Eof = refl

reads_inTableBody-start : (g : Tag) → reading plan false 4 (Start g) mode.InTableBody mode.InBody (plan mode.InTableBody (Start g)) ≡ true
unfolding plan switch_of
reads_inTableBody-start = of-all (λ g. reading plan false 4 (Start g) mode.InTableBody mode.InBody (plan mode.InTableBody (Start g))) refl

reads_inTableBody-end : (g : Tag) → reading plan false 4 (End g) mode.InTableBody mode.InBody (plan mode.InTableBody (End g)) ≡ true
unfolding plan switch_of
reads_inTableBody-end = of-all (λ g. reading plan false 4 (End g) mode.InTableBody mode.InBody (plan mode.InTableBody (End g))) refl

reads_inTableBody : (y : Symbol) → reading plan false 4 y mode.InTableBody mode.InBody (plan mode.InTableBody y) ≡ true
unfolding plan switch_of
reads_inTableBody (Start g) = reads_inTableBody-start g
reads_inTableBody (End g) = reads_inTableBody-end g
reads_inTableBody (Char c) = simp by_code_points refl
reads_inTableBody Comment = refl
reads_inTableBody Doctype = refl
reads_inTableBody Eof = refl

reads_inRow-start : (g : Tag) → reading plan false 4 (Start g) mode.InRow mode.InBody (plan mode.InRow (Start g)) ≡ true
unfolding plan switch_of
reads_inRow-start = of-all (λ g. reading plan false 4 (Start g) mode.InRow mode.InBody (plan mode.InRow (Start g))) refl

reads_inRow-end : (g : Tag) → reading plan false 4 (End g) mode.InRow mode.InBody (plan mode.InRow (End g)) ≡ true
unfolding plan switch_of
reads_inRow-end = of-all (λ g. reading plan false 4 (End g) mode.InRow mode.InBody (plan mode.InRow (End g))) refl

reads_inRow : (y : Symbol) → reading plan false 4 y mode.InRow mode.InBody (plan mode.InRow y) ≡ true
unfolding plan switch_of
reads_inRow (Start g) = reads_inRow-start g
reads_inRow (End g) = reads_inRow-end g
reads_inRow (Char c) = simp by_code_points refl
reads_inRow Comment = refl
reads_inRow Doctype = refl
reads_inRow Eof = refl

reads_inCell-start : (g : Tag) → reading plan false 4 (Start g) mode.InCell mode.InBody (plan mode.InCell (Start g)) ≡ true
unfolding plan switch_of
reads_inCell-start = of-all (λ g. reading plan false 4 (Start g) mode.InCell mode.InBody (plan mode.InCell (Start g))) refl

reads_inCell-end : (g : Tag) → reading plan false 4 (End g) mode.InCell mode.InBody (plan mode.InCell (End g)) ≡ true
unfolding plan switch_of
reads_inCell-end = of-all (λ g. reading plan false 4 (End g) mode.InCell mode.InBody (plan mode.InCell (End g))) refl

reads_inCell : (y : Symbol) → reading plan false 4 y mode.InCell mode.InBody (plan mode.InCell y) ≡ true
unfolding plan switch_of
reads_inCell (Start g) = reads_inCell-start g
reads_inCell (End g) = reads_inCell-end g
reads_inCell (Char c) = simp by_code_points refl
reads_inCell Comment = refl
reads_inCell Doctype = refl
reads_inCell Eof = refl

reads_inSelect-start : (g : Tag) → reading plan false 4 (Start g) mode.InSelect mode.InBody (plan mode.InSelect (Start g)) ≡ true
unfolding plan switch_of
reads_inSelect-start = of-all (λ g. reading plan false 4 (Start g) mode.InSelect mode.InBody (plan mode.InSelect (Start g))) refl

reads_inSelect-end : (g : Tag) → reading plan false 4 (End g) mode.InSelect mode.InBody (plan mode.InSelect (End g)) ≡ true
unfolding plan switch_of
reads_inSelect-end = of-all (λ g. reading plan false 4 (End g) mode.InSelect mode.InBody (plan mode.InSelect (End g))) refl

reads_inSelect : (y : Symbol) → reading plan false 4 y mode.InSelect mode.InBody (plan mode.InSelect y) ≡ true
unfolding plan switch_of
reads_inSelect (Start g) = reads_inSelect-start g
reads_inSelect (End g) = reads_inSelect-end g
reads_inSelect (Char c) = simp by_code_points refl
reads_inSelect Comment = refl
reads_inSelect Doctype = refl
reads_inSelect Eof = refl

reads_inSelectInTable-start : (g : Tag) → reading plan false 4 (Start g) mode.InSelectInTable mode.InBody (plan mode.InSelectInTable (Start g)) ≡ true
unfolding plan switch_of
reads_inSelectInTable-start = of-all (λ g. reading plan false 4 (Start g) mode.InSelectInTable mode.InBody (plan mode.InSelectInTable (Start g))) refl

reads_inSelectInTable-end : (g : Tag) → reading plan false 4 (End g) mode.InSelectInTable mode.InBody (plan mode.InSelectInTable (End g)) ≡ true
unfolding plan switch_of
reads_inSelectInTable-end = of-all (λ g. reading plan false 4 (End g) mode.InSelectInTable mode.InBody (plan mode.InSelectInTable (End g))) refl

reads_inSelectInTable : (y : Symbol) → reading plan false 4 y mode.InSelectInTable mode.InBody (plan mode.InSelectInTable y) ≡ true
unfolding plan switch_of
reads_inSelectInTable (Start g) = reads_inSelectInTable-start g
reads_inSelectInTable (End g) = reads_inSelectInTable-end g
reads_inSelectInTable (Char c) = simp by_code_points refl
reads_inSelectInTable Comment = refl
reads_inSelectInTable Doctype = refl
reads_inSelectInTable Eof = refl

reads_inTemplate-start : (g : Tag) → reading plan false 4 (Start g) mode.InTemplate mode.InBody (plan mode.InTemplate (Start g)) ≡ true
unfolding plan switch_of
reads_inTemplate-start = of-all (λ g. reading plan false 4 (Start g) mode.InTemplate mode.InBody (plan mode.InTemplate (Start g))) refl

reads_inTemplate-end : (g : Tag) → reading plan false 4 (End g) mode.InTemplate mode.InBody (plan mode.InTemplate (End g)) ≡ true
unfolding plan switch_of
reads_inTemplate-end = of-all (λ g. reading plan false 4 (End g) mode.InTemplate mode.InBody (plan mode.InTemplate (End g))) refl

reads_inTemplate : (y : Symbol) → reading plan false 4 y mode.InTemplate mode.InBody (plan mode.InTemplate y) ≡ true
unfolding plan switch_of
reads_inTemplate (Start g) = reads_inTemplate-start g
reads_inTemplate (End g) = reads_inTemplate-end g
reads_inTemplate (Char c) = simp by_code_points refl
reads_inTemplate Comment = refl
reads_inTemplate Doctype = refl
reads_inTemplate Eof = refl

reads_afterBody-start : (g : Tag) → reading plan false 4 (Start g) mode.AfterBody mode.InBody (plan mode.AfterBody (Start g)) ≡ true
unfolding plan switch_of
reads_afterBody-start = of-all (λ g. reading plan false 4 (Start g) mode.AfterBody mode.InBody (plan mode.AfterBody (Start g))) refl

reads_afterBody-end : (g : Tag) → reading plan false 4 (End g) mode.AfterBody mode.InBody (plan mode.AfterBody (End g)) ≡ true
unfolding plan switch_of
reads_afterBody-end = of-all (λ g. reading plan false 4 (End g) mode.AfterBody mode.InBody (plan mode.AfterBody (End g))) refl

reads_afterBody : (y : Symbol) → reading plan false 4 y mode.AfterBody mode.InBody (plan mode.AfterBody y) ≡ true
unfolding plan switch_of
reads_afterBody (Start g) = reads_afterBody-start g
reads_afterBody (End g) = reads_afterBody-end g
reads_afterBody (Char c) = simp by_code_points refl
reads_afterBody Comment = refl
reads_afterBody Doctype = refl
reads_afterBody Eof = refl

reads_inFrameset-start : (g : Tag) → reading plan false 4 (Start g) mode.InFrameset mode.InBody (plan mode.InFrameset (Start g)) ≡ true
unfolding plan switch_of
reads_inFrameset-start = of-all (λ g. reading plan false 4 (Start g) mode.InFrameset mode.InBody (plan mode.InFrameset (Start g))) refl

reads_inFrameset-end : (g : Tag) → reading plan false 4 (End g) mode.InFrameset mode.InBody (plan mode.InFrameset (End g)) ≡ true
unfolding plan switch_of
reads_inFrameset-end = of-all (λ g. reading plan false 4 (End g) mode.InFrameset mode.InBody (plan mode.InFrameset (End g))) refl

reads_inFrameset : (y : Symbol) → reading plan false 4 y mode.InFrameset mode.InBody (plan mode.InFrameset y) ≡ true
unfolding plan switch_of
reads_inFrameset (Start g) = reads_inFrameset-start g
reads_inFrameset (End g) = reads_inFrameset-end g
reads_inFrameset (Char c) = simp by_code_points refl
reads_inFrameset Comment = refl
reads_inFrameset Doctype = refl
reads_inFrameset Eof = refl

reads_afterFrameset-start : (g : Tag) → reading plan false 4 (Start g) mode.AfterFrameset mode.InBody (plan mode.AfterFrameset (Start g)) ≡ true
unfolding plan switch_of
reads_afterFrameset-start = of-all (λ g. reading plan false 4 (Start g) mode.AfterFrameset mode.InBody (plan mode.AfterFrameset (Start g))) refl

reads_afterFrameset-end : (g : Tag) → reading plan false 4 (End g) mode.AfterFrameset mode.InBody (plan mode.AfterFrameset (End g)) ≡ true
unfolding plan switch_of
reads_afterFrameset-end = of-all (λ g. reading plan false 4 (End g) mode.AfterFrameset mode.InBody (plan mode.AfterFrameset (End g))) refl

reads_afterFrameset : (y : Symbol) → reading plan false 4 y mode.AfterFrameset mode.InBody (plan mode.AfterFrameset y) ≡ true
unfolding plan switch_of
reads_afterFrameset (Start g) = reads_afterFrameset-start g
reads_afterFrameset (End g) = reads_afterFrameset-end g
reads_afterFrameset (Char c) = simp by_code_points refl
reads_afterFrameset Comment = refl
reads_afterFrameset Doctype = refl
reads_afterFrameset Eof = refl

reads_afterAfterBody-start : (g : Tag) → reading plan false 4 (Start g) mode.AfterAfterBody mode.InBody (plan mode.AfterAfterBody (Start g)) ≡ true
unfolding plan switch_of
reads_afterAfterBody-start = of-all (λ g. reading plan false 4 (Start g) mode.AfterAfterBody mode.InBody (plan mode.AfterAfterBody (Start g))) refl

reads_afterAfterBody-end : (g : Tag) → reading plan false 4 (End g) mode.AfterAfterBody mode.InBody (plan mode.AfterAfterBody (End g)) ≡ true
unfolding plan switch_of
reads_afterAfterBody-end = of-all (λ g. reading plan false 4 (End g) mode.AfterAfterBody mode.InBody (plan mode.AfterAfterBody (End g))) refl

reads_afterAfterBody : (y : Symbol) → reading plan false 4 y mode.AfterAfterBody mode.InBody (plan mode.AfterAfterBody y) ≡ true
unfolding plan switch_of
reads_afterAfterBody (Start g) = reads_afterAfterBody-start g
reads_afterAfterBody (End g) = reads_afterAfterBody-end g
reads_afterAfterBody (Char c) = simp by_code_points refl
reads_afterAfterBody Comment = refl
reads_afterAfterBody Doctype = refl
reads_afterAfterBody Eof = refl

reads_afterAfterFrameset-start : (g : Tag) → reading plan false 4 (Start g) mode.AfterAfterFrameset mode.InBody (plan mode.AfterAfterFrameset (Start g)) ≡ true
unfolding plan switch_of
reads_afterAfterFrameset-start = of-all (λ g. reading plan false 4 (Start g) mode.AfterAfterFrameset mode.InBody (plan mode.AfterAfterFrameset (Start g))) refl

reads_afterAfterFrameset-end : (g : Tag) → reading plan false 4 (End g) mode.AfterAfterFrameset mode.InBody (plan mode.AfterAfterFrameset (End g)) ≡ true
unfolding plan switch_of
reads_afterAfterFrameset-end = of-all (λ g. reading plan false 4 (End g) mode.AfterAfterFrameset mode.InBody (plan mode.AfterAfterFrameset (End g))) refl

reads_afterAfterFrameset : (y : Symbol) → reading plan false 4 y mode.AfterAfterFrameset mode.InBody (plan mode.AfterAfterFrameset y) ≡ true
unfolding plan switch_of
reads_afterAfterFrameset (Start g) = reads_afterAfterFrameset-start g
reads_afterAfterFrameset (End g) = reads_afterAfterFrameset-end g
reads_afterAfterFrameset (Char c) = simp by_code_points refl
reads_afterAfterFrameset Comment = refl
reads_afterAfterFrameset Doctype = refl
reads_afterAfterFrameset Eof = refl

reads_text_plan : (o : Mode) (y : Symbol) → is_text_mode o ≡ false → reading plan (is_char y) 4 y mode.Text o (plan mode.Text y) ≡ true
unfolding plan switch_of
reads_text_plan o (Start g) h = rw h (right (not (waits o)) true refl)
reads_text_plan o (End g) h = rw h (right (not (waits o)) true refl)
reads_text_plan o (Char c) h = simp (by_code_points, h) refl
reads_text_plan o Comment h = rw h (right (not (waits o)) true refl)
reads_text_plan o Doctype h = rw h (right (not (waits o)) true refl)
reads_text_plan o Eof h = rw h (right (not (waits o)) true refl)

-- twice the same
twice : (b : Bool) → ((b || true) && (b || true)) ≡ true
twice true = refl
twice false = refl

reads_table_text : (o : Mode) (y : Symbol) → is_text_mode o ≡ false → reading plan false 4 y mode.InTableText o (plan mode.InTableText y) ≡ true
unfolding plan switch_of
reads_table_text o (Start g) h = rw h (twice (not (waits o)))
reads_table_text o (End g) h = rw h (twice (not (waits o)))
reads_table_text o (Char c) h = rw h refl
reads_table_text o Comment h = rw h (twice (not (waits o)))
reads_table_text o Doctype h = rw h (twice (not (waits o)))
reads_table_text o Eof h = rw h (twice (not (waits o)))

reads-plan : (m o : Mode) (y : Symbol) → (waits m ≡ true → is_text_mode o ≡ false) → reading plan (is_text_mode m && is_char y) 4 y m (cond (waits m) o mode.InBody) (plan m y) ≡ true
reads-plan mode.Text o y h = reads_text_plan o y (h refl)
reads-plan mode.InTableText o y h = reads_table_text o y (h refl)
reads-plan mode.Initial o y h = reads_initial y
reads-plan mode.BeforeHtml o y h = reads_beforeHtml y
reads-plan mode.BeforeHead o y h = reads_beforeHead y
reads-plan mode.InHead o y h = reads_inHead y
reads-plan mode.InHeadNoscript o y h = reads_inHeadNoscript y
reads-plan mode.AfterHead o y h = reads_afterHead y
reads-plan mode.InBody o y h = reads_inBody y
reads-plan mode.InTable o y h = reads_inTable y
reads-plan mode.InCaption o y h = reads_inCaption y
reads-plan mode.InColumnGroup o y h = reads_inColumnGroup y
reads-plan mode.InTableBody o y h = reads_inTableBody y
reads-plan mode.InRow o y h = reads_inRow y
reads-plan mode.InCell o y h = reads_inCell y
reads-plan mode.InSelect o y h = reads_inSelect y
reads-plan mode.InSelectInTable o y h = reads_inSelectInTable y
reads-plan mode.InTemplate o y h = reads_inTemplate y
reads-plan mode.AfterBody o y h = reads_afterBody y
reads-plan mode.InFrameset o y h = reads_inFrameset y
reads-plan mode.AfterFrameset o y h = reads_afterFrameset y
reads-plan mode.AfterAfterBody o y h = reads_afterAfterBody y
reads-plan mode.AfterAfterFrameset o y h = reads_afterAfterFrameset y

-- a token that is ignored in each mode is a code point
dropped-char : (h : _) (y : Symbol) (c : Cause) → must_drop h y ≡ Some c → is_char y ≡ true
dropped-char h (Char x) c e = refl
dropped-char h (Start g) c e = absurd (let k = e in cc)
dropped-char h (End g) c e = absurd (let k = e in cc)
dropped-char h Comment c e = absurd (let k = e in cc)
dropped-char h Doctype c e = absurd (let k = e in cc)
dropped-char h Eof c e = absurd (let k = e in cc)

-- WHAT IS SO BETWEEN ENTRIES

pub record IsRead (a : State) : Type 0 where
  pub original : waits a.mode ≡ true → is_text_mode a.original ≡ false
  pub templates : list_all is_inner a.templates ≡ true

read-as : (a b : State) → core b ≡ core a → IsRead a → IsRead b
read-as a b e k = record {
  original = λ w. ap (λ (v : State). is_text_mode v.original) e ∙ k.original (sym (ap (λ (v : State). waits v.mode) e) ∙ w);
  templates = ap (λ (v : State). list_all is_inner v.templates) e ∙ k.templates;
}

-- what a plan that ignores the token, or goes on in body, says
ignored-reads : (m o : Mode) (y : Symbol) (c : Cause) → is_char y ≡ true → (waits m ≡ true → is_text_mode o ≡ false) → reading plan (is_text_mode m && is_char y) 4 y m (cond (waits m) o mode.InBody) (ignored c) ≡ true
ignored-reads m o y c h f = by (is_text_mode m) (is_char y) (waits m) h f
  where
    by : (p q w : Bool) → q ≡ true → (w ≡ true → is_text_mode o ≡ false) → ((not p || ((p && q) && true)) && (not w || not (is_text_mode (cond w o mode.InBody)))) ≡ true
    by true true true h f = ap not (f refl)
    by true true false h f = refl
    by false q true h f = ap not (f refl)
    by false q false h f = refl
    by true false w h f = absurd (false≢true h)

module _ (t : TokenKind) where
  abbrev y : Symbol
  y = symbol_of t

  entry-reads : (a : State) → IsRead a → reading plan (is_text_mode a.mode && is_char y) 4 y a.mode (cond (waits a.mode) a.original mode.InBody) (native_plan a y) ≡ true
  entry-reads a k = by (is_table_text a.mode) (must_drop a.ledger.history y) (is_astray a y) refl
    where
      by : (b : Bool) (d : Option Cause) (x : Bool) → must_drop a.ledger.history y ≡ d → reading plan (is_text_mode a.mode && is_char y) 4 y a.mode (cond (waits a.mode) a.original mode.InBody) (cond b (plan a.mode y) (unless d (cond x (Do (Switch mode.InBody) again) (plan a.mode y)))) ≡ true
      by true d x e = reads-plan a.mode a.original y k.original
      by false (Some c) x e = ignored-reads a.mode a.original y c (dropped-char a.ledger.history y c e) k.original
      by false None true e = refl
      by false None false e = reads-plan a.mode a.original y k.original

  entry-read : (o : _) (a z : State) → a.ledger.history.foreign ≡ false → IsRead a → IsEntry o y t a z → IsReadEnd (is_text_mode a.mode && is_char y) y (ending o) z
  entry-read o a z n k e = runs-read plan char-steady (is_text_mode a.mode && is_char y) 4 a.mode (cond (waits a.mode) a.original mode.InBody) (native_plan a y) t a (ending o) z (entry-reads a k)
      (record { mode_is = refl; original_is = λ w. sym (ap (λ b. cond b a.original mode.InBody) w); templates = k.templates }) (entry-follows o y t a z n e)

  -- after all entries of a call: in text where it began there, with a code point, or by the element of a start tag
  pub record IsReadOn (a z : State) : Type 0 where
    pub read : IsRead z
    pub text : z.mode ≡ mode.Text → ((a.mode ≡ mode.Text) × (is_char y ≡ true)) ⊎ ((starts reads_text y ≡ true) × EndsMade (fates z))

  settled-read : (c : State) → IsRead c → IsRead (settled c)
  settled-read c k = by (is_unfounded c)
    where
      by : (b : Bool) → IsRead (record c { mode = cond b mode.InBody c.mode })
      by true = record { original = λ w. absurd (false≢true w); templates = k.templates }
      by false = record { original = k.original; templates = k.templates }

  settled-text : (c : State) → (settled c).mode ≡ mode.Text → c.mode ≡ mode.Text
  settled-text c = by (is_unfounded c)
    where
      by : (b : Bool) → cond b mode.InBody c.mode ≡ mode.Text → c.mode ≡ mode.Text
      by true e = absurd (false≢true (ap is_text_mode e))
      by false e = e

  entries-read : (a z : State) → Entries y t a z → IsNative a → IsRead a → IsReadOn a z
  entries-read _ _ (next a b c z i j r) g k =
      let h = native-becomes a b i g in
      let e = entry-read _ b c h.none (read-as a b (becomes-core a b i) k) j in
      let f = entries-read c z r (entry-native y t _ b c h j) (record { original = e.original; templates = e.templates }) in
      record {
        read = f.read;
        text = λ x. elim (f.text x) [ inl u ↦ absurd (false≢true (ap is_over (e.text u.0).0)) | inr u ↦ inr u ];
      }
  entries-read _ _ (last a b c z i j q) g k =
      let h = native-becomes a b i g in
      let e = entry-read _ b c h.none (read-as a b (becomes-core a b i) k) j in
      subst (IsReadOn a) (sym q) (record {
        read = settled-read c (record { original = e.original; templates = e.templates });
        text = λ x. elim (e.text (settled-text c x)).1 [
          | inl u ↦ (let v = both (is_text_mode b.mode) (is_char y) u in inl (sym (ap (λ (v : State). v.mode) (becomes-core a b i)) ∙ text-is b.mode v.0, v.1))
          | inr u ↦ inr u
        ];
      })

-- A PAGE

-- the text of a token that is no code point, and is in the text of an element
drop-at : (us : List Fate) (f : Fate) (fs : List Fate) (i : ℕ) → length us ≡ i → drop i ((us ++ f ∷ []) ++ fs) ≡ f ∷ fs
drop-at us f fs i e = ap (λ n. drop n ((us ++ f ∷ []) ++ fs)) (sym e) ∙ at us
  where
    at : (us : List Fate) → drop (length us) ((us ++ f ∷ []) ++ fs) ≡ f ∷ fs
    at [] = refl
    at (u ∷ us) = at us

-- what is said after the next tokens
said-next : (t : TokenKind) (ts : List TokenKind) (fs : List Fate) → drop 1 (switches_by (t ∷ ts) fs) ≡ switches_by ts (drop 1 fs)
said-next t ts [] = refl
said-next t ts (f ∷ fs) = refl

drop-next : (i : ℕ) (fs : List Fate) → drop 1 (drop i fs) ≡ drop (suc i) fs
drop-next zero [] = refl
drop-next zero (f ∷ fs) = refl
drop-next (suc i) [] = refl
drop-next (suc i) (f ∷ fs) = drop-next i fs

-- text without tags goes on after a code point
char-data : (k : TokenKind) (o : Option TextMode) (m : TextMode) → is_char (symbol_of k) ≡ true → is_data m ≡ false → is_data (mode_after_kind k o m) ≡ false
char-data (kind.Char c) None m h d = d
char-data (kind.Char c) (Some x) m h d = by (is_data x)
  where
    by : (b : Bool) → is_data (cond b (switched (Some x) m) m) ≡ false
    by true = ap (λ b. is_data (cond b x m)) d ∙ d
    by false = d
char-data (kind.Start n q s) o m h d = absurd (false≢true h)
char-data (kind.End n) o m h d = absurd (false≢true h)
char-data (kind.Comment x) o m h d = absurd (false≢true h)
char-data (kind.Doctype n p s f) o m h d = absurd (false≢true h)
char-data kind.Eof o m h d = absurd (false≢true h)

-- and begins after the start tag of such an element
start-data : (k : TokenKind) (d : ℕ) (ks : List TokenKind) (fs : List Fate) (m : TextMode) → starts reads_text (symbol_of k) ≡ true → is_data (mode_after_kind k (first_of (switches_by (k ∷ ks) (Made d ∷ fs))) m) ≡ false
start-data (kind.Start name attrs self_closing) d ks fs m h = by (switch_of (tag_of name)) h
  where
    by : (o : Option TextMode) → says_text o ≡ true → is_data (switched o m) ≡ false
    by None h = absurd (false≢true h)
    by (Some x) h = at (is_data m) refl
      where
        at : (b : Bool) → is_data m ≡ b → is_data (cond b x m) ≡ false
        at true e = not-true (is_data x) h
        at false e = e
start-data (kind.End n) d ks fs m h = absurd (false≢true h)
start-data (kind.Char c) d ks fs m h = absurd (false≢true h)
start-data (kind.Comment x) d ks fs m h = absurd (false≢true h)
start-data (kind.Doctype n p s f) d ks fs m h = absurd (false≢true h)
start-data kind.Eof d ks fs m h = absurd (false≢true h)

tag-start : (k : TokenKind) → is_start (symbol_of k) ≡ is_start_kind k
tag-start (kind.Start n q s) = refl
tag-start (kind.End n) = refl
tag-start (kind.Char c) = refl
tag-start (kind.Comment x) = refl
tag-start (kind.Doctype n p s f) = refl
tag-start kind.Eof = refl

start-no-char : (y : Symbol) → starts reads_text y ≡ true → is_char y ≡ false
start-no-char (Start g) h = refl
start-no-char y h = absurd (false≢true h)

pub reads-no-tag : (ts : List Token) (m : TextMode) (i : ℕ) (a z : State) (c : Constructs (kinds ts) a z) → is_tagless m ts (switches_by (kinds ts) (drop i (fates z))) ≡ true → total a ≡ i → IsNative a → IsWaiting a → IsRead a → (a.mode ≡ mode.Text → is_data m ≡ false)
    → ReadsNoTag (kinds ts) a z c
reads-no-tag [] m i a z c h n g w k d = tt
reads-no-tag (t ∷ ts) m i a z c h n g w k d =
    let x = both (is_data m || not (is_start_kind t.kind)) (is_tagless (mode_after_kind t.kind (first_of said) m) ts (drop 1 said)) h in
    let b = native-begun a g in
    let f = entries-taken t.kind (begun a) c.0 c.1 b (record { none = w.none }) in
    let r = entries-read t.kind (begun a) c.0 c.1 b (record { original = k.original; templates = k.templates }) in (
      (λ e. tag-start t.kind ∙ not-true (is_start_kind t.kind) (data-or (is_data m) (d e) x.0)),
      reads-no-tag ts (mode_after_kind t.kind (first_of said) m) (suc i) c.0 z c.2
          (subst (λ v. is_tagless (mode_after_kind t.kind (first_of said) m) ts v ≡ true) (said-next t.kind (kinds ts) (drop i (fates z)) ∙ ap (switches_by (kinds ts)) (drop-next i (fates z))) x.1)
          (let u = f.count in omega (arith, u, n)) (entries-native (symbol_of t.kind) t.kind (begun a) c.0 c.1 b) f.waiting r.read
          (λ e. elim (r.text e) [
            | inl u ↦ char-data t.kind (first_of said) m u.1 (d u.0)
            | inr u ↦ made-data f.count f.none (constructs-grows (kinds ts) c.0 z (entries-native (symbol_of t.kind) t.kind (begun a) c.0 c.1 b) f.waiting c.2) u.0 u.1
          ]),
    )
  where
    said : Said
    said = switches_by (kinds (t ∷ ts)) (drop i (fates z))

    data-or : (b : Bool) {e : Bool} → b ≡ false → (b || e) ≡ true → e ≡ true
    data-or true h k = absurd (false≢true (sym h))
    data-or false h k = k

    made-data : total c.0 ≡ total (begun a) + 1 → (is_char (symbol_of t.kind) ≡ false → (c.0).ledger.kept ≡ []) → Grows (fates c.0) (fates z) → starts reads_text (symbol_of t.kind) ≡ true → EndsMade (fates c.0) → is_data (mode_after_kind t.kind (first_of (switches_by (kinds (t ∷ ts)) (drop i (fates z)))) m) ≡ false
    made-data u v w q e =
        let j : length e.0 ≡ i = (let x = ap length (v (start-no-char (symbol_of t.kind) q)) in let y = ap length e.2 in let l = length-append e.0 (Made e.1 ∷ []) in omega (arith, u, x, y, l, n)) in
        subst (λ fs. is_data (mode_after_kind t.kind (first_of (switches_by (kinds (t ∷ ts)) fs)) m) ≡ false) (sym (ap (drop i) (w.1 ∙ ap (λ v. v ++ w.0) e.2) ∙ drop-at e.0 (Made e.1) w.0 i j))
        (start-data t.kind e.1 (kinds ts) w.0 m q)

-- where the tokens are those of a text, each of which says what its fate says
first-read : (s : Setting) (l : Option Limits) (a : State) → IsFirst s l a → IsRead a
first-read s l a k = from (read-as (begun (first_state s l a.quirks a.parses_foreign 0)) (begun a) (first-core s l a k) (by s))
  where
    from : IsRead (begun a) → IsRead a
    from r = record { original = r.original; templates = r.templates }

    by : (s : Setting) → IsRead (begun (first_state s l a.quirks a.parses_foreign 0))
    by Document = record { original = λ w. absurd (false≢true w); templates = refl }
    by (Fragment context in_form) = record { original = λ w. refl; templates = at (is_same context tag.Template) }
      where
        at : (b : Bool) → list_all is_inner (if b then mode.InTemplate ∷ [] else []) ≡ true
        at true = refl
        at false = refl

first-no-text : (s : Setting) (l : Option Limits) (a : State) → IsFirst s l a → is_text_mode a.mode ≡ false
first-no-text s l a k = ap (λ (v : State). is_text_mode v.mode) (first-core s l a k) ∙ by s
  where
    by : (s : Setting) → is_text_mode (first_state s l a.quirks a.parses_foreign 0).mode ≡ false
    by Document = refl
    by (Fragment context in_form) = (waits-same (reset_mode (Some context) None (first_templates (Fragment context in_form)) (tag.Html ∷ [])) (reset-late (Some context) None (first_templates (Fragment context in_form)) (tag.Html ∷ []) (at (is_same context tag.Template)))).1
      where
        at : (b : Bool) → list_all is_late (if b then mode.InTemplate ∷ [] else []) ≡ true
        at true = refl
        at false = refl

pub built-reads : (s : Setting) (l : Option Limits) (text : List ℕ) (start : TextStart) (ts : List Token) (said : Said) (fs : List Fate) (t : Nodes) → is_foreign_context s ≡ false → ts ≡ tokens_of text said start → said ≡ switches_by (kinds ts) fs
    → (b : IsBuiltByRules s l false (kinds ts) fs t) → ReadsNoTag (kinds ts) b.first b.last b.constructs
built-reads s l text start ts said fs t c e k b =
    let g = first-native s l b.first c b.begins b.foreign_is in
    let n = first-total s l b.first b.begins in
    let h : is_tagless start.mode ts (switches_by (kinds ts) (drop 0 (fates b.last))) ≡ true =
    subst (λ v. is_tagless start.mode ts v ≡ true) (k ∙ ap (switches_by (kinds ts)) b.fates_are) (subst (λ v. is_tagless start.mode v said ≡ true) (sym e) (tokens-tagless start.rows 0 start.mode start.name 0 text said)) in
    reads-no-tag ts start.mode 0 b.first b.last b.constructs h n g (first-waiting s l b.first b.begins) (first-read s l b.first b.begins) (λ x. absurd (false≢true (sym (first-no-text s l b.first b.begins) ∙ ap is_text_mode x)))

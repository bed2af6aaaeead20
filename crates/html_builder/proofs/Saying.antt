-- What is said of the text after a token, and what is known of foreign content.
use Rattle.std.proofs.Common.{ℕ, zero, suc, ◌≡◌, ◌<◌, ◌≤◌, ◌+◌, ◌∙◌, inl, inr, Bool, true, false, List, [], ◌∷◌, ◌++◌, length, refl, sym, ap, subst, arith}
use Rattle.std.specs.Prelude.{Option, Some, None, slice_get}
use Rattle.html_arena.specs.declared.arena.Limits.{Limits}
use Rattle.html_names.specs.declared.tag.Tag.{Tag}
use Rattle.html_names.specs.declared.tag.Tag.TheVariants as tag
use Rattle.html_tokens.specs.declared.token.TextMode.{TextMode}
use Rattle.html_tokens.specs.declared.token.TokenKind.{TokenKind}
use Rattle.html_ledger.specs.declared.fate.Fate.{Fate}
use Rattle.html_ledger.specs.declared.setting.Setting.{Setting}
use Rattle.html_ledger.specs.declared.setting.Setting.TheVariants as setting
use Rattle.html_ledger.specs.declared.symbol.Symbol.{Symbol}
use Rattle.html_ledger.specs.Entries.{Fed, begun as begun_ledger}
use Rattle.html_ledger.specs.MayDrop.{MayBeForeign}
use Rattle.html_ledger.specs.Runs.{last_of}
use Rattle.html_ledger.specs.Symbols.{symbol_of}
use Rattle.html_tree.specs.States.{document_state}
use Rattle.html_construction.specs.Beginning.{IsFirst, first_state}
use Rattle.html_construction.specs.Begun.{IsFounded}
use Rattle.html_construction.specs.Built.{IsBuilt, ends_made, nothing_of, symbols}
use Rattle.html_construction.specs.Copies.{implied_count, most_clones}
use Rattle.html_construction.specs.Modes.{is_reset}
use Rattle.html_construction.specs.States.{State}
use Rattle.html_construction.specs.Works.{reach_of}
use Rattle.html_construction.specs.declared.mode.Mode.TheVariants as mode
use Rattle.html_arena.specs.declared.arena.ArenaError.{ArenaError}
use Rattle.html_arena.specs.declared.arena.ArenaError.TheVariants as refusal
use Rattle.html_modes.specs.declared.outcome.Foreign.{Foreign}
use Rattle.html_builder.specs.Builders.{BuilderState}
use Rattle.html_builder.specs.Errors.{error_at}
use Rattle.html_builder.specs.Handed.{Handed, IsForeignRefused, fates_of, parses_foreign}
use Rattle.html_builder.specs.Saying.{or_said, said_of}
use Rattle.html_builder.specs.Switches.{said_after, switch_after}
use Rattle.html_builder.specs.declared.error.BuildError.{BuildError}
use Rattle.html_builder.specs.declared.error.BuildError.TheVariants as error
use Rattle.html_builder.proofs.Handing.{begun-document, begun-fragment, said-one}

-- WHAT IS SAID

pub said-by : (t : TokenKind) (y : Symbol) (m : Option TextMode) (a : State) → symbol_of t ≡ y → m ≡ or_said (said_after y (ends_made a.ledger.fates)) (said_of a)
    → m ≡ or_said (switch_after t (last_of a.ledger.fates)) (said_of a)
said-by t y m a e p =
    p ∙ ap (λ z. or_said (said_after z (ends_made a.ledger.fates)) (said_of a)) (sym e) ∙ ap (λ o. or_said o (said_of a)) (said-one t (last_of a.ledger.fates))

-- WHETHER FOREIGN CONTENT IS PARSED

-- the same, where the state is seen as a view
pub viewed-parses : (u v w : BuilderState) → u ≡ v → w.page.parses_foreign ≡ u.page.parses_foreign → parses_foreign w ≡ parses_foreign v
viewed-parses u v w e p = p ∙ ap (λ (b : BuilderState). b.page.parses_foreign) e

pub foreign-refused : (u v : BuilderState) (name : Foreign) (at : ℕ) (e : BuildError) → u ≡ v → u.page.parses_foreign ≡ false → e ≡ error.ForeignContent name at → IsForeignRefused v e
foreign-refused u v name at e q f i = subst (λ x. IsForeignRefused v x) (sym i) (sym (ap (λ (b : BuilderState). b.page.parses_foreign) q) ∙ f)

-- no other refusal tells of foreign content
pub refused-other : (b : BuilderState) (r : ArenaError) (at : ℕ) (e : BuildError) → e ≡ error_at r at → IsForeignRefused b e
refused-other b r at e q = subst (λ x. IsForeignRefused b x) (sym q) (by r)
  where
    by : (r : ArenaError) → IsForeignRefused b (error_at r at)
    by refusal.OutOfMemory = tt
    by refusal.NodeBudget = tt
    by refusal.HeldBudget = tt

-- WHAT WAS MADE

pub get-front : {X : Type 0} (xs ys : List X) (i : ℕ) (x : X) → slice_get xs i ≡ Some x → slice_get (xs ++ ys) i ≡ Some x
get-front [] ys zero x e = absurd (let k = e in cc)
get-front [] ys (suc i) x e = absurd (let k = e in cc)
get-front (y ∷ xs) ys zero x e = e
get-front (y ∷ xs) ys (suc i) x e = get-front xs ys i x e

pub get-within : {X : Type 0} (xs ys : List X) (i : ℕ) → i < length xs → slice_get (xs ++ ys) i ≡ slice_get xs i
get-within [] ys i h = absurd (omega (arith, h))
get-within (x ∷ xs) ys zero h = refl
get-within (x ∷ xs) ys (suc i) h = let less : suc i < suc (length xs) = h in get-within xs ys i (omega (arith, less))

-- of more tokens
more-foreign : (s : Setting) (ys zs : List Symbol) (fs : List Fate) → MayBeForeign s ys fs → MayBeForeign s (ys ++ zs) fs
more-foreign s ys zs fs (inl w) = inl (record {
  at = w.at;
  token = w.token;
  fate = w.fate;
  token_is = get-front ys zs w.at w.token w.token_is;
  fate_is = w.fate_is;
  is_such = w.is_such;
  kept = λ k t less is. refl;
})
more-foreign s ys zs fs (inr h) = inr h

-- what is known of foreign content is so of the tokens
pub known-foreign : (s : Setting) (l : Option Limits) (ts : List TokenKind) (b : BuilderState) → Handed s l ts b → b.page.ledger.history.foreign ≡ true → MayBeForeign s (symbols ts) (fates_of b)
known-foreign s l ts b h e =
    let f : Fed s b.page.ledger (symbols ts) = h.built.fed in
    subst (λ ys. MayBeForeign s ys (fates_of b)) (sym f.split) (more-foreign s f.front _ (fates_of b) (f.settled.known.foreign.0 e))

-- THE BEGINNING

-- foreign content is parsed from the beginning
parsed-first : (s : Setting) (l : Option Limits) (a p : State) → p ≡ record a { parses_foreign = true } → IsFirst s l a → IsFirst s l p
parsed-first s l a p e f = record {
  state_is =
      e ∙ ap (λ (x : State). record x { parses_foreign = true }) f.state_is
      ∙ ap (λ (q : Bool). first_state s l q true a.tree.steps) (sym (ap (λ (x : State). x.quirks) e))
      ∙ ap (λ (q : Bool). first_state s l p.quirks q a.tree.steps) (sym (ap (λ (x : State). x.parses_foreign) e))
      ∙ ap (λ (n : ℕ). first_state s l p.quirks p.parses_foreign n) (sym (ap (λ (x : State). x.tree.steps) e));
  quirks_are = λ d. ap (λ (x : State). x.quirks) e ∙ f.quirks_are d;
}

-- a document that parses foreign content
pub foreign-document : (l : Option Limits) (a p : State) → p ≡ record a { parses_foreign = true } → IsBuilt (nothing_of setting.Document l) p → a.mode ≡ mode.Initial → a.stack ≡ [] → length a.tree.tree.labels ≡ 1
    → most_clones a.tree.tree.labels ≡ 0 → implied_count a.tree.tree.labels ≤ 1 → a.tree.steps ≤ 2 + reach_of a → (z : Option Limits) × (j : ℕ) × (a.tree ≡ document_state z j)
    → a.ledger ≡ begun_ledger setting.Document → a.fostering ≡ false → a.context ≡ None → IsFirst setting.Document l a → Handed setting.Document l [] (record { page = p; entries = 0; stopped = false })
foreign-document l a p e w m k n c i t d f o q h =
    begun-document l (record { page = p; entries = 0; stopped = false }) refl refl w (ap (λ (x : State). x.mode) e ∙ m) (ap (λ (x : State). x.stack) e ∙ k) (ap (λ (x : State). length x.tree.tree.labels) e ∙ n)
    (ap (λ (x : State). most_clones x.tree.tree.labels) e ∙ c) (subst (λ (x : State). implied_count x.tree.tree.labels ≤ 1) (sym e) i) (subst (λ (x : State). x.tree.steps ≤ 2 + reach_of x) (sym e) t)
    (d.0, d.1, ap (λ (x : State). x.tree) e ∙ d.2) (ap (λ (x : State). x.ledger) e ∙ f) (ap (λ (x : State). x.fostering) e ∙ o) (ap (λ (x : State). x.context) e ∙ q) (parsed-first setting.Document l a p e h)

-- a fragment
pub foreign-fragment : (u : Tag) (form : Bool) (l : Option Limits) (a p : State) → p ≡ record a { parses_foreign = true } → IsBuilt (nothing_of (setting.Fragment u form) l) p → is_reset a.mode ≡ true
    → a.stack ≡ tag.Html ∷ [] → length a.tree.tree.labels ≡ 1 → most_clones a.tree.tree.labels ≡ 0 → implied_count a.tree.tree.labels ≤ 1 → a.tree.steps ≤ 2 + reach_of a → IsFounded a
    → IsFirst (setting.Fragment u form) l a → Handed (setting.Fragment u form) l [] (record { page = p; entries = 0; stopped = false })
foreign-fragment u form l a p e w m k n c i t f h =
    begun-fragment u form l (record { page = p; entries = 0; stopped = false }) refl refl w (ap (λ (x : State). is_reset x.mode) e ∙ m) (ap (λ (x : State). x.stack) e ∙ k)
    (ap (λ (x : State). length x.tree.tree.labels) e ∙ n) (ap (λ (x : State). most_clones x.tree.tree.labels) e ∙ c) (subst (λ (x : State). implied_count x.tree.tree.labels ≤ 1) (sym e) i)
    (subst (λ (x : State). x.tree.steps ≤ 2 + reach_of x) (sym e) t) (subst (λ (x : State). IsFounded x) (sym e) (record { select = f.select; frameset = f.frameset })) (parsed-first (setting.Fragment u form) l a p e h)

pub ruleset saying_rules = (said-by)

-- Claimed.
-- Tokens against what was built of them.
use Rattle.std.specs.Prelude.{◌≡◌, ℕ, ◌<◌, ◌⊎◌, List, [], ◌∷◌, ◌++◌, length, Option, Some, None, Bool, true, false, not}
use Rattle.std.specs.List.{list_all}
use Rattle.html_arena.specs.declared.arena.Limits.{Limits}
use Rattle.html_arena.specs.Tree.{host_at, parent_of}
use Rattle.html_tokens.specs.declared.token.TokenKind.{TokenKind}
use Rattle.html_tokens.specs.declared.token.TokenKind.TheVariants as kind
use Rattle.html_tree.specs.Since.{Since}
use Rattle.html_tree.specs.States.{State as Tree}
use Rattle.html_ledger.specs.declared.setting.Setting.{Setting}
use Rattle.html_ledger.specs.declared.symbol.Symbol.{Symbol}
use Rattle.html_ledger.specs.Symbols.{symbol_of}
use Rattle.html_ledger.specs.declared.fate.Fate.{Fate}
use Rattle.html_ledger.specs.Entries.{Fed}
use Rattle.html_ledger.specs.Fates.{is_foreign, is_made}
use Rattle.html_ledger.specs.Settings.{is_foreign_context}
use Rattle.html_ledger.specs.Runs.{last_of}
use Rattle.html_construction.specs.Accounts.{AreMade, AreTexts}
use Rattle.html_construction.specs.Begun.{Begun, IsInCall}
use Rattle.html_construction.specs.Origins.{AreOrigins, HasRoot}
use Rattle.html_construction.specs.Standing.{IsStanding}
use Rattle.html_construction.specs.States.{State}

-- tokens as the rules tell them apart
abbrev pub symbols : List TokenKind → List Symbol
symbols [] = []
symbols (t ∷ ts) = symbol_of t ∷ symbols ts

-- code points as tokens
abbrev pub chars_of : List ℕ → List TokenKind
chars_of [] = []
chars_of (c ∷ cs) = kind.Char c ∷ chars_of cs

-- The nodes without a parent are the first, the contents of templates, and the body that a frameset took the place of.
abbrev pub IsRooted : Tree → Type 0
IsRooted t =
    (x : ℕ) → x < length t.tree.labels → parent_of t.tree x ≡ None
    → (x ≡ 0) ⊎ (((h : ℕ) × (host_at t.tree x ≡ Some h)) ⊎ (t.detached ≡ Some x))

-- What is parsed, the limits to which the tree keeps, the tokens that were handed in, fates that the first of them are known to have, an earlier
-- tree that is known, if one is, and the call that is under way, if one is known.
pub record Handed : Type 0 where
  pub setting : Setting
  pub limits : Option Limits
  pub tokens : List TokenKind
  pub known : List Fate
  pub earlier : Option Tree
  pub call : Option Begun

-- before the first token
abbrev pub nothing_of : Setting → Option Limits → Handed
nothing_of s l = record { setting = s; limits = l; tokens = []; known = []; earlier = None; call = None }

-- after more tokens
unfoldable pub with_tokens : Handed → List TokenKind → Handed
with_tokens h ts = record h { tokens = h.tokens ++ ts }

-- where this earlier tree is known
unfoldable pub since_tree : Handed → Tree → Handed
since_tree h t = record h { earlier = Some t }

-- in a call that begins in this state
abbrev pub in_call : Handed → State → Handed
in_call h a = record h { call = Some (record { mode = a.mode; before = a.ledger.fates }) }

-- these members come first
abbrev pub BeginsWith : List Fate → List Fate → Type 0
BeginsWith front fates = (rest : List Fate) × (fates ≡ front ++ rest)

-- What was so of an earlier tree is so still.
abbrev pub IsSince : Option Tree → Tree → Type 0
IsSince None t = Unit {0}
IsSince (Some e) t = Since e t

-- no element of foreign content was made of the token
abbrev pub is_native : Fate → Bool
is_native f = not (is_foreign f)

-- Where foreign content is refused, and is not the context, no element of it was made of a token (13.2.6.5).
abbrev pub IsRefusing : Setting → State → Type 0
IsRefusing s a = a.parses_foreign ≡ false → is_foreign_context s ≡ false → list_all is_native a.ledger.fates ≡ true

-- The tree and the ledger are what was built of what was handed in; fates that were known are as they were, what was closed in an earlier tree
-- that is known is closed, and in a call that is known each token got a fate that it may have there.
pub record IsBuilt (h : Handed) (a : State) : Type 0 where
  pub fed : Fed h.setting a.ledger (symbols h.tokens)
  pub known : BeginsWith h.known a.ledger.fates
  pub rooted : IsRooted a.tree
  pub standing : IsStanding a.tree
  pub limits : a.tree.tree.limits ≡ h.limits
  pub root : HasRoot h.setting a.tree.tree
  pub origins : AreOrigins h.tokens a.ledger.fates a.tree.tree.labels
  pub made : AreMade a.ledger.fates a.tree.tree.labels
  pub texts : AreTexts (symbols h.tokens) a.ledger.fates a.tree.tree.labels
  pub refusing : IsRefusing h.setting a
  pub since : IsSince h.earlier a.tree
  pub call : IsInCall h.call a

-- From one state to a later one: the tokens handed in are the same.
abbrev pub Keeps : State → State → Type 0
Keeps a b = (h : Handed) → IsBuilt h a → IsBuilt h b

-- A call begins.
abbrev pub Begins : State → State → Type 0
Begins a b = (h : Handed) → IsBuilt h a → IsBuilt (in_call h a) b

-- This token was handed in.
abbrev pub Takes : TokenKind → State → State → Type 0
Takes t a b = (h : Handed) → IsBuilt h a → IsBuilt (with_tokens h (t ∷ [])) b

-- These code points were handed in.
abbrev pub TakesRun : List ℕ → State → State → Type 0
TakesRun cs a b = (h : Handed) → IsBuilt h a → IsBuilt (with_tokens h (chars_of cs)) b

-- This token was handed in, in one call.
abbrev pub Accepts : TokenKind → State → State → Type 0
Accepts t a b = (h : Handed) → IsBuilt h a → IsBuilt (with_tokens (in_call h a) (t ∷ [])) b

-- So were these code points.
abbrev pub AcceptsRun : List ℕ → State → State → Type 0
AcceptsRun cs a b = (h : Handed) → IsBuilt h a → IsBuilt (with_tokens (in_call h a) (chars_of cs)) b

-- These code points, the last that were handed in, were taken out again.
abbrev pub Releases : List ℕ → State → State → Type 0
Releases cs a b = (h : Handed) → IsBuilt h a → (front : Handed) × IsBuilt front b × (h ≡ with_tokens front (chars_of cs))

-- a fate, and a node was made of its token
abbrev pub some_made : Option Fate → Bool
some_made None = false
some_made (Some f) = is_made f

-- A node was made of the last token that has a fate.
abbrev pub ends_made : List Fate → Bool
ends_made fates = some_made (last_of fates)

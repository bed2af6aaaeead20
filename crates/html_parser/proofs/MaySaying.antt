-- What tree construction answers to a token is something that the token may say.
use Rattle.std.proofs.Common.{◌≡◌, ◌⊎◌, inl, inr, refl, sym, subst, List, Bool, true, false, Option, Some, None, ℕ, if◌then◌else◌}
use Rattle.html_names.specs.declared.tag.Tag.{Tag}
use Rattle.html_tokens.specs.declared.attributes.Attr.{Attr}
use Rattle.html_tokens.specs.declared.token.TextMode.{TextMode}
use Rattle.html_tokens.specs.declared.token.TokenKind.{TokenKind}
use Rattle.html_tokens.specs.declared.token.TokenKind.TheVariants.{Start, End, Char, Comment, Doctype, Eof}
use Rattle.html_ledger.specs.declared.fate.Fate.{Fate}
use Rattle.html_ledger.specs.declared.setting.Setting.{Setting}
use Rattle.html_ledger.specs.MayDrop.{MayBeForeign}
use Rattle.html_ledger.specs.Runs.{last_of}
use Rattle.html_construction.specs.Built.{symbols}
use Rattle.html_construction.specs.Foreign.{foreign_tag}
use Rattle.html_builder.specs.Builders.{BuilderState}
use Rattle.html_builder.specs.Handed.{fates_of}
use Rattle.html_builder.specs.Saying.{mode_at, or_said, said_in}
use Rattle.html_builder.specs.Switches.{switch_after}
use Rattle.html_parser.specs.Said.{IsData, MaySayAfter}
use Rattle.html_parser.specs.Saying.{MaySay}

-- what its fate says, or whether the text is that of foreign content
record IsOne (o m : Option TextMode) (foreign : Bool) : Type 0 where
  pub either : (m ≡ o) ⊎ ((o ≡ None) × (foreign ≡ true) × IsData m)

data-at : (g : Option Tag) → IsData (Some (mode_at g))
data-at None = inl refl
data-at (Some t) = inr refl

one-of : (o m : Option TextMode) (foreign : Bool) (g : Option Tag) → m ≡ or_said o (if foreign then Some (mode_at g) else None) → IsOne o m foreign
one-of (Some n) m foreign g e = record { either = inl e }
one-of None m true g e = record { either = inr (refl, refl, subst IsData (sym e) (data-at g)) }
one-of None m false g e = record { either = inl e }

said-one : (t : TokenKind) (b : BuilderState) (m : Option TextMode) → m ≡ said_in t b → IsOne (switch_after t (last_of (fates_of b))) m b.page.ledger.history.foreign
said-one t b m e = one-of (switch_after t (last_of (fates_of b))) m b.page.ledger.history.foreign (foreign_tag b.page) e

-- each token may say data, or data of foreign content
data-says : (kind : TokenKind) (m : Option TextMode) → IsData m → MaySay kind m
data-says kind m (inl e) = subst (MaySay kind) (sym e) (inr refl)
data-says kind m (inr e) = subst (MaySay kind) (sym e) (inr refl)

start-says : (name : List ℕ) (attrs : List Attr) (closes : Bool) (m : Option TextMode) → MaySay (Start name attrs closes) m
start-says name attrs closes None = tt
start-says name attrs closes (Some m) = inl tt

fate-says : (kind : TokenKind) (f : Option Fate) → MaySay kind (switch_after kind f)
fate-says (Start name attrs closes) f = start-says name attrs closes (switch_after (Start name attrs closes) f)
fate-says (End name) None = tt
fate-says (End name) (Some f) = tt
fate-says (Char c) None = tt
fate-says (Char c) (Some f) = tt
fate-says (Comment text) None = tt
fate-says (Comment text) (Some f) = tt
fate-says (Doctype name public_text system_text forced) None = tt
fate-says (Doctype name public_text system_text forced) (Some f) = tt
fate-says Eof None = tt
fate-says Eof (Some f) = tt

by-either : (kind : TokenKind) (f : Option Fate) (m : Option TextMode) (foreign : Bool) → IsOne (switch_after kind f) m foreign → MaySay kind m
by-either kind f m foreign w = elim w.either [
  | inl e ↦ subst (MaySay kind) (sym e) (fate-says kind f)
  | inr e ↦ data-says kind m e.2
]

pub may_say : (kind : TokenKind) (b : BuilderState) (m : Option TextMode) → m ≡ said_in kind b → MaySay kind m
may_say kind b m e = by-either kind (last_of (fates_of b)) m b.page.ledger.history.foreign (said-one kind b m e)

-- where the flag is true of the tokens
pub may_tell : (s : Setting) (ts : List TokenKind) (kind : TokenKind) (b : BuilderState) (m : Option TextMode) → m ≡ said_in kind b
    → (b.page.ledger.history.foreign ≡ true → MayBeForeign s (symbols ts) (fates_of b)) → MaySayAfter s ts (fates_of b) kind (last_of (fates_of b)) m
may_tell s ts kind b m e known = elim (said-one kind b m e).either [
  | inl p ↦ inl p
  | inr p ↦ inr (p.0, known p.1, p.2)
]

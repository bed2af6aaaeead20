-- Claimed.
-- What tokens say of the text after them (13.2.6.2, 13.2.6.4, and 13.2.5.42).
use Rattle.std.specs.Prelude.{ℕ, suc, ◌≡◌, ◌⊎◌, List, length, take, slice_get, Option, Some, None}
use Rattle.html_tokens.specs.declared.token.TextMode.{TextMode}
use Rattle.html_tokens.specs.declared.token.TextMode.TheVariants.{Data, Foreign}
use Rattle.html_tokens.specs.declared.token.TokenKind.{TokenKind}
use Rattle.html_ledger.specs.MayDrop.{MayBeForeign}
use Rattle.html_ledger.specs.declared.fate.Fate.{Fate}
use Rattle.html_ledger.specs.declared.setting.Setting.{Setting}
use Rattle.html_construction.specs.Built.{symbols}
use Rattle.html_builder.specs.Switches.{switch_after, switches_by}

-- data, or data of foreign content
abbrev pub IsData : Option TextMode → Type 0
IsData said = (said ≡ Some Data) ⊎ (said ≡ Some Foreign)

-- A token says what its fate says, if it has one; or, where that is nothing and foreign content was made or is the context, by these tokens and
-- fates up to its own, whether the text is data of foreign content.
abbrev pub MaySayAfter : Setting → List TokenKind → List Fate → TokenKind → Option Fate → Option TextMode → Type 0
MaySayAfter s tokens fates token fate said =
    (said ≡ switch_after token fate) ⊎ ((switch_after token fate ≡ None) × MayBeForeign s (symbols tokens) fates × IsData said)

-- So each token; the last ones may have no fate yet.
pub record AreSaid (s : Setting) (tokens : List TokenKind) (fates : List Fate) (said : List (Option TextMode)) : Type 0 where
  pub count : length said ≡ length tokens
  pub each : (i : ℕ) (t : TokenKind) (m : Option TextMode) → slice_get tokens i ≡ Some t → slice_get said i ≡ Some m
      → MaySayAfter s tokens (take (suc i) fates) t (slice_get fates i) m

-- where no foreign content was made and none is the context, each says what its fate says
abbrev pub AreSaidByFates : Setting → List TokenKind → List Fate → List (Option TextMode) → Type 0
AreSaidByFates s tokens fates said = (MayBeForeign s (symbols tokens) fates → ⊥) → said ≡ switches_by tokens fates

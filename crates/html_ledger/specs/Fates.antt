-- Claimed.
-- What the fate of a token says by itself.
use Rattle.std.specs.Prelude.{ℕ, Bool, true, false, Option, Some, None}
use Rattle.html_ledger.specs.declared.fate.Cause.{Cause}
use Rattle.html_ledger.specs.declared.fate.Cause.TheVariants.{PrologSpace, LeadingNewline}
use Rattle.html_ledger.specs.declared.fate.Fate.{Fate}
use Rattle.html_ledger.specs.declared.fate.Fate.TheVariants.{Made, Foreign, Merged, Dropped}

-- a node was made of the token: an element of HTML, a comment or a doctype
abbrev pub is_made : Fate → Bool
is_made (Made d) = true
is_made _ = false

-- an element of foreign content was made of the token
abbrev pub is_foreign : Fate → Bool
is_foreign (Foreign d) = true
is_foreign _ = false

-- the node that was made of the token
abbrev pub node_of : Fate → Option ℕ
node_of (Made d) = Some d
node_of (Foreign d) = Some d
node_of _ = None

-- a token that is dropped so is an error of the page
abbrev pub is_error_cause : Cause → Bool
is_error_cause PrologSpace = false
is_error_cause LeadingNewline = false
is_error_cause _ = true

-- a token with this fate is an error of the page
abbrev pub is_error : Fate → Bool
is_error (Dropped c) = is_error_cause c
is_error Merged = true
is_error _ = false

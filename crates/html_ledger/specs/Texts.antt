-- Claimed.
-- The text of a node, by the tokens and their fates (13.2.6.1: "insert a character").
use Rattle.std.specs.Prelude.{ℕ, ◌==◌, Bool, false, cond, List, [], ◌∷◌, ◌++◌}
use Rattle.html_tokens.specs.Cut.{null_replaced}
use Rattle.html_ledger.specs.declared.symbol.Symbol.{Symbol}
use Rattle.html_ledger.specs.declared.symbol.Symbol.TheVariants.{Char}
use Rattle.html_ledger.specs.declared.fate.Fate.{Fate}
use Rattle.html_ledger.specs.declared.fate.Fate.TheVariants.{Text}

-- a token with this fate was added to the text of this node
abbrev pub is_text_in : ℕ → Fate → Bool
is_text_in node (Text d) = d == node
is_text_in node _ = false

-- what the code point of a token adds to a text: itself, and U+FFFD for U+0000, as in foreign content (13.2.6.5)
abbrev pub code_point : Symbol → List ℕ
code_point (Char c) = null_replaced c ∷ []
code_point _ = []

-- The text of a node: the code points that were added to it, in order.
abbrev pub text_of : ℕ → List Symbol → List Fate → List ℕ
text_of node [] fates = []
text_of node (t ∷ tokens) [] = []
text_of node (t ∷ tokens) (f ∷ fates) = cond (is_text_in node f) (code_point t) [] ++ text_of node tokens fates

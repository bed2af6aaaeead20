-- The arms of the "text" insertion mode, one lemma each: of a token that meets its test and no earlier one, the table has this plan.
use Rattle.std.proofs.Common.{ℕ, ◌≡◌, ◌⊎◌, ◌==◌, true, false, inl, inr, subst, sym}
use Rattle.html_names.specs.declared.tag.Tag.{Tag}
use Rattle.html_tokens.specs.declared.token.TokenKind.{TokenKind}
use Rattle.html_ledger.specs.declared.fate.Cause.TheVariants.{Null}
use Rattle.html_ledger.specs.declared.symbol.Symbol.{Symbol}
use Rattle.html_ledger.specs.declared.symbol.Symbol.TheVariants.{Start, End, Char, Comment, Doctype, Eof}
use Rattle.html_construction.specs.Plans.{Do, Ending, Runs}
use Rattle.html_construction.specs.States.{State}
use Rattle.html_construction.specs.Words.{InsertCharacter}
use Rattle.html_modes.specs.RuleForms.{again, done_with, ignored, over}
use Rattle.html_modes.specs.Rules.{plan}
use Rattle.html_modes.specs.RulesText.{leaving_text, text, text_char}
use Rattle.html_modes.proofs.Ruled.{rule_words}

pub text_char-null : (c : ℕ) (t : TokenKind) (a : State) (e : Ending) (z : State) → (c == 0) ≡ true → Runs plan (ignored Null) t a e z → Runs plan (text_char c) t a e z
text_char-null c t a e z k h = rw (k) h

pub text_char-other : (c : ℕ) (t : TokenKind) (a : State) (e : Ending) (z : State) → (c == 0) ≡ false → Runs plan (Do InsertCharacter over) t a e z → Runs plan (text_char c) t a e z
text_char-other c t a e z k h = rw (k) h

pub text-char : (y : Symbol) (c : ℕ) (t : TokenKind) (a : State) (e : Ending) (z : State) → y ≡ Char c → Runs plan (text_char c) t a e z → Runs plan (text y) t a e z
text-char y c t a e z k h = subst (λ (x : Symbol). Runs plan (text x) t a e z) (sym k) h

pub text-end : (y : Symbol) (g : Tag) (t : TokenKind) (a : State) (e : Ending) (z : State) → y ≡ End g → Runs plan (leaving_text done_with) t a e z → Runs plan (text y) t a e z
text-end y g t a e z k h = subst (λ (x : Symbol). Runs plan (text x) t a e z) (sym k) h

pub text-rest : (y : Symbol) (t : TokenKind) (a : State) (e : Ending) (z : State) → (((g : Tag) × y ≡ Start g) ⊎ ((y ≡ Comment) ⊎ ((y ≡ Doctype) ⊎ (y ≡ Eof)))) → Runs plan (leaving_text again) t a e z → Runs plan (text y) t a e z
text-rest y t a e z (inl m) h = subst (λ (x : Symbol). Runs plan (text x) t a e z) (sym m.1) h
text-rest y t a e z (inr (inl m)) h = subst (λ (x : Symbol). Runs plan (text x) t a e z) (sym m) h
text-rest y t a e z (inr (inr (inl m))) h = subst (λ (x : Symbol). Runs plan (text x) t a e z) (sym m) h
text-rest y t a e z (inr (inr (inr m))) h = subst (λ (x : Symbol). Runs plan (text x) t a e z) (sym m) h

pub ruleset arms = (rule_words, text_char-null, text_char-other, text-char, text-end, text-rest)

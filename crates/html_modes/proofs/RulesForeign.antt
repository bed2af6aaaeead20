-- The arms of the rules for foreign content, one lemma each: of a token that stays there and meets its test, the table has this plan.
use Rattle.std.proofs.Common.{ℕ, ◌≡◌, ◌==◌, true, false, subst, sym}
use Rattle.html_names.specs.declared.foreign.Space.{Space}
use Rattle.html_names.specs.declared.tag.Tag.{Tag}
use Rattle.html_names.specs.Foreign.{space_of}
use Rattle.html_tokens.specs.declared.token.TokenKind.{TokenKind}
use Rattle.html_ledger.specs.declared.symbol.Symbol.{Symbol}
use Rattle.html_ledger.specs.declared.symbol.Symbol.TheVariants.{Start, End, Char, Comment, Doctype, Eof}
use Rattle.html_ledger.specs.Spaces.{is_space}
use Rattle.html_construction.specs.Plans.{Do, Ending, Runs}
use Rattle.html_construction.specs.States.{State}
use Rattle.html_construction.specs.Words.{FramesetOff, InsertCharacter, InsertComment, InsertReplacement}
use Rattle.html_modes.specs.RuleForms.{done_with, embedding, ignored_doctype, over}
use Rattle.html_modes.specs.Rules.{plan}
use Rattle.html_modes.specs.RulesForeign.{foreign_char, in_foreign}
use Rattle.html_modes.proofs.Ruled.{rule_words}

pub foreign_char-null : (c : ℕ) (t : TokenKind) (a : State) (e : Ending) (z : State) → (c == 0) ≡ true → Runs plan (Do InsertReplacement over) t a e z → Runs plan (foreign_char c) t a e z
foreign_char-null c t a e z k h = rw (k) h

pub foreign_char-space : (c : ℕ) (t : TokenKind) (a : State) (e : Ending) (z : State) → (c == 0) ≡ false → is_space c ≡ true → Runs plan (Do InsertCharacter over) t a e z → Runs plan (foreign_char c) t a e z
foreign_char-space c t a e z k s h = rw (k, s) h

pub foreign_char-other : (c : ℕ) (t : TokenKind) (a : State) (e : Ending) (z : State) → (c == 0) ≡ false → is_space c ≡ false → Runs plan (Do InsertCharacter (Do FramesetOff over)) t a e z → Runs plan (foreign_char c) t a e z
foreign_char-other c t a e z k s h = rw (k, s) h

pub in_foreign-start : (g : Tag) (s : Space) (y : Symbol) (n : Tag) (t : TokenKind) (a : State) (e : Ending) (z : State) → y ≡ Start n → s ≡ space_of g → Runs plan (embedding s) t a e z → Runs plan (in_foreign g y) t a e z
in_foreign-start g s y n t a e z k q h = subst (λ (x : Symbol). Runs plan (in_foreign g x) t a e z) (sym k) (subst (λ (x : Space). Runs plan (embedding x) t a e z) q h)

pub in_foreign-char : (g : Tag) (y : Symbol) (c : ℕ) (t : TokenKind) (a : State) (e : Ending) (z : State) → y ≡ Char c → Runs plan (foreign_char c) t a e z → Runs plan (in_foreign g y) t a e z
in_foreign-char g y c t a e z k h = subst (λ (x : Symbol). Runs plan (in_foreign g x) t a e z) (sym k) h

pub in_foreign-comment : (g : Tag) (y : Symbol) (t : TokenKind) (a : State) (e : Ending) (z : State) → y ≡ Comment → Runs plan (Do InsertComment over) t a e z → Runs plan (in_foreign g y) t a e z
in_foreign-comment g y t a e z k h = subst (λ (x : Symbol). Runs plan (in_foreign g x) t a e z) (sym k) h

pub in_foreign-doctype : (g : Tag) (y : Symbol) (t : TokenKind) (a : State) (e : Ending) (z : State) → y ≡ Doctype → Runs plan ignored_doctype t a e z → Runs plan (in_foreign g y) t a e z
in_foreign-doctype g y t a e z k h = subst (λ (x : Symbol). Runs plan (in_foreign g x) t a e z) (sym k) h

pub in_foreign-end : (g : Tag) (y : Symbol) (n : Tag) (t : TokenKind) (a : State) (e : Ending) (z : State) → y ≡ End n → Runs plan done_with t a e z → Runs plan (in_foreign g y) t a e z
in_foreign-end g y n t a e z k h = subst (λ (x : Symbol). Runs plan (in_foreign g x) t a e z) (sym k) h

pub in_foreign-eof : (g : Tag) (y : Symbol) (t : TokenKind) (a : State) (e : Ending) (z : State) → y ≡ Eof → Runs plan done_with t a e z → Runs plan (in_foreign g y) t a e z
in_foreign-eof g y t a e z k h = subst (λ (x : Symbol). Runs plan (in_foreign g x) t a e z) (sym k) h

pub ruleset arms = (rule_words, foreign_char-null, foreign_char-space, foreign_char-other, in_foreign-start, in_foreign-char, in_foreign-comment, in_foreign-doctype, in_foreign-end, in_foreign-eof)

-- The arms of the "in table text" insertion mode, one lemma each: of a token that meets its test and no earlier one, the table has this plan.
use Rattle.std.proofs.Common.{ℕ, ◌≡◌, ◌⊎◌, ◌==◌, Bool, true, false, inl, inr, List, [], ◌∷◌, Option, Some, None, cond, refl, sym, ap, subst, ◌∙◌, if◌then◌else◌}
use Rattle.std.specs.List.{list_all}
use Rattle.html_names.specs.declared.tag.Tag.{Tag}
use Rattle.html_tokens.specs.declared.token.TokenKind.{TokenKind}
use Rattle.html_ledger.specs.declared.fate.Cause.TheVariants.{Null, PrologSpace, LeadingNewline}
use Rattle.html_ledger.specs.declared.fate.Cause.{Cause}
use Rattle.html_ledger.specs.declared.symbol.Symbol.{Symbol}
use Rattle.html_ledger.specs.declared.symbol.Symbol.TheVariants.{Start, End, Char, Comment, Doctype, Eof}
use Rattle.html_ledger.specs.Flags.{must_drop}
use Rattle.html_ledger.specs.Symbols.{symbol_of, is_char}
use Rattle.html_construction.specs.Plans.{Ask, Do, Each, Ending, Over, Plan, Runs, Settle, does_each, settles}
use Rattle.html_construction.specs.States.{State}
use Rattle.html_construction.specs.Words.{AreSpacesKept, Becomes, BeginOwnPart, InsertCharacter, IsLeadingNewline, IsNull, IsPrologSpace, Keep, Leave, answer, is_null_or_space, with_kept}
use Rattle.html_modes.specs.RuleForms.{again, fostering, ignored, over}
use Rattle.html_modes.specs.Rules.{plan}
use Rattle.html_modes.specs.RulesInTableText.{in_table_text, settled_by, settling}
use Rattle.html_modes.proofs.Ruled.{rule_words, asked}
use Rattle.html_tokens.specs.declared.token.TokenKind.TheVariants as kind

pub in_table_text-char : (y : Symbol) (c : ℕ) (t : TokenKind) (a : State) (e : Ending) (z : State) → y ≡ Char c → Runs plan (Do Keep over) t a e z → Runs plan (in_table_text y) t a e z
in_table_text-char y c t a e z k h = subst (λ (x : Symbol). Runs plan (in_table_text x) t a e z) (sym k) h

pub in_table_text-rest : (y : Symbol) (t : TokenKind) (a : State) (e : Ending) (z : State) → (((g : Tag) × y ≡ Start g) ⊎ (((g : Tag) × y ≡ End g) ⊎ ((y ≡ Comment) ⊎ ((y ≡ Doctype) ⊎ (y ≡ Eof))))) → Runs plan (settling (Do BeginOwnPart (Do Leave again))) t a e z → Runs plan (in_table_text y) t a e z
in_table_text-rest y t a e z (inl m) h = subst (λ (x : Symbol). Runs plan (in_table_text x) t a e z) (sym m.1) h
in_table_text-rest y t a e z (inr (inl m)) h = subst (λ (x : Symbol). Runs plan (in_table_text x) t a e z) (sym m.1) h
in_table_text-rest y t a e z (inr (inr (inl m))) h = subst (λ (x : Symbol). Runs plan (in_table_text x) t a e z) (sym m) h
in_table_text-rest y t a e z (inr (inr (inr (inl m)))) h = subst (λ (x : Symbol). Runs plan (in_table_text x) t a e z) (sym m) h
in_table_text-rest y t a e z (inr (inr (inr (inr m)))) h = subst (λ (x : Symbol). Runs plan (in_table_text x) t a e z) (sym m) h

-- one of the code points that were kept
some-is : (b c : Cause) → Some b ≡ Some c → b ≡ c
some-is b c q = cc

dropping : (u v : Bool) (c : Cause) (p : Plan) (t : TokenKind) (a : State) (e : Ending) (z : State) → u ≡ answer IsPrologSpace t a → v ≡ answer IsLeadingNewline t a → cond u (Some PrologSpace) (cond v (Some LeadingNewline) None) ≡ Some c → Runs plan (ignored c) t a e z → Runs plan (settled_by p) t a e z
dropping true v c p t a e z q r n h = asked IsPrologSpace true _ _ t a e z q (subst (λ (x : Cause). Runs plan (ignored x) t a e z) (sym (some-is PrologSpace c n)) h)
dropping false true c p t a e z q r n h = asked IsPrologSpace false _ _ t a e z q (asked IsLeadingNewline true _ _ t a e z r (subst (λ (x : Cause). Runs plan (ignored x) t a e z) (sym (some-is LeadingNewline c n)) h))
dropping false false c p t a e z q r n h = absurd (let w : None ≡ Some c = n in cc)

keeping : (u v : Bool) (p : Plan) (t : TokenKind) (a : State) (e : Ending) (z : State) → u ≡ answer IsPrologSpace t a → v ≡ answer IsLeadingNewline t a → cond u (Some PrologSpace) (cond v (Some LeadingNewline) None) ≡ None → Runs plan (Ask IsNull (ignored Null) p) t a e z → Runs plan (settled_by p) t a e z
keeping true v p t a e z q r n h = absurd (let w : Some PrologSpace ≡ None = n in cc)
keeping false true p t a e z q r n h = absurd (let w : Some LeadingNewline ≡ None = n in cc)
keeping false false p t a e z q r n h = asked IsPrologSpace false _ _ t a e z q (asked IsLeadingNewline false _ _ t a e z r h)

pub settled-dropped : (y : Symbol) (c : Cause) (p : Plan) (t : TokenKind) (a : State) (e : Ending) (z : State) → symbol_of t ≡ y → must_drop a.ledger.history y ≡ Some c → Runs plan (ignored c) t a e z → Runs plan (settled_by p) t a e z
settled-dropped y c p t a e z k m h = dropping (answer IsPrologSpace t a) (answer IsLeadingNewline t a) c p t a e z refl refl (subst (λ (x : Symbol). must_drop a.ledger.history x ≡ Some c) (sym k) m) h

pub settled-null : (c : ℕ) (p : Plan) (t : TokenKind) (a : State) (e : Ending) (z : State) → symbol_of t ≡ Char c → must_drop a.ledger.history (Char c) ≡ None → (c == 0) ≡ true → Runs plan (ignored Null) t a e z → Runs plan (settled_by p) t a e z
settled-null c p t a e z k m n h = keeping (answer IsPrologSpace t a) (answer IsLeadingNewline t a) p t a e z refl refl (subst (λ (x : Symbol). must_drop a.ledger.history x ≡ None) (sym k) m)
    (asked IsNull true _ _ t a e z (sym n ∙ ap (is_char 0) (sym k)) h)

pub settled-other : (c : ℕ) (p : Plan) (t : TokenKind) (a : State) (e : Ending) (z : State) → symbol_of t ≡ Char c → must_drop a.ledger.history (Char c) ≡ None → (c == 0) ≡ false → Runs plan p t a e z → Runs plan (settled_by p) t a e z
settled-other c p t a e z k m n h = keeping (answer IsPrologSpace t a) (answer IsLeadingNewline t a) p t a e z refl refl (subst (λ (x : Symbol). must_drop a.ledger.history x ≡ None) (sym k) m)
    (asked IsNull false _ _ t a e z (sym n ∙ ap (is_char 0) (sym k)) h)

pub no-cause : (o : Option Cause) → ((c : Cause) → o ≡ Some c → ⊥) → o ≡ None
no-cause None n = refl
no-cause (Some c) n = absurd (n c refl)

-- all of them
abbrev pub kept_plan : Bool → Plan
kept_plan x = settled_by (if x then Do InsertCharacter over else fostering)

settles-so : (x : Bool) (p : Plan) (t : TokenKind) (a : State) (e : Ending) (z : State) → Runs plan (Settle (kept_plan x) p) t a e z → Runs plan (if x then Settle (kept_plan true) p else Settle (kept_plan false) p) t a e z
settles-so true p t a e z h = h
settles-so false p t a e z h = h

pub flushed : (x : Bool) (cs : List ℕ) (p : Plan) (t : TokenKind) (a b : State) (e : Ending) (z : State) → x ≡ list_all is_null_or_space a.ledger.kept → cs ≡ a.ledger.kept → b ≡ with_kept [] a → Runs plan (Each cs (kept_plan x) p) t b e z → Runs plan (settling p) t a e z
flushed x cs p t a b e z k q r h = asked AreSpacesKept x (Settle (kept_plan true) p) (Settle (kept_plan false) p) t a e z k
    (settles-so x p t a e z (settles (kept_plan x) p t a b e z (subst (λ (y : State). Becomes (with_kept [] a) y) (sym r) (record { state_is = refl })) (subst (λ (ds : List ℕ). Runs plan (Each ds (kept_plan x) p) t b e z) q h)))

pub each-settled : (q p : Plan) (c : ℕ) (cs : List ℕ) (t : TokenKind) (a b : State) (e : Ending) (z : State) → Runs plan q (kind.Char c) a Over b → Runs plan (Each cs q p) t b e z → Runs plan (Each (c ∷ cs) q p) t a e z
each-settled q p c cs t a b e z h k = does_each c cs q p t a b e z h k

pub ruleset arms = (rule_words, in_table_text-char, in_table_text-rest, settled-dropped, settled-null, settled-other)

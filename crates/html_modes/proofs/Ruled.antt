-- What the tables of the rules are proved with.
use Rattle.std.proofs.Common.{◌≡◌, ◌⊎◌, ◌||◌, inl, inr, ℕ, Bool, true, false, List, is_some, refl, sym, ap, ◌∙◌, subst, if◌then◌else◌}
use Rattle.html_names.specs.declared.tag.Tag.{Tag}
use Rattle.html_names.specs.Tags.{is_same}
use Rattle.html_tokens.specs.declared.token.TokenKind.{TokenKind}
use Rattle.html_ledger.specs.declared.symbol.Symbol.{Symbol}
use Rattle.html_ledger.specs.declared.symbol.Symbol.TheVariants.{Start, End, Char, Comment, Doctype, Eof}
use Rattle.html_ledger.specs.declared.fate.Cause.TheVariants.{Misplaced}
use Rattle.html_construction.specs.Plans.{Ask, Asks, Do, Does, Ending, PassesFor, Plan, Runs, Stop, asks, stops}
use Rattle.html_construction.specs.States.{State}
use Rattle.html_construction.proofs.Doing.{asking}
use Rattle.html_construction.proofs.Weighing.{same-tag}
use Rattle.html_construction.specs.Calls.{IsTree}
use Rattle.html_names.specs.Sets.{is_fostering}
use Rattle.html_names.specs.declared.tag.Tag.TheVariants as tag
use Rattle.html_construction.specs.Words.{AwaitsDoctype, CollectsText, Drop, HasForm, InsertDoctype, Query, answer, current_or_other}
use Rattle.html_modes.specs.RuleForms.{inserting_doctype}
use Rattle.html_modes.specs.Rules.{plan}

-- the rule ends here
pub stop_here : (e : Ending) (t : TokenKind) (a : State) → Runs plan (Stop e) t a e a
stop_here e t a = stops t a e a (record { state_is = refl })

-- a question of which the answer is known
pub asked : (q : Query) (x : Bool) (p n : Plan) (t : TokenKind) (a : State) (e : Ending) (z : State) → x ≡ answer q t a → Runs plan (if x then p else n) t a e z → Runs plan (Ask q p n) t a e z
asked q x p n t a e z k h = asks q p n t a a e z (record { state_is = refl }) (subst (λ (y : Bool). Runs plan (if y then p else n) t a e z) k h)

-- what some questions are of
pub form-none : (p : Bool) (a : State) → p ≡ (a.outer_form || is_some a.tree.form) → p ≡ false → Asks HasForm false a a
form-none p a k n = asking HasForm false a a (λ t. rw (sym k ∙ n) refl) refl (record { tree_is = refl })

pub form-some : (p x : Bool) (a : State) → p ≡ (a.outer_form || is_some a.tree.form) → p ≡ true → x ≡ a.ledger.history.form → Asks HasForm x a a
form-some p x a k y h = asking HasForm x a a (λ t. rw (sym k ∙ y) h) refl (record { tree_is = refl })

moved : (a b : State) → b ≡ record a { tree = b.tree } → b ≡ record a { tree = b.tree; stack = b.stack }
moved a b r = r ∙ ap (λ (s : List Tag). record a { tree = b.tree; stack = s }) (sym (ap (λ (x : State). x.stack) r))

pub collects-table : (x : Bool) (g : Tag) (a b : State) → g ≡ current_or_other a.tree → x ≡ is_fostering g → x ≡ true → b ≡ record a { tree = b.tree } → IsTree a.tree b → Asks CollectsText true a b
collects-table x g a b k f y r i = asking CollectsText true a b (λ t. rw (sym k, sym f, y) refl) (moved a b r) i

pub collects-other : (x y : Bool) (g : Tag) (a b : State) → g ≡ current_or_other a.tree → x ≡ is_fostering g → x ≡ false → y ≡ is_same g tag.Template → b ≡ record a { tree = b.tree } → IsTree a.tree b → Asks CollectsText y a b
collects-other x y g a b k f n h r i = asking CollectsText y a b (λ t. rw (sym k, sym f, n) h) (moved a b r) i

pub ruleset asking_rules = (form-none, form-some, collects-table, collects-other)

-- a part that goes on in the same way by either answer
pub either : (x : Bool) (p : Plan) (t : TokenKind) (a : State) (e : Ending) (z : State) → Runs plan p t a e z → Runs plan (if x then p else p) t a e z
either true p t a e z h = h
either false p t a e z h = h

-- a doctype
pub doctype-made : (t : TokenKind) (a b : State) → a.ledger.history.awaits_doctype ≡ true → Does InsertDoctype t a b → PassesFor inserting_doctype t a b
doctype-made t a b w d = λ r p o z k. asks AwaitsDoctype (Do InsertDoctype p) (Do (Drop Misplaced) p) t a a o z (record { state_is = refl })
    (subst (λ (x : Bool). Runs r (if x then Do InsertDoctype p else Do (Drop Misplaced) p) t a o z) (sym w) (d r p o z k))

pub doctype-dropped : (t : TokenKind) (a b : State) → a.ledger.history.awaits_doctype ≡ false → Does (Drop Misplaced) t a b → PassesFor inserting_doctype t a b
doctype-dropped t a b w d = λ r p o z k. asks AwaitsDoctype (Do InsertDoctype p) (Do (Drop Misplaced) p) t a a o z (record { state_is = refl })
    (subst (λ (x : Bool). Runs r (if x then Do InsertDoctype p else Do (Drop Misplaced) p) t a o z) (sym w) (d r p o z k))

pub ruleset doctype_plans = (doctype-made, doctype-dropped)

-- no start tag and no end tag
abbrev pub is_neither : Symbol → Bool
is_neither (Start g) = false
is_neither (End g) = false
is_neither _ = true

pub other_than : (g x : Tag) → (g ≡ x → ⊥) → is_same g x ≡ false
other_than g x n = bool_of (is_same g x) (λ k. n (same-tag g x k))
  where
    bool_of : (b : Bool) → (b ≡ true → ⊥) → b ≡ false
    bool_of true k = absurd (k refl)
    bool_of false k = refl

pub neither_any : (y : Symbol) → ((c : ℕ) × y ≡ Char c) ⊎ ((y ≡ Comment) ⊎ ((y ≡ Doctype) ⊎ (y ≡ Eof))) → is_neither y ≡ true
neither_any y (inl h) = subst (λ (x : Symbol). is_neither x ≡ true) (sym h.1) refl
neither_any y (inr (inl h)) = subst (λ (x : Symbol). is_neither x ≡ true) (sym h) refl
neither_any y (inr (inr (inl h))) = subst (λ (x : Symbol). is_neither x ≡ true) (sym h) refl
neither_any y (inr (inr (inr h))) = subst (λ (x : Symbol). is_neither x ≡ true) (sym h) refl

pub ruleset rule_words = (stop_here, neither_any)

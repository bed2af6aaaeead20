-- The arms of the "in select" insertion mode, one lemma each: of a token that meets its test and no earlier one, the table has this plan.
use Rattle.std.proofs.Common.{ℕ, ◌≡◌, Bool, true, false, refl, subst, sym}
use Rattle.std.proofs.lemmas.Bool.{false≢true}
use Rattle.html_names.specs.declared.tag.Tag.{Tag}
use Rattle.html_names.specs.declared.tag.Tag.TheVariants as tag
use Rattle.html_names.specs.Groups.{ends_select}
use Rattle.html_names.specs.Tags.{is_same}
use Rattle.html_tokens.specs.declared.token.TokenKind.{TokenKind}
use Rattle.html_ledger.specs.declared.fate.Cause.TheVariants.{InSelect}
use Rattle.html_ledger.specs.declared.symbol.Symbol.{Symbol}
use Rattle.html_ledger.specs.declared.symbol.Symbol.TheVariants.{Start, End, Char, Comment, Doctype, Eof}
use Rattle.html_construction.specs.declared.mode.Mode.TheVariants as mode
use Rattle.html_construction.specs.Plans.{Asks, By, Chooses, Do, DoesAny, Ending, Passes, Plan, Runs, popping}
use Rattle.html_construction.specs.States.{State}
use Rattle.html_construction.specs.Words.{InsertComment, IsOptionInGroup, Pop}
use Rattle.html_modes.specs.RuleForms.{again, done_with, ignored, ignored_doctype, over, popping_any}
use Rattle.html_modes.specs.Rules.{plan}
use Rattle.html_modes.specs.RulesInSelect.{closing_group, closing_grouped_option, closing_select, in_select, in_select_end, in_select_start}
use Rattle.html_modes.specs.RulesText.{text_char}
use Rattle.html_modes.proofs.RulesInHead.{by_head_rules}
use Rattle.html_tree.specs.declared.groups.Group.{Group}
use Rattle.html_tree.specs.declared.groups.Group.TheVariants as group
use Rattle.html_modes.proofs.RulesInBody.{by_body_rules}
use Rattle.html_modes.proofs.Ruled.{either, other_than, rule_words}

ends_select-not-Hr : (g : Tag) → ends_select g ≡ true → is_same g tag.Hr ≡ false
ends_select-not-Hr tag.Hr e = absurd (false≢true e)
ends_select-not-Hr _ e = refl

ends_select-not-Html : (g : Tag) → ends_select g ≡ true → is_same g tag.Html ≡ false
ends_select-not-Html tag.Html e = absurd (false≢true e)
ends_select-not-Html _ e = refl

ends_select-not-Optgroup : (g : Tag) → ends_select g ≡ true → is_same g tag.Optgroup ≡ false
ends_select-not-Optgroup tag.Optgroup e = absurd (false≢true e)
ends_select-not-Optgroup _ e = refl

ends_select-not-Option : (g : Tag) → ends_select g ≡ true → is_same g tag.Option ≡ false
ends_select-not-Option tag.Option e = absurd (false≢true e)
ends_select-not-Option _ e = refl

ends_select-not-Select : (g : Tag) → ends_select g ≡ true → is_same g tag.Select ≡ false
ends_select-not-Select tag.Select e = absurd (false≢true e)
ends_select-not-Select _ e = refl

pub in_select_start-Html : (g : Tag) (t : TokenKind) (a : State) (e : Ending) (z : State) → g ≡ tag.Html → Runs plan (in_select_start tag.Html) t a e z → Runs plan (in_select_start g) t a e z
in_select_start-Html g t a e z k h = subst (λ (x : Tag). Runs plan (in_select_start x) t a e z) (sym k) h

pub in_select_start-Option : (g : Tag) (t : TokenKind) (a : State) (e : Ending) (z : State) → g ≡ tag.Option → Runs plan (in_select_start tag.Option) t a e z → Runs plan (in_select_start g) t a e z
in_select_start-Option g t a e z k h = subst (λ (x : Tag). Runs plan (in_select_start x) t a e z) (sym k) h

pub in_select_start-Optgroup : (g : Tag) (t : TokenKind) (a : State) (e : Ending) (z : State) → g ≡ tag.Optgroup → Runs plan (in_select_start tag.Optgroup) t a e z → Runs plan (in_select_start g) t a e z
in_select_start-Optgroup g t a e z k h = subst (λ (x : Tag). Runs plan (in_select_start x) t a e z) (sym k) h

pub in_select_start-Hr : (g : Tag) (t : TokenKind) (a : State) (e : Ending) (z : State) → g ≡ tag.Hr → Runs plan (in_select_start tag.Hr) t a e z → Runs plan (in_select_start g) t a e z
in_select_start-Hr g t a e z k h = subst (λ (x : Tag). Runs plan (in_select_start x) t a e z) (sym k) h

pub in_select_start-Select : (g : Tag) (t : TokenKind) (a : State) (e : Ending) (z : State) → g ≡ tag.Select → Runs plan (in_select_start tag.Select) t a e z → Runs plan (in_select_start g) t a e z
in_select_start-Select g t a e z k h = subst (λ (x : Tag). Runs plan (in_select_start x) t a e z) (sym k) h

pub in_select_start-ends_select : (g : Tag) (t : TokenKind) (a : State) (e : Ending) (z : State) → ends_select g ≡ true → Runs plan (closing_select again (ignored InSelect)) t a e z → Runs plan (in_select_start g) t a e z
in_select_start-ends_select g t a e z k h = rw (ends_select-not-Html g k, ends_select-not-Option g k, ends_select-not-Optgroup g k, ends_select-not-Hr g k, ends_select-not-Select g k, k) h

pub in_select_start-Script : (g : Tag) (t : TokenKind) (a : State) (e : Ending) (z : State) → g ≡ tag.Script → Runs plan (in_select_start tag.Script) t a e z → Runs plan (in_select_start g) t a e z
in_select_start-Script g t a e z k h = subst (λ (x : Tag). Runs plan (in_select_start x) t a e z) (sym k) h

pub in_select_start-Template : (g : Tag) (t : TokenKind) (a : State) (e : Ending) (z : State) → g ≡ tag.Template → Runs plan (in_select_start tag.Template) t a e z → Runs plan (in_select_start g) t a e z
in_select_start-Template g t a e z k h = subst (λ (x : Tag). Runs plan (in_select_start x) t a e z) (sym k) h

pub in_select_start-other : (g : Tag) (t : TokenKind) (a : State) (e : Ending) (z : State) → (g ≡ tag.Html → ⊥) → (g ≡ tag.Option → ⊥) → (g ≡ tag.Optgroup → ⊥) → (g ≡ tag.Hr → ⊥) → (g ≡ tag.Select → ⊥) → ends_select g ≡ false → (g ≡ tag.Script → ⊥) → (g ≡ tag.Template → ⊥) → Runs plan (ignored InSelect) t a e z → Runs plan (in_select_start g) t a e z
in_select_start-other g t a e z n0 n1 n2 n3 n4 n5 n6 n7 h = rw (other_than g tag.Html n0, other_than g tag.Option n1, other_than g tag.Optgroup n2, other_than g tag.Hr n3, other_than g tag.Select n4, n5, other_than g tag.Script n6, other_than g tag.Template n7) h

pub in_select_end-Optgroup : (g : Tag) (t : TokenKind) (a : State) (e : Ending) (z : State) → g ≡ tag.Optgroup → Runs plan (in_select_end tag.Optgroup) t a e z → Runs plan (in_select_end g) t a e z
in_select_end-Optgroup g t a e z k h = subst (λ (x : Tag). Runs plan (in_select_end x) t a e z) (sym k) h

pub in_select_end-Option : (g : Tag) (t : TokenKind) (a : State) (e : Ending) (z : State) → g ≡ tag.Option → Runs plan (in_select_end tag.Option) t a e z → Runs plan (in_select_end g) t a e z
in_select_end-Option g t a e z k h = subst (λ (x : Tag). Runs plan (in_select_end x) t a e z) (sym k) h

pub in_select_end-Select : (g : Tag) (t : TokenKind) (a : State) (e : Ending) (z : State) → g ≡ tag.Select → Runs plan (in_select_end tag.Select) t a e z → Runs plan (in_select_end g) t a e z
in_select_end-Select g t a e z k h = subst (λ (x : Tag). Runs plan (in_select_end x) t a e z) (sym k) h

pub in_select_end-Template : (g : Tag) (t : TokenKind) (a : State) (e : Ending) (z : State) → g ≡ tag.Template → Runs plan (in_select_end tag.Template) t a e z → Runs plan (in_select_end g) t a e z
in_select_end-Template g t a e z k h = subst (λ (x : Tag). Runs plan (in_select_end x) t a e z) (sym k) h

pub in_select_end-other : (g : Tag) (t : TokenKind) (a : State) (e : Ending) (z : State) → (g ≡ tag.Optgroup → ⊥) → (g ≡ tag.Option → ⊥) → (g ≡ tag.Select → ⊥) → (g ≡ tag.Template → ⊥) → Runs plan (done_with) t a e z → Runs plan (in_select_end g) t a e z
in_select_end-other g t a e z n0 n1 n2 n3 h = rw (other_than g tag.Optgroup n0, other_than g tag.Option n1, other_than g tag.Select n2, other_than g tag.Template n3) h

pub in_select-char : (y : Symbol) (c : ℕ) (t : TokenKind) (a : State) (e : Ending) (z : State) → y ≡ Char c → Runs plan (text_char c) t a e z → Runs plan (in_select y) t a e z
in_select-char y c t a e z k h = subst (λ (x : Symbol). Runs plan (in_select x) t a e z) (sym k) h

pub in_select-comment : (y : Symbol) (t : TokenKind) (a : State) (e : Ending) (z : State) → y ≡ Comment → Runs plan (Do InsertComment over) t a e z → Runs plan (in_select y) t a e z
in_select-comment y t a e z k h = subst (λ (x : Symbol). Runs plan (in_select x) t a e z) (sym k) h

pub in_select-doctype : (y : Symbol) (t : TokenKind) (a : State) (e : Ending) (z : State) → y ≡ Doctype → Runs plan (ignored_doctype) t a e z → Runs plan (in_select y) t a e z
in_select-doctype y t a e z k h = subst (λ (x : Symbol). Runs plan (in_select x) t a e z) (sym k) h

pub in_select-start : (y : Symbol) (g : Tag) (t : TokenKind) (a : State) (e : Ending) (z : State) → y ≡ Start g → Runs plan (in_select_start g) t a e z → Runs plan (in_select y) t a e z
in_select-start y g t a e z k h = subst (λ (x : Symbol). Runs plan (in_select x) t a e z) (sym k) h

pub in_select-end : (y : Symbol) (g : Tag) (t : TokenKind) (a : State) (e : Ending) (z : State) → y ≡ End g → Runs plan (in_select_end g) t a e z → Runs plan (in_select y) t a e z
in_select-end y g t a e z k h = subst (λ (x : Symbol). Runs plan (in_select x) t a e z) (sym k) h

pub in_select-eof : (y : Symbol) (t : TokenKind) (a : State) (e : Ending) (z : State) → y ≡ Eof → Runs plan (By mode.InBody) t a e z → Runs plan (in_select y) t a e z
in_select-eof y t a e z k h = subst (λ (x : Symbol). Runs plan (in_select x) t a e z) (sym k) h

-- an option that stands on an optgroup, and the optgroup
pub grouped-closed : (a b c : State) → Asks IsOptionInGroup true a b → DoesAny Pop b c → Passes closing_grouped_option a c
grouped-closed a b c f d = λ r t p e z h. f r t (Do Pop p) p e z (d r t p e z h)

pub grouped-kept : (a b : State) → Asks IsOptionInGroup false a b → Passes closing_grouped_option a b
grouped-kept a b f = λ r t p e z h. f r t (Do Pop p) p e z h

pub group-closed : (x : Bool) (a b c : State) → Passes closing_grouped_option a b → Chooses (λ p n. popping (group.Named tag.Optgroup) p n) x b c → Passes closing_group a c
group-closed true a b c f g = λ r t p e z h. f r t (popping_any (group.Named tag.Optgroup) p) e z (g r t p p e z h)
group-closed false a b c f g = λ r t p e z h. f r t (popping_any (group.Named tag.Optgroup) p) e z (g r t p p e z h)

pub popped-any : (g : Group) (x : Bool) (p : Plan) (t : TokenKind) (a b : State) (e : Ending) (z : State) → Chooses (λ p n. popping g p n) x a b → Runs plan p t b e z → Runs plan (popping_any g p) t a e z
popped-any g x p t a b e z f h = f plan t p p e z (either x p t b e z h)

pub ruleset arms = (rule_words, by_body_rules, by_head_rules, either, in_select_start-Html, in_select_start-Option, in_select_start-Optgroup, in_select_start-Hr, in_select_start-Select, in_select_start-ends_select, in_select_start-Script, in_select_start-Template, in_select_start-other, in_select_end-Optgroup, in_select_end-Option, in_select_end-Select, in_select_end-Template, in_select_end-other, in_select-char, in_select-comment, in_select-doctype, in_select-start, in_select-end, in_select-eof, grouped-closed, grouped-kept, group-closed, popped-any)

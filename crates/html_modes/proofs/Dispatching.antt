-- Which rules an entry follows, and all the entries of a call.
use Rattle.std.proofs.Common.{◌≡◌, ◌||◌, Bool, true, false, not, cond, inl, inr, Option, Some, None, refl, sym, ap, subst, ◌∙◌}
use Rattle.std.specs.Prelude.{if◌then◌else◌}
use Rattle.std.proofs.lemmas.Bool.{false≢true}
use Rattle.html_names.specs.declared.tag.Tag.{Tag}
use Rattle.html_tokens.specs.declared.token.TokenKind.{TokenKind}
use Rattle.html_ledger.specs.declared.fate.Cause.{Cause}
use Rattle.html_ledger.specs.declared.symbol.Symbol.{Symbol}
use Rattle.html_ledger.specs.Flags.{may_select, must_drop}
use Rattle.html_open.proofs.Keeps.{cases_bool}
use Rattle.html_construction.specs.Begun.{IsFounded}
use Rattle.html_construction.specs.declared.mode.Mode.{Mode}
use Rattle.html_construction.specs.declared.mode.Mode.TheVariants as mode
use Rattle.html_construction.specs.Calls.{IsTree}
use Rattle.html_construction.specs.Foreign.{adjusted_tag, if_foreign}
use Rattle.html_construction.specs.Modes.{is_of_frames, is_of_selects}
use Rattle.html_construction.specs.Plans.{Do, Ending, Plan, Runs}
use Rattle.html_construction.specs.States.{State}
use Rattle.html_construction.specs.Words.{Becomes, Switch, with_stack}
use Rattle.html_construction.proofs.Doing.{becomes}
use Rattle.html_modes.specs.Dispatching.{FollowsOn, IsDispatched, IsEntry, is_astray, is_unfounded, settled}
use Rattle.html_modes.specs.Foreign.{around_foreign, goes_on, stack_after}
use Rattle.html_modes.specs.Guards.{is_droppable, is_table_text}
use Rattle.html_modes.specs.RuleForms.{again, ignored}
use Rattle.html_modes.specs.Rules.{Follows, plan}
use Rattle.html_modes.specs.RulesAfterAfterBody.{after_after_body}
use Rattle.html_modes.specs.RulesAfterAfterFrameset.{after_after_frameset}
use Rattle.html_modes.specs.RulesAfterBody.{after_body}
use Rattle.html_modes.specs.RulesAfterFrameset.{after_frameset}
use Rattle.html_modes.specs.RulesAfterHead.{after_head}
use Rattle.html_modes.specs.RulesBeforeHead.{before_head}
use Rattle.html_modes.specs.RulesBeforeHtml.{before_html}
use Rattle.html_modes.specs.RulesForeign.{in_foreign}
use Rattle.html_modes.specs.RulesInBody.{in_body}
use Rattle.html_modes.specs.RulesInCaption.{in_caption}
use Rattle.html_modes.specs.RulesInCell.{in_cell}
use Rattle.html_modes.specs.RulesInColumnGroup.{in_column_group}
use Rattle.html_modes.specs.RulesInFrameset.{in_frameset}
use Rattle.html_modes.specs.RulesInHead.{in_head}
use Rattle.html_modes.specs.RulesInHeadNoscript.{in_head_noscript}
use Rattle.html_modes.specs.RulesInRow.{in_row}
use Rattle.html_modes.specs.RulesInSelect.{in_select}
use Rattle.html_modes.specs.RulesInSelectInTable.{in_select_in_table}
use Rattle.html_modes.specs.RulesInTable.{in_table}
use Rattle.html_modes.specs.RulesInTableBody.{in_table_body}
use Rattle.html_modes.specs.RulesInTableText.{in_table_text}
use Rattle.html_modes.specs.RulesInTemplate.{in_template}
use Rattle.html_modes.specs.RulesInitial.{initial}
use Rattle.html_modes.specs.RulesText.{text}
use Rattle.html_modes.specs.declared.outcome.Outcome.{Outcome}
use Rattle.html_modes.specs.declared.outcome.Outcome.TheVariants.{Done, Reprocess}
use Rattle.html_modes.proofs.Embedding.{around-none}

-- THE MODE THAT IS SET

pub plan-Initial : (m : Mode) (y : Symbol) (t : TokenKind) (a : State) (e : Ending) (z : State) → m ≡ mode.Initial → Runs plan (initial y) t a e z → Runs plan (plan m y) t a e z
unfolding plan
plan-Initial m y t a e z k h = subst (λ (x : Mode). Runs plan (plan x y) t a e z) (sym k) h

pub plan-BeforeHtml : (m : Mode) (y : Symbol) (t : TokenKind) (a : State) (e : Ending) (z : State) → m ≡ mode.BeforeHtml → Runs plan (before_html y) t a e z → Runs plan (plan m y) t a e z
unfolding plan
plan-BeforeHtml m y t a e z k h = subst (λ (x : Mode). Runs plan (plan x y) t a e z) (sym k) h

pub plan-BeforeHead : (m : Mode) (y : Symbol) (t : TokenKind) (a : State) (e : Ending) (z : State) → m ≡ mode.BeforeHead → Runs plan (before_head y) t a e z → Runs plan (plan m y) t a e z
unfolding plan
plan-BeforeHead m y t a e z k h = subst (λ (x : Mode). Runs plan (plan x y) t a e z) (sym k) h

pub plan-InHead : (m : Mode) (y : Symbol) (t : TokenKind) (a : State) (e : Ending) (z : State) → m ≡ mode.InHead → Runs plan (in_head y) t a e z → Runs plan (plan m y) t a e z
unfolding plan
plan-InHead m y t a e z k h = subst (λ (x : Mode). Runs plan (plan x y) t a e z) (sym k) h

pub plan-InHeadNoscript : (m : Mode) (y : Symbol) (t : TokenKind) (a : State) (e : Ending) (z : State) → m ≡ mode.InHeadNoscript → Runs plan (in_head_noscript y) t a e z → Runs plan (plan m y) t a e z
unfolding plan
plan-InHeadNoscript m y t a e z k h = subst (λ (x : Mode). Runs plan (plan x y) t a e z) (sym k) h

pub plan-AfterHead : (m : Mode) (y : Symbol) (t : TokenKind) (a : State) (e : Ending) (z : State) → m ≡ mode.AfterHead → Runs plan (after_head y) t a e z → Runs plan (plan m y) t a e z
unfolding plan
plan-AfterHead m y t a e z k h = subst (λ (x : Mode). Runs plan (plan x y) t a e z) (sym k) h

pub plan-Text : (m : Mode) (y : Symbol) (t : TokenKind) (a : State) (e : Ending) (z : State) → m ≡ mode.Text → Runs plan (text y) t a e z → Runs plan (plan m y) t a e z
unfolding plan
plan-Text m y t a e z k h = subst (λ (x : Mode). Runs plan (plan x y) t a e z) (sym k) h

pub plan-InCaption : (m : Mode) (y : Symbol) (t : TokenKind) (a : State) (e : Ending) (z : State) → m ≡ mode.InCaption → Runs plan (in_caption y) t a e z → Runs plan (plan m y) t a e z
unfolding plan
plan-InCaption m y t a e z k h = subst (λ (x : Mode). Runs plan (plan x y) t a e z) (sym k) h

pub plan-InColumnGroup : (m : Mode) (y : Symbol) (t : TokenKind) (a : State) (e : Ending) (z : State) → m ≡ mode.InColumnGroup → Runs plan (in_column_group y) t a e z → Runs plan (plan m y) t a e z
unfolding plan
plan-InColumnGroup m y t a e z k h = subst (λ (x : Mode). Runs plan (plan x y) t a e z) (sym k) h

pub plan-InTableBody : (m : Mode) (y : Symbol) (t : TokenKind) (a : State) (e : Ending) (z : State) → m ≡ mode.InTableBody → Runs plan (in_table_body y) t a e z → Runs plan (plan m y) t a e z
unfolding plan
plan-InTableBody m y t a e z k h = subst (λ (x : Mode). Runs plan (plan x y) t a e z) (sym k) h

pub plan-InRow : (m : Mode) (y : Symbol) (t : TokenKind) (a : State) (e : Ending) (z : State) → m ≡ mode.InRow → Runs plan (in_row y) t a e z → Runs plan (plan m y) t a e z
unfolding plan
plan-InRow m y t a e z k h = subst (λ (x : Mode). Runs plan (plan x y) t a e z) (sym k) h

pub plan-InCell : (m : Mode) (y : Symbol) (t : TokenKind) (a : State) (e : Ending) (z : State) → m ≡ mode.InCell → Runs plan (in_cell y) t a e z → Runs plan (plan m y) t a e z
unfolding plan
plan-InCell m y t a e z k h = subst (λ (x : Mode). Runs plan (plan x y) t a e z) (sym k) h

pub plan-InSelect : (m : Mode) (y : Symbol) (t : TokenKind) (a : State) (e : Ending) (z : State) → m ≡ mode.InSelect → Runs plan (in_select y) t a e z → Runs plan (plan m y) t a e z
unfolding plan
plan-InSelect m y t a e z k h = subst (λ (x : Mode). Runs plan (plan x y) t a e z) (sym k) h

pub plan-InSelectInTable : (m : Mode) (y : Symbol) (t : TokenKind) (a : State) (e : Ending) (z : State) → m ≡ mode.InSelectInTable → Runs plan (in_select_in_table y) t a e z → Runs plan (plan m y) t a e z
unfolding plan
plan-InSelectInTable m y t a e z k h = subst (λ (x : Mode). Runs plan (plan x y) t a e z) (sym k) h

pub plan-InTemplate : (m : Mode) (y : Symbol) (t : TokenKind) (a : State) (e : Ending) (z : State) → m ≡ mode.InTemplate → Runs plan (in_template y) t a e z → Runs plan (plan m y) t a e z
unfolding plan
plan-InTemplate m y t a e z k h = subst (λ (x : Mode). Runs plan (plan x y) t a e z) (sym k) h

pub plan-AfterBody : (m : Mode) (y : Symbol) (t : TokenKind) (a : State) (e : Ending) (z : State) → m ≡ mode.AfterBody → Runs plan (after_body y) t a e z → Runs plan (plan m y) t a e z
unfolding plan
plan-AfterBody m y t a e z k h = subst (λ (x : Mode). Runs plan (plan x y) t a e z) (sym k) h

pub plan-InFrameset : (m : Mode) (y : Symbol) (t : TokenKind) (a : State) (e : Ending) (z : State) → m ≡ mode.InFrameset → Runs plan (in_frameset y) t a e z → Runs plan (plan m y) t a e z
unfolding plan
plan-InFrameset m y t a e z k h = subst (λ (x : Mode). Runs plan (plan x y) t a e z) (sym k) h

pub plan-AfterFrameset : (m : Mode) (y : Symbol) (t : TokenKind) (a : State) (e : Ending) (z : State) → m ≡ mode.AfterFrameset → Runs plan (after_frameset y) t a e z → Runs plan (plan m y) t a e z
unfolding plan
plan-AfterFrameset m y t a e z k h = subst (λ (x : Mode). Runs plan (plan x y) t a e z) (sym k) h

pub plan-AfterAfterBody : (m : Mode) (y : Symbol) (t : TokenKind) (a : State) (e : Ending) (z : State) → m ≡ mode.AfterAfterBody → Runs plan (after_after_body y) t a e z → Runs plan (plan m y) t a e z
unfolding plan
plan-AfterAfterBody m y t a e z k h = subst (λ (x : Mode). Runs plan (plan x y) t a e z) (sym k) h

pub plan-AfterAfterFrameset : (m : Mode) (y : Symbol) (t : TokenKind) (a : State) (e : Ending) (z : State) → m ≡ mode.AfterAfterFrameset → Runs plan (after_after_frameset y) t a e z → Runs plan (plan m y) t a e z
unfolding plan
plan-AfterAfterFrameset m y t a e z k h = subst (λ (x : Mode). Runs plan (plan x y) t a e z) (sym k) h

pub plan-InBody : (m : Mode) (y : Symbol) (t : TokenKind) (a : State) (e : Ending) (z : State) → m ≡ mode.InBody → Runs plan (in_body y) t a e z → Runs plan (plan m y) t a e z
unfolding plan
plan-InBody m y t a e z k h = subst (λ (x : Mode). Runs plan (plan x y) t a e z) (sym k) h

pub plan-InTable : (m : Mode) (y : Symbol) (t : TokenKind) (a : State) (e : Ending) (z : State) → m ≡ mode.InTable → Runs plan (in_table y) t a e z → Runs plan (plan m y) t a e z
unfolding plan
plan-InTable m y t a e z k h = subst (λ (x : Mode). Runs plan (plan x y) t a e z) (sym k) h

pub plan-InTableText : (m : Mode) (y : Symbol) (t : TokenKind) (a : State) (e : Ending) (z : State) → m ≡ mode.InTableText → Runs plan (in_table_text y) t a e z → Runs plan (plan m y) t a e z
unfolding plan
plan-InTableText m y t a e z k h = subst (λ (x : Mode). Runs plan (plan x y) t a e z) (sym k) h

pub ruleset plans = (plan-Initial, plan-BeforeHtml, plan-BeforeHead, plan-InHead, plan-InHeadNoscript, plan-AfterHead, plan-Text, plan-InCaption, plan-InColumnGroup, plan-InTableBody, plan-InRow, plan-InCell, plan-InSelect, plan-InSelectInTable, plan-InTemplate, plan-AfterBody, plan-InFrameset, plan-AfterFrameset, plan-AfterAfterBody, plan-AfterAfterFrameset, plan-InBody, plan-InTable, plan-InTableText)

-- AN ENTRY

table_text-is : (m : Mode) → is_table_text m ≡ true → m ≡ mode.InTableText
table_text-is mode.InTableText e = refl
table_text-is _ e = absurd (false≢true e)

some-is : (c d : Cause) → Some c ≡ Some d → c ≡ d
some-is c d e = let q : Some c ≡ Some d = e in cc

none-some : (o : Option Cause) (c : Cause) → o ≡ None → o ≡ Some c → ⊥
none-some o c n s = let q : None ≡ Some c = sym n ∙ s in cc

none-tag : (o : Option Tag) (g : Tag) → o ≡ None → o ≡ Some g → ⊥
none-tag o g n s = let q : None ≡ Some g = sym n ∙ s in cc

not-both : (b : Bool) → b ≡ false → b ≡ true → ⊥
not-both b f t = false≢true (sym f ∙ t)

pub entry-kept : (o : Outcome) (y : Symbol) (t : TokenKind) (a z : State) → is_table_text a.mode ≡ true → Follows (in_table_text y) t o a z → IsEntry o y t a z
entry-kept o y t a z k h = record {
  kept = λ m. plan-InTableText a.mode y t a _ z (table_text-is a.mode k) h;
  ignored_by_all = λ c f d. absurd (not-both (is_table_text a.mode) f k);
  astray = λ f n s. absurd (not-both (is_table_text a.mode) f k);
  dispatched = λ f n s. absurd (not-both (is_table_text a.mode) f k);
}

pub entry-ignored : (c : Cause) (y : Symbol) (t : TokenKind) (a z : State) → is_table_text a.mode ≡ false → must_drop a.ledger.history y ≡ Some c → Follows (ignored c) t Done a z → IsEntry Done y t a z
entry-ignored c y t a z f d h = record {
  kept = λ m. absurd (not-both (is_table_text a.mode) f m);
  ignored_by_all = λ x g e. subst (λ (v : Cause). Follows (ignored v) t Done a z) (some-is c x (sym d ∙ e)) h;
  astray = λ g n s. absurd (none-some (must_drop a.ledger.history y) c n d);
  dispatched = λ g n s. absurd (none-some (must_drop a.ledger.history y) c n d);
}

pub entry-astray : (y : Symbol) (t : TokenKind) (a z : State) → is_table_text a.mode ≡ false → must_drop a.ledger.history y ≡ None → is_astray a y ≡ true → Follows (Do (Switch mode.InBody) again) t Reprocess a z → IsEntry Reprocess y t a z
entry-astray y t a z f n s h = record {
  kept = λ m. absurd (not-both (is_table_text a.mode) f m);
  ignored_by_all = λ x g e. absurd (none-some (must_drop a.ledger.history y) x n e);
  astray = λ g m r. h;
  dispatched = λ g m r. absurd (not-both (is_astray a y) r s);
}

pub entry-dispatched : (o : Outcome) (y : Symbol) (t : TokenKind) (a z : State) → is_table_text a.mode ≡ false → must_drop a.ledger.history y ≡ None → is_astray a y ≡ false → IsDispatched o y t a z → IsEntry o y t a z
entry-dispatched o y t a z f n s h = record {
  kept = λ m. absurd (not-both (is_table_text a.mode) f m);
  ignored_by_all = λ x g e. absurd (none-some (must_drop a.ledger.history y) x n e);
  astray = λ g m r. absurd (not-both (is_astray a y) s r);
  dispatched = λ g m r. h;
}

-- THE DISPATCHER

native-none : (a : State) (y : Symbol) (t : TokenKind) → a.ledger.history.foreign ≡ false → around_foreign a y t ≡ None
native-none a y t e = around-none a y t (by a.ledger.history.foreign (if_foreign (adjusted_tag a)) e)
  where
    by : (h : Bool) (n : Option Tag) → h ≡ false → (if h then n else None) ≡ None
    by false n e = refl
    by true n e = absurd (false≢true (sym e))

pub dispatched-outside : (o : Outcome) (y : Symbol) (t : TokenKind) (a z : State) → around_foreign a y t ≡ None → Follows (plan a.mode y) t o a z → IsDispatched o y t a z
dispatched-outside o y t a z n h = record {
  by_mode = λ e. h;
  handed_on = λ g e k. absurd (none-tag (around_foreign a y t) g n e);
  stays = λ g e k. absurd (none-tag (around_foreign a y t) g n e);
}

pub dispatched-native : (o : Outcome) (y : Symbol) (t : TokenKind) (a z : State) → a.ledger.history.foreign ≡ false → Follows (plan a.mode y) t o a z → IsDispatched o y t a z
dispatched-native o y t a z e h = dispatched-outside o y t a z (native-none a y t e) h

some-tag-is : (g x : Tag) → Some g ≡ Some x → g ≡ x
some-tag-is g x e = let q : Some g ≡ Some x = e in cc

pub dispatched-around : (g : Tag) (o : Outcome) (y : Symbol) (t : TokenKind) (a z : State) → around_foreign a y t ≡ Some g → (goes_on a.tree y t ≡ true → FollowsOn (plan a.mode y) o y t a z)
    → (goes_on a.tree y t ≡ false → FollowsOn (in_foreign g y) o y t a z) → IsDispatched o y t a z
dispatched-around g o y t a z s h f = record {
  by_mode = λ e. absurd (none-tag (around_foreign a y t) g e s);
  handed_on = λ x e k. h k;
  stays = λ x e k. subst (λ (v : Tag). FollowsOn (in_foreign v y) o y t a z) (some-tag-is g x (sym s ∙ e)) (f k);
}

pub closed-then : (p : Plan) (o : Outcome) (y : Symbol) (t : TokenKind) (a m z : State) → m ≡ record a { tree = m.tree; stack = m.stack } → IsTree (record a.tree { stack = stack_after a.tree y t }) m → Follows p t o m z → FollowsOn p o y t a z
closed-then p o y t a m z r i h = record { middle = m; left = becomes (with_stack (stack_after a.tree y t) a) m r i; follows = h }

pub left-on : (o : Outcome) (y : Symbol) (t : TokenKind) (a m z : State) → m ≡ record a { tree = m.tree; stack = m.stack } → IsTree (record a.tree { stack = stack_after a.tree y t }) m → Follows (plan m.mode y) t o m z → FollowsOn (plan a.mode y) o y t a z
left-on o y t a m z r i h = closed-then (plan a.mode y) o y t a m z r i (subst (λ (x : Mode). Follows (plan x y) t o m z) (ap (λ (x : State). x.mode) r) h)

pub ruleset entries = (entry-kept, entry-ignored, entry-astray, entry-dispatched, dispatched-outside, dispatched-native, dispatched-around)

-- WHAT AN ENTRY FOLLOWS

pub data Way (o : Outcome) (y : Symbol) (t : TokenKind) (a z : State) : Type 0 where
  planned : Follows (plan a.mode y) t o a z → Way o y t a z
  handed : (g : Tag) → around_foreign a y t ≡ Some g → FollowsOn (plan a.mode y) o y t a z → Way o y t a z
  dropped : (c : Cause) → must_drop a.ledger.history y ≡ Some c → Follows (ignored c) t o a z → Way o y t a z
  strayed : is_astray a y ≡ true → Follows (Do (Switch mode.InBody) again) t o a z → Way o y t a z
  stayed : (g : Tag) → around_foreign a y t ≡ Some g → FollowsOn (in_foreign g y) o y t a z → Way o y t a z

pub way : (o : Outcome) (y : Symbol) (t : TokenKind) (a z : State) → IsEntry o y t a z → Way o y t a z
way o y t a z i = elim (cases_bool (is_table_text a.mode)) [ inl k ↦ planned (i.kept k) | inr k ↦ by (must_drop a.ledger.history y) refl k ]
  where
    around : (n : Option Tag) → around_foreign a y t ≡ n → IsDispatched o y t a z → Way o y t a z
    around None e d = planned (d.by_mode e)
    around (Some g) e d = elim (cases_bool (goes_on a.tree y t)) [ inl k ↦ handed g e (d.handed_on g e k) | inr k ↦ stayed g e (d.stays g e k) ]

    by : (n : Option Cause) → must_drop a.ledger.history y ≡ n → is_table_text a.mode ≡ false → Way o y t a z
    by (Some c) e k = dropped c e (i.ignored_by_all c k e)
    by None e k = elim (cases_bool (is_astray a y)) [ inl n ↦ strayed n (i.astray k e n) | inr n ↦ around (around_foreign a y t) refl (i.dispatched k e n) ]

-- in modes of neither selects nor frames no token is astray; nor where a call begins to whose mode something leads
pub never-astray : (a : State) (y : Symbol) → is_of_selects a.mode ≡ false → is_of_frames a.mode ≡ false → is_astray a y ≡ false
never-astray a y s f = rw (s, f) (by (is_droppable y))
  where
    by : (d : Bool) → cond d false false ≡ false
    by true = refl
    by false = refl

pub founded-astray : (a : State) (y : Symbol) → IsFounded a → a.began ≡ a.mode → is_astray a y ≡ false
founded-astray a y w b = by (is_of_selects a.mode) (is_of_frames a.mode) refl refl (is_droppable y)
  where
    by : (s f : Bool) → is_of_selects a.mode ≡ s → is_of_frames a.mode ≡ f → (d : Bool)
        → cond d (cond s (not (is_of_selects a.began) || not (may_select a.ledger.history)) (cond f (not (is_of_frames a.began) || not a.ledger.history.frameset) false)) false ≡ false
    by s f p q false = refl
    by true f p q true = rw (ap is_of_selects b ∙ p, w.select p) refl
    by false true p q true = rw (ap is_of_frames b ∙ q, w.frameset q) refl
    by false false p q true = refl

-- BETWEEN ENTRIES

pub counted-becomes : (a b : State) → b ≡ record a { tree = b.tree } → IsTree a.tree b → Becomes a b
counted-becomes a b r i = becomes a b (r ∙ ap (λ s. record a { tree = b.tree; stack = s }) (sym (ap (λ (x : State). x.stack) r))) i

-- GUARDS

pub astray-never : (a : State) (y : Symbol) (x : Bool) → is_droppable y ≡ false → x ≡ false → x ≡ is_astray a y
astray-never a y x d e = rw (d) e

pub astray-selects : (a : State) (y : Symbol) (x : Bool) → is_droppable y ≡ true → is_of_selects a.mode ≡ true → x ≡ (not (is_of_selects a.began) || not (may_select a.ledger.history)) → x ≡ is_astray a y
astray-selects a y x d s e = rw (d, s) e

pub astray-frames : (a : State) (y : Symbol) (x : Bool) → is_droppable y ≡ true → is_of_selects a.mode ≡ false → is_of_frames a.mode ≡ true → x ≡ (not (is_of_frames a.began) || not a.ledger.history.frameset) → x ≡ is_astray a y
astray-frames a y x d s f e = rw (d, s, f) e

pub astray-other : (a : State) (y : Symbol) (x : Bool) → is_droppable y ≡ true → is_of_selects a.mode ≡ false → is_of_frames a.mode ≡ false → x ≡ false → x ≡ is_astray a y
astray-other a y x d s f e = rw (d, s, f) e

pub unfounded-selects : (a : State) (x : Bool) → is_of_selects a.mode ≡ true → x ≡ not (may_select a.ledger.history) → x ≡ is_unfounded a
unfounded-selects a x s e = rw (s) e

pub unfounded-frames : (a : State) (x : Bool) → is_of_selects a.mode ≡ false → is_of_frames a.mode ≡ true → x ≡ not a.ledger.history.frameset → x ≡ is_unfounded a
unfounded-frames a x s f e = rw (s, f) e

pub unfounded-other : (a : State) (x : Bool) → is_of_selects a.mode ≡ false → is_of_frames a.mode ≡ false → x ≡ false → x ≡ is_unfounded a
unfounded-other a x s f e = rw (s, f) e

pub settled-kept : (a z : State) → is_unfounded a ≡ false → z ≡ a → z ≡ settled a
settled-kept a z u e = rw (u) e

pub settled-body : (a z : State) → is_unfounded a ≡ true → z ≡ record a { mode = mode.InBody } → z ≡ settled a
settled-body a z u e = rw (u) e

pub ruleset guards = (astray-never, astray-selects, astray-frames, astray-other, unfounded-selects, unfounded-frames, unfounded-other, settled-kept, settled-body)

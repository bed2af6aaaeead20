-- The arms of the end tags of the "in body" insertion mode, one lemma each: of a token that meets its test and no earlier one, the table has this plan.
use Rattle.std.proofs.Common.{◌≡◌, true, false, refl, sym, subst}
use Rattle.std.proofs.lemmas.Bool.{false≢true}
use Rattle.html_names.specs.declared.tag.Tag.{Tag}
use Rattle.html_names.specs.Groups.{is_definition, is_preformatted, takes_marker}
use Rattle.html_names.specs.Sets.{is_block, is_formatting, is_heading}
use Rattle.html_names.specs.Tags.{is_same}
use Rattle.html_tokens.specs.declared.token.TokenKind.{TokenKind}
use Rattle.html_construction.specs.Plans.{Adopt, Do, Ending, Plan, Runs, closing}
use Rattle.html_construction.specs.States.{State}
use Rattle.html_construction.specs.Words.{ClearToMarker, CloseNamed}
use Rattle.html_modes.specs.RuleForms.{closing_any, done_with}
use Rattle.html_modes.specs.Rules.{plan}
use Rattle.html_modes.specs.RulesInBodyEnd.{closing_block, in_body_closing, in_body_end}
use Rattle.html_modes.proofs.RulesInHead.{by_head_rules}
use Rattle.html_modes.proofs.Ruled.{either, other_than, rule_words}
use Rattle.html_names.specs.declared.sets.Scope.TheVariants as scope
use Rattle.html_names.specs.declared.tag.Tag.TheVariants as tag
use Rattle.html_tree.specs.declared.groups.Group.TheVariants as group
use Rattle.html_tree.specs.declared.groups.Stop.TheVariants as stop

is_preformatted-not-is_block : (g : Tag) → is_preformatted g ≡ true → is_block g ≡ false
is_preformatted-not-is_block tag.Listing e = refl
is_preformatted-not-is_block tag.Pre e = refl
is_preformatted-not-is_block _ e = absurd (false≢true e)

is_definition-not-is_block : (g : Tag) → is_definition g ≡ true → is_block g ≡ false
is_definition-not-is_block tag.Dd e = refl
is_definition-not-is_block tag.Dt e = refl
is_definition-not-is_block _ e = absurd (false≢true e)

is_definition-not-is_preformatted : (g : Tag) → is_definition g ≡ true → is_preformatted g ≡ false
is_definition-not-is_preformatted tag.Listing e = absurd (false≢true e)
is_definition-not-is_preformatted tag.Pre e = absurd (false≢true e)
is_definition-not-is_preformatted _ e = refl

is_definition-not-Button : (g : Tag) → is_definition g ≡ true → is_same g tag.Button ≡ false
is_definition-not-Button tag.Button e = absurd (false≢true e)
is_definition-not-Button _ e = refl

is_definition-not-Form : (g : Tag) → is_definition g ≡ true → is_same g tag.Form ≡ false
is_definition-not-Form tag.Form e = absurd (false≢true e)
is_definition-not-Form _ e = refl

is_definition-not-P : (g : Tag) → is_definition g ≡ true → is_same g tag.P ≡ false
is_definition-not-P tag.P e = absurd (false≢true e)
is_definition-not-P _ e = refl

is_definition-not-Li : (g : Tag) → is_definition g ≡ true → is_same g tag.Li ≡ false
is_definition-not-Li tag.Li e = absurd (false≢true e)
is_definition-not-Li _ e = refl

is_heading-not-is_block : (g : Tag) → is_heading g ≡ true → is_block g ≡ false
is_heading-not-is_block tag.H1 e = refl
is_heading-not-is_block tag.H2 e = refl
is_heading-not-is_block tag.H3 e = refl
is_heading-not-is_block tag.H4 e = refl
is_heading-not-is_block tag.H5 e = refl
is_heading-not-is_block tag.H6 e = refl
is_heading-not-is_block _ e = absurd (false≢true e)

is_heading-not-is_preformatted : (g : Tag) → is_heading g ≡ true → is_preformatted g ≡ false
is_heading-not-is_preformatted tag.Listing e = absurd (false≢true e)
is_heading-not-is_preformatted tag.Pre e = absurd (false≢true e)
is_heading-not-is_preformatted _ e = refl

is_heading-not-Button : (g : Tag) → is_heading g ≡ true → is_same g tag.Button ≡ false
is_heading-not-Button tag.Button e = absurd (false≢true e)
is_heading-not-Button _ e = refl

is_heading-not-Form : (g : Tag) → is_heading g ≡ true → is_same g tag.Form ≡ false
is_heading-not-Form tag.Form e = absurd (false≢true e)
is_heading-not-Form _ e = refl

is_heading-not-P : (g : Tag) → is_heading g ≡ true → is_same g tag.P ≡ false
is_heading-not-P tag.P e = absurd (false≢true e)
is_heading-not-P _ e = refl

is_heading-not-Li : (g : Tag) → is_heading g ≡ true → is_same g tag.Li ≡ false
is_heading-not-Li tag.Li e = absurd (false≢true e)
is_heading-not-Li _ e = refl

is_heading-not-is_definition : (g : Tag) → is_heading g ≡ true → is_definition g ≡ false
is_heading-not-is_definition tag.Dd e = absurd (false≢true e)
is_heading-not-is_definition tag.Dt e = absurd (false≢true e)
is_heading-not-is_definition _ e = refl

is_formatting-not-is_block : (g : Tag) → is_formatting g ≡ true → is_block g ≡ false
is_formatting-not-is_block tag.A e = refl
is_formatting-not-is_block tag.B e = refl
is_formatting-not-is_block tag.Big e = refl
is_formatting-not-is_block tag.Code e = refl
is_formatting-not-is_block tag.Em e = refl
is_formatting-not-is_block tag.Font e = refl
is_formatting-not-is_block tag.I e = refl
is_formatting-not-is_block tag.Nobr e = refl
is_formatting-not-is_block tag.S e = refl
is_formatting-not-is_block tag.Small e = refl
is_formatting-not-is_block tag.Strike e = refl
is_formatting-not-is_block tag.Strong e = refl
is_formatting-not-is_block tag.Tt e = refl
is_formatting-not-is_block tag.U e = refl
is_formatting-not-is_block _ e = absurd (false≢true e)

is_formatting-not-is_preformatted : (g : Tag) → is_formatting g ≡ true → is_preformatted g ≡ false
is_formatting-not-is_preformatted tag.Listing e = absurd (false≢true e)
is_formatting-not-is_preformatted tag.Pre e = absurd (false≢true e)
is_formatting-not-is_preformatted _ e = refl

is_formatting-not-Button : (g : Tag) → is_formatting g ≡ true → is_same g tag.Button ≡ false
is_formatting-not-Button tag.Button e = absurd (false≢true e)
is_formatting-not-Button _ e = refl

is_formatting-not-Form : (g : Tag) → is_formatting g ≡ true → is_same g tag.Form ≡ false
is_formatting-not-Form tag.Form e = absurd (false≢true e)
is_formatting-not-Form _ e = refl

is_formatting-not-P : (g : Tag) → is_formatting g ≡ true → is_same g tag.P ≡ false
is_formatting-not-P tag.P e = absurd (false≢true e)
is_formatting-not-P _ e = refl

is_formatting-not-Li : (g : Tag) → is_formatting g ≡ true → is_same g tag.Li ≡ false
is_formatting-not-Li tag.Li e = absurd (false≢true e)
is_formatting-not-Li _ e = refl

is_formatting-not-is_definition : (g : Tag) → is_formatting g ≡ true → is_definition g ≡ false
is_formatting-not-is_definition tag.Dd e = absurd (false≢true e)
is_formatting-not-is_definition tag.Dt e = absurd (false≢true e)
is_formatting-not-is_definition _ e = refl

is_formatting-not-is_heading : (g : Tag) → is_formatting g ≡ true → is_heading g ≡ false
is_formatting-not-is_heading tag.H1 e = absurd (false≢true e)
is_formatting-not-is_heading tag.H2 e = absurd (false≢true e)
is_formatting-not-is_heading tag.H3 e = absurd (false≢true e)
is_formatting-not-is_heading tag.H4 e = absurd (false≢true e)
is_formatting-not-is_heading tag.H5 e = absurd (false≢true e)
is_formatting-not-is_heading tag.H6 e = absurd (false≢true e)
is_formatting-not-is_heading _ e = refl

takes_marker-not-is_block : (g : Tag) → takes_marker g ≡ true → is_block g ≡ false
takes_marker-not-is_block tag.Applet e = refl
takes_marker-not-is_block tag.Marquee e = refl
takes_marker-not-is_block tag.Object e = refl
takes_marker-not-is_block _ e = absurd (false≢true e)

takes_marker-not-is_preformatted : (g : Tag) → takes_marker g ≡ true → is_preformatted g ≡ false
takes_marker-not-is_preformatted tag.Listing e = absurd (false≢true e)
takes_marker-not-is_preformatted tag.Pre e = absurd (false≢true e)
takes_marker-not-is_preformatted _ e = refl

takes_marker-not-Button : (g : Tag) → takes_marker g ≡ true → is_same g tag.Button ≡ false
takes_marker-not-Button tag.Button e = absurd (false≢true e)
takes_marker-not-Button _ e = refl

takes_marker-not-Form : (g : Tag) → takes_marker g ≡ true → is_same g tag.Form ≡ false
takes_marker-not-Form tag.Form e = absurd (false≢true e)
takes_marker-not-Form _ e = refl

takes_marker-not-P : (g : Tag) → takes_marker g ≡ true → is_same g tag.P ≡ false
takes_marker-not-P tag.P e = absurd (false≢true e)
takes_marker-not-P _ e = refl

takes_marker-not-Li : (g : Tag) → takes_marker g ≡ true → is_same g tag.Li ≡ false
takes_marker-not-Li tag.Li e = absurd (false≢true e)
takes_marker-not-Li _ e = refl

takes_marker-not-is_definition : (g : Tag) → takes_marker g ≡ true → is_definition g ≡ false
takes_marker-not-is_definition tag.Dd e = absurd (false≢true e)
takes_marker-not-is_definition tag.Dt e = absurd (false≢true e)
takes_marker-not-is_definition _ e = refl

takes_marker-not-is_heading : (g : Tag) → takes_marker g ≡ true → is_heading g ≡ false
takes_marker-not-is_heading tag.Applet e = refl
takes_marker-not-is_heading tag.Marquee e = refl
takes_marker-not-is_heading tag.Object e = refl
takes_marker-not-is_heading _ e = absurd (false≢true e)

takes_marker-not-is_formatting : (g : Tag) → takes_marker g ≡ true → is_formatting g ≡ false
takes_marker-not-is_formatting tag.Applet e = refl
takes_marker-not-is_formatting tag.Marquee e = refl
takes_marker-not-is_formatting tag.Object e = refl
takes_marker-not-is_formatting _ e = absurd (false≢true e)

pub in_body_closing-is_block : (p : Plan) (g : Tag) (t : TokenKind) (a : State) (e : Ending) (z : State) → is_block g ≡ true → Runs plan (closing_block g p) t a e z → Runs plan (in_body_closing g p) t a e z
in_body_closing-is_block p g t a e z k h = rw (k) h

pub in_body_closing-is_preformatted : (p : Plan) (g : Tag) (t : TokenKind) (a : State) (e : Ending) (z : State) → is_preformatted g ≡ true → Runs plan (closing_block g p) t a e z → Runs plan (in_body_closing g p) t a e z
in_body_closing-is_preformatted p g t a e z k h = rw (is_preformatted-not-is_block g k, k) h

pub in_body_closing-Button : (p : Plan) (g : Tag) (t : TokenKind) (a : State) (e : Ending) (z : State) → g ≡ tag.Button → Runs plan (in_body_closing tag.Button p) t a e z → Runs plan (in_body_closing g p) t a e z
in_body_closing-Button p g t a e z k h = subst (λ (x : Tag). Runs plan (in_body_closing x p) t a e z) (sym k) h

pub in_body_closing-Form : (p : Plan) (g : Tag) (t : TokenKind) (a : State) (e : Ending) (z : State) → g ≡ tag.Form → Runs plan (in_body_closing tag.Form p) t a e z → Runs plan (in_body_closing g p) t a e z
in_body_closing-Form p g t a e z k h = subst (λ (x : Tag). Runs plan (in_body_closing x p) t a e z) (sym k) h

pub in_body_closing-P : (p : Plan) (g : Tag) (t : TokenKind) (a : State) (e : Ending) (z : State) → g ≡ tag.P → Runs plan (in_body_closing tag.P p) t a e z → Runs plan (in_body_closing g p) t a e z
in_body_closing-P p g t a e z k h = subst (λ (x : Tag). Runs plan (in_body_closing x p) t a e z) (sym k) h

pub in_body_closing-Li : (p : Plan) (g : Tag) (t : TokenKind) (a : State) (e : Ending) (z : State) → g ≡ tag.Li → Runs plan (in_body_closing tag.Li p) t a e z → Runs plan (in_body_closing g p) t a e z
in_body_closing-Li p g t a e z k h = subst (λ (x : Tag). Runs plan (in_body_closing x p) t a e z) (sym k) h

pub in_body_closing-is_definition : (p : Plan) (g : Tag) (t : TokenKind) (a : State) (e : Ending) (z : State) → is_definition g ≡ true → Runs plan (closing_block g p) t a e z → Runs plan (in_body_closing g p) t a e z
in_body_closing-is_definition p g t a e z k h = rw (is_definition-not-is_block g k, is_definition-not-is_preformatted g k, is_definition-not-Button g k, is_definition-not-Form g k, is_definition-not-P g k, is_definition-not-Li g k, k) h

pub in_body_closing-is_heading : (p : Plan) (g : Tag) (t : TokenKind) (a : State) (e : Ending) (z : State) → is_heading g ≡ true → Runs plan (closing_any group.Heading (stop.EndOf scope.Default) p) t a e z → Runs plan (in_body_closing g p) t a e z
in_body_closing-is_heading p g t a e z k h = rw (is_heading-not-is_block g k, is_heading-not-is_preformatted g k, is_heading-not-Button g k, is_heading-not-Form g k, is_heading-not-P g k, is_heading-not-Li g k, is_heading-not-is_definition g k, k) h

pub in_body_closing-is_formatting : (p : Plan) (g : Tag) (t : TokenKind) (a : State) (e : Ending) (z : State) → is_formatting g ≡ true → Runs plan (Adopt g p) t a e z → Runs plan (in_body_closing g p) t a e z
in_body_closing-is_formatting p g t a e z k h = rw (is_formatting-not-is_block g k, is_formatting-not-is_preformatted g k, is_formatting-not-Button g k, is_formatting-not-Form g k, is_formatting-not-P g k, is_formatting-not-Li g k, is_formatting-not-is_definition g k, is_formatting-not-is_heading g k, k) h

pub in_body_closing-takes_marker : (p : Plan) (g : Tag) (t : TokenKind) (a : State) (e : Ending) (z : State) → takes_marker g ≡ true → Runs plan (closing (group.Named g) (stop.EndOf scope.Default) (Do ClearToMarker p) p) t a e z → Runs plan (in_body_closing g p) t a e z
in_body_closing-takes_marker p g t a e z k h = rw (takes_marker-not-is_block g k, takes_marker-not-is_preformatted g k, takes_marker-not-Button g k, takes_marker-not-Form g k, takes_marker-not-P g k, takes_marker-not-Li g k, takes_marker-not-is_definition g k, takes_marker-not-is_heading g k, takes_marker-not-is_formatting g k, k) h

pub in_body_closing-Br : (p : Plan) (g : Tag) (t : TokenKind) (a : State) (e : Ending) (z : State) → g ≡ tag.Br → Runs plan (in_body_closing tag.Br p) t a e z → Runs plan (in_body_closing g p) t a e z
in_body_closing-Br p g t a e z k h = subst (λ (x : Tag). Runs plan (in_body_closing x p) t a e z) (sym k) h

pub in_body_closing-other : (p : Plan) (g : Tag) (t : TokenKind) (a : State) (e : Ending) (z : State) → is_block g ≡ false → is_preformatted g ≡ false → (g ≡ tag.Button → ⊥) → (g ≡ tag.Form → ⊥) → (g ≡ tag.P → ⊥) → (g ≡ tag.Li → ⊥) → is_definition g ≡ false → is_heading g ≡ false → is_formatting g ≡ false → takes_marker g ≡ false → (g ≡ tag.Br → ⊥) → Runs plan (Do CloseNamed p) t a e z → Runs plan (in_body_closing g p) t a e z
in_body_closing-other p g t a e z n0 n1 n2 n3 n4 n5 n6 n7 n8 n9 n10 h = rw (n0, n1, other_than g tag.Button n2, other_than g tag.Form n3, other_than g tag.P n4, other_than g tag.Li n5, n6, n7, n8, n9, other_than g tag.Br n10) h

pub in_body_end-Template : (g : Tag) (t : TokenKind) (a : State) (e : Ending) (z : State) → g ≡ tag.Template → Runs plan (in_body_end tag.Template) t a e z → Runs plan (in_body_end g) t a e z
in_body_end-Template g t a e z k h = subst (λ (x : Tag). Runs plan (in_body_end x) t a e z) (sym k) h

pub in_body_end-Body : (g : Tag) (t : TokenKind) (a : State) (e : Ending) (z : State) → g ≡ tag.Body → Runs plan (in_body_end tag.Body) t a e z → Runs plan (in_body_end g) t a e z
in_body_end-Body g t a e z k h = subst (λ (x : Tag). Runs plan (in_body_end x) t a e z) (sym k) h

pub in_body_end-other : (g : Tag) (t : TokenKind) (a : State) (e : Ending) (z : State) → (g ≡ tag.Template → ⊥) → (g ≡ tag.Body → ⊥) → is_same g tag.Html ≡ false → Runs plan (in_body_closing g done_with) t a e z → Runs plan (in_body_end g) t a e z
in_body_end-other g t a e z n0 n1 n2 h = rw (other_than g tag.Template n0, other_than g tag.Body n1, n2) h

pub ruleset arms = (rule_words, by_head_rules, either, in_body_closing-is_block, in_body_closing-is_preformatted, in_body_closing-Button, in_body_closing-Form, in_body_closing-P, in_body_closing-Li, in_body_closing-is_definition, in_body_closing-is_heading, in_body_closing-is_formatting, in_body_closing-takes_marker, in_body_closing-Br, in_body_closing-other, in_body_end-Template, in_body_end-Body, in_body_end-other)

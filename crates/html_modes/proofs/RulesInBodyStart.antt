-- The arms of the start tags of the "in body" insertion mode, one lemma each: of a token that meets its test and no earlier one, the table has this plan.
use Rattle.std.proofs.Common.{◌≡◌, Bool, true, false, refl, sym, subst, if◌then◌else◌}
use Rattle.std.proofs.lemmas.Bool.{false≢true}
use Rattle.html_names.specs.declared.foreign.Space.{Space}
use Rattle.html_names.specs.declared.tag.Tag.{Tag}
use Rattle.html_names.specs.Groups.{is_definition, is_placed, is_preformatted, is_void_part, is_void_phrase, takes_marker}
use Rattle.html_names.specs.Sets.{is_block, is_formatting, is_heading, is_headish, is_void}
use Rattle.html_names.specs.Tags.{is_same}
use Rattle.html_tokens.specs.declared.token.TokenKind.{TokenKind}
use Rattle.html_ledger.specs.declared.fate.Cause.TheVariants.{Misplaced}
use Rattle.html_ledger.specs.declared.symbol.Symbol.TheVariants.{Start}
use Rattle.html_ledger.specs.Flags.{may_misplace_tag}
use Rattle.html_tree.specs.Proper.{is_foreign_root}
use Rattle.html_construction.specs.Plans.{Ask, By, Do, Ending, Plan, Reconstruct, Refused, Runs}
use Rattle.html_construction.specs.States.{State}
use Rattle.html_construction.specs.Tokens.{attrs_of, closes_itself}
use Rattle.html_construction.specs.Words.{AddMarker, ClosesItself, FramesetOff, Insert, InsertVoid, IsHidden, IsInTable, MayMisplace, ParsesForeign, is_hidden, is_in_table}
use Rattle.html_construction.proofs.Weighing.{same-tag}
use Rattle.html_modes.specs.RawText.{is_body_text}
use Rattle.html_modes.specs.RuleForms.{closing_p, embedding, ignored, over, popping_any}
use Rattle.html_modes.specs.Rules.{plan}
use Rattle.html_modes.specs.RulesInBodyStart.{among_text, formatting, in_body_start, in_body_start_phrase, in_body_start_rest, void_among_text}
use Rattle.html_modes.specs.RulesInHead.{holding_text}
use Rattle.html_modes.specs.Steps.{root_of, root_space}
use Rattle.html_modes.specs.declared.outcome.Foreign.{Foreign}
use Rattle.html_modes.proofs.RulesInHead.{by_head_rules}
use Rattle.html_modes.proofs.Ruled.{other_than, rule_words, stop_here, asked}
use Rattle.html_names.specs.declared.tag.Tag.TheVariants as tag
use Rattle.html_names.specs.declared.foreign.Space.TheVariants as space
use Rattle.html_tree.specs.declared.groups.Group.TheVariants as group
use Rattle.html_construction.specs.declared.mode.Mode.TheVariants as mode
use Rattle.html_modes.specs.declared.outcome.Foreign.TheVariants as root

not-definition : (g : Tag) → (g ≡ tag.Dd → ⊥) → (g ≡ tag.Dt → ⊥) → is_definition g ≡ false
not-definition tag.Dd k n = absurd (k refl)
not-definition tag.Dt k n = absurd (n refl)
not-definition _ k n = refl

not-Textarea : (g : Tag) → is_body_text g ≡ false → is_same g tag.Textarea ≡ false
not-Textarea tag.Textarea k = absurd (false≢true (sym k))
not-Textarea _ k = refl

not-Xmp : (g : Tag) → is_body_text g ≡ false → is_same g tag.Xmp ≡ false
not-Xmp tag.Xmp k = absurd (false≢true (sym k))
not-Xmp _ k = refl

not-Iframe : (g : Tag) → is_body_text g ≡ false → is_same g tag.Iframe ≡ false
not-Iframe tag.Iframe k = absurd (false≢true (sym k))
not-Iframe _ k = refl

not-Noembed : (g : Tag) → is_body_text g ≡ false → is_same g tag.Noembed ≡ false
not-Noembed tag.Noembed k = absurd (false≢true (sym k))
not-Noembed _ k = refl

not-Math : (g : Tag) → is_foreign_root g ≡ false → is_same g tag.Math ≡ false
not-Math tag.Math k = absurd (false≢true (sym k))
not-Math _ k = refl

not-Svg : (g : Tag) → is_foreign_root g ≡ false → is_same g tag.Svg ≡ false
not-Svg tag.Svg k = absurd (false≢true (sym k))
not-Svg _ k = refl

is_headish-not-Html : (g : Tag) → is_headish g ≡ true → is_same g tag.Html ≡ false
is_headish-not-Html tag.Html e = absurd (false≢true e)
is_headish-not-Html _ e = refl

is_block-not-Html : (g : Tag) → is_block g ≡ true → is_same g tag.Html ≡ false
is_block-not-Html tag.Html e = absurd (false≢true e)
is_block-not-Html _ e = refl

is_block-not-is_headish : (g : Tag) → is_block g ≡ true → is_headish g ≡ false
is_block-not-is_headish tag.Base e = absurd (false≢true e)
is_block-not-is_headish tag.Basefont e = absurd (false≢true e)
is_block-not-is_headish tag.Bgsound e = absurd (false≢true e)
is_block-not-is_headish tag.Link e = absurd (false≢true e)
is_block-not-is_headish tag.Meta e = absurd (false≢true e)
is_block-not-is_headish tag.Noframes e = absurd (false≢true e)
is_block-not-is_headish tag.Script e = absurd (false≢true e)
is_block-not-is_headish tag.Style e = absurd (false≢true e)
is_block-not-is_headish tag.Template e = absurd (false≢true e)
is_block-not-is_headish tag.Title e = absurd (false≢true e)
is_block-not-is_headish _ e = refl

is_block-not-Body : (g : Tag) → is_block g ≡ true → is_same g tag.Body ≡ false
is_block-not-Body tag.Body e = absurd (false≢true e)
is_block-not-Body _ e = refl

is_block-not-Frameset : (g : Tag) → is_block g ≡ true → is_same g tag.Frameset ≡ false
is_block-not-Frameset tag.Frameset e = absurd (false≢true e)
is_block-not-Frameset _ e = refl

is_heading-not-Html : (g : Tag) → is_heading g ≡ true → is_same g tag.Html ≡ false
is_heading-not-Html tag.Html e = absurd (false≢true e)
is_heading-not-Html _ e = refl

is_heading-not-is_headish : (g : Tag) → is_heading g ≡ true → is_headish g ≡ false
is_heading-not-is_headish tag.H1 e = refl
is_heading-not-is_headish tag.H2 e = refl
is_heading-not-is_headish tag.H3 e = refl
is_heading-not-is_headish tag.H4 e = refl
is_heading-not-is_headish tag.H5 e = refl
is_heading-not-is_headish tag.H6 e = refl
is_heading-not-is_headish _ e = absurd (false≢true e)

is_heading-not-Body : (g : Tag) → is_heading g ≡ true → is_same g tag.Body ≡ false
is_heading-not-Body tag.Body e = absurd (false≢true e)
is_heading-not-Body _ e = refl

is_heading-not-Frameset : (g : Tag) → is_heading g ≡ true → is_same g tag.Frameset ≡ false
is_heading-not-Frameset tag.Frameset e = absurd (false≢true e)
is_heading-not-Frameset _ e = refl

is_heading-not-is_block : (g : Tag) → is_heading g ≡ true → is_block g ≡ false
is_heading-not-is_block tag.H1 e = refl
is_heading-not-is_block tag.H2 e = refl
is_heading-not-is_block tag.H3 e = refl
is_heading-not-is_block tag.H4 e = refl
is_heading-not-is_block tag.H5 e = refl
is_heading-not-is_block tag.H6 e = refl
is_heading-not-is_block _ e = absurd (false≢true e)

is_heading-not-P : (g : Tag) → is_heading g ≡ true → is_same g tag.P ≡ false
is_heading-not-P tag.P e = absurd (false≢true e)
is_heading-not-P _ e = refl

is_preformatted-not-Html : (g : Tag) → is_preformatted g ≡ true → is_same g tag.Html ≡ false
is_preformatted-not-Html tag.Html e = absurd (false≢true e)
is_preformatted-not-Html _ e = refl

is_preformatted-not-is_headish : (g : Tag) → is_preformatted g ≡ true → is_headish g ≡ false
is_preformatted-not-is_headish tag.Listing e = refl
is_preformatted-not-is_headish tag.Pre e = refl
is_preformatted-not-is_headish _ e = absurd (false≢true e)

is_preformatted-not-Body : (g : Tag) → is_preformatted g ≡ true → is_same g tag.Body ≡ false
is_preformatted-not-Body tag.Body e = absurd (false≢true e)
is_preformatted-not-Body _ e = refl

is_preformatted-not-Frameset : (g : Tag) → is_preformatted g ≡ true → is_same g tag.Frameset ≡ false
is_preformatted-not-Frameset tag.Frameset e = absurd (false≢true e)
is_preformatted-not-Frameset _ e = refl

is_preformatted-not-is_block : (g : Tag) → is_preformatted g ≡ true → is_block g ≡ false
is_preformatted-not-is_block tag.Listing e = refl
is_preformatted-not-is_block tag.Pre e = refl
is_preformatted-not-is_block _ e = absurd (false≢true e)

is_preformatted-not-P : (g : Tag) → is_preformatted g ≡ true → is_same g tag.P ≡ false
is_preformatted-not-P tag.P e = absurd (false≢true e)
is_preformatted-not-P _ e = refl

is_preformatted-not-is_heading : (g : Tag) → is_preformatted g ≡ true → is_heading g ≡ false
is_preformatted-not-is_heading tag.Listing e = refl
is_preformatted-not-is_heading tag.Pre e = refl
is_preformatted-not-is_heading _ e = absurd (false≢true e)

takes_marker-not-A : (g : Tag) → takes_marker g ≡ true → is_same g tag.A ≡ false
takes_marker-not-A tag.A e = absurd (false≢true e)
takes_marker-not-A _ e = refl

takes_marker-not-Nobr : (g : Tag) → takes_marker g ≡ true → is_same g tag.Nobr ≡ false
takes_marker-not-Nobr tag.Nobr e = absurd (false≢true e)
takes_marker-not-Nobr _ e = refl

takes_marker-not-is_formatting : (g : Tag) → takes_marker g ≡ true → is_formatting g ≡ false
takes_marker-not-is_formatting tag.Applet e = refl
takes_marker-not-is_formatting tag.Marquee e = refl
takes_marker-not-is_formatting tag.Object e = refl
takes_marker-not-is_formatting _ e = absurd (false≢true e)

is_void_phrase-not-A : (g : Tag) → is_void_phrase g ≡ true → is_same g tag.A ≡ false
is_void_phrase-not-A tag.A e = absurd (false≢true e)
is_void_phrase-not-A _ e = refl

is_void_phrase-not-Nobr : (g : Tag) → is_void_phrase g ≡ true → is_same g tag.Nobr ≡ false
is_void_phrase-not-Nobr tag.Nobr e = absurd (false≢true e)
is_void_phrase-not-Nobr _ e = refl

is_void_phrase-not-is_formatting : (g : Tag) → is_void_phrase g ≡ true → is_formatting g ≡ false
is_void_phrase-not-is_formatting tag.Area e = refl
is_void_phrase-not-is_formatting tag.Br e = refl
is_void_phrase-not-is_formatting tag.Embed e = refl
is_void_phrase-not-is_formatting tag.Img e = refl
is_void_phrase-not-is_formatting tag.Keygen e = refl
is_void_phrase-not-is_formatting tag.Wbr e = refl
is_void_phrase-not-is_formatting _ e = absurd (false≢true e)

is_void_phrase-not-takes_marker : (g : Tag) → is_void_phrase g ≡ true → takes_marker g ≡ false
is_void_phrase-not-takes_marker tag.Applet e = absurd (false≢true e)
is_void_phrase-not-takes_marker tag.Marquee e = absurd (false≢true e)
is_void_phrase-not-takes_marker tag.Object e = absurd (false≢true e)
is_void_phrase-not-takes_marker _ e = refl

is_void_phrase-not-Table : (g : Tag) → is_void_phrase g ≡ true → is_same g tag.Table ≡ false
is_void_phrase-not-Table tag.Table e = absurd (false≢true e)
is_void_phrase-not-Table _ e = refl

is_void_part-not-A : (g : Tag) → is_void_part g ≡ true → is_same g tag.A ≡ false
is_void_part-not-A tag.A e = absurd (false≢true e)
is_void_part-not-A _ e = refl

is_void_part-not-Nobr : (g : Tag) → is_void_part g ≡ true → is_same g tag.Nobr ≡ false
is_void_part-not-Nobr tag.Nobr e = absurd (false≢true e)
is_void_part-not-Nobr _ e = refl

is_void_part-not-is_formatting : (g : Tag) → is_void_part g ≡ true → is_formatting g ≡ false
is_void_part-not-is_formatting tag.Param e = refl
is_void_part-not-is_formatting tag.Source e = refl
is_void_part-not-is_formatting tag.Track e = refl
is_void_part-not-is_formatting _ e = absurd (false≢true e)

is_void_part-not-takes_marker : (g : Tag) → is_void_part g ≡ true → takes_marker g ≡ false
is_void_part-not-takes_marker tag.Applet e = absurd (false≢true e)
is_void_part-not-takes_marker tag.Marquee e = absurd (false≢true e)
is_void_part-not-takes_marker tag.Object e = absurd (false≢true e)
is_void_part-not-takes_marker _ e = refl

is_void_part-not-Table : (g : Tag) → is_void_part g ≡ true → is_same g tag.Table ≡ false
is_void_part-not-Table tag.Table e = absurd (false≢true e)
is_void_part-not-Table _ e = refl

is_void_part-not-is_void_phrase : (g : Tag) → is_void_part g ≡ true → is_void_phrase g ≡ false
is_void_part-not-is_void_phrase tag.Param e = refl
is_void_part-not-is_void_phrase tag.Source e = refl
is_void_part-not-is_void_phrase tag.Track e = refl
is_void_part-not-is_void_phrase _ e = absurd (false≢true e)

is_void_part-not-Input : (g : Tag) → is_void_part g ≡ true → is_same g tag.Input ≡ false
is_void_part-not-Input tag.Input e = absurd (false≢true e)
is_void_part-not-Input _ e = refl

is_placed-not-Select : (g : Tag) → is_placed g ≡ true → is_same g tag.Select ≡ false
is_placed-not-Select tag.Select e = absurd (false≢true e)
is_placed-not-Select _ e = refl

is_placed-not-Optgroup : (g : Tag) → is_placed g ≡ true → is_same g tag.Optgroup ≡ false
is_placed-not-Optgroup tag.Optgroup e = absurd (false≢true e)
is_placed-not-Optgroup _ e = refl

is_placed-not-Option : (g : Tag) → is_placed g ≡ true → is_same g tag.Option ≡ false
is_placed-not-Option tag.Option e = absurd (false≢true e)
is_placed-not-Option _ e = refl

is_placed-not-Rb : (g : Tag) → is_placed g ≡ true → is_same g tag.Rb ≡ false
is_placed-not-Rb tag.Rb e = absurd (false≢true e)
is_placed-not-Rb _ e = refl

is_placed-not-Rtc : (g : Tag) → is_placed g ≡ true → is_same g tag.Rtc ≡ false
is_placed-not-Rtc tag.Rtc e = absurd (false≢true e)
is_placed-not-Rtc _ e = refl

is_placed-not-Rp : (g : Tag) → is_placed g ≡ true → is_same g tag.Rp ≡ false
is_placed-not-Rp tag.Rp e = absurd (false≢true e)
is_placed-not-Rp _ e = refl

is_placed-not-Rt : (g : Tag) → is_placed g ≡ true → is_same g tag.Rt ≡ false
is_placed-not-Rt tag.Rt e = absurd (false≢true e)
is_placed-not-Rt _ e = refl

is_placed-not-Math : (g : Tag) → is_placed g ≡ true → is_same g tag.Math ≡ false
is_placed-not-Math tag.Math e = absurd (false≢true e)
is_placed-not-Math _ e = refl

is_placed-not-Svg : (g : Tag) → is_placed g ≡ true → is_same g tag.Svg ≡ false
is_placed-not-Svg tag.Svg e = absurd (false≢true e)
is_placed-not-Svg _ e = refl

is_void-not-Select : (g : Tag) → is_void g ≡ true → is_same g tag.Select ≡ false
is_void-not-Select tag.Select e = absurd (false≢true e)
is_void-not-Select _ e = refl

is_void-not-Optgroup : (g : Tag) → is_void g ≡ true → is_same g tag.Optgroup ≡ false
is_void-not-Optgroup tag.Optgroup e = absurd (false≢true e)
is_void-not-Optgroup _ e = refl

is_void-not-Option : (g : Tag) → is_void g ≡ true → is_same g tag.Option ≡ false
is_void-not-Option tag.Option e = absurd (false≢true e)
is_void-not-Option _ e = refl

is_void-not-Rb : (g : Tag) → is_void g ≡ true → is_same g tag.Rb ≡ false
is_void-not-Rb tag.Rb e = absurd (false≢true e)
is_void-not-Rb _ e = refl

is_void-not-Rtc : (g : Tag) → is_void g ≡ true → is_same g tag.Rtc ≡ false
is_void-not-Rtc tag.Rtc e = absurd (false≢true e)
is_void-not-Rtc _ e = refl

is_void-not-Rp : (g : Tag) → is_void g ≡ true → is_same g tag.Rp ≡ false
is_void-not-Rp tag.Rp e = absurd (false≢true e)
is_void-not-Rp _ e = refl

is_void-not-Rt : (g : Tag) → is_void g ≡ true → is_same g tag.Rt ≡ false
is_void-not-Rt tag.Rt e = absurd (false≢true e)
is_void-not-Rt _ e = refl

is_void-not-Math : (g : Tag) → is_void g ≡ true → is_same g tag.Math ≡ false
is_void-not-Math tag.Math e = absurd (false≢true e)
is_void-not-Math _ e = refl

is_void-not-Svg : (g : Tag) → is_void g ≡ true → is_same g tag.Svg ≡ false
is_void-not-Svg tag.Svg e = absurd (false≢true e)
is_void-not-Svg _ e = refl

pub in_body_start-Html : (g : Tag) (t : TokenKind) (a : State) (e : Ending) (z : State) → g ≡ tag.Html → Runs plan (in_body_start tag.Html) t a e z → Runs plan (in_body_start g) t a e z
in_body_start-Html g t a e z k h = subst (λ (x : Tag). Runs plan (in_body_start x) t a e z) (sym k) h

pub in_body_start-is_headish : (g : Tag) (t : TokenKind) (a : State) (e : Ending) (z : State) → is_headish g ≡ true → Runs plan (By mode.InHead) t a e z → Runs plan (in_body_start g) t a e z
in_body_start-is_headish g t a e z k h = rw (is_headish-not-Html g k, k) h

pub in_body_start-Body : (g : Tag) (t : TokenKind) (a : State) (e : Ending) (z : State) → g ≡ tag.Body → Runs plan (in_body_start tag.Body) t a e z → Runs plan (in_body_start g) t a e z
in_body_start-Body g t a e z k h = subst (λ (x : Tag). Runs plan (in_body_start x) t a e z) (sym k) h

pub in_body_start-Frameset : (g : Tag) (t : TokenKind) (a : State) (e : Ending) (z : State) → g ≡ tag.Frameset → Runs plan (in_body_start tag.Frameset) t a e z → Runs plan (in_body_start g) t a e z
in_body_start-Frameset g t a e z k h = subst (λ (x : Tag). Runs plan (in_body_start x) t a e z) (sym k) h

pub in_body_start-is_block : (g : Tag) (t : TokenKind) (a : State) (e : Ending) (z : State) → is_block g ≡ true → Runs plan (closing_p (Do Insert over)) t a e z → Runs plan (in_body_start g) t a e z
in_body_start-is_block g t a e z k h = rw (is_block-not-Html g k, is_block-not-is_headish g k, is_block-not-Body g k, is_block-not-Frameset g k, k) h

pub in_body_start-P : (g : Tag) (t : TokenKind) (a : State) (e : Ending) (z : State) → g ≡ tag.P → Runs plan (in_body_start tag.P) t a e z → Runs plan (in_body_start g) t a e z
in_body_start-P g t a e z k h = subst (λ (x : Tag). Runs plan (in_body_start x) t a e z) (sym k) h

pub in_body_start-is_heading : (g : Tag) (t : TokenKind) (a : State) (e : Ending) (z : State) → is_heading g ≡ true → Runs plan (closing_p (popping_any group.Heading (Do Insert over))) t a e z → Runs plan (in_body_start g) t a e z
in_body_start-is_heading g t a e z k h = rw (is_heading-not-Html g k, is_heading-not-is_headish g k, is_heading-not-Body g k, is_heading-not-Frameset g k, is_heading-not-is_block g k, is_heading-not-P g k, k) h

pub in_body_start-is_preformatted : (g : Tag) (t : TokenKind) (a : State) (e : Ending) (z : State) → is_preformatted g ≡ true → Runs plan (closing_p (Do Insert (Do FramesetOff over))) t a e z → Runs plan (in_body_start g) t a e z
in_body_start-is_preformatted g t a e z k h = rw (is_preformatted-not-Html g k, is_preformatted-not-is_headish g k, is_preformatted-not-Body g k, is_preformatted-not-Frameset g k, is_preformatted-not-is_block g k, is_preformatted-not-P g k, is_preformatted-not-is_heading g k, k) h

pub in_body_start-Form : (g : Tag) (t : TokenKind) (a : State) (e : Ending) (z : State) → g ≡ tag.Form → Runs plan (in_body_start tag.Form) t a e z → Runs plan (in_body_start g) t a e z
in_body_start-Form g t a e z k h = subst (λ (x : Tag). Runs plan (in_body_start x) t a e z) (sym k) h

pub in_body_start-Li : (g : Tag) (t : TokenKind) (a : State) (e : Ending) (z : State) → g ≡ tag.Li → Runs plan (in_body_start tag.Li) t a e z → Runs plan (in_body_start g) t a e z
in_body_start-Li g t a e z k h = subst (λ (x : Tag). Runs plan (in_body_start x) t a e z) (sym k) h

pub in_body_start-Plaintext : (g : Tag) (t : TokenKind) (a : State) (e : Ending) (z : State) → g ≡ tag.Plaintext → Runs plan (in_body_start tag.Plaintext) t a e z → Runs plan (in_body_start g) t a e z
in_body_start-Plaintext g t a e z k h = subst (λ (x : Tag). Runs plan (in_body_start x) t a e z) (sym k) h

pub in_body_start-Button : (g : Tag) (t : TokenKind) (a : State) (e : Ending) (z : State) → g ≡ tag.Button → Runs plan (in_body_start tag.Button) t a e z → Runs plan (in_body_start g) t a e z
in_body_start-Button g t a e z k h = subst (λ (x : Tag). Runs plan (in_body_start x) t a e z) (sym k) h

pub in_body_start-Dd : (g : Tag) (t : TokenKind) (a : State) (e : Ending) (z : State) → g ≡ tag.Dd → Runs plan (in_body_start tag.Dd) t a e z → Runs plan (in_body_start g) t a e z
in_body_start-Dd g t a e z k h = subst (λ (x : Tag). Runs plan (in_body_start x) t a e z) (sym k) h

pub in_body_start-Dt : (g : Tag) (t : TokenKind) (a : State) (e : Ending) (z : State) → g ≡ tag.Dt → Runs plan (in_body_start tag.Dt) t a e z → Runs plan (in_body_start g) t a e z
in_body_start-Dt g t a e z k h = subst (λ (x : Tag). Runs plan (in_body_start x) t a e z) (sym k) h

pub in_body_start-Svg : (g : Tag) (t : TokenKind) (a : State) (e : Ending) (z : State) → g ≡ tag.Svg → Runs plan (in_body_start tag.Svg) t a e z → Runs plan (in_body_start g) t a e z
in_body_start-Svg g t a e z k h = subst (λ (x : Tag). Runs plan (in_body_start x) t a e z) (sym k) h

pub in_body_start-Math : (g : Tag) (t : TokenKind) (a : State) (e : Ending) (z : State) → g ≡ tag.Math → Runs plan (in_body_start tag.Math) t a e z → Runs plan (in_body_start g) t a e z
in_body_start-Math g t a e z k h = subst (λ (x : Tag). Runs plan (in_body_start x) t a e z) (sym k) h

pub in_body_start-other : (g : Tag) (t : TokenKind) (a : State) (e : Ending) (z : State) → (g ≡ tag.Html → ⊥) → is_headish g ≡ false → (g ≡ tag.Body → ⊥) → (g ≡ tag.Frameset → ⊥) → is_block g ≡ false → (g ≡ tag.P → ⊥) → is_heading g ≡ false → is_preformatted g ≡ false → (g ≡ tag.Form → ⊥) → (g ≡ tag.Li → ⊥) → (g ≡ tag.Dd → ⊥) → (g ≡ tag.Dt → ⊥) → (g ≡ tag.Plaintext → ⊥) → (g ≡ tag.Button → ⊥) → Runs plan (in_body_start_phrase g) t a e z → Runs plan (in_body_start g) t a e z
in_body_start-other g t a e z n0 n1 n2 n3 n4 n5 n6 n7 n8 n9 n10 n11 n12 n13 h = rw (other_than g tag.Html n0, n1, other_than g tag.Body n2, other_than g tag.Frameset n3, n4, other_than g tag.P n5, n6, n7, other_than g tag.Form n8, other_than g tag.Li n9, not-definition g n10 n11, other_than g tag.Plaintext n12, other_than g tag.Button n13) h

pub in_body_start_phrase-A : (g : Tag) (t : TokenKind) (a : State) (e : Ending) (z : State) → g ≡ tag.A → Runs plan (in_body_start_phrase tag.A) t a e z → Runs plan (in_body_start_phrase g) t a e z
in_body_start_phrase-A g t a e z k h = subst (λ (x : Tag). Runs plan (in_body_start_phrase x) t a e z) (sym k) h

pub in_body_start_phrase-Nobr : (g : Tag) (t : TokenKind) (a : State) (e : Ending) (z : State) → g ≡ tag.Nobr → Runs plan (in_body_start_phrase tag.Nobr) t a e z → Runs plan (in_body_start_phrase g) t a e z
in_body_start_phrase-Nobr g t a e z k h = subst (λ (x : Tag). Runs plan (in_body_start_phrase x) t a e z) (sym k) h

pub in_body_start_phrase-is_formatting : (g : Tag) (t : TokenKind) (a : State) (e : Ending) (z : State) → (g ≡ tag.A → ⊥) → (g ≡ tag.Nobr → ⊥) → is_formatting g ≡ true → Runs plan (formatting) t a e z → Runs plan (in_body_start_phrase g) t a e z
in_body_start_phrase-is_formatting g t a e z nA nNobr k h = rw (other_than g tag.A nA, other_than g tag.Nobr nNobr, k) h

pub in_body_start_phrase-takes_marker : (g : Tag) (t : TokenKind) (a : State) (e : Ending) (z : State) → takes_marker g ≡ true → Runs plan (Reconstruct (Do Insert (Do AddMarker (Do FramesetOff over)))) t a e z → Runs plan (in_body_start_phrase g) t a e z
in_body_start_phrase-takes_marker g t a e z k h = rw (takes_marker-not-A g k, takes_marker-not-Nobr g k, takes_marker-not-is_formatting g k, k) h

pub in_body_start_phrase-Table : (g : Tag) (t : TokenKind) (a : State) (e : Ending) (z : State) → g ≡ tag.Table → Runs plan (in_body_start_phrase tag.Table) t a e z → Runs plan (in_body_start_phrase g) t a e z
in_body_start_phrase-Table g t a e z k h = subst (λ (x : Tag). Runs plan (in_body_start_phrase x) t a e z) (sym k) h

pub in_body_start_phrase-is_void_phrase : (g : Tag) (t : TokenKind) (a : State) (e : Ending) (z : State) → is_void_phrase g ≡ true → Runs plan (void_among_text g) t a e z → Runs plan (in_body_start_phrase g) t a e z
in_body_start_phrase-is_void_phrase g t a e z k h = rw (is_void_phrase-not-A g k, is_void_phrase-not-Nobr g k, is_void_phrase-not-is_formatting g k, is_void_phrase-not-takes_marker g k, is_void_phrase-not-Table g k, k) h

pub in_body_start_phrase-Input : (g : Tag) (t : TokenKind) (a : State) (e : Ending) (z : State) → g ≡ tag.Input → Runs plan (in_body_start_phrase tag.Input) t a e z → Runs plan (in_body_start_phrase g) t a e z
in_body_start_phrase-Input g t a e z k h = subst (λ (x : Tag). Runs plan (in_body_start_phrase x) t a e z) (sym k) h

pub in_body_start_phrase-is_void_part : (g : Tag) (t : TokenKind) (a : State) (e : Ending) (z : State) → is_void_part g ≡ true → Runs plan (Do (InsertVoid g) over) t a e z → Runs plan (in_body_start_phrase g) t a e z
in_body_start_phrase-is_void_part g t a e z k h = rw (is_void_part-not-A g k, is_void_part-not-Nobr g k, is_void_part-not-is_formatting g k, is_void_part-not-takes_marker g k, is_void_part-not-Table g k, is_void_part-not-is_void_phrase g k, is_void_part-not-Input g k, k) h

pub in_body_start_phrase-Hr : (g : Tag) (t : TokenKind) (a : State) (e : Ending) (z : State) → g ≡ tag.Hr → Runs plan (in_body_start_phrase tag.Hr) t a e z → Runs plan (in_body_start_phrase g) t a e z
in_body_start_phrase-Hr g t a e z k h = subst (λ (x : Tag). Runs plan (in_body_start_phrase x) t a e z) (sym k) h

pub in_body_start_phrase-Textarea : (g : Tag) (t : TokenKind) (a : State) (e : Ending) (z : State) → g ≡ tag.Textarea → Runs plan (in_body_start_phrase tag.Textarea) t a e z → Runs plan (in_body_start_phrase g) t a e z
in_body_start_phrase-Textarea g t a e z k h = subst (λ (x : Tag). Runs plan (in_body_start_phrase x) t a e z) (sym k) h

pub in_body_start_phrase-Xmp : (g : Tag) (t : TokenKind) (a : State) (e : Ending) (z : State) → g ≡ tag.Xmp → Runs plan (in_body_start_phrase tag.Xmp) t a e z → Runs plan (in_body_start_phrase g) t a e z
in_body_start_phrase-Xmp g t a e z k h = subst (λ (x : Tag). Runs plan (in_body_start_phrase x) t a e z) (sym k) h

pub in_body_start_phrase-Iframe : (g : Tag) (t : TokenKind) (a : State) (e : Ending) (z : State) → g ≡ tag.Iframe → Runs plan (in_body_start_phrase tag.Iframe) t a e z → Runs plan (in_body_start_phrase g) t a e z
in_body_start_phrase-Iframe g t a e z k h = subst (λ (x : Tag). Runs plan (in_body_start_phrase x) t a e z) (sym k) h

pub in_body_start_phrase-other : (g : Tag) (t : TokenKind) (a : State) (e : Ending) (z : State) → (g ≡ tag.A → ⊥) → (g ≡ tag.Nobr → ⊥) → is_formatting g ≡ false → takes_marker g ≡ false → (g ≡ tag.Table → ⊥) → is_void_phrase g ≡ false → (g ≡ tag.Input → ⊥) → is_void_part g ≡ false → (g ≡ tag.Hr → ⊥) → is_same g tag.Image ≡ false → is_body_text g ≡ false → Runs plan (in_body_start_rest g) t a e z → Runs plan (in_body_start_phrase g) t a e z
in_body_start_phrase-other g t a e z n0 n1 n2 n3 n4 n5 n6 n7 n8 n9 n10 h = rw (other_than g tag.A n0, other_than g tag.Nobr n1, n2, n3, other_than g tag.Table n4, n5, other_than g tag.Input n6, n7, other_than g tag.Hr n8, n9, not-Textarea g n10, not-Xmp g n10, not-Iframe g n10, not-Noembed g n10) h

pub in_body_start_rest-Select : (g : Tag) (t : TokenKind) (a : State) (e : Ending) (z : State) → g ≡ tag.Select → Runs plan (in_body_start_rest tag.Select) t a e z → Runs plan (in_body_start_rest g) t a e z
in_body_start_rest-Select g t a e z k h = subst (λ (x : Tag). Runs plan (in_body_start_rest x) t a e z) (sym k) h

pub in_body_start_rest-Optgroup : (g : Tag) (t : TokenKind) (a : State) (e : Ending) (z : State) → g ≡ tag.Optgroup → Runs plan (in_body_start_rest tag.Optgroup) t a e z → Runs plan (in_body_start_rest g) t a e z
in_body_start_rest-Optgroup g t a e z k h = subst (λ (x : Tag). Runs plan (in_body_start_rest x) t a e z) (sym k) h

pub in_body_start_rest-Option : (g : Tag) (t : TokenKind) (a : State) (e : Ending) (z : State) → g ≡ tag.Option → Runs plan (in_body_start_rest tag.Option) t a e z → Runs plan (in_body_start_rest g) t a e z
in_body_start_rest-Option g t a e z k h = subst (λ (x : Tag). Runs plan (in_body_start_rest x) t a e z) (sym k) h

pub in_body_start_rest-Rb : (g : Tag) (t : TokenKind) (a : State) (e : Ending) (z : State) → g ≡ tag.Rb → Runs plan (in_body_start_rest tag.Rb) t a e z → Runs plan (in_body_start_rest g) t a e z
in_body_start_rest-Rb g t a e z k h = subst (λ (x : Tag). Runs plan (in_body_start_rest x) t a e z) (sym k) h

pub in_body_start_rest-Rtc : (g : Tag) (t : TokenKind) (a : State) (e : Ending) (z : State) → g ≡ tag.Rtc → Runs plan (in_body_start_rest tag.Rtc) t a e z → Runs plan (in_body_start_rest g) t a e z
in_body_start_rest-Rtc g t a e z k h = subst (λ (x : Tag). Runs plan (in_body_start_rest x) t a e z) (sym k) h

pub in_body_start_rest-Rp : (g : Tag) (t : TokenKind) (a : State) (e : Ending) (z : State) → g ≡ tag.Rp → Runs plan (in_body_start_rest tag.Rp) t a e z → Runs plan (in_body_start_rest g) t a e z
in_body_start_rest-Rp g t a e z k h = subst (λ (x : Tag). Runs plan (in_body_start_rest x) t a e z) (sym k) h

pub in_body_start_rest-Rt : (g : Tag) (t : TokenKind) (a : State) (e : Ending) (z : State) → g ≡ tag.Rt → Runs plan (in_body_start_rest tag.Rt) t a e z → Runs plan (in_body_start_rest g) t a e z
in_body_start_rest-Rt g t a e z k h = subst (λ (x : Tag). Runs plan (in_body_start_rest x) t a e z) (sym k) h

pub in_body_start_rest-is_placed : (g : Tag) (t : TokenKind) (a : State) (e : Ending) (z : State) → is_placed g ≡ true → Runs plan (ignored Misplaced) t a e z → Runs plan (in_body_start_rest g) t a e z
in_body_start_rest-is_placed g t a e z k h = rw (is_placed-not-Select g k, is_placed-not-Optgroup g k, is_placed-not-Option g k, is_placed-not-Rb g k, is_placed-not-Rtc g k, is_placed-not-Rp g k, is_placed-not-Rt g k, is_placed-not-Math g k, is_placed-not-Svg g k, k) h

pub in_body_start_rest-other : (g : Tag) (t : TokenKind) (a : State) (e : Ending) (z : State) → (g ≡ tag.Select → ⊥) → (g ≡ tag.Optgroup → ⊥) → (g ≡ tag.Option → ⊥) → (g ≡ tag.Rb → ⊥) → (g ≡ tag.Rtc → ⊥) → (g ≡ tag.Rp → ⊥) → (g ≡ tag.Rt → ⊥) → is_foreign_root g ≡ false → is_placed g ≡ false → is_void g ≡ false → Runs plan (among_text) t a e z → Runs plan (in_body_start_rest g) t a e z
in_body_start_rest-other g t a e z n0 n1 n2 n3 n4 n5 n6 n7 n8 n9 h = rw (other_than g tag.Select n0, other_than g tag.Optgroup n1, other_than g tag.Option n2, other_than g tag.Rb n3, other_than g tag.Rtc n4, other_than g tag.Rp n5, other_than g tag.Rt n6, not-Math g n7, not-Svg g n7, n8, n9) h

pub in_body_start_phrase-Image : (g : Tag) (t : TokenKind) (a : State) (e : Ending) (z : State) → is_same g tag.Image ≡ true → Runs plan (void_among_text g) t a e z → Runs plan (in_body_start_phrase g) t a e z
in_body_start_phrase-Image g t a e z k h = subst (λ (x : Tag). Runs plan (in_body_start_phrase x) t a e z) (sym (same-tag g tag.Image k)) (subst (λ (x : Tag). Runs plan (void_among_text x) t a e z) (same-tag g tag.Image k) h)

-- the last of the elements that hold text alone
noembed-is : (g : Tag) → is_body_text g ≡ true → (g ≡ tag.Textarea → ⊥) → (g ≡ tag.Xmp → ⊥) → (g ≡ tag.Iframe → ⊥) → g ≡ tag.Noembed
noembed-is tag.Textarea k l m n = absurd (l refl)
noembed-is tag.Xmp k l m n = absurd (m refl)
noembed-is tag.Iframe k l m n = absurd (n refl)
noembed-is tag.Noembed k l m n = refl
noembed-is _ k l m n = absurd (false≢true k)

pub in_body_start_phrase-Noembed : (g : Tag) (t : TokenKind) (a : State) (e : Ending) (z : State) → is_body_text g ≡ true → (g ≡ tag.Textarea → ⊥) → (g ≡ tag.Xmp → ⊥) → (g ≡ tag.Iframe → ⊥) → Runs plan (holding_text Insert) t a e z → Runs plan (in_body_start_phrase g) t a e z
in_body_start_phrase-Noembed g t a e z k l m n h = subst (λ (x : Tag). Runs plan (in_body_start_phrase x) t a e z) (sym (noembed-is g k l m n)) h

pub in_body_start_rest-is_void : (g : Tag) (t : TokenKind) (a : State) (e : Ending) (z : State) → is_placed g ≡ false → is_void g ≡ true → Runs plan (void_among_text g) t a e z → Runs plan (in_body_start_rest g) t a e z
in_body_start_rest-is_void g t a e z n k h = rw (is_void-not-Select g k, is_void-not-Optgroup g k, is_void-not-Option g k, is_void-not-Rb g k, is_void-not-Rtc g k, is_void-not-Rp g k, is_void-not-Rt g k, is_void-not-Math g k, is_void-not-Svg g k, n, k) h

-- a root of foreign content
start-is : (g f : Tag) → Start g ≡ Start f → g ≡ f
start-is g f k = cc

pub root-refused : (n : Foreign) (g : Tag) (t : TokenKind) (a : State) → Start g ≡ root_of n → a.parses_foreign ≡ false → Runs plan (in_body_start g) t a (Refused (root_space n)) a
root-refused root.Svg g t a k r = subst (λ (x : Tag). Runs plan (in_body_start x) t a (Refused space.Svg) a) (sym (start-is g tag.Svg k)) (asked ParsesForeign false _ _ t a (Refused space.Svg) a (sym r) (stop_here (Refused space.Svg) t a))
root-refused root.Math g t a k r = subst (λ (x : Tag). Runs plan (in_body_start x) t a (Refused space.Math) a) (sym (start-is g tag.Math k)) (asked ParsesForeign false _ _ t a (Refused space.Math) a (sym r) (stop_here (Refused space.Math) t a))

pub root-parsed : (n : Foreign) (s : Space) (g : Tag) (t : TokenKind) (a : State) (e : Ending) (z : State) → Start g ≡ root_of n → s ≡ root_space n → a.parses_foreign ≡ true → Runs plan (Reconstruct (embedding s)) t a e z → Runs plan (in_body_start g) t a e z
root-parsed root.Svg s g t a e z k q r h = subst (λ (x : Tag). Runs plan (in_body_start x) t a e z) (sym (start-is g tag.Svg k)) (asked ParsesForeign true _ _ t a e z (sym r) (subst (λ (x : Space). Runs plan (Reconstruct (embedding x)) t a e z) q h))
root-parsed root.Math s g t a e z k q r h = subst (λ (x : Tag). Runs plan (in_body_start x) t a e z) (sym (start-is g tag.Math k)) (asked ParsesForeign true _ _ t a e z (sym r) (subst (λ (x : Space). Runs plan (Reconstruct (embedding x)) t a e z) q h))

pub asked-closing : (x : Bool) (p n : Plan) (t : TokenKind) (a : State) (e : Ending) (z : State) → x ≡ closes_itself t → Runs plan (if x then p else n) t a e z → Runs plan (Ask ClosesItself p n) t a e z
asked-closing x p n t a e z k h = asked ClosesItself x p n t a e z k h

pub asked-hidden : (x : Bool) (p n : Plan) (t : TokenKind) (a : State) (e : Ending) (z : State) → x ≡ is_hidden (attrs_of t) → Runs plan (if x then p else n) t a e z → Runs plan (Ask IsHidden p n) t a e z
asked-hidden x p n t a e z k h = asked IsHidden x p n t a e z k h

pub asked-place : (x : Bool) (g : Tag) (p n : Plan) (t : TokenKind) (a : State) (e : Ending) (z : State) → x ≡ may_misplace_tag a.ledger.history g → Runs plan (if x then p else n) t a e z → Runs plan (Ask (MayMisplace g) p n) t a e z
asked-place x g p n t a e z k h = asked (MayMisplace g) x p n t a e z k h

pub asked-mode : (x : Bool) (p n : Plan) (t : TokenKind) (a : State) (e : Ending) (z : State) → x ≡ is_in_table a.mode → Runs plan (if x then p else n) t a e z → Runs plan (Ask IsInTable p n) t a e z
asked-mode x p n t a e z k h = asked IsInTable x p n t a e z k h

pub ruleset arms = (rule_words, by_head_rules, in_body_start-Html, in_body_start-is_headish, in_body_start-Body, in_body_start-Frameset, in_body_start-is_block, in_body_start-P, in_body_start-is_heading, in_body_start-is_preformatted, in_body_start-Form, in_body_start-Li, in_body_start-Plaintext, in_body_start-Button, in_body_start-Dd, in_body_start-Dt, in_body_start-Svg, in_body_start-Math, in_body_start-other)

pub ruleset phrase_arms = (rule_words, in_body_start_phrase-A, in_body_start_phrase-Nobr, in_body_start_phrase-is_formatting, in_body_start_phrase-takes_marker, in_body_start_phrase-Table, in_body_start_phrase-is_void_phrase, in_body_start_phrase-Input, in_body_start_phrase-is_void_part, in_body_start_phrase-Hr, in_body_start_phrase-Textarea, in_body_start_phrase-Xmp, in_body_start_phrase-Iframe, in_body_start_phrase-other, in_body_start_phrase-Image)

pub ruleset text_arms = (rule_words, in_body_start_phrase-Textarea, in_body_start_phrase-Xmp, in_body_start_phrase-Iframe, in_body_start_phrase-Noembed)

pub ruleset rest_arms = (rule_words, in_body_start_rest-Select, in_body_start_rest-Optgroup, in_body_start_rest-Option, in_body_start_rest-Rb, in_body_start_rest-Rtc, in_body_start_rest-Rp, in_body_start_rest-Rt, in_body_start_rest-is_placed, in_body_start_rest-other, in_body_start_rest-is_void)

pub ruleset root_arms = (root-refused, root-parsed)

pub ruleset closing_itself = (asked-closing)

pub ruleset hiding = (rule_words, asked-hidden)

pub ruleset misplacing = (asked-place)

pub ruleset selecting = (rule_words, asked-mode)

-- The flags say what they are said to say.
use Rattle.std.proofs.Common.{◌+◌, ◌≡◌, ap, ◌∙◌, ◌⊎◌, inl, inr, Bool, true, false, ◌&&◌, ◌||◌, IsTrue, List, [], ◌∷◌, ◌++◌, length, refl, sym}
use Rattle.std.specs.Prelude.{Decides, None}
use Rattle.std.proofs.Math.Bool.{or-false, and-false}
use Rattle.html_names.specs.declared.tag.Tag.{Tag}
use Rattle.html_ledger.specs.declared.symbol.Symbol.TheVariants.{Start, End, Char, Comment, Doctype, Eof}
use Rattle.html_ledger.specs.Fates.{is_made}
use Rattle.std.specs.List.{list_all}
use Rattle.std.proofs.lemmas.Bool.{false≢true, and_parts, and_from}
use Rattle.std.proofs.lemmas.Bool.Decides.{Decides-and, Decides-like}
use Rattle.std.proofs.lemmas.List.{length_push}
use Rattle.std.proofs.lemmas.List.Folds.{list_all-append}
use Rattle.html_names.specs.declared.tag.Tag.TheVariants as tag
use Rattle.html_names.specs.Groups.{takes_newline}
use Rattle.html_ledger.specs.declared.symbol.Symbol.{Symbol}
use Rattle.html_ledger.specs.declared.setting.Setting.{Setting}
use Rattle.html_ledger.specs.declared.fate.Fate.{Fate}
use Rattle.html_ledger.specs.declared.history.History.{History}
use Rattle.html_ledger.specs.Symbols.{named, start_of}
use Rattle.html_ledger.specs.Settings.{is_document, context_is, has_form, is_foreign_context}
use Rattle.html_ledger.specs.MayDrop.{Since, embeds, makes, any_token, no_token, ends_no_select, may_precede_doctype, may_precede_head}
use Rattle.html_ledger.specs.Flags.{history_at, after}
use Rattle.html_ledger.specs.Known.{Knows}
use Rattle.html_ledger.proofs.Since.{Decides-since, Decides-since_any, Decides-since_none, Decides-since_or, since-none}

-- the test of all tokens, after one more
all-push : (a : Bool) (q : Symbol → Bool) (ts : List Symbol) (t : Symbol) (b : Bool) → Decides b (IsTrue (a && list_all q ts)) → Decides (b && q t) (IsTrue (a && list_all q (ts ++ t ∷ [])))
all-push true q ts t b d =
    Decides-like (b && q t)
    (λ w. rw (list_all-append q ts (t ∷ [])) (and_from (list_all q ts) (q t && true) w.0 (and_from (q t) true w.1 refl)))
    (λ w. let v = and_parts (list_all q ts) (q t && true) (rw (list_all-append q ts (t ∷ [])) at w) in (v.0, (and_parts (q t) true v.1).0))
    (Decides-and b (q t) d (λ h. h, λ h. h))
all-push false q ts t b d =
    Decides-like (b && q t) (λ w. w.0) (λ w. absurd (false≢true w)) (Decides-and b (q t) d (λ h. h, λ h. h))

pub Knows-after : (s : Setting) (h : History) (ts : List Symbol) (fs : List Fate) (t : Symbol) (f : Fate) → Knows s h ts fs → Knows s (after h t f) (ts ++ t ∷ []) (fs ++ f ∷ [])
Knows-after s h ts fs t f k =
    let e : length fs ≡ length ts = k.counted in record {
      counted = length_push fs f ∙ ap (λ n. n + 1) e ∙ sym (length_push ts t);
      awaits_doctype = all-push (is_document s) may_precede_doctype ts t h.awaits_doctype k.awaits_doctype;
      prolog = all-push (is_document s || context_is tag.Html s) may_precede_head ts t h.prolog k.prolog;
      ignore_line_feed = Decides-since_none (makes takes_newline) ts fs t f h.ignore_line_feed e k.ignore_line_feed;
      select_context = k.select_context;
      select = Decides-since_any (makes (named tag.Select)) ts fs t f h.select e k.select;
      open_select = Decides-since (makes (named tag.Select)) ends_no_select ts fs t f h.open_select e k.open_select;
      template = Decides-since_any (makes (named tag.Template)) ts fs t f h.template e k.template;
      fragment = k.fragment;
      frameset = Decides-since_or (makes (named tag.Frameset)) (IsTrue (context_is tag.Frameset s)) ts fs t f h.frameset e k.frameset;
      col = Decides-since_or (makes (named tag.Col)) (IsTrue (context_is tag.Colgroup s)) ts fs t f h.col e k.col;
      noscript = Decides-since_any (makes (named tag.Noscript)) ts fs t f h.noscript e k.noscript;
      form = Decides-since_or (makes (named tag.Form)) (IsTrue (has_form s)) ts fs t f h.form e k.form;
      foreign = Decides-since_or embeds (IsTrue (is_foreign_context s)) ts fs t f h.foreign e k.foreign;
    }

all-none : (a : Bool) → Decides a (IsTrue (a && true))
all-none true = (λ h. h, λ h. h)
all-none false = (λ h. h, λ h. h)

none : (p : Symbol → Fate → Bool) (q : Symbol → Bool) → Decides false (Since p q [] [])
none p q = (λ h. absurd (false≢true h), λ s. absurd (since-none p q [] s))

context_alone : (p : Symbol → Fate → Bool) (b : Bool) → Decides b (Since p any_token [] [] ⊎ IsTrue b)
context_alone p b = (λ h. inr h, λ w. elim w [ inl s ↦ absurd (since-none p any_token [] s) | inr h ↦ h ])

pub Knows-none : (s : Setting) → Knows s (history_at s) [] []
Knows-none s = record {
  counted = refl;
  awaits_doctype = all-none (is_document s);
  prolog = all-none (is_document s || context_is tag.Html s);
  ignore_line_feed = none (makes takes_newline) no_token;
  select_context = (λ h. h, λ h. h);
  select = none (makes (named tag.Select)) any_token;
  open_select = none (makes (named tag.Select)) ends_no_select;
  template = none (makes (named tag.Template)) any_token;
  fragment = (λ h. h, λ h. h);
  frameset = context_alone (makes (named tag.Frameset)) (context_is tag.Frameset s);
  col = context_alone (makes (named tag.Col)) (context_is tag.Colgroup s);
  noscript = none (makes (named tag.Noscript)) any_token;
  form = context_alone (makes (named tag.Form)) (has_form s);
  foreign = context_alone embeds (is_foreign_context s);
}

-- the flags after a token that is no start tag
no-makes : (t : Symbol) (f : Fate) (p : Tag → Bool) → start_of t ≡ None → makes p t f ≡ false
no-makes (Start x) f p e = absurd cc
no-makes (End x) f p e = and-false (is_made f)
no-makes (Char c) f p e = and-false (is_made f)
no-makes Comment f p e = and-false (is_made f)
no-makes Doctype f p e = and-false (is_made f)
no-makes Eof f p e = and-false (is_made f)

no-embeds : (t : Symbol) (f : Fate) → start_of t ≡ None → embeds t f ≡ false
no-embeds (Start x) f e = absurd cc
no-embeds (End x) f e = refl
no-embeds (Char c) f e = refl
no-embeds Comment f e = refl
no-embeds Doctype f e = refl
no-embeds Eof f e = refl

kept-flag : (b : Bool) (t : Symbol) (f : Fate) (p : Tag → Bool) → start_of t ≡ None → b ≡ (b || makes p t f)
kept-flag b t f p e = sym (or-false b) ∙ ap (λ m. b || m) (sym (no-makes t f p e))

pub after-other : (h : History) (t : Symbol) (f : Fate) (b p o : Bool) → start_of t ≡ None → b ≡ (h.awaits_doctype && may_precede_doctype t) → p ≡ (h.prolog && may_precede_head t) → o ≡ (h.open_select && ends_no_select t) → record h { awaits_doctype = b; prolog = p; ignore_line_feed = false; open_select = o } ≡ after h t f
after-other h t f b p o n e g k =
    ap (λ x. record h { awaits_doctype = x; prolog = p; ignore_line_feed = false; open_select = o }) e
    ∙ ap (λ x. record h { awaits_doctype = h.awaits_doctype && may_precede_doctype t; prolog = x; ignore_line_feed = false; open_select = o }) g
    ∙ ap (λ x. record (after h t f) { ignore_line_feed = x; select = h.select; open_select = o; template = h.template; frameset = h.frameset; col = h.col; noscript = h.noscript; form = h.form; foreign = h.foreign }) (sym (no-makes t f takes_newline n))
    ∙ ap (λ x. record (after h t f) { select = h.select; open_select = x; template = h.template; frameset = h.frameset; col = h.col; noscript = h.noscript; form = h.form; foreign = h.foreign }) (k ∙ kept-flag (h.open_select && ends_no_select t) t f (named tag.Select) n)
    ∙ ap (λ x. record (after h t f) { select = x; template = h.template; frameset = h.frameset; col = h.col; noscript = h.noscript; form = h.form; foreign = h.foreign }) (kept-flag h.select t f (named tag.Select) n)
    ∙ ap (λ x. record (after h t f) { template = x; frameset = h.frameset; col = h.col; noscript = h.noscript; form = h.form; foreign = h.foreign }) (kept-flag h.template t f (named tag.Template) n)
    ∙ ap (λ x. record (after h t f) { frameset = x; col = h.col; noscript = h.noscript; form = h.form; foreign = h.foreign }) (kept-flag h.frameset t f (named tag.Frameset) n)
    ∙ ap (λ x. record (after h t f) { col = x; noscript = h.noscript; form = h.form; foreign = h.foreign }) (kept-flag h.col t f (named tag.Col) n)
    ∙ ap (λ x. record (after h t f) { noscript = x; form = h.form; foreign = h.foreign }) (kept-flag h.noscript t f (named tag.Noscript) n)
    ∙ ap (λ x. record (after h t f) { form = x; foreign = h.foreign }) (kept-flag h.form t f (named tag.Form) n)
    ∙ ap (λ x. record (after h t f) { foreign = x }) (sym (or-false h.foreign) ∙ ap (λ m. h.foreign || m) (sym (no-embeds t f n)))

-- What the words of the rules make of the modes, where the mode "before html" is past.
use Rattle.std.proofs.Common.{◌≡◌, ◌-◌, Bool, true, false, cond, not, length, refl, sym, ◌∙◌, ap}
use Rattle.std.specs.List.{list_all}
use Rattle.std.proofs.lemmas.Bool.{false≢true}
use Rattle.html_tokens.specs.declared.token.TokenKind.{TokenKind}
use Rattle.html_tree.specs.OpenTags.{open_tags}
use Rattle.html_construction.specs.declared.mode.Mode.{Mode}
use Rattle.html_construction.specs.declared.mode.Mode.TheVariants as mode
use Rattle.html_construction.specs.Plans.{IsMoved}
use Rattle.html_construction.specs.States.{State}
use Rattle.html_construction.specs.Words.{Becomes, Enter, Leave, PopTemplate, PushTemplate, Reset, Switch, Word, after}
use Rattle.html_modes.specs.Dispatching.{is_unfounded, settled}
use Rattle.html_modes.specs.Fitting.{is_loose}
use Rattle.html_laws.proofs.Keeping.{not-true}
use Rattle.html_laws.proofs.Rooting.{IsBack, is_early, is_late, late-not-early, late-not-waits, push-late, reset-late, take-late, waits}

-- No mode is one of the early ones: neither the one that is set, nor the one that it comes back to, nor those of templates.
pub record IsLater (a : State) : Type 0 where
  pub late : is_early a.mode ≡ false
  pub back : waits a.mode ≡ true → is_early a.original ≡ false
  pub templates : list_all is_late a.templates ≡ true

-- the modes are the same
abbrev pub AreSameModes : State → State → Type 0
AreSameModes a b = (b.mode ≡ a.mode) × (b.original ≡ a.original) × (b.templates ≡ a.templates)

pub becomes-modes : (a b : State) → Becomes a b → AreSameModes a b
becomes-modes a b i = (ap (λ (v : State). v.mode) i.state_is, ap (λ (v : State). v.original) i.state_is, ap (λ (v : State). v.templates) i.state_is)

pub moved-modes : (a b : State) → IsMoved a b → AreSameModes a b
moved-modes a b i = (ap (λ (v : State). v.mode) i.rest, ap (λ (v : State). v.original) i.rest, ap (λ (v : State). v.templates) i.rest)

pub same-back : (a b : State) → AreSameModes a b → IsBack a → IsBack b
same-back a b s k = ap is_early s.1 ∙ k

pub same-later : (a b : State) → AreSameModes a b → IsLater a → IsLater b
same-later a b s k = record {
  late = ap is_early s.0 ∙ k.late;
  back = λ w. ap is_early s.1 ∙ k.back (sym (ap waits s.0) ∙ w);
  templates = ap (list_all is_late) s.2 ∙ k.templates;
}

-- a late mode comes back to none
pub late-later : (b : State) → is_late b.mode ≡ true → list_all is_late b.templates ≡ true → IsLater b
late-later b l t = record { late = late-not-early b.mode l; back = λ w. absurd (false≢true (sym (late-not-waits b.mode l) ∙ w)); templates = t }

-- the modes in which foreign content may be around
pub loose-late : (m : Mode) → is_loose m ≡ true → is_late m ≡ true
loose-late mode.Initial h = absurd (false≢true h)
loose-late mode.BeforeHtml h = absurd (false≢true h)
loose-late mode.Text h = absurd (false≢true h)
loose-late mode.InTableText h = absurd (false≢true h)
loose-late m h = refl

-- THE WORDS

-- the word leads to no early mode; it may leave for the original mode, where that is none
abbrev pub goes : Bool → Word → Bool
goes k (Switch m) = is_late m
goes k (Enter m) = not (is_early m)
goes k Leave = k
goes k (PushTemplate m) = is_late m
goes k w = true

-- the state after a word, or after more
pub record HasGone (a b : State) : Type 0 where
  pub later : IsLater b
  pub back : IsBack a → IsBack b

pub word-gone : (k : Bool) (w : Word) (t : TokenKind) (a : State) → goes k w ≡ true → IsLater a → (k ≡ true → IsBack a) → HasGone a (after w t a)
word-gone k (Switch m) t a f g o = record { later = late-later (after (Switch m) t a) f g.templates; back = λ b. b }
word-gone k (Enter m) t a f g o = record { later = record { late = not-true (is_early m) f; back = λ w. g.late; templates = g.templates }; back = λ b. g.late }
word-gone k Leave t a f g o = record { later = record { late = o f; back = λ w. o f; templates = g.templates }; back = λ b. b }
word-gone k Reset t a f g o = record { later = late-later (after Reset t a) (reset-late a.context a.tree.head a.templates (open_tags a.tree) g.templates) g.templates; back = λ b. b }
word-gone k (PushTemplate m) t a f g o = record { later = record { late = g.late; back = g.back; templates = push-late a.templates m g.templates f }; back = λ b. b }
word-gone k PopTemplate t a f g o = record { later = record { late = g.late; back = g.back; templates = take-late (length a.templates - 1) a.templates g.templates }; back = λ b. b }
word-gone k w t a f g o = record { later = same-later a (after w t a) (refl, refl, refl) g; back = λ b. b }

-- BETWEEN CALLS

-- the mode in body, where nothing that was seen leads to the one that is set
pub settled-later : (a : State) → IsLater a → IsLater (settled a)
settled-later a k = by (is_unfounded a)
  where
    moved : Bool → State
    moved b = record a { mode = cond b mode.InBody a.mode }

    by : (b : Bool) → IsLater (moved b)
    by true = late-later (moved true) refl k.templates
    by false = record { late = k.late; back = k.back; templates = k.templates }

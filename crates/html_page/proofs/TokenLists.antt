-- The tokens of a text after none of which anything is said of the mode.
use Rattle.std.proofs.Common.{◌≡◌, ℕ, zero, suc, ◌+◌, ◌-◌, List, [], ◌∷◌, ◌++◌, length, drop, Option, None, true, refl, ap, sym, ◌∙◌}
use Rattle.std.proofs.Math.Seq.{drop-nil}
use Rattle.std.specs.List.{AllByRecursion}
use Rattle.html_charref.specs.declared.table.Row.{Row}
use Rattle.html_tokens.specs.Stream.{Start, Run, tokens_of}
use Rattle.html_tokens.specs.Tokens.{tokens_after, next, mode_after, mode_after_kind, name_after, switch_of}
use Rattle.html_tokens.specs.declared.token.TextMode.{TextMode}
use Rattle.html_tokens.specs.declared.token.Token.{Token}
use Rattle.html_page.specs.TokenList.{unsaid}

abbrev AreNone : List (Option TextMode) → Type 0
AreNone switches = AllByRecursion (λ s. s ≡ None) switches

none_of : (switches : List (Option TextMode)) → AreNone switches → switch_of switches ≡ None
none_of [] h = refl
none_of (s ∷ ss) h = h.0

drop_none : (n : ℕ) (switches : List (Option TextMode)) → AreNone switches → AreNone (drop n switches)
drop_none zero switches h = h
drop_none (suc n) [] h = tt
drop_none (suc n) (s ∷ ss) h = drop_none n ss h.1

same_mode : (tokens : List Token) (switches : List (Option TextMode)) (mode : TextMode) → AreNone switches → mode_after tokens switches mode ≡ mode_after tokens [] mode
same_mode [] switches mode h = refl
same_mode (t ∷ ts) switches mode h =
    ap (λ (s : Option TextMode). mode_after ts (drop 1 switches) (mode_after_kind t.kind s mode)) (none_of switches h)
    ∙ same_mode ts (drop 1 switches) (mode_after_kind t.kind None mode) (drop_none 1 switches h)

pub same_tokens : (rows : List Row) (k : ℕ) (mode : TextMode) (name : Option (List ℕ)) (place : ℕ) (text : List ℕ) (switches : List (Option TextMode)) → AreNone switches →
    tokens_after rows k mode name place text switches ≡ tokens_after rows k mode name place text []
unfolding tokens_after
same_tokens rows k mode name place [] switches h = refl
same_tokens rows zero mode name place (c ∷ rest) switches h =
    let first = next rows mode name place (c ∷ rest) in
    let n = length first.tokens in
    let after = mode_after first.tokens [] mode in
    ap (λ (m : TextMode). first.tokens ++ tokens_after rows (first.len - 1) m (name_after first.tokens name) (place + 1) rest (drop n switches)) (same_mode first.tokens switches mode h)
    ∙ ap (λ (ts : List Token). first.tokens ++ ts) (same_tokens rows (first.len - 1) after (name_after first.tokens name) (place + 1) rest (drop n switches) (drop_none n switches h)
    ∙ ap (tokens_after rows (first.len - 1) after (name_after first.tokens name) (place + 1) rest) (sym (drop-nil n)))
same_tokens rows (suc k) mode name place (c ∷ rest) switches h = same_tokens rows k mode name (place + 1) rest switches h

unsaid_none : (tokens : List Token) → AreNone (unsaid tokens)
unsaid_none [] = tt
unsaid_none (t ∷ ts) = (refl, unsaid_none ts)

-- the run that has given these tokens of a whole text
abbrev pub run_of : Start → List ℕ → List Token → Run
run_of start text tokens = record { start = start; text = text; finished = true; given = tokens; switches = unsaid tokens }

-- all have been given
pub all_given : (start : Start) (text : List ℕ) (tokens : List Token) → tokens_of text (unsaid tokens) start ≡ tokens → tokens ≡ tokens_of text [] start
all_given start text tokens e = sym e ∙ same_tokens start.rows 0 start.mode start.name 0 text (unsaid tokens) (unsaid_none tokens)

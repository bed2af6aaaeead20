-- What is said after a token changes no token before it, nor that one.
use Rattle.std.proofs.Common.{ℕ, zero, suc, ◌+◌, ◌-◌, ◌<◌, ◌≡◌, ◌∙◌, arith, List, [], ◌∷◌, ◌++◌, length, drop, take, replicate, Option, None, refl, sym, ap, ap₂, subst, append_assoc, length-append}
use Rattle.std.specs.Prelude.{get_or}
use Rattle.std.proofs.lemmas.List.{append-nil, replicate-append-replicate}
use Rattle.html_charref.specs.declared.table.Row.{Row}
use Rattle.html_tokens.specs.Given.{Fed}
use Rattle.html_tokens.specs.Fed.{to_come}
use Rattle.html_tokens.specs.Input.{MayFollow}
use Rattle.html_tokens.specs.Runs.{gave_all, plain_tokens}
use Rattle.html_tokens.specs.Stream.{Run, gave, tokens_of}
use Rattle.html_tokens.specs.Tokens.{mode_after, mode_after_kind, name_after, next, token, tokens_after}
use Rattle.html_tokens.specs.declared.token.TextMode.{TextMode}
use Rattle.html_tokens.specs.declared.token.Token.{Token}
use Rattle.html_tokens.specs.declared.token.TokenKind.{TokenKind}
use Rattle.html_tokens.specs.declared.token.TokenKind.TheVariants.{Char}
use Rattle.html_construction.specs.Built.{chars_of}
use Rattle.html_parser.specs.Kinds.{kinds}
use Rattle.html_parser.proofs.Taken.{kinds-plain}
use Rattle.html_tokens.specs.declared.tokenizer.Tokenizer.{Tokenizer}
use Rattle.html_parser.proofs.Openings.{opened}
use Rattle.html_parser.proofs.Tokenizing.{given-all}

-- A TOKEN BY WHAT WAS SAID BEFORE IT

-- the list has this element, behind these
abbrev Has : List Token → List Token → Token → Type 0
Has list before t = (later : List Token) × (list ≡ before ++ t ∷ later)

abbrev first_or : Token → List Token → Token
first_or t [] = t
first_or t (u ∷ us) = u

abbrev others : List Token → List Token
others [] = []
others (u ∷ us) = us

-- what follows some tokens, of which this was said
abbrev then : (List (Option TextMode) → TextMode → List Token) → List Token → List (Option TextMode) → TextMode → List Token
then more ts said mode = ts ++ more (drop (length ts) said) (mode_after ts said mode)

-- an element stands behind some tokens, whatever is said from it on, or among them
behind : (more : List (Option TextMode) → TextMode → List Token) (ts : List Token) (front ss rs : List (Option TextMode)) (mode : TextMode) (before : List Token) (t : Token) (later : List Token)
    → ((front' : List (Option TextMode)) (mode' : TextMode) (before' : List Token) → length front' ≡ length before' → more (front' ++ ss) mode' ≡ before' ++ t ∷ later → Has (more (front' ++ rs) mode') before' t)
    → length front ≡ length before → then more ts (front ++ ss) mode ≡ before ++ t ∷ later → Has (then more ts (front ++ rs) mode) before t
behind more [] front ss rs mode before t later again l e = again front mode before l e
behind more (u ∷ us) [] ss rs mode [] t later again l e =
    let rest : List Token = us ++ more (drop (suc (length us)) rs) (mode_after (u ∷ us) rs mode) in
    (rest, ap (λ (x : Token). x ∷ rest) (ap (first_or u) e))
behind more (u ∷ us) [] ss rs mode (b ∷ before) t later again l e = cc
behind more (u ∷ us) (f ∷ front) ss rs mode [] t later again l e = cc
behind more (u ∷ us) (f ∷ front) ss rs mode (b ∷ before) t later again l e =
    let shorter : suc (length front) ≡ suc (length before) = l in
    let h = behind more us front ss rs (mode_after_kind u.kind f mode) before t later again (omega (arith, shorter)) (ap others e) in
    (h.0, ap₂ (λ x xs. x ∷ xs) (ap (first_or u) e) h.1)

said_before : (rows : List Row) (k : ℕ) (mode : TextMode) (name : Option (List ℕ)) (place : ℕ) (text : List ℕ) (front ss rs : List (Option TextMode)) (before : List Token) (t : Token) (later : List Token)
    → length front ≡ length before → tokens_after rows k mode name place text (front ++ ss) ≡ before ++ t ∷ later → Has (tokens_after rows k mode name place text (front ++ rs)) before t
unfolding tokens_after
said_before rows k mode name place [] front ss rs before t later l e = (later, e)
said_before rows zero mode name place (c ∷ rest) front ss rs before t later l e =
    let first = next rows mode name place (c ∷ rest) in
    behind (λ s m. tokens_after rows (first.len - 1) m (name_after first.tokens name) (place + 1) rest s) first.tokens front ss rs mode before t later
    (λ front' mode' before' l' e'. said_before rows (first.len - 1) mode' (name_after first.tokens name) (place + 1) rest front' ss rs before' t later l' e') l e
said_before rows (suc k) mode name place (c ∷ rest) front ss rs before t later l e = said_before rows k mode name (place + 1) rest front ss rs before t later l e

-- THE RUN AFTER PLAIN TEXT

all-switches : (run : Run) (tokens : List Token) → (gave_all run tokens).switches ≡ run.switches ++ replicate (length tokens) None
all-switches run [] = sym (append-nil run.switches)
all-switches run (t ∷ ts) = all-switches (gave run t None) ts ∙ append_assoc run.switches (None ∷ []) (replicate (length ts) None)

abbrev others_kinds : List TokenKind → List TokenKind
others_kinds [] = []
others_kinds (k ∷ ks) = ks

-- tokens that are code points
chars-length : (tokens : List Token) (text : List ℕ) → kinds tokens ≡ chars_of text → length tokens ≡ length text
chars-length [] [] e = refl
chars-length [] (c ∷ cs) e = cc
chars-length (t ∷ ts) [] e = cc
chars-length (t ∷ ts) (c ∷ cs) e = ap suc (chars-length ts cs (ap others_kinds e))

pub chars-switches : (run : Run) (tokens : List Token) (text : List ℕ) → kinds tokens ≡ chars_of text → (gave_all run tokens).switches ≡ run.switches ++ replicate (length text) None
chars-switches run tokens text e = all-switches run tokens ∙ ap (λ n. run.switches ++ replicate n None) (chars-length tokens text e)

pub gave-switches : (run : Run) (place : ℕ) (text : List ℕ) → (gave_all run (plain_tokens place text)).switches ≡ run.switches ++ replicate (length text) None
gave-switches run place text = chars-switches run (plain_tokens place text) text (kinds-plain place text)

pub gave-text : (run : Run) (tokens : List Token) → (gave_all run tokens).text ≡ run.text
gave-text run [] = refl
gave-text run (t ∷ ts) = gave-text (gave run t None) ts

pub gave-start : (run : Run) (tokens : List Token) → (gave_all run tokens).start ≡ run.start
gave-start run [] = refl
gave-start run (t ∷ ts) = gave-start (gave run t None) ts

pub gave-finished : (run : Run) (tokens : List Token) → (gave_all run tokens).finished ≡ run.finished
gave-finished run [] = refl
gave-finished run (t ∷ ts) = gave-finished (gave run t None) ts

-- one of its code points
abbrev pub char-token : ℕ → List ℕ → ℕ → Token
char-token place text k = token (Char (get_or text k 0)) (place + k) (place + k + 1)

pub plain-split : (place : ℕ) (text : List ℕ) (k : ℕ) → k < length text
    → (later : List Token) × (plain_tokens place text ≡ plain_tokens place (take k text) ++ char-token place text k ∷ later)
plain-split place [] k h = absurd (omega (arith, h))
plain-split place (c ∷ cs) zero h =
    let e : place ≡ place + 0 = omega arith in
    (plain_tokens (place + 1) cs, ap (λ p. token (Char c) p (p + 1) ∷ plain_tokens (place + 1) cs) e)
plain-split place (c ∷ cs) (suc k) h =
    let less : suc k < suc (length cs) = h in
    let more = plain-split (place + 1) cs k (omega (arith, less)) in
    let e : (place + 1) + k ≡ place + suc k = omega arith in
    (more.0, ap (λ ts. token (Char c) place (place + 1) ∷ ts) (more.1 ∙ ap (λ p. plain_tokens (place + 1) (take k cs) ++ token (Char (get_or cs k 0)) p (p + 1) ∷ more.0) e))

regrouped : (given first split more : List Token) (t : Token) → (given ++ (first ++ t ∷ split)) ++ more ≡ (given ++ first) ++ t ∷ (split ++ more)
regrouped given first split more t =
    ap (λ r. r ++ more) (sym (append_assoc given first (t ∷ split))) ∙ append_assoc (given ++ first) (t ∷ split) more

plain-length : (place : ℕ) (text : List ℕ) → length (plain_tokens place text) ≡ length text
plain-length place [] = refl
plain-length place (c ∷ cs) = ap suc (plain-length (place + 1) cs)

taken-length : (text : List ℕ) (k : ℕ) → k < length text → length (take k text) ≡ k
taken-length [] k h = absurd (omega (arith, h))
taken-length (c ∷ cs) zero h = refl
taken-length (c ∷ cs) (suc k) h = let less : suc k < suc (length cs) = h in ap suc (taken-length cs k (omega (arith, less)))

-- each code point of plain text that was given is listed, however the text goes on and whatever is said from it on
pub text_listed : (t : Tokenizer) (run : Run) (place : ℕ) (text : List ℕ) (k : ℕ) → length run.switches ≡ length run.given → Fed t (gave_all run (plain_tokens place text)) → k < length text
    → (more : List ℕ) (said : List (Option TextMode)) → MayFollow run.finished more
    → (later : List Token) × (tokens_of (run.text ++ more) (run.switches ++ (replicate (length (take k text)) None ++ said)) run.start ≡ (run.given ++ plain_tokens place (take k text)) ++ char-token place text k ∷ later)
text_listed t run place text k counted f within more said follow =
    let tokens = plain_tokens place text in
    let first = plain_tokens place (take k text) in
    let after = gave_all run tokens in
    let n = length text in
    let nones : List (Option TextMode) = replicate (length (take k text)) None in
    let later = to_come t.machine more [] in
    let i = opened t after f in
    let split = plain-split place text k within in
    let given : after.given ++ later ≡ (run.given ++ first) ++ char-token place text k ∷ (split.0 ++ later)
    = ap (λ g. g ++ later) (given-all run tokens ∙ ap (λ ts. run.given ++ ts) split.1) ∙ regrouped run.given first split.0 later (char-token place text k) in
    let few : length (take k text) ≡ k = taken-length text k within in
    let parts : k + (n - k) ≡ n = omega (arith, within) in
    let all : nones ++ replicate (n - k) None ≡ replicate n None
    = ap (λ m. replicate m None ++ replicate (n - k) None) few ∙ replicate-append-replicate k (n - k) None ∙ ap (λ m. replicate m None) parts in
    let front = run.switches ++ nones in
    let switches : front ++ replicate (n - k) None ≡ after.switches ++ []
    = append_assoc run.switches nones (replicate (n - k) None) ∙ ap (λ s. run.switches ++ s) all ∙ sym (gave-switches run place text) ∙ sym (append-nil after.switches) in
    let known : tokens_of (run.text ++ more) (front ++ replicate (n - k) None) run.start ≡ (run.given ++ first) ++ char-token place text k ∷ (split.0 ++ later)
    = ap₂ (λ s begun. tokens_of (run.text ++ more) s begun) switches (sym (gave-start run tokens))
    ∙ ap (λ x. tokens_of (x ++ more) (after.switches ++ []) after.start) (sym (gave-text run tokens))
    ∙ i.tokens more [] (subst (λ b. MayFollow b more) (sym (gave-finished run tokens)) follow)
    ∙ given in
    let counts : length front ≡ length (run.given ++ first)
    = omega (arith, counted, length-append run.switches nones, length-append run.given first, plain-length place (take k text), nones-length (length (take k text))) in
    let h = said_before run.start.rows 0 run.start.mode run.start.name 0 (run.text ++ more) front (replicate (n - k) None) said (run.given ++ first) (char-token place text k) (split.0 ++ later) counts known in
    (h.0, ap (λ s. tokens_of (run.text ++ more) s run.start) (sym (append_assoc run.switches nones said)) ∙ h.1)
  where
    nones-length : (m : ℕ) → length (replicate {A = Option TextMode} m None) ≡ m
    nones-length zero = refl
    nones-length (suc m) = ap suc (nones-length m)

-- What a front of a text is read as, whatever follows it.
use Rattle.std.specs.Prelude.{slice_get, Some, None, Option, ◌==◌}
use Rattle.std.proofs.lemmas.Bool.{cond-false}
use Rattle.std.proofs.lemmas.Bool.Decides.{nat_tests}
use Rattle.std.proofs.Common.{ℕ, ◌≡◌, ◌≢◌, ◌+◌, ◌<◌, List, [], ◌∷◌, ◌++◌, length, drop, true, false, refl, sym, ap, ◌∙◌, subst, arith, length-append, append_assoc, add-zero}
use Rattle.html_charref.specs.declared.table.Row.{Row}
use Rattle.html_charref.specs.Entities.{one_character}
use Rattle.html_charref.specs.Table.{IsTable}
use Rattle.html_tokens.specs.Tokens.{tokens_after, token, piece, ref_tokens, begun_piece, mode_after_kind, name_after_kind}
use Rattle.html_tokens.specs.Marks.{begin_at, is_stop}
use Rattle.html_tokens.specs.Reference.{Reference, ref_opener}
use Rattle.html_tokens.specs.declared.token.Begin.{Begin}
use Rattle.html_tokens.specs.declared.token.Begin.TheVariants as begins
use Rattle.html_tokens.specs.declared.token.RefOpener.TheVariants.{Named}
use Rattle.html_tokens.specs.declared.token.Region.TheVariants.{Plain}
use Rattle.html_tokens.specs.declared.token.TextMode.TheVariants.{Data}
use Rattle.html_tokens.specs.declared.token.Token.{Token}
use Rattle.html_tokens.specs.declared.token.TokenKind.{TokenKind}
use Rattle.html_tokens.specs.declared.token.TokenKind.TheVariants.{Char}
use Rattle.html_tokens.proofs.TokensLemmas.{tokens_skip, tokens_text, tokens_begun}
use Rattle.html_tokens.proofs.StepLemmas.{named_some}
use Rattle.html_page.proofs.CoreRows.{core_longest}
use Rattle.html_page.proofs.TokenLists.{same_tokens}
use Rattle.html_page.specs.PageTokens.{kinds}

-- the tokens of a text from a place on, spans aside
abbrev pub rest_kinds : List Row → Option (List ℕ) → ℕ → List ℕ → List TokenKind
rest_kinds rows name place text = kinds (tokens_after rows 0 Data name place text [])

-- the text is read as these tokens, which are put before those of what follows
abbrev pub Reads : List Row → List ℕ → (List TokenKind → List TokenKind) → Type 0
Reads rows s f = (name : Option (List ℕ)) (place : ℕ) (rest : List ℕ) → (n : Option (List ℕ)) × (p : ℕ) × (rest_kinds rows name place (s ++ rest) ≡ f (rest_kinds rows n p rest))

pub reads-none : (rows : List Row) → Reads rows [] (λ k. k)
reads-none rows name place rest = (name, place, refl)

pub reads-then : (rows : List Row) (s t : List ℕ) (f g : List TokenKind → List TokenKind) → Reads rows s f → Reads rows t g → Reads rows (s ++ t) (λ k. f (g k))
reads-then rows s t f g a b name place rest =
    let x = a name place (t ++ rest) in
    let y = b x.0 x.1 rest in
    (y.0, y.1, ap (λ (z : List ℕ). rest_kinds rows name place z) (append_assoc s t rest) ∙ x.2 ∙ ap f y.2)

unsaid_one : (rows : List Row) (name : Option (List ℕ)) (place : ℕ) (text : List ℕ) → tokens_after rows 0 Data name place text [] ≡ tokens_after rows 0 Data name place text (None ∷ [])
unsaid_one rows name place text = sym (same_tokens rows 0 Data name place text (None ∷ []) (refl, tt))

-- a code point that begins neither markup nor a reference
pub reads-char : (rows : List Row) (c : ℕ) → c ≢ 60 → c ≢ 38 → Reads rows (c ∷ []) (λ k. Char c ∷ k)
reads-char rows c no_lt no_amp name place rest = (
  name,
  place + 1,
  ap kinds (unsaid_one rows name place (c ∷ rest) ∙ tokens_text rows Data Plain Plain name place c rest None [] begins_char refl),
)
  where
    lt : c == 60 ≡ false
    lt = grind (arith, nat_tests)

    amp : c == 38 ≡ false
    amp = grind (arith, nat_tests)

    begins_char : begin_at Data Plain name (c ∷ rest) ≡ begins.Char
    begins_char = cond-false (c == 60) begins.Markup _ lt ∙ cond-false (c == 38) begins.Reference begins.Char amp

pub past_front : (s rest : List ℕ) → drop (length s) (s ++ rest) ≡ rest
past_front [] rest = refl
past_front (c ∷ s) rest = past_front s rest

-- a piece that is one token
pub reads-piece : (rows : List Row) (s : List ℕ) (kind : TokenKind) (b : Begin) → is_stop b ≡ true → 0 < length s → mode_after_kind kind None Data ≡ Data
    → ((name : Option (List ℕ)) (rest : List ℕ) → begin_at Data Plain name (s ++ rest) ≡ b)
    → ((place : ℕ) (rest : List ℕ) → (end : ℕ) × (begun_piece rows b place (s ++ rest) ≡ piece (token kind place end ∷ []) (length s)))
    → Reads rows s (λ k. kind ∷ k)
reads-piece rows s kind b stop some mode begin_is piece_is name place rest =
    let p = piece_is place rest in
    let after = name_after_kind kind name in (
      after,
      place + length s,
      ap kinds (tokens_begun rows b Data Plain name place (s ++ rest) [] (piece (token kind place p.0 ∷ []) (length s)) (begin_is name rest) stop p.1 some (omega (arith, some, length-append s rest))
          ∙ ap (λ m. token kind place p.0 ∷ tokens_after rows (length s) m after place (s ++ rest) []) mode
          ∙ ap (λ (n : ℕ). token kind place p.0 ∷ tokens_after rows n Data after place (s ++ rest) []) (sym (add-zero (length s)))
          ∙ ap (λ (ts : List Token). token kind place p.0 ∷ ts) (tokens_skip rows (length s) 0 Data after place (s ++ rest) [] (omega (arith, length-append s rest))
          ∙ ap (λ (t : List ℕ). tokens_after rows 0 Data after (place + length s) t []) (past_front s rest))),
    )

-- how a character is escaped: by a name of the core
pub record IsEscape (rows : List Row) (s : List ℕ) (c : ℕ) : Type 0 where
  pub letters : List ℕ
  pub is : s ≡ 38 ∷ (letters ++ 59 ∷ [])
  pub place : ℕ
  pub row : slice_get rows place ≡ Some (one_character (38 ∷ (letters ++ 59 ∷ [])) c)
  pub opener : (rest : List ℕ) → ref_opener ((38 ∷ (letters ++ 59 ∷ [])) ++ rest) ≡ Named

pub reads-escape : (rows : List Row) (s : List ℕ) (c : ℕ) → IsTable rows → IsEscape rows s c → Reads rows s (λ k. Char c ∷ k)
reads-escape rows s c table e =
    subst (λ (t : List ℕ). Reads rows t (λ k. Char c ∷ k)) (sym e.is)
    (reads-piece rows (38 ∷ (e.letters ++ 59 ∷ [])) (Char c) begins.Reference refl (omega arith) refl (λ name rest. refl)
    (λ place rest. (
      place + length (38 ∷ (e.letters ++ 59 ∷ [])),
      ap (λ (r : Reference). piece (ref_tokens r.codes place (place + r.len)) r.len)
          (named_some rows ((38 ∷ (e.letters ++ 59 ∷ [])) ++ rest) (length (38 ∷ (e.letters ++ 59 ∷ []))) (one_character (38 ∷ (e.letters ++ 59 ∷ [])) c).text (e.opener rest)
          (core_longest rows table e.place c e.letters rest e.row)),
    )))

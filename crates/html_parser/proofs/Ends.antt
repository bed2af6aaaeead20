-- The last token of a text is the end of the input.
use Rattle.std.proofs.Common.{ℕ, zero, suc, ◌+◌, ◌-◌, ◌≡◌, ◌∙◌, List, [], ◌∷◌, ◌++◌, length, drop, Option, refl, sym, ap, append_assoc}
use Rattle.html_charref.specs.declared.table.Row.{Row}
use Rattle.html_tokens.specs.Stream.{Start, tokens_of}
use Rattle.html_tokens.specs.Tokens.{mode_after, name_after, next, tokens_after}
use Rattle.html_tokens.specs.declared.token.TextMode.{TextMode}
use Rattle.html_tokens.specs.declared.token.Token.{Token}
use Rattle.html_tokens.specs.declared.token.TokenKind.TheVariants.{Eof}
use Rattle.html_builder.specs.Handed.{EndsAtEof}
use Rattle.html_parser.specs.Kinds.{kinds}

pub kinds-append : (xs ys : List Token) → kinds (xs ++ ys) ≡ kinds xs ++ kinds ys
kinds-append [] ys = refl
kinds-append (x ∷ xs) ys = ap (λ r. x.kind ∷ r) (kinds-append xs ys)

-- more tokens before the last
ends-after : (xs ys : List Token) → EndsAtEof (kinds ys) → EndsAtEof (kinds (xs ++ ys))
ends-after xs ys (front, e) =
    (kinds xs ++ front, kinds-append xs ys ∙ ap (λ r. kinds xs ++ r) e ∙ sym (append_assoc (kinds xs) front (Eof ∷ [])))

ends-from : (rows : List Row) (passed : ℕ) (mode : TextMode) (name : Option (List ℕ)) (place : ℕ) (text : List ℕ) (switches : List (Option TextMode))
    → EndsAtEof (kinds (tokens_after rows passed mode name place text switches))
unfolding tokens_after
ends-from rows passed mode name place [] switches = ([], refl)
ends-from rows zero mode name place (c ∷ rest) switches =
    let first = next rows mode name place (c ∷ rest) in
    ends-after first.tokens (tokens_after rows (first.len - 1) (mode_after first.tokens switches mode) (name_after first.tokens name) (place + 1) rest (drop (length first.tokens) switches))
    (ends-from rows (first.len - 1) (mode_after first.tokens switches mode) (name_after first.tokens name) (place + 1) rest (drop (length first.tokens) switches))
ends-from rows (suc k) mode name place (c ∷ rest) switches = ends-from rows k mode name (place + 1) rest switches

pub ends_at_eof : (text : List ℕ) (switches : List (Option TextMode)) (start : Start) → EndsAtEof (kinds (tokens_of text switches start))
ends_at_eof text switches start = ends-from start.rows 0 start.mode start.name 0 text switches

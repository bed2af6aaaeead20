-- The token of a number.
use Rattle.std.proofs.Common.{ℕ, zero, suc, ◌+◌, ◌-◌, ◌<◌, ◌≤◌, ◌≡◌, List, [], ◌∷◌, ◌++◌, length, drop, get_or, refl, sym, ap, subst, ◌∙◌, arith, Option, Some, None, append_assoc}
use Rattle.std.specs.Prelude.{slice_get, option_map}
use Rattle.std.proofs.lemmas.List.{drop_more}
use Rattle.html_tokens.specs.Runs.{plain_tokens}
use Rattle.html_tokens.specs.Tokens.{token}
use Rattle.html_tokens.specs.declared.token.Token.{Token}
use Rattle.html_tokens.specs.declared.token.TokenKind.TheVariants as kinds
use Rattle.html_token_list.specs.declared.pieces.Piece.{Piece}
use Rattle.html_token_list.specs.Pieces.{AreWhole, IsWhole, all_tokens, piece_tokens}

pub same-option : {A : Type 0} → (r : Option A) → option_map (λ x. x) r ≡ r
same-option None = refl
same-option (Some x) = refl

-- the token of a number in plain text
pub slice_get-plain : (place : ℕ) (cs : List ℕ) (i : ℕ) → slice_get (plain_tokens place cs) i ≡ option_map (λ c. token (kinds.Char c) (place + i) (place + i + 1)) (slice_get cs i)
slice_get-plain place [] i = refl
slice_get-plain place (c ∷ cs) zero = let e : place ≡ place + zero = omega arith in ap (λ p. Some (token (kinds.Char c) p (p + 1))) e
slice_get-plain place (c ∷ cs) (suc i) =
    let e : place + 1 + i ≡ place + suc i = omega arith in
    slice_get-plain (place + 1) cs i ∙ ap (λ p. option_map (λ x. token (kinds.Char x) p (p + 1)) (slice_get cs i)) e

pub slice_get-front : {A : Type 0} → (xs ys : List A) (i : ℕ) → i < length xs → slice_get (xs ++ ys) i ≡ slice_get xs i
slice_get-front [] ys i h = absurd (let z : length (let l : List ℕ = [] in l) ≡ 0 = refl in omega arith)
slice_get-front (x ∷ xs) ys zero h = refl
slice_get-front (x ∷ xs) ys (suc i) h = let w : i < length xs = omega arith in slice_get-front xs ys i w

pub slice_get-after : {A : Type 0} → (xs ys : List A) (i n : ℕ) → length xs ≡ n → n ≤ i → slice_get (xs ++ ys) i ≡ slice_get ys (i - n)
slice_get-after [] ys i n e h = let z : i - n ≡ i = omega arith in rw z refl
slice_get-after (x ∷ xs) ys zero n e h = absurd (omega arith)
slice_get-after (x ∷ xs) ys (suc i) n e h =
    let p : length xs ≡ n - 1 = omega arith in
    let q : n - 1 ≤ i = omega arith in
    let z : i - (n - 1) ≡ suc i - n = omega arith in
    slice_get-after xs ys i (n - 1) p q ∙ ap (λ m. slice_get ys m) z

pub AreWhole-at : (ps : List Piece) (i : ℕ) (p : Piece) → i < length ps → p ≡ get_or ps i p → AreWhole ps → IsWhole p
AreWhole-at [] i p h e a = absurd (omega arith)
AreWhole-at (q ∷ ps) zero p h e a = subst (λ x. IsWhole x) (sym e) a.0
AreWhole-at (q ∷ ps) (suc i) p h e a = let w : i < length ps = omega arith in AreWhole-at ps i p w e a.1

-- what is left of the pieces from this one on
left_is : (ps : List Piece) (i : ℕ) (p : Piece) (rest : List Token) → i < length ps → p ≡ get_or ps i p → all_tokens (drop i ps) ++ rest ≡ piece_tokens p ++ (all_tokens (drop (i + 1) ps) ++ rest)
left_is ps i p rest h e =
    ap (λ qs. all_tokens qs ++ rest) (drop_more ps i p h ∙ ap (λ y. y ∷ drop (i + 1) ps) (sym e)) ∙ append_assoc (piece_tokens p) (all_tokens (drop (i + 1) ps)) rest

pub found : (ps : List Piece) (i left index : ℕ) (p : Piece) (rest : List Token) → i < length ps → p ≡ get_or ps i p → slice_get (all_tokens (drop i ps) ++ rest) left ≡ slice_get (all_tokens ps ++ rest) index → left < length (piece_tokens p) → slice_get (piece_tokens p) left ≡ slice_get (all_tokens ps ++ rest) index
found ps i left index p rest h e same lt =
    sym (slice_get-front (piece_tokens p) (all_tokens (drop (i + 1) ps) ++ rest) left lt) ∙ ap (λ ts. slice_get ts left) (sym (left_is ps i p rest h e)) ∙ same

pub passed : (ps : List Piece) (i left index n : ℕ) (p : Piece) (rest : List Token) → i < length ps → p ≡ get_or ps i p → slice_get (all_tokens (drop i ps) ++ rest) left ≡ slice_get (all_tokens ps ++ rest) index → n ≡ length (piece_tokens p) → n ≤ left → slice_get (all_tokens (drop (i + 1) ps) ++ rest) (left - n) ≡ slice_get (all_tokens ps ++ rest) index
passed ps i left index n p rest h e same c le =
    sym (slice_get-after (piece_tokens p) (all_tokens (drop (i + 1) ps) ++ rest) left n (sym c) le) ∙ ap (λ ts. slice_get ts left) (sym (left_is ps i p rest h e)) ∙ same

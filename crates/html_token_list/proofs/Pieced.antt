-- Tokens as pieces.
use Rattle.std.proofs.Common.{ℕ, suc, ◌+◌, ◌<◌, ◌≡◌, List, [], ◌∷◌, ◌++◌, length, refl, sym, ap, ◌∙◌, arith, append_assoc, length-append, subst, Result, Ok, Err, OnOk, if◌then◌else◌, is_ok}
use Rattle.std.proofs.lemmas.List.{append-nil, length_push}
use Rattle.html_tokens.specs.Runs.{plain_tokens}
use Rattle.html_tokens.specs.declared.token.Token.{Token}
use Rattle.html_token_list.specs.declared.pieces.Piece.{Piece}
use Rattle.html_token_list.specs.declared.pieces.Piece.TheVariants as piece
use Rattle.html_token_list.specs.declared.pieces.Stretch.{Stretch}
use Rattle.html_token_list.specs.Pieces.{AreWhole, IsCounted, IsWhole, all_tokens, piece_tokens}

pub all_tokens-push : (ps : List Piece) (p : Piece) → all_tokens (ps ++ p ∷ []) ≡ all_tokens ps ++ piece_tokens p
all_tokens-push [] p = append-nil (piece_tokens p)
all_tokens-push (q ∷ ps) p = ap (λ ts. piece_tokens q ++ ts) (all_tokens-push ps p) ∙ sym (append_assoc (piece_tokens q) (all_tokens ps) (piece_tokens p))

pub all_tokens-closed : (old kept new : List Piece) (s t : Stretch) → kept ≡ old → new ≡ kept ++ piece.Text s ∷ [] → s ≡ t → all_tokens new ≡ all_tokens old ++ plain_tokens t.start t.text
all_tokens-closed old kept new s t e f g =
    ap all_tokens f ∙ ap (λ ps. all_tokens (ps ++ piece.Text s ∷ [])) e ∙ all_tokens-push old (piece.Text s) ∙ ap (λ (x : Stretch). all_tokens old ++ plain_tokens x.start x.text) g

pub plain_tokens-append : (place : ℕ) (cs ds : List ℕ) → plain_tokens place (cs ++ ds) ≡ plain_tokens place cs ++ plain_tokens (place + length cs) ds
plain_tokens-append place [] ds = let e : place + length (let l : List ℕ = [] in l) ≡ place = omega arith in ap (λ n. plain_tokens n ds) (sym e)
plain_tokens-append place (c ∷ cs) ds =
    let e : place + 1 + length cs ≡ place + length (c ∷ cs) = omega arith in
    ap (λ ts. plain_tokens place (c ∷ []) ++ ts) (plain_tokens-append (place + 1) cs ds ∙ ap (λ n. plain_tokens (place + 1) cs ++ plain_tokens n ds) e)

pub length-plain_tokens : (place : ℕ) (cs : List ℕ) → length (plain_tokens place cs) ≡ length cs
length-plain_tokens place [] = refl
length-plain_tokens place (c ∷ cs) = ap (λ n. suc n) (length-plain_tokens (place + 1) cs)

-- the last stretch made longer
pub all-grown : (ps : List Token) (start s count place : ℕ) (text run new : List ℕ) → s ≡ start → count ≡ length text → start + count ≡ place → new ≡ text ++ run → ps ++ plain_tokens s new ≡ (ps ++ plain_tokens start text) ++ plain_tokens place run
all-grown ps start s count place text run new a c e n =
    ap (λ x. ps ++ plain_tokens x new) a
    ∙ ap (λ w. ps ++ plain_tokens start w) n
    ∙ ap (λ ts. ps ++ ts) (plain_tokens-append start text run ∙ ap (λ p. plain_tokens start text ++ plain_tokens p run) (ap (λ m. start + m) (sym c) ∙ e))
    ∙ sym (append_assoc ps (plain_tokens start text) (plain_tokens place run))

pub count-grown : (xs all : List Token) (place n : ℕ) (run : List ℕ) → all ≡ xs ++ plain_tokens place run → n ≡ length xs → n + length run ≡ length all
count-grown xs all place n run e h =
    let l : length all ≡ length xs + length run = ap length e ∙ length-append xs (plain_tokens place run) ∙ ap (λ m. length xs + m) (length-plain_tokens place run) in
    omega arith

-- one more piece of one token
pub other-added : (items new : List Piece) (t : Token) (s : ℕ) (text : List ℕ) (xs : List Token) → all_tokens items ≡ xs → new ≡ items ++ piece.Other t ∷ [] → text ≡ [] → all_tokens new ++ plain_tokens s text ≡ xs ++ t ∷ []
other-added items new t s text xs e f g =
    ap (λ w. all_tokens new ++ plain_tokens s w) g ∙ append-nil (all_tokens new) ∙ ap all_tokens f ∙ all_tokens-push items (piece.Other t) ∙ ap (λ ts. ts ++ t ∷ []) e

pub count-added : (xs all : List Token) (t : Token) (n : ℕ) → all ≡ xs ++ t ∷ [] → n ≡ length xs → n + 1 ≡ length all
count-added xs all t n e h =
    let l : length all ≡ length xs + 1 = ap length e ∙ length_push xs t in
    omega arith

pub AreWhole-push : (ps : List Piece) (p : Piece) → AreWhole ps → IsWhole p → AreWhole (ps ++ p ∷ [])
AreWhole-push [] p a h = (h, tt)
AreWhole-push (q ∷ ps) p a h = (a.0, AreWhole-push ps p a.1 h)

pub AreWhole-closed : (old kept new : List Piece) (s t : Stretch) → AreWhole old → kept ≡ old → new ≡ kept ++ piece.Text s ∷ [] → s ≡ t → 0 < t.count → IsCounted t → AreWhole new
AreWhole-closed old kept new s t a e f g some same =
    let w : AreWhole (old ++ piece.Text t ∷ []) = AreWhole-push old (piece.Text t) a (some, same) in
    subst (λ ps. AreWhole ps) (sym (f ∙ ap (λ ps. ps ++ piece.Text s ∷ []) e ∙ ap (λ (x : Stretch). old ++ piece.Text x ∷ []) g)) w

pub AreWhole-other : (items new : List Piece) (t : Token) → AreWhole items → new ≡ items ++ piece.Other t ∷ [] → AreWhole new
AreWhole-other items new t a f = subst (λ ps. AreWhole ps) (sym f) (AreWhole-push items (piece.Other t) a tt)

-- one more code point, or none
pub pushed_len : {X E : Type 0} (r : Result X E) (new old k l : ℕ) → new ≡ (if is_ok r then old + k else old) → k ≡ l → OnOk r (new ≡ old + l)
pushed_len (Ok v) new old k l e f = e ∙ ap (λ n. old + n) f
pushed_len (Err v) new old k l e f = tt

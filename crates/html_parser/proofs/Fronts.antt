-- What was decoded is a front of what is decoded, however the bytes go on.
use Rattle.std.proofs.Common.{ℕ, ◌≡◌, ◌∙◌, Bool, true, false, List, [], ◌∷◌, ◌++◌, take, refl, sym, ap, subst, append_assoc, arith}
use Rattle.std.specs.Prelude.{◌==◌, if◌then◌else◌}
use Rattle.std.proofs.lemmas.Bool.Decides.{nat_tests}
use Rattle.std.proofs.lemmas.List.{append-nil}
use Rattle.html_input.specs.Decode.{decode, normalise_newlines, scalar_values, starts_with_line_feed, without_mark}
use Rattle.html_input.specs.Fed.{Fed}
use Rattle.html_input.specs.Seam.{IsSeam}
use Rattle.html_input.specs.Unsettled.{bytes_of}
use Rattle.html_input.specs.declared.decoder.Decoder.{Decoder}
use Rattle.html_input.proofs.Steps.{over_one, seam_longer}
use Rattle.html_parser.specs.Causes.{IsFront}

-- a text begins with another
abbrev BeginsWith : List ℕ → List ℕ → Type 0
BeginsWith front text = (rest : List ℕ) × (text ≡ front ++ rest)

one_more : (c : ℕ) (front text : List ℕ) → BeginsWith front text → BeginsWith (c ∷ front) (c ∷ text)
one_more c front text (rest, e) = (rest, ap (λ t. c ∷ t) e)

-- by a test
by_one : (b : Bool) (front x y : List ℕ) → (b ≡ true → BeginsWith front x) → BeginsWith front y → BeginsWith front (if b then x else y)
by_one true front x y h k = h refl
by_one false front x y h k = k

by_both : (b : Bool) (f g x y : List ℕ) → BeginsWith f x → BeginsWith g y → BeginsWith (if b then f else g) (if b then x else y)
by_both true f g x y h k = h
by_both false f g x y h k = k

line_feed : (y : ℕ) (ys : List ℕ) → y == 10 ≡ true → BeginsWith (10 ∷ []) (normalise_newlines (y ∷ ys))
line_feed y ys e =
    let is : y ≡ 10 = grind (arith, nat_tests) in
    (normalise_newlines ys, ap (λ n. normalise_newlines (n ∷ ys)) is)

-- a carriage return, whatever follows
after_return : (ys : List ℕ) → BeginsWith (10 ∷ []) (if starts_with_line_feed ys then normalise_newlines ys else 10 ∷ normalise_newlines ys)
after_return [] = ([], refl)
after_return (y ∷ ys) =
    by_one (y == 10) (10 ∷ []) (normalise_newlines (y ∷ ys)) (10 ∷ normalise_newlines (y ∷ ys)) (line_feed y ys) (normalise_newlines (y ∷ ys), refl)

lines : (xs ys : List ℕ) → BeginsWith (normalise_newlines xs) (normalise_newlines (xs ++ ys))
lines [] ys = (normalise_newlines ys, refl)
lines (c ∷ []) ys =
    by_both (c == 13) (10 ∷ []) (c ∷ []) (if starts_with_line_feed ys then normalise_newlines ys else 10 ∷ normalise_newlines ys)
    (c ∷ normalise_newlines ys) (after_return ys) (normalise_newlines ys, refl)
lines (c ∷ d ∷ cs) ys =
    let more = lines (d ∷ cs) ys in
    let all = normalise_newlines (d ∷ cs ++ ys) in
    let some = normalise_newlines (d ∷ cs) in
    by_both (c == 13) (if d == 10 then some else 10 ∷ some) (c ∷ some) (if d == 10 then all else 10 ∷ all) (c ∷ all)
    (by_both (d == 10) some (10 ∷ some) all (10 ∷ all) more (one_more 10 some all more)) (one_more c some all more)

marked : (b : Bool) (c : ℕ) (cs ys : List ℕ) → BeginsWith (normalise_newlines (if b then cs else c ∷ cs)) (normalise_newlines (if b then cs ++ ys else c ∷ (cs ++ ys)))
marked true c cs ys = lines cs ys
marked false c cs ys = lines (c ∷ cs) ys

texts : (xs ys : List ℕ) → BeginsWith (normalise_newlines (without_mark xs)) (normalise_newlines (without_mark (xs ++ ys)))
texts [] ys = (normalise_newlines (without_mark ys), refl)
texts (c ∷ cs) ys = marked (c == 0xFEFF) c cs ys

-- the text that a decoder has put out
pub is_front : {limit : ℕ} {d : Decoder} {bytes text : List ℕ} → Fed limit false d bytes text → IsFront bytes text
is_front {limit} {d} {bytes} {text} f = λ more.
    let u = bytes_of d.unsettled in
    let near : IsSeam f.settled (take 1 ((u ++ more) ++ []))
    = subst (λ t. IsSeam f.settled (take 1 t)) (sym (append-nil (u ++ more))) (seam_longer f.settled u more (f.seam refl)) in
    let values : scalar_values (bytes ++ more) ≡ scalar_values f.settled ++ scalar_values (u ++ more)
    = ap (λ b. scalar_values (b ++ more)) f.cut ∙ ap scalar_values (append_assoc f.settled u more) ∙ over_one f.settled (u ++ more) [] near in
    let begun = texts (scalar_values f.settled) (scalar_values (u ++ more)) in
    (begun.0, ap (λ v. normalise_newlines (without_mark v)) values ∙ begun.1 ∙ ap (λ t. t ++ begun.0) (sym f.read.spelt))

-- a front of fewer bytes is one of more
pub front_longer : (bytes more text : List ℕ) → IsFront bytes text → IsFront (bytes ++ more) text
front_longer bytes more text h = λ others.
    let e = h (more ++ others) in
    (e.0, ap decode (append_assoc bytes more others) ∙ e.1)

-- Text without carriage returns, behind other text.
use Rattle.std.proofs.Common.{◌≡◌, ◌≢◌, ℕ, ◌+◌, List, [], ◌∷◌, ◌++◌, length, sym, ap, subst, ◌∙◌, arith, length-append, append-nil, append_assoc}
use Rattle.std.proofs.lemmas.Bool.Decides.{nat_tests}
use Rattle.std.proofs.lemmas.List.Elements.{All-cons, All-head, All-nil, All-tail}
use Rattle.std.proofs.lemmas.Str.{chars_from_encodes}
use Rattle.std.specs.Bool.{IsTrue, MatchBool}
use Rattle.std.specs.Prelude.{◌==◌, Bool, true, false, not, chars}
use Rattle.std.specs.Str.{IsUtf8, NoCharPasses, NonePass}
use Rattle.html_input.specs.declared.normaliser.Normaliser.{Normaliser}
use Rattle.html_input.specs.declared.previous.Previous.TheVariants.{Nothing, Other}
use Rattle.html_input.specs.Decode.{without_mark}
use Rattle.html_input.specs.Plain.{IsFree}
use Rattle.html_input.specs.Previous.{last_of}
use Rattle.html_input.specs.Normal.{ReadsOn}
use Rattle.html_input.proofs.Endings.{left_by_plain, last_of-more, text_of, text_of-more, without_mark-more}

-- what stands inside a text leaves nothing for the next code point
abbrev pub IsInside : List ℕ → Type 0
IsInside read = last_of Nothing read ≡ Other

inside-more : (read : List ℕ) (c : ℕ) → c ≢ 13 → IsInside (read ++ c ∷ [])
inside-more read c other = last_of-more Nothing read c ∙ (left_by_plain c other).0

pub inside-free : (read run : List ℕ) → IsInside read → IsFree run → IsInside (read ++ run)
inside-free read [] i h = ap (last_of Nothing) (append-nil read) ∙ i
inside-free read (c ∷ run) i h =
    let first = All-head (λ c. c ≢ 13) c run h in
    ap (last_of Nothing) (sym (append_assoc read (c ∷ []) run)) ∙ inside-free (read ++ c ∷ []) run (inside-more read c first) (All-tail (λ c. c ≢ 13) c run h)

pub without_mark-free : (read run : List ℕ) → IsInside read → IsFree run → without_mark (read ++ run) ≡ without_mark read ++ run
without_mark-free read [] i h = ap without_mark (append-nil read) ∙ sym (append-nil (without_mark read))
without_mark-free read (c ∷ run) i h =
    let first = All-head (λ c. c ≢ 13) c run h in
    ap without_mark (sym (append_assoc read (c ∷ []) run)) ∙ without_mark-free (read ++ c ∷ []) run (inside-more read c first) (All-tail (λ c. c ≢ 13) c run h)
    ∙ ap (λ t. t ++ run) (without_mark-more read c (λ mark none. cc)) ∙ append_assoc (without_mark read) (c ∷ []) run

pub text_of-free : (read run : List ℕ) → IsInside read → IsFree run → text_of (read ++ run) ≡ text_of read ++ run
text_of-free read [] i h = ap text_of (append-nil read) ∙ sym (append-nil (text_of read))
text_of-free read (c ∷ run) i h =
    let first = All-head (λ c. c ≢ 13) c run h in
    ap text_of (sym (append_assoc read (c ∷ []) run)) ∙ text_of-free (read ++ c ∷ []) run (inside-more read c first) (All-tail (λ c. c ≢ 13) c run h)
    ∙ ap (λ t. t ++ run) (text_of-more read c (λ mark none. cc) (λ feed return. cc) ∙ ap (λ k. text_of read ++ k ∷ []) (left_by_plain c first).1)
    ∙ append_assoc (text_of read) (c ∷ []) run

-- a normaliser reads such a text
pub reads_free : {n m : Normaliser} {added : List ℕ} (run : List ℕ) → IsFree run → n.previous ≡ Other
    → m.previous ≡ n.previous → m.count ≡ n.count + length run → m.put_out ≡ n.put_out + length run → added ≡ run → ReadsOn n m run added
reads_free {n} {m} {added} run free other same_previous count put_out is read text h =
    let inside : IsInside read = sym h.before ∙ other in
    let same : text ++ added ≡ text ++ run = ap (λ t. text ++ t) is in
    record {
      spelt = same ∙ ap (λ t. t ++ run) h.spelt ∙ sym (text_of-free read run inside free);
      counted = count ∙ omega (arith, h.counted, ap length (without_mark-free read run inside free), length-append (without_mark read) run);
      length_is = put_out ∙ omega (arith, h.length_is, ap length same, length-append text run);
      before = same_previous ∙ other ∙ sym (inside-free read run inside free);
    }

none_passes : (cs : List ℕ) → NonePass (λ d. d == 13) cs → IsFree cs
none_passes [] h = All-nil (λ c. c ≢ 13)
none_passes (c ∷ cs) h = All-cons (λ c. c ≢ 13) c cs (λ is. let test = h.0 in grind (arith, nat_tests)) (none_passes cs h.1)

-- a text in which the search for a carriage return ends in vain
pub free_by_search : (bs : List ℕ) (found : Bool) (P : Type 0) → IsUtf8 bs → MatchBool found P (NoCharPasses (λ d. d == 13) bs) → IsTrue (not found) → IsFree (chars bs)
free_by_search bs true P u h passes = absurd cc
free_by_search bs false P u h passes = subst IsFree (chars_from_encodes h.0 bs u h.1) (none_passes h.0 h.2)

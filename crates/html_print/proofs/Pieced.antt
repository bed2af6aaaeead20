-- The line of a token, as it is put piece by piece.
use Rattle.std.proofs.Common.{◌≡◌, ℕ, List, ◌∷◌, ◌++◌, sym, ap, ◌∙◌, append_assoc}
use Rattle.std.specs.Prelude.{codes}
use Rattle.html_ledger.specs.declared.fate.Fate.{Fate}
use Rattle.html_tokens.specs.declared.token.Token.{Token}
use Rattle.html_print.specs.Audit.{audit_line, audit_lines}

-- where it begins and ends
abbrev pub places : List ℕ → List ℕ → List ℕ
places s e = s ++ (codes " " ++ (e ++ codes " "))

module _ (s e kind fate pieces : List ℕ) (same : pieces ≡ fate) where
  abbrev pub whole : List ℕ
  whole = s ++ (codes " " ++ (e ++ (codes " " ++ (kind ++ (fate ++ codes "\n")))))

  pub from_places : whole ≡ places s e ++ (kind ++ (fate ++ codes "\n"))
  from_places =
      let rest = kind ++ (fate ++ codes "\n") in
      ap (λ l. s ++ (codes " " ++ l)) (sym (append_assoc e (codes " ") rest)) ∙ sym (append_assoc s (codes " " ++ (e ++ codes " ")) rest)

  pub from_fate : whole ≡ (places s e ++ kind) ++ (pieces ++ codes "\n")
  from_fate =
      from_places ∙ sym (append_assoc (places s e) kind (fate ++ codes "\n")) ∙ ap (λ f. (places s e ++ kind) ++ (f ++ codes "\n")) (sym same)

  pub from_end : whole ≡ ((places s e ++ kind) ++ pieces) ++ codes "\n"
  from_end = from_fate ∙ sym (append_assoc (places s e ++ kind) pieces (codes "\n"))

-- the line of one more token
pub more_lines : (all done : List ℕ) (ts later : List Token) (fs others : List Fate) (t : Token) (f : Fate) → all ≡ done ++ audit_lines ts fs → ts ≡ t ∷ later → fs ≡ f ∷ others
    → all ≡ done ++ (audit_line t f ++ audit_lines later others)
more_lines all done ts later fs others t f e a b = e ∙ ap (λ l. done ++ audit_lines l fs) a ∙ ap (λ l. done ++ audit_lines (t ∷ later) l) b

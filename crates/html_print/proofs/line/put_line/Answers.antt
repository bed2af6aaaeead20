use Rattle.std.proofs.Common.{Bor, List, ℕ, [], ◌∷◌, ◌*◌, ◌++◌, replicate, refl, sym, ◌∙◌, append_assoc}
use Rattle.std.specs.Prelude.{codes}
use Rattle.std.specs.List.{flat_map}
use Rattle.html_device.proofs.Puts.{Moves-trans, front_after, front_first, put_err, put_after}
use Rattle.html_print.proofs.line.put_line.Goals as goal

abbrev blanks : ℕ → List ℕ
blanks depth = replicate (2 * depth) 32

abbrev joined : List (Bor (List ℕ)) → List ℕ
joined texts = flat_map (λ (s : Bor (List ℕ)). s.now) texts

pub returns-in_err-put-clause-bytes : goal.returns-in_err-put-clause-bytes
returns-in_err-put-clause-bytes g c =
    put_err _ _ _ _ _ _ c.from_residual.ensures.0 (front_first _ _ _ _ _ c.in_err-put.ensures.bytes (blanks c.args.depth ++ (joined c.args.texts.now ++ 10 ∷ [])) refl)

pub returns-in_err-put_spaces-clause-bytes : goal.returns-in_err-put_spaces-clause-bytes
returns-in_err-put_spaces-clause-bytes g c =
    put_err _ _ _ _ _ _ c.from_residual-in_err-put_spaces.ensures.0
    (front_after _ _ _ _ _ _ _ _ c.in_ok-put.ensures.bytes c.in_err-put_spaces.ensures.bytes (joined c.args.texts.now ++ 10 ∷ []) refl)

pub returns-in_err-put_texts-clause-bytes : goal.returns-in_err-put_texts-clause-bytes
returns-in_err-put_texts-clause-bytes g c =
    put_err _ _ _ _ _ _ c.from_residual-in_err-put_texts.ensures.0
    (front_after _ _ _ _ _ _ _ _ (Moves-trans _ _ _ _ _ _ _ _ c.in_ok-put.ensures.bytes c.in_ok-put_spaces.ensures.bytes) c.in_err-put_texts.ensures.bytes (10 ∷ [])
    (sym (append_assoc (codes "| ") (blanks c.args.depth) (joined c.args.texts.now ++ 10 ∷ []))))

pub returns-clause-bytes : goal.returns-clause-bytes
returns-clause-bytes g c =
    put_after _ _ _ _ _ _ _ _ _ _
    (Moves-trans _ _ _ _ _ _ _ _ (Moves-trans _ _ _ _ _ _ _ _ c.in_ok-put.ensures.bytes c.in_ok-put_spaces.ensures.bytes) c.in_ok-put_texts.ensures.bytes) c.put-2.ensures.bytes
    (sym (append_assoc (codes "| ") (blanks c.args.depth) (joined c.args.texts.now ++ 10 ∷ [])) ∙ sym (append_assoc (codes "| " ++ blanks c.args.depth) (joined c.args.texts.now) (10 ∷ [])))

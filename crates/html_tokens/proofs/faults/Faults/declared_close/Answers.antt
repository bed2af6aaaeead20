use Rattle.std.proofs.Common.{[], ◌≡◌, ◌∙◌, refl, sym}
use Rattle.html_tokens.proofs.faults.Faults.declared_close.Goals as goal

pub returns-clause-opens : goal.returns-clause-opens
returns-clause-opens c = λ closed decided.
    let same : c.is_closed-closed.result ≡ closed = sym (c.is_closed-closed.ensures [] (λ _. refl)) ∙ decided [] (λ _. refl) in
    rw same at c.declared_end.ensures.opens

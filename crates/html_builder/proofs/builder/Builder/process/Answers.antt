use Rattle.std.proofs.Common.{◌∷◌, [], ◌≡◌, ◌∙◌, ℕ, subst, sym}
use Rattle.std.proofs.lemmas.Result.{err_from_is_err_and}
use Rattle.html_tokens.specs.declared.token.TokenKind.TheVariants.{Char}
use Rattle.html_builder.specs.Errors.{IsTold}
use Rattle.html_builder.specs.Handed.{CountsEach, HandsIn, IsBuildCause, LeadsTo, fates_of}
use Rattle.html_builder.proofs.Handing.{cause-one}
use Rattle.html_builder.proofs.builder.Builder.process.Goals as goal

pub returns-in_err-process_char-clause-cause : goal.returns-in_err-process_char-clause-cause
returns-in_err-process_char-clause-cause c =
    let p = err_from_is_err_and c.from_residual.result c.from_residual.ensures.1 in
    rw p.1 (λ s l ts h. subst (λ e. IsBuildCause s l ts (fates_of c.args.self.now) c.args.token.now.kind c.args.token.now.span.start e) (sym p.2)
    (cause-one s l ts (fates_of c.args.self.now) c.in-Char.c c.args.token.now.span.start c.args.token.now.kind c.in_err-process_char.field-0.0 (c.in_err-process_char.ensures.cause s l ts h)))

pub returns-in_err-process_char-clause-told : goal.returns-in_err-process_char-clause-told
returns-in_err-process_char-clause-told c =
    let p = err_from_is_err_and c.from_residual.result c.from_residual.ensures.1 in
    rw p.1 (λ s l ts h. subst (λ e. IsTold l c.args.token.now.kind c.process_char.new.self.page e) (sym p.2) (c.in_err-process_char.ensures.told s l ts h c.args.token.now.kind))

pub returns-in-Char-clause-takes : goal.returns-in-Char-clause-takes
returns-in-Char-clause-takes c = subst (λ t. HandsIn (t ∷ []) c.args.self.now c.process_char.new.self) (sym c.in-Char.is) c.in_ok-process_char.ensures.takes

pub returns-in-Char-clause-leads : goal.returns-in-Char-clause-leads
returns-in-Char-clause-leads c = subst (λ t. LeadsTo (t ∷ []) c.args.self.now c.process_char.new.self) (sym c.in-Char.is) c.in_ok-process_char.ensures.leads

pub returns-in-Char-clause-counts : goal.returns-in-Char-clause-counts
returns-in-Char-clause-counts c = λ d e.
    let q : Char c.in-Char.c ≡ Char d = sym c.in-Char.is ∙ e in
    let r : c.in-Char.c ≡ d = cc in subst (λ x. CountsEach (x ∷ []) c.args.self.now c.process_char.new.self) r c.in_ok-process_char.ensures.counts

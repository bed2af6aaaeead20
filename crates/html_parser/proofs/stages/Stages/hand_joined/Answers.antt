use Rattle.std.proofs.Common.{◌∙◌, ◌++◌, ◌∷◌, [], ap, refl, subst}
use Rattle.std.proofs.lemmas.Result.{err_from_is_err_and}
use Rattle.html_tokens.specs.Runs.{gave_all}
use Rattle.html_parser.specs.Causes.{IsTokenCause}
use Rattle.html_parser.specs.Kinds.{kinds}
use Rattle.html_parser.specs.Staged.{IsFurther}
use Rattle.html_parser.proofs.Causing.{joined_refused, joined_told, joined_unspent}
use Rattle.html_parser.proofs.Further.{text_rest}
use Rattle.html_parser.proofs.Gathers.{joined_hands}
use Rattle.html_parser.proofs.Unsaid.{gave-text}
use Rattle.html_parser.proofs.stages.Stages.hand_joined.Goals as goal

pub returns-in_err-put-clause-unspent : goal.returns-in_err-put-clause-unspent
returns-in_err-put-clause-unspent c =
    let p = err_from_is_err_and c.from_residual-in_err-put.result c.from_residual-in_err-put.ensures.1 in
    rw (p.1, p.2) (λ at told. joined_unspent c.args.self.now.builder c.as_slice.result.now 0 c.put.new.builder.page c.in_err-put.field-0.0 at c.in_err-put.ensures.cause told)

pub returns-in_err-put-clause-cause : goal.returns-in_err-put-clause-cause
returns-in_err-put-clause-cause c =
    let p = err_from_is_err_and c.from_residual-in_err-put.result c.from_residual-in_err-put.ensures.1 in
    rw (p.1, p.2) (λ start finished bytes run r g. joined_refused start finished c.args.self.now bytes run c.as_slice.result.now c.put.new.builder.page c.in_err-put.field-0.0
    c.requires.unlimited r c.in_err-put.ensures.cause)

pub returns-in_err-put-clause-told : goal.returns-in_err-put-clause-told
returns-in_err-put-clause-told c =
    let p = err_from_is_err_and c.from_residual-in_err-put.result c.from_residual-in_err-put.ensures.1 in
    rw (p.1, p.2) (λ start finished bytes run r. joined_told start finished c.args.self.now bytes run c.as_slice.result.now 0 c.put.new.builder.page c.in_err-put.field-0.0 r c.in_err-put.ensures.cause)

pub returns-in_err-hand_answer-clause-cause : goal.returns-in_err-hand_answer-clause-cause
returns-in_err-hand_answer-clause-cause c =
    let p = err_from_is_err_and c.from_residual-in_err-hand_answer.result c.from_residual-in_err-hand_answer.ensures.1 in
    let g = c.in_ok-answer.ensures.gathered in
    rw (p.1, p.2) (λ start finished bytes run r given.
    let hands = joined_hands c.args.self.now _ c.args.self.now.tokenizer c.gather_char.new.kept c.gather_char.new.text.items c.gather.new.text.items c.as_slice.result.now _ c.args.token c.args.c g
    c.requires.char (c.in_ok-gather_char.ensures.text ∙ ap (λ x. x ++ c.args.c ∷ []) c.clear.ensures.items) c.as_slice.ensures.value c.in_ok-gather_char.ensures.starts c.in_ok-gather_char.ensures.tokens
    c.gather_char.ensures.keeps c.gather.ensures.keeps refl c.in_ok-put.ensures.takes c.in_ok-put.ensures.leads c.requires.html c.in_ok-put.ensures.grows c.in_ok-put.ensures.ok c.in_ok-put.ensures.parses in
    let rest = text_rest start finished bytes run c.args.self.now _ (c.args.token ∷ g.tokens) c.as_slice.result.now hands
    (c.counted.ensures.counted start.setting start.limits (kinds run.given) r.handed) r in
    subst (λ t. IsTokenCause start finished t c.in_err-hand_answer.field-0.0) (gave-text run (c.args.token ∷ g.tokens))
    (c.in_err-hand_answer.ensures.cause start finished bytes (gave_all run (c.args.token ∷ g.tokens)) rest (g.given _ given.unsaid)))

pub returns-in_err-hand_answer-clause-told : goal.returns-in_err-hand_answer-clause-told
returns-in_err-hand_answer-clause-told c =
    let p = err_from_is_err_and c.from_residual-in_err-hand_answer.result c.from_residual-in_err-hand_answer.ensures.1 in
    let g = c.in_ok-answer.ensures.gathered in
    rw (p.1, p.2) (λ start finished bytes run r.
    let hands = joined_hands c.args.self.now _ c.args.self.now.tokenizer c.gather_char.new.kept c.gather_char.new.text.items c.gather.new.text.items c.as_slice.result.now _ c.args.token c.args.c g
    c.requires.char (c.in_ok-gather_char.ensures.text ∙ ap (λ x. x ++ c.args.c ∷ []) c.clear.ensures.items) c.as_slice.ensures.value c.in_ok-gather_char.ensures.starts c.in_ok-gather_char.ensures.tokens
    c.gather_char.ensures.keeps c.gather.ensures.keeps refl c.in_ok-put.ensures.takes c.in_ok-put.ensures.leads c.requires.html c.in_ok-put.ensures.grows c.in_ok-put.ensures.ok c.in_ok-put.ensures.parses in
    let rest = text_rest start finished bytes run c.args.self.now _ (c.args.token ∷ g.tokens) c.as_slice.result.now hands
    (c.counted.ensures.counted start.setting start.limits (kinds run.given) r.handed) r in
    c.in_err-hand_answer.ensures.told start finished bytes (gave_all run (c.args.token ∷ g.tokens)) rest)

pub returns-clause-further : goal.returns-clause-further
returns-clause-further c =
    let g = c.in_ok-answer.ensures.gathered in
    λ start finished bytes run r given.
    let hands = joined_hands c.args.self.now _ c.args.self.now.tokenizer c.gather_char.new.kept c.gather_char.new.text.items c.gather.new.text.items c.as_slice.result.now _ c.args.token c.args.c g
    c.requires.char (c.in_ok-gather_char.ensures.text ∙ ap (λ x. x ++ c.args.c ∷ []) c.clear.ensures.items) c.as_slice.ensures.value c.in_ok-gather_char.ensures.starts c.in_ok-gather_char.ensures.tokens
    c.gather_char.ensures.keeps c.gather.ensures.keeps refl c.in_ok-put.ensures.takes c.in_ok-put.ensures.leads c.requires.html c.in_ok-put.ensures.grows c.in_ok-put.ensures.ok c.in_ok-put.ensures.parses in
    let rest = text_rest start finished bytes run c.args.self.now _ (c.args.token ∷ g.tokens) c.as_slice.result.now hands
    (c.counted.ensures.counted start.setting start.limits (kinds run.given) r.handed) r in
    subst (IsFurther start finished _ bytes) (gave-text run (c.args.token ∷ g.tokens))
    (c.in_ok-hand_answer.ensures.further start finished bytes (gave_all run (c.args.token ∷ g.tokens)) rest (g.given _ given.unsaid))

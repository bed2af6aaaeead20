use Rattle.std.proofs.Common.{◌≡◌, ◌⊎◌, ◌++◌, ◌∙◌, ap, inl, refl, subst}
use Rattle.std.proofs.lemmas.Result.{err_from_is_err_and}
use Rattle.html_builder.specs.Handed.{HandsIn, LeadsTo}
use Rattle.html_construction.specs.Built.{chars_of}
use Rattle.html_parser.specs.Kinds.{kinds}
use Rattle.html_parser.proofs.Causing.{IsTextRefusal, joined_told, run_refused}
use Rattle.html_parser.proofs.Further.{rest_of, text_further}
use Rattle.html_parser.proofs.Taken.{kinds-plain, same_starts}
use Rattle.html_parser.specs.Kinds.{starts_of}
use Rattle.html_tokens.specs.Given.{plain_next}
use Rattle.html_tokens.specs.Runs.{plain_tokens}
use Rattle.html_parser.proofs.Tokenizing.{not_stopped, run_either, same_run}
use Rattle.html_parser.proofs.stages.Stages.hand_run.Goals as goal

pub invariant_of-self-in_default : goal.invariant_of-self-in_default
invariant_of-self-in_default c = record {
  tokenizing = same_run c.args.self.now.tokenizer c.next_run.new.self c.args.self.now.kept.starts
      (not_stopped c.next_run.result _ _ c.in_ok-place.was c.next_run.ensures.stopped) c.args.self.now.tokenizing
      (rw c.in_default.is at c.in_ok-place.ensures.none);
}

pub invariant_of-self-in-Break-branch-3 : goal.invariant_of-self-in-Break-branch-3
invariant_of-self-in-Break-branch-3 c = record {
  tokenizing = run_either c.args.self.now.tokenizer c.next_run.new.self c.args.self.now.kept.starts c.args.self.now.kept.starts
      (plain_tokens c.in-Some.place (plain_next c.args.self.now.tokenizer))
      (not_stopped c.next_run.result _ _ c.in_ok-place.was c.next_run.ensures.stopped) c.args.self.now.tokenizing
      (rw c.in-Some.is at c.in_ok-place.ensures.given) (inl refl);
}

pub returns-in_err-put-clause-cause : goal.returns-in_err-put-clause-cause
returns-in_err-put-clause-cause c =
    let p = err_from_is_err_and c.from_residual-in_err-put.result c.from_residual-in_err-put.ensures.1 in
    rw (p.1, p.2) (λ start finished bytes run r. run_refused start finished c.args.self.now bytes run c.next_run.new.self c.in-Some.place
    (plain_next c.args.self.now.tokenizer) c.put.new.builder.page c.in_err-put.field-0.0 r (c.counted.ensures.counted start.setting start.limits (kinds run.given) r.handed)
    ((rw c.in-Some.is at c.in_ok-place.ensures.given) run r.tokenized)
    (subst (λ t. IsTextRefusal c.args.self.now.builder t c.in-Some.place c.put.new.builder.page c.in_err-put.field-0.0)
    (c.as_slice.ensures.value ∙ c.in_ok-place.ensures.text ∙ ap (λ xs. xs ++ plain_next c.args.self.now.tokenizer) c.clear.ensures.items)
    c.in_err-put.ensures.cause))

pub returns-in_err-put-clause-told : goal.returns-in_err-put-clause-told
returns-in_err-put-clause-told c =
    let p = err_from_is_err_and c.from_residual-in_err-put.result c.from_residual-in_err-put.ensures.1 in
    rw (p.1, p.2) (λ start finished bytes run r. joined_told start finished c.args.self.now bytes run c.as_slice.result.now c.in-Some.place c.put.new.builder.page c.in_err-put.field-0.0
    (rest_of start finished c.args.self.now bytes run r) c.in_err-put.ensures.cause)

pub invariant_of-self-2 : goal.invariant_of-self-2
invariant_of-self-2 c = record {
  tokenizing = run_either c.args.self.now.tokenizer c.next_run.new.self c.args.self.now.kept.starts c.push_run.new.self.starts
      (plain_tokens c.in-Some.place (plain_next c.args.self.now.tokenizer))
      (not_stopped c.next_run.result _ _ c.in_ok-place.was c.next_run.ensures.stopped) c.args.self.now.tokenizing
      (rw c.in-Some.is at c.in_ok-place.ensures.given)
      (subst (λ t. (c.push_run.new.self.starts ≡ c.args.self.now.kept.starts) ⊎ (c.push_run.new.self.starts ≡ c.args.self.now.kept.starts ++ starts_of (plain_tokens c.in-Some.place t)))
      (c.as_slice-2.ensures.value ∙ c.in_ok-place.ensures.text ∙ ap (λ xs. xs ++ plain_next c.args.self.now.tokenizer) c.clear.ensures.items)
      c.push_run.ensures.either);
}

pub returns-clause-further : goal.returns-clause-further
returns-clause-further c =
    let text : c.as_slice.result.now ≡ plain_next c.args.self.now.tokenizer
    = c.as_slice.ensures.value ∙ c.in_ok-place.ensures.text ∙ ap (λ xs. xs ++ plain_next c.args.self.now.tokenizer) c.clear.ensures.items in
    let later : c.as_slice-2.result.now ≡ plain_next c.args.self.now.tokenizer
    = c.as_slice-2.ensures.value ∙ c.in_ok-place.ensures.text ∙ ap (λ xs. xs ++ plain_next c.args.self.now.tokenizer) c.clear.ensures.items in
    λ start finished bytes run r. text_further start finished bytes run c.args.self.now _ (plain_tokens c.in-Some.place (plain_next c.args.self.now.tokenizer)) (plain_next c.args.self.now.tokenizer)
    (record {
      are = kinds-plain c.in-Some.place (plain_next c.args.self.now.tokenizer);
      decoder = refl;
      takes = subst (λ t. HandsIn (chars_of t) c.args.self.now.builder c.put.new.builder) text c.in_ok-put.ensures.takes;
      leads = subst (λ t. LeadsTo (chars_of t) c.args.self.now.builder c.put.new.builder) text c.in_ok-put.ensures.leads;
      html = c.requires.html;
      grows = c.in_ok-put.ensures.grows;
      starts = c.in_ok-push_run.ensures.starts ∙ ap (λ t. c.args.self.now.kept.starts ++ starts_of (plain_tokens c.in-Some.place t)) later;
      tokens_are = λ keeps. c.in_ok-push_run.ensures.tokens keeps ∙ ap (λ t. c.args.self.now.kept.tokens ++ plain_tokens c.in-Some.place t) later;
      keeps = c.push_run.ensures.keeps;
      building = c.in_ok-put.ensures.ok;
      parses = c.in_ok-put.ensures.parses;
    })
    (c.counted.ensures.counted start.setting start.limits (kinds run.given) r.handed) r ((rw c.in-Some.is at c.in_ok-place.ensures.given) run r.tokenized) c.in_ok-place.ensures.ok

pub returns-clause-same : goal.returns-clause-same
returns-clause-same c =
    same_starts c.args.self.now.kept.starts c.push_run.new.self.starts (starts_of (plain_tokens c.in-Some.place c.as_slice-2.result.now)) c.in_ok-push_run.ensures.starts

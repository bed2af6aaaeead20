use Rattle.std.proofs.Common.{All, ◌≢◌, ◌++◌, ◌∙◌, encode_utf8_all, false, inl, refl, subst, sym}
use Rattle.std.proofs.lemmas.Result.{err_from_is_err_and}
use Rattle.html_input.specs.Fed.{Fed as Decodes}
use Rattle.html_tokens.specs.Runs.{plain_tokens}
use Rattle.html_parser.specs.Kinds.{kinds}
use Rattle.html_parser.specs.Start.{most_input}
use Rattle.html_parser.proofs.PlainTaken.{free_of, memory_refused, plain_either, plain_read, plain_refused, stages_same}
use Rattle.html_parser.proofs.Refusals.{build-told}
use Rattle.html_tokens.specs.declared.token.TokenKind.TheVariants as kind
use Rattle.html_parser.proofs.stages.Stages.take_text.Goals as goal

pub take_text-requires-clause-free : goal.take_text-requires-clause-free
take_text-requires-clause-free c = subst (All (λ x. x ≢ 13)) (sym c.as_str.ensures.code_points) (free_of c.args.text.now c.len.ensures.plain)

pub returns-then-not-take_text-clause-reads : goal.returns-then-not-take_text-clause-reads
returns-then-not-take_text-clause-reads c = λ start bytes run r. stages_same start bytes run c.args.self.now _ (c.if-not-take_text.ensures.left refl) refl refl refl r

pub returns-in_err-process_plain-clause-cause : goal.returns-in_err-process_plain-clause-cause
returns-in_err-process_plain-clause-cause c =
    let p = err_from_is_err_and c.from_residual.result c.from_residual.ensures.1 in
    rw (p.1, p.2) (λ start bytes run r. plain_refused start c.args.self.now bytes (encode_utf8_all c.args.text.now) run c.take_plain.new.self c.in-Some.place c.args.text.now
    c.process_plain.new.self.page c.in_err-process_plain.field-0.0 r c.take_text.new.self
    (subst (λ b. Decodes (most_input start) false c.take_text.new.self (bytes ++ b) (run.text ++ c.args.text.now)) c.as_str.ensures.bytes
    (subst (λ t. Decodes (most_input start) false c.take_text.new.self (bytes ++ c.as_str.result.now) (run.text ++ t)) c.as_str.ensures.code_points
    (c.if-not-take_text.ensures.taken refl (most_input start) bytes run.text r.decoded)))
    (c.counted.ensures.counted start.setting start.limits (kinds run.given) r.handed) (c.in-Some.ensures.given run r.tokenized)
    (c.in_err-process_plain.ensures.cause start.setting start.limits (kinds run.given) r.handed)
    (c.in_err-process_plain.ensures.told start.setting start.limits (kinds run.given) r.handed))

pub returns-in_err-process_plain-clause-told : goal.returns-in_err-process_plain-clause-told
returns-in_err-process_plain-clause-told c =
    let p = err_from_is_err_and c.from_residual.result c.from_residual.ensures.1 in
    rw (p.1, p.2) (λ start bytes run r. build-told start.limits kind.Eof c.process_plain.new.self.page c.in_err-process_plain.field-0.0
    (c.in_err-process_plain.ensures.told start.setting start.limits (kinds run.given) r.handed kind.Eof))

pub returns-in_err-push_plain-clause-cause : goal.returns-in_err-push_plain-clause-cause
returns-in_err-push_plain-clause-cause c =
    let p = err_from_is_err_and c.from_residual-in_err-push_plain.result c.from_residual-in_err-push_plain.ensures.1 in
    rw (p.1, p.2) (λ start bytes run r. memory_refused start c.args.self.now bytes (encode_utf8_all c.args.text.now) run r)

pub returns-in_default-clause-cause : goal.returns-in_default-clause-cause
returns-in_default-clause-cause c = λ start bytes run r. memory_refused start c.args.self.now bytes (encode_utf8_all c.args.text.now) run r

pub returns-clause-reads : goal.returns-clause-reads
returns-clause-reads c = λ start bytes run r.
    plain_read start bytes (encode_utf8_all c.args.text.now) run c.args.self.now _ c.in-Some.place c.args.text.now
    (record {
      decodes = λ limit bytes before d.
          subst (λ b. Decodes limit false c.take_text.new.self (bytes ++ b) (before ++ c.args.text.now)) c.as_str.ensures.bytes
          (subst (λ t. Decodes limit false c.take_text.new.self (bytes ++ c.as_str.result.now) (before ++ t)) c.as_str.ensures.code_points
          (c.if-not-take_text.ensures.taken refl limit bytes before d));
      given = c.in-Some.ensures.given;
      takes = c.in_ok-process_plain.ensures.takes;
      leads = c.in_ok-process_plain.ensures.leads;
      html = c.requires.html;
      grows = c.in_ok-process_plain.ensures.grows;
      starts = c.in_ok-push_plain.ensures.starts;
      tokens = c.in_ok-push_plain.ensures.tokens;
      keeps = c.push_plain.ensures.keeps;
      running = c.in-Some.ensures.going;
      building = c.in_ok-process_plain.ensures.ok;
      parses = c.in_ok-process_plain.ensures.parses;
    })
    (c.counted.ensures.counted start.setting start.limits (kinds run.given) r.handed) r

pub invariant_of-self-in-Break-1 : goal.invariant_of-self-in-Break-1
invariant_of-self-in-Break-1 c = record {
  tokenizing = plain_either c.args.self.now.tokenizer c.take_plain.new.self c.args.self.now.kept.starts c.args.self.now.kept.starts c.args.text.now
      (plain_tokens c.in-Some.place c.args.text.now) (sym c.take_plain.ensures.stopped ∙ c.in-Some.ensures.going) c.args.self.now.tokenizing
      c.in-Some.ensures.given (inl refl);
}

pub invariant_of-self-2 : goal.invariant_of-self-2
invariant_of-self-2 c = record {
  tokenizing = plain_either c.args.self.now.tokenizer c.take_plain.new.self c.args.self.now.kept.starts c.push_plain.new.self.starts c.args.text.now
      (plain_tokens c.in-Some.place c.args.text.now) (sym c.take_plain.ensures.stopped ∙ c.in-Some.ensures.going) c.args.self.now.tokenizing
      c.in-Some.ensures.given c.push_plain.ensures.either;
}

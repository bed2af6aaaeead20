use Rattle.std.proofs.Common.{All, ◌≢◌, ◌++◌, ◌∷◌, ◌∙◌, [], None, false, inl, refl, subst, sym}
use Rattle.std.proofs.lemmas.Result.{err_from_is_err_and}
use Rattle.html_input.specs.Fed.{Fed as Decodes}
use Rattle.html_tokens.specs.Bare.{spelling}
use Rattle.html_tokens.specs.Stream.{fed}
use Rattle.html_parser.specs.Kinds.{kinds}
use Rattle.html_parser.specs.Start.{most_input}
use Rattle.html_parser.specs.Tokenizing.{IsTokenizing}
use Rattle.html_parser.proofs.Causing.{refused_told}
use Rattle.html_parser.proofs.MaySaying.{may_say, may_tell}
use Rattle.html_parser.proofs.PlainTaken.{memory_refused, stages_same}
use Rattle.html_parser.proofs.TagTaken.{tag_either, tag_read, tag_refused}
use Rattle.html_parser.proofs.stages.Stages.hand_tag.Goals as goal

pub take_text-requires-clause-free : goal.take_text-requires-clause-free
take_text-requires-clause-free c = subst (All (λ x. x ≢ 13)) (sym c.as_str-text.ensures.code_points) c.as_str-text.ensures.plain

pub returns-then-not-take_text-clause-reads : goal.returns-then-not-take_text-clause-reads
returns-then-not-take_text-clause-reads c = λ start bytes run r. stages_same start bytes run c.args.self.now _ (c.if-not-take_text.ensures.left refl) refl refl refl r

pub returns-in_err-token-clause-cause : goal.returns-in_err-token-clause-cause
returns-in_err-token-clause-cause c =
    let p = err_from_is_err_and c.from_residual.result c.from_residual.ensures.1 in
    rw (p.1, p.2, c.in_err-token.ensures.cause) (λ start bytes run r. memory_refused start c.args.self.now bytes (spelling c.args.tag.now) run r)

pub returns-in-Err-clause-cause : goal.returns-in-Err-clause-cause
returns-in-Err-clause-cause c = λ start bytes run r.
    tag_refused start c.args.self.now bytes run c.take_text.new.self c.take_tag.new.self (spelling c.args.tag.now) c.in-Some.token c.build.new.builder.page
    c.is_over-is_over.result c.in-Err.cause r
    (subst (λ b. Decodes (most_input start) false c.take_text.new.self (bytes ++ b) (run.text ++ spelling c.args.tag.now)) c.as_str-text.ensures.bytes
    (subst (λ t. Decodes (most_input start) false c.take_text.new.self (bytes ++ c.as_str-text.result.now) (run.text ++ t)) c.as_str-text.ensures.code_points
    (c.if-not-take_text.ensures.taken refl (most_input start) bytes run.text r.decoded)))
    (c.counted.ensures.counted start.setting start.limits (kinds run.given) r.handed)
    ((rw c.in-Some.is at c.in_ok-token.ensures.unsaid) run r.tokenized)
    c.is_over-is_over.ensures.spent c.in-Err.ensures.cause

pub returns-in-Err-clause-told : goal.returns-in-Err-clause-told
returns-in-Err-clause-told c = λ start bytes run r.
    refused_told start false c.args.self.now bytes run c.in-Some.token c.build.new.builder.page c.is_over-is_over.result c.in-Err.cause r c.in-Err.ensures.cause

pub returns-in_err-push-clause-cause : goal.returns-in_err-push-clause-cause
returns-in_err-push-clause-cause c =
    let p = err_from_is_err_and c.from_residual-in_err-push.result c.from_residual-in_err-push.ensures.1 in
    rw (p.1, p.2) (λ start bytes run r. memory_refused start c.args.self.now bytes (spelling c.args.tag.now) run r)

pub returns-clause-reads : goal.returns-clause-reads
returns-clause-reads c =
    let token = c.in-Some.token in
    let given = rw c.in-Some.is at c.in_ok-token.ensures.given in
    let unsaid = rw c.in-Some.is at c.in_ok-token.ensures.unsaid in
    let says = may_say token.kind c.build.new.builder c.in-Ok.said c.in-Ok.ensures.said in
    λ start bytes run r. tag_read start bytes run c.args.self.now _ (spelling c.args.tag.now) token c.in-Ok.said
    (record {
      decodes = λ limit bytes before d.
          subst (λ b. Decodes limit false c.take_text.new.self (bytes ++ b) (before ++ spelling c.args.tag.now)) c.as_str-text.ensures.bytes
          (subst (λ t. Decodes limit false c.take_text.new.self (bytes ++ c.as_str-text.result.now) (before ++ t)) c.as_str-text.ensures.code_points
          (c.if-not-take_text.ensures.taken refl limit bytes before d));
      given = λ run f. c.tell.ensures.told (fed run (spelling c.args.tag.now)) token (unsaid run f) (given run f) says;
      may = λ s ts. may_tell s ts token.kind c.build.new.builder c.in-Ok.said c.in-Ok.ensures.said;
      parses = c.in-Ok.ensures.parses;
      takes = c.in-Ok.ensures.takes;
      leads = c.in-Ok.ensures.leads;
      says = c.in-Ok.ensures.said;
      grows = c.in-Ok.ensures.grows;
      starts = c.in_ok-push.ensures.starts;
      tokens = c.in_ok-push.ensures.tokens;
      keeps = c.push.ensures.keeps;
      running = c.tell.ensures.stopped ∙ c.in_ok-token.ensures.stopped ∙ (rw c.in-Some.is at c.in_ok-token.ensures.going);
      building = c.in-Ok.ensures.ok;
    })
    (c.counted.ensures.counted start.setting start.limits (kinds run.given) r.handed)
    (c.counted-2.ensures.counted start.setting start.limits (kinds run.given ++ token.kind ∷ [])
    (c.in-Ok.ensures.takes start.setting start.limits (kinds run.given) r.handed))
    (c.counted-2.ensures.foreign start.setting start.limits (kinds run.given ++ token.kind ∷ [])
    (c.in-Ok.ensures.takes start.setting start.limits (kinds run.given) r.handed)) r

pub invariant_of-self-in-Err-1 : goal.invariant_of-self-in-Err-1
invariant_of-self-in-Err-1 c = record {
  tokenizing = tag_either c.args.self.now.tokenizer c.take_tag.new.self c.args.self.now.kept.starts c.args.self.now.kept.starts (spelling c.args.tag.now) c.in-Some.token None
      (rw c.in-Some.is at c.in_ok-token.ensures.going) c.args.self.now.tokenizing (rw c.in-Some.is at c.in_ok-token.ensures.unsaid) (inl refl);
}

pub invariant_of-self-2 : goal.invariant_of-self-2
invariant_of-self-2 c =
    let token = c.in-Some.token in
    let given = rw c.in-Some.is at c.in_ok-token.ensures.given in
    let unsaid = rw c.in-Some.is at c.in_ok-token.ensures.unsaid in
    let says = may_say token.kind c.build.new.builder c.in-Ok.said c.in-Ok.ensures.said in
    record {
      tokenizing = tag_either c.args.self.now.tokenizer c.tell.new.tokenizer c.args.self.now.kept.starts c.push.new.self.starts (spelling c.args.tag.now) token c.in-Ok.said
          (rw c.in-Some.is at c.in_ok-token.ensures.going) c.args.self.now.tokenizing
          (λ run f. c.tell.ensures.told (fed run (spelling c.args.tag.now)) token (unsaid run f) (given run f) says) c.push.ensures.either;
    }

pub invariant_of-self-in_default : goal.invariant_of-self-in_default
invariant_of-self-in_default c = record {
  tokenizing = subst (λ t. IsTokenizing t c.args.self.now.kept.starts) (sym (rw c.in_default.is at c.in_ok-token.ensures.none)) c.args.self.now.tokenizing;
}

pub returns-in_default-clause-cause : goal.returns-in_default-clause-cause
returns-in_default-clause-cause c = λ start bytes run r. memory_refused start c.args.self.now bytes (spelling c.args.tag.now) run r

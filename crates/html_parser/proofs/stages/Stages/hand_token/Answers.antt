use Rattle.std.proofs.Common.{◌∙◌, ◌++◌, ◌∷◌, [], None, inl, refl}
use Rattle.std.proofs.lemmas.Result.{err_from_is_err_and}
use Rattle.html_parser.specs.Kinds.{kinds}
use Rattle.html_parser.proofs.Causing.{build_refused, build_spent, refused_told}
use Rattle.html_parser.proofs.Further.{one_further, rest_of}
use Rattle.html_parser.proofs.Gathers.{same_further, same_rest}
use Rattle.html_parser.proofs.MaySaying.{may_say, may_tell}
use Rattle.html_parser.proofs.Tokenizing.{not_stopped, one_either}
use Rattle.html_parser.proofs.stages.Stages.hand_token.Goals as goal

pub returns-in_default-clause-none : goal.returns-in_default-clause-none
returns-in_default-clause-none c =
    let none = rw c.in_default.is at c.in_ok-token.ensures.prompt in
    let whole = rw c.in_default.is at c.in_ok-token.ensures.all in
    λ _ start finished bytes run r. record {
      further = record {
        run = run;
        is_run = record {
          begun = r.begun;
          ended = r.ended;
          decoded = r.decoded;
          tokenized = (none run r.tokenized).0;
          handed = r.handed;
          said = r.said;
          has_said = r.has_said;
          foreign = r.foreign;
          starts = r.starts;
          tokens = r.tokens;
          running = c.in_ok-token.ensures.ok;
          building = r.building;
        };
        text_is = refl;
      };
      prompt = (none run r.tokenized).1;
      all = λ end. whole run r.tokenized (r.ended ∙ end);
    }

pub invariant_of-self-in-Err-1 : goal.invariant_of-self-in-Err-1
invariant_of-self-in-Err-1 c = record {
  tokenizing = one_either c.args.self.now.tokenizer c.next.new.self c.args.self.now.kept.starts c.args.self.now.kept.starts c.in-Some.token None
      (not_stopped c.next.result _ _ c.in_ok-token.was c.next.ensures.stopped) c.args.self.now.tokenizing
      (rw c.in-Some.is at c.in_ok-token.ensures.unsaid) (inl refl);
}

pub returns-in-Err-clause-cause : goal.returns-in-Err-clause-cause
returns-in-Err-clause-cause c =
    (λ start finished bytes run r. build_refused start finished c.args.self.now bytes run c.next.new.self c.in-Some.token c.build.new.builder.page
    c.is_over-is_over.result c.in-Err.cause r (c.counted.ensures.counted start.setting start.limits (kinds run.given) r.handed)
    ((rw c.in-Some.is at c.in_ok-token.ensures.unsaid) run r.tokenized)
    c.is_over-is_over.ensures.spent c.in-Err.ensures.cause)

pub returns-in-Err-clause-told : goal.returns-in-Err-clause-told
returns-in-Err-clause-told c = λ start finished bytes run r.
    refused_told start finished c.args.self.now bytes run c.in-Some.token c.build.new.builder.page c.is_over-is_over.result c.in-Err.cause r c.in-Err.ensures.cause

pub returns-in-Err-clause-spent : goal.returns-in-Err-clause-spent
returns-in-Err-clause-spent c =
    (λ at told. build_spent c.is_over-is_over.result c.in-Err.cause at _ _ _ c.in-Some.token c.args.self.now.builder c.build.new.builder.page c.is_over-is_over.ensures.spent c.in-Err.ensures.cause told)

pub returns-clause-in_time : goal.returns-clause-in_time
returns-clause-in_time c = λ some. c.is_over-is_over.ensures.past c.in-Ok.ensures.in_time

pub returns-clause-further : goal.returns-clause-further
returns-clause-further c =
    let token = c.in-Some.token in
    let given = rw c.in-Some.is at c.in_ok-token.ensures.given in
    let unsaid = rw c.in-Some.is at c.in_ok-token.ensures.unsaid in
    let says = may_say token.kind c.build.new.builder c.in-Ok.mode c.in-Ok.ensures.said in
    λ start finished bytes run r. one_further start finished bytes run c.args.self.now _ token c.in-Ok.mode
    (record {
      decoder = refl;
      may = λ s ts. may_tell s ts token.kind c.build.new.builder c.in-Ok.mode c.in-Ok.ensures.said;
      parses = c.in-Ok.ensures.parses;
      takes = c.in-Ok.ensures.takes;
      leads = c.in-Ok.ensures.leads;
      says = c.in-Ok.ensures.said;
      grows = c.in-Ok.ensures.grows;
      starts = c.in_ok-push.ensures.starts;
      tokens = c.in_ok-push.ensures.tokens;
      keeps = c.push.ensures.keeps;
      running = c.tell.ensures.stopped ∙ c.in_ok-token.ensures.ok;
      building = c.in-Ok.ensures.ok;
    })
    (c.counted.ensures.counted start.setting start.limits (kinds run.given) r.handed)
    (c.counted-2.ensures.counted start.setting start.limits (kinds run.given ++ token.kind ∷ [])
    (c.in-Ok.ensures.takes start.setting start.limits (kinds run.given) r.handed))
    (c.counted-2.ensures.foreign start.setting start.limits (kinds run.given ++ token.kind ∷ [])
    (c.in-Ok.ensures.takes start.setting start.limits (kinds run.given) r.handed)) (rest_of start finished c.args.self.now bytes run r)
    (c.tell.ensures.told run token (unsaid run r.tokenized) (given run r.tokenized) says)

pub invariant_of-self-2 : goal.invariant_of-self-2
invariant_of-self-2 c =
    let token = c.in-Some.token in
    let given = rw c.in-Some.is at c.in_ok-token.ensures.given in
    let unsaid = rw c.in-Some.is at c.in_ok-token.ensures.unsaid in
    let says = may_say token.kind c.build.new.builder c.in-Ok.mode c.in-Ok.ensures.said in
    record {
      tokenizing = one_either c.args.self.now.tokenizer c.tell.new.tokenizer c.args.self.now.kept.starts c.push.new.self.starts token c.in-Ok.mode
          (not_stopped c.next.result _ _ c.in_ok-token.was c.next.ensures.stopped) c.args.self.now.tokenizing
          (λ run fed. c.tell.ensures.told run token (unsaid run fed) (given run fed) says) c.push.ensures.either;
    }

pub returns-in_err-hand_joined-clause-cause : goal.returns-in_err-hand_joined-clause-cause
returns-in_err-hand_joined-clause-cause c =
    let p = err_from_is_err_and c.from_residual-in_err-hand_joined.result c.from_residual-in_err-hand_joined.ensures.1 in
    let given = rw c.in-Some.is at c.in_ok-token.ensures.given in
    let unsaid = rw c.in-Some.is at c.in_ok-token.ensures.unsaid in
    rw (p.1, p.2) (λ start finished bytes run r. c.in_err-hand_joined.ensures.cause start finished bytes run
    (same_rest start finished bytes run c.args.self.now _ refl refl refl (rest_of start finished c.args.self.now bytes run r))
    (record { awaits = given run r.tokenized; unsaid = unsaid run r.tokenized }))

pub returns-in_err-hand_joined-clause-told : goal.returns-in_err-hand_joined-clause-told
returns-in_err-hand_joined-clause-told c =
    let p = err_from_is_err_and c.from_residual-in_err-hand_joined.result c.from_residual-in_err-hand_joined.ensures.1 in
    rw (p.1, p.2) (λ start finished bytes run r. c.in_err-hand_joined.ensures.told start finished bytes run
    (same_rest start finished bytes run c.args.self.now _ refl refl refl (rest_of start finished c.args.self.now bytes run r)))

pub returns-in-Some-joining-clause-further : goal.returns-in-Some-joining-clause-further
returns-in-Some-joining-clause-further c =
    let given = rw c.in-Some.is at c.in_ok-token.ensures.given in
    let unsaid = rw c.in-Some.is at c.in_ok-token.ensures.unsaid in
    λ start finished bytes run r. same_further start finished bytes run.text c.hand_joined.new.self _ refl refl refl refl
    (c.in_ok-hand_joined.ensures.further start finished bytes run
    (same_rest start finished bytes run c.args.self.now _ refl refl refl (rest_of start finished c.args.self.now bytes run r))
    (record { awaits = given run r.tokenized; unsaid = unsaid run r.tokenized }))

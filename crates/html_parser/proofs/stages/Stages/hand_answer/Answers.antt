use Rattle.std.proofs.Common.{◌∙◌, ◌++◌, ◌∷◌, [], refl}
use Rattle.html_parser.specs.Kinds.{kinds}
use Rattle.html_parser.proofs.Causing.{last_refused, last_told, last_unspent}
use Rattle.html_parser.proofs.Further.{one_further, run_of}
use Rattle.html_parser.proofs.Gathers.{awaiting_either}
use Rattle.html_parser.proofs.MaySaying.{may_say, may_tell}
use Rattle.html_parser.proofs.stages.Stages.hand_answer.Goals as goal

pub returns-in_default-clause-further : goal.returns-in_default-clause-further
returns-in_default-clause-further c = λ start finished bytes run r f. record {
  run = run;
  is_run = run_of start finished c.args.self.now bytes run r (rw c.in_default.is at f) c.requires.going;
  text_is = refl;
}

pub returns-in-Err-clause-cause : goal.returns-in-Err-clause-cause
returns-in-Err-clause-cause c = λ start finished bytes run r f.
    let g = rw c.in-Some.is at f in
    last_refused start finished c.args.self.now bytes run c.args.self.now.tokenizer c.in-Some.token c.build.new.builder.page c.in-Err.cause r
    (c.counted.ensures.counted start.setting start.limits (kinds run.given) r.handed) g.unsaid c.in-Err.ensures.cause

pub returns-in-Err-clause-told : goal.returns-in-Err-clause-told
returns-in-Err-clause-told c = λ start finished bytes run r. last_told start finished c.args.self.now bytes run c.in-Some.token c.build.new.builder.page c.in-Err.cause r c.in-Err.ensures.cause

pub returns-in-Err-clause-unspent : goal.returns-in-Err-clause-unspent
returns-in-Err-clause-unspent c = λ at told. last_unspent c.in-Some.token c.args.self.now.builder c.build.new.builder.page c.in-Err.cause at c.in-Err.ensures.cause told

pub returns-clause-further : goal.returns-clause-further
returns-clause-further c =
    let token = c.in-Some.token in
    let says = may_say token.kind c.build.new.builder c.in-Ok.switch c.in-Ok.ensures.said in
    λ start finished bytes run r f.
    let g = rw c.in-Some.is at f in
    one_further start finished bytes run c.args.self.now _ token c.in-Ok.switch
    (record {
      decoder = refl;
      may = λ s ts. may_tell s ts token.kind c.build.new.builder c.in-Ok.switch c.in-Ok.ensures.said;
      parses = c.in-Ok.ensures.parses;
      takes = c.in-Ok.ensures.takes;
      leads = c.in-Ok.ensures.leads;
      says = c.in-Ok.ensures.said;
      grows = c.in-Ok.ensures.grows;
      starts = c.in_ok-push.ensures.starts;
      tokens = c.in_ok-push.ensures.tokens;
      keeps = c.push.ensures.keeps;
      running = c.tell.ensures.stopped ∙ c.requires.going;
      building = c.in-Ok.ensures.ok;
    })
    (c.counted.ensures.counted start.setting start.limits (kinds run.given) r.handed)
    (c.counted-2.ensures.counted start.setting start.limits (kinds run.given ++ token.kind ∷ [])
    (c.in-Ok.ensures.takes start.setting start.limits (kinds run.given) r.handed))
    (c.counted-2.ensures.foreign start.setting start.limits (kinds run.given ++ token.kind ∷ [])
    (c.in-Ok.ensures.takes start.setting start.limits (kinds run.given) r.handed)) r
    (c.tell.ensures.told run token g.unsaid g.awaits says)

pub invariant_of-self-2 : goal.invariant_of-self-2
invariant_of-self-2 c =
    let token = c.in-Some.token in
    let says = may_say token.kind c.build.new.builder c.in-Ok.switch c.in-Ok.ensures.said in
    record {
      tokenizing = awaiting_either c.args.self.now.tokenizer c.tell.new.tokenizer c.args.self.now.kept.starts c.push.new.self.starts token c.in-Ok.switch
          c.requires.going (rw c.in-Some.is at c.requires.awaiting) (λ run g. c.tell.ensures.told run token g.unsaid g.awaits says) c.push.ensures.either;
    }

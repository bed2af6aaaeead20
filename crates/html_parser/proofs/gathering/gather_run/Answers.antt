use Rattle.std.proofs.Common.{◌≡◌, ◌⊎◌, ◌++◌, ◌∙◌, subst, true}
use Rattle.html_tokens.specs.Given.{plain_next}
use Rattle.html_tokens.specs.Runs.{plain_tokens}
use Rattle.html_parser.specs.Kinds.{starts_of}
use Rattle.html_parser.proofs.Gathers.{behind_is, gathers_plain}
use Rattle.html_parser.proofs.Tokenizing.{run_either}
use Rattle.html_parser.proofs.gathering.gather_run.Goals as goal

pub returns-in_err-push_run-clause-tokenizing : goal.returns-in_err-push_run-clause-tokenizing
returns-in_err-push_run-clause-tokenizing c =
    let text = behind_is c.deref.result.now c.next_run.new.out.items c.args.text.now.items (plain_next c.args.tokenizer.now) c.len-start.result c.deref.ensures.value (c.len-start.ensures ∙ c.args.text.now.ok.0) c.in_ok-place.ensures.text in
    run_either c.args.tokenizer.now c.next_run.new.self c.args.kept.now.starts c.push_run.new.self.starts (plain_tokens c.in-Some.place (plain_next c.args.tokenizer.now)) c.requires.going c.requires.tokenizing
    (rw c.in-Some.is at c.in_ok-place.ensures.given)
    (subst (λ t. (c.push_run.new.self.starts ≡ c.args.kept.now.starts) ⊎ (c.push_run.new.self.starts ≡ c.args.kept.now.starts ++ starts_of (plain_tokens c.in-Some.place t))) text c.push_run.ensures.either)

pub returns-in_ok-push_run-clause-gathered : goal.returns-in_ok-push_run-clause-gathered
returns-in_ok-push_run-clause-gathered c =
    let text = behind_is c.deref.result.now c.next_run.new.out.items c.args.text.now.items (plain_next c.args.tokenizer.now) c.len-start.result c.deref.ensures.value (c.len-start.ensures ∙ c.args.text.now.ok.0) c.in_ok-place.ensures.text in
    gathers_plain c.args.tokenizer.now c.next_run.new.self c.args.kept.now c.push_run.new.self c.args.text.now.items c.next_run.new.out.items (plain_next c.args.tokenizer.now) c.in-Some.place
    c.in_ok-place.ensures.text (rw c.in-Some.is at c.in_ok-place.ensures.given)
    (subst (λ t. c.push_run.new.self.starts ≡ c.args.kept.now.starts ++ starts_of (plain_tokens c.in-Some.place t)) text c.in_ok-push_run.ensures.starts)
    (subst (λ t. c.args.kept.now.keeps_tokens ≡ true → c.push_run.new.self.tokens ≡ c.args.kept.now.tokens ++ plain_tokens c.in-Some.place t) text c.in_ok-push_run.ensures.tokens)

pub returns-in_ok-push_run-clause-tokenizing : goal.returns-in_ok-push_run-clause-tokenizing
returns-in_ok-push_run-clause-tokenizing c =
    let text = behind_is c.deref.result.now c.next_run.new.out.items c.args.text.now.items (plain_next c.args.tokenizer.now) c.len-start.result c.deref.ensures.value (c.len-start.ensures ∙ c.args.text.now.ok.0) c.in_ok-place.ensures.text in
    run_either c.args.tokenizer.now c.next_run.new.self c.args.kept.now.starts c.push_run.new.self.starts (plain_tokens c.in-Some.place (plain_next c.args.tokenizer.now)) c.requires.going c.requires.tokenizing
    (rw c.in-Some.is at c.in_ok-place.ensures.given)
    (subst (λ t. (c.push_run.new.self.starts ≡ c.args.kept.now.starts) ⊎ (c.push_run.new.self.starts ≡ c.args.kept.now.starts ++ starts_of (plain_tokens c.in-Some.place t))) text c.push_run.ensures.either)

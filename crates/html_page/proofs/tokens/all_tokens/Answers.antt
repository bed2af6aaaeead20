use Rattle.std.proofs.Common.{◌≡◌, ◌∙◌, length, rules, refl, sym}
use Rattle.html_page.proofs.TokenLists.{run_of, all_given}
use Rattle.html_page.proofs.tokens.all_tokens.Goals as goal

pub returns-in-None-clause-tokens : goal.returns-in-None-clause-tokens
returns-in-None-clause-tokens c = λ start begun.
    let whole = rw c.in-None.is at c.in_ok-token.ensures.all in
    all_given start c.args.text.now c.tokens.tokens.items (whole (run_of start c.args.text.now c.tokens.tokens.items) (c.tokens.invariant.fed start begun) refl)

pub returns-in-None-clause-errors : goal.returns-in-None-clause-errors
returns-in-None-clause-errors c =
    let (start, begun) = c.tokens.invariant.begun in
    let run = run_of start c.args.text.now c.tokens.tokens.items in
    let whole = rw c.in-None.is at c.in_ok-token.ensures.prompt in
    let same = c.errors.ensures.count run (whole run (c.tokens.invariant.fed start begun)).0 in
    let bound = rw same at c.errors.ensures.bound in
    let l : length c.in_ok-errors-in-None.errors.items ≡ length c.errors.result.now = search (rules, c.in_ok-errors-in-None.ensures.len) in
    rw l bound

pub returns-in-None-clause-steps : goal.returns-in-None-clause-steps
returns-in-None-clause-steps c =
    let (start, begun) = c.tokens.invariant.begun in
    let run = run_of start c.args.text.now c.tokens.tokens.items in
    let whole = rw c.in-None.is at c.in_ok-token.ensures.prompt in
    let same = c.errors.ensures.count run (whole run (c.tokens.invariant.fed start begun)).0 in
    rw same at c.steps.ensures.bound

pub returns-in-None-clause-told : goal.returns-in-None-clause-told
returns-in-None-clause-told c = λ start begun.
    let run = run_of start c.args.text.now c.tokens.tokens.items in
    let prompt = rw c.in-None.is at c.in_ok-token.ensures.prompt in
    let whole = rw c.in-None.is at c.in_ok-token.ensures.all in
    let fed = c.tokens.invariant.fed start begun in
    let same : c.in_ok-errors-in-None.errors.items ≡ c.errors.result.now = search (rules, c.in_ok-errors-in-None.ensures.items_if_clones_equal) in
    record {
      tokenizer = c.next.new.self;
      run = run;
      fed = (prompt run fed).0;
      start_is = refl;
      text_is = refl;
      switches_are = refl;
      finished = refl;
      all = whole run fed refl;
      errors_are = sym (same ∙ c.errors.ensures.list);
      errors_of_text = same ∙ c.errors.ensures.whole run (prompt run fed).0 refl (whole run fed refl);
      steps_are = sym c.steps.ensures.count;
    }

use Rattle.std.proofs.Common.{◌∙◌, None, arith, inl, refl}
use Rattle.html_tokens.specs.Given.{Fed}
use Rattle.html_parser.proofs.Gathers.{awaiting_of, gathers_both, gathers_char, gathers_none, gathers_then}
use Rattle.html_parser.proofs.Tokenizing.{one_either}
use Rattle.html_parser.specs.Gathered.{Follows}
use Rattle.html_parser.proofs.gathering.gather.Goals as goal

pub tokens-init : goal.tokens-init
tokens-init c = (
  gathers_none c.args.tokenizer.now c.args.tokenizer.now c.args.kept.now c.args.kept.now c.args.text.now.items (λ run f. f) refl,
  c.requires.tokenizing,
  c.requires.going,
  omega arith,
  refl,
)

pub returns-in_default-clause-gathered : goal.returns-in_default-clause-gathered
returns-in_default-clause-gathered c =
    let prompt = rw c.in_default.is at c.in_ok-token.ensures.prompt in
    gathers_then c.args.tokenizer.now c.gather_run.new.tokenizer c.args.kept.now c.gather_run.new.kept c.args.text.now.items c.gather_run.new.text.items (Follows c.next.new.self None)
    (gathers_both c.args.tokenizer.now c.tokens.tokenizer c.args.kept.now c.tokens.kept c.gather_run.new.kept c.args.text.now.items c.tokens.text.items c.gather_run.new.text.items
    (Fed c.gather_run.new.tokenizer) c.tokens.invariant.0 c.tokens.invariant.4 c.in_ok-gather_run.ensures.gathered)
    (λ run f. (prompt run f).0)

pub returns-in_default-kind : goal.returns-in_default-kind
returns-in_default-kind c =
    let token = c.in-Some.token in
    let given = rw c.in-Some.is at c.in_ok-token.ensures.given in
    let unsaid = rw c.in-Some.is at c.in_ok-token.ensures.unsaid in
    let more = c.next.ensures.count in
    let less = c.gather_run.ensures.count in
    let least = c.tokens.invariant.3 in
    record {
      gathered = gathers_then c.args.tokenizer.now c.gather_run.new.tokenizer c.args.kept.now c.gather_run.new.kept c.args.text.now.items c.gather_run.new.text.items _
          (gathers_both c.args.tokenizer.now c.tokens.tokenizer c.args.kept.now c.tokens.kept c.gather_run.new.kept c.args.text.now.items c.tokens.text.items c.gather_run.new.text.items
          (Fed c.gather_run.new.tokenizer) c.tokens.invariant.0 c.tokens.invariant.4 c.in_ok-gather_run.ensures.gathered)
          (λ run f. record { awaits = given run f; unsaid = unsaid run f });
      tokenizing = one_either c.gather_run.new.tokenizer c.next.new.self c.gather_run.new.kept.starts c.gather_run.new.kept.starts token None
          c.in_ok-gather_run.ensures.running c.gather_run.ensures.tokenizing unsaid (inl refl);
      awaiting = awaiting_of c.gather_run.new.tokenizer c.next.new.self c.gather_run.new.kept.starts token c.in_ok-gather_run.ensures.running c.gather_run.ensures.tokenizing
          (λ run f. record { awaits = given run f; unsaid = unsaid run f });
      cause = tt;
      running = c.in_ok-token.ensures.ok;
      count = omega (arith, more, less, least);
      keeps = c.gather_run.ensures.keeps ∙ c.tokens.invariant.4;
    }

pub returns-in_err-gather_char-clause-tokenizing : goal.returns-in_err-gather_char-clause-tokenizing
returns-in_err-gather_char-clause-tokenizing c =
    one_either c.gather_run.new.tokenizer c.next.new.self c.gather_run.new.kept.starts c.gather_char.new.kept.starts c.in-Some.token None
    c.in_ok-gather_run.ensures.running c.gather_run.ensures.tokenizing (rw c.in-Some.is at c.in_ok-token.ensures.unsaid) c.gather_char.ensures.either

pub bounded-requires : goal.bounded-requires
bounded-requires c = record {
  tokenizing = one_either c.gather_run.new.tokenizer c.next.new.self c.gather_run.new.kept.starts c.gather_char.new.kept.starts c.in-Some.token None
      c.in_ok-gather_run.ensures.running c.gather_run.ensures.tokenizing (rw c.in-Some.is at c.in_ok-token.ensures.unsaid) c.gather_char.ensures.either;
}

pub tokens-preserved : goal.tokens-preserved
tokens-preserved c =
    let unsaid = rw c.in-Some.is at c.in_ok-token.ensures.unsaid in
    let more = c.next.ensures.count in
    let less = c.gather_run.ensures.count in
    let least = c.tokens.invariant.3 in
    let before = gathers_both c.args.tokenizer.now c.tokens.tokenizer c.args.kept.now c.tokens.kept c.gather_run.new.kept c.args.text.now.items c.tokens.text.items c.gather_run.new.text.items
    (Fed c.gather_run.new.tokenizer) c.tokens.invariant.0 c.tokens.invariant.4 c.in_ok-gather_run.ensures.gathered in
    let keeps = c.gather_run.ensures.keeps ∙ c.tokens.invariant.4 in (
      gathers_both c.args.tokenizer.now c.gather_run.new.tokenizer c.args.kept.now c.gather_run.new.kept c.gather_char.new.kept c.args.text.now.items c.gather_run.new.text.items c.gather_char.new.text.items
          (Fed c.next.new.self) before keeps
          (gathers_char c.gather_run.new.tokenizer c.next.new.self c.gather_run.new.kept c.gather_char.new.kept c.gather_run.new.text.items c.gather_char.new.text.items c.in-Some.token c.in-Char.c
          c.in-Char.is c.in_ok-gather_char.ensures.text unsaid c.in_ok-gather_char.ensures.starts c.in_ok-gather_char.ensures.tokens),
      one_either c.gather_run.new.tokenizer c.next.new.self c.gather_run.new.kept.starts c.gather_char.new.kept.starts c.in-Some.token None
          c.in_ok-gather_run.ensures.running c.gather_run.ensures.tokenizing unsaid c.gather_char.ensures.either,
      c.in_ok-token.ensures.ok,
      omega (arith, more, less, least),
      c.gather_char.ensures.keeps ∙ keeps,
    )

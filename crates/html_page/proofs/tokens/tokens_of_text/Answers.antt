use Rattle.std.proofs.Common.{option_map, chars}
use Rattle.html_page.specs.TokenList.{start_of}
use Rattle.html_page.proofs.tokens.tokens_of_text.Goals as goal

pub all_tokens-requires-clause-begun : goal.all_tokens-requires-clause-begun
all_tokens-requires-clause-begun c = (start_of c.args.table.now c.args.mode (option_map (λ name. chars name.now) c.args.last_name), c.in_ok-tokenizer.ensures.begins)

pub returns-clause-tokens : goal.returns-clause-tokens
returns-clause-tokens c = c.in_ok-list.ensures.tokens _ c.in_ok-tokenizer.ensures.begins

pub returns-clause-told : goal.returns-clause-told
returns-clause-told c = c.in_ok-list.ensures.told _ c.in_ok-tokenizer.ensures.begins

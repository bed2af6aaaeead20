-- Claimed.
-- Refusals of the layers below, as `tokenize` tells them.
use Rattle.html_input.specs.declared.error.InputError.{InputError}
use Rattle.html_input.specs.declared.error.InputError.TheVariants as input
use Rattle.html_tokens.specs.declared.tokenizer.TokenError.{TokenError}
use Rattle.html_tokens.specs.declared.tokenizer.TokenError.TheVariants as tokens
use Rattle.html_page.specs.declared.error.TokenListError.{TokenListError}
use Rattle.html_page.specs.declared.error.TokenListError.TheVariants.{OutOfMemory, InputTooLong, Stopped}

abbrev pub cause_of : InputError → TokenListError
cause_of input.OutOfMemory = OutOfMemory
cause_of input.InputTooLong = InputTooLong
cause_of input.Stopped = Stopped

abbrev pub token_cause : TokenError → TokenListError
token_cause tokens.OutOfMemory = OutOfMemory
token_cause tokens.Stopped = Stopped

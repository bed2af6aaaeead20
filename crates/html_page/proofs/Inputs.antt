-- From what the decoder says of its bytes to what is said of an input behind a mark.
use Rattle.std.proofs.Common.{◌≡◌, ℕ, ◌<◌, false, List, ◌++◌, length, refl, sym, subst}
use Rattle.html_input.specs.Decode.{code_points}
use Rattle.html_input.specs.Fed.{Fed}
use Rattle.html_input.specs.declared.decoder.Decoder.{Decoder}
use Rattle.html_input.specs.declared.decoder.TheConstants.{LIMIT}
use Rattle.html_input.specs.declared.error.InputError.{InputError}
use Rattle.html_input.specs.declared.error.InputError.TheVariants as input
use Rattle.html_input.specs.Added.{added}
use Rattle.html_page.specs.Causes.{cause_of}
use Rattle.html_page.specs.TokenList.{behind_mark, IsListCause}

-- why an input behind a mark was refused
pub list-cause : (d : InputError) (bytes : List ℕ) → (d ≡ input.InputTooLong → LIMIT < length (code_points (behind_mark bytes))) → (d ≡ input.Stopped → ⊥) → IsListCause bytes (cause_of d)
list-cause input.OutOfMemory bytes long stop = tt
list-cause input.InputTooLong bytes long stop = long refl
list-cause input.Stopped bytes long stop = stop refl

-- the text put out is all of the list that was added to
pub fed-all : (d : Decoder) (bytes old new : List ℕ) → Fed LIMIT false d bytes (old ++ added old new) → new ≡ old ++ added old new → Fed LIMIT false d bytes new
fed-all d bytes old new f kept = subst (λ (t : List ℕ). Fed LIMIT false d bytes t) (sym kept) f

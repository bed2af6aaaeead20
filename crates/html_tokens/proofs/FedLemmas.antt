-- What a tokenizer's calls make of its run.
use Rattle.std.proofs.Common.{◌≡◌, ◌++◌, ◌∷◌, [], length, Option, Some, None, true, false, refl}
use Rattle.std.specs.Option.{IfNone, IfSome}
use Rattle.html_tokens.specs.Stream.{AreTold, IsAt, IsPrompt, Run, answered, ended, gave, tokens_of}
use Rattle.html_tokens.specs.declared.faults.Faults.{Faults}
use Rattle.html_tokens.specs.declared.machine.Machine.{Machine}
use Rattle.html_tokens.specs.declared.token.TextMode.{TextMode}
use Rattle.html_tokens.specs.declared.token.Token.{Token}
use Rattle.html_tokens.specs.Cost.{AreCosted}
use Rattle.html_tokens.proofs.CostLemmas.{run_costed}
use Rattle.html_tokens.proofs.StreamLemmas.{ended_again, unsaid}
use Rattle.html_tokens.proofs.ToldLemmas.{told_unsaid}

-- a machine and its errors are where a run leaves them
abbrev pub AreAt : Machine → Faults → Run → Type 0
AreAt t f run = IsAt t run × (f.lost ≡ false) × AreTold t f run

-- the same after a token, whatever is said of the mode
abbrev pub AreAfter : Machine → Faults → Run → Token → Type 0
AreAfter t f run given = ((switch : Option TextMode) → IsAt (answered given switch t) (gave run given switch)) × (f.lost ≡ false) × ((switch : Option TextMode) → AreTold (answered given switch t) f (gave run given switch))

pub after_unsaid : (t : Machine) (f : Faults) (run : Run) (given : Token) → AreAfter t f run given → AreAt t f (gave run given None)
after_unsaid t f run given h = (unsaid given t run h.0, h.1, told_unsaid given t f run h.2)

pub some_awaits : (old new : Machine) (f f' : Faults) (answer : Option Token) → (f.lost ≡ false → f'.lost ≡ false) →
    IfSome answer (λ token. (run : Run) → IsAt old run → (switch : Option TextMode) → IsAt (answered token switch new) (gave run token switch)) →
    IfSome answer (λ token. (run : Run) → IsAt old run → AreTold old f run → (switch : Option TextMode) → AreTold (answered token switch new) f' (gave run token switch)) →
    IfSome answer (λ token. (run : Run) → AreAt old f run → AreAfter new f' run token)
some_awaits old new f f' (Some token) kept given telling = λ run h. (given run h.0, kept h.1, telling run h.0 h.2)
some_awaits old new f f' None kept given telling = tt

pub some_unsaid : (old new : Machine) (f f' : Faults) (answer : Option Token) → IfSome answer (λ token. (run : Run) → AreAt old f run → AreAfter new f' run token) → IfSome answer (λ token. (run : Run) → AreAt old f run → AreAt new f' (gave run token None))
some_unsaid old new f f' (Some token) h = λ run at. after_unsaid new f' run token (h run at)
some_unsaid old new f f' None h = tt

pub none_prompt : (old new : Machine) (f f' : Faults) (answer : Option Token) → (f.lost ≡ false → f'.lost ≡ false) → IfNone answer ((run : Run) → IsAt old run → IsAt new run × IsPrompt run) →
    IfNone answer ((run : Run) → IsAt old run → AreTold old f run → AreTold new f' run) → IfNone answer ((run : Run) → AreAt old f run → AreAt new f' run × IsPrompt run)
none_prompt old new f f' (Some token) kept prompt told = tt
none_prompt old new f f' None kept prompt told = λ run h. let p = prompt run h.0 in ((p.0, kept h.1, told run h.0 h.2), p.1)

pub none_all : (old : Machine) (f : Faults) (answer : Option Token) → IfNone answer ((run : Run) → IsAt old run → run.finished ≡ true → tokens_of run.text run.switches run.start ≡ run.given) →
    IfNone answer ((run : Run) → AreAt old f run → run.finished ≡ true → tokens_of run.text run.switches run.start ≡ run.given)
none_all old f (Some token) h = tt
none_all old f None h = λ run at. h run at.0

-- a text that has ended has ended
pub again_ended : (t : Machine) (f : Faults) (run : Run) → t.input.finished ≡ true → AreAt t f run → AreAt t f (ended run)
again_ended t f run e h = (ended_again t run e h.0, h.1, (λ kept more switches g. h.2 kept more switches (λ _. g refl)))

pub some_costed : (answer : Option Token) (old new : Machine) (f : Faults) → IfSome answer (λ token. (run : Run) → IsAt old run → (switch : Option TextMode) → IsAt (answered token switch new) (gave run token switch)) →
    IfSome answer (λ token. (run : Run) → AreAt old f run → AreCosted (length run.text) (run.given ++ token ∷ []))
some_costed None old new f h = tt
some_costed (Some token) old new f h = λ run at. run_costed new run token (unsaid token new run (h run at.0))

-- Plain text that was not fed before.
use Rattle.std.proofs.Common.{◌≡◌, ℕ, ◌+◌, List, [], ◌∷◌, ◌++◌, ◌&&◌, Bool, length, take, drop, true, false, refl, ap, sym, ◌∙◌, arith, append_assoc, length-append, subst}
use Rattle.std.specs.List.{list_all}
use Rattle.std.proofs.lemmas.Bool.{false≢true}
use Rattle.std.proofs.lemmas.Bool.Decides.{nat_tests}
use Rattle.std.proofs.lemmas.List.{take_all}
use Rattle.html_text.specs.Plain.{is_plain_char}
use Rattle.html_tokens.specs.Stream.{AreTold}
use Rattle.html_tokens.proofs.ToldLemmas.{told_fed}
use Rattle.html_tokens.specs.Bounds.{IsBounded}
use Rattle.html_tokens.specs.Copied.{AllPass}
use Rattle.html_tokens.specs.Fed.{IsEnded, Passes, coming}
use Rattle.html_tokens.specs.Runs.{gave_all, is_plain, is_text, plain_tokens}
use Rattle.html_tokens.specs.Stream.{IsAt, Run, fed, tokens_of}
use Rattle.html_tokens.specs.declared.faults.Faults.{Faults}
use Rattle.html_tokens.specs.declared.machine.Machine.{Machine}
use Rattle.html_tokens.specs.declared.token.TextMode.{TextMode}
use Rattle.html_tokens.specs.declared.token.TextMode.TheVariants.{Data, Rcdata, Rawtext, Script, Plaintext, Foreign}
use Rattle.html_tokens.proofs.BoundLemmas.{run_bounded}
use Rattle.html_tokens.proofs.RunLemmas.{HasTaken, taken_none, taken_run, text_state}

both : (a b : Bool) → (a && b) ≡ true → (a ≡ true) × (b ≡ true)
both true b e = (refl, e)
both false b e = absurd (false≢true e)

-- what is plain in each mode
plain_any : (mode : TextMode) (c : ℕ) → is_plain_char c ≡ true → is_plain mode c ≡ true
plain_any Data c h = grind (arith, nat_tests)
plain_any Rcdata c h = grind (arith, nat_tests)
plain_any Rawtext c h = grind (arith, nat_tests)
plain_any Script c h = grind (arith, nat_tests)
plain_any Plaintext c h = grind (arith, nat_tests)
plain_any Foreign c h = grind (arith, nat_tests)

all_plain : (mode : TextMode) (cs : List ℕ) → list_all is_plain_char cs ≡ true → AllPass (is_plain mode) cs
all_plain mode [] h = tt
all_plain mode (c ∷ cs) h = (let p = both _ _ h in (plain_any mode c p.0, all_plain mode cs p.1))

drop_all : (xs : List ℕ) → drop (length xs) xs ≡ []
drop_all [] = refl
drop_all (x ∷ xs) = drop_all xs

-- none was told
no_faults : Faults
no_faults = record { list = []; lost = false; compared = 0 }

-- the machine, with this text unread
abbrev pub with_text : Machine → List ℕ → Machine
with_text t text = record t { input = record { queue = record { items = text }; finished = t.input.finished } }

abbrev past : Machine → List ℕ → Machine
past t text = record t { place = t.place + length text }

module _ (t : Machine) (text : List ℕ) (state : is_text t.state ≡ true) (none : t.input.queue.items ≡ []) where
  pub fed_at : (run : Run) → t.input.finished ≡ false → IsAt t run → IsAt (with_text t text) (fed run text)
  fed_at run going i = record {
    tokens = λ more switches h.
        ap (λ x. tokens_of x (run.switches ++ switches) run.start) (append_assoc run.text text more)
        ∙ i.tokens (text ++ more) switches (λ f. absurd (false≢true (sym going ∙ i.finished ∙ f)))
        ∙ ap (λ items. run.given ++ coming t.table.now t.state t.mode t.last_name t.place (items ++ (text ++ more)) switches) none;
    count = (let a = i.count in let b = ap length none in let d = length-append run.text text in omega (arith, a, b, d));
    finished = i.finished;
    table = i.table;
    name = i.name;
    rule = i.rule;
    drained = λ h. absurd (subst IsEnded (text_state t.state state) h);
  }

  pub told_at_text : (f : Faults) (run : Run) → t.input.finished ≡ false → IsAt t run → AreTold t f run → AreTold (with_text t text) f (fed run text)
  told_at_text f run going i told = told_fed t (record { queue = record { items = text }; finished = t.input.finished }) f run text (ap (λ items. items ++ text) (sym none)) going i told

  passes : Passes (with_text t text) (length text) t.state (past t text)
  passes = record {
    items = none ∙ sym (drop_all text);
    finished = refl;
    place = refl;
    mode = refl;
    name = refl;
    state = refl;
    table = refl;
  }

  pub plain_taken : (run : Run) → t.input.finished ≡ false → list_all is_plain_char text ≡ true → IsAt t run → IsAt (past t text) (gave_all (fed run text) (plain_tokens t.place text))
  plain_taken run going plain i =
      let start = with_text t text in
      let whole : take (length text) text ≡ text = take_all (length text) text (omega arith) in
      let taken : HasTaken start (past t text) no_faults no_faults [] (take (length text) text)
      = taken_run (length text) start start (past t text) no_faults no_faults [] [] (taken_none start no_faults [] (text_state t.state state)) (omega arith)
      (λ mode. subst (AllPass (is_plain mode)) (sym whole) (all_plain mode text plain)) passes in
      subst (λ x. IsAt (past t text) (gave_all (fed run text) (plain_tokens t.place x))) (sym taken.out ∙ whole) (taken.given (fed run text) (fed_at run going i))

  pub plain_told_of : (f : Faults) (run : Run) → t.input.finished ≡ false → list_all is_plain_char text ≡ true → IsAt t run → AreTold t f run → AreTold (past t text) f (gave_all (fed run text) (plain_tokens t.place text))
  plain_told_of f run going plain i told =
      let start = with_text t text in
      let whole : take (length text) text ≡ text = take_all (length text) text (omega arith) in
      let taken : HasTaken start (past t text) f f [] (take (length text) text)
      = taken_run (length text) start start (past t text) f f [] [] (taken_none start f [] (text_state t.state state)) (omega arith)
      (λ mode. subst (AllPass (is_plain mode)) (sym whole) (all_plain mode text plain)) passes in
      subst (λ x. AreTold (past t text) f (gave_all (fed run text) (plain_tokens t.place x))) (sym taken.out ∙ whole) (taken.told (fed run text) (fed_at run going i) (told_at_text f run going i told))

  pub plain_within : (f : Faults) → IsBounded t f → IsBounded (past t text) f
  plain_within f b = run_bounded (with_text t text) (past t text) (length text) f (text_state t.state state) passes b

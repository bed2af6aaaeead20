-- A parser that goes on.
use Rattle.std.proofs.Common.{ℕ, ◌≡◌, ◌∙◌, ◌≤◌, ◌^◌, Bool, true, false, List, ◌++◌, length, Option, Some, None, Result, Err, sym, subst, arith}
use Rattle.std.specs.Prelude.{◌↔◌}
use Rattle.std.proofs.Math.Nat.{min-le_right}
use Rattle.std.specs.List.{AllByRecursion}
use Rattle.html_arena.specs.declared.arena.Limits.{Limits}
use Rattle.html_input.specs.Fed.{pending_of}
use Rattle.html_input.specs.declared.decoder.TheConstants.{LIMIT}
use Rattle.html_input.proofs.Feeding.{Fed-Decodes, Fed-bounded}
use Rattle.html_tokens.specs.Fed.{slack}
use Rattle.html_tokens.specs.Stream.{IsLate, Run, last_name, tokens_of}
use Rattle.html_tokens.specs.declared.token.Token.{Token}
use Rattle.html_parser.specs.Causes.{IsCause, IsFeedCause}
use Rattle.html_parser.specs.Feeding.{AreHandedOn}
use Rattle.html_parser.specs.Staged.{AreStaged, HasRead, HasTaken, IsRun, KeepsTokens}
use Rattle.html_parser.specs.Start.{Start, most_within}
use Rattle.html_parser.specs.declared.error.ParseError.{ParseError}
use Rattle.html_parser.specs.declared.error.ParseError.TheVariants.{Stopped}
use Rattle.html_parser.specs.declared.stages.Stages.{Stages}

-- stages that were fed something can be fed
pub staged_by : (start : Start) (p : Stages) (bytes : List ℕ) → HasRead start p bytes → AreStaged p
staged_by start p bytes h = λ none. none start bytes h.run h.is_run

pub staged_more : (old new : Stages) (piece : List ℕ) → AreStaged old
    → ((start : Start) (bytes : List ℕ) (run : Run) → IsRun start false old bytes run → HasTaken start new (bytes ++ piece)) → AreStaged new
staged_more old new piece staged step = λ none. staged (λ start bytes run r.
    let h = step start bytes run r in
    none start (bytes ++ piece) h.handed.further.run h.handed.further.is_run)

pub staged_same : (old new : Stages) → AreStaged old
    → ((start : Start) (bytes : List ℕ) (run : Run) → IsRun start false old bytes run → IsRun start false new bytes run) → AreStaged new
staged_same old new staged step = λ none. staged (λ start bytes run r. none start bytes run (step start bytes run r))

-- no stage that can be fed answers that it was stopped
pub feed_goes : (p : Stages) (piece : List ℕ) (e : ParseError) → AreStaged p
    → ((start : Start) (bytes : List ℕ) (run : Run) → IsRun start false p bytes run → IsFeedCause start (bytes ++ piece) e) → e ≡ Stopped → ⊥
feed_goes p piece e staged cause is = staged (λ start bytes run r.
    let c = subst (IsFeedCause start (bytes ++ piece)) is (cause start bytes run r) in c.2)

pub end_goes : (p : Stages) (e : ParseError) → AreStaged p
    → ((start : Start) (bytes : List ℕ) (run : Run) → IsRun start false p bytes run → IsCause start bytes e) → e ≡ Stopped → ⊥
end_goes p e staged cause is = staged (λ start bytes run r. subst (IsCause start bytes) is (cause start bytes run r))

within_limit : (limits : Option Limits) → most_within limits ≤ LIMIT
within_limit None = omega arith
within_limit (Some l) = min-le_right l.code_points LIMIT

-- the bytes fed are not many
pub few_bytes : (start : Start) (p : Stages) (bytes : List ℕ) → HasRead start p bytes → length bytes ≤ 2 ^ 33
few_bytes start p bytes h =
    let few = Fed-bounded h.is_run.decoded in
    let most = within_limit start.limits in
    omega (arith, few, most)

-- what was handed on of them
handed_of : (start : Start) (p : Stages) (bytes : List ℕ) (h : HasTaken start p bytes) → AreHandedOn start p.builder bytes h.handed.further.run.given
handed_of start p bytes h =
    let run = h.handed.further.run in
    let r = h.handed.further.is_run in
    let prompt = h.handed.prompt in
    record {
      pending = pending_of p.decoder;
      text = run.text;
      decodes = Fed-Decodes r.decoded;
      handed = r.handed;
      switches = run.switches;
      said = r.said;
      has_said = r.has_said;
      late = prompt.0;
      list = subst (λ s. tokens_of run.text run.switches s ≡ run.given ++ prompt.0) r.begun prompt.1;
      few = subst (λ s. AllByRecursion (IsLate (slack s.rows (last_name run.given s.name)) (length run.text)) prompt.0) r.begun prompt.2;
    }

pub prompt_of : (start : Start) (p : Stages) (bytes : List ℕ) → HasTaken start p bytes → (tokens : List Token) × AreHandedOn start p.builder bytes tokens
prompt_of start p bytes h = (h.handed.further.run.given, handed_of start p bytes h)

-- and kept
pub kept_of : (start : Start) (p : Stages) (bytes : List ℕ) → HasTaken start p bytes → KeepsTokens p → AreHandedOn start p.builder bytes p.kept.tokens
kept_of start p bytes h keeps = subst (AreHandedOn start p.builder bytes) (sym (h.handed.further.is_run.tokens keeps)) (handed_of start p bytes h)

same_error : (e f : ParseError) → ◌≡◌ {A = Result (Unit {0}) ParseError} (Err e) (Err f) → e ≡ f
same_error e f h = cc

-- A call is refused as stopped only where the parser was.
pub never_stopped : (r : Result (Unit {0}) ParseError) (e f : ParseError) (was : Bool) → r ≡ Err e → e ≡ f → was ≡ false → (f ≡ Stopped → ⊥) → (r ≡ Err Stopped) ↔ (was ≡ true)
never_stopped r e f was is same going none = (
  (λ h. absurd (none (sym same ∙ same_error e Stopped (sym is ∙ h)))),
  (λ h. let no : false ≡ true = sym going ∙ h in cc),
)

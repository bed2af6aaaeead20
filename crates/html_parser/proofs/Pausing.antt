-- Stages that are paused and go on.
use Rattle.std.proofs.Common.{ℕ, zero, suc, ◌≡◌, ◌∙◌, ◌++◌, ◌≤◌, ◌<◌, Bool, true, false, List, length, Option, Some, None, Result, Err, refl, sym, ap, subst, arith}
use Rattle.html_arena.specs.Data.{host_in}
use Rattle.html_arena.specs.Tree.{Tree as Nodes, label_of, parent_of}
use Rattle.html_arena.specs.Walking.{IsRoot}
use Rattle.html_builder.specs.Handed.{Handed, fates_of, is_stopped as builder_stopped, parses_foreign}
use Rattle.html_charref.specs.declared.table.Row.{Row}
use Rattle.html_input.specs.Fed.{Fed as Decodes}
use Rattle.html_tokens.specs.Given.{Fed, is_stopped}
use Rattle.html_tokens.specs.Paused.{IsPaused}
use Rattle.html_tokens.specs.Stream.{Run}
use Rattle.html_tokens.specs.declared.token.Token.{Token}
use Rattle.html_tokens.specs.declared.tokenizer.Tokenizer.{Tokenizer}
use Rattle.html_parser.specs.Causes.{IsToldIn}
use Rattle.html_parser.specs.Fed.{IsFed}
use Rattle.html_parser.specs.Feeding.{AreHandedOn}
use Rattle.html_parser.specs.Kinds.{kinds, starts_of}
use Rattle.html_parser.specs.Paused.{ArePaused, HavePaused, KeepsPaused, MayResume}
use Rattle.html_builder.specs.Saying.{HasSaid}
use Rattle.html_parser.specs.Said.{AreSaid}
use Rattle.html_parser.specs.Staged.{AreStaged, HasRead, KeepsTokens}
use Rattle.html_parser.specs.Start.{Start, most_input, parses}
use Rattle.html_parser.specs.Tokenizing.{IsTokenizing}
use Rattle.html_parser.specs.declared.error.ParseError.{ParseError}
use Rattle.html_parser.specs.declared.error.ParseError.TheVariants.{Stopped}
use Rattle.html_parser.specs.declared.feeder.Feeder.{Feeder}
use Rattle.html_parser.specs.declared.paused.PausedStages.{PausedStages}
use Rattle.html_parser.specs.declared.stages.Stages.{Stages}
use Rattle.html_parser.proofs.Tokenizing.{starts-length}

-- what resuming says of a tokenizer: its runs by a table of these rows are those of the tokenizer that was paused
abbrev pub GoesOn : List Row → PausedStages → Tokenizer → Type 0
GoesOn rows p t = (u : Tokenizer) (run : Run) → IsPaused p.tokenizer u → run.start.rows ≡ rows → Fed u run → Fed t run

rows_in_run : (start : Start) (rows : List Row) (p : PausedStages) (bytes : List ℕ) (h : HavePaused start rows p bytes) → h.read.run.start.rows ≡ rows
rows_in_run start rows p bytes h = ap (λ s. s.rows) h.read.is_run.begun ∙ h.rows_are

tokenized : (start : Start) (rows : List Row) (p : PausedStages) (t : Tokenizer) (bytes : List ℕ) → GoesOn rows p t → (h : HavePaused start rows p bytes) → Fed t h.read.run
tokenized start rows p t bytes goes h =
    goes h.stages.tokenizer h.read.run h.paused.tokenizer_is (rows_in_run start rows p bytes h) h.read.is_run.tokenized

-- the stages that go on were fed the same
pub resumed : (rows : List Row) (p : PausedStages) (s : Stages) → s.decoder ≡ p.decoder → s.builder ≡ p.builder → s.kept ≡ p.kept → GoesOn rows p s.tokenizer
    → ((u : Tokenizer) → IsPaused p.tokenizer u → is_stopped s.tokenizer ≡ is_stopped u) → (start : Start) (bytes : List ℕ) → HavePaused start rows p bytes → HasRead start s bytes
resumed rows p s decoder builder kept goes stopped start bytes h =
    let r = h.read.is_run in
    let run = h.read.run in
    let own = h.paused in
    let b : h.stages.builder ≡ s.builder = sym (builder ∙ own.builder_is) in
    let d : h.stages.decoder ≡ s.decoder = sym (decoder ∙ own.decoder_is) in
    let k : s.kept ≡ h.stages.kept = kept ∙ own.kept_is in
    record {
      run = run;
      is_run = record {
        begun = r.begun;
        ended = r.ended;
        decoded = subst (λ x. Decodes (most_input start) false x bytes run.text) d r.decoded;
        tokenized = tokenized start rows p s.tokenizer bytes goes h;
        handed = subst (λ x. Handed start.setting start.limits (kinds run.given) x) b r.handed;
        said = subst (λ x. AreSaid start.setting (kinds run.given) (fates_of x) run.switches) b r.said;
        has_said = subst (λ x. HasSaid start.setting start.limits start.mode (kinds run.given) run.switches x) b r.has_said;
        foreign = subst (λ x. parses_foreign x ≡ parses start.foreign) b r.foreign;
        starts = ap (λ x. x.starts) k ∙ r.starts;
        tokens = λ keeps. ap (λ x. x.tokens) k ∙ r.tokens (sym (ap (λ x. x.keeps_tokens) k) ∙ keeps);
        running = stopped h.stages.tokenizer own.tokenizer_is ∙ r.running;
        building = subst (λ x. builder_stopped x ≡ false) b r.building;
      };
    }

few_starts : (start : Start) (rows : List Row) (p : PausedStages) (bytes : List ℕ) (h : HavePaused start rows p bytes) → length p.kept.starts ≤ length h.read.run.given
few_starts start rows p bytes h =
    let same : p.kept.starts ≡ starts_of h.read.run.given = ap (λ x. x.starts) h.paused.kept_is ∙ h.read.is_run.starts in
    let all : length p.kept.starts ≡ length h.read.run.given = ap length same ∙ starts-length h.read.run.given in
    omega (arith, all)

-- what is always true of stages
pub resumed_tokenizing : (rows : List Row) (p : PausedStages) (t : Tokenizer) → MayResume rows p → GoesOn rows p t → IsTokenizing t p.kept.starts
resumed_tokenizing rows p t may goes = λ _ none. may (λ start bytes h. none h.read.run (tokenized start rows p t bytes goes h) (few_starts start rows p bytes h))

pub resumed_staged : (rows : List Row) (p : PausedStages) (s : Stages) → MayResume rows p
    → ((start : Start) (bytes : List ℕ) → HavePaused start rows p bytes → HasRead start s bytes) → AreStaged s
resumed_staged rows p s may read = λ none. may (λ start bytes h. let r = read start bytes h in none start bytes r.run r.is_run)

-- a feeder of stages that were paused, and back
pub fed_of : (start : Start) (f : Feeder) (s : Stages) (bytes : List ℕ) → f.stages ≡ s → f.is_stopped ≡ false → HasRead start s bytes → IsFed start f bytes
fed_of start f s bytes is going read = record { read = subst (λ x. HasRead start x bytes) (sym is) read; going = going }

pub paused_of : (start : Start) (rows : List Row) (f : Feeder) (p : PausedStages) (bytes : List ℕ) → start.rows ≡ rows → ArePaused p f.stages → IsFed start f bytes
    → HavePaused start rows p bytes
paused_of start rows f p bytes are own fed = record { rows_are = are; stages = f.stages; paused = own; read = fed.read }

pub may_more : (rows : List Row) (p q : PausedStages) (piece : List ℕ) → MayResume rows p
    → ((start : Start) (bytes : List ℕ) → HavePaused start rows p bytes → HavePaused start rows q (bytes ++ piece)) → MayResume rows q
may_more rows p q piece may step = λ none. may (λ start bytes h. none start (bytes ++ piece) (step start bytes h))

-- a feeder of stages that go on was fed what they were
pub enters : (rows : List Row) (p : PausedStages) (s : Stages) (f : Feeder) → f.stages ≡ s → f.is_stopped ≡ false
    → ((start : Start) (bytes : List ℕ) → HavePaused start rows p bytes → HasRead start s bytes) → (start : Start) (bytes : List ℕ) → HavePaused start rows p bytes → IsFed start f bytes
enters rows p s f is going read start bytes h = fed_of start f s bytes is going (read start bytes h)

pub keeps_of : (p : PausedStages) (s : Stages) (f : Feeder) → f.stages ≡ s → s.kept ≡ p.kept → KeepsPaused p → KeepsTokens f.stages
keeps_of p s f is same keeps = ap (λ x. x.kept.keeps_tokens) is ∙ (ap (λ x. x.keeps_tokens) same ∙ keeps)

pub handed_of_paused : (start : Start) (p : PausedStages) (s : Stages) (bytes : List ℕ) (tokens : List Token) → ArePaused p s → AreHandedOn start s.builder bytes tokens
    → AreHandedOn start p.builder bytes tokens
handed_of_paused start p s bytes tokens own h = subst (λ b. AreHandedOn start b bytes tokens) (sym own.builder_is) h

pub kept_of_paused : (start : Start) (p : PausedStages) (s : Stages) (bytes : List ℕ) → ArePaused p s → AreHandedOn start s.builder bytes s.kept.tokens
    → AreHandedOn start p.builder bytes p.kept.tokens
kept_of_paused start p s bytes own h =
    handed_of_paused start p s bytes p.kept.tokens own (subst (AreHandedOn start s.builder bytes) (sym (ap (λ x. x.tokens) own.kept_is)) h)

pub told_of_paused : (start : Start) (p : PausedStages) (s : Stages) (e : ParseError) → ArePaused p s → IsToldIn start.limits s.builder.page e → IsToldIn start.limits p.builder.page e
told_of_paused start p s e own h = subst (λ b. IsToldIn start.limits b.page e) (sym own.builder_is) h

pub never : (r : Result (Unit {0}) ParseError) (was : Bool) → was ≡ false → (r ≡ Err Stopped → was ≡ true) → r ≡ Err Stopped → ⊥
never r was going stopped e = let no : false ≡ true = sym going ∙ stopped e in cc

-- A ROOT IS ONE WHERE IT CANNOT BE NONE

lt_stable : (a b : ℕ) → ((a < b → ⊥) → ⊥) → a < b
lt_stable a zero h = absurd (h (λ p. omega (arith, p)))
lt_stable zero (suc b) h = omega arith
lt_stable (suc a) (suc b) h =
    let r = lt_stable a b (λ none. h (λ p. none (omega (arith, p)))) in
    omega (arith, r)

none_stable : {A : Type 0} (o : Option A) → ((o ≡ None → ⊥) → ⊥) → o ≡ None
none_stable None h = refl
none_stable (Some x) h = absurd (h (λ e. cc))

pub root_stable : (t : Nodes) (r : ℕ) → ((IsRoot t r → ⊥) → ⊥) → IsRoot t r
root_stable t r h = record {
  inside = lt_stable r (length t.labels) (λ none. h (λ is. none is.inside));
  alone = none_stable (parent_of t r) (λ none. h (λ is. none is.alone));
  no_host = none_stable (host_in (label_of t r)) (λ none. h (λ is. none is.no_host));
}

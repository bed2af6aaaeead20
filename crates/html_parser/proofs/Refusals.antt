-- Refusals of pieces, of what a reader has, and of whole inputs.
use Rattle.std.proofs.Common.{inl, inr, ℕ, ◌≡◌, ◌⊎◌, ◌<◌, length, ◌∙◌, ◌++◌, ◌∷◌, [], Bool, true, false, List, Option, None, refl, sym, ap, subst, append-nil, append_assoc}
use Rattle.std.specs.Prelude.{Result, Ok, Err, OnOk}
use Rattle.std.proofs.lemmas.Bool.{true≢false}
use Rattle.std.specs.Io.KnownBytes.{Consumes, IsAtEnd}
use Rattle.html_input.specs.Decode.{code_points, decode}
use Rattle.html_input.specs.declared.error.InputError.{InputError}
use Rattle.html_input.specs.declared.error.InputError.TheVariants as input
use Rattle.html_tokens.specs.Stream.{tokens_of}
use Rattle.html_tokens.specs.declared.token.Token.{Token}
use Rattle.html_tokens.specs.declared.token.TokenKind.{TokenKind}
use Rattle.html_tokens.specs.declared.tokenizer.TokenError.{TokenError}
use Rattle.html_tokens.specs.declared.tokenizer.TokenError.TheVariants as tokens
use Rattle.html_arena.specs.declared.arena.Limits.{Limits}
use Rattle.html_arena.specs.declared.arena.ArenaError.{ArenaError}
use Rattle.html_arena.specs.declared.arena.ArenaError.TheVariants as arena
use Rattle.html_construction.specs.States.{State}
use Rattle.html_modes.specs.declared.outcome.Foreign.{Foreign as Root}
use Rattle.html_builder.specs.Errors.{IsTold}
use Rattle.html_builder.specs.declared.error.BuildError.{BuildError}
use Rattle.html_builder.specs.declared.error.BuildError.TheVariants as build
use Rattle.html_parser.specs.Causes.{IsCause, IsFeedCause, IsForeignAt, IsFront, IsPassedAt, IsSpentAtEnd, IsSpentBefore, IsTokenAt, IsTokenCause, IsToldIn, build_cause, input_cause, token_cause}
use Rattle.html_parser.specs.Reading.{IsPieceCause, IsReaderCause}
use Rattle.html_parser.specs.Spent.{IsSpent}
use Rattle.html_parser.specs.Start.{Start, most_input, text_start}
use Rattle.html_parser.specs.declared.error.ParseError.{ParseError}
use Rattle.html_parser.specs.declared.error.ParseError.TheVariants.{OutOfMemory, InputTooLong, ForeignContent, BadContext, Read, Write, Stopped, NodeBudget, HeldBudget, StepBudget}

-- WHILE BYTES COME FROM A READER, AND AFTER THEIR END

pub piece-cause : (start : Start) (old new : Option (List ℕ)) (failed : Bool) (bytes : List ℕ) (e : ParseError) → Consumes old new bytes → IsFeedCause start bytes e → IsPieceCause start old new failed e
piece-cause start old new failed bytes Read c h = absurd h.2
piece-cause start old new failed bytes OutOfMemory c h = (bytes, c, h)
piece-cause start old new failed bytes InputTooLong c h = (bytes, c, h)
piece-cause start old new failed bytes (ForeignContent n at) c h = (bytes, c, h)
piece-cause start old new failed bytes BadContext c h = (bytes, c, h)
piece-cause start old new failed bytes Write c h = (bytes, c, h)
piece-cause start old new failed bytes Stopped c h = (bytes, c, h)
piece-cause start old new failed bytes (NodeBudget at) c h = (bytes, c, h)
piece-cause start old new failed bytes (HeldBudget at) c h = (bytes, c, h)
piece-cause start old new failed bytes (StepBudget at) c h = (bytes, c, h)

pub reader-cause : (start : Start) (old new : Option (List ℕ)) (failed : Bool) (e : ParseError) → IsPieceCause start old new failed e → IsReaderCause start old new failed e
reader-cause start old new failed Read h = h
reader-cause start old new failed OutOfMemory h = inr (h.0, h.1, inl h.2)
reader-cause start old new failed InputTooLong h = inr (h.0, h.1, inl h.2)
reader-cause start old new failed (ForeignContent n at) h = inr (h.0, h.1, inl h.2)
reader-cause start old new failed BadContext h = inr (h.0, h.1, inl h.2)
reader-cause start old new failed Write h = inr (h.0, h.1, inl h.2)
reader-cause start old new failed Stopped h = inr (h.0, h.1, inl h.2)
reader-cause start old new failed (NodeBudget at) h = inr (h.0, h.1, inl h.2)
reader-cause start old new failed (HeldBudget at) h = inr (h.0, h.1, inl h.2)
reader-cause start old new failed (StepBudget at) h = inr (h.0, h.1, inl h.2)

pub end-cause : (start : Start) (old new : Option (List ℕ)) (failed : Bool) (bytes : List ℕ) (e : ParseError) → Consumes old new bytes → IsAtEnd new → IsCause start bytes e
    → IsReaderCause start old new failed e
end-cause start old new failed bytes Read c n h = absurd h
end-cause start old new failed bytes OutOfMemory c n h = inr (bytes, c, inr (n, h))
end-cause start old new failed bytes InputTooLong c n h = inr (bytes, c, inr (n, h))
end-cause start old new failed bytes (ForeignContent m at) c n h = inr (bytes, c, inr (n, h))
end-cause start old new failed bytes BadContext c n h = inr (bytes, c, inr (n, h))
end-cause start old new failed bytes Write c n h = inr (bytes, c, inr (n, h))
end-cause start old new failed bytes Stopped c n h = inr (bytes, c, inr (n, h))
end-cause start old new failed bytes (NodeBudget at) c n h = inr (bytes, c, inr (n, h))
end-cause start old new failed bytes (HeldBudget at) c n h = inr (bytes, c, inr (n, h))
end-cause start old new failed bytes (StepBudget at) c n h = inr (bytes, c, inr (n, h))

-- memory for the parser was refused
pub memory-cause : (start : Start) (old new : Option (List ℕ)) (failed : Bool) (e : ParseError) → e ≡ OutOfMemory → IsReaderCause start old new failed e
memory-cause start old new failed e is = subst (IsReaderCause start old new failed) (sym is) (inl refl)

pub memory-at-all : (start : Start) (bytes : List ℕ) (e : ParseError) → e ≡ OutOfMemory → IsCause start bytes e
memory-at-all start bytes e is = subst (IsCause start bytes) (sym is) tt

-- WHERE NOTHING MORE COMES

-- a token of a text that may go on is one of each text that begins so
token-whole : (start : Start) (text rest : List ℕ) (at : ℕ) → IsTokenAt start false text at → IsTokenAt start true (text ++ rest) at
token-whole start text rest at t = record {
  before = t.before;
  fates = t.fates;
  token = t.token;
  fated = t.fated;
  said = t.said;
  are_said = t.are_said;
  listed = λ more switches _.
      subst (λ x. (later : List Token) × (tokens_of x (t.said ++ None ∷ switches) (text_start start) ≡ t.before ++ t.token ∷ later))
      (sym (append_assoc text rest more)) (t.listed (rest ++ more) switches (λ no. absurd (true≢false (sym no))));
  place = t.place;
}

foreign-whole : (start : Start) (text rest : List ℕ) (name : Root) (at : ℕ) → IsForeignAt start false text name at → IsForeignAt start true (text ++ rest) name at
unfolding token-whole
foreign-whole start text rest name at f = record { token = token-whole start text rest at f.token; foreign = f.foreign; refused = f.refused }

passed-whole : (start : Start) (text rest : List ℕ) (limit : ArenaError) (at : ℕ) → IsPassedAt start false text limit at → IsPassedAt start true (text ++ rest) limit at
unfolding token-whole
passed-whole start text rest limit at p = record { token = token-whole start text rest at p.token; state = p.state; passed = p.passed }

spent-longer : (start : Start) (text rest : List ℕ) (taken : List Token) → IsSpent start text taken → IsSpent start (text ++ rest) taken
spent-longer start text rest taken s = record {
  tokenizer = s.tokenizer;
  run = s.run;
  fed = s.fed;
  begun = s.begun;
  rest = s.rest ++ rest;
  front = ap (λ t. t ++ rest) s.front ∙ append_assoc s.run.text s.rest rest;
  given = s.given;
  builder = s.builder;
  handed = s.handed;
  spent = s.spent;
}

spent-whole : (start : Start) (text rest : List ℕ) (at : ℕ) → IsSpentBefore start false text at ⊎ IsSpentAtEnd start false text at
    → IsSpentBefore start true (text ++ rest) at ⊎ IsSpentAtEnd start true (text ++ rest) at
unfolding token-whole
spent-whole start text rest at (inl s) = inl (record { token = token-whole start text rest at s.token; spent = spent-longer start text rest s.token.before s.spent })
spent-whole start text rest at (inr e) = absurd (true≢false (sym e.whole))

pub cause-whole : (start : Start) (text rest : List ℕ) (e : ParseError) → IsTokenCause start false text e → IsTokenCause start true (text ++ rest) e
cause-whole start text rest OutOfMemory h = tt
cause-whole start text rest (ForeignContent n at) h = foreign-whole start text rest n at h
cause-whole start text rest (NodeBudget at) h = (passed-whole start text rest arena.NodeBudget at h.0, h.1)
cause-whole start text rest (HeldBudget at) h = (passed-whole start text rest arena.HeldBudget at h.0, h.1)
cause-whole start text rest InputTooLong h = h
cause-whole start text rest BadContext h = h
cause-whole start text rest Read h = h
cause-whole start text rest Write h = h
cause-whole start text rest Stopped h = h
cause-whole start text rest (StepBudget at) h = (spent-whole start text rest at h.0, h.1)

-- the text that was put out is a front of all
of-front : (start : Start) (bytes : List ℕ) (e : ParseError) → (text : List ℕ) × IsFront bytes text × IsTokenCause start false text e → IsTokenCause start true (decode bytes) e
of-front start bytes e (text, front, cause) =
    let all = front [] in
    let same : decode bytes ≡ text ++ all.0 = ap decode (sym (append-nil bytes)) ∙ all.1 in
    subst (λ t. IsTokenCause start true t e) (sym same) (cause-whole start text all.0 e cause)

-- what a piece was refused for, where nothing more comes
pub last-cause : (start : Start) (bytes : List ℕ) (e : ParseError) → IsFeedCause start bytes e → IsCause start bytes e
last-cause start bytes InputTooLong h = subst (λ b. most_input start < length (code_points b)) (append-nil bytes) (h [])
last-cause start bytes OutOfMemory h = tt
last-cause start bytes (ForeignContent n at) h = of-front start bytes (ForeignContent n at) h
last-cause start bytes (NodeBudget at) h = of-front start bytes (NodeBudget at) h
last-cause start bytes (HeldBudget at) h = of-front start bytes (HeldBudget at) h
last-cause start bytes BadContext h = absurd h.2
last-cause start bytes Read h = absurd h.2
last-cause start bytes Write h = absurd h.2
last-cause start bytes Stopped h = absurd h.2
last-cause start bytes (StepBudget at) h = of-front start bytes (StepBudget at) h

-- what two clauses on an answer say together
pub both_ok : {T E A B C : Type 0} (r : Result T E) → (A → B → C) → OnOk r A → OnOk r B → OnOk r C
both_ok (Ok x) f a b = f a b
both_ok (Err e) f a b = tt

-- WHAT A BUDGET TELLS OF THE STATE OF TREE CONSTRUCTION

pub input-told : (l : Option Limits) (a : State) (e : InputError) → IsToldIn l a (input_cause e)
input-told l a input.OutOfMemory = tt
input-told l a input.InputTooLong = tt
input-told l a input.Stopped = tt

pub token-told : (l : Option Limits) (a : State) (e : TokenError) → IsToldIn l a (token_cause e)
token-told l a tokens.OutOfMemory = tt
token-told l a tokens.Stopped = tt

pub build-told : (l : Option Limits) (t : TokenKind) (a : State) (e : BuildError) → IsTold l t a e → IsToldIn l a (build_cause e)
build-told l t a build.OutOfMemory h = tt
build-told l t a (build.ForeignContent name at) h = tt
build-told l t a build.BadContext h = tt
build-told l t a build.Stopped h = tt
build-told l t a (build.NodeBudget at) h = (t, h)
build-told l t a (build.HeldBudget at) h = (t, h)

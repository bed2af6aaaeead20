-- A piece, and a parser in a handle.
use Rattle.std.proofs.Common.{◌≡◌, ◌≢◌, ◌∙◌, ◌++◌, ◌≤◌, ◌^◌, ℕ, Bool, List, length, Option, Some, None, Result, Ok, Err, ◌⊎◌, inr, refl, sym, ap, subst, arith}
use Rattle.std.specs.Prelude.{◌↔◌, IfErr, IsSomeAnd, OnErr, OnOk, OnSome}
use Rattle.std.specs.Arc.{arc_value}
use Rattle.std.specs.Str.{chars}
use Rattle.html_builder.specs.declared.context.Context.{Context}
use Rattle.html_charref.specs.Entities.{core_rows}
use Rattle.html_tokens.specs.declared.token.Token.{Token}
use Rattle.html_parser.specs.Causes.{IsFeedCause, IsToldIn}
use Rattle.html_parser.specs.Feeding.{AreHandedOn}
use Rattle.html_parser.specs.Options.{IsBeginCause}
use Rattle.html_parser.specs.Owned.{IsOwnedFed, IsOwnedStopped}
use Rattle.html_parser.specs.Start.{Start}
use Rattle.html_parser.specs.declared.error.ParseError.{ParseError}
use Rattle.html_parser.specs.declared.error.ParseError.TheVariants.{OutOfMemory, InputTooLong, ForeignContent, BadContext, Read, Write, Stopped, NodeBudget, HeldBudget, StepBudget}
use Rattle.html_parser.specs.declared.options.Options.{Options}
use Rattle.html_parser.specs.declared.owned_tree_parser.OwnedTreeParser.{OwnedTreeParser}
use Rattle.html_modes.specs.declared.outcome.Foreign.TheVariants.{Svg, Math}
use Rattle.zilqumet_c.specs.Pieces.{AreTakenIn, IsFedIn, IsPushed, IsRefusedIn, IsStoppedIn}
use Rattle.zilqumet_c.specs.Reads.{context_in, parser_in, rows_in, table_in}
use Rattle.zilqumet_c.specs.Status.{place_of, status_of}
use Rattle.zilqumet_c.specs.declared.held.Held.{Held}
use Rattle.zilqumet_c.specs.declared.held.Held.TheVariants.{Page, Entities, Parser, Buffer, Texts, Ledger}

-- NUMBERS OF CAUSES

no_cause : (e : ParseError) → status_of e ≡ 0 → ⊥
no_cause OutOfMemory is = omega (arith, is)
no_cause InputTooLong is = omega (arith, is)
no_cause (ForeignContent Svg at) is = omega (arith, is)
no_cause (ForeignContent Math at) is = omega (arith, is)
no_cause BadContext is = omega (arith, is)
no_cause (NodeBudget at) is = omega (arith, is)
no_cause (HeldBudget at) is = omega (arith, is)
no_cause (StepBudget at) is = omega (arith, is)
no_cause Stopped is = omega (arith, is)
no_cause Read is = omega (arith, is)
no_cause Write is = omega (arith, is)

stopped_cause : (e : ParseError) → status_of e ≡ 9 → e ≡ Stopped
stopped_cause OutOfMemory is = absurd (omega (arith, is))
stopped_cause InputTooLong is = absurd (omega (arith, is))
stopped_cause (ForeignContent Svg at) is = absurd (omega (arith, is))
stopped_cause (ForeignContent Math at) is = absurd (omega (arith, is))
stopped_cause BadContext is = absurd (omega (arith, is))
stopped_cause (NodeBudget at) is = absurd (omega (arith, is))
stopped_cause (HeldBudget at) is = absurd (omega (arith, is))
stopped_cause (StepBudget at) is = absurd (omega (arith, is))
stopped_cause Stopped is = refl
stopped_cause Read is = absurd (omega (arith, is))
stopped_cause Write is = absurd (omega (arith, is))

-- Why there is no parser has no place but the first.
pub begin_place : (o : Options) (e : ParseError) → IsBeginCause o e → 0 ≡ place_of e
begin_place o OutOfMemory is = refl
begin_place o InputTooLong is = refl
begin_place o (ForeignContent name at) is = absurd is
begin_place o BadContext is = refl
begin_place o (NodeBudget at) is = sym is.2
begin_place o (HeldBudget at) is = sym is.4
begin_place o (StepBudget at) is = absurd is
begin_place o Stopped is = refl
begin_place o Read is = refl
begin_place o Write is = refl

-- WHAT A HANDLE HOLDS

pub is_parser : (h : Held) → ((p : OwnedTreeParser) → h ≡ Parser p → ⊥) → parser_in (Some h) ≡ None
is_parser (Page r) none = refl
is_parser (Entities t) none = refl
is_parser (Parser p) none = absurd (none p refl)
is_parser (Buffer v) none = refl
is_parser (Texts g) none = refl
is_parser (Ledger l) none = refl

ok_err : {T E : Type 0} (x : T) (e : E) → ◌≡◌ {A = Result T E} (Ok x) (Err e) → ⊥
ok_err x e is = cc

err_same : {T E : Type 0} (x y : E) → ◌≡◌ {A = Result T E} (Err x) (Err y) → x ≡ y
err_same x y is = cc

some_none : {T : Type 0} (x : T) → ◌≡◌ {A = Option T} (Some x) None → ⊥
some_none x is = cc

pub no_table : (h : Held) → table_in (Some h) ≡ None → rows_in (Some h) ≡ core_rows
no_table (Page r) none = refl
no_table (Entities t) none = absurd (some_none (arc_value t) none)
no_table (Parser p) none = refl
no_table (Buffer v) none = refl
no_table (Texts g) none = refl
no_table (Ledger l) none = refl

-- WHAT A PIECE CAME TO

-- there is no parser
pub unpushed : (h : Option Held) (piece : List ℕ) (place : ℕ) → parser_in h ≡ None → IsPushed h h piece 12 place
unpushed h piece place none = record {
  fed = λ is. absurd (omega (arith, is));
  few = λ is. absurd (omega (arith, is));
  prompt = λ is. absurd (omega (arith, is));
  cause = λ _ start bytes fed. absurd (subst (λ o. IsSomeAnd o (λ p. IsOwnedFed start p.feeder bytes)) none fed);
  refused = λ _. subst (λ o. OnSome o (IsStoppedIn h)) (sym none) tt;
  stopped = ((λ is. absurd (omega (arith, is))), (λ is. absurd (subst (λ o. IsSomeAnd o (λ p. IsOwnedStopped p.feeder)) none is)));
  other = λ _. (refl, refl);
}

-- the piece was taken
pub taken : (p q : OwnedTreeParser) (piece : List ℕ) (place : ℕ) (r : Result (Unit {0}) ParseError) (x : Unit {0}) → r ≡ Ok x
    → OnOk r ((start : Start) (bytes : List ℕ) → IsOwnedFed start p.feeder bytes → IsOwnedFed start q.feeder (bytes ++ piece))
    → OnOk r ((start : Start) (bytes : List ℕ) → IsOwnedFed start p.feeder bytes → length (bytes ++ piece) ≤ 2 ^ 33)
    → OnOk r ((start : Start) (bytes : List ℕ) → IsOwnedFed start p.feeder bytes
    → IsSomeAnd q.feeder.stages (λ s. (tokens : List Token) × AreHandedOn start s.builder (bytes ++ piece) tokens))
    → ((r ≡ Err Stopped) ↔ IsOwnedStopped p.feeder)
    → IsPushed (Some (Parser p)) (Some (Parser q)) piece 0 place
taken p q piece place r x is fed few prompt stopped = record {
  fed = λ _. subst (λ y. OnOk y ((start : Start) (bytes : List ℕ) → IsOwnedFed start p.feeder bytes → IsOwnedFed start q.feeder (bytes ++ piece))) is fed;
  few = λ _. subst (λ y. OnOk y ((start : Start) (bytes : List ℕ) → IsOwnedFed start p.feeder bytes → length (bytes ++ piece) ≤ 2 ^ 33)) is few;
  prompt = λ _. subst (λ y. OnOk y ((start : Start) (bytes : List ℕ) → IsOwnedFed start p.feeder bytes
      → IsSomeAnd q.feeder.stages (λ s. (tokens : List Token) × AreHandedOn start s.builder (bytes ++ piece) tokens))) is prompt;
  cause = λ bad. absurd (bad refl);
  refused = λ bad. absurd (bad refl);
  stopped = ((λ no. absurd (omega (arith, no))), (λ was. absurd (ok_err x Stopped (sym is ∙ stopped.1 was))));
  other = λ none. absurd (some_none p none);
}

-- the piece was refused
pub refused : (p q : OwnedTreeParser) (piece : List ℕ) (status place : ℕ) (r : Result (Unit {0}) ParseError) (e : ParseError) → r ≡ Err e
    → status ≡ status_of e → place ≡ place_of e
    → IfErr r (λ e. (start : Start) (bytes : List ℕ) → IsOwnedFed start p.feeder bytes → IsFeedCause start (bytes ++ piece) e)
    → IfErr r (λ e. (start : Start) (bytes : List ℕ) → IsOwnedFed start p.feeder bytes → IsSomeAnd q.feeder.stages (λ s. IsToldIn start.limits s.builder.page e))
    → OnErr r (IsOwnedStopped q.feeder)
    → ((r ≡ Err Stopped) ↔ IsOwnedStopped p.feeder)
    → IsPushed (Some (Parser p)) (Some (Parser q)) piece status place
refused p q piece status place r e is number at cause told left stopped = record {
  fed = λ ok. absurd (no_cause e (sym number ∙ ok));
  few = λ ok. absurd (no_cause e (sym number ∙ ok));
  prompt = λ ok. absurd (no_cause e (sym number ∙ ok));
  cause = λ _ start bytes fed.
      let why = subst (λ y. IfErr y (λ e. (start : Start) (bytes : List ℕ) → IsOwnedFed start p.feeder bytes → IsFeedCause start (bytes ++ piece) e)) is cause in
      let where' = subst (λ y. IfErr y (λ e. (start : Start) (bytes : List ℕ) → IsOwnedFed start p.feeder bytes
      → IsSomeAnd q.feeder.stages (λ s. IsToldIn start.limits s.builder.page e))) is told in
      inr (e, (why start bytes fed, where' start bytes fed), number, at);
  refused = λ _. subst (λ y. OnErr y (IsOwnedStopped q.feeder)) is left;
  stopped = (
    (λ nine. stopped.0 (is ∙ ap (λ y. Err y) (stopped_cause e (sym number ∙ nine)))),
    (λ was. number ∙ ap status_of (err_same e Stopped (sym is ∙ stopped.1 was))),
  );
  other = λ none. absurd (some_none p none);
}

-- a context by its name
pub named : (name bytes : List ℕ) (in_form quirks : Bool) → name ≡ chars bytes
    → ◌≡◌ {A = Context} (record { name = name; in_form = in_form; quirks = quirks; encoding = None }) (context_in bytes in_form quirks)
named name bytes in_form quirks is =
    subst (λ x. ◌≡◌ {A = Context} (record { name = name; in_form = in_form; quirks = quirks; encoding = None }) (record { name = x; in_form = in_form; quirks = quirks; encoding = None })) is refl

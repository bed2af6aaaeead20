-- What clap's clauses say at this program's line.
use Rattle.std.proofs.Common.{◌≡◌, ◌∙◌, ◌⊎◌, List, [], ◌∷◌, Option, Some, None, Result, Ok, Err, OnOk, true, ap, sym, refl, inl, inr, Bool, false, cond, subst, map, codes}
use Rattle.std.specs.Prelude.{option_map, find, ◌≢◌}
use Rattle.html_job.specs.Read.{IsJobOf, Reads, name_of}
use Rattle.html_job.specs.declared.jobs.Command.{Command}
use Rattle.html_job.specs.declared.jobs.Command.TheVariants.{Tree, Errors, Audit, Normalise, Counts, Suite}
use Rattle.html_job.specs.declared.jobs.Job.{Job}
use Rattle.html_job.specs.Line.{line}
use Rattle.clap.specs.Words.{App, HasKind, HasMatchesOf, IsAmong, Kinds, Row, Text, fault_of, is_simple, is_simple_and_free, kind_of, subcommand_of, subcommand_rows_of}
use Rattle.clap.specs.Words.{IsParsedFrom, Shape, app_of, built, has_subcommand}
use Rattle.clap.specs.Simple.{argument_words, entered, label_of, names_of, rows_at}
use Rattle.clap.specs.Walk.{answers_to, stop_after}
use Rattle.clap.specs.declared.error.Error.{Error}
use Rattle.clap.specs.declared.error.kind.ErrorKind.{ErrorKind}
use Rattle.clap.specs.declared.error.kind.ErrorKind.TheVariants as kind
use Rattle.clap.specs.declared.parser.matches.ArgMatches.{ArgMatches}
use Rattle.clap.specs.declared.builder.command.Command.{Command as Command_}
use Rattle.clap.specs.declared.builder.command.Command.TheViews.{out-Command}
use Rattle.clap.proofs.OnLiterals.{clap_on_literals}

pub line_is_simple : is_simple line ≡ true
unfolding line clap_on_literals
line_is_simple = refl

pub line_is_free : is_simple_and_free line ≡ true
unfolding line clap_on_literals
line_is_free = refl

pub subcommand_matched : (a : App) (words : List Text) (m : ArgMatches) → a ≡ line → HasMatchesOf a words m
    → subcommand_rows_of m ≡ subcommand_of line words
subcommand_matched a words m e h = (h (ap is_simple e ∙ line_is_simple)).1 ∙ ap (λ x. subcommand_of x words) e

pub no_fault : (a : App) (words : List Text) → a ≡ line → (is_simple_and_free a ≡ true → fault_of a words ≡ [])
    → fault_of line words ≡ []
no_fault a words e h = ap (λ x. fault_of x words) (sym e) ∙ h (ap is_simple_and_free e ∙ line_is_free)

not_none : (k : ErrorKind) (kinds : Kinds) → IsAmong k kinds → kinds ≢ []
not_none k [] h = absurd h
not_none k (x ∷ xs) h = λ e. cc

pub some_fault : (a : App) (words : List Text) (e : Error) → a ≡ line → kind_of e ≢ kind.OutOfMemory
    → (is_simple_and_free a ≡ true → HasKind (fault_of a words) e) → fault_of line words ≢ []
some_fault a words e is other h = elim (h (ap is_simple_and_free is ∙ line_is_free)) [
  | inl memory ↦ absurd (other memory)
  | inr among ↦ λ none. not_none (kind_of e) (fault_of a words) among (ap (λ x. fault_of x words) is ∙ none)
]

pub version_asked : (a : App) (words : List Text) (e : Error) → a ≡ line → kind_of e ≡ kind.DisplayVersion
    → (is_simple_and_free a ≡ true → HasKind (fault_of a words) e) → IsAmong kind.DisplayVersion (fault_of line words)
version_asked a words e is version h = elim (h (ap is_simple_and_free is ∙ line_is_free)) [
  | inl memory ↦ absurd (other (sym version ∙ memory))
  | inr among ↦ subst (λ k. IsAmong k (fault_of line words)) version (subst (λ ks. IsAmong (kind_of e) ks) (ap (λ x. fault_of x words) is) among)
]
  where
    other : kind.DisplayVersion ≢ kind.OutOfMemory
    other = λ same. cc

-- a pair from its parts
pub pair_matched : {B : Type 0} (name : B → Text) (rows : B → List Row) (o : Option B) (n : Text) (r : List Row)
    → Some n ≡ option_map name o → Some r ≡ option_map {T = Text × List Row} (λ p. p.1) (option_map (λ b. (name b, rows b)) o)
    → option_map {U = Text × List Row} (λ b. (name b, rows b)) o ≡ Some (n, r)
pair_matched name rows None n r a b = cc
pair_matched name rows (Some x) n r a b = cc

-- the job of the rows that clap found
pub job_found : (j : Job) (words : List Text) (o : Option (Text × List Row)) (n : Text) (rows : List Row) (command : Command)
    → o ≡ subcommand_of line words → o ≡ Some (n, rows) → name_of command ≡ n → j.command ≡ command → Reads j rows
    → IsJobOf j words
job_found j words o n rows command matches pair named is reads =
    (rows, sym matches ∙ pair ∙ ap (λ t. Some (t, rows)) (sym named ∙ sym (ap name_of is)), reads)

pub on_ok : {T E : Type 0} (r : Result T E) (P : Type 0) → P → OnOk r P
on_ok (Ok x) P p = p
on_ok (Err e) P p = tt

pub line_requires : line.top.subcommand_required ≡ true
unfolding line
line_requires = refl

-- a parse that succeeds met a command
pub command_met : (c : Command_) (m : ArgMatches) → app_of c ≡ line → (out-Command c).has_globals ≡ false → IsParsedFrom c m
    → has_subcommand m ≡ true
command_met c m is local p =
    (p.parsed (p.from.globals ∙ local)).checked.subcommand
    (p.from.needs_subcommand ∙ ap (λ (a : App). a.top.subcommand_required) is ∙ line_requires)

abbrev pub IsOneOf : Text → List Text → Type 0
IsOneOf n [] = ⊥
IsOneOf n (x ∷ xs) = (n ≡ x) ⊎ IsOneOf n xs

met_at : (b : Bool) (s : Shape) (rest : List Text) (o : Option Shape) (n : Text) (r : List Row) (names : List Text)
    → option_map (λ (s : Shape). rows_at s rest) (cond b (Some s) o) ≡ Some (n, r)
    → (option_map (λ (s : Shape). rows_at s rest) o ≡ Some (n, r) → IsOneOf n names)
    → (n ≡ s.name) ⊎ IsOneOf n names
met_at true s rest o n r names e later =
    let name = ap (option_map (λ (p : Text × List Row). p.0)) e in let same : n ≡ s.name = cc in inl same
met_at false s rest o n r names e later = inr (later e)

met : (word : Text) (rest : List Text) (subs : List Shape) (n : Text) (r : List Row)
    → option_map (λ (s : Shape). rows_at s rest) (find (λ s. answers_to word (label_of s)) subs) ≡ Some (n, r)
    → IsOneOf n (map (λ (s : Shape). s.name) subs)
met word rest [] n r e = cc
met word rest (s ∷ ss) n r e =
    met_at (answers_to word (label_of s)) s rest (find (λ s. answers_to word (label_of s)) ss) n r
    (map (λ (s : Shape). s.name) ss) e (met word rest ss n r)

entered_named : (a : App) (stop : Option (Text × List Text)) (n : Text) (r : List Row)
    → entered a stop ≡ Some (n, r) → IsOneOf n (map (λ (s : Shape). s.name) a.subs)
entered_named a None n r e = cc
entered_named a (Some p) n r e = met p.0 p.1 a.subs n r e

-- the commands of the line, in its order
abbrev command_names : List Text
command_names = codes "tree" ∷ codes "errors" ∷ codes "audit" ∷ codes "normalise" ∷ codes "counts" ∷ codes "suite" ∷ []

names_built : map (λ (s : Shape). s.name) (built line).subs ≡ command_names
unfolding line
names_built = refl

name_met : (words : List Text) (n : Text) (r : List Row) → subcommand_of line words ≡ Some (n, r) → IsOneOf n command_names
name_met words n r e =
    subst (IsOneOf n) names_built
    (entered_named (built line) (stop_after (built line).top.rules (names_of (built line)) (argument_words line words)) n r e)

-- each name that is met is a command's
pub no_other : (words : List Text) (o : Option (Text × List Row)) (n : Text) (r : List Row) → o ≡ subcommand_of line words → o ≡ Some (n, r)
    → ((c : Command) → name_of c ≡ n → ⊥) → ⊥
no_other words o n r matches pair none = elim (name_met words n r (sym matches ∙ pair)) [
  | inl e ↦ none Tree (sym e)
  | inr h ↦ elim h [
    | inl e ↦ none Errors (sym e)
    | inr h ↦ elim h [
      | inl e ↦ none Audit (sym e)
      | inr h ↦ elim h [
        | inl e ↦ none Normalise (sym e)
        | inr h ↦ elim h [
          | inl e ↦ none Counts (sym e)
          | inr h ↦ elim h [ inl e ↦ none Suite (sym e) | inr h ↦ absurd h ]
        ]
      ]
    ]
  ]
]

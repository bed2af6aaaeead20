-- What a command wrote, from what parsing and writing say.
use Rattle.std.proofs.Common.{◌≡◌, ◌⊎◌, inl, inr, ℕ, Bool, false, List, [], Option, subst, sym}
use Rattle.std.specs.Prelude.{Result, Ok, Err, OnOk, OnErr, IfErr}
use Rattle.std.specs.Str.{encode_utf8_all}
use Rattle.std.specs.Io.KnownBytes.{Appends, Consumes, IsAtEnd}
use Rattle.html_device.specs.Device.{AppendsFront}
use Rattle.html_job.specs.declared.jobs.Command.{Command}
use Rattle.html_job.specs.declared.jobs.Command.TheVariants.{Suite}
use Rattle.html_page.specs.declared.profile.Profile.{Profile}
use Rattle.html_print.specs.Audit.{audit_lines}
use Rattle.html_print.specs.Errors.{located_lines}
use Rattle.html_device.proofs.Puts.{Appends-nil}
use Rattle.html_parser.specs.Parsed.{IsPageOf, IsTreeOf}
use Rattle.html_parser.specs.Start.{Start}
use Rattle.html_parser.specs.declared.error.ParseError.{ParseError}
use Rattle.html_parser.specs.declared.error.ParseError.TheVariants.{Write}
use Rattle.html_parser.specs.declared.page.Page.{Page}
use Rattle.html_parser.specs.declared.page.Tree.{Tree}
use Rattle.html_print.specs.Printed.{IsPrinted}
use Rattle.html_run.specs.Answers.{AreErrors, IsAnswer, IsAudited, IsListed, IsLocated}
use Rattle.html_run.specs.Jobs.{IsShown}
use Rattle.html_print.specs.Outcome.{status_of}

-- nothing was written, or a front for which this holds
abbrev pub NothingOr : (writer new_writer : Option (List ℕ)) → Type 0 → ParseError → Type 0
NothingOr writer new_writer Front e = (new_writer ≡ writer) ⊎ ((e ≡ Write) × Front)

-- THE LINES OF A TREE, AND WHAT IS LISTED OF IT

module _ (start : Start) (tree : Tree) (bytes : List ℕ) (old new : Option (List ℕ)) (consumed : Consumes old new bytes) (at_end : IsAtEnd new) (is_tree : IsTreeOf start bytes tree) where
  shown : (W : List ℕ → Type 0) → IsPrinted tree.arena tree.root (λ text. W (encode_utf8_all text)) → IsShown start W old new
  shown W p = record { bytes = bytes; consumed = consumed; at_end = at_end; tree = tree; is_tree = is_tree; shown = p }

  pub all-shown : (writer new_writer : Option (List ℕ)) (r : Result (Unit {0}) ParseError) → OnOk r (IsPrinted tree.arena tree.root (λ text. Appends writer new_writer (encode_utf8_all text)))
      → OnOk r (IsShown start (Appends writer new_writer) old new)
  all-shown writer new_writer (Ok u) p = shown (Appends writer new_writer) p
  all-shown writer new_writer (Err e) p = tt

  pub front-shown : (writer new_writer : Option (List ℕ)) (r : Result (Unit {0}) ParseError)
      → IfErr r (NothingOr writer new_writer (IsPrinted tree.arena tree.root (λ text. AppendsFront writer new_writer (encode_utf8_all text))))
      → IfErr r (NothingOr writer new_writer (IsShown start (AppendsFront writer new_writer) old new))
  front-shown writer new_writer (Ok u) p = tt
  front-shown writer new_writer (Err e) (inl same) = inl same
  front-shown writer new_writer (Err e) (inr front) = inr (front.0, shown (AppendsFront writer new_writer) front.1)

  module _ (text : Tree → List ℕ) where
    pub listed : (W : List ℕ → Type 0) → W (text tree) → IsListed start text W old new
    listed W p = record { bytes = bytes; consumed = consumed; at_end = at_end; tree = tree; is_tree = is_tree; written = p }

    pub all-listed : (writer new_writer : Option (List ℕ)) (r : Result (Unit {0}) ParseError) → OnOk r (Appends writer new_writer (text tree)) → OnOk r (IsListed start text (Appends writer new_writer) old new)
    all-listed writer new_writer (Ok u) p = listed (Appends writer new_writer) p
    all-listed writer new_writer (Err e) p = tt

    pub front-listed : (writer new_writer : Option (List ℕ)) (r : Result (Unit {0}) ParseError) → OnErr r (AppendsFront writer new_writer (text tree)) → IfErr r (λ e. e ≡ Write)
        → IfErr r (NothingOr writer new_writer (IsListed start text (AppendsFront writer new_writer) old new))
    front-listed writer new_writer (Ok u) p q = tt
    front-listed writer new_writer (Err e) p q = inr (q, listed (AppendsFront writer new_writer) p)

  -- nothing, of a job on files of cases
  pub nothing-answered : (command : Command) → command ≡ Suite → (lines : Bool) (profile : Profile) (writer : Option (List ℕ)) → IsAnswer command lines profile start (Appends writer writer) old new
  nothing-answered command is lines profile writer =
      subst (λ (k : Command). IsAnswer k lines profile start (Appends writer writer) old new) (sym is) (listed (λ (t : Tree). []) (Appends writer writer) (Appends-nil writer))

  located : (W : List ℕ → Type 0) → W (located_lines bytes tree.errors.items) → IsLocated start W old new
  located W p = record { bytes = bytes; consumed = consumed; at_end = at_end; tree = tree; is_tree = is_tree; written = p }

  pub all-located : (writer new_writer : Option (List ℕ)) (r : Result (Unit {0}) ParseError) → OnOk r (Appends writer new_writer (located_lines bytes tree.errors.items))
      → OnOk r (IsLocated start (Appends writer new_writer) old new)
  all-located writer new_writer (Ok u) p = located (Appends writer new_writer) p
  all-located writer new_writer (Err e) p = tt

  pub front-located : (writer new_writer : Option (List ℕ)) (r : Result (Unit {0}) ParseError) → OnErr r (AppendsFront writer new_writer (located_lines bytes tree.errors.items)) → IfErr r (λ e. e ≡ Write)
      → IfErr r (NothingOr writer new_writer (IsLocated start (AppendsFront writer new_writer) old new))
  front-located writer new_writer (Ok u) p q = tt
  front-located writer new_writer (Err e) p q = inr (q, located (AppendsFront writer new_writer) p)

-- TOKENS WITH THEIR FATES

module _ (start : Start) (page : Page) (bytes : List ℕ) (old new : Option (List ℕ)) (consumed : Consumes old new bytes) (at_end : IsAtEnd new) (is_page : IsPageOf start bytes page) where
  audited : (W : List ℕ → Type 0) → W (audit_lines page.tokens page.fates) → IsAudited start W old new
  audited W p = record { bytes = bytes; consumed = consumed; at_end = at_end; page = page; is_page = is_page; written = p }

  pub all-audited : (writer new_writer : Option (List ℕ)) (r : Result (Unit {0}) ParseError) → OnOk r (Appends writer new_writer (audit_lines page.tokens page.fates))
      → OnOk r (IsAudited start (Appends writer new_writer) old new)
  all-audited writer new_writer (Ok u) p = audited (Appends writer new_writer) p
  all-audited writer new_writer (Err e) p = tt

  pub front-audited : (writer new_writer : Option (List ℕ)) (r : Result (Unit {0}) ParseError) → OnErr r (AppendsFront writer new_writer (audit_lines page.tokens page.fates)) → IfErr r (λ e. e ≡ Write)
      → IfErr r (NothingOr writer new_writer (IsAudited start (AppendsFront writer new_writer) old new))
  front-audited writer new_writer (Ok u) p q = tt
  front-audited writer new_writer (Err e) p q = inr (q, audited (AppendsFront writer new_writer) p)

-- WHERE NO LINES ARE ASKED FOR

module _ (lines : Bool) (off : lines ≡ false) (start : Start) (old new writer new_writer : Option (List ℕ)) (r : Result (Unit {0}) ParseError) where
  pub errors-answered : OnOk r (AreErrors false start (Appends writer new_writer) old new) → OnOk r (AreErrors lines start (Appends writer new_writer) old new)
  errors-answered p = subst (λ (k : Bool). OnOk r (AreErrors k start (Appends writer new_writer) old new)) (sym off) p

  pub errors-failed : IfErr r (NothingOr writer new_writer (AreErrors false start (AppendsFront writer new_writer) old new))
      → IfErr r (NothingOr writer new_writer (AreErrors lines start (AppendsFront writer new_writer) old new))
  errors-failed p = subst (λ (k : Bool). IfErr r (NothingOr writer new_writer (AreErrors k start (AppendsFront writer new_writer) old new))) (sym off) p

-- BY THE COMMAND

module _ (command is : Command) (same : command ≡ is) (lines : Bool) (profile : Profile) (start : Start) (old new writer new_writer : Option (List ℕ)) (r : Result (Unit {0}) ParseError) where
  pub answered-by : OnOk r (IsAnswer is lines profile start (Appends writer new_writer) old new) → OnOk r (IsAnswer command lines profile start (Appends writer new_writer) old new)
  answered-by p = subst (λ (k : Command). OnOk r (IsAnswer k lines profile start (Appends writer new_writer) old new)) (sym same) p

  pub failed-by : IfErr r (NothingOr writer new_writer (IsAnswer is lines profile start (AppendsFront writer new_writer) old new))
      → IfErr r (NothingOr writer new_writer (IsAnswer command lines profile start (AppendsFront writer new_writer) old new))
  failed-by p = subst (λ (k : Command). IfErr r (NothingOr writer new_writer (IsAnswer k lines profile start (AppendsFront writer new_writer) old new))) (sym same) p

-- where the status is that of a refusal, nothing was written
pub nothing-written : (writer new_writer : Option (List ℕ)) (Front : Type 0) (e : ParseError) → NothingOr writer new_writer Front e → status_of e ≡ 1 → new_writer ≡ writer
nothing-written writer new_writer Front e (inl same) h = same
nothing-written writer new_writer Front e (inr front) h = absurd (fault-is-told e front.0 h)
  where
    fault-is-told : (f : ParseError) → f ≡ Write → status_of f ≡ 1 → ⊥
    fault-is-told f is k = let j : status_of Write ≡ 1 = subst (λ (x : ParseError). status_of x ≡ 1) is k in cc

-- Claimed.
-- What a job says of the words.
use Rattle.std.specs.Prelude.{◌≢◌, ◌≡◌, ◌⊎◌, ◌<◌, ◌^◌, ℕ, Bool, true, false, List, [], Option, Some, None, map, option_map, unwrap_or, codes}
use Rattle.std.specs.Str.Parse.{IsNumeral, digits_value, without_leading_plus}
use Rattle.clap.specs.Words.{Row, Text, all_of, fault_of, first_of, one_of, subcommand_of}
use Rattle.html_job.specs.Line.{line}
use Rattle.html_job.specs.declared.jobs.Command.{Command}
use Rattle.html_job.specs.declared.jobs.Command.TheVariants.{Tree, Errors, Audit, Normalise, Counts, Suite}
use Rattle.html_job.specs.declared.jobs.Foreign.{Foreign}
use Rattle.html_job.specs.declared.jobs.Foreign.TheVariants.{Refuse, Parse}
use Rattle.html_page.specs.declared.profile.Profile.{Profile}
use Rattle.html_page.specs.declared.profile.Profile.TheVariants.{One, Two}
use Rattle.html_job.specs.declared.jobs.Job.{Job}
use Rattle.html_job.specs.declared.jobs.JobFault.{JobFault}
use Rattle.html_job.specs.declared.jobs.JobFault.TheVariants.{Words, Version, OutOfMemory}

-- the word of a command
abbrev pub name_of : Command → Text
name_of Tree = codes "tree"
name_of Errors = codes "errors"
name_of Audit = codes "audit"
name_of Normalise = codes "normalise"
name_of Counts = codes "counts"
name_of Suite = codes "suite"

-- the word of a profile
abbrev pub profile_text : Profile → Text
profile_text One = codes "1"
profile_text Two = codes "2"

-- the word of what is done with foreign content
abbrev pub foreign_text : Foreign → Text
foreign_text Refuse = codes "refuse"
foreign_text Parse = codes "parse"

-- a text that is a number of 64 bits
abbrev pub IsNumeralText : Text → Type 0
IsNumeralText t = IsNumeral 10 (without_leading_plus t) × (digits_value 10 (without_leading_plus t) < 2 ^ 64)

-- the number of a text, or none of none
abbrev pub IsNumber : Option ℕ → Option Text → Type 0
IsNumber None None = Unit {0}
IsNumber (Some n) None = ⊥
IsNumber None (Some t) = ⊥
IsNumber (Some n) (Some t) = IsNumeralText t × (n ≡ digits_value 10 (without_leading_plus t))

-- a flag that stands there, or does not
abbrev pub IsFlag : Bool → Option Text → Type 0
IsFlag b None = b ≡ false
IsFlag b (Some t) = (t ≡ codes "true" → b ≡ true) × (t ≡ codes "false" → b ≡ false)

-- the job has what stands in the rows of its command
pub record Reads (job : Job) (rows : List Row) : Type 0 where
  pub entities : option_map (λ s. s.now) job.entities ≡ first_of (codes "entities") rows
  pub fragment : option_map (λ s. s.now) job.fragment ≡ first_of (codes "fragment") rows
  pub context_encoding : option_map (λ s. s.now) job.context_encoding ≡ first_of (codes "context-encoding") rows
  pub foreign : foreign_text job.foreign ≡ unwrap_or (first_of (codes "foreign") rows) (codes "refuse")
  pub max_nodes : IsNumber job.max_nodes (first_of (codes "max-nodes") rows)
  pub max_held : IsNumber job.max_held (first_of (codes "max-held") rows)
  pub max_input : IsNumber job.max_input (first_of (codes "max-input") rows)
  pub max_steps : IsNumber job.max_steps (first_of (codes "max-steps") rows)
  pub profile : profile_text job.profile ≡ unwrap_or (first_of (codes "profile") rows) (codes "1")
  pub lines : IsFlag job.lines (one_of (codes "lines") rows)
  pub verbose : IsFlag job.verbose (one_of (codes "verbose") rows)
  pub inputs : map (λ s. s.now) job.inputs.items ≡ unwrap_or (all_of (codes "INPUT") rows) []
  pub files : map (λ s. s.now) job.files.items ≡ unwrap_or (all_of (codes "FILE") rows) []

-- the job is that of the words: clap's matches have its command, with these rows
abbrev pub IsJobOf : Job → List Text → Type 0
IsJobOf job words = (rows : List Row) × (subcommand_of line words ≡ Some (name_of job.command, rows))
    × Reads job rows

-- the words are wrong, or ask for help, or for the version
abbrev pub IsWords : JobFault → Type 0
IsWords (Words text) = Unit {0}
IsWords (Version text) = Unit {0}
IsWords OutOfMemory = ⊥

-- they ask for the version
abbrev pub IsVersion : JobFault → Type 0
IsVersion (Words text) = ⊥
IsVersion (Version text) = Unit {0}
IsVersion OutOfMemory = ⊥

-- a text that names no profile
abbrev pub IsBadProfile : Option Text → Type 0
IsBadProfile None = ⊥
IsBadProfile (Some t) = (t ≢ codes "1") × (t ≢ codes "2")

-- a text that names nothing that is done with foreign content
abbrev pub IsBadForeign : Option Text → Type 0
IsBadForeign None = ⊥
IsBadForeign (Some t) = (t ≢ codes "refuse") × (t ≢ codes "parse")

-- a text that is no number
abbrev pub IsBadNumber : Option Text → Type 0
IsBadNumber None = ⊥
IsBadNumber (Some t) = IsNumeralText t → ⊥

-- the rows have a profile that is none, a word that is none of those for foreign content, or a limit that is no number
abbrev pub HasBadValue : List Row → Type 0
HasBadValue rows = IsBadProfile (first_of (codes "profile") rows)
    ⊎ (IsBadForeign (first_of (codes "foreign") rows)
    ⊎ (IsBadNumber (first_of (codes "max-nodes") rows)
    ⊎ (IsBadNumber (first_of (codes "max-held") rows)
    ⊎ (IsBadNumber (first_of (codes "max-input") rows) ⊎ IsBadNumber (first_of (codes "max-steps") rows)))))

-- clap refuses the words, or takes them with such a value
abbrev pub IsRefused : List Text → Type 0
IsRefused words = (fault_of line words ≢ [])
    ⊎ ((name : Text) × (rows : List Row) × (subcommand_of line words ≡ Some (name, rows)) × HasBadValue rows)

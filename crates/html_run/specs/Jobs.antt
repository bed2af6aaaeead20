-- Claimed.
-- What a job asks of the parser.
use Rattle.std.specs.Prelude.{◌-◌, ◌^◌, ℕ, false, List, Option, Some, None, codes, option_map, unwrap_or}
use Rattle.std.specs.Io.KnownBytes.{Consumes, IsAtEnd}
use Rattle.std.specs.Str.{chars, encode_utf8_all}
use Rattle.html_charref.specs.declared.table.Row.{Row}
use Rattle.html_arena.specs.declared.arena.Limits.{Limits}
use Rattle.html_job.specs.declared.jobs.Job.{Job}
use Rattle.html_parser.specs.Parsed.{IsTreeOf}
use Rattle.html_builder.specs.declared.context.Context.{Context}
use Rattle.html_job.specs.declared.jobs.Foreign.{Foreign as Asked}
use Rattle.html_job.specs.declared.jobs.Foreign.TheVariants as asked
use Rattle.html_parser.specs.Options.{start_of}
use Rattle.html_parser.specs.Start.{Start}
use Rattle.html_parser.specs.declared.options.Foreign.{Foreign}
use Rattle.html_parser.specs.declared.options.Foreign.TheVariants.{Refuse, Parse}
use Rattle.html_parser.specs.declared.options.Options.{Options}
use Rattle.html_parser.specs.declared.page.Tree.{Tree}
use Rattle.html_print.specs.Printed.{IsPrinted}

-- the limit, or the greatest number of 64 bits where there is none
abbrev pub limit_or_most : Option ℕ → ℕ
limit_or_most limit = unwrap_or limit (2 ^ 64 - 1)

abbrev pub limits_for : Job → Limits
limits_for job =
    record {
      nodes = limit_or_most job.max_nodes;
      held = limit_or_most job.max_held;
      code_points = limit_or_most job.max_input;
      steps = limit_or_most job.max_steps;
    }

-- the context of a name, in no form and in no quirks mode, whose attribute encoding has this value, if it has that attribute
abbrev pub context_of : Option (List ℕ) → Option (List ℕ) → Option Context
context_of None encoding = None
context_of (Some name) encoding = Some (record { name = chars name; in_form = false; quirks = false; encoding = encoding })

-- the value of that attribute
abbrev pub encoding_for : Job → Option (List ℕ)
encoding_for job = option_map (λ s. chars s.now) job.context_encoding

abbrev pub context_for : Job → Option Context
context_for job = context_of (option_map (λ s. s.now) job.fragment) (encoding_for job)

-- what is done with foreign content
abbrev pub foreign_for : Asked → Foreign
foreign_for asked.Refuse = Refuse
foreign_for asked.Parse = Parse

-- a document, or a fragment in the context that the job names, within its limits
abbrev pub options_for : Job → Options
options_for job = record { limits = Some (limits_for job); foreign = foreign_for job.foreign; context = context_for job }

abbrev pub start_for : Job → List Row → Start
start_for job rows = start_of rows (options_for job)

-- A reader was read from `old` to its end, a tree of all of it was had, and this holds of the bytes of that tree's lines.
pub record IsShown (start : Start) (Written : List ℕ → Type 0) (old new : Option (List ℕ)) : Type 0 where
  pub bytes : List ℕ
  pub consumed : Consumes old new bytes
  pub at_end : IsAtEnd new
  pub tree : Tree
  pub is_tree : IsTreeOf start bytes tree
  pub shown : IsPrinted tree.arena tree.root (λ text. Written (encode_utf8_all text))

-- A reader was read from `old` to its end, and a tree of all of it was had.
pub record IsRead (start : Start) (old new : Option (List ℕ)) : Type 0 where
  pub bytes : List ℕ
  pub consumed : Consumes old new bytes
  pub at_end : IsAtEnd new
  pub tree : Tree
  pub is_tree : IsTreeOf start bytes tree

-- Claimed.
-- What the program tells where there is no page.
use Rattle.std.specs.Prelude.{ℕ, ◌++◌, List, codes, decimal}
use Rattle.std.specs.Str.{encode_utf8_all}
use Rattle.html_charref.specs.declared.read.EntityError.{EntityError}
use Rattle.html_charref.specs.declared.read.EntityError.TheVariants as entity
use Rattle.html_modes.specs.declared.outcome.Foreign.{Foreign}
use Rattle.html_modes.specs.declared.outcome.Foreign.TheVariants.{Svg, Math}
use Rattle.html_parser.specs.declared.error.ParseError.{ParseError}
use Rattle.html_parser.specs.declared.error.ParseError.TheVariants.{OutOfMemory, InputTooLong, ForeignContent, BadContext, Read, Write, Stopped, NodeBudget, HeldBudget, StepBudget}

abbrev pub foreign_text : Foreign → List ℕ
foreign_text Svg = codes "svg"
foreign_text Math = codes "math"

-- the program's status: 3 where a file or a stream failed, 1 for a refusal
abbrev pub status_of : ParseError → ℕ
status_of Read = 3
status_of Write = 3
status_of _ = 1

-- the line of foreign content at a place
abbrev pub foreign_line : Foreign → ℕ → List ℕ
foreign_line name at = codes "refused: foreign " ++ (foreign_text name ++ (codes " at " ++ (decimal at ++ codes "\n")))

-- the line of a budget that would be passed at a place
abbrev pub budget_line : List ℕ → ℕ → List ℕ
budget_line budget at = codes "refused: " ++ (budget ++ (codes " budget at " ++ (decimal at ++ codes "\n")))

-- the line that tells why there is no page, with its end; `input` is the name of the file
abbrev pub line_of : ParseError → List ℕ → List ℕ
line_of OutOfMemory input = codes "refused: out of memory\n"
line_of InputTooLong input = codes "refused: input too long\n"
line_of (ForeignContent name at) input = foreign_line name at
line_of BadContext input = codes "refused: bad context\n"
line_of Read input = codes "fault: cannot read " ++ (input ++ codes "\n")
line_of Write input = codes "fault: cannot write\n"
line_of Stopped input = codes "refused: stopped\n"
line_of (NodeBudget at) input = budget_line (codes "node") at
line_of (HeldBudget at) input = budget_line (codes "held") at
line_of (StepBudget at) input = budget_line (codes "step") at

-- the line of a key that breaks a rule
abbrev pub key_line : List ℕ → List ℕ → List ℕ
key_line rule key = codes "refused: entities: " ++ (rule ++ (codes " " ++ (key ++ codes "\n")))

-- the line that tells why there is no table of character references, with its end; the key is written in UTF-8
abbrev pub table_line_of : EntityError → List ℕ
table_line_of entity.Json = codes "refused: entities: json\n"
table_line_of (entity.Shape key) = key_line (codes "shape") (encode_utf8_all key)
table_line_of (entity.Name key) = key_line (codes "name") (encode_utf8_all key)
table_line_of (entity.Text key) = key_line (codes "text") (encode_utf8_all key)
table_line_of entity.OutOfMemory = codes "refused: out of memory\n"

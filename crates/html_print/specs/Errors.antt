-- Claimed.
-- The lines of the parse errors of a page.
use Rattle.std.specs.Prelude.{ℕ, List, ◌+◌, ◌++◌, codes, decimal, length, take}
use Rattle.std.specs.List.{flat_map}
use Rattle.html_input.specs.Decode.{decode}
use Rattle.html_input.specs.Lines.{last_line, line_feeds}
use Rattle.html_parser.specs.declared.faults.PageFault.{PageFault}
use Rattle.html_print.specs.FaultNames.{page_fault_text}

-- the place and the name
abbrev pub error_line : PageFault → List ℕ
error_line e = decimal e.place ++ (codes " " ++ (page_fault_text e.name ++ codes "\n"))

-- a line each, in their order
abbrev pub error_lines : List PageFault → List ℕ
error_lines errors = flat_map error_line errors

-- line and column, from 1, and the name
abbrev pub line_at : ℕ → ℕ → PageFault → List ℕ
line_at line column e = decimal line ++ (codes ":" ++ (decimal column ++ (codes ": " ++ (page_fault_text e.name ++ codes "\n"))))

-- the line of a place in the input with these bytes: how many line feeds its text has before it; its column: how many code points stand between the last of
-- these and it
abbrev pub located_line : List ℕ → PageFault → List ℕ
located_line bytes e = line_at (line_feeds (take e.place (decode bytes)) + 1) (length (last_line (take e.place (decode bytes))) + 1) e

-- a line each, in their order
abbrev pub located_lines : List ℕ → List PageFault → List ℕ
located_lines bytes errors = flat_map (located_line bytes) errors

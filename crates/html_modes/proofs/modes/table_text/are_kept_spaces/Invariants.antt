use Rattle.std.proofs.Common.{◌≡◌, drop}
use Rattle.std.specs.List.{list_all}
use Rattle.html_construction.specs.Words.{is_null_or_space}
use Rattle.html_modes.proofs.modes.table_text.are_kept_spaces.Given as goal

abbrev pub invariant-loop-c : goal.invariant-loop-c
invariant-loop-c l = list_all is_null_or_space l.kept ≡ list_all is_null_or_space (drop l.c-index l.kept)

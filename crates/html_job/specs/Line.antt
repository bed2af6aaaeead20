-- Claimed.
-- The command line, as clap sees it.
use Rattle.std.specs.Prelude.{Some, codes, true}
use Rattle.clap.specs.Words.{App, Rule, Text, new_app, new_rule, with_rule, with_subcommand}
use Rattle.clap.specs.declared.builder.action.ArgAction.TheVariants.{Append, SetTrue}

-- `--NAME VALUE`
abbrev pub option_rule : Text → Rule
option_rule name = record (new_rule name) { long = Some name; value_names = 1 }

-- `--NAME`
abbrev pub flag_rule : Text → Rule
flag_rule name = record (new_rule name) { long = Some name; action = Some SetTrue }

-- `INPUT...`, any number
abbrev pub inputs_rule : Rule
inputs_rule = record (new_rule (codes "INPUT")) { action = Some Append }

-- `FILE...`, one or more
abbrev pub files_rule : Rule
files_rule = record (new_rule (codes "FILE")) { action = Some Append; required = true }

-- a command on pages
abbrev pub page_app : Text → App
page_app name =
    with_rule (with_rule (with_rule (with_rule (with_rule (with_rule (with_rule (with_rule (with_rule (new_app name) (option_rule (codes "entities"))) (option_rule (codes "fragment")))
    (option_rule (codes "context-encoding"))) (option_rule (codes "foreign"))) (option_rule (codes "max-nodes"))) (option_rule (codes "max-held"))) (option_rule (codes "max-input"))) (option_rule (codes "max-steps"))) inputs_rule

-- the command that prints the parse errors of a page
abbrev pub errors_app : App
errors_app = with_rule (page_app (codes "errors")) (flag_rule (codes "lines"))

-- the command that writes a page as HTML
abbrev pub normalise_app : App
normalise_app = with_rule (page_app (codes "normalise")) (option_rule (codes "profile"))

-- the command on files of test cases
abbrev pub suite_app : App
suite_app =
    with_rule (with_rule (with_rule (with_rule (new_app (codes "suite")) (option_rule (codes "entities"))) (option_rule (codes "foreign"))) (flag_rule (codes "verbose"))) files_rule

-- the program, with no command: one is wanted, and `help` is none
abbrev pub empty_line : App
empty_line = record (new_app (codes "html_cmd")) {
  top = record (new_app (codes "html_cmd")).top {
    has_version = true;
    subcommand_required = true;
    disable_help_subcommand = true;
  };
}

-- the whole line
unfoldable pub line : App
line =
    with_subcommand (with_subcommand (with_subcommand (with_subcommand (with_subcommand (with_subcommand empty_line
    (page_app (codes "tree")).top) errors_app.top) (page_app (codes "audit")).top) normalise_app.top)
    (page_app (codes "counts")).top) suite_app.top

-- Claimed, but for this crate's own functions: FollowsPart.
-- The rules of the insertion modes (13.2.6.4), each of which has its table in a file of its own.
use Rattle.html_tokens.specs.declared.token.TokenKind.{TokenKind}
use Rattle.html_ledger.specs.declared.symbol.Symbol.{Symbol}
use Rattle.html_construction.specs.declared.mode.Mode.{Mode}
use Rattle.html_construction.specs.declared.mode.Mode.TheVariants as mode
use Rattle.html_construction.specs.Plans.{Ending, Plan, Runs}
use Rattle.html_construction.specs.States.{State}
use Rattle.html_modes.specs.RuleForms.{ending}
use Rattle.html_modes.specs.RulesAfterAfterBody.{after_after_body}
use Rattle.html_modes.specs.RulesAfterAfterFrameset.{after_after_frameset}
use Rattle.html_modes.specs.RulesAfterBody.{after_body}
use Rattle.html_modes.specs.RulesAfterFrameset.{after_frameset}
use Rattle.html_modes.specs.RulesAfterHead.{after_head}
use Rattle.html_modes.specs.RulesBeforeHead.{before_head}
use Rattle.html_modes.specs.RulesBeforeHtml.{before_html}
use Rattle.html_modes.specs.RulesInBody.{in_body}
use Rattle.html_modes.specs.RulesInCaption.{in_caption}
use Rattle.html_modes.specs.RulesInCell.{in_cell}
use Rattle.html_modes.specs.RulesInColumnGroup.{in_column_group}
use Rattle.html_modes.specs.RulesInFrameset.{in_frameset}
use Rattle.html_modes.specs.RulesInHead.{in_head}
use Rattle.html_modes.specs.RulesInHeadNoscript.{in_head_noscript}
use Rattle.html_modes.specs.RulesInRow.{in_row}
use Rattle.html_modes.specs.RulesInSelect.{in_select}
use Rattle.html_modes.specs.RulesInSelectInTable.{in_select_in_table}
use Rattle.html_modes.specs.RulesInTable.{in_table}
use Rattle.html_modes.specs.RulesInTableBody.{in_table_body}
use Rattle.html_modes.specs.RulesInTableText.{in_table_text}
use Rattle.html_modes.specs.RulesInTemplate.{in_template}
use Rattle.html_modes.specs.RulesInitial.{initial}
use Rattle.html_modes.specs.RulesText.{text}
use Rattle.html_modes.specs.declared.outcome.Outcome.{Outcome}

unfoldable pub plan : Mode → Symbol → Plan
plan mode.Initial y = initial y
plan mode.BeforeHtml y = before_html y
plan mode.BeforeHead y = before_head y
plan mode.InHead y = in_head y
plan mode.InHeadNoscript y = in_head_noscript y
plan mode.AfterHead y = after_head y
plan mode.InBody y = in_body y
plan mode.Text y = text y
plan mode.InTable y = in_table y
plan mode.InTableText y = in_table_text y
plan mode.InCaption y = in_caption y
plan mode.InColumnGroup y = in_column_group y
plan mode.InTableBody y = in_table_body y
plan mode.InRow y = in_row y
plan mode.InCell y = in_cell y
plan mode.InSelect y = in_select y
plan mode.InSelectInTable y = in_select_in_table y
plan mode.InTemplate y = in_template y
plan mode.AfterBody y = after_body y
plan mode.InFrameset y = in_frameset y
plan mode.AfterFrameset y = after_frameset y
plan mode.AfterAfterBody y = after_after_body y
plan mode.AfterAfterFrameset y = after_after_frameset y

-- This plan was followed for the token, and the entry ended so.
abbrev pub Follows : Plan → TokenKind → Outcome → State → State → Type 0
Follows p t o a z = Runs plan p t a (ending o) z

-- A part of a plan was followed: where a plan goes on so, it does so from the later state.
abbrev pub FollowsPart : (Plan → Plan) → TokenKind → State → State → Type 0
FollowsPart f t a b = (p : Plan) (e : Ending) (z : State) → Runs plan p t b e z → Runs plan (f p) t a e z

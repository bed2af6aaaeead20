-- Claimed, but for this crate's own functions: by_symbol, table_rank, table_text_rank, table_body_rank, row_rank, caption_rank, column_group_rank, after_body_rank, rank.
-- How often a token may still be reprocessed in a mode, by the token (13.2.6): the weights of the open elements and this together fall each time.
use Rattle.std.specs.Prelude.{ℕ, ◌+◌, if◌then◌else◌}
use Rattle.html_names.specs.declared.tag.Tag.{Tag}
use Rattle.html_names.specs.declared.tag.Tag.TheVariants as tag
use Rattle.html_names.specs.Sets.{is_cell}
use Rattle.html_names.specs.Tags.{is_same}
use Rattle.html_ledger.specs.declared.symbol.Symbol.{Symbol}
use Rattle.html_ledger.specs.declared.symbol.Symbol.TheVariants.{Start, End, Char}
use Rattle.html_construction.specs.declared.mode.Mode.{Mode}
use Rattle.html_construction.specs.declared.mode.Mode.TheVariants.{Initial, BeforeHtml, BeforeHead, InHead, InHeadNoscript, AfterHead, InBody, Text, InTable, InTableText, InCaption, InColumnGroup, InTableBody, InRow, InCell, InSelect, InSelectInTable, InTemplate, AfterBody, InFrameset, AfterFrameset, AfterAfterBody, AfterAfterFrameset}

-- by the token: start tags by their names, code points, all else
abbrev pub by_symbol : (Tag → ℕ) → ℕ → ℕ → Symbol → ℕ
by_symbol start char other (Start t) = start t
by_symbol start char other (Char c) = char
by_symbol start char other _ = other

abbrev pub table_rank : Tag → ℕ
table_rank t = if is_cell t then 10 else (if is_same t tag.Tr then 5 else (if is_same t tag.Col then 5 else (if is_same t tag.Table then 5 else 0)))

abbrev pub table_text_rank : Tag → ℕ
table_text_rank t = table_rank t + 1

abbrev pub table_body_rank : Tag → ℕ
table_body_rank t = if is_cell t then 5 else (if is_same t tag.Col then 2 else (if is_same t tag.Table then 5 else 0))

abbrev pub row_rank : Tag → ℕ
row_rank t = if is_same t tag.Table then 5 else 0

abbrev pub caption_rank : Tag → ℕ
caption_rank t = if is_cell t then 7 else (if is_same t tag.Tr then 2 else (if is_same t tag.Col then 2 else 0))

abbrev pub column_group_rank : Tag → ℕ
column_group_rank t = if is_cell t then 7 else (if is_same t tag.Col then 0 else 2)

abbrev pub after_body_rank : Symbol → ℕ
after_body_rank (End t) = if is_same t tag.Html then 0 else 2
after_body_rank _ = 2

-- the rank of a mode, with the token in hand
abbrev pub rank : Mode → Symbol → ℕ
rank Initial s = 14
rank BeforeHtml s = 13
rank BeforeHead s = 8
rank InHead s = 3
rank InHeadNoscript s = 2
rank AfterHead s = 6
rank InBody s = 1
rank Text s = 11
rank InTable s = by_symbol table_rank 1 0 s
rank InTableText s = by_symbol table_text_rank 0 1 s
rank InCaption s = by_symbol caption_rank 0 0 s
rank InColumnGroup s = by_symbol column_group_rank 2 2 s
rank InTableBody s = by_symbol table_body_rank 1 0 s
rank InRow s = by_symbol row_rank 1 0 s
rank InCell s = 0
rank InSelect s = 7
rank InSelectInTable s = 7
rank InTemplate s = 2
rank AfterBody s = after_body_rank s
rank InFrameset s = 2
rank AfterFrameset s = 2
rank AfterAfterBody s = 2
rank AfterAfterFrameset s = 2

-- the greatest rank of a mode
abbrev pub top_rank : Mode → ℕ
top_rank Initial = 14
top_rank BeforeHtml = 13
top_rank BeforeHead = 8
top_rank InHead = 3
top_rank InHeadNoscript = 2
top_rank AfterHead = 6
top_rank InBody = 1
top_rank Text = 11
top_rank InTable = 10
top_rank InTableText = 11
top_rank InCaption = 7
top_rank InColumnGroup = 7
top_rank InTableBody = 5
top_rank InRow = 5
top_rank InCell = 0
top_rank InSelect = 7
top_rank InSelectInTable = 7
top_rank InTemplate = 2
top_rank AfterBody = 2
top_rank InFrameset = 2
top_rank AfterFrameset = 2
top_rank AfterAfterBody = 2
top_rank AfterAfterFrameset = 2

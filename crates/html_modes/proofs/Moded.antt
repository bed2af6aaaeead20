-- What modes and tags settle.
use Rattle.std.proofs.Common.{ℕ, ◌≡◌, ◌<◌, ◌≤◌, true, false, List, [], length, refl, sym, arith}
use Rattle.std.proofs.lemmas.Bool.{false≢true}
use Rattle.html_names.specs.declared.tag.Tag.{Tag}
use Rattle.html_names.specs.declared.tag.Tag.TheVariants as tag
use Rattle.html_ledger.specs.declared.symbol.Symbol.{Symbol}
use Rattle.html_ledger.specs.declared.symbol.Symbol.TheVariants.{Start, End, Char, Comment, Doctype, Eof}
use Rattle.html_construction.specs.declared.mode.Mode.{Mode}
use Rattle.html_construction.specs.declared.mode.Mode.TheVariants as mode
use Rattle.html_construction.specs.Modes.{is_reset}
use Rattle.html_modes.specs.Fitting.{is_loose, is_table_mode, ModeFits, Quiet}
use Rattle.html_modes.specs.Guards.{is_table_text, is_text, takes_runs}
use Rattle.html_modes.specs.Steps.{is_code_point}
use Rattle.html_modes.specs.Ranks.{rank, top_rank, by_symbol, table_rank, table_text_rank, table_body_rank, row_rank, caption_rank, column_group_rank, after_body_rank}

-- what the kinds of modes settle
pub ModeFits-loose : (m o : Mode) (s : List Tag) → is_loose m ≡ true → 0 < length s → ModeFits m o s
ModeFits-loose mode.Initial o s e h = absurd (false≢true e)
ModeFits-loose mode.BeforeHtml o s e h = absurd (false≢true e)
ModeFits-loose mode.Text o s e h = absurd (false≢true e)
ModeFits-loose mode.InTableText o s e h = absurd (false≢true e)
ModeFits-loose _ o s e h = h

pub opened-loose : (m o : Mode) (s : List Tag) → is_loose m ≡ true → ModeFits m o s → 0 < length s
opened-loose mode.Initial o s e f = absurd (false≢true e)
opened-loose mode.BeforeHtml o s e f = absurd (false≢true e)
opened-loose mode.Text o s e f = absurd (false≢true e)
opened-loose mode.InTableText o s e f = absurd (false≢true e)
opened-loose _ o s e f = f

pub Quiet-none : (m : Mode) (k : List ℕ) → k ≡ [] → Quiet m k
Quiet-none mode.InTableText k e = tt
Quiet-none _ k e = e

pub other-runs : (m : Mode) → takes_runs m ≡ true → is_table_text m ≡ false
other-runs mode.InBody e = refl
other-runs mode.Text e = refl
other-runs mode.InCaption e = refl
other-runs mode.InCell e = refl
other-runs _ e = absurd (false≢true e)

pub loose-runs : (m : Mode) → takes_runs m ≡ true → is_text m ≡ false → is_loose m ≡ true
loose-runs mode.InBody e n = refl
loose-runs mode.Text e n = absurd (false≢true (sym n))
loose-runs mode.InCaption e n = refl
loose-runs mode.InCell e n = refl
loose-runs _ e n = absurd (false≢true e)

pub is-text : (m : Mode) → is_text m ≡ true → m ≡ mode.Text
is-text mode.Text e = refl
is-text _ e = absurd (false≢true e)

pub other-text : (m : Mode) → is_text m ≡ true → is_table_text m ≡ false
other-text mode.Text e = refl
other-text _ e = absurd (false≢true e)

pub top_rank-all : (m : Mode) → top_rank m ≤ 14
top_rank-all mode.Initial = omega arith
top_rank-all mode.BeforeHtml = omega arith
top_rank-all mode.BeforeHead = omega arith
top_rank-all mode.InHead = omega arith
top_rank-all mode.InHeadNoscript = omega arith
top_rank-all mode.AfterHead = omega arith
top_rank-all mode.InBody = omega arith
top_rank-all mode.Text = omega arith
top_rank-all mode.InTable = omega arith
top_rank-all mode.InTableText = omega arith
top_rank-all mode.InCaption = omega arith
top_rank-all mode.InColumnGroup = omega arith
top_rank-all mode.InTableBody = omega arith
top_rank-all mode.InRow = omega arith
top_rank-all mode.InCell = omega arith
top_rank-all mode.InSelect = omega arith
top_rank-all mode.InSelectInTable = omega arith
top_rank-all mode.InTemplate = omega arith
top_rank-all mode.AfterBody = omega arith
top_rank-all mode.InFrameset = omega arith
top_rank-all mode.AfterFrameset = omega arith
top_rank-all mode.AfterAfterBody = omega arith
top_rank-all mode.AfterAfterFrameset = omega arith

pub Quiet-other : (m : Mode) (k : List ℕ) → is_table_text m ≡ false → Quiet m k → k ≡ []
Quiet-other mode.InTableText k e q = absurd (false≢true (sym e))
Quiet-other _ k e q = q

pub is-table_text : (m : Mode) → is_table_text m ≡ true → m ≡ mode.InTableText
is-table_text mode.InTableText e = refl
is-table_text _ e = absurd (false≢true e)

pub other-loose : (m : Mode) → is_loose m ≡ true → is_table_text m ≡ false
other-loose mode.Initial e = absurd (false≢true e)
other-loose mode.BeforeHtml e = absurd (false≢true e)
other-loose mode.Text e = absurd (false≢true e)
other-loose mode.InTableText e = absurd (false≢true e)
other-loose _ e = refl

pub top_rank-loose : (m : Mode) → is_loose m ≡ true → top_rank m ≤ 10
top_rank-loose mode.Initial e = absurd (false≢true e)
top_rank-loose mode.BeforeHtml e = absurd (false≢true e)
top_rank-loose mode.Text e = absurd (false≢true e)
top_rank-loose mode.InTableText e = absurd (false≢true e)
top_rank-loose _ e = omega arith

pub top_rank-reset : (m : Mode) → is_reset m ≡ true → top_rank m ≤ 10
top_rank-reset mode.Initial e = absurd (false≢true e)
top_rank-reset mode.BeforeHtml e = absurd (false≢true e)
top_rank-reset mode.InHeadNoscript e = absurd (false≢true e)
top_rank-reset mode.Text e = absurd (false≢true e)
top_rank-reset mode.InTableText e = absurd (false≢true e)
top_rank-reset mode.AfterBody e = absurd (false≢true e)
top_rank-reset mode.AfterFrameset e = absurd (false≢true e)
top_rank-reset mode.AfterAfterBody e = absurd (false≢true e)
top_rank-reset mode.AfterAfterFrameset e = absurd (false≢true e)
top_rank-reset _ e = omega arith

pub loose-reset : (m : Mode) → is_reset m ≡ true → is_loose m ≡ true
loose-reset mode.Initial e = absurd (false≢true e)
loose-reset mode.BeforeHtml e = absurd (false≢true e)
loose-reset mode.InHeadNoscript e = absurd (false≢true e)
loose-reset mode.Text e = absurd (false≢true e)
loose-reset mode.InTableText e = absurd (false≢true e)
loose-reset mode.AfterBody e = absurd (false≢true e)
loose-reset mode.AfterFrameset e = absurd (false≢true e)
loose-reset mode.AfterAfterBody e = absurd (false≢true e)
loose-reset mode.AfterAfterFrameset e = absurd (false≢true e)
loose-reset _ e = refl

pub loose-table : (m : Mode) → is_table_mode m ≡ true → is_loose m ≡ true
loose-table mode.InTable e = refl
loose-table mode.InTableBody e = refl
loose-table mode.InRow e = refl
loose-table _ e = absurd (false≢true e)

pub rank-reset_table : (m : Mode) → is_reset m ≡ true → rank m (Start tag.Table) ≤ 8
rank-reset_table mode.Initial e = absurd (false≢true e)
rank-reset_table mode.BeforeHtml e = absurd (false≢true e)
rank-reset_table mode.InHeadNoscript e = absurd (false≢true e)
rank-reset_table mode.Text e = absurd (false≢true e)
rank-reset_table mode.InTableText e = absurd (false≢true e)
rank-reset_table mode.AfterBody e = absurd (false≢true e)
rank-reset_table mode.AfterFrameset e = absurd (false≢true e)
rank-reset_table mode.AfterAfterBody e = absurd (false≢true e)
rank-reset_table mode.AfterAfterFrameset e = absurd (false≢true e)
rank-reset_table _ e = omega arith

pub rank-reset_eof : (m : Mode) → is_reset m ≡ true → rank m Eof ≤ 8
rank-reset_eof mode.Initial e = absurd (false≢true e)
rank-reset_eof mode.BeforeHtml e = absurd (false≢true e)
rank-reset_eof mode.InHeadNoscript e = absurd (false≢true e)
rank-reset_eof mode.Text e = absurd (false≢true e)
rank-reset_eof mode.InTableText e = absurd (false≢true e)
rank-reset_eof mode.AfterBody e = absurd (false≢true e)
rank-reset_eof mode.AfterFrameset e = absurd (false≢true e)
rank-reset_eof mode.AfterAfterBody e = absurd (false≢true e)
rank-reset_eof mode.AfterAfterFrameset e = absurd (false≢true e)
rank-reset_eof _ e = omega arith

pub rank-char_table : (m : Mode) (c : ℕ) → is_table_mode m ≡ true → rank m (Char c) ≡ 1
rank-char_table mode.InTable c e = refl
rank-char_table mode.InTableBody c e = refl
rank-char_table mode.InRow c e = refl
rank-char_table _ c e = absurd (false≢true e)

pub rank-start_table : (m : Mode) → is_table_mode m ≡ true → rank m (Start tag.Table) ≡ 5
rank-start_table mode.InTable e = refl
rank-start_table mode.InTableBody e = refl
rank-start_table mode.InRow e = refl
rank-start_table _ e = absurd (false≢true e)

table_rank-le : (t : Tag) → table_rank t ≤ 10
table_rank-le t = grind arith

table_text_rank-le : (t : Tag) → table_text_rank t ≤ 11
table_text_rank-le t = omega (arith, table_rank-le t)

table_body_rank-le : (t : Tag) → table_body_rank t ≤ 5
table_body_rank-le t = grind arith

row_rank-le : (t : Tag) → row_rank t ≤ 5
row_rank-le t = grind arith

caption_rank-le : (t : Tag) → caption_rank t ≤ 7
caption_rank-le t = grind arith

column_group_rank-le : (t : Tag) → column_group_rank t ≤ 7
column_group_rank-le t = grind arith

after_body_rank-le : (s : Symbol) → after_body_rank s ≤ 2
after_body_rank-le (End t) = grind arith
after_body_rank-le (Start t) = omega arith
after_body_rank-le (Char c) = omega arith
after_body_rank-le Comment = omega arith
after_body_rank-le Doctype = omega arith
after_body_rank-le Eof = omega arith

by_symbol-le : (f : Tag → ℕ) (c o k : ℕ) → ((t : Tag) → f t ≤ k) → c ≤ k → o ≤ k → (s : Symbol) → by_symbol f c o s ≤ k
by_symbol-le f c o k hf hc ho (Start t) = hf t
by_symbol-le f c o k hf hc ho (Char x) = hc
by_symbol-le f c o k hf hc ho (End t) = ho
by_symbol-le f c o k hf hc ho Comment = ho
by_symbol-le f c o k hf hc ho Doctype = ho
by_symbol-le f c o k hf hc ho Eof = ho

-- no rank is above its mode's
pub rank-top : (m : Mode) (s : Symbol) → rank m s ≤ top_rank m
rank-top mode.InTable s = by_symbol-le table_rank 1 0 10 table_rank-le (omega arith) (omega arith) s
rank-top mode.InTableText s = by_symbol-le table_text_rank 0 1 11 table_text_rank-le (omega arith) (omega arith) s
rank-top mode.InCaption s = by_symbol-le caption_rank 0 0 7 caption_rank-le (omega arith) (omega arith) s
rank-top mode.InColumnGroup s = by_symbol-le column_group_rank 2 2 7 column_group_rank-le (omega arith) (omega arith) s
rank-top mode.InTableBody s = by_symbol-le table_body_rank 1 0 5 table_body_rank-le (omega arith) (omega arith) s
rank-top mode.InRow s = by_symbol-le row_rank 1 0 5 row_rank-le (omega arith) (omega arith) s
rank-top mode.AfterBody s = after_body_rank-le s
rank-top _ s = omega arith

pub rank-reset : (m : Mode) (s : Symbol) → is_reset m ≡ true → rank m s ≤ 10
rank-reset m s e = omega (arith, rank-top m s, top_rank-reset m e)

pub rank-loose : (m : Mode) (s : Symbol) → is_loose m ≡ true → rank m s ≤ 10
rank-loose m s e = omega (arith, rank-top m s, top_rank-loose m e)

table_body_rank-table : (t : Tag) → table_body_rank t ≤ table_rank t
table_body_rank-table t = grind arith

row_rank-table : (t : Tag) → row_rank t ≤ table_rank t
row_rank-table t = grind arith

-- the mode that table text comes back to
pub rank-table_text : (m : Mode) (s : Symbol) → is_table_mode m ≡ true → is_code_point s ≡ false → rank m s < rank mode.InTableText s
rank-table_text m (Char c) e n = absurd (false≢true (sym n))
rank-table_text mode.InTable (Start n) e f = omega (arith, table_body_rank-table n, row_rank-table n)
rank-table_text mode.InTable (End n) e f = omega arith
rank-table_text mode.InTable Comment e f = omega arith
rank-table_text mode.InTable Doctype e f = omega arith
rank-table_text mode.InTable Eof e f = omega arith
rank-table_text mode.InTableBody (Start n) e f = omega (arith, table_body_rank-table n, row_rank-table n)
rank-table_text mode.InTableBody (End n) e f = omega arith
rank-table_text mode.InTableBody Comment e f = omega arith
rank-table_text mode.InTableBody Doctype e f = omega arith
rank-table_text mode.InTableBody Eof e f = omega arith
rank-table_text mode.InRow (Start n) e f = omega (arith, table_body_rank-table n, row_rank-table n)
rank-table_text mode.InRow (End n) e f = omega arith
rank-table_text mode.InRow Comment e f = omega arith
rank-table_text mode.InRow Doctype e f = omega arith
rank-table_text mode.InRow Eof e f = omega arith
rank-table_text _ s e f = absurd (false≢true e)

-- What the sets of tags settle.
use Rattle.std.proofs.Common.{ℕ, ◌+◌, ◌≡◌, ◌==◌, ◌<◌, ◌≤◌, Bool, true, false, ◌||◌, IsTrue, refl, sym, if◌then◌else◌, arith}
use Rattle.std.proofs.lemmas.Bool.{false≢true}
use Rattle.std.proofs.lemmas.Grind.{common_steps}
use Rattle.html_names.specs.declared.tag.Tag.{Tag}
use Rattle.html_names.specs.declared.tag.Tag.TheVariants as tag
use Rattle.html_names.specs.Sets.{is_block, is_heading, is_headish, is_section, is_cell, is_formatting, is_void}
use Rattle.html_tree.specs.Proper.{is_foreign_root}
use Rattle.html_tree.specs.Seats.{is_part}
use Rattle.html_names.specs.Groups.{is_preformatted, takes_marker, is_head_text, is_table_piece, ends_section, ends_row, is_placed, is_table_part, ends_select, ends_select_in_table, is_void_phrase, is_void_part}
use Rattle.html_names.specs.Tags.{is_same}
use Rattle.html_ledger.specs.declared.symbol.Symbol.TheVariants.{Start}
use Rattle.html_ledger.specs.declared.history.History.{History}
use Rattle.html_ledger.specs.declared.fate.Cause.TheVariants.{Misplaced}
use Rattle.html_ledger.specs.Flags.{may_drop}
use Rattle.html_ledger.specs.MayDrop.{is_in_select}
use Rattle.html_ledger.specs.Spaces.{is_space}
use Rattle.html_construction.specs.Tokens.{opens_own}
use Rattle.html_construction.specs.Weights.{weight_of}
use Rattle.html_modes.specs.RawText.{is_body_text}
use Rattle.html_modes.specs.Ranks.{table_rank, table_body_rank, row_rank, caption_rank, column_group_rank}

weight_if : (a b : Bool) → b ≡ false → (if a then 0 else (if b then 10 else 4)) ≤ 4
weight_if true b e = omega arith
weight_if false false e = omega arith
weight_if false true e = absurd (false≢true (sym e))

weight_any : (a b : Bool) → (if a then 0 else (if b then 10 else 4)) ≤ 10
weight_any true b = omega arith
weight_any false false = omega arith
weight_any false true = omega arith

-- no element but a template counts more than four
pub weight_of-plain : (t : Tag) → is_same t tag.Template ≡ false → weight_of t ≤ 4
weight_of-plain t e = weight_if (is_formatting t) (is_same t tag.Template) e

pub weight_of-most : (t : Tag) → weight_of t ≤ 10
weight_of-most t = weight_any (is_formatting t) (is_same t tag.Template)

pub plain-other : (t : Tag) → is_headish t ≡ false → is_same t tag.Template ≡ false
plain-other tag.Template e = absurd (false≢true (sym e))
plain-other _ e = refl

pub small-other : (t : Tag) → is_headish t ≡ false → weight_of t ≤ 4
small-other t e = weight_of-plain t (plain-other t e)

pub named-is_block : (t : Tag) → is_block t ≡ true → opens_own t ≡ true
named-is_block tag.Area e = absurd (false≢true e)
named-is_block tag.Base e = absurd (false≢true e)
named-is_block tag.Basefont e = absurd (false≢true e)
named-is_block tag.Bgsound e = absurd (false≢true e)
named-is_block tag.Br e = absurd (false≢true e)
named-is_block tag.Col e = absurd (false≢true e)
named-is_block tag.Embed e = absurd (false≢true e)
named-is_block tag.Frame e = absurd (false≢true e)
named-is_block tag.Hr e = absurd (false≢true e)
named-is_block tag.Image e = absurd (false≢true e)
named-is_block tag.Img e = absurd (false≢true e)
named-is_block tag.Input e = absurd (false≢true e)
named-is_block tag.Keygen e = absurd (false≢true e)
named-is_block tag.Link e = absurd (false≢true e)
named-is_block tag.Math e = absurd (false≢true e)
named-is_block tag.Meta e = absurd (false≢true e)
named-is_block tag.Param e = absurd (false≢true e)
named-is_block tag.Source e = absurd (false≢true e)
named-is_block tag.Svg e = absurd (false≢true e)
named-is_block tag.Track e = absurd (false≢true e)
named-is_block tag.Wbr e = absurd (false≢true e)
named-is_block _ e = refl

-- no block is a formatting element
pub unlisted-is_block : (t : Tag) → is_block t ≡ true → is_formatting t ≡ false
unlisted-is_block tag.A e = absurd (false≢true e)
unlisted-is_block tag.B e = absurd (false≢true e)
unlisted-is_block tag.Big e = absurd (false≢true e)
unlisted-is_block tag.Code e = absurd (false≢true e)
unlisted-is_block tag.Em e = absurd (false≢true e)
unlisted-is_block tag.Font e = absurd (false≢true e)
unlisted-is_block tag.I e = absurd (false≢true e)
unlisted-is_block tag.Nobr e = absurd (false≢true e)
unlisted-is_block tag.S e = absurd (false≢true e)
unlisted-is_block tag.Small e = absurd (false≢true e)
unlisted-is_block tag.Strike e = absurd (false≢true e)
unlisted-is_block tag.Strong e = absurd (false≢true e)
unlisted-is_block tag.Tt e = absurd (false≢true e)
unlisted-is_block tag.U e = absurd (false≢true e)
unlisted-is_block _ e = refl

pub named-is_heading : (t : Tag) → is_heading t ≡ true → opens_own t ≡ true
named-is_heading tag.Area e = absurd (false≢true e)
named-is_heading tag.Base e = absurd (false≢true e)
named-is_heading tag.Basefont e = absurd (false≢true e)
named-is_heading tag.Bgsound e = absurd (false≢true e)
named-is_heading tag.Br e = absurd (false≢true e)
named-is_heading tag.Col e = absurd (false≢true e)
named-is_heading tag.Embed e = absurd (false≢true e)
named-is_heading tag.Frame e = absurd (false≢true e)
named-is_heading tag.Hr e = absurd (false≢true e)
named-is_heading tag.Image e = absurd (false≢true e)
named-is_heading tag.Img e = absurd (false≢true e)
named-is_heading tag.Input e = absurd (false≢true e)
named-is_heading tag.Keygen e = absurd (false≢true e)
named-is_heading tag.Link e = absurd (false≢true e)
named-is_heading tag.Math e = absurd (false≢true e)
named-is_heading tag.Meta e = absurd (false≢true e)
named-is_heading tag.Param e = absurd (false≢true e)
named-is_heading tag.Source e = absurd (false≢true e)
named-is_heading tag.Svg e = absurd (false≢true e)
named-is_heading tag.Track e = absurd (false≢true e)
named-is_heading tag.Wbr e = absurd (false≢true e)
named-is_heading _ e = refl

pub named-is_preformatted : (t : Tag) → is_preformatted t ≡ true → opens_own t ≡ true
named-is_preformatted tag.Area e = absurd (false≢true e)
named-is_preformatted tag.Base e = absurd (false≢true e)
named-is_preformatted tag.Basefont e = absurd (false≢true e)
named-is_preformatted tag.Bgsound e = absurd (false≢true e)
named-is_preformatted tag.Br e = absurd (false≢true e)
named-is_preformatted tag.Col e = absurd (false≢true e)
named-is_preformatted tag.Embed e = absurd (false≢true e)
named-is_preformatted tag.Frame e = absurd (false≢true e)
named-is_preformatted tag.Hr e = absurd (false≢true e)
named-is_preformatted tag.Image e = absurd (false≢true e)
named-is_preformatted tag.Img e = absurd (false≢true e)
named-is_preformatted tag.Input e = absurd (false≢true e)
named-is_preformatted tag.Keygen e = absurd (false≢true e)
named-is_preformatted tag.Link e = absurd (false≢true e)
named-is_preformatted tag.Math e = absurd (false≢true e)
named-is_preformatted tag.Meta e = absurd (false≢true e)
named-is_preformatted tag.Param e = absurd (false≢true e)
named-is_preformatted tag.Source e = absurd (false≢true e)
named-is_preformatted tag.Svg e = absurd (false≢true e)
named-is_preformatted tag.Track e = absurd (false≢true e)
named-is_preformatted tag.Wbr e = absurd (false≢true e)
named-is_preformatted _ e = refl

pub named-takes_marker : (t : Tag) → takes_marker t ≡ true → opens_own t ≡ true
named-takes_marker tag.Area e = absurd (false≢true e)
named-takes_marker tag.Base e = absurd (false≢true e)
named-takes_marker tag.Basefont e = absurd (false≢true e)
named-takes_marker tag.Bgsound e = absurd (false≢true e)
named-takes_marker tag.Br e = absurd (false≢true e)
named-takes_marker tag.Col e = absurd (false≢true e)
named-takes_marker tag.Embed e = absurd (false≢true e)
named-takes_marker tag.Frame e = absurd (false≢true e)
named-takes_marker tag.Hr e = absurd (false≢true e)
named-takes_marker tag.Image e = absurd (false≢true e)
named-takes_marker tag.Img e = absurd (false≢true e)
named-takes_marker tag.Input e = absurd (false≢true e)
named-takes_marker tag.Keygen e = absurd (false≢true e)
named-takes_marker tag.Link e = absurd (false≢true e)
named-takes_marker tag.Math e = absurd (false≢true e)
named-takes_marker tag.Meta e = absurd (false≢true e)
named-takes_marker tag.Param e = absurd (false≢true e)
named-takes_marker tag.Source e = absurd (false≢true e)
named-takes_marker tag.Svg e = absurd (false≢true e)
named-takes_marker tag.Track e = absurd (false≢true e)
named-takes_marker tag.Wbr e = absurd (false≢true e)
named-takes_marker _ e = refl

pub named-is_head_text : (t : Tag) → is_head_text t ≡ true → opens_own t ≡ true
named-is_head_text tag.Area e = absurd (false≢true e)
named-is_head_text tag.Base e = absurd (false≢true e)
named-is_head_text tag.Basefont e = absurd (false≢true e)
named-is_head_text tag.Bgsound e = absurd (false≢true e)
named-is_head_text tag.Br e = absurd (false≢true e)
named-is_head_text tag.Col e = absurd (false≢true e)
named-is_head_text tag.Embed e = absurd (false≢true e)
named-is_head_text tag.Frame e = absurd (false≢true e)
named-is_head_text tag.Hr e = absurd (false≢true e)
named-is_head_text tag.Image e = absurd (false≢true e)
named-is_head_text tag.Img e = absurd (false≢true e)
named-is_head_text tag.Input e = absurd (false≢true e)
named-is_head_text tag.Keygen e = absurd (false≢true e)
named-is_head_text tag.Link e = absurd (false≢true e)
named-is_head_text tag.Math e = absurd (false≢true e)
named-is_head_text tag.Meta e = absurd (false≢true e)
named-is_head_text tag.Param e = absurd (false≢true e)
named-is_head_text tag.Source e = absurd (false≢true e)
named-is_head_text tag.Svg e = absurd (false≢true e)
named-is_head_text tag.Track e = absurd (false≢true e)
named-is_head_text tag.Wbr e = absurd (false≢true e)
named-is_head_text _ e = refl

pub named-is_section : (t : Tag) → is_section t ≡ true → opens_own t ≡ true
named-is_section tag.Area e = absurd (false≢true e)
named-is_section tag.Base e = absurd (false≢true e)
named-is_section tag.Basefont e = absurd (false≢true e)
named-is_section tag.Bgsound e = absurd (false≢true e)
named-is_section tag.Br e = absurd (false≢true e)
named-is_section tag.Col e = absurd (false≢true e)
named-is_section tag.Embed e = absurd (false≢true e)
named-is_section tag.Frame e = absurd (false≢true e)
named-is_section tag.Hr e = absurd (false≢true e)
named-is_section tag.Image e = absurd (false≢true e)
named-is_section tag.Img e = absurd (false≢true e)
named-is_section tag.Input e = absurd (false≢true e)
named-is_section tag.Keygen e = absurd (false≢true e)
named-is_section tag.Link e = absurd (false≢true e)
named-is_section tag.Math e = absurd (false≢true e)
named-is_section tag.Meta e = absurd (false≢true e)
named-is_section tag.Param e = absurd (false≢true e)
named-is_section tag.Source e = absurd (false≢true e)
named-is_section tag.Svg e = absurd (false≢true e)
named-is_section tag.Track e = absurd (false≢true e)
named-is_section tag.Wbr e = absurd (false≢true e)
named-is_section _ e = refl

pub named-is_cell : (t : Tag) → is_cell t ≡ true → opens_own t ≡ true
named-is_cell tag.Area e = absurd (false≢true e)
named-is_cell tag.Base e = absurd (false≢true e)
named-is_cell tag.Basefont e = absurd (false≢true e)
named-is_cell tag.Bgsound e = absurd (false≢true e)
named-is_cell tag.Br e = absurd (false≢true e)
named-is_cell tag.Col e = absurd (false≢true e)
named-is_cell tag.Embed e = absurd (false≢true e)
named-is_cell tag.Frame e = absurd (false≢true e)
named-is_cell tag.Hr e = absurd (false≢true e)
named-is_cell tag.Image e = absurd (false≢true e)
named-is_cell tag.Img e = absurd (false≢true e)
named-is_cell tag.Input e = absurd (false≢true e)
named-is_cell tag.Keygen e = absurd (false≢true e)
named-is_cell tag.Link e = absurd (false≢true e)
named-is_cell tag.Math e = absurd (false≢true e)
named-is_cell tag.Meta e = absurd (false≢true e)
named-is_cell tag.Param e = absurd (false≢true e)
named-is_cell tag.Source e = absurd (false≢true e)
named-is_cell tag.Svg e = absurd (false≢true e)
named-is_cell tag.Track e = absurd (false≢true e)
named-is_cell tag.Wbr e = absurd (false≢true e)
named-is_cell _ e = refl

pub plain-is_block : (t : Tag) → is_block t ≡ true → is_same t tag.Template ≡ false
plain-is_block tag.Template e = absurd (false≢true e)
plain-is_block _ e = refl

pub small-is_block : (t : Tag) → is_block t ≡ true → weight_of t ≤ 4
small-is_block t e = weight_of-plain t (plain-is_block t e)

pub plain-is_heading : (t : Tag) → is_heading t ≡ true → is_same t tag.Template ≡ false
plain-is_heading tag.Template e = absurd (false≢true e)
plain-is_heading _ e = refl

pub small-is_heading : (t : Tag) → is_heading t ≡ true → weight_of t ≤ 4
small-is_heading t e = weight_of-plain t (plain-is_heading t e)

pub plain-is_preformatted : (t : Tag) → is_preformatted t ≡ true → is_same t tag.Template ≡ false
plain-is_preformatted tag.Template e = absurd (false≢true e)
plain-is_preformatted _ e = refl

pub small-is_preformatted : (t : Tag) → is_preformatted t ≡ true → weight_of t ≤ 4
small-is_preformatted t e = weight_of-plain t (plain-is_preformatted t e)

pub plain-takes_marker : (t : Tag) → takes_marker t ≡ true → is_same t tag.Template ≡ false
plain-takes_marker tag.Template e = absurd (false≢true e)
plain-takes_marker _ e = refl

pub small-takes_marker : (t : Tag) → takes_marker t ≡ true → weight_of t ≤ 4
small-takes_marker t e = weight_of-plain t (plain-takes_marker t e)

pub plain-is_head_text : (t : Tag) → is_head_text t ≡ true → is_same t tag.Template ≡ false
plain-is_head_text tag.Template e = absurd (false≢true e)
plain-is_head_text _ e = refl

pub small-is_head_text : (t : Tag) → is_head_text t ≡ true → weight_of t ≤ 4
small-is_head_text t e = weight_of-plain t (plain-is_head_text t e)

pub plain-is_section : (t : Tag) → is_section t ≡ true → is_same t tag.Template ≡ false
plain-is_section tag.Template e = absurd (false≢true e)
plain-is_section _ e = refl

pub small-is_section : (t : Tag) → is_section t ≡ true → weight_of t ≤ 4
small-is_section t e = weight_of-plain t (plain-is_section t e)

pub plain-is_cell : (t : Tag) → is_cell t ≡ true → is_same t tag.Template ≡ false
plain-is_cell tag.Template e = absurd (false≢true e)
plain-is_cell _ e = refl

pub small-is_cell : (t : Tag) → is_cell t ≡ true → weight_of t ≤ 4
small-is_cell t e = weight_of-plain t (plain-is_cell t e)

pub plain-is_formatting : (t : Tag) → is_formatting t ≡ true → is_same t tag.Template ≡ false
plain-is_formatting tag.Template e = absurd (false≢true e)
plain-is_formatting _ e = refl

pub small-is_formatting : (t : Tag) → is_formatting t ≡ true → weight_of t ≤ 4
small-is_formatting t e = weight_of-plain t (plain-is_formatting t e)

pub placed-is_table_piece : (t : Tag) → is_table_piece t ≡ true → is_placed t ≡ true
placed-is_table_piece tag.Caption e = refl
placed-is_table_piece tag.Col e = refl
placed-is_table_piece tag.Colgroup e = refl
placed-is_table_piece tag.Tbody e = refl
placed-is_table_piece tag.Td e = refl
placed-is_table_piece tag.Tfoot e = refl
placed-is_table_piece tag.Th e = refl
placed-is_table_piece tag.Thead e = refl
placed-is_table_piece tag.Tr e = refl
placed-is_table_piece _ e = absurd (false≢true e)

pub placed-ends_section : (t : Tag) → ends_section t ≡ true → is_placed t ≡ true
placed-ends_section tag.Caption e = refl
placed-ends_section tag.Col e = refl
placed-ends_section tag.Colgroup e = refl
placed-ends_section tag.Tbody e = refl
placed-ends_section tag.Tfoot e = refl
placed-ends_section tag.Thead e = refl
placed-ends_section _ e = absurd (false≢true e)

pub placed-ends_row : (t : Tag) → ends_row t ≡ true → is_placed t ≡ true
placed-ends_row tag.Caption e = refl
placed-ends_row tag.Col e = refl
placed-ends_row tag.Colgroup e = refl
placed-ends_row tag.Tbody e = refl
placed-ends_row tag.Tfoot e = refl
placed-ends_row tag.Thead e = refl
placed-ends_row tag.Tr e = refl
placed-ends_row _ e = absurd (false≢true e)

pub rank-section : (t : Tag) → ends_section t ≡ true → table_rank t < table_body_rank t + 4
rank-section tag.Caption e = omega arith
rank-section tag.Col e = omega arith
rank-section tag.Colgroup e = omega arith
rank-section tag.Tbody e = omega arith
rank-section tag.Tfoot e = omega arith
rank-section tag.Thead e = omega arith
rank-section _ e = absurd (false≢true e)

pub rank-row : (t : Tag) → ends_row t ≡ true → table_body_rank t < row_rank t + 4
rank-row tag.Caption e = omega arith
rank-row tag.Col e = omega arith
rank-row tag.Colgroup e = omega arith
rank-row tag.Tbody e = omega arith
rank-row tag.Tfoot e = omega arith
rank-row tag.Thead e = omega arith
rank-row tag.Tr e = omega arith
rank-row _ e = absurd (false≢true e)

pub rank-cell : (t : Tag) → is_table_piece t ≡ true → row_rank t < 4
rank-cell tag.Caption e = omega arith
rank-cell tag.Col e = omega arith
rank-cell tag.Colgroup e = omega arith
rank-cell tag.Tbody e = omega arith
rank-cell tag.Td e = omega arith
rank-cell tag.Tfoot e = omega arith
rank-cell tag.Th e = omega arith
rank-cell tag.Thead e = omega arith
rank-cell tag.Tr e = omega arith
rank-cell _ e = absurd (false≢true e)

pub rank-caption : (t : Tag) → is_table_piece t ≡ true → table_rank t < caption_rank t + 4
rank-caption tag.Caption e = omega arith
rank-caption tag.Col e = omega arith
rank-caption tag.Colgroup e = omega arith
rank-caption tag.Tbody e = omega arith
rank-caption tag.Td e = omega arith
rank-caption tag.Tfoot e = omega arith
rank-caption tag.Th e = omega arith
rank-caption tag.Thead e = omega arith
rank-caption tag.Tr e = omega arith
rank-caption _ e = absurd (false≢true e)

pub rank-table_part : (t : Tag) → is_table_part t ≡ true → table_rank t ≡ 0
rank-table_part tag.Caption e = refl
rank-table_part tag.Colgroup e = refl
rank-table_part tag.Tbody e = refl
rank-table_part tag.Tfoot e = refl
rank-table_part tag.Thead e = refl
rank-table_part _ e = absurd (false≢true e)

pub outside-ends_select : (t : Tag) → ends_select t ≡ true → is_in_select t ≡ false
outside-ends_select tag.Input e = refl
outside-ends_select tag.Keygen e = refl
outside-ends_select tag.Textarea e = refl
outside-ends_select _ e = absurd (false≢true e)

pub outside-ends_select_in_table : (t : Tag) → ends_select_in_table t ≡ true → is_in_select t ≡ false
outside-ends_select_in_table tag.Caption e = refl
outside-ends_select_in_table tag.Table e = refl
outside-ends_select_in_table tag.Tbody e = refl
outside-ends_select_in_table tag.Td e = refl
outside-ends_select_in_table tag.Tfoot e = refl
outside-ends_select_in_table tag.Th e = refl
outside-ends_select_in_table tag.Thead e = refl
outside-ends_select_in_table tag.Tr e = refl
outside-ends_select_in_table _ e = absurd (false≢true e)

pub rank-group : (t : Tag) → is_same t tag.Col ≡ false → table_rank t < column_group_rank t + 4
rank-group t e = grind arith

pub group-least : (t : Tag) → is_same t tag.Col ≡ false → 2 ≤ column_group_rank t
group-least t e = grind arith

or_left : (a b : Bool) → IsTrue a → IsTrue (a || b)
or_left true b h = h
or_left false b h = absurd (false≢true h)

-- what is placed by its name may be misplaced
pub may_misplace-placed : (h : History) (t : Tag) → is_placed t ≡ true → IsTrue (may_drop h (Start t) Misplaced)
may_misplace-placed h t e = or_left (is_placed t) _ e

pub is_visible-space : (c : ℕ) → is_space c ≡ true → (c == 0) ≡ false
is_visible-space c e = grind (arith, common_steps)

-- what is neither an image, nor void, nor a root of foreign content, is opened by its own name
pub own-other : (t : Tag) → is_same t tag.Image ≡ false → is_void t ≡ false → is_foreign_root t ≡ false → opens_own t ≡ true
own-other t a b c = rw (a, b, c) refl

pub own-body_text : (t : Tag) → is_body_text t ≡ true → opens_own t ≡ true
own-body_text tag.Textarea e = refl
own-body_text tag.Xmp e = refl
own-body_text tag.Iframe e = refl
own-body_text tag.Noembed e = refl
own-body_text _ e = absurd (false≢true e)

pub root-is_headish : (t : Tag) → is_headish t ≡ true → is_foreign_root t ≡ false
root-is_headish tag.Svg e = absurd (false≢true e)
root-is_headish tag.Math e = absurd (false≢true e)
root-is_headish _ e = refl

pub apart-is_void : (t : Tag) → is_void t ≡ true → is_part t ≡ false
apart-is_void tag.Caption e = absurd (false≢true e)
apart-is_void tag.Colgroup e = absurd (false≢true e)
apart-is_void tag.Tbody e = absurd (false≢true e)
apart-is_void tag.Td e = absurd (false≢true e)
apart-is_void tag.Tfoot e = absurd (false≢true e)
apart-is_void tag.Th e = absurd (false≢true e)
apart-is_void tag.Thead e = absurd (false≢true e)
apart-is_void tag.Tr e = absurd (false≢true e)
apart-is_void _ e = refl

-- NO PARTS OF TABLES, AND PARTS

pub apart-is_block : (t : Tag) → is_block t ≡ true → is_part t ≡ false
apart-is_block tag.Caption e = absurd (false≢true e)
apart-is_block tag.Colgroup e = absurd (false≢true e)
apart-is_block tag.Tbody e = absurd (false≢true e)
apart-is_block tag.Td e = absurd (false≢true e)
apart-is_block tag.Tfoot e = absurd (false≢true e)
apart-is_block tag.Th e = absurd (false≢true e)
apart-is_block tag.Thead e = absurd (false≢true e)
apart-is_block tag.Tr e = absurd (false≢true e)
apart-is_block _ e = refl

pub apart-is_heading : (t : Tag) → is_heading t ≡ true → is_part t ≡ false
apart-is_heading tag.Caption e = absurd (false≢true e)
apart-is_heading tag.Colgroup e = absurd (false≢true e)
apart-is_heading tag.Tbody e = absurd (false≢true e)
apart-is_heading tag.Td e = absurd (false≢true e)
apart-is_heading tag.Tfoot e = absurd (false≢true e)
apart-is_heading tag.Th e = absurd (false≢true e)
apart-is_heading tag.Thead e = absurd (false≢true e)
apart-is_heading tag.Tr e = absurd (false≢true e)
apart-is_heading _ e = refl

pub apart-is_preformatted : (t : Tag) → is_preformatted t ≡ true → is_part t ≡ false
apart-is_preformatted tag.Caption e = absurd (false≢true e)
apart-is_preformatted tag.Colgroup e = absurd (false≢true e)
apart-is_preformatted tag.Tbody e = absurd (false≢true e)
apart-is_preformatted tag.Td e = absurd (false≢true e)
apart-is_preformatted tag.Tfoot e = absurd (false≢true e)
apart-is_preformatted tag.Th e = absurd (false≢true e)
apart-is_preformatted tag.Thead e = absurd (false≢true e)
apart-is_preformatted tag.Tr e = absurd (false≢true e)
apart-is_preformatted _ e = refl

pub apart-takes_marker : (t : Tag) → takes_marker t ≡ true → is_part t ≡ false
apart-takes_marker tag.Caption e = absurd (false≢true e)
apart-takes_marker tag.Colgroup e = absurd (false≢true e)
apart-takes_marker tag.Tbody e = absurd (false≢true e)
apart-takes_marker tag.Td e = absurd (false≢true e)
apart-takes_marker tag.Tfoot e = absurd (false≢true e)
apart-takes_marker tag.Th e = absurd (false≢true e)
apart-takes_marker tag.Thead e = absurd (false≢true e)
apart-takes_marker tag.Tr e = absurd (false≢true e)
apart-takes_marker _ e = refl

pub apart-is_head_text : (t : Tag) → is_head_text t ≡ true → is_part t ≡ false
apart-is_head_text tag.Caption e = absurd (false≢true e)
apart-is_head_text tag.Colgroup e = absurd (false≢true e)
apart-is_head_text tag.Tbody e = absurd (false≢true e)
apart-is_head_text tag.Td e = absurd (false≢true e)
apart-is_head_text tag.Tfoot e = absurd (false≢true e)
apart-is_head_text tag.Th e = absurd (false≢true e)
apart-is_head_text tag.Thead e = absurd (false≢true e)
apart-is_head_text tag.Tr e = absurd (false≢true e)
apart-is_head_text _ e = refl

pub apart-is_headish : (t : Tag) → is_headish t ≡ true → is_part t ≡ false
apart-is_headish tag.Caption e = absurd (false≢true e)
apart-is_headish tag.Colgroup e = absurd (false≢true e)
apart-is_headish tag.Tbody e = absurd (false≢true e)
apart-is_headish tag.Td e = absurd (false≢true e)
apart-is_headish tag.Tfoot e = absurd (false≢true e)
apart-is_headish tag.Th e = absurd (false≢true e)
apart-is_headish tag.Thead e = absurd (false≢true e)
apart-is_headish tag.Tr e = absurd (false≢true e)
apart-is_headish _ e = refl

pub apart-is_void_phrase : (t : Tag) → is_void_phrase t ≡ true → is_part t ≡ false
apart-is_void_phrase tag.Caption e = absurd (false≢true e)
apart-is_void_phrase tag.Colgroup e = absurd (false≢true e)
apart-is_void_phrase tag.Tbody e = absurd (false≢true e)
apart-is_void_phrase tag.Td e = absurd (false≢true e)
apart-is_void_phrase tag.Tfoot e = absurd (false≢true e)
apart-is_void_phrase tag.Th e = absurd (false≢true e)
apart-is_void_phrase tag.Thead e = absurd (false≢true e)
apart-is_void_phrase tag.Tr e = absurd (false≢true e)
apart-is_void_phrase _ e = refl

pub apart-is_void_part : (t : Tag) → is_void_part t ≡ true → is_part t ≡ false
apart-is_void_part tag.Caption e = absurd (false≢true e)
apart-is_void_part tag.Colgroup e = absurd (false≢true e)
apart-is_void_part tag.Tbody e = absurd (false≢true e)
apart-is_void_part tag.Td e = absurd (false≢true e)
apart-is_void_part tag.Tfoot e = absurd (false≢true e)
apart-is_void_part tag.Th e = absurd (false≢true e)
apart-is_void_part tag.Thead e = absurd (false≢true e)
apart-is_void_part tag.Tr e = absurd (false≢true e)
apart-is_void_part _ e = refl

pub apart-is_formatting : (t : Tag) → is_formatting t ≡ true → is_part t ≡ false
apart-is_formatting tag.Caption e = absurd (false≢true e)
apart-is_formatting tag.Colgroup e = absurd (false≢true e)
apart-is_formatting tag.Tbody e = absurd (false≢true e)
apart-is_formatting tag.Td e = absurd (false≢true e)
apart-is_formatting tag.Tfoot e = absurd (false≢true e)
apart-is_formatting tag.Th e = absurd (false≢true e)
apart-is_formatting tag.Thead e = absurd (false≢true e)
apart-is_formatting tag.Tr e = absurd (false≢true e)
apart-is_formatting _ e = refl

pub apart-unplaced : (t : Tag) → is_placed t ≡ false → is_part t ≡ false
apart-unplaced tag.Caption e = absurd (false≢true (sym e))
apart-unplaced tag.Colgroup e = absurd (false≢true (sym e))
apart-unplaced tag.Tbody e = absurd (false≢true (sym e))
apart-unplaced tag.Td e = absurd (false≢true (sym e))
apart-unplaced tag.Tfoot e = absurd (false≢true (sym e))
apart-unplaced tag.Th e = absurd (false≢true (sym e))
apart-unplaced tag.Thead e = absurd (false≢true (sym e))
apart-unplaced tag.Tr e = absurd (false≢true (sym e))
apart-unplaced _ e = refl

pub part-is_cell : (t : Tag) → is_cell t ≡ true → is_part t ≡ true
part-is_cell tag.Td e = refl
part-is_cell tag.Th e = refl
part-is_cell _ e = absurd (false≢true e)

pub part-is_section : (t : Tag) → is_section t ≡ true → is_part t ≡ true
part-is_section tag.Tbody e = refl
part-is_section tag.Tfoot e = refl
part-is_section tag.Thead e = refl
part-is_section _ e = absurd (false≢true e)

-- Claimed.
-- What open elements count, so that a token can't be reprocessed without end (13.2.6).
use Rattle.std.specs.Prelude.{ℕ, ◌+◌, if◌then◌else◌, List, [], ◌∷◌}
use Rattle.html_names.specs.declared.tag.Tag.{Tag}
use Rattle.html_names.specs.declared.tag.Tag.TheVariants as tag
use Rattle.html_names.specs.Sets.{is_formatting}
use Rattle.html_names.specs.Tags.{is_same}
use Rattle.html_tree.specs.declared.groups.Group.{Group}
use Rattle.html_tree.specs.declared.groups.Group.TheVariants as group

-- a formatting element counts nothing, a template ten, any other element four
abbrev pub weight_of : Tag → ℕ
weight_of t = if is_formatting t then 0 else (if is_same t tag.Template then 10 else 4)

-- what open elements count together
abbrev pub weight : List Tag → ℕ
weight [] = 0
weight (t ∷ ts) = weight_of t + weight ts

-- what each element of a group counts at least
abbrev pub group_weight : Group → ℕ
group_weight (group.Named g) = weight_of g
group_weight group.Heading = 4
group_weight group.Section = 4
group_weight group.Cell = 4
group_weight group.Definition = 4

-- Claimed.
-- Where a new node may go (13.2.6.1).
use Rattle.std.specs.Prelude.{◌<◌, List, length}
use Rattle.html_names.specs.declared.tag.Tag.{Tag}
use Rattle.html_tree.specs.declared.groups.Target.{Target}
use Rattle.html_tree.specs.declared.groups.Target.TheVariants as target

-- an element is open, but where the document is asked for
abbrev pub CanTarget : List Tag → Target → Type 0
CanTarget s (target.Current foster) = 0 < length s
CanTarget s target.Head = 0 < length s
CanTarget s target.First = 0 < length s
CanTarget s target.Document = Unit {0}

-- For this crate's own functions.
-- Tags without attributes whose whole text was fed.
use Rattle.std.specs.Prelude.{ℕ, ◌+◌, [], Bool, take, drop}
use Rattle.html_tokens.specs.declared.machine.Machine.{Machine}
use Rattle.html_tokens.specs.declared.machine.State.TheVariants.{Tag}
use Rattle.html_tokens.specs.declared.tag.TagDraft.{TagDraft}
use Rattle.html_tokens.specs.declared.tag.Part.TheVariants as parts

-- the tag that begins here, when its name of this length was read
abbrev pub short_draft : Machine → Bool → ℕ → ℕ → TagDraft
short_draft t is_end opened len = record { alloc = t.alloc; is_end = is_end; start = t.place; name = take len (drop opened t.input.queue.items); attrs = []; part = parts.Name; attr_name = []; attr_value = [] }

-- so many code points further, in this tag
abbrev pub at_close : Machine → ℕ → TagDraft → Machine
at_close t passed draft = record t { input = record { queue = record { items = drop passed t.input.queue.items }; finished = t.input.finished }; place = t.place + passed; state = Tag draft }

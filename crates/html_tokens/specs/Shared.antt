-- Claimed, but for this crate's own functions: gathered_in, are_few.
-- Attributes that are shared, as their list, and boxed texts, as the texts.
use Rattle.std.specs.Prelude.{List, ℕ, [], ◌∷◌, Option, Some, None, Bool, true, false}
use Rattle.std.specs.Rc.{rc_slice_items}
use Rattle.std.specs.declared.boxed.Box.{Box}
use Rattle.std.specs.declared.alloc.Global.{Global}
use Rattle.html_tokens.specs.declared.attributes.Attr.{Attr}
use Rattle.html_tokens.specs.declared.attributes.Shared.{Shared}
use Rattle.html_tokens.specs.declared.attributes.Shared.TheVariants as kept
use Rattle.html_tokens.specs.declared.gathered.Gathered.{Gathered}
use Rattle.html_tokens.specs.declared.gathered.Gathered.TheVariants as gathered

-- no share is kept of the empty list
abbrev pub items_in : Shared → List Attr
items_in kept.None = []
items_in (kept.One attr) = attr.value ∷ []
items_in (kept.Many list) = rc_slice_items list

-- the attributes of a tag that is being read
abbrev pub gathered_in : Gathered → List Attr
gathered_in gathered.None = []
gathered_in (gathered.One attr) = attr ∷ []
gathered_in (gathered.Many attrs) = attrs.items

-- none or one is gathered
abbrev pub are_few : Gathered → Bool
are_few gathered.None = true
are_few (gathered.One attr) = true
are_few (gathered.Many attrs) = false

-- a text that may be missing, without its box
abbrev pub text_in : Option (Box (List ℕ) Global) → Option (List ℕ)
text_in None = None
text_in (Some text) = Some text.value

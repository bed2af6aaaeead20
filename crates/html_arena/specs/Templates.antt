-- Claimed.
-- Each template has one Contents node and each Contents node one template (4.12.3, the template element's contents).
use Rattle.std.specs.Prelude.{◌≡◌, ℕ, ◌<◌, is_some, List, length, Some}
use Rattle.html_names.specs.Sets.{is_template}
use Rattle.html_arena.specs.declared.data.NodeData.{NodeData}
use Rattle.html_arena.specs.Data.{label_in, tag_in, contents_in, host_in}

pub record Templates (labels : List NodeData) : Type 0 where
  pub hosts : (x : ℕ) → is_some (contents_in (label_in labels x)) ≡ is_template (tag_in (label_in labels x))
  pub contents_is : (x c : ℕ) → contents_in (label_in labels x) ≡ Some c → (c < length labels) × (host_in (label_in labels c) ≡ Some x)
  pub host_is : (c x : ℕ) → host_in (label_in labels c) ≡ Some x → (x < length labels) × (contents_in (label_in labels x) ≡ Some c)

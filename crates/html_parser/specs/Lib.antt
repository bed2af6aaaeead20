-- Claimed.
pub mod Causes
pub mod Faults
pub mod Fed
pub mod Feeding
pub mod Kinds
pub mod Normalised
pub mod Options
pub mod Owned
pub mod Parsed
pub mod Paused
pub mod Reading
pub mod Said
pub mod Spent
pub mod Staged
pub mod Start
-- For this crate's own functions.
pub mod Gathered
pub mod Made
pub mod Making
pub mod Saying
pub mod Stretches
pub mod Tokenizing
-- Handed on to callers, of the crates below.
pub use Rattle.html_arena.specs.Below
pub use Rattle.html_arena.specs.Data
pub use Rattle.html_arena.specs.Steps
pub use Rattle.html_arena.specs.Tree
pub use Rattle.html_arena.specs.Walking
pub use Rattle.html_device.specs.Device
pub use Rattle.html_dom.specs.Allowed
pub use Rattle.html_dom.specs.Places
pub use Rattle.html_dom.specs.Reads
pub use Rattle.html_input.specs.Lines
pub use Rattle.html_page.specs.Html
pub use Rattle.html_page.specs.Serialised
pub use Rattle.html_page.specs.Shows

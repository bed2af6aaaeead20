-- A page that was read is a tree that was read.
use Rattle.std.specs.Prelude.{ℕ, List, Option, length}
use Rattle.std.proofs.Common.{refl}
use Rattle.std.specs.Io.KnownBytes.{Consumes, IsAtEnd}
use Rattle.html_parser.specs.Parsed.{IsPageOf, IsTreeOf}
use Rattle.html_parser.specs.Start.{Start}
use Rattle.html_parser.specs.declared.page.Page.{Page}
use Rattle.html_parser.specs.declared.page.Tree.{Tree}
use Rattle.html_run.specs.Jobs.{IsRead}

pub read-tree : (start : Start) (old new : Option (List ℕ)) (bytes : List ℕ) (tree : Tree) → Consumes old new bytes → IsAtEnd new → IsTreeOf start bytes tree → IsRead start old new
read-tree start old new bytes tree c e h = record { bytes = bytes; consumed = c; at_end = e; tree = tree; is_tree = h }

pub read-page : (start : Start) (old new : Option (List ℕ)) (bytes : List ℕ) (page : Page) → Consumes old new bytes → IsAtEnd new → IsPageOf start bytes page → IsRead start old new
read-page start old new bytes page c e h = record {
  bytes = bytes;
  consumed = c;
  at_end = e;
  tree = record { arena = page.arena; root = page.root; token_count = length page.tokens; errors = page.errors; n = page.n; steps = page.steps };
  is_tree = record { tokens = page.tokens; fates = page.fates; is = h; count = refl };
}

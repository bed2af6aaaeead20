-- Claimed.
-- What is written of a page that was read.
use Rattle.std.specs.Prelude.{◌≡◌, ◌≤◌, ◌⊎◌, ◌+◌, ◌*◌, ℕ, Bool, true, false, List, Option, length}
use Rattle.std.specs.Str.{encode_utf8_all}
use Rattle.std.specs.Io.KnownBytes.{Consumes, IsAtEnd}
use Rattle.html_device.specs.Device.{AppendsFront}
use Rattle.html_arena.specs.Forest.{Forest}
use Rattle.html_input.specs.Decode.{decode}
use Rattle.html_builder.specs.Outcome.{most_held, most_nodes}
use Rattle.html_page.specs.Html.{html_of}
use Rattle.html_page.specs.Label.{Label}
use Rattle.html_page.specs.PageTokens.{HasCore}
use Rattle.html_page.specs.Plain.{IsPlainPage}
use Rattle.html_page.specs.Serialised.{html_below}
use Rattle.html_page.specs.declared.profile.Profile.{Profile}
use Rattle.html_parser.specs.Parsed.{IsDocument, IsTreeOf}
use Rattle.html_parser.specs.Reading.{IsReaderCause}
use Rattle.html_parser.specs.Start.{Start}
use Rattle.html_parser.specs.declared.error.ParseError.{ParseError}
use Rattle.html_parser.specs.declared.error.ParseError.TheVariants.{Write}
use Rattle.html_parser.specs.declared.page.Tree.{Tree}

-- the most code points that are written for a page of n code points
abbrev pub most_written : ℕ → ℕ
most_written n = 12 * most_held n + 16 * most_nodes n

-- A reader was read from `old` to its end, and of the text of its tree was written what `Written` says.
pub record IsNormalised (start : Start) (profile : Profile) (Written : List ℕ → Type 0) (old new : Option (List ℕ)) : Type 0 where
  pub bytes : List ℕ
  pub consumed : Consumes old new bytes
  pub at_end : IsAtEnd new
  pub tree : Tree
  pub is_tree : IsTreeOf start bytes tree
  pub written : Written (encode_utf8_all (html_below profile tree.arena tree.root))
  pub few : length (html_below profile tree.arena tree.root) ≤ most_written tree.n
  -- where a document's text is that of a plain page, in either profile, and the table has the five core rows: the page's own text, in the profile asked for
  pub plain : IsDocument start → HasCore start.rows → (p : Profile) (page : Forest Label) → IsPlainPage page → html_of p false page ≡ decode bytes
      → Written (encode_utf8_all (html_of profile false page))

-- Why not all was written: the writer failed or took no bytes, and a front was written; or nothing was, since the input was refused.
abbrev pub IsNormaliseCause : Start → Profile → (reader new_reader : Option (List ℕ)) → Bool → (writer new_writer : Option (List ℕ)) → (failed stalled : Bool) → ParseError → Type 0
IsNormaliseCause start profile reader new_reader read_failed writer new_writer failed stalled Write =
    IsNormalised start profile (AppendsFront writer new_writer) reader new_reader × ((failed ≡ true) ⊎ (stalled ≡ true))
IsNormaliseCause start profile reader new_reader read_failed writer new_writer failed stalled e =
    IsReaderCause start reader new_reader read_failed e × (new_writer ≡ writer)

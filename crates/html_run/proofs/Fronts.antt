-- What was written of a page, from what parsing and serialising say.
use Rattle.std.proofs.Common.{◌≡◌, ◌⊎◌, inl, inr, ℕ, ◌≤◌, List, length, Option, subst}
use Rattle.std.specs.Prelude.{Result, Ok, Err, OnOk, OnErr, IfErr}
use Rattle.std.specs.Str.{encode_utf8_all}
use Rattle.std.specs.Io.KnownBytes.{Appends, Consumes, IsAtEnd}
use Rattle.html_arena.specs.Below.{kids}
use Rattle.html_arena.specs.Forest.{Forest}
use Rattle.html_arena.specs.declared.walk.Show.TheVariants.{All}
use Rattle.html_device.specs.Device.{AppendsFront}
use Rattle.html_page.specs.Label.{Label}
use Rattle.html_page.specs.Serialised.{HasNames, forest_below, html_below, most_written}
use Rattle.html_page.specs.Shows.{Shows}
use Rattle.html_page.specs.declared.profile.Profile.{Profile}
use Rattle.html_parser.specs.Normalised.{IsNormalised}
use Rattle.html_parser.specs.Parsed.{IsTreeOf}
use Rattle.html_parser.specs.Start.{Start}
use Rattle.html_parser.specs.declared.error.ParseError.{ParseError}
use Rattle.html_parser.specs.declared.error.ParseError.TheVariants.{OutOfMemory, InputTooLong, ForeignContent, BadContext, Read, Write, Stopped, NodeBudget, HeldBudget, StepBudget}
use Rattle.html_parser.specs.declared.page.Tree.{Tree}
use Rattle.html_parser.proofs.Rewritten.{plain-text, text-few}
use Rattle.html_print.specs.Outcome.{status_of}

-- what holds anyway, holds of an answer
pub on-ok : (r : Result (Unit {0}) ParseError) (P : Type 0) → P → OnOk r P
on-ok (Ok u) P p = p
on-ok (Err e) P p = tt

-- nothing, or a front of the text
abbrev pub NothingOrFront : Start → Profile → (reader new_reader writer new_writer : Option (List ℕ)) → ParseError → Type 0
NothingOrFront start profile reader new_reader writer new_writer e =
    (new_writer ≡ writer) ⊎ ((e ≡ Write) × IsNormalised start profile (AppendsFront writer new_writer) reader new_reader)

-- the text of a tree in a profile
module _ (start : Start) (profile : Profile) (tree : Tree) (bytes : List ℕ) (old new : Option (List ℕ)) (r : Result (Unit {0}) ParseError)
    (consumed : Consumes old new bytes) (at_end : IsAtEnd new) (is_tree : IsTreeOf start bytes tree)
    (few : HasNames tree.arena → length (html_below profile tree.arena tree.root) ≤ most_written tree.arena)
    (only : (f : Forest Label) → Shows tree.arena (kids All tree.arena tree.root) f → f ≡ forest_below tree.arena tree.root) (writer new_writer : Option (List ℕ)) where
  abbrev text : List ℕ
  text = encode_utf8_all (html_below profile tree.arena tree.root)

  normalised : (W : List ℕ → Type 0) → W text → IsNormalised start profile W old new
  normalised W w =
      record {
        bytes = bytes;
        consumed = consumed;
        at_end = at_end;
        tree = tree;
        is_tree = is_tree;
        written = w;
        few = text-few start bytes profile tree is_tree few;
        plain = λ document core p page is_plain written. subst (λ (s : List ℕ). W (encode_utf8_all s)) (plain-text start bytes profile tree is_tree only document core p page is_plain written) w;
      }

  pub all-written : OnOk r (Appends writer new_writer text) → OnOk r (IsNormalised start profile (Appends writer new_writer) old new)
  all-written h = go r h
    where
      go : (s : Result (Unit {0}) ParseError) → OnOk s (Appends writer new_writer text) → OnOk s (IsNormalised start profile (Appends writer new_writer) old new)
      go (Ok u) w = normalised (Appends writer new_writer) w
      go (Err e) w = tt

  pub front-written : OnErr r (AppendsFront writer new_writer text) → IfErr r (λ e. e ≡ Write) → IfErr r (NothingOrFront start profile old new writer new_writer)
  front-written a b = go r a b
    where
      go : (s : Result (Unit {0}) ParseError) → OnErr s (AppendsFront writer new_writer text) → IfErr s (λ e. e ≡ Write) → IfErr s (NothingOrFront start profile old new writer new_writer)
      go (Ok u) x y = tt
      go (Err e) x y = inr (y, normalised (AppendsFront writer new_writer) x)

-- A refusal is told by no status of a job that is done.
pub never-done : (e : ParseError) → status_of e ≡ 0 → ⊥
never-done OutOfMemory h = cc
never-done InputTooLong h = cc
never-done (ForeignContent name at) h = cc
never-done BadContext h = cc
never-done Read h = cc
never-done Write h = cc
never-done Stopped h = cc
never-done (NodeBudget at) h = cc
never-done (HeldBudget at) h = cc
never-done (StepBudget at) h = cc

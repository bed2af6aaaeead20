-- What is written of a page, from what parsing and serialising say.
use Rattle.std.proofs.Common.{◌≡◌, ◌⊎◌, ℕ, ◌≤◌, Bool, true, false, List, [], ◌∷◌, length, Option, Some, None, ap, sym, subst, arith, ◌∙◌}
use Rattle.std.specs.Prelude.{codes, Result, Ok, Err, OnOk, OnErr, IfErr}
use Rattle.std.specs.Str.{encode_utf8_all}
use Rattle.std.specs.Io.KnownBytes.{Consumes, IsAtEnd}
use Rattle.html_arena.specs.Below.{kids}
use Rattle.html_arena.specs.Forest.{Forest}
use Rattle.html_arena.specs.Forest.Forest.{empty}
use Rattle.html_arena.specs.Tree.{Tree as Nodes}
use Rattle.html_arena.specs.Walking.{IsRoot}
use Rattle.html_arena.specs.declared.walk.Show.TheVariants.{All}
use Rattle.html_device.specs.Device.{AppendsFront}
use Rattle.html_ledger.specs.declared.fate.Fate.{Fate}
use Rattle.html_tokens.specs.declared.token.Token.{Token}
use Rattle.html_input.specs.Decode.{decode}
use Rattle.html_page.specs.Forest.{single}
use Rattle.html_page.specs.Html.{html_of}
use Rattle.html_page.specs.Label.{Label}
use Rattle.html_page.specs.Label.Label.{doctype, element}
use Rattle.html_page.specs.PageTokens.{HasCore}
use Rattle.html_page.specs.Plain.{IsPlainPage, page_of}
use Rattle.html_page.specs.Serialised.{HasNames, forest_below, html_below, most_written}
use Rattle.html_page.specs.Shows.{Shows}
use Rattle.html_page.specs.declared.profile.Profile.{Profile}
use Rattle.html_page.proofs.Laws.{document_text}
use Rattle.html_parser.specs.Normalised.{IsNormalised, IsNormaliseCause, most_written as most_text}
use Rattle.html_parser.specs.Parsed.{Headline, IsDocument, IsPageOf, IsTreeOf}
use Rattle.html_parser.specs.Start.{Start}
use Rattle.html_parser.specs.declared.error.ParseError.{ParseError}
use Rattle.html_parser.specs.declared.error.ParseError.TheVariants.{Write}
use Rattle.html_parser.specs.declared.faults.PageFault.{PageFault}
use Rattle.html_parser.specs.declared.page.Page.{Page}
use Rattle.html_parser.specs.declared.page.Tree.{Tree}

-- the root of what parsing answers
headline-root : (start : Start) (bytes : List ℕ) (tokens : List Token) (fates : List Fate) (t : Nodes) (root : ℕ) (errors : List PageFault) (n steps : ℕ)
    → Headline start bytes tokens fates t root errors n steps → IsRoot t root
headline-root start bytes tokens fates t root errors n steps h = subst (IsRoot t) (sym h.root_is) (record {
  inside = h.outcome.rooted.some_node;
  alone = h.outcome.rooted.root;
  no_host = h.outcome.rooted.no_host;
})

pub page-root : (start : Start) (bytes : List ℕ) (page : Page) → IsPageOf start bytes page → IsRoot page.arena page.root
page-root start bytes page h = headline-root start bytes page.tokens page.fates page.arena page.root page.errors.items page.n page.steps h

pub root-of : (start : Start) (bytes : List ℕ) (tree : Tree) → IsTreeOf start bytes tree → IsRoot tree.arena tree.root
root-of start bytes tree t = headline-root start bytes t.tokens t.fates tree.arena tree.root tree.errors.items tree.n tree.steps t.is

-- how long the text of a tree is, by the number of code points
pub text-few : (start : Start) (bytes : List ℕ) (profile : Profile) (tree : Tree) → IsTreeOf start bytes tree → (HasNames tree.arena → length (html_below profile tree.arena tree.root) ≤ most_written tree.arena)
    → length (html_below profile tree.arena tree.root) ≤ most_text tree.n
text-few start bytes profile tree t few =
    let all = few t.is.names in
    let nodes = t.is.nodes in
    let weighs = t.is.weighs in
    omega (arith, all, nodes, weighs)

-- what stands below the document of the page whose body holds these trees
abbrev in_page : Forest Label → Forest Label
in_page content =
    Forest.tree (doctype (Some (codes "html")) None None) empty
    (single (element (codes "html") []) (Forest.tree (element (codes "head") []) empty (single (element (codes "body") []) content)))

-- the text of a plain page's tree is the page's own
pub plain-text : (start : Start) (bytes : List ℕ) (profile : Profile) (tree : Tree) → IsTreeOf start bytes tree
    → ((f : Forest Label) → Shows tree.arena (kids All tree.arena tree.root) f → f ≡ forest_below tree.arena tree.root)
    → IsDocument start → HasCore start.rows → (p : Profile) (page : Forest Label) → IsPlainPage page → html_of p false page ≡ decode bytes
    → html_below profile tree.arena tree.root ≡ html_of profile false page
plain-text start bytes profile tree t only document core p page is_plain written =
    let shown : Shows tree.arena (tree.root ∷ []) (page_of is_plain.0) = subst (λ (f : Forest Label). Shows tree.arena (tree.root ∷ []) f) is_plain.1 (t.is.plain document core p page is_plain written).0 in
    sym (ap (html_of profile false) is_plain.1 ∙ document_text profile tree.arena tree.root (in_page is_plain.0) shown.1 (only (in_page is_plain.0) shown.2))

module _ (start : Start) (profile : Profile) (tree : Tree) (bytes : List ℕ) (old new : Option (List ℕ)) (r : Result (Unit {0}) ParseError) (consumed : Consumes old new bytes) (at_end : IsAtEnd new) (is_tree : IsTreeOf start bytes tree)
    (few : HasNames tree.arena → length (html_below profile tree.arena tree.root) ≤ most_written tree.arena)
    (only : (f : Forest Label) → Shows tree.arena (kids All tree.arena tree.root) f → f ≡ forest_below tree.arena tree.root) where
  abbrev text : List ℕ
  text = encode_utf8_all (html_below profile tree.arena tree.root)

  normalised : (W : List ℕ → Type 0) → W text → IsNormalised start profile W old new
  normalised W w = record {
    bytes = bytes;
    consumed = consumed;
    at_end = at_end;
    tree = tree;
    is_tree = is_tree;
    written = w;
    few = text-few start bytes profile tree is_tree few;
    plain = λ document core p page is_plain same. subst (λ (s : List ℕ). W (encode_utf8_all s)) (plain-text start bytes profile tree is_tree only document core p page is_plain same) w;
  }

  pub normalised_ok : (W : List ℕ → Type 0) → OnOk r (W text) → OnOk r (IsNormalised start profile W old new)
  normalised_ok W h = go r h
    where
      go : (s : Result (Unit {0}) ParseError) → OnOk s (W text) → OnOk s (IsNormalised start profile W old new)
      go (Ok u) w = normalised W w
      go (Err e) w = tt

  pub normalised_cause : (read_failed failed stalled : Bool) (writer new_writer : Option (List ℕ)) → OnErr r (AppendsFront writer new_writer text) → OnErr r ((failed ≡ true) ⊎ (stalled ≡ true)) → IfErr r (λ e. e ≡ Write)
      → IfErr r (IsNormaliseCause start profile old new read_failed writer new_writer failed stalled)
  normalised_cause read_failed failed stalled writer new_writer a b c = go r a b c
    where
      go : (s : Result (Unit {0}) ParseError) → OnErr s (AppendsFront writer new_writer text) → OnErr s ((failed ≡ true) ⊎ (stalled ≡ true)) → IfErr s (λ e. e ≡ Write)
          → IfErr s (IsNormaliseCause start profile old new read_failed writer new_writer failed stalled)
      go (Ok u) x y z = tt
      go (Err e) x y z =
          subst (λ (f : ParseError). IsNormaliseCause start profile old new read_failed writer new_writer failed stalled f) (sym z) (normalised (AppendsFront writer new_writer) x, y)

-- Claimed.
-- Which doctypes set the Document to quirks mode (13.2.6.4.1), by a list of ids of our own, which is shorter than the standard's.
use Rattle.std.specs.Prelude.{ℕ, ◌||◌, ◌&&◌, Bool, true, false, not, codes, List, [], ◌∷◌, Option, Some, None, is_some}
use Rattle.std.specs.List.{list_any}
use Rattle.std.specs.Str.{bytes_eq}
use Rattle.html_names.specs.Foreign.{is_lowered, lowered}
use Rattle.html_names.specs.Names.{begins_with}
use Rattle.html_tokens.specs.declared.token.TokenKind.{TokenKind}
use Rattle.html_tokens.specs.declared.token.TokenKind.TheVariants as kind

-- The identifiers are compared in an ASCII case-insensitive manner: the first is set to the other, or starts with it.
abbrev pub is_set_to : List ℕ → List ℕ → Bool
is_set_to id other = is_lowered id (lowered other)

abbrev pub starts_with : List ℕ → List ℕ → Bool
starts_with id front = begins_with (lowered front) (lowered id)

-- The public identifier is set to one of these.
abbrev pub public_ids : List (List ℕ)
public_ids =
    codes "-//W3O//DTD W3 HTML Strict 3.0//EN//"
    ∷ codes "-/W3C/DTD HTML 4.0 Transitional/EN"
    ∷ codes "HTML"
    ∷ []

-- The system identifier is set to this.
abbrev pub quirky_system_id : List ℕ
quirky_system_id = codes "http://www.ibm.com/data/dtd/v11/ibmxhtml1-transitional.dtd"

-- The public identifier starts with one of these.
abbrev pub public_fronts : List (List ℕ)
public_fronts =
    codes "-//IETF//DTD HTML"
    ∷ codes "-//W3C//DTD HTML 3"
    ∷ codes "-//W3C//DTD HTML 4.0 Frameset//"
    ∷ codes "-//W3C//DTD HTML 4.0 Transitional//"
    ∷ []

-- The system identifier is missing and the public identifier starts with one of these.
abbrev pub public_fronts_alone : List (List ℕ)
public_fronts_alone =
    codes "-//W3C//DTD HTML 4.01 Frameset//"
    ∷ codes "-//W3C//DTD HTML 4.01 Transitional//"
    ∷ []

-- The name is "html".
abbrev pub is_html : Option (List ℕ) → Bool
is_html (Some name) = bytes_eq name (codes "html")
is_html None = false

abbrev pub is_quirky_public_id : List ℕ → Bool → Bool
is_quirky_public_id id alone =
    list_any (λ it. is_set_to id it) public_ids || (list_any (λ it. starts_with id it) public_fronts || (alone && list_any (λ it. starts_with id it) public_fronts_alone))

abbrev pub is_quirky_public : Option (List ℕ) → Bool → Bool
is_quirky_public (Some id) alone = is_quirky_public_id id alone
is_quirky_public None alone = false

abbrev pub is_quirky_system : Option (List ℕ) → Bool
is_quirky_system (Some id) = is_set_to id quirky_system_id
is_quirky_system None = false

-- The force-quirks flag is set to on, the name is not "html", or an identifier is one of those above. (Any other token than a doctype does so too, in the
-- mode initial.)
abbrev pub sets_quirks : TokenKind → Bool
sets_quirks (kind.Doctype name public_text system_text force_quirks) =
    force_quirks || (not (is_html name) || (is_quirky_public public_text (not (is_some system_text)) || is_quirky_system system_text))
sets_quirks _ = true

-- The text of a node and all below it, in three parts.
use Rattle.std.proofs.Common.{◌≡◌, ℕ, ◌++◌, ap, ◌∙◌, append-nil}
use Rattle.std.specs.Str.{encode_utf8_all}
use Rattle.std.proofs.lemmas.Str.{encodes-append}
use Rattle.html_arena.specs.Tree.{Tree}
use Rattle.html_arena.specs.declared.walk.Event.TheVariants.{Enter, Leave}
use Rattle.html_page.specs.declared.profile.Profile.{Profile}
use Rattle.html_page.specs.Serialised.{event_text, html_at, html_below}

pub node-cut : (p : Profile) (t : Tree) (x : ℕ)
    → encode_utf8_all (html_at p t x) ≡ encode_utf8_all (event_text p t (Enter x)) ++ (encode_utf8_all (html_below p t x) ++ encode_utf8_all (event_text p t (Leave x)))
node-cut p t x =
    let whole : html_at p t x ≡ event_text p t (Enter x) ++ (html_below p t x ++ event_text p t (Leave x)) =
    ap (λ l. event_text p t (Enter x) ++ (html_below p t x ++ l)) (append-nil (event_text p t (Leave x))) in
    ap encode_utf8_all whole
    ∙ encodes-append (event_text p t (Enter x)) (html_below p t x ++ event_text p t (Leave x))
    ∙ ap (λ l. encode_utf8_all (event_text p t (Enter x)) ++ l) (encodes-append (html_below p t x) (event_text p t (Leave x)))

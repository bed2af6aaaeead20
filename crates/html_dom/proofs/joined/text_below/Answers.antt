use Rattle.std.proofs.Common.{◌≡◌, ◌++◌, ◌∙◌, sym, ap, append_assoc, refl}
use Rattle.std.specs.Prelude.{string_bytes}
use Rattle.std.specs.Str.{encode_utf8_all}
use Rattle.std.proofs.lemmas.Str.{encodes-append}
use Rattle.std.proofs.lemmas.Slice.{pushed}
use Rattle.html_arena.specs.Tree.{label_of}
use Rattle.html_dom.specs.Reads.{text_of_all, text_part}
use Rattle.html_dom.proofs.joined.text_below.Goals as goal

pub nodes-preserved : goal.nodes-preserved
nodes-preserved c =
    let t = c.args.arena.now in
    let part = text_part (label_of t c.in-Some.node) in
    let later = c.next.new.self in
    let same : string_bytes c.nodes.out ≡ string_bytes c.nodes.out = refl in
    let put : string_bytes c.push_str.new.self ≡ string_bytes c.nodes.out ++ encode_utf8_all part =
    pushed c.text_part.result.now same c.in_ok-push_str.was c.push_str.ensures.bytes ∙ ap (λ l. string_bytes c.nodes.out ++ l) c.text_part.ensures in
    c.nodes.invariant
    ∙ ap (λ l. string_bytes c.nodes.out ++ encode_utf8_all (text_of_all t l)) c.in-Some.ensures.steps
    ∙ ap (λ l. string_bytes c.nodes.out ++ l) (encodes-append part (text_of_all t later))
    ∙ sym (append_assoc (string_bytes c.nodes.out) (encode_utf8_all part) (encode_utf8_all (text_of_all t later)))
    ∙ ap (λ l. l ++ encode_utf8_all (text_of_all t later)) (sym put)

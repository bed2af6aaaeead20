use Rattle.std.proofs.Common.{ap, ◌∙◌, refl, sym}
use Rattle.std.specs.Prelude.{codes}
use Rattle.std.specs.Str.{encode_utf8_all}
use Rattle.html_arena.specs.declared.data.NodeData.TheVariants.{Doctype}
use Rattle.html_page.specs.Html.{opening}
use Rattle.html_page.specs.Label.{label_for}
use Rattle.html_page.proofs.Tagged.{between}
use Rattle.html_device.proofs.Puts.{put_is}
use Rattle.html_page.proofs.serialising.put_opening.Goals as goal

pub returns-in-Comment-clause-bytes : goal.returns-in-Comment-clause-bytes
returns-in-Comment-clause-bytes g c =
    put_is _ _ _ _ _ _ _ c.put_between.ensures.bytes
    (ap (λ d. encode_utf8_all (opening c.args.profile c.args.raw (label_for d))) c.in-Comment.is ∙ between (codes "<!--") (codes "-->") c.in-Comment.text c.as_str-in-Comment.result.now refl refl c.as_str-in-Comment.ensures.bytes)

pub returns-in-Some-clause-bytes : goal.returns-in-Some-clause-bytes
returns-in-Some-clause-bytes g c =
    let name = rw c.in-Some.is at c.as_ref.ensures in
    put_is _ _ _ _ _ _ _ c.put_between-in-Some.ensures.bytes
    (ap (λ d. encode_utf8_all (opening c.args.profile c.args.raw (label_for d))) (c.in-Doctype.is ∙ ap (λ n. Doctype n c.in-Doctype.public c.in-Doctype.system c.in-Doctype.token) (sym name))
    ∙ between (codes "<!DOCTYPE ") (codes ">") c.in-Some.name.now c.as_str-in-Some.result.now refl refl c.as_str-in-Some.ensures.bytes)

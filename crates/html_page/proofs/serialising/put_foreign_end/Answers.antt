use Rattle.std.proofs.Common.{◌++◌, Bool, ap, ◌∙◌, refl}
use Rattle.std.specs.Prelude.{codes}
use Rattle.std.specs.Str.{encode_utf8_all}
use Rattle.html_names.specs.Foreign.{local_name}
use Rattle.html_page.specs.Html.{written_name}
use Rattle.html_page.proofs.Qualified.{local_bytes}
use Rattle.html_page.proofs.Tagged.{between}
use Rattle.html_device.proofs.Puts.{put_is}
use Rattle.html_page.proofs.serialising.put_foreign_end.Goals as goal

pub returns-clause-bytes : goal.returns-clause-bytes
returns-clause-bytes g c =
    let name = c.args.name.now in
    put_is _ _ _ _ _ _ _ c.put_between.ensures.bytes
    (ap (λ (f : Bool). encode_utf8_all (codes "</" ++ (written_name f name ++ codes ">"))) c.requires.foreign
    ∙ between (codes "</") (codes ">") (local_name name) c.local_name.result.now refl refl (local_bytes name c.as_str.result.now c.local_name.result.now c.local_name.utf8 c.as_str.ensures.code_points c.local_name.ensures.code_points))

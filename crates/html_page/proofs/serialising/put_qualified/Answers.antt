use Rattle.std.proofs.Common.{arith, subst, sym, ◌∙◌, Some, None}
use Rattle.std.specs.Str.{IsUtf8}
use Rattle.std.proofs.lemmas.Str.Pattern.{split_parts}
use Rattle.html_device.proofs.Puts.{put_is}
use Rattle.html_page.proofs.Qualified.{cut_name, local_text, prefix_text, whole_name}
use Rattle.html_page.proofs.serialising.put_qualified.Goals as goal

pub returns-in-Some-clause-bytes : goal.returns-in-Some-clause-bytes
returns-in-Some-clause-bytes g c =
    let p = split_parts 32 c.args.name.now (Some (c.in-Some.prefix, c.in-Some.local)) c.in-Some.ensures.cases (omega arith) in
    let prefix = c.in-Some.prefix.now in
    let local = c.in-Some.local.now in
    let whole = subst IsUtf8 p.0 c.utf8.name in
    put_is _ _ _ _ _ _ _ c.put_between.ensures.bytes (cut_name c.args.name.now prefix local (prefix_text prefix local whole) (local_text prefix local whole) p.0 p.1)

pub returns-in-None-clause-bytes : goal.returns-in-None-clause-bytes
returns-in-None-clause-bytes g c =
    let p = split_parts 32 c.args.name.now None c.in-None.ensures.cases (omega arith) in
    put_is _ _ _ _ _ _ _ c.put.ensures.bytes (whole_name c.args.name.now c.utf8.name p ∙ sym c.as_bytes.ensures.value)

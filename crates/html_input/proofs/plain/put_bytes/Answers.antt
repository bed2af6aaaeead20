use Rattle.std.proofs.Common.{drop, length, ap, ◌∙◌, rules, map-id}
use Rattle.std.proofs.Math.Seq.{drop-append_seam}
use Rattle.std.proofs.lemmas.Iterator.{YieldsList-from_slice, YieldsList-from_map}
use Rattle.std.proofs.lemmas.Iterator.Adapters.{items_from_extend}
use Rattle.std.proofs.lemmas.Result.{on_ok_weaker}
use Rattle.html_input.proofs.plain.put_bytes.Goals as goal

pub returns-clause-ok : goal.returns-clause-ok
returns-clause-ok c =
    on_ok_weaker c.extend.result (λ all. ap (drop (length c.args.out.now.items)) all.0 ∙ drop-append_seam c.args.out.now.items _ ∙ map-id c.args.bytes.now)
    (items_from_extend c.extend.result c.extend.ensures.ran
    (YieldsList-from_map _ (λ b. b) (YieldsList-from_slice c.args.bytes.now cc) c.map.ensures.closure (λ x r q k. search rules)))

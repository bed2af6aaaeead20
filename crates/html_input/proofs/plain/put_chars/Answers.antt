use Rattle.std.proofs.Common.{drop, length, ap, ◌∙◌}
use Rattle.std.proofs.Math.Seq.{drop-append_seam}
use Rattle.std.proofs.lemmas.Iterator.{YieldsList-from_chars}
use Rattle.std.proofs.lemmas.Iterator.Adapters.{items_from_extend}
use Rattle.std.proofs.lemmas.Result.{on_ok_weaker}
use Rattle.html_input.proofs.plain.put_chars.Goals as goal

pub returns-clause-ok : goal.returns-clause-ok
returns-clause-ok c =
    on_ok_weaker c.extend.result (λ all. ap (drop (length c.args.out.now.items)) all.0 ∙ drop-append_seam c.args.out.now.items _)
    (items_from_extend c.extend.result c.extend.ensures.ran (YieldsList-from_chars c.args.text.now c.utf8.text cc))

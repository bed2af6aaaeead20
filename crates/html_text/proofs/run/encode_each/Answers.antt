use Rattle.std.proofs.Common.{◌≡◌, ◌+◌, [], ◌∷◌, ◌++◌, add-one, ap, append_assoc, arith, chars, sym, take, ◌∙◌}
use Rattle.std.proofs.Math.Seq.{take-suc}
use Rattle.html_text.proofs.Encoding.{read-more, utf8-more}
use Rattle.html_text.proofs.run.encode_each.Goals as goal

pub encoding-preserved : goal.encoding-preserved
encoding-preserved c =
    let x = c.index-group-index.result in
    let group = c.args.group.now in
    let i = c.encoding.index in
    let before = chars (take c.args.at c.args.block.now) in
    let more : take (i + 1) group ≡ take i group ++ x ∷ [] =
    ap (λ n. take n group) (add-one i) ∙ take-suc group i x c.encoding-test.true ∙ ap (λ v. take i group ++ v ∷ []) (sym c.index-group-index.is) in
    let all : before ++ take (i + 1) group ≡ (before ++ take i group) ++ x ∷ [] = ap (λ v. before ++ v) more ∙ sym (append_assoc before (take i group) (x ∷ [])) in
    let added = c.encode_one-next.ensures in
    record {
      within = omega (arith, c.encoding.invariant.within, added.few);
      same_len = added.same_len ∙ c.encoding.invariant.same_len;
      utf8 = utf8-more _ _ (take i group) (take (i + 1) group) x added.copied c.encoding.invariant.utf8 added.scalar;
      read = read-more _ _ (before ++ take i group) (before ++ take (i + 1) group) x added.copied c.encoding.invariant.utf8 added.scalar c.encoding.invariant.read all;
    }

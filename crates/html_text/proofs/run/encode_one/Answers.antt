use Rattle.std.proofs.Common.{◌+◌, ◌/◌, ◌%◌, [], ◌∷◌, ◌++◌, ap, sym, take, ◌∙◌}
use Rattle.html_text.proofs.Encoding.{first_one, four, one_more, three, two}
use Rattle.html_text.proofs.run.encode_one.Goals as goal

pub returns-then-code-lt2048-clause-copied : goal.returns-then-code-lt2048-clause-copied
returns-then-code-lt2048-clause-copied c =
    let x = c.args.c in
    let front = take c.args.at c.args.block.now in
    let a = first_one c.args.at _ c.args.block.now c.put-second.new.block (192 + x / 64) c.put-second.ensures.copied c.put-second.ensures.next in
    let b = one_more _ _ c.put-second.new.block c.put-then-code-lt2048.new.block front ((192 + x / 64) ∷ []) (128 + x % 64) a c.put-then-code-lt2048.ensures.copied c.put-then-code-lt2048.ensures.next in
    b ∙ ap (λ v. front ++ v) (sym (two x c.if-code-lt128.false c.if-code-lt2048.true))

pub returns-then-code-lt65536-clause-copied : goal.returns-then-code-lt65536-clause-copied
returns-then-code-lt65536-clause-copied c =
    let x = c.args.c in
    let front = take c.args.at c.args.block.now in
    let p = c.put-second-then-code-lt65536 in
    let q = c.put-third in
    let r = c.put-then-code-lt65536 in
    let a = first_one c.args.at _ c.args.block.now p.new.block (224 + x / 4096) p.ensures.copied p.ensures.next in
    let b = one_more _ _ p.new.block q.new.block front ((224 + x / 4096) ∷ []) (128 + x / 64 % 64) a q.ensures.copied q.ensures.next in
    let d = one_more _ _ q.new.block r.new.block front ((224 + x / 4096) ∷ (128 + x / 64 % 64) ∷ []) (128 + x % 64) b r.ensures.copied r.ensures.next in
    d ∙ ap (λ v. front ++ v) (sym (three x c.if-code-lt2048.false c.if-code-lt65536.true))

pub returns-else-code-lt65536-clause-copied : goal.returns-else-code-lt65536-clause-copied
returns-else-code-lt65536-clause-copied c =
    let x = c.args.c in
    let front = take c.args.at c.args.block.now in
    let p = c.put-second-else-code-lt65536 in
    let q = c.put-third-else-code-lt65536 in
    let r = c.put-fourth in
    let s = c.put-else-code-lt65536 in
    let a = first_one c.args.at _ c.args.block.now p.new.block (240 + x / 262144) p.ensures.copied p.ensures.next in
    let b = one_more _ _ p.new.block q.new.block front ((240 + x / 262144) ∷ []) (128 + x / 4096 % 64) a q.ensures.copied q.ensures.next in
    let d = one_more _ _ q.new.block r.new.block front ((240 + x / 262144) ∷ (128 + x / 4096 % 64) ∷ []) (128 + x / 64 % 64) b r.ensures.copied r.ensures.next in
    let e = one_more _ _ r.new.block s.new.block front ((240 + x / 262144) ∷ (128 + x / 4096 % 64) ∷ (128 + x / 64 % 64) ∷ []) (128 + x % 64) d s.ensures.copied s.ensures.next in
    e ∙ ap (λ v. front ++ v) (sym (four x c.if-code-lt65536.false))

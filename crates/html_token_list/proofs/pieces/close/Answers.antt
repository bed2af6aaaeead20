use Rattle.std.proofs.Common.{◌<◌, arith}
use Rattle.html_token_list.proofs.Pieced.{all_tokens-closed, AreWhole-closed}
use Rattle.html_token_list.proofs.pieces.close.Goals as goal

pub returns-clause-same : goal.returns-clause-same
returns-clause-same c =
    all_tokens-closed c.args.pieces.now.items c.reserve.new.self.items c.push.new.self.items c.replace-full.result c.args.last.now c.in_ok-reserve.ensures.items c.in_ok-push.ensures.items c.replace-full.ensures.value

pub returns-clause-whole : goal.returns-clause-whole
returns-clause-whole c =
    let some : 0 < c.args.last.now.count = omega arith in
    AreWhole-closed c.args.pieces.now.items c.reserve.new.self.items c.push.new.self.items c.replace-full.result c.args.last.now c.requires.whole c.in_ok-reserve.ensures.items c.in_ok-push.ensures.items c.replace-full.ensures.value some c.requires.counted

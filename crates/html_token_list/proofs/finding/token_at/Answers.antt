use Rattle.std.proofs.Common.{◌≡◌, ◌<◌, ◌≤◌, length, arith, ◌∙◌}
use Rattle.html_tokens.specs.Runs.{plain_tokens}
use Rattle.html_token_list.specs.Pieces.{piece_tokens}
use Rattle.html_token_list.proofs.Found.{AreWhole-at, found, passed}
use Rattle.html_token_list.proofs.finding.token_at.Goals as goal

pub count-count-requires : goal.count-count-requires
count-count-requires c =
    let within : c.searching.piece-index < length c.args.pieces.now = omega arith in
    record { whole = AreWhole-at c.args.pieces.now c.searching.piece-index c.piece-item.result within c.piece-item.is c.requires.whole }

pub token-requires : goal.token-requires
token-requires c =
    let within : c.searching.piece-index < length c.args.pieces.now = omega arith in
    record { whole = AreWhole-at c.args.pieces.now c.searching.piece-index c.piece-item.result within c.piece-item.is c.requires.whole }

pub returns-then-left-count : goal.returns-then-left-count
returns-then-left-count c =
    let within : c.searching.piece-index < length c.args.pieces.now = omega arith in
    let count : c.count-count.result ≡ length (piece_tokens c.piece-item.result) = c.count-count.ensures.value in
    let lt : c.searching.left < length (piece_tokens c.piece-item.result) = omega arith in
    record {
      value = c.token.ensures.value
          ∙ found c.args.pieces.now c.searching.piece-index c.searching.left c.args.index c.piece-item.result (plain_tokens c.args.last.now.start c.args.last.now.text) within c.piece-item.is c.searching.invariant lt;
    }

pub searching-preserved : goal.searching-preserved
searching-preserved c =
    let within : c.searching.piece-index < length c.args.pieces.now = omega arith in
    let le : c.count-count.result ≤ c.searching.left = omega arith in
    passed c.args.pieces.now c.searching.piece-index c.searching.left c.args.index c.count-count.result c.piece-item.result (plain_tokens c.args.last.now.start c.args.last.now.text) within c.piece-item.is c.searching.invariant c.count-count.ensures.value le

use Rattle.std.proofs.Common.{◌≡◌, ◌∙◌, take, ap, sym, arith}
use Rattle.html_arena.specs.Tree.{texted_run}
use Rattle.html_arena.proofs.Runs.{run_empty}
use Rattle.html_arena.proofs.arena.Arena.push_plain_front.Goals as goal

pub returns-else-taken-gt0-clause-added : goal.returns-else-taken-gt0-clause-added
returns-else-taken-gt0-clause-added c =
    let z : c.in_ok-taken.taken ≡ 0 = let f = c.if-taken-gt0.false in omega arith in
    sym (ap (λ n. texted_run c.args.self.now c.args.node (take n c.args.text.now)) z ∙ run_empty c.args.self.now c.args.node c.requires.is_text (c.counts.ensures.held, c.counts.ensures.steps))

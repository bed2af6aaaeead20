use Rattle.std.proofs.Common.{ℕ, List, [], refl}
use Rattle.std.specs.Prelude.{Option, Result, Ok, Err, OnErr}
use Rattle.std.specs.Str.{encode_utf8_all}
use Rattle.html_arena.specs.Tree.{Tree}
use Rattle.html_device.specs.Device.{AppendsFront}
use Rattle.html_device.proofs.Puts.{Appends-nil}
use Rattle.html_print.specs.Printed.{IsPrinted}
use Rattle.html_print.specs.declared.error.PrintError.{PrintError}
use Rattle.html_print.proofs.Walks.{printed_somehow}
use Rattle.html_print.proofs.printing.print_tree.Goals as goal

-- nothing is a front of any text
nothing : (t : Tree) (r : ℕ) (a : Option (List ℕ)) (f : Result (Unit {0}) PrintError) → OnErr f (IsPrinted t r (λ s. AppendsFront a a (encode_utf8_all s)))
nothing t r a (Ok u) = tt
nothing t r a (Err e) = printed_somehow t (λ s. AppendsFront a a (encode_utf8_all s)) r (λ s. ([], encode_utf8_all s, refl, Appends-nil a))

pub returns-in_err-ordered-clause-err : goal.returns-in_err-ordered-clause-err
returns-in_err-ordered-clause-err g c = nothing c.args.arena.now c.args.root _ c.from_residual.result

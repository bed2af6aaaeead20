use Rattle.std.proofs.Common.{inr}
use Rattle.std.proofs.lemmas.Result.{IfErr-weaker}
use Rattle.std.specs.Io.KnownBytes.{Appends}
use Rattle.html_parser.specs.Options.{start_of}
use Rattle.html_parser.proofs.Rewritten.{normalised_cause, normalised_ok, root-of}
use Rattle.html_parser.proofs.normalising.normalise_with.Goals as goal

pub serialise-requires : goal.serialise-requires
serialise-requires g c =
    let (bytes, consumed, tree) = c.in-Ok.ensures.tree in
    record { root = root-of (start_of c.args.table.now c.args.options.now) bytes c.in-Ok.page tree }

pub returns-in-Ok-clause-ok : goal.returns-in-Ok-clause-ok
returns-in-Ok-clause-ok g c =
    let (bytes, consumed, tree) = c.in-Ok.ensures.tree in
    normalised_ok (start_of c.args.table.now c.args.options.now) c.args.profile c.in-Ok.page bytes _ _ c.serialise.result consumed c.in-Ok.ensures.end tree c.serialise.ensures.size c.serialise.ensures.only
    (Appends (g.W.Sink.taken c.args.writer.now) (g.W.Sink.taken c.serialise.new.writer)) c.serialise.ensures.ok

pub returns-in-Ok-clause-cause : goal.returns-in-Ok-clause-cause
returns-in-Ok-clause-cause g c =
    let (bytes, consumed, tree) = c.in-Ok.ensures.tree in
    IfErr-weaker c.serialise.result _ _ (λ e h. inr h) (normalised_cause (start_of c.args.table.now c.args.options.now) c.args.profile c.in-Ok.page bytes _ _ c.serialise.result consumed c.in-Ok.ensures.end tree c.serialise.ensures.size c.serialise.ensures.only
    _ _ _ _ _ c.serialise.ensures.err c.serialise.ensures.fault c.serialise.ensures.cause)

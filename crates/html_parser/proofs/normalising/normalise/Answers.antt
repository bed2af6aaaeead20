use Rattle.std.specs.Io.KnownBytes.{Appends}
use Rattle.std.specs.Prelude.{None}
use Rattle.html_parser.specs.Start.{document_start}
use Rattle.html_parser.proofs.Rewritten.{normalised_cause, normalised_ok, root-of}
use Rattle.html_parser.proofs.normalising.normalise.Goals as goal

pub serialise-requires : goal.serialise-requires
serialise-requires g c =
    let (bytes, consumed, tree) = c.in-Ok.ensures.tree in
    record { root = root-of (document_start c.args.table.now None) bytes c.in-Ok.tree tree }

pub returns-in-Ok-clause-ok : goal.returns-in-Ok-clause-ok
returns-in-Ok-clause-ok g c =
    let (bytes, consumed, tree) = c.in-Ok.ensures.tree in
    normalised_ok (document_start c.args.table.now None) c.args.profile c.in-Ok.tree bytes _ _ c.serialise.result consumed c.in-Ok.ensures.end tree c.serialise.ensures.size c.serialise.ensures.only
    (Appends (g.W.Sink.taken c.args.writer.now) (g.W.Sink.taken c.serialise.new.writer)) c.serialise.ensures.ok

pub returns-in-Ok-clause-cause : goal.returns-in-Ok-clause-cause
returns-in-Ok-clause-cause g c =
    let (bytes, consumed, tree) = c.in-Ok.ensures.tree in
    normalised_cause (document_start c.args.table.now None) c.args.profile c.in-Ok.tree bytes _ _ c.serialise.result consumed c.in-Ok.ensures.end tree c.serialise.ensures.size c.serialise.ensures.only
    _ _ _ _ _ c.serialise.ensures.err c.serialise.ensures.fault c.serialise.ensures.cause

use Rattle.std.proofs.Common.{◌++◌, refl}
use Rattle.std.specs.Prelude.{codes, decimal}
use Rattle.html_device.specs.Pieces.{pieces_bytes}
use Rattle.html_device.proofs.Puts.{Moves-trans, front_after, front_first, put_after, put_err}
use Rattle.html_print.specs.Audit.{fate_text}
use Rattle.html_print.proofs.Pieced.{from_end, from_fate, from_places}
use Rattle.html_print.proofs.audit.put_line.Goals as goal

pub returns-in_err-put_pieces-clause-bytes : goal.returns-in_err-put_pieces-clause-bytes
returns-in_err-put_pieces-clause-bytes g c =
    let kind = pieces_bytes c.args.kind.now in
    let fate = fate_text c.args.fate in
    put_err _ _ _ _ _ _ c.from_residual.ensures.0
    (front_first _ _ _ _ _ c.in_err-put_pieces.ensures.bytes (kind ++ (fate ++ codes "\n")) (from_places (decimal c.args.start) (decimal c.args.end) kind fate fate refl))

pub returns-in_err-put_pieces-2-clause-bytes : goal.returns-in_err-put_pieces-2-clause-bytes
returns-in_err-put_pieces-2-clause-bytes g c =
    let kind = pieces_bytes c.args.kind.now in
    let fate = fate_text c.args.fate in
    put_err _ _ _ _ _ _ c.from_residual-in_err-put_pieces-2.ensures.0
    (front_after _ _ _ _ _ _ _ _ c.in_ok-put_pieces.ensures.bytes c.in_err-put_pieces-2.ensures.bytes (fate ++ codes "\n")
    (from_places (decimal c.args.start) (decimal c.args.end) kind fate fate refl))

pub returns-in_err-put_pieces-3-clause-bytes : goal.returns-in_err-put_pieces-3-clause-bytes
returns-in_err-put_pieces-3-clause-bytes g c =
    let kind = pieces_bytes c.args.kind.now in
    let fate = fate_text c.args.fate in
    put_err _ _ _ _ _ _ c.from_residual-in_err-put_pieces-3.ensures.0
    (front_after _ _ _ _ _ _ _ _ (Moves-trans _ _ _ _ _ _ _ _ c.in_ok-put_pieces.ensures.bytes c.in_ok-put_pieces-2.ensures.bytes) c.in_err-put_pieces-3.ensures.bytes (codes "\n")
    (from_fate (decimal c.args.start) (decimal c.args.end) kind fate _ c.fate_pieces.ensures))

pub returns-clause-bytes : goal.returns-clause-bytes
returns-clause-bytes g c =
    let kind = pieces_bytes c.args.kind.now in
    let fate = fate_text c.args.fate in
    put_after _ _ _ _ _ _ _ _ _ _
    (Moves-trans _ _ _ _ _ _ _ _ (Moves-trans _ _ _ _ _ _ _ _ c.in_ok-put_pieces.ensures.bytes c.in_ok-put_pieces-2.ensures.bytes) c.in_ok-put_pieces-3.ensures.bytes)
    c.put_pieces-4.ensures.bytes
    (from_end (decimal c.args.start) (decimal c.args.end) kind fate _ c.fate_pieces.ensures)

use Rattle.std.proofs.Common.{◌≡◌, ◌+◌, ◌++◌, ◌∙◌, [], ap, append-nil, chars, refl, sym, take}
use Rattle.html_input.specs.Unsettled.{bytes_of}
use Rattle.html_input.proofs.Feeding.{Fed-more}
use Rattle.html_input.proofs.Free.{reads_free}
use Rattle.html_input.proofs.Seams.{scalar_values-utf8, seam_after_utf8}
use Rattle.html_input.proofs.Steps.{move_at}
use Rattle.html_input.proofs.decoder.Decoder.take_text.Goals as goal

pub returns-clause-taken : goal.returns-clause-taken
returns-clause-taken c = λ taken limit bytes before f.
    let text = c.args.text.now in
    let old = c.args.self.now in
    let counted = c.add_text.ensures in
    let none : bytes_of old.unsettled ≡ [] = c.if-not-is_empty.ensures.0 refl in
    let reads = reads_free (chars text) c.requires.free (c.if-not-is_inside.ensures.0 refl) counted.previous
    (counted.count taken ∙ ap (λ n. old.normaliser.count + n) c.requires.counted)
    (counted.put_out taken ∙ ap (λ n. old.normaliser.put_out + n) c.requires.counted) refl in
    Fed-more text f
    (move_at text [] (ap (λ u. u ++ text) none ∙ sym (append-nil text)) none (seam_after_utf8 text (take 1 []) c.utf8.text) (scalar_values-utf8 text c.utf8.text) reads)
    counted.limit refl

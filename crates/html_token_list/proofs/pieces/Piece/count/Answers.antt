use Rattle.std.proofs.Common.{length, sym, ap, subst, ◌∙◌}
use Rattle.html_token_list.specs.declared.pieces.Piece.TheVariants as piece
use Rattle.html_token_list.specs.Pieces.{IsWhole, piece_tokens}
use Rattle.html_token_list.proofs.Pieced.{length-plain_tokens}
use Rattle.html_token_list.proofs.pieces.Piece.count.Goals as goal

pub returns-in-Text : goal.returns-in-Text
returns-in-Text c =
    let whole : IsWhole (piece.Text c.in-Text.stretch) = subst (λ p. IsWhole p) c.in-Text.is c.requires.whole in
    record { value = whole.1.0 ∙ sym (length-plain_tokens c.in-Text.stretch.start c.in-Text.stretch.text) ∙ ap (λ p. length (piece_tokens p)) (sym c.in-Text.is) }

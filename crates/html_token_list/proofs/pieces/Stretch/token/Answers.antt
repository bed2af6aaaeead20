use Rattle.std.proofs.Common.{◌≡◌, ◌+◌, sym, ap, ◌∙◌}
use Rattle.std.specs.Prelude.{slice_get, option_map}
use Rattle.html_tokens.specs.Tokens.{token}
use Rattle.html_tokens.specs.declared.token.TokenKind.TheVariants as kinds
use Rattle.html_token_list.proofs.Found.{slice_get-plain}
use Rattle.html_token_list.proofs.pieces.Stretch.token.Goals as goal

pub returns-in-Some : goal.returns-in-Some
returns-in-Some c =
    let at : c.char_at.result ≡ slice_get c.args.self.now.text c.args.index = c.char_at.ensures.value ∙ ap (λ cs. slice_get cs c.args.index) c.as_str.ensures.code_points in
    record {
      value = ap (λ r. option_map (λ x. token (kinds.Char x) (c.args.self.now.start + c.args.index) (c.args.self.now.start + c.args.index + 1)) r) (sym c.in-Some.is ∙ at)
          ∙ sym (slice_get-plain c.args.self.now.start c.args.self.now.text c.args.index);
    }

pub returns-in-None : goal.returns-in-None
returns-in-None c =
    let at : c.char_at.result ≡ slice_get c.args.self.now.text c.args.index = c.char_at.ensures.value ∙ ap (λ cs. slice_get cs c.args.index) c.as_str.ensures.code_points in
    record {
      value = ap (λ r. option_map (λ x. token (kinds.Char x) (c.args.self.now.start + c.args.index) (c.args.self.now.start + c.args.index + 1)) r) (sym c.in-None.is ∙ at)
          ∙ sym (slice_get-plain c.args.self.now.start c.args.self.now.text c.args.index);
    }

use Rattle.std.proofs.Common.{◌∙◌, sym}
use Rattle.html_modes.proofs.RulesInBodyEnd.{in_body_closing-other}
use Rattle.html_modes.proofs.modes.body_end.plain_end.Goals as goal

pub returns-in_default-6 : goal.returns-in_default-6
returns-in_default-6 c = record {
  rest = c.other_end.ensures.rest;
  keeps = c.other_end.ensures.keeps;
  grown = c.other_end.ensures.grown;
  works = c.other_end.ensures.works;
  lighter = c.other_end.ensures.lighter;
  opened = c.other_end.ensures.opened;
  plain = c.other_end.ensures.plain c.args.tag;
  follows = λ k f n b l p e z h.
      in_body_closing-other p c.args.tag c.args.token.now c.args.page.now e z (sym c.is_block.ensures ∙ c.if-is_block.false) (sym c.is_preformatted.ensures ∙ c.if-is_preformatted.false) c.in_default-6.not-Button f n c.in_default-6.not-Li
      (sym c.is_definition.ensures ∙ c.if-is_definition.false) (sym c.is_heading.ensures ∙ c.if-is_heading.false) l (sym c.takes_marker.ensures ∙ c.if-takes_marker.false) b (c.other_end.ensures.follows c.args.tag k p e z h);
}

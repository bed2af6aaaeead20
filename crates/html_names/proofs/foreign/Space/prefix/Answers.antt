use Rattle.std.proofs.Common.{◌∙◌, ap, sym}
use Rattle.std.proofs.lemmas.Str.{chars-nil}
use Rattle.html_names.specs.Foreign.{prefix_of}
use Rattle.html_names.proofs.Known.{svg_chars, math_chars}
use Rattle.html_names.proofs.Spaces.{space-of_prefixed}
use Rattle.html_names.proofs.foreign.Space.prefix.Goals as goal

pub returns-in-Html-clause-code_points : goal.returns-in-Html-clause-code_points
returns-in-Html-clause-code_points c = chars-nil ∙ ap prefix_of (sym c.in-Html.is)

pub returns-in-Svg-clause-code_points : goal.returns-in-Svg-clause-code_points
returns-in-Svg-clause-code_points c = svg_chars ∙ ap prefix_of (sym c.in-Svg.is)

pub returns-in-Svg-clause-own : goal.returns-in-Svg-clause-own
returns-in-Svg-clause-own c = λ h local. space-of_prefixed _ local h

pub returns-in-Math-clause-code_points : goal.returns-in-Math-clause-code_points
returns-in-Math-clause-code_points c = math_chars ∙ ap prefix_of (sym c.in-Math.is)

pub returns-in-Math-clause-own : goal.returns-in-Math-clause-own
returns-in-Math-clause-own c = λ h local. space-of_prefixed _ local h

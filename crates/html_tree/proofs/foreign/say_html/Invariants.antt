use Rattle.std.proofs.Common.{◌≡◌, drop}
use Rattle.html_tree.specs.Foreign.{says_html}
use Rattle.html_tree.proofs.foreign.say_html.Given as goal

abbrev pub invariant-loop-attr : goal.invariant-loop-attr
invariant-loop-attr l = says_html l.attrs ≡ says_html (drop l.attr-index l.attrs)

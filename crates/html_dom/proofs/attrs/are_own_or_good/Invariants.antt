use Rattle.std.proofs.Common.{◌≡◌, drop}
use Rattle.std.specs.List.{list_all}
use Rattle.html_dom.specs.Attributes.{is_own_or_good}
use Rattle.html_dom.proofs.attrs.are_own_or_good.Given as goal

abbrev pub invariant-loop-attr : goal.invariant-loop-attr
invariant-loop-attr l = list_all (λ a. is_own_or_good l.own a.name) l.attrs ≡ list_all (λ a. is_own_or_good l.own a.name) (drop l.attr-index l.attrs)

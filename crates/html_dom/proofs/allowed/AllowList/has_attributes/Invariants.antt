use Rattle.std.proofs.Common.{◌≡◌, drop}
use Rattle.std.specs.List.{list_all}
use Rattle.html_dom.specs.Allowed.{is_in}
use Rattle.html_dom.proofs.allowed.AllowList.has_attributes.Given as goal

abbrev pub invariant-loop-attr : goal.invariant-loop-attr
invariant-loop-attr l = list_all (λ a. is_in a.name l.self.attributes.items) l.attrs ≡ list_all (λ a. is_in a.name l.self.attributes.items) (drop l.attr-index l.attrs)

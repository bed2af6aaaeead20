use Rattle.std.proofs.Common.{◌≡◌, ◌∙◌, true, subst, sym}
use Rattle.html_names.specs.Names.{is_known, name_of}
use Rattle.html_names.specs.declared.tag.Tag.{Tag}
use Rattle.html_names.proofs.Known.{tag_of-known, tag_of-chars}
use Rattle.html_names.proofs.tag.Tag.of.Goals as goal

pub returns-clause-code_points : goal.returns-clause-code_points
returns-clause-code_points c = c.of_any.ensures ∙ tag_of-chars _ c.utf8.name

pub returns-clause-named : goal.returns-clause-named
returns-clause-named c =
    subst (λ (t : Tag). is_known t ≡ true → c.args.name.now ≡ name_of t) (sym c.of_any.ensures) (tag_of-known c.args.name.now)

pub returns-then-has_name-clause-code_points : goal.returns-then-has_name-clause-code_points
returns-then-has_name-clause-code_points c = sym (c.has_name.ensures c.if-has_name.true) ∙ tag_of-chars _ c.utf8.name

pub returns-then-has_name-clause-named : goal.returns-then-has_name-clause-named
returns-then-has_name-clause-named c =
    subst (λ (t : Tag). is_known t ≡ true → c.args.name.now ≡ name_of t) (c.has_name.ensures c.if-has_name.true) (tag_of-known c.args.name.now)

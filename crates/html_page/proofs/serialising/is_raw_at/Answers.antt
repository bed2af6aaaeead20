use Rattle.std.proofs.Common.{sym, ap, ◌∙◌}
use Rattle.html_names.specs.Sets.{holds_literal_text}
use Rattle.html_arena.specs.Tree.{label_of}
use Rattle.html_page.specs.Serialised.{is_raw_below}
use Rattle.html_page.proofs.Kin.{raw_is}
use Rattle.html_page.proofs.serialising.is_raw_at.Goals as goal

pub returns-in-Some : goal.returns-in-Some
returns-in-Some c =
    c.holds_literal_text.ensures ∙ ap holds_literal_text c.tag.ensures.value
    ∙ raw_is (label_of c.args.arena.now c.in-Some.above) (sym c.tag.ensures.value ∙ c.tag.ensures.of_name)
    ∙ ap (is_raw_below c.args.arena.now) (sym c.in-Some.is ∙ c.above.ensures.value)

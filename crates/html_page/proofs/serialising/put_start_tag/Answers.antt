use Rattle.std.proofs.Common.{sym, ◌∙◌}
use Rattle.html_page.proofs.Kin.{foreign_name}
use Rattle.html_page.proofs.serialising.put_start_tag.Goals as goal

pub put_foreign_tag-requires : goal.put_foreign_tag-requires
put_foreign_tag-requires g c = record { foreign = sym (foreign_name c.args.element.now.tag c.args.element.now.name c.requires.tagged) ∙ sym c.is_foreign.ensures ∙ c.if-is_foreign.true }

pub put_html_tag-requires : goal.put_html_tag-requires
put_html_tag-requires g c = record { html = sym (foreign_name c.args.element.now.tag c.args.element.now.name c.requires.tagged) ∙ sym c.is_foreign.ensures ∙ c.if-is_foreign.false }

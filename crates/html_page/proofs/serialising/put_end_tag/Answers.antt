use Rattle.std.proofs.Common.{◌≡◌, ◌++◌, Bool, true, false, cond, [], sym, ap, ◌∙◌, refl}
use Rattle.std.specs.Prelude.{codes}
use Rattle.std.specs.Str.{encode_utf8_all}
use Rattle.html_page.specs.Html.{end_tag, is_foreign_name, is_void_name, written_name}
use Rattle.html_page.proofs.Kin.{foreign_name, void_name}
use Rattle.html_page.proofs.Tagged.{between}
use Rattle.html_device.proofs.Puts.{Moves-is, Moves-nil, put_is}
use Rattle.html_page.proofs.serialising.put_end_tag.Goals as goal

pub returns-then-is_void-clause-bytes : goal.returns-then-is_void-clause-bytes
returns-then-is_void-clause-bytes g c =
    let name = c.args.element.now.name in
    let v : is_void_name name ≡ true = sym (void_name c.args.element.now.tag name c.requires.tagged) ∙ sym c.is_void.ensures ∙ c.if-is_void.true in
    Moves-is _ _ _ _ [] _ (ap (λ (b : Bool). encode_utf8_all (cond b [] (end_tag name))) (sym v)) (Moves-nil _ _)

pub put_foreign_end-requires : goal.put_foreign_end-requires
put_foreign_end-requires g c = record { foreign = sym (foreign_name c.args.element.now.tag c.args.element.now.name c.requires.tagged) ∙ sym c.is_foreign.ensures ∙ c.if-is_foreign.true }

pub returns-then-is_foreign-clause-bytes : goal.returns-then-is_foreign-clause-bytes
returns-then-is_foreign-clause-bytes g c =
    let name = c.args.element.now.name in
    let v : is_void_name name ≡ false = sym (void_name c.args.element.now.tag name c.requires.tagged) ∙ sym c.is_void.ensures ∙ c.if-is_void.false in
    put_is _ _ _ _ _ _ _ c.put_foreign_end.ensures.bytes (ap (λ (b : Bool). encode_utf8_all (cond b [] (end_tag name))) v)

pub returns-clause-bytes : goal.returns-clause-bytes
returns-clause-bytes g c =
    let name = c.args.element.now.name in
    let v : is_void_name name ≡ false = sym (void_name c.args.element.now.tag name c.requires.tagged) ∙ sym c.is_void.ensures ∙ c.if-is_void.false in
    let html : is_foreign_name name ≡ false = sym (foreign_name c.args.element.now.tag name c.requires.tagged) ∙ sym c.is_foreign.ensures ∙ c.if-is_foreign.false in
    put_is _ _ _ _ _ _ _ c.put_between.ensures.bytes
    (ap (λ (b : Bool). encode_utf8_all (cond b [] (end_tag name))) v
    ∙ ap (λ (f : Bool). encode_utf8_all (codes "</" ++ (written_name f name ++ codes ">"))) html
    ∙ between (codes "</") (codes ">") name c.as_str.result.now refl refl c.as_str.ensures.bytes)

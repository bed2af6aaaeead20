use Rattle.std.proofs.Common.{◌-◌, ◌+◌, ◌∙◌, Some, ap, drop, length, refl, sym, take}
use Rattle.std.proofs.lemmas.List.{take_rest}
use Rattle.std.proofs.lemmas.Option.{slice_get_read}
use Rattle.html_tokens.specs.Bare.{opening}
use Rattle.html_tokens.proofs.BareLemmas.{name_is, name_utf8, spelled_by, text_is, text_utf8}
use Rattle.html_tokens.proofs.bare_tag.behind.Goals as goal

pub from_utf8_unchecked-text-requires : goal.from_utf8_unchecked-text-requires
from_utf8_unchecked-text-requires c =
    let bytes = c.args.bytes.now in
    let o = c.args.opened in
    let n = c.name_len-len.result in
    let rest = take (length bytes - o) (drop o bytes) in
    let f = c.in-Some.ensures.lookup in
    let l = c.in-Some-get.ensures.lookup in
    let first = slice_get_read rest _ 0 c.in-Some.field-0.now refl f.3.0 f.1 in
    let last = slice_get_read rest _ n c.in-Some-get.field-0.now refl l.3.0 l.1 ∙ ap (λ x. Some x) c.if-last-ne62.false in
    let bare = name_is rest n c.in-Some.field-0.now first last (sym c.is_small_letter.ensures ∙ c.if-not-is_small_letter.false) c.name_len-len.ensures.name in
    let text = text_is bytes (opening c.args.is_end) rest o n (take_rest bytes o) c.requires.opens last in
    text_utf8 (take (o + n + 1) bytes) (take n rest) c.args.is_end text bare

pub from_utf8_unchecked-name-requires : goal.from_utf8_unchecked-name-requires
from_utf8_unchecked-name-requires c =
    let bytes = c.args.bytes.now in
    let o = c.args.opened in
    let n = c.name_len-len.result in
    let rest = take (length bytes - o) (drop o bytes) in
    let f = c.in-Some.ensures.lookup in
    let l = c.in-Some-get.ensures.lookup in
    let first = slice_get_read rest _ 0 c.in-Some.field-0.now refl f.3.0 f.1 in
    let last = slice_get_read rest _ n c.in-Some-get.field-0.now refl l.3.0 l.1 ∙ ap (λ x. Some x) c.if-last-ne62.false in
    let bare = name_is rest n c.in-Some.field-0.now first last (sym c.is_small_letter.ensures ∙ c.if-not-is_small_letter.false) c.name_len-len.ensures.name in
    name_utf8 (take n rest) bare

pub invariant_of-result : goal.invariant_of-result
invariant_of-result c =
    let bytes = c.args.bytes.now in
    let o = c.args.opened in
    let n = c.name_len-len.result in
    let rest = take (length bytes - o) (drop o bytes) in
    let f = c.in-Some.ensures.lookup in
    let l = c.in-Some-get.ensures.lookup in
    let first = slice_get_read rest _ 0 c.in-Some.field-0.now refl f.3.0 f.1 in
    let last = slice_get_read rest _ n c.in-Some-get.field-0.now refl l.3.0 l.1 ∙ ap (λ x. Some x) c.if-last-ne62.false in
    let bare = name_is rest n c.in-Some.field-0.now first last (sym c.is_small_letter.ensures ∙ c.if-not-is_small_letter.false) c.name_len-len.ensures.name in
    let text = text_is bytes (opening c.args.is_end) rest o n (take_rest bytes o) c.requires.opens last in
    spelled_by c.from_utf8_unchecked-text.result.now c.from_utf8_unchecked-name.result.now (take (o + n + 1) bytes) (take n rest) c.args.is_end
    c.from_utf8_unchecked-text.ensures c.from_utf8_unchecked-name.ensures text bare

use Rattle.std.proofs.Common.{◌≡◌, length, string_bytes, take, ◌∙◌, ap, subst, sym, arith}
use Rattle.std.proofs.lemmas.List.{append-nil, take_rest}
use Rattle.std.proofs.lemmas.Str.{IsCharBoundary-from_take, IsUtf8-string_bytes}
use Rattle.std.specs.Str.{IsUtf8, chars}
use Rattle.html_text.proofs.Ascii.{copied-more, copied-within, front-kept, take-self}
use Rattle.html_text.proofs.run.extend.Goals as goal

pub copying-init : goal.copying-init
copying-init c =
    let old = string_bytes c.args.text.now in
    let e : string_bytes c.reserve.new.self ≡ old = c.reserve.ensures.bytes in
    record {
      within = omega arith;
      read = ap chars e ∙ sym (append-nil (chars old));
      longer = (let l = ap length e in omega (arith, l));
      front = ap (take (length old)) e ∙ take-self old;
    }

pub truncate-requires : goal.truncate-requires
truncate-requires c =
    let old = string_bytes c.args.text.now in
    let new = string_bytes c.push_front.new.text in
    let len : c.len-start.result ≡ length old = omega (arith, c.len-start.ensures, c.args.text.now.bytes.ok.0) in
    let a = c.copying.invariant.longer in
    let b = ap length c.in-Err.ensures.err in
    let front : take c.len-start.result new ≡ old = ap (λ n. take n new) len ∙ ap (take (length old)) c.in-Err.ensures.err ∙ c.copying.invariant.front in
    let boundary = IsCharBoundary-from_take new c.len-start.result (IsUtf8-string_bytes c.push_front.new.text) (omega (arith, a, b, len)) (subst IsUtf8 (sym front) (IsUtf8-string_bytes c.args.text.now)) in
    λ _. (boundary.0, λ _. boundary.1)

pub returns-in-Err-clause-err : goal.returns-in-Err-clause-err
returns-in-Err-clause-err c =
    let old = string_bytes c.args.text.now in
    let len : c.len-start.result ≡ length old = omega (arith, c.len-start.ensures, c.args.text.now.bytes.ok.0) in
    c.truncate.ensures.bytes ∙ ap (λ n. take n (string_bytes c.push_front.new.text)) len ∙ ap (take (length old)) c.in-Err.ensures.err ∙ c.copying.invariant.front

pub copying-preserved : goal.copying-preserved
copying-preserved c =
    let run = c.args.run.now in
    let d = c.copying.done in
    let n = c.in-Ok.len in
    let e = take_rest run d in
    let old = string_bytes c.args.text.now in
    let now = string_bytes c.copying.text in
    let new = string_bytes c.push_front.new.text in
    let a = c.copying.invariant.longer in
    let b = c.push_front.ensures.longer in
    record {
      within = copied-within run _ d n e c.copying.invariant.within c.in-Ok.ensures.within;
      read = copied-more run _ d n e (chars old) (chars now) (chars new) c.copying.invariant.read c.in-Ok.ensures.ok;
      longer = omega (arith, a, b);
      front = front-kept old now new a c.copying.invariant.front c.push_front.ensures.front;
    }

use Rattle.std.proofs.Common.{◌≡◌, ◌++◌, ap, append_assoc, arith, chars, length, refl, take, ◌∙◌}
use Rattle.std.proofs.lemmas.List.{length-take-le, take-append-drop}
use Rattle.std.proofs.lemmas.Str.{IsUtf8-nil, chars-nil}
use Rattle.html_text.proofs.run.encode.Goals as goal

pub encoding-init : goal.encoding-init
encoding-init c = record {
  room = omega (arith, c.requires.room);
  same_len = refl;
  utf8 = IsUtf8-nil;
  read = ap (λ v. v ++ c.args.front.now) chars-nil;
}

pub encoding-preserved : goal.encoding-preserved
encoding-preserved c =
    let rest = c.encoding.rest.now in
    let group = c.in-Some.group.now in
    let later = c.split_at.result.1.now in
    let before = chars (take c.encoding.at c.encoding.block) in
    let first = c.in-Some.ensures.cases in
    let cut = c.split_at.ensures in
    let written = c.encode_group-at.ensures in
    let both : group ++ later ≡ rest = ap (λ v. v ++ later) first.same ∙ ap (λ v. take 8 rest ++ v) cut.back ∙ take-append-drop 8 rest in
    let len = ap length first.same ∙ length-take-le 8 rest first.enough in
    record {
      room = omega (arith, c.encoding.invariant.room, first.enough, len, cut.back_len, written.few, written.same_len);
      same_len = written.same_len ∙ c.encoding.invariant.same_len;
      utf8 = written.utf8;
      read = ap (λ v. v ++ later) written.read ∙ append_assoc before group later ∙ ap (λ v. before ++ v) both ∙ c.encoding.invariant.read;
    }

use Rattle.std.proofs.Common.{◌≡◌, ◌+◌, ◌∷◌, ◌++◌, [], ℕ, List, drop, length, length-drop, sym, ap, subst, ◌∙◌, arith, append-nil, append_assoc}
use Rattle.std.proofs.Math.Seq.{drop-append_seam}
use Rattle.std.proofs.lemmas.Str.{IsUtf8-nil}
use Rattle.html_input.specs.Added.{added}
use Rattle.html_input.specs.Plain.{IsFree}
use Rattle.html_input.proofs.Spelling.{IsFront, front-more, front-none}
use Rattle.html_input.proofs.well_formed.put_well_formed.Goals as goal

none-added : (old : List ℕ) → [] ≡ added old old
none-added old = sym (ap (drop (length old)) (sym (append-nil old)) ∙ drop-append_seam old [])

-- one code point more is put out
one-added : (first old new : List ℕ) (c : ℕ) → old ≡ first ++ added first old → new ≡ old ++ c ∷ [] → added first new ≡ added first old ++ c ∷ []
one-added first old new c k e =
    ap (drop (length first)) (e ∙ ap (λ t. t ++ c ∷ []) k ∙ append_assoc first (added first old) (c ∷ [])) ∙ drop-append_seam first (added first old ++ c ∷ [])

same-added : (first old new : List ℕ) (c : ℕ) → old ≡ first ++ added first old → new ≡ old ++ c ∷ [] → new ≡ first ++ added first new
same-added first old new c k e =
    e ∙ ap (λ t. t ++ c ∷ []) k ∙ append_assoc first (added first old) (c ∷ []) ∙ ap (λ t. first ++ t) (sym (one-added first old new c k e))

pub putting-init : goal.putting-init
putting-init c = record {
  within = omega arith;
  begins = c.requires;
  kept = sym (append-nil _) ∙ ap (λ t. c.args.out.now.items ++ t) (none-added c.args.out.now.items);
  front = subst (IsFront 0 c.args.bytes.now) (none-added c.args.out.now.items) (front-none c.args.bytes.now IsUtf8-nil);
}

pub returns-in_default-clause-utf8 : goal.returns-in_default-clause-utf8
returns-in_default-clause-utf8 c = (front-more c.putting.at c.putting.width c.putting.c c.args.bytes.now _ c.putting.invariant.front c.putting.invariant.begins).utf8

pub returns-in_default-clause-free : goal.returns-in_default-clause-free
returns-in_default-clause-free c =
    let f = front-more c.putting.at c.putting.width c.putting.c c.args.bytes.now _ c.putting.invariant.front c.putting.invariant.begins in
    subst IsFree (sym f.read) f.free

pub returns-in_default-clause-ok : goal.returns-in_default-clause-ok
returns-in_default-clause-ok c =
    let i = c.putting.invariant in
    one-added c.args.out.now.items c.putting.out.items c.push.new.self.items c.putting.c i.kept c.in_ok-push.ensures.items
    ∙ sym (front-more c.putting.at c.putting.width c.putting.c c.args.bytes.now _ i.front i.begins).read

pub putting-preserved : goal.putting-preserved
putting-preserved c =
    let i = c.putting.invariant in
    let e = one-added c.args.out.now.items c.putting.out.items c.push.new.self.items c.putting.c i.kept c.in_ok-push.ensures.items in
    record {
      within = omega (arith, i.within, i.begins.within, length-drop c.putting.at c.args.bytes.now);
      begins = c.in-Some.ensures;
      kept = same-added c.args.out.now.items c.putting.out.items c.push.new.self.items c.putting.c i.kept c.in_ok-push.ensures.items;
      front = subst (IsFront (c.putting.at + c.putting.width) c.args.bytes.now) (sym e) (front-more c.putting.at c.putting.width c.putting.c c.args.bytes.now _ i.front i.begins);
    }

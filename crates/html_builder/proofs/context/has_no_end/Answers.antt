use Rattle.std.proofs.Common.{ℕ, suc, Bool, true, false, not, ◌&&◌, ◌≡◌, ◌<◌, List, [], ◌∷◌, ◌++◌, length, take, drop, get_or, ◌+◌, sym, ap, subst, ◌∙◌, map-id, add-one, drop-cons, take-append-drop, chars, refl}
use Rattle.std.specs.List.{list_all}
use Rattle.std.proofs.lemmas.Iterator.{YieldsList-from_chars}
use Rattle.std.proofs.lemmas.Iterator.Consumers.{YieldsList-so_far, YieldsList-turn, YieldsList-end}
use Rattle.html_builder.specs.Contexts.{stays_in_name}
use Rattle.html_builder.proofs.context.has_no_end.Goals as goal

-- a list is what was taken, the next item, and the rest
turned : (xs all : List ℕ) (c : ℕ) → xs ≡ take (length xs) all → length xs < length all → c ≡ get_or all (length xs) c
    → all ≡ xs ++ (c ∷ drop (length xs + 1) all)
turned xs all c front within item =
    let n = length xs in
    let back : drop n all ≡ c ∷ drop (n + 1) all = rw (add-one, drop-cons all n c) (ap (λ x. x ∷ drop (suc n) all) (sym item)) in
    sym (take-append-drop n all) ∙ ap (λ t. t ++ drop n all) (sym front) ∙ ap (λ t. xs ++ t) back

none : (b : Bool) → (b && false) ≡ false
none true = refl
none false = refl

all-broken : (p : ℕ → Bool) (xs ys : List ℕ) (c : ℕ) → p c ≡ false → list_all p (xs ++ (c ∷ ys)) ≡ false
all-broken p [] ys c e = ap (λ b. b && list_all p ys) e
all-broken p (x ∷ xs) ys c e = ap (λ b. p x && b) (all-broken p xs ys c e) ∙ none (p x)

pub returns-then-ends_name : goal.returns-then-ends_name
returns-then-ends_name c =
    let all = chars c.args.name.now in
    let road = YieldsList-from_chars c.args.name.now c.utf8.name cc in
    let front = YieldsList-so_far road c.loop-c.yielded _ c.loop-c.yielded_by in
    let turn = YieldsList-turn road c.loop-c.yielded _ c.loop-c.yielded_by _ _ c.in-Some.c c.in-Some.is c.next.ensures.steps in
    let is : all ≡ c.loop-c.yielded ++ (c.in-Some.c ∷ drop (length c.loop-c.yielded + 1) all) =
    turned c.loop-c.yielded all c.in-Some.c (sym (map-id c.loop-c.yielded) ∙ front) turn.0 turn.1 in
    let stop : stays_in_name c.in-Some.c ≡ false = ap not (sym c.ends_name.ensures.value ∙ c.if-ends_name.true) in
    record { value = sym (ap (λ cs. list_all stays_in_name cs) is ∙ all-broken stays_in_name c.loop-c.yielded (drop (length c.loop-c.yielded + 1) all) c.in-Some.c stop) }

pub returns : goal.returns
returns c =
    let road = YieldsList-from_chars c.args.name.now c.utf8.name cc in
    let end = YieldsList-end road c.loop-c.yielded _ c.loop-c.yielded_by _ _ c.in-None.is c.next.ensures.steps in
    let all : c.loop-c.yielded ≡ chars c.args.name.now = sym (map-id c.loop-c.yielded) ∙ end.0 in
    record { value = sym (subst (λ cs. list_all stays_in_name cs ≡ true) all c.loop-c.invariant) }

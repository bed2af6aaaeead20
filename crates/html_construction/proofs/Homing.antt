-- A reconstruction leaves no element of foreign content as the current node where none was.
use Rattle.std.proofs.Common.{ℕ, ◌≡◌, ◌<◌, ◌==◌, Bool, true, false, List, [], ◌∷◌, ◌++◌, length, Option, Some, None, refl, sym, ap, subst, ◌∙◌, arith, if◌then◌else◌, length-append}
use Rattle.std.proofs.lemmas.Bool.{false≢true}
use Rattle.std.proofs.lemmas.Bool.Decides.{nat_tests}
use Rattle.std.specs.List.{list_all}
use Rattle.std.specs.Prelude.{slice_get}
use Rattle.html_names.specs.declared.tag.Tag.{Tag}
use Rattle.html_names.specs.declared.tag.Tag.TheVariants as tag
use Rattle.html_names.specs.Foreign.{is_foreign}
use Rattle.html_names.specs.Sets.{is_formatting}
use Rattle.html_tree.specs.OpenTags.{HasReopened, open_tags}
use Rattle.html_tree.specs.Searching.{current_tag}
use Rattle.html_tree.specs.States.{State as Tree}
use Rattle.html_tree.proofs.OpenTags.{current-first, length-tags}
use Rattle.html_construction.specs.Foreign.{adjusted_tag, foreign_tag, if_foreign, tag_or}
use Rattle.html_construction.specs.States.{State}

formatting-native : (g : Tag) → is_formatting g ≡ true → is_foreign g ≡ false
formatting-native tag.A e = refl
formatting-native tag.B e = refl
formatting-native tag.Big e = refl
formatting-native tag.Code e = refl
formatting-native tag.Em e = refl
formatting-native tag.Font e = refl
formatting-native tag.I e = refl
formatting-native tag.Nobr e = refl
formatting-native tag.S e = refl
formatting-native tag.Small e = refl
formatting-native tag.Strike e = refl
formatting-native tag.Strong e = refl
formatting-native tag.Tt e = refl
formatting-native tag.U e = refl
formatting-native _ e = absurd (false≢true e)

native : (g : Tag) → is_foreign g ≡ false → if_foreign (Some g) ≡ None
native g e = rw (e) refl

tree-length : (u : Tree) → length (open_tags u) ≡ length u.stack
tree-length u = length-tags u.tree u.stack

more-than-one : (n : ℕ) → 1 < n → (n == 1) ≡ false
more-than-one n h = grind (arith, nat_tests)

-- the adjusted current node of such a tree
adjusted-home : (u v : Tree) (context : Option Tag) (opened : List Tag) → list_all is_formatting opened ≡ true → open_tags v ≡ opened ++ open_tags u → 0 < length u.stack
    → if_foreign (if length u.stack == 1 then tag_or context (current_tag u) else current_tag u) ≡ None
    → if_foreign (if length v.stack == 1 then tag_or context (current_tag v) else current_tag v) ≡ None
adjusted-home u v context [] f e h n =
    let k : length v.stack ≡ length u.stack = sym (tree-length v) ∙ ap length e ∙ tree-length u in
    let c : current_tag v ≡ current_tag u = current-first v ∙ ap (λ ts. slice_get ts 0) e ∙ sym (current-first u) in
    ap (λ m. if_foreign (if m == 1 then tag_or context (current_tag v) else current_tag v)) k ∙ ap (λ o. if_foreign (if length u.stack == 1 then tag_or context o else o)) c ∙ n
adjusted-home u v context (g ∷ gs) f e h n =
    let k : length v.stack ≡ length ((g ∷ gs) ++ open_tags u) = sym (tree-length v) ∙ ap length e in
    let m : (length v.stack == 1) ≡ false = more-than-one (length v.stack) (let z = length-append (g ∷ gs) (open_tags u) in let y = tree-length u in omega (arith, k, z, y, h)) in
    let c : current_tag v ≡ Some g = current-first v ∙ ap (λ ts. slice_get ts 0) e in
    ap (λ b. if_foreign (if b then tag_or context (current_tag v) else current_tag v)) m ∙ ap if_foreign c ∙ native g (formatting-native g (first f))
  where
    first : list_all is_formatting (g ∷ gs) ≡ true → is_formatting g ≡ true
    first q = by (is_formatting g) refl
      where
        by : (b : Bool) → is_formatting g ≡ b → is_formatting g ≡ true
        by true r = r
        by false r = absurd (false≢true (sym (rw (r) refl) ∙ q))

homing : (a b : State) (v : Tree) → a.stack ≡ open_tags a.tree → b ≡ record a { tree = v; stack = open_tags v } → HasReopened a.tree v → 0 < length a.stack → foreign_tag a ≡ None → foreign_tag b ≡ None
homing a b v g e r h n = subst (λ (x : State). foreign_tag x ≡ None) (sym e) (by a.ledger.history.foreign refl)
  where
    some : 0 < length a.tree.stack
    some = let k = ap length g ∙ tree-length a.tree in omega (arith, k, h)

    by : (f : Bool) → a.ledger.history.foreign ≡ f → (if a.ledger.history.foreign then if_foreign (adjusted_tag (record a { tree = v; stack = open_tags v })) else None) ≡ None
    by false q = rw (q) refl
    by true q = ap (λ z. if z then if_foreign (adjusted_tag (record a { tree = v; stack = open_tags v })) else None) q
        ∙ adjusted-home a.tree v a.context r.opened r.formatting r.tags_are some (ap (λ z. if z then if_foreign (adjusted_tag a) else None) (sym q) ∙ n)

-- the same of a state that is seen so
pub homing-seen : (s a b : State) (v : Tree) → s ≡ a → s.stack ≡ open_tags s.tree → b ≡ record s { tree = v; stack = open_tags v } → HasReopened s.tree v → 0 < length a.stack → foreign_tag a ≡ None → foreign_tag b ≡ None
homing-seen s a b v e g r o h n = homing s b v g r o (subst (λ (x : State). 0 < length x.stack) (sym e) h) (ap foreign_tag e ∙ n)

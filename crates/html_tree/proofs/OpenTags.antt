-- The tags of the open elements.
use Rattle.std.proofs.Common.{◌≡◌, ℕ, zero, suc, ◌+◌, ◌-◌, ◌<◌, ◌≤◌, Bool, true, false, cond, eqb, List, [], ◌∷◌, ◌++◌, length, map, take, drop, get_or, Option, Some, None, ◌⊎◌, inl, inr, refl, sym, ◌∙◌, ap, subst, arith, length-append, length-take, Result, Ok, Err, OnErr}
use Rattle.std.specs.Prelude.{reverse, slice_get}
use Rattle.std.specs.List.{list_all, list_any, range_with_len, sum_by}
use Rattle.std.proofs.lemmas.Bool.{false≢true}
use Rattle.std.proofs.lemmas.Grind.{reverse_onto}
use Rattle.std.proofs.lemmas.List.{get_or-map, get_or-append_right, get_or-take, length-map as length_map, drop_at, length-drop, length-reverse, map-append, reverse-append, reverse-reverse, take-append-drop}
use Rattle.std.proofs.lemmas.List.Sums.{sum_by-append, sum_by-cons, sum_by-take-drop, sum_by_more_le, sum_by_push}
use Rattle.html_names.specs.declared.tag.Tag.{Tag}
use Rattle.html_names.specs.declared.tag.Tag.TheVariants as tag
use Rattle.html_names.specs.Sets.{is_formatting}
use Rattle.html_arena.specs.declared.data.NodeData.{NodeData}
use Rattle.html_arena.specs.declared.data.NodeData.TheVariants as node
use Rattle.html_arena.specs.Data.{cloned, label_in, tag_in}
use Rattle.html_arena.specs.Siblings.{Distinct, first_of, has, is_in, last_of, or_else, without}
use Rattle.html_arena.specs.Tree.{Tree, label_of, tag_at}
use Rattle.html_open.specs.declared.entry.Entry.{Entry}
use Rattle.html_open.specs.Adopting.{MadeClones, Survives}
use Rattle.html_open.specs.Lists.{above, after_index, below, last_index, without_last}
use Rattle.html_open.specs.Opened.{AreNodes, IsOpen, open_at}
use Rattle.html_open.specs.Reopening.{fresh}
use Rattle.html_open.specs.Scopes.{in_scope}
use Rattle.html_open.proofs.Finding.{last_where-passes}
use Rattle.html_open.proofs.Fostering.{last_of-at}
use Rattle.html_open.proofs.Inserted.{get-before}
use Rattle.html_open.proofs.Keeps.{cases_bool, cases_eqb, eqb-self, has-append, split-last}
use Rattle.html_open.proofs.Lists.{has-at, last_where-at, looked-some, not_any}
use Rattle.html_open.proofs.SafePlaces.{same-tag}
use Rattle.html_tree.specs.declared.groups.Group.{Group}
use Rattle.html_tree.specs.declared.groups.Stop.{Stop}
use Rattle.html_tree.specs.declared.groups.TableContext.{TableContext}
use Rattle.html_tree.specs.declared.groups.TableContext.TheVariants as context
use Rattle.html_tree.specs.Closing.{cleared_to, first_few, kept_to, remaining, context_end}
use Rattle.html_tree.specs.Groups.{in_group, is_context}
use Rattle.html_tree.specs.OpenTags.{HasClosed, HasContext, HasFewer, HasReopened, IsLighter, IsLighterBesides, open_tags, tags_down}
use Rattle.html_tree.specs.Searching.{context_at, current_tag, found, is_member, stops, tag_if}
use Rattle.html_tree.specs.Since.{Keeps, Since}
use Rattle.html_tree.specs.States.{IsNamed, IsSound, IsUnderWay, State, state_of}
use Rattle.html_arena.specs.declared.data.NewNode.{NewNode}
use Rattle.html_open.specs.declared.places.Place.{Place}
use Rattle.html_tree.specs.Inserting.{IsNew}
use Rattle.html_tree.proofs.Kept.{few-length, same-tag_in, since-self}

has-head : (x : ℕ) (xs : List ℕ) → has x (x ∷ xs) ≡ true
has-head x xs = rw (eqb-self x) refl

has-later : (x y : ℕ) (xs : List ℕ) → has x xs ≡ true → has x (y ∷ xs) ≡ true
has-later x y xs b = elim (cases_eqb x y) [ inl q ↦ rw q.0 refl | inr q ↦ rw q.0 b ]

-- lists of tags
pub cons-tags : (t : Tree) (x : ℕ) (s : List ℕ) → tags_down t (x ∷ s) ≡ tags_down t s ++ tag_at t x ∷ []
cons-tags t x s = reverse_onto (map (tag_at t) s) (tag_at t x) []

pub push-tags : (t : Tree) (s : List ℕ) (x : ℕ) → tags_down t (s ++ x ∷ []) ≡ tag_at t x ∷ tags_down t s
push-tags t [] x = refl
push-tags t (y ∷ s) x = cons-tags t y (s ++ x ∷ []) ∙ ap (λ v. v ++ tag_at t y ∷ []) (push-tags t s x) ∙ ap (λ v. tag_at t x ∷ v) (sym (cons-tags t y s))

pub append-tags : (t : Tree) (s r : List ℕ) → tags_down t (s ++ r) ≡ tags_down t r ++ tags_down t s
append-tags t s r = ap reverse (map-append (tag_at t) s r) ∙ reverse-append (map (tag_at t) s) (map (tag_at t) r)

pub same-tags : (t u : Tree) (s : List ℕ) → ((x : ℕ) → has x s ≡ true → tag_at u x ≡ tag_at t x) → tags_down u s ≡ tags_down t s
same-tags t u s h = ap reverse (by s h)
  where
    by : (xs : List ℕ) → ((x : ℕ) → has x xs ≡ true → tag_at u x ≡ tag_at t x) → map (tag_at u) xs ≡ map (tag_at t) xs
    by [] k = refl
    by (x ∷ xs) k = ap (λ v. v ∷ map (tag_at u) xs) (k x (has-head x xs)) ∙ ap (λ v. tag_at t x ∷ v) (by xs (λ y b. k y (has-later y x xs b)))

pub length-tags : (t : Tree) (s : List ℕ) → length (tags_down t s) ≡ length s
length-tags t s = length-reverse (map (tag_at t) s) ∙ length_map s (tag_at t)

pub take-tags : (t : Tree) (s : List ℕ) (k : ℕ) → tags_down t (take k s) ≡ drop (length s - k) (tags_down t s)
take-tags t s k =
    let e : tags_down t s ≡ tags_down t (drop k s) ++ tags_down t (take k s) = ap (tags_down t) (sym (take-append-drop k s)) ∙ append-tags t (take k s) (drop k s) in
    let l : length (tags_down t (drop k s)) ≡ length s - k = length-tags t (drop k s) ∙ length-drop k s in
    sym (ap (drop (length s - k)) e ∙ drop_at (tags_down t (drop k s)) (tags_down t (take k s)) (length s - k) l)

pub sum-tags : (w : Tag → ℕ) (t : Tree) (s : List ℕ) → sum_by w (tags_down t s) ≡ sum_by (λ x. w (tag_at t x)) s
sum-tags w t [] = refl
sum-tags w t (x ∷ s) =
    let a = sum-tags w t s in
    let b : sum_by w (tags_down t (x ∷ s)) ≡ sum_by w (tags_down t s) + w (tag_at t x) = ap (sum_by w) (cons-tags t x s) ∙ sum_by_push w (tags_down t s) (tag_at t x) in
    let c = sum_by-cons (λ y. w (tag_at t y)) x s in
    omega (arith, a, b, c)

-- the tag of the last element is the first
pub first-tag : (t : Tree) (s : List ℕ) (x : ℕ) → last_of s ≡ Some x → slice_get (tags_down t s) 0 ≡ Some (tag_at t x)
first-tag t [] x e = absurd (let k = e in cc)
first-tag t (y ∷ []) x e = (let k : y ≡ x = (let c : Some y ≡ Some x = e in cc) in ap (λ v. Some (tag_at t v)) k)
first-tag t (y ∷ z ∷ s) x e =
    ap (λ v. slice_get v 0) (cons-tags t y (z ∷ s)) ∙ onto (tags_down t (z ∷ s)) (first-tag t (z ∷ s) x (later (last_of s) e))
  where
    later : (o : Option ℕ) → or_else (or_else o (Some z)) (Some y) ≡ Some x → or_else o (Some z) ≡ Some x
    later None k = k
    later (Some v) k = k

    onto : (xs : List Tag) → slice_get xs 0 ≡ Some (tag_at t x) → slice_get (xs ++ tag_at t y ∷ []) 0 ≡ Some (tag_at t x)
    onto [] k = absurd (let q = k in cc)
    onto (v ∷ xs) k = k

-- the element at an index
pub at-tag : (t : Tree) (s : List ℕ) (i x : ℕ) → i < length s → x ≡ get_or s i x → slice_get (reverse (tags_down t s)) i ≡ Some (tag_at t x)
at-tag t s i x b e = ap (λ v. slice_get v i) (reverse-reverse (map (tag_at t) s)) ∙ by s i b e
  where
    by : (xs : List ℕ) (k : ℕ) → k < length xs → x ≡ get_or xs k x → slice_get (map (tag_at t) xs) k ≡ Some (tag_at t x)
    by [] k c q = absurd (omega arith)
    by (y ∷ xs) zero c q = ap (λ v. Some (tag_at t v)) (sym q)
    by (y ∷ xs) (suc k) c q = by xs k (omega arith) q

pub deepest-tag : (t : Tree) (s : List ℕ) → IsNamed t tag.Html (first_of s) → 0 < length s → slice_get (reverse (tags_down t s)) 0 ≡ Some tag.Html
deepest-tag t [] f b = absurd (omega (arith, b))
deepest-tag t (x ∷ s) f b = at-tag t (x ∷ s) 0 x b refl ∙ ap Some (same-tag (tag_at t x) tag.Html (f x refl).1)

pub current-first : (a : State) → current_tag a ≡ slice_get (open_tags a) 0
current-first a = by (last_of a.stack) refl
  where
    none : (s : List ℕ) → last_of s ≡ None → s ≡ []
    none [] e = refl
    none (x ∷ s) e = absurd (some (last_of s) e)
      where
        some : (o : Option ℕ) → or_else o (Some x) ≡ None → ⊥
        some None k = absurd (let q = k in cc)
        some (Some y) k = absurd (let q = k in cc)

    by : (o : Option ℕ) → last_of a.stack ≡ o → tag_if a.tree o ≡ slice_get (open_tags a) 0
    by None e = ap (λ s. slice_get (tags_down a.tree s) 0) (sym (none a.stack e))
    by (Some x) e = sym (first-tag a.tree a.stack x e)

-- states
pub same-stack : (a b : State) → AreNodes a.tree a.stack → Since a b → b.stack ≡ a.stack → open_tags b ≡ open_tags a
same-stack a b n s e = ap (tags_down b.tree) e ∙ same-tags a.tree b.tree a.stack (λ x h. same-tag_in (label_of a.tree x) (label_of b.tree x) (s.labels x (n x h)))

pub pushed : (a b : State) (x : ℕ) (g : Tag) → AreNodes a.tree a.stack → Since a b → b.stack ≡ a.stack ++ x ∷ [] → tag_at b.tree x ≡ g → open_tags b ≡ g ∷ open_tags a
pushed a b x g n s e i =
    ap (tags_down b.tree) e ∙ push-tags b.tree a.stack x ∙ ap (λ v. v ∷ tags_down b.tree a.stack) i
    ∙ ap (λ v. g ∷ v) (same-tags a.tree b.tree a.stack (λ y h. same-tag_in (label_of a.tree y) (label_of b.tree y) (s.labels y (n y h))))

-- the state was opened
module _ (a b : State) (s : List ℕ) (l : List Entry) (t : Tree) (n : ℕ) (h f d : Option ℕ) (w : state_of s l t n h f d ≡ a) (p : IsUnderWay s l t n h f d) where
  nodes : AreNodes a.tree a.stack
  nodes = subst (λ (v : State). AreNodes v.tree v.stack) w p.is_open.stack_in

  pub kept-tags : Keeps a b → b.stack ≡ s → open_tags b ≡ open_tags a
  kept-tags k e = same-stack a b nodes (k a (since-self a)) (e ∙ ap (λ (v : State). v.stack) w)

  pub opened-tags : (x : ℕ) (g : Tag) → Keeps a b → b.stack ≡ s ++ x ∷ [] → tag_at b.tree x ≡ g → open_tags b ≡ g ∷ open_tags a
  opened-tags x g k e i = pushed a b x g nodes (k a (since-self a)) (e ∙ ap (λ (v : State). v.stack ++ x ∷ []) w) i

-- elements are closed
pub few-is : (a b : State) (k : ℕ) → b ≡ record a { stack = first_few k a.stack; steps = b.steps } → open_tags b ≡ drop (length a.stack - kept_to (length a.stack) k) (open_tags a)
few-is a b k e = ap open_tags e ∙ take-tags a.tree a.stack (kept_to (length a.stack) k)

pub few-lighter : (a b : State) → HasFewer a b → IsLighter a b
few-lighter a b h w =
    let e : sum_by w (open_tags b) ≡ sum_by w (drop h.0 (open_tags a)) = ap (sum_by w) h.1 in
    let q = sum_by-take-drop w (open_tags a) h.0 in
    omega (arith, e, q)

pub few-tags : (a b : State) (k : ℕ) → b ≡ record a { stack = first_few k a.stack; steps = b.steps } → HasFewer a b
few-tags a b k e = (length a.stack - kept_to (length a.stack) k, few-is a b k e)

pub few-weigh-less : (a b : State) (k : ℕ) → b ≡ record a { stack = first_few k a.stack; steps = b.steps } → IsLighter a b
few-weigh-less a b k e = few-lighter a b (few-tags a b k e)

pub popped-tags : (a b : State) (k : ℕ) → b ≡ record a { stack = first_few k a.stack; steps = b.steps } → k ≡ length a.stack - 1 → 1 < length a.stack → open_tags b ≡ drop 1 (open_tags a)
popped-tags a b k e i l = (let n : length a.stack - kept_to (length a.stack) k ≡ 1 = omega (arith, i, l) in few-is a b k e ∙ ap (λ m. drop m (open_tags a)) n)

pub shorter-lighter : (a b : State) (s : List ℕ) → b ≡ record a { stack = s; steps = b.steps } → ((f : ℕ → ℕ) → sum_by f s ≤ sum_by f a.stack) → IsLighter a b
shorter-lighter a b s e h w =
    let q : sum_by w (open_tags b) ≡ sum_by w (tags_down a.tree s) = ap (λ v. sum_by w (open_tags v)) e in
    let x = sum-tags w a.tree s in
    let y = sum-tags w a.tree a.stack in
    let z = h (λ v. w (tag_at a.tree v)) in
    omega (arith, q, x, y, z)

sum-without : (p : ℕ → Bool) (s : List ℕ) (f : ℕ → ℕ) → sum_by f (without_last p s) ≤ sum_by f s
sum-without p s f = elim (cases_bool (list_any p s)) [
  | inl e ↦ (let k = split-last p s e in
      let i : sum_by f s ≡ sum_by f (below p s) + sum_by f (k.0 ∷ above p s) = ap (sum_by f) k.1 ∙ sum_by-append f (below p s) (k.0 ∷ above p s) in
      let j = sum_by-cons f k.0 (above p s) in
      let m = sum_by-append f (below p s) (above p s) in
      rw e (omega (arith, i, j, m)))
  | inr e ↦ rw e (omega arith)
]

pub removed-lighter : (a b : State) (x : ℕ) → b ≡ record a { stack = remaining x a.stack; steps = b.steps } → IsLighter a b
removed-lighter a b x e = shorter-lighter a b (remaining x a.stack) e (λ f. by f (is_in x (first_of a.stack)))
  where
    by : (f : ℕ → ℕ) (c : Bool) → sum_by f (cond c a.stack (without_last (eqb x) a.stack)) ≤ sum_by f a.stack
    by f true = omega arith
    by f false = sum-without (eqb x) a.stack f

-- the last element that passes, at its index
passes-at : (p : ℕ → Bool) (s : List ℕ) (i : ℕ) → last_index p s ≡ Some i → p (get_or s i 0) ≡ true
passes-at p s i e = last_where-passes p s (get_or s i 0) (last_where-at p s i 0 e)

-- the stack is cleared
html-meets : (d : TableContext) → is_context d tag.Html ≡ true
html-meets context.Table = refl
html-meets context.Body = refl
html-meets context.Row = refl

-- the first element, an html, is one back to which the stack is cleared
pub some-meets : (a : State) (c : TableContext) → IsSound a → list_any (context_at a.tree c) a.stack ≡ false → length a.stack ≡ 0
some-meets a c s n = by a.stack s.first n
  where
    by : (xs : List ℕ) → IsNamed a.tree tag.Html (first_of xs) → list_any (context_at a.tree c) xs ≡ false → length xs ≡ 0
    by [] f k = refl
    by (x ∷ xs) f k = absurd (let m : context_at a.tree c x ≡ true = ap (is_context c) (same-tag (tag_at a.tree x) tag.Html (f x refl).1) ∙ html-meets c in let q : true ≡ false = rw m at k in cc)

pub cleared-context : (a b : State) (c : TableContext) → IsSound a → b ≡ record a { stack = cleared_to a c; steps = b.steps } → HasContext c b
cleared-context a b c s e g rest h = by (last_index (context_at a.tree c) a.stack) refl
  where
    by : (o : Option ℕ) → last_index (context_at a.tree c) a.stack ≡ o → is_context c g ≡ true
    by None k = absurd (
        let x : length (open_tags b) ≡ length (cleared_to a c) = ap (λ v. length (open_tags v)) e ∙ length-tags a.tree (cleared_to a c) in
        let z : length (cleared_to a c) ≡ kept_to (length a.stack) (context_end a c) = few-length (context_end a c) a.stack in
        let n = some-meets a c s (not_any (context_at a.tree c) a.stack k) in
        let y : length (open_tags b) ≡ suc (length rest) = ap length h in
        omega (arith, x, y, z, n))
    by (Some i) k =
        let within = (looked-some (context_at a.tree c) a.stack i k).1 in
        let len : length (take (i + 1) a.stack) ≡ i + 1 = length-take (i + 1) a.stack ∙ omega (arith, within) in
        let few : kept_to (length a.stack) (i + 1) ≡ i + 1 = omega (arith, within) in
        let cut : cleared_to a c ≡ take (i + 1) a.stack = ap (λ o. first_few (after_index o) a.stack) k ∙ ap (λ n. take n a.stack) few in
        let end : length (take (i + 1) a.stack) - 1 ≡ i = omega (arith, len) in
        let last : last_of (take (i + 1) a.stack) ≡ Some (get_or a.stack i 0) =
        last_of-at (take (i + 1) a.stack) 0 (omega (arith, len)) ∙ ap (λ n. Some (get_or (take (i + 1) a.stack) n 0)) end ∙ ap Some (get_or-take (i + 1) a.stack i 0 (omega arith)) in
        let top : slice_get (open_tags b) 0 ≡ Some (tag_at a.tree (get_or a.stack i 0)) = ap (λ v. slice_get (open_tags v) 0) e ∙ ap (λ s. slice_get (tags_down a.tree s) 0) cut ∙ first-tag a.tree (take (i + 1) a.stack) (get_or a.stack i 0) last in
        let is : g ≡ tag_at a.tree (get_or a.stack i 0) = (let q : Some g ≡ Some (tag_at a.tree (get_or a.stack i 0)) = sym (ap (λ v. slice_get v 0) h) ∙ top in cc) in
        ap (is_context c) is ∙ passes-at (context_at a.tree c) a.stack i k

-- an element of a group is closed
pub last-found : (a : State) (g : Group) (e : Stop) (i : ℕ) → found a g e ≡ Some i → last_index (is_member a.tree g) a.stack ≡ Some i
last-found a g e i k = if-there (in_scope (is_member a.tree g) (stops a.tree e) a.stack) (last_index (is_member a.tree g) a.stack) k
  where
    if-there : (c : Bool) (o : Option ℕ) → cond c o None ≡ Some i → o ≡ Some i
    if-there true o q = q
    if-there false o q = absurd (let r = q in cc)

-- the first element, an html, is not of the group
pub later-found : (a : State) (g : Group) (i : ℕ) → IsSound a → in_group g tag.Html ≡ false → last_index (is_member a.tree g) a.stack ≡ Some i → 0 < i
later-found a g i s n at = not-first i a.stack (looked-some (is_member a.tree g) a.stack i at).1 s.first (passes-at (is_member a.tree g) a.stack i at)
  where
    not-first : (k : ℕ) (xs : List ℕ) → k < length xs → IsNamed a.tree tag.Html (first_of xs) → is_member a.tree g (get_or xs k 0) ≡ true → 0 < k
    not-first k [] c f p = absurd (omega arith)
    not-first zero (x ∷ xs) c f p = absurd (false≢true (sym n ∙ ap (in_group g) (sym (same-tag (tag_at a.tree x) tag.Html (f x refl).1)) ∙ p))
    not-first (suc k) (x ∷ xs) c f p = omega arith

pub closed-group : (a b : State) (g : Group) (e : Stop) (i : ℕ) → IsSound a → Some i ≡ found a g e → b ≡ record a { stack = first_few i a.stack; steps = b.steps } → in_group g tag.Html ≡ false → HasClosed g a b
closed-group a b g e i s h q n w m least =
    let at = last-found a g e i (sym h) in
    let within = (looked-some (is_member a.tree g) a.stack i at).1 in
    let member = passes-at (is_member a.tree g) a.stack i at in
    let later : 0 < i = later-found a g i s n at in
    let few : kept_to (length a.stack) i ≡ i = omega (arith, within, later) in
    let cut : first_few i a.stack ≡ take i a.stack = ap (λ n. take n a.stack) few in
    let x : sum_by w (open_tags b) ≡ sum_by w (tags_down a.tree (take i a.stack)) = ap (λ v. sum_by w (open_tags v)) q ∙ ap (λ v. sum_by w (tags_down a.tree v)) cut in
    let y = sum-tags w a.tree (take i a.stack) in
    let z = sum-tags w a.tree a.stack in
    let v = sum_by_more_le (λ y. w (tag_at a.tree y)) a.stack i 0 within in
    let u = least (tag_at a.tree (get_or a.stack i 0)) member in
    omega (arith, x, y, z, v, u)

-- sums over lists without repetition
has-without : (y x : ℕ) (ys : List ℕ) → has y ys ≡ true → eqb y x ≡ false → has y (without x ys) ≡ true
has-without y x [] h e = absurd (false≢true h)
has-without y x (z ∷ zs) h e = elim (cases_eqb x z) [
  | inl q ↦ (let n : eqb y z ≡ false = subst (λ v. eqb y v ≡ false) q.1 e in rw q.0 (sym (ap (λ b. cond b true (has y zs)) n) ∙ h))
  | inr q ↦ rw q.0 (elim (cases_eqb y z) [ inl r ↦ rw r.0 refl | inr r ↦ rw r.0 (has-without y x zs (sym (ap (λ b. cond b true (has y zs)) r.0) ∙ h) e) ])
]

sum-out : (f : ℕ → ℕ) (x : ℕ) (ys : List ℕ) → has x ys ≡ true → sum_by f (without x ys) + f x ≡ sum_by f ys
sum-out f x [] h = absurd (false≢true h)
sum-out f x (z ∷ zs) h = elim (cases_eqb x z) [
  | inl q ↦ (let c = sum_by-cons f z zs in let k : f x ≡ f z = ap f q.1 in rw q.0 (omega (arith, c, k)))
  | inr q ↦ (let r = sum-out f x zs (sym (ap (λ b. cond b true (has x zs)) q.0) ∙ h) in let c = sum_by-cons f z zs in let k = sum_by-cons f z (without x zs) in rw q.0 (omega (arith, r, c, k)))
]

sum-within : (f : ℕ → ℕ) (xs ys : List ℕ) → Distinct xs → ((x : ℕ) → has x xs ≡ true → (f x ≡ 0) ⊎ (has x ys ≡ true)) → sum_by f xs ≤ sum_by f ys
sum-within f [] ys d h = omega arith
sum-within f (x ∷ xs) ys d h = elim (h x (has-head x xs)) [
  | inl z ↦ (let r = sum-within f xs ys d.1 (λ y b. h y (has-later y x xs b)) in let c = sum_by-cons f x xs in omega (arith, z, r, c))
  | inr m ↦ (let r = sum-within f xs (without x ys) d.1 (λ y b. rest y b (h y (has-later y x xs b))) in let c = sum_by-cons f x xs in let o = sum-out f x ys m in omega (arith, r, c, o))
]
  where
    rest : (y : ℕ) → has y xs ≡ true → (f y ≡ 0) ⊎ (has y ys ≡ true) → (f y ≡ 0) ⊎ (has y (without x ys) ≡ true)
    rest y b (inl z) = inl z
    rest y b (inr k) = inr (has-without y x ys k (elim (cases_eqb y x) [
      | inl q ↦ absurd (false≢true (sym d.0 ∙ subst (λ v. has v xs ≡ true) q.1 b))
      | inr q ↦ q.0
    ]))

-- clones of formatting elements
cloned-tag : (d : NodeData) → tag_in (cloned d) ≡ tag_in d
cloned-tag node.Document = refl
cloned-tag (node.Contents h) = refl
cloned-tag (node.Element e) = refl
cloned-tag (node.Text s) = refl
cloned-tag (node.Comment s i) = refl
cloned-tag (node.Doctype n p s i) = refl

later-of : (n k x : ℕ) → has x (range_with_len n k) ≡ true → n ≤ x
later-of n zero x h = absurd (false≢true h)
later-of n (suc k) x h = elim (cases_eqb x n) [
  | inl q ↦ (let e = q.1 in omega (arith, e))
  | inr q ↦ (let r = later-of (n + 1) k x (sym (ap (λ b. cond b true (has x (range_with_len (n + 1) k))) q.0) ∙ h) in omega (arith, r))
]

all-push : (p : Tag → Bool) (xs : List Tag) (g : Tag) → list_all p xs ≡ true → p g ≡ true → list_all p (xs ++ g ∷ []) ≡ true
all-push p [] g h e = rw e refl
all-push p (x ∷ xs) g h e = elim (cases_bool (p x)) [
  | inl q ↦ rw q (all-push p xs g (rw q at h) e)
  | inr q ↦ absurd (let k : false ≡ true = rw q at h in false≢true k)
]

all-tags : (p : Tag → Bool) (t : Tree) (s : List ℕ) → ((x : ℕ) → has x s ≡ true → p (tag_at t x) ≡ true) → list_all p (tags_down t s) ≡ true
all-tags p t [] h = refl
all-tags p t (x ∷ s) h = ap (list_all p) (cons-tags t x s) ∙ all-push p (tags_down t s) (tag_at t x) (all-tags p t s (λ y b. h y (has-later y x s b))) (h x (has-head x s))

order : (a b : ℕ) → (a < b) ⊎ (b ≤ a)
order a b = grind arith

-- a node that was made is a formatting element
pub clone-formatting : (s : List ℕ) (l : List Entry) (t u : Tree) → MadeClones (open_at s l t) u → IsOpen (open_at s l t) → (x : ℕ) → length t.labels ≤ x → x < length u.labels → is_formatting (tag_at u x) ≡ true
clone-formatting s l t u m o x a b =
    let k : length u.labels ≡ length t.labels + length m.elements =
    ap length m.labels_are ∙ length-append t.labels (map (λ y. cloned (label_of t y)) m.elements) ∙ ap (λ v. length t.labels + v) (length_map m.elements (λ y. cloned (label_of t y))) in
    let within : x - length t.labels < length m.elements = omega (arith, a, b, k) in
    let member = has-at m.elements (x - length t.labels) 0 within in
    let e : tag_at u x ≡ tag_at t (get_or m.elements (x - length t.labels) 0) =
    ap (λ ds. tag_in (label_in ds x)) m.labels_are
    ∙ ap tag_in (get_or-append_right t.labels (map (λ y. cloned (label_of t y)) m.elements) (length t.labels) x node.Document refl a ∙ get_or-map (λ y. cloned (label_of t y)) m.elements (x - length t.labels) 0 node.Document within)
    ∙ cloned-tag (label_of t (get_or m.elements (x - length t.labels) 0)) in
    ap is_formatting e ∙ o.formatting (get_or m.elements (x - length t.labels) 0) (m.listed (get_or m.elements (x - length t.labels) 0) member)

module _ (s s' : List ℕ) (l l' : List Entry) (t u : Tree) (n : ℕ) (h f d : Option ℕ) (m : MadeClones (open_at s l t) u) (o : IsOpen (open_at s l t)) (nodes : AreNodes u s') where
  old-tag : (x : ℕ) → x < length t.labels → tag_at u x ≡ tag_at t x
  old-tag x b = ap (λ ds. tag_in (label_in ds x)) m.labels_are ∙ ap tag_in (get-before t.labels (map (λ y. cloned (label_of t y)) m.elements) x node.Document b)

  pub clone-tag : (x : ℕ) → length t.labels ≤ x → x < length u.labels → is_formatting (tag_at u x) ≡ true
  clone-tag x a b = clone-formatting s l t u m o x a b

  pub reopened-tags : (k : ℕ) → s' ≡ s ++ fresh t k → HasReopened (state_of s l t n h f d) (state_of s' l' u n h f d)
  reopened-tags k e = record {
    opened = tags_down u (fresh t k);
    formatting = all-tags is_formatting u (fresh t k) (λ x b. clone-tag x (later-of (length t.labels) k x b) (nodes x (ap (has x) e ∙ has-append x s (fresh t k) ∙ either (has x s) b)));
    tags_are = ap (tags_down u) e ∙ append-tags u s (fresh t k) ∙ ap (λ v. tags_down u (fresh t k) ++ v) (same-tags t u s (λ x b. old-tag x (o.stack_in x b)));
  }
    where
      either : (c : Bool) {b : Bool} → b ≡ true → cond c true b ≡ true
      either true e = refl
      either false e = e

  pub adopted-lighter : Distinct s' → Survives (open_at s l t) (open_at s' l' u) → IsLighterBesides (state_of s l t n h f d) (state_of s' l' u n h f d)
  adopted-lighter once v w zero-for =
      let a = sum-tags w u s' in
      let b = sum-tags w u s in
      let c : sum_by w (tags_down u s) ≡ sum_by w (tags_down t s) = ap (sum_by w) (same-tags t u s (λ x b. old-tag x (o.stack_in x b))) in
      let e = sum-within (λ x. w (tag_at u x)) s' s once (λ x b. elim (order x (length t.labels)) [
        | inl q ↦ inr (v.on_stack x q b)
        | inr q ↦ inl (zero-for (tag_at u x) (clone-tag x q (nodes x b)))
      ]) in
      omega (arith, a, b, c, e)

-- a formatting element was opened
pub reopened-one : (a b : State) (g : Tag) → is_formatting g ≡ true → open_tags b ≡ g ∷ open_tags a → HasReopened a b
reopened-one a b g e h = record { opened = g ∷ []; formatting = all-push is_formatting [] g refl e; tags_are = h }

-- a node was made, and is not opened
pub made-tags : (s s' : List ℕ) (t u v : Tree) (at : Place) (new : NewNode) (k : ℕ) → AreNodes t s → IsNew t u at new k → v ≡ u → s' ≡ s → tags_down v s' ≡ tags_down t s
made-tags s s' t u v at new k n e i j = ap (tags_down v) j ∙ ap (λ w. tags_down w s) i ∙ same-tags t u s (λ x b. ap tag_in (e.laws.same_labels x (n x b)))

pub always-err : {A E P : Type 0} (r : Result A E) → P → OnErr r P
always-err (Ok x) p = tt
always-err (Err e) p = p

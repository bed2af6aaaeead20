-- Lists of tags from the current node down: what stands on what.
use Rattle.std.proofs.Common.{◌≡◌, ◌⊎◌, Bool, true, false, not, cond, ◌&&◌, ◌||◌, List, [], ◌∷◌, ◌++◌, inl, inr, refl, sym, ◌∙◌, ap, subst}
use Rattle.std.specs.List.{list_any}
use Rattle.std.proofs.lemmas.Bool.{false≢true}
use Rattle.html_names.specs.declared.tag.Tag.{Tag}
use Rattle.html_names.specs.declared.tag.Tag.TheVariants as tag
use Rattle.html_names.specs.Groups.{is_table_part}
use Rattle.html_names.specs.Sets.{is_cell, is_formatting, is_section, is_special, is_template}
use Rattle.html_names.specs.Tags.{is_same}
use Rattle.html_laws.proofs.Tags.{of-all}

-- TAGS

-- html, head, body, frameset
abbrev pub is_frame : Tag → Bool
is_frame g = is_same g tag.Html || (is_same g tag.Head || (is_same g tag.Body || is_same g tag.Frameset))

-- a part of a table
abbrev pub is_part : Tag → Bool
is_part g = is_cell g || (is_same g tag.Tr || is_table_part g)

-- what parts stand on, the html of a fragment aside
abbrev pub carries : Tag → Bool
carries g = is_same g tag.Table || (is_template g || (is_section g || is_same g tag.Tr))

-- what a part of this tag stands on
abbrev pub is_under : Tag → Tag → Bool
is_under g h = is_template h || cond (is_cell g) (is_same h tag.Tr) (cond (is_same g tag.Tr) (is_section h) (is_same h tag.Table))

-- an element of the first tag may stand on one of the second
abbrev pub sits : Tag → Tag → Bool
sits g h = not (is_frame g) && (not (is_part g) || is_under g h)

-- neither a part of a table, nor a table, a template or one of the frame
abbrev pub is_plain : Tag → Bool
is_plain g = not (is_frame g || (is_part g || carries g))

-- LISTS

-- the first that is no formatting element, or else this
abbrev pub over : Tag → List Tag → Tag
over h [] = h
over h (g ∷ gs) = cond (is_formatting g) (over h gs) g

-- each but the formatting elements may stand on the next such, and the last on this
abbrev pub chain : Tag → List Tag → Bool
chain h [] = true
chain h (g ∷ gs) = (is_formatting g || sits g (over h gs)) && chain h gs

pub both : (a b : Bool) → (a && b) ≡ true → (a ≡ true) × (b ≡ true)
both true b e = (refl, e)
both false b e = absurd (false≢true e)

pub join : (a b : Bool) → a ≡ true → b ≡ true → (a && b) ≡ true
join true b h k = k
join false b h k = absurd (false≢true h)

pub cases : (b : Bool) → (b ≡ true) ⊎ (b ≡ false)
cases true = inl refl
cases false = inr refl

pub either : (a b : Bool) → (a || b) ≡ true → (a ≡ true) ⊎ (b ≡ true)
either true b e = inl refl
either false b e = inr e

pub neither : (a b : Bool) → (a || b) ≡ false → (a ≡ false) × (b ≡ false)
neither true b e = absurd (false≢true (sym e))
neither false b e = (refl, e)

pub left : (a b : Bool) → a ≡ true → (a || b) ≡ true
left a b h = ap (λ x. x || b) h

pub right : (a b : Bool) → b ≡ true → (a || b) ≡ true
right true b h = refl
right false b h = h

implies-by : (a b : Bool) → (not a || b) ≡ true → a ≡ true → b ≡ true
implies-by true b e h = e
implies-by false b e h = absurd (false≢true h)

pub not-true : (b : Bool) → not b ≡ true → b ≡ false
not-true true h = absurd (false≢true h)
not-true false h = refl

pub not-false : (b : Bool) → b ≡ false → not b ≡ true
not-false b h = ap not h

-- formatting elements carry nothing, and are no parts
pub formatting-plain : (g : Tag) → is_formatting g ≡ true → is_plain g ≡ true
formatting-plain g h = implies-by (is_formatting g) (is_plain g) (of-all (λ v. not (is_formatting v) || is_plain v) refl g) h

-- what is not special carries nothing, and is no part
pub common-plain : (g : Tag) → is_special g ≡ false → is_plain g ≡ true
common-plain g h = by (either (is_special g) (is_plain g) (of-all (λ v. is_special v || is_plain v) refl g))
  where
    by : ((is_special g ≡ true) ⊎ (is_plain g ≡ true)) → is_plain g ≡ true
    by (inl k) = absurd (false≢true (sym h ∙ k))
    by (inr k) = k

pub plain-light : (g : Tag) → is_plain g ≡ true → carries g ≡ false
plain-light g h =
    let a = neither (is_frame g) (is_part g || carries g) (not-true (is_frame g || (is_part g || carries g)) h) in
    (neither (is_part g) (carries g) a.1).1

-- what is under a part carries
pub under-carries : (g h : Tag) → is_part g ≡ true → is_under g h ≡ true → carries h ≡ true
under-carries g h p u = by (either (is_template h) _ u)
  where
    deeper : (a b : Bool) → cond a (is_same h tag.Tr) (cond b (is_section h) (is_same h tag.Table)) ≡ true → carries h ≡ true
    deeper true b k = right (is_same h tag.Table) _ (right (is_template h) _ (right (is_section h) _ k))
    deeper false true k = right (is_same h tag.Table) _ (right (is_template h) _ (left (is_section h) _ k))
    deeper false false k = left (is_same h tag.Table) _ k

    by : ((is_template h ≡ true) ⊎ (cond (is_cell g) (is_same h tag.Tr) (cond (is_same g tag.Tr) (is_section h) (is_same h tag.Table)) ≡ true)) → carries h ≡ true
    by (inl k) = right (is_same h tag.Table) _ (left (is_template h) _ k)
    by (inr k) = deeper (is_cell g) (is_same g tag.Tr) k

-- what stands on something that carries nothing stands on anything
pub sits-any : (g h k : Tag) → carries h ≡ false → sits g h ≡ true → sits g k ≡ true
sits-any g h k n s = (let c = both (not (is_frame g)) (not (is_part g) || is_under g h) s in join (not (is_frame g)) (not (is_part g) || is_under g k) c.0 (by (is_part g) refl c.1))
  where
    by : (b : Bool) → is_part g ≡ b → (not b || is_under g h) ≡ true → (not b || is_under g k) ≡ true
    by false e u = refl
    by true e u = absurd (false≢true (sym n ∙ under-carries g h e u))

-- without one that carries nothing
over-drop : (h g : Tag) (us zs : List Tag) (a : Tag) → carries g ≡ false → sits a (over h (us ++ g ∷ zs)) ≡ true → sits a (over h (us ++ zs)) ≡ true
over-drop h g [] zs a l s = by (is_formatting g) s
  where
    by : (b : Bool) → sits a (cond b (over h zs) g) ≡ true → sits a (over h zs) ≡ true
    by true k = k
    by false k = sits-any a g (over h zs) l k
over-drop h g (b ∷ us) zs a l s = by (is_formatting b) (over-drop h g us zs a l) s
  where
    by : (x : Bool) → (sits a (over h (us ++ g ∷ zs)) ≡ true → sits a (over h (us ++ zs)) ≡ true) → sits a (cond x (over h (us ++ g ∷ zs)) b) ≡ true → sits a (cond x (over h (us ++ zs)) b) ≡ true
    by true i k = i k
    by false i k = k

or-mono : (a b c : Bool) → (b ≡ true → c ≡ true) → (a || b) ≡ true → (a || c) ≡ true
or-mono true b c f h = refl
or-mono false b c f h = f h

pub chain-drop : (h g : Tag) (us zs : List Tag) → carries g ≡ false → chain h (us ++ g ∷ zs) ≡ true → chain h (us ++ zs) ≡ true
chain-drop h g [] zs l c = (both (is_formatting g || sits g (over h zs)) (chain h zs) c).1
chain-drop h g (a ∷ us) zs l c =
    let k = both (is_formatting a || sits a (over h (us ++ g ∷ zs))) (chain h (us ++ g ∷ zs)) c in
    join (is_formatting a || sits a (over h (us ++ zs))) (chain h (us ++ zs)) (or-mono (is_formatting a) (sits a (over h (us ++ g ∷ zs))) (sits a (over h (us ++ zs))) (over-drop h g us zs a l) k.0) (chain-drop h g us zs l k.1)

-- without the first ones
pub chain-end : (h : Tag) (us zs : List Tag) → chain h (us ++ zs) ≡ true → chain h zs ≡ true
chain-end h [] zs c = c
chain-end h (a ∷ us) zs c = chain-end h us zs ((both (is_formatting a || sits a (over h (us ++ zs))) (chain h (us ++ zs)) c).1)

-- with a formatting element more
over-more : (h n : Tag) (us zs : List Tag) → is_formatting n ≡ true → over h (us ++ n ∷ zs) ≡ over h (us ++ zs)
over-more h n [] zs f = rw f refl
over-more h n (a ∷ us) zs f = ap (λ v. cond (is_formatting a) v a) (over-more h n us zs f)

pub chain-more : (h n : Tag) (us zs : List Tag) → is_formatting n ≡ true → chain h (us ++ zs) ≡ true → chain h (us ++ n ∷ zs) ≡ true
chain-more h n [] zs f c = join (is_formatting n || sits n (over h zs)) (chain h zs) (left (is_formatting n) (sits n (over h zs)) f) c
chain-more h n (a ∷ us) zs f c =
    let k = both (is_formatting a || sits a (over h (us ++ zs))) (chain h (us ++ zs)) c in
    join (is_formatting a || sits a (over h (us ++ n ∷ zs))) (chain h (us ++ n ∷ zs)) (subst (λ v. (is_formatting a || sits a v) ≡ true) (sym (over-more h n us zs f)) k.0) (chain-more h n us zs f k.1)

-- WHAT STANDS ABOVE ONE THAT IS CLOSED

-- a table or a template
abbrev pub is_bound : Tag → Bool
is_bound g = is_same g tag.Table || is_template g

-- a row or a section is a part
bound-or-part : (g : Tag) → carries g ≡ true → is_bound g ≡ false → is_part g ≡ true
bound-or-part g h k = by (either (is_bound g) (is_part g) (implies-by (carries g) (is_bound g || is_part g) (of-all (λ v. not (carries v) || (is_bound v || is_part v)) refl g) h))
  where
    by : ((is_bound g ≡ true) ⊎ (is_part g ≡ true)) → is_part g ≡ true
    by (inl e) = absurd (false≢true (sym k ∙ e))
    by (inr e) = e

over-light : (h g : Tag) (us zs : List Tag) → is_formatting g ≡ false → carries g ≡ false → list_any carries us ≡ false → carries (over h (us ++ g ∷ zs)) ≡ false
over-light h g [] zs f l n = rw f l
over-light h g (a ∷ us) zs f l n = by (is_formatting a) (over-light h g us zs f l ((neither (carries a) (list_any carries us) n).1))
  where
    by : (b : Bool) → carries (over h (us ++ g ∷ zs)) ≡ false → carries (cond b (over h (us ++ g ∷ zs)) a) ≡ false
    by true i = i
    by false i = (neither (carries a) (list_any carries us) n).0

-- above an element that carries nothing nothing carries, where neither a table nor a template stands there
pub none-carries : (h g : Tag) (us zs : List Tag) → is_formatting g ≡ false → carries g ≡ false → list_any is_bound us ≡ false → chain h (us ++ g ∷ zs) ≡ true → list_any carries us ≡ false
none-carries h g [] zs f l n c = refl
none-carries h g (a ∷ us) zs f l n c =
    let m = neither (is_bound a) (list_any is_bound us) n in
    let k = both (is_formatting a || sits a (over h (us ++ g ∷ zs))) (chain h (us ++ g ∷ zs)) c in
    let i = none-carries h g us zs f l m.1 k.1 in
    elim (cases (carries a)) [
      | inr e ↦ rw (e, i) refl
      | inl e ↦ absurd (by e m.0 (over-light h g us zs f l i) (either (is_formatting a) (sits a (over h (us ++ g ∷ zs))) k.0))
    ]
  where
    by : carries a ≡ true → is_bound a ≡ false → carries (over h (us ++ g ∷ zs)) ≡ false → ((is_formatting a ≡ true) ⊎ (sits a (over h (us ++ g ∷ zs)) ≡ true)) → ⊥
    by e b o (inl x) = false≢true (sym (plain-light a (formatting-plain a x)) ∙ e)
    by e b o (inr x) =
        let u = (both (not (is_frame a)) (not (is_part a) || is_under a (over h (us ++ g ∷ zs))) x).1 in
        false≢true (sym o ∙ under-carries a (over h (us ++ g ∷ zs)) (bound-or-part a e b) (implies-by (is_part a) (is_under a (over h (us ++ g ∷ zs))) u (bound-or-part a e b)))

-- what a part stands on stands below it
pub any-over : (q : Tag → Bool) (h : Tag) (zs : List Tag) → q (over h zs) ≡ true → (list_any q zs || q h) ≡ true
any-over q h [] k = k
any-over q h (z ∷ zs) k = by (is_formatting z) (any-over q h zs) k
  where
    assoc : (a b c : Bool) → (b || c) ≡ true → ((a || b) || c) ≡ true
    assoc true b c e = refl
    assoc false b c e = e

    by : (b : Bool) → (q (over h zs) ≡ true → (list_any q zs || q h) ≡ true) → q (cond b (over h zs) z) ≡ true → ((q z || list_any q zs) || q h) ≡ true
    by true i e = assoc (q z) (list_any q zs) (q h) (i e)
    by false i e = left (q z || list_any q zs) (q h) (left (q z) (list_any q zs) e)

-- SPLITS

pub any-append : (q : Tag → Bool) (us zs : List Tag) → list_any q (us ++ zs) ≡ (list_any q us || list_any q zs)
any-append q [] zs = refl
any-append q (a ∷ us) zs = ap (λ b. q a || b) (any-append q us zs) ∙ or-assoc (q a) (list_any q us) (list_any q zs)
  where
    or-assoc : (a b c : Bool) → (a || (b || c)) ≡ ((a || b) || c)
    or-assoc true b c = refl
    or-assoc false b c = refl

pub head-is : (a b : Tag) (us bs : List Tag) → ◌≡◌ {A = List Tag} (a ∷ us) (b ∷ bs) → a ≡ b
head-is a b us bs e = ap (first_or a) e
  where
    first_or : Tag → List Tag → Tag
    first_or d [] = d
    first_or d (x ∷ xs) = x

pub tail-is : (a b : Tag) (us bs : List Tag) → ◌≡◌ {A = List Tag} (a ∷ us) (b ∷ bs) → us ≡ bs
tail-is a b us bs e = ap rest e
  where
    rest : List Tag → List Tag
    rest [] = []
    rest (x ∷ xs) = xs

-- one that passes stands in the upper part, where none of the lower part does
pub record IsSplit (xs us : List Tag) (g : Tag) (bs low : List Tag) : Type 0 where
  pub rest : List Tag
  pub upper_is : xs ≡ us ++ g ∷ rest
  pub lower_is : bs ≡ rest ++ low

pub split-in : (q : Tag → Bool) (xs us : List Tag) (g : Tag) (bs low : List Tag) → xs ++ low ≡ us ++ g ∷ bs → q g ≡ true → list_any q low ≡ false → IsSplit xs us g bs low
split-in q [] us g bs low e p n = absurd (false≢true (sym n ∙ ap (list_any q) e ∙ any-append q us (g ∷ bs) ∙ right (list_any q us) (q g || list_any q bs) (left (q g) (list_any q bs) p)))
split-in q (x ∷ xs) [] g bs low e p n = record { rest = xs; upper_is = ap (λ v. v ∷ xs) (head-is x g (xs ++ low) bs e); lower_is = sym (tail-is x g (xs ++ low) bs e) }
split-in q (x ∷ xs) (a ∷ us) g bs low e p n =
    let i = split-in q xs us g bs low (tail-is x a (xs ++ low) (us ++ g ∷ bs) e) p n in
    record { rest = i.rest; upper_is = ap (λ v. v ∷ xs) (head-is x a (xs ++ low) (us ++ g ∷ bs) e) ∙ ap (λ vs. a ∷ vs) i.upper_is; lower_is = i.lower_is }

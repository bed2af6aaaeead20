-- What stands above the body, or above a template before it.
use Rattle.std.proofs.Common.{◌≡◌, Bool, true, false, not, cond, ◌&&◌, ◌||◌, List, [], ◌∷◌, ◌++◌, inl, inr, refl, sym, ◌∙◌, ap, subst, append_assoc}
use Rattle.std.specs.List.{list_all, list_any}
use Rattle.std.proofs.lemmas.Bool.{false≢true}
use Rattle.html_names.specs.declared.tag.Tag.{Tag}
use Rattle.html_names.specs.declared.tag.Tag.TheVariants as tag
use Rattle.html_names.specs.Sets.{is_formatting, is_section, is_special, is_template}
use Rattle.html_names.specs.Tags.{is_same}
use Rattle.html_laws.proofs.Chains.{IsSplit, any-append, any-over, both, carries, cases, chain, chain-drop, chain-end, chain-more, common-plain, either, formatting-plain, is_bound, is_frame, is_part, is_plain, is_under, join, left, neither, none-carries, not-true, over, plain-light, right, sits, split-in}
use Rattle.html_laws.proofs.Tags.{of-all}

-- what a mode asks for among the open elements: nothing, a table, a section, a row, or a template, which serves for each
pub data Need : Type 0 where
  Anything : Need
  Tables : Need
  Sections : Need
  Rows : Need
  Templates : Need

abbrev pub is_need : Need → Tag → Bool
is_need Anything g = false
is_need Tables g = is_same g tag.Table || is_template g
is_need Sections g = is_section g || is_template g
is_need Rows g = is_same g tag.Tr || is_template g
is_need Templates g = is_template g

abbrev pub asks_nothing : Need → Bool
asks_nothing Anything = true
asks_nothing _ = false

-- it stands there, or nothing is asked for
abbrev pub holding : Need → List Tag → Tag → Bool
holding f xs h = asks_nothing f || (list_any (is_need f) xs || is_need f h)

-- the body or a template, with what is below it
pub data Footing : Tag → List Tag → Type 0 where
  on_body : Footing tag.Body (tag.Html ∷ [])
  on_template : Footing tag.Template (tag.Html ∷ [])
  on_head : Footing tag.Template (tag.Head ∷ tag.Html ∷ [])

pub record IsInside (f : Need) (hook : Tag) (low : List Tag) (tags : List Tag) : Type 0 where
  pub upper : List Tag
  pub tags_are : tags ≡ upper ++ hook ∷ low
  pub chained : chain hook upper ≡ true
  pub holds : holding f upper hook ≡ true

-- TAGS

-- what is asked for carries parts
pub need-carries : (f : Need) (g : Tag) → is_need f g ≡ true → carries g ≡ true
need-carries f g h = by (is_need f g) (carries g) (all f g) h
  where
    all : (f : Need) (g : Tag) → (not (is_need f g) || carries g) ≡ true
    all Anything g = refl
    all Tables g = of-all (λ v. not (is_need Tables v) || carries v) refl g
    all Sections g = of-all (λ v. not (is_need Sections v) || carries v) refl g
    all Rows g = of-all (λ v. not (is_need Rows v) || carries v) refl g
    all Templates g = of-all (λ v. not (is_need Templates v) || carries v) refl g

    by : (a b : Bool) → (not a || b) ≡ true → a ≡ true → b ≡ true
    by true b e h = e
    by false b e h = absurd (false≢true h)

pub light-need : (f : Need) (g : Tag) → carries g ≡ false → is_need f g ≡ false
light-need f g h = elim (cases (is_need f g)) [ inl e ↦ absurd (false≢true (sym h ∙ need-carries f g e)) | inr e ↦ e ]

pub lights-need : (f : Need) (gs : List Tag) → list_any carries gs ≡ false → list_any (is_need f) gs ≡ false
lights-need f [] h = refl
lights-need f (g ∷ gs) h = (let c = neither (carries g) (list_any carries gs) h in rw (light-need f g c.0, lights-need f gs c.1) refl)

-- no foot: neither the body, a template, the head nor the html
abbrev pub is_foot : Tag → Bool
is_foot g = is_same g tag.Html || (is_same g tag.Head || (is_same g tag.Body || is_template g))

pub foot-none : (q : Tag → Bool) (hook : Tag) (low : List Tag) → Footing hook low → (q tag.Html || (q tag.Head || (q tag.Body || q tag.Template))) ≡ false → list_any q (hook ∷ low) ≡ false
foot-none q _ _ on_body e = (let c = parts q e in rw (c.2, c.0) refl)
  where
    parts : (q : Tag → Bool) → (q tag.Html || (q tag.Head || (q tag.Body || q tag.Template))) ≡ false → (q tag.Html ≡ false) × (q tag.Head ≡ false) × (q tag.Body ≡ false) × (q tag.Template ≡ false)
    parts q e =
        let a = neither (q tag.Html) (q tag.Head || (q tag.Body || q tag.Template)) e in
        let b = neither (q tag.Head) (q tag.Body || q tag.Template) a.1 in
        let c = neither (q tag.Body) (q tag.Template) b.1 in
        (a.0, b.0, c.0, c.1)
foot-none q _ _ on_template e =
    let a = neither (q tag.Html) (q tag.Head || (q tag.Body || q tag.Template)) e in
    let b = neither (q tag.Head) (q tag.Body || q tag.Template) a.1 in
    let c = neither (q tag.Body) (q tag.Template) b.1 in
    rw (c.1, a.0) refl
foot-none q _ _ on_head e =
    let a = neither (q tag.Html) (q tag.Head || (q tag.Body || q tag.Template)) e in
    let b = neither (q tag.Head) (q tag.Body || q tag.Template) a.1 in
    let c = neither (q tag.Body) (q tag.Template) b.1 in
    rw (c.1, b.0, a.0) refl

no-foot : (hook : Tag) (low : List Tag) → Footing hook low → list_any (λ g. not (is_foot g)) (hook ∷ low) ≡ false
no-foot hook low k = foot-none (λ g. not (is_foot g)) hook low k refl

pub plain-foot : (g : Tag) → is_plain g ≡ true → not (is_foot g) ≡ true
plain-foot g h = by (is_plain g) (not (is_foot g)) (of-all (λ v. not (is_plain v) || not (is_foot v)) refl g) h
  where
    by : (a b : Bool) → (not a || b) ≡ true → a ≡ true → b ≡ true
    by true b e h = e
    by false b e h = absurd (false≢true h)

-- PARTS OF LISTS

holding-end : (f : Need) (us zs : List Tag) (h : Tag) → list_any carries us ≡ false → holding f (us ++ zs) h ≡ true → holding f zs h ≡ true
holding-end f us zs h n k = subst (λ b. (asks_nothing f || (b || is_need f h)) ≡ true) (any-append (is_need f) us zs ∙ ap (λ b. b || list_any (is_need f) zs) (lights-need f us n)) k

holding-drop : (f : Need) (g : Tag) (us zs : List Tag) (h : Tag) → carries g ≡ false → holding f (us ++ g ∷ zs) h ≡ true → holding f (us ++ zs) h ≡ true
holding-drop f g us zs h n k =
    subst (λ b. (asks_nothing f || (b || is_need f h)) ≡ true)
    (any-append (is_need f) us (g ∷ zs) ∙ ap (λ b. list_any (is_need f) us || (b || list_any (is_need f) zs)) (light-need f g n) ∙ sym (any-append (is_need f) us zs)) k

holding-more : (f : Need) (us zs : List Tag) (h : Tag) → holding f zs h ≡ true → holding f (us ++ zs) h ≡ true
holding-more f us zs h k = subst (λ b. (asks_nothing f || (b || is_need f h)) ≡ true) (sym (any-append (is_need f) us zs)) (by (asks_nothing f) (list_any (is_need f) us) (list_any (is_need f) zs) (is_need f h) k)
  where
    by : (a b c d : Bool) → (a || (c || d)) ≡ true → (a || ((b || c) || d)) ≡ true
    by true b c d k = refl
    by false true c d k = refl
    by false false c d k = k

holding-between : (f : Need) (us cs zs : List Tag) (h : Tag) → holding f (us ++ zs) h ≡ true → holding f (us ++ (cs ++ zs)) h ≡ true
holding-between f us cs zs h k =
    subst (λ b. (asks_nothing f || (b || is_need f h)) ≡ true) (sym (any-append (is_need f) us (cs ++ zs) ∙ ap (λ b. list_any (is_need f) us || b) (any-append (is_need f) cs zs)))
    (by (asks_nothing f) (list_any (is_need f) us) (list_any (is_need f) cs) (list_any (is_need f) zs) (is_need f h)
    (subst (λ b. (asks_nothing f || (b || is_need f h)) ≡ true) (any-append (is_need f) us zs) k))
  where
    by : (a b c d e : Bool) → (a || ((b || d) || e)) ≡ true → (a || ((b || (c || d)) || e)) ≡ true
    by true b c d e k = refl
    by false true c d e k = refl
    by false false true d e k = refl
    by false false false d e k = k

-- those that are not special are gone
chain-drops : (h : Tag) (us is zs : List Tag) → list_any is_special is ≡ false → chain h (us ++ (is ++ zs)) ≡ true → chain h (us ++ zs) ≡ true
chain-drops h us [] zs n c = c
chain-drops h us (i ∷ is) zs n c = (let m = neither (is_special i) (list_any is_special is) n in chain-drops h us is zs m.1 (chain-drop h i us (is ++ zs) (plain-light i (common-plain i m.0)) c))

holding-drops : (f : Need) (us is zs : List Tag) (h : Tag) → list_any is_special is ≡ false → holding f (us ++ (is ++ zs)) h ≡ true → holding f (us ++ zs) h ≡ true
holding-drops f us [] zs h n k = k
holding-drops f us (i ∷ is) zs h n k = (let m = neither (is_special i) (list_any is_special is) n in holding-drops f us is zs h m.1 (holding-drop f i us (is ++ zs) h (plain-light i (common-plain i m.0)) k))

-- formatting elements more
chain-mores : (h : Tag) (us cs zs : List Tag) → list_all is_formatting cs ≡ true → chain h (us ++ zs) ≡ true → chain h (us ++ (cs ++ zs)) ≡ true
chain-mores h us [] zs n c = c
chain-mores h us (i ∷ cs) zs n c = (let m = both (is_formatting i) (list_all is_formatting cs) n in chain-more h i us (cs ++ zs) m.0 (chain-mores h us cs zs m.1 c))

-- WHAT BECOMES OF WHAT STANDS THERE

module _ (f : Need) (hook : Tag) (low : List Tag) (foot : Footing hook low) where
  -- one more that is no part and none of the frame, or formatting
  pub inside-more : (g : Tag) (tags : List Tag) → (is_formatting g || (not (is_frame g) && not (is_part g))) ≡ true → IsInside f hook low tags → IsInside f hook low (g ∷ tags)
  inside-more g tags e i = record {
    upper = g ∷ i.upper;
    tags_are = ap (λ v. g ∷ v) i.tags_are;
    chained = join (is_formatting g || sits g (over hook i.upper)) (chain hook i.upper) (by (is_formatting g) (not (is_frame g)) (not (is_part g)) (is_under g (over hook i.upper)) e) i.chained;
    holds = holding-more f (g ∷ []) i.upper hook i.holds;
  }
    where
      by : (a b c d : Bool) → (a || (b && c)) ≡ true → (a || (b && (c || d))) ≡ true
      by true b c d e = refl
      by false true true d e = refl
      by false true false d e = absurd (false≢true e)
      by false false c d e = absurd (false≢true e)

  -- a part of a table, on what carries it
  pub inside-part : (g h : Tag) (gs : List Tag) → is_frame g ≡ false → is_under g h ≡ true → is_formatting h ≡ false → IsInside f hook low (h ∷ gs) → IsInside f hook low (g ∷ h ∷ gs)
  inside-part g h gs r u n i = record {
    upper = g ∷ i.upper;
    tags_are = ap (λ v. g ∷ v) i.tags_are;
    chained = join (is_formatting g || sits g (over hook i.upper)) (chain hook i.upper) (right (is_formatting g) (sits g (over hook i.upper)) (rw (top i.upper i.tags_are, r) (right (not (is_part g)) (is_under g h) u))) i.chained;
    holds = holding-more f (g ∷ []) i.upper hook i.holds;
  }
    where
      first : Tag → List Tag → Tag
      first d [] = d
      first d (x ∷ xs) = x

      top : (us : List Tag) → h ∷ gs ≡ us ++ hook ∷ low → over hook us ≡ h
      top [] e = sym (ap (first h) e)
      top (x ∷ us) e = (let k : x ≡ h = sym (ap (first h) e) in subst (λ v. cond (is_formatting v) (over hook us) v ≡ h) (sym k) (rw n refl))

  -- where one of these stands
  split : (us : List Tag) (g : Tag) (bs tags : List Tag) → tags ≡ us ++ g ∷ bs → not (is_foot g) ≡ true → (i : IsInside f hook low tags) → IsSplit i.upper us g bs (hook ∷ low)
  split us g bs tags e n i = split-in (λ v. not (is_foot v)) i.upper us g bs (hook ∷ low) (sym i.tags_are ∙ e) n (no-foot hook low foot)

  -- one that carries nothing is gone
  pub inside-drop : (us : List Tag) (g : Tag) (bs : List Tag) → carries g ≡ false → not (is_foot g) ≡ true → IsInside f hook low (us ++ g ∷ bs) → IsInside f hook low (us ++ bs)
  inside-drop us g bs c n i =
      let s = split us g bs (us ++ g ∷ bs) refl n i in
      record {
        upper = us ++ s.rest;
        tags_are = ap (λ v. us ++ v) s.lower_is ∙ sym (append_assoc us s.rest (hook ∷ low));
        chained = chain-drop hook g us s.rest c (subst (λ v. chain hook v ≡ true) s.upper_is i.chained);
        holds = holding-drop f g us s.rest hook c (subst (λ v. holding f v hook ≡ true) s.upper_is i.holds);
      }

  -- a formatting element more, below one that is no foot
  pub inside-between : (us : List Tag) (g n : Tag) (bs : List Tag) → not (is_foot g) ≡ true → is_formatting n ≡ true → IsInside f hook low (us ++ g ∷ bs) → IsInside f hook low (us ++ n ∷ g ∷ bs)
  inside-between us g n bs o m i =
      let s = split us g bs (us ++ g ∷ bs) refl o i in
      record {
        upper = us ++ n ∷ g ∷ s.rest;
        tags_are = ap (λ v. us ++ n ∷ g ∷ v) s.lower_is ∙ sym (append_assoc us (n ∷ g ∷ s.rest) (hook ∷ low));
        chained = chain-more hook n us (g ∷ s.rest) m (subst (λ v. chain hook v ≡ true) s.upper_is i.chained);
        holds = again us g n s.rest (subst (λ v. holding f v hook ≡ true) s.upper_is i.holds);
      }
    where
      again : (us : List Tag) (g n : Tag) (zs : List Tag) → holding f (us ++ g ∷ zs) hook ≡ true → holding f (us ++ n ∷ g ∷ zs) hook ≡ true
      again us g n zs k =
          subst (λ b. (asks_nothing f || (b || is_need f hook)) ≡ true) (sym (any-append (is_need f) us (n ∷ g ∷ zs)))
          (by (asks_nothing f) (list_any (is_need f) us) (is_need f n) (list_any (is_need f) (g ∷ zs)) (is_need f hook)
          (subst (λ b. (asks_nothing f || (b || is_need f hook)) ≡ true) (any-append (is_need f) us (g ∷ zs)) k))
        where
          by : (a b c d e : Bool) → (a || ((b || d) || e)) ≡ true → (a || ((b || (c || d)) || e)) ≡ true
          by true b c d e k = refl
          by false true c d e k = refl
          by false false true d e k = refl
          by false false false d e k = k

  -- a round of the adoption agency: between a block and a formatting element none was special, and formatting elements stand there
  pub inside-round : (us : List Tag) (b : Tag) (is : List Tag) (g : Tag) (ls cs : List Tag) (n : Tag) → is_formatting g ≡ true → list_any is_special is ≡ false → list_all is_formatting cs ≡ true → is_formatting n ≡ true
      → IsInside f hook low (us ++ b ∷ (is ++ g ∷ ls)) → IsInside f hook low (us ++ n ∷ b ∷ (cs ++ ls))
  inside-round us b is g ls cs n m o p q i =
      let s = split (us ++ b ∷ is) g ls (us ++ b ∷ (is ++ g ∷ ls)) (sym (append_assoc us (b ∷ is) (g ∷ ls))) (plain-foot g (formatting-plain g m)) i in
      let light = plain-light g (formatting-plain g m) in
      let c = chain-drop hook g (us ++ b ∷ is) s.rest light (subst (λ v. chain hook v ≡ true) s.upper_is i.chained) in
      let w = holding-drop f g (us ++ b ∷ is) s.rest hook light (subst (λ v. holding f v hook ≡ true) s.upper_is i.holds) in
      let there : (us ++ b ∷ is) ++ s.rest ≡ (us ++ b ∷ []) ++ (is ++ s.rest) = append_assoc us (b ∷ is) s.rest ∙ sym (append_assoc us (b ∷ []) (is ++ s.rest)) in
      let c2 = chain-mores hook (us ++ b ∷ []) cs s.rest p (chain-drops hook (us ++ b ∷ []) is s.rest o (subst (λ v. chain hook v ≡ true) there c)) in
      let w2 = holding-between f (us ++ b ∷ []) cs s.rest hook (holding-drops f (us ++ b ∷ []) is s.rest hook o (subst (λ v. holding f v hook ≡ true) there w)) in
      let last : (us ++ b ∷ []) ++ (cs ++ s.rest) ≡ us ++ (b ∷ (cs ++ s.rest)) = append_assoc us (b ∷ []) (cs ++ s.rest) in
      record {
        upper = us ++ n ∷ b ∷ (cs ++ s.rest);
        tags_are = ap (λ v. us ++ n ∷ b ∷ (cs ++ v)) s.lower_is ∙ ap (λ v. us ++ n ∷ b ∷ v) (sym (append_assoc cs s.rest (hook ∷ low))) ∙ sym (append_assoc us (n ∷ b ∷ (cs ++ s.rest)) (hook ∷ low));
        chained = chain-more hook n us (b ∷ (cs ++ s.rest)) q (subst (λ v. chain hook v ≡ true) last c2);
        holds = holding-between f us (n ∷ []) (b ∷ (cs ++ s.rest)) hook (subst (λ v. holding f v hook ≡ true) last w2);
      }

  -- all of these are gone from the top, the last of them plain
  pub inside-closed : (us : List Tag) (g : Tag) (bs tags : List Tag) → tags ≡ us ++ g ∷ bs → is_formatting g ≡ false → is_plain g ≡ true → list_any is_bound us ≡ false → IsInside f hook low tags → IsInside f hook low bs
  inside-closed us g bs tags e n p b i =
      let s = split us g bs tags e (plain-foot g p) i in
      let c = subst (λ v. chain hook v ≡ true) s.upper_is i.chained in
      let l = none-carries hook g us s.rest n (plain-light g p) b c in
      record {
        upper = s.rest;
        tags_are = s.lower_is;
        chained = chain-end hook (g ∷ []) s.rest (chain-end hook us (g ∷ s.rest) c);
        holds = holding-end f (g ∷ []) s.rest hook (rw (plain-light g p) refl) (holding-end f us (g ∷ s.rest) hook l (subst (λ v. holding f v hook ≡ true) s.upper_is i.holds));
      }

  -- none of them special
  pub inside-common : (us : List Tag) (g : Tag) (bs tags : List Tag) → tags ≡ us ++ g ∷ bs → is_plain g ≡ true → list_any is_special us ≡ false → IsInside f hook low tags → IsInside f hook low bs
  inside-common us g bs tags e p b i =
      let s = split us g bs tags e (plain-foot g p) i in
      record {
        upper = s.rest;
        tags_are = s.lower_is;
        chained = chain-end hook (g ∷ []) s.rest (chain-end hook us (g ∷ s.rest) (subst (λ v. chain hook v ≡ true) s.upper_is i.chained));
        holds = holding-end f (g ∷ []) s.rest hook (rw (plain-light g p) refl) (holding-end f us (g ∷ s.rest) hook (none us b) (subst (λ v. holding f v hook ≡ true) s.upper_is i.holds));
      }
    where
      none : (us : List Tag) → list_any is_special us ≡ false → list_any carries us ≡ false
      none [] h = refl
      none (u ∷ us) h = (let c = neither (is_special u) (list_any is_special us) h in rw (plain-light u (common-plain u c.0), none us c.1) refl)

  -- all of these are plain, and gone from the top
  pub inside-lights : (us bs : List Tag) → list_all is_plain us ≡ true → IsInside f hook low (us ++ bs) → IsInside f hook low bs
  inside-lights [] bs h i = i
  inside-lights (u ∷ us) bs h i = (let c = both (is_plain u) (list_all is_plain us) h in inside-lights us bs c.1 (inside-drop [] u (us ++ bs) (plain-light u c.0) (plain-foot u c.0) i))

  -- some are gone from the top, whatever they are
  pub inside-cut : (us : List Tag) (g : Tag) (bs tags : List Tag) → tags ≡ us ++ g ∷ bs → not (is_foot g) ≡ true → IsInside f hook low tags → IsInside Anything hook low bs
  inside-cut us g bs tags e n i =
      let s = split us g bs tags e n i in
      record {
        upper = s.rest;
        tags_are = s.lower_is;
        chained = chain-end hook (g ∷ []) s.rest (chain-end hook us (g ∷ s.rest) (subst (λ v. chain hook v ≡ true) s.upper_is i.chained));
        holds = refl;
      }

  -- the last of them a part of a table: what it stood on is there
  pub inside-under : (k : Need) (us : List Tag) (g : Tag) (bs tags : List Tag) → tags ≡ us ++ g ∷ bs → is_part g ≡ true → ((h : Tag) → is_under g h ≡ true → is_need k h ≡ true) → IsInside f hook low tags → IsInside k hook low bs
  inside-under k us g bs tags e p u i =
      let n : not (is_foot g) ≡ true = part-foot g p in
      let s = split us g bs tags e n i in
      let c = chain-end hook us (g ∷ s.rest) (subst (λ v. chain hook v ≡ true) s.upper_is i.chained) in
      let m = both (is_formatting g || sits g (over hook s.rest)) (chain hook s.rest) c in
      record {
        upper = s.rest;
        tags_are = s.lower_is;
        chained = m.1;
        holds = right (asks_nothing k) (list_any (is_need k) s.rest || is_need k hook) (any-over (is_need k) hook s.rest (u (over hook s.rest) (seat (over hook s.rest) m.0)));
      }
    where
      imply : (a b : Bool) → (not a || b) ≡ true → a ≡ true → b ≡ true
      imply true b e h = e
      imply false b e h = absurd (false≢true h)

      part-foot : (g : Tag) → is_part g ≡ true → not (is_foot g) ≡ true
      part-foot g h = imply (is_part g) (not (is_foot g)) (of-all (λ v. not (is_part v) || not (is_foot v)) refl g) h

      part-formatting : (g : Tag) → is_part g ≡ true → is_formatting g ≡ false
      part-formatting g h = not-true (is_formatting g) (imply (is_part g) (not (is_formatting g)) (of-all (λ v. not (is_part v) || not (is_formatting v)) refl g) h)

      seat : (h : Tag) → (is_formatting g || sits g h) ≡ true → is_under g h ≡ true
      seat h w = elim (either (is_formatting g) (sits g h) w) [
        | inl a ↦ absurd (false≢true (sym (part-formatting g p) ∙ a))
        | inr a ↦ imply (is_part g) (is_under g h) ((both (not (is_frame g)) (not (is_part g) || is_under g h) a).1) p
      ]

  -- the stack was cleared back to what is asked for, or to something else that stops it
  pub inside-cleared : (q : Tag → Bool) (us : List Tag) (g : Tag) (bs tags : List Tag) → tags ≡ us ++ g ∷ bs → asks_nothing f ≡ false → ((h : Tag) → is_need f h ≡ true → q h ≡ true) → q tag.Body ≡ false → q tag.Head ≡ false → q g ≡ true → list_any q us ≡ false
      → IsInside f hook low tags → IsInside f hook low (g ∷ bs) × (is_same g tag.Html ≡ false)
  inside-cleared q us g bs tags e a s b d p n i = at i.upper us (sym i.tags_are ∙ e) n i.chained i.holds
    where
      first : Tag → List Tag → Tag
      first d [] = d
      first d (x ∷ xs) = x

      rest : List Tag → List Tag
      rest [] = []
      rest (x ∷ xs) = xs

      imply : (a b : Bool) → (not a || b) ≡ true → a ≡ true → b ≡ true
      imply true b e h = e
      imply false b e h = absurd (false≢true h)

      need-html : (f : Need) → is_need f tag.Html ≡ false
      need-html Anything = refl
      need-html Tables = refl
      need-html Sections = refl
      need-html Rows = refl
      need-html Templates = refl

      ended : (hook' : Tag) (low' : List Tag) → Footing hook' low' → holding f [] hook' ≡ true → hook' ≡ hook → is_need f hook' ≡ true
      ended h l k w e = (let v : (false || is_need f h) ≡ true = subst (λ x. (x || (false || is_need f h)) ≡ true) a w in v)

      hook-html : (hook' : Tag) (low' : List Tag) → Footing hook' low' → is_same hook' tag.Html ≡ false
      hook-html _ _ on_body = refl
      hook-html _ _ on_template = refl
      hook-html _ _ on_head = refl

      at : (xs us : List Tag) → xs ++ hook ∷ low ≡ us ++ g ∷ bs → list_any q us ≡ false → chain hook xs ≡ true → holding f xs hook ≡ true → IsInside f hook low (g ∷ bs) × (is_same g tag.Html ≡ false)
      at [] [] e n c w = (record { upper = []; tags_are = sym e; chained = refl; holds = w }, subst (λ v. is_same v tag.Html ≡ false) (ap (first hook) e) (hook-html hook low foot))
      at [] (u ∷ us) e n c w = absurd (false≢true (sym (neither (q u) (list_any q us) n).0 ∙ subst (λ v. q v ≡ true) (ap (first hook) e) (s hook (ended hook low foot w refl))))
      at (x ∷ xs) [] e n c w =
          let k : x ≡ g = ap (first x) e in
          let z = both (is_formatting x || sits x (over hook xs)) (chain hook xs) c in (
            record { upper = x ∷ xs; tags_are = sym e; chained = c; holds = w },
            subst (λ v. is_same v tag.Html ≡ false) k (elim (either (is_formatting x) (sits x (over hook xs)) z.0) [
              | inl y ↦ not-true (is_same x tag.Html) (imply (is_formatting x) (not (is_same x tag.Html)) (of-all (λ v. not (is_formatting v) || not (is_same v tag.Html)) refl x) y)
              | inr y ↦ (neither (is_same x tag.Html) _ (not-true (is_frame x) (both (not (is_frame x)) (not (is_part x) || is_under x (over hook xs)) y).0)).0
            ]),
          )
      at (x ∷ xs) (u ∷ us) e n c w =
          let k : x ≡ u = ap (first x) e in
          let m = neither (q u) (list_any q us) n in
          let z = both (is_formatting x || sits x (over hook xs)) (chain hook xs) c in
          at xs us (ap rest e) m.1 z.1 (step (is_need f x) (list_any (is_need f) xs) (is_need f hook) (not-need x (subst (λ v. q v ≡ false) (sym k) m.0)) w)
        where
          not-need : (x : Tag) → q x ≡ false → is_need f x ≡ false
          not-need x h = elim (cases (is_need f x)) [ inl y ↦ absurd (false≢true (sym h ∙ s x y)) | inr y ↦ y ]

          step : (b c d : Bool) → b ≡ false → (asks_nothing f || ((b || c) || d)) ≡ true → (asks_nothing f || (c || d)) ≡ true
          step b c d h k = subst (λ v. (asks_nothing f || ((v || c) || d)) ≡ true) h k

-- what serves for one need serves for a weaker one
pub inside-as : (f k : Need) (hook : Tag) (low tags : List Tag) → (asks_nothing f ≡ true → asks_nothing k ≡ true) → ((g : Tag) → is_need f g ≡ true → asks_nothing k || is_need k g ≡ true) → IsInside f hook low tags → IsInside k hook low tags
inside-as f k hook low tags n w i = record {
  upper = i.upper;
  tags_are = i.tags_are;
  chained = i.chained;
  holds = by (asks_nothing f) refl i.holds;
}
  where
    all : (us : List Tag) → list_any (is_need f) us ≡ true → (asks_nothing k || list_any (is_need k) us) ≡ true
    all [] h = absurd (false≢true h)
    all (u ∷ us) h = elim (either (is_need f u) (list_any (is_need f) us) h) [ inl e ↦ one (asks_nothing k) (is_need k u) (list_any (is_need k) us) (w u e) | inr e ↦ two (asks_nothing k) (is_need k u) (list_any (is_need k) us) (all us e) ]
      where
        one : (a b c : Bool) → (a || b) ≡ true → (a || (b || c)) ≡ true
        one true b c h = refl
        one false true c h = refl
        one false false c h = absurd (false≢true h)

        two : (a b c : Bool) → (a || c) ≡ true → (a || (b || c)) ≡ true
        two true b c h = refl
        two false true c h = refl
        two false false c h = h

    first : (a b c : Bool) → (a || b) ≡ true → (a || (b || c)) ≡ true
    first true b c h = refl
    first false true c h = refl
    first false false c h = absurd (false≢true h)

    last : (a b c : Bool) → (a || c) ≡ true → (a || (b || c)) ≡ true
    last true b c h = refl
    last false true c h = refl
    last false false c h = h

    by : (b : Bool) → asks_nothing f ≡ b → (b || (list_any (is_need f) i.upper || is_need f hook)) ≡ true → holding k i.upper hook ≡ true
    by true e h = left (asks_nothing k) (list_any (is_need k) i.upper || is_need k hook) (n e)
    by false e h = elim (either (list_any (is_need f) i.upper) (is_need f hook) h) [
      | inl u ↦ first (asks_nothing k) (list_any (is_need k) i.upper) (is_need k hook) (all i.upper u)
      | inr u ↦ last (asks_nothing k) (list_any (is_need k) i.upper) (is_need k hook) (w hook u)
    ]

-- the current node serves
pub inside-serves : (f k : Need) (hook : Tag) (low : List Tag) (g : Tag) (gs : List Tag) → is_need k g ≡ true → IsInside f hook low (g ∷ gs) → IsInside k hook low (g ∷ gs)
inside-serves f k hook low g gs e i = record { upper = i.upper; tags_are = i.tags_are; chained = i.chained; holds = right (asks_nothing k) (list_any (is_need k) i.upper || is_need k hook) (by i.upper i.tags_are) }
  where
    first : Tag → List Tag → Tag
    first d [] = d
    first d (x ∷ xs) = x

    by : (us : List Tag) → g ∷ gs ≡ us ++ hook ∷ low → (list_any (is_need k) us || is_need k hook) ≡ true
    by [] c = subst (λ v. is_need k v ≡ true) (ap (first g) c) e
    by (u ∷ us) c = left (is_need k u || list_any (is_need k) us) (is_need k hook) (left (is_need k u) (list_any (is_need k) us) (subst (λ v. is_need k v ≡ true) (ap (first g) c) e))

-- what is asked for is among the open elements
pub inside-any : (f : Need) (hook : Tag) (low tags : List Tag) (q : Tag → Bool) → asks_nothing f ≡ false → ((g : Tag) → is_need f g ≡ true → q g ≡ true) → IsInside f hook low tags → list_any q tags ≡ true
inside-any f hook low tags q a w i = ap (list_any q) i.tags_are ∙ any-append q i.upper (hook ∷ low) ∙ elim (either (list_any (is_need f) i.upper) (is_need f hook) (subst (λ b. (b || (list_any (is_need f) i.upper || is_need f hook)) ≡ true) a i.holds)) [
  | inl u ↦ left (list_any q i.upper) (q hook || list_any q low) (mono i.upper u)
  | inr u ↦ right (list_any q i.upper) (q hook || list_any q low) (left (q hook) (list_any q low) (w hook u))
]
  where
    mono : (us : List Tag) → list_any (is_need f) us ≡ true → list_any q us ≡ true
    mono [] h = absurd (false≢true h)
    mono (u ∷ us) h = elim (either (is_need f u) (list_any (is_need f) us) h) [ inl e ↦ left (q u) (list_any q us) (w u e) | inr e ↦ right (q u) (list_any q us) (mono us e) ]

-- the current node is none of the frame but the body
pub inside-first : (f : Need) (hook : Tag) (low : List Tag) → Footing hook low → (g : Tag) (gs : List Tag) → IsInside f hook low (g ∷ gs) → is_same g tag.Html ≡ false
inside-first f hook low foot g gs i = by i.upper i.tags_are i.chained
  where
    first : Tag → List Tag → Tag
    first d [] = d
    first d (x ∷ xs) = x

    hook-html : (h : Tag) (l : List Tag) → Footing h l → is_same h tag.Html ≡ false
    hook-html _ _ on_body = refl
    hook-html _ _ on_template = refl
    hook-html _ _ on_head = refl

    imply : (a b : Bool) → (not a || b) ≡ true → a ≡ true → b ≡ true
    imply true b e h = e
    imply false b e h = absurd (false≢true h)

    seated : (x : Tag) (us : List Tag) → (is_formatting x || sits x (over hook us)) ≡ true → is_same x tag.Html ≡ false
    seated x us h = elim (either (is_formatting x) (sits x (over hook us)) h) [
      | inl y ↦ not-true (is_same x tag.Html) (imply (is_formatting x) (not (is_same x tag.Html)) (of-all (λ v. not (is_formatting v) || not (is_same v tag.Html)) refl x) y)
      | inr y ↦ (neither (is_same x tag.Html) _ (not-true (is_frame x) (both (not (is_frame x)) (not (is_part x) || is_under x (over hook us)) y).0)).0
    ]

    by : (us : List Tag) → g ∷ gs ≡ us ++ hook ∷ low → chain hook us ≡ true → is_same g tag.Html ≡ false
    by [] c k = subst (λ v. is_same v tag.Html ≡ false) (sym (ap (first g) c)) (hook-html hook low foot)
    by (u ∷ us) c k = subst (λ v. is_same v tag.Html ≡ false) (sym (ap (first g) c)) (seated u us (both (is_formatting u || sits u (over hook us)) (chain hook us) k).0)

-- none of the frame but the body stands above what is not special
pub inside-frame : (f : Need) (hook : Tag) (low : List Tag) → Footing hook low → (us : List Tag) (g : Tag) (bs tags : List Tag) → tags ≡ us ++ g ∷ bs → (is_same g tag.Head || is_same g tag.Frameset) ≡ true → list_any is_special us ≡ false → IsInside f hook low tags → ⊥
inside-frame f hook low foot us g bs tags e h n i = at i.upper us (sym i.tags_are ∙ e) n i.chained
  where
    first : Tag → List Tag → Tag
    first d [] = d
    first d (x ∷ xs) = x

    rest : List Tag → List Tag
    rest [] = []
    rest (x ∷ xs) = xs

    imply : (a b : Bool) → (not a || b) ≡ true → a ≡ true → b ≡ true
    imply true b e h = e
    imply false b e h = absurd (false≢true h)

    hook-special : (h : Tag) (l : List Tag) → Footing h l → (is_special h ≡ true) × ((is_same h tag.Head || is_same h tag.Frameset) ≡ false)
    hook-special _ _ on_body = (refl, refl)
    hook-special _ _ on_template = (refl, refl)
    hook-special _ _ on_head = (refl, refl)

    framed : (x : Tag) → (is_same x tag.Head || is_same x tag.Frameset) ≡ true → (is_formatting x ≡ false) × (is_frame x ≡ true)
    framed x k = (
      not-true (is_formatting x) (imply (is_same x tag.Head || is_same x tag.Frameset) (not (is_formatting x)) (of-all (λ v. not (is_same v tag.Head || is_same v tag.Frameset) || not (is_formatting v)) refl x) k),
      imply (is_same x tag.Head || is_same x tag.Frameset) (is_frame x) (of-all (λ v. not (is_same v tag.Head || is_same v tag.Frameset) || is_frame v) refl x) k,
    )

    at : (xs us : List Tag) → xs ++ hook ∷ low ≡ us ++ g ∷ bs → list_any is_special us ≡ false → chain hook xs ≡ true → ⊥
    at [] [] c m k = false≢true (sym (hook-special hook low foot).1 ∙ subst (λ v. (is_same v tag.Head || is_same v tag.Frameset) ≡ true) (sym (ap (first hook) c)) h)
    at [] (u ∷ us) c m k = false≢true (sym (neither (is_special u) (list_any is_special us) m).0 ∙ subst (λ v. is_special v ≡ true) (ap (first hook) c) (hook-special hook low foot).0)
    at (x ∷ xs) [] c m k =
        let w = framed x (subst (λ v. (is_same v tag.Head || is_same v tag.Frameset) ≡ true) (sym (ap (first x) c)) h) in
        let z = both (is_formatting x || sits x (over hook xs)) (chain hook xs) k in
        elim (either (is_formatting x) (sits x (over hook xs)) z.0) [
          | inl y ↦ false≢true (sym w.0 ∙ y)
          | inr y ↦ false≢true (sym (not-true (is_frame x) (both (not (is_frame x)) (not (is_part x) || is_under x (over hook xs)) y).0) ∙ w.1)
        ]
    at (x ∷ xs) (u ∷ us) c m k = at xs us (ap rest c) (neither (is_special u) (list_any is_special us) m).1 (both (is_formatting x || sits x (over hook xs)) (chain hook xs) k).1

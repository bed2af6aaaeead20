-- The regions of script text end it at the first marks.
use Rattle.std.proofs.Common.{◌≡◌, ℕ, zero, suc, ◌+◌, ◌<◌, ◌≤◌, List, [], ◌∷◌, ◌++◌, length, take, drop, Bool, true, false, ◌||◌, ◌&&◌, cond, Option, Some, None, option_map, refl, ap, sym, subst, ◌∙◌, arith, inl, inr, append_assoc, append-nil, length-drop, drop-drop, ◌-◌, take-append-drop}
use Rattle.std.proofs.Math.Seq.{take-add}
use Rattle.std.proofs.lemmas.Bool.{false≢true}
use Rattle.std.specs.List.{slice_get}
use Rattle.html_charref.proofs.LongestLemmas.{bool_cases, both, eq_of}
use Rattle.html_tokens.specs.Cut.{is}
use Rattle.html_tokens.specs.declared.token.Begin.TheVariants.{Char}
use Rattle.html_tokens.specs.Marks.{begin_at, front, region_in, declares, leaves, opens_script, closes_script, is_end_mark, is_lowered, is_tag_name, script_name, spells}
use Rattle.std.specs.Char.{to_ascii_lowercase}
use Rattle.std.specs.List.{AllByRecursion}
use Rattle.std.specs.Prelude.{◌==◌}
use Rattle.html_tokens.specs.Script.{EndsAfter, IsScriptEnd, Turn, before_end, first_place, is_mark, later_by, turn_at}
use Rattle.html_tokens.specs.declared.token.Region.{Region}
use Rattle.html_tokens.specs.declared.token.Region.TheVariants.{Plain, Escaped, Double}
use Rattle.html_tokens.specs.declared.token.TextMode.TheVariants.{Script}

neither : (a b : Bool) → (a || b) ≡ false → (a ≡ false) × (b ≡ false)
neither true b h = absurd (false≢true (sym h))
neither false b h = (refl, h)

-- no mark stands here
pub no_mark : (region : Region) (name : Option (List ℕ)) (c : ℕ) (rest : List ℕ) → is_mark region name (c ∷ rest) ≡ false → front Script region name (c ∷ rest) ≡ c ∷ front Script region name rest
unfolding front
no_mark Plain name c rest h =
    let p = neither (declares (c ∷ rest)) (is_end_mark name (c ∷ rest)) h in
    rw (p.1, p.0) refl
no_mark Escaped name c rest h =
    let p = neither (leaves (c ∷ rest)) (opens_script (c ∷ rest) || is_end_mark name (c ∷ rest)) h in
    let q = neither (opens_script (c ∷ rest)) (is_end_mark name (c ∷ rest)) p.1 in
    rw (q.1, p.0, q.0) refl
no_mark Double name c rest h =
    let p = neither (leaves (c ∷ rest)) (closes_script (c ∷ rest)) h in
    rw (p.0, p.1) refl

-- A CODE POINT THAT BEGINS NO MARK

and_false : (b : Bool) → (b && false) ≡ false
and_false true = refl
and_false false = refl

end_quiet : (name : Option (List ℕ)) (c : ℕ) (rest : List ℕ) → (c == 60) ≡ false → is_end_mark name (c ∷ rest) ≡ false
end_quiet None c rest h = refl
end_quiet (Some n) c rest h = rw (h, and_false (is_tag_name n)) refl

quiet_plain : (name : Option (List ℕ)) (c : ℕ) (rest : List ℕ) → (c == 60) ≡ false → is_mark Plain name (c ∷ rest) ≡ false
quiet_plain name c rest h = rw (end_quiet name c rest h, h) refl

quiet : (region : Region) (name : Option (List ℕ)) (c : ℕ) (rest : List ℕ) → (c == 60) ≡ false → (c == 45) ≡ false → is_mark region name (c ∷ rest) ≡ false
quiet Plain name c rest h g = quiet_plain name c rest h
quiet Escaped name c rest h g = rw (end_quiet name c rest h, h, g) refl
quiet Double name c rest h g = rw (h, g) refl

passes_one : (region : Region) (name : Option (List ℕ)) (c : ℕ) (rest : List ℕ) → (c == 60) ≡ false → (c == 45) ≡ false → front Script region name (c ∷ rest) ≡ c ∷ front Script region name rest
passes_one region name c rest h g = no_mark region name c rest (quiet region name c rest h g)

-- `script` in any case
other : (c n x : ℕ) → (c == x) ≡ true → (to_ascii_lowercase c == n) ≡ true → to_ascii_lowercase x < n → ⊥
other c n x e l less =
    let same : c ≡ x = eq_of c x e in
    let low : to_ascii_lowercase c ≡ n = eq_of (to_ascii_lowercase c) n l in
    omega (arith, ap to_ascii_lowercase same, low, less)

not_this : (c n x : ℕ) → (to_ascii_lowercase c == n) ≡ true → to_ascii_lowercase x < n → (c == x) ≡ false
not_this c n x l less = elim (bool_cases (c == x)) [
  | inl e ↦ absurd (other c n x e l less)
  | inr f ↦ f
]

spells_tail : (ns : List ℕ) (at : ℕ) (c : ℕ) (rest : List ℕ) → spells ns (suc at) (c ∷ rest) ≡ spells ns at rest
spells_tail [] at c rest = refl
spells_tail (n ∷ ns) at c rest =
    let e : suc at + 1 ≡ suc (at + 1) = omega arith in
    rw e (ap (λ (b : Bool). is_lowered n (slice_get rest at) && b) (spells_tail ns (at + 1) c rest))

letters_pass : (region : Region) (name : Option (List ℕ)) (ns text : List ℕ) → AllByRecursion (λ n. 60 < n) ns → spells ns 0 text ≡ true
    → front Script region name text ≡ take (length ns) text ++ front Script region name (drop (length ns) text)
letters_pass region name [] text a h = refl
letters_pass region name (n ∷ ns) [] a h = absurd (false≢true h)
letters_pass region name (n ∷ ns) (c ∷ rest) a h =
    let p = both (is_lowered n (Some c)) (spells ns 1 (c ∷ rest)) h in
    let more = letters_pass region name ns rest a.1 (sym (spells_tail ns 0 c rest) ∙ p.1) in
    passes_one region name c rest (not_this c n 60 p.0 a.0) (not_this c n 45 p.0 (let q = a.0 in omega (arith, q))) ∙ ap (λ (cs : List ℕ). c ∷ cs) more

script_letters : AllByRecursion (λ n. 60 < n) script_name
script_letters = (omega arith, (omega arith, (omega arith, (omega arith, (omega arith, (omega arith, tt))))))

-- AT A MARK

at_is : (x : ℕ) (o : Option ℕ) → is x o ≡ true → o ≡ Some x
at_is x None h = absurd (false≢true h)
at_is x (Some d) h = ap Some (eq_of d x h)

abbrev from : {X : Type 0} → X → Option X → X
from d None = d
from d (Some x) = x

some_same : {X : Type 0} {x y : X} → Some x ≡ Some y → x ≡ y
some_same {X} {x} {y} q = ap (from x) q

one_of : (text : List ℕ) (a : ℕ) → slice_get text 0 ≡ Some a → text ≡ a ∷ drop 1 text
one_of [] a h = cc
one_of (b ∷ rest) a h = ap (λ (c : ℕ). c ∷ rest) (some_same h)

take_three : (text : List ℕ) (a b c : ℕ) → slice_get text 0 ≡ Some a → slice_get text 1 ≡ Some b → slice_get text 2 ≡ Some c → text ≡ a ∷ b ∷ c ∷ drop 3 text
take_three [] a b c h g i = cc
take_three (x ∷ []) a b c h g i = cc
take_three (x ∷ y ∷ []) a b c h g i = cc
take_three (x ∷ y ∷ z ∷ rest) a b c h g i = rw (some_same h, some_same g, some_same i) refl

take_two : (text : List ℕ) (a b : ℕ) → slice_get text 0 ≡ Some a → slice_get text 1 ≡ Some b → text ≡ a ∷ b ∷ drop 2 text
take_two [] a b h g = cc
take_two (x ∷ []) a b h g = cc
take_two (x ∷ y ∷ rest) a b h g = rw (some_same h, some_same g) refl

-- where a mark is at the front that changes the region, the code point there is text, and what follows it is in the other region
changes : (region next : Region) (name : Option (List ℕ)) (c : ℕ) (rest : List ℕ) → begin_at Script region name (c ∷ rest) ≡ Char → region_in Script region (c ∷ rest) ≡ next
    → front Script region name (c ∷ rest) ≡ c ∷ front Script next name rest
unfolding front
changes region next name c rest b r = rw (b, r) refl

-- no end mark stands where another code point than `/` follows the `<`
no_end : (name : Option (List ℕ)) (c : ℕ) (rest : List ℕ) → (c == 47) ≡ false → is_end_mark name (60 ∷ c ∷ rest) ≡ false
no_end None c rest h = refl
no_end (Some n) c rest h = rw (h, and_false (is_tag_name n && true)) refl

no_end_word : (name : Option (List ℕ)) (rest : List ℕ) → spells script_name 0 rest ≡ true → is_end_mark name (60 ∷ rest) ≡ false
no_end_word name [] h = absurd (false≢true h)
no_end_word name (c ∷ more) h = no_end name c more (not_this c 115 47 (both (is_lowered 115 (Some c)) _ h).0 (omega arith))

-- `-->` is a mark of this region
abbrev turns_by_dashes : Region → Type 0
turns_by_dashes Plain = ⊥
turns_by_dashes Escaped = Unit {0}
turns_by_dashes Double = Unit {0}

-- `<!--`
dashes_after : (name : Option (List ℕ)) (text rest : List ℕ) → text ≡ 60 ∷ 33 ∷ rest → declares text ≡ true → front Script Plain name text ≡ 60 ∷ 33 ∷ front Script Escaped name rest
dashes_after name text rest e d =
    let there : declares (60 ∷ 33 ∷ rest) ≡ true = ap declares (sym e) ∙ d in
    ap (front Script Plain name) e
    ∙ changes Plain Escaped name 60 (33 ∷ rest) (rw (no_end name 33 rest refl) refl) (rw there refl)
    ∙ ap (λ (cs : List ℕ). 60 ∷ cs) (passes_one Escaped name 33 rest refl refl)

-- `-->`
leaves_after : (region : Region) (name : Option (List ℕ)) (text rest : List ℕ) → turns_by_dashes region → text ≡ 45 ∷ 45 ∷ 62 ∷ rest → front Script region name text ≡ 45 ∷ 45 ∷ 62 ∷ front Script Plain name rest
leaves_after region name text rest t e =
    ap (front Script region name) e
    ∙ left region t
    ∙ ap (λ (cs : List ℕ). 45 ∷ cs) (no_mark Plain name 45 (62 ∷ rest) (quiet_plain name 45 (62 ∷ rest) refl) ∙ ap (λ (cs : List ℕ). 45 ∷ cs) (no_mark Plain name 62 rest (quiet_plain name 62 rest refl)))
  where
    left : (r : Region) → turns_by_dashes r → front Script r name (45 ∷ 45 ∷ 62 ∷ rest) ≡ 45 ∷ front Script Plain name (45 ∷ 62 ∷ rest)
    left Plain t = absurd t
    left Escaped t = changes Escaped Plain name 45 (45 ∷ 62 ∷ rest) (rw (end_quiet name 45 (45 ∷ 62 ∷ rest) refl) refl) refl
    left Double t = changes Double Plain name 45 (45 ∷ 62 ∷ rest) refl refl

-- `<script`
opens_after : (name : Option (List ℕ)) (text rest : List ℕ) → text ≡ 60 ∷ rest → opens_script text ≡ true → front Script Escaped name text ≡ 60 ∷ (take 6 rest ++ front Script Double name (drop 6 rest))
opens_after name text rest e o =
    let there : opens_script (60 ∷ rest) ≡ true = ap opens_script (sym e) ∙ o in
    let word : spells script_name 1 (60 ∷ rest) ≡ true = (both true (spells script_name 1 (60 ∷ rest)) there).1 in
    let spelled : spells script_name 0 rest ≡ true = sym (spells_tail script_name 0 60 rest) ∙ word in
    ap (front Script Escaped name) e
    ∙ changes Escaped Double name 60 rest (rw (no_end_word name rest spelled) refl) (rw there refl)
    ∙ ap (λ (cs : List ℕ). 60 ∷ cs) (letters_pass Double name script_name rest script_letters spelled)

-- `</script`
closes_after : (name : Option (List ℕ)) (text rest : List ℕ) → text ≡ 60 ∷ 47 ∷ rest → closes_script text ≡ true → front Script Double name text ≡ 60 ∷ 47 ∷ (take 6 rest ++ front Script Escaped name (drop 6 rest))
closes_after name text rest e o =
    let there : closes_script (60 ∷ 47 ∷ rest) ≡ true = ap closes_script (sym e) ∙ o in
    let word : spells script_name 2 (60 ∷ 47 ∷ rest) ≡ true = (both true (spells script_name 2 (60 ∷ 47 ∷ rest)) there).1 in
    let spelled : spells script_name 0 rest ≡ true = sym (spells_tail script_name 1 60 (47 ∷ rest) ∙ spells_tail script_name 0 47 rest) ∙ word in
    ap (front Script Double name) e
    ∙ changes Double Escaped name 60 (47 ∷ rest) refl (rw there refl)
    ∙ ap (λ (cs : List ℕ). 60 ∷ cs) (passes_one Escaped name 47 rest refl refl)
    ∙ ap (λ (cs : List ℕ). 60 ∷ 47 ∷ cs) (letters_pass Escaped name script_name rest script_letters spelled)

-- WHERE A MARK STANDS

cond_yes : {X : Type 0} (b : Bool) (x y z : X) → cond b x y ≡ z → b ≡ true → x ≡ z
cond_yes true x y z h e = h
cond_yes false x y z h e = absurd (false≢true e)

cond_not : {X : Type 0} (b : Bool) (x y z : X) → cond b x y ≡ z → b ≡ false → y ≡ z
cond_not true x y z h e = absurd (false≢true (sym e))
cond_not false x y z h e = h

-- where a text turns
abbrev Turned : Region → Option (List ℕ) → List ℕ → Turn → Type 0
Turned region name text t = front Script region name text ≡ take t.from text ++ front Script t.region name (drop t.from text)

turned_declares : (name : Option (List ℕ)) (text : List ℕ) → declares text ≡ true → Turned Plain name text (record { region = Escaped; from = 2 })
turned_declares name text d =
    let p = both (is 60 (slice_get text 0) && is 33 (slice_get text 1) && is 45 (slice_get text 2)) (is 45 (slice_get text 3)) d in
    let q = both (is 60 (slice_get text 0) && is 33 (slice_get text 1)) (is 45 (slice_get text 2)) p.0 in
    let r = both (is 60 (slice_get text 0)) (is 33 (slice_get text 1)) q.0 in
    let e = take_two text 60 33 (at_is 60 (slice_get text 0) r.0) (at_is 33 (slice_get text 1) r.1) in
    dashes_after name text (drop 2 text) e d ∙ ap (λ (cs : List ℕ). cs ++ front Script Escaped name (drop 2 text)) (sym (ap (take 2) e))

turned_leaves : (region : Region) (name : Option (List ℕ)) (text : List ℕ) → turns_by_dashes region → leaves text ≡ true → Turned region name text (record { region = Plain; from = 3 })
turned_leaves region name text t d =
    let p = both (is 45 (slice_get text 0) && is 45 (slice_get text 1)) (is 62 (slice_get text 2)) d in
    let q = both (is 45 (slice_get text 0)) (is 45 (slice_get text 1)) p.0 in
    let e = take_three text 45 45 62 (at_is 45 (slice_get text 0) q.0) (at_is 45 (slice_get text 1) q.1) (at_is 62 (slice_get text 2) p.1) in
    leaves_after region name text (drop 3 text) t e ∙ ap (λ (cs : List ℕ). cs ++ front Script Plain name (drop 3 text)) (sym (ap (take 3) e))

turned_opens : (name : Option (List ℕ)) (text : List ℕ) → opens_script text ≡ true → Turned Escaped name text (record { region = Double; from = 7 })
turned_opens name text d =
    let p = both (is 60 (slice_get text 0)) (spells script_name 1 text) d in
    let e = one_of text 60 (at_is 60 (slice_get text 0) p.0) in
    opens_after name text (drop 1 text) e d
    ∙ sym (ap (λ (cs : List ℕ). take 7 cs ++ front Script Double name (drop 7 cs)) e)

turned_closes : (name : Option (List ℕ)) (text : List ℕ) → closes_script text ≡ true → Turned Double name text (record { region = Escaped; from = 8 })
turned_closes name text d =
    let p = both (is 60 (slice_get text 0) && is 47 (slice_get text 1)) (spells script_name 2 text) d in
    let q = both (is 60 (slice_get text 0)) (is 47 (slice_get text 1)) p.0 in
    let e = take_two text 60 47 (at_is 60 (slice_get text 0) q.0) (at_is 47 (slice_get text 1) q.1) in
    closes_after name text (drop 2 text) e d
    ∙ sym (ap (λ (cs : List ℕ). take 8 cs ++ front Script Escaped name (drop 8 cs)) e)

turned : (region : Region) (name : Option (List ℕ)) (text : List ℕ) (t : Turn) → turn_at region text ≡ Some t → Turned region name text t
turned Plain name text t h = elim (bool_cases (declares text)) [
  | inl d ↦ subst (Turned Plain name text) (some_same (cond_yes (declares text) _ _ _ h d)) (turned_declares name text d)
  | inr f ↦ (let e = cond_not (declares text) _ _ _ h f in cc)
]
turned Escaped name text t h = elim (bool_cases (leaves text)) [
  | inl d ↦ subst (Turned Escaped name text) (some_same (cond_yes (leaves text) _ _ _ h d)) (turned_leaves Escaped name text tt d)
  | inr f ↦ elim (bool_cases (opens_script text)) [
    | inl o ↦ subst (Turned Escaped name text) (some_same (cond_yes (opens_script text) _ _ _ (cond_not (leaves text) _ _ _ h f) o)) (turned_opens name text o)
    | inr n ↦ (let e = cond_not (opens_script text) _ _ _ (cond_not (leaves text) _ _ _ h f) n in cc)
  ]
]
turned Double name text t h = elim (bool_cases (leaves text)) [
  | inl d ↦ subst (Turned Double name text) (some_same (cond_yes (leaves text) _ _ _ h d)) (turned_leaves Double name text tt d)
  | inr f ↦ elim (bool_cases (closes_script text)) [
    | inl o ↦ subst (Turned Double name text) (some_same (cond_yes (closes_script text) _ _ _ (cond_not (leaves text) _ _ _ h f) o)) (turned_closes name text o)
    | inr n ↦ (let e = cond_not (closes_script text) _ _ _ (cond_not (leaves text) _ _ _ h f) n in cc)
  ]
]

no_turn : (b : Bool) (t : Turn) (o : Option Turn) → cond b (Some t) o ≡ None → b ≡ false
no_turn true t o h = cc
no_turn false t o h = refl

other_one : (a b : Bool) → (a || b) ≡ true → a ≡ false → b ≡ true
other_one true b h f = absurd (false≢true (sym f))
other_one false b h f = h

-- the end mark
ended : (region : Region) (name : Option (List ℕ)) (text : List ℕ) → is_mark region name text ≡ true → turn_at region text ≡ None → front Script region name text ≡ []
unfolding front
ended region name [] h t = refl
ended Plain name (c ∷ rest) h t =
    let d = no_turn (declares (c ∷ rest)) _ _ t in
    rw (other_one (declares (c ∷ rest)) (is_end_mark name (c ∷ rest)) h d) refl
ended Escaped name (c ∷ rest) h t =
    let l = no_turn (leaves (c ∷ rest)) _ _ t in
    let o = no_turn (opens_script (c ∷ rest)) _ _ (cond_not (leaves (c ∷ rest)) _ _ _ t l) in
    rw (other_one (opens_script (c ∷ rest)) (is_end_mark name (c ∷ rest)) (other_one (leaves (c ∷ rest)) _ h l) o) refl
ended Double name (c ∷ rest) h t =
    let l = no_turn (leaves (c ∷ rest)) _ _ t in
    let o = no_turn (closes_script (c ∷ rest)) _ _ (cond_not (leaves (c ∷ rest)) _ _ _ t l) in
    absurd (false≢true (sym o ∙ other_one (leaves (c ∷ rest)) (closes_script (c ∷ rest)) h l))

-- THE WHOLE TEXT

none_later : (o : Option ℕ) → option_map suc o ≡ None → o ≡ None
none_later None h = refl
none_later (Some k) h = cc

some_later : (o : Option ℕ) (k : ℕ) → option_map suc o ≡ Some k → (j : ℕ) × (o ≡ Some j) × (k ≡ suc j)
some_later None k h = cc
some_later (Some j) k h = (j, refl, sym (some_same h))

-- where no mark stands anywhere
none_stands : (region : Region) (name : Option (List ℕ)) (text : List ℕ) → first_place (is_mark region name) text ≡ None → front Script region name text ≡ text
unfolding first_place front
none_stands region name [] h = refl
none_stands region name (c ∷ rest) h =
    elim (bool_cases (is_mark region name (c ∷ rest))) [
      | inl there ↦ (let e = cond_yes (is_mark region name (c ∷ rest)) _ _ _ h there in cc)
      | inr off ↦
          no_mark region name c rest off
          ∙ ap (λ (cs : List ℕ). c ∷ cs) (none_stands region name rest (none_later (first_place (is_mark region name) rest) (cond_not (is_mark region name (c ∷ rest)) _ _ _ h off)))
    ]

-- before the first mark
abbrev Stands : Region → Option (List ℕ) → List ℕ → ℕ → Type 0
Stands region name text k = (front Script region name text ≡ take k text ++ front Script region name (drop k text)) × (is_mark region name (drop k text) ≡ true) × (k < length text)

first_stands : (region : Region) (name : Option (List ℕ)) (text : List ℕ) (k : ℕ) → first_place (is_mark region name) text ≡ Some k → Stands region name text k
unfolding first_place
first_stands region name [] k h = cc
first_stands region name (c ∷ rest) k h =
    elim (bool_cases (is_mark region name (c ∷ rest))) [
      | inl there ↦ subst (Stands region name (c ∷ rest)) (some_same (cond_yes (is_mark region name (c ∷ rest)) _ _ _ h there)) (refl, there, omega arith)
      | inr off ↦
          let l = some_later (first_place (is_mark region name) rest) k (cond_not (is_mark region name (c ∷ rest)) _ _ _ h off) in
          let more = first_stands region name rest l.0 l.1 in
          let less = more.2 in
          subst (Stands region name (c ∷ rest)) (sym l.2) (no_mark region name c rest off ∙ ap (λ (cs : List ℕ). c ∷ cs) more.0, more.1, omega (arith, less))
    ]

-- up to there it is text
up_to : (at from : ℕ) (text : List ℕ) (later : Option ℕ) → take at text ++ (take from (drop at text) ++ before_end later (drop from (drop at text))) ≡ before_end (later_by (at + from) later) text
up_to at from text None =
    ap (λ (cs : List ℕ). take at text ++ cs) (take-append-drop from (drop at text)) ∙ take-append-drop at text
up_to at from text (Some k) =
    sym (take-add (at + from) k text
    ∙ ap (λ (cs : List ℕ). cs ++ take k (drop (at + from) text)) (take-add at from text)
    ∙ append_assoc (take at text) (take from (drop at text)) (take k (drop (at + from) text))
    ∙ ap (λ (cs : List ℕ). take at text ++ (take from (drop at text) ++ take k cs)) (sym (drop-drop from at text)))

-- where the first marks end the text, the regions end it
pub ends_there : (turns : ℕ) (region : Region) (name : Option (List ℕ)) (text : List ℕ) (end : Option ℕ) → EndsAfter turns region name text end → front Script region name text ≡ before_end end text
ends_there zero region name text None e = none_stands region name text e.0
ends_there zero region name text (Some k) e =
    let s = first_stands region name text k e.0 in
    s.0 ∙ ap (λ (cs : List ℕ). take k text ++ cs) (ended region name (drop k text) s.1 e.1) ∙ append-nil (take k text)
ends_there (suc n) region name text end (at, (t, (later, (first, (rest, whole))))) =
    let s = first_stands region name text at first.first in
    let more = turned region name (drop at text) t first.turns in
    let after = ends_there n t.region name (drop (at + t.from) text) later rest in
    let same : drop t.from (drop at text) ≡ drop (at + t.from) text = drop-drop t.from at text in
    s.0 ∙ ap (λ (cs : List ℕ). take at text ++ cs) (more ∙ ap (λ (cs : List ℕ). take t.from (drop at text) ++ cs) (ap (front Script t.region name) same ∙ after ∙ ap (before_end later) (sym same)))
    ∙ up_to at t.from text later ∙ ap (λ (o : Option ℕ). before_end o text) (sym whole)

-- a mark that turns is one code point or more
turn_some : (region : Region) (text : List ℕ) (t : Turn) → turn_at region text ≡ Some t → 0 < t.from
turn_some Plain text t h = elim (bool_cases (declares text)) [
  | inl d ↦ subst (λ (x : Turn). 0 < x.from) (some_same (cond_yes (declares text) _ _ _ h d)) (omega arith)
  | inr f ↦ (let e = cond_not (declares text) _ _ _ h f in cc)
]
turn_some Escaped text t h = elim (bool_cases (leaves text)) [
  | inl d ↦ subst (λ (x : Turn). 0 < x.from) (some_same (cond_yes (leaves text) _ _ _ h d)) (omega arith)
  | inr f ↦ elim (bool_cases (opens_script text)) [
    | inl o ↦ subst (λ (x : Turn). 0 < x.from) (some_same (cond_yes (opens_script text) _ _ _ (cond_not (leaves text) _ _ _ h f) o)) (omega arith)
    | inr n ↦ (let e = cond_not (opens_script text) _ _ _ (cond_not (leaves text) _ _ _ h f) n in cc)
  ]
]
turn_some Double text t h = elim (bool_cases (leaves text)) [
  | inl d ↦ subst (λ (x : Turn). 0 < x.from) (some_same (cond_yes (leaves text) _ _ _ h d)) (omega arith)
  | inr f ↦ elim (bool_cases (closes_script text)) [
    | inl o ↦ subst (λ (x : Turn). 0 < x.from) (some_same (cond_yes (closes_script text) _ _ _ (cond_not (leaves text) _ _ _ h f) o)) (omega arith)
    | inr n ↦ (let e = cond_not (closes_script text) _ _ _ (cond_not (leaves text) _ _ _ h f) n in cc)
  ]
]

-- where the script ends
abbrev Ends : Region → Option (List ℕ) → List ℕ → Type 0
Ends region name text = (end : Option ℕ) × IsScriptEnd region name text end

ends_at : (region : Region) (name : Option (List ℕ)) (text : List ℕ) (k : ℕ) (o : Option Turn) → first_place (is_mark region name) text ≡ Some k → turn_at region (drop k text) ≡ o
    → ((t : Turn) → o ≡ Some t → Ends t.region name (drop (k + t.from) text)) → Ends region name text
ends_at region name text k None first at more = (Some k, (0, (first, at)))
ends_at region name text k (Some t) first at more =
    let l = more t refl in
    (later_by (k + t.from) l.0, (suc l.1.0, (k, (t, (l.0, (record { first = first; turns = at }, (l.1.1, refl)))))))

ends_by : (region : Region) (name : Option (List ℕ)) (text : List ℕ) (o : Option ℕ) → first_place (is_mark region name) text ≡ o
    → ((k : ℕ) (t : Turn) → o ≡ Some k → turn_at region (drop k text) ≡ Some t → Ends t.region name (drop (k + t.from) text)) → Ends region name text
ends_by region name text None first more = (None, (0, (first, tt)))
ends_by region name text (Some k) first more =
    ends_at region name text k (turn_at region (drop k text)) first refl (λ t is. more k t refl is)

shorter : (n k from f : ℕ) → n ≤ suc f → k < n → 0 < from → n - (k + from) ≤ f
shorter n k from f few less some = omega (arith, few, less, some)

ends_within : (fuel : ℕ) (region : Region) (name : Option (List ℕ)) (text : List ℕ) → length text ≤ fuel → Ends region name text
unfolding first_place
ends_within zero region name [] few = (None, (0, (refl, tt)))
ends_within zero region name (c ∷ rest) few = absurd (omega (arith, few))
ends_within (suc f) region name text few =
    ends_by region name text (first_place (is_mark region name) text) refl
    (λ k t first turns.
    ends_within f t.region name (drop (k + t.from) text)
    (subst (λ n. n ≤ f) (sym (length-drop (k + t.from) text)) (shorter (length text) k t.from f few (first_stands region name text k first).2 (turn_some region (drop k text) t turns))))

-- the first marks end each text somewhere, or nowhere
pub ends_somewhere : (region : Region) (name : Option (List ℕ)) (text : List ℕ) → (end : Option ℕ) × IsScriptEnd region name text end
ends_somewhere region name text = ends_within (length text) region name text (omega arith)

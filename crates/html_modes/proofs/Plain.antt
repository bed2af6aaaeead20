-- Where a plain page stands after its next token.
use Rattle.std.proofs.Common.{ℕ, suc, ◌+◌, ◌-◌, ◌≡◌, ◌==◌, ◌<◌, ◌⊎◌, ◌&&◌, cond, inl, inr, Bool, true, false, List, [], ◌∷◌, ◌++◌, drop, length, take, eqb, None, Some, refl, sym, ap, subst, ◌∙◌, arith, length-append}
use Rattle.std.specs.List.{list_all, list_any}
use Rattle.std.proofs.Math.Seq.{take-append_seam}
use Rattle.std.proofs.lemmas.Bool.{eq-eqb, false≢true}
use Rattle.html_names.specs.declared.tag.Tag.{Tag}
use Rattle.html_names.specs.declared.tag.Tag.TheVariants as tag
use Rattle.html_names.specs.Groups.{takes_newline}
use Rattle.html_names.specs.Sets.{is_formatting}
use Rattle.html_names.specs.Tags.{is_same}
use Rattle.html_arena.specs.Siblings.{last_of}
use Rattle.html_arena.specs.Tree.{Tree as Nodes, tag_at}
use Rattle.html_tokens.specs.declared.token.TokenKind.{TokenKind}
use Rattle.html_ledger.specs.Entries.{Entries, noted}
use Rattle.html_ledger.specs.Flags.{after, must_drop}
use Rattle.html_ledger.specs.MayDrop.{makes}
use Rattle.html_ledger.specs.Spaces.{is_space}
use Rattle.html_ledger.specs.declared.fate.Cause.{Cause}
use Rattle.html_ledger.specs.declared.fate.Fate.{Fate}
use Rattle.html_ledger.specs.declared.history.History.{History}
use Rattle.html_ledger.specs.declared.symbol.Symbol.{Symbol}
use Rattle.html_ledger.specs.declared.symbol.Symbol.TheVariants.{Start, End, Char, Comment, Doctype, Eof}
use Rattle.html_open.specs.declared.entry.Entry.{Entry}
use Rattle.html_open.specs.declared.entry.Entry.TheVariants.{Marker, Node}
use Rattle.html_open.specs.Entries.{alike, has_node, has_three, is_marker, is_node, pushed, without_earliest, without_node}
use Rattle.html_open.specs.Lists.{above, below, up_to, without_first, without_last}
use Rattle.html_open.specs.Placing.{get}
use Rattle.html_open.proofs.Lists.{above-push, any-push, below-push, cases}
use Rattle.html_open.proofs.Closing.{last-pushed}
use Rattle.html_tree.specs.Closing.{kept_to, popped}
use Rattle.html_tree.specs.OpenTags.{open_tags, tags_down}
use Rattle.html_tree.specs.States.{IsSound, State as Tree}
use Rattle.html_tree.proofs.OpenTags.{length-tags, push-tags}
use Rattle.html_construction.specs.declared.mode.Mode.{Mode}
use Rattle.html_construction.specs.declared.mode.Mode.TheVariants as mode
use Rattle.html_construction.specs.Calls.{IsTree}
use Rattle.html_construction.specs.States.{State}
use Rattle.html_construction.proofs.Weighing.{same-tag}
use Rattle.html_construction.specs.Modes.{is_of_frames, is_of_selects}
use Rattle.html_modes.specs.Guards.{is_table_text}
use Rattle.html_modes.specs.Plain.{AreListed, EndsCurrent, GoesOn, HasSeen, IsNext, IsPlainState, IsTurn, StandsIn, Turns, closes, is_next, is_plain_tag, next_fate, next_list, next_mode, next_nodes, next_stack, next_tags}
use Rattle.html_modes.specs.declared.outcome.Outcome.{Outcome}
use Rattle.html_modes.specs.declared.outcome.Outcome.TheVariants.{Done, Reprocess, Foreign}
use Rattle.html_construction.proofs.Planned.{halves}

-- WHAT IS LISTED

-- what is listed in these elements when the other is, is
abbrev Less : List Entry → List Entry → Type 0
Less fs es = (s : List ℕ) → AreListed es s → AreListed fs s

listed-skip : (es : List Entry) (x : ℕ) (s : List ℕ) → AreListed es s → AreListed es (x ∷ s)
listed-skip [] x s h = tt
listed-skip (e ∷ es) x s h = inr h

listed-tail : (e : Entry) (es : List Entry) → Less es (e ∷ es)
listed-tail e es [] h = absurd h
listed-tail e es (x ∷ s) (inl h) = listed-skip es x s h.1
listed-tail e es (x ∷ s) (inr h) = listed-skip es x s (listed-tail e es s h)

listed-cons : (e : Entry) (fs es : List Entry) → Less fs es → Less (e ∷ fs) (e ∷ es)
listed-cons e fs es k [] h = absurd h
listed-cons e fs es k (x ∷ s) (inl h) = inl (h.0, k s h.1)
listed-cons e fs es k (x ∷ s) (inr h) = inr (listed-cons e fs es k s h)

-- one entry goes
less-first : (p : Entry → Bool) (es : List Entry) → Less (without_first p es) es
less-first p [] = λ s h. h
less-first p (e ∷ es) = elim (cases (p e)) [
  | inl a ↦ rw a (listed-tail e es)
  | inr a ↦ rw a (listed-cons e (without_first p es) es (less-first p es))
]

less-earliest : (p q : Entry → Bool) (es : List Entry) → Less (up_to p es ++ without_first q (above p es)) es
less-earliest p q [] = λ s h. h
less-earliest p q (e ∷ es) = elim (cases (list_any p es)) [
  | inl a ↦ rw a (listed-cons e (up_to p es ++ without_first q (above p es)) es (less-earliest p q es))
  | inr a ↦ elim (cases (p e)) [
    | inl b ↦ rw (a, b) (listed-cons e (without_first q es) es (less-first q es))
    | inr b ↦ rw (a, b) (less-first q (e ∷ es))
  ]
]

less-last : (p : Entry → Bool) (es : List Entry) → Less (below p es ++ above p es) es
less-last p [] = λ s h. h
less-last p (e ∷ es) = elim (cases (list_any p es)) [
  | inl a ↦ rw a (listed-cons e (below p es ++ above p es) es (less-last p es))
  | inr a ↦ elim (cases (p e)) [
    | inl b ↦ rw (a, b) (listed-tail e es)
    | inr b ↦ rw (a, b) (λ s h. h)
  ]
]

less-without : (p : Entry → Bool) (es : List Entry) → Less (without_last p es) es
less-without p es = elim (cases (list_any p es)) [
  | inl a ↦ rw a (less-last p es)
  | inr a ↦ rw a (λ s h. h)
]

-- one more element is open
listed-more : (es : List Entry) (s : List ℕ) (x : ℕ) → AreListed es s → AreListed es (s ++ x ∷ [])
listed-more [] s x h = tt
listed-more (e ∷ es) [] x h = absurd h
listed-more (e ∷ es) (y ∷ s) x (inl h) = inl (h.0, listed-more es s x h.1)
listed-more (e ∷ es) (y ∷ s) x (inr h) = inr (listed-more (e ∷ es) s x h)

-- and listed
listed-added : (es : List Entry) (s : List ℕ) (x : ℕ) → AreListed es s → AreListed (es ++ Node x ∷ []) (s ++ x ∷ [])
listed-added [] [] x h = inl (refl, tt)
listed-added [] (y ∷ s) x h = inr (listed-added [] s x tt)
listed-added (e ∷ es) [] x h = absurd h
listed-added (e ∷ es) (y ∷ s) x (inl h) = inl (h.0, listed-added es s x h.1)
listed-added (e ∷ es) (y ∷ s) x (inr h) = inr (listed-added (e ∷ es) s x h)

listed-pushed : (t : Nodes) (es : List Entry) (s : List ℕ) (x : ℕ) → AreListed es s → AreListed (pushed t x es) (s ++ x ∷ [])
listed-pushed t es s x h = elim (cases (has_three t x es)) [
  | inl a ↦ rw a (listed-added (without_earliest t x es) s x (less-earliest is_marker (alike t x) es s h))
  | inr a ↦ rw a (listed-added es s x h)
]

listed-opened : (t : Nodes) (es : List Entry) (s : List ℕ) (x : ℕ) (b : Bool) → AreListed es s → AreListed (cond b (pushed t x es) es) (s ++ x ∷ [])
listed-opened t es s x true h = listed-pushed t es s x h
listed-opened t es s x false h = listed-more es s x h

-- the last element is the last entry, or no entry
listed-split : (es : List Entry) (s : List ℕ) (x : ℕ) → AreListed es (s ++ x ∷ []) → AreListed es s ⊎ ((fs : List Entry) × (es ≡ fs ++ Node x ∷ []) × AreListed fs s)
listed-split [] s x h = inl tt
listed-split (e ∷ []) [] x (inl h) = inr ([], ap (λ f. f ∷ []) h.0, tt)
listed-split (e ∷ f ∷ es) [] x (inl h) = absurd h.1
listed-split (e ∷ es) [] x (inr h) = absurd h
listed-split (e ∷ es) (y ∷ s) x (inl h) = elim (listed-split es s x h.1) [
  | inl k ↦ inl (inl (h.0, k))
  | inr k ↦ inr (e ∷ k.0, ap (λ fs. e ∷ fs) k.1, inl (h.0, k.2))
]
listed-split (e ∷ es) (y ∷ s) x (inr h) = elim (listed-split (e ∷ es) s x h) [
  | inl k ↦ inl (inr k)
  | inr k ↦ inr (k.0, k.1, listed-skip k.0 y s k.2)
]

eqb-same : (x : ℕ) → eqb x x ≡ true
eqb-same x = eq-eqb x x refl

without-pushed : (fs : List Entry) (x : ℕ) → without_node x (fs ++ Node x ∷ []) ≡ fs
without-pushed fs x =
    rw (any-push (is_node x) fs (Node x), below-push (is_node x) fs (Node x), above-push (is_node x) fs (Node x), eqb-same x) (append-none fs)
  where
    append-none : (es : List Entry) → es ++ [] ≡ es
    append-none [] = refl
    append-none (e ∷ es) = ap (λ z. e ∷ z) (append-none es)

-- the current node is closed, and its entry goes
listed-closed : (es : List Entry) (s : List ℕ) (x : ℕ) → AreListed es (s ++ x ∷ []) → AreListed (without_node x es) s
listed-closed es s x h = elim (listed-split es s x h) [
  | inl k ↦ less-without (is_node x) es s k
  | inr k ↦ subst (λ z. AreListed z s) (sym (ap (without_node x) k.1 ∙ without-pushed k.0 x)) k.2
]

has-pushed : (fs : List Entry) (x : ℕ) → has_node x (fs ++ Node x ∷ []) ≡ true
has-pushed [] x = rw (eqb-same x) refl
has-pushed (Marker ∷ fs) x = has-pushed fs x
has-pushed (Node y ∷ fs) x = elim (cases (eqb x y)) [
  | inl a ↦ rw a refl
  | inr a ↦ rw a (has-pushed fs x)
]

-- the current node is closed, and had no entry
listed-unlisted : (es : List Entry) (s : List ℕ) (x : ℕ) → (has_node x es ≡ true → ⊥) → AreListed es (s ++ x ∷ []) → AreListed es s
listed-unlisted es s x n h = elim (listed-split es s x h) [
  | inl k ↦ k
  | inr k ↦ absurd (n (ap (has_node x) k.1 ∙ has-pushed k.0 x))
]

-- WHAT IS CLOSED

and-false : (b : Bool) → (b && false) ≡ false
and-false true = refl
and-false false = refl

and : (a b : Bool) → a ≡ true → b ≡ true → (a && b) ≡ true
and a b e f = rw (e, f) refl

last-split : (s : List ℕ) → 0 < length s → (r : List ℕ) × (x : ℕ) × (s ≡ r ++ x ∷ [])
last-split [] h = absurd (omega (arith, h))
last-split (x ∷ []) h = ([], x, refl)
last-split (x ∷ y ∷ s) h = let k = last-split (y ∷ s) (omega arith) in (x ∷ k.0, k.1, ap (λ z. x ∷ z) k.2)

kept-all : (n : ℕ) → 0 < n → kept_to (n + 1) ((n + 1) - 1) ≡ n
kept-all n h = omega (arith, h)

pub popped-push : (s : List ℕ) (x : ℕ) → 0 < length s → popped (s ++ x ∷ []) ≡ s
popped-push s x h =
    let e : kept_to (length (s ++ x ∷ [])) (length (s ++ x ∷ []) - 1) ≡ length s = rw (length-append s (x ∷ [])) (kept-all (length s) h) in
    ap (λ n. take n (s ++ x ∷ [])) e ∙ take-append_seam s (x ∷ [])

-- the current node is closed, and so is the list kept
closed-listed : (a : Tree) (t v : Tag) (r : List Tag) → IsSound a → open_tags a ≡ t ∷ v ∷ r → AreListed a.list a.stack → AreListed (cond (is_formatting t) (without_node (get (last_of a.stack) 0) a.list) a.list) (popped a.stack)
closed-listed a t v r w e h =
    let count : length a.stack ≡ suc (suc (length r)) = sym (length-tags a.tree a.stack) ∙ ap length e in
    let k = last-split a.stack (omega (arith, count)) in
    let q : a.stack ≡ k.0 ++ k.1 ∷ [] = k.2 in
    let tags : tag_at a.tree k.1 ∷ tags_down a.tree k.0 ≡ t ∷ v ∷ r = sym (push-tags a.tree k.0 k.1) ∙ ap (tags_down a.tree) (sym q) ∙ e in
    let first : tag_at a.tree k.1 ≡ t = (let z = tags in cc) in
    let more : length (k.0 ++ k.1 ∷ []) ≡ length k.0 + 1 = length-append k.0 (k.1 ∷ []) in
    let some : 0 < length k.0 = (let z : length a.stack ≡ length (k.0 ++ k.1 ∷ []) = ap length q in omega (arith, count, z, more)) in
    let shorter : popped a.stack ≡ k.0 = ap popped q ∙ popped-push k.0 k.1 some in
    let last : get (last_of a.stack) 0 ≡ k.1 = ap (λ z. get (last_of z) 0) q ∙ ap (λ o. get o 0) (last-pushed k.0 k.1) in
    let here : AreListed a.list (k.0 ++ k.1 ∷ []) = subst (λ z. AreListed a.list z) q h in
    subst (λ z. AreListed (cond (is_formatting t) (without_node (get (last_of a.stack) 0) a.list) a.list) z) (sym shorter)
    (subst (λ x. AreListed (cond (is_formatting t) (without_node x a.list) a.list) k.0) (sym last) (
    elim (cases (is_formatting t)) [
      | inl b ↦ rw b (listed-closed a.list k.0 k.1 here)
      | inr b ↦ rw b (listed-unlisted a.list k.0 k.1 (λ z. false≢true (sym b ∙ ap is_formatting (sym first) ∙ w.formatting k.1 z)) here)
    ]
    ))

-- WHAT COMES NEXT

-- modes of a plain page are neither of selects nor of frames, and no text is kept in them
pub own-mode : (m : Mode) (s : List Tag) → StandsIn m s → (is_of_selects m ≡ false) × (is_of_frames m ≡ false) × (is_table_text m ≡ false)
own-mode mode.Initial s h = (refl, refl, refl)
own-mode mode.BeforeHtml s h = (refl, refl, refl)
own-mode mode.BeforeHead s h = (refl, refl, refl)
own-mode mode.InHead s h = (refl, refl, refl)
own-mode mode.AfterHead s h = (refl, refl, refl)
own-mode mode.InBody s h = (refl, refl, refl)
own-mode mode.AfterBody s h = (refl, refl, refl)
own-mode mode.AfterAfterBody s h = (refl, refl, refl)
own-mode _ s h = absurd h

plain-newline : (t : Tag) → is_plain_tag t ≡ true → takes_newline t ≡ false
plain-newline tag.Listing e = absurd (false≢true e)
plain-newline tag.Pre e = absurd (false≢true e)
plain-newline tag.Textarea e = absurd (false≢true e)
plain-newline _ e = refl

start-newline : (m : Mode) (s : List Tag) (t : Tag) → is_next m s (Start t) ≡ true → takes_newline t ≡ false
start-newline mode.BeforeHtml s tag.Html e = refl
start-newline mode.BeforeHtml s _ e = absurd (false≢true e)
start-newline mode.BeforeHead s tag.Head e = refl
start-newline mode.BeforeHead s _ e = absurd (false≢true e)
start-newline mode.AfterHead s tag.Body e = refl
start-newline mode.AfterHead s _ e = absurd (false≢true e)
start-newline mode.InBody s t e = plain-newline t e
start-newline _ s t e = absurd (false≢true e)

-- no line feed is dropped after it
newline-next : (m : Mode) (s : List Tag) (y : Symbol) (f : Fate) → is_next m s y ≡ true → makes takes_newline y f ≡ false
newline-next m s (Start t) f e = rw (start-newline m s t e) (and-false _)
newline-next m s _ f e = and-false _

-- no foreign content is made of it
foreign-next : (a : State) (y : Symbol) → a.ledger.history.foreign ≡ false → (after a.ledger.history y (next_fate a y)).foreign ≡ false
foreign-next a (Start t) e = rw e refl
foreign-next a _ e = rw e refl

seen-next : (m : Mode) (s : List Tag) (y : Symbol) (h : History) (f : Fate) → is_next m s y ≡ true → HasSeen m h → HasSeen (next_mode m y) (after h y f)
seen-next mode.AfterHead s (Start tag.Body) h f e k = (and-false _, and-false _)
seen-next mode.AfterHead s _ h f e k = absurd (false≢true e)
seen-next mode.InBody s (End tag.Body) h f e k = tt
seen-next mode.InBody s _ h f e k = rw (k.0, k.1) (refl, refl)
seen-next _ s y h f e k = tt

-- no cause drops the token in every mode
must-none : (m : Mode) (s : List Tag) (y : Symbol) (h : History) → is_next m s y ≡ true → HasSeen m h → h.ignore_line_feed ≡ false → must_drop h y ≡ None
must-none mode.InBody s (Char c) h e k n = rw (k.1, n, and-false (is_space c), and-false (c == 10)) refl
must-none _ s (Char c) h e k n = absurd (false≢true e)
must-none m s _ h e k n = refl

-- ENTRIES THAT ARE NOT OF A PLAIN PAGE

turns-never : (o : Outcome) (y : Symbol) (k : TokenKind) (a b : State) → (IsNext y k a → ⊥) → Turns o y k a b
turns-never Done y k a b n = λ h. absurd (n h)
turns-never Reprocess y k a b n = n
turns-never (Foreign name) y k a b n = n

pub turns-table_text : (o : Outcome) (y : Symbol) (k : TokenKind) (a b : State) → is_table_text a.mode ≡ true → Turns o y k a b
turns-table_text o y k a b e = turns-never o y k a b (λ h. false≢true (sym (own-mode a.mode a.stack h.plain.stands).2 ∙ e))

pub turns-dropped : (o : Outcome) (y : Symbol) (k : TokenKind) (a b : State) (c : Cause) → must_drop a.ledger.history y ≡ Some c → Turns o y k a b
turns-dropped o y k a b c e = turns-never o y k a b (λ h. let z = sym (must-none a.mode a.stack y a.ledger.history h.next h.plain.seen h.plain.no_newline) ∙ e in cc)

pub turns-astray : (o : Outcome) (y : Symbol) (k : TokenKind) (a b : State) → (is_of_selects a.mode ≡ false → is_of_frames a.mode ≡ false → ⊥) → Turns o y k a b
turns-astray o y k a b n = turns-never o y k a b (λ h. let z = own-mode a.mode a.stack h.plain.stands in n z.0 z.1)

-- nor was foreign content made
pub turns-embedded : (o : Outcome) (y : Symbol) (k : TokenKind) (a b : State) → a.ledger.history.foreign ≡ true → Turns o y k a b
turns-embedded o y k a b e = turns-never o y k a b (λ h. false≢true (sym h.plain.no_foreign ∙ e))

-- the modes in which no plain page stands
abbrev pub is_other : Mode → Bool
is_other mode.Initial = false
is_other mode.BeforeHtml = false
is_other mode.BeforeHead = false
is_other mode.InHead = false
is_other mode.AfterHead = false
is_other mode.InBody = false
is_other mode.AfterBody = false
is_other mode.AfterAfterBody = false
is_other _ = true

own-other : (m : Mode) (s : List Tag) → is_other m ≡ true → StandsIn m s → ⊥
own-other mode.Initial s e h = false≢true e
own-other mode.BeforeHtml s e h = false≢true e
own-other mode.BeforeHead s e h = false≢true e
own-other mode.InHead s e h = false≢true e
own-other mode.AfterHead s e h = false≢true e
own-other mode.InBody s e h = false≢true e
own-other mode.AfterBody s e h = false≢true e
own-other mode.AfterAfterBody s e h = false≢true e
own-other _ s e h = h

pub turns-other : (o : Outcome) (y : Symbol) (k : TokenKind) (a b : State) → is_other a.mode ≡ true → Turns o y k a b
turns-other o y k a b e = turns-never o y k a b (λ h. own-other a.mode a.stack e h.plain.stands)

-- WHERE IT STANDS AFTER ITS NEXT TOKEN

body-plain : (t : Tag) → is_plain_tag t ≡ true → is_same t tag.Body ≡ false
body-plain tag.Body e = absurd (false≢true e)
body-plain _ e = refl

-- the end tag of the body comes where the body is the current node
body-current : (u : Tag) (s path : List Tag) → list_all is_plain_tag path ≡ true → u ∷ s ≡ path ++ tag.Body ∷ tag.Html ∷ [] → is_same u tag.Body ≡ true → u ∷ s ≡ tag.Body ∷ tag.Html ∷ []
body-current u s [] p h e = h
body-current u s (v ∷ path) p h e =
    let q : u ≡ v = (let z = h in cc) in
    absurd (false≢true (sym (body-plain v (halves (is_plain_tag v) (list_all is_plain_tag path) p).0) ∙ ap (λ x. is_same x tag.Body) (sym q) ∙ e))

-- any other end tag closes an element below the body
below-body : (t u : Tag) (s path : List Tag) → is_same tag.Body t ≡ false → list_all is_plain_tag path ≡ true → u ∷ s ≡ path ++ tag.Body ∷ tag.Html ∷ [] → is_same u t ≡ true
    → (rest : List Tag) × (list_all is_plain_tag rest ≡ true) × (s ≡ rest ++ tag.Body ∷ tag.Html ∷ [])
below-body t u s [] n p h e = let q : u ≡ tag.Body = (let z = h in cc) in absurd (false≢true (sym n ∙ ap (λ x. is_same x t) (sym q) ∙ e))
below-body t u s (v ∷ path) n p h e = (path, (halves (is_plain_tag v) (list_all is_plain_tag path) p).1, let z = h in cc)

stands-next : (m : Mode) (s : List Tag) (y : Symbol) → is_next m s y ≡ true → StandsIn m s → StandsIn (next_mode m y) (next_tags m y s)
stands-next mode.Initial s Doctype e h = h
stands-next mode.Initial s _ e h = absurd (false≢true e)
stands-next mode.BeforeHtml s (Start tag.Html) e h = ap (λ z. tag.Html ∷ z) h
stands-next mode.BeforeHtml s (Start _) e h = absurd (false≢true e)
stands-next mode.BeforeHtml s _ e h = absurd (false≢true e)
stands-next mode.BeforeHead s (Start tag.Head) e h = ap (λ z. tag.Head ∷ z) h
stands-next mode.BeforeHead s (Start _) e h = absurd (false≢true e)
stands-next mode.BeforeHead s _ e h = absurd (false≢true e)
stands-next mode.InHead s (End tag.Head) e h = ap (drop 1) h
stands-next mode.InHead s (End _) e h = absurd (false≢true e)
stands-next mode.InHead s _ e h = absurd (false≢true e)
stands-next mode.AfterHead s (Start tag.Body) e h = ([], refl, ap (λ z. tag.Body ∷ z) h)
stands-next mode.AfterHead s (Start _) e h = absurd (false≢true e)
stands-next mode.AfterHead s _ e h = absurd (false≢true e)
stands-next mode.InBody s (Start t) e h = (t ∷ h.0, and (is_plain_tag t) (list_all is_plain_tag h.0) e h.1, ap (λ z. t ∷ z) h.2)
stands-next mode.InBody s (Char c) e h = h
stands-next mode.InBody [] (End t) e h = absurd (false≢true e)
stands-next mode.InBody (u ∷ s) (End tag.Body) e h = body-current u s h.0 h.1 h.2 e
stands-next mode.InBody (u ∷ s) (End t) e h = below-body t u s h.0 refl h.1 h.2 e
stands-next mode.InBody s _ e h = absurd (false≢true e)
stands-next mode.AfterBody s (End tag.Html) e h = h
stands-next mode.AfterBody s (End _) e h = absurd (false≢true e)
stands-next mode.AfterBody s _ e h = absurd (false≢true e)
stands-next mode.AfterAfterBody s Eof e h = h
stands-next mode.AfterAfterBody s _ e h = absurd (false≢true e)
stands-next _ s y e h = absurd h

-- an element that is closed is the current node, and stands on another
closes-current : (m : Mode) (s : List Tag) (t : Tag) → is_next m s (End t) ≡ true → StandsIn m s → closes m (End t) ≡ true → (v : Tag) × (r : List Tag) × (s ≡ t ∷ v ∷ r)
closes-current mode.InHead s tag.Head e h c = (tag.Html, [], h)
closes-current mode.InHead s _ e h c = absurd (false≢true e)
closes-current mode.InBody [] t e h c = absurd (false≢true e)
closes-current mode.InBody (u ∷ s) t e h c = on h.0 h.2
  where
    same : u ≡ t
    same = same-tag u t e

    on : (path : List Tag) → u ∷ s ≡ path ++ tag.Body ∷ tag.Html ∷ [] → (v : Tag) × (r : List Tag) × (u ∷ s ≡ t ∷ v ∷ r)
    on [] q = (tag.Html, [], q ∙ ap (λ z. z ∷ tag.Html ∷ []) (let z : u ≡ tag.Body = (let w = q in cc) in sym z ∙ same))
    on (p ∷ []) q = (tag.Body, tag.Html ∷ [], q ∙ ap (λ z. z ∷ tag.Body ∷ tag.Html ∷ []) (let z : u ≡ p = (let w = q in cc) in sym z ∙ same))
    on (p ∷ v ∷ path) q = (v, path ++ tag.Body ∷ tag.Html ∷ [], q ∙ ap (λ z. z ∷ v ∷ path ++ tag.Body ∷ tag.Html ∷ []) (let z : u ≡ p = (let w = q in cc) in sym z ∙ same))
closes-current _ s t e h c = absurd (false≢true c)

-- else nothing is listed or taken off the list
closes-none : (m : Mode) (s : List Tag) (t : Tag) → is_next m s (End t) ≡ true → closes m (End t) ≡ false → is_formatting t ≡ false
closes-none mode.InHead s t e c = absurd (false≢true (sym c))
closes-none mode.InBody s tag.Body e c = refl
closes-none mode.InBody s _ e c = absurd (false≢true (sym c))
closes-none mode.AfterBody s tag.Html e c = refl
closes-none mode.AfterBody s _ e c = absurd (false≢true e)
closes-none _ s t e c = absurd (false≢true e)

closes-other : (m : Mode) (y : Symbol) → ((t : Tag) → y ≡ End t → ⊥) → closes m y ≡ false
closes-other mode.InHead (End t) n = absurd (n t refl)
closes-other mode.InBody (End t) n = absurd (n t refl)
closes-other _ y n = refl

-- what is listed is open
listed-next : (a : State) (y : Symbol) (k : TokenKind) → IsPlainState a → is_next a.mode a.stack y ≡ true → AreListed (next_list a y k) (next_stack a y)
listed-next a (Start t) k p e = listed-opened (next_nodes a (Start t) k) a.tree.list a.tree.stack (length a.tree.tree.labels) (is_formatting t) p.listed
listed-next a (End t) k p e = elim (cases (closes a.mode (End t))) [
  | inl c ↦ rw c (
      let z = closes-current a.mode a.stack t e p.stands c in
      closed-listed a.tree t z.0 z.1 p.sound (sym p.tags ∙ z.2) p.listed
      )
  | inr c ↦ rw (c, closes-none a.mode a.stack t e c) p.listed
]
listed-next a (Char c) k p e = rw (closes-other a.mode (Char c) (λ t q. let z : Char c ≡ End t = q in cc)) p.listed
listed-next a Comment k p e = rw (closes-other a.mode Comment (λ t q. let z : Comment ≡ End t = q in cc)) p.listed
listed-next a Doctype k p e = rw (closes-other a.mode Doctype (λ t q. let z : Doctype ≡ End t = q in cc)) p.listed
listed-next a Eof k p e = rw (closes-other a.mode Eof (λ t q. let z : Eof ≡ End t = q in cc)) p.listed

-- the page goes on
pub plain-next : (y : Symbol) (k : TokenKind) (a b : State) → IsNext y k a → IsTurn y k a b → IsSound b.tree → b.stack ≡ open_tags b.tree → IsPlainState b
plain-next y k a b h t w g = record {
  unfostered = t.same_fostering ∙ h.plain.unfostered;
  no_context = t.same_context ∙ h.plain.no_context;
  quiet = ap (λ (x : Entries). x.kept) t.ledger_is.1 ∙ h.plain.quiet;
  no_newline = ap (λ (x : Entries). x.history.ignore_line_feed) t.ledger_is.1 ∙ newline-next a.mode a.stack y (next_fate a y) h.next;
  no_foreign = ap (λ (x : Entries). x.history.foreign) t.ledger_is.1 ∙ foreign-next a y h.plain.no_foreign;
  seen = subst (λ m. HasSeen m b.ledger.history) (sym t.mode_is)
      (subst (λ (x : Entries). HasSeen (next_mode a.mode y) x.history) (sym t.ledger_is.1) (seen-next a.mode a.stack y a.ledger.history (next_fate a y) h.next h.plain.seen));
  tags = g;
  sound = w;
  listed = subst (λ l. AreListed l b.tree.stack) (sym t.list_is) (subst (λ s. AreListed (next_list a y k) s) (sym t.stack_is) (listed-next a y k h.plain h.next));
  stands = subst (λ m. StandsIn m b.stack) (sym t.mode_is) (subst (λ s. StandsIn (next_mode a.mode y) s) (sym t.tags_are) (stands-next a.mode a.stack y h.next h.plain.stands));
}

-- the mode after it is not one that is left at once
pub next-own : (y : Symbol) (k : TokenKind) (a b : State) → IsNext y k a → IsTurn y k a b → (is_of_selects b.mode ≡ false) × (is_of_frames b.mode ≡ false)
next-own y k a b h t =
    let z = own-mode (next_mode a.mode y) (next_tags a.mode y a.stack) (stands-next a.mode a.stack y h.next h.plain.stands) in
    (ap is_of_selects t.mode_is ∙ z.0, ap is_of_frames t.mode_is ∙ z.1)

-- STEPS THAT ARE COUNTED

abbrev pub later : State → ℕ → Mode → ℕ → ℕ → State
later a s m d n = record a { tree = record a.tree { steps = s }; began = m; depth = d; nodes = n }

-- all is as it was but for the steps and what is noted where the rules for a token begin
pub record IsAlike (a b : State) : Type 0 where
  pub same : b ≡ later a b.tree.steps b.began b.depth b.nodes

pub alike-begun : (a b : State) (m : Mode) (d n : ℕ) → b ≡ record a { began = m; depth = d; nodes = n } → IsAlike a b
alike-begun a b m d n e = record {
  same = e
      ∙ ap (λ s. later a s m d n) (sym (ap (λ (x : State). x.tree.steps) e))
      ∙ ap (λ z. later a b.tree.steps z d n) (sym (ap (λ (x : State). x.began) e))
      ∙ ap (λ z. later a b.tree.steps b.began z n) (sym (ap (λ (x : State). x.depth) e))
      ∙ ap (λ z. later a b.tree.steps b.began b.depth z) (sym (ap (λ (x : State). x.nodes) e));
}

pub alike-counted : (a b : State) → b ≡ record a { tree = b.tree } → IsTree a.tree b → IsAlike a b
alike-counted a b e t = record {
  same = e
      ∙ ap (λ z. record a { tree = z }) t.tree_is
      ∙ ap (λ z. later a b.tree.steps z a.depth a.nodes) (sym (ap (λ (x : State). x.began) e))
      ∙ ap (λ z. later a b.tree.steps b.began z a.nodes) (sym (ap (λ (x : State). x.depth) e))
      ∙ ap (λ z. later a b.tree.steps b.began b.depth z) (sym (ap (λ (x : State). x.nodes) e));
}

pub alike-same : (a : State) → IsAlike a a
alike-same a = record { same = refl }

pub alike-then : (a b c : State) → IsAlike a b → IsAlike b c → IsAlike a c
alike-then a b c f g = record { same = g.same ∙ ap (λ z. later z c.tree.steps c.began c.depth c.nodes) f.same }

sound-later : (t : Tree) (s : ℕ) → IsSound t → IsSound (record t { steps = s })
sound-later t s w = record {
  stack_in = w.stack_in;
  elements = w.elements;
  stack_once = w.stack_once;
  ordered = w.ordered;
  first = w.first;
  root = w.root;
  some_node = w.some_node;
  list_in = w.list_in;
  formatting = w.formatting;
  list_once = w.list_once;
  stack_origins = w.stack_origins;
  list_origins = w.list_origins;
  shared_origins = w.shared_origins;
  tokens = w.tokens;
  head = w.head;
  form = w.form;
  detached = w.detached;
}

ends-later : (m : Mode) (y : Symbol) (k : TokenKind) (a : State) (s : ℕ) (g : Mode) (d n : ℕ) → EndsCurrent m y k a → EndsCurrent m y k (later a s g d n)
ends-later mode.InBody (End t) k a s g d n h = h
ends-later _ _ k a s g d n h = tt

plain-later : (a : State) (s : ℕ) (m : Mode) (d n : ℕ) → IsPlainState a → IsPlainState (later a s m d n)
plain-later a s m d n p = record {
  unfostered = p.unfostered;
  no_context = p.no_context;
  quiet = p.quiet;
  no_newline = p.no_newline;
  no_foreign = p.no_foreign;
  seen = p.seen;
  tags = p.tags;
  sound = sound-later a.tree s p.sound;
  listed = p.listed;
  stands = p.stands;
}

pub plain-alike : (a b : State) → IsAlike a b → IsPlainState a → IsPlainState b
plain-alike a b f p = subst IsPlainState (sym f.same) (plain-later a b.tree.steps b.began b.depth b.nodes p)

next-later : (y : Symbol) (k : TokenKind) (a : State) (s : ℕ) (m : Mode) (d n : ℕ) → IsNext y k a → IsNext y k (later a s m d n)
next-later y k a s m d n h = record {
  plain = plain-later a s m d n h.plain;
  next = h.next;
  ends = ends-later a.mode y k a s m d n h.ends;
}

pub next-alike : (y : Symbol) (k : TokenKind) (a b : State) → IsAlike a b → IsNext y k a → IsNext y k b
next-alike y k a b f h = subst (λ z. IsNext y k z) (sym f.same) (next-later y k a b.tree.steps b.began b.depth b.nodes h)

stack-later : (a : State) (y : Symbol) (s : ℕ) (m : Mode) (d n : ℕ) → next_stack (later a s m d n) y ≡ next_stack a y
stack-later a (Start t) s m d n = refl
stack-later a _ s m d n = refl

nodes-later : (a : State) (y : Symbol) (k : TokenKind) (s : ℕ) (m : Mode) (d n : ℕ) → next_nodes (later a s m d n) y k ≡ next_nodes a y k
nodes-later a (Start tag.Html) k s m d n = refl
nodes-later a _ k s m d n = refl

list-later : (a : State) (y : Symbol) (k : TokenKind) (s : ℕ) (m : Mode) (d n : ℕ) → next_list (later a s m d n) y k ≡ next_list a y k
list-later a (Start t) k s m d n = ap (λ z. cond (is_formatting t) (pushed z (length a.tree.tree.labels) a.tree.list) a.tree.list) (nodes-later a (Start t) k s m d n)
list-later a _ k s m d n = refl

fate-later : (a : State) (y : Symbol) (s : ℕ) (m : Mode) (d n : ℕ) → next_fate (later a s m d n) y ≡ next_fate a y
fate-later a (Start t) s m d n = refl
fate-later a _ s m d n = refl

turn-later : (y : Symbol) (k : TokenKind) (a b : State) (s : ℕ) (m : Mode) (d n : ℕ) → IsTurn y k (later a s m d n) b → IsTurn y k a b
turn-later y k a b s m d n t = record {
  mode_is = t.mode_is;
  tags_are = t.tags_are;
  stack_is = t.stack_is ∙ stack-later a y s m d n;
  nodes_are = t.nodes_are ∙ nodes-later a y k s m d n;
  list_is = t.list_is ∙ list-later a y k s m d n;
  ledger_is = (t.ledger_is.0, t.ledger_is.1 ∙ ap (λ f. noted a.ledger y f t.ledger_is.0) (fate-later a y s m d n));
  same_fostering = t.same_fostering;
  same_context = t.same_context;
}

pub turn-alike : (y : Symbol) (k : TokenKind) (a b c : State) → IsAlike a b → IsTurn y k b c → IsTurn y k a c
turn-alike y k a b c f t = turn-later y k a c b.tree.steps b.began b.depth b.nodes (subst (λ z. IsTurn y k z c) f.same t)

-- the token is done with
pub goes-on : (o : Outcome) (y : Symbol) (k : TokenKind) (a n b d : State) → o ≡ Done → IsAlike a n → Turns o y k n b → (is_of_selects b.mode ≡ false → is_of_frames b.mode ≡ false → d ≡ b)
    → IsSound d.tree → d.stack ≡ open_tags d.tree → GoesOn y k a d
goes-on o y k a n b d q f t same w g = λ h.
    let turn : IsTurn y k n b = (let z : Turns Done y k n b = subst (λ x. Turns x y k n b) q t in z (next-alike y k a n f h)) in
    let own = next-own y k n b (next-alike y k a n f h) turn in
    let all : IsTurn y k a d = subst (λ x. IsTurn y k a x) (sym (same own.0 own.1)) (turn-alike y k a n b f turn) in
    (all, plain-next y k a d h all w g)

-- the token is still in hand, which that of a plain page is not
pub goes-not : (o : Outcome) (y : Symbol) (k : TokenKind) (a n b : State) → o ≡ Reprocess → IsAlike a n → Turns o y k n b → IsNext y k a → ⊥
goes-not o y k a n b q f t h = (let z : Turns Reprocess y k n b = subst (λ x. Turns x y k n b) q t in z (next-alike y k a n f h))

pub ruleset step_plain = (turns-table_text, turns-astray, turns-embedded)

pub ruleset rules_plain = (turns-other)

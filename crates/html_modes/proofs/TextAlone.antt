-- Elements that hold text alone begin as the plan of their start tag says, in each mode; and their text goes on as that of a code point says, in the mode
-- text.
use Rattle.html_arena.specs.Make.{has_contents, label_for, made}
use Rattle.html_arena.specs.Siblings.{has, put_before}
use Rattle.html_arena.specs.Tree.{Climbs, Tree, WellFormed, children_of, inserted, parent_of}
use Rattle.html_arena.specs.declared.data.NewNode.{NewNode}
use Rattle.html_arena.specs.declared.data.NodeData.TheVariants as node
use Rattle.html_construction.proofs.Planned.{followed, halves}
use Rattle.html_construction.specs.Built.{chars_of as chars_in}
use Rattle.html_construction.specs.Calls.{element_of, opened_at}
use Rattle.html_construction.specs.Modes.{is_of_frames, is_of_selects}
use Rattle.html_construction.specs.Plans.{Adopt, Again, Ask, By, CloseLink, Do, Each, Ending, Foster, Over, Plan, Reconstruct, Runs, Settle, Stop, adopts, asks, closes_link, does, does_each, ends_each, fosters, goes_by, reconstructs, settles, stops}
use Rattle.html_construction.specs.States.{State}
use Rattle.html_construction.specs.Tokens.{char_of, closes_itself}
use Rattle.html_construction.specs.Words.{Becomes, Drop, Enter, Insert, InsertAt, InsertCharacter, InsertForeign, InsertForeignVoid, Switch, Word, after, answer, making, next_tree}
use Rattle.html_construction.specs.declared.mode.Mode.TheVariants as mode
use Rattle.html_construction.specs.declared.mode.Mode.{Mode}
use Rattle.html_ledger.specs.Entries.{given}
use Rattle.html_ledger.specs.Symbols.{symbol_of, chars_of}
use Rattle.html_ledger.specs.declared.fate.Cause.TheVariants.{Null}
use Rattle.html_ledger.specs.declared.fate.Cause.{Cause}
use Rattle.html_ledger.specs.declared.fate.Fate.TheVariants.{Dropped, Foreign as Embedded, Made, Text}
use Rattle.html_ledger.specs.declared.fate.Fate.{Fate}
use Rattle.html_ledger.specs.declared.symbol.Symbol.TheVariants.{Start, Char}
use Rattle.html_ledger.specs.declared.symbol.Symbol.{Symbol}
use Rattle.html_modes.proofs.Current.{has-last}
use Rattle.html_modes.proofs.Dispatching.{Way, dropped, handed, never-astray, planned, stayed, strayed, way}
use Rattle.html_modes.proofs.Embedding.{opened-foreign, around-strict}
use Rattle.html_modes.proofs.Constructing.{each-constructs}
use Rattle.html_modes.proofs.Outside.{constructs-outside, over-done}
use Rattle.html_modes.proofs.RawText.{adds-dropped, adds-inserted, alone-template, must-aside, open-aside, opened-dropped, opened-text, tag-named}
use Rattle.html_modes.specs.Dispatching.{Constructs, Entries, begun, last, next, settled}
use Rattle.html_modes.specs.Fitting.{is_loose}
use Rattle.html_modes.specs.Foreign.{around_foreign}
use Rattle.html_modes.specs.RawText.{HasOpened, IsOpenText, OpensBy, holds_text_alone, AddsBy, AddsText, run_of, is_aside}
use Rattle.html_modes.specs.RuleForms.{again, embedding, ending, ignored, over}
use Rattle.html_modes.specs.Rules.{Follows, plan}
use Rattle.html_modes.specs.declared.outcome.Outcome.TheVariants.{Done, Reprocess}
use Rattle.html_modes.specs.declared.outcome.Outcome.{Outcome}
use Rattle.html_names.specs.Foreign.{space_of}
use Rattle.html_names.specs.Sets.{is_template}
use Rattle.html_names.specs.declared.foreign.Space.{Space}
use Rattle.html_names.specs.declared.tag.Tag.TheVariants as tag
use Rattle.html_names.specs.declared.tag.Tag.{Tag}
use Rattle.html_open.proofs.Keeps.{cases_eqb, eqb-self}
use Rattle.html_open.specs.Placing.{put}
use Rattle.html_open.specs.declared.places.Place.TheVariants.{Before, Last}
use Rattle.html_open.specs.declared.places.Place.{Place}
use Rattle.html_tokens.specs.declared.token.TokenKind.TheVariants as kind
use Rattle.html_tokens.specs.declared.token.TokenKind.{TokenKind}
use Rattle.html_tree.proofs.Inserted.{made-labels, put-labels}
use Rattle.html_tree.specs.Forests.{IsForest}
use Rattle.html_tree.specs.Inserting.{IsBlank, rest_of, with_new}
use Rattle.html_tree.specs.Targets.{place_for}
use Rattle.html_tree.specs.Texts.{text_node, with_text}
use Rattle.html_tree.specs.declared.groups.Target.TheVariants as target
use Rattle.html_tree.specs.declared.groups.Target.{Target}
use Rattle.std.proofs.Common.{◌≡◌, ◌&&◌, ◌+◌, ℕ, eqb, inl, inr, Bool, true, false, List, [], ◌∷◌, ◌++◌, get_or, set, length, length-append, Option, Some, None, if◌then◌else◌, refl, sym, ap, subst, ◌∙◌, arith, ◌==◌, cond, append-nil, suc}
use Rattle.std.proofs.Math.Seq.{get_or-append_seam}
use Rattle.std.proofs.lemmas.Bool.{false≢true}
use Rattle.std.proofs.lemmas.List.{get_or-set_other, get_or-set_same, length-set, append_assoc}

-- A NEW NODE HAS NO CHILDREN

-- no node is its own child
no-self : (u : Tree) (w : WellFormed u) (x : ℕ) → has x (children_of u x) ≡ true → ⊥
no-self u w x h = (let c = w.climbs x (w.child_in x x h) in loop c.0 c.1)
  where
    loop : (above : List ℕ) → Climbs u x above → ⊥
    loop [] k = absurd (let z : None ≡ Some x = sym k ∙ w.child_has_parent x x h in cc)
    loop (q ∷ above) k = loop above (subst (λ v. Climbs u v above) (let z : Some q ≡ Some x = sym k.0 ∙ w.child_has_parent x x h in cc) k.1)

module _ (t v : Tree) (at : Place) (d : NewNode) (single : has_contents d ≡ false) (forest : IsForest v) (e : v ≡ with_new t at d) where
  lists-made : (made t d).children ≡ t.children ++ [] ∷ []
  lists-made = rw single refl

  labels : v.labels ≡ t.labels ++ label_for t d ∷ []
  labels = ap (λ (x : Tree). x.labels) e ∙ put-labels (made t d) at (length t.labels) ∙ made-labels t d ∙ ap (λ b. t.labels ++ label_for t d ∷ rest_of (length t.labels) b) single

  count : length v.children ≡ length t.labels + 1
  count = ap (λ (x : Tree). length x.children) (sym forest.nodes_are) ∙ forest.well_formed.as_many_lists ∙ ap (λ (x : Tree). length x.labels) forest.nodes_are
      ∙ ap length labels ∙ length-append t.labels (label_for t d ∷ [])

  no-own : has (length t.labels) (children_of v (length t.labels)) ≡ true → ⊥
  no-own h = no-self forest.marked forest.well_formed (length t.labels) (subst (λ (x : Tree). has (length t.labels) (children_of x (length t.labels)) ≡ true) (sym forest.nodes_are) h)

  seam : length (made t d).children ≡ length t.labels + 1 → get_or (made t d).children (length t.labels) [] ≡ []
  seam s =
      let l = length-append t.children ([] ∷ []) in
      let o = ap length lists-made in
      let k : length t.children ≡ length t.labels = omega (arith, s, l, o) in
      ap (λ cs. get_or cs (length t.labels) []) lists-made ∙ subst (λ i. get_or (t.children ++ [] ∷ []) i [] ≡ []) k (get_or-append_seam t.children [] [] [])

  -- where the list of p changed
  set-blank : (p : ℕ) (xs : List ℕ) → length (made t d).children ≡ length t.labels + 1 → (length t.labels ≡ p → xs ≡ []) → get_or (set (made t d).children p xs) (length t.labels) [] ≡ []
  set-blank p xs s w = elim (cases_eqb (length t.labels) p) [
    | inl c ↦ subst (λ i. get_or (set (made t d).children i xs) (length t.labels) [] ≡ []) c.1 (get_or-set_same (made t d).children (length t.labels) xs [] (omega (arith, s)) ∙ w c.1)
    | inr c ↦ get_or-set_other (made t d).children p (length t.labels) xs [] (λ q. false≢true (sym c.0 ∙ subst (λ i. eqb (length t.labels) i ≡ true) q (eqb-self (length t.labels)))) ∙ seam s
  ]

  no-children : (at : Place) → v.children ≡ (put (made t d) at (length t.labels)).children → get_or (put (made t d) at (length t.labels)).children (length t.labels) [] ≡ []
  no-children (Last q) l =
      let xs : List ℕ = get_or (made t d).children q [] ++ length t.labels ∷ [] in
      let s : length (made t d).children ≡ length t.labels + 1 = sym (length-set (made t d).children q xs) ∙ sym (ap length l) ∙ count in
      set-blank q xs s (λ k. absurd (no-own (
      ap (λ cs. has (length t.labels) (get_or cs (length t.labels) [])) l
      ∙ ap (has (length t.labels)) (subst (λ i. get_or (set (made t d).children i xs) (length t.labels) [] ≡ xs) k (get_or-set_same (made t d).children (length t.labels) xs [] (omega (arith, s))))
      ∙ has-last (length t.labels) (get_or (made t d).children q [])
      )))
  no-children (Before b) l = by (parent_of (made t d) b) l
    where
      by : (o : Option ℕ) → v.children ≡ (inserted (made t d) (length t.labels) b o).children → get_or (inserted (made t d) (length t.labels) b o).children (length t.labels) [] ≡ []
      by None l = seam (sym (ap length l) ∙ count)
      by (Some p) l =
          let xs : List ℕ = put_before (length t.labels) b (get_or (made t d).children p []) in
          let s : length (made t d).children ≡ length t.labels + 1 = sym (length-set (made t d).children p xs) ∙ sym (ap length l) ∙ count in
          set-blank p xs s (λ k. ap (put_before (length t.labels) b) (subst (λ i. get_or (made t d).children i [] ≡ []) k (seam s)))

  is-blank : IsBlank (label_for t d) (length t.labels) v
  is-blank = record {
    label_is = ap (λ ls. get_or ls (length t.labels) node.Document) labels ∙ get_or-append_seam t.labels (label_for t d) [] node.Document;
    childless = ap (λ (x : Tree). get_or x.children (length t.labels) []) e ∙ no-children at (ap (λ (x : Tree). x.children) e);
    listed = (let k = count in omega (arith, k));
  }

-- PLANS

abbrev is_end : Plan → Bool
is_end (Stop e) = true
is_end _ = false

abbrev is_text_mode : Word → Bool
is_text_mode (Enter mode.Text) = true
is_text_mode _ = false

abbrev is_text_end : Plan → Bool
is_text_end (Do w p) = is_text_mode w && is_end p
is_text_end _ = false

-- where it ends, the token was ignored, or its element was opened and the mode is text
abbrev opens_text : Plan → Bool
opens_text (Do (Drop c) p) = is_end p
opens_text (Do Insert p) = is_text_end p
opens_text (Do (InsertAt g) p) = is_text_end p
opens_text (Do w p) = opens_text p
opens_text (Ask q p n) = opens_text p && opens_text n
opens_text (Reconstruct p) = opens_text p
opens_text (Adopt g p) = opens_text p
opens_text (CloseLink p) = opens_text p
opens_text (Foster p) = opens_text p
opens_text (Settle q p) = opens_text p
opens_text (Each cs q p) = opens_text p
opens_text (Stop Over) = false
opens_text (Stop e) = true
opens_text (By m) = true

end-of : (p : Plan) → is_end p ≡ true → (f : Ending) × (p ≡ Stop f)
end-of (Stop f) h = (f, refl)
end-of _ h = absurd (false≢true h)

text-mode-of : (w : Word) → is_text_mode w ≡ true → w ≡ Enter mode.Text
text-mode-of (Enter mode.Text) h = refl
text-mode-of (Enter _) h = absurd (false≢true h)
text-mode-of _ h = absurd (false≢true h)

text-end-of : (p : Plan) → is_text_end p ≡ true → (f : Ending) × (p ≡ Do (Enter mode.Text) (Stop f))
text-end-of (Do w p) h =
    let c = halves (is_text_mode w) (is_end p) h in
    let k = end-of p c.1 in
    (k.0, ap (λ v. Do v p) (text-mode-of w c.0) ∙ ap (λ v. Do (Enter mode.Text) v) k.1)
text-end-of _ h = absurd (false≢true h)

-- in each mode
plan-opens : (g : Tag) (m : Mode) → holds_text_alone g ≡ true → opens_text (plan m (Start g)) ≡ true
unfolding plan
plan-opens tag.Title mode.Initial e = refl
plan-opens tag.Title _ e = refl
plan-opens tag.Textarea mode.Initial e = refl
plan-opens tag.Textarea _ e = refl
plan-opens tag.Style mode.Initial e = refl
plan-opens tag.Style _ e = refl
plan-opens tag.Script mode.Initial e = refl
plan-opens tag.Script _ e = refl
plan-opens tag.Xmp mode.Initial e = refl
plan-opens tag.Xmp _ e = refl
plan-opens tag.Iframe mode.Initial e = refl
plan-opens tag.Iframe _ e = refl
plan-opens tag.Noembed mode.Initial e = refl
plan-opens tag.Noembed _ e = refl
plan-opens tag.Noframes mode.Initial e = refl
plan-opens tag.Noframes _ e = refl
plan-opens _ m e = absurd (false≢true e)

-- WHAT SUCH A PLAN OPENS

chosen : (x : Bool) (p n : Plan) → (opens_text p && opens_text n) ≡ true → opens_text (if x then p else n) ≡ true
chosen true p n h = (halves (opens_text p) (opens_text n) h).0
chosen false p n h = (halves (opens_text p) (opens_text n) h).1

text-becomes : (x : ℕ) (s : List ℕ) (m b : State) → Becomes m b → IsOpenText x s m → IsOpenText x s b
text-becomes x s m b i o = subst (λ (v : State). IsOpenText x s v) (sym i.state_is) (open-aside x s m b.tree.steps b.stack m.fostering m.began m.depth m.nodes o)

becomes-opened : (g : Tag) (m b : State) → Becomes m b → HasOpened g m → HasOpened g b
becomes-opened g m b i h = record { opened = λ r fs x e. text-becomes x [] m b i (h.opened r fs x (sym (ap (λ (v : State). v.ledger.fates) i.state_is) ∙ e)) }

fostering-opened : (g : Tag) (c : State) (f : Bool) → HasOpened g c → HasOpened g (record c { fostering = f })
fostering-opened g c f h = record { opened = λ r fs x e. open-aside x [] c c.tree.steps c.stack f c.began c.depth c.nodes (h.opened r fs x e) }

module _ (g : Tag) (alone : holds_text_alone g ≡ true) where
  held : (at : Target) (p : Plan) (t : TokenKind) (a b : State) (e : Ending) (z : State) → symbol_of t ≡ Start g → is_text_end p ≡ true → IsForest z.tree.tree
      → Becomes (making (opened_at (element_of a t) at (next_tree a)) t a) b → Runs plan p t b e z → HasOpened g z
  held at p t a b e z s h f i j =
      let k = text-end-of p h in
      let c = followed plan (Do (Enter mode.Text) (Stop k.0)) t b e z (subst (λ x. Runs plan x t b e z) k.1 j) in
      let l = (followed plan (Stop k.0) t c.0 e z c.2).1 in
      opened-text g t a z s
      (is-blank a.tree.tree z.tree.tree (place_for (next_tree a) at) (element_of a t) (ap is_template (tag-named t g s) ∙ alone-template g alone) f
      (ap (λ (v : State). v.tree.tree) l.state_is ∙ ap (λ (v : State). v.tree.tree) (c.1).state_is ∙ ap (λ (v : State). v.tree.tree) i.state_is))
      (ap (λ (v : State). v.mode) l.state_is ∙ ap (λ (v : State). v.mode) (c.1).state_is)
      (ap (λ (v : State). v.tree.stack) l.state_is ∙ ap (λ (v : State). v.tree.stack) (c.1).state_is ∙ ap (λ (v : State). v.tree.stack) i.state_is)
      (ap (λ (v : State). v.ledger) l.state_is ∙ ap (λ (v : State). v.ledger) (c.1).state_is ∙ ap (λ (v : State). v.ledger) i.state_is ∙ ap (λ y. given a.ledger y (Made (length a.tree.tree.labels))) s)

  does-open : (w : Word) (p : Plan) (t : TokenKind) (a b : State) (e : Ending) (z : State) → symbol_of t ≡ Start g → opens_text (Do w p) ≡ true → IsForest z.tree.tree → Becomes (after w t a) b → Runs plan p t b e z
      → (opens_text p ≡ true → HasOpened g z) → HasOpened g z
  does-open (Drop c) p t a b e z s h f i j k =
      let q = end-of p h in
      let l = (followed plan (Stop q.0) t b e z (subst (λ x. Runs plan x t b e z) q.1 j)).1 in
      opened-dropped g (symbol_of t) c a z (record { ledger_is = ap (λ (v : State). v.ledger) l.state_is ∙ ap (λ (v : State). v.ledger) i.state_is })
  does-open Insert p t a b e z s h f i j k = held (target.Current a.fostering) p t a b e z s h f i j
  does-open (InsertAt at) p t a b e z s h f i j k = held at p t a b e z s h f i j
  does-open _ p t a b e z s h f i j k = k h

  runs-open : (p : Plan) (t : TokenKind) (a : State) (e : Ending) (z : State) → symbol_of t ≡ Start g → e ≡ Over → opens_text p ≡ true → IsForest z.tree.tree → Runs plan p t a e z → HasOpened g z
  runs-open _ _ _ _ _ s o h f (does w p t a b e z i j) = does-open w p t a b e z s h f i j (λ k. runs-open p t b e z s o k f j)
  runs-open _ _ _ _ _ s o h f (asks q p n t a b e z i j) = runs-open (if answer q t a then p else n) t b e z s o (chosen (answer q t a) p n h) f j
  runs-open _ _ _ _ _ s o h f (reconstructs p t a b e z i m j) = runs-open p t b e z s o h f j
  runs-open _ _ _ _ _ s o h f (adopts u p t a b e z i m j) = runs-open p t b e z s o h f j
  runs-open _ _ _ _ _ s o h f (closes_link p t a b e z i m j) = runs-open p t b e z s o h f j
  runs-open _ _ _ _ _ s o h f (fosters p t a b c e z i j m) =
      becomes-opened g (record c { fostering = false }) z m (fostering-opened g c false (runs-open p t b e c s o h (subst IsForest (ap (λ (v : State). v.tree.tree) m.state_is) f) j))
  runs-open _ _ _ _ _ s o h f (settles q p t a b e z i j) = runs-open (Each a.ledger.kept q p) t b e z s o h f j
  runs-open _ _ _ _ _ s o h f (ends_each q p t a e z j) = runs-open p t a e z s o h f j
  runs-open _ _ _ _ _ s o h f (does_each c cs q p t a b e z i j) = runs-open (Each cs q p) t b e z s o h f j
  runs-open _ _ _ _ _ s o h f (stops t a e z i) = absurd (false≢true (sym (ap (λ v. opens_text (Stop v)) o) ∙ h))
  runs-open _ _ _ _ _ s o h f (goes_by m t a e z j) = runs-open (plan m (symbol_of t)) t a e z s o (ap (λ v. opens_text (plan m v)) s ∙ plan-opens g m alone) f j

  plan-opened : (m : Mode) (t : TokenKind) (a z : State) → symbol_of t ≡ Start g → IsForest z.tree.tree → Follows (plan m (Start g)) t Done a z → HasOpened g z
  plan-opened m t a z s f h = runs-open (plan m (Start g)) t a Over z s refl (plan-opens g m alone) f h

  -- an element of foreign content is no such element
  embedding-opened : (p : Space) (t : TokenKind) (a z : State) → symbol_of t ≡ Start g → Follows (embedding p) t Done a z → HasOpened g z
  embedding-opened p t a z s h = let c = followed plan (embedding p) t a Over z h in by (closes_itself t) c.0 c.2
    where
      made : (w : Word) (n : ℕ) (b : State) → (after w t b).ledger ≡ given b.ledger (symbol_of t) (Embedded n) → Runs plan (Do w over) t b Over z → HasOpened g z
      made w n b e k =
          let d = followed plan (Do w over) t b Over z k in
          let l = (followed plan over t d.0 Over z d.2).1 in
          opened-foreign g n b z (record { ledger_is = ap (λ (v : State). v.ledger) l.state_is ∙ ap (λ (v : State). v.ledger) (d.1).state_is ∙ e ∙ ap (λ y. given b.ledger y (Embedded n)) s })

      by : (x : Bool) (b : State) → Runs plan (if x then Do (InsertForeignVoid p) over else Do (InsertForeign p) over) t b Over z → HasOpened g z
      by true b k = made (InsertForeignVoid p) (length b.tree.tree.labels) b refl k
      by false b k = made (InsertForeign p) (length b.tree.tree.labels) b refl k

  entry-opened : (t : TokenKind) (a z : State) → symbol_of t ≡ Start g → IsForest z.tree.tree → Way Done (Start g) t a z → HasOpened g z
  entry-opened t a z s f (planned h) = plan-opened a.mode t a z s f h
  entry-opened t a z s f (handed x k w) = plan-opened a.mode t w.middle z s f w.follows
  entry-opened t a z s f (dropped c k h) = absurd (let q : None ≡ Some c = k in cc)
  entry-opened t a z s f (strayed k h) = (let c = followed plan (Do (Switch mode.InBody) again) t a Over z h in absurd (let q : Again ≡ Over = (followed plan again t c.0 Over z c.2).0 in cc))
  entry-opened t a z s f (stayed x k w) = embedding-opened (space_of x) t w.middle z s w.follows

-- the mode text is not left at the end of a call
settled-text : (c z : State) → z ≡ settled c → c.mode ≡ mode.Text → z ≡ c
settled-text c z r e = r ∙ (let p : is_of_selects c.mode ≡ false = ap is_of_selects e in let q : is_of_frames c.mode ≡ false = ap is_of_frames e in rw (p, q) refl)

entries-opened : (g : Tag) (t : TokenKind) (a z : State) → symbol_of t ≡ Start g → IsForest z.tree.tree → Entries (Start g) t a z → HasOpened g z
entries-opened g t _ _ s f (next a b c z i e k) = entries-opened g t c z s f k
entries-opened g t _ _ s f (last a b c z i e r) = record {
  opened = λ alone fs x l.
      let h = entry-opened g alone t b c s (subst IsForest (ap (λ (v : State). v.tree.tree) r) f) (way Done (Start g) t b c e) in
      let o : IsOpenText x [] c = h.opened alone fs x (sym (ap (λ (v : State). v.ledger.fates) r) ∙ l) in
      subst (λ (v : State). IsOpenText x [] v) (sym (settled-text c z r o.mode_is)) o;
}

pub entries-open : (y : Symbol) (t : TokenKind) (a z : State) → symbol_of t ≡ y → IsForest z.tree.tree → Entries y t a z → OpensBy y z
entries-open (Start g) t a z s f k = entries-opened g t a z s f k
entries-open _ t a z s f k = tt

-- HOW THE TEXT GOES ON

after-becomes : (run : List ℕ) (a m z : State) → Becomes m z → AddsText run a m → AddsText run a z
after-becomes run a m z i h = record {
  added = λ x s o. (let p = h.added x s o in (p.0, ap (λ (v : State). v.ledger.fates) i.state_is ∙ p.1, p.2, text-becomes x _ m z i p.3));
}

before-becomes : (run : List ℕ) (a m z : State) → Becomes a m → AddsText run m z → AddsText run a z
before-becomes run a m z i h = record {
  added = λ x s o. (let p = h.added x s (text-becomes x s a m i o) in (p.0, p.1 ∙ ap (λ (v : State). v.ledger.fates ++ p.0) i.state_is, p.2, p.3));
}

char-is : (t : TokenKind) (c : ℕ) → symbol_of t ≡ Char c → char_of t ≡ c ∷ []
char-is (kind.Char d) c e = ap (λ x. x ∷ []) (let k : Char d ≡ Char c = e in cc)
char-is _ c e = absurd cc

-- a code point that is ignored, and one that is inserted
ignored-adds : (c : ℕ) (cause : Cause) (t : TokenKind) (o : Outcome) (a z : State) → symbol_of t ≡ Char c → (a.ledger.history.prolog ≡ false → is_aside (Dropped cause) ≡ true) → Follows (ignored cause) t o a z
    → (o ≡ Done) × AddsText (c ∷ []) a z
ignored-adds c cause t o a z s w h =
    let k = followed plan (ignored cause) t a (ending o) z h in
    let l = followed plan over t k.0 (ending o) z k.2 in
    let m : State = record a { ledger = given a.ledger (Char c) (Dropped cause) } in
    (over-done o l.0, after-becomes (c ∷ []) a k.0 z l.1 (after-becomes (c ∷ []) a m k.0 (subst (λ y. Becomes (record a { ledger = given a.ledger y (Dropped cause) }) k.0) s k.1) (adds-dropped c cause a w)))

inserted-adds : (c : ℕ) (t : TokenKind) (o : Outcome) (a z : State) → symbol_of t ≡ Char c → Follows (Do InsertCharacter over) t o a z → (o ≡ Done) × AddsText (c ∷ []) a z
inserted-adds c t o a z s h =
    let k = followed plan (Do InsertCharacter over) t a (ending o) z h in
    let l = followed plan over t k.0 (ending o) z k.2 in
    let m : State = record a { tree = record a.tree { tree = with_text a.tree a.fostering (c ∷ []) }; ledger = given a.ledger (Char c) (Text (text_node a.tree a.fostering)) } in
    let is : after InsertCharacter t a ≡ m =
    ap (λ x. record a { tree = record a.tree { tree = with_text a.tree a.fostering x }; ledger = given a.ledger (symbol_of t) (Text (text_node a.tree a.fostering)) }) (char-is t c s)
    ∙ ap (λ y. record a { tree = record a.tree { tree = with_text a.tree a.fostering (c ∷ []) }; ledger = given a.ledger y (Text (text_node a.tree a.fostering)) }) s in
    (over-done o l.0, after-becomes (c ∷ []) a k.0 z l.1 (after-becomes (c ∷ []) a m k.0 (subst (λ (v : State). Becomes v k.0) is k.1) (adds-inserted c a)))

planned-adds : (c : ℕ) (m : Mode) (t : TokenKind) (o : Outcome) (a z : State) → symbol_of t ≡ Char c → m ≡ mode.Text → Follows (plan m (Char c)) t o a z → (o ≡ Done) × AddsText (c ∷ []) a z
unfolding plan
planned-adds c m t o a z s e h = by (c == 0) (subst (λ x. Follows (plan x (Char c)) t o a z) e h)
  where
    by : (b : Bool) → Follows (if b then ignored Null else Do InsertCharacter over) t o a z → (o ≡ Done) × AddsText (c ∷ []) a z
    by true k = ignored-adds c Null t o a z s (λ p. refl) k
    by false k = inserted-adds c t o a z s k

entry-adds : (c : ℕ) (t : TokenKind) (o : Outcome) (a z : State) → symbol_of t ≡ Char c → a.mode ≡ mode.Text → Way o (Char c) t a z → (o ≡ Done) × AddsText (c ∷ []) a z
entry-adds c t o a z s m w = by w
  where
    inside : (g : Tag) → around_foreign a (Char c) t ≡ Some g → ⊥
    inside g k = (let q : None ≡ Some g = sym (around-strict a (Char c) t (ap is_loose m)) ∙ k in cc)

    by : Way o (Char c) t a z → (o ≡ Done) × AddsText (c ∷ []) a z
    by (planned h) = planned-adds c a.mode t o a z s m h
    by (handed g k h) = absurd (inside g k)
    by (dropped cause k h) = ignored-adds c cause t o a z s (must-aside a.ledger.history c cause k) h
    by (strayed k h) = absurd (false≢true (sym (never-astray a (Char c) (ap is_of_selects m) (ap is_of_frames m)) ∙ k))
    by (stayed g k h) = absurd (inside g k)

-- all entries
entries-text : (c : ℕ) (t : TokenKind) (a z : State) → symbol_of t ≡ Char c → Entries (Char c) t a z → AddsText (c ∷ []) a z
entries-text c t _ _ s (next a b m z i e k) = record {
  added = λ x w o. absurd (let q : Reprocess ≡ Done = (entry-adds c t Reprocess b m s (ap (λ (v : State). v.mode) i.state_is ∙ o.mode_is) (way Reprocess (Char c) t b m e)).0 in cc);
}
entries-text c t _ _ s (last a b m z i e r) = record {
  added = λ x w o.
      let h = (entry-adds c t Done b m s (ap (λ (v : State). v.mode) i.state_is ∙ o.mode_is) (way Done (Char c) t b m e)).1 in
      let p = (before-becomes (c ∷ []) a b m i h).added x w o in
      let same : z ≡ m = settled-text m z r (p.3).mode_is in
      (p.0, ap (λ (v : State). v.ledger.fates) same ∙ p.1, p.2, subst (λ (v : State). IsOpenText x (w ++ run_of (Char c ∷ []) p.0) v) (sym same) p.3);
}

-- what is noted of a call tells nothing of it
text-begun : (x : ℕ) (s : List ℕ) (a : State) → IsOpenText x s a → IsOpenText x s (begun a)
text-begun x s a o = open-aside x s a a.tree.steps a.stack a.fostering a.mode (length a.stack) (length a.tree.tree.labels) o

begun-adds : (c : ℕ) (t : TokenKind) (a z : State) → symbol_of t ≡ Char c → Entries (Char c) t (begun a) z → AddsText (c ∷ []) a z
begun-adds c t a z s k = record { added = λ x w o. (entries-text c t (begun a) z s k).added x w (text-begun x w a o) }

pub entries-add : (y : Symbol) (t : TokenKind) (a z : State) → symbol_of t ≡ y → Entries y t (begun a) z → AddsBy y a z
entries-add (Char c) t a z s k = begun-adds c t a z s k
entries-add _ t a z s k = tt

-- CODE POINTS IN A ROW

run-then : (c : ℕ) (cs : List ℕ) (fs gs : List Fate) (s : List ℕ) → length fs ≡ 1 → (s ++ run_of (Char c ∷ []) fs) ++ run_of (chars_of cs) gs ≡ s ++ run_of (Char c ∷ chars_of cs) (fs ++ gs)
run-then c cs [] gs s e = absurd (let k : 0 ≡ 1 = e in omega (arith, k))
run-then c cs (f ∷ g ∷ fs) gs s e = absurd (let k : suc (suc (length fs)) ≡ 1 = e in omega (arith, k))
run-then c cs (f ∷ []) gs s e =
    let xs : List ℕ = cond (is_aside f) [] (c ∷ []) in
    append_assoc s (xs ++ []) (run_of (chars_of cs) gs) ∙ ap (λ v. s ++ (v ++ run_of (chars_of cs) gs)) (append-nil xs)

adds-then : (c : ℕ) (cs : List ℕ) (a b z : State) → AddsText (c ∷ []) a b → AddsText cs b z → AddsText (c ∷ cs) a z
adds-then c cs a b z h k = record {
  added = λ x s o.
      let p = h.added x s o in
      let q = k.added x (s ++ run_of (Char c ∷ []) p.0) p.3 in
      let l : length (p.0 ++ q.0) ≡ length p.0 + length q.0 = length-append p.0 q.0 in
      let m : length p.0 ≡ 1 = p.2 in
      let n : length q.0 ≡ length cs = q.2 in (
        p.0 ++ q.0,
        q.1 ∙ ap (λ v. v ++ q.0) p.1 ∙ append_assoc a.ledger.fates p.0 q.0,
        omega (arith, l, m, n),
        subst (λ v. IsOpenText x v z) (run-then c cs p.0 q.0 s p.2) q.3,
      );
}

pub text-adds : (cs : List ℕ) (a z : State) → Constructs (chars_in cs) a z → AddsText cs a z
text-adds [] a z e = record {
  added = λ x s o. (
    [],
    sym (ap (λ (v : State). v.ledger.fates) e) ∙ sym (append-nil a.ledger.fates),
    refl,
    subst (λ v. IsOpenText x v z) (sym (append-nil s)) (open-aside x s (begun z) z.tree.steps z.stack z.fostering z.began z.depth z.nodes (subst (λ (v : State). IsOpenText x s v) e (text-begun x s a o))),
  );
}
text-adds (c ∷ cs) a z h = adds-then c cs a h.0 z (begun-adds c (kind.Char c) a h.0 refl h.1) (text-adds cs h.0 z h.2)

pub ruleset run_texts = (text-adds, constructs-outside, each-constructs)

-- Tokens one after another; and text that is taken in one go, as its code points one by one.
use Rattle.std.proofs.Common.{IsTrue, ℕ, zero, suc, ◌≡◌, ◌+◌, ◌-◌, ◌*◌, ◌<◌, ◌≤◌, arith, take, ◌==◌, ◌&&◌, ◌||◌, Bool, true, false, not, cond, List, [], ◌∷◌, ◌++◌, length, map, Option, Some, None, refl, sym, ap, subst, ◌∙◌, inl, inr, append-nil}
use Rattle.std.specs.Prelude.{if◌then◌else◌}
use Rattle.std.proofs.lemmas.Bool.{false≢true}
use Rattle.std.proofs.lemmas.List.{length-take-le}
use Rattle.std.specs.List.{list_all, list_any}
use Rattle.html_names.specs.declared.tag.Tag.{Tag}
use Rattle.html_tokens.specs.declared.token.TokenKind.{TokenKind}
use Rattle.html_tokens.specs.declared.token.TokenKind.TheVariants as kind
use Rattle.html_arena.specs.Siblings.{has, last_of}
use Rattle.html_arena.specs.Tree.{Tree as Nodes, more, tag_at, texted_run}
use Rattle.html_ledger.specs.declared.fate.Cause.TheVariants.{LeadingNewline, Null, PrologSpace}
use Rattle.html_ledger.specs.declared.fate.Fate.TheVariants.{Text}
use Rattle.html_ledger.specs.declared.history.History.{History}
use Rattle.html_ledger.specs.declared.symbol.Symbol.TheVariants.{Char}
use Rattle.html_ledger.specs.Entries.{Entries as Entered, given, given_run}
use Rattle.html_ledger.specs.Flags.{after as later, is_free, is_not_null, may_text_run, must_drop}
use Rattle.html_ledger.specs.Spaces.{is_space}
use Rattle.html_ledger.specs.Symbols.{is_char, symbol_of}
use Rattle.html_open.specs.declared.entry.Entry.{Entry}
use Rattle.html_open.specs.declared.entry.Entry.TheVariants.{Node}
use Rattle.html_open.specs.Entries.{nodes_of}
use Rattle.html_open.specs.Lists.{above, up_to}
use Rattle.html_open.specs.Marking.{bare}
use Rattle.html_open.specs.Opened.{Open, open_at}
use Rattle.html_open.specs.Reopening.{Reopened, closed, fresh, look_steps, stands, with_clones}
use Rattle.html_open.proofs.Keeps.{cases_bool, cases_eqb, eqb-self, has-append}
use Rattle.html_open.proofs.Reopened.{split-above}
use Rattle.html_tree.specs.Listing.{IsReopened}
use Rattle.html_tree.specs.Steps.{CountsReopening, text_steps}
use Rattle.html_tree.proofs.Counted.{more-more}
use Rattle.html_tree.specs.Searching.{current_tag, tag_if}
use Rattle.html_tree.specs.States.{State as Tree}
use Rattle.html_tree.specs.Texts.{TextGoesOn, text_node, with_text, with_text_node}
use Rattle.html_construction.specs.declared.mode.Mode.{Mode}
use Rattle.html_construction.specs.declared.mode.Mode.TheVariants as mode
use Rattle.html_construction.specs.Built.{chars_of}
use Rattle.html_construction.specs.Calls.{IsTree}
use Rattle.html_construction.specs.Foreign.{adjusted_tag, foreign_tag, if_foreign, tag_or}
use Rattle.html_construction.specs.Modes.{is_of_frames, is_of_selects}
use Rattle.html_construction.specs.Plans.{Do, Over, Plan, Reconstruct, Runs, does, goes_by, reconstructs, stops}
use Rattle.html_construction.specs.States.{State}
use Rattle.html_construction.specs.Words.{Becomes, FramesetOff, InsertCharacter}
use Rattle.html_modes.specs.Counting.{CountsBy, TakesEach, TakesOne, is_run_char}
use Rattle.html_modes.specs.Dispatching.{Constructs, Entries, begun, last, settled}
use Rattle.html_modes.specs.Fitting.{is_loose}
use Rattle.html_modes.specs.Guards.{is_table_text, is_text, takes_runs}
use Rattle.html_modes.specs.RuleForms.{ignored, over}
use Rattle.html_modes.specs.Rules.{plan}
use Rattle.html_modes.specs.RulesText.{text}
use Rattle.html_modes.specs.Runs.{IsTextRun, flagged, texted}
use Rattle.html_modes.specs.declared.outcome.Outcome.TheVariants.{Done}
use Rattle.html_modes.proofs.Counting.{body-sum, look-alone, one-less, raw-sum}
use Rattle.html_modes.proofs.Dispatching.{dispatched-outside, entry-dispatched, plan-InBody, plan-InCaption, plan-InCell, plan-Text}
use Rattle.html_modes.proofs.Embedding.{around-none}
use Rattle.html_modes.proofs.RulesText.{text_char-other}

-- TOKENS ONE AFTER ANOTHER

constructs-from : (ts : List TokenKind) (a b z : State) → begun a ≡ begun b → Constructs ts b z → Constructs ts a z
constructs-from [] a b z e h = e ∙ h
constructs-from (t ∷ ts) a b z e h = (h.0, subst (λ (x : State). Entries (symbol_of t) t x h.0) (sym e) h.1, h.2)

pub constructs-then : (ts us : List TokenKind) (a b z : State) → Constructs ts a b → Constructs us b z → Constructs (ts ++ us) a z
constructs-then [] us a b z h k = constructs-from us a b z h k
constructs-then (t ∷ ts) us a b z h k = (h.0, h.1, constructs-then ts us h.0 b z h.2 k)

pub constructs-one : (t : TokenKind) (a b : State) → Entries (symbol_of t) t (begun a) b → Constructs (t ∷ []) a b
constructs-one t a b h = (b, h, refl)

-- A RECONSTRUCTION THAT FINDS NOTHING

any-last : {X : Type 0} (p : X → Bool) (ys zs : List X) → list_any p zs ≡ true → list_any p (ys ++ zs) ≡ true
any-last p [] zs e = e
any-last p (y ∷ ys) zs e = by (p y) (any-last p ys zs e)
  where
    by : (b : Bool) → list_any p (ys ++ zs) ≡ true → (b || list_any p (ys ++ zs)) ≡ true
    by true h = refl
    by false h = h

above-last : {X : Type 0} (p : X → Bool) (ys zs : List X) → list_any p zs ≡ true → above p (ys ++ zs) ≡ above p zs
above-last p [] zs e = refl
above-last p (y ∷ ys) zs e = rw (any-last p ys zs e) (above-last p ys zs e)

any-up : {X : Type 0} (p : X → Bool) (xs : List X) → list_any p xs ≡ true → list_any p (up_to p xs) ≡ true
any-up p [] e = e
any-up p (x ∷ xs) e = elim (cases_bool (list_any p xs)) [
  | inl h ↦ rw (h) (any-last p (x ∷ []) (up_to p xs) (any-up p xs h))
  | inr h ↦ elim (cases_bool (p x)) [
    | inl k ↦ rw (h, k) (rw (k) refl)
    | inr k ↦ absurd (false≢true (sym (rw (h, k) refl) ∙ e))
  ]
]

above-up : {X : Type 0} (p : X → Bool) (xs : List X) → above p (up_to p xs) ≡ []
above-up p [] = refl
above-up p (x ∷ xs) = elim (cases_bool (list_any p xs)) [
  | inl h ↦ rw (h) (rw (any-up p xs h) (above-up p xs))
  | inr h ↦ elim (cases_bool (p x)) [
    | inl k ↦ rw (h, k) (rw (k) refl)
    | inr k ↦ rw (h, k) refl
  ]
]

-- where all stand, none stands above the last
above-all : (s fs : List ℕ) → ((x : ℕ) → has x fs ≡ true → has x s ≡ true) → above (stands s) (map Node fs) ≡ []
above-all s [] h = refl
above-all s (x ∷ []) h = rw (h x (rw (eqb-self x) refl)) refl
above-all s (x ∷ y ∷ ys) h =
    let own : has y s ≡ true = h y (second x y ys) in
    let rest : list_any (stands s) (map Node (y ∷ ys)) ≡ true = rw (own) refl in
    rw (rest) (above-all s (y ∷ ys) (λ z k. h z (more z k)))
  where
    second : (x y : ℕ) (ys : List ℕ) → has y (x ∷ y ∷ ys) ≡ true
    second x y ys = elim (cases_eqb y x) [ inl e ↦ rw (e.0) refl | inr e ↦ rw (e.0, eqb-self y) refl ]

    more : (z : ℕ) → has z (y ∷ ys) ≡ true → has z (x ∷ y ∷ ys) ≡ true
    more z k = elim (cases_eqb z x) [ inl e ↦ rw (e.0) refl | inr e ↦ rw (e.0) k ]

-- after a reconstruction nothing is closed
none-closed : (s fs : List ℕ) (l : List Entry) → above (stands (s ++ fs)) (up_to (stands s) l ++ map Node fs) ≡ []
none-closed s [] l =
    ap (λ v. above (stands v) (up_to (stands s) l ++ [])) (append-nil s) ∙ ap (λ v. above (stands s) v) (append-nil (up_to (stands s) l)) ∙ above-up (stands s) l
none-closed s (x ∷ xs) l =
    let own : has x (s ++ x ∷ xs) ≡ true = member x (has-append x s (x ∷ xs)) (rw (eqb-self x) refl) in
    above-last (stands (s ++ x ∷ xs)) (up_to (stands s) l) (map Node (x ∷ xs)) (rw (own) refl) ∙ above-all (s ++ x ∷ xs) (x ∷ xs) (λ y k. member y (has-append y s (x ∷ xs)) k)
  where
    member : (y : ℕ) → has y (s ++ x ∷ xs) ≡ cond (has y s) true (has y (x ∷ xs)) → has y (x ∷ xs) ≡ true → has y (s ++ x ∷ xs) ≡ true
    member y e k = e ∙ elim (cases_bool (has y s)) [ inl h ↦ rw (h) refl | inr h ↦ rw (h) k ]

-- so that once more finds nothing to open
again : (foster : Bool) (s : List ℕ) (l : List Entry) (t : Nodes) → above (stands s) l ≡ [] → Reopened foster (open_at s l t) (open_at s l t)
again foster s l t e =
    let none : closed (open_at s l t) ≡ [] = ap nodes_of e in
    record {
      list_is = split-above (stands s) l ∙ ap (λ v. up_to (stands s) l ++ v) e ∙ sym (ap (λ v. up_to (stands s) l ++ map Node (fresh t (length v))) none);
      stack_is = sym (append-nil s) ∙ sym (ap (λ v. s ++ fresh t (length v)) none);
      tree_is = sym (ap (λ v. bare (with_clones t s foster v)) none);
    }

none-left : (foster : Bool) (a b u : Tree) → IsReopened foster a b → u.stack ≡ b.stack → u.list ≡ b.list → above (stands u.stack) u.list ≡ []
none-left foster a b u r s l =
    let o : Open = open_at a.stack a.list r.old in
    let list : u.list ≡ up_to (stands a.stack) a.list ++ map Node (fresh r.old (length (closed o))) = l ∙ r.reopened.list_is in
    let stack : u.stack ≡ a.stack ++ fresh r.old (length (closed o)) = s ∙ r.reopened.stack_is in
    ap (λ v. above (stands v) u.list) stack ∙ ap (λ v. above (stands (a.stack ++ fresh r.old (length (closed o)))) v) list ∙ none-closed a.stack (fresh r.old (length (closed o))) a.list

reopened-again : (foster : Bool) (u : Tree) (k : ℕ) (t : Nodes) → above (stands u.stack) u.list ≡ [] → u.tree ≡ bare t → IsReopened foster u (record u { steps = k })
reopened-again foster u k t none e = record {
  old = t;
  new = t;
  old_is = sym e;
  new_is = sym e;
  reopened = again foster u.stack u.list t none;
}

counted-again : (foster : Bool) (u : Tree) (t : Nodes) → above (stands u.stack) u.list ≡ [] → u.tree ≡ bare t → CountsReopening foster u (record u { steps = more u.steps (look_steps u.list) })
counted-again foster u t none e = record {
  old = t;
  old_is = sym e;
  steps_are = ap (more u.steps) (sym (look-alone foster u.stack u.list t none));
}

-- WHAT STAYS TRUE FROM ONE CODE POINT TO THE NEXT

passing : (x y : Bool) → (not x && not y) ≡ true → cond x (Some PrologSpace) (cond y (Some LeadingNewline) None) ≡ None
passing true y e = absurd (false≢true e)
passing false true e = absurd (false≢true e)
passing false false e = refl

pub free-passes : (h : History) (c : ℕ) → is_free h (Char c) ≡ true → must_drop h (Char c) ≡ None
free-passes h c e = passing (is_space c && h.prolog) (is_char 10 (Char c) && h.ignore_line_feed) e

passes-next : (h : History) (c d n : ℕ) → must_drop h (Char c) ≡ None → must_drop (later h (Char c) (Text n)) (Char d) ≡ None
passes-next h c d n e = by (is_space c) h.prolog (is_char 10 (Char c) && h.ignore_line_feed) (is_space d) (is_char 10 (Char d)) e
  where
    by : (x p y z w : Bool) → cond (x && p) (Some PrologSpace) (cond y (Some LeadingNewline) None) ≡ None → cond (z && (p && x)) (Some PrologSpace) (cond (w && false) (Some LeadingNewline) None) ≡ None
    by true true y z w k = absurd (let q : Some PrologSpace ≡ None = k in cc)
    by true false y true true k = refl
    by true false y true false k = refl
    by true false y false true k = refl
    by true false y false false k = refl
    by false true y true true k = refl
    by false true y true false k = refl
    by false true y false true k = refl
    by false true y false false k = refl
    by false false y true true k = refl
    by false false y true false k = refl
    by false false y false true k = refl
    by false false y false false k = refl

home-next : (c k : ℕ) (a z : State) → TextGoesOn a.tree a.fostering → z.tree ≡ (texted (c ∷ []) k a).tree → z.ledger ≡ (texted (c ∷ []) k a).ledger → z.context ≡ a.context → foreign_tag a ≡ None → foreign_tag z ≡ None
home-next c k a z g t l x n =
    ap (λ (f : Bool). if f then if_foreign (adjusted_tag z) else None) flag ∙ ap (λ (o : Option Tag). if a.ledger.history.foreign then if_foreign o else None) adjusted ∙ n
  where
    or-false : (b : Bool) → (b || false) ≡ b
    or-false true = refl
    or-false false = refl

    flag : z.ledger.history.foreign ≡ a.ledger.history.foreign
    flag = ap (λ e. e.history.foreign) l ∙ or-false a.ledger.history.foreign

    tag-same : (o : Option ℕ) → tag_if (with_text a.tree a.fostering (c ∷ [])) o ≡ tag_if a.tree.tree o
    tag-same None = refl
    tag-same (Some y) = ap Some (g.tags_same (c ∷ []) y)

    current : current_tag z.tree ≡ current_tag a.tree
    current = ap current_tag t ∙ tag-same (last_of a.tree.stack)

    adjusted : adjusted_tag z ≡ adjusted_tag a
    adjusted =
        ap (λ (u : Tree). if length u.stack == 1 then tag_or z.context (current_tag z.tree) else current_tag z.tree) t
        ∙ ap (λ (o : Option Tag). if length a.tree.stack == 1 then tag_or o (current_tag z.tree) else current_tag z.tree) x
        ∙ ap (λ (o : Option Tag). if length a.tree.stack == 1 then tag_or a.context o else o) current

goes-on-next : (c k : ℕ) (u : Tree) (foster : Bool) → TextGoesOn u foster → TextGoesOn (record u { tree = with_text u foster (c ∷ []); steps = k }) foster
goes-on-next c k u foster g = record {
  node_same = λ front. ap (λ (v : Nodes). text_node (record u { tree = v; steps = k }) foster) (g.text_same (c ∷ []) front) ∙ g.node_same (c ∷ front) ∙ sym (g.node_same (c ∷ []));
  text_same = λ front run. ap (λ (v : Nodes). with_text (record u { tree = v; steps = k }) foster run) (g.text_same (c ∷ []) front) ∙ g.text_same (c ∷ front) run ∙ sym (g.text_same (c ∷ []) (front ++ run));
  tags_same = λ front y. ap (λ (v : Nodes). tag_at v y) (g.text_same (c ∷ []) front) ∙ g.tags_same (c ∷ front) y ∙ sym (g.tags_same (c ∷ []) y);
}

-- ONE CODE POINT

apart : (m : Mode) → takes_runs m ≡ true → (is_table_text m ≡ false) × ((is_of_selects m ≡ false) × (is_of_frames m ≡ false))
apart mode.InBody e = (refl, (refl, refl))
apart mode.Text e = (refl, (refl, refl))
apart mode.InCaption e = (refl, (refl, refl))
apart mode.InCell e = (refl, (refl, refl))
apart _ e = absurd (false≢true e)

own : (a : State) → Becomes a a
own a = record { state_is = refl }

char-entered : (c : ℕ) (a z : State) → takes_runs a.mode ≡ true → must_drop a.ledger.history (Char c) ≡ None → foreign_tag a ≡ None → z.mode ≡ a.mode → Runs plan (plan a.mode (Char c)) (kind.Char c) (begun a) Over z
    → Entries (Char c) (kind.Char c) (begun a) z
char-entered c a z m d n k r =
    let p = apart a.mode m in
    last (begun a) (begun a) z z (own (begun a))
    (entry-dispatched Done (Char c) (kind.Char c) (begun a) z p.0 d (rw (p.1.0, p.1.1) refl) (dispatched-outside Done (Char c) (kind.Char c) (begun a) z (around-none (begun a) (Char c) (kind.Char c) n) r))
    (stays z (ap is_of_selects k ∙ p.1.0) (ap is_of_frames k ∙ p.1.1))
  where
    stays : (z : State) → is_of_selects z.mode ≡ false → is_of_frames z.mode ≡ false → z ≡ settled z
    stays z s f = rw (s, f) refl

first-all : (p : ℕ → Bool) (c : ℕ) (cs : List ℕ) → list_all p (c ∷ cs) ≡ true → (p c ≡ true) × (list_all p cs ≡ true)
first-all p c cs e = by (p c) (list_all p cs) e
  where
    by : (x y : Bool) → (x && y) ≡ true → (x ≡ true) × (y ≡ true)
    by true true k = (refl, refl)
    by true false k = absurd (false≢true k)
    by false y k = absurd (false≢true k)

not-null : (c : ℕ) → is_not_null c ≡ true → (c == 0) ≡ false
not-null c e = by (c == 0) e
  where
    by : (x : Bool) → not x ≡ true → x ≡ false
    by true k = absurd (false≢true k)
    by false k = refl

-- IN THE MODE TEXT

text-char : (c k : ℕ) (a : State) → a.mode ≡ mode.Text → (c == 0) ≡ false → Runs plan (plan a.mode (Char c)) (kind.Char c) (begun a) Over (texted (c ∷ []) k (begun a))
text-char c k a m n = plan-Text a.mode (Char c) (kind.Char c) (begun a) Over (texted (c ∷ []) k (begun a)) m
    (text_char-other c (kind.Char c) (begun a) Over (texted (c ∷ []) k (begun a)) n
    (does InsertCharacter over (kind.Char c) (begun a) (texted (c ∷ []) k (begun a)) Over (texted (c ∷ []) k (begun a)) (record { state_is = refl }) (stops (kind.Char c) (texted (c ∷ []) k (begun a)) Over (texted (c ∷ []) k (begun a)) (own (texted (c ∷ []) k (begun a))))))

text-chars : (cs : List ℕ) (c : ℕ) (a b : State) → a.mode ≡ mode.Text → list_all is_not_null (c ∷ cs) ≡ true → must_drop a.ledger.history (Char c) ≡ None → foreign_tag a ≡ None → TextGoesOn a.tree a.fostering
    → begun b ≡ begun (texted (c ∷ cs) b.tree.steps a) → b.tree.steps ≡ more a.tree.steps (text_steps a.tree a.fostering (suc (length cs)) + suc (length cs)) → TakesEach (c ∷ cs) a b
text-chars [] c a b m v d n g e q =
    let z : State = texted (c ∷ []) b.tree.steps (begun a) in
    (z, (char-entered c a z (ap takes_runs m) d n refl (text-char c b.tree.steps a m (not-null c (first-all is_not_null c [] v).0)), λ r. subst (λ f. CountsBy f (begun a) z) (sym (ap is_text m)) q), sym e)
text-chars (d ∷ ds) c a b m v w n g e q =
    let k : ℕ = more a.tree.steps (text_steps a.tree a.fostering 1 + 1) in
    let z : State = texted (c ∷ []) k (begun a) in
    let next : begun (texted (c ∷ d ∷ ds) b.tree.steps a) ≡ begun (texted (d ∷ ds) b.tree.steps z) =
    ap (λ (t : Nodes). begun (record a { tree = record a.tree { tree = t; steps = b.tree.steps }; ledger = given_run a.ledger (c ∷ d ∷ ds) (Text (text_node a.tree a.fostering)) })) (sym (g.text_same (c ∷ []) (d ∷ ds)))
    ∙ ap (λ (x : ℕ). begun (record a { tree = record a.tree { tree = with_text (record a.tree { tree = with_text a.tree a.fostering (c ∷ []) }) a.fostering (d ∷ ds); steps = b.tree.steps }; ledger = given_run (given a.ledger (Char c) (Text (text_node a.tree a.fostering))) (d ∷ ds) (Text x) }))
    (sym (g.node_same (c ∷ []))) in (
      z,
      (char-entered c a z (ap takes_runs m) w n refl (text-char c k a m (not-null c (first-all is_not_null c (d ∷ ds) v).0)), λ r. subst (λ f. CountsBy f (begun a) z) (sym (ap is_text m)) refl),
      text-chars ds d z b m (first-all is_not_null c (d ∷ ds) v).1 (passes-next a.ledger.history c d (text_node a.tree a.fostering) w) (home-next c k (begun a) z g refl refl refl n) (goes-on-next c k a.tree a.fostering g) (e ∙ next)
          (q ∙ raw-sum c k (length ds) a.tree a.fostering g),
    )

-- IN THE BODY

-- the element pointers are as they were
abbrev HasPointers : Tree → Tree → Type 0
HasPointers u v = v ≡ record u { stack = v.stack; list = v.list; tree = v.tree; steps = v.steps }

abbrev body_plan : ℕ → Plan
body_plan c = Reconstruct (Do InsertCharacter (if is_space c then over else Do FramesetOff over))

-- a state in which the formatting elements were reconstructed
abbrev moved : State → State → State
moved a m = record a { tree = m.tree; stack = m.stack }

one-space : (c : ℕ) (x : Bool) → is_space c ≡ x → list_all is_space (c ∷ []) ≡ x
one-space c true e = rw (e) refl
one-space c false e = rw (e) refl

body-flag : (c : ℕ) (w : State) → Runs plan (if is_space c then over else Do FramesetOff over) (kind.Char c) w Over (flagged (c ∷ []) w)
body-flag c w = by (is_space c) refl
  where
    by : (x : Bool) → is_space c ≡ x → Runs plan (if is_space c then over else Do FramesetOff over) (kind.Char c) w Over (flagged (c ∷ []) w)
    by true e = ap-runs true e (stops (kind.Char c) w Over (flagged (c ∷ []) w) (record { state_is = ap (λ (x : Bool). record w { frameset_ok = cond x w.frameset_ok false }) (one-space c true e) }))
      where
        ap-runs : (x : Bool) → is_space c ≡ x → Runs plan (if x then over else Do FramesetOff over) (kind.Char c) w Over (flagged (c ∷ []) w) → Runs plan (if is_space c then over else Do FramesetOff over) (kind.Char c) w Over (flagged (c ∷ []) w)
        ap-runs x e h = subst (λ (y : Bool). Runs plan (if y then over else Do FramesetOff over) (kind.Char c) w Over (flagged (c ∷ []) w)) (sym e) h
    by false e = subst (λ (y : Bool). Runs plan (if y then over else Do FramesetOff over) (kind.Char c) w Over (flagged (c ∷ []) w)) (sym e)
        (does FramesetOff over (kind.Char c) w (flagged (c ∷ []) w) Over (flagged (c ∷ []) w) (record { state_is = ap (λ (x : Bool). record w { frameset_ok = cond x w.frameset_ok false }) (one-space c false e) })
        (stops (kind.Char c) (flagged (c ∷ []) w) Over (flagged (c ∷ []) w) (own (flagged (c ∷ []) w))))

-- the table's arm for a code point
body-arm : (c k : ℕ) (a m : State) → HasPointers a.tree m.tree → IsReopened a.fostering a.tree m.tree → Runs plan (body_plan c) (kind.Char c) a Over (flagged (c ∷ []) (texted (c ∷ []) k (moved a m)))
body-arm c k a m w i =
    reconstructs (Do InsertCharacter (if is_space c then over else Do FramesetOff over)) (kind.Char c) a (moved a m) Over (flagged (c ∷ []) (texted (c ∷ []) k (moved a m))) (record { rest = refl; pointers = w }) i
    (does InsertCharacter (if is_space c then over else Do FramesetOff over) (kind.Char c) (moved a m) (texted (c ∷ []) k (moved a m)) Over (flagged (c ∷ []) (texted (c ∷ []) k (moved a m))) (record { state_is = refl })
    (body-flag c (texted (c ∷ []) k (moved a m))))

in-body : (c : ℕ) (a z : State) → (c == 0) ≡ false → Runs plan (body_plan c) (kind.Char c) a Over z → Runs plan (plan mode.InBody (Char c)) (kind.Char c) a Over z
in-body c a z n h = plan-InBody mode.InBody (Char c) (kind.Char c) a Over z refl (subst (λ (x : Bool). Runs plan (if x then ignored Null else body_plan c) (kind.Char c) a Over z) (sym n) h)

by-body : (m : Mode) (c : ℕ) (a z : State) → takes_runs m ≡ true → is_loose m ≡ true → Runs plan (plan mode.InBody (Char c)) (kind.Char c) a Over z → Runs plan (plan m (Char c)) (kind.Char c) a Over z
by-body mode.InBody c a z r l h = h
by-body mode.InCaption c a z r l h = plan-InCaption mode.InCaption (Char c) (kind.Char c) a Over z refl (goes_by mode.InBody (kind.Char c) a Over z h)
by-body mode.InCell c a z r l h = plan-InCell mode.InCell (Char c) (kind.Char c) a Over z refl (goes_by mode.InBody (kind.Char c) a Over z h)
by-body mode.Text c a z r l h = absurd (false≢true l)
by-body _ c a z r l h = absurd (false≢true r)

body-char : (c k : ℕ) (a m : State) → (c == 0) ≡ false → takes_runs a.mode ≡ true → is_loose a.mode ≡ true → HasPointers a.tree m.tree → IsReopened a.fostering a.tree m.tree → Runs plan (plan a.mode (Char c)) (kind.Char c) (begun a) Over (flagged (c ∷ []) (texted (c ∷ []) k (moved (begun a) m)))
body-char c k a m n r l w i = by-body a.mode c (begun a) (flagged (c ∷ []) (texted (c ∷ []) k (moved (begun a) m))) r l (in-body c (begun a) (flagged (c ∷ []) (texted (c ∷ []) k (moved (begun a) m))) n (body-arm c k (begun a) m w i))

body-counts : (m : Mode) → takes_runs m ≡ true → is_loose m ≡ true → is_text m ≡ false
body-counts mode.Text r l = absurd (false≢true l)
body-counts _ r l = refl

counts-body : (a m z : State) → takes_runs a.mode ≡ true → is_loose a.mode ≡ true → IsReopened a.fostering a.tree m.tree → CountsReopening a.fostering a.tree m.tree → z.tree.steps ≡ more m.tree.steps (text_steps m.tree a.fostering 1 + 1)
    → CountsBy (is_text a.mode) a z
counts-body a m z r l i j q = subst (λ f. CountsBy f a z) (sym (body-counts a.mode r l)) record {
  middle = m.tree;
  reopened = i;
  first = j;
  steps_are = q;
}

both-spaces : (x y o : Bool) → cond y (cond (x && true) o false) false ≡ cond (x && y) o false
both-spaces true true o = refl
both-spaces true false o = refl
both-spaces false true o = refl
both-spaces false false o = refl

body-chars : (cs : List ℕ) (c : ℕ) (a m b : State) → takes_runs a.mode ≡ true → is_loose a.mode ≡ true → list_all is_not_null (c ∷ cs) ≡ true → must_drop a.ledger.history (Char c) ≡ None → foreign_tag a ≡ None
    → foreign_tag (moved a m) ≡ None → HasPointers a.tree m.tree → IsReopened a.fostering a.tree m.tree → CountsReopening a.fostering a.tree m.tree → TextGoesOn m.tree a.fostering
    → begun b ≡ begun (flagged (c ∷ cs) (texted (c ∷ cs) b.tree.steps (moved a m)))
    → b.tree.steps ≡ more m.tree.steps (text_steps m.tree a.fostering (suc (length cs)) + suc (length cs) + length cs * look_steps m.tree.list) → TakesEach (c ∷ cs) a b
body-chars [] c a m b r l v w n o y i j g e q =
    let z : State = flagged (c ∷ []) (texted (c ∷ []) b.tree.steps (moved (begun a) m)) in (
      z,
      (
        char-entered c a z r w n refl (body-char c b.tree.steps a m (not-null c (first-all is_not_null c [] v).0) r l y i),
        λ x. counts-body (begun a) m z r l i j (q ∙ ap (more m.tree.steps) (none-more (text_steps m.tree a.fostering 1) (look_steps m.tree.list))),
      ),
      sym e,
    )
  where
    none-more : (t l : ℕ) → t + 1 + 0 * l ≡ t + 1
    none-more t l = omega arith
body-chars (d ∷ ds) c a m b r l v w n o y i j g e q =
    let k : ℕ = more m.tree.steps (text_steps m.tree a.fostering 1 + 1) in
    let z : State = flagged (c ∷ []) (texted (c ∷ []) k (moved (begun a) m)) in
    let t : Nodes = texted_run (with_text_node m.tree a.fostering) (text_node m.tree a.fostering) (c ∷ []) in
    let none : above (stands z.tree.stack) z.tree.list ≡ [] = none-left a.fostering a.tree m.tree z.tree i refl refl in
    let z' : State = record z { tree = record z.tree { steps = more k (look_steps m.tree.list) } } in
    let home : foreign_tag z ≡ None = home-next c k (moved (begun a) m) z g refl refl refl o in
    let next : begun (flagged (c ∷ d ∷ ds) (texted (c ∷ d ∷ ds) b.tree.steps (moved a m))) ≡ begun (flagged (d ∷ ds) (texted (d ∷ ds) b.tree.steps (moved z z'))) =
    ap (λ (u : Nodes). begun (flagged (c ∷ d ∷ ds) (record a { tree = record m.tree { tree = u; steps = b.tree.steps }; stack = m.stack; ledger = given_run a.ledger (c ∷ d ∷ ds) (Text (text_node m.tree a.fostering)) }))) (sym (g.text_same (c ∷ []) (d ∷ ds)))
    ∙ ap (λ (x : ℕ). begun (flagged (c ∷ d ∷ ds) (record a { tree = record m.tree { tree = with_text (record m.tree { tree = with_text m.tree a.fostering (c ∷ []) }) a.fostering (d ∷ ds); steps = b.tree.steps }; stack = m.stack; ledger = given_run (given a.ledger (Char c) (Text (text_node m.tree a.fostering))) (d ∷ ds) (Text x) })))
    (sym (g.node_same (c ∷ [])))
    ∙ ap (λ (x : Bool). begun (record a { tree = record m.tree { tree = with_text (record m.tree { tree = with_text m.tree a.fostering (c ∷ []) }) a.fostering (d ∷ ds); steps = b.tree.steps }; stack = m.stack; ledger = given_run (given a.ledger (Char c) (Text (text_node m.tree a.fostering))) (d ∷ ds) (Text (text_node (record m.tree { tree = with_text m.tree a.fostering (c ∷ []) }) a.fostering)); frameset_ok = x }))
    (sym (both-spaces (is_space c) (list_all is_space (d ∷ ds)) a.frameset_ok)) in (
      z,
      (char-entered c a z r w n refl (body-char c k a m (not-null c (first-all is_not_null c (d ∷ ds) v).0) r l y i), λ x. counts-body (begun a) m z r l i j refl),
      body-chars ds d z z' b r l (first-all is_not_null c (d ∷ ds) v).1 (passes-next a.ledger.history c d (text_node m.tree a.fostering) w) home home refl (reopened-again a.fostering z.tree z'.tree.steps t none refl)
          (counted-again a.fostering z.tree t none refl) (goes-on-next c z'.tree.steps m.tree a.fostering g) (e ∙ next) (q ∙ body-sum c z'.tree.steps (length ds) (look_steps m.tree.list) m.tree a.fostering g),
    )

-- THE RUNS OF THE CODE

split-run : (n : ℕ) (run : List ℕ) → (0 < n) → n ≤ length run → (c : ℕ) × (cs : List ℕ) × (take n run ≡ c ∷ cs)
split-run zero run h l = absurd (omega arith)
split-run (suc n) [] h l = absurd (omega arith)
split-run (suc n) (c ∷ run) h l = (c, take n run, refl)

-- what a run asks of its first code point and of all
run-may : (h : History) (c : ℕ) (cs : List ℕ) → may_text_run h (c ∷ cs) ≡ true → (list_all is_not_null (c ∷ cs) ≡ true) × (must_drop h (Char c) ≡ None)
run-may h c cs e = by (not h.awaits_doctype) (list_all is_not_null (c ∷ cs)) (is_free h (Char c)) refl e
  where
    by : (x y z : Bool) → is_free h (Char c) ≡ z → (x && (y && z)) ≡ true → (y ≡ true) × (must_drop h (Char c) ≡ None)
    by true true true q k = (refl, free-passes h c q)
    by true true false q k = absurd (false≢true k)
    by true false z q k = absurd (false≢true k)
    by false y z q k = absurd (false≢true k)

may-front : (h : History) (n : ℕ) (c : ℕ) (run : List ℕ) → may_text_run h (c ∷ run) ≡ true → may_text_run h (c ∷ take n run) ≡ true
may-front h n c run e = by (not h.awaits_doctype) (is_not_null c) (list_all is_not_null run) (is_free h (Char c)) refl e
  where
    front : (n : ℕ) (run : List ℕ) → list_all is_not_null run ≡ true → list_all is_not_null (take n run) ≡ true
    front zero run k = refl
    front (suc n) [] k = refl
    front (suc n) (x ∷ run) k = let p = first-all is_not_null x run k in rw (p.0) (front n run p.1)

    by : (x y w z : Bool) → list_all is_not_null run ≡ w → (x && ((y && w) && z)) ≡ true → (x && ((y && list_all is_not_null (take n run)) && z)) ≡ true
    by true true true true q k = rw (front n run q) refl
    by true true true false q k = absurd (false≢true k)
    by true true false z q k = absurd (false≢true k)
    by true false w z q k = absurd (false≢true k)
    by false y w z q k = absurd (false≢true k)

split-may : (h : History) (n : ℕ) (run : List ℕ) → 0 < n → n ≤ length run → may_text_run h run ≡ true → (c : ℕ) × (cs : List ℕ) × (take n run ≡ c ∷ cs) × ((list_all is_not_null (c ∷ cs) ≡ true) × (must_drop h (Char c) ≡ None))
split-may h zero run p l e = absurd (omega arith)
split-may h (suc n) [] p l e = absurd (omega arith)
split-may h (suc n) (c ∷ run) p l e = (c, take n run, refl, run-may h c (take n run) (may-front h n c run e))

-- what the calls make together
run-result : (cs : List ℕ) (m x y : State) (f : Bool) → x ≡ record m { tree = x.tree; ledger = x.ledger } → IsTree (record m.tree { tree = with_text m.tree m.fostering cs }) x
    → x.ledger ≡ given_run m.ledger cs (Text (text_node m.tree m.fostering)) → y ≡ record x { tree = y.tree } → IsTree x.tree y → f ≡ list_all is_space cs → record y { frameset_ok = cond f y.frameset_ok false } ≡ flagged cs (texted cs y.tree.steps m)
run-result cs m x y f r i l q j e =
    let u : Tree = record m.tree { tree = with_text m.tree m.fostering cs; steps = y.tree.steps } in
    let t : y.tree ≡ u = j.tree_is ∙ ap (λ (v : Tree). record v { steps = y.tree.steps }) i.tree_is in
    let is : y ≡ texted cs y.tree.steps m =
    q ∙ ap (λ (v : Tree). record x { tree = v }) t ∙ ap (λ (s : State). record s { tree = u }) r ∙ ap (λ (n : Entered). record m { tree = u; ledger = n }) l in
    ap (λ (s : State). record s { frameset_ok = cond f s.frameset_ok false }) is ∙ ap (λ (b : Bool). record (texted cs y.tree.steps m) { frameset_ok = cond b m.frameset_ok false }) e

pub text-made : (cs : List ℕ) (m x y : State) → x ≡ record m { tree = x.tree; ledger = x.ledger } → IsTree (record m.tree { tree = with_text m.tree m.fostering cs }) x
    → x.ledger ≡ given_run m.ledger cs (Text (text_node m.tree m.fostering)) → y ≡ record x { tree = y.tree } → IsTree x.tree y → y ≡ texted cs y.tree.steps m
text-made cs m x y r i l q j =
    let u : Tree = record m.tree { tree = with_text m.tree m.fostering cs; steps = y.tree.steps } in
    let t : y.tree ≡ u = j.tree_is ∙ ap (λ (v : Tree). record v { steps = y.tree.steps }) i.tree_is in
    q ∙ ap (λ (v : Tree). record x { tree = v }) t ∙ ap (λ (s : State). record s { tree = u }) r ∙ ap (λ (n : Entered). record m { tree = u; ledger = n }) l

pub body-made : (cs : List ℕ) (a m x y b : State) (f : Bool) → m ≡ record a { tree = m.tree; stack = m.stack } → HasPointers a.tree m.tree → IsReopened a.fostering a.tree m.tree → CountsReopening a.fostering a.tree m.tree
    → (foreign_tag a ≡ None → foreign_tag m ≡ None) → TextGoesOn m.tree m.fostering → x ≡ record m { tree = x.tree; ledger = x.ledger } → IsTree (record m.tree { tree = with_text m.tree m.fostering cs }) x
    → x.ledger ≡ given_run m.ledger cs (Text (text_node m.tree m.fostering)) → y ≡ record x { tree = y.tree } → IsTree x.tree y → f ≡ list_all is_space cs → b ≡ record y { frameset_ok = cond f y.frameset_ok false }
    → b.tree.steps ≡ more m.tree.steps (text_steps m.tree a.fostering (length cs) + (length cs - 1) * look_steps m.tree.list) → IsTextRun cs a b
body-made cs a m x y b f r w i c h g s e l q j k z n = record {
  middle = m;
  moved = record { rest = r; pointers = w };
  reopened = i;
  first = c;
  others = n;
  home = h;
  goes_on = subst (λ (v : Bool). TextGoesOn m.tree v) (ap (λ (v : State). v.fostering) r) g;
  result_is = ap begun (z ∙ run-result cs m x y f s e l q j k) ∙ ap (λ (n : ℕ). begun (flagged cs (texted cs n m))) (sym (ap (λ (v : State). v.tree.steps) z));
}

-- the front of a run is as long as that
first-of : (n : ℕ) (run cs : List ℕ) (c : ℕ) → n ≤ length run → take n run ≡ c ∷ cs → n ≡ suc (length cs)
first-of n run cs c l e = sym (length-take-le n run l) ∙ ap length e

text-mode : (m : Mode) → is_text m ≡ true → m ≡ mode.Text
text-mode mode.Text e = refl
text-mode _ e = absurd (false≢true e)

-- a run in the mode text, from the beginning of the call, and then so many entries
pub text-taken : (n : ℕ) (run : List ℕ) (a m x y : State) → m ≡ begun a → is_text a.mode ≡ true → foreign_tag a ≡ None → 0 < n → n ≤ length run → IsTrue (may_text_run a.ledger.history run) → TextGoesOn m.tree m.fostering
    → x ≡ record m { tree = x.tree; ledger = x.ledger } → IsTree (record m.tree { tree = with_text m.tree m.fostering (take n run) }) x → x.ledger ≡ given_run m.ledger (take n run) (Text (text_node m.tree m.fostering))
    → x.tree.steps ≡ more m.tree.steps (text_steps m.tree m.fostering n) → y ≡ record x { tree = y.tree } → IsTree x.tree y → y.tree.steps ≡ more x.tree.steps n → TakesEach (take n run) a y
text-taken n run a m x y e k o p l w g r i h c q j d =
    let s = split-may a.ledger.history n run p l w in
    let result : begun y ≡ begun (texted (s.0 ∷ s.1) y.tree.steps a) =
    ap begun (text-made (take n run) m x y r i h q j) ∙ ap (λ (v : State). begun (texted (take n run) y.tree.steps v)) e ∙ ap (λ cs. begun (texted cs y.tree.steps a)) s.2 in
    let steps : y.tree.steps ≡ more a.tree.steps (text_steps a.tree a.fostering n + n) =
    d ∙ ap (λ k. more k n) c ∙ more-more m.tree.steps (text_steps m.tree m.fostering n) n ∙ ap (λ (v : State). more v.tree.steps (text_steps v.tree v.fostering n + n)) e in
    subst (λ cs. TakesEach cs a y) (sym s.2)
    (text-chars s.1 s.0 a y (text-mode a.mode k) s.3.0 s.3.1 o (subst (λ (v : State). TextGoesOn v.tree v.fostering) e g) result (steps ∙ ap (λ i. more a.tree.steps (text_steps a.tree a.fostering i + i)) (first-of n run s.1 s.0 l s.2)))

-- and a run in the body
pub body-taken : (n : ℕ) (run : List ℕ) (a m x y : State) → m ≡ begun a → takes_runs a.mode ≡ true → is_loose a.mode ≡ true → foreign_tag a ≡ None → 0 < n → n ≤ length run → IsTrue (may_text_run a.ledger.history run)
    → IsTextRun (take n run) m x → y ≡ record x { tree = y.tree } → IsTree x.tree y → y.tree.steps ≡ more x.tree.steps n → TakesEach (take n run) a y
body-taken n run a m x y e r l o p k w f q j d =
    let h : IsTextRun (take n run) (begun a) x = subst (λ (v : State). IsTextRun (take n run) v x) e f in
    let s = split-may a.ledger.history n run p k w in
    let t : Tree = h.middle.tree in
    let result : begun y ≡ begun (flagged (s.0 ∷ s.1) (texted (s.0 ∷ s.1) y.tree.steps (moved a h.middle))) =
    ap begun (q ∙ ap (λ (v : Tree). record x { tree = v }) j.tree_is) ∙ ap (λ (v : State). record v { tree = record v.tree { steps = y.tree.steps } }) h.result_is
    ∙ ap (λ (v : State). begun (flagged (take n run) (texted (take n run) y.tree.steps v))) h.moved.rest ∙ ap (λ cs. begun (flagged cs (texted cs y.tree.steps (moved a h.middle)))) s.2 in
    let counted : n ≡ suc (length s.1) = first-of n run s.1 s.0 k s.2 in
    let before : x.tree.steps ≡ more t.steps (text_steps t a.fostering (suc (length s.1)) + length s.1 * look_steps t.list) =
    h.others ∙ ap (λ cs. more t.steps (text_steps t a.fostering (length cs) + (length cs - 1) * look_steps t.list)) s.2 ∙ ap (λ i. more t.steps (text_steps t a.fostering (suc (length s.1)) + i * look_steps t.list)) (one-less (length s.1)) in
    let steps : y.tree.steps ≡ more t.steps (text_steps t a.fostering (suc (length s.1)) + suc (length s.1) + length s.1 * look_steps t.list) =
    d ∙ ap (more x.tree.steps) counted ∙ ap (λ i. more i (suc (length s.1))) before ∙ in-turn t.steps (text_steps t a.fostering (suc (length s.1))) (length s.1 * look_steps t.list) (suc (length s.1)) in
    subst (λ cs. TakesEach cs a y) (sym s.2)
    (body-chars s.1 s.0 a h.middle y r l s.3.0 s.3.1 o (subst (λ (x : State). foreign_tag x ≡ None) h.moved.rest (h.home o)) h.moved.pointers h.reopened h.first h.goes_on result steps)
  where
    in-turn : (s t l n : ℕ) → more (more s (t + l)) n ≡ more s (t + n + l)
    in-turn s t l n = omega arith

pub body-mode : (m : Mode) → takes_runs m ≡ true → is_text m ≡ false → is_loose m ≡ true
body-mode mode.InBody r t = refl
body-mode mode.InCaption r t = refl
body-mode mode.InCell r t = refl
body-mode mode.Text r t = absurd (false≢true (sym t))
body-mode _ r t = absurd (false≢true r)

-- one code point of a text, which begins no run
pub char-taken : (text : List ℕ) (c : ℕ) (a b : State) → take 1 text ≡ c ∷ [] → false ≡ is_run_char a c → Entries (Char c) (kind.Char c) (begun a) b → TakesEach (take 1 text) a b
char-taken text c a b e f h = subst (λ cs. TakesEach cs a b) (sym e) (b, (h, λ t. absurd (false≢true (f ∙ t))), refl)

-- WHAT EACH TAKES

pub each-constructs : (cs : List ℕ) (a z : State) → TakesEach cs a z → Constructs (chars_of cs) a z
each-constructs [] a z h = h
each-constructs (c ∷ cs) a z h = (h.0, h.1.0, each-constructs cs h.0 z h.2)

each-from : (cs : List ℕ) (a b z : State) → begun a ≡ begun b → TakesEach cs b z → TakesEach cs a z
each-from [] a b z e h = e ∙ h
each-from (c ∷ cs) a b z e h = (h.0, subst (λ (x : State). TakesOne c x h.0) (sym e) h.1, h.2)

pub each-then : (cs ds : List ℕ) (a b z : State) → TakesEach cs a b → TakesEach ds b z → TakesEach (cs ++ ds) a z
each-then [] ds a b z h k = each-from ds a b z h k
each-then (c ∷ cs) ds a b z h k = (h.0, h.1, each-then cs ds h.0 b z h.2 k)

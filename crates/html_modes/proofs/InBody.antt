-- What the rules of the body do with the tokens of a plain page: what is listed is open, so nothing is opened anew; no p is open; each end tag is that
-- of the current node.
use Rattle.std.proofs.Common.{◌≡◌, ℕ, ◌+◌, ◌<◌, Bool, true, false, cond, List, [], ◌∷◌, ◌++◌, length, drop, map, Option, Some, None, Result, Ok, Err, OnOk, inl, inr, refl, sym, ◌∙◌, ap, subst, arith}
use Rattle.std.specs.Prelude.{is_some}
use Rattle.std.specs.List.{list_all, list_any}
use Rattle.html_names.specs.declared.tag.Tag.{Tag}
use Rattle.html_names.specs.declared.tag.Tag.TheVariants as tag
use Rattle.html_names.specs.declared.sets.Scope.TheVariants as scope
use Rattle.html_names.specs.Sets.{is_formatting}
use Rattle.html_names.specs.Tags.{is_same}
use Rattle.html_arena.specs.Siblings.{has}
use Rattle.html_arena.specs.Tree.{Tree, texted_run}
use Rattle.html_open.specs.declared.entry.Entry.{Entry}
use Rattle.html_open.specs.declared.entry.Entry.TheVariants.{Node}
use Rattle.html_open.specs.Entries.{nodes_of}
use Rattle.html_open.specs.Lists.{above, up_to}
use Rattle.html_open.specs.Marking.{bare}
use Rattle.html_open.specs.Opened.{open_at}
use Rattle.html_open.specs.Reopening.{closed, fresh, stands, with_clones}
use Rattle.html_open.proofs.Keeps.{cases_bool, cases_eqb, eqb-self}
use Rattle.html_tree.specs.declared.groups.Group.TheVariants as group
use Rattle.html_tree.specs.declared.groups.Stop.TheVariants as stop
use Rattle.html_tree.specs.Closing.{before_index, closed_through, popped}
use Rattle.html_tree.specs.Groups.{is_stop}
use Rattle.html_tree.specs.Listing.{IsReopened}
use Rattle.html_tree.specs.OpenTags.{is_tag_in_scope, open_tags}
use Rattle.html_tree.specs.Searching.{found}
use Rattle.html_tree.specs.States.{State as Open}
use Rattle.html_tree.proofs.Scoped.{found-scope}
use Rattle.html_open.specs.Placing.{place_of}
use Rattle.html_open.specs.Entries.{pushed}
use Rattle.html_arena.specs.declared.data.NewNode.TheVariants.{Element}
use Rattle.html_arena.specs.declared.data.Origin.TheVariants.{Token}
use Rattle.html_tokens.specs.declared.attributes.Attr.{Attr}
use Rattle.html_tokens.specs.declared.token.TokenKind.{TokenKind}
use Rattle.html_tree.specs.declared.groups.Target.TheVariants.{Current}
use Rattle.html_tree.specs.Inserting.{with_new}
use Rattle.html_tree.specs.OpenTags.{tags_down}
use Rattle.html_tree.specs.Targets.{place_for}
use Rattle.html_tree.specs.Texts.{node_or_next, text_before, text_node, tree_or_new, with_text}
use Rattle.html_ledger.specs.Entries.{noted, number_of}
use Rattle.html_ledger.specs.Flags.{has_error}
use Rattle.html_ledger.specs.declared.fate.Fate.{Fate}
use Rattle.html_ledger.specs.declared.fate.Fate.TheVariants.{Made, Text}
use Rattle.html_ledger.specs.declared.symbol.Symbol.{Symbol}
use Rattle.html_ledger.specs.declared.symbol.Symbol.TheVariants.{Start, Char}
use Rattle.html_construction.specs.Calls.{HasFate, IsTree, counting, element_of, listed_at, opened_at}
use Rattle.html_construction.specs.declared.mode.Mode.TheVariants.{InBody}
use Rattle.html_construction.specs.States.{State}
use Rattle.html_construction.specs.Tokens.{attrs_of, tag_name}
use Rattle.html_modes.specs.Plain.{AreListed, IsNextInBody, IsPlainState, IsTurn, StandsIn, closes, is_plain_tag, next_mode, next_nodes}

-- what follows from what three clauses of a call say
pub on-ok : {A : Type 0} {E : Type 0} {P Q R S : Type 0} (r : Result A E) → OnOk r P → OnOk r Q → OnOk r R → (P → Q → R → S) → OnOk r S
on-ok (Ok x) p q r f = f p q r
on-ok (Err e) p q r f = tt

-- LISTS

module _ {X : Type 0} (p : X → Bool) where
  all-any : (x : X) (xs : List X) → list_all p (x ∷ xs) ≡ true → list_any p (x ∷ xs) ≡ true
  all-any x xs h = elim (cases_bool (p x)) [ inl a ↦ rw a refl | inr a ↦ absurd (let k = rw a at h in cc) ]

  all-later : (x : X) (xs : List X) → list_all p (x ∷ xs) ≡ true → list_all p xs ≡ true
  all-later x xs h = elim (cases_bool (p x)) [ inl a ↦ rw a at h | inr a ↦ absurd (let k = rw a at h in cc) ]

  all-above : (xs : List X) → list_all p xs ≡ true → above p xs ≡ []
  all-above [] h = refl
  all-above (x ∷ []) h = elim (cases_bool (p x)) [ inl a ↦ rw a refl | inr a ↦ absurd (let k = rw a at h in cc) ]
  all-above (x ∷ y ∷ ys) h = let k = all-later x (y ∷ ys) h in rw (all-any y ys k) (all-above (y ∷ ys) k)

  all-up_to : (xs : List X) → list_all p xs ≡ true → up_to p xs ≡ xs
  all-up_to [] h = refl
  all-up_to (x ∷ []) h = elim (cases_bool (p x)) [ inl a ↦ rw a refl | inr a ↦ absurd (let k = rw a at h in cc) ]
  all-up_to (x ∷ y ∷ ys) h = let k = all-later x (y ∷ ys) h in rw (all-any y ys k) (ap (λ v. x ∷ v) (all-up_to (y ∷ ys) k))

-- a list that isn't empty has a last element
pub last-split : (xs : List ℕ) → 0 < length xs → (ys : List ℕ) × (y : ℕ) × (xs ≡ ys ++ y ∷ [])
last-split [] h = absurd (omega (arith, h))
last-split (x ∷ []) h = ([], x, refl)
last-split (x ∷ y ∷ ys) h = let r = last-split (y ∷ ys) (omega arith) in (x ∷ r.0, r.1, ap (λ v. x ∷ v) r.2)

-- WHAT IS LISTED IS OPEN

listed-stands : (t s : List ℕ) (es : List Entry) → ((x : ℕ) → has x s ≡ true → has x t ≡ true) → AreListed es s → list_all (stands t) es ≡ true
listed-stands t s [] k h = refl
listed-stands t [] (e ∷ es) k h = absurd h
listed-stands t (x ∷ s) (e ∷ es) k h = elim h [
  | inl h ↦ (
      let here : has x t ≡ true = k x (rw (eqb-self x) refl) in
      let later = listed-stands t s es (λ y m. k y (more y m)) h.1 in
      rw (h.0, here) later
      )
  | inr h ↦ listed-stands t s (e ∷ es) (λ y m. k y (more y m)) h
]
  where
    more : (y : ℕ) → has y s ≡ true → has y (x ∷ s) ≡ true
    more y m = elim (cases_eqb y x) [ inl e ↦ rw e.0 refl | inr e ↦ rw e.0 m ]

-- so nothing is opened anew
pub record IsSame (a b : Open) : Type 0 where
  pub stack_is : b.stack ≡ a.stack
  pub list_is : b.list ≡ a.list
  pub nodes_are : b.tree ≡ a.tree

pub reopened-same : (foster : Bool) (a b : Open) → AreListed a.list a.stack → IsReopened foster a b → IsSame a b
reopened-same foster a b h r =
    let all = listed-stands a.stack a.stack a.list (λ x m. m) h in
    let none : closed (open_at a.stack a.list r.old) ≡ [] = ap nodes_of (all-above (stands a.stack) a.list all) in
    record {
      stack_is = r.reopened.stack_is ∙ ap (λ v. a.stack ++ fresh r.old (length v)) none ∙ by a.stack;
      list_is = r.reopened.list_is ∙ ap (λ v. up_to (stands a.stack) a.list ++ map Node (fresh r.old (length v))) none ∙ by (up_to (stands a.stack) a.list) ∙ all-up_to (stands a.stack) a.list all;
      nodes_are = sym r.new_is ∙ r.reopened.tree_is ∙ ap (λ v. bare (with_clones r.old a.stack foster v)) none ∙ r.old_is;
    }
  where
    by : {X : Type 0} (xs : List X) → xs ++ [] ≡ xs
    by [] = refl
    by (x ∷ xs) = ap (λ v. x ∷ v) (by xs)

-- the same of all that was built
pub record IsUnmoved (a m : State) : Type 0 where
  pub rest : m ≡ record a { tree = m.tree; stack = m.stack }
  pub tags_are : m.stack ≡ a.stack
  pub tree_same : IsSame a.tree m.tree

tags-same : (a b : Open) → IsSame a b → open_tags b ≡ open_tags a
tags-same a b s = ap (λ t. tags_down t b.stack) s.nodes_are ∙ ap (λ v. tags_down a.tree v) s.stack_is

pub unmoved : (a m : State) → IsPlainState a → m ≡ record a { tree = m.tree; stack = m.stack } → m.stack ≡ open_tags m.tree → IsSame a.tree m.tree → IsUnmoved a m
unmoved a m p r t s = record { rest = r; tags_are = t ∙ tags-same a.tree m.tree s ∙ sym p.tags; tree_same = s }

pub reconstructed : (a m : State) → IsPlainState a → m ≡ record a { tree = m.tree; stack = m.stack } → m.stack ≡ open_tags m.tree → IsReopened a.fostering a.tree m.tree → IsUnmoved a m
reconstructed a m p r t e = unmoved a m p r t (reopened-same a.fostering a.tree m.tree p.listed e)

-- WHAT ONE TOKEN MAKES

module _ (a m : State) (u : IsUnmoved a m) where
  pub ledger-same : m.ledger ≡ a.ledger
  ledger-same = ap (λ (x : State). x.ledger) u.rest

  pub mode-same : m.mode ≡ a.mode
  mode-same = ap (λ (x : State). x.mode) u.rest

  pub fostering-same : m.fostering ≡ a.fostering
  fostering-same = ap (λ (x : State). x.fostering) u.rest

  pub context-same : m.context ≡ a.context
  context-same = ap (λ (x : State). x.context) u.rest

-- a start tag in the body is that of no root
plain-nodes : (t : Tag) (k : TokenKind) (a : State) → is_plain_tag t ≡ true → next_nodes a (Start t) k ≡ with_new a.tree.tree (place_for a.tree (Current false)) (element_of a k)
plain-nodes tag.Html k a e = absurd (let h = e in cc)
plain-nodes tag.Div k a e = refl
plain-nodes tag.Section k a e = refl
plain-nodes tag.Article k a e = refl
plain-nodes tag.B k a e = refl
plain-nodes tag.I k a e = refl
plain-nodes tag.Em k a e = refl
plain-nodes tag.Strong k a e = refl
plain-nodes tag.Other k a e = refl
plain-nodes _ k a e = absurd (let h = e in cc)

-- the nodes that a start tag makes, by what they depend on
new-nodes : Tree → List ℕ → Bool → List ℕ → List Attr → ℕ → Tree
new-nodes t s f name attrs n = with_new t (place_of t s None f) (Element name attrs (Token n))

new-same : (a m : State) (k : TokenKind) → IsPlainState a → IsUnmoved a m → with_new m.tree.tree (place_for m.tree (Current m.fostering)) (element_of m k) ≡ with_new a.tree.tree (place_for a.tree (Current false)) (element_of a k)
unfolding new-nodes
new-same a m k p u =
    ap (λ t. new-nodes t m.tree.stack m.fostering (tag_name k) (attrs_of k) (number_of m.ledger)) u.tree_same.nodes_are
    ∙ ap (λ s. new-nodes a.tree.tree s m.fostering (tag_name k) (attrs_of k) (number_of m.ledger)) u.tree_same.stack_is
    ∙ ap (λ f. new-nodes a.tree.tree a.tree.stack f (tag_name k) (attrs_of k) (number_of m.ledger)) (fostering-same a m u ∙ p.unfostered)
    ∙ ap (λ l. new-nodes a.tree.tree a.tree.stack false (tag_name k) (attrs_of k) (number_of l)) (ledger-same a m u)

-- the same of text
text-nodes : Tree → List ℕ → Bool → List ℕ → Tree
text-nodes t s f run = bare (texted_run (tree_or_new t (place_of t s None f) (text_before t (place_of t s None f))) (node_or_next t (text_before t (place_of t s None f))) run)

pub text-same : (a m : State) (run : List ℕ) → IsPlainState a → IsUnmoved a m → with_text m.tree m.fostering run ≡ with_text a.tree false run
unfolding text-nodes
text-same a m run p u =
    ap (λ t. text-nodes t m.tree.stack m.fostering run) u.tree_same.nodes_are
    ∙ ap (λ s. text-nodes a.tree.tree s m.fostering run) u.tree_same.stack_is
    ∙ ap (λ f. text-nodes a.tree.tree a.tree.stack f run) (fostering-same a m u ∙ p.unfostered)

text-place : Tree → List ℕ → Bool → ℕ
text-place t s f = node_or_next t (text_before t (place_of t s None f))

pub node-same : (a m : State) → IsPlainState a → IsUnmoved a m → text_node m.tree m.fostering ≡ text_node a.tree false
unfolding text-place
node-same a m p u =
    ap (λ t. text-place t m.tree.stack m.fostering) u.tree_same.nodes_are
    ∙ ap (λ s. text-place a.tree.tree s m.fostering) u.tree_same.stack_is
    ∙ ap (λ f. text-place a.tree.tree a.tree.stack f) (fostering-same a m u ∙ p.unfostered)

count-same : (a m : State) → IsUnmoved a m → length m.tree.tree.labels ≡ length a.tree.tree.labels
count-same a m u = ap (λ (t : Tree). length t.labels) u.tree_same.nodes_are

turn-ledger : (a m b : State) (y : Symbol) (f g : Fate) → IsUnmoved a m → f ≡ g → HasFate y f m b → (told : Bool) × (b.ledger ≡ noted a.ledger y g told)
turn-ledger a m b y f g u e h = (
  has_error m.ledger.history y f,
  h.ledger_is ∙ ap (λ l. noted l y f (has_error m.ledger.history y f)) (ledger-same a m u) ∙ ap (λ v. noted a.ledger y v (has_error m.ledger.history y f)) e,
)

-- the element of a start tag is put last in the current node and opened
pub turn-open : (t : Tag) (k : TokenKind) (a m b : State) → IsNextInBody (Start t) k a → is_formatting t ≡ false → IsUnmoved a m
    → b ≡ record m { tree = b.tree; ledger = b.ledger; stack = t ∷ m.stack }
    → IsTree (opened_at (element_of m k) (Current m.fostering) (counting (number_of m.ledger + 1) m.tree)) b
    → HasFate (Start t) (Made (length m.tree.tree.labels)) m b → IsTurn (Start t) k a b
turn-open t k a m b n f u r e h = record {
  mode_is = ap (λ (x : State). x.mode) r ∙ mode-same a m u ∙ n.mode ∙ sym (ap (λ x. next_mode x (Start t)) n.mode);
  tags_are = ap (λ (x : State). x.stack) r ∙ ap (λ v. t ∷ v) u.tags_are;
  stack_is = ap (λ (x : Open). x.stack) e.tree_is ∙ ap (λ v. m.tree.stack ++ v ∷ []) (count-same a m u) ∙ ap (λ s. s ++ length a.tree.tree.labels ∷ []) u.tree_same.stack_is;
  nodes_are = ap (λ (x : Open). x.tree) e.tree_is ∙ new-same a m k n.plain u ∙ sym (plain-nodes t k a n.next);
  list_is = ap (λ (x : Open). x.list) e.tree_is ∙ u.tree_same.list_is ∙ sym (ap (λ c. cond c (pushed (next_nodes a (Start t) k) (length a.tree.tree.labels) a.tree.list) a.tree.list) f);
  ledger_is = turn-ledger a m b (Start t) (Made (length m.tree.tree.labels)) (Made (length a.tree.tree.labels)) u (ap Made (count-same a m u)) h;
  same_fostering = ap (λ (x : State). x.fostering) r ∙ fostering-same a m u;
  same_context = ap (λ (x : State). x.context) r ∙ context-same a m u;
}

-- the element of a start tag of a formatting name is also listed
pub turn-listed : (t : Tag) (k : TokenKind) (a m b : State) → IsNextInBody (Start t) k a → is_formatting t ≡ true → IsUnmoved a m
    → b ≡ record m { tree = b.tree; ledger = b.ledger; stack = t ∷ m.stack }
    → IsTree (listed_at m.fostering (tag_name k) (attrs_of k) (number_of m.ledger) m.tree) b
    → HasFate (Start t) (Made (length m.tree.tree.labels)) m b → IsTurn (Start t) k a b
turn-listed t k a m b n f u r e h = record {
  mode_is = ap (λ (x : State). x.mode) r ∙ mode-same a m u ∙ n.mode ∙ sym (ap (λ x. next_mode x (Start t)) n.mode);
  tags_are = ap (λ (x : State). x.stack) r ∙ ap (λ v. t ∷ v) u.tags_are;
  stack_is = ap (λ (x : Open). x.stack) e.tree_is ∙ ap (λ v. m.tree.stack ++ v ∷ []) (count-same a m u) ∙ ap (λ s. s ++ length a.tree.tree.labels ∷ []) u.tree_same.stack_is;
  nodes_are = nodes;
  list_is = ap (λ (x : Open). x.list) e.tree_is ∙ list ∙ sym (ap (λ c. cond c (pushed (next_nodes a (Start t) k) (length a.tree.tree.labels) a.tree.list) a.tree.list) f);
  ledger_is = turn-ledger a m b (Start t) (Made (length m.tree.tree.labels)) (Made (length a.tree.tree.labels)) u (ap Made (count-same a m u)) h;
  same_fostering = ap (λ (x : State). x.fostering) r ∙ fostering-same a m u;
  same_context = ap (λ (x : State). x.context) r ∙ context-same a m u;
}
  where
    made : with_new m.tree.tree (place_for m.tree (Current m.fostering)) (element_of m k) ≡ next_nodes a (Start t) k
    made = new-same a m k n.plain u ∙ sym (plain-nodes t k a n.next)

    nodes : b.tree.tree ≡ next_nodes a (Start t) k
    nodes = ap (λ (x : Open). x.tree) e.tree_is ∙ made

    list : pushed (with_new m.tree.tree (place_for m.tree (Current m.fostering)) (element_of m k)) (length m.tree.tree.labels) m.tree.list ≡ pushed (next_nodes a (Start t) k) (length a.tree.tree.labels) a.tree.list
    list = ap (λ v. pushed v (length m.tree.tree.labels) m.tree.list) made ∙ ap (λ v. pushed (next_nodes a (Start t) k) v m.tree.list) (count-same a m u) ∙ ap (λ v. pushed (next_nodes a (Start t) k) (length a.tree.tree.labels) v) u.tree_same.list_is

-- a code point is text at the end of the current node
pub turn-char : (c : ℕ) (k : TokenKind) (a m b : State) → IsNextInBody (Char c) k a → IsUnmoved a m
    → b ≡ record m { tree = b.tree; ledger = b.ledger }
    → IsTree (record m.tree { tree = with_text m.tree m.fostering (c ∷ []) }) b
    → HasFate (Char c) (Text (text_node m.tree m.fostering)) m b → IsTurn (Char c) k a b
turn-char c k a m b n u r e h = record {
  mode_is = ap (λ (x : State). x.mode) r ∙ mode-same a m u ∙ n.mode ∙ sym (ap (λ x. next_mode x (Char c)) n.mode);
  tags_are = ap (λ (x : State). x.stack) r ∙ u.tags_are ∙ sym (ap (λ x. cond (closes x (Char c)) (drop 1 a.stack) a.stack) n.mode);
  stack_is = ap (λ (x : Open). x.stack) e.tree_is ∙ u.tree_same.stack_is ∙ sym (ap (λ x. cond (closes x (Char c)) (popped a.tree.stack) a.tree.stack) n.mode);
  nodes_are = ap (λ (x : Open). x.tree) e.tree_is ∙ text-same a m (c ∷ []) n.plain u;
  list_is = ap (λ (x : Open). x.list) e.tree_is ∙ u.tree_same.list_is;
  ledger_is = turn-ledger a m b (Char c) (Text (text_node m.tree m.fostering)) (Text (text_node a.tree false)) u (ap Text (node-same a m n.plain u)) h;
  same_fostering = ap (λ (x : State). x.fostering) r ∙ fostering-same a m u;
  same_context = ap (λ (x : State). x.context) r ∙ context-same a m u;
}

-- the frameset-ok flag tells nothing of it
pub turn-flag : (f : Bool) (y : Symbol) (k : TokenKind) (a x b : State) → b ≡ record x { frameset_ok = f } → IsTurn y k a x → IsTurn y k a b
turn-flag f y k a x b e t = subst (λ (z : State). IsTurn y k a z) (sym e) record {
  mode_is = t.mode_is;
  tags_are = t.tags_are;
  stack_is = t.stack_is;
  nodes_are = t.nodes_are;
  list_is = t.list_is;
  ledger_is = t.ledger_is;
  same_fostering = t.same_fostering;
  same_context = t.same_context;
}

-- NO P IS OPEN

pub path-of : (a : State) → IsPlainState a → a.mode ≡ InBody → (path : List Tag) × (list_all is_plain_tag path ≡ true) × (a.stack ≡ path ++ tag.Body ∷ tag.Html ∷ [])
path-of a p e = subst (λ x. StandsIn x a.stack) e p.stands

plain-no-p : (t : Tag) → is_plain_tag t ≡ true → is_same t tag.P ≡ false
plain-no-p tag.Div e = refl
plain-no-p tag.Section e = refl
plain-no-p tag.Article e = refl
plain-no-p tag.B e = refl
plain-no-p tag.I e = refl
plain-no-p tag.Em e = refl
plain-no-p tag.Strong e = refl
plain-no-p tag.Other e = refl
plain-no-p _ e = absurd (let h = e in cc)

path-no-p : (path : List Tag) → list_all is_plain_tag path ≡ true → is_tag_in_scope (group.Named tag.P) (stop.EndOf scope.Button) (path ++ tag.Body ∷ tag.Html ∷ []) ≡ false
path-no-p [] h = refl
path-no-p (t ∷ path) h = elim (cases_bool (is_plain_tag t)) [
  | inl e ↦ (
      let k : list_all is_plain_tag path ≡ true = rw e at h in
      let r = path-no-p path k in
      rw (plain-no-p t e, r) (by (is_stop (stop.EndOf scope.Button) t))
      )
  | inr e ↦ absurd (let k = rw e at h in cc)
]
  where
    by : (b : Bool) → cond b false false ≡ false
    by true = refl
    by false = refl

none-is : (o : Option ℕ) → is_some o ≡ false → o ≡ None
none-is None h = refl
none-is (Some x) h = absurd (let k = h in cc)

no-p : (a : State) → IsPlainState a → a.mode ≡ InBody → found a.tree (group.Named tag.P) (stop.EndOf scope.Button) ≡ None
no-p a p e =
    let r = path-of a p e in
    none-is _ (found-scope a.tree (group.Named tag.P) (stop.EndOf scope.Button)
    ∙ ap (is_tag_in_scope (group.Named tag.P) (stop.EndOf scope.Button)) (sym p.tags ∙ r.2)
    ∙ path-no-p r.0 r.1)

-- so nothing is closed before a block
pub closed-none : (a m : State) → IsPlainState a → a.mode ≡ InBody → m ≡ record a { tree = m.tree; stack = m.stack } → m.stack ≡ open_tags m.tree
    → IsTree (record a.tree { stack = closed_through a.tree (group.Named tag.P) (stop.EndOf scope.Button) }) m → IsUnmoved a m
closed-none a m p e r t x = unmoved a m p r t record {
  stack_is = ap (λ (z : Open). z.stack) x.tree_is ∙ ap (λ o. before_index o a.tree.stack) (no-p a p e);
  list_is = ap (λ (z : Open). z.list) x.tree_is;
  nodes_are = ap (λ (z : Open). z.tree) x.tree_is;
}

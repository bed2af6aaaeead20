-- Where no code point leads into foreign content: where none was made and none is the context; and in the modes in which a code point closes no element, and opens
-- none but clones of formatting elements, where the adjusted current node is none of it.
use Rattle.std.proofs.Common.{◌≡◌, ◌∙◌, ◌<◌, ◌≤◌, ◌+◌, ◌==◌, ◌&&◌, ◌||◌, ℕ, zero, suc, Bool, true, false, cond, eqb, if◌then◌else◌, List, [], ◌∷◌, ◌++◌, length, map, get_or, set, not, Option, Some, None, refl, sym, ap, subst, arith, length-append}
use Rattle.std.specs.Prelude.{is_some}
use Rattle.std.specs.List.{list_any, range_with_len}
use Rattle.std.proofs.lemmas.Bool.{false≢true}
use Rattle.std.proofs.lemmas.Bool.Decides.{nat_tests}
use Rattle.html_names.specs.declared.tag.Tag.{Tag}
use Rattle.html_names.specs.declared.tag.Tag.TheVariants as tag
use Rattle.html_names.specs.Foreign.{is_foreign}
use Rattle.html_names.specs.Sets.{is_formatting}
use Rattle.html_arena.specs.declared.data.NewNode.TheVariants.{CloneOf, Text}
use Rattle.html_arena.specs.declared.data.NodeData.{NodeData}
use Rattle.html_arena.specs.declared.data.NodeData.TheVariants as node
use Rattle.html_arena.specs.Data.{cloned, tag_in, with_run}
use Rattle.html_arena.specs.Make.{made}
use Rattle.html_arena.specs.Siblings.{last_of}
use Rattle.html_arena.specs.Tree.{Tree as Nodes, label_of, parent_of, inserted, tag_at}
use Rattle.html_tokens.specs.declared.token.TokenKind.{TokenKind}
use Rattle.html_tokens.specs.declared.token.TokenKind.TheVariants as kind
use Rattle.html_ledger.specs.declared.symbol.Symbol.TheVariants.{Char}
use Rattle.html_ledger.specs.Spaces.{is_space}
use Rattle.html_ledger.specs.Symbols.{symbol_of}
use Rattle.html_arena.proofs.Siblings.{eqb-self}
use Rattle.html_open.specs.declared.entry.Entry.{Entry}
use Rattle.html_open.specs.declared.entry.Entry.TheVariants.{Marker, Node}
use Rattle.html_open.specs.declared.places.Place.{Place}
use Rattle.html_open.specs.declared.places.Place.TheVariants.{Before, Last}
use Rattle.html_open.specs.Entries.{has_node, nodes_of}
use Rattle.html_open.specs.Lists.{above, up_to}
use Rattle.html_open.specs.Opened.{open_at}
use Rattle.html_open.specs.Placing.{place_of, put}
use Rattle.html_open.specs.Reopening.{closed, fresh, stands, with_clone, with_clones}
use Rattle.html_tree.specs.Listing.{IsReopened}
use Rattle.html_tree.specs.OpenTags.{open_tags, tags_down}
use Rattle.html_tree.specs.Searching.{tag_if}
use Rattle.html_tree.specs.States.{IsSound, State as Tree}
use Rattle.html_tree.specs.Texts.{place_here, text_before, text_node, tree_or_new, with_text, with_text_node}
use Rattle.html_construction.specs.declared.mode.Mode.{Mode}
use Rattle.html_construction.specs.declared.mode.Mode.TheVariants as mode
use Rattle.html_construction.specs.Built.{chars_of}
use Rattle.html_construction.specs.Foreign.{adjusted_tag, foreign_tag, if_foreign, tag_or}
use Rattle.html_construction.specs.Plans.{Adopt, Ask, By, CloseLink, Do, Each, Ending, Foster, IsMoved, Over, Plan, Reconstruct, Runs, Settle, Stop, adopts, asks, closes_link, does, does_each, ends_each, fosters, goes_by, reconstructs, settles, stops}
use Rattle.html_construction.specs.States.{State}
use Rattle.html_construction.specs.Words.{Becomes, Drop, End, Enter, FramesetOff, Insert, InsertAt, InsertCharacter, InsertClosedForm, InsertComment, InsertCommentAt, InsertDoctype, InsertForeign, InsertForeignVoid, InsertForm, InsertHead, InsertListed, InsertPart, InsertReplacement, InsertRoot, InsertVoid, InsertVoidAt, Keep, Leave, MergeIntoBody, MergeIntoRoot, ReplaceBody, Switch, Word, after, answer, with_kept, with_stack}
use Rattle.html_construction.proofs.Planned.{halves}
use Rattle.html_modes.specs.Dispatching.{Constructs, Entries, IsEntry, begun, is_unfounded, last, next, settled}
use Rattle.html_modes.specs.Fitting.{Fits, ModeFits}
use Rattle.html_modes.specs.Foreign.{around_foreign, stack_after}
use Rattle.html_modes.specs.RuleForms.{again, ending, ignored}
use Rattle.html_modes.specs.Rules.{plan}
use Rattle.html_modes.specs.RulesForeign.{in_foreign}
use Rattle.html_modes.proofs.Dispatching.{Way, dropped, handed, planned, stayed, strayed, way}
use Rattle.html_modes.proofs.Embedding.{around-none}
use Rattle.html_builder.specs.Builders.{BuilderState}
use Rattle.html_builder.specs.Saying.{StaysHtml, is_steady, stays_html}

-- WHETHER FOREIGN CONTENT WAS MADE

or-false : (b : Bool) → (b || false) ≡ b
or-false true = refl
or-false false = refl

-- of a code point no element of it is made
abbrev known : State → Bool
known a = a.ledger.history.foreign

word-known : (w : Word) (c : ℕ) (a : State) → known (after w (kind.Char c) a) ≡ known a
word-known Insert c a = or-false (known a)
word-known (InsertAt g) c a = or-false (known a)
word-known InsertPart c a = or-false (known a)
word-known (InsertVoid n) c a = or-false (known a)
word-known (InsertVoidAt n g) c a = or-false (known a)
word-known InsertListed c a = or-false (known a)
word-known InsertHead c a = or-false (known a)
word-known InsertForm c a = or-false (known a)
word-known InsertClosedForm c a = or-false (known a)
word-known ReplaceBody c a = or-false (known a)
word-known InsertRoot c a = or-false (known a)
word-known InsertComment c a = or-false (known a)
word-known (InsertCommentAt g) c a = or-false (known a)
word-known InsertDoctype c a = or-false (known a)
word-known InsertCharacter c a = or-false (known a)
word-known InsertReplacement c a = or-false (known a)
word-known MergeIntoRoot c a = or-false (known a)
word-known MergeIntoBody c a = or-false (known a)
word-known (Drop cause) c a = or-false (known a)
word-known End c a = or-false (known a)
word-known (InsertForeign s) c a = or-false (known a)
word-known (InsertForeignVoid s) c a = or-false (known a)
word-known Leave c a = refl
word-known _ c a = refl

becomes-known : (m b : State) → Becomes m b → known b ≡ known m
becomes-known m b i = ap known i.state_is

moved-known : (a b : State) → IsMoved a b → known b ≡ known a
moved-known a b i = ap known i.rest

runs-known : (p : Plan) (c : ℕ) (t : TokenKind) (a : State) (e : Ending) (z : State) → t ≡ kind.Char c → Runs plan p t a e z → known z ≡ known a
runs-known _ c _ _ _ _ s (does w p t a b e z i j) =
    runs-known p c t b e z s j ∙ becomes-known (after w t a) b i ∙ ap (λ v. known (after w v a)) s ∙ word-known w c a
runs-known _ c _ _ _ _ s (asks q p n t a b e z i j) = runs-known (if answer q t a then p else n) c t b e z s j ∙ becomes-known a b i
runs-known _ c _ _ _ _ s (reconstructs p t a b e z i m j) = runs-known p c t b e z s j ∙ moved-known a b i
runs-known _ c _ _ _ _ s (adopts g p t a b e z i m j) = runs-known p c t b e z s j ∙ moved-known a b i
runs-known _ c _ _ _ _ s (closes_link p t a b e z i m j) = runs-known p c t b e z s j ∙ moved-known a b i
runs-known _ c _ _ _ _ s (fosters p t a b d e z i j m) = becomes-known (record d { fostering = false }) z m ∙ runs-known p c t b e d s j ∙ becomes-known (record a { fostering = true }) b i
runs-known _ c _ _ _ _ s (settles q p t a b e z i j) = runs-known (Each a.ledger.kept q p) c t b e z s j ∙ becomes-known (with_kept [] a) b i
runs-known _ c _ _ _ _ s (ends_each q p t a e z j) = runs-known p c t a e z s j
runs-known _ c _ _ _ _ s (does_each d ds q p t a b e z i j) = runs-known (Each ds q p) c t b e z s j ∙ runs-known q d (kind.Char d) a Over b refl i
runs-known _ c _ _ _ _ s (stops t a e z i) = becomes-known a z i
runs-known _ c _ _ _ _ s (goes_by m t a e z j) = runs-known _ c t a e z s j

way-known : (o : _) (c : ℕ) (a z : State) → Way o (Char c) (kind.Char c) a z → known z ≡ known a
way-known o c a z (planned f) = runs-known (plan a.mode (Char c)) c (kind.Char c) a (ending o) z refl f
way-known o c a z (handed g k f) =
    runs-known (plan a.mode (Char c)) c (kind.Char c) f.middle (ending o) z refl f.follows ∙ becomes-known (with_stack (stack_after a.tree (Char c) (kind.Char c)) a) f.middle f.left
way-known o c a z (dropped n k f) = runs-known (ignored n) c (kind.Char c) a (ending o) z refl f
way-known o c a z (strayed k f) = runs-known (Do (Switch mode.InBody) again) c (kind.Char c) a (ending o) z refl f
way-known o c a z (stayed g k f) =
    runs-known (in_foreign g (Char c)) c (kind.Char c) f.middle (ending o) z refl f.follows ∙ becomes-known (with_stack (stack_after a.tree (Char c) (kind.Char c)) a) f.middle f.left

entry-known : (o : _) (c : ℕ) (a z : State) → IsEntry o (Char c) (kind.Char c) a z → known z ≡ known a
entry-known o c a z e = way-known o c a z (way o (Char c) (kind.Char c) a z e)

entries-known : (c : ℕ) (a z : State) → Entries (Char c) (kind.Char c) a z → known z ≡ known a
entries-known c _ _ (next a b d z i e k) = entries-known c d z k ∙ entry-known _ c b d e ∙ becomes-known a b i
entries-known c _ _ (last a b d z i e r) = ap known r ∙ entry-known _ c b d e ∙ becomes-known a b i

constructs-known : (cs : List ℕ) (a z : State) → Constructs (chars_of cs) a z → known z ≡ known a
constructs-known [] a z e = sym (ap known e)
constructs-known (c ∷ cs) a z h = constructs-known cs h.0 z h.2 ∙ entries-known c (begun a) h.0 h.1

-- TAGS OF NODES

-- the node is none of foreign content
abbrev IsHtml : Nodes → ℕ → Type 0
IsHtml t x = is_foreign (tag_at t x) ≡ false

run-tag : (d : NodeData) (run : List ℕ) → tag_in (with_run d run) ≡ tag_in d
run-tag (node.Text s) run = refl
run-tag node.Document run = refl
run-tag (node.Contents h) run = refl
run-tag (node.Element e) run = refl
run-tag (node.Comment s j) run = refl
run-tag (node.Doctype n p s j) run = refl

set-tag : (ls : List NodeData) (x y : ℕ) (run : List ℕ) → tag_in (get_or (set ls x (with_run (get_or ls x node.Document) run)) y node.Document) ≡ tag_in (get_or ls y node.Document)
set-tag [] x y run = refl
set-tag (d ∷ ls) zero zero run = run-tag d run
set-tag (d ∷ ls) zero (suc y) run = refl
set-tag (d ∷ ls) (suc x) zero run = refl
set-tag (d ∷ ls) (suc x) (suc y) run = set-tag ls x y run

new-text-tag : (ls : List NodeData) (y : ℕ) → tag_in (get_or (ls ++ node.Text [] ∷ []) y node.Document) ≡ tag_in (get_or ls y node.Document)
new-text-tag [] zero = refl
new-text-tag [] (suc y) = refl
new-text-tag (d ∷ ls) zero = refl
new-text-tag (d ∷ ls) (suc y) = new-text-tag ls y

put-labels : (t : Nodes) (at : Place) (c : ℕ) → (put t at c).labels ≡ t.labels
put-labels t (Last p) c = refl
put-labels t (Before b) c = by (parent_of t b)
  where
    by : (o : Option ℕ) → (inserted t c b o).labels ≡ t.labels
    by None = refl
    by (Some p) = refl

-- text changes no tag
node-tag : (t : Nodes) (at : Place) (o : Option ℕ) (y : ℕ) → tag_at (tree_or_new t at o) y ≡ tag_at t y
node-tag t at (Some x) y = refl
node-tag t at None y = ap (λ ls. tag_in (get_or ls y node.Document)) (put-labels (made t Text) at (length t.labels)) ∙ new-text-tag t.labels y

text-tag : (u : Tree) (foster : Bool) (run : List ℕ) (y : ℕ) → tag_at (with_text u foster run) y ≡ tag_at u.tree y
text-tag u foster run y =
    set-tag (with_text_node u foster).labels (text_node u foster) y run ∙ node-tag u.tree (place_here u foster) (text_before u.tree (place_here u foster)) y

-- clones of elements of HTML are elements of HTML
cloned-tag : (d : NodeData) → tag_in (cloned d) ≡ tag_in d
cloned-tag (node.Text s) = refl
cloned-tag node.Document = refl
cloned-tag (node.Contents h) = refl
cloned-tag (node.Element e) = refl
cloned-tag (node.Comment s j) = refl
cloned-tag (node.Doctype n p s j) = refl

more-html : (ls : List NodeData) (d : NodeData) (y : ℕ) → is_foreign (tag_in d) ≡ false → is_foreign (tag_in (get_or ls y node.Document)) ≡ false → is_foreign (tag_in (get_or (ls ++ d ∷ []) y node.Document)) ≡ false
more-html [] d zero h k = h
more-html [] d (suc y) h k = refl
more-html (e ∷ ls) d zero h k = k
more-html (e ∷ ls) d (suc y) h k = more-html ls d y h k

clone-html : (t : Nodes) (s : List ℕ) (foster : Bool) (x y : ℕ) → IsHtml t x → IsHtml t y → IsHtml (with_clone t s foster x) y
clone-html t s foster x y h k =
    subst (λ ls. is_foreign (tag_in (get_or ls y node.Document)) ≡ false) (sym (put-labels (made t (CloneOf x)) (place_of t s None foster) (length t.labels)))
    (more-html t.labels (cloned (label_of t x)) y (ap is_foreign (cloned-tag (label_of t x)) ∙ h) k)

abbrev AreHtml : Nodes → List ℕ → Type 0
AreHtml t [] = Unit {0}
AreHtml t (x ∷ xs) = IsHtml t x × AreHtml t xs

all-html : (t u : Nodes) (xs : List ℕ) → ((y : ℕ) → IsHtml t y → IsHtml u y) → AreHtml t xs → AreHtml u xs
all-html t u [] f h = tt
all-html t u (x ∷ xs) f h = (f x h.0, all-html t u xs f h.1)

clones-html : (xs : List ℕ) (t : Nodes) (s : List ℕ) (foster : Bool) (y : ℕ) → AreHtml t xs → IsHtml t y → IsHtml (with_clones t s foster xs) y
clones-html [] t s foster y h k = k
clones-html (x ∷ xs) t s foster y h k =
    clones-html xs (with_clone t s foster x) (s ++ length t.labels ∷ []) foster y (all-html t (with_clone t s foster x) xs (λ z q. clone-html t s foster x z h.0 q) h.1) (clone-html t s foster x y h.0 k)

-- a node that is not yet made
beyond : (ls : List NodeData) (y : ℕ) → length ls ≤ y → is_foreign (tag_in (get_or ls y node.Document)) ≡ false
beyond [] y h = refl
beyond (d ∷ ls) zero h = absurd (omega (arith, h))
beyond (d ∷ ls) (suc y) h = let less : suc (length ls) ≤ suc y = h in beyond ls y (omega (arith, less))

-- THE LIST OF ACTIVE FORMATTING ELEMENTS

formatting-html : (g : Tag) → is_formatting g ≡ true → is_foreign g ≡ false
formatting-html tag.A e = refl
formatting-html tag.B e = refl
formatting-html tag.Big e = refl
formatting-html tag.Code e = refl
formatting-html tag.Em e = refl
formatting-html tag.Font e = refl
formatting-html tag.I e = refl
formatting-html tag.Nobr e = refl
formatting-html tag.S e = refl
formatting-html tag.Small e = refl
formatting-html tag.Strike e = refl
formatting-html tag.Strong e = refl
formatting-html tag.Tt e = refl
formatting-html tag.U e = refl
formatting-html _ e = absurd (false≢true e)

abbrev AreListed : Nodes → List Entry → Type 0
AreListed t [] = Unit {0}
AreListed t (Marker ∷ es) = AreListed t es
AreListed t (Node x ∷ es) = IsHtml t x × AreListed t es

listed-more : (t u : Nodes) (es : List Entry) → ((y : ℕ) → IsHtml t y → IsHtml u y) → AreListed t es → AreListed u es
listed-more t u [] f h = tt
listed-more t u (Marker ∷ es) f h = listed-more t u es f h
listed-more t u (Node x ∷ es) f h = (f x h.0, listed-more t u es f h.1)

listed-nodes : (t : Nodes) (es : List Entry) → AreListed t es → AreHtml t (nodes_of es)
listed-nodes t [] h = tt
listed-nodes t (Marker ∷ es) h = listed-nodes t es h
listed-nodes t (Node x ∷ es) h = (h.0, listed-nodes t es h.1)

listed-both : (t : Nodes) (es fs : List Entry) → AreListed t es → AreListed t fs → AreListed t (es ++ fs)
listed-both t [] fs h k = k
listed-both t (Marker ∷ es) fs h k = listed-both t es fs h k
listed-both t (Node x ∷ es) fs h k = (h.0, listed-both t es fs h.1 k)

-- one entry, and those after it
head-listed : (t : Nodes) (e : Entry) (es : List Entry) → AreListed t (e ∷ es) → AreListed t (e ∷ [])
head-listed t Marker es h = tt
head-listed t (Node x) es h = (h.0, tt)

tail-listed : (t : Nodes) (e : Entry) (es : List Entry) → AreListed t (e ∷ es) → AreListed t es
tail-listed t Marker es h = h
tail-listed t (Node x) es h = h.1

above-listed : (t : Nodes) (p : Entry → Bool) (es : List Entry) → AreListed t es → AreListed t (above p es)
above-listed t p [] h = tt
above-listed t p (e ∷ es) h = by (list_any p es) (p e) (above-listed t p es (tail-listed t e es h))
  where
    by : (x y : Bool) → AreListed t (above p es) → AreListed t (cond x (above p es) (cond y es (e ∷ es)))
    by true y k = k
    by false true k = tail-listed t e es h
    by false false k = h

up-to-listed : (t : Nodes) (p : Entry → Bool) (es : List Entry) → AreListed t es → AreListed t (up_to p es)
up-to-listed t p [] h = tt
up-to-listed t p (e ∷ es) h = by (list_any p es) (p e) (up-to-listed t p es (tail-listed t e es h))
  where
    by : (x y : Bool) → AreListed t (up_to p es) → AreListed t (cond x (e ∷ up_to p es) (cond y (e ∷ []) []))
    by true y k = listed-both t (e ∷ []) (up_to p es) (head-listed t e es h) k
    by false true k = head-listed t e es h
    by false false k = tt

fresh-listed : (t : Nodes) (m n : ℕ) → length t.labels ≤ m → AreListed t (map Node (range_with_len m n))
fresh-listed t m zero h = tt
fresh-listed t m (suc n) h = (beyond t.labels m h, fresh-listed t (m + 1) n (omega (arith, h)))

-- those of a sound tree
sound-listed : (t : Nodes) (es : List Entry) → ((x : ℕ) → has_node x es ≡ true → is_formatting (tag_at t x) ≡ true) → AreListed t es
sound-listed t [] f = tt
sound-listed t (Marker ∷ es) f = sound-listed t es f
sound-listed t (Node x ∷ es) f = (formatting-html (tag_at t x) (f x (same x)), sound-listed t es (λ y i. f y (later y i)))
  where
    same : (x : ℕ) → cond (eqb x x) true (has_node x es) ≡ true
    same x = rw (eqb-self x) refl

    later : (y : ℕ) → has_node y es ≡ true → cond (eqb y x) true (has_node y es) ≡ true
    later y i = by (eqb y x)
      where
        by : (b : Bool) → cond b true (has_node y es) ≡ true
        by true = refl
        by false = i

-- THE ADJUSTED CURRENT NODE

abbrev adjusted_by : Option Tag → List ℕ → Nodes → Option Tag
adjusted_by context stack t = if length stack == 1 then tag_or context (tag_if t (last_of stack)) else tag_if t (last_of stack)

none-some : (g : Tag) → None ≡ Some g → ⊥
none-some g e = absurd (let k : None ≡ Some g = e in cc)

html-tag : (g : Tag) → is_foreign g ≡ false → if_foreign (Some g) ≡ None
html-tag g h = rw h refl

tag-html : (g : Tag) → if_foreign (Some g) ≡ None → is_foreign g ≡ false
tag-html g e = by (is_foreign g) e
  where
    by : (b : Bool) → (if b then Some g else None) ≡ None → b ≡ false
    by true k = absurd (none-some g (sym k))
    by false k = refl

current-more : (t u : Nodes) (o : Option ℕ) → ((y : ℕ) → IsHtml t y → IsHtml u y) → if_foreign (tag_if t o) ≡ None → if_foreign (tag_if u o) ≡ None
current-more t u None f e = refl
current-more t u (Some x) f e = html-tag (tag_at u x) (f x (tag-html (tag_at t x) e))

adjusted-more : (context : Option Tag) (stack : List ℕ) (t u : Nodes) → ((y : ℕ) → IsHtml t y → IsHtml u y) → if_foreign (adjusted_by context stack t) ≡ None → if_foreign (adjusted_by context stack u) ≡ None
adjusted-more context stack t u f e = by (length stack == 1) context e
  where
    by : (b : Bool) (c : Option Tag) → if_foreign (if b then tag_or c (tag_if t (last_of stack)) else tag_if t (last_of stack)) ≡ None → if_foreign (if b then tag_or c (tag_if u (last_of stack)) else tag_if u (last_of stack)) ≡ None
    by true (Some g) k = k
    by true None k = current-more t u (last_of stack) f k
    by false c k = current-more t u (last_of stack) f k

-- clones were opened
record IsLast (m : ℕ) (xs : List ℕ) : Type 0 where
  node : ℕ
  least : m ≤ node
  last_is : last_of xs ≡ Some node

last-fresh : (m n : ℕ) → IsLast m (range_with_len m (suc n))
last-fresh m zero = record { node = m; least = omega arith; last_is = refl }
last-fresh m (suc n) =
    let k = last-fresh (m + 1) n in
    record { node = k.node; least = (let l = k.least in omega (arith, l)); last_is = rw (k.last_is) refl }

last-after : (s : List ℕ) (m n : ℕ) → IsLast m (s ++ range_with_len m (suc n))
last-after [] m n = last-fresh m n
last-after (x ∷ s) m n = let k = last-after s m n in record { node = k.node; least = k.least; last_is = rw (k.last_is) refl }

more-than-one : (n : ℕ) → 1 < n → (n == 1) ≡ false
more-than-one n l = grind (arith, nat_tests)

two-open : (s : List ℕ) (x : ℕ) (xs : List ℕ) → 0 < length s → (length (s ++ x ∷ xs) == 1) ≡ false
two-open s x xs h = more-than-one (length (s ++ x ∷ xs)) (let n = length-append s (x ∷ xs) in omega (arith, h, n))

no-more : (s : List ℕ) → s ++ [] ≡ s
no-more [] = refl
no-more (x ∷ s) = ap (λ v. x ∷ v) (no-more s)

opened-html : (context : Option Tag) (s : List ℕ) (t u : Nodes) (m n : ℕ) → 0 < length s → length t.labels ≤ m → ((y : ℕ) → IsHtml t y → IsHtml u y) → if_foreign (adjusted_by context s t) ≡ None
    → if_foreign (adjusted_by context (s ++ range_with_len m n) u) ≡ None
opened-html context s t u m zero o b f e = ap (λ v. if_foreign (adjusted_by context v u)) (no-more s) ∙ adjusted-more context s t u f e
opened-html context s t u m (suc n) o b f e =
    let k = last-after s m n in
    let own : IsHtml u k.node = f k.node (beyond t.labels k.node (let l = k.least in omega (arith, b, l))) in
    ap (λ (v : Bool). if_foreign (if v then tag_or context (tag_if u (last_of (s ++ range_with_len m (suc n)))) else tag_if u (last_of (s ++ range_with_len m (suc n))))) (two-open s m (range_with_len (m + 1) n) o)
    ∙ ap (λ v. if_foreign (tag_if u v)) k.last_is ∙ html-tag (tag_at u k.node) own

-- STATES

-- The mode is one of these, something is open, and neither the adjusted current node nor a listed element is one of foreign content.
record IsCalm (a : State) : Type 0 where
  steady : is_steady a.mode ≡ true
  opened : 0 < length a.tree.stack
  html : if_foreign (adjusted_tag a) ≡ None
  listed : AreListed a.tree.tree a.tree.list

calm-home : (a : State) → IsCalm a → foreign_tag a ≡ None
calm-home a k = by (known a)
  where
    by : (b : Bool) → (if b then if_foreign (adjusted_tag a) else None) ≡ None
    by true = k.html
    by false = refl

-- in another mode
calm-moded : (a b : State) → is_steady b.mode ≡ true → b ≡ record b { tree = a.tree; context = a.context } → IsCalm a → IsCalm b
calm-moded a b m e k = record {
  steady = m;
  opened = subst (λ (v : State). 0 < length v.tree.stack) (sym e) k.opened;
  html = ap (λ (v : State). if_foreign (adjusted_tag v)) e ∙ k.html;
  listed = subst (λ (v : State). AreListed v.tree.tree v.tree.list) (sym e) k.listed;
}

calm-texted : (a : State) (run : List ℕ) (l : _) → IsCalm a → IsCalm (record a { tree = record a.tree { tree = with_text a.tree a.fostering run }; ledger = l })
calm-texted a run l k =
    let more : (y : ℕ) → IsHtml a.tree.tree y → IsHtml (with_text a.tree a.fostering run) y = λ y h. ap is_foreign (text-tag a.tree a.fostering run y) ∙ h in
    record {
      steady = k.steady;
      opened = k.opened;
      html = adjusted-more a.context a.tree.stack a.tree.tree (with_text a.tree a.fostering run) more k.html;
      listed = listed-more a.tree.tree (with_text a.tree a.fostering run) a.tree.list more k.listed;
    }

calm-becomes : (m b : State) → Becomes m b → IsCalm m → IsCalm b
calm-becomes m b i k = subst (λ (v : State). IsCalm v) (sym i.state_is) (record { steady = k.steady; opened = k.opened; html = k.html; listed = k.listed })

calm-reopened : (a b : State) → IsMoved a b → IsReopened a.fostering a.tree b.tree → IsCalm a → IsCalm b
calm-reopened a b i r k = record {
  steady = ap (λ (v : State). is_steady v.mode) i.rest ∙ k.steady;
  opened = subst (λ (s : List ℕ). 0 < length s) (sym r.reopened.stack_is) (longer a.tree.stack (fresh r.old n) k.opened);
  html =
      ap (λ (v : State). if_foreign (adjusted_by v.context b.tree.stack b.tree.tree)) i.rest ∙ ap (λ (s : List ℕ). if_foreign (adjusted_by a.context s b.tree.tree)) r.reopened.stack_is
      ∙ opened-html a.context a.tree.stack r.old b.tree.tree (length r.old.labels) n k.opened (omega arith) grown (ap (λ (t : Nodes). if_foreign (adjusted_by a.context a.tree.stack t)) r.old_is ∙ k.html);
  listed =
      subst (λ (es : List Entry). AreListed b.tree.tree es) (sym r.reopened.list_is)
      (listed-more r.old b.tree.tree (up_to (stands a.tree.stack) a.tree.list ++ map Node (fresh r.old n)) grown
      (listed-both r.old (up_to (stands a.tree.stack) a.tree.list) (map Node (fresh r.old n)) (up-to-listed r.old (stands a.tree.stack) a.tree.list listed) (fresh-listed r.old (length r.old.labels) n (omega arith))));
}
  where
    elements : List ℕ
    elements = closed (open_at a.tree.stack a.tree.list r.old)

    n : ℕ
    n = length elements

    longer : (s t : List ℕ) → 0 < length s → 0 < length (s ++ t)
    longer [] t h = absurd (omega (arith, h))
    longer (x ∷ s) t h = omega arith

    listed : AreListed r.old a.tree.list
    listed = subst (λ (t : Nodes). AreListed t a.tree.list) (sym r.old_is) k.listed

    grown : (y : ℕ) → IsHtml r.old y → IsHtml b.tree.tree y
    grown y h =
        subst (λ (t : Nodes). IsHtml t y) r.new_is (subst (λ (t : Nodes). IsHtml t y) (sym r.reopened.tree_is)
        (clones-html elements r.old a.tree.stack a.fostering y (listed-nodes r.old (above (stands a.tree.stack) a.tree.list) (above-listed r.old (stands a.tree.stack) a.tree.list listed)) h))

-- WORDS AND PLANS

abbrev calm_word : Word → Bool
calm_word InsertCharacter = true
calm_word InsertReplacement = true
calm_word (Drop cause) = true
calm_word FramesetOff = true
calm_word Keep = true
calm_word (Switch m) = is_steady m
calm_word (Enter m) = is_steady m
calm_word _ = false

abbrev calm : Plan → Bool
calm (Do w p) = calm_word w && calm p
calm (Ask q p n) = calm p && calm n
calm (Reconstruct p) = calm p
calm (Adopt g p) = false
calm (CloseLink p) = false
calm (Foster p) = calm p
calm (Settle q p) = false
calm (Each cs q p) = false
calm (Stop e) = true
calm (By m) = is_steady m

word-calm : (w : Word) (t : TokenKind) (a : State) → calm_word w ≡ true → IsCalm a → IsCalm (after w t a)
word-calm InsertCharacter t a e k = calm-texted a _ _ k
word-calm InsertReplacement t a e k = calm-texted a _ _ k
word-calm (Drop cause) t a e k = calm-moded a (after (Drop cause) t a) k.steady refl k
word-calm FramesetOff t a e k = calm-moded a (after FramesetOff t a) k.steady refl k
word-calm Keep t a e k = calm-moded a (after Keep t a) k.steady refl k
word-calm (Switch m) t a e k = calm-moded a (after (Switch m) t a) e refl k
word-calm (Enter m) t a e k = calm-moded a (after (Enter m) t a) e refl k
word-calm _ t a e k = absurd (false≢true e)

either : (b : Bool) (p n : Plan) → calm p ≡ true → calm n ≡ true → calm (if b then p else n) ≡ true
either true p n e f = e
either false p n e f = f

plan-calm : (m : Mode) (c : ℕ) → is_steady m ≡ true → calm (plan m (Char c)) ≡ true
unfolding plan
plan-calm mode.InBody c e = either (c == 0) _ _ refl (either (is_space c) _ _ refl refl)
plan-calm mode.Text c e = either (c == 0) _ _ refl refl
plan-calm mode.InTable c e = refl
plan-calm mode.InTableText c e = refl
plan-calm mode.InCaption c e = refl
plan-calm mode.InTableBody c e = refl
plan-calm mode.InRow c e = refl
plan-calm mode.InCell c e = refl
plan-calm mode.InSelect c e = either (c == 0) _ _ refl refl
plan-calm mode.InSelectInTable c e = refl
plan-calm mode.InTemplate c e = refl
plan-calm mode.AfterBody c e = either (is_space c) _ _ refl refl
plan-calm mode.InFrameset c e = either (is_space c) _ _ refl refl
plan-calm mode.AfterFrameset c e = either (is_space c) _ _ refl refl
plan-calm mode.AfterAfterBody c e = either (is_space c) _ _ refl refl
plan-calm mode.AfterAfterFrameset c e = either (is_space c) _ _ refl refl
plan-calm _ c e = absurd (false≢true e)

runs-calm : (p : Plan) (c : ℕ) (t : TokenKind) (a : State) (e : Ending) (z : State) → t ≡ kind.Char c → calm p ≡ true → Runs plan p t a e z → IsCalm a → IsCalm z
runs-calm _ c _ _ _ _ s h (does w p t a b e z i j) k =
    let d = halves (calm_word w) (calm p) h in
    runs-calm p c t b e z s d.1 j (calm-becomes (after w t a) b i (word-calm w t a d.0 k))
runs-calm _ c _ _ _ _ s h (asks q p n t a b e z i j) k =
    let d = halves (calm p) (calm n) h in
    runs-calm (if answer q t a then p else n) c t b e z s (either (answer q t a) p n d.0 d.1) j (calm-becomes a b i k)
runs-calm _ c _ _ _ _ s h (reconstructs p t a b e z i m j) k = runs-calm p c t b e z s h j (calm-reopened a b i m k)
runs-calm _ c _ _ _ _ s h (adopts g p t a b e z i m j) k = absurd (false≢true h)
runs-calm _ c _ _ _ _ s h (closes_link p t a b e z i m j) k = absurd (false≢true h)
runs-calm _ c _ _ _ _ s h (fosters p t a b d e z i j m) k =
    let inside = runs-calm p c t b e d s h j (calm-becomes (record a { fostering = true }) b i (calm-moded a (record a { fostering = true }) k.steady refl k)) in
    calm-becomes (record d { fostering = false }) z m (calm-moded d (record d { fostering = false }) inside.steady refl inside)
runs-calm _ c _ _ _ _ s h (settles q p t a b e z i j) k = absurd (false≢true h)
runs-calm _ c _ _ _ _ s h (ends_each q p t a e z j) k = absurd (false≢true h)
runs-calm _ c _ _ _ _ s h (does_each d ds q p t a b e z i j) k = absurd (false≢true h)
runs-calm _ c _ _ _ _ s h (stops t a e z i) k = calm-becomes a z i k
runs-calm _ c _ _ _ _ s h (goes_by m t a e z j) k =
    runs-calm (plan m (symbol_of t)) c t a e z s (ap (λ y. calm (plan m (symbol_of y))) s ∙ plan-calm m c h) j k

-- CODE POINTS

some-none : (a : State) (g : Tag) (c : ℕ) → IsCalm a → around_foreign a (Char c) (kind.Char c) ≡ Some g → ⊥
some-none a g c k e = none-some g (sym (around-none a (Char c) (kind.Char c) (calm-home a k)) ∙ e)

way-calm : (o : _) (c : ℕ) (a z : State) → Way o (Char c) (kind.Char c) a z → IsCalm a → IsCalm z
way-calm o c a z (planned f) k = runs-calm (plan a.mode (Char c)) c (kind.Char c) a (ending o) z refl (plan-calm a.mode c k.steady) f k
way-calm o c a z (handed g n f) k = absurd (some-none a g c k n)
way-calm o c a z (dropped x n f) k = runs-calm (ignored x) c (kind.Char c) a (ending o) z refl refl f k
way-calm o c a z (strayed n f) k = runs-calm (Do (Switch mode.InBody) again) c (kind.Char c) a (ending o) z refl refl f k
way-calm o c a z (stayed g n f) k = absurd (some-none a g c k n)

entry-calm : (o : _) (c : ℕ) (a z : State) → IsEntry o (Char c) (kind.Char c) a z → IsCalm a → IsCalm z
entry-calm o c a z e k = way-calm o c a z (way o (Char c) (kind.Char c) a z e) k

settled-calm : (a : State) → IsCalm a → IsCalm (settled a)
settled-calm a k = calm-moded a (settled a) (by (is_unfounded a)) refl k
  where
    by : (b : Bool) → is_steady (cond b mode.InBody a.mode) ≡ true
    by true = refl
    by false = k.steady

entries-calm : (c : ℕ) (a z : State) → Entries (Char c) (kind.Char c) a z → IsCalm a → IsCalm z
entries-calm c _ _ (next a b d z i e j) k = entries-calm c d z j (entry-calm _ c b d e (calm-becomes a b i k))
entries-calm c _ _ (last a b d z i e r) k =
    subst (λ (v : State). IsCalm v) (sym r) (settled-calm d (entry-calm _ c b d e (calm-becomes a b i k)))

calm-begun : (a : State) → IsCalm a → IsCalm (begun a)
calm-begun a k = calm-moded a (begun a) k.steady refl k

begun-calm : (a : State) → IsCalm (begun a) → IsCalm a
begun-calm a k = calm-moded (begun a) a k.steady refl k

constructs-calm : (cs : List ℕ) (a z : State) → Constructs (chars_of cs) a z → IsCalm a → IsCalm z
constructs-calm [] a z e k = begun-calm z (subst (λ (v : State). IsCalm v) e (calm-begun a k))
constructs-calm (c ∷ cs) a z h k = constructs-calm cs h.0 z h.2 (entries-calm c (begun a) h.0 h.1 (calm-begun a k))

-- BUILDERS

-- none was made, and none is the context
pub stays-unknown : (b : BuilderState) → b.page.ledger.history.foreign ≡ false → StaysHtml b
stays-unknown b e text z h = ap (λ (f : Bool). if f then if_foreign (adjusted_tag z) else None) (constructs-known text b.page z h ∙ e)

steady-open : (m o : Mode) (s : List Tag) → is_steady m ≡ true → ModeFits m o s → 0 < length s
steady-open mode.Text o s e f = let k = f.0 in omega (arith, k)
steady-open mode.InTableText o s e f = f.0
steady-open mode.Initial o s e f = absurd (false≢true e)
steady-open mode.BeforeHtml o s e f = absurd (false≢true e)
steady-open _ o s e f = f

some-open : (t : Nodes) (s : List ℕ) → 0 < length (tags_down t s) → 0 < length s
some-open t [] h = absurd (omega (arith, h))
some-open t (x ∷ s) h = omega arith

pub stays-steady : (b : BuilderState) → IsSound b.page.tree → b.page.stack ≡ open_tags b.page.tree → Fits b.page → known b.page ≡ true → is_steady b.page.mode ≡ true → foreign_tag b.page ≡ None → StaysHtml b
stays-steady b w t f n m e text z h = calm-home z (constructs-calm text b.page z h (record {
  steady = m;
  opened = some-open b.page.tree.tree b.page.tree.stack (subst (λ gs. 0 < length gs) t (steady-open b.page.mode b.page.original b.page.stack m f.stack));
  html = ap (λ (x : Bool). if x then if_foreign (adjusted_tag b.page) else None) (sym n) ∙ e;
  listed = sound-listed b.page.tree.tree b.page.tree.list w.formatting;
}))

pub stays-none : (b : BuilderState) (r : Bool) → r ≡ true → b.page.ledger.history.foreign ≡ false → r ≡ stays_html b
stays-none b r e f = rw (e, f) refl

pub stays-some : (b : BuilderState) (r : Bool) → b.page.ledger.history.foreign ≡ true → r ≡ (not b.stopped && (is_steady b.page.mode && not (is_some (foreign_tag b.page)))) → r ≡ stays_html b
stays-some b r f e = e ∙ ap (λ (x : Bool). not x || (not b.stopped && (is_steady b.page.mode && not (is_some (foreign_tag b.page))))) (sym f)

pub ruleset stays_rules = (stays-unknown, stays-steady, stays-none, stays-some)

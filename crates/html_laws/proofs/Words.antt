-- What a word makes of a state, and what a question is answered, does not hang on what is counted.
use Rattle.std.proofs.Common.{◌≡◌, ℕ, ◌+◌, ◌-◌, ◌≤◌, Bool, true, false, cond, List, [], ◌∷◌, length, slice_index, Option, Some, None, refl, sym, ◌∙◌, ap, le_of_eq, le_refl, arith}
use Rattle.html_names.specs.declared.tag.Tag.TheVariants as tag
use Rattle.html_arena.specs.declared.data.NewNode.{NewNode}
use Rattle.html_arena.specs.Siblings.{first_of}
use Rattle.html_arena.specs.Tree.{Tree as Nodes, detached, parent_of, texted_run, with_merged}
use Rattle.html_tokens.specs.declared.token.TokenKind.{TokenKind}
use Rattle.html_ledger.specs.declared.fate.Fate.TheVariants.{Text}
use Rattle.html_ledger.specs.Entries.{given, number_of}
use Rattle.html_ledger.specs.Symbols.{symbol_of}
use Rattle.html_open.specs.AdoptFinding.{element_in_scope}
use Rattle.html_open.specs.Entries.{pushed}
use Rattle.html_open.specs.Lists.{up_to}
use Rattle.html_open.specs.Marking.{bare}
use Rattle.html_open.specs.Scopes.{stays}
use Rattle.html_open.specs.Placing.{get}
use Rattle.html_open.specs.declared.places.Place.{Place}
use Rattle.html_open.specs.declared.places.Place.TheVariants.{Last}
use Rattle.html_tree.specs.declared.groups.Target.TheVariants as target
use Rattle.html_tree.specs.Closing.{before_index, bodiless, cleared_to, closed_through, context_end, first_few, popped, remaining}
use Rattle.html_tree.specs.Searching.{found, found_name}
use Rattle.html_tree.specs.Inserting.{with_new, with_open}
use Rattle.html_tree.specs.States.{State as Tree}
use Rattle.html_tree.specs.Targets.{place_for}
use Rattle.html_tree.specs.Texts.{node_or_next, place_here, text_before, text_node, tree_or_new, with_text}
use Rattle.html_construction.specs.Calls.{comment_of, counting, doctype_of, element_of, foreign_of, form_closed, formless, implied_of, opened_at, root_of, void_of}
use Rattle.html_construction.specs.States.{State}
use Rattle.html_construction.specs.Tokens.{attrs_of, char_of, tag_name}
use Rattle.html_construction.specs.Words.{AddMarker, AreSpacesKept, AwaitsDoctype, Becomes, BeginOwnPart, CanPop, CanReplaceBody, ClearTo, ClearToMarker, CloseForm, CloseNamed, CloseThrough, ClosesItself, CollectsText, Drop, End, Enter, Finds, FramesetOff, HasBody, HasForm, HasSeat, HasTemplate, HasTemplateMode, Implied, Imply, ImplyHead, ImplyPart, ImplyRoot, ImplyVoid, Insert, InsertAt, InsertCharacter, InsertClosedForm, InsertComment, InsertCommentAt, InsertDoctype, InsertForeign, InsertForeignVoid, InsertForm, InsertHead, InsertListed, InsertPart, InsertReplacement, InsertRoot, InsertVoid, InsertVoidAt, IsCurrent, IsFragment, IsFramesetOk, IsHidden, IsInTable, IsLeadingNewline, IsNull, IsOptionInGroup, IsOutsideColumnGroup, IsPrologSpace, IsQuirks, IsRootAlone, Keep, Leave, MayMisplace, MergeIntoBody, MergeIntoRoot, ParsesForeign, Pop, PopTemplate, PushTemplate, Query, Quirks, ReplaceBody, Reset, SetsQuirks, Switch, Word, after, answer, making, merging}
use Rattle.html_laws.specs.Outcomes.{AreOnce, IsOnce}
use Rattle.html_laws.specs.Likeness.{core, uncounted, uncounted_tree}
use Rattle.html_laws.proofs.Nodes.{detached-core, detached-long, merged-long, new-core, new-longer, text-before-core, text-core, text-longer}
use Rattle.html_laws.proofs.Stacks.{IsPart, once-more, once-part, part-before, part-few, part-remaining, part-self, part-then, part-up_to}

-- a state with other nodes
abbrev with_nodes : State → Nodes → State
with_nodes a u = record a { tree = record a.tree { tree = u } }

-- a state with another tree
abbrev with_whole : State → Tree → State
with_whole a u = record a { tree = u }

placed : (c : State) (t : Nodes) (at : Place) (n : NewNode) → with_nodes c (uncounted (with_new (uncounted t) at n)) ≡ with_nodes c (uncounted (with_new t at n))
placed c t at n = ap (with_nodes c) (new-core t at n)

-- the same of an element that is listed, and of one that is put where a body was
module _ (t : TokenKind) (a : State) where
  abbrev with_listed : Nodes → State
  with_listed v = record (core (after InsertListed t a)) { tree = record (core (after InsertListed t a)).tree { list = pushed v (length a.tree.tree.labels) a.tree.list; tree = uncounted v } }

  abbrev with_bodiless : Nodes → State
  with_bodiless v = core (making (opened_at (element_of a t) target.First (counting (number_of a.ledger + 1) (record (bodiless a.tree) { tree = v }))) t a)

  listed-core : core (after InsertListed t (core a)) ≡ core (after InsertListed t a)
  listed-core = ap with_listed (new-core a.tree.tree (place_for a.tree (target.Current a.fostering)) (element_of a t))

  abbrev body : ℕ
  body = slice_index a.tree.stack 1

  bodiless-core : (v : Nodes) → with_bodiless (uncounted v) ≡ with_bodiless v
  bodiless-core v = placed (with_bodiless v) v (Last (get (first_of (first_few 1 a.tree.stack)) 0)) (element_of a t)

  replaced-core : core (after ReplaceBody t (core a)) ≡ core (after ReplaceBody t a)
  replaced-core =
      let v = detached (uncounted a.tree.tree) body (parent_of a.tree.tree body) in
      let u = detached a.tree.tree body (parent_of a.tree.tree body) in
      sym (bodiless-core (bare v)) ∙ ap with_bodiless (detached-core a.tree.tree body (parent_of a.tree.tree body)) ∙ bodiless-core (bare u)

-- text is inserted
module _ (t : TokenKind) (a : State) where
  abbrev here : Place
  here = place_here a.tree a.fostering

  abbrev with_run : List ℕ → Option ℕ → Nodes → State
  with_run run o v = record (core a) {
    tree = record (core a).tree { tree = uncounted (texted_run (tree_or_new v here o) (node_or_next a.tree.tree o) run) };
    ledger = record (given a.ledger (symbol_of t) (Text (node_or_next a.tree.tree o))) { errors = [] };
  }

  abbrev with_text_in : List ℕ → State → State
  with_text_in run b = record b { tree = record b.tree { tree = with_text b.tree b.fostering run }; ledger = given b.ledger (symbol_of t) (Text (text_node b.tree b.fostering)) }

  run-core : (run : List ℕ) → core (with_text_in run (core a)) ≡ core (with_text_in run a)
  run-core run =
      let o = text_before a.tree.tree here in
      ap (λ v. with_run run v (uncounted a.tree.tree)) (text-before-core a.tree.tree here)
      ∙ ap (λ u. record (with_run run o a.tree.tree) { tree = record (core a).tree { tree = u } }) (text-core a.tree.tree here o (node_or_next a.tree.tree o) run)

form-by : (b : Bool) (s : List ℕ) (u : Tree) → uncounted_tree (cond b (record (formless (uncounted_tree u)) { stack = s }) (formless (uncounted_tree u))) ≡ uncounted_tree (cond b (record (formless u) { stack = s }) (formless u))
form-by true s u = refl
form-by false s u = refl

form-core : (u : Tree) (o : Option ℕ) → uncounted_tree (form_closed (uncounted_tree u) o) ≡ uncounted_tree (form_closed u o)
form-core u None = refl
form-core u (Some x) = form-by (element_in_scope u.tree x u.stack) (remaining x (up_to (stays u.tree None) u.stack)) u

pub word-core : (w : Word) (t : TokenKind) (a : State) → core (after w t (core a)) ≡ core (after w t a)
word-core (ClearTo c) t a = refl
word-core Pop t a = refl
word-core (CloseThrough g e) t a = refl
word-core CloseNamed t a = refl
word-core (Implied except) t a = refl
word-core AddMarker t a = refl
word-core ClearToMarker t a = refl
word-core Insert t a = placed (core (after Insert t a)) a.tree.tree (place_for a.tree (target.Current a.fostering)) (element_of a t)
word-core (InsertAt g) t a = placed (core (after (InsertAt g) t a)) a.tree.tree (place_for a.tree g) (element_of a t)
word-core InsertPart t a = placed (core (after InsertPart t a)) a.tree.tree (place_for a.tree (target.Current false)) (element_of a t)
word-core (InsertVoid n) t a = placed (core (after (InsertVoid n) t a)) a.tree.tree (place_for a.tree (target.Current a.fostering)) (void_of a n t)
word-core (InsertVoidAt n g) t a = placed (core (after (InsertVoidAt n g) t a)) a.tree.tree (place_for a.tree g) (void_of a n t)
word-core InsertListed t a = listed-core t a
word-core InsertHead t a = placed (core (after InsertHead t a)) a.tree.tree (place_for a.tree (target.Current a.fostering)) (element_of a t)
word-core InsertForm t a = placed (core (after InsertForm t a)) a.tree.tree (place_for a.tree (target.Current a.fostering)) (element_of a t)
word-core InsertClosedForm t a = placed (core (after InsertClosedForm t a)) a.tree.tree (place_for a.tree (target.Current a.fostering)) (void_of a tag.Form t)
word-core CloseForm t a = ap (with_whole (core (after CloseForm t a))) (form-core a.tree a.tree.form)
word-core ReplaceBody t a = replaced-core t a
word-core InsertRoot t a = placed (core (after InsertRoot t a)) a.tree.tree (place_for a.tree target.Document) (root_of a t)
word-core (Imply n) t a = placed (core (after (Imply n) t a)) a.tree.tree (place_for a.tree (target.Current a.fostering)) (implied_of n)
word-core (ImplyPart n) t a = placed (core (after (ImplyPart n) t a)) a.tree.tree (place_for a.tree (target.Current false)) (implied_of n)
word-core (ImplyVoid n) t a = placed (core (after (ImplyVoid n) t a)) a.tree.tree (place_for a.tree (target.Current a.fostering)) (implied_of n)
word-core ImplyHead t a = placed (core (after ImplyHead t a)) a.tree.tree (place_for a.tree (target.Current a.fostering)) (implied_of tag.Head)
word-core ImplyRoot t a = placed (core (after ImplyRoot t a)) a.tree.tree (place_for a.tree target.Document) (implied_of tag.Html)
word-core InsertComment t a = placed (core (after InsertComment t a)) a.tree.tree (place_for a.tree (target.Current a.fostering)) (comment_of a t)
word-core (InsertCommentAt g) t a = placed (core (after (InsertCommentAt g) t a)) a.tree.tree (place_for a.tree g) (comment_of a t)
word-core InsertDoctype t a = placed (core (after InsertDoctype t a)) a.tree.tree (place_for a.tree target.Document) (doctype_of a t)
word-core InsertCharacter t a = run-core t a (char_of t)
word-core InsertReplacement t a = run-core t a (65533 ∷ [])
word-core MergeIntoRoot t a = refl
word-core MergeIntoBody t a = refl
word-core (Drop cause) t a = refl
word-core End t a = refl
word-core (Switch m) t a = refl
word-core (Enter m) t a = refl
word-core Leave t a = refl
word-core FramesetOff t a = refl
word-core (Quirks q) t a = refl
word-core Reset t a = refl
word-core (PushTemplate m) t a = refl
word-core PopTemplate t a = refl
word-core (InsertForeign s) t a = placed (core (after (InsertForeign s) t a)) a.tree.tree (place_for a.tree (target.Current a.fostering)) (foreign_of a s t)
word-core (InsertForeignVoid s) t a = placed (core (after (InsertForeignVoid s) t a)) a.tree.tree (place_for a.tree (target.Current a.fostering)) (foreign_of a s t)
word-core Keep t a = refl
word-core BeginOwnPart t a = refl

pub answer-core : (q : Query) (t : TokenKind) (a : State) → answer q t (core a) ≡ answer q t a
answer-core (Finds g e) t a = refl
answer-core (IsCurrent g) t a = refl
answer-core (CanPop g) t a = refl
answer-core IsOptionInGroup t a = refl
answer-core (HasSeat n) t a = refl
answer-core HasTemplate t a = refl
answer-core IsFragment t a = refl
answer-core IsRootAlone t a = refl
answer-core IsFramesetOk t a = refl
answer-core IsQuirks t a = refl
answer-core HasTemplateMode t a = refl
answer-core AwaitsDoctype t a = refl
answer-core HasForm t a = refl
answer-core HasBody t a = refl
answer-core CanReplaceBody t a = refl
answer-core (MayMisplace n) t a = refl
answer-core IsOutsideColumnGroup t a = refl
answer-core SetsQuirks t a = refl
answer-core IsHidden t a = refl
answer-core ClosesItself t a = refl
answer-core IsInTable t a = refl
answer-core CollectsText t a = refl
answer-core AreSpacesKept t a = refl
answer-core IsNull t a = refl
answer-core IsPrologSpace t a = refl
answer-core IsLeadingNewline t a = refl
answer-core ParsesForeign t a = refl

pub word-one : (w : Word) (t : TokenKind) (a b : State) → core a ≡ core b → core (after w t a) ≡ core (after w t b)
word-one w t a b e = sym (word-core w t a) ∙ ap (λ v. core (after w t v)) e ∙ word-core w t b

pub answer-one : (q : Query) (t : TokenKind) (a b : State) → core a ≡ core b → answer q t a ≡ answer q t b
answer-one q t a b e = sym (answer-core q t a) ∙ ap (answer q t) e ∙ answer-core q t b

pub becomes-core : (m b : State) → Becomes m b → core b ≡ core m
becomes-core m b k = ap core k.state_is

-- NO NODE STANDS TWICE ON THE STACK

opened-once : (u : Tree) (at : Place) (n : NewNode) → IsOnce u → AreOnce (length (with_new u.tree at n).labels) (with_open u)
opened-once u at n o = once-part (length u.tree.labels + 1) _ (with_open u) (with_open u) (new-longer u.tree at n) (part-self (with_open u)) (once-more (length u.tree.labels) u.stack o)

longer-once : (u : Tree) (v : Nodes) → length u.tree.labels ≤ length v.labels → IsOnce u → AreOnce (length v.labels) u.stack
longer-once u v l o = once-part _ _ u.stack u.stack l (part-self u.stack) o

placed-once : (u : Tree) (at : Place) (n : NewNode) → IsOnce u → AreOnce (length (with_new u.tree at n).labels) u.stack
placed-once u at n o = longer-once u (with_new u.tree at n) (let l = new-longer u.tree at n in omega (arith, l)) o

fewer-once : (u : Tree) (s : List ℕ) → IsPart s u.stack → IsOnce u → AreOnce (length u.tree.labels) s
fewer-once u s k o = once-part _ _ s u.stack (le_refl _) k o

form-once-by : (b : Bool) (s : List ℕ) (u : Tree) → IsPart s u.stack → IsOnce u → IsOnce (cond b (record (formless u) { stack = s }) (formless u))
form-once-by true s u k o = fewer-once u s k o
form-once-by false s u k o = o

form-once : (u : Tree) (x : Option ℕ) → IsOnce u → IsOnce (form_closed u x)
form-once u None o = o
form-once u (Some x) o =
    let s = up_to (stays u.tree None) u.stack in
    form-once-by (element_in_scope u.tree x u.stack) (remaining x s) u (part-then (remaining x s) s u.stack (part-remaining x s) (part-up_to (stays u.tree None) u.stack)) o

body-once : (u : Tree) → IsOnce u → IsOnce (bodiless u)
body-once u o = once-part _ _ (first_few 1 u.stack) u.stack (le_of_eq (sym (detached-long u.tree (slice_index u.stack 1) (parent_of u.tree (slice_index u.stack 1))))) (part-few 1 u.stack) o

merged-once : (i : ℕ) (t : TokenKind) (a : State) → IsOnce a.tree → IsOnce (merging i t a).tree
merged-once i t a o = longer-once a.tree (with_merged a.tree.tree (slice_index a.tree.stack i) (attrs_of t)) (le_of_eq (sym (merged-long a.tree.tree (slice_index a.tree.stack i) (attrs_of t)))) o

pub word-once : (w : Word) (t : TokenKind) (a : State) → IsOnce a.tree → IsOnce (after w t a).tree
word-once (ClearTo c) t a o = fewer-once a.tree (cleared_to a.tree c) (part-few (context_end a.tree c) a.tree.stack) o
word-once Pop t a o = fewer-once a.tree (popped a.tree.stack) (part-few (length a.tree.stack - 1) a.tree.stack) o
word-once (CloseThrough g e) t a o = fewer-once a.tree (closed_through a.tree g e) (part-before (found a.tree g e) a.tree.stack) o
word-once CloseNamed t a o = fewer-once a.tree (before_index (found_name a.tree (tag_name t)) a.tree.stack) (part-before (found_name a.tree (tag_name t)) a.tree.stack) o
word-once (Implied except) t a o = fewer-once a.tree (up_to (stays a.tree.tree except) a.tree.stack) (part-up_to (stays a.tree.tree except) a.tree.stack) o
word-once AddMarker t a o = o
word-once ClearToMarker t a o = o
word-once Insert t a o = opened-once a.tree (place_for a.tree (target.Current a.fostering)) (element_of a t) o
word-once (InsertAt g) t a o = opened-once a.tree (place_for a.tree g) (element_of a t) o
word-once InsertPart t a o = opened-once a.tree (place_for a.tree (target.Current false)) (element_of a t) o
word-once (InsertVoid n) t a o = placed-once a.tree (place_for a.tree (target.Current a.fostering)) (void_of a n t) o
word-once (InsertVoidAt n g) t a o = placed-once a.tree (place_for a.tree g) (void_of a n t) o
word-once InsertListed t a o = opened-once a.tree (place_for a.tree (target.Current a.fostering)) (element_of a t) o
word-once InsertHead t a o = opened-once a.tree (place_for a.tree (target.Current a.fostering)) (element_of a t) o
word-once InsertForm t a o = opened-once a.tree (place_for a.tree (target.Current a.fostering)) (element_of a t) o
word-once InsertClosedForm t a o = placed-once a.tree (place_for a.tree (target.Current a.fostering)) (void_of a tag.Form t) o
word-once CloseForm t a o = form-once a.tree a.tree.form o
word-once ReplaceBody t a o = opened-once (bodiless a.tree) (place_for (bodiless a.tree) target.First) (element_of a t) (body-once a.tree o)
word-once InsertRoot t a o = opened-once a.tree (place_for a.tree target.Document) (root_of a t) o
word-once (Imply n) t a o = opened-once a.tree (place_for a.tree (target.Current a.fostering)) (implied_of n) o
word-once (ImplyPart n) t a o = opened-once a.tree (place_for a.tree (target.Current false)) (implied_of n) o
word-once (ImplyVoid n) t a o = placed-once a.tree (place_for a.tree (target.Current a.fostering)) (implied_of n) o
word-once ImplyHead t a o = opened-once a.tree (place_for a.tree (target.Current a.fostering)) (implied_of tag.Head) o
word-once ImplyRoot t a o = opened-once a.tree (place_for a.tree target.Document) (implied_of tag.Html) o
word-once InsertComment t a o = placed-once a.tree (place_for a.tree (target.Current a.fostering)) (comment_of a t) o
word-once (InsertCommentAt g) t a o = placed-once a.tree (place_for a.tree g) (comment_of a t) o
word-once InsertDoctype t a o = placed-once a.tree (place_for a.tree target.Document) (doctype_of a t) o
word-once InsertCharacter t a o = longer-once a.tree (with_text a.tree a.fostering (char_of t)) (text-longer a.tree.tree (place_here a.tree a.fostering) (text_before a.tree.tree (place_here a.tree a.fostering)) (text_node a.tree a.fostering) (char_of t)) o
word-once InsertReplacement t a o = longer-once a.tree (with_text a.tree a.fostering (65533 ∷ [])) (text-longer a.tree.tree (place_here a.tree a.fostering) (text_before a.tree.tree (place_here a.tree a.fostering)) (text_node a.tree a.fostering) (65533 ∷ [])) o
word-once MergeIntoRoot t a o = merged-once 0 t a o
word-once MergeIntoBody t a o = merged-once 1 t a o
word-once (Drop cause) t a o = o
word-once End t a o = o
word-once (Switch m) t a o = o
word-once (Enter m) t a o = o
word-once Leave t a o = o
word-once FramesetOff t a o = o
word-once (Quirks q) t a o = o
word-once Reset t a o = o
word-once (PushTemplate m) t a o = o
word-once PopTemplate t a o = o
word-once (InsertForeign s) t a o = opened-once a.tree (place_for a.tree (target.Current a.fostering)) (foreign_of a s t) o
word-once (InsertForeignVoid s) t a o = placed-once a.tree (place_for a.tree (target.Current a.fostering)) (foreign_of a s t) o
word-once Keep t a o = o
word-once BeginOwnPart t a o = o

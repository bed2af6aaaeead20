-- What a view says of a state where the body is open, or a template before it; and how words change it.
use Rattle.html_arena.specs.declared.data.Origin.TheVariants.{Implied as Unasked, Token}
use Rattle.html_ledger.specs.Entries.{number_of}
use Rattle.html_tree.specs.declared.groups.Target.TheVariants as target
use Rattle.html_tree.specs.Targets.{place_for}
use Rattle.std.specs.Prelude.{slice_get}
use Rattle.std.proofs.Common.{◌≡◌, ◌≤◌, ℕ, Bool, true, false, not, cond, eqb, ◌&&◌, ◌||◌, List, [], ◌∷◌, ◌++◌, get_or, length, Option, Some, None, is_some, inl, inr, refl, sym, ◌∙◌, ap, subst, arith}
use Rattle.std.specs.List.{list_all, list_any}
use Rattle.std.proofs.lemmas.Bool.{false≢true}
use Rattle.html_names.specs.declared.sets.Scope.TheVariants as scope
use Rattle.html_names.specs.declared.tag.Tag.{Tag}
use Rattle.html_names.specs.declared.tag.Tag.TheVariants as tag
use Rattle.html_names.specs.Groups.{is_definition, is_table_part}
use Rattle.html_names.specs.Names.{name_of, tag_of}
use Rattle.html_names.specs.Sets.{ends_scope, is_cell, is_formatting, is_heading, is_implied, is_row_context, is_section, is_section_context, is_special, is_table_context, is_template}
use Rattle.html_names.specs.Tags.{is_same}
use Rattle.html_arena.specs.Siblings.{has, last_of}
use Rattle.html_arena.specs.Tree.{Tree as Nodes, tag_at}
use Rattle.html_tokens.specs.declared.token.TokenKind.{TokenKind}
use Rattle.html_tokens.specs.declared.token.TokenKind.TheVariants as kind
use Rattle.html_ledger.specs.declared.symbol.Symbol.{Symbol}
use Rattle.html_ledger.specs.Symbols.{ends, starts, symbol_of}
use Rattle.html_open.specs.AdoptFinding.{element_in_scope}
use Rattle.html_open.specs.Lists.{above, last_index, up_to}
use Rattle.html_open.specs.Scopes.{stays, tag_stays}
use Rattle.html_open.proofs.Keeps.{cases_eqb}
use Rattle.html_open.proofs.Lists.{above-push, any-push}
use Rattle.html_tree.specs.declared.groups.Group.{Group}
use Rattle.html_tree.specs.declared.groups.Group.TheVariants as group
use Rattle.html_tree.specs.declared.groups.Stop.{Stop as Ends}
use Rattle.html_tree.specs.declared.groups.Stop.TheVariants as stop
use Rattle.html_tree.specs.declared.groups.TableContext.{TableContext}
use Rattle.html_tree.specs.declared.groups.TableContext.TheVariants as context
use Rattle.html_tree.specs.Closing.{before_index, closed_through, popped, remaining}
use Rattle.html_tree.specs.Groups.{in_group, is_context, is_stop}
use Rattle.html_tree.specs.OpenTags.{open_tags, tags_down}
use Rattle.html_tree.specs.Seats.{seat_at, sits_on}
use Rattle.html_tree.specs.Searching.{context_at, found_name, has_name, index_before, is_member, is_special_at, stops}
use Rattle.html_tree.specs.States.{State as Tree}
use Rattle.html_tree.proofs.OpenTags.{first-tag, push-tags}
use Rattle.html_construction.specs.declared.mode.Mode.{Mode}
use Rattle.html_construction.specs.Calls.{form_closed, formless}
use Rattle.html_construction.specs.States.{State}
use Rattle.html_construction.specs.Tokens.{attrs_of, tag_name}
use Rattle.html_construction.specs.Words.{AddMarker, ClearTo, ClearToMarker, CloseForm, CloseNamed, CloseThrough, Drop, Enter, FramesetOff, Implied, Imply, ImplyHead, ImplyPart, ImplyRoot, Insert, InsertAt, InsertCharacter, InsertForeign, InsertForeignVoid, InsertForm, InsertHead, InsertListed, InsertPart, InsertRoot, InsertVoidAt, Leave, Pop, PopTemplate, PushTemplate, Quirks, ReplaceBody, Reset, Switch, Word, after}
use Rattle.html_laws.proofs.Tags.{of-all}
use Rattle.html_construction.proofs.Weighing.{same-tag}
use Rattle.html_laws.proofs.Chains.{both, cases, either, formatting-plain, is_bound, is_frame, is_part, is_plain, is_under, join, left, neither, not-true, plain-light, right, under-carries}
use Rattle.html_laws.proofs.Cuts.{HasCut, any-tags, before-cut, few-cleared, popped-tags, up-to-cleared}
use Rattle.html_laws.proofs.Faces.{Adds, Face, element-adds, element_face, rest_faces, kept-tags, new-face}
use Rattle.html_laws.proofs.Insides.{Anything, Footing, IsInside, Need, Rows, Sections, Tables, Templates, asks_nothing, inside-any, inside-as, inside-cleared, inside-closed, inside-common, inside-cut, inside-drop, inside-first, inside-frame, inside-lights, inside-more, inside-part, inside-serves, inside-under, is_foot, is_need, on_body, on_head, on_template, plain-foot}
use Rattle.html_laws.proofs.Grounds.{Ground, Step, bodies, grows, is_other_implied, of_name, spares, start-name, step-bodies, step-ground, word-step}
use Rattle.html_laws.proofs.Judging.{Bare, Found, Know, Made, Nothing, Of, On, Plain, Seat, Top, View, cleared_need, entered, finds, finds_near, is_bounded, is_caption, is_cells, is_closable, is_insertable, is_other_end, is_plain_group, is_poppable, is_seated, is_tables, lasting, may, moved, need_of, plainly, popped_need, same_group, serves, stop_number, suffices, top_of, waits}
use Rattle.html_laws.proofs.Moving.{cut-left, inside-remaining, inside-top, named-tag}

-- WHAT IS KNOWN

abbrev pub found_at : Nodes → List ℕ → Group → Ends → Option ℕ
found_at t s g e = index_before (is_member t g) (stops t e) s

-- of a stack of open elements, where a template was made or not
abbrev pub Knows : Know → List ℕ → Nodes → Bool → Type 0
Knows Nothing s t h = Unit {0}
Knows (Top g) s t h = (rest : List Tag) × (tags_down t s ≡ g ∷ rest)
Knows Plain s t h = (g : Tag) × (rest : List Tag) × (tags_down t s ≡ g ∷ rest) × (is_plain g ≡ true)
Knows (Of k) s t h = (g : Tag) × (rest : List Tag) × (tags_down t s ≡ g ∷ rest) × (in_group k g ≡ true)
Knows (On c) s t h = (g : Tag) × (rest : List Tag) × (tags_down t s ≡ g ∷ rest) × (is_context c g ≡ true) × (is_same g tag.Html ≡ false)
Knows (Seat g) s t h = seat_at t g (last_of s) ≡ true
Knows (Found g e) s t h = is_some (found_at t s g e) ≡ true
Knows Made s t h = h ≡ true
Knows Bare s t h = (h && is_some (found_at t s (group.Named tag.Template) stop.Never)) ≡ false

-- The view is true of the state.
pub record Models (s : View) (a : State) : Type 0 where
  pub hook : Tag
  pub low : List Tag
  pub foot : Footing hook low
  pub inside : IsInside s.need hook low (open_tags a.tree)
  pub knows : Knows s.know a.tree.stack a.tree.tree a.ledger.history.template
  pub mode_is : a.mode ≡ s.mode
  pub original_is : waits s.mode ≡ true → a.original ≡ s.original
  pub ground : Ground a
  pub few : bodies a ≤ 1
  pub before : is_template hook ≡ true → (bodies a ≡ 0) × (a.ledger.history.template ≡ true)

-- after a step that makes no body
pub models-by : (s k : View) (a b : State) (m : Models s a) → Step true a b → IsInside k.need m.hook m.low (open_tags b.tree) → Knows k.know b.tree.stack b.tree.tree b.ledger.history.template → b.mode ≡ k.mode
    → (waits k.mode ≡ true → b.original ≡ k.original) → Models k b
models-by s k a b m t i n e o = record {
  hook = m.hook;
  low = m.low;
  foot = m.foot;
  inside = i;
  knows = n;
  mode_is = e;
  original_is = o;
  ground = step-ground true a b t m.ground;
  few = (let p = step-bodies a b t in let q = m.few in omega (arith, p, q));
  before = λ h. (step-bodies a b t ∙ (m.before h).0, t.made (m.before h).1);
}

-- the tags of what stays open
pub step-tags : (q : Bool) (a b : State) → Step q a b → Ground a → (s : List ℕ) → ((x : ℕ) → has x s ≡ true → has x a.tree.stack ≡ true) → tags_down b.tree.tree s ≡ tags_down a.tree.tree s
step-tags q a b t g s f = kept-tags a.tree.tree b.tree.tree t.added s t.adds (λ x k. g.held.stacked x (f x k))

pub imply : (a b : Bool) → (not a || b) ≡ true → a ≡ true → b ≡ true
imply true b e h = e
imply false b e h = absurd (false≢true h)

-- SETS

need-context : (f : Need) (c : TableContext) → suffices f (cleared_need c) ≡ true → (asks_nothing f ≡ false) × ((h : Tag) → is_need f h ≡ true → is_context c h ≡ true)
need-context Anything context.Table e = absurd (false≢true e)
need-context Anything context.Body e = absurd (false≢true e)
need-context Anything context.Row e = absurd (false≢true e)
need-context Tables context.Table e = (refl, λ h k. imply (is_need Tables h) (is_table_context h) (of-all (λ v. not (is_need Tables v) || is_table_context v) refl h) k)
need-context Tables context.Body e = absurd (false≢true e)
need-context Tables context.Row e = absurd (false≢true e)
need-context Sections context.Table e = absurd (false≢true e)
need-context Sections context.Body e = (refl, λ h k. imply (is_need Sections h) (is_section_context h) (of-all (λ v. not (is_need Sections v) || is_section_context v) refl h) k)
need-context Sections context.Row e = absurd (false≢true e)
need-context Rows context.Table e = absurd (false≢true e)
need-context Rows context.Body e = absurd (false≢true e)
need-context Rows context.Row e = (refl, λ h k. imply (is_need Rows h) (is_row_context h) (of-all (λ v. not (is_need Rows v) || is_row_context v) refl h) k)
need-context Templates context.Table e = (refl, λ h k. imply (is_template h) (is_table_context h) (of-all (λ v. not (is_template v) || is_table_context v) refl h) k)
need-context Templates context.Body e = (refl, λ h k. imply (is_template h) (is_section_context h) (of-all (λ v. not (is_template v) || is_section_context v) refl h) k)
need-context Templates context.Row e = (refl, λ h k. imply (is_template h) (is_row_context h) (of-all (λ v. not (is_template v) || is_row_context v) refl h) k)

context-frame : (c : TableContext) → (is_context c tag.Body ≡ false) × (is_context c tag.Head ≡ false)
context-frame context.Table = (refl, refl)
context-frame context.Body = (refl, refl)
context-frame context.Row = (refl, refl)

suffices-need : (f k : Need) → suffices f k ≡ true → (asks_nothing f ≡ true → asks_nothing k ≡ true) × ((g : Tag) → is_need f g ≡ true → (asks_nothing k || is_need k g) ≡ true)
suffices-need Anything Anything e = (λ h. refl, λ g h. refl)
suffices-need Tables Anything e = (λ h. refl, λ g h. refl)
suffices-need Sections Anything e = (λ h. refl, λ g h. refl)
suffices-need Rows Anything e = (λ h. refl, λ g h. refl)
suffices-need Templates Anything e = (λ h. refl, λ g h. refl)
suffices-need Templates Tables e = (λ h. absurd (false≢true h), λ g h. right (is_same g tag.Table) (is_template g) h)
suffices-need Templates Sections e = (λ h. absurd (false≢true h), λ g h. right (is_section g) (is_template g) h)
suffices-need Templates Rows e = (λ h. absurd (false≢true h), λ g h. right (is_same g tag.Tr) (is_template g) h)
suffices-need Templates Templates e = (λ h. absurd (false≢true h), λ g h. h)
suffices-need Tables Tables e = (λ h. absurd (false≢true h), λ g h. h)
suffices-need Sections Sections e = (λ h. absurd (false≢true h), λ g h. h)
suffices-need Rows Rows e = (λ h. absurd (false≢true h), λ g h. h)
suffices-need Anything Tables e = absurd (false≢true e)
suffices-need Anything Sections e = absurd (false≢true e)
suffices-need Anything Rows e = absurd (false≢true e)
suffices-need Anything Templates e = absurd (false≢true e)
suffices-need Tables Sections e = absurd (false≢true e)
suffices-need Tables Rows e = absurd (false≢true e)
suffices-need Tables Templates e = absurd (false≢true e)
suffices-need Sections Tables e = absurd (false≢true e)
suffices-need Sections Rows e = absurd (false≢true e)
suffices-need Sections Templates e = absurd (false≢true e)
suffices-need Rows Tables e = absurd (false≢true e)
suffices-need Rows Sections e = absurd (false≢true e)
suffices-need Rows Templates e = absurd (false≢true e)

pub inside-enough : (f k : Need) (hook : Tag) (low tags : List Tag) → suffices f k ≡ true → IsInside f hook low tags → IsInside k hook low tags
inside-enough f k hook low tags e i = (let w = suffices-need f k e in inside-as f k hook low tags w.0 w.1 i)

-- whatever is asked for
inside-free : (f : Need) (hook : Tag) (low tags : List Tag) → IsInside f hook low tags → IsInside Anything hook low tags
inside-free f hook low tags i = record { upper = i.upper; tags_are = i.tags_are; chained = i.chained; holds = refl }

group-plain : (g : Group) (h : Tag) → is_plain_group g ≡ true → in_group g h ≡ true → (is_formatting h ≡ false) × (is_plain h ≡ true)
group-plain (group.Named g) h p k =
    let c = both (is_plain g) (not (is_formatting g)) p in
    let e = same-tag h g k in
    (ap is_formatting e ∙ not-true (is_formatting g) c.1, ap is_plain e ∙ c.0)
group-plain group.Heading h p k = (not-true (is_formatting h) (imply (is_heading h) (not (is_formatting h)) (of-all (λ v. not (is_heading v) || not (is_formatting v)) refl h) k), imply (is_heading h) (is_plain h) (of-all (λ v. not (is_heading v) || is_plain v) refl h) k)
group-plain group.Definition h p k = (not-true (is_formatting h) (imply (is_definition h) (not (is_formatting h)) (of-all (λ v. not (is_definition v) || not (is_formatting v)) refl h) k), imply (is_definition h) (is_plain h) (of-all (λ v. not (is_definition v) || is_plain v) refl h) k)
group-plain group.Section h p k = absurd (false≢true p)
group-plain group.Cell h p k = absurd (false≢true p)

-- what ends such a search
bounded-stop : (e : Ends) (h : Tag) → is_bounded e ≡ true → is_stop e h ≡ false → is_bound h ≡ false
bounded-stop stop.Never h b n = absurd (false≢true b)
bounded-stop stop.PastItem h b n = elim (cases (is_bound h)) [ inr x ↦ x | inl x ↦ absurd (false≢true (sym n ∙ imply (is_bound h) (is_stop stop.PastItem h) (of-all (λ v. not (is_bound v) || is_stop stop.PastItem v) refl h) x)) ]
bounded-stop (stop.EndOf s) h b n = elim (cases (is_bound h)) [ inr x ↦ x | inl x ↦ absurd (false≢true (sym n ∙ imply (is_bound h) (ends_scope s h) (all s h) x)) ]
  where
    all : (s : _) (h : Tag) → (not (is_bound h) || ends_scope s h) ≡ true
    all scope.Default h = of-all (λ v. not (is_bound v) || ends_scope scope.Default v) refl h
    all scope.ListItem h = of-all (λ v. not (is_bound v) || ends_scope scope.ListItem v) refl h
    all scope.Button h = of-all (λ v. not (is_bound v) || ends_scope scope.Button v) refl h
    all scope.Table h = of-all (λ v. not (is_bound v) || ends_scope scope.Table v) refl h
    all scope.Select h = of-all (λ v. not (is_bound v) || ends_scope scope.Select v) refl h

bounded-stops : (e : Ends) (us : List Tag) → is_bounded e ≡ true → list_any (is_stop e) us ≡ false → list_any is_bound us ≡ false
bounded-stops e [] b n = refl
bounded-stops e (u ∷ us) b n = (let c = neither (is_stop e u) (list_any (is_stop e) us) n in rw (bounded-stop e u b c.0, bounded-stops e us b c.1) refl)

pub same-group : (g h : Group) → same_group g h ≡ true → g ≡ h
same-group (group.Named g) (group.Named h) e = ap group.Named (same-tag g h e)
same-group group.Heading group.Heading e = refl
same-group group.Section group.Section e = refl
same-group group.Cell group.Cell e = refl
same-group group.Definition group.Definition e = refl
same-group (group.Named g) group.Heading e = absurd (false≢true e)
same-group (group.Named g) group.Section e = absurd (false≢true e)
same-group (group.Named g) group.Cell e = absurd (false≢true e)
same-group (group.Named g) group.Definition e = absurd (false≢true e)
same-group group.Heading (group.Named h) e = absurd (false≢true e)
same-group group.Heading group.Section e = absurd (false≢true e)
same-group group.Heading group.Cell e = absurd (false≢true e)
same-group group.Heading group.Definition e = absurd (false≢true e)
same-group group.Section (group.Named h) e = absurd (false≢true e)
same-group group.Section group.Heading e = absurd (false≢true e)
same-group group.Section group.Cell e = absurd (false≢true e)
same-group group.Section group.Definition e = absurd (false≢true e)
same-group group.Cell (group.Named h) e = absurd (false≢true e)
same-group group.Cell group.Heading e = absurd (false≢true e)
same-group group.Cell group.Section e = absurd (false≢true e)
same-group group.Cell group.Definition e = absurd (false≢true e)
same-group group.Definition (group.Named h) e = absurd (false≢true e)
same-group group.Definition group.Heading e = absurd (false≢true e)
same-group group.Definition group.Section e = absurd (false≢true e)
same-group group.Definition group.Cell e = absurd (false≢true e)

abbrev all_stops : List Ends
all_stops = stop.Never ∷ stop.PastItem ∷ stop.EndOf scope.Default ∷ stop.EndOf scope.ListItem ∷ stop.EndOf scope.Button ∷ stop.EndOf scope.Table ∷ stop.EndOf scope.Select ∷ []

abbrev stop_at : ℕ → Ends
stop_at n = get_or all_stops n stop.Never

numbered : (e : Ends) → stop_at (stop_number e) ≡ e
numbered stop.Never = refl
numbered stop.PastItem = refl
numbered (stop.EndOf scope.Default) = refl
numbered (stop.EndOf scope.ListItem) = refl
numbered (stop.EndOf scope.Button) = refl
numbered (stop.EndOf scope.Table) = refl
numbered (stop.EndOf scope.Select) = refl

pub same-stop : (d e : Ends) → eqb (stop_number d) (stop_number e) ≡ true → d ≡ e
same-stop d e h = elim (cases_eqb (stop_number d) (stop_number e)) [ inl q ↦ sym (numbered d) ∙ ap stop_at q.1 ∙ numbered e | inr q ↦ absurd (false≢true (sym q.0 ∙ h)) ]

none-some : (A : Type 0) (o : Option A) → o ≡ None → is_some o ≡ true → ⊥
none-some A None e h = false≢true h
none-some A (Some x) e h = absurd (let k = e in cc)

-- implied end tags
not-stays : (e : Option Tag) (g : Tag) → tag_stays e g ≡ false → is_plain g ≡ true
not-stays e g h = (let c = neither (not (is_implied g)) _ h in imply (is_implied g) (is_plain g) (of-all (λ v. not (is_implied v) || is_plain v) refl g) (back-not (is_implied g) c.0))
  where
    back-not : (b : Bool) → not b ≡ false → b ≡ true
    back-not true h = refl
    back-not false h = absurd (false≢true (sym h))

all-plain : (e : Option Tag) (us : List Tag) → list_any (tag_stays e) us ≡ false → list_all is_plain us ≡ true
all-plain e [] h = refl
all-plain e (u ∷ us) h = (let c = neither (tag_stays e u) (list_any (tag_stays e) us) h in join (is_plain u) (list_all is_plain us) (not-stays e u c.0) (all-plain e us c.1))

foot-stays : (e : Option Tag) (hook : Tag) (low : List Tag) → Footing hook low → tag_stays e hook ≡ true
foot-stays e _ _ on_body = refl
foot-stays e _ _ on_template = refl
foot-stays e _ _ on_head = refl

module _ (f : Need) (hook : Tag) (low : List Tag) (foot : Footing hook low) where
  -- what implied end tags leave
  pub inside-implied : (t : Nodes) (e : Option Tag) (s : List ℕ) → IsInside f hook low (tags_down t s) → IsInside f hook low (tags_down t (up_to (stays t e) s))
  inside-implied t e s i =
      let c = up-to-cleared t (stays t e) s (sym (any-tags t (tag_stays e) s) ∙ ap (list_any (tag_stays e)) i.tags_are ∙ any-here i.upper) in
      subst (IsInside f hook low) (sym c.left) (inside-lights f hook low foot (tags_down t c.over) (tag_at t c.node ∷ c.under) (all-plain e (tags_down t c.over) (any-tags t (tag_stays e) c.over ∙ c.none_over)) (subst (IsInside f hook low) c.tags_are i))
    where
      any-here : (us : List Tag) → list_any (tag_stays e) (us ++ hook ∷ low) ≡ true
      any-here [] = left (tag_stays e hook) (list_any (tag_stays e) low) (foot-stays e hook low foot)
      any-here (u ∷ us) = right (tag_stays e u) (list_any (tag_stays e) (us ++ hook ∷ low)) (any-here us)

  -- the current node is gone
  pub inside-popped : (k : Need) (t : Nodes) (s : List ℕ) (g : Tag) (rest : List Tag) → tags_down t s ≡ g ∷ rest → IsInside k hook low rest → IsInside k hook low (tags_down t (popped s))
  inside-popped k t s g rest e i = (let n = inside-top k hook low rest i in subst (IsInside k hook low) (sym (popped-tags t s g n.top n.rest (e ∙ ap (λ v. g ∷ v) n.tags_are) ∙ sym n.tags_are)) i)

-- WORDS

pub implied-name : (n : Tag) → is_other_implied n ≡ true → tag_of (name_of n) ≡ n
unfolding tag_of
implied-name tag.Html h = refl
implied-name tag.Head h = refl
implied-name tag.Body h = absurd (false≢true h)
implied-name tag.P h = refl
implied-name tag.Br h = refl
implied-name tag.Colgroup h = refl
implied-name tag.Tbody h = refl
implied-name tag.Tr h = refl
implied-name n h = absurd (false≢true h)

module _ (s : View) (t : TokenKind) (a : State) (m : Models s a) where
  abbrev y : Symbol
  y = symbol_of t

  abbrev D : List Tag
  D = open_tags a.tree

  -- the same stack
  still : (k : View) (b : State) → Step true a b → b.tree.stack ≡ a.tree.stack → k.need ≡ s.need → Knows k.know b.tree.stack b.tree.tree b.ledger.history.template → b.mode ≡ k.mode → (waits k.mode ≡ true → b.original ≡ k.original) → Models k b
  still k b p e d n i o = models-by s k a b m p
      (subst (IsInside k.need m.hook m.low) (sym (ap (tags_down b.tree.tree) e ∙ step-tags true a b p m.ground a.tree.stack (λ x h. h))) (subst (λ f. IsInside f m.hook m.low (open_tags a.tree)) (sym d) m.inside)) n i o

  -- another stack of the same nodes
  cut : (k : View) (b : State) → Step true a b → b.tree.tree ≡ a.tree.tree → IsInside k.need m.hook m.low (tags_down a.tree.tree b.tree.stack) → Knows k.know b.tree.stack b.tree.tree b.ledger.history.template → b.mode ≡ k.mode → (waits k.mode ≡ true → b.original ≡ k.original) → Models k b
  cut k b p e i n o w = models-by s k a b m p (subst (λ v. IsInside k.need m.hook m.low (tags_down v b.tree.stack)) (sym e) i) n o w

  -- one more is open
  pushed : (k : View) (b : State) (f : Face) (fs : List Face) (p : Step true a b) → Adds a.tree.tree b.tree.tree (f ∷ fs) → b.tree.stack ≡ a.tree.stack ++ length a.tree.tree.labels ∷ [] → IsInside k.need m.hook m.low (f.tag ∷ open_tags a.tree)
      → Knows k.know b.tree.stack b.tree.tree b.ledger.history.template → b.mode ≡ k.mode → (waits k.mode ≡ true → b.original ≡ k.original) → Models k b
  pushed k b f fs p d e i n o w = models-by s k a b m p (subst (IsInside k.need m.hook m.low) (sym (pushed-are b f fs p d e)) i) n o w
    where
      pushed-are : (b : State) (f : Face) (fs : List Face) (p : Step true a b) → Adds a.tree.tree b.tree.tree (f ∷ fs) → b.tree.stack ≡ a.tree.stack ++ length a.tree.tree.labels ∷ [] → open_tags b.tree ≡ f.tag ∷ open_tags a.tree
      pushed-are b f fs p d e =
          ap (tags_down b.tree.tree) e ∙ push-tags b.tree.tree a.tree.stack (length a.tree.tree.labels)
          ∙ ap (λ g. g ∷ tags_down b.tree.tree a.tree.stack) (ap (λ (v : Face). v.tag) (new-face a.tree.tree b.tree.tree f fs d))
          ∙ ap (λ v. f.tag ∷ v) (step-tags true a b p m.ground a.tree.stack (λ x h. h))

  plain-inside : (g : Tag) → is_insertable g ≡ true → IsInside s.need m.hook m.low (g ∷ D)
  plain-inside g h = inside-more s.need m.hook m.low m.foot g D (right (is_formatting g) (is_insertable g) h) m.inside

  stepped : (w : Word) → grows y w ≡ true → spares y w ≡ true → Step true a (after w t a)
  stepped w g e = subst (λ q. Step q a (after w t a)) e (word-step t a w g)

  -- CLEARING, POPPING AND CLOSING

  models-cleared : (c : TableContext) → suffices s.need (cleared_need c) ≡ true → Models (moved y s (ClearTo c)) (after (ClearTo c) t a)
  models-cleared c e =
      let n = need-context s.need c e in
      let k = few-cleared a.tree.tree (context_at a.tree.tree c) a.tree.stack (sym (any-tags a.tree.tree (is_context c) a.tree.stack) ∙ inside-any s.need m.hook m.low D (is_context c) n.0 n.1 m.inside) in
      let r = inside-cleared s.need m.hook m.low m.foot (is_context c) (tags_down a.tree.tree k.over) (tag_at a.tree.tree k.node) k.under D k.tags_are n.0 n.1 (context-frame c).0 (context-frame c).1 k.passes (any-tags a.tree.tree (is_context c) k.over ∙ k.none_over) m.inside in
      cut (moved y s (ClearTo c)) (after (ClearTo c) t a) (stepped (ClearTo c) refl refl) refl (subst (IsInside s.need m.hook m.low) (sym k.left) r.0)
      (tag_at a.tree.tree k.node, k.under, k.left, k.passes, r.1) m.mode_is m.original_is

  popped-as : (k : Need) (g : Tag) (rest : List Tag) → D ≡ g ∷ rest → IsInside k m.hook m.low rest → Models (record s { need = k; know = Nothing }) (after Pop t a)
  popped-as k g rest e i = cut (record s { need = k; know = Nothing }) (after Pop t a) (stepped Pop refl refl) refl (inside-popped s.need m.hook m.low m.foot k a.tree.tree a.tree.stack g rest e i) tt m.mode_is m.original_is

  -- the current node is plain
  popped-plain : (g : Tag) (rest : List Tag) → D ≡ g ∷ rest → is_plain g ≡ true → Models (record s { know = Nothing }) (after Pop t a)
  popped-plain g rest e p = popped-as s.need g rest e (inside-drop s.need m.hook m.low m.foot [] g rest (plain-light g p) (plain-foot g p) (subst (IsInside s.need m.hook m.low) e m.inside))

  -- it is a part of a table
  popped-part : (k : Need) (g : Tag) (rest : List Tag) → D ≡ g ∷ rest → is_part g ≡ true → ((h : Tag) → is_under g h ≡ true → is_need k h ≡ true) → Models (record s { need = k; know = Nothing }) (after Pop t a)
  popped-part k g rest e p u = popped-as k g rest e (inside-under s.need m.hook m.low m.foot k [] g rest D e p u m.inside)

  cond-or : (b c : Bool) → (b || c) ≡ true → b ≡ false → c ≡ true
  cond-or true c h e = absurd (false≢true (sym e))
  cond-or false c h e = h

  section-under : (g : Tag) → is_section g ≡ true → (is_part g ≡ true) × ((h : Tag) → is_under g h ≡ true → is_need Tables h ≡ true)
  section-under g k = (
    imply (is_section g) (is_part g) (of-all (λ v. not (is_section v) || is_part v) refl g) k,
    λ h u. turn h (is_cell g) (is_same g tag.Tr)
        (not-true (is_cell g) (imply (is_section g) (not (is_cell g)) (of-all (λ v. not (is_section v) || not (is_cell v)) refl g) k))
        (not-true (is_same g tag.Tr) (imply (is_section g) (not (is_same g tag.Tr)) (of-all (λ v. not (is_section v) || not (is_same v tag.Tr)) refl g) k)) u,
  )
    where
      turn : (h : Tag) (b c : Bool) → b ≡ false → c ≡ false → (is_template h || cond b (is_same h tag.Tr) (cond c (is_section h) (is_same h tag.Table))) ≡ true → (is_same h tag.Table || is_template h) ≡ true
      turn h true c e d u = absurd (false≢true (sym e))
      turn h false true e d u = absurd (false≢true (sym d))
      turn h false false e d u = swap (is_template h) (is_same h tag.Table) u
        where
          swap : (b c : Bool) → (b || c) ≡ true → (c || b) ≡ true
          swap true true h = refl
          swap true false h = refl
          swap false true h = refl
          swap false false h = absurd (false≢true h)

  swap-or : (b c : Bool) → (b || c) ≡ true → (c || b) ≡ true
  swap-or true true h = refl
  swap-or true false h = refl
  swap-or false true h = refl
  swap-or false false h = absurd (false≢true h)

  models-popped : (k : Know) → s.know ≡ k → is_poppable k ≡ true → Knows k a.tree.stack a.tree.tree a.ledger.history.template → Models (record s { need = popped_need k s.need; know = Nothing }) (after Pop t a)
  models-popped Nothing e h n = absurd (false≢true h)
  models-popped (Top g) e h n = popped-plain g n.0 n.1 h
  models-popped Plain e h n = popped-plain n.0 n.1 n.2 n.3
  models-popped (Of (group.Named g)) e h n =
      let d : n.0 ≡ g = same-tag n.0 g n.3 in
      let k : D ≡ g ∷ n.1 = n.2 ∙ ap (λ v. v ∷ n.1) d in
      elim (cases (is_plain g)) [
        | inl p ↦ rw p (popped-plain g n.1 k p)
        | inr p ↦ elim (cases (is_same g tag.Colgroup)) [
          | inl c ↦ rw (p, c) (popped-part Tables tag.Colgroup n.1 (k ∙ ap (λ v. v ∷ n.1) (same-tag g tag.Colgroup c)) refl (λ h u. swap-or (is_template h) (is_same h tag.Table) u))
          | inr c ↦ rw (p, c) (popped-part Sections tag.Tr n.1 (k ∙ ap (λ v. v ∷ n.1) (same-tag g tag.Tr (cond-or (is_same g tag.Colgroup) (is_same g tag.Tr) (cond-or (is_plain g) (is_same g tag.Colgroup || is_same g tag.Tr) h p) c))) refl (λ h u. swap-or (is_template h) (is_section h) u))
        ]
      ]
  models-popped (Of group.Heading) e h n = popped-plain n.0 n.1 n.2 (group-plain group.Heading n.0 refl n.3).1
  models-popped (Of group.Section) e h n = (let u = section-under n.0 n.3 in popped-part Tables n.0 n.1 n.2 u.0 u.1)
  models-popped (Of group.Cell) e h n = absurd (false≢true h)
  models-popped (Of group.Definition) e h n = absurd (false≢true h)
  models-popped (On c) e h n = absurd (false≢true h)
  models-popped (Seat g) e h n = absurd (false≢true h)
  models-popped (Found g d) e h n = absurd (false≢true h)
  models-popped Made e h n = absurd (false≢true h)
  models-popped Bare e h n = absurd (false≢true h)

  -- what is left where a search closes
  closed-as : (k : Need) (g : Group) (e : Ends) → (index_before (is_member a.tree.tree g) (stops a.tree.tree e) a.tree.stack ≡ None → IsInside k m.hook m.low D)
      → ((c : HasCut a.tree.tree (is_member a.tree.tree g) (stops a.tree.tree e) a.tree.stack (closed_through a.tree g e)) → IsInside k m.hook m.low c.under) → Models (record s { need = k; know = Nothing }) (after (CloseThrough g e) t a)
  closed-as k g e n f = cut (record s { need = k; know = Nothing }) (after (CloseThrough g e) t a) (stepped (CloseThrough g e) refl refl) refl
      (elim (before-cut a.tree.tree (is_member a.tree.tree g) (stops a.tree.tree e) a.tree.stack) [
        | inl i ↦ subst (λ o. IsInside k m.hook m.low (tags_down a.tree.tree (before_index o a.tree.stack))) (sym i) (n i)
        | inr c ↦ cut-left k m.hook m.low a.tree.tree (is_member a.tree.tree g) (stops a.tree.tree e) a.tree.stack (closed_through a.tree g e) c (f c)
      ]) tt m.mode_is m.original_is

  -- none of these stands above the last of the group
  near-bound : (k : Know) (g : Group) → finds_near k g ≡ true → Knows k a.tree.stack a.tree.tree a.ledger.history.template → list_any is_bound (tags_down a.tree.tree (above (is_member a.tree.tree g) a.tree.stack)) ≡ false
  near-bound Nothing g h n = absurd (false≢true h)
  near-bound (Top x) g h n = absurd (false≢true h)
  near-bound Plain g h n = absurd (false≢true h)
  near-bound (Of x) g h n = absurd (false≢true h)
  near-bound (On c) g h n = absurd (false≢true h)
  near-bound (Seat x) g h n = absurd (false≢true h)
  near-bound Made g h n = absurd (false≢true h)
  near-bound Bare g h n = absurd (false≢true h)
  near-bound (Found j d) g h n =
      let c = both (same_group j g) (is_bounded d) h in
      let r : is_some (found_at a.tree.tree a.tree.stack g d) ≡ true = subst (λ v. is_some (found_at a.tree.tree a.tree.stack v d) ≡ true) (same-group j g c.0) n in
      bounded-stops d (tags_down a.tree.tree (above (is_member a.tree.tree g) a.tree.stack)) c.1 (any-tags a.tree.tree (is_stop d) (above (is_member a.tree.tree g) a.tree.stack) ∙ in-scope g d r)
    where
      in-scope : (g : Group) (d : Ends) → is_some (found_at a.tree.tree a.tree.stack g d) ≡ true → list_any (stops a.tree.tree d) (above (is_member a.tree.tree g) a.tree.stack) ≡ false
      in-scope g d r = by (list_any (is_member a.tree.tree g) a.tree.stack) (list_any (stops a.tree.tree d) (above (is_member a.tree.tree g) a.tree.stack)) r
        where
          by : (b c : Bool) → is_some (cond (b && not c) (last_index (is_member a.tree.tree g) a.tree.stack) None) ≡ true → c ≡ false
          by true false r = refl
          by true true r = absurd (false≢true r)
          by false c r = absurd (false≢true r)

  -- it finds one
  finds-some : (k : Know) (g : Group) (e : Ends) → finds k g e ≡ true → Knows k a.tree.stack a.tree.tree a.ledger.history.template → is_some (found_at a.tree.tree a.tree.stack g e) ≡ true
  finds-some Nothing g e h n = absurd (false≢true h)
  finds-some (Top x) g e h n = absurd (false≢true h)
  finds-some Plain g e h n = absurd (false≢true h)
  finds-some (Of x) g e h n = absurd (false≢true h)
  finds-some (On c) g e h n = absurd (false≢true h)
  finds-some (Seat x) g e h n = absurd (false≢true h)
  finds-some Made g e h n = absurd (false≢true h)
  finds-some Bare g e h n = absurd (false≢true h)
  finds-some (Found j d) g e h n =
      let c = both (same_group j g) (eqb (stop_number d) (stop_number e)) h in
      subst (λ v. is_some (found_at a.tree.tree a.tree.stack g v) ≡ true) (same-stop d e c.1) (subst (λ v. is_some (found_at a.tree.tree a.tree.stack v d) ≡ true) (same-group j g c.0) n)

  closed-plain : (g : Group) (e : Ends) → is_plain_group g ≡ true → (is_bounded e || finds_near s.know g) ≡ true → Models (record s { know = Nothing }) (after (CloseThrough g e) t a)
  closed-plain g e p h = closed-as s.need g e (λ i. m.inside)
      (λ c. let q = group-plain g (tag_at a.tree.tree c.node) p c.passes in
      inside-closed s.need m.hook m.low m.foot (tags_down a.tree.tree c.over) (tag_at a.tree.tree c.node) c.under D c.tags_are q.0 q.1
      (elim (either (is_bounded e) (finds_near s.know g) h) [
        | inl b ↦ bounded-stops e (tags_down a.tree.tree c.over) b (any-tags a.tree.tree (is_stop e) c.over ∙ c.no_end)
        | inr b ↦ subst (λ v. list_any is_bound (tags_down a.tree.tree v) ≡ false) (sym c.over_is) (near-bound s.know g b m.knows)
      ]) m.inside)

  closed-part : (k : Need) (g : Group) (e : Ends) → finds s.know g e ≡ true → ((x : Tag) → in_group g x ≡ true → (is_part x ≡ true) × ((h : Tag) → is_under x h ≡ true → is_need k h ≡ true)) → Models (record s { need = k; know = Nothing }) (after (CloseThrough g e) t a)
  closed-part k g e f u = closed-as k g e (λ i. absurd (none-some ℕ (found_at a.tree.tree a.tree.stack g e) i (finds-some s.know g e f m.knows)))
      (λ c. let w = u (tag_at a.tree.tree c.node) c.passes in inside-under s.need m.hook m.low m.foot k (tags_down a.tree.tree c.over) (tag_at a.tree.tree c.node) c.under D c.tags_are w.0 w.1 m.inside)

  closed-tables : (g : Group) (e : Ends) → is_tables g ≡ true → Models (record s { need = Anything; know = Nothing }) (after (CloseThrough g e) t a)
  closed-tables g e h = closed-as Anything g e (λ i. inside-free s.need m.hook m.low D m.inside)
      (λ c. inside-cut s.need m.hook m.low m.foot (tags_down a.tree.tree c.over) (tag_at a.tree.tree c.node) c.under D c.tags_are (no-foot g h (tag_at a.tree.tree c.node) c.passes) m.inside)
    where
      no-foot : (g : Group) → is_tables g ≡ true → (x : Tag) → in_group g x ≡ true → not (is_foot x) ≡ true
      no-foot (group.Named g) h x k = ap (λ v. not (is_foot v)) (same-tag x g k ∙ same-tag g tag.Table h)
      no-foot group.Heading h x k = absurd (false≢true h)
      no-foot group.Section h x k = absurd (false≢true h)
      no-foot group.Cell h x k = absurd (false≢true h)
      no-foot group.Definition h x k = absurd (false≢true h)

  cell-under : (x : Tag) → is_cell x ≡ true → (is_part x ≡ true) × ((h : Tag) → is_under x h ≡ true → is_need Rows h ≡ true)
  cell-under x k = (left (is_cell x) (is_same x tag.Tr || is_table_part x) k, λ h u. swap-or (is_template h) (is_same h tag.Tr) (turn h (is_cell x) k u))
    where
      turn : (h : Tag) (b : Bool) → b ≡ true → (is_template h || cond b (is_same h tag.Tr) (cond (is_same x tag.Tr) (is_section h) (is_same h tag.Table))) ≡ true → (is_template h || is_same h tag.Tr) ≡ true
      turn h true e u = u
      turn h false e u = absurd (false≢true e)

  models-closed : (g : Group) (e : Ends) → is_closable s.know g e ≡ true → Models (moved y s (CloseThrough g e)) (after (CloseThrough g e) t a)
  models-closed g e h = elim (cases (is_plain_group g)) [
    | inl p ↦ rw p (closed-plain g e p (plainly-closed (is_plain_group g) (is_bounded e || finds_near s.know g) ((is_caption g || is_cells g) && finds s.know g e) (is_tables g) (not-others g p) h))
    | inr p ↦ elim (either ((is_caption g || is_cells g) && finds s.know g e) (is_tables g) (cond-or (is_plain_group g && (is_bounded e || finds_near s.know g)) (((is_caption g || is_cells g) && finds s.know g e) || is_tables g) h (ap (λ b. b && (is_bounded e || finds_near s.know g)) p))) [
      | inl c ↦ (let w = both (is_caption g || is_cells g) (finds s.know g e) c in elim (cases (is_caption g)) [
        | inl x ↦ rw (p, x) (closed-part Tables g e w.1 (caption-under g x))
        | inr x ↦ rw (p, x, cond-or (is_caption g) (is_cells g) w.0 x) (closed-part Rows g e w.1 (cells-under g (cond-or (is_caption g) (is_cells g) w.0 x)))
      ])
      | inr c ↦ rw (p, tables-caption g c, tables-cells g c) (closed-tables g e c)
    ]
  ]
    where
      plainly-closed : (p q r v : Bool) → (r || v) ≡ false → ((p && q) || (r || v)) ≡ true → q ≡ true
      plainly-closed true true r v n h = refl
      plainly-closed true false r v n h = absurd (false≢true (sym n ∙ h))
      plainly-closed false q r v n h = absurd (false≢true (sym n ∙ h))

      not-others : (g : Group) → is_plain_group g ≡ true → (((is_caption g || is_cells g) && finds s.know g e) || is_tables g) ≡ false
      not-others (group.Named g) p =
          let q = (both (is_plain g) (not (is_formatting g)) p).0 in
          let n : (is_same g tag.Caption || is_cell g) ≡ false = not-true (is_same g tag.Caption || is_cell g) (imply (is_plain g) (not (is_same g tag.Caption || is_cell g)) (of-all (λ v. not (is_plain v) || not (is_same v tag.Caption || is_cell v)) refl g) q) in
          let o : is_same g tag.Table ≡ false = not-true (is_same g tag.Table) (imply (is_plain g) (not (is_same g tag.Table)) (of-all (λ v. not (is_plain v) || not (is_same v tag.Table)) refl g) q) in
          rw (n, o) refl
      not-others group.Heading p = refl
      not-others group.Definition p = refl
      not-others group.Section p = absurd (false≢true p)
      not-others group.Cell p = absurd (false≢true p)

      caption-under : (g : Group) → is_caption g ≡ true → (x : Tag) → in_group g x ≡ true → (is_part x ≡ true) × ((h : Tag) → is_under x h ≡ true → is_need Tables h ≡ true)
      caption-under (group.Named g) c x k = subst (λ v. (is_part v ≡ true) × ((h : Tag) → is_under v h ≡ true → is_need Tables h ≡ true)) (sym (same-tag x g k ∙ same-tag g tag.Caption c)) (refl, λ h u. swap-or (is_template h) (is_same h tag.Table) u)
      caption-under group.Heading c x k = absurd (false≢true c)
      caption-under group.Section c x k = absurd (false≢true c)
      caption-under group.Cell c x k = absurd (false≢true c)
      caption-under group.Definition c x k = absurd (false≢true c)

      cells-under : (g : Group) → is_cells g ≡ true → (x : Tag) → in_group g x ≡ true → (is_part x ≡ true) × ((h : Tag) → is_under x h ≡ true → is_need Rows h ≡ true)
      cells-under (group.Named g) c x k = cell-under x (ap is_cell (same-tag x g k) ∙ c)
      cells-under group.Cell c x k = cell-under x k
      cells-under group.Heading c x k = absurd (false≢true c)
      cells-under group.Section c x k = absurd (false≢true c)
      cells-under group.Definition c x k = absurd (false≢true c)

      tables-caption : (g : Group) → is_tables g ≡ true → is_caption g ≡ false
      tables-caption (group.Named g) c = ap (λ v. is_same v tag.Caption) (same-tag g tag.Table c)
      tables-caption group.Heading c = refl
      tables-caption group.Section c = refl
      tables-caption group.Cell c = refl
      tables-caption group.Definition c = refl

      tables-cells : (g : Group) → is_tables g ≡ true → is_cells g ≡ false
      tables-cells (group.Named g) c = ap is_cell (same-tag g tag.Table c)
      tables-cells group.Heading c = absurd (false≢true c)
      tables-cells group.Section c = refl
      tables-cells group.Cell c = absurd (false≢true c)
      tables-cells group.Definition c = refl

  end-name : (q : Tag → Bool) (u : TokenKind) → ends q (symbol_of u) ≡ true → q (tag_of (tag_name u)) ≡ true
  end-name q (kind.End name) h = h
  end-name q (kind.Start name attrs self_closing) h = absurd (false≢true h)
  end-name q (kind.Char c) h = absurd (false≢true h)
  end-name q (kind.Comment text) h = absurd (false≢true h)
  end-name q (kind.Doctype n p s f) h = absurd (false≢true h)
  end-name q kind.Eof h = absurd (false≢true h)

  models-ended : ends (is_other_end s.need) y ≡ true → Models (record s { know = Nothing }) (after CloseNamed t a)
  models-ended h = cut (record s { know = Nothing }) (after CloseNamed t a) (stepped CloseNamed refl refl) refl
      (elim (before-cut a.tree.tree (has_name a.tree.tree (tag_name t)) (is_special_at a.tree.tree) a.tree.stack) [
        | inl i ↦ subst (λ o. IsInside s.need m.hook m.low (tags_down a.tree.tree (before_index o a.tree.stack))) (sym i) m.inside
        | inr c ↦ cut-left s.need m.hook m.low a.tree.tree (has_name a.tree.tree (tag_name t)) (is_special_at a.tree.tree) a.tree.stack (before_index (found_name a.tree (tag_name t)) a.tree.stack) c (by c)
      ]) tt m.mode_is m.original_is
    where
      by : (c : HasCut a.tree.tree (has_name a.tree.tree (tag_name t)) (is_special_at a.tree.tree) a.tree.stack (before_index (found_name a.tree (tag_name t)) a.tree.stack)) → IsInside s.need m.hook m.low c.under
      by c =
          let d : tag_at a.tree.tree c.node ≡ tag_of (tag_name t) = named-tag a.tree.tree (tag_name t) c.node m.ground.held.tagged c.passes in
          let o : is_other_end s.need (tag_at a.tree.tree c.node) ≡ true = ap (is_other_end s.need) d ∙ end-name (is_other_end s.need) t h in
          let n = any-tags a.tree.tree is_special c.over ∙ c.no_end in
          elim (either (is_plain (tag_at a.tree.tree c.node)) ((is_same (tag_at a.tree.tree c.node) tag.Head || is_same (tag_at a.tree.tree c.node) tag.Frameset) || (asks_nothing s.need && not (is_foot (tag_at a.tree.tree c.node)))) o) [
            | inl p ↦ inside-common s.need m.hook m.low m.foot (tags_down a.tree.tree c.over) (tag_at a.tree.tree c.node) c.under D c.tags_are p n m.inside
            | inr p ↦ elim (either (is_same (tag_at a.tree.tree c.node) tag.Head || is_same (tag_at a.tree.tree c.node) tag.Frameset) (asks_nothing s.need && not (is_foot (tag_at a.tree.tree c.node))) p) [
              | inl q ↦ absurd (inside-frame s.need m.hook m.low m.foot (tags_down a.tree.tree c.over) (tag_at a.tree.tree c.node) c.under D c.tags_are q n m.inside)
              | inr q ↦ (let w = both (asks_nothing s.need) (not (is_foot (tag_at a.tree.tree c.node))) q in free s.need c.under w.0 (inside-cut s.need m.hook m.low m.foot (tags_down a.tree.tree c.over) (tag_at a.tree.tree c.node) c.under D c.tags_are w.1 m.inside))
            ]
          ]
        where
          free : (f : Need) (us : List Tag) → asks_nothing f ≡ true → IsInside Anything m.hook m.low us → IsInside f m.hook m.low us
          free Anything us e i = i
          free Tables us e i = absurd (false≢true e)
          free Sections us e i = absurd (false≢true e)
          free Rows us e i = absurd (false≢true e)
          free Templates us e i = absurd (false≢true e)

  models-implied : (e : Option Tag) → Models (record s { know = Nothing }) (after (Implied e) t a)
  models-implied e = cut (record s { know = Nothing }) (after (Implied e) t a) (stepped (Implied e) refl refl) refl (inside-implied s.need m.hook m.low m.foot a.tree.tree e a.tree.stack m.inside) tt m.mode_is m.original_is

  models-form : Models (record s { know = Nothing }) (after CloseForm t a)
  models-form = models-by s (record s { know = Nothing }) a (after CloseForm t a) m (stepped CloseForm refl refl) (at a.tree.form refl) tt m.mode_is m.original_is
    where
      at : (o : Option ℕ) → a.tree.form ≡ o → IsInside s.need m.hook m.low (open_tags (form_closed a.tree o))
      at None e = m.inside
      at (Some x) e = by (element_in_scope a.tree.tree x a.tree.stack)
        where
          left-open : Tree
          left-open = record (formless a.tree) { stack = up_to (stays a.tree.tree None) a.tree.stack }

          by : (b : Bool) → IsInside s.need m.hook m.low (open_tags (cond b (record (formless a.tree) { stack = remaining x (up_to (stays a.tree.tree None) a.tree.stack) }) (formless a.tree)))
          by true = inside-remaining s.need m.hook m.low m.foot (record (formless a.tree) { stack = up_to (stays a.tree.tree None) a.tree.stack }) x (ap is_plain (m.ground.formed x e).1) (inside-implied s.need m.hook m.low m.foot a.tree.tree None a.tree.stack m.inside)
          by false = m.inside

  -- NEW ELEMENTS

  -- the element of the token
  token-adds : (w : Word) → Adds a.tree.tree (after w t a).tree.tree (of_name (tag_name t)) → (after w t a).tree.stack ≡ a.tree.stack ++ length a.tree.tree.labels ∷ [] → grows y w ≡ true → spares y w ≡ true → (k : View) → IsInside k.need m.hook m.low (tag_of (tag_name t) ∷ D)
      → Knows k.know (after w t a).tree.stack (after w t a).tree.tree (after w t a).ledger.history.template → (after w t a).mode ≡ k.mode → (waits k.mode ≡ true → (after w t a).original ≡ k.original) → Models k (after w t a)
  token-adds w d e g h k i n o q = pushed k (after w t a) (element_face (tag_name t)) (rest_faces (is_template (tag_of (tag_name t)))) (stepped w g h) d e i n o q

  top-known : (w : Word) → (g : Tag) → (after w t a).tree.stack ≡ a.tree.stack ++ length a.tree.tree.labels ∷ [] → tag_at (after w t a).tree.tree (length a.tree.tree.labels) ≡ g → Knows (Top g) (after w t a).tree.stack (after w t a).tree.tree (after w t a).ledger.history.template
  top-known w g e d = (tags_down (after w t a).tree.tree a.tree.stack, ap (tags_down (after w t a).tree.tree) e ∙ push-tags (after w t a).tree.tree a.tree.stack (length a.tree.tree.labels) ∙ ap (λ v. v ∷ tags_down (after w t a).tree.tree a.tree.stack) d)

  knows-top : (u : TokenKind) (b : List ℕ) (v : Nodes) (h : Bool) → Knows (Top (tag_of (tag_name u))) b v h → Knows (top_of (symbol_of u)) b v h
  knows-top (kind.Start name attrs self_closing) b v h k = k
  knows-top (kind.End name) b v h k = tt
  knows-top (kind.Char c) b v h k = tt
  knows-top (kind.Comment text) b v h k = tt
  knows-top (kind.Doctype n p s f) b v h k = tt
  knows-top kind.Eof b v h k = tt

  new-tag : (v : Nodes) → Adds a.tree.tree v (of_name (tag_name t)) → tag_at v (length a.tree.tree.labels) ≡ tag_of (tag_name t)
  new-tag v d = ap (λ (f : Face). f.tag) (new-face a.tree.tree v (element_face (tag_name t)) (rest_faces (is_template (tag_of (tag_name t)))) d)

  models-inserted : starts is_insertable y ≡ true → spares y Insert ≡ true → Models (record s { know = top_of y }) (after Insert t a)
  models-inserted h e =
      let d = element-adds a.tree.tree (place_for a.tree (target.Current a.fostering)) (tag_name t) (attrs_of t) (Token (number_of a.ledger)) in
      token-adds Insert d refl refl e (record s { know = top_of y }) (plain-inside (tag_of (tag_name t)) (start-name is_insertable t h))
      (knows-top t (after Insert t a).tree.stack (after Insert t a).tree.tree (after Insert t a).ledger.history.template (top-known Insert (tag_of (tag_name t)) refl (new-tag (after Insert t a).tree.tree d))) m.mode_is m.original_is

  models-formed : starts is_insertable y ≡ true → grows y InsertForm ≡ true → spares y InsertForm ≡ true → Models (record s { know = Nothing }) (after InsertForm t a)
  models-formed h g e =
      token-adds InsertForm (element-adds a.tree.tree (place_for a.tree (target.Current a.fostering)) (tag_name t) (attrs_of t) (Token (number_of a.ledger))) refl g e (record s { know = Nothing }) (plain-inside (tag_of (tag_name t)) (start-name is_insertable t h)) tt m.mode_is m.original_is

  models-listed : grows y InsertListed ≡ true → spares y InsertListed ≡ true → Models (record s { know = Nothing }) (after InsertListed t a)
  models-listed g e =
      token-adds InsertListed (element-adds a.tree.tree (place_for a.tree (target.Current a.fostering)) (tag_name t) (attrs_of t) (Token (number_of a.ledger))) refl g e (record s { know = Nothing })
      (inside-more s.need m.hook m.low m.foot (tag_of (tag_name t)) D (left (is_formatting (tag_of (tag_name t))) (is_insertable (tag_of (tag_name t))) (start-name is_formatting t g)) m.inside) tt m.mode_is m.original_is

  -- what the current node may hold stands on it
  seat-under : (g h : Tag) → is_part g ≡ true → is_same h tag.Html ≡ false → sits_on g h ≡ true → is_under g h ≡ true
  seat-under g h p n k = by (is_cell g) (is_same g tag.Tr) (is_table_part g) p k
    where
      row : (h : Tag) → is_same h tag.Html ≡ false → is_row_context h ≡ true → (is_template h || is_same h tag.Tr) ≡ true
      row h n k = cond-or (is_same h tag.Html) (is_template h || is_same h tag.Tr) (imply (is_row_context h) (is_same h tag.Html || (is_template h || is_same h tag.Tr)) (of-all (λ v. not (is_row_context v) || (is_same v tag.Html || (is_template v || is_same v tag.Tr))) refl h) k) n

      section : (h : Tag) → is_same h tag.Html ≡ false → is_section_context h ≡ true → (is_template h || is_section h) ≡ true
      section h n k = cond-or (is_same h tag.Html) (is_template h || is_section h) (imply (is_section_context h) (is_same h tag.Html || (is_template h || is_section h)) (of-all (λ v. not (is_section_context v) || (is_same v tag.Html || (is_template v || is_section v))) refl h) k) n

      table : (h : Tag) → is_same h tag.Html ≡ false → is_table_context h ≡ true → (is_template h || is_same h tag.Table) ≡ true
      table h n k = cond-or (is_same h tag.Html) (is_template h || is_same h tag.Table) (imply (is_table_context h) (is_same h tag.Html || (is_template h || is_same h tag.Table)) (of-all (λ v. not (is_table_context v) || (is_same v tag.Html || (is_template v || is_same v tag.Table))) refl h) k) n

      by : (b c d : Bool) → (b || (c || d)) ≡ true → cond b (is_row_context h) (cond c (is_section_context h) (cond d (is_table_context h) true)) ≡ true → (is_template h || cond b (is_same h tag.Tr) (cond c (is_section h) (is_same h tag.Table))) ≡ true
      by true c d p k = row h n k
      by false true d p k = section h n k
      by false false true p k = table h n k
      by false false false p k = absurd (false≢true p)

  seated-inside : (g : Tag) → is_part g ≡ true → seat_at a.tree.tree g (last_of a.tree.stack) ≡ true → IsInside s.need m.hook m.low (g ∷ D)
  seated-inside g p h =
      let n = inside-top s.need m.hook m.low D m.inside in
      let i : IsInside s.need m.hook m.low (n.top ∷ n.rest) = subst (IsInside s.need m.hook m.low) n.tags_are m.inside in
      let o = inside-first s.need m.hook m.low m.foot n.top n.rest i in
      let u = seat-under g n.top p o (seat-top (last_of a.tree.stack) refl n.top n.rest n.tags_are o h) in
      subst (λ v. IsInside s.need m.hook m.low (g ∷ v)) (sym n.tags_are) (inside-part s.need m.hook m.low m.foot g n.top n.rest (part-frame g p) u (light-top g n.top p u) i)
    where
      part-frame : (g : Tag) → is_part g ≡ true → is_frame g ≡ false
      part-frame g p = not-true (is_frame g) (imply (is_part g) (not (is_frame g)) (of-all (λ v. not (is_part v) || not (is_frame v)) refl g) p)

      light-top : (g h : Tag) → is_part g ≡ true → is_under g h ≡ true → is_formatting h ≡ false
      light-top g h p u = elim (cases (is_formatting h)) [ inr x ↦ x | inl x ↦ absurd (false≢true (sym (plain-light h (formatting-plain h x)) ∙ under-carries g h p u)) ]

      seat-top : (o : Option ℕ) → last_of a.tree.stack ≡ o → (top : Tag) (rest : List Tag) → D ≡ top ∷ rest → is_same top tag.Html ≡ false → seat_at a.tree.tree g o ≡ true → sits_on g top ≡ true
      seat-top None e top rest d n k = absurd (false≢true k)
      seat-top (Some x) e top rest d n k =
          let q : Some (tag_at a.tree.tree x) ≡ Some top = sym (first-tag a.tree.tree a.tree.stack x e) ∙ ap (λ v. slice_get v 0) d in
          let w : tag_at a.tree.tree x ≡ top = (let z = q in cc) in
          seat (is_same top tag.Html) n (subst (λ v. cond (is_same v tag.Html) (eqb x 0) (sits_on g v) ≡ true) w k)
        where
          seat : (b : Bool) → b ≡ false → cond b (eqb x 0) (sits_on g top) ≡ true → sits_on g top ≡ true
          seat true e k = absurd (false≢true (sym e))
          seat false e k = k

  seat-known : (k : Know) (g : Tag) → is_seated k g ≡ true → Knows k a.tree.stack a.tree.tree a.ledger.history.template → (is_part g ≡ true) × (seat_at a.tree.tree g (last_of a.tree.stack) ≡ true)
  seat-known (Seat h) g e n = (let c = both (is_same h g) (is_part g) e in (c.1, subst (λ v. seat_at a.tree.tree v (last_of a.tree.stack) ≡ true) (same-tag h g c.0) n))
  seat-known Nothing g e n = absurd (false≢true e)
  seat-known (Top h) g e n = absurd (false≢true e)
  seat-known Plain g e n = absurd (false≢true e)
  seat-known (Of h) g e n = absurd (false≢true e)
  seat-known (On c) g e n = absurd (false≢true e)
  seat-known (Found h d) g e n = absurd (false≢true e)
  seat-known Made g e n = absurd (false≢true e)
  seat-known Bare g e n = absurd (false≢true e)

  models-part : starts (is_seated s.know) y ≡ true → spares y InsertPart ≡ true → Models (record s { know = top_of y }) (after InsertPart t a)
  models-part h e =
      let d = element-adds a.tree.tree (place_for a.tree (target.Current false)) (tag_name t) (attrs_of t) (Token (number_of a.ledger)) in
      let c = seat-known s.know (tag_of (tag_name t)) (start-name (is_seated s.know) t h) m.knows in
      token-adds InsertPart d refl refl e (record s { know = top_of y }) (seated-inside (tag_of (tag_name t)) c.0 c.1)
      (knows-top t (after InsertPart t a).tree.stack (after InsertPart t a).tree.tree (after InsertPart t a).ledger.history.template (top-known InsertPart (tag_of (tag_name t)) refl (new-tag (after InsertPart t a).tree.tree d))) m.mode_is m.original_is

  models-implied-part : (n : Tag) → is_seated s.know n ≡ true → is_other_implied n ≡ true → Models (record s { know = Top n }) (after (ImplyPart n) t a)
  models-implied-part n h e =
      let d = element-adds a.tree.tree (place_for a.tree (target.Current false)) (name_of n) [] Unasked in
      let c = seat-known s.know n h m.knows in
      let w = implied-name n e in
      pushed (record s { know = Top n }) (after (ImplyPart n) t a) (element_face (name_of n)) (rest_faces (is_template (tag_of (name_of n)))) (stepped (ImplyPart n) refl e) d refl
      (subst (λ v. IsInside s.need m.hook m.low (v ∷ D)) (sym w) (seated-inside n c.0 c.1))
      (top-known (ImplyPart n) n refl (ap (λ (f : Face). f.tag) (new-face a.tree.tree (after (ImplyPart n) t a).tree.tree (element_face (name_of n)) (rest_faces (is_template (tag_of (name_of n)))) d) ∙ w)) m.mode_is m.original_is

  models-paragraph : (n : Tag) → is_same n tag.P ≡ true → spares y (Imply n) ≡ true → Models (record s { know = Found (group.Named tag.P) (stop.EndOf scope.Button) }) (after (Imply n) t a)
  models-paragraph n h e = subst (λ v. Models (record s { know = Found (group.Named tag.P) (stop.EndOf scope.Button) }) (after (Imply v) t a)) (sym (same-tag n tag.P h)) at
    where
      d : Adds a.tree.tree (after (Imply tag.P) t a).tree.tree (of_name (name_of tag.P))
      d = element-adds a.tree.tree (place_for a.tree (target.Current a.fostering)) (name_of tag.P) [] Unasked

      p : tag_of (name_of tag.P) ≡ tag.P
      p = implied-name tag.P refl

      top : tag_at (after (Imply tag.P) t a).tree.tree (length a.tree.tree.labels) ≡ tag.P
      top = ap (λ (f : Face). f.tag) (new-face a.tree.tree (after (Imply tag.P) t a).tree.tree (element_face (name_of tag.P)) (rest_faces (is_template (tag_of (name_of tag.P)))) d) ∙ p

      finds-top : (v : Nodes) (us : List ℕ) (x : ℕ) → tag_at v x ≡ tag.P → is_some (found_at v (us ++ x ∷ []) (group.Named tag.P) (stop.EndOf scope.Button)) ≡ true
      finds-top v us x e =
          let q : is_member v (group.Named tag.P) x ≡ true = ap (λ g. is_same g tag.P) e in
          let i = any-push (is_member v (group.Named tag.P)) us x ∙ ap (λ b. cond b true (list_any (is_member v (group.Named tag.P)) us)) q in
          let j = above-push (is_member v (group.Named tag.P)) us x ∙ ap (λ b. cond b [] (above (is_member v (group.Named tag.P)) us ++ x ∷ [])) q in
          rw (i, j) refl

      at : Models (record s { know = Found (group.Named tag.P) (stop.EndOf scope.Button) }) (after (Imply tag.P) t a)
      at = pushed (record s { know = Found (group.Named tag.P) (stop.EndOf scope.Button) }) (after (Imply tag.P) t a) (element_face (name_of tag.P)) (rest_faces (is_template (tag_of (name_of tag.P)))) (stepped (Imply tag.P) refl refl) d refl
          (subst (λ v. IsInside s.need m.hook m.low (v ∷ D)) (sym p) (plain-inside tag.P refl))
          (finds-top (after (Imply tag.P) t a).tree.tree a.tree.stack (length a.tree.tree.labels) top) m.mode_is m.original_is

  -- MODES

  models-switched : (n : Mode) → waits n ≡ false → (suffices s.need (need_of n) || serves s.know (need_of n)) ≡ true → Models (record s { mode = n; need = need_of n; know = Nothing }) (after (Switch n) t a)
  models-switched n w h = cut (record s { mode = n; need = need_of n; know = Nothing }) (after (Switch n) t a) (stepped (Switch n) refl refl) refl
      (elim (either (suffices s.need (need_of n)) (serves s.know (need_of n)) h) [ inl e ↦ inside-enough s.need (need_of n) m.hook m.low D e m.inside | inr e ↦ served s.know (need_of n) e m.knows ])
      tt refl (λ k. absurd (false≢true (sym w ∙ k)))
    where
      served : (k : Know) (f : Need) → serves k f ≡ true → Knows k a.tree.stack a.tree.tree a.ledger.history.template → IsInside f m.hook m.low D
      served (Top g) f e n = subst (IsInside f m.hook m.low) (sym n.1) (inside-serves s.need f m.hook m.low g n.0 e (subst (IsInside s.need m.hook m.low) n.1 m.inside))
      served Nothing f e n = absurd (false≢true e)
      served Plain f e n = absurd (false≢true e)
      served (Of h) f e n = absurd (false≢true e)
      served (On c) f e n = absurd (false≢true e)
      served (Seat h) f e n = absurd (false≢true e)
      served (Found h d) f e n = absurd (false≢true e)
      served Made f e n = absurd (false≢true e)
      served Bare f e n = absurd (false≢true e)

  models-entered : (n : Mode) → Models (record s { mode = n; original = s.mode; know = entered s.know }) (after (Enter n) t a)
  models-entered n = cut (record s { mode = n; original = s.mode; know = entered s.know }) (after (Enter n) t a) (stepped (Enter n) refl refl) refl m.inside (known s.know m.knows) refl (λ k. m.mode_is)
    where
      known : (k : Know) → Knows k a.tree.stack a.tree.tree a.ledger.history.template → Knows (entered k) a.tree.stack a.tree.tree a.ledger.history.template
      known (Top g) n = by (is_plain g) refl
        where
          by : (b : Bool) → is_plain g ≡ b → Knows (cond b Plain Nothing) a.tree.stack a.tree.tree a.ledger.history.template
          by true e = (g, n.0, n.1, e)
          by false e = tt
      known Nothing n = tt
      known Plain n = tt
      known (Of h) n = tt
      known (On c) n = tt
      known (Seat h) n = tt
      known (Found h d) n = tt
      known Made n = tt
      known Bare n = tt

  models-left : waits s.mode ≡ true → Models (record s { mode = s.original; know = Nothing }) (after Leave t a)
  models-left h = cut (record s { mode = s.original; know = Nothing }) (after Leave t a) (stepped Leave refl refl) refl m.inside tt (m.original_is h) (λ k. m.original_is h)

  lasting-known : (k : Know) (u : List ℕ) (v : Nodes) (h : Bool) → tags_down v u ≡ open_tags a.tree → Knows k a.tree.stack a.tree.tree a.ledger.history.template → Knows (lasting k) u v h
  lasting-known Plain u v h e n = (n.0, n.1, e ∙ n.2, n.3)
  lasting-known Nothing u v h e n = tt
  lasting-known (Top g) u v h e n = tt
  lasting-known (Of g) u v h e n = tt
  lasting-known (On c) u v h e n = tt
  lasting-known (Seat g) u v h e n = tt
  lasting-known (Found g d) u v h e n = tt
  lasting-known Made u v h e n = tt
  lasting-known Bare u v h e n = tt

  pub word-models : (w : Word) → grows y w ≡ true → spares y w ≡ true → may y s w ≡ true → Models (moved y s w) (after w t a)
  word-models (ClearTo c) g e h = models-cleared c h
  word-models Pop g e h = models-popped s.know refl h m.knows
  word-models (CloseThrough k d) g e h = models-closed k d h
  word-models CloseNamed g e h = models-ended h
  word-models (Implied d) g e h = models-implied d
  word-models Insert g e h = models-inserted h e
  word-models (InsertAt p) g e h = absurd (false≢true h)
  word-models InsertPart g e h = models-part h e
  word-models (InsertVoidAt n p) g e h = absurd (false≢true h)
  word-models InsertListed g e h = models-listed g e
  word-models InsertHead g e h = absurd (false≢true h)
  word-models InsertForm g e h = models-formed h g e
  word-models CloseForm g e h = models-form
  word-models ReplaceBody g e h = absurd (false≢true h)
  word-models InsertRoot g e h = absurd (false≢true h)
  word-models (Imply n) g e h = models-paragraph n h e
  word-models (ImplyPart n) g e h = models-implied-part n (both (is_seated s.know n) (not (is_same n tag.Html)) h).0 e
  word-models ImplyHead g e h = absurd (false≢true h)
  word-models ImplyRoot g e h = absurd (false≢true h)
  word-models (Switch n) g e h = (let c = both (not (waits n)) (suffices s.need (need_of n) || serves s.know (need_of n)) h in models-switched n (not-true (waits n) c.0) c.1)
  word-models (Enter n) g e h = models-entered n
  word-models Leave g e h = models-left h
  word-models Reset g e h = absurd (false≢true h)
  word-models AddMarker g e h = still s (after AddMarker t a) (stepped AddMarker g e) refl refl m.knows m.mode_is m.original_is
  word-models ClearToMarker g e h = still s (after ClearToMarker t a) (stepped ClearToMarker g e) refl refl m.knows m.mode_is m.original_is
  word-models FramesetOff g e h = still s (after FramesetOff t a) (stepped FramesetOff g e) refl refl m.knows m.mode_is m.original_is
  word-models (Quirks q) g e h = still s (after (Quirks q) t a) (stepped (Quirks q) g e) refl refl m.knows m.mode_is m.original_is
  word-models (PushTemplate n) g e h = still s (after (PushTemplate n) t a) (stepped (PushTemplate n) g e) refl refl m.knows m.mode_is m.original_is
  word-models PopTemplate g e h = still s (after PopTemplate t a) (stepped PopTemplate g e) refl refl m.knows m.mode_is m.original_is
  word-models InsertCharacter g e h = (let p = stepped InsertCharacter g e in still (record s { know = lasting s.know }) (after InsertCharacter t a) p refl refl (lasting-known s.know (after InsertCharacter t a).tree.stack (after InsertCharacter t a).tree.tree (after InsertCharacter t a).ledger.history.template (step-tags true a (after InsertCharacter t a) p m.ground a.tree.stack (λ x k. k)) m.knows) m.mode_is m.original_is)
  word-models (Drop c) g e h = still (record s { know = lasting s.know }) (after (Drop c) t a) (stepped (Drop c) g e) refl refl (lasting-known s.know a.tree.stack a.tree.tree (after (Drop c) t a).ledger.history.template refl m.knows) m.mode_is m.original_is
  word-models (InsertForeign n) g e h = absurd (false≢true g)
  word-models (InsertForeignVoid n) g e h = absurd (false≢true g)
  word-models w g e h = still (plainly s) (after w t a) (stepped w g e) refl refl tt m.mode_is m.original_is

-- OTHER MOVES

pub models-know : (s : View) (k : Know) (a : State) → Models s a → Knows k a.tree.stack a.tree.tree a.ledger.history.template → Models (record s { know = k }) a
models-know s k a m n = record { hook = m.hook; low = m.low; foot = m.foot; inside = m.inside; knows = n; mode_is = m.mode_is; original_is = m.original_is; ground = m.ground; few = m.few; before = m.before }

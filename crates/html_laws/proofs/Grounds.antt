-- What holds of each state before and after a word, wherever tree construction stands.
use Rattle.std.proofs.Common.{◌≡◌, ◌⊎◌, ◌<◌, ◌≤◌, ℕ, zero, suc, ◌-◌, Bool, true, false, not, cond, if◌then◌else◌, ◌&&◌, List, [], ◌∷◌, ◌++◌, length, slice_index, take, unwrap_or, Option, Some, None, inl, inr, refl, sym, ◌∙◌, ap, append-nil, arith}
use Rattle.std.specs.List.{list_all}
use Rattle.std.proofs.lemmas.Bool.{false≢true}
use Rattle.std.proofs.lemmas.List.Sums.{sum_by-cons}
use Rattle.std.proofs.lemmas.List.Folds.{list_all-append}
use Rattle.html_names.specs.declared.tag.Tag.{Tag}
use Rattle.html_names.specs.declared.tag.Tag.TheVariants as tag
use Rattle.html_names.specs.Names.{name_of, tag_of}
use Rattle.html_names.specs.Sets.{is_formatting, is_template}
use Rattle.html_names.specs.Tags.{is_same}
use Rattle.html_arena.proofs.Labels.{tag_of-nil}
use Rattle.html_construction.specs.Origins.{is_made_alone}
use Rattle.html_arena.specs.declared.data.Origin.TheVariants.{Implied as Unasked, Token}
use Rattle.html_arena.specs.Siblings.{has}
use Rattle.html_arena.specs.Tree.{Tree as Nodes, detached, parent_of, tag_at, texted_run}
use Rattle.html_tokens.specs.declared.token.TokenKind.{TokenKind}
use Rattle.html_tokens.specs.declared.token.TokenKind.TheVariants as kind
use Rattle.html_ledger.specs.declared.symbol.Symbol.{Symbol}
use Rattle.html_ledger.specs.declared.symbol.Symbol.TheVariants as symbol
use Rattle.html_ledger.specs.Entries.{number_of}
use Rattle.html_ledger.specs.Symbols.{starts, symbol_of}
use Rattle.html_open.specs.declared.entry.Entry.TheVariants.{Marker}
use Rattle.html_open.specs.declared.places.Place.{Place}
use Rattle.html_open.specs.AdoptFinding.{element_in_scope}
use Rattle.html_open.specs.Entries.{has_node, is_marker}
use Rattle.html_open.specs.Lists.{below, up_to}
use Rattle.html_open.specs.Marking.{bare}
use Rattle.html_open.specs.Scopes.{stays}
use Rattle.html_open.proofs.Keeps.{cases_eqb}
use Rattle.html_open.proofs.Lasting.{entries-below, entries-marked, entries-pushed}
use Rattle.html_open.proofs.Ordering.{has-either, has-head}
use Rattle.html_tree.specs.declared.groups.Target.TheVariants as target
use Rattle.html_tree.specs.Closing.{bodiless, first_few, remaining}
use Rattle.html_tree.specs.Inserting.{with_new}
use Rattle.html_tree.specs.Searching.{found, found_name}
use Rattle.html_tree.specs.States.{State as Tree}
use Rattle.html_tree.specs.Targets.{place_for}
use Rattle.html_tree.specs.Texts.{place_here, text_before, text_node, tree_or_new}
use Rattle.html_construction.specs.declared.mode.Mode.{Mode}
use Rattle.html_construction.specs.declared.mode.Mode.TheVariants as mode
use Rattle.html_construction.specs.Calls.{element_of, form_closed, formless}
use Rattle.html_construction.specs.States.{State}
use Rattle.html_construction.specs.Tokens.{attrs_of, char_of, data_of, element_name, name_id, public_id, system_id, tag_name}
use Rattle.html_construction.specs.Words.{AddMarker, ClearTo, ClearToMarker, CloseForm, CloseNamed, CloseThrough, Drop, End, Implied, Imply, ImplyHead, ImplyPart, ImplyRoot, ImplyVoid, Insert, InsertAt, InsertCharacter, InsertClosedForm, InsertComment, InsertCommentAt, InsertDoctype, InsertForeign, InsertForeignVoid, InsertForm, InsertHead, InsertListed, InsertPart, InsertReplacement, InsertRoot, InsertVoid, InsertVoidAt, MergeIntoBody, MergeIntoRoot, Pop, PopTemplate, PushTemplate, ReplaceBody, Word, after}
use Rattle.html_laws.proofs.Stacks.{IsPart, part-before, part-few, part-remaining, part-self, part-then, part-up_to}
use Rattle.html_construction.proofs.Weighing.{same-tag}
use Rattle.html_laws.proofs.Chains.{both, join, left, not-true}
use Rattle.html_laws.proofs.Faces.{Adds, Face, adds-none, blank, blank-good, comment-adds, detached-adds, doctype-adds, element-adds, element-tagged, element_face, faces, is_tagged, kept-tag, longer, merged-adds, new-face, rest_faces, tally, tallied, text-adds, text_faces, weighs}
use Rattle.html_laws.proofs.Moved.{IsHeld, back}
use Rattle.html_laws.proofs.Moving.{opened}

abbrev pub bodies : State → ℕ
bodies a = tally tag.Body (faces a.tree.tree)

-- the modes in which the body is open, or a template before it, and in which text is not read alone
abbrev pub is_inner : Mode → Bool
is_inner mode.InBody = true
is_inner mode.InTable = true
is_inner mode.InCaption = true
is_inner mode.InColumnGroup = true
is_inner mode.InTableBody = true
is_inner mode.InRow = true
is_inner mode.InCell = true
is_inner mode.InSelect = true
is_inner mode.InSelectInTable = true
is_inner mode.InTemplate = true
is_inner mode.AfterBody = true
is_inner mode.AfterAfterBody = true
is_inner _ = false

-- What is so of each state.
pub record Ground (a : State) : Type 0 where
  pub held : IsHeld (opened a.tree)
  pub formed : (x : ℕ) → a.tree.form ≡ Some x → (x < length a.tree.tree.labels) × (tag_at a.tree.tree x ≡ tag.Form)
  pub templates : list_all is_inner a.templates ≡ true
  pub context : is_same (unwrap_or a.context tag.Html) tag.Html ≡ true
  pub refused : a.parses_foreign ≡ false

-- The nodes grew, and nothing is open, listed or pointed at but what was so or is new.
pub record Step (q : Bool) (a b : State) : Type 0 where
  pub added : List Face
  pub adds : Adds a.tree.tree b.tree.tree added
  pub tagged : list_all is_tagged added ≡ true
  pub spared : q ≡ true → tally tag.Body added ≡ 0
  pub stacked : (x : ℕ) → has x b.tree.stack ≡ true → (has x a.tree.stack ≡ true) ⊎ (x < length b.tree.tree.labels)
  pub listed : (x : ℕ) → has_node x b.tree.list ≡ true → (has_node x a.tree.list ≡ true) ⊎ ((x < length b.tree.tree.labels) × (is_formatting (tag_at b.tree.tree x) ≡ true))
  pub formed : (x : ℕ) → b.tree.form ≡ Some x → (a.tree.form ≡ Some x) ⊎ ((x < length b.tree.tree.labels) × (tag_at b.tree.tree x ≡ tag.Form))
  pub templates : list_all is_inner a.templates ≡ true → list_all is_inner b.templates ≡ true
  pub context_is : b.context ≡ a.context
  pub refused_is : b.parses_foreign ≡ a.parses_foreign
  pub made : a.ledger.history.template ≡ true → b.ledger.history.template ≡ true
  pub framed : a.ledger.history.frameset ≡ true → b.ledger.history.frameset ≡ true
  pub fragment_is : b.ledger.history.fragment ≡ a.ledger.history.fragment

pub step-in : (q : Bool) (a b : State) → Step q a b → (x : ℕ) → x < length a.tree.tree.labels → x < length b.tree.tree.labels
step-in q a b s x l = (let e = longer a.tree.tree b.tree.tree s.added s.adds in omega (arith, e, l))

held-by : (q : Bool) (a b : State) → Step q a b → IsHeld (opened a.tree) → IsHeld (opened b.tree)
held-by q a b s h = record {
  stacked = λ x k. elim (s.stacked x k) [ inl p ↦ step-in q a b s x (h.stacked x p) | inr p ↦ p ];
  listed = λ x k. elim (s.listed x k) [ inl p ↦ (let c = h.listed x p in (step-in q a b s x c.0, ap is_formatting (kept-tag a.tree.tree b.tree.tree s.added x s.adds c.0) ∙ c.1)) | inr p ↦ p ];
  tagged = ap (list_all is_tagged) s.adds.are ∙ list_all-append is_tagged (faces a.tree.tree) s.added ∙ join (list_all is_tagged (faces a.tree.tree)) (list_all is_tagged s.added) h.tagged s.tagged;
}

pub held-step : (a b : State) → Step true a b → IsHeld (opened a.tree) → IsHeld (opened b.tree)
held-step a b s h = held-by true a b s h

pub step-ground : (q : Bool) (a b : State) → Step q a b → Ground a → Ground b
step-ground q a b s g = record {
  held = held-by q a b s g.held;
  formed = λ x k. elim (s.formed x k) [ inl p ↦ (let c = g.formed x p in (step-in q a b s x c.0, kept-tag a.tree.tree b.tree.tree s.added x s.adds c.0 ∙ c.1)) | inr p ↦ p ];
  templates = s.templates g.templates;
  context = ap (λ o. is_same (unwrap_or o tag.Html) tag.Html) s.context_is ∙ g.context;
  refused = s.refused_is ∙ g.refused;
}

pub step-bodies : (a b : State) → Step true a b → bodies b ≡ bodies a
step-bodies a b s = (let p = tallied tag.Body a.tree.tree b.tree.tree s.added s.adds in let q = s.spared refl in omega (arith, p, q))

-- NAMES

pub start-name : (q : Tag → Bool) (t : TokenKind) → starts q (symbol_of t) ≡ true → q (tag_of (tag_name t)) ≡ true
start-name q (kind.Start name attrs self_closing) h = h
start-name q (kind.End name) h = absurd (false≢true h)
start-name q (kind.Char c) h = absurd (false≢true h)
start-name q (kind.Comment text) h = absurd (false≢true h)
start-name q (kind.Doctype n p s f) h = absurd (false≢true h)
start-name q kind.Eof h = absurd (false≢true h)

-- the token has a name that passes
abbrev pub is_called : (Tag → Bool) → Symbol → Bool
is_called q (symbol.Start g) = q g
is_called q (symbol.End g) = q g
is_called q _ = q tag.Other

pub called-name : (q : Tag → Bool) (t : TokenKind) → is_called q (symbol_of t) ≡ q (tag_of (tag_name t))
called-name q (kind.Start name attrs self_closing) = refl
called-name q (kind.End name) = refl
called-name q (kind.Char c) = ap q tag_of-nil
called-name q (kind.Comment text) = ap q tag_of-nil
called-name q (kind.Doctype n p s f) = ap q tag_of-nil
called-name q kind.Eof = ap q tag_of-nil

-- what an element of this name adds
abbrev pub of_name : List ℕ → List Face
of_name name = element_face name ∷ rest_faces (is_template (tag_of name))

pub name-tagged : (name : List ℕ) → list_all is_tagged (of_name name) ≡ true
name-tagged name = join (is_tagged (element_face name)) (list_all is_tagged (rest_faces (is_template (tag_of name)))) (element-tagged name) (by (is_template (tag_of name)))
  where
    by : (b : Bool) → list_all is_tagged (rest_faces b) ≡ true
    by true = blank-good
    by false = refl

pub name-bodies : (name : List ℕ) → is_same (tag_of name) tag.Body ≡ false → tally tag.Body (of_name name) ≡ 0
name-bodies name h =
    let p = sum_by-cons (weighs tag.Body) (element_face name) (rest_faces (is_template (tag_of name))) in
    let q : weighs tag.Body (element_face name) ≡ 0 = ap (λ b. cond b 1 0) h in
    let r = by (is_template (tag_of name)) in
    omega (arith, p, q, r)
  where
    by : (b : Bool) → tally tag.Body (rest_faces b) ≡ 0
    by true = refl
    by false = refl

pub one-body : (name : List ℕ) → tally tag.Body (of_name name) ≤ 1
one-body name =
    let p = sum_by-cons (weighs tag.Body) (element_face name) (rest_faces (is_template (tag_of name))) in
    let q = most (is_same (tag_of name) tag.Body) in
    let r = by (is_template (tag_of name)) in
    omega (arith, p, q, r)
  where
    most : (b : Bool) → cond b 1 0 ≤ 1
    most true = omega arith
    most false = omega arith

    by : (b : Bool) → tally tag.Body (rest_faces b) ≡ 0
    by true = refl
    by false = refl

-- STEPS

-- what is not of the tree
record Rest (a b : State) : Type 0 where
  templates : list_all is_inner a.templates ≡ true → list_all is_inner b.templates ≡ true
  context_is : b.context ≡ a.context
  refused_is : b.parses_foreign ≡ a.parses_foreign
  made : a.ledger.history.template ≡ true → b.ledger.history.template ≡ true
  framed : a.ledger.history.frameset ≡ true → b.ledger.history.frameset ≡ true
  fragment_is : b.ledger.history.fragment ≡ a.ledger.history.fragment

step : (q : Bool) (a b : State) (fs : List Face) → Rest a b → Adds a.tree.tree b.tree.tree fs → list_all is_tagged fs ≡ true → tally tag.Body fs ≡ 0
    → ((x : ℕ) → has x b.tree.stack ≡ true → has x a.tree.stack ≡ true)
    → ((x : ℕ) → has_node x b.tree.list ≡ true → has_node x a.tree.list ≡ true)
    → ((x : ℕ) → b.tree.form ≡ Some x → a.tree.form ≡ Some x) → Step q a b
step q a b fs r d t n s l f = record {
  added = fs;
  adds = d;
  tagged = t;
  spared = λ k. n;
  stacked = λ x k. inl (s x k);
  listed = λ x k. inl (l x k);
  formed = λ x k. inl (f x k);
  templates = r.templates;
  context_is = r.context_is;
  refused_is = r.refused_is;
  made = r.made;
  framed = r.framed;
  fragment_is = r.fragment_is;
}

-- a new element of this name
new-step : (q : Bool) (a b : State) (name : List ℕ) → (q ≡ true → is_same (tag_of name) tag.Body ≡ false) → Rest a b → Adds a.tree.tree b.tree.tree (of_name name)
    → ((x : ℕ) → has x b.tree.stack ≡ true → (has x a.tree.stack ≡ true) ⊎ (x ≡ length a.tree.tree.labels))
    → ((x : ℕ) → has_node x b.tree.list ≡ true → (has_node x a.tree.list ≡ true) ⊎ ((x ≡ length a.tree.tree.labels) × (is_formatting (tag_of name) ≡ true)))
    → ((x : ℕ) → b.tree.form ≡ Some x → (a.tree.form ≡ Some x) ⊎ ((x ≡ length a.tree.tree.labels) × (tag_of name ≡ tag.Form))) → Step q a b
new-step q a b name o r d s l f = record {
  added = of_name name;
  adds = d;
  tagged = name-tagged name;
  spared = λ k. name-bodies name (o k);
  stacked = λ x k. elim (s x k) [ inl p ↦ inl p | inr p ↦ inr (within x p) ];
  listed = λ x k. elim (l x k) [ inl p ↦ inl p | inr p ↦ inr (within x p.0, ap is_formatting (here x p.0) ∙ p.1) ];
  formed = λ x k. elim (f x k) [ inl p ↦ inl p | inr p ↦ inr (within x p.0, here x p.0 ∙ p.1) ];
  templates = r.templates;
  context_is = r.context_is;
  refused_is = r.refused_is;
  made = r.made;
  framed = r.framed;
  fragment_is = r.fragment_is;
}
  where
    within : (x : ℕ) → x ≡ length a.tree.tree.labels → x < length b.tree.tree.labels
    within x e = (let l = longer a.tree.tree b.tree.tree (of_name name) d in omega (arith, e, l))

    here : (x : ℕ) → x ≡ length a.tree.tree.labels → tag_at b.tree.tree x ≡ tag_of name
    here x e = ap (tag_at b.tree.tree) e ∙ ap (λ (v : Face). v.tag) (new-face a.tree.tree b.tree.tree (element_face name) (rest_faces (is_template (tag_of name))) d)

pushed-on : (n : ℕ) (s : List ℕ) (x : ℕ) → has x (s ++ n ∷ []) ≡ true → (has x s ≡ true) ⊎ (x ≡ n)
pushed-on n s x k = elim (has-either x s (n ∷ []) k) [ inl p ↦ inl p | inr p ↦ elim (has-head x n [] p) [ inl e ↦ inr e | inr e ↦ absurd (false≢true e) ] ]

module _ (t : TokenKind) (a : State) where
  plain : (b : State) → b.templates ≡ a.templates → b.context ≡ a.context → b.parses_foreign ≡ a.parses_foreign → b.ledger.history ≡ a.ledger.history → Rest a b
  plain b e c f h = record {
    templates = λ k. ap (list_all is_inner) e ∙ k;
    context_is = c;
    refused_is = f;
    made = λ k. ap (λ v. v.template) h ∙ k;
    framed = λ k. ap (λ v. v.frameset) h ∙ k;
    fragment_is = ap (λ v. v.fragment) h;
  }

  given-rest : (b : State) → b.templates ≡ a.templates → b.context ≡ a.context → b.parses_foreign ≡ a.parses_foreign
      → (a.ledger.history.template ≡ true → b.ledger.history.template ≡ true) → (a.ledger.history.frameset ≡ true → b.ledger.history.frameset ≡ true) → b.ledger.history.fragment ≡ a.ledger.history.fragment → Rest a b
  given-rest b e c f m n q = record { templates = λ k. ap (list_all is_inner) e ∙ k; context_is = c; refused_is = f; made = m; framed = n; fragment_is = q }

  -- the same nodes
  cut-step : (b : State) → Rest a b → b.tree.tree.labels ≡ a.tree.tree.labels → IsPart b.tree.stack a.tree.stack → ((x : ℕ) → has_node x b.tree.list ≡ true → has_node x a.tree.list ≡ true) → b.tree.form ≡ a.tree.form → Step true a b
  cut-step b r e s l f = step true a b [] r (adds-none a.tree.tree b.tree.tree e) refl refl s.there l (λ x k. sym f ∙ k)

  -- a new element is open
  open-step : (q : Bool) (b : State) (name : List ℕ) → (q ≡ true → is_same (tag_of name) tag.Body ≡ false) → Rest a b → Adds a.tree.tree b.tree.tree (of_name name) → b.tree.stack ≡ a.tree.stack ++ length a.tree.tree.labels ∷ [] → b.tree.list ≡ a.tree.list → b.tree.form ≡ a.tree.form → Step q a b
  open-step q b name o r d s l f = new-step q a b name o r d (λ x k. pushed-on (length a.tree.tree.labels) a.tree.stack x (sym (ap (has x) s) ∙ k)) (λ x k. inl (sym (ap (has_node x) l) ∙ k)) (λ x k. inl (sym f ∙ k))

  -- a new element is not
  place-step : (q : Bool) (b : State) (name : List ℕ) → (q ≡ true → is_same (tag_of name) tag.Body ≡ false) → Rest a b → Adds a.tree.tree b.tree.tree (of_name name) → b.tree.stack ≡ a.tree.stack → b.tree.list ≡ a.tree.list → b.tree.form ≡ a.tree.form → Step q a b
  place-step q b name o r d s l f = new-step q a b name o r d (λ x k. inl (sym (ap (has x) s) ∙ k)) (λ x k. inl (sym (ap (has_node x) l) ∙ k)) (λ x k. inl (sym f ∙ k))

  -- another node
  quiet-step : (b : State) (fs : List Face) → Rest a b → Adds a.tree.tree b.tree.tree fs → list_all is_tagged fs ≡ true → tally tag.Body fs ≡ 0 → b.tree.stack ≡ a.tree.stack → b.tree.list ≡ a.tree.list → b.tree.form ≡ a.tree.form → Step true a b
  quiet-step b fs r d t n s l f = step true a b fs r d t n (λ x k. sym (ap (has x) s) ∙ k) (λ x k. sym (ap (has_node x) l) ∙ k) (λ x k. sym f ∙ k)

  text-none : (o : Option ℕ) → tally tag.Body (text_faces o) ≡ 0
  text-none None = refl
  text-none (Some x) = refl

  text-tagged : (o : Option ℕ) → list_all is_tagged (text_faces o) ≡ true
  text-tagged None = blank-good
  text-tagged (Some x) = refl

  form-labels : (u : Tree) (o : Option ℕ) → (form_closed u o).tree ≡ u.tree
  form-labels u None = refl
  form-labels u (Some x) = by (element_in_scope u.tree x u.stack)
    where
      by : (b : Bool) → (cond b (record (formless u) { stack = remaining x (up_to (stays u.tree None) u.stack) }) (formless u)).tree ≡ u.tree
      by true = refl
      by false = refl

  form-list : (u : Tree) (o : Option ℕ) → (form_closed u o).list ≡ u.list
  form-list u None = refl
  form-list u (Some x) = by (element_in_scope u.tree x u.stack)
    where
      by : (b : Bool) → (cond b (record (formless u) { stack = remaining x (up_to (stays u.tree None) u.stack) }) (formless u)).list ≡ u.list
      by true = refl
      by false = refl

  form-none : (u : Tree) (o : Option ℕ) → (form_closed u o).form ≡ None
  form-none u None = refl
  form-none u (Some x) = by (element_in_scope u.tree x u.stack)
    where
      by : (b : Bool) → (cond b (record (formless u) { stack = remaining x (up_to (stays u.tree None) u.stack) }) (formless u)).form ≡ None
      by true = refl
      by false = refl

  form-part : (u : Tree) (o : Option ℕ) → IsPart (form_closed u o).stack u.stack
  form-part u None = part-self u.stack
  form-part u (Some x) = by (element_in_scope u.tree x u.stack)
    where
      by : (b : Bool) → IsPart (cond b (record (formless u) { stack = remaining x (up_to (stays u.tree None) u.stack) }) (formless u)).stack u.stack
      by true = part-then (remaining x (up_to (stays u.tree None) u.stack)) (up_to (stays u.tree None) u.stack) u.stack (part-remaining x (up_to (stays u.tree None) u.stack)) (part-up_to (stays u.tree None) u.stack)
      by false = part-self u.stack

-- the words that make no element of the name of a pointer or of the list that is none, and none of foreign content
abbrev pub grows : Symbol → Word → Bool
grows y InsertListed = starts is_formatting y
grows y InsertForm = starts (λ g. is_same g tag.Form) y
grows y InsertClosedForm = starts (λ g. is_same g tag.Form) y
grows y (PushTemplate m) = is_inner m
grows y (InsertForeign s) = false
grows y (InsertForeignVoid s) = false
grows y _ = true

-- no token asked for it, and it is no body
abbrev pub is_other_implied : Tag → Bool
is_other_implied n = is_made_alone n && not (is_same n tag.Body)

abbrev pub is_no_body : Tag → Bool
is_no_body g = not (is_same g tag.Body)

-- the words that make no body
abbrev pub spares : Symbol → Word → Bool
spares y Insert = is_called is_no_body y
spares y (InsertAt p) = is_called is_no_body y
spares y InsertPart = is_called is_no_body y
spares y (InsertVoid n) = is_called is_no_body y
spares y (InsertVoidAt n p) = is_called is_no_body y
spares y InsertListed = is_called is_no_body y
spares y InsertHead = is_called is_no_body y
spares y InsertForm = is_called is_no_body y
spares y InsertClosedForm = is_called is_no_body y
spares y ReplaceBody = is_called is_no_body y
spares y (Imply n) = is_other_implied n
spares y (ImplyPart n) = is_other_implied n
spares y (ImplyVoid n) = is_other_implied n
spares y _ = true

implied-tag : (n : Tag) → is_other_implied n ≡ true → is_same (tag_of (name_of n)) tag.Body ≡ false
unfolding tag_of
implied-tag tag.Html h = refl
implied-tag tag.Head h = refl
implied-tag tag.Body h = absurd (false≢true h)
implied-tag tag.P h = refl
implied-tag tag.Br h = refl
implied-tag tag.Colgroup h = refl
implied-tag tag.Tbody h = refl
implied-tag tag.Tr h = refl
implied-tag n h = absurd (false≢true h)

html-tag : is_same (tag_of (name_of tag.Html)) tag.Body ≡ false
unfolding tag_of
html-tag = refl

head-tag : is_same (tag_of (name_of tag.Head)) tag.Body ≡ false
unfolding tag_of
head-tag = refl

img-tag : is_same (tag_of (name_of tag.Img)) tag.Body ≡ false
unfolding tag_of
img-tag = refl

token-name : (t : TokenKind) → is_called is_no_body (symbol_of t) ≡ true → is_same (tag_of (tag_name t)) tag.Body ≡ false
token-name t h = not-true (is_same (tag_of (tag_name t)) tag.Body) (sym (called-name is_no_body t) ∙ h)

void-name : (n : Tag) (t : TokenKind) → is_called is_no_body (symbol_of t) ≡ true → is_same (tag_of (element_name n t)) tag.Body ≡ false
void-name n t h = by (is_same n tag.Image)
  where
    by : (b : Bool) → is_same (tag_of (if b then name_of tag.Img else tag_name t)) tag.Body ≡ false
    by true = img-tag
    by false = token-name t h

pub push-inner : (ms : List Mode) (m : Mode) → list_all is_inner ms ≡ true → is_inner m ≡ true → list_all is_inner (ms ++ m ∷ []) ≡ true
push-inner [] m h k = join (is_inner m) true k refl
push-inner (n ∷ ms) m h k = (let c = both (is_inner n) (list_all is_inner ms) h in join (is_inner n) (list_all is_inner (ms ++ m ∷ [])) c.0 (push-inner ms m c.1 k))

pub take-inner : (n : ℕ) (ms : List Mode) → list_all is_inner ms ≡ true → list_all is_inner (take n ms) ≡ true
take-inner zero ms h = refl
take-inner (suc n) [] h = refl
take-inner (suc n) (m ∷ ms) h = (let c = both (is_inner m) (list_all is_inner ms) h in join (is_inner m) (list_all is_inner (take n ms)) c.0 (take-inner n ms c.1))

module _ (t : TokenKind) (a : State) where
  pub word-step : (w : Word) → grows (symbol_of t) w ≡ true → Step (spares (symbol_of t) w) a (after w t a)
  word-step (ClearTo c) g = cut-step t a (after (ClearTo c) t a) (plain t a (after (ClearTo c) t a) refl refl refl refl) refl (part-few _ a.tree.stack) (λ x k. k) refl
  word-step Pop g = cut-step t a (after Pop t a) (plain t a (after Pop t a) refl refl refl refl) refl (part-few _ a.tree.stack) (λ x k. k) refl
  word-step (CloseThrough k e) g = cut-step t a (after (CloseThrough k e) t a) (plain t a (after (CloseThrough k e) t a) refl refl refl refl) refl (part-before (found a.tree k e) a.tree.stack) (λ x k. k) refl
  word-step CloseNamed g = cut-step t a (after CloseNamed t a) (plain t a (after CloseNamed t a) refl refl refl refl) refl (part-before (found_name a.tree (tag_name t)) a.tree.stack) (λ x k. k) refl
  word-step (Implied e) g = cut-step t a (after (Implied e) t a) (plain t a (after (Implied e) t a) refl refl refl refl) refl (part-up_to (stays a.tree.tree e) a.tree.stack) (λ x k. k) refl
  word-step AddMarker g = cut-step t a (after AddMarker t a) (plain t a (after AddMarker t a) refl refl refl refl) refl (part-self a.tree.stack) (λ x k. back (has_node x a.tree.list) (has_node x (a.tree.list ++ Marker ∷ [])) (entries-marked a.tree.list x) k) refl
  word-step ClearToMarker g = cut-step t a (after ClearToMarker t a) (plain t a (after ClearToMarker t a) refl refl refl refl) refl (part-self a.tree.stack) (λ x k. back (has_node x a.tree.list) (has_node x (below is_marker a.tree.list)) (entries-below a.tree.list x) k) refl
  word-step Insert g = open-step t a (spares (symbol_of t) Insert) (after Insert t a) (tag_name t) (token-name t) (given-rest t a (after Insert t a) refl refl refl (λ k. left _ _ k) (λ k. left _ _ k) refl) (element-adds a.tree.tree _ (tag_name t) (attrs_of t) _) refl refl refl
  word-step (InsertAt p) g = open-step t a (spares (symbol_of t) (InsertAt p)) (after (InsertAt p) t a) (tag_name t) (token-name t) (given-rest t a (after (InsertAt p) t a) refl refl refl (λ k. left _ _ k) (λ k. left _ _ k) refl) (element-adds a.tree.tree _ (tag_name t) (attrs_of t) _) refl refl refl
  word-step InsertPart g = open-step t a (spares (symbol_of t) InsertPart) (after InsertPart t a) (tag_name t) (token-name t) (given-rest t a (after InsertPart t a) refl refl refl (λ k. left _ _ k) (λ k. left _ _ k) refl) (element-adds a.tree.tree (place_for a.tree (target.Current false)) (tag_name t) (attrs_of t) (Token (number_of a.ledger))) refl refl refl
  word-step (InsertVoid m) g = place-step t a (spares (symbol_of t) (InsertVoid m)) (after (InsertVoid m) t a) (element_name m t) (void-name m t) (given-rest t a (after (InsertVoid m) t a) refl refl refl (λ k. left _ _ k) (λ k. left _ _ k) refl) (element-adds a.tree.tree _ (element_name m t) (attrs_of t) _) refl refl refl
  word-step (InsertVoidAt m p) g = place-step t a (spares (symbol_of t) (InsertVoidAt m p)) (after (InsertVoidAt m p) t a) (element_name m t) (void-name m t) (given-rest t a (after (InsertVoidAt m p) t a) refl refl refl (λ k. left _ _ k) (λ k. left _ _ k) refl) (element-adds a.tree.tree _ (element_name m t) (attrs_of t) _) refl refl refl
  word-step InsertListed g =
      new-step (spares (symbol_of t) InsertListed) a (after InsertListed t a) (tag_name t) (token-name t) (given-rest t a (after InsertListed t a) refl refl refl (λ k. left _ _ k) (λ k. left _ _ k) refl) (element-adds a.tree.tree _ (tag_name t) (attrs_of t) _)
      (λ x k. pushed-on (length a.tree.tree.labels) a.tree.stack x k)
      (λ x k. elim (cases_eqb x (length a.tree.tree.labels)) [
        | inl e ↦ inr (e.1, start-name is_formatting t g)
        | inr e ↦ inl (back (has_node x a.tree.list) (has_node x (after InsertListed t a).tree.list) (entries-pushed (with_new a.tree.tree (place_for a.tree (target.Current a.fostering)) (element_of a t)) (length a.tree.tree.labels) a.tree.list x e.1) k)
      ])
      (λ x k. inl k)
  word-step InsertHead g = open-step t a (spares (symbol_of t) InsertHead) (after InsertHead t a) (tag_name t) (token-name t) (given-rest t a (after InsertHead t a) refl refl refl (λ k. left _ _ k) (λ k. left _ _ k) refl) (element-adds a.tree.tree _ (tag_name t) (attrs_of t) _) refl refl refl
  word-step InsertForm g =
      new-step (spares (symbol_of t) InsertForm) a (after InsertForm t a) (tag_name t) (token-name t) (given-rest t a (after InsertForm t a) refl refl refl (λ k. left _ _ k) (λ k. left _ _ k) refl) (element-adds a.tree.tree _ (tag_name t) (attrs_of t) _)
      (λ x k. pushed-on (length a.tree.tree.labels) a.tree.stack x k) (λ x k. inl k)
      (λ x k. inr (some-is x (length a.tree.tree.labels) k, same-tag (tag_of (tag_name t)) tag.Form (start-name (λ v. is_same v tag.Form) t g)))
    where
      some-is : (x y : ℕ) → Some y ≡ Some x → x ≡ y
      some-is x y e = (let k : y ≡ x = cc in sym k)
  word-step InsertClosedForm g =
      new-step (spares (symbol_of t) InsertClosedForm) a (after InsertClosedForm t a) (tag_name t) (token-name t) (given-rest t a (after InsertClosedForm t a) refl refl refl (λ k. left _ _ k) (λ k. left _ _ k) refl) (element-adds a.tree.tree _ (tag_name t) (attrs_of t) _)
      (λ x k. inl k) (λ x k. inl k)
      (λ x k. inr (some-is x (length a.tree.tree.labels) k, same-tag (tag_of (tag_name t)) tag.Form (start-name (λ v. is_same v tag.Form) t g)))
    where
      some-is : (x y : ℕ) → Some y ≡ Some x → x ≡ y
      some-is x y e = (let k : y ≡ x = cc in sym k)
  word-step CloseForm g =
      step true a (after CloseForm t a) [] (plain t a (after CloseForm t a) refl refl refl refl) (adds-none a.tree.tree (after CloseForm t a).tree.tree (ap (λ (v : Nodes). v.labels) (form-labels t a a.tree a.tree.form))) refl refl
      (form-part t a a.tree a.tree.form).there (λ x k. sym (ap (has_node x) (form-list t a a.tree a.tree.form)) ∙ k) (λ x k. absurd (none-some x (sym (form-none t a a.tree a.tree.form) ∙ k)))
    where
      none-some : (x : ℕ) → None ≡ Some x → ⊥
      none-some x e = cc
  word-step ReplaceBody g =
      new-step (spares (symbol_of t) ReplaceBody) a (after ReplaceBody t a) (tag_name t) (token-name t) (given-rest t a (after ReplaceBody t a) refl refl refl (λ k. left _ _ k) (λ k. left _ _ k) refl)
      (record { are = (element-adds (bodiless a.tree).tree (place_for (bodiless a.tree) target.First) (tag_name t) (attrs_of t) (Token (number_of a.ledger))).are ∙ ap (λ v. v ++ of_name (tag_name t)) ((detached-adds a.tree.tree (slice_index a.tree.stack 1) (parent_of a.tree.tree (slice_index a.tree.stack 1))).are ∙ append-nil (faces a.tree.tree)) })
      (λ x k. elim (pushed-on (length (bodiless a.tree).tree.labels) (first_few 1 a.tree.stack) x k) [
        | inl p ↦ inl ((part-few 1 a.tree.stack).there x p)
        | inr p ↦ inr (p ∙ ap length (labels-same (parent_of a.tree.tree (slice_index a.tree.stack 1))))
      ])
      (λ x k. inl k) (λ x k. inl k)
    where
      labels-same : (o : Option ℕ) → (detached a.tree.tree (slice_index a.tree.stack 1) o).labels ≡ a.tree.tree.labels
      labels-same None = refl
      labels-same (Some p) = refl
  word-step InsertRoot g = open-step t a (spares (symbol_of t) InsertRoot) (after InsertRoot t a) (name_of tag.Html) (λ k. html-tag) (given-rest t a (after InsertRoot t a) refl refl refl (λ k. left _ _ k) (λ k. left _ _ k) refl) (element-adds a.tree.tree (place_for a.tree target.Document) (name_of tag.Html) (attrs_of t) (Token (number_of a.ledger))) refl refl refl
  word-step (Imply m) g = open-step t a (spares (symbol_of t) (Imply m)) (after (Imply m) t a) (name_of m) (implied-tag m) (plain t a (after (Imply m) t a) refl refl refl refl) (element-adds a.tree.tree _ (name_of m) [] Unasked) refl refl refl
  word-step (ImplyPart m) g = open-step t a (spares (symbol_of t) (ImplyPart m)) (after (ImplyPart m) t a) (name_of m) (implied-tag m) (plain t a (after (ImplyPart m) t a) refl refl refl refl) (element-adds a.tree.tree (place_for a.tree (target.Current false)) (name_of m) [] Unasked) refl refl refl
  word-step (ImplyVoid m) g = place-step t a (spares (symbol_of t) (ImplyVoid m)) (after (ImplyVoid m) t a) (name_of m) (implied-tag m) (plain t a (after (ImplyVoid m) t a) refl refl refl refl) (element-adds a.tree.tree _ (name_of m) [] Unasked) refl refl refl
  word-step ImplyHead g = open-step t a (spares (symbol_of t) ImplyHead) (after ImplyHead t a) (name_of tag.Head) (λ k. head-tag) (plain t a (after ImplyHead t a) refl refl refl refl) (element-adds a.tree.tree _ (name_of tag.Head) [] Unasked) refl refl refl
  word-step ImplyRoot g = open-step t a (spares (symbol_of t) ImplyRoot) (after ImplyRoot t a) (name_of tag.Html) (λ k. html-tag) (plain t a (after ImplyRoot t a) refl refl refl refl) (element-adds a.tree.tree (place_for a.tree target.Document) (name_of tag.Html) [] Unasked) refl refl refl
  word-step InsertComment g = quiet-step t a (after InsertComment t a) (blank ∷ []) (given-rest t a (after InsertComment t a) refl refl refl (λ k. left _ _ k) (λ k. left _ _ k) refl) (comment-adds a.tree.tree _ (data_of t) _) blank-good refl refl refl refl
  word-step (InsertCommentAt p) g = quiet-step t a (after (InsertCommentAt p) t a) (blank ∷ []) (given-rest t a (after (InsertCommentAt p) t a) refl refl refl (λ k. left _ _ k) (λ k. left _ _ k) refl) (comment-adds a.tree.tree _ (data_of t) _) blank-good refl refl refl refl
  word-step InsertDoctype g = quiet-step t a (after InsertDoctype t a) (blank ∷ []) (given-rest t a (after InsertDoctype t a) refl refl refl (λ k. left _ _ k) (λ k. left _ _ k) refl) (doctype-adds a.tree.tree (place_for a.tree target.Document) (name_id t) (public_id t) (system_id t) (number_of a.ledger)) blank-good refl refl refl refl
  word-step InsertCharacter g =
      let o = text_before a.tree.tree (place_here a.tree a.fostering) in
      quiet-step t a (after InsertCharacter t a) (text_faces o) (given-rest t a (after InsertCharacter t a) refl refl refl (λ k. left _ _ k) (λ k. left _ _ k) refl) (text-adds-bare a.tree.tree (place_here a.tree a.fostering) o (text_node a.tree a.fostering) (char_of t)) (text-tagged t a o) (text-none t a o) refl refl refl
    where
      text-adds-bare : (v : Nodes) (at : Place) (o : Option ℕ) (x : ℕ) (run : List ℕ) → Adds v (bare (texted_run (tree_or_new v at o) x run)) (text_faces o)
      text-adds-bare v at o x run = record { are = (text-adds v at o x run).are }
  word-step InsertReplacement g =
      let o = text_before a.tree.tree (place_here a.tree a.fostering) in
      quiet-step t a (after InsertReplacement t a) (text_faces o) (given-rest t a (after InsertReplacement t a) refl refl refl (λ k. left _ _ k) (λ k. left _ _ k) refl) (text-adds-bare a.tree.tree (place_here a.tree a.fostering) o (text_node a.tree a.fostering) (65533 ∷ [])) (text-tagged t a o) (text-none t a o) refl refl refl
    where
      text-adds-bare : (v : Nodes) (at : Place) (o : Option ℕ) (x : ℕ) (run : List ℕ) → Adds v (bare (texted_run (tree_or_new v at o) x run)) (text_faces o)
      text-adds-bare v at o x run = record { are = (text-adds v at o x run).are }
  word-step MergeIntoRoot g = quiet-step t a (after MergeIntoRoot t a) [] (given-rest t a (after MergeIntoRoot t a) refl refl refl (λ k. left _ _ k) (λ k. left _ _ k) refl) (record { are = (merged-adds a.tree.tree (slice_index a.tree.stack 0) (attrs_of t)).are }) refl refl refl refl refl
  word-step MergeIntoBody g = quiet-step t a (after MergeIntoBody t a) [] (given-rest t a (after MergeIntoBody t a) refl refl refl (λ k. left _ _ k) (λ k. left _ _ k) refl) (record { are = (merged-adds a.tree.tree (slice_index a.tree.stack 1) (attrs_of t)).are }) refl refl refl refl refl
  word-step (Drop c) g = quiet-step t a (after (Drop c) t a) [] (given-rest t a (after (Drop c) t a) refl refl refl (λ k. left _ _ k) (λ k. left _ _ k) refl) (adds-none a.tree.tree a.tree.tree refl) refl refl refl refl refl
  word-step End g = quiet-step t a (after End t a) [] (given-rest t a (after End t a) refl refl refl (λ k. left _ _ k) (λ k. left _ _ k) refl) (adds-none a.tree.tree a.tree.tree refl) refl refl refl refl refl
  word-step (PushTemplate m) g = quiet-step t a (after (PushTemplate m) t a) [] (record { templates = λ k. push-inner a.templates m k g; context_is = refl; refused_is = refl; made = λ k. k; framed = λ k. k; fragment_is = refl }) (adds-none a.tree.tree a.tree.tree refl) refl refl refl refl refl
  word-step PopTemplate g = quiet-step t a (after PopTemplate t a) [] (record { templates = λ k. take-inner (length a.templates - 1) a.templates k; context_is = refl; refused_is = refl; made = λ k. k; framed = λ k. k; fragment_is = refl }) (adds-none a.tree.tree a.tree.tree refl) refl refl refl refl refl
  word-step (InsertForeign s) g = absurd (false≢true g)
  word-step (InsertForeignVoid s) g = absurd (false≢true g)
  word-step w g = quiet-step t a (after w t a) [] (plain t a (after w t a) refl refl refl refl) (adds-none a.tree.tree a.tree.tree refl) refl refl refl refl refl

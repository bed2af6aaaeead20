-- What a run of a plan makes of html elements: by what the plan says.
use Rattle.std.proofs.Common.{◌≡◌, ℕ, zero, suc, ◌+◌, ◌-◌, ◌≤◌, Bool, true, false, not, cond, ◌&&◌, ◌||◌, List, [], ◌∷◌, ◌++◌, length, take, if◌then◌else◌, slice_index, Option, Some, None, unwrap_or, refl, sym, ◌∙◌, ap, subst, arith}
use Rattle.std.specs.List.{list_all}
use Rattle.std.proofs.lemmas.Bool.{false≢true}
use Rattle.html_names.specs.declared.tag.Tag.{Tag}
use Rattle.html_names.specs.declared.tag.Tag.TheVariants as tag
use Rattle.html_names.specs.Names.{name_of, tag_of}
use Rattle.html_names.specs.Tags.{is_same}
use Rattle.html_arena.specs.declared.data.Origin.TheVariants.{Implied as Unasked, Token}
use Rattle.html_arena.specs.Make.{label_for}
use Rattle.html_arena.specs.Tree.{Tree as Nodes, parent_of}
use Rattle.html_arena.proofs.Labels.{tag_of-nil}
use Rattle.html_tokens.specs.declared.token.TokenKind.{TokenKind}
use Rattle.html_tokens.specs.declared.token.TokenKind.TheVariants as kind
use Rattle.html_ledger.specs.declared.symbol.Symbol.{Symbol}
use Rattle.html_ledger.specs.declared.symbol.Symbol.TheVariants as symbol
use Rattle.html_ledger.specs.Entries.{number_of}
use Rattle.html_ledger.specs.Symbols.{symbol_of}
use Rattle.html_tree.specs.declared.groups.Target.TheVariants as target
use Rattle.html_open.specs.AdoptFinding.{element_in_scope}
use Rattle.html_open.specs.Lists.{up_to}
use Rattle.html_open.specs.Scopes.{stays}
use Rattle.html_tree.specs.Closing.{bodiless, remaining}
use Rattle.html_tree.specs.OpenTags.{open_tags}
use Rattle.html_tree.specs.States.{State as Tree}
use Rattle.html_tree.specs.Targets.{place_for}
use Rattle.html_tree.specs.Texts.{place_here, text_before, text_node}
use Rattle.html_construction.specs.declared.mode.Mode.{Mode}
use Rattle.html_construction.specs.declared.mode.Mode.TheVariants as mode
use Rattle.html_construction.specs.Calls.{comment_of, counting, doctype_of, element_of, form_closed, formless, implied_of, void_of}
use Rattle.html_construction.specs.Origins.{is_made_alone}
use Rattle.html_construction.specs.Plans.{Adopt, Ask, By, CloseLink, Do, Each, Ending, Foster, IsMoved, Over, Plan, Reconstruct, Rules, Runs, Settle, Stop, adopts, asks, closes_link, does, does_each, ends_each, fosters, goes_by, reconstructs, settles, stops}
use Rattle.html_construction.specs.Resetting.{element_mode, mode_of, or_mode, outermost_mode, reset_mode, root_mode, select_mode, template_mode, is_none_left}
use Rattle.html_construction.specs.States.{State}
use Rattle.html_construction.specs.Tokens.{attrs_of, char_of, element_name, tag_name}
use Rattle.html_construction.specs.Words.{Becomes, CloseForm, Enter, Imply, ImplyHead, ImplyPart, ImplyRoot, ImplyVoid, Insert, InsertAt, InsertCharacter, InsertClosedForm, InsertComment, InsertCommentAt, InsertDoctype, InsertForeign, InsertForeignVoid, InsertForm, InsertHead, InsertListed, InsertPart, InsertReplacement, InsertRoot, InsertVoid, InsertVoidAt, Leave, MergeIntoBody, MergeIntoRoot, PopTemplate, PushTemplate, ReplaceBody, Reset, Switch, Word, after, answer, with_kept}
use Rattle.html_construction.proofs.Planned.{halves as both}
use Rattle.html_laws.proofs.Keeping.{not-true}
use Rattle.html_laws.proofs.Natives.{asked-none, asks_foreign}
use Rattle.html_laws.proofs.Owned.{added, closed-own, detached-own, ended-own, htmls, merged-own, no-element, own, reopened-own, text-own}
use Rattle.html_laws.proofs.Words.{becomes-core}

-- MODES

-- the modes "initial" and "before html"
abbrev pub is_early : Mode → Bool
is_early mode.Initial = true
is_early mode.BeforeHtml = true
is_early _ = false

-- the modes that are left for the original one
abbrev pub waits : Mode → Bool
waits mode.Text = true
waits mode.InTableText = true
waits _ = false

-- any other
abbrev pub is_late : Mode → Bool
is_late mode.Initial = false
is_late mode.BeforeHtml = false
is_late mode.Text = false
is_late mode.InTableText = false
is_late _ = true

pub late-not-early : (m : Mode) → is_late m ≡ true → is_early m ≡ false
late-not-early mode.Initial h = absurd (false≢true h)
late-not-early mode.BeforeHtml h = absurd (false≢true h)
late-not-early m h = refl

pub late-not-waits : (m : Mode) → is_late m ≡ true → waits m ≡ false
late-not-waits mode.Text h = absurd (false≢true h)
late-not-waits mode.InTableText h = absurd (false≢true h)
late-not-waits m h = refl

pub join : (a b : Bool) → a ≡ true → b ≡ true → (a && b) ≡ true
join true b h k = k
join false b h k = absurd (false≢true h)

-- RESETTING THE INSERTION MODE

abbrev late_or : Option Mode → Bool
late_or None = true
late_or (Some m) = is_late m

template-late : (ms : List Mode) → list_all is_late ms ≡ true → is_late (template_mode ms) ≡ true
template-late [] h = refl
template-late (m ∷ []) h = (both (is_late m) (list_all is_late []) h).0
template-late (m ∷ n ∷ ms) h = template-late (n ∷ ms) ((both (is_late m) (list_all is_late (n ∷ ms)) h).1)

root-late : (head : Option ℕ) → is_late (root_mode head) ≡ true
root-late None = refl
root-late (Some x) = refl

select-late : (below : List Tag) → is_late (select_mode below) ≡ true
select-late [] = refl
select-late (g ∷ below) = by (is_same g tag.Template) (is_same g tag.Table) (select-late below)
  where
    by : (b c : Bool) → is_late (select_mode below) ≡ true → is_late (cond b mode.InSelect (cond c mode.InSelectInTable (select_mode below))) ≡ true
    by true c k = refl
    by false true k = refl
    by false false k = k

mode-late : (g : Tag) → late_or (mode_of g) ≡ true
mode-late tag.Tr = refl
mode-late tag.Tbody = refl
mode-late tag.Thead = refl
mode-late tag.Tfoot = refl
mode-late tag.Caption = refl
mode-late tag.Colgroup = refl
mode-late tag.Table = refl
mode-late tag.Body = refl
mode-late tag.Frameset = refl
mode-late g = refl

element-late : (head : Option ℕ) (ms : List Mode) (g : Tag) (below : List Tag) → list_all is_late ms ≡ true → late_or (element_mode head ms g below) ≡ true
element-late head ms tag.Select below h = select-late below
element-late head ms tag.Td below h = refl
element-late head ms tag.Th below h = refl
element-late head ms tag.Head below h = refl
element-late head ms tag.Template below h = template-late ms h
element-late head ms tag.Html below h = root-late head
element-late head ms g below h = mode-late g

or-late : (o : Option Mode) (m : Mode) → late_or o ≡ true → is_late m ≡ true → is_late (or_mode o m) ≡ true
or-late None m h k = k
or-late (Some n) m h k = h

in-body-late : (o : Option Mode) → late_or o ≡ true → is_late (unwrap_or o mode.InBody) ≡ true
in-body-late None h = refl
in-body-late (Some n) h = h

outermost-late : (head : Option ℕ) (ms : List Mode) (g : Tag) → list_all is_late ms ≡ true → is_late (outermost_mode head ms g) ≡ true
outermost-late head ms tag.Select h = refl
outermost-late head ms tag.Template h = template-late ms h
outermost-late head ms tag.Html h = root-late head
outermost-late head ms g h = in-body-late (mode_of g) (mode-late g)

pub reset-late : (context : Option Tag) (head : Option ℕ) (ms : List Mode) (tags : List Tag) → list_all is_late ms ≡ true → is_late (reset_mode context head ms tags) ≡ true
reset-late context head ms [] h = outermost-late head ms _ h
reset-late context head ms (g ∷ below) h = by (is_none_left below) (reset-late context head ms below h)
  where
    by : (b : Bool) → is_late (reset_mode context head ms below) ≡ true → is_late (cond b (outermost_mode head ms (unwrap_or context tag.Html)) (or_mode (element_mode head ms g below) (reset_mode context head ms below))) ≡ true
    by true k = outermost-late head ms (unwrap_or context tag.Html) h
    by false k = or-late (element_mode head ms g below) (reset_mode context head ms below) (element-late head ms g below h) k

pub take-late : (n : ℕ) (ms : List Mode) → list_all is_late ms ≡ true → list_all is_late (take n ms) ≡ true
take-late zero ms h = refl
take-late (suc n) [] h = refl
take-late (suc n) (m ∷ ms) h = (let c = both (is_late m) (list_all is_late ms) h in join (is_late m) (list_all is_late (take n ms)) c.0 (take-late n ms c.1))

pub push-late : (ms : List Mode) (m : Mode) → list_all is_late ms ≡ true → is_late m ≡ true → list_all is_late (ms ++ m ∷ []) ≡ true
push-late [] m h k = join (is_late m) true k refl
push-late (n ∷ ms) m h k = (let c = both (is_late n) (list_all is_late ms) h in join (is_late n) (list_all is_late (ms ++ m ∷ [])) c.0 (push-late ms m c.1 k))

-- WORDS

-- the token has the name html
abbrev pub names_html : TokenKind → Bool
names_html t = is_same (tag_of (tag_name t)) tag.Html

-- an element that no token asked for, and no html
abbrev pub implies : Tag → Bool
implies n = is_made_alone n && not (is_same n tag.Html)

-- the word makes no html of a token of that name, or of another, and changes no mode
abbrev pub quiet : Bool → Word → Bool
quiet h Insert = not h
quiet h (InsertAt g) = not h
quiet h InsertPart = not h
quiet h (InsertVoid n) = not h
quiet h (InsertVoidAt n g) = not h
quiet h InsertListed = not h
quiet h InsertHead = not h
quiet h InsertForm = not h
quiet h InsertClosedForm = not h
quiet h ReplaceBody = not h
quiet h InsertRoot = false
quiet h ImplyRoot = false
quiet h (Imply n) = implies n
quiet h (ImplyPart n) = implies n
quiet h (ImplyVoid n) = implies n
quiet h (InsertForeign s) = false
quiet h (InsertForeignVoid s) = false
quiet h (Switch m) = false
quiet h (Enter m) = false
quiet h Leave = false
quiet h Reset = false
quiet h (PushTemplate m) = false
quiet h PopTemplate = false
quiet h _ = true

-- as many html elements, and the same modes
pub record IsSame (a b : State) : Type 0 where
  pub roots : htmls b.tree.tree ≡ htmls a.tree.tree
  pub mode_is : b.mode ≡ a.mode
  pub original_is : b.original ≡ a.original
  pub templates_are : b.templates ≡ a.templates
  pub parses : b.parses_foreign ≡ a.parses_foreign

same : (a b : State) → htmls b.tree.tree ≡ htmls a.tree.tree → b.mode ≡ a.mode → b.original ≡ a.original → b.templates ≡ a.templates → b.parses_foreign ≡ a.parses_foreign → IsSame a b
same a b r m o t p = record { roots = r; mode_is = m; original_is = o; templates_are = t; parses = p }

implied-tag : (n : Tag) → implies n ≡ true → is_same (tag_of (name_of n)) tag.Html ≡ false
unfolding tag_of
implied-tag tag.Html h = absurd (false≢true h)
implied-tag tag.Head h = refl
implied-tag tag.Body h = refl
implied-tag tag.P h = refl
implied-tag tag.Br h = refl
implied-tag tag.Colgroup h = refl
implied-tag tag.Tbody h = refl
implied-tag tag.Tr h = refl
implied-tag n h = absurd (false≢true h)

img-tag : is_same (tag_of (name_of tag.Img)) tag.Html ≡ false
unfolding tag_of
img-tag = refl

other-name : (h : Bool) (t : TokenKind) → names_html t ≡ h → not h ≡ true → is_same (tag_of (tag_name t)) tag.Html ≡ false
other-name h t n q = n ∙ not-true h q

void-name : (h : Bool) (n : Tag) (t : TokenKind) → names_html t ≡ h → not h ≡ true → is_same (tag_of (element_name n t)) tag.Html ≡ false
void-name h n t e q = by (is_same n tag.Image)
  where
    by : (b : Bool) → is_same (tag_of (if b then name_of tag.Img else tag_name t)) tag.Html ≡ false
    by true = img-tag
    by false = other-name h t e q

form-by : (b : Bool) (s : List ℕ) (u : Tree) → (cond b (record (formless u) { stack = s }) (formless u)).tree ≡ u.tree
form-by true s u = refl
form-by false s u = refl

form-tree : (u : Tree) (o : Option ℕ) → (form_closed u o).tree ≡ u.tree
form-tree u None = refl
form-tree u (Some x) = form-by (element_in_scope u.tree x u.stack) (remaining x (up_to (stays u.tree None) u.stack)) u

module _ (h : Bool) (t : TokenKind) (a : State) (e : names_html t ≡ h) where
  -- the element of the token
  token-own : (v : Nodes) → not h ≡ true → own (label_for v (element_of a t)) ≡ 0
  token-own v q = no-element v (tag_name t) (attrs_of t) (Token (number_of a.ledger)) (other-name h t e q)

  void-own : (v : Nodes) (n : Tag) → not h ≡ true → own (label_for v (void_of a n t)) ≡ 0
  void-own v n q = no-element v (element_name n t) (attrs_of t) (Token (number_of a.ledger)) (void-name h n t e q)

  implied-own : (v : Nodes) (n : Tag) → implies n ≡ true → own (label_for v (implied_of n)) ≡ 0
  implied-own v n q = no-element v (name_of n) [] Unasked (implied-tag n q)

  replaced-own : not h ≡ true → htmls (after ReplaceBody t a).tree.tree ≡ htmls a.tree.tree
  replaced-own q =
      added (bodiless a.tree).tree (after ReplaceBody t a).tree.tree (place_for (counting (number_of a.ledger + 1) (bodiless a.tree)) target.First) (element_of a t) refl (token-own (bodiless a.tree).tree q)
      ∙ detached-own a.tree.tree (slice_index a.tree.stack 1) (parent_of a.tree.tree (slice_index a.tree.stack 1))

  pub word-same : (w : Word) → quiet h w ≡ true → IsSame a (after w t a)
  word-same Insert q = same a (after Insert t a) (added a.tree.tree (after Insert t a).tree.tree _ (element_of a t) refl (token-own a.tree.tree q)) refl refl refl refl
  word-same (InsertAt g) q = same a (after (InsertAt g) t a) (added a.tree.tree (after (InsertAt g) t a).tree.tree _ (element_of a t) refl (token-own a.tree.tree q)) refl refl refl refl
  word-same InsertPart q = same a (after InsertPart t a) (added a.tree.tree (after InsertPart t a).tree.tree (place_for a.tree (target.Current false)) (element_of a t) refl (token-own a.tree.tree q)) refl refl refl refl
  word-same (InsertVoid n) q = same a (after (InsertVoid n) t a) (added a.tree.tree (after (InsertVoid n) t a).tree.tree _ (void_of a n t) refl (void-own a.tree.tree n q)) refl refl refl refl
  word-same (InsertVoidAt n g) q = same a (after (InsertVoidAt n g) t a) (added a.tree.tree (after (InsertVoidAt n g) t a).tree.tree _ (void_of a n t) refl (void-own a.tree.tree n q)) refl refl refl refl
  word-same InsertListed q = same a (after InsertListed t a) (added a.tree.tree (after InsertListed t a).tree.tree _ (element_of a t) refl (token-own a.tree.tree q)) refl refl refl refl
  word-same InsertHead q = same a (after InsertHead t a) (added a.tree.tree (after InsertHead t a).tree.tree _ (element_of a t) refl (token-own a.tree.tree q)) refl refl refl refl
  word-same InsertForm q = same a (after InsertForm t a) (added a.tree.tree (after InsertForm t a).tree.tree _ (element_of a t) refl (token-own a.tree.tree q)) refl refl refl refl
  word-same InsertClosedForm q = same a (after InsertClosedForm t a) (added a.tree.tree (after InsertClosedForm t a).tree.tree _ (void_of a tag.Form t) refl (void-own a.tree.tree tag.Form q)) refl refl refl refl
  word-same CloseForm q = same a (after CloseForm t a) (ap (λ (v : Nodes). htmls v) (form-tree a.tree a.tree.form)) refl refl refl refl
  word-same ReplaceBody q = same a (after ReplaceBody t a) (replaced-own q) refl refl refl refl
  word-same (Imply n) q = same a (after (Imply n) t a) (added a.tree.tree (after (Imply n) t a).tree.tree _ (implied_of n) refl (implied-own a.tree.tree n q)) refl refl refl refl
  word-same (ImplyPart n) q = same a (after (ImplyPart n) t a) (added a.tree.tree (after (ImplyPart n) t a).tree.tree (place_for a.tree (target.Current false)) (implied_of n) refl (implied-own a.tree.tree n q)) refl refl refl refl
  word-same (ImplyVoid n) q = same a (after (ImplyVoid n) t a) (added a.tree.tree (after (ImplyVoid n) t a).tree.tree _ (implied_of n) refl (implied-own a.tree.tree n q)) refl refl refl refl
  word-same ImplyHead q = same a (after ImplyHead t a) (added a.tree.tree (after ImplyHead t a).tree.tree _ (implied_of tag.Head) refl (implied-own a.tree.tree tag.Head refl)) refl refl refl refl
  word-same InsertComment q = same a (after InsertComment t a) (added a.tree.tree (after InsertComment t a).tree.tree _ (comment_of a t) refl refl) refl refl refl refl
  word-same (InsertCommentAt g) q = same a (after (InsertCommentAt g) t a) (added a.tree.tree (after (InsertCommentAt g) t a).tree.tree _ (comment_of a t) refl refl) refl refl refl refl
  word-same InsertDoctype q = same a (after InsertDoctype t a) (added a.tree.tree (after InsertDoctype t a).tree.tree (place_for a.tree target.Document) (doctype_of a t) refl refl) refl refl refl refl
  word-same InsertCharacter q =
      same a (after InsertCharacter t a) (text-own a.tree.tree (place_here a.tree a.fostering) (text_before a.tree.tree (place_here a.tree a.fostering)) (text_node a.tree a.fostering) (char_of t)) refl refl refl refl
  word-same InsertReplacement q =
      same a (after InsertReplacement t a) (text-own a.tree.tree (place_here a.tree a.fostering) (text_before a.tree.tree (place_here a.tree a.fostering)) (text_node a.tree a.fostering) (65533 ∷ [])) refl refl refl refl
  word-same MergeIntoRoot q = same a (after MergeIntoRoot t a) (merged-own a.tree.tree (slice_index a.tree.stack 0) (attrs_of t)) refl refl refl refl
  word-same MergeIntoBody q = same a (after MergeIntoBody t a) (merged-own a.tree.tree (slice_index a.tree.stack 1) (attrs_of t)) refl refl refl refl
  word-same InsertRoot q = absurd (false≢true q)
  word-same ImplyRoot q = absurd (false≢true q)
  word-same (InsertForeign s) q = absurd (false≢true q)
  word-same (InsertForeignVoid s) q = absurd (false≢true q)
  word-same (Switch m) q = absurd (false≢true q)
  word-same (Enter m) q = absurd (false≢true q)
  word-same Leave q = absurd (false≢true q)
  word-same Reset q = absurd (false≢true q)
  word-same (PushTemplate m) q = absurd (false≢true q)
  word-same PopTemplate q = absurd (false≢true q)
  word-same w q = same a (after w t a) refl refl refl refl refl

pub becomes-same : (m b : State) → Becomes m b → IsSame m b
becomes-same m b i =
    let e = becomes-core m b i in
    same m b (ap (λ (v : State). htmls v.tree.tree) e) (ap (λ (v : State). v.mode) e) (ap (λ (v : State). v.original) e) (ap (λ (v : State). v.templates) e) (ap (λ (v : State). v.parses_foreign) e)

moved-same : (a b : State) → IsMoved a b → htmls b.tree.tree ≡ htmls a.tree.tree → IsSame a b
moved-same a b i r = same a b r (ap (λ (v : State). v.mode) i.rest) (ap (λ (v : State). v.original) i.rest) (ap (λ (v : State). v.templates) i.rest) (ap (λ (v : State). v.parses_foreign) i.rest)

-- WHERE THE MODE "BEFORE HTML" IS PAST

-- There is one html at most, and no mode leads back.
pub record IsPast (a : State) : Type 0 where
  pub roots : htmls a.tree.tree ≤ 1
  pub late : is_early a.mode ≡ false
  pub back : waits a.mode ≡ true → is_early a.original ≡ false
  pub templates : list_all is_late a.templates ≡ true
  pub refused : a.parses_foreign ≡ false

pub past-same : (a b : State) → IsSame a b → IsPast a → IsPast b
past-same a b s g = record {
  roots = (let e = s.roots in let k = g.roots in omega (arith, e, k));
  late = ap is_early s.mode_is ∙ g.late;
  back = λ w. ap is_early s.original_is ∙ g.back (sym (ap waits s.mode_is) ∙ w);
  templates = ap (list_all is_late) s.templates_are ∙ g.templates;
  refused = s.parses ∙ g.refused;
}

-- it comes back to no early mode
abbrev pub IsBack : State → Type 0
IsBack a = is_early a.original ≡ false

back-same : (a b : State) → IsSame a b → IsBack a → IsBack b
back-same a b s k = ap is_early s.original_is ∙ k

-- what a word may do then: leave for the original mode where that is none of the early ones
abbrev pub fits : Bool → Bool → Word → Bool
fits h k (Switch m) = is_late m
fits h k (Enter m) = not (is_early m)
fits h k Leave = k
fits h k Reset = true
fits h k (PushTemplate m) = is_late m
fits h k PopTemplate = true
fits h k w = quiet h w

-- and what a plan may; foreign content is refused
abbrev pub sound : Bool → Bool → Plan → Bool
sound h k (Do w p) = fits h k w && sound h k p
sound h k (Ask q p n) = (asks_foreign q || sound h k p) && sound h k n
sound h k (Reconstruct p) = sound h k p
sound h k (Adopt g p) = sound h k p
sound h k (CloseLink p) = sound h k p
sound h k (Foster p) = sound h k p
sound h k (Settle q p) = sound false k q && sound h k p
sound h k (Each cs q p) = sound false k q && sound h k p
sound h k (Stop e) = true
sound h k (By m) = is_late m

abbrev pub html_symbol : Symbol → Bool
html_symbol (symbol.Start g) = is_same g tag.Html
html_symbol (symbol.End g) = is_same g tag.Html
html_symbol _ = false

nameless : is_same (tag_of []) tag.Html ≡ false
nameless = ap (λ g. is_same g tag.Html) (sym tag_of-nil)

pub symbol-names : (t : TokenKind) → names_html t ≡ html_symbol (symbol_of t)
symbol-names (kind.Start name attrs self_closing) = refl
symbol-names (kind.End name) = refl
symbol-names t = nameless

abbrev pub AreSound : Rules → Type 0
AreSound r = (m : Mode) (y : Symbol) → is_late m ≡ true → sound (html_symbol y) false (r m y) ≡ true

switched-past : (a b : State) → htmls b.tree.tree ≡ htmls a.tree.tree → is_late b.mode ≡ true → b.templates ≡ a.templates → b.parses_foreign ≡ a.parses_foreign → IsPast a → IsPast b
switched-past a b r l t p g = record {
  roots = (let k = g.roots in omega (arith, r, k));
  late = late-not-early b.mode l;
  back = λ w. absurd (false≢true (sym (late-not-waits b.mode l) ∙ w));
  templates = ap (list_all is_late) t ∙ g.templates;
  refused = p ∙ g.refused;
}

-- the state after a word
pub record Went (a b : State) : Type 0 where
  pub past : IsPast b
  pub back : IsBack a → IsBack b

went-same : (a b : State) → IsSame a b → IsPast a → Went a b
went-same a b s g = record { past = past-same a b s g; back = back-same a b s }

pub word-past : (h k : Bool) (w : Word) (t : TokenKind) (a : State) → names_html t ≡ h → fits h k w ≡ true → IsPast a → (k ≡ true → IsBack a) → Went a (after w t a)
word-past h k (Switch m) t a e f g o = record { past = switched-past a (after (Switch m) t a) refl f refl refl g; back = λ b. b }
word-past h k (Enter m) t a e f g o = record {
  past = record { roots = g.roots; late = not-true (is_early m) f; back = λ w. g.late; templates = g.templates; refused = g.refused };
  back = λ b. g.late;
}
word-past h k Leave t a e f g o = record {
  past = record { roots = g.roots; late = o f; back = λ w. o f; templates = g.templates; refused = g.refused };
  back = λ b. b;
}
word-past h k Reset t a e f g o = record { past = switched-past a (after Reset t a) refl (reset-late a.context a.tree.head a.templates (open_tags a.tree) g.templates) refl refl g; back = λ b. b }
word-past h k (PushTemplate m) t a e f g o = record {
  past = record { roots = g.roots; late = g.late; back = g.back; templates = push-late a.templates m g.templates f; refused = g.refused };
  back = λ b. b;
}
word-past h k PopTemplate t a e f g o = record {
  past = record { roots = g.roots; late = g.late; back = g.back; templates = take-late (length a.templates - 1) a.templates g.templates; refused = g.refused };
  back = λ b. b;
}
word-past h k w t a e f g o = went-same a (after w t a) (word-same h t a e w f) g

-- one after another
went-on : (a b c : State) → Went a b → Went b c → Went a c
went-on a b c v w = record { past = w.past; back = λ k. w.back (v.back k) }

after-same : (a b z : State) → IsSame a b → Went b z → Went a z
after-same a b z s w = record { past = w.past; back = λ k. w.back (back-same a b s k) }

chosen-sound : (h k x f : Bool) (p n : Plan) → (f ≡ true → x ≡ false) → ((f || sound h k p) && sound h k n) ≡ true → sound h k (if x then p else n) ≡ true
chosen-sound h k x true p n i e = subst (λ v. sound h k (if v then p else n) ≡ true) (sym (i refl)) e
chosen-sound h k true false p n i e = (both (sound h k p) (sound h k n) e).0
chosen-sound h k false false p n i e = (both (sound h k p) (sound h k n) e).1

fostered-same : (a : State) (b : Bool) → IsSame a (record a { fostering = b })
fostered-same a b = same a (record a { fostering = b }) refl refl refl refl refl

kept-same : (a : State) (cs : List ℕ) → IsSame a (with_kept cs a)
kept-same a cs = same a (with_kept cs a) refl refl refl refl refl

pub same-then : (a b c : State) → IsSame a b → IsSame b c → IsSame a c
same-then a b c s u = same a c (u.roots ∙ s.roots) (u.mode_is ∙ s.mode_is) (u.original_is ∙ s.original_is) (u.templates_are ∙ s.templates_are) (u.parses ∙ s.parses)

module _ (r : Rules) (all : AreSound r) where
  -- a plan after states that are the same
  pub runs-past : (h k : Bool) (p : Plan) (t : TokenKind) (a : State) (e : Ending) (z : State) → sound h k p ≡ true → names_html t ≡ h → IsPast a → (k ≡ true → IsBack a) → Runs r p t a e z → Went a z
  runs-past h k _ _ _ _ _ f n g o (does w p t a b e z i j) =
      let c = both (fits h k w) (sound h k p) f in
      let m = word-past h k w t a n c.0 g o in
      let s = becomes-same (after w t a) b i in
      let past = past-same (after w t a) b s m.past in
      went-on a (after w t a) z m (after-same (after w t a) b z s (runs-past h k p t b e z c.1 n past (λ x. back-same (after w t a) b s (m.back (o x))) j))
  runs-past h k _ _ _ _ _ f n g o (asks q p m t a b e z i j) =
      let s = becomes-same a b i in
      after-same a b z s (runs-past h k (if answer q t a then p else m) t b e z (chosen-sound h k (answer q t a) (asks_foreign q) p m (asked-none q t a g.refused) f) n (past-same a b s g) (λ x. back-same a b s (o x)) j)
  runs-past h k _ _ _ _ _ f n g o (reconstructs p t a b e z i m j) =
      let s = moved-same a b i (reopened-own a.fostering a.tree b.tree m) in
      after-same a b z s (runs-past h k p t b e z f n (past-same a b s g) (λ x. back-same a b s (o x)) j)
  runs-past h k _ _ _ _ _ f n g o (adopts x p t a b e z i m j) =
      let s = moved-same a b i (ended-own x a.fostering a.tree b.tree m) in
      after-same a b z s (runs-past h k p t b e z f n (past-same a b s g) (λ y. back-same a b s (o y)) j)
  runs-past h k _ _ _ _ _ f n g o (closes_link p t a b e z i m j) =
      let s = moved-same a b i (closed-own a.fostering a.tree b.tree m) in
      after-same a b z s (runs-past h k p t b e z f n (past-same a b s g) (λ x. back-same a b s (o x)) j)
  runs-past h k _ _ _ _ _ f n g o (fosters p t a b c e z i j m) =
      let s = same-then a (record a { fostering = true }) b (fostered-same a true) (becomes-same (record a { fostering = true }) b i) in
      let w = runs-past h k p t b e c f n (past-same a b s g) (λ x. back-same a b s (o x)) j in
      let u = same-then c (record c { fostering = false }) z (fostered-same c false) (becomes-same (record c { fostering = false }) z m) in
      after-same a b z s (went-on b c z w (went-same c z u w.past))
  runs-past h k _ _ _ _ _ f n g o (settles q p t a b e z i j) =
      let s = same-then a (with_kept [] a) b (kept-same a []) (becomes-same (with_kept [] a) b i) in
      after-same a b z s (runs-past h k (Each a.ledger.kept q p) t b e z f n (past-same a b s g) (λ x. back-same a b s (o x)) j)
  runs-past h k _ _ _ _ _ f n g o (ends_each q p t a e z j) = runs-past h k p t a e z (both (sound false k q) (sound h k p) f).1 n g o j
  runs-past h k _ _ _ _ _ f n g o (does_each x cs q p t a b e z i j) =
      let c = both (sound false k q) (sound h k p) f in
      let w = runs-past false k q (kind.Char x) a Over b c.0 nameless g o i in
      went-on a b z w (runs-past h k (Each cs q p) t b e z f n w.past (λ y. w.back (o y)) j)
  runs-past h k _ _ _ _ _ f n g o (stops t a e z i) = went-same a z (becomes-same a z i) g
  runs-past h k _ _ _ _ _ f n g o (goes_by m t a e z j) =
      runs-past (html_symbol (symbol_of t)) false (r m (symbol_of t)) t a e z (all m (symbol_of t) f) (symbol-names t) g (λ x. absurd (false≢true x)) j

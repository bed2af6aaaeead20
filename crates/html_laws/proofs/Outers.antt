-- Runs of plans before the body.
use Rattle.std.proofs.Common.{◌≡◌, ◌≤◌, ℕ, zero, suc, Bool, true, false, not, cond, ◌&&◌, ◌||◌, if◌then◌else◌, List, [], ◌∷◌, ◌++◌, length, nat_lt, unwrap_or, None, is_some, inl, inr, refl, sym, ◌∙◌, ap, subst, arith}
use Rattle.std.specs.List.{list_any}
use Rattle.std.specs.Prelude.{slice_get}
use Rattle.std.proofs.lemmas.Bool.{false≢true}
use Rattle.std.proofs.lemmas.Bool.Decides.{nat_tests}
use Rattle.html_names.specs.declared.tag.Tag.{Tag}
use Rattle.html_names.specs.declared.tag.Tag.TheVariants as tag
use Rattle.html_names.specs.Names.{name_of, tag_of}
use Rattle.html_names.specs.Sets.{is_template}
use Rattle.html_names.specs.Tags.{is_same}
use Rattle.html_arena.specs.declared.data.Origin.TheVariants.{Implied as Unasked, Token}
use Rattle.html_tokens.specs.declared.token.TokenKind.{TokenKind}
use Rattle.html_tokens.specs.declared.token.TokenKind.TheVariants as kind
use Rattle.html_ledger.specs.declared.symbol.Symbol.{Symbol}
use Rattle.html_ledger.specs.declared.symbol.Symbol.TheVariants as symbol
use Rattle.html_ledger.specs.Entries.{number_of}
use Rattle.html_ledger.specs.Symbols.{named, starts, symbol_of}
use Rattle.html_open.specs.Lists.{above, last_index}
use Rattle.html_tree.specs.declared.groups.Group.{Group}
use Rattle.html_tree.specs.declared.groups.Group.TheVariants as group
use Rattle.html_tree.specs.declared.groups.Stop.TheVariants as stop
use Rattle.html_tree.specs.declared.groups.Target.TheVariants as target
use Rattle.html_tree.specs.Groups.{in_group}
use Rattle.html_tree.specs.OpenTags.{open_tags, tags_down}
use Rattle.html_tree.specs.Searching.{current_tag, is_member, stops as stops_at}
use Rattle.html_tree.specs.Targets.{place_for}
use Rattle.html_tree.proofs.OpenTags.{current-first, length-tags, push-tags}
use Rattle.html_construction.specs.declared.mode.Mode.{Mode}
use Rattle.html_construction.specs.declared.mode.Mode.TheVariants as mode
use Rattle.html_construction.specs.Plans.{Ask, By, Do, Ending, Over, Plan, Rules, Runs, Stop, adopts, asks, closes_link, does, does_each, ends_each, fosters, goes_by, reconstructs, settles, stops}
use Rattle.html_construction.specs.States.{State}
use Rattle.html_construction.specs.Tokens.{attrs_of, tag_name}
use Rattle.html_construction.specs.Words.{AddMarker, Becomes, CanPop, Drop, End, Enter, FramesetOff, HasTemplate, Imply, ImplyHead, ImplyRoot, Insert, InsertAt, InsertCharacter, InsertComment, InsertCommentAt, InsertDoctype, InsertHead, InsertRoot, InsertVoid, InsertVoidAt, Leave, MergeIntoRoot, Pop, Query, Quirks, Switch, Word, after, answer}
use Rattle.html_construction.proofs.Weighing.{same-tag}
use Rattle.html_laws.proofs.Chains.{both, cases, either, neither, not-false, not-true, right}
use Rattle.html_laws.proofs.Cuts.{any-tags, popped-tags}
use Rattle.html_laws.proofs.Faces.{Adds, Face, element-adds, element_face, new-face, rest_faces, tallied}
use Rattle.html_laws.proofs.Insides.{Anything, Footing, Templates, on_body, on_head, on_template}
use Rattle.html_laws.proofs.Grounds.{is_called, is_no_body, Ground, Step, bodies, grows, of_name, one-body, spares, start-name, step-bodies, step-ground, word-step}
use Rattle.html_laws.proofs.Judging.{Top, View, frames, is_text_mode, sound, steady, waits}
use Rattle.html_laws.specs.Likeness.{core}
use Rattle.html_laws.proofs.Words.{becomes-core}
use Rattle.html_laws.proofs.Models.{Models, implied-name, step-tags}
use Rattle.html_laws.proofs.Running.{models-becomes}
use Rattle.html_laws.proofs.Phases.{IsEnd, IsFramed, IsOuter, Placed, holds_text, is_outer, plainly_placed, shape, text_placed}
use Rattle.html_laws.proofs.Inners.{framed-by, ground-core, runs-frames, runs-inner}

-- WHAT A PLAN MAY DO THERE

abbrev pub same_tags : List Tag → List Tag → Bool
same_tags [] [] = true
same_tags (g ∷ gs) (h ∷ hs) = is_same g h && same_tags gs hs
same_tags _ _ = false

abbrev pub rest_of : List Tag → List Tag
rest_of [] = []
rest_of (g ∷ gs) = gs

-- more than one
abbrev pub has_two : List Tag → Bool
has_two (g ∷ h ∷ gs) = true
has_two _ = false

abbrev pub is_any : List Tag → Bool
is_any (g ∷ gs) = true
is_any _ = false

-- that of the start tag, on these
abbrev pub with_start : Symbol → List Tag → List Tag
with_start (symbol.Start g) gs = g ∷ gs
with_start _ gs = gs

abbrev pub is_bare : Tag → Bool
is_bare g = not (is_same g tag.Body || (is_template g || is_same g tag.Frameset))

-- the words by which what is open stays known
abbrev pub may_outer : Symbol → Mode → List Tag → Word → Bool
may_outer y m gs Insert = starts is_bare y
may_outer y m gs (InsertAt p) = starts is_bare y
may_outer y m gs InsertHead = starts is_bare y
may_outer y m gs (InsertVoid n) = true
may_outer y m gs (InsertVoidAt n p) = true
may_outer y m gs ImplyHead = true
may_outer y m gs InsertRoot = true
may_outer y m gs ImplyRoot = true
may_outer y m gs InsertComment = true
may_outer y m gs (InsertCommentAt p) = true
may_outer y m gs InsertDoctype = true
may_outer y m gs InsertCharacter = true
may_outer y m gs MergeIntoRoot = true
may_outer y m gs (Drop c) = true
may_outer y m gs End = true
may_outer y m gs FramesetOff = true
may_outer y m gs (Quirks q) = true
may_outer y m gs AddMarker = true
may_outer y m gs Pop = has_two gs
may_outer y m gs (Switch n) = not (waits n)
may_outer y m gs (Enter n) = waits n
may_outer y m gs Leave = waits m
may_outer y m gs _ = false

abbrev pub outer_tags : Symbol → List Tag → Word → List Tag
outer_tags y gs Insert = with_start y gs
outer_tags y gs (InsertAt p) = with_start y gs
outer_tags y gs InsertHead = with_start y gs
outer_tags y gs ImplyHead = tag.Head ∷ gs
outer_tags y gs InsertRoot = tag.Html ∷ gs
outer_tags y gs ImplyRoot = tag.Html ∷ gs
outer_tags y gs Pop = rest_of gs
outer_tags y gs _ = gs

abbrev pub outer_mode : Mode → Mode → Word → Mode
outer_mode m o (Switch n) = n
outer_mode m o (Enter n) = n
outer_mode m o Leave = o
outer_mode m o _ = m

abbrev pub outer_original : Mode → Mode → Word → Mode
outer_original m o (Enter n) = m
outer_original m o _ = o

-- the body is made, by a start tag or without
abbrev pub opens_body : Symbol → Word → Bool
opens_body y Insert = starts (λ g. is_same g tag.Body) y
opens_body y (Imply n) = is_same n tag.Body
opens_body y _ = false

abbrev pub opens_template : Symbol → Word → Bool
opens_template y Insert = starts is_template y
opens_template y (InsertAt p) = starts is_template y
opens_template y _ = false

abbrev pub opens_frameset : Symbol → Word → Bool
opens_frameset y Insert = starts (λ g. is_same g tag.Frameset) y
opens_frameset y _ = false

abbrev pub is_html : List Tag → Bool
is_html gs = same_tags gs (tag.Html ∷ [])

abbrev pub is_head : List Tag → Bool
is_head gs = same_tags gs (tag.Head ∷ tag.Html ∷ [])

-- where the entry may end
abbrev pub is_placed : Mode → Mode → List Tag → Bool
is_placed m o gs = cond (is_text_mode m) (holds_text o && (is_any gs && same_tags (rest_of gs) (shape o))) (is_outer m && same_tags gs (shape m))

abbrev pub can_pop : Group → List Tag → Bool
can_pop g (h ∷ k ∷ gs) = in_group g h
can_pop g _ = false

abbrev pub body_view : Mode → View
body_view m = record { mode = m; original = mode.InBody; need = Anything; know = Top tag.Body }

abbrev pub template_view : Mode → View
template_view m = record { mode = m; original = mode.InBody; need = Templates; know = Top tag.Template }

module _ (r : Rules) where
  abbrev pub exact : ℕ → Symbol → Mode → Mode → List Tag → Plan → Bool
  exact n y m o gs (Do w p) = grows y w && (
      ((opens_body y w && not (waits m)) && (is_html gs && sound r n y (body_view m) p))
      || (spares y w && (
      ((opens_template y w && not (waits m)) && ((is_html gs || is_head gs) && sound r n y (template_view m) p))
      || ((opens_frameset y w && frames p)
      || (may_outer y m gs w && exact n y (outer_mode m o w) (outer_original m o w) (outer_tags y gs w) p)))))
  exact n y m o gs (Ask (CanPop g) p q) = cond (can_pop g gs) (exact n y m o gs p) (exact n y m o gs q)
  exact n y m o gs (Ask HasTemplate p q) = cond (list_any is_template gs) (exact n y m o gs p) true && exact n y m o gs q
  exact n y m o gs (Ask k p q) = exact n y m o gs p && exact n y m o gs q
  exact n y m o gs (Stop e) = is_placed m o gs
  exact (suc n) y m o gs (By k) = exact n y m o gs (r k y)
  exact n y m o gs _ = false

-- WHAT IS SO

-- no body, this mode, and these open elements
pub record IsAt (m o : Mode) (gs : List Tag) (a : State) : Type 0 where
  pub ground : Ground a
  pub none : bodies a ≡ 0
  pub mode_is : a.mode ≡ m
  pub original_is : waits m ≡ true → a.original ≡ o
  pub tags_are : open_tags a.tree ≡ gs

at-core : (m o : Mode) (gs : List Tag) (a b : State) → core b ≡ core a → IsAt m o gs a → IsAt m o gs b
at-core m o gs a b e k = record {
  ground = ground-core a b e k.ground;
  none = ap (λ (v : State). bodies v) e ∙ k.none;
  mode_is = ap (λ (v : State). v.mode) e ∙ k.mode_is;
  original_is = λ w. ap (λ (v : State). v.original) e ∙ k.original_is w;
  tags_are = ap (λ (v : State). open_tags v.tree) e ∙ k.tags_are;
}

same-tags-is : (gs hs : List Tag) → same_tags gs hs ≡ true → gs ≡ hs
same-tags-is [] [] h = refl
same-tags-is (g ∷ gs) (k ∷ hs) h = (let c = both (is_same g k) (same_tags gs hs) h in ap (λ v. v ∷ gs) (same-tag g k c.0) ∙ ap (λ v. k ∷ v) (same-tags-is gs hs c.1))
same-tags-is [] (k ∷ hs) h = absurd (false≢true h)
same-tags-is (g ∷ gs) [] h = absurd (false≢true h)

at-end : (m o : Mode) (gs : List Tag) (a : State) → is_placed m o gs ≡ true → IsAt m o gs a → IsOuter a
at-end m o gs a h k = record { ground = k.ground; none = k.none; placed = subst (λ v. Placed v a.original (open_tags a.tree)) (sym k.mode_is) (by m h k.original_is) }
  where
    plain : (m : Mode) → (is_outer m && same_tags gs (shape m)) ≡ true → Placed m a.original (open_tags a.tree)
    plain m h = (let c = both (is_outer m) (same_tags gs (shape m)) h in plainly_placed m a.original (open_tags a.tree) c.0 (k.tags_are ∙ same-tags-is gs (shape m) c.1))

    text : (gs : List Tag) → open_tags a.tree ≡ gs → (holds_text o && (is_any gs && same_tags (rest_of gs) (shape o))) ≡ true → a.original ≡ o → Placed mode.Text a.original (open_tags a.tree)
    text [] e h w = absurd (false≢true (both (holds_text o) (false && same_tags [] (shape o)) h).1)
    text (g ∷ us) e h w =
        let c = both (holds_text o) (true && same_tags us (shape o)) h in
        subst (λ v. Placed mode.Text v (open_tags a.tree)) (sym w) (text_placed o g (open_tags a.tree) c.0 (e ∙ ap (λ v. g ∷ v) (same-tags-is us (shape o) c.1)))

    by : (m : Mode) → is_placed m o gs ≡ true → (waits m ≡ true → a.original ≡ o) → Placed m a.original (open_tags a.tree)
    by mode.Text h w = text gs k.tags_are h (w refl)
    by mode.InTableText h w = absurd (false≢true h)
    by mode.Initial h w = plain mode.Initial h
    by mode.BeforeHtml h w = plain mode.BeforeHtml h
    by mode.BeforeHead h w = plain mode.BeforeHead h
    by mode.InHead h w = plain mode.InHead h
    by mode.InHeadNoscript h w = plain mode.InHeadNoscript h
    by mode.AfterHead h w = plain mode.AfterHead h
    by m h w = absurd (false≢true h)

body-name : tag_of (name_of tag.Body) ≡ tag.Body
unfolding tag_of
body-name = refl

module _ (m o : Mode) (gs : List Tag) (t : TokenKind) (a : State) (k : IsAt m o gs a) where
  abbrev y : Symbol
  y = symbol_of t

  stepped : (w : Word) → grows y w ≡ true → spares y w ≡ true → Step true a (after w t a)
  stepped w g e = subst (λ q. Step q a (after w t a)) e (word-step t a w g)

  -- other open elements, or another mode
  at-by : (n p : Mode) (hs : List Tag) (b : State) → Step true a b → b.mode ≡ n → (waits n ≡ true → b.original ≡ p) → open_tags b.tree ≡ hs → IsAt n p hs b
  at-by n p hs b s e w d = record { ground = step-ground true a b s k.ground; none = step-bodies a b s ∙ k.none; mode_is = e; original_is = w; tags_are = d }

  still-tags : (b : State) → Step true a b → b.tree.stack ≡ a.tree.stack → open_tags b.tree ≡ gs
  still-tags b s e = ap (tags_down b.tree.tree) e ∙ step-tags true a b s k.ground a.tree.stack (λ x h. h) ∙ k.tags_are

  -- one more
  more-tags : (q : Bool) (b : State) (name : List ℕ) → Step q a b → Adds a.tree.tree b.tree.tree (of_name name) → b.tree.stack ≡ a.tree.stack ++ length a.tree.tree.labels ∷ [] → open_tags b.tree ≡ tag_of name ∷ gs
  more-tags q b name s d e =
      ap (tags_down b.tree.tree) e ∙ push-tags b.tree.tree a.tree.stack (length a.tree.tree.labels)
      ∙ ap (λ v. v ∷ tags_down b.tree.tree a.tree.stack) (ap (λ (f : Face). f.tag) (new-face a.tree.tree b.tree.tree (element_face name) (rest_faces (is_template (tag_of name))) d))
      ∙ ap (λ v. tag_of name ∷ v) (step-tags q a b s k.ground a.tree.stack (λ x h. h) ∙ k.tags_are)

  start-tags : (q : Tag → Bool) (t : TokenKind) → starts q (symbol_of t) ≡ true → with_start (symbol_of t) gs ≡ tag_of (tag_name t) ∷ gs
  start-tags q (kind.Start name attrs self_closing) h = refl
  start-tags q (kind.End name) h = absurd (false≢true h)
  start-tags q (kind.Char c) h = absurd (false≢true h)
  start-tags q (kind.Comment text) h = absurd (false≢true h)
  start-tags q (kind.Doctype n p s f) h = absurd (false≢true h)
  start-tags q kind.Eof h = absurd (false≢true h)

  token-tags : (w : Word) (q : Tag → Bool) → grows y w ≡ true → starts q y ≡ true → Adds a.tree.tree (after w t a).tree.tree (of_name (tag_name t)) → (after w t a).tree.stack ≡ a.tree.stack ++ length a.tree.tree.labels ∷ [] → open_tags (after w t a).tree ≡ with_start y gs
  token-tags w q g h d e = more-tags (spares y w) (after w t a) (tag_name t) (word-step t a w g) d e ∙ sym (start-tags q t h)

  quiet-word : (w : Word) → grows y w ≡ true → spares y w ≡ true → (after w t a).tree.stack ≡ a.tree.stack → (after w t a).mode ≡ a.mode → (after w t a).original ≡ a.original → IsAt m o gs (after w t a)
  quiet-word w g e s i j = at-by m o gs (after w t a) (stepped w g e) (i ∙ k.mode_is) (λ x. j ∙ k.original_is x) (still-tags (after w t a) (stepped w g e) s)

  at-word : (w : Word) → grows y w ≡ true → spares y w ≡ true → may_outer y m gs w ≡ true → IsAt (outer_mode m o w) (outer_original m o w) (outer_tags y gs w) (after w t a)
  at-word Insert g e h = at-by m o (with_start y gs) (after Insert t a) (stepped Insert g e) k.mode_is k.original_is (token-tags Insert is_bare g h (element-adds a.tree.tree (place_for a.tree (target.Current a.fostering)) (tag_name t) (attrs_of t) (Token (number_of a.ledger))) refl)
  at-word (InsertAt p) g e h = at-by m o (with_start y gs) (after (InsertAt p) t a) (stepped (InsertAt p) g e) k.mode_is k.original_is (token-tags (InsertAt p) is_bare g h (element-adds a.tree.tree (place_for a.tree p) (tag_name t) (attrs_of t) (Token (number_of a.ledger))) refl)
  at-word InsertHead g e h = at-by m o (with_start y gs) (after InsertHead t a) (stepped InsertHead g e) k.mode_is k.original_is (token-tags InsertHead is_bare g h (element-adds a.tree.tree (place_for a.tree (target.Current a.fostering)) (tag_name t) (attrs_of t) (Token (number_of a.ledger))) refl)
  at-word ImplyHead g e h = at-by m o (tag.Head ∷ gs) (after ImplyHead t a) (stepped ImplyHead g e) k.mode_is k.original_is
      (more-tags true (after ImplyHead t a) (name_of tag.Head) (stepped ImplyHead g e) (element-adds a.tree.tree (place_for a.tree (target.Current a.fostering)) (name_of tag.Head) [] Unasked) refl ∙ ap (λ v. v ∷ gs) (implied-name tag.Head refl))
  at-word InsertRoot g e h = at-by m o (tag.Html ∷ gs) (after InsertRoot t a) (stepped InsertRoot g e) k.mode_is k.original_is
      (more-tags true (after InsertRoot t a) (name_of tag.Html) (stepped InsertRoot g e) (element-adds a.tree.tree (place_for a.tree target.Document) (name_of tag.Html) (attrs_of t) (Token (number_of a.ledger))) refl ∙ ap (λ v. v ∷ gs) (implied-name tag.Html refl))
  at-word ImplyRoot g e h = at-by m o (tag.Html ∷ gs) (after ImplyRoot t a) (stepped ImplyRoot g e) k.mode_is k.original_is
      (more-tags true (after ImplyRoot t a) (name_of tag.Html) (stepped ImplyRoot g e) (element-adds a.tree.tree (place_for a.tree target.Document) (name_of tag.Html) [] Unasked) refl ∙ ap (λ v. v ∷ gs) (implied-name tag.Html refl))
  at-word Pop g e h = at-by m o (rest_of gs) (after Pop t a) (stepped Pop g e) k.mode_is k.original_is (pop gs h k.tags_are)
    where
      pop : (us : List Tag) → has_two us ≡ true → open_tags a.tree ≡ us → open_tags (after Pop t a).tree ≡ rest_of us
      pop (u ∷ v ∷ us) h e = popped-tags a.tree.tree a.tree.stack u v us e
      pop [] h e = absurd (false≢true h)
      pop (u ∷ []) h e = absurd (false≢true h)
  at-word (Switch n) g e h = at-by n o gs (after (Switch n) t a) (stepped (Switch n) g e) refl (λ x. absurd (false≢true (sym (not-true (waits n) h) ∙ x))) (still-tags (after (Switch n) t a) (stepped (Switch n) g e) refl)
  at-word (Enter n) g e h = at-by n m gs (after (Enter n) t a) (stepped (Enter n) g e) refl (λ x. k.mode_is) (still-tags (after (Enter n) t a) (stepped (Enter n) g e) refl)
  at-word Leave g e h = at-by o o gs (after Leave t a) (stepped Leave g e) (k.original_is h) (λ x. k.original_is h) (still-tags (after Leave t a) (stepped Leave g e) refl)
  at-word (InsertVoid n) g e h = quiet-word (InsertVoid n) g e refl refl refl
  at-word (InsertVoidAt n p) g e h = quiet-word (InsertVoidAt n p) g e refl refl refl
  at-word InsertComment g e h = quiet-word InsertComment g e refl refl refl
  at-word (InsertCommentAt p) g e h = quiet-word (InsertCommentAt p) g e refl refl refl
  at-word InsertDoctype g e h = quiet-word InsertDoctype g e refl refl refl
  at-word InsertCharacter g e h = quiet-word InsertCharacter g e refl refl refl
  at-word MergeIntoRoot g e h = quiet-word MergeIntoRoot g e refl refl refl
  at-word (Drop c) g e h = quiet-word (Drop c) g e refl refl refl
  at-word End g e h = quiet-word End g e refl refl refl
  at-word FramesetOff g e h = quiet-word FramesetOff g e refl refl refl
  at-word (Quirks q) g e h = quiet-word (Quirks q) g e refl refl refl
  at-word AddMarker g e h = quiet-word AddMarker g e refl refl refl
  at-word w g e h = absurd (false≢true h)

  -- THE BODY, A TEMPLATE AND A FRAMESET

  at-body : (w : Word) (name : List ℕ) → grows y w ≡ true → Adds a.tree.tree (after w t a).tree.tree (of_name name) → (after w t a).tree.stack ≡ a.tree.stack ++ length a.tree.tree.labels ∷ [] → (after w t a).mode ≡ a.mode → tag_of name ≡ tag.Body → gs ≡ tag.Html ∷ [] → waits m ≡ false → Models (body_view m) (after w t a)
  at-body w name g d e i b c n =
      let s = word-step t a w g in
      let tags : open_tags (after w t a).tree ≡ tag.Body ∷ tag.Html ∷ [] = more-tags (spares y w) (after w t a) name s d e ∙ ap (λ v. v ∷ gs) b ∙ ap (λ v. tag.Body ∷ v) c in
      record {
        hook = tag.Body;
        low = tag.Html ∷ [];
        foot = on_body;
        inside = record { upper = []; tags_are = tags; chained = refl; holds = refl };
        knows = (tag.Html ∷ [], tags);
        mode_is = i ∙ k.mode_is;
        original_is = λ x. absurd (false≢true (sym n ∙ x));
        ground = step-ground (spares y w) a (after w t a) s k.ground;
        few = (let p = tallied tag.Body a.tree.tree (after w t a).tree.tree (of_name name) d in let q = one-body name in let z = k.none in omega (arith, p, q, z));
        before = λ x. absurd (false≢true x);
      }

  no-body-start : (t : TokenKind) (q : Tag → Bool) → ((g : Tag) → q g ≡ true → is_same g tag.Body ≡ false) → starts q (symbol_of t) ≡ true → is_called is_no_body (symbol_of t) ≡ true
  no-body-start (kind.Start name attrs self_closing) q f h = not-false (is_same (tag_of name) tag.Body) (f (tag_of name) h)
  no-body-start (kind.End name) q f h = absurd (false≢true h)
  no-body-start (kind.Char c) q f h = absurd (false≢true h)
  no-body-start (kind.Comment text) q f h = absurd (false≢true h)
  no-body-start (kind.Doctype n p s f') q f h = absurd (false≢true h)
  no-body-start kind.Eof q f h = absurd (false≢true h)

  template-is : (g : Tag) → is_template g ≡ true → g ≡ tag.Template
  template-is tag.Template h = refl
  template-is g h = absurd (false≢true h)

  at-template : (w : Word) → grows y w ≡ true → spares y w ≡ true → Adds a.tree.tree (after w t a).tree.tree (of_name (tag_name t)) → (after w t a).tree.stack ≡ a.tree.stack ++ length a.tree.tree.labels ∷ [] → (after w t a).mode ≡ a.mode
      → (starts is_template y ≡ true → (after w t a).ledger.history.template ≡ true) → starts is_template y ≡ true → (is_html gs || is_head gs) ≡ true → waits m ≡ false → Models (template_view m) (after w t a)
  at-template w g e d i j f h c n = elim (either (is_html gs) (is_head gs) c) [
    | inl u ↦ at (tag.Html ∷ []) on_template (same-tags-is gs (tag.Html ∷ []) u)
    | inr u ↦ at (tag.Head ∷ tag.Html ∷ []) on_head (same-tags-is gs (tag.Head ∷ tag.Html ∷ []) u)
  ]
    where
      at : (low : List Tag) → Footing tag.Template low → gs ≡ low → Models (template_view m) (after w t a)
      at low foot z =
          let s = stepped w g e in
          let tags : open_tags (after w t a).tree ≡ tag.Template ∷ low = more-tags true (after w t a) (tag_name t) s d i ∙ ap (λ v. v ∷ gs) (template-is (tag_of (tag_name t)) (start-name is_template t h)) ∙ ap (λ v. tag.Template ∷ v) z in
          record {
            hook = tag.Template;
            low = low;
            foot = foot;
            inside = record { upper = []; tags_are = tags; chained = refl; holds = refl };
            knows = (low, tags);
            mode_is = j ∙ k.mode_is;
            original_is = λ x. absurd (false≢true (sym n ∙ x));
            ground = step-ground true a (after w t a) s k.ground;
            few = (let p = step-bodies a (after w t a) s in let z = k.none in omega (arith, p, z));
            before = λ x. (step-bodies a (after w t a) s ∙ k.none, f h);
          }

  starts-as : (q u : Tag → Bool) (t : TokenKind) → ((g : Tag) → q g ≡ true → u g ≡ true) → starts q (symbol_of t) ≡ true → starts u (symbol_of t) ≡ true
  starts-as q u (kind.Start name attrs self_closing) f h = f (tag_of name) h
  starts-as q u (kind.End name) f h = absurd (false≢true h)
  starts-as q u (kind.Char c) f h = absurd (false≢true h)
  starts-as q u (kind.Comment text) f h = absurd (false≢true h)
  starts-as q u (kind.Doctype n p s f') f h = absurd (false≢true h)
  starts-as q u kind.Eof f h = absurd (false≢true h)

  -- what a word that opens the body leads to
  body-opened : (w : Word) → grows y w ≡ true → (opens_body y w && not (waits m)) ≡ true → is_html gs ≡ true → Models (body_view m) (after w t a)
  body-opened Insert g h c = (let d = both (starts (λ v. is_same v tag.Body) y) (not (waits m)) h in
      at-body Insert (tag_name t) g (element-adds a.tree.tree (place_for a.tree (target.Current a.fostering)) (tag_name t) (attrs_of t) (Token (number_of a.ledger))) refl refl (same-tag (tag_of (tag_name t)) tag.Body (start-name (λ v. is_same v tag.Body) t d.0)) (same-tags-is gs (tag.Html ∷ []) c) (not-true (waits m) d.1))
  body-opened (Imply n) g h c = (let d = both (is_same n tag.Body) (not (waits m)) h in
      at-body (Imply n) (name_of n) g (element-adds a.tree.tree (place_for a.tree (target.Current a.fostering)) (name_of n) [] Unasked) refl refl (ap (λ v. tag_of (name_of v)) (same-tag n tag.Body d.0) ∙ body-name) (same-tags-is gs (tag.Html ∷ []) c) (not-true (waits m) d.1))
  body-opened w g h c = absurd (false≢true (both (opens_body y w) (not (waits m)) h).0)

  template-opened : (w : Word) → grows y w ≡ true → spares y w ≡ true → (opens_template y w && not (waits m)) ≡ true → (is_html gs || is_head gs) ≡ true → Models (template_view m) (after w t a)
  template-opened Insert g e h c = (let d = both (starts is_template y) (not (waits m)) h in
      at-template Insert g e (element-adds a.tree.tree (place_for a.tree (target.Current a.fostering)) (tag_name t) (attrs_of t) (Token (number_of a.ledger))) refl refl
      (λ x. right a.ledger.history.template (starts (named tag.Template) y) (starts-as is_template (named tag.Template) t (λ v z. ap (λ w. is_same w tag.Template) (template-is v z)) x)) d.0 c (not-true (waits m) d.1))
  template-opened (InsertAt p) g e h c = (let d = both (starts is_template y) (not (waits m)) h in
      at-template (InsertAt p) g e (element-adds a.tree.tree (place_for a.tree p) (tag_name t) (attrs_of t) (Token (number_of a.ledger))) refl refl
      (λ x. right a.ledger.history.template (starts (named tag.Template) y) (starts-as is_template (named tag.Template) t (λ v z. ap (λ w. is_same w tag.Template) (template-is v z)) x)) d.0 c (not-true (waits m) d.1))
  template-opened w g e h c = absurd (false≢true (both (opens_template y w) (not (waits m)) h).0)

-- RUNS

module _ (r : Rules) (quiet : (c : ℕ) → steady (r mode.InBody (symbol.Char c)) ≡ true) where
  frameset-opened : (m o : Mode) (gs : List Tag) (w : Word) (p : Plan) (t : TokenKind) (a b : State) (e : Ending) (z : State) → IsAt m o gs a → spares (symbol_of t) w ≡ true → (opens_frameset (symbol_of t) w && frames p) ≡ true → Becomes (after w t a) b → Runs r p t b e z → IsFramed z × (e ≡ Over)
  frameset-opened m o gs Insert p t a b e z k h c i j =
      let d = both (starts (λ g. is_same g tag.Frameset) (symbol_of t)) (frames p) c in
      let s = stepped m o gs t a k Insert refl h in
      let f : (Ground (after Insert t a)) × (bodies (after Insert t a) ≤ 1) × ((after Insert t a).ledger.history.frameset ≡ true) = framed-by t a (after Insert t a) s d.0 (λ x. right a.ledger.history.frameset (starts (λ g. is_same g tag.Frameset) (symbol_of t)) x) k.ground (let z = k.none in omega (arith, z)) in
      let q = becomes-core (after Insert t a) b i in
      runs-frames r p t b e z d.1 (ground-core (after Insert t a) b q f.0) (let x = ap (λ (v : State). bodies v) q in let u = f.1 in omega (arith, x, u)) (ap (λ (v : State). v.ledger.history.frameset) q ∙ f.2) j
  frameset-opened m o gs w p t a b e z k h c i j = absurd (false≢true (both (opens_frameset (symbol_of t) w) (frames p) c).0)

  -- what is asked of the open elements
  pop-answer : (g : Group) (m o : Mode) (gs : List Tag) (t : TokenKind) (a : State) → IsAt m o gs a → answer (CanPop g) t a ≡ can_pop g gs
  pop-answer g m o gs t a k = by gs (sym (length-tags a.tree.tree a.tree.stack) ∙ ap length k.tags_are) (current-first a.tree ∙ ap (λ v. slice_get v 0) k.tags_are)
    where
      by : (us : List Tag) → length a.tree.stack ≡ length us → current_tag a.tree ≡ slice_get us 0 → (nat_lt 1 (length a.tree.stack) && in_group g (unwrap_or (current_tag a.tree) tag.Other)) ≡ can_pop g us
      by [] l c = ap (λ n. nat_lt 1 n && in_group g (unwrap_or (current_tag a.tree) tag.Other)) l
      by (u ∷ []) l c = ap (λ n. nat_lt 1 n && in_group g (unwrap_or (current_tag a.tree) tag.Other)) l
      by (u ∷ v ∷ us) l c = ap (λ n. nat_lt 1 n && in_group g (unwrap_or (current_tag a.tree) tag.Other)) l ∙ ap (λ b. b && in_group g (unwrap_or (current_tag a.tree) tag.Other)) (long (length us)) ∙ ap (λ x. in_group g (unwrap_or x tag.Other)) c
        where
          long : (n : ℕ) → nat_lt 1 (suc (suc n)) ≡ true
          long n = grind (arith, nat_tests)

  template-answer : (m o : Mode) (gs : List Tag) (t : TokenKind) (a : State) → IsAt m o gs a → list_any is_template gs ≡ false → answer HasTemplate t a ≡ false
  template-answer m o gs t a k h = by a.ledger.history.template (list_any (is_member a.tree.tree (group.Named tag.Template)) a.tree.stack)
      (sym (any-tags a.tree.tree (λ g. is_same g tag.Template) a.tree.stack) ∙ ap (list_any (λ g. is_same g tag.Template)) k.tags_are ∙ none gs h)
    where
      same : (g : Tag) → is_template g ≡ false → is_same g tag.Template ≡ false
      same g h = elim (cases (is_same g tag.Template)) [ inr e ↦ e | inl e ↦ absurd (false≢true (sym h ∙ ap is_template (same-tag g tag.Template e))) ]

      none : (us : List Tag) → list_any is_template us ≡ false → list_any (λ g. is_same g tag.Template) us ≡ false
      none [] h = refl
      none (u ∷ us) h = (let c = neither (is_template u) (list_any is_template us) h in rw (same u c.0, none us c.1) refl)

      by : (b c : Bool) → c ≡ false → (b && is_some (cond (c && not (list_any (stops_at a.tree.tree stop.Never) (above (is_member a.tree.tree (group.Named tag.Template)) a.tree.stack))) (last_index (is_member a.tree.tree (group.Named tag.Template)) a.tree.stack) None)) ≡ false
      by true false e = refl
      by false c e = refl
      by true true e = absurd (false≢true (sym e))

  pub runs-outer : (n : ℕ) (m o : Mode) (gs : List Tag) (p : Plan) (t : TokenKind) (a : State) (e : Ending) (z : State) → exact r n (symbol_of t) m o gs p ≡ true → IsAt m o gs a → Runs r p t a e z → IsEnd e z
  runs-outer n m o gs _ _ _ _ _ h k (does w p t a b e z i j) =
      let c = both (grows (symbol_of t) w) _ h in
      elim (either ((opens_body (symbol_of t) w && not (waits m)) && (is_html gs && sound r n (symbol_of t) (body_view m) p)) _ c.1) [
        | inl u ↦ (let d = both (opens_body (symbol_of t) w && not (waits m)) (is_html gs && sound r n (symbol_of t) (body_view m) p) u in
            let f = both (is_html gs) (sound r n (symbol_of t) (body_view m) p) d.1 in
            runs-inner r quiet n (body_view m) p t b e z f.1 (models-becomes (body_view m) (after w t a) b i (body-opened m o gs t a k w c.0 d.0 f.0)) j)
        | inr u ↦ (let v = both (spares (symbol_of t) w) _ u in
            elim (either ((opens_template (symbol_of t) w && not (waits m)) && ((is_html gs || is_head gs) && sound r n (symbol_of t) (template_view m) p)) _ v.1) [
              | inl x ↦ (let d = both (opens_template (symbol_of t) w && not (waits m)) ((is_html gs || is_head gs) && sound r n (symbol_of t) (template_view m) p) x in
                  let f = both (is_html gs || is_head gs) (sound r n (symbol_of t) (template_view m) p) d.1 in
                  runs-inner r quiet n (template_view m) p t b e z f.1 (models-becomes (template_view m) (after w t a) b i (template-opened m o gs t a k w c.0 v.0 d.0 f.0)) j)
              | inr x ↦ elim (either (opens_frameset (symbol_of t) w && frames p) (may_outer (symbol_of t) m gs w && exact r n (symbol_of t) (outer_mode m o w) (outer_original m o w) (outer_tags (symbol_of t) gs w) p) x) [
                | inl q ↦ inl (frameset-opened m o gs w p t a b e z k v.0 q i j)
                | inr q ↦ (let d = both (may_outer (symbol_of t) m gs w) (exact r n (symbol_of t) (outer_mode m o w) (outer_original m o w) (outer_tags (symbol_of t) gs w) p) q in
                    runs-outer n (outer_mode m o w) (outer_original m o w) (outer_tags (symbol_of t) gs w) p t b e z d.1 (at-core (outer_mode m o w) (outer_original m o w) (outer_tags (symbol_of t) gs w) (after w t a) b (becomes-core (after w t a) b i) (at-word m o gs t a k w c.0 v.0 d.0)) j)
              ]
            ])
      ]
  runs-outer n m o gs _ _ _ _ _ h k (asks q p d t a b e z i j) =
      runs-outer n m o gs (if answer q t a then p else d) t b e z (chosen q (answer q t a) refl h) (at-core m o gs a b (becomes-core a b i) k) j
    where
      pair : (x : Bool) → (exact r n (symbol_of t) m o gs p && exact r n (symbol_of t) m o gs d) ≡ true → exact r n (symbol_of t) m o gs (if x then p else d) ≡ true
      pair true u = (both (exact r n (symbol_of t) m o gs p) (exact r n (symbol_of t) m o gs d) u).0
      pair false u = (both (exact r n (symbol_of t) m o gs p) (exact r n (symbol_of t) m o gs d) u).1

      by-pop : (x c : Bool) → x ≡ c → cond c (exact r n (symbol_of t) m o gs p) (exact r n (symbol_of t) m o gs d) ≡ true → exact r n (symbol_of t) m o gs (if x then p else d) ≡ true
      by-pop true true u v = v
      by-pop false false u v = v
      by-pop true false u v = absurd (false≢true (sym u))
      by-pop false true u v = absurd (false≢true u)

      by-template : (x c : Bool) → (c ≡ false → x ≡ false) → (cond c (exact r n (symbol_of t) m o gs p) true && exact r n (symbol_of t) m o gs d) ≡ true → exact r n (symbol_of t) m o gs (if x then p else d) ≡ true
      by-template false c f u = (both (cond c (exact r n (symbol_of t) m o gs p) true) (exact r n (symbol_of t) m o gs d) u).1
      by-template true true f u = (both (exact r n (symbol_of t) m o gs p) (exact r n (symbol_of t) m o gs d) u).0
      by-template true false f u = absurd (false≢true (sym (f refl)))

      chosen : (q : Query) (x : Bool) → answer q t a ≡ x → exact r n (symbol_of t) m o gs (Ask q p d) ≡ true → exact r n (symbol_of t) m o gs (if x then p else d) ≡ true
      chosen (CanPop g) x e u = by-pop x (can_pop g gs) (sym e ∙ pop-answer g m o gs t a k) u
      chosen HasTemplate x e u = by-template x (list_any is_template gs) (λ v. sym e ∙ template-answer m o gs t a k v) u
      chosen q x e u = pair x u
  runs-outer n m o gs _ _ _ _ _ h k (stops t a e z i) = inr (inl (at-end m o gs z h (at-core m o gs a z (becomes-core a z i) k)))
  runs-outer (suc n) m o gs _ _ _ _ _ h k (goes_by u t a e z j) = runs-outer n m o gs (r u (symbol_of t)) t a e z h k j
  runs-outer zero m o gs _ _ _ _ _ h k (goes_by u t a e z j) = absurd (false≢true h)
  runs-outer n m o gs _ _ _ _ _ h k (reconstructs p t a b e z i l j) = absurd (false≢true h)
  runs-outer n m o gs _ _ _ _ _ h k (adopts g p t a b e z i l j) = absurd (false≢true h)
  runs-outer n m o gs _ _ _ _ _ h k (closes_link p t a b e z i l j) = absurd (false≢true h)
  runs-outer n m o gs _ _ _ _ _ h k (fosters p t a b c e z i j l) = absurd (false≢true h)
  runs-outer n m o gs _ _ _ _ _ h k (settles q p t a b e z i j) = absurd (false≢true h)
  runs-outer n m o gs _ _ _ _ _ h k (ends_each q p t a e z j) = absurd (false≢true h)
  runs-outer n m o gs _ _ _ _ _ h k (does_each c cs q p t a b e z i j) = absurd (false≢true h)

-- How a plain page goes on.
use Rattle.std.specs.Prelude.{codes, slice_get, ◌==◌, not}
use Rattle.std.proofs.Common.{◌≡◌, ◌≢◌, ℕ, ◌<◌, Bool, true, false, cond, eqb, List, [], ◌∷◌, ◌++◌, ◌⊎◌, inl, inr, drop, length, reverse, Some, None, refl, sym, ap, ◌∙◌, subst, arith, append_assoc}
use Rattle.std.proofs.lemmas.Bool.Decides.{nat_tests}
use Rattle.html_names.specs.declared.tag.Tag.{Tag}
use Rattle.html_names.specs.declared.tag.Tag.TheVariants as tag
use Rattle.html_names.specs.Names.{tag_of}
use Rattle.html_names.specs.Sets.{is_template}
use Rattle.html_names.specs.Tags.{is_same}
use Rattle.html_arena.specs.Data.{name_in}
use Rattle.html_arena.specs.Forest.{Forest}
use Rattle.html_arena.specs.Forest.Forest.{empty}
use Rattle.html_arena.specs.Siblings.{last_of}
use Rattle.html_arena.specs.Tree.{Tree, label_of}
use Rattle.html_arena.specs.declared.data.NodeData.{NodeData}
use Rattle.html_arena.specs.declared.data.NodeData.TheVariants as node
use Rattle.html_tokens.specs.declared.attributes.Attr.{Attr}
use Rattle.html_tokens.specs.declared.token.TokenKind.{TokenKind}
use Rattle.html_tokens.specs.declared.token.TokenKind.TheVariants.{Start, End, Char, Comment, Doctype, Eof}
use Rattle.html_ledger.specs.Entries.{Entries}
use Rattle.html_ledger.specs.Symbols.{symbol_of}
use Rattle.html_ledger.specs.declared.fate.Fate.{Fate}
use Rattle.html_ledger.specs.declared.symbol.Symbol.{Symbol}
use Rattle.html_ledger.specs.declared.symbol.Symbol.TheVariants as symbol
use Rattle.html_open.specs.Placing.{get}
use Rattle.html_open.specs.declared.places.Place.TheVariants.{Last}
use Rattle.html_tree.specs.Closing.{popped}
use Rattle.html_tree.specs.Inserting.{with_new, with_open}
use Rattle.html_tree.specs.Targets.{place_for}
use Rattle.html_tree.specs.Texts.{place_here}
use Rattle.html_tree.specs.declared.groups.Target.TheVariants.{Current}
use Rattle.html_construction.specs.Calls.{element_of}
use Rattle.html_construction.specs.States.{State}
use Rattle.html_construction.specs.declared.mode.Mode.{Mode}
use Rattle.html_construction.specs.declared.mode.Mode.TheVariants.{Initial, BeforeHtml, BeforeHead, InHead, AfterHead, InBody, AfterBody, AfterAfterBody}
use Rattle.html_modes.specs.Plain.{EndsCurrent, GoesOn, IsPlainState, closes, is_next, is_plain_tag, next_fate, next_mode, next_nodes, next_stack, next_tags}
use Rattle.html_page.specs.Begun.{IsContentOuter, front_then}
use Rattle.html_page.specs.Forest.{join, single}
use Rattle.html_page.specs.Label.{Label, label_for}
use Rattle.html_page.specs.Label.Label.{comment, doctype, document, element, text}
use Rattle.html_page.specs.Open.{Before}
use Rattle.html_page.specs.PageTokens.{ArePlain, IsPlainFront, chars_then, epilog, kinds_then, page_kinds, prolog}
use Rattle.html_page.specs.Plain.{ArePlainAttrs, IsContent, IsPlainChar, IsPlainName}
use Rattle.html_page.proofs.Added.{body-not_template, head-not_template, html-not_template}
use Rattle.html_page.proofs.Alls.{all-append}
use Rattle.html_page.proofs.Fronts.{Follows, content-element, content-text, ends-join, front-more, names_of, plain-follows}
use Rattle.html_page.proofs.Names.{each-name}
use Rattle.html_builder.specs.Plain.{HasMade, HavePlainFates, IsBegun, IsHeld, IsPlainFate, IsStage, in_body, in_head, in_html, only_doctype, only_head, tags_in}
use Rattle.html_builder.proofs.Opened.{and_text, last-top, open-top, place-is, text-closed, top}
use Rattle.html_builder.proofs.Standing.{front-text, lone-top, made-doctype, made-end, made-same, made-start, made-text}

-- THE TAGS

html-tag : tag_of (codes "html") ≡ tag.Html
unfolding tag_of
html-tag = refl

head-tag : tag_of (codes "head") ≡ tag.Head
unfolding tag_of
head-tag = refl

body-tag : tag_of (codes "body") ≡ tag.Body
unfolding tag_of
body-tag = refl

-- what the rules know of the name of an element that a plain page holds
record IsKnown (n : List ℕ) : Type 0 where
  known_tag : Tag
  tag_is : tag_of n ≡ known_tag
  no_template : is_template (tag_of n) ≡ false
  known : is_plain_tag known_tag ≡ true
  same : is_same known_tag known_tag ≡ true
  closing : closes InBody (symbol.End known_tag) ≡ true
  going : next_mode InBody (symbol.End known_tag) ≡ InBody
  nodes : (a : State) (k : TokenKind) → next_nodes a (symbol.Start known_tag) k ≡ with_new a.tree.tree (place_for a.tree (Current false)) (element_of a k)

div-known : IsKnown (codes "div")
unfolding tag_of
div-known = record { known_tag = tag.Div; tag_is = refl; no_template = refl; known = refl; same = refl; closing = refl; going = refl; nodes = λ a k. refl }

span-known : IsKnown (codes "span")
unfolding tag_of
span-known = record { known_tag = tag.Other; tag_is = refl; no_template = refl; known = refl; same = refl; closing = refl; going = refl; nodes = λ a k. refl }

section-known : IsKnown (codes "section")
unfolding tag_of
section-known = record { known_tag = tag.Section; tag_is = refl; no_template = refl; known = refl; same = refl; closing = refl; going = refl; nodes = λ a k. refl }

article-known : IsKnown (codes "article")
unfolding tag_of
article-known = record { known_tag = tag.Article; tag_is = refl; no_template = refl; known = refl; same = refl; closing = refl; going = refl; nodes = λ a k. refl }

b-known : IsKnown (codes "b")
unfolding tag_of
b-known = record { known_tag = tag.B; tag_is = refl; no_template = refl; known = refl; same = refl; closing = refl; going = refl; nodes = λ a k. refl }

i-known : IsKnown (codes "i")
unfolding tag_of
i-known = record { known_tag = tag.I; tag_is = refl; no_template = refl; known = refl; same = refl; closing = refl; going = refl; nodes = λ a k. refl }

em-known : IsKnown (codes "em")
unfolding tag_of
em-known = record { known_tag = tag.Em; tag_is = refl; no_template = refl; known = refl; same = refl; closing = refl; going = refl; nodes = λ a k. refl }

strong-known : IsKnown (codes "strong")
unfolding tag_of
strong-known = record { known_tag = tag.Strong; tag_is = refl; no_template = refl; known = refl; same = refl; closing = refl; going = refl; nodes = λ a k. refl }

is-known : (n : List ℕ) → IsPlainName n → IsKnown n
is-known n h = each-name IsKnown div-known span-known section-known article-known b-known i-known em-known strong-known n h

-- THE TOKENS

pub some-inj : (x y : TokenKind) → Some x ≡ Some y → x ≡ y
some-inj x y e = cc

-- what the body holds comes after the prolog
pub body-front : (d : Forest Label) (inner : List Before) (rest : List TokenKind) → front_then d (inner ++ in_body) rest ≡ prolog ++ front_then d inner rest
body-front d [] rest = refl
body-front d ((n, attrs, before) ∷ inner) rest = body-front before inner _

-- after tokens that end in the body, or past it
pub front-follows : (tokens past rest : List TokenKind) (d : Forest Label) (s : List ℕ) (inner : List Before) → tokens ≡ front_then d (inner ++ in_body) (chars_then s past) → ArePlain (tokens ++ rest) → Follows (names_of inner) (past ++ rest)
front-follows tokens past rest d s inner e p =
    plain-follows (and_text d s) inner (past ++ rest)
    (subst ArePlain (ap (λ (l : List TokenKind). l ++ rest) (e ∙ sym (front-text d s (inner ++ in_body) past)) ∙ sym (front-more (and_text d s) (inner ++ in_body) past rest) ∙ body-front (and_text d s) inner (past ++ rest)) p)

-- a token of the prolog
prolog-all : (all : List TokenKind) → ArePlain all → (rest : List TokenKind) × (all ≡ prolog ++ rest)
prolog-all all p = (kinds_then p.1.0 epilog, p.2 ∙ ap page_kinds p.1.1)

pub prolog-next : (front rest tokens : List TokenKind) (k x : TokenKind) (i : ℕ) → tokens ≡ front → slice_get ((front ++ k ∷ []) ++ rest) i ≡ Some k → ((l : List TokenKind) → slice_get (prolog ++ l) i ≡ Some x) → ArePlain ((tokens ++ k ∷ []) ++ rest) → k ≡ x
prolog-next front rest tokens k x i e f g p =
    let w = prolog-all ((tokens ++ k ∷ []) ++ rest) p in
    some-inj k x (sym f ∙ ap (λ (l : List TokenKind). slice_get ((l ++ k ∷ []) ++ rest) i) (sym e) ∙ ap (λ (l : List TokenKind). slice_get l i) w.1 ∙ g w.0)

-- the content of the innermost element
pub held-content : (d : Forest Label) (s : List ℕ) → IsHeld d s → IsContent false (and_text d s)
held-content d [] h = h.content
held-content d (c ∷ s) h = content-text d false (c ∷ s) h.content h.apart (λ e. absurd (omega (arith, ap length e))) h.chars

-- an element's name
element-name : (x : NodeData) (n : List ℕ) (attrs : List Attr) → label_for x ≡ element n attrs → name_in x ≡ n
element-name (node.Element e) n attrs h = ap name_at h
  where
    name_at : Label → List ℕ
    name_at (element m b) = m
    name_at _ = []
element-name node.Document n attrs h = absurd (let k : document ≡ element n attrs = h in cc)
element-name (node.Contents x) n attrs h = absurd (let k : document ≡ element n attrs = h in cc)
element-name (node.Text s) n attrs h = absurd (let k : text s ≡ element n attrs = h in cc)
element-name (node.Comment s i) n attrs h = absurd (let k : comment s ≡ element n attrs = h in cc)
element-name (node.Doctype m p s i) n attrs h = absurd (let k : doctype m p s ≡ element n attrs = h in cc)

-- the current node has the name of the innermost element
current-name : (tokens past : List TokenKind) (a : State) (d : Forest Label) (s n : List ℕ) (attrs : List Attr) (before : Forest Label) (outer : List Before) → HasMade tokens a d s ((n, attrs, before) ∷ outer) past
    → name_in (label_of a.tree.tree (get (last_of a.tree.stack) 0)) ≡ n
current-name tokens past a d s n attrs before outer h =
    let t : Tree = a.tree.tree in
    let o = open-top t (length t.labels) [] (reverse a.tree.stack) (and_text d s) ((n, attrs, before) ∷ outer) (text-closed s t (reverse a.tree.stack) d ((n, attrs, before) ∷ outer) h.nodes_are) in
    ap (λ (x : ℕ). name_in (label_of t x)) (last-top a.tree.stack) ∙ element-name (label_of t (top (reverse a.tree.stack))) n attrs o.label_is.label_is

unlike : (x y : ℕ) → x ≢ y → eqb x y ≡ false
unlike x y h = grind (arith, nat_tests)

not-null : (c : ℕ) → c ≢ 0 → not (c == 0) ≡ true
not-null c h = ap not (unlike c 0 h)

some-open : (inner : List Before) → 0 < length (inner ++ in_body)
some-open [] = omega arith
some-open (o ∷ inner) = omega arith

-- ONE TOKEN

-- the stack of open elements after a token, by the mode
abbrev stack_in : Mode → State → Symbol → List ℕ
stack_in m a (symbol.Start t) = with_open a.tree
stack_in m a y = cond (closes m y) (popped a.tree.stack) a.tree.stack

stack-in : (a : State) (y : Symbol) → next_stack a y ≡ stack_in a.mode a y
stack-in a (symbol.Start t) = refl
stack-in a (symbol.End t) = refl
stack-in a (symbol.Char c) = refl
stack-in a symbol.Comment = refl
stack-in a symbol.Doctype = refl
stack-in a symbol.Eof = refl

-- what a token made in a mode
record Turned (m : Mode) (y : Symbol) (x : TokenKind) (a b : State) : Type 0 where
  mode_is : b.mode ≡ next_mode m y
  tags_are : b.stack ≡ next_tags m y a.stack
  stack_is : b.tree.stack ≡ stack_in m a y
  nodes_are : b.tree.tree ≡ next_nodes a y x
  fates_are : b.ledger.fates ≡ a.ledger.fates ++ next_fate a y ∷ []
  plain : IsPlainState b

turned : (m : Mode) (y : Symbol) (k x : TokenKind) (a b : State) → GoesOn (symbol_of k) k a b → IsPlainState a → k ≡ x → symbol_of x ≡ y → a.mode ≡ m → is_next m a.stack y ≡ true → EndsCurrent m y x a → Turned m y x a b
turned m y k x a b g p e f n i c =
    let h : GoesOn y x a b = subst (λ (z : Symbol). GoesOn z x a b) f (subst (λ (z : TokenKind). GoesOn (symbol_of z) z a b) e g) in
    let r = h (record { plain = p; next = subst (λ (z : Mode). is_next z a.stack y ≡ true) (sym n) i; ends = subst (λ (z : Mode). EndsCurrent z y x a) (sym n) c }) in
    record {
      mode_is = r.0.mode_is ∙ ap (λ (z : Mode). next_mode z y) n;
      tags_are = r.0.tags_are ∙ ap (λ (z : Mode). next_tags z y a.stack) n;
      stack_is = r.0.stack_is ∙ stack-in a y ∙ ap (λ (z : Mode). stack_in z a y) n;
      nodes_are = r.0.nodes_are;
      fates_are = ap (λ (z : Entries). z.fates) r.0.ledger_is.1;
      plain = r.1;
    }

-- one token more has its fate
fates-more : (ts : List TokenKind) (fs : List Fate) (k : TokenKind) (f : Fate) → HavePlainFates ts fs → IsPlainFate k f → HavePlainFates (ts ++ k ∷ []) (fs ++ f ∷ [])
fates-more [] [] k f h p = (p, tt)
fates-more [] (g ∷ fs) k f h p = absurd h
fates-more (t ∷ ts) [] k f h p = absurd h
fates-more (t ∷ ts) (g ∷ fs) k f h p = (h.0, fates-more ts fs k f h.1 p)

-- the page is so far
begun-at : (tokens past : List TokenKind) (k x : TokenKind) (b : State) (m : Mode) (d : Forest Label) (s : List ℕ) (outer : List Before) → k ≡ x → b.mode ≡ m → HasMade (tokens ++ x ∷ []) b d s outer past → IsStage m d s outer past → IsBegun (tokens ++ k ∷ []) b
begun-at tokens past k x b m d s outer e f h g = record {
  d = d;
  s = s;
  outer = outer;
  past = past;
  made = subst (λ (z : TokenKind). HasMade (tokens ++ z ∷ []) b d s outer past) (sym e) h;
  stage = subst (λ (z : Mode). IsStage z d s outer past) (sym f) g;
}

pub made-at : (tokens past qast : List TokenKind) (a : State) (d f : Forest Label) (s r : List ℕ) (outer puter : List Before) → d ≡ f → s ≡ r → outer ≡ puter → past ≡ qast → HasMade tokens a d s outer past → HasMade tokens a f r puter qast
made-at tokens past qast a d f s r outer puter e g i j h =
    subst (λ (z : Forest Label). HasMade tokens a z r puter qast) e
    (subst (λ (z : List ℕ). HasMade tokens a d z puter qast) g
    (subst (λ (z : List Before). HasMade tokens a d s z qast) i
    (subst (λ (z : List TokenKind). HasMade tokens a d s outer z) j h)))

module _ (tokens : List TokenKind) (k : TokenKind) (a b : State) (plain : IsPlainState a) (more : IsPlainFront (tokens ++ k ∷ [])) (goes : GoesOn (symbol_of k) k a b)
    (met : HavePlainFates tokens a.ledger.fates) where
  abbrev Goes : Type 0
  Goes = IsBegun (tokens ++ k ∷ []) b × IsPlainState b × HavePlainFates (tokens ++ k ∷ []) b.ledger.fates

  -- the fates with that of the token
  fated : (m : Mode) (y : Symbol) (x : TokenKind) → k ≡ x → Turned m y x a b → IsPlainFate x (next_fate a y) → HavePlainFates (tokens ++ k ∷ []) b.ledger.fates
  fated m y x e t p =
      subst (HavePlainFates (tokens ++ k ∷ [])) (sym t.fates_are)
      (fates-more tokens a.ledger.fates k (next_fate a y) met (subst (λ (z : TokenKind). IsPlainFate z (next_fate a y)) (sym e) p))

  -- the place for an element
  place-at : (past : List TokenKind) (d : Forest Label) (s : List ℕ) (outer : List Before) → HasMade tokens a d s outer past → place_here a.tree false ≡ Last (top (reverse a.tree.stack))
  place-at past d s outer h =
      place-is a.tree (length a.tree.tree.labels) [] (and_text d s) outer (text-closed s a.tree.tree (reverse a.tree.stack) d outer h.nodes_are)

  in-initial : a.mode ≡ Initial → HasMade tokens a empty [] [] [] → Goes
  in-initial m h =
      let x : TokenKind = Doctype (Some (codes "html")) None None false in
      let e : k ≡ x = prolog-next [] more.0 tokens k x 0 h.tokens_are refl (λ l. refl) more.1 in
      let t = turned Initial symbol.Doctype k x a b goes plain e refl m refl tt in (
        begun-at tokens [] k x b BeforeHtml only_doctype [] [] e t.mode_is
            (made-doctype tokens a b empty (Some (codes "html")) None None _ h t.tags_are t.stack_is t.nodes_are) (refl, refl, refl, refl),
        t.plain,
        fated Initial symbol.Doctype x e t tt,
      )

  in-before_html : a.mode ≡ BeforeHtml → HasMade tokens a only_doctype [] [] [] → Goes
  in-before_html m h =
      let x : TokenKind = Start (codes "html") [] false in
      let e : k ≡ x = prolog-next (front_then only_doctype [] []) more.0 tokens k x 1 h.tokens_are refl (λ l. refl) more.1 in
      let t = turned BeforeHtml (symbol.Start tag.Html) k x a b goes plain e (ap symbol.Start html-tag) m refl tt in (
        begun-at tokens [] k x b BeforeHead empty [] in_html e t.mode_is
            (made-start tokens a b only_doctype [] [] (codes "html") [] _ (Last 0) h html-not_template
            (ap Last (sym (lone-top a.tree.tree (length a.tree.tree.labels) [] (reverse a.tree.stack) only_doctype h.nodes_are)))
            (t.tags_are ∙ ap (λ (z : Tag). z ∷ a.stack) (sym html-tag)) t.stack_is t.nodes_are) (refl, refl, refl, refl),
        t.plain,
        fated BeforeHtml (symbol.Start tag.Html) x e t tt,
      )

  in-before_head : a.mode ≡ BeforeHead → HasMade tokens a empty [] in_html [] → Goes
  in-before_head m h =
      let x : TokenKind = Start (codes "head") [] false in
      let e : k ≡ x = prolog-next (front_then empty in_html []) more.0 tokens k x 2 h.tokens_are refl (λ l. refl) more.1 in
      let t = turned BeforeHead (symbol.Start tag.Head) k x a b goes plain e (ap symbol.Start head-tag) m refl tt in (
        begun-at tokens [] k x b InHead empty [] in_head e t.mode_is
            (made-start tokens a b empty [] in_html (codes "head") [] _ (place_here a.tree false) h head-not_template (place-at [] empty [] in_html h)
            (t.tags_are ∙ ap (λ (z : Tag). z ∷ a.stack) (sym head-tag)) t.stack_is t.nodes_are) (refl, refl, refl, refl),
        t.plain,
        fated BeforeHead (symbol.Start tag.Head) x e t tt,
      )

  in-in_head : a.mode ≡ InHead → HasMade tokens a empty [] in_head [] → Goes
  in-in_head m h =
      let x : TokenKind = End (codes "head") in
      let e : k ≡ x = prolog-next (front_then empty in_head []) more.0 tokens k x 3 h.tokens_are refl (λ l. refl) more.1 in
      let t = turned InHead (symbol.End tag.Head) k x a b goes plain e (ap symbol.End head-tag) m refl tt in (
        begun-at tokens [] k x b AfterHead only_head [] in_html e t.mode_is
            (made-end tokens a b empty [] (codes "head") [] empty in_html h (omega arith) t.tags_are t.stack_is t.nodes_are) (refl, refl, refl, refl),
        t.plain,
        fated InHead (symbol.End tag.Head) x e t tt,
      )

  in-after_head : a.mode ≡ AfterHead → HasMade tokens a only_head [] in_html [] → Goes
  in-after_head m h =
      let x : TokenKind = Start (codes "body") [] false in
      let e : k ≡ x = prolog-next (front_then only_head in_html []) more.0 tokens k x 4 h.tokens_are refl (λ l. refl) more.1 in
      let t = turned AfterHead (symbol.Start tag.Body) k x a b goes plain e (ap symbol.Start body-tag) m refl tt in (
        begun-at tokens [] k x b InBody empty [] in_body e t.mode_is
            (made-start tokens a b only_head [] in_html (codes "body") [] _ (place_here a.tree false) h body-not_template (place-at [] only_head [] in_html h)
            (t.tags_are ∙ ap (λ (z : Tag). z ∷ a.stack) (sym body-tag)) t.stack_is t.nodes_are)
            ([], refl, tt, record { content = tt; apart = refl; chars = tt }, refl),
        t.plain,
        fated AfterHead (symbol.Start tag.Body) x e t tt,
      )

  follows-next : (past : List TokenKind) (d : Forest Label) (s : List ℕ) (inner : List Before) → HasMade tokens a d s (inner ++ in_body) past → Follows (names_of inner) (past ++ k ∷ more.0)
  follows-next past d s inner h = front-follows tokens past (k ∷ more.0) d s inner h.tokens_are (subst ArePlain (append_assoc tokens (k ∷ []) more.0) more.1)

  -- a start tag in the body
  body-start : (d : Forest Label) (s : List ℕ) (inner : List Before) (n : List ℕ) (attrs : List Attr) → a.mode ≡ InBody → HasMade tokens a d s (inner ++ in_body) [] → IsContentOuter inner → IsHeld d s
      → k ≡ Start n attrs false → IsPlainName n → ArePlainAttrs attrs → Goes
  body-start d s inner n attrs m h o q e p c =
      let x : TokenKind = Start n attrs false in
      let w = is-known n p in
      let t = turned InBody (symbol.Start w.known_tag) k x a b goes plain e (ap symbol.Start w.tag_is) m w.known tt in (
        begun-at tokens [] k x b InBody empty [] ((n, attrs, and_text d s) ∷ (inner ++ in_body)) e t.mode_is
            (made-start tokens a b d s (inner ++ in_body) n attrs _ (place_here a.tree false) h w.no_template (place-at [] d s (inner ++ in_body) h)
            (t.tags_are ∙ ap (λ (z : Tag). z ∷ a.stack) (sym w.tag_is)) t.stack_is (t.nodes_are ∙ w.nodes a x))
            ((n, attrs, and_text d s) ∷ inner, refl, (p, c, held-content d s q, o), record { content = tt; apart = refl; chars = tt }, refl),
        t.plain,
        fated InBody (symbol.Start w.known_tag) x e t tt,
      )

  -- a code point
  body-char : (d : Forest Label) (s : List ℕ) (inner : List Before) (c : ℕ) → a.mode ≡ InBody → HasMade tokens a d s (inner ++ in_body) [] → IsContentOuter inner → IsHeld d s → k ≡ Char c → IsPlainChar c → Goes
  body-char d s inner c m h o q e p =
      let t = turned InBody (symbol.Char c) k (Char c) a b goes plain e refl m (not-null c p.not_null) tt in (
        begun-at tokens [] k (Char c) b InBody d (s ++ c ∷ []) (inner ++ in_body) e t.mode_is
            (made-text tokens a b d s c [] (inner ++ in_body) h q.apart t.tags_are t.stack_is t.nodes_are)
            (inner, refl, o, record { content = q.content; apart = q.apart; chars = all-append IsPlainChar s (c ∷ []) q.chars (p, tt) }, refl),
        t.plain,
        fated InBody (symbol.Char c) (Char c) e t tt,
      )

  -- the end tag of an element below the body
  body-end : (d : Forest Label) (s : List ℕ) (n : List ℕ) (attrs : List Attr) (before : Forest Label) (inner : List Before) → a.mode ≡ InBody → HasMade tokens a d s ((n, attrs, before) ∷ (inner ++ in_body)) []
      → IsContentOuter ((n, attrs, before) ∷ inner) → IsHeld d s → k ≡ End n → Goes
  body-end d s n attrs before inner m h o q e =
      let w = is-known n o.0 in
      let first : a.stack ≡ w.known_tag ∷ tags_in (inner ++ in_body) = h.tags_are ∙ ap (λ (z : Tag). z ∷ tags_in (inner ++ in_body)) w.tag_is in
      let t = turned InBody (symbol.End w.known_tag) k (End n) a b goes plain e (ap symbol.End w.tag_is) m (ap (λ (z : List Tag). is_next InBody z (symbol.End w.known_tag)) first ∙ w.same)
      (current-name tokens [] a d s n attrs before (inner ++ in_body) h) in (
        begun-at tokens [] k (End n) b InBody (join before (single (element n attrs) (and_text d s))) [] (inner ++ in_body) e (t.mode_is ∙ w.going)
            (made-end tokens a b d s n attrs before (inner ++ in_body) h (some-open inner)
            (t.tags_are ∙ ap (λ (z : Bool). cond z (drop 1 a.stack) a.stack) w.closing) (t.stack_is ∙ ap (λ (z : Bool). cond z (popped a.tree.stack) a.tree.stack) w.closing) t.nodes_are) (
              inner,
              refl,
              o.3,
              record {
                content = content-element before false n attrs (and_text d s) o.2 o.0 o.1 (held-content d s q);
                apart = ends-join false before (element n attrs) (and_text d s);
                chars = tt;
              },
              refl,
            ),
        t.plain,
        fated InBody (symbol.End w.known_tag) (End n) e t tt,
      )

  -- the end tag of the body
  body-last : (d : Forest Label) (s : List ℕ) → a.mode ≡ InBody → HasMade tokens a d s in_body [] → IsHeld d s → k ≡ End (codes "body") → Goes
  body-last d s m h q e =
      let x : TokenKind = End (codes "body") in
      let first : a.stack ≡ tag.Body ∷ tags_in in_html = h.tags_are ∙ ap (λ (z : Tag). z ∷ tags_in in_html) body-tag in
      let t = turned InBody (symbol.End tag.Body) k x a b goes plain e (ap symbol.End body-tag) m (ap (λ (z : List Tag). is_next InBody z (symbol.End tag.Body)) first)
      (current-name tokens [] a d s (codes "body") [] only_head in_html h) in (
        begun-at tokens (x ∷ []) k x b AfterBody d s in_body e t.mode_is (made-same tokens [] x a b d s in_body h t.tags_are t.stack_is t.nodes_are) (refl, q, refl),
        t.plain,
        fated InBody (symbol.End tag.Body) x e t tt,
      )

  body-next : (d : Forest Label) (s : List ℕ) (inner : List Before) (x : TokenKind) (rest : List TokenKind) → a.mode ≡ InBody → HasMade tokens a d s (inner ++ in_body) [] → IsContentOuter inner → IsHeld d s → k ≡ x
      → Follows (names_of inner) (x ∷ rest) → Goes
  body-next d s inner (Start n attrs false) rest m h o q e f = body-start d s inner n attrs m h o q e f.0 f.1
  body-next d s inner (Start n attrs true) rest m h o q e f = absurd f
  body-next d s inner (Char c) rest m h o q e f = body-char d s inner c m h o q e f.0
  body-next d s [] (End n) rest m h o q e f = body-last d s m h q (e ∙ ap End f.0)
  body-next d s ((n, attrs, before) ∷ inner) (End x) rest m h o q e f = body-end d s n attrs before inner m h o q (e ∙ ap End f.0)
  body-next d s inner (Comment z) rest m h o q e f = absurd f
  body-next d s inner (Doctype n p i z) rest m h o q e f = absurd f
  body-next d s inner Eof rest m h o q e f = absurd f

  in-after_body : (d : Forest Label) (s : List ℕ) → a.mode ≡ AfterBody → HasMade tokens a d s in_body (End (codes "body") ∷ []) → IsHeld d s → Goes
  in-after_body d s m h q =
      let x : TokenKind = End (codes "html") in
      let f = follows-next (End (codes "body") ∷ []) d s [] h in
      let e : k ≡ x = some-inj k x (ap (λ (l : List TokenKind). slice_get l 0) f.1) in
      let t = turned AfterBody (symbol.End tag.Html) k x a b goes plain e (ap symbol.End html-tag) m refl tt in (
        begun-at tokens (End (codes "body") ∷ x ∷ []) k x b AfterAfterBody d s in_body e t.mode_is (made-same tokens (End (codes "body") ∷ []) x a b d s in_body h t.tags_are t.stack_is t.nodes_are) (refl, q, inl refl),
        t.plain,
        fated AfterBody (symbol.End tag.Html) x e t tt,
      )

  in-after_after_body : (d : Forest Label) (s : List ℕ) → a.mode ≡ AfterAfterBody → HasMade tokens a d s in_body (End (codes "body") ∷ End (codes "html") ∷ []) → IsHeld d s → Goes
  in-after_after_body d s m h q =
      let f = follows-next (End (codes "body") ∷ End (codes "html") ∷ []) d s [] h in
      let e : k ≡ Eof = some-inj k Eof (ap (λ (l : List TokenKind). slice_get l 1) f.1) in
      let t = turned AfterAfterBody symbol.Eof k Eof a b goes plain e refl m refl tt in (
        begun-at tokens epilog k Eof b AfterAfterBody d s in_body e t.mode_is (made-same tokens (End (codes "body") ∷ End (codes "html") ∷ []) Eof a b d s in_body h t.tags_are t.stack_is t.nodes_are) (refl, q, inr refl),
        t.plain,
        fated AfterAfterBody symbol.Eof Eof e t tt,
      )

  at-end : (d : Forest Label) (s : List ℕ) → HasMade tokens a d s in_body epilog → Goes
  at-end d s h =
      let f = follows-next epilog d s [] h in
      absurd (let e : Some k ≡ None = ap (λ (l : List TokenKind). slice_get l 2) f.1 in cc)

  module _ (d : Forest Label) (s : List ℕ) (outer : List Before) (past : List TokenKind) (h : HasMade tokens a d s outer past) where
    after-after : a.mode ≡ AfterAfterBody → outer ≡ in_body → IsHeld d s → (past ≡ End (codes "body") ∷ End (codes "html") ∷ []) ⊎ (past ≡ epilog) → Goes
    after-after m e q (inl p) = in-after_after_body d s m (made-at tokens past _ a d d s s outer in_body refl refl e p h) q
    after-after m e q (inr p) = at-end d s (made-at tokens past _ a d d s s outer in_body refl refl e p h)

    by-stage : (m : Mode) → a.mode ≡ m → IsStage m d s outer past → Goes
    by-stage Initial m g = in-initial m (made-at tokens past [] a d _ s _ outer _ g.0 g.1 g.2 g.3 h)
    by-stage BeforeHtml m g = in-before_html m (made-at tokens past [] a d _ s _ outer _ g.0 g.1 g.2 g.3 h)
    by-stage BeforeHead m g = in-before_head m (made-at tokens past [] a d _ s _ outer _ g.0 g.1 g.2 g.3 h)
    by-stage InHead m g = in-in_head m (made-at tokens past [] a d _ s _ outer _ g.0 g.1 g.2 g.3 h)
    by-stage AfterHead m g = in-after_head m (made-at tokens past [] a d _ s _ outer _ g.0 g.1 g.2 g.3 h)
    by-stage InBody m g =
        let i : HasMade tokens a d s (g.0 ++ in_body) [] = made-at tokens past [] a d d s s outer (g.0 ++ in_body) refl refl g.1 g.4 h in
        body-next d s g.0 k more.0 m i g.2 g.3 refl (follows-next [] d s g.0 i)
    by-stage AfterBody m g = in-after_body d s m (made-at tokens past _ a d d s s outer in_body refl refl g.0 g.2 h) g.1
    by-stage AfterAfterBody m g = after-after m g.0 g.1 g.2
    by-stage _ m g = absurd g

  -- a token more
  pub goes-on : IsBegun tokens a → Goes
  goes-on h = by-stage h.d h.s h.outer h.past h.made a.mode refl h.stage

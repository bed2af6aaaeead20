-- A plain page from its beginning to its end.
use Rattle.std.specs.Prelude.{codes, not, slice_get}
use Rattle.std.specs.List.{AllByRecursion, list_all}
use Rattle.std.proofs.lemmas.Bool.{false≢true}
use Rattle.std.proofs.lemmas.Bool.Decides.{nat_tests}
use Rattle.std.proofs.Common.{◌≡◌, ◌≢◌, ℕ, zero, suc, ◌<◌, Bool, true, false, ◌&&◌, eqb, List, [], ◌∷◌, ◌++◌, ◌⊎◌, inl, inr, length, map, reverse, Option, Some, None, refl, sym, ap, ◌∙◌, subst, arith, append_assoc, append-nil}
use Rattle.html_arena.specs.Below.{kids}
use Rattle.html_arena.specs.Data.{label_in, origin_in}
use Rattle.html_arena.specs.Forest.{Forest}
use Rattle.html_arena.specs.Forest.Forest.{empty, tree}
use Rattle.html_arena.specs.Tree.{Tree}
use Rattle.html_arena.specs.declared.arena.Limits.{Limits}
use Rattle.html_arena.specs.declared.data.NodeData.TheVariants as node
use Rattle.html_arena.specs.declared.walk.Show.TheVariants.{All}
use Rattle.html_arena.specs.declared.data.Origin.TheVariants.{Nothing, Token}
use Rattle.html_tokens.specs.declared.token.TokenKind.{TokenKind}
use Rattle.html_tokens.specs.declared.token.TokenKind.TheVariants.{Start, End, Char, Doctype, Eof}
use Rattle.html_ledger.specs.Entries.{Entries, begun}
use Rattle.html_ledger.specs.Flags.{is_not_null}
use Rattle.html_ledger.specs.Symbols.{symbol_of}
use Rattle.html_ledger.specs.declared.fate.Fate.{Fate}
use Rattle.html_ledger.specs.declared.fate.Fate.TheVariants as fate
use Rattle.html_ledger.specs.declared.setting.Setting.{Setting}
use Rattle.html_ledger.specs.declared.setting.Setting.TheVariants as setting
use Rattle.html_open.specs.Marking.{bare}
use Rattle.html_tree.specs.States.{IsSound, document_state}
use Rattle.html_tree.specs.States.{State as Nodes}
use Rattle.html_construction.specs.Built.{chars_of}
use Rattle.html_construction.specs.States.{State}
use Rattle.html_construction.specs.declared.mode.Mode.{Mode}
use Rattle.html_construction.specs.declared.mode.Mode.TheVariants.{Initial, BeforeHtml, BeforeHead, InHead, AfterHead, InBody, AfterBody, AfterAfterBody}
use Rattle.html_modes.specs.Plain.{AreListed, GoesOn, GoesOnText, HasSeen, IsPlainState, IsTextTurn, StandsIn}
use Rattle.html_tree.specs.OpenTags.{open_tags}
use Rattle.html_tree.specs.Texts.{text_node}
use Rattle.html_page.specs.Begun.{IsContentOuter, front_then}
use Rattle.html_page.specs.Forest.{join, single}
use Rattle.html_page.specs.Label.{Label}
use Rattle.html_page.specs.Label.Label.{document, element}
use Rattle.html_page.specs.Open.{Before}
use Rattle.html_page.specs.PageTokens.{ArePlain, IsPlainFront, epilog, kinds_then, page_kinds, prolog}
use Rattle.html_page.specs.Plain.{IsPlainChar, IsPlainPage, page_of}
use Rattle.html_page.specs.Shows.{Shows}
use Rattle.html_page.proofs.Alls.{all-append}
use Rattle.html_page.proofs.Fronts.{Follows, front-shorter, names_of}
use Rattle.html_page.proofs.Once.{page-once}
use Rattle.html_page.proofs.Opens.{OpenAt-closed, Shows-from_ShowsIn, below-children}
use Rattle.html_builder.specs.Plain.{AreOpen, HasMade, HavePlainFates, IsBegun, IsEven, IsHeld, IsPlainSoFar, IsStage, in_body, in_head, in_html, only_doctype, only_head}
use Rattle.html_builder.proofs.Going.{front-follows, goes-on, held-content, made-at, prolog-next}
use Rattle.html_builder.proofs.Opened.{and_text, text-closed}
use Rattle.html_builder.proofs.Standing.{front-text, made-text}

-- CODE POINTS IN A ROW

unlike : (x y : ℕ) → x ≢ y → eqb x y ≡ false
unlike x y h = grind (arith, nat_tests)

run-plain : (names : List (List ℕ)) (run : List ℕ) (rest : List TokenKind) → Follows names (chars_of run ++ rest) → AllByRecursion IsPlainChar run
run-plain names [] rest f = tt
run-plain names (c ∷ run) rest f = (f.0, run-plain names run rest f.1)

run-seen : (run : List ℕ) → AllByRecursion IsPlainChar run → list_all is_not_null run ≡ true
run-seen [] h = refl
run-seen (c ∷ run) h = ap (λ (b : Bool). not b && list_all is_not_null run) (unlike c 0 h.0.not_null) ∙ run-seen run h.1

-- code points in a row have their fates
run-fates : (ts : List TokenKind) (fs : List Fate) (run : List ℕ) (x : ℕ) → HavePlainFates ts fs → HavePlainFates (ts ++ chars_of run) (fs ++ map (λ c. fate.Text x) run)
run-fates [] [] [] x h = tt
run-fates [] [] (c ∷ run) x h = (tt, run-fates [] [] run x tt)
run-fates [] (f ∷ fs) run x h = absurd h
run-fates (t ∷ ts) [] run x h = absurd h
run-fates (t ∷ ts) (f ∷ fs) run x h = (h.0, run-fates ts fs run x h.1)

module _ (tokens : List TokenKind) (c : ℕ) (run : List ℕ) (a b : State) (plain : IsPlainState a) (more : IsPlainFront (tokens ++ chars_of (c ∷ run)))
    (goes : list_all is_not_null (c ∷ run) ≡ true → GoesOnText (c ∷ run) a b) (met : HavePlainFates tokens a.ledger.fates) where
  abbrev Goes : Type 0
  Goes = IsBegun (tokens ++ chars_of (c ∷ run)) b × IsPlainState b × HavePlainFates (tokens ++ chars_of (c ∷ run)) b.ledger.fates

  -- with the first of them
  first : ArePlain ((tokens ++ Char c ∷ []) ++ (chars_of run ++ more.0))
  first =
      subst ArePlain (append_assoc tokens (chars_of (c ∷ run)) more.0 ∙ sym (append_assoc tokens (Char c ∷ []) (chars_of run ++ more.0))) more.1

  follows-run : (past : List TokenKind) (d : Forest Label) (s : List ℕ) (inner : List Before) → HasMade tokens a d s (inner ++ in_body) past → Follows (names_of inner) (past ++ (chars_of (c ∷ run) ++ more.0))
  follows-run past d s inner h = front-follows tokens past (chars_of (c ∷ run) ++ more.0) d s inner h.tokens_are (subst ArePlain (append_assoc tokens (chars_of (c ∷ run)) more.0) more.1)

  run-body : (d : Forest Label) (s : List ℕ) (inner : List Before) → a.mode ≡ InBody → HasMade tokens a d s (inner ++ in_body) [] → IsContentOuter inner → IsHeld d s → Goes
  run-body d s inner m h o q =
      let p = run-plain (names_of inner) (c ∷ run) more.0 (follows-run [] d s inner h) in
      let both : IsTextTurn (c ∷ run) a b × IsPlainState b = goes (run-seen (c ∷ run) p) plain m in
      let t : IsTextTurn (c ∷ run) a b = both.0 in (
        record {
          d = d;
          s = s ++ c ∷ run;
          outer = inner ++ in_body;
          past = [];
          made = made-text tokens a b d s c run (inner ++ in_body) h q.apart t.tags_are t.stack_is t.nodes_are;
          stage = subst (λ (z : Mode). IsStage z d (s ++ c ∷ run) (inner ++ in_body) []) (sym (t.mode_is ∙ m))
              (inner, refl, o, record { content = q.content; apart = q.apart; chars = all-append IsPlainChar s (c ∷ run) q.chars p }, refl);
        },
        both.1,
        subst (HavePlainFates (tokens ++ chars_of (c ∷ run))) (sym t.fates_are) (run-fates tokens a.ledger.fates (c ∷ run) (text_node a.tree false) met),
      )

  not-doctype : (n p i : Option (List ℕ)) → Char c ≡ Doctype n p i false → ⊥
  not-doctype n p i e = cc

  not-start : (n : List ℕ) → Char c ≡ Start n [] false → ⊥
  not-start n e = cc

  not-end : (n : List ℕ) → Char c ≡ End n → ⊥
  not-end n e = cc

  module _ (d : Forest Label) (s : List ℕ) (outer : List Before) (past : List TokenKind) (h : HasMade tokens a d s outer past) where
    after-after : outer ≡ in_body → (past ≡ End (codes "body") ∷ End (codes "html") ∷ []) ⊎ (past ≡ epilog) → Goes
    after-after e (inl p) =
        let f = follows-run (End (codes "body") ∷ End (codes "html") ∷ []) d s [] (made-at tokens past _ a d d s s outer in_body refl refl e p h) in
        absurd (let k : Some (Char c) ≡ Some Eof = ap (λ (l : List TokenKind). slice_get l 1) f.1 in cc)
    after-after e (inr p) =
        let f = follows-run epilog d s [] (made-at tokens past _ a d d s s outer in_body refl refl e p h) in
        absurd (let k : Some (Char c) ≡ None = ap (λ (l : List TokenKind). slice_get l 2) f.1 in cc)

    by-stage : (m : Mode) → a.mode ≡ m → IsStage m d s outer past → Goes
    by-stage Initial m g =
        let i : HasMade tokens a empty [] [] [] = made-at tokens past [] a d _ s _ outer _ g.0 g.1 g.2 g.3 h in
        absurd (not-doctype (Some (codes "html")) None None (prolog-next [] (chars_of run ++ more.0) tokens (Char c) _ 0 i.tokens_are refl (λ l. refl) first))
    by-stage BeforeHtml m g =
        let i : HasMade tokens a only_doctype [] [] [] = made-at tokens past [] a d _ s _ outer _ g.0 g.1 g.2 g.3 h in
        absurd (not-start (codes "html") (prolog-next (front_then only_doctype [] []) (chars_of run ++ more.0) tokens (Char c) _ 1 i.tokens_are refl (λ l. refl) first))
    by-stage BeforeHead m g =
        let i : HasMade tokens a empty [] in_html [] = made-at tokens past [] a d _ s _ outer _ g.0 g.1 g.2 g.3 h in
        absurd (not-start (codes "head") (prolog-next (front_then empty in_html []) (chars_of run ++ more.0) tokens (Char c) _ 2 i.tokens_are refl (λ l. refl) first))
    by-stage InHead m g =
        let i : HasMade tokens a empty [] in_head [] = made-at tokens past [] a d _ s _ outer _ g.0 g.1 g.2 g.3 h in
        absurd (not-end (codes "head") (prolog-next (front_then empty in_head []) (chars_of run ++ more.0) tokens (Char c) _ 3 i.tokens_are refl (λ l. refl) first))
    by-stage AfterHead m g =
        let i : HasMade tokens a only_head [] in_html [] = made-at tokens past [] a d _ s _ outer _ g.0 g.1 g.2 g.3 h in
        absurd (not-start (codes "body") (prolog-next (front_then only_head in_html []) (chars_of run ++ more.0) tokens (Char c) _ 4 i.tokens_are refl (λ l. refl) first))
    by-stage InBody m g = run-body d s g.0 m (made-at tokens past [] a d d s s outer (g.0 ++ in_body) refl refl g.1 g.4 h) g.2 g.3
    by-stage AfterBody m g =
        let f = follows-run (End (codes "body") ∷ []) d s [] (made-at tokens past _ a d d s s outer in_body refl refl g.0 g.2 h) in
        absurd (let k : Some (Char c) ≡ Some (End (codes "html")) = ap (λ (l : List TokenKind). slice_get l 0) f.1 in cc)
    by-stage AfterAfterBody m g = after-after g.0 g.2
    by-stage _ m g = absurd g

  -- some code points more
  pub runs-on : IsBegun tokens a → Goes
  runs-on h = by-stage h.d h.s h.outer h.past h.made a.mode refl h.stage

-- a token, and a run, of whatever is parsed
pub plain-token : (k : TokenKind) (a b : State) → GoesOn (symbol_of k) k a b → (s : Setting) (tokens : List TokenKind) → IsPlainSoFar s tokens a → IsPlainSoFar s (tokens ++ k ∷ []) b
plain-token k a b g setting.Document tokens h = λ p. let w = h (front-shorter tokens (k ∷ []) p) in goes-on tokens k a b w.1 p g w.2 w.0
plain-token k a b g (setting.Fragment t form) tokens h = tt

pub plain-run : (run : List ℕ) (a b : State) → 0 < length run → (list_all is_not_null run ≡ true → GoesOnText run a b) → (s : Setting) (tokens : List TokenKind) → IsPlainSoFar s tokens a → IsPlainSoFar s (tokens ++ chars_of run) b
plain-run [] a b l g s tokens h = absurd (omega (arith, l))
plain-run (c ∷ run) a b l g setting.Document tokens h = λ p. let w = h (front-shorter tokens (chars_of (c ∷ run)) p) in runs-on tokens c run a b w.1 p g w.2 w.0
plain-run (c ∷ run) a b l g (setting.Fragment t form) tokens h = tt

-- THE BEGINNING

lone-label : (x : ℕ) → label_in (node.Document ∷ []) x ≡ node.Document
lone-label zero = refl
lone-label (suc x) = refl

begun-sound : (l : Option Limits) (k : ℕ) → IsSound (document_state l k)
begun-sound l k = record {
  stack_in = λ x h. absurd (false≢true h);
  elements = λ x h. absurd (false≢true h);
  stack_once = tt;
  ordered = tt;
  first = λ x e. absurd cc;
  root = λ h. absurd h;
  some_node = omega arith;
  list_in = λ x h. absurd (false≢true h);
  formatting = λ x h. absurd (false≢true h);
  list_once = tt;
  stack_origins = λ i x y h. absurd (false≢true h);
  list_origins = λ i x y h. absurd (false≢true h);
  shared_origins = λ i x y h. absurd (false≢true h);
  tokens = λ x i e. absurd (let q : Nothing ≡ Token i = sym (ap origin_in (lone-label x)) ∙ e in cc);
  head = λ x e. absurd cc;
  form = λ x e. absurd cc;
  detached = λ x e. absurd cc;
}

begun-open : (l : Option Limits) (k : ℕ) → AreOpen (document_state l k).tree 1 [] [] empty []
begun-open l k = (
  record { within = omega arith; label_is = record { label_is = refl; no_contents = refl }; ids = []; children_are = refl; shows = tt },
  record { inside = omega arith; alone = refl; no_host = refl },
)

-- before the first token
pub begun-plain : (b : State) → b.mode ≡ Initial → b.stack ≡ [] → (l : Option Limits) (k : ℕ) → b.tree ≡ document_state l k → b.ledger ≡ begun setting.Document → b.fostering ≡ false → b.context ≡ None
    → IsBegun [] b × IsPlainState b × HavePlainFates [] b.ledger.fates
begun-plain b m st l k t g f c = (
  record {
    d = empty;
    s = [];
    outer = [];
    past = [];
    made = record {
      tokens_are = refl;
      tags_are = st;
      nodes_are = subst (λ (z : Nodes). AreOpen z.tree (length z.tree.labels) [] (reverse z.stack) empty []) (sym t) (begun-open l k);
      even = subst (λ (z : Nodes). IsEven z.tree) (sym t) (record { parents = refl; lists = refl });
    };
    stage = subst (λ (z : Mode). IsStage z empty [] [] []) (sym m) (refl, refl, refl, refl);
  },
  record {
    unfostered = f;
    no_context = c;
    quiet = ap (λ (e : Entries). e.kept) g;
    no_newline = ap (λ (e : Entries). e.history.ignore_line_feed) g;
    no_foreign = ap (λ (e : Entries). e.history.foreign) g;
    seen = subst (λ (z : Mode). HasSeen z b.ledger.history) (sym m) (ap (λ (e : Entries). e.history.awaits_doctype) g);
    tags = st ∙ sym (ap open_tags t);
    sound = subst IsSound (sym t) (begun-sound l k);
    listed = subst (λ (z : Nodes). AreListed z.list z.stack) (sym t) tt;
    stands = subst (λ (z : Mode). StandsIn z b.stack) (sym m) st;
  },
  subst (HavePlainFates []) (sym (ap (λ (e : Entries). e.fates) g)) tt,
)

-- THE END

-- the tree of a page whose body is still open
open-shown : (t : Tree) (ids : List ℕ) (d : Forest Label) → AreOpen t (length t.labels) [] ids d in_body → Shows t (0 ∷ []) (page_of d)
open-shown t [] d h = absurd h
open-shown t (x ∷ []) d h = absurd h.1
open-shown t (x ∷ y ∷ z ∷ ids) d h = absurd h.1.1
open-shown t (x ∷ y ∷ []) d h =
    let root = OpenAt-closed t (length t.labels) y x (element (codes "html") []) (element (codes "body") []) only_head d h.1.0 h.0 in
    let page = OpenAt-closed t (length t.labels) 0 y document (element (codes "html") []) only_doctype _ h.1.1.0 root in (
      omega (arith, page.within),
      page.label_is.label_is,
      subst (λ l. Shows t l (join only_doctype (single (element (codes "html") []) (join only_head (single (element (codes "body") []) d)))))
          (sym (below-children t 0 page.label_is.no_contents ∙ page.children_are ∙ append-nil page.ids)) (Shows-from_ShowsIn t 1 (length t.labels) page.ids (join only_doctype (single (element (codes "html") []) (join only_head (single (element (codes "body") []) d)))) (omega arith) page.shows),
      tt,
    )

-- marks and steps are not seen
pub shows-bare : (t : Tree) (ids : List ℕ) (f : Forest Label) → Shows (bare t) ids f → Shows t ids f
shows-bare t [] empty h = tt
shows-bare t [] (tree label below after) h = absurd h
shows-bare t (x ∷ ids) empty h = absurd h
shows-bare t (x ∷ ids) (tree label below after) h = (h.0, h.1, shows-bare t (kids All t x) below h.2, shows-bare t ids after h.3)

module _ (tokens : List TokenKind) (a : State) (page : Forest Label) (is_plain : IsPlainPage page) (all : tokens ≡ page_kinds page) where
  whole : ArePlain tokens
  whole = (page, is_plain, all)

  -- it has more tokens than those before the body
  short : (front : List TokenKind) (i : ℕ) (x : TokenKind) → tokens ≡ front → slice_get front i ≡ None → ((l : List TokenKind) → slice_get (prolog ++ l) i ≡ Some x) → ⊥
  short front i x e f g =
      let k : None ≡ Some x = sym f ∙ sym (ap (λ (l : List TokenKind). slice_get l i) e) ∙ ap (λ (l : List TokenKind). slice_get l i) (all ∙ ap page_kinds is_plain.1) ∙ g (kinds_then is_plain.0 epilog) in cc

  follows-none : (past : List TokenKind) (d : Forest Label) (s : List ℕ) (inner : List Before) → HasMade tokens a d s (inner ++ in_body) past → Follows (names_of inner) (past ++ [])
  follows-none past d s inner h = front-follows tokens past [] d s inner h.tokens_are (subst ArePlain (sym (append-nil tokens)) whole)

  at-end : (d : Forest Label) (s : List ℕ) → HasMade tokens a d s in_body epilog → IsHeld d s → Shows a.tree.tree (0 ∷ []) page
  at-end d s h q =
      let e : tokens ≡ page_kinds (page_of (and_text d s)) = h.tokens_are ∙ sym (front-text d s in_body epilog) in
      let same : page_of (and_text d s) ≡ page = page-once (page_of (and_text d s)) page (and_text d s, refl, held-content d s q) is_plain (sym e ∙ all) in
      subst (λ (f : Forest Label). Shows a.tree.tree (0 ∷ []) f) same
      (open-shown a.tree.tree (reverse a.tree.stack) (and_text d s) (text-closed s a.tree.tree (reverse a.tree.stack) d in_body h.nodes_are))

  module _ (d : Forest Label) (s : List ℕ) (outer : List Before) (past : List TokenKind) (h : HasMade tokens a d s outer past) where
    end-after : outer ≡ in_body → IsHeld d s → (past ≡ End (codes "body") ∷ End (codes "html") ∷ []) ⊎ (past ≡ epilog) → Shows a.tree.tree (0 ∷ []) page
    end-after e q (inl p) =
        let f = follows-none (End (codes "body") ∷ End (codes "html") ∷ []) d s [] (made-at tokens past _ a d d s s outer in_body refl refl e p h) in
        absurd (let k : None ≡ Some Eof = ap (λ (l : List TokenKind). slice_get l 1) f.1 in cc)
    end-after e q (inr p) = at-end d s (made-at tokens past _ a d d s s outer in_body refl refl e p h) q

    end-stage : (m : Mode) → IsStage m d s outer past → Shows a.tree.tree (0 ∷ []) page
    end-stage Initial g =
        let i : HasMade tokens a empty [] [] [] = made-at tokens past [] a d _ s _ outer _ g.0 g.1 g.2 g.3 h in
        absurd (short _ 0 _ i.tokens_are refl (λ l. refl))
    end-stage BeforeHtml g =
        let i : HasMade tokens a only_doctype [] [] [] = made-at tokens past [] a d _ s _ outer _ g.0 g.1 g.2 g.3 h in
        absurd (short _ 1 _ i.tokens_are refl (λ l. refl))
    end-stage BeforeHead g =
        let i : HasMade tokens a empty [] in_html [] = made-at tokens past [] a d _ s _ outer _ g.0 g.1 g.2 g.3 h in
        absurd (short _ 2 _ i.tokens_are refl (λ l. refl))
    end-stage InHead g =
        let i : HasMade tokens a empty [] in_head [] = made-at tokens past [] a d _ s _ outer _ g.0 g.1 g.2 g.3 h in
        absurd (short _ 3 _ i.tokens_are refl (λ l. refl))
    end-stage AfterHead g =
        let i : HasMade tokens a only_head [] in_html [] = made-at tokens past [] a d _ s _ outer _ g.0 g.1 g.2 g.3 h in
        absurd (short _ 4 _ i.tokens_are refl (λ l. refl))
    end-stage InBody g = absurd (follows-none [] d s g.0 (made-at tokens past [] a d d s s outer (g.0 ++ in_body) refl refl g.1 g.4 h))
    end-stage AfterBody g =
        let f = follows-none (End (codes "body") ∷ []) d s [] (made-at tokens past _ a d d s s outer in_body refl refl g.0 g.2 h) in
        absurd (let k : None ≡ Some (End (codes "html")) = ap (λ (l : List TokenKind). slice_get l 0) f.1 in cc)
    end-stage AfterAfterBody g = end-after g.0 g.1 g.2
    end-stage _ g = absurd g

  -- of a page of which all tokens were taken, the fates
  pub page-fates : (IsPlainFront tokens → IsBegun tokens a × IsPlainState a × HavePlainFates tokens a.ledger.fates) → HavePlainFates tokens a.ledger.fates
  page-fates f = (f ([], subst ArePlain (sym (append-nil tokens)) whole)).2

  -- and the tree
  pub page-shown : (IsPlainFront tokens → IsBegun tokens a × IsPlainState a × HavePlainFates tokens a.ledger.fates) → (t : Tree) → bare t ≡ a.tree.tree → Shows t (0 ∷ []) page
  page-shown f t e =
      let h = (f ([], subst ArePlain (sym (append-nil tokens)) whole)).0 in
      shows-bare t (0 ∷ []) page (subst (λ (u : Tree). Shows u (0 ∷ []) page) (sym e) (end-stage h.d h.s h.outer h.past h.made a.mode h.stage))

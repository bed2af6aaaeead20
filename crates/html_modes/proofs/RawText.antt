-- Elements that hold text alone: how they begin, and how their text goes on.
use Rattle.std.proofs.Common.{◌≡◌, ℕ, zero, suc, ◌-◌, ◌<◌, ◌&&◌, ◌⊎◌, inl, inr, Bool, true, false, cond, List, [], ◌∷◌, ◌++◌, length, length-append, get_or, set, Some, None, refl, sym, ◌∙◌, ap, subst, arith}
use Rattle.std.proofs.lemmas.Bool.{false≢true}
use Rattle.std.proofs.lemmas.List.{append-nil, get_or-set_other, get_or-set_same, get_or_append_left, length-set}
use Rattle.std.proofs.Math.Seq.{get_or-append_seam}
use Rattle.html_names.specs.declared.tag.Tag.{Tag}
use Rattle.html_names.specs.declared.tag.Tag.TheVariants as tag
use Rattle.html_names.specs.Names.{tag_of}
use Rattle.html_names.specs.Sets.{is_fostering, is_template}
use Rattle.html_names.specs.Tags.{is_same}
use Rattle.html_arena.specs.declared.data.NewNode.TheVariants as new
use Rattle.html_arena.specs.declared.data.NodeData.{NodeData}
use Rattle.html_arena.specs.declared.data.NodeData.TheVariants as node
use Rattle.html_arena.specs.declared.data.Origin.{Origin}
use Rattle.html_arena.specs.Data.{contents_in, is_text as is_text_node, tag_in, with_run}
use Rattle.html_arena.specs.Make.{label_for}
use Rattle.html_arena.specs.Siblings.{Distinct, has, last_of}
use Rattle.html_arena.specs.Tree.{Tree, children_of, contents_at, label_of, tag_at, texted_run}
use Rattle.html_open.specs.declared.places.Place.TheVariants.{Last}
use Rattle.html_open.specs.Marking.{bare}
use Rattle.html_open.specs.Placing.{fostered, get, inside, place_at}
use Rattle.html_open.proofs.Closing.{last-pushed}
use Rattle.html_open.proofs.Keeps.{Distinct-remove}
use Rattle.html_tokens.specs.declared.attributes.Attr.{Attr}
use Rattle.html_tokens.specs.declared.token.TokenKind.{TokenKind}
use Rattle.html_tokens.specs.declared.token.TokenKind.TheVariants as kind
use Rattle.html_ledger.specs.declared.fate.Cause.{Cause}
use Rattle.html_ledger.specs.declared.fate.Cause.TheVariants.{LeadingNewline, PrologSpace}
use Rattle.html_ledger.specs.declared.fate.Fate.TheVariants.{Dropped, Made, Text}
use Rattle.html_ledger.specs.declared.history.History.{History}
use Rattle.html_ledger.specs.declared.symbol.Symbol.{Symbol}
use Rattle.html_ledger.specs.declared.symbol.Symbol.TheVariants.{Start, Char}
use Rattle.html_ledger.specs.Entries.{Entries, given}
use Rattle.html_ledger.specs.Flags.{must_drop}
use Rattle.html_ledger.specs.Spaces.{is_space}
use Rattle.html_ledger.specs.Symbols.{is_char, symbol_of}
use Rattle.html_tree.specs.Closing.{kept_to, popped}
use Rattle.html_tree.specs.Inserting.{IsBlank, with_new}
use Rattle.html_tree.specs.States.{IsSound, State as Open}
use Rattle.html_tree.specs.Texts.{if_text, node_or_next, place_here, text_before, text_node, tree_or_new, with_text}
use Rattle.html_tree.proofs.Inserted.{element-tag}
use Rattle.html_tree.proofs.Kept.{has-take}
use Rattle.html_construction.specs.declared.mode.Mode.{Mode}
use Rattle.html_construction.specs.declared.mode.Mode.TheVariants as mode
use Rattle.html_construction.specs.Calls.{HasFate, element_of}
use Rattle.html_construction.specs.Built.{Begins, Keeps, Takes, in_call, since_tree, with_tokens}
use Rattle.html_construction.specs.States.{State}
use Rattle.html_construction.specs.Tokens.{tag_name}
use Rattle.html_construction.proofs.Kept.{built-since}
use Rattle.html_names.specs.Sets.{is_headish}
use Rattle.html_names.specs.Groups.{is_noscript_part, is_table_head}
use Rattle.html_modes.specs.RawText.{AddsText, Ends, EndsBy, HasOpened, IsLeft, Leaves, LeavesIn, HoldsText, IsOpenText, holds_text_alone, is_aside}
use Rattle.html_modes.specs.Fitting.{is_loose}
use Rattle.html_construction.specs.Modes.{is_of_frames, is_of_selects}
use Rattle.html_modes.specs.Guards.{is_table_text, is_text}
use Rattle.html_modes.specs.Steps.{Steps, is_code_point}
use Rattle.html_modes.specs.declared.outcome.Outcome.{Outcome}
use Rattle.html_modes.specs.declared.outcome.Outcome.TheVariants.{Done, Reprocess, Foreign}
use Rattle.html_modes.proofs.InBody.{last-split}
use Rattle.html_modes.proofs.Plain.{IsAlike, alike-then, popped-push}

-- THEIR NAMES

pub headish-is_noscript_part : (t : Tag) → is_noscript_part t ≡ true → is_headish t ≡ true
headish-is_noscript_part tag.Basefont e = refl
headish-is_noscript_part tag.Bgsound e = refl
headish-is_noscript_part tag.Link e = refl
headish-is_noscript_part tag.Meta e = refl
headish-is_noscript_part tag.Noframes e = refl
headish-is_noscript_part tag.Style e = refl
headish-is_noscript_part _ e = absurd (false≢true e)

pub headish-is_table_head : (t : Tag) → is_table_head t ≡ true → is_headish t ≡ true
headish-is_table_head tag.Script e = refl
headish-is_table_head tag.Style e = refl
headish-is_table_head tag.Template e = refl
headish-is_table_head _ e = absurd (false≢true e)

-- none is a template, or one from which text is fostered
pub alone-template : (t : Tag) → holds_text_alone t ≡ true → is_template t ≡ false
alone-template tag.Template e = absurd (false≢true e)
alone-template _ e = refl

alone-fostering : (t : Tag) → holds_text_alone t ≡ true → is_fostering t ≡ false
alone-fostering tag.Table e = absurd (false≢true e)
alone-fostering tag.Tbody e = absurd (false≢true e)
alone-fostering tag.Tfoot e = absurd (false≢true e)
alone-fostering tag.Thead e = absurd (false≢true e)
alone-fostering tag.Tr e = absurd (false≢true e)
alone-fostering _ e = refl

alone-html : (t : Tag) → holds_text_alone t ≡ true → is_same t tag.Html ≡ false
alone-html tag.Html e = absurd (false≢true e)
alone-html _ e = refl

-- HOW ONE BEGINS

and-false : (b : Bool) → (b && false) ≡ false
and-false true = refl
and-false false = refl

pub push-last : {X : Type 0} (xs ys : List X) (x y : X) → xs ++ x ∷ [] ≡ ys ++ y ∷ [] → x ≡ y
push-last [] [] x y e = cc
push-last [] (z ∷ []) x y e = absurd cc
push-last [] (z ∷ w ∷ ys) x y e = absurd cc
push-last (z ∷ []) [] x y e = absurd cc
push-last (z ∷ w ∷ xs) [] x y e = absurd cc
push-last (z ∷ xs) (w ∷ ys) x y e = push-last xs ys x y (let k : xs ++ x ∷ [] ≡ ys ++ y ∷ [] = cc in k)

pub opened-dropped : (t : Tag) (y : Symbol) (c : Cause) (a b : State) → HasFate y (Dropped c) a b → HasOpened t b
opened-dropped t y c a b h = record {
  opened = λ r fs x e. absurd (let k : Dropped c ≡ Made x = push-last a.ledger.fates fs (Dropped c) (Made x) (sym (ap (λ (l : Entries). l.fates) h.ledger_is) ∙ e) in cc);
}

pub tag-named : (token : TokenKind) (t : Tag) → symbol_of token ≡ Start t → tag_of (tag_name token) ≡ t
tag-named (kind.Start n us c) t e = cc
tag-named _ t e = absurd cc

element-contents : (t : Tree) (name : List ℕ) (attrs : List Attr) (o : Origin) → is_template (tag_of name) ≡ false → contents_in (label_for t (new.Element name attrs o)) ≡ None
element-contents t name attrs o e = rw e refl

-- its element was made and opened, and the mode is text
pub opened-text : (t : Tag) (token : TokenKind) (a z : State) → symbol_of token ≡ Start t → IsBlank (label_for a.tree.tree (element_of a token)) (length a.tree.tree.labels) z.tree.tree → z.mode ≡ mode.Text
    → z.tree.stack ≡ a.tree.stack ++ length a.tree.tree.labels ∷ [] → z.ledger ≡ given a.ledger (Start t) (Made (length a.tree.tree.labels)) → HasOpened t z
opened-text t token a z s k m w l = record {
  opened = λ alone fs x e.
      let same : Made (length a.tree.tree.labels) ≡ Made x = push-last a.ledger.fates fs (Made (length a.tree.tree.labels)) (Made x) (sym (ap (λ (n : Entries). n.fates) l) ∙ e) in
      let is : length a.tree.tree.labels ≡ x = cc in
      subst (λ n. IsOpenText n [] z) is (made alone);
}
  where
    named : tag_in (label_for a.tree.tree (element_of a token)) ≡ t
    named = element-tag a.tree.tree (tag_name token) _ _ ∙ tag-named token t s

    made : holds_text_alone t ≡ true → IsOpenText (length a.tree.tree.labels) [] z
    made alone = record {
      mode_is = m;
      current = ap last_of w ∙ last-pushed a.tree.stack (length a.tree.tree.labels);
      alone = ap holds_text_alone (ap tag_in k.label_is ∙ named) ∙ alone;
      no_contents = ap contents_in k.label_is ∙ element-contents a.tree.tree (tag_name token) _ _ (ap is_template (tag-named token t s) ∙ alone-template t alone);
      listed = k.listed;
      holds = inl (k.childless, refl);
      prolog = ap (λ (n : Entries). n.history.prolog) l ∙ ap (λ z. a.ledger.history.prolog && z) (alone-html t alone) ∙ and-false a.ledger.history.prolog;
    }

-- what tells nothing of it
pub open-aside : (x : ℕ) (s : List ℕ) (a : State) (n : ℕ) (v : List Tag) (f : Bool) (m : Mode) (d k : ℕ) → IsOpenText x s a
    → IsOpenText x s (record a { tree = record a.tree { steps = n }; stack = v; fostering = f; began = m; depth = d; nodes = k })
open-aside x s a n v f m d k h = record {
  mode_is = h.mode_is;
  current = h.current;
  alone = h.alone;
  no_contents = h.no_contents;
  listed = h.listed;
  holds = h.holds;
  prolog = h.prolog;
}

-- HOW ITS TEXT GOES ON

-- what is no document stands in the list
pub alone-in : (ls : List NodeData) (x : ℕ) → holds_text_alone (tag_in (get_or ls x node.Document)) ≡ true → x < length ls
alone-in [] x e = absurd (false≢true e)
alone-in (l ∷ ls) zero e = omega arith
alone-in (l ∷ ls) (suc x) e = let k = alone-in ls x e in omega (arith, k)

text-in : (ls : List NodeData) (x : ℕ) (s : List ℕ) → get_or ls x node.Document ≡ node.Text s → x < length ls
text-in [] x s e = absurd cc
text-in (l ∷ ls) zero s e = omega arith
text-in (l ∷ ls) (suc x) s e = let k = text-in ls x s e in omega (arith, k)

-- x holds this text, and its label is as it was
record IsTexted (t u : Tree) (x : ℕ) (s : List ℕ) : Type 0 where
  label_is : label_of u x ≡ label_of t x
  listed : x < length u.children
  holds : HoldsText u x s

module _ (t : Tree) (x : ℕ) (s run : List ℕ) (alone : holds_text_alone (tag_at t x) ≡ true) (listed : x < length t.children) where
  x-in : x < length t.labels
  x-in = alone-in t.labels x alone

  -- a new text
  texted-new : children_of t x ≡ [] → s ≡ [] → IsTexted t (bare (texted_run (with_new t (Last x) new.Text) (length t.labels) run)) x (s ++ run)
  texted-new e n = record {
    label_is = get_or-set_other (t.labels ++ node.Text [] ∷ []) (length t.labels) x v node.Document (λ q. absurd (let k = x-in in omega (arith, q, k))) ∙ get_or_append_left t.labels (node.Text [] ∷ []) node.Document x x-in;
    listed = let l = length-set (t.children ++ [] ∷ []) x w in let k = length-append t.children ([] ∷ []) in omega (arith, l, k, listed);
    holds = inr (length t.labels, kids, text);
  }
    where
      v : NodeData
      v = with_run (get_or (t.labels ++ node.Text [] ∷ []) (length t.labels) node.Document) run

      w : List ℕ
      w = get_or (t.children ++ [] ∷ []) x [] ++ length t.labels ∷ []

      kids : get_or (set (t.children ++ [] ∷ []) x w) x [] ≡ length t.labels ∷ []
      kids = get_or-set_same (t.children ++ [] ∷ []) x w [] (let k = length-append t.children ([] ∷ []) in omega (arith, k, listed)) ∙ ap (λ c. c ++ length t.labels ∷ []) (get_or_append_left t.children ([] ∷ []) [] x listed ∙ e)

      text : get_or (set (t.labels ++ node.Text [] ∷ []) (length t.labels) v) (length t.labels) node.Document ≡ node.Text (s ++ run)
      text = get_or-set_same (t.labels ++ node.Text [] ∷ []) (length t.labels) v node.Document (let k = length-append t.labels (node.Text [] ∷ []) in omega (arith, k))
          ∙ ap (λ d. with_run d run) (get_or-append_seam t.labels (node.Text []) [] node.Document) ∙ ap (λ c. node.Text (c ++ run)) (sym n)

  -- the text that is there
  texted-more : (y : ℕ) → children_of t x ≡ y ∷ [] → label_of t y ≡ node.Text s → IsTexted t (bare (texted_run t y run)) x (s ++ run)
  texted-more y e l = record {
    label_is = get_or-set_other t.labels y x (with_run (label_of t y) run) node.Document (λ q. absurd (false≢true (sym (ap (λ d. holds_text_alone (tag_in d)) (ap (label_of t) q ∙ l)) ∙ alone)));
    listed = listed;
    holds = inr (y, e, get_or-set_same t.labels y (with_run (label_of t y) run) node.Document (text-in t.labels y s l) ∙ ap (λ d. with_run d run) l);
  }

module _ (a : Open) (foster : Bool) (x : ℕ) (s run : List ℕ) (current : last_of a.stack ≡ Some x) (alone : holds_text_alone (tag_at a.tree x) ≡ true) (plain : contents_at a.tree x ≡ None) (listed : x < length a.tree.children) where
  -- it goes into the current node, where no text is fostered from, and which is no template
  here : place_here a foster ≡ Last x
  here =
      ap (λ o. place_at a.tree a.stack (get o 0) foster) current
      ∙ ap (λ b. cond (foster && b) (fostered a.tree a.stack) (Last (inside a.tree x))) (alone-fostering (tag_at a.tree x) alone)
      ∙ ap (λ b. cond b (fostered a.tree a.stack) (Last (inside a.tree x))) (and-false foster)
      ∙ ap (λ o. Last (get o x)) plain

  at-last : bare (texted_run (tree_or_new a.tree (Last x) (text_before a.tree (Last x))) (node_or_next a.tree (text_before a.tree (Last x))) run) ≡ with_text a foster run
  at-last = ap (λ p. bare (texted_run (tree_or_new a.tree p (text_before a.tree p)) (node_or_next a.tree (text_before a.tree p)) run)) (sym here)

  texted : HoldsText a.tree x s → IsTexted a.tree (with_text a foster run) x (s ++ run)
  texted (inl h) = subst (λ u. IsTexted a.tree u x (s ++ run)) at-last (subst (λ o. IsTexted a.tree (bare (texted_run (tree_or_new a.tree (Last x) o) (node_or_next a.tree o) run)) x (s ++ run)) (sym none) (texted-new a.tree x s run alone listed h.0 h.1))
    where
      none : text_before a.tree (Last x) ≡ None
      none = ap (λ cs. if_text a.tree (last_of cs)) h.0
  texted (inr h) = subst (λ u. IsTexted a.tree u x (s ++ run)) at-last (subst (λ o. IsTexted a.tree (bare (texted_run (tree_or_new a.tree (Last x) o) (node_or_next a.tree o) run)) x (s ++ run)) (sym some) (texted-more a.tree x s run alone listed h.0 h.1 h.2))
    where
      some : text_before a.tree (Last x) ≡ Some h.0
      some = ap (λ cs. if_text a.tree (last_of cs)) h.1 ∙ ap (λ d. cond (is_text_node d) (Some h.0) None) h.2

-- one was inserted
pub adds-inserted : (c : ℕ) (a : State) → AddsText (c ∷ []) a (record a { tree = record a.tree { tree = with_text a.tree a.fostering (c ∷ []) }; ledger = given a.ledger (Char c) (Text (text_node a.tree a.fostering)) })
adds-inserted c a = record {
  added = λ x s o.
      let t = texted a.tree a.fostering x s (c ∷ []) o.current o.alone o.no_contents o.listed o.holds in (
        Text (text_node a.tree a.fostering) ∷ [],
        refl,
        refl,
        record {
          mode_is = o.mode_is;
          current = o.current;
          alone = ap (λ d. holds_text_alone (tag_in d)) t.label_is ∙ o.alone;
          no_contents = ap contents_in t.label_is ∙ o.no_contents;
          listed = t.listed;
          holds = t.holds;
          prolog = ap (λ p. p && is_space c) o.prolog;
        },
      );
}

-- one was dropped
pub adds-dropped : (c : ℕ) (cause : Cause) (a : State) → (a.ledger.history.prolog ≡ false → is_aside (Dropped cause) ≡ true) → AddsText (c ∷ []) a (record a { ledger = given a.ledger (Char c) (Dropped cause) })
adds-dropped c cause a k = record {
  added = λ x s o. (
    Dropped cause ∷ [],
    refl,
    refl,
    record {
      mode_is = o.mode_is;
      current = o.current;
      alone = o.alone;
      no_contents = o.no_contents;
      listed = o.listed;
      holds = subst (λ b. HoldsText a.tree.tree x (s ++ (cond b [] (c ∷ []) ++ []))) (sym (k o.prolog)) (subst (λ z. HoldsText a.tree.tree x z) (sym (append-nil s)) o.holds);
      prolog = ap (λ p. p && is_space c) o.prolog;
    },
  );
}

-- one that every mode drops
pub must-aside : (h : History) (c : ℕ) (cause : Cause) → must_drop h (Char c) ≡ Some cause → h.prolog ≡ false → is_aside (Dropped cause) ≡ true
must-aside h c cause e p = by (is_char 10 (Char c) && h.ignore_line_feed) (sym (ap (λ b. cond b (Some PrologSpace) (cond (is_char 10 (Char c) && h.ignore_line_feed) (Some LeadingNewline) None)) none) ∙ e)
  where
    none : (is_space c && h.prolog) ≡ false
    none = ap (λ b. is_space c && b) p ∙ and-false (is_space c)

    by : (b : Bool) → cond b (Some LeadingNewline) None ≡ Some cause → is_aside (Dropped cause) ≡ true
    by true q = ap (λ z. is_aside (Dropped z)) (let k : cause ≡ LeadingNewline = cc in k)
    by false q = absurd (let k : None ≡ Some cause = q in cc)

pub text-loose : (m : Mode) → is_loose m ≡ true → is_text m ≡ false
text-loose mode.Text e = absurd (false≢true e)
text-loose _ e = refl

-- HOW IT ENDS

distinct-last : (r : List ℕ) (y : ℕ) → Distinct (r ++ y ∷ []) → has y r ≡ false
distinct-last r y d = ap (has y) (sym (append-nil r)) ∙ (Distinct-remove y r [] d).1

pub left-popped : (a m : Open) → m.tree ≡ a.tree → m.stack ≡ popped a.stack → IsSound a → 1 < length a.stack → IsLeft a m
left-popped a m e p w l = record {
  nodes_are = e;
  off = λ x o. subst (λ s. has x s ≡ false) (sym p) (has-take x (kept_to (length a.stack) (length a.stack - 1)) a.stack o);
  closed = λ x c. by x (last-split a.stack (omega (arith, l))) c;
}
  where
    by : (x : ℕ) → (r : List ℕ) × (y : ℕ) × (a.stack ≡ r ++ y ∷ []) → last_of a.stack ≡ Some x → has x m.stack ≡ false
    by x k c =
        let n = length-append k.0 (k.1 ∷ []) in
        let some : 0 < length k.0 = (let z : length a.stack ≡ length (k.0 ++ k.1 ∷ []) = ap length k.2 in omega (arith, z, n, l)) in
        let same : k.1 ≡ x = (let z : Some k.1 ≡ Some x = sym (last-pushed k.0 k.1) ∙ ap last_of (sym k.2) ∙ c in cc) in
        subst (λ s. has x s ≡ false) (sym (p ∙ ap popped k.2 ∙ popped-push k.0 k.1 some)) (subst (λ z. has z k.0 ≡ false) same (distinct-last k.0 k.1 (subst Distinct k.2 w.stack_once)))

-- the current node is closed, and the token is still in hand, or done with
pub leaves-still : (t : TokenKind) (a m b : State) → IsLeft a.tree m.tree → Keeps a m → Keeps m b → Leaves Reprocess t a b
leaves-still t a m b i k l = λ h w. (m.tree, i, l (since_tree h m.tree) (built-since h m (k h w)))

pub leaves-at-once : (t : TokenKind) (a m b : State) → IsLeft a.tree m.tree → Keeps a m → Takes t m b → Leaves Done t a b
leaves-at-once t a m b i k l = λ h w. (m.tree, i, l (since_tree h m.tree) (built-since h m (k h w)))

pub ends-still : (y : Symbol) (t : TokenKind) (a m : State) → IsLeft a.tree m.tree → Keeps a m → Ends Reprocess y t a m
ends-still y t a m i k = record { ends = λ e p. leaves-still t a m m i k (λ h w. w) }

pub ends-at-once : (y : Symbol) (t : TokenKind) (a m b : State) → IsLeft a.tree m.tree → Keeps a m → Takes t m b → Ends Done y t a b
ends-at-once y t a m b i k l = record { ends = λ e p. leaves-at-once t a m b i k l }

pub leaves-kept : (t : TokenKind) (a b c : State) → Leaves Reprocess t a b → Keeps b c → Leaves Reprocess t a c
leaves-kept t a b c f k = λ h w. let p = f h w in (p.0, p.1, k (since_tree h p.0) p.2)

pub leaves-taken : (t : TokenKind) (a b c : State) → Leaves Reprocess t a b → Takes t b c → Leaves Done t a c
leaves-taken t a b c f k = λ h w. let p = f h w in (p.0, p.1, k (since_tree h p.0) p.2)

pub leaves-done : (t : TokenKind) (a b c : State) → Leaves Done t a b → Keeps b c → Leaves Done t a c
leaves-done t a b c f k = λ h w. let p = f h w in (p.0, p.1, k (with_tokens (since_tree h p.0) (t ∷ [])) p.2)

left-later : (a : State) (s : ℕ) (m : Open) → IsLeft (record a.tree { steps = s }) m → IsLeft a.tree m
left-later a s m i = record { nodes_are = i.nodes_are; off = i.off; closed = i.closed }

pub leaves-alike : (o : Outcome) (t : TokenKind) (a n b : State) → Keeps a n → IsAlike a n → Leaves o t n b → Leaves o t a b
leaves-alike Done t a n b k f l = λ h w. let p = l h (k h w) in (p.0, left-later a n.tree.steps p.0 (subst (λ (z : State). IsLeft z.tree p.0) f.same p.1), p.2)
leaves-alike Reprocess t a n b k f l = λ h w. let p = l h (k h w) in (p.0, left-later a n.tree.steps p.0 (subst (λ (z : State). IsLeft z.tree p.0) f.same p.1), p.2)
leaves-alike (Foreign name) t a n b k f l = tt

pub ends-other : (o : Outcome) (y : Symbol) (t : TokenKind) (a b : State) → is_text a.mode ≡ false → Ends o y t a b
ends-other o y t a b e = record { ends = λ m p. absurd (false≢true (sym e ∙ m)) }

pub ends-char : (o : Outcome) (y : Symbol) (t : TokenKind) (a b : State) → is_code_point y ≡ true → Ends o y t a b
ends-char o y t a b e = record { ends = λ m p. absurd (false≢true (sym p ∙ e)) }

must-char : (h : History) (y : Symbol) (c : Cause) → must_drop h y ≡ Some c → is_code_point y ≡ true
must-char h (Char x) c e = refl
must-char h _ c e = absurd (let k : None ≡ Some c = e in cc)

pub ends-must : (o : Outcome) (y : Symbol) (t : TokenKind) (c : Cause) (a b : State) → must_drop a.ledger.history y ≡ Some c → Ends o y t a b
ends-must o y t c a b e = ends-char o y t a b (must-char a.ledger.history y c e)

-- MODES

text-table : (m : Mode) → is_table_text m ≡ true → is_text m ≡ false
text-table mode.InTableText e = refl
text-table _ e = absurd (false≢true e)

text-astray : (m : Mode) → (is_of_selects m ≡ false → is_of_frames m ≡ false → ⊥) → is_text m ≡ false
text-astray mode.Text n = absurd (n refl refl)
text-astray _ n = refl

pub ends-table_text : (o : Outcome) (y : Symbol) (t : TokenKind) (a b : State) → is_table_text a.mode ≡ true → Ends o y t a b
ends-table_text o y t a b e = ends-other o y t a b (text-table a.mode e)

pub ends-astray : (o : Outcome) (y : Symbol) (t : TokenKind) (a b : State) → (is_of_selects a.mode ≡ false → is_of_frames a.mode ≡ false → ⊥) → Ends o y t a b
ends-astray o y t a b n = ends-other o y t a b (text-astray a.mode n)

-- ONE TOKEN

-- what came of the token so far
abbrev pub Leaving : TokenKind → State → State → Type 0
Leaving t a n = IsAlike a n ⊎ Leaves Reprocess t a n

left-on : (o : Outcome) (y : Symbol) (t : TokenKind) (a m n b : State) → o ≡ Reprocess → Leaving t a m → IsAlike m n → Keeps a n → Keeps m n → Ends o y t n b → Steps o t n b → is_text a.mode ≡ true → is_code_point y ≡ false → Leaving t a b
left-on o y t a m n b q (inl f) g j k h w z p =
    let i : IsAlike a n = alike-then a m n f g in
    inr (leaves-alike Reprocess t a n b j i (subst (λ x. Leaves x t n b) q (h.ends (ap (λ (x : State). is_text x.mode) i.same ∙ z) p)))
left-on o y t a m n b q (inr f) g j k h w z p = inr (leaves-kept t a n b (leaves-kept t a m n f k) (subst (λ x. Steps x t n b) q w))

pub leaving-on : (o : Outcome) (y : Symbol) (t : TokenKind) (a m n b : State) → o ≡ Reprocess → (is_text a.mode ≡ true → is_code_point y ≡ false → Leaving t a m) → IsAlike m n → Keeps a n → Keeps m n → Ends o y t n b → Steps o t n b
    → is_text a.mode ≡ true → is_code_point y ≡ false → Leaving t a b
leaving-on o y t a m n b q f g j k h w z p = left-on o y t a m n b q (f z p) g j k h w z p

leaves-begun : (t : TokenKind) (a n b : State) → Begins a n → IsAlike a n → Leaves Done t n b → LeavesIn t a b
leaves-begun t a n b k f l = λ h w. let p = l (in_call h a) (k h w) in (p.0, left-later a n.tree.steps p.0 (subst (λ (z : State). IsLeft z.tree p.0) f.same p.1), p.2)

pub ends-done : (o : Outcome) (y : Symbol) (t : TokenKind) (a i m n b d : State) → o ≡ Done → IsAlike a i → Begins a i → (is_text i.mode ≡ true → is_code_point y ≡ false → Leaving t i m) → Keeps i m → IsAlike m n → Keeps m n → Ends o y t n b → Steps o t n b → Keeps b d → EndsBy y t a d
ends-done o y t a i m n b d q f k l u g v h w z = record {
  ends = λ r p. leaves-begun t a i d k f (on r p (l (ap (λ (x : State). is_text x.mode) f.same ∙ r) p));
}
  where
    on : is_text a.mode ≡ true → is_code_point y ≡ false → Leaving t i m → Leaves Done t i d
    on r p (inl e) =
        let j : IsAlike i n = alike-then i m n e g in
        leaves-done t i b d (leaves-alike Done t i n b (λ h w. v h (u h w)) j (subst (λ x. Leaves x t n b) q (h.ends (ap (λ (x : State). is_text x.mode) (alike-then a i n f j).same ∙ r) p))) z
    on r p (inr e) = leaves-done t i b d (leaves-taken t i n b (leaves-kept t i m n e v) (subst (λ x. Steps x t n b) q w)) z

pub ruleset headish_names = (headish-is_noscript_part, headish-is_table_head)

pub ruleset other_rules = (ends-other)

pub ruleset step_texts = (ends-table_text, ends-astray, ends-must)

pub ruleset text_texts = (ends-char, ends-still)

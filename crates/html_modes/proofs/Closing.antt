-- An end tag of a plain page closes the current node.
use Rattle.std.proofs.Common.{◌≡◌, ℕ, ◌-◌, ◌<◌, Bool, true, false, not, cond, ◌==◌, ◌&&◌, ◌||◌, List, [], ◌∷◌, ◌++◌, length, length-append, take, drop, Some, ◌⊎◌, inl, inr, refl, sym, ◌∙◌, ap, subst, arith}
use Rattle.std.specs.Prelude.{is_some}
use Rattle.std.specs.Cmp.Lexicographic.{pointwise}
use Rattle.std.specs.List.{list_all}
use Rattle.std.proofs.Math.Seq.{take-append_seam}
use Rattle.html_names.specs.declared.sets.Scope.{Scope}
use Rattle.html_names.specs.declared.sets.Scope.TheVariants as scope
use Rattle.html_names.specs.declared.tag.Tag.{Tag}
use Rattle.html_names.specs.declared.tag.Tag.TheVariants as tag
use Rattle.html_names.specs.Sets.{is_formatting}
use Rattle.html_names.specs.Tags.{is_same, number}
use Rattle.html_arena.specs.Data.{name_in}
use Rattle.html_arena.specs.Siblings.{last_of}
use Rattle.html_arena.specs.Tree.{label_of, named, tag_at}
use Rattle.html_tokens.specs.declared.token.TokenKind.{TokenKind}
use Rattle.html_open.specs.Entries.{without_node}
use Rattle.html_open.specs.Opened.{open_at}
use Rattle.html_open.specs.Placing.{get}
use Rattle.html_open.proofs.Closing.{last-pushed}
use Rattle.html_open.proofs.Keeps.{cases_bool, eqb-self}
use Rattle.html_open.proofs.SafePlaces.{same-tag}
use Rattle.html_tree.specs.declared.groups.Group.TheVariants as group
use Rattle.html_tree.specs.declared.groups.Stop.TheVariants as stop
use Rattle.html_tree.specs.Closing.{before_index, closed_through, kept_to, popped}
use Rattle.html_tree.specs.OpenTags.{is_tag_in_scope, open_tags, tags_down}
use Rattle.html_tree.specs.Searching.{found, found_name, has_name, index_before, is_member, is_special_at, stops}
use Rattle.html_tree.specs.States.{State as Open}
use Rattle.html_tree.proofs.OpenTags.{push-tags}
use Rattle.html_tree.proofs.Scoped.{found-scope}
use Rattle.html_ledger.specs.Entries.{ended, noted}
use Rattle.html_ledger.specs.Errors.{may_be_ignored}
use Rattle.html_ledger.specs.Flags.{has_error}
use Rattle.html_ledger.specs.declared.fate.Fate.TheVariants.{Ended}
use Rattle.html_ledger.specs.declared.symbol.Symbol.TheVariants.{End}
use Rattle.html_construction.specs.declared.mode.Mode.TheVariants.{AfterBody, InBody}
use Rattle.html_construction.specs.Calls.{HasEnded, IsTree, is_idle}
use Rattle.html_construction.specs.States.{State}
use Rattle.html_construction.specs.Tokens.{tag_name}
use Rattle.html_modes.specs.Plain.{EndsCurrent, IsClosed, IsCurrent, IsNextInBody, IsTurn, closes, is_next, is_plain_tag, next_mode}
use Rattle.html_modes.proofs.Current.{adopted-top, index-top}
use Rattle.html_modes.proofs.InBody.{last-split, path-of}

same-self : (t : Tag) → is_same t t ≡ true
same-self t = eqb-self (number t)

-- the current node, with what stands before it
pub record IsTop (t : Tag) (a : State) : Type 0 where
  pub before : List ℕ
  pub current : ℕ
  pub stack_is : a.tree.stack ≡ before ++ current ∷ []
  pub tag_is : tag_at a.tree.tree current ≡ t
  pub tags_before : drop 1 a.stack ≡ tags_down a.tree.tree before
  pub some : 0 < length before

top-of : (t : Tag) (a : State) → IsCurrent t a → IsTop t a
top-of t a c = by a.tree.stack refl
  where
    -- the body and the root stand below it
    below-some : (path : List Tag) → list_all is_plain_tag path ≡ true → t ∷ c.below ≡ path ++ tag.Body ∷ tag.Html ∷ [] → 0 < length c.below
    below-some [] h e = absurd (let k : t ≡ tag.Body = cc in let m : is_plain_tag tag.Body ≡ true = subst (λ v. is_plain_tag v ≡ true) k c.known in let n : false ≡ true = m in cc)
    below-some (u ∷ path) h e =
        let k : c.below ≡ path ++ tag.Body ∷ tag.Html ∷ [] = (let j : t ∷ c.below ≡ u ∷ (path ++ tag.Body ∷ tag.Html ∷ []) = e in cc) in
        let m = ap length k in let n = length-append path (tag.Body ∷ tag.Html ∷ []) in
        omega (arith, m, n)

    by : (s : List ℕ) → a.tree.stack ≡ s → IsTop t a
    by [] e = absurd (let k : tags_down a.tree.tree a.tree.stack ≡ t ∷ c.below = sym c.plain.tags ∙ c.top in let m : [] ≡ t ∷ c.below = sym (ap (tags_down a.tree.tree) e) ∙ k in cc)
    by (y ∷ ys) e =
        let l = last-split (y ∷ ys) (omega arith) in
        let s = e ∙ l.2 in
        let k : tag_at a.tree.tree l.1 ∷ tags_down a.tree.tree l.0 ≡ t ∷ c.below = sym (push-tags a.tree.tree l.0 l.1) ∙ sym (ap (tags_down a.tree.tree) s) ∙ sym c.plain.tags ∙ c.top in
        let rest : tags_down a.tree.tree l.0 ≡ c.below = cc in
        let p = path-of a c.plain c.mode in
        record {
          before = l.0;
          current = l.1;
          stack_is = s;
          tag_is = cc;
          tags_before = ap (drop 1) c.top ∙ sym rest;
          some = some l.0 (subst (λ v. 0 < length v) (sym rest) (below-some p.0 p.1 (sym c.top ∙ p.2)));
        }
      where
        some : (xs : List ℕ) → 0 < length (tags_down a.tree.tree xs) → 0 < length xs
        some [] h = h
        some (x ∷ xs) h = omega arith

-- it alone is popped
popped-is : (xs : List ℕ) (x : ℕ) → 0 < length xs → popped (xs ++ x ∷ []) ≡ xs
popped-is xs x h =
    let n = length-append xs (x ∷ []) in
    let k : kept_to (length (xs ++ x ∷ [])) (length (xs ++ x ∷ []) - 1) ≡ length xs = omega (arith, n, h) in
    ap (λ v. take v (xs ++ x ∷ [])) k ∙ take-append_seam xs (x ∷ [])

module _ (t : Tag) (a b : State) (c : IsCurrent t a) where
  top : IsTop t a
  top = top-of t a c

  stack-popped : popped a.tree.stack ≡ top.before
  stack-popped = ap popped top.stack_is ∙ popped-is top.before top.current top.some

  last-is : get (last_of a.tree.stack) 0 ≡ top.current
  last-is = ap (λ s. get (last_of s) 0) top.stack_is ∙ ap (λ o. get o 0) (last-pushed top.before top.current)

  pub closed : b.stack ≡ open_tags b.tree → b.tree.stack ≡ popped a.tree.stack → b.tree.tree ≡ a.tree.tree
      → b.tree.list ≡ cond (is_formatting t) (without_node (get (last_of a.tree.stack) 0) a.tree.list) a.tree.list → IsClosed t a b
  closed g s n l = record {
    tags_are = g ∙ ap (λ v. tags_down v b.tree.stack) n ∙ ap (tags_down a.tree.tree) (s ∙ stack-popped) ∙ sym top.tags_before;
    stack_is = s;
    nodes_are = n;
    list_is = l;
  }

  -- a search that it passes finds it
  found-top : (p q : ℕ → Bool) → p top.current ≡ true → index_before p q a.tree.stack ≡ Some (length a.tree.stack - 1)
  found-top p q h =
      let i = index-top p q top.before top.current h in
      let n = length-append top.before (top.current ∷ []) in
      let m : length top.before ≡ length (top.before ++ top.current ∷ []) - 1 = omega (arith, n) in
      rw top.stack_is (rw (i.0, i.1) (ap Some m))

  pub closed-group : (s : Scope) → is_formatting t ≡ false → b.stack ≡ open_tags b.tree
      → IsTree (record a.tree { stack = closed_through a.tree (group.Named t) (stop.EndOf s) }) b → IsClosed t a b
  closed-group s f g e =
      let h : is_member a.tree.tree (group.Named t) top.current ≡ true = ap (λ v. is_same v t) top.tag_is ∙ same-self t in
      closed g
      (ap (λ (x : Open). x.stack) e.tree_is ∙ ap (λ o. before_index o a.tree.stack) (found-top (is_member a.tree.tree (group.Named t)) (stops a.tree.tree (stop.EndOf s)) h))
      (ap (λ (x : Open). x.tree) e.tree_is)
      (ap (λ (x : Open). x.list) e.tree_is ∙ sym (ap (λ v. cond v (without_node (get (last_of a.tree.stack) 0) a.tree.list) a.tree.list) f))

  pub closed-name : (k : TokenKind) (name : List ℕ) → name ≡ tag_name k → EndsCurrent InBody (End t) k a → is_formatting t ≡ false → b.stack ≡ open_tags b.tree
      → IsTree (record a.tree { stack = before_index (found_name a.tree name) a.tree.stack }) b → IsClosed t a b
  closed-name k name i n f g e =
      let same : name_in (label_of a.tree.tree top.current) ≡ name = ap (λ v. name_in (label_of a.tree.tree v)) (sym last-is) ∙ n ∙ sym i in
      let h : has_name a.tree.tree name top.current ≡ true = ap (λ v. pointwise ◌==◌ v name) same ∙ self name in
      closed g
      (ap (λ (x : Open). x.stack) e.tree_is ∙ ap (λ o. before_index o a.tree.stack) (found-top (has_name a.tree.tree name) (is_special_at a.tree.tree) h))
      (ap (λ (x : Open). x.tree) e.tree_is)
      (ap (λ (x : Open). x.list) e.tree_is ∙ sym (ap (λ v. cond v (without_node (get (last_of a.tree.stack) 0) a.tree.list) a.tree.list) f))
    where
      self : (xs : List ℕ) → pointwise ◌==◌ xs xs ≡ true
      self [] = refl
      self (x ∷ xs) = rw (eqb-self x) (self xs)

  pub closed-listed : (foster : Bool) → is_formatting t ≡ true → b.stack ≡ open_tags b.tree → HasEnded t foster a.tree b.tree → IsClosed t a b
  closed-listed foster f g e =
      let n : named e.adopted.old t top.current ≡ true = subst (λ v. named v t top.current ≡ true) (sym e.adopted.old_is) (ap (λ v. is_same v t) top.tag_is ∙ same-self t) in
      let r = adopted-top t foster (open_at a.tree.stack a.tree.list e.adopted.old) top.before top.current top.stack_is c.plain.sound.stack_once c.plain.listed n e.end
      (open_at e.middle.stack e.middle.list e.adopted.new) e.adopted.adopted in
      let d = e.done r.0 in
      closed g
      (ap (λ (x : Open). x.stack) d ∙ r.1.stack_is ∙ sym stack-popped)
      (ap (λ (x : Open). x.tree) d ∙ sym e.adopted.new_is ∙ r.1.tree_is ∙ e.adopted.old_is)
      (ap (λ (x : Open). x.list) d ∙ r.1.list_is ∙ ap (λ v. without_node v a.tree.list) (sym last-is) ∙ sym (ap (λ v. cond v (without_node (get (last_of a.tree.stack) 0) a.tree.list) a.tree.list) f))

-- WHICH END TAGS COME

plain-not : (t : Tag) → is_plain_tag t ≡ true → (is_same t tag.Body ≡ false) × (is_same t tag.Html ≡ false)
plain-not tag.Div e = (refl, refl)
plain-not tag.Section e = (refl, refl)
plain-not tag.Article e = (refl, refl)
plain-not tag.B e = (refl, refl)
plain-not tag.I e = (refl, refl)
plain-not tag.Em e = (refl, refl)
plain-not tag.Strong e = (refl, refl)
plain-not tag.Other e = (refl, refl)
plain-not _ e = absurd (let h = e in cc)

-- the end tag is that of the body, where no other element is open, or that of the current node below it
next-end : (t : Tag) (k : TokenKind) (a : State) → IsNextInBody (End t) k a → ((t ≡ tag.Body) × (a.stack ≡ tag.Body ∷ tag.Html ∷ [])) ⊎ IsCurrent t a
next-end t k a n = let p = path-of a n.plain n.mode in by p.0 p.1 p.2
  where
    by : (path : List Tag) → list_all is_plain_tag path ≡ true → a.stack ≡ path ++ tag.Body ∷ tag.Html ∷ [] → ((t ≡ tag.Body) × (a.stack ≡ tag.Body ∷ tag.Html ∷ [])) ⊎ IsCurrent t a
    by [] h e =
        let k : is_same tag.Body t ≡ true = sym (ap (λ v. is_next InBody v (End t)) e) ∙ n.next in
        inl (sym (same-tag tag.Body t k), e)
    by (u ∷ path) h e =
        let k : is_same u t ≡ true = sym (ap (λ v. is_next InBody v (End t)) e) ∙ n.next in
        let s = same-tag u t k in
        let known : is_plain_tag u ≡ true = elim (cases_bool (is_plain_tag u)) [ inl g ↦ g | inr g ↦ absurd (let j = rw g at h in cc) ] in
        inr record {
          plain = n.plain;
          mode = n.mode;
          known = subst (λ v. is_plain_tag v ≡ true) s known;
          below = path ++ tag.Body ∷ tag.Html ∷ [];
          top = e ∙ ap (λ v. v ∷ (path ++ tag.Body ∷ tag.Html ∷ [])) s;
        }

pub current-of : (t : Tag) (k : TokenKind) (a : State) → IsNextInBody (End t) k a → is_same t tag.Body ≡ false → IsCurrent t a
current-of t k a n f = elim (next-end t k a n) [
  | inl e ↦ absurd (let g : is_same tag.Body tag.Body ≡ false = subst (λ v. is_same v tag.Body ≡ false) e.0 f in let h : true ≡ false = g in cc)
  | inr c ↦ c
]

-- no end tag of the root, or of a template, comes in the body
pub no-root : (k : TokenKind) (a : State) → IsNextInBody (End tag.Html) k a → ⊥
no-root k a n = absurd (let c = current-of tag.Html k a n refl in let h : false ≡ true = c.known in cc)

pub no-template : (t : Tag) (k : TokenKind) (a : State) → t ≡ tag.Template → IsNextInBody (End t) k a → ⊥
no-template t k a e n =
    let m : IsNextInBody (End tag.Template) k a = subst (λ v. IsNextInBody (End v) k a) e n in
    absurd (let c = current-of tag.Template k a m refl in let h : false ≡ true = c.known in cc)

-- WHAT ONE MAKES

-- a token that is done with, without a node
ended-is : (a m b : State) (t : Tag) → m.ledger ≡ a.ledger → b.ledger ≡ ended m.ledger (End t) (is_idle m) → (told : Bool) × (b.ledger ≡ noted a.ledger (End t) Ended told)
ended-is a m b t l e = (
  has_error m.ledger.history (End t) Ended || (is_idle m && may_be_ignored (End t)),
  e ∙ ap (λ v. noted v (End t) Ended (has_error m.ledger.history (End t) Ended || (is_idle m && may_be_ignored (End t)))) l,
)

plain-mode : (t : Tag) → is_plain_tag t ≡ true → next_mode InBody (End t) ≡ InBody
plain-mode tag.Body e = absurd (let h = e in cc)
plain-mode _ e = refl

pub turn-end : (t : Tag) (k : TokenKind) (a m b : State) → IsCurrent t a → IsClosed t a m
    → m ≡ record a { tree = m.tree; stack = m.stack; outer_form = m.outer_form; frameset_ok = m.frameset_ok }
    → b ≡ record m { ledger = b.ledger } → b.ledger ≡ ended m.ledger (End t) (is_idle m) → IsTurn (End t) k a b
turn-end t k a m b c s r e h = record {
  mode_is = ap (λ (x : State). x.mode) e ∙ ap (λ (x : State). x.mode) r ∙ c.mode ∙ sym (ap (λ x. next_mode x (End t)) c.mode ∙ plain-mode t c.known);
  tags_are = ap (λ (x : State). x.stack) e ∙ s.tags_are ∙ sym (ap (λ v. cond v (drop 1 a.stack) a.stack) closing);
  stack_is = ap (λ (x : State). x.tree.stack) e ∙ s.stack_is ∙ sym (ap (λ v. cond v (popped a.tree.stack) a.tree.stack) closing);
  nodes_are = ap (λ (x : State). x.tree.tree) e ∙ s.nodes_are;
  list_is = ap (λ (x : State). x.tree.list) e ∙ s.list_is;
  ledger_is = ended-is a m b t (ap (λ (x : State). x.ledger) r) h;
  same_fostering = ap (λ (x : State). x.fostering) e ∙ ap (λ (x : State). x.fostering) r;
  same_context = ap (λ (x : State). x.context) e ∙ ap (λ (x : State). x.context) r;
}
  where
    closing : closes a.mode (End t) ≡ true
    closing = ap (λ x. closes x (End t)) c.mode ∙ ap not (plain-not t c.known).0

-- the end tag of the body leaves it open
pub turn-body : (t : Tag) (k : TokenKind) (a m b : State) (closed : Bool) → t ≡ tag.Body → IsNextInBody (End t) k a
    → m ≡ record a { tree = m.tree; mode = m.mode } → IsTree a.tree m → (closed ≡ true → m.mode ≡ AfterBody)
    → closed ≡ is_some (found a.tree (group.Named tag.Body) (stop.EndOf scope.Default))
    → b ≡ record m { ledger = b.ledger } → b.ledger ≡ ended m.ledger (End t) (is_idle m) → IsTurn (End t) k a b
turn-body t k a m b closed i n r s w f e h = record {
  mode_is = ap (λ (x : State). x.mode) e ∙ w (f ∙ in-scope) ∙ sym (ap (λ x. next_mode x (End t)) n.mode ∙ ap (λ v. next_mode InBody (End v)) i);
  tags_are = ap (λ (x : State). x.stack) e ∙ ap (λ (x : State). x.stack) r ∙ sym (ap (λ v. cond v (drop 1 a.stack) a.stack) closing);
  stack_is = ap (λ (x : State). x.tree.stack) e ∙ ap (λ (x : Open). x.stack) s.tree_is ∙ sym (ap (λ v. cond v (popped a.tree.stack) a.tree.stack) closing);
  nodes_are = ap (λ (x : State). x.tree.tree) e ∙ ap (λ (x : Open). x.tree) s.tree_is;
  list_is = ap (λ (x : State). x.tree.list) e ∙ ap (λ (x : Open). x.list) s.tree_is ∙ sym (ap (λ v. cond (is_formatting v) (without_node (get (last_of a.tree.stack) 0) a.tree.list) a.tree.list) i);
  ledger_is = ended-is a m b t (ap (λ (x : State). x.ledger) r) h;
  same_fostering = ap (λ (x : State). x.fostering) e ∙ ap (λ (x : State). x.fostering) r;
  same_context = ap (λ (x : State). x.context) e ∙ ap (λ (x : State). x.context) r;
}
  where
    closing : closes a.mode (End t) ≡ false
    closing = ap (λ x. closes x (End t)) n.mode ∙ ap (λ v. not (is_same v tag.Body)) i

    only : a.stack ≡ tag.Body ∷ tag.Html ∷ []
    only = elim (next-end t k a n) [
      | inl c ↦ c.1
      | inr c ↦ absurd (let g : is_plain_tag tag.Body ≡ true = subst (λ v. is_plain_tag v ≡ true) i c.known in let j : false ≡ true = g in cc)
    ]

    in-scope : is_some (found a.tree (group.Named tag.Body) (stop.EndOf scope.Default)) ≡ true
    in-scope = found-scope a.tree (group.Named tag.Body) (stop.EndOf scope.Default) ∙ ap (is_tag_in_scope (group.Named tag.Body) (stop.EndOf scope.Default)) (sym n.plain.tags ∙ only)

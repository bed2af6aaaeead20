-- Foreign content: which tokens go by its rules, and what an entry makes of them.
use Rattle.std.proofs.Common.{ℕ, ◌+◌, ◌≡◌, ◌==◌, ◌≤◌, ◌&&◌, ◌||◌, Bool, true, false, not, cond, List, ◌∷◌, Option, Some, None, IsTrue, length, refl, sym, ap, subst, ◌∙◌, arith}
use Rattle.std.specs.Prelude.{is_some, unwrap_or, if◌then◌else◌}
use Rattle.std.proofs.lemmas.Bool.{false≢true}
use Rattle.html_names.specs.declared.foreign.Space.{Space}
use Rattle.html_names.specs.declared.tag.Tag.{Tag}
use Rattle.html_names.specs.declared.tag.Tag.TheVariants as tag
use Rattle.html_names.specs.Foreign.{adjusted_name, is_foreign, is_html_space, is_math, is_svg, space_of}
use Rattle.html_names.specs.Names.{tag_of}
use Rattle.html_names.specs.Tags.{is_same}
use Rattle.html_names.proofs.Spaces.{space-of_prefixed}
use Rattle.html_tokens.specs.declared.token.TokenKind.{TokenKind}
use Rattle.html_ledger.specs.declared.fate.Fate.TheVariants.{Foreign as Embedded, Made}
use Rattle.html_ledger.specs.declared.symbol.Symbol.{Symbol}
use Rattle.html_ledger.specs.declared.symbol.Symbol.TheVariants.{Start, End}
use Rattle.html_ledger.specs.Entries.{Entries}
use Rattle.html_ledger.specs.Flags.{may_embed}
use Rattle.html_ledger.specs.MayDrop.{is_foreign_root}
use Rattle.html_tree.specs.Foreign.{found_foreign, left_foreign}
use Rattle.html_tree.specs.States.{State as Tree}
use Rattle.html_construction.specs.Built.{Keeps}
use Rattle.html_construction.specs.Calls.{HasFate, IsTree}
use Rattle.html_construction.specs.Foreign.{adjusted_tag, foreign_tag, if_foreign}
use Rattle.html_construction.specs.Grown.{Grown}
use Rattle.html_construction.specs.States.{State}
use Rattle.html_construction.specs.Tokens.{foreign_name, tag_name}
use Rattle.html_construction.specs.Weights.{weight, weight_of}
use Rattle.html_construction.specs.Works.{Works}
use Rattle.html_construction.proofs.Telling.{any-refused, char-refused}
use Rattle.html_modes.specs.declared.outcome.Outcome.{Outcome}
use Rattle.html_modes.specs.declared.outcome.Outcome.TheVariants.{Done, Reprocess, Foreign}
use Rattle.html_modes.specs.declared.outcome.Foreign.{Foreign as Root}
use Rattle.html_modes.specs.declared.outcome.Foreign.TheVariants as root
use Rattle.html_modes.specs.Fitting.{is_loose}
use Rattle.html_modes.specs.Foreign.{around_foreign, breaks_out, closed_foreign, ends_any, ends_foreign, goes_by_foreign, goes_on, if_goes, leaves_foreign, stack_after}
use Rattle.html_modes.specs.Ranks.{rank, top_rank}
use Rattle.html_modes.specs.Plain.{IsNextInBody, TurnsInBody, is_plain_tag}
use Rattle.html_modes.specs.RawText.{HasOpened}
use Rattle.html_modes.specs.Steps.{Counted, Falls, Grows, Spends, Steps, Worked, root_of, root_space}
use Rattle.html_modes.proofs.RawText.{ends-other, push-last, text-loose}
use Rattle.html_modes.proofs.Moded.{top_rank-loose}
use Rattle.html_modes.proofs.Settled.{Counted-entry, Counted-worked, Fits-loose, Spends-one}
use Rattle.html_modes.proofs.Tagged.{weight_of-plain}

-- ELEMENTS

no-template : (t : Tag) → is_html_space (space_of t) ≡ false → is_same t tag.Template ≡ false
no-template tag.Template e = absurd (false≢true (sym e))
no-template _ e = refl

-- an element of foreign content counts four
light-foreign : (s : Space) (name : List ℕ) → is_html_space s ≡ false → weight_of (tag_of (foreign_name s name)) ≤ 4
light-foreign s name e =
    let own : space_of (tag_of (foreign_name s name)) ≡ s = space-of_prefixed s (unwrap_or (adjusted_name s name) name) e in
    weight_of-plain (tag_of (foreign_name s name)) (no-template (tag_of (foreign_name s name)) (ap is_html_space own ∙ e))

pub heavier-foreign : (s : Space) (name : List ℕ) (a b : State) → is_html_space s ≡ false → b.stack ≡ tag_of (foreign_name s name) ∷ a.stack → weight b.stack ≤ weight a.stack + 4
heavier-foreign s name a b e r = rw r (let k = light-foreign s name e in omega (arith, k))

space-of : (a b : Bool) (s m h : Space) → is_html_space s ≡ false → is_html_space m ≡ false → (a || b) ≡ true → is_html_space (if a then s else (if b then m else h)) ≡ false
space-of true b s m h e f k = e
space-of false true s m h e f k = f
space-of false false s m h e f k = absurd (false≢true k)

pub outside-foreign : (t : Tag) → is_foreign t ≡ true → is_html_space (space_of t) ≡ false
outside-foreign t e = space-of (is_svg t) (is_math t) _ _ _ refl refl e

pub outside-root : (name : Root) → is_html_space (root_space name) ≡ false
outside-root root.Svg = refl
outside-root root.Math = refl

-- such an element is no element of HTML that holds text alone
pub opened-foreign : (t : Tag) (n : ℕ) (a b : State) → HasFate (Start t) (Embedded n) a b → HasOpened t b
opened-foreign t n a b h = record {
  opened = λ r fs x e. absurd (let k : Embedded n ≡ Made x = push-last a.ledger.fates fs (Embedded n) (Made x) (sym (ap (λ (l : Entries). l.fates) h.ledger_is) ∙ e) in cc);
}

-- WHERE THE ADJUSTED CURRENT NODE IS FOREIGN

if-some : (b : Bool) (o : Option Tag) (g : Tag) → (if b then o else None) ≡ Some g → (b ≡ true) × (o ≡ Some g)
if-some true o g e = (refl, e)
if-some false o g e = absurd (let k : None ≡ Some g = e in cc)

cond-some : (b : Bool) (o : Option Tag) (g : Tag) → cond b o None ≡ Some g → (b ≡ true) × (o ≡ Some g)
cond-some true o g e = (refl, e)
cond-some false o g e = absurd (let k : None ≡ Some g = e in cc)

some-foreign : (o : Option Tag) (g : Tag) → if_foreign o ≡ Some g → is_foreign g ≡ true
some-foreign None g e = absurd (let k : None ≡ Some g = e in cc)
some-foreign (Some t) g e = let k = if-some (is_foreign t) (Some t) g e in let same : t ≡ g = (let z = k.1 in cc) in ap is_foreign (sym same) ∙ k.0

-- foreign content was made, or is the context
pub history-foreign : (a : State) (g : Tag) → foreign_tag a ≡ Some g → a.ledger.history.foreign ≡ true
history-foreign a g e = (if-some a.ledger.history.foreign (if_foreign (adjusted_tag a)) g e).0

pub around-outside : (a : State) (g : Tag) → foreign_tag a ≡ Some g → is_html_space (space_of g) ≡ false
around-outside a g e = outside-foreign g (some-foreign (adjusted_tag a) g (if-some a.ledger.history.foreign (if_foreign (adjusted_tag a)) g e).1)

either-true : (a b : Bool) → b ≡ true → IsTrue (a || b)
either-true true b e = refl
either-true false b e = e

pub may-around : (a : State) (g t : Tag) → foreign_tag a ≡ Some g → IsTrue (may_embed a.ledger.history (Start t))
may-around a g t e = either-true (is_foreign_root t) a.ledger.history.foreign (history-foreign a g e)

-- foreign content was made, is the context, or is parsed
pub asked-around : (a : State) (g : Tag) → foreign_tag a ≡ Some g → IsTrue (a.parses_foreign || a.ledger.history.foreign)
asked-around a g e = either-true a.parses_foreign a.ledger.history.foreign (history-foreign a g e)

pub asked-parsed : (a : State) → a.parses_foreign ≡ true → IsTrue (a.parses_foreign || a.ledger.history.foreign)
asked-parsed a e = rw e refl

pub may-root : (a : State) (name : Root) (t : Tag) → Start t ≡ root_of name → IsTrue (may_embed a.ledger.history (Start t))
may-root a root.Svg t e = let k : t ≡ tag.Svg = (let z = e in cc) in subst (λ x. IsTrue (may_embed a.ledger.history (Start x))) (sym k) refl
may-root a root.Math t e = let k : t ≡ tag.Math = (let z = e in cc) in subst (λ x. IsTrue (may_embed a.ledger.history (Start x))) (sym k) refl

-- the dispatcher
goes-some : (a : State) (y : Symbol) (k : TokenKind) (o : Option Tag) (g : Tag) → if_goes a y k o ≡ Some g → o ≡ Some g
goes-some a y k None g e = e
goes-some a y k (Some t) g e = (cond-some (goes_by_foreign a t y k) (Some t) g e).1

pub around-loose : (a : State) (y : Symbol) (k : TokenKind) (g : Tag) → around_foreign a y k ≡ Some g → is_loose a.mode ≡ true
around-loose a y k g e = (cond-some (is_loose a.mode) (if_goes a y k (foreign_tag a)) g e).0

pub around-tag : (a : State) (y : Symbol) (k : TokenKind) (g : Tag) → around_foreign a y k ≡ Some g → foreign_tag a ≡ Some g
around-tag a y k g e = goes-some a y k (foreign_tag a) g (cond-some (is_loose a.mode) (if_goes a y k (foreign_tag a)) g e).1

cond-none : (b : Bool) (n : Option Tag) → n ≡ None → cond b n None ≡ None
cond-none true n e = e
cond-none false n e = refl

pub around-none : (a : State) (y : Symbol) (k : TokenKind) → foreign_tag a ≡ None → around_foreign a y k ≡ None
around-none a y k e = cond-none (is_loose a.mode) (if_goes a y k (foreign_tag a)) (ap (if_goes a y k) e)

pub around-some : (a : State) (y : Symbol) (k : TokenKind) (g : Tag) → foreign_tag a ≡ Some g → is_loose a.mode ≡ true → goes_by_foreign a g y k ≡ true → around_foreign a y k ≡ Some g
around-some a y k g e l h = rw (l, e, h) refl

pub around-strict : (a : State) (y : Symbol) (k : TokenKind) → is_loose a.mode ≡ false → around_foreign a y k ≡ None
around-strict a y k l = rw l refl

pub around-not : (a : State) (y : Symbol) (k : TokenKind) (g : Tag) → foreign_tag a ≡ Some g → goes_by_foreign a g y k ≡ false → around_foreign a y k ≡ None
around-not a y k g e h = cond-none (is_loose a.mode) (if_goes a y k (foreign_tag a)) (ap (if_goes a y k) e ∙ ap (λ b. cond b (Some g) None) h)

-- WHAT THE RULES CLOSE

or-false : (b : Bool) → (b || false) ≡ b
or-false true = refl
or-false false = refl

pub goes-start : (t : Tree) (g : Tag) (k : TokenKind) (r : Bool) → r ≡ breaks_out g k → r ≡ goes_on t (Start g) k
goes-start t g k r e = e ∙ sym (or-false (breaks_out g k))

pub goes-ended : (t : Tree) (g : Tag) (k : TokenKind) → ends_foreign g ≡ true → true ≡ goes_on t (End g) k
goes-ended t g k e = rw e refl

pub goes-any : (t : Tree) (g : Tag) (k : TokenKind) (r : Bool) → ends_foreign g ≡ false → r ≡ (not (length t.stack == 1) && not (is_some (found_foreign t (tag_name k)))) → r ≡ goes_on t (End g) k
goes-any t g k r e h = rw e h

pub stack-left : (t : Tree) (y : Symbol) (k : TokenKind) (z : State) → leaves_foreign y k ≡ true → IsTree (record t { stack = left_foreign t }) z → IsTree (record t { stack = stack_after t y k }) z
stack-left t y k z e h = rw e h

pub stack-closed : (t : Tree) (g : Tag) (k : TokenKind) (z : State) → ends_foreign g ≡ false → IsTree (record t { stack = closed_foreign t (tag_name k) }) z → IsTree (record t { stack = stack_after t (End g) k }) z
stack-closed t g k z e h = rw e h

pub stack-same : (y : Symbol) (k : TokenKind) (z : State) → leaves_foreign y k ≡ false → ends_any y ≡ false → IsTree (record z.tree { stack = stack_after z.tree y k }) z
stack-same y k z e f = rw (e, f) (record { tree_is = refl })

pub closed-root : (name : List ℕ) (z : State) → (length z.tree.stack == 1) ≡ true → IsTree (record z.tree { stack = closed_foreign z.tree name }) z
closed-root name z e = rw e (record { tree_is = refl })

pub ruleset closing_rules = (goes-start, goes-ended, goes-any, stack-left, stack-closed, stack-same, closed-root)

pub ruleset embed_rules = (heavier-foreign, any-refused)

pub ruleset root_rules = (outside-root, may-root)

pub ruleset char_rules = (history-foreign, any-refused, char-refused)

-- the roots are no elements of a plain page
root-plain : (name : Root) (t : Tag) → Start t ≡ root_of name → is_plain_tag t ≡ false
root-plain root.Svg t e = let k : t ≡ tag.Svg = (let z = e in cc) in ap is_plain_tag k
root-plain root.Math t e = let k : t ≡ tag.Math = (let z = e in cc) in ap is_plain_tag k

pub turns-root : (o : Outcome) (name : Root) (t : Tag) (k : TokenKind) (a b : State) → Start t ≡ root_of name → TurnsInBody o (Start t) k a b
turns-root o name t k a b e = by o
  where
    never : IsNextInBody (Start t) k a → ⊥
    never h = false≢true (sym (root-plain name t e) ∙ h.next)

    by : (p : Outcome) → TurnsInBody p (Start t) k a b
    by Done = λ h. absurd (never h)
    by Reprocess = never
    by (Foreign other) = never

pub ruleset body_roots = (turns-root, outside-root, may-root, asked-parsed)

pub ruleset stay_rules = (history-foreign, around-outside, may-around, asked-around, any-refused)

pub ruleset around_rules = (around-none, around-some, around-strict, around-not)

-- ONE ENTRY

-- the rules of the mode come after what foreign content closes
module _ (o : Outcome) (y : Symbol) (t : TokenKind) (a m b : State) (r : m ≡ record a { tree = m.tree; stack = m.stack }) where
  parses-after : m.parses_foreign ≡ a.parses_foreign
  parses-after = ap (λ (x : State). x.parses_foreign) r

  mode-after : m.mode ≡ a.mode
  mode-after = ap (λ (x : State). x.mode) r

  pub Steps-after : Keeps a m → Steps o t m b → Steps o t a b
  Steps-after k s = by o s
    where
      by : (p : Outcome) → Steps p t m b → Steps p t a b
      by Done s = λ h w. s h (k h w)
      by Reprocess s = λ h w. s h (k h w)
      by (Foreign name) s = (s.0, sym parses-after ∙ s.1)

  pub Falls-after : weight m.stack ≤ weight a.stack → Falls o y m b → Falls o y a b
  Falls-after l f = by o f
    where
      ranks : rank m.mode y ≡ rank a.mode y
      ranks = ap (λ x. rank x y) mode-after

      by : (p : Outcome) → Falls p y m b → Falls p y a b
      by Done f = omega (arith, f, l)
      by Reprocess f = omega (arith, f, l, ranks)
      by (Foreign name) f = tt

  pub Spends-after : Grown 0 0 0 0 0 a m → Spends 2 m b → Spends 2 a b
  Spends-after g v =
      let e : length m.ledger.fates ≡ length a.ledger.fates = omega (arith, g.0) in
      (rw (sym e) (omega (arith, g.1.0, v.0)), (omega (arith, e, g.1.1.1.1.0, v.1.0), omega (arith, g.1.1.1.1.1, v.1.1)))

-- the token stays
Grows-stayed : (a m b : State) → Grown 0 0 0 0 0 a m → Grown 1 2 0 0 0 m b → Grows Done a b
Grows-stayed a m b g h = (
  omega (arith, g.0, h.0),
  (
    omega (arith, g.1.0, h.1.0),
    (omega (arith, g.1.1.0, h.1.1.0), (omega (arith, g.1.1.1.0, h.1.1.1.0), (omega (arith, g.1.1.1.1.0, h.1.1.1.1.0), omega (arith, g.1.1.1.1.1, h.1.1.1.1.1)))),
  ),
)

pub Spends-stayed : (a m b : State) → Grown 0 0 0 0 0 a m → Grown 1 2 0 0 0 m b → Spends 2 a b
Spends-stayed a m b g h = Spends-one Done a b (Grows-stayed a m b g h)

pub Counted-stayed : (t : TokenKind) (a m b : State) → Grown 0 0 0 0 0 a m → Grown 1 2 0 0 0 m b → Works 2 0 0 a m → Works 6 0 6 m b → Counted 26 Done t a b
Counted-stayed t a m b g h w v =
    let k : Worked Done t a b = (omega (arith, w.0, v.0), (omega (arith, w.1.0, v.1.0), omega (arith, v.0, w.1.1, v.1.1))) in
    Counted-entry Done t a b (Counted-worked Done t a b (Grows-stayed a m b g h) k)

pub Falls-stayed : (y : Symbol) (a m b : State) → is_loose a.mode ≡ true → m.mode ≡ a.mode → b.mode ≡ m.mode → weight m.stack ≤ weight a.stack → weight b.stack ≤ weight m.stack + 4 → Falls Done y a b
Falls-stayed y a m b l e f w v =
    let t : top_rank b.mode ≤ 10 = subst (λ x. top_rank x ≤ 10) (sym (f ∙ e)) (top_rank-loose a.mode l) in
    omega (arith, t, w, v)

pub ruleset step_foreign = (around-loose, around-tag, text-loose, ends-other)

pub ruleset foreign_rules = (Fits-loose, any-refused)

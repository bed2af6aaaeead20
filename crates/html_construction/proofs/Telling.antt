-- Why a budget was told.
use Rattle.std.proofs.Common.{ℕ, ◌≡◌, ◌+◌, ◌-◌, true, List, [], ◌∷◌, ◌++◌, arith, length, length-append, Option, Result, IfErr, inl, inr, refl, sym, ap, subst, ◌∙◌}
use Rattle.std.proofs.lemmas.Result.{err_from_is_err_and}
use Rattle.std.specs.Prelude.{IsErrAnd, Some, slice_get}
use Rattle.html_names.specs.declared.foreign.Space.{Space}
use Rattle.html_names.specs.declared.tag.Tag.{Tag}
use Rattle.html_names.specs.Names.{name_of}
use Rattle.html_arena.specs.declared.arena.Limits.{Limits}
use Rattle.html_arena.specs.declared.data.NewNode.{NewNode}
use Rattle.html_arena.specs.declared.data.NewNode.TheVariants.{CloneOf, Comment, Doctype, Document, Element, Text}
use Rattle.html_arena.specs.declared.data.Origin.TheVariants.{Implied, Nothing, Token}
use Rattle.html_arena.specs.Budget.{budget_of}
use Rattle.html_arena.specs.Make.{made_weight, nodes_made}
use Rattle.html_arena.specs.Tree.{more}
use Rattle.html_tokens.specs.declared.attributes.Attr.{Attr}
use Rattle.html_tokens.specs.declared.token.TokenKind.{TokenKind}
use Rattle.html_tokens.specs.declared.token.TokenKind.TheVariants as kind
use Rattle.html_arena.specs.declared.arena.ArenaError.{ArenaError}
use Rattle.html_open.specs.Opened.{open_at}
use Rattle.html_open.specs.Reopening.{IsTold}
use Rattle.html_tree.specs.Inserting.{IsNodePassed, IsPassed as IsTreePassed}
use Rattle.html_tree.specs.States.{State as Tree}
use Rattle.html_tree.specs.Texts.{IsTextPassed}
use Rattle.html_ledger.specs.declared.fate.Fate.{Fate}
use Rattle.html_ledger.specs.declared.fate.Fate.TheVariants.{Foreign}
use Rattle.html_ledger.specs.declared.symbol.Symbol.{Symbol}
use Rattle.html_ledger.specs.declared.symbol.Symbol.TheVariants as symbol
use Rattle.html_ledger.specs.Entries.{Entries}
use Rattle.html_ledger.specs.Runs.{last_of}
use Rattle.html_ledger.specs.Symbols.{symbol_of}
use Rattle.html_arena.specs.declared.arena.ArenaError.TheVariants.{OutOfMemory, NodeBudget, HeldBudget}
use Rattle.html_construction.specs.Budgets.{IsNextNode, IsReason, IsRefused, IsRefusedAny, MayAdd, Refuses, RefusesAny, a_code_point, a_foreign_element, a_node, foreign_node, lacking_attrs}
use Rattle.html_construction.specs.Built.{Handed, Releases, chars_of, with_tokens}
use Rattle.html_construction.specs.Origins.{foreign_if, is_made_alone}
use Rattle.html_construction.specs.Calls.{HasFate}
use Rattle.html_construction.specs.Tokens.{attrs_of, foreign_attrs, foreign_name, tag_name}
use Rattle.html_construction.proofs.Labels.{get-at-end}
use Rattle.html_construction.specs.States.{State}

-- what the limits say of what was to be added
passed-by : (l m : Option Limits) (t : TokenKind) (z : State) (nodes held : ℕ) (e : ArenaError) (o : Tree) → m ≡ l → o.tree.limits ≡ m → MayAdd t z nodes held → IsTreePassed o z.tree nodes held e → IsReason l t z e
passed-by l m t z nodes held OutOfMemory o e r a k = tt
passed-by l m t z nodes held NodeBudget o e r a k =
    record { nodes = nodes; held = held; added = a; answer_is = ap (λ v. budget_of v (length z.tree.tree.labels + nodes) (more z.tree.tree.held held)) (sym (r ∙ e)) ∙ k }
passed-by l m t z nodes held HeldBudget o e r a k =
    record { nodes = nodes; held = held; added = a; answer_is = ap (λ v. budget_of v (length z.tree.tree.labels + nodes) (more z.tree.tree.held held)) (sym (r ∙ e)) ∙ k }

pub refused-by : (t : TokenKind) (a z : State) (o : Tree) (nodes held : ℕ) (e : ArenaError) → o.tree.limits ≡ a.tree.tree.limits → MayAdd t z nodes held → IsTreePassed o z.tree nodes held e → Refuses t e a z
refused-by t a z o nodes held e r m k = λ h w. record { reason = passed-by h.limits a.tree.tree.limits t z nodes held e o w.limits r m k }

-- the next node was refused
pub refused-node : (t : TokenKind) (a z : State) (o : Tree) (new : NewNode) (e : ArenaError) → o.tree.limits ≡ a.tree.tree.limits → IsNextNode t z new → IsNodePassed o z.tree new e → Refuses t e a z
refused-node t a z o new e r n k = refused-by t a z o (nodes_made new) (made_weight z.tree.tree new) e r (a_node new n) k

-- an element of foreign content was refused, after its token had its fate
pub refused-foreign : (t : TokenKind) (a z : State) (o : Tree) (g : Tag) (s : Space) (i : ℕ) (e : ArenaError) → o.tree.limits ≡ a.tree.tree.limits → symbol_of t ≡ symbol.Start g → foreign_if (last_of z.ledger.fates) ≡ true
    → IsNodePassed o z.tree (foreign_node s t i) e → Refuses t e a z
refused-foreign t a z o g s i e r h f k = refused-by t a z o (nodes_made (foreign_node s t i)) (made_weight z.tree.tree (foreign_node s t i)) e r (a_foreign_element g s i h f) k

-- the last fate that was given
pub last-foreign : (n v : State) (y : Symbol) (d : ℕ) → HasFate y (Foreign d) n v → foreign_if (last_of v.ledger.fates) ≡ true
last-foreign n v y d h = ap (λ (l : Entries). foreign_if (last_of l.fates)) h.ledger_is ∙ ap foreign_if (last-pushed n.ledger.fates (Foreign d))
  where
    last-pushed : (fs : List Fate) (f : Fate) → last_of (fs ++ f ∷ []) ≡ Some f
    last-pushed fs f = ap (λ k. slice_get (fs ++ f ∷ []) k) (let l = length-append fs (f ∷ []) in let e : length (fs ++ f ∷ []) - 1 ≡ length fs = omega (arith, l) in e) ∙ get-at-end fs f

pub told-passed : (t : TokenKind) (a z : State) (o : Tree) (g : Tag) (s : Space) (name : List ℕ) (own : List Attr) (i : ℕ) (e : ArenaError) → o.tree.limits ≡ a.tree.tree.limits → symbol_of t ≡ symbol.Start g
    → foreign_if (last_of z.ledger.fates) ≡ true → name ≡ foreign_name s (tag_name t) → own ≡ foreign_attrs s (attrs_of t) → IsNodePassed o z.tree (Element name own (Token i)) e → Refuses t e a z
told-passed t a z o g s name own i e r h f p q k =
    refused-foreign t a z o g s i e r h f (subst (λ n. IsNodePassed o z.tree (Element n (foreign_attrs s (attrs_of t)) (Token i)) e) p (subst (λ xs. IsNodePassed o z.tree (Element name xs (Token i)) e) q k))

-- an element that no token asks for
pub refused-implied : (a z : State) (o : Tree) (g : Tag) (e : ArenaError) → o.tree.limits ≡ a.tree.tree.limits → is_made_alone g ≡ true → IsNodePassed o z.tree (Element (name_of g) [] Implied) e → RefusesAny e a z
refused-implied a z o g e r n k =
    λ h w. record { any = λ t. refused-node t a z o (Element (name_of g) [] Implied) e r (record { name_tag = g; alone = n; name_is = refl; no_attrs = refl }) k h w }

-- a text, or a code point of it
pub refused-text : (a z : State) (o : Tree) (e : ArenaError) → o.tree.limits ≡ a.tree.tree.limits → IsTextPassed o z.tree e → RefusesAny e a z
refused-text a z o e r (inl k) = λ h w. record { any = λ t. refused-node t a z o Text e r tt k h w }
refused-text a z o e r (inr k) = λ h w. record { any = λ t. refused-by t a z o 0 1 e r a_code_point k h w }

-- a clone of an element in the list
refused-clone : (t : TokenKind) (z : State) (l m : Option Limits) (e : ArenaError) → m ≡ l → IsTold m (open_at z.tree.stack z.tree.list z.tree.tree) e → IsReason l t z e
refused-clone t z l m OutOfMemory e k = tt
refused-clone t z l m NodeBudget e k =
    record { nodes = 1; held = made_weight z.tree.tree (CloneOf k.next); added = a_node (CloneOf k.next) k.listed; answer_is = ap (λ v. budget_of v (length z.tree.tree.labels + 1) (more z.tree.tree.held (made_weight z.tree.tree (CloneOf k.next)))) (sym e) ∙ k.answer_is }
refused-clone t z l m HeldBudget e k =
    record { nodes = 1; held = made_weight z.tree.tree (CloneOf k.next); added = a_node (CloneOf k.next) k.listed; answer_is = ap (λ v. budget_of v (length z.tree.tree.labels + 1) (more z.tree.tree.held (made_weight z.tree.tree (CloneOf k.next)))) (sym e) ∙ k.answer_is }

pub refused-clones : (a z : State) (o : Tree) (e : ArenaError) → o.tree.limits ≡ a.tree.tree.limits → IsTold o.tree.limits (open_at z.tree.stack z.tree.list z.tree.tree) e → RefusesAny e a z
refused-clones a z o e r k = λ h w. record { any = λ t. record { reason = refused-clone t z h.limits o.tree.limits e (r ∙ w.limits) k } }

-- the limits are those from before the ledger took the token
pub limits-made : (v g n : State) → v ≡ g → g ≡ record n { ledger = g.ledger } → v.tree.tree.limits ≡ n.tree.tree.limits
limits-made v g n e r = ap (λ (x : State). x.tree.tree.limits) e ∙ ap (λ (x : State). x.tree.tree.limits) r

-- there was no memory
pub no-memory : (a z : State) (e : ArenaError) → e ≡ OutOfMemory → RefusesAny e a z
no-memory a z e q = λ h w. record { any = λ t. record { reason = subst (λ f. IsReason h.limits t z f) (sym q) tt } }

-- handed on by a `?`
pub handed-on : {A : Type 0} (r : Result A ArenaError) (t : TokenKind) (a z : State) (e : ArenaError) → IsErrAnd r (λ f. f ≡ e) → Refuses t e a z → IfErr r (λ f. Refuses t f a z)
handed-on r t a z e i k = let p = err_from_is_err_and r i in rw p.1 (subst (λ f. Refuses t f a z) (sym p.2) k)

pub handed-on-any : {A : Type 0} (r : Result A ArenaError) (a z : State) (e : ArenaError) → IsErrAnd r (λ f. f ≡ e) → RefusesAny e a z → IfErr r (λ f. RefusesAny f a z)
handed-on-any r a z e i k = let p = err_from_is_err_and r i in rw p.1 (subst (λ f. RefusesAny f a z) (sym p.2) k)

-- what is so of any token is so of the one in hand
pub any-refused : (l : Option Limits) (t : TokenKind) (z : State) (e : ArenaError) → IsRefusedAny l z e → IsRefused l t z e
any-refused l t z e k = k.any t

-- of a code point nothing is added that is its own
any-char : (c : ℕ) (t : TokenKind) (z : State) (nodes held : ℕ) → MayAdd (kind.Char c) z nodes held → MayAdd t z nodes held
any-char c t z nodes held (a_node (Element name attrs (Token i)) n) = absurd (let k = n.start in cc)
any-char c t z nodes held (a_node (Element name attrs Implied) n) = a_node (Element name attrs Implied) n
any-char c t z nodes held (a_node (Element name attrs Nothing) n) = absurd n
any-char c t z nodes held (a_node Document n) = absurd n
any-char c t z nodes held (a_node (CloneOf x) n) = a_node (CloneOf x) n
any-char c t z nodes held (a_node Text n) = a_node Text n
any-char c t z nodes held (a_node (Comment text i) n) = absurd (let k = n.comment in cc)
any-char c t z nodes held (a_node (Doctype name ids more i) n) = absurd (let k = n.doctype in cc)
any-char c t z nodes held (a_foreign_element g s i e f) = absurd (let k = e in cc)
any-char c t z nodes held a_code_point = a_code_point
any-char c t z nodes held (lacking_attrs g i s o e) = absurd (let k = s in cc)

any-reason : (l : Option Limits) (c : ℕ) (t : TokenKind) (z : State) (e : ArenaError) → IsReason l (kind.Char c) z e → IsReason l t z e
any-reason l c t z OutOfMemory k = tt
any-reason l c t z NodeBudget k = record { nodes = k.nodes; held = k.held; added = any-char c t z k.nodes k.held k.added; answer_is = k.answer_is }
any-reason l c t z HeldBudget k = record { nodes = k.nodes; held = k.held; added = any-char c t z k.nodes k.held k.added; answer_is = k.answer_is }

pub char-refused : (l : Option Limits) (c : ℕ) (z : State) (e : ArenaError) → IsRefused l (kind.Char c) z e → IsRefusedAny l z e
char-refused l c z e k = record { any = λ t. record { reason = any-reason l c t z e k.reason } }

-- code points that were taken out, the first of them given their fates, leave the limits
with-limits : (h : Handed) (ts : List TokenKind) → (with_tokens h ts).limits ≡ h.limits
unfolding with_tokens
with-limits h ts = refl

pub released-refused : (cs : List ℕ) (a b z : State) (e : ArenaError) → Releases cs a b → RefusesAny e b z → RefusesAny e a z
released-refused cs a b z e r k = λ h w. let p = r h w in subst (λ l. IsRefusedAny l z e) (sym (ap (λ (x : Handed). x.limits) p.2 ∙ with-limits p.0 (chars_of cs))) (k p.0 p.1)

-- What is handed out at the end.
use Rattle.std.proofs.Common.{ℕ, suc, zero, ◌≡◌, ◌+◌, ◌*◌, ◌<◌, ◌≤◌, ◌⊎◌, ◌-◌, ◌≢◌, inl, inr, true, false, List, [], ◌∷◌, ◌++◌, length, refl, sym, ap, subst, ◌∙◌, arith, length-append}
use Rattle.std.specs.Prelude.{Option, Some, None}
use Rattle.html_names.specs.declared.tag.Tag.TheVariants as tag
use Rattle.html_arena.specs.declared.arena.Limits.{Limits}
use Rattle.html_names.specs.Names.{name_of}
use Rattle.html_arena.specs.declared.data.NodeData.{NodeData}
use Rattle.html_arena.specs.declared.data.NodeData.TheVariants as node
use Rattle.html_names.specs.Names.{tag_of}
use Rattle.html_arena.specs.Data.{host_in, label_in, name_in, tag_in}
use Rattle.html_arena.specs.Weight.{capped, weight as label_weight}
use Rattle.html_construction.specs.Copies.{implied_count, most_clones}
use Rattle.html_construction.specs.Works.{tokenless}
use Rattle.html_tree.specs.Seats.{HasSeats}
use Rattle.html_tree.proofs.Standing.{seats-as}
use Rattle.html_builder.proofs.Counting.{counted-most, tokenless-few}
use Rattle.html_builder.proofs.Holding.{holding}
use Rattle.std.specs.List.{sum_by}
use Rattle.std.proofs.Math.Nat.{mul-le-mul_left, mul-le-mul_right}
use Rattle.html_arena.specs.Budget.{AreWithin, IsWithin}
use Rattle.html_arena.specs.Siblings.{has}
use Rattle.html_arena.specs.Tree.{Tree, WellFormed, children_of, host_at, label_of, named, parent_of, tag_at}
use Rattle.html_open.specs.Marking.{bare}
use Rattle.html_tree.specs.States.{IsNamed, State as Nodes}
use Rattle.html_tokens.specs.declared.token.TokenKind.{TokenKind}
use Rattle.html_tokens.specs.declared.token.TokenKind.TheVariants as kind
use Rattle.html_ledger.specs.declared.setting.Setting.{Setting}
use Rattle.html_ledger.specs.declared.setting.Setting.TheVariants as setting
use Rattle.html_ledger.specs.declared.symbol.Symbol.{Symbol}
use Rattle.html_ledger.specs.declared.symbol.Symbol.TheVariants.{Char, Eof}
use Rattle.html_ledger.specs.declared.fate.Fate.{Fate}
use Rattle.html_ledger.specs.Symbols.{symbol_of, chars_of as symbol_chars}
use Rattle.html_ledger.specs.Entries.{Fed}
use Rattle.html_ledger.specs.Fated.{Fated}
use Rattle.html_ledger.specs.Errors.{AreErrors}
use Rattle.html_construction.specs.Built.{Handed as Given, IsBuilt, IsRooted as IsRootedTree, chars_of, is_native, symbols}
use Rattle.std.specs.List.{list_all}
use Rattle.html_ledger.specs.Settings.{is_foreign_context}
use Rattle.html_construction.specs.Accounts.{AreMade, AreTexts}
use Rattle.html_construction.specs.Origins.{AreOrigins, HasRoot, IsRootLabel}
use Rattle.html_construction.specs.States.{State}
use Rattle.html_construction.proofs.Building.{symbols-append}
use Rattle.html_modes.specs.Steps.{allowance}
use Rattle.html_builder.specs.Builders.{BuilderState}
use Rattle.html_builder.specs.Built.{IsBuiltByRules}
use Rattle.html_builder.specs.Handed.{CostAtMost, EndsAtEof, Handed, HaveFates, fates_of, given, own_total, parses_foreign}
use Rattle.html_builder.specs.Outcome.{AreVoidsEmpty, HasNoForeignRoot, IsBounded, IsOutcome, IsRooted, most_entries, most_held, most_nodes, most_tree_steps}
use Rattle.html_construction.specs.Standing.{IsStanding}
use Rattle.html_names.specs.Sets.{is_void}
use Rattle.html_open.proofs.Keeps.{cases_bool}
use Rattle.html_tree.specs.Proper.{is_foreign_root}
use Rattle.html_tree.specs.Since.{HasFrameset}
use Rattle.html_builder.specs.RawTexts.{StandSoFar}
use Rattle.html_builder.proofs.RawEnds.{raw-end}

-- the first symbol of a list, and the rest
abbrev first : List Symbol → Symbol
first [] = Eof
first (y ∷ ys) = y

abbrev rest : List Symbol → List Symbol
rest [] = []
rest (y ∷ ys) = ys

-- a token that is a code point to the rules
abbrev token_of : Symbol → TokenKind
token_of (Char x) = kind.Char x
token_of _ = kind.Eof

char-is : (t : TokenKind) (c : ℕ) → symbol_of t ≡ Char c → t ≡ kind.Char c
char-is (kind.Char d) c e = ap token_of e
char-is _ c e = absurd cc

chars-back : (ts : List TokenKind) (cs : List ℕ) → symbols ts ≡ symbol_chars cs → ts ≡ chars_of cs
chars-back [] [] e = refl
chars-back [] (c ∷ cs) e = absurd cc
chars-back (t ∷ ts) [] e = absurd cc
chars-back (t ∷ ts) (c ∷ cs) e = ap (λ u. u ∷ ts) (char-is t c (ap first e)) ∙ ap (λ us. kind.Char c ∷ us) (chars-back ts cs (ap rest e))

split-symbols : (ts : List TokenKind) (ys : List Symbol) (cs : List ℕ) → symbols ts ≡ ys ++ symbol_chars cs → (front : List TokenKind) × (symbols front ≡ ys) × (ts ≡ front ++ chars_of cs)
split-symbols ts [] cs e = ([], refl, chars-back ts cs e)
split-symbols [] (y ∷ ys) cs e = absurd cc
split-symbols (t ∷ ts) (y ∷ ys) cs e = let p = split-symbols ts ys cs (ap rest e) in
    (t ∷ p.0, ap (λ z. z ∷ symbols p.0) (ap first e) ∙ ap (λ zs. y ∷ zs) p.1, ap (λ us. t ∷ us) p.2)

pub have-fates : (s : Setting) (l : Option Limits) (ts : List TokenKind) (b : BuilderState) → Handed s l ts b → HaveFates s ts (fates_of b)
have-fates s l ts b h =
    let f : Fed s b.page.ledger (symbols ts) = h.built.fed in
    let p = split-symbols ts f.front b.page.ledger.kept f.split in record {
      front = p.0;
      kept = b.page.ledger.kept;
      tokens_are = p.2;
      fated = subst (λ ys. Fated s ys (fates_of b)) (sym p.1) f.settled.fated;
    }

-- the last symbol of a list that is not empty
abbrev pub last_or : Symbol → List Symbol → Symbol
last_or d [] = d
last_or d (y ∷ ys) = last_or y ys

pub last-of : (d y : Symbol) (ys : List Symbol) → last_or d (ys ++ y ∷ []) ≡ y
last-of d y [] = refl
last-of d y (z ∷ ys) = last-of z y ys

-- code points end with a code point
abbrev pub is_char : Symbol → Type 0
is_char (Char c) = Unit {0}
is_char _ = ⊥

last-chars : (c : ℕ) (cs : List ℕ) → is_char (last_or (Char c) (symbol_chars cs))
last-chars c [] = tt
last-chars c (d ∷ cs) = last-chars d cs

pub last-append : (d : Symbol) (ys : List Symbol) (c : ℕ) (cs : List ℕ) → is_char (last_or d (ys ++ symbol_chars (c ∷ cs)))
last-append d [] c cs = last-chars c cs
last-append d (y ∷ ys) c cs = last-append y ys c cs

-- where the end of the page is the last token, each token has its fate
none-kept : (ts : List TokenKind) (ys : List Symbol) (cs : List ℕ) → EndsAtEof ts → symbols ts ≡ ys ++ symbol_chars cs → cs ≡ []
none-kept ts ys [] e f = refl
none-kept ts ys (c ∷ cs) e f =
    let q : symbols ts ≡ symbols e.0 ++ Eof ∷ [] = ap (λ us. symbols us) e.1 ∙ symbols-append e.0 (kind.Eof ∷ []) in
    let l : last_or Eof (ys ++ symbol_chars (c ∷ cs)) ≡ Eof = ap (λ us. last_or Eof us) (sym f ∙ q) ∙ last-of Eof Eof (symbols e.0) in
    absurd (subst is_char l (last-append Eof ys c cs))

pub quiet-end : (s : Setting) (l : Option Limits) (ts : List TokenKind) (b : BuilderState) → Handed s l ts b → EndsAtEof ts → b.page.ledger.kept ≡ []
quiet-end s l ts b h e = let f : Fed s b.page.ledger (symbols ts) = h.built.fed in none-kept ts f.front b.page.ledger.kept e f.split

-- HOW MANY NODES THERE ARE

pub length-symbols : (ts : List TokenKind) → length (symbols ts) ≡ length ts
length-symbols [] = refl
length-symbols (t ∷ ts) = ap suc (length-symbols ts)

pub length-kept : (cs : List ℕ) → length (symbol_chars cs) ≡ length cs
length-kept [] = refl
length-kept (c ∷ cs) = ap suc (length-kept cs)

-- as many tokens as fates and code points that are kept
pub handed-count : (h : Given) (a : State) → IsBuilt h a → length h.tokens ≡ length a.ledger.fates + length a.ledger.kept
handed-count h a w =
    let f : Fed h.setting a.ledger (symbols h.tokens) = w.fed in
    let whole : length (symbols h.tokens) ≡ length (f.front ++ symbol_chars a.ledger.kept) = ap (λ us. length us) f.split in
    let parts : length (f.front ++ symbol_chars a.ledger.kept) ≡ length f.front + length (symbol_chars a.ledger.kept) = length-append f.front (symbol_chars a.ledger.kept) in
    let kept : length (symbol_chars a.ledger.kept) ≡ length a.ledger.kept = length-kept a.ledger.kept in
    let fates : length a.ledger.fates ≡ length f.front = f.settled.fated.counted in
    let tokens : length (symbols h.tokens) ≡ length h.tokens = length-symbols h.tokens in
    omega (arith, whole, parts, kept, fates, tokens)

allowance-more : (f d : ℕ) → allowance f ≤ allowance (f + d)
allowance-more f d = grind arith

most-allowance : (n : ℕ) → 40 + 32 * (n + 1) + allowance (n + 1) ≤ most_nodes n
most-allowance n = grind arith

-- a number that is no greater leaves a rest
rest-of : (f k : ℕ) → f ≤ k → (d : ℕ) × (k ≡ f + d)
rest-of f k h = (k - f, omega (arith, h))

allowance-le : (f k : ℕ) → f ≤ k → allowance f ≤ allowance k
allowance-le f k h = let d = rest-of f k h in subst (λ m. allowance f ≤ allowance m) (sym d.1) (allowance-more f d.0)

most-product : (m o n : ℕ) → m ≤ 10 * (n + 1) → o ≤ n → m * o ≤ 10 * (n + 1) * n
most-product m o n a b =
    let p = mul-le-mul_left m b in
    let q = mul-le-mul_right n a in
    omega (arith, p, q)

most-all : (n : ℕ) → 10 * (n + 1) * n + n + 5 * n + 8 * (1 + 16 * (n + 1)) ≤ most_held n
most-all zero = omega arith
most-all (suc n) = grind arith

-- what the nodes hold, by the tokens
held-most : (s : Setting) (l : Option Limits) (ts : List TokenKind) (b : BuilderState) (n : ℕ) (t : Tree) → Handed s l ts b → CostAtMost n ts → bare t ≡ b.page.tree.tree → WellFormed t
    → length b.page.ledger.fates ≤ n + 1 → sum_by label_weight t.labels ≤ most_held n
held-most s l ts b n t h c e w f =
    let same : t.labels ≡ b.page.tree.tree.labels = ap (λ (u : Tree). u.labels) e in
    let all = holding ts b.page.ledger.fates b.page.tree.tree.labels h.built.origins h.built.made h.built.texts (subst (λ ls. (x : ℕ) → tag_in (label_in ls x) ≡ tag_of (name_in (label_in ls x))) same w.tagged) in
    let sum : sum_by label_weight t.labels ≡ sum_by label_weight b.page.tree.tree.labels = ap (λ ls. sum_by label_weight ls) same in
    let clones = h.cloned in
    let implied = h.implied in
    let own = c.own in
    let count = c.count in
    let product = most-product (most_clones b.page.tree.tree.labels) (own_total ts) n (omega (arith, clones, f)) own in
    let last = most-all n in
    let starts = c.starts in
    omega (arith, all, sum, implied, own, count, starts, product, last)

-- how many steps it counted, by the tokens
steps-most : (s : Setting) (l : Option Limits) (ts : List TokenKind) (b : BuilderState) (n : ℕ) (t : Tree) → Handed s l ts b → CostAtMost n ts → bare t ≡ b.page.tree.tree → WellFormed t
    → length b.page.ledger.fates ≤ length ts → b.page.tree.steps ≤ most_tree_steps n
steps-most s l ts b n t h c e w f =
    let same : t.labels ≡ b.page.tree.tree.labels = ap (λ (u : Tree). u.labels) e in
    let few : tokenless b.page.tree.tree.labels ≤ implied_count b.page.tree.tree.labels =
    tokenless-few ts b.page.ledger.fates b.page.tree.tree.labels h.built.origins (subst (λ ls. (x : ℕ) → tag_in (label_in ls x) ≡ tag_of (name_in (label_in ls x))) same w.tagged) in
    let implied = h.implied in
    let paid = h.paid in
    let counted = h.counted in
    counted-most ts b.page n f c.count c.attributes (omega (arith, paid)) (omega (arith, few, implied)) (omega (arith, counted))

-- how often tokens entered the rules of a mode
pub entries-most : (s : Setting) (l : Option Limits) (ts : List TokenKind) (b : BuilderState) (n : ℕ) → Handed s l ts b → CostAtMost n ts → b.entries ≤ most_entries n
entries-most s l ts b n h c = let e = h.entered in let k = c.count in omega (arith, e, k)

pub bounded : (s : Setting) (l : Option Limits) (ts : List TokenKind) (b : BuilderState) (n : ℕ) (t : Tree) → Handed s l ts b → CostAtMost n ts → bare t ≡ b.page.tree.tree → WellFormed t → t.held ≡ capped (sum_by label_weight t.labels)
    → t.steps ≡ b.page.tree.steps → IsBounded n t
bounded s l ts b n t h c e w d z =
    let same : length t.labels ≡ length b.page.tree.tree.labels = ap (λ (u : Tree). length u.labels) e in
    let count : length ts ≡ length b.page.ledger.fates + length b.page.ledger.kept = handed-count (given s l ts) b.page h.built in
    let few : length b.page.ledger.fates ≤ n + 1 = let k = c.count in omega (arith, count, k) in
    let fates : allowance (length b.page.ledger.fates) ≤ allowance (n + 1) = allowance-le (length b.page.ledger.fates) (n + 1) few in
    let all : 40 + 32 * (n + 1) + allowance (n + 1) ≤ most_nodes n = most-allowance n in
    let tokens = c.count in
    let paid = h.paid in
    let steps = steps-most s l ts b n t h c e w (omega (arith, count)) in
    let weighs = held-most s l ts b n t h c e w few in
    record { nodes = omega (arith, same, fates, all, tokens, paid); held = omega (arith, d, weighs); weighs = weighs; steps = omega (arith, steps, z) }

-- WHAT IS HANDED OUT

-- the second of two answers, or nothing
free : (t : Tree) (o : Option ℕ) (x : ℕ) → x ≢ 0 → host_at t x ≡ None → (x ≡ 0) ⊎ (((h : ℕ) × (host_at t x ≡ Some h)) ⊎ (o ≡ Some x)) → o ≡ Some x
free t o x n k (inl z) = absurd (n z)
free t o x n k (inr (inl h)) = absurd (let q : None ≡ Some h.0 = sym k ∙ h.1 in cc)
free t o x n k (inr (inr d)) = d

-- a body that was taken out of its parent
out : (t : Tree) (o : Option ℕ) (x : ℕ) → ((y : ℕ) → o ≡ Some y → (y < length t.labels) × ((named t tag.Body y ≡ true) × HasFrameset t)) → (x ≡ 0) ⊎ (((h : ℕ) × (host_at t x ≡ Some h)) ⊎ (o ≡ Some x))
    → (x ≡ 0) ⊎ (((h : ℕ) × (host_at t x ≡ Some h)) ⊎ ((named t tag.Body x ≡ true) × HasFrameset t))
out t o x f (inl z) = inl z
out t o x f (inr (inl h)) = inr (inl h)
out t o x f (inr (inr d)) = inr (inr (f x d).1)

some-same : (x y : ℕ) (o : Option ℕ) → o ≡ Some x → o ≡ Some y → x ≡ y
some-same x y o e f = let q : Some x ≡ Some y = sym e ∙ f in cc

-- the root is no contents of a template
root-host : (s : Setting) (d : NodeData) → IsRootLabel s d → host_in d ≡ None
root-host setting.Document d e = ap host_in e
root-host (setting.Fragment c f) node.Document e = refl
root-host (setting.Fragment c f) (node.Contents h) e = absurd (let k : [] ≡ name_of tag.Html = e.0 in cc)
root-host (setting.Fragment c f) (node.Element x) e = refl
root-host (setting.Fragment c f) (node.Text x) e = refl
root-host (setting.Fragment c f) (node.Comment x i) e = refl
root-host (setting.Fragment c f) (node.Doctype n p q i) e = refl

module _ (a : Nodes) (t : Tree) (e : bare t ≡ a.tree) (r : IsRootedTree a) (s : Setting) (g : HasRoot s a.tree) (f : IsNamed a.tree tag.Body a.detached) (k : IsStanding a) where
  parent-same : (x : ℕ) → parent_of t x ≡ parent_of a.tree x
  parent-same x = ap (λ (u : Tree). parent_of u x) e

  host-same : (x : ℕ) → host_at t x ≡ host_at a.tree x
  host-same x = ap (λ (u : Tree). host_at u x) e

  size-same : length t.labels ≡ length a.tree.labels
  size-same = ap (λ (u : Tree). length u.labels) e

  named-same : (x : ℕ) → named t tag.Body x ≡ named a.tree tag.Body x
  named-same x = ap (λ (u : Tree). named u tag.Body x) e

  body : (y : ℕ) → a.detached ≡ Some y → (y < length t.labels) × ((named t tag.Body y ≡ true) × HasFrameset t)
  body y d = let p = f y d in (subst (λ n. y < n) (sym size-same) p.0, (named-same y ∙ p.1, subst HasFrameset (sym e) (k.framed y d)))

  which : (x : ℕ) → x < length t.labels → parent_of t x ≡ None → (x ≡ 0) ⊎ (((h : ℕ) × (host_at t x ≡ Some h)) ⊎ (a.detached ≡ Some x))
  which x l p = subst (λ o. (x ≡ 0) ⊎ (((h : ℕ) × (o ≡ Some h)) ⊎ (a.detached ≡ Some x))) (sym (host-same x)) (r x (subst (λ n. x < n) size-same l) (sym (parent-same x) ∙ p))

  pub rooted : IsRooted t
  rooted = record {
    some_node = subst (λ n. 0 < n) (sym size-same) g.some_node;
    root = parent-same 0 ∙ g.alone;
    no_host = host-same 0 ∙ root-host s (label_of a.tree 0) g.label;
    alone = λ x l p. out t a.detached x body (which x l p);
    one = λ x y l m p q n k i j. some-same x y a.detached (free t a.detached x n i (which x l p)) (free t a.detached y k j (which y m q));
  }

-- void elements are empty, and no root of foreign content was made
voids-empty : (a : Nodes) (t : Tree) → bare t ≡ a.tree → WellFormed t → IsStanding a → AreVoidsEmpty t
voids-empty a t e w k x p q = elim (cases_bool (is_void (tag_at t p))) [
  | inl v ↦
      let i = k.proper p (subst (λ (u : Tree). p < length u.labels) e (w.parent_in p x q)) in
      let none : children_of t p ≡ [] = ap (λ (u : Tree). children_of u p) e ∙ i.empty (sym (ap (λ (u : Tree). is_void (tag_at u p)) e) ∙ v) in
      absurd (let z : false ≡ true = subst (λ ks. has x ks ≡ true) none (w.parent_has_child p x q) in cc)
  | inr v ↦ v
]

no-foreign-root : (a : Nodes) (t : Tree) → bare t ≡ a.tree → IsStanding a → HasNoForeignRoot t
no-foreign-root a t e k x b = ap (λ (u : Tree). is_foreign_root (tag_at u x)) e ∙ (k.proper x (subst (λ (u : Tree). x < length u.labels) e b)).own

pub outcome : (s : Setting) (l : Option Limits) (ts : List TokenKind) (b : BuilderState) (t : Tree) (fs : List Fate) (es : List ℕ) → Handed s l ts b → EndsAtEof ts
    → bare t ≡ b.page.tree.tree → WellFormed t → IsNamed b.page.tree.tree tag.Body b.page.tree.detached → fs ≡ b.page.ledger.fates
    → ((h : Given) → b.page.ledger.kept ≡ [] → IsBuilt h b.page → Fated h.setting (symbols h.tokens) fs)
    → ((h : Given) → b.page.ledger.kept ≡ [] → IsBuilt h b.page → AreErrors h.setting (symbols h.tokens) fs es) → HasSeats b.page.tree.tree b.page.tree.stack → IsOutcome s ts fs es t
outcome s l ts b t fs es h e q w d p f g seats =
    let k = quiet-end s l ts b h e in
    let stand = seats-as b.page.tree.tree t b.page.tree.stack (ap (λ (u : Tree). u.labels) q) (ap (λ (u : Tree). u.parents) q) seats in
    let same : t.labels ≡ b.page.tree.tree.labels = ap (λ (u : Tree). u.labels) q in record {
      well_formed = w;
      rooted = rooted b.page.tree t q h.built.rooted s h.built.root d h.built.standing;
      root = subst (λ x. IsRootLabel s (label_in x 0)) (sym same) h.built.root.label;
      origins = subst (λ x. AreOrigins ts fs x) (sym same) (subst (λ x. AreOrigins ts x b.page.tree.tree.labels) (sym p) h.built.origins);
      made = subst (λ x. AreMade fs x) (sym same) (subst (λ x. AreMade x b.page.tree.tree.labels) (sym p) h.built.made);
      texts = subst (λ x. AreTexts (symbols ts) fs x) (sym same) (subst (λ x. AreTexts (symbols ts) x b.page.tree.tree.labels) (sym p) h.built.texts);
      fated = f (given s l ts) k h.built;
      told = g (given s l ts) k h.built;
      parts = stand.parts;
      templates = stand.templates;
      voids = voids-empty b.page.tree t q w h.built.standing;
      foreign = no-foreign-root b.page.tree t q h.built.standing;
      raw_texts = raw-end ts fs b.page t e q (subst (λ x. StandSoFar (symbols ts) x b.page) (sym p) h.raw_texts);
    }

-- the limits to which it was built are kept
pub within : (s : Setting) (l : Option Limits) (ts : List TokenKind) (b : BuilderState) (t : Tree) → Handed s l ts b → bare t ≡ b.page.tree.tree → IsWithin t → AreWithin l (length t.labels) t.held
within s l ts b t h e w = subst (λ o. AreWithin o (length t.labels) t.held) (ap (λ (u : Tree). u.limits) e ∙ h.built.limits) w

-- where foreign content is refused, no element of it was made
pub native : (s : Setting) (l : Option Limits) (ts : List TokenKind) (b : BuilderState) → Handed s l ts b → parses_foreign b ≡ false → is_foreign_context s ≡ false → list_all is_native (fates_of b) ≡ true
native s l ts b h p f = h.built.refusing p f

-- and what was built was built by the rules
pub built-by-rules : (s : Setting) (l : Option Limits) (ts : List TokenKind) (b : BuilderState) (t : Tree) (fs : List Fate) → Handed s l ts b → bare t ≡ b.page.tree.tree → fs ≡ b.page.ledger.fates → IsBuiltByRules s l (parses_foreign b) ts fs t
built-by-rules s l ts b t fs h e f = record { first = h.first; begins = h.begins; foreign_is = h.parses; last = b.page; constructs = h.constructs; tree_is = e; fates_are = f }

pub ruleset finish_rules = (outcome, bounded)

pub ruleset count_rules = (have-fates)

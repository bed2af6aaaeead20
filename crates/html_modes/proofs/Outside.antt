-- By each plan of the tables a code point leads to no mode of selects, of frames or of a column group; the root of foreign content is ignored in the modes
-- inside a select, and in those of a page of frames; and whether foreign content is parsed stays as it is.
use Rattle.std.proofs.Common.{◌≡◌, ◌&&◌, ◌==◌, ℕ, List, [], ◌∷◌, Bool, true, false, cond, if◌then◌else◌, refl, sym, ap, subst, ◌∙◌}
use Rattle.std.proofs.lemmas.Bool.{false≢true}
use Rattle.html_names.specs.declared.foreign.Space.{Space}
use Rattle.html_names.specs.declared.tag.Tag.{Tag}
use Rattle.html_names.specs.declared.tag.Tag.TheVariants as tag
use Rattle.html_names.specs.Foreign.{space_of}
use Rattle.html_tokens.specs.declared.token.TokenKind.{TokenKind}
use Rattle.html_tokens.specs.declared.token.TokenKind.TheVariants as kind
use Rattle.html_ledger.specs.declared.fate.Cause.{Cause}
use Rattle.html_ledger.specs.declared.symbol.Symbol.{Symbol}
use Rattle.html_ledger.specs.declared.symbol.Symbol.TheVariants.{Start, Char}
use Rattle.html_ledger.specs.Spaces.{is_space}
use Rattle.html_ledger.specs.Symbols.{symbol_of}
use Rattle.html_tree.specs.States.{State as Tree}
use Rattle.html_construction.specs.declared.mode.Mode.{Mode}
use Rattle.html_construction.specs.declared.mode.Mode.TheVariants as mode
use Rattle.html_construction.specs.Plans.{Adopt, Again, Ask, By, CloseLink, Do, Each, Ending, Foster, IsMoved, Over, Plan, Reconstruct, Refused, Runs, Settle, Stop, adopts, asks, closes_link, does, does_each, ends_each, fosters, goes_by, reconstructs, settles, stops}
use Rattle.html_construction.specs.Begun.{IsFounded}
use Rattle.html_construction.specs.Built.{chars_of}
use Rattle.html_construction.specs.States.{State}
use Rattle.html_construction.specs.Tokens.{closes_itself}
use Rattle.html_construction.specs.Words.{Becomes, Enter, InsertForeign, InsertForeignVoid, Leave, Reset, Switch, Word, after, answer, with_kept, with_stack}
use Rattle.html_modes.specs.Begun.{StaysOut, begins_foreign, ignores_foreign}
use Rattle.html_modes.specs.Dispatching.{Constructs, Entries, IsEntry, begun, is_unfounded, last, next}
use Rattle.html_modes.specs.Foreign.{stack_after}
use Rattle.html_modes.specs.RuleForms.{again, embedding, ending, ignored, over}
use Rattle.html_modes.specs.Rules.{Follows, plan}
use Rattle.html_modes.specs.RulesForeign.{in_foreign}
use Rattle.html_modes.specs.Steps.{is_code_point, root_space}
use Rattle.html_modes.specs.declared.outcome.Outcome.{Outcome}
use Rattle.html_modes.specs.declared.outcome.Outcome.TheVariants.{Done, Reprocess, Foreign}
use Rattle.html_modes.proofs.Begun.{out-body, out-own, out-same, out-then}
use Rattle.html_modes.proofs.Dispatching.{Way, dropped, founded-astray, handed, planned, stayed, strayed, way}
use Rattle.html_construction.proofs.Planned.{followed, halves}

-- MODES OUTSIDE

abbrev is_outer : Mode → Bool
is_outer mode.InSelect = false
is_outer mode.InSelectInTable = false
is_outer mode.InFrameset = false
is_outer mode.AfterFrameset = false
is_outer mode.AfterAfterFrameset = false
is_outer mode.InColumnGroup = false
is_outer _ = true

outer-out : (m n : Mode) → is_outer n ≡ true → StaysOut m n
outer-out m mode.InSelect e = absurd (false≢true e)
outer-out m mode.InSelectInTable e = absurd (false≢true e)
outer-out m mode.InFrameset e = absurd (false≢true e)
outer-out m mode.AfterFrameset e = absurd (false≢true e)
outer-out m mode.AfterAfterFrameset e = absurd (false≢true e)
outer-out m mode.InColumnGroup e = absurd (false≢true e)
outer-out m _ e = out-own m _ refl refl refl

-- PLANS THAT LEAD THERE ALONE

abbrev leads_outside : Word → Bool
leads_outside (Switch m) = is_outer m
leads_outside (Enter m) = is_outer m
leads_outside Leave = false
leads_outside Reset = false
leads_outside _ = true

abbrev stays_outside : Plan → Bool
stays_outside (Do w p) = leads_outside w && stays_outside p
stays_outside (Ask q p n) = stays_outside p && stays_outside n
stays_outside (Reconstruct p) = stays_outside p
stays_outside (Adopt g p) = stays_outside p
stays_outside (CloseLink p) = stays_outside p
stays_outside (Foster p) = stays_outside p
stays_outside (Settle q p) = stays_outside q && stays_outside p
stays_outside (Each cs q p) = stays_outside q && stays_outside p
stays_outside (Stop e) = true
stays_outside (By m) = true

word-outside : (w : Word) (t : TokenKind) (a : State) → leads_outside w ≡ true → StaysOut a.mode (after w t a).mode
word-outside (Switch m) t a e = outer-out a.mode m e
word-outside (Enter m) t a e = outer-out a.mode m e
word-outside Leave t a e = absurd (false≢true e)
word-outside Reset t a e = absurd (false≢true e)
word-outside _ t a e = out-same a.mode a.mode refl

becomes-outside : (m : Mode) (x b : State) → Becomes x b → StaysOut m x.mode → StaysOut m b.mode
becomes-outside m x b i s = subst (λ n. StaysOut m n) (sym (ap (λ (v : State). v.mode) i.state_is)) s

moved-outside : (a b : State) → IsMoved a b → StaysOut a.mode b.mode
moved-outside a b i = out-same a.mode b.mode (ap (λ (v : State). v.mode) i.rest)

either : (b : Bool) (p n : Plan) → stays_outside p ≡ true → stays_outside n ≡ true → stays_outside (if b then p else n) ≡ true
either true p n e f = e
either false p n e f = f

-- THE TABLES

plan-outside : (m : Mode) (c : ℕ) → stays_outside (plan m (Char c)) ≡ true
unfolding plan
plan-outside mode.InHead c = either (is_space c) _ _ refl refl
plan-outside mode.InHeadNoscript c = either (is_space c) _ _ refl refl
plan-outside mode.AfterHead c = either (is_space c) _ _ refl refl
plan-outside mode.InBody c = either (c == 0) _ _ refl (either (is_space c) _ _ refl refl)
plan-outside mode.Text c = either (c == 0) _ _ refl refl
plan-outside mode.InColumnGroup c = either (is_space c) _ _ refl refl
plan-outside mode.InSelect c = either (c == 0) _ _ refl refl
plan-outside mode.AfterBody c = either (is_space c) _ _ refl refl
plan-outside mode.InFrameset c = either (is_space c) _ _ refl refl
plan-outside mode.AfterFrameset c = either (is_space c) _ _ refl refl
plan-outside mode.AfterAfterBody c = either (is_space c) _ _ refl refl
plan-outside mode.AfterAfterFrameset c = either (is_space c) _ _ refl refl
plan-outside _ c = refl

point-outside : (m : Mode) (y : Symbol) → is_code_point y ≡ true → stays_outside (plan m y) ≡ true
point-outside m (Char c) e = plan-outside m c
point-outside m _ e = absurd (false≢true e)

foreign-outside : (g : Tag) (y : Symbol) → is_code_point y ≡ true → stays_outside (in_foreign g y) ≡ true
foreign-outside g (Char c) e = either (c == 0) _ _ refl (either (is_space c) _ _ refl refl)
foreign-outside g _ e = absurd (false≢true e)

-- WHERE A CODE POINT LEADS

runs-outside : (p : Plan) (t : TokenKind) (a : State) (e : Ending) (z : State) → is_code_point (symbol_of t) ≡ true → stays_outside p ≡ true → Runs plan p t a e z → StaysOut a.mode z.mode
runs-outside _ _ _ _ _ y h (does w p t a b e z i j) =
    let c = halves (leads_outside w) (stays_outside p) h in
    out-then a.mode b.mode z.mode (becomes-outside a.mode (after w t a) b i (word-outside w t a c.0)) (runs-outside p t b e z y c.1 j)
runs-outside _ _ _ _ _ y h (asks q p n t a b e z i j) =
    let c = halves (stays_outside p) (stays_outside n) h in
    out-then a.mode b.mode z.mode (becomes-outside a.mode a b i (out-same a.mode a.mode refl)) (runs-outside (if answer q t a then p else n) t b e z y (either (answer q t a) p n c.0 c.1) j)
runs-outside _ _ _ _ _ y h (reconstructs p t a b e z i m j) = out-then a.mode b.mode z.mode (moved-outside a b i) (runs-outside p t b e z y h j)
runs-outside _ _ _ _ _ y h (adopts g p t a b e z i m j) = out-then a.mode b.mode z.mode (moved-outside a b i) (runs-outside p t b e z y h j)
runs-outside _ _ _ _ _ y h (closes_link p t a b e z i m j) = out-then a.mode b.mode z.mode (moved-outside a b i) (runs-outside p t b e z y h j)
runs-outside _ _ _ _ _ y h (fosters p t a b c e z i j m) =
    out-then a.mode b.mode z.mode (becomes-outside a.mode (record a { fostering = true }) b i (out-same a.mode a.mode refl))
    (becomes-outside b.mode (record c { fostering = false }) z m (runs-outside p t b e c y h j))
runs-outside _ _ _ _ _ y h (settles q p t a b e z i j) =
    out-then a.mode b.mode z.mode (becomes-outside a.mode (with_kept [] a) b i (out-same a.mode a.mode refl)) (runs-outside (Each a.ledger.kept q p) t b e z y h j)
runs-outside _ _ _ _ _ y h (ends_each q p t a e z j) = runs-outside p t a e z y (halves (stays_outside q) (stays_outside p) h).1 j
runs-outside _ _ _ _ _ y h (does_each c cs q p t a b e z i j) =
    out-then a.mode b.mode z.mode (runs-outside q (kind.Char c) a Over b refl (halves (stays_outside q) (stays_outside p) h).0 i) (runs-outside (Each cs q p) t b e z y h j)
runs-outside _ _ _ _ _ y h (stops t a e z i) = becomes-outside a.mode a z i (out-same a.mode a.mode refl)
runs-outside _ _ _ _ _ y h (goes_by m t a e z j) = runs-outside (plan m (symbol_of t)) t a e z y (point-outside m (symbol_of t) y) j

-- one entry, and all
entry-outside : (o : Outcome) (y : Symbol) (t : TokenKind) (a z : State) → symbol_of t ≡ y → is_code_point y ≡ true → Way o y t a z → StaysOut a.mode z.mode
entry-outside o y t a z s e (planned f) = runs-outside (plan a.mode y) t a (ending o) z (ap is_code_point s ∙ e) (point-outside a.mode y e) f
entry-outside o y t a z s e (handed g k w) =
    out-then a.mode w.middle.mode z.mode (becomes-outside a.mode (with_stack (stack_after a.tree y t) a) w.middle w.left (out-same a.mode a.mode refl))
    (runs-outside (plan a.mode y) t w.middle (ending o) z (ap is_code_point s ∙ e) (point-outside a.mode y e) w.follows)
entry-outside o y t a z s e (dropped c k f) = runs-outside (ignored c) t a (ending o) z (ap is_code_point s ∙ e) refl f
entry-outside o y t a z s e (strayed k f) = runs-outside (Do (Switch mode.InBody) again) t a (ending o) z (ap is_code_point s ∙ e) refl f
entry-outside o y t a z s e (stayed g k w) =
    out-then a.mode w.middle.mode z.mode (becomes-outside a.mode (with_stack (stack_after a.tree y t) a) w.middle w.left (out-same a.mode a.mode refl))
    (runs-outside (in_foreign g y) t w.middle (ending o) z (ap is_code_point s ∙ e) (foreign-outside g y e) w.follows)

settled-outside : (m : Mode) (u : Bool) → StaysOut m (cond u mode.InBody m)
settled-outside m true = out-body m mode.InBody refl
settled-outside m false = out-same m m refl

pub entries-outside : (y : Symbol) (t : TokenKind) (a z : State) → symbol_of t ≡ y → is_code_point y ≡ true → Entries y t a z → StaysOut a.mode z.mode
entries-outside y t _ _ s p (next a b c z i e k) =
    out-then a.mode b.mode z.mode (becomes-outside a.mode a b i (out-same a.mode a.mode refl))
    (out-then b.mode c.mode z.mode (entry-outside Reprocess y t b c s p (way Reprocess y t b c e)) (entries-outside y t c z s p k))
entries-outside y t _ _ s p (last a b c z i e r) =
    out-then a.mode b.mode z.mode (becomes-outside a.mode a b i (out-same a.mode a.mode refl))
    (out-then b.mode c.mode z.mode (entry-outside Done y t b c s p (way Done y t b c e)) (subst (λ (v : State). StaysOut c.mode v.mode) (sym r) (settled-outside c.mode (is_unfounded c))))

-- code points in a row
pub constructs-outside : (cs : List ℕ) (a z : State) → Constructs (chars_of cs) a z → StaysOut a.mode z.mode
constructs-outside [] a z e = out-same a.mode z.mode (sym (ap (λ (v : State). v.mode) e))
constructs-outside (c ∷ cs) a z h = out-then a.mode h.0.mode z.mode (entries-outside (Char c) (kind.Char c) (begun a) h.0 refl refl h.1) (constructs-outside cs h.0 z h.2)

-- THE ROOTS OF FOREIGN CONTENT

-- the token is done with
pub over-done : (o : Outcome) → Over ≡ ending o → o ≡ Done
over-done Done e = refl
over-done Reprocess e = absurd (let k : Over ≡ Again = e in cc)
over-done (Foreign name) e = absurd (let k : Over ≡ Refused (root_space name) = e in cc)

ignored-done : (c : Cause) (t : TokenKind) (o : Outcome) (a z : State) → Follows (ignored c) t o a z → o ≡ Done
ignored-done c t o a z h = let k = followed plan (ignored c) t a (ending o) z h in over-done o (followed plan (Stop Over) t k.0 (ending o) z k.2).0

by-root : (P : Symbol → Type 0) (y : Symbol) → begins_foreign y ≡ true → P (Start tag.Svg) → P (Start tag.Math) → P y
by-root P (Start tag.Svg) e s m = s
by-root P (Start tag.Math) e s m = m
by-root P (Start _) e s m = absurd (false≢true e)
by-root P _ e s m = absurd (false≢true e)

select-done : (y : Symbol) (t : TokenKind) (o : Outcome) (a z : State) → begins_foreign y ≡ true → Follows (plan mode.InSelect y) t o a z → o ≡ Done
unfolding plan
select-done y t o a z e h = by-root (λ v. Follows (plan mode.InSelect v) t o a z → o ≡ Done) y e (ignored-done _ t o a z) (ignored-done _ t o a z) h

root-done : (m : Mode) (y : Symbol) (t : TokenKind) (o : Outcome) (a z : State) → symbol_of t ≡ y → ignores_foreign m ≡ true → begins_foreign y ≡ true → Follows (plan m y) t o a z → o ≡ Done
unfolding plan
root-done mode.InSelect y t o a z s k e h = select-done y t o a z e h
root-done mode.InSelectInTable y t o a z s k e h = select-done y t o a z e (by-root (λ v. symbol_of t ≡ v → Follows (plan mode.InSelectInTable v) t o a z → Follows (plan mode.InSelect v) t o a z) y e (by_select tag.Svg) (by_select tag.Math) s h)
  where
    by_select : (g : Tag) → symbol_of t ≡ Start g → Follows (By mode.InSelect) t o a z → Follows (plan mode.InSelect (Start g)) t o a z
    by_select g r f = subst (λ v. Follows (plan mode.InSelect v) t o a z) r (followed plan (By mode.InSelect) t a (ending o) z f)
root-done mode.InFrameset y t o a z s k e h = by-root (λ v. Follows (plan mode.InFrameset v) t o a z → o ≡ Done) y e (ignored-done _ t o a z) (ignored-done _ t o a z) h
root-done mode.AfterFrameset y t o a z s k e h = by-root (λ v. Follows (plan mode.AfterFrameset v) t o a z → o ≡ Done) y e (ignored-done _ t o a z) (ignored-done _ t o a z) h
root-done mode.AfterAfterFrameset y t o a z s k e h = by-root (λ v. Follows (plan mode.AfterAfterFrameset v) t o a z → o ≡ Done) y e (ignored-done _ t o a z) (ignored-done _ t o a z) h
root-done _ y t o a z s k e h = absurd (false≢true k)

-- an element of foreign content is made of it
embedding-done : (p : Space) (t : TokenKind) (o : Outcome) (a z : State) → Follows (embedding p) t o a z → o ≡ Done
embedding-done p t o a z h = let c = followed plan (embedding p) t a (ending o) z h in by (closes_itself t) c.0 c.2
  where
    made : (w : Word) (b : State) → Runs plan (Do w over) t b (ending o) z → o ≡ Done
    made w b k = let d = followed plan (Do w over) t b (ending o) z k in over-done o (followed plan over t d.0 (ending o) z d.2).0

    by : (x : Bool) (b : State) → Runs plan (if x then Do (InsertForeignVoid p) over else Do (InsertForeign p) over) t b (ending o) z → o ≡ Done
    by true b k = made (InsertForeignVoid p) b k
    by false b k = made (InsertForeign p) b k

foreign-done : (g : Tag) (y : Symbol) (t : TokenKind) (o : Outcome) (a z : State) → begins_foreign y ≡ true → Follows (in_foreign g y) t o a z → o ≡ Done
foreign-done g y t o a z e h = by-root (λ v. Follows (in_foreign g v) t o a z → o ≡ Done) y e (embedding-done (space_of g) t o a z) (embedding-done (space_of g) t o a z) h

-- in a mode to which something leads, where the call begins
entry-ignores : (o : Outcome) (y : Symbol) (t : TokenKind) (a z : State) → symbol_of t ≡ y → IsFounded a → a.began ≡ a.mode → ignores_foreign a.mode ≡ true → begins_foreign y ≡ true → Way o y t a z → o ≡ Done
entry-ignores o y t a z s w b k e (planned f) = root-done a.mode y t o a z s k e f
entry-ignores o y t a z s w b k e (handed g n f) = root-done a.mode y t o f.middle z s k e f.follows
entry-ignores o y t a z s w b k e (dropped c n f) = ignored-done c t o a z f
entry-ignores o y t a z s w b k e (strayed n f) = absurd (false≢true (sym (founded-astray a y w b) ∙ n))
entry-ignores o y t a z s w b k e (stayed g n f) = foreign-done g y t o f.middle z e f.follows

founded-tree : (a : State) (t : Tree) → IsFounded a → IsFounded (record a { tree = t })
founded-tree a t w = record { select = w.select; frameset = w.frameset }

-- an entry before which nothing but steps was counted in the call
pub first-entry : (i m n z : State) (o : Outcome) (y : Symbol) (t : TokenKind) → symbol_of t ≡ y → (ignores_foreign i.mode ≡ true → IsFounded i → begins_foreign y ≡ true → m ≡ i) → n ≡ record m { tree = n.tree } → i.began ≡ i.mode
    → IsEntry o y t n z → ignores_foreign i.mode ≡ true → IsFounded i → begins_foreign y ≡ true → o ≡ Done
first-entry i m n z o y t s f r b g k w e =
    let q : n ≡ record i { tree = n.tree } = r ∙ ap (λ (x : State). record x { tree = n.tree }) (f k w e) in
    let own : IsFounded n = subst IsFounded (sym q) (founded-tree i n.tree w) in
    let began : n.began ≡ n.mode = ap (λ (x : State). x.began) q ∙ b ∙ sym (ap (λ (x : State). x.mode) q) in
    entry-ignores o y t n z s own began (ap (λ (x : State). ignores_foreign x.mode) q ∙ k) e (way o y t n z g)

-- WHETHER FOREIGN CONTENT IS PARSED

word-parses : (w : Word) (t : TokenKind) (a : State) → (after w t a).parses_foreign ≡ a.parses_foreign
word-parses Leave t a = refl
word-parses _ t a = refl

becomes-parses : (m b : State) → Becomes m b → b.parses_foreign ≡ m.parses_foreign
becomes-parses m b i = ap (λ (v : State). v.parses_foreign) i.state_is

moved-parses : (a b : State) → IsMoved a b → b.parses_foreign ≡ a.parses_foreign
moved-parses a b i = ap (λ (v : State). v.parses_foreign) i.rest

runs-parses : (p : Plan) (t : TokenKind) (a : State) (e : Ending) (z : State) → Runs plan p t a e z → z.parses_foreign ≡ a.parses_foreign
runs-parses _ _ _ _ _ (does w p t a b e z i j) = runs-parses p t b e z j ∙ becomes-parses (after w t a) b i ∙ word-parses w t a
runs-parses _ _ _ _ _ (asks q p n t a b e z i j) = runs-parses (if answer q t a then p else n) t b e z j ∙ becomes-parses a b i
runs-parses _ _ _ _ _ (reconstructs p t a b e z i m j) = runs-parses p t b e z j ∙ moved-parses a b i
runs-parses _ _ _ _ _ (adopts g p t a b e z i m j) = runs-parses p t b e z j ∙ moved-parses a b i
runs-parses _ _ _ _ _ (closes_link p t a b e z i m j) = runs-parses p t b e z j ∙ moved-parses a b i
runs-parses _ _ _ _ _ (fosters p t a b c e z i j m) = becomes-parses (record c { fostering = false }) z m ∙ runs-parses p t b e c j ∙ becomes-parses (record a { fostering = true }) b i
runs-parses _ _ _ _ _ (settles q p t a b e z i j) = runs-parses (Each a.ledger.kept q p) t b e z j ∙ becomes-parses (with_kept [] a) b i
runs-parses _ _ _ _ _ (ends_each q p t a e z j) = runs-parses p t a e z j
runs-parses _ _ _ _ _ (does_each c cs q p t a b e z i j) = runs-parses (Each cs q p) t b e z j ∙ runs-parses q (kind.Char c) a Over b i
runs-parses _ _ _ _ _ (stops t a e z i) = becomes-parses a z i
runs-parses _ _ _ _ _ (goes_by m t a e z j) = runs-parses (plan m (symbol_of t)) t a e z j

way-parses : (o : Outcome) (y : Symbol) (t : TokenKind) (a z : State) → Way o y t a z → z.parses_foreign ≡ a.parses_foreign
way-parses o y t a z (planned f) = runs-parses (plan a.mode y) t a (ending o) z f
way-parses o y t a z (handed g k f) = runs-parses (plan a.mode y) t f.middle (ending o) z f.follows ∙ becomes-parses (with_stack (stack_after a.tree y t) a) f.middle f.left
way-parses o y t a z (dropped c k f) = runs-parses (ignored c) t a (ending o) z f
way-parses o y t a z (strayed k f) = runs-parses (Do (Switch mode.InBody) again) t a (ending o) z f
way-parses o y t a z (stayed g k f) = runs-parses (in_foreign g y) t f.middle (ending o) z f.follows ∙ becomes-parses (with_stack (stack_after a.tree y t) a) f.middle f.left

pub entry-parses : (o : Outcome) (y : Symbol) (t : TokenKind) (a z : State) → IsEntry o y t a z → z.parses_foreign ≡ a.parses_foreign
entry-parses o y t a z i = way-parses o y t a z (way o y t a z i)

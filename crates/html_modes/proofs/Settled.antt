-- States that fit, and the lemmas that the modes are proved with.
use Rattle.std.proofs.Common.{ℕ, zero, suc, ◌+◌, ◌≡◌, ◌<◌, ◌≤◌, Bool, true, false, [], ◌∷◌, ◌*◌, ◌-◌, length, refl, sym, ap, subst, ◌∙◌, arith}
use Rattle.std.proofs.lemmas.Nat.{mul-le}
use Rattle.std.specs.Prelude.{IfSome, Option, Some, None}
use Rattle.html_construction.specs.declared.mode.Mode.{Mode}
use Rattle.html_construction.specs.declared.mode.Mode.TheVariants as mode
use Rattle.html_construction.specs.States.{State}
use Rattle.html_modes.specs.Fitting.{is_loose, is_table_mode, ModeFits, Quiet, Fits, Calls}
use Rattle.html_modes.specs.Guards.{is_table_text}
use Rattle.html_modes.specs.Ranks.{rank, top_rank}
use Rattle.html_modes.specs.Steps.{ClonesFew, Counted, Counts, Falls, Grows, Pays, Spends, Steps, Toils, Worked, allowance, compared, fee_of, root_of, turn_of}
use Rattle.html_modes.specs.declared.outcome.Foreign.{Foreign as Root}
use Rattle.html_modes.specs.declared.outcome.Foreign.TheVariants as root
use Rattle.html_construction.specs.Weights.{weight}
use Rattle.html_ledger.specs.declared.symbol.Symbol.TheVariants.{Char}
use Rattle.html_modes.specs.declared.outcome.Outcome.{Outcome}
use Rattle.html_modes.specs.declared.outcome.Outcome.TheVariants.{Done, Reprocess, Foreign}
use Rattle.html_tokens.specs.declared.token.TokenKind.{TokenKind}
use Rattle.html_ledger.specs.declared.symbol.Symbol.{Symbol}
use Rattle.html_construction.specs.Built.{Keeps, with_tokens}
use Rattle.html_construction.specs.Copies.{implied_count}
use Rattle.html_construction.specs.Grown.{Grown}
use Rattle.html_construction.specs.Works.{Works, reach_of, toll_of}
use Rattle.html_modes.proofs.Moded.{ModeFits-loose, opened-loose, Quiet-none, top_rank-loose, top_rank-reset, loose-reset, loose-table, rank-reset_table, rank-reset_eof, rank-char_table, rank-start_table, rank-top, rank-reset, rank-loose, rank-table_text, top_rank-all, Quiet-other, is-table_text, other-loose, other-runs, loose-runs, is-text, other-text}
use Rattle.html_modes.proofs.Tagged.{apart-is_void, own-body_text, own-other, root-is_headish, named-is_block, unlisted-is_block, named-is_heading, named-is_preformatted, named-takes_marker, named-is_head_text, named-is_section, named-is_cell, small-other, small-is_block, small-is_heading, small-is_preformatted, small-takes_marker, small-is_head_text, small-is_section, small-is_cell, small-is_formatting, weight_of-most, placed-is_table_piece, placed-ends_section, placed-ends_row, rank-section, rank-row, rank-cell, rank-caption, rank-group, group-least, rank-table_part, outside-ends_select, outside-ends_select_in_table, may_misplace-placed, is_visible-space, apart-is_headish, apart-is_head_text, apart-is_block, apart-is_heading, apart-is_preformatted, apart-takes_marker, apart-is_void_phrase, apart-is_void_part, apart-is_formatting, apart-unplaced, part-is_section, part-is_cell}
use Rattle.html_construction.proofs.Telling.{any-refused, char-refused}

pub Fits-loose : (s : State) → is_loose s.mode ≡ true → 0 < length s.stack → s.ledger.kept ≡ [] → length s.tree.list ≤ length s.ledger.fates → Fits s
Fits-loose s l h q k = record { stack = ModeFits-loose s.mode s.original s.stack l h; quiet = Quiet-none s.mode s.ledger.kept q; listed = k }

pub Calls-loose : (s : State) → is_loose s.mode ≡ true → 0 < length s.stack → s.ledger.kept ≡ [] → length s.tree.list ≤ length s.ledger.fates → Calls s
Calls-loose s l h q k = record { loose = l; opened = h; quiet = q; listed = k; top = top_rank-loose s.mode l }

pub Fits-opened : (s : State) → is_loose s.mode ≡ true → Fits s → 0 < length s.stack
Fits-opened s l f = opened-loose s.mode s.original s.stack l f.stack

-- before the html element
pub Fits-initial : (s : State) → s.mode ≡ mode.Initial → s.ledger.kept ≡ [] → length s.tree.list ≤ length s.ledger.fates → Fits s
Fits-initial s e q k = record { stack = subst (λ m. ModeFits m s.original s.stack) (sym e) tt; quiet = Quiet-none s.mode s.ledger.kept q; listed = k }

pub Fits-before : (s : State) → s.mode ≡ mode.BeforeHtml → s.ledger.kept ≡ [] → length s.tree.list ≤ length s.ledger.fates → Fits s
Fits-before s e q k = record { stack = subst (λ m. ModeFits m s.original s.stack) (sym e) tt; quiet = Quiet-none s.mode s.ledger.kept q; listed = k }

pub Fits-text : (s : State) → s.mode ≡ mode.Text → 1 < length s.stack → is_loose s.original ≡ true → s.ledger.kept ≡ [] → length s.tree.list ≤ length s.ledger.fates → Fits s
Fits-text s e h l q k = record { stack = subst (λ m. ModeFits m s.original s.stack) (sym e) (h, l); quiet = Quiet-none s.mode s.ledger.kept q; listed = k }

pub Fits-table_text : (s : State) → s.mode ≡ mode.InTableText → 0 < length s.stack → is_table_mode s.original ≡ true → length s.tree.list ≤ length s.ledger.fates → Fits s
Fits-table_text s e h l k = record { stack = subst (λ m. ModeFits m s.original s.stack) (sym e) (h, l); quiet = subst (λ m. Quiet m s.ledger.kept) (sym e) tt; listed = k }

-- what text and table text come back to
pub text-stack : (s : State) → s.mode ≡ mode.Text → Fits s → 1 < length s.stack
text-stack s e f = (subst (λ m. ModeFits m s.original s.stack) e f.stack).0

pub text-original : (s : State) → s.mode ≡ mode.Text → Fits s → is_loose s.original ≡ true
text-original s e f = (subst (λ m. ModeFits m s.original s.stack) e f.stack).1

pub table_text-stack : (s : State) → s.mode ≡ mode.InTableText → Fits s → 0 < length s.stack
table_text-stack s e f = (subst (λ m. ModeFits m s.original s.stack) e f.stack).0

pub table_text-original : (s : State) → s.mode ≡ mode.InTableText → Fits s → is_table_mode s.original ≡ true
table_text-original s e f = (subst (λ m. ModeFits m s.original s.stack) e f.stack).1

pub ruleset mode_rules = (Fits-loose, Calls-loose, Fits-opened, Fits-initial, Fits-before, is_visible-space, any-refused)

pub ruleset text_rules = (Fits-loose, Fits-text, text-stack, text-original, top_rank-loose, rank-loose, small-is_head_text, named-is_head_text, is_visible-space, any-refused)

pub ruleset head_rules = (root-is_headish, Fits-loose, Calls-loose, Fits-text, small-is_head_text, named-is_head_text, apart-is_head_text, apart-is_headish, any-refused)

pub ruleset body_rules = (own-body_text, own-other, apart-is_void, Fits-loose, Calls-loose, small-other, small-is_block, small-is_heading, small-is_preformatted, small-takes_marker, named-is_block, named-is_heading, named-is_preformatted, named-takes_marker, small-is_formatting, may_misplace-placed, unlisted-is_block, apart-is_headish, apart-is_block, apart-is_heading, apart-is_preformatted, apart-takes_marker, apart-is_void_phrase, apart-is_void_part, apart-is_formatting, apart-unplaced, any-refused)

pub ruleset reset_rules = (outside-ends_select, Fits-loose, Calls-loose, loose-reset, top_rank-reset, rank-reset, any-refused)

pub ruleset template_rules = (rank-table_part, Fits-opened, Fits-loose, Calls-loose, loose-reset, top_rank-reset, rank-reset_eof, any-refused)

-- foster parenting is on, or off again
pub Fits-fostering : (s : State) (f : Bool) → Fits s → Fits (record s { fostering = f })
Fits-fostering s f h = record { stack = h.stack; quiet = h.quiet; listed = h.listed }

pub Calls-fostering : (s : State) (f : Bool) → Calls s → Calls (record s { fostering = f })
Calls-fostering s f h = record { loose = h.loose; opened = h.opened; quiet = h.quiet; listed = h.listed; top = h.top }

pub Falls-fostering : (o : Outcome) (t : Symbol) (a b : State) (x y : Bool) → Falls o t (record a { fostering = x }) b → Falls o t a (record b { fostering = y })
Falls-fostering Done t a b x y h = h
Falls-fostering Reprocess t a b x y h = h
Falls-fostering (Foreign name) t a b x y h = h

pub Grows-fostering : (o : Outcome) (a b : State) (x y : Bool) → Grows o (record a { fostering = x }) b → Grows o a (record b { fostering = y })
Grows-fostering Done a b x y h = h
Grows-fostering Reprocess a b x y h = h
Grows-fostering (Foreign name) a b x y h = h

pub Steps-kept : (o : Outcome) (t : TokenKind) (a b c d : State) → b.parses_foreign ≡ a.parses_foreign → Keeps a b → Steps o t b c → Keeps c d → Steps o t a d
Steps-kept Done t a b c d e j s k = λ h w. k (with_tokens h (t ∷ [])) (s h (j h w))
Steps-kept Reprocess t a b c d e j s k = λ h w. k h (s h (j h w))
Steps-kept (Foreign name) t a b c d e j s k = (s.0, sym e ∙ s.1)

pub ruleset table_rules = (Fits-loose, Calls-loose, Fits-opened, Fits-table_text, rank-char_table, rank-start_table, rank-reset_table, loose-reset, loose-table, top_rank-reset, is_visible-space, small-is_section, named-is_section, part-is_section, any-refused)

pub ruleset part_rules = (Fits-loose, Calls-loose, Fits-opened, is_visible-space, small-is_cell, named-is_cell, rank-section, rank-row, rank-cell, rank-caption, rank-group, group-least, placed-is_table_piece, placed-ends_section, placed-ends_row, may_misplace-placed, part-is_cell, any-refused)

pub ruleset select_rules = (Fits-loose, Calls-loose, Fits-opened, loose-reset, top_rank-reset, rank-reset, outside-ends_select_in_table, any-refused)

-- one more token
pub allowance-next : (t u : ℕ) → u ≡ t + 1 → allowance u ≡ allowance t + (t + t + 36)
allowance-next t u e = rw e (grind arith)

Spends-same : (a b : State) → Grown 0 2 0 0 1 a b → Spends 2 a b
Spends-same a b g =
    let e : length b.ledger.fates ≡ length a.ledger.fates = omega (arith, g.0) in
    (rw e (omega (arith, g.1.0)), (omega (arith, e, g.1.1.1.1.0), omega (arith, g.1.1.1.1.1)))

pub Spends-one : (o : Outcome) (a b : State) → Grows o a b → Spends 2 a b
Spends-one Done a b g = (omega (arith, allowance-next (length a.ledger.fates) (length b.ledger.fates) g.0, g.1.0), (omega (arith, g.0, g.1.1.1.1.0), omega (arith, g.1.1.1.1.1)))
Spends-one Reprocess a b g = Spends-same a b g
Spends-one (Foreign name) a b g = Spends-same a b g

pub Spends-kept : (a b c : State) → Spends 0 a b → Grown 1 (length b.ledger.fates + 1) 0 1 0 b c → Spends 0 a c
Spends-kept a b c v g = (omega (arith, v.0, allowance-next (length b.ledger.fates) (length c.ledger.fates) g.0, g.1.0), (omega (arith, v.1.0, g.0, g.1.1.1.1.0), omega (arith, v.1.1, g.1.1.1.1.1)))

pub Spends-none : (a b : State) → Grown 0 0 0 0 0 a b → Spends 2 a b
Spends-none a b g = Spends-same a b (g.0, (omega (arith, g.1.0), (g.1.1.0, (g.1.1.1.0, (g.1.1.1.1.0, omega (arith, g.1.1.1.1.1))))))

pub Spends-dropped : (a b : State) → Grown 1 0 0 0 0 a b → Spends 2 a b
Spends-dropped a b g = (omega (arith, allowance-next (length a.ledger.fates) (length b.ledger.fates) g.0, g.1.0), (omega (arith, g.0, g.1.1.1.1.0), omega (arith, g.1.1.1.1.1)))

pub Spends-more : (a b : State) → Spends 0 a b → Spends 2 a b
Spends-more a b w = (omega (arith, w.0), (w.1.0, omega (arith, w.1.1)))

-- HOW MANY STEPS

-- a token that got its fate
one-fate : (f g p : ℕ) → g ≡ f + 1 → g * p ≡ f * p + p
one-fate f g p e = rw e (grind arith)

Counts-done : (t : TokenKind) (a b : State) → length b.ledger.fates ≡ length a.ledger.fates + 1 → Worked Done t a b → Counts 24 1 (compared t b) a b
Counts-done t a b e w = let p = one-fate (length a.ledger.fates) (length b.ledger.fates) (fee_of b) e in (w.0, (w.1.0, (omega (arith, e), omega (arith, p, w.1.1))))

Counts-same : (c m : ℕ) (a b : State) → c ≤ 24 → m ≤ 24 → length b.ledger.fates ≡ length a.ledger.fates → Works c 0 m a b → Counts 24 1 0 a b
Counts-same c m a b h k e w =
    let p : length b.ledger.fates * fee_of b ≡ length a.ledger.fates * fee_of b = ap (λ n. n * fee_of b) e in
    let q = mul-le c (reach_of b) 24 (reach_of b) h (omega arith) in
    (w.0, (w.1.0, (omega (arith, e), omega (arith, p, q, k, w.1.1))))

pub Counted-worked : (o : Outcome) (t : TokenKind) (a b : State) → Grows o a b → Worked o t a b → Counted 24 o t a b
Counted-worked Done t a b g w = Counts-done t a b g.0 w
Counted-worked Reprocess t a b g w = Counts-same 24 24 a b (omega arith) (omega arith) (omega (arith, g.0)) w
Counted-worked (Foreign name) t a b g w = tt

pub Counts-none : (a b : State) → Grown 0 0 0 0 0 a b → Works 0 0 0 a b → Counts 24 1 0 a b
Counts-none a b g w = Counts-same 0 0 a b (omega arith) (omega arith) (omega (arith, g.0)) w

-- a code point is kept
pub Counts-held : (t : TokenKind) (a b : State) → Grown 0 0 0 0 0 a b → Works 0 0 0 a b → Counts 24 1 (compared t b) a b
Counts-held t a b g w = let h = Counts-none a b g w in (h.0, (h.1.0, (h.1.1.0, omega (arith, h.1.1.1))))

pub Counts-dropped : (t : TokenKind) (a b : State) → Grown 1 0 0 0 0 a b → Works 0 0 0 a b → Counts 24 1 (compared t b) a b
Counts-dropped t a b g w = Counts-done t a b g.0 (w.0, (w.1.0, omega (arith, w.1.1)))

-- the rules of a mode in an entry, which has room for two calls more
pub Counted-entry : (o : Outcome) (t : TokenKind) (a b : State) → Counted 24 o t a b → Counted 26 o t a b
Counted-entry Done t a b v = (v.0, (v.1.0, (v.1.1.0, omega (arith, v.1.1.1))))
Counted-entry Reprocess t a b v = (v.0, (v.1.0, (v.1.1.0, omega (arith, v.1.1.1))))
Counted-entry (Foreign name) t a b v = tt

pub Counts-entry_none : (a b : State) → Grown 0 0 0 0 0 a b → Works 0 0 0 a b → Counts 26 1 0 a b
Counts-entry_none a b g w = let v = Counts-none a b g w in (v.0, (v.1.0, (v.1.1.0, omega (arith, v.1.1.1))))

pub Counts-entry_dropped : (t : TokenKind) (a b : State) → Grown 1 0 0 0 0 a b → Works 0 0 0 a b → Counts 26 1 (compared t b) a b
Counts-entry_dropped t a b g w = let v = Counts-dropped t a b g w in (v.0, (v.1.0, (v.1.1.0, omega (arith, v.1.1.1))))

-- those calls before them
counts-after : (more : ℕ) (a m b : State) → Grown 0 0 0 0 0 a m → Works 2 0 0 a m → Counts 24 1 more m b → Counts 26 1 more a b
counts-after more a m b g w v =
    let e : length m.ledger.fates ≡ length a.ledger.fates = omega (arith, g.0) in
    let p : length m.ledger.fates * fee_of b ≡ length a.ledger.fates * fee_of b = ap (λ n. n * fee_of b) e in
    (omega (arith, w.0, v.0), (omega (arith, w.1.0, v.1.0), (omega (arith, e, v.1.1.0), omega (arith, p, w.1.1, v.0, v.1.1.1))))

pub Counted-after : (o : Outcome) (t : TokenKind) (a m b : State) → Grown 0 0 0 0 0 a m → Works 2 0 0 a m → Counted 24 o t m b → Counted 26 o t a b
Counted-after Done t a m b g w v = counts-after (compared t b) a m b g w v
Counted-after Reprocess t a m b g w v = counts-after 0 a m b g w v
Counted-after (Foreign name) t a m b g w v = tt

-- fees one after another
fees-then : (f g h p q : ℕ) → f ≤ g → p ≤ q → h * q + g * p + f * q ≤ h * q + f * p + g * q
fees-then f g h p q e r = let k = mul-le (g - f) p (g - f) q (omega arith) r in let d : g ≡ f + (g - f) = omega (arith, e) in by (g - f) d k
  where
    by : (d : ℕ) → g ≡ f + d → d * p ≤ d * q → h * q + g * p + f * q ≤ h * q + f * p + g * q
    by d e k = rw e (let x : (f + d) * p ≡ f * p + d * p = grind arith in let y : (f + d) * q ≡ f * q + d * q = grind arith in omega (arith, x, y, k))

-- one kept code point more
pub Counts-kept : (a b c : State) → Counts 24 0 0 a b → Grown 1 (length b.ledger.fates + 1) 0 1 0 b c → Works 6 1 6 b c → Counts 24 0 0 a c
Counts-kept a b c v g w =
    let p = one-fate (length b.ledger.fates) (length c.ledger.fates) (fee_of c) g.0 in
    let q : fee_of b ≤ fee_of c = omega (arith, w.0, w.1.0) in
    let r = fees-then (length a.ledger.fates) (length b.ledger.fates) 0 (fee_of b) (fee_of c) v.1.1.0 q in
    (omega (arith, v.0, w.0), (omega (arith, v.1.0, w.1.0), (omega (arith, v.1.1.0, g.0), omega (arith, v.1.1.1, w.1.1, p, r))))

-- nothing but what was kept was taken out before
pub Counts-taken : (a b c : State) → Grown 0 0 0 0 0 a b → Works 0 0 0 a b → Counts 24 0 0 b c → Counts 24 0 0 a c
Counts-taken a b c g w v =
    let p : length b.ledger.fates * fee_of c ≡ length a.ledger.fates * fee_of c = ap (λ n. n * fee_of c) (let e : length b.ledger.fates ≡ length a.ledger.fates = omega (arith, g.0) in e) in
    (omega (arith, v.0, w.0), (omega (arith, v.1.0, w.1.0), (omega (arith, g.0, v.1.1.0), omega (arith, v.1.1.1, w.1.1, p))))

pub Counts-more : (a b : State) → Counts 24 0 0 a b → Counts 24 1 0 a b
Counts-more a b v = (v.0, (v.1.0, (v.1.1.0, omega (arith, v.1.1.1))))

-- one more entry
turn-then : (si sm sb fi fm fb ai am ab p q u w : ℕ) → fi ≤ fm → p ≤ q → ab < am → am ≤ ai → u ≤ w → sm + fi * p + am * u ≤ si + fm * p + ai * u → sb + fm * q ≤ sm + fb * q + w
    → sb + fi * q + ab * w ≤ si + fb * q + ai * w
turn-then si sm sb fi fm fb ai am ab p q u w f e a i v h k =
    let x = fees-then fi fm 0 p q f e in
    let y = fees-then am ai 0 u w i v in
    let z = mul-le (ab + 1) w am w (omega (arith, a)) (omega arith) in
    let z1 : (ab + 1) * w ≡ ab * w + w = grind arith in
    omega (arith, h, k, x, y, z, z1)

-- the last entry
turn-last : (si sm sb fi fm fb ai am wb more p q u w : ℕ) → fi ≤ fm → p ≤ q → am ≤ ai → u ≤ w → wb ≤ am + 15 → sm + fi * p + am * u ≤ si + fm * p + ai * u → sb + fm * q ≤ sm + fb * q + w + more
    → sb + fi * q + wb * w ≤ si + fb * q + (ai + 16) * w + more
turn-last si sm sb fi fm fb ai am wb more p q u w f e i v b h k =
    let x = fees-then fi fm 0 p q f e in
    let y = fees-then am ai 0 u w i v in
    let z = mul-le wb w (am + 15) w b (omega arith) in
    let z1 : (am + 15) * w ≡ am * w + 15 * w = grind arith in
    let z2 : (ai + 16) * w ≡ ai * w + 16 * w = grind arith in
    omega (arith, h, k, x, y, z, z1, z2)

pub ruleset table_text_rules = (Fits-loose, Fits-table_text, table_text-stack, table_text-original, loose-table, rank-table_text, Spends-none, Spends-more, Counts-held, Counts-more, any-refused)

-- what every mode drops
pub Fits-dropped : (a b : State) → Fits a → b.mode ≡ a.mode → b.original ≡ a.original → b.stack ≡ a.stack → b.ledger.kept ≡ [] → length b.tree.list ≤ length b.ledger.fates → Fits b
Fits-dropped a b f m o s q k = record { stack = subst (λ x. ModeFits x b.original b.stack) (sym m) (subst (λ x. ModeFits a.mode x b.stack) (sym o) (subst (λ x. ModeFits a.mode a.original x) (sym s) f.stack)); quiet = Quiet-none b.mode b.ledger.kept q; listed = k }

pub Fits-quiet : (s : State) → is_table_text s.mode ≡ false → Fits s → s.ledger.kept ≡ []
Fits-quiet s n f = Quiet-other s.mode s.ledger.kept n f.quiet

-- steps one after another
pub ruleset step_rules = (Fits-loose, Fits-opened, Fits-dropped, Fits-quiet, is-table_text, other-loose, top_rank-all, Spends-none, Spends-dropped, Counted-entry, Counts-entry_none, Counts-entry_dropped, any-refused)

-- no code point is the start tag of foreign content
pub char-foreign : (c : ℕ) (f : Option Root) → IfSome f (λ name. Char c ≡ root_of name) → f ≡ None
char-foreign c None h = refl
char-foreign c (Some root.Svg) h = absurd (let k : Char c ≡ root_of root.Svg = h in cc)
char-foreign c (Some root.Math) h = absurd (let k : Char c ≡ root_of root.Math = h in cc)

-- a run of code points pays as one token, at least
run-allowance : (t m : ℕ) → allowance t + (t + t + 36) ≤ allowance (t + (m + 1))
run-allowance t m = grind arith

pub Pays-run : (n : ℕ) (a b : State) → 0 < n → Grown n (length a.ledger.fates + 1) 0 1 0 a b → weight b.stack ≤ weight a.stack → top_rank b.mode ≤ top_rank a.mode → Pays a b
Pays-run zero a b k g w r = absurd (omega (arith, k))
Pays-run (suc m) a b k g w r = (
  (let q = run-allowance (length a.ledger.fates) m in rw g.0 (omega (arith, g.1.0, w, r, q))),
  (omega (arith, g.0, g.1.1.1.1.0), (omega (arith, g.1.1.1.1.1), omega (arith, g.1.1.1.1.1, w, r))),
)

-- so many fees
fees-many : (n f g p x y : ℕ) → 0 < n → g ≡ f + n → x + y ≤ p → f * p + x + n * y ≤ g * p
fees-many zero f g p x y k e h = absurd (omega (arith, k))
fees-many (suc m) f g p x y k e h =
    let z : (f + suc m) * p ≡ f * p + m * p + p = grind arith in
    let w : suc m * y ≡ m * y + y = grind arith in
    let v = mul-le m y m p (omega arith) (omega (arith, h)) in
    rw e (omega (arith, z, w, v, h))

-- text in a row in the body: the list is reopened, the text is put in, and the list is looked at for each other code point
pub works-run : (n k : ℕ) (a m x b : State) → k ≤ 2 * n → Works 0 1 0 a m → Works n 0 n m x → Works 0 0 k x b → Works (n + 6) 1 (3 * n + 6) a b
works-run n k a m x b l w v u =
    let p = mul-le n (reach_of x) n (reach_of b) (omega arith) u.0 in
    let z : (n + 6) * reach_of b ≡ n * reach_of b + 6 * reach_of b = grind arith in
    (omega (arith, w.0, v.0, u.0), (omega (arith, w.1.0, v.1.0, u.1.0), omega (arith, w.1.0, v.1.0, u.1.0, w.1.1, v.1.1, u.1.1, p, z, l)))

pub Toils-run : (n : ℕ) (a m b : State) → 0 < n → Grown n (length a.ledger.fates + 1) 0 1 0 a m → Grown 0 0 0 0 0 m b → Works (n + 6) 1 (3 * n + 6) a m → Works 0 0 n m b → weight b.stack ≤ weight a.stack → top_rank b.mode ≤ top_rank a.mode → Toils 0 a b
Toils-run n a m b k g h w v l r =
    let x = fees-many n (length a.ledger.fates) (length b.ledger.fates) (fee_of b) (toll_of b + 6 * reach_of b + 6) (reach_of b + 4) k (omega (arith, g.0, h.0)) (omega arith) in
    let y = mul-le (weight b.stack + top_rank b.mode) (turn_of b) (weight a.stack + top_rank a.mode) (turn_of b) (omega (arith, l, r)) (omega arith) in
    let z : (weight a.stack + top_rank a.mode + 16) * turn_of b ≡ (weight a.stack + top_rank a.mode) * turn_of b + 16 * turn_of b = grind arith in
    let u = mul-le (n + 6) (reach_of m) (n + 6) (reach_of b) (omega arith) v.0 in
    let p : (n + 6) * reach_of b + 3 * n + n ≡ 6 * reach_of b + n * (reach_of b + 4) = grind arith in
    (omega (arith, w.0, v.0), (omega (arith, w.1.0, v.1.0), omega (arith, w.0, w.1.0, w.1.1, v.0, v.1.0, v.1.1, x, y, z, u, p)))

-- the same, between the beginning of the call and the count of its entries
module _ (n : ℕ) (a s m b : State) (o : Mode) (d k : ℕ) (e : s ≡ record a { began = o; depth = d; nodes = k }) (i : 0 < n) (g : Grown n (length s.ledger.fates + 1) 0 1 0 s m)
    (l : weight m.stack ≤ weight s.stack) (j : m.mode ≡ s.mode) (q : b ≡ record m { tree = b.tree }) (h : Grown 0 0 0 0 0 m b) where
  lighter : weight b.stack ≤ weight s.stack
  lighter = subst (λ (z : State). weight z.stack ≤ weight s.stack) (sym q) l

  no_higher : top_rank b.mode ≤ top_rank s.mode
  no_higher = subst (λ (x : Mode). top_rank x ≤ top_rank s.mode) (sym (ap (λ (z : State). z.mode) q ∙ j)) (omega arith)

  pub Pays-called : Pays a b
  Pays-called = subst (λ (z : State). Pays z b) e (Pays-run n s b i (
    omega (arith, g.0, h.0),
    (omega (arith, g.1.0, h.1.0), (omega (arith, g.1.1.0, h.1.1.0), (omega (arith, g.1.1.1.0, h.1.1.1.0), (omega (arith, g.1.1.1.1.0, h.1.1.1.1.0), omega (arith, g.1.1.1.1.1, h.1.1.1.1.1))))),
  ) lighter no_higher)

  pub Toils-called : Works (n + 6) 1 (3 * n + 6) s m → Works 0 0 n m b → Toils 0 a b
  Toils-called w v = subst (λ (z : State). Toils 0 z b) e (Toils-run n s m b i g h w v lighter no_higher)

-- text alone costs less than text in the body
pub text-grown : (n f : ℕ) (s m : State) → Grown n 1 0 0 0 s m → Grown n (f + 1) 0 1 0 s m
text-grown n f s m g = (g.0, (omega (arith, g.1.0), (g.1.1.0, (g.1.1.1.0, (omega (arith, g.1.1.1.1.0), g.1.1.1.1.1)))))

pub text-works : (n : ℕ) (s m : State) → Works n 0 n s m → Works (n + 6) 1 (3 * n + 6) s m
text-works n s m w = (w.0, (w.1.0, (let z : (n + 6) * reach_of m ≡ n * reach_of m + 6 * reach_of m = grind arith in let h = w.1.1 in omega (arith, h, z))))

pub ruleset run_rules = (char-foreign, Pays-run, Toils-run, Fits-loose, Fits-opened, Fits-dropped, Fits-quiet, other-loose, other-runs, loose-runs, is-text, other-text, text-stack, any-refused, char-refused)

pub ruleset rules_rules = (Spends-one, Counted-worked, any-refused)

-- what is true of a token's entries so far
abbrev pub Entered : Symbol → State → State → Type 0
Entered y i m =
    (length m.tree.tree.labels + 2 * (weight m.stack + rank m.mode y) + allowance (length i.ledger.fates)
    ≤ length i.tree.tree.labels + 2 * (weight i.stack + rank i.mode y) + allowance (length m.ledger.fates))
    × (ClonesFew i m
    × ((implied_count m.tree.tree.labels + (weight m.stack + rank m.mode y) ≤ implied_count i.tree.tree.labels + (weight i.stack + rank i.mode y))
    × ((reach_of i ≤ reach_of m)
    × ((toll_of i ≤ toll_of m)
    × ((m.tree.steps + length i.ledger.fates * fee_of m + (weight m.stack + rank m.mode y) * turn_of m
    ≤ i.tree.steps + length m.ledger.fates * fee_of m + (weight i.stack + rank i.mode y) * turn_of m)
    × ((length i.ledger.fates ≤ length m.ledger.fates)
    × (weight m.stack + rank m.mode y ≤ weight i.stack + rank i.mode y)))))))

-- an entry is counted
entered-one : (y : Symbol) (i m n : State) → n ≡ record m { tree = n.tree } → Grown 0 0 0 0 0 m n → Works 0 0 1 m n → Entered y i m
    → (length n.tree.tree.labels + 2 * (weight n.stack + rank n.mode y) + allowance (length i.ledger.fates)
    ≤ length i.tree.tree.labels + 2 * (weight i.stack + rank i.mode y) + allowance (length n.ledger.fates))
    × (ClonesFew i n × (implied_count n.tree.tree.labels + (weight n.stack + rank n.mode y) ≤ implied_count i.tree.tree.labels + (weight i.stack + rank i.mode y)))
entered-one y i m n e g w h =
    let s : weight n.stack ≡ weight m.stack = ap (λ (x : State). weight x.stack) e in
    let r : rank n.mode y ≡ rank m.mode y = ap (λ (x : State). rank x.mode y) e in
    let f : length n.ledger.fates ≡ length m.ledger.fates = ap (λ (x : State). length x.ledger.fates) e in
    let l : allowance (length n.ledger.fates) ≡ allowance (length m.ledger.fates) = ap allowance f in
    (omega (arith, h.0, s, r, l, g.1.0), (omega (arith, h.1.0, f, g.1.1.1.1.0), omega (arith, h.1.1.0, s, r, g.1.1.1.1.1)))

pub entered-next : (o : Outcome) (y : Symbol) (t : TokenKind) (i m n b : State) → o ≡ Reprocess → n ≡ record m { tree = n.tree } → Grown 0 0 0 0 0 m n → Works 0 0 1 m n → Spends 2 n b → Counted 26 o t n b → Falls o y n b
    → Entered y i m → Entered y i b
entered-next o y t i m n b q e g w p c f h =
    let k = entered-one y i m n e g w h in
    let d : Counts 26 1 0 n b = subst (λ x. Counted 26 x t n b) q c in
    let v : weight b.stack + rank b.mode y < weight n.stack + rank n.mode y = subst (λ x. Falls x y n b) q f in
    let s : weight n.stack ≡ weight m.stack = ap (λ (x : State). weight x.stack) e in
    let r : rank n.mode y ≡ rank m.mode y = ap (λ (x : State). rank x.mode y) e in
    let fates : length n.ledger.fates ≡ length m.ledger.fates = ap (λ (x : State). length x.ledger.fates) e in
    let product : length n.ledger.fates * fee_of b ≡ length m.ledger.fates * fee_of b = ap (λ z. z * fee_of b) fates in
    let less : weight b.stack + rank b.mode y < weight m.stack + rank m.mode y = omega (arith, v, s, r) in
    let fee : fee_of m ≤ fee_of b = omega (arith, w.0, w.1.0, d.0, d.1.0) in
    let turn : turn_of m ≤ turn_of b = omega (arith, w.0, d.0) in
    let all = turn-then i.tree.steps m.tree.steps b.tree.steps (length i.ledger.fates) (length m.ledger.fates) (length b.ledger.fates) (weight i.stack + rank i.mode y) (weight m.stack + rank m.mode y) (weight b.stack + rank b.mode y)
    (fee_of m) (fee_of b) (turn_of m) (turn_of b) h.1.1.1.1.1.1.0 fee less h.1.1.1.1.1.1.1 turn h.1.1.1.1.1.0 (omega (arith, d.1.1.1, w.1.1, product)) in (
      omega (arith, k.0, p.0, v),
      (
        omega (arith, k.1.0, p.1.0),
        (
          omega (arith, k.1.1, p.1.1, v),
          (omega (arith, h.1.1.1.0, w.0, d.0), (omega (arith, h.1.1.1.1.0, w.1.0, d.1.0), (all, (omega (arith, h.1.1.1.1.1.1.0, fates, d.1.1.0), omega (arith, h.1.1.1.1.1.1.1, less))))),
        ),
      ),
    )

-- the token is done with
pub toils-done : (o : Outcome) (y : Symbol) (t : TokenKind) (i m n b d : State) → o ≡ Done → n ≡ record m { tree = n.tree } → Works 0 0 1 m n → Counted 26 o t n b → Falls o y n b
    → d ≡ record b { mode = d.mode } → top_rank d.mode ≤ top_rank b.mode → Entered y i m → Toils (compared t d) i d
toils-done o y t i m n b d q e w c f z l h =
    subst (λ (x : State). Toils (compared t x) i x) (sym z)
    (omega (arith, h.1.1.1.0, w.0, k.0), (omega (arith, h.1.1.1.1.0, w.1.0, k.1.0), omega (arith, all, a)))
  where
    k : Counts 26 1 (compared t b) n b
    k = subst (λ x. Counted 26 x t n b) q c

    v : weight b.stack + top_rank b.mode ≤ weight n.stack + 15
    v = subst (λ x. Falls x y n b) q f

    s : weight n.stack ≡ weight m.stack
    s = ap (λ (x : State). weight x.stack) e

    fates : length n.ledger.fates ≡ length m.ledger.fates
    fates = ap (λ (x : State). length x.ledger.fates) e

    product : length n.ledger.fates * fee_of b ≡ length m.ledger.fates * fee_of b
    product = ap (λ x. x * fee_of b) fates

    fee : fee_of m ≤ fee_of b
    fee = omega (arith, w.0, w.1.0, k.0, k.1.0)

    turn : turn_of m ≤ turn_of b
    turn = omega (arith, w.0, k.0)

    all : b.tree.steps + length i.ledger.fates * fee_of b + (weight b.stack + top_rank d.mode) * turn_of b
        ≤ i.tree.steps + length b.ledger.fates * fee_of b + (weight i.stack + rank i.mode y + 16) * turn_of b + compared t b
    all = turn-last i.tree.steps m.tree.steps b.tree.steps (length i.ledger.fates) (length m.ledger.fates) (length b.ledger.fates) (weight i.stack + rank i.mode y) (weight m.stack + rank m.mode y)
        (weight b.stack + top_rank d.mode) (compared t b) (fee_of m) (fee_of b) (turn_of m) (turn_of b) h.1.1.1.1.1.1.0 fee h.1.1.1.1.1.1.1 turn (omega (arith, v, s, l)) h.1.1.1.1.1.0
        (omega (arith, k.1.1.1, w.1.1, product))

    a : (weight i.stack + rank i.mode y + 16) * turn_of b ≤ (weight i.stack + top_rank i.mode + 16) * turn_of b
    a = mul-le (weight i.stack + rank i.mode y + 16) (turn_of b) (weight i.stack + top_rank i.mode + 16) (turn_of b) (let r = rank-top i.mode y in omega (arith, r)) (omega arith)

pub ruleset take_rules = (rank-top, any-refused)

pub ruleset foster_rules = (Fits-fostering, Calls-fostering, Falls-fostering, Grows-fostering, Steps-kept, any-refused)

-- why a budget was told
pub ruleset told_rules = (any-refused)

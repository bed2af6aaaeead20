-- What a run of a plan says, by the plan.
use Rattle.std.proofs.Common.{◌≡◌, ◌&&◌, Bool, true, false, [], ◌∷◌, if◌then◌else◌, refl}
use Rattle.std.proofs.lemmas.Bool.{false≢true}
use Rattle.html_tokens.specs.declared.token.TokenKind.{TokenKind}
use Rattle.html_tokens.specs.declared.token.TokenKind.TheVariants.{Char}
use Rattle.html_ledger.specs.Symbols.{symbol_of}
use Rattle.html_tree.specs.Listing.{IsReopened}
use Rattle.html_construction.specs.Calls.{HasEnded, IsLinkClosed}
use Rattle.html_construction.specs.Plans.{Adopt, Ask, By, CloseLink, Do, Each, Ending, Foster, IsMoved, Over, Plan, Reconstruct, Rules, Runs, Settle, Stop, adopts, asks, closes_link, does, does_each, ends_each, fosters, goes_by, reconstructs, settles, stops}
use Rattle.html_construction.specs.States.{State}
use Rattle.html_construction.specs.Words.{Becomes, after, answer, with_kept}

abbrev pub Followed : Rules → Plan → TokenKind → State → Ending → State → Type 0
Followed r (Do w p) t a e z = (b : State) × Becomes (after w t a) b × Runs r p t b e z
Followed r (Ask q p n) t a e z = (b : State) × Becomes a b × Runs r (if answer q t a then p else n) t b e z
Followed r (Reconstruct p) t a e z = (b : State) × IsMoved a b × IsReopened a.fostering a.tree b.tree × Runs r p t b e z
Followed r (Adopt g p) t a e z = (b : State) × IsMoved a b × HasEnded g a.fostering a.tree b.tree × Runs r p t b e z
Followed r (CloseLink p) t a e z = (b : State) × IsMoved a b × IsLinkClosed a.fostering a.tree b.tree × Runs r p t b e z
Followed r (Foster p) t a e z = (b : State) × (c : State) × Becomes (record a { fostering = true }) b × Runs r p t b e c × Becomes (record c { fostering = false }) z
Followed r (Settle q p) t a e z = (b : State) × Becomes (with_kept [] a) b × Runs r (Each a.ledger.kept q p) t b e z
Followed r (Each [] q p) t a e z = Runs r p t a e z
Followed r (Each (c ∷ cs) q p) t a e z = (b : State) × Runs r q (Char c) a Over b × Runs r (Each cs q p) t b e z
Followed r (Stop f) t a e z = (f ≡ e) × Becomes a z
Followed r (By m) t a e z = Runs r (r m (symbol_of t)) t a e z

pub followed : (r : Rules) (p : Plan) (t : TokenKind) (a : State) (e : Ending) (z : State) → Runs r p t a e z → Followed r p t a e z
followed r _ _ _ _ _ (does w p t a b e z i k) = (b, i, k)
followed r _ _ _ _ _ (asks q p n t a b e z i k) = (b, i, k)
followed r _ _ _ _ _ (reconstructs p t a b e z i j k) = (b, i, j, k)
followed r _ _ _ _ _ (adopts g p t a b e z i j k) = (b, i, j, k)
followed r _ _ _ _ _ (closes_link p t a b e z i j k) = (b, i, j, k)
followed r _ _ _ _ _ (fosters p t a b c e z i k j) = (b, c, i, k, j)
followed r _ _ _ _ _ (settles q p t a b e z i k) = (b, i, k)
followed r _ _ _ _ _ (ends_each q p t a e z k) = k
followed r _ _ _ _ _ (does_each c cs q p t a b e z i k) = (b, i, k)
followed r _ _ _ _ _ (stops t a e z i) = (refl, i)
followed r _ _ _ _ _ (goes_by m t a e z k) = k

-- both hold
pub halves : (a b : Bool) → (a && b) ≡ true → (a ≡ true) × (b ≡ true)
halves true b e = (refl, e)
halves false b e = absurd (false≢true e)

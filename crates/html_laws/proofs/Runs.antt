-- Two runs of one plan, from states that are alike, end alike.
use Rattle.std.proofs.Common.{◌≡◌, true, false, [], ◌∷◌, if◌then◌else◌, sym, ◌∙◌, ap, subst}
use Rattle.html_tokens.specs.declared.token.TokenKind.{TokenKind}
use Rattle.html_tokens.specs.declared.token.TokenKind.TheVariants.{Char}
use Rattle.html_ledger.specs.Symbols.{symbol_of}
use Rattle.html_construction.specs.Plans.{Adopt, Ask, By, CloseLink, Do, Each, Ending, Foster, Over, Plan, Reconstruct, Rules, Runs, Settle, Stop, adopts, asks, closes_link, does, does_each, ends_each, fosters, goes_by, reconstructs, settles, stops}
use Rattle.html_construction.specs.States.{State}
use Rattle.html_construction.specs.Words.{Becomes, after, answer, with_kept}
use Rattle.html_construction.proofs.Planned.{followed}
use Rattle.html_laws.specs.Outcomes.{IsOnce, IsOneEnd, PlansHaveOneEnd}
use Rattle.html_laws.specs.Likeness.{core}
use Rattle.html_laws.proofs.Moves.{closed-once, closed-one, ended-once, ended-one, moved-one, opened-one, reopened-once, reopened-one}
use Rattle.html_laws.proofs.Words.{answer-one, becomes-core, word-once, word-one}

-- NO NODE STANDS TWICE ON THE STACK

pub becomes-once : (m b : State) → Becomes m b → IsOnce m.tree → IsOnce b.tree
becomes-once m b k o = subst (λ (v : State). IsOnce v.tree) (sym (becomes-core m b k)) o

module _ (r : Rules) where
  pub runs-once : (p : Plan) (t : TokenKind) (a : State) (e : Ending) (z : State) → IsOnce a.tree → Runs r p t a e z → IsOnce z.tree
  runs-once _ _ _ _ _ o (does w p t a b e z i k) = runs-once p t b e z (becomes-once (after w t a) b i (word-once w t a o)) k
  runs-once _ _ _ _ _ o (asks q p n t a b e z i k) = runs-once (if answer q t a then p else n) t b e z (becomes-once a b i o) k
  runs-once _ _ _ _ _ o (reconstructs p t a b e z i j k) = runs-once p t b e z (reopened-once a.fostering a.tree b.tree j o) k
  runs-once _ _ _ _ _ o (adopts g p t a b e z i j k) = runs-once p t b e z (ended-once g a.fostering a.tree b.tree j o) k
  runs-once _ _ _ _ _ o (closes_link p t a b e z i j k) = runs-once p t b e z (closed-once a.fostering a.tree b.tree j o) k
  runs-once _ _ _ _ _ o (fosters p t a b c e z i k j) = becomes-once (record c { fostering = false }) z j (runs-once p t b e c (becomes-once (record a { fostering = true }) b i o) k)
  runs-once _ _ _ _ _ o (settles q p t a b e z i k) = runs-once (Each a.ledger.kept q p) t b e z (becomes-once (with_kept [] a) b i o) k
  runs-once _ _ _ _ _ o (ends_each q p t a e z k) = runs-once p t a e z o k
  runs-once _ _ _ _ _ o (does_each c cs q p t a b e z i k) = runs-once (Each cs q p) t b e z (runs-once q (Char c) a Over b o i) k
  runs-once _ _ _ _ _ o (stops t a e z i) = becomes-once a z i o
  runs-once _ _ _ _ _ o (goes_by m t a e z k) = runs-once (r m (symbol_of t)) t a e z o k

-- TWO RUNS

pub becomes-one : (m m' b b' : State) → core m ≡ core m' → Becomes m b → Becomes m' b' → core b ≡ core b'
becomes-one m m' b b' l i i' = becomes-core m b i ∙ l ∙ sym (becomes-core m' b' i')

fostering-one : (a b : State) → core a ≡ core b → a.fostering ≡ b.fostering
fostering-one a b l = ap (λ (v : State). v.fostering) l

module _ (r : Rules) where
  pub runs-one : (p : Plan) (t : TokenKind) (a : State) (e : Ending) (z : State) → IsOnce a.tree → Runs r p t a e z
      → (a' : State) (e' : Ending) (z' : State) → core a ≡ core a' → Runs r p t a' e' z' → IsOneEnd e e' z z'
  runs-one _ _ _ _ _ o (does w p t a b e z i k) a' e' z' l k' =
      let f = followed r (Do w p) t a' e' z' k' in
      runs-one p t b e z (becomes-once (after w t a) b i (word-once w t a o)) k f.0 e' z' (becomes-one (after w t a) (after w t a') b f.0 (word-one w t a a' l) i f.1) f.2
  runs-one _ _ _ _ _ o (asks q p n t a b e z i k) a' e' z' l k' =
      let f = followed r (Ask q p n) t a' e' z' k' in
      runs-one (if answer q t a then p else n) t b e z (becomes-once a b i o) k f.0 e' z' (becomes-one a a' b f.0 l i f.1)
      (subst (λ x. Runs r (if x then p else n) t f.0 e' z') (sym (answer-one q t a a' l)) f.2)
  runs-one _ _ _ _ _ o (reconstructs p t a b e z i j k) a' e' z' l k' =
      let f = followed r (Reconstruct p) t a' e' z' k' in
      runs-one p t b e z (reopened-once a.fostering a.tree b.tree j o) k f.0 e' z'
      (moved-one a a' b f.0 l i f.1 (reopened-one a.fostering a'.fostering a.tree a'.tree b.tree f.0.tree (fostering-one a a' l) (opened-one a a' l) j f.2)) f.3
  runs-one _ _ _ _ _ o (adopts g p t a b e z i j k) a' e' z' l k' =
      let f = followed r (Adopt g p) t a' e' z' k' in
      runs-one p t b e z (ended-once g a.fostering a.tree b.tree j o) k f.0 e' z'
      (moved-one a a' b f.0 l i f.1 (ended-one g a.fostering a'.fostering a.tree a'.tree b.tree f.0.tree o.once (fostering-one a a' l) (opened-one a a' l) j f.2)) f.3
  runs-one _ _ _ _ _ o (closes_link p t a b e z i j k) a' e' z' l k' =
      let f = followed r (CloseLink p) t a' e' z' k' in
      runs-one p t b e z (closed-once a.fostering a.tree b.tree j o) k f.0 e' z'
      (moved-one a a' b f.0 l i f.1 (closed-one a.fostering a'.fostering a.tree a'.tree b.tree f.0.tree o.once (fostering-one a a' l) (opened-one a a' l) j f.2)) f.3
  runs-one _ _ _ _ _ o (fosters p t a b c e z i k j) a' e' z' l k' =
      let f = followed r (Foster p) t a' e' z' k' in
      let n = runs-one p t b e c (becomes-once (record a { fostering = true }) b i o) k f.0 e' f.1
      (becomes-one (record a { fostering = true }) (record a' { fostering = true }) b f.0 (ap (λ (v : State). record v { fostering = true }) l) i f.2) f.3 in
      record {
        ending = n.ending;
        state = becomes-one (record c { fostering = false }) (record (f.1) { fostering = false }) z z' (ap (λ (v : State). record v { fostering = false }) n.state) j f.4;
      }
  runs-one _ _ _ _ _ o (settles q p t a b e z i k) a' e' z' l k' =
      let f = followed r (Settle q p) t a' e' z' k' in
      runs-one (Each a.ledger.kept q p) t b e z (becomes-once (with_kept [] a) b i o) k f.0 e' z'
      (becomes-one (with_kept [] a) (with_kept [] a') b f.0 (ap (with_kept []) l) i f.1)
      (subst (λ x. Runs r (Each x q p) t f.0 e' z') (sym (ap (λ (v : State). v.ledger.kept) l)) f.2)
  runs-one _ _ _ _ _ o (ends_each q p t a e z k) a' e' z' l k' = runs-one p t a e z o k a' e' z' l (followed r (Each [] q p) t a' e' z' k')
  runs-one _ _ _ _ _ o (does_each c cs q p t a b e z i k) a' e' z' l k' =
      let f = followed r (Each (c ∷ cs) q p) t a' e' z' k' in
      runs-one (Each cs q p) t b e z (runs-once r q (Char c) a Over b o i) k f.0 e' z' (runs-one q (Char c) a Over b o i a' Over f.0 l f.1).state f.2
  runs-one _ _ _ _ _ o (stops t a e z i) a' e' z' l k' =
      let f = followed r (Stop e) t a' e' z' k' in
      record { ending = f.0; state = becomes-one a a' z z' l i f.1 }
  runs-one _ _ _ _ _ o (goes_by m t a e z k) a' e' z' l k' = runs-one (r m (symbol_of t)) t a e z o k a' e' z' l (followed r (By m) t a' e' z' k')

pub plans-one-end : PlansHaveOneEnd
plans-one-end r p t a z a' z' e e' o l k k' = runs-one r p t a e z o k a' e' z' l k'

-- Runs of plans where a frameset was made.
use Rattle.std.proofs.Common.{◌≡◌, ◌≤◌, ℕ, zero, suc, Bool, true, false, not, ◌&&◌, ◌||◌, if◌then◌else◌, [], ◌∷◌, unwrap_or, inl, inr, refl, sym, ◌∙◌, ap, subst, arith}
use Rattle.std.specs.List.{list_all}
use Rattle.std.proofs.lemmas.Bool.{false≢true}
use Rattle.html_names.specs.declared.tag.Tag.TheVariants as tag
use Rattle.html_names.specs.Tags.{is_same}
use Rattle.html_tokens.specs.declared.token.TokenKind.{TokenKind}
use Rattle.html_ledger.specs.declared.symbol.Symbol.{Symbol}
use Rattle.html_ledger.specs.Symbols.{symbol_of}
use Rattle.html_tree.specs.Listing.{IsReopened}
use Rattle.html_tree.specs.States.{State as Tree}
use Rattle.html_construction.specs.declared.mode.Mode.{Mode}
use Rattle.html_construction.specs.declared.mode.Mode.TheVariants as mode
use Rattle.html_construction.specs.Modes.{is_of_frames}
use Rattle.html_construction.specs.Plans.{Again, Ask, By, Do, Ending, IsMoved, Over, Plan, Reconstruct, Refused, Rules, Runs, Stop, adopts, asks, closes_link, does, does_each, ends_each, fosters, goes_by, reconstructs, settles, stops}
use Rattle.html_construction.specs.States.{State}
use Rattle.html_construction.specs.Words.{Enter, Leave, Reset, Switch, Word, after, answer}
use Rattle.html_modes.specs.Guards.{is_droppable}
use Rattle.html_laws.proofs.Chains.{both, either, not-true}
use Rattle.html_laws.proofs.Faces.{kept-tag, longer, tallied}
use Rattle.html_laws.proofs.Grounds.{Ground, Step, bodies, grows, is_inner, spares, step-bodies, step-ground, word-step}
use Rattle.html_laws.proofs.Inners.{ground-core}
use Rattle.html_laws.proofs.Insides.{Anything, on_body}
use Rattle.html_laws.proofs.Judging.{is_text_mode, waits}
use Rattle.html_laws.specs.Likeness.{core}
use Rattle.html_laws.proofs.Words.{becomes-core}
use Rattle.html_laws.proofs.Moved.{IsMade}
use Rattle.html_laws.proofs.Moving.{opened, reopening-made}
use Rattle.html_laws.proofs.Outers.{outer_mode, outer_original}
use Rattle.html_laws.proofs.Phases.{IsFramed}

-- the words that leave the mode to the plan
abbrev pub may_frame : Mode → Word → Bool
may_frame m (Switch n) = not (waits n)
may_frame m (Enter n) = waits n
may_frame m Leave = waits m
may_frame m Reset = false
may_frame m w = true

abbrev pub is_over : Ending → Bool
is_over Over = true
is_over Again = false
is_over (Refused s) = false

-- a mode of frames, or text in one; and the token is done with, or is one that no such mode ignores
abbrev pub may_frame_end : Symbol → Mode → Mode → Ending → Bool
may_frame_end y m o e = (is_of_frames m || (is_text_mode m && is_of_frames o)) && (is_over e || not (is_droppable y))

module _ (r : Rules) where
  abbrev pub framed : ℕ → Symbol → Mode → Mode → Plan → Bool
  framed n y m o (Do w p) = (grows y w && spares y w) && (may_frame m w && framed n y (outer_mode m o w) (outer_original m o w) p)
  framed n y m o (Ask q p d) = framed n y m o p && framed n y m o d
  framed n y m o (Reconstruct p) = framed n y m o p
  framed n y m o (Stop e) = may_frame_end y m o e
  framed (suc n) y m o (By k) = framed n y m o (r k y)
  framed n y m o _ = false

-- at most one body, in these modes
pub record IsFramedAt (m o : Mode) (a : State) : Type 0 where
  pub ground : Ground a
  pub few : bodies a ≤ 1
  pub framed : a.ledger.history.frameset ≡ true
  pub mode_is : a.mode ≡ m
  pub original_is : waits m ≡ true → a.original ≡ o

framed-at-core : (m o : Mode) (a b : State) → core b ≡ core a → IsFramedAt m o a → IsFramedAt m o b
framed-at-core m o a b e k = record {
  ground = ground-core a b e k.ground;
  few = (let p = ap (λ (v : State). bodies v) e in let n = k.few in omega (arith, p, n));
  framed = ap (λ (v : State). v.ledger.history.frameset) e ∙ k.framed;
  mode_is = ap (λ (v : State). v.mode) e ∙ k.mode_is;
  original_is = λ w. ap (λ (v : State). v.original) e ∙ k.original_is w;
}

frame-word : (m o : Mode) (w : Word) (t : TokenKind) (a : State) → (grows (symbol_of t) w && spares (symbol_of t) w) ≡ true → may_frame m w ≡ true → IsFramedAt m o a → IsFramedAt (outer_mode m o w) (outer_original m o w) (after w t a)
frame-word m o w t a h f k = by w (stepped w h) f
  where
    stepped : (w : Word) → (grows (symbol_of t) w && spares (symbol_of t) w) ≡ true → Step true a (after w t a)
    stepped w h = (let c = both (grows (symbol_of t) w) (spares (symbol_of t) w) h in subst (λ q. Step q a (after w t a)) c.1 (word-step t a w c.0))

    at : (n p : Mode) (b : State) → Step true a b → b.mode ≡ n → (waits n ≡ true → b.original ≡ p) → IsFramedAt n p b
    at n p b s e d = record {
      ground = step-ground true a b s k.ground;
      few = (let p = step-bodies a b s in let q = k.few in omega (arith, p, q));
      framed = s.framed k.framed;
      mode_is = e;
      original_is = d;
    }

    by : (w : Word) → Step true a (after w t a) → may_frame m w ≡ true → IsFramedAt (outer_mode m o w) (outer_original m o w) (after w t a)
    by (Switch n) s f = at n o (after (Switch n) t a) s refl (λ x. absurd (false≢true (sym (not-true (waits n) f) ∙ x)))
    by (Enter n) s f = at n m (after (Enter n) t a) s refl (λ x. k.mode_is)
    by Leave s f = at o o (after Leave t a) s (k.original_is f) (λ x. k.original_is f)
    by Reset s f = absurd (false≢true f)
    by w s f = at m o (after w t a) s k.mode_is k.original_is

frame-moved : (m o : Mode) (a b : State) → IsMoved a b → IsReopened a.fostering a.tree b.tree → IsFramedAt m o a → IsFramedAt m o b
frame-moved m o a b i x k =
    let d : IsMade Anything tag.Body (tag.Html ∷ []) (opened a.tree) (opened b.tree) = reopening-made Anything tag.Body (tag.Html ∷ []) on_body a.fostering a.tree b.tree k.ground.held x in
    record {
      ground = record {
        held = d.held;
        formed = λ y e. (let c = k.ground.formed y (sym (ap (λ (v : Tree). v.form) i.pointers) ∙ e) in ((let l = longer a.tree.tree b.tree.tree d.added d.adds in let u = c.0 in omega (arith, l, u)), kept-tag a.tree.tree b.tree.tree d.added y d.adds c.0 ∙ c.1));
        templates = ap (λ (v : State). list_all is_inner v.templates) i.rest ∙ k.ground.templates;
        context = ap (λ (v : State). is_same (unwrap_or v.context tag.Html) tag.Html) i.rest ∙ k.ground.context;
        refused = ap (λ (v : State). v.parses_foreign) i.rest ∙ k.ground.refused;
      };
      few = (let t = tallied tag.Body a.tree.tree b.tree.tree d.added d.adds in let n = d.none in let f = k.few in omega (arith, t, n, f));
      framed = ap (λ (v : State). v.ledger.history.frameset) i.rest ∙ k.framed;
      mode_is = ap (λ (v : State). v.mode) i.rest ∙ k.mode_is;
      original_is = λ w. ap (λ (v : State). v.original) i.rest ∙ k.original_is w;
    }

-- where an entry ends
pub record IsFramedEnd (y : Symbol) (e : Ending) (z : State) : Type 0 where
  pub state : IsFramed z
  pub done : (is_over e || not (is_droppable y)) ≡ true

frame-end : (y : Symbol) (m o : Mode) (e : Ending) (a : State) → may_frame_end y m o e ≡ true → IsFramedAt m o a → IsFramedEnd y e a
frame-end y m o e a h k =
    let c = both (is_of_frames m || (is_text_mode m && is_of_frames o)) (is_over e || not (is_droppable y)) h in
    record {
      state = record {
        ground = k.ground;
        few = k.few;
        framed = k.framed;
        mode_is = elim (either (is_of_frames m) (is_text_mode m && is_of_frames o) c.0) [
          | inl u ↦ inl (ap is_of_frames k.mode_is ∙ u)
          | inr u ↦ (let d = both (is_text_mode m) (is_of_frames o) u in inr (k.mode_is ∙ text-mode m d.0, ap is_of_frames (k.original_is (ap waits (text-mode m d.0))) ∙ d.1))
        ];
      };
      done = c.1;
    }
  where
    text-mode : (m : Mode) → is_text_mode m ≡ true → m ≡ mode.Text
    text-mode mode.Text h = refl
    text-mode m h = absurd (false≢true h)

module _ (r : Rules) where
  pub runs-framed : (n : ℕ) (m o : Mode) (p : Plan) (t : TokenKind) (a : State) (e : Ending) (z : State) → framed r n (symbol_of t) m o p ≡ true → IsFramedAt m o a → Runs r p t a e z → IsFramedEnd (symbol_of t) e z
  runs-framed n m o _ _ _ _ _ h k (does w p t a b e z i j) =
      let c = both (grows (symbol_of t) w && spares (symbol_of t) w) (may_frame m w && framed r n (symbol_of t) (outer_mode m o w) (outer_original m o w) p) h in
      let d = both (may_frame m w) (framed r n (symbol_of t) (outer_mode m o w) (outer_original m o w) p) c.1 in
      runs-framed n (outer_mode m o w) (outer_original m o w) p t b e z d.1 (framed-at-core (outer_mode m o w) (outer_original m o w) (after w t a) b (becomes-core (after w t a) b i) (frame-word m o w t a c.0 d.0 k)) j
  runs-framed n m o _ _ _ _ _ h k (asks q p d t a b e z i j) = runs-framed n m o (if answer q t a then p else d) t b e z (chosen (answer q t a)) (framed-at-core m o a b (becomes-core a b i) k) j
    where
      chosen : (x : Bool) → framed r n (symbol_of t) m o (if x then p else d) ≡ true
      chosen true = (both (framed r n (symbol_of t) m o p) (framed r n (symbol_of t) m o d) h).0
      chosen false = (both (framed r n (symbol_of t) m o p) (framed r n (symbol_of t) m o d) h).1
  runs-framed n m o _ _ _ _ _ h k (reconstructs p t a b e z i l j) = runs-framed n m o p t b e z h (frame-moved m o a b i l k) j
  runs-framed n m o _ _ _ _ _ h k (stops t a e z i) = frame-end (symbol_of t) m o e z h (framed-at-core m o a z (becomes-core a z i) k)
  runs-framed (suc n) m o _ _ _ _ _ h k (goes_by u t a e z j) = runs-framed n m o (r u (symbol_of t)) t a e z h k j
  runs-framed zero m o _ _ _ _ _ h k (goes_by u t a e z j) = absurd (false≢true h)
  runs-framed n m o _ _ _ _ _ h k (adopts g p t a b e z i l j) = absurd (false≢true h)
  runs-framed n m o _ _ _ _ _ h k (closes_link p t a b e z i l j) = absurd (false≢true h)
  runs-framed n m o _ _ _ _ _ h k (fosters p t a b c e z i j l) = absurd (false≢true h)
  runs-framed n m o _ _ _ _ _ h k (settles q p t a b e z i j) = absurd (false≢true h)
  runs-framed n m o _ _ _ _ _ h k (ends_each q p t a e z j) = absurd (false≢true h)
  runs-framed n m o _ _ _ _ _ h k (does_each c cs q p t a b e z i j) = absurd (false≢true h)

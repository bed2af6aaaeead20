-- A run of a plan where the body is open, or a template before it.
use Rattle.std.proofs.Common.{◌≡◌, ℕ, Bool, true, false, ◌&&◌, if◌then◌else◌, List, unwrap_or, refl, sym, ◌∙◌, ap, subst, arith}
use Rattle.std.specs.List.{list_all}
use Rattle.std.proofs.lemmas.Bool.{false≢true}
use Rattle.html_names.specs.declared.tag.Tag.TheVariants as tag
use Rattle.html_names.specs.Tags.{is_same}
use Rattle.html_tokens.specs.declared.token.TokenKind.TheVariants as kind
use Rattle.html_ledger.specs.declared.symbol.Symbol.TheVariants as symbol
use Rattle.html_arena.specs.Tree.{Tree as Nodes}
use Rattle.html_tree.specs.States.{State as Tree}
use Rattle.html_construction.specs.declared.mode.Mode.{Mode}
use Rattle.html_construction.specs.declared.mode.Mode.TheVariants as mode
use Rattle.html_construction.specs.Plans.{Ending, IsMoved, Plan, Rules, Runs, adopts, asks, closes_link, does, does_each, ends_each, fosters, goes_by, reconstructs, settles, stops}
use Rattle.html_construction.specs.States.{State}
use Rattle.html_construction.specs.Words.{Becomes, Drop, FramesetOff, InsertCharacter, Word, after, answer, with_kept}
use Rattle.html_laws.specs.Likeness.{core, uncounted}
use Rattle.html_laws.proofs.Words.{becomes-core}
use Rattle.html_laws.proofs.Chains.{both}
use Rattle.html_laws.proofs.Faces.{kept-tag, longer, tallied}
use Rattle.html_laws.proofs.Grounds.{Ground, is_inner}
use Rattle.html_laws.proofs.Judging.{Bare, Found, Know, Made, Nothing, Of, On, Plain, Seat, Top, View, is_in_body, is_steady_word, lasting, plainly, steady}
use Rattle.html_laws.proofs.Models.{Knows, Models, models-know, word-models}
use Rattle.html_laws.proofs.Moved.{IsMade}
use Rattle.html_laws.proofs.Moving.{opened, reopening-made}

-- THE SAME BUT FOR WHAT IS COUNTED

-- of nodes what is counted is of no account
knows-uncounted : (k : Know) (s : List ℕ) (t : Nodes) (h : Bool) → Knows k s t h → Knows k s (uncounted t) h
knows-uncounted Nothing s t h n = n
knows-uncounted (Top g) s t h n = n
knows-uncounted Plain s t h n = n
knows-uncounted (Of k) s t h n = n
knows-uncounted (On c) s t h n = n
knows-uncounted (Seat g) s t h n = n
knows-uncounted (Found g e) s t h n = n
knows-uncounted Made s t h n = n
knows-uncounted Bare s t h n = n

knows-counted : (k : Know) (s : List ℕ) (t : Nodes) (h : Bool) → Knows k s (uncounted t) h → Knows k s t h
knows-counted Nothing s t h n = n
knows-counted (Top g) s t h n = n
knows-counted Plain s t h n = n
knows-counted (Of k) s t h n = n
knows-counted (On c) s t h n = n
knows-counted (Seat g) s t h n = n
knows-counted (Found g e) s t h n = n
knows-counted Made s t h n = n
knows-counted Bare s t h n = n

pub models-core : (s : View) (a b : State) → core b ≡ core a → Models s a → Models s b
models-core s a b e m = as-is (subst (Models s) (sym e) (to-core a m))
  where
    to-core : (a : State) → Models s a → Models s (core a)
    to-core a m = record { hook = m.hook; low = m.low; foot = m.foot; inside = m.inside; knows = knows-uncounted s.know a.tree.stack a.tree.tree a.ledger.history.template m.knows; mode_is = m.mode_is; original_is = m.original_is; ground = to-ground m.ground; few = m.few; before = m.before }
      where
        to-ground : Ground a → Ground (core a)
        to-ground g = record { held = record { stacked = g.held.stacked; listed = g.held.listed; tagged = g.held.tagged }; formed = g.formed; templates = g.templates; context = g.context; refused = g.refused }

    as-is : Models s (core b) → Models s b
    as-is m = record { hook = m.hook; low = m.low; foot = m.foot; inside = m.inside; knows = knows-counted s.know b.tree.stack b.tree.tree b.ledger.history.template m.knows; mode_is = m.mode_is; original_is = m.original_is; ground = from-ground m.ground; few = m.few; before = m.before }
      where
        from-ground : Ground (core b) → Ground b
        from-ground g = record { held = record { stacked = g.held.stacked; listed = g.held.listed; tagged = g.held.tagged }; formed = g.formed; templates = g.templates; context = g.context; refused = g.refused }

pub models-becomes : (s : View) (m b : State) → Becomes m b → Models s m → Models s b
models-becomes s m b i k = models-core s m b (becomes-core m b i) k

pub models-plainly : (s : View) (a : State) → Models s a → Models (plainly s) a
models-plainly s a m = models-know s Nothing a m tt

-- nothing changed but nodes, open elements and the list
pub models-moved : (s : View) (a b : State) (m : Models s a) → IsMoved a b → IsMade s.need m.hook m.low (opened a.tree) (opened b.tree) → Models (plainly s) b
models-moved s a b m i k = record {
  hook = m.hook;
  low = m.low;
  foot = m.foot;
  inside = k.inside m.inside;
  knows = tt;
  mode_is = ap (λ (v : State). v.mode) i.rest ∙ m.mode_is;
  original_is = λ w. ap (λ (v : State). v.original) i.rest ∙ m.original_is w;
  ground = record {
    held = k.held;
    formed = λ x e. (let c = m.ground.formed x (sym (ap (λ (v : Tree). v.form) i.pointers) ∙ e) in ((let l = longer a.tree.tree b.tree.tree k.added k.adds in let d = c.0 in omega (arith, l, d)), kept-tag a.tree.tree b.tree.tree k.added x k.adds c.0 ∙ c.1));
    templates = ap (λ (v : State). list_all is_inner v.templates) i.rest ∙ m.ground.templates;
    context = ap (λ (v : State). is_same (unwrap_or v.context tag.Html) tag.Html) i.rest ∙ m.ground.context;
    refused = ap (λ (v : State). v.parses_foreign) i.rest ∙ m.ground.refused;
  };
  few = (let t = tallied tag.Body a.tree.tree b.tree.tree k.added k.adds in let n = k.none in let f = m.few in omega (arith, t, n, f));
  before = λ h. ((let t = tallied tag.Body a.tree.tree b.tree.tree k.added k.adds in let n = k.none in let f = (m.before h).0 in omega (arith, t, n, f)), ap (λ (v : State). v.ledger.history.template) i.rest ∙ (m.before h).1);
}

pub models-fostering : (s : View) (a : State) (b : Bool) → Models s a → Models s (record a { fostering = b })
models-fostering s a b m = record { hook = m.hook; low = m.low; foot = m.foot; inside = m.inside; knows = m.knows; mode_is = m.mode_is; original_is = m.original_is; ground = record { held = m.ground.held; formed = m.ground.formed; templates = m.ground.templates; context = m.ground.context; refused = m.ground.refused }; few = m.few; before = m.before }

pub models-kept : (s : View) (a : State) (cs : List ℕ) → Models s a → Models s (with_kept cs a)
models-kept s a cs m = record { hook = m.hook; low = m.low; foot = m.foot; inside = m.inside; knows = m.knows; mode_is = m.mode_is; original_is = m.original_is; ground = record { held = m.ground.held; formed = m.ground.formed; templates = m.ground.templates; context = m.ground.context; refused = m.ground.refused }; few = m.few; before = m.before }

-- CODE POINTS ALONE

steady-word : (w : Word) (c : ℕ) (s : View) (a : State) → is_steady_word w ≡ true → Models s a → Models (plainly s) (after w (kind.Char c) a)
steady-word InsertCharacter c s a h m = models-plainly (record s { know = lasting s.know }) (after InsertCharacter (kind.Char c) a) (word-models s (kind.Char c) a m InsertCharacter refl refl refl)
steady-word (Drop x) c s a h m = models-plainly (record s { know = lasting s.know }) (after (Drop x) (kind.Char c) a) (word-models s (kind.Char c) a m (Drop x) refl refl refl)
steady-word FramesetOff c s a h m = models-plainly s (after FramesetOff (kind.Char c) a) (word-models s (kind.Char c) a m FramesetOff refl refl refl)
steady-word w c s a h m = absurd (false≢true h)

module _ (r : Rules) (quiet : (c : ℕ) → steady (r mode.InBody (symbol.Char c)) ≡ true) where
  pub runs-steady : (p : Plan) (c : ℕ) (s : View) (a : State) (e : Ending) (z : State) → steady p ≡ true → Models s a → Runs r p (kind.Char c) a e z → Models (plainly s) z
  runs-steady _ c s _ _ _ h m (does w p _ a b e z i j) = (let k = both (is_steady_word w) (steady p) h in runs-steady p c (plainly s) b e z k.1 (models-becomes (plainly s) (after w (kind.Char c) a) b i (steady-word w c s a k.0 m)) j)
  runs-steady _ c s _ _ _ h m (asks q p n _ a b e z i j) = runs-steady (if answer q (kind.Char c) a then p else n) c s b e z (chosen (answer q (kind.Char c) a) p n h) (models-becomes s a b i m) j
    where
      chosen : (x : Bool) (p n : Plan) → (steady p && steady n) ≡ true → steady (if x then p else n) ≡ true
      chosen true p n h = (both (steady p) (steady n) h).0
      chosen false p n h = (both (steady p) (steady n) h).1
  runs-steady _ c s _ _ _ h m (reconstructs p _ a b e z i k j) = runs-steady p c (plainly s) b e z h (models-moved s a b m i (reopening-made s.need m.hook m.low m.foot a.fostering a.tree b.tree m.ground.held k)) j
  runs-steady _ c s _ _ _ h m (adopts g p _ a b e z i k j) = absurd (false≢true h)
  runs-steady _ c s _ _ _ h m (closes_link p _ a b e z i k j) = absurd (false≢true h)
  runs-steady _ c s _ _ _ h m (fosters p _ a b d e z i j k) =
      let n = runs-steady p c s b e d h (models-becomes s (record a { fostering = true }) b i (models-fostering s a true m)) j in
      models-becomes (plainly s) (record d { fostering = false }) z k (models-fostering (plainly s) d false n)
  runs-steady _ c s _ _ _ h m (settles q p _ a b e z i j) = absurd (false≢true h)
  runs-steady _ c s _ _ _ h m (ends_each q p _ a e z j) = absurd (false≢true h)
  runs-steady _ c s _ _ _ h m (does_each d cs q p _ a b e z i j) = absurd (false≢true h)
  runs-steady _ c s _ _ _ h m (stops _ a e z i) = models-becomes (plainly s) a z i (models-plainly s a m)
  runs-steady _ c s _ _ _ h m (goes_by n _ a e z j) = runs-steady (r n (symbol.Char c)) c s a e z (by-body n h) m j
    where
      by-body : (n : Mode) → is_in_body n ≡ true → steady (r n (symbol.Char c)) ≡ true
      by-body mode.InBody h = quiet c
      by-body n h = absurd (false≢true h)

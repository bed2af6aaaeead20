-- What calls of the tree and of the ledger are to the whole.
use Rattle.std.specs.List.{list_all}
use Rattle.std.specs.Bool.{IsTrue}
use Rattle.std.proofs.lemmas.Bool.{cond-false, false≢true}
use Rattle.std.proofs.lemmas.List.{append-nil}
use Rattle.std.proofs.lemmas.List.Folds.{list_all-append}
use Rattle.std.proofs.Common.{ℕ, zero, suc, ◌==◌, ◌&&◌, not, take, append_assoc, ◌≡◌, ◌+◌, ◌<◌, ◌≤◌, Bool, true, false, List, [], ◌∷◌, ◌++◌, length, map, refl, sym, ap, subst, ◌∙◌, arith, Option, None, Some, ◌≢◌, replicate, ◌⊎◌, inl, inr, ◌||◌, slice_get, unwrap_or}
use Rattle.html_names.specs.declared.tag.Tag.{Tag}
use Rattle.html_names.specs.declared.foreign.Space.{Space}
use Rattle.html_names.specs.Foreign.{is_html_space}
use Rattle.html_names.specs.Sets.{is_formatting}
use Rattle.html_tokens.specs.Cut.{null_replaced}
use Rattle.html_ledger.proofs.Texted.{none-replaced}
use Rattle.html_tokens.specs.declared.attributes.Attr.{Attr}
use Rattle.html_tokens.specs.declared.token.TokenKind.{TokenKind}
use Rattle.html_tree.specs.declared.groups.Group.{Group}
use Rattle.html_arena.specs.declared.data.NewNode.{NewNode}
use Rattle.html_arena.specs.Tree.{Tree as Nodes, label_of, named, with_merged}
use Rattle.html_open.specs.declared.places.Place.{Place}
use Rattle.html_tree.specs.Inserting.{with_new}
use Rattle.html_tree.specs.Listing.{HasCloned}
use Rattle.html_tree.specs.States.{State as Tree, document_state, fragment_state}
use Rattle.html_tree.specs.Since.{Keeps as TreeKeeps}
use Rattle.html_tree.specs.OpenTags.{HasClosed, HasReopened, IsLighter, IsLighterBesides, open_tags}
use Rattle.html_tokens.specs.declared.token.TokenKind.TheVariants as kind
use Rattle.html_ledger.specs.declared.history.History.{History}
use Rattle.html_ledger.specs.declared.symbol.Symbol.TheVariants.{Char, Eof, Comment, Doctype, Start}
use Rattle.html_ledger.specs.declared.fate.Cause.{Cause}
use Rattle.html_ledger.specs.declared.fate.Fate.{Fate}
use Rattle.html_ledger.specs.Flags.{is_free_run, is_not_null, may_text_run}
use Rattle.html_ledger.specs.declared.symbol.Symbol.{Symbol}
use Rattle.html_ledger.specs.declared.symbol.Symbol.TheVariants as symbol
use Rattle.html_ledger.specs.declared.setting.Setting.{Setting}
use Rattle.html_ledger.specs.Fates.{is_foreign}
use Rattle.html_ledger.specs.MayDrop.{Since, any_token, embeds}
use Rattle.html_ledger.specs.Settings.{is_foreign_context}
use Rattle.html_ledger.specs.Symbols.{symbol_of, chars_of as symbol_chars}
use Rattle.html_ledger.specs.Entries.{Entries, Fed, Releases as LedgerReleases, Takes as LedgerTakes, TakesRun as LedgerTakesRun, given, given_run, number_of}
use Rattle.html_construction.specs.Calls.{HasFate, IsTree, implied_of, listed_at}
use Rattle.html_construction.specs.States.{State}
use Rattle.html_construction.specs.declared.mode.Mode.{Mode}
use Rattle.html_arena.specs.declared.arena.Limits.{Limits}
use Rattle.html_ledger.specs.declared.setting.Setting.TheVariants as setting
use Rattle.html_construction.specs.Origins.{HasRoot, is_made_alone}
use Rattle.html_construction.proofs.Beginning.{document-root, document-rooted, document-standing, document-told, fragment-limits, fragment-root, fragment-rooted, fragment-standing, fragment-told}
use Rattle.html_tree.proofs.Texted.{new-limits}
use Rattle.html_construction.specs.Begun.{Begun, IsInCall, drops_in, gives_in}
use Rattle.html_construction.specs.Built.{Begins, BeginsWith, Handed, IsBuilt, IsRefusing, IsRooted, is_native, nothing_of, Keeps, Releases, Takes, TakesRun, chars_of, in_call, since_tree, symbols, with_tokens}
use Rattle.html_construction.specs.Modes.{is_reset}
use Rattle.html_construction.specs.UnderWay.{IsUnderWay}
use Rattle.html_construction.specs.Weights.{group_weight, weight, weight_of}
use Rattle.html_names.specs.Groups.{is_outermost}
use Rattle.html_arena.specs.declared.data.NewNode.TheVariants as new
use Rattle.html_arena.specs.declared.data.Origin.TheVariants.{Token}
use Rattle.html_arena.specs.Data.{tag_in}
use Rattle.html_arena.specs.Make.{label_for}
use Rattle.html_open.specs.Marking.{bare}
use Rattle.html_ledger.specs.declared.fate.Fate.TheVariants.{Dropped, Ended, Foreign, Made, Merged, Text}
use Rattle.html_tree.specs.Texts.{text_node, with_text}
use Rattle.html_construction.specs.Tokens.{attrs_of, data_of, element_name, foreign_attrs, foreign_name, name_id, public_id, system_id, tag_name}
use Rattle.html_construction.proofs.Accounting.{IsNext, Told, fate_for, fed-most, fed-none, fed-same, next-comment, next-doctype, next-element, next-foreign, told-besides, told-clones, told-implied, told-kept, told-merged, told-next, told-released, told-text}
use Rattle.html_construction.proofs.Weighing.{same-tag, group-weighs, weight-le, weight-less, weight_of-formatting}
use Rattle.html_construction.specs.Standing.{IsStanding}
use Rattle.html_construction.proofs.Building.{Since-same, root-keeps, rooted-keeps, since-keeps, standing-keeps, symbols-append, symbols-chars, symbols-push}

-- both of two tests
both : (a b : Bool) → (a && b) ≡ true → (a ≡ true) × (b ≡ true)
both true b e = (refl, e)
both false b e = absurd (false≢true e)

and : (a b : Bool) → a ≡ true → b ≡ true → (a && b) ≡ true
and a b e f = rw (e, f) refl

-- the first symbol of a list, and the rest
abbrev first : List Symbol → Symbol
first [] = Eof
first (y ∷ ys) = y

abbrev rest : List Symbol → List Symbol
rest [] = []
rest (y ∷ ys) = ys

-- fates are only added
pub record AddsFates (a b : Entries) : Type 0 where
  pub more : List Fate
  pub fates_are : b.fates ≡ a.fates ++ more

pub adds-none : (a b : Entries) → b.fates ≡ a.fates → AddsFates a b
adds-none a b e = record { more = []; fates_are = e ∙ sym (append-nil a.fates) }

pub adds : (a b : Entries) (fs : List Fate) → b.fates ≡ a.fates ++ fs → AddsFates a b
adds a b fs e = record { more = fs; fates_are = e }

run-fates : (a : Entries) (cs : List ℕ) (f : Fate) → AddsFates a (given_run a cs f)
run-fates a [] f = record { more = []; fates_are = sym (append-nil a.fates) }
run-fates a (c ∷ cs) f = let p = run-fates (given a (Char c) f) cs f in record { more = f ∷ p.more; fates_are = p.fates_are ∙ append_assoc a.fates (f ∷ []) p.more }

pub adds-run : (a b : Entries) (cs : List ℕ) (f : Fate) → b ≡ given_run a cs f → AddsFates a b
adds-run a b cs f e = subst (λ x. AddsFates a x) (sym e) (run-fates a cs f)

-- the same, of the state in which the call began
pub adds-made : (n g : State) (y : Symbol) (f : Fate) → HasFate y f n g → AddsFates n.ledger g.ledger
adds-made n g y f h = record { more = f ∷ []; fates_are = ap (λ (x : Entries). x.fates) h.ledger_is }

-- more fates
longer : (fs gs hs ks : List Fate) → ks ≡ gs ++ hs → BeginsWith fs gs → BeginsWith fs ks
longer fs gs hs ks e b = (b.0 ++ hs, e ∙ ap (λ xs. xs ++ hs) b.1 ∙ append_assoc fs b.0 hs)

-- the mode in which the call began, and whether foreign content is parsed: neither changes in a call of the tree or of the ledger
pub record Stay : Type 0 where
  pub began : Mode
  pub parses : Bool

abbrev pub stay_of : State → Stay
stay_of a = record { began = a.began; parses = a.parses_foreign }

-- fates are only added, which tokens may have in a call that began in this mode; and none is of foreign content, or that was made before, is the context
-- or is parsed
pub record Gives (m : Stay) (a b : Entries) : Type 0 where
  pub more : List Fate
  pub fates_are : b.fates ≡ a.fates ++ more
  pub given : list_all (gives_in m.began) more ≡ true
  pub native : (list_all is_native more ≡ true) ⊎ ((m.parses || a.history.foreign) ≡ true)

pub gives-none : (m : Stay) (a b : Entries) → b.fates ≡ a.fates → Gives m a b
gives-none m a b e = record { more = []; fates_are = e ∙ sym (append-nil a.fates); given = refl; native = inl refl }

pub gives : (m : Stay) (a b : Entries) (f : Fate) → b.fates ≡ a.fates ++ f ∷ [] → list_all (gives_in m.began) (f ∷ []) ≡ true → list_all is_native (f ∷ []) ≡ true → Gives m a b
gives m a b f e g n = record { more = f ∷ []; fates_are = e; given = g; native = inl n }

pub gives-text : (m : Stay) (a b : Entries) (d : ℕ) → b.fates ≡ a.fates ++ Text d ∷ [] → Gives m a b
gives-text m a b d e = record { more = Text d ∷ []; fates_are = e; given = refl; native = inl refl }

pub gives-merged : (m : Stay) (a b : Entries) → b.fates ≡ a.fates ++ Merged ∷ [] → Gives m a b
gives-merged m a b e = record { more = Merged ∷ []; fates_are = e; given = refl; native = inl refl }

pub gives-foreign : (n g : State) (y : Symbol) (d : ℕ) → HasFate y (Foreign d) n g → IsTrue (n.parses_foreign || n.ledger.history.foreign) → Gives (stay_of n) n.ledger g.ledger
gives-foreign n g y d h a = record { more = Foreign d ∷ []; fates_are = ap (λ (x : Entries). x.fates) h.ledger_is; given = refl; native = inr a }

pub gives-made : (m : Stay) (n g : State) (y : Symbol) (d : ℕ) → HasFate y (Made d) n g → Gives m n.ledger g.ledger
gives-made m n g y d h = record { more = Made d ∷ []; fates_are = ap (λ (x : Entries). x.fates) h.ledger_is; given = refl; native = inl refl }

pub gives-dropped : (v n : State) (c : Cause) → v ≡ n → IsTrue (drops_in c n.began) → list_all (gives_in v.began) (Dropped c ∷ []) ≡ true
gives-dropped v n c e g = and (drops_in c v.began) true (ap (λ (x : State). drops_in c x.began) e ∙ g) refl

-- the call that is under way goes on
call-same : (o : Option Begun) (v z : State) → z.ledger.fates ≡ v.ledger.fates → z.began ≡ v.began → IsInCall o v → IsInCall o z
call-same None v z e b u = tt
call-same (Some c) v z e b u = record { began = b ∙ u.began; later = u.later; fates_are = e ∙ u.fates_are; given = u.given }

call-more : (o : Option Begun) (v z : State) (more : List Fate) → z.ledger.fates ≡ v.ledger.fates ++ more → list_all (gives_in v.began) more ≡ true → z.began ≡ v.began → IsInCall o v → IsInCall o z
call-more None v z more e g b u = tt
call-more (Some c) v z more e g b u = record {
  began = b ∙ u.began;
  later = u.later ++ more;
  fates_are = e ∙ ap (λ xs. xs ++ more) u.fates_are ∙ append_assoc c.before u.later more;
  given = list_all-append (gives_in c.mode) u.later more ∙ and (list_all (gives_in c.mode) u.later) (list_all (gives_in c.mode) more) u.given (subst (λ m. list_all (gives_in m) more ≡ true) u.began g);
}

-- where foreign content is refused, no element of it is made
refusing-same : (s : Setting) (v z : State) → z.ledger.fates ≡ v.ledger.fates → stay_of z ≡ stay_of v → IsRefusing s v → IsRefusing s z
refusing-same s v z e b u = λ p f. ap (λ fs. list_all is_native fs) e ∙ u (sym (ap (λ (y : Stay). y.parses) b) ∙ p) f

native-at : (fs : List Fate) (i : ℕ) (f : Fate) → list_all is_native fs ≡ true → slice_get fs i ≡ Some f → is_native f ≡ true
native-at [] i f n e = absurd (let q : None ≡ Some f = e in cc)
native-at (g ∷ fs) zero f n e = subst (λ x. is_native x ≡ true) (ap (λ o. unwrap_or o g) e) (both (is_native g) (list_all is_native fs) n).0
native-at (g ∷ fs) (suc i) f n e = native-at fs i f (both (is_native g) (list_all is_native fs) n).1 e

embeds-foreign : (y : Symbol) (f : Fate) → embeds y f ≡ true → is_foreign f ≡ true
embeds-foreign (Start t) f e = e
embeds-foreign (symbol.End t) f e = absurd (false≢true e)
embeds-foreign (Char c) f e = absurd (false≢true e)
embeds-foreign Comment f e = absurd (false≢true e)
embeds-foreign Doctype f e = absurd (false≢true e)
embeds-foreign Eof f e = absurd (false≢true e)

none-embedded : (ts : List Symbol) (fs : List Fate) → list_all is_native fs ≡ true → Since embeds any_token ts fs → ⊥
none-embedded ts fs n w =
    let p : is_foreign w.fate ≡ true = embeds-foreign w.token w.fate w.is_such in
    let q : not (is_foreign w.fate) ≡ true = native-at fs w.at w.fate n w.fate_is in
    false≢true (sym (ap not p) ∙ q)

-- where no element of it was made and it is not the context, the history says so
no-foreign : (s : Setting) (l : Entries) (ys : List Symbol) → Fed s l ys → is_foreign_context s ≡ false → list_all is_native l.fates ≡ true → l.history.foreign ≡ true → ⊥
no-foreign s l ys d f n h = elim (d.settled.known.foreign.0 h) [
  | inl w ↦ none-embedded d.front l.fates n w
  | inr c ↦ false≢true (sym f ∙ c)
]

refusing-more : (s : Setting) (ys : List Symbol) (v z : State) → Gives (stay_of v) v.ledger z.ledger → stay_of z ≡ stay_of v → Fed s v.ledger ys → IsRefusing s v → IsRefusing s z
refusing-more s ys v z g b d u = λ p f.
    let q : v.parses_foreign ≡ false = sym (ap (λ (y : Stay). y.parses) b) ∙ p in
    let n : list_all is_native v.ledger.fates ≡ true = u q f in
    elim g.native [
      | inl m ↦ ap (λ fs. list_all is_native fs) g.fates_are ∙ list_all-append is_native v.ledger.fates g.more ∙ and (list_all is_native v.ledger.fates) (list_all is_native g.more) n m
      | inr a ↦ absurd (no-foreign s v.ledger ys d f n (or-right v.parses_foreign v.ledger.history.foreign a q))
    ]
  where
    or-right : (x y : Bool) → (x || y) ≡ true → x ≡ false → y ≡ true
    or-right true y e h = absurd (false≢true (sym h))
    or-right false y e h = e

-- foreign content is parsed from here on
pub parsing : (v n z : State) → v ≡ n → z ≡ record v { parses_foreign = true } → Keeps n z
parsing v n z e p = λ h w.
    let u : IsBuilt h v = subst (λ x. IsBuilt h x) (sym e) w in
    subst (λ x. IsBuilt h x) (sym p) (record {
      fed = u.fed;
      known = u.known;
      rooted = u.rooted;
      standing = u.standing;
      limits = u.limits;
      root = u.root;
      origins = u.origins;
      made = u.made;
      texts = u.texts;
      refusing = λ q f. absurd (false≢true (sym q));
      since = u.since;
      call = call-same h.call v (record v { parses_foreign = true }) refl refl u.call;
    })

-- a call begins
pub begins : (v n z : State) (d k : ℕ) → v ≡ n → z ≡ record v { began = v.mode; depth = d; nodes = k } → Begins n z
begins v n z d k e f = λ h w. subst (λ x. IsBuilt (in_call h n) x) (sym (f ∙ ap (λ (x : State). record x { began = x.mode; depth = d; nodes = k }) e)) (record {
  fed = w.fed;
  known = w.known;
  rooted = w.rooted;
  standing = w.standing;
  limits = w.limits;
  root = w.root;
  origins = w.origins;
  made = w.made;
  texts = w.texts;
  refusing = w.refusing;
  since = w.since;
  call = record { began = refl; later = []; fates_are = sym (append-nil n.ledger.fates); given = refl };
})

-- before the first token of a document
pub begun-document : (l : Option Limits) (k : ℕ) (a : State) → a.tree ≡ document_state l k → Fed setting.Document a.ledger [] → IsBuilt (nothing_of setting.Document l) a
begun-document l k a e d = record {
  fed = d;
  known = (a.ledger.fates, refl);
  rooted = subst IsRooted (sym e) (document-rooted l k);
  standing = subst IsStanding (sym e) (document-standing l k);
  limits = ap (λ (t : Tree). t.tree.limits) e;
  root = subst (λ (t : Tree). HasRoot setting.Document t.tree) (sym e) (document-root l k);
  origins = told.origins;
  made = told.made;
  texts = told.texts;
  refusing = λ p f. ap (λ fs. list_all is_native fs) (fed-none _ a.ledger d);
  since = tt;
  call = tt;
}
  where
    told : Told [] a.ledger.fates a.tree.tree.labels
    told = subst (λ (t : Tree). Told [] a.ledger.fates t.tree.labels) (sym e) (subst (λ fs. Told [] fs (document_state l k).tree.labels) (sym (fed-none setting.Document a.ledger d)) (document-told l k))

-- before the first token of a fragment
pub begun-fragment : (g : Tag) (f : Bool) (l : Option Limits) (k : ℕ) (a : State) → a.tree ≡ fragment_state l k → Fed (setting.Fragment g f) a.ledger [] → IsBuilt (nothing_of (setting.Fragment g f) l) a
begun-fragment g f l k a e d = record {
  fed = d;
  known = (a.ledger.fates, refl);
  rooted = subst IsRooted (sym e) (fragment-rooted l k);
  standing = subst IsStanding (sym e) (fragment-standing l k);
  limits = ap (λ (t : Tree). t.tree.limits) e ∙ fragment-limits l k;
  root = subst (λ (t : Tree). HasRoot (setting.Fragment g f) t.tree) (sym e) (fragment-root g f l k);
  origins = told.origins;
  made = told.made;
  texts = told.texts;
  refusing = λ p f. ap (λ fs. list_all is_native fs) (fed-none _ a.ledger d);
  since = tt;
  call = tt;
}
  where
    told : Told [] a.ledger.fates a.tree.tree.labels
    told = subst (λ (t : Tree). Told [] a.ledger.fates t.tree.labels) (sym e) (subst (λ fs. Told [] fs (fragment_state l k).tree.labels) (sym (fed-none (setting.Fragment g f) a.ledger d)) (fragment-told l k))

-- a token that is a code point to the rules
abbrev token_of : Symbol → TokenKind
token_of (Char x) = kind.Char x
token_of _ = kind.Eof

char-is : (t : TokenKind) (c : ℕ) → symbol_of t ≡ Char c → t ≡ kind.Char c
char-is (kind.Char d) c e = ap token_of e
char-is _ c e = absurd cc

-- the tokens, their fates and the nodes fit together
told-built : (h : Handed) (a : State) → IsBuilt h a → Told h.tokens a.ledger.fates a.tree.tree.labels
told-built h a u = record { origins = u.origins; made = u.made; texts = u.texts }

-- and they do so after more tokens
pub record Tells (us : List TokenKind) (v z : State) : Type 0 where
  pub told : (h : Handed) → Fed h.setting v.ledger (symbols h.tokens) → Told h.tokens v.ledger.fates v.tree.tree.labels → Told (h.tokens ++ us) z.ledger.fates z.tree.tree.labels

-- a token that is dropped, or over at once
abbrev is_idle_fate : Fate → Bool
is_idle_fate (Dropped c) = true
is_idle_fate Ended = true
is_idle_fate _ = false

pub told-idle : (v z : State) (t : TokenKind) (f : Fate) → is_idle_fate f ≡ true → v.ledger.kept ≡ [] → z.ledger.fates ≡ v.ledger.fates ++ f ∷ [] → z.tree ≡ v.tree → Tells (t ∷ []) v z
told-idle v z t f i k e q = record {
  told = λ h d w.
      subst (λ fs. Told (h.tokens ++ t ∷ []) fs z.tree.tree.labels) (sym e)
      (subst (λ (b : Tree). Told (h.tokens ++ t ∷ []) (v.ledger.fates ++ f ∷ []) b.tree.labels) (sym q) (by f i h.tokens (fed-same h.setting v.ledger h.tokens k d) w));
}
  where
    by : (f : Fate) → is_idle_fate f ≡ true → (ts : List TokenKind) → length v.ledger.fates ≡ length ts → Told ts v.ledger.fates v.tree.tree.labels → Told (ts ++ t ∷ []) (v.ledger.fates ++ f ∷ []) v.tree.tree.labels
    by (Dropped c) i ts l w = told-besides ts t v.ledger.fates (Dropped c) v.tree.tree.labels l refl refl (λ z. absurd (let r : Dropped c ≡ Merged = z in cc)) w
    by Ended i ts l w = told-besides ts t v.ledger.fates Ended v.tree.tree.labels l refl refl (λ z. absurd (let r : Ended ≡ Merged = z in cc)) w
    by (Made d) i ts l w = absurd (false≢true i)
    by (Foreign d) i ts l w = absurd (false≢true i)
    by (Text d) i ts l w = absurd (false≢true i)
    by Merged i ts l w = absurd (false≢true i)

-- a code point that is kept
pub told-keep : (v z : State) (t : TokenKind) → z.ledger.fates ≡ v.ledger.fates → z.tree ≡ v.tree → Tells (t ∷ []) v z
told-keep v z t e q = record {
  told = λ h d w.
      subst (λ fs. Told (h.tokens ++ t ∷ []) fs z.tree.tree.labels) (sym e)
      (subst (λ (b : Tree). Told (h.tokens ++ t ∷ []) v.ledger.fates b.tree.labels) (sym q) (told-kept h.tokens (t ∷ []) v.ledger.fates v.tree.tree.labels (fed-most h.setting v.ledger h.tokens d) w));
}

-- a tag that was merged into an element of its name
pub told-merge : (v z : State) (t : TokenKind) (g : Tag) (y : ℕ) → symbol_of t ≡ Start g → is_outermost g ≡ true → v.ledger.kept ≡ [] → z.ledger.fates ≡ v.ledger.fates ++ Merged ∷ [] → y < length v.tree.tree.labels
    → named v.tree.tree g y ≡ true → z.tree.tree ≡ bare (with_merged v.tree.tree y (attrs_of t)) → Tells (t ∷ []) v z
told-merge v z t g y s o k e b n q = record {
  told = λ h d w.
      let i : tag_in (label_of v.tree.tree y) ≡ g = same-tag (tag_in (label_of v.tree.tree y)) g n in
      subst (λ fs. Told (h.tokens ++ t ∷ []) fs z.tree.tree.labels) (sym e)
      (told-merged h.tokens t v.ledger.fates v.tree.tree z.tree.tree y (fed-same h.setting v.ledger h.tokens k d) b (s ∙ ap Start (sym i)) (ap is_outermost i ∙ o) q w);
}

-- code points that were added to a text
pub run-given : (l : Entries) (cs : List ℕ) (f : Fate) → (given_run l cs f).fates ≡ l.fates ++ replicate (length cs) f
run-given l [] f = sym (append-nil l.fates)
run-given l (c ∷ cs) f = run-given (given l (Char c) f) cs f ∙ append_assoc l.fates (f ∷ []) (replicate (length cs) f)

all-texts : (m : Mode) (d n : ℕ) → list_all (gives_in m) (replicate n (Text d)) ≡ true
all-texts m d zero = refl
all-texts m d (suc n) = all-texts m d n

native-texts : (d n : ℕ) → list_all is_native (replicate n (Text d)) ≡ true
native-texts d zero = refl
native-texts d (suc n) = native-texts d n

pub gives-run : (m : Stay) (a b : Entries) (cs : List ℕ) (d : ℕ) → b ≡ given_run a cs (Text d) → Gives m a b
gives-run m a b cs d e = record { more = replicate (length cs) (Text d); fates_are = ap (λ (x : Entries). x.fates) e ∙ run-given a cs (Text d); given = all-texts m.began d (length cs); native = inl (native-texts d (length cs)) }

some-run : (cs : List ℕ) → 0 < length cs → cs ≢ []
some-run [] h e = absurd (omega arith)
some-run (c ∷ cs) h e = absurd (let k = e in cc)

taken-some : (n : ℕ) (cs : List ℕ) → 0 < n → n ≤ length cs → 0 < length (take n cs)
taken-some zero cs h l = absurd (omega arith)
taken-some (suc n) [] h l = absurd (omega arith)
taken-some (suc n) (c ∷ cs) h l = omega arith

replaced-some : (cs : List ℕ) → cs ≢ [] → map null_replaced cs ≢ []
replaced-some [] n e = n refl
replaced-some (c ∷ cs) n e = absurd (let k = e in cc)

taken-all : (p : ℕ → Bool) (n : ℕ) (cs : List ℕ) → list_all p cs ≡ true → list_all p (take n cs) ≡ true
taken-all p zero cs h = refl
taken-all p (suc n) [] h = refl
taken-all p (suc n) (c ∷ cs) h = let b = both (p c) (list_all p cs) h in and (p c) (list_all p (take n cs)) b.0 (taken-all p n cs b.1)

pub told-run-text : (v z : State) (foster : Bool) (n : ℕ) (cs : List ℕ) → 0 < n → n ≤ length cs → list_all is_not_null cs ≡ true → v.ledger.kept ≡ [] → z.tree.tree ≡ with_text v.tree foster (take n cs)
    → z.ledger ≡ given_run v.ledger (take n cs) (Text (text_node v.tree foster)) → Tells (chars_of (take n cs)) v z
told-run-text v z foster n cs a b f k q e = record {
  told = λ h d w.
      told-text h.tokens v.ledger.fates z.ledger.fates v.tree z.tree.tree foster (take n cs) (fed-same h.setting v.ledger h.tokens k d) (replaced-some (take n cs) (some-run (take n cs) (taken-some n cs a b)))
      (q ∙ ap (λ rs. with_text v.tree foster rs) (sym (none-replaced (take n cs) (taken-all is_not_null n cs f))))
      (ap (λ (x : Entries). x.fates) e ∙ run-given v.ledger (take n cs) (Text (text_node v.tree foster))) w;
}

taken-none : (n : ℕ) → take {A = ℕ} n [] ≡ []
taken-none zero = refl
taken-none (suc n) = refl

one-taken : (n c : ℕ) → 0 < n → take n (c ∷ []) ≡ c ∷ []
one-taken zero c h = absurd (let k : 0 < 0 = h in omega arith)
one-taken (suc n) c h = ap (λ (ds : List ℕ). c ∷ ds) (taken-none n)

pub run-visible : (h : History) (cs : List ℕ) → IsTrue (may_text_run h cs) → list_all is_not_null cs ≡ true
run-visible h cs e = (both (list_all is_not_null cs) (is_free_run h cs) (both (not h.awaits_doctype) (list_all is_not_null cs && is_free_run h cs) e).1).0

pub visible-run : (c : ℕ) (run : List ℕ) → (c == 0) ≡ false → run ≡ c ∷ [] → run ≡ null_replaced c ∷ []
visible-run c run n e = e ∙ ap (λ d. d ∷ []) (sym (cond-false (c == 0) 65533 c n))

pub told-char : (v z : State) (foster : Bool) (t : TokenKind) (n c : ℕ) (run : List ℕ) → symbol_of t ≡ Char c → run ≡ null_replaced c ∷ [] → 0 < n → v.ledger.kept ≡ [] → z.tree.tree ≡ with_text v.tree foster (take n run)
    → z.ledger ≡ given v.ledger (Char c) (Text (text_node v.tree foster)) → Tells (t ∷ []) v z
told-char v z foster t n c run s r a k q e = record {
  told = λ h d w.
      subst (λ u. Told (h.tokens ++ u ∷ []) z.ledger.fates z.tree.tree.labels) (sym (char-is t c s))
      (told-text h.tokens v.ledger.fates z.ledger.fates v.tree z.tree.tree foster (c ∷ []) (fed-same h.setting v.ledger h.tokens k d) (replaced-some (c ∷ []) (some-run (c ∷ []) (omega arith)))
      (q ∙ ap (λ ds. with_text v.tree foster (take n ds)) r ∙ ap (λ ds. with_text v.tree foster ds) (one-taken n (null_replaced c) a)) (ap (λ (x : Entries). x.fates) e) w);
}

-- the next node was made of the token
pub told-node : (b : Bool) (n g v z : State) (t : TokenKind) (y : Symbol) (at : Place) (d : NewNode) → v ≡ g → g ≡ record n { ledger = g.ledger } → z.ledger ≡ v.ledger → HasFate y (fate_for b (length n.tree.tree.labels)) n g → n.ledger.kept ≡ []
    → ((ts : List TokenKind) → number_of n.ledger ≡ length ts → IsNext b (label_for v.tree.tree d) (ts ++ t ∷ []) (number_of n.ledger)) → z.tree.tree ≡ with_new v.tree.tree at d → Tells (t ∷ []) n z
told-node c n g v z t y at d e r p f k i q = record {
  told = λ h b w.
      let l : length n.ledger.fates ≡ length h.tokens = fed-same h.setting n.ledger h.tokens k b in
      let same : v.tree.tree ≡ n.tree.tree = ap (λ (x : State). x.tree.tree) e ∙ ap (λ (x : State). x.tree.tree) r in
      let fates : z.ledger.fates ≡ n.ledger.fates ++ fate_for c (length v.tree.tree.labels) ∷ [] =
      ap (λ (x : Entries). x.fates) (p ∙ ap (λ (x : State). x.ledger) e) ∙ ap (λ (x : Entries). x.fates) f.ledger_is ∙ ap (λ (b : Nodes). n.ledger.fates ++ fate_for c (length b.labels) ∷ []) (sym same) in
      subst (λ fs. Told (h.tokens ++ t ∷ []) fs z.tree.tree.labels) (sym fates)
      (told-next c h.tokens t n.ledger.fates v.tree.tree z.tree.tree at d l (i h.tokens l) q (subst (λ (b : Nodes). Told h.tokens n.ledger.fates b.labels) (sym same) w));
}

-- the same, where the node was put into another tree of the same labels
pub told-moved : (n g v z : State) (u : Nodes) (t : TokenKind) (y : Symbol) (at : Place) (d : NewNode) → v ≡ g → g ≡ record n { ledger = g.ledger } → z.ledger ≡ v.ledger → HasFate y (Made (length n.tree.tree.labels)) n g → n.ledger.kept ≡ []
    → u.labels ≡ v.tree.tree.labels → ((ts : List TokenKind) → number_of n.ledger ≡ length ts → IsNext false (label_for u d) (ts ++ t ∷ []) (number_of n.ledger)) → z.tree.tree ≡ with_new u at d → Tells (t ∷ []) n z
told-moved n g v z u t y at d e r p f k j i q = record {
  told = λ h b w.
      let l : length n.ledger.fates ≡ length h.tokens = fed-same h.setting n.ledger h.tokens k b in
      let same : u.labels ≡ n.tree.tree.labels = j ∙ ap (λ (x : State). x.tree.tree.labels) e ∙ ap (λ (x : State). x.tree.tree.labels) r in
      let fates : z.ledger.fates ≡ n.ledger.fates ++ Made (length u.labels) ∷ [] =
      ap (λ (x : Entries). x.fates) (p ∙ ap (λ (x : State). x.ledger) e) ∙ ap (λ (x : Entries). x.fates) f.ledger_is ∙ ap (λ ls. n.ledger.fates ++ Made (length ls) ∷ []) (sym same) in
      subst (λ fs. Told (h.tokens ++ t ∷ []) fs z.tree.tree.labels) (sym fates)
      (told-next false h.tokens t n.ledger.fates u z.tree.tree at d l (i h.tokens l) q (subst (λ ls. Told h.tokens n.ledger.fates ls) (sym same) w));
}

pub told-made : (n g v z : State) (t : TokenKind) (y : Symbol) (at : Place) (d : NewNode) → v ≡ g → g ≡ record n { ledger = g.ledger } → z.ledger ≡ v.ledger → HasFate y (Made (length n.tree.tree.labels)) n g → n.ledger.kept ≡ []
    → ((ts : List TokenKind) → number_of n.ledger ≡ length ts → IsNext false (label_for v.tree.tree d) (ts ++ t ∷ []) (number_of n.ledger)) → z.tree.tree ≡ with_new v.tree.tree at d → Tells (t ∷ []) n z
told-made n g v z t y at d e r p f k i q = told-node false n g v z t y at d e r p f k i q

-- an element of foreign content
pub told-foreign : (n g v z : State) (t : TokenKind) (y : Symbol) (at : Place) (d : NewNode) → v ≡ g → g ≡ record n { ledger = g.ledger } → z.ledger ≡ v.ledger → HasFate y (Foreign (length n.tree.tree.labels)) n g → n.ledger.kept ≡ []
    → ((ts : List TokenKind) → number_of n.ledger ≡ length ts → IsNext true (label_for v.tree.tree d) (ts ++ t ∷ []) (number_of n.ledger)) → z.tree.tree ≡ with_new v.tree.tree at d → Tells (t ∷ []) n z
told-foreign n g v z t y at d e r p f k i q = told-node true n g v z t y at d e r p f k i q

pub made-element : (b : Nodes) (t : TokenKind) (g : Tag) (name : List ℕ) (own : List Attr) (k m : ℕ) → symbol_of t ≡ Start g → name ≡ element_name g t → own ≡ attrs_of t → k ≡ m
    → (ts : List TokenKind) → m ≡ length ts → IsNext false (label_for b (new.Element name own (Token k))) (ts ++ t ∷ []) m
made-element b t g name own k m s e f i ts l =
    subst (λ j. IsNext false (label_for b (new.Element name own (Token j))) (ts ++ t ∷ []) m) (sym i)
    (subst (λ ds. IsNext false (label_for b (new.Element ds own (Token m))) (ts ++ t ∷ []) m) (sym e)
    (subst (λ ds. IsNext false (label_for b (new.Element (element_name g t) ds (Token m))) (ts ++ t ∷ []) m) (sym f) (next-element b ts t g m l s)))

pub made-foreign : (b : Nodes) (t : TokenKind) (g : Tag) (s : Space) (name : List ℕ) (own : List Attr) (k m : ℕ) → symbol_of t ≡ Start g → is_html_space s ≡ false → name ≡ foreign_name s (tag_name t) → own ≡ foreign_attrs s (attrs_of t) → k ≡ m
    → (ts : List TokenKind) → m ≡ length ts → IsNext true (label_for b (new.Element name own (Token k))) (ts ++ t ∷ []) m
made-foreign b t g s name own k m e o p f i ts l =
    subst (λ j. IsNext true (label_for b (new.Element name own (Token j))) (ts ++ t ∷ []) m) (sym i)
    (subst (λ ds. IsNext true (label_for b (new.Element ds own (Token m))) (ts ++ t ∷ []) m) (sym p)
    (subst (λ ds. IsNext true (label_for b (new.Element (foreign_name s (tag_name t)) ds (Token m))) (ts ++ t ∷ []) m) (sym f) (next-foreign b ts t g s m l e o)))

pub made-comment : (b : Nodes) (t : TokenKind) (text : List ℕ) (k m : ℕ) → symbol_of t ≡ Comment → text ≡ data_of t → k ≡ m → (ts : List TokenKind) → m ≡ length ts → IsNext false (label_for b (new.Comment text k)) (ts ++ t ∷ []) m
made-comment b t text k m s e i ts l =
    subst (λ j. IsNext false (label_for b (new.Comment text j)) (ts ++ t ∷ []) m) (sym i)
    (subst (λ ds. IsNext false (label_for b (new.Comment ds m)) (ts ++ t ∷ []) m) (sym e) (next-comment b ts t m l s))

pub made-doctype : (b : Nodes) (t : TokenKind) (x y z : Option (List ℕ)) (k m : ℕ) → symbol_of t ≡ Doctype → x ≡ name_id t → y ≡ public_id t → z ≡ system_id t → k ≡ m
    → (ts : List TokenKind) → m ≡ length ts → IsNext false (label_for b (new.Doctype x y z k)) (ts ++ t ∷ []) m
made-doctype b t x y z k m s e f g i ts l =
    subst (λ j. IsNext false (label_for b (new.Doctype x y z j)) (ts ++ t ∷ []) m) (sym i)
    (subst (λ d. IsNext false (label_for b (new.Doctype d y z m)) (ts ++ t ∷ []) m) (sym e)
    (subst (λ d. IsNext false (label_for b (new.Doctype (name_id t) d z m)) (ts ++ t ∷ []) m) (sym f)
    (subst (λ d. IsNext false (label_for b (new.Doctype (name_id t) (public_id t) d m)) (ts ++ t ∷ []) m) (sym g) (next-doctype b ts t m l s))))

-- the tree changed, and the ledger did not
pub kept : (v n z : State) → v ≡ n → z.ledger ≡ v.ledger → stay_of z ≡ stay_of v → TreeKeeps v.tree z.tree → HasCloned v.tree z.tree → Keeps n z
kept v n z e f b k c = λ h w.
    let u : IsBuilt h v = subst (λ x. IsBuilt h x) (sym e) w in record {
      fed = subst (λ l. Fed h.setting l (symbols h.tokens)) (sym f) u.fed;
      known = subst (λ (l : Entries). BeginsWith h.known l.fates) (sym f) u.known;
      rooted = rooted-keeps v.tree z.tree k u.rooted;
      standing = standing-keeps v.tree z.tree k u.standing;
      limits = c.limits_are ∙ u.limits;
      root = root-keeps h.setting v.tree z.tree k u.root;
      origins = (all h u).origins;
      made = (all h u).made;
      texts = (all h u).texts;
      refusing = refusing-same h.setting v z (ap (λ (l : Entries). l.fates) f) b u.refusing;
      since = since-keeps h.earlier v.tree z.tree k u.since;
      call = call-same h.call v z (ap (λ (l : Entries). l.fates) f) (ap (λ (y : Stay). y.began) b) u.call;
    }
  where
    all : (h : Handed) → IsBuilt h v → Told h.tokens z.ledger.fates z.tree.tree.labels
    all h u = subst (λ (l : Entries). Told h.tokens l.fates z.tree.tree.labels) (sym f) (told-clones h.tokens v.ledger.fates v.tree z.tree c (told-built h v u))

-- an element that no token asked for was made
pub implied : (v n z : State) (at : Place) (g : Tag) → v ≡ n → z.ledger ≡ v.ledger → stay_of z ≡ stay_of v → TreeKeeps v.tree z.tree → z.tree.tree ≡ with_new v.tree.tree at (implied_of g) → is_made_alone g ≡ true → Keeps n z
implied v n z at g e f b k q a = λ h w.
    let u : IsBuilt h v = subst (λ x. IsBuilt h x) (sym e) w in record {
      fed = subst (λ l. Fed h.setting l (symbols h.tokens)) (sym f) u.fed;
      known = subst (λ (l : Entries). BeginsWith h.known l.fates) (sym f) u.known;
      rooted = rooted-keeps v.tree z.tree k u.rooted;
      standing = standing-keeps v.tree z.tree k u.standing;
      limits = ap (λ (t : Nodes). t.limits) q ∙ new-limits v.tree.tree at (implied_of g) ∙ u.limits;
      root = root-keeps h.setting v.tree z.tree k u.root;
      origins = (all h u).origins;
      made = (all h u).made;
      texts = (all h u).texts;
      refusing = refusing-same h.setting v z (ap (λ (l : Entries). l.fates) f) b u.refusing;
      since = since-keeps h.earlier v.tree z.tree k u.since;
      call = call-same h.call v z (ap (λ (l : Entries). l.fates) f) (ap (λ (y : Stay). y.began) b) u.call;
    }
  where
    all : (h : Handed) → IsBuilt h v → Told h.tokens z.ledger.fates z.tree.tree.labels
    all h u = subst (λ (l : Entries). Told h.tokens l.fates z.tree.tree.labels) (sym f) (told-implied h.tokens v.ledger.fates v.tree.tree z.tree.tree at g a q (told-built h v u))

-- the tree is known from here on
pub built-since : (h : Handed) (a : State) → IsBuilt h a → IsBuilt (since_tree h a.tree) a
unfolding since_tree
built-since h a w = record {
  fed = w.fed;
  known = w.known;
  rooted = w.rooted;
  standing = w.standing;
  limits = w.limits;
  root = w.root;
  origins = w.origins;
  made = w.made;
  texts = w.texts;
  refusing = w.refusing;
  since = Since-same a.tree;
  call = w.call;
}

-- the ledger took a token, and the tree may have changed
pub taken : (v n z : State) (t : TokenKind) (y : Symbol) → v ≡ n → symbol_of t ≡ y → LedgerTakes y v.ledger z.ledger → Gives (stay_of v) v.ledger z.ledger → TreeKeeps v.tree z.tree → z.tree.tree.limits ≡ v.tree.tree.limits → Tells (t ∷ []) v z → stay_of z ≡ stay_of v → Takes t n z
unfolding with_tokens
taken v n z t y e f g m k l x b = λ h w.
    let u : IsBuilt h v = subst (λ x. IsBuilt h x) (sym e) w in record {
      fed = subst (λ us. Fed h.setting z.ledger us) (sym (symbols-push h.tokens t ∙ ap (λ x. symbols h.tokens ++ x ∷ []) f)) (g h.setting (symbols h.tokens) u.fed);
      known = longer h.known v.ledger.fates m.more z.ledger.fates m.fates_are u.known;
      rooted = rooted-keeps v.tree z.tree k u.rooted;
      standing = standing-keeps v.tree z.tree k u.standing;
      limits = l ∙ u.limits;
      root = root-keeps h.setting v.tree z.tree k u.root;
      origins = (x.told h u.fed (told-built h v u)).origins;
      made = (x.told h u.fed (told-built h v u)).made;
      texts = (x.told h u.fed (told-built h v u)).texts;
      refusing = refusing-more h.setting (symbols h.tokens) v z m b u.fed u.refusing;
      since = since-keeps h.earlier v.tree z.tree k u.since;
      call = call-more h.call v z m.more m.fates_are m.given (ap (λ (y : Stay). y.began) b) u.call;
    }

-- the ledger took code points
pub taken-run : (v n z : State) (cs : List ℕ) → v ≡ n → LedgerTakesRun cs v.ledger z.ledger → Gives (stay_of v) v.ledger z.ledger → TreeKeeps v.tree z.tree → z.tree.tree.limits ≡ v.tree.tree.limits → Tells (chars_of cs) v z → stay_of z ≡ stay_of v → TakesRun cs n z
unfolding with_tokens
taken-run v n z cs e g m k l x b = λ h w.
    let u : IsBuilt h v = subst (λ x. IsBuilt h x) (sym e) w in record {
      fed = subst (λ us. Fed h.setting z.ledger us) (sym (symbols-append h.tokens (chars_of cs) ∙ ap (λ x. symbols h.tokens ++ x) (symbols-chars cs))) (g h.setting (symbols h.tokens) u.fed);
      known = longer h.known v.ledger.fates m.more z.ledger.fates m.fates_are u.known;
      rooted = rooted-keeps v.tree z.tree k u.rooted;
      standing = standing-keeps v.tree z.tree k u.standing;
      limits = l ∙ u.limits;
      root = root-keeps h.setting v.tree z.tree k u.root;
      origins = (x.told h u.fed (told-built h v u)).origins;
      made = (x.told h u.fed (told-built h v u)).made;
      texts = (x.told h u.fed (told-built h v u)).texts;
      refusing = refusing-more h.setting (symbols h.tokens) v z m b u.fed u.refusing;
      since = since-keeps h.earlier v.tree z.tree k u.since;
      call = call-more h.call v z m.more m.fates_are m.given (ap (λ (y : Stay). y.began) b) u.call;
    }

-- the tree is as it was
pub unchanged : (a : Tree) → TreeKeeps a a
unchanged a = λ s w. w

-- tree operations one after the other
pub then : (a b d : Tree) → TreeKeeps a b → TreeKeeps b d → TreeKeeps a d
then a b d k l = λ s w. l s (k s w)

pub lighter : (n : State) (a b : Tree) → open_tags a ≡ n.stack → IsLighter a b → weight (open_tags b) ≤ weight n.stack
lighter n a b e h = subst (λ s. weight (open_tags b) ≤ weight s) e (weight-le (open_tags a) (open_tags b) (h weight_of))

pub lighter-besides : (n : State) (a b : Tree) → open_tags a ≡ n.stack → IsLighterBesides a b → weight (open_tags b) ≤ weight n.stack
lighter-besides n a b e h = subst (λ s. weight (open_tags b) ≤ weight s) e (weight-le (open_tags a) (open_tags b) (h weight_of weight_of-formatting))

pub closed : (g : Group) (n : State) (a b : Tree) → open_tags a ≡ n.stack → HasClosed g a b → weight (open_tags b) + group_weight g ≤ weight n.stack
closed g n a b e h = subst (λ s. weight (open_tags b) + group_weight g ≤ weight s) e (weight-less (open_tags a) (open_tags b) (group_weight g) (h weight_of (group_weight g) (group-weighs g)))

-- the tags of the open elements are those of the view
pub stack-is : (v n : State) → v ≡ n → v.stack ≡ n.stack
stack-is v n e = ap (λ (x : State). x.stack) e

-- the ledger took a token first, and then the tree changed
pub taken-made : (v g n z : State) (t : TokenKind) (y : Symbol) → v ≡ g → g ≡ record n { ledger = g.ledger } → z.ledger ≡ v.ledger → stay_of z ≡ stay_of v → symbol_of t ≡ y → LedgerTakes y n.ledger g.ledger → Gives (stay_of n) n.ledger g.ledger → TreeKeeps v.tree z.tree → (at : Place) (d : NewNode) → z.tree.tree ≡ with_new v.tree.tree at d → Tells (t ∷ []) n z → Takes t n z
taken-made v g n z t y e r p b f k q j at d l x =
    taken n n z t y refl f
    (subst (λ m. LedgerTakes y n.ledger m) (sym (p ∙ ap (λ (x : State). x.ledger) e)) k)
    (subst (λ m. Gives (stay_of n) n.ledger m) (sym (p ∙ ap (λ (x : State). x.ledger) e)) q)
    (subst (λ x. TreeKeeps x z.tree) (ap (λ (x : State). x.tree) e ∙ ap (λ (x : State). x.tree) r) j)
    (ap (λ (t : Nodes). t.limits) l ∙ new-limits v.tree.tree at d ∙ ap (λ (x : State). x.tree.tree.limits) e ∙ ap (λ (x : State). x.tree.tree.limits) r)
    x (b ∙ ap stay_of e ∙ ap stay_of r)

-- the same, where the node was put into another tree of the same limits
pub taken-moved : (v g n z : State) (t : TokenKind) (y : Symbol) → v ≡ g → g ≡ record n { ledger = g.ledger } → z.ledger ≡ v.ledger → stay_of z ≡ stay_of v → symbol_of t ≡ y → LedgerTakes y n.ledger g.ledger → Gives (stay_of n) n.ledger g.ledger → TreeKeeps v.tree z.tree → z.tree.tree.limits ≡ v.tree.tree.limits → Tells (t ∷ []) n z → Takes t n z
taken-moved v g n z t y e r p b f k q j l x =
    taken n n z t y refl f
    (subst (λ m. LedgerTakes y n.ledger m) (sym (p ∙ ap (λ (x : State). x.ledger) e)) k)
    (subst (λ m. Gives (stay_of n) n.ledger m) (sym (p ∙ ap (λ (x : State). x.ledger) e)) q)
    (subst (λ x. TreeKeeps x z.tree) (ap (λ (x : State). x.tree) e ∙ ap (λ (x : State). x.tree) r) j)
    (l ∙ ap (λ (x : State). x.tree.tree.limits) e ∙ ap (λ (x : State). x.tree.tree.limits) r)
    x (b ∙ ap stay_of e ∙ ap stay_of r)

-- formatting elements were opened anew
formatting-weighs : (ts : List Tag) → list_all is_formatting ts ≡ true → weight ts ≡ 0
formatting-weighs [] e = refl
formatting-weighs (t ∷ ts) e = let p = both (is_formatting t) (list_all is_formatting ts) e in ap (λ m. m + weight ts) (weight_of-formatting t p.0) ∙ ap (λ n. 0 + n) (formatting-weighs ts p.1)

weight-append : (s r : List Tag) → weight (s ++ r) ≡ weight s + weight r
weight-append [] r = omega arith
weight-append (t ∷ s) r = rw (weight-append s r) (omega arith)

pub reopened : (n : State) (a b : Tree) → open_tags a ≡ n.stack → HasReopened a b → weight (open_tags b) ≤ weight n.stack
reopened n a b e h =
    let p : weight (open_tags b) ≡ weight h.opened + weight (open_tags a) = ap weight h.tags_are ∙ weight-append h.opened (open_tags a) in
    let z : weight h.opened ≡ 0 = formatting-weighs h.opened h.formatting in
    subst (λ s. weight (open_tags b) ≤ weight s) e (rw (p, z) (omega arith))

-- no node comes from a later token
pub still : (n m : ℕ) (l : Entries) (ms : List Mode) → m ≡ n → IsUnderWay n l ms → IsUnderWay m l ms
still n m l ms e u = record { tokens = subst (λ k. k ≤ number_of l) (sym e) u.tokens; templates_fit = u.templates_fit }

pub behind : (v g n : State) (k : ℕ) → v ≡ g → k ≡ number_of n.ledger → g.tree.tokens ≤ number_of n.ledger → v.tree.tokens ≤ k
behind v g n k e f h = rw (ap (λ (x : State). x.tree.tokens) e, f) h

pub made-next : (v g n : State) (k m : ℕ) (ms : List Mode) → v ≡ g → k ≡ number_of n.ledger → number_of g.ledger ≡ number_of n.ledger + 1 → m ≤ k + 1 → list_all is_reset ms ≡ true → IsUnderWay m v.ledger ms
made-next v g n k m ms e f c h r = record {
  tokens = rw (ap (λ (x : State). number_of x.ledger) e, c, sym f) h;
  templates_fit = r;
}

-- more and more tokens
pub with-both : (h : Handed) (ts us : List TokenKind) → with_tokens (with_tokens h ts) us ≡ with_tokens h (ts ++ us)
unfolding with_tokens
with-both h ts us = ap (λ vs. record h { tokens = vs }) (append_assoc h.tokens ts us)

with-none : (h : Handed) → with_tokens h [] ≡ h
unfolding with_tokens
with-none h = ap (λ vs. record h { tokens = vs }) (append-nil h.tokens)

-- settled code points, one after the other
pub next-settled : (a b d : State) (c : ℕ) (cs : List ℕ) → Releases (c ∷ cs) a b → Takes (kind.Char c) b d → Releases cs a d
next-settled a b d c cs r t = λ h w. let p = r h w in
    (with_tokens p.0 (kind.Char c ∷ []), t p.0 p.1, p.2 ∙ sym (with-both p.0 (kind.Char c ∷ []) (chars_of cs)))

pub all-settled : (a b : State) → Releases [] a b → Keeps a b
all-settled a b r = λ h w. let p = r h w in subst (λ x. IsBuilt x b) (sym (p.2 ∙ with-none p.0)) p.1

chars-back : (ts : List TokenKind) (cs : List ℕ) → symbols ts ≡ symbol_chars cs → ts ≡ chars_of cs
chars-back [] [] e = refl
chars-back [] (c ∷ cs) e = absurd cc
chars-back (t ∷ ts) [] e = absurd cc
chars-back (t ∷ ts) (c ∷ cs) e = ap (λ u. u ∷ ts) (char-is t c (ap first e)) ∙ ap (λ us. kind.Char c ∷ us) (chars-back ts cs (ap rest e))

split-symbols : (ts : List TokenKind) (ys : List Symbol) (cs : List ℕ) → symbols ts ≡ ys ++ symbol_chars cs → (front : List TokenKind) × (symbols front ≡ ys) × (ts ≡ front ++ chars_of cs)
split-symbols ts [] cs e = ([], refl, chars-back ts cs e)
split-symbols [] (y ∷ ys) cs e = absurd cc
split-symbols (t ∷ ts) (y ∷ ys) cs e = let p = split-symbols ts ys cs (ap rest e) in
    (t ∷ p.0, ap (λ z. z ∷ symbols p.0) (ap first e) ∙ ap (λ zs. y ∷ zs) p.1, ap (λ us. t ∷ us) p.2)

pub released : (v n z : State) (cs : List ℕ) → v ≡ n → stay_of z ≡ stay_of v → LedgerReleases cs v.ledger z.ledger → z.ledger.fates ≡ v.ledger.fates → z.tree ≡ v.tree → Releases cs n z
unfolding with_tokens
released v n z cs e i r m k = λ h w.
    let u : IsBuilt h v = subst (λ x. IsBuilt h x) (sym e) w in
    let p = r h.setting (symbols h.tokens) u.fed in
    let q = split-symbols h.tokens p.0 cs p.2 in (
      record h { tokens = q.0 },
      subst (λ (b : Tree). IsBuilt (record h { tokens = q.0 }) (record z { tree = b })) (sym k) (front h u q.0 q.2 (subst (λ ys. Fed h.setting z.ledger ys) (sym q.1) p.1)),
      ap (λ vs. record h { tokens = vs }) q.2,
    )
  where
    front : (h : Handed) → IsBuilt h v → (ts : List TokenKind) → h.tokens ≡ ts ++ chars_of cs → Fed h.setting z.ledger (symbols ts) → IsBuilt (record h { tokens = ts }) (record z { tree = v.tree })
    front h u ts q d =
        let x : Told ts v.ledger.fates v.tree.tree.labels =
        told-released ts (chars_of cs) v.ledger.fates v.tree.tree.labels (subst (λ fs. length fs ≤ length ts) m (fed-most h.setting z.ledger ts d)) (subst (λ us. Told us v.ledger.fates v.tree.tree.labels) q (told-built h v u)) in
        let y : Told ts z.ledger.fates v.tree.tree.labels = subst (λ fs. Told ts fs v.tree.tree.labels) (sym m) x in
        record {
          fed = d;
          known = subst (λ fs. BeginsWith h.known fs) (sym m) u.known;
          rooted = u.rooted;
          standing = u.standing;
          limits = u.limits;
          root = u.root;
          origins = y.origins;
          made = y.made;
          texts = y.texts;
          since = u.since;
          refusing = refusing-same h.setting v (record z { tree = v.tree }) m i u.refusing;
          call = call-same h.call v (record z { tree = v.tree }) m (ap (λ (y : Stay). y.began) i) u.call;
        }

-- a front of code points that may become text in one go
all-front : (cs : List ℕ) (n : ℕ) → list_all is_not_null cs ≡ true → list_all is_not_null (take n cs) ≡ true
all-front cs zero e = refl
all-front [] (suc n) e = refl
all-front (c ∷ cs) (suc n) e = let p = both (is_not_null c) (list_all is_not_null cs) e in and (is_not_null c) (list_all is_not_null (take n cs)) p.0 (all-front cs n p.1)

free-front : (h : History) (cs : List ℕ) (n : ℕ) → is_free_run h cs ≡ true → is_free_run h (take n cs) ≡ true
free-front h cs zero e = refl
free-front h [] (suc n) e = refl
free-front h (c ∷ cs) (suc n) e = e

pub front-run : (h : History) (cs : List ℕ) (n : ℕ) → IsTrue (may_text_run h cs) → IsTrue (may_text_run h (take n cs))
front-run h cs n e =
    let p = both (not h.awaits_doctype) (list_all is_not_null cs && is_free_run h cs) e in
    let q = both (list_all is_not_null cs) (is_free_run h cs) p.1 in
    and (not h.awaits_doctype) (list_all is_not_null (take n cs) && is_free_run h (take n cs)) p.0
    (and (list_all is_not_null (take n cs)) (is_free_run h (take n cs)) (all-front cs n q.0) (free-front h cs n q.1))

-- what one call of the tree makes of it
pub exactly : (v n z : State) (f : Tree → Tree) → v ≡ n → z.tree ≡ record (f v.tree) { steps = z.tree.steps } → IsTree (f n.tree) z
exactly v n z f e p = record { tree_is = p ∙ ap (λ (x : State). record (f x.tree) { steps = z.tree.steps }) e }

-- the ledger's one fate
pub fated : (v n z : State) (y : Symbol) (f : Fate) → v ≡ n → z.ledger ≡ given v.ledger y f → HasFate y f n z
fated v n z y f e p = record { ledger_is = p ∙ ap (λ (x : State). given x.ledger y f) e }

-- a formatting element, where the ledger took its token first
pub listed-made : (v g n z : State) (m o : List ℕ) (xs ys : List Attr) (k l : ℕ) → v ≡ g → g ≡ record n { ledger = g.ledger } → m ≡ o → xs ≡ ys → k ≡ l
    → z.tree ≡ record (listed_at v.fostering m xs k v.tree) { steps = z.tree.steps } → IsTree (listed_at n.fostering o ys l n.tree) z
listed-made v g n z m o xs ys k l e r p q i h = record {
  tree_is = h ∙ ap (λ (x : State). record (listed_at x.fostering m xs k x.tree) { steps = z.tree.steps }) (e ∙ r)
      ∙ ap (λ a. record (listed_at n.fostering a xs k n.tree) { steps = z.tree.steps }) p
      ∙ ap (λ bs. record (listed_at n.fostering o bs k n.tree) { steps = z.tree.steps }) q
      ∙ ap (λ j. record (listed_at n.fostering o ys j n.tree) { steps = z.tree.steps }) i;
}

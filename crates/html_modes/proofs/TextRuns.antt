-- What code points in a row make in the body of a plain page.
use Rattle.std.proofs.Common.{◌≡◌, ◌≤◌, ℕ, ◌+◌, ◌-◌, ◌*◌, Bool, false, not, cond, ◌==◌, List, [], ◌∷◌, ◌++◌, length, map, take, drop, refl, sym, ◌∙◌, ap, subst}
use Rattle.std.proofs.lemmas.List.{append_assoc, length-take-le}
use Rattle.html_tokens.specs.declared.token.TokenKind.TheVariants as kind
use Rattle.html_ledger.specs.Entries.{Entries, given, given_run}
use Rattle.html_ledger.specs.declared.fate.Fate.{Fate}
use Rattle.html_ledger.specs.declared.fate.Fate.TheVariants.{Text}
use Rattle.html_ledger.specs.declared.symbol.Symbol.TheVariants.{Char}
use Rattle.html_tree.specs.Closing.{popped}
use Rattle.html_tree.specs.OpenTags.{open_tags}
use Rattle.html_tree.specs.States.{IsSound, State as Open}
use Rattle.html_tree.specs.Steps.{text_steps}
use Rattle.html_tree.proofs.Counted.{more-more}
use Rattle.html_arena.specs.Tree.{more}
use Rattle.html_open.specs.Reopening.{look_steps}
use Rattle.html_tree.specs.Texts.{text_node, with_text}
use Rattle.html_construction.specs.declared.mode.Mode.{Mode}
use Rattle.html_construction.specs.declared.mode.Mode.TheVariants.{InBody}
use Rattle.html_construction.specs.Calls.{IsTree}
use Rattle.html_construction.specs.States.{State}
use Rattle.html_modes.specs.Plain.{AreListed, EndsCurrent, GoesOn, GoesOnText, HasSeen, IsNext, IsPlainState, IsRunTurn, StandsIn, closes, is_next, next_mode}
use Rattle.html_modes.proofs.InBody.{IsUnmoved, fostering-same, context-same, ledger-same, mode-same, node-same, text-same}
use Rattle.html_modes.proofs.Plain.{IsAlike, later, plain-alike}

pub fates-run : (e : Entries) (cs : List ℕ) (f : Fate) → (given_run e cs f).fates ≡ e.fates ++ map (λ c. f) cs
fates-run e [] f = by e.fates
  where
    by : (xs : List Fate) → xs ≡ xs ++ []
    by [] = refl
    by (x ∷ xs) = ap (λ v. x ∷ v) (by xs)
fates-run e (c ∷ cs) f = fates-run (given e (Char c) f) cs f ∙ append_assoc e.fates (f ∷ []) (map (λ c. f) cs)

pub turn-run : (run : List ℕ) (a m b : State) → IsPlainState a → IsUnmoved a m → b ≡ record m { tree = b.tree; ledger = b.ledger }
    → IsTree (record m.tree { tree = with_text m.tree m.fostering run }) b → b.ledger ≡ given_run m.ledger run (Text (text_node m.tree m.fostering)) → IsRunTurn run a b
turn-run run a m b p u r e h = record {
  turn = record {
    mode_is = ap (λ (x : State). x.mode) r ∙ mode-same a m u;
    tags_are = ap (λ (x : State). x.stack) r ∙ u.tags_are;
    stack_is = ap (λ (x : Open). x.stack) e.tree_is ∙ u.tree_same.stack_is;
    nodes_are = ap (λ (x : Open). x.tree) e.tree_is ∙ text-same a m run p u;
    list_is = ap (λ (x : Open). x.list) e.tree_is ∙ u.tree_same.list_is;
    fates_are = ap (λ (x : Entries). x.fates) ledger ∙ fates-run a.ledger run (Text (text_node a.tree false));
  };
  ledger_is = ledger;
  same_fostering = ap (λ (x : State). x.fostering) r ∙ fostering-same a m u;
  same_context = ap (λ (x : State). x.context) r ∙ context-same a m u;
}
  where
    ledger : b.ledger ≡ given_run a.ledger run (Text (text_node a.tree false))
    ledger = h ∙ ap (λ l. given_run l run (Text (text_node m.tree m.fostering))) (ledger-same a m u) ∙ ap (λ v. given_run a.ledger run (Text v)) (node-same a m p u)

pub run-flag : (f : Bool) (run : List ℕ) (a x b : State) → b ≡ record x { frameset_ok = f } → IsRunTurn run a x → IsRunTurn run a b
run-flag f run a x b e t = subst (λ (z : State). IsRunTurn run a z) (sym e) record {
  turn = record {
    mode_is = t.turn.mode_is;
    tags_are = t.turn.tags_are;
    stack_is = t.turn.stack_is;
    nodes_are = t.turn.nodes_are;
    list_is = t.turn.list_is;
    fates_are = t.turn.fates_are;
  };
  ledger_is = t.ledger_is;
  same_fostering = t.same_fostering;
  same_context = t.same_context;
}

-- nothing but steps was counted
pub run-looked : (run : List ℕ) (a x b : State) → b ≡ record x { tree = b.tree } → IsTree x.tree b → IsRunTurn run a x → IsRunTurn run a b
run-looked run a x b r e t = record {
  turn = record {
    mode_is = ap (λ (z : State). z.mode) r ∙ t.turn.mode_is;
    tags_are = ap (λ (z : State). z.stack) r ∙ t.turn.tags_are;
    stack_is = ap (λ (z : Open). z.stack) e.tree_is ∙ t.turn.stack_is;
    nodes_are = ap (λ (z : Open). z.tree) e.tree_is ∙ t.turn.nodes_are;
    list_is = ap (λ (z : Open). z.list) e.tree_is ∙ t.turn.list_is;
    fates_are = ap (λ (z : State). z.ledger.fates) r ∙ t.turn.fates_are;
  };
  ledger_is = ap (λ (z : State). z.ledger) r ∙ t.ledger_is;
  same_fostering = ap (λ (z : State). z.fostering) r ∙ t.same_fostering;
  same_context = ap (λ (z : State). z.context) r ∙ t.same_context;
}

-- the steps of text in a row
pub run-counted : (n : ℕ) (run : List ℕ) (a m x b : State) → n ≤ length run → m ≡ record a { tree = m.tree; stack = m.stack } → IsTree (record m.tree { tree = with_text m.tree m.fostering (take n run) }) x
    → x.tree.steps ≡ more m.tree.steps (text_steps m.tree m.fostering n) → b.tree.steps ≡ more x.tree.steps ((n - 1) * look_steps x.tree.list)
    → b.tree.steps ≡ more m.tree.steps (text_steps m.tree a.fostering (length (take n run)) + (length (take n run) - 1) * look_steps m.tree.list)
run-counted n run a m x b w r e k l =
    let g : m.fostering ≡ a.fostering = ap (λ (z : State). z.fostering) r in
    let j : x.tree.list ≡ m.tree.list = ap (λ (z : Open). z.list) e.tree_is in
    l ∙ ap (λ s. more s ((n - 1) * look_steps x.tree.list)) k ∙ more-more m.tree.steps (text_steps m.tree m.fostering n) ((n - 1) * look_steps x.tree.list)
    ∙ ap (λ q. more m.tree.steps (text_steps m.tree m.fostering n + (n - 1) * look_steps q)) j
    ∙ ap (λ h. more m.tree.steps (text_steps m.tree h n + (n - 1) * look_steps m.tree.list)) g
    ∙ ap (λ i. more m.tree.steps (text_steps m.tree a.fostering i + (i - 1) * look_steps m.tree.list)) (sym (length-take-le n run w))

-- what has been seen stays so
record HasPassed (e : Entries) : Type 0 where
  doctype : e.history.awaits_doctype ≡ false
  prolog : e.history.prolog ≡ false
  newline : e.history.ignore_line_feed ≡ false
  foreign : e.history.foreign ≡ false
  quiet : e.kept ≡ []

passed-run : (cs : List ℕ) (e : Entries) (d : ℕ) → HasPassed e → HasPassed (given_run e cs (Text d))
passed-run [] e d h = h
passed-run (c ∷ cs) e d h = passed-run cs (given e (Char c) (Text d)) d record {
  doctype = rw h.doctype refl;
  prolog = rw h.prolog refl;
  newline = refl;
  foreign = rw h.foreign refl;
  quiet = h.quiet;
}

passed-body : (a : State) → IsPlainState a → a.mode ≡ InBody → HasPassed a.ledger
passed-body a p e = let s = subst (λ m. HasSeen m a.ledger.history) e p.seen in record {
  doctype = s.0;
  prolog = s.1;
  newline = p.no_newline;
  foreign = p.no_foreign;
  quiet = p.quiet;
}

pub plain-run : (run : List ℕ) (a b : State) → IsPlainState a → a.mode ≡ InBody → IsRunTurn run a b → IsSound b.tree → b.stack ≡ open_tags b.tree → IsPlainState b
plain-run run a b p e t w g =
    let h : HasPassed b.ledger = subst HasPassed (sym t.ledger_is) (passed-run run a.ledger (text_node a.tree false) (passed-body a p e)) in
    record {
      unfostered = t.same_fostering ∙ p.unfostered;
      no_context = t.same_context ∙ p.no_context;
      quiet = h.quiet;
      no_newline = h.newline;
      no_foreign = h.foreign;
      seen = subst (λ m. HasSeen m b.ledger.history) (sym (t.turn.mode_is ∙ e)) (h.doctype, h.prolog);
      tags = g;
      sound = w;
      listed = subst (λ l. AreListed l b.tree.stack) (sym t.turn.list_is) (subst (λ s. AreListed a.tree.list s) (sym t.turn.stack_is) p.listed);
      stands = subst (λ m. StandsIn m b.stack) (sym t.turn.mode_is) (subst (λ s. StandsIn a.mode s) (sym t.turn.tags_are) p.stands);
    }

-- steps aside
run-later : (run : List ℕ) (a b : State) (s : ℕ) (m : Mode) (d n : ℕ) → IsRunTurn run (later a s m d n) b → IsRunTurn run a b
run-later run a b s m d n t = record {
  turn = record {
    mode_is = t.turn.mode_is;
    tags_are = t.turn.tags_are;
    stack_is = t.turn.stack_is;
    nodes_are = t.turn.nodes_are;
    list_is = t.turn.list_is;
    fates_are = t.turn.fates_are;
  };
  ledger_is = t.ledger_is;
  same_fostering = t.same_fostering;
  same_context = t.same_context;
}

then-later : (run : List ℕ) (a b : State) (s : ℕ) (m : Mode) (d n : ℕ) → IsRunTurn run a b → IsRunTurn run a (later b s m d n)
then-later run a b s m d n t = record {
  turn = record {
    mode_is = t.turn.mode_is;
    tags_are = t.turn.tags_are;
    stack_is = t.turn.stack_is;
    nodes_are = t.turn.nodes_are;
    list_is = t.turn.list_is;
    fates_are = t.turn.fates_are;
  };
  ledger_is = t.ledger_is;
  same_fostering = t.same_fostering;
  same_context = t.same_context;
}

pub run-goes-on : (run : List ℕ) (a n b d : State) → IsAlike a n → (IsPlainState n → n.mode ≡ InBody → IsRunTurn run n b) → IsAlike b d → IsSound d.tree → d.stack ≡ open_tags d.tree → GoesOnText run a d
run-goes-on run a n b d f t g w o = λ p e.
    let mode-n : n.mode ≡ InBody = ap (λ (x : State). x.mode) f.same ∙ e in
    let r : IsRunTurn run a b = run-later run a b n.tree.steps n.began n.depth n.nodes (subst (λ z. IsRunTurn run z b) f.same (t (plain-alike a n f p) mode-n)) in
    let all : IsRunTurn run a d = subst (λ z. IsRunTurn run a z) (sym g.same) (then-later run a b d.tree.steps d.began d.depth d.nodes r) in
    (all.turn, plain-run run a d p e all w o)

-- one code point
pub char-goes-on : (c : ℕ) (a b : State) → (c == 0) ≡ false → GoesOn (Char c) (kind.Char c) a b → GoesOnText (c ∷ []) a b
char-goes-on c a b v g = λ p e.
    let n : IsNext (Char c) (kind.Char c) a = record {
      plain = p;
      next = ap (λ m. is_next m a.stack (Char c)) e ∙ ap not v;
      ends = subst (λ m. EndsCurrent m (Char c) (kind.Char c) a) (sym e) tt;
    } in
    let r = g n in
    let open-is : closes a.mode (Char c) ≡ false = ap (λ m. closes m (Char c)) e in (
      record {
        mode_is = r.0.mode_is ∙ ap (λ m. next_mode m (Char c)) e ∙ sym e;
        tags_are = r.0.tags_are ∙ ap (λ x. cond x (drop 1 a.stack) a.stack) open-is;
        stack_is = r.0.stack_is ∙ ap (λ x. cond x (popped a.tree.stack) a.tree.stack) open-is;
        nodes_are = r.0.nodes_are;
        list_is = r.0.list_is;
        fates_are = ap (λ (x : Entries). x.fates) r.0.ledger_is.1;
      },
      r.1,
    )

-- What the calls are of plans.
use Rattle.std.proofs.Common.{◌≡◌, ◌&&◌, ◌++◌, ◌-◌, Bool, true, false, ℕ, List, [], ◌∷◌, Option, Some, None, is_some, length, nat_lt, refl, sym, ap, subst, ◌∙◌, if◌then◌else◌}
use Rattle.std.proofs.lemmas.Bool.{false≢true}
use Rattle.std.specs.Prelude.{slice_index}
use Rattle.html_names.specs.declared.tag.Tag.{Tag}
use Rattle.html_names.specs.declared.tag.Tag.TheVariants as tag
use Rattle.html_names.specs.Tags.{is_same}
use Rattle.html_arena.specs.Tree.{tag_at}
use Rattle.html_open.specs.declared.adoption.AdoptEnd.{AdoptEnd}
use Rattle.html_open.specs.Entries.{last_named, without_node}
use Rattle.html_tokens.specs.declared.token.TokenKind.{TokenKind}
use Rattle.html_tokens.specs.declared.token.TokenKind.TheVariants as kind
use Rattle.html_ledger.specs.declared.fate.Fate.{Fate}
use Rattle.html_ledger.specs.declared.fate.Fate.TheVariants.{Text}
use Rattle.html_ledger.specs.declared.symbol.Symbol.{Symbol}
use Rattle.html_ledger.specs.declared.symbol.Symbol.TheVariants.{Char}
use Rattle.html_ledger.specs.Entries.{Entries, ended, given}
use Rattle.html_ledger.specs.Symbols.{symbol_of}
use Rattle.html_tree.specs.declared.groups.Group.{Group}
use Rattle.html_tree.specs.declared.groups.Stop.{Stop as Ends}
use Rattle.html_tree.specs.declared.groups.Target.{Target}
use Rattle.html_tree.specs.declared.groups.Target.TheVariants as target
use Rattle.html_tree.specs.Closing.{before_index, closed_through, popped, remaining}
use Rattle.html_tree.specs.Groups.{in_group}
use Rattle.html_tree.specs.Listing.{IsAdopted, IsReopened}
use Rattle.html_tree.specs.Searching.{found, found_name}
use Rattle.html_tree.specs.States.{State as Tree}
use Rattle.html_tree.specs.Texts.{text_node, with_text}
use Rattle.html_construction.specs.Calls.{HasEnded, HasFate, IsLinkClosed, IsTree, is_unmoved}
use Rattle.html_construction.specs.Plans.{Adopt, Ask, Asks, Chooses, CloseLink, Do, Does, DoesAny, Passes, Reconstruct, Runs, adopts, asks, closes_link, closing, does, popping, reconstructs}
use Rattle.html_construction.specs.States.{State}
use Rattle.html_construction.specs.Tokens.{char_of, tag_name}
use Rattle.html_construction.specs.Words.{Becomes, BeginOwnPart, CanPop, CloseNamed, CloseThrough, End, Finds, Insert, InsertAt, InsertCharacter, InsertReplacement, InsertVoid, InsertVoidAt, Keep, Pop, Query, Word, after, answer, current_or_other, has_body, is_option_in_group, with_kept}

-- a state that is this one but for its tree and its tags, with this tree
pub becomes : (m b : State) → b ≡ record m { tree = b.tree; stack = b.stack } → IsTree m.tree b → Becomes m b
becomes m b r e = record { state_is = r ∙ ap (λ (x : Tree). record m { tree = x; stack = b.stack }) e.tree_is }

same : (a : State) → Becomes a a
same a = record { state_is = refl }

-- one thing was done
pub doing : (w : Word) (t : TokenKind) (a b : State) → b ≡ record (after w t a) { tree = b.tree; stack = b.stack } → IsTree (after w t a).tree b → Does w t a b
doing w t a b r e = λ rules p x z k. does w p t a b x z (becomes (after w t a) b r e) k

pub doing_any : (w : Word) (a b : State) → ((t : TokenKind) → b ≡ record (after w t a) { tree = b.tree; stack = b.stack }) → ((t : TokenKind) → IsTree (after w t a).tree b) → DoesAny w a b
doing_any w a b r e = λ rules t p x z k. does w p t a b x z (becomes (after w t a) b (r t) (e t)) k

-- where the token got its fate
pub fated : (y : Symbol) (t : TokenKind) (f : Fate) (s : List Tag) (a b : State) → symbol_of t ≡ y → b ≡ record a { tree = b.tree; ledger = b.ledger; stack = s } → HasFate y f a b → b ≡ record a { tree = b.tree; ledger = given a.ledger (symbol_of t) f; stack = b.stack }
fated y t f s a b k r h =
    r ∙ ap (λ (l : Entries). record a { tree = b.tree; ledger = l; stack = s }) (h.ledger_is ∙ ap (λ (x : Symbol). given a.ledger x f) (sym k))
    ∙ ap (λ (x : List Tag). record a { tree = b.tree; ledger = given a.ledger (symbol_of t) f; stack = x }) (sym (ap (λ (x : State). x.stack) r))

pub fated_any : (y : Symbol) (t : TokenKind) (f : Fate) (a b : State) → symbol_of t ≡ y → b ≡ record a { tree = b.tree; ledger = b.ledger; stack = b.stack } → HasFate y f a b → b ≡ record a { tree = b.tree; ledger = given a.ledger (symbol_of t) f; stack = b.stack }
fated_any y t f a b k r h = fated y t f b.stack a b k r h

-- a question was asked
pub asking : (q : Query) (x : Bool) (a b : State) → ((t : TokenKind) → x ≡ answer q t a) → b ≡ record a { tree = b.tree; stack = b.stack } → IsTree a.tree b → Asks q x a b
asking q x a b k r e = λ rules t p n z d h. asks q p n t a b z d (becomes a b r e) (subst (λ (y : Bool). Runs rules (if y then p else n) t b z d) (k t) h)

-- a part of a plan that asks once, and then does one thing or nothing
forked : (q : Query) (w : Word) (x : Bool) (a b : State) → ((t : TokenKind) → x ≡ answer q t a) → (x ≡ true → (t : TokenKind) → Becomes (after w t a) b) → (x ≡ false → Becomes a b) → Chooses (λ p n. Ask q (Do w p) n) x a b
forked q w true a b k y n = λ r t p o z d h. asks q (Do w p) o t a a z d (same a) (subst (λ (v : Bool). Runs r (if v then Do w p else o) t a z d) (k t) (does w p t a b z d (y refl t) h))
forked q w false a b k y n = λ r t p o z d h. asks q (Do w p) o t a b z d (n refl) (subst (λ (v : Bool). Runs r (if v then Do w p else o) t b z d) (k t) h)

not-found : (s : List ℕ) (i : Option ℕ) → is_some i ≡ false → before_index i s ≡ s
not-found s None e = refl
not-found s (Some i) e = absurd (false≢true (sym e))

pub closing_by : (g : Group) (e : Ends) (x : Bool) (a b : State) → x ≡ is_some (found a.tree g e) → b ≡ record a { tree = b.tree; stack = b.stack } → IsTree (record a.tree { stack = closed_through a.tree g e }) b → Chooses (closing g e) x a b
closing_by g e x a b k r i = forked (Finds g e) (CloseThrough g e) x a b (λ t. k) (λ y t. becomes (after (CloseThrough g e) t a) b r i)
    (λ n. becomes a b r (record { tree_is = i.tree_is ∙ ap (λ (s : List ℕ). record a.tree { stack = s; steps = b.tree.steps }) (not-found a.tree.stack (found a.tree g e) (sym k ∙ n)) }))

pub popping_by : (g : Group) (x : Bool) (a b : State) → x ≡ (nat_lt 1 (length a.tree.stack) && in_group g (current_or_other a.tree)) → b ≡ record a { tree = b.tree; stack = b.stack } → (x ≡ true → IsTree (record a.tree { stack = popped a.tree.stack }) b) → (x ≡ false → IsTree a.tree b) → Chooses (popping g) x a b
popping_by g x a b k r y n = forked (CanPop g) Pop x a b (λ t. k) (λ h t. becomes (after Pop t a) b r (y h)) (λ h. becomes a b r (n h))

-- an end tag, or the end of the file
pub ending_by : (y : Symbol) (t : TokenKind) (a b : State) → symbol_of t ≡ y → b ≡ record a { tree = b.tree; ledger = b.ledger; stack = b.stack } → IsTree a.tree b → b.ledger ≡ ended a.ledger y (is_unmoved a) → Does End t a b
ending_by y t a b k r i h = doing End t a b (r ∙ ap (λ (l : Entries). record a { tree = b.tree; ledger = l; stack = b.stack }) (h ∙ ap (λ (x : Symbol). ended a.ledger x (is_unmoved a)) (sym k))) i

-- the code point of a token
code_of : Symbol → List ℕ
code_of (Char c) = c ∷ []
code_of _ = []

char-code : (t : TokenKind) → char_of t ≡ code_of (symbol_of t)
unfolding code_of
char-code (kind.Start name attrs self_closing) = refl
char-code (kind.End name) = refl
char-code (kind.Char c) = refl
char-code (kind.Comment text) = refl
char-code (kind.Doctype name public_id system_id force_quirks) = refl
char-code kind.Eof = refl

char-is : (t : TokenKind) (c : ℕ) → symbol_of t ≡ Char c → char_of t ≡ c ∷ []
unfolding code_of
char-is t c k = char-code t ∙ ap code_of k

pub typing_by : (c : ℕ) (t : TokenKind) (a b : State) → symbol_of t ≡ Char c → b ≡ record a { tree = b.tree; ledger = b.ledger; stack = b.stack } → HasFate (Char c) (Text (text_node a.tree a.fostering)) a b → IsTree (record a.tree { tree = with_text a.tree a.fostering (c ∷ []) }) b → Does InsertCharacter t a b
typing_by c t a b k r h i = doing InsertCharacter t a b (fated_any (Char c) t (Text (text_node a.tree a.fostering)) a b k r h)
    (record { tree_is = i.tree_is ∙ ap (λ (s : List ℕ). record a.tree { tree = with_text a.tree a.fostering s; steps = b.tree.steps }) (sym (char-is t c k)) })

pub replacing_by : (c : ℕ) (t : TokenKind) (a b : State) → symbol_of t ≡ Char c → b ≡ record a { tree = b.tree; ledger = b.ledger; stack = b.stack } → HasFate (Char c) (Text (text_node a.tree a.fostering)) a b → IsTree (record a.tree { tree = with_text a.tree a.fostering (65533 ∷ []) }) b → Does InsertReplacement t a b
replacing_by c t a b k r h i = doing InsertReplacement t a b (fated_any (Char c) t (Text (text_node a.tree a.fostering)) a b k r h) (record { tree_is = i.tree_is })

-- any other end tag
pub closing_named : (name : List ℕ) (a b : State) → b ≡ record a { tree = b.tree; stack = b.stack } → IsTree (record a.tree { stack = before_index (found_name a.tree name) a.tree.stack }) b → (t : TokenKind) → tag_name t ≡ name → Does CloseNamed t a b
closing_named name a b r i t k = doing CloseNamed t a b r (record { tree_is = i.tree_is ∙ ap (λ (n : List ℕ). record a.tree { stack = before_index (found_name a.tree n) a.tree.stack; steps = b.tree.steps }) (sym k) })

-- relations
pub reconstructing : (a b : State) → b ≡ record a { tree = b.tree; stack = b.stack } → b.tree ≡ record a.tree { stack = b.tree.stack; list = b.tree.list; tree = b.tree.tree; steps = b.tree.steps } → IsReopened a.fostering a.tree b.tree → Passes (λ p. Reconstruct p) a b
reconstructing a b r q i = λ rules t p e z k. reconstructs p t a b e z (record { rest = r; pointers = q }) i k

pub adopting : (g : Tag) (a b : State) → b ≡ record a { tree = b.tree; stack = b.stack } → b.tree ≡ record a.tree { stack = b.tree.stack; list = b.tree.list; tree = b.tree.tree; steps = b.tree.steps } → HasEnded g a.fostering a.tree b.tree → Passes (λ p. Adopt g p) a b
adopting g a b r q i = λ rules t p e z k. adopts g p t a b e z (record { rest = r; pointers = q }) i k

pub closing_link : (a b : State) → b ≡ record a { tree = b.tree; stack = b.stack } → b.tree ≡ record a.tree { stack = b.tree.stack; list = b.tree.list; tree = b.tree.tree; steps = b.tree.steps } → IsLinkClosed a.fostering a.tree b.tree → Passes (λ p. CloseLink p) a b
closing_link a b r q i = λ rules t p e z k. closes_link p t a b e z (record { rest = r; pointers = q }) i k

-- the appropriate place
pub inserting_here : (g : Target) (t : TokenKind) (a b : State) → g ≡ target.Current a.fostering → b ≡ record (after (InsertAt g) t a) { tree = b.tree; stack = b.stack } → IsTree (after (InsertAt g) t a).tree b → Does Insert t a b
inserting_here g t a b k r e = doing Insert t a b r (subst (λ (x : Target). IsTree (after (InsertAt x) t a).tree b) k e)

pub voiding_here : (n : Tag) (g : Target) (t : TokenKind) (a b : State) → g ≡ target.Current a.fostering → b ≡ record (after (InsertVoidAt n g) t a) { tree = b.tree; stack = b.stack } → IsTree (after (InsertVoidAt n g) t a).tree b → Does (InsertVoid n) t a b
voiding_here n g t a b k r e = doing (InsertVoid n) t a b r (subst (λ (x : Target). IsTree (after (InsertVoidAt n x) t a).tree b) k e)

-- a state that is the one to be made
is_made_so : (m b : State) → b ≡ m → Becomes m b
is_made_so m b q = subst (λ (x : State). Becomes m x) (sym q) (same m)

-- a code point of a table's text
pub keeping : (c : ℕ) (t : TokenKind) (a b : State) (l : Entries) → symbol_of t ≡ Char c → b ≡ record a { ledger = l } → l ≡ record a.ledger { kept = a.ledger.kept ++ c ∷ [] } → Does Keep t a b
keeping c t a b l k r e = λ rules p x z h. does Keep p t a b x z
    (is_made_so (after Keep t a) b (r ∙ ap (λ (y : Entries). record a { ledger = y }) e ∙ ap (λ (s : List ℕ). with_kept (a.ledger.kept ++ s) a) (sym (char-is t c k)))) h

pub kept_out : (a b : State) (l : Entries) → b ≡ record a { ledger = l } → l ≡ record a.ledger { kept = [] } → b ≡ with_kept [] a
kept_out a b l r e = r ∙ ap (λ (y : Entries). record a { ledger = y }) e

pub ruleset kept_rules = (keeping, kept_out)

-- the token's own part begins
pub own_part_by : (n k : ℕ) (a b : State) → b ≡ record a { depth = n; nodes = k } → n ≡ length a.tree.stack → k ≡ length a.tree.tree.labels → DoesAny BeginOwnPart a b
own_part_by n k a b r e f = λ rules t p x z h. does BeginOwnPart p t a b x z
    (is_made_so (after BeginOwnPart t a) b (r ∙ ap (λ (i : ℕ). record a { depth = i; nodes = k }) e ∙ ap (λ (i : ℕ). record a { depth = length a.tree.stack; nodes = i }) f)) h

pub ruleset own_part = (own_part_by)

-- a link that is listed
adopted-later : (g : Tag) (f : Bool) (n : AdoptEnd) (a : Tree) (s : ℕ) (m : Tree) → IsAdopted g f n (record a { steps = s }) m → IsAdopted g f n a m
adopted-later g f n a s m h = record { old = h.old; new = h.new; old_is = h.old_is; new_is = h.new_is; adopted = h.adopted }

ended-later : (g : Tag) (f : Bool) (a b m : Tree) → b ≡ record a { steps = b.steps } → HasEnded g f b m → HasEnded g f a m
ended-later g f a b m e h =
    let k : HasEnded g f (record a { steps = b.steps }) m = subst (λ (x : Tree). HasEnded g f x m) e h in
    record { end = k.end; middle = k.middle; adopted = adopted-later g f k.end a b.steps k.middle k.adopted; done = k.done; other = k.other }

pub link-none : (f : Bool) (r : Option ℕ) (a b : State) → r ≡ last_named a.tree.tree tag.A a.tree.list → r ≡ None → IsTree a.tree b → IsLinkClosed f a.tree b.tree
link-none f r a b e n i = record { none = λ q. i.tree_is; some = λ x q. absurd (let z : None ≡ Some x = sym n ∙ (e ∙ q) in cc) }

pub link-some : (r : Option ℕ) (x : ℕ) (a b c d z : State) → r ≡ last_named a.tree.tree tag.A a.tree.list → r ≡ Some x → b ≡ record a { tree = b.tree } → IsTree a.tree b → HasEnded tag.A b.fostering b.tree c.tree
    → IsTree (record c.tree { list = without_node x c.tree.list }) d → IsTree (record d.tree { stack = remaining x d.tree.stack }) z → IsLinkClosed a.fostering a.tree z.tree
link-some r x a b c d z e n k i h u v = record {
  none = λ q. absurd (let w : Some x ≡ None = sym n ∙ (e ∙ q) in cc);
  some = λ y q. (
    c.tree,
    ended-later tag.A a.fostering a.tree b.tree c.tree i.tree_is (subst (λ (f : Bool). HasEnded tag.A f b.tree c.tree) (ap (λ (s : State). s.fostering) k) h),
    subst (λ (w : ℕ). z.tree ≡ record c.tree { list = without_node w c.tree.list; stack = remaining w c.tree.stack; steps = z.tree.steps }) (let w : Some x ≡ Some y = sym n ∙ (e ∙ q) in cc)
        (v.tree_is ∙ ap (λ (t : Tree). record t { stack = remaining x t.stack; steps = z.tree.steps }) u.tree_is),
  );
}

pub link-not : (f : Bool) (r : Option ℕ) (a b : State) → r ≡ last_named a.tree.tree tag.A a.tree.list → ((x : ℕ) → r ≡ Some x → ⊥) → IsTree a.tree b → IsLinkClosed f a.tree b.tree
link-not f r a b e n i = link-none f r a b e (by r n) i
  where
    by : (o : Option ℕ) → ((x : ℕ) → o ≡ Some x → ⊥) → o ≡ None
    by None k = refl
    by (Some x) k = absurd (k x refl)

pub moved : (a b : State) → b ≡ record a { tree = b.tree } → b ≡ record a { tree = b.tree; stack = b.stack }
moved a b r = r ∙ ap (λ (s : List Tag). record a { tree = b.tree; stack = s }) (sym (ap (λ (x : State). x.stack) r))

pub link-moved : (a b c d z : State) → b ≡ record a { tree = b.tree } → c ≡ record b { tree = c.tree; stack = c.stack } → d ≡ record c { tree = d.tree } → z ≡ record d { tree = z.tree; stack = z.stack } → z ≡ record a { tree = z.tree; stack = z.stack }
link-moved a b c d z k l m n = n ∙ ap to m ∙ ap to l ∙ ap to k
  where
    to : State → State
    to x = record x { tree = z.tree; stack = z.stack }

pub ruleset link_rules = (link-none)

-- the second open element
pub body-none : (n : ℕ) (a : Tree) → n ≡ length a.stack → nat_lt 1 n ≡ false → false ≡ has_body a
body-none n a e l = sym (rw (sym e, l) refl)

pub body-some : (n : ℕ) (g : Tag) (a b : State) → n ≡ length a.tree.stack → nat_lt 1 n ≡ true → b ≡ record a { tree = record a.tree { steps = b.tree.steps } } → g ≡ tag_at b.tree.tree (slice_index b.tree.stack 1) → is_same g tag.Body ≡ has_body a.tree
body-some n g a b e l r k = rw (sym e, l) (ap (λ (h : Tag). is_same h tag.Body) (k ∙ ap (λ (x : State). tag_at x.tree.tree (slice_index x.tree.stack 1)) r))

pub ruleset body_rules = (body-none, body-some)

-- an option that stands on an optgroup
pub option-none : (n : ℕ) (a : Tree) → n ≡ length a.stack → nat_lt 1 n ≡ false → false ≡ is_option_in_group a
option-none n a e l = sym (rw (sym e, l) refl)

pub option-other : (n i : ℕ) (g : Tag) (a b : State) → n ≡ length a.tree.stack → nat_lt 1 n ≡ true → i ≡ n - 1 → b ≡ record a { tree = record a.tree { steps = b.tree.steps } }
    → g ≡ tag_at b.tree.tree (slice_index b.tree.stack i) → is_same g tag.Option ≡ false → false ≡ is_option_in_group a.tree
option-other n i g a b e l d r k f =
    let here : g ≡ tag_at a.tree.tree (slice_index a.tree.stack (n - 1)) = k ∙ ap (λ (x : State). tag_at x.tree.tree (slice_index x.tree.stack i)) r ∙ ap (λ (j : ℕ). tag_at a.tree.tree (slice_index a.tree.stack j)) d in
    sym (rw (sym e, l, sym here, f) refl)

pub option-some : (n i j : ℕ) (g h : Tag) (a b c : State) → n ≡ length a.tree.stack → nat_lt 1 n ≡ true → i ≡ n - 1 → j ≡ n - 2 → b ≡ record a { tree = record a.tree { steps = b.tree.steps } }
    → c ≡ record b { tree = record b.tree { steps = c.tree.steps } } → g ≡ tag_at b.tree.tree (slice_index b.tree.stack i) → h ≡ tag_at c.tree.tree (slice_index c.tree.stack j) → is_same g tag.Option ≡ true
    → is_same h tag.Optgroup ≡ is_option_in_group a.tree
option-some n i j g h a b c e l d m r q k o f =
    let here : g ≡ tag_at a.tree.tree (slice_index a.tree.stack (n - 1)) = k ∙ ap (λ (x : State). tag_at x.tree.tree (slice_index x.tree.stack i)) r ∙ ap (λ (y : ℕ). tag_at a.tree.tree (slice_index a.tree.stack y)) d in
    let there : h ≡ tag_at a.tree.tree (slice_index a.tree.stack (n - 2)) = o ∙ ap (λ (x : State). tag_at x.tree.tree (slice_index x.tree.stack j)) q ∙ ap (λ (x : State). tag_at x.tree.tree (slice_index x.tree.stack j)) r
    ∙ ap (λ (y : ℕ). tag_at a.tree.tree (slice_index a.tree.stack y)) m in
    rw (sym e, l, sym here, f) (ap (λ (x : Tag). is_same x tag.Optgroup) there)

pub ruleset option_rules = (option-none, option-other, option-some)

pub ruleset doing_rules = (inserting_here, voiding_here, closing_named, reconstructing, adopting, closing_link, doing, doing_any, fated, fated_any, asking, closing_by, popping_by, ending_by, typing_by, replacing_by)

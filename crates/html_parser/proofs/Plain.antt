-- The text of a plain page has that page's tokens, whatever is said of the text after its tokens: of none anything is, and none begins foreign content.
use Rattle.std.proofs.Common.{◌≡◌, ℕ, zero, suc, ◌+◌, ◌-◌, ◌<◌, ◌≤◌, ◌⊎◌, inl, inr, List, [], ◌∷◌, ◌++◌, length, drop, take, Option, Some, None, codes, Bool, true, false, refl, sym, ◌∙◌, ap, subst, arith}
use Rattle.std.specs.Prelude.{slice_get}
use Rattle.std.specs.List.{AllByRecursion}
use Rattle.std.proofs.lemmas.Bool.{false≢true}
use Rattle.std.proofs.lemmas.Option.{slice_get_within}
use Rattle.html_names.specs.declared.tag.Tag.{Tag}
use Rattle.std.proofs.lemmas.List.{length-map, map-append}
use Rattle.html_names.specs.Names.{tag_of}
use Rattle.html_charref.specs.declared.table.Row.{Row}
use Rattle.html_tokens.specs.declared.token.TextMode.{TextMode}
use Rattle.html_tokens.specs.declared.token.TextMode.TheVariants.{Data}
use Rattle.html_tokens.specs.declared.token.Token.{Token}
use Rattle.html_tokens.specs.declared.token.TokenKind.{TokenKind}
use Rattle.html_tokens.specs.declared.token.TokenKind.TheVariants as kind
use Rattle.html_tokens.specs.Tokens.{mode_after, mode_after_kind, name_after, next, tokens_after}
use Rattle.html_arena.specs.Forest.{Forest}
use Rattle.html_arena.specs.Forest.Forest.{empty, tree}
use Rattle.html_ledger.specs.declared.fate.Fate.{Fate}
use Rattle.html_ledger.specs.declared.fate.Fate.TheVariants as fate
use Rattle.html_ledger.specs.declared.setting.Setting.{Setting}
use Rattle.html_ledger.specs.declared.setting.Setting.TheVariants.{Document}
use Rattle.html_ledger.specs.declared.symbol.Symbol.{Symbol}
use Rattle.html_ledger.specs.declared.symbol.Symbol.TheVariants as symbol
use Rattle.html_ledger.specs.Fated.{Fated, MayHave}
use Rattle.html_ledger.specs.MayDrop.{MayBeForeign, embeds, is_foreign_root}
use Rattle.html_ledger.specs.Symbols.{symbol_of}
use Rattle.html_construction.specs.Built.{symbols}
use Rattle.html_builder.specs.Switches.{switch_after, switch_by, switch_of}
use Rattle.html_page.specs.Label.{Label}
use Rattle.html_page.specs.Label.Label.{document, doctype, element, text, comment}
use Rattle.html_page.specs.PageTokens.{HasCore, chars_then, kinds_then, page_kinds}
use Rattle.html_page.specs.Plain.{IsContent, IsPlainName, IsPlainPage}
use Rattle.html_page.specs.Html.{html_of}
use Rattle.html_page.specs.declared.profile.Profile.{Profile}
use Rattle.html_page.proofs.Names.{each-name}
use Rattle.html_page.proofs.PageReads.{page-tokens}
use Rattle.html_charref.specs.Table.{IsTable}
use Rattle.html_tokens.specs.declared.attributes.Attr.{Attr}
use Rattle.html_parser.specs.Kinds.{kinds}
use Rattle.html_parser.specs.Said.{AreSaid, MaySayAfter}
use Rattle.html_parser.proofs.Switching.{get-whole, since-more}

-- nothing is said of the text after it, and it begins no foreign content
abbrev pub is_root : Symbol → Bool
is_root (symbol.Start t) = is_foreign_root t
is_root _ = false

pub record IsCalm (k : TokenKind) : Type 0 where
  pub quiet : (f : Fate) → switch_by k f ≡ None
  pub plain : is_root (symbol_of k) ≡ false

abbrev pub AreCalm : List TokenKind → Type 0
AreCalm ks = AllByRecursion IsCalm ks

get-none : {A : Type 0} → (i : ℕ) → slice_get {X = A} [] i ≡ None
get-none zero = refl
get-none (suc i) = refl

some-none : {A B : Type 0} → (x : A) → Some x ≡ None → B
some-none x e = absurd (let k = e in cc)

same-some : {A : Type 0} → (x y : A) → Some x ≡ Some y → x ≡ y
same-some x y e = cc

calm-front : (ks more : List TokenKind) → AreCalm (ks ++ more) → AreCalm ks × AreCalm more
calm-front [] more q = (tt, q)
calm-front (k ∷ ks) more q = let r = calm-front ks more q.1 in ((q.0, r.0), r.1)

-- WHERE THE TOKENS ARE CALM NOTHING IS SAID

-- the tokens up to this one are calm
abbrev AreCalmTo : ℕ → List TokenKind → Type 0
AreCalmTo n ks = (i : ℕ) (k : TokenKind) → i ≤ n → slice_get ks i ≡ Some k → IsCalm k

-- each token says nothing that comes behind calm ones, and is calm
abbrev Hushed : List (Option TextMode) → List TokenKind → Type 0
Hushed said ks = (n : ℕ) (m : Option TextMode) → AreCalmTo n ks → slice_get said n ≡ Some m → m ≡ None

get-symbol : (ks : List TokenKind) (i : ℕ) (y : Symbol) → slice_get (symbols ks) i ≡ Some y → (k : TokenKind) × (slice_get ks i ≡ Some k) × (symbol_of k ≡ y)
get-symbol [] i y e = some-none y (sym e ∙ get-none i)
get-symbol (k ∷ ks) zero y e = (k, refl, same-some (symbol_of k) y e)
get-symbol (k ∷ ks) (suc i) y e = get-symbol ks i y e

get-before : {A : Type 0} → (n : ℕ) (xs : List A) (i : ℕ) (x : A) → slice_get (take n xs) i ≡ Some x → i < n
get-before zero xs i x e = some-none x (sym e ∙ get-none i)
get-before (suc n) [] i x e = some-none x (sym e ∙ get-none i)
get-before (suc n) (y ∷ xs) zero x e = omega arith
get-before (suc n) (y ∷ xs) (suc i) x e = let less = get-before n xs i x e in omega (arith, less)

get-taken-later : {A : Type 0} → (n m : ℕ) (xs : List A) (i : ℕ) (x : A) → n ≤ m → slice_get (take n xs) i ≡ Some x → slice_get (take m xs) i ≡ Some x
get-taken-later zero m xs i x h e = some-none x (sym e ∙ get-none i)
get-taken-later (suc n) zero xs i x h e = absurd (omega (arith, h))
get-taken-later (suc n) (suc m) [] i x h e = some-none x (sym e ∙ get-none i)
get-taken-later (suc n) (suc m) (y ∷ xs) zero x h e = e
get-taken-later (suc n) (suc m) (y ∷ xs) (suc i) x h e = get-taken-later n m xs i x (omega (arith, h)) e

-- only of a start tag is an element of foreign content made
embedded : (s : Setting) (before : List Symbol) (given : List Fate) (y : Symbol) (f : Fate) → embeds y f ≡ true → MayHave s before given y f → (is_root y ≡ true) ⊎ MayBeForeign s before given
embedded s before given (symbol.Start t) (fate.Foreign d) e h = h
embedded s before given (symbol.Start t) (fate.Made d) e h = absurd (false≢true e)
embedded s before given (symbol.Start t) fate.Merged e h = absurd (false≢true e)
embedded s before given (symbol.Start t) (fate.Text d) e h = absurd (false≢true e)
embedded s before given (symbol.Start t) (fate.Dropped c) e h = absurd (false≢true e)
embedded s before given (symbol.Start t) fate.Ended e h = absurd (false≢true e)
embedded s before given (symbol.End t) f e h = absurd (false≢true e)
embedded s before given (symbol.Char c) f e h = absurd (false≢true e)
embedded s before given symbol.Comment f e h = absurd (false≢true e)
embedded s before given symbol.Doctype f e h = absurd (false≢true e)
embedded s before given symbol.Eof f e h = absurd (false≢true e)

-- of calm tokens of a document no element of foreign content was made
no-foreign : (ys : List Symbol) (fs : List Fate) → Fated Document ys fs → (most n : ℕ) → n ≤ most → ((i : ℕ) (y : Symbol) → i < n → slice_get ys i ≡ Some y → is_root y ≡ false)
    → MayBeForeign Document ys (take n fs) → ⊥
no-foreign ys fs w most n h calm (inr e) = absurd (false≢true e)
no-foreign ys fs w zero n h calm (inl m) = let less = get-before n fs m.at m.fate m.fate_is in absurd (omega (arith, less, h))
no-foreign ys fs w (suc most) n h calm (inl m) =
    let less = get-before n fs m.at m.fate m.fate_is in
    let is = w.each m.at m.token m.fate m.token_is (get-whole n fs m.at m.fate m.fate_is) in
    elim (embedded Document (take m.at ys) (take m.at fs) m.token m.fate m.is_such is.may) [
      | inl e ↦ absurd (false≢true (sym (calm m.at m.token less m.token_is) ∙ e))
      | inr e ↦ no-foreign ys fs w most m.at (omega (arith, less, h)) (λ i y k is. calm i y (omega (arith, k, less)) is)
          (since-more Document (take m.at ys) ys (take m.at fs) (take m.at fs) (λ i y is. get-whole m.at ys i y is) (λ i f is. is) e)
    ]

quiet-after : (k : TokenKind) (o : Option Fate) → IsCalm k → switch_after k o ≡ None
quiet-after k None q = refl
quiet-after k (Some f) q = q.quiet f

get-some : (xs : List TokenKind) (i : ℕ) → i < length xs → (x : TokenKind) × (slice_get xs i ≡ Some x)
get-some [] i h = absurd (omega (arith, h))
get-some (x ∷ xs) zero h = (x, refl)
get-some (x ∷ xs) (suc i) h = let less : suc i < suc (length xs) = h in get-some xs i (omega (arith, less))

-- so it is with what tokens say
pub hushed : (ks : List TokenKind) (fs : List Fate) (said : List (Option TextMode)) → Fated Document (symbols ks) fs → AreSaid Document ks fs said → Hushed said ks
hushed ks fs said w a n m calm is =
    let within : n < length said = slice_get_within said n m is in
    let count : length said ≡ length ks = a.count in
    let token = get-some ks n (omega (arith, within, count)) in
    by (a.each n token.0 m token.1 is) (calm n token.0 (omega arith) token.1)
  where
    by : {k : TokenKind} → MaySayAfter Document ks (take (suc n) fs) k (slice_get fs n) m → IsCalm k → m ≡ None
    by {k} (inl e) q = e ∙ quiet-after k (slice_get fs n) q
    by {k} (inr (none, foreign, data_is)) q =
        absurd (no-foreign (symbols ks) fs w (suc n) (suc n) (omega arith)
        (λ i y less e.
        let t = get-symbol ks i y e in
        ap is_root (sym t.2) ∙ (calm i t.0 (omega (arith, less)) t.1).plain) foreign)

calm-next : (k : TokenKind) (ks : List TokenKind) (n : ℕ) → IsCalm k → AreCalmTo n ks → AreCalmTo (suc n) (k ∷ ks)
calm-next k ks n q h zero u less is = subst IsCalm (same-some k u is) q
calm-next k ks n q h (suc i) u less is = h i u (omega (arith, less)) is

hushed-next : (m : Option TextMode) (said : List (Option TextMode)) (k : TokenKind) (ks : List TokenKind) → IsCalm k → Hushed (m ∷ said) (k ∷ ks) → Hushed said ks
hushed-next m said k ks q h n r calm is = h (suc n) r (calm-next k ks n q calm) is

none-hushed : (ks : List TokenKind) → Hushed [] ks
none-hushed ks n m calm is = some-none m (sym is ∙ get-none n)

drop-nothing : (n : ℕ) → drop {A = Option TextMode} n [] ≡ []
drop-nothing zero = refl
drop-nothing (suc n) = refl

hushed-drop : (ks more : List TokenKind) (said : List (Option TextMode)) → AreCalm ks → Hushed said (ks ++ more) → Hushed (drop (length ks) said) more
hushed-drop [] more said q h = h
hushed-drop (k ∷ ks) more [] q h = none-hushed more
hushed-drop (k ∷ ks) more (m ∷ said) q h = hushed-drop ks more said q.1 (hushed-next m said k (ks ++ more) q.0 h)

hushed-first : (m : Option TextMode) (said : List (Option TextMode)) (k : TokenKind) (ks : List TokenKind) → IsCalm k → Hushed (m ∷ said) (k ∷ ks) → m ≡ None
hushed-first m said k ks q h = h 0 m (first k q) refl
  where
    first : (k : TokenKind) → IsCalm k → AreCalmTo 0 (k ∷ ks)
    first k q zero u less is = subst IsCalm (same-some k u is) q
    first k q (suc i) u less is = absurd (omega (arith, less))

same-mode : (ts : List Token) (more : List TokenKind) (said : List (Option TextMode)) (mode : TextMode) → AreCalm (kinds ts) → Hushed said (kinds ts ++ more) → mode_after ts said mode ≡ mode_after ts [] mode
same-mode [] more said mode q h = refl
same-mode (t ∷ ts) more [] mode q h = refl
same-mode (t ∷ ts) more (m ∷ said) mode q h =
    ap (λ x. mode_after ts said (mode_after_kind t.kind x mode)) (hushed-first m said t.kind (kinds ts ++ more) q.0 h)
    ∙ same-mode ts more said (mode_after_kind t.kind None mode) q.1 (hushed-next m said t.kind (kinds ts ++ more) q.0 h)

-- so the tokens are those of which nothing is said
pub same-tokens : (rows : List Row) (passed : ℕ) (mode : TextMode) (name : Option (List ℕ)) (place : ℕ) (text : List ℕ) (said : List (Option TextMode))
    → AreCalm (kinds (tokens_after rows passed mode name place text [])) → Hushed said (kinds (tokens_after rows passed mode name place text said))
    → tokens_after rows passed mode name place text said ≡ tokens_after rows passed mode name place text []
unfolding tokens_after
same-tokens rows passed mode name place [] said q h = refl
same-tokens rows (suc k) mode name place (c ∷ rest) said q h = same-tokens rows k mode name (place + 1) rest said q h
same-tokens rows zero mode name place (c ∷ rest) said q h =
    let first = next rows mode name place (c ∷ rest) in
    by first.tokens (first.len - 1) (name_after first.tokens name) (λ m s. same-tokens rows (first.len - 1) m (name_after first.tokens name) (place + 1) rest s) q h
  where
    by : (ts : List Token) (passed : ℕ) (n : Option (List ℕ))
        → ((m : TextMode) (s : List (Option TextMode)) → AreCalm (kinds (tokens_after rows passed m n (place + 1) rest []))
        → Hushed s (kinds (tokens_after rows passed m n (place + 1) rest s)) → tokens_after rows passed m n (place + 1) rest s ≡ tokens_after rows passed m n (place + 1) rest [])
        → AreCalm (kinds (ts ++ tokens_after rows passed (mode_after ts [] mode) n (place + 1) rest (drop (length ts) [])))
        → Hushed said (kinds (ts ++ tokens_after rows passed (mode_after ts said mode) n (place + 1) rest (drop (length ts) said)))
        → ts ++ tokens_after rows passed (mode_after ts said mode) n (place + 1) rest (drop (length ts) said) ≡ ts ++ tokens_after rows passed (mode_after ts [] mode) n (place + 1) rest (drop (length ts) [])
    by ts passed n again q h =
        let later = tokens_after rows passed (mode_after ts said mode) n (place + 1) rest (drop (length ts) said) in
        let quiet = tokens_after rows passed (mode_after ts [] mode) n (place + 1) rest (drop (length ts) []) in
        let both = calm-front (kinds ts) (kinds quiet) (subst AreCalm (map-append (λ (t : Token). t.kind) ts quiet) q) in
        let all : Hushed said (kinds ts ++ kinds later) = subst (Hushed said) (map-append (λ (t : Token). t.kind) ts later) h in
        let m : mode_after ts said mode ≡ mode_after ts [] mode = same-mode ts (kinds later) said mode both.0 all in
        let long : length (kinds ts) ≡ length ts = length-map ts (λ (t : Token). t.kind) in
        let d : Hushed (drop (length ts) said) (kinds later) = subst (λ z. Hushed (drop z said) (kinds later)) long (hushed-drop (kinds ts) (kinds later) said both.0 all) in
        let turned : later ≡ tokens_after rows passed (mode_after ts [] mode) n (place + 1) rest (drop (length ts) said) = ap (λ z. tokens_after rows passed z n (place + 1) rest (drop (length ts) said)) m in
        let emptied : quiet ≡ tokens_after rows passed (mode_after ts [] mode) n (place + 1) rest [] = ap (λ z. tokens_after rows passed (mode_after ts [] mode) n (place + 1) rest z) (drop-nothing (length ts)) in
        let r = again (mode_after ts [] mode) (drop (length ts) said)
        (subst (λ z. AreCalm (kinds z)) emptied both.1) (subst (λ z. Hushed (drop (length ts) said) (kinds z)) turned d) in
        ap (λ z. ts ++ z) (turned ∙ r ∙ sym emptied)

-- OF A PLAIN PAGE'S TOKENS

quiet-start : (name : List ℕ) (attrs : List Attr) (closes : Bool) → switch_of (tag_of name) ≡ None → (f : Fate) → switch_by (kind.Start name attrs closes) f ≡ None
quiet-start name attrs closes e (fate.Made d) = e
quiet-start name attrs closes e (fate.Foreign d) = refl
quiet-start name attrs closes e fate.Merged = refl
quiet-start name attrs closes e (fate.Text d) = refl
quiet-start name attrs closes e (fate.Dropped cause) = refl
quiet-start name attrs closes e fate.Ended = refl

-- the tag of a calm start tag
abbrev is_calm_tag : Tag → Type 0
is_calm_tag t = (switch_of t ≡ None) × (is_foreign_root t ≡ false)

calm-start : (name : List ℕ) (attrs : List Attr) → is_calm_tag (tag_of name) → IsCalm (kind.Start name attrs false)
calm-start name attrs (quiet, plain) = record { quiet = quiet-start name attrs false quiet; plain = plain }

calm-name : (name : List ℕ) → IsPlainName name → is_calm_tag (tag_of name)
unfolding switch_of tag_of
calm-name = each-name (λ n. is_calm_tag (tag_of n)) (refl, refl) (refl, refl) (refl, refl) (refl, refl) (refl, refl) (refl, refl) (refl, refl) (refl, refl)

calm-char : (c : ℕ) → IsCalm (kind.Char c)
calm-char c = record { quiet = λ f. refl; plain = refl }

calm-end : (name : List ℕ) → IsCalm (kind.End name)
calm-end name = record { quiet = λ f. refl; plain = refl }

calm-doctype : (n p s : Option (List ℕ)) (q : Bool) → IsCalm (kind.Doctype n p s q)
calm-doctype n p s q = record { quiet = λ f. refl; plain = refl }

calm-eof : IsCalm kind.Eof
calm-eof = record { quiet = λ f. refl; plain = refl }

chars-calm : (s : List ℕ) (rest : List TokenKind) → AreCalm rest → AreCalm (chars_then s rest)
chars-calm [] rest q = q
chars-calm (c ∷ s) rest q = (calm-char c, chars-calm s rest q)

kinds-calm : (b : Bool) (f : Forest Label) (rest : List TokenKind) → IsContent b f → AreCalm rest → AreCalm (kinds_then f rest)
kinds-calm b empty rest h q = q
kinds-calm b (tree (element name attrs) below after) rest h q =
    (calm-start name attrs (calm-name name h.0), kinds-calm false below _ h.2 (calm-end name, kinds-calm false after rest h.3 q))
kinds-calm false (tree (text s) below after) rest h q = chars-calm s (kinds_then after rest) (kinds-calm true after rest h.3 q)
kinds-calm true (tree (text s) below after) rest h q = absurd h
kinds-calm b (tree document below after) rest h q = absurd h
kinds-calm b (tree (doctype n p s) below after) rest h q = absurd h
kinds-calm b (tree (comment s) below after) rest h q = absurd h

calm-parts : is_calm_tag (tag_of (codes "html")) × (is_calm_tag (tag_of (codes "head")) × is_calm_tag (tag_of (codes "body")))
unfolding switch_of tag_of
calm-parts = ((refl, refl), ((refl, refl), (refl, refl)))

page-calm : (page : Forest Label) → IsPlainPage page → AreCalm (page_kinds page)
page-calm page h = subst (λ x. AreCalm (page_kinds x)) (sym h.1) (
  calm-doctype _ _ _ _,
  (
    calm-start (codes "html") [] calm-parts.0,
    (
      calm-start (codes "head") [] calm-parts.1.0,
      (
        calm-end (codes "head"),
        (
          calm-start (codes "body") [] calm-parts.1.1,
          kinds-calm false h.0 _ h.2 (calm-end (codes "body"), (calm-end (codes "html"), (calm-eof, tt))),
        ),
      ),
    ),
  ),
)

-- the tokens of a plain page's text are the page's tokens
pub text-kinds : (rows : List Row) (p : Profile) (page : Forest Label) (written : List ℕ) (tokens : List Token) (fates : List Fate) (said : List (Option TextMode))
    → IsTable rows → HasCore rows → IsPlainPage page → html_of p false page ≡ written → Fated Document (symbols (kinds tokens)) fates → AreSaid Document (kinds tokens) fates said
    → tokens ≡ tokens_after rows 0 Data None 0 written said → kinds tokens ≡ page_kinds page
text-kinds rows p page written tokens fates said table core h w fated are e =
    let whole : kinds (tokens_after rows 0 Data None 0 written []) ≡ page_kinds page = ap (λ t. kinds (tokens_after rows 0 Data None 0 t [])) (sym w) ∙ page-tokens rows table core p page h in
    let calm : Hushed said (kinds (tokens_after rows 0 Data None 0 written said)) = subst (λ ts. Hushed said (kinds ts)) e (hushed (kinds tokens) fates said fated are) in
    ap kinds (e ∙ same-tokens rows 0 Data None 0 written said (subst AreCalm (sym whole) (page-calm page h)) calm) ∙ whole

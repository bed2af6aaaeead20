-- The tokens read so far, and how those of a plain page go on.
use Rattle.std.specs.Prelude.{codes}
use Rattle.std.specs.List.{AllByRecursion}
use Rattle.std.proofs.lemmas.List.{append_cancel_left}
use Rattle.std.proofs.Common.{ℕ, ◌≡◌, ◌≢◌, Bool, List, [], ◌∷◌, ◌++◌, true, false, refl, sym, ap, ◌∙◌, subst, append_assoc}
use Rattle.html_arena.specs.Forest.{Forest}
use Rattle.html_arena.specs.Forest.Forest.{empty, tree}
use Rattle.html_tokens.specs.declared.attributes.Attr.{Attr}
use Rattle.html_tokens.specs.declared.token.TokenKind.{TokenKind}
use Rattle.html_tokens.specs.declared.token.TokenKind.TheVariants.{Start, End, Char, Comment, Doctype, Eof}
use Rattle.html_page.specs.Forest.{join, single}
use Rattle.html_page.specs.Label.{Label}
use Rattle.html_page.specs.Label.Label.{document, doctype, element, text, comment}
use Rattle.html_page.specs.Plain.{IsPlainChar, IsPlainName, ArePlainAttrs, IsContent}
use Rattle.html_page.specs.PageTokens.{chars_then, kinds_then, page_kinds, prolog, epilog, ArePlain, IsPlainFront}
use Rattle.html_page.specs.Open.{Before}
use Rattle.html_page.specs.Begun.{ends_after, front_then, is_text_label}

chars-more : (s : List ℕ) (x y : List TokenKind) → chars_then s (x ++ y) ≡ chars_then s x ++ y
chars-more [] x y = refl
chars-more (c ∷ s) x y = ap (λ (k : List TokenKind). Char c ∷ k) (chars-more s x y)

pub kinds-more : (f : Forest Label) (x y : List TokenKind) → kinds_then f (x ++ y) ≡ kinds_then f x ++ y
kinds-more empty x y = refl
kinds-more (tree document below after) x y = ap (kinds_then below) (kinds-more after x y) ∙ kinds-more below (kinds_then after x) y
kinds-more (tree (doctype n p s) below after) x y = ap (λ (k : List TokenKind). Doctype n p s false ∷ k) (kinds-more after x y)
kinds-more (tree (element n a) below after) x y =
    ap (λ (k : List TokenKind). Start n a false ∷ kinds_then below (End n ∷ k)) (kinds-more after x y)
    ∙ ap (λ (k : List TokenKind). Start n a false ∷ k) (kinds-more below (End n ∷ kinds_then after x) y)
kinds-more (tree (text s) below after) x y = ap (chars_then s) (kinds-more after x y) ∙ chars-more s (kinds_then after x) y
kinds-more (tree (comment s) below after) x y = ap (λ (k : List TokenKind). Comment s ∷ k) (kinds-more after x y)

pub front-more : (d : Forest Label) (outer : List Before) (x y : List TokenKind) → front_then d outer (x ++ y) ≡ front_then d outer x ++ y
front-more d [] x y = kinds-more d x y
front-more d ((n, a, before) ∷ outer) x y =
    ap (λ (k : List TokenKind). front_then before outer (Start n a false ∷ k)) (kinds-more d x y) ∙ front-more before outer (Start n a false ∷ kinds_then d x) y

pub kinds-join : (f g : Forest Label) (k : List TokenKind) → kinds_then (join f g) k ≡ kinds_then f (kinds_then g k)
kinds-join empty g k = refl
kinds-join (tree document below after) g k = ap (kinds_then below) (kinds-join after g k)
kinds-join (tree (doctype n p s) below after) g k = ap (λ (x : List TokenKind). Doctype n p s false ∷ x) (kinds-join after g k)
kinds-join (tree (element n a) below after) g k = ap (λ (x : List TokenKind). Start n a false ∷ kinds_then below (End n ∷ x)) (kinds-join after g k)
kinds-join (tree (text s) below after) g k = ap (chars_then s) (kinds-join after g k)
kinds-join (tree (comment s) below after) g k = ap (λ (x : List TokenKind). Comment s ∷ x) (kinds-join after g k)

pub front-join : (f g : Forest Label) (outer : List Before) (k : List TokenKind) → front_then (join f g) outer k ≡ front_then f outer (kinds_then g k)
front-join f g [] k = kinds-join f g k
front-join f g ((n, a, before) ∷ outer) k = ap (λ (x : List TokenKind). front_then before outer (Start n a false ∷ x)) (kinds-join f g k)

pub ends-join : (b : Bool) (f : Forest Label) (l : Label) (k : Forest Label) → ends_after b (join f (single l k)) ≡ is_text_label l
ends-join b empty l k = refl
ends-join b (tree m c r) l k = ends-join (is_text_label m) r l k

pub content-element : (f : Forest Label) (after : Bool) (n : List ℕ) (a : List Attr) (d : Forest Label) → IsContent after f → IsPlainName n → ArePlainAttrs a → IsContent false d → IsContent after (join f (single (element n a) d))
content-element empty after n a d h p q k = (p, q, k, tt)
content-element (tree document c r) after n a d h p q k = absurd h
content-element (tree (doctype m i s) c r) after n a d h p q k = absurd h
content-element (tree (comment s) c r) after n a d h p q k = absurd h
content-element (tree (element m b) c r) after n a d h p q k = (h.0, h.1, h.2, content-element r false n a d h.3 p q k)
content-element (tree (text s) c r) true n a d h p q k = absurd h
content-element (tree (text s) c r) false n a d h p q k = (h.0, h.1, h.2, content-element r true n a d h.3 p q k)

pub content-text : (f : Forest Label) (after : Bool) (s : List ℕ) → IsContent after f → ends_after after f ≡ false → s ≢ [] → AllByRecursion IsPlainChar s → IsContent after (join f (single (text s) empty))
content-text empty after s h e ne t = subst (λ b. IsContent b (single (text s) empty)) (sym e) (ne, t, refl, tt)
content-text (tree document c r) after s h e ne t = absurd h
content-text (tree (doctype m p q) c r) after s h e ne t = absurd h
content-text (tree (comment m) c r) after s h e ne t = absurd h
content-text (tree (element m a) c r) after s h e ne t = (h.0, h.1, h.2, content-text r false s h.3 e ne t)
content-text (tree (text u) c r) true s h e ne t = absurd h
content-text (tree (text u) c r) false s h e ne t = (h.0, h.1, h.2, content-text r true s h.3 e ne t)

-- How the tokens of a plain page go on inside open elements, whose names are these, the innermost first.
abbrev pub Follows : List (List ℕ) → List TokenKind → Type 0
Follows open_names [] = ⊥
Follows open_names (Start n a false ∷ k) = IsPlainName n × ArePlainAttrs a × Follows (n ∷ open_names) k
Follows open_names (Start n a true ∷ k) = ⊥
Follows (m ∷ open_names) (End n ∷ k) = (n ≡ m) × Follows open_names k
Follows [] (End n ∷ k) = (n ≡ codes "body") × (k ≡ End (codes "html") ∷ Eof ∷ [])
Follows open_names (Char c ∷ k) = IsPlainChar c × Follows open_names k
Follows open_names (Comment s ∷ k) = ⊥
Follows open_names (Doctype n p s f ∷ k) = ⊥
Follows open_names (Eof ∷ k) = ⊥

chars-follow : (names : List (List ℕ)) (s : List ℕ) (k : List TokenKind) → AllByRecursion IsPlainChar s → Follows names k → Follows names (chars_then s k)
chars-follow names [] k a h = h
chars-follow names (c ∷ s) k a h = (a.0, chars-follow names s k a.1 h)

pub content-follows : (names : List (List ℕ)) (b : Bool) (f : Forest Label) (k : List TokenKind) → IsContent b f → Follows names k → Follows names (kinds_then f k)
content-follows names b empty k h g = g
content-follows names b (tree (element n a) below after) k h g =
    (h.0, h.1, content-follows (n ∷ names) false below (End n ∷ kinds_then after k) h.2 (refl, content-follows names false after k h.3 g))
content-follows names false (tree (text s) below after) k h g = chars-follow names s (kinds_then after k) h.1 (content-follows names true after k h.3 g)
content-follows names true (tree (text s) below after) k h g = absurd h
content-follows names b (tree document below after) k h g = absurd h
content-follows names b (tree (doctype n p s) below after) k h g = absurd h
content-follows names b (tree (comment s) below after) k h g = absurd h

chars-past : (names : List (List ℕ)) (s : List ℕ) (k : List TokenKind) → Follows names (chars_then s k) → Follows names k
chars-past names [] k h = h
chars-past names (c ∷ s) k h = chars-past names s k h.1

kinds-past : (names : List (List ℕ)) (f : Forest Label) (k : List TokenKind) → Follows names (kinds_then f k) → Follows names k
kinds-past names empty k h = h
kinds-past names (tree document below after) k h = kinds-past names after k (kinds-past names below (kinds_then after k) h)
kinds-past names (tree (doctype n p s) below after) k h = absurd h
kinds-past names (tree (element n a) below after) k h = kinds-past names after k (kinds-past (n ∷ names) below (End n ∷ kinds_then after k) h.2).1
kinds-past names (tree (text s) below after) k h = kinds-past names after k (chars-past names s (kinds_then after k) h)
kinds-past names (tree (comment s) below after) k h = absurd h

abbrev pub names_of : List Before → List (List ℕ)
names_of [] = []
names_of ((n, a, before) ∷ outer) = n ∷ names_of outer

front-past : (d : Forest Label) (outer : List Before) (k : List TokenKind) → Follows [] (front_then d outer k) → Follows (names_of outer) k
front-past d [] k h = kinds-past [] d k h
front-past d ((n, a, before) ∷ outer) k h =
    kinds-past (n ∷ names_of outer) d k (front-past before outer (Start n a false ∷ kinds_then d k) h).2

-- what follows the tokens read so far, where they are those of a plain page
pub plain-follows : (d : Forest Label) (outer : List Before) (k : List TokenKind) → ArePlain (prolog ++ front_then d outer k) → Follows (names_of outer) k
plain-follows d outer k h =
    let content = h.1.0 in
    let same : prolog ++ front_then d outer k ≡ prolog ++ kinds_then content epilog = h.2 ∙ ap page_kinds h.1.1 in
    let cut : front_then d outer k ≡ kinds_then content epilog = append_cancel_left prolog _ _ same in
    front-past d outer k (subst (Follows []) (sym cut) (content-follows [] false content epilog h.1.2 (refl, refl)))

pub front-shorter : (a b : List TokenKind) → IsPlainFront (a ++ b) → IsPlainFront a
front-shorter a b h = (b ++ h.0, subst ArePlain (append_assoc a b h.0) h.1)

-- A plain page is told by its tokens.
use Rattle.std.proofs.lemmas.List.{append_cancel_left}
use Rattle.std.proofs.Common.{ℕ, ◌≡◌, ◌≢◌, Bool, List, [], ◌∷◌, ◌++◌, true, false, refl, sym, ap, ◌∙◌, subst}
use Rattle.html_arena.specs.Forest.{Forest}
use Rattle.html_arena.specs.Forest.Forest.{empty, tree}
use Rattle.html_tokens.specs.declared.attributes.Attr.{Attr}
use Rattle.html_tokens.specs.declared.token.TokenKind.{TokenKind}
use Rattle.html_tokens.specs.declared.token.TokenKind.TheVariants.{Start, End, Char, Comment, Doctype, Eof}
use Rattle.html_page.specs.Label.{Label}
use Rattle.html_page.specs.Label.Label.{document, doctype, element, text, comment}
use Rattle.html_page.specs.Plain.{page_of, IsContent, IsPlainPage}
use Rattle.html_page.specs.PageTokens.{chars_then, kinds_then, page_kinds, prolog, epilog}

abbrev Stops : List TokenKind → Type 0
Stops [] = ⊥
Stops (End n ∷ k) = Unit {0}
Stops (Start n a s ∷ k) = ⊥
Stops (Char c ∷ k) = ⊥
Stops (Comment s ∷ k) = ⊥
Stops (Doctype n p s f ∷ k) = ⊥
Stops (Eof ∷ k) = ⊥

abbrev IsNoText : List TokenKind → Type 0
IsNoText [] = Unit {0}
IsNoText (End n ∷ k) = Unit {0}
IsNoText (Start n a s ∷ k) = Unit {0}
IsNoText (Char c ∷ k) = ⊥
IsNoText (Comment s ∷ k) = Unit {0}
IsNoText (Doctype n p s f ∷ k) = Unit {0}
IsNoText (Eof ∷ k) = Unit {0}

stops-no_text : (k : List TokenKind) → Stops k → IsNoText k
stops-no_text [] h = tt
stops-no_text (End n ∷ k) h = tt
stops-no_text (Start n a s ∷ k) h = tt
stops-no_text (Char c ∷ k) h = h
stops-no_text (Comment s ∷ k) h = tt
stops-no_text (Doctype n p s f ∷ k) h = tt
stops-no_text (Eof ∷ k) h = tt

after-text : (f : Forest Label) (k : List TokenKind) → IsContent true f → Stops k → IsNoText (kinds_then f k)
after-text empty k h s = stops-no_text k s
after-text (tree (element n a) below after) k h s = tt
after-text (tree (text t) below after) k h s = absurd h
after-text (tree document below after) k h s = absurd h
after-text (tree (doctype n p q) below after) k h s = absurd h
after-text (tree (comment t) below after) k h s = absurd h

char_inj : (c d : ℕ) (x y : List TokenKind) → Char c ∷ x ≡ Char d ∷ y → (c ≡ d) × (x ≡ y)
char_inj c d x y e = (cc, cc)

start_inj : (n m : List ℕ) (a b : List Attr) (x y : List TokenKind) → Start n a false ∷ x ≡ Start m b false ∷ y → (n ≡ m) × (a ≡ b) × (x ≡ y)
start_inj n m a b x y e = (cc, cc, cc)

end_inj : (n m : List ℕ) (x y : List TokenKind) → End n ∷ x ≡ End m ∷ y → x ≡ y
end_inj n m x y e = cc

chars-same : (s t : List ℕ) (x y : List TokenKind) → IsNoText x → IsNoText y → chars_then s x ≡ chars_then t y → (s ≡ t) × (x ≡ y)
chars-same [] [] x y h k e = (refl, e)
chars-same [] (d ∷ t) x y h k e = absurd (subst IsNoText e h)
chars-same (c ∷ s) [] x y h k e = absurd (subst IsNoText (sym e) k)
chars-same (c ∷ s) (d ∷ t) x y h k e =
    let p = char_inj c d (chars_then s x) (chars_then t y) e in
    let r = chars-same s t x y h k p.1 in
    (ap (λ (z : ℕ). z ∷ s) p.0 ∙ ap (λ (z : List ℕ). d ∷ z) r.0, r.1)

chars-stop : (s : List ℕ) (x : List TokenKind) → s ≢ [] → Stops (chars_then s x) → ⊥
chars-stop [] x ne h = ne refl
chars-stop (c ∷ s) x ne h = h

abbrev StartsTag : List TokenKind → Type 0
StartsTag [] = ⊥
StartsTag (End n ∷ k) = ⊥
StartsTag (Start n a s ∷ k) = Unit {0}
StartsTag (Char c ∷ k) = ⊥
StartsTag (Comment s ∷ k) = ⊥
StartsTag (Doctype n p s f ∷ k) = ⊥
StartsTag (Eof ∷ k) = ⊥

chars-no_tag : (s : List ℕ) (x : List TokenKind) → s ≢ [] → StartsTag (chars_then s x) → ⊥
chars-no_tag [] x ne h = ne refl
chars-no_tag (c ∷ s) x ne h = h

-- trees are told by their tokens, where an end tag follows
content-once : (b : Bool) (f g : Forest Label) (k l : List TokenKind) → IsContent b f → IsContent b g → Stops k → Stops l → kinds_then f k ≡ kinds_then g l → (f ≡ g) × (k ≡ l)
content-once b empty empty k l h i s t e = (refl, e)
content-once b empty (tree (element m c) below after) k l h i s t e = absurd (subst Stops e s)
content-once false empty (tree (text u) below after) k l h i s t e = absurd (chars-stop u _ i.0 (subst Stops e s))
content-once true empty (tree (text u) below after) k l h i s t e = absurd i
content-once b empty (tree document below after) k l h i s t e = absurd i
content-once b empty (tree (doctype n p q) below after) k l h i s t e = absurd i
content-once b empty (tree (comment u) below after) k l h i s t e = absurd i
content-once b (tree (element n a) below after) empty k l h i s t e = absurd (subst Stops (sym e) t)
content-once b (tree (element n a) below after) (tree (element m c) below' after') k l h i s t e =
    let p = start_inj n m a c _ _ e in
    let inner = content-once false below below' (End n ∷ kinds_then after k) (End m ∷ kinds_then after' l) h.2 i.2 tt tt p.2 in
    let more = content-once false after after' k l h.3 i.3 s t (end_inj n m _ _ inner.1) in (
      ap (λ (x : List ℕ). tree (element x a) below after) p.0 ∙ ap (λ (x : List Attr). tree (element m x) below after) p.1
          ∙ ap (λ (x : Forest Label). tree (element m c) x after) inner.0 ∙ ap (λ (x : Forest Label). tree (element m c) below' x) more.0,
      more.1,
    )
content-once false (tree (element n a) below after) (tree (text u) below' after') k l h i s t e = absurd (chars-no_tag u _ i.0 (subst StartsTag e tt))
content-once true (tree (element n a) below after) (tree (text u) below' after') k l h i s t e = absurd i
content-once b (tree (element n a) below after) (tree document below' after') k l h i s t e = absurd i
content-once b (tree (element n a) below after) (tree (doctype m p q) below' after') k l h i s t e = absurd i
content-once b (tree (element n a) below after) (tree (comment u) below' after') k l h i s t e = absurd i
content-once false (tree (text u) below after) empty k l h i s t e = absurd (chars-stop u _ h.0 (subst Stops (sym e) t))
content-once false (tree (text u) below after) (tree (element m c) below' after') k l h i s t e = absurd (chars-no_tag u _ h.0 (subst StartsTag (sym e) tt))
content-once false (tree (text u) below after) (tree (text v) below' after') k l h i s t e =
    let p = chars-same u v (kinds_then after k) (kinds_then after' l) (after-text after k h.3 s) (after-text after' l i.3 t) e in
    let more = content-once true after after' k l h.3 i.3 s t p.1 in (
      ap (λ (x : List ℕ). tree (text x) below after) p.0 ∙ ap (λ (x : Forest Label). tree (text v) x after) (h.2 ∙ sym i.2)
          ∙ ap (λ (x : Forest Label). tree (text v) below' x) more.0,
      more.1,
    )
content-once false (tree (text u) below after) (tree document below' after') k l h i s t e = absurd i
content-once false (tree (text u) below after) (tree (doctype m p q) below' after') k l h i s t e = absurd i
content-once false (tree (text u) below after) (tree (comment v) below' after') k l h i s t e = absurd i
content-once true (tree (text u) below after) g k l h i s t e = absurd h
content-once b (tree document below after) g k l h i s t e = absurd h
content-once b (tree (doctype n p q) below after) g k l h i s t e = absurd h
content-once b (tree (comment u) below after) g k l h i s t e = absurd h

pub page-once : (t u : Forest Label) → IsPlainPage t → IsPlainPage u → page_kinds t ≡ page_kinds u → t ≡ u
page-once t u h i e =
    let same : prolog ++ kinds_then h.0 epilog ≡ prolog ++ kinds_then i.0 epilog = sym (ap page_kinds h.1) ∙ e ∙ ap page_kinds i.1 in
    let r = content-once false h.0 i.0 epilog epilog h.2 i.2 tt tt (append_cancel_left prolog _ _ same) in
    h.1 ∙ ap page_of r.0 ∙ sym i.1

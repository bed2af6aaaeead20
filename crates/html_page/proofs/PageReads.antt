-- The text of a plain page is read as the page's tokens.
use Rattle.std.specs.Prelude.{Some, None, cond, ◌==◌, ◌||◌, codes}
use Rattle.std.specs.List.{AllByRecursion, flat_map, list_any}
use Rattle.std.specs.Str.{bytes_eq}
use Rattle.std.proofs.lemmas.Bool.{cond-false}
use Rattle.std.proofs.lemmas.Bool.Decides.{nat_tests}
use Rattle.std.proofs.Common.{ℕ, ◌≡◌, ◌≢◌, ◌+◌, ◌<◌, Bool, List, [], ◌∷◌, ◌++◌, length, map, true, false, refl, sym, ap, ◌∙◌, subst, arith, length-append, append_assoc, append-nil, add-zero}
use Rattle.html_arena.specs.Forest.{Forest}
use Rattle.html_arena.specs.Forest.Forest.{empty, tree}
use Rattle.html_names.specs.Names.{tag_of as names_tag_of}
use Rattle.html_charref.specs.declared.table.Row.{Row}
use Rattle.html_charref.specs.Table.{IsTable}
use Rattle.html_tokens.specs.Cost.{AreApart}
use Rattle.html_tokens.specs.Cut.{cut, stop_mark}
use Rattle.html_tokens.specs.Tag.{Tag, Tail, tail, tail_by, tag_of, with_attrs, firsts_after, has_name, name_char, ends_name}
use Rattle.html_tokens.specs.Tokens.{opener, open_piece, tag_tokens, token, piece, begun_piece}
use Rattle.html_tokens.specs.declared.attributes.Attr.{Attr}
use Rattle.html_tokens.specs.declared.token.Begin.TheVariants as begins
use Rattle.html_tokens.specs.declared.token.Opener.TheVariants as opens
use Rattle.html_tokens.specs.declared.token.TextMode.TheVariants.{Data}
use Rattle.html_tokens.specs.declared.token.TokenKind.{TokenKind}
use Rattle.html_tokens.specs.declared.token.TokenKind.TheVariants.{Start, End, Char, Doctype}
use Rattle.html_tokens.proofs.CostCuts.{cond_both}
use Rattle.html_tokens.proofs.TokensLemmas.{tokens_end}
use Rattle.html_tokens.proofs.ValueLemmas.{tail_skip}
use Rattle.html_page.proofs.TextReads.{Reads, reads-none, reads-then, reads-char, reads-piece, reads-escape, IsEscape, past_front}
use Rattle.html_page.proofs.TagReads.{cut_at_stop, tail_attrs, amp, lt, gt, nbsp}
use Rattle.html_page.specs.Forest.{single}
use Rattle.html_page.specs.Label.{Label}
use Rattle.html_page.specs.Label.Label.{document, doctype, element, text, comment}
use Rattle.html_page.specs.Html.{html_of, opening, start_tag, end_tag, attribute as attribute_text, escaped_in_text, is_foreign_name, is_void_name, is_raw_name, written_name}
use Rattle.html_page.specs.Plain.{PlainName, name_of, page_of, IsPlainChar, ArePlainAttrs, IsContent, IsPlainPage}
use Rattle.html_page.specs.PageTokens.{kinds, chars_then, kinds_then, page_kinds, HasCore}
use Rattle.html_page.specs.TokenList.{tokens_in}
use Rattle.html_page.specs.Plain.PlainName.{Div, Span, Section, Article, B, I, Em, Strong}
use Rattle.html_page.specs.declared.profile.Profile.{Profile}

-- where no two attributes have one name, the first of each name are all of them

any_append : (P : Attr → Bool) (xs : List Attr) (a : Attr) → list_any P xs ≡ false → P a ≡ false → list_any P (xs ++ a ∷ []) ≡ false
any_append P [] a h e = rw e refl
any_append P (x ∷ xs) a h e = both (P x) (list_any P xs) (list_any P (xs ++ a ∷ [])) h (λ k. any_append P xs a k e)
  where
    both : (b c d : Bool) → (b || c) ≡ false → (c ≡ false → d ≡ false) → (b || d) ≡ false
    both false c d h f = f h
    both true c d h f = h

AreNew : List Attr → List Attr → Type 0
AreNew kept more = AllByRecursion (λ b. has_name b.name kept ≡ false) more

still_new : (kept more : List Attr) (a : Attr) → AreNew kept more → AllByRecursion (λ b. bytes_eq a.name b.name ≡ false) more → AreNew (kept ++ a ∷ []) more
unfolding AreNew
still_new kept [] a n h = tt
still_new kept (b ∷ more) a n h = (any_append (λ x. bytes_eq x.name b.name) kept a n.0 h.0, still_new kept more a n.1 h.1)

firsts_apart : (kept more : List Attr) → AreApart more → AreNew kept more → firsts_after kept more ≡ kept ++ more
unfolding AreNew
firsts_apart kept [] h n = sym (append-nil kept)
firsts_apart kept (a ∷ more) h n =
    ap (λ (x : List Attr). firsts_after x more) (cond-false (has_name a.name kept) kept (kept ++ a ∷ []) n.0)
    ∙ firsts_apart (kept ++ a ∷ []) more h.1 (still_new kept more a n.1 h.0)
    ∙ append_assoc kept (a ∷ []) more

all_new : (more : List Attr) → AreNew [] more
unfolding AreNew
all_new [] = tt
all_new (b ∷ more) = (refl, all_new more)

-- a name of a tag, which is read as it is written
pub record IsTagName (n : List ℕ) : Type 0 where
  pub some : 0 < length n
  pub stops : AllByRecursion (λ c. ends_name c ≡ false) n
  pub same : map name_char n ≡ n
  pub starts : (rest : List ℕ) → opener (60 ∷ (n ++ rest)) ≡ opens.StartTag
  pub ends : (rest : List ℕ) → opener (60 ∷ 47 ∷ (n ++ rest)) ≡ opens.EndTag
  pub not_void : is_void_name n ≡ false
  pub not_raw : is_raw_name n ≡ false
  pub not_foreign : is_foreign_name n ≡ false

tag_html : IsTagName (codes "html")
unfolding is_void_name is_raw_name is_foreign_name names_tag_of
tag_html = record { some = omega arith; stops = (refl, (refl, (refl, (refl, tt)))); same = refl; starts = λ rest. refl; ends = λ rest. refl; not_void = refl; not_raw = refl; not_foreign = refl }

tag_head : IsTagName (codes "head")
unfolding is_void_name is_raw_name is_foreign_name names_tag_of
tag_head = record { some = omega arith; stops = (refl, (refl, (refl, (refl, tt)))); same = refl; starts = λ rest. refl; ends = λ rest. refl; not_void = refl; not_raw = refl; not_foreign = refl }

tag_body : IsTagName (codes "body")
unfolding is_void_name is_raw_name is_foreign_name names_tag_of
tag_body = record { some = omega arith; stops = (refl, (refl, (refl, (refl, tt)))); same = refl; starts = λ rest. refl; ends = λ rest. refl; not_void = refl; not_raw = refl; not_foreign = refl }

plain_tag : (n : PlainName) → IsTagName (name_of n)
unfolding is_void_name is_raw_name is_foreign_name names_tag_of
plain_tag Div = record { some = omega arith; stops = (refl, (refl, (refl, tt))); same = refl; starts = λ rest. refl; ends = λ rest. refl; not_void = refl; not_raw = refl; not_foreign = refl }
plain_tag Span = record { some = omega arith; stops = (refl, (refl, (refl, (refl, tt)))); same = refl; starts = λ rest. refl; ends = λ rest. refl; not_void = refl; not_raw = refl; not_foreign = refl }
plain_tag Section = record { some = omega arith; stops = (refl, (refl, (refl, (refl, (refl, (refl, (refl, tt))))))); same = refl; starts = λ rest. refl; ends = λ rest. refl; not_void = refl; not_raw = refl; not_foreign = refl }
plain_tag Article = record { some = omega arith; stops = (refl, (refl, (refl, (refl, (refl, (refl, (refl, tt))))))); same = refl; starts = λ rest. refl; ends = λ rest. refl; not_void = refl; not_raw = refl; not_foreign = refl }
plain_tag B = record { some = omega arith; stops = (refl, tt); same = refl; starts = λ rest. refl; ends = λ rest. refl; not_void = refl; not_raw = refl; not_foreign = refl }
plain_tag I = record { some = omega arith; stops = (refl, tt); same = refl; starts = λ rest. refl; ends = λ rest. refl; not_void = refl; not_raw = refl; not_foreign = refl }
plain_tag Em = record { some = omega arith; stops = (refl, (refl, tt)); same = refl; starts = λ rest. refl; ends = λ rest. refl; not_void = refl; not_raw = refl; not_foreign = refl }
plain_tag Strong = record { some = omega arith; stops = (refl, (refl, (refl, (refl, (refl, (refl, tt)))))); same = refl; starts = λ rest. refl; ends = λ rest. refl; not_void = refl; not_raw = refl; not_foreign = refl }

doctype_piece_is : (rows : List Row) (place : ℕ) (rest : List ℕ) → begun_piece rows begins.Markup place (codes "<!DOCTYPE html>" ++ rest)
    ≡ piece (token (Doctype (Some (codes "html")) None None false) place (place + 9 + 6) ∷ []) 15
unfolding cut
doctype_piece_is rows place rest = refl

module _ (rows : List Row) (table : IsTable rows) (core : HasCore rows) (p : Profile) where
  abbrev attrs_text : List Attr → List ℕ
  attrs_text attrs = flat_map (attribute_text p false) attrs

  name_cut : (n : List ℕ) (attrs : List Attr) (rest : List ℕ) → IsTagName n → cut (stop_mark ends_name) (n ++ (attrs_text attrs ++ 62 ∷ rest)) ≡ record { before = n; len = length n }
  name_cut n [] rest h = cut_at_stop ends_name n 62 rest h.stops refl
  name_cut n (a ∷ attrs) rest h = cut_at_stop ends_name n 32 _ h.stops refl

  tag_is : (n : List ℕ) (attrs : List Attr) (rest : List ℕ) → IsTagName n → ArePlainAttrs attrs
      → tag_of rows (n ++ (attrs_text attrs ++ 62 ∷ rest)) ≡ record { name = n; tail = record { attrs = attrs; self_closing = false; closed = true; len = length n + (length (attrs_text attrs) + 1) } }
  tag_is n attrs rest h a =
      let t : List ℕ = attrs_text attrs ++ 62 ∷ rest in
      ap (λ x. record { name = map name_char x.before; tail = with_attrs [] (tail rows x.len (n ++ t)) }) (name_cut n attrs rest h)
      ∙ ap (λ (x : List ℕ). record { name = x; tail = with_attrs [] (tail rows (length n) (n ++ t)) }) h.same
      ∙ ap (λ (x : Tail). record { name = n; tail = with_attrs [] x }) (
      ap (λ (k : ℕ). tail rows k (n ++ t)) (sym (add-zero (length n)))
      ∙ tail_skip rows (length n) 0 (n ++ t) (omega (arith, length-append n t))
      ∙ ap (λ (x : List ℕ). tail_by (length n) (tail rows 0 x)) (past_front n t)
      ∙ ap (tail_by (length n)) (tail_attrs rows table core p attrs rest a.0))
      ∙ ap (λ (x : List Attr). record { name = n; tail = record { attrs = x; self_closing = false; closed = true; len = length n + (length (attrs_text attrs) + 1) } }) (firsts_apart [] attrs a.1 (all_new attrs))

  -- the tags as they are written
  abbrev start_text : List ℕ → List Attr → List ℕ
  start_text n attrs = codes "<" ++ (n ++ (attrs_text attrs ++ codes ">"))

  abbrev end_text : List ℕ → List ℕ
  end_text n = codes "</" ++ (n ++ codes ">")

  start-is : (n : List ℕ) (attrs : List Attr) → IsTagName n → start_tag p n attrs ≡ start_text n attrs
  start-is n attrs h = ap (λ (f : Bool). codes "<" ++ (written_name f n ++ (flat_map (attribute_text p f) attrs ++ codes ">"))) h.not_foreign

  end-is : (n : List ℕ) → IsTagName n → end_tag n ≡ end_text n
  end-is n h = ap (λ (f : Bool). codes "</" ++ (written_name f n ++ codes ">")) h.not_foreign

  pub reads-start : (n : List ℕ) (attrs : List Attr) → IsTagName n → ArePlainAttrs attrs → Reads rows (start_tag p n attrs) (λ k. Start n attrs false ∷ k)
  reads-start n attrs h a =
      subst (λ (s : List ℕ). Reads rows s (λ k. Start n attrs false ∷ k)) (sym (start-is n attrs h))
      (reads-piece rows (start_text n attrs) (Start n attrs false) begins.Markup refl (omega arith) refl (λ name rest. refl)
      (λ place rest. (place + 1 + (length n + (length (attrs_text attrs) + 1)), whole place rest)))
    where
      body : List ℕ → List ℕ
      body rest = n ++ (attrs_text attrs ++ 62 ∷ rest)

      text_is : (rest : List ℕ) → start_text n attrs ++ rest ≡ 60 ∷ (n ++ (attrs_text attrs ++ 62 ∷ rest))
      text_is rest = ap (λ (x : List ℕ). 60 ∷ x) (glue n (attrs_text attrs) (62 ∷ []) rest)
        where
          glue : (a b c d : List ℕ) → (a ++ (b ++ c)) ++ d ≡ a ++ (b ++ (c ++ d))
          glue a b c d = simp append_assoc

      size : 1 + (length n + (length (attrs_text attrs) + 1)) ≡ length (start_text n attrs)
      size = omega (arith, length-append n (attrs_text attrs ++ 62 ∷ []), length-append (attrs_text attrs) (62 ∷ []))

      whole : (place : ℕ) (rest : List ℕ) → begun_piece rows begins.Markup place (start_text n attrs ++ rest)
          ≡ piece (token (Start n attrs false) place (place + 1 + (length n + (length (attrs_text attrs) + 1))) ∷ []) (length (start_text n attrs))
      whole place rest =
          ap (begun_piece rows begins.Markup place) (text_is rest)
          ∙ ap (λ o. open_piece rows o place (60 ∷ (n ++ (attrs_text attrs ++ 62 ∷ rest)))) (h.starts (attrs_text attrs ++ 62 ∷ rest))
          ∙ ap (λ (t : Tag). piece (tag_tokens false place (place + 1 + t.tail.len) t) (1 + t.tail.len)) (tag_is n attrs rest h a)
          ∙ ap (λ (k : ℕ). piece (token (Start n attrs false) place (place + 1 + (length n + (length (attrs_text attrs) + 1))) ∷ []) k) size

  pub reads-end : (n : List ℕ) → IsTagName n → Reads rows (end_tag n) (λ k. End n ∷ k)
  reads-end n h =
      subst (λ (s : List ℕ). Reads rows s (λ k. End n ∷ k)) (sym (end-is n h))
      (reads-piece rows (end_text n) (End n) begins.Markup refl (omega arith) refl (λ name rest. refl)
      (λ place rest. (place + 2 + (length n + (0 + 1)), whole place rest)))
    where
      text_is : (rest : List ℕ) → end_text n ++ rest ≡ 60 ∷ 47 ∷ (n ++ (attrs_text [] ++ 62 ∷ rest))
      text_is rest = ap (λ (x : List ℕ). 60 ∷ 47 ∷ x) (append_assoc n (62 ∷ []) rest)

      size : 2 + (length n + (0 + 1)) ≡ length (end_text n)
      size = omega (arith, length-append n (62 ∷ []))

      whole : (place : ℕ) (rest : List ℕ) → begun_piece rows begins.Markup place (end_text n ++ rest) ≡ piece (token (End n) place (place + 2 + (length n + (0 + 1))) ∷ []) (length (end_text n))
      whole place rest =
          ap (begun_piece rows begins.Markup place) (text_is rest)
          ∙ ap (λ o. open_piece rows o place (60 ∷ 47 ∷ (n ++ (attrs_text [] ++ 62 ∷ rest)))) (h.ends (62 ∷ rest))
          ∙ ap (λ (t : Tag). piece (tag_tokens true place (place + 2 + t.tail.len) t) (2 + t.tail.len)) (tag_is n [] rest h (tt, tt))
          ∙ ap (λ (k : ℕ). piece (token (End n) place (place + 2 + (length n + (0 + 1))) ∷ []) k) size

  reads-text-char : (c : ℕ) → IsPlainChar c → Reads rows (escaped_in_text c) (λ k. Char c ∷ k)
  unfolding escaped_in_text
  reads-text-char c plain =
      cond_both P (c == 38) _ _ (escape 38 _ (amp rows table core)) (λ no_amp.
      cond_both P (c == 160) _ _ (escape 160 _ (nbsp rows table core)) (λ no_nbsp.
      cond_both P (c == 60) _ _ (escape 60 _ (lt rows table core)) (λ no_lt.
      cond_both P (c == 62) _ _ (escape 62 _ (gt rows table core)) (λ no_gt.
      reads-char rows c (not_equal c 60 no_lt) (not_equal c 38 no_amp)))))
    where
      P : List ℕ → Type 0
      P s = Reads rows s (λ k. Char c ∷ k)

      not_equal : (a b : ℕ) → a == b ≡ false → a ≢ b
      not_equal a b f e = grind (arith, nat_tests)

      escape : (d : ℕ) (s : List ℕ) → IsEscape rows s d → c == d ≡ true → P s
      escape d s e t =
          let same : c ≡ d = grind (arith, nat_tests) in
          subst (λ (x : ℕ). Reads rows s (λ k. Char x ∷ k)) (sym same) (reads-escape rows s d table e)

  pub reads-text : (s : List ℕ) → AllByRecursion IsPlainChar s → Reads rows (flat_map escaped_in_text s) (chars_then s)
  reads-text [] a = reads-none rows
  reads-text (c ∷ cs) a = reads-then rows (escaped_in_text c) (flat_map escaped_in_text cs) (λ k. Char c ∷ k) (chars_then cs) (reads-text-char c a.0) (reads-text cs a.1)

  -- what stands before a node's children, they, what stands after them, and what follows
  reads-node : (s t u v : List ℕ) (f g h i : List TokenKind → List TokenKind) → Reads rows s f → Reads rows t g → Reads rows u h → Reads rows v i → Reads rows (s ++ (t ++ (u ++ v))) (λ k. f (g (h (i k))))
  reads-node s t u v f g h i a b c d =
      reads-then rows s (t ++ (u ++ v)) f (λ k. g (h (i k))) a
      (reads-then rows t (u ++ v) g (λ k. h (i k)) b (reads-then rows u v h i c d))

  reads-element : (n : List ℕ) (attrs : List Attr) (below after : Forest Label) → IsTagName n → ArePlainAttrs attrs
      → Reads rows (html_of p false below) (kinds_then below) → Reads rows (html_of p false after) (kinds_then after)
      → Reads rows (html_of p false (tree (element n attrs) below after)) (kinds_then (tree (element n attrs) below after))
  reads-element n attrs below after h a inner more =
      subst (λ (x : List ℕ). Reads rows x (kinds_then (tree (element n attrs) below after))) (sym text_is)
      (reads-node (start_tag p n attrs) (html_of p false below) (end_tag n) (html_of p false after) (λ k. Start n attrs false ∷ k) (kinds_then below) (λ k. End n ∷ k) (kinds_then after)
      (reads-start n attrs h a) inner (reads-end n h) more)
    where
      text_is : html_of p false (tree (element n attrs) below after) ≡ start_tag p n attrs ++ (html_of p false below ++ (end_tag n ++ html_of p false after))
      text_is =
          ap (λ (b : Bool). start_tag p n attrs ++ (cond b [] (html_of p (is_raw_name n) below) ++ (cond b [] (end_tag n) ++ html_of p false after))) h.not_void
          ∙ ap (λ (b : Bool). start_tag p n attrs ++ (html_of p b below ++ (end_tag n ++ html_of p false after))) h.not_raw

  pub reads-content : (b : Bool) (f : Forest Label) → IsContent b f → Reads rows (html_of p false f) (kinds_then f)
  reads-content b empty h = reads-none rows
  reads-content b (tree (element n attrs) below after) h =
      reads-element n attrs below after (subst IsTagName (sym h.0.1) (plain_tag h.0.0)) h.1 (reads-content false below h.2) (reads-content false after h.3)
  reads-content false (tree (text s) below after) h =
      reads-node (flat_map escaped_in_text s) (html_of p false below) [] (html_of p false after) (chars_then s) (λ k. k) (λ k. k) (kinds_then after)
      (reads-text s h.1) (subst (λ (x : Forest Label). Reads rows (html_of p false x) (λ k. k)) (sym h.2) (reads-none rows)) (reads-none rows) (reads-content true after h.3)
  reads-content true (tree (text s) below after) h = absurd h
  reads-content b (tree document below after) h = absurd h
  reads-content b (tree (doctype n q s) below after) h = absurd h
  reads-content b (tree (comment s) below after) h = absurd h

  reads-page : (content : Forest Label) → IsContent false content → Reads rows (html_of p false (page_of content)) (kinds_then (page_of content))
  reads-page content h =
      reads-node [] (html_of p false (tree doctype_label empty html)) [] [] (λ k. k) (kinds_then (tree doctype_label empty html)) (λ k. k) (λ k. k) (reads-none rows)
      (reads-node (opening p false doctype_label) [] [] (html_of p false html) (λ k. Doctype (Some (codes "html")) None None false ∷ k) (λ k. k) (λ k. k) (kinds_then html)
      reads-doctype (reads-none rows) (reads-none rows)
      (reads-element (codes "html") [] inner empty tag_html (tt, tt)
      (reads-element (codes "head") [] empty body tag_head (tt, tt) (reads-none rows)
      (reads-element (codes "body") [] content empty tag_body (tt, tt) (reads-content false content h) (reads-none rows)))
      (reads-none rows)))
      (reads-none rows) (reads-none rows)
    where
      doctype_label : Label
      doctype_label = doctype (Some (codes "html")) None None

      body : Forest Label
      body = single (element (codes "body") []) content

      inner : Forest Label
      inner = tree (element (codes "head") []) empty body

      html : Forest Label
      html = single (element (codes "html") []) inner

      reads-doctype : Reads rows (opening p false doctype_label) (λ k. Doctype (Some (codes "html")) None None false ∷ k)
      reads-doctype =
          reads-piece rows (opening p false doctype_label) (Doctype (Some (codes "html")) None None false) begins.Markup refl (omega arith) refl (λ name rest. refl)
          (λ place rest. (place + 9 + 6, doctype_piece_is rows place rest))

  -- the tokens of a plain page's text are the page's tokens
  pub page-tokens : (page : Forest Label) → IsPlainPage page → kinds (tokens_in rows (html_of p false page)) ≡ page_kinds page
  page-tokens page h =
      let r = subst (λ (x : Forest Label). Reads rows (html_of p false x) (kinds_then x)) (sym h.1) (reads-page h.0 h.2) None 0 [] in
      ap (λ (t : List ℕ). kinds (tokens_in rows t)) (sym (append-nil (html_of p false page)))
      ∙ r.2 ∙ ap (λ ts. kinds_then page (kinds ts)) (tokens_end rows Data r.0 r.1 [])

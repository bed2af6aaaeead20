-- Texts one behind another: what one more adds.
use Rattle.std.proofs.Common.{◌≡◌, ℕ, ◌+◌, List, [], ◌∷◌, ◌++◌, ◌<◌, length, take, get_or, refl, sym, ◌∙◌, ap, arith, append_assoc, append-nil}
use Rattle.std.specs.Str.{encode_utf8_all, chars, IsUtf8}
use Rattle.std.proofs.lemmas.List.{length-append, take_more}
use Rattle.std.proofs.lemmas.Str.{encodes-chars}
use Rattle.html_arena.specs.Data.{label_in}
use Rattle.html_arena.specs.declared.data.NodeData.{NodeData}
use Rattle.html_arena.specs.declared.data.NodeData.TheVariants.{Document}
use Rattle.html_tokens.specs.declared.attributes.Attr.{Attr}
use Rattle.zilqumet_rows.specs.Texts.{AreTexts, all_texts, attr_texts, ends_behind, joined, node_texts}

add_zero : (n : ℕ) → n ≡ n + 0
add_zero n = omega arith

add_assoc : (n a b : ℕ) → (n + a) + b ≡ n + (a + b)
add_assoc n a b = omega arith

pub joined-append : (ts us : List (List ℕ)) → joined (ts ++ us) ≡ joined ts ++ joined us
joined-append [] us = refl
joined-append (t ∷ ts) us = ap (λ l. encode_utf8_all t ++ l) (joined-append ts us) ∙ sym (append_assoc (encode_utf8_all t) (joined ts) (joined us))

pub ends_behind-append : (n : ℕ) (ts us : List (List ℕ)) → ends_behind n (ts ++ us) ≡ ends_behind n ts ++ ends_behind (n + length (joined ts)) us
ends_behind-append n [] us = ap (λ k. ends_behind k us) (add_zero n)
ends_behind-append n (t ∷ ts) us =
    let e : ℕ = n + length (encode_utf8_all t) in
    let sum : e + length (joined ts) ≡ n + length (encode_utf8_all t ++ joined ts) =
    add_assoc n (length (encode_utf8_all t)) (length (joined ts)) ∙ ap (λ k. n + k) (sym (length-append (encode_utf8_all t) (joined ts))) in
    ap (λ l. e ∷ l) (ends_behind-append e ts us ∙ ap (λ k. ends_behind e ts ++ ends_behind k us) sum)

pub attr_texts-append : (xs ys : List Attr) → attr_texts (xs ++ ys) ≡ attr_texts xs ++ attr_texts ys
attr_texts-append [] ys = refl
attr_texts-append (x ∷ xs) ys = ap (λ l. x.name ∷ x.value ∷ l) (attr_texts-append xs ys)

pub all_texts-append : (xs ys : List NodeData) → all_texts (xs ++ ys) ≡ all_texts xs ++ all_texts ys
all_texts-append [] ys = refl
all_texts-append (x ∷ xs) ys = ap (λ l. node_texts x ++ l) (all_texts-append xs ys) ∙ sym (append_assoc (node_texts x) (all_texts xs) (all_texts ys))

-- one text more
pub added : (bytes ends : List ℕ) (bs : List ℕ) (n : ℕ) (texts : List (List ℕ)) → IsUtf8 bs → n ≡ length (bytes ++ bs) → AreTexts bytes ends texts
    → AreTexts (bytes ++ bs) (ends ++ n ∷ []) (texts ++ chars bs ∷ [])
added bytes ends bs n texts u is a =
    let one : joined (chars bs ∷ []) ≡ bs = append-nil (encode_utf8_all (chars bs)) ∙ encodes-chars bs u in
    let sum : n ≡ (0 + length (joined texts)) + length (encode_utf8_all (chars bs)) =
    is ∙ length-append bytes bs ∙ ap (λ k. k + length bs) (ap length a.bytes_are ∙ zero_add (length (joined texts))) ∙ ap (λ k. (0 + length (joined texts)) + k) (ap length (sym (encodes-chars bs u))) in
    record {
      bytes_are = ap (λ l. l ++ bs) a.bytes_are ∙ ap (λ l. joined texts ++ l) (sym one) ∙ sym (joined-append texts (chars bs ∷ []));
      ends_are = ap (λ l. l ++ n ∷ []) a.ends_are ∙ ap (λ k. ends_behind 0 texts ++ k ∷ []) sum ∙ sym (ends_behind-append 0 texts (chars bs ∷ []));
    }
  where
    zero_add : (k : ℕ) → k ≡ 0 + k
    zero_add k = omega arith

-- one attribute more
pub attr_more : (attrs : List Attr) (i : ℕ) (a : Attr) → i < length attrs → a ≡ get_or attrs i a
    → attr_texts (take (i + 1) attrs) ≡ attr_texts (take i attrs) ++ a.name ∷ a.value ∷ []
attr_more attrs i a h e = ap attr_texts (take_more attrs i a h ∙ ap (λ x. take i attrs ++ x ∷ []) (sym e)) ∙ attr_texts-append (take i attrs) (a ∷ [])

-- one node more
pub all_more : (nodes : List NodeData) (i : ℕ) → i < length nodes → all_texts (take (i + 1) nodes) ≡ all_texts (take i nodes) ++ node_texts (label_in nodes i)
all_more nodes i h = ap all_texts (take_more nodes i Document h) ∙ all_texts-append (take i nodes) (label_in nodes i ∷ [])
    ∙ ap (λ l. all_texts (take i nodes) ++ l) (append-nil (node_texts (label_in nodes i)))

-- two texts behind others, one after the other
pub two_more : (texts some : List (List ℕ)) (x y : List ℕ) → ((texts ++ some) ++ x ∷ []) ++ y ∷ [] ≡ texts ++ (some ++ x ∷ y ∷ [])
two_more texts some x y = append_assoc (texts ++ some) (x ∷ []) (y ∷ []) ∙ append_assoc texts some (x ∷ y ∷ [])

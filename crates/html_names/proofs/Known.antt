-- A name that has a known tag is that tag's name, and so is ASCII.
use Rattle.std.proofs.Common.{◌≡◌, ℕ, Bool, true, false, ◌==◌, List, [], ◌∷◌, ◌⊎◌, inl, inr, refl, sym, ◌∙◌, ap, ◌&&◌, length, ◌++◌, ◌<◌, arith, if◌then◌else◌}
use Rattle.std.specs.Prelude.{nat_lt}
use Rattle.std.proofs.lemmas.Bool.Decides.{nat_tests}
use Rattle.std.specs.Str.{bytes_eq, chars, encode_utf8_all, IsUtf8}
use Rattle.std.proofs.lemmas.Slice.Eq.{bytes_eq-Decides}
use Rattle.std.proofs.lemmas.Str.{chars_from_encodes, encode_ascii, encodes-chars}
use Rattle.html_names.specs.declared.tag.Tag.{Tag}
use Rattle.html_names.specs.declared.tag.Tag.TheVariants as tag
use Rattle.html_names.specs.Names.{Row, name_of, is_known, look_up, rows_of, tag_of, known_tag, is_other, unknown_tag, begins_with, svg_prefix, math_prefix}
use Rattle.html_names.proofs.Cases.{cases_bool, and_first, and_rest}
use Rattle.html_names.proofs.Begins.{begins_chars}

-- each row has its tag's own name, which is a known one
abbrev are_named : List Row → Bool
are_named [] = true
are_named (r ∷ rows) = (is_known r.tag && bytes_eq r.name (name_of r.tag)) && are_named rows

look_up-known : (name : List ℕ) (rows : List Row) → are_named rows ≡ true → is_known (look_up name rows) ≡ true → name ≡ name_of (look_up name rows)
look_up-known name [] h k = absurd cc
look_up-known name (r ∷ rows) h k = elim (cases_bool (bytes_eq name r.name)) [
  | inl e ↦
      let here : name ≡ r.name = (bytes_eq-Decides name r.name).0 e in
      let own : r.name ≡ name_of r.tag = (bytes_eq-Decides r.name (name_of r.tag)).0 (and_rest _ _ (and_first _ _ h)) in
      rw e (here ∙ own)
  | inr e ↦ (let later : is_known (look_up name rows) ≡ true = rw e at k in rw e (look_up-known name rows (and_rest _ _ h) later))
]

rows_of-named : (k : ℕ) → are_named (rows_of k) ≡ true
rows_of-named k =
    elim (cases_bool (k == 1)) [ inl e ↦ rw e refl | inr e ↦ rw e (elim (cases_bool (k == 2)) [ inl e ↦ rw e refl | inr e ↦ rw e (elim (cases_bool (k == 3)) [ inl e ↦ rw e refl | inr e ↦ rw e (elim (cases_bool (k == 4)) [ inl e ↦ rw e refl | inr e ↦ rw e (elim (cases_bool (k == 5)) [ inl e ↦ rw e refl | inr e ↦ rw e (elim (cases_bool (k == 6)) [ inl e ↦ rw e refl | inr e ↦ rw e (elim (cases_bool (k == 7)) [ inl e ↦ rw e refl | inr e ↦ rw e (elim (cases_bool (k == 8)) [ inl e ↦ rw e refl | inr e ↦ rw e (elim (cases_bool (k == 9)) [ inl e ↦ rw e refl | inr e ↦ rw e (elim (cases_bool (k == 10)) [ inl e ↦ rw e refl | inr e ↦ rw e (elim (cases_bool (k == 17)) [ inl e ↦ rw e refl | inr e ↦ rw e (elim (cases_bool (k == 19)) [ inl e ↦ rw e refl | inr e ↦ rw e (refl) ]) ]) ]) ]) ]) ]) ]) ]) ]) ]) ]) ]

apart : true ≡ false → ⊥
apart e = absurd cc

other_known : (t u : Tag) → is_known t ≡ true → (if is_other t then u else t) ≡ t
other_known tag.Other u k = absurd cc
other_known tag.SvgOther u k = absurd cc
other_known tag.MathOther u k = absurd cc
other_known _ u k = refl

look_up-unknown : (name : List ℕ) (rows : List Row) → are_named rows ≡ true → is_known (look_up name rows) ≡ false → look_up name rows ≡ tag.Other
look_up-unknown name [] h k = refl
look_up-unknown name (r ∷ rows) h k = elim (cases_bool (bytes_eq name r.name)) [
  | inl e ↦
      let hit : look_up name (r ∷ rows) ≡ r.tag = rw e refl in
      let no : true ≡ false = sym (and_first _ _ (and_first _ _ h)) ∙ ap is_known (sym hit) ∙ k in
      absurd (apart no)
  | inr e ↦ (let later : is_known (look_up name rows) ≡ false = rw e at k in rw e (look_up-unknown name rows (and_rest _ _ h) later))
]

pub known_tag-known : (name : List ℕ) → is_known (known_tag name) ≡ true → name ≡ name_of (known_tag name)
known_tag-known name k = look_up-known name (rows_of (length name)) (rows_of-named (length name)) k

known_tag-unknown : (name : List ℕ) → is_known (known_tag name) ≡ false → known_tag name ≡ tag.Other
known_tag-unknown name k = look_up-unknown name (rows_of (length name)) (rows_of-named (length name)) k

-- by whether the name is a known one
pub of_known : (name : List ℕ) → is_known (known_tag name) ≡ true → tag_of name ≡ known_tag name
unfolding tag_of
of_known name k = other_known (known_tag name) (unknown_tag name) k

pub of_unknown : (name : List ℕ) → is_known (known_tag name) ≡ false → tag_of name ≡ unknown_tag name
unfolding tag_of
of_unknown name k = rw (known_tag-unknown name k) refl

unknown_tag-unknown : (name : List ℕ) → is_known (unknown_tag name) ≡ false
unknown_tag-unknown name = elim (cases_bool (begins_with svg_prefix name)) [
  | inl e ↦ rw e refl
  | inr e ↦ rw e (elim (cases_bool (begins_with math_prefix name)) [ inl f ↦ rw f refl | inr f ↦ rw f refl ])
]

pub tag_of-known : (name : List ℕ) → is_known (tag_of name) ≡ true → name ≡ name_of (tag_of name)
tag_of-known name k = elim (cases_bool (is_known (known_tag name))) [
  | inl e ↦ rw (of_known name e) (known_tag-known name e)
  | inr e ↦
      let no : false ≡ true = sym (unknown_tag-unknown name) ∙ sym (ap is_known (of_unknown name e)) ∙ k in
      absurd (apart (sym no))
]

ascii_below : (c : ℕ) → nat_lt c 128 ≡ true → c < 128
ascii_below c h = grind (arith, nat_tests)

-- all below 128
abbrev pub is_ascii : List ℕ → Bool
is_ascii [] = true
is_ascii (c ∷ cs) = nat_lt c 128 && is_ascii cs

pub encodes-ascii : (cs : List ℕ) → is_ascii cs ≡ true → encode_utf8_all cs ≡ cs
encodes-ascii [] h = refl
encodes-ascii (c ∷ cs) h =
    let b : c < 128 = ascii_below c (and_first _ _ h) in
    ap (λ l. l ++ encode_utf8_all cs) (encode_ascii c b) ∙ ap (λ l. c ∷ l) (encodes-ascii cs (and_rest _ _ h))

name_of-ascii : (t : Tag) → is_ascii (name_of t) ≡ true
name_of-ascii tag.A = refl
name_of-ascii tag.Address = refl
name_of-ascii tag.Applet = refl
name_of-ascii tag.Area = refl
name_of-ascii tag.Article = refl
name_of-ascii tag.Aside = refl
name_of-ascii tag.B = refl
name_of-ascii tag.Base = refl
name_of-ascii tag.Basefont = refl
name_of-ascii tag.Bgsound = refl
name_of-ascii tag.Big = refl
name_of-ascii tag.Blockquote = refl
name_of-ascii tag.Body = refl
name_of-ascii tag.Br = refl
name_of-ascii tag.Button = refl
name_of-ascii tag.Caption = refl
name_of-ascii tag.Center = refl
name_of-ascii tag.Code = refl
name_of-ascii tag.Col = refl
name_of-ascii tag.Colgroup = refl
name_of-ascii tag.Dd = refl
name_of-ascii tag.Details = refl
name_of-ascii tag.Dialog = refl
name_of-ascii tag.Dir = refl
name_of-ascii tag.Div = refl
name_of-ascii tag.Dl = refl
name_of-ascii tag.Dt = refl
name_of-ascii tag.Em = refl
name_of-ascii tag.Embed = refl
name_of-ascii tag.Fieldset = refl
name_of-ascii tag.Figcaption = refl
name_of-ascii tag.Figure = refl
name_of-ascii tag.Font = refl
name_of-ascii tag.Footer = refl
name_of-ascii tag.Form = refl
name_of-ascii tag.Frame = refl
name_of-ascii tag.Frameset = refl
name_of-ascii tag.H1 = refl
name_of-ascii tag.H2 = refl
name_of-ascii tag.H3 = refl
name_of-ascii tag.H4 = refl
name_of-ascii tag.H5 = refl
name_of-ascii tag.H6 = refl
name_of-ascii tag.Head = refl
name_of-ascii tag.Header = refl
name_of-ascii tag.Hgroup = refl
name_of-ascii tag.Hr = refl
name_of-ascii tag.Html = refl
name_of-ascii tag.I = refl
name_of-ascii tag.Iframe = refl
name_of-ascii tag.Image = refl
name_of-ascii tag.Img = refl
name_of-ascii tag.Input = refl
name_of-ascii tag.Keygen = refl
name_of-ascii tag.Li = refl
name_of-ascii tag.Link = refl
name_of-ascii tag.Listing = refl
name_of-ascii tag.Main = refl
name_of-ascii tag.Marquee = refl
name_of-ascii tag.Math = refl
name_of-ascii tag.Menu = refl
name_of-ascii tag.Meta = refl
name_of-ascii tag.Nav = refl
name_of-ascii tag.Nobr = refl
name_of-ascii tag.Noembed = refl
name_of-ascii tag.Noframes = refl
name_of-ascii tag.Noscript = refl
name_of-ascii tag.Object = refl
name_of-ascii tag.Ol = refl
name_of-ascii tag.Optgroup = refl
name_of-ascii tag.Option = refl
name_of-ascii tag.P = refl
name_of-ascii tag.Param = refl
name_of-ascii tag.Plaintext = refl
name_of-ascii tag.Pre = refl
name_of-ascii tag.Rb = refl
name_of-ascii tag.Rp = refl
name_of-ascii tag.Rt = refl
name_of-ascii tag.Rtc = refl
name_of-ascii tag.Ruby = refl
name_of-ascii tag.S = refl
name_of-ascii tag.Script = refl
name_of-ascii tag.Search = refl
name_of-ascii tag.Section = refl
name_of-ascii tag.Select = refl
name_of-ascii tag.Small = refl
name_of-ascii tag.Source = refl
name_of-ascii tag.Strike = refl
name_of-ascii tag.Strong = refl
name_of-ascii tag.Style = refl
name_of-ascii tag.Summary = refl
name_of-ascii tag.Svg = refl
name_of-ascii tag.Table = refl
name_of-ascii tag.Tbody = refl
name_of-ascii tag.Td = refl
name_of-ascii tag.Template = refl
name_of-ascii tag.Textarea = refl
name_of-ascii tag.Tfoot = refl
name_of-ascii tag.Th = refl
name_of-ascii tag.Thead = refl
name_of-ascii tag.Title = refl
name_of-ascii tag.Tr = refl
name_of-ascii tag.Track = refl
name_of-ascii tag.Tt = refl
name_of-ascii tag.U = refl
name_of-ascii tag.Ul = refl
name_of-ascii tag.Wbr = refl
name_of-ascii tag.Xmp = refl
name_of-ascii tag.Other = refl
name_of-ascii tag.SvgDesc = refl
name_of-ascii tag.SvgForeignObject = refl
name_of-ascii tag.SvgTitle = refl
name_of-ascii tag.SvgOther = refl
name_of-ascii tag.MathAnnotationXml = refl
name_of-ascii tag.MathMi = refl
name_of-ascii tag.MathMn = refl
name_of-ascii tag.MathMo = refl
name_of-ascii tag.MathMs = refl
name_of-ascii tag.MathMtext = refl
name_of-ascii tag.MathOther = refl

encodes-name_of : (t : Tag) → encode_utf8_all (name_of t) ≡ name_of t
encodes-name_of t = encodes-ascii (name_of t) (name_of-ascii t)

module _ (f : List ℕ → Tag) (known : (name : List ℕ) → is_known (f name) ≡ true → name ≡ name_of (f name)) (unknown : (name : List ℕ) → is_known (f name) ≡ false → f name ≡ tag.Other) where
  -- of a text's bytes and of its code points
  both_ways : (bs : List ℕ) → IsUtf8 bs → f bs ≡ f (chars bs)
  both_ways bs u = elim (cases_bool (is_known (f bs))) [
    | inl k ↦
        let n = known bs k in
        let e : encode_utf8_all (name_of (f bs)) ≡ bs = encodes-name_of (f bs) ∙ sym n in
        ap f (n ∙ chars_from_encodes (name_of (f bs)) bs u e)
    | inr k ↦ elim (cases_bool (is_known (f (chars bs)))) [
      | inl l ↦
          let n = known (chars bs) l in
          let e : chars bs ≡ encode_utf8_all (chars bs) = n ∙ sym (encodes-name_of (f (chars bs))) ∙ ap encode_utf8_all (sym n) in
          sym (ap f (e ∙ encodes-chars bs u))
      | inr l ↦ unknown bs k ∙ sym (unknown (chars bs) l)
    ]
  ]

pub svg_chars : chars svg_prefix ≡ svg_prefix
unfolding chars
svg_chars = refl

pub math_chars : chars math_prefix ≡ math_prefix
unfolding chars
math_chars = refl

unknown_tag-chars : (bs : List ℕ) → IsUtf8 bs → unknown_tag bs ≡ unknown_tag (chars bs)
unfolding lib.Utf8.encode
unknown_tag-chars bs u =
    ap (λ b. if b then tag.SvgOther else (if begins_with math_prefix bs then tag.MathOther else tag.Other)) (begins_chars svg_prefix bs (svg_prefix, (refl, refl)) svg_chars refl u)
    ∙ ap (λ b. if begins_with svg_prefix (chars bs) then tag.SvgOther else (if b then tag.MathOther else tag.Other)) (begins_chars math_prefix bs (math_prefix, (refl, refl)) math_chars refl u)

pub tag_of-chars : (bs : List ℕ) → IsUtf8 bs → tag_of bs ≡ tag_of (chars bs)
unfolding tag_of
tag_of-chars bs u =
    ap (λ t. if is_other t then unknown_tag bs else t) (both_ways known_tag known_tag-known known_tag-unknown bs u)
    ∙ ap (λ t. if is_other (known_tag (chars bs)) then t else known_tag (chars bs)) (unknown_tag-chars bs u)

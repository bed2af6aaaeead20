-- What a test says of each tag it says of all: by its value at each.
use Rattle.std.proofs.Common.{◌≡◌, ℕ, zero, suc, Bool, true, false, ◌&&◌, List, [], ◌∷◌, get_or, refl, subst}
use Rattle.std.specs.List.{list_all}
use Rattle.std.proofs.lemmas.Bool.{false≢true}
use Rattle.html_names.specs.declared.tag.Tag.{Tag}
use Rattle.html_names.specs.declared.tag.Tag.TheVariants as tag
use Rattle.html_names.specs.Tags.{number}

-- in the order of their numbers
abbrev pub all_tags : List Tag
all_tags = tag.A ∷ tag.Address ∷ tag.Applet ∷ tag.Area ∷ tag.Article ∷ tag.Aside ∷ tag.B ∷ tag.Base ∷ tag.Basefont ∷ tag.Bgsound ∷ tag.Big ∷ tag.Blockquote ∷ tag.Body ∷ tag.Br ∷ tag.Button ∷ tag.Caption ∷ tag.Center ∷ tag.Code ∷ tag.Col ∷ tag.Colgroup ∷ tag.Dd ∷ tag.Details ∷ tag.Dialog ∷ tag.Dir ∷ tag.Div ∷ tag.Dl ∷ tag.Dt ∷ tag.Em ∷ tag.Embed ∷ tag.Fieldset ∷ tag.Figcaption ∷ tag.Figure ∷ tag.Font ∷ tag.Footer ∷ tag.Form ∷ tag.Frame ∷ tag.Frameset ∷ tag.H1 ∷ tag.H2 ∷ tag.H3 ∷ tag.H4 ∷ tag.H5 ∷ tag.H6 ∷ tag.Head ∷ tag.Header ∷ tag.Hgroup ∷ tag.Hr ∷ tag.Html ∷ tag.I ∷ tag.Iframe ∷ tag.Image ∷ tag.Img ∷ tag.Input ∷ tag.Keygen ∷ tag.Li ∷ tag.Link ∷ tag.Listing ∷ tag.Main ∷ tag.Marquee ∷ tag.Math ∷ tag.Menu ∷ tag.Meta ∷ tag.Nav ∷ tag.Nobr ∷ tag.Noembed ∷ tag.Noframes ∷ tag.Noscript ∷ tag.Object ∷ tag.Ol ∷ tag.Optgroup ∷ tag.Option ∷ tag.P ∷ tag.Param ∷ tag.Plaintext ∷ tag.Pre ∷ tag.Rb ∷ tag.Rp ∷ tag.Rt ∷ tag.Rtc ∷ tag.Ruby ∷ tag.S ∷ tag.Script ∷ tag.Search ∷ tag.Section ∷ tag.Select ∷ tag.Small ∷ tag.Source ∷ tag.Strike ∷ tag.Strong ∷ tag.Style ∷ tag.Summary ∷ tag.Svg ∷ tag.Table ∷ tag.Tbody ∷ tag.Td ∷ tag.Template ∷ tag.Textarea ∷ tag.Tfoot ∷ tag.Th ∷ tag.Thead ∷ tag.Title ∷ tag.Tr ∷ tag.Track ∷ tag.Tt ∷ tag.U ∷ tag.Ul ∷ tag.Wbr ∷ tag.Xmp ∷ tag.Other ∷ tag.SvgDesc ∷ tag.SvgForeignObject ∷ tag.SvgTitle ∷ tag.SvgOther ∷ tag.MathAnnotationXml ∷ tag.MathMi ∷ tag.MathMn ∷ tag.MathMo ∷ tag.MathMs ∷ tag.MathMtext ∷ tag.MathOther ∷ []

numbered : (t : Tag) → get_or all_tags (number t) tag.Other ≡ t
numbered tag.A = refl
numbered tag.Address = refl
numbered tag.Applet = refl
numbered tag.Area = refl
numbered tag.Article = refl
numbered tag.Aside = refl
numbered tag.B = refl
numbered tag.Base = refl
numbered tag.Basefont = refl
numbered tag.Bgsound = refl
numbered tag.Big = refl
numbered tag.Blockquote = refl
numbered tag.Body = refl
numbered tag.Br = refl
numbered tag.Button = refl
numbered tag.Caption = refl
numbered tag.Center = refl
numbered tag.Code = refl
numbered tag.Col = refl
numbered tag.Colgroup = refl
numbered tag.Dd = refl
numbered tag.Details = refl
numbered tag.Dialog = refl
numbered tag.Dir = refl
numbered tag.Div = refl
numbered tag.Dl = refl
numbered tag.Dt = refl
numbered tag.Em = refl
numbered tag.Embed = refl
numbered tag.Fieldset = refl
numbered tag.Figcaption = refl
numbered tag.Figure = refl
numbered tag.Font = refl
numbered tag.Footer = refl
numbered tag.Form = refl
numbered tag.Frame = refl
numbered tag.Frameset = refl
numbered tag.H1 = refl
numbered tag.H2 = refl
numbered tag.H3 = refl
numbered tag.H4 = refl
numbered tag.H5 = refl
numbered tag.H6 = refl
numbered tag.Head = refl
numbered tag.Header = refl
numbered tag.Hgroup = refl
numbered tag.Hr = refl
numbered tag.Html = refl
numbered tag.I = refl
numbered tag.Iframe = refl
numbered tag.Image = refl
numbered tag.Img = refl
numbered tag.Input = refl
numbered tag.Keygen = refl
numbered tag.Li = refl
numbered tag.Link = refl
numbered tag.Listing = refl
numbered tag.Main = refl
numbered tag.Marquee = refl
numbered tag.Math = refl
numbered tag.Menu = refl
numbered tag.Meta = refl
numbered tag.Nav = refl
numbered tag.Nobr = refl
numbered tag.Noembed = refl
numbered tag.Noframes = refl
numbered tag.Noscript = refl
numbered tag.Object = refl
numbered tag.Ol = refl
numbered tag.Optgroup = refl
numbered tag.Option = refl
numbered tag.P = refl
numbered tag.Param = refl
numbered tag.Plaintext = refl
numbered tag.Pre = refl
numbered tag.Rb = refl
numbered tag.Rp = refl
numbered tag.Rt = refl
numbered tag.Rtc = refl
numbered tag.Ruby = refl
numbered tag.S = refl
numbered tag.Script = refl
numbered tag.Search = refl
numbered tag.Section = refl
numbered tag.Select = refl
numbered tag.Small = refl
numbered tag.Source = refl
numbered tag.Strike = refl
numbered tag.Strong = refl
numbered tag.Style = refl
numbered tag.Summary = refl
numbered tag.Svg = refl
numbered tag.Table = refl
numbered tag.Tbody = refl
numbered tag.Td = refl
numbered tag.Template = refl
numbered tag.Textarea = refl
numbered tag.Tfoot = refl
numbered tag.Th = refl
numbered tag.Thead = refl
numbered tag.Title = refl
numbered tag.Tr = refl
numbered tag.Track = refl
numbered tag.Tt = refl
numbered tag.U = refl
numbered tag.Ul = refl
numbered tag.Wbr = refl
numbered tag.Xmp = refl
numbered tag.Other = refl
numbered tag.SvgDesc = refl
numbered tag.SvgForeignObject = refl
numbered tag.SvgTitle = refl
numbered tag.SvgOther = refl
numbered tag.MathAnnotationXml = refl
numbered tag.MathMi = refl
numbered tag.MathMn = refl
numbered tag.MathMo = refl
numbered tag.MathMs = refl
numbered tag.MathMtext = refl
numbered tag.MathOther = refl

halves : (a b : Bool) → (a && b) ≡ true → (a ≡ true) × (b ≡ true)
halves true b e = (refl, e)
halves false b e = absurd (false≢true e)

at : (p : Tag → Bool) (ts : List Tag) (n : ℕ) → p tag.Other ≡ true → list_all p ts ≡ true → p (get_or ts n tag.Other) ≡ true
at p [] n o h = o
at p (t ∷ ts) zero o h = (halves (p t) (list_all p ts) h).0
at p (t ∷ ts) (suc n) o h = at p ts n o ((halves (p t) (list_all p ts) h).1)

pub of-all : (p : Tag → Bool) → (list_all p all_tags && p tag.Other) ≡ true → (g : Tag) → p g ≡ true
of-all p h g = (let c = halves (list_all p all_tags) (p tag.Other) h in subst (λ v. p v ≡ true) (numbered g) (at p all_tags (number g) c.1 c.0))

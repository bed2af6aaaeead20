-- What the tokens of a text cost.
use Rattle.std.proofs.Common.{ℕ, suc, ◌+◌, ◌<◌, ◌≤◌, ◌≡◌, ◌∙◌, arith, false, List, [], ◌∷◌, length, refl, ap, subst}
use Rattle.std.specs.List.{AllByRecursion}
use Rattle.std.proofs.lemmas.List.Sums.{sum_by-cons}
use Rattle.html_charref.specs.Table.{IsTable}
use Rattle.html_tokens.specs.Cost.{AreBetween, AreCosted, HasNames, attrs_len, is_eof, own_len, tokens_len}
use Rattle.html_tokens.specs.Given.{Fed}
use Rattle.html_tokens.specs.declared.attributes.Attr.{Attr}
use Rattle.html_tokens.specs.declared.token.TokenKind.{TokenKind}
use Rattle.html_tokens.specs.declared.token.TokenKind.TheVariants as kind
use Rattle.html_tokens.specs.Stream.{Run, tokens_of}
use Rattle.html_tokens.specs.declared.token.Token.{Token}
use Rattle.html_tokens.specs.declared.tokenizer.Tokenizer.{Tokenizer}
use Rattle.html_tokens.proofs.CostLemmas.{tokens_costed}
use Rattle.html_builder.specs.Handed.{CostAtMost, attribute_count, attribute_total, own_total, start_count, start_one}
use Rattle.html_parser.specs.Kinds.{kinds}

-- the rows of a tokenizer are a table
pub table-of : (t : Tokenizer) (run : Run) → Fed t run → IsTable run.start.rows
unfolding Fed
table-of t run f = f.0.rule

pub kinds-length : (tokens : List Token) → length (kinds tokens) ≡ length tokens
kinds-length [] = refl
kinds-length (t ∷ ts) = ap suc (kinds-length ts)

kinds-own : (tokens : List Token) → own_total (kinds tokens) ≡ tokens_len tokens
kinds-own [] = refl
kinds-own (t ∷ ts) = sum_by-cons own_len t.kind (kinds ts) ∙ ap (λ n. own_len t.kind + n) (kinds-own ts)

-- each attribute has a name, which is not empty
attrs-named : (attrs : List Attr) → AllByRecursion (λ a. 0 < length a.name) attrs → length attrs ≤ attrs_len attrs
attrs-named [] h = omega arith
attrs-named (a ∷ more) h = let p = h.0 in let rest = attrs-named more h.1 in omega (arith, p, rest)

kind-attributes : (t : TokenKind) → HasNames t → attribute_count t ≤ own_len t
kind-attributes (kind.Start name attrs self_closing) h = let p = attrs-named attrs h.0 in omega (arith, p)
kind-attributes (kind.End name) h = omega arith
kind-attributes (kind.Char c) h = omega arith
kind-attributes (kind.Comment text) h = omega arith
kind-attributes (kind.Doctype name public_id system_id force_quirks) h = omega arith
kind-attributes kind.Eof h = omega arith

kinds-attributes : (place end : ℕ) (tokens : List Token) → AreBetween place end tokens → attribute_total (kinds tokens) ≤ tokens_len tokens
kinds-attributes place end [] b = omega arith
kinds-attributes place end (t ∷ ts) b =
    let one = kind-attributes t.kind b.0.names in
    let rest = kinds-attributes t.span.end end ts b.2 in
    let sum = sum_by-cons attribute_count t.kind (kinds ts) in
    omega (arith, one, rest, sum)

-- a start tag has a code point at least
kind-start : (t : TokenKind) (from to : ℕ) → (is_eof t ≡ false → from < to) → from ≤ to → from + start_one t ≤ to
kind-start (kind.Start name attrs self_closing) from to h k = let p = h refl in omega (arith, p)
kind-start (kind.End name) from to h k = omega (arith, k)
kind-start (kind.Char c) from to h k = omega (arith, k)
kind-start (kind.Comment text) from to h k = omega (arith, k)
kind-start (kind.Doctype name public_id system_id force_quirks) from to h k = omega (arith, k)
kind-start kind.Eof from to h k = omega (arith, k)

kinds-starts : (place end : ℕ) (tokens : List Token) → AreBetween place end tokens → place + start_count (kinds tokens) ≤ end
kinds-starts place end [] b = omega (arith, b)
kinds-starts place end (t ∷ ts) b =
    let starts = b.0.starts in
    let holds = b.0.holds in
    let one = kind-start t.kind t.span.start t.span.end b.0.some (omega (arith, holds)) in
    let rest = kinds-starts t.span.end end ts b.2 in
    let sum = sum_by-cons start_one t.kind (kinds ts) in
    omega (arith, starts, one, rest, sum)

pub costs : (m n : ℕ) (tokens : List Token) → AreCosted m tokens → m ≤ n → CostAtMost n (kinds tokens)
costs m n tokens c less = record {
  count = omega (arith, c.count, kinds-length tokens);
  starts = (let k = kinds-starts 0 m tokens c.order in omega (arith, k, less));
  own = omega (arith, c.own, kinds-own tokens);
  attributes = omega (arith, c.own, kinds-attributes 0 m tokens c.order);
}

-- all tokens of a run
pub run-costed : (t : Tokenizer) (run : Run) → Fed t run → tokens_of run.text run.switches run.start ≡ run.given → AreCosted (length run.text) run.given
run-costed t run f all = subst (AreCosted (length run.text)) all (tokens_costed run.text run.switches run.start (table-of t run f))

-- Text that was gathered from the tokenizer.
use Rattle.std.proofs.Common.{ℕ, ◌+◌, ◌≤◌, ◌≡◌, ◌∙◌, ◌⊎◌, inl, inr, arith, Bool, true, false, ◌-◌, List, [], ◌∷◌, ◌++◌, drop, length, take, Option, None, refl, sym, ap, ap₂, subst, append_assoc, length-append}
use Rattle.std.proofs.Math.Seq.{drop-append_seam}
use Rattle.std.proofs.lemmas.List.{append-nil, take_rest}
use Rattle.html_tokens.specs.Given.{Fed, is_stopped}
use Rattle.html_tokens.specs.Runs.{gave_all, plain_tokens}
use Rattle.html_tokens.specs.Stream.{Run, gave}
use Rattle.html_tokens.specs.declared.token.Token.{Token}
use Rattle.html_tokens.specs.declared.tokenizer.Tokenizer.{Tokenizer}
use Rattle.html_tokens.specs.declared.token.TextMode.{TextMode}
use Rattle.html_tokens.specs.declared.token.TokenKind.TheVariants.{Char}
use Rattle.html_builder.specs.Saying.{StaysHtml}
use Rattle.html_builder.specs.Handed.{AddsFates, HandsIn, LeadsTo, is_stopped as builder_stopped, parses_foreign}
use Rattle.html_construction.specs.Built.{chars_of}
use Rattle.html_parser.specs.Gathered.{Gathers, Gives, HasRest, IsAwaiting}
use Rattle.html_parser.specs.Kinds.{starts_of}
use Rattle.html_parser.specs.Staged.{IsFurther}
use Rattle.html_parser.specs.Start.{Start}
use Rattle.html_parser.specs.Tokenizing.{IsTokenizing}
use Rattle.html_parser.specs.declared.kept.Kept.{Kept}
use Rattle.html_parser.specs.declared.stages.Stages.{Stages}
use Rattle.html_parser.proofs.Ends.{kinds-append}
use Rattle.html_parser.proofs.Further.{HandsText}
use Rattle.html_parser.proofs.Taken.{kinds-plain, starts-append}
use Rattle.html_parser.proofs.Tokenizing.{fewer}

chars-append : (cs ds : List ℕ) → chars_of (cs ++ ds) ≡ chars_of cs ++ chars_of ds
chars-append [] ds = refl
chars-append (c ∷ cs) ds = ap (λ r. Char c ∷ r) (chars-append cs ds)

pub gave-both : (run : Run) (ts us : List Token) → gave_all run (ts ++ us) ≡ gave_all (gave_all run ts) us
gave-both run [] us = refl
gave-both run (t ∷ ts) us = gave-both (gave run t None) ts us

-- nothing was gathered
pub gathers_none : (old new : Tokenizer) (a b : Kept) (text : List ℕ) → ((run : Run) → Fed old run → Fed new run) → b ≡ a → Gathers old a b text text (Fed new)
gathers_none old new a b text step e = record {
  text = [];
  text_is = sym (append-nil text);
  tokens = [];
  are = refl;
  given = step;
  starts = ap (λ k. k.starts) e ∙ sym (append-nil a.starts);
  kept = λ keeps. ap (λ k. k.tokens) e ∙ sym (append-nil a.tokens);
}

-- plain text was
pub gathers_plain : (old new : Tokenizer) (a b : Kept) (before after text : List ℕ) (place : ℕ) → after ≡ before ++ text
    → ((run : Run) → Fed old run → Fed new (gave_all run (plain_tokens place text))) → b.starts ≡ a.starts ++ starts_of (plain_tokens place text)
    → (a.keeps_tokens ≡ true → b.tokens ≡ a.tokens ++ plain_tokens place text) → Gathers old a b before after (Fed new)
gathers_plain old new a b before after text place e step s k = record {
  text = text;
  text_is = e;
  tokens = plain_tokens place text;
  are = kinds-plain place text;
  given = step;
  starts = s;
  kept = k;
}

-- one code point was
pub gathers_char : (old new : Tokenizer) (a b : Kept) (before after : List ℕ) (token : Token) (c : ℕ) → token.kind ≡ Char c → after ≡ before ++ c ∷ []
    → ((run : Run) → Fed old run → Fed new (gave run token None)) → b.starts ≡ a.starts ++ starts_of (token ∷ [])
    → (a.keeps_tokens ≡ true → b.tokens ≡ a.tokens ++ token ∷ []) → Gathers old a b before after (Fed new)
gathers_char old new a b before after token c is e step s k = record {
  text = c ∷ [];
  text_is = e;
  tokens = token ∷ [];
  are = ap (λ k. k ∷ []) is;
  given = step;
  starts = s;
  kept = k;
}

-- some, and then more
pub gathers_both : (old mid : Tokenizer) (a b c : Kept) (x y z : List ℕ) (Then : Run → Type 0) → Gathers old a b x y (Fed mid) → b.keeps_tokens ≡ a.keeps_tokens
    → Gathers mid b c y z Then → Gathers old a c x z Then
gathers_both old mid a b c x y z Then g keeps h = record {
  text = g.text ++ h.text;
  text_is = h.text_is ∙ ap (λ v. v ++ h.text) g.text_is ∙ append_assoc x g.text h.text;
  tokens = g.tokens ++ h.tokens;
  are = kinds-append g.tokens h.tokens ∙ ap₂ (λ u v. u ++ v) g.are h.are ∙ sym (chars-append g.text h.text);
  given = λ run f. subst Then (sym (gave-both run g.tokens h.tokens)) (h.given (gave_all run g.tokens) (g.given run f));
  starts = h.starts ∙ ap (λ v. v ++ starts_of h.tokens) g.starts ∙ append_assoc a.starts (starts_of g.tokens) (starts_of h.tokens)
      ∙ ap (λ v. a.starts ++ v) (sym (starts-append g.tokens h.tokens));
  kept = λ k. h.kept (keeps ∙ k) ∙ ap (λ v. v ++ h.tokens) (g.kept k) ∙ append_assoc a.tokens g.tokens h.tokens;
}

-- and then what follows
pub gathers_then : (old mid : Tokenizer) (a b : Kept) (x y : List ℕ) (Then : Run → Type 0) → Gathers old a b x y (Fed mid) → ((run : Run) → Fed mid run → Then run) → Gathers old a b x y Then
gathers_then old mid a b x y Then g step = record {
  text = g.text;
  text_is = g.text_is;
  tokens = g.tokens;
  are = g.are;
  given = λ run f. step (gave_all run g.tokens) (g.given run f);
  starts = g.starts;
  kept = g.kept;
}

-- A TOKEN THAT WAS GIVEN, AND NOT TAKEN

one_each : (a : List ℕ) (given : List Token) (token : Token) → length a ≤ length given → length (a ++ starts_of (token ∷ [])) ≤ length (given ++ token ∷ [])
one_each a given token few =
    let p : length (a ++ starts_of (token ∷ [])) ≡ length a + 1 = length-append a (starts_of (token ∷ [])) in
    let q : length (given ++ token ∷ []) ≡ length given + 1 = length-append given (token ∷ []) in
    omega (arith, p, q, few)

pub awaiting_of : (mid new : Tokenizer) (a : List ℕ) (token : Token) → is_stopped mid ≡ false → IsTokenizing mid a → ((run : Run) → Fed mid run → Gives new token run) → IsAwaiting new a token
awaiting_of mid new a token going t step = λ _ none. t going (λ run fed few. none run (step run fed) few)

awaiting_more : (t new : Tokenizer) (a : List ℕ) (token : Token) (said : Option TextMode) → is_stopped t ≡ false → IsAwaiting t a token
    → ((run : Run) → Gives t token run → Fed new (gave run token said)) → IsTokenizing new (a ++ starts_of (token ∷ []))
awaiting_more t new a token said going h step = λ _ none. h going (λ run g few. none (gave run token said) (step run g) (one_each a run.given token few))

-- what was kept or not
pub kept_either : (t : Tokenizer) (a b more : List ℕ) → IsTokenizing t (a ++ more) → (b ≡ a) ⊎ (b ≡ a ++ more) → IsTokenizing t b
kept_either t a b more h either = elim either [
  | inl e ↦ subst (IsTokenizing t) (sym e) (fewer t a more h)
  | inr e ↦ subst (IsTokenizing t) (sym e) h
]

-- and then taken or not
pub awaiting_either : (t new : Tokenizer) (a b : List ℕ) (token : Token) (said : Option TextMode) → is_stopped t ≡ false → IsAwaiting t a token
    → ((run : Run) → Gives t token run → Fed new (gave run token said)) → (b ≡ a) ⊎ (b ≡ a ++ starts_of (token ∷ [])) → IsTokenizing new b
awaiting_either t new a b token said going h step either =
    kept_either new a b (starts_of (token ∷ [])) (awaiting_more t new a token said going h step) either

-- THE STAGES

-- what the stages do not hang on
pub same_further : (start : Start) (finished : Bool) (bytes text : List ℕ) (old new : Stages) → new.decoder ≡ old.decoder → new.tokenizer ≡ old.tokenizer → new.builder ≡ old.builder
    → new.kept ≡ old.kept → IsFurther start finished old bytes text → IsFurther start finished new bytes text
same_further start finished bytes text old new d t b k f =
    let r = f.is_run in
    record {
      run = f.run;
      is_run = record {
        begun = r.begun;
        ended = r.ended;
        decoded = rw d r.decoded;
        tokenized = rw t r.tokenized;
        handed = rw b r.handed;
        said = rw b r.said;
        has_said = rw b r.has_said;
        foreign = rw b r.foreign;
        starts = rw k r.starts;
        tokens = rw k r.tokens;
        running = rw t r.running;
        building = rw b r.building;
      };
      text_is = f.text_is;
    }

-- what stands behind a text
pub behind_is : (whole items old more : List ℕ) (start : ℕ) → whole ≡ items → start ≡ length old → items ≡ old ++ more → take (length whole - start) (drop start whole) ≡ more
behind_is whole items old more start s n e = take_rest whole start ∙ ap (λ x. drop start x) (s ∙ e) ∙ ap (λ k. drop k (old ++ more)) n ∙ drop-append_seam old more

-- THE STAGES, ONCE A TEXT WAS GATHERED AND TAKEN

pub joined_hands : (old new : Stages) (t : Tokenizer) (k : Kept) (first after whole : List ℕ) (Then : Run → Type 0) (token : Token) (c : ℕ) (g : Gathers t k new.kept first after Then)
    → token.kind ≡ Char c → first ≡ c ∷ [] → whole ≡ after → k.starts ≡ old.kept.starts ++ starts_of (token ∷ [])
    → (old.kept.keeps_tokens ≡ true → k.tokens ≡ old.kept.tokens ++ token ∷ []) → k.keeps_tokens ≡ old.kept.keeps_tokens → new.kept.keeps_tokens ≡ k.keeps_tokens
    → new.decoder ≡ old.decoder → HandsIn (chars_of whole) old.builder new.builder → LeadsTo (chars_of whole) old.builder new.builder → StaysHtml old.builder → AddsFates old.builder new.builder → builder_stopped new.builder ≡ builder_stopped old.builder
    → parses_foreign new.builder ≡ parses_foreign old.builder → HandsText old new (token ∷ g.tokens) whole
joined_hands old new t k first after whole Then token c g is one e s ks kept keeps decoder takes leads html grows building parses =
    let text : whole ≡ c ∷ g.text = e ∙ g.text_is ∙ ap (λ x. x ++ g.text) one in
    record {
      are = ap₂ (λ x xs. x ∷ xs) is g.are ∙ ap chars_of (sym text);
      decoder = decoder;
      takes = takes;
      leads = leads;
      html = html;
      grows = grows;
      starts = g.starts ∙ ap (λ x. x ++ starts_of g.tokens) s ∙ append_assoc old.kept.starts (starts_of (token ∷ [])) (starts_of g.tokens);
      tokens_are = λ wanted. g.kept (kept ∙ wanted) ∙ ap (λ x. x ++ g.tokens) (ks wanted) ∙ append_assoc old.kept.tokens (token ∷ []) g.tokens;
      keeps = keeps ∙ kept;
      building = building;
      parses = parses;
    }

-- the rest does not hang on where the tokenizer is
pub same_rest : (start : Start) (finished : Bool) (bytes : List ℕ) (run : Run) (old new : Stages) → new.decoder ≡ old.decoder → new.builder ≡ old.builder → new.kept ≡ old.kept
    → HasRest start finished old bytes run → HasRest start finished new bytes run
same_rest start finished bytes run old new d b k r = record {
  begun = r.begun;
  ended = r.ended;
  decoded = rw d r.decoded;
  handed = rw b r.handed;
  said = rw b r.said;
  has_said = rw b r.has_said;
  foreign = rw b r.foreign;
  starts = rw k r.starts;
  tokens = rw k r.tokens;
  building = rw b r.building;
}

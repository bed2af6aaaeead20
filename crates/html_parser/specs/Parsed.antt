-- Claimed.
-- What parsing answers.
use Rattle.std.specs.Prelude.{◌≡◌, ℕ, ◌≤◌, ◌+◌, ◌-◌, ◌*◌, ◌^◌, min, true, false, List, [], ◌∷◌, length, Option, Some}
use Rattle.std.specs.List.{list_all, sum_by}
use Rattle.std.specs.List.Sorted.{IsNonDecreasingBy}
use Rattle.html_input.specs.Decode.{decode, code_points}
use Rattle.html_tokens.specs.Cost.{AreCosted}
use Rattle.html_tokens.specs.Given.{IsTold}
use Rattle.html_tokens.specs.Stream.{tokens_of}
use Rattle.html_tokens.specs.declared.token.Token.{Token}
use Rattle.html_tokens.specs.declared.faults.Fault.{Fault}
use Rattle.html_tokens.specs.declared.token.TextMode.{TextMode}
use Rattle.html_tokens.specs.declared.token.TextMode.TheVariants.{Data}
use Rattle.html_arena.specs.declared.arena.Limits.{Limits}
use Rattle.html_arena.specs.Budget.{AreWithin}
use Rattle.html_arena.specs.Forest.{Forest}
use Rattle.html_arena.specs.Tree.{Tree as Nodes}
use Rattle.html_arena.specs.Weight.{weight}
use Rattle.html_ledger.specs.declared.fate.Fate.{Fate}
use Rattle.html_ledger.specs.Settings.{is_foreign_context}
use Rattle.html_construction.specs.Built.{is_native}
use Rattle.html_builder.specs.Built.{IsBuiltByRules}
use Rattle.html_builder.specs.Outcome.{IsOutcome, most_held}
use Rattle.html_builder.specs.Plain.{HavePlainFates}
use Rattle.html_builder.specs.Saying.{Reads}
use Rattle.html_ledger.specs.declared.setting.Setting.TheVariants.{Document}
use Rattle.html_page.specs.declared.profile.Profile.{Profile}
use Rattle.html_page.specs.Html.{html_of}
use Rattle.html_page.specs.Label.{Label}
use Rattle.html_page.specs.PageTokens.{HasCore}
use Rattle.html_page.specs.Plain.{IsPlainPage}
use Rattle.html_page.specs.Serialised.{HasNames}
use Rattle.html_page.specs.Shows.{Shows}
use Rattle.html_parser.specs.Faults.{fault_list, places_of}
use Rattle.html_parser.specs.Kinds.{kinds, starts_of}
use Rattle.html_parser.specs.Said.{AreSaid, AreSaidByFates}
use Rattle.html_parser.specs.Start.{Start, most_input, parses, text_start}
use Rattle.html_parser.specs.declared.faults.PageFault.{PageFault}
use Rattle.html_parser.specs.declared.options.Foreign.TheVariants.{Refuse}
use Rattle.html_parser.specs.declared.page.Page.{Page}
use Rattle.html_parser.specs.declared.page.Tree.{Tree}

-- the most counted steps of the tokenizer for a page of n code points
abbrev pub most_token_steps : ℕ → ℕ
most_token_steps n = 8 * (n + 2) + (n + 2) * (n + 2)

-- The tokens are those of the text, read by what they say of the text after them, and no others.
pub record AreTokensOf (start : Start) (text : List ℕ) (tokens : List Token) (fates : List Fate) : Type 0 where
  pub said : List (Option TextMode)
  pub are_said : AreSaid start.setting (kinds tokens) fates said
  pub by_fates : AreSaidByFates start.setting (kinds tokens) fates said
  pub are : tokens ≡ tokens_of text said (text_start start)

-- a document, whose text is first read as data
pub record IsDocument (start : Start) : Type 0 where
  pub setting_is : start.setting ≡ Document
  pub mode_is : start.mode ≡ Data

-- The errors in order of their places: those that the tokenizer told, and one of tree construction for each token of these numbers.
pub record AreFaults (tokens : List Token) (numbers : List ℕ) (faults : List PageFault) : Type 0 where
  pub told : List Fault
  pub are : faults ≡ fault_list told (places_of (starts_of tokens) numbers)

-- The counted steps are those of the tokenizer and those of tree construction, as far as 128 bits count.
pub record AreSteps (n : ℕ) (t : Nodes) (steps : ℕ) : Type 0 where
  pub own : ℕ
  pub few : own ≤ most_token_steps n
  pub are : steps ≡ min (own + t.steps) (2 ^ 128 - 1)

-- THE HEADLINE

-- What parsing answers for an input of n code points, however it was cut, where it does not refuse by a named cause: a well-formed tree, and a ledger that
-- gives each token of that input its one fate; the page's own tree where the page is plain; with at most 2(n+32)² nodes, 34(n+2)² held code points and
-- 1024(n+32)³ counted steps.
pub record Headline (start : Start) (bytes : List ℕ) (tokens : List Token) (fates : List Fate) (t : Nodes) (root : ℕ) (errors : List PageFault) (n steps : ℕ) : Type 0 where
  -- n is the number of code points, and within the limit on it
  pub n_is : n ≡ length (code_points bytes)
  pub within : n ≤ most_input start
  -- the tokens are those of the text of these bytes, and no others
  pub tokens_are : AreTokensOf start (decode bytes) tokens fates
  -- their spans are in order and disjoint, and they hold no more code points than these
  pub cost : AreCosted (length (decode bytes)) tokens
  -- the tree is well formed, each token has its one fate, which it may have, and each node has what its token has
  pub numbers : List ℕ
  pub outcome : IsOutcome start.setting (kinds tokens) fates numbers t
  pub root_is : root ≡ 0
  -- they are those to which the rules of tree construction lead, through these tokens
  pub built : IsBuiltByRules start.setting start.limits (parses start.foreign) (kinds tokens) fates t
  -- and each token says of the text after it what its fate says, or else, once foreign content was made or is the context, whether the adjusted current node is
  -- one of foreign content, so that the text is read as data of it (13.2.5.42)
  pub read : Reads start.mode (kinds tokens) tokens_are.said built.first built.last
  -- where a document's text is that of a plain page, in either profile, and the table has the five core rows: the page's own tree, and of its tokens each
  -- but the end tags and the end of the page made a node or is text
  pub plain : IsDocument start → HasCore start.rows → (p : Profile) (page : Forest Label) → IsPlainPage page → html_of p false page ≡ decode bytes
      → Shows t (root ∷ []) page × HavePlainFates (kinds tokens) fates
  -- where foreign content is refused, and is not the context, no element of it was made of a token
  pub native : start.foreign ≡ Refuse → is_foreign_context start.setting ≡ false → list_all is_native fates ≡ true
  -- how large it is
  pub nodes : length t.labels ≤ 2 * ((n + 32) * (n + 32))
  pub held : t.held ≤ 34 * ((n + 2) * (n + 2))
  pub few_steps : steps ≤ 1024 * ((n + 32) * (n + 32) * (n + 32))
  -- it keeps to the limits, where there are any
  pub kept : AreWithin start.limits (length t.labels) t.held
  pub kept_steps : (l : Limits) → start.limits ≡ Some l → steps ≤ l.steps
  -- the steps are those of the tokenizer, at least one for each code point of the text, and those of tree construction
  pub steps_are : AreSteps n t steps
  pub least_own : length (decode bytes) ≤ steps_are.own
  -- the errors are the tokenizer's, and at most one of tree construction for each token; their places never fall
  pub faults : AreFaults tokens numbers errors
  pub ordered : IsNonDecreasingBy (λ f. f.place) errors
  pub few_errors : length errors ≤ 12 * (n + 2)
  -- the tokenizer's errors and steps are those of one that was fed the text, read by what its tokens say, and gave all of them
  pub told : IsTold (text_start start) (decode bytes) tokens_are.said faults.told steps_are.own
  -- of what the serializer writes: no element has an attribute with an empty name, and all that is held was counted
  pub names : HasNames t
  pub weighs : sum_by weight t.labels ≤ most_held n

-- the page of an input
abbrev pub IsPageOf : Start → List ℕ → Page → Type 0
IsPageOf start bytes page = Headline start bytes page.tokens page.fates page.arena page.root page.errors.items page.n page.steps

-- The tree of an input, for some tokens and fates of it.
pub record IsTreeOf (start : Start) (bytes : List ℕ) (tree : Tree) : Type 0 where
  pub tokens : List Token
  pub fates : List Fate
  pub is : Headline start bytes tokens fates tree.arena tree.root tree.errors.items tree.n tree.steps
  pub count : tree.token_count ≡ length tokens

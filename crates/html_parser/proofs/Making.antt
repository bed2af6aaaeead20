-- What is made of an input at its end is what parsing is to answer.
use Rattle.std.proofs.Common.{ℕ, suc, ◌+◌, ◌-◌, ◌*◌, ◌^◌, ◌≤◌, ◌≡◌, ◌∙◌, arith, min, true, false, List, [], ◌∷◌, length, map, Option, None, refl, sym, ap, subst, length-append}
use Rattle.std.proofs.lemmas.List.{length-map}
use Rattle.std.proofs.Math.Nat.{min-le_left, mul_comm, mul-le-mul_left}
use Rattle.std.specs.List.Sorted.{IsNonDecreasingBy}
use Rattle.std.specs.Prelude.{nat_lt, cond, Bool}
use Rattle.html_arena.specs.Budget.{AreWithin}
use Rattle.html_arena.specs.Forest.{Forest}
use Rattle.html_arena.specs.Tree.{Tree as Nodes}
use Rattle.html_charref.specs.Table.{IsTable}
use Rattle.html_arena.specs.declared.arena.Limits.{Limits}
use Rattle.html_input.specs.Decode.{code_points, decode}
use Rattle.html_input.specs.Fed.{Fed as Decodes}
use Rattle.html_input.specs.declared.decoder.Decoder.{Decoder}
use Rattle.html_ledger.specs.Errors.{AreBetween as AreRising}
use Rattle.html_ledger.specs.declared.fate.Fate.{Fate}
use Rattle.html_ledger.specs.declared.setting.Setting.{Setting}
use Rattle.html_ledger.specs.declared.setting.Setting.TheVariants.{Document}
use Rattle.html_page.specs.Label.{Label}
use Rattle.html_page.specs.PageTokens.{page_kinds}
use Rattle.html_page.specs.Plain.{IsPlainPage}
use Rattle.html_page.specs.Shows.{Shows}
use Rattle.html_tokens.specs.Cost.{AreCosted}
use Rattle.html_tokens.specs.Given.{Fed, fed_len, steps_taken, told as told_by}
use Rattle.html_tokens.specs.Stream.{errors_of, Run, Start as TextStart, tokens_of}
use Rattle.html_tokens.specs.Tokens.{tokens_after}
use Rattle.html_tokens.specs.declared.faults.Fault.{Fault}
use Rattle.html_tokens.specs.declared.token.Token.{Token}
use Rattle.html_tokens.specs.declared.token.TokenKind.{TokenKind}
use Rattle.html_tokens.specs.declared.tokenizer.Tokenizer.{Tokenizer}
use Rattle.html_builder.specs.Builders.{BuilderState}
use Rattle.html_builder.specs.Built.{IsTreeIn}
use Rattle.html_builder.specs.Handed.{CostAtMost, EndsAtEof, Handed, fates_of, parses_foreign}
use Rattle.html_construction.specs.Built.{is_native, symbols}
use Rattle.html_ledger.specs.Settings.{is_foreign_context}
use Rattle.std.specs.List.{list_all}
use Rattle.html_builder.specs.Outcome.{IsBounded, IsOutcome, most_tree_steps}
use Rattle.html_builder.specs.Plain.{HavePlainFates}
use Rattle.html_builder.proofs.SayingOn.{reads-constructs}
use Rattle.html_parser.proofs.Plain.{text-kinds}
use Rattle.html_parser.specs.Faults.{construction_fault, fault_list, front_below, places_of, rest_from, told_fault}
use Rattle.html_parser.specs.Kinds.{kinds, starts_of}
use Rattle.html_parser.specs.Made.{IsWhole}
use Rattle.html_parser.specs.Said.{AreSaid}
use Rattle.html_parser.proofs.Switching.{by-fates}
use Rattle.html_ledger.specs.Fated.{Fated}
use Rattle.html_parser.specs.Parsed.{Headline, IsTreeOf, most_token_steps}
use Rattle.html_parser.specs.Staged.{IsEnded}
use Rattle.html_parser.specs.Start.{Start, most_input, parses, text_start}
use Rattle.html_parser.specs.declared.faults.PageFault.{PageFault}
use Rattle.html_parser.specs.declared.page.Tree.{Tree as TreeType}
use Rattle.html_parser.specs.declared.stages.Stages.{Stages}
use Rattle.html_parser.proofs.Naming.{kinds-named, named-tree}
use Rattle.html_parser.proofs.Costs.{costs, kinds-length, run-costed}
use Rattle.html_parser.proofs.Counts.{decode_few}
use Rattle.html_parser.proofs.Ends.{ends_at_eof}
use Rattle.html_parser.proofs.Ordering.{in_order}

-- HOW MANY ERRORS

-- by a test
both-sides : (b : Bool) (p : ℕ) (front rest ps : List ℕ) → length front + length rest ≡ length ps
    → length (cond b (p ∷ front) []) + length (cond b rest (p ∷ ps)) ≡ length (p ∷ ps)
both-sides true p front rest ps e = omega (arith, e)
both-sides false p front rest ps e = omega arith

parts-length : (k : ℕ) (ps : List ℕ) → length (front_below k ps) + length (rest_from k ps) ≡ length ps
parts-length k [] = refl
parts-length k (p ∷ ps) = both-sides (nat_lt p k) p (front_below k ps) (rest_from k ps) ps (parts-length k ps)

faults-length : (told : List Fault) (places : List ℕ) → length (fault_list told places) ≡ length told + length places
faults-length [] places = omega (arith, length-map places construction_fault)
faults-length (f ∷ fs) places =
    let rest : length (fault_list fs (rest_from f.place places)) ≡ length fs + length (rest_from f.place places)
    = faults-length fs (rest_from f.place places) in
    let front : length (map construction_fault (front_below f.place places)) ≡ length (front_below f.place places)
    = length-map (front_below f.place places) construction_fault in
    omega (arith, rest, front, parts-length f.place places, length-append (map construction_fault (front_below f.place places)) (told_fault f ∷ fault_list fs (rest_from f.place places)))

between-length : (low : ℕ) (es : List ℕ) (n : ℕ) → AreRising low es n → low + length es ≤ n
between-length low [] n a = omega (arith, a)
between-length low (e ∷ es) n (from, rest) = omega (arith, from, between-length (e + 1) es n rest)

symbols-length : (tokens : List TokenKind) → length (symbols tokens) ≡ length tokens
symbols-length [] = refl
symbols-length (t ∷ ts) = ap suc (symbols-length ts)

places-length : (starts numbers : List ℕ) → length (places_of starts numbers) ≡ length numbers
places-length starts numbers = length-map numbers _

-- ALL OF IT

-- the answers of the calls at the end
pub record Ended (d : Decoder) (t : Tokenizer) (b : BuilderState) (starts : List ℕ) (told : List Fault) (numbers : List ℕ) (fates : List Fate) (arena : Nodes) (errors : List PageFault) (n own steps : ℕ) : Type 0 where
  pub count : (limit : ℕ) (bytes text : List ℕ) → Decodes limit true d bytes text → n ≡ length (code_points bytes)
  pub text : (limit : ℕ) (bytes text : List ℕ) → Decodes limit true d bytes text → text ≡ decode bytes
  pub in_limit : (limit : ℕ) (bytes text : List ℕ) → Decodes limit true d bytes text → length (code_points bytes) ≤ limit
  pub fates_are : fates ≡ fates_of b
  pub outcome : (s : Setting) (l : Option Limits) (tokens : List TokenKind) → Handed s l tokens b → EndsAtEof tokens → IsOutcome s tokens fates numbers arena
  pub plain : (l : Option Limits) (tokens : List TokenKind) → Handed Document l tokens b → (page : Forest Label) → IsPlainPage page → tokens ≡ page_kinds page → Shows arena (0 ∷ []) page
  pub native : (s : Setting) (l : Option Limits) (tokens : List TokenKind) → Handed s l tokens b → parses_foreign b ≡ false → is_foreign_context s ≡ false → list_all is_native fates ≡ true
  pub tree_is : IsTreeIn b arena
  pub plain_fates : (l : Option Limits) (tokens : List TokenKind) → Handed Document l tokens b → (page : Forest Label) → IsPlainPage page → tokens ≡ page_kinds page → HavePlainFates tokens fates
  pub within : (s : Setting) (l : Option Limits) (tokens : List TokenKind) → Handed s l tokens b → AreWithin l (length arena.labels) arena.held
  pub own_is : own ≡ steps_taken t
  pub arena_steps : arena.steps ≡ b.page.tree.steps
  pub bounds : (s : Setting) (l : Option Limits) (tokens : List TokenKind) → Handed s l tokens b → (m : ℕ) → CostAtMost m tokens → IsBounded m arena
  pub told_is : told ≡ told_by t
  pub told_ordered : IsNonDecreasingBy (λ f. f.place) told
  pub told_few : length told ≤ 11 * (fed_len t + 2)
  pub fed : (run : Run) → Fed t run → fed_len t ≡ length run.text
  pub errors_are : errors ≡ fault_list told (places_of starts numbers)
  pub of_text : (run : Run) → Fed t run → run.finished ≡ true → tokens_of run.text run.switches run.start ≡ run.given → told ≡ errors_of run.text run.switches run.start
  pub own_least : (run : Run) → Fed t run → run.finished ≡ true → tokens_of run.text run.switches run.start ≡ run.given → length run.text ≤ own
  pub own_few : own ≤ 8 * (fed_len t + 2) + (fed_len t + 2) * (fed_len t + 2)
  pub steps_are : steps ≡ min (own + arena.steps) (2 ^ 128 - 1)

square : (a b : ℕ) → a ≤ b → (a + 2) * (a + 2) ≤ (b + 2) * (b + 2)
square a b less =
    let more : a + 2 ≤ b + 2 = omega (arith, less) in
    let left : (a + 2) * (a + 2) ≤ (a + 2) * (b + 2) = mul-le-mul_left (a + 2) more in
    let right : (b + 2) * (a + 2) ≤ (b + 2) * (b + 2) = mul-le-mul_left (b + 2) more in
    omega (arith, left, right, mul_comm (a + 2) (b + 2))

-- the steps of both together
most-all : (n : ℕ) → most_token_steps n + most_tree_steps n ≤ 1024 * ((n + 32) * (n + 32) * (n + 32))
most-all n = let all = ring n in omega (arith, all)
  where
    ring : (n : ℕ) → 512 * ((n + 32) * (n + 32) * (n + 32))
        ≡ 8 * (n + 2) + (n + 2) * (n + 2) + (512 * ((n + 2) * (n + 2) * (n + 2)) + 46079 * ((n + 2) * (n + 2)) + 1382392 * (n + 2) + 13824000)
    ring n = grind arith

few-steps : (n own tree steps : ℕ) → own ≤ most_token_steps n → tree ≤ most_tree_steps n → steps ≡ min (own + tree) (2 ^ 128 - 1) → steps ≤ 1024 * ((n + 32) * (n + 32) * (n + 32))
few-steps n own tree steps a b e =
    let least = min-le_left (own + tree) (2 ^ 128 - 1) in
    let all = most-all n in
    omega (arith, a, b, e, least, all)

-- the table of references keeps the rule of tables
table-of : (t : Tokenizer) (run : Run) → Fed t run → IsTable run.start.rows
unfolding Fed
table-of t run f = f.0.rule

ap-table : (a b : TextStart) → a ≡ b → IsTable a.rows → IsTable b.rows
ap-table a b e h = subst (λ (x : TextStart). IsTable x.rows) e h

pub made : (start : Start) (bytes : List ℕ) (run : Run) (d : Decoder) (t : Tokenizer) (b : BuilderState) (starts : List ℕ) (told : List Fault) (numbers : List ℕ) (fates : List Fate)
    (arena : Nodes) (errors : List PageFault) (n own steps : ℕ) → Ended d t b starts told numbers fates arena errors n own steps
    → IsWhole start bytes run d t b starts → Headline start bytes run.given fates arena 0 errors n steps
made start bytes run d t b starts told numbers fates arena errors n own steps e w =
    let count : n ≡ length (code_points bytes) = e.count (most_input start) bytes run.text w.decoded in
    let text : run.text ≡ decode bytes = e.text (most_input start) bytes run.text w.decoded in
    let few : length run.text ≤ n = omega (arith, count, ap length text, decode_few bytes) in
    let costed = run-costed t run w.tokenized w.all in
    let ends : EndsAtEof (kinds run.given) = subst (λ ts. EndsAtEof (kinds ts)) w.all (ends_at_eof run.text run.switches run.start) in
    let outcome = e.outcome start.setting start.limits (kinds run.given) w.handed ends in
    let fed : fed_len t ≡ length run.text = e.fed run w.tokenized in
    let said : AreSaid start.setting (kinds run.given) fates run.switches = subst (λ fs. AreSaid start.setting (kinds run.given) fs run.switches) (sym e.fates_are) w.said in
    let rising : 0 + length numbers ≤ length fates = between-length 0 numbers (length fates) outcome.told.rising in
    let all : length fates ≡ length run.given = outcome.fated.counted ∙ symbols-length (kinds run.given) ∙ kinds-length run.given in
    let bounds = e.bounds start.setting start.limits (kinds run.given) w.handed n (costs (length run.text) n run.given costed few) in
    let own_few : own ≤ most_token_steps n = omega (arith, e.own_few, fed, few, square (fed_len t) n (omega (arith, fed, few))) in
    let faults : errors ≡ fault_list told (places_of (starts_of run.given) numbers)
    = e.errors_are ∙ ap (λ ss. fault_list told (places_of ss numbers)) w.starts_are in
    let tokens : run.given ≡ tokens_of (decode bytes) run.switches (text_start start)
    = sym w.all
    ∙ ap (λ s. tokens_of run.text run.switches s) w.begun
    ∙ ap (λ x. tokens_of x run.switches (text_start start)) text in
    let table : IsTable start.rows = ap-table run.start (text_start start) w.begun (table-of t run w.tokenized) in
    record {
      tokens_are = record {
        said = run.switches;
        are_said = said;
        by_fates = by-fates start.setting (kinds run.given) fates run.switches said;
        are = tokens;
      };
      cost = subst (λ m. AreCosted m run.given) (ap length text) costed;
      ordered = in_order (length run.text) run.given told numbers errors costed (subst (AreRising 0 numbers) all outcome.told.rising) e.told_ordered faults;
      least_own = subst (λ x. length x ≤ own) text (e.own_least run w.tokenized w.finished w.all);
      told = record {
        tokenizer = t;
        run = run;
        fed = w.tokenized;
        start_is = w.begun;
        text_is = text;
        switches_are = refl;
        finished = w.finished;
        all = w.all;
        errors_are = sym e.told_is;
        errors_of_text = e.of_text run w.tokenized w.finished w.all ∙ ap (λ s. errors_of run.text run.switches s) w.begun ∙ ap (λ x. errors_of x run.switches (text_start start)) text;
        steps_are = sym e.own_is;
      };
      plain = λ document core p page h written.
          let handed : Handed Document start.limits (kinds run.given) b = subst (λ s. Handed s start.limits (kinds run.given) b) document.setting_is w.handed in
          let same : kinds run.given ≡ page_kinds page = text-kinds start.rows p page (decode bytes) run.given fates run.switches table core h written
          (subst (λ s. Fated s (symbols (kinds run.given)) fates) document.setting_is outcome.fated) (subst (λ s. AreSaid s (kinds run.given) fates run.switches) document.setting_is said)
          (tokens ∙ ap (λ m. tokens_after start.rows 0 m None 0 (decode bytes) run.switches) document.mode_is) in
          (e.plain start.limits (kinds run.given) handed page h same, e.plain_fates start.limits (kinds run.given) handed page h same);
      native = λ refused. e.native start.setting start.limits (kinds run.given) w.handed (w.foreign ∙ ap parses refused);
      numbers = numbers;
      outcome = outcome;
      root_is = refl;
      built = record {
        first = w.has_said.first;
        begins = w.has_said.begins;
        foreign_is = w.has_said.parses ∙ w.foreign;
        last = b.page;
        constructs = reads-constructs start.mode (kinds run.given) run.switches w.has_said.first b.page w.has_said.reads;
        tree_is = e.tree_is;
        fates_are = e.fates_are;
      };
      read = w.has_said.reads;
      faults = record {
        told = told;
        are = faults;
      };
      n_is = count;
      names = named-tree (kinds run.given) fates arena (kinds-named 0 (length run.text) run.given costed.order) outcome.origins;
      within = subst (λ m. m ≤ most_input start) (sym count) (e.in_limit (most_input start) bytes run.text w.decoded);
      nodes = bounds.nodes;
      held = bounds.held;
      weighs = bounds.weighs;
      kept = e.within start.setting start.limits (kinds run.given) w.handed;
      kept_steps = λ l is. subst (λ k. k ≤ l.steps) (sym (e.steps_are ∙ ap (λ k. min (k + arena.steps) (2 ^ 128 - 1)) e.own_is ∙ ap (λ k. min (steps_taken t + k) (2 ^ 128 - 1)) e.arena_steps)) (w.few l is);
      steps_are = record {
        own = own;
        few = own_few;
        are = e.steps_are;
      };
      few_steps = few-steps n own arena.steps steps own_few bounds.steps e.steps_are;
      few_errors = omega (
        arith,
        ap length faults,
        faults-length told (places_of (starts_of run.given) numbers),
        places-length (starts_of run.given) numbers,
        rising,
        all,
        costed.count,
        e.told_few,
        fed,
        few,
      );
    }

-- OF THE STAGES

pub whole : (start : Start) (p : Stages) (bytes : List ℕ) → (e : IsEnded start p bytes) → IsWhole start bytes e.run p.decoder p.tokenizer p.builder p.kept.starts
whole start p bytes e = record {
  begun = e.is_run.begun;
  finished = e.is_run.ended;
  decoded = e.is_run.decoded;
  tokenized = e.is_run.tokenized;
  handed = e.is_run.handed;
  said = e.is_run.said;
  has_said = e.is_run.has_said;
  foreign = e.is_run.foreign;
  starts_are = e.is_run.starts;
  all = e.all;
  few = e.few;
}

-- with the tokens that were kept, and with the root
pub page-of : (start : Start) (bytes : List ℕ) (given tokens : List Token) (fates : List Fate) (arena : Nodes) (root : ℕ) (errors : List PageFault) (n steps : ℕ)
    → tokens ≡ given → root ≡ 0 → Headline start bytes given fates arena 0 errors n steps → Headline start bytes tokens fates arena root errors n steps
page-of start bytes given tokens fates arena root errors n steps same first is =
    subst (λ ts. Headline start bytes ts fates arena root errors n steps) (sym same)
    (subst (λ r. Headline start bytes given fates arena r errors n steps) (sym first) is)

starts-length : (tokens : List Token) → length (starts_of tokens) ≡ length tokens
starts-length tokens = length-map tokens _

pub tree-of : (start : Start) (bytes : List ℕ) (run : Run) (starts : List ℕ) (fates : List Fate) (tree : TreeType) → starts ≡ starts_of run.given → tree.token_count ≡ length starts
    → Headline start bytes run.given fates tree.arena tree.root tree.errors.items tree.n tree.steps → IsTreeOf start bytes tree
tree-of start bytes run starts fates tree same count is = record {
  tokens = run.given;
  fates = fates;
  is = is;
  count = count ∙ ap length same ∙ starts-length run.given;
}

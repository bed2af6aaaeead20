-- A text with one more code point, and an element with more attributes.
use Rattle.std.proofs.Common.{◌≡◌, ℕ, ◌+◌, ◌-◌, ◌^◌, min, ◌<◌, List, length, set, Option, Ok, sym, ◌∙◌, ap, subst, arith}
use Rattle.std.proofs.lemmas.List.{length-append, length-set, length_push}
use Rattle.std.proofs.lemmas.List.Sums.{sum_by-set}
use Rattle.std.specs.List.{sum_by}
use Rattle.html_tokens.specs.declared.attributes.Attr.{Attr}
use Rattle.html_arena.specs.declared.links.Links.{Links}
use Rattle.html_arena.specs.declared.marks.Marks.{Marks}
use Rattle.html_arena.specs.declared.arena.Limits.{Limits}
use Rattle.html_arena.specs.declared.data.NodeData.{NodeData}
use Rattle.html_arena.specs.declared.data.NodeData.TheVariants.{Document, Contents, Element, Text, Comment, Doctype}
use Rattle.html_arena.specs.Budget.{AreWithin, held_budget}
use Rattle.html_arena.specs.Data.{IsElement, IsText, attrs_in, contents_in, host_in, label_in, name_in, tag_in, with_attrs, with_char, with_run}
use Rattle.html_arena.specs.Merge.{lacking, merged}
use Rattle.html_arena.specs.Tree.{more}
use Rattle.html_arena.specs.Weight.{attrs_weight, capped, weight}
use Rattle.html_arena.specs.Whole.{IsArena}
use Rattle.html_arena.proofs.Limited.{within_held}
use Rattle.html_arena.proofs.Labels.{relabelled, with_attrs-same, with_char-same, with_run-same}
use Rattle.html_arena.proofs.Merging.{sum-append}

weight-with_char : (d : NodeData) (c : ℕ) → IsText d → weight (with_char d c) ≡ weight d + 1
weight-with_char (Text s) c i = length_push s c
weight-with_char Document c i = absurd i
weight-with_char (Contents h) c i = absurd i
weight-with_char (Element e) c i = absurd i
weight-with_char (Comment d j) c i = absurd i
weight-with_char (Doctype n p s j) c i = absurd i

weight-with_run : (d : NodeData) (run : List ℕ) → IsText d → weight (with_run d run) ≡ weight d + length run
weight-with_run (Text s) run i = length-append s run
weight-with_run Document run i = absurd i
weight-with_run (Contents h) run i = absurd i
weight-with_run (Element e) run i = absurd i
weight-with_run (Comment d j) run i = absurd i
weight-with_run (Doctype n p s j) run i = absurd i

three : (n a b : ℕ) → n + (a + b) ≡ n + a + b
three n a b = omega arith

weight-merged : (d : NodeData) (later : List Attr) → IsElement d → weight (with_attrs d (merged (attrs_in d) later)) ≡ weight d + attrs_weight (lacking (attrs_in d) later)
weight-merged (Element e) later i = ap (λ n. length e.name + n) (sum-append e.attrs (lacking e.attrs later)) ∙ three (length e.name) (attrs_weight e.attrs) (attrs_weight (lacking e.attrs later))
weight-merged Document later i = absurd i
weight-merged (Contents h) later i = absurd i
weight-merged (Text s) later i = absurd i
weight-merged (Comment s j) later i = absurd i
weight-merged (Doctype n p s j) later i = absurd i

-- what is held, up to the greatest number m, with k more
held_more : (h s t k m : ℕ) → h ≡ min s m → t ≡ s + k → min (h + min k m) m ≡ min t m
held_more h s t k m e f = omega arith

more_capped : (h k m : ℕ) → min (h + k) m ≡ min (h + min k m) m
more_capped h k m = omega arith

-- the same seen of the label at x but for its weight, which grows by k
module _ (ls : List Links) (ds : List NodeData) (ms : List Marks) (h : ℕ) (o : Option Limits) (a : IsArena ls ds ms h o) where
  weighed : (x h' k : ℕ) (new : List NodeData) (z : NodeData) → x < length ds → new ≡ set ds x z → weight z ≡ weight (label_in ds x) + k → h' ≡ more h (capped k)
      → (tag_in z ≡ tag_in (label_in ds x)) × (name_in z ≡ name_in (label_in ds x)) × (contents_in z ≡ contents_in (label_in ds x)) × (host_in z ≡ host_in (label_in ds x))
      → AreWithin o (length ds) h' → IsArena ls new ms h' o
  weighed x h' k new z b ed wz eh same room =
      let n = length-set ds x z in
      let v = sum_by-set weight ds x z Document b in
      let t : sum_by weight (set ds x z) ≡ sum_by weight ds + k = omega arith in
      let whole : IsArena ls (set ds x z) ms h' o = record {
        whole = record {
          same_length = a.whole.same_length ∙ sym n;
          held_is = eh ∙ held_more h (sum_by weight ds) (sum_by weight (set ds x z)) k (2 ^ 128 - 1) a.whole.held_is t;
          shape = a.whole.shape;
          acyclic = a.whole.acyclic;
        };
        labelled = relabelled ls ds ms a.labelled x z b same.0 same.1 same.2 same.3;
        within = subst (λ m. AreWithin o m h') (sym n) room;
        few = a.few;
      } in
      subst (λ (v : List NodeData). IsArena ls v ms h' o) (sym ed) whole

  pub texted_arena : (x c h' : ℕ) (new : List NodeData) → x < length ds → IsText (label_in ds x) → new ≡ set ds x (with_char (label_in ds x) c) → h' ≡ more h 1 → AreWithin o (length ds) h' → IsArena ls new ms h' o
  texted_arena x c h' new b t ed eh room = weighed x h' 1 new (with_char (label_in ds x) c) b ed (weight-with_char (label_in ds x) c t) eh (with_char-same (label_in ds x) c t) room

  pub run_arena : (x h' : ℕ) (run : List ℕ) (new : List NodeData) → x < length ds → IsText (label_in ds x) → new ≡ set ds x (with_run (label_in ds x) run) → h' ≡ more h (length run) → AreWithin o (length ds) h' → IsArena ls new ms h' o
  run_arena x h' run new b t ed eh room =
      weighed x h' (length run) new (with_run (label_in ds x) run) b ed (weight-with_run (label_in ds x) run t) (eh ∙ more_capped h (length run) (2 ^ 128 - 1)) (with_run-same (label_in ds x) run t) room

  pub merged_arena : (x h' : ℕ) (later : List Attr) (new : List NodeData) → x < length ds → IsElement (label_in ds x) → new ≡ set ds x (with_attrs (label_in ds x) (merged (attrs_in (label_in ds x)) later))
      → h' ≡ more h (capped (attrs_weight (lacking (attrs_in (label_in ds x)) later))) → AreWithin o (length ds) h' → IsArena ls new ms h' o
  merged_arena x h' later new b t ed eh room =
      weighed x h' (attrs_weight (lacking (attrs_in (label_in ds x)) later)) new (with_attrs (label_in ds x) (merged (attrs_in (label_in ds x)) later)) b ed
      (weight-merged (label_in ds x) later t) eh (with_attrs-same (label_in ds x) (merged (attrs_in (label_in ds x)) later)) room

  pub replaced_arena : (x h' : ℕ) (attrs : List Attr) (new : List NodeData) → x < length ds → new ≡ set ds x (with_attrs (label_in ds x) attrs)
      → h' ≡ capped (sum_by weight (set ds x (with_attrs (label_in ds x) attrs))) → held_budget o h' ≡ Ok tt → IsArena ls new ms h' o
  replaced_arena x h' attrs new b ed eh room =
      let z = with_attrs (label_in ds x) attrs in
      let n = length-set ds x z in
      let same = with_attrs-same (label_in ds x) attrs in
      let whole : IsArena ls (set ds x z) ms h' o = record {
        whole = record {
          same_length = a.whole.same_length ∙ sym n;
          held_is = eh;
          shape = a.whole.shape;
          acyclic = a.whole.acyclic;
        };
        labelled = relabelled ls ds ms a.labelled x z b same.0 same.1 same.2 same.3;
        within = subst (λ m. AreWithin o m h') (sym n) (within_held o (length ds) h h' a.within room);
        few = a.few;
      } in
      subst (λ (v : List NodeData). IsArena ls v ms h' o) (sym ed) whole

use Rattle.std.proofs.Common.{◌≤◌, ◌+◌, ◌-◌, ◌∷◌, [], ◌++◌, List, ℕ, sym, ◌∙◌, ap, subst, length, arith}
use Rattle.html_arena.specs.declared.marks.Mark.TheVariants.{InList}
use Rattle.html_arena.specs.Data.{is_linkable}
use Rattle.html_arena.specs.Tree.{label_of, marked}
use Rattle.std.proofs.Common.{get_or, refl}
use Rattle.std.proofs.lemmas.Result.{err_from_is_err_and}
use Rattle.html_arena.specs.declared.arena.ArenaError.{ArenaError}
use Rattle.html_open.specs.Adopting.{round_originals}
use Rattle.html_open.specs.Cloning.{AreCloned, AreFormatting, HaveEntered, IsCut}
use Rattle.html_open.specs.Opened.{open_at}
use Rattle.html_open.proofs.Cutting.{cut-all}
use Rattle.html_open.specs.Hanging.{Hung, StandAlone}
use Rattle.html_open.proofs.Counting.{grown-regrouped, regroup-counted}
use Rattle.html_open.proofs.Numbering.{originals-few}
use Rattle.std.proofs.Common.{take, drop}
use Rattle.html_open.proofs.Regrouping.{at-within, clone-in, cs-formatting, cut-after, end-in, entries-in, f-formatting, fresh-clones, front-kept, g-below, g-linkable, index-is, inner-in, left-in, length-is, new-list, new-stack, older, open-after, place-there, regrouped, within}
use Rattle.html_open.proofs.adoption.round.regroup.Goals as goal

pub elements_to_clone-originals-requires : goal.elements_to_clone-originals-requires
elements_to_clone-originals-requires c = inner-in c.args.nodes.now c.args.entries.now c.args.arena.now c.args.at c.args.block_at c.forest.ensures.well_formed c.requires.«open» c.requires.block.0 c.requires.block.1

pub clone_all-requires-clause-originals : goal.clone_all-requires-clause-originals
clone_all-requires-clause-originals c = subst (AreFormatting c.args.arena.now) (sym c.as_slice.ensures) (cs-formatting c.args.nodes.now c.args.entries.now c.args.arena.now c.args.at c.args.block_at c.forest.ensures.well_formed c.requires.«open» c.requires.block.0 c.requires.block.1 c.elements_to_clone-originals.result c.elements_to_clone-originals.ensures)

pub clone_all-requires-clause-formatting : goal.clone_all-requires-clause-formatting
clone_all-requires-clause-formatting c = f-formatting c.args.nodes.now c.args.entries.now c.args.arena.now c.args.at c.args.block_at c.forest.ensures.well_formed c.requires.«open» c.requires.block.0 c.requires.block.1 c.index-nodes-at.result (index-is c.args.nodes.now c.args.at c.index-nodes-at.result (at-within c.args.nodes.now c.args.entries.now c.args.arena.now c.args.at c.args.block_at c.forest.ensures.well_formed c.requires.«open» c.requires.block.0 c.requires.block.1) c.index-nodes-at.is)

pub leave-requires : goal.leave-requires
leave-requires c = left-in c.args.nodes.now c.args.entries.now c.args.arena.now c.args.at c.args.block_at c.forest.ensures.well_formed c.requires.«open» c.requires.block.0 c.requires.block.1 c.elements_to_clone-originals.result c.elements_to_clone-originals.ensures c.clone_all.new.arena (subst (λ (x : ℕ). AreCloned c.args.arena.now c.clone_all.new.arena (c.elements_to_clone-originals.result ++ x ∷ [])) (index-is c.args.nodes.now c.args.at c.index-nodes-at.result (at-within c.args.nodes.now c.args.entries.now c.args.arena.now c.args.at c.args.block_at c.forest.ensures.well_formed c.requires.«open» c.requires.block.0 c.requires.block.1) c.index-nodes-at.is) (subst (λ (v : List ℕ). AreCloned c.args.arena.now c.clone_all.new.arena (v ++ c.index-nodes-at.result ∷ [])) c.as_slice.ensures c.in_ok-clone.ensures.cloned))

pub relisted-requires-clause-nodes_in : goal.relisted-requires-clause-nodes_in
relisted-requires-clause-nodes_in c = entries-in c.args.nodes.now c.args.entries.now c.args.arena.now c.args.at c.args.block_at c.forest.ensures.well_formed c.requires.«open» c.requires.block.0 c.requires.block.1 c.elements_to_clone-originals.result c.elements_to_clone-originals.ensures c.clone_all.new.arena (subst (λ (x : ℕ). AreCloned c.args.arena.now c.clone_all.new.arena (c.elements_to_clone-originals.result ++ x ∷ [])) (index-is c.args.nodes.now c.args.at c.index-nodes-at.result (at-within c.args.nodes.now c.args.entries.now c.args.arena.now c.args.at c.args.block_at c.forest.ensures.well_formed c.requires.«open» c.requires.block.0 c.requires.block.1) c.index-nodes-at.is) (subst (λ (v : List ℕ). AreCloned c.args.arena.now c.clone_all.new.arena (v ++ c.index-nodes-at.result ∷ [])) c.as_slice.ensures c.in_ok-clone.ensures.cloned)) c.leave.new.arena c.leave.ensures.same c.leave.ensures.marks

pub enter-requires-clause-ordered : goal.enter-requires-clause-ordered
enter-requires-clause-ordered c =
    let a = c.len-first.ensures in
    let e = (c.len-end.ensures ∙ length-is c.args.nodes.now c.args.entries.now c.args.arena.now c.args.at c.args.block_at c.forest.ensures.well_formed c.requires.«open» c.requires.block.0 c.requires.block.1 c.elements_to_clone-originals.result c.elements_to_clone-originals.ensures c.clone_all.new.arena (subst (λ (x : ℕ). AreCloned c.args.arena.now c.clone_all.new.arena (c.elements_to_clone-originals.result ++ x ∷ [])) (index-is c.args.nodes.now c.args.at c.index-nodes-at.result (at-within c.args.nodes.now c.args.entries.now c.args.arena.now c.args.at c.args.block_at c.forest.ensures.well_formed c.requires.«open» c.requires.block.0 c.requires.block.1) c.index-nodes-at.is) (subst (λ (v : List ℕ). AreCloned c.args.arena.now c.clone_all.new.arena (v ++ c.index-nodes-at.result ∷ [])) c.as_slice.ensures c.in_ok-clone.ensures.cloned))) in
    omega (arith, a, e)

pub enter-requires-clause-end_in : goal.enter-requires-clause-end_in
enter-requires-clause-end_in c =
    let a = end-in c.args.nodes.now c.args.entries.now c.args.arena.now c.args.at c.args.block_at c.forest.ensures.well_formed c.requires.«open» c.requires.block.0 c.requires.block.1 c.elements_to_clone-originals.result c.elements_to_clone-originals.ensures c.clone_all.new.arena (subst (λ (x : ℕ). AreCloned c.args.arena.now c.clone_all.new.arena (c.elements_to_clone-originals.result ++ x ∷ [])) (index-is c.args.nodes.now c.args.at c.index-nodes-at.result (at-within c.args.nodes.now c.args.entries.now c.args.arena.now c.args.at c.args.block_at c.forest.ensures.well_formed c.requires.«open» c.requires.block.0 c.requires.block.1) c.index-nodes-at.is) (subst (λ (v : List ℕ). AreCloned c.args.arena.now c.clone_all.new.arena (v ++ c.index-nodes-at.result ∷ [])) c.as_slice.ensures c.in_ok-clone.ensures.cloned)) c.leave.new.arena c.leave.ensures.same c.leave.ensures.marks in
    let e = (c.len-end.ensures ∙ length-is c.args.nodes.now c.args.entries.now c.args.arena.now c.args.at c.args.block_at c.forest.ensures.well_formed c.requires.«open» c.requires.block.0 c.requires.block.1 c.elements_to_clone-originals.result c.elements_to_clone-originals.ensures c.clone_all.new.arena (subst (λ (x : ℕ). AreCloned c.args.arena.now c.clone_all.new.arena (c.elements_to_clone-originals.result ++ x ∷ [])) (index-is c.args.nodes.now c.args.at c.index-nodes-at.result (at-within c.args.nodes.now c.args.entries.now c.args.arena.now c.args.at c.args.block_at c.forest.ensures.well_formed c.requires.«open» c.requires.block.0 c.requires.block.1) c.index-nodes-at.is) (subst (λ (v : List ℕ). AreCloned c.args.arena.now c.clone_all.new.arena (v ++ c.index-nodes-at.result ∷ [])) c.as_slice.ensures c.in_ok-clone.ensures.cloned))) in
    omega (arith, a, e)

pub hang-requires-clause-block_below : goal.hang-requires-clause-block_below
hang-requires-clause-block_below c =
    let a = g-below c.args.nodes.now c.args.entries.now c.args.arena.now c.args.at c.args.block_at c.forest.ensures.well_formed c.requires.«open» c.requires.block.0 c.requires.block.1 c.elements_to_clone-originals.result c.elements_to_clone-originals.ensures c.clone_all.new.arena (subst (λ (x : ℕ). AreCloned c.args.arena.now c.clone_all.new.arena (c.elements_to_clone-originals.result ++ x ∷ [])) (index-is c.args.nodes.now c.args.at c.index-nodes-at.result (at-within c.args.nodes.now c.args.entries.now c.args.arena.now c.args.at c.args.block_at c.forest.ensures.well_formed c.requires.«open» c.requires.block.0 c.requires.block.1) c.index-nodes-at.is) (subst (λ (v : List ℕ). AreCloned c.args.arena.now c.clone_all.new.arena (v ++ c.index-nodes-at.result ∷ [])) c.as_slice.ensures c.in_ok-clone.ensures.cloned)) c.leave.new.arena c.leave.ensures.same c.leave.ensures.marks c.enter.new.arena c.enter.ensures.same (subst (HaveEntered c.leave.new.arena c.enter.new.arena (length c.args.arena.now.labels)) (c.len-end.ensures ∙ length-is c.args.nodes.now c.args.entries.now c.args.arena.now c.args.at c.args.block_at c.forest.ensures.well_formed c.requires.«open» c.requires.block.0 c.requires.block.1 c.elements_to_clone-originals.result c.elements_to_clone-originals.ensures c.clone_all.new.arena (subst (λ (x : ℕ). AreCloned c.args.arena.now c.clone_all.new.arena (c.elements_to_clone-originals.result ++ x ∷ [])) (index-is c.args.nodes.now c.args.at c.index-nodes-at.result (at-within c.args.nodes.now c.args.entries.now c.args.arena.now c.args.at c.args.block_at c.forest.ensures.well_formed c.requires.«open» c.requires.block.0 c.requires.block.1) c.index-nodes-at.is) (subst (λ (v : List ℕ). AreCloned c.args.arena.now c.clone_all.new.arena (v ++ c.index-nodes-at.result ∷ [])) c.as_slice.ensures c.in_ok-clone.ensures.cloned))) (subst (λ (x : ℕ). HaveEntered c.leave.new.arena c.enter.new.arena x c.len-end.result) c.len-first.ensures c.enter.ensures.marks)) c.args.target c.requires.place_in c.requires.way_in c.requires.apart in
    let e = c.len-first.ensures in
    let f = (index-is c.args.nodes.now c.args.block_at c.index-nodes-block_at.result (within c.args.nodes.now c.args.entries.now c.args.arena.now c.args.at c.args.block_at c.forest.ensures.well_formed c.requires.«open» c.requires.block.0 c.requires.block.1) c.index-nodes-block_at.is) in
    omega (arith, a, e, f)

pub hang-requires-clause-ordered : goal.hang-requires-clause-ordered
hang-requires-clause-ordered c =
    let a = c.len-first.ensures in
    let e = (c.in_ok-clone.ensures.number ∙ ap (λ (v : List ℕ). length c.args.arena.now.labels + length v) c.as_slice.ensures) in
    omega (arith, a, e)

pub hang-requires-clause-clone_in : goal.hang-requires-clause-clone_in
hang-requires-clause-clone_in c =
    let a = clone-in c.args.nodes.now c.args.entries.now c.args.arena.now c.args.at c.args.block_at c.forest.ensures.well_formed c.requires.«open» c.requires.block.0 c.requires.block.1 c.elements_to_clone-originals.result c.elements_to_clone-originals.ensures c.clone_all.new.arena (subst (λ (x : ℕ). AreCloned c.args.arena.now c.clone_all.new.arena (c.elements_to_clone-originals.result ++ x ∷ [])) (index-is c.args.nodes.now c.args.at c.index-nodes-at.result (at-within c.args.nodes.now c.args.entries.now c.args.arena.now c.args.at c.args.block_at c.forest.ensures.well_formed c.requires.«open» c.requires.block.0 c.requires.block.1) c.index-nodes-at.is) (subst (λ (v : List ℕ). AreCloned c.args.arena.now c.clone_all.new.arena (v ++ c.index-nodes-at.result ∷ [])) c.as_slice.ensures c.in_ok-clone.ensures.cloned)) c.leave.new.arena c.leave.ensures.same c.leave.ensures.marks c.enter.new.arena c.enter.ensures.same (subst (HaveEntered c.leave.new.arena c.enter.new.arena (length c.args.arena.now.labels)) (c.len-end.ensures ∙ length-is c.args.nodes.now c.args.entries.now c.args.arena.now c.args.at c.args.block_at c.forest.ensures.well_formed c.requires.«open» c.requires.block.0 c.requires.block.1 c.elements_to_clone-originals.result c.elements_to_clone-originals.ensures c.clone_all.new.arena (subst (λ (x : ℕ). AreCloned c.args.arena.now c.clone_all.new.arena (c.elements_to_clone-originals.result ++ x ∷ [])) (index-is c.args.nodes.now c.args.at c.index-nodes-at.result (at-within c.args.nodes.now c.args.entries.now c.args.arena.now c.args.at c.args.block_at c.forest.ensures.well_formed c.requires.«open» c.requires.block.0 c.requires.block.1) c.index-nodes-at.is) (subst (λ (v : List ℕ). AreCloned c.args.arena.now c.clone_all.new.arena (v ++ c.index-nodes-at.result ∷ [])) c.as_slice.ensures c.in_ok-clone.ensures.cloned))) (subst (λ (x : ℕ). HaveEntered c.leave.new.arena c.enter.new.arena x c.len-end.result) c.len-first.ensures c.enter.ensures.marks)) c.args.target c.requires.place_in c.requires.way_in c.requires.apart in
    let e = (c.in_ok-clone.ensures.number ∙ ap (λ (v : List ℕ). length c.args.arena.now.labels + length v) c.as_slice.ensures) in
    omega (arith, a, e)

pub hang-requires-clause-block_linkable : goal.hang-requires-clause-block_linkable
hang-requires-clause-block_linkable c = ap (λ (x : ℕ). is_linkable (label_of c.enter.new.arena x)) (index-is c.args.nodes.now c.args.block_at c.index-nodes-block_at.result (within c.args.nodes.now c.args.entries.now c.args.arena.now c.args.at c.args.block_at c.forest.ensures.well_formed c.requires.«open» c.requires.block.0 c.requires.block.1) c.index-nodes-block_at.is) ∙ g-linkable c.args.nodes.now c.args.entries.now c.args.arena.now c.args.at c.args.block_at c.forest.ensures.well_formed c.requires.«open» c.requires.block.0 c.requires.block.1 c.elements_to_clone-originals.result c.elements_to_clone-originals.ensures c.clone_all.new.arena (subst (λ (x : ℕ). AreCloned c.args.arena.now c.clone_all.new.arena (c.elements_to_clone-originals.result ++ x ∷ [])) (index-is c.args.nodes.now c.args.at c.index-nodes-at.result (at-within c.args.nodes.now c.args.entries.now c.args.arena.now c.args.at c.args.block_at c.forest.ensures.well_formed c.requires.«open» c.requires.block.0 c.requires.block.1) c.index-nodes-at.is) (subst (λ (v : List ℕ). AreCloned c.args.arena.now c.clone_all.new.arena (v ++ c.index-nodes-at.result ∷ [])) c.as_slice.ensures c.in_ok-clone.ensures.cloned)) c.leave.new.arena c.leave.ensures.same c.leave.ensures.marks c.enter.new.arena c.enter.ensures.same (subst (HaveEntered c.leave.new.arena c.enter.new.arena (length c.args.arena.now.labels)) (c.len-end.ensures ∙ length-is c.args.nodes.now c.args.entries.now c.args.arena.now c.args.at c.args.block_at c.forest.ensures.well_formed c.requires.«open» c.requires.block.0 c.requires.block.1 c.elements_to_clone-originals.result c.elements_to_clone-originals.ensures c.clone_all.new.arena (subst (λ (x : ℕ). AreCloned c.args.arena.now c.clone_all.new.arena (c.elements_to_clone-originals.result ++ x ∷ [])) (index-is c.args.nodes.now c.args.at c.index-nodes-at.result (at-within c.args.nodes.now c.args.entries.now c.args.arena.now c.args.at c.args.block_at c.forest.ensures.well_formed c.requires.«open» c.requires.block.0 c.requires.block.1) c.index-nodes-at.is) (subst (λ (v : List ℕ). AreCloned c.args.arena.now c.clone_all.new.arena (v ++ c.index-nodes-at.result ∷ [])) c.as_slice.ensures c.in_ok-clone.ensures.cloned))) (subst (λ (x : ℕ). HaveEntered c.leave.new.arena c.enter.new.arena x c.len-end.result) c.len-first.ensures c.enter.ensures.marks)) c.args.target c.requires.place_in c.requires.way_in c.requires.apart

pub hang-requires-clause-fresh : goal.hang-requires-clause-fresh
hang-requires-clause-fresh c =
    subst (λ (x : ℕ). StandAlone c.enter.new.arena x (c.in_ok-clone.clone + 1)) (sym c.len-first.ensures)
    (subst (λ (x : ℕ). StandAlone c.enter.new.arena (length c.args.arena.now.labels) (x + 1)) (sym (c.in_ok-clone.ensures.number ∙ ap (λ (v : List ℕ). length c.args.arena.now.labels + length v) c.as_slice.ensures)) (fresh-clones c.args.nodes.now c.args.entries.now c.args.arena.now c.args.at c.args.block_at c.forest.ensures.well_formed c.requires.«open» c.requires.block.0 c.requires.block.1 c.elements_to_clone-originals.result c.elements_to_clone-originals.ensures c.clone_all.new.arena (subst (λ (x : ℕ). AreCloned c.args.arena.now c.clone_all.new.arena (c.elements_to_clone-originals.result ++ x ∷ [])) (index-is c.args.nodes.now c.args.at c.index-nodes-at.result (at-within c.args.nodes.now c.args.entries.now c.args.arena.now c.args.at c.args.block_at c.forest.ensures.well_formed c.requires.«open» c.requires.block.0 c.requires.block.1) c.index-nodes-at.is) (subst (λ (v : List ℕ). AreCloned c.args.arena.now c.clone_all.new.arena (v ++ c.index-nodes-at.result ∷ [])) c.as_slice.ensures c.in_ok-clone.ensures.cloned)) c.leave.new.arena c.leave.ensures.same c.leave.ensures.marks c.enter.new.arena c.enter.ensures.same (subst (HaveEntered c.leave.new.arena c.enter.new.arena (length c.args.arena.now.labels)) (c.len-end.ensures ∙ length-is c.args.nodes.now c.args.entries.now c.args.arena.now c.args.at c.args.block_at c.forest.ensures.well_formed c.requires.«open» c.requires.block.0 c.requires.block.1 c.elements_to_clone-originals.result c.elements_to_clone-originals.ensures c.clone_all.new.arena (subst (λ (x : ℕ). AreCloned c.args.arena.now c.clone_all.new.arena (c.elements_to_clone-originals.result ++ x ∷ [])) (index-is c.args.nodes.now c.args.at c.index-nodes-at.result (at-within c.args.nodes.now c.args.entries.now c.args.arena.now c.args.at c.args.block_at c.forest.ensures.well_formed c.requires.«open» c.requires.block.0 c.requires.block.1) c.index-nodes-at.is) (subst (λ (v : List ℕ). AreCloned c.args.arena.now c.clone_all.new.arena (v ++ c.index-nodes-at.result ∷ [])) c.as_slice.ensures c.in_ok-clone.ensures.cloned))) (subst (λ (x : ℕ). HaveEntered c.leave.new.arena c.enter.new.arena x c.len-end.result) c.len-first.ensures c.enter.ensures.marks)) c.args.target c.requires.place_in c.requires.way_in c.requires.apart))

pub hang-requires-clause-place_in : goal.hang-requires-clause-place_in
hang-requires-clause-place_in c = place-there c.args.nodes.now c.args.entries.now c.args.arena.now c.args.at c.args.block_at c.forest.ensures.well_formed c.requires.«open» c.requires.block.0 c.requires.block.1 c.elements_to_clone-originals.result c.elements_to_clone-originals.ensures c.clone_all.new.arena (subst (λ (x : ℕ). AreCloned c.args.arena.now c.clone_all.new.arena (c.elements_to_clone-originals.result ++ x ∷ [])) (index-is c.args.nodes.now c.args.at c.index-nodes-at.result (at-within c.args.nodes.now c.args.entries.now c.args.arena.now c.args.at c.args.block_at c.forest.ensures.well_formed c.requires.«open» c.requires.block.0 c.requires.block.1) c.index-nodes-at.is) (subst (λ (v : List ℕ). AreCloned c.args.arena.now c.clone_all.new.arena (v ++ c.index-nodes-at.result ∷ [])) c.as_slice.ensures c.in_ok-clone.ensures.cloned)) c.leave.new.arena c.leave.ensures.same c.leave.ensures.marks c.enter.new.arena c.enter.ensures.same (subst (HaveEntered c.leave.new.arena c.enter.new.arena (length c.args.arena.now.labels)) (c.len-end.ensures ∙ length-is c.args.nodes.now c.args.entries.now c.args.arena.now c.args.at c.args.block_at c.forest.ensures.well_formed c.requires.«open» c.requires.block.0 c.requires.block.1 c.elements_to_clone-originals.result c.elements_to_clone-originals.ensures c.clone_all.new.arena (subst (λ (x : ℕ). AreCloned c.args.arena.now c.clone_all.new.arena (c.elements_to_clone-originals.result ++ x ∷ [])) (index-is c.args.nodes.now c.args.at c.index-nodes-at.result (at-within c.args.nodes.now c.args.entries.now c.args.arena.now c.args.at c.args.block_at c.forest.ensures.well_formed c.requires.«open» c.requires.block.0 c.requires.block.1) c.index-nodes-at.is) (subst (λ (v : List ℕ). AreCloned c.args.arena.now c.clone_all.new.arena (v ++ c.index-nodes-at.result ∷ [])) c.as_slice.ensures c.in_ok-clone.ensures.cloned))) (subst (λ (x : ℕ). HaveEntered c.leave.new.arena c.enter.new.arena x c.len-end.result) c.len-first.ensures c.enter.ensures.marks)) c.args.target c.requires.place_in c.requires.way_in c.requires.apart

pub hang-requires-clause-older : goal.hang-requires-clause-older
hang-requires-clause-older c = λ y h.
    let r = older c.args.nodes.now c.args.entries.now c.args.arena.now c.args.at c.args.block_at c.forest.ensures.well_formed c.requires.«open» c.requires.block.0 c.requires.block.1 c.elements_to_clone-originals.result c.elements_to_clone-originals.ensures c.clone_all.new.arena (subst (λ (x : ℕ). AreCloned c.args.arena.now c.clone_all.new.arena (c.elements_to_clone-originals.result ++ x ∷ [])) (index-is c.args.nodes.now c.args.at c.index-nodes-at.result (at-within c.args.nodes.now c.args.entries.now c.args.arena.now c.args.at c.args.block_at c.forest.ensures.well_formed c.requires.«open» c.requires.block.0 c.requires.block.1) c.index-nodes-at.is) (subst (λ (v : List ℕ). AreCloned c.args.arena.now c.clone_all.new.arena (v ++ c.index-nodes-at.result ∷ [])) c.as_slice.ensures c.in_ok-clone.ensures.cloned)) c.leave.new.arena c.leave.ensures.same c.leave.ensures.marks c.enter.new.arena c.enter.ensures.same (subst (HaveEntered c.leave.new.arena c.enter.new.arena (length c.args.arena.now.labels)) (c.len-end.ensures ∙ length-is c.args.nodes.now c.args.entries.now c.args.arena.now c.args.at c.args.block_at c.forest.ensures.well_formed c.requires.«open» c.requires.block.0 c.requires.block.1 c.elements_to_clone-originals.result c.elements_to_clone-originals.ensures c.clone_all.new.arena (subst (λ (x : ℕ). AreCloned c.args.arena.now c.clone_all.new.arena (c.elements_to_clone-originals.result ++ x ∷ [])) (index-is c.args.nodes.now c.args.at c.index-nodes-at.result (at-within c.args.nodes.now c.args.entries.now c.args.arena.now c.args.at c.args.block_at c.forest.ensures.well_formed c.requires.«open» c.requires.block.0 c.requires.block.1) c.index-nodes-at.is) (subst (λ (v : List ℕ). AreCloned c.args.arena.now c.clone_all.new.arena (v ++ c.index-nodes-at.result ∷ [])) c.as_slice.ensures c.in_ok-clone.ensures.cloned))) (subst (λ (x : ℕ). HaveEntered c.leave.new.arena c.enter.new.arena x c.len-end.result) c.len-first.ensures c.enter.ensures.marks)) c.args.target c.requires.place_in c.requires.way_in c.requires.apart y h in
    let a = c.len-first.ensures in
    let r0 = r.0 in
    (omega (arith, a, r0), λ q. r.1 (q ∙ (index-is c.args.nodes.now c.args.block_at c.index-nodes-block_at.result (within c.args.nodes.now c.args.entries.now c.args.arena.now c.args.at c.args.block_at c.forest.ensures.well_formed c.requires.«open» c.requires.block.0 c.requires.block.1) c.index-nodes-block_at.is)))

pub returns-clause-kept : goal.returns-clause-kept
returns-clause-kept c = open-after c.args.nodes.now c.args.entries.now c.args.arena.now c.args.at c.args.block_at c.forest.ensures.well_formed c.requires.«open» c.requires.block.0 c.requires.block.1 c.elements_to_clone-originals.result c.elements_to_clone-originals.ensures c.clone_all.new.arena (subst (λ (x : ℕ). AreCloned c.args.arena.now c.clone_all.new.arena (c.elements_to_clone-originals.result ++ x ∷ [])) (index-is c.args.nodes.now c.args.at c.index-nodes-at.result (at-within c.args.nodes.now c.args.entries.now c.args.arena.now c.args.at c.args.block_at c.forest.ensures.well_formed c.requires.«open» c.requires.block.0 c.requires.block.1) c.index-nodes-at.is) (subst (λ (v : List ℕ). AreCloned c.args.arena.now c.clone_all.new.arena (v ++ c.index-nodes-at.result ∷ [])) c.as_slice.ensures c.in_ok-clone.ensures.cloned)) c.leave.new.arena c.leave.ensures.same c.leave.ensures.marks c.enter.new.arena c.enter.ensures.same (subst (HaveEntered c.leave.new.arena c.enter.new.arena (length c.args.arena.now.labels)) (c.len-end.ensures ∙ length-is c.args.nodes.now c.args.entries.now c.args.arena.now c.args.at c.args.block_at c.forest.ensures.well_formed c.requires.«open» c.requires.block.0 c.requires.block.1 c.elements_to_clone-originals.result c.elements_to_clone-originals.ensures c.clone_all.new.arena (subst (λ (x : ℕ). AreCloned c.args.arena.now c.clone_all.new.arena (c.elements_to_clone-originals.result ++ x ∷ [])) (index-is c.args.nodes.now c.args.at c.index-nodes-at.result (at-within c.args.nodes.now c.args.entries.now c.args.arena.now c.args.at c.args.block_at c.forest.ensures.well_formed c.requires.«open» c.requires.block.0 c.requires.block.1) c.index-nodes-at.is) (subst (λ (v : List ℕ). AreCloned c.args.arena.now c.clone_all.new.arena (v ++ c.index-nodes-at.result ∷ [])) c.as_slice.ensures c.in_ok-clone.ensures.cloned))) (subst (λ (x : ℕ). HaveEntered c.leave.new.arena c.enter.new.arena x c.len-end.result) c.len-first.ensures c.enter.ensures.marks)) c.args.target c.requires.place_in c.requires.way_in c.requires.apart c.hang.new.arena (subst (λ (x : ℕ). Hung c.enter.new.arena c.hang.new.arena x (length c.args.arena.now.labels) (length c.args.arena.now.labels + length c.elements_to_clone-originals.result) c.args.target) (index-is c.args.nodes.now c.args.block_at c.index-nodes-block_at.result (within c.args.nodes.now c.args.entries.now c.args.arena.now c.args.at c.args.block_at c.forest.ensures.well_formed c.requires.«open» c.requires.block.0 c.requires.block.1) c.index-nodes-block_at.is) (subst (λ (x : ℕ). Hung c.enter.new.arena c.hang.new.arena c.index-nodes-block_at.result (length c.args.arena.now.labels) x c.args.target) (c.in_ok-clone.ensures.number ∙ ap (λ (v : List ℕ). length c.args.arena.now.labels + length v) c.as_slice.ensures) (subst (λ (x : ℕ). Hung c.enter.new.arena c.hang.new.arena c.index-nodes-block_at.result x c.in_ok-clone.clone c.args.target) c.len-first.ensures c.hang.ensures.hung))) c.in_ok-new_nodes.new_nodes.items c.relisted.new.list.items
    (new-stack c.args.nodes.now c.in_ok-new_nodes.new_nodes.items c.args.at c.args.block_at c.len-first.result c.in_ok-clone.clone (length c.args.arena.now.labels) (length c.elements_to_clone-originals.result) c.len-first.ensures (c.in_ok-clone.ensures.number ∙ ap (λ (v : List ℕ). length c.args.arena.now.labels + length v) c.as_slice.ensures) c.in_ok-new_nodes.ensures)
    (c.relisted.ensures ∙ new-list c.index-nodes-at-2.result (marked c.leave.new.arena InList) c.as_slice-2.result.now c.elements_to_clone-originals.result c.len-first.result c.in_ok-clone.clone (length c.args.arena.now.labels) (length c.args.arena.now.labels + length c.elements_to_clone-originals.result) _ c.args.entries.now (index-is c.args.nodes.now c.args.at c.index-nodes-at-2.result (at-within c.args.nodes.now c.args.entries.now c.args.arena.now c.args.at c.args.block_at c.forest.ensures.well_formed c.requires.«open» c.requires.block.0 c.requires.block.1) c.index-nodes-at-2.is) c.as_slice-2.ensures c.len-first.ensures (c.in_ok-clone.ensures.number ∙ ap (λ (v : List ℕ). length c.args.arena.now.labels + length v) c.as_slice.ensures))

pub returns-clause-front : goal.returns-clause-front
returns-clause-front c = front-kept c.args.nodes.now c.args.entries.now c.args.arena.now c.args.at c.args.block_at c.forest.ensures.well_formed c.requires.«open» c.requires.block.0 c.requires.block.1 c.elements_to_clone-originals.result c.elements_to_clone-originals.ensures c.clone_all.new.arena (subst (λ (x : ℕ). AreCloned c.args.arena.now c.clone_all.new.arena (c.elements_to_clone-originals.result ++ x ∷ [])) (index-is c.args.nodes.now c.args.at c.index-nodes-at.result (at-within c.args.nodes.now c.args.entries.now c.args.arena.now c.args.at c.args.block_at c.forest.ensures.well_formed c.requires.«open» c.requires.block.0 c.requires.block.1) c.index-nodes-at.is) (subst (λ (v : List ℕ). AreCloned c.args.arena.now c.clone_all.new.arena (v ++ c.index-nodes-at.result ∷ [])) c.as_slice.ensures c.in_ok-clone.ensures.cloned)) c.leave.new.arena c.leave.ensures.same c.leave.ensures.marks c.enter.new.arena c.enter.ensures.same (subst (HaveEntered c.leave.new.arena c.enter.new.arena (length c.args.arena.now.labels)) (c.len-end.ensures ∙ length-is c.args.nodes.now c.args.entries.now c.args.arena.now c.args.at c.args.block_at c.forest.ensures.well_formed c.requires.«open» c.requires.block.0 c.requires.block.1 c.elements_to_clone-originals.result c.elements_to_clone-originals.ensures c.clone_all.new.arena (subst (λ (x : ℕ). AreCloned c.args.arena.now c.clone_all.new.arena (c.elements_to_clone-originals.result ++ x ∷ [])) (index-is c.args.nodes.now c.args.at c.index-nodes-at.result (at-within c.args.nodes.now c.args.entries.now c.args.arena.now c.args.at c.args.block_at c.forest.ensures.well_formed c.requires.«open» c.requires.block.0 c.requires.block.1) c.index-nodes-at.is) (subst (λ (v : List ℕ). AreCloned c.args.arena.now c.clone_all.new.arena (v ++ c.index-nodes-at.result ∷ [])) c.as_slice.ensures c.in_ok-clone.ensures.cloned))) (subst (λ (x : ℕ). HaveEntered c.leave.new.arena c.enter.new.arena x c.len-end.result) c.len-first.ensures c.enter.ensures.marks)) c.args.target c.requires.place_in c.requires.way_in c.requires.apart c.hang.new.arena (subst (λ (x : ℕ). Hung c.enter.new.arena c.hang.new.arena x (length c.args.arena.now.labels) (length c.args.arena.now.labels + length c.elements_to_clone-originals.result) c.args.target) (index-is c.args.nodes.now c.args.block_at c.index-nodes-block_at.result (within c.args.nodes.now c.args.entries.now c.args.arena.now c.args.at c.args.block_at c.forest.ensures.well_formed c.requires.«open» c.requires.block.0 c.requires.block.1) c.index-nodes-block_at.is) (subst (λ (x : ℕ). Hung c.enter.new.arena c.hang.new.arena c.index-nodes-block_at.result (length c.args.arena.now.labels) x c.args.target) (c.in_ok-clone.ensures.number ∙ ap (λ (v : List ℕ). length c.args.arena.now.labels + length v) c.as_slice.ensures) (subst (λ (x : ℕ). Hung c.enter.new.arena c.hang.new.arena c.index-nodes-block_at.result x c.in_ok-clone.clone c.args.target) c.len-first.ensures c.hang.ensures.hung))) c.relisted.new.list.items
    (c.relisted.ensures ∙ new-list c.index-nodes-at-2.result (marked c.leave.new.arena InList) c.as_slice-2.result.now c.elements_to_clone-originals.result c.len-first.result c.in_ok-clone.clone (length c.args.arena.now.labels) (length c.args.arena.now.labels + length c.elements_to_clone-originals.result) _ c.args.entries.now (index-is c.args.nodes.now c.args.at c.index-nodes-at-2.result (at-within c.args.nodes.now c.args.entries.now c.args.arena.now c.args.at c.args.block_at c.forest.ensures.well_formed c.requires.«open» c.requires.block.0 c.requires.block.1) c.index-nodes-at-2.is) c.as_slice-2.ensures c.len-first.ensures (c.in_ok-clone.ensures.number ∙ ap (λ (v : List ℕ). length c.args.arena.now.labels + length v) c.as_slice.ensures))

pub returns-clause-regrouped : goal.returns-clause-regrouped
returns-clause-regrouped c = regrouped c.args.nodes.now c.args.entries.now c.args.arena.now c.args.at c.args.block_at c.forest.ensures.well_formed c.requires.«open» c.requires.block.0 c.requires.block.1 c.elements_to_clone-originals.result c.elements_to_clone-originals.ensures c.clone_all.new.arena (subst (λ (x : ℕ). AreCloned c.args.arena.now c.clone_all.new.arena (c.elements_to_clone-originals.result ++ x ∷ [])) (index-is c.args.nodes.now c.args.at c.index-nodes-at.result (at-within c.args.nodes.now c.args.entries.now c.args.arena.now c.args.at c.args.block_at c.forest.ensures.well_formed c.requires.«open» c.requires.block.0 c.requires.block.1) c.index-nodes-at.is) (subst (λ (v : List ℕ). AreCloned c.args.arena.now c.clone_all.new.arena (v ++ c.index-nodes-at.result ∷ [])) c.as_slice.ensures c.in_ok-clone.ensures.cloned)) c.leave.new.arena c.leave.ensures.same c.leave.ensures.marks c.enter.new.arena c.enter.ensures.same (subst (HaveEntered c.leave.new.arena c.enter.new.arena (length c.args.arena.now.labels)) (c.len-end.ensures ∙ length-is c.args.nodes.now c.args.entries.now c.args.arena.now c.args.at c.args.block_at c.forest.ensures.well_formed c.requires.«open» c.requires.block.0 c.requires.block.1 c.elements_to_clone-originals.result c.elements_to_clone-originals.ensures c.clone_all.new.arena (subst (λ (x : ℕ). AreCloned c.args.arena.now c.clone_all.new.arena (c.elements_to_clone-originals.result ++ x ∷ [])) (index-is c.args.nodes.now c.args.at c.index-nodes-at.result (at-within c.args.nodes.now c.args.entries.now c.args.arena.now c.args.at c.args.block_at c.forest.ensures.well_formed c.requires.«open» c.requires.block.0 c.requires.block.1) c.index-nodes-at.is) (subst (λ (v : List ℕ). AreCloned c.args.arena.now c.clone_all.new.arena (v ++ c.index-nodes-at.result ∷ [])) c.as_slice.ensures c.in_ok-clone.ensures.cloned))) (subst (λ (x : ℕ). HaveEntered c.leave.new.arena c.enter.new.arena x c.len-end.result) c.len-first.ensures c.enter.ensures.marks)) c.args.target c.requires.place_in c.requires.way_in c.requires.apart c.hang.new.arena (subst (λ (x : ℕ). Hung c.enter.new.arena c.hang.new.arena x (length c.args.arena.now.labels) (length c.args.arena.now.labels + length c.elements_to_clone-originals.result) c.args.target) (index-is c.args.nodes.now c.args.block_at c.index-nodes-block_at.result (within c.args.nodes.now c.args.entries.now c.args.arena.now c.args.at c.args.block_at c.forest.ensures.well_formed c.requires.«open» c.requires.block.0 c.requires.block.1) c.index-nodes-block_at.is) (subst (λ (x : ℕ). Hung c.enter.new.arena c.hang.new.arena c.index-nodes-block_at.result (length c.args.arena.now.labels) x c.args.target) (c.in_ok-clone.ensures.number ∙ ap (λ (v : List ℕ). length c.args.arena.now.labels + length v) c.as_slice.ensures) (subst (λ (x : ℕ). Hung c.enter.new.arena c.hang.new.arena c.index-nodes-block_at.result x c.in_ok-clone.clone c.args.target) c.len-first.ensures c.hang.ensures.hung))) c.in_ok-new_nodes.new_nodes.items c.relisted.new.list.items
    (new-stack c.args.nodes.now c.in_ok-new_nodes.new_nodes.items c.args.at c.args.block_at c.len-first.result c.in_ok-clone.clone (length c.args.arena.now.labels) (length c.elements_to_clone-originals.result) c.len-first.ensures (c.in_ok-clone.ensures.number ∙ ap (λ (v : List ℕ). length c.args.arena.now.labels + length v) c.as_slice.ensures) c.in_ok-new_nodes.ensures)
    (c.relisted.ensures ∙ new-list c.index-nodes-at-2.result (marked c.leave.new.arena InList) c.as_slice-2.result.now c.elements_to_clone-originals.result c.len-first.result c.in_ok-clone.clone (length c.args.arena.now.labels) (length c.args.arena.now.labels + length c.elements_to_clone-originals.result) _ c.args.entries.now (index-is c.args.nodes.now c.args.at c.index-nodes-at-2.result (at-within c.args.nodes.now c.args.entries.now c.args.arena.now c.args.at c.args.block_at c.forest.ensures.well_formed c.requires.«open» c.requires.block.0 c.requires.block.1) c.index-nodes-at-2.is) c.as_slice-2.ensures c.len-first.ensures (c.in_ok-clone.ensures.number ∙ ap (λ (v : List ℕ). length c.args.arena.now.labels + length v) c.as_slice.ensures))

pub returns-in_err-clone-clause-cut : goal.returns-in_err-clone-clause-cut
returns-in_err-clone-clause-cut c =
    let p = err_from_is_err_and c.from_residual.result c.from_residual.ensures.1 in
    rw p.1 (subst (λ (e : ArenaError). IsCut c.args.arena.now c.clone_all.new.arena (round_originals (open_at c.args.nodes.now c.args.entries.now c.args.arena.now) c.args.at c.args.block_at) e) (sym p.2)
    (cut-after c.args.nodes.now c.args.entries.now c.args.arena.now c.args.at c.args.block_at c.forest.ensures.well_formed c.requires.«open» c.requires.block.0 c.requires.block.1 c.elements_to_clone-originals.result c.elements_to_clone-originals.ensures c.as_slice.result.now c.index-nodes-at.result c.clone_all.new.arena c.in_err-clone.field-0.0
    c.as_slice.ensures (index-is c.args.nodes.now c.args.at c.index-nodes-at.result (at-within c.args.nodes.now c.args.entries.now c.args.arena.now c.args.at c.args.block_at c.forest.ensures.well_formed c.requires.«open» c.requires.block.0 c.requires.block.1) c.index-nodes-at.is) c.in_err-clone.ensures.cut))

pub returns-in_err-new_nodes-clause-cut : goal.returns-in_err-new_nodes-clause-cut
returns-in_err-new_nodes-clause-cut c =
    let p = err_from_is_err_and c.from_residual-in_err-new_nodes.result c.from_residual-in_err-new_nodes.ensures.1 in
    rw p.1 (cut-after c.args.nodes.now c.args.entries.now c.args.arena.now c.args.at c.args.block_at c.forest.ensures.well_formed c.requires.«open» c.requires.block.0 c.requires.block.1 c.elements_to_clone-originals.result c.elements_to_clone-originals.ensures c.elements_to_clone-originals.result (get_or c.args.nodes.now c.args.at 0) _ _ refl refl
    (cut-all c.args.arena.now c.clone_all.new.arena _ (c.elements_to_clone-originals.result ++ (get_or c.args.nodes.now c.args.at 0) ∷ []) _ p.2 (subst (λ (x : ℕ). AreCloned c.args.arena.now c.clone_all.new.arena (c.elements_to_clone-originals.result ++ x ∷ [])) (index-is c.args.nodes.now c.args.at c.index-nodes-at.result (at-within c.args.nodes.now c.args.entries.now c.args.arena.now c.args.at c.args.block_at c.forest.ensures.well_formed c.requires.«open» c.requires.block.0 c.requires.block.1) c.index-nodes-at.is) (subst (λ (v : List ℕ). AreCloned c.args.arena.now c.clone_all.new.arena (v ++ c.index-nodes-at.result ∷ [])) c.as_slice.ensures c.in_ok-clone.ensures.cloned)) refl))

pub returns-in_err-new_entries-clause-cut : goal.returns-in_err-new_entries-clause-cut
returns-in_err-new_entries-clause-cut c =
    let p = err_from_is_err_and c.from_residual-in_err-new_entries.result c.from_residual-in_err-new_entries.ensures.1 in
    rw p.1 (cut-after c.args.nodes.now c.args.entries.now c.args.arena.now c.args.at c.args.block_at c.forest.ensures.well_formed c.requires.«open» c.requires.block.0 c.requires.block.1 c.elements_to_clone-originals.result c.elements_to_clone-originals.ensures c.elements_to_clone-originals.result (get_or c.args.nodes.now c.args.at 0) _ _ refl refl
    (cut-all c.args.arena.now c.clone_all.new.arena _ (c.elements_to_clone-originals.result ++ (get_or c.args.nodes.now c.args.at 0) ∷ []) _ p.2 (subst (λ (x : ℕ). AreCloned c.args.arena.now c.clone_all.new.arena (c.elements_to_clone-originals.result ++ x ∷ [])) (index-is c.args.nodes.now c.args.at c.index-nodes-at.result (at-within c.args.nodes.now c.args.entries.now c.args.arena.now c.args.at c.args.block_at c.forest.ensures.well_formed c.requires.«open» c.requires.block.0 c.requires.block.1) c.index-nodes-at.is) (subst (λ (v : List ℕ). AreCloned c.args.arena.now c.clone_all.new.arena (v ++ c.index-nodes-at.result ∷ [])) c.as_slice.ensures c.in_ok-clone.ensures.cloned)) refl))

pub returns-clause-steps : goal.returns-clause-steps
returns-clause-steps c =
    let few = (let a = ap length c.elements_to_clone-originals.ensures in let b = originals-few (marked c.args.arena.now InList) (take (c.args.block_at - (c.args.at + 1)) (drop (c.args.at + 1) c.args.nodes.now)) in let z : length c.elements_to_clone-originals.result ≤ 3 = omega (arith, a, b) in z) in
    regroup-counted c.args.arena.now c.clone_all.new.arena c.leave.new.arena c.enter.new.arena c.hang.new.arena c.len-first.result c.in_ok-clone.clone (length c.elements_to_clone-originals.result) (length-is c.args.nodes.now c.args.entries.now c.args.arena.now c.args.at c.args.block_at c.forest.ensures.well_formed c.requires.«open» c.requires.block.0 c.requires.block.1 c.elements_to_clone-originals.result c.elements_to_clone-originals.ensures c.clone_all.new.arena (subst (λ (x : ℕ). AreCloned c.args.arena.now c.clone_all.new.arena (c.elements_to_clone-originals.result ++ x ∷ [])) (index-is c.args.nodes.now c.args.at c.index-nodes-at.result (at-within c.args.nodes.now c.args.entries.now c.args.arena.now c.args.at c.args.block_at c.forest.ensures.well_formed c.requires.«open» c.requires.block.0 c.requires.block.1) c.index-nodes-at.is) (subst (λ (v : List ℕ). AreCloned c.args.arena.now c.clone_all.new.arena (v ++ c.index-nodes-at.result ∷ [])) c.as_slice.ensures c.in_ok-clone.ensures.cloned))) few c.len-first.ensures
    (c.in_ok-clone.ensures.number ∙ ap (λ (v : List ℕ). length c.args.arena.now.labels + length v) c.as_slice.ensures) c.clone_all.ensures.steps c.leave.ensures.same c.enter.ensures.same c.hang.ensures.steps c.hang.ensures.hung.nodes.labels_are

pub returns-in_err-clone-clause-steps : goal.returns-in_err-clone-clause-steps
returns-in_err-clone-clause-steps c = grown-regrouped c.args.arena.now c.clone_all.new.arena c.clone_all.ensures.steps

pub returns-in_err-new_nodes-clause-steps : goal.returns-in_err-new_nodes-clause-steps
returns-in_err-new_nodes-clause-steps c = grown-regrouped c.args.arena.now c.clone_all.new.arena c.clone_all.ensures.steps

pub returns-in_err-new_entries-clause-steps : goal.returns-in_err-new_entries-clause-steps
returns-in_err-new_entries-clause-steps c = grown-regrouped c.args.arena.now c.clone_all.new.arena c.clone_all.ensures.steps

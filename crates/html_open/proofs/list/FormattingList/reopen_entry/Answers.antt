use Rattle.std.proofs.Common.{◌≡◌, ◌≢◌, ℕ, ◌<◌, ◌++◌, ◌∷◌, [], List, length, take, drop, suc, true, false, None, set, refl, sym, ap, subst, ◌∙◌, arith}
use Rattle.html_arena.specs.declared.marks.Mark.TheVariants.{OnStack, InList}
use Rattle.html_arena.specs.Tree.{Tree, children_of, with_marked}
use Rattle.html_open.specs.declared.entry.Entry.{Entry}
use Rattle.html_open.specs.declared.entry.Entry.TheVariants.{Marker, Node}
use Rattle.html_open.specs.Marking.{charged}
use Rattle.html_open.specs.Opened.{IsOpen, open_at}
use Rattle.html_open.specs.Placing.{CanPlace, place_of, place_steps}
use Rattle.html_open.proofs.Anew.{can-place, can-place-inserted, can-same, inserted-keeps, marks-swapped, reopened-keeps, set-at, split-at}
use Rattle.html_open.proofs.Bounding.{on-err, placed-steps, tried-steps}
use Rattle.html_open.proofs.Inserted.{longer, parents-inserted}
use Rattle.html_open.proofs.Keeps.{moved_stack, open-charged}
use Rattle.html_open.proofs.Lists.{node-at}
use Rattle.html_open.proofs.Standing.{element-in, not-parent, place-by}
use Rattle.html_open.proofs.Templates.{place-free, templates-inserted, templates-same}
use Rattle.html_open.proofs.list.FormattingList.reopen_entry.Goals as goal

pub insert_clone-requires-clause-node_in : goal.insert_clone-requires-clause-node_in
insert_clone-requires-clause-node_in c = c.requires.is_open.list_in c.args.node (node-at c.args.self.now c.args.index c.args.node Marker c.requires.entry c.requires.index_in)

pub insert_clone-requires-clause-formatting : goal.insert_clone-requires-clause-formatting
insert_clone-requires-clause-formatting c = c.requires.is_open.formatting c.args.node (node-at c.args.self.now c.args.index c.args.node Marker c.requires.entry c.requires.index_in)

pub set_mark-requires : goal.set_mark-requires
set_mark-requires c =
    let k = c.requires.is_open.list_in c.args.node (node-at c.args.self.now c.args.index c.args.node Marker c.requires.entry c.requires.index_in) in
    let m = longer c.args.arena.now c.insert_clone.new.arena (place_of c.args.arena.now c.args.stack.now None c.args.foster) c.args.node c.in_ok-clone.ensures.laws in
    let e = ap (λ (t : Tree). length t.labels) c.in_ok-push.ensures.tree in
    omega (arith, k, m, e)

-- the tree after the clone was put there
tree_is : (t t1 t2 t3 t4 t5 : Tree) (x c d : ℕ) → x ≢ c → c ≡ d → t2 ≡ charged (with_marked t1 OnStack c true) 1 → t3 ≡ with_marked t2 InList x false → t4 ≡ with_marked t3 InList c true → t5 ≡ charged t4 1
    → t5 ≡ charged (with_marked (charged (with_marked (with_marked t1 InList x false) OnStack d true) 1) InList d true) 1
tree_is t t1 t2 t3 t4 t5 x c d ne a e f g h =
    h ∙ ap (λ (v : Tree). charged v 1) (g ∙ ap (λ (v : Tree). with_marked v InList c true) (f ∙ ap (λ (v : Tree). with_marked v InList x false) e ∙ marks-swapped t1 x c ne))
    ∙ ap (λ v. charged (with_marked (charged (with_marked (with_marked t1 InList x false) OnStack v true) 1) InList v true) 1) a

-- the element is not its clone
apart : (x c n : ℕ) → x < n → c ≡ n → x ≢ c
apart x c n l e = λ q. absurd (omega (arith, l, e, q))

pub returns-clause-keeps : goal.returns-clause-keeps
returns-clause-keeps c =
    let t = c.args.arena.now in
    let n = length t.labels in
    let items = c.self.inside.entries.items in
    let l1 = take c.args.index c.args.self.now in
    let l2 = drop (suc c.args.index) c.args.self.now in
    let k = reopened-keeps t c.insert_clone.new.arena (place_of t c.args.stack.now None c.args.foster) c.args.node c.in_ok-clone.ensures.laws
    c.args.stack.now l1 l2 c.args.self.now c.forest-2.ensures.well_formed.as_many_marks c.requires.absent
    (split-at c.args.self.now c.args.index c.args.node Marker c.requires.index_in c.requires.entry) c.requires.is_open in
    let e = tree_is t c.insert_clone.new.arena c.push.new.arena c.set_mark.new.self c.set_mark-2.new.self c.charge.new.self c.args.node c.in_ok-clone.clone n
    (apart c.args.node c.in_ok-clone.clone n (c.requires.is_open.list_in c.args.node (node-at c.args.self.now c.args.index c.args.node Marker c.requires.entry c.requires.index_in)) c.in_ok-clone.ensures.id) c.in_ok-clone.ensures.id c.in_ok-push.ensures.tree c.set_mark.ensures c.set_mark-2.ensures c.charge.ensures in
    let s : c.push.new.self ≡ c.args.stack.now ++ n ∷ [] = c.in_ok-push.ensures.stack ∙ ap (λ v. c.args.stack.now ++ v ∷ []) c.in_ok-clone.ensures.id in
    let l : set items c.args.index (Node c.in_ok-clone.clone) ≡ l1 ++ Node n ∷ l2 =
    ap (λ (v : List Entry). set v c.args.index (Node c.in_ok-clone.clone)) c.self.view_is ∙ ap (λ v. set c.args.self.now c.args.index (Node v)) c.in_ok-clone.ensures.id
    ∙ set-at c.args.self.now c.args.index (Node n) c.requires.index_in in
    subst (λ (v : List _). IsOpen (open_at v (set items c.args.index (Node c.in_ok-clone.clone)) c.charge.new.self)) (sym s)
    (subst (λ (v : List Entry). IsOpen (open_at (c.args.stack.now ++ n ∷ []) v c.charge.new.self)) (sym l)
    (subst (λ (v : Tree). IsOpen (open_at (c.args.stack.now ++ n ∷ []) (l1 ++ Node n ∷ l2) v)) (sym e) k))

pub returns-clause-can_place : goal.returns-clause-can_place
returns-clause-can_place c =
    let t = c.args.arena.now in
    let n = length t.labels in
    let e = tree_is t c.insert_clone.new.arena c.push.new.arena c.set_mark.new.self c.set_mark-2.new.self c.charge.new.self c.args.node c.in_ok-clone.clone n
    (apart c.args.node c.in_ok-clone.clone n (c.requires.is_open.list_in c.args.node (node-at c.args.self.now c.args.index c.args.node Marker c.requires.entry c.requires.index_in)) c.in_ok-clone.ensures.id) c.in_ok-clone.ensures.id c.in_ok-push.ensures.tree c.set_mark.ensures c.set_mark-2.ensures c.charge.ensures in
    let k = can-place t c.insert_clone.new.arena (place_of t c.args.stack.now None c.args.foster) c.args.node c.in_ok-clone.ensures.laws c.args.stack.now (c.in_ok-clone.clone ∷ []) c.requires.is_open.stack_in c.requires.can_place in
    subst (CanPlace c.charge.new.self) (sym c.in_ok-push.ensures.stack)
    (can-same c.insert_clone.new.arena c.charge.new.self (c.args.stack.now ++ c.in_ok-clone.clone ∷ []) (ap (λ (v : Tree). v.labels) e) (ap (λ (v : Tree). v.parents) e) k)

pub returns-clause-closed : goal.returns-clause-closed
returns-clause-closed c = λ y el off none.
    let t = c.args.arena.now in
    let e = tree_is t c.insert_clone.new.arena c.push.new.arena c.set_mark.new.self c.set_mark-2.new.self c.charge.new.self c.args.node c.in_ok-clone.clone (length t.labels)
    (apart c.args.node c.in_ok-clone.clone (length t.labels) (c.requires.is_open.list_in c.args.node (node-at c.args.self.now c.args.index c.args.node Marker c.requires.entry c.requires.index_in)) c.in_ok-clone.ensures.id) c.in_ok-clone.ensures.id c.in_ok-push.ensures.tree c.set_mark.ensures c.set_mark-2.ensures c.charge.ensures in
    let p = place_of t c.args.stack.now None c.args.foster in
    ap (λ (v : Tree). children_of v y) e
    ∙ c.in_ok-clone.ensures.laws.same_children y (element-in t y el)
    (not-parent t c.args.stack.now c.forest.ensures.well_formed p y (place-by t c.args.stack.now c.forest.ensures.well_formed c.args.foster c.requires.can_place)
    c.requires.is_open.elements el off none)

pub returns-clause-parents : goal.returns-clause-parents
returns-clause-parents c =
    let t = c.args.arena.now in
    let e = tree_is t c.insert_clone.new.arena c.push.new.arena c.set_mark.new.self c.set_mark-2.new.self c.charge.new.self c.args.node c.in_ok-clone.clone (length t.labels)
    (apart c.args.node c.in_ok-clone.clone (length t.labels) (c.requires.is_open.list_in c.args.node (node-at c.args.self.now c.args.index c.args.node Marker c.requires.entry c.requires.index_in)) c.in_ok-clone.ensures.id) c.in_ok-clone.ensures.id c.in_ok-push.ensures.tree c.set_mark.ensures c.set_mark-2.ensures c.charge.ensures in
    let p = place_of t c.args.stack.now None c.args.foster in
    parents-inserted t c.insert_clone.new.arena c.charge.new.self p c.args.node c.in_ok-clone.ensures.laws (ap (λ (v : Tree). v.labels) e) (ap (λ (v : Tree). v.parents) e)
    (λ none. templates-same c.insert_clone.new.arena c.charge.new.self (ap (λ (v : Tree). v.labels) e) (ap (λ (v : Tree). v.parents) e)
    (templates-inserted t c.insert_clone.new.arena p c.args.node c.in_ok-clone.ensures.laws c.forest-2.ensures.well_formed (c.requires.is_open.formatting c.args.node (node-at c.args.self.now c.args.index c.args.node Marker c.requires.entry c.requires.index_in))
    (place-free t c.forest.ensures.well_formed none c.args.stack.now c.requires.can_place c.args.foster) none))

pub returns-clause-tree : goal.returns-clause-tree
returns-clause-tree c =
    let t = c.args.arena.now in
    tree_is t c.insert_clone.new.arena c.push.new.arena c.set_mark.new.self c.set_mark-2.new.self c.charge.new.self c.args.node c.in_ok-clone.clone (length t.labels)
    (apart c.args.node c.in_ok-clone.clone (length t.labels) (c.requires.is_open.list_in c.args.node (node-at c.args.self.now c.args.index c.args.node Marker c.requires.entry c.requires.index_in)) c.in_ok-clone.ensures.id) c.in_ok-clone.ensures.id c.in_ok-push.ensures.tree c.set_mark.ensures c.set_mark-2.ensures c.charge.ensures
    ∙ ap (λ (v : Tree). charged (with_marked (charged (with_marked (with_marked v InList c.args.node false) OnStack (length t.labels) true) 1) InList (length t.labels) true) 1) c.in_ok-clone.ensures.tree

pub returns-in_err-clone-clause-keeps : goal.returns-in_err-clone-clause-keeps
returns-in_err-clone-clause-keeps c =
    let t = c.args.arena.now in
    let n = place_steps t c.args.stack.now None c.args.foster in
    moved_stack c.args.stack.now c.args.stack.now c.args.self.now (charged t n) c.insert_clone.new.arena refl c.in_err-clone.ensures.same
    (open-charged c.args.stack.now c.args.self.now t n c.requires.is_open)

-- the clone stands at its place alone
pub returns-in_err-push-clause-keeps : goal.returns-in_err-push-clause-keeps
returns-in_err-push-clause-keeps c =
    let t = c.args.arena.now in
    let p = place_of t c.args.stack.now None c.args.foster in
    moved_stack c.args.stack.now c.push.new.self c.args.self.now c.insert_clone.new.arena c.push.new.arena c.in_err-push.ensures.same_stack c.in_err-push.ensures.same_tree
    (inserted-keeps t c.insert_clone.new.arena p c.args.node c.in_ok-clone.ensures.laws c.args.stack.now c.args.self.now c.requires.is_open)

pub returns-in_err-push-clause-can_place : goal.returns-in_err-push-clause-can_place
returns-in_err-push-clause-can_place c =
    let t = c.args.arena.now in
    let e = c.in_err-push.ensures.same_tree in
    subst (CanPlace c.push.new.arena) (sym c.in_err-push.ensures.same_stack)
    (can-same c.insert_clone.new.arena c.push.new.arena c.args.stack.now (ap (λ (v : Tree). v.labels) e) (ap (λ (v : Tree). v.parents) e)
    (can-place-inserted t c.insert_clone.new.arena (place_of t c.args.stack.now None c.args.foster) c.args.node c.in_ok-clone.ensures.laws c.args.stack.now c.requires.is_open.stack_in c.requires.can_place))

pub returns-in_err-push-clause-closed : goal.returns-in_err-push-clause-closed
returns-in_err-push-clause-closed c = λ y el off none.
    let t = c.args.arena.now in
    let p = place_of t c.args.stack.now None c.args.foster in
    ap (λ (v : Tree). children_of v y) c.in_err-push.ensures.same_tree
    ∙ c.in_ok-clone.ensures.laws.same_children y (element-in t y el)
    (not-parent t c.args.stack.now c.forest.ensures.well_formed p y (place-by t c.args.stack.now c.forest.ensures.well_formed c.args.foster c.requires.can_place)
    c.requires.is_open.elements el off none)

pub returns-in_err-push-clause-parents : goal.returns-in_err-push-clause-parents
returns-in_err-push-clause-parents c =
    let t = c.args.arena.now in
    let e = c.in_err-push.ensures.same_tree in
    parents-inserted t c.insert_clone.new.arena c.push.new.arena (place_of t c.args.stack.now None c.args.foster) c.args.node c.in_ok-clone.ensures.laws (ap (λ (v : Tree). v.labels) e) (ap (λ (v : Tree). v.parents) e)
    (λ none. templates-same c.insert_clone.new.arena c.push.new.arena (ap (λ (v : Tree). v.labels) e) (ap (λ (v : Tree). v.parents) e)
    (templates-inserted t c.insert_clone.new.arena (place_of t c.args.stack.now None c.args.foster) c.args.node c.in_ok-clone.ensures.laws c.forest-2.ensures.well_formed (c.requires.is_open.formatting c.args.node (node-at c.args.self.now c.args.index c.args.node Marker c.requires.entry c.requires.index_in))
    (place-free t c.forest.ensures.well_formed none c.args.stack.now c.requires.can_place c.args.foster) none))

pub returns-in_err-clone-clause-steps : goal.returns-in_err-clone-clause-steps
returns-in_err-clone-clause-steps c = on-err _ (placed-steps c.args.arena.now c.insert_clone.new.arena c.args.stack.now c.args.foster c.in_err-clone.ensures.same)

pub returns-in_err-push-clause-steps : goal.returns-in_err-push-clause-steps
returns-in_err-push-clause-steps c = on-err _ (tried-steps c.args.arena.now c.insert_clone.new.arena c.push.new.arena c.args.stack.now c.args.foster c.args.node c.in_ok-clone.ensures.tree c.in_err-push.ensures.same_tree)

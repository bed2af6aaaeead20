use Rattle.std.proofs.Common.{◌≡◌, ◌+◌, ◌≤◌, ◌++◌, ◌∷◌, [], length, Ok, ap, subst, refl, sym, ◌∙◌, arith}
use Rattle.html_names.specs.Names.{tag_of}
use Rattle.html_arena.specs.declared.data.NewNode.TheVariants.{Element}
use Rattle.html_arena.specs.Data.{tag_in}
use Rattle.html_arena.specs.Budget.{budget}
use Rattle.html_arena.specs.Make.{label_for, made_weight, nodes_made}
use Rattle.html_arena.specs.Siblings.{first_of}
use Rattle.html_arena.specs.Tree.{Tree, tag_at}
use Rattle.html_open.specs.Opened.{CanList, CanPush, IsOpen, open_at}
use Rattle.html_open.specs.Marking.{bare}
use Rattle.html_tree.specs.Inserting.{CanBeFirst, IsBlank, IsFor}
use Rattle.html_arena.specs.Weight.{weight}
use Rattle.html_tree.specs.Proper.{opens}
use Rattle.html_tree.specs.Since.{Grown}
use Rattle.html_tree.specs.States.{State, state_of}
use Rattle.html_tree.specs.Targets.{CanTarget, place_at}
use Rattle.html_tree.proofs.Blanks.{blank-opened}
use Rattle.html_tree.proofs.Inserted.{element-element, element-tag, made-under_way, new-unseen, opened-counted, opened-exact, opened-grown, opened-keeps, opened-steps, opened-under_way, own-least}
use Rattle.html_tree.proofs.Listed.{bare-listed}
use Rattle.html_names.specs.Sets.{is_formatting}
use Rattle.html_tree.proofs.Kept.{same-under_way}
use Rattle.html_tree.proofs.OpenTags.{opened-tags, always-err, made-tags}
use Rattle.html_tree.specs.OpenTags.{open_tags}
use Rattle.html_tree.proofs.SearchEnds.{ends-labels, ends-made}
use Rattle.html_tree.specs.Paragraphs.{p_ends_of}
use Rattle.html_tree.proofs.Standing.{seats-as, seats-new, seats-opened}
use Rattle.html_tree.specs.Seats.{CanSeat, HasSeats}
use Rattle.html_tree.proofs.tree.OpenTree.open_new.Goals as goal

pub put_new-requires-clause-head_in : goal.put_new-requires-clause-head_in
put_new-requires-clause-head_in c = λ x e. (c.self.invariant.0.head x e).0

pub invariant_of-self : goal.invariant_of-self
invariant_of-self c = (
  same-under_way c.self.inside.stack c.self.inside.stack c.self.inside.list c.self.inside.list c.self.inside.arena c.put_new.new.arena c.self.inside.tokens c.self.inside.head c.self.inside.form c.self.inside.detached
      (ap (λ (v : Tree). v.labels) c.in_err-node.ensures.same) refl (c.put_new.ensures.keeps c.self.inside.list c.self.invariant.0.is_open) c.self.invariant.0,
  ends-labels c.self.inside.stack c.self.inside.p_ends.items c.self.inside.arena c.put_new.new.arena c.self.invariant.1 (ap (λ (v : Tree). v.labels) c.in_err-node.ensures.same),
  seats-as c.self.inside.arena c.put_new.new.arena c.self.inside.stack (ap (λ (v : Tree). v.labels) c.in_err-node.ensures.same) (ap (λ (v : Tree). v.parents) c.in_err-node.ensures.same) c.self.invariant.2,
)

pub invariant_of-self-in_err-open_node : goal.invariant_of-self-in_err-open_node
invariant_of-self-in_err-open_node c = (
  made-under_way c.self.inside.list c.self.inside.list c.self.inside.arena c.put_new.new.arena c.open_node.new.arena (place_at c.self.inside.arena c.self.inside.stack c.self.inside.head c.args.target) (length c.self.inside.stack + 3) c.self.inside.tokens c.args.next c.self.inside.head c.self.inside.form c.self.inside.detached c.args.name c.args.attrs c.args.origin c.in_ok-node.ensures.new
      (subst (λ (a : State). IsFor c.args.origin a.tokens c.args.next) (sym c.self.view_is) c.requires.own) (subst (λ (a : State). a.tokens ≤ c.args.next) (sym c.self.view_is) c.requires.next) (ap (λ (v : Tree). v.labels) c.in_err-open_node.ensures.same_tree)
      c.self.inside.stack c.open_node.new.stack (ap first_of c.in_err-open_node.ensures.same_stack)
      (subst (λ s. IsOpen (open_at s c.self.inside.list c.open_node.new.arena)) (sym c.in_err-open_node.ensures.same_stack) (subst (λ t. IsOpen (open_at c.self.inside.stack c.self.inside.list t)) (sym c.in_err-open_node.ensures.same_tree) (c.put_new.ensures.keeps c.self.inside.list c.self.invariant.0.is_open)))
      c.self.invariant.0,
  c.in_err-open_node.ensures.same_ends ∙ ends-made c.self.inside.stack c.self.inside.p_ends.items c.self.inside.arena c.put_new.new.arena _ _ _ c.self.invariant.1 c.self.invariant.0.is_open.stack_in c.in_ok-node.ensures.new ∙ ap (λ (v : Tree). p_ends_of v c.self.inside.stack) (sym c.in_err-open_node.ensures.same_tree) ∙ ap (p_ends_of c.open_node.new.arena) (sym c.in_err-open_node.ensures.same_stack),
  subst (HasSeats c.open_node.new.arena) (sym c.in_err-open_node.ensures.same_stack)
      (seats-as c.put_new.new.arena c.open_node.new.arena c.self.inside.stack (ap (λ (v : Tree). v.labels) c.in_err-open_node.ensures.same_tree) (ap (λ (v : Tree). v.parents) c.in_err-open_node.ensures.same_tree)
      (seats-new c.self.inside.stack c.self.inside.list c.self.inside.arena c.put_new.new.arena c.args.target (Element c.args.name c.args.attrs c.args.origin) (length c.self.inside.stack + 3) c.self.inside.tokens c.self.inside.head c.self.inside.form c.self.inside.detached c.in_ok-node.ensures.new c.put_new.ensures.well_formed.1 c.self.invariant.0
      (subst (λ (a : State). CanTarget a.stack c.args.target) (sym c.self.view_is) c.requires.target)
      (subst (λ g. CanSeat (state_of c.self.inside.stack c.self.inside.list c.self.inside.arena c.self.inside.tokens c.self.inside.head c.self.inside.form c.self.inside.detached) g c.args.target) (sym (element-tag c.self.inside.arena c.args.name c.args.attrs c.args.origin)) (subst (λ (a : State). CanSeat a (tag_of c.args.name) c.args.target) (sym c.self.view_is) c.requires.seat)) c.self.invariant.2)),
)

pub invariant_of-self-2 : goal.invariant_of-self-2
invariant_of-self-2 c = (
  let own : IsFor c.args.origin c.self.inside.tokens c.args.next = subst (λ (a : State). IsFor c.args.origin a.tokens c.args.next) (sym c.self.view_is) c.requires.own in
      let p : CanPush (open_at c.self.inside.stack c.self.inside.list c.put_new.new.arena) c.in_ok-node.node =
      subst (λ x. CanPush (open_at c.self.inside.stack c.self.inside.list c.put_new.new.arena) x) (sym c.in_ok-node.ensures.id)
      (c.in_ok-node.ensures.can_push c.self.inside.list c.self.invariant.0.is_open (element-element c.self.inside.arena c.args.name c.args.attrs c.args.origin)
      (new-unseen c.self.inside.stack c.self.inside.list c.self.inside.arena c.put_new.new.arena (place_at c.self.inside.arena c.self.inside.stack c.self.inside.head c.args.target) (Element c.args.name c.args.attrs c.args.origin) (length c.self.inside.stack + 3) c.self.inside.tokens c.args.next c.self.inside.head c.self.inside.form c.self.inside.detached (own-least c.self.inside.arena c.args.name c.args.attrs c.args.origin c.self.inside.tokens c.args.next own) c.self.invariant.0)) in
      opened-under_way c.self.inside.list c.self.inside.list c.self.inside.arena c.put_new.new.arena c.open_node.new.arena (place_at c.self.inside.arena c.self.inside.stack c.self.inside.head c.args.target) (length c.self.inside.stack + 3) c.self.inside.tokens c.args.next c.self.inside.head c.self.inside.form c.self.inside.detached c.args.name c.args.attrs c.args.origin c.in_ok-node.ensures.new
      own (subst (λ (a : State). a.tokens ≤ c.args.next) (sym c.self.view_is) c.requires.next) (ap (λ (v : Tree). v.labels) c.in_ok-open_node.ensures.tree)
      c.self.inside.stack c.open_node.new.stack (c.in_ok-open_node.ensures.stack ∙ ap (λ x. c.self.inside.stack ++ x ∷ []) c.in_ok-node.ensures.id)
      (subst (λ (a : State). CanBeFirst a.stack (tag_of c.args.name)) (sym c.self.view_is) c.requires.first)
      (c.in_ok-open_node.ensures.keeps c.self.inside.list (c.put_new.ensures.keeps c.self.inside.list c.self.invariant.0.is_open) p) c.self.invariant.0,
  c.in_ok-open_node.ensures.ends (ends-made c.self.inside.stack c.self.inside.p_ends.items c.self.inside.arena c.put_new.new.arena _ _ _ c.self.invariant.1 c.self.invariant.0.is_open.stack_in c.in_ok-node.ensures.new),
  seats-opened c.self.inside.stack c.self.inside.list c.self.inside.arena c.put_new.new.arena c.args.target (Element c.args.name c.args.attrs c.args.origin) (length c.self.inside.stack + 3) c.self.inside.tokens c.self.inside.head c.self.inside.form c.self.inside.detached c.in_ok-node.ensures.new c.put_new.ensures.well_formed.1 c.self.invariant.0
      (subst (λ (a : State). CanTarget a.stack c.args.target) (sym c.self.view_is) c.requires.target)
      (subst (λ g. CanSeat (state_of c.self.inside.stack c.self.inside.list c.self.inside.arena c.self.inside.tokens c.self.inside.head c.self.inside.form c.self.inside.detached) g c.args.target) (sym (element-tag c.self.inside.arena c.args.name c.args.attrs c.args.origin)) (subst (λ (a : State). CanSeat a (tag_of c.args.name) c.args.target) (sym c.self.view_is) c.requires.seat))
      c.open_node.new.stack c.open_node.new.arena (c.in_ok-open_node.ensures.stack ∙ ap (λ x. c.self.inside.stack ++ x ∷ []) c.in_ok-node.ensures.id) (ap (λ (v : Tree). v.labels) c.in_ok-open_node.ensures.tree) (ap (λ (v : Tree). v.parents) c.in_ok-open_node.ensures.tree) c.self.invariant.2,
)

pub returns-clause-exact : goal.returns-clause-exact
returns-clause-exact c =
    opened-exact c.args.self.now c.self.inside.stack c.open_node.new.stack c.self.inside.list c.self.inside.arena c.put_new.new.arena c.open_node.new.arena c.args.target (Element c.args.name c.args.attrs c.args.origin) (length c.self.inside.stack + 3) c.self.inside.tokens c.args.next c.in_ok-node.node c.self.inside.head c.self.inside.form c.self.inside.detached c.self.view_is c.in_ok-node.ensures.new c.in_ok-open_node.ensures.stack c.in_ok-node.ensures.id c.in_ok-open_node.ensures.tree

pub returns-clause-tag : goal.returns-clause-tag
returns-clause-tag c =
    let longer = c.in_ok-node.ensures.new.laws.longer in
    let id = c.in_ok-node.ensures.id in
    let e : length c.open_node.new.arena.labels ≡ length c.put_new.new.arena.labels = ap (λ (v : Tree). length v.labels) c.in_ok-open_node.ensures.tree in (
      omega (arith, longer, id, e),
      ap (λ (v : Tree). tag_at v c.in_ok-node.node) c.in_ok-open_node.ensures.tree ∙ ap (λ x. tag_at c.put_new.new.arena x) id
          ∙ ap tag_in c.in_ok-node.ensures.new.laws.label_is ∙ element-tag c.self.inside.arena c.args.name c.args.attrs c.args.origin,
    )

pub returns-clause-blank : goal.returns-clause-blank
returns-clause-blank c =
    subst (λ (a : State). IsBlank (label_for a.tree (Element c.args.name c.args.attrs c.args.origin)) (length a.tree.labels) (bare c.open_node.new.arena)) c.self.view_is
    (blank-opened c.self.inside.arena c.put_new.new.arena c.open_node.new.arena (place_at c.self.inside.arena c.self.inside.stack c.self.inside.head c.args.target) (Element c.args.name c.args.attrs c.args.origin) (length c.self.inside.stack + 3) c.in_ok-node.node c.in_ok-node.ensures.new c.in_ok-open_node.ensures.tree)

pub returns-clause-steps : goal.returns-clause-steps
returns-clause-steps c = opened-steps c.args.self.now c.self.inside.stack c.open_node.new.stack c.self.inside.list c.self.inside.arena c.put_new.new.arena c.open_node.new.arena c.args.target (Element c.args.name c.args.attrs c.args.origin) (length c.self.inside.stack + 3) c.self.inside.tokens c.args.next c.in_ok-node.node c.self.inside.head c.self.inside.form c.self.inside.detached c.self.view_is c.in_ok-node.ensures.new c.in_ok-open_node.ensures.stack c.in_ok-node.ensures.id c.in_ok-open_node.ensures.tree (omega arith)

pub returns-clause-counted : goal.returns-clause-counted
returns-clause-counted c = opened-counted c.args.self.now c.self.inside.stack c.open_node.new.stack c.self.inside.list c.self.inside.arena c.put_new.new.arena c.open_node.new.arena c.args.target (Element c.args.name c.args.attrs c.args.origin) (length c.self.inside.stack + 3) c.self.inside.tokens c.args.next c.in_ok-node.node c.self.inside.head c.self.inside.form c.self.inside.detached c.self.view_is c.in_ok-node.ensures.new c.in_ok-open_node.ensures.stack c.in_ok-node.ensures.id c.in_ok-open_node.ensures.tree c.in_ok-node.ensures.steps

pub returns-clause-keeps : goal.returns-clause-keeps
returns-clause-keeps c = opened-keeps c.args.self.now c.self.inside.stack c.open_node.new.stack c.self.inside.list c.self.inside.arena c.put_new.new.arena c.open_node.new.arena c.args.target (Element c.args.name c.args.attrs c.args.origin) (length c.self.inside.stack + 3) c.self.inside.tokens c.args.next c.in_ok-node.node c.self.inside.head c.self.inside.form c.self.inside.detached c.self.view_is c.in_ok-node.ensures.new c.in_ok-open_node.ensures.stack c.in_ok-node.ensures.id c.in_ok-open_node.ensures.tree
    (ap opens (element-tag c.self.inside.arena c.args.name c.args.attrs c.args.origin) ∙ c.requires.name) (subst (λ (a : State). CanTarget a.stack c.args.target) (sym c.self.view_is) c.requires.target) (subst (λ (a : State). a.tokens ≤ c.args.next) (sym c.self.view_is) c.requires.next) c.self.invariant.0

pub returns-clause-grown : goal.returns-clause-grown
returns-clause-grown c =
    subst (λ (a : State). Grown 2 1 0 (weight (label_for a.tree (Element c.args.name c.args.attrs c.args.origin))) c.args.self.now (state_of c.open_node.new.stack c.self.inside.list c.open_node.new.arena c.args.next c.self.inside.head c.self.inside.form c.self.inside.detached)) c.self.view_is (opened-grown c.args.self.now c.self.inside.stack c.open_node.new.stack c.self.inside.list c.self.inside.arena c.put_new.new.arena c.open_node.new.arena c.args.target (Element c.args.name c.args.attrs c.args.origin) (length c.self.inside.stack + 3) c.self.inside.tokens c.args.next c.in_ok-node.node c.self.inside.head c.self.inside.form c.self.inside.detached c.self.view_is c.in_ok-node.ensures.new c.in_ok-open_node.ensures.stack c.in_ok-node.ensures.id c.in_ok-open_node.ensures.tree)

pub returns-clause-can_list : goal.returns-clause-can_list
returns-clause-can_list c = λ formatting.
    (let own : IsFor c.args.origin c.self.inside.tokens c.args.next = subst (λ (a : State). IsFor c.args.origin a.tokens c.args.next) (sym c.self.view_is) c.requires.own in
    let can : CanList (open_at (c.self.inside.stack ++ length c.self.inside.arena.labels ∷ []) c.self.inside.list c.open_node.new.arena) (length c.self.inside.arena.labels) =
    c.in_ok-node.ensures.can_list c.self.inside.list c.open_node.new.arena (ap (λ (v : Tree). v.labels) c.in_ok-open_node.ensures.tree) c.self.invariant.0.is_open (ap is_formatting (element-tag c.self.inside.arena c.args.name c.args.attrs c.args.origin) ∙ formatting)
    (new-unseen c.self.inside.stack c.self.inside.list c.self.inside.arena c.put_new.new.arena (place_at c.self.inside.arena c.self.inside.stack c.self.inside.head c.args.target) (Element c.args.name c.args.attrs c.args.origin) (length c.self.inside.stack + 3) c.self.inside.tokens c.args.next c.self.inside.head c.self.inside.form c.self.inside.detached (own-least c.self.inside.arena c.args.name c.args.attrs c.args.origin c.self.inside.tokens c.args.next own) c.self.invariant.0) in
    bare-listed c.open_node.new.stack c.self.inside.list c.open_node.new.arena (length c.args.self.now.tree.labels)
    (subst (λ (a : State). CanList (open_at c.open_node.new.stack c.self.inside.list c.open_node.new.arena) (length a.tree.labels)) c.self.view_is
    (subst (λ s. CanList (open_at s c.self.inside.list c.open_node.new.arena) (length c.self.inside.arena.labels)) (sym (c.in_ok-open_node.ensures.stack ∙ ap (λ x. c.self.inside.stack ++ x ∷ []) c.in_ok-node.ensures.id)) can)))

pub returns-clause-within : goal.returns-clause-within
returns-clause-within c =
    subst (λ (a : State). budget a.tree (nodes_made (Element c.args.name c.args.attrs c.args.origin)) (made_weight a.tree (Element c.args.name c.args.attrs c.args.origin)) ≡ Ok tt) c.self.view_is c.in_ok-node.ensures.within

pub returns-clause-tags : goal.returns-clause-tags
returns-clause-tags c = opened-tags c.args.self.now _ c.self.inside.stack c.self.inside.list c.self.inside.arena c.self.inside.tokens c.self.inside.head c.self.inside.form c.self.inside.detached c.self.view_is c.self.invariant.0 c.in_ok-node.node _ (returns-clause-keeps c) c.in_ok-open_node.ensures.stack (returns-clause-tag c).1

pub returns-in_err-open_node-clause-refused : goal.returns-in_err-open_node-clause-refused
returns-in_err-open_node-clause-refused c =
    always-err c.from_residual-in_err-open_node.result
    (made-tags c.self.inside.stack c.open_node.new.stack c.self.inside.arena c.put_new.new.arena c.open_node.new.arena (place_at c.self.inside.arena c.self.inside.stack c.self.inside.head c.args.target) (Element c.args.name c.args.attrs c.args.origin) (length c.self.inside.stack + 3)
    c.self.invariant.0.is_open.stack_in c.in_ok-node.ensures.new c.in_err-open_node.ensures.same_tree c.in_err-open_node.ensures.same_stack ∙ ap open_tags c.self.view_is)

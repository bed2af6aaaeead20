use Rattle.std.proofs.Common.{◌≡◌, ℕ, List, [], ◌∷◌, ◌++◌, length, sym, ◌∙◌, ap, subst}
use Rattle.std.proofs.lemmas.Result.{err_from_is_err_and}
use Rattle.html_names.specs.declared.tag.Tag.TheVariants as tag
use Rattle.html_names.specs.Names.{name_of, tag_of}
use Rattle.html_tokens.specs.declared.attributes.Attr.{Attr}
use Rattle.html_arena.specs.declared.data.NewNode.TheVariants.{Element}
use Rattle.html_arena.specs.declared.data.Origin.TheVariants.{Implied}
use Rattle.html_arena.specs.Budget.{RefusedBy, budget}
use Rattle.html_arena.specs.Laws.{IsGrown}
use Rattle.html_arena.specs.Make.{made, made_weight, nodes_made}
use Rattle.html_arena.specs.Tree.{Tree, empty_tree}
use Rattle.html_open.specs.Marking.{bare}
use Rattle.html_open.specs.Opened.{CanPush, IsOpen, open_at}
use Rattle.html_tree.specs.Inserting.{IsBudget, root_budget}
use Rattle.html_tree.proofs.Roots.{refused-budget, root-can_push, root-under_way}
use Rattle.html_tree.proofs.Spelled.{chars-name}
use Rattle.html_names.specs.Sets.{is_template}
use Rattle.html_tree.specs.OpenTags.{tags_down}
use Rattle.html_tree.specs.Seats.{AreSeated}
use Rattle.html_tree.proofs.Standing.{first-seats}
use Rattle.html_tree.proofs.tree.push_root.Goals as goal

pub returns-in_err-root-clause-cause : goal.returns-in_err-root-clause-cause
returns-in_err-root-clause-cause c =
    let p = err_from_is_err_and c.from_residual-in_err-root.result c.from_residual-in_err-root.ensures.1 in
    let q : RefusedBy (budget c.args.arena.now (nodes_made (Element (name_of tag.Html) [] Implied)) (made_weight c.args.arena.now (Element (name_of tag.Html) [] Implied))) c.in_err-root.field-0.0 =
    subst (λ (n : List ℕ). RefusedBy (budget c.args.arena.now (nodes_made (Element n [] Implied)) (made_weight c.args.arena.now (Element n [] Implied))) c.in_err-root.field-0.0) (chars-name tag.Html c.name.result.now c.in_ok-name.name c.name.utf8 c.name.ensures.value c.name.ensures.back c.in_ok-name.ensures)
    (subst (λ (a : List Attr). RefusedBy (budget c.args.arena.now (nodes_made (Element c.in_ok-name.name a Implied)) (made_weight c.args.arena.now (Element c.in_ok-name.name a Implied))) c.in_err-root.field-0.0) c.new.ensures c.in_err-root.ensures.cause) in
    rw p.1 (subst (λ e. IsBudget (root_budget c.args.arena.now) e) (sym p.2) (refused-budget (root_budget c.args.arena.now) c.in_err-root.field-0.0 q))

pub returns-clause-under_way : goal.returns-clause-under_way
returns-clause-under_way c =
    let l = c.requires.empty.0 in
    let u = c.make.new.self in
    let g : tag_of c.in_ok-name.name ≡ tag.Html = ap tag_of ((chars-name tag.Html c.name.result.now c.in_ok-name.name c.name.utf8 c.name.ensures.value c.name.ensures.back c.in_ok-name.ensures) ∙ sym c.name.ensures.value) ∙ c.name.ensures.back in
    let e : u ≡ made (empty_tree l) (Element c.in_ok-name.name [] Implied) =
    c.in_ok-root.ensures.made ∙ ap (λ (t : Tree). made t (Element c.in_ok-name.name c.new.result Implied)) c.requires.empty.1 ∙ ap (λ (a : List Attr). made (empty_tree l) (Element c.in_ok-name.name a Implied)) c.new.ensures in
    let zero : c.in_ok-root.root ≡ 0 = c.in_ok-root.ensures.id ∙ ap (λ (t : Tree). length t.labels) c.requires.empty.1 in
    let o : IsOpen (open_at [] [] u) = c.kept_by_edits.ensures.grown [] [] (empty_tree l) u (nodes_made (Element c.in_ok-name.name c.new.result Implied)) (subst (λ (t : Tree). IsGrown t u (nodes_made (Element c.in_ok-name.name c.new.result Implied))) c.requires.empty.1 c.in_ok-root.ensures.grown) (c.kept_by_edits.ensures.empty l) in
    let p : CanPush (open_at [] [] u) c.in_ok-root.root = subst (λ x. CanPush (open_at [] [] u) x) (sym zero) (root-can_push l u c.in_ok-name.name g e) in
    root-under_way l u c.in_ok-name.name g e c.push.new.self c.push.new.arena (ap (λ (v : Tree). v.labels) c.in_ok-push.ensures.tree)
    (c.in_ok-push.ensures.stack ∙ ap (λ (s : List ℕ). s ++ c.in_ok-root.root ∷ []) c.requires.none ∙ ap (λ (x : ℕ). x ∷ []) zero)
    (c.in_ok-push.ensures.keeps [] (subst (λ (s : List ℕ). IsOpen (open_at s [] u)) (sym c.requires.none) o) (subst (λ (s : List ℕ). CanPush (open_at s [] u) c.in_ok-root.root) (sym c.requires.none) p))

pub returns-clause-tree : goal.returns-clause-tree
returns-clause-tree c =
    ap bare c.in_ok-push.ensures.tree ∙ ap bare c.in_ok-root.ensures.made
    ∙ ap (λ (a : List Attr). bare (made c.args.arena.now (Element c.in_ok-name.name a Implied))) c.new.ensures
    ∙ ap (λ (n : List ℕ). bare (made c.args.arena.now (Element n [] Implied))) (chars-name tag.Html c.name.result.now c.in_ok-name.name c.name.utf8 c.name.ensures.value c.name.ensures.back c.in_ok-name.ensures)

pub returns-clause-seats : goal.returns-clause-seats
returns-clause-seats c =
    let l = c.requires.empty.0 in
    let u = c.make.new.self in
    let g : tag_of c.in_ok-name.name ≡ tag.Html = ap tag_of ((chars-name tag.Html c.name.result.now c.in_ok-name.name c.name.utf8 c.name.ensures.value c.name.ensures.back c.in_ok-name.ensures) ∙ sym c.name.ensures.value) ∙ c.name.ensures.back in
    let e : u ≡ made (empty_tree l) (Element c.in_ok-name.name [] Implied) =
    c.in_ok-root.ensures.made ∙ ap (λ (t : Tree). made t (Element c.in_ok-name.name c.new.result Implied)) c.requires.empty.1 ∙ ap (λ (a : List Attr). made (empty_tree l) (Element c.in_ok-name.name a Implied)) c.new.ensures in
    first-seats l (Element c.in_ok-name.name [] Implied) u c.push.new.arena (ap is_template g) e (ap (λ (v : Tree). v.parents) c.in_ok-push.ensures.tree) c.push.new.self
    (subst (λ (s : List ℕ). AreSeated (tags_down c.push.new.arena s)) (sym (c.in_ok-push.ensures.stack ∙ ap (λ (s : List ℕ). s ++ c.in_ok-root.root ∷ []) c.requires.none)) (tt, tt))

use Rattle.std.proofs.Common.{refl, subst, sym, arith}
use Rattle.html_tree.specs.Since.{Keeps}
use Rattle.html_tree.specs.States.{IsNamed, State, state_of}
use Rattle.html_tree.proofs.Kept.{fewer-since, keeps-since}
use Rattle.html_names.specs.declared.tag.Tag.TheVariants as tag
use Rattle.html_tree.proofs.tree.OpenTree.set_form.Goals as goal

pub invariant_of-self : goal.invariant_of-self
invariant_of-self c = (
  let p = c.self.invariant.0 in
      record {
        is_open = p.is_open;
        some_node = p.some_node;
        first = p.first;
        root = p.root;
        tokens = p.tokens;
        head = p.head;
        form = subst (λ (a : State). IsNamed a.tree tag.Form c.args.node) (sym c.self.view_is) c.requires;
        detached = p.detached;
      },
  c.self.invariant.1,
  c.self.invariant.2,
)

pub returns-clause-keeps : goal.returns-clause-keeps
returns-clause-keeps c =
    subst (λ (a : State). Keeps a (state_of c.self.inside.stack c.self.inside.list c.self.inside.arena c.self.inside.tokens c.self.inside.head c.args.node c.self.inside.detached)) c.self.view_is
    (keeps-since (state_of c.self.inside.stack c.self.inside.list c.self.inside.arena c.self.inside.tokens c.self.inside.head c.self.inside.form c.self.inside.detached) (state_of c.self.inside.stack c.self.inside.list c.self.inside.arena c.self.inside.tokens c.self.inside.head c.args.node c.self.inside.detached) (fewer-since (state_of c.self.inside.stack c.self.inside.list c.self.inside.arena c.self.inside.tokens c.self.inside.head c.self.inside.form c.self.inside.detached) (state_of c.self.inside.stack c.self.inside.list c.self.inside.arena c.self.inside.tokens c.self.inside.head c.args.node c.self.inside.detached) refl refl refl (λ x i. i) (λ x i. i) (omega arith)))

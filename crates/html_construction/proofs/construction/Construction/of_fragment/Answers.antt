use Rattle.html_ledger.specs.declared.setting.Setting.TheVariants.{Fragment}
use Rattle.html_construction.specs.Built.{nothing_of}
use Rattle.html_construction.proofs.Kept.{begun-fragment}
use Rattle.html_construction.proofs.Copying.{fragment-implied, fragment-uncloned}
use Rattle.std.proofs.Common.{[], arith, ◌||◌, refl, sym, ap, ◌∙◌}
use Rattle.html_names.specs.declared.tag.Tag.TheVariants as tag
use Rattle.html_ledger.specs.Symbols.{named}
use Rattle.html_tree.specs.OpenTags.{open_tags}
use Rattle.html_tree.specs.States.{State as Tree}
use Rattle.html_construction.proofs.Founding.{fragment-first}
use Rattle.html_construction.proofs.construction.Construction.of_fragment.Goals.{then-in_form, else-in_form}
use Rattle.html_construction.proofs.construction.Construction.of_fragment.Goals as goal

pub returns-clause-built : goal.returns-clause-built
returns-clause-built c = λ l k e. c.in_ok-enter_context.ensures.keeps (nothing_of (Fragment c.args.context c.args.in_form) l) (begun-fragment c.args.context c.args.in_form l k _ e c.new.ensures.fed)

pub returns-clause-uncloned : goal.returns-clause-uncloned
returns-clause-uncloned c =
    let g = c.in_ok-enter_context.ensures.grown in
    let z = fragment-uncloned c.args.tree c.requires.begun in
    omega (arith, g.1.1.1.1.0, z)

pub returns-clause-implied : goal.returns-clause-implied
returns-clause-implied c =
    let g = c.in_ok-enter_context.ensures.grown in
    let z = fragment-implied c.args.tree c.requires.begun in
    omega (arith, g.1.1.1.1.1, z)

pub returns-clause-first : goal.returns-clause-first
returns-clause-first c = λ l k e.
    fragment-first c.args.context c.args.in_form l k
    (record {
      tree = c.args.tree;
      stack = open_tags c.args.tree;
      ledger = c.new.result;
      mode = c.new-2.result.mode;
      original = c.new-2.result.original;
      templates = [];
      context = c.new-2.result.context;
      quirks = c.new-2.result.quirks;
      frameset_ok = c.new-2.result.frameset_ok;
      fostering = c.new-2.result.fostering;
      outer_form = c.new-2.result.outer_form;
      parses_foreign = c.new-2.result.parses_foreign;
      began = c.new-2.result.call.began;
      depth = c.new-2.result.call.depth;
      nodes = c.new-2.result.call.nodes;
    })
    c.enter_context.new.self
    (record {
      tree = e;
      stack = refl;
      ledger = c.new.ensures.value;
      original = c.new-2.ensures.original;
      context = c.new-2.ensures.context;
      frameset_ok = c.new-2.ensures.frameset_ok;
      fostering = c.new-2.ensures.fostering;
      outer_form = c.new-2.ensures.outer_form ∙ elim c.if-in_form.branch [
        | then-in_form w ↦ w.outer_form-is ∙ w.if-in_form.true ∙ sym (ap (λ b. b || named tag.Form c.args.context) w.if-in_form.true)
        | else-in_form w ↦ w.outer_form-is ∙ w.is-outer_form.ensures.value ∙ sym (ap (λ b. b || named tag.Form c.args.context) w.if-in_form.false)
      ];
      began = ap (λ x. x.began) c.new-2.ensures.call;
      depth = ap (λ x. x.depth) c.new-2.ensures.call;
      nodes = ap (λ x. x.nodes) c.new-2.ensures.call;
    })
    c.in_ok-enter_context.ensures.rest (c.in_ok-enter_context.ensures.entered c.args.in_form c.new-2.ensures.templates (ap (λ (x : Tree). x.head) e)) (c.in_ok-enter_context.ensures.pushed c.args.in_form c.new-2.ensures.templates)

use Rattle.html_open.specs.Opened.{AreOneByOrigin}
use Rattle.html_builder.specs.Builders.{BuilderState}
use Rattle.std.proofs.Common.{subst}
use Rattle.html_builder.proofs.builder.Builder.opened.Goals as goal

pub returns-clause-stack : goal.returns-clause-stack
returns-clause-stack c = subst (λ (b : BuilderState). AreOneByOrigin b.page.tree.tree b.page.tree.stack b.page.tree.stack) c.self.view_is c.laws.ensures.sound.stack_origins

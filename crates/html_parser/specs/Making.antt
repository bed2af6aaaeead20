-- For this crate's own functions.
-- Why no tree construction began.
use Rattle.std.specs.Prelude.{ℕ, ◌≡◌, ◌<◌, false, List, Option}
use Rattle.html_arena.specs.declared.arena.Limits.{Limits}
use Rattle.html_builder.specs.Handed.{AreSo}
use Rattle.html_builder.specs.declared.error.BuildError.{BuildError}
use Rattle.html_builder.specs.declared.error.BuildError.TheVariants as build
use Rattle.html_parser.specs.Options.{is_context}
use Rattle.html_parser.specs.declared.options.Foreign.{Foreign}

-- of a document
abbrev pub IsDocumentCause : Option Limits → BuildError → Type 0
IsDocumentCause limits build.OutOfMemory = Unit {0}
IsDocumentCause limits (build.NodeBudget at) = (at ≡ 0) × AreSo limits (λ m. m.nodes < 1)
IsDocumentCause limits _ = ⊥

-- of a fragment
abbrev pub IsFragmentCause : Foreign → List ℕ → Option Limits → BuildError → Type 0
IsFragmentCause foreign name limits build.OutOfMemory = Unit {0}
IsFragmentCause foreign name limits build.BadContext = is_context foreign name ≡ false
IsFragmentCause foreign name limits (build.NodeBudget at) = (at ≡ 0) × AreSo limits (λ m. m.nodes < 1)
IsFragmentCause foreign name limits (build.HeldBudget at) = (at ≡ 0) × AreSo limits (λ m. m.held < 4)
IsFragmentCause foreign name limits _ = ⊥

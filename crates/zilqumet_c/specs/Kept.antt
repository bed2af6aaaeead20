-- Claimed, but for this crate's own functions: kept.
-- What a place owns that C keeps.
use Rattle.std.specs.Prelude.{Option, None, Some}
use base.Fml.{Fml, feq}
use denote.RattleType.{RattleType}
use denote.RawPtr.{Ptr, null_ptr}
use Rattle.std.specs.declared.alloc.Global.{Global}
use Rattle.std.specs.contracts.impls.GlobalAllocator.TheImpl.{ghosts}
use Rattle.std_alloc.specs.declared.boxed.Box.{Box}
use Rattle.std_alloc.specs.Box.Ownership.{box_owns}

-- nothing at null, and else a box
abbrev pub kept : (R : RattleType) → Global → Ptr → Option R.Denot → Fml
kept R a p None = feq Ptr p null_ptr
kept R a p (Some x) = box_owns (ghosts.dealloc_token a) R p x

-- what is in the box, if there is one
abbrev pub unboxed : {X A : Type 0} → Option (Box X A) → Option X
unboxed None = None
unboxed (Some b) = Some b.value

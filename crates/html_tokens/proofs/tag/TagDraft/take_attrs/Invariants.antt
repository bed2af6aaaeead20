use Rattle.std.proofs.Common.{◌≡◌, ◌-◌, length}
use Rattle.html_tokens.specs.Copied.{CopiesTag}
use Rattle.html_tokens.specs.Whole.{KeepsBounds}
use Rattle.html_tokens.specs.declared.tag.Part.TheVariants.{Attributes}
use Rattle.html_tokens.proofs.tag.TagDraft.take_attrs.Given as goal

abbrev pub invariant-taking : goal.invariant-taking
invariant-taking l = record {
  copies : CopiesTag l.fn.self l.rest l.len l.self;
  bounds : KeepsBounds l.fn.self l.len l.compared l.self;
  part : l.self.part ≡ Attributes;
}

abbrev pub decreases-taking : goal.decreases-taking
decreases-taking l = length l.rest - l.len

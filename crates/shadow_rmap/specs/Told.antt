-- What a shadow stands for as a listener: of the blocks that inodes own it keeps those of its own group, whosoever they are.
use Rattle.std.specs.Prelude.{List}
use Rattle.run_edits.specs.EditLaws.{AreUntied}
use Rattle.live_hooks.specs.Heard.{Owned, tuples_in}
use Rattle.shadow_rmap.specs.Kept.{KeepsTuples, ShadowState}

pub record KeepsOwn (s : ShadowState) (os : List Owned) : Type 0 where
  pub untied : AreUntied (tuples_in s.group os)
  pub keeps : KeepsTuples (tuples_in s.group os) s

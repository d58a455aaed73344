use Rattle.std.proofs.Common.{length}
use Rattle.sblock.specs.Blocks.{IsRising}
use Rattle.core_units.proofs.orderly.is_rising.Given as goal

abbrev pub invariant-loop-rec : goal.invariant-loop-rec
invariant-loop-rec g l = record {
  on : IsRising g.K.RecKind.form l.rest → IsRising g.K.RecKind.form l.list;
  back : IsRising g.K.RecKind.form l.list → IsRising g.K.RecKind.form l.rest;
}

abbrev pub decreases-loop-rec : goal.decreases-loop-rec
decreases-loop-rec g l = length l.rest

use Rattle.std.proofs.Common.{length}
use Rattle.sblock.specs.Blocks.{AllInside}
use Rattle.load_trees.proofs.given.are_in_range.Given as goal

abbrev pub invariant-loop-rec : goal.invariant-loop-rec
invariant-loop-rec g l = record {
  on : AllInside g.K.RecKind.form l.bounds l.rest → AllInside g.K.RecKind.form l.bounds l.list;
  back : AllInside g.K.RecKind.form l.bounds l.list → AllInside g.K.RecKind.form l.bounds l.rest;
}

abbrev pub decreases-loop-rec : goal.decreases-loop-rec
decreases-loop-rec g l = length l.rest

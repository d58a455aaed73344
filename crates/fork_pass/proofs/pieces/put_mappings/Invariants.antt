use Rattle.std.proofs.Common.{drop}
use Rattle.geom.specs.Places.{layout}
use Rattle.fork_pass.specs.Pieces.{mapping_pieces}
use Rattle.fork_pass.specs.Sets.{Leaves}
use Rattle.fork_pass.proofs.pieces.put_mappings.Given as goal

-- those that are left are still to be put
abbrev pub invariant-loop-m : goal.invariant-loop-m
invariant-loop-m l = Leaves l.fn.sets l.sets (mapping_pieces (layout l.geo) l.fork l.ino l.mappings) (mapping_pieces (layout l.geo) l.fork l.ino (drop l.m-index l.mappings))

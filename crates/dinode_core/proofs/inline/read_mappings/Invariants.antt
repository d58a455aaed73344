use Rattle.std.proofs.Common.{◌≡◌, ◌*◌, ◌≤◌, ◌++◌, length}
use Rattle.dinode_core.specs.Inline.{mappings_in}
use Rattle.dinode_core.proofs.inline.read_mappings.Given as goal

-- what is found and what is left are all
abbrev pub invariant-loop-left : goal.invariant-loop-left
invariant-loop-left l = record {
  room : 16 * l.left ≤ length l.rest;
  all : l.into.items ++ mappings_in l.left l.rest ≡ mappings_in l.count l.area;
}

abbrev pub decreases-loop-left : goal.decreases-loop-left
decreases-loop-left l = l.left

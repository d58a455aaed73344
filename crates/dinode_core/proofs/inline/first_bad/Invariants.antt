use Rattle.std.proofs.Common.{◌≡◌, length}
use Rattle.geom.specs.Places.{layout}
use Rattle.dinode_core.specs.Inline.{first_bad}
use Rattle.dinode_core.proofs.inline.first_bad.Given as goal

-- no mapping before the rest is bad
abbrev pub invariant-loop-first : goal.invariant-loop-first
invariant-loop-first l = first_bad (layout l.geo) l.fork l.rest ≡ first_bad (layout l.geo) l.fork l.mappings

abbrev pub decreases-loop-first : goal.decreases-loop-first
decreases-loop-first l = length l.rest

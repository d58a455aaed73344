use Rattle.sblock.specs.Area.{child_of}
use Rattle.tree_claims.specs.Lists.{lists}
use Rattle.tree_claims.specs.Looks.{Grows}
use Rattle.tree_claims.proofs.GrowLemmas.{Among}
use Rattle.tree_claims.proofs.frontier.put_children.Given as goal

abbrev pub invariant-loop-i : goal.invariant-loop-i
invariant-loop-i l = Grows (lists l.initial.list.items) (lists l.list.items) (Among (child_of l.kind l.area) l.i)

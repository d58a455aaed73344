use Rattle.std.proofs.Common.{◌≡◌, ◌-◌, ◌≤◌}
use Rattle.fresh_image.specs.Fresh.{listed, empty_list}
use Rattle.fresh_image.proofs.heads.list_of.Given as goal

abbrev pub invariant-loop-block : goal.invariant-loop-block
invariant-loop-block l = (7 ≤ l.block) × (l.list ≡ listed (l.block - 7) (empty_list l.g))

use Rattle.std.proofs.Common.{length, ap, arith}
use Rattle.tree_edit.proofs.MakeLemmas.{some_blocks}
use Rattle.tree_edit.proofs.make.make.Goals as goal

pub last_of-requires : goal.last_of-requires
last_of-requires g c =
    let some = some_blocks _ _ c.shape-form.result.levels c.shape-form.result.blocks c.shape-form.ensures in
    let same = ap length c.deref-4.ensures.value in
    omega (arith, some, c.in_ok-plan.ensures.plan.many, same)

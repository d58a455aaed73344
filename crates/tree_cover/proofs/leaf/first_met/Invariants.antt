use Rattle.std.proofs.Common.{◌≡◌, ◌-◌}
use Rattle.sblock.specs.Lists.{items_from}
use Rattle.tree_cover.specs.Covers.{first_met}
use Rattle.tree_cover.proofs.leaf.first_met.Given as goal

abbrev pub invariant-loop-i : goal.invariant-loop-i
invariant-loop-i g l =
    first_met g.K.RecKind.form l.asked.run l.asked.after (items_from (g.K.RecKind.form.record_at l.area) (l.n - l.i) l.i)
    ≡ first_met g.K.RecKind.form l.asked.run l.asked.after (items_from (g.K.RecKind.form.record_at l.area) l.n 0)

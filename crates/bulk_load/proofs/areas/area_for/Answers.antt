use Rattle.std.proofs.Common.{◌≡◌, ◌+◌, ◌-◌, ◌<◌, ◌≤◌, ℕ, suc, length, refl, sym, ◌∙◌, arith}
use Rattle.bulk_load.proofs.AreaLemmas.{has_at, told_at}
use Rattle.bulk_load.proofs.areas.area_for.Goals as goal

pub returns-then-level-eq0-clause-has : goal.returns-then-level-eq0-clause-has
returns-then-level-eq0-clause-has g c = has_at g.K.RecKind.form c.args.list.now c.args.claimed.now 0 c.args.level c.args.i c.leaf_area.result (sym c.if-level-eq0.true) (c.leaf_area.ensures.has c.args.claimed.now)

pub returns-then-level-eq0-clause-exact : goal.returns-then-level-eq0-clause-exact
returns-then-level-eq0-clause-exact g c = told_at g.K.RecKind.form c.args.list.now c.args.claimed.now 0 c.args.level c.args.i c.leaf_area.result (sym c.if-level-eq0.true) (c.leaf_area.ensures.exact c.args.claimed.now)

pub returns-clause-has : goal.returns-clause-has
returns-clause-has g c = has_at g.K.RecKind.form c.args.list.now c.args.claimed.now (suc (c.args.level - 1)) c.args.level c.args.i c.node_area.result (omega (arith, c.if-level-eq0.false)) c.node_area.ensures.has

pub returns-clause-exact : goal.returns-clause-exact
returns-clause-exact g c = told_at g.K.RecKind.form c.args.list.now c.args.claimed.now (suc (c.args.level - 1)) c.args.level c.args.i c.node_area.result (omega (arith, c.if-level-eq0.false)) c.node_area.ensures.exact

use Rattle.std.proofs.Common.{◌≤◌, arith, subst}
use Rattle.geom.specs.Layout.{group_len_of}
use Rattle.geom.specs.Places.{layout}
use Rattle.group_trees.proofs.ReadLemmas.{group_short}
use Rattle.run_sets.specs.Runs.{most}
use Rattle.core_units.proofs.FitLemmas.{judged_now}
use Rattle.core_units.specs.Judging.{IsFound}
use Rattle.core_units.proofs.concluding.conclude.Goals as goal

pub returns-in-Lists : goal.returns-in-Lists
returns-in-Lists c =
    let k = group_short (layout c.args.geo.now) c.args.g c.args.geo.now.fitting in
    let short : group_len_of (layout c.args.geo.now) c.args.g ≤ most = omega (arith, k) in
    judged_now (layout c.args.geo.now) c.args.g c.args.unit c.args.gathered c.in-Lists.lists c.in-Lists.chunks short c.requires.orderly.trees
    (subst (IsFound c.args.unit c.args.gathered.trees) c.in-Lists.is c.in_ok-found.ensures)

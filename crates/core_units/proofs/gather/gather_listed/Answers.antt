use Rattle.std.proofs.Common.{ℕ, arith, subst}
use Rattle.geom.specs.Places.{layout}
use Rattle.group_trees.proofs.ReadLemmas.{group_short}
use Rattle.quiet_check.proofs.JudgeLemmas.{maps_end, maps_rise}
use Rattle.quiet_check.specs.Units.{AreListed}
use Rattle.tree_defs.specs.Sites.{bounds_of}
use Rattle.core_units.proofs.OrderlyLemmas.{listed_now}
use Rattle.core_units.proofs.gather.gather_listed.Goals as goal

pub list_units-requires-clause-rising : goal.list_units-requires-clause-rising
list_units-requires-clause-rising c = maps_rise (bounds_of (layout c.args.geo.now) c.args.g) c.args.gathered.now.trees.rmap c.requires.orderly.trees.rmap

pub list_units-requires-clause-within : goal.list_units-requires-clause-within
list_units-requires-clause-within c = maps_end (bounds_of (layout c.args.geo.now) c.args.g) c.args.gathered.now.trees.rmap (let k = group_short (layout c.args.geo.now) c.args.g c.args.geo.now.fitting in omega (arith, k)) c.requires.orderly.trees.rmap

pub returns-in_ok-listed-in-None-clause-orderly : goal.returns-in_ok-listed-in-None-clause-orderly
returns-in_ok-listed-in-None-clause-orderly c =
    listed_now (layout c.args.geo.now) c.args.g c.args.gathered.now c.in_ok-listed-in-None.listed c.requires.orderly c.in-None.is c.requires.read (subst (λ (n : ℕ). AreListed n c.args.gathered.now.trees c.in_ok-listed-in-None.listed) c.group_len-length.ensures c.in_ok-listed-in-None.ensures)

use Rattle.geom.specs.Places.{layout}
use Rattle.core_units.proofs.OrderlyLemmas.{inodes_maximal, owners_maximal}
use Rattle.core_units.proofs.concluding.find.Goals as goal

pub first_evidence-requires-clause-by_inodes : goal.first_evidence-requires-clause-by_inodes
first_evidence-requires-clause-by_inodes c = inodes_maximal (layout c.args.geo.now) c.args.g c.args.gathered.now c.in-Some.listed c.requires.orderly c.in-Some.is

pub first_evidence-requires-clause-by_owners : goal.first_evidence-requires-clause-by_owners
first_evidence-requires-clause-by_owners c = owners_maximal (layout c.args.geo.now) c.args.g c.args.gathered.now c.in-Some.listed c.requires.orderly c.in-Some.is

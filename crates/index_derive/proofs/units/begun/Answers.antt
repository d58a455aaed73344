use Rattle.std.proofs.Common.{get_or, rules, of_calls, arith}
use Rattle.std.specs.Prelude.{nat_le}
use Rattle.std.proofs.lemmas.Bool.{leb-false, leb-true}
use Rattle.std.proofs.lemmas.Fn.{always_returns_same}
use Rattle.run_sets.specs.declared.run.Run.{Run}
use Rattle.index_derive.proofs.BegunLemmas.{parted}
use Rattle.index_derive.proofs.units.begun.Goals as goal

pub returns-clause-begun : goal.returns-clause-begun
returns-clause-begun c =
    let point = c.partition_point.ensures.partitioned (λ (r : Run). nat_le r.start c.args.unit) (always_returns_same _ _ _ (λ a r f k. search (rules, of_calls))) (parted c.args.units.now c.args.unit c.requires) in
    λ k d below. leb-true (get_or c.args.units.now k d).start c.args.unit (point.0 k d (omega arith) below)

pub returns-clause-later : goal.returns-clause-later
returns-clause-later c =
    let point = c.partition_point.ensures.partitioned (λ (r : Run). nat_le r.start c.args.unit) (always_returns_same _ _ _ (λ a r f k. search (rules, of_calls))) (parted c.args.units.now c.args.unit c.requires) in
    λ k d from within. leb-false (get_or c.args.units.now k d).start c.args.unit (point.1 k d from within)

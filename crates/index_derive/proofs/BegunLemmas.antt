-- Of maximal runs those that have begun stand in front.
use Rattle.std.proofs.Common.{ℕ, List, get_or, arith}
use Rattle.std.specs.Prelude.{nat_le}
use Rattle.std.specs.List.Sorted.{IsPartitionedBy}
use Rattle.std.proofs.lemmas.Bool.{le-leb, leb-true}
use Rattle.run_sets.specs.declared.run.Run.{Run}
use Rattle.run_sets.specs.Runs.{AreMaximal}
use Rattle.run_sets.proofs.StretchLemmas.{starts_rise}

pub parted : (rs : List Run) (unit : ℕ) → AreMaximal 0 rs → IsPartitionedBy (λ (r : Run). nat_le r.start unit) rs
parted rs unit h i j d order within passes =
    let rise = starts_rise 0 rs i j d h (omega (arith, order)) within in
    let le = leb-true (get_or rs j d).start unit passes in
    le-leb (get_or rs i d).start unit (omega (arith, rise, le))

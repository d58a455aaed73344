use Rattle.std.proofs.Common.{◌+◌, ◌-◌, ◌/◌, ◌<◌, ℕ, length, arith}
use Rattle.run_sets.specs.declared.run.Run.{Run}
use Rattle.run_sets.proofs.StretchLemmas.{begun_more, later_more}
use Rattle.run_sets.proofs.stretch.begun.Goals as goal

-- what a place past the end reads as
abbrev none : Run
none = record { start = 0; count = 0 }

pub loop-low-preserved-then-runs-middle : goal.loop-low-preserved-then-runs-middle
loop-low-preserved-then-runs-middle c =
    let m : ℕ = c.loop-low.low + (c.loop-low.high - c.loop-low.low) / 2 in
    let lt : m < length c.args.runs.now = omega arith in
    record {
      order = omega arith;
      within = c.loop-low.invariant.within;
      begun = begun_more c.args.runs.now m c.args.block none c.requires.maximal lt c.if-runs-middle.true;
      later = c.loop-low.invariant.later;
    }

pub loop-low-preserved : goal.loop-low-preserved
loop-low-preserved c =
    let m : ℕ = c.loop-low.low + (c.loop-low.high - c.loop-low.low) / 2 in
    let lt : m < length c.args.runs.now = omega arith in
    record {
      order = omega arith;
      within = omega arith;
      begun = c.loop-low.invariant.begun;
      later = later_more c.args.runs.now m c.args.block none c.requires.maximal lt c.if-runs-middle.false;
    }

use Rattle.std.proofs.Common.{◌-◌, arith, refl}
use Rattle.std.specs.Prelude.{slice_index_or}
use Rattle.run_sets.specs.Runs.{most}
use Rattle.run_sets.specs.declared.run.Run.{Run}
use Rattle.core_units.proofs.CoresLemmas.{ends, none_left, sees_here, sees_last, sees_nothing}
use Rattle.core_units.proofs.cores.next_units.Goals as goal

pub returns-then-at-units-clause-none : goal.returns-then-at-units-clause-none
returns-then-at-units-clause-none c = none_left c.args.units.now c.args.at.now.run c.args.at.now.passed (omega (arith, c.if-at-units.true))

pub returns-then-at-run-clause-some : goal.returns-then-at-run-clause-some
returns-then-at-run-clause-some c =
    let d : Run = record { start = 0; count = 0 } in
    sees_nothing c.args.units.now c.args.at.now (slice_index_or c.args.units.now c.args.at.now.run d) d (omega (arith, c.if-at-units.false)) refl (omega (arith, c.if-at-run.true))

pub overflow_add-start : goal.overflow_add-start
overflow_add-start c =
    let d : Run = record { start = 0; count = 0 } in
    let end = ends c.args.units.now c.args.at.now.run most (slice_index_or c.args.units.now c.args.at.now.run d) d (omega (arith, c.if-at-units.false)) refl c.requires in
    omega (arith, end, c.if-at-run.false)

pub returns-then-left-gt-CORES_PIECE-clause-some : goal.returns-then-left-gt-CORES_PIECE-clause-some
returns-then-left-gt-CORES_PIECE-clause-some c =
    let d : Run = record { start = 0; count = 0 } in
    sees_here c.args.units.now c.args.at.now (slice_index_or c.args.units.now c.args.at.now.run d) d 100 (omega (arith, c.if-at-units.false)) refl (omega (arith, c.if-at-run.false, c.if-left-gt-CORES_PIECE.true)) (omega arith)

pub returns-clause-some : goal.returns-clause-some
returns-clause-some c =
    let d : Run = record { start = 0; count = 0 } in
    let r = slice_index_or c.args.units.now c.args.at.now.run d in
    sees_last c.args.units.now c.args.at.now r d (r.count - c.args.at.now.passed) (omega (arith, c.if-at-units.false)) refl (omega (arith, c.if-at-run.false)) (omega (arith, c.if-at-run.false, c.if-left-gt-CORES_PIECE.false))

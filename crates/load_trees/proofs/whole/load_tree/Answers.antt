use Rattle.std.proofs.Common.{◌≡◌, ◌+◌, ◌-◌, ◌≤◌, ℕ, [], length, ◌∙◌, subst, arith}
use Rattle.byte_fields.specs.Steps.{StepCount}
use Rattle.load_trees.specs.Fit.{frame_of, WritesSome}
use Rattle.load_trees.proofs.GivenLemmas.{blocks_below}
use Rattle.load_trees.proofs.WrittenLemmas.{loaded_join, more_steps, no_steps, on_err}
use Rattle.load_trees.proofs.whole.load_tree.Goals as goal

pub load_piece-requires-clause-places : goal.load_piece-requires-clause-places
load_piece-requires-clause-places g c = λ k lt.
    omega (arith, blocks_below c.args.site.now.bounds.length c.args.claimed.now c.in_ok-form.ensures.fit.claims.lie k lt, c.requires)

pub loop-from-preserved : goal.loop-from-preserved
loop-from-preserved g c =
    let l = c.loop-from in
    let next = c.in_ok-from.from in
    let more : l.from + (next - l.from) ≡ next = omega (arith, c.in_ok-from.ensures.next) in
    let start = c.args.steps.now in
    record {
      within = omega (arith, c.in_ok-from.ensures.next, l.invariant.within);
      loaded = loaded_join g.K.RecKind.form c.args.list.now c.args.claimed.now (frame_of c.args.site.now c.args.lsn) 0 l.from next [] l.placed.items c.load_piece.new.into.items l.invariant.loaded c.in_ok-from.ensures.loaded;
      steps = subst (λ (n : ℕ). ◌≡◌ {A = StepCount} c.load_piece.new.steps (record { reads = start.reads; writes = start.writes + n; moves = start.moves })) more
          (more_steps start l.steps c.load_piece.new.steps l.from (next - l.from) l.invariant.steps c.in_ok-from.ensures.written);
    }

pub returns-in_err-form-clause-stopped : goal.returns-in_err-form-clause-stopped
returns-in_err-form-clause-stopped g c = on_err c.from_residual.result (no_steps (length c.args.claimed.now) c.args.steps.now)

pub returns-in_err-from-clause-stopped : goal.returns-in_err-from-clause-stopped
returns-in_err-from-clause-stopped g c =
    let l = c.loop-from in
    let some : WritesSome (length c.args.claimed.now) c.args.steps.now c.load_piece.new.steps = (l.from, omega (arith, l.invariant.within, c.in_ok-form.ensures.claimed), c.in_err-from.ensures.unwritten ∙ l.invariant.steps) in
    on_err c.from_residual-in_err-from.result some

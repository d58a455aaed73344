use Rattle.std.proofs.Common.{◌≡◌, IfErr, ap, length, refl, ◌∙◌, arith}
use Rattle.xscrub.specs.Shown.{StopsAt}
use Rattle.xscrub.specs.declared.telling.TellStop.TheVariants.{Sink}
use Rattle.xscrub.proofs.JudgedLemmas.{err_with}
use Rattle.xscrub.proofs.ShownLemmas.{told_front, told_more, told_none, told_some}
use Rattle.xscrub.proofs.telling.put_journal.Goals as goal

pub loop-told-init : goal.loop-told-init
loop-told-init g c =
    let none : length c.new-gathered.result.items ≡ 0 = ap length c.new-gathered.ensures.items in
    record {
      kept = g.met.K.Sink.kept_at_rest c.args.sink.now;
      calm = refl;
      few = omega (arith, none);
      some = λ lt. absurd (omega (arith, lt, none));
      so_far = told_none c.new-gathered.result.items (g.K.Sink.taken c.args.sink.now) c.new-gathered.ensures.items;
    }

pub loop-told-preserved : goal.loop-told-preserved
loop-told-preserved g c = record {
  kept = g.met.K.Sink.kept_by_both c.args.sink.now c.loop-told.sink c.gather.new.sink c.loop-told.invariant.kept c.gather.ensures.rest;
  calm = c.in_ok-gather.ensures.cause ∙ c.loop-told.invariant.calm;
  few = c.in_ok-gather.ensures.few;
  some = λ lt. omega (arith, c.loop-told-test.true);
  so_far = told_more c.args.journal.now c.loop-told.told _ c.as_bytes.result.now c.loop-told.gathered.items c.gather.new.gathered.items _ (g.K.Sink.taken c.loop-told.sink) _ c.loop-told-test.true
      (c.as_bytes.ensures.value ∙ c.in-Ok.ensures) c.loop-told.invariant.so_far c.in_ok-gather.ensures.bytes;
}

pub returns-in_err-gather-clause-stop : goal.returns-in_err-gather-clause-stop
returns-in_err-gather-clause-stop g c =
    err_with {T = Unit {0}} (λ r. IfErr r (StopsAt c.args.journal.now (g.K.Sink.sink_faults c.args.sink.now) (g.K.Sink.sink_faults c.gather.new.sink) (g.K.Sink.taken c.args.sink.now) (g.K.Sink.taken c.gather.new.sink)))
    Sink c.from_residual-in_err-gather.result c.from_residual-in_err-gather.ensures (
      omega (arith, c.loop-told-test.true),
      rw c.loop-told.invariant.calm at c.in_err-gather.ensures.cause.1,
      told_some c.args.journal.now c.loop-told.told _ c.as_bytes.result.now c.loop-told.gathered.items _ (g.K.Sink.taken c.loop-told.sink) _ c.loop-told-test.true
          (c.as_bytes.ensures.value ∙ c.in-Ok.ensures) c.loop-told.invariant.so_far c.in_err-gather.ensures.front,
    )

pub returns-in_err-put_gathered-clause-stop : goal.returns-in_err-put_gathered-clause-stop
returns-in_err-put_gathered-clause-stop g c =
    err_with {T = Unit {0}} (λ r. IfErr r (StopsAt c.args.journal.now (g.K.Sink.sink_faults c.args.sink.now) (g.K.Sink.sink_faults c.put_gathered.new.sink) (g.K.Sink.taken c.args.sink.now) (g.K.Sink.taken c.put_gathered.new.sink)))
    Sink c.from_residual.result c.from_residual.ensures (
      omega (arith, c.loop-told-test.true),
      rw c.loop-told.invariant.calm at c.in_err-put_gathered.ensures.cause.1,
      told_front c.args.journal.now c.loop-told.told c.loop-told.gathered.items _ (g.K.Sink.taken c.loop-told.sink) _ c.loop-told.invariant.so_far c.in_err-put_gathered.ensures.front,
    )

pub returns-in_err-put_gathered-2-clause-stop : goal.returns-in_err-put_gathered-2-clause-stop
returns-in_err-put_gathered-2-clause-stop g c =
    err_with {T = Unit {0}} (λ r. IfErr r (StopsAt c.args.journal.now (g.K.Sink.sink_faults c.args.sink.now) (g.K.Sink.sink_faults c.put_gathered-2.new.sink) (g.K.Sink.taken c.args.sink.now) (g.K.Sink.taken c.put_gathered-2.new.sink)))
    Sink c.from_residual-in_err-put_gathered-2.result c.from_residual-in_err-put_gathered-2.ensures (
      c.loop-told.invariant.some c.in_err-put_gathered-2.ensures.some,
      rw c.loop-told.invariant.calm at c.in_err-put_gathered-2.ensures.cause.1,
      told_front c.args.journal.now c.loop-told.told c.loop-told.gathered.items _ (g.K.Sink.taken c.loop-told.sink) _ c.loop-told.invariant.so_far c.in_err-put_gathered-2.ensures.front,
    )

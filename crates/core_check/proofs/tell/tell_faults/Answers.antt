use Rattle.std.proofs.Common.{arith, rules}
use Rattle.std.proofs.lemmas.Grind.{common_steps}
use Rattle.core_check.proofs.KnownLemmas.{known_next}
use Rattle.core_check.proofs.tell.tell_faults.Goals as goal

pub loop-fault-preserved : goal.loop-fault-preserved
loop-fault-preserved g c = record {
  told = grind (arith, common_steps);
  limbo = search rules;
  known = known_next c.args.which.group c.args.which.unit c.args.faults.now c.loop-fault.fault-index _ c.kind_of_fault.result c.args.kept.now c.loop-fault.kept c.mark_sick.new.kept c.loop-fault-test.true
      c.kind_of_fault.ensures c.mark_sick.ensures.trust c.mark_sick.ensures.passed c.loop-fault.invariant.known;
}

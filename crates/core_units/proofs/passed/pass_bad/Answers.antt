use Rattle.core_units.proofs.passed.pass_bad.Goals as goal

pub loop-preserved : goal.loop-preserved
loop-preserved c = record {
  made = λ at image kept heads g m. c.pass_one-at.ensures.made at image kept heads g (c.loop.invariant.made at image kept heads g m);
  none = λ e. c.pass_one-at.ensures.none (c.loop.invariant.none e);
}

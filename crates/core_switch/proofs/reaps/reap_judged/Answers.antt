use Rattle.std.proofs.Common.{◌∙◌, ap, inl, inr, sym}
use Rattle.block_reap.specs.Limbo.{next_of}
use Rattle.core_switch.proofs.SayLemmas.{idle_says, run_says}
use Rattle.core_switch.proofs.reaps.reap_judged.Goals as goal

pub returns-then-not-is_good-clause-says : goal.returns-then-not-is_good-clause-says
returns-then-not-is_good-clause-says g c = idle_says c.args.kept.now c.args.desk.now c.args.unit.now.group (inl (sym c.if-not-is_good.ensures))

pub returns-in-None-clause-says : goal.returns-in-None-clause-says
returns-in-None-clause-says g c = idle_says c.args.kept.now c.args.desk.now c.args.unit.now.group (inr (ap next_of (sym c.as_slice.ensures.value) ∙ sym c.in-None.ensures.value))

pub returns-in-Some-clause-says : goal.returns-in-Some-clause-says
returns-in-Some-clause-says g c =
    run_says c.args.desk.now c.reap_next.new.desk c.args.unit.now.group c.in-Some.run' c.args.kept.now c.reap_next.new.kept c.reap_next.result
    (sym c.if-not-is_good.ensures) (ap next_of (sym c.as_slice.ensures.value) ∙ sym c.in-Some.ensures.value) c.reap_next.ensures.says

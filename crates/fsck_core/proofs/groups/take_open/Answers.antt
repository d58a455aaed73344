use Rattle.std.proofs.Common.{refl, inl, inr}
use Rattle.fsck_core.proofs.SafeLemmas.{self_acts, taken_safe, taken_unit}
use Rattle.fsck_core.proofs.SayLemmas.{back_exit}
use Rattle.fsck_core.proofs.groups.take_open.Goals as goal

pub returns-in-Some-clause-taken : goal.returns-in-Some-clause-taken
returns-in-Some-clause-taken g c = record {
  desk = refl;
  safe = taken_safe g.D.Device c.args.parts.now c.args.g c.take_unit.new.units c.requires.safe c.take_unit.ensures.taken;
  unshut = c.in_ok-unless_shut.ensures.unshut;
  unit = taken_unit g.D.Device c.args.parts.now c.args.g c.in-Some.unit c.requires.safe c.in-Some.ensures.unit;
}

pub returns-in-None-clause-refused : goal.returns-in-None-clause-refused
returns-in-None-clause-refused g c = self_acts g.D.Device c.args.parts.now _ _ (taken_safe g.D.Device c.args.parts.now c.args.g c.take_unit.new.units c.requires.safe c.take_unit.ensures.taken) refl tt

pub returns-in-Some-clause-out : goal.returns-in-Some-clause-out
returns-in-Some-clause-out g c = record {
  unit = c.in-Some.ensures.unit;
  group = (c.requires.safe.works c.args.g c.in-Some.unit c.in-Some.ensures.unit).0;
  units = c.take_unit.ensures.taken;
  groups = refl;
  desk = refl;
}

pub returns-in-None-clause-back : goal.returns-in-None-clause-back
returns-in-None-clause-back g c = record { why = inr (record { place = c.in-None.ensures.unit; told = refl }); desk = refl }

pub returns-in_err-unless_shut-clause-back : goal.returns-in_err-unless_shut-clause-back
returns-in_err-unless_shut-clause-back g c =
    back_exit c.args.g c.args.parts.now c.args.parts.now c.in_err-unless_shut.field-0.0 c.from_residual.result c.from_residual.ensures (record { why = inl c.in_err-unless_shut.ensures.noted; desk = refl })

use Rattle.std.proofs.Common.{refl}
use Rattle.kind_laws.proofs.laws.records_are_written.Goals as goal

pub returns : goal.returns
returns c = record {
  bno = λ records k d lt. refl;
  cnt = λ records k d lt. refl;
  rmap = λ records k d lt. refl;
  refc = λ records k d lt. refl;
  ino = λ records k d lt. refl;
  fino = λ records k d lt. refl;
}

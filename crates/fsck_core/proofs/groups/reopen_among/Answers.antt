use Rattle.std.proofs.Common.{refl, sym}
use Rattle.std.proofs.lemmas.Option.{slice_get_read}
use Rattle.fsck_core.proofs.SafeLemmas.{one_left}
use Rattle.fsck_core.proofs.groups.reopen_among.Goals as goal

pub returns-clause-left : goal.returns-clause-left
returns-clause-left g c = one_left g.D.Device c.args.desk.now c.reopen_known.new.desk c.args.groups.now.items _ c.reopen_known.new.kept c.args.unit c.requires.given c.reopen_known.ensures.desk c.reopen_known.ensures.steady c.reopen_known.ensures.kept refl

pub returns-clause-known : goal.returns-clause-known
returns-clause-known g c = record {
  before = c.index_mut-kept.result.now;
  after = c.reopen_known.new.kept;
  kept = slice_get_read c.args.groups.now.items c.args.desk.now.store.geo.agcount c.args.unit.group c.index_mut-kept.result.now (sym c.requires.given.groups) c.requires.given.unit.inside c.index_mut-kept.ensures.value;
  left = refl;
  trust = c.reopen_known.ensures.trust;
  passed = c.reopen_known.ensures.passed;
}

use Rattle.std.proofs.Common.{refl, sym}
use Rattle.std.proofs.lemmas.Option.{slice_get_read}
use Rattle.fsck_core.proofs.scans.end_among.Goals as goal

pub returns-clause-says : goal.returns-clause-says
returns-clause-says g c = record {
  before = c.index_mut-kept.result.now;
  after = c.end_one.new.kept;
  kept = slice_get_read c.args.groups.now.items c.args.desk.now.store.geo.agcount c.args.unit.now.group c.index_mut-kept.result.now (sym c.requires.given.groups) c.requires.given.unit.inside c.index_mut-kept.ensures.value;
  left = refl;
  says = c.end_one.ensures.says;
  moves = c.end_one.ensures.moves;
}

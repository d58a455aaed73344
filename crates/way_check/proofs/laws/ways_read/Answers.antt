use Rattle.way_check.proofs.WayLemmas.{ways_make_lem}
use Rattle.way_check.proofs.ReadLemmas.{ways_grow_lem, ways_read_lem}
use Rattle.way_check.proofs.laws.ways_read.Goals as goal

pub returns : goal.returns
returns g c = record {
  make = ways_make_lem g.K.RecKind.form g.met.K.RecKind.lawful c.args.site.now c.args.frame.now;
  read = ways_read_lem g.K.RecKind.form g.met.K.RecKind.lawful c.args.site.now c.args.frame.now;
  grow = ways_grow_lem g.K.RecKind.form g.met.K.RecKind.lawful c.args.site.now c.args.frame.now;
}

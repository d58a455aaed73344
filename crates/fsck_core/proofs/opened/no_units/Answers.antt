use Rattle.std.proofs.Common.{None}
use Rattle.fsck_core.proofs.OpenLemmas.{one_longer, one_none_more}
use Rattle.fsck_core.proofs.opened.no_units.Goals as goal

pub loop-g-preserved : goal.loop-g-preserved
loop-g-preserved c = record {
  all = one_longer c.loop-g.units.items c.put_none.new.units.items None c.loop-g._g c.in_ok-put_none.ensures.put c.loop-g.invariant.all;
  none = one_none_more c.loop-g.units.items c.put_none.new.units.items c.in_ok-put_none.ensures.put c.loop-g.invariant.none;
}

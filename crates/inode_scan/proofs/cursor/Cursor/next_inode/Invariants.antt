use Rattle.std.proofs.Common.{◌≡◌, ◌+◌, length, Some}
use Rattle.blk_cache.specs.Cache.{AgreesTold}
use Rattle.blk_device.specs.Contents.{Contents}
use Rattle.blk_device.specs.Reading.{OnlyRead}
use Rattle.blk_device.specs.declared.device.Region.TheVariants.{Image}
use Rattle.geom.specs.Places.{layout}
use Rattle.inode_scan.specs.Cursor.{next_in_trees, reads_in_trees, AllInoTrees}
use Rattle.inode_scan.proofs.cursor.Cursor.next_inode.Given as goal

abbrev pub invariant-loop-tree : goal.invariant-loop-tree
invariant-loop-tree g l = record {
  goes_on : (c : Contents) → g.D.Device.content l.fn.dev ≡ Some c → next_in_trees (layout l.geo) (c Image) l.at l.rest ≡ next_in_trees (layout l.geo) (c Image) l.at l.trees;
  counted : (c : Contents) → g.D.Device.content l.fn.dev ≡ Some c → l.steps.reads + reads_in_trees (layout l.geo) (c Image) l.at l.rest ≡ l.fn.steps.reads + reads_in_trees (layout l.geo) (c Image) l.at l.trees;
  trees : AllInoTrees l.geo.agcount l.rest;
  reading : OnlyRead g.D.Device l.fn.dev l.dev l.fn.steps l.steps;
  calm : g.D.Device.faults l.dev ≡ g.D.Device.faults l.fn.dev;
  agrees : AgreesTold l.cache (g.D.Device.content l.dev);
}

abbrev pub decreases-loop-tree : goal.decreases-loop-tree
decreases-loop-tree g l = length l.rest

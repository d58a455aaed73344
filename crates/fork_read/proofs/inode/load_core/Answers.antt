use Rattle.std.proofs.Common.{◌/◌, ◌∙◌, sym, arith}
use Rattle.geom.specs.Layout.{split_of}
use Rattle.geom.specs.Places.{layout}
use Rattle.geom.proofs.ApartLemmas.{lies_inside}
use Rattle.fork_read.proofs.PieceLemmas.{caches_inode}
use Rattle.fork_read.proofs.inode.load_core.Goals as goal

pub load-requires-clause-inside : goal.load-requires-clause-inside
load-requires-clause-inside g c =
    let place = c.in-Some.ensures.place in
    let inside = lies_inside (layout c.args.geo.now) c.args.geo.now.fitting c.in-Some.place.0 c.in-Some.place.1 place.group place.block in
    omega (arith, inside, c.device_block-at.ensures, c.requires.room)

pub returns-in_err-block-clause-cached : goal.returns-in_err-block-clause-cached
returns-in_err-block-clause-cached g c = caches_inode (layout c.args.geo.now) (split_of (layout c.args.geo.now) (c.args.ino / 8)) c.in-Some.place c.device_block-at.result c.args.cache.now c.load.new.cache (sym c.split_fs_block.ensures.exact ∙ c.in-Some.is) c.device_block-at.ensures c.load.ensures.cached

pub returns-clause-cached : goal.returns-clause-cached
returns-clause-cached g c = caches_inode (layout c.args.geo.now) (split_of (layout c.args.geo.now) (c.args.ino / 8)) c.in-Some.place c.device_block-at.result c.args.cache.now c.load.new.cache (sym c.split_fs_block.ensures.exact ∙ c.in-Some.is) c.device_block-at.ensures c.load.ensures.cached

pub returns-in_err-core_in-clause-cached : goal.returns-in_err-core_in-clause-cached
returns-in_err-core_in-clause-cached g c = caches_inode (layout c.args.geo.now) (split_of (layout c.args.geo.now) (c.args.ino / 8)) c.in-Some.place c.device_block-at.result c.args.cache.now c.load.new.cache (sym c.split_fs_block.ensures.exact ∙ c.in-Some.is) c.device_block-at.ensures c.load.ensures.cached

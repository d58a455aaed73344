use Rattle.geom.specs.Places.{layout}
use Rattle.unit_plan.specs.Sets.{pieces_of}
use Rattle.group_trees.proofs.MetadataLemmas.{overlap_all, some_blocks}
use Rattle.group_trees.proofs.overlap.metadata_overlap.Goals as goal

pub returns : goal.returns
returns c =
    overlap_all (layout c.args.geo.now) c.args.g c.args.list.now c.args.trees.now c.args.chunks.now (pieces_of c.new-set.result) (pieces_of c.put_metadata.new.set) c.first_overlap.result
    c.args.geo.now.log_inside c.requires.list c.requires.trees c.requires.chunks c.new-set.ensures c.in_ok-put_metadata.ensures (some_blocks (layout c.args.geo.now) c.args.g c.args.geo.now.fitting) c.first_overlap.ensures.exact

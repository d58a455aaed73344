use Rattle.geom.specs.Places.{layout}
use Rattle.image_check.proofs.MapLemmas.{are_inside, are_small}
use Rattle.image_check.proofs.mappings.judge_unit.Goals as goal

pub judge_mappings-requires-clause-chunks : goal.judge_mappings-requires-clause-chunks
judge_mappings-requires-clause-chunks g c = are_inside (layout c.args.geo.now) c.args.g c.args.chunks.now c.requires.chunks

pub judge_mappings-requires-clause-small : goal.judge_mappings-requires-clause-small
judge_mappings-requires-clause-small g c = are_small (layout c.args.geo.now) c.args.g c.args.chunks.now c.args.geo.now.fitting c.requires.chunks

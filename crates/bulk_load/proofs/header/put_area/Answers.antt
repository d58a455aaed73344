use Rattle.std.proofs.Common.{◌∙◌}
use Rattle.bulk_load.proofs.HeaderLemmas.{area_put}
use Rattle.bulk_load.proofs.header.put_area.Goals as goal

pub returns : goal.returns
returns c = c.put_part.ensures ∙ area_put c.args.bytes.now c.args.area.now c.requires.area

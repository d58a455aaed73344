use Rattle.std.proofs.Common.{true}
use Rattle.tree_cover.proofs.TopLemmas.{none_there}
use Rattle.tree_cover.proofs.top.refuse_levels.Goals as goal

pub unreachable-requires : goal.unreachable-requires
unreachable-requires g c = none_there g.K.RecKind.form c.args.site.now true c.args.root c.in-Ok._block.bytes c.in-Ok.ensures.passes

use Rattle.std.proofs.Common.{◌∙◌}
use Rattle.defer_chain.proofs.ChainLemmas.{rmap_left}
use Rattle.defer_chain.proofs.chain.Chain.finish_rmap.Goals as goal

pub change-requires : goal.change-requires
change-requires c = (rmap_left c.args.self.now.free c.args.self.now.steps c.args.self.now.done c.args.self.now.end c.args.self.now.long c.args.self.now.fits c.requires).fits

pub returns : goal.returns
returns c =
    let left = rmap_left c.args.self.now.free c.args.self.now.steps c.args.self.now.done c.args.self.now.end c.args.self.now.long c.args.self.now.fits c.requires in
    record { owes = c.change.ensures.owes ∙ left.owes; writer = c.change.ensures.writer; first = c.change.ensures.first; second = c.change.ensures.second }

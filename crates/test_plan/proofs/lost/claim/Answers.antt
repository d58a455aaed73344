use Rattle.unit_plan.specs.Sets.{pieces_of}
use Rattle.test_plan.proofs.LostRows.{lies_after}
use Rattle.test_plan.proofs.lost.claim.Goals as goal

pub returns : goal.returns
returns c = record {
  below = lies_after c.put.result 32 (pieces_of c.args.set.now) (pieces_of c.put.new.self) (record { claim = c.args.claim; run = record { start = c.args.start; count = c.args.count }; owner = 0xffff_ffff_ffff_fffb; word = 0 }) c.requires.below c.requires.within c.put.ensures.added;
}

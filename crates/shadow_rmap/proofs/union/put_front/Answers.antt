use Rattle.std.proofs.Common.{arith}
use Rattle.run_edits.proofs.RoomLemmas.{front_room}
use Rattle.rmap_recs.proofs.EndLemmas.{some_blocks}
use Rattle.shadow_rmap.proofs.union.put_front.Goals as goal

pub put-requires-clause-run : goal.put-requires-clause-run
put-requires-clause-run c = rw c.front_of.ensures (front_room c.args.whole.now c.args.rec.now c.requires.whole (some_blocks c.args.rec.now c.requires.rec.0) c.requires.held (search arith))

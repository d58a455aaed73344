use Rattle.std.proofs.Common.{◌∷◌, [], arith, refl}
use Rattle.run_edits.proofs.RoomLemmas.{back_room}
use Rattle.rmap_recs.proofs.EndLemmas.{some_blocks}
use Rattle.shadow_rmap.proofs.UnionLemmas.{holder_of}
use Rattle.shadow_rmap.proofs.union.put_back.Goals as goal

pub back_of-requires-clause-held : goal.back_of-requires-clause-held
back_of-requires-clause-held c = holder_of c.args.whole.now c.args.rec.now c.requires.whole c.requires.held

pub put-requires-clause-run : goal.put-requires-clause-run
put-requires-clause-run c = rw c.back_of.ensures (back_room c.args.whole.now c.args.rec.now c.requires.whole (some_blocks c.args.rec.now c.requires.rec.0) c.requires.held (search arith))

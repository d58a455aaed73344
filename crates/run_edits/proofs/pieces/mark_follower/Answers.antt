use Rattle.std.proofs.Common.{true, refl, slice_set}
use Rattle.run_edits.proofs.PieceLemmas.{marked}
use Rattle.run_edits.proofs.pieces.mark_follower.Goals as goal

pub returns-in-Some-clause-exact : goal.returns-in-Some-clause-exact
returns-in-Some-clause-exact c =
    marked c.args.pieces.now c.requires.sorted c.args.piece.now c.args.marks.now.items (slice_set c.args.marks.now.items c.in-Some.place true) c.in-Some.place c.requires.all c.in-Some.ensures.found.0 c.in-Some.ensures.found.1 refl

use Rattle.std.proofs.Common.{arith}
use Rattle.core_chains.proofs.steps.RunLemmas.{room_fork, room_plain}
use Rattle.core_chains.proofs.steps.runs.has_room.Goals as goal

pub returns-then-not-is_fork_data : goal.returns-then-not-is_fork_data
returns-then-not-is_fork_data c plain =
    room_plain c.args.rec.now (omega (arith, c.if-rec-eq0.false)) (omega (arith, c.if-end-ge-MOST_END.false, c.from.ensures, c.from-2.ensures)) c.is_fork_data.result c.is_fork_data.ensures plain

pub returns-else-not-is_fork_data : goal.returns-else-not-is_fork_data
returns-else-not-is_fork_data c fits =
    room_fork c.args.rec.now (omega (arith, c.if-rec-eq0.false)) (omega (arith, c.if-end-ge-MOST_END.false, c.from.ensures, c.from-2.ensures)) c.from-else-not-is_fork_data.result c.from-else-not-is_fork_data.ensures fits

use Rattle.std.proofs.Common.{◌+◌, arith}
use Rattle.place_apply.proofs.FitLemmas.{blank_count, room_for_two}
use Rattle.place_apply.proofs.edits.grow.Goals as goal

pub node_items-requires-clause-room : goal.node_items-requires-clause-room
node_items-requires-clause-room g c = omega (arith, blank_count c.zeroed.result.bytes c.zeroed.ensures)

pub put_piece-requires-clause-room : goal.put_piece-requires-clause-room
put_piece-requires-clause-room g c = omega (arith, c.in_ok-items.ensures.count, blank_count c.zeroed.result.bytes c.zeroed.ensures, room_for_two g.K.RecKind.form.kind (c.args.level + 1))

use Rattle.fsck_core.proofs.MoveLemmas.{any_err, done_may, gather_may, moved_may, moves_in, named_early, named_same, named_work, piece_may, reap_knows, reserve_knows, switch_knows, told_knows}
use Rattle.fsck_core.proofs.SayLemmas.{done_says, in_event, moved_says, piece_says}
use Rattle.fsck_core.proofs.events.run.Goals as goal
use Rattle.fsck_core.specs.declared.events.Event.TheVariants as events

pub returns-in-Advance-clause-says : goal.returns-in-Advance-clause-says
returns-in-Advance-clause-says g c =
    in_event c.args.event events.Advance c.args.unit.now c.advance.new.unit c.args.kept.now c.advance.new.kept c.args.desk.now c.advance.new.desk c.tell_moved.result c.in-Advance.is
    (moved_says c.args.desk.now c.advance.new.desk c.args.unit.now.group c.args.unit.now.unit c.advance.result c.tell_moved.result c.tell_moved.ensures c.advance.ensures.entries)

pub returns-in-Scan-clause-says : goal.returns-in-Scan-clause-says
returns-in-Scan-clause-says g c =
    in_event c.args.event events.Scan c.args.unit.now c.scan_piece.new.unit c.args.kept.now c.scan_piece.new.kept c.args.desk.now c.scan_piece.new.desk c.tell_piece.result c.in-Scan.is
    (piece_says c.args.desk.now c.scan_piece.new.desk c.args.unit.now.group c.args.unit.now.unit c.scan_piece.result c.tell_piece.result c.tell_piece.ensures c.scan_piece.ensures.entries)

pub returns-in-Close-clause-says : goal.returns-in-Close-clause-says
returns-in-Close-clause-says g c =
    in_event c.args.event events.Close c.args.unit.now c.close.new.unit c.args.kept.now c.close.new.kept c.args.desk.now c.close.new.desk c.tell_done.result c.in-Close.is
    (done_says c.args.desk.now c.close.new.desk c.args.unit.now.group c.args.unit.now.unit c.close.result c.tell_done.result c.tell_done.ensures c.close.ensures.entries)

pub returns-in-Gather-clause-says : goal.returns-in-Gather-clause-says
returns-in-Gather-clause-says g c =
    in_event c.args.event events.Gather c.args.unit.now c.gather_piece.new.unit c.args.kept.now c.gather_piece.new.kept c.args.desk.now c.gather_piece.new.desk c.tell_piece-in-Gather.result c.in-Gather.is
    (piece_says c.args.desk.now c.gather_piece.new.desk c.args.unit.now.group c.args.unit.now.unit c.gather_piece.result c.tell_piece-in-Gather.result c.tell_piece-in-Gather.ensures c.gather_piece.ensures.entries)

pub returns-in-Compare-clause-says : goal.returns-in-Compare-clause-says
returns-in-Compare-clause-says g c =
    in_event c.args.event events.Compare c.args.unit.now c.compare_piece.new.unit c.args.kept.now c.compare_piece.new.kept c.args.desk.now c.compare_piece.new.desk c.tell_piece-in-Compare.result c.in-Compare.is
    (c.compare_piece.result, c.tell_piece-in-Compare.ensures, record { tells = c.compare_piece.ensures.tells; unsaid = c.compare_piece.ensures.items })

pub returns-in-Reserve-clause-says : goal.returns-in-Reserve-clause-says
returns-in-Reserve-clause-says g c =
    in_event c.args.event events.Reserve c.args.unit.now c.reserve_piece.new.unit c.args.kept.now c.reserve_piece.new.kept c.args.desk.now c.reserve_piece.new.desk c.tell_piece-in-Reserve.result c.in-Reserve.is
    (c.reserve_piece.result, c.tell_piece-in-Reserve.ensures, c.reserve_piece.ensures.says)

pub returns-in-Stage-clause-says : goal.returns-in-Stage-clause-says
returns-in-Stage-clause-says g c =
    in_event c.args.event events.Stage c.args.unit.now c.stage_piece.new.unit c.args.kept.now c.stage_piece.new.kept c.args.desk.now c.stage_piece.new.desk c.tell_piece-in-Stage.result c.in-Stage.is
    c.stage_piece.ensures.items

pub returns-in-Switch-clause-says : goal.returns-in-Switch-clause-says
returns-in-Switch-clause-says g c =
    in_event c.args.event events.Switch c.args.unit.now c.switch.new.unit c.args.kept.now c.switch.new.kept c.args.desk.now c.switch.new.desk c.tell_done-in-Switch.result c.in-Switch.is
    (c.switch.result, c.tell_done-in-Switch.ensures, record { switched = c.switch.ensures.switched; unsaid = c.switch.ensures.unsaid })

pub returns-in-Reap-clause-says : goal.returns-in-Reap-clause-says
returns-in-Reap-clause-says g c =
    in_event c.args.event events.Reap c.args.unit.now c.reap.new.unit c.args.kept.now c.reap.new.kept c.args.desk.now c.reap.new.desk c.tell_piece-in-Reap.result c.in-Reap.is
    (c.reap.result, c.tell_piece-in-Reap.ensures, c.reap.ensures.says)

pub returns-in-Advance-clause-moves : goal.returns-in-Advance-clause-moves
returns-in-Advance-clause-moves g c =
    moves_in c.args.event events.Advance c.args.unit.now c.advance.new.unit c.args.kept.now c.advance.new.kept c.args.desk.now c.advance.new.desk c.tell_moved.result c.in-Advance.is (record {
      named = named_early c.args.unit.now c.advance.new.unit c.advance.ensures.rest;
      known = told_knows c.args.desk.now c.advance.new.desk c.args.unit.now.group c.args.unit.now.unit c.tell_moved.result c.args.kept.now c.advance.new.kept
          (moved_says c.args.desk.now c.advance.new.desk c.args.unit.now.group c.args.unit.now.unit c.advance.result c.tell_moved.result c.tell_moved.ensures c.advance.ensures.entries) c.advance.ensures.group;
      may = moved_may events.Advance c.args.unit.now.turns c.advance.result c.tell_moved.result c.tell_moved.ensures c.advance.ensures.may;
    })

pub returns-in-Scan-clause-moves : goal.returns-in-Scan-clause-moves
returns-in-Scan-clause-moves g c =
    moves_in c.args.event events.Scan c.args.unit.now c.scan_piece.new.unit c.args.kept.now c.scan_piece.new.kept c.args.desk.now c.scan_piece.new.desk c.tell_piece.result c.in-Scan.is (record {
      named = named_early c.args.unit.now c.scan_piece.new.unit c.scan_piece.ensures.rest;
      known = told_knows c.args.desk.now c.scan_piece.new.desk c.args.unit.now.group c.args.unit.now.unit c.tell_piece.result c.args.kept.now c.scan_piece.new.kept
          (piece_says c.args.desk.now c.scan_piece.new.desk c.args.unit.now.group c.args.unit.now.unit c.scan_piece.result c.tell_piece.result c.tell_piece.ensures c.scan_piece.ensures.entries) c.scan_piece.ensures.group;
      may = piece_may events.Scan c.args.unit.now.turns c.scan_piece.result c.tell_piece.result c.tell_piece.ensures c.scan_piece.ensures.may;
    })

pub returns-in-Close-clause-moves : goal.returns-in-Close-clause-moves
returns-in-Close-clause-moves g c =
    moves_in c.args.event events.Close c.args.unit.now c.close.new.unit c.args.kept.now c.close.new.kept c.args.desk.now c.close.new.desk c.tell_done.result c.in-Close.is (record {
      named = named_early c.args.unit.now c.close.new.unit c.close.ensures.rest;
      known = told_knows c.args.desk.now c.close.new.desk c.args.unit.now.group c.args.unit.now.unit c.tell_done.result c.args.kept.now c.close.new.kept
          (done_says c.args.desk.now c.close.new.desk c.args.unit.now.group c.args.unit.now.unit c.close.result c.tell_done.result c.tell_done.ensures c.close.ensures.entries) c.close.ensures.group;
      may = done_may events.Close c.args.unit.now.turns c.close.result c.tell_done.result c.tell_done.ensures c.close.ensures.may;
    })

pub returns-in-Gather-clause-moves : goal.returns-in-Gather-clause-moves
returns-in-Gather-clause-moves g c =
    moves_in c.args.event events.Gather c.args.unit.now c.gather_piece.new.unit c.args.kept.now c.gather_piece.new.kept c.args.desk.now c.gather_piece.new.desk c.tell_piece-in-Gather.result c.in-Gather.is (record {
      named = named_work c.args.unit.now c.gather_piece.new.unit c.gather_piece.ensures.rest;
      known = told_knows c.args.desk.now c.gather_piece.new.desk c.args.unit.now.group c.args.unit.now.unit c.tell_piece-in-Gather.result c.args.kept.now c.gather_piece.new.kept
          (piece_says c.args.desk.now c.gather_piece.new.desk c.args.unit.now.group c.args.unit.now.unit c.gather_piece.result c.tell_piece-in-Gather.result c.tell_piece-in-Gather.ensures c.gather_piece.ensures.entries) c.gather_piece.ensures.kept;
      may = piece_may events.Gather c.args.unit.now.turns c.gather_piece.result c.tell_piece-in-Gather.result c.tell_piece-in-Gather.ensures (gather_may c.gather_piece.result c.args.unit.now.work c.gather_piece.new.unit.work c.gather_piece.ensures.gives c.gather_piece.ensures.stands);
    })

pub returns-in-Reserve-clause-moves : goal.returns-in-Reserve-clause-moves
returns-in-Reserve-clause-moves g c =
    moves_in c.args.event events.Reserve c.args.unit.now c.reserve_piece.new.unit c.args.kept.now c.reserve_piece.new.kept c.args.desk.now c.reserve_piece.new.desk c.tell_piece-in-Reserve.result c.in-Reserve.is (record {
      named = named_work c.args.unit.now c.reserve_piece.new.unit c.reserve_piece.ensures.rest;
      known = reserve_knows c.args.unit.now.group c.args.unit.now.unit c.args.unit.now.work c.reserve_piece.new.unit.work c.args.kept.now c.reserve_piece.new.kept c.args.desk.now c.reserve_piece.new.desk c.reserve_piece.result
          c.reserve_piece.ensures.says c.reserve_piece.ensures.trust c.reserve_piece.ensures.passed;
      may = piece_may events.Reserve c.args.unit.now.turns c.reserve_piece.result c.tell_piece-in-Reserve.result c.tell_piece-in-Reserve.ensures c.reserve_piece.ensures.gives;
    })

pub returns-in-Switch-clause-moves : goal.returns-in-Switch-clause-moves
returns-in-Switch-clause-moves g c =
    moves_in c.args.event events.Switch c.args.unit.now c.switch.new.unit c.args.kept.now c.switch.new.kept c.args.desk.now c.switch.new.desk c.tell_done-in-Switch.result c.in-Switch.is (record {
      named = tt;
      known = switch_knows c.args.unit.now c.args.kept.now c.switch.new.kept c.args.desk.now c.switch.new.desk c.switch.result c.switch.ensures.switched c.switch.ensures.kept_stays c.switch.ensures.unsaid;
      may = done_may events.Switch c.args.unit.now.turns c.switch.result c.tell_done-in-Switch.result c.tell_done-in-Switch.ensures (any_err c.switch.result);
    })

pub returns-in-Reap-clause-moves : goal.returns-in-Reap-clause-moves
returns-in-Reap-clause-moves g c =
    moves_in c.args.event events.Reap c.args.unit.now c.reap.new.unit c.args.kept.now c.reap.new.kept c.args.desk.now c.reap.new.desk c.tell_piece-in-Reap.result c.in-Reap.is (record {
      named = named_same c.args.unit.now c.reap.new.unit c.reap.ensures.unit;
      known = reap_knows c.args.unit.now.group c.args.kept.now c.reap.new.kept c.args.desk.now c.reap.new.desk c.reap.result c.tell_piece-in-Reap.result c.tell_piece-in-Reap.ensures c.reap.ensures.says c.reap.ensures.passed;
      may = piece_may events.Reap c.args.unit.now.turns c.reap.result c.tell_piece-in-Reap.result c.tell_piece-in-Reap.ensures (any_err c.reap.result);
    })

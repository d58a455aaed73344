use Rattle.std.proofs.Common.{◌≡◌, true}
use Rattle.core_switch.proofs.CallLemmas.{synced_still}
use Rattle.core_switch.proofs.SayLemmas.{released_says}
use Rattle.core_switch.specs.Says.{released_by}
use Rattle.core_switch.specs.Synced.{is_unsynced}
use Rattle.core_switch.proofs.reopens.reopen.Goals as goal

pub returns-clause-says : goal.returns-clause-says
returns-clause-says g c = released_says c.args.desk.now c.sync_staged.new.desk c.release_unit-had_room.new.desk c.open_gate.new.desk (released_by c.args.unit) c.release_unit-had_room.result c.open_gate.result c.sync_staged.ensures.items c.release_unit-had_room.ensures.said c.release_unit-had_room.ensures.unsaid c.open_gate.ensures.items c.open_gate.ensures.room c.open_gate.ensures.lack

pub returns-clause-durable : goal.returns-clause-durable
returns-clause-durable g c =
    synced_still g.D.Device (is_unsynced c.args.unit.work ≡ true) c.sync_staged.new.desk.store c.release_unit-had_room.new.desk.store c.open_gate.new.desk.store c.open_gate.result c.release_unit-had_room.ensures.store c.open_gate.ensures.store c.in_ok-sync_staged.ensures.durable

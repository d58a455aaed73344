use Rattle.std.proofs.Common.{◌≡◌, ◌∙◌, ap, subst, Option, OnOk}
use Rattle.blk_device.proofs.Told.{map_twice}
use Rattle.blk_device.specs.Contents.{Contents, map_told, put}
use Rattle.blk_device.specs.declared.device.Region.TheVariants.{Redo}
use Rattle.redo_area.specs.Area.{gate_bytes, put_waiting}
use Rattle.redo_area.specs.Table.{table_numbers}
use Rattle.redo_area.proofs.ToldLemmas.{told_on}
use Rattle.redo_area.proofs.recovery.finish.Goals as goal

pub returns-clause-written : goal.returns-clause-written
returns-clause-written g c =
    let d = g.D.Device in
    let closes = put Redo 0 (gate_bytes 0) in
    let writes = put_waiting (table_numbers c.args.table.now.bytes) 2 in
    let told = d.content c.args.dev.now in
    subst (λ (o : Option Contents). OnOk c.close_gate.result (d.content c.close_gate.new.dev ≡ o)) (ap (map_told closes) c.in_ok-install_waiting.ensures.written ∙ map_twice closes writes told) c.close_gate.ensures.written

pub returns-clause-told : goal.returns-clause-told
returns-clause-told g c =
    let d = g.D.Device in
    told_on (d.content c.args.dev.now) (d.content c.install_waiting.new.dev) (d.content c.close_gate.new.dev) c.install_waiting.ensures.told c.close_gate.ensures.told

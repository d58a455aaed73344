-- Which refusals are the device's?
use Rattle.std.specs.Prelude.{Bool, true, false}
use Rattle.redo_area.specs.declared.faults.RedoFault.{RedoFault}
use Rattle.redo_area.specs.declared.faults.RedoFault.TheVariants as redos
use Rattle.repair_door.specs.declared.no_entry.NoEntry.{NoEntry}
use Rattle.repair_door.specs.declared.no_entry.NoEntry.TheVariants as entries

abbrev pub is_failed : NoEntry → Bool
is_failed entries.Short = false
is_failed entries.Count = false
is_failed entries.Size = false
is_failed entries.Place = false
is_failed (entries.Image fault) = false
is_failed (entries.Head group head fault) = false
is_failed entries.Failed = true
is_failed entries.Memory = false

abbrev pub is_failed_redo : RedoFault → Bool
is_failed_redo redos.Short = false
is_failed_redo redos.Count = false
is_failed_redo redos.Size = false
is_failed_redo redos.Place = false
is_failed_redo redos.Failed = true

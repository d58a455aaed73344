-- Which faults of a redo region are the device's.
use Rattle.std.proofs.Common.{◌≡◌, ℕ, Bool, Result, Err, refl}
use Rattle.blk_device.specs.Causes.{MovesOnly}
use Rattle.redo_area.specs.Recover.{TellsFailed}
use Rattle.redo_area.specs.declared.faults.RedoFault.{RedoFault}
use Rattle.redo_area.specs.declared.faults.RedoFault.TheVariants.{Short, Count, Size, Place, Failed}
use Rattle.repair_door.specs.Causes.{is_failed_redo}

abbrev answer : RedoFault → Result Bool RedoFault
answer fault = Err fault

short_apart : answer Short ≡ answer Failed → ⊥
short_apart e = cc

count_apart : answer Count ≡ answer Failed → ⊥
count_apart e = cc

size_apart : answer Size ≡ answer Failed → ⊥
size_apart e = cc

place_apart : answer Place ≡ answer Failed → ⊥
place_apart e = cc

pub moves_by : (before now : ℕ) (fault : RedoFault) → TellsFailed {T = Bool} before now (Err fault) → MovesOnly (is_failed_redo fault) before now
moves_by before now Short tells = tells.calm short_apart
moves_by before now Count tells = tells.calm count_apart
moves_by before now Size tells = tells.calm size_apart
moves_by before now Place tells = tells.calm place_apart
moves_by before now Failed tells = (tells.later, tells.failed refl)

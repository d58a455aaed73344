use Rattle.std.proofs.Common.{◌≡◌, take, true}
use Rattle.std.specs.List.{list_all}
use Rattle.quiet_repair.specs.Sound.{is_good_entry}
use Rattle.quiet_repair.proofs.sound.are_all_good.Given as goal

abbrev pub invariant-loop-entry : goal.invariant-loop-entry
invariant-loop-entry l = list_all is_good_entry (take l.entry-index l.journal) ≡ true

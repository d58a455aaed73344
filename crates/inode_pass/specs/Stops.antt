-- Which stops of a pass are the device's.
use Rattle.std.specs.Prelude.{Bool, true, false}
use Rattle.inode_pass.specs.declared.stop.PassStop.{PassStop}
use Rattle.inode_pass.specs.declared.stop.PassStop.TheVariants.{Failed, Memory}

abbrev pub is_failed : PassStop → Bool
is_failed Failed = true
is_failed Memory = false

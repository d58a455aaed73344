use Rattle.std.proofs.Common.{refl}
use Rattle.blk_device.proofs.file.FileDeviceDevice.write.Goals as goal

pub returns-clause-crash : goal.returns-clause-crash
returns-clause-crash g c = λ left any. (left, tt, λ s b out. refl)

use Rattle.std.proofs.Common.{refl}
use Rattle.blk_device.proofs.file.FileDeviceDevice.sync.Goals as goal

pub returns-clause-other : goal.returns-clause-other
returns-clause-other g c = λ left any. (left, tt, λ s off b. refl)

-- What a fuse tells beside what each device tells.
use Rattle.std.specs.Prelude.{◌≡◌, ◌<◌, ◌-◌, ◌⊎◌, ℕ}
use Rattle.blk_device.specs.Contents.{Contents}
use Rattle.blk_device.specs.Crash.{Elapses}
use Rattle.blk_device.specs.Memory.{AskedOnce, FailsNext, calls_asked}
use Rattle.blk_device.specs.Recorded.{left_now, left_since, moment}
use Rattle.blk_device.specs.declared.fuse.FuseDevice.{FuseDevice}
use Rattle.blk_device.specs.declared.memory.MemDevice.{MemDevice}

-- how many reads, writes and syncs it still passes on
abbrev pub calls_left : FuseDevice → ℕ
calls_left d = d.left

-- the device behind it
abbrev pub behind : FuseDevice → MemDevice
behind d = d.inner

-- what a crash now may leave of the device behind it
abbrev pub left_behind : FuseDevice → Contents → Type 0
left_behind d = left_now (behind d).log

-- time goes on at the device behind it
abbrev pub ElapsesBehind : FuseDevice → FuseDevice → Type 0
ElapsesBehind old new =
    Elapses (moment (behind old).log) (moment (behind new).log) (left_since (behind old).log) (left_since (behind new).log) (left_behind new)

-- the next read, write or sync finds none left to pass on, or is one of those that the device behind fails
abbrev pub FailsSoon : FuseDevice → Type 0
FailsSoon d = (calls_left d ≡ 0) ⊎ FailsNext (behind d)

-- one call fewer is left to pass on, and the device behind was asked exactly where one was left
pub record PassesOne (old new : FuseDevice) : Type 0 where
  pub fewer : calls_left new ≡ calls_left old - 1
  pub passed : 0 < calls_left old → AskedOnce (behind old) (behind new)
  pub spent : calls_left old ≡ 0 → calls_asked (behind new) ≡ calls_asked (behind old)

-- That numbers lead back to blocks, and that the blocks of groups lie apart on the device.
use Rattle.std.specs.Prelude.{◌≡◌, ◌<◌, ℕ, Some}
use Rattle.geom.specs.Layout.{Layout, device_block_of, fs_block_of, group_len_of, split_of}
use Rattle.geom.specs.Numbers.{Fitting}

-- the groups have lengths that this program knows
abbrev pub HasFitting : Layout → Type 0
HasFitting at = Fitting at.agblocks at.agcount at.dblocks at.agblklog

-- a block's number gives its place back
abbrev pub Splits : Layout → Type 0
Splits at = (g b : ℕ) → g < at.agcount → b < group_len_of at g → split_of at (fs_block_of at g b) ≡ Some (g, b)

-- blocks of different groups are different blocks of the device
abbrev pub GroupsDiffer : Layout → Type 0
GroupsDiffer at = (g h p q : ℕ) → p < group_len_of at g → q < group_len_of at h → device_block_of at g p ≡ device_block_of at h q → g ≡ h

-- so are two blocks of one group
abbrev pub BlocksDiffer : Layout → Type 0
BlocksDiffer at = (g p q : ℕ) → device_block_of at g p ≡ device_block_of at g q → p ≡ q

-- each block of a group is one of the image
abbrev pub LiesInside : Layout → Type 0
LiesInside at = (g b : ℕ) → g < at.agcount → b < group_len_of at g → device_block_of at g b < at.dblocks

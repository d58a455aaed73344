-- What a batch that is written whole makes of an image.
use Rattle.std.specs.Prelude.{◌≡◌}
use Rattle.blk_device.specs.Contents.{Contents}
use Rattle.blk_device.specs.declared.device.Region.TheVariants.{Image}
use Rattle.redo_area.specs.Area.{Batch, with_batch}

-- the image is as it was
abbrev pub SameImage : Contents → Contents → Type 0
SameImage m n = n Image ≡ m Image

-- the image is as it was, with a batch
abbrev pub HoldsBatch : Batch → Contents → Contents → Type 0
HoldsBatch batch m n = n Image ≡ with_batch batch (m Image)

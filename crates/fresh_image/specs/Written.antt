-- A new image on a device.
use Rattle.std.specs.Prelude.{◌≡◌, ⊤, ℕ, zero, suc, ◌*◌, ◌<◌, ◌≤◌, List}
use Rattle.blk_device.specs.Contents.{Contents, put}
use Rattle.blk_device.specs.declared.device.Region.{Region}
use Rattle.blk_device.specs.declared.device.Region.TheVariants.{Image, Redo}
use Rattle.fresh_image.specs.Fresh.{fresh}

-- contents whose image has the first k blocks of a new one
abbrev pub put_fresh : ℕ → ℕ → ℕ → Contents → Contents
put_fresh n len zero c = c
put_fresh n len (suc k) c = put Image k (fresh n len k) (put_fresh n len k c)

-- the blocks of a device that aren't of the new image
abbrev pub AllButFresh : ℕ → ℕ → Region → ℕ → Type 0
AllButFresh n len Image b = n * len ≤ b
AllButFresh n len Redo b = ⊤

-- these are as they were
abbrev pub OthersStay : ℕ → ℕ → Contents → Contents → Type 0
OthersStay n len old new = (r : Region) (b : ℕ) → AllButFresh n len r b → new r b ≡ old r b

-- the image is a new one, and all others are as they were
pub record BecomesFresh (n len : ℕ) (old new : Contents) : Type 0 where
  pub image : (b : ℕ) → b < n * len → new Image b ≡ fresh n len b
  pub others : OthersStay n len old new

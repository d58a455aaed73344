-- Reads of files, one after the other.
use Rattle.std.proofs.Common.{◌≡◌, ◌<◌, ◌≤◌, ◌+◌, ◌∙◌, ℕ, Bool, true, false, Result, Ok, Err, refl, sym, arith}
use Rattle.std.proofs.lemmas.Bool.{false≢true}
use Rattle.blk_cache.specs.Cache.{AgreesTold}
use Rattle.blk_cache.specs.declared.cache.BlkCache.{BlkCache}
use Rattle.blk_device.specs.Causes.{HasCause, MovesOnly, Rose, any_error, one_more}
use Rattle.blk_device.specs.declared.device.Device.{Ghosts}
use Rattle.blk_device.specs.declared.device.Region.TheVariants.{Image}
use Rattle.byte_fields.specs.Steps.{StepCount}
use Rattle.blk_device.specs.Reading.{OnlyRead}
use Rattle.geom.proofs.ApartLemmas.{lies_inside}
use Rattle.geom.specs.Places.{HasBlock, device_block, layout}
use Rattle.geom.specs.declared.geometry.Geometry.{Geometry}
use Rattle.file_cores.specs.Looks.{Looks}

-- a block of a group lies in the image
pub inside_image : (geo : Geometry) (g b size : ℕ) → HasBlock geo g b → geo.dblocks ≤ size → device_block geo g b < size
inside_image geo g b size has room =
    let inside = lies_inside (layout geo) geo.fitting g b has.group has.block in
    omega (arith, inside)

rose_on : (failed : Bool) (old mid new : ℕ) → old ≤ mid → (failed ≡ true → Rose mid new) → failed ≡ true → Rose old new
rose_on failed old mid new later rose told = let r = rose told in grind (arith, later, r)

module _ {D : Type 0} (d : Ghosts D) where
  -- nothing was read
  pub no_look : (dev : D) (cache : BlkCache) → AgreesTold cache (d.content dev) → Looks d false dev dev cache
  no_look dev cache agreed = record { same = refl; sizes = refl; later = omega arith; rose = λ told. absurd (false≢true told); agreed = agreed }

  pub looks_on : (failed : Bool) (old mid new : D) (between cache : BlkCache) → Looks d false old mid between → Looks d failed mid new cache → Looks d failed old new cache
  looks_on failed old mid new between cache a b = record {
    same = b.same ∙ a.same;
    sizes = b.sizes ∙ a.sizes;
    later = omega (arith, a.later, b.later);
    rose = rose_on failed (d.faults old) (d.faults mid) (d.faults new) a.later b.rose;
    agreed = b.agreed;
  }

  -- what comes after is asked of no device
  pub looks_calm : (failed : Bool) (old new : D) (cache : BlkCache) → failed ≡ false → Looks d false old new cache → Looks d failed old new cache
  looks_calm true old new cache calm a = absurd (false≢true (sym calm))
  looks_calm false old new cache calm a = a

  later_if : (t : Bool) (before now : ℕ) → MovesOnly t before now → before ≤ now
  later_if true before now moves = moves.0
  later_if false before now moves = omega (arith, moves)

  rose_if : (t : Bool) (before now : ℕ) → MovesOnly t before now → t ≡ true → Rose before now
  rose_if true before now moves told = moves.1
  rose_if false before now moves told = absurd (false≢true told)

  -- a read of the cache
  pub got_looks : (t : Bool) (old new : D) (cache : BlkCache) → d.content new ≡ d.content old → d.blocks new ≡ d.blocks old → MovesOnly t (d.faults old) (d.faults new) → AgreesTold cache (d.content new) → Looks d t old new cache
  got_looks t old new cache same sizes moves agreed = record {
    same = same;
    sizes = sizes;
    later = later_if t (d.faults old) (d.faults new) moves;
    rose = rose_if t (d.faults old) (d.faults new) moves;
    agreed = agreed;
  }

  -- a search of a btree: it failed by the device, or not
  pub searched_looks : (t failed : Bool) (old new : D) (cache : BlkCache) (before after : StepCount) → failed ≡ t → OnlyRead d old new before after → MovesOnly t (d.faults old) (d.faults new) → AgreesTold cache (d.content new) → Looks d failed old new cache
  searched_looks true true old new cache before after is read moves agreed = got_looks true old new cache read.same read.sizes moves agreed
  searched_looks false false old new cache before after is read moves agreed = got_looks false old new cache read.same read.sizes moves agreed
  searched_looks true false old new cache before after is read moves agreed = absurd (false≢true is)
  searched_looks false true old new cache before after is read moves agreed = absurd (false≢true (sym is))

-- A recovery leaves the gate closed, and a superblock that was read is the one that stands there.
use Rattle.std.specs.Prelude.{if◌then◌else◌}
use Rattle.std.proofs.Common.{◌≡◌, ℕ, List, Option, Some, None, Bool, true, false, IfSome, refl, sym, ◌∙◌, ap, subst}
use Rattle.blk_device.specs.Contents.{Contents, Holds, map_told}
use Rattle.blk_device.specs.declared.device.Region.TheVariants.{Image, Redo}
use Rattle.byte_fields.specs.Zeros.{zeros}
use Rattle.geom.specs.Layout.{layout_of}
use Rattle.geom.specs.Places.{layout}
use Rattle.geom.specs.Superblock.{first_fault}
use Rattle.geom.specs.declared.geometry.Geometry.{Geometry}
use Rattle.redo_area.specs.Area.{after_recovery, gate_bytes, is_open, closed_over}
use Rattle.repair_door.specs.Found.{HasGeometry, IsClosed}

-- the gate's first byte is 0 behind a change that was finished
closed_gate : (table : List ℕ) (m : Contents) → IsClosed (closed_over table m)
unfolding gate_bytes zeros
closed_gate table m = refl

by_gate : (waits : Bool) (m : Contents) → is_open m ≡ waits → IsClosed (after_recovery m)
by_gate true m is = subst (λ (b : Bool). is_open (if b then closed_over (m Redo 1) m else m) ≡ false) (sym is) (closed_gate (m Redo 1) m)
by_gate false m is = subst (λ (b : Bool). is_open (if b then closed_over (m Redo 1) m else m) ≡ false) (sym is) is

pub told_closed : (old : Option Contents) → IfSome (map_told after_recovery old) IsClosed
told_closed None = tt
told_closed (Some m) = by_gate (is_open m) m refl

pub told_geometry : (told : Option Contents) (size n : ℕ) (bytes : List ℕ) (geo : Geometry) → n ≡ size → Holds Image 0 bytes told → first_fault bytes n ≡ None → layout geo ≡ layout_of bytes → IfSome told (HasGeometry size geo)
told_geometry None size n bytes geo same holds good is = tt
told_geometry (Some m) size n bytes geo same holds good is = record {
  superblock = ap (λ (k : ℕ). first_fault (m Image 0) k) (sym same) ∙ (ap (λ (b : List ℕ). first_fault b n) holds ∙ good);
  places = ap layout_of holds ∙ sym is;
}

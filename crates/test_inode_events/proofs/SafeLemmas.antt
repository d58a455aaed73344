-- Parts of a core of which the groups change.
use Rattle.std.proofs.Common.{◌≡◌, ◌∙◌}
use Rattle.std.specs.Global.{Vec}
use Rattle.std.specs.Prelude.{length}
use Rattle.blk_device.specs.declared.device.Device.{Ghosts}
use Rattle.core_parts.specs.Safe.{AreKept, IsSafe}
use Rattle.core_parts.specs.declared.groups.GroupKept.{GroupKept}
use Rattle.core_parts.specs.declared.parts.Parts.{Parts}

module _ {D : Type 0} (d : Ghosts D) where
  pub groups_safe : (p : Parts D) (ks : Vec GroupKept) → AreKept ks.items → length ks.items ≡ length p.groups.items → IsSafe d p → IsSafe d (record p { groups = ks })
  groups_safe p ks kept many s = record {
    desk = s.desk;
    groups = many ∙ s.groups;
    units = s.units;
    works = s.works;
    limbos = kept;
  }

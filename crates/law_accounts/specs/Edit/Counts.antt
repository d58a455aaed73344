-- Reference counts that are what reverse mappings say, where a run with an owner that is no inode comes or goes.
use Rattle.std.specs.Prelude.{◌≡◌, false, List}
use Rattle.derive_defs.specs.Shared.{shared_space}
use Rattle.fs_change.specs.Records.{give_mapping, take_mapping}
use Rattle.rmap_recs.specs.Owners.{is_inode}
use Rattle.rmap_recs.specs.declared.records.RmapRec.{RmapRec}

-- such a run has no block that files share
abbrev pub SharedGiven : Type 0
SharedGiven = (r : RmapRec) (ms : List RmapRec) → is_inode r.owner ≡ false → shared_space (give_mapping r ms) ≡ shared_space ms

abbrev pub SharedTaken : Type 0
SharedTaken = (r : RmapRec) (ms : List RmapRec) → is_inode r.owner ≡ false → shared_space (take_mapping r ms) ≡ shared_space ms

-- Reverse mappings that are the maximal runs of owners, where a run gets an owner or loses it.
use Rattle.std.specs.Prelude.{◌≡◌, true, List}
use Rattle.fs_change.specs.Records.{give_mapping, take_mapping}
use Rattle.rmap_recs.specs.Rmap.{has_end}
use Rattle.rmap_recs.specs.Runs.{AreRuns}
use Rattle.rmap_recs.specs.declared.records.RmapRec.{RmapRec}
use Rattle.rmap_recs.specs.declared.tuples.Tuple.{Tuple}
use Rattle.run_edits.specs.EditLaws.{AreGiven, AreTaken, AreUntied}

-- the run gets an owner that none of its blocks has: the runs of all owners then
abbrev pub MappingGiven : Type 0
MappingGiven = (ts us : List Tuple) (recs : List RmapRec) (r : RmapRec) → has_end r ≡ true → AreUntied us → AreGiven ts us r → AreRuns ts recs → AreRuns us (give_mapping r recs)

-- it loses the owner that all its blocks have
abbrev pub MappingTaken : Type 0
MappingTaken = (ts us : List Tuple) (recs : List RmapRec) (r : RmapRec) → has_end r ≡ true → AreUntied us → AreTaken ts us r → AreRuns ts recs → AreRuns us (take_mapping r recs)

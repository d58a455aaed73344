-- Whether reverse mappings have room.
use Rattle.std.specs.Prelude.{◌+◌, ◌^◌, Bool, ◌&&◌, nat_lt}
use Rattle.rmap_recs.specs.Rmap.{has_end}
use Rattle.rmap_recs.specs.declared.records.RmapRec.{RmapRec}

-- the record's offsets and the block behind it have numbers
abbrev pub has_room : RmapRec → Bool
has_room r = has_end r && nat_lt (r.start + r.count) (2 ^ 32)

-- Records that have room.
use Rattle.std.proofs.Common.{◌≡◌, ◌+◌, ◌^◌, All, List, [], ◌∷◌, true}
use Rattle.std.specs.Prelude.{nat_lt}
use Rattle.std.proofs.lemmas.Bool.{and_parts, ltb-true}
use Rattle.std.proofs.lemmas.List.Elements.{All-cons, All-nil}
use Rattle.rmap_recs.specs.Rmap.{has_end}
use Rattle.rmap_recs.specs.declared.records.RmapRec.{RmapRec}
use Rattle.run_edits.specs.Edits.{HasRoom}
use Rattle.sblock.specs.Lists.{Each}
use Rattle.core_units.specs.Room.{has_room}

one_room : (r : RmapRec) → has_room r ≡ true → HasRoom r
one_room r h =
    let both = and_parts (has_end r) (nat_lt (r.start + r.count) (2 ^ 32)) h in
    (both.0, ltb-true (r.start + r.count) (2 ^ 32) both.1)

pub all_room : (rs : List RmapRec) → Each has_room rs → All HasRoom rs
all_room [] h = All-nil HasRoom
all_room (r ∷ rs) h = All-cons HasRoom r rs (one_room r h.0) (all_room rs h.1)

use Rattle.std.proofs.Common.{List, subst}
use Rattle.rmap_recs.specs.declared.records.RmapRec.{RmapRec}
use Rattle.sblock.specs.Lists.{Each}
use Rattle.core_units.proofs.FitLemmas.{mappings_derived}
use Rattle.core_units.proofs.RoomLemmas.{all_room}
use Rattle.core_units.specs.Room.{has_room}
use Rattle.core_units.proofs.derivation.mapping_list.Goals as goal

pub returns : goal.returns
returns c = mappings_derived c.in-Ok.rmap c.in-Ok.ensures.rising (all_room c.in-Ok.rmap.items (subst (Each has_room) c.as_slice.ensures.value (c.have_room.ensures c.if-not-have_room.false)))

-- Which blocks of a group may a rebuild take? (Online Fsck Design, "Reaping After Repair": new blocks come from free
-- space that nothing owns.)
use Rattle.std.specs.Prelude.{◌≡◌, ℕ, ◌+◌, ◌<◌, Bool, true, false, not, ◌&&◌, ◌||◌, nat_le, nat_lt, List, [], Option, Some, None}
use Rattle.std.specs.List.{list_any}
use Rattle.derive_defs.specs.Mappings.{covers}
use Rattle.fs_model.specs.declared.unit.Trust.{Trust}
use Rattle.fs_model.specs.declared.unit.Trust.TheVariants.{Unknown, Good, Sick}
use Rattle.fs_model.specs.declared.unit.Unit.{Unit as ScrubUnit}
use Rattle.fs_model.specs.declared.unit.Unit.TheVariants as units
use Rattle.rmap_recs.specs.declared.records.RmapRec.{RmapRec}
use Rattle.span_recs.specs.declared.span.SpanRec.{SpanRec}
use Rattle.unit_plan.specs.declared.piece.Among.{Among}
use Rattle.unit_plan.specs.declared.piece.Among.TheVariants.{All as AllClaims, Metadata}
use Rattle.unit_plan.specs.declared.piece.Piece.{Piece}
use Rattle.unit_plan.specs.declared.spare.SpaceTrust.{SpaceTrust}
use Rattle.unit_plan.specs.Pieces.{has_block}

abbrev pub is_sick : Trust → Bool
is_sick Unknown = false
is_sick Good = false
is_sick Sick = true

-- the btrees by which a unit's spare blocks are told can be relied on
abbrev pub may_spare : ScrubUnit → SpaceTrust → Bool
may_spare units.Free t = not (is_sick t.rmap)
may_spare units.Rmap t = not (is_sick t.bno)
may_spare units.Inode t = not (is_sick t.bno || (is_sick t.cnt || is_sick t.rmap))
may_spare units.Refc t = not (is_sick t.bno || (is_sick t.cnt || is_sick t.rmap))

-- the block lies in one of these records of free space
abbrev pub is_listed : List SpanRec → ℕ → Bool
is_listed free b = list_any (λ r. nat_le r.start b && nat_lt b (r.start + r.count)) free

-- one of the pieces that are looked at has the block
abbrev pub is_claimed : Among → List Piece → ℕ → Bool
is_claimed among ps b = list_any (has_block among b) ps

-- the block lies in free space, in none of these reverse mappings, and in none of the pieces that are looked at
abbrev pub is_outside : Among → List SpanRec → List RmapRec → List Piece → ℕ → Bool
is_outside among free mappings ps b = is_listed free b && not (list_any (covers b) mappings || is_claimed among ps b)

-- Is the block spare? For free space: it is one of the derived free space. For reverse mappings: the btree by start
-- lists it and nothing claims it. For the others: that btree lists it, no reverse mapping covers it and none of the
-- group's own metadata claims it. No block is where a btree that this rests on is sick.
abbrev pub is_free_for : ScrubUnit → List SpanRec → List RmapRec → List Piece → ℕ → Bool
is_free_for units.Free free mappings ps b = is_listed free b
is_free_for units.Rmap free mappings ps b = is_outside AllClaims free [] ps b
is_free_for units.Inode free mappings ps b = is_outside Metadata free mappings ps b
is_free_for units.Refc free mappings ps b = is_outside Metadata free mappings ps b

unfoldable pub is_spare : ScrubUnit → SpaceTrust → List SpanRec → List RmapRec → List Piece → ℕ → Bool
is_spare unit t free mappings ps b = may_spare unit t && is_free_for unit free mappings ps b

-- it is the lowest number that passes; None where none does
abbrev pub IsLowest : (ℕ → Bool) → Option ℕ → Type 0
IsLowest p None = (b : ℕ) → p b ≡ false
IsLowest p (Some x) = (p x ≡ true) × ((b : ℕ) → b < x → p b ≡ false)

-- What taking a spare block keeps.
use Rattle.std.proofs.Common.{◌≡◌, ℕ, ◌+◌, ◌-◌, ◌<◌, ◌≤◌, ◌^◌, Bool, true, false, List, [], ◌∷◌, map, sym, subst, refl, arith, inl, inr}
use Rattle.std.specs.List.Sorted.{IsPermutation}
use Rattle.std.specs.Prelude.{◌++◌, not, ◌&&◌, ◌||◌, nat_le, nat_lt, if◌then◌else◌}
use Rattle.std.proofs.lemmas.Bool.{and_from, and_parts, false≢true, le-leb, leb-false, lt-ltb, ltb-true, or_cases, or_right}
use Rattle.std.proofs.lemmas.List.Sorted.{IsPermutation-append_left, IsPermutation-trans}
use Rattle.fs_model.specs.declared.unit.Unit.{Unit as ScrubUnit}
use Rattle.fs_model.specs.declared.unit.Unit.TheVariants as units
use Rattle.fs_state.specs.State.{recs_of}
use Rattle.group_trees.specs.Trees.{reading_of}
use Rattle.group_trees.specs.declared.group.GroupTrees.{GroupTrees}
use Rattle.rmap_recs.specs.Rmap.{has_end}
use Rattle.rmap_recs.specs.Words.{is_fork_data, offset_of}
use Rattle.rmap_recs.specs.declared.records.RmapRec.{RmapRec}
use Rattle.run_sets.specs.Runs.{most, EndWithin}
use Rattle.sblock.specs.Blocks.{IsRising}
use Rattle.sblock.specs.Lists.{IsAhead}
use Rattle.span_recs.specs.Spans.{bno_form, is_before_by_start}
use Rattle.span_recs.specs.declared.span.SpanRec.{SpanRec}
use Rattle.unit_plan.specs.Spans.{BeginAt, RunsRise, SpansFit, span_run}
use Rattle.unit_plan.specs.Spare.{is_free_for, is_listed, is_spare, may_spare}
use Rattle.unit_plan.specs.Sets.{pieces_of}
use Rattle.unit_plan.specs.declared.claims.ClaimSet.{ClaimSet}
use Rattle.unit_plan.specs.declared.piece.Piece.{Piece}
use Rattle.unit_plan.specs.declared.spare.SpaceTrust.{SpaceTrust}
use Rattle.core_units.specs.declared.lists.Lists.{Lists}
use Rattle.core_units.specs.declared.lists.Lists.TheVariants as lists
use Rattle.core_units.specs.Choices.{is_spare_for}
use Rattle.core_units.specs.TreesFit.{CanSpare, CanSpareBy}
use Rattle.core_units.specs.Reserved.{IsNoted, IsTaken}
use Rattle.core_units.specs.TreesFit.{CanTake, LieApart}
use Rattle.core_units.specs.Taken.{reserve_piece_of, without_front}
use Rattle.core_units.specs.declared.reserve.Building.{Building}

-- ---- runs that lie apart

weaker : (from to : ℕ) (rs : List SpanRec) → from ≤ to → LieApart to rs → LieApart from rs
weaker from to [] le h = tt
weaker from to (r ∷ rs) le h = (let f = h.0 in omega (arith, le, f), h.1, h.2, h.3)

front_of : (b : Bool) (r : SpanRec) (rs : List SpanRec) → nat_le r.count 1 ≡ b → LieApart 0 (r ∷ rs) → LieApart 0 (if b then rs else record { start = r.start + 1; count = r.count - 1 } ∷ rs)
front_of true r rs e h = weaker 0 (r.start + r.count) rs (omega arith) h.3
front_of false r rs e h =
    let big = leb-false r.count 1 e in
    let ends = h.2 in
    (omega arith, omega (arith, big), omega (arith, big, ends), weaker (r.start + 1 + (r.count - 1)) (r.start + r.count) rs (omega (arith, big)) h.3)

-- without the lowest block they still do
pub front_apart : (rs : List SpanRec) → LieApart 0 rs → LieApart 0 (without_front rs)
front_apart [] h = tt
front_apart (r ∷ rs) h = front_of (nat_le r.count 1) r rs refl h

begin_at : (s from : ℕ) (rs : List SpanRec) → s ≤ from → LieApart from rs → BeginAt s (map span_run rs)
begin_at s from [] le h = tt
begin_at s from (r ∷ rs) le h = let f = h.0 in (omega (arith, le, f), begin_at s (r.start + r.count) rs (omega (arith, le, f)) h.3)

rise : (from : ℕ) (rs : List SpanRec) → LieApart from rs → RunsRise (map span_run rs)
rise from [] h = tt
rise from (r ∷ rs) h = (begin_at r.start (r.start + r.count) rs (omega arith) h.3, rise (r.start + r.count) rs h.3)

within : (from : ℕ) (rs : List SpanRec) → LieApart from rs → EndWithin most (map span_run rs)
within from [] h = tt
within from (r ∷ rs) h = (h.2, within (r.start + r.count) rs h.3)

pub apart_fit : (from : ℕ) (rs : List SpanRec) → LieApart from rs → SpansFit rs
apart_fit from rs h = (rise from rs h, within from rs h)

ahead : (r : SpanRec) (rs : List SpanRec) → 0 < r.count → LieApart (r.start + r.count) rs → IsAhead is_before_by_start r rs
ahead r [] some h = tt
ahead r (s ∷ rs) some h = let f = h.0 in lt-ltb r.start s.start (omega (arith, some, f))

pub rising : (from : ℕ) (rs : List SpanRec) → LieApart from rs → IsRising bno_form rs
rising from [] h = tt
rising from (r ∷ rs) h = (ahead r rs h.1 h.3, rising (r.start + r.count) rs h.3)

-- ---- a spare block has a number, and one behind it

pub listed_below : (limit : ℕ) (free : List SpanRec) (b : ℕ) → EndWithin limit (map span_run free) → is_listed free b ≡ true → b < limit
listed_below limit [] b h e = absurd (false≢true e)
listed_below limit (r ∷ rs) b h e = elim (or_cases (nat_le r.start b && nat_lt b (r.start + r.count)) (is_listed rs b) e) [
  | inl here ↦ let lt = ltb-true b (r.start + r.count) (and_parts (nat_le r.start b) (nat_lt b (r.start + r.count)) here).1 in let ends = h.0 in omega (arith, lt, ends)
  | inr there ↦ listed_below limit rs b h.1 there
]

free_listed : (unit : ScrubUnit) (free : List SpanRec) (maps : List RmapRec) (ps : List Piece) (b : ℕ) → is_free_for unit free maps ps b ≡ true → is_listed free b ≡ true
free_listed units.Free free maps ps b e = e
free_listed units.Rmap free maps ps b e = (and_parts (is_listed free b) _ e).0
free_listed units.Inode free maps ps b e = (and_parts (is_listed free b) _ e).0
free_listed units.Refc free maps ps b e = (and_parts (is_listed free b) _ e).0

pub spare_listed : (unit : ScrubUnit) (t : SpaceTrust) (free : List SpanRec) (maps : List RmapRec) (ps : List Piece) (b : ℕ) → is_spare unit t free maps ps b ≡ true → is_listed free b ≡ true
unfolding is_spare
spare_listed unit t free maps ps b e = free_listed unit free maps ps b (and_parts (may_spare unit t) (is_free_for unit free maps ps b) e).1

spare_fits : (unit : ScrubUnit) (t : SpaceTrust) (free : List SpanRec) (maps : List RmapRec) (ps : List Piece) (b : ℕ) → SpansFit free → is_spare unit t free maps ps b ≡ true → b + 1 < 2 ^ 32
spare_fits unit t free maps ps b fit e = let lt = listed_below most free b fit.1 (spare_listed unit t free maps ps b e) in omega (arith, lt)

pub block_fits : (unit : ScrubUnit) (t : SpaceTrust) (trees : GroupTrees) (l : Lists) (ps : List Piece) (b : ℕ) → CanSpare trees l → is_spare_for unit t trees l ps b ≡ true → b + 1 < 2 ^ 32
block_fits unit t trees (lists.Inode ino fino) ps b can e = spare_fits unit t (recs_of (reading_of trees.bno)) (recs_of (reading_of trees.rmap)) ps b can.0 e
block_fits unit t trees (lists.Rmap rmap) ps b can e = spare_fits unit t (recs_of (reading_of trees.bno)) (recs_of (reading_of trees.rmap)) ps b can.0 e
block_fits unit t trees (lists.Free bno cnt) ps b can e = spare_fits unit t bno.items [] ps b can e
block_fits unit t trees (lists.Refc refc) ps b can e = spare_fits unit t (recs_of (reading_of trees.bno)) (recs_of (reading_of trees.rmap)) ps b can.0 e

-- a spare block can be looked for where one can be taken
pub can_spare : (trees : GroupTrees) (l : Lists) → CanSpareBy trees → CanTake l → CanSpare trees l
can_spare trees (lists.Inode ino fino) by can = by
can_spare trees (lists.Rmap rmap) by can = by
can_spare trees (lists.Free bno cnt) by can = apart_fit 0 bno.items can
can_spare trees (lists.Refc refc) by can = by

-- ---- the mapping of a block of the group's own has an end

pub mapping_ends : (block owner : ℕ) → block + 1 < 2 ^ 32 → has_end (record { start = block; count = 1; owner = owner; word = 0 }) ≡ true
unfolding has_end
mapping_ends block owner fits =
    and_from (nat_le 1 1 && nat_le (block + 1) (2 ^ 32)) (not (is_fork_data owner 0) || nat_le (offset_of 0 + 1) (2 ^ 54))
    (and_from (nat_le 1 1) (nat_le (block + 1) (2 ^ 32)) refl (le-leb (block + 1) (2 ^ 32) (omega (arith, fits))))
    (or_right (not (is_fork_data owner 0)) (nat_le (offset_of 0 + 1) (2 ^ 54)) refl)

-- ---- a choice changes nothing but the order of the claims

noted_from : (unit : ScrubUnit) (block : ℕ) (spare : Bool) (old new : Building) (s : ClaimSet) → IsPermutation (pieces_of old.set) (pieces_of s) → IsNoted unit block spare (record old { set = s }) new → IsNoted unit block spare old new
noted_from unit block true old new s perm n =
    let p = reserve_piece_of unit block in
    (IsPermutation-trans (pieces_of old.set ++ p ∷ []) (pieces_of s ++ p ∷ []) (pieces_of new.set) (IsPermutation-append_left (p ∷ []) (pieces_of old.set) (pieces_of s) perm) n.0, n.1)
noted_from unit block false old new s perm n = (IsPermutation-trans (pieces_of old.set) (pieces_of s) (pieces_of new.set) perm n.0, n.1)

pub taken_from : (block : ℕ) (spare is_met : Bool) (old new : Building) (s : ClaimSet) → IsPermutation (pieces_of old.set) (pieces_of s) → IsTaken block spare is_met (record old { set = s }) new → IsTaken block spare is_met old new
taken_from block spare is_met old new s perm t = record { same = t.same; behind = t.behind; one_less = t.one_less; noted = noted_from old.unit block spare old new s perm t.noted; met = t.met }

-- What the first overlap of pieces doesn't depend on, and that it is the one of the claims that they stand for.
use Rattle.std.specs.Prelude.{◌≡◌, ℕ, ◌==◌, Bool, not, ◌&&◌, ◌||◌, List, map, Option}
use Rattle.std.specs.List.{filter, list_any}
use Rattle.std.specs.List.Sorted.{IsPermutation}
use Rattle.fs_model.specs.declared.claim.Claim.{Claim}
use Rattle.fs_model.specs.declared.claim.Evidence.{Evidence}
use Rattle.geom.specs.Layout.{group_len_of}
use Rattle.fs_state.specs.State.{State}
use Rattle.fs_state.specs.Apart.{listed_free}
use Rattle.fs_state.specs.Claims.{Claimed, claims, metadata_claims}
use Rattle.fs_state.specs.Derive.{bno_of, mappings}
use Rattle.fs_state.specs.Contradiction.{is_written_data, first_overlap}
use Rattle.derive_defs.specs.Mappings.{covers}
use Rattle.fs_model.specs.declared.unit.Trust.{Trust}
use Rattle.fs_model.specs.declared.unit.Unit.{Unit as ScrubUnit}
use Rattle.fs_model.specs.declared.unit.Unit.TheVariants as units
use Rattle.rmap_recs.specs.declared.records.RmapRec.{RmapRec}
use Rattle.sblock.specs.declared.kind.Kind.{Kind}
use Rattle.sblock.specs.declared.kind.Kind.TheVariants.{Bno, Cnt, Rmap}
use Rattle.span_recs.specs.declared.span.SpanRec.{SpanRec}
use Rattle.unit_plan.specs.declared.piece.Among.{Among}
use Rattle.unit_plan.specs.declared.piece.Among.TheVariants.{All as AllClaims, Metadata}
use Rattle.unit_plan.specs.declared.spare.SpaceTrust.{SpaceTrust}
use Rattle.unit_plan.specs.Spare.{is_claimed, is_listed, is_sick, is_spare}
use Rattle.unit_plan.specs.declared.piece.Piece.{Piece}
use Rattle.unit_plan.specs.Pieces.{claimed_blocks}
use Rattle.unit_plan.specs.Sets.{IsFirstOverlap, LieBelow}

-- the pieces in another order have the same first overlap
abbrev pub AnyOrder : Type 0
AnyOrder = (among : Among) (ps qs : List Piece) (e : Option Evidence) → IsPermutation ps qs → IsFirstOverlap among ps e → IsFirstOverlap among qs e

-- what an overlap asks of a claim on a block
abbrev pub seen : Claimed → ℕ × (Claim × Bool)
seen c = (c.block, (c.claim, is_written_data c))

-- on each block the pieces that are looked at have these claims
abbrev pub StandFor : Among → List Piece → List Claimed → Type 0
StandFor among ps cs = (b : ℕ) → map seen (filter (λ c. c.block == b) cs) ≡ map seen (filter (λ c. c.block == b) (claimed_blocks among ps))

-- the first overlap of pieces is that of the claims of a group for which they stand
abbrev pub InGroup : Type 0
InGroup = (among : Among) (ps : List Piece) (e : Option Evidence) (a : State) (g : ℕ) (cs : List Claimed)
    → LieBelow (group_len_of a.geometry g) ps → StandFor among ps cs → IsFirstOverlap among ps e → e ≡ first_overlap a g cs

-- ---- spare blocks of a state

-- what is known of a kind's btree, and the records of two of them
abbrev pub trust_of : State → ℕ → Kind → Trust
trust_of a g k = ((a.group g).tree k).trust

-- the free space of which a unit's spare blocks are: that which is derived, or that which the btree by start lists
abbrev pub free_for : State → ℕ → ScrubUnit → List SpanRec
free_for a g units.Free = bno_of a g
free_for a g units.Rmap = listed_free a g
free_for a g units.Inode = listed_free a g
free_for a g units.Refc = listed_free a g

abbrev pub is_in : List Claimed → ℕ → Bool
is_in cs b = list_any (λ c. c.block == b) cs

-- Is the block of a group spare for the unit?
unfoldable pub is_spare_in : State → ℕ → ScrubUnit → ℕ → Bool
is_spare_in a g units.Free b = not (is_sick (trust_of a g Rmap)) && is_listed (bno_of a g) b
is_spare_in a g units.Rmap b = not (is_sick (trust_of a g Bno)) && (is_listed (listed_free a g) b && not (is_in (claims a g) b))
is_spare_in a g units.Inode b =
    not (is_sick (trust_of a g Bno) || (is_sick (trust_of a g Cnt) || is_sick (trust_of a g Rmap)))
    && (is_listed (listed_free a g) b && not (list_any (covers b) (mappings a g) || is_in (metadata_claims a g) b))
is_spare_in a g units.Refc b =
    not (is_sick (trust_of a g Bno) || (is_sick (trust_of a g Cnt) || is_sick (trust_of a g Rmap)))
    && (is_listed (listed_free a g) b && not (list_any (covers b) (mappings a g) || is_in (metadata_claims a g) b))

-- what is handed in is what the state says of the group
pub record AreOf (a : State) (g : ℕ) (unit : ScrubUnit) (t : SpaceTrust) (free : List SpanRec) (recs : List RmapRec) (ps : List Piece) : Type 0 where
  pub bno : t.bno ≡ trust_of a g Bno
  pub cnt : t.cnt ≡ trust_of a g Cnt
  pub rmap : t.rmap ≡ trust_of a g Rmap
  pub free_is : free ≡ free_for a g unit
  pub mappings_are : recs ≡ mappings a g
  pub all : (b : ℕ) → is_claimed AllClaims ps b ≡ is_in (claims a g) b
  pub own : (b : ℕ) → is_claimed Metadata ps b ≡ is_in (metadata_claims a g) b

-- where it is, the spare blocks are those of the state
abbrev pub SpareInGroup : Type 0
SpareInGroup = (a : State) (g : ℕ) (unit : ScrubUnit) (t : SpaceTrust) (free : List SpanRec) (recs : List RmapRec) (ps : List Piece) (b : ℕ)
    → AreOf a g unit t free recs ps → is_spare unit t free recs ps b ≡ is_spare_in a g unit b

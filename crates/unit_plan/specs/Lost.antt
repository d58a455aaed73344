-- Which blocks of a group are lost, once the new btrees of a unit stand? (Online Fsck Design, "Reaping After Repairing
-- Ondisk Metadata".)
use Rattle.std.specs.Prelude.{ℕ, ◌+◌, Bool, true, false, not, ◌&&◌, ◌==◌, nat_le, nat_lt, List}
use Rattle.std.specs.List.{list_any}
use Rattle.fs_model.specs.declared.claim.Claim.{Claim}
use Rattle.fs_model.specs.declared.claim.Claim.TheVariants.{Tree}
use Rattle.fs_model.specs.declared.unit.Unit.{Unit as ScrubUnit}
use Rattle.fs_model.specs.declared.unit.Unit.TheVariants as units
use Rattle.rmap_recs.specs.declared.records.RmapRec.{RmapRec}
use Rattle.run_sets.specs.Runs.{is_within}
use Rattle.run_sets.specs.declared.run.Run.{Run}
use Rattle.sblock.specs.declared.kind.Kind.{Kind}
use Rattle.sblock.specs.declared.kind.Kind.TheVariants.{Bno, Cnt, Rmap, Refc, Ino, Fino}
use Rattle.span_recs.specs.declared.span.SpanRec.{SpanRec}
use Rattle.unit_plan.specs.declared.piece.Piece.{Piece}
use Rattle.unit_plan.specs.Spare.{is_listed}

-- the btree is one of the unit's
abbrev pub is_of : ScrubUnit → Kind → Bool
is_of units.Inode Ino = true
is_of units.Inode Fino = true
is_of units.Rmap Rmap = true
is_of units.Free Bno = true
is_of units.Free Cnt = true
is_of units.Refc Refc = true
is_of unit kind = false

-- a claim of the unit's old btrees, which is none any more
abbrev pub is_old : ScrubUnit → Claim → Bool
is_old unit (Tree kind) = is_of unit kind
is_old unit claim = false

-- a piece that still claims has the block
abbrev pub is_taken : ScrubUnit → List Piece → ℕ → Bool
is_taken unit ps b = list_any (λ p. not (is_old unit p.claim) && is_within b p.run) ps

-- one of these reverse mappings gives the block to this owner
abbrev pub is_given : ℕ → List RmapRec → ℕ → Bool
is_given owner recs b = list_any (λ r. (r.owner == owner) && (nat_le r.start b && nat_lt b (r.start + r.count))) recs

-- lost where reverse mappings are new: neither free space nor a claim has the block
abbrev pub is_unlisted : List SpanRec → List Piece → ℕ → Bool
is_unlisted free ps b = not (is_listed free b) && not (is_taken units.Rmap ps b)

-- lost where another unit is: reverse mappings give the block to the unit's owner, and nothing claims it
abbrev pub is_unclaimed : ScrubUnit → ℕ → List RmapRec → List Piece → ℕ → Bool
is_unclaimed unit owner recs ps b = is_given owner recs b && not (is_taken unit ps b)

-- one of the old inode btrees, where it could be read
abbrev pub is_read_kind : Bool → Bool → Kind → Bool
is_read_kind ino fino Ino = ino
is_read_kind ino fino Fino = fino
is_read_kind ino fino kind = false

abbrev pub is_read : Bool → Bool → Claim → Bool
is_read ino fino (Tree kind) = is_read_kind ino fino kind
is_read ino fino claim = false

-- lost where inode btrees are new: the old ones have the block, as far as they could be read
abbrev pub is_of_old : Bool → Bool → List Piece → ℕ → Bool
is_of_old ino fino ps b = list_any (λ p. is_read ino fino p.claim && is_within b p.run) ps

-- a piece, and a run of no owner's, as reverse mappings
abbrev pub of_piece : Piece → RmapRec
of_piece p = record { start = p.run.start; count = p.run.count; owner = p.owner; word = p.word }

abbrev pub of_run : Run → RmapRec
of_run r = record { start = r.start; count = r.count; owner = 0; word = 0 }

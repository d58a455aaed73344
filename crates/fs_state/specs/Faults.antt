-- Where does an index, or a counter of the heads, differ from what it should be? (Online Fsck Design,
-- "Cross-Referencing Space Metadata"; "AG Free Space Block", "AG Inode Management".)
use Rattle.std.specs.Prelude.{ℕ, ◌+◌, ◌-◌, ◌==◌, not, List, [], ◌∷◌, ◌++◌, flat_map, length, sum_by, Option, Some, None, if◌then◌else◌}
use Rattle.derive_defs.specs.ByCount.{greatest}
use Rattle.derive_defs.specs.Free.{block_count}
use Rattle.fs_model.specs.declared.«record».AnyRec.{AnyRec}
use Rattle.fs_model.specs.declared.«record».AnyRec.TheVariants as recs
use Rattle.fs_model.specs.declared.fault.Counter.{Counter}
use Rattle.fs_model.specs.declared.fault.Counter.TheVariants.{Count, Freecount, Iblocks, Fblocks, RmapBlocks, Freeblks, Longest, Btreeblks, RefcountBlocks}
use Rattle.fs_model.specs.declared.fault.Fault.{Fault}
use Rattle.fs_model.specs.declared.fault.Fault.TheVariants as faulty
use Rattle.fs_model.specs.declared.unit.Unit.{Unit as ScrubUnit}
use Rattle.sblock.specs.declared.kind.Kind.{Kind}
use Rattle.sblock.specs.declared.kind.Kind.TheVariants.{Bno, Cnt, Rmap, Refc, Ino, Fino}
use Rattle.xref_scrub.specs.Differences.{differences}
use Rattle.fs_state.specs.Kinds.{RecOf, form_of}
use Rattle.fs_state.specs.State.{State, Reading, Readable, Unreadable}
use Rattle.fs_state.specs.Derive.{derive, ino_of, bno_of, cnt_of}
use Rattle.fs_state.specs.Records.{kinds_of, counters_of, kind_of_counter, shown_of}
use Rattle.fs_state.specs.Lists.{only_if}

-- a tree that can't be read has that one fault, another each difference from what it should hold
abbrev pub index_faults : (k : Kind) → List (RecOf k) → Reading (RecOf k) → List Fault
index_faults k derived (Readable recs blocks) = differences (form_of k) (shown_of k) recs derived
index_faults k derived (Unreadable block fault claims) = faulty.Block k block fault ∷ []

abbrev pub blocks_counted : {R : Type 0} → Reading R → Option ℕ
blocks_counted (Readable recs blocks) = Some (length blocks)
blocks_counted (Unreadable block fault claims) = None

-- the blocks of three trees but for the roots
abbrev pub beside_roots : Option ℕ → Option ℕ → Option ℕ → Option ℕ
beside_roots (Some x) (Some y) (Some z) = Some (x + y + z - 3)
beside_roots (Some x) (Some y) None = None
beside_roots (Some x) None z = None
beside_roots None y z = None

-- What should a counter be? None where a tree whose blocks it counts can't be read, or where heads don't keep it.
unfoldable pub wanted : State → ℕ → Counter → Option ℕ
wanted a g Count = Some (sum_by (λ r. r.count) (ino_of a g))
wanted a g Freecount = Some (sum_by (λ r. r.freecount) (ino_of a g))
wanted a g Iblocks = if a.geometry.inobtcount then blocks_counted ((a.group g).tree Ino).reading else None
wanted a g Fblocks = if a.geometry.inobtcount then blocks_counted ((a.group g).tree Fino).reading else None
wanted a g RmapBlocks = blocks_counted ((a.group g).tree Rmap).reading
wanted a g Freeblks = Some (block_count (bno_of a g))
wanted a g Longest = Some (greatest (cnt_of a g))
wanted a g Btreeblks = beside_roots (blocks_counted ((a.group g).tree Bno).reading) (blocks_counted ((a.group g).tree Cnt).reading) (blocks_counted ((a.group g).tree Rmap).reading)
wanted a g RefcountBlocks = blocks_counted ((a.group g).tree Refc).reading

abbrev pub counter_fault : Counter → ℕ → Option ℕ → List Fault
counter_fault name found None = []
counter_fault name found (Some number) = only_if (not (found == number)) (faulty.Counter name found number)

-- the faults of one tree of a group
abbrev pub faults_of_kind : State → ℕ → Kind → List Fault
faults_of_kind a g k = index_faults k (derive a g k) ((a.group g).tree k).reading

abbrev pub faults_of_counter : State → ℕ → Counter → List Fault
faults_of_counter a g name = counter_fault name ((a.group g).counters name) (wanted a g name)

-- Which faults does a unit have? Those of its trees in order, then those of its counters.
unfoldable pub faults : State → ℕ → ScrubUnit → List Fault
faults a g unit = flat_map (faults_of_kind a g) (kinds_of unit) ++ flat_map (faults_of_counter a g) (counters_of unit)

-- ---- the kind to which a fault belongs

abbrev pub kind_of_record : AnyRec → Kind
kind_of_record (recs.Bno r) = Bno
kind_of_record (recs.Cnt r) = Cnt
kind_of_record (recs.Rmap r) = Rmap
kind_of_record (recs.Refc r) = Refc
kind_of_record (recs.Ino r) = Ino
kind_of_record (recs.Fino r) = Fino

abbrev pub kind_of_fault : Fault → Kind
kind_of_fault (faulty.Block kind block fault) = kind
kind_of_fault (faulty.Missing r) = kind_of_record r
kind_of_fault (faulty.Extra r) = kind_of_record r
kind_of_fault (faulty.Counter name found number) = kind_of_counter name

-- What the code has of a tree, and what it says of the tree as it is read.
use Rattle.std.specs.Prelude.{◌≡◌, ⊤, ℕ, List, length, Result, Ok, Err}
use Rattle.std.specs.Global.{Vec}
use Rattle.ag_headers.specs.declared.agf.Agf.{Agf}
use Rattle.fs_model.specs.declared.fault.Fault.{Fault}
use Rattle.rmap_recs.specs.declared.records.RmapRec.{RmapRec}
use Rattle.sblock.specs.Blocks.{IsRising}
use Rattle.sblock.specs.Form.{Form}
use Rattle.sblock.specs.declared.block.Bounds.{Bounds}
use Rattle.span_recs.specs.declared.refcount.RefcRec.{RefcRec}
use Rattle.span_recs.specs.declared.span.SpanRec.{SpanRec}
use Rattle.tree_blocks.specs.declared.tree.TreeRead.{TreeRead}
use Rattle.tree_walk.specs.Trails.{AreSound}
use Rattle.space_check.specs.Faults.{Reading, free_faults, shared_faults}
use Rattle.space_check.specs.Progress.{IsOutside}
use Rattle.space_check.specs.declared.halt.Halt.{Halt}
use Rattle.space_check.specs.declared.reads.IndexRead.{IndexRead}
use Rattle.space_check.specs.declared.reads.IndexRead.TheVariants.{Whole, Bad}

abbrev pub reading_of : {R : Type 0} → IndexRead R → Reading R
reading_of (Whole read) = Ok (read.recs.items, read.blocks.items)
reading_of (Bad block fault) = Err (block, fault)

-- the tree reads as this, or the device failed or there was no memory
abbrev pub IsReading : {R : Type 0} → Reading R → Result (IndexRead R) Halt → Type 0
IsReading read (Ok index) = read ≡ reading_of index
IsReading read (Err halt) = IsOutside halt

-- the records of a tree that was read are those of its kind
abbrev pub IsSound : {R K : Type 0} → Form R K → Bounds → IndexRead R → Type 0
IsSound form bounds (Whole read) = AreSound form bounds read.recs.items
IsSound form bounds (Bad block fault) = ⊤

abbrev pub RisesIfRead : {R K : Type 0} → Form R K → IndexRead R → Type 0
RisesIfRead form (Whole read) = IsRising form read.recs.items
RisesIfRead form (Bad block fault) = ⊤

-- no tree was read
abbrev pub IsBad : {R : Type 0} → IndexRead R → Type 0
IsBad (Whole read) = ⊥
IsBad (Bad block fault) = ⊤

-- these are the faults of free space, and of reference counts, by what was read of their trees
abbrev pub AreFreeFaults : ℕ → Agf → TreeRead RmapRec → (bno cnt : IndexRead SpanRec) → Vec Fault → Type 0
AreFreeFaults len agf mapped bno cnt faults = faults.items ≡ free_faults len agf mapped.recs.items (length mapped.blocks.items) (reading_of bno) (reading_of cnt)

abbrev pub AreSharedFaults : Agf → List RmapRec → IndexRead RefcRec → Vec Fault → Type 0
AreSharedFaults agf mappings refc faults = faults.items ≡ shared_faults agf mappings (reading_of refc)

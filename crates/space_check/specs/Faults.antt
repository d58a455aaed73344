-- Where the space btrees and counters of a group differ from what its reverse mappings give.
use Rattle.std.specs.Prelude.{ℕ, ◌+◌, ◌-◌, ◌%◌, ◌^◌, ◌==◌, if◌then◌else◌, List, [], ◌∷◌, ◌++◌, length, Option, Some, None, Result, Ok, Err}
use Rattle.ag_headers.specs.declared.agf.Agf.{Agf}
use Rattle.derive_defs.specs.ByCount.{ordered_by_count, greatest}
use Rattle.derive_defs.specs.Free.{free_space, block_count}
use Rattle.derive_defs.specs.Shared.{shared_space}
use Rattle.fs_model.specs.declared.fault.Counter.{Counter}
use Rattle.fs_model.specs.declared.fault.Counter.TheVariants.{Freeblks, Longest, Btreeblks, RefcountBlocks}
use Rattle.fs_model.specs.declared.fault.Fault.{Fault}
use Rattle.fs_model.specs.declared.fault.Fault.TheVariants as faults
use Rattle.rmap_recs.specs.declared.records.RmapRec.{RmapRec}
use Rattle.sblock.specs.Form.{Form}
use Rattle.sblock.specs.declared.block.BlockFault.{BlockFault}
use Rattle.span_recs.specs.Refcounts.{refc_form}
use Rattle.span_recs.specs.Spans.{bno_form, cnt_form}
use Rattle.span_recs.specs.declared.refcount.RefcRec.{RefcRec}
use Rattle.span_recs.specs.declared.span.SpanRec.{SpanRec}
use Rattle.xref_scrub.specs.Differences.{differences}
use Rattle.xref_scrub.specs.Shown.{Shown, bno_shown, cnt_shown, refc_shown}

-- a tree, as a walk reads it: its records and blocks, or its first fault with the block where it is
abbrev pub Reading : Type 0 → Type 0
Reading R = Result (List R × List ℕ) (ℕ × BlockFault)

-- a tree that can't be read has that one fault, another each difference from what is derived
abbrev pub index_faults : {R K : Type 0} → Form R K → Shown R → List R → Reading R → List Fault
index_faults form shown derived (Err bad) = faults.Block form.kind bad.0 bad.1 ∷ []
index_faults form shown derived (Ok read) = differences form shown read.0 derived

-- a number of the head that isn't the one that is wanted
abbrev pub counter_fault : Counter → ℕ → ℕ → List Fault
counter_fault name found wanted = if found == wanted then [] else faults.Counter name found wanted ∷ []

-- a counter of blocks is judged only where the trees that it counts can be read
abbrev pub blocks_fault : Counter → ℕ → Option ℕ → List Fault
blocks_fault name found None = []
blocks_fault name found (Some wanted) = counter_fault name found wanted

-- the head's counters have 32 bits
abbrev pub blocks_of : {R : Type 0} → Reading R → Option ℕ
blocks_of (Err bad) = None
blocks_of (Ok read) = Some (length read.1 % 2 ^ 32)

-- the blocks of the three trees beside their roots, where the first two can be read
abbrev pub beside_roots : {R S : Type 0} → Reading R → Reading S → ℕ → Option ℕ
beside_roots (Err bad) second third = None
beside_roots (Ok first) (Err bad) third = None
beside_roots (Ok first) (Ok second) third = Some ((length first.1 + length second.1 + third - 3) % 2 ^ 32)

-- Free space by start, then by count, then the counters. The mappings are those of a readable tree
-- of so many blocks.
unfoldable pub free_faults : (len : ℕ) → Agf → (mappings : List RmapRec) → (mapped : ℕ) → (bno cnt : Reading SpanRec) → List Fault
free_faults len agf mappings mapped bno cnt =
    index_faults bno_form bno_shown (free_space len mappings) bno
    ++ index_faults cnt_form cnt_shown (ordered_by_count (free_space len mappings)) cnt
    ++ counter_fault Freeblks agf.freeblks (block_count (free_space len mappings))
    ++ counter_fault Longest agf.longest (greatest (ordered_by_count (free_space len mappings)))
    ++ blocks_fault Btreeblks agf.btreeblks (beside_roots bno cnt mapped)

unfoldable pub shared_faults : Agf → (mappings : List RmapRec) → Reading RefcRec → List Fault
shared_faults agf mappings refc =
    index_faults refc_form refc_shown (shared_space mappings) refc
    ++ blocks_fault RefcountBlocks agf.refcount_blocks (blocks_of refc)

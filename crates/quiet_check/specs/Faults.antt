-- Where the inode btrees and their counters differ from what the chunks give, as the code has it.
use Rattle.std.specs.Prelude.{ℕ, ◌%◌, ◌^◌, nat_lt, Bool, List, [], ◌∷◌, ◌++◌, filter, length, sum_by, Option, Some, None, if◌then◌else◌}
use Rattle.ag_headers.specs.declared.agi.Agi.{Agi}
use Rattle.fs_state.specs.Faults.{counter_fault}
use Rattle.fs_model.specs.declared.fault.Counter.TheVariants.{Count, Freecount, Iblocks, Fblocks}
use Rattle.fs_model.specs.declared.fault.Fault.{Fault}
use Rattle.fs_model.specs.declared.fault.Fault.TheVariants as faulty
use Rattle.fs_state.specs.State.{Reading, Readable, Unreadable}
use Rattle.ino_recs.specs.Chunks.{ino_form, fino_form}
use Rattle.ino_recs.specs.declared.chunk.InoRec.{InoRec}
use Rattle.sblock.specs.Form.{Form}
use Rattle.xref_scrub.specs.Differences.{differences}
use Rattle.xref_scrub.specs.Shown.{Shown, fino_shown, ino_shown}

-- a tree that can't be read has that one fault, another each difference from what it should hold
abbrev pub faults_in : {R K : Type 0} → Form R K → Shown R → List R → Reading R → List Fault
faults_in form shown derived (Readable recs blocks) = differences form shown recs derived
faults_in form shown derived (Unreadable block fault claims) = faulty.Block form.kind block fault ∷ []

-- heads have 32 bits for a number
abbrev pub low : ℕ → ℕ
low n = n % 2 ^ 32

-- how many blocks a tree that can be read has, where the heads keep that number
abbrev pub blocks_kept : {R : Type 0} → Bool → Reading R → Option ℕ
blocks_kept kept (Readable recs blocks) = if kept then Some (low (length blocks)) else None
blocks_kept kept (Unreadable block fault claims) = None

-- the counters of inodes, and those of the trees' blocks
unfoldable pub counter_faults : Bool → Agi → List InoRec → (ino fino : Reading InoRec) → List Fault
counter_faults kept agi recs ino fino =
    counter_fault Count agi.count (Some (low (sum_by (λ r. r.count) recs)))
    ++ counter_fault Freecount agi.freecount (Some (low (sum_by (λ r. r.freecount) recs)))
    ++ counter_fault Iblocks agi.iblocks (blocks_kept kept ino)
    ++ counter_fault Fblocks agi.fblocks (blocks_kept kept fino)

-- the inode btree, that of chunks with free inodes, and then the counters
unfoldable pub inode_faults : Bool → Agi → List InoRec → (ino fino : Reading InoRec) → List Fault
inode_faults kept agi recs ino fino =
    faults_in ino_form ino_shown recs ino
    ++ faults_in fino_form fino_shown (filter (λ r. nat_lt 0 r.freecount) recs) fino
    ++ counter_faults kept agi recs ino fino

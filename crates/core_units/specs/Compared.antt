-- The btrees of a unit beside what they must hold, piece by piece: what a place leaves to be found.
use Rattle.std.specs.Prelude.{◌≡◌, ⊤, ℕ, ◌+◌, ◌-◌, ◌^◌, ◌<◌, List, [], ◌∷◌, ◌++◌, drop, length, Option, Some, None, Bool, true}
use Rattle.std.specs.List.{filter_map}
use Rattle.derive_defs.specs.ByCount.{greatest}
use Rattle.derive_defs.specs.Free.{block_count}
use Rattle.fs_state.specs.Faults.{counter_fault}
use Rattle.fs_model.specs.declared.fault.Counter.TheVariants.{RmapBlocks, Freeblks, Longest, Btreeblks, RefcountBlocks}
use Rattle.fs_model.specs.declared.fault.Fault.{Fault}
use Rattle.fs_model.specs.declared.fault.Fault.TheVariants as faulty
use Rattle.fs_state.specs.State.{Reading, Readable, Unreadable}
use Rattle.group_trees.specs.Trees.{reading_of, RisesIfRead}
use Rattle.group_trees.specs.declared.group.GroupTrees.{GroupTrees}
use Rattle.group_trees.specs.declared.heads.GroupHeads.{GroupHeads}
use Rattle.group_trees.specs.declared.reads.TreeSeen.{TreeSeen}
use Rattle.ino_recs.specs.Chunks.{ino_form, fino_form}
use Rattle.quiet_check.specs.Faults.{blocks_kept, counter_faults, faults_in, low}
use Rattle.rmap_recs.specs.Rmap.{rmap_form}
use Rattle.sblock.specs.Blocks.{IsRising}
use Rattle.sblock.specs.Form.{Form}
use Rattle.span_recs.specs.Refcounts.{refc_form}
use Rattle.span_recs.specs.Spans.{bno_form, cnt_form}
use Rattle.xref_scrub.specs.Differences.{shown_by}
use Rattle.xref_scrub.specs.Shown.{Shown, bno_shown, cnt_shown, rmap_shown, refc_shown, ino_shown, fino_shown}
use Rattle.core_units.specs.declared.compare.Part.{Part}
use Rattle.core_units.specs.declared.compare.Place.{Place}
use Rattle.core_units.specs.declared.compare.Place.TheVariants.{First, Second, Counters, End}
use Rattle.core_units.specs.declared.lists.Lists.{Lists}
use Rattle.core_units.specs.declared.lists.Lists.TheVariants as lists

-- the faults of a tree from the record with this number on, in the order of both lists; a tree that can't be read
-- has one
unfoldable pub tree_faults_from : {R K : Type 0} → Form R K → Shown R → List R → Reading R → ℕ → List Fault
tree_faults_from form shown derived (Readable recs blocks) from = filter_map (λ f. f) (drop from (shown_by form shown recs derived))
tree_faults_from form shown derived (Unreadable block fault claims) from = faulty.Block form.kind block fault ∷ []

-- from a number on, if there is one
abbrev pub from_next : (ℕ → List Fault) → Option ℕ → List Fault
from_next from None = []
from_next from (Some next) = from next

-- of what is found from the number on, this is found, and the rest is left
abbrev pub IsPart : (ℕ → List Fault) → ℕ → Part → Type 0
IsPart all from part = all from ≡ part.faults.items ++ from_next all part.next

-- both lists together have fewer records than a number of 64 bits counts
abbrev pub AreFew : {R : Type 0} → List R → Reading R → Type 0
AreFew derived (Readable recs blocks) = length recs + length derived < 2 ^ 64
AreFew derived (Unreadable block fault claims) = ⊤

-- a list and a btree that can be compared
pub record IsPair {R K : Type 0} (form : Form R K) (derived : List R) (seen : TreeSeen R) : Type 0 where
  pub derived_rises : IsRising form derived
  pub index_rises : RisesIfRead form seen
  pub few : AreFew derived (reading_of seen)

-- ---- a unit

-- the blocks of three trees beside their roots, where all can be read
abbrev pub beside_kept : {R S T : Type 0} → Reading R → Reading S → Reading T → Option ℕ
beside_kept (Readable rs bs) (Readable ss cs) (Readable ts ds) = Some (low (length bs + length cs + length ds - 3))
beside_kept (Readable rs bs) (Readable ss cs) (Unreadable block fault claims) = None
beside_kept (Readable rs bs) (Unreadable block fault claims) third = None
beside_kept (Unreadable block fault claims) second third = None

abbrev pub first_from : GroupTrees → Lists → ℕ → List Fault
first_from trees (lists.Inode ino fino) from = tree_faults_from ino_form ino_shown ino.items (reading_of trees.ino) from
first_from trees (lists.Rmap rmap) from = tree_faults_from rmap_form rmap_shown rmap.items (reading_of trees.rmap) from
first_from trees (lists.Free bno cnt) from = tree_faults_from bno_form bno_shown bno.items (reading_of trees.bno) from
first_from trees (lists.Refc refc) from = tree_faults_from refc_form refc_shown refc.items (reading_of trees.refc) from

abbrev pub second_from : GroupTrees → Lists → ℕ → List Fault
second_from trees (lists.Inode ino fino) from = tree_faults_from fino_form fino_shown fino.items (reading_of trees.fino) from
second_from trees (lists.Rmap rmap) from = []
second_from trees (lists.Free bno cnt) from = tree_faults_from cnt_form cnt_shown cnt.items (reading_of trees.cnt) from
second_from trees (lists.Refc refc) from = []

-- the counters that are judged with the unit
abbrev pub counters_in : Bool → GroupHeads → GroupTrees → Lists → List Fault
counters_in kept heads trees (lists.Inode ino fino) = counter_faults kept heads.agi ino.items (reading_of trees.ino) (reading_of trees.fino)
counters_in kept heads trees (lists.Rmap rmap) = counter_fault RmapBlocks heads.agf.rmap_blocks (blocks_kept true (reading_of trees.rmap))
counters_in kept heads trees (lists.Free bno cnt) =
    counter_fault Freeblks heads.agf.freeblks (Some (block_count bno.items))
    ++ counter_fault Longest heads.agf.longest (Some (greatest cnt.items))
    ++ counter_fault Btreeblks heads.agf.btreeblks (beside_kept (reading_of trees.bno) (reading_of trees.cnt) (reading_of trees.rmap))
counters_in kept heads trees (lists.Refc refc) = counter_fault RefcountBlocks heads.agf.refcount_blocks (blocks_kept true (reading_of trees.refc))

-- what is found of the unit from a place on: its btrees in order, then its counters
abbrev pub faults_from : Bool → GroupHeads → GroupTrees → Lists → Place → List Fault
faults_from kept heads trees list (First from) = first_from trees list from ++ (second_from trees list 0 ++ counters_in kept heads trees list)
faults_from kept heads trees list (Second from) = second_from trees list from ++ counters_in kept heads trees list
faults_from kept heads trees list Counters = counters_in kept heads trees list
faults_from kept heads trees list End = []

-- the lists rise, and so do the records of the btrees that can be read
abbrev pub AreComparable : GroupTrees → Lists → Type 0
AreComparable trees (lists.Inode ino fino) = IsPair ino_form ino.items trees.ino × IsPair fino_form fino.items trees.fino
AreComparable trees (lists.Rmap rmap) = IsPair rmap_form rmap.items trees.rmap
AreComparable trees (lists.Free bno cnt) = IsPair bno_form bno.items trees.bno × IsPair cnt_form cnt.items trees.cnt × (block_count bno.items < 2 ^ 32)
AreComparable trees (lists.Refc refc) = IsPair refc_form refc.items trees.refc

-- where the comparison goes on behind a piece of the first btree, and of the second
abbrev pub first_next : Option ℕ → Place
first_next None = Second 0
first_next (Some next) = First next

abbrev pub second_next : Option ℕ → Place
second_next None = Counters
second_next (Some next) = Second next

-- the records of a reading rise, where there are some
abbrev pub RisesIn : {R K : Type 0} → Form R K → Reading R → Type 0
RisesIn form (Readable recs blocks) = IsRising form recs
RisesIn form (Unreadable block fault claims) = ⊤

-- from the first number on it is all that the comparison finds of a tree
abbrev pub PiecesAreFaults : {R K : Type 0} → Form R K → Shown R → Type 0
PiecesAreFaults {R} form shown = (derived : List R) (reading : Reading R) → IsRising form derived → RisesIn form reading → tree_faults_from form shown derived reading 0 ≡ faults_in form shown derived reading

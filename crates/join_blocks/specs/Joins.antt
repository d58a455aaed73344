-- Blocks of a group that are joined to a transaction. `first` is the image's number of the group's block 0.
use Rattle.std.specs.Prelude.{◌≡◌, ℕ, suc, ◌+◌, ◌<◌, ◌≤◌, ◌==◌, Bool, true, ◌||◌, List, [], ◌∷◌, ◌++◌, is_some, length, map, Option, Some, if◌then◌else◌}
use Rattle.byte_fields.specs.Steps.{StepCount}
use Rattle.byte_fields.specs.declared.block.Block.{Block}
use Rattle.blk_device.specs.Contents.{Contents}
use Rattle.redo_area.specs.Area.{Batch}
use Rattle.meta_txn.specs.Joined.{bytes_at, with_block, Finds}
use Rattle.tree_defs.specs.Lists.{In, AllDiffer}

-- the number is joined
abbrev pub is_joined : Batch → ℕ → Bool
is_joined blocks at = is_some (bytes_at at blocks)

-- how many of these numbers, each counted once, aren't there yet
unfoldable pub fresh : (ℕ → Bool) → List ℕ → ℕ
fresh there [] = 0
fresh there (at ∷ ats) = if there at then fresh there ats else suc (fresh (λ n. n == at || there n) ats)

-- the image's numbers of these blocks
abbrev pub numbers : ℕ → List ℕ → List ℕ
numbers first blocks = map (λ b. first + b) blocks

-- how many blocks are joined once each of these is
abbrev pub count_of : Batch → ℕ → List ℕ → ℕ
count_of joined first blocks = length joined + fresh (is_joined joined) (numbers first blocks)

-- each has a number below the size
abbrev pub LieBelow : ℕ → ℕ → List ℕ → Type 0
LieBelow size first [] = Unit {0}
LieBelow size first (b ∷ bs) = (first + b < size) × LieBelow size first bs

-- the blocks that are put in
abbrev pub placed_in : List (ℕ × Block) → List ℕ
placed_in placed = map (λ e. e.0) placed

-- what is joined with each of these blocks put in
unfoldable pub with_all : ℕ → List (ℕ × Block) → Batch → Batch
with_all first [] joined = joined
with_all first (e ∷ es) joined = with_all first es (with_block (first + e.0) e.1.bytes joined)

-- Each of these blocks was joined as it was found, one after the other.
abbrev pub AreFound : Option Contents → ℕ → List ℕ → Batch → Batch → Type 0
AreFound told first [] old new = new ≡ old
AreFound told first (b ∷ bs) old new = (bytes : List ℕ) × Finds (first + b) old told bytes × AreFound told first bs (with_block (first + b) bytes old) new

-- only these blocks are joined, or get other bytes
abbrev pub OnlyThese : ℕ → List ℕ → Batch → Batch → Type 0
OnlyThese first blocks old new = (at : ℕ) → ((b : ℕ) → In b blocks → first + b ≡ at → ⊥) → bytes_at at new ≡ bytes_at at old

-- each of these is joined
abbrev pub AreAllJoined : ℕ → List ℕ → Batch → Type 0
AreAllJoined first blocks joined = (b : ℕ) → In b blocks → is_joined joined (first + b) ≡ true

-- so many blocks were counted as read as are joined since
abbrev pub ReadsNew : StepCount → StepCount → Batch → Batch → Type 0
ReadsNew before after old new = after.reads + length old ≡ before.reads + length new

-- so many blocks are joined as were counted before, these and more of them
abbrev pub CountsAll : ℕ → List ℕ → Batch → Batch → Type 0
CountsAll first blocks old new = (bs : List ℕ) → count_of new first bs ≡ count_of old first (blocks ++ bs)

-- each of these has the bytes that were put in
abbrev pub HaveBytes : ℕ → List (ℕ × Block) → Batch → Type 0
HaveBytes first [] joined = Unit {0}
HaveBytes first (e ∷ es) joined = (bytes_at (first + e.0) joined ≡ Some e.1.bytes) × HaveBytes first es joined

abbrev pub PutsEach : Type 0
PutsEach = (first : ℕ) (placed : List (ℕ × Block)) (joined : Batch) → AllDiffer (placed_in placed) → HaveBytes first placed (with_all first placed joined)

abbrev pub PutsOthers : Type 0
PutsOthers = (first at : ℕ) (placed : List (ℕ × Block)) (joined : Batch) → ((b : ℕ) → In b (placed_in placed) → first + b ≡ at → ⊥) → bytes_at at (with_all first placed joined) ≡ bytes_at at joined

abbrev pub PutsAll : Type 0
PutsAll = (first : ℕ) (placed : List (ℕ × Block)) (joined : Batch) → AreAllJoined first (placed_in placed) (with_all first placed joined)

abbrev pub FindsAll : Type 0
FindsAll = (told : Option Contents) (first : ℕ) (blocks : List ℕ) (old new : Batch) → AreFound told first blocks old new → AreAllJoined first blocks new

-- what was joined is joined, with the bytes that it had
abbrev pub FindsKeep : Type 0
FindsKeep = (told : Option Contents) (first at : ℕ) (bytes : List ℕ) (blocks : List ℕ) (old new : Batch) → AreFound told first blocks old new → bytes_at at old ≡ Some bytes → bytes_at at new ≡ Some bytes

abbrev pub FindsOthers : Type 0
FindsOthers = (told : Option Contents) (first at : ℕ) (blocks : List ℕ) (old new : Batch) → AreFound told first blocks old new → ((b : ℕ) → In b blocks → first + b ≡ at → ⊥) → bytes_at at new ≡ bytes_at at old

-- all that were to be joined are counted
abbrev pub CountsJoined : Type 0
CountsJoined = (first : ℕ) (blocks : List ℕ) (old new : Batch) → CountsAll first blocks old new → length new ≡ count_of old first blocks

-- with more blocks to be joined, no fewer are joined
abbrev pub CountGrows : Type 0
CountGrows = (joined : Batch) (first : ℕ) (xs ys : List ℕ) → count_of joined first xs ≤ count_of joined first (xs ++ ys)

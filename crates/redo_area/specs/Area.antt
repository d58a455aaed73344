-- What the two regions of a device stand for.
use Rattle.std.specs.Prelude.{◌≡◌, ◌<◌, ℕ, ◌+◌, Bool, false, ◌==◌, if◌then◌else◌, List, [], ◌∷◌, slice_index, slice_set, ⊤}
use Rattle.byte_fields.specs.Zeros.{zeros}
use Rattle.byte_fields.specs.declared.block.Block.{Block}
use Rattle.blk_device.specs.declared.device.Region.{Region}
use Rattle.blk_device.specs.declared.device.Region.TheVariants.{Image, Redo}
use Rattle.blk_device.specs.Contents.{Contents, put}
use Rattle.redo_area.specs.Table.{places, table_bytes, table_numbers}

-- the bytes of each block of an image
abbrev pub Blocks : Type 0
Blocks = ℕ → List ℕ

-- the numbers of image blocks, each with bytes
abbrev pub Batch : Type 0
Batch = List (ℕ × List ℕ)

-- a batch waits: the first byte of the redo region is 1
abbrev pub is_open : Contents → Bool
is_open c = slice_index (c Redo 0) 0 == 1

-- the gate with this in its first byte
unfoldable pub gate_bytes : ℕ → List ℕ
gate_bytes value = slice_set zeros 0 value

-- these numbers, each with its copy, from the k-th block on
abbrev pub with_copies : Blocks → List ℕ → ℕ → Batch
with_copies copies [] k = []
with_copies copies (n ∷ ns) k = (n, copies k) ∷ with_copies copies ns (k + 1)

-- the batch that stands behind the gate: the numbers in block 1, the copies from block 2 on
abbrev pub waiting_batch : Contents → Batch
waiting_batch c = with_copies (c Redo) (table_numbers (c Redo 1)) 2

-- the image with a batch written
abbrev pub with_batch : Batch → Blocks → Blocks
with_batch [] image = image
with_batch (p ∷ ps) image = with_batch ps (λ b. if b == p.0 then p.1 else image b)

-- what a device's contents after a crash stand for
abbrev pub after_crash : Contents → Blocks
after_crash c = if is_open c then with_batch (waiting_batch c) (c Image) else c Image

-- two images are the same but for the blocks in K
abbrev pub SameBut : (ℕ → Bool) → Blocks → Blocks → Type 0
SameBut K image other = (b : ℕ) → K b ≡ false → image b ≡ other b

-- the numbers and bytes of a batch
abbrev pub bytes_of : List (ℕ × Block) → Batch
bytes_of [] = []
bytes_of (p ∷ ps) = (p.0, p.1.bytes) ∷ bytes_of ps

-- the contents with the copies of a batch, from block k on
abbrev pub put_copies : List (ℕ × Block) → ℕ → Contents → Contents
put_copies [] k c = c
put_copies (p ∷ ps) k c = put_copies ps (k + 1) (put Redo k p.1.bytes c)

-- the contents with table and copies of a batch, for an image of this size
abbrev pub staged : ℕ → List (ℕ × Block) → Contents → Contents
staged size batch c = put_copies batch 2 (put Redo 1 (table_bytes size (places batch)) c)

-- the contents with the blocks of a batch
abbrev pub put_homes : Batch → Contents → Contents
put_homes [] c = c
put_homes (p ∷ ps) c = put_homes ps (put Image p.0 p.1 c)

-- the contents with the copies that stand from block k on at the places of these numbers
abbrev pub put_waiting : List ℕ → ℕ → Contents → Contents
put_waiting ns k c = put_homes (with_copies (c Redo) ns k) c

-- the contents with the batch of a table written, and the gate closed
abbrev pub closed_over : List ℕ → Contents → Contents
closed_over table c = put Redo 0 (gate_bytes 0) (put_waiting (table_numbers table) 2 c)

-- the contents after a recovery: only a batch that waits changes them
abbrev pub after_recovery : Contents → Contents
after_recovery c = if is_open c then closed_over (c Redo 1) c else c

-- the numbers alone
abbrev pub homes_of : Batch → List ℕ
homes_of [] = []
homes_of (p ∷ ps) = p.0 ∷ homes_of ps

-- b isn't one of them
abbrev pub Misses : List ℕ → ℕ → Type 0
Misses [] b = ⊤
Misses (n ∷ ns) b = ((b == n) ≡ false) × Misses ns b

-- what stays while table and copies are written: the image and the gate
abbrev pub BehindGate : Region → ℕ → Type 0
BehindGate Image b = ⊤
BehindGate Redo b = b ≡ 0

-- what stays while the gate is written
abbrev pub AllButGate : Region → ℕ → Type 0
AllButGate Image b = ⊤
AllButGate Redo b = 0 < b

-- what stays while the blocks of these numbers are written
abbrev pub AllButHomes : List ℕ → Region → ℕ → Type 0
AllButHomes ns Image b = Misses ns b
AllButHomes ns Redo b = ⊤

-- What a change behind a joined block changes.
use Rattle.std.specs.Prelude.{◌≡◌, ◌<◌, ℕ, ◌==◌, if◌then◌else◌, List, Some}
use Rattle.redo_area.specs.Area.{Batch, Blocks}
use Rattle.meta_txn.specs.Joined.{Joined, bytes_at, with_block, written, AreBelow}

abbrev pub ChangesOneBlock : Type 0
ChangesOneBlock = (b at : ℕ) (bytes : List ℕ) (ps : Batch) → bytes_at b (with_block at bytes ps) ≡ (if b == at then Some bytes else bytes_at b ps)

abbrev pub WritesOneBlock : Type 0
WritesOneBlock = (image : Blocks) (txn : Joined) (b at : ℕ) (bytes : List ℕ) → written image (record txn { blocks = with_block at bytes txn.blocks }) b ≡ (if b == at then bytes else written image txn b)

abbrev pub StaysBelow : Type 0
StaysBelow = (size at : ℕ) (bytes : List ℕ) (ps : Batch) → AreBelow size ps → at < size → AreBelow size (with_block at bytes ps)

-- What a transaction becomes by a write behind a joined block.
use Rattle.std.specs.Prelude.{ℕ, Result}
use Rattle.std.specs.Borrow.{Lends, LendsIfOk, MutBor, Fml}
use Rattle.byte_fields.specs.declared.block.Block.{Block}
use Rattle.byte_fields.specs.contracts.block.Block.{the_row as block_row}
use Rattle.meta_txn.specs.contracts.txn.Txn.{the_row}
use Rattle.meta_txn.specs.Joined.{Joined, with_block}
use Rattle.meta_txn.specs.Places.{set_bytes}

-- the transaction ends with what is left behind the reference in place i, and nothing else changed
abbrev pub LendsPlace : MutBor Joined → ℕ → MutBor Block → Fml
LendsPlace txn i block = Lends the_row block_row txn block (λ left. record txn.now { blocks = set_bytes i left.bytes txn.now.blocks })

-- the transaction ends with what is left behind the reference joined at this number, and nothing else changed; at Err nothing changed
abbrev pub LendsJoined : {E : Type 0} → MutBor Joined → ℕ → Result (MutBor Block) E → Fml
LendsJoined txn at result = LendsIfOk the_row block_row txn result (λ left. record txn.now { blocks = with_block at left.bytes txn.now.blocks }) txn.now

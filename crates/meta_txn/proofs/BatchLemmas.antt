-- What a transaction always is, and what a look at a block finds.
use Rattle.std.proofs.Common.{◌≡◌, ◌≤◌, ◌^◌, ℕ, true, List, [], ◌∷◌, length, Option, Some, None, Result, Ok, Err, IfOk, ap, arith, refl, subst, sym, ◌∙◌}
use Rattle.std.specs.Prelude.{MatchOption}
use Rattle.byte_fields.specs.declared.block.Block.{Block}
use Rattle.blk_device.specs.Contents.{Contents, Holds}
use Rattle.blk_device.specs.declared.device.Region.TheVariants.{Image}
use Rattle.redo_area.specs.Area.{Batch, bytes_of}
use Rattle.redo_area.specs.Table.{places, rises}
use Rattle.redo_area.proofs.AreaLaws.{homes_of_bytes}
use Rattle.meta_txn.specs.Joined.{bytes_at, AreWhole, Finds, IsBatch}
use Rattle.meta_txn.specs.declared.fault.TxnFault.{TxnFault}
use Rattle.meta_txn.proofs.ListLemmas.{length_bytes_of}

whole_bytes : (items : List (ℕ × Block)) → AreWhole (bytes_of items)
whole_bytes [] = tt
whole_bytes (p ∷ ps) = (p.1.whole, whole_bytes ps)

pub is_batch : (items : List (ℕ × Block)) (blocks : Batch) → bytes_of items ≡ blocks → length items ≤ 160 → rises 0 (2 ^ 64) (places items) ≡ true → IsBatch blocks
is_batch items blocks is few rise =
    subst IsBatch is (record { few = omega (arith, few, length_bytes_of items); rise = ap (rises 0 (2 ^ 64)) (homes_of_bytes items) ∙ rise; whole = whole_bytes items })

pub finds_joined : (at : ℕ) (blocks : Batch) (told : Option Contents) (bytes : List ℕ) → bytes_at at blocks ≡ Some bytes → Finds at blocks told bytes
finds_joined at blocks told bytes is = subst (λ (o : Option (List ℕ)). MatchOption o (Holds Image at bytes told) (λ joined. bytes ≡ joined)) (sym is) refl

pub finds_read : (result : Result Block TxnFault) (at : ℕ) (blocks : Batch) (told : Option Contents) → bytes_at at blocks ≡ None → IfOk result (λ block. Holds Image at block.bytes told) → IfOk result (λ block. Finds at blocks told block.bytes)
finds_read (Ok block) at blocks told none holds = subst (λ (o : Option (List ℕ)). MatchOption o (Holds Image at block.bytes told) (λ joined. block.bytes ≡ joined)) (sym none) holds
finds_read (Err fault) at blocks told none holds = tt

-- Why blocks of a tree can't be joined, and which faults are the device's.
use Rattle.std.specs.Prelude.{◌≡◌, ⊤, ℕ, ◌<◌, Bool, true, false}
use Rattle.redo_area.specs.declared.TheConstants.{MAX_BATCH}
use Rattle.meta_txn.specs.declared.fault.TxnFault.{TxnFault}
use Rattle.meta_txn.specs.declared.fault.TxnFault.TheVariants.{TooMany, Failed as TxnFailed}
use Rattle.tree_edit.specs.declared.fault.EditFault.{EditFault}
use Rattle.tree_edit.specs.declared.fault.EditFault.TheVariants.{Bad, Missing, Overlap, Short, TooLarge, Failed, Memory}

abbrev pub is_devices : EditFault → Bool
is_devices (Bad block fault) = false
is_devices Missing = false
is_devices Overlap = false
is_devices (Short have need) = false
is_devices (TooLarge n) = false
is_devices Failed = true
is_devices Memory = false

-- what a transaction refuses, as an edit tells it
abbrev pub joined_as : TxnFault → EditFault
joined_as (TooMany n) = TooLarge n
joined_as TxnFailed = Failed

-- the transaction would have so many blocks, more than a batch has
abbrev pub RefusesJoin : ℕ → EditFault → Type 0
RefusesJoin count (Bad block fault) = ⊥
RefusesJoin count Missing = ⊥
RefusesJoin count Overlap = ⊥
RefusesJoin count (Short have need) = ⊥
RefusesJoin count (TooLarge n) = (n ≡ count) × (MAX_BATCH < n)
RefusesJoin count Failed = ⊤
RefusesJoin count Memory = ⊤

-- Which faults of a transaction are the device's.
use Rattle.std.specs.Prelude.{Bool, true, false}
use Rattle.meta_txn.specs.declared.fault.TxnFault.{TxnFault}
use Rattle.meta_txn.specs.declared.fault.TxnFault.TheVariants.{TooMany, Failed}

abbrev pub is_device : TxnFault → Bool
is_device (TooMany n) = false
is_device Failed = true

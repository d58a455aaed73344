-- The laws of keys and pointers in a node, for proofs.
pub use Rattle.sblock.specs.AreaLaws.{pointer_lies, child_taken, child_others, field_stays, child_stays}

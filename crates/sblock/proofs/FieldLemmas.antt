-- The laws of fields, for proofs.
pub use Rattle.sblock.specs.FieldLaws.{field_taken, field_before, field_behind, field_beside, field_length}

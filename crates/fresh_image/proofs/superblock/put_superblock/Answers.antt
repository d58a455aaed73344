use Rattle.std.proofs.Common.{sym, arith}
use Rattle.std.proofs.lemmas.List.{length-take-le}
use Rattle.fresh_image.proofs.superblock.put_superblock.Goals as goal

pub slice_bounds-sum_at-end-2 : goal.slice_bounds-sum_at-end-2
slice_bounds-sum_at-end-2 c = sym (length-take-le 512 c.put_fields.new.bytes (omega (arith, c.put_fields.auto.bytes, c.requires)))

pub sum_at-sum-requires : goal.sum_at-sum-requires
sum_at-sum-requires c = omega (arith, length-take-le 512 c.put_fields.new.bytes (omega (arith, c.put_fields.auto.bytes, c.requires)))

use Rattle.std.proofs.Common.{arith, w64}
use Rattle.std.proofs.lemmas.Nat.Bits.{bit_at-trailing_zeros}
use Rattle.inode_table.proofs.masks.lowest_bit.Goals as goal

pub returns-clause-set : goal.returns-clause-set
returns-clause-set c =
    let found = bit_at-trailing_zeros w64 c.args.mask (omega (arith, c.if-mask-eq0.false)) c.ranges.mask.fits in
    (found.0, found.1)

pub returns-clause-lowest : goal.returns-clause-lowest
returns-clause-lowest c = (bit_at-trailing_zeros w64 c.args.mask (omega (arith, c.if-mask-eq0.false)) c.ranges.mask.fits).2

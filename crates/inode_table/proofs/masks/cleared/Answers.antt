use Rattle.std.proofs.Common.{w64, sym}
use Rattle.std.proofs.lemmas.Nat.Bits.{bit_at_clear_same}
use Rattle.inode_table.proofs.MaskLemmas.{one_more, clear_other}
use Rattle.inode_table.proofs.masks.cleared.Goals as goal

pub returns : goal.returns
returns c =
    let same = bit_at_clear_same w64 c.args.mask c.args.slot c.requires.inside in
    let others = clear_other c.args.mask c.args.slot c.ranges.mask.fits c.requires.inside in
    record { turned = same; others = others; ones = one_more _ c.args.mask c.args.slot (record { clear = same; set = c.requires.set; others = λ i other. sym (others i other) }) }

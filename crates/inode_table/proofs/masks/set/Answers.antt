use Rattle.std.proofs.Common.{w64}
use Rattle.std.proofs.lemmas.Nat.Bits.{bit_at_set_same, bit_at_set_other}
use Rattle.inode_table.proofs.MaskLemmas.{one_more}
use Rattle.inode_table.proofs.masks.set.Goals as goal

pub returns : goal.returns
returns c =
    let same = bit_at_set_same w64 c.args.mask c.args.slot c.requires.inside in
    let others = bit_at_set_other w64 c.args.mask c.args.slot c.requires.inside in
    record { turned = same; others = others; ones = one_more c.args.mask _ c.args.slot (record { clear = c.requires.clear; set = same; others = others }) }

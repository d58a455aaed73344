-- That the blocks of groups lie apart on the device, and inside the image.
use Rattle.std.proofs.Common.{ℕ, ◌+◌, ◌-◌, ◌*◌, ◌<◌, ◌≤◌, ap, sym, ◌∙◌, arith}
use Rattle.std.specs.Prelude.{◌/◌}
use Rattle.std.proofs.Math.Nat.{mul-le-mul_left}
use Rattle.std.proofs.lemmas.Nat.{div-mul-add}
use Rattle.std.proofs.lemmas.Bool.Decides.{nat_tests}
use Rattle.geom.specs.Apart.{HasFitting, Splits, GroupsDiffer, BlocksDiffer, LiesInside}
use Rattle.geom.specs.Layout.{Layout, group_len_of}
use Rattle.geom.specs.Numbers.{length_of}
use Rattle.geom.proofs.NumbersLemmas.{splits_back, within}

pub splits_in : (at : Layout) → HasFitting at → Splits at
splits_in at fit g b gl bl = splits_back at.agblocks at.agcount at.dblocks at.agblklog g b (within at.agblocks at.agcount at.dblocks at.agblklog fit g b bl) gl bl

short : (at : Layout) → HasFitting at → (g p : ℕ) → p < group_len_of at g → p < at.agblocks
short at fit g p h = grind (arith, nat_tests)

pub groups_differ : (at : Layout) → HasFitting at → GroupsDiffer at
groups_differ at fit g h p q pl ql same =
    let a = div-mul-add g at.agblocks p (short at fit g p pl) in
    let b = div-mul-add h at.agblocks q (short at fit h q ql) in
    sym a ∙ ap (λ n. n / at.agblocks) same ∙ b

pub blocks_differ : (at : Layout) → BlocksDiffer at
blocks_differ at g p q same = omega (arith, same)

-- a group ends inside the image
pub ends_inside : (agblocks agcount dblocks g : ℕ) → g < agcount → 64 ≤ dblocks - (agcount - 1) * agblocks → g * agblocks + length_of agblocks agcount dblocks g ≤ dblocks
ends_inside agblocks agcount dblocks g gl last = grind (arith, nat_tests, mul-le-mul_left)

pub lies_inside : (at : Layout) → HasFitting at → LiesInside at
lies_inside at fit g b gl bl = let e = ends_inside at.agblocks at.agcount at.dblocks g gl fit.last_long in omega (arith, e, bl)

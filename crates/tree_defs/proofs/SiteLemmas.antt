-- A group lies in the image, and the places of its blocks are numbers of 64 bits.
use Rattle.std.proofs.Common.{ℕ, ◌+◌, ◌-◌, ◌*◌, ◌^◌, ◌<◌, ◌≤◌, arith}
use Rattle.std.proofs.Math.Nat.{mul-le-mul_left}
use Rattle.std.proofs.lemmas.Bool.Decides.{nat_tests}
use Rattle.geom.specs.Numbers.{length_of}

pub has_first : (agblocks agcount dblocks g : ℕ) → g < agcount → 64 ≤ agblocks → 64 ≤ dblocks - (agcount - 1) * agblocks → 0 < length_of agblocks agcount dblocks g
has_first agblocks agcount dblocks g gh long fit = grind (arith, nat_tests)

pub lies : (agblocks agcount dblocks g : ℕ) → g < agcount → 64 ≤ dblocks - (agcount - 1) * agblocks → g * agblocks + length_of agblocks agcount dblocks g ≤ dblocks
lies agblocks agcount dblocks g gh fit = grind (arith, nat_tests, mul-le-mul_left)

few_blocks : (agblocks agcount dblocks : ℕ) → agcount ≤ 65536 → agblocks ≤ 268435456 → dblocks - (agcount - 1) * agblocks ≤ agblocks → dblocks ≤ 2 ^ 44
few_blocks agblocks agcount dblocks few short fit =
    let most : (agcount - 1) * agblocks ≤ (agcount - 1) * 268435456 = mul-le-mul_left (agcount - 1) short in
    omega (arith, most)

pub places_fit : (agblocks agcount dblocks g : ℕ) → g < agcount → agcount ≤ 65536 → agblocks ≤ 268435456 → 64 ≤ dblocks - (agcount - 1) * agblocks → dblocks - (agcount - 1) * agblocks ≤ agblocks → 8 * (g * agblocks + length_of agblocks agcount dblocks g) < 2 ^ 64
places_fit agblocks agcount dblocks g gh few short long fit =
    let inside = lies agblocks agcount dblocks g gh long in
    let most = few_blocks agblocks agcount dblocks few short fit in
    omega (arith, inside, most)

pub is_short : (agblocks agcount dblocks g : ℕ) → agblocks ≤ 268435456 → dblocks - (agcount - 1) * agblocks ≤ agblocks → length_of agblocks agcount dblocks g ≤ 268435456
is_short agblocks agcount dblocks g short fit = grind (arith, nat_tests)

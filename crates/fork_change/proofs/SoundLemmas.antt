-- Mappings without a fault fit.
use Rattle.std.proofs.Common.{◌≡◌, ℕ, zero, suc, ◌+◌, ◌*◌, ◌/◌, ◌%◌, ◌^◌, ◌<◌, ◌≤◌, ◌&&◌, Bool, true, false, List, [], Option, Some, None, refl, arith}
use Rattle.std.specs.Prelude.{nat_le, nat_lt, not, drop, if◌then◌else◌}
use Rattle.std.proofs.Math.Nat.{div-add-mod}
use Rattle.std.proofs.lemmas.Bool.{and_parts, false≢true, leb-true, ltb-true}
use Rattle.std.proofs.lemmas.Bool.Decides.{nat_tests}
use Rattle.byte_fields.proofs.TestLemmas.{all_pass}
use Rattle.dinode_core.specs.Inline.{ends_in_group, first_bad, in_range, inline_fault, inline_mappings, is_attr, is_extents, mapping_fault, mapping_tests, mappings_in, or_else, form_fault}
use Rattle.dinode_core.specs.Packed.{unpacked}
use Rattle.dinode_core.specs.Shape.{area_of, count_of, format_of, is_absent}
use Rattle.dinode_core.specs.declared.mapping.Fork.{Fork}
use Rattle.dinode_core.specs.declared.mapping.ForkFault.{ForkFault}
use Rattle.dinode_core.specs.declared.mapping.Mapping.{Mapping}
use Rattle.geom.proofs.NumbersLemmas.{number_fits}
use Rattle.geom.specs.Apart.{HasFitting}
use Rattle.geom.specs.Layout.{Layout, group_len_of, split_of}
use Rattle.geom.specs.Numbers.{length_of, split}
use Rattle.fork_change.specs.Lists.{AllFit, Fits}
use Rattle.fork_change.specs.Sound.{SoundFits}

-- ---- no fault of a list is none of each mapping

none_left : (a b : Option ForkFault) → or_else a b ≡ None → (a ≡ None) × (b ≡ None)
none_left None b h = (refl, h)
none_left (Some fault) b h = cc

range_of : (at : Layout) (fork : Fork) (m : Mapping) (ms : List Mapping) → mapping_fault at fork m ms ≡ None → in_range at fork m ≡ true
unfolding mapping_fault
range_of at fork m ms h = (all_pass (mapping_tests at fork m ms) h).1.1.0

-- ---- a block with a place

-- where its run of blocks ends in the group
ends_below : (at : Layout) → HasFitting at → (block count : ℕ) → ends_in_group at (split_of at block) count ≡ true → block + count ≤ 2 ^ 52
unfolding split
ends_below at fit block count h = by (nat_lt (block / 2 ^ at.agblklog) at.agcount && nat_lt (block % 2 ^ at.agblklog) (group_len_of at (block / 2 ^ at.agblklog))) refl h
  where
    short : (g : ℕ) → group_len_of at g ≤ 268435456
    short g = by_last g
      where
        by_last : (g : ℕ) → length_of at.agblocks at.agcount at.dblocks g ≤ 268435456
        by_last g = grind (arith, nat_tests, fit.short_groups, fit.last_short)

    by : (t : Bool) → (nat_lt (block / 2 ^ at.agblklog) at.agcount && nat_lt (block % 2 ^ at.agblklog) (group_len_of at (block / 2 ^ at.agblklog))) ≡ t
        → ends_in_group at (if t then Some (block / 2 ^ at.agblklog, block % 2 ^ at.agblklog) else None) count ≡ true → block + count ≤ 2 ^ 52
    by false e i = absurd (false≢true i)
    by true e i =
        let g : ℕ = block / 2 ^ at.agblklog in
        let inside = ltb-true g at.agcount (and_parts (nat_lt g at.agcount) (nat_lt (block % 2 ^ at.agblklog) (group_len_of at g)) e).0 in
        let ends = leb-true (block % 2 ^ at.agblklog + count) (group_len_of at g) i in
        let len = short g in
        let low : g * 2 ^ at.agblklog < 2 ^ 46 = number_fits g at.agblklog (omega (arith, inside, fit.few_groups)) fit.small_log in
        omega (arith, ends, len, low, div-add-mod block (2 ^ at.agblklog))

-- ---- one mapping, and all

fits_one : (at : Layout) (fork : Fork) → HasFitting at → (m : Mapping) → m.count < 2 ^ 21 → in_range at fork m ≡ true → Fits m
unfolding in_range
fits_one at fork fit m few h =
    let front = and_parts (nat_le 1 m.count && ends_in_group at (split_of at m.block) m.count && nat_le (m.offset + m.count) (2 ^ 54)) (not (m.unwritten && is_attr fork)) h in
    let two = and_parts (nat_le 1 m.count && ends_in_group at (split_of at m.block) m.count) (nat_le (m.offset + m.count) (2 ^ 54)) front.0 in
    let one = and_parts (nat_le 1 m.count) (ends_in_group at (split_of at m.block) m.count) two.0 in
    let some = leb-true 1 m.count one.0 in
    record { some = omega (arith, some); count = few; offset = leb-true (m.offset + m.count) (2 ^ 54) two.1; block = ends_below at fit m.block m.count one.1 }

few_packed : (bytes : List ℕ) → (unpacked bytes).count < 2 ^ 21
unfolding unpacked
few_packed bytes = omega arith

all_fit : (at : Layout) (fork : Fork) → HasFitting at → (n : ℕ) (bytes : List ℕ) → first_bad at fork (mappings_in n bytes) ≡ None → AllFit (mappings_in n bytes)
unfolding mappings_in first_bad
all_fit at fork fit zero bytes h = tt
all_fit at fork fit (suc n) bytes h =
    let two = none_left (mapping_fault at fork (unpacked bytes) (mappings_in n (drop 16 bytes))) (first_bad at fork (mappings_in n (drop 16 bytes))) h in
    (fits_one at fork fit (unpacked bytes) (few_packed bytes) (range_of at fork (unpacked bytes) (mappings_in n (drop 16 bytes)) two.0), all_fit at fork fit n (drop 16 bytes) two.1)

pub sound_fits : SoundFits
unfolding inline_fault inline_mappings
sound_fits at core fork fit h = by (is_absent core fork) (is_extents (format_of core fork)) (none_left (form_fault core fork) _ h).1
  where
    by : (absent extents : Bool) → first_bad at fork (if absent then [] else (if extents then mappings_in (count_of core fork) (area_of core fork) else [])) ≡ None
        → AllFit (if absent then [] else (if extents then mappings_in (count_of core fork) (area_of core fork) else []))
    by true extents e = tt
    by false true e = all_fit at fork fit (count_of core fork) (area_of core fork) e
    by false false e = tt

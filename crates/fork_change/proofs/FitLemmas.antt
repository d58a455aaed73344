-- Two mappings that meet fit as one.
use Rattle.std.proofs.Common.{◌≡◌, ℕ, ◌+◌, ◌/◌, ◌^◌, ◌≤◌, true, arith}
use Rattle.std.specs.Prelude.{◌==◌, ◌&&◌, nat_le}
use Rattle.std.proofs.lemmas.Bool.{and_parts, eqb-true}
use Rattle.std.proofs.lemmas.Bool.Decides.{nat_tests}
use Rattle.dinode_core.specs.declared.mapping.Mapping.{Mapping}
use Rattle.fork_change.specs.Lists.{Fits, meets, joined, is_same_flag}

le_of_test : (m n : ℕ) → nat_le m n ≡ true → m ≤ n
le_of_test m n h = grind (arith, nat_tests)

pub joined_fits : (l : ℕ) (p q : Mapping) → meets l p q ≡ true → Fits p → Fits q → Fits (joined p q)
joined_fits l p q h f g =
    let a = and_parts (p.offset + p.count == q.offset) ((p.block + p.count == q.block) && ((p.block / 2 ^ l == q.block / 2 ^ l) && (is_same_flag p.unwritten q.unwritten && nat_le (p.count + q.count) 2097151))) h in
    let b = and_parts (p.block + p.count == q.block) ((p.block / 2 ^ l == q.block / 2 ^ l) && (is_same_flag p.unwritten q.unwritten && nat_le (p.count + q.count) 2097151)) a.1 in
    let c = and_parts (p.block / 2 ^ l == q.block / 2 ^ l) (is_same_flag p.unwritten q.unwritten && nat_le (p.count + q.count) 2097151) b.1 in
    let d = and_parts (is_same_flag p.unwritten q.unwritten) (nat_le (p.count + q.count) 2097151) c.1 in
    let offset = eqb-true (p.offset + p.count) q.offset a.0 in
    let block = eqb-true (p.block + p.count) q.block b.0 in
    let sum = le_of_test (p.count + q.count) 2097151 d.1 in
    let fs = f.some in let go = g.offset in let gb = g.block in
    record { some = omega (arith, fs); count = omega (arith, sum); offset = omega (arith, offset, go); block = omega (arith, block, gb) }

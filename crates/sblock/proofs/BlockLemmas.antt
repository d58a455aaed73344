-- What the tests of a block say of its records, or of its keys and pointers.
use Rattle.std.proofs.Common.{◌≡◌, ℕ, ◌+◌, ◌<◌, ◌≤◌, Bool, true, false, List, None, arith}
use Rattle.std.proofs.lemmas.Bool.{and_parts, eqb-true, leb-true}
use Rattle.std.proofs.lemmas.Bool.Decides.{nat_tests}
use Rattle.std.specs.Prelude.{◌==◌, not, ◌||◌}
use Rattle.byte_fields.specs.Fields.{field}
use Rattle.byte_fields.proofs.BelowLemmas.{each_below}
use Rattle.byte_fields.proofs.TestLemmas.{all_pass}
use Rattle.sblock.specs.Area.{area_of, child_of}
use Rattle.sblock.specs.Form.{Form}
use Rattle.sblock.specs.Blocks.{numrecs, level_fits, most_of, count_fits, key_in, rises_at, is_rising, is_child_inside, is_record_inside, is_inside, are_inside, is_supported_at, are_supported, block_tests, block_fault, records_of, keys_of, children_of, AreKeysRising, IsRising, AllInside, AllSupported, AreBlocks}
use Rattle.sblock.specs.declared.block.Want.{Want}
use Rattle.sblock.proofs.ListLemmas.{items_rise, items_each}

-- what the tests say that passed
pub record Passed {R K : Type 0} (form : Form R K) (bytes : List ℕ) (want : Want) : Type 0 where
  pub level : level_fits want.level (field 2 bytes 4) ≡ true
  pub fits : count_fits want.kind (want.level == 0) want.root (numrecs bytes) ≡ true
  pub rising : is_rising form (want.level == 0) (area_of bytes) (numrecs bytes) ≡ true
  pub inside : are_inside form (want.level == 0) want.bounds (area_of bytes) (numrecs bytes) ≡ true
  pub supported : are_supported form (want.level == 0) (area_of bytes) (numrecs bytes) ≡ true

pub passed : {R K : Type 0} (form : Form R K) (bytes : List ℕ) (want : Want) → block_fault form bytes want ≡ None → Passed form bytes want
unfolding block_fault
passed form bytes want h =
    let all = all_pass (block_tests form bytes want) h in
    let from_level = all.1 in
    let from_count = from_level.1 in
    let from_order = from_count.1.1.1.1.1.1 in
    record { level = from_level.0; fits = from_count.0; rising = from_order.0; inside = from_order.1.0; supported = from_order.1.1.0 }

pub has_level : {R K : Type 0} (form : Form R K) (bytes : List ℕ) (want : Want) → block_fault form bytes want ≡ None → (field 2 bytes 4 ≡ want.level) × (want.level ≤ 8)
unfolding level_fits
has_level form bytes want h =
    let parts = and_parts _ _ (passed form bytes want h).level in
    (eqb-true _ _ parts.1, leb-true _ _ parts.0)

pub has_room : {R K : Type 0} (form : Form R K) (bytes : List ℕ) (want : Want) → block_fault form bytes want ≡ None → numrecs bytes ≤ most_of want.kind (want.level == 0)
unfolding count_fits
has_room form bytes want h = leb-true _ _ (and_parts _ _ (passed form bytes want h).fits).1

is_zero : (n : ℕ) → n ≡ 0 → (n == 0) ≡ true
is_zero n h = grind (arith, nat_tests)

not_zero : (n : ℕ) → 0 < n → (n == 0) ≡ false
not_zero n h = grind (arith, nat_tests)

-- a record that is supported and inside is in range
in_range : (supported inside : Bool) → (not supported || inside) ≡ true → supported ≡ true → inside ≡ true
in_range true inside h b = h
in_range false inside h b = cc

-- for a leaf
module _ {R K : Type 0} (form : Form R K) (bytes : List ℕ) (want : Want) (pass : block_fault form bytes want ≡ None) (leaf : want.level ≡ 0) where
  rises : (k : ℕ) → k + 1 < numrecs bytes → form.is_before (form.key_of (form.record_at (area_of bytes) k)) (form.key_of (form.record_at (area_of bytes) (k + 1))) ≡ true
  unfolding is_rising rises_at key_in
  rises k lt =
      let all = rw (is_zero want.level leaf) at ((passed form bytes want pass).rising) in
      each_below _ _ k all (omega arith)

  is_supported : (k : ℕ) → k < numrecs bytes → form.is_supported (form.record_at (area_of bytes) k) ≡ true
  unfolding are_supported is_supported_at
  is_supported k lt =
      let all = rw (is_zero want.level leaf) at ((passed form bytes want pass).supported) in
      each_below _ _ k all lt

  lies_inside : (k : ℕ) → k < numrecs bytes → form.is_in_range want.bounds (form.record_at (area_of bytes) k) ≡ true
  unfolding are_inside is_inside is_record_inside
  lies_inside k lt =
      let all = rw (is_zero want.level leaf) at ((passed form bytes want pass).inside) in
      in_range _ _ (each_below _ _ k all lt) (is_supported k lt)

  pub records_rise : IsRising form (records_of form bytes)
  unfolding records_of
  records_rise = items_rise _ (form.record_at (area_of bytes)) (numrecs bytes) 0 (λ k low high. rises k (omega arith))

  pub records_lie_inside : AllInside form want.bounds (records_of form bytes)
  unfolding records_of
  records_lie_inside = items_each _ (form.record_at (area_of bytes)) (numrecs bytes) 0 (λ k low high. lies_inside k (omega arith))

  pub records_are_supported : AllSupported form (records_of form bytes)
  unfolding records_of
  records_are_supported = items_each _ (form.record_at (area_of bytes)) (numrecs bytes) 0 (λ k low high. is_supported k (omega arith))

-- for a node
module _ {R K : Type 0} (form : Form R K) (bytes : List ℕ) (want : Want) (pass : block_fault form bytes want ≡ None) (node : 0 < want.level) where
  key_rises : (k : ℕ) → k + 1 < numrecs bytes → form.is_before (form.key_at (area_of bytes) k) (form.key_at (area_of bytes) (k + 1)) ≡ true
  unfolding is_rising rises_at key_in
  key_rises k lt =
      let all = rw (not_zero want.level node) at ((passed form bytes want pass).rising) in
      each_below _ _ k all (omega arith)

  child_lies_inside : (k : ℕ) → k < numrecs bytes → is_child_inside form.kind want.bounds (area_of bytes) k ≡ true
  unfolding are_inside is_inside
  child_lies_inside k lt =
      let all = rw (not_zero want.level node) at ((passed form bytes want pass).inside) in
      each_below _ _ k all lt

  pub keys_rise : AreKeysRising form (keys_of form bytes)
  unfolding keys_of
  keys_rise = items_rise _ (form.key_at (area_of bytes)) (numrecs bytes) 0 (λ k low high. key_rises k (omega arith))

  pub children_lie_inside : AreBlocks want.bounds.length (children_of form bytes)
  unfolding children_of is_child_inside
  children_lie_inside = items_each _ (child_of form.kind (area_of bytes)) (numrecs bytes) 0 (λ k low high. child_lies_inside k (omega arith))

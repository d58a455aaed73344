-- What a record has whose high key is made of numbers that fit.
use Rattle.std.proofs.Common.{◌≡◌, ◌<◌, ◌≤◌, ℕ, ◌+◌, ◌-◌, ◌%◌, ◌^◌, Bool, true, false, not, arith, refl}
use Rattle.std.specs.Prelude.{nat_le, ◌&&◌, ◌||◌}
use Rattle.std.proofs.lemmas.Bool.{false≢true}
use Rattle.std.proofs.lemmas.Bool.Decides.{nat_tests}
use Rattle.rmap_recs.specs.Rmap.{has_end}
use Rattle.rmap_recs.specs.Words.{is_fork_data, offset_of}
use Rattle.rmap_recs.specs.declared.records.RmapRec.{RmapRec}

parts : (a b c : Bool) → (a && b && c) ≡ true → (a ≡ true) × (b ≡ true) × (c ≡ true)
parts true true true h = (refl, refl, refl)
parts true true false h = absurd (false≢true h)
parts true false c h = absurd (false≢true h)
parts false b c h = absurd (false≢true h)

le : (a b : ℕ) → nat_le a b ≡ true → a ≤ b
le a b h = grind (arith, nat_tests)

pub some_blocks : (r : RmapRec) → has_end r ≡ true → 1 ≤ r.count
unfolding has_end
some_blocks r h = le 1 r.count (parts _ _ _ h).0

pub last_block : (r : RmapRec) → has_end r ≡ true → r.start + r.count ≤ 2 ^ 32
unfolding has_end
last_block r h = le (r.start + r.count) (2 ^ 32) (parts (nat_le 1 r.count) _ _ h).1

where_data : (t c : Bool) → t ≡ true → (not t || c) ≡ true → c ≡ true
where_data true c e h = h
where_data false c e h = absurd (false≢true e)

pub last_offset : (r : RmapRec) → has_end r ≡ true → is_fork_data r.owner r.word ≡ true → offset_of r.word + r.count ≤ 2 ^ 54
unfolding has_end
last_offset r h data_is = le (offset_of r.word + r.count) (2 ^ 54) (where_data (is_fork_data r.owner r.word) _ data_is (parts (nat_le 1 r.count) _ _ h).2)

fits_above : (word count : ℕ) → word < 2 ^ 64 → word % 2 ^ 54 + count ≤ 2 ^ 54 → 1 ≤ count → word + (count - 1) < 2 ^ 64
fits_above word count fits ends some = omega arith

-- the offset word of the last block
pub last_word : (r : RmapRec) → r.word < 2 ^ 64 → has_end r ≡ true → is_fork_data r.owner r.word ≡ true → r.word + (r.count - 1) < 2 ^ 64
last_word r fits h data_is = fits_above r.word r.count fits (last_offset r h data_is) (some_blocks r h)

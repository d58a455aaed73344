-- The blocks of a redo file that are put on a device, and a device that has them beside an image.
use Rattle.std.proofs.Common.{◌≡◌, ◌<◌, ◌≤◌, ◌+◌, ◌-◌, ◌^◌, ℕ, zero, suc, List, Bool, true, false, cond, Option, Some, None, refl, sym, ◌∙◌, ap, arith}
use Rattle.std.specs.Prelude.{min, nat_lt, ◌==◌, if◌then◌else◌}
use Rattle.std.proofs.lemmas.Bool.Decides.{nat_tests}
use Rattle.byte_fields.specs.declared.block.Block.{Block}
use Rattle.std.specs.BTreeMap.{BTreeMap}
use Rattle.blk_device.specs.Causes.{one_more}
use Rattle.blk_device.specs.Contents.{Contents, map_told, put}
use Rattle.blk_device.specs.Stored.{stored, with_stored}
use Rattle.blk_device.specs.declared.device.Region.{Region}
use Rattle.blk_device.specs.declared.device.Region.TheVariants.{Image, Redo}
use Rattle.redo_area.specs.Counts.{raised}
use Rattle.image_hosts.specs.MemFiles.{redo_of, with_redo}
use Rattle.image_hosts.specs.Stored.{opened}
use Rattle.image_hosts.specs.declared.mem_host.MemRedo.{MemRedo}

below : (n most : ℕ) → n < most → nat_lt n most ≡ true
below n most h = grind (arith, nat_tests)

beyond : (n most : ℕ) → most ≤ n → nat_lt n most ≡ false
beyond n most h = grind (arith, nat_tests)

is_below : (n most : ℕ) → nat_lt n most ≡ true → n < most
is_below n most h = grind (arith, nat_tests)

eq_true : (a b : ℕ) → (a == b) ≡ true → a ≡ b
eq_true a b h = grind (arith, nat_tests)

is_beyond : (n most : ℕ) → nat_lt n most ≡ false → most ≤ n
is_beyond n most h = grind (arith, nat_tests)

eq_false : (a b : ℕ) → (a == b) ≡ false → a ≡ b → ⊥
eq_false a b h e = grind (arith, nat_tests)

next_beyond : (k b : ℕ) → k ≤ b → (b ≡ k → ⊥) → suc k ≤ b
next_beyond k b le ne = omega (arith, le, ne)

same_below : (b k : ℕ) → (b == k) ≡ false → nat_lt b (suc k) ≡ nat_lt b k
same_below b k h = by_low (nat_lt b k) refl
  where
    by_low : (t : Bool) → nat_lt b k ≡ t → nat_lt b (suc k) ≡ t
    by_low true low = below b (suc k) (omega (arith, is_below b k low))
    by_low false high = beyond b (suc k) (next_beyond k b (is_beyond b k high) (eq_false b k h))

module _ (held : ℕ → List ℕ) where
  put_image : (k : ℕ) (c : Contents) (b : ℕ) → with_redo held k c Image b ≡ c Image b
  put_image zero c b = refl
  put_image (suc k) c b = put_image k c b

  put_there : (k : ℕ) (c : Contents) (b : ℕ) → with_redo held k c Redo b ≡ (if nat_lt b k then held b else c Redo b)
  put_there zero c b = sym (ap (λ (t : Bool). cond t (held b) (c Redo b)) (beyond b 0 (omega arith)))
  put_there (suc k) c b = by_place (b == k) refl (put_there k c b)
    where
      by_place : (t : Bool) → (b == k) ≡ t → with_redo held k c Redo b ≡ (if nat_lt b k then held b else c Redo b) → (if t then held k else with_redo held k c Redo b) ≡ (if nat_lt b (suc k) then held b else c Redo b)
      by_place true h before = ap held (sym (eq_true b k h)) ∙ sym (ap (λ (t : Bool). cond t (held b) (c Redo b)) (below b (suc k) (omega (arith, eq_true b k h))))
      by_place false h before = before ∙ sym (ap (λ (t : Bool). cond t (held b) (c Redo b)) (same_below b k h))

  -- one block more was put
  pub put_more : (k : ℕ) (bytes : List ℕ) (first old new : Option Contents) → bytes ≡ held k → new ≡ map_told (put Redo k bytes) old → old ≡ map_told (with_redo held k) first → new ≡ map_told (with_redo held (suc k)) first
  put_more k bytes first old new is put_in so_far =
      put_in ∙ (ap (λ (xs : List ℕ). map_told (put Redo k xs) old) is ∙ (ap (map_told (put Redo k (held k))) so_far ∙ twice first)) where
        twice : (told : Option Contents) → map_told (put Redo k (held k)) (map_told (with_redo held k) told) ≡ map_told (with_redo held (suc k)) told
        twice None = refl
        twice (Some c) = refl

-- the number of a call behind others, as one sum
pub raised_by : (call n : ℕ) → call ≤ 2 ^ 64 - 1 → min (call + n) (2 ^ 64 - 1) ≡ raised call n
raised_by call zero small = omega (arith, small)
raised_by call (suc n) small = let before = raised_by call n small in omega (arith, small, before)

-- one call more was asked, of so many
pub next_call : (at most before now : ℕ) → at < most → most ≤ 2 ^ 64 - 1 → before ≡ at → now ≡ one_more before → now ≡ at + 1
next_call at most before now lt small same more = omega (arith, lt, small, same, more)

-- a device over a copy of an image, with all of a redo file put there, has both
pub opened_beside : (size : ℕ) (a b : BTreeMap ℕ Block) (redo : MemRedo) → ((n : ℕ) → stored b n ≡ stored a n)
    → with_redo (stored redo.blocks) redo.size (with_stored b) ≡ opened (record { size = size; at = stored a }) (redo_of redo)
opened_beside size a b redo same = λ i r n. at_region r n i
  where
    at_region : (r : Region) (n : ℕ) → with_redo (stored redo.blocks) redo.size (with_stored b) r n ≡ opened (record { size = size; at = stored a }) (redo_of redo) r n
    at_region Image n = put_image (stored redo.blocks) redo.size (with_stored b) n ∙ same n
    at_region Redo n = put_there (stored redo.blocks) redo.size (with_stored b) n

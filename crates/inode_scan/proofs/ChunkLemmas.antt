-- The lowest allocated inode, inode by inode and chunk by chunk.
use Rattle.std.proofs.Common.{◌≡◌, ℕ, zero, suc, ◌+◌, ◌-◌, ◌<◌, ◌≤◌, Bool, true, false, not, ◌&&◌, List, [], ◌∷◌, ◌++◌, Option, Some, None, refl, sym, ap, ◌∙◌, arith}
use Rattle.std.specs.Prelude.{nat_le, nat_lt, is_some}
use Rattle.std.proofs.lemmas.Bool.{false≢true}
use Rattle.std.proofs.lemmas.Bool.Decides.{nat_tests}
use Rattle.ino_recs.specs.declared.chunk.InoRec.{InoRec}
use Rattle.sblock.specs.Lists.{items_from}
use Rattle.inode_scan.specs.Chunk.{or_else, is_free, is_sought, first_slot, first_of, first_in}

module _ (from end : ℕ) (r : InoRec) where
  pub slot_here : (s : ℕ) → s < 64 → is_sought from end r s ≡ true → first_slot from end r (64 - s) s ≡ Some (r.startino + s)
  unfolding first_slot
  slot_here s lt h = let e : 64 - s ≡ suc (63 - s) = omega (arith, lt) in rw e (rw h refl)

  pub slot_later : (s : ℕ) → s < 64 → is_sought from end r s ≡ false → first_slot from end r (64 - s) s ≡ first_slot from end r (64 - (s + 1)) (s + 1)
  unfolding first_slot
  slot_later s lt h = let e : 64 - s ≡ suc (64 - (s + 1)) = omega (arith, lt) in rw e (rw h refl)

  pub slot_nowhere : (s : ℕ) → 64 ≤ s → first_slot from end r (64 - s) s ≡ None
  unfolding first_slot
  slot_nowhere s le = let e : 64 - s ≡ 0 = omega (arith, le) in rw e refl

  pub sought_in : (s : ℕ) → is_sought from end r s ≡ true → (from ≤ r.startino + s) × (r.startino + s < end)
  unfolding is_sought
  sought_in s h = in_range (r.startino + s) (not (is_free r s)) h
    where
      in_range : (n : ℕ) (c : Bool) → (nat_le from n && nat_lt n end && c) ≡ true → (from ≤ n) × (n < end)
      in_range n true h = (grind (arith, nat_tests), grind (arith, nat_tests))
      in_range n false h = (grind (arith, nat_tests), grind (arith, nat_tests))

module _ (from end : ℕ) (item : ℕ → InoRec) (n i : ℕ) where
  more : i < n → items_from item (n - i) i ≡ item i ∷ items_from item (n - (i + 1)) (i + 1)
  more lt = let e : n - i ≡ suc (n - (i + 1)) = omega (arith, lt) in rw e refl

  pub chunk_here : (number : ℕ) → i < n → first_of from end (item i) ≡ Some number → first_in from end (items_from item (n - i) i) ≡ Some number
  unfolding first_in
  chunk_here number lt h = rw (more lt) (rw h refl)

  pub chunk_later : i < n → first_of from end (item i) ≡ None → first_in from end (items_from item (n - i) i) ≡ first_in from end (items_from item (n - (i + 1)) (i + 1))
  unfolding first_in
  chunk_later lt h = rw (more lt) (rw h refl)

  pub chunk_nowhere : n ≤ i → first_in from end (items_from item (n - i) i) ≡ None
  unfolding first_in
  chunk_nowhere le = let e : n - i ≡ 0 = omega (arith, le) in rw e refl

-- two lists one after the other
pub first_append : (from end : ℕ) (xs ys : List InoRec) → first_in from end (xs ++ ys) ≡ or_else (first_in from end xs) (first_in from end ys)
unfolding first_in
first_append from end [] ys = refl
first_append from end (x ∷ xs) ys = ap (or_else (first_of from end x)) (first_append from end xs ys) ∙ grouped (first_of from end x) (first_in from end xs) (first_in from end ys)
  where
    grouped : (a b c : Option ℕ) → or_else a (or_else b c) ≡ or_else (or_else a b) c
    grouped None b c = refl
    grouped (Some n) b c = refl

-- a chunk that begins before the key has nothing in the range
none_slot : (from end : ℕ) (r : InoRec) (n s : ℕ) → s + n ≤ 64 → r.startino + 63 < from → first_slot from end r n s ≡ None
unfolding first_slot is_sought
none_slot from end r zero s few below = refl
none_slot from end r (suc n) s few below =
    let low : nat_le from (r.startino + s) ≡ false = (let le : r.startino + s < from = omega (arith, few, below) in grind (arith, nat_tests)) in
    rw low (none_slot from end r n (s + 1) (omega (arith, few)) below)

pub passed_none : (from end : ℕ) (r : InoRec) → r.startino + 63 < from → first_of from end r ≡ None
unfolding first_of
passed_none from end r below = none_slot from end r 64 0 (omega arith) below

module _ (from end : ℕ) (item : ℕ → InoRec) (n i : ℕ) (lt : i < n) where
  pub chunk_found : (o : Option ℕ) → o ≡ first_of from end (item i) → is_some o ≡ true → o ≡ first_in from end (items_from item (n - i) i)
  chunk_found (Some k) is h = sym (chunk_here from end item n i k lt (sym is))
  chunk_found None is h = absurd (false≢true h)

  pub chunk_missed : (o : Option ℕ) → o ≡ first_of from end (item i) → is_some o ≡ false → first_in from end (items_from item (n - i) i) ≡ first_in from end (items_from item (n - (i + 1)) (i + 1))
  chunk_missed (Some k) is h = absurd (false≢true (sym h))
  chunk_missed None is h = chunk_later from end item n i lt (sym is)

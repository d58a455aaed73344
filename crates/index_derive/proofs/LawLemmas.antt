-- The records of a group's chunks are one list.
use Rattle.std.proofs.Common.{◌≡◌, ℕ, zero, suc, ◌+◌, ◌*◌, ◌/◌, ◌<◌, ◌≤◌, Bool, true, false, List, Contains, map, ap, sym, subst, inl, inr, arith}
use Rattle.std.specs.Prelude.{nat_lt, filter}
use Rattle.std.proofs.lemmas.Bool.{cases_eq, lt-ltb, ltb-true}
use Rattle.std.proofs.lemmas.Bool.Decides.{nat_tests}
use Rattle.geom.specs.Layout.{group_len_of}
use Rattle.ino_recs.specs.declared.chunk.InoRec.{InoRec}
use Rattle.sblock.specs.Lists.{Rises}
use Rattle.rmap_recs.proofs.RisingLemmas.{nothing_in, in_front, in_rest, in_either, filtered, kept_by_filter, filter_rises, one_rising, Rises-map, mapped, kept_by_map}
use Rattle.fs_state.specs.Apart.{is_chunk}
use Rattle.fs_state.specs.State.{State}
use Rattle.fs_state.specs.Chunks.{chunks}
use Rattle.fs_state.specs.Derive.{chunk_record, ino_of, fino_of}
use Rattle.fs_state.specs.Lists.{numbers}
use Rattle.index_derive.specs.Laws.{AreChunkRecords, AreFreeRecords, IsOfChunk, is_before}

in_numbers : (a n u : ℕ) → Contains (numbers a n) u → (a ≤ u) × (u < a + n)
in_numbers a zero u c = absurd (nothing_in u c)
in_numbers a (suc n) u c = elim (in_either a (numbers (a + 1) n) u c) [
  | inl is ↦ (omega (arith, is), omega (arith, is))
  | inr d ↦ let h = in_numbers (a + 1) n u d in let low = h.0 in let high = h.1 in (omega (arith, low), omega (arith, high))
]

numbers_have : (a n u : ℕ) → a ≤ u → u < a + n → Contains (numbers a n) u
numbers_have a zero u low high = absurd (omega (arith, low, high))
numbers_have a (suc n) u low high = elim (cases_eq a u) [
  | inl is ↦ subst (Contains (numbers a (suc n))) is (in_front a (numbers (a + 1) n))
  | inr ne ↦ in_rest a (numbers (a + 1) n) u (numbers_have (a + 1) n u (omega (arith, low, ne)) (omega (arith, high)))
]

numbers_rise : (a n : ℕ) → Rises nat_lt (numbers a n)
numbers_rise a zero = tt
numbers_rise a (suc zero) = (tt, tt)
numbers_rise a (suc (suc n)) = (lt-ltb a (a + 1) (omega arith), numbers_rise (a + 1) (suc n))

along_nat : (a b c : ℕ) → nat_lt a b ≡ true → nat_lt b c ≡ true → nat_lt a c ≡ true
along_nat a b c h i = grind (arith, nat_tests)

strict_nat : (a : ℕ) → nat_lt a a ≡ false
strict_nat a = grind (arith, nat_tests)

along : (a b c : InoRec) → is_before a b ≡ true → is_before b c ≡ true → is_before a c ≡ true
along a b c = along_nat a.startino b.startino c.startino

strict : (a : InoRec) → is_before a a ≡ false
strict a = strict_nat a.startino

wider : (u v : ℕ) → nat_lt u v ≡ true → nat_lt (64 * u) (64 * v) ≡ true
wider u v h = let lt = ltb-true u v h in lt-ltb (64 * u) (64 * v) (omega (arith, lt))

abbrev has_free : InoRec → Bool
has_free r = nat_lt 0 r.freecount

module _ (a : State) (g : ℕ) where
  ino_rises : Rises is_before (ino_of a g)
  unfolding ino_of chunks
  ino_rises = Rises-map nat_lt is_before (chunk_record a g) wider (filter (is_chunk a g) (numbers 0 (group_len_of a.geometry g / 8)))
      (filter_rises nat_lt along_nat (is_chunk a g) (numbers 0 (group_len_of a.geometry g / 8)) (numbers_rise 0 (group_len_of a.geometry g / 8)))

  ino_each : (r : InoRec) → Contains (ino_of a g) r → IsOfChunk a g r
  unfolding ino_of chunks
  ino_each r c =
      let m = mapped (chunk_record a g) (filter (is_chunk a g) (numbers 0 (group_len_of a.geometry g / 8))) r c in
      let f = filtered (is_chunk a g) (numbers 0 (group_len_of a.geometry g / 8)) m.0 m.1 in
      let n = (in_numbers 0 (group_len_of a.geometry g / 8) m.0 f.0).1 in
      record { unit = m.0; within = omega (arith, n); chunk = f.1; same = sym m.2 }

  ino_all : (r : InoRec) → IsOfChunk a g r → Contains (ino_of a g) r
  unfolding ino_of chunks
  ino_all r is =
      let low : is.unit < 0 + group_len_of a.geometry g / 8 = let w = is.within in omega (arith, w) in
      let there = kept_by_filter (is_chunk a g) (numbers 0 (group_len_of a.geometry g / 8)) is.unit (numbers_have 0 (group_len_of a.geometry g / 8) is.unit (omega arith) low) is.chunk in
      subst (Contains (map (chunk_record a g) (filter (is_chunk a g) (numbers 0 (group_len_of a.geometry g / 8))))) (sym is.same)
      (kept_by_map (chunk_record a g) (filter (is_chunk a g) (numbers 0 (group_len_of a.geometry g / 8))) is.unit there)

  pub only_ino : (recs : List InoRec) → AreChunkRecords a g recs → recs ≡ ino_of a g
  only_ino recs are = one_rising is_before along strict recs (ino_of a g) are.rising ino_rises (λ z c. ino_all z (are.each z c)) (λ z c. are.all z (ino_each z c))

  pub ino_if : (recs : List InoRec) → recs ≡ ino_of a g → AreChunkRecords a g recs
  ino_if recs is = subst (AreChunkRecords a g) (sym is) (record { rising = ino_rises; each = ino_each; all = ino_all })

  fino_rises : Rises is_before (fino_of a g)
  unfolding fino_of
  fino_rises = filter_rises is_before along has_free (ino_of a g) ino_rises

  fino_each : (r : InoRec) → Contains (fino_of a g) r → IsOfChunk a g r × (0 < r.freecount)
  unfolding fino_of
  fino_each r c = let f = filtered has_free (ino_of a g) r c in (ino_each r f.0, ltb-true 0 r.freecount f.1)

  fino_all : (r : InoRec) → IsOfChunk a g r → 0 < r.freecount → Contains (fino_of a g) r
  unfolding fino_of
  fino_all r is some = kept_by_filter has_free (ino_of a g) r (ino_all r is) (lt-ltb 0 r.freecount some)

  pub only_fino : (recs : List InoRec) → AreFreeRecords a g recs → recs ≡ fino_of a g
  only_fino recs are = one_rising is_before along strict recs (fino_of a g) are.rising fino_rises (λ z c. let e = are.each z c in fino_all z e.0 e.1) (λ z c. let e = fino_each z c in are.all z e.0 e.1)

  pub fino_if : (recs : List InoRec) → recs ≡ fino_of a g → AreFreeRecords a g recs
  fino_if recs is = subst (AreFreeRecords a g) (sym is) (record { rising = fino_rises; each = fino_each; all = fino_all })

  pub fino_from : (recs : List InoRec) → recs ≡ ino_of a g → filter has_free recs ≡ fino_of a g
  unfolding fino_of
  fino_from recs is = ap (filter has_free) is

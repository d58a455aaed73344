-- What is read of an inode that was written.
use Rattle.std.proofs.Common.{◌≡◌, ℕ, ◌+◌, ◌<◌, ◌≤◌, ◌^◌, ◌⊎◌, true, None, List, ◌++◌, length, get_or, take, drop, sym, ap, ◌∙◌, refl, arith, eq-eqb}
use Rattle.std.proofs.lemmas.Bool.{eqb-true}
use Rattle.std.proofs.lemmas.Slice.Eq.{bytes_eq-Decides}
use Rattle.std.proofs.lemmas.List.{append_assoc, drop_at, get_or-drop, take_at, length-append, length-drop, length-take-le}
use Rattle.std.specs.List.{splice}
use Rattle.byteorder.specs.Endian.{little_bytes, little_number}
use Rattle.byteorder.specs.Numbers.{big_from-lt, little_number-reads_back, length-bytes_low_first}
use Rattle.byte_fields.specs.Checksum.{checksum, blanked, has_sum}
use Rattle.byte_fields.specs.Fields.{field, low_field, with_low_field, has_uuid}
use Rattle.dinode_core.specs.declared.inode.Core3.{Core3}
use Rattle.dinode_core.specs.Core.{core_of, core_tests, core_fault}
use Rattle.dinode_core.specs.Pieces.{with_pieces}
use Rattle.dinode_core.specs.Encoded.{kind_pieces, count_pieces, change_pieces, name_pieces, core_pieces, filled, encoded, IsSpare, KindsFit, CountsFit, ChangesFit, NamesFit}
use Rattle.byte_fields.proofs.TestLemmas.{all_pass, none_fails}
use Rattle.dinode_core.proofs.PieceLemmas.{pieces_append, AreWithin, are_apart, is_apart, AllStand, length_pieces, length_splice, outside_pieces, outside_splice, all_stand, all_stand_in, reads_number, reads_byte, reads_bytes, same_splice, same_pieces, number_stands, byte_stands, bytes_stand, low_stands}

pub filled_in_parts : (core : Core3) (bytes : List ℕ) → filled core bytes ≡ with_pieces (name_pieces core) (with_pieces (change_pieces core) (with_pieces (count_pieces core) (with_pieces (kind_pieces core) bytes)))
unfolding filled core_pieces
filled_in_parts core bytes = simp pieces_append

-- the fields of a core fit their places
pub record Fits (core : Core3) : Type 0 where
  pub kinds : KindsFit core
  pub counts : CountsFit core
  pub changes : ChangesFit core
  pub names : NamesFit core

pieces_within : (core : Core3) → NamesFit core → AreWithin 512 (core_pieces core)
unfolding core_pieces kind_pieces count_pieces change_pieces name_pieces
pieces_within core fit = (
  omega arith,
  refl,
  (
    omega arith,
    refl,
    (
      omega arith,
      refl,
      (
        omega arith,
        refl,
        (
          omega arith,
          refl,
          (
            omega arith,
            refl,
            (
              omega arith,
              refl,
              (
                omega arith,
                refl,
                (
                  omega arith,
                  refl,
                  (
                    omega arith,
                    refl,
                    (
                      omega arith,
                      refl,
                      (
                        omega arith,
                        refl,
                        (
                          omega arith,
                          refl,
                          (
                            omega arith,
                            refl,
                            (
                              omega arith,
                              refl,
                              (
                                omega arith,
                                refl,
                                (
                                  omega arith,
                                  refl,
                                  (omega arith, refl, (omega arith, fit.1, (omega arith, fit.2, tt))),
                                ),
                              ),
                            ),
                          ),
                        ),
                      ),
                    ),
                  ),
                ),
              ),
            ),
          ),
        ),
      ),
    ),
  ),
)

pieces_apart : (core : Core3) → are_apart (core_pieces core) ≡ true
unfolding core_pieces kind_pieces count_pieces change_pieces name_pieces
pieces_apart core = refl

sum_apart : (core : Core3) → is_apart 100 4 (core_pieces core) ≡ true
unfolding core_pieces kind_pieces count_pieces change_pieces name_pieces
sum_apart core = refl

length_filled : (core : Core3) (bytes : List ℕ) → length bytes ≡ 512 → NamesFit core → length (filled core bytes) ≡ 512
unfolding filled
length_filled core bytes len fit = length_pieces (core_pieces core) 512 bytes len (pieces_within core fit)

outside_sum : (core : Core3) (bytes : List ℕ) → length bytes ≡ 512 → NamesFit core → (i : ℕ) → (i < 100) ⊎ (104 ≤ i) → get_or (encoded core bytes) i 0 ≡ get_or (filled core bytes) i 0
unfolding encoded
outside_sum core bytes len fit i out =
    let sum = checksum (blanked (filled core bytes) 100) in
    outside_splice (filled core bytes) 100 4 (little_bytes 4 sum) i (omega (arith, length_filled core bytes len fit)) (length-bytes_low_first 0 4 sum) out

length_encoded : (core : Core3) (bytes : List ℕ) → length bytes ≡ 512 → NamesFit core → length (encoded core bytes) ≡ 512
unfolding encoded
length_encoded core bytes len fit =
    let sum = checksum (blanked (filled core bytes) 100) in
    length_splice (filled core bytes) 100 4 (little_bytes 4 sum) (omega (arith, length_filled core bytes len fit)) (length-bytes_low_first 0 4 sum) ∙ length_filled core bytes len fit

-- the bytes of no field stay
pub spare_stays : (core : Core3) (bytes : List ℕ) → length bytes ≡ 512 → NamesFit core → (i : ℕ) → IsSpare core i → get_or (encoded core bytes) i 0 ≡ get_or bytes i 0
unfolding filled
spare_stays core bytes len fit i spare =
    outside_sum core bytes len fit i spare.1 ∙ outside_pieces (core_pieces core) 512 bytes i len (pieces_within core fit) spare.0

stand_encoded : (core : Core3) (bytes : List ℕ) → length bytes ≡ 512 → NamesFit core → AllStand (encoded core bytes) (core_pieces core)
unfolding filled
stand_encoded core bytes len fit =
    all_stand_in (core_pieces core) (filled core bytes) (encoded core bytes) 100 4 (sum_apart core) (outside_sum core bytes len fit)
    (all_stand (core_pieces core) 512 bytes len (pieces_within core fit) (pieces_apart core))

-- each field is read again
pub core_again : (core : Core3) (bytes : List ℕ) → length bytes ≡ 512 → Fits core → core_of (encoded core bytes) ≡ core
unfolding core_of core_pieces kind_pieces count_pieces change_pieces name_pieces
core_again core bytes len fit =
    let xs = encoded core bytes in
    let long : length xs ≡ 512 = length_encoded core bytes len fit.names in
    let s = stand_encoded core bytes len fit.names in
    let s5 = s.1.1.1.1.1.1 in
    let s11 = s5.1.1.1.1.1.1 in
    let s16 = s11.1.1.1.1.1 in
    let e0 = reads_number 2 2 core.mode xs fit.kinds.0 s.1.0 in
    let e1 = reads_byte 5 core.format xs fit.kinds.1 s.1.1.1.0 in
    let e2 = reads_number 4 8 core.uid xs fit.kinds.2 s.1.1.1.1.0 in
    let e3 = reads_number 4 16 core.nlink xs fit.kinds.3 s.1.1.1.1.1.0 in
    let e4 = reads_number 8 24 core.big_nextents xs fit.counts.0 s5.0 in
    let e5 = reads_number 8 64 core.nblocks xs fit.counts.1 s5.1.0 in
    let e6 = reads_number 4 76 core.nextents xs fit.counts.2 s5.1.1.0 in
    let e7 = reads_number 2 80 core.anextents xs fit.counts.3 s5.1.1.1.0 in
    let e8 = reads_byte 82 core.forkoff xs fit.counts.4 s5.1.1.1.1.0 in
    let e9 = reads_byte 83 core.aformat xs fit.counts.5 s5.1.1.1.1.1.0 in
    let e10 = reads_number 2 90 core.flags xs fit.changes.0 s11.0 in
    let e11 = reads_number 4 96 core.next_unlinked xs fit.changes.1 s11.1.0 in
    let e12 = reads_number 8 104 core.changecount xs fit.changes.2 s11.1.1.0 in
    let e13 = reads_number 8 112 core.lsn xs fit.changes.3 s11.1.1.1.0 in
    let e14 = reads_number 8 120 core.flags2 xs fit.changes.4 s11.1.1.1.1.0 in
    let e15 = reads_number 8 152 core.ino xs fit.names.0 s16.0 in
    let e16 = reads_bytes 160 16 core.uuid xs fit.names.1 (omega arith) s16.1.0 in
    let e17 = reads_bytes 176 336 core.literal xs fit.names.2 (omega arith) s16.1.1.0 in
    λ i. record {
      mode = e0 i;
      format = e1 i;
      uid = e2 i;
      nlink = e3 i;
      big_nextents = e4 i;
      nblocks = e5 i;
      nextents = e6 i;
      anextents = e7 i;
      forkoff = e8 i;
      aformat = e9 i;
      flags = e10 i;
      next_unlinked = e11 i;
      changecount = e12 i;
      lsn = e13 i;
      flags2 = e14 i;
      ino = e15 i;
      uuid = e16 i;
      literal = e17 i;
    }

blanked_again : (xs ys : List ℕ) → 104 ≤ length xs → length ys ≡ 4 → blanked (splice xs 100 104 ys) 100 ≡ blanked xs 100
unfolding blanked
blanked_again xs ys room len =
    let head : length (take 100 xs) ≡ 100 = length-take-le 100 xs (omega arith) in
    let both : length (take 100 xs ++ ys) ≡ 104 = omega (arith, length-append (take 100 xs) ys) in
    let front : take 100 (splice xs 100 104 ys) ≡ take 100 xs = take_at (take 100 xs) (ys ++ drop 104 xs) 100 head in
    let back : drop 104 (splice xs 100 104 ys) ≡ drop 104 xs = ap (λ zs. drop 104 zs) (sym (append_assoc (take 100 xs) ys (drop 104 xs))) ∙ drop_at (take 100 xs ++ ys) (drop 104 xs) 104 both in
    rw (front, back) refl

sum_again : (xs : List ℕ) → 104 ≤ length xs → checksum (blanked xs 100) < 2 ^ 32 → has_sum (with_low_field 4 xs 100 (checksum (blanked xs 100))) 100 ≡ true
unfolding has_sum
sum_again xs room fits =
    let sum = checksum (blanked xs 100) in
    let ys = little_bytes 4 sum in
    let len : length ys ≡ 4 = length-bytes_low_first 0 4 sum in
    let back : drop 100 (splice xs 100 104 ys) ≡ ys ++ drop 104 xs = drop_at (take 100 xs) (ys ++ drop 104 xs) 100 (length-take-le 100 xs (omega arith)) in
    let read : low_field 4 (splice xs 100 104 ys) 100 ≡ sum = ap (λ zs. little_number 4 zs) back ∙ little_number-reads_back 4 sum (drop 104 xs) fits in
    eq-eqb _ _ (read ∙ ap checksum (sym (blanked_again xs ys room len)))

-- and no test fails
pub sound_again : (core : Core3) (bytes : List ℕ) → length bytes ≡ 512 → Fits core → checksum (blanked (filled core bytes) 100) < 2 ^ 32 → core_fault (encoded core bytes) core.ino core.uuid ≡ None
unfolding core_fault core_pieces kind_pieces count_pieces change_pieces name_pieces has_uuid
sound_again core bytes len fit sum_fits =
    let xs = encoded core bytes in
    let long : length xs ≡ 512 = length_encoded core bytes len fit.names in
    let s = stand_encoded core bytes len fit.names in
    let s16 = s.1.1.1.1.1.1.1.1.1.1.1.1.1.1.1.1.1 in
    none_fails (core_tests xs core.ino core.uuid) (
      eq-eqb _ _ (reads_number 2 0 0x494e xs (omega arith) s.0),
      (
        eq-eqb _ _ (reads_byte 4 3 xs (omega arith) s.1.1.0),
        (
          eq-eqb _ _ (reads_number 8 152 core.ino xs fit.names.0 s16.0),
          (
            unfold encoded in sum_again (filled core bytes) (omega (arith, length_filled core bytes len fit.names)) sum_fits,
            ((bytes_eq-Decides _ _).1 (reads_bytes 160 16 core.uuid xs fit.names.1 (omega arith) s16.1.0), tt),
          ),
        ),
      ),
    )

-- what was written, step by step, is the core's bytes
pub written : (core : Core3) (bytes before after : List ℕ) (sum : ℕ) → before ≡ filled core bytes → sum ≡ checksum (blanked before 100) → after ≡ with_low_field 4 before 100 sum → after ≡ encoded core bytes
unfolding encoded
written core bytes before after sum p q r = r ∙ ap (λ n. with_low_field 4 before 100 n) q ∙ ap (λ xs. with_low_field 4 xs 100 (checksum (blanked xs 100))) p

-- the parts of what a core's tests say that are needed here
record Sound (bytes : List ℕ) : Type 0 where
  magic : field 2 bytes 0 ≡ 0x494e
  version : get_or bytes 4 0 ≡ 3
  sum : low_field 4 bytes 100 ≡ checksum (blanked bytes 100)

sound : (bytes : List ℕ) (ino : ℕ) (uuid : List ℕ) → core_fault bytes ino uuid ≡ None → Sound bytes
unfolding core_fault has_sum
sound bytes ino uuid h =
    let all = all_pass (core_tests bytes ino uuid) h in
    record { magic = eqb-true _ _ all.0; version = eqb-true _ _ all.1.0; sum = eqb-true _ _ all.1.1.1.0 }

read_names : (bytes : List ℕ) → length bytes ≡ 512 → ((k : ℕ) → get_or bytes k 0 < 256) → NamesFit (core_of bytes)
unfolding core_of
read_names bytes len small = (
  big_from-lt 0 8 (drop 152 bytes) (λ k. rw get_or-drop (small (152 + k))),
  length-take-le 16 (drop 160 bytes) (omega (arith, length-drop 160 bytes)),
  length-take-le 336 (drop 176 bytes) (omega (arith, length-drop 176 bytes)),
)

read_stand : (bytes : List ℕ) → length bytes ≡ 512 → ((k : ℕ) → get_or bytes k 0 < 256) → Sound bytes → AllStand bytes (core_pieces (core_of bytes))
unfolding core_of core_pieces kind_pieces count_pieces change_pieces name_pieces
read_stand bytes len small h = (
  number_stands 2 0 _ bytes (omega arith) small h.magic,
  (
    number_stands 2 2 _ bytes (omega arith) small refl,
    (
      byte_stands 4 _ bytes small h.version,
      (
        byte_stands 5 _ bytes small refl,
        (
          number_stands 4 8 _ bytes (omega arith) small refl,
          (
            number_stands 4 16 _ bytes (omega arith) small refl,
            (
              number_stands 8 24 _ bytes (omega arith) small refl,
              (
                number_stands 8 64 _ bytes (omega arith) small refl,
                (
                  number_stands 4 76 _ bytes (omega arith) small refl,
                  (
                    number_stands 2 80 _ bytes (omega arith) small refl,
                    (
                      byte_stands 82 _ bytes small refl,
                      (
                        byte_stands 83 _ bytes small refl,
                        (
                          number_stands 2 90 _ bytes (omega arith) small refl,
                          (
                            number_stands 4 96 _ bytes (omega arith) small refl,
                            (
                              number_stands 8 104 _ bytes (omega arith) small refl,
                              (
                                number_stands 8 112 _ bytes (omega arith) small refl,
                                (
                                  number_stands 8 120 _ bytes (omega arith) small refl,
                                  (
                                    number_stands 8 152 _ bytes (omega arith) small refl,
                                    (
                                      bytes_stand 160 16 bytes,
                                      (
                                        bytes_stand 176 336 bytes,
                                        tt,
                                      ),
                                    ),
                                  ),
                                ),
                              ),
                            ),
                          ),
                        ),
                      ),
                    ),
                  ),
                ),
              ),
            ),
          ),
        ),
      ),
    ),
  ),
)

-- a core that was read, written over the bytes that it was read from, leaves them as they are
pub written_back : (bytes : List ℕ) (ino : ℕ) (uuid : List ℕ) → length bytes ≡ 512 → ((k : ℕ) → get_or bytes k 0 < 256) → core_fault bytes ino uuid ≡ None → encoded (core_of bytes) bytes ≡ bytes
unfolding encoded filled
written_back bytes ino uuid len small h =
    let s = sound bytes ino uuid h in
    let core = core_of bytes in
    let within : AreWithin 512 (core_pieces core) = pieces_within core (read_names bytes len small) in
    let same : filled core bytes ≡ bytes = same_pieces (core_pieces core) 512 bytes len within (read_stand bytes len small s) in
    let sum : little_bytes 4 (checksum (blanked bytes 100)) ≡ take 4 (drop 100 bytes) = ap (little_bytes 4) (sym s.sum) ∙ low_stands 4 100 bytes (omega arith) small in
    ap (λ xs. with_low_field 4 xs 100 (checksum (blanked xs 100))) same
    ∙ ap (λ ys. splice bytes 100 104 ys) sum
    ∙ same_splice bytes 100 4 (take 4 (drop 100 bytes)) (omega arith) (length-take-le 4 (drop 100 bytes) (omega (arith, length-drop 100 bytes))) (bytes_stand 100 4 bytes)

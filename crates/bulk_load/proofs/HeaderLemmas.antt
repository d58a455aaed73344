-- A header that was written is read again, and leaves what stands behind it.
use Rattle.std.proofs.Common.{◌≡◌, ℕ, ◌+◌, ◌*◌, ◌^◌, ◌<◌, ◌≤◌, ◌⊎◌, inl, inr, true, List, [], ◌∷◌, length, take, drop, refl, sym, ap, subst, ◌∙◌, arith, length-drop}
use Rattle.std.specs.Prelude.{⊤, ◌-◌}
use Rattle.std.specs.List.{splice}
use Rattle.std.proofs.Math.Seq.{take-length}
use Rattle.std.proofs.lemmas.Slice.Eq.{bytes_eq-Decides}
use Rattle.byteorder.specs.Endian.{big_bytes, little_bytes}
use Rattle.byteorder.specs.Numbers.{length-bytes_high_first, length-bytes_low_first}
use Rattle.byte_fields.specs.Checksum.{checksum, blanked, has_sum}
use Rattle.byte_fields.specs.Fields.{field, with_field, with_low_field, has_uuid}
use Rattle.byte_fields.specs.Zeros.{zeros}
use Rattle.ag_headers.proofs.SpliceLemmas.{Written, splice_length, back_stays, part_there, part_stays, field_stays, field_there}
use Rattle.ag_headers.proofs.StampLemmas.{sum_holds}
use Rattle.sblock.specs.Area.{area_of}
use Rattle.sblock.specs.Kinds.{magic_of}
use Rattle.sblock.specs.declared.block.Frame.{Frame}
use Rattle.sblock.specs.declared.block.Header.{Header}
use Rattle.sblock.specs.declared.kind.Kind.{Kind}
use Rattle.bulk_load.specs.Header.{with_numbers, with_numbers_from, AllFit, numbers_of, with_ids, with_seal, with_area}
use Rattle.bulk_load.specs.Leaf.{block_bytes}
use Rattle.bulk_load.specs.Loaded.{IsHeaded}

-- the bytes of all of these
abbrev extent : List (ℕ × ℕ) → ℕ
extent [] = 0
extent (f ∷ fs) = f.0 + extent fs

-- each is read again
abbrev AllRead : ℕ → List (ℕ × ℕ) → List ℕ → Type 0
AllRead at [] xs = ⊤
AllRead at (f ∷ fs) xs = (field f.0 xs at ≡ f.1) × AllRead (at + f.0) fs xs

number_written : (n : ℕ) (xs : List ℕ) (at v : ℕ) → at + n ≤ length xs → Written xs at (at + n) (big_bytes n v)
number_written n xs at v room = record { order = omega arith; inside = room; exact = length-bytes_high_first n v ∙ omega arith }

put_length : (n : ℕ) (xs : List ℕ) (at v : ℕ) → at + n ≤ length xs → length (with_field n xs at v) ≡ length xs
put_length n xs at v room = splice_length xs at (at + n) (big_bytes n v) (number_written n xs at v room)

pub numbers_length : (at : ℕ) (xs : List ℕ) (fs : List (ℕ × ℕ)) → at + extent fs ≤ length xs → length (with_numbers_from at xs fs) ≡ length xs
numbers_length at xs [] room = refl
numbers_length at xs (f ∷ fs) room =
    let l = put_length f.0 xs at f.1 (omega (arith, room)) in
    numbers_length (at + f.0) (with_field f.0 xs at f.1) fs (omega (arith, room, l)) ∙ l

-- what stands before them stays
before_stays : (at : ℕ) (xs : List ℕ) (fs : List (ℕ × ℕ)) (m to : ℕ) → at + extent fs ≤ length xs → to + m ≤ at → field m (with_numbers_from at xs fs) to ≡ field m xs to
before_stays at xs [] m to room le = refl
before_stays at xs (f ∷ fs) m to room le =
    let l = put_length f.0 xs at f.1 (omega (arith, room)) in
    before_stays (at + f.0) (with_field f.0 xs at f.1) fs m to (omega (arith, room, l)) (omega (arith, le))
    ∙ field_stays xs at (at + f.0) (big_bytes f.0 f.1) (number_written f.0 xs at f.1 (omega (arith, room))) m to (inl le)

-- and behind
behind_stays : (at : ℕ) (xs : List ℕ) (fs : List (ℕ × ℕ)) (to : ℕ) → at + extent fs ≤ length xs → at + extent fs ≤ to → drop to (with_numbers_from at xs fs) ≡ drop to xs
behind_stays at xs [] to room le = refl
behind_stays at xs (f ∷ fs) to room le =
    let l = put_length f.0 xs at f.1 (omega (arith, room)) in
    behind_stays (at + f.0) (with_field f.0 xs at f.1) fs to (omega (arith, room, l)) (omega (arith, le))
    ∙ back_stays xs at (at + f.0) (big_bytes f.0 f.1) (number_written f.0 xs at f.1 (omega (arith, room))) to (omega (arith, le))

numbers_read : (at : ℕ) (xs : List ℕ) (fs : List (ℕ × ℕ)) → at + extent fs ≤ length xs → AllFit fs → AllRead at fs (with_numbers_from at xs fs)
numbers_read at xs [] room fits = tt
numbers_read at xs (f ∷ fs) room fits =
    let l = put_length f.0 xs at f.1 (omega (arith, room)) in
    let next : (at + f.0) + extent fs ≤ length (with_field f.0 xs at f.1) = omega (arith, room, l) in
    (before_stays (at + f.0) (with_field f.0 xs at f.1) fs f.0 at next (omega arith) ∙ field_there f.0 xs at f.1 (omega (arith, room)) fits.0, numbers_read (at + f.0) (with_field f.0 xs at f.1) fs next fits.1)

-- what is written behind them leaves them
reads_stay : (at : ℕ) (fs : List (ℕ × ℕ)) (xs : List ℕ) (a e : ℕ) (new : List ℕ) → Written xs a e new → at + extent fs ≤ a → AllRead at fs xs → AllRead at fs (splice xs a e new)
reads_stay at [] xs a e new w le reads = tt
reads_stay at (f ∷ fs) xs a e new w le reads =
    (field_stays xs a e new w f.0 at (inl (omega (arith, le))) ∙ reads.0, reads_stay (at + f.0) fs xs a e new w (omega (arith, le)) reads.1)

module _ (xs uuid : List ℕ) (group : ℕ) (whole : length xs ≡ 4096) (sixteen : length uuid ≡ 16) where
  first : List ℕ
  first = splice xs 32 48 uuid

  written_first : Written xs 32 48 uuid
  written_first = record { order = omega arith; inside = omega (arith, whole); exact = sixteen }

  first_whole : length first ≡ 4096
  unfolding first
  first_whole = splice_length xs 32 48 uuid written_first ∙ whole

  second : List ℕ
  second = with_ids xs uuid group

  written_second : Written first 48 52 (big_bytes 4 group)
  written_second = number_written 4 first 48 group (omega (arith, first_whole))

  second_whole : length second ≡ 4096
  unfolding first second
  second_whole = splice_length first 48 52 (big_bytes 4 group) written_second ∙ first_whole

  sum : ℕ
  sum = checksum (blanked second 52)

  written_third : Written second 52 56 (little_bytes 4 sum)
  written_third = record { order = omega arith; inside = omega (arith, second_whole); exact = length-bytes_low_first 0 4 sum }

  is_third : with_seal xs uuid group ≡ splice second 52 56 (little_bytes 4 sum)
  unfolding with_seal second sum
  is_third = refl

  pub seal_area : drop 56 (with_seal xs uuid group) ≡ drop 56 xs
  unfolding first second
  seal_area =
      ap (drop 56) is_third
      ∙ (back_stays second 52 56 (little_bytes 4 sum) written_third 56 (omega arith)
      ∙ (back_stays first 48 52 (big_bytes 4 group) written_second 56 (omega arith)
      ∙ back_stays xs 32 48 uuid written_first 56 (omega arith)))

  pub seal_reads : (fs : List (ℕ × ℕ)) → extent fs ≤ 32 → AllRead 0 fs xs → AllRead 0 fs (with_seal xs uuid group)
  unfolding first second
  seal_reads fs le reads =
      rw is_third (reads_stay 0 fs second 52 56 (little_bytes 4 sum) written_third (omega (arith, le))
      (reads_stay 0 fs first 48 52 (big_bytes 4 group) written_second (omega (arith, le)) (reads_stay 0 fs xs 32 48 uuid written_first (omega (arith, le)) reads)))

  pub seal_owner : group < 2 ^ 32 → field 4 (with_seal xs uuid group) 48 ≡ group
  unfolding first second
  seal_owner fits =
      ap (λ (b : List ℕ). field 4 b 48) is_third
      ∙ (field_stays second 52 56 (little_bytes 4 sum) written_third 4 48 (inl (omega arith))
      ∙ field_there 4 first 48 group (omega (arith, first_whole)) fits)

  uuid_part : take 16 (drop 32 (with_seal xs uuid group)) ≡ uuid
  unfolding first second
  uuid_part =
      ap (λ (b : List ℕ). take 16 (drop 32 b)) is_third
      ∙ (part_stays second 52 56 (little_bytes 4 sum) written_third 32 16 (inl (omega arith))
      ∙ (part_stays first 48 52 (big_bytes 4 group) written_second 32 16 (inl (omega arith))
      ∙ part_there xs 32 48 uuid written_first 16 refl))

  pub seal_uuid : has_uuid (with_seal xs uuid group) 32 uuid ≡ true
  unfolding has_uuid
  seal_uuid = (bytes_eq-Decides (take 16 (drop 32 (with_seal xs uuid group))) uuid).1 uuid_part

  pub seal_sum : checksum (blanked (with_ids xs uuid group) 52) < 2 ^ 32 → has_sum (with_seal xs uuid group) 52 ≡ true
  unfolding second sum
  seal_sum fits = rw is_third (sum_holds second 52 sum (omega (arith, second_whole)) fits refl)

pub area_there : (bytes area : List ℕ) → length bytes ≡ 4096 → length area ≡ 4040 → (drop 56 (with_area bytes area) ≡ area) × (length (with_area bytes area) ≡ 4096)
unfolding with_area
area_there bytes area whole size =
    let w : Written bytes 56 4096 area = record { order = omega arith; inside = omega (arith, whole); exact = size } in
    let l : length (drop 56 (splice bytes 56 4096 area)) ≡ 4040 = omega (arith, length-drop 56 (splice bytes 56 4096 area), splice_length bytes 56 4096 area w, whole) in
    let t : take 4040 (drop 56 (splice bytes 56 4096 area)) ≡ drop 56 (splice bytes 56 4096 area) = rw l at (take-length (drop 56 (splice bytes 56 4096 area))) in
    (sym t ∙ part_there bytes 56 4096 area w 4040 refl, splice_length bytes 56 4096 area w ∙ whole)

pub area_put : (bytes area : List ℕ) → length area ≡ 4040 → splice bytes 56 (56 + length area) area ≡ with_area bytes area
unfolding with_area
area_put bytes area size = let e : 56 + length area ≡ 4096 = omega (arith, size) in rw e refl

module _ (kind : Kind) (header : Header) (frame : Frame) (at place : ℕ) (bytes area uuid : List ℕ) where
  abbrev pub Result : List ℕ
  Result = with_seal (with_numbers (with_area bytes area) (numbers_of kind header place)) frame.uuid frame.group

  numbered : List ℕ
  numbered = with_numbers (with_area bytes area) (numbers_of kind header place)

  pub block_area : length bytes ≡ 4096 → length area ≡ 4040 → length frame.uuid ≡ 16 → area_of Result ≡ area
  block_area whole size sixteen =
      let a = area_there bytes area whole size in
      let n : length (with_numbers (with_area bytes area) (numbers_of kind header place)) ≡ 4096 = numbers_length 0 (with_area bytes area) (numbers_of kind header place) (omega (arith, a.1)) ∙ a.1 in
      seal_area (with_numbers (with_area bytes area) (numbers_of kind header place)) frame.uuid frame.group n sixteen
      ∙ (behind_stays 0 (with_area bytes area) (numbers_of kind header place) 56 (omega (arith, a.1)) (omega arith) ∙ a.0)

  pub block_head : length bytes ≡ 4096 → length area ≡ 4040 → length frame.uuid ≡ 16 → AllFit (numbers_of kind header place) → place ≡ 8 * (frame.first + at) → frame.group < 2 ^ 32
      → checksum (blanked (with_ids (with_numbers (with_area bytes area) (numbers_of kind header place)) frame.uuid frame.group) 52) < 2 ^ 32
      → IsHeaded kind header frame at Result
  block_head whole size sixteen fits is group sum =
      let a = area_there bytes area whole size in
      let n : length (with_numbers (with_area bytes area) (numbers_of kind header place)) ≡ 4096 = numbers_length 0 (with_area bytes area) (numbers_of kind header place) (omega (arith, a.1)) ∙ a.1 in
      let r = seal_reads (with_numbers (with_area bytes area) (numbers_of kind header place)) frame.uuid frame.group n sixteen (numbers_of kind header place) (omega arith) (numbers_read 0 (with_area bytes area) (numbers_of kind header place) (omega (arith, a.1)) fits) in
      record {
        magic = r.0;
        level = r.1.0;
        count = r.1.1.0;
        left = r.1.1.1.0;
        right = r.1.1.1.1.0;
        place = r.1.1.1.1.1.0 ∙ is;
        lsn = r.1.1.1.1.1.1.0;
        uuid = seal_uuid (with_numbers (with_area bytes area) (numbers_of kind header place)) frame.uuid frame.group n sixteen;
        owner = seal_owner (with_numbers (with_area bytes area) (numbers_of kind header place)) frame.uuid frame.group n sixteen group;
        sum = seal_sum (with_numbers (with_area bytes area) (numbers_of kind header place)) frame.uuid frame.group n sixteen sum;
      }

-- the steps of the code
module _ (kind : Kind) (header : Header) (frame : Frame) (at place : ℕ) (zero area b1 b2 b3 : List ℕ)
    (whole : length zero ≡ 4096) (size : length area ≡ 4040) (sixteen : length frame.uuid ≡ 16)
    (e1 : b1 ≡ with_area zero area) (e2 : b2 ≡ with_numbers b1 (numbers_of kind header place)) (e3 : b3 ≡ with_seal b2 frame.uuid frame.group) where
  is_result : b3 ≡ with_seal (with_numbers (with_area zero area) (numbers_of kind header place)) frame.uuid frame.group
  is_result = e3 ∙ ap (λ (b : List ℕ). with_seal b frame.uuid frame.group) (e2 ∙ ap (λ (b : List ℕ). with_numbers b (numbers_of kind header place)) e1)

  pub made_area : area_of b3 ≡ area
  made_area = ap (drop 56) is_result ∙ block_area kind header frame at place zero area frame.uuid whole size sixteen

  pub made_head : AllFit (numbers_of kind header place) → place ≡ 8 * (frame.first + at) → frame.group < 2 ^ 32 → checksum (blanked (with_ids b2 frame.uuid frame.group) 52) < 2 ^ 32 → IsHeaded kind header frame at b3
  made_head fits is group sum =
      let e : b2 ≡ with_numbers (with_area zero area) (numbers_of kind header place) = e2 ∙ ap (λ (b : List ℕ). with_numbers b (numbers_of kind header place)) e1 in
      let s : checksum (blanked (with_ids (with_numbers (with_area zero area) (numbers_of kind header place)) frame.uuid frame.group) 52) < 2 ^ 32 = subst (λ (b : List ℕ). checksum (blanked (with_ids b frame.uuid frame.group) 52) < 2 ^ 32) e sum in
      subst (λ (b : List ℕ). IsHeaded kind header frame at b) (sym is_result) (block_head kind header frame at place zero area frame.uuid whole size sixteen fits is group s)

-- and every byte of the result is told
pub made_exact : (kind : Kind) (header : Header) (frame : Frame) (at place : ℕ) (zero area b1 b2 b3 : List ℕ) → place ≡ 8 * (frame.first + at) → zero ≡ zeros → b1 ≡ with_area zero area → b2 ≡ with_numbers b1 (numbers_of kind header place) → b3 ≡ with_seal b2 frame.uuid frame.group
    → b3 ≡ block_bytes kind header frame at area
unfolding block_bytes
made_exact kind header frame at place zero area b1 b2 b3 is blank e1 e2 e3 =
    e3
    ∙ (ap (λ (b : List ℕ). with_seal b frame.uuid frame.group) (e2
    ∙ (ap (λ (b : List ℕ). with_numbers b (numbers_of kind header place)) (e1 ∙ ap (λ (b : List ℕ). with_area b area) blank)
    ∙ ap (λ (p : ℕ). with_numbers (with_area zeros area) (numbers_of kind header p)) is)))

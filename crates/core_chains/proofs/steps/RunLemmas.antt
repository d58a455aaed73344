-- Runs that have numbers.
use Rattle.std.proofs.Common.{◌≡◌, ◌<◌, ◌≤◌, ◌+◌, ◌^◌, ◌%◌, ℕ, Bool, true, arith, le-leb, sym}
use Rattle.std.proofs.lemmas.Bool.{and_from, or_left, or_right}
use Rattle.std.specs.Prelude.{◌&&◌, ◌||◌, nat_le, not}
use Rattle.rmap_recs.specs.Rmap.{has_end}
use Rattle.rmap_recs.specs.Words.{is_fork_data, offset_of}
use Rattle.rmap_recs.specs.declared.records.RmapRec.{RmapRec}
use Rattle.run_edits.specs.Edits.{HasRoom}

ends_by : (r : RmapRec) → 1 ≤ r.count → r.start + r.count < 2 ^ 32 → (not (is_fork_data r.owner r.word) || nat_le (offset_of r.word + r.count) (2 ^ 54)) ≡ true → has_end r ≡ true
unfolding has_end
ends_by r some end word =
    and_from (nat_le 1 r.count && nat_le (r.start + r.count) (2 ^ 32)) (not (is_fork_data r.owner r.word) || nat_le (offset_of r.word + r.count) (2 ^ 54))
    (and_from (nat_le 1 r.count) (nat_le (r.start + r.count) (2 ^ 32)) (le-leb 1 r.count some) (le-leb (r.start + r.count) (2 ^ 32) (omega (arith, end)))) word

pub room_plain : (r : RmapRec) → 1 ≤ r.count → r.start + r.count < 2 ^ 32 → (fork : Bool) → fork ≡ is_fork_data r.owner r.word → not fork ≡ true → HasRoom r
room_plain r some end fork is plain = (ends_by r some end (or_left (not (is_fork_data r.owner r.word)) (nat_le (offset_of r.word + r.count) (2 ^ 54)) (rw (sym is) plain)), end)

pub room_fork : (r : RmapRec) → 1 ≤ r.count → r.start + r.count < 2 ^ 32 → (count : ℕ) → count ≡ r.count → nat_le (r.word % 18014398509481984 + count) 18014398509481984 ≡ true → HasRoom r
room_fork r some end count is fits = (ends_by r some end (or_right (not (is_fork_data r.owner r.word)) (nat_le (offset_of r.word + r.count) (2 ^ 54)) (rw (sym is) fits)), end)

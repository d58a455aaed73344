-- What an edit leaves are records whose numbers fit, in order.
use Rattle.std.proofs.Common.{◌≡◌, ◌<◌, ◌≤◌, ◌+◌, ◌-◌, ◌/◌, ◌%◌, ◌^◌, ℕ, Bool, true, false, not, cond, ◌&&◌, ◌||◌, ◌==◌, List, [], ◌∷◌, All, Contains, Option, Some, None, get_or, length, find, refl, sym, ap, ◌∙◌, subst, inl, inr, arith, eqb-true}
use Rattle.std.specs.Prelude.{nat_le, nat_lt, if◌then◌else◌}
use Rattle.std.specs.List.{filter}
use Rattle.std.proofs.lemmas.Bool.{false≢true}
use Rattle.std.proofs.lemmas.Bool.Decides.{nat_tests}
use Rattle.rmap_recs.specs.Rmap.{has_end, can_join}
use Rattle.rmap_recs.specs.Words.{is_fork_data, offset_of, flags_of, word_goes_on}
use Rattle.rmap_recs.specs.declared.records.RmapRec.{RmapRec}
use Rattle.rmap_recs.proofs.EndLemmas.{some_blocks, last_offset}
use Rattle.rmap_recs.proofs.RisingLemmas.{at_place, filtered, found_by_find}
use Rattle.rmap_recs.proofs.WordLemmas.{same_flags, same_sort}
use Rattle.run_edits.specs.Edits.{HasRoom, AreSorted, is_before, put_rec, put_if, joined, joined_before, joined_after, grown, is_beside, give_run, holds, front_of, back_of, rest_put, take_run}
use Rattle.run_edits.proofs.ChainLemmas.{after_is, offset_then}
use Rattle.run_edits.proofs.FitLemmas.{has_room_at, ends_at, parts, from_le}
use Rattle.run_edits.proofs.PutLemmas.{put_has}
use Rattle.run_edits.proofs.SortLemmas.{put_sorted, put_if_sorted, filter_sorted}

to_le : (a b : ℕ) → a ≤ b → nat_le a b ≡ true
to_le a b h = grind (arith, nat_tests)

pub from_lt : (a b : ℕ) → nat_lt a b ≡ true → a < b
from_lt a b h = grind (arith, nat_tests)

three : (a b f c : Bool) → a ≡ true → b ≡ true → (f ≡ true → c ≡ true) → (a && b && (not f || c)) ≡ true
three a b true c h i j = rw (h, i, j refl) refl
three a b false c h i j = rw (h, i) refl

pub end_by : (r : RmapRec) → 1 ≤ r.count → r.start + r.count < 2 ^ 32 → (is_fork_data r.owner r.word ≡ true → offset_of r.word + r.count ≤ 2 ^ 54) → HasRoom r
unfolding has_end
end_by r some ends offsets = (
  three (nat_le 1 r.count) (nat_le (r.start + r.count) (2 ^ 32)) (is_fork_data r.owner r.word) (nat_le (offset_of r.word + r.count) (2 ^ 54))
      (to_le 1 r.count some) (to_le (r.start + r.count) (2 ^ 32) (omega (arith, ends))) (λ h. to_le (offset_of r.word + r.count) (2 ^ 54) (offsets h)),
  ends,
)

-- the first record ends where the second does, with its offsets
record Reaches (w r : RmapRec) : Type 0 where
  some : 1 ≤ w.count
  ends : w.start + w.count ≡ r.start + r.count
  sort : is_fork_data w.owner w.word ≡ is_fork_data r.owner r.word
  offsets : is_fork_data r.owner r.word ≡ true → offset_of w.word + w.count ≡ offset_of r.word + r.count

room_by : (w r : RmapRec) → Reaches w r → HasRoom r → HasRoom w
room_by w r reaches room =
    let ends = reaches.ends in
    let fits = room.1 in
    end_by w reaches.some (omega (arith, ends, fits))
    (λ h. let fork : is_fork_data r.owner r.word ≡ true = sym reaches.sort ∙ h in let same = reaches.offsets fork in let last = last_offset r room.0 fork in omega (arith, same, last))

reaches_self : (r : RmapRec) → HasRoom r → Reaches r r
reaches_self r room = record { some = some_blocks r room.0; ends = refl; sort = refl; offsets = λ h. refl }

third_is : (a b c : Bool) → (a && b && c) ≡ true → (b ≡ true) × (c ≡ true)
third_is true true c h = (refl, h)
third_is true false c h = absurd (false≢true h)
third_is false b c h = absurd (false≢true h)

module _ (p r : RmapRec) (joins : can_join p r ≡ true) where
  two : (r.owner == p.owner) ≡ true × (word_goes_on p.owner p.word p.count r.word ≡ true)
  two = third_is (r.start == p.start + p.count) (r.owner == p.owner) (word_goes_on p.owner p.word p.count r.word) joins

  owner_is : r.owner ≡ p.owner
  owner_is = eqb-true r.owner p.owner two.0

  sort_is : is_fork_data r.owner r.word ≡ is_fork_data p.owner p.word
  sort_is = ap (λ (o : ℕ). is_fork_data o r.word) owner_is ∙ same_sort p.owner r.word p.word (same_flags p.owner p.word p.count r.word two.1)

  offset_is : is_fork_data r.owner r.word ≡ true → offset_of r.word ≡ offset_of p.word + p.count
  offset_is h = offset_then p.owner p.word p.count r.word true (sym sort_is ∙ h) two.1

  reaches_joined : (w : RmapRec) → Reaches w p → 1 ≤ r.count → Reaches (joined w r) r
  reaches_joined w reaches some =
      let at = ends_at p r joins in
      let ends = reaches.ends in
      record {
        some = omega (arith, some);
        ends = omega (arith, at, ends);
        sort = reaches.sort ∙ sym sort_is;
        offsets = λ h. let first = reaches.offsets (sym sort_is ∙ h) in let second = offset_is h in omega (arith, first, second);
      }

before_room : (recs : List RmapRec) → All HasRoom recs → (r : RmapRec) → HasRoom r → (o : Option RmapRec) → find (λ p. can_join p r) recs ≡ o → Reaches (joined_before o r) r
before_room recs all r room None found = reaches_self r room
before_room recs all r room (Some p) found =
    let at = found_by_find (λ x. can_join x r) recs p found in
    reaches_joined p r at.1 p (reaches_self p (has_room_at recs all p at.0)) (some_blocks r room.0)

after_room : (recs : List RmapRec) → All HasRoom recs → (w r : RmapRec) → Reaches w r → HasRoom r → (o : Option RmapRec) → find (λ q. can_join r q) recs ≡ o → HasRoom (joined_after w o)
after_room recs all w r reaches room None found = room_by w r reaches room
after_room recs all w r reaches room (Some q) found =
    let at = found_by_find (λ x. can_join r x) recs q found in
    let there = has_room_at recs all q at.0 in
    room_by (joined w q) q (reaches_joined r q at.1 w reaches (some_blocks q there.0)) there

grown_room : (recs : List RmapRec) → All HasRoom recs → (r : RmapRec) → HasRoom r → HasRoom (grown r recs)
grown_room recs all r room =
    after_room recs all (joined_before (find (λ p. can_join p r) recs) r) r (before_room recs all r room (find (λ p. can_join p r) recs) refl) room (find (λ q. can_join r q) recs) refl

all_by : (recs : List RmapRec) → ((q : RmapRec) → Contains recs q → HasRoom q) → All HasRoom recs
all_by recs each = λ k d within. each (get_or recs k d) (at_place recs k d within)

put_rooms : (m : RmapRec) (recs : List RmapRec) → HasRoom m → All HasRoom recs → All HasRoom (put_rec m recs)
put_rooms m recs room all = all_by (put_rec m recs) (λ q c. elim (put_has m recs q c) [ inl same ↦ subst HasRoom same room | inr old ↦ has_room_at recs all q old ])

pub filter_rooms : (p : RmapRec → Bool) (recs : List RmapRec) → All HasRoom recs → All HasRoom (filter p recs)
filter_rooms p recs all = all_by (filter p recs) (λ q c. has_room_at recs all q (filtered p recs q c).0)

pub give_rooms : (recs : List RmapRec) → All HasRoom recs → (r : RmapRec) → HasRoom r → All HasRoom (give_run r recs)
unfolding give_run
give_rooms recs all r room = put_rooms (grown r recs) (filter (is_beside r) recs) (grown_room recs all r room) (filter_rooms (is_beside r) recs all)

pub give_sorted : (recs : List RmapRec) → AreSorted recs → (r : RmapRec) → AreSorted (give_run r recs)
unfolding give_run
give_sorted recs sorted r = put_sorted (grown r recs) (filter (is_beside r) recs) (filter_sorted (is_beside r) recs sorted)

-- ---- what a run leaves of the record that has it

behind_flags : (w p k n c : ℕ) → p % 2 ^ 54 + c ≤ 2 ^ 54 → w ≡ p + k → k + n < c → ((w + n) / 2 ^ 54 ≡ p / 2 ^ 54) × ((w + n) % 2 ^ 54 ≡ p % 2 ^ 54 + k + n)
behind_flags w p k n c ends is inside = (omega (arith, ends, is, inside), omega (arith, ends, is, inside))

module _ (p r : RmapRec) (room : HasRoom p) (some : 1 ≤ r.count) (holds_it : holds p r ≡ true) where
  each : (nat_le p.start r.start ≡ true) × (nat_le (r.start + r.count) (p.start + p.count) ≡ true) × ((r.owner == p.owner) ≡ true) × (word_goes_on p.owner p.word (r.start - p.start) r.word ≡ true)
  each = parts (nat_le p.start r.start) (nat_le (r.start + r.count) (p.start + p.count)) (r.owner == p.owner) (word_goes_on p.owner p.word (r.start - p.start) r.word) holds_it

  starts : p.start ≤ r.start
  starts = from_le p.start r.start each.0

  ends_in : r.start + r.count ≤ p.start + p.count
  ends_in = from_le (r.start + r.count) (p.start + p.count) each.1

  flags : flags_of r.word ≡ flags_of p.word
  flags = same_flags p.owner p.word (r.start - p.start) r.word each.3

  sort : is_fork_data r.owner r.word ≡ is_fork_data p.owner p.word
  sort = ap (λ (o : ℕ). is_fork_data o r.word) (eqb-true r.owner p.owner each.2) ∙ same_sort p.owner r.word p.word flags

  pub front_room : p.start < r.start → HasRoom (front_of p r)
  front_room before =
      let at = ends_in in
      let fits = room.1 in
      end_by (front_of p r) (omega (arith, before)) (omega (arith, before, at, fits))
      (λ h. let last = last_offset p room.0 h in omega (arith, last, at, before))

  abbrev IsBehind : Bool → Type 0
  IsBehind t = (is_fork_data r.owner (if t then r.word + r.count else r.word) ≡ is_fork_data p.owner p.word)
      × (is_fork_data p.owner p.word ≡ true → offset_of (if t then r.word + r.count else r.word) + ((p.start + p.count) - (r.start + r.count)) ≡ offset_of p.word + p.count)

  behind_by : r.start + r.count < p.start + p.count → (t : Bool) → is_fork_data r.owner r.word ≡ t → IsBehind t
  behind_by inside true is =
      let fork : is_fork_data p.owner p.word ≡ true = sym sort ∙ is in
      let at = starts in
      let word : r.word ≡ p.word + (r.start - p.start) = after_is p.owner p.word (r.start - p.start) r.word each.3 ∙ ap (λ (t : Bool). if t then p.word + (r.start - p.start) else p.word) fork in
      let both = behind_flags r.word p.word (r.start - p.start) r.count p.count (last_offset p room.0 fork) word (omega (arith, at, inside)) in
      let offset = both.1 in (
        ap (λ (o : ℕ). is_fork_data o (r.word + r.count)) (eqb-true r.owner p.owner each.2) ∙ same_sort p.owner (r.word + r.count) p.word both.0,
        λ h. omega (arith, offset, at, inside),
      )
  behind_by inside false is = (sort, λ h. absurd (false≢true (sym is ∙ sort ∙ h)))

  pub back_room : r.start + r.count < p.start + p.count → HasRoom (back_of p r)
  back_room inside =
      let both = behind_by inside (is_fork_data r.owner r.word) refl in
      room_by (back_of p r) p (record { some = omega (arith, inside); ends = omega (arith, inside); sort = both.0; offsets = both.1 }) room

put_if_rooms : (b : Bool) (m : RmapRec) (recs : List RmapRec) → (b ≡ true → HasRoom m) → All HasRoom recs → All HasRoom (put_if b m recs)
put_if_rooms true m recs room all = put_rooms m recs (room refl) all
put_if_rooms false m recs room all = all

rest_rooms : (recs ys : List RmapRec) → All HasRoom recs → All HasRoom ys → (r : RmapRec) → 1 ≤ r.count → (o : Option RmapRec) → find (λ p. holds p r) recs ≡ o → All HasRoom (rest_put o r ys)
rest_rooms recs ys all others r some None found = others
rest_rooms recs ys all others r some (Some p) found =
    let at = found_by_find (λ x. holds x r) recs p found in
    let room = has_room_at recs all p at.0 in
    let behind = put_if (nat_lt (r.start + r.count) (p.start + p.count)) (back_of p r) ys in
    put_if_rooms (nat_lt p.start r.start) (front_of p r) behind (λ h. front_room p r room some at.1 (from_lt p.start r.start h))
    (put_if_rooms (nat_lt (r.start + r.count) (p.start + p.count)) (back_of p r) ys (λ h. back_room p r room some at.1 (from_lt (r.start + r.count) (p.start + p.count) h)) others)

pub take_rooms : (recs : List RmapRec) → All HasRoom recs → (r : RmapRec) → HasRoom r → All HasRoom (take_run r recs)
unfolding take_run
take_rooms recs all r room =
    rest_rooms recs (filter (λ p. not (holds p r)) recs) all (filter_rooms (λ p. not (holds p r)) recs all) r (some_blocks r room.0) (find (λ p. holds p r) recs) refl

rest_sorted : (o : Option RmapRec) (r : RmapRec) (ys : List RmapRec) → AreSorted ys → AreSorted (rest_put o r ys)
rest_sorted None r ys sorted = sorted
rest_sorted (Some p) r ys sorted =
    put_if_sorted (nat_lt p.start r.start) (front_of p r) (put_if (nat_lt (r.start + r.count) (p.start + p.count)) (back_of p r) ys)
    (put_if_sorted (nat_lt (r.start + r.count) (p.start + p.count)) (back_of p r) ys sorted)

pub take_sorted : (recs : List RmapRec) → AreSorted recs → (r : RmapRec) → AreSorted (take_run r recs)
unfolding take_run
take_sorted recs sorted r = rest_sorted (find (λ p. holds p r) recs) r (filter (λ p. not (holds p r)) recs) (filter_sorted (λ p. not (holds p r)) recs sorted)

-- ---- how many there are

put_length : (m : RmapRec) (xs : List RmapRec) → length (put_rec m xs) ≡ length xs + 1
unfolding put_rec
put_length m [] = refl
put_length m (y ∷ ys) = elim (is_before y m) as (λ b. length (if b then y ∷ put_rec m ys else m ∷ y ∷ ys) ≡ length (y ∷ ys) + 1) [
  | true ↦ let rest = put_length m ys in omega (arith, rest)
  | false ↦ omega arith
]

put_if_length : (b : Bool) (m : RmapRec) (xs : List RmapRec) → length (put_if b m xs) ≤ length xs + 1
put_if_length true m xs = let e = put_length m xs in omega (arith, e)
put_if_length false m xs = omega arith

pub fewer : (p : RmapRec → Bool) (xs : List RmapRec) → length (filter p xs) ≤ length xs
fewer p [] = omega arith
fewer p (x ∷ xs) = elim (p x) as (λ b. length (cond b (x ∷ filter p xs) (filter p xs)) ≤ length (x ∷ xs)) [
  | true ↦ let rest = fewer p xs in omega (arith, rest)
  | false ↦ let rest = fewer p xs in omega (arith, rest)
]

pub one_less : (q : RmapRec → Bool) (xs : List RmapRec) (o : Option RmapRec) (p : RmapRec) → find q xs ≡ o → o ≡ Some p → length (filter (λ x. not (q x)) xs) + 1 ≤ length xs
one_less q [] o p found is = cc
one_less q (x ∷ xs) o p found is = (elim (q x) as (λ b. cond b (Some x) (find q xs) ≡ o → length (cond (not b) (x ∷ filter (λ y. not (q y)) xs) (filter (λ y. not (q y)) xs)) + 1 ≤ length (x ∷ xs)) [
  | true ↦ λ h. let rest = fewer (λ y. not (q y)) xs in omega (arith, rest)
  | false ↦ λ h. let rest = one_less q xs o p h is in omega (arith, rest)
]) found

pub give_length : (r : RmapRec) (recs : List RmapRec) → length (give_run r recs) ≤ length recs + 1
unfolding give_run
give_length r recs = let put = put_length (grown r recs) (filter (is_beside r) recs) in let rest = fewer (is_beside r) recs in omega (arith, put, rest)

rest_length : (r : RmapRec) (recs : List RmapRec) (o : Option RmapRec) → find (λ p. holds p r) recs ≡ o → length (rest_put o r (filter (λ p. not (holds p r)) recs)) ≤ length recs + 1
rest_length r recs None found = let rest = fewer (λ p. not (holds p r)) recs in omega (arith, rest)
rest_length r recs (Some p) found =
    let others = filter (λ x. not (holds x r)) recs in
    let behind = put_if (nat_lt (r.start + r.count) (p.start + p.count)) (back_of p r) others in
    let less = one_less (λ x. holds x r) recs (Some p) p found refl in
    let first = put_if_length (nat_lt (r.start + r.count) (p.start + p.count)) (back_of p r) others in
    let second = put_if_length (nat_lt p.start r.start) (front_of p r) behind in
    omega (arith, less, first, second)

pub take_length : (r : RmapRec) (recs : List RmapRec) → length (take_run r recs) ≤ length recs + 1
unfolding take_run
take_length r recs = rest_length r recs (find (λ p. holds p r) recs) refl

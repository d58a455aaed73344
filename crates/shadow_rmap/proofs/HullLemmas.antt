-- A record with all runs that have a tuple of it: it has their tuples and its own, and its numbers fit.
use Rattle.std.proofs.Common.{◌≡◌, ◌<◌, ◌≤◌, ◌⊎◌, ◌+◌, ◌-◌, ◌%◌, ◌^◌, ℕ, zero, suc, Bool, true, false, ◌&&◌, ◌==◌, List, [], ◌∷◌, Contains, refl, sym, ap, ◌∙◌, subst, inl, inr, arith, eqb-true, eq-eqb}
use Rattle.std.specs.Prelude.{nat_lt, nat_le, if◌then◌else◌}
use Rattle.std.proofs.lemmas.Bool.{false≢true, cases_lt}
use Rattle.std.proofs.lemmas.Bool.Decides.{nat_tests}
use Rattle.rmap_recs.specs.Rmap.{has_end}
use Rattle.rmap_recs.specs.Words.{is_fork_data, word_goes_on, offset_of}
use Rattle.rmap_recs.specs.Runs.{goes_on, tuple_at}
use Rattle.rmap_recs.specs.declared.records.RmapRec.{RmapRec}
use Rattle.rmap_recs.specs.declared.tuples.Tuple.{Tuple}
use Rattle.rmap_recs.proofs.EndLemmas.{some_blocks, last_offset}
use Rattle.rmap_recs.proofs.RisingLemmas.{nothing_in, in_front, in_rest, in_either}
use Rattle.rmap_recs.proofs.WordLemmas.{same_flags, same_sort}
use Rattle.run_edits.specs.Edits.{HasRoom}
use Rattle.run_edits.specs.EditLaws.{IsOf}
use Rattle.run_edits.proofs.ChainLemmas.{AreInRow, after, after_goes, after_is, first_of, first_is, in_row, along_from, only_ahead, flags_along, offset_then}
use Rattle.run_edits.proofs.RoomLemmas.{end_by}
use Rattle.shadow_rmap.specs.Union.{is_along, meets, wider, widened, hull_from}

three : (a b c : Bool) → (a && b && c) ≡ true → (a ≡ true) × (b ≡ true) × (c ≡ true)
three true true true h = (refl, refl, refl)
three true true false h = absurd (false≢true h)
three true false c h = absurd (false≢true h)
three false b c h = absurd (false≢true h)

from_le : (a b : ℕ) → nat_le a b ≡ true → a ≤ b
from_le a b h = grind (arith, nat_tests)

from_not_le : (a b : ℕ) → nat_le a b ≡ false → b ≤ a
from_not_le a b h = grind (arith, nat_tests)

to_lt : (a b : ℕ) → a < b → nat_lt a b ≡ true
to_lt a b h = grind (arith, nat_tests)

from_lt : (a b : ℕ) → nat_lt a b ≡ true → a < b
from_lt a b h = grind (arith, nat_tests)

from_not_lt : (a b : ℕ) → nat_lt a b ≡ false → b ≤ a
from_not_lt a b h = grind (arith, nat_tests)

pub row_of : (r : RmapRec) → HasRoom r → AreInRow r
row_of r room = in_row r room.0

pub some_of : (r : RmapRec) → HasRoom r → 0 < r.count
some_of r room = let some = some_blocks r room.0 in omega (arith, some)

-- ---- one record begins in another

record Along (a b : RmapRec) : Type 0 where
  starts : a.start ≤ b.start
  inside : b.start < a.start + a.count
  owner : b.owner ≡ a.owner
  goes : word_goes_on a.owner a.word (b.start - a.start) b.word ≡ true
  tuples : (j : ℕ) → tuple_at b j ≡ tuple_at a ((b.start - a.start) + j)

along_of : (a b : RmapRec) → AreInRow a → a.start ≤ b.start → is_along a b ≡ true → Along a b
along_of a b row starts h =
    let each = three (nat_lt b.start (a.start + a.count)) (b.owner == a.owner) (word_goes_on a.owner a.word (b.start - a.start) b.word) h in
    let k = b.start - a.start in
    let inside = from_lt b.start (a.start + a.count) each.0 in
    let owner = eqb-true b.owner a.owner each.1 in
    let word = after_is a.owner a.word k b.word each.2 in
    let block : a.start + k ≡ b.start = omega (arith, starts) in
    let first : tuple_at a k ≡ first_of b = λ i. record { block = block i; owner = sym owner i; word = sym word i } in
    record { starts = starts; inside = inside; owner = owner; goes = each.2; tuples = along_from a b row k (omega (arith, starts, inside)) (first ∙ sym (first_is b)) }

along_by : (a b : RmapRec) → AreInRow a → (k : ℕ) → k < a.count → tuple_at a k ≡ tuple_at b 0 → is_along a b ≡ true
along_by a b row k below same =
    let first : tuple_at a k ≡ first_of b = same ∙ first_is b in
    let block : a.start + k ≡ b.start = ap (λ (t : Tuple). t.block) first in
    let place : b.start - a.start ≡ k = omega (arith, block) in
    let owner : b.owner ≡ a.owner = sym (ap (λ (t : Tuple). t.owner) first) in
    let word : after a.owner a.word k ≡ b.word = ap (λ (t : Tuple). t.word) first in
    let goes : word_goes_on a.owner a.word (b.start - a.start) b.word ≡ true =
    ap (λ (n : ℕ). word_goes_on a.owner a.word n b.word) place ∙ ap (word_goes_on a.owner a.word k) (sym word)
    ∙ after_goes a.owner a.word k (flags_along a row k below) in
    rw (to_lt b.start (a.start + a.count) (omega (arith, block, below)), eq-eqb b.owner a.owner owner, goes) refl

step_back : (a b : RmapRec) → AreInRow a → AreInRow b → (i j : ℕ) → suc i < a.count → suc j < b.count → tuple_at a (suc i) ≡ tuple_at b (suc j) → tuple_at a i ≡ tuple_at b j
step_back a b row other i j below also same =
    let e : i + 1 ≡ suc i = omega arith in
    let f : j + 1 ≡ suc j = omega arith in
    only_ahead (tuple_at a i) (tuple_at b j) (tuple_at a (i + 1)) (row i (omega (arith, below)))
    (ap (goes_on (tuple_at b j)) (ap (tuple_at a) e ∙ same ∙ ap (tuple_at b) (sym f)) ∙ other j (omega (arith, also)))

-- of two records with a common tuple, the one that begins later begins in the other
begins_in : (a b : RmapRec) → AreInRow a → AreInRow b → (i j : ℕ) → i < a.count → j < b.count → j ≤ i → tuple_at a i ≡ tuple_at b j → is_along a b ≡ true
begins_in a b row other i zero below also before same = along_by a b row i below same
begins_in a b row other zero (suc j) below also before same = absurd (omega (arith, before))
begins_in a b row other (suc i) (suc j) below also before same =
    begins_in a b row other i j (omega (arith, below)) (omega (arith, also)) (omega (arith, before)) (step_back a b row other i j below also same)

pub meets_by : (a b : RmapRec) → HasRoom a → HasRoom b → (t : Tuple) → IsOf a t → IsOf b t → meets a b ≡ true
meets_by a b room other t (i, below, is) (j, also, at) =
    let same : tuple_at a i ≡ tuple_at b j = is ∙ sym at in
    let block : a.start + i ≡ b.start + j = ap (λ (u : Tuple). u.block) same in
    (elim (nat_le a.start b.start) as (λ b'. nat_le a.start b.start ≡ b' → (if b' then is_along a b else is_along b a) ≡ true) [
      | true ↦ λ e. let first = from_le a.start b.start e in begins_in a b (row_of a room) (row_of b other) i j below also (omega (arith, first, block)) same
      | false ↦ λ e. let first = from_not_le a.start b.start e in begins_in b a (row_of b other) (row_of a room) j i also below (omega (arith, first, block)) (sym same)
    ]) refl

-- ---- two records that meet, as one

pub record IsWide (a b w : RmapRec) : Type 0 where
  pub room : HasRoom w
  pub first : (t : Tuple) → IsOf a t → IsOf w t
  pub second : (t : Tuple) → IsOf b t → IsOf w t
  pub only : (t : Tuple) → IsOf w t → IsOf a t ⊎ IsOf b t

-- so many blocks of the first's begin has the wider one, as a number
abbrev wide : ℕ → ℕ → ℕ → ℕ
wide s c e = if nat_lt (s + c) e then e - s else c

record Reach (s c e n : ℕ) : Type 0 where
  low : c ≤ n
  high : e ≤ s + n
  either : (n ≡ c) ⊎ ((n ≡ e - s) × (s + c < e))

reach : (s c e : ℕ) → Reach s c e (wide s c e)
reach s c e = (elim (nat_lt (s + c) e) as (λ b. nat_lt (s + c) e ≡ b → Reach s c e (if b then e - s else c)) [
  | true ↦ λ h. let more = from_lt (s + c) e h in record { low = omega (arith, more); high = omega (arith, more); either = inr (refl, more) }
  | false ↦ λ h. let less = from_not_lt (s + c) e h in record { low = omega arith; high = omega (arith, less); either = inl refl }
]) refl

module _ (a b : RmapRec) (room : HasRoom a) (other : HasRoom b) (along : Along a b) where
  abbrev e : ℕ
  e = b.start + b.count

  abbrev k : ℕ
  k = b.start - a.start

  far : Reach a.start a.count e (wide a.start a.count e)
  far = reach a.start a.count e

  wide_offset : is_fork_data a.owner a.word ≡ true → offset_of a.word + wide a.start a.count e ≤ 2 ^ 54
  wide_offset fork =
      let starts = along.starts in
      let sort : is_fork_data b.owner b.word ≡ true = ap (λ (o : ℕ). is_fork_data o b.word) along.owner ∙ same_sort a.owner b.word a.word (same_flags a.owner a.word k b.word along.goes) ∙ fork in
      let offset : b.word % 2 ^ 54 ≡ a.word % 2 ^ 54 + k = offset_then a.owner a.word k b.word true fork along.goes in
      let mine = last_offset a room.0 fork in
      let its = last_offset b other.0 sort in
      elim far.either [
        | inl same ↦ omega (arith, same, mine)
        | inr more ↦ let same = more.0 in omega (arith, same, offset, its, starts)
      ]

  wide_end : a.start + wide a.start a.count e < 2 ^ 32
  wide_end =
      let mine = room.1 in
      let its = other.1 in
      elim far.either [
        | inl same ↦ omega (arith, same, mine)
        | inr more ↦ let same = more.0 in let past = more.1 in omega (arith, same, past, its)
      ]

  wide_first : (t : Tuple) → IsOf a t → IsOf (wider a b) t
  wide_first t (i, below, is) = let low = far.low in (i, omega (arith, below, low), is)

  wide_second : (t : Tuple) → IsOf b t → IsOf (wider a b) t
  wide_second t (j, below, is) = let high = far.high in let starts = along.starts in (k + j, omega (arith, below, high, starts), sym (along.tuples j) ∙ is)

  wide_only : (t : Tuple) → IsOf (wider a b) t → IsOf a t ⊎ IsOf b t
  wide_only t (i, below, is) = elim (cases_lt i a.count) [
    | inl mine ↦ inl (i, mine, is)
    | inr past ↦
        let starts = along.starts in
        let inside = along.inside in
        let place : k + (i - k) ≡ i = omega (arith, past, starts, inside) in
        let less : i - k < b.count = elim far.either [
          | inl same ↦ absurd (omega (arith, same, below, past))
          | inr more ↦ let same = more.0 in omega (arith, same, below, past, starts, inside)
        ] in
        inr (i - k, less, along.tuples (i - k) ∙ ap (tuple_at a) place ∙ is)
  ]

  wide_is : IsWide a b (wider a b)
  wide_is =
      let low = far.low in
      let some = some_of a room in
      record {
        room = end_by (wider a b) (omega (arith, low, some)) wide_end wide_offset;
        first = wide_first;
        second = wide_second;
        only = wide_only;
      }

turned : (a b w : RmapRec) → IsWide b a w → IsWide a b w
turned a b w is = record {
  room = is.room;
  first = is.second;
  second = is.first;
  only = λ t of. elim (is.only t of) [ inl b ↦ inr b | inr a ↦ inl a ];
}

pub widened_is : (a b : RmapRec) → HasRoom a → HasRoom b → meets a b ≡ true → IsWide a b (widened a b)
widened_is a b room other m = (elim (nat_le a.start b.start) as (λ c. nat_le a.start b.start ≡ c → (if c then is_along a b else is_along b a) ≡ true → IsWide a b (if c then wider a b else wider b a)) [
  | true ↦ λ h n. wide_is a b room other (along_of a b (row_of a room) (from_le a.start b.start h) n)
  | false ↦ λ h n. turned a b (wider b a) (wide_is b a other room (along_of b a (row_of b other) (from_not_le a.start b.start h) n))
]) refl m

-- ---- with all of a list that meet a record

pub record IsHull (r : RmapRec) (qs : List RmapRec) (h x : RmapRec) : Type 0 where
  pub room : HasRoom x
  pub own : (t : Tuple) → IsOf h t → IsOf x t
  pub each : (q : RmapRec) → Contains qs q → meets q r ≡ true → (t : Tuple) → IsOf q t → IsOf x t
  pub only : (t : Tuple) → IsOf x t → IsOf h t ⊎ ((q : RmapRec) × Contains qs q × (meets q r ≡ true) × IsOf q t)

-- the record has a tuple with a run that it meets
common : (q r : RmapRec) → HasRoom q → HasRoom r → meets q r ≡ true → (t : Tuple) × IsOf q t × IsOf r t
common q r room other m = (elim (nat_le q.start r.start) as (λ c. nat_le q.start r.start ≡ c → (if c then is_along q r else is_along r q) ≡ true → (t : Tuple) × IsOf q t × IsOf r t) [
  | true ↦ λ h n.
      let on = along_of q r (row_of q room) (from_le q.start r.start h) n in
      let starts = on.starts in
      let inside = on.inside in
      (tuple_at r 0, ((r.start - q.start) + 0, omega (arith, starts, inside), sym (on.tuples 0)), (0, some_of r other, refl))
  | false ↦ λ h n.
      let on = along_of r q (row_of r other) (from_not_le q.start r.start h) n in
      let starts = on.starts in
      let inside = on.inside in
      (tuple_at q 0, (0, some_of q room, refl), ((q.start - r.start) + 0, omega (arith, starts, inside), sym (on.tuples 0)))
]) refl m

pub hull_is : (r : RmapRec) → HasRoom r → (qs : List RmapRec) → ((q : RmapRec) → Contains qs q → HasRoom q) → (h : RmapRec) → HasRoom h → ((t : Tuple) → IsOf r t → IsOf h t) → IsHull r qs h (hull_from h r qs)
unfolding hull_from
hull_is r room [] rooms h fits has = record { room = fits; own = λ t of. of; each = λ q c m t of. absurd (nothing_in q c); only = λ t of. inl of }
hull_is r room (q ∷ qs) rooms h fits has = (elim (meets q r) as (λ b. meets q r ≡ b → IsHull r (q ∷ qs) h (hull_from (if b then widened h q else h) r qs)) [
  | true ↦ λ m.
      let mine = rooms q (in_front q qs) in
      let at = common q r mine room m in
      let w = widened_is h q fits mine (meets_by h q fits mine at.0 (has at.0 at.2) at.1) in
      let rest = hull_is r room qs (λ p c. rooms p (in_rest q qs p c)) (widened h q) w.room (λ t of. w.first t (has t of)) in
      record {
        room = rest.room;
        own = λ t of. rest.own t (w.first t of);
        each = λ p c n t of. elim (in_either q qs p c) [
          | inl same ↦ rest.own t (w.second t (subst (λ (y : RmapRec). IsOf y t) (sym same) of))
          | inr later ↦ rest.each p later n t of
        ];
        only = λ t of. elim (rest.only t of) [
          | inl wide ↦ elim (w.only t wide) [ inl a ↦ inl a | inr b ↦ inr (q, in_front q qs, m, b) ]
          | inr hit ↦ inr (hit.0, in_rest q qs hit.0 hit.1, hit.2, hit.3)
        ];
      }
  | false ↦ λ m.
      let rest = hull_is r room qs (λ p c. rooms p (in_rest q qs p c)) h fits has in
      record {
        room = rest.room;
        own = rest.own;
        each = λ p c n t of. elim (in_either q qs p c) [
          | inl same ↦ absurd (false≢true (sym m ∙ subst (λ (y : RmapRec). meets y r ≡ true) (sym same) n))
          | inr later ↦ rest.each p later n t of
        ];
        only = λ t of. elim (rest.only t of) [
          | inl a ↦ inl a
          | inr hit ↦ inr (hit.0, in_rest q qs hit.0 hit.1, hit.2, hit.3)
        ];
      }
]) refl

-- where none meets it, it stays
pub hull_alone : (r : RmapRec) (qs : List RmapRec) (h : RmapRec) → ((q : RmapRec) → Contains qs q → meets q r ≡ false) → hull_from h r qs ≡ h
unfolding hull_from
hull_alone r [] h none = refl
hull_alone r (q ∷ qs) h none =
    ap (λ (b : Bool). hull_from (if b then widened h q else h) r qs) (none q (in_front q qs)) ∙ hull_alone r qs h (λ p c. none p (in_rest q qs p c))

-- A record put to maximal runs makes those of the union, and one taken out those of the difference, whatever of it is there.
use Rattle.std.proofs.Common.{◌≡◌, ◌<◌, ◌≤◌, ◌⊎◌, ◌+◌, ◌-◌, ℕ, zero, suc, Bool, true, false, not, cond, List, [], ◌∷◌, All, Contains, Option, Some, None, find, length, refl, sym, ap, ◌∙◌, subst, inl, inr, arith}
use Rattle.std.specs.Prelude.{nat_lt, if◌then◌else◌}
use Rattle.std.specs.List.{filter}
use Rattle.std.proofs.lemmas.Bool.{false≢true, cases_lt}
use Rattle.std.proofs.lemmas.Bool.Decides.{nat_tests}
use Rattle.rmap_recs.specs.Rmap.{has_end, key_of}
use Rattle.rmap_recs.specs.RmapLaws.{lawful_rmap}
use Rattle.rmap_recs.specs.Runs.{AreRuns, IsRun, tuple_at}
use Rattle.rmap_recs.specs.declared.records.RmapRec.{RmapRec}
use Rattle.rmap_recs.specs.declared.tuples.Tuple.{Tuple}
use Rattle.rmap_recs.proofs.RisingLemmas.{nothing_in, in_front, in_rest, in_either, filtered, kept_by_filter, filter_rises, none_by_find, find_one_by}
use Rattle.run_edits.specs.Edits.{HasRoom, Holder, is_before, holds, front_of, back_of, give_run}
use Rattle.run_edits.specs.EditLaws.{IsOf, AreUntied}
use Rattle.run_edits.specs.Pieces.{tuples_of}
use Rattle.run_edits.proofs.ChainLemmas.{first_of, first_is, along_from, share}
use Rattle.run_edits.proofs.FitLemmas.{holder_is}
use Rattle.run_edits.proofs.GiveLemmas.{give_exact}
use Rattle.run_edits.proofs.RoomLemmas.{front_room, back_room, give_length, fewer, one_less}
use Rattle.run_edits.proofs.TakeLemmas.{Held, held, holds_by}
use Rattle.run_edits.proofs.TupleLemmas.{have_tuples}
use Rattle.shadow_rmap.specs.ToldLaws.{runs_alike, untied_alike}
use Rattle.shadow_rmap.specs.Union.{AreUnion, AreLeft, meets, widened, hull_from, hull, apart, add_run, give_if, give_front, give_back, remove_run}
use Rattle.shadow_rmap.proofs.HullLemmas.{row_of, some_of, meets_by, IsHull, hull_is, hull_alone}

from_lt : (a b : ℕ) → nat_lt a b ≡ true → a < b
from_lt a b h = grind (arith, nat_tests)

to_lt : (a b : ℕ) → a < b → nat_lt a b ≡ true
to_lt a b h = grind (arith, nat_tests)

not_less : (a : ℕ) → nat_lt a a ≡ false
not_less a = grind (arith, nat_tests)

block_of : (r : RmapRec) (t : Tuple) (i : ℕ) → tuple_at r i ≡ t → r.start + i ≡ t.block
block_of r t i is = ap (λ (u : Tuple). u.block) is

-- ---- one more record among some

abbrev more : Bool → RmapRec → List RmapRec → List RmapRec
more true m qs = m ∷ qs
more false m qs = qs

more_old : (b : Bool) (m : RmapRec) (qs : List RmapRec) (t : Tuple) → Contains (tuples_of qs) t → Contains (tuples_of (more b m qs)) t
more_old true m qs t c = let p = (have_tuples qs).only t c in (have_tuples (m ∷ qs)).has p.0 (in_rest m qs p.0 p.1) t p.2
more_old false m qs t c = c

more_new : (b : Bool) (m : RmapRec) (qs : List RmapRec) (t : Tuple) → b ≡ true → IsOf m t → Contains (tuples_of (more b m qs)) t
more_new true m qs t h of = (have_tuples (m ∷ qs)).has m (in_front m qs) t of
more_new false m qs t h of = absurd (false≢true h)

more_only : (b : Bool) (m : RmapRec) (qs : List RmapRec) (t : Tuple) → Contains (tuples_of (more b m qs)) t → Contains (tuples_of qs) t ⊎ ((b ≡ true) × IsOf m t)
more_only true m qs t c =
    let p = (have_tuples (m ∷ qs)).only t c in
    elim (in_either m qs p.0 p.1) [
      | inl same ↦ inr (refl, subst (λ (x : RmapRec). IsOf x t) (sym same) p.2)
      | inr old ↦ inl ((have_tuples qs).has p.0 old t p.2)
    ]
more_only false m qs t c = inl c

-- a record is given, or isn't
record AreMore (b : Bool) (m : RmapRec) (ts us : List Tuple) : Type 0 where
  end : b ≡ true → has_end m ≡ true
  new : b ≡ true → (t : Tuple) → IsOf m t → Contains ts t → ⊥
  kept : (t : Tuple) → Contains ts t → Contains us t
  given : b ≡ true → (t : Tuple) → IsOf m t → Contains us t
  only : (t : Tuple) → Contains us t → Contains ts t ⊎ ((b ≡ true) × IsOf m t)

give_if_exact : (b : Bool) (m : RmapRec) (ts us : List Tuple) (recs : List RmapRec) → AreMore b m ts us → AreUntied us → AreRuns ts recs → AreRuns us (give_if b m recs)
give_if_exact true m ts us recs are untied runs =
    give_exact ts us recs m (are.end refl) untied
    (record { new = are.new refl; kept = are.kept; given = are.given refl; only = λ t c. elim (are.only t c) [ inl old ↦ inl old | inr fresh ↦ inr fresh.1 ] }) runs
give_if_exact false m ts us recs are untied runs =
    runs_alike ts us recs are.kept (λ t c. elim (are.only t c) [ inl old ↦ old | inr fresh ↦ absurd (false≢true fresh.0) ]) runs

pub rooms_of : (recs : List RmapRec) → All HasRoom recs → (q : RmapRec) → Contains recs q → HasRoom q
rooms_of recs all q c = subst HasRoom c.2 (all c.0 q c.1)

pub hull_of : (r : RmapRec) → HasRoom r → (recs : List RmapRec) → ((q : RmapRec) → Contains recs q → HasRoom q) → IsHull r recs r (hull r recs)
hull_of r room recs rooms = hull_is r room recs rooms r room (λ t of. of)

-- ---- the record lies in its hull

module _ (r : RmapRec) (room : HasRoom r) (x : RmapRec) (fits : HasRoom x) (own : (t : Tuple) → IsOf r t → IsOf x t) where
  abbrev last : ℕ
  last = r.count - 1

  pub held_by : holds x r ≡ true
  held_by =
      let some = some_of r room in
      let first = own (tuple_at r 0) (0, some, refl) in
      let end = own (tuple_at r last) (last, omega (arith, some), refl) in
      let k = first.0 in
      let at = block_of x (tuple_at r 0) k first.2 in
      let far = block_of x (tuple_at r last) end.0 end.2 in
      let below = end.1 in
      holds_by x r (row_of x fits) some k (omega (arith, some, at, far, below)) first.2

module _ (ts : List Tuple) (recs : List RmapRec) (r : RmapRec) (rooms : (q : RmapRec) → Contains recs q → HasRoom q) (room : HasRoom r) (runs : AreRuns ts recs) where
  abbrev left : List RmapRec
  left = apart r recs

  abbrev rest : List Tuple
  rest = tuples_of left

  abbrev x : RmapRec
  x = hull r recs

  whole : IsHull r recs r x
  whole = hull_of r room recs rooms

  within : (q : RmapRec) → Contains recs q → (t : Tuple) → IsOf q t → Contains ts t
  within q c t of = subst (Contains ts) of.2 ((runs.maximal q c).within of.0 of.1)

  kept_run : (q : RmapRec) → Contains left q → Contains recs q × (not (meets q r) ≡ true)
  kept_run q c = filtered (λ p. not (meets p r)) recs q c

  in_old : (t : Tuple) → Contains rest t → Contains ts t
  in_old t c = let p = (have_tuples left).only t c in within p.0 (kept_run p.0 p.1).0 t p.2

  left_run : (q : RmapRec) → Contains left q → IsRun rest q
  left_run q c =
      let run = runs.maximal q (kept_run q c).0 in
      record {
        some = run.some;
        within = λ i below. (have_tuples left).has q c (tuple_at q i) (i, below, refl);
        consecutive = run.consecutive;
        first = λ t d. run.first t (in_old t d);
        last = λ t d. run.last t (in_old t d);
      }

  left_runs : AreRuns rest left
  left_runs = record {
    maximal = left_run;
    all = λ t c. let p = (have_tuples left).only t c in let of = p.2 in (p.0, of.0, p.1, of.1, of.2);
    rising = filter_rises is_before (λ a b d. lawful_rmap.along (key_of a) (key_of b) (key_of d)) (λ p. not (meets p r)) recs runs.rising;
  }

  not_both : (b : Bool) → not b ≡ true → b ≡ true → ⊥
  not_both true h i = false≢true h
  not_both false h i = false≢true i

  -- no tuple of the hull is one of the other runs
  never : (t : Tuple) → IsOf x t → Contains rest t → ⊥
  never t of c =
      let p = (have_tuples left).only t c in
      let kept = kept_run p.0 p.1 in
      elim (whole.only t of) [
        | inl mine ↦ not_both (meets p.0 r) kept.1 (meets_by p.0 r (rooms p.0 kept.0) room t p.2 mine)
        | inr hit ↦
            let a = p.2 in
            let b = hit.3 in
            let same : p.0 ≡ hit.0 = share ts p.0 hit.0 (runs.maximal p.0 kept.0) (runs.maximal hit.0 hit.1) a.0 b.0 a.1 b.1 (a.2 ∙ sym b.2) in
            not_both (meets p.0 r) kept.1 (subst (λ (y : RmapRec). meets y r ≡ true) (sym same) hit.2)
      ]

  either : (t : Tuple) → Contains ts t → Contains rest t ⊎ IsOf x t
  either t c =
      let hit = runs.all t c in
      let p = hit.0 in
      let of : IsOf p t = (hit.1, hit.3, hit.4) in
      (elim (meets p r) as (λ b. meets p r ≡ b → Contains rest t ⊎ IsOf x t) [
        | true ↦ λ m. inr (whole.each p hit.2 m t of)
        | false ↦ λ m. inl ((have_tuples left).has p (kept_by_filter (λ q. not (meets q r)) recs p hit.2 (ap not m)) t of)
      ]) refl

  of_hull : (t : Tuple) → IsOf x t → IsOf r t ⊎ Contains ts t
  of_hull t of = elim (whole.only t of) [
    | inl mine ↦ inl mine
    | inr hit ↦ inr (within hit.0 hit.1 t hit.3)
  ]

  pub add_exact : (us : List Tuple) → AreUntied us → AreUnion ts us r → AreRuns us (add_run r recs)
  unfolding add_run
  add_exact us untied union =
      give_exact rest us left x whole.room.0 untied
      (record {
        new = never;
        kept = λ t c. union.kept t (in_old t c);
        given = λ t of. elim (of_hull t of) [ inl mine ↦ union.given t mine | inr old ↦ union.kept t old ];
        only = λ t c. elim (union.only t c) [ inl old ↦ either t old | inr mine ↦ inr (whole.own t mine) ];
      })
      left_runs

  -- ---- what of the hull lies beside the record

  some : 0 < r.count
  some = some_of r room

  one : 1 ≤ r.count
  one = let s = some in omega (arith, s)

  holds_it : holds x r ≡ true
  holds_it = held_by r room x whole.room whole.own

  lies : Held x r (row_of x whole.room) some
  lies = held x r (row_of x whole.room) some holds_it

  abbrev k : ℕ
  k = r.start - x.start

  abbrev front : RmapRec
  front = front_of x r

  abbrev back : RmapRec
  back = back_of x r

  abbrev is_front : Bool
  is_front = nat_lt x.start r.start

  abbrev is_back : Bool
  is_back = nat_lt (r.start + r.count) (x.start + x.count)

  front_in : (t : Tuple) → IsOf front t → IsOf x t × (t.block < r.start)
  front_in t (i, below, is) =
      let starts = lies.starts in
      let ends = lies.ends in
      let block = block_of front t i is in
      ((i, omega (arith, below, starts, ends), is), omega (arith, block, below))

  in_front_of : (t : Tuple) → IsOf x t → t.block < r.start → (is_front ≡ true) × IsOf front t
  in_front_of t (i, below, is) before =
      let block = block_of x t i is in
      (to_lt x.start r.start (omega (arith, block, before)), (i, omega (arith, block, before), is))

  back_is : is_back ≡ true → (j : ℕ) → tuple_at back j ≡ tuple_at x ((k + r.count) + j)
  back_is h j =
      let inside = from_lt (r.start + r.count) (x.start + x.count) h in
      let starts = lies.starts in
      along_from x back (row_of x whole.room) (k + r.count) (omega (arith, inside, starts)) (sym (lies.tuples r.count) ∙ sym (first_is back)) j

  back_in : is_back ≡ true → (t : Tuple) → IsOf back t → IsOf x t × (r.start + r.count ≤ t.block)
  back_in h t (j, below, is) =
      let inside = from_lt (r.start + r.count) (x.start + x.count) h in
      let starts = lies.starts in
      let block = block_of back t j is in
      (((k + r.count) + j, omega (arith, inside, below, starts), sym (back_is h j) ∙ is), omega (arith, block))

  in_back : (t : Tuple) → IsOf x t → r.start + r.count ≤ t.block → (is_back ≡ true) × IsOf back t
  in_back t (i, below, is) behind =
      let block = block_of x t i is in
      let starts = lies.starts in
      let h = to_lt (r.start + r.count) (x.start + x.count) (omega (arith, block, behind, below)) in
      let j = i - (k + r.count) in
      let place : (k + r.count) + j ≡ i = omega (arith, block, behind, starts) in
      (h, (j, omega (arith, block, behind, below, starts), back_is h j ∙ ap (tuple_at x) place ∙ is))

  -- between the two lies the record
  in_record : (t : Tuple) → IsOf x t → r.start ≤ t.block → t.block < r.start + r.count → IsOf r t
  in_record t (i, below, is) from until =
      let block = block_of x t i is in
      let starts = lies.starts in
      let j = i - k in
      let place : k + j ≡ i = omega (arith, block, from, starts) in
      (j, omega (arith, block, until, from, starts), lies.tuples j ∙ ap (tuple_at x) place ∙ is)

  in_blocks : (t : Tuple) → IsOf r t → (r.start ≤ t.block) × (t.block < r.start + r.count)
  in_blocks t (i, below, is) = let block = block_of r t i is in (omega (arith, block), omega (arith, block, below))

  module _ (us : List Tuple) (untied : AreUntied us) (are : AreLeft ts us r) where
    abbrev mid : List Tuple
    mid = tuples_of (more is_front front left)

    front_not : (t : Tuple) → IsOf front t → IsOf r t → ⊥
    front_not t of mine = let before = (front_in t of).1 in let from = (in_blocks t mine).0 in omega (arith, before, from)

    back_not : is_back ≡ true → (t : Tuple) → IsOf back t → IsOf r t → ⊥
    back_not h t of mine = let behind = (back_in h t of).1 in let until = (in_blocks t mine).1 in omega (arith, behind, until)

    stays : (t : Tuple) → IsOf x t → (IsOf r t → ⊥) → Contains us t
    stays t of other = elim (of_hull t of) [ inl mine ↦ absurd (other mine) | inr old ↦ are.kept t old other ]

    rest_stays : (t : Tuple) → Contains rest t → Contains us t
    rest_stays t c = are.kept t (in_old t c) (λ mine. never t (whole.own t mine) c)

    mid_stays : (t : Tuple) → Contains mid t → Contains us t
    mid_stays t c = elim (more_only is_front front left t c) [
      | inl old ↦ rest_stays t old
      | inr fresh ↦ stays t (front_in t fresh.1).0 (front_not t fresh.1)
    ]

    first_runs : AreRuns mid (give_front x r left)
    first_runs = give_if_exact is_front front rest mid left
        (record {
          end = λ h. (front_room x r whole.room one holds_it (from_lt x.start r.start h)).0;
          new = λ h t of c. never t (front_in t of).0 c;
          kept = more_old is_front front left;
          given = λ h t of. more_new is_front front left t h of;
          only = more_only is_front front left;
        })
        (untied_alike us mid mid_stays untied) left_runs

    back_new : is_back ≡ true → (t : Tuple) → IsOf back t → Contains mid t → ⊥
    back_new h t of c = elim (more_only is_front front left t c) [
      | inl old ↦ never t (back_in h t of).0 old
      | inr fresh ↦
          let before = (front_in t fresh.1).1 in
          let behind = (back_in h t of).1 in
          omega (arith, before, behind)
    ]

    beside : (t : Tuple) → IsOf x t → (IsOf r t → ⊥) → Contains mid t ⊎ ((is_back ≡ true) × IsOf back t)
    beside t of other = elim (cases_lt t.block r.start) [
      | inl before ↦ let hit = in_front_of t of before in inl (more_new is_front front left t hit.0 hit.1)
      | inr from ↦ elim (cases_lt t.block (r.start + r.count)) [
        | inl until ↦ absurd (other (in_record t of from until))
        | inr behind ↦ inr (in_back t of behind)
      ]
    ]

    pub remove_exact : AreRuns us (remove_run r recs)
    unfolding remove_run
    remove_exact = give_if_exact is_back back mid us (give_front x r left)
        (record {
          end = λ h. (back_room x r whole.room one holds_it (from_lt (r.start + r.count) (x.start + x.count) h)).0;
          new = back_new;
          kept = mid_stays;
          given = λ h t of. stays t (back_in h t of).0 (back_not h t of);
          only = λ t c. let old = are.only t c in elim (either t old.0) [
            | inl c ↦ inl (more_old is_front front left t c)
            | inr of ↦ beside t of old.1
          ];
        })
        untied first_runs

-- ---- how many runs there are

give_if_length : (b : Bool) (m : RmapRec) (recs : List RmapRec) → length (give_if b m recs) ≤ length recs + 1
give_if_length true m recs = give_length m recs
give_if_length false m recs = omega arith

pub add_length : (r : RmapRec) (recs : List RmapRec) → length (add_run r recs) ≤ length recs + 1
unfolding add_run
add_length r recs = let more = give_length (hull r recs) (apart r recs) in let less = fewer (λ q. not (meets q r)) recs in omega (arith, more, less)

abbrev Removed : RmapRec → RmapRec → List RmapRec → Type 0
Removed r x recs = length (give_back x r (give_front x r (apart r recs))) ≤ length recs + 1

none_removed : (r : RmapRec) (recs : List RmapRec) → Removed r r recs
none_removed r recs =
    let less = fewer (λ q. not (meets q r)) recs in
    let front : give_front r r (apart r recs) ≡ apart r recs = ap (λ (b : Bool). give_if b (front_of r r) (apart r recs)) (not_less r.start) in
    let back = give_if_length (nat_lt (r.start + r.count) (r.start + r.count)) (back_of r r) (give_front r r (apart r recs)) in
    let same : length (give_front r r (apart r recs)) ≡ length (apart r recs) = ap length front in
    omega (arith, less, back, same)

some_removed : (r x : RmapRec) (recs : List RmapRec) (q : RmapRec) → find (λ p. meets p r) recs ≡ Some q → Removed r x recs
some_removed r x recs q found =
    let less = one_less (λ p. meets p r) recs (Some q) q found refl in
    let front = give_if_length (nat_lt x.start r.start) (front_of x r) (apart r recs) in
    let back = give_if_length (nat_lt (r.start + r.count) (x.start + x.count)) (back_of x r) (give_front x r (apart r recs)) in
    omega (arith, less, front, back)

removed_by : (r : RmapRec) (recs : List RmapRec) (o : Option RmapRec) → find (λ p. meets p r) recs ≡ o → Removed r (hull r recs) recs
removed_by r recs None found = subst (λ (x : RmapRec). Removed r x recs) (sym (hull_alone r recs r (λ q c. none_by_find (λ p. meets p r) recs q found c))) (none_removed r recs)
removed_by r recs (Some q) found = some_removed r (hull r recs) recs q found

pub remove_length : (r : RmapRec) (recs : List RmapRec) → length (remove_run r recs) ≤ length recs + 1
unfolding remove_run
remove_length r recs = removed_by r recs (find (λ p. meets p r) recs) refl

-- ---- as programs make them

alone : (x : RmapRec) → HasRoom x → All HasRoom (x ∷ [])
alone x room zero d below = room
alone x room (suc i) d below = absurd (omega (arith, below))

-- a record that has a run has room for what that leaves
pub holder_of : (x r : RmapRec) → HasRoom x → holds x r ≡ true → Holder x r
holder_of x r room h = holder_is (x ∷ []) (alone x room) r x (ap (λ (b : Bool). cond b (Some x) None) h)

pub added_list : (r : RmapRec) (recs xs ys : List RmapRec) (x : RmapRec) → x ≡ hull r recs → xs ≡ apart r recs → ys ≡ give_run x xs → ys ≡ add_run r recs
unfolding add_run
added_list r recs xs ys x whole left given = given ∙ ap (λ (z : RmapRec). give_run z xs) whole ∙ ap (give_run (hull r recs)) left

pub removed_list : (r : RmapRec) (recs xs ys zs : List RmapRec) (x : RmapRec) → x ≡ hull r recs → xs ≡ apart r recs → ys ≡ give_front x r xs → zs ≡ give_back x r ys → zs ≡ remove_run r recs
unfolding remove_run
removed_list r recs xs ys zs x whole left front back =
    back ∙ ap (give_back x r) front ∙ ap (λ (ws : List RmapRec). give_back x r (give_front x r ws)) left
    ∙ ap (λ (z : RmapRec). give_back z r (give_front z r (apart r recs))) whole

-- ---- the walk that makes a hull

pub rooms_left : (q : RmapRec) (later rest : List RmapRec) → rest ≡ q ∷ later → All HasRoom rest → All HasRoom later
rooms_left q later xs is all = tail (subst (All HasRoom) is all)
  where
    tail : All HasRoom (q ∷ later) → All HasRoom later
    tail all k d below = all (suc k) d (omega (arith, below))

pub hull_met : (h w r q : RmapRec) (later rest list : List RmapRec) → rest ≡ q ∷ later → meets q r ≡ true → w ≡ widened h q → hull_from h r rest ≡ hull_from r r list → hull_from w r later ≡ hull_from r r list
unfolding hull_from
hull_met h w r q later xs list is m wide whole =
    ap (λ (z : RmapRec). hull_from z r later) wide
    ∙ sym (ap (hull_from h r) is ∙ ap (λ (b : Bool). hull_from (if b then widened h q else h) r later) m) ∙ whole

pub hull_passed : (h r q : RmapRec) (later rest list : List RmapRec) → rest ≡ q ∷ later → meets q r ≡ false → hull_from h r rest ≡ hull_from r r list → hull_from h r later ≡ hull_from r r list
unfolding hull_from
hull_passed h r q later xs list is m whole =
    sym (ap (hull_from h r) is ∙ ap (λ (b : Bool). hull_from (if b then widened h q else h) r later) m) ∙ whole

pub hull_end : (h r : RmapRec) (rest list : List RmapRec) → length rest ≡ 0 → hull_from h r rest ≡ hull_from r r list → h ≡ hull r list
unfolding hull_from
hull_end h r [] list none whole = whole
hull_end h r (q ∷ qs) list none whole = absurd (omega (arith, none))

pub hull_room : (r : RmapRec) → HasRoom r → (list : List RmapRec) → All HasRoom list → (h : RmapRec) → h ≡ hull r list → HasRoom h
hull_room r room list all h is = subst HasRoom (sym is) (hull_of r room list (rooms_of list all)).room

pub hull_held : (r : RmapRec) → HasRoom r → (list : List RmapRec) → All HasRoom list → (h : RmapRec) → h ≡ hull r list → holds h r ≡ true
hull_held r room list all h is =
    let whole = hull_of r room list (rooms_of list all) in
    subst (λ (x : RmapRec). holds x r ≡ true) (sym is) (held_by r room (hull r list) whole.room whole.own)

-- A walk along free space, reverse mappings and pieces finds the lowest block that lies in free space alone.
use Rattle.std.proofs.Common.{◌≡◌, ℕ, zero, suc, ◌+◌, ◌<◌, ◌≤◌, ◌⊎◌, max, Bool, true, false, not, List, [], ◌∷◌, length, get_or, drop, map, Option, Some, None, refl, ap, sym, subst, ◌∙◌, inl, inr, arith}
use Rattle.std.specs.Prelude.{◌&&◌, ◌||◌, nat_le, nat_lt, if◌then◌else◌}
use Rattle.std.specs.List.{list_any}
use Rattle.std.specs.List.Sorted.{IsPermutation, IsNonDecreasingBy}
use Rattle.std.proofs.lemmas.Bool.{cases_lt, le-leb, lt-leb, le-ltb, leb-true, leb-false}
use Rattle.std.proofs.lemmas.List.Sorted.{list_any-IsPermutation}
use Rattle.derive_defs.specs.Mappings.{blocks_of, covers}
use Rattle.fs_model.specs.declared.unit.Unit.{Unit as ScrubUnit}
use Rattle.fs_model.specs.declared.unit.Unit.TheVariants as units
use Rattle.rmap_recs.specs.declared.records.RmapRec.{RmapRec}
use Rattle.run_sets.specs.declared.run.Run.{Run}
use Rattle.run_sets.specs.Runs.{holds, is_within, most, EndWithin}
use Rattle.run_sets.proofs.OnlyRunsLemmas.{within_true, before_false, behind_false}
use Rattle.span_recs.specs.declared.span.SpanRec.{SpanRec}
use Rattle.unit_plan.specs.declared.piece.Among.{Among}
use Rattle.unit_plan.specs.declared.piece.Among.TheVariants.{All as AllClaims, Metadata}
use Rattle.unit_plan.specs.declared.piece.Piece.{Piece}
use Rattle.unit_plan.specs.declared.spare.Place.{Place}
use Rattle.unit_plan.specs.declared.spare.SpaceTrust.{SpaceTrust}
use Rattle.unit_plan.specs.Pieces.{has_block, is_looked_at}
use Rattle.unit_plan.specs.Spans.{BeginAt, RunsRise, Stands, end_past, left, looked_run, on_mapping, on_piece, outside, span_run, stepped}
use Rattle.unit_plan.specs.Spare.{IsLowest, is_claimed, is_free_for, is_listed, is_outside, is_spare, may_spare}

-- ---- runs in the order of their starts

begin_none : (s : ℕ) (rs : List Run) (b : ℕ) → BeginAt s rs → b < s → holds rs b ≡ false
begin_none s [] b begin lt = refl
begin_none s (r ∷ rs) b begin lt =
    let here : is_within b r ≡ false = before_false b r (let l = begin.0 in omega (arith, l, lt)) in
    let rest : holds rs b ≡ false = begin_none s rs b begin.1 lt in
    rw (here, rest) refl

rise_drop : (rs : List Run) (i : ℕ) → RunsRise rs → RunsRise (drop i rs)
rise_drop [] zero rise = tt
rise_drop [] (suc i) rise = tt
rise_drop (r ∷ rs) zero rise = rise
rise_drop (r ∷ rs) (suc i) rise = rise_drop rs i rise.1

none_in_front : (r : Run) (rs : List Run) (b : ℕ) → RunsRise (r ∷ rs) → b < r.start → holds (r ∷ rs) b ≡ false
none_in_front r rs b rise lt =
    let here : is_within b r ≡ false = before_false b r lt in
    let rest : holds rs b ≡ false = begin_none r.start rs b rise.0 lt in
    rw (here, rest) refl

no_list : (r : Run) (rs : List Run) → [] ≡ r ∷ rs → ⊥
no_list r rs e = let l : 0 ≡ length (r ∷ rs) = ap (λ (xs : List Run). length xs) e in absurd (omega (arith, l))

rest_is : (r q : Run) (rs qs : List Run) → r ∷ rs ≡ q ∷ qs → rs ≡ qs
rest_is r q rs qs e = cc

-- what is left behind the first
drop_next : (rs : List Run) (i : ℕ) (q : Run) (rest : List Run) → drop i rs ≡ q ∷ rest → (drop (i + 1) rs ≡ rest) × (i < length rs)
drop_next [] zero q rest e = absurd (no_list q rest e)
drop_next [] (suc i) q rest e = absurd (no_list q rest e)
drop_next (r ∷ rs) zero q rest e = (rest_is r q rs rest e, omega arith)
drop_next (r ∷ rs) (suc i) q rest e =
    let h = drop_next rs i q rest e in
    let next : suc i + 1 ≡ suc (i + 1) = omega arith in
    let within = h.1 in
    (ap (λ (n : ℕ). drop n (r ∷ rs)) next ∙ h.0, omega (arith, within))

drop_here : (rs : List Run) (i : ℕ) (d : Run) → i < length rs → drop i rs ≡ get_or rs i d ∷ drop (i + 1) rs
drop_here [] i d lt = absurd (omega (arith, lt))
drop_here (r ∷ rs) zero d lt = refl
drop_here (r ∷ rs) (suc i) d lt =
    let next : suc (i + 1) ≡ suc i + 1 = omega arith in
    drop_here rs i d (omega (arith, lt)) ∙ ap (λ (n : ℕ). get_or rs i d ∷ drop n (r ∷ rs)) next

drop_all : (rs : List Run) (i : ℕ) → length rs ≤ i → drop i rs ≡ []
drop_all [] zero le = refl
drop_all [] (suc i) le = refl
drop_all (r ∷ rs) zero le = absurd (omega (arith, le))
drop_all (r ∷ rs) (suc i) le = drop_all rs i (omega (arith, le))

-- ---- the end of the first

pub record Past (from to : ℕ) (rs : List Run) : Type 0 where
  pub run : Run
  pub rest : List Run
  pub are : rs ≡ run ∷ rest
  pub begun : run.start ≤ from
  pub end : to ≡ max from (run.start + run.count)

some_same : (a b : ℕ) → Some a ≡ Some b → a ≡ b
some_same a b e = cc

none_some : (a : ℕ) → None ≡ Some a → ⊥
none_some a e = cc

past_some : (from to : ℕ) (rs : List Run) → end_past from rs ≡ Some to → Past from to rs
past_some from to [] e = absurd (none_some to e)
past_some from to (r ∷ rs) e = (elim (nat_le r.start from) as (λ b. nat_le r.start from ≡ b → (if b then Some (max from (r.start + r.count)) else None) ≡ Some to → Past from to (r ∷ rs)) [
  | true ↦ λ h k. record { run = r; rest = rs; are = refl; begun = leb-true r.start from h; end = sym (some_same (max from (r.start + r.count)) to k) }
  | false ↦ λ h k. absurd (none_some to k)
]) refl e

past_none : (from : ℕ) (rs : List Run) → RunsRise rs → end_past from rs ≡ None → holds rs from ≡ false
past_none from [] rise e = refl
past_none from (r ∷ rs) rise e = (elim (nat_le r.start from) as (λ b. nat_le r.start from ≡ b → (if b then Some (max from (r.start + r.count)) else None) ≡ None → holds (r ∷ rs) from ≡ false) [
  | true ↦ λ h k. absurd (none_some (max from (r.start + r.count)) (sym k))
  | false ↦ λ h k. none_in_front r rs from rise (leb-false r.start from h)
]) refl e

-- ---- the walk

and_none : (b : Bool) → (b && false) ≡ false
and_none true = refl
and_none false = refl

taken_by : (f m p : Bool) → (m ≡ true) ⊎ (p ≡ true) → (f && not (m || p)) ≡ false
taken_by f m p (inl h) = rw h (and_none f)
taken_by f true p (inr h) = and_none f
taken_by f false p (inr h) = rw h (and_none f)

not_free : (f m p : Bool) → f ≡ false → (f && not (m || p)) ≡ false
not_free f m p h = rw h refl

alone : (f m p : Bool) → f ≡ true → m ≡ false → p ≡ false → (f && not (m || p)) ≡ true
alone f m p h k l = rw (h, k, l) refl

module _ (free mappings pieces : List Run) where
  pub stands_first : (at : Place) → at.from ≡ 0 → at.span ≡ 0 → at.mapping ≡ 0 → at.piece ≡ 0 → Stands free mappings pieces at
  stands_first at e s m p = record {
    low = λ b lt. absurd (omega (arith, lt, e));
    free_left = λ b le. ap (λ (n : ℕ). holds (drop n free) b) (sym s);
    mappings_left = λ b le. ap (λ (n : ℕ). holds (drop n mappings) b) (sym m);
    pieces_left = λ b le. ap (λ (n : ℕ). holds (drop n pieces) b) (sym p);
  }

  -- up to where the free space begins
  pub stands_raised : (at : Place) (r : Run) (rest : List Run) → RunsRise free → drop at.span free ≡ r ∷ rest → Stands free mappings pieces at → Stands free mappings pieces (record at { from = max at.from r.start })
  stands_raised at r rest rise is h = record {
    low = λ b lt. elim (cases_lt b at.from) [
      | inl below ↦ h.low b below
      | inr on ↦ not_free (holds free b) (holds mappings b) (holds pieces b) (h.free_left b on ∙ ap (λ (rs : List Run). holds rs b) is ∙ none_in_front r rest b (subst RunsRise is (rise_drop free at.span rise)) (omega (arith, lt, on)))
    ];
    free_left = λ b le. h.free_left b (omega (arith, le));
    mappings_left = λ b le. h.mappings_left b (omega (arith, le));
    pieces_left = λ b le. h.pieces_left b (omega (arith, le));
  }

  -- behind a run that ends
  behind : (rs : List Run) (i from to : ℕ) (q : Run) (rest : List Run) → drop i rs ≡ q ∷ rest → from ≤ to → q.start + q.count ≤ to → ((b : ℕ) → from ≤ b → holds rs b ≡ holds (drop i rs) b)
      → (b : ℕ) → to ≤ b → holds rs b ≡ holds (drop (i + 1) rs) b
  behind rs i from to q rest is on end same b le =
      let out : is_within b q ≡ false = behind_false b q (omega (arith, end, le)) in
      let gone : holds (q ∷ rest) b ≡ holds rest b = rw out refl in
      same b (omega (arith, on, le)) ∙ ap (λ (xs : List Run). holds xs b) is ∙ gone ∙ ap (λ (xs : List Run). holds xs b) (sym (drop_next rs i q rest is).0)

  inside : (rs : List Run) (i from : ℕ) (q : Run) (rest : List Run) → drop i rs ≡ q ∷ rest → q.start ≤ from → ((b : ℕ) → from ≤ b → holds rs b ≡ holds (drop i rs) b) → (b : ℕ) → from ≤ b → b < q.start + q.count → holds rs b ≡ true
  inside rs i from q rest is begun same b on lt =
      let here : is_within b q ≡ true = within_true b q (omega (arith, begun, on)) lt in
      let there : holds (q ∷ rest) b ≡ true = rw here refl in
      same b on ∙ ap (λ (xs : List Run). holds xs b) is ∙ there

  module _ (at : Place) (r : Run) (rest : List Run) (is : drop at.span free ≡ r ∷ rest) (begun : r.start ≤ at.from) (h : Stands free mappings pieces at) where
    -- the next place, and that less is left there
    abbrev Goes : Place → Type 0
    Goes next = Stands free mappings pieces next × (left free mappings pieces next < left free mappings pieces at)

    span_passed : r.start + r.count ≤ at.from → Goes (record at { span = at.span + 1 })
    span_passed end =
        let within = (drop_next free at.span r rest is).1 in (
          record { low = h.low; free_left = behind free at.span at.from at.from r rest is (omega arith) end h.free_left; mappings_left = h.mappings_left; pieces_left = h.pieces_left },
          omega (arith, within),
        )

    mapping_passed : (to : ℕ) → Past at.from to (drop at.mapping mappings) → Goes (record at { from = to; mapping = at.mapping + 1 })
    mapping_passed to p =
        let within = (drop_next mappings at.mapping p.run p.rest p.are).1 in
        let end = p.end in (
          record {
            low = λ b lt. elim (cases_lt b at.from) [
              | inl below ↦ h.low b below
              | inr on ↦ taken_by (holds free b) (holds mappings b) (holds pieces b) (inl (inside mappings at.mapping at.from p.run p.rest p.are p.begun h.mappings_left b on (omega (arith, lt, on, end))))
            ];
            free_left = λ b le. h.free_left b (omega (arith, le, end));
            mappings_left = behind mappings at.mapping at.from to p.run p.rest p.are (omega (arith, end)) (omega (arith, end)) h.mappings_left;
            pieces_left = λ b le. h.pieces_left b (omega (arith, le, end));
          },
          omega (arith, within),
        )

    piece_passed : (to : ℕ) → Past at.from to (drop at.piece pieces) → Goes (record at { from = to; piece = at.piece + 1 })
    piece_passed to p =
        let within = (drop_next pieces at.piece p.run p.rest p.are).1 in
        let end = p.end in (
          record {
            low = λ b lt. elim (cases_lt b at.from) [
              | inl below ↦ h.low b below
              | inr on ↦ taken_by (holds free b) (holds mappings b) (holds pieces b) (inr (inside pieces at.piece at.from p.run p.rest p.are p.begun h.pieces_left b on (omega (arith, lt, on, end))))
            ];
            free_left = λ b le. h.free_left b (omega (arith, le, end));
            mappings_left = λ b le. h.mappings_left b (omega (arith, le, end));
            pieces_left = behind pieces at.piece at.from to p.run p.rest p.are (omega (arith, end)) (omega (arith, end)) h.pieces_left;
          },
          omega (arith, within),
        )

    same_place : (a b : Place) → Some a ≡ Some b → a ≡ b
    same_place a b e = cc

    no_place : (a : Place) → None ≡ Some a → ⊥
    no_place a e = cc

    on_pieces : (o : Option ℕ) (next : Place) → end_past at.from (drop at.piece pieces) ≡ o → on_piece at o ≡ Some next → Goes next
    on_pieces None next k e = absurd (no_place next e)
    on_pieces (Some to) next k e = subst Goes (same_place (record at { from = to; piece = at.piece + 1 }) next e) (piece_passed to (past_some at.from to (drop at.piece pieces) k))

    on_mappings : (o : Option ℕ) (next : Place) → end_past at.from (drop at.mapping mappings) ≡ o → on_mapping pieces at o ≡ Some next → Goes next
    on_mappings None next k e = on_pieces (end_past at.from (drop at.piece pieces)) next refl e
    on_mappings (Some to) next k e = subst Goes (same_place (record at { from = to; mapping = at.mapping + 1 }) next e) (mapping_passed to (past_some at.from to (drop at.mapping mappings) k))

    pub next_stands : (next : Place) → stepped r mappings pieces at ≡ Some next → Goes next
    next_stands next e = (elim (nat_le (r.start + r.count) at.from) as (λ b. nat_le (r.start + r.count) at.from ≡ b → (if b then Some (record at { span = at.span + 1 }) else on_mapping pieces at (end_past at.from (drop at.mapping mappings))) ≡ Some next → Goes next) [
      | true ↦ λ k f. subst Goes (same_place (record at { span = at.span + 1 }) next f) (span_passed (leb-true (r.start + r.count) at.from k))
      | false ↦ λ k f. on_mappings (end_past at.from (drop at.mapping mappings)) next refl f
    ]) refl e

    none_on_pieces : (o : Option ℕ) → end_past at.from (drop at.piece pieces) ≡ o → on_piece at o ≡ None → end_past at.from (drop at.piece pieces) ≡ None
    none_on_pieces None k e = k
    none_on_pieces (Some to) k e = absurd (no_place (record at { from = to; piece = at.piece + 1 }) (sym e))

    none_on_mappings : (o : Option ℕ) → end_past at.from (drop at.mapping mappings) ≡ o → on_mapping pieces at o ≡ None → (end_past at.from (drop at.mapping mappings) ≡ None) × (end_past at.from (drop at.piece pieces) ≡ None)
    none_on_mappings None k e = (k, none_on_pieces (end_past at.from (drop at.piece pieces)) refl e)
    none_on_mappings (Some to) k e = absurd (no_place (record at { from = to; mapping = at.mapping + 1 }) (sym e))

    pub last_found : RunsRise mappings → RunsRise pieces → stepped r mappings pieces at ≡ None → (at.from < r.start + r.count) × IsLowest (outside free mappings pieces) (Some at.from)
    last_found rise_m rise_p e = (elim (nat_le (r.start + r.count) at.from) as (λ b. nat_le (r.start + r.count) at.from ≡ b → (if b then Some (record at { span = at.span + 1 }) else on_mapping pieces at (end_past at.from (drop at.mapping mappings))) ≡ None → (at.from < r.start + r.count) × IsLowest (outside free mappings pieces) (Some at.from)) [
      | true ↦ λ k f. absurd (no_place (record at { span = at.span + 1 }) (sym f))
      | false ↦ λ k f.
          let end : at.from < r.start + r.count = leb-false (r.start + r.count) at.from k in
          let both = none_on_mappings (end_past at.from (drop at.mapping mappings)) refl f in
          let in_free : holds free at.from ≡ true = inside free at.span at.from r rest is begun h.free_left at.from (omega arith) end in
          let no_mapping : holds mappings at.from ≡ false = h.mappings_left at.from (omega arith) ∙ past_none at.from (drop at.mapping mappings) (rise_drop mappings at.mapping rise_m) both.0 in
          let no_piece : holds pieces at.from ≡ false = h.pieces_left at.from (omega arith) ∙ past_none at.from (drop at.piece pieces) (rise_drop pieces at.piece rise_p) both.1 in
          (end, (alone (holds free at.from) (holds mappings at.from) (holds pieces at.from) in_free no_mapping no_piece, h.low))
    ]) refl e

  pub none_found : (at : Place) → length free ≤ at.span → Stands free mappings pieces at → IsLowest (outside free mappings pieces) None
  none_found at le h = λ b. elim (cases_lt b at.from) [
    | inl below ↦ h.low b below
    | inr on ↦ not_free (holds free b) (holds mappings b) (holds pieces b) (h.free_left b on ∙ ap (λ (rs : List Run). holds rs b) (drop_all free at.span le))
  ]

-- ---- the same of records and pieces

pub lowest_same : (p q : ℕ → Bool) → ((b : ℕ) → p b ≡ q b) → (o : Option ℕ) → IsLowest p o → IsLowest q o
lowest_same p q same None h = λ b. sym (same b) ∙ h b
lowest_same p q same (Some x) h = (sym (same x) ∙ h.0, λ b lt. sym (same b) ∙ h.1 b lt)

any_map : {X Y : Type 0} (t : Y → Bool) (f : X → Y) (xs : List X) → list_any t (map f xs) ≡ list_any (λ x. t (f x)) xs
any_map t f [] = refl
any_map t f (x ∷ xs) = ap (λ (b : Bool). t (f x) || b) (any_map t f xs)

any_same : {X : Type 0} (t u : X → Bool) → ((x : X) → t x ≡ u x) → (xs : List X) → list_any t xs ≡ list_any u xs
any_same t u same [] = refl
any_same t u same (x ∷ xs) = λ i. same x i || any_same t u same xs i

looked_at : (among : Among) (b : ℕ) (p : Piece) → is_within b (looked_run among p) ≡ has_block among b p
looked_at among b p = elim (is_looked_at among p.claim) as (λ t. (nat_le p.run.start b && nat_lt b (p.run.start + (if t then p.run.count else 0))) ≡ (t && is_within b p.run)) [
  | true ↦ refl
  | false ↦ elim (cases_lt b p.run.start) [
    | inl front ↦ let t : nat_le p.run.start b ≡ false = lt-leb p.run.start b front in rw t refl
    | inr on ↦
        let t : nat_le p.run.start b ≡ true = le-leb p.run.start b on in
        let u : nat_lt b (p.run.start + 0) ≡ false = le-ltb b (p.run.start + 0) (omega (arith, on)) in
        rw (t, u) refl
  ]
]

pub outside_is : (among : Among) (free : List SpanRec) (mappings : List RmapRec) (ps : List Piece) (b : ℕ)
    → outside (map span_run free) (map blocks_of mappings) (map (looked_run among) ps) b ≡ is_outside among free mappings ps b
outside_is among free mappings ps b =
    let f : holds (map span_run free) b ≡ is_listed free b = any_map (is_within b) span_run free in
    let m : holds (map blocks_of mappings) b ≡ list_any (covers b) mappings = any_map (is_within b) blocks_of mappings in
    let p : holds (map (looked_run among) ps) b ≡ is_claimed among ps b = any_map (is_within b) (looked_run among) ps ∙ any_same (λ q. is_within b (looked_run among q)) (has_block among b) (looked_at among b) ps in
    λ i. f i && not (m i || p i)

nothing_taken : (b : Bool) → (b && not (false || false)) ≡ b
nothing_taken true = refl
nothing_taken false = refl

pub for_free : (free : List SpanRec) (mappings : List RmapRec) (ps : List Piece) (o : Option ℕ) → IsLowest (is_outside AllClaims free [] []) o → IsLowest (is_free_for units.Free free mappings ps) o
for_free free mappings ps o h = lowest_same (is_outside AllClaims free [] []) (is_free_for units.Free free mappings ps) (λ b. nothing_taken (is_listed free b)) o h

-- ---- in whatever order the pieces stand

claimed_same : (among : Among) (old new : List Piece) (b : ℕ) → IsPermutation old new → is_claimed among new b ≡ is_claimed among old b
claimed_same among old new b same = sym (list_any-IsPermutation (has_block among b) old new same)

free_for_same : (unit : ScrubUnit) (free : List SpanRec) (mappings : List RmapRec) (old new : List Piece) (b : ℕ) → IsPermutation old new → is_free_for unit free mappings new b ≡ is_free_for unit free mappings old b
free_for_same units.Free free mappings old new b same = refl
free_for_same units.Rmap free mappings old new b same = ap (λ (t : Bool). is_listed free b && not (false || t)) (claimed_same AllClaims old new b same)
free_for_same units.Inode free mappings old new b same = ap (λ (t : Bool). is_listed free b && not (list_any (covers b) mappings || t)) (claimed_same Metadata old new b same)
free_for_same units.Refc free mappings old new b same = ap (λ (t : Bool). is_listed free b && not (list_any (covers b) mappings || t)) (claimed_same Metadata old new b same)

pub spare_found : (unit : ScrubUnit) (t : SpaceTrust) (free : List SpanRec) (mappings : List RmapRec) (old new : List Piece) (o : Option ℕ) → IsPermutation old new → may_spare unit t ≡ true
    → IsLowest (is_free_for unit free mappings new) o → IsLowest (is_spare unit t free mappings old) o
unfolding is_spare
spare_found unit t free mappings old new o same may h = lowest_same (is_free_for unit free mappings new) (is_spare unit t free mappings old) (λ b. free_for_same unit free mappings old new b same ∙ sym (ap (λ (m : Bool). m && is_free_for unit free mappings old b) may)) o h

pub none_spare : (unit : ScrubUnit) (t : SpaceTrust) (free : List SpanRec) (mappings : List RmapRec) (ps : List Piece) → may_spare unit t ≡ false → IsLowest (is_spare unit t free mappings ps) None
unfolding is_spare
none_spare unit t free mappings ps may = λ b. ap (λ (m : Bool). m && is_free_for unit free mappings ps b) may

-- ---- pieces sorted by their starts

begin_pieces : (among : Among) (s : ℕ) (ps : List Piece) → ((j : ℕ) (d : Piece) → j < length ps → s ≤ (get_or ps j d).run.start) → BeginAt s (map (looked_run among) ps)
begin_pieces among s [] h = tt
begin_pieces among s (q ∷ qs) h = (h 0 q (omega arith), begin_pieces among s qs (λ j d lt. h (suc j) d (omega (arith, lt))))

pub pieces_rise : (among : Among) (ps : List Piece) → IsNonDecreasingBy (λ p. p.run.start) ps → RunsRise (map (looked_run among) ps)
pieces_rise among [] up = tt
pieces_rise among (p ∷ ps) up = (
  begin_pieces among p.run.start ps (λ j d lt. up 0 (suc j) d (omega arith) (omega (arith, lt))),
  pieces_rise among ps (λ i j d le lt. up (suc i) (suc j) d (omega (arith, le)) (omega (arith, lt))),
)

-- ---- a place of a mapped list

pub mapped_at : {X : Type 0} (f : X → Run) (xs : List X) (i : ℕ) (d : X) → i < length xs → drop i (map f xs) ≡ f (get_or xs i d) ∷ drop (i + 1) (map f xs)
mapped_at f [] i d lt = absurd (omega (arith, lt))
mapped_at f (x ∷ xs) zero d lt = refl
mapped_at f (x ∷ xs) (suc i) d lt =
    let next : suc (i + 1) ≡ suc i + 1 = omega arith in
    mapped_at f xs i d (omega (arith, lt)) ∙ ap (λ (n : ℕ). f (get_or xs i d) ∷ drop n (f x ∷ map f xs)) next

pub mapped_end : {X : Type 0} (f : X → Run) (xs : List X) (i : ℕ) → length xs ≤ i → drop i (map f xs) ≡ []
mapped_end f [] zero le = refl
mapped_end f [] (suc i) le = refl
mapped_end f (x ∷ xs) zero le = absurd (omega (arith, le))
mapped_end f (x ∷ xs) (suc i) le = mapped_end f xs i (omega (arith, le))

-- where the first of a mapped list ends
pub past_begun : {X : Type 0} (f : X → Run) (xs : List X) (i from to : ℕ) (d : X) → i < length xs → (f (get_or xs i d)).start ≤ from → to ≡ max from ((f (get_or xs i d)).start + (f (get_or xs i d)).count) → Some to ≡ end_past from (drop i (map f xs))
past_begun f xs i from to d lt begun end =
    let t : nat_le (f (get_or xs i d)).start from ≡ true = le-leb (f (get_or xs i d)).start from begun in
    ap Some end ∙ sym (ap (λ (rs : List Run). end_past from rs) (mapped_at f xs i d lt) ∙ ap (λ (b : Bool). if b then Some (max from ((f (get_or xs i d)).start + (f (get_or xs i d)).count)) else None) t)

pub past_later : {X : Type 0} (f : X → Run) (xs : List X) (i from : ℕ) (d : X) → i < length xs → from < (f (get_or xs i d)).start → None ≡ end_past from (drop i (map f xs))
past_later f xs i from d lt later =
    let t : nat_le (f (get_or xs i d)).start from ≡ false = lt-leb (f (get_or xs i d)).start from later in
    sym (ap (λ (rs : List Run). end_past from rs) (mapped_at f xs i d lt) ∙ ap (λ (b : Bool). if b then Some (max from ((f (get_or xs i d)).start + (f (get_or xs i d)).count)) else None) t)

pub past_all : {X : Type 0} (f : X → Run) (xs : List X) (i from : ℕ) → length xs ≤ i → None ≡ end_past from (drop i (map f xs))
past_all f xs i from le = sym (ap (λ (rs : List Run). end_past from rs) (mapped_end f xs i le))

pub span_end : (xs : List SpanRec) (i : ℕ) (d : SpanRec) → EndWithin most (map span_run xs) → i < length xs → (get_or xs i d).start + (get_or xs i d).count ≤ most
span_end [] i d h lt = absurd (omega (arith, lt))
span_end (x ∷ xs) zero d h lt = h.0
span_end (x ∷ xs) (suc i) d h lt = span_end xs i d h.1 (omega (arith, lt))

-- ---- one turn of the walk, as the code takes it

module _ (free mappings pieces : List Run) (at here : Place) (r : Run) (rest : List Run) (rise : RunsRise free) (is : drop at.span free ≡ r ∷ rest)
    (made : here ≡ record at { from = max at.from r.start }) (h : Stands free mappings pieces at) where
  pub step_on : (next : Place) → stepped r mappings pieces here ≡ Some next → Stands free mappings pieces next × (left free mappings pieces next < left free mappings pieces at)
  step_on next e = next_stands free mappings pieces (record at { from = max at.from r.start }) r rest is (omega arith) (stands_raised free mappings pieces at r rest rise is h) next
      (sym (ap (stepped r mappings pieces) made) ∙ e)

  pub step_found : RunsRise mappings → RunsRise pieces → stepped r mappings pieces here ≡ None → (here.from < r.start + r.count) × IsLowest (outside free mappings pieces) (Some here.from)
  step_found rise_m rise_p e =
      subst (λ (p : Place). (p.from < r.start + r.count) × IsLowest (outside free mappings pieces) (Some p.from)) (sym made)
      (last_found free mappings pieces (record at { from = max at.from r.start }) r rest is (omega arith) (stands_raised free mappings pieces at r rest rise is h) rise_m rise_p
      (sym (ap (stepped r mappings pieces) made) ∙ e))

pub mapped_length : {X : Type 0} (f : X → Run) (xs : List X) (i : ℕ) → length xs ≤ i → length (map f xs) ≤ i
mapped_length f [] i le = omega arith
mapped_length f (x ∷ xs) zero le = absurd (omega (arith, le))
mapped_length f (x ∷ xs) (suc i) le = let h = mapped_length f xs i (omega (arith, le)) in omega (arith, h)

-- In how many shareable records a block lies, and what the maximal runs of that have.
use Rattle.std.proofs.Common.{◌≡◌, ℕ, zero, suc, ◌+◌, ◌-◌, ◌<◌, ◌≤◌, Bool, true, false, cond, ◌&&◌, List, [], ◌∷◌, map, filter, min, Some, None, refl, ap, subst, sym, ◌∙◌, arith, inl, inr}
use Rattle.std.specs.Prelude.{nat_le, nat_lt, if◌then◌else◌}
use Rattle.std.specs.List.{All, count_by}
use Rattle.std.proofs.lemmas.Bool.{cases_lt, le-leb, lt-ltb, leb-true, ltb-true}
use Rattle.std.proofs.lemmas.List.Elements.{All-cons, All-nil}
use Rattle.std.proofs.lemmas.List.Sums.{sum_by-cons}
use Rattle.rmap_recs.specs.Rmap.{is_shareable}
use Rattle.rmap_recs.specs.declared.records.RmapRec.{RmapRec}
use Rattle.run_sets.specs.Runs.{is_within, most, IsRun}
use Rattle.run_sets.specs.Stretches.{value_at, AreMaximalStretches, at_least, counted, depth, stretches}
use Rattle.run_sets.specs.declared.run.Run.{Run}
use Rattle.run_sets.proofs.OnlyRunsLemmas.{within_true, before_false, behind_false}
use Rattle.run_sets.proofs.OnlyStretchesLemmas.{only_stretches_below, stretches_if_only}
use Rattle.run_sets.proofs.StretchesLemmas.{stretches_same}
use Rattle.sblock.specs.Lists.{Rises, Each}
use Rattle.sblock.specs.declared.block.Bounds.{Bounds}
use Rattle.span_recs.specs.Refcounts.{is_refc_in_range}
use Rattle.span_recs.specs.declared.refcount.RefcRec.{RefcRec}
use Rattle.derive_defs.specs.Mappings.{EndWithin, blocks_of, covers}
use Rattle.derive_defs.specs.Shared.{shares, sharers, stretch_of, refc_of, shared_space, AreShared}

-- ---- the blocks of shareable records

-- a shareable record that has blocks
abbrev pub has_shareable : RmapRec → Bool
has_shareable r = is_shareable r && nat_lt 0 r.count

more : {X : Type 0} (p : X → Bool) (x : X) (xs : List X) → count_by p (x ∷ xs) ≡ cond {A = ℕ} (p x) 1 0 + count_by p xs
more p x xs = sum_by-cons (λ y. cond (p y) 1 0) x xs

covers_none : (b : ℕ) (r : RmapRec) → nat_lt 0 r.count ≡ false → covers b r ≡ false
covers_none b r none = elim (cases_lt b r.start) [
  | inl front ↦ before_false b (blocks_of r) front
  | inr on ↦ behind_false b (blocks_of r) (elim (cases_lt 0 r.count) [
    | inl some ↦ absurd (false_true (sym none ∙ lt-ltb 0 r.count some))
    | inr empty ↦ omega (arith, empty, on)
  ])
]
  where
    false_true : false ≡ true → ⊥
    false_true h = cc

-- a record joins the runs where it is shareable and has blocks
joined : (b : ℕ) (r : RmapRec) (runs : List RmapRec) (s t : Bool) → is_shareable r ≡ s → nat_lt 0 r.count ≡ t
    → depth (map blocks_of (cond (s && t) (r ∷ runs) runs)) b ≡ cond {A = ℕ} (s && covers b r) 1 0 + depth (map blocks_of runs) b
joined b r runs true true may some = more (is_within b) (blocks_of r) (map blocks_of runs)
joined b r runs true false may none = rw (covers_none b r none) (omega arith)
joined b r runs false t may any = omega arith

pub shared_depth : (b : ℕ) (mappings : List RmapRec) → depth (map blocks_of (filter has_shareable mappings)) b ≡ count_by (shares b) mappings
shared_depth b [] = refl
shared_depth b (r ∷ mappings) =
    joined b r (filter has_shareable mappings) (is_shareable r) (nat_lt 0 r.count) refl refl
    ∙ (ap (λ (n : ℕ). cond {A = ℕ} (shares b r) 1 0 + n) (shared_depth b mappings) ∙ sym (more (shares b) r mappings))

pub counted_sharers : (mappings : List RmapRec) (runs : List Run) → runs ≡ map blocks_of (filter has_shareable mappings) → (b : ℕ) → counted runs b ≡ sharers mappings b
unfolding sharers
counted_sharers mappings runs is b = ap (λ (rs : List Run). counted rs b) is ∙ ap (λ (n : ℕ). min n most) (shared_depth b mappings)

are_runs : (mappings : List RmapRec) → EndWithin most mappings → All IsRun (map blocks_of (filter has_shareable mappings))
are_runs [] ends = All-nil IsRun
are_runs (r ∷ mappings) ends = either (is_shareable r) (nat_lt 0 r.count) refl (are_runs mappings ends.1)
  where
    either : (s t : Bool) → nat_lt 0 r.count ≡ t → All IsRun (map blocks_of (filter has_shareable mappings)) → All IsRun (map blocks_of (cond (s && t) (r ∷ filter has_shareable mappings) (filter has_shareable mappings)))
    either true true some rest = All-cons IsRun (blocks_of r) (map blocks_of (filter has_shareable mappings)) (record { some = ltb-true 0 r.count some; within = ends.0 }) rest
    either true false some rest = rest
    either false t some rest = rest

pub runs_stand : (mappings : List RmapRec) (runs : List Run) → EndWithin most mappings → runs ≡ map blocks_of (filter has_shareable mappings) → All IsRun runs
runs_stand mappings runs ends is = subst (All IsRun) (sym is) (are_runs mappings ends)

-- ---- records and stretches

recs_of_stretches : (recs : List RefcRec) → map refc_of (map stretch_of recs) ≡ recs
recs_of_stretches [] = refl
recs_of_stretches (r ∷ recs) = ap (λ (rs : List RefcRec). r ∷ rs) (recs_of_stretches recs)

stretches_of_recs : (ss : List (Run × ℕ)) → map stretch_of (map refc_of ss) ≡ ss
stretches_of_recs [] = refl
stretches_of_recs (s ∷ ss) = ap (λ (rest : List (Run × ℕ)). s ∷ rest) (stretches_of_recs ss)

pub shared_value : (mappings : List RmapRec) (runs : List Run) (found : List (Run × ℕ)) (recs : List RefcRec) → runs ≡ map blocks_of (filter has_shareable mappings) → found ≡ stretches (counted runs) 2 most → recs ≡ map refc_of found → recs ≡ shared_space mappings
unfolding shared_space
shared_value mappings runs found recs are is made =
    made ∙ ap (map refc_of) (is ∙ stretches_same (counted runs) (sharers mappings) 2 most (counted_sharers mappings runs are))

stretches_if_shared : (mappings : List RmapRec) (recs : List RefcRec) → recs ≡ shared_space mappings → map stretch_of recs ≡ stretches (sharers mappings) 2 most
unfolding shared_space
stretches_if_shared mappings recs is = ap (map stretch_of) is ∙ stretches_of_recs (stretches (sharers mappings) 2 most)

pub are_shared : (mappings : List RmapRec) (recs : List RefcRec) → recs ≡ shared_space mappings → AreShared mappings recs
are_shared mappings recs is = stretches_if_only (sharers mappings) 2 most (map stretch_of recs) (stretches_if_shared mappings recs is)

pub only_shared : (mappings : List RmapRec) (recs : List RefcRec) → AreShared mappings recs → recs ≡ shared_space mappings
unfolding shared_space
only_shared mappings recs h = sym (recs_of_stretches recs) ∙ ap (map refc_of) (only_stretches_below (sharers mappings) 2 most (map stretch_of recs) h)

-- ---- their order

rise_if_maximal : (from : ℕ) (recs : List RefcRec) → AreMaximalStretches from (map stretch_of recs) → Rises (λ r s. nat_lt r.start s.start) recs
rise_if_maximal from [] m = tt
rise_if_maximal from (r ∷ []) m = (tt, tt)
rise_if_maximal from (r ∷ s ∷ recs) m = (lt-ltb r.start s.start (omega (arith, m.1, m.3.0)), rise_if_maximal (r.start + r.count) (s ∷ recs) m.3)

pub shared_rise : (mappings : List RmapRec) (recs : List RefcRec) → recs ≡ shared_space mappings → Rises (λ r s. nat_lt r.start s.start) recs
shared_rise mappings recs is = rise_if_maximal 0 recs (are_shared mappings recs is).maximal

-- ---- their range

-- from a block on, a block has the value that it has by the function
abbrev HaveValues : (ℕ → ℕ) → ℕ → List (Run × ℕ) → Type 0
HaveValues f from ss = (b : ℕ) → from ≤ b → value_at ss b ≡ (if nat_lt b most then at_least 2 f b else None)

value_taken : (f : ℕ → ℕ) (b v : ℕ) (t u : Bool) → nat_le 2 (f b) ≡ u → (if t then (if u then Some (f b) else None) else None) ≡ Some v → (2 ≤ v) × (f b ≡ v)
value_taken f b v true true enough is = let same : f b ≡ v = cc in let least = leb-true 2 (f b) enough in (omega (arith, same, least), same)
value_taken f b v true false enough is = cc
value_taken f b v false u enough is = cc

-- the function has its value at each block of the first stretch
first_value : (f : ℕ → ℕ) (from b : ℕ) (s : Run × ℕ) (ss : List (Run × ℕ)) → HaveValues f from (s ∷ ss) → from ≤ s.0.start → s.0.start ≤ b → b < s.0.start + s.0.count → (2 ≤ s.1) × (f b ≡ s.1)
first_value f from b s ss have le low high =
    let here = within_true b s.0 low high in
    let value : value_at (s ∷ ss) b ≡ Some s.1 = rw here refl in
    value_taken f b s.1 (nat_lt b most) (nat_le 2 (f b)) refl (sym (have b (omega (arith, le, low))) ∙ value)

rest_values : (f : ℕ → ℕ) (from : ℕ) (s : Run × ℕ) (ss : List (Run × ℕ)) → HaveValues f from (s ∷ ss) → from ≤ s.0.start → HaveValues f (s.0.start + s.0.count) ss
rest_values f from s ss have le b low =
    let out = behind_false b s.0 low in
    let same : value_at (s ∷ ss) b ≡ value_at ss b = rw out refl in
    sym same ∙ have b (omega (arith, le, low))

refc_inside : (bounds : Bounds) (r : RefcRec) → 1 ≤ r.start → 0 < r.count → r.start + r.count ≤ bounds.length → 2 ≤ r.refcount → is_refc_in_range bounds r ≡ true
unfolding is_refc_in_range
refc_inside bounds r low some high least =
    let a : nat_le 1 r.start ≡ true = le-leb 1 r.start low in
    let b : nat_le 1 r.count ≡ true = le-leb 1 r.count (omega (arith, some)) in
    let c : nat_le (r.start + r.count) bounds.length ≡ true = le-leb (r.start + r.count) bounds.length high in
    let d : nat_le 2 r.refcount ≡ true = le-leb 2 r.refcount least in
    rw (a, b, c, d) refl

all_inside : (f : ℕ → ℕ) (bounds : Bounds) (from : ℕ) (recs : List RefcRec) → AreMaximalStretches from (map stretch_of recs) → HaveValues f from (map stretch_of recs) → ((b : ℕ) → 2 ≤ f b → (1 ≤ b) × (b < bounds.length)) → Each (is_refc_in_range bounds) recs
all_inside f bounds from [] m have where_shared = tt
all_inside f bounds from (r ∷ recs) m have where_shared =
    let first = first_value f from r.start (stretch_of r) (map stretch_of recs) have m.0 (omega arith) (omega (arith, m.1)) in
    let last = first_value f from (r.start + r.count - 1) (stretch_of r) (map stretch_of recs) have m.0 (omega (arith, m.1)) (omega (arith, m.1)) in
    let low = (where_shared r.start (omega (arith, first.0, first.1))).0 in
    let high = (where_shared (r.start + r.count - 1) (omega (arith, last.0, last.1))).1 in (
      refc_inside bounds r low m.1 (omega (arith, m.1, high)) first.0,
      all_inside f bounds (r.start + r.count) recs m.3 (rest_values f from (stretch_of r) (map stretch_of recs) have m.0) where_shared,
    )

no_share : (s t : Bool) → t ≡ false → (s && t) ≡ false
no_share true t h = h
no_share false t h = refl

-- no record shares a block behind the length
none_behind : (len b : ℕ) (mappings : List RmapRec) → EndWithin len mappings → len ≤ b → count_by (shares b) mappings ≡ 0
none_behind len b [] ends le = refl
none_behind len b (r ∷ mappings) ends le =
    let out : shares b r ≡ false = no_share (is_shareable r) (covers b r) (behind_false b (blocks_of r) (omega (arith, ends.0, le))) in
    let rest = none_behind len b mappings ends.1 le in
    let here : cond {A = ℕ} (shares b r) 1 0 ≡ 0 = rw out refl in
    omega (arith, more (shares b) r mappings, here, rest)

shared_inside : (len b : ℕ) (mappings : List RmapRec) → EndWithin len mappings → sharers mappings 0 < 2 → 2 ≤ sharers mappings b → (1 ≤ b) × (b < len)
unfolding sharers
shared_inside len b mappings ends few enough = (above b refl, below)
  where
    above : (n : ℕ) → b ≡ n → 1 ≤ b
    above zero is = let same : sharers mappings b ≡ sharers mappings 0 = ap (sharers mappings) is in absurd (omega (arith, few, enough, same))
    above (suc n) is = omega (arith, is)

    below : b < len
    below = elim (cases_lt b len) [
      | inl lt ↦ lt
      | inr ge ↦ let none = none_behind len b mappings ends ge in absurd (omega (arith, none, enough))
    ]

pub refcs_inside : (mappings : List RmapRec) (recs : List RefcRec) → recs ≡ shared_space mappings → sharers mappings 0 < 2 → (bounds : Bounds) → EndWithin bounds.length mappings → Each (is_refc_in_range bounds) recs
refcs_inside mappings recs is few bounds ends =
    let are = are_shared mappings recs is in
    all_inside (sharers mappings) bounds 0 recs are.maximal (λ b low. are.exact b) (λ b enough. shared_inside bounds.length b mappings ends few enough)

-- Which units the two btrees list.
use Rattle.std.proofs.Common.{◌≡◌, ℕ, zero, suc, ◌+◌, ◌-◌, ◌*◌, ◌/◌, ◌%◌, ◌<◌, ◌≤◌, All, Bool, true, false, cond, List, [], ◌∷◌, length, get_or, map, refl, ap, sym, subst, ◌∙◌, inl, inr, arith}
use Rattle.std.specs.Prelude.{◌==◌, ◌&&◌, ◌||◌, nat_le, nat_lt, filter, Result, Ok, Err, IfOk}
use Rattle.std.specs.List.{list_any}
use Rattle.std.specs.List.Sorted.{IsNonDecreasingBy, IsPermutation}
use Rattle.std.proofs.lemmas.Bool.{cases_eq, cases_lt, eq-eqb, eqb-true, ne_eqb, lt-ltb, le-ltb, ltb-true, false≢true, and_parts}
use Rattle.std.proofs.lemmas.List.Elements.{All-append, All-cons, All-head, All-nil, All-tail}
use Rattle.std.proofs.lemmas.List.Folds.{list_any-append}
use Rattle.std.proofs.lemmas.List.Sorted.{All-permutation, list_any-IsPermutation}
use Rattle.byte_fields.specs.Below.{all_below}
use Rattle.byte_fields.proofs.BelowLemmas.{one_fails}
use Rattle.derive_defs.specs.Mappings.{blocks_of, EndWithin as MappingsEndWithin, StartsRise as MappingsRise}
use Rattle.geom.specs.Layout.{group_len_of}
use Rattle.ino_recs.specs.declared.chunk.InoRec.{InoRec}
use Rattle.rmap_recs.specs.declared.records.RmapRec.{RmapRec}
use Rattle.run_sets.specs.declared.run.Run.{Run}
use Rattle.run_sets.specs.Runs.{AreMaximal, EndWithin, holds, is_within, most, runs_below}
use Rattle.run_sets.proofs.OnlyRunsLemmas.{are_runs_below, before, before_false, behind_false, only_runs_below, within_true}
use Rattle.fs_state.specs.Apart.{has_unit, ino_lists, is_listed, rmap_lists}
use Rattle.fs_state.specs.State.{State}
use Rattle.index_derive.specs.Runs.{StartsRise}
use Rattle.index_derive.specs.Units.{AreListings, has_chunks, has_inodes, is_listed_by, is_unit_below, listing_runs, unit_listed, units_in}
use Rattle.index_derive.proofs.InodeLemmas.{all_of}

-- ---- the runs of chunks

head_begins : (r : RmapRec) (rs : List RmapRec) (from : ℕ) → MappingsRise (r ∷ rs) → from ≤ r.start → (s : RmapRec) (ss : List RmapRec) → rs ≡ s ∷ ss → from ≤ s.start
head_begins r [] from rise low s ss e = let l : 0 ≡ length (s ∷ ss) = ap (λ (xs : List RmapRec). length xs) e in absurd (omega (arith, l))
head_begins r (q ∷ qs) from rise low s ss e =
    let same : q ≡ s = cc in
    let up = rise.0 in
    subst (λ (x : RmapRec). from ≤ x.start) same (omega (arith, up, low))

behind_rises : (r : RmapRec) (rs : List RmapRec) → MappingsRise (r ∷ rs) → MappingsRise rs
behind_rises r [] rise = tt
behind_rises r (s ∷ rs) rise = rise.1

pub runs_rise : (from : ℕ) (rs : List RmapRec) → ((s : RmapRec) (ss : List RmapRec) → rs ≡ s ∷ ss → from ≤ s.start) → MappingsRise rs → StartsRise from (map blocks_of (filter has_inodes rs))
runs_rise from [] low rise = tt
runs_rise from (r ∷ rs) low rise = elim (has_inodes r) as (λ b. StartsRise from (map blocks_of (cond b (r ∷ filter has_inodes rs) (filter has_inodes rs)))) [
  | true ↦ (low r rs refl, runs_rise r.start rs (head_begins r rs r.start rise (omega arith)) (behind_rises r rs rise))
  | false ↦ runs_rise from rs (head_begins r rs from rise (low r rs refl)) (behind_rises r rs rise)
]

pub runs_end : (len : ℕ) (rs : List RmapRec) → MappingsEndWithin len rs → EndWithin len (map blocks_of (filter has_inodes rs))
runs_end len [] e = tt
runs_end len (r ∷ rs) e = elim (has_inodes r) as (λ b. EndWithin len (map blocks_of (cond b (r ∷ filter has_inodes rs) (filter has_inodes rs)))) [
  | true ↦ (e.0, runs_end len rs e.1)
  | false ↦ runs_end len rs e.1
]

pub chunks_hold : (rs : List RmapRec) (b : ℕ) → holds (map blocks_of (filter has_inodes rs)) b ≡ has_chunks rs b
chunks_hold [] b = refl
chunks_hold (r ∷ rs) b = elim (has_inodes r) as (λ t. holds (map blocks_of (cond t (r ∷ filter has_inodes rs) (filter has_inodes rs))) b ≡ ((t && nat_le r.start b && nat_lt b (r.start + r.count)) || has_chunks rs b)) [
  | true ↦ ap (λ (t : Bool). is_within b (blocks_of r) || t) (chunks_hold rs b)
  | false ↦ chunks_hold rs b
]

-- ---- the units of a run

unit_true : (n u : ℕ) (r : Run) → u < n → r.start ≤ 8 * u → 8 * u + 8 ≤ r.start + r.count → is_within u (units_in n r) ≡ true
unfolding units_in
unit_true n u r lt low high = within_true u (units_in n r) (omega (arith, lt, low, high)) (omega (arith, lt, low, high))

unit_early : (n u : ℕ) (r : Run) → r.start + r.count < 8 * u + 8 → is_within u (units_in n r) ≡ false
unfolding units_in
unit_early n u r ends = behind_false u (units_in n r) (omega (arith, ends))

unit_late : (n u : ℕ) (r : Run) → 8 * u < r.start → is_within u (units_in n r) ≡ false
unfolding units_in
unit_late n u r begins = elim (cases_lt u (units_in n r).start) [
  | inl front ↦ before_false u (units_in n r) front
  | inr on ↦ behind_false u (units_in n r) (omega (arith, begins, on))
]

same_below : (p q : ℕ → Bool) (n : ℕ) → ((i : ℕ) → i < n → p i ≡ q i) → all_below n p ≡ all_below n q
unfolding all_below
same_below p q zero same = refl
same_below p q (suc n) same = λ i. same_below p q n (λ k lt. same k (omega (arith, lt))) i && same n (omega arith) i

pub units_hold : (n u from : ℕ) (rs : List Run) → u < n → AreMaximal from rs → holds (map (units_in n) rs) u ≡ all_below 8 (λ j. holds rs (8 * u + j))
units_hold n u from [] lt m = sym (one_fails (λ j. holds [] (8 * u + j)) 8 0 (omega arith) refl)
units_hold n u from (r ∷ rs) lt m =
    let rest : holds (map (units_in n) rs) u ≡ all_below 8 (λ j. holds rs (8 * u + j)) = units_hold n u (r.start + r.count + 1) rs lt m.2 in
    elim (cases_lt (8 * u) r.start) [
      | inl later ↦
          let out : is_within u (units_in n r) ≡ false = unit_late n u r later in
          let here : is_within (8 * u + 0) r ≡ false = before_false (8 * u + 0) r (omega (arith, later)) in
          let behind : holds rs (8 * u + 0) ≡ false = before (r.start + r.count + 1) rs (8 * u + 0) m.2 (omega (arith, later)) in
          let none : all_below 8 (λ j. holds rs (8 * u + j)) ≡ false = one_fails (λ j. holds rs (8 * u + j)) 8 0 (omega arith) behind in
          let all : all_below 8 (λ j. holds (r ∷ rs) (8 * u + j)) ≡ false = one_fails (λ j. holds (r ∷ rs) (8 * u + j)) 8 0 (omega arith) (rw (here, behind) refl) in
          rw out (rest ∙ none ∙ sym all)
      | inr low ↦ elim (cases_lt (r.start + r.count) (8 * u + 8)) [
        | inr high ↦
            let within : is_within u (units_in n r) ≡ true = unit_true n u r lt low high in
            let all : all_below 8 (λ j. holds (r ∷ rs) (8 * u + j)) ≡ true = all_of 8 (λ j. holds (r ∷ rs) (8 * u + j)) (λ j less. let here : is_within (8 * u + j) r ≡ true = within_true (8 * u + j) r (omega (arith, low)) (omega (arith, high, less)) in rw here refl) in
            rw within (sym all)
        | inl ends ↦
            let out : is_within u (units_in n r) ≡ false = unit_early n u r ends in
            elim (cases_lt (8 * u) (r.start + r.count)) [
              | inr past ↦
                  let same : all_below 8 (λ j. holds rs (8 * u + j)) ≡ all_below 8 (λ j. holds (r ∷ rs) (8 * u + j)) = same_below (λ j. holds rs (8 * u + j)) (λ j. holds (r ∷ rs) (8 * u + j)) 8 (λ j less. let here : is_within (8 * u + j) r ≡ false = behind_false (8 * u + j) r (omega (arith, past)) in rw here refl) in
                  rw out (rest ∙ same)
              | inl on ↦
                  let first : holds rs (8 * u + 0) ≡ false = before (r.start + r.count + 1) rs (8 * u + 0) m.2 (omega (arith, on)) in
                  let none : all_below 8 (λ j. holds rs (8 * u + j)) ≡ false = one_fails (λ j. holds rs (8 * u + j)) 8 0 (omega arith) first in
                  let k : ℕ = (r.start + r.count) - 8 * u in
                  let here : is_within (8 * u + k) r ≡ false = behind_false (8 * u + k) r (omega (arith, on)) in
                  let gap : holds rs (8 * u + k) ≡ false = before (r.start + r.count + 1) rs (8 * u + k) m.2 (omega (arith, on)) in
                  let all : all_below 8 (λ j. holds (r ∷ rs) (8 * u + j)) ≡ false = one_fails (λ j. holds (r ∷ rs) (8 * u + j)) 8 k (omega (arith, ends, on)) (rw (here, gap) refl) in
                  rw out (rest ∙ none ∙ sym all)
            ]
      ]
    ]

-- ---- the units of the inode btree's records

one_unit : (u : ℕ) (r : InoRec) → r.startino % 64 ≡ 0 → is_within u (unit_listed r) ≡ (r.startino == 64 * u)
one_unit u r whole = elim (cases_eq r.startino (64 * u)) [
  | inl is ↦
      let within : is_within u (unit_listed r) ≡ true = within_true u (unit_listed r) (omega (arith, is)) (omega (arith, is)) in
      within ∙ sym (eq-eqb r.startino (64 * u) is)
  | inr ne ↦ elim (cases_lt u (r.startino / 64)) [
    | inl front ↦ before_false u (unit_listed r) front ∙ sym (ne_eqb r.startino (64 * u) ne)
    | inr on ↦ behind_false u (unit_listed r) (omega (arith, on, whole, ne)) ∙ sym (ne_eqb r.startino (64 * u) ne)
  ]
]

not_unit : (n u : ℕ) (r : InoRec) → u < n → is_unit_below n r ≡ false → (r.startino == 64 * u) ≡ false
not_unit n u r lt h = ne_eqb r.startino (64 * u) (λ is.
    let whole : (r.startino % 64 == 0) ≡ true = eq-eqb (r.startino % 64) 0 (omega (arith, is)) in
    let below : nat_lt (r.startino / 64) n ≡ true = lt-ltb (r.startino / 64) n (omega (arith, is, lt)) in
    let both : is_unit_below n r ≡ true = rw (whole, below) refl in
    false≢true (sym h ∙ both))

chunks_listed : (n u : ℕ) (rs : List InoRec) → u < n → holds (map unit_listed (filter (is_unit_below n) rs)) u ≡ list_any (λ r. r.startino == 64 * u) rs
chunks_listed n u [] lt = refl
chunks_listed n u (r ∷ rs) lt = (elim (is_unit_below n r) as (λ b. is_unit_below n r ≡ b → holds (map unit_listed (cond b (r ∷ filter (is_unit_below n) rs) (filter (is_unit_below n) rs))) u ≡ ((r.startino == 64 * u) || list_any (λ (x : InoRec). x.startino == 64 * u) rs)) [
  | true ↦ λ h. let parts = and_parts (r.startino % 64 == 0) (nat_lt (r.startino / 64) n) h in
      λ i. one_unit u r (eqb-true (r.startino % 64) 0 parts.0) i || chunks_listed n u rs lt i
  | false ↦ λ h. chunks_listed n u rs lt ∙ ap (λ (b : Bool). b || list_any (λ (x : InoRec). x.startino == 64 * u) rs) (sym (not_unit n u r lt h))
]) refl

-- ---- both

pub listing_holds : (n u : ℕ) (ino : List InoRec) (mappings : List RmapRec) (blocks : List Run) → u < n → AreMaximal 0 blocks → ((b : ℕ) → holds blocks b ≡ has_chunks mappings b)
    → holds (listing_runs n ino blocks) u ≡ is_listed_by ino mappings u
unfolding is_listed_by
listing_holds n u ino mappings blocks lt m exact =
    list_any-append (is_within u) (map unit_listed (filter (is_unit_below n) ino)) (map (units_in n) blocks)
    ∙ (λ i. chunks_listed n u ino lt i || (units_hold n u 0 blocks lt m ∙ same_below (λ j. holds blocks (8 * u + j)) (λ j. has_chunks mappings (8 * u + j)) 8 (λ j less. exact (8 * u + j))) i)

-- ---- none lies behind the last unit

units_below : (n : ℕ) (rs : List Run) (u : ℕ) → n ≤ u → holds (map (units_in n) rs) u ≡ false
unfolding units_in
units_below n [] u le = refl
units_below n (r ∷ rs) u le =
    let here : is_within u (units_in n r) ≡ false = behind_false u (units_in n r) (omega (arith, le)) in
    let rest : holds (map (units_in n) rs) u ≡ false = units_below n rs u le in
    rw (here, rest) refl

listed_below : (n : ℕ) (rs : List InoRec) (u : ℕ) → n ≤ u → holds (map unit_listed (filter (is_unit_below n) rs)) u ≡ false
listed_below n [] u le = refl
listed_below n (r ∷ rs) u le = (elim (is_unit_below n r) as (λ b. is_unit_below n r ≡ b → holds (map unit_listed (cond b (r ∷ filter (is_unit_below n) rs) (filter (is_unit_below n) rs))) u ≡ false) [
  | true ↦ λ h.
      let below = ltb-true (r.startino / 64) n (and_parts (r.startino % 64 == 0) (nat_lt (r.startino / 64) n) h).1 in
      let here : is_within u (unit_listed r) ≡ false = behind_false u (unit_listed r) (omega (arith, below, le)) in
      let rest : holds (map unit_listed (filter (is_unit_below n) rs)) u ≡ false = listed_below n rs u le in
      rw (here, rest) refl
  | false ↦ λ h. listed_below n rs u le
]) refl

none_behind : (n u : ℕ) (ino : List InoRec) (blocks : List Run) → n ≤ u → holds (listing_runs n ino blocks) u ≡ false
none_behind n u ino blocks le =
    let first : holds (map unit_listed (filter (is_unit_below n) ino)) u ≡ false = listed_below n ino u le in
    let second : holds (map (units_in n) blocks) u ≡ false = units_below n blocks u le in
    list_any-append (is_within u) (map unit_listed (filter (is_unit_below n) ino)) (map (units_in n) blocks) ∙ (λ i. first i || second i)

-- the maximal runs of all listed units
pub listed_exact : (n : ℕ) (ino : List InoRec) (mappings : List RmapRec) (blocks found : List Run) → AreMaximal 0 blocks → ((b : ℕ) → holds blocks b ≡ has_chunks mappings b)
    → AreMaximal 0 found → ((u : ℕ) → holds found u ≡ holds (listing_runs n ino blocks) u) → found ≡ runs_below (is_listed_by ino mappings) n
listed_exact n ino mappings blocks found m exact maximal same = only_runs_below (is_listed_by ino mappings) n found (record {
  maximal = maximal;
  exact = λ u. elim (cases_lt u n) [
    | inl below ↦ let t : nat_lt u n ≡ true = lt-ltb u n below in rw t (same u ∙ listing_holds n u ino mappings blocks below m exact)
    | inr behind ↦ let t : nat_lt u n ≡ false = le-ltb u n behind in rw t (same u ∙ none_behind n u ino blocks behind)
  ];
})

-- ---- against a state

listed_is : (a : State) (g len : ℕ) (ino : List InoRec) (mappings : List RmapRec) → AreListings a g len ino mappings → (u : ℕ) → u < len / 8 → is_listed_by ino mappings u ≡ is_listed a g u
unfolding is_listed_by is_listed has_unit ino_lists rmap_lists
listed_is a g len ino mappings are u lt =
    let whole = are.whole in
    let t : nat_lt g a.geometry.agcount ≡ true = lt-ltb g a.geometry.agcount are.group in
    let s : nat_lt (8 * u + 7) (group_len_of a.geometry g) ≡ true = lt-ltb (8 * u + 7) (group_len_of a.geometry g) (omega (arith, lt, whole)) in
    let both : (nat_lt g a.geometry.agcount && nat_lt (8 * u + 7) (group_len_of a.geometry g)) ≡ true = rw (t, s) refl in
    λ i. sym both i && (list_any (λ r. r.startino == 64 * u) (sym are.chunks i)
    || all_below 8 (λ j. list_any (λ r. (r.owner == 0xffff_ffff_ffff_fff9) && nat_le r.start (8 * u + j) && nat_lt (8 * u + j) (r.start + r.count)) (sym are.owners i)))

-- tests that agree below a number have the same runs there
pub runs_same : (p q : ℕ → Bool) (n : ℕ) → ((u : ℕ) → u < n → p u ≡ q u) → runs_below p n ≡ runs_below q n
runs_same p q n same = only_runs_below q n (runs_below p n) (let own = are_runs_below p n in record {
  maximal = own.maximal;
  exact = λ u. own.exact u ∙ elim (cases_lt u n) [
    | inl below ↦ ap (λ (t : Bool). nat_lt u n && t) (same u below)
    | inr behind ↦ let t : nat_lt u n ≡ false = le-ltb u n behind in rw t refl
  ];
})

pub listed_in : (a : State) (g len : ℕ) (ino : List InoRec) (mappings : List RmapRec) (found : List Run) → AreListings a g len ino mappings → found ≡ runs_below (is_listed_by ino mappings) (len / 8) → found ≡ runs_below (is_listed a g) (len / 8)
listed_in a g len ino mappings found are is = is ∙ runs_same (is_listed_by ino mappings) (is_listed a g) (len / 8) (listed_is a g len ino mappings are)

-- ---- sorted runs

begin_at : (s : ℕ) (rs : List Run) → ((j : ℕ) (d : Run) → j < length rs → s ≤ (get_or rs j d).start) → IsNonDecreasingBy (λ r. r.start) rs → StartsRise s rs
begin_at s [] low up = tt
begin_at s (r ∷ rs) low up = (low 0 r (omega arith), begin_at r.start rs (λ j d lt. up 0 (suc j) d (omega arith) (omega (arith, lt))) (λ i j d le lt. up (suc i) (suc j) d (omega (arith, le)) (omega (arith, lt))))

pub sorted_rise : (rs : List Run) → IsNonDecreasingBy (λ r. r.start) rs → StartsRise 0 rs
sorted_rise rs up = begin_at 0 rs (λ j d lt. omega arith) up

-- ---- their ends

unit_ends : (n : ℕ) (r : Run) → n ≤ most → (units_in n r).start + (units_in n r).count ≤ most
unfolding units_in
unit_ends n r le = omega (arith, le)

all_end : (n : ℕ) (ino : List InoRec) (blocks : List Run) → n ≤ most → All (λ r. r.start + r.count ≤ most) (listing_runs n ino blocks)
all_end n ino blocks le = All-append (λ r. r.start + r.count ≤ most) (map unit_listed (filter (is_unit_below n) ino)) (map (units_in n) blocks) (listed ino) (counted blocks)
  where
    listed : (rs : List InoRec) → All (λ (r : Run). r.start + r.count ≤ most) (map unit_listed (filter (is_unit_below n) rs))
    listed [] = All-nil (λ (r : Run). r.start + r.count ≤ most)
    listed (r ∷ rs) = (elim (is_unit_below n r) as (λ b. is_unit_below n r ≡ b → All (λ (x : Run). x.start + x.count ≤ most) (map unit_listed (cond b (r ∷ filter (is_unit_below n) rs) (filter (is_unit_below n) rs)))) [
      | true ↦ λ h. let below = ltb-true (r.startino / 64) n (and_parts (r.startino % 64 == 0) (nat_lt (r.startino / 64) n) h).1 in
          All-cons (λ (x : Run). x.start + x.count ≤ most) (unit_listed r) (map unit_listed (filter (is_unit_below n) rs)) (omega (arith, below, le)) (listed rs)
      | false ↦ λ h. listed rs
    ]) refl

    counted : (rs : List Run) → All (λ (r : Run). r.start + r.count ≤ most) (map (units_in n) rs)
    counted [] = All-nil (λ (r : Run). r.start + r.count ≤ most)
    counted (r ∷ rs) = All-cons (λ (x : Run). x.start + x.count ≤ most) (units_in n r) (map (units_in n) rs) (unit_ends n r le) (counted rs)

end_all : (rs : List Run) → All (λ r. r.start + r.count ≤ most) rs → EndWithin most rs
end_all [] all = tt
end_all (r ∷ rs) all = (All-head (λ (x : Run). x.start + x.count ≤ most) r rs all, end_all rs (All-tail (λ (x : Run). x.start + x.count ≤ most) r rs all))

pub found_end : (n : ℕ) (ino : List InoRec) (blocks found : List Run) → n ≤ most → IsPermutation (listing_runs n ino blocks) found → EndWithin most found
found_end n ino blocks found le same = end_all found (All-permutation (λ r. r.start + r.count ≤ most) (listing_runs n ino blocks) found same (all_end n ino blocks le))

pub found_holds : (n : ℕ) (ino : List InoRec) (blocks found : List Run) (u : ℕ) → IsPermutation (listing_runs n ino blocks) found → holds found u ≡ holds (listing_runs n ino blocks) u
found_holds n ino blocks found u same = sym (list_any-IsPermutation (is_within u) (listing_runs n ino blocks) found same)

-- two facts of one value
pub both : {T E : Type 0} (r : Result T E) (P Q : T → Type 0) → IfOk r P → IfOk r Q → IfOk r (λ v. P v × Q v)
both (Ok v) P Q p q = (p, q)
both (Err e) P Q p q = p

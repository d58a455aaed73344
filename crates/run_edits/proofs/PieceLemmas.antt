-- Pieces joined one behind the other are the maximal runs of all their tuples.
use Rattle.std.proofs.Common.{◌≡◌, ◌<◌, ◌≤◌, ◌+◌, ◌-◌, ◌%◌, ◌^◌, ℕ, zero, suc, Bool, true, false, not, cond, ◌&&◌, ◌||◌, ◌≢◌, ◌==◌, List, [], ◌∷◌, ◌++◌, get_or, set, take, length, map, All, Contains, Option, Some, None, find, filter, refl, sym, ap, ◌∙◌, subst, inl, inr, arith, eqb-true}
use Rattle.std.specs.Prelude.{if◌then◌else◌}
use Rattle.std.specs.List.{list_any}
use Rattle.std.specs.Option.{option_map_or}
use Rattle.std.specs.List.Sorted.{IsPartitionedBy}
use Rattle.std.proofs.lemmas.Bool.{false≢true, cases_lt, cases_order}
use Rattle.std.proofs.lemmas.List.{append-nil, map-append, get_or-set_same, get_or-set_other}
use Rattle.std.proofs.lemmas.List.Elements.{filter_more}
use Rattle.sblock.specs.Lists.{Rises}
use Rattle.rmap_recs.specs.Rmap.{can_join, key_of, is_key_before}
use Rattle.rmap_recs.specs.RmapLaws.{lawful_rmap}
use Rattle.rmap_recs.specs.Words.{is_fork_data, word_goes_on, key_word}
use Rattle.rmap_recs.specs.Runs.{AreRuns, IsRun, goes_on, tuple_at}
use Rattle.rmap_recs.specs.declared.records.RmapRec.{RmapRec}
use Rattle.rmap_recs.specs.declared.records.Key.{Key}
use Rattle.rmap_recs.specs.declared.tuples.Tuple.{Tuple}
use Rattle.rmap_recs.proofs.ChainLemmas.{block_on, only_behind}
use Rattle.rmap_recs.proofs.EndLemmas.{some_blocks}
use Rattle.rmap_recs.proofs.RisingLemmas.{any_found, any_here, false_by, filtered, kept_by_filter, filter_rises, found_by_find, none_by_find, mapped, kept_by_map, Rises-map, before_later, same_default, at_place}
use Rattle.run_edits.specs.Edits.{HasRoom, is_before, joined}
use Rattle.run_edits.specs.Pieces.{ArePieces, AreTuplesOf, is_followed, chain, run_of, joined_pieces}
use Rattle.run_edits.proofs.ChainLemmas.{after_is, first_is, first_of, in_row, join_is, only_ahead, offset_then}
use Rattle.run_edits.proofs.FitLemmas.{ends_at, has_room_at}
use Rattle.run_edits.proofs.GiveLemmas.{IsRow, last_of, run_by, row_joined, joined_last}

-- ---- the word behind a run

pub behind_is : (owner word n next : ℕ) (t : Bool) → is_fork_data owner word ≡ t → word_goes_on owner word n next ≡ true → next ≡ (if t then word + n else word)
behind_is owner word n next t sort goes = after_is owner word n next goes ∙ ap (λ (b : Bool). if b then word + n else word) sort

too_far : (word n next : ℕ) → 2 ^ 54 ≤ word % 2 ^ 54 + n → next % 2 ^ 54 ≡ word % 2 ^ 54 + n → ⊥
too_far word n next far is = omega (arith, far, is)

pub none_behind : (owner word n next : ℕ) → is_fork_data owner word ≡ true → 2 ^ 54 ≤ word % 2 ^ 54 + n → word_goes_on owner word n next ≡ true → ⊥
none_behind owner word n next sort far goes = too_far word n next far (offset_then owner word n next true sort goes)

-- ---- the one piece that can be there

three : (a b c : Bool) → (a && b && c) ≡ true → (a ≡ true) × (b ≡ true) × (c ≡ true)
three true true true h = (refl, refl, refl)
three true true false h = absurd (false≢true h)
three true false c h = absurd (false≢true h)
three false b c h = absurd (false≢true h)

pub record Joins (run q : RmapRec) : Type 0 where
  pub start : q.start ≡ run.start + run.count
  pub owner : q.owner ≡ run.owner
  pub word : word_goes_on run.owner run.word run.count q.word ≡ true

pub joins : (run q : RmapRec) → can_join run q ≡ true → Joins run q
joins run q h =
    let parts = three (q.start == run.start + run.count) (q.owner == run.owner) (word_goes_on run.owner run.word run.count q.word) h in
    record { start = eqb-true q.start (run.start + run.count) parts.0; owner = eqb-true q.owner run.owner parts.1; word = parts.2 }

pub same_place : (run p q : RmapRec) → can_join run p ≡ true → can_join run q ≡ true → key_of p ≡ key_of q
same_place run p q h k =
    let a = joins run p h in
    let b = joins run q k in
    let word : p.word ≡ q.word = after_is run.owner run.word run.count p.word a.word ∙ sym (after_is run.owner run.word run.count q.word b.word) in
    λ i. record { start = (a.start ∙ sym b.start) i; owner = (a.owner ∙ sym b.owner) i; word = key_word (word i) }

pub never : (p q : RmapRec) → key_of p ≡ key_of q → is_before p q ≡ true → ⊥
never p q same h = false≢true (sym (lawful_rmap.strict (key_of q)) ∙ subst (λ (k : Key). is_key_before k (key_of q) ≡ true) same h)

pub along : (a b c : RmapRec) → is_before a b ≡ true → is_before b c ≡ true → is_before a c ≡ true
along a b c = lawful_rmap.along (key_of a) (key_of b) (key_of c)

pub one_place : (pieces : List RmapRec) → Rises is_before pieces → (i j : ℕ) (d : RmapRec) → i < length pieces → j < length pieces → key_of (get_or pieces i d) ≡ key_of (get_or pieces j d) → i ≡ j
one_place pieces rises i j d in_i in_j same = elim (cases_order i j) [
  | inl is ↦ is
  | inr rest ↦ elim rest [
    | inl below ↦ absurd (never (get_or pieces i d) (get_or pieces j d) same (before_later is_before along pieces rises i j d below in_j))
    | inr above ↦ absurd (never (get_or pieces j d) (get_or pieces i d) (sym same) (before_later is_before along pieces rises j i d above in_i))
  ]
]

at : (pieces : List RmapRec) (q d : RmapRec) (c : Contains pieces q) → get_or pieces c.0 d ≡ q
at pieces q d c = same_default pieces c.0 d q c.1 ∙ c.2

pub one_joins : (pieces : List RmapRec) → Rises is_before pieces → (run p q : RmapRec) → Contains pieces p → Contains pieces q → can_join run p ≡ true → can_join run q ≡ true → p ≡ q
one_joins pieces rises run p q c d h k =
    let same = same_place run p q h k in
    let place : c.0 ≡ d.0 = one_place pieces rises c.0 d.0 p c.1 d.1 (ap key_of c.2 ∙ same ∙ ap key_of (sym (at pieces q p d))) in
    sym c.2 ∙ ap (λ (n : ℕ). get_or pieces n p) place ∙ at pieces q p d

pub find_is : {A : Type 0} (p : A → Bool) (xs : List A) (x : A) → Contains xs x → p x ≡ true → ((y : A) → Contains xs y → p y ≡ true → y ≡ x) → find p xs ≡ Some x
find_is {A = A} p xs x c passes only = (elim (find p xs) as (λ o. find p xs ≡ o → find p xs ≡ Some x) [
  | Some y ↦ λ e. let hit = found_by_find p xs y e in e ∙ ap Some (only y hit.0 hit.1)
  | None ↦ λ e. absurd (false≢true (sym (none_by_find p xs x e c) ∙ passes))
]) refl

-- the place where a record would stand that goes on
module _ (pieces : List RmapRec) (run next : RmapRec) (rises : Rises is_before pieces) (place : ℕ)
    (before : (k : ℕ) (d : RmapRec) → k < place → is_before (get_or pieces k d) next ≡ true)
    (others : (k : ℕ) (d : RmapRec) → place ≤ k → k < length pieces → is_before (get_or pieces k d) next ≡ false)
    (start : next.start ≡ run.start + run.count) (owner : next.owner ≡ run.owner)
    (word : (n : ℕ) → word_goes_on run.owner run.word run.count n ≡ true → next.word ≡ n) where
  at_next : (q : RmapRec) → can_join run q ≡ true → key_of q ≡ key_of next
  at_next q h =
      let a = joins run q h in
      let is = word q.word a.word in
      λ i. record { start = (a.start ∙ sym start) i; owner = (a.owner ∙ sym owner) i; word = key_word (sym is i) }

  pub there : (q : RmapRec) (c : Contains pieces q) → can_join run q ≡ true → c.0 ≡ place
  there q c h = elim (cases_order c.0 place) [
    | inl is ↦ is
    | inr rest ↦ elim rest [
      | inl below ↦ absurd (never q next (at_next q h) (subst (λ (r : RmapRec). is_before r next ≡ true) c.2 (before c.0 q below)))
      | inr above ↦
          let later : is_before (get_or pieces place q) q ≡ true = subst (λ (r : RmapRec). is_before (get_or pieces place q) r ≡ true) c.2 (before_later is_before along pieces rises place c.0 q above c.1) in
          let to_next : is_before (get_or pieces place q) next ≡ true = subst (λ (k : Key). is_key_before (key_of (get_or pieces place q)) k ≡ true) (at_next q h) later in
          absurd (false≢true (sym (others place q (omega arith) (let within = c.1 in omega (arith, above, within))) ∙ to_next))
    ]
  ]

  -- none goes on where the one at the place doesn't
  pub missing : (d : RmapRec) → (place < length pieces → can_join run (get_or pieces place d) ≡ false) → (q : RmapRec) → Contains pieces q → can_join run q ≡ false
  missing d fails q c = false_by (can_join run q) (λ h.
      let is = there q c h in
      let within : place < length pieces = subst (λ (n : ℕ). n < length pieces) is c.1 in
      let same : get_or pieces place d ≡ q = ap (λ (n : ℕ). get_or pieces n d) (sym is) ∙ at pieces q d c in
      false≢true (sym (fails within) ∙ ap (can_join run) same ∙ h))

-- ---- a chain of pieces

-- some tuples of these in a row that end where a piece ends
pub record IsLink (ts : List Tuple) (pieces : List RmapRec) (r : RmapRec) : Type 0 where
  pub row : IsRow ts r
  pub room : r.start + r.count < 2 ^ 32
  pub last : (m : RmapRec) × Contains pieces m × (last_of r ≡ last_of m)

-- no piece goes on from it
pub record IsWhole (ts : List Tuple) (pieces : List RmapRec) (r : RmapRec) : Type 0 where
  pub link : IsLink ts pieces r
  pub stops : find (can_join r) pieces ≡ None

-- a chain begins as its first piece does
chain_head : (pieces : List RmapRec) (n : ℕ) (r : RmapRec) → first_of (chain n pieces r) ≡ first_of r
unfolding chain
chain_head pieces zero r = refl
chain_head pieces (suc n) r = elim (find (can_join r) pieces) as (λ o. first_of (option_map_or (λ q. chain n pieces (joined r q)) o r) ≡ first_of r) [
  | None ↦ refl
  | Some q ↦ chain_head pieces n (joined r q)
]

pub run_head : (pieces : List RmapRec) (p : RmapRec) → tuple_at (run_of pieces p) 0 ≡ tuple_at p 0
run_head pieces p = first_is (run_of pieces p) ∙ chain_head pieces (2 ^ 32 - (p.start + p.count)) p ∙ sym (first_is p)

run_key : (pieces : List RmapRec) (p : RmapRec) → key_of (run_of pieces p) ≡ key_of p
run_key pieces p =
    let head = chain_head pieces (2 ^ 32 - (p.start + p.count)) p in
    λ i. record { start = (head i).block; owner = (head i).owner; word = key_word (head i).word }

-- where none goes on the chain ends
chain_stops : (pieces : List RmapRec) (n : ℕ) (r : RmapRec) → find (can_join r) pieces ≡ None → chain n pieces r ≡ r
unfolding chain
chain_stops pieces zero r none = refl
chain_stops pieces (suc n) r none = ap (λ (o : Option RmapRec). option_map_or (λ q. chain n pieces (joined r q)) o r) none

pub run_stops : (pieces : List RmapRec) (r : RmapRec) → find (can_join r) pieces ≡ None → run_of pieces r ≡ r
run_stops pieces r none = chain_stops pieces (2 ^ 32 - (r.start + r.count)) r none

module _ (pieces : List RmapRec) (rooms : All HasRoom pieces) where
  pub piece_some : (q : RmapRec) → Contains pieces q → 0 < q.count
  piece_some q c = let room = has_room_at pieces rooms q c in omega (arith, some_blocks q room.0)

  pub joined_room : (r q : RmapRec) → Contains pieces q → can_join r q ≡ true → r.start + (r.count + q.count) < 2 ^ 32
  joined_room r q c h =
      let end = ends_at r q h in
      let room = (has_room_at pieces rooms q c).1 in
      omega (arith, end, room)

  -- a chain with room for all that may go on is the same with more room
  same_fuel : (n m : ℕ) (r : RmapRec) → r.start + r.count < 2 ^ 32 → 2 ^ 32 ≤ n + (r.start + r.count) → 2 ^ 32 ≤ m + (r.start + r.count) → chain n pieces r ≡ chain m pieces r
  unfolding chain
  same_fuel zero m r room a b = absurd (omega (arith, room, a))
  same_fuel (suc n) zero r room a b = absurd (omega (arith, room, b))
  same_fuel (suc n) (suc m) r room a b = (elim (find (can_join r) pieces) as (λ o. find (can_join r) pieces ≡ o → option_map_or (λ q. chain n pieces (joined r q)) o r ≡ option_map_or (λ q. chain m pieces (joined r q)) o r) [
    | None ↦ λ e. refl
    | Some q ↦ λ e.
        let hit = found_by_find (can_join r) pieces q e in
        let some = piece_some q hit.0 in
        same_fuel n m (joined r q) (joined_room r q hit.0 hit.1) (omega (arith, a, some)) (omega (arith, b, some))
  ]) refl

  chain_on : (n : ℕ) (r q : RmapRec) → find (can_join r) pieces ≡ Some q → chain (suc n) pieces r ≡ chain n pieces (joined r q)
  unfolding chain
  chain_on n r q found = ap (λ (o : Option RmapRec). option_map_or (λ x. chain n pieces (joined r x)) o r) found

  pub run_on : (r q : RmapRec) → r.start + r.count < 2 ^ 32 → find (can_join r) pieces ≡ Some q → run_of pieces r ≡ run_of pieces (joined r q)
  run_on r q room found =
      let hit = found_by_find (can_join r) pieces q found in
      let some = piece_some q hit.0 in
      let left = 2 ^ 32 - (r.start + r.count) - 1 in
      let more : 2 ^ 32 - (r.start + r.count) ≡ suc left = omega (arith, room) in
      ap (λ (n : ℕ). chain n pieces r) more ∙ chain_on left r q found
      ∙ same_fuel left (2 ^ 32 - (r.start + (r.count + q.count))) (joined r q) (joined_room r q hit.0 hit.1) (omega (arith, room, some)) (omega arith)

  module _ (ts : List Tuple) (tuples : AreTuplesOf ts pieces) where
    piece_row : (p : RmapRec) → Contains pieces p → IsRow ts p
    piece_row p c = record {
      some = piece_some p c;
      within = λ i below. tuples.has p c (tuple_at p i) (i, below, refl);
      row = in_row p (has_room_at pieces rooms p c).0;
    }

    linked : (r q : RmapRec) → IsLink ts pieces r → Contains pieces q → can_join r q ≡ true → IsLink ts pieces (joined r q)
    linked r q link c h =
        let goes : goes_on (last_of r) (tuple_at q 0) ≡ true = sym (join_is r q link.row.row link.row.some) ∙ h in
        let row = piece_row q c in
        record {
          row = row_joined r q link.row.row link.row.some goes ts link.row row;
          room = joined_room r q c h;
          last = (q, c, joined_last r q link.row.row link.row.some goes row.some);
        }

    chained : (n : ℕ) (r : RmapRec) → IsLink ts pieces r → 2 ^ 32 ≤ n + (r.start + r.count) → IsWhole ts pieces (chain n pieces r)
    unfolding chain
    chained zero r link enough = absurd (let room = link.room in omega (arith, room, enough))
    chained (suc n) r link enough = (elim (find (can_join r) pieces) as (λ o. find (can_join r) pieces ≡ o → IsWhole ts pieces (option_map_or (λ q. chain n pieces (joined r q)) o r)) [
      | None ↦ λ e. record { link = link; stops = e }
      | Some q ↦ λ e.
          let hit = found_by_find (can_join r) pieces q e in
          let some = piece_some q hit.0 in
          chained n (joined r q) (linked r q link hit.0 hit.1) (omega (arith, enough, some))
    ]) refl

    whole : (p : RmapRec) → Contains pieces p → IsWhole ts pieces (run_of pieces p)
    whole p c =
        let room = (has_room_at pieces rooms p c).1 in
        chained (2 ^ 32 - (p.start + p.count)) p (record { row = piece_row p c; room = room; last = (p, c, refl) }) (omega (arith, room))

-- ---- the maximal runs

not_true : (b : Bool) → not b ≡ true → b ≡ true → ⊥
not_true true h k = false≢true h
not_true false h k = false≢true k

not_of : (b : Bool) → b ≡ false → not b ≡ true
not_of b h = rw h refl

module _ (ts : List Tuple) (pieces : List RmapRec) (are : ArePieces pieces) (tuples : AreTuplesOf ts pieces) where
  row_of : (p : RmapRec) → Contains pieces p → IsRow ts p
  row_of p c = piece_row pieces are.rooms ts tuples p c

  last_there : (p : RmapRec) → Contains pieces p → Contains ts (last_of p)
  last_there p c = let some = (row_of p c).some in (row_of p c).within (p.count - 1) (omega (arith, some))

  -- nothing goes on to a piece that goes on from none
  nothing_before : (p : RmapRec) → Contains pieces p → not (is_followed pieces p) ≡ true → (q : RmapRec) → Contains pieces q → (i : ℕ) → i < q.count → goes_on (tuple_at q i) (tuple_at p 0) ≡ true → ⊥
  nothing_before p c first q d i below goes = elim (cases_lt (i + 1) q.count) [
    | inl inner ↦
        let on : tuple_at q (i + 1) ≡ tuple_at p 0 = only_behind (tuple_at q i) (tuple_at q (i + 1)) (tuple_at p 0) ((row_of q d).row i inner) goes in
        let one : q ≡ p = are.apart q p d c (tuple_at p 0) (i + 1, inner, on) (0, (row_of p c).some, refl) in
        let starts : q.start ≡ p.start = ap (λ (r : RmapRec). r.start) one in
        let blocks : q.start + (i + 1) ≡ p.start + 0 = ap (λ (t : Tuple). t.block) on in
        omega (arith, starts, blocks)
    | inr past ↦
        let last : i ≡ q.count - 1 = omega (arith, past, below) in
        let at_end : goes_on (last_of q) (tuple_at p 0) ≡ true = subst (λ (n : ℕ). goes_on (tuple_at q n) (tuple_at p 0) ≡ true) last goes in
        let h : can_join q p ≡ true = join_is q p (row_of q d).row (row_of q d).some ∙ at_end in
        not_true (is_followed pieces p) first (any_here (λ x. can_join x p) pieces q d h)
  ]

  -- nothing goes on from the last tuple of a whole chain
  nothing_behind : (r : RmapRec) → IsWhole ts pieces r → (q : RmapRec) → Contains pieces q → (i : ℕ) → i < q.count → goes_on (last_of r) (tuple_at q i) ≡ true → ⊥
  nothing_behind r w q d zero below goes =
      let h : can_join r q ≡ true = join_is r q w.link.row.row w.link.row.some ∙ goes in
      false≢true (sym (none_by_find (can_join r) pieces q w.stops d) ∙ h)
  nothing_behind r w q d (suc j) below goes =
      let e : j + 1 ≡ suc j = omega arith in
      let m = w.link.last.0 in
      let c = w.link.last.1 in
      let step : goes_on (tuple_at q j) (tuple_at q (suc j)) ≡ true = ap (λ (n : ℕ). goes_on (tuple_at q j) (tuple_at q n)) (sym e) ∙ (row_of q d).row j (omega (arith, below)) in
      let same : tuple_at q j ≡ last_of m = only_ahead (tuple_at q j) (last_of r) (tuple_at q (suc j)) step goes ∙ w.link.last.2 in
      let some = (row_of m c).some in
      let one : q ≡ m = are.apart q m d c (last_of m) (j, omega (arith, below), same) (m.count - 1, omega (arith, some), refl) in
      let starts : q.start ≡ m.start = ap (λ (x : RmapRec). x.start) one in
      let counts : q.count ≡ m.count = ap (λ (x : RmapRec). x.count) one in
      let blocks : q.start + j ≡ m.start + (m.count - 1) = ap (λ (t : Tuple). t.block) same in
      omega (arith, starts, counts, blocks, some, below)

  is_run : (p : RmapRec) → Contains pieces p → not (is_followed pieces p) ≡ true → IsRun ts (run_of pieces p)
  is_run p c first =
      let w = whole pieces are.rooms ts tuples p c in
      let r = run_of pieces p in
      run_by ts r w.link.row
      (λ t d. false_by (goes_on t (tuple_at r 0)) (λ goes.
      let of = tuples.only t d in
      nothing_before p c first of.0 of.1 of.2.0 of.2.1 (ap (λ (u : Tuple). goes_on u (tuple_at p 0)) of.2.2 ∙ ap (goes_on t) (sym (run_head pieces p)) ∙ goes)))
      (λ t d. false_by (goes_on (last_of r) t) (λ goes.
      let of = tuples.only t d in
      nothing_behind r w of.0 of.1 of.2.0 of.2.1 (ap (goes_on (last_of r)) of.2.2 ∙ goes)))

  abbrev Lies : Tuple → Type 0
  Lies t = (r : RmapRec) × (i : ℕ) × Contains (joined_pieces pieces) r × (i < r.count) × (tuple_at r i ≡ t)

  pub maximal : (r : RmapRec) → Contains (joined_pieces pieces) r → IsRun ts r
  unfolding joined_pieces
  maximal r c =
      let from = mapped (run_of pieces) (filter (λ q. not (is_followed pieces q)) pieces) r c in
      let kept = filtered (λ q. not (is_followed pieces q)) pieces from.0 from.1 in
      subst (IsRun ts) from.2 (is_run from.0 kept.0 kept.1)

  there_run : (p : RmapRec) → Contains pieces p → not (is_followed pieces p) ≡ true → Contains (joined_pieces pieces) (run_of pieces p)
  unfolding joined_pieces
  there_run p c first = kept_by_map (run_of pieces) (filter (λ q. not (is_followed pieces q)) pieces) p (kept_by_filter (λ q. not (is_followed pieces q)) pieces p c first)

  one_on : (u t : Tuple) → Contains ts t → goes_on u t ≡ true → Lies u → Lies t
  one_on u t c goes (r, i, has_r, below, is) =
      let run = maximal r has_r in
      elim (cases_lt (i + 1) r.count) [
        | inl inner ↦ (r, i + 1, has_r, inner, only_behind u (tuple_at r (i + 1)) t (ap (λ (a : Tuple). goes_on a (tuple_at r (i + 1))) (sym is) ∙ run.consecutive i inner) goes)
        | inr past ↦
            let last : i ≡ r.count - 1 = omega (arith, past, below) in
            let at_end : goes_on (last_of r) t ≡ true = ap (λ (n : ℕ). goes_on (tuple_at r n) t) (sym last) ∙ ap (λ (a : Tuple). goes_on a t) is ∙ goes in
            absurd (false≢true (sym (run.last t c) ∙ at_end))
      ]

  -- a tuple that nothing goes on to is the first of a piece that goes on from none
  first_there : (t : Tuple) → list_any (λ u. goes_on u t) ts ≡ false → (q : RmapRec) → Contains pieces q → (i : ℕ) → i < q.count → tuple_at q i ≡ t → Lies t
  first_there t none q d zero below is =
      let first : not (is_followed pieces q) ≡ true = not_of (is_followed pieces q) (false_by (is_followed pieces q) (λ h.
      let p = any_found (λ x. can_join x q) pieces h in
      let row = row_of p.0 p.1 in
      let goes : goes_on (last_of p.0) t ≡ true = ap (goes_on (last_of p.0)) (sym is) ∙ sym (join_is p.0 q row.row row.some) ∙ p.2 in
      false≢true (sym none ∙ any_here (λ u. goes_on u t) ts (last_of p.0) (last_there p.0 p.1) goes))) in
      let some = (whole pieces are.rooms ts tuples q d).link.row.some in
      (run_of pieces q, 0, there_run q d first, some, run_head pieces q ∙ is)
  first_there t none q d (suc j) below is =
      let e : j + 1 ≡ suc j = omega arith in
      let goes : goes_on (tuple_at q j) t ≡ true = ap (goes_on (tuple_at q j)) (sym is ∙ ap (tuple_at q) (sym e)) ∙ (row_of q d).row j (omega (arith, below)) in
      absurd (false≢true (sym none ∙ any_here (λ u. goes_on u t) ts (tuple_at q j) ((row_of q d).within j (omega (arith, below))) goes))

  lies_cases : (t : Tuple) → Contains ts t → ((u : Tuple) → Contains ts u → goes_on u t ≡ true → Lies u) → (b : Bool) → list_any (λ u. goes_on u t) ts ≡ b → Lies t
  lies_cases t c earlier true some = let u = any_found (λ x. goes_on x t) ts some in one_on u.0 t c u.2 (earlier u.0 u.1 u.2)
  lies_cases t c earlier false none = let of = tuples.only t c in first_there t none of.0 of.1 of.2.0 of.2.1 of.2.2

  lies_by : (n : ℕ) (t : Tuple) → t.block ≤ n → Contains ts t → Lies t
  lies_by zero t most c = lies_cases t c (λ u d goes. absurd (omega (arith, block_on u t goes, most))) (list_any (λ u. goes_on u t) ts) refl
  lies_by (suc n) t most c = lies_cases t c (λ u d goes. lies_by n u (omega (arith, block_on u t goes, most)) d) (list_any (λ u. goes_on u t) ts) refl

  rises : Rises (λ r s. is_key_before (key_of r) (key_of s)) (joined_pieces pieces)
  unfolding joined_pieces
  rises = Rises-map is_before (λ r s. is_key_before (key_of r) (key_of s)) (run_of pieces)
      (λ a b before. ap (λ (k : Key). is_key_before k (key_of (run_of pieces b))) (run_key pieces a) ∙ ap (is_key_before (key_of a)) (run_key pieces b) ∙ before)
      (filter (λ q. not (is_followed pieces q)) pieces) (filter_rises is_before along (λ q. not (is_followed pieces q)) pieces are.rising)

  pub pieces_exact : AreRuns ts (joined_pieces pieces)
  pieces_exact = record { maximal = maximal; all = λ t c. lies_by t.block t (omega arith) c; rising = rises }

-- ---- what the code does

pub parted : (pieces : List RmapRec) (next : RmapRec) → Rises is_before pieces → IsPartitionedBy (λ u. is_before u next) pieces
parted pieces next rises i j d order within passes = elim (cases_lt i j) [
  | inl below ↦ along (get_or pieces i d) (get_or pieces j d) next (before_later is_before along pieces rises i j d below within) passes
  | inr above ↦ let same : j ≡ i = omega arith in subst (λ (n : ℕ). is_before (get_or pieces n d) next ≡ true) same passes
]

-- one element more of a list that is filtered and mapped
pub kept_more : {A B : Type 0} (f : A → B) (p : A → Bool) (xs : List A) (i : ℕ) (d : A) (ys : List B) → i < length xs → p (get_or xs i d) ≡ true → ys ≡ map f (filter p (take i xs)) → ys ++ f (get_or xs i d) ∷ [] ≡ map f (filter p (take (i + 1) xs))
kept_more {A = A} {B = B} f p xs i d ys within passes is =
    let x = get_or xs i d in
    let more : filter p (take (i + 1) xs) ≡ filter p (take i xs) ++ x ∷ [] = filter_more p xs i d within ∙ ap (λ (b : Bool). filter p (take i xs) ++ cond b (x ∷ []) []) passes in
    ap (λ (zs : List B). zs ++ f x ∷ []) is ∙ sym (ap (map f) more ∙ map-append f (filter p (take i xs)) (x ∷ []))

pub left_more : {A B : Type 0} (f : A → B) (p : A → Bool) (xs : List A) (i : ℕ) (d : A) (ys : List B) → i < length xs → p (get_or xs i d) ≡ false → ys ≡ map f (filter p (take i xs)) → ys ≡ map f (filter p (take (i + 1) xs))
left_more f p xs i d ys within fails is =
    let x = get_or xs i d in
    let more : filter p (take (i + 1) xs) ≡ filter p (take i xs) = filter_more p xs i d within ∙ ap (λ (b : Bool). filter p (take i xs) ++ cond b (x ∷ []) []) fails ∙ append-nil (filter p (take i xs)) in
    is ∙ sym (ap (map f) more)

-- a mark put at the place of the piece that goes on
pub marked : (pieces : List RmapRec) → Rises is_before pieces → (piece : RmapRec) (marks news : List Bool) (place : ℕ) → length marks ≡ length pieces → place < length pieces → ((d : RmapRec) → can_join piece (get_or pieces place d) ≡ true) → news ≡ set marks place true
    → (j : ℕ) (d : RmapRec) → j < length pieces → get_or news j false ≡ (get_or marks j false || can_join piece (get_or pieces j d))
marked pieces rising piece marks news place all within goes is j d below = elim (cases_order j place) [
  | inl here ↦
      let joins_here : can_join piece (get_or pieces j d) ≡ true = ap (λ (n : ℕ). can_join piece (get_or pieces n d)) here ∙ goes d in
      ap (λ (ms : List Bool). get_or ms j false) is ∙ ap (λ (n : ℕ). get_or (set marks place true) n false) here ∙ get_or-set_same marks place true false (omega (arith, all, within))
      ∙ sym (second_is (get_or marks j false) (can_join piece (get_or pieces j d)) joins_here)
  | inr rest ↦
      let other : j ≢ place = λ e. elim rest [ inl less ↦ omega (arith, less, e) | inr more ↦ omega (arith, more, e) ] in
      let apart : can_join piece (get_or pieces j d) ≡ false = false_by (can_join piece (get_or pieces j d)) (λ h. other (one_place pieces rising j place d below within (same_place piece (get_or pieces j d) (get_or pieces place d) h (goes d)))) in
      ap (λ (ms : List Bool). get_or ms j false) is ∙ get_or-set_other marks place j true false other ∙ sym (first_is_all (get_or marks j false) (can_join piece (get_or pieces j d)) apart)
]
  where
    second_is : (a b : Bool) → b ≡ true → (a || b) ≡ true
    second_is true b h = refl
    second_is false b h = h

    first_is_all : (a b : Bool) → b ≡ false → (a || b) ≡ a
    first_is_all true b h = refl
    first_is_all false b h = h

pub unmarked : (pieces : List RmapRec) (piece : RmapRec) (marks : List Bool) → ((q : RmapRec) → Contains pieces q → can_join piece q ≡ false) → (j : ℕ) (d : RmapRec) → j < length pieces → get_or marks j false ≡ (get_or marks j false || can_join piece (get_or pieces j d))
unmarked pieces piece marks none j d below = sym (first_is_all (get_or marks j false) (can_join piece (get_or pieces j d)) (none (get_or pieces j d) (at_place pieces j d below)))
  where
    first_is_all : (a b : Bool) → b ≡ false → (a || b) ≡ a
    first_is_all true b h = refl
    first_is_all false b h = h

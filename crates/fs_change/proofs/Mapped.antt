-- What a switch of the reverse mappings puts in is derived again: it gives the same units to inodes.
use Rattle.std.proofs.Common.{◌≡◌, ◌⊎◌, ℕ, ◌+◌, ◌-◌, ◌*◌, ◌<◌, ◌≤◌, ◌==◌, ◌&&◌, ◌||◌, Bool, true, false, cond, List, [], ◌∷◌, ◌++◌, map, filter, flat_map, zero, suc, refl, sym, ap, ap₂, subst, ◌∙◌, eqb-true, eq-eqb, arith, inl, inr}
use Rattle.std.specs.Prelude.{◌/◌, ◌%◌, nat_lt, nat_le}
use Rattle.std.specs.List.{list_any}
use Rattle.std.proofs.lemmas.Bool.Decides.{nat_tests}
use Rattle.std.proofs.lemmas.Bool.{false≢true, and_parts, ltb-true, leb-true}
use Rattle.byte_fields.proofs.BelowLemmas.{each_below}
use Rattle.byte_fields.specs.Below.{all_below}
use Rattle.fs_model.specs.declared.claim.Claim.TheVariants.{Chunk}
use Rattle.fs_model.specs.declared.unit.Unit.TheVariants as units
use Rattle.geom.specs.Layout.{group_len_of, inode_at}
use Rattle.rmap_recs.proofs.RunLemmas.{maximal_runs}
use Rattle.rmap_recs.specs.Owners.{number_of}
use Rattle.rmap_recs.specs.Runs.{has, runs_of, tuple_at, AreRuns, AreTuples, HaveNext}
use Rattle.rmap_recs.specs.declared.owner.Owner.TheVariants.{Inodes}
use Rattle.rmap_recs.specs.declared.records.RmapRec.{RmapRec}
use Rattle.rmap_recs.specs.declared.tuples.Tuple.{Tuple}
use Rattle.sblock.specs.declared.kind.Kind.{Kind}
use Rattle.sblock.specs.declared.kind.Kind.TheVariants.{Rmap, Ino}
use Rattle.fs_state.specs.Apart.{ino_lists, rmap_lists, has_unit, is_listed, unit_verifies, is_chunk}
use Rattle.fs_state.specs.State.{State, Group}
use Rattle.fs_state.specs.Chunks.{chunks, inodes_in, inodes}
use Rattle.fs_state.specs.Claims.{metadata_claims, fork_claims, claims, claimed_by, data_claims, attribute_claims, tree_claims}
use Rattle.fs_state.specs.Derive.{derive}
use Rattle.fs_state.specs.Records.{kinds_of}
use Rattle.fs_state.specs.Laws.{EachTree}
use Rattle.fs_state.specs.Lists.{numbers}
use Rattle.fs_state.specs.Own.{set_of, tuple_of, own, rmap_of}
use Rattle.fs_change.proofs.Alike.{gives_unit, lists_unit, listed_among, in_range}
use Rattle.fs_change.proofs.Beside.{elsewhere}
use Rattle.fs_change.proofs.Counted.{hasc, hasc_both, has_blocks, is_plain, parts, parted, chunk_part, front, has_behind, chunks_behind}
use Rattle.rmap_recs.proofs.RisingLemmas.{any_here, any_found}
use Rattle.fs_change.proofs.Sets.{has_set, has_of, of_has}
use Rattle.fs_change.proofs.Trees.{in_itself}
use Rattle.fs_change.specs.Laws.{MappingsDerivedAgain, OnlyChunks}
use Rattle.fs_change.specs.Parts.{records_in}
use Rattle.fs_change.specs.Switch.{moved, switched, derived_in, hold, exact_counters}

both_ways : (a b : Bool) → (a ≡ true → b ≡ true) → (b ≡ true → a ≡ true) → a ≡ b
both_ways true true f g = refl
both_ways true false f g = sym (f refl)
both_ways false true f g = g refl
both_ways false false f g = refl

all_of : (n : ℕ) (p : ℕ → Bool) → ((j : ℕ) → j < n → p j ≡ true) → all_below n p ≡ true
unfolding all_below
all_of zero p h = refl
all_of (suc n) p h = ap₂ (λ x y. x && y) (all_of n p (λ j l. h j (omega arith))) (h n (omega arith))

both_hold : (x y : Bool) → x ≡ true → y ≡ true → (x && y) ≡ true
both_hold true y h i = i
both_hold false y h i = absurd (false≢true h)

or_of_left : (x y : Bool) → x ≡ true → (x || y) ≡ true
or_of_left true y h = refl
or_of_left false y h = absurd (false≢true h)

or_of_right : (x y : Bool) → y ≡ true → (x || y) ≡ true
or_of_right true y h = refl
or_of_right false y h = h

either : (x y : Bool) → (x || y) ≡ true → (x ≡ true) ⊎ (y ≡ true)
either true y h = inl refl
either false y h = inr h

-- ---- units and blocks

-- the block is one of the unit's eight
abbrev in_unit : ℕ → ℕ → Bool
in_unit u b = nat_le (8 * u) b && nat_lt b (8 * u + 8)

one_unit : (u v : ℕ) → in_unit v (8 * u + 0) ≡ true → u ≡ v
one_unit u v h = grind (arith, nat_tests)

filter_found : (p test : ℕ → Bool) (xs : List ℕ) → list_any test (filter p xs) ≡ true → (x : ℕ) × (p x ≡ true) × (test x ≡ true)
filter_found p test [] h = absurd (false≢true h)
filter_found p test (x ∷ xs) h = (elim (p x) as (λ b. p x ≡ b → list_any test (cond b (x ∷ filter p xs) (filter p xs)) ≡ true → (y : ℕ) × (p y ≡ true) × (test y ≡ true)) [
  | true ↦ λ e i. (elim (test x) as (λ b. test x ≡ b → (b || list_any test (filter p xs)) ≡ true → (y : ℕ) × (p y ≡ true) × (test y ≡ true)) [
    | true ↦ λ f j. (x, e, f)
    | false ↦ λ f j. filter_found p test xs j
  ]) refl i
  | false ↦ λ e i. filter_found p test xs i
]) refl h

-- a unit's block is claimed for inodes where the unit is one of these
plain_in : (t : Tuple) (b n : ℕ) → nat_le b t.block ≡ true → nat_lt t.block (b + n) ≡ true → t.owner ≡ number_of Inodes → t.word ≡ 0 → list_any (is_plain t (number_of Inodes)) (numbers b n) ≡ true
plain_in t b zero low high owner word = absurd (none t.block b (leb-true b t.block low) (ltb-true t.block (b + 0) high))
  where
    none : (x c : ℕ) → c ≤ x → x < c + 0 → ⊥
    none x c h i = omega arith
plain_in t b (suc n) low high owner word = (elim (t.block == b) as (λ e. (t.block == b) ≡ e → ((e && (t.owner == number_of Inodes) && (t.word == 0)) || list_any (is_plain t (number_of Inodes)) (numbers (b + 1) n)) ≡ true) [
  | true ↦ λ e. or_of_left ((t.owner == number_of Inodes) && (t.word == 0)) (list_any (is_plain t (number_of Inodes)) (numbers (b + 1) n)) (ap₂ (λ x y. x && y) (eq-eqb t.owner (number_of Inodes) owner) (eq-eqb t.word 0 word))
  | false ↦ λ e. plain_in t (b + 1) n (grind (arith, nat_tests)) (grind (arith, nat_tests)) owner word
]) refl

unit_at : (u v b : ℕ) → (64 * v == 64 * u) ≡ true → nat_le (8 * u) b ≡ true → nat_lt b (8 * u + 8) ≡ true → (nat_le (8 * v) b ≡ true) × (nat_lt b (8 * v + 8) ≡ true)
unit_at u v b e low high = (grind (arith, nat_tests), grind (arith, nat_tests))

claimed_in : (t : Tuple) (u : ℕ) (us : List ℕ) → in_unit u t.block ≡ true → t.owner ≡ number_of Inodes → t.word ≡ 0 → list_any (λ v. 64 * v == 64 * u) us ≡ true → hasc (chunk_part us) t ≡ true
claimed_in t u [] inside owner word h = absurd (false≢true h)
claimed_in t u (v ∷ us) inside owner word h =
    let low = and_parts (nat_le (8 * u) t.block) (nat_lt t.block (8 * u + 8)) inside in
    hasc_both (map (claimed_by Chunk (number_of Inodes)) (numbers (8 * v) 8)) (chunk_part us) t
    ∙ (elim (64 * v == 64 * u) as (λ b. (64 * v == 64 * u) ≡ b → (b || list_any (λ w. 64 * w == 64 * u) us) ≡ true → (hasc (map (claimed_by Chunk (number_of Inodes)) (numbers (8 * v) 8)) t || hasc (chunk_part us) t) ≡ true) [
      | true ↦ λ e i. or_of_left (hasc (map (claimed_by Chunk (number_of Inodes)) (numbers (8 * v) 8)) t) (hasc (chunk_part us) t)
          (let at = unit_at u v t.block e low.0 low.1 in has_blocks Chunk (number_of Inodes) (numbers (8 * v) 8) t ∙ plain_in t (8 * v) 8 at.0 at.1 owner word)
      | false ↦ λ e i. or_of_right (hasc (map (claimed_by Chunk (number_of Inodes)) (numbers (8 * v) 8)) t) (hasc (chunk_part us) t) (claimed_in t u us inside owner word i)
    ]) refl h

module _ (a : State) (g : ℕ) (blocks : Kind → List ℕ) (tuples : AreTuples (own (moved a g units.Rmap blocks) g)) (next : HaveNext (own (moved a g units.Rmap blocks) g)) (only : OnlyChunks (moved a g units.Rmap blocks) g) where
  abbrev m : State
  m = moved a g units.Rmap blocks

  abbrev y : State
  y = switched a g units.Rmap blocks

  abbrev held_group : Group
  held_group = record (hold (derive m g) (kinds_of units.Rmap) (m.group g)) { counters = exact_counters (derived_in m g units.Rmap) g units.Rmap }

  held : y.group g ≡ held_group
  unfolding switched
  held =
      let d : State = derived_in m g units.Rmap in
      in_itself g (λ p. record p { counters = exact_counters d g units.Rmap }) d
      ∙ ap (λ (p : Group). record p { counters = exact_counters d g units.Rmap }) (in_itself g (hold (derive m g) (kinds_of units.Rmap)) m)

  put_in : records_in (y.group g) Rmap ≡ rmap_of m g
  unfolding derive
  put_in = ap (λ (p : Group). records_in p Rmap) held

  other : (h : ℕ) → (h == g) ≡ false → y.group h ≡ m.group h
  unfolding switched
  other h out =
      let d : State = derived_in m g units.Rmap in
      elsewhere g (record (d.group g) { counters = exact_counters d g units.Rmap }) d.group h out ∙ elsewhere g (hold (derive m g) (kinds_of units.Rmap) (m.group g)) m.group h out

  runs : AreRuns (own m g) (runs_of (own m g))
  runs = maximal_runs (own m g) (runs_of (own m g)) refl tuples next

  -- a record that gives a block to inodes
  abbrev gives : ℕ → RmapRec → Bool
  gives b r = (r.owner == number_of Inodes) && nat_le r.start b && nat_lt b (r.start + r.count)

  -- a unit that the new records give to inodes was a chunk
  was_chunk : (u : ℕ) → gives_unit u (runs_of (own m g)) ≡ true → is_chunk m g u ≡ true
  unfolding chunks
  was_chunk u h =
      let found = any_found (gives (8 * u + 0)) (runs_of (own m g)) (each_below (λ j. list_any (gives (8 * u + j)) (runs_of (own m g))) 8 0 h (omega arith)) in
      let r : RmapRec = found.0 in
      let high = and_parts ((r.owner == number_of Inodes) && nat_le r.start (8 * u + 0)) (nat_lt (8 * u + 0) (r.start + r.count)) found.2 in
      let low = and_parts (r.owner == number_of Inodes) (nat_le r.start (8 * u + 0)) high.0 in
      let t : Tuple = tuple_at r (8 * u + 0 - r.start) in
      let there : has (own m g) t ≡ true = has_of (own m g) t ((runs.maximal r found.1).within (8 * u + 0 - r.start) (less r.start r.count (8 * u + 0) low.1 high.1)) in
      let unit = filter_found (is_chunk m g) (λ v. in_unit v t.block) (numbers 0 (group_len_of m.geometry g / 8)) (only t there (eqb-true r.owner (number_of Inodes) low.0)) in
      chunk_of u unit.0 r.start (8 * u + 0 - r.start) (back r.start (8 * u + 0) low.1) unit.1 unit.2
    where
      less : (s c b : ℕ) → nat_le s b ≡ true → nat_lt b (s + c) ≡ true → b - s < c
      less s c b h i = grind (arith, nat_tests)

      -- the unit with this block in it
      chunk_of : (v w s d : ℕ) → s + d ≡ 8 * v + 0 → is_chunk m g w ≡ true → in_unit w (s + d) ≡ true → is_chunk m g v ≡ true
      chunk_of v w s d e h i =
          let same : v ≡ w = one_unit v w (subst (λ (b : ℕ). in_unit w b ≡ true) e i) in
          subst (λ (x : ℕ). is_chunk m g x ≡ true) (sym same) h

      back : (s b : ℕ) → nat_le s b ≡ true → s + (b - s) ≡ b
      back s b h = grind (arith, nat_tests)

  of_chunks : (t : Tuple) → hasc (chunk_part (chunks m g)) t ≡ true → hasc (metadata_claims m g) t ≡ true
  unfolding metadata_claims
  of_chunks t e =
      parted m.geometry g (m.group g) (chunks m g) t
      ∙ or_of_right (hasc (front m.geometry g (m.group g)) t) (has_behind (m.group g) (chunks m g) t) (chunks_behind (m.group g) (chunks m g) t e)

  -- a chunk's blocks have a record each
  gives_chunk : (u : ℕ) → is_chunk m g u ≡ true → has_unit m.geometry g u ≡ true → gives_unit u (runs_of (own m g)) ≡ true
  unfolding own claims chunks has_unit
  gives_chunk u h inside = all_of 8 (λ j. list_any (gives (8 * u + j)) (runs_of (own m g))) (λ j l.
      let t : Tuple = record { block = 8 * u + j; owner = number_of Inodes; word = 0 } in
      let range = in_range (group_len_of m.geometry g) u (and_parts (nat_lt g m.geometry.agcount) (nat_lt (8 * u + 7) (group_len_of m.geometry g)) inside).1 in
      let listed : list_any (λ v. 64 * v == 64 * u) (chunks m g) ≡ true = listed_among (is_chunk m g) 0 (group_len_of m.geometry g / 8) u ∙ ap₂ (λ x z. x && z) h range in
      let part : hasc (chunk_part (chunks m g)) t ≡ true = claimed_in t u (chunks m g) (eight u j l) refl refl listed in
      let there : has (own m g) t ≡ true = has_set (map tuple_of (claims m g)) t ∙ hasc_both (metadata_claims m g) (fork_claims m g) t ∙ or_of_left (hasc (metadata_claims m g) t) (hasc (fork_claims m g) t) (of_chunks t part) in
      let run = runs.all t (of_has (own m g) t there) in
      any_here (gives (8 * u + j)) (runs_of (own m g)) run.0 run.2 (gives_it run.0 run.1 (8 * u + j) run.3 (ap (λ (s : Tuple). s.owner) run.4) (ap (λ (s : Tuple). s.block) run.4)))
    where
      eight : (v j : ℕ) → j < 8 → in_unit v (8 * v + j) ≡ true
      eight v j l =
          let low : nat_le (8 * v) (8 * v + j) ≡ true = grind (arith, nat_tests) in
          let high : nat_lt (8 * v + j) (8 * v + 8) ≡ true = grind (arith, nat_tests) in
          both_hold (nat_le (8 * v) (8 * v + j)) (nat_lt (8 * v + j) (8 * v + 8)) low high

      gives_it : (r : RmapRec) (i b : ℕ) → i < r.count → r.owner ≡ number_of Inodes → r.start + i ≡ b → gives b r ≡ true
      gives_it r i b l owner place =
          let low : nat_le r.start b ≡ true = grind (arith, nat_tests) in
          let high : nat_lt b (r.start + r.count) ≡ true = grind (arith, nat_tests) in
          both_hold ((r.owner == number_of Inodes) && nat_le r.start b) (nat_lt b (r.start + r.count)) (both_hold (r.owner == number_of Inodes) (nat_le r.start b) (eq-eqb r.owner (number_of Inodes) owner) low) high

  same_ino : records_in (y.group g) Ino ≡ records_in (m.group g) Ino
  same_ino = ap (λ (p : Group). records_in p Ino) held

  chunk_here : (u : ℕ) → is_chunk y g u ≡ is_chunk m g u
  unfolding is_chunk is_listed ino_lists rmap_lists switched rmap_of
  chunk_here u =
      ap₂ (λ x z. (has_unit m.geometry g u && (x || z)) && unit_verifies m.geometry m.core g u) (ap (lists_unit u) same_ino) (ap (gives_unit u) put_in)
      ∙ both_ways ((has_unit m.geometry g u && (ino_lists m g u || gives_unit u (runs_of (own m g)))) && unit_verifies m.geometry m.core g u) (is_chunk m g u)
      (λ h.
      let v = and_parts (has_unit m.geometry g u && (ino_lists m g u || gives_unit u (runs_of (own m g)))) (unit_verifies m.geometry m.core g u) h in
      let w = and_parts (has_unit m.geometry g u) (ino_lists m g u || gives_unit u (runs_of (own m g))) v.0 in
      elim (either (ino_lists m g u) (gives_unit u (runs_of (own m g))) w.1) as (λ o. is_chunk m g u ≡ true) [
        | inl i ↦ ap₂ (λ x z. x && z) (ap₂ (λ x z. x && z) w.0 (or_of_left (ino_lists m g u) (rmap_lists m g u) i)) v.1
        | inr r ↦ was_chunk u r
      ])
      (λ h.
      let v = and_parts (has_unit m.geometry g u && (ino_lists m g u || rmap_lists m g u)) (unit_verifies m.geometry m.core g u) h in
      let w = and_parts (has_unit m.geometry g u) (ino_lists m g u || rmap_lists m g u) v.0 in
      ap₂ (λ x z. x && z) (ap₂ (λ x z. x && z) w.0 (or_of_right (ino_lists m g u) (gives_unit u (runs_of (own m g))) (gives_chunk u h w.0))) v.1)

  pub chunk_again : (h u : ℕ) → is_chunk y h u ≡ is_chunk m h u
  unfolding is_chunk is_listed ino_lists rmap_lists switched
  chunk_again h u = (elim (h == g) as (λ b. (h == g) ≡ b → is_chunk y h u ≡ is_chunk m h u) [
    | true ↦ λ e. subst (λ (n : ℕ). is_chunk y n u ≡ is_chunk m n u) (sym (eqb-true h g e)) (chunk_here u)
    | false ↦ λ e. ap (λ (p : Group). (has_unit m.geometry h u && (lists_unit u (records_in p Ino) || gives_unit u (records_in p Rmap))) && unit_verifies m.geometry m.core h u) (other h e)
  ]) refl

  chunks_again : (h : ℕ) → chunks y h ≡ chunks m h
  unfolding chunks switched
  chunks_again h = λ i. filter (λ u. chunk_again h u i) (numbers 0 (group_len_of m.geometry h / 8))

  inodes_again : inodes y ≡ inodes m
  unfolding inodes inodes_in switched
  inodes_again = λ i. flat_map (λ h. flat_map (λ u. map (λ n. inode_at m.geometry h (8 * u + n / 8) (n % 8)) (numbers 0 64)) (chunks_again h i)) (numbers 0 m.geometry.agcount)

  same_metadata : metadata_claims y g ≡ metadata_claims m g
  unfolding metadata_claims switched
  same_metadata = ap₂ (λ (p : Group) (us : List ℕ). parts m.geometry g p us) held (chunks_again g)

  same_forks : fork_claims y g ≡ fork_claims m g
  unfolding fork_claims switched
  same_forks = ap (λ is. flat_map (data_claims m g) is ++ flat_map (attribute_claims m g) is ++ flat_map (tree_claims m g) is) inodes_again

  derived : rmap_of m g ≡ rmap_of y g
  unfolding rmap_of own claims
  derived = ap₂ (λ cs ds. runs_of (set_of (map tuple_of (cs ++ ds)))) (sym same_metadata) (sym same_forks)

  pub again : EachTree (λ k. records_in (y.group g) k ≡ derive y g k) (kinds_of units.Rmap)
  unfolding derive
  again = (put_in ∙ derived, tt)

pub mappings_derived_again : MappingsDerivedAgain
mappings_derived_again a g blocks tuples next only = again a g blocks tuples next only

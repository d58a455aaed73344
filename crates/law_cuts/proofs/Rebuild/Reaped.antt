-- A reaped run leaves limbo, and its owner loses it: settled owners, and the mappings that tell them.
use Rattle.std.proofs.Common.{◌≡◌, ℕ, ◌+◌, ◌-◌, ◌<◌, ◌≤◌, ◌==◌, ◌&&◌, ◌||◌, Bool, true, false, not, cond, nat_le, nat_lt, List, [], ◌∷◌, ◌++◌, filter, flat_map, map, refl, sym, ap, ap₂, subst, ◌∙◌, arith, eq-eqb, eqb-true}
use Rattle.std.specs.Prelude.{if◌then◌else◌}
use Rattle.std.proofs.lemmas.Bool.{false≢true, true≢false}
use Rattle.std.proofs.lemmas.Bool.Decides.{nat_tests}
use Rattle.law_accounts.proofs.Account.Framed.{SameParts, edit_parts, given_parts}
use Rattle.law_accounts.proofs.Account.Mappings.{edited_recs}
use Rattle.law_accounts.specs.Account.Accounts.{in_span}
use Rattle.law_accounts.specs.Account.Stated.{ChunksStay}
use Rattle.law_accounts.specs.Account.Steps.{IsWritten}
use Rattle.law_writers.proofs.Change.Rows as chunk_rows
use Rattle.law_writers.proofs.Change.Settled.{other_entries_keep}
use Rattle.law_writers.specs.Change.Chunks.{LeavesChunks}
use Rattle.law_accounts.proofs.Edit.Mappings.{mapping_taken}
use Rattle.fs_change.proofs.Beside as beside
use Rattle.fs_change.proofs.Sets.{same_is}
use Rattle.fs_change.proofs.Stays.{decided_stands}
use Rattle.fs_change.proofs.Trees.{given_space, in_itself}
use Rattle.fs_change.specs.Chains.{settled_forks, settled_own, tuples_of}
use Rattle.fs_change.specs.Changes.{give_free, is_in_extent, is_of_run, joins_no_space, leave_limbo, owner_of_run, plain_run, reap_in, reaped, take_owner}
use Rattle.fs_change.specs.Loose.{owners_in, tree_blocks}
use Rattle.fs_change.specs.Parts.{records_in}
use Rattle.fs_change.specs.Records.{take_mapping}
use Rattle.fs_change.specs.Switch.{has_owned, owned_by as with_owner}
use Rattle.fs_state.specs.Chunks.{chunks}
use Rattle.fs_state.specs.Claims.{claimed_by, claims, metadata_claims}
use Rattle.fs_state.specs.Derive.{mappings}
use Rattle.fs_state.specs.Records.{all_kinds, tree_owner}
use Rattle.fs_model.specs.declared.claim.Claim.TheVariants.{Limbo}
use Rattle.fs_model.specs.declared.entry.Entry.{Entry}
use Rattle.fs_model.specs.declared.entry.Entry.TheVariants as entries
use Rattle.fs_model.specs.declared.entry.Extent.{Extent}
use Rattle.fs_state.specs.Kinds.{RecOf}
use Rattle.fs_state.specs.State.{Group, Index, Owned, State, recs_of}
use Rattle.geom.specs.Apart.{HasFitting}
use Rattle.law_writers.proofs.Held.Kept.{each_number}
use Rattle.law_repairs.proofs.Move.Claiming.{metadata_is, owned_plain, owned_times, owner_plain, total_is}
use Rattle.law_accounts.proofs.Owner.Finished.{has_run, run_of_has, run_taken}
use Rattle.law_accounts.proofs.Owner.Members.{same_chunks, settled_is}
use Rattle.law_accounts.specs.Owner.Told.{AreTold}
use Rattle.law_repairs.proofs.Repair.Totals.{chunk_part, front_part, has_weight, is_owner, limbo_weight, owned_by, weigh, weigh_both, weigh_filter}
use Rattle.rmap_recs.specs.Owners.{is_inode, number_of}
use Rattle.rmap_recs.specs.declared.owner.Owner.TheVariants.{Ag}
use Rattle.rmap_recs.specs.Runs.{AreRuns, has, is_same, tuple_at}
use Rattle.rmap_recs.specs.Words.{is_fork_data}
use Rattle.rmap_recs.specs.declared.records.RmapRec.{RmapRec}
use Rattle.rmap_recs.specs.declared.tuples.Tuple.{Tuple}
use Rattle.sblock.specs.declared.kind.Kind.{Kind}
use Rattle.sblock.specs.declared.kind.Kind.TheVariants.{Rmap}
use Rattle.law_writers.specs.Told.Told.{IsMadeInWords}
use Rattle.law_cuts.proofs.Cut.Cut.{owned_sum, stands_alone}
use Rattle.law_cuts.proofs.Cut.Told.{has_pairs, owned_has, owner_less, tuple_for, weigh_less}
use Rattle.law_cuts.specs.Rebuild.Reaped.{LeavesLimbo, ReapedTold}

-- ---- tuples of a run with an owner that is no inode

plain_word : (owner : ℕ) → is_inode owner ≡ false → is_fork_data owner 0 ≡ false
unfolding is_fork_data
plain_word owner e = ap (λ b. b && true) e

in_bounds : (s n b : ℕ) → in_span s n b ≡ true → (s ≤ b) × (b < s + n)
in_bounds s n b h = (grind (arith, nat_tests), grind (arith, nat_tests))

-- a tuple of the run has a block of it
run_inside : (owner : ℕ) (e : Extent) (t : Tuple) → has (tuples_of (plain_run owner e)) t ≡ true → (in_span e.block e.count t.block ≡ true) × (t.owner ≡ owner)
run_inside owner e t h =
    let of = run_of_has (plain_run owner e) t h in
    (subst (λ b. in_span e.block e.count b ≡ true) (ap (λ (u : Tuple). u.block) of.2) (inside e.block of.0 e.count of.1), sym (ap (λ (u : Tuple). u.owner) of.2))
  where
    inside : (s i n : ℕ) → i < n → (nat_le s (s + i) && nat_lt (s + i) (s + n)) ≡ true
    inside s i n l = grind (arith, nat_tests)

module _ (owner : ℕ) (e : Extent) (plain : is_inode owner ≡ false) where
  abbrev run : RmapRec
  run = plain_run owner e

  -- each is that of a pair
  run_tuple : (t : Tuple) → has (tuples_of run) t ≡ true → t ≡ tuple_for (with_owner owner t.block)
  run_tuple t h =
      let of = run_of_has run t h in
      let word : t.word ≡ 0 = ap (λ (u : Tuple). u.word) (sym of.2) ∙ ap (λ (z : Bool). if z then 0 + of.0 else 0) (plain_word owner plain) in
      let own : t.owner ≡ owner = ap (λ (u : Tuple). u.owner) (sym of.2) in
      λ i. record { block = t.block; owner = own i; word = word i }

  run_has : (b : ℕ) → in_span e.block e.count b ≡ true → has (tuples_of run) (tuple_for (with_owner owner b)) ≡ true
  run_has b h =
      let l = in_bounds e.block e.count b h in
      let low = l.0 in
      let high = l.1 in
      has_run run (tuple_for (with_owner owner b)) (b - e.block, omega (arith, low, high), same (back e.block b low))
    where
      back : (s b : ℕ) → s ≤ b → s + (b - s) ≡ b
      back s b l = omega (arith, l)

      same : e.block + (b - e.block) ≡ b → tuple_at run (b - e.block) ≡ tuple_for (with_owner owner b)
      same at =
          let word : ◌≡◌ {A = ℕ} (if is_fork_data owner 0 then 0 + (b - e.block) else 0) 0 = ap (λ (z : Bool). if z then 0 + (b - e.block) else 0) (plain_word owner plain) in
          λ i. record { block = at i; owner = owner; word = word i }

-- ---- limbo without the run

module _ (t : Tuple) (owner : ℕ) (e : Extent) where
  weigh_each : (f h : Owned → ℕ) (os : List Owned) → ((o : Owned) → f o ≡ h o) → weigh f os ≡ weigh h os
  weigh_each f h [] k = refl
  weigh_each f h (o ∷ os) k = ap₂ (λ (m n : ℕ). m + n) (k o) (weigh_each f h os k)

  weigh_none : (f : Owned → ℕ) (os : List Owned) → ((o : Owned) → f o ≡ 0) → weigh f os ≡ 0
  weigh_none f [] k = refl
  weigh_none f (o ∷ os) k = let one = k o in let rest = weigh_none f os k in omega (arith, one, rest)

  abbrev left_in : Owned → Bool
  left_in o = not (is_of_run owner e o)

  -- a tuple of another run weighs as before
  stays_in : is_inode owner ≡ false → has (tuples_of (plain_run owner e)) t ≡ false → (os : List Owned) → weigh (limbo_weight (is_owner t)) (filter left_in os) ≡ weigh (limbo_weight (is_owner t)) os
  stays_in plain out os = weigh_filter (limbo_weight (is_owner t)) left_in os ∙ weigh_each (λ o. if left_in o then limbo_weight (is_owner t) o else 0) (limbo_weight (is_owner t)) os each
    where
      span_of : (b : ℕ) → is_in_extent e b ≡ true → in_span e.block e.count b ≡ true
      span_of b h = h

      parts : (y z : Bool) → (y && z) ≡ true → (y ≡ true) × (z ≡ true)
      parts true true h = (refl, refl)
      parts true false h = absurd (false≢true h)
      parts false z h = absurd (false≢true h)

      each : (o : Owned) → (if left_in o then limbo_weight (is_owner t) o else 0) ≡ limbo_weight (is_owner t) o
      each o = by (is_of_run owner e o) refl (is_same t (tuple_for o)) refl
        where
          by : (r : Bool) → is_of_run owner e o ≡ r → (s : Bool) → is_same t (tuple_for o) ≡ s → ◌≡◌ {A = ℕ} (if not r then (if s then 1 else 0) else 0) (if s then 1 else 0)
          by true h true k =
              let two = parts (o.owner == owner) (is_in_extent e o.block) h in
              let same : t ≡ tuple_for (with_owner owner o.block) = same_is t (tuple_for o) k ∙ (λ i. record { block = o.block; owner = eqb-true o.owner owner two.0 i; word = 0 }) in
              absurd (true≢false (sym (ap (has (tuples_of (plain_run owner e))) same ∙ run_has owner e plain o.block (span_of o.block two.1)) ∙ out))
          by true h false k = refl
          by false h s k = refl

  -- and one of the run weighs nothing
  none_in : is_inode owner ≡ false → has (tuples_of (plain_run owner e)) t ≡ true → (os : List Owned) → weigh (limbo_weight (is_owner t)) (filter left_in os) ≡ 0
  none_in plain h os = weigh_filter (limbo_weight (is_owner t)) left_in os ∙ weigh_none (λ o. if left_in o then limbo_weight (is_owner t) o else 0) os each
    where
      inside : (in_span e.block e.count t.block ≡ true) × (t.owner ≡ owner)
      inside = run_inside owner e t h

      each : (o : Owned) → (if left_in o then limbo_weight (is_owner t) o else 0) ≡ 0
      each o = by (is_same t (tuple_for o)) refl
        where
          none : (z : Bool) → z ≡ true → ◌≡◌ {A = ℕ} (if not z then 1 else 0) 0
          none true k = refl
          none false k = absurd (false≢true k)

          zero : (z : Bool) → ◌≡◌ {A = ℕ} (if z then 0 else 0) 0
          zero true = refl
          zero false = refl

          by : (s : Bool) → is_same t (tuple_for o) ≡ s → ◌≡◌ {A = ℕ} (if left_in o then (if s then 1 else 0) else 0) 0
          by true k =
              let same = same_is t (tuple_for o) k in
              none (is_of_run owner e o) (ap₂ (λ (y z : Bool). y && z) (eq-eqb o.owner owner (sym (ap (λ (u : Tuple). u.owner) same) ∙ inside.1)) (subst (λ b. is_in_extent e b ≡ true) (ap (λ (u : Tuple). u.block) same) inside.0))
          by false k = zero (left_in o)

-- ---- the group

reap_parts : (left : List Kind) (owner : ℕ) (e : Extent) (p : Group) → SameParts (leave_limbo owner e p) (reap_in left owner e p)
reap_parts left owner e p = by (joins_no_space owner e p)
  where
    one : SameParts (leave_limbo owner e p) (take_owner left owner e (leave_limbo owner e p))
    one = edit_parts left Rmap (take_mapping (plain_run owner e)) (leave_limbo owner e p)

    by : (t : Bool) → SameParts (leave_limbo owner e p) (cond t (take_owner left owner e (leave_limbo owner e p)) (give_free left e (take_owner left owner e (leave_limbo owner e p))))
    by true = one
    by false =
        let two = given_parts left e (take_owner left owner e (leave_limbo owner e p)) in
        record { list = two.list ∙ one.list; blocks = λ k. two.blocks k ∙ one.blocks k; reserve = two.reserve ∙ one.reserve; limbo = two.limbo ∙ one.limbo }

reap_maps : (left : List Kind) (owner : ℕ) (e : Extent) (p : Group) → IsWritten left p → records_in (reap_in left owner e p) Rmap ≡ take_mapping (plain_run owner e) (records_in p Rmap)
reap_maps left owner e p w = by (joins_no_space owner e p)
  where
    taken : records_in (take_owner left owner e (leave_limbo owner e p)) Rmap ≡ take_mapping (plain_run owner e) (records_in p Rmap)
    taken = edited_recs left (take_mapping (plain_run owner e)) (leave_limbo owner e p) (record { edited = w.edited; readable = w.readable })

    by : (t : Bool) → records_in (cond t (take_owner left owner e (leave_limbo owner e p)) (give_free left e (take_owner left owner e (leave_limbo owner e p)))) Rmap ≡ take_mapping (plain_run owner e) (records_in p Rmap)
    by true = taken
    by false = ap (λ (t : Index (RecOf Rmap)). recs_of t.reading) (given_space left Rmap e (take_owner left owner e (leave_limbo owner e p)) refl refl) ∙ taken

reaped_in : (left : List Kind) (owner : ℕ) (e : Extent) (a : State) → (reaped left owner e a).group e.group ≡ reap_in left owner e (a.group e.group)
unfolding reaped
reaped_in left owner e a = in_itself e.group (reap_in left owner e) a

-- ---- settled owners

module _ (a x : State) (left : List Kind) (e : Extent) (fit : HasFitting a.geometry) (made : IsMadeInWords a x left (entries.Reaped e)) (chunk : LeavesChunks a (entries.Reaped e)) (k : LeavesLimbo left a x e (owner_of_run (a.group e.group) e)) where
  abbrev g : ℕ
  g = e.group

  abbrev p : Group
  p = a.group e.group

  abbrev owner : ℕ
  owner = owner_of_run (a.group e.group) e

  abbrev entry : Entry
  entry = entries.Reaped e

  group_now : x.group g ≡ reap_in left owner e p
  group_now = ap (λ (s : State). s.group e.group) made.made.row.1 ∙ reaped_in left owner e a

  parts : SameParts (leave_limbo owner e p) (x.group g)
  parts = subst (SameParts (leave_limbo owner e p)) (sym group_now) (reap_parts left owner e p)

  at : x.geometry ≡ a.geometry
  at = (beside.decided a x left entry made.made.row).geometry

  stay : ChunksStay a x
  stay = chunk_rows.decided a x left entry fit made.made.row chunk

  forks_same : settled_forks x g ≡ settled_forks a g
  forks_same = other_entries_keep a x left entry g fit (decided_stands a x left entry made.made.row made.made.leaves made.made.met made.words) chunk

  abbrev steady : List Owned
  steady = map (with_owner (number_of Ag)) p.free_list ++ flat_map (λ j. map (with_owner (tree_owner j)) (tree_blocks p j)) all_kinds

  abbrev front : Tuple → ℕ
  front t = weigh (is_owner t) (front_part a.geometry g)

  abbrev others : Tuple → ℕ
  others t = weigh (limbo_weight (is_owner t)) steady

  abbrev kept : Tuple → ℕ
  kept t = weigh (limbo_weight (is_owner t)) p.reserve

  abbrev unit_part : Tuple → ℕ
  unit_part t = weigh (is_owner t) (chunk_part (chunks a g))

  abbrev waiting : Tuple → List Owned → ℕ
  waiting t os = weigh (limbo_weight (is_owner t)) os

  abbrev rest : List Owned
  rest = filter (λ o. not (is_of_run owner e o)) p.limbo

  owns_before : (t : Tuple) → has (settled_own a g) t ≡ (nat_lt 0 (front t + (others t + waiting t p.limbo) + kept t + unit_part t) || has (settled_forks a g) t)
  owns_before t =
      settled_is a g t ∙ ap (λ (z : Bool). z || has (settled_forks a g) t) (has_weight (metadata_claims a g) t ∙ ap (nat_lt 0) (metadata_is (is_owner t) (owner_plain t) a g)
      ∙ ap (λ n. nat_lt 0 (front t + n + kept t + unit_part t)) (weigh_both (limbo_weight (is_owner t)) steady p.limbo))

  owns_then : (t : Tuple) → has (settled_own x g) t ≡ (nat_lt 0 (front t + (others t + waiting t rest) + kept t + unit_part t) || has (settled_forks a g) t)
  owns_then t =
      settled_is x g t
      ∙ ap₂ (λ (y z : Bool). y || z)
      (has_weight (metadata_claims x g) t ∙ ap (nat_lt 0) (metadata_is (is_owner t) (owner_plain t) x g)
      ∙ (λ i. nat_lt 0 (weigh (is_owner t) (front_part (at i) g)
      + weigh (limbo_weight (is_owner t)) (map (with_owner (number_of Ag)) (parts.list i) ++ flat_map (λ j. map (with_owner (tree_owner j)) (parts.blocks j i)) all_kinds ++ parts.limbo i)
      + weigh (limbo_weight (is_owner t)) (parts.reserve i) + weigh (is_owner t) (chunk_part (same_chunks a x at stay g i))))
      ∙ ap (λ n. nat_lt 0 (front t + n + kept t + unit_part t)) (weigh_both (limbo_weight (is_owner t)) steady rest))
      (ap (λ ts. has ts t) forks_same)

  -- a tuple of the run waits in limbo
  waits : (t : Tuple) → has (tuples_of (plain_run owner e)) t ≡ true → 1 ≤ waiting t p.limbo
  waits t h =
      let inside = run_inside owner e t h in
      let l = in_bounds e.block e.count t.block inside.0 in
      let there : has_owned p.limbo (with_owner owner t.block) ≡ true = each_number (λ b. has_owned p.limbo (with_owner owner b)) e.block e.count t.block made.made.row.0.in_limbo l.0 l.1 in
      positive (waiting t p.limbo) (sym (has_pairs p.limbo t) ∙ ap (has (map tuple_for p.limbo)) (run_tuple owner e k.plain t h) ∙ owned_has p.limbo (with_owner owner t.block) ∙ there)
    where
      positive : (n : ℕ) → nat_lt 0 n ≡ true → 1 ≤ n
      positive n h = grind (arith, nat_tests)

  -- nothing else has its block
  nothing_else : (t : Tuple) → has (tuples_of (plain_run owner e)) t ≡ true → front t + others t + kept t + unit_part t ≡ 0
  nothing_else t h =
      let b : ℕ = t.block in
      let inside = run_inside owner e t h in
      let some = waits t h in
      let l0 = weigh_less (limbo_weight (is_owner t)) (limbo_weight (owned_by b)) p.limbo (λ o. owner_less t (claimed_by Limbo o.owner o.block)) in
      let split = weigh_both (limbo_weight (owned_by b)) steady p.limbo in
      let those = owned_times b (owners_in p) in
      let one = stands_alone a g b (k.sound b inside.0) (omega (arith, some, l0, split, those)) in
      let owned = owned_sum b (claims a g) in
      let all = total_is (owned_by b) (owned_plain b) a g in
      let l1 = weigh_less (is_owner t) (owned_by b) (front_part a.geometry g) (owner_less t) in
      let l2 = weigh_less (limbo_weight (is_owner t)) (limbo_weight (owned_by b)) steady (λ o. owner_less t (claimed_by Limbo o.owner o.block)) in
      let l3 = weigh_less (limbo_weight (is_owner t)) (limbo_weight (owned_by b)) p.reserve (λ o. owner_less t (claimed_by Limbo o.owner o.block)) in
      let l4 = weigh_less (is_owner t) (owned_by b) (chunk_part (chunks a g)) (owner_less t) in
      sums _ _ _ _ _ _ _ _ _ _ _ _ _ _ owned all split some l0 one l1 l2 l3 l4
    where
      sums : (n w f o r c v d z s f' q' r' c' : ℕ) → n ≡ w → w ≡ f + o + r + c + v → o ≡ z + d → 1 ≤ s → s ≤ d → n ≡ 1 → f' ≤ f → q' ≤ z → r' ≤ r → c' ≤ c → f' + q' + r' + c' ≡ 0
      sums n w f o r c v d z s f' q' r' c' e1 e2 e3 e4 e5 e6 l1 l2 l3 l4 = omega (arith, e1, e2, e3, e4, e5, e6, l1, l2, l3, l4)

  there : (t : Tuple) → has (tuples_of (plain_run owner e)) t ≡ true → has (settled_own a g) t ≡ true
  there t h = owns_before t ∙ ap (λ (z : Bool). z || has (settled_forks a g) t) (more (front t) (others t) (waiting t p.limbo) (kept t) (unit_part t) (waits t h))
    where
      more : (f o w r c : ℕ) → 1 ≤ w → nat_lt 0 (f + (o + w) + r + c) ≡ true
      more f o w r c l = grind (arith, nat_tests)

  each : (t : Tuple) → has (settled_own x g) t ≡ (has (settled_own a g) t && not (has (tuples_of (plain_run owner e)) t))
  each t = by (has (tuples_of (plain_run owner e)) t) refl
    where
      out : (z : Bool) → false ≡ (z && false)
      out true = refl
      out false = refl

      all : (z : Bool) → z ≡ (z && true)
      all true = refl
      all false = refl

      none : (f o w r c : ℕ) → f + o + r + c ≡ 0 → w ≡ 0 → nat_lt 0 (f + (o + w) + r + c) ≡ false
      none f o w r c d z = grind (arith, nat_tests)

      by : (s : Bool) → has (tuples_of (plain_run owner e)) t ≡ s → has (settled_own x g) t ≡ (has (settled_own a g) t && not s)
      by true h =
          owns_then t
          ∙ ap₂ (λ (y z : Bool). y || z) (none (front t) (others t) (waiting t rest) (kept t) (unit_part t) (nothing_else t h) (none_in t owner e k.plain h p.limbo)) (k.forks t (run_inside owner e t h).0)
          ∙ out (has (settled_own a g) t)
      by false h =
          owns_then t ∙ ap (λ n. nat_lt 0 (front t + (others t + n) + kept t + unit_part t) || has (settled_forks a g) t) (stays_in t owner e k.plain h p.limbo)
          ∙ sym (owns_before t) ∙ all (has (settled_own a g) t)

  leaves_told : AreTold a g → AreTold x g
  leaves_told told =
      subst (AreRuns (settled_own x g)) (sym (ap (λ (r : Group). records_in r Rmap) group_now ∙ reap_maps left owner e p k.written))
      (mapping_taken (settled_own a g) (settled_own x g) (mappings a g) (plain_run owner e) k.ends k.untied (run_taken (settled_own a g) (settled_own x g) (plain_run owner e) there each) told)

pub reaped_told : ReapedTold
reaped_told a x left e fit made chunk k told = leaves_told a x left e fit made chunk k told

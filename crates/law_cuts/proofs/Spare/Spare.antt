-- A spare block that a rebuild reserves: settled owners gain it, and mappings follow
-- or don't.
use Rattle.std.proofs.Common.{◌≡◌, ℕ, ◌+◌, ◌<◌, ◌≤◌, ◌==◌, ◌&&◌, ◌||◌, Bool, true, false, not, nat_lt, List, [], ◌∷◌, ◌++◌, filter, flat_map, map, Contains, refl, sym, ap, ap₂, subst, ◌∙◌, inl, inr, arith, eqb-true, eq-eqb}
use Rattle.std.specs.Prelude.{◌⊎◌, ◌^◌, ◌/◌, if◌then◌else◌}
use Rattle.std.specs.List.{list_all}
use Rattle.std.proofs.lemmas.Bool.{and_parts, cases_order, false≢true, lt-ltb, true≢false}
use Rattle.std.proofs.lemmas.Bool.Decides.{nat_tests}
use Rattle.law_accounts.proofs.Account.Mappings.{edited_recs}
use Rattle.law_accounts.proofs.Account.Spans.{no_true}
use Rattle.law_accounts.specs.Account.Accounts.{in_span}
use Rattle.law_accounts.specs.Account.Stated.{ChunksStay}
use Rattle.law_accounts.specs.Account.Steps.{IsWritten}
use Rattle.law_writers.proofs.Change.Rows as chunk_rows
use Rattle.law_writers.proofs.Change.Settled.{other_entries_keep}
use Rattle.law_cuts.proofs.Cut.Told.{given_runs, tuple_for}
use Rattle.fs_change.proofs.Beside as beside
use Rattle.fs_change.proofs.Sets.{has_of, has_passing, of_has, same_is}
use Rattle.fs_change.proofs.Trees.{spaced}
use Rattle.fs_change.specs.Chains.{settled_forks, settled_own}
use Rattle.fs_change.specs.Changes.{block_extent, give_owner, plain_run, take_free}
use Rattle.fs_change.specs.Edited.{may_leave}
use Rattle.fs_change.specs.Choice.{in_spans, is_spare}
use Rattle.fs_change.specs.Loose.{owners_in, pool_of}
use Rattle.fs_change.specs.Met.{give_each}
use Rattle.fs_change.specs.Parts.{is_sick, records_in, sick_in}
use Rattle.fs_change.specs.Records.{give_mapping}
use Rattle.fs_change.specs.Step.{Step}
use Rattle.fs_change.specs.Switch.{unit_owner}
use Rattle.fs_state.specs.Chunks.{chunks}
use Rattle.fs_state.specs.Claims.{metadata_claims}
use Rattle.fs_state.specs.Derive.{bno_of, mappings}
use Rattle.fs_state.specs.Records.{all_kinds}
use Rattle.fs_model.specs.declared.entry.Entry.{Entry}
use Rattle.fs_model.specs.declared.entry.Entry.TheVariants as entries
use Rattle.fs_model.specs.declared.unit.Unit.{Unit as ScrubUnit}
use Rattle.fs_model.specs.declared.unit.Unit.TheVariants as units
use Rattle.fs_state.specs.Apart.{is_chunk}
use Rattle.fs_state.specs.Group.{is_among}
use Rattle.fs_state.specs.Kinds.{RecOf}
use Rattle.fs_state.specs.State.{Group, Index, Owned, State, blocks_in, is_readable, recs_of}
use Rattle.geom.specs.Apart.{HasFitting}
use Rattle.law_repairs.proofs.Move.Claiming.{metadata_is, owner_plain}
use Rattle.law_accounts.proofs.Owner.Members.{runs_by, same_chunks, settled_is}
use Rattle.law_accounts.specs.Owner.Nobodys.{IsNobodys}
use Rattle.law_accounts.specs.Owner.Told.{AreTold}
use Rattle.law_repairs.proofs.Repair.Totals.{chunk_part, front_part, has_weight, is_owner, limbo_weight, weigh, weigh_both}
use Rattle.law_repairs.proofs.Reserve.OwnGroup.{held_now}
use Rattle.law_repairs.proofs.Reserve.Owning.{SameHeld, same_owners}
use Rattle.law_repairs.proofs.Reserve.Reserved.{gets_owner, is_found, none_sick_there, spare_uncovered}
use Rattle.law_repairs.proofs.Reserve.Reserving.{reserve_grows, reserved_group, reserved_in, with_reserve}
use Rattle.rmap_recs.specs.Rmap.{is_key_before}
use Rattle.rmap_recs.specs.Runs.{AreRuns, has, is_same, is_tuple_before}
use Rattle.rmap_recs.specs.declared.tuples.Tuple.{Tuple}
use Rattle.run_edits.specs.EditLaws.{AreUntied}
use Rattle.sblock.specs.declared.kind.Kind.{Kind}
use Rattle.sblock.specs.declared.kind.Kind.TheVariants.{Rmap}
use Rattle.tree_defs.specs.Lists.{AllDiffer, is_in, times}
use Rattle.law_cuts.specs.Spare.Spare.{AreToldBut, IsUnnoted, SpareAgain, SpareDecides, SpareElsewhere, SpareNoChunk, SpareNobodys, SpareTells, UnnotedNobodys, UnnotedOwesNone, UnnotedOwns, UnnotedTells, UnnotedUnclaimed, is_noting, reserved_owner}
use Rattle.law_cuts.proofs.Spare.Cut.{SameOwners, decided_forks, in_others, own_cut, pool_cut, reserve_own, same_own, told_same, turned_back}
use Rattle.law_cuts.proofs.Spare.Elsewhere.{elsewhere_told}
use Rattle.law_cuts.proofs.Spare.Whose.{beside_unowned, has_next, no_chunk, no_owner, nobodys_chunk, owed_settled, row_unclaimed, row_unowned, sound_uncovered, told_written, unclaimed_chunk, unclaimed_nobodys, unclaimed_parts, unowned}

abbrev pair : ℕ → ℕ → Owned
pair owner b = record { block = b; owner = owner }

abbrev bit : Tuple → Owned → ℕ
bit t o = if is_same t (tuple_for o) then 1 else 0

-- ---- settled owners gain the block

module _ (a z : State) (left : List Kind) (g b : ℕ) (unit : ScrubUnit) (fit : HasFitting a.geometry) (s : Step a left (entries.Reserved g unit b true) z) (out : is_chunk a g (b / 8) ≡ false) where
  abbrev entry : Entry
  entry = entries.Reserved g unit b true

  abbrev x : State
  x = s.decided

  abbrev new : Owned
  new = pair (unit_owner unit) b

  at : x.geometry ≡ a.geometry
  at = (beside.decided a x left entry s.row).geometry

  stay : ChunksStay a x
  stay = chunk_rows.decided a x left entry fit s.row out

  grows : (x.group g).reserve ≡ (a.group g).reserve ++ new ∷ []
  grows = ap (λ (y : State). (y.group g).reserve) s.row.1 ∙ ap (λ (p : Group). p.reserve) (reserved_in left g unit b true a) ∙ reserve_grows left g b (a.group g) unit true

  pub held : SameHeld (a.group g) (x.group g)
  held = subst (λ (y : State). SameHeld (a.group g) (y.group g)) (sym s.row.1) (held_now a left g unit b)

  pub forks : settled_forks x g ≡ settled_forks a g
  forks = decided_forks a z left entry fit s g ∙ other_entries_keep a z left entry g fit s out

  pub maps_by : mappings x g ≡ records_in (reserved_group left g unit b true (a.group g)) Rmap
  maps_by = ap (λ (y : State). mappings y g) s.row.1 ∙ ap (λ (p : Group). records_in p Rmap) (reserved_in left g unit b true a)

  pub pool_once : AllDiffer (pool_of (a.group g)) → AllDiffer (pool_of (x.group g))
  pool_once once = subst AllDiffer (λ i. sym held.list i ++ flat_map (λ k. sym (held.blocks k) i) all_kinds ++ blocks_in (sym held.limbo i)) once

  abbrev front : Tuple → ℕ
  front t = weigh (is_owner t) (front_part a.geometry g)

  abbrev pooled : Tuple → ℕ
  pooled t = weigh (limbo_weight (is_owner t)) (owners_in (a.group g))

  abbrev kept : Tuple → ℕ
  kept t = weigh (limbo_weight (is_owner t)) (a.group g).reserve

  abbrev unit_part : Tuple → ℕ
  unit_part t = weigh (is_owner t) (chunk_part (chunks a g))

  abbrev of_forks : Tuple → Bool
  of_forks t = has (settled_forks a g) t

  owns_before : (t : Tuple) → has (settled_own a g) t ≡ (nat_lt 0 (front t + pooled t + kept t + unit_part t) || of_forks t)
  owns_before t = settled_is a g t ∙ ap (λ (y : Bool). y || of_forks t) (has_weight (metadata_claims a g) t ∙ ap (nat_lt 0) (metadata_is (is_owner t) (owner_plain t) a g))

  owns_then : (t : Tuple) → has (settled_own x g) t ≡ (nat_lt 0 (front t + pooled t + (kept t + (bit t new + 0)) + unit_part t) || of_forks t)
  owns_then t =
      settled_is x g t
      ∙ ap₂ (λ (y w : Bool). y || w)
      (has_weight (metadata_claims x g) t ∙ ap (nat_lt 0) (metadata_is (is_owner t) (owner_plain t) x g)
      ∙ (λ i. nat_lt 0 (weigh (is_owner t) (front_part (at i) g) + weigh (limbo_weight (is_owner t)) (same_owners (a.group g) (x.group g) held i) + weigh (limbo_weight (is_owner t)) (grows i) + weigh (is_owner t) (chunk_part (same_chunks a x at stay g i))))
      ∙ ap (λ n. nat_lt 0 (front t + pooled t + n + unit_part t)) (weigh_both (limbo_weight (is_owner t)) (a.group g).reserve (new ∷ [])))
      (ap (λ ts. has ts t) forks)

  pub gains : (t : Tuple) → has (settled_own x g) t ≡ (is_same t (tuple_for new) || has (settled_own a g) t)
  gains t = owns_then t ∙ by (is_same t (tuple_for new)) ∙ ap (λ (y : Bool). is_same t (tuple_for new) || y) (sym (owns_before t))
    where
      more : (f o r c : ℕ) → nat_lt 0 (f + o + (r + (1 + 0)) + c) ≡ true
      more f o r c = grind (arith, nat_tests)

      none : (f o r c : ℕ) → f + o + (r + (0 + 0)) + c ≡ f + o + r + c
      none f o r c = omega arith

      by : (k : Bool) → (nat_lt 0 (front t + pooled t + (kept t + ((if k then 1 else 0) + 0)) + unit_part t) || of_forks t) ≡ (k || (nat_lt 0 (front t + pooled t + kept t + unit_part t) || of_forks t))
      by true = ap (λ (y : Bool). y || of_forks t) (more (front t) (pooled t) (kept t) (unit_part t))
      by false = ap (λ n. nat_lt 0 n || of_forks t) (none (front t) (pooled t) (kept t) (unit_part t))

-- ---- one more owner ties with none, where its block had none

apart : (t u : Tuple) → (t.block == u.block) ≡ false → (is_tuple_before t u ≡ true) ⊎ (is_tuple_before u t ≡ true)
unfolding is_key_before
apart t u h = elim (cases_order t.block u.block) [
  | inl e ↦ absurd (true≢false (sym (eq-eqb t.block u.block e) ∙ h))
  | inr (inl l) ↦ inl (first (nat_lt t.block u.block) _ (lt-ltb t.block u.block l))
  | inr (inr l) ↦ inr (first (nat_lt u.block t.block) _ (lt-ltb u.block t.block l))
]
  where
    first : (p q : Bool) → p ≡ true → (p || q) ≡ true
    first true q e = refl
    first false q e = absurd (false≢true e)

untied_with : (ts us : List Tuple) (n : Tuple) → ((t : Tuple) → has us t ≡ (is_same t n || has ts t)) → ((t : Tuple) → has ts t ≡ true → (t.block == n.block) ≡ false) → AreUntied ts → AreUntied us
untied_with ts us n gains none untied t u c d = by (is_same t n) refl (is_same u n) refl
  where
    rest : (v : Tuple) → Contains us v → is_same v n ≡ false → has ts v ≡ true
    rest v e f = sym (gains v ∙ ap (λ (y : Bool). y || has ts v) f) ∙ has_of us v e

    turn : (v : Tuple) → (v.block == n.block) ≡ false → (n.block == v.block) ≡ false
    turn v e = no_true (n.block == v.block) (λ k. true≢false (sym (eq-eqb v.block n.block (sym (eqb-true n.block v.block k))) ∙ e))

    by : (p : Bool) → is_same t n ≡ p → (q : Bool) → is_same u n ≡ q → (t ≡ u) ⊎ ((is_tuple_before t u ≡ true) ⊎ (is_tuple_before u t ≡ true))
    by true e true f = inl (same_is t n e ∙ sym (same_is u n f))
    by true e false f = inr (subst (λ (v : Tuple). (is_tuple_before v u ≡ true) ⊎ (is_tuple_before u v ≡ true)) (sym (same_is t n e)) (apart n u (turn u (none u (rest u d f)))))
    by false e true f = inr (subst (λ (v : Tuple). (is_tuple_before t v ≡ true) ⊎ (is_tuple_before v t ≡ true)) (sym (same_is u n f)) (apart t n (none t (rest t c e))))
    by false e false f = untied t u (of_has ts t (rest t c e)) (of_has ts u (rest u d f))

untied_same : (ts us : List Tuple) → ((t : Tuple) → has us t ≡ has ts t) → AreUntied ts → AreUntied us
untied_same ts us same untied t u c d = untied t u (of_has ts t (sym (same t) ∙ has_of us t c)) (of_has ts u (sym (same u) ∙ has_of us u d))

-- ---- any rebuild

not_in_span : (b k : ℕ) → in_span b 1 k ≡ false → (k == b) ≡ false
not_in_span b k h = grind (arith, nat_tests)

pub spare_again : SpareAgain
spare_again a z left g b unit fit s nobody untied once =
    let e : Entry = entries.Reserved g unit b true in
    let out : is_chunk a g (b / 8) ≡ false = nobodys_chunk a g b nobody in
    let kept : AllDiffer (pool_of (s.decided.group g)) = pool_once a z left g b unit fit s out once in
    let decided : AreUntied (settled_own s.decided g) = untied_with (settled_own a g) (settled_own s.decided g) (tuple_for (pair (unit_owner unit) b)) (gains a z left g b unit fit s out) (λ t h. not_in_span b t.block (nobody t h)) untied in (
      untied_same (settled_own s.decided g) (settled_own z g) (same_own s.decided z g (own_cut a z left e fit s (reserve_own unit true) kept)) decided,
      λ k. let same = pool_cut a z left e fit s k in let most = kept k in omega (arith, same, most),
    )

-- ---- a rebuild that isn't of reverse mappings

gets_one : (unit : ScrubUnit) → is_noting unit ≡ true → gets_owner unit ≡ true
gets_one units.Inode h = refl
gets_one units.Free h = refl
gets_one units.Refc h = refl
gets_one units.Rmap h = absurd (false≢true h)

pub spare_nobodys : SpareNobodys
spare_nobodys a x left g b unit notes row told = no_owner (settled_own a g) (mappings a g) b told (spare_uncovered a g unit b (gets_one unit notes) (is_found a g unit b row.0.2))

pub spare_no_chunk : SpareNoChunk
spare_no_chunk a x left g b units.Inode row told = unclaimed_chunk a g b (row_unowned a g b (sym (beside_unowned a g b).0 ∙ is_found a g units.Inode b row.0.2))
spare_no_chunk a x left g b units.Refc row told = unclaimed_chunk a g b (row_unowned a g b (sym (beside_unowned a g b).1 ∙ is_found a g units.Refc b row.0.2))
spare_no_chunk a x left g b units.Free row told = nobodys_chunk a g b (spare_nobodys a x left g b units.Free refl row (told refl))
spare_no_chunk a x left g b units.Rmap row told = no_chunk a g b (λ t at. (unclaimed_parts a g b (row_unclaimed a g b (is_found a g units.Rmap b row.0.2)) t at).0)

pub spare_elsewhere : SpareElsewhere
spare_elsewhere a z left g b h unit fit s told out there = elsewhere_told a z left (entries.Reserved g unit b true) h fit s (spare_no_chunk a s.decided left g b unit s.row told) out there

not_sick : (a : State) (g b : ℕ) (unit : ScrubUnit) → is_noting unit ≡ true → is_spare a g unit b ≡ true → sick_in (a.group g) Rmap ≡ false
unfolding is_spare
not_sick a g b units.Inode notes h = (none_sick_there a g units.Inode b refl h).2
not_sick a g b units.Refc notes h = (none_sick_there a g units.Refc b refl h).2
not_sick a g b units.Rmap notes h = absurd (false≢true notes)
not_sick a g b units.Free notes h = by (sick_in (a.group g) Rmap) (and_parts (not (sick_in (a.group g) Rmap)) (in_spans (bno_of a g) b) h).0
  where
    by : (k : Bool) → not k ≡ true → k ≡ false
    by true e = absurd (false≢true e)
    by false e = refl

not_left : (ks : List Kind) → list_all (λ k. is_among k []) ks ≡ true → is_among Rmap ks ≡ false
not_left [] h = refl
not_left (k ∷ ks) h = absurd (false≢true h)

-- the mappings of a group, written once more
module _ (left : List Kind) (g b : ℕ) (p : Group) (w : IsWritten left p) where
  written : (q : Group) → q.tree Rmap ≡ p.tree Rmap → IsWritten left q
  written q same = record {
    edited = ap (λ (t : Index (RecOf Rmap)). if is_sick t.trust then false else if is_among Rmap left then false else true) same ∙ w.edited;
    readable = ap (λ (t : Index (RecOf Rmap)). is_readable t.reading) same ∙ w.readable;
  }

  given : (owner : ℕ) (q : Group) → q.tree Rmap ≡ p.tree Rmap → records_in (give_owner left owner (block_extent g b) q) Rmap ≡ give_each (pair owner b ∷ []) (records_in p Rmap)
  given owner q same =
      edited_recs left (give_mapping (plain_run owner (block_extent g b))) q (written q same)
      ∙ ap (λ (t : Index (RecOf Rmap)). give_mapping (plain_run owner (block_extent g b)) (recs_of t.reading)) same

  noted_maps : (unit : ScrubUnit) → is_noting unit ≡ true → records_in (reserved_group left g unit b true p) Rmap ≡ give_each (pair (unit_owner unit) b ∷ []) (records_in p Rmap)
  noted_maps units.Free notes = given (unit_owner units.Free) (with_reserve units.Free b p) refl
  noted_maps units.Inode notes = given (unit_owner units.Inode) (take_free left (block_extent g b) (with_reserve units.Inode b p)) (spaced left Rmap (block_extent g b) (with_reserve units.Inode b p) refl refl)
  noted_maps units.Refc notes = given (unit_owner units.Refc) (take_free left (block_extent g b) (with_reserve units.Refc b p)) (spaced left Rmap (block_extent g b) (with_reserve units.Refc b p) refl refl)
  noted_maps units.Rmap notes = absurd (false≢true notes)

module _ (a z : State) (left : List Kind) (g b : ℕ) (unit : ScrubUnit) (notes : is_noting unit ≡ true) (fit : HasFitting a.geometry) (s : Step a left (entries.Reserved g unit b true) z) (kept : (unit ≡ units.Free) ⊎ (is_among Rmap left ≡ false))
    (untied : AreUntied (settled_own a g)) (told : AreTold a g) where
  abbrev new_owner : Owned
  new_owner = pair (unit_owner unit) b

  nobody : IsNobodys a (block_extent g b)
  nobody = spare_nobodys a s.decided left g b unit notes s.row told

  pub spare_chunk : is_chunk a g (b / 8) ≡ false
  spare_chunk = nobodys_chunk a g b nobody

  owns : (t : Tuple) → has (settled_own s.decided g) t ≡ has (map tuple_for (new_owner ∷ []) ++ settled_own a g) t
  owns t = gains a z left g b unit fit s spare_chunk t

  none_there : (t : Tuple) → has (settled_own a g) t ≡ true → (t.block == b) ≡ false
  none_there t h = not_in_span b t.block (nobody t h)

  kept_by : is_among Rmap left ≡ false
  kept_by = elim kept [
    | inl free ↦ not_left left (subst (λ (u : ScrubUnit). list_all (λ k. is_among k (may_leave a (entries.Reserved g u b true))) left ≡ true) free s.leaves)
    | inr none ↦ none
  ]

  maps : mappings s.decided g ≡ give_each (new_owner ∷ []) (mappings a g)
  maps = maps_by a z left g b unit fit s spare_chunk ∙ noted_maps left g b (a.group g) (told_written a left g told (not_sick a g b unit notes (is_found a g unit b s.row.0.2)) kept_by) unit notes

  pub noted : AreTold s.decided g
  noted =
      subst (AreRuns (settled_own s.decided g)) (sym maps)
      (runs_by (map tuple_for (new_owner ∷ []) ++ settled_own a g) (settled_own s.decided g) owns (give_each (new_owner ∷ []) (mappings a g))
      (given_runs (settled_own a g) (settled_own s.decided g) (mappings a g) (new_owner ∷ []) once_in fresh
      (untied_with (settled_own a g) (settled_own s.decided g) (tuple_for new_owner) owns none_there untied) (λ t h. owns t ∙ h) told))
    where
      once_in : (k : ℕ) → times k (blocks_in (new_owner ∷ [])) ≤ 1
      once_in k = by (b == k)
        where
          by : (t : Bool) → (if t then 1 else 0) + 0 ≤ 1
          by true = omega arith
          by false = omega arith

      or_none : (y : Bool) → (y || false) ≡ y
      or_none true = refl
      or_none false = refl

      fresh : (t : Tuple) → has (map tuple_for (new_owner ∷ [])) t ≡ true → (t.block < 2 ^ 32) × (has (settled_own a g) t ≡ false)
      fresh t h =
          let at : t.block ≡ b = ap (λ (u : Tuple). u.block) (same_is t (tuple_for new_owner) (sym (or_none (is_same t (tuple_for new_owner))) ∙ h)) in (
            subst (λ n. n < 2 ^ 32) (sym at) (has_next a g b unit fit s.row.0.2),
            no_true (has (settled_own a g) t) (λ k. true≢false (sym (eq-eqb t.block b at) ∙ none_there t k)),
          )

pub spare_decides : SpareDecides
spare_decides a z left g b h unit notes fit s kept untied told there = by (h == g) refl
  where
    by : (t : Bool) → (h == g) ≡ t → AreTold s.decided h
    by true e = subst (AreTold s.decided) (sym (eqb-true h g e)) (noted a z left g b unit notes fit s kept untied told)
    by false e =
        told_same z s.decided h (turned_back s.decided z h (in_others a z left (entries.Reserved g unit b true) fit s h e))
        (elsewhere_told a z left (entries.Reserved g unit b true) h fit s (spare_chunk a z left g b unit notes fit s kept untied told) e there)

pub spare_tells : SpareTells
spare_tells a z left g b h unit notes fit s kept untied once told there = by (h == g) refl
  where
    out : is_chunk a g (b / 8) ≡ false
    out = spare_chunk a z left g b unit notes fit s kept untied told

    by : (t : Bool) → (h == g) ≡ t → AreTold z h
    by true e =
        subst (AreTold z) (sym (eqb-true h g e))
        (told_same s.decided z g (own_cut a z left (entries.Reserved g unit b true) fit s (reserve_own unit true) (pool_once a z left g b unit fit s out once)) (noted a z left g b unit notes fit s kept untied told))
    by false e = elsewhere_told a z left (entries.Reserved g unit b true) h fit s out e there

-- ---- a rebuild of reverse mappings

pub unnoted_unclaimed : UnnotedUnclaimed
unnoted_unclaimed a x left g b row = unowned a g b (row_unclaimed a g b (is_found a g units.Rmap b row.0.2))

pub unnoted_nobodys : UnnotedNobodys
unnoted_nobodys a x left g b row owes = unclaimed_nobodys a g b (row_unclaimed a g b (is_found a g units.Rmap b row.0.2)) owes

pub unnoted_owes_none : UnnotedOwesNone
unnoted_owes_none a x left g b bs row sound out told t h = no_true (t.block == b) (λ e.
    let at : t.block ≡ b = eqb-true t.block b e in
    let kept : has (filter (λ v. not (is_in v.block bs)) (settled_own a g)) t ≡ true =
    has_passing (λ v. not (is_in v.block bs)) (settled_own a g) t ∙ ap₂ (λ (y w : Bool). y && not w) (owed_settled a g t h) (ap (λ n. is_in n bs) at ∙ out) in
    true≢false
    (sym (eq-eqb t.block b at)
    ∙ not_in_span b t.block (no_owner (filter (λ v. not (is_in v.block bs)) (settled_own a g)) (mappings a g) b told (sound_uncovered a g b (is_found a g units.Rmap b row.0.2) sound) t kept)))

module _ (a z : State) (left : List Kind) (g b : ℕ) (fit : HasFitting a.geometry) (s : Step a left (entries.Reserved g units.Rmap b true) z) where
  rmap_chunk : is_chunk a g (b / 8) ≡ false
  rmap_chunk = spare_no_chunk a s.decided left g b units.Rmap s.row (λ e. absurd (false≢true (ap is_noting e)))

  maps_stay : mappings s.decided g ≡ mappings a g
  maps_stay =
      maps_by a z left g b units.Rmap fit s rmap_chunk
      ∙ ap (λ (t : Index (RecOf Rmap)). recs_of t.reading) (spaced left Rmap (block_extent g b) (with_reserve units.Rmap b (a.group g)) refl refl)

  pub unnoted : AllDiffer (pool_of (a.group g)) → IsUnnoted a z g b
  unnoted once =
      let same : SameOwners s.decided z g = own_cut a z left (entries.Reserved g units.Rmap b true) fit s refl (pool_once a z left g b units.Rmap fit s rmap_chunk once) in
      record {
        maps = same.maps ∙ maps_stay;
        forks = λ t. same.forks t ∙ ap (λ ts. has ts t) (forks a z left g b units.Rmap fit s rmap_chunk);
        owns = λ t. same_own s.decided z g same t ∙ gains a z left g b units.Rmap fit s rmap_chunk t;
      }

pub unnoted_owns : UnnotedOwns
unnoted_owns a z left g b fit s once = unnoted a z left g b fit s once

module _ (a z : State) (g b : ℕ) (bs : List ℕ) (u : IsUnnoted a z g b) (nobody : IsNobodys a (block_extent g b)) where
  abbrev others : List Tuple
  others = filter (λ t. not (is_in t.block bs)) (settled_own a g)

  abbrev others_then : List Tuple
  others_then = filter (λ t. not (is_in t.block (b ∷ bs))) (settled_own z g)

  nobodys_then : (t : Tuple) → (b == t.block) ≡ true → has (settled_own a g) t ≡ false
  nobodys_then t e = no_true (has (settled_own a g) t) (λ h. true≢false (sym (eq-eqb t.block b (sym (eqb-true b t.block e))) ∙ not_in_span b t.block (nobody t h)))

  other : (t : Tuple) → (b == t.block) ≡ false → is_same t (reserved_owner b) ≡ false
  other t e = no_true (is_same t (reserved_owner b)) (λ h. true≢false (sym (eq-eqb b t.block (sym (ap (λ (v : Tuple). v.block) (same_is t (reserved_owner b) h)))) ∙ e))

  and_none : (y : Bool) → (y && false) ≡ false
  and_none true = refl
  and_none false = refl

  but_same : (t : Tuple) → has others_then t ≡ has others t
  but_same t =
      has_passing (λ v. not (is_in v.block (b ∷ bs))) (settled_own z g) t
      ∙ ap (λ (y : Bool). y && not ((b == t.block) || is_in t.block bs)) (u.owns t)
      ∙ by (b == t.block) refl
      ∙ sym (has_passing (λ v. not (is_in v.block bs)) (settled_own a g) t)
    where
      by : (k : Bool) → (b == t.block) ≡ k → ((is_same t (reserved_owner b) || has (settled_own a g) t) && not (k || is_in t.block bs)) ≡ (has (settled_own a g) t && not (is_in t.block bs))
      by true e = and_none (is_same t (reserved_owner b) || has (settled_own a g) t) ∙ sym (ap (λ (y : Bool). y && not (is_in t.block bs)) (nobodys_then t e))
      by false e = ap (λ (y : Bool). (y || has (settled_own a g) t) && not (is_in t.block bs)) (other t e)

  told_but : AreToldBut a g bs → AreToldBut z g (b ∷ bs)
  told_but told = subst (AreRuns others_then) (sym u.maps) (runs_by others others_then but_same (mappings a g) told)

pub unnoted_tells : UnnotedTells
unnoted_tells a z left g b bs fit s once owes told = told_but a z g b bs (unnoted a z left g b fit s once) (unnoted_nobodys a s.decided left g b s.row owes) told

-- What of settled owners is the same behind an entry as in the state that its row decides, however edited trees are cut.
use Rattle.std.proofs.Common.{◌≡◌, ℕ, ◌+◌, ◌≤◌, ◌==◌, ◌||◌, Bool, true, false, nat_lt, List, [], ◌∷◌, filter, flat_map, map, refl, sym, ap, ap₂, subst, ◌∙◌, inl, inr, arith, eqb-true, eq-eqb}
use Rattle.std.specs.Prelude.{if◌then◌else◌}
use Rattle.std.specs.List.{list_all}
use Rattle.std.proofs.lemmas.Bool.{false≢true}
use Rattle.std.proofs.lemmas.Bool.Decides.{nat_tests}
use Rattle.law_accounts.proofs.Account.Framed.{same_parts, SameParts}
use Rattle.law_writers.proofs.Change.Members.{both_ways}
use Rattle.law_cuts.proofs.Cut.Cut.{decided_splits, stands_once}
use Rattle.law_cuts.proofs.Cut.Told.{has_pairs, owned_has, told_behind, tuple_for}
use Rattle.fs_change.proofs.Sets.{same_is}
use Rattle.fs_change.specs.Chains.{given_by, most_chains, pending, settled_by, settled_forks, settled_own, taken_by}
use Rattle.fs_change.specs.Changes.{joins_no_space, owner_of_run}
use Rattle.fs_change.specs.Edited.{edited_in, edited_kinds, edits_reaped, edits_reserve}
use Rattle.fs_change.specs.Loose.{Inside, owners_in, pool_of}
use Rattle.fs_change.specs.Parts.{is_edited, records_in}
use Rattle.fs_change.specs.Step.{Step, group_of_entry, group_of_inode}
use Rattle.fs_state.specs.Chunks.{chunks}
use Rattle.fs_state.specs.Claims.{Claimed, fork_claims, metadata_claims}
use Rattle.fs_state.specs.Derive.{mappings}
use Rattle.fs_state.specs.Lists.{numbers}
use Rattle.fs_state.specs.Own.{tuple_of}
use Rattle.fs_model.specs.declared.entry.Entry.{Entry}
use Rattle.fs_model.specs.declared.entry.Entry.TheVariants as entries
use Rattle.fs_model.specs.declared.entry.Extent.{Extent}
use Rattle.fs_model.specs.declared.unit.Unit.{Unit as ScrubUnit}
use Rattle.fs_model.specs.declared.unit.Unit.TheVariants as units
use Rattle.fs_state.specs.State.{Group, Owned, State}
use Rattle.geom.specs.Apart.{HasFitting, Splits}
use Rattle.law_repairs.proofs.Move.Claiming.{metadata_is, owner_plain}
use Rattle.law_repairs.proofs.Move.Kept.{loose_alike}
use Rattle.law_repairs.proofs.Move.Loose.{filter_own}
use Rattle.law_repairs.proofs.Move.Moving.{Moved, blocks_moved}
use Rattle.law_repairs.proofs.Move.Pairs.{Among, blocks_are, has_of}
use Rattle.law_repairs.specs.Move.Moving.{is_own}
use Rattle.law_accounts.proofs.Owner.Members.{has_metadata, metadata_same, runs_by, settled_is}
use Rattle.law_accounts.specs.Owner.Told.{AreTold}
use Rattle.law_repairs.proofs.Repair.Same.{chunks_same, forks_same}
use Rattle.law_repairs.proofs.Repair.Totals.{chunk_part, front_part, has_weight, is_owner, limbo_weight, weigh}
use Rattle.law_repairs.specs.Repair.Alike.{AlikeInodes}
use Rattle.rmap_recs.specs.Runs.{AreRuns, has, is_same}
use Rattle.rmap_recs.specs.declared.tuples.Tuple.{Tuple}
use Rattle.sblock.specs.declared.kind.Kind.{Kind}
use Rattle.sblock.specs.declared.kind.Kind.TheVariants.{Bno, Cnt, Rmap}
use Rattle.tree_defs.specs.Lists.{AllDiffer, times}
use Rattle.law_cuts.specs.Spare.Cut.{CutTold, MayCut, SoundOnce}

-- ---- two states with the same owners

-- whose blocks are by metadata and by settled forks, and what mappings say
pub record SameOwners (x b : State) (h : ℕ) : Type 0 where
  pub metadata : (t : Tuple) → has_metadata b h t ≡ has_metadata x h t
  pub forks : (t : Tuple) → has (settled_forks b h) t ≡ has (settled_forks x h) t
  pub maps : mappings b h ≡ mappings x h

pub same_own : (x b : State) (h : ℕ) → SameOwners x b h → (t : Tuple) → has (settled_own b h) t ≡ has (settled_own x h) t
same_own x b h s t = settled_is b h t ∙ ap₂ (λ (m n : Bool). m || n) (s.metadata t) (s.forks t) ∙ sym (settled_is x h t)

pub told_same : (x b : State) (h : ℕ) → SameOwners x b h → AreTold x h → AreTold b h
told_same x b h s told = subst (AreRuns (settled_own b h)) (sym s.maps) (runs_by (settled_own x h) (settled_own b h) (same_own x b h s) (mappings x h) told)

pub turned_back : (x b : State) (h : ℕ) → SameOwners x b h → SameOwners b x h
turned_back x b h s = record { metadata = λ t. sym (s.metadata t); forks = λ t. sym (s.forks t); maps = sym s.maps }

pub settled_same : (a x : State) (h : ℕ) → x.chains ≡ a.chains → fork_claims x h ≡ fork_claims a h → settled_forks x h ≡ settled_forks a h
unfolding settled_forks pending
settled_same a x h chains forks =
    λ i. settled_by (flat_map (given_by h) (flat_map (chains i) (numbers 0 most_chains))) (flat_map (taken_by h) (flat_map (chains i) (numbers 0 most_chains))) (map tuple_of (forks i))

-- ---- a group that is the same

still : (x b : State) (h : ℕ) → Splits x.geometry → AlikeInodes x b → b.chains ≡ x.chains → b.group h ≡ x.group h → SameOwners x b h
still x b h splits alike chains e = record {
  metadata = λ t. ap (λ (cs : List Claimed). has (map tuple_of cs) t) (metadata_same x b h alike.geometry alike.chunks (subst (SameParts (x.group h)) (sym e) (same_parts (x.group h))));
  forks = λ t. ap (λ (ts : List Tuple). has ts t) (settled_same x b h chains (forks_same x b splits alike h));
  maps = ap (λ (p : Group). records_in p Rmap) e;
}

-- ---- one whose own trees were cut: each block has the owner that it had

still_in : (os ps : List Owned) → ((o : Owned) → Among o os → Among o ps) → (t : Tuple) → has (map tuple_for os) t ≡ true → has (map tuple_for ps) t ≡ true
still_in [] ps h t e = absurd (false≢true e)
still_in (o ∷ os) ps h t e = by (is_same t (tuple_for o)) refl e (still_in os ps (λ n c. h n (inr c)) t)
  where
    by : (s : Bool) → is_same t (tuple_for o) ≡ s → (s || has (map tuple_for os) t) ≡ true → (has (map tuple_for os) t ≡ true → has (map tuple_for ps) t ≡ true) → has (map tuple_for ps) t ≡ true
    by true f k more = ap (has (map tuple_for ps)) (same_is t (tuple_for o) f) ∙ owned_has ps o ∙ has_of o ps (h o (inl refl))
    by false f k more = more k

-- the owners of metadata, those of trees, list and limbo apart
metadata_by : (s : State) (g : ℕ) (t : Tuple) → has_metadata s g t
    ≡ (nat_lt 0 (weigh (is_owner t) (front_part s.geometry g) + weigh (limbo_weight (is_owner t)) (s.group g).reserve + weigh (is_owner t) (chunk_part (chunks s g))) || has (map tuple_for (owners_in (s.group g))) t)
metadata_by s g t =
    has_weight (metadata_claims s g) t ∙ ap (nat_lt 0) (metadata_is (is_owner t) (owner_plain t) s g)
    ∙ parted (weigh (is_owner t) (front_part s.geometry g)) (weigh (limbo_weight (is_owner t)) (owners_in (s.group g))) (weigh (limbo_weight (is_owner t)) (s.group g).reserve) (weigh (is_owner t) (chunk_part (chunks s g)))
    ∙ ap (λ (z : Bool). nat_lt 0 (weigh (is_owner t) (front_part s.geometry g) + weigh (limbo_weight (is_owner t)) (s.group g).reserve + weigh (is_owner t) (chunk_part (chunks s g))) || z) (sym (has_pairs (owners_in (s.group g)) t))
  where
    parted : (f o r c : ℕ) → nat_lt 0 (f + o + r + c) ≡ (nat_lt 0 (f + r + c) || nat_lt 0 o)
    parted f o r c = grind (arith, nat_tests)

moved_same : (x b : State) (g : ℕ) (kept : Bool) → Splits x.geometry → AlikeInodes x b → b.chains ≡ x.chains → Moved kept (x.group g) (b.group g) → SameOwners x b g
moved_same x b g kept splits alike chains mv = record {
  metadata = λ t.
      metadata_by b g t
      ∙ (λ i. nat_lt 0 (weigh (is_owner t) (front_part (alike.geometry i) g) + weigh (limbo_weight (is_owner t)) (mv.reserve i) + weigh (is_owner t) (chunk_part (chunks_same x b splits alike g i)))
      || both_ways (has (map tuple_for (owners_in (b.group g))) t) (has (map tuple_for (owners_in (x.group g))) t) (still_in (owners_in (b.group g)) (owners_in (x.group g)) mv.came t) (still_in (owners_in (x.group g)) (owners_in (b.group g)) mv.stays t) i)
      ∙ sym (metadata_by x g t);
  forks = λ t. ap (λ (ts : List Tuple). has ts t) (settled_same x b g chains (forks_same x b splits alike g));
  maps = (mv.trees Rmap).recs;
}

-- ---- behind an entry

module _ (a z : State) (left : List Kind) (e : Entry) (fit : HasFitting a.geometry) (s : Step a left e z) where
  abbrev g : ℕ
  g = group_of_entry a e

  abbrev x : State
  x = s.decided

  splits : Splits x.geometry
  splits = decided_splits a z left e fit s

  alike : AlikeInodes x z
  alike = loose_alike a x z g left (edited_in a left e) splits s.loosely

  -- the settled owners of forks are those of the state that the row decides
  pub decided_forks : (h : ℕ) → settled_forks x h ≡ settled_forks z h
  decided_forks h = sym (settled_same x z h s.loosely.chains (forks_same x z splits alike h))

  pub in_others : (h : ℕ) → (h == g) ≡ false → SameOwners x z h
  in_others h out = still x z h splits alike s.loosely.chains (s.loosely.others h (λ same. false≢true (sym out ∙ eq-eqb h g same)))

  -- a block stands in trees, list and limbo as often
  pub pool_cut : (b : ℕ) → times b (pool_of (z.group g)) ≡ times b (pool_of (x.group g))
  pool_cut b = inside (edited_in a left e) s.loosely.inside
    where
      inside : (js : List Kind) → Inside a.geometry.inobtcount left js (x.group g) (z.group g) → times b (pool_of (z.group g)) ≡ times b (pool_of (x.group g))
      inside [] m = ap (λ (p : Group). times b (pool_of p)) m
      inside (j ∷ js) m = m.none_lost b

  -- where the trees that it edits are of the list's owner
  pub own_cut : list_all is_own (edited_kinds a e) ≡ true → AllDiffer (pool_of (x.group g)) → SameOwners x z g
  own_cut own once = inside (edited_in a left e) (filter_own (is_edited left (a.group g)) (edited_kinds a e) own) s.loosely.inside
    where
      inside : (js : List Kind) → list_all is_own js ≡ true → Inside a.geometry.inobtcount left js (x.group g) (z.group g) → SameOwners x z g
      inside [] o m = still x z g splits alike s.loosely.chains m
      inside (j ∷ js) o m = moved_same x z g a.geometry.inobtcount splits alike s.loosely.chains (blocks_moved a.geometry.inobtcount left (j ∷ js) (x.group g) (z.group g) m o once)

  -- where it edits none
  uncut : edited_kinds a e ≡ [] → SameOwners x z g
  uncut none = inside (edited_in a left e) (ap (filter (is_edited left (a.group g))) none) s.loosely.inside
    where
      inside : (js : List Kind) → js ≡ [] → Inside a.geometry.inobtcount left js (x.group g) (z.group g) → SameOwners x z g
      inside js gone m = still x z g splits alike s.loosely.chains (subst (λ is. Inside a.geometry.inobtcount left is (x.group g) (z.group g)) gone m)

pub reserve_own : (unit : ScrubUnit) (spare : Bool) → list_all is_own (edits_reserve unit spare) ≡ true
reserve_own units.Inode true = refl
reserve_own units.Inode false = refl
reserve_own units.Rmap true = refl
reserve_own units.Rmap false = refl
reserve_own units.Free true = refl
reserve_own units.Free false = refl
reserve_own units.Refc true = refl
reserve_own units.Refc false = refl

reaped_own : (p : Group) (e : Extent) → list_all is_own (edits_reaped p e) ≡ true
reaped_own p e = by (joins_no_space (owner_of_run p e) e p)
  where
    by : (k : Bool) → list_all is_own (if k then Rmap ∷ [] else Bno ∷ Cnt ∷ Rmap ∷ []) ≡ true
    by true = refl
    by false = refl

in_own : (a z : State) (left : List Kind) (e : Entry) → HasFitting a.geometry → (s : Step a left e z) → MayCut a z left e s → AreTold s.decided (group_of_entry a e) → AreTold z (group_of_entry a e)
in_own a z left (entries.Mapped m) fit s may told = told_same s.decided z m.group (own_cut a z left (entries.Mapped m) fit s refl may) told
in_own a z left (entries.RmapDone c ino g b n) fit s may told = told_same s.decided z g (own_cut a z left (entries.RmapDone c ino g b n) fit s refl may) told
in_own a z left (entries.Freed c g b n true) fit s may told = told_same s.decided z g (uncut a z left (entries.Freed c g b n true) fit s refl) told
in_own a z left (entries.Freed c g b n false) fit s may told = told_same s.decided z g (own_cut a z left (entries.Freed c g b n false) fit s refl may) told
in_own a z left (entries.Refilled e) fit s may told = told_same s.decided z e.group (own_cut a z left (entries.Refilled e) fit s refl may) told
in_own a z left (entries.Trimmed e) fit s may told = told_same s.decided z e.group (own_cut a z left (entries.Trimmed e) fit s refl may) told
in_own a z left (entries.Reserved g units.Rmap b false) fit s may told = told_same s.decided z g (uncut a z left (entries.Reserved g units.Rmap b false) fit s refl) told
in_own a z left (entries.Reserved g units.Free b false) fit s may told = told_same s.decided z g (uncut a z left (entries.Reserved g units.Free b false) fit s refl) told
in_own a z left (entries.Reserved g unit b spare) fit s may told = told_same s.decided z g (own_cut a z left (entries.Reserved g unit b spare) fit s (reserve_own unit spare) may) told
in_own a z left (entries.Reaped e) fit s may told = told_same s.decided z e.group (own_cut a z left (entries.Reaped e) fit s (reaped_own (a.group e.group) e) may) told
in_own a z left (entries.RefDone c g b n more) fit s may told = told_behind a z left (entries.RefDone c g b n more) g fit s may told
in_own a z left (entries.Taken writer ino uid chunk) fit s may told = told_behind a z left (entries.Taken writer ino uid chunk) (group_of_inode a ino) fit s may told
in_own a z left (entries.Given writer ino) fit s may told = told_behind a z left (entries.Given writer ino) (group_of_inode a ino) fit s may told
in_own a z left (entries.Unmapped m) fit s may told = told_same s.decided z m.group (uncut a z left (entries.Unmapped m) fit s refl) told
in_own a z left (entries.Converted m) fit s may told = told_same s.decided z m.group (uncut a z left (entries.Converted m) fit s refl) told
in_own a z left (entries.Shared m) fit s may told = told_same s.decided z m.group (uncut a z left (entries.Shared m) fit s refl) told
in_own a z left (entries.Marked g k cause) fit s may told = told_same s.decided z g (uncut a z left (entries.Marked g k cause) fit s refl) told
in_own a z left (entries.Released g unit) fit s may told = told_same s.decided z g (uncut a z left (entries.Released g unit) fit s refl) told
in_own a z left (entries.Fault g unit fault) fit s may told = told_same s.decided z g (uncut a z left (entries.Fault g unit fault) fit s refl) told
in_own a z left (entries.Verdict g unit verdict) fit s may told = told_same s.decided z g (uncut a z left (entries.Verdict g unit verdict) fit s refl) told
in_own a z left (entries.Switched g unit root second) fit s may told = told_same s.decided z g (uncut a z left (entries.Switched g unit root second) fit s refl) told
in_own a z left (entries.Reply writer line code done refused begun) fit s may told = told_same s.decided z 0 (uncut a z left (entries.Reply writer line code done refused begun) fit s refl) told

pub cut_told : CutTold
cut_told a z left e h fit s may told = by (h == group_of_entry a e) refl
  where
    by : (t : Bool) → (h == group_of_entry a e) ≡ t → AreTold z h
    by true same =
        let here : h ≡ group_of_entry a e = eqb-true h (group_of_entry a e) same in
        subst (AreTold z) (sym here) (in_own a z left e fit s may (subst (AreTold s.decided) here told))
    by false out = told_same s.decided z h (in_others a z left e fit s h out) told

pub sound_once : SoundOnce
sound_once x g sound b = subst (λ n. n ≤ 1) (ap (times b) (blocks_are (x.group g))) (stands_once x g b (sound b))

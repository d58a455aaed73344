-- Entries that give no block an owner and take none keep reverse mappings that tell settled owners.
use Rattle.std.proofs.Common.{◌≡◌, ℕ, ◌+◌, ◌==◌, ◌&&◌, ◌||◌, Bool, true, false, cond, List, [], ◌∷◌, ◌++◌, map, flat_map, refl, ap, ap₂, sym, subst, ◌∙◌, inl, inr, eq-eqb, eqb-true}
use Rattle.std.specs.Prelude.{◌*◌, if◌then◌else◌}
use Rattle.std.proofs.lemmas.Bool.{cases_Bool}
use Rattle.fs_change.proofs.Trees.{edited, given_space, spaced}
use Rattle.fs_change.specs.Chains.{settled_forks, settled_own}
use Rattle.fs_change.specs.Changes.{by_count, change_count, change_data, changes_count, converted, data_of, extent_of, freed, give_free, intent, judge, judged, known_spans, mapped, mapping_of, marked, new_count, ref_done, released, shared, take_free, unmapped}
use Rattle.fs_change.specs.Parts.{at_only, change_tree, edit, in_group, records_in, set_chain, set_trust, set_trusts}
use Rattle.fs_change.specs.Records.{add_mapping, by_start, is_unwritten_at, set_count, span, take_piece, take_span}
use Rattle.fs_change.specs.Step.{Row}
use Rattle.fs_change.specs.Switch.{join_limbo}
use Rattle.fs_state.specs.Chunks.{chunks}
use Rattle.fs_state.specs.Claims.{Claimed, claimed_by, log_claims, metadata_claims}
use Rattle.fs_state.specs.Derive.{mappings}
use Rattle.fs_state.specs.Faults.{kind_of_fault}
use Rattle.fs_state.specs.Records.{all_kinds, kinds_of, tree_owner}
use Rattle.fs_state.specs.Lists.{numbers}
use Rattle.fs_state.specs.Own.{tuple_of}
use Rattle.fs_model.specs.declared.claim.Claim.TheVariants.{Heads, List as FreeList, Tree, Reserve, Limbo, Chunk}
use Rattle.fs_model.specs.declared.entry.Entry.{Entry}
use Rattle.fs_model.specs.declared.entry.Entry.TheVariants as entries
use Rattle.fs_model.specs.declared.entry.Extent.{Extent}
use Rattle.fs_model.specs.declared.entry.Piece.{Piece}
use Rattle.fs_model.specs.declared.entry.SharedPiece.{SharedPiece}
use Rattle.fs_model.specs.declared.unit.Trust.{Trust}
use Rattle.fs_model.specs.declared.unit.Trust.TheVariants as trusts
use Rattle.fs_model.specs.declared.unit.Unit.{Unit as ScrubUnit}
use Rattle.fs_model.specs.declared.verdict.Verdict.{Verdict}
use Rattle.fs_model.specs.declared.verdict.Verdict.TheVariants as verdicts
use Rattle.fs_state.specs.State.{State, Group, Owned, blocks_of, recs_of}
use Rattle.fs_state.specs.declared.intent.Intent.{Intent}
use Rattle.fs_state.specs.declared.intent.IntentKind.TheVariants.{RmapChange}
use Rattle.rmap_recs.specs.Owners.{number_of}
use Rattle.rmap_recs.specs.Runs.{AreRuns, has}
use Rattle.rmap_recs.specs.declared.owner.Owner.TheVariants.{Fs, Ag, Inodes}
use Rattle.rmap_recs.specs.declared.tuples.Tuple.{Tuple}
use Rattle.sblock.specs.declared.kind.Kind.{Kind}
use Rattle.sblock.specs.declared.kind.Kind.TheVariants.{Bno, Cnt, Rmap, Refc, Ino, Fino}
use Rattle.law_accounts.specs.Account.Stated.{ChunksStay}
use Rattle.law_accounts.proofs.Account.Framed.{SameParts, both_parts, edit_parts, given_parts, same_parts}
use Rattle.law_accounts.specs.Owner.Kept.{LeavesMappings, OthersKeepTold}
use Rattle.law_accounts.specs.Owner.Told.{AreTold}
use Rattle.law_accounts.proofs.Owner.Members.{has_metadata, joined_limbo, metadata_same, runs_by, same_chunks, settled_is}

-- ---- the metadata of a group has the same owners, and its mappings are the same

pub record Stays (a x : State) (g : ℕ) : Type 0 where
  pub maps : mappings x g ≡ mappings a g
  pub metadata : ChunksStay a x → (t : Tuple) → has_metadata x g t ≡ has_metadata a g t

by_group : (a x : State) (g : ℕ) → x.geometry ≡ a.geometry → SameParts (a.group g) (x.group g) → mappings x g ≡ mappings a g → Stays a x g
by_group a x g at parts maps = record {
  maps = maps;
  metadata = λ stay t. ap (λ (cs : List Claimed). has (map tuple_of cs) t) (metadata_same a x g at stay parts);
}

untouched : (a x : State) (h : ℕ) → x.geometry ≡ a.geometry → x.group h ≡ a.group h → Stays a x h
untouched a x h at same = by_group a x h at (subst (SameParts (a.group h)) (sym same) (same_parts (a.group h))) (ap (λ (p : Group). recs_of (p.tree Rmap).reading) same)

-- one group changed
module _ (a x : State) (g : ℕ) (f : Group → Group) (at : x.geometry ≡ a.geometry) (groups : (h : ℕ) → x.group h ≡ at_only g (f (a.group g)) a.group h) where
  here : x.group g ≡ f (a.group g)
  here = groups g ∙ ap (λ (t : Bool). cond t (f (a.group g)) (a.group g)) (eq-eqb g g refl)

  everywhere : Stays a x g → (h : ℕ) → Stays a x h
  everywhere own h = elim (cases_Bool (h == g)) [
    | inl is ↦ subst (Stays a x) (sym (eqb-true h g is)) own
    | inr away ↦ untouched a x h at (groups h ∙ ap (λ (t : Bool). cond t (f (a.group g)) (a.group h)) away)
  ]

  one_group : SameParts (a.group g) (f (a.group g)) → records_in (f (a.group g)) Rmap ≡ records_in (a.group g) Rmap → (h : ℕ) → Stays a x h
  one_group parts maps = everywhere (by_group a x g at (subst (SameParts (a.group g)) (sym here) parts) (ap (λ (p : Group). records_in p Rmap) here ∙ maps))

-- ---- edits of a group

taken_parts : (left : List Kind) (e : Extent) (p : Group) → SameParts p (take_free left e p)
taken_parts left e p =
    let one = edit_parts left Bno (take_span by_start (records_in p Bno) (span e.block e.count)) p in
    let two = edit_parts left Cnt (take_span by_count (known_spans p) (span e.block e.count)) (edit left Bno (take_span by_start (records_in p Bno) (span e.block e.count)) p) in
    record { list = two.list ∙ one.list; blocks = λ k. two.blocks k ∙ one.blocks k; reserve = two.reserve ∙ one.reserve; limbo = two.limbo ∙ one.limbo }

module _ (left : List Kind) (more : Bool) (e : Extent) (p : Group) where
  abbrev counted : Bool → Group
  counted t = if t then edit left Refc (λ recs. set_count e.block e.count (new_count more recs e.block) recs) p else p

  counted_parts : (t : Bool) → SameParts p (counted t)
  counted_parts true = edit_parts left Refc (λ recs. set_count e.block e.count (new_count more recs e.block) recs) p
  counted_parts false = same_parts p

  counted_maps : (t : Bool) → records_in (counted t) Rmap ≡ records_in p Rmap
  counted_maps true = ap (λ i. recs_of i.reading) (edited left Refc Rmap (λ recs. set_count e.block e.count (new_count more recs e.block) recs) p refl)
  counted_maps false = refl

trust_reading : (t : Trust) (k j : Kind) (p : Group) → ((set_trust t k p).tree j).reading ≡ (p.tree j).reading
trust_reading t Bno Bno p = refl
trust_reading t Cnt Cnt p = refl
trust_reading t Rmap Rmap p = refl
trust_reading t Refc Refc p = refl
trust_reading t Ino Ino p = refl
trust_reading t Fino Fino p = refl
trust_reading t k j p = refl

trust_parts : (t : Trust) (k : Kind) (p : Group) → SameParts p (set_trust t k p)
trust_parts t k p = record { list = refl; blocks = λ j. ap blocks_of (trust_reading t k j p); reserve = refl; limbo = refl }

all_parts : (t : Trust) (ks : List Kind) (p : Group) → SameParts p (set_trusts t ks p)
all_parts t [] p = same_parts p
all_parts t (k ∷ ks) p = both_parts p (set_trusts t ks p) (set_trust t k (set_trusts t ks p)) (all_parts t ks p) (trust_parts t k (set_trusts t ks p))

all_maps : (t : Trust) (ks : List Kind) (p : Group) → records_in (set_trusts t ks p) Rmap ≡ records_in p Rmap
all_maps t [] p = refl
all_maps t (k ∷ ks) p = ap recs_of (trust_reading t k Rmap (set_trusts t ks p)) ∙ all_maps t ks p

-- ---- each such entry

mapped_stays : (m : Piece) (a : State) (h : ℕ) → Stays a (mapped m a) h
unfolding mapped
mapped_stays m a = one_group a (mapped m a) m.group (take_free [] (extent_of m)) refl (λ h. refl) (taken_parts [] (extent_of m) (a.group m.group)) (ap (λ i. recs_of i.reading) (spaced [] Rmap (extent_of m) (a.group m.group) refl refl))

unmapped_stays : (m : Piece) (a : State) (h : ℕ) → Stays a (unmapped m a) h
unfolding unmapped
unmapped_stays m a h = untouched a (unmapped m a) h refl refl

converted_stays : (m : Piece) (a : State) (h : ℕ) → Stays a (converted m a) h
unfolding converted
converted_stays m a h = by (is_unwritten_at m.offset (data_of a m.ino))
  where
    changed : State
    changed = set_chain m.chain (intent RmapChange m.ino m.offset (extent_of m) ∷ [])
        (change_data m.ino (λ ms. add_mapping a.geometry.agblklog (mapping_of a m.offset m.group m.block m.count false) (take_piece m.offset m.count ms)) a)

    by : (t : Bool) → Stays a (if t then changed else a) h
    by true = untouched a changed h refl refl
    by false = untouched a a h refl refl

shared_stays : (m : SharedPiece) (a : State) (h : ℕ) → Stays a (shared m a) h
unfolding shared
shared_stays m a h = untouched a (shared m a) h refl refl

counted_stays : (left : List Kind) (c : ℕ) (more : Bool) (e : Extent) (i : Intent) (rest : List Intent) (a : State) (h : ℕ) → Stays a (ref_done left c more e i rest a) h
unfolding ref_done
counted_stays left c more e i rest a =
    let t : Bool = changes_count more (records_in (a.group e.group) Refc) e.block in
    one_group a (ref_done left c more e i rest a) e.group (change_count left more e) refl (λ h. refl) (counted_parts left more e (a.group e.group) t) (counted_maps left more e (a.group e.group) t)

freed_stays : (left : List Kind) (c : ℕ) (kept : Bool) (e : Extent) (rest : List Intent) (a : State) (h : ℕ) → Stays a (freed left c kept e rest a) h
unfolding freed
freed_stays left c true e rest a h = untouched a (freed left c true e rest a) h refl refl
freed_stays left c false e rest a h =
    one_group a (freed left c false e rest a) e.group (give_free left e) refl (λ k. refl) (given_parts left e (a.group e.group)) (ap (λ i. recs_of i.reading) (given_space left Rmap e (a.group e.group) refl refl)) h

marked_stays : (g : ℕ) (k : Kind) (a : State) (h : ℕ) → Stays a (marked g k a) h
unfolding marked
marked_stays g k a = one_group a (marked g k a) g (set_trust trusts.Sick k) refl (λ h. refl) (trust_parts trusts.Sick k (a.group g)) (ap recs_of (trust_reading trusts.Sick k Rmap (a.group g)))

judged_stays : (g : ℕ) (unit : ScrubUnit) (v : Verdict) (a : State) (h : ℕ) → Stays a (judged g unit v a) h
unfolding judged
judged_stays g unit verdicts.Good a = one_group a (judged g unit verdicts.Good a) g (set_trusts trusts.Good (kinds_of unit)) refl (λ h. refl) (all_parts trusts.Good (kinds_of unit) (a.group g)) (all_maps trusts.Good (kinds_of unit) (a.group g))
judged_stays g unit (verdicts.Faulty n) a = one_group a (judged g unit (verdicts.Faulty n) a) g (λ p. p) refl (λ h. refl) (same_parts (a.group g)) refl
judged_stays g unit verdicts.Rebuilt a = one_group a (judged g unit verdicts.Rebuilt a) g (λ p. p) refl (λ h. refl) (same_parts (a.group g)) refl
judged_stays g unit (verdicts.Skipped n other) a = one_group a (judged g unit (verdicts.Skipped n other) a) g (λ p. p) refl (λ h. refl) (same_parts (a.group g)) refl
judged_stays g unit (verdicts.GaveUp reason) a = one_group a (judged g unit (verdicts.GaveUp reason) a) g (λ p. p) refl (λ h. refl) (same_parts (a.group g)) refl

-- a reserve that becomes limbo keeps its owners
abbrev set_loose : Group → Group
set_loose p = record p { reserve = []; limbo = join_limbo p.reserve p.limbo }

abbrev in_front : State → ℕ → List Claimed
in_front a g =
    claimed_by Heads (number_of Fs) 0 ∷ log_claims a.geometry.log g
    ++ map (claimed_by FreeList (number_of Ag)) (a.group g).free_list
    ++ flat_map (λ k. map (claimed_by (Tree k) (tree_owner k)) (blocks_of ((a.group g).tree k).reading)) all_kinds

abbrev behind_all : List ℕ → List Claimed
behind_all us = flat_map (λ u. map (claimed_by Chunk (number_of Inodes)) (numbers (8 * u) 8)) us

loose_claims : (a : State) (g : ℕ) (t : Tuple) → ChunksStay a (in_group g set_loose a) → has_metadata (in_group g set_loose a) g t ≡ has_metadata a g t
unfolding metadata_claims
loose_claims a g t stay =
    ap (λ (p : Group). has (map tuple_of (in_front (record a { group = λ h. p }) g
    ++ map (λ (o : Owned). claimed_by Reserve o.owner o.block) p.reserve
    ++ map (λ (o : Owned). claimed_by Limbo o.owner o.block) p.limbo
    ++ behind_all (chunks (in_group g set_loose a) g))) t) (ap (λ (b : Bool). cond b (set_loose (a.group g)) (a.group g)) (eq-eqb g g refl))
    ∙ ap (λ (us : List ℕ). has (map tuple_of (in_front a g
    ++ map (λ (o : Owned). claimed_by Reserve o.owner o.block) []
    ++ map (λ (o : Owned). claimed_by Limbo o.owner o.block) (join_limbo (a.group g).reserve (a.group g).limbo)
    ++ behind_all us)) t) (same_chunks a (in_group g set_loose a) refl stay g)
    ∙ joined_limbo t (in_front a g) (behind_all (chunks a g)) (a.group g).reserve (a.group g).limbo

released_stays : (g : ℕ) (a : State) (h : ℕ) → Stays a (released g a) h
unfolding released
released_stays g a = everywhere a (in_group g set_loose a) g set_loose refl (λ h. refl) (record {
  maps = ap (λ (p : Group). records_in p Rmap) (here a (in_group g set_loose a) g set_loose refl (λ h. refl));
  metadata = λ stay t. loose_claims a g t stay;
})

-- ---- the entry

by_state : (a x y : State) (h : ℕ) → x ≡ y → Stays a y h → Stays a x h
by_state a x y h e s = subst (λ (z : State). Stays a z h) (sym e) s

decided : (a x : State) (left : List Kind) (e : Entry) (h : ℕ) → Row a left e x → LeavesMappings e → Stays a x h
decided a x left (entries.Mapped m) h row out = by_state a x (mapped m a) h row.1 (mapped_stays m a h)
decided a x left (entries.Unmapped m) h row out = by_state a x (unmapped m a) h row.1 (unmapped_stays m a h)
decided a x left (entries.Converted m) h row out = by_state a x (converted m a) h row.1 (converted_stays m a h)
decided a x left (entries.Shared m) h row out = by_state a x (shared m a) h row.1 (shared_stays m a h)
decided a x left (entries.RefDone c g b n more) h row out = by_state a x (ref_done left c more (record { group = g; block = b; count = n }) row.0 row.1 a) h row.5 (counted_stays left c more (record { group = g; block = b; count = n }) row.0 row.1 a h)
decided a x left (entries.Freed c g b n kept) h row out = by_state a x (freed left c kept (record { group = g; block = b; count = n }) row.1 a) h row.6 (freed_stays left c kept (record { group = g; block = b; count = n }) row.1 a h)
decided a x left (entries.Marked g k cause) h row out = by_state a x (marked g k a) h row.2 (marked_stays g k a h)
decided a x left (entries.Fault g unit fault) h row out = by_state a x (marked g (kind_of_fault fault) a) h row.2 (marked_stays g (kind_of_fault fault) a h)
decided a x left (entries.Verdict g unit verdict) h row out = by_state a x (judged g unit verdict a) h row.1 (judged_stays g unit verdict a h)
decided a x left (entries.Released g unit) h row out = by_state a x (released g a) h row.1 (released_stays g a h)
decided a x left (entries.Reply writer line code done refused begun) h row out = by_state a x a h row (untouched a a h refl refl)
decided a x left (entries.RmapDone c ino g b n) h row out = absurd out
decided a x left (entries.Taken writer ino uid chunk) h row out = absurd out
decided a x left (entries.Given writer ino) h row out = absurd out
decided a x left (entries.Refilled e) h row out = absurd out
decided a x left (entries.Trimmed e) h row out = absurd out
decided a x left (entries.Reserved g unit b spare) h row out = absurd out
decided a x left (entries.Switched g unit root second) h row out = absurd out
decided a x left (entries.Reaped e) h row out = absurd out

pub others_keep : OthersKeepTold
others_keep a x left e h row out stay forks told =
    let s = decided a x left e h row out in
    subst (AreRuns (settled_own x h)) (sym s.maps)
    (runs_by (settled_own a h) (settled_own x h) (λ t. settled_is x h t ∙ ap₂ (λ (m n : Bool). m || n) (s.metadata stay t) (ap (λ (ts : List Tuple). has ts t) forks) ∙ sym (settled_is a h t)) (mappings a h) told)

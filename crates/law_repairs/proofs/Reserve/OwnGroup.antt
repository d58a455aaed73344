-- A reserved block and its own group: the state that it decides, and the one behind it.
use Rattle.std.proofs.Common.{◌≡◌, ℕ, ◌+◌, ◌<◌, ◌≤◌, ◌==◌, ◌&&◌, ◌||◌, Bool, true, false, cond, not, List, [], ◌∷◌, ◌++◌, drop, find, flat_map, refl, ap, ap₂, sym, subst, ◌∙◌, inl, inr, arith, Option, Some, None, eq-eqb}
use Rattle.std.specs.Prelude.{◌⊎◌, ◌/◌, ◌^◌, length, is_some, slice_get, if◌then◌else◌}
use Rattle.std.specs.List.{list_all, list_any}
use Rattle.std.proofs.lemmas.Bool.{cases_Bool, true≢false}
use Rattle.derive_defs.specs.Free.{free_space}
use Rattle.derive_defs.specs.Mappings.{covers}
use Rattle.fs_change.proofs.Trees.{Not, edited}
use Rattle.fs_change.specs.Changes.{block_extent, give_owner, plain_run, reserved, take_owner}
use Rattle.fs_change.specs.Choice.{is_spare}
use Rattle.fs_change.specs.Edited.{edits_reserve, leaves_faults, met_by}
use Rattle.fs_change.specs.Loose.{Loosely, pool_of, tree_blocks}
use Rattle.fs_change.specs.Met.{is_fault, met_gaining, met_losing}
use Rattle.fs_change.specs.Parts.{is_edited, records_in, sick_in, with_recs}
use Rattle.fs_change.specs.Records.{give_mapping, holder_of, span, take_mapping, take_span}
use Rattle.fs_change.specs.Step.{Step, edited_in}
use Rattle.fs_change.specs.Switch.{owned_by as with_owner, unit_owner}
use Rattle.fs_state.specs.Derive.{derive, mappings}
use Rattle.fs_state.specs.Faults.{blocks_counted}
use Rattle.fs_state.specs.Records.{all_kinds}
use Rattle.fs_state.specs.Laws.{IsGood}
use Rattle.fs_state.specs.Own.{own, rmap_of}
use Rattle.fs_model.specs.declared.entry.Entry.TheVariants as entries
use Rattle.fs_model.specs.declared.fault.Counter.{Counter}
use Rattle.fs_model.specs.declared.fault.Counter.TheVariants.{Freeblks, Longest, Btreeblks}
use Rattle.fs_model.specs.declared.unit.Unit.{Unit as ScrubUnit}
use Rattle.fs_model.specs.declared.unit.Unit.TheVariants as units
use Rattle.fs_state.specs.Apart.{is_chunk}
use Rattle.fs_state.specs.Group.{is_among}
use Rattle.fs_state.specs.State.{State, Group, Readable, Reading, Unreadable, blocks_in, is_readable, recs_of}
use Rattle.geom.proofs.ApartLemmas.{splits_in}
use Rattle.geom.specs.Apart.{HasFitting, Splits}
use Rattle.geom.specs.Layout.{Layout, group_len_of}
use Rattle.rmap_recs.specs.Owners.{number_of}
use Rattle.rmap_recs.specs.Runs.{AreTuples, HaveNext}
use Rattle.rmap_recs.specs.declared.owner.Owner.TheVariants.{Ag}
use Rattle.rmap_recs.specs.declared.records.RmapRec.{RmapRec}
use Rattle.run_edits.specs.Edits.{holds}
use Rattle.sblock.specs.declared.kind.Kind.{Kind}
use Rattle.sblock.specs.declared.kind.Kind.TheVariants.{Bno, Cnt, Rmap}
use Rattle.span_recs.specs.declared.span.SpanRec.{SpanRec}
use Rattle.tree_defs.specs.Lists.{times}
use Rattle.law_accounts.proofs.Account.Covers.{given_covers, taken_covers}
use Rattle.law_accounts.specs.Account.Accounts.{at_span, covers_at}
use Rattle.law_accounts.proofs.Edit.Orders.{count_taken}
use Rattle.law_accounts.proofs.Edit.Spaces.{free_taken, same_free}
use Rattle.derive_defs.specs.ByCount.{ordered_by_count}
use Rattle.law_accounts.specs.Edit.Space.{CoverMore}
use Rattle.law_repairs.specs.Repair.Alike.{AlikeInodes}
use Rattle.law_repairs.specs.Repair.Letters.{Holds, IsTrusted, Stands}
use Rattle.law_repairs.specs.Repair.Moves.{SameChunks}
use Rattle.law_repairs.proofs.Repair.Listed.{listed_keeps}
use Rattle.law_repairs.proofs.Repair.Pieces.{reserved_keeps}
use Rattle.law_repairs.specs.Move.Moving.{is_own}
use Rattle.law_repairs.specs.Move.Order.{AreBlocks, IsInOrder}
use Rattle.law_repairs.specs.Reserve.Reserving.{AreMade, ReservedKeepsOwn, ends_known}
use Rattle.law_repairs.proofs.Move.Edits.{changed_index, each_edited, edit_at, edit_counters, edit_none, good_edited, none_lacks, not_faulty, not_left, not_sick, same_edited, space_beside, spaced_group, well_edited}
use Rattle.law_repairs.proofs.Move.Kept.{moves_keep}
use Rattle.law_repairs.proofs.Move.Loose.{filter_own, loose_chunks, loose_own, loose_trust, was_trusted}
use Rattle.law_repairs.proofs.Reserve.Owning.{SameHeld, block_run, clear_given, maps_given, nobodys, runs_now}
use Rattle.law_repairs.proofs.Reserve.Reserved.{counts_kept, gets_owner, is_beside, is_found, maps_kept, none_sick_there, plain_owner, recs_read, reserved_alike, reserved_trust, reserved_words, spare_uncovered}
use Rattle.law_repairs.proofs.Reserve.Reserving.{blocks_stay, counted_stay, limbo_stays, list_steady, off_list, reads_stay, reserve_grows, reserved_group, reserved_in, spare_held, spared, steady_counter, with_reserve}
use Rattle.law_repairs.proofs.Move.Space.{FromEdit, derived_space, space_edited, space_unchanged}
use Rattle.law_repairs.proofs.Move.Steps.{space_steady}
use Rattle.law_repairs.proofs.Reserve.Turning.{FromList, clear_turned, first_is, maps_turned}

pub some_holds : (r : RmapRec) (recs : List RmapRec) → is_some (find (λ p. holds p r) recs) ≡ true → list_any (λ p. holds p r) recs ≡ true
some_holds r [] h = absurd (true≢false (sym h))
some_holds r (p ∷ recs) h = (elim (holds p r) as (λ b. is_some (cond b (Some p) (find (λ q. holds q r) recs)) ≡ true → (b || list_any (λ q. holds q r) recs) ≡ true) [
  | true ↦ λ i. refl
  | false ↦ λ i. some_holds r recs i
]) h

pub either_false : (x y : Bool) → (x || y) ≡ false → (x ≡ false) × (y ≡ false)
either_false true y h = absurd (true≢false h)
either_false false y h = (refl, h)

pub is_not : (k : Bool) → not k ≡ false → k ≡ true
is_not true h = refl
is_not false h = absurd (true≢false h)

module _ (a : State) (left : List Kind) (g : ℕ) (unit : ScrubUnit) (b : ℕ) (spare : Bool) where
  abbrev p : Group
  p = a.group g

  abbrev x : State
  x = reserved left g unit b spare a

  abbrev owner : ℕ
  owner = unit_owner unit

  abbrev q : Group
  q = reserved_group left g unit b spare p

  at : x.geometry ≡ a.geometry
  unfolding reserved
  at = refl

  now : x.group g ≡ q
  now = reserved_in left g unit b spare a

  reserve_now : (x.group g).reserve ≡ p.reserve ++ with_owner owner b ∷ []
  reserve_now = ap (λ (r : Group). r.reserve) now ∙ reserve_grows left g b p unit spare

  blocks_now : (k : Kind) → tree_blocks (x.group g) k ≡ tree_blocks p k
  blocks_now k = ap (λ (r : Group). tree_blocks r k) now ∙ blocks_stay left g b p unit spare k

  limbo_now : (x.group g).limbo ≡ p.limbo
  limbo_now = ap (λ (r : Group). r.limbo) now ∙ limbo_stays left g b p unit spare

  roots_now : AreBlocks p → (k : Kind) → is_readable ((x.group g).tree k).reading ≡ true → 0 < length (tree_blocks (x.group g) k)
  roots_now blocks k h =
      subst (λ (bs : List ℕ). 0 < length bs) (sym (blocks_now k))
      (blocks.roots k (sym (reads_stay left g b p unit spare k) ∙ ap (λ (r : Group). is_readable (r.tree k).reading) (sym now) ∙ h))

-- ---- where the block was

module _ (a : State) (left : List Kind) (g : ℕ) (unit : ScrubUnit) (b : ℕ) where
  pub held_now : SameHeld (a.group g) ((reserved left g unit b true a).group g)
  held_now = subst (SameHeld (a.group g)) (sym (now a left g unit b true)) (spare_held left g b (a.group g) unit)

  spare_pool : pool_of ((reserved left g unit b true a).group g) ≡ pool_of (a.group g)
  spare_pool = λ i. held_now.list i ++ flat_map (λ k. held_now.blocks k i) all_kinds ++ blocks_in (held_now.limbo i)

  pub from_list : slice_get (a.group g).free_list 0 ≡ Some b → FromList (a.group g) ((reserved left g unit b false a).group g) b
  from_list first = record {
    first = first;
    list = ap (λ (r : Group). r.free_list) (now a left g unit b false) ∙ (list_steady left g b (a.group g) unit).parts.list;
    blocks = blocks_now a left g unit b false;
    limbo = limbo_now a left g unit b false;
  }

  list_pool : slice_get (a.group g).free_list 0 ≡ Some b → pool_of (a.group g) ≡ b ∷ pool_of ((reserved left g unit b false a).group g)
  list_pool first =
      let f = from_list first in
      ap (λ (xs : List ℕ). xs ++ flat_map (tree_blocks (a.group g)) all_kinds ++ blocks_in (a.group g).limbo) (first_is (a.group g).free_list b first)
      ∙ (λ i. b ∷ (sym f.list i ++ flat_map (λ k. sym (f.blocks k) i) all_kinds ++ blocks_in (sym f.limbo i)))

  pub spare_blocks : AreBlocks (a.group g) → AreBlocks ((reserved left g unit b true a).group g)
  spare_blocks blocks = record {
    once = λ c. subst (λ (bs : List ℕ). times c bs ≤ 1) (sym spare_pool) (blocks.once c);
    few = subst (λ (bs : List ℕ). length bs < 2 ^ 32) (sym spare_pool) blocks.few;
    roots = roots_now a left g unit b true blocks;
  }

  pub list_blocks : slice_get (a.group g).free_list 0 ≡ Some b → AreBlocks (a.group g) → AreBlocks ((reserved left g unit b false a).group g)
  list_blocks first blocks = record {
    once = λ c. let h : times c (b ∷ pool_of ((reserved left g unit b false a).group g)) ≤ 1 = subst (λ (bs : List ℕ). times c bs ≤ 1) (list_pool first) (blocks.once c) in omega (arith, h);
    few = let h : length (b ∷ pool_of ((reserved left g unit b false a).group g)) < 2 ^ 32 = subst (λ (bs : List ℕ). length bs < 2 ^ 32) (list_pool first) blocks.few in omega (arith, h);
    roots = roots_now a left g unit b false blocks;
  }

-- ---- reverse mappings as they are edited

module _ (a : State) (left : List Kind) (g b : ℕ) (ed : is_edited left (a.group g) Rmap ≡ true) where
  abbrev gift : ScrubUnit → List RmapRec → List RmapRec
  gift unit = give_mapping (block_run (unit_owner unit) b)

  abbrev loss : List RmapRec → List RmapRec
  loss = take_mapping (block_run (number_of Ag) b)

  space_gift : (unit : ScrubUnit) → (give_owner left (unit_owner unit) (block_extent g b) (spared left g b (a.group g) unit)).tree Rmap ≡ changed_index (gift unit) ((a.group g).tree Rmap)
  space_gift unit =
      edit_at left Rmap (gift unit) (spared left g b (a.group g) unit) (same_edited left (a.group g) (spared left g b (a.group g) unit) Rmap ((space_steady take_span left (block_extent g b) (with_reserve unit b (a.group g))).trust Rmap) ∙ ed)
      ∙ ap (changed_index (gift unit)) (space_beside take_span left (block_extent g b) (with_reserve unit b (a.group g)) Rmap refl refl)

  spare_edit : (unit : ScrubUnit) → gets_owner unit ≡ true → ((reserved left g unit b true a).group g).tree Rmap ≡ changed_index (gift unit) ((a.group g).tree Rmap)
  spare_edit units.Inode h = ap (λ (r : Group). r.tree Rmap) (now a left g units.Inode b true) ∙ space_gift units.Inode
  spare_edit units.Refc h = ap (λ (r : Group). r.tree Rmap) (now a left g units.Refc b true) ∙ space_gift units.Refc
  spare_edit units.Free h = ap (λ (r : Group). r.tree Rmap) (now a left g units.Free b true) ∙ edit_at left Rmap (gift units.Free) (with_reserve units.Free b (a.group g)) ed
  spare_edit units.Rmap h = absurd (true≢false (sym h))

  turn_edit : (unit : ScrubUnit) → (give_owner left (unit_owner unit) (block_extent g b) (take_owner left (number_of Ag) (block_extent g b) (off_list unit b (a.group g)))).tree Rmap ≡ changed_index (gift unit) (changed_index loss ((a.group g).tree Rmap))
  turn_edit unit =
      edit_at left Rmap (gift unit) (take_owner left (number_of Ag) (block_extent g b) (off_list unit b (a.group g)))
      (same_edited left (a.group g) (take_owner left (number_of Ag) (block_extent g b) (off_list unit b (a.group g))) Rmap (ap (λ i. i.trust) (edit_at left Rmap loss (off_list unit b (a.group g)) ed)) ∙ ed)
      ∙ ap (changed_index (gift unit)) (edit_at left Rmap loss (off_list unit b (a.group g)) ed)

  list_edit : (unit : ScrubUnit) → is_beside unit ≡ true → ((reserved left g unit b false a).group g).tree Rmap ≡ changed_index (gift unit) (changed_index loss ((a.group g).tree Rmap))
  list_edit units.Inode h = ap (λ (r : Group). r.tree Rmap) (now a left g units.Inode b false) ∙ turn_edit units.Inode
  list_edit units.Refc h = ap (λ (r : Group). r.tree Rmap) (now a left g units.Refc b false) ∙ turn_edit units.Refc
  list_edit units.Free h = absurd (true≢false (sym h))
  list_edit units.Rmap h = absurd (true≢false (sym h))

  two_recs : (unit : ScrubUnit) (r : Reading RmapRec) → is_readable r ≡ true → recs_of (changed_index (gift unit) (changed_index loss (record { reading = r; trust = ((a.group g).tree Rmap).trust }))).reading ≡ gift unit (loss (recs_of r))
  two_recs unit (Readable recs blocks) h = refl
  two_recs unit (Unreadable block fault claims) h = absurd (true≢false (sym h))

-- ---- reverse mappings

module _ (a : State) (left : List Kind) (g : ℕ) (unit : ScrubUnit) (b : ℕ) (fit : HasFitting a.geometry) (out : is_chunk a g (b / 8) ≡ false) (order : IsInOrder a g) (ed : is_edited left (a.group g) Rmap ≡ true) where
  abbrev splits : Splits a.geometry
  splits = splits_in a.geometry fit

  were : Holds a g units.Rmap → mappings a g ≡ rmap_of a g
  unfolding derive
  were h = ap recs_of h.0.0.0.1

  spare_maps : gets_owner unit ≡ true → is_spare a g unit b ≡ true → SameChunks a (reserved left g unit b true a) → AreTuples (own (reserved left g unit b true a) g) → HaveNext (own (reserved left g unit b true a) g)
      → Holds a g units.Rmap → Holds (reserved left g unit b true a) g units.Rmap
  spare_maps gets is chunks tx nx h =
      let x : State = reserved left g unit b true a in
      let alike : AlikeInodes a x = reserved_alike a left g unit b true splits out chunks in
      let none = nobodys a g (rmap_of a g) b (runs_now a g order.tuples order.next) (ap (list_any (covers b)) (sym (were h)) ∙ spare_uncovered a g unit b gets is) in
      maps_kept a left g unit b true splits out (give_mapping (block_run (unit_owner unit) b) (rmap_of a g)) h
      (maps_given a x g (unit_owner unit) b splits alike (held_now a left g unit b) (reserve_now a left g unit b true) none (plain_owner unit) order.tuples order.next tx nx)
      (λ blocks e. ap (λ i. i.reading) (spare_edit a left g b ed unit gets) ∙ ap (λ (r : Reading RmapRec). with_recs (give_mapping (block_run (unit_owner unit) b) (recs_of r)) r) e)
      (clear_given a x g (unit_owner unit) b splits alike (held_now a left g unit b) (reserve_now a left g unit b true) none h.1)

  other_owner : (u : ScrubUnit) → is_beside u ≡ true → unit_owner u ≡ number_of Ag → ⊥
  other_owner units.Inode h e = true≢false (sym (eq-eqb (unit_owner units.Inode) (number_of Ag) e))
  other_owner units.Refc h e = true≢false (sym (eq-eqb (unit_owner units.Refc) (number_of Ag) e))
  other_owner units.Free h e = true≢false (sym h)
  other_owner units.Rmap h e = true≢false (sym h)

  list_maps : is_beside unit ≡ true → slice_get (a.group g).free_list 0 ≡ Some b → SameChunks a (reserved left g unit b false a) → AreTuples (own (reserved left g unit b false a) g) → HaveNext (own (reserved left g unit b false a) g)
      → Holds a g units.Rmap → Holds (reserved left g unit b false a) g units.Rmap
  list_maps beside first chunks tx nx h =
      let x : State = reserved left g unit b false a in
      let alike : AlikeInodes a x = reserved_alike a left g unit b false splits out chunks in
      maps_kept a left g unit b false splits out (give_mapping (block_run (unit_owner unit) b) (take_mapping (block_run (number_of Ag) b) (rmap_of a g))) h
      (maps_turned a x g (unit_owner unit) b splits alike (from_list a left g unit b first) (reserve_now a left g unit b false) (other_owner unit beside) order.inside h.1 (plain_owner unit) order.tuples order.next tx nx)
      (λ blocks e. ap (λ i. i.reading) (list_edit a left g b ed unit beside)
      ∙ ap (λ (r : Reading RmapRec). (changed_index (gift a left g b ed unit) (changed_index (loss a left g b ed) (record { reading = r; trust = ((a.group g).tree Rmap).trust }))).reading) e)
      (clear_turned a x g (unit_owner unit) b splits alike (from_list a left g unit b first) (reserve_now a left g unit b false) (other_owner unit beside) order.inside h.1)

-- ---- free space

module _ (a : State) (left : List Kind) (g : ℕ) (unit : ScrubUnit) (b : ℕ) (fit : HasFitting a.geometry) (order : IsInOrder a g) where
  can_read : (k : Kind) → sick_in (a.group g) k ≡ false → is_readable ((a.group g).tree k).reading ≡ true
  can_read k h = elim (cases_Bool (is_readable ((a.group g).tree k).reading)) [
    | inl is ↦ is
    | inr isnt ↦ absurd (true≢false (sym (order.bad k isnt) ∙ h))
  ]

  -- the edit of free space by start meets no fault, so the run is there
  met_space : (u : ScrubUnit) → is_beside u ≡ true → leaves_faults a left (entries.Reserved g u b true) ≡ true → sick_in (a.group g) Bno ≡ false → is_among Bno left ≡ false → is_some (holder_of (records_in (a.group g) Bno) (span b 1)) ≡ true
  unfolding leaves_faults
  met_space units.Inode h faults sick there =
      none_lacks (is_some (holder_of (records_in (a.group g) Bno) (span b 1))) _
      (not_faulty (is_among Bno left) (is_fault (met_by a (entries.Reserved g units.Inode b true) Bno))
      (each_edited (λ k. is_among k left || not (is_fault (met_by a (entries.Reserved g units.Inode b true) k))) (is_edited [] (a.group g)) (Bno ∷ Cnt ∷ Rmap ∷ []) Bno faults (inl refl) (well_edited [] (a.group g) Bno sick refl)) there)
  met_space units.Refc h faults sick there =
      none_lacks (is_some (holder_of (records_in (a.group g) Bno) (span b 1))) _
      (not_faulty (is_among Bno left) (is_fault (met_by a (entries.Reserved g units.Refc b true) Bno))
      (each_edited (λ k. is_among k left || not (is_fault (met_by a (entries.Reserved g units.Refc b true) k))) (is_edited [] (a.group g)) (Bno ∷ Cnt ∷ Rmap ∷ []) Bno faults (inl refl) (well_edited [] (a.group g) Bno sick refl)) there)
  met_space units.Free h faults sick there = absurd (true≢false (sym h))
  met_space units.Rmap h faults sick there = absurd (true≢false (sym h))

  spare_space : is_beside unit ≡ true → is_spare a g unit b ≡ true → leaves_faults a left (entries.Reserved g unit b true) ≡ true → is_among Bno left ≡ false → is_among Cnt left ≡ false → is_among Rmap left ≡ false
      → IsGood a g units.Free → IsGood (reserved left g unit b true a) g units.Free
  spare_space beside is faults nb nc nr good =
      let x : State = reserved left g unit b true a in
      let sound = none_sick_there a g unit b beside is in
      let eb = well_edited left (a.group g) Bno sound.0 nb in
      let ec = well_edited left (a.group g) Cnt sound.1 nc in
      let er = well_edited left (a.group g) Rmap sound.2 nr in
      let len : ℕ = group_len_of a.geometry g in
      let maps : mappings x g ≡ give_mapping (block_run (unit_owner unit) b) (mappings a g) = ap (λ i. recs_of i.reading) (spare_edit a left g b er unit (gets unit beside)) ∙ recs_read (give_mapping (block_run (unit_owner unit) b)) ((a.group g).tree Rmap).reading (can_read Rmap sound.2) in
      let more : CoverMore (span b 1) (mappings a g) (mappings x g) = λ c. ap (λ (rs : List RmapRec). covers_at rs c) maps ∙ given_covers (block_run (unit_owner unit) b) (mappings a g) c (omega arith) in
      let listed : records_in (a.group g) Bno ≡ free_space len (mappings a g) = ap recs_of good.0.0.1 ∙ (derived_space a g).0 in
      let some = subst (λ (rs : List SpanRec). is_some (holder_of rs (span b 1)) ≡ true) listed (met_space unit beside faults sound.0 nb) in
      let starts = free_taken len (mappings a g) (mappings x g) (span b 1) (omega arith) more some in
      space_edited take_span a x g left (block_extent g b) (with_reserve unit b (a.group g)) fit (at a left g unit b true) (edit_is unit beside eb ec) starts (count_taken len (mappings a g) (span b 1) ∙ ap ordered_by_count starts) good
    where
      gets : (u : ScrubUnit) → is_beside u ≡ true → gets_owner u ≡ true
      gets units.Inode h = refl
      gets units.Refc h = refl
      gets units.Free h = refl
      gets units.Rmap h = h

      beside_maps : (u : ScrubUnit) (k : Kind) → is_beside u ≡ true → Not k Rmap → ((reserved left g u b true a).group g).tree k ≡ (spared left g b (a.group g) u).tree k
      beside_maps units.Inode k h n = ap (λ (r : Group). r.tree k) (now a left g units.Inode b true) ∙ edited left Rmap k (give_mapping (block_run (unit_owner units.Inode) b)) (spared left g b (a.group g) units.Inode) n
      beside_maps units.Refc k h n = ap (λ (r : Group). r.tree k) (now a left g units.Refc b true) ∙ edited left Rmap k (give_mapping (block_run (unit_owner units.Refc) b)) (spared left g b (a.group g) units.Refc) n
      beside_maps units.Free k h n = absurd (true≢false (sym h))
      beside_maps units.Rmap k h n = absurd (true≢false (sym h))

      counters_maps : (u : ScrubUnit) (name : Counter) → is_beside u ≡ true → ((reserved left g u b true a).group g).counters name ≡ (spared left g b (a.group g) u).counters name
      counters_maps units.Inode name h = ap (λ (r : Group). r.counters name) (now a left g units.Inode b true) ∙ ap (λ (c : Counter → ℕ). c name) (edit_counters left Rmap (give_mapping (block_run (unit_owner units.Inode) b)) (spared left g b (a.group g) units.Inode))
      counters_maps units.Refc name h = ap (λ (r : Group). r.counters name) (now a left g units.Refc b true) ∙ ap (λ (c : Counter → ℕ). c name) (edit_counters left Rmap (give_mapping (block_run (unit_owner units.Refc) b)) (spared left g b (a.group g) units.Refc))
      counters_maps units.Free name h = absurd (true≢false (sym h))
      counters_maps units.Rmap name h = absurd (true≢false (sym h))

      edit_is : (u : ScrubUnit) → is_beside u ≡ true → is_edited left (a.group g) Bno ≡ true → is_edited left (a.group g) Cnt ≡ true → FromEdit take_span a (reserved left g u b true a) g left (block_extent g b) (with_reserve u b (a.group g)) fit (at a left g u b true)
      edit_is u h eb ec = record {
        bno_was = refl;
        cnt_was = refl;
        bno_now = beside_maps u Bno h refl;
        cnt_now = beside_maps u Cnt h refl;
        freeblks_was = refl;
        freeblks_now = counters_maps u Freeblks h;
        longest_now = counters_maps u Longest h;
        roots_same = ap (λ (r : Group). r.counters Btreeblks) (now a left g u b true) ∙ steady_counter left g b (a.group g) u true Btreeblks refl;
        counted = λ k. ap (λ (r : Group). blocks_counted (r.tree k).reading) (now a left g u b true) ∙ counted_stay left g b (a.group g) u true k;
        bno_edited = eb;
        cnt_edited = ec;
      }

  -- a block of the list that gets another owner: its blocks are covered as before
  met_maps : (u : ScrubUnit) → is_beside u ≡ true → leaves_faults a left (entries.Reserved g u b false) ≡ true → is_edited left (a.group g) Rmap ≡ true → list_any (λ r. holds r (block_run (number_of Ag) b)) (mappings a g) ≡ true
  unfolding leaves_faults
  met_maps units.Inode h faults ed =
      some_holds (block_run (number_of Ag) b) (mappings a g)
      (is_not (is_some (find (λ r. holds r (block_run (number_of Ag) b)) (mappings a g)))
      (either_false _ _
      (not_faulty (is_among Rmap left) (is_fault (met_by a (entries.Reserved g units.Inode b false) Rmap))
      (each_edited (λ k. is_among k left || not (is_fault (met_by a (entries.Reserved g units.Inode b false) k))) (is_edited [] (a.group g)) (Rmap ∷ []) Rmap faults (inl refl) (well_edited [] (a.group g) Rmap (not_sick left (a.group g) Rmap ed) refl))
      (not_left left (a.group g) Rmap ed))).0)
  met_maps units.Refc h faults ed =
      some_holds (block_run (number_of Ag) b) (mappings a g)
      (is_not (is_some (find (λ r. holds r (block_run (number_of Ag) b)) (mappings a g)))
      (either_false _ _
      (not_faulty (is_among Rmap left) (is_fault (met_by a (entries.Reserved g units.Refc b false) Rmap))
      (each_edited (λ k. is_among k left || not (is_fault (met_by a (entries.Reserved g units.Refc b false) k))) (is_edited [] (a.group g)) (Rmap ∷ []) Rmap faults (inl refl) (well_edited [] (a.group g) Rmap (not_sick left (a.group g) Rmap ed) refl))
      (not_left left (a.group g) Rmap ed))).0)
  met_maps units.Free h faults ed = absurd (true≢false (sym h))
  met_maps units.Rmap h faults ed = absurd (true≢false (sym h))

  unmapped_edit : (u : ScrubUnit) → is_beside u ≡ true → is_edited left (a.group g) Rmap ≡ false → ((reserved left g u b false a).group g).tree Rmap ≡ (a.group g).tree Rmap
  unmapped_edit units.Inode h none = ap (λ (r : Group). r.tree Rmap) (now a left g units.Inode b false) ∙ ap (λ (r : Group). r.tree Rmap) (turned_none units.Inode none)
    where
      turned_none : (u : ScrubUnit) → is_edited left (a.group g) Rmap ≡ false → give_owner left (unit_owner u) (block_extent g b) (take_owner left (number_of Ag) (block_extent g b) (off_list u b (a.group g))) ≡ off_list u b (a.group g)
      turned_none u n =
          ap (give_owner left (unit_owner u) (block_extent g b)) (edit_none left Rmap (take_mapping (block_run (number_of Ag) b)) (off_list u b (a.group g)) n)
          ∙ edit_none left Rmap (give_mapping (block_run (unit_owner u) b)) (off_list u b (a.group g)) n
  unmapped_edit units.Refc h none = ap (λ (r : Group). r.tree Rmap) (now a left g units.Refc b false) ∙ ap (λ (r : Group). r.tree Rmap) (turned_none units.Refc none)
    where
      turned_none : (u : ScrubUnit) → is_edited left (a.group g) Rmap ≡ false → give_owner left (unit_owner u) (block_extent g b) (take_owner left (number_of Ag) (block_extent g b) (off_list u b (a.group g))) ≡ off_list u b (a.group g)
      turned_none u n =
          ap (give_owner left (unit_owner u) (block_extent g b)) (edit_none left Rmap (take_mapping (block_run (number_of Ag) b)) (off_list u b (a.group g)) n)
          ∙ edit_none left Rmap (give_mapping (block_run (unit_owner u) b)) (off_list u b (a.group g)) n
  unmapped_edit units.Free h none = absurd (true≢false (sym h))
  unmapped_edit units.Rmap h none = absurd (true≢false (sym h))

  list_covers : is_beside unit ≡ true → leaves_faults a left (entries.Reserved g unit b false) ≡ true → (c : ℕ) → covers_at (mappings (reserved left g unit b false a) g) c ≡ covers_at (mappings a g) c
  list_covers beside faults c = elim (cases_Bool (is_edited left (a.group g) Rmap)) [
    | inl ed ↦
        let read = can_read Rmap (not_sick left (a.group g) Rmap ed) in
        let new : List RmapRec = take_mapping (block_run (number_of Ag) b) (mappings a g) in
        let given = given_covers (block_run (unit_owner unit) b) new c (omega arith) in
        let taken = taken_covers (block_run (number_of Ag) b) (mappings a g) c (omega arith) (met_maps unit beside faults ed) in
        let maps : mappings (reserved left g unit b false a) g ≡ give_mapping (block_run (unit_owner unit) b) new = ap (λ i. recs_of i.reading) (list_edit a left g b ed unit beside) ∙ two_recs a left g b ed unit ((a.group g).tree Rmap).reading read in
        ap (λ (rs : List RmapRec). covers_at rs c) maps ∙ back (covers_at (give_mapping (block_run (unit_owner unit) b) new) c) (covers_at new c) (at_span b 1 c) (covers_at (mappings a g) c) given taken
    | inr none ↦ ap (λ i. covers_at (recs_of i.reading) c) (unmapped_edit unit beside none)
  ]
    where
      back : (x y s z : ℕ) → x ≡ y + s → y + s ≡ z → x ≡ z
      back x y s z e f = omega (arith, e, f)

  turn_tree : (u : ScrubUnit) (k : Kind) → Not k Rmap → ((reserved left g u b false a).group g).tree k ≡ (a.group g).tree k
  turn_tree units.Inode k n = ap (λ (r : Group). r.tree k) (now a left g units.Inode b false)
      ∙ edited left Rmap k (give_mapping (block_run (unit_owner units.Inode) b)) (take_owner left (number_of Ag) (block_extent g b) (off_list units.Inode b (a.group g))) n
      ∙ edited left Rmap k (take_mapping (block_run (number_of Ag) b)) (off_list units.Inode b (a.group g)) n
  turn_tree units.Refc k n = ap (λ (r : Group). r.tree k) (now a left g units.Refc b false)
      ∙ edited left Rmap k (give_mapping (block_run (unit_owner units.Refc) b)) (take_owner left (number_of Ag) (block_extent g b) (off_list units.Refc b (a.group g))) n
      ∙ edited left Rmap k (take_mapping (block_run (number_of Ag) b)) (off_list units.Refc b (a.group g)) n
  turn_tree units.Free k n = ap (λ (r : Group). r.tree k) (now a left g units.Free b false)
  turn_tree units.Rmap k n = ap (λ (r : Group). r.tree k) (now a left g units.Rmap b false)

  turn_counter : (u : ScrubUnit) (name : Counter) → ((reserved left g u b false a).group g).counters name ≡ (a.group g).counters name
  turn_counter units.Inode name = ap (λ (r : Group). r.counters name) (now a left g units.Inode b false)
      ∙ ap (λ (c : Counter → ℕ). c name) (edit_counters left Rmap (give_mapping (block_run (unit_owner units.Inode) b)) (take_owner left (number_of Ag) (block_extent g b) (off_list units.Inode b (a.group g))) ∙ edit_counters left Rmap (take_mapping (block_run (number_of Ag) b)) (off_list units.Inode b (a.group g)))
  turn_counter units.Refc name = ap (λ (r : Group). r.counters name) (now a left g units.Refc b false)
      ∙ ap (λ (c : Counter → ℕ). c name) (edit_counters left Rmap (give_mapping (block_run (unit_owner units.Refc) b)) (take_owner left (number_of Ag) (block_extent g b) (off_list units.Refc b (a.group g))) ∙ edit_counters left Rmap (take_mapping (block_run (number_of Ag) b)) (off_list units.Refc b (a.group g)))
  turn_counter units.Free name = ap (λ (r : Group). r.counters name) (now a left g units.Free b false)
  turn_counter units.Rmap name = ap (λ (r : Group). r.counters name) (now a left g units.Rmap b false)

  list_space : is_beside unit ≡ true → leaves_faults a left (entries.Reserved g unit b false) ≡ true → IsGood a g units.Free → IsGood (reserved left g unit b false a) g units.Free
  list_space beside faults good =
      space_unchanged a (reserved left g unit b false a) g (at a left g unit b false) (turn_tree unit Bno refl) (turn_tree unit Cnt refl) (turn_counter unit Freeblks) (turn_counter unit Longest) (turn_counter unit Btreeblks)
      (λ k. ap (λ (r : Group). blocks_counted (r.tree k).reading) (now a left g unit b false) ∙ counted_stay left g b (a.group g) unit false k)
      (same_free (group_len_of a.geometry g) (mappings a g) (mappings (reserved left g unit b false a) g) (list_covers beside faults)) good

-- ---- all of it

own_edits : (unit : ScrubUnit) (spare : Bool) → list_all is_own (edits_reserve unit spare) ≡ true
own_edits units.Inode true = refl
own_edits units.Inode false = refl
own_edits units.Rmap true = refl
own_edits units.Rmap false = refl
own_edits units.Free true = refl
own_edits units.Free false = refl
own_edits units.Refc true = refl
own_edits units.Refc false = refl

module _ (a b : State) (left : List Kind) (g : ℕ) (own_unit : ScrubUnit) (block : ℕ) (spare : Bool) (fit : HasFitting a.geometry) (s : Step a left (entries.Reserved g own_unit block spare) b) (chunks : SameChunks a b) (out : is_chunk a g (block / 8) ≡ false)
    (oa : IsInOrder a g) (ob : IsInOrder b g) where
  abbrev there : State
  there = reserved left g own_unit block spare a

  abbrev ks : List Kind
  ks = edited_in a left (entries.Reserved g own_unit block spare)

  loosely : Loosely g left ks a there b
  loosely = subst (λ (y : State). Loosely g left ks a y b) s.row.1 s.loosely

  own_ks : list_all is_own ks ≡ true
  own_ks = filter_own (is_edited left (a.group g)) (edits_reserve own_unit spare) (own_edits own_unit spare)

  splits_there : Splits there.geometry
  splits_there = subst Splits (sym (at a left g own_unit block spare)) (splits_in a.geometry fit)

  -- what holds in the state that the entry decides holds behind it
  frame : AreBlocks (there.group g) → (unit : ScrubUnit) → (AreTuples (own there g) → HaveNext (own there g) → IsTrusted a g unit → Holds a g unit → Holds there g unit) → Stands a g unit → Stands b g unit
  frame blocks unit keep stands trusted =
      let words = reserved_words a left g own_unit block spare (splits_in a.geometry fit) out oa in
      let same = loose_own a there b g left ks splits_there own_ks words blocks ob.blocks loosely in
      let before : IsTrusted a g unit = was_trusted a b g unit (λ k. loose_trust a there b g left ks own_ks blocks loosely k ∙ reserved_trust a left g own_unit block spare (splits_in a.geometry fit) out k) trusted in
      moves_keep a there b g left ks unit splits_there own_ks words blocks ob.blocks loosely (keep (subst AreTuples same ob.tuples) (subst HaveNext same ob.next) before (stands before))

  chunks_there : SameChunks a there
  chunks_there = loose_chunks a there b g left ks loosely chunks

none_of : (left : List Kind) (k : Kind) (rest : Bool) → (is_among k left || rest) ≡ false → (is_among k left ≡ false) × (rest ≡ false)
none_of left k rest h = either_false (is_among k left) rest h

-- a spare block, by the unit that is kept
spare_kept : (a b : State) (left : List Kind) (g : ℕ) (own_unit : ScrubUnit) (block : ℕ) (unit : ScrubUnit) → HasFitting a.geometry → (s : Step a left (entries.Reserved g own_unit block true) b) → SameChunks a b → is_chunk a g (block / 8) ≡ false
    → IsInOrder a g → IsInOrder b g → ends_known own_unit true unit ≡ false → AreMade left unit → Stands a g unit → Stands b g unit
spare_kept a b left g own_unit block units.Inode fit s chunks out oa ob ends made stands =
    reserved_keeps a b left g own_unit block true g units.Inode (splits_in a.geometry fit) s chunks out oa.words (inr (eq-eqb g g refl, refl)) stands
spare_kept a b left g own_unit block units.Refc fit s chunks out oa ob ends made stands =
    frame a b left g own_unit block true fit s chunks out oa ob (spare_blocks a left g own_unit block oa.blocks) units.Refc
    (λ tx nx t h. counts_kept a left g own_unit block true (splits_in a.geometry fit) out h) stands
spare_kept a b left g own_unit block units.Rmap fit s chunks out oa ob ends made stands =
    frame a b left g own_unit block true fit s chunks out oa ob (spare_blocks a left g own_unit block oa.blocks) units.Rmap
    (λ tx nx t h. spare_maps a left g own_unit block fit out oa (good_edited left (a.group g) Rmap t.0 (none_of left Rmap false made).0) (gets own_unit ends) (is_found a g own_unit block s.row.0.2)
    (chunks_there a b left g own_unit block true fit s chunks out oa ob) tx nx h) stands
  where
    gets : (u : ScrubUnit) → ends_known u true units.Rmap ≡ false → gets_owner u ≡ true
    gets units.Inode e = refl
    gets units.Refc e = refl
    gets units.Free e = refl
    gets units.Rmap e = absurd (true≢false e)
spare_kept a b left g own_unit block units.Free fit s chunks out oa ob ends made stands =
    let nb = none_of left Bno (is_among Cnt left || (is_among Rmap left || false)) made in
    let nc = none_of left Cnt (is_among Rmap left || false) nb.1 in
    let nr = none_of left Rmap false nc.1 in
    frame a b left g own_unit block true fit s chunks out oa ob (spare_blocks a left g own_unit block oa.blocks) units.Free
    (λ tx nx t h. spare_space a left g own_unit block fit oa (beside own_unit ends) (is_found a g own_unit block s.row.0.2) s.met nb.0 nc.0 nr.0 h) stands
  where
    beside : (u : ScrubUnit) → ends_known u true units.Free ≡ false → is_beside u ≡ true
    beside units.Inode e = refl
    beside units.Refc e = refl
    beside units.Free e = absurd (true≢false e)
    beside units.Rmap e = absurd (true≢false e)

-- a block of the list that gets the owner of a rebuilt tree
turn_kept : (a b : State) (left : List Kind) (g : ℕ) (own_unit : ScrubUnit) (block : ℕ) (unit : ScrubUnit) → is_beside own_unit ≡ true → HasFitting a.geometry → (s : Step a left (entries.Reserved g own_unit block false) b) → SameChunks a b → is_chunk a g (block / 8) ≡ false
    → IsInOrder a g → IsInOrder b g → AreMade left unit → Stands a g unit → Stands b g unit
turn_kept a b left g own_unit block units.Inode beside fit s chunks out oa ob made stands =
    reserved_keeps a b left g own_unit block false g units.Inode (splits_in a.geometry fit) s chunks out oa.words (inr (eq-eqb g g refl, refl)) stands
turn_kept a b left g own_unit block units.Refc beside fit s chunks out oa ob made stands =
    frame a b left g own_unit block false fit s chunks out oa ob (list_blocks a left g own_unit block s.row.0.1 oa.blocks) units.Refc
    (λ tx nx t h. counts_kept a left g own_unit block false (splits_in a.geometry fit) out h) stands
turn_kept a b left g own_unit block units.Rmap beside fit s chunks out oa ob made stands =
    frame a b left g own_unit block false fit s chunks out oa ob (list_blocks a left g own_unit block s.row.0.1 oa.blocks) units.Rmap
    (λ tx nx t h. list_maps a left g own_unit block fit out oa (good_edited left (a.group g) Rmap t.0 (none_of left Rmap false made).0) beside s.row.0.1
    (chunks_there a b left g own_unit block false fit s chunks out oa ob) tx nx h) stands
turn_kept a b left g own_unit block units.Free beside fit s chunks out oa ob made stands =
    frame a b left g own_unit block false fit s chunks out oa ob (list_blocks a left g own_unit block s.row.0.1 oa.blocks) units.Free
    (λ tx nx t h. list_space a left g own_unit block fit oa beside s.met h) stands

pub reserved_keeps_own : ReservedKeepsOwn
reserved_keeps_own a b left g own_unit block true unit fit s chunks out oa ob ends made stands = spare_kept a b left g own_unit block unit fit s chunks out oa ob ends made stands
reserved_keeps_own a b left g units.Inode block false unit fit s chunks out oa ob ends made stands = turn_kept a b left g units.Inode block unit refl fit s chunks out oa ob made stands
reserved_keeps_own a b left g units.Refc block false unit fit s chunks out oa ob ends made stands = turn_kept a b left g units.Refc block unit refl fit s chunks out oa ob made stands
reserved_keeps_own a b left g units.Free block false unit fit s chunks out oa ob ends made stands = listed_keeps a b left g units.Free block g unit (splits_in a.geometry fit) (inl refl) s chunks out stands
reserved_keeps_own a b left g units.Rmap block false unit fit s chunks out oa ob ends made stands = listed_keeps a b left g units.Rmap block g unit (splits_in a.geometry fit) (inr refl) s chunks out stands

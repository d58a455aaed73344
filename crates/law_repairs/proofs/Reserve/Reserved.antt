-- A reserved block keeps what holds of the units of its own group, one by one.
use Rattle.std.proofs.Common.{◌≡◌, ℕ, ◌+◌, ◌<◌, ◌≤◌, ◌==◌, ◌&&◌, ◌||◌, Bool, true, false, cond, not, List, [], ◌∷◌, ◌++◌, map, drop, find, filter, flat_map, refl, ap, ap₂, sym, subst, ◌∙◌, inl, inr, arith, Option, Some, None, eqb-true}
use Rattle.std.specs.Prelude.{◌⊎◌, ◌/◌, ◌^◌, nat_le, nat_lt, length, is_some, slice_get, if◌then◌else◌}
use Rattle.std.specs.List.{list_all, list_any}
use Rattle.std.proofs.lemmas.Bool.{and_parts, cases_Bool, true≢false}
use Rattle.std.proofs.lemmas.Bool.Decides.{nat_tests}
use Rattle.derive_defs.specs.Free.{free_space, is_free as is_uncovered, run_of}
use Rattle.derive_defs.specs.Mappings.{covers}
use Rattle.derive_defs.specs.Shared.{shared_space}
use Rattle.derive_defs.proofs.SpaceLemmas.{are_free}
use Rattle.fs_change.proofs.Trees.{edited}
use Rattle.fs_change.specs.Changes.{block_extent, give_owner, plain_run, reserved, take_owner}
use Rattle.fs_change.specs.Choice.{is_guarded, is_spare, none_sick, space_kinds, spare_block, has_claim, in_spans}
use Rattle.fs_change.specs.Edited.{edits_reserve, leaves_faults, met_by, met_by_reserve}
use Rattle.fs_change.specs.Loose.{pool_of, tree_blocks}
use Rattle.fs_change.specs.Met.{is_fault, met_gaining, met_losing}
use Rattle.fs_change.specs.Parts.{edit, is_edited, no_forks, records_in, sick_in, with_recs}
use Rattle.fs_change.specs.Records.{by_start, give_mapping, holder_of, span, take_mapping, take_span}
use Rattle.fs_change.specs.Switch.{owned_by as with_owner, unit_owner}
use Rattle.fs_state.specs.Claims.{claims, metadata_claims}
use Rattle.fs_state.specs.Derive.{bno_of, derive, mappings, refc_of}
use Rattle.fs_state.specs.Faults.{blocks_counted, wanted}
use Rattle.fs_state.specs.Records.{all_kinds}
use Rattle.fs_state.specs.Laws.{IsGood, IsGoodTree}
use Rattle.fs_state.specs.Lists.{numbers}
use Rattle.fs_state.specs.Own.{own, rmap_of}
use Rattle.fs_model.specs.declared.entry.Entry.TheVariants as entries
use Rattle.fs_model.specs.declared.entry.Extent.{Extent}
use Rattle.fs_model.specs.declared.fault.Counter.TheVariants.{Iblocks, Fblocks, RmapBlocks, Freeblks, Longest, Btreeblks, RefcountBlocks}
use Rattle.fs_model.specs.declared.unit.Unit.{Unit as ScrubUnit}
use Rattle.fs_model.specs.declared.unit.Unit.TheVariants as units
use Rattle.fs_state.specs.Apart.{is_chunk, is_free, is_inode}
use Rattle.fs_state.specs.Group.{is_among}
use Rattle.fs_state.specs.Frame.{SameFork}
use Rattle.fs_state.specs.State.{State, Group, Owned, Readable, Reading, Unreadable, blocks_in, is_readable, recs_of}
use Rattle.geom.specs.Apart.{HasFitting, Splits}
use Rattle.geom.specs.Layout.{group_len_of}
use Rattle.rmap_recs.proofs.RisingLemmas.{any_found, any_here, found_by_find}
use Rattle.rmap_recs.specs.Owners.{is_inode as is_file, number_of}
use Rattle.rmap_recs.specs.Runs.{AreTuples, HaveNext}
use Rattle.rmap_recs.specs.declared.owner.Owner.TheVariants.{Ag}
use Rattle.rmap_recs.specs.declared.records.RmapRec.{RmapRec}
use Rattle.run_edits.specs.Edits.{holds}
use Rattle.run_sets.specs.Runs.{holds as lies_in}
use Rattle.sblock.specs.declared.kind.Kind.{Kind}
use Rattle.sblock.specs.declared.kind.Kind.TheVariants.{Bno, Cnt, Rmap, Refc, Ino, Fino}
use Rattle.span_recs.specs.declared.span.SpanRec.{SpanRec}
use Rattle.tree_defs.specs.Lists.{AllDiffer, times}
use Rattle.law_accounts.proofs.Account.Covers.{given_covers, taken_covers}
use Rattle.law_accounts.specs.Account.Accounts.{at_span, covers_at}
use Rattle.law_accounts.proofs.Edit.Counts.{shared_given, shared_taken}
use Rattle.law_accounts.proofs.Edit.Orders.{count_taken}
use Rattle.law_accounts.proofs.Edit.Spaces.{free_taken, same_free}
use Rattle.law_repairs.specs.Repair.Alike.{AlikeInodes}
use Rattle.law_repairs.specs.Repair.Letters.{Holds, IsClear}
use Rattle.law_repairs.specs.Repair.Moves.{SameChunks}
use Rattle.law_repairs.specs.Repair.Owners.{LieInside}
use Rattle.law_repairs.proofs.Repair.Groups.{same_fork}
use Rattle.law_repairs.proofs.Repair.Pieces.{not_there}
use Rattle.law_repairs.proofs.Repair.Same.{good_stays, is_inode_of, refc_blocks}
use Rattle.law_repairs.specs.Move.Moving.{AreBlockWords}
use Rattle.law_repairs.specs.Move.Order.{AreBlocks, IsInOrder}
use Rattle.law_repairs.proofs.Move.Edits.{changed_index, each_edited, edit_at, edit_none, none_lacks, not_faulty, not_sick, same_edited, space_beside, spaced_group, well_edited}
use Rattle.law_repairs.proofs.Reserve.Owning.{block_run, clear_given, maps_given, nobodys, runs_now}
use Rattle.law_repairs.proofs.Reserve.Reserving.{blocks_stay, counted_stay, limbo_stays, list_steady, off_list, reads_stay, refc_stays, reserve_grows, reserved_group, reserved_in, spare_held, spare_steady, spared, steady_counter, trust_stays, with_reserve}
use Rattle.law_repairs.proofs.Move.Space.{FromEdit, space_edited, space_unchanged}
use Rattle.law_repairs.proofs.Move.Steps.{Steady}
use Rattle.law_repairs.proofs.Reserve.Turning.{FromList, clear_turned, first_is, maps_turned}

-- no unit's owner is an inode
pub plain_owner : (unit : ScrubUnit) → is_file (unit_owner unit) ≡ false
plain_owner units.Inode = refl
plain_owner units.Rmap = refl
plain_owner units.Free = refl
plain_owner units.Refc = refl

-- ---- what reference counts are read off

pub recs_read : {R : Type 0} (f : List R → List R) (r : Reading R) → is_readable r ≡ true → recs_of (with_recs (f (recs_of r)) r) ≡ f (recs_of r)
recs_read f (Readable recs blocks) h = refl
recs_read f (Unreadable block fault claims) h = absurd (true≢false (sym h))

pub edit_shared : (left : List Kind) (f : List RmapRec → List RmapRec) (p : Group) → ((ms : List RmapRec) → shared_space (f ms) ≡ shared_space ms) → shared_space (records_in (edit left Rmap f p) Rmap) ≡ shared_space (records_in p Rmap)
edit_shared left f p same = elim (cases_Bool (is_edited left p Rmap)) [
  | inl is ↦ ap (λ i. shared_space (recs_of i.reading)) (edit_at left Rmap f p is) ∙ by (p.tree Rmap).reading
  | inr isnt ↦ ap (λ (q : Group). shared_space (records_in q Rmap)) (edit_none left Rmap f p isnt)
]
  where
    by : (r : Reading RmapRec) → shared_space (recs_of (with_recs (f (recs_of r)) r)) ≡ shared_space (recs_of r)
    by (Readable recs blocks) = same recs
    by (Unreadable block fault claims) = refl

module _ (left : List Kind) (g b : ℕ) (p : Group) where
  abbrev run : ScrubUnit → RmapRec
  run unit = plain_run (unit_owner unit) (block_extent g b)

  abbrev listed_run : RmapRec
  listed_run = plain_run (number_of Ag) (block_extent g b)

  gift_shared : (unit : ScrubUnit) (q : Group) → shared_space (records_in (give_owner left (unit_owner unit) (block_extent g b) q) Rmap) ≡ shared_space (records_in q Rmap)
  gift_shared unit q = edit_shared left (give_mapping (run unit)) q (λ ms. shared_given (run unit) ms (plain_owner unit))

  loss_shared : (q : Group) → shared_space (records_in (take_owner left (number_of Ag) (block_extent g b) q) Rmap) ≡ shared_space (records_in q Rmap)
  loss_shared q = edit_shared left (take_mapping listed_run) q (λ ms. shared_taken listed_run ms refl)

  space_shared : (unit : ScrubUnit) → shared_space (records_in (spared left g b p unit) Rmap) ≡ shared_space (records_in p Rmap)
  space_shared unit = ap (λ i. shared_space (recs_of i.reading)) (space_beside take_span left (block_extent g b) (with_reserve unit b p) Rmap refl refl)

  pub shared_stays : (unit : ScrubUnit) (spare : Bool) → shared_space (records_in (reserved_group left g unit b spare p) Rmap) ≡ shared_space (records_in p Rmap)
  shared_stays units.Inode true = gift_shared units.Inode (spared left g b p units.Inode) ∙ space_shared units.Inode
  shared_stays units.Refc true = gift_shared units.Refc (spared left g b p units.Refc) ∙ space_shared units.Refc
  shared_stays units.Rmap true = space_shared units.Rmap
  shared_stays units.Free true = gift_shared units.Free (with_reserve units.Free b p)
  shared_stays units.Inode false = gift_shared units.Inode (take_owner left (number_of Ag) (block_extent g b) (off_list units.Inode b p)) ∙ loss_shared (off_list units.Inode b p)
  shared_stays units.Refc false = gift_shared units.Refc (take_owner left (number_of Ag) (block_extent g b) (off_list units.Refc b p)) ∙ loss_shared (off_list units.Refc b p)
  shared_stays units.Rmap false = refl
  shared_stays units.Free false = refl

-- ---- blocks that no mapping covers

unguarded : (b : ℕ) (recs : List RmapRec) → is_guarded recs b 1 ≡ false → list_any (covers b) recs ≡ false
unfolding is_guarded
unguarded b [] h = refl
unguarded b (r ∷ recs) h =
    let e = neither (nat_lt 0 r.count && (nat_lt r.start (b + 1) && nat_lt b (r.start + r.count))) (list_any (λ s. nat_lt 0 s.count && (nat_lt s.start (b + 1) && nat_lt b (s.start + s.count))) recs) h in
    ap₂ (λ (x y : Bool). x || y) (one r e.0) (unguarded b recs e.1)
  where
    neither : (x y : Bool) → (x || y) ≡ false → (x ≡ false) × (y ≡ false)
    neither true y e = absurd (true≢false e)
    neither false y e = (refl, e)

    one : (r : RmapRec) → (nat_lt 0 r.count && (nat_lt r.start (b + 1) && nat_lt b (r.start + r.count))) ≡ false → covers b r ≡ false
    one r e = grind (arith, nat_tests)

not_free : (k : Bool) → not k ≡ true → k ≡ false
not_free true h = absurd (true≢false (sym h))
not_free false h = refl

spanned : (b : ℕ) (rs : List SpanRec) → is_free rs b ≡ lies_in (map run_of rs) b
unfolding is_free
spanned b [] = refl
spanned b (r ∷ rs) = ap (λ (k : Bool). (nat_le r.start b && nat_lt b (r.start + r.count)) || k) (spanned b rs)

free_uncovered : (a : State) (g b : ℕ) → in_spans (bno_of a g) b ≡ true → list_any (covers b) (mappings a g) ≡ false
unfolding bno_of is_uncovered
free_uncovered a g b h =
    let len : ℕ = group_len_of a.geometry g in
    let e = (are_free len (mappings a g) (free_space len (mappings a g)) refl).exact b in
    not_free (list_any (covers b) (mappings a g)) (and_parts (nat_lt b len) (not (list_any (covers b) (mappings a g))) (sym e ∙ sym (spanned b (free_space len (mappings a g))) ∙ h)).1

first_of : (p q r s : Bool) → (p && q && r && s) ≡ true → p ≡ true
first_of true q r s h = refl
first_of false q r s h = h

third_of : (p q r s : Bool) → (p && q && r && s) ≡ true → r ≡ true
third_of true true true s h = refl
third_of true true false s h = absurd (true≢false (sym h))
third_of true false r s h = absurd (true≢false (sym h))
third_of false q r s h = absurd (true≢false (sym h))

three : (p q r : Bool) → not (p || (q || (r || false))) ≡ true → (p ≡ false) × (q ≡ false) × (r ≡ false)
three true q r h = absurd (true≢false (sym h))
three false true r h = absurd (true≢false (sym h))
three false false true h = absurd (true≢false (sym h))
three false false false h = (refl, refl, refl)

-- what is known of a spare block
pub is_found : (a : State) (g : ℕ) (unit : ScrubUnit) (b : ℕ) → spare_block a g unit ≡ Some b → is_spare a g unit b ≡ true
unfolding spare_block
is_found a g unit b h = (found_by_find (is_spare a g unit) (numbers 0 (group_len_of a.geometry g)) b h).1

-- units whose spare block gets an owner
abbrev pub gets_owner : ScrubUnit → Bool
gets_owner units.Inode = true
gets_owner units.Refc = true
gets_owner units.Free = true
gets_owner units.Rmap = false

-- and whose spare block leaves free space
abbrev pub is_beside : ScrubUnit → Bool
is_beside units.Inode = true
is_beside units.Refc = true
is_beside units.Free = false
is_beside units.Rmap = false

none_sick_beside : (a : State) (g : ℕ) (b : ℕ) → is_spare a g units.Inode b ≡ true → (sick_in (a.group g) Bno ≡ false) × (sick_in (a.group g) Cnt ≡ false) × (sick_in (a.group g) Rmap ≡ false)
unfolding is_spare
none_sick_beside a g b h =
    three (sick_in (a.group g) Bno) (sick_in (a.group g) Cnt) (sick_in (a.group g) Rmap)
    (first_of (none_sick space_kinds (a.group g)) (in_spans (records_in (a.group g) Bno) b) (not (is_guarded (records_in (a.group g) Rmap) b 1)) (not (has_claim (metadata_claims a g) b)) h)

pub none_sick_there : (a : State) (g : ℕ) (unit : ScrubUnit) (b : ℕ) → is_beside unit ≡ true → is_spare a g unit b ≡ true → (sick_in (a.group g) Bno ≡ false) × (sick_in (a.group g) Cnt ≡ false) × (sick_in (a.group g) Rmap ≡ false)
unfolding is_spare
none_sick_there a g units.Inode b beside h = none_sick_beside a g b h
none_sick_there a g units.Refc b beside h = none_sick_beside a g b h
none_sick_there a g units.Free b beside h = absurd (true≢false (sym beside))
none_sick_there a g units.Rmap b beside h = absurd (true≢false (sym beside))

uncovered_beside : (a : State) (g : ℕ) (b : ℕ) → is_spare a g units.Inode b ≡ true → list_any (covers b) (mappings a g) ≡ false
unfolding is_spare
uncovered_beside a g b h = unguarded b (mappings a g) (not_free (is_guarded (mappings a g) b 1) (third_of (none_sick space_kinds (a.group g)) (in_spans (records_in (a.group g) Bno) b) (not (is_guarded (records_in (a.group g) Rmap) b 1)) (not (has_claim (metadata_claims a g) b)) h))

pub spare_uncovered : (a : State) (g : ℕ) (unit : ScrubUnit) (b : ℕ) → gets_owner unit ≡ true → is_spare a g unit b ≡ true → list_any (covers b) (mappings a g) ≡ false
unfolding is_spare
spare_uncovered a g units.Inode b gets h = uncovered_beside a g b h
spare_uncovered a g units.Refc b gets h = uncovered_beside a g b h
spare_uncovered a g units.Free b gets h = free_uncovered a g b (and_parts (not (sick_in (a.group g) Rmap)) (in_spans (bno_of a g) b) h).1
spare_uncovered a g units.Rmap b gets h = absurd (true≢false (sym gets))

-- ---- the state that a reserved block decides

module _ (a : State) (left : List Kind) (g : ℕ) (unit : ScrubUnit) (b : ℕ) (spare : Bool) (splits : Splits a.geometry) (out : is_chunk a g (b / 8) ≡ false) where
  abbrev p : Group
  p = a.group g

  abbrev x : State
  x = reserved left g unit b spare a

  abbrev q : Group
  q = reserved_group left g unit b spare p

  at : x.geometry ≡ a.geometry
  unfolding reserved
  at = refl

  now : x.group g ≡ q
  now = reserved_in left g unit b spare a

  pub reserved_alike : SameChunks a x → AlikeInodes a x
  unfolding reserved
  reserved_alike chunks = record {
    geometry = refl;
    chunks = chunks;
    cores = λ ino is. ap (λ (t : Bool). cond t None (a.core ino)) (not_there a g b ino out is);
    forks = λ ino f i. subst (λ (t : Bool). SameFork (a.fork ino f) ((cond t no_forks (a.fork ino)) f)) (sym (not_there a g b ino out (is_inode_of a splits ino i))) (same_fork (a.fork ino f));
  }

  pub reserved_words : IsInOrder a g → AreBlockWords (x.group g)
  reserved_words order = record {
    ino = subst (λ (n : ℕ). n < 2 ^ 32) (sym (ap (λ (r : Group). r.counters Iblocks) now ∙ steady_counter left g b p unit spare Iblocks refl)) (order.words Iblocks);
    fino = subst (λ (n : ℕ). n < 2 ^ 32) (sym (ap (λ (r : Group). r.counters Fblocks) now ∙ steady_counter left g b p unit spare Fblocks refl)) (order.words Fblocks);
    refc = subst (λ (n : ℕ). n < 2 ^ 32) (sym (ap (λ (r : Group). r.counters RefcountBlocks) now ∙ steady_counter left g b p unit spare RefcountBlocks refl)) (order.words RefcountBlocks);
  }

  pub reserved_trust : (k : Kind) → ((x.group g).tree k).trust ≡ (p.tree k).trust
  reserved_trust k = ap (λ (r : Group). (r.tree k).trust) now ∙ trust_stays left g b p unit spare k

  -- ---- reference counts

  pub counts_kept : IsGood a g units.Refc → IsGood x g units.Refc
  unfolding derive refc_of
  counts_kept good =
      let same : ((x.group g).tree Refc).reading ≡ (p.tree Refc).reading = ap (λ (r : Group). (r.tree Refc).reading) now ∙ ap (λ i. i.reading) (refc_stays left g b p unit spare) in
      good_stays a x g units.Refc (record { reading = same; derived = read_off }, tt)
      (record { kept = ap (λ (r : Group). r.counters RefcountBlocks) now ∙ steady_counter left g b p unit spare RefcountBlocks refl; wanted_same = refc_blocks a x g at same }, tt) good
    where
      read_off : derive x g Refc ≡ derive a g Refc
      read_off = ap (λ (r : Group). shared_space (records_in r Rmap)) now ∙ shared_stays left g b p unit spare

  counted : (k : Kind) → blocks_counted ((x.group g).tree k).reading ≡ blocks_counted (p.tree k).reading
  counted k = ap (λ (r : Group). blocks_counted (r.tree k).reading) now ∙ counted_stay left g b p unit spare k

  -- ---- reverse mappings that were edited so

  abbrev owner : ℕ
  owner = unit_owner unit

  derived_maps : (s : State) → rmap_of s g ≡ derive s g Rmap
  unfolding derive
  derived_maps s = refl

  maps_were : Holds a g units.Rmap → (blocks : List ℕ) × ((p.tree Rmap).reading ≡ Readable (rmap_of a g) blocks)
  maps_were h = (h.0.0.0.0, h.0.0.0.1 ∙ ap (λ (rs : List RmapRec). Readable rs h.0.0.0.0) (sym (derived_maps a)))

  maps_counter : Holds a g units.Rmap → (n : ℕ) → wanted x g RmapBlocks ≡ Some n → (x.group g).counters RmapBlocks ≡ n
  unfolding wanted
  maps_counter h n e = ap (λ (r : Group). r.counters RmapBlocks) now ∙ steady_counter left g b p unit spare RmapBlocks refl ∙ h.0.1.0 n (sym (counted Rmap) ∙ e)

  pub maps_kept : (recs : List RmapRec) → Holds a g units.Rmap → recs ≡ rmap_of x g → ((blocks : List ℕ) → (p.tree Rmap).reading ≡ Readable (rmap_of a g) blocks → ((x.group g).tree Rmap).reading ≡ Readable recs blocks)
      → IsClear x g → Holds x g units.Rmap
  maps_kept recs h is made clear =
      let were = maps_were h in (
        (((were.0, made were.0 were.1 ∙ ap (λ (rs : List RmapRec). Readable rs were.0) (is ∙ derived_maps x)), tt), (λ n e. maps_counter h n e, tt)),
        clear,
      )

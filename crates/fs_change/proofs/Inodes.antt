-- An entry leaves the inodes of chunks that it doesn't name.
use Rattle.std.proofs.Common.{◌≡◌, ℕ, ◌==◌, ◌/◌, ◌||◌, ◌++◌, Bool, true, false, cond, List, [], ◌∷◌, sym, ap, subst, refl, ◌∙◌, Option, Some, None}
use Rattle.std.proofs.lemmas.Bool.{true≢false}
use Rattle.std.specs.Prelude.{if◌then◌else◌, Result, Ok}
use Rattle.dinode_core.specs.declared.mapping.Fork.{Fork}
use Rattle.dinode_core.specs.declared.mapping.Fork.TheVariants as forks
use Rattle.dinode_core.specs.declared.mapping.ForkFault.{ForkFault}
use Rattle.dinode_core.specs.declared.mapping.Mapping.{Mapping}
use Rattle.fs_model.specs.declared.entry.Entry.{Entry}
use Rattle.fs_model.specs.declared.entry.Entry.TheVariants as entries
use Rattle.fs_model.specs.declared.entry.Extent.{Extent}
use Rattle.fs_model.specs.declared.entry.Piece.{Piece}
use Rattle.fs_model.specs.declared.entry.SharedPiece.{SharedPiece}
use Rattle.fs_model.specs.declared.unit.Unit.{Unit as ScrubUnit}
use Rattle.fs_model.specs.declared.verdict.Verdict.{Verdict}
use Rattle.geom.specs.Layout.{split_of}
use Rattle.rmap_recs.specs.Owners.{number_of}
use Rattle.rmap_recs.specs.declared.owner.Owner.TheVariants.{Inodes}
use Rattle.sblock.specs.declared.kind.Kind.{Kind}
use Rattle.fs_state.specs.Apart.{is_chunk, in_chunk, is_inode}
use Rattle.fs_state.specs.Frame.{SameFork}
use Rattle.fs_state.specs.State.{State, CoreState, ForkList}
use Rattle.fs_state.specs.declared.intent.Intent.{Intent}
use Rattle.fs_state.specs.Claims.{fork_of}
use Rattle.fs_change.proofs.Beside.{elsewhere}
use Rattle.fs_change.specs.Changes.{mapped, unmapped, converted, shared, rmap_done, ref_done, freed, taken, given, refilled, trimmed, marked, judged, reserved, released, owner_of_run, reaped, take_free, give_owner, extent_of, data_of, mapping_of, change_data, changed_fork, mark_shared, shares_blocks, freed_core, core_with, file_mode, list_chunk, chunk_extent, inodes_follow, turn, own_new, leave, block_extent}
use Rattle.fs_change.specs.Laws.{KeepsOtherInodes, changes_inode}
use Rattle.fs_change.specs.Loose.{Loosely}
use Rattle.fs_change.specs.Parts.{in_group, set_core, data_only, set_cores, stands_in, no_forks}
use Rattle.fs_change.specs.Records.{is_unwritten_at, add_mapping, take_piece}
use Rattle.fs_change.specs.Step.{Row, group_of_inode}
use Rattle.fs_change.specs.Switch.{switched, moved, unit_owner, owned_by}

-- the inode's core and forks are as they were
pub record SameInode (a x : State) (ino : ℕ) : Type 0 where
  pub core : x.core ino ≡ a.core ino
  pub fork : x.fork ino ≡ a.fork ino

first_false : (a b : Bool) → (a || b) ≡ false → a ≡ false
first_false true b h = h
first_false false b h = refl

rest_false : (a b : Bool) → (a || b) ≡ false → b ≡ false
rest_false true b h = absurd (true≢false h)
rest_false false b h = h

pub data_beside : (i : ℕ) (f : List Mapping → List Mapping) (s : State) (ino : ℕ) → (ino == i) ≡ false → (change_data i f s).fork ino ≡ s.fork ino
data_beside i f s ino h = elsewhere i (data_only (Ok (changed_fork f (fork_of s i forks.Data))) (s.fork i)) s.fork ino h

pub core_beside : (i : ℕ) (core : Option CoreState) (s : State) (ino : ℕ) → (ino == i) ≡ false → (set_core i core s).core ino ≡ s.core ino
core_beside i core s ino h = elsewhere i core s.core ino h

pub cores_beside : (g b n : ℕ) (core : Option CoreState) (s : State) (ino : ℕ) → stands_in s g b n ino ≡ false → SameInode s (set_cores g b n core s) ino
cores_beside g b n core s ino h = record { core = ap (λ x. cond x core (s.core ino)) h; fork = ap (λ x. cond x no_forks (s.fork ino)) h }

same_if : (b : Bool) (x y a : State) (ino : ℕ) → SameInode a x ino → SameInode a y ino → SameInode a (if b then x else y) ino
same_if true x y a ino h i = h
same_if false x y a ino h i = i

-- ---- rows

by_mapped : (m : Piece) (a : State) (ino : ℕ) → (ino == m.ino) ≡ false → SameInode a (mapped m a) ino
unfolding mapped
by_mapped m a ino h = record { core = refl; fork = data_beside m.ino (add_mapping a.geometry.agblklog (mapping_of a m.offset m.group m.block m.count true)) (in_group m.group (take_free [] (extent_of m)) a) ino h }

by_unmapped : (m : Piece) (a : State) (ino : ℕ) → (ino == m.ino) ≡ false → SameInode a (unmapped m a) ino
unfolding unmapped
by_unmapped m a ino h = record { core = refl; fork = data_beside m.ino (take_piece m.offset m.count) a ino h }

by_converted : (m : Piece) (a : State) (ino : ℕ) → (ino == m.ino) ≡ false → SameInode a (converted m a) ino
unfolding converted
by_converted m a ino h = same_if (is_unwritten_at m.offset (data_of a m.ino)) _ a a ino
    (record { core = refl; fork = data_beside m.ino (λ ms. add_mapping a.geometry.agblklog (mapping_of a m.offset m.group m.block m.count false) (take_piece m.offset m.count ms)) a ino h })
    (record { core = refl; fork = refl })

by_shared : (m : SharedPiece) (a : State) (ino : ℕ) → ((ino == m.from) || (ino == m.to)) ≡ false → SameInode a (shared m a) ino
unfolding shared
by_shared m a ino h =
    let add : List Mapping → List Mapping = add_mapping a.geometry.agblklog (mapping_of a m.to_offset m.group m.block m.count false) in
    let s : State = change_data m.to add a in
    let from : (ino == m.from) ≡ false = first_false (ino == m.from) (ino == m.to) h in
    let to : (ino == m.to) ≡ false = rest_false (ino == m.from) (ino == m.to) h in
    record {
      core = core_beside m.from (shares_blocks ((mark_shared m.to s).core m.from)) (mark_shared m.to s) ino from ∙ core_beside m.to (shares_blocks (s.core m.to)) s ino to;
      fork = data_beside m.to add a ino to;
    }

by_rmap : (left : List Kind) (c : ℕ) (i : Intent) (rest : List Intent) (a : State) (ino : ℕ) → SameInode a (rmap_done left c i rest a) ino
unfolding rmap_done
by_rmap left c i rest a ino = record { core = refl; fork = refl }

by_ref : (left : List Kind) (c : ℕ) (more : Bool) (e : Extent) (i : Intent) (rest : List Intent) (a : State) (ino : ℕ) → SameInode a (ref_done left c more e i rest a) ino
unfolding ref_done
by_ref left c more e i rest a ino = record { core = refl; fork = refl }

by_freed : (left : List Kind) (c : ℕ) (kept : Bool) (e : Extent) (rest : List Intent) (a : State) (ino : ℕ) → SameInode a (freed left c kept e rest a) ino
unfolding freed
by_freed left c true e rest a ino = record { core = refl; fork = refl }
by_freed left c false e rest a ino = record { core = refl; fork = refl }

-- of a new chunk's inodes there were none
by_taken : (writer own uid i : ℕ) (chunk : Option ℕ) (a : State) (ino : ℕ) → changes_inode a (entries.Taken writer own uid chunk) ino ≡ false → SameInode a (taken (group_of_inode a own) i own uid chunk a) ino
unfolding taken
by_taken writer own uid i None a ino h = record {
  core = core_beside own (Some (core_with file_mode uid)) (in_group (group_of_inode a own) (λ q. inodes_follow (a.group (group_of_inode a own)) (turn false i q)) a) ino h;
  fork = refl;
}
by_taken writer own uid i (Some b) a ino h =
    let g : ℕ = group_of_inode a own in
    let s : State = in_group g (λ p. list_chunk b (give_owner [] (number_of Inodes) (chunk_extent g b) (take_free [] (chunk_extent g b) p))) a in
    let beside : SameInode s (set_cores g b 8 (Some (core_with 0 0)) s) ino = cores_beside g b 8 (Some (core_with 0 0)) s ino (rest_false (ino == own) (stands_in a g b 8 ino) h) in
    record {
      core = core_beside own (Some (core_with file_mode uid)) (in_group g (λ q. inodes_follow (a.group g) (turn false i q)) (set_cores g b 8 (Some (core_with 0 0)) s)) ino (first_false (ino == own) (stands_in a g b 8 ino) h) ∙ beside.core;
      fork = beside.fork;
    }

by_given : (g i own : ℕ) (a : State) (ino : ℕ) → (ino == own) ≡ false → SameInode a (given g i own a) ino
unfolding given
by_given g i own a ino h = record { core = core_beside own (freed_core (a.core own)) (in_group g (λ p. inodes_follow p (turn true i p)) a) ino h; fork = refl }

by_refilled : (e : Extent) (a : State) (ino : ℕ) → SameInode a (refilled e a) ino
unfolding refilled
by_refilled e a ino = record { core = refl; fork = refl }

by_trimmed : (e : Extent) (a : State) (ino : ℕ) → SameInode a (trimmed e a) ino
unfolding trimmed
by_trimmed e a ino = record { core = refl; fork = refl }

by_marked : (g : ℕ) (k : Kind) (a : State) (ino : ℕ) → SameInode a (marked g k a) ino
unfolding marked
by_marked g k a ino = record { core = refl; fork = refl }

by_reserved : (left : List Kind) (g b : ℕ) (unit : ScrubUnit) (spare : Bool) (a : State) (ino : ℕ) → stands_in a g b 1 ino ≡ false → SameInode a (reserved left g unit b spare a) ino
unfolding reserved
by_reserved left g b unit spare a ino h =
    let s : State = in_group g (λ p. own_new left unit (block_extent g b) spare (leave left unit (block_extent g b) spare (record p { reserve = p.reserve ++ owned_by (unit_owner unit) b ∷ [] }))) a in
    let beside : SameInode s (set_cores g b 1 None s) ino = cores_beside g b 1 None s ino h in
    record { core = beside.core; fork = beside.fork }

by_released : (g : ℕ) (a : State) (ino : ℕ) → SameInode a (released g a) ino
unfolding released
by_released g a ino = record { core = refl; fork = refl }

by_judged : (g : ℕ) (unit : ScrubUnit) (verdict : Verdict) (a : State) (ino : ℕ) → SameInode a (judged g unit verdict a) ino
unfolding judged
by_judged g unit verdict a ino = record { core = refl; fork = refl }

by_switched : (g : ℕ) (unit : ScrubUnit) (blocks : Kind → List ℕ) (a : State) (ino : ℕ) → SameInode a (switched a g unit blocks) ino
unfolding switched moved
by_switched g unit blocks a ino = record { core = refl; fork = refl }

by_reaped : (left : List Kind) (owner : ℕ) (e : Extent) (a : State) (ino : ℕ) → SameInode a (reaped left owner e a) ino
unfolding reaped
by_reaped left owner e a ino = record { core = refl; fork = refl }

as_is : (a x y : State) (ino : ℕ) → x ≡ y → SameInode a y ino → SameInode a x ino
as_is a x y ino same s = subst (λ (z : State). SameInode a z ino) (sym same) s

pub decided : (a x : State) (left : List Kind) (e : Entry) → Row a left e x → (ino : ℕ) → changes_inode a e ino ≡ false → SameInode a x ino
decided a x left (entries.Mapped m) r ino h = as_is a x _ ino r.1 (by_mapped m a ino h)
decided a x left (entries.Unmapped m) r ino h = as_is a x _ ino r.1 (by_unmapped m a ino h)
decided a x left (entries.Converted m) r ino h = as_is a x _ ino r.1 (by_converted m a ino h)
decided a x left (entries.Shared m) r ino h = as_is a x _ ino r.1 (by_shared m a ino h)
decided a x left (entries.RmapDone c own g b n) r ino h = as_is a x _ ino r.6 (by_rmap left c r.0 r.1 a ino)
decided a x left (entries.RefDone c g b n more) r ino h = as_is a x _ ino r.5 (by_ref left c more (record { group = g; block = b; count = n }) r.0 r.1 a ino)
decided a x left (entries.Freed c g b n kept) r ino h = as_is a x _ ino r.6 (by_freed left c kept (record { group = g; block = b; count = n }) r.1 a ino)
decided a x left (entries.Taken writer own uid chunk) r ino h = as_is a x _ ino r.3 (by_taken writer own uid r.0 chunk a ino h)
decided a x left (entries.Given writer own) r ino h = as_is a x _ ino r.4 (by_given (group_of_inode a own) r.0 own a ino h)
decided a x left (entries.Refilled e) r ino h = as_is a x _ ino r.1 (by_refilled e a ino)
decided a x left (entries.Trimmed e) r ino h = as_is a x _ ino r.1 (by_trimmed e a ino)
decided a x left (entries.Marked g k cause) r ino h = as_is a x _ ino r.2 (by_marked g k a ino)
decided a x left (entries.Reserved g unit b spare) r ino h = as_is a x _ ino r.1 (by_reserved left g b unit spare a ino h)
decided a x left (entries.Released g unit) r ino h = as_is a x _ ino r.1 (by_released g a ino)
decided a x left (entries.Fault g unit fault) r ino h = as_is a x _ ino r.2 (by_marked g _ a ino)
decided a x left (entries.Verdict g unit verdict) r ino h = as_is a x _ ino r.1 (by_judged g unit verdict a ino)
decided a x left (entries.Switched g unit root second) r ino h = as_is a x _ ino r.4 (by_switched g unit r.0 a ino)
decided a x left (entries.Reaped e) r ino h = as_is a x _ ino r.1 (by_reaped left (owner_of_run (a.group e.group) e) e a ino)
decided a x left (entries.Reply writer line code done refused begun) r ino h = as_is a x _ ino r (record { core = refl; fork = refl })

-- ---- what is left open

pub in_same_chunk : (x b : State) → ((h u : ℕ) → is_chunk b h u ≡ is_chunk x h u) → (o : Option (ℕ × ℕ)) → in_chunk b o ≡ in_chunk x o
in_same_chunk x b same None = refl
in_same_chunk x b same (Some p) = same p.0 (p.1 / 8)

pub same_inodes : (g : ℕ) (left ks : List Kind) (a x b : State) (ino : ℕ) → Loosely g left ks a x b → is_inode b ino ≡ is_inode x ino
unfolding is_inode
same_inodes g left ks a x b ino l =
    ap (λ at. in_chunk b (split_of at (ino / 8))) l.geometry ∙ in_same_chunk x b l.inodes.chunks (split_of x.geometry (ino / 8))

pub keeps_other_inodes : KeepsOtherInodes
keeps_other_inodes a b left e s ino h is =
    let d : SameInode a s.decided ino = decided a s.decided left e s.row ino h in
    let there : is_inode s.decided ino ≡ true = sym (same_inodes _ left _ a s.decided b ino s.loosely) ∙ is in (
      s.loosely.inodes.cores ino there ∙ d.core,
      λ f. subst (λ (r : Fork → Result ForkList ForkFault). SameFork (r f) (b.fork ino f)) d.fork (s.loosely.inodes.forks ino f there),
    )

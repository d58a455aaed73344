-- What the row of a writer's entry leaves of its group: a run may join the free list or leave it, and else records change.
use Rattle.std.proofs.Common.{◌≡◌, ℕ, Bool, true, false, not, List, [], ◌++◌, filter, sym, subst, Option, Some, None}
use Rattle.std.proofs.lemmas.Bool.{true≢false}
use Rattle.fs_change.proofs.Beside.{either}
use Rattle.fs_change.proofs.Trees.{in_itself}
use Rattle.fs_change.specs.Changes.{change_count, changes_count, chunk_extent, converted, data_of, do_mapping, extent_of, freed, give_free, give_owner, given, inode_counter, inodes_follow, is_in_extent, list_chunk, make_chunk, mapped, new_count, plain_run, ref_done, refilled, rmap_done, shared, take_free, take_owner, taken, trimmed, turn, unmapped}
use Rattle.fs_change.specs.Parts.{edit, in_group, records_in}
use Rattle.fs_change.specs.Records.{give_mapping, give_span, is_unwritten_at, set_count, take_mapping, take_span}
use Rattle.fs_change.specs.Step.{Row, group_of_entry, group_of_inode}
use Rattle.fs_state.specs.Lists.{numbers}
use Rattle.fs_model.specs.declared.entry.Entry.{Entry}
use Rattle.fs_model.specs.declared.entry.Entry.TheVariants as entries
use Rattle.fs_model.specs.declared.entry.Extent.{Extent}
use Rattle.fs_model.specs.declared.entry.Piece.{Piece}
use Rattle.fs_model.specs.declared.entry.SharedPiece.{SharedPiece}
use Rattle.fs_state.specs.State.{Group, State}
use Rattle.fs_state.specs.declared.intent.Intent.{Intent}
use Rattle.law_repairs.specs.Letter.Known.{is_of_repair}
use Rattle.rmap_recs.specs.Owners.{number_of}
use Rattle.rmap_recs.specs.declared.owner.Owner.TheVariants.{Ag, Inodes}
use Rattle.sblock.specs.declared.kind.Kind.{Kind}
use Rattle.sblock.specs.declared.kind.Kind.TheVariants.{Rmap, Refc}
use Rattle.law_repairs.proofs.Memory.Edits.{Stays, both, chunk_stays, edit_stays, itself, one_of, recounted, space_stays, turn_stays}

-- the group with the entry's run on its list, or off it
abbrev pub with_list : Entry → Group → Group
with_list (entries.Refilled e) p = record p { free_list = p.free_list ++ numbers e.block e.count }
with_list (entries.Trimmed e) p = record p { free_list = filter (λ b. not (is_in_extent e b)) p.free_list }
with_list e p = p

in_own : (p : Group) (g : ℕ) (f : Group → Group) (a : State) → Stays p (f (a.group g)) → Stays p ((in_group g f a).group g)
in_own p g f a s = subst (Stays p) (sym (in_itself g f a)) s

-- ---- pieces of files

by_mapped : (m : Piece) (a : State) → Stays (a.group m.group) ((mapped m a).group m.group)
unfolding mapped
by_mapped m a = in_own (a.group m.group) m.group (take_free [] (extent_of m)) a (space_stays take_span [] (extent_of m) (a.group m.group))

by_unmapped : (m : Piece) (a : State) → Stays (a.group m.group) ((unmapped m a).group m.group)
unfolding unmapped
by_unmapped m a = itself (a.group m.group)

by_converted : (m : Piece) (a : State) → Stays (a.group m.group) ((converted m a).group m.group)
unfolding converted
by_converted m a = either (λ (s : State). Stays (a.group m.group) (s.group m.group)) (is_unwritten_at m.offset (data_of a m.ino)) _ a (itself (a.group m.group)) (itself (a.group m.group))

by_shared : (m : SharedPiece) (a : State) → Stays (a.group m.group) ((shared m a).group m.group)
unfolding shared
by_shared m a = itself (a.group m.group)

-- ---- steps of chains

by_rmap : (left : List Kind) (c g : ℕ) (i : Intent) (rest : List Intent) (a : State) → i.group ≡ g → Stays (a.group g) ((rmap_done left c i rest a).group g)
unfolding rmap_done
by_rmap left c g i rest a at =
    let f : Group → Group = edit left Rmap (do_mapping i.kind i) in
    subst (λ (h : ℕ). Stays (a.group h) ((in_group i.group f a).group h)) at (in_own (a.group i.group) i.group f a (edit_stays left Rmap (do_mapping i.kind i) (a.group i.group)))

by_ref : (left : List Kind) (c : ℕ) (more : Bool) (e : Extent) (i : Intent) (rest : List Intent) (a : State) → Stays (a.group e.group) ((ref_done left c more e i rest a).group e.group)
unfolding ref_done
by_ref left c more e i rest a =
    let p : Group = a.group e.group in
    in_own p e.group (change_count left more e) a
    (one_of (changes_count more (records_in p Refc) e.block) p (edit left Refc (λ recs. set_count e.block e.count (new_count more recs e.block) recs) p) p (edit_stays left Refc (λ recs. set_count e.block e.count (new_count more recs e.block) recs) p) (itself p))

by_freed : (left : List Kind) (c : ℕ) (kept : Bool) (e : Extent) (rest : List Intent) (a : State) → Stays (a.group e.group) ((freed left c kept e rest a).group e.group)
unfolding freed
by_freed left c true e rest a = itself (a.group e.group)
by_freed left c false e rest a = in_own (a.group e.group) e.group (give_free left e) a (space_stays give_span left e (a.group e.group))

-- ---- inodes

made : (g b : ℕ) (p : Group) → Stays p (list_chunk b (give_owner [] (number_of Inodes) (chunk_extent g b) (take_free [] (chunk_extent g b) p)))
made g b p =
    let q : Group = take_free [] (chunk_extent g b) p in
    let r : Group = give_owner [] (number_of Inodes) (chunk_extent g b) q in
    both p r (list_chunk b r) (both p q r (space_stays take_span [] (chunk_extent g b) p) (edit_stays [] Rmap (give_mapping (plain_run (number_of Inodes) (chunk_extent g b))) q)) (chunk_stays b r)

by_chunk : (g : ℕ) (chunk : Option ℕ) (a : State) → Stays (a.group g) ((make_chunk g chunk a).group g)
by_chunk g None a = itself (a.group g)
by_chunk g (Some b) a = in_own (a.group g) g (λ p. list_chunk b (give_owner [] (number_of Inodes) (chunk_extent g b) (take_free [] (chunk_extent g b) p))) a (made g b (a.group g))

by_taken : (g i ino uid : ℕ) (chunk : Option ℕ) (a : State) → Stays (a.group g) ((taken g i ino uid chunk a).group g)
unfolding taken
by_taken g i ino uid chunk a =
    let m : State = make_chunk g chunk a in
    let q : Group = turn false i (m.group g) in
    in_own (a.group g) g (λ r. inodes_follow (a.group g) (turn false i r)) m
    (recounted (a.group g) q (inode_counter (a.group g) q) (both (a.group g) (m.group g) q (by_chunk g chunk a) (turn_stays false i (m.group g))))

by_given : (g i ino : ℕ) (a : State) → Stays (a.group g) ((given g i ino a).group g)
unfolding given
by_given g i ino a =
    let q : Group = turn true i (a.group g) in
    in_own (a.group g) g (λ p. inodes_follow p (turn true i p)) a (recounted (a.group g) q (inode_counter (a.group g) q) (turn_stays true i (a.group g)))

-- ---- the free list

by_refilled : (e : Extent) (a : State) → Stays (with_list (entries.Refilled e) (a.group e.group)) ((refilled e a).group e.group)
unfolding refilled
by_refilled e a =
    let p : Group = with_list (entries.Refilled e) (a.group e.group) in
    let q : Group = take_free [] e p in
    in_own p e.group (λ p. give_owner [] (number_of Ag) e (take_free [] e (record p { free_list = p.free_list ++ numbers e.block e.count }))) a
    (both p q (give_owner [] (number_of Ag) e q) (space_stays take_span [] e p) (edit_stays [] Rmap (give_mapping (plain_run (number_of Ag) e)) q))

by_trimmed : (e : Extent) (a : State) → Stays (with_list (entries.Trimmed e) (a.group e.group)) ((trimmed e a).group e.group)
unfolding trimmed
by_trimmed e a =
    let p : Group = with_list (entries.Trimmed e) (a.group e.group) in
    let q : Group = take_owner [] (number_of Ag) e p in
    in_own p e.group (λ p. give_free [] e (take_owner [] (number_of Ag) e (record p { free_list = filter (λ b. not (is_in_extent e b)) p.free_list }))) a
    (both p q (give_free [] e q) (edit_stays [] Rmap (take_mapping (plain_run (number_of Ag) e)) p) (space_stays give_span [] e q))

-- ---- all of them

as_is : (p : Group) (g : ℕ) (x y : State) → x ≡ y → Stays p (y.group g) → Stays p (x.group g)
as_is p g x y same s = subst (λ (z : State). Stays p (z.group g)) (sym same) s

pub row_stays : (a x : State) (left : List Kind) (e : Entry) → is_of_repair e ≡ false → Row a left e x → Stays (with_list e (a.group (group_of_entry a e))) (x.group (group_of_entry a e))
row_stays a x left (entries.Mapped m) writer r = as_is (a.group m.group) m.group x (mapped m a) r.1 (by_mapped m a)
row_stays a x left (entries.Unmapped m) writer r = as_is (a.group m.group) m.group x (unmapped m a) r.1 (by_unmapped m a)
row_stays a x left (entries.Converted m) writer r = as_is (a.group m.group) m.group x (converted m a) r.1 (by_converted m a)
row_stays a x left (entries.Shared m) writer r = as_is (a.group m.group) m.group x (shared m a) r.1 (by_shared m a)
row_stays a x left (entries.RmapDone c ino g b n) writer r = as_is (a.group g) g x (rmap_done left c r.0 r.1 a) r.6 (by_rmap left c g r.0 r.1 a r.2.group)
row_stays a x left (entries.RefDone c g b n more) writer r = as_is (a.group g) g x _ r.5 (by_ref left c more (record { group = g; block = b; count = n }) r.0 r.1 a)
row_stays a x left (entries.Freed c g b n kept) writer r = as_is (a.group g) g x _ r.6 (by_freed left c kept (record { group = g; block = b; count = n }) r.1 a)
row_stays a x left (entries.Taken writer ino uid chunk) w r = as_is (a.group (group_of_inode a ino)) (group_of_inode a ino) x _ r.3 (by_taken (group_of_inode a ino) r.0 ino uid chunk a)
row_stays a x left (entries.Given writer ino) w r = as_is (a.group (group_of_inode a ino)) (group_of_inode a ino) x _ r.4 (by_given (group_of_inode a ino) r.0 ino a)
row_stays a x left (entries.Refilled e) writer r = as_is (with_list (entries.Refilled e) (a.group e.group)) e.group x (refilled e a) r.1 (by_refilled e a)
row_stays a x left (entries.Trimmed e) writer r = as_is (with_list (entries.Trimmed e) (a.group e.group)) e.group x (trimmed e a) r.1 (by_trimmed e a)
row_stays a x left e writer r = absurd (true≢false writer)

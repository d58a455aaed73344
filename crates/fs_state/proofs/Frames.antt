-- What isn't touched is as it was.
use Rattle.std.proofs.Common.{◌≡◌, ℕ, Bool, true, false, List, Option, Some, None, Result, Ok, Err, is_ok, refl, ap, sym, ◌∙◌, inl, inr}
use Rattle.std.specs.Prelude.{◌%◌, ◌==◌, ◌/◌, ◌⊎◌, ◌<◌, if◌then◌else◌}
use Rattle.geom.specs.Apart.{Splits}
use Rattle.geom.specs.Layout.{Layout, device_block_of, split_of}
use Rattle.sblock.specs.declared.kind.Kind.{Kind}
use Rattle.dinode_core.specs.declared.mapping.Fork.{Fork}
use Rattle.dinode_core.specs.declared.mapping.ForkFault.{ForkFault}
use Rattle.dinode_core.specs.Core.{core_of}
use Rattle.dinode_core.specs.Frame.{device_at, fork_in}
use Rattle.dinode_core.specs.ForkTree.{is_fork_block}
use Rattle.fs_state.specs.Apart.{ListOf, Part, HeadsOf, TreeOf, ForkTreeOf, Has, is_inode}
use Rattle.fs_state.specs.Frame.{Frame, FrameLaw, Rest, SameFork, Firm}
use Rattle.fs_state.specs.Inodes.{slot_in, fork_by, no_fork}
use Rattle.fs_state.specs.Kinds.{Image, heads_of, heads_in}
use Rattle.fs_state.specs.Read.{reserved, state_of, group_of, reading_of, counter_in, core_of_ino, fork_of_ino, fork_in_chunk, inode_bytes}
use Rattle.fs_state.specs.State.{Kept, CoreState, Broken, Whole, Inode, ForkList}
use Rattle.fs_state.proofs.Chunks.{chunks_stay, bare_stays, chunk_slot, not_reserved, inode_stands}
use Rattle.fs_state.proofs.Cores.{core_stays, core_raw, raw_stays, bytes_same}
use Rattle.dinode_core.proofs.ForkFrame.{fork_stays, fork_fails}
use Rattle.fs_state.proofs.Spoken.{spoken}
use Rattle.fs_state.proofs.Trees.{reading_stays}
use Rattle.fs_state.proofs.Untouched.{untouched}

same_refl : (r : Result ForkList ForkFault) → SameFork r r
same_refl (Ok list) = refl
same_refl (Err e) = refl

pub same_by : (r now : Result ForkList ForkFault) → ((list : ForkList) → r ≡ Ok list → now ≡ Ok list) → ((e : ForkFault) → r ≡ Err e → is_ok now ≡ false) → SameFork r now
same_by (Ok list) now ok err = ok list refl
same_by (Err e) now ok err = err e refl

same_if : (t : Bool) (x y z : Result ForkList ForkFault) → (t ≡ false → SameFork x y) → SameFork (if t then z else x) (if t then z else y)
same_if true x y z h = same_refl z
same_if false x y z h = h refl

by_same : (at : Layout) (image image' : Image) (ino : ℕ) (f : Fork) (core : Option CoreState) (bytes : Option (List ℕ)) → ((inode : Inode) (b : List ℕ) → core ≡ Some (Whole inode) → bytes ≡ Some b → (inode.mode == 0) ≡ false → SameFork (fork_in at image (core_of b) f) (fork_in at image' (core_of b) f)) → SameFork (fork_by at image ino f core bytes) (fork_by at image' ino f core bytes)
by_same at image image' ino f None bytes h = refl
by_same at image image' ino f (Some (Broken e)) bytes h = refl
by_same at image image' ino f (Some (Whole inode)) None h = refl
by_same at image image' ino f (Some (Whole inode)) (Some b) h = same_if (inode.mode == 0) (fork_in at image (core_of b) f) (fork_in at image' (core_of b) f) (Ok no_fork) (λ e. h inode b refl refl e)

module _ (at : Layout) (image image' : Image) (kept kept' : Kept) (touches : Part → Bool) (edits : ℕ → Bool) (splits : Splits at) (firm : Firm at image kept) (frame : Frame at image image' kept kept' touches edits) where
  stay : (c : Part) → touches c ≡ false → (d : ℕ) → Has (state_of at image kept) c d → image' d ≡ image d
  stay c off d has = untouched (state_of at image kept) image image' touches firm.apart frame.fates c off d has

  heads_stay : (g : ℕ) → g < at.agcount → touches (HeadsOf g) ≡ false → heads_of at image' g ≡ heads_of at image g
  heads_stay g lt off =
      ap heads_in (stay (HeadsOf g) off (device_block_of at g 0) (record { inside = lt; block = 0; holds = refl; place = refl }))

  tree_stays : (g : ℕ) (k : Kind) → g < at.agcount → touches (TreeOf g k) ≡ false → (group_of at image' kept' g).tree k ≡ (group_of at image kept g).tree k
  unfolding group_of
  tree_stays g k lt off =
      let read : reading_of at image' kept' g k ≡ reading_of at image kept g k = reading_stays at image image' kept kept' g k (frame.kept_stays.bad g k off) (firm.keeps g k lt) (frame.roots g k lt off).0 (frame.roots g k lt off).1 (λ p i. stay (TreeOf g k) off (device_block_of at g p) (record { inside = lt; block = p; holds = i; place = refl })) in
      rw (read, frame.kept_stays.trust g k off) refl

  core_same : (ino d : ℕ) → device_at at (split_of at (ino / 8)) ≡ Some d → image' d ≡ image d → reserved kept' (split_of at (ino / 8)) ≡ reserved kept (split_of at (ino / 8)) → core_of_ino at image' kept' ino ≡ core_of_ino at image kept ino
  core_same ino d place same res =
      core_stays at image image' kept kept' ino res (bytes_same at image image' ino (split_of at (ino / 8)) d place (ap (λ b. slot_in b (ino % 8)) same))

  inode_same : (ino : ℕ) → is_inode (state_of at image kept) ino ≡ true → edits ino ≡ false → (core_of_ino at image' kept' ino ≡ core_of_ino at image kept ino) × (inode_bytes at image' ino ≡ inode_bytes at image ino)
  inode_same ino h off =
      let x = inode_stands at image image' kept kept' touches edits splits firm frame ino h in
      let bytes : inode_bytes at image' ino ≡ inode_bytes at image ino = bytes_same at image image' ino (split_of at (ino / 8)) x.device x.place (chunk_slot at image image' kept kept' touches edits splits firm frame ino x.device x.place x.has off) in
      let now : reserved kept' (split_of at (ino / 8)) ≡ false = rw x.split (not_reserved at image image' kept kept' touches edits splits firm frame x.group x.block x.inside x.has_here) in
      (core_raw at image' kept' ino now ∙ raw_stays at image image' ino bytes ∙ sym (core_raw at image kept ino x.unreserved), bytes)

  fork_alike : (d : ℕ) → (image' d ≡ image d) ⊎ (is_fork_block (image' d) ≡ false)
  fork_alike d = elim (frame.alien d) [ inl same ↦ inl same | inr other ↦ inr other.no_fork ]

  fork_is : (ino : ℕ) (f : Fork) (inode : Inode) (b : List ℕ) (list : ForkList) → core_of_ino at image kept ino ≡ Some (Whole inode) → inode_bytes at image ino ≡ Some b → (inode.mode == 0) ≡ false → fork_in at image (core_of b) f ≡ Ok list → fork_of_ino at image kept ino f ≡ Ok list
  unfolding fork_of_ino
  fork_is ino f inode b list core bytes mode h = rw (core, bytes, mode) h

  leads_same : (ino : ℕ) (f : Fork) → is_inode (state_of at image kept) ino ≡ true → edits ino ≡ false → touches (ForkTreeOf ino f) ≡ false → SameFork (fork_of_ino at image kept ino f) (fork_of_ino at image' kept' ino f)
  unfolding fork_of_ino
  leads_same ino f h kept_as off =
      let same = inode_same ino h kept_as in
      rw (same.0, same.1) (by_same at image image' ino f (core_of_ino at image kept ino) (inode_bytes at image ino) (λ inode b core bytes mode.
      same_by (fork_in at image (core_of b) f) (fork_in at image' (core_of b) f) (λ list ok. fork_stays at (core_of b) image image' f list ok (λ d l. stay (ForkTreeOf ino f) off d (record { inode = h; block = rw (spoken at image kept ino f h ∙ fork_is ino f inode b list core bytes mode ok) l }))) (λ e err. fork_fails at (core_of b) image image' fork_alike f e err)))

  fork_same : (ino : ℕ) (f : Fork) → is_inode (state_of at image kept) ino ≡ true → is_inode (state_of at image' kept') ino ≡ true → edits ino ≡ false → touches (ForkTreeOf ino f) ≡ false
      → SameFork (fork_in_chunk at image kept ino f) (fork_in_chunk at image' kept' ino f)
  fork_same ino f h still kept_as off = rw (spoken at image kept ino f h, spoken at image' kept' ino f still) (leads_same ino f h kept_as off)

  lists_stay : (g : ℕ) → g < at.agcount → touches (ListOf g) ≡ false → (group_of at image' kept' g).free_list ≡ (group_of at image kept g).free_list
  unfolding group_of
  lists_stay g lt off = frame.lists g lt off

  counters_stay : (g : ℕ) → g < at.agcount → touches (HeadsOf g) ≡ false → (group_of at image' kept' g).counters ≡ (group_of at image kept g).counters
  unfolding group_of
  counters_stay g lt off = ap counter_in (heads_stay g lt off)

  all_rest : Rest at (state_of at image kept) (state_of at image' kept') image image' kept kept' touches edits
  unfolding group_of
  all_rest = record {
    lists = lists_stay;
    counters = counters_stay;
    trees = tree_stays;
    reserves = frame.kept_stays.reserve;
    limbos = frame.kept_stays.limbo;
    cores = core_same;
    inodes = λ ino h off. (inode_same ino h off).0;
    forks = fork_same;
    chunks = chunks_stay at image image' kept kept' touches edits splits firm frame;
    bare = bare_stays at image image' kept kept' touches edits splits firm frame;
  }

pub frame_law_lem : FrameLaw
frame_law_lem at image image' kept kept' touches edits splits firm frame = all_rest at image image' kept kept' touches edits splits firm frame

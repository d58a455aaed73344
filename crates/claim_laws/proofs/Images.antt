-- The forks of an image that can be read are good.
use Rattle.std.proofs.Common.{◌≡◌, ℕ, ◌==◌, Bool, true, false, List, Option, Some, None, Result, Ok, Err, refl, subst}
use Rattle.std.specs.Prelude.{if◌then◌else◌}
use Rattle.dinode_core.specs.Core.{core_of}
use Rattle.dinode_core.specs.ForkTree.{block_fault, fork_fault, has_number, met_of, walk_fault}
use Rattle.dinode_core.specs.Frame.{fork_in, list_of, list_or}
use Rattle.dinode_core.specs.Inline.{first_bad, form_fault, or_else}
use Rattle.dinode_core.specs.declared.inode.Core3.{Core3}
use Rattle.dinode_core.specs.declared.mapping.Fork.{Fork}
use Rattle.dinode_core.specs.declared.mapping.ForkFault.{ForkFault}
use Rattle.dinode_core.specs.declared.mapping.ForkFault.TheVariants as faults
use Rattle.fs_state.specs.Apart.{is_inode}
use Rattle.fs_state.specs.Inodes.{fork_by, no_fork}
use Rattle.fs_state.specs.Kinds.{Image}
use Rattle.fs_state.specs.Read.{core_of_ino, fork_in_chunk, fork_of_ino, inode_bytes, without_forks}
use Rattle.fs_state.specs.State.{Broken, CoreState, ForkList, Kept, Whole}
use Rattle.geom.specs.Layout.{Layout}
use Rattle.claim_laws.specs.Whole.{ForksAreGood}

abbrev Read : Type 0
Read = Result ForkList ForkFault

ok_same : (x y : ForkList) → ◌≡◌ {A = Read} (Ok x) (Ok y) → x ≡ y
ok_same x y e = cc

err_ok : (f : ForkFault) (y : ForkList) → ◌≡◌ {A = Read} (Err f) (Ok y) → ⊥
err_ok f y e = cc

some_none : (f : ForkFault) → ◌≡◌ {A = Option ForkFault} (Some f) None → ⊥
some_none f e = cc

first_none : (o p : Option ForkFault) → or_else o p ≡ None → o ≡ None
first_none None p h = refl
first_none (Some f) p h = absurd (some_none f h)

second_none : (o p : Option ForkFault) → or_else o p ≡ None → p ≡ None
second_none None p h = h
second_none (Some f) p h = absurd (some_none f h)

no_mappings : (at : Layout) (f : Fork) (list : ForkList) → ◌≡◌ {A = Read} (Ok no_fork) (Ok list) → first_bad at f list.mappings ≡ None
unfolding first_bad
no_mappings at f list e = subst (λ (x : ForkList). first_bad at f x.mappings ≡ None) (ok_same no_fork list e) refl

in_list : (at : Layout) (f : Fork) (fault : Option ForkFault) (met list : ForkList) → (fault ≡ None → first_bad at f met.mappings ≡ None) → list_or fault met ≡ Ok list → first_bad at f list.mappings ≡ None
in_list at f None met list h e = subst (λ (x : ForkList). first_bad at f x.mappings ≡ None) (ok_same met list e) (h refl)
in_list at f (Some fault) met list h e = absurd (err_ok fault list e)

in_fork : (at : Layout) (image : Image) (core : Core3) (f : Fork) (list : ForkList) → fork_in at image core f ≡ Ok list → first_bad at f list.mappings ≡ None
unfolding fork_in fork_fault walk_fault
in_fork at image core f list e = in_list at f (fork_fault at image core f) (list_of (met_of at image core f)) list (λ none.
    let walked = first_none (walk_fault at image core f) (if has_number at image core f then None else Some faults.Count) none in
    let mapped = second_none (form_fault core f) (or_else (first_bad at f (met_of at image core f).mappings) (block_fault (met_of at image core f).whole)) walked in
    first_none (first_bad at f (met_of at image core f).mappings) (block_fault (met_of at image core f).whole) mapped) e

in_mode : (at : Layout) (image : Image) (core : Core3) (f : Fork) (b : Bool) (list : ForkList) → (if b then Ok no_fork else fork_in at image core f) ≡ Ok list → first_bad at f list.mappings ≡ None
in_mode at image core f true list e = no_mappings at f list e
in_mode at image core f false list e = in_fork at image core f list e

by_core : (at : Layout) (image : Image) (ino : ℕ) (f : Fork) (core : Option CoreState) (bytes : Option (List ℕ)) (list : ForkList) → fork_by at image ino f core bytes ≡ Ok list → first_bad at f list.mappings ≡ None
by_core at image ino f None bytes list e = no_mappings at f list e
by_core at image ino f (Some (Broken fault)) bytes list e = no_mappings at f list e
by_core at image ino f (Some (Whole inode)) None list e = no_mappings at f list e
by_core at image ino f (Some (Whole inode)) (Some bytes) list e = in_mode at image (core_of bytes) f (inode.mode == 0) list e

in_chunk : (at : Layout) (image : Image) (kept : Kept) (ino : ℕ) (f : Fork) (b : Bool) (list : ForkList) → (if b then fork_of_ino at image kept ino f else Ok no_fork) ≡ Ok list → first_bad at f list.mappings ≡ None
unfolding fork_of_ino
in_chunk at image kept ino f true list e = by_core at image ino f (core_of_ino at image kept ino) (inode_bytes at image ino) list e
in_chunk at image kept ino f false list e = no_mappings at f list e

pub good_forks_lem : ForksAreGood
unfolding fork_in_chunk
good_forks_lem at image kept ino f list e = in_chunk at image kept ino f (is_inode (without_forks at image kept) ino) list e

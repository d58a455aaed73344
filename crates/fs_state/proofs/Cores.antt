-- Cores in two images.
use Rattle.std.proofs.Common.{◌≡◌, ℕ, ◌<◌, Bool, true, false, List, [], ◌∷◌, Option, Some, None, refl, ap, sym, subst, inl, inr}
use Rattle.std.specs.Prelude.{◌==◌, ◌/◌, ◌%◌}
use Rattle.std.specs.List.{list_any}
use Rattle.std.proofs.lemmas.Bool.{false≢true, eqb-true, or_cases}
use Rattle.byte_fields.specs.Fields.{field}
use Rattle.geom.specs.Layout.{Layout, device_block_of, split_of}
use Rattle.dinode_core.specs.Core.{core_fault}
use Rattle.dinode_core.specs.Frame.{device_at}
use Rattle.fs_state.specs.Apart.{InOwned, ChunkAt, Has, is_chunk, in_chunk, verifies}
use Rattle.fs_state.specs.Inodes.{slot_in, bytes_at, core_in}
use Rattle.fs_state.specs.Kinds.{Image}
use Rattle.fs_state.specs.Read.{state_of, raw_of, reserved, core_or, core_of_ino, inode_bytes}
use Rattle.fs_state.specs.State.{Owned, State, Kept}

some_is : {A : Type 0} (x y : A) → ◌≡◌ {A = Option A} (Some x) (Some y) → x ≡ y
some_is x y e = cc

no_some : {A : Type 0} (y : A) → ◌≡◌ {A = Option A} None (Some y) → ⊥
no_some y e = cc

-- the bytes of an inode whose slot stays
pub bytes_same : (at : Layout) (image image' : Image) (ino : ℕ) (place : Option (ℕ × ℕ)) (d : ℕ) → device_at at place ≡ Some d → slot_in (image' d) (ino % 8) ≡ slot_in (image d) (ino % 8) → bytes_at at image' ino place ≡ bytes_at at image ino place
bytes_same at image image' ino None d e same = absurd (no_some d e)
bytes_same at image image' ino (Some p) d e same =
    let here : slot_in (image' (device_block_of at p.0 p.1)) (ino % 8) ≡ slot_in (image (device_block_of at p.0 p.1)) (ino % 8) = subst (λ x. slot_in (image' x) (ino % 8) ≡ slot_in (image x) (ino % 8)) (sym (some_is (device_block_of at p.0 p.1) d e)) same in
    ap {B = Option (List ℕ)} Some here

pub core_stays : (at : Layout) (image image' : Image) (kept kept' : Kept) (ino : ℕ) → reserved kept' (split_of at (ino / 8)) ≡ reserved kept (split_of at (ino / 8)) → inode_bytes at image' ino ≡ inode_bytes at image ino → core_of_ino at image' kept' ino ≡ core_of_ino at image kept ino
unfolding core_of_ino
core_stays at image image' kept kept' ino res same = rw (same, res) refl

pub raw_stays : (at : Layout) (image image' : Image) (ino : ℕ) → inode_bytes at image' ino ≡ inode_bytes at image ino → raw_of at image' ino ≡ raw_of at image ino
unfolding raw_of
raw_stays at image image' ino same = rw same refl

pub core_raw : (at : Layout) (image : Image) (kept : Kept) (ino : ℕ) → reserved kept (split_of at (ino / 8)) ≡ false → core_of_ino at image kept ino ≡ raw_of at image ino
unfolding core_of_ino raw_of
core_raw at image kept ino res = rw res refl

unreserved_or : (at : Layout) (ino : ℕ) (r : Bool) (o : Option (List ℕ)) → verifies (core_or at ino r o) ≡ true → r ≡ false
unreserved_or at ino false o h = refl
unreserved_or at ino true None h = absurd (false≢true h)
unreserved_or at ino true (Some bytes) h = absurd (false≢true h)

pub unreserved : (at : Layout) (image : Image) (kept : Kept) (ino : ℕ) → verifies (core_of_ino at image kept ino) ≡ true → reserved kept (split_of at (ino / 8)) ≡ false
unfolding core_of_ino
unreserved at image kept ino h = unreserved_or at ino (reserved kept (split_of at (ino / 8))) (inode_bytes at image ino) h

pub raw_edited : (at : Layout) (image : Image) (ino : ℕ) (place : Option (ℕ × ℕ)) (d : ℕ) → device_at at place ≡ Some d → verifies (Some (core_in at ino (slot_in (image d) (ino % 8)))) ≡ true → verifies (core_or at ino false (bytes_at at image ino place)) ≡ true
raw_edited at image ino None d e h = absurd (no_some d e)
raw_edited at image ino (Some p) d e h = rw (some_is (device_block_of at p.0 p.1) d e) h

pub owned_in : (p : ℕ) (os : List Owned) → list_any (λ o. o.block == p) os ≡ true → InOwned p os
owned_in p [] h = absurd (false≢true h)
owned_in p (o ∷ os) h =
    elim (or_cases (o.block == p) (list_any (λ x. x.block == p) os) h) [
      | inl e ↦ inl (eqb-true o.block p e)
      | inr t ↦ inr (owned_in p os t)
    ]

pub chunk_place : (a : State) (o : Option (ℕ × ℕ)) → in_chunk a o ≡ true → (p : ℕ × ℕ) × (o ≡ Some p) × (is_chunk a p.0 (p.1 / 8) ≡ true)
chunk_place a None h = absurd (false≢true h)
chunk_place a (Some p) h = (p, refl, h)

-- where an inode stands
pub record Stands (at : Layout) (image : Image) (kept : Kept) (ino : ℕ) : Type 0 where
  pub group : ℕ
  pub block : ℕ
  pub device : ℕ
  pub inside : group < at.agcount
  pub split : split_of at (ino / 8) ≡ Some (group, block)
  pub place : device_at at (split_of at (ino / 8)) ≡ Some device
  pub has : Has (state_of at image kept) (ChunkAt device) device
  pub has_here : Has (state_of at image kept) (ChunkAt (device_block_of at group block)) (device_block_of at group block)
  pub unreserved : reserved kept (split_of at (ino / 8)) ≡ false

verifies_or : (at : Layout) (ino : ℕ) (r : Bool) (o : Option (List ℕ)) → ((bytes : List ℕ) → o ≡ Some bytes → verifies (Some (core_in at ino bytes)) ≡ false) → verifies (core_or at ino r o) ≡ false
verifies_or at ino false (Some bytes) h = h bytes refl
verifies_or at ino true (Some bytes) h = refl
verifies_or at ino false None h = refl
verifies_or at ino true None h = refl

not_core : (at : Layout) (ino : ℕ) (bytes : List ℕ) → (field 2 bytes 0 == 0x494e) ≡ false → verifies (Some (core_in at ino bytes)) ≡ false
unfolding core_in core_fault
not_core at ino bytes h = rw h refl

-- where the block of an inode in slot 0 holds no inodes, the core doesn't verify
pub not_verified : (at : Layout) (image : Image) (ino : ℕ) (p : ℕ × ℕ) (s : ℕ) → split_of at (ino / 8) ≡ Some p → ino % 8 ≡ s → (field 2 (slot_in (image (device_block_of at p.0 p.1)) s) 0 == 0x494e) ≡ false → verifies (raw_of at image ino) ≡ false
unfolding raw_of
not_verified at image ino p s place slot h =
    rw place (verifies_or at ino false (Some (slot_in (image (device_block_of at p.0 p.1)) (ino % 8))) (λ bytes e. not_core at ino bytes (rw (sym (some_is (slot_in (image (device_block_of at p.0 p.1)) (ino % 8)) bytes e), slot) h)))

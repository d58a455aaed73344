-- Where the same units are listed, the chunks are the same.
use Rattle.std.proofs.Common.{◌≡◌, ℕ, zero, suc, ◌+◌, ◌*◌, ◌<◌, Bool, true, false, Option, Some, refl, ap, sym, ◌∙◌, inl, inr, arith}
use Rattle.std.specs.Prelude.{◌/◌, ◌%◌, ◌||◌, nat_lt}
use Rattle.std.proofs.lemmas.Bool.{false≢true, and_parts, and_from, ltb-true, both_ways, cases_Bool}
use Rattle.byte_fields.specs.Below.{all_below}
use Rattle.byte_fields.proofs.BelowLemmas.{each_below}
use Rattle.geom.specs.Apart.{Splits}
use Rattle.geom.specs.Layout.{Layout, device_block_of, fs_block_of, split_of, group_len_of}
use Rattle.dinode_core.specs.Frame.{device_at}
use Rattle.geom.specs.Layout.{inode_at}
use Rattle.fs_state.specs.Apart.{Part, ReserveOf, is_inode, ChunkAt, Has, is_chunk, is_listed, has_unit, ino_lists, rmap_lists, unit_verifies, block_verifies, verifies}
use Rattle.fs_state.specs.Frame.{Firm, Frame, UnitStays, is_chunk_part}
use Rattle.fs_state.specs.Inodes.{slot_in}
use Rattle.fs_state.specs.Kinds.{Image}
use Rattle.fs_state.specs.Read.{group_of, state_of, core_of_ino, raw_of, reserved}
use Rattle.fs_state.specs.State.{State, Kept, CoreState}
use Rattle.fs_state.proofs.Cores.{bytes_same, core_raw, raw_stays, unreserved, raw_edited, owned_in, not_verified, chunk_place, Stands}
use Rattle.fs_state.proofs.Untouched.{untouched}

pub all_same : (p q : ℕ → Bool) (n : ℕ) → ((i : ℕ) → i < n → p i ≡ q i) → all_below n p ≡ all_below n q
unfolding all_below
all_same p q zero h = refl
all_same p q (suc n) h = rw (all_same p q n (λ i lt. h i (omega arith)), h n (omega arith)) refl

all_from : (p : ℕ → Bool) (n : ℕ) → ((i : ℕ) → i < n → p i ≡ true) → all_below n p ≡ true
unfolding all_below
all_from p zero h = refl
all_from p (suc n) h = and_from (all_below n p) (p n) (all_from p n (λ i lt. h i (omega arith))) (h n (omega arith))

pub bool_eq : (x y : Bool) → (x ≡ true → y ≡ true) → (y ≡ true → x ≡ true) → x ≡ y
bool_eq true y to from = sym (to refl)
bool_eq false true to from = from refl
bool_eq false false to from = refl

module _ (at : Layout) (image image' : Image) (kept kept' : Kept) (touches : Part → Bool) (edits : ℕ → Bool) (splits : Splits at) (firm : Firm at image kept) (frame : Frame at image image' kept kept' touches edits) where
  place_is : (g b s : ℕ) → g < at.agcount → b < group_len_of at g → s < 8 → split_of at (inode_at at g b s / 8) ≡ Some (g, b)
  place_is g b s gl bl sl =
      let e : inode_at at g b s / 8 ≡ fs_block_of at g b = omega arith in
      rw e (splits g b gl bl)

  -- in a block of a chunk
  pub chunk_slot : (ino d : ℕ) → device_at at (split_of at (ino / 8)) ≡ Some d → Has (state_of at image kept) (ChunkAt d) d → edits ino ≡ false → slot_in (image' d) (ino % 8) ≡ slot_in (image d) (ino % 8)
  chunk_slot ino d place has off =
      elim (cases_Bool (touches (ChunkAt d))) [
        | inl on ↦ frame.slots ino d place on off
        | inr no_touch ↦ ap (λ b. slot_in b (ino % 8)) (untouched (state_of at image kept) image image' touches firm.apart frame.fates (ChunkAt d) no_touch d has)
      ]

  chunk_raw : (ino d : ℕ) → device_at at (split_of at (ino / 8)) ≡ Some d → Has (state_of at image kept) (ChunkAt d) d → verifies (raw_of at image ino) ≡ true → verifies (raw_of at image' ino) ≡ true
  unfolding raw_of
  chunk_raw ino d place has h =
      elim (cases_Bool (touches (ChunkAt d))) [
        | inr no_touch ↦ ap verifies (raw_stays at image image' ino (bytes_same at image image' ino (split_of at (ino / 8)) d place (ap (λ b. slot_in b (ino % 8)) (untouched (state_of at image kept) image image' touches firm.apart frame.fates (ChunkAt d) no_touch d has)))) ∙ h
        | inl on ↦ elim (cases_Bool (edits ino)) [
          | inl edit ↦ raw_edited at image' ino (split_of at (ino / 8)) d place (frame.edited ino d place on edit)
          | inr off ↦ ap verifies (raw_stays at image image' ino (bytes_same at image image' ino (split_of at (ino / 8)) d place (frame.slots ino d place on off))) ∙ h
        ]
      ]

  -- a block of a chunk isn't reserved now
  pub not_reserved : (g b : ℕ) → g < at.agcount → Has (state_of at image kept) (ChunkAt (device_block_of at g b)) (device_block_of at g b) → reserved kept' (Some (g, b)) ≡ false
  not_reserved g b lt has =
      elim (cases_Bool (reserved kept' (Some (g, b)))) [
        | inr off ↦ off
        | inl on ↦ elim (frame.kept_stays.came g b lt (owned_in b (kept'.reserve g) on)) [
          | inl z ↦ absurd (false≢true (sym z.1 ∙ ap is_chunk_part (sym (firm.apart (ChunkAt (device_block_of at g b)) z.0 (device_block_of at g b) has z.2))))
          | inr none ↦ absurd (none (ChunkAt (device_block_of at g b)) has)
        ]
      ]

  unit_parts : (a : State) (g u : ℕ) → is_listed a g u ≡ true → (g < a.geometry.agcount) × (8 * u + 7 < group_len_of a.geometry g)
  unfolding is_listed has_unit
  unit_parts a g u h =
      let x = and_parts (has_unit a.geometry g u) (ino_lists a g u || rmap_lists a g u) h in
      let y = and_parts (nat_lt g a.geometry.agcount) (nat_lt (8 * u + 7) (group_len_of a.geometry g)) x.0 in
      (ltb-true g a.geometry.agcount y.0, ltb-true (8 * u + 7) (group_len_of a.geometry g) y.1)

  unit_has : (a : State) (g u : ℕ) → is_listed a g u ≡ true → has_unit a.geometry g u ≡ true
  unfolding is_listed
  unit_has a g u h = (and_parts (has_unit a.geometry g u) (ino_lists a g u || rmap_lists a g u) h).0

  -- each inode of a unit that verifies
  each_core : (core : ℕ → Option CoreState) (g u j s : ℕ) → unit_verifies at core g u ≡ true → j < 8 → s < 8 → verifies (core (inode_at at g (8 * u + j) s)) ≡ true
  unfolding unit_verifies block_verifies
  each_core core g u j s h jl sl =
      each_below (λ i. verifies (core (inode_at at g (8 * u + j) i))) 8 s (each_below (λ i. all_below 8 (λ x. verifies (core (inode_at at g (8 * u + i) x)))) 8 j h jl) sl

  unit_from : (core : ℕ → Option CoreState) (g u : ℕ) → ((j s : ℕ) → j < 8 → s < 8 → verifies (core (inode_at at g (8 * u + j) s)) ≡ true) → unit_verifies at core g u ≡ true
  unfolding unit_verifies block_verifies
  unit_from core g u h =
      all_from (λ j. all_below 8 (λ s. verifies (core (inode_at at g (8 * u + j) s)))) 8 (λ j jl. all_from (λ s. verifies (core (inode_at at g (8 * u + j) s))) 8 (λ s sl. h j s jl sl))

  chunk_parts : (g u : ℕ) → is_chunk (state_of at image kept) g u ≡ true → (is_listed (state_of at image kept) g u ≡ true) × (unit_verifies at (core_of_ino at image kept) g u ≡ true)
  unfolding is_chunk
  chunk_parts g u h = and_parts (is_listed (state_of at image kept) g u) (unit_verifies at (core_of_ino at image kept) g u) h

  chunk_from : (g u : ℕ) → is_listed (state_of at image' kept') g u ≡ true → unit_verifies at (core_of_ino at image' kept') g u ≡ true → is_chunk (state_of at image' kept') g u ≡ true
  unfolding is_chunk
  chunk_from g u l v = and_from (is_listed (state_of at image' kept') g u) (unit_verifies at (core_of_ino at image' kept') g u) l v

  chunk_has : (g u j : ℕ) → is_chunk (state_of at image kept) g u ≡ true → j < 8 → Has (state_of at image kept) (ChunkAt (device_block_of at g (8 * u + j))) (device_block_of at g (8 * u + j))
  chunk_has g u j h jl = record { same = refl; group = g; unit = u; nth = j; one_of = jl; chunk = h; place = refl }

  raw_from_core : (ino : ℕ) → verifies (core_of_ino at image kept ino) ≡ true → verifies (raw_of at image ino) ≡ true
  raw_from_core ino h = ap verifies (sym (core_raw at image kept ino (unreserved at image kept ino h))) ∙ h

  reserve_part : (g b : ℕ) → g < at.agcount → reserved kept (Some (g, b)) ≡ true → Has (state_of at image kept) (ReserveOf g) (device_block_of at g b)
  unfolding group_of
  reserve_part g b lt on = record { inside = lt; block = b; holds = owned_in b (kept.reserve g) on; place = refl }

  not_reserved_before : (g b : ℕ) → g < at.agcount → Has (state_of at image kept) (ChunkAt (device_block_of at g b)) (device_block_of at g b) → reserved kept (Some (g, b)) ≡ false
  not_reserved_before g b lt has =
      elim (cases_Bool (reserved kept (Some (g, b)))) [
        | inr off ↦ off
        | inl on ↦ absurd (false≢true (sym (ap is_chunk_part (firm.apart (ChunkAt (device_block_of at g b)) (ReserveOf g) (device_block_of at g b) has (reserve_part g b lt on)))))
      ]

  pub inode_stands : (ino : ℕ) → is_inode (state_of at image kept) ino ≡ true → Stands at image kept ino
  unfolding is_inode
  inode_stands ino h =
      let c = chunk_place (state_of at image kept) (split_of at (ino / 8)) h in
      let p = c.0 in
      let parts : 8 * (p.1 / 8) + p.1 % 8 ≡ p.1 = omega arith in
      let lt = (unit_parts (state_of at image kept) p.0 (p.1 / 8) (chunk_parts p.0 (p.1 / 8) c.2).0).0 in
      let has : Has (state_of at image kept) (ChunkAt (device_block_of at p.0 p.1)) (device_block_of at p.0 p.1) = record { same = refl; group = p.0; unit = p.1 / 8; nth = p.1 % 8; one_of = omega arith; chunk = c.2; place = rw parts refl } in
      record {
        group = p.0;
        block = p.1;
        device = device_block_of at p.0 p.1;
        inside = lt;
        split = c.1;
        place = ap (device_at at) c.1;
        has = has;
        has_here = has;
        unreserved = ap (reserved kept) c.1 ∙ not_reserved_before p.0 p.1 lt has;
      }

  -- a chunk stays one
  chunk_after : (g u : ℕ) → is_chunk (state_of at image kept) g u ≡ true → is_listed (state_of at image' kept') g u ≡ true → is_chunk (state_of at image' kept') g u ≡ true
  chunk_after g u h listed =
      let x = chunk_parts g u h in
      let y = unit_parts (state_of at image kept) g u x.0 in
      chunk_from g u listed (unit_from (core_of_ino at image' kept') g u (λ j s jl sl.
      let ino = inode_at at g (8 * u + j) s in
      let place = place_is g (8 * u + j) s y.0 (omega arith) sl in
      let has = chunk_has g u j h jl in
      let free : reserved kept' (split_of at (ino / 8)) ≡ false = rw place (not_reserved g (8 * u + j) y.0 has) in
      ap verifies (core_raw at image' kept' ino free) ∙ chunk_raw ino (device_block_of at g (8 * u + j)) (ap (device_at at) place) has (raw_from_core ino (each_core (core_of_ino at image kept) g u j s x.1 jl sl))))

  -- a unit that verifies now was a chunk
  chunk_before : (g u : ℕ) → UnitStays (state_of at image kept) (state_of at image' kept') touches g u → is_listed (state_of at image' kept') g u ≡ true → unit_verifies at (raw_of at image') g u ≡ true → is_chunk (state_of at image kept) g u ≡ true
  chunk_before g u stays listed raw =
      let l : is_listed (state_of at image kept) g u ≡ true = stays.before listed in
      let y = unit_parts (state_of at image kept) g u l in
      firm.bare g u l (unit_from (raw_of at image) g u (λ j s jl sl.
      let ino = inode_at at g (8 * u + j) s in
      let d = device_block_of at g (8 * u + j) in
      let place = place_is g (8 * u + j) s y.0 (omega arith) sl in
      elim (cases_Bool (touches (ChunkAt d))) [
        | inl on ↦ raw_from_core ino (each_core (core_of_ino at image kept) g u j s (chunk_parts g u (stays.known j jl (unit_has (state_of at image kept) g u l) on)).1 jl sl)
        | inr off ↦ elim (frame.alien d) [
          | inl same ↦ ap verifies (sym (raw_stays at image image' ino (bytes_same at image image' ino (split_of at (ino / 8)) d (ap (device_at at) place) (ap (λ b. slot_in b (ino % 8)) same)))) ∙ each_core (raw_of at image') g u j s raw jl sl
          | inr alien ↦
              let n = alien.no_core off in
              let less = n.1 in
              let slot : inode_at at g (8 * u + j) n.0 % 8 ≡ n.0 = omega (arith, less) in
              absurd (both_ways (verifies (raw_of at image' (inode_at at g (8 * u + j) n.0))) (not_verified at image' (inode_at at g (8 * u + j) n.0) (g, 8 * u + j) n.0 (place_is g (8 * u + j) n.0 y.0 (omega arith) less) slot n.2) (each_core (raw_of at image') g u j n.0 raw jl less))
        ]
      ]))

  pub bare_stays : (g u : ℕ) → UnitStays (state_of at image kept) (state_of at image' kept') touches g u → is_listed (state_of at image' kept') g u ≡ true → unit_verifies at (raw_of at image') g u ≡ true → is_chunk (state_of at image' kept') g u ≡ true
  bare_stays g u stays listed raw = chunk_after g u (chunk_before g u stays listed raw) listed

  now_parts : (g u : ℕ) → is_chunk (state_of at image' kept') g u ≡ true → (is_listed (state_of at image' kept') g u ≡ true) × (unit_verifies at (core_of_ino at image' kept') g u ≡ true)
  unfolding is_chunk
  now_parts g u h = and_parts (is_listed (state_of at image' kept') g u) (unit_verifies at (core_of_ino at image' kept') g u) h

  pub chunks_stay : (g u : ℕ) → UnitStays (state_of at image kept) (state_of at image' kept') touches g u → is_chunk (state_of at image' kept') g u ≡ is_chunk (state_of at image kept) g u
  chunks_stay g u stays =
      bool_eq (is_chunk (state_of at image' kept') g u) (is_chunk (state_of at image kept) g u) (λ now.
      let x = now_parts g u now in
      chunk_before g u stays x.0 (unit_from (raw_of at image') g u (λ j s jl sl.
      let ino = inode_at at g (8 * u + j) s in
      let v = each_core (core_of_ino at image' kept') g u j s x.1 jl sl in
      ap verifies (sym (core_raw at image' kept' ino (unreserved at image' kept' ino v))) ∙ v))) (λ before. chunk_after g u before (stays.after before))
